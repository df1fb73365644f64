-- Records that are written and read back.
use Rattle.std.proofs.Common.{◌≡◌, ℕ, zero, suc, ◌+◌, ◌-◌, ◌*◌, ◌^◌, ◌<◌, ◌≤◌, true, false, eqb, ltb, List, [], ◌∷◌, ◌++◌, length, get_or, replicate, refl, ap, ◌∙◌, add-zero, append_assoc, arith, lit<}
use Rattle.std.specs.List.{flat_map, AllByRecursion}
use Rattle.std.proofs.ByRecursion.{All-get_or}
use Rattle.std.proofs.lemmas.List.{length-append, length-replicate, take_at, get_or_append_left, get_or-append-add, get_or-replicate}
use Rattle.std.proofs.lemmas.Bool.{ltb-false, eqb-false, ne_eqb, or_parts}
use Rattle.rules.specs.Below.{listed}
use Rattle.rules.specs.Sheet.{Currency}
use Rattle.rules.specs.Matching.{Instruction}
use Rattle.rules.specs.FileForm.{byte, four_bytes, known_kind}
use Rattle.rules.specs.FileRecords.{MemberRecord, FileStep, pay_in, clock, settle, pay_out, part, trimmed, trimmed_length, currency_from, member_from, instruction_from, step_from}
use Rattle.rules.specs.FileWriting.{number_bytes, name_bytes, currency_bytes, member_bytes, instruction_bytes, step_fields, step_bytes, name_wrong}
use Rattle.rules.specs.FileAgain.{CurrencyFits, MemberFits, InstructionFits, StepFits}
use Rattle.dayfile.proofs.Listed.{listed_is}
use Rattle.daywriter.proofs.Numbers.{length_number}
use Rattle.daywriter.proofs.Standing.{Stands, numbers_bytes, stands_left, stands_after, each_stands, stands_one, stands_two, stands_four, stands_eight, stands_nth, length_joined}

-- each short limit has four bytes
all_four : (xs : List ℕ) → AllByRecursion (λ x. length (number_bytes 4 x) ≡ 4) xs
all_four [] = tt
all_four (x ∷ xs) = (length_number 4 x, all_four xs)

pub length_currency : (c : Currency) → length c.code ≡ 3 → length (currency_bytes c) ≡ 10
unfolding currency_bytes
length_currency c h = simp (length-append, length_number) (omega arith)

pub currency_back : (f : List ℕ) (i : ℕ) (c : Currency) → length c.code ≡ 3 → CurrencyFits c → Stands f i (currency_bytes c) → currency_from f i ≡ c
unfolding currency_bytes number_bytes
currency_back f i c l fits s =
    let xs : List (ℕ × ℕ) = (1, c.instalments) ∷ (4, c.rate) ∷ (2, c.haircut) ∷ [] in
    let t : Stands f i (c.code ++ numbers_bytes xs) = simp append_assoc at s in
    let code : part f i 3 ≡ c.code = rw l at (stands_left f i c.code (numbers_bytes xs) t).1 in
    let p = each_stands f i 3 xs (stands_after 3 f i c.code (numbers_bytes xs) l t) in
    rw (code, stands_four f (i + 4) c.rate fits.1 p.1.0, stands_two f (i + 8) c.haircut fits.2 p.1.1.0, stands_one f (i + 3) c.instalments fits.0 p.0)

-- the spaces after a name are taken off, and no more
spaces_off : (s : List ℕ) (n k : ℕ) → ((j : ℕ) → j < k → byte s (n + j) ≡ 32) → trimmed_length s (n + k) ≡ trimmed_length s n
unfolding trimmed_length
spaces_off s n zero h = ap (trimmed_length s) (add-zero n)
spaces_off s n (suc k) h = let e : n + suc k ≡ suc (n + k) = omega arith in rw (e, h k (omega arith)) (spaces_off s n k (λ j l. h j (omega arith)))

no_more_off : (s : List ℕ) (n : ℕ) → (0 < n → byte s (n - 1) ≡ 32 → ⊥) → trimmed_length s n ≡ n
unfolding trimmed_length
no_more_off s zero h = refl
no_more_off s (suc n) h = let e : suc n - 1 ≡ n = omega arith in rw (ne_eqb (byte s n) 32 (rw e at (h (omega arith))))

length-name : (name : List ℕ) → length name ≤ 16 → length (name_bytes name) ≡ 16
length-name name h = simp (length-append, length-replicate) (omega arith)

name_back : (name : List ℕ) → length name ≤ 16 → (byte name (length name - 1) ≡ 32 → ⊥) → trimmed (name_bytes name) ≡ name
name_back name h e =
    let fill : List ℕ = replicate (16 - length name) 32 in
    let n = length name in
    let spaces : (j : ℕ) → j < 16 - n → byte (name ++ fill) (n + j) ≡ 32 = λ j l. get_or-append-add name fill j 0 ∙ get_or-replicate (16 - n) j 32 0 l in
    let last : 0 < n → byte (name ++ fill) (n - 1) ≡ 32 → ⊥ = λ some. rw (get_or_append_left name fill 0 (n - 1) (omega arith)) e in
    let l : length (name ++ fill) ≡ n + (16 - n) = simp (length-append, length-replicate) in
    let off : trimmed_length (name ++ fill) (length (name ++ fill)) ≡ n = rw l (spaces_off (name ++ fill) n (16 - n) spaces ∙ no_more_off (name ++ fill) n last) in
    rw off (take_at name fill n refl)

pub length_member : (m : MemberRecord) (n : ℕ) → length m.name ≤ 16 → length m.shorts ≡ n → length (member_bytes m) ≡ 24 + 4 * n
unfolding member_bytes
length_member m n h l =
    let shorts = length_joined (number_bytes 4) 4 m.shorts (all_four m.shorts) in
    let name = length-name m.name h in
    length-append (name_bytes m.name ++ number_bytes 8 m.aggregate) (flat_map (number_bytes 4) m.shorts)
    ∙ omega (arith, length-append (name_bytes m.name) (number_bytes 8 m.aggregate), length_number 8 m.aggregate)

pub member_back : (f : List ℕ) (n i : ℕ) (m : MemberRecord) → name_wrong m ≡ false → length m.shorts ≡ n → MemberFits m → Stands f i (member_bytes m) → member_from f n i ≡ m
unfolding member_bytes
member_back f n i m w l fits s =
    let named = or_parts (ltb 16 (length m.name)) (eqb (byte m.name (length m.name - 1)) 32) w in
    let short : length m.name ≤ 16 = ltb-false 16 (length m.name) named.0 in
    let x1 = name_bytes m.name in
    let x2 = number_bytes 8 m.aggregate in
    let x3 = flat_map (number_bytes 4) m.shorts in
    let l16 : length x1 ≡ 16 = length-name m.name short in
    let l24 : length (x1 ++ x2) ≡ 24 = length-append x1 x2 ∙ omega (arith, length_number 8 m.aggregate) in
    let s24 = stands_left f i (x1 ++ x2) x3 s in
    let field : part f i 16 ≡ x1 = rw l16 at (stands_left f i x1 x2 s24).1 in
    let name : trimmed (part f i 16) ≡ m.name = ap trimmed field ∙ name_back m.name short (eqb-false (byte m.name (length m.name - 1)) 32 named.1) in
    let aggregate = stands_eight f (i + 16) m.aggregate fits.0 (stands_after 16 f i x1 x2 l16 s24) in
    let after = stands_after 24 f i (x1 ++ x2) x3 l24 s in
    let shorts : listed n (λ c. four_bytes f (i + 24 + 4 * c)) ≡ m.shorts = listed_is n _ m.shorts l (λ k d b.
    stands_four f (i + 24 + 4 * k) (get_or m.shorts k d) (All-get_or (λ x. x < 2 ^ 32) m.shorts k d (omega arith) fits.1) (stands_nth (number_bytes 4) 4 f (i + 24) m.shorts (all_four m.shorts) after k d (omega arith))) in
    rw (name, aggregate, shorts)

pub length_instruction : (x : Instruction) → length (instruction_bytes x) ≡ 16
unfolding instruction_bytes number_bytes
length_instruction x = refl

pub instruction_back : (f : List ℕ) (i : ℕ) (x : Instruction) → InstructionFits x → Stands f i (instruction_bytes x) → instruction_from f i ≡ x
unfolding instruction_bytes number_bytes
instruction_back f i x fits s =
    let xs = (1, x.submitter) ∷ (1, x.counterparty) ∷ (1, x.buys) ∷ (1, x.sells) ∷ (4, x.bought) ∷ (4, x.sold) ∷ (4, x.reference) ∷ [] in
    let p = each_stands f i 0 xs (rw (add-zero i) s) in
    let submitter = rw (add-zero i) at (stands_one f (i + 0) x.submitter fits.0 p.0) in
    let counterparty = stands_one f (i + 1) x.counterparty fits.1 p.1.0 in
    let buys = stands_one f (i + 2) x.buys fits.2 p.1.1.0 in
    let sells = stands_one f (i + 3) x.sells fits.3 p.1.1.1.0 in
    let bought = stands_four f (i + 4) x.bought fits.4 p.1.1.1.1.0 in
    let sold = stands_four f (i + 8) x.sold fits.5 p.1.1.1.1.1.0 in
    let reference = stands_four f (i + 12) x.reference fits.6 p.1.1.1.1.1.1.0 in
    rw (submitter, counterparty, buys, bought, sells, sold, reference)

pub length_step : (x : FileStep) → length (step_bytes x) ≡ 8
unfolding step_bytes number_bytes
length_step (pay_in m c amount) = refl
length_step (clock hour) = refl
length_step settle = refl
length_step (pay_out m c amount) = refl

-- the five fields of a step's record
fields_back : (f : List ℕ) (i kind m c hour amount : ℕ) → kind < 2 ^ 8 → m < 2 ^ 8 → c < 2 ^ 8 → hour < 2 ^ 8 → amount < 2 ^ 32 → Stands f i (step_fields kind m c hour amount)
    → (byte f i ≡ kind) × (byte f (i + 1) ≡ m) × (byte f (i + 2) ≡ c) × (byte f (i + 3) ≡ hour) × (four_bytes f (i + 4) ≡ amount)
unfolding number_bytes
fields_back f i kind m c hour amount hk hm hc hh ha s =
    let p = each_stands f i 0 ((1, kind) ∷ (1, m) ∷ (1, c) ∷ (1, hour) ∷ (4, amount) ∷ []) (rw (add-zero i) s) in (
      rw (add-zero i) at (stands_one f (i + 0) kind hk p.0),
      stands_one f (i + 1) m hm p.1.0,
      stands_one f (i + 2) c hc p.1.1.0,
      stands_one f (i + 3) hour hh p.1.1.1.0,
      stands_four f (i + 4) amount ha p.1.1.1.1.0,
    )

-- a step is of a known kind
pub step_back : (f : List ℕ) (i : ℕ) (x : FileStep) → StepFits x → Stands f i (step_bytes x) → (step_from f i ≡ x) × (known_kind (byte f i) ≡ true)
unfolding step_bytes
step_back f i (pay_in m c amount) h s = let b = fields_back f i 1 m c 0 amount (lit< tt) h.0 h.1 (lit< tt) h.2 s in rw (b.0, b.1, b.2, b.4) (refl, refl)
step_back f i (clock hour) h s = let b = fields_back f i 2 0 0 hour 0 (lit< tt) (lit< tt) (lit< tt) h (lit< tt) s in rw (b.0, b.3) (refl, refl)
step_back f i settle h s = let b = fields_back f i 3 0 0 0 0 (lit< tt) (lit< tt) (lit< tt) (lit< tt) (lit< tt) s in rw b.0 (refl, refl)
step_back f i (pay_out m c amount) h s = let b = fields_back f i 4 m c 0 amount (lit< tt) h.0 h.1 (lit< tt) h.2 s in rw (b.0, b.1, b.2, b.4) (refl, refl)
