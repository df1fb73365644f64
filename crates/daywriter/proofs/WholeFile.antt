-- A whole file that is written and read back.
use Rattle.std.proofs.Common.{◌≡◌, ℕ, ◌+◌, ◌*◌, ◌<◌, ◌≤◌, false, List, [], ◌∷◌, ◌++◌, length, get_or, None, sym, refl, ◌∙◌, mul-le-mul, zero-add, arith}
use Rattle.std.specs.List.{flat_map, AllByRecursion}
use Rattle.std.proofs.ByRecursion.{All-get_or, All-weaker}
use Rattle.std.proofs.lemmas.List.{length-append}
use Rattle.std.proofs.lemmas.Bool.{ltb-false, le-ltb, or_parts, or_from, not_from_true, eq-eqb}
use Rattle.rules.specs.First.{first_of}
use Rattle.rules.specs.Below.{listed}
use Rattle.rules.specs.FileForm.{currencies_in, members_in, instructions_in, steps_in, step_at, length_wrong, counts_wrong, form_wrong, kind_cause, form_refusal}
use Rattle.rules.specs.FileRecords.{FileStep, settle, currency_in, member_in, instruction_in, step_in}
use Rattle.dayfile.proofs.Listed.{none_of, listed_is}
use Rattle.dayfile.proofs.Few.{few_counts}
use Rattle.rules.specs.FileWriting.{DayRecords, number_bytes, currency_bytes, member_bytes, instruction_bytes, step_bytes, count_bytes, day_bytes, name_wrong}
use Rattle.rules.specs.FileAgain.{CurrencyFits, MemberFits, InstructionFits, StepFits, Fits, WrittenReadsBack}
use Rattle.daywriter.proofs.Numbers.{length_number}
use Rattle.daywriter.proofs.Standing.{Stands, whole_stands, stands_left, stands_after, each_stands, stands_two, stands_nth, length_joined}
use Rattle.daywriter.proofs.ReadBack.{length_currency, currency_back, length_member, member_back, length_instruction, instruction_back, length_step, step_back}
use Rattle.daywriter.proofs.Faultless.{Sound, sound}

-- the counts, and where the records of each kind stand
pub record Laid (f : List ℕ) (d : DayRecords) : Type 0 where
  currencies : currencies_in f ≡ length d.currencies
  members : members_in f ≡ length d.members
  instructions : instructions_in f ≡ length d.instructions
  steps : steps_in f ≡ length d.steps
  currencies_at : Stands f 8 (flat_map currency_bytes d.currencies)
  members_at : Stands f (8 + 10 * length d.currencies) (flat_map member_bytes d.members)
  instructions_at : Stands f (8 + 10 * length d.currencies + (24 + 4 * length d.currencies) * length d.members) (flat_map instruction_bytes d.instructions)
  steps_at : Stands f (8 + 10 * length d.currencies + (24 + 4 * length d.currencies) * length d.members + 16 * length d.instructions) (flat_map step_bytes d.steps)

all_of : {A : Type 0} (P : A → Type 0) → ((x : A) → P x) → (xs : List A) → AllByRecursion P xs
all_of P h [] = tt
all_of P h (x ∷ xs) = (h x, all_of P h xs)

all_both : {A : Type 0} (P Q R : A → Type 0) → ((x : A) → P x → Q x → R x) → (xs : List A) → AllByRecursion P xs → AllByRecursion Q xs → AllByRecursion R xs
all_both P Q R h [] p q = tt
all_both P Q R h (x ∷ xs) p q = (h x p.0 q.0, all_both P Q R h xs p.1 q.1)

-- a file of these counts is not too long
room : (c m i t : ℕ) → c ≤ 24 → m ≤ 32 → i ≤ 1024 → t ≤ 2000 → 8 + 10 * c + (24 + 4 * c) * m + 16 * i + 8 * t ≤ 40000
room c m i t hc hm hi ht = let p : (24 + 4 * c) * m ≤ 120 * 32 = mul-le-mul (let q : 24 + 4 * c ≤ 120 = omega arith in q) hm in omega arith

module _ (d : DayRecords) (ok : Sound d) where
  currency_sizes : AllByRecursion (λ c. length (currency_bytes c) ≡ 10) d.currencies
  currency_sizes = All-weaker (λ c. length c.code ≡ 3) (λ c. length (currency_bytes c) ≡ 10) length_currency d.currencies ok.codes

  member_sizes : AllByRecursion (λ m. length (member_bytes m) ≡ 24 + 4 * length d.currencies) d.members
  member_sizes = all_both (λ m. name_wrong m ≡ false) (λ m. length m.shorts ≡ length d.currencies) (λ m. length (member_bytes m) ≡ 24 + 4 * length d.currencies)
      (λ m w l. length_member m (length d.currencies) (ltb-false 16 (length m.name) (or_parts _ _ w).0) l) d.members ok.names ok.shorts

  instruction_sizes : AllByRecursion (λ x. length (instruction_bytes x) ≡ 16) d.instructions
  instruction_sizes = all_of (λ x. length (instruction_bytes x) ≡ 16) length_instruction d.instructions

  step_sizes : AllByRecursion (λ x. length (step_bytes x) ≡ 8) d.steps
  step_sizes = all_of (λ x. length (step_bytes x) ≡ 8) length_step d.steps

  pub laid : (f : List ℕ) → Stands f 0 (day_bytes d) → Laid f d
  unfolding day_bytes number_bytes
  laid f s =
      let few = ok.few in
      let x0 = count_bytes d in
      let x1 = flat_map currency_bytes d.currencies in
      let x2 = flat_map member_bytes d.members in
      let x3 = flat_map instruction_bytes d.instructions in
      let x4 = flat_map step_bytes d.steps in
      let s3 = stands_left f 0 (x0 ++ x1 ++ x2 ++ x3) x4 s in
      let s2 = stands_left f 0 (x0 ++ x1 ++ x2) x3 s3 in
      let s1 = stands_left f 0 (x0 ++ x1) x2 s2 in
      let s0 = stands_left f 0 x0 x1 s1 in
      let counts = each_stands f 0 0 ((2, length d.currencies) ∷ (2, length d.members) ∷ (2, length d.instructions) ∷ (2, length d.steps) ∷ []) s0 in
      let e0 : length x0 ≡ 8 = refl in
      let k1 = length_joined currency_bytes 10 d.currencies currency_sizes in
      let k2 = length_joined member_bytes (24 + 4 * length d.currencies) d.members member_sizes in
      let k3 = length_joined instruction_bytes 16 d.instructions instruction_sizes in
      let at1 = 8 + 10 * length d.currencies in
      let at2 = at1 + (24 + 4 * length d.currencies) * length d.members in
      let at3 = at2 + 16 * length d.instructions in
      let e1 : length (x0 ++ x1) ≡ at1 = length-append x0 x1 ∙ omega arith in
      let e2 : length (x0 ++ x1 ++ x2) ≡ at2 = length-append (x0 ++ x1) x2 ∙ rw (e1, k2) in
      let e3 : length (x0 ++ x1 ++ x2 ++ x3) ≡ at3 = length-append (x0 ++ x1 ++ x2) x3 ∙ rw (e2, k3) in
      record {
        currencies = stands_two f 0 (length d.currencies) (omega arith) counts.0;
        members = stands_two f 2 (length d.members) (omega arith) counts.1.0;
        instructions = stands_two f 4 (length d.instructions) (omega arith) counts.1.1.0;
        steps = stands_two f 6 (length d.steps) (omega arith) counts.1.1.1.0;
        currencies_at = stands_after 8 f 0 x0 x1 e0 s1;
        members_at = rw (zero-add at1) at (stands_after at1 f 0 (x0 ++ x1) x2 e1 s2);
        instructions_at = rw (zero-add at2) at (stands_after at2 f 0 (x0 ++ x1 ++ x2) x3 e2 s3);
        steps_at = rw (zero-add at3) at (stands_after at3 f 0 (x0 ++ x1 ++ x2 ++ x3) x4 e3 s);
      }

  -- the records of each kind
  module _ (fits : Fits d) (f : List ℕ) (s : Stands f 0 (day_bytes d)) where
    currencies_back : listed (currencies_in f) (currency_in f) ≡ d.currencies
    unfolding currency_in
    currencies_back =
        let at = laid f s in
        listed_is (currencies_in f) (currency_in f) d.currencies (sym at.currencies)
        (λ k c b. let in' : k < length d.currencies = omega arith in
        currency_back f (8 + 10 * k) (get_or d.currencies k c) (All-get_or (λ c. length c.code ≡ 3) d.currencies k c in' ok.codes) (All-get_or CurrencyFits d.currencies k c in' fits.currencies)
        (stands_nth currency_bytes 10 f 8 d.currencies currency_sizes at.currencies_at k c in'))

    members_back : listed (members_in f) (member_in f) ≡ d.members
    unfolding member_in
    members_back =
        let at = laid f s in
        listed_is (members_in f) (member_in f) d.members (sym at.members)
        (λ k m b. let in' : k < length d.members = omega arith in
        rw at.currencies
        (member_back f (length d.currencies) (8 + 10 * length d.currencies + (24 + 4 * length d.currencies) * k) (get_or d.members k m)
        (All-get_or (λ m. name_wrong m ≡ false) d.members k m in' ok.names) (All-get_or (λ m. length m.shorts ≡ length d.currencies) d.members k m in' ok.shorts) (All-get_or MemberFits d.members k m in' fits.members)
        (stands_nth member_bytes (24 + 4 * length d.currencies) f (8 + 10 * length d.currencies) d.members member_sizes at.members_at k m in')))

    instructions_back : listed (instructions_in f) (instruction_in f) ≡ d.instructions
    unfolding instruction_in
    instructions_back =
        let at = laid f s in
        listed_is (instructions_in f) (instruction_in f) d.instructions (sym at.instructions)
        (λ k x b. let in' : k < length d.instructions = omega arith in
        rw (at.currencies, at.members)
        (instruction_back f _ (get_or d.instructions k x) (All-get_or InstructionFits d.instructions k x in' fits.instructions)
        (stands_nth instruction_bytes 16 f _ d.instructions instruction_sizes at.instructions_at k x in')))

    step_stands : (k : ℕ) (x : FileStep) → k < steps_in f → Stands f (step_at f k) (step_bytes (get_or d.steps k x))
    step_stands k x b =
        let at = laid f s in
        let in' : k < length d.steps = omega arith in
        rw (at.currencies, at.members, at.instructions) (stands_nth step_bytes 8 f _ d.steps step_sizes at.steps_at k x in')

    steps_back : listed (steps_in f) (step_in f) ≡ d.steps
    unfolding step_in
    steps_back =
        let at = laid f s in
        listed_is (steps_in f) (step_in f) d.steps (sym at.steps)
        (λ k x b. let in' : k < length d.steps = omega arith in
        (step_back f (step_at f k) (get_or d.steps k x) (All-get_or StepFits d.steps k x in' fits.steps) (step_stands k x b)).0)

    as_long : (length f ≡ length (day_bytes d)) → length f ≡ step_at f (steps_in f)
    unfolding day_bytes
    as_long l =
        let at = laid f s in
        let k1 = length_joined currency_bytes 10 d.currencies currency_sizes in
        let k2 = length_joined member_bytes (24 + 4 * length d.currencies) d.members member_sizes in
        let k3 = length_joined instruction_bytes 16 d.instructions instruction_sizes in
        let k4 = length_joined step_bytes 8 d.steps step_sizes in
        l ∙ simp (at.currencies, at.members, at.instructions, at.steps, length-append, length_number, k1, k2, k3, k4)

    formed : (length f ≡ length (day_bytes d)) → form_refusal f ≡ None
    unfolding form_refusal
    formed l =
        let at = laid f s in
        let few = ok.few in
        let whole = as_long l in
        let counts = few_counts (currencies_in f) (members_in f) (instructions_in f) (steps_in f) (omega arith) (omega arith) (omega arith) (omega arith) in
        let long = room (currencies_in f) (members_in f) (instructions_in f) (steps_in f) (omega arith) (omega arith) (omega arith) (omega arith) in
        let fit : length_wrong f ≡ false = or_from _ _ (le-ltb (length f) 8 (omega arith)) (le-ltb 40000 (length f) (omega arith)) in
        let few-enough : counts_wrong f ≡ false = counts in
        let complete : form_wrong f ≡ false = not_from_true _ (eq-eqb (length f) (step_at f (steps_in f)) whole) in
        let known : first_of (listed (steps_in f) (kind_cause f)) ≡ None = none_of (kind_cause f) (steps_in f) (λ k b.
        let in' : k < length d.steps = omega arith in
        not_from_true _ (step_back f (step_at f k) (get_or d.steps k settle) (All-get_or StepFits d.steps k settle in' fits.steps) (step_stands k settle b)).1) in
        rw (fit, few-enough, complete, known)

pub written_reads_back : WrittenReadsBack
written_reads_back d e fits =
    let ok = sound d e in
    let f = day_bytes d in
    let s = whole_stands f in
    record {
      formed = formed d ok fits f s refl;
      same = rw (currencies_back d ok fits f s, members_back d ok fits f s, instructions_back d ok fits f s, steps_back d ok fits f s);
    }
