-- Records that are read and written again.
use Rattle.std.proofs.Common.{◌≡◌, ℕ, zero, suc, ◌+◌, ◌-◌, ◌*◌, ◌<◌, ◌≤◌, true, false, cond, eqb, leb, List, [], ◌∷◌, ◌++◌, length, add-zero, append_assoc, take, drop, replicate, sym, refl, ap, ◌∙◌, subst, ⊎_elim, add_assoc, arith}
use Rattle.std.specs.List.{flat_map, AllByRecursion}
use Rattle.std.proofs.lemmas.List.{length-append, length-replicate, length-take-le, length-drop, take-append-drop, get_or-take, get_or-drop, get_or-replicate, get_or_past, ext_get_or}
use Rattle.std.proofs.lemmas.Bool.{le-ltb, eqb-false, eqb-true, ne_eqb, or_from, cases_lt, cases_Bool, cases_eq, and_parts, leb-true}
use Rattle.rules.specs.Below.{listed}
use Rattle.rules.specs.FileForm.{byte, two_bytes, four_bytes, eight_bytes, known_kind}
use Rattle.rules.specs.FileRecords.{MemberRecord, pay_in, clock, settle, pay_out, part, trimmed, trimmed_length, currency_from, member_from, instruction_from, step_from}
use Rattle.rules.specs.FileWriting.{number_bytes, name_bytes, currency_bytes, member_bytes, instruction_bytes, step_bytes, name_wrong}
use Rattle.rules.specs.FileAgain.{kept, pays, cleared_step}
use Rattle.dayfile.proofs.Parts.{length_part}
use Rattle.daywriter.proofs.Numbers.{length_number}
use Rattle.daywriter.proofs.Standing.{Stands, part_split, numbers_bytes, stands_join, all_stand, one_stands, two_stands, four_stands, eight_stands, nth_stand}

-- the end of a name's field
kept_within : (s : List ℕ) (n : ℕ) → trimmed_length s n ≤ n
unfolding trimmed_length
kept_within s zero = omega arith
kept_within s (suc n) = ⊎_elim (λ y. rw y (let h = kept_within s n in omega arith)) (λ z. rw z (omega arith)) (cases_Bool (eqb (byte s n) 32))

spaces_after : (s : List ℕ) (n k : ℕ) → trimmed_length s n ≤ k → k < n → byte s k ≡ 32
unfolding trimmed_length
spaces_after s zero k h l = absurd (omega arith)
spaces_after s (suc n) k h l = ⊎_elim
    (λ y. ⊎_elim (λ less. spaces_after s n k (rw y at h) less) (λ same. let e : k ≡ n = omega arith in rw e (eqb-true (byte s n) 32 y)) (cases_lt k n))
    (λ z. absurd (let b : suc n ≤ k = rw z at h in omega arith))
    (cases_Bool (eqb (byte s n) 32))

no_space_kept : (s : List ℕ) (n : ℕ) → 0 < trimmed_length s n → byte s (trimmed_length s n - 1) ≡ 32 → ⊥
unfolding trimmed_length
no_space_kept s zero h = absurd (omega arith)
no_space_kept s (suc n) h = ⊎_elim
    (λ y. rw y (no_space_kept s n (rw y at h)))
    (λ z. let whole : trimmed_length s (suc n) ≡ suc n = rw z in let e : trimmed_length s (suc n) - 1 ≡ n = omega arith in λ q. eqb-false (byte s n) 32 z (rw e at q))
    (cases_Bool (eqb (byte s n) 32))

-- a field of spaces after a place
filled : (s : List ℕ) (n t : ℕ) → length s ≡ n → t ≤ n → ((k : ℕ) → t ≤ k → k < n → byte s k ≡ 32) → take t s ++ replicate (n - t) 32 ≡ s
filled s n t l h e =
    let rest : replicate (n - t) 32 ≡ drop t s = ext_get_or 0 (replicate (n - t) 32) (drop t s) (simp (length-replicate, length-drop, l))
    (λ k b. let b' : k < n - t = omega (arith, length-replicate {A = ℕ} (n - t) 32) in get_or-replicate (n - t) k 32 0 b' ∙ sym (get_or-drop t s k 0 ∙ e (t + k) (omega arith) (omega arith))) in
    rw rest (take-append-drop t s)

name_again : (s : List ℕ) → length s ≡ 16 → name_bytes (trimmed s) ≡ s
name_again s l =
    let t = trimmed_length s (length s) in
    let h : t ≤ 16 = let w = kept_within s (length s) in omega arith in
    let kept : length (take t s) ≡ t = length-take-le t s (omega arith) in
    rw kept (filled s 16 t l h (λ k b c. spaces_after s (length s) k b (omega arith)))

pub name_right : (m : MemberRecord) (s : List ℕ) → length s ≡ 16 → m.name ≡ trimmed s → name_wrong m ≡ false
name_right m s l e =
    let t = trimmed_length s (length s) in
    let h : t ≤ 16 = let w = kept_within s (length s) in omega arith in
    let kept : length (take t s) ≡ t = length-take-le t s (omega arith) in
    let last : byte (take t s) (t - 1) ≡ 32 → ⊥ = ⊎_elim
    (λ some. rw (get_or-take t s (t - 1) 0 (omega arith)) (no_space_kept s (length s) some))
    (λ none. let p : byte (take t s) (t - 1) ≡ 0 = get_or_past (take t s) (t - 1) 0 (omega arith) in λ q. omega arith)
    (cases_lt 0 t) in
    rw (e, kept) (or_from _ _ (le-ltb 16 t h) (ne_eqb _ 32 last))

-- one after the other
pub then : (n : ℕ) (f : List ℕ) (i : ℕ) (xs ys : List ℕ) → length xs ≡ n → Stands f i xs → Stands f (i + n) ys → Stands f i (xs ++ ys)
then n f i xs ys l s t = stands_join f i xs ys s (rw l t)

pub part_stands : (f : List ℕ) (i n : ℕ) → i + n ≤ length f → Stands f i (part f i n)
part_stands f i n h = let l = length_part f i n h in rw l (h, refl)

last_kind : (k : ℕ) → known_kind k ≡ true → (k ≡ 1 → ⊥) → (k ≡ 2 → ⊥) → (k ≡ 3 → ⊥) → k ≡ 4
last_kind k known a b c = let h = and_parts (leb 1 k) (leb k 4) known in let low = leb-true 1 k h.0 in let high = leb-true k 4 h.1 in omega arith

-- a step's record, kind by kind
abbrev AgainAt : ℕ → ℕ → ℕ → ℕ → ℕ → Type 0
AgainAt m c h a k =
    step_bytes (cond (eqb k 1) (pay_in m c a) (cond (eqb k 2) (clock h) (cond (eqb k 3) settle (pay_out m c a))))
    ≡ number_bytes 1 k ++ kept (pays k) (number_bytes 1 m ++ number_bytes 1 c) ++ kept (eqb k 2) (number_bytes 1 h) ++ kept (pays k) (number_bytes 4 a)

by_kind : (k m c h a : ℕ) → known_kind k ≡ true → AgainAt m c h a k
unfolding step_bytes number_bytes
by_kind k m c h a known = ⊎_elim
    (λ one. subst (AgainAt m c h a) (sym one) refl)
    (λ not-one. ⊎_elim
    (λ two. subst (AgainAt m c h a) (sym two) refl)
    (λ not-two. ⊎_elim
    (λ three. subst (AgainAt m c h a) (sym three) refl)
    (λ not_three. subst (AgainAt m c h a) (sym (last_kind k known not-one not-two not_three)) refl)
    (cases_eq k 3))
    (cases_eq k 2))
    (cases_eq k 1)

module _ (f : List ℕ) (bytes : AllByRecursion (λ b. b < 256) f) where
  pub currency_again : (i : ℕ) → i + 10 ≤ length f → (length (currency_bytes (currency_from f i)) ≡ 10) × Stands f i (currency_bytes (currency_from f i))
  unfolding currency_bytes number_bytes
  currency_again i h =
      let xs : List (ℕ × ℕ) = (1, byte f (i + 3)) ∷ (4, four_bytes f (i + 4)) ∷ (2, two_bytes f (i + 8)) ∷ [] in
      let l : length (part f i 3) ≡ 3 = length_part f i 3 (omega arith) in
      let numbers = all_stand f i 3 xs (omega arith) (one_stands f (i + 3) bytes (omega arith), (four_stands f (i + 4) bytes (omega arith), (two_stands f (i + 8) bytes (omega arith), tt))) in
      (simp (length-append, l), simp append_assoc (then 3 f i (part f i 3) (numbers_bytes xs) l (part_stands f i 3 (omega arith)) numbers))

  pub member_again : (n i : ℕ) → i + 24 + 4 * n ≤ length f → (length (member_bytes (member_from f n i)) ≡ 24 + 4 * n) × Stands f i (member_bytes (member_from f n i))
  unfolding member_bytes
  member_again n i h =
      let x1 = name_bytes (trimmed (part f i 16)) in
      let x2 = number_bytes 8 (eight_bytes f (i + 16)) in
      let x3 = flat_map (number_bytes 4) (listed n (λ c. four_bytes f (i + 24 + 4 * c))) in
      let field : x1 ≡ part f i 16 = name_again (part f i 16) (length_part f i 16 (omega arith)) in
      let l1 : length x1 ≡ 16 = ap length field ∙ length_part f i 16 (omega arith) in
      let s1 : Stands f i x1 = rw field (part_stands f i 16 (omega arith)) in
      let l2 : length (x1 ++ x2) ≡ 24 = length-append x1 x2 ∙ omega (arith, length_number 8 (eight_bytes f (i + 16))) in
      let s2 = then 16 f i x1 x2 l1 s1 (eight_stands f (i + 16) bytes (omega arith)) in
      let limits = nth_stand (number_bytes 4) 4 f (i + 24) n (λ c. four_bytes f (i + 24 + 4 * c)) (omega arith) (λ k b. (length_number 4 (four_bytes f (i + 24 + 4 * k)), four_stands f (i + 24 + 4 * k) bytes (omega arith))) in
      (length-append (x1 ++ x2) x3 ∙ omega (arith, limits.0), then 24 f i (x1 ++ x2) x3 l2 s2 limits.1)

  pub instruction_again : (i : ℕ) → i + 16 ≤ length f → Stands f i (instruction_bytes (instruction_from f i))
  unfolding instruction_bytes number_bytes
  instruction_again i h =
      let one : (o : ℕ) → i + o + 1 ≤ length f → Stands f (i + o) (number_bytes 1 (byte f (i + o))) = λ o b. one_stands f (i + o) bytes b in
      let four : (o : ℕ) → i + o + 4 ≤ length f → Stands f (i + o) (number_bytes 4 (four_bytes f (i + o))) = λ o b. four_stands f (i + o) bytes b in
      let xs : List (ℕ × ℕ) = (1, byte f (i + 0)) ∷ (1, byte f (i + 1)) ∷ (1, byte f (i + 2)) ∷ (1, byte f (i + 3)) ∷ (4, four_bytes f (i + 4)) ∷ (4, four_bytes f (i + 8)) ∷ (4, four_bytes f (i + 12)) ∷ [] in
      rw (add-zero i) at (all_stand f i 0 xs (omega arith) (one 0 (omega arith), (one 1 (omega arith), (one 2 (omega arith), (one 3 (omega arith), (four 4 (omega arith), (four 8 (omega arith), (four 12 (omega arith), tt))))))))

  -- a number of w bytes, as the bytes that stand there
  written_part : (w i n : ℕ) → Stands f i (number_bytes w n) → part f i w ≡ number_bytes w n
  written_part w i n s = rw (length_number w n) at s.1

  pub step_again : (i : ℕ) → i + 8 ≤ length f → known_kind (byte f i) ≡ true → step_bytes (step_from f i) ≡ cleared_step f i
  step_again i h known =
      let kind = written_part 1 i (byte f i) (one_stands f i bytes (omega arith)) in
      let m = written_part 1 (i + 1) (byte f (i + 1)) (one_stands f (i + 1) bytes (omega arith)) in
      let c : part f (i + 1 + 1) 1 ≡ number_bytes 1 (byte f (i + 2)) = rw (add_assoc i 1 1) (written_part 1 (i + 2) (byte f (i + 2)) (one_stands f (i + 2) bytes (omega arith))) in
      let both : part f (i + 1) 2 ≡ number_bytes 1 (byte f (i + 1)) ++ number_bytes 1 (byte f (i + 2)) = part_split f (i + 1) 1 1 ∙ rw (m, c) in
      let hour = written_part 1 (i + 3) (byte f (i + 3)) (one_stands f (i + 3) bytes (omega arith)) in
      let amount = written_part 4 (i + 4) (four_bytes f (i + 4)) (four_stands f (i + 4) bytes (omega arith)) in
      rw (kind, both, hour, amount) (by_kind (byte f i) (byte f (i + 1)) (byte f (i + 2)) (byte f (i + 3)) (four_bytes f (i + 4)) known)
