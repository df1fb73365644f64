-- Records with which nothing is wrong.
use Rattle.std.proofs.Common.{◌≡◌, ℕ, zero, suc, ◌+◌, ◌-◌, ◌<◌, ◌≤◌, Bool, true, false, ◌||◌, eqb, List, [], ◌∷◌, map, length, get_or, take, Some, None, Option, sym, refl, ap, ◌∙◌, arith}
use Rattle.std.proofs.Math.Seq.{drop-cons, drop-length}
use denote.Param.Members.{Mut}
use denote.Ref.{Bor}
use Rattle.std.proofs.iter.Yields.{fronts}
use Rattle.std.specs.Fn.{Called}
use Rattle.std.specs.Iterator.{YieldsThen}
use Rattle.std.specs.List.{AllByRecursion, FoldsTo, list_any, ends_with}
use Rattle.std.specs.Option.{MatchOption}
use Rattle.std.specs.Slice.Iter.{iter_rest}
use Rattle.std.specs.declared.slice.Iter.{Iter}
use Rattle.std.proofs.lemmas.Iterator.{YieldsList-from_slice}
use Rattle.std.proofs.lemmas.Iterator.Search.{any_from_yields_List}
use Rattle.std.proofs.ByRecursion.{All-weaker}
use Rattle.std.proofs.lemmas.List.{take_all}
use Rattle.std.proofs.lemmas.Bool.{or_parts, or_from, or_left, or_right, not-false, eqb-true}
use Rattle.std.proofs.lemmas.Bool.Decides.{nat_tests}
use Rattle.rules.proofs.Firsts.{first_none}
use Rattle.dayfile.proofs.Few.{few_from}
use Rattle.rules.specs.FileWriting.{DayRecords, too_many, wrong_code, wrong_name, wrong_shorts, has_too_many, some_of, code_wrong, name_wrong, shorts_wrong, fault_cases, writing_fault}

pub all_from_none : {A : Type 0} (p : A → Bool) (xs : List A) → some_of p xs ≡ false → AllByRecursion (λ x. p x ≡ false) xs
all_from_none p [] e = tt
all_from_none p (x ∷ xs) e = let h = or_parts (p x) (some_of p xs) e in (h.0, all_from_none p xs h.1)

pub none_from_all : {A : Type 0} (p : A → Bool) (xs : List A) → AllByRecursion (λ x. p x ≡ false) xs → some_of p xs ≡ false
none_from_all p [] a = refl
none_from_all p (x ∷ xs) a = or_from (p x) (some_of p xs) a.0 (none_from_all p xs a.1)

pub record Sound (d : DayRecords) : Type 0 where
  pub few : (length d.currencies ≤ 24) × (length d.members ≤ 32) × (length d.instructions ≤ 1024) × (length d.steps ≤ 2000)
  pub codes : AllByRecursion (λ c. length c.code ≡ 3) d.currencies
  pub names : AllByRecursion (λ m. name_wrong m ≡ false) d.members
  pub shorts : AllByRecursion (λ m. length m.shorts ≡ length d.currencies) d.members

pub sound : (d : DayRecords) → writing_fault d ≡ None → Sound d
unfolding writing_fault
sound d e =
    let never = first_none (fault_cases d) e in
    let n = length d.currencies in
    record {
      few = few_from (length d.currencies) (length d.members) (length d.instructions) (length d.steps) never.0;
      codes = All-weaker (λ c. code_wrong c ≡ false) (λ c. length c.code ≡ 3) (λ c h. eqb-true (length c.code) 3 (not-false (eqb (length c.code) 3) h)) d.currencies (all_from_none code_wrong d.currencies never.1.0);
      names = all_from_none name_wrong d.members never.1.1.0;
      shorts = All-weaker (λ m. shorts_wrong n m ≡ false) (λ m. length m.shorts ≡ n) (λ m h. eqb-true (length m.shorts) n (not-false (eqb (length m.shorts) n) h)) d.members (all_from_none (shorts_wrong n) d.members never.1.1.1.0);
    }

-- a loop that looks for a record that passes a test
pub look_more : {A B : Type 0} (p : B → Bool) (of : A → B) (xs : List A) (i : ℕ) (x : A) → i < length xs → x ≡ get_or xs i x → some_of p (map of (take i xs)) ≡ false → p (of x) ≡ false → some_of p (map of (take (i + 1) xs)) ≡ false
look_more p of (x ∷ xs) zero y h e none here = or_from (p (of x)) false (rw e at here) refl
look_more p of (x ∷ xs) (suc i) y h e none here =
    let parts = or_parts (p (of x)) (some_of p (map of (take i xs))) none in
    let s : suc i + 1 ≡ suc (i + 1) = omega arith in
    rw s (or_from (p (of x)) _ parts.0 (look_more p of xs i y (omega arith) e parts.1 here))
look_more p of [] i y h e none here = absurd (omega arith)

pub look_found : {A B : Type 0} (p : B → Bool) (of : A → B) (xs : List A) (i : ℕ) (x : A) → i < length xs → x ≡ get_or xs i x → p (of x) ≡ true → true ≡ some_of p (map of xs)
look_found p of [] i y h e here = absurd (omega arith)
look_found p of (x ∷ xs) zero y h e here = sym (or_left (p (of x)) (some_of p (map of xs)) (rw e at here))
look_found p of (x ∷ xs) (suc i) y h e here = sym (or_right (p (of x)) (some_of p (map of xs)) (sym (look_found p of xs i y (omega arith) e here)))

pub look_all : {A B : Type 0} (p : B → Bool) (of : A → B) (xs : List A) (i : ℕ) → length xs ≤ i → some_of p (map of (take i xs)) ≡ false → false ≡ some_of p (map of xs)
look_all p of xs i h none = sym (rw (take_all i xs h) at none)

-- a search for a record that passes a test, by what the records mean
some_is_any : {A B : Type 0} (p : B → Bool) (of : A → B) (xs : List A) → list_any (λ x. p (of x)) xs ≡ some_of p (map of xs)
some_is_any p of [] = refl
some_is_any p of (x ∷ xs) = ap (λ (b : Bool). p (of x) || b) (some_is_any p of xs)

-- the same, of a search through a slice
pub some_from_any : {A B F : Type 0} {g : Mut F (Bor A × Unit {0}) Bool} {s u : Iter A} {f : F} (p : B → Bool) (of : A → B) (all : List A) (r : Bool)
    → (xs : List (Bor A)) × (o : Option (Bor A)) × (j : F) × YieldsThen fronts s xs o u × FoldsTo (λ q x h. Called g q (x, tt) false h) f xs j × MatchOption o (r ≡ false) (λ x. (r ≡ true) × ((h : F) × Called g j (x, tt) true h))
    → ((x : Bor A) (b : Bool) (h : F) → Called g f (x, tt) b h → (h ≡ f) × (b ≡ p (of x.now))) → iter_rest s ≡ all → r ≡ some_of p (map of all)
some_from_any p of all r ran computes e = any_from_yields_List (λ x. p (of x)) _ _ r ran (YieldsList-from_slice all e) computes ∙ some_is_any p of all

-- the first thing that is wrong, by what is wrong and what is not
pub first_fault : (d : DayRecords) → has_too_many d ≡ true → writing_fault d ≡ Some too_many
unfolding writing_fault
first_fault d a = simp a

pub second_fault : (d : DayRecords) → has_too_many d ≡ false → some_of code_wrong d.currencies ≡ true → writing_fault d ≡ Some wrong_code
unfolding writing_fault
second_fault d a b = simp (a, b)

pub third_fault : (d : DayRecords) → has_too_many d ≡ false → some_of code_wrong d.currencies ≡ false → some_of name_wrong d.members ≡ true → writing_fault d ≡ Some wrong_name
unfolding writing_fault
third_fault d a b c = simp (a, b, c)

pub fourth_fault : (d : DayRecords) → has_too_many d ≡ false → some_of code_wrong d.currencies ≡ false → some_of name_wrong d.members ≡ false → some_of (shorts_wrong (length d.currencies)) d.members ≡ true → writing_fault d ≡ Some wrong_shorts
unfolding writing_fault
fourth_fault d a b c e = simp (a, b, c, e)

pub no_fault : (d : DayRecords) → has_too_many d ≡ false → some_of code_wrong d.currencies ≡ false → some_of name_wrong d.members ≡ false → some_of (shorts_wrong (length d.currencies)) d.members ≡ false → writing_fault d ≡ None
unfolding writing_fault
no_fault d a b c e = simp (a, b, c, e)

pub few_enough : (d : DayRecords) → writing_fault d ≡ None → has_too_many d ≡ false
unfolding writing_fault
few_enough d e = (first_none (fault_cases d) e).0

-- a name that ends in a space
pub space_last : (xs : List ℕ) → ends_with eqb xs (32 ∷ []) ≡ eqb (get_or xs (length xs - 1) 0) 32
space_last [] = refl
space_last (x ∷ xs) =
    let n = length xs in
    let e : suc n - 1 ≡ n = omega arith in
    let h : n < length (x ∷ xs) = omega arith in
    rw (e, drop-cons (x ∷ xs) n 0, drop-length (x ∷ xs)) (grind (arith, nat_tests))
