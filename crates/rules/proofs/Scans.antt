-- Whether some number passes a test, and whether some item of a list does: `any` goes by the items, the rules by their places.
use Rattle.std.proofs.Common.{◌≡◌, ℕ, zero, suc, ◌+◌, ◌<◌, Bool, true, false, ◌||◌, Option, List, [], ◌∷◌, length, map, get_or, sym, refl, ap, ◌∙◌, ⊎_elim, add-one, arith}
use Rattle.std.proofs.iter.Yields.{fronts}
use Rattle.std.specs.Fn.{Called}
use Rattle.std.specs.Iterator.{YieldsThen}
use Rattle.std.specs.List.{FoldsTo, list_any}
use Rattle.std.specs.Option.{MatchOption}
use Rattle.std.specs.Slice.Iter.{iter_rest}
use Rattle.std.specs.declared.slice.Iter.{Iter}
use Rattle.std.proofs.lemmas.Bool.{or_from, or_left, or_right, cases_eq, cases_Bool, both_ways, or_cases, false≢true}
use Rattle.std.proofs.lemmas.Iterator.{YieldsList-from_slice}
use Rattle.std.proofs.lemmas.Iterator.Search.{any_from_yields_List}
use Rattle.std.proofs.lemmas.List.{map-id}
use Rattle.rules.specs.Below.{some_below}
use denote.Param.Members.{Mut}
use denote.Ref.{Bor}

pub scan_more : (p : ℕ → Bool) (i : ℕ) → some_below i p ≡ false → p i ≡ false → some_below (i + 1) p ≡ false
scan_more p i none here = rw add-one (or_from _ _ here none)

pub scan_found : (p : ℕ → Bool) (n i : ℕ) → i < n → p i ≡ true → some_below n p ≡ true
scan_found p zero i l e = absurd (omega arith)
scan_found p (suc n) i l e = ⊎_elim (λ same. or_left (p n) (some_below n p) (rw (← same) e)) (λ other. or_right (p n) (some_below n p) (scan_found p n i (omega arith) e)) (cases_eq i n)

pub scan_none : (p : ℕ → Bool) (n : ℕ) → some_below n p ≡ false → (i : ℕ) → i < n → p i ≡ false
scan_none p n e i l = ⊎_elim (λ y. absurd (both_ways (some_below n p) e (scan_found p n i l y))) (λ z. z) (cases_Bool (p i))

pub scan_some : (p : ℕ → Bool) (n : ℕ) → some_below n p ≡ true → (i : ℕ) × (i < n) × (p i ≡ true)
scan_some p zero e = absurd (false≢true e)
scan_some p (suc n) e = ⊎_elim (λ h. (n, omega arith, h)) (λ h. let w = scan_some p n h in (w.0, omega arith, w.2)) (or_cases (p n) (some_below n p) e)

swap : (a b c : Bool) → (a || (b || c)) ≡ (b || (a || c))
swap true true c = refl
swap true false c = refl
swap false b c = refl

some_from_first : (n : ℕ) (p : ℕ → Bool) → some_below (suc n) p ≡ (p 0 || some_below n (λ k. p (suc k)))
some_from_first zero p = refl
some_from_first (suc n) p = ap (λ b. p (suc n) || b) (some_from_first n p) ∙ swap (p (suc n)) (p 0) (some_below n (λ k. p (suc k)))

any_of : {A B : Type 0} (f : A → B) (test : B → Bool) (d : B) (xs : List A) → list_any (λ x. test (f x)) xs ≡ some_below (length xs) (λ k. test (get_or (map f xs) k d))
any_of f test d [] = refl
any_of f test d (x ∷ xs) = ap (λ b. test (f x) || b) (any_of f test d xs) ∙ sym (some_from_first (length xs) (λ k. test (get_or (map f (x ∷ xs)) k d)))

-- what `any` answers over a list whose length is n, where the rules see f of each item
pub any_seen_below : {A B F : Type 0} {g : Mut F (Bor A × Unit {0}) Bool} {s u : Iter A} {c : F} (f : A → B) (test : B → Bool) (d : B) (all : List A) (n : ℕ) (r : Bool) → n ≡ length all
    → (xs : List (Bor A)) × (o : Option (Bor A)) × (j : F) × YieldsThen fronts s xs o u × FoldsTo (λ p x q. Called g p (x, tt) false q) c xs j × MatchOption o (r ≡ false) (λ x. (r ≡ true) × ((h : F) × Called g j (x, tt) true h))
    → ((x : Bor A) (b : Bool) (q : F) → Called g c (x, tt) b q → (q ≡ c) × (b ≡ test (f x.now))) → iter_rest s ≡ all → r ≡ some_below n (λ k. test (get_or (map f all) k d))
any_seen_below f test d all n r l ran computes e =
    any_from_yields_List (λ x. test (f x)) _ _ r ran (YieldsList-from_slice all e) computes ∙ any_of f test d all ∙ ap (λ m. some_below m (λ k. test (get_or (map f all) k d))) (sym l)

-- the same where they see the items
pub any_below : {A F : Type 0} {g : Mut F (Bor A × Unit {0}) Bool} {s u : Iter A} {c : F} (test : A → Bool) (d : A) (all : List A) (n : ℕ) (r : Bool) → n ≡ length all
    → (xs : List (Bor A)) × (o : Option (Bor A)) × (j : F) × YieldsThen fronts s xs o u × FoldsTo (λ p x q. Called g p (x, tt) false q) c xs j × MatchOption o (r ≡ false) (λ x. (r ≡ true) × ((h : F) × Called g j (x, tt) true h))
    → ((x : Bor A) (b : Bool) (q : F) → Called g c (x, tt) b q → (q ≡ c) × (b ≡ test x.now)) → iter_rest s ≡ all → r ≡ some_below n (λ k. test (get_or all k d))
any_below test d all n r l ran computes e =
    any_seen_below (λ x. x) test d all n r l ran computes e ∙ ap (λ (xs : List _). some_below n (λ k. test (get_or xs k d))) (map-id all)
