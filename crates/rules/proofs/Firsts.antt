-- The first case that holds.
use Rattle.std.proofs.Common.{◌≡◌, ℕ, Bool, true, false, cond, List, [], ◌∷◌, Some, None, Option, refl, ap, arith}
use Rattle.rules.specs.First.{Case, first_of, First, Never}

pub first_none : {A : Type 0} (xs : List (Case A)) → first_of xs ≡ None → Never xs
first_none [] e = tt
first_none {A} (x ∷ xs) e = go (first_none xs) x.holds refl e
  where
    go : (first_of xs ≡ None → Never xs) → (h : Bool) → x.holds ≡ h → cond h (Some x.name) (first_of xs) ≡ None → (x.holds ≡ false) × Never xs
    go more true q d = absurd (let z : ◌≡◌ {A = ℕ} 0 1 = cc in omega arith)
    go more false q d = (q, more d)

pub none_first : {A : Type 0} (xs : List (Case A)) → Never xs → first_of xs ≡ None
none_first [] n = refl
none_first (x ∷ xs) n = rw n.0 (none_first xs n.1)

abbrev FirstBy : {A : Type 0} → Bool → A → Case A → List (Case A) → Type 0
FirstBy h a x xs = elim h [ true ↦ x.name ≡ a | false ↦ First a xs ]

pub first_some : {A : Type 0} (a : A) (xs : List (Case A)) → first_of xs ≡ Some a → First a xs
first_some a [] e = absurd (let z : ◌≡◌ {A = ℕ} 0 1 = cc in omega arith)
first_some {A} a (x ∷ xs) e = go (first_some a xs) x.holds e
  where
    go : (first_of xs ≡ Some a → First a xs) → (h : Bool) → cond h (Some x.name) (first_of xs) ≡ Some a → FirstBy h a x xs
    go more true d = cc
    go more false d = more d

pub some_first : {A : Type 0} (a : A) (xs : List (Case A)) → First a xs → first_of xs ≡ Some a
some_first a [] f = absurd f
some_first {A} a (x ∷ xs) f = go (some_first a xs) x.holds f
  where
    go : (First a xs → first_of xs ≡ Some a) → (h : Bool) → FirstBy h a x xs → cond h (Some x.name) (first_of xs) ≡ Some a
    go more true d = ap Some d
    go more false d = more d

-- the first case, step by step: for a method that tests its causes in turn
pub at_first : {A : Type 0} (x : Case A) (xs : List (Case A)) → x.holds ≡ true → first_of (x ∷ xs) ≡ Some x.name
at_first x xs e = rw e

pub at_next : {A : Type 0} (x : Case A) (xs : List (Case A)) (o : Option A) → x.holds ≡ false → first_of xs ≡ o → first_of (x ∷ xs) ≡ o
at_next x xs o e f = rw e f
