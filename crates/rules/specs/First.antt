-- The first of a list of named cases that holds.
use Rattle.std.specs.Prelude.{◌≡◌, Bool, true, false, cond, List, [], ◌∷◌, Some, None, Option}

-- a name, and whether what it names holds
pub record Case (A : Type 0) : Type 0 where
  pub name : A
  pub holds : Bool

-- the name of the first case that holds
abbrev pub first_of : {A : Type 0} → List (Case A) → Option A
first_of [] = None
first_of (x ∷ xs) = cond x.holds (Some x.name) (first_of xs)

-- the same as a relation: one of the cases holds under this name, and none before it holds
abbrev pub First : {A : Type 0} → A → List (Case A) → Type 0
First a [] = ⊥
First a (x ∷ xs) = elim x.holds [ true ↦ x.name ≡ a | false ↦ First a xs ]

-- none of the cases holds
abbrev pub Never : {A : Type 0} → List (Case A) → Type 0
Never [] = Unit {0}
Never (x ∷ xs) = (x.holds ≡ false) × Never xs
