-- The bank's cash at its correspondents: a number of units for each currency number.
use Rattle.std.specs.Prelude.{◌≡◌, ℕ, ◌+◌, ◌-◌, ◌^◌, min, cond, List, [], ◌∷◌, Some, None, ◌≢◌, nat_lt}
use Rattle.rules.specs.Bounds.{most_sum}
use Rattle.rules.specs.First.{Case}
use Rattle.rules.specs.Refusals.{Refusal, cause, nostro}

-- currency numbers go to 23; a number above has cash 0
abbrev pub last_number : ℕ
last_number = 23

-- what the question for cash answers: the cash, or 2^64 - 1 where it is more
abbrev pub cash_shown : (ℕ → ℕ) → ℕ → ℕ
cash_shown cash c = cond (nat_lt last_number c) 0 (min (cash c) (2 ^ 64 - 1))

-- why a receipt is refused
abbrev pub receipt_causes : (ℕ → ℕ) → ℕ → ℕ → List (Case Refusal)
receipt_causes cash c amount =
    cause 10 nostro None (Some c) (nat_lt last_number c)
    ∷ cause 16 nostro None (Some c) (nat_lt most_sum (cash c + amount))
    ∷ []

-- why a payment is refused
abbrev pub payment_causes : (ℕ → ℕ) → ℕ → ℕ → List (Case Refusal)
payment_causes cash c amount =
    cause 10 nostro None (Some c) (nat_lt last_number c)
    ∷ cause 20 nostro None (Some c) (nat_lt (cash c) amount)
    ∷ []

-- the cash is n in currency c, and in every other currency as before
pub record OnlyAt (before : ℕ → ℕ) (c n : ℕ) (after : ℕ → ℕ) : Type 0 where
  pub here : after c ≡ n
  pub other : (q : ℕ) → (q ≢ c) → after q ≡ before q

-- all cash is as before
abbrev pub Unchanged : (ℕ → ℕ) → (ℕ → ℕ) → Type 0
Unchanged before after = (q : ℕ) → after q ≡ before q

-- the cash of a split: that of both its parts together
abbrev pub together : (ℕ → ℕ) → (ℕ → ℕ) → ℕ → ℕ
together first second c = first c + second c

-- what a split takes from its first part for a payment: the smaller of the amount and that part's cash
abbrev pub from_first : (ℕ → ℕ) → ℕ → ℕ → ℕ
from_first first c amount = min amount (first c)

-- a split receives into its first part
pub record SplitReceived (first second : ℕ → ℕ) (c amount : ℕ) (first' second' : ℕ → ℕ) : Type 0 where
  pub in_first : OnlyAt first c (first c + amount) first'
  pub in_second : Unchanged second second'

-- a split pays from its first part what that can, and the rest from its second
pub record SplitPaid (first second : ℕ → ℕ) (c amount : ℕ) (first' second' : ℕ → ℕ) : Type 0 where
  pub of_first : OnlyAt first c (first c - from_first first c amount) first'
  pub of_second : OnlyAt second c (second c - (amount - from_first first c amount)) second'
