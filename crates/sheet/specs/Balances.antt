-- Balances.
use Rattle.std.specs.Prelude.{ℕ, ℤ, pos, neg_ℤ, ◌≤ℤ◌}

-- at most n either way
abbrev pub Within : ℤ → ℕ → Type 0
Within z n = (neg_ℤ (pos n) ≤ℤ z) × (z ≤ℤ pos n)

-- units: the most that a balance is, either way
abbrev pub most_balance : ℕ
most_balance = 2000000000

-- thousandths of a mark: the most that one unit is worth, held or owed
abbrev pub most_price : ℕ
most_price = 300000000

-- thousandths of a mark: the most that one balance is worth, either way
abbrev pub most_worth : ℕ
most_worth = 600000000000000000
