-- The ranges of limits and of a pair.
use Rattle.std.specs.Prelude.{◌≡◌, ℕ, ◌≤◌, List, ◌≢◌, take, slice_index, slice_index_or}
use Rattle.units.specs.declared.Amount.{Amount}
use Rattle.rules.specs.Bounds.{most_currencies, most_units}

abbrev pub no_amount : Amount
no_amount = record { 0 = 0 }

-- every short limit is at most 10^9 units
abbrev pub Limited : List Amount → Type 0
Limited short = (c : ℕ) → (slice_index_or short c no_amount).0 ≤ most_units

-- the short limits by currency number are those of a list, and 0 where it has none
abbrev pub ByCurrency : List Amount → List ℕ → Type 0
ByCurrency short shorts = (c : ℕ) → (slice_index_or short c no_amount).0 ≡ slice_index (take most_currencies shorts) c

-- two parties, two currencies, and amounts of at most 10^9 units
abbrev pub Matched : ℕ → ℕ → ℕ → ℕ → ℕ → ℕ → Type 0
Matched first second buys bought sells sold = (first ≢ second) × (buys ≢ sells) × (bought ≤ most_units) × (sold ≤ most_units)
