-- The ranges of a rate sheet.
use Rattle.std.specs.Prelude.{ℕ, ◌≤◌}
use Rattle.rules.specs.Bounds.{most_rate, most_haircut, most_instalments}

-- a rate from 1 to 200,000, a haircut from 0 to 500, and 1 to 5 instalments
abbrev pub InRange : ℕ → ℕ → ℕ → Type 0
InRange rate haircut instalments = ((1 ≤ rate) × (rate ≤ most_rate)) × (haircut ≤ most_haircut) × ((1 ≤ instalments) × (instalments ≤ most_instalments))
