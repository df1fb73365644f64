-- The ranges that a position keeps to.
use Rattle.std.specs.Prelude.{ℕ, ◌+◌, ◌≤◌, ℤ, pos, ◌+ℤ◌, neg_ℤ, ◌≤ℤ◌}
use Rattle.rules.specs.Bounds.{most_units, most_sum}

abbrev pub InRange : ℤ → ℕ → ℕ → ℕ → Type 0
InRange account reserved ins outs =
    (neg_ℤ (pos most_units) ≤ℤ account) × ((account +ℤ pos reserved) ≤ℤ pos most_units) × (ins ≤ most_sum) × (outs + reserved ≤ most_sum)
