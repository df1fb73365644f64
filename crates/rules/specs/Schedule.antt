-- What each member has to pay in, and by when.
use Rattle.std.specs.Prelude.{ℕ, ◌+◌, ◌-◌, ◌*◌, ◌/◌, min, List}
use Rattle.rules.specs.Pairs.{Pair, bought, sold}

-- the required amount: what the member sells less what it buys over all its pairs, or 0 if negative
abbrev pub required : List Pair → ℕ → ℕ → ℕ
required ps m c = sold ps m c - bought ps m c

-- a ÷ k, rounded up
abbrev pub rounded_up : ℕ → ℕ → ℕ
rounded_up a k = (a + (k - 1)) / k

-- the amount due at an hour, in k instalments, of a required amount of which `paid` is paid in, or 0 if negative
abbrev pub due : ℕ → ℕ → ℕ → ℕ → ℕ
due needed hour k paid = rounded_up (needed * min hour k) k - paid
