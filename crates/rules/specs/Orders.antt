-- The two queue orders: by pair number, and heaviest first.
use Rattle.std.specs.Prelude.{Bool, true, false, cond, ◌==◌, nat_lt}
use Rattle.rules.specs.Pairs.{Pair}

-- the lower number goes before
abbrev pub by_number : Pair → Pair → Bool
by_number p q = nat_lt p.number q.number

-- the heavier goes before, and of equal ones the one with the lower number
abbrev pub heaviest_first : Pair → Pair → Bool
heaviest_first p q = cond (nat_lt q.weight p.weight) true (cond (p.weight == q.weight) (by_number p q) false)
