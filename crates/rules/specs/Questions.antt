-- The questions to a session.
use Rattle.std.specs.Prelude.{ℕ, cond, List, [], ◌∷◌, Some, None, Option, ◌==◌}
use Rattle.rules.specs.Refusals.{Refusal, session}
use Rattle.rules.specs.Pairs.{Pair}
use Rattle.rules.specs.Schedule.{required, due}
use Rattle.rules.specs.Setting.{Setting}
use Rattle.rules.specs.Books.{Books}

-- the amount due of a member in a currency at the present hour
abbrev pub amount_due : Setting → Books → ℕ → ℕ → ℕ
amount_due s b m c = due (required s.pairs m c) b.hour (s.sheet.currency c).instalments (b.paid_in m c)

-- the pair of a number among those that wait
abbrev pub numbered : ℕ → List Pair → Option Pair
numbered n [] = None
numbered n (p ∷ ps) = cond (p.number == n) (Some p) (numbered n ps)

-- the refusal where no waiting pair has the number
abbrev pub no_such_pair : Refusal
no_such_pair = record { number = 22; layer = session; member = None; currency = None; place = 0 }
