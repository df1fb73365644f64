-- The books of a session: what its calls change.
use Rattle.std.specs.Prelude.{ℕ, ◌+◌, ◌-◌, cond, List, ℤ, pos, ◌+ℤ◌, ◌-ℤ◌, ◌==◌}
use Rattle.rules.specs.Sums.{only}
use Rattle.rules.specs.Pairs.{Pair}
use Rattle.rules.specs.Setting.{Setting, queue}

-- an amount that is set aside to be paid out
pub record Reservation : Type 0 where
  pub member : ℕ
  pub currency : ℕ
  pub amount : ℕ

-- the session's tables by member and currency, the hour, the waiting pairs in queue order, and the nostro's cash
pub record Books : Type 0 where
  pub account : ℕ → ℕ → ℤ
  pub reserve_of : ℕ → ℕ → ℕ
  pub paid_in : ℕ → ℕ → ℕ
  pub paid_out : ℕ → ℕ → ℕ
  pub hour : ℕ
  pub waiting : List Pair
  pub cash : ℕ → ℕ

-- at the opening all accounts are 0 and all pairs wait
abbrev pub opened : Setting → (ℕ → ℕ) → Books
opened s cash = record { account = λ m c. pos 0; reserve_of = λ m c. 0; paid_in = λ m c. 0; paid_out = λ m c. 0; hour = 0; waiting = queue s; cash = cash }

-- at the close every outstanding reservation is back in its account
abbrev pub closed : Books → Books
closed b = record { account = λ m c. b.account m c +ℤ pos (b.reserve_of m c); reserve_of = λ m c. 0; paid_in = b.paid_in; paid_out = b.paid_out; hour = b.hour; waiting = b.waiting; cash = b.cash }

-- a table raised or lowered at one place
abbrev pub raised : (ℕ → ℕ → ℕ) → ℕ → ℕ → ℕ → ℕ → ℕ → ℕ
raised f m c a m' c' = f m' c' + only m c a m' c'

abbrev pub lowered : (ℕ → ℕ → ℕ) → ℕ → ℕ → ℕ → ℕ → ℕ → ℕ
lowered f m c a m' c' = f m' c' - only m c a m' c'

abbrev pub credited : (ℕ → ℕ → ℤ) → ℕ → ℕ → ℕ → ℕ → ℕ → ℤ
credited f m c a m' c' = f m' c' +ℤ pos (only m c a m' c')

abbrev pub debited : (ℕ → ℕ → ℤ) → ℕ → ℕ → ℕ → ℕ → ℕ → ℤ
debited f m c a m' c' = f m' c' -ℤ pos (only m c a m' c')

-- cash raised or lowered in one currency
abbrev pub received : (ℕ → ℕ) → ℕ → ℕ → ℕ → ℕ
received cash c a c' = cash c' + cond (c == c') a 0

abbrev pub spent : (ℕ → ℕ) → ℕ → ℕ → ℕ → ℕ
spent cash c a c' = cash c' - cond (c == c') a 0
