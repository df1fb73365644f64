-- The four tests of a pair.
use Rattle.std.specs.Prelude.{ℕ, List, [], ◌∷◌, ℤ, pos, ◌+ℤ◌, neg_ℤ, Some, None, Option, int_lt, nat_lt}
use Rattle.rules.specs.Bounds.{most_units}
use Rattle.rules.specs.First.{Case, first_of}
use Rattle.rules.specs.Pairs.{Pair, after_pair}
use Rattle.rules.specs.Setting.{Setting}
use Rattle.rules.specs.Worth.{adjusted, short_marks}

-- a test that stops a pair: its number, the member, and the currency (tests 1 and 2)
pub record Stop : Type 0 where
  pub test : ℕ
  pub member : ℕ
  pub currency : Option ℕ

-- 1: in the bought currency, account plus reservations is above the ceiling
abbrev pub fails_1 : (ℕ → ℕ → ℕ) → (ℕ → ℕ → ℤ) → ℕ → ℕ → Case Stop
fails_1 r b m c = record { name = record { test = 1; member = m; currency = Some c }; holds = int_lt (pos most_units) (b m c +ℤ pos (r m c)) }

-- 2: in the sold currency, the account is below minus the short limit
abbrev pub fails_2 : Setting → (ℕ → ℕ → ℤ) → ℕ → ℕ → Case Stop
fails_2 s b m c = record { name = record { test = 2; member = m; currency = Some c }; holds = int_lt (b m c) (neg_ℤ (pos ((s.roster.member m).short c))) }

-- 3: the short marks of the row are above the aggregate limit
abbrev pub fails_3 : Setting → (ℕ → ℕ → ℤ) → ℕ → Case Stop
fails_3 s b m = record { name = record { test = 3; member = m; currency = None }; holds = nat_lt (s.roster.member m).aggregate (short_marks s.sheet (b m)) }

-- 4: the adjusted value of the row is below 0
abbrev pub fails_4 : Setting → (ℕ → ℕ → ℤ) → ℕ → Case Stop
fails_4 s b m = record { name = record { test = 4; member = m; currency = None }; holds = int_lt (adjusted s.sheet (b m)) (pos 0) }

-- how the tests on the balances b, with the reservations r, can fail, in order: test by test, first party before second
abbrev pub failures_at : Setting → (ℕ → ℕ → ℕ) → (ℕ → ℕ → ℤ) → Pair → List (Case Stop)
failures_at s r b p =
    fails_1 r b p.first p.buys ∷ fails_1 r b p.second p.sells
    ∷ fails_2 s b p.first p.sells ∷ fails_2 s b p.second p.buys
    ∷ fails_3 s b p.first ∷ fails_3 s b p.second
    ∷ fails_4 s b p.first ∷ fails_4 s b p.second
    ∷ []

-- a pair is tested on the rows as they would be after both legs
abbrev pub failures : Setting → (ℕ → ℕ → ℕ) → (ℕ → ℕ → ℤ) → Pair → List (Case Stop)
failures s r b p = failures_at s r (after_pair b p) p

-- what stops the pair, if anything does
unfoldable pub stops : Setting → (ℕ → ℕ → ℕ) → (ℕ → ℕ → ℤ) → Pair → Option Stop
stops s r b p = first_of (failures s r b p)
