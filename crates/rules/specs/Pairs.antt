-- Matched pairs, and what they move.
use Rattle.std.specs.Prelude.{ℕ, ◌+◌, List, [], ◌∷◌, ℤ, pos, ◌+ℤ◌, ◌-ℤ◌}
use Rattle.rules.specs.Sums.{only}

-- `first` buys `bought` units of currency `buys` from `second`, and sells it `sold` units of `sells`
pub record Pair : Type 0 where
  pub number : ℕ
  pub first : ℕ
  pub second : ℕ
  pub buys : ℕ
  pub bought : ℕ
  pub sells : ℕ
  pub sold : ℕ
  pub reference : ℕ
  pub weight : ℕ

-- what member m buys in currency c by the pair, and what it sells
abbrev pub buys_by : Pair → ℕ → ℕ → ℕ
buys_by p m c = only p.first p.buys p.bought m c + only p.second p.sells p.sold m c

abbrev pub sells_by : Pair → ℕ → ℕ → ℕ
sells_by p m c = only p.first p.sells p.sold m c + only p.second p.buys p.bought m c

-- the same over several pairs
abbrev pub bought : List Pair → ℕ → ℕ → ℕ
bought [] m c = 0
bought (p ∷ ps) m c = buys_by p m c + bought ps m c

abbrev pub sold : List Pair → ℕ → ℕ → ℕ
sold [] m c = 0
sold (p ∷ ps) m c = sells_by p m c + sold ps m c

-- the accounts after both legs of the pair
abbrev pub after_pair : (ℕ → ℕ → ℤ) → Pair → ℕ → ℕ → ℤ
after_pair b p m c = b m c +ℤ pos (buys_by p m c) -ℤ pos (sells_by p m c)
