-- A row after one leg, and the tests on the two rows of a pair.
use Rattle.std.specs.Prelude.{◌≡◌, ℕ, true, false, Ok, Err, Result, cond, List, [], ◌∷◌, ℤ, pos, ◌+ℤ◌, ◌-ℤ◌, ◌==◌}
use Rattle.rules.specs.First.{Case}
use Rattle.rules.specs.Setting.{Setting}
use Rattle.rules.specs.Tests as tests
use Rattle.rules.specs.Tests.{fails_1, fails_2, fails_3, fails_4}
use Rattle.intake.specs.declared.pair.Pair.{Pair}
use Rattle.book.specs.Rows.{position}
use Rattle.accounts.specs.declared.leg.Leg.{Leg}
use Rattle.accounts.specs.declared.after.After.{After}
use Rattle.accounts.specs.declared.stop.Stop.{Stop}
use Rattle.accounts.specs.Meaning.{stop_of}

-- what the first party of a pair does
pub record LegOf (p : Pair) (l : Leg) : Type 0 where
  pub buys_is : l.buys ≡ p.buys
  pub bought_is : l.bought ≡ p.bought
  pub sells_is : l.sells ≡ p.sells
  pub sold_is : l.sold ≡ p.sold

-- what the other party does
abbrev pub mirrored : Leg → Leg
mirrored l = record { buys = l.sells; bought = l.sold; sells = l.buys; sold = l.bought; small = (l.small.1, l.small.0) }

-- a at c, and 0 elsewhere
abbrev pub at : ℕ → ℕ → ℕ → ℕ
at c a k = cond (c == k) a 0

-- a row after one leg
abbrev pub after_leg : (ℕ → ℤ) → Leg → ℕ → ℤ
after_leg row l c = row c +ℤ pos (at l.buys l.bought.0 c) -ℤ pos (at l.sells l.sold.0 c)

abbrev pub row_after : After → ℕ → ℤ
row_after x c = after_leg (λ k. (position x.book.now x.member k).account.0) x.leg c

-- the tests on the rows x of the first party and y of the second, in order
abbrev pub tests_on : Setting → (ℕ → ℕ → ℕ) → After → After → List (Case tests.Stop)
tests_on s r x y =
    fails_1 r (λ _. row_after x) x.member x.leg.buys ∷ fails_1 r (λ _. row_after y) y.member y.leg.buys
    ∷ fails_2 s (λ _. row_after x) x.member x.leg.sells ∷ fails_2 s (λ _. row_after y) y.member y.leg.sells
    ∷ fails_3 s (λ _. row_after x) x.member ∷ fails_3 s (λ _. row_after y) y.member
    ∷ fails_4 s (λ _. row_after x) x.member ∷ fails_4 s (λ _. row_after y) y.member
    ∷ []

-- a test is passed, or the stop is that of its failure
abbrev pub Checks : Case tests.Stop → Result Unit Stop → Type 0
Checks x (Ok _) = x.holds ≡ false
Checks x (Err e) = (x.holds ≡ true) × (stop_of e ≡ x.name)
