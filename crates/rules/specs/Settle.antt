-- Settle: passes over the waiting pairs, in queue order.
use Rattle.std.specs.Prelude.{ℕ, zero, suc, List, [], ◌∷◌, ◌++◌, length, ℤ, Some, None, Option}
use Rattle.rules.specs.Pairs.{Pair, after_pair}
use Rattle.rules.specs.Setting.{Setting}
use Rattle.rules.specs.Tests.{Stop, stops}

-- what a pass leaves: the balances, the pairs that it settled and those that wait, both in queue order
pub record Passed : Type 0 where
  pub balances : ℕ → ℕ → ℤ
  pub settled : List Pair
  pub waiting : List Pair

abbrev pub and_settled : Pair → Passed → Passed
and_settled p x = record { balances = x.balances; settled = p ∷ x.settled; waiting = x.waiting }

abbrev pub and_waiting : Pair → Passed → Passed
and_waiting p x = record { balances = x.balances; settled = x.settled; waiting = p ∷ x.waiting }

abbrev pub passed_by : Option Stop → Pair → (Unit {0} → Passed) → (Unit {0} → Passed) → Passed
passed_by None p x y = and_settled p (x tt)
passed_by (Some t) p x y = and_waiting p (y tt)

-- one pass: each waiting pair is tested once, and settles before the next is tested if nothing stops it
unfoldable pub pass : Setting → (ℕ → ℕ → ℕ) → (ℕ → ℕ → ℤ) → List Pair → Passed
pass s r b [] = record { balances = b; settled = []; waiting = [] }
pass s r b (p ∷ ps) = passed_by (stops s r b p) p (λ _. pass s r (after_pair b p) ps) (λ _. pass s r b ps)

-- what settle leaves: the pairs that it settled, in the order of settling, and the number of passes
pub record Settled : Type 0 where
  pub balances : ℕ → ℕ → ℤ
  pub settled : List Pair
  pub waiting : List Pair
  pub made : ℕ

abbrev pub and_before : List Pair → Settled → Settled
and_before ps x = record { balances = x.balances; settled = ps ++ x.settled; waiting = x.waiting; made = suc x.made }

abbrev pub passes_by : List Pair → (ℕ → ℕ → ℤ) → List Pair → (Unit {0} → Settled) → Settled
passes_by [] b ws next = record { balances = b; settled = []; waiting = ws; made = 1 }
passes_by (p ∷ ps) b ws next = and_before (p ∷ ps) (next tt)

-- passes until one settles nothing: at most as many settle something as pairs wait
unfoldable pub passes : ℕ → Setting → (ℕ → ℕ → ℕ) → (ℕ → ℕ → ℤ) → List Pair → Settled
passes zero s r b ws = record { balances = b; settled = []; waiting = ws; made = 1 }
passes (suc k) s r b ws = let x = pass s r b ws in passes_by x.settled b ws (λ _. passes k s r x.balances x.waiting)

abbrev pub settle_all : Setting → (ℕ → ℕ → ℕ) → (ℕ → ℕ → ℤ) → List Pair → Settled
settle_all s r b ws = passes (length ws) s r b ws
