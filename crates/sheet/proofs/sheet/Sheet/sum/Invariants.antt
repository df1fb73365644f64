use Rattle.std.proofs.Common.{◌≡◌, ◌*◌, ℤ}
use Rattle.rules.specs.Sheet as rules
use Rattle.rules.specs.Sums.{total_ℤ}
use Rattle.sheet.specs.Meaning.{sheet_of, currency_of}
use Rattle.sheet.specs.Balances.{Within, most_worth}
use Rattle.sheet.specs.declared.balances.Balance.{Balance}
use Rattle.sheet.proofs.sheet.Sheet.sum.Given as goal

abbrev pub invariant-loop-k : goal.invariant-loop-k
invariant-loop-k g l =
    ((f : rules.Currency → ℤ → ℤ) → ((x : _) (b : Balance) (r : ℤ) → goal.F-post g l.of_one x b r → r ≡ f (currency_of x.now) b.units.0) → l.sum ≡ total_ℤ l.k (λ c. f ((sheet_of l.fn.self).currency c) (g.B.Balances.balance l.fn.row c)))
    × Within l.sum (l.k * most_worth)
