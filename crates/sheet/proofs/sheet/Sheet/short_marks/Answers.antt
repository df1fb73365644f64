use Rattle.std.proofs.Common.{rules, ◌≡◌, ◌*◌, pos, ◌∙◌}
use Rattle.std.proofs.lemmas.Int.{ints}
use Rattle.rules.specs.Worth.{below_0, short_marks}
use Rattle.rules.proofs.Sum.{total_ℤ_pos}
use Rattle.sheet.specs.Meaning.{sheet_of}
use Rattle.sheet.proofs.sheet.Sheet.short_marks.Given.{Over}
use Rattle.sheet.proofs.sheet.Sheet.short_marks.Goals as goal

-- the sum is that of the short marks, so it is not below 0
sum_is : (g : Over) (c : goal.After-sum g) → c.sum.result ≡ pos (short_marks (sheet_of c.args.self.now) (g.B.Balances.balance c.args.row.now))
sum_is g c = c.sum.ensures.value (λ x b. pos (below_0 b * x.rate)) (λ x b r h. search rules) ∙ total_ℤ_pos (sheet_of c.args.self.now).currencies _

pub overflow_cast-result : goal.overflow_cast-result
overflow_cast-result g c = let e = sum_is g c in let b = c.sum.ensures.bound in search (rules, ints)

pub returns : goal.returns
returns g c = let e = sum_is g c in let b = c.sum.ensures.bound in search (rules, ints)
