use Rattle.std.proofs.Common.{rules, ◌∙◌}
use Rattle.std.proofs.lemmas.Int.{ints}
use Rattle.rules.specs.Worth.{adjusted_one}
use Rattle.sheet.proofs.sheet.Sheet.adjusted_value.Goals as goal

pub returns : goal.returns
returns g c = let b = c.sum.ensures.bound in search (rules, ints) ∙ c.sum.ensures.value adjusted_one (λ x b r h. search rules)
