use Rattle.std.proofs.Common.{ltb, refl, rules, tests, arith}
use Rattle.rules.specs.Bounds.{most_units}
use Rattle.rules.proofs.Scans.{any_below}
use Rattle.intake.proofs.Additions.{in_range, kept_in_range}
use Rattle.intake.proofs.limits.Limits.read.Goals.{then-gt-via-then-gt, then-gt-via-else-gt+then-any}
use Rattle.intake.proofs.limits.Limits.read.Goals as goal

pub returns-then-gt : goal.returns-then-gt
returns-then-gt c = elim c.then-gt.branch [
  | then-gt-via-then-gt w ↦ search (rules, tests)
  | then-gt-via-else-gt+then-any w ↦
      let e = any_below (ltb most_units) 0 c.args.shorts.now _ _ refl w.any.ensures.ran (λ x b q k. search (rules, tests)) cc in
      search (rules, tests)
]

pub invariant_of-result : goal.invariant_of-result
invariant_of-result c =
    let e = any_below (ltb most_units) 0 c.args.shorts.now _ _ refl c.any.ensures.ran (λ x b q k. search (rules, tests)) cc in
    let sound = in_range c.args.shorts.now c.args.aggregate.0 (search rules) (search rules) in
    record { limited = λ k. let same = c.by_currency.ensures k in let l = kept_in_range c.args.shorts.now c.args.aggregate.0 sound k in omega arith }

pub returns : goal.returns
returns c =
    let e = any_below (ltb most_units) 0 c.args.shorts.now _ _ refl c.any.ensures.ran (λ x b q k. search (rules, tests)) cc in
    (in_range c.args.shorts.now c.args.aggregate.0 (search rules) (search rules), (c.by_currency.ensures, refl))
