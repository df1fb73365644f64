use Rattle.std.proofs.Common.{refl, rules, tests}
use Rattle.rules.specs.Roster.{stray}
use Rattle.rules.proofs.Scans.{any_below}
use Rattle.intake.proofs.Additions.{a_name, padded}
use Rattle.intake.proofs.name.Name.read.Goals.{then-not-contains-via-then-not-contains, then-not-contains-via-else-not-contains+then-any}
use Rattle.intake.proofs.name.Name.read.Goals as goal

pub returns-then-not-contains : goal.returns-then-not-contains
returns-then-not-contains c = elim c.then-not-contains.branch [
  | then-not-contains-via-then-not-contains w ↦ search (rules, tests)
  | then-not-contains-via-else-not-contains+then-any w ↦
      let e = any_below stray 0 c.args.text.now _ _ refl w.any.ensures.ran (λ x b q k. search (rules, tests)) cc in
      search (rules, tests)
]

pub returns : goal.returns
returns c =
    let e = any_below stray 0 c.args.text.now _ _ refl c.any.ensures.ran (λ x b q k. search (rules, tests)) cc in
    (a_name c.args.text.now (search rules) (search rules) (search rules), padded c.args.text.now _ _ c.copy_from_slice.ensures.after)
