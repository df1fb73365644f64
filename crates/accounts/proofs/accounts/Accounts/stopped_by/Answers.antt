use Rattle.std.proofs.Common.{◌∙◌, ap}
use Rattle.accounts.specs.Meaning.{stopped}
use Rattle.accounts.specs.Legs.{mirrored}
use Rattle.accounts.proofs.Rows.{row_is, leg_is}
use Rattle.accounts.proofs.Moved.{stops_of_rows}
use Rattle.accounts.proofs.accounts.Accounts.stopped_by.Goals as goal

pub returns : goal.returns
returns c =
    let f = c.args.self.now in
    let p = c.args.p.now in
    let x = c.after-first.ensures in
    let y = c.after-second.ensures in
    let l = x.2 ∙ (leg_is c.args.p.now c.of-leg.result c.of-leg.ensures) in
    let k = y.2 ∙ c.mirrored.ensures ∙ ap mirrored (leg_is c.args.p.now c.of-leg.result c.of-leg.ensures) in
    ap stopped c.err.ensures.value ∙ c.check.ensures ∙ stops_of_rows f p c.after-first.result c.after-second.result
    (row_is c.after-first.result f p.first _ x.0 x.1 l) (row_is c.after-second.result f p.second _ y.0 y.1 k) x.1 y.1 l k
