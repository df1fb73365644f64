use Rattle.std.proofs.Common.{◌∙◌}
use Rattle.accounts.proofs.Rows.{leg_is}
use Rattle.accounts.proofs.Moved.{high_1, low_1, high_2, low_2, both_legs}
use Rattle.accounts.proofs.accounts.Accounts.move_pair.Goals as goal

pub move_leg-requires-clause-high : goal.move_leg-requires-clause-high
move_leg-requires-clause-high c = high_1 c.args.self.now c.args.p.now c.requires.passes c.of-leg.result (leg_is c.args.p.now c.of-leg.result c.of-leg.ensures)

pub move_leg-requires-clause-low : goal.move_leg-requires-clause-low
move_leg-requires-clause-low c = low_1 c.args.self.now c.args.p.now c.requires.passes c.of-leg.result (leg_is c.args.p.now c.of-leg.result c.of-leg.ensures)

pub move_leg-requires-2-clause-high : goal.move_leg-requires-2-clause-high
move_leg-requires-2-clause-high c = high_2 c.args.self.now c.args.p.now c.requires.passes c.move_leg.new.self c.of-leg.result (leg_is c.args.p.now c.of-leg.result c.of-leg.ensures) c.move_leg.ensures c.mirrored.result c.mirrored.ensures

pub move_leg-requires-2-clause-low : goal.move_leg-requires-2-clause-low
move_leg-requires-2-clause-low c = low_2 c.args.self.now c.args.p.now c.requires.passes c.move_leg.new.self c.of-leg.result (leg_is c.args.p.now c.of-leg.result c.of-leg.ensures) c.move_leg.ensures c.mirrored.result c.mirrored.ensures

pub returns : goal.returns
returns c =
    let a = c.move_leg.ensures in
    let b = c.move_leg-2.ensures in
    record {
      accounts = b.accounts ∙ both_legs c.args.self.now c.args.p.now c.requires.passes c.move_leg.new.self c.of-leg.result (leg_is c.args.p.now c.of-leg.result c.of-leg.ensures) a c.mirrored.result c.mirrored.ensures;
      reserves = b.reserves ∙ a.reserves;
      ins = b.ins ∙ a.ins;
      outs = b.outs ∙ a.outs;
      sheets = b.sheets ∙ a.sheets;
      rosters = b.rosters ∙ a.rosters;
    }
