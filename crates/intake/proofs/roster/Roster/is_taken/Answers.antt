use Rattle.std.proofs.Common.{rules, tests}
use Rattle.std.specs.Str.{bytes_eq}
use Rattle.intake.specs.Members.{no_member, name_of}
use Rattle.rules.proofs.Scans.{any_below}
use Rattle.intake.proofs.roster.Roster.is_taken.Goals as goal

pub returns : goal.returns
returns c = any_below (λ m. bytes_eq (name_of m.name) c.args.name.now) no_member _ _ _ c.args.self.now.members.ok.0 c.any.ensures.ran (λ x b q k. search (rules, tests)) cc
