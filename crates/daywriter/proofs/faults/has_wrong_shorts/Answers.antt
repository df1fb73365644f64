use Rattle.std.proofs.Common.{rules, tests}
use Rattle.rules.specs.FileWriting.{shorts_wrong}
use Rattle.daywriter.specs.Meaning.{member_of}
use Rattle.daywriter.proofs.Faultless.{some_from_any}
use Rattle.daywriter.proofs.faults.has_wrong_shorts.Goals as goal

pub returns : goal.returns
returns c = some_from_any (shorts_wrong c.args.currencies) member_of c.args.members.now _ c.any.ensures.ran (λ x b q k. search (rules, tests)) cc
