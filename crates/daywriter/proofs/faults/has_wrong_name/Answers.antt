use Rattle.std.proofs.Common.{rules, tests}
use Rattle.rules.specs.FileWriting.{name_wrong}
use Rattle.daywriter.specs.Meaning.{member_of}
use Rattle.daywriter.proofs.Faultless.{some_from_any}
use Rattle.daywriter.proofs.faults.has_wrong_name.Goals as goal

pub returns : goal.returns
returns c = some_from_any name_wrong member_of c.args.members.now _ c.any.ensures.ran (λ x b q k. search (rules, tests)) cc
