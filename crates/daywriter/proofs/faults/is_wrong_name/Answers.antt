use Rattle.std.proofs.Common.{rules, tests}
use Rattle.daywriter.proofs.Faultless.{space_last}
use Rattle.daywriter.proofs.faults.is_wrong_name.Goals as goal

pub returns-else-name-gt-LONGEST_NAME : goal.returns-else-name-gt-LONGEST_NAME
returns-else-name-gt-LONGEST_NAME c = search (rules, tests, space_last)
