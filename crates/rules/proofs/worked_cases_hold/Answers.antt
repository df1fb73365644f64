use Rattle.rules.proofs.Examples.{worked_cases}
use Rattle.rules.proofs.worked_cases_hold.Goals as goal

pub returns : goal.returns
returns c = worked_cases
