use Rattle.rules.proofs.Queues.{settle_is_passes}
use Rattle.rules.proofs.settle_makes_passes.Goals as goal

pub returns : goal.returns
returns c = settle_is_passes
