use Rattle.rules.proofs.OnlyQueue.{queue_is_the_only_one}
use Rattle.rules.proofs.queue_is_the_only_one.Goals as goal

pub returns : goal.returns
returns c = queue_is_the_only_one
