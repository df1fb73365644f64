use Rattle.rules.proofs.Queues.{queue_is_in_order}
use Rattle.rules.proofs.queue_is_in_order.Goals as goal

pub returns : goal.returns
returns c = queue_is_in_order
