use Rattle.std.proofs.Common.{◌≡◌, ◌+◌, length}
use Rattle.ledger.specs.Meaning.{queue_of}
use Rattle.ledger.proofs.Passing.{UnderWay}
use Rattle.ledger.proofs.ledger.Ledger.settle.Given as goal

-- the last pass, which settles nothing, is counted from the start
abbrev pub invariant-loop-more : goal.invariant-loop-more
invariant-loop-more l = (made : _) × (l.passes ≡ made + 1) × UnderWay l.initial.self l.self l.settled made

abbrev pub decreases-loop-more : goal.decreases-loop-more
decreases-loop-more l = length (queue_of l.self)
