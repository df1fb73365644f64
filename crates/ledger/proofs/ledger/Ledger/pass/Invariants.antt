use Rattle.ledger.proofs.Filter.{SoFar}
use Rattle.ledger.proofs.ledger.Ledger.pass.Given as goal

abbrev pub invariant-loop-i : goal.invariant-loop-i
invariant-loop-i l = SoFar l.initial.self l.self l.i l.place
