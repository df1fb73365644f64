use Rattle.std.proofs.Common.{append_assoc}
use Rattle.rules.specs.Wording.{pairs_line}
use Rattle.statement.proofs.writing.pairs_pieces.Goals as goal

pub returns-clause-text : goal.returns-clause-text
unfolding pairs_line
returns-clause-text c = rw (c.number.ensures.text, c.number-2.ensures.text) (simp append_assoc)
