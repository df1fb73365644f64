use Rattle.std.proofs.Common.{append_assoc}
use Rattle.rules.specs.Wording.{refusal_line}
use Rattle.statement.proofs.refusing.refusal_pieces.Goals as goal

pub returns-clause-text : goal.returns-clause-text
unfolding refusal_line
returns-clause-text c = rw (c.number-2.ensures.text, c.from.ensures, c.number.ensures, c.name.ensures.value, c.number_or_dash.ensures.text, c.number_or_dash-2.ensures.text, c.number-3.ensures.text) (simp append_assoc)
