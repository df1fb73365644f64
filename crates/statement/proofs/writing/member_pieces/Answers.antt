use Rattle.std.proofs.Common.{rules}
use Rattle.rules.specs.Wording.{member_line}
use Rattle.statement.proofs.writing.member_pieces.Goals as goal

pub returns-clause-text : goal.returns-clause-text
unfolding member_line
returns-clause-text c = search rules
