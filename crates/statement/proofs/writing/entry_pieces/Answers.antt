use Rattle.std.proofs.Common.{append_assoc, rules}
use Rattle.std.proofs.lemmas.Int.{to_z-of_z}
use Rattle.std.specs.Int.{w64}
use Rattle.rules.specs.Wording.{entry_line}
use Rattle.statement.proofs.writing.entry_pieces.Goals as goal

pub returns-clause-text : goal.returns-clause-text
unfolding entry_line
returns-clause-text c = rw (c.signed.ensures.text, c.number.ensures.text, c.number-2.ensures.text, c.number-3.ensures.text, to_z-of_z w64 c.args.entry.now.account.0 (search rules)) (simp append_assoc)
