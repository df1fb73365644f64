use Rattle.std.proofs.Common.{rules}
use Rattle.std.proofs.lemmas.Fmt.{length_signed_le}
use Rattle.statement.proofs.pieces.Piece.signed.Goals as goal

pub returns-clause-short : goal.returns-clause-short
returns-clause-short c = search (rules, length_signed_le 20)
