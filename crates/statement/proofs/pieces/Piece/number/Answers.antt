use Rattle.std.proofs.Common.{rules}
use Rattle.std.proofs.lemmas.Fmt.{length-decimal-le}
use Rattle.statement.proofs.pieces.Piece.number.Goals as goal

pub returns-clause-short : goal.returns-clause-short
returns-clause-short c = search (rules, length-decimal-le 20)
