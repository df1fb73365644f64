use Rattle.std.proofs.Common.{ℕ, [], length, length-append, ap, arith}
use Rattle.std.proofs.lemmas.List.Folds.{length-flat_map-take}
use Rattle.statement.specs.Pieces.{piece_text}
use Rattle.statement.specs.declared.pieces.Piece.TheVariants.{Bytes}
use Rattle.statement.proofs.pieces.put_line.Goals as goal

pub put-requires : goal.put-requires
put-requires c = omega (arith, length-append {A = ℕ}, ap (length {A = ℕ}) c.loop-piece.invariant, length-flat_map-take piece_text c.args.line.now c.loop-piece.piece-index (Bytes record { ref_ptr = (0, 0); now = [] }) (omega arith))
