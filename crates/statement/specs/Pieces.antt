-- What the pieces of a line say, and what a text's copy into a buffer leaves.
use Rattle.std.specs.Prelude.{◌≡◌, ℕ, ◌<◌, ◌≤◌, List, ◌++◌, length, drop, decimal, Some, None, Option}
use Rattle.std.specs.Fmt.{signed_decimal}
use Rattle.statement.specs.declared.pieces.Piece.{Piece}
use Rattle.statement.specs.declared.pieces.Piece.TheVariants.{Bytes, Number, Signed}

abbrev pub piece_text : Piece → List ℕ
piece_text (Bytes bytes) = bytes.now
piece_text (Number n) = decimal n
piece_text (Signed z) = signed_decimal z

-- a call that writes a text into a buffer answers its length, and leaves it at the buffer's front and the rest as it was;
-- or it answers nothing and leaves every byte as it was, just where the text is longer than the buffer
abbrev pub Copied : List ℕ → List ℕ → Option ℕ → List ℕ → Type 0
Copied text old (Some n) new = (n ≡ length text) × (n ≤ length old) × (new ≡ text ++ drop n old)
Copied text old None new = (length old < length text) × (new ≡ old)
