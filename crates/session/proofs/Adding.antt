-- A statement takes the line of every currency of a sheet.
use Rattle.std.proofs.Common.{◌≡◌, ℕ, ◌+◌, ◌<◌, Ok, Err, List, Result, ◌++◌, ap, ◌∙◌, arith}
use Rattle.rules.specs.Wording.{Entry, entry_line, entry_lines}
use Rattle.statement.specs.declared.statement.Statement.{Statement}
use Rattle.statement.specs.declared.statement.NoLineLeft.{NoLineLeft}
use Rattle.statement.specs.Meaning.{written, entry_count, Added}
use Rattle.statement.proofs.Lines.{lines_more}

pub one_line : (old new : Statement) (e : Entry) (r : Result Unit NoLineLeft) (p : List ℕ) (f : ℕ → Entry) (n : ℕ) → Added old e r new → entry_count old ≡ n → n < 24 → written old ≡ p ++ entry_lines f n → e ≡ f n → (entry_count new ≡ n + 1) × (written new ≡ p ++ entry_lines f (n + 1))
one_line old new e (Ok _) p f n h k l w q = (omega (arith, h.1), h.2 ∙ ap (λ (t : List ℕ). t ++ entry_line e) w ∙ ap (λ (x : Entry). (p ++ entry_lines f n) ++ entry_line x) q ∙ lines_more p f n)
one_line old new e (Err _) p f n h k l w q = absurd (omega (arith, h.0))
