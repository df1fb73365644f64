-- The lines of a statement, one currency after another: for a loop that adds them.
use Rattle.std.proofs.Common.{◌≡◌, ℕ, ◌+◌, List, ◌++◌, sym, append_assoc, append-nil, add-one}
use Rattle.rules.specs.Wording.{Entry, entry_line, entry_lines}

pub lines_none : (p : List ℕ) (entry : ℕ → Entry) → p ≡ p ++ entry_lines entry 0
unfolding entry_lines
lines_none p entry = sym (append-nil p)

pub lines_more : (p : List ℕ) (entry : ℕ → Entry) (n : ℕ) → (p ++ entry_lines entry n) ++ entry_line (entry n) ≡ p ++ entry_lines entry (n + 1)
unfolding entry_lines
lines_more p entry n = rw (add-one n) (append_assoc p (entry_lines entry n) (entry_line (entry n)))
