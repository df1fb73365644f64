use Rattle.std.proofs.Common.{◌≡◌, ◌++◌}
use Rattle.rules.specs.Statements.{entry_of}
use Rattle.rules.specs.Wording.{member_line, entry_lines}
use Rattle.statement.specs.Meaning.{written, entry_count}
use Rattle.ledger.specs.Meaning.{books_within}
use Rattle.session.specs.Statements.{unordered}
use Rattle.session.proofs.statements.Subject.lines.Given as goal

abbrev pub invariant-loop-c : goal.invariant-loop-c
invariant-loop-c l =
    let x = l.self.ledger.now in
    (entry_count l.text ≡ l.c) × (written l.text ≡ member_line ((unordered x).roster.member l.self.member).name ++ entry_lines (entry_of (unordered x) (books_within x) l.self.member) l.c)
