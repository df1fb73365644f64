use Rattle.std.proofs.Common.{◌≡◌, ◌++◌, vec_items}
use Rattle.dayfile.specs.Meaning.{file_of}
use Rattle.intake.specs.Books.{book_of, roster_under}
use Rattle.rules.specs.FileDay.{book_after}
use Rattle.rules.specs.Printed.{instruction_lines}
use Rattle.runner.proofs.printing.Printer.submit_all.Given as goal

abbrev pub invariant-loop-k : goal.invariant-loop-k
invariant-loop-k l = record {
  day : l.self.day ≡ l.initial.self.day;
  book : book_of l.intake ≡ book_after (file_of l.initial.self.day) l.k;
  roster : roster_under l.intake ≡ roster_under l.initial.intake;
  text : vec_items l.self.text ≡ vec_items l.initial.self.text ++ instruction_lines (file_of l.initial.self.day) l.k;
}
