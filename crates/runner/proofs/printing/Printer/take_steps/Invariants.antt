use Rattle.std.proofs.Common.{◌≡◌, ◌++◌, vec_items}
use Rattle.dayfile.specs.Meaning.{file_of}
use Rattle.rules.specs.FileDay.{books_after}
use Rattle.rules.specs.Printed.{step_lines}
use Rattle.runner.specs.Sessions.{setting, books}
use Rattle.runner.proofs.printing.Printer.take_steps.Given as goal

abbrev pub invariant-loop-k : goal.invariant-loop-k
invariant-loop-k l = record {
  day : l.self.day ≡ l.initial.self.day;
  setting : setting l.session ≡ setting l.initial.session;
  books : books l.session ≡ books_after (file_of l.initial.self.day) l.k;
  text : vec_items l.self.text ≡ vec_items l.initial.self.text ++ step_lines (file_of l.initial.self.day) l.k;
}
