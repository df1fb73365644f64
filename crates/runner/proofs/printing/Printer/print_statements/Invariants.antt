use Rattle.std.proofs.Common.{◌≡◌, ◌++◌, vec_items}
use Rattle.rules.specs.Printed.{statements}
use Rattle.runner.specs.Sessions.{closed_setting, closed_books}
use Rattle.runner.proofs.printing.Printer.print_statements.Given as goal

abbrev pub invariant-loop-m : goal.invariant-loop-m
invariant-loop-m l = vec_items l.self.text ≡ vec_items l.initial.self.text ++ statements (closed_setting l.day) (closed_books l.day) l.m
