use Rattle.std.proofs.Common.{vec_items}
use Rattle.runner.specs.Sessions.{closed_setting, closed_books}
use Rattle.runner.proofs.Lines.{no_statements, statements_more}
use Rattle.runner.proofs.printing.Printer.print_statements.Goals as goal

pub loop-m-init : goal.loop-m-init
loop-m-init c = no_statements (closed_setting c.args.day.now) (closed_books c.args.day.now) (vec_items c.args.self.now.text)

pub loop-m-preserved : goal.loop-m-preserved
loop-m-preserved c = statements_more (closed_setting c.args.day.now) (closed_books c.args.day.now) (vec_items c.args.self.now.text) (vec_items c.loop-m.self.text) (vec_items c.print_statement.new.text) c.loop-m.m c.loop-m.invariant c.in_ok-print_statement.ensures
