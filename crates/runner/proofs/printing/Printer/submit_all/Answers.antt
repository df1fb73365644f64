use Rattle.std.proofs.Common.{◌≡◌, ◌++◌, Option, vec_items, refl, ap, ◌∙◌, rules}
use Rattle.rules.specs.Refusals.{Refusal}
use Rattle.rules.specs.FileRecords.{instruction_in}
use Rattle.rules.specs.Printed.{line_at}
use Rattle.dayfile.specs.Meaning.{instruction_of as recorded}
use Rattle.intake.specs.Rosters.{terms_of}
use Rattle.intake.specs.Books.{instruction_of, book_of, roster_under}
use Rattle.runner.proofs.Lines.{no_instructions, book_more, instruction_line_more}
use Rattle.runner.proofs.Taken.{taken}
use Rattle.runner.proofs.printing.Printer.submit_all.Goals as goal

pub loop-k-init : goal.loop-k-init
loop-k-init c = record { day = refl; book = c.requires.empty; roster = refl; text = no_instructions c.args.self.now.day.bytes.now (vec_items c.args.self.now.text) }

pub loop-k-preserved : goal.loop-k-preserved
loop-k-preserved c =
    let f = c.args.self.now.day.bytes.now in
    let k = c.loop-k.k in
    let kept = c.loop-k.invariant in
    let old = book_of c.loop-k.intake in
    let new = book_of c.submit-answer.new.self in
    let text = vec_items c.loop-k.self.text in
    let same : recorded c.unwrap-record.result ≡ instruction_in f k = search rules in
    let done = taken f k (terms_of (roster_under c.loop-k.intake)) old new (instruction_of c.instruction_of.result) c.submit-answer.result (ap terms_of kept.roster ∙ c.requires.terms) (c.instruction_of.ensures ∙ same) c.submit-answer.ensures.answer in
    record {
      day = kept.day;
      book = book_more f k old new kept.book done.0;
      roster = c.submit-answer.ensures.roster ∙ kept.roster;
      text = instruction_line_more f (vec_items c.args.self.now.text) k old text (vec_items c.print_refused.new.text) kept.book kept.text (c.in_ok-print_refused.ensures ∙ ap (λ (o : Option Refusal). text ++ line_at k o) done.1);
    }
