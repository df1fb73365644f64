use Rattle.std.proofs.Common.{◌≡◌, ◌++◌, Option, vec_items, refl, ap, ◌∙◌, rules}
use Rattle.rules.specs.Refusals.{Refusal}
use Rattle.rules.specs.FileRecords.{FileStep, step_in}
use Rattle.rules.specs.FileDay.{carried_out}
use Rattle.rules.specs.Printed.{line_at, refusal_in}
use Rattle.dayfile.specs.Meaning.{step_of}
use Rattle.runner.specs.Sessions.{setting, books}
use Rattle.runner.proofs.Lines.{no_steps, books_more, step_line_more}
use Rattle.runner.proofs.printing.Printer.take_steps.Goals as goal

pub loop-k-init : goal.loop-k-init
loop-k-init c = record { day = refl; setting = refl; books = c.requires.opened; text = no_steps c.args.self.now.day.bytes.now (vec_items c.args.self.now.text) }

pub loop-k-preserved : goal.loop-k-preserved
loop-k-preserved c =
    let f = c.args.self.now.day.bytes.now in
    let k = c.loop-k.k in
    let kept = c.loop-k.invariant in
    let s = setting c.loop-k.session in
    let old = books c.loop-k.session in
    let text = vec_items c.loop-k.self.text in
    let same : step_of c.unwrap.result ≡ step_in f k = search rules in
    let left = c.take_step-answer.ensures.books ∙ ap (λ (x : FileStep). (carried_out s old x).books) same in
    let said = c.take_step-answer.ensures.refusal ∙ ap (λ (x : FileStep). refusal_in (carried_out s old x).answer) same in
    record {
      day = kept.day;
      setting = c.take_step-answer.ensures.setting ∙ kept.setting;
      books = books_more f k s old _ (kept.setting ∙ c.requires.setting) kept.books left;
      text = step_line_more f (vec_items c.args.self.now.text) k s old text (vec_items c.print_refused.new.text) (kept.setting ∙ c.requires.setting) kept.books kept.text (c.in_ok-print_refused.ensures ∙ ap (λ (o : Option Refusal). text ++ line_at k o) said);
    }
