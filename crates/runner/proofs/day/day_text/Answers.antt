use Rattle.std.proofs.Common.{◌≡◌, ℕ, List, [], None, Err, vec_items, refl, ap, ◌∙◌, subst}
use Rattle.std.proofs.lemmas.Result.{err_from_is_err_and}
use Rattle.rules.specs.Setting.{Setting}
use Rattle.rules.specs.Books.{closed}
use Rattle.rules.specs.Orders.{by_number}
use Rattle.rules.specs.FileForm.{currencies_in, steps_in}
use Rattle.rules.specs.FileDay.{sheet_refusal, day_refusal, setting_in, books_after}
use Rattle.rules.specs.Printed.{day_lines}
use Rattle.intake.specs.Rosters.{terms_of}
use Rattle.session.specs.Opening.{day_of}
use Rattle.runner.specs.Sessions.{cash, closed_setting, closed_books}
use Rattle.runner.specs.Ending.{SheetRead, RosterRead}
use Rattle.runner.proofs.Lines.{whole_day}
use Rattle.runner.proofs.Opened.{terms_same, no_book, day_same, opened_same, all_members}
use Rattle.runner.proofs.Endings.{form_ends, sheet_ends, roster_ends, nothing_ends}
use Rattle.runner.proofs.day.day_text.Goals as goal

pub returns-in_err-day : goal.returns-in_err-day
returns-in_err-day c =
    let p = err_from_is_err_and c.from_residual.result c.from_residual.ensures.1 in
    rw (p.1, p.2) (form_ends c.args.file.now _ c.in_err-day.ensures)

pub returns-in_err-sheet : goal.returns-in_err-sheet
returns-in_err-sheet c =
    let h = c.in_err-sheet.field-0.0 in
    let q = c.in_ok-day.ensures in
    let p = err_from_is_err_and c.from_residual-in_err-sheet.result c.from_residual-in_err-sheet.ensures.1 in
    rw (p.1, p.2) (sheet_ends c.args.file.now h q.0 (subst (λ (f : List ℕ). SheetRead f (Err h)) q.1 c.in_err-sheet.ensures))

pub returns-in_err-roster : goal.returns-in_err-roster
returns-in_err-roster c =
    let h = c.in_err-roster.field-0.0 in
    let q = c.in_ok-day.ensures in
    let p = err_from_is_err_and c.from_residual-in_err-roster.result c.from_residual-in_err-roster.ensures.1 in
    rw (p.1, p.2) (roster_ends c.args.file.now h q.0
    (subst (λ (f : List ℕ). sheet_refusal f (currencies_in f) ≡ None) q.1 c.in_ok-sheet.ensures.0)
    (subst (λ (f : List ℕ). RosterRead f (Err h)) q.1 c.in_err-roster.ensures))

pub submit_all-requires : goal.submit_all-requires
submit_all-requires c =
    let g = c.in_ok-day.day.bytes.now in
    let r = c.in_ok-roster.ensures in
    let x = c.in_ok-intake.ensures in
    rw c.new-printer.ensures.day (record { terms = ap terms_of x.1 ∙ terms_same g c.in_ok-roster.roster r.1 r.2; empty = x.0 ∙ no_book g })

pub take_steps-requires : goal.take_steps-requires
take_steps-requires c =
    let g = c.in_ok-day.day.bytes.now in
    let r = c.in_ok-roster.ensures in
    let x = c.submit_all.new.intake in
    let same = c.new-printer.ensures.day in
    let book = rw same at c.in_ok-submit_all.ensures.book in
    let d : day_of by_number x ≡ setting_in g = day_same g x c.in_ok-roster.roster (c.in_ok-submit_all.ensures.roster ∙ c.in_ok-intake.ensures.1) r.1 r.2 book in
    rw (c.in_ok-submit_all.ensures.day, same) (record { setting = c.open-session.ensures.setting ∙ d; opened = c.open-session.ensures.books ∙ opened_same g (day_of by_number x) (cash c.empty.result) d c.empty.ensures })

pub print_statements-requires : goal.print_statements-requires
print_statements-requires c =
    let g = c.in_ok-day.day.bytes.now in
    let same = c.in_ok-submit_all.ensures.day ∙ c.new-printer.ensures.day in
    let s : closed_setting c.close.result ≡ setting_in g = c.close.ensures.setting ∙ (rw same at c.in_ok-take_steps.ensures.setting) in
    rw (c.in_ok-take_steps.ensures.day, same) (ap (λ (y : Setting). y.roster.members) s ∙ all_members g)

pub returns : goal.returns
returns c =
    let g = c.in_ok-day.day.bytes.now in
    let q = c.in_ok-day.ensures in
    let D = c.close.result in
    let new = vec_items c.print_statements.new.self.text in
    let printer = c.new-printer.ensures in
    let same = c.in_ok-submit_all.ensures.day ∙ printer.day in
    let instructions = rw (printer.day, printer.text) at c.in_ok-submit_all.ensures.text in
    let steps = rw same at c.in_ok-take_steps.ensures.text in
    let statements = rw (c.in_ok-take_steps.ensures.day, same) at c.in_ok-print_statements.ensures in
    let s : closed_setting D ≡ setting_in g = c.close.ensures.setting ∙ (rw same at c.in_ok-take_steps.ensures.setting) in
    let b : closed_books D ≡ closed (books_after g (steps_in g)) = c.close.ensures.books ∙ ap closed (rw same at c.in_ok-take_steps.ensures.books) in
    let none : day_refusal g ≡ None = nothing_ends g c.in_ok-day.day.formed c.in_ok-sheet.ensures.0 c.in_ok-roster.ensures.0 in
    let lines : new ≡ day_lines g = whole_day g [] (vec_items c.submit_all.new.self.text) (vec_items c.take_steps.new.self.text) new (closed_setting D) (closed_books D) _ instructions steps statements s b refl in
    subst (λ (f : List ℕ). (day_refusal f ≡ None) × (new ≡ day_lines f)) q.1 (none, lines)
