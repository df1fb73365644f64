use Rattle.std.proofs.Common.{◌≡◌, ℕ, Some, None, ap, ◌∙◌, subst, arith, rules}
use Rattle.std.proofs.lemmas.Result.{err_from_is_err_and}
use Rattle.rules.specs.First.{first_of}
use Rattle.rules.specs.Sheet.{Currency, adding_causes, with_currency}
use Rattle.refusal.specs.Meaning.{refusal_of}
use Rattle.rules.specs.FileForm.{currencies_in}
use Rattle.rules.specs.FileRecords.{currency_in}
use Rattle.dayfile.specs.Meaning.{currency_of}
use Rattle.sheet.specs.Meaning.{sheet_of}
use Rattle.rules.specs.FileDay.{sheet_after, sheet_refusal, sheet_in}
use Rattle.runner.proofs.Stages.{one_more, stopped}
use Rattle.runner.proofs.Additions.{sheet_begun, sheet_stage}
use Rattle.runner.proofs.beginning.sheet_from.Goals as goal

pub loop-k-init : goal.loop-k-init
loop-k-init c = let b = sheet_begun c.args.day.bytes.now in (c.in_ok-sheet.ensures ∙ b.0, b.1)

pub returns-in_err-add : goal.returns-in_err-add
returns-in_err-add c =
    let f = c.args.day.bytes.now in
    let old = sheet_of c.loop-k.sheet in
    let e = c.in_err-add.field-0.0 in
    let same : currency_of c.unwrap-x.result ≡ currency_in f c.loop-k.k = search rules in
    let why = subst (λ (x : Currency). first_of (adding_causes old x) ≡ Some (refusal_of e)) same c.in_err-add.ensures.0 in
    let p = err_from_is_err_and c.from_residual-in_err-add.result c.from_residual-in_err-add.ensures.1 in
    rw (p.1, p.2) (stopped (sheet_stage f) c.loop-k.k (currencies_in f) old _ (omega arith) c.loop-k.invariant.0 c.loop-k.invariant.1 why)

pub loop-k-preserved : goal.loop-k-preserved
loop-k-preserved c =
    let f = c.args.day.bytes.now in
    let old = sheet_of c.loop-k.sheet in
    let new = sheet_of c.add.new.self in
    let same : currency_of c.unwrap-x.result ≡ currency_in f c.loop-k.k = search rules in
    let p = c.in_ok-add.ensures in
    one_more (sheet_stage f) c.loop-k.k old new c.loop-k.invariant.0 c.loop-k.invariant.1
    (subst (λ (x : Currency). first_of (adding_causes old x) ≡ None) same p.0)
    (subst (λ (x : Currency). new ≡ with_currency old x) same p.1)

pub returns : goal.returns
unfolding sheet_in
returns c =
    let f = c.args.day.bytes.now in
    let e : c.loop-k.k ≡ currencies_in f = omega arith in
    (subst (λ (n : ℕ). sheet_refusal f n ≡ None) e c.loop-k.invariant.1, c.loop-k.invariant.0 ∙ ap (sheet_after f) e)
