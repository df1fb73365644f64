use Rattle.std.proofs.Common.{◌≡◌, ℕ, Some, None, sym, ap, ◌∙◌, subst, arith, rules}
use Rattle.std.proofs.lemmas.List.{length-take}
use Rattle.std.proofs.lemmas.Result.{err_from_is_err_and}
use Rattle.rules.specs.Sheet as rules
use Rattle.rules.specs.FileForm.{members_in}
use Rattle.rules.specs.FileRecords.{MemberRecord, member_in}
use Rattle.refusal.specs.Meaning.{refusal_of}
use Rattle.dayfile.specs.Meaning.{member_of}
use Rattle.dayfile.proofs.Formed.{counted}
use Rattle.sheet.specs.Meaning.{sheet_of}
use Rattle.intake.specs.Rosters.{roster_of, sheet_under}
use Rattle.rules.specs.FileDay.{member_refusal, with_record, roster_after, roster_refusal, roster_in}
use Rattle.runner.proofs.Stages.{one_more, stopped}
use Rattle.runner.proofs.Additions.{roster_begun, roster_stage, copied_member}
use Rattle.runner.proofs.beginning.roster_from.Goals as goal

pub loop-m-init : goal.loop-m-init
loop-m-init c =
    let b = roster_begun c.args.day.bytes.now in
    let p = c.in_ok-roster.ensures in
    record { roster = p.0 ∙ b.0; none = b.1; sheet = ap sheet_of p.1 ∙ c.requires }

pub slice_bounds-shorts-end : goal.slice_bounds-shorts-end
slice_bounds-shorts-end c = omega (arith, (counted c.args.day.bytes.now c.args.day.formed).0)

pub slice_bounds-add-end : goal.slice_bounds-add-end
slice_bounds-add-end c = let few = (counted c.args.day.bytes.now c.args.day.formed).0 in simp length-take (omega arith)

pub returns-in_err-add : goal.returns-in_err-add
returns-in_err-add c =
    let f = c.args.day.bytes.now in
    let m = c.loop-m.m in
    let kept = c.loop-m.invariant in
    let old = roster_of c.loop-m.roster in
    let e = c.in_err-add.field-0.0 in
    let same : member_of c.unwrap-x.result ≡ member_in f m = search rules in
    let copied = copied_member f m c.currencies-currencies.result c.unwrap-x.result c.short_limits-shorts.result c.args.day.formed c.currencies-currencies.ensures.count same c.short_limits-shorts.ensures.limits in
    let why = subst (λ (y : MemberRecord). member_refusal (sheet_of (sheet_under c.loop-m.roster)).currencies old y ≡ Some (refusal_of e)) copied c.in_err-add.ensures.answer.0 in
    let p = err_from_is_err_and c.from_residual-in_err-add.result c.from_residual-in_err-add.ensures.1 in
    rw (p.1, p.2) (stopped (roster_stage f) m (members_in f) old _ (omega arith) kept.roster kept.none
    (ap (λ (s : rules.Sheet). member_refusal s.currencies old (member_in f m)) (sym kept.sheet) ∙ why))

pub loop-m-preserved : goal.loop-m-preserved
loop-m-preserved c =
    let f = c.args.day.bytes.now in
    let m = c.loop-m.m in
    let kept = c.loop-m.invariant in
    let old = roster_of c.loop-m.roster in
    let new = roster_of c.add.new.self in
    let same : member_of c.unwrap-x.result ≡ member_in f m = search rules in
    let copied = copied_member f m c.currencies-currencies.result c.unwrap-x.result c.short_limits-shorts.result c.args.day.formed c.currencies-currencies.ensures.count same c.short_limits-shorts.ensures.limits in
    let p = c.in_ok-add.ensures in
    let none = subst (λ (y : MemberRecord). member_refusal (sheet_of (sheet_under c.loop-m.roster)).currencies old y ≡ None) copied p.answer.0 in
    let more = one_more (roster_stage f) m old new kept.roster kept.none
    (ap (λ (s : rules.Sheet). member_refusal s.currencies old (member_in f m)) (sym kept.sheet) ∙ none)
    (subst (λ (y : MemberRecord). new ≡ with_record old y) copied p.answer.1) in
    record { roster = more.0; none = more.1; sheet = ap sheet_of p.sheet ∙ kept.sheet }

pub returns : goal.returns
unfolding roster_in
returns c =
    let f = c.args.day.bytes.now in
    let kept = c.loop-m.invariant in
    let e : c.loop-m.m ≡ members_in f = omega arith in
    (subst (λ (n : ℕ). roster_refusal f n ≡ None) e kept.none, kept.roster ∙ ap (roster_after f) e, kept.sheet)
