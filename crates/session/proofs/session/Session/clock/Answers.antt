use Rattle.std.proofs.Common.{◌≡◌, ltb, ◌||◌, true, false, [], None, refl, sym, ◌∙◌}
use Rattle.std.proofs.lemmas.Bool.{or_left, or_right, or_from, lt-ltb, le-ltb}
use Rattle.std.proofs.lemmas.Result.{err_from_is_err_and}
use Rattle.rules.specs.Bounds.{last_hour}
use Rattle.rules.specs.Calls.{accepted}
use Rattle.rules.proofs.Firsts.{at_first, at_next}
use Rattle.session.proofs.Steps.{refused_last, let_through_both}
use Rattle.session.proofs.session.Session.clock.Goals.{then-hour-self, else-hour-self}
use Rattle.session.proofs.session.Session.clock.Goals as goal

clash : {X : Type 0} → false ≡ true → X
clash e = absurd (cc)

pub returns-in_err-refuse_if : goal.returns-in_err-refuse_if
returns-in_err-refuse_if g c =
    let h = c.args.hour in
    let now = c.args.self.now.ledger.hour in
    let e = c.in_err-refuse_if.ensures in
    let p = err_from_is_err_and c.from_residual.result c.from_residual.ensures.1 in
    let holds : (ltb h now || ltb last_hour h) ≡ true = elim c.if-hour-self.branch [
      | then-hour-self w ↦ or_left (ltb h now) (ltb last_hour h) (lt-ltb h now w.if-hour-self.true)
      | else-hour-self w ↦ or_right (ltb h now) (ltb last_hour h) (sym w.refuse_if-is ∙ e.0)
    ] in
    rw (p.1, p.2, e.1, c.by.ensures) (refl, refused_last _ _ _ _ _ refl (at_first _ [] holds) refl)

pub returns : goal.returns
unfolding accepted
returns g c =
    let h = c.args.hour in
    let now = c.args.self.now.ledger.hour in
    let e = c.in_ok-refuse_if.ensures in
    let fails : (ltb h now || ltb last_hour h) ≡ false = elim c.if-hour-self.branch [
      | then-hour-self w ↦ clash (sym e ∙ w.refuse_if-is ∙ lt-ltb h now w.if-hour-self.true)
      | else-hour-self w ↦ or_from (ltb h now) (ltb last_hour h) (le-ltb h now w.if-hour-self.false) (sym w.refuse_if-is ∙ e)
    ] in
    (refl, let_through_both _ _ _ _ refl (at_next _ [] None fails refl) refl)
