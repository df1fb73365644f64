use Rattle.std.proofs.Common.{◌≤◌, ltb, Ok, Err, rules, refl, arith}
use mathlib.Core.Path.{fun_ext}
use Rattle.std.proofs.lemmas.Result.{err_from_is_err_and, MatchResult-weaker}
use Rattle.rules.specs.Calls.{accepted}
use Rattle.rules.proofs.Responses.{same_books}
use Rattle.nostro.proofs.Cash.{cash-spent}
use Rattle.book.proofs.Tables.{put_raised, put_lowered, put_kept}
use Rattle.session.proofs.Steps.{refused_first, refused_last, let_through_both, passed_on}
use Rattle.session.proofs.session.Session.pay.Goals as goal

pub returns-in_err-position : goal.returns-in_err-position
returns-in_err-position g c = let p = err_from_is_err_and c.from_residual.result c.from_residual.ensures.1 in rw (p.1, p.2) (refl, refused_first _ _ _ _ _ c.in_err-position.ensures refl)

pub returns-in_err-map_err : goal.returns-in_err-map_err
returns-in_err-map_err g c =
    let h = c.in_ok-position.ensures in
    let r = c.args.reservation in
    let l : r.currency ≤ 23 = omega (arith, h.0.1, c.args.self.now.ledger.accounts.sheet.few) in
    let p = err_from_is_err_and c.from_residual-in_err-map_err.result c.from_residual-in_err-map_err.ensures.1 in
    let o = passed_on r.member r.currency 20 (ltb (g.N.Nostro.cash c.args.self.now.nostro r.currency) r.amount.0) l _ _ c.pay-2.result (Err c.in_err-map_err.field-0.0) c.pay-2.ensures (MatchResult-weaker c.pay-2.result c.in_err-map_err.ensures.cases (λ x k. k) (λ e k. search rules)) in
    rw (p.1, p.2) (refl, refused_last _ _ _ _ _ h.1 o.0 (same_books _ _ refl refl refl refl refl refl (fun_ext o.1)))

pub returns : goal.returns
unfolding accepted
returns g c =
    let h = c.in_ok-position.ensures in
    let r = c.args.reservation in
    let x = c.args.self.now.ledger.accounts in
    let l : r.currency ≤ 23 = omega (arith, h.0.1, x.sheet.few) in
    let p = c.put.ensures.put (omega (arith, h.0.0, x.even), omega (arith, h.0.1, x.sheet.few)) in
    let o = passed_on r.member r.currency 20 (ltb (g.N.Nostro.cash c.args.self.now.nostro r.currency) r.amount.0) l _ _ c.pay-2.result (Ok c.in_ok-map_err.field-0) c.pay-2.ensures (MatchResult-weaker c.pay-2.result c.in_ok-map_err.ensures.cases (λ x k. k) (λ e k. absurd k)) in (
      refl,
      let_through_both _ _ _ _ h.1 o.0 (same_books _ _
          (put_kept (λ x. x.account.0) _ _ _ _ _ p h.2.account_is) (put_lowered _ _ _ _ _ p _ (λ x. x.reserved.0) h.2.reserved_is)
          (put_kept (λ x. x.paid_in.0) _ _ _ _ _ p h.2.in_is) (put_raised _ _ _ _ _ p _ (λ x. x.paid_out.0) h.2.out_is)
          refl refl (cash-spent _ _ _ _ o.1)),
    )
