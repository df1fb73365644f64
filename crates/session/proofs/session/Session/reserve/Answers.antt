use Rattle.std.proofs.Common.{◌<◌, ◌≤◌, [], None, refl, arith, rules}
use Rattle.std.proofs.lemmas.Bool.{lt-ltb, le-ltb}
use Rattle.std.proofs.lemmas.Result.{err_from_is_err_and}
use Rattle.rules.specs.Calls.{accepted}
use Rattle.rules.proofs.Firsts.{at_first, at_next}
use Rattle.rules.proofs.Responses.{same_books}
use Rattle.book.proofs.Tables.{put_debited, put_raised, put_kept}
use Rattle.session.proofs.Steps.{refused_first, refused_last, let_through_both}
use Rattle.session.proofs.Free.{free_short, free_enough}
use Rattle.session.proofs.session.Session.reserve.Goals as goal

pub returns-in_err-position : goal.returns-in_err-position
returns-in_err-position g c = let p = err_from_is_err_and c.from_residual.result c.from_residual.ensures.1 in rw (p.1, p.2) (refl, refused_first _ _ _ _ _ c.in_err-position.ensures refl)

pub returns-in_err-refuse_if : goal.returns-in_err-refuse_if
returns-in_err-refuse_if g c =
    let h = c.in_ok-position.ensures in
    let e = c.in_err-refuse_if.ensures in
    let p = err_from_is_err_and c.from_residual-in_err-refuse_if.result c.from_residual-in_err-refuse_if.ensures.1 in
    let l : c.args.currency ≤ 23 = omega (arith, h.0.1, c.args.self.now.ledger.accounts.sheet.few) in
    let short : c.saturating_sub-free.result.0 < c.args.amount.0 = search rules in
    let w = free_short (g.N.Nostro.cash c.args.self.now.nostro) c.args.currency c.args.amount.0 _ c.saturating_sub-free.result.0 _ _ l c.saturating_sub-free.ensures c.cash_in-cash.ensures c.reserved_in.ensures.value c.reserved_in.ensures.bound h.1 short in
    rw (p.1, p.2, e.1, c.in_currency.ensures, c.of.ensures, c.by-refusal.ensures) (refl, refused_last _ _ _ _ _ h.2 (at_first _ [] (lt-ltb _ _ w)) refl)

pub returns : goal.returns
unfolding accepted
returns g c =
    let h = c.in_ok-position.ensures in
    let x = c.args.self.now.ledger.accounts in
    let p = c.put.ensures.put (omega (arith, h.0.0, x.even), omega (arith, h.0.1, x.sheet.few)) in
    let l : c.args.currency ≤ 23 = omega (arith, h.0.1, x.sheet.few) in
    let enough : c.args.amount.0 ≤ c.saturating_sub-free.result.0 = search rules in
    let w = free_enough (g.N.Nostro.cash c.args.self.now.nostro) c.args.currency c.args.amount.0 _ c.saturating_sub-free.result.0 _ _ l c.saturating_sub-free.ensures c.cash_in-cash.ensures c.reserved_in.ensures.value enough in (
      refl,
      let_through_both _ _ _ _ h.2 (at_next _ [] None (le-ltb _ _ w) refl) (same_books _ _
          (put_debited _ _ _ _ _ p _ (λ x. x.account.0) h.3.account_is) (put_raised _ _ _ _ _ p _ (λ x. x.reserved.0) h.3.reserved_is)
          (put_kept (λ x. x.paid_in.0) _ _ _ _ _ p h.3.in_is) (put_kept (λ x. x.paid_out.0) _ _ _ _ _ p h.3.out_is)
          refl refl refl),
    )
