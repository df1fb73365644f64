use Rattle.std.proofs.Common.{◌≡◌, ℕ, ◌+◌, ◌<◌, length, vec_items, sym, ap, subst, arith, rules, ◌^◌}
use Rattle.std.proofs.lemmas.List.{length-map}
use Rattle.rules.proofs.Pass.{pass-length}
use Rattle.ledger.specs.declared.ledger.Ledger.{Ledger}
use Rattle.accounts.specs.Meaning.{setting_within, account, reserve_of}
use Rattle.intake.specs.Parties.{pair_of}
use Rattle.ledger.specs.Turns.{passed}
use Rattle.ledger.specs.Meaning.{queue_of}
use Rattle.ledger.proofs.Passing.{UnderWay, again, ended}
use Rattle.ledger.proofs.ledger.Ledger.settle.Goals as goal

-- the queue is as long as its Vec, so its length fits
small : (x : Ledger) → length (queue_of x) < 2 ^ 63
small x = let e = length-map (vec_items x.waiting) pair_of in omega (arith, x.waiting.ok, x.waiting.small)

parts : (x : Ledger) → length (passed x).settled + length (passed x).waiting ≡ length (queue_of x)
parts x = pass-length (setting_within x.accounts) (reserve_of x.accounts) (account x.accounts) (queue_of x)

pub overflow_add-settled : goal.overflow_add-settled
overflow_add-settled c = let l : c.loop-more.settled + c.pass.result < 2 ^ 63 = omega (arith, small c.args.self.now, c.loop-more.invariant.2.shorter, parts c.loop-more.self, c.pass.ensures.count) in search rules

pub loop-more-smaller : goal.loop-more-smaller
loop-more-smaller c = let w = ap length c.pass.ensures.left.waits in let p = parts c.loop-more.self in omega (arith, c.pass.ensures.count, c.in-1-to-max)

pub loop-more-preserved : goal.loop-more-preserved
loop-more-preserved c =
    let h = c.loop-more.invariant in
    let l : 0 < length (passed c.loop-more.self).settled = omega (arith, c.pass.ensures.count, c.in-1-to-max) in (
      h.0 + 1,
      omega (arith, h.1),
      subst (λ (k : ℕ). UnderWay c.args.self.now c.pass.new.self (c.loop-more.settled + k) (h.0 + 1)) (sym c.pass.ensures.count) (again _ _ _ _ _ h.2 c.pass.ensures.left l),
    )

pub returns : goal.returns
returns c =
    let h = c.loop-more.invariant in
    let z : length (passed c.loop-more.self).settled ≡ 0 = omega (arith, c.pass.ensures.count, c.in_default) in
    let v = ended _ _ _ _ _ h.2 c.pass.ensures.left z in
    let e = length-map (vec_items c.pass.new.self.waiting) pair_of in
    record { left = v.0; counts = record { settled_is = v.1; passes_is = omega (arith, h.1, v.2); waiting_is = omega (arith, v.3, c.len.ensures, c.pass.new.self.waiting.ok) } }
