use Rattle.std.proofs.Common.{◌≡◌, ◌<◌, ◌≤◌, map, length, get_or, set, vec_items, refl, ap, ◌∙◌, sym, arith, rules}
use borrow.Author.Rules.{get_or_read}
use Rattle.rules.specs.Pairs.{after_pair}
use Rattle.intake.specs.Parties.{no_pair, pair_of}
use Rattle.accounts.specs.Meaning.{account}
use Rattle.ledger.proofs.Filter.{ComesTo, settles, stays, over, comes_over}
use Rattle.ledger.proofs.ledger.Ledger.pass.Goals.{then-is_some, else-is_some}
use Rattle.ledger.proofs.ledger.Ledger.pass.Goals as goal

pub loop-i-preserved : goal.loop-i-preserved
loop-i-preserved c =
    let n = c.loop-i.self in
    let p = c.index.result.now in
    let l : c.loop-i.i < length (vec_items c.args.self.now.waiting) = search rules in
    let is : p ≡ get_or (vec_items n.waiting) c.loop-i.i no_pair = search (rules, get_or_read) in
    elim c.if-is_some.branch [
      | then-is_some w ↦
          let t : ComesTo n c.if-is_some.self (account n.accounts) (set (vec_items n.waiting) c.loop-i.place p) = rw w.self-is (record { holdings = search rules; waits = refl; pairs_stay = refl; hour_stays = refl }) in
          stays _ n c.if-is_some.self c.loop-i.i c.loop-i.place c.if-is_some.place p c.try_settle.result c.loop-i.invariant l is c.try_settle.ensures.stop (sym c.is_some.ensures ∙ w.if-is_some.true) t w.place-is
      | else-is_some w ↦
          let t : ComesTo n c.if-is_some.self (after_pair (account n.accounts) (pair_of p)) (vec_items n.waiting) = rw w.self-is (record { holdings = search rules; waits = refl; pairs_stay = refl; hour_stays = refl }) in
          settles _ n c.if-is_some.self c.loop-i.i c.loop-i.place c.if-is_some.place p c.try_settle.result c.loop-i.invariant l is c.try_settle.ensures.stop (sym c.is_some.ensures ∙ w.if-is_some.false) t w.place-is
    ]

pub returns : goal.returns
returns c =
    let l : length (vec_items c.args.self.now.waiting) ≤ c.loop-i.i = search rules in
    let v = over c.args.self.now c.loop-i.self c.loop-i.i c.loop-i.place c.loop-i.invariant l in
    record {
      left = record { holdings = comes_over _ _ _ c.loop-i.invariant.holdings v.0; waits = ap (map pair_of) c.truncate.ensures.items ∙ v.1; pairs_stay = c.loop-i.invariant.pairs_stay; hour_stays = c.loop-i.invariant.hour_stays };
      count = omega (arith, v.2, c.loop-i.invariant.size, c.len-before.ensures, c.loop-i.self.waiting.ok, c.args.self.now.waiting.ok, c.loop-i.auto.i-end);
    }
