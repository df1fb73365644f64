use Rattle.std.proofs.Common.{List, vec_items, subst}
use Rattle.std.proofs.lemmas.Result.{MatchResult-at_ok}
use Rattle.intake.specs.declared.pair.Pair.{Pair}
use Rattle.queue.specs.Queues.{QueuedUp}
use Rattle.queue.proofs.Queued.{listed_queued}
use Rattle.session.proofs.session.Session.open.Goals as goal

pub invariant_of-ledger : goal.invariant_of-ledger
invariant_of-ledger g c =
    let o = c.finish-sheet.result in
    let before = g.O.QueueOrder.before c.args.order in
    let q : QueuedUp before c.deref.result.now (vec_items c.queue_up.new.queue) = MatchResult-at_ok _ _ _ c.unwrap.ensures c.queue_up.ensures.items in
    record { few = o.fewer; listed = listed_queued before (vec_items o.pairs) (vec_items c.queue_up.new.queue) _ _ (subst (λ (ps : List Pair). QueuedUp before ps (vec_items c.queue_up.new.queue)) c.deref.ensures.value q) o.listed }
