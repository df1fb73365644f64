use Rattle.std.proofs.Common.{map, length, vec_items, refl}
use Rattle.intake.specs.Parties.{pair_of}
use Rattle.accounts.specs.Meaning.{setting_for, setting_within, account, reserve_of}
use Rattle.ledger.specs.Meaning.{queue_of}
use Rattle.ledger.specs.Turns.{settled_all}
use Rattle.session.proofs.SettleCall.{same_passes, same_stops, settle_does}
use Rattle.session.proofs.session.Session.settle.Goals as goal

pub returns : goal.returns
returns g c =
    let t = c.settle.ensures.left in
    let x = c.args.self.now.ledger in (
      (λ i. setting_for (g.O.QueueOrder.before c.args.self.now.order) (map pair_of (vec_items (t.pairs_stay i))) (t.holdings.sheets i) (t.holdings.rosters i)),
      settle_does _ _ _ (settled_all x) c.settle.result
          (same_passes (setting_within x.accounts) _ (reserve_of x.accounts) (same_stops _ _ x.accounts (reserve_of x.accounts)) (length (queue_of x)) (account x.accounts) (queue_of x))
          c.settle.ensures.counts t.holdings.accounts t.holdings.reserves t.holdings.ins t.holdings.outs t.hour_stays t.waits refl,
    )
