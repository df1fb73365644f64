use Rattle.session.proofs.SettleCall.{asked_within}
use Rattle.session.proofs.session.Session.stopped_by.Goals as goal

pub returns : goal.returns
returns g c = asked_within (g.O.QueueOrder.before c.args.self.now.order) (g.N.Nostro.cash c.args.self.now.nostro) c.args.self.now.ledger c.args.number c.stopped_by.result c.stopped_by.ensures
