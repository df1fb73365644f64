use Rattle.std.proofs.Common.{vec_items, rules}
use Rattle.std.proofs.lemmas.List.{take_all}
use Rattle.daywriter.proofs.PutMore.{more_put, more_fit}
use Rattle.daywriter.proofs.putting.put_all.Goals as goal

pub loop-x-preserved : goal.loop-x-preserved
loop-x-preserved g c =
    let put = c.in_ok-put.ensures in (
      more_put g.T.Put.bytes (vec_items c.args.out.now) (vec_items c.loop-x.out) (vec_items c.put.new.out) c.args.records.now c.loop-x.x-index c.x-item.result c.loop-x-test.true c.x-item.is c.loop-x.invariant.0 put.0,
      more_fit g.T.Put.fits c.args.records.now c.loop-x.x-index c.x-item.result c.loop-x-test.true c.x-item.is c.loop-x.invariant.1 put.1,
    )

pub returns : goal.returns
returns g c = search (rules, take_all)
