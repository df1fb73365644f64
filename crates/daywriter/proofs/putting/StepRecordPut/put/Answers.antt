use Rattle.std.proofs.Common.{vec_items}
use Rattle.std.proofs.lemmas.Result.{on_ok_weaker}
use Rattle.daywriter.proofs.PutMore.{fields_put}
use Rattle.daywriter.proofs.putting.StepRecordPut.put.Goals as goal

pub returns : goal.returns
returns c = on_ok_weaker c.put.result (fields_put (vec_items c.args.out.now) (vec_items c.put.new.out) c.args.self.now c.from.result c.from.ensures) c.put.ensures
