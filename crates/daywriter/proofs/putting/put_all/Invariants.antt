use Rattle.std.proofs.Common.{◌≡◌, ◌++◌, take, vec_items}
use Rattle.std.specs.List.{flat_map, AllByRecursion}
use Rattle.daywriter.proofs.putting.put_all.Given as goal

abbrev pub invariant-loop-x : goal.invariant-loop-x
invariant-loop-x g l = (vec_items l.out ≡ vec_items l.initial.out ++ flat_map g.T.Put.bytes (take l.x-index l.records)) × AllByRecursion g.T.Put.fits (take l.x-index l.records)
