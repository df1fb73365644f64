use Rattle.std.proofs.Common.{rules}
use Rattle.rules.specs.FileWriting.{number_bytes}
use Rattle.daywriter.proofs.putting.U32Put.put.Goals as goal

pub returns : goal.returns
unfolding number_bytes
returns c = search rules
