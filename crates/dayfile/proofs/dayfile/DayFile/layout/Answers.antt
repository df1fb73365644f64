use Rattle.std.proofs.Common.{arith}
use Rattle.dayfile.proofs.Formed.{whole}
use Rattle.dayfile.proofs.dayfile.DayFile.layout.Goals as goal

pub of-requires : goal.of-requires
of-requires c = omega (arith, whole c.args.self.bytes.now c.args.self.formed)
