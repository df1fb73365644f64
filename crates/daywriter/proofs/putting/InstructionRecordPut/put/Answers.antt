use Rattle.std.proofs.Common.{rules}
use Rattle.std.proofs.lemmas.List.{append_assoc}
use Rattle.rules.specs.FileWriting.{instruction_bytes}
use Rattle.daywriter.proofs.putting.InstructionRecordPut.put.Goals as goal

pub returns : goal.returns
unfolding instruction_bytes
returns c = search (rules, append_assoc)
