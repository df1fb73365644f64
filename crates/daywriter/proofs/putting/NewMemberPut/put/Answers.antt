use Rattle.std.proofs.Common.{rules}
use Rattle.std.proofs.lemmas.List.{append_assoc}
use Rattle.rules.specs.FileWriting.{member_bytes}
use Rattle.daywriter.proofs.putting.NewMemberPut.put.Goals as goal

pub returns : goal.returns
unfolding member_bytes
returns c = search (rules, append_assoc)
