use Rattle.std.proofs.Common.{rules}
use Rattle.std.proofs.lemmas.List.{append_assoc}
use Rattle.rules.specs.FileWriting.{currency_bytes}
use Rattle.daywriter.proofs.putting.CurrencyRecordPut.put.Goals as goal

pub returns : goal.returns
unfolding currency_bytes
returns c = search (rules, append_assoc)
