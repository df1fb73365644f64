use Rattle.std.proofs.Common.{rules, tests}
use Rattle.rules.specs.FileWriting.{code_wrong}
use Rattle.dayfile.specs.Meaning.{currency_of}
use Rattle.daywriter.proofs.Faultless.{some_from_any}
use Rattle.daywriter.proofs.faults.has_wrong_code.Goals as goal

pub returns : goal.returns
returns c = some_from_any code_wrong currency_of c.args.currencies.now _ c.any.ensures.ran (λ x b q k. search (rules, tests)) cc
