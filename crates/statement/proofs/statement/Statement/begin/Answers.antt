use Rattle.std.proofs.Common.{rules, append-nil}
use Rattle.std.proofs.lemmas.List.{take_all}
use Rattle.statement.specs.Meaning.{written}
use Rattle.statement.proofs.statement.Statement.begin.Goals as goal

pub returns-clause-text : goal.returns-clause-text
unfolding written
returns-clause-text c = search (rules, append-nil)

pub returns-clause-whole : goal.returns-clause-whole
unfolding written
returns-clause-whole c = λ short. search (rules, take_all, append-nil)
