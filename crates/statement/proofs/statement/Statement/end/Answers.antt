use Rattle.std.proofs.Common.{rules}
use Rattle.std.proofs.lemmas.List.{take_all}
use Rattle.statement.specs.Meaning.{written}
use Rattle.statement.proofs.statement.Statement.end.Goals as goal

pub returns-clause-copied : goal.returns-clause-copied
unfolding written
returns-clause-copied c = search (rules, take_all)
