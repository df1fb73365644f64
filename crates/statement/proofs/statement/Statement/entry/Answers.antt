use Rattle.std.proofs.Common.{rules}
use Rattle.std.proofs.lemmas.List.{flat_map_more}
use Rattle.statement.specs.Meaning.{written}
use Rattle.statement.proofs.statement.Statement.entry.Goals as goal

pub returns : goal.returns
unfolding written
returns c = search (rules, flat_map_more)
