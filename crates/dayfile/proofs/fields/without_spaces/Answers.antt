use Rattle.std.proofs.Common.{rules}
use Rattle.dayfile.proofs.Parts.{trimmed_by}
use Rattle.dayfile.proofs.fields.without_spaces.Goals as goal

pub returns : goal.returns
returns c = trimmed_by c.args.field.now c.map_or.result.now c.rposition.result (search rules) (search rules)
