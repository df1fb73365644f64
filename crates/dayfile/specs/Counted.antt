-- Counts that no day file has.
use Rattle.std.specs.Prelude.{Bool, ◌||◌, nat_lt}
use Rattle.rules.specs.Bounds.{most_currencies, most_members, most_instructions}
use Rattle.rules.specs.FileForm.{most_steps}
use Rattle.dayfile.specs.declared.counts.Counts.{Counts}

-- a count is above its most
abbrev pub too_many : Counts → Bool
too_many c = nat_lt most_currencies c.currencies || (nat_lt most_members c.members || (nat_lt most_instructions c.instructions || nat_lt most_steps c.steps))
