use Rattle.std.proofs.Common.{◌≡◌, ◌+◌, ◌*◌, ◌≤◌, ◌++◌, take}
use Rattle.std.specs.List.{flat_map}
use Rattle.arrayvec.specs.ArrayVec.{array_vec_len}
use Rattle.rules.specs.Wording.{member_line, entry_line}
use Rattle.statement.specs.Meaning.{entry_of}
use Rattle.statement.specs.Room.{member_room, entry_room}
use Rattle.statement.proofs.statement.Statement.end.Given as goal

abbrev pub invariant-loop-entry : goal.invariant-loop-entry
invariant-loop-entry l = (l.text.items ≡ member_line l.fn.self.name.items ++ flat_map (λ e. entry_line (entry_of e)) (take l.entry-index l.entry-items)) × (array_vec_len l.text ≤ member_room + entry_room * l.entry-index)
