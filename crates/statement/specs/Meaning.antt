-- What a statement in the making means.
use Rattle.std.specs.Prelude.{◌≡◌, ℕ, ◌+◌, ◌<◌, ◌≤◌, List, ◌++◌, Ok, Err, Result}
use Rattle.std.specs.List.{flat_map}
use Rattle.arrayvec.specs.ArrayVec.{array_vec_len}
use Rattle.rules.specs.Wording as rules
use Rattle.statement.specs.declared.entry.Entry.{Entry}
use Rattle.statement.specs.declared.statement.Statement.{Statement}
use Rattle.statement.specs.declared.statement.NoLineLeft.{NoLineLeft}
use Rattle.statement.specs.Room.{most_entries}

abbrev pub entry_of : Entry → rules.Entry
entry_of e = record { code = e.code; account = e.account.0; paid_in = e.paid_in.0; paid_out = e.paid_out.0; due = e.due.0 }

-- how many currencies have a line
abbrev pub entry_count : Statement → ℕ
entry_count s = array_vec_len s.entries

-- the lines so far
unfoldable pub written : Statement → List ℕ
written s = rules.member_line s.name.items ++ flat_map (λ e. rules.entry_line (entry_of e)) s.entries.items

-- one more line, or nothing changed where the most that a statement has are there
abbrev pub Added : Statement → rules.Entry → Result Unit NoLineLeft → Statement → Type 0
Added old e (Ok _) new = (entry_count old < most_entries) × (entry_count new ≡ entry_count old + 1) × (written new ≡ written old ++ rules.entry_line e)
Added old e (Err _) new = (most_entries ≤ entry_count old) × (new ≡ old)
