-- What a roster means in the terms of the rules.
use Rattle.std.specs.Prelude.{◌≡◌, ℕ, List, Ok, Err, vec_items, vec_len, Result, Vec, slice_index_or}
use Rattle.rules.specs.First.{Case}
use Rattle.rules.specs.Refusals.{Refusal}
use Rattle.rules.specs.Roster as rules
use Rattle.rules.specs.Matching as matching
use Rattle.std.specs.declared.alloc.AllocFailed.{AllocFailed}
use Rattle.std.specs.declared.alloc.Global.{Global}
use Rattle.sheet.specs.declared.sheet.Sheet.{Sheet}
use Rattle.sheet.specs.Meaning.{sheet_of}
use Rattle.intake.specs.declared.member.Member.{Member}
use Rattle.intake.specs.declared.roster.Roster.{Roster}
use Rattle.intake.specs.Members.{no_member, member_of}

-- off the roster a member is all zeros
abbrev pub roster_of : Roster → rules.Roster
roster_of r = record { members = vec_len r.members; member = λ m. member_of (slice_index_or (vec_items r.members) m no_member) }

-- the sheet that a roster stands over
abbrev pub sheet_under : Roster → Sheet
sheet_under r = r.sheet

-- the members of a roster, by number
abbrev pub members_on : Roster → Vec Member Global
members_on r = r.members

-- why the roster refuses a member of this name and these limits
abbrev pub causes_against_member : Roster → List ℕ → List ℕ → ℕ → List (Case Refusal)
causes_against_member r name shorts aggregate = rules.adding_causes (sheet_of r.sheet).currencies (roster_of r) name shorts aggregate

-- what instructions are checked against
abbrev pub terms_of : Roster → matching.Terms
terms_of r = record { members = vec_len r.members; currencies = (sheet_of r.sheet).currencies; rate = λ c. ((sheet_of r.sheet).currency c).rate }

-- an empty roster over the sheet, or the sheet back
abbrev pub Begun : Sheet → Result Roster (AllocFailed Sheet) → Type 0
Begun sheet (Ok r) = (roster_of r ≡ record { members = 0; member = λ _. member_of no_member }) × (r.sheet ≡ sheet)
Begun sheet (Err e) = e.value ≡ sheet
