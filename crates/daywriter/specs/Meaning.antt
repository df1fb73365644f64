-- What the records to be written mean, and what the writer answers.
use Rattle.std.specs.Prelude.{◌≡◌, ℕ, map, Some, None, Ok, Err, vec_items, Option, Result, Vec}
use Rattle.std.specs.declared.alloc.Global.{Global}
use Rattle.rules.specs.FileRecords as rules
use Rattle.dayfile.specs.Meaning.{currency_of, instruction_of, step_of}
use Rattle.daywriter.specs.declared.records.NewMember.{NewMember}
use Rattle.daywriter.specs.declared.records.DayRecords.{DayRecords}
use Rattle.daywriter.specs.declared.records.Fault.{Fault}
use Rattle.daywriter.specs.declared.records.Fault.TheVariants.{TooMany, Code, Name, ShortLimits}
use Rattle.daywriter.specs.declared.records.Unwritten.{Unwritten}
use Rattle.daywriter.specs.declared.records.Unwritten.TheVariants.{Fault as Faulty, NoMemory}
use Rattle.rules.specs.FileWriting as writing
use Rattle.rules.specs.FileWriting.{day_bytes, writing_fault}
use Rattle.rules.specs.FileAgain.{Reads}

abbrev pub member_of : NewMember → rules.MemberRecord
member_of m = record { name = m.name.now; aggregate = m.aggregate; shorts = m.shorts.now }

abbrev pub day_of : DayRecords → writing.DayRecords
day_of d = record { currencies = map currency_of d.currencies.now; members = map member_of d.members.now; instructions = map instruction_of d.instructions.now; steps = map step_of d.steps.now }

abbrev pub fault_of : Fault → writing.Fault
fault_of TooMany = writing.too_many
fault_of Code = writing.wrong_code
fault_of Name = writing.wrong_name
fault_of ShortLimits = writing.wrong_shorts

-- the first thing that is wrong, or nothing
abbrev pub Found : writing.DayRecords → Option Fault → Type 0
Found d None = writing_fault d ≡ None
Found d (Some fault) = writing_fault d ≡ Some (fault_of fault)

-- What the writer answers: bytes that read back as the records, or what is wrong with them. Memory is looked for only
-- if nothing is.
abbrev pub Wrote : writing.DayRecords → Result (Vec ℕ Global) Unwritten → Type 0
Wrote d (Ok out) = (writing_fault d ≡ None) × (vec_items out ≡ day_bytes d) × Reads (vec_items out) d
Wrote d (Err (Faulty fault)) = writing_fault d ≡ Some (fault_of fault)
Wrote d (Err NoMemory) = writing_fault d ≡ None
