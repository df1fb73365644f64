-- What the reader of a day file answers.
use Rattle.std.specs.Prelude.{◌≡◌, ℕ, ◌+◌, ◌<◌, ◌≤◌, List, length, Some, None, Ok, Err, Option, Result, slice_index}
use Rattle.rules.specs.FileForm.{currencies_in, members_in, instructions_in, steps_in, member_size, currency_at, member_at, instruction_at, step_at, form_refusal}
use Rattle.rules.specs.FileRecords.{currency_in, member_in, instruction_in, step_in, records_in, record_in, record_end}
use Rattle.refusal.specs.declared.refused.Refusal.{Refusal}
use Rattle.refusal.specs.Meaning.{refusal_of}
use Rattle.dayfile.specs.declared.dayfile.DayFile.{DayFile}
use Rattle.dayfile.specs.declared.records.CurrencyRecord.{CurrencyRecord}
use Rattle.dayfile.specs.declared.records.MemberRecord.{MemberRecord}
use Rattle.dayfile.specs.declared.records.InstructionRecord.{InstructionRecord}
use Rattle.dayfile.specs.declared.records.StepRecord.{StepRecord}
use Rattle.dayfile.specs.declared.records.Record.{Record}
use Rattle.dayfile.specs.Meaning.{file_of, currency_of, member_of, instruction_of, step_of, record_of}

-- the file itself, if nothing is wrong with its form; else the first thing that is
abbrev pub Read : List ℕ → Result DayFile Refusal → Type 0
Read f (Ok d) = (form_refusal f ≡ None) × (file_of d ≡ f)
Read f (Err e) = form_refusal f ≡ Some (refusal_of e)

-- the i-th of n records, which ends at `end`: what the rules read there, or nothing where there are not so many
abbrev pub Nth : {A B : Type 0} → (A → B) → List ℕ → ℕ → ℕ → ℕ → B → Option A → Type 0
Nth of f n i end x None = n ≤ i
Nth of f n i end x (Some r) = (i < n) × (end ≤ length f) × (of r ≡ x)

abbrev pub CurrencyAt : List ℕ → ℕ → Option CurrencyRecord → Type 0
CurrencyAt f i r = Nth currency_of f (currencies_in f) i (currency_at f i + 10) (currency_in f i) r

abbrev pub MemberAt : List ℕ → ℕ → Option MemberRecord → Type 0
MemberAt f i r = Nth member_of f (members_in f) i (member_at f i + member_size f) (member_in f i) r

abbrev pub InstructionAt : List ℕ → ℕ → Option InstructionRecord → Type 0
InstructionAt f i r = Nth instruction_of f (instructions_in f) i (instruction_at f i + 16) (instruction_in f i) r

abbrev pub StepAt : List ℕ → ℕ → Option StepRecord → Type 0
StepAt f i r = Nth step_of f (steps_in f) i (step_at f i + 8) (step_in f i) r

-- the k-th record of the file, whatever its kind
abbrev pub RecordAt : List ℕ → ℕ → Option Record → Type 0
RecordAt f k r = Nth record_of f (records_in f) k (record_end f k) (record_in f k) r

-- the i-th of a list of numbers
abbrev pub In : List ℕ → ℕ → Option ℕ → Type 0
In xs i None = length xs ≤ i
In xs i (Some x) = (i < length xs) × (x ≡ slice_index xs i)
