-- Day files that are written and read again.
use Rattle.std.specs.Prelude.{◌≡◌, ℕ, ◌+◌, ◌^◌, ◌<◌, Bool, cond, ◌||◌, List, ◌++◌, length, take, replicate, None, ◌==◌}
use Rattle.std.specs.List.{flat_map, AllByRecursion}
use Rattle.rules.specs.Below.{listed}
use Rattle.rules.specs.Sheet.{Currency}
use Rattle.rules.specs.Matching.{Instruction}
use Rattle.rules.specs.FileForm.{byte, currencies_in, members_in, instructions_in, steps_in, step_at, form_refusal}
use Rattle.rules.specs.FileRecords.{MemberRecord, FileStep, pay_in, clock, settle, pay_out, part, currency_in, member_in, instruction_in, step_in}
use Rattle.rules.specs.FileWriting.{DayRecords, day_bytes, writing_fault}

-- all records of a file
abbrev pub day_in : List ℕ → DayRecords
day_in f = record { currencies = listed (currencies_in f) (currency_in f); members = listed (members_in f) (member_in f); instructions = listed (instructions_in f) (instruction_in f); steps = listed (steps_in f) (step_in f) }

-- each number fits the bytes of its field
abbrev pub CurrencyFits : Currency → Type 0
CurrencyFits c = (c.instalments < 2 ^ 8) × (c.rate < 2 ^ 32) × (c.haircut < 2 ^ 16)

abbrev pub MemberFits : MemberRecord → Type 0
MemberFits m = (m.aggregate < 2 ^ 64) × AllByRecursion (λ s. s < 2 ^ 32) m.shorts

abbrev pub InstructionFits : Instruction → Type 0
InstructionFits i =
    (i.submitter < 2 ^ 8) × (i.counterparty < 2 ^ 8) × (i.buys < 2 ^ 8) × (i.sells < 2 ^ 8)
    × (i.bought < 2 ^ 32) × (i.sold < 2 ^ 32) × (i.reference < 2 ^ 32)

abbrev pub StepFits : FileStep → Type 0
StepFits (pay_in m c amount) = (m < 2 ^ 8) × (c < 2 ^ 8) × (amount < 2 ^ 32)
StepFits (clock hour) = hour < 2 ^ 8
StepFits settle = Unit {0}
StepFits (pay_out m c amount) = (m < 2 ^ 8) × (c < 2 ^ 8) × (amount < 2 ^ 32)

pub record Fits (d : DayRecords) : Type 0 where
  pub currencies : AllByRecursion CurrencyFits d.currencies
  pub members : AllByRecursion MemberFits d.members
  pub instructions : AllByRecursion InstructionFits d.instructions
  pub steps : AllByRecursion StepFits d.steps

-- a file has the right form, and its records are these
pub record Reads (f : List ℕ) (d : DayRecords) : Type 0 where
  pub formed : form_refusal f ≡ None
  pub same : day_in f ≡ d

-- what is written of records reads back as these records
abbrev pub WrittenReadsBack : Type 0
WrittenReadsBack = (d : DayRecords) → writing_fault d ≡ None → Fits d → Reads (day_bytes d) d

-- a field as it is if it is read, and else 0 in each of its bytes
abbrev pub kept : Bool → List ℕ → List ℕ
kept read field = cond read field (replicate (length field) 0)

-- a payment, of kind 1 or 4, reads member, currency and amount; the clock, of kind 2, the hour; each reads the kind
abbrev pub pays : ℕ → Bool
pays kind = kind == 1 || kind == 4

abbrev pub cleared_step : List ℕ → ℕ → List ℕ
cleared_step f i = part f i 1 ++ kept (pays (byte f i)) (part f (i + 1) 2) ++ kept (byte f i == 2) (part f (i + 3) 1) ++ kept (pays (byte f i)) (part f (i + 4) 4)

-- a file with 0 in the fields that its steps do not read, and all else as it is
unfoldable pub cleared : List ℕ → List ℕ
cleared f = take (step_at f 0) f ++ flat_map (cleared_step f) (listed (steps_in f) (step_at f))

-- the fields that the steps of a file do not read are 0
abbrev pub Clear : List ℕ → Type 0
Clear f = (k : ℕ) → k < steps_in f → cleared_step f (step_at f k) ≡ part f (step_at f k) 8

-- A file whose records can be written: this gives the file again, but for the fields that are not read, and so the
-- same records. Where those are 0, it gives the file itself.
pub record Again (f : List ℕ) : Type 0 where
  pub faultless : writing_fault (day_in f) ≡ None
  pub written : day_bytes (day_in f) ≡ cleared f
  pub read : Reads (cleared f) (day_in f)
  pub itself : Clear f → day_bytes (day_in f) ≡ f

-- every file of the right form is such a file
abbrev pub ReadIsWrittenAgain : Type 0
ReadIsWrittenAgain = (f : List ℕ) → AllByRecursion (λ b. b < 2 ^ 8) f → form_refusal f ≡ None → Again f
