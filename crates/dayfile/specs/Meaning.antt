-- What a day file and its records mean.
use Rattle.std.specs.Prelude.{ℕ, ◌*◌, ◌/◌, List, length}
use Rattle.rules.specs.Below.{listed}
use Rattle.rules.specs.Sheet as sheet
use Rattle.rules.specs.Matching as matching
use Rattle.rules.specs.FileForm.{four_bytes}
use Rattle.rules.specs.FileRecords as rules
use Rattle.dayfile.specs.declared.dayfile.DayFile.{DayFile}
use Rattle.dayfile.specs.declared.records.CurrencyRecord.{CurrencyRecord}
use Rattle.dayfile.specs.declared.records.MemberRecord.{MemberRecord}
use Rattle.dayfile.specs.declared.records.InstructionRecord.{InstructionRecord}
use Rattle.dayfile.specs.declared.records.StepRecord.{StepRecord}
use Rattle.dayfile.specs.declared.records.StepRecord.TheVariants.{PayIn, Clock, Settle, PayOut}
use Rattle.dayfile.specs.declared.records.Record.{Record}
use Rattle.dayfile.specs.declared.records.Record.TheVariants.{Currency, Member, Instruction, Step}

-- the bytes of the file
abbrev pub file_of : DayFile → List ℕ
file_of d = d.bytes.now

abbrev pub currency_of : CurrencyRecord → sheet.Currency
currency_of c = record { code = c.code.now; rate = c.rate; haircut = c.haircut; instalments = c.instalments }

-- the short limits of a member, by currency number
abbrev pub shorts_of : MemberRecord → List ℕ
shorts_of m = listed (length m.shorts.now / 4) (λ c. four_bytes m.shorts.now (4 * c))

abbrev pub member_of : MemberRecord → rules.MemberRecord
member_of m = record { name = m.name.now; aggregate = m.aggregate; shorts = shorts_of m }

abbrev pub instruction_of : InstructionRecord → matching.Instruction
instruction_of i = record { submitter = i.submitter; counterparty = i.counterparty; buys = i.buys; bought = i.bought; sells = i.sells; sold = i.sold; reference = i.reference }

abbrev pub step_of : StepRecord → rules.FileStep
step_of (PayIn m c a) = rules.pay_in m c a
step_of (Clock h) = rules.clock h
step_of Settle = rules.settle
step_of (PayOut m c a) = rules.pay_out m c a

abbrev pub record_of : Record → rules.FileRecord
record_of (Currency c) = rules.currency (currency_of c)
record_of (Member m) = rules.member (member_of m)
record_of (Instruction i) = rules.instruction (instruction_of i)
record_of (Step s) = rules.step (step_of s)
