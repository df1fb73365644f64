-- The fields of a step's record.
use Rattle.std.specs.Prelude.{ℕ, ◌^◌, ◌<◌, List}
use Rattle.rules.specs.FileWriting.{step_fields}
use Rattle.dayfile.specs.declared.records.StepRecord.{StepRecord}
use Rattle.dayfile.specs.declared.records.StepRecord.TheVariants.{PayIn, Clock, Settle, PayOut}
use Rattle.dayfile.specs.declared.kind.StepKind.TheVariants as kind
use Rattle.dayfile.specs.Kind.{kind_number}
use Rattle.daywriter.specs.declared.fields.StepFields.{StepFields}

-- the fields of a step, with 0 in those that its kind does not read
abbrev pub fields_of : StepRecord → StepFields
fields_of (PayIn m c a) = record { kind = kind.PayIn; member = m; currency = c; hour = 0; amount = a }
fields_of (Clock h) = record { kind = kind.Clock; member = 0; currency = 0; hour = h; amount = 0 }
fields_of Settle = record { kind = kind.Settle; member = 0; currency = 0; hour = 0; amount = 0 }
fields_of (PayOut m c a) = record { kind = kind.PayOut; member = m; currency = c; hour = 0; amount = a }

abbrev pub fields_bytes : StepFields → List ℕ
fields_bytes f = step_fields (kind_number f.kind) f.member f.currency f.hour f.amount

abbrev pub FieldsFit : StepFields → Type 0
FieldsFit f = (f.member < 2 ^ 8) × (f.currency < 2 ^ 8) × (f.hour < 2 ^ 8) × (f.amount < 2 ^ 32)
