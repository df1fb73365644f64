-- What a refusal means: the number of its cause, its layer, and of whom it speaks.
use Rattle.std.specs.Prelude.{ℕ}
use Rattle.rules.specs.Refusals as rules
use Rattle.refusal.specs.declared.cause.Cause.{Cause}
use Rattle.refusal.specs.declared.cause.Cause.TheVariants as cause
use Rattle.refusal.specs.declared.layer.Layer.{Layer}
use Rattle.refusal.specs.declared.layer.Layer.TheVariants as layer
use Rattle.refusal.specs.declared.refused.Refusal.{Refusal}

-- the discriminants of the code, which `Cause::number` is proved to answer
abbrev pub number_of : Cause → ℕ
number_of cause.FileLength = 1
number_of cause.Counts = 2
number_of cause.FileForm = 3
number_of cause.StepKind = 4
number_of cause.Full = 5
number_of cause.Name = 6
number_of cause.ShortLimits = 7
number_of cause.Range = 8
number_of cause.Member = 9
number_of cause.Currency = 10
number_of cause.Amount = 11
number_of cause.Reference = 12
number_of cause.SameCurrency = 13
number_of cause.AccountCeiling = 14
number_of cause.DaySum = 15
number_of cause.CashCeiling = 16
number_of cause.Hour = 17
number_of cause.Account = 18
number_of cause.AdjustedValue = 19
number_of cause.Cash = 20
number_of cause.Reserved = 21
number_of cause.NoPair = 22
number_of cause.Buffer = 23

abbrev pub layer_of : Layer → rules.Layer
layer_of layer.File = rules.file
layer_of layer.Sheet = rules.sheet
layer_of layer.Roster = rules.roster
layer_of layer.Intake = rules.intake
layer_of layer.Session = rules.session
layer_of layer.Nostro = rules.nostro

abbrev pub refusal_of : Refusal → rules.Refusal
refusal_of e = record { number = number_of e.cause; layer = layer_of e.layer; member = e.member; currency = e.currency; place = e.place }
