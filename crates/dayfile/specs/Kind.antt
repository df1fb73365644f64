-- The numbers of the kinds of step.
use Rattle.std.specs.Prelude.{◌≡◌, ℕ, false, Ok, Err, Result}
use Rattle.rules.specs.FileForm.{known_kind}
use Rattle.dayfile.specs.declared.kind.StepKind.{StepKind}
use Rattle.dayfile.specs.declared.kind.StepKind.TheVariants.{PayIn, Clock, Settle, PayOut}
use Rattle.dayfile.specs.declared.kind.UnknownKind.{UnknownKind}

abbrev pub kind_number : StepKind → ℕ
kind_number PayIn = 1
kind_number Clock = 2
kind_number Settle = 3
kind_number PayOut = 4

-- a number is read as the kind that has it, and refused where it is no kind's
abbrev pub Decodes : ℕ → Result StepKind UnknownKind → Type 0
Decodes n (Ok kind) = kind_number kind ≡ n
Decodes n (Err _) = known_kind n ≡ false
