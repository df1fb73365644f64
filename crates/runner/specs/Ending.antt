-- What the stages of a day file answer: what the rules make of its records, or the refusal that ends the day.
use Rattle.std.specs.Prelude.{◌≡◌, ℕ, List, Some, None, Ok, Err, Result, IfOk, Vec, vec_items}
use Rattle.rules.specs.FileForm.{currencies_in, members_in}
use Rattle.refusal.specs.Meaning.{refusal_of}
use Rattle.sheet.specs.declared.sheet.Sheet.{Sheet}
use Rattle.sheet.specs.Meaning.{sheet_of}
use Rattle.intake.specs.declared.roster.Roster.{Roster}
use Rattle.intake.specs.Rosters.{roster_of, sheet_under}
use Rattle.std.specs.declared.alloc.Global.{Global}
use Rattle.std.specs.declared.alloc.AllocError.{AllocError}
use Rattle.rules.specs.Wording.{refusal_line}
use Rattle.rules.specs.FileDay.{sheet_in, sheet_refusal, roster_in, roster_refusal, day_refusal}
use Rattle.rules.specs.Printed.{day_lines}
use Rattle.runner.specs.declared.halt.Halt.{Halt}
use Rattle.runner.specs.declared.halt.Halt.TheVariants.{Refused, NoMemory}

abbrev pub SheetRead : List ℕ → Result Sheet Halt → Type 0
SheetRead f (Ok x) = (sheet_refusal f (currencies_in f) ≡ None) × (sheet_of x ≡ sheet_in f)
SheetRead f (Err (Refused e)) = sheet_refusal f (currencies_in f) ≡ Some (refusal_of e)
SheetRead f (Err (NoMemory _)) = Unit {0}

abbrev pub RosterRead : List ℕ → Result Roster Halt → Type 0
RosterRead f (Ok x) = (roster_refusal f (members_in f) ≡ None) × (roster_of x ≡ roster_in f) × (sheet_of (sheet_under x) ≡ sheet_in f)
RosterRead f (Err (Refused e)) = roster_refusal f (members_in f) ≡ Some (refusal_of e)
RosterRead f (Err (NoMemory _)) = Unit {0}

-- a day prints its lines, or ends before anything is printed
abbrev pub Ends : List ℕ → Result (Vec ℕ Global) Halt → Type 0
Ends f (Ok text) = (day_refusal f ≡ None) × (vec_items text ≡ day_lines f)
Ends f (Err (Refused e)) = day_refusal f ≡ Some (refusal_of e)
Ends f (Err (NoMemory _)) = Unit {0}

-- what is printed then: the line of the refusal
abbrev pub PrintsEnding : Halt → Result (Vec ℕ Global) AllocError → Type 0
PrintsEnding (Refused e) r = IfOk r (λ v. vec_items v ≡ refusal_line (refusal_of e))
PrintsEnding (NoMemory _) (Ok v) = ⊥
PrintsEnding (NoMemory _) (Err e) = Unit {0}
