-- How a day ends before its instructions.
use Rattle.std.proofs.Common.{◌≡◌, ℕ, List, Some, None, Err, refl}
use Rattle.rules.specs.Refusals.{Refusal}
use Rattle.rules.specs.FileForm.{currencies_in, members_in, form_refusal}
use Rattle.rules.specs.FileDay.{sheet_refusal, roster_refusal, day_refusal}
use Rattle.runner.specs.Ending.{SheetRead, RosterRead, Ends}
use Rattle.runner.specs.declared.halt.Halt.{Halt}
use Rattle.runner.specs.declared.halt.Halt.TheVariants.{Refused, NoMemory}

-- the first refusal ends the day
pub form_ends : (f : List ℕ) (e : Refusal) → form_refusal f ≡ Some e → day_refusal f ≡ Some e
unfolding day_refusal
form_ends f e h = rw h refl

pub sheet_ends : (f : List ℕ) (h : Halt) → form_refusal f ≡ None → SheetRead f (Err h) → Ends f (Err h)
unfolding day_refusal
sheet_ends f (Refused e) h0 h1 = rw (h0, h1) refl
sheet_ends f (NoMemory e) h0 h1 = tt

pub roster_ends : (f : List ℕ) (h : Halt) → form_refusal f ≡ None → sheet_refusal f (currencies_in f) ≡ None → RosterRead f (Err h) → Ends f (Err h)
unfolding day_refusal
roster_ends f (Refused e) h0 h1 h2 = rw (h0, h1, h2) refl
roster_ends f (NoMemory e) h0 h1 h2 = tt

pub nothing_ends : (f : List ℕ) → form_refusal f ≡ None → sheet_refusal f (currencies_in f) ≡ None → roster_refusal f (members_in f) ≡ None → day_refusal f ≡ None
unfolding day_refusal
nothing_ends f h0 h1 h2 = rw (h0, h1, h2) refl
