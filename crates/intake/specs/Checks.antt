-- What a check before a change answers.
use Rattle.std.specs.Prelude.{◌≡◌, List, Some, None, Ok, Err, Result}
use Rattle.rules.specs.First.{Case, first_of}
use Rattle.rules.specs.Refusals as rules
use Rattle.refusal.specs.declared.refused.Refusal.{Refusal}
use Rattle.refusal.specs.Meaning.{refusal_of}

-- nothing if none of the causes holds, or the refusal for the first that does
abbrev pub Checks : List (Case rules.Refusal) → Result Unit Refusal → Type 0
Checks causes (Ok _) = first_of causes ≡ None
Checks causes (Err e) = first_of causes ≡ Some (refusal_of e)
