-- What a call that can be refused answers, and what it leaves.
use Rattle.std.specs.Prelude.{◌≡◌, List, Some, None, Ok, Err, Result}
use Rattle.rules.specs.First.{Case, first_of}
use Rattle.rules.specs.Refusals as rules
use Rattle.refusal.specs.declared.refused.Refusal.{Refusal}
use Rattle.refusal.specs.Meaning.{refusal_of}

-- the call is refused for the first of its causes that holds, and then changes nothing; if none holds it leaves `done`
abbrev pub Answers : {S : Type 0} → List (Case rules.Refusal) → S → S → S → Result Unit Refusal → Type 0
Answers causes old done new (Ok _) = (first_of causes ≡ None) × (new ≡ done)
Answers causes old done new (Err e) = (first_of causes ≡ Some (refusal_of e)) × (new ≡ old)
