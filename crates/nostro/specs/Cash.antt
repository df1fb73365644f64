-- What a receipt and a payment answer, and what they do to the cash.
use Rattle.std.specs.Prelude.{◌≡◌, ℕ, ◌+◌, ◌-◌, Bool, nat_lt, List, [], ◌∷◌, Some, None, Ok, Err, Result}
use Rattle.rules.specs.First.{Case, first_of}
use Rattle.rules.specs.Refusals as rules
use Rattle.rules.specs.Nostro.{receipt_causes, payment_causes, last_number, OnlyAt, Unchanged, SplitReceived, SplitPaid}
use Rattle.refusal.specs.declared.refused.Refusal.{Refusal}
use Rattle.refusal.specs.Meaning.{refusal_of}

-- why an amount of a currency is refused, if it is over what is allowed
abbrev pub causes_over : Bool → ℕ → ℕ → List (Case rules.Refusal)
causes_over over n c =
    rules.cause 10 rules.nostro None (Some c) (nat_lt last_number c)
    ∷ rules.cause n rules.nostro None (Some c) over
    ∷ []

-- an answer to a call: refused for the first of its causes that holds, and then all is kept; if none holds, the call is done
abbrev pub Outcome : List (Case rules.Refusal) → Type 0 → Type 0 → Result Unit Refusal → Type 0
Outcome causes done kept (Ok _) = (first_of causes ≡ None) × done
Outcome causes done kept (Err e) = (first_of causes ≡ Some (refusal_of e)) × kept

-- the same of a question, which changes nothing
abbrev pub Tested : List (Case rules.Refusal) → Result Unit Refusal → Type 0
Tested causes r = Outcome causes (Unit {0}) (Unit {0}) r

abbrev pub Received : (ℕ → ℕ) → ℕ → ℕ → (ℕ → ℕ) → Result Unit Refusal → Type 0
Received before c amount after r = Outcome (receipt_causes before c amount) (OnlyAt before c (before c + amount) after) (Unchanged before after) r

abbrev pub Paid : (ℕ → ℕ) → ℕ → ℕ → (ℕ → ℕ) → Result Unit Refusal → Type 0
Paid before c amount after r = Outcome (payment_causes before c amount) (OnlyAt before c (before c - amount) after) (Unchanged before after) r

-- what each part of a split holds after a call; a refusal leaves both as they were
abbrev pub Parts : Type 0 → (ℕ → ℕ) → (ℕ → ℕ) → (ℕ → ℕ) → (ℕ → ℕ) → Result Unit Refusal → Type 0
Parts done first second first' second' (Ok _) = done
Parts done first second first' second' (Err _) = Unchanged first first' × Unchanged second second'

abbrev pub PartsReceived : (ℕ → ℕ) → (ℕ → ℕ) → ℕ → ℕ → (ℕ → ℕ) → (ℕ → ℕ) → Result Unit Refusal → Type 0
PartsReceived first second c amount first' second' r = Parts (SplitReceived first second c amount first' second') first second first' second' r

abbrev pub PartsPaid : (ℕ → ℕ) → (ℕ → ℕ) → ℕ → ℕ → (ℕ → ℕ) → (ℕ → ℕ) → Result Unit Refusal → Type 0
PartsPaid first second c amount first' second' r = Parts (SplitPaid first second c amount first' second') first second first' second' r
