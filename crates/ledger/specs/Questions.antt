-- What the ledger answers to a question.
use Rattle.std.specs.Prelude.{◌≡◌, ℕ, Some, None, Ok, Err, Option, Result}
use Rattle.rules.specs.Pairs as rules
use Rattle.rules.specs.Setting.{Setting}
use Rattle.rules.specs.Tests.{stops}
use Rattle.rules.specs.Books.{Books}
use Rattle.rules.specs.Causes.{place_causes}
use Rattle.rules.specs.Questions.{amount_due, numbered, no_such_pair}
use Rattle.refusal.specs.declared.refused.Refusal.{Refusal}
use Rattle.refusal.specs.Meaning.{refusal_of}
use Rattle.units.specs.declared.Units.{Units}
use Rattle.units.specs.declared.Amount.{Amount}
use Rattle.accounts.specs.declared.stop.Stop.{Stop}
use Rattle.accounts.specs.Meaning.{stopped}
use Rattle.ledger.specs.Offers.{Told}

abbrev pub AccountAsked : Setting → Books → ℕ → ℕ → Result Units Refusal → Type 0
AccountAsked s b m c = Told (place_causes s m c) (λ u. u.0 ≡ b.account m c)

abbrev pub DueAsked : Setting → Books → ℕ → ℕ → Result Amount Refusal → Type 0
DueAsked s b m c = Told (place_causes s m c) (λ a. a.0 ≡ amount_due s b m c)

-- what stops the waiting pair of that number, if anything does
abbrev pub PairAsked : Setting → Books → ℕ → Result (Option Stop) Refusal → Type 0
PairAsked s b n (Ok o) = (p : rules.Pair) × (numbered n b.waiting ≡ Some p) × (stopped o ≡ stops s b.reserve_of b.account p)
PairAsked s b n (Err e) = (numbered n b.waiting ≡ None) × (refusal_of e ≡ no_such_pair)
