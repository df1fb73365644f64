-- What a session means in the terms of the rules, and what a call makes of it.
use Rattle.std.specs.Prelude.{◌≡◌, ℕ, Bool, Ok, Err, Result}
use Rattle.rules.specs.Pairs as rules
use Rattle.rules.specs.Setting.{Setting}
use Rattle.rules.specs.Books as books
use Rattle.rules.specs.Calls as calls
use Rattle.rules.specs.Books.{Books}
use Rattle.rules.specs.Calls.{Call, Answer, respond}
use Rattle.refusal.specs.declared.refused.Refusal.{Refusal}
use Rattle.refusal.specs.Meaning.{refusal_of}
use Rattle.ledger.specs.Meaning.{setting_by, books_with}
use Rattle.ledger.specs.declared.counts.Counts.{Counts}
use Rattle.session.specs.declared.session.Session.{Session}
use Rattle.session.specs.declared.reservation.Reservation.{Reservation}

-- over the cash of a nostro and the relation of an order: both are functions, which no model of the session could hold as its value
module _ {N O : Type 0} (cash : N → ℕ → ℕ) (before : O → rules.Pair → rules.Pair → Bool) where
  -- what stays through the day
  abbrev pub setting_of : Session N O → Setting
  setting_of x = setting_by (before x.order) x.ledger

  -- what the calls change
  abbrev pub books_of : Session N O → Books
  books_of x = books_with (cash x.nostro) x.ledger

  -- what is said of a session's setting and books
  abbrev pub OfDay : Session N O → (Setting → Books → Type 0) → Type 0
  OfDay x P = P (setting_of x) (books_of x)

abbrev pub token : Reservation → books.Reservation
token r = record { member = r.member; currency = r.currency; amount = r.amount.0 }

-- the answers of the calls
abbrev pub plainly : Result (Unit {0}) Refusal → Answer
plainly (Ok _) = calls.done
plainly (Err e) = calls.refused (refusal_of e)

abbrev pub reserving : Result Reservation Refusal → Answer
reserving (Ok r) = calls.reserved (token r)
reserving (Err e) = calls.refused (refusal_of e)

abbrev pub counting : Counts → Answer
counting c = calls.counts c.settled c.passes c.waiting

-- a call leaves the books and gives the answer that the rules say
pub record Does (s : Setting) (b : Books) (q : Call) (b' : Books) (z : Answer) : Type 0 where
  pub left : b' ≡ (respond s b q).books
  pub said : z ≡ (respond s b q).answer

-- what stays stays, and the call does what the rules say
abbrev pub Makes : {N O : Type 0} → (N → ℕ → ℕ) → (O → rules.Pair → rules.Pair → Bool) → Session N O → Call → Session N O → Answer → Type 0
Makes cash before x q y z = (setting_of cash before y ≡ setting_of cash before x) × Does (setting_of cash before x) (books_of cash before x) q (books_of cash before y) z
