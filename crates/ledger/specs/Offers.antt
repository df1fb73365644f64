-- What a call would make of one position, or the first cause against it.
use Rattle.std.specs.Prelude.{◌≡◌, ℕ, ◌+◌, ◌-◌, ◌<◌, ◌≤◌, List, [], ◌∷◌, ◌++◌, ◌||◌, nat_lt, pos, ◌+ℤ◌, ◌-ℤ◌, Some, None, Ok, Err, Result}
use Rattle.rules.specs.Bounds.{most_units}
use Rattle.rules.specs.First.{Case, first_of}
use Rattle.rules.specs.Setting.{Setting}
use Rattle.rules.specs.Books.{Books}
use Rattle.rules.specs.Causes.{at, place_causes, pay_in_causes, reserve_causes, held_causes}
use Rattle.rules.specs.Refusals as rules
use Rattle.rules.specs.Refusals.{session}
use Rattle.refusal.specs.declared.refused.Refusal.{Refusal}
use Rattle.refusal.specs.declared.cause.Cause.{Cause}
use Rattle.refusal.specs.Meaning.{refusal_of, number_of}
use Rattle.book.specs.declared.position.Position.{Position}

-- a position after a pay-in of a
pub record PaidIn (p q : Position) (a : ℕ) : Type 0 where
  pub account_is : q.account.0 ≡ p.account.0 +ℤ pos a
  pub reserved_is : q.reserved.0 ≡ p.reserved.0
  pub in_is : q.paid_in.0 ≡ p.paid_in.0 + a
  pub out_is : q.paid_out.0 ≡ p.paid_out.0

-- after a reserve of a
pub record Reserved (p q : Position) (a : ℕ) : Type 0 where
  pub account_is : q.account.0 ≡ p.account.0 -ℤ pos a
  pub reserved_is : q.reserved.0 ≡ p.reserved.0 + a
  pub in_is : q.paid_in.0 ≡ p.paid_in.0
  pub out_is : q.paid_out.0 ≡ p.paid_out.0

-- after a payment of a, which was reserved
pub record PaidOut (p q : Position) (a : ℕ) : Type 0 where
  pub account_is : q.account.0 ≡ p.account.0
  pub reserved_is : q.reserved.0 ≡ p.reserved.0 - a
  pub in_is : q.paid_in.0 ≡ p.paid_in.0
  pub out_is : q.paid_out.0 ≡ p.paid_out.0 + a

-- the session's refusal of a call that names m and c
abbrev pub refusal_by : Cause → ℕ → ℕ → rules.Refusal
refusal_by why m c = record { number = number_of why; layer = session; member = Some m; currency = Some c; place = 0 }

-- an answer has P, or the call is refused for the first of these causes that holds
abbrev pub Told : {T : Type 0} → List (Case rules.Refusal) → (T → Type 0) → Result T Refusal → Type 0
Told causes P (Ok x) = (first_of causes ≡ None) × P x
Told causes P (Err e) = first_of causes ≡ Some (refusal_of e)

-- a call that names a member, a currency and an amount is refused first for these causes
abbrev pub amount_causes : Setting → ℕ → ℕ → ℕ → List (Case rules.Refusal)
amount_causes s m c a = place_causes s m c ++ at 11 session m c (nat_lt a 1 || nat_lt most_units a) ∷ []

-- m is on the roster and c on the sheet
abbrev pub On : Setting → ℕ → ℕ → Type 0
On s m c = (m < s.roster.members) × (c < s.sheet.currencies)

abbrev pub PayInOffered : Setting → Books → Position → ℕ → ℕ → ℕ → Result Position Refusal → Type 0
PayInOffered s b p m c a (Ok q) = On s m c × (a ≤ most_units) × (first_of (pay_in_causes s b m c a) ≡ None) × PaidIn p q a
PayInOffered s b p m c a (Err e) = first_of (pay_in_causes s b m c a) ≡ Some (refusal_of e)

abbrev pub ReserveOffered : Setting → Books → Position → ℕ → ℕ → ℕ → Result Position Refusal → Type 0
ReserveOffered s b p m c a (Ok q) = On s m c × (a ≤ most_units) × (first_of (reserve_causes s b m c a) ≡ None) × Reserved p q a
ReserveOffered s b p m c a (Err e) = first_of (reserve_causes s b m c a) ≡ Some (refusal_of e)

abbrev pub PaymentOffered : Setting → Books → Position → ℕ → ℕ → ℕ → Result Position Refusal → Type 0
PaymentOffered s b p m c a (Ok q) = On s m c × (first_of (held_causes s b m c a) ≡ None) × PaidOut p q a
PaymentOffered s b p m c a (Err e) = first_of (held_causes s b m c a) ≡ Some (refusal_of e)
