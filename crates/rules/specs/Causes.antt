-- The session's own causes against each call, in the order in which they are checked.
use Rattle.std.specs.Prelude.{ℕ, ◌+◌, Bool, ◌||◌, List, [], ◌∷◌, ℤ, pos, ◌+ℤ◌, ◌-ℤ◌, Some, int_lt, nat_le, nat_lt}
use Rattle.rules.specs.Bounds.{most_units, most_sum}
use Rattle.rules.specs.Sums.{total, only}
use Rattle.rules.specs.First.{Case}
use Rattle.rules.specs.Refusals.{Refusal, Layer, cause, session}
use Rattle.rules.specs.Setting.{Setting}
use Rattle.rules.specs.Worth.{adjusted}
use Rattle.rules.specs.Books.{Books}

-- a cause of a call that names a member and a currency
abbrev pub at : ℕ → Layer → ℕ → ℕ → Bool → Case Refusal
at number layer m c holds = cause number layer (Some m) (Some c) holds

-- the member is not on the roster, the currency is not on the sheet
abbrev pub place_causes : Setting → ℕ → ℕ → List (Case Refusal)
place_causes s m c = at 9 session m c (nat_le s.roster.members m) ∷ at 10 session m c (nat_le s.sheet.currencies c) ∷ []

-- the row of member m after a reserve
abbrev pub row_less : Books → ℕ → ℕ → ℕ → ℕ → ℤ
row_less b m c a c' = b.account m c' -ℤ pos (only m c a m c')

-- the session's own causes against a pay-in
abbrev pub pay_in_causes : Setting → Books → ℕ → ℕ → ℕ → List (Case Refusal)
pay_in_causes s b m c a =
    at 9 session m c (nat_le s.roster.members m)
    ∷ at 10 session m c (nat_le s.sheet.currencies c)
    ∷ at 11 session m c (nat_lt a 1 || nat_lt most_units a)
    ∷ at 14 session m c (int_lt (pos most_units) (b.account m c +ℤ pos (b.reserve_of m c) +ℤ pos a))
    ∷ at 15 session m c (nat_lt most_sum (b.paid_in m c + a))
    ∷ []

-- the causes against a reserve that do not look at cash
abbrev pub reserve_causes : Setting → Books → ℕ → ℕ → ℕ → List (Case Refusal)
reserve_causes s b m c a =
    at 9 session m c (nat_le s.roster.members m)
    ∷ at 10 session m c (nat_le s.sheet.currencies c)
    ∷ at 11 session m c (nat_lt a 1 || nat_lt most_units a)
    ∷ at 15 session m c (nat_lt most_sum (b.paid_out m c + b.reserve_of m c + a))
    ∷ at 18 session m c (int_lt (b.account m c) (pos a))
    ∷ at 19 session m c (int_lt (adjusted s.sheet (row_less b m c a)) (pos 0))
    ∷ []

-- the session's own causes against what is done with a reservation
abbrev pub held_causes : Setting → Books → ℕ → ℕ → ℕ → List (Case Refusal)
held_causes s b m c a =
    at 9 session m c (nat_le s.roster.members m)
    ∷ at 10 session m c (nat_le s.sheet.currencies c)
    ∷ at 21 session m c (nat_lt (b.reserve_of m c) a)
    ∷ []

-- all reservations in a currency: reserved cash is not free
abbrev pub all_reserved : Setting → Books → ℕ → ℕ
all_reserved s b c = total s.roster.members (λ m. b.reserve_of m c)
