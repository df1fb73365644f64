-- The statement of a member at the end of a day.
use Rattle.std.specs.Prelude.{ℕ, ◌+◌, ◌-◌, Bool, cond, ◌||◌, List, [], ◌∷◌, length, Some, None, ◌==◌, nat_le, nat_lt}
use Rattle.rules.specs.First.{Case}
use Rattle.rules.specs.Refusals.{Refusal, cause, session}
use Rattle.rules.specs.Pairs.{Pair}
use Rattle.rules.specs.Setting.{Setting}
use Rattle.rules.specs.Books.{Books}
use Rattle.rules.specs.Questions.{amount_due}
use Rattle.rules.specs.Wording.{Entry, statement}

-- the member is a party to the pair
abbrev pub party_to : ℕ → Pair → Bool
party_to m p = p.first == m || p.second == m

-- 1 for a pair of the member's own, else 0
abbrev pub own : ℕ → Pair → ℕ
own m p = cond (party_to m p) 1 0

-- how many of the pairs are the member's own
abbrev pub own_pairs : ℕ → List Pair → ℕ
own_pairs m [] = 0
own_pairs m (p ∷ ps) = own m p + own_pairs m ps

-- what a statement says of one currency
abbrev pub entry_of : Setting → Books → ℕ → ℕ → Entry
entry_of s b m c = record { code = (s.sheet.currency c).code; account = b.account m c; paid_in = b.paid_in m c; paid_out = b.paid_out m c; due = amount_due s b m c }

-- a pair that does not wait any more has settled
abbrev pub statement_of : Setting → Books → ℕ → List ℕ
statement_of s b m = statement (s.roster.member m).name s.sheet.currencies (entry_of s b m) (own_pairs m s.pairs - own_pairs m b.waiting) (own_pairs m b.waiting)

-- why a statement is refused into a buffer of so many bytes
abbrev pub statement_causes : Setting → Books → ℕ → ℕ → List (Case Refusal)
statement_causes s b m bytes =
    cause 9 session (Some m) None (nat_le s.roster.members m)
    ∷ cause 23 session (Some m) None (nat_lt bytes (length (statement_of s b m)))
    ∷ []
