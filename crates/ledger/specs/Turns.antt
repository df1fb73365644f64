-- A pass, and settle, over the ledger.
use Rattle.std.specs.Prelude.{◌≡◌, ℕ, List, map, length, ℤ, vec_items}
use Rattle.rules.specs.Pairs as rules
use Rattle.rules.specs.Pairs.{after_pair}
use Rattle.rules.specs.Settle.{Passed, pass, Settled, settle_all}
use Rattle.rules.specs.Calls.{Answer, counts}
use Rattle.ledger.specs.declared.ledger.Ledger.{Ledger}
use Rattle.ledger.specs.declared.counts.Counts.{Counts}
use Rattle.intake.specs.Parties.{pair_of}
use Rattle.accounts.specs.Meaning.{setting_within, account, reserve_of}
use Rattle.accounts.specs.Moves.{Moves}

abbrev pub passed : Ledger → Passed
passed x = pass (setting_within x.accounts) (reserve_of x.accounts) (account x.accounts) (map pair_of (vec_items x.waiting))

-- the accounts and the waiting pairs become these, and all else stays
pub record Leaves (old new : Ledger) (t : ℕ → ℕ → ℤ) (ws : List rules.Pair) : Type 0 where
  pub holdings : Moves old.accounts new.accounts t
  pub waits : map pair_of (vec_items new.waiting) ≡ ws
  pub pairs_stay : new.pairs ≡ old.pairs
  pub hour_stays : new.hour ≡ old.hour

-- what settle leaves
abbrev pub settled_all : Ledger → Settled
settled_all x = settle_all (setting_within x.accounts) (reserve_of x.accounts) (account x.accounts) (map pair_of (vec_items x.waiting))

pub record Counted (c : Counts) (x : Settled) : Type 0 where
  pub settled_is : c.settled ≡ length x.settled
  pub passes_is : c.passes ≡ x.made
  pub waiting_is : c.waiting ≡ length x.waiting

abbrev pub counted : Counts → Answer
counted c = counts c.settled c.passes c.waiting
