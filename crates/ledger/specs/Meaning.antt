-- What a ledger means in the terms of the rules.
use Rattle.std.specs.Prelude.{ℕ, Bool, List, map, vec_items}
use Rattle.rules.specs.Pairs as rules
use Rattle.rules.specs.Setting.{Setting}
use Rattle.rules.specs.Books.{Books}
use Rattle.intake.specs.Parties.{pair_of}
use Rattle.accounts.specs.Meaning.{setting_at, account, reserve_of, ins_of, outs_of}
use Rattle.ledger.specs.declared.ledger.Ledger.{Ledger}

-- the waiting pairs, in queue order
abbrev pub queue_of : Ledger → List rules.Pair
queue_of x = map pair_of (vec_items x.waiting)

-- the day under an order
abbrev pub setting_by : (rules.Pair → rules.Pair → Bool) → Ledger → Setting
setting_by before x = setting_at before (map pair_of (vec_items x.pairs)) x.accounts

-- the books beside a nostro's cash
abbrev pub books_with : (ℕ → ℕ) → Ledger → Books
books_with cash x = record {
  account = account x.accounts;
  reserve_of = reserve_of x.accounts;
  paid_in = ins_of x.accounts;
  paid_out = outs_of x.accounts;
  hour = x.hour;
  waiting = queue_of x;
  cash = cash;
}

-- what the ledger alone knows of them: no cash
abbrev pub books_within : Ledger → Books
books_within x = books_with (λ c. 0) x
