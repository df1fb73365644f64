-- What a pair means in the terms of the rules, and what is known of the pairs of an intake.
use Rattle.std.specs.Prelude.{◌≡◌, ℕ, ◌+◌, ◌<◌, List, length, slice_index_or}
use Rattle.std.proofs.Common.{lit≤, arith}
use Rattle.rules.specs.Pairs as rules
use Rattle.intake.specs.declared.pair.Pair.{Pair}
use Rattle.intake.specs.Ranges.{no_amount}

abbrev pub pair_of : Pair → rules.Pair
pair_of p = record { number = p.number; first = p.first; second = p.second; buys = p.buys; bought = p.bought.0; sells = p.sells; sold = p.sold.0; reference = p.reference; weight = p.weight.0 }

-- a pair's default, which stands in no list
abbrev pub no_pair : Pair
no_pair = record {
  number = 0;
  first = 0;
  second = 1;
  buys = 0;
  bought = no_amount;
  sells = 1;
  sold = no_amount;
  reference = 0;
  weight = record { 0 = 0 };
  matched = ((λ e. omega arith), (λ e. omega arith), lit≤ tt, lit≤ tt);
}

-- the parties are on a roster of so many members, and the currencies on a sheet of so many
abbrev pub Within : Pair → ℕ → ℕ → Type 0
Within p members currencies = (p.first < members) × (p.second < members) × (p.buys < currencies) × (p.sells < currencies)

-- so of every pair of a list
abbrev pub Listed : List Pair → ℕ → ℕ → Type 0
Listed ps members currencies = (k : ℕ) → k < length ps → Within (slice_index_or ps k no_pair) members currencies

-- numbered from 1 in their order
abbrev pub Counted : List Pair → Type 0
Counted ps = (k : ℕ) → k < length ps → (slice_index_or ps k no_pair).number ≡ k + 1
