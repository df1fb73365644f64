-- Instructions, and how they are matched into pairs.
use Rattle.std.specs.Prelude.{ℕ, ◌+◌, ◌*◌, Bool, cond, not, ◌&&◌, ◌||◌, List, [], ◌∷◌, Some, ◌==◌, nat_le, nat_lt}
use Rattle.rules.specs.Bounds.{most_instructions, most_units}
use Rattle.rules.specs.First.{Case}
use Rattle.rules.specs.Below.{some_below, with_at}
use Rattle.rules.specs.Refusals.{Refusal, cause, intake}
use Rattle.rules.specs.Pairs.{Pair}

-- the submitter buys an amount of one currency from the counterparty, and sells it an amount of another
pub record Instruction : Type 0 where
  pub submitter : ℕ
  pub counterparty : ℕ
  pub buys : ℕ
  pub bought : ℕ
  pub sells : ℕ
  pub sold : ℕ
  pub reference : ℕ

-- the mirror of an instruction: parties and legs exchanged, with the same amounts and reference
abbrev pub mirror : Instruction → Instruction
mirror i = record { submitter = i.counterparty; counterparty = i.submitter; buys = i.sells; bought = i.sold; sells = i.buys; sold = i.bought; reference = i.reference }

-- a is the mirror of b
abbrev pub mirrors : Instruction → Instruction → Bool
mirrors a b =
    (a.submitter == b.counterparty) && (a.counterparty == b.submitter
    && (a.buys == b.sells && (a.bought == b.sold && (a.sells == b.buys && (a.sold == b.bought
    && a.reference == b.reference)))))

-- the submitter's reference names an instruction: no other that is kept has both
abbrev pub same_name : Instruction → Instruction → Bool
same_name a b = a.submitter == b.submitter && a.reference == b.reference

-- the pair is made of the instruction
abbrev pub of_pair : Pair → Instruction → Bool
of_pair p i = (p.first == i.submitter || p.second == i.submitter) && p.reference == i.reference

-- the pair whose first party submitted i; its weight is what that party buys, at the rate
abbrev pub pair_from : (ℕ → ℕ) → ℕ → Instruction → Pair
pair_from rate number i = record { number = number; first = i.submitter; second = i.counterparty; buys = i.buys; bought = i.bought; sells = i.sells; sold = i.sold; reference = i.reference; weight = i.bought * rate i.buys }

-- what instructions are checked against: the numbers of members and currencies, and the rates
pub record Terms : Type 0 where
  pub members : ℕ
  pub currencies : ℕ
  pub rate : ℕ → ℕ

-- the instructions kept, in the order in which they came, and the pairs, in the order of matching: how many, and each by its place
pub record Book : Type 0 where
  pub kept : ℕ
  pub instruction : ℕ → Instruction
  pub matched : ℕ
  pub pair : ℕ → Pair

-- a kept instruction has the submitter and the reference of i
abbrev pub reference_used : Book → Instruction → Bool
reference_used b i = some_below b.kept (λ k. same_name (b.instruction k) i)

-- the instruction is in a pair
abbrev pub is_matched : Book → Instruction → Bool
is_matched b i = some_below b.matched (λ k. of_pair (b.pair k) i)

-- the mirror of i is kept, unmatched
abbrev pub is_awaited : Book → Instruction → Bool
is_awaited b i = some_below b.kept (λ k. mirrors (b.instruction k) i && not (is_matched b (b.instruction k)))

-- a party is not on the roster, or the counterparty is the submitter
abbrev pub off_roster : ℕ → Instruction → Bool
off_roster members i = nat_le members i.submitter || (nat_le members i.counterparty || i.submitter == i.counterparty)

-- a currency is not on the sheet
abbrev pub off_sheet : ℕ → Instruction → Bool
off_sheet currencies i = nat_le currencies i.buys || nat_le currencies i.sells

-- an amount is out of range
abbrev pub off_range : Instruction → Bool
off_range i = nat_lt i.bought 1 || (nat_lt most_units i.bought || (nat_lt i.sold 1 || nat_lt most_units i.sold))

-- why an instruction is refused: the refusal names the submitter and the bought currency
abbrev pub instruction_causes : Terms → Book → Instruction → List (Case Refusal)
instruction_causes t b i =
    cause 5 intake (Some i.submitter) (Some i.buys) (nat_le most_instructions b.kept)
    ∷ cause 9 intake (Some i.submitter) (Some i.buys) (off_roster t.members i)
    ∷ cause 10 intake (Some i.submitter) (Some i.buys) (off_sheet t.currencies i)
    ∷ cause 11 intake (Some i.submitter) (Some i.buys) (off_range i)
    ∷ cause 12 intake (Some i.submitter) (Some i.buys) (i.reference == 0 || reference_used b i)
    ∷ cause 13 intake (Some i.submitter) (Some i.buys) (i.buys == i.sells)
    ∷ []

-- an instruction that is not refused is kept; if its mirror is kept unmatched the two become a pair, whose first party submitted the mirror
abbrev pub taken_in : Terms → Book → Instruction → Book
taken_in t b i = record {
  kept = b.kept + 1;
  instruction = with_at b.instruction b.kept i;
  matched = cond (is_awaited b i) (b.matched + 1) b.matched;
  pair = cond (is_awaited b i) (with_at b.pair b.matched (pair_from t.rate (b.matched + 1) (mirror i))) b.pair;
}
