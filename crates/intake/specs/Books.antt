-- What an intake means in the terms of the rules.
use Rattle.std.specs.Prelude.{◌≡◌, List, Ok, Err, vec_items, vec_len, Result, Vec, slice_index_or}
use Rattle.rules.specs.First.{Case}
use Rattle.rules.specs.Refusals.{Refusal}
use Rattle.rules.specs.Matching as rules
use Rattle.std.specs.declared.alloc.AllocFailed.{AllocFailed}
use Rattle.std.specs.declared.alloc.Global.{Global}
use Rattle.intake.specs.declared.instruction.Instruction.{Instruction}
use Rattle.intake.specs.declared.intake.Intake.{Intake}
use Rattle.intake.specs.declared.pair.Pair.{Pair}
use Rattle.intake.specs.declared.roster.Roster.{Roster}
use Rattle.book.specs.declared.row.Row.{Row}
use Rattle.intake.specs.Ranges.{no_amount}
use Rattle.intake.specs.Rosters.{terms_of}
use Rattle.intake.specs.Parties.{no_pair, pair_of}

-- an instruction's default, which stands in no list
abbrev pub no_instruction : Instruction
no_instruction = record { submitter = 0; counterparty = 0; buys = 0; bought = no_amount; sells = 0; sold = no_amount; reference = 0 }

abbrev pub instruction_of : Instruction → rules.Instruction
instruction_of i = record { submitter = i.submitter; counterparty = i.counterparty; buys = i.buys; bought = i.bought.0; sells = i.sells; sold = i.sold.0; reference = i.reference }

abbrev pub book_of : Intake → rules.Book
book_of x = record {
  kept = vec_len x.kept;
  instruction = λ k. instruction_of (slice_index_or (vec_items x.kept) k no_instruction);
  matched = vec_len x.pairs;
  pair = λ k. pair_of (slice_index_or (vec_items x.pairs) k no_pair);
}

-- the roster that an intake stands over
abbrev pub roster_under : Intake → Roster
roster_under x = x.roster

-- the memory that an intake keeps for the session: for its queue and for its rows
abbrev pub kept_for_queue : Intake → Vec Pair Global
kept_for_queue x = x.queue

abbrev pub kept_for_rows : Intake → Vec Row Global
kept_for_rows x = x.rows

-- the pairs of an intake, in the order of matching
abbrev pub pairs_of : Intake → Vec Pair Global
pairs_of x = x.pairs

-- why the intake refuses an instruction
abbrev pub causes_against : Intake → Instruction → List (Case Refusal)
causes_against x i = rules.instruction_causes (terms_of x.roster) (book_of x) (instruction_of i)

-- an empty intake over the roster, or the roster back
abbrev pub Begun : Roster → Result Intake (AllocFailed Roster) → Type 0
Begun roster (Ok x) = (book_of x ≡ record { kept = 0; instruction = λ _. instruction_of no_instruction; matched = 0; pair = λ _. pair_of no_pair }) × (x.roster ≡ roster)
Begun roster (Err e) = e.value ≡ roster
