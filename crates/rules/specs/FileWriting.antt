-- The bytes of a day file, from its records.
use Rattle.std.specs.Prelude.{ℕ, zero, suc, ◌-◌, ◌/◌, ◌%◌, Bool, false, not, ◌||◌, List, [], ◌∷◌, ◌++◌, length, replicate, Option, ◌==◌, nat_lt}
use Rattle.std.specs.List.{flat_map}
use Rattle.rules.specs.Bounds.{most_currencies, most_members, most_instructions}
use Rattle.rules.specs.First.{Case, first_of}
use Rattle.rules.specs.Sheet.{Currency}
use Rattle.rules.specs.Matching.{Instruction}
use Rattle.rules.specs.FileForm.{byte, most_steps}
use Rattle.rules.specs.FileRecords.{MemberRecord, FileStep, pay_in, clock, settle, pay_out}

-- the records of a day file, kind by kind
pub record DayRecords : Type 0 where
  pub currencies : List Currency
  pub members : List MemberRecord
  pub instructions : List Instruction
  pub steps : List FileStep

-- a number in w bytes, the lowest byte first
unfoldable pub number_bytes : ℕ → ℕ → List ℕ
number_bytes zero n = []
number_bytes (suc w) n = n % 256 ∷ number_bytes w (n / 256)

-- a name, filled up to 16 bytes with spaces
abbrev pub name_bytes : List ℕ → List ℕ
name_bytes name = name ++ replicate (16 - length name) 32

-- code, instalments, rate, haircut
unfoldable pub currency_bytes : Currency → List ℕ
currency_bytes c = c.code ++ number_bytes 1 c.instalments ++ number_bytes 4 c.rate ++ number_bytes 2 c.haircut

-- name, aggregate limit, then the short limits by currency number
unfoldable pub member_bytes : MemberRecord → List ℕ
member_bytes m = name_bytes m.name ++ number_bytes 8 m.aggregate ++ flat_map (number_bytes 4) m.shorts

-- submitter, counterparty, bought and sold currency, bought amount, sold amount, reference
unfoldable pub instruction_bytes : Instruction → List ℕ
instruction_bytes i =
    number_bytes 1 i.submitter ++ number_bytes 1 i.counterparty ++ number_bytes 1 i.buys ++ number_bytes 1 i.sells
    ++ number_bytes 4 i.bought ++ number_bytes 4 i.sold ++ number_bytes 4 i.reference

-- kind, member, currency, hour, amount: 0 in a field that the kind does not read
abbrev pub step_fields : ℕ → ℕ → ℕ → ℕ → ℕ → List ℕ
step_fields kind m c hour amount = number_bytes 1 kind ++ number_bytes 1 m ++ number_bytes 1 c ++ number_bytes 1 hour ++ number_bytes 4 amount

unfoldable pub step_bytes : FileStep → List ℕ
step_bytes (pay_in m c amount) = step_fields 1 m c 0 amount
step_bytes (clock hour) = step_fields 2 0 0 hour 0
step_bytes settle = step_fields 3 0 0 0 0
step_bytes (pay_out m c amount) = step_fields 4 m c 0 amount

-- how many records of each kind there are
abbrev pub count_bytes : DayRecords → List ℕ
count_bytes d =
    number_bytes 2 (length d.currencies) ++ number_bytes 2 (length d.members)
    ++ number_bytes 2 (length d.instructions) ++ number_bytes 2 (length d.steps)

-- the counts, then all currencies, members, instructions and steps
unfoldable pub day_bytes : DayRecords → List ℕ
day_bytes d =
    count_bytes d ++ flat_map currency_bytes d.currencies ++ flat_map member_bytes d.members
    ++ flat_map instruction_bytes d.instructions ++ flat_map step_bytes d.steps

-- some element passes the test
abbrev pub some_of : {A : Type 0} → (A → Bool) → List A → Bool
some_of p [] = false
some_of p (x ∷ xs) = p x || some_of p xs

-- why no file has such records
pub data Fault : Type 0 where
  too_many : Fault
  wrong_code : Fault
  wrong_name : Fault
  wrong_shorts : Fault

-- a count is above its most
abbrev pub has_too_many : DayRecords → Bool
has_too_many d =
    nat_lt most_currencies (length d.currencies) || (nat_lt most_members (length d.members) || (nat_lt most_instructions (length d.instructions) || nat_lt most_steps (length d.steps)))

-- a code has three bytes; a name has at most 16 and does not end in a space; there is a short limit for each of n currencies
abbrev pub code_wrong : Currency → Bool
code_wrong c = not (length c.code == 3)

abbrev pub name_wrong : MemberRecord → Bool
name_wrong m = nat_lt 16 (length m.name) || byte m.name (length m.name - 1) == 32

abbrev pub shorts_wrong : ℕ → MemberRecord → Bool
shorts_wrong n m = not (length m.shorts == n)

-- what can be wrong with records, in the order in which it is checked
abbrev pub fault_cases : DayRecords → List (Case Fault)
fault_cases d =
    record { name = too_many; holds = has_too_many d }
    ∷ record { name = wrong_code; holds = some_of code_wrong d.currencies }
    ∷ record { name = wrong_name; holds = some_of name_wrong d.members }
    ∷ record { name = wrong_shorts; holds = some_of (shorts_wrong (length d.currencies)) d.members }
    ∷ []

-- the first thing that is wrong with records
unfoldable pub writing_fault : DayRecords → Option Fault
writing_fault d = first_of (fault_cases d)
