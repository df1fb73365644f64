-- The records of a day file, as what they say.
use Rattle.std.specs.Prelude.{ℕ, zero, suc, ◌+◌, ◌-◌, ◌*◌, cond, List, length, take, drop, ◌==◌, nat_lt}
use Rattle.rules.specs.Below.{listed}
use Rattle.rules.specs.Sheet.{Currency}
use Rattle.rules.specs.Matching.{Instruction}
use Rattle.rules.specs.FileForm.{byte, two_bytes, four_bytes, eight_bytes, currencies_in, members_in, instructions_in, steps_in, member_size, currency_at, member_at, instruction_at, step_at}

-- a member: its name, its aggregate limit in marks, and its short limits in units, by currency number
pub record MemberRecord : Type 0 where
  pub name : List ℕ
  pub aggregate : ℕ
  pub shorts : List ℕ

-- a step: member, currency and amount of a pay-in or of a reserve that is paid directly; the hour of the clock
pub data FileStep : Type 0 where
  pay_in : ℕ → ℕ → ℕ → FileStep
  clock : ℕ → FileStep
  settle : FileStep
  pay_out : ℕ → ℕ → ℕ → FileStep

-- any of the four
pub data FileRecord : Type 0 where
  currency : Currency → FileRecord
  member : MemberRecord → FileRecord
  instruction : Instruction → FileRecord
  step : FileStep → FileRecord

-- n bytes from i on
abbrev pub part : List ℕ → ℕ → ℕ → List ℕ
part f i n = take n (drop i f)

-- how many of the first n bytes are left when the spaces at their end are taken off
unfoldable pub trimmed_length : List ℕ → ℕ → ℕ
trimmed_length s zero = 0
trimmed_length s (suc n) = cond (byte s n == 32) (trimmed_length s n) (suc n)

-- a name is what is left of its field when the spaces at its end are taken off
abbrev pub trimmed : List ℕ → List ℕ
trimmed s = take (trimmed_length s (length s)) s

-- code 3 bytes, instalments 1, rate 4, haircut 2
abbrev pub currency_from : List ℕ → ℕ → Currency
currency_from f i = record { code = part f i 3; rate = four_bytes f (i + 4); haircut = two_bytes f (i + 8); instalments = byte f (i + 3) }

-- name 16 bytes, aggregate limit 8, then a short limit of 4 for each of n currencies
abbrev pub member_from : List ℕ → ℕ → ℕ → MemberRecord
member_from f n i = record { name = trimmed (part f i 16); aggregate = eight_bytes f (i + 16); shorts = listed n (λ c. four_bytes f (i + 24 + 4 * c)) }

-- submitter, counterparty, bought and sold currency 1 byte each; bought amount, sold amount and reference 4 each
abbrev pub instruction_from : List ℕ → ℕ → Instruction
instruction_from f i = record { submitter = byte f i; counterparty = byte f (i + 1); buys = byte f (i + 2); bought = four_bytes f (i + 4); sells = byte f (i + 3); sold = four_bytes f (i + 8); reference = four_bytes f (i + 12) }

-- kind, member, currency and hour 1 byte each, then the amount, 4: the fields that a kind does not read are passed over
abbrev pub step_from : List ℕ → ℕ → FileStep
step_from f i =
    cond (byte f i == 1) (pay_in (byte f (i + 1)) (byte f (i + 2)) (four_bytes f (i + 4)))
    (cond (byte f i == 2) (clock (byte f (i + 3)))
    (cond (byte f i == 3) settle
    (pay_out (byte f (i + 1)) (byte f (i + 2)) (four_bytes f (i + 4)))))

-- the i-th record of each kind
unfoldable pub currency_in : List ℕ → ℕ → Currency
currency_in f i = currency_from f (currency_at f i)

unfoldable pub member_in : List ℕ → ℕ → MemberRecord
member_in f i = member_from f (currencies_in f) (member_at f i)

unfoldable pub instruction_in : List ℕ → ℕ → Instruction
instruction_in f i = instruction_from f (instruction_at f i)

unfoldable pub step_in : List ℕ → ℕ → FileStep
step_in f i = step_from f (step_at f i)

-- how many records the file has, and where those of a kind begin among them: the currencies come first
abbrev pub instructions_from : List ℕ → ℕ
instructions_from f = currencies_in f + members_in f

abbrev pub steps_from : List ℕ → ℕ
steps_from f = instructions_from f + instructions_in f

abbrev pub records_in : List ℕ → ℕ
records_in f = steps_from f + steps_in f

-- the k-th record of the file, whatever its kind, and where it ends
abbrev pub record_in : List ℕ → ℕ → FileRecord
record_in f k =
    cond (nat_lt k (currencies_in f)) (currency (currency_in f k))
    (cond (nat_lt k (instructions_from f)) (member (member_in f (k - currencies_in f)))
    (cond (nat_lt k (steps_from f)) (instruction (instruction_in f (k - instructions_from f)))
    (step (step_in f (k - steps_from f)))))

abbrev pub record_end : List ℕ → ℕ → ℕ
record_end f k =
    cond (nat_lt k (currencies_in f)) (currency_at f k + 10)
    (cond (nat_lt k (instructions_from f)) (member_at f (k - currencies_in f) + member_size f)
    (cond (nat_lt k (steps_from f)) (instruction_at f (k - instructions_from f) + 16)
    (step_at f (k - steps_from f) + 8)))
