-- The form of a day file: its counts, where its records stand, and what is wrong with it, if anything is.
use Rattle.std.specs.Prelude.{ℕ, ◌+◌, ◌*◌, Bool, not, ◌&&◌, ◌||◌, List, ◌∷◌, length, None, Option, ◌==◌, nat_le, nat_lt, slice_index}
use Rattle.rules.specs.Bounds.{most_currencies, most_members, most_instructions}
use Rattle.rules.specs.First.{Case, first_of}
use Rattle.rules.specs.Below.{listed}
use Rattle.rules.specs.Refusals.{Refusal, cause, file}

-- bytes: the four counts, which come first, and the longest file
abbrev pub counts_size : ℕ
counts_size = 8

abbrev pub most_bytes : ℕ
most_bytes = 40000

abbrev pub most_steps : ℕ
most_steps = 2000

-- the byte at i, and the number in the two, four or eight bytes from i on, the lowest byte first
abbrev pub byte : List ℕ → ℕ → ℕ
byte f i = slice_index f i

abbrev pub two_bytes : List ℕ → ℕ → ℕ
two_bytes f i = byte f i + 256 * byte f (i + 1)

abbrev pub four_bytes : List ℕ → ℕ → ℕ
four_bytes f i = two_bytes f i + 65536 * two_bytes f (i + 2)

abbrev pub eight_bytes : List ℕ → ℕ → ℕ
eight_bytes f i = four_bytes f i + 4294967296 * four_bytes f (i + 4)

-- how many records of each kind there are
abbrev pub currencies_in : List ℕ → ℕ
currencies_in f = two_bytes f 0

abbrev pub members_in : List ℕ → ℕ
members_in f = two_bytes f 2

abbrev pub instructions_in : List ℕ → ℕ
instructions_in f = two_bytes f 4

abbrev pub steps_in : List ℕ → ℕ
steps_in f = two_bytes f 6

-- bytes of a member's record: it has one short limit for each currency
abbrev pub member_size : List ℕ → ℕ
member_size f = 24 + 4 * currencies_in f

-- where the i-th record of a kind begins: currencies, members, instructions and steps follow in that order
abbrev pub currency_at : List ℕ → ℕ → ℕ
currency_at f i = counts_size + 10 * i

abbrev pub member_at : List ℕ → ℕ → ℕ
member_at f i = currency_at f (currencies_in f) + member_size f * i

abbrev pub instruction_at : List ℕ → ℕ → ℕ
instruction_at f i = member_at f (members_in f) + 16 * i

abbrev pub step_at : List ℕ → ℕ → ℕ
step_at f i = instruction_at f (instructions_in f) + 8 * i

-- a step's kind is 1 to 4
abbrev pub known_kind : ℕ → Bool
known_kind k = nat_le 1 k && nat_le k 4

-- the file is too short or too long; a count is above its most; the length is not what the counts give
abbrev pub length_wrong : List ℕ → Bool
length_wrong f = nat_lt (length f) counts_size || nat_lt most_bytes (length f)

abbrev pub counts_wrong : List ℕ → Bool
counts_wrong f = nat_lt most_currencies (currencies_in f) || (nat_lt most_members (members_in f) || (nat_lt most_instructions (instructions_in f) || nat_lt most_steps (steps_in f)))

abbrev pub form_wrong : List ℕ → Bool
form_wrong f = not (length f == step_at f (steps_in f))

-- a refusal of the file speaks of no member and no currency
abbrev pub file_refusal : ℕ → ℕ → Refusal
file_refusal number place = record { number = number; layer = file; member = None; currency = None; place = place }

-- the i-th step is of no known kind; the refusal names where it stands
abbrev pub kind_cause : List ℕ → ℕ → Case Refusal
kind_cause f i = record { name = file_refusal 4 (step_at f i); holds = not (known_kind (byte f (step_at f i))) }

-- what can be wrong with the form of a file, in the order in which it is checked
abbrev pub form_causes : List ℕ → List (Case Refusal)
form_causes f =
    cause 1 file None None (length_wrong f)
    ∷ cause 2 file None None (counts_wrong f)
    ∷ cause 3 file None None (form_wrong f)
    ∷ listed (steps_in f) (kind_cause f)

-- the first thing that is wrong with the form of a file
unfoldable pub form_refusal : List ℕ → Option Refusal
form_refusal f = first_of (form_causes f)
