-- The day that a file holds: what its records make, one after the other.
use Rattle.std.specs.Prelude.{ℕ, zero, suc, List, [], Some, None, Option}
use Rattle.rules.specs.First.{first_of}
use Rattle.rules.specs.Below.{listed}
use Rattle.rules.specs.Refusals.{Refusal}
use Rattle.rules.specs.Sheet as sheets
use Rattle.rules.specs.Sheet.{Sheet, with_currency}
use Rattle.rules.specs.Roster as rosters
use Rattle.rules.specs.Roster.{Roster, with_member}
use Rattle.rules.specs.Pairs.{Pair}
use Rattle.rules.specs.Matching.{Instruction, Terms, Book, instruction_causes, taken_in}
use Rattle.rules.specs.Orders.{by_number}
use Rattle.rules.specs.Setting.{Setting}
use Rattle.rules.specs.Calls as calls
use Rattle.rules.specs.Books.{Books, opened}
use Rattle.rules.specs.Calls.{Answer, Step, respond}
use Rattle.rules.specs.FileForm.{currencies_in, members_in, instructions_in, form_refusal}
use Rattle.rules.specs.FileRecords.{MemberRecord, FileStep, pay_in, clock, settle, pay_out, currency_in, member_in, instruction_in, step_in}

-- the first of two refusals, if there is any
abbrev pub earlier : Option Refusal → Option Refusal → Option Refusal
earlier None later = later
earlier (Some e) later = Some e

-- the sheet of the first k currency records, and the first refusal among them
unfoldable pub sheet_after : List ℕ → ℕ → Sheet
sheet_after f zero = record { currencies = 0; currency = λ _. record { code = []; rate = 0; haircut = 0; instalments = 0 } }
sheet_after f (suc k) = with_currency (sheet_after f k) (currency_in f k)

unfoldable pub sheet_refusal : List ℕ → ℕ → Option Refusal
sheet_refusal f zero = None
sheet_refusal f (suc k) = earlier (sheet_refusal f k) (first_of (sheets.adding_causes (sheet_after f k) (currency_in f k)))

unfoldable pub sheet_in : List ℕ → Sheet
sheet_in f = sheet_after f (currencies_in f)

-- the same of the first k member records
abbrev pub with_record : Roster → MemberRecord → Roster
with_record r x = with_member r x.name x.shorts x.aggregate

unfoldable pub roster_after : List ℕ → ℕ → Roster
roster_after f zero = record { members = 0; member = λ _. record { name = []; short = λ _. 0; aggregate = 0 } }
roster_after f (suc k) = with_record (roster_after f k) (member_in f k)

abbrev pub member_refusal : ℕ → Roster → MemberRecord → Option Refusal
member_refusal currencies r x = first_of (rosters.adding_causes currencies r x.name x.shorts x.aggregate)

unfoldable pub roster_refusal : List ℕ → ℕ → Option Refusal
roster_refusal f zero = None
roster_refusal f (suc k) = earlier (roster_refusal f k) (member_refusal (sheet_in f).currencies (roster_after f k) (member_in f k))

unfoldable pub roster_in : List ℕ → Roster
roster_in f = roster_after f (members_in f)

-- a refusal of the form, of a currency or of a member ends the day: the first of them
unfoldable pub day_refusal : List ℕ → Option Refusal
day_refusal f = earlier (form_refusal f) (earlier (sheet_refusal f (currencies_in f)) (roster_refusal f (members_in f)))

-- what the instructions are checked against
abbrev pub terms_in : List ℕ → Terms
terms_in f = record { members = (roster_in f).members; currencies = (sheet_in f).currencies; rate = λ c. ((sheet_in f).currency c).rate }

-- a refused instruction is not kept
abbrev pub kept_unless : Option Refusal → Terms → Book → Instruction → Book
kept_unless None t b i = taken_in t b i
kept_unless (Some e) t b i = b

-- the refusal of the i-th instruction by an intake, and what the intake is after it
abbrev pub instruction_refusal : List ℕ → Book → ℕ → Option Refusal
instruction_refusal f b i = first_of (instruction_causes (terms_in f) b (instruction_in f i))

abbrev pub next_book : List ℕ → Book → ℕ → Book
next_book f b i = kept_unless (instruction_refusal f b i) (terms_in f) b (instruction_in f i)

-- the intake after the first k instructions
unfoldable pub book_after : List ℕ → ℕ → Book
book_after f zero = record {
  kept = 0;
  instruction = λ _. record { submitter = 0; counterparty = 0; buys = 0; bought = 0; sells = 0; sold = 0; reference = 0 };
  matched = 0;
  pair = λ _. record { number = 0; first = 0; second = 1; buys = 0; bought = 0; sells = 1; sold = 0; reference = 0; weight = 0 };
}
book_after f (suc k) = next_book f (book_after f k) k

abbrev pub pairs_in : Book → List Pair
pairs_in b = listed b.matched b.pair

-- the session's setting: its queue goes by pair number
unfoldable pub setting_in : List ℕ → Setting
setting_in f = record { sheet = sheet_in f; roster = roster_in f; pairs = pairs_in (book_after f (instructions_in f)); before = by_number }

-- a reserve that is granted is paid directly
abbrev pub paid_directly : Setting → Books → Answer → Step
paid_directly s b (calls.reserved r) = respond s b (calls.pay r)
paid_directly s b (calls.refused e) = record { books = b; answer = calls.refused e }
paid_directly s b calls.done = record { books = b; answer = calls.done }
paid_directly s b (calls.counts x y z) = record { books = b; answer = calls.counts x y z }

-- what a step leaves and answers
abbrev pub carried_out : Setting → Books → FileStep → Step
carried_out s b (pay_in m c a) = respond s b (calls.pay_in m c a)
carried_out s b (clock h) = respond s b (calls.clock h)
carried_out s b settle = respond s b calls.settle
carried_out s b (pay_out m c a) = paid_directly s (respond s b (calls.reserve m c a)).books (respond s b (calls.reserve m c a)).answer

-- the books after the first k steps, over an empty nostro
unfoldable pub books_after : List ℕ → ℕ → Books
books_after f zero = opened (setting_in f) (λ _. 0)
books_after f (suc k) = (carried_out (setting_in f) (books_after f k) (step_in f k)).books
