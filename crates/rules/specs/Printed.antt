-- What is printed for a day file.
use Rattle.std.specs.Prelude.{ℕ, zero, suc, List, [], ◌++◌, Some, None, Option}
use Rattle.rules.specs.Refusals.{Refusal}
use Rattle.rules.specs.Setting.{Setting}
use Rattle.rules.specs.Calls as calls
use Rattle.rules.specs.Books.{Books, closed}
use Rattle.rules.specs.Calls.{Answer}
use Rattle.rules.specs.Statements.{statement_of}
use Rattle.rules.specs.Wording.{refusal_line}
use Rattle.rules.specs.FileForm.{members_in, instructions_in, steps_in}
use Rattle.rules.specs.FileRecords.{step_in}
use Rattle.rules.specs.FileDay.{day_refusal, instruction_refusal, book_after, setting_in, carried_out, books_after}

-- the refusal in an answer
abbrev pub refusal_in : Answer → Option Refusal
refusal_in (calls.refused e) = Some e
refusal_in (calls.reserved r) = None
refusal_in calls.done = None
refusal_in (calls.counts x y z) = None

-- the line of a refusal that names a place, or nothing
abbrev pub line_at : ℕ → Option Refusal → List ℕ
line_at place None = []
line_at place (Some e) = refusal_line (record { number = e.number; layer = e.layer; member = e.member; currency = e.currency; place = place })

-- the lines of the first k instructions: each names its number among them
unfoldable pub instruction_lines : List ℕ → ℕ → List ℕ
instruction_lines f zero = []
instruction_lines f (suc k) = instruction_lines f k ++ line_at k (instruction_refusal f (book_after f k) k)

-- the lines of the first k steps, likewise
unfoldable pub step_lines : List ℕ → ℕ → List ℕ
step_lines f zero = []
step_lines f (suc k) = step_lines f k ++ line_at k (refusal_in (carried_out (setting_in f) (books_after f k) (step_in f k)).answer)

-- the statements of the first k members
unfoldable pub statements : Setting → Books → ℕ → List ℕ
statements s b zero = []
statements s b (suc k) = statements s b k ++ statement_of s b k

-- all lines of a day that is not ended by a refusal: it is closed after its last step
abbrev pub day_lines : List ℕ → List ℕ
day_lines f = instruction_lines f (instructions_in f) ++ step_lines f (steps_in f) ++ statements (setting_in f) (closed (books_after f (steps_in f))) (members_in f)

-- the line of the refusal that ends the day, alone; or all lines of the day
abbrev pub lines_unless : Option Refusal → List ℕ → List ℕ
lines_unless None f = day_lines f
lines_unless (Some e) f = refusal_line e

abbrev pub printed : List ℕ → List ℕ
printed f = lines_unless (day_refusal f) f
