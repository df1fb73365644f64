-- The exact bytes of a statement and of a refusal's line.
use Rattle.std.specs.Prelude.{ℕ, zero, suc, List, [], ◌∷◌, ◌++◌, ℤ, Some, None, codes, decimal, Option}
use Rattle.std.specs.Fmt.{signed_decimal}
use Rattle.rules.specs.Refusals.{Refusal, Layer, file, sheet, roster, intake, session, nostro}

-- each line ends so
abbrev pub newline : List ℕ
newline = 10 ∷ []

-- one currency of a statement: the account, the pay-ins, the pay-outs and the amount due
pub record Entry : Type 0 where
  pub code : List ℕ
  pub account : ℤ
  pub paid_in : ℕ
  pub paid_out : ℕ
  pub due : ℕ

-- `member NAME`
unfoldable pub member_line : List ℕ → List ℕ
member_line name = codes "member " ++ name ++ newline

-- `CODE account A in I out O due D`
unfoldable pub entry_line : Entry → List ℕ
entry_line e = e.code ++ codes " account " ++ signed_decimal e.account ++ codes " in " ++ decimal e.paid_in ++ codes " out " ++ decimal e.paid_out ++ codes " due " ++ decimal e.due ++ newline

-- the lines of the first n currencies, in the order of their numbers
unfoldable pub entry_lines : (ℕ → Entry) → ℕ → List ℕ
entry_lines entry zero = []
entry_lines entry (suc n) = entry_lines entry n ++ entry_line (entry n)

-- `settled S waiting W`
unfoldable pub pairs_line : ℕ → ℕ → List ℕ
pairs_line settled waiting = codes "settled " ++ decimal settled ++ codes " waiting " ++ decimal waiting ++ newline

-- the statement of a member: its name, a line for each of n currencies, and how many of its pairs are settled and how many wait
abbrev pub statement : List ℕ → ℕ → (ℕ → Entry) → ℕ → ℕ → List ℕ
statement name n entry settled waiting = member_line name ++ entry_lines entry n ++ pairs_line settled waiting

abbrev pub layer_name : Layer → List ℕ
layer_name file = codes "file"
layer_name sheet = codes "sheet"
layer_name roster = codes "roster"
layer_name intake = codes "intake"
layer_name session = codes "session"
layer_name nostro = codes "nostro"

-- a number, or `-` where there is none
abbrev pub number_or_dash : Option ℕ → List ℕ
number_or_dash (Some n) = decimal n
number_or_dash None = codes "-"

-- `refusal N LAYER member M currency C place P`
unfoldable pub refusal_line : Refusal → List ℕ
refusal_line r = codes "refusal " ++ decimal r.number ++ codes " " ++ layer_name r.layer ++ codes " member " ++ number_or_dash r.member ++ codes " currency " ++ number_or_dash r.currency ++ codes " place " ++ decimal r.place ++ newline
