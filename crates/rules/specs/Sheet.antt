-- The rate sheet of a day, and what an addition to it does.
use Rattle.std.specs.Prelude.{ℕ, ◌+◌, Bool, not, ◌&&◌, ◌||◌, List, [], ◌∷◌, length, Some, None, ◌==◌, nat_le, nat_lt, slice_index}
use Rattle.std.specs.Str.{bytes_eq}
use Rattle.rules.specs.Bounds.{most_currencies, most_rate, most_haircut, most_instalments}
use Rattle.rules.specs.First.{Case}
use Rattle.rules.specs.Below.{some_below, with_at}
use Rattle.rules.specs.Refusals.{Refusal, cause, sheet}

-- a currency: its code, its rate in marks for one unit, its haircut in thousandths, its number of instalments
pub record Currency : Type 0 where
  pub code : List ℕ
  pub rate : ℕ
  pub haircut : ℕ
  pub instalments : ℕ

-- how many currencies there are, and each by its number
pub record Sheet : Type 0 where
  pub currencies : ℕ
  pub currency : ℕ → Currency

-- a letter A to Z
abbrev pub letter : ℕ → Bool
letter b = nat_le 65 b && nat_le b 90

-- a code is three such letters
abbrev pub is_code : List ℕ → Bool
is_code code = length code == 3 && (letter (slice_index code 0) && (letter (slice_index code 1) && letter (slice_index code 2)))

-- a currency of the sheet has this code
abbrev pub code_taken : Sheet → List ℕ → Bool
code_taken s code = some_below s.currencies (λ c. bytes_eq (s.currency c).code code)

-- the rate, the haircut or the number of instalments is out of its range
abbrev pub out_of_range : Currency → Bool
out_of_range x =
    nat_lt x.rate 1 || (nat_lt most_rate x.rate || (nat_lt most_haircut x.haircut || (nat_lt x.instalments 1 || nat_lt most_instalments x.instalments)))

-- why an addition is refused: the refusal names the number that the currency would have had
abbrev pub adding_causes : Sheet → Currency → List (Case Refusal)
adding_causes s x =
    cause 5 sheet None (Some s.currencies) (nat_le most_currencies s.currencies)
    ∷ cause 6 sheet None (Some s.currencies) (not (is_code x.code))
    ∷ cause 6 sheet None (Some s.currencies) (code_taken s x.code)
    ∷ cause 8 sheet None (Some s.currencies) (out_of_range x)
    ∷ []

-- the sheet with one currency more, under the next number
abbrev pub with_currency : Sheet → Currency → Sheet
with_currency s x = record { currencies = s.currencies + 1; currency = with_at s.currency s.currencies x }
