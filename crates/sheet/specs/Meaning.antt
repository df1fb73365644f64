-- What a sheet means in the terms of the rules.
use Rattle.std.specs.Prelude.{◌≡◌, ℕ, true, false, List, [], Option, MatchOption, map, vec_items, vec_len, slice_index_or}
use Rattle.rules.specs.Sheet as rules
use Rattle.sheet.specs.declared.currency.Currency.{Currency}
use Rattle.sheet.specs.declared.sheet.Sheet.{Sheet}

-- the currency that an addition asks for
abbrev pub given : List ℕ → ℕ → ℕ → ℕ → rules.Currency
given code rate haircut instalments = record { code = code; rate = rate; haircut = haircut; instalments = instalments }

abbrev pub currency_of : Currency → rules.Currency
currency_of x = record { code = x.code; rate = x.rate; haircut = x.haircut; instalments = x.instalments }

-- the currency asked for, or nothing if a value is out of its range
abbrev pub Checked : rules.Currency → Option Currency → Type 0
Checked x r = MatchOption r (rules.out_of_range x ≡ true) (λ c. (rules.out_of_range x ≡ false) × (currency_of c ≡ x))

-- what stands for a currency off the sheet: all zeros
abbrev pub no_currency : rules.Currency
no_currency = record { code = []; rate = 0; haircut = 0; instalments = 0 }

abbrev pub sheet_of : Sheet → rules.Sheet
sheet_of s = record { currencies = vec_len s.currencies; currency = λ c. slice_index_or (map currency_of (vec_items s.currencies)) c no_currency }
