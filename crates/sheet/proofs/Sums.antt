-- A balance's worth.
use Rattle.std.proofs.Common.{◌≡◌, ℕ, ◌+◌, ◌-◌, ◌*◌, Bool, cond, ℤ, pos, negsuc, ◌*ℤ◌, int_lt, ap, ◌∙◌, arith}
use lib.IntN.{pos-*ℤ-pos, negsuc-*ℤ-pos}
use Rattle.std.proofs.lemmas.Bool.{le-ltb}
use Rattle.rules.specs.Worth.{adjusted_one}
use Rattle.sheet.specs.declared.currency.Currency.{Currency}
use Rattle.sheet.specs.Meaning.{currency_of}

-- thousandths of a mark for one unit: the rate raised by the haircut where it is owed, and cut by it where it is held
abbrev pub price : Currency → Bool → ℕ
price x owed = x.rate * cond owed (1000 + x.haircut) (1000 - x.haircut)

abbrev pub worth : Currency → ℤ → ℤ
worth x b = b *ℤ pos (price x (int_lt b (pos 0)))

-- a balance's worth as one product, and by the two signs
pub worth_is : (x : Currency) (b : ℤ) → worth x b ≡ adjusted_one (currency_of x) b
worth_is x (pos n) = ap (λ (t : Bool). pos n *ℤ pos (price x t)) (le-ltb n 0 (omega arith)) ∙ pos-*ℤ-pos n _
worth_is x (negsuc n) = negsuc-*ℤ-pos n _
