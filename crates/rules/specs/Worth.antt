-- What a row of balances is worth.
use Rattle.std.specs.Prelude.{ℕ, suc, ◌+◌, ◌-◌, ◌*◌, ℤ, pos, negsuc, neg_ℤ}
use Rattle.rules.specs.Sums.{total, total_ℤ}
use Rattle.rules.specs.Sheet.{Sheet, Currency}

-- a balance's worth, in thousandths of a mark: a long one is cut by the haircut, a short one is raised by it
abbrev pub adjusted_one : Currency → ℤ → ℤ
adjusted_one x (pos n) = pos (n * (x.rate * (1000 - x.haircut)))
adjusted_one x (negsuc n) = neg_ℤ (pos (suc n * (x.rate * (1000 + x.haircut))))

-- the adjusted value of a row, in thousandths of a mark
abbrev pub adjusted : Sheet → (ℕ → ℤ) → ℤ
adjusted s row = total_ℤ s.currencies (λ c. adjusted_one (s.currency c) (row c))

-- how much a balance is below 0
abbrev pub below_0 : ℤ → ℕ
below_0 (pos n) = 0
below_0 (negsuc n) = suc n

-- the short marks of a row: the sum of (- balance) × rate over the balances below 0
abbrev pub short_marks : Sheet → (ℕ → ℤ) → ℕ
short_marks s row = total s.currencies (λ c. below_0 (row c) * (s.currency c).rate)
