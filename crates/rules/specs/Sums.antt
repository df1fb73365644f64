-- Sums over the numbers below n, and a table that is 0 but at one place.
use Rattle.std.specs.Prelude.{ℕ, zero, suc, ◌+◌, cond, ◌&&◌, ℤ, pos, ◌+ℤ◌, ◌==◌}

-- f 0 + f 1 + .. + f (n - 1)
abbrev pub total : ℕ → (ℕ → ℕ) → ℕ
total zero f = 0
total (suc n) f = total n f + f n

abbrev pub total_ℤ : ℕ → (ℕ → ℤ) → ℤ
total_ℤ zero f = pos 0
total_ℤ (suc n) f = total_ℤ n f +ℤ f n

-- a at member m and currency c, and 0 elsewhere
abbrev pub only : ℕ → ℕ → ℕ → ℕ → ℕ → ℕ
only m c a m' c' = cond (m == m' && c == c') a 0
