-- Four counts, none of which is above its most.
use Rattle.std.proofs.Common.{◌≡◌, ℕ, ◌≤◌, false, ◌||◌, ltb, arith}
use Rattle.std.proofs.lemmas.Bool.Decides.{nat_tests}

pub few_from : (a b c e : ℕ) → (ltb 24 a || (ltb 32 b || (ltb 1024 c || ltb 2000 e))) ≡ false → (a ≤ 24) × (b ≤ 32) × (c ≤ 1024) × (e ≤ 2000)
few_from a b c e h = grind (arith, nat_tests)

pub few_counts : (a b c e : ℕ) → a ≤ 24 → b ≤ 32 → c ≤ 1024 → e ≤ 2000 → (ltb 24 a || (ltb 32 b || (ltb 1024 c || ltb 2000 e))) ≡ false
few_counts a b c e ha hb hc he = grind (arith, nat_tests)
