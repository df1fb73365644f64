-- Products of a bounded balance and a bounded price.
use Rattle.std.proofs.Common.{◌≡◌, ℕ, suc, ◌*◌, ◌^◌, ◌<◌, ◌≤◌, ℤ, pos, negsuc, ◌*ℤ◌, mul-le-mul, arith, w64, SFits, to_z, of_z, rules}
use lib.IntN.{pos-*ℤ-pos, negsuc-*ℤ-pos}
use Rattle.std.proofs.lemmas.Int.{ints, to_z-of_z}
use Rattle.sheet.specs.Balances.{Within}

pub within_mul : (b : ℤ) (p n m : ℕ) → Within b n → p ≤ m → Within (b *ℤ pos p) (n * m)
within_mul (pos k) p n m h l =
    let k≤ : k ≤ n = omega (arith, ints, h.1) in
    let le : k * p ≤ n * m = mul-le-mul k≤ l in
    rw pos-*ℤ-pos (omega (arith, ints), omega (arith, ints))
within_mul (negsuc k) p n m h l =
    let k≤ : suc k ≤ n = omega (arith, ints, h.0) in
    let le : suc k * p ≤ n * m = mul-le-mul k≤ l in
    rw negsuc-*ℤ-pos (omega (arith, ints), omega (arith, ints))

pub sfits_within : (z : ℤ) (n : ℕ) → Within z n → n < 2 ^ 63 → SFits w64 z
sfits_within z n h l = search (rules, ints)

-- a product as code has it, from the bits and back
pub mul_is : (b r : ℤ) (p : ℕ) → SFits w64 b → r ≡ pos p → SFits w64 (pos p) → SFits w64 (b *ℤ pos p) → to_z w64 (of_z w64 (to_z w64 (of_z w64 b) *ℤ to_z w64 (of_z w64 r))) ≡ b *ℤ pos p
mul_is b r p fb e fp f = simp (e, to_z-of_z)

pub mul_fits : (b r : ℤ) (p : ℕ) → SFits w64 b → r ≡ pos p → SFits w64 (pos p) → SFits w64 (b *ℤ pos p) → SFits w64 (to_z w64 (of_z w64 b) *ℤ to_z w64 (of_z w64 r))
mul_fits b r p fb e fp f = simp (e, to_z-of_z) f
