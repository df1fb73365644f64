-- Numbers in bytes, the lowest byte first, at every width.
use Rattle.std.proofs.Common.{◌≡◌, ℕ, zero, suc, ◌+◌, ◌*◌, ◌/◌, ◌%◌, ◌^◌, ◌<◌, List, [], ◌∷◌, ◌++◌, length, refl, ap, ◌∙◌, mul_assoc, one-mul, pow-suc, arith}
use native.Mathlib.Nat.{pow-succ'}
use Rattle.std.proofs.Math.Nat.{div-div-eq-div-mul}
use Rattle.std.specs.List.{AllByRecursion}
use Rattle.std.specs.Int.{bytes_low_first}
use Rattle.rules.specs.FileWriting.{number_bytes}

-- the number that bytes give
abbrev pub value : List ℕ → ℕ
value [] = 0
value (b ∷ bs) = b + 256 * value bs

pub length_number : (w n : ℕ) → length (number_bytes w n) ≡ w
unfolding number_bytes
length_number zero n = refl
length_number (suc w) n = ap suc (length_number w (n / 256))

pub value_number : (w n : ℕ) → n < 256 ^ w → value (number_bytes w n) ≡ n
unfolding number_bytes
value_number zero n h = omega arith
value_number (suc w) n h = let p = pow-suc 256 w in let r : n / 256 < 256 ^ w = omega arith in rw (value_number w (n / 256) r) (omega arith)

pub number_value : (bs : List ℕ) → AllByRecursion (λ b. b < 256) bs → number_bytes (length bs) (value bs) ≡ bs
unfolding number_bytes
number_value [] h = refl
number_value (b ∷ bs) h =
    let low : (b + 256 * value bs) % 256 ≡ b = omega arith in
    let rest : (b + 256 * value bs) / 256 ≡ value bs = omega arith in
    rw (low, rest, number_value bs h.1)

pub value_append : (xs ys : List ℕ) → value (xs ++ ys) ≡ value xs + 256 ^ length xs * value ys
value_append [] ys = omega (arith, one-mul (value ys))
value_append (x ∷ xs) ys = rw (value_append xs ys, pow-succ' 256 (length xs), mul_assoc 256 (256 ^ length xs) (value ys)) (omega arith)

-- the bytes that `to_le_bytes` gives, from byte i upward, and all of them
low_bytes : (i w n : ℕ) → bytes_low_first i w n ≡ number_bytes w (n / 256 ^ i)
unfolding number_bytes
low_bytes i zero n = refl
low_bytes zero (suc w) n = let e : n / 256 ^ 0 ≡ n = omega arith in rw (low_bytes 1 w n, e) refl
low_bytes (suc i) (suc w) n = rw (low_bytes (suc (suc i)) w n, div-div-eq-div-mul n (256 ^ suc i) 256, ← pow-suc 256 (suc i)) refl

pub le_bytes : (w n : ℕ) → bytes_low_first 0 w n ≡ number_bytes w n
le_bytes w n = let e : n / 256 ^ 0 ≡ n = omega arith in low_bytes 0 w n ∙ ap (number_bytes w) e
