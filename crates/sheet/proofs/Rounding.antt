-- A quotient that is rounded up.
use Rattle.std.proofs.Common.{◌≡◌, ℕ, suc, min, ◌+◌, ◌-◌, ◌*◌, ◌/◌, ◌%◌, ◌<◌, ◌≤◌, sym, suc-mul, arith}
use Rattle.std.proofs.lemmas.Grind.{div_ceil_times}
use Rattle.std.proofs.lemmas.Nat.{div_below, mul-le}
use Rattle.std.proofs.Math.Nat.{div-eq_of_lt-le}
use Rattle.rules.specs.Schedule.{rounded_up}

pub rounded_is : (a k : ℕ) → 1 ≤ k → a / k + min 1 (a % k) ≡ rounded_up a k
rounded_is a k l =
    let b = div_ceil_times a k (omega arith) in
    let s = suc-mul (a / k + min 1 (a % k)) k in
    sym (div-eq_of_lt-le k (omega arith) (omega arith))

-- an instalment, rounded up, is at most the whole
pub part_fits : (a g k : ℕ) → 1 ≤ k → g ≤ k → rounded_up (a * g) k ≤ a
part_fits a g k l h =
    let m = mul-le a g a k (omega arith) h in
    let s = suc-mul a k in
    let b : a * g + (k - 1) < suc a * k = omega arith in
    let d = div_below (a * g + (k - 1)) k (suc a) l b in
    omega arith
