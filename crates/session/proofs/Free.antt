-- The cash that is free: what the nostro shows, less all reservations in the currency.
use Rattle.std.proofs.Common.{◌≡◌, ℕ, ◌-◌, ◌<◌, ◌≤◌, min, Bool, cond, ap, arith}
use Rattle.std.proofs.lemmas.Bool.{le-ltb}
use Rattle.rules.specs.Nostro.{cash_shown, last_number}

-- cash is shown up to 2^64 - 1, which is more than all reservations and an amount
shown : (cash : ℕ → ℕ) (c : ℕ) → c ≤ last_number → cash_shown cash c ≡ min (cash c) 18446744073709551615
shown cash c l = ap (λ (t : Bool). cond t 0 (min (cash c) 18446744073709551615)) (le-ltb last_number c l)

pub free_short : (cash : ℕ → ℕ) (c a all free x y : ℕ) → c ≤ last_number → free ≡ x - y → x ≡ cash_shown cash c → y ≡ all → y ≤ 32000000000000 → a ≤ 1000000000 → free < a → cash c - all < a
free_short cash c a all free x y l e f g n k t = let h = shown cash c l in omega arith

pub free_enough : (cash : ℕ → ℕ) (c a all free x y : ℕ) → c ≤ last_number → free ≡ x - y → x ≡ cash_shown cash c → y ≡ all → a ≤ free → a ≤ cash c - all
free_enough cash c a all free x y l e f g t = let h = shown cash c l in omega arith
