-- What a nostro's answer says of its cash, as one table and by cause.
use Rattle.std.proofs.Common.{◌≡◌, ℕ, ◌+◌, ◌-◌, ◌<◌, ◌≤◌, Bool, true, false, cond, ltb, Some, None, sym, refl, ap, subst, inl, inr, arith}
use mathlib.Core.Path.{fun_ext}
use Rattle.std.proofs.lemmas.Bool.{cases_eq, eq-eqb, ne_eqb, ltb-true, ltb-false, le-ltb}
use Rattle.rules.specs.Bounds.{most_sum}
use Rattle.rules.specs.First.{first_of}
use Rattle.rules.specs.Refusals.{Refusal}
use Rattle.rules.specs.Books.{received, spent}
use Rattle.rules.specs.Nostro.{receipt_causes, payment_causes, last_number, OnlyAt}
use Rattle.rules.proofs.Firsts.{first_none, none_first}

pub cash-received : (cash cash' : ℕ → ℕ) (c a : ℕ) → OnlyAt cash c (cash c + a) cash' → cash' ≡ received cash c a
cash-received cash cash' c a o = fun_ext (λ k. elim (cases_eq k c) [
  | inl e ↦ subst (λ (x : ℕ). cash' x ≡ received cash c a x) (sym e) (let h = o.here in let t = ap (λ (b : Bool). cond b a 0) (eq-eqb c c refl) in omega arith)
  | inr n ↦ (let h = o.other k n in let t = ap (λ (b : Bool). cond b a 0) (ne_eqb c k (λ e. n (sym e))) in omega arith)
])

pub cash-spent : (cash cash' : ℕ → ℕ) (c a : ℕ) → OnlyAt cash c (cash c - a) cash' → cash' ≡ spent cash c a
cash-spent cash cash' c a o = fun_ext (λ k. elim (cases_eq k c) [
  | inl e ↦ subst (λ (x : ℕ). cash' x ≡ spent cash c a x) (sym e) (let h = o.here in let t = ap (λ (b : Bool). cond b a 0) (eq-eqb c c refl) in omega arith)
  | inr n ↦ (let h = o.other k n in let t = ap (λ (b : Bool). cond b a 0) (ne_eqb c k (λ e. n (sym e))) in omega arith)
])

-- a receipt that is taken keeps within the ceiling, and a payment that is made within the cash
pub within_ceiling : (cash : ℕ → ℕ) (c a : ℕ) → first_of (receipt_causes cash c a) ≡ None → cash c + a ≤ most_sum
within_ceiling cash c a e = ltb-false most_sum (cash c + a) (first_none (receipt_causes cash c a) e).1.0

pub within_cash : (cash : ℕ → ℕ) (c a : ℕ) → first_of (payment_causes cash c a) ≡ None → a ≤ cash c
within_cash cash c a e = ltb-false (cash c) a (first_none (payment_causes cash c a) e).1.0

-- in a currency that it has, a nostro refuses a receipt for its ceiling alone, and a payment for its cash alone
pub over_ceiling : (cash : ℕ → ℕ) (c a : ℕ) (r : Refusal) → c ≤ last_number → first_of (receipt_causes cash c a) ≡ Some r → most_sum < cash c + a
over_ceiling cash c a r l e = go (ltb most_sum (cash c + a)) refl
  where
    go : (t : Bool) → ltb most_sum (cash c + a) ≡ t → most_sum < cash c + a
    go true q = ltb-true _ _ q
    go false q = absurd (let none : first_of (receipt_causes cash c a) ≡ None = none_first (receipt_causes cash c a) (le-ltb last_number c l, (q, tt)) in let z : ◌≡◌ {A = ℕ} 0 1 = cc in omega arith)

pub over_cash : (cash : ℕ → ℕ) (c a : ℕ) (r : Refusal) → c ≤ last_number → first_of (payment_causes cash c a) ≡ Some r → cash c < a
over_cash cash c a r l e = go (ltb (cash c) a) refl
  where
    go : (t : Bool) → ltb (cash c) a ≡ t → cash c < a
    go true q = ltb-true _ _ q
    go false q = absurd (let none : first_of (payment_causes cash c a) ≡ None = none_first (payment_causes cash c a) (le-ltb last_number c l, (q, tt)) in let z : ◌≡◌ {A = ℕ} 0 1 = cc in omega arith)
