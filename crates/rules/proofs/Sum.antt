-- Laws of the sums.
use Rattle.std.proofs.Common.{◌≡◌, ℕ, zero, suc, ◌+◌, ◌*◌, ◌<◌, ◌≤◌, Bool, true, false, cond, ◌&&◌, eqb, ◌⊎◌, ℤ, pos, ◌+ℤ◌, ◌*ℤ◌, neg_ℤ, ◌≤ℤ◌, sym, refl, ap, ◌∙◌, inl, inr, add-one, arith}
use mathlib.Core.Path.{fun_ext}
use borrow.Author.Differences.{ints, sum_is_lem}
use Rattle.std.proofs.lemmas.Bool.{eqb-true, eq-eqb, ne_eqb, cases_lt, cases_Bool, cond-true, cond-false, cond_both, and_from, and_parts, and_left}
use Rattle.rules.specs.Sums.{total, total_ℤ, only}

pub total_add : (n : ℕ) (f g : ℕ → ℕ) → total n (λ i. f i + g i) ≡ total n f + total n g
total_add zero f g = refl
total_add (suc n) f g = omega (arith, total_add n f g)

pub total_ℤ_add : (n : ℕ) (f g : ℕ → ℤ) → total_ℤ n (λ i. f i +ℤ g i) ≡ total_ℤ n f +ℤ total_ℤ n g
total_ℤ_add zero f g = refl
total_ℤ_add (suc n) f g = let h = total_ℤ_add n f g in omega (arith, ints)

pub total_ℤ_pos : (n : ℕ) (f : ℕ → ℕ) → total_ℤ n (λ i. pos (f i)) ≡ pos (total n f)
total_ℤ_pos zero f = refl
total_ℤ_pos (suc n) f = let h = total_ℤ_pos n f in omega (arith, ints)

pub total_ℤ_neg : (n : ℕ) (f : ℕ → ℤ) → total_ℤ n (λ i. neg_ℤ (f i)) ≡ neg_ℤ (total_ℤ n f)
total_ℤ_neg zero f = refl
total_ℤ_neg (suc n) f = let h = total_ℤ_neg n f in omega (arith, ints)

pub times_add : (a b : ℤ) (k : ℕ) → (a +ℤ b) *ℤ pos k ≡ a *ℤ pos k +ℤ b *ℤ pos k
times_add a b k = let h = ap (λ (x : ℕ). x * k) (sum_is_lem a b) in omega (arith, ints)

pub total_ℤ_times : (n : ℕ) (f : ℕ → ℤ) (k : ℕ) → total_ℤ n (λ i. f i *ℤ pos k) ≡ total_ℤ n f *ℤ pos k
total_ℤ_times zero f k = omega (arith, ints)
total_ℤ_times (suc n) f k = let h = total_ℤ_times n f k in let e = times_add (total_ℤ n f) (f n) k in omega (arith, ints)

pub total_ℤ_swap : (n k : ℕ) (f : ℕ → ℕ → ℤ) → total_ℤ n (λ i. total_ℤ k (λ j. f i j)) ≡ total_ℤ k (λ j. total_ℤ n (λ i. f i j))
total_ℤ_swap zero k f = sym (zeros k)
  where
    zeros : (k : ℕ) → total_ℤ k (λ j. pos 0) ≡ pos 0
    zeros zero = refl
    zeros (suc k) = let h = zeros k in omega (arith, ints)
total_ℤ_swap (suc n) k f = let h = total_ℤ_swap n k f in let e = total_ℤ_add k (λ j. total_ℤ n (λ i. f i j)) (λ j. f n j) in omega (arith, ints)

pub total_ℤ_le : (n : ℕ) (f g : ℕ → ℤ) → ((i : ℕ) → i < n → f i ≤ℤ g i) → total_ℤ n f ≤ℤ total_ℤ n g
total_ℤ_le zero f g h = omega (arith, ints)
total_ℤ_le (suc n) f g h = let e = total_ℤ_le n f g (λ i l. h i (omega arith)) in let t = h n (omega arith) in omega (arith, ints)

pub total_le : (n : ℕ) (f g : ℕ → ℕ) → ((i : ℕ) → i < n → f i ≤ g i) → total n f ≤ total n g
total_le zero f g h = omega arith
total_le (suc n) f g h = let e = total_le n f g (λ i l. h i (omega arith)) in let t = h n (omega arith) in omega arith

pub total_one : (n : ℕ) (f : ℕ → ℕ) (i : ℕ) → i < n → f i ≤ total n f
total_one zero f i l = absurd (omega arith)
total_one (suc n) f i l = elim (cases_lt i n) [ inl h ↦ omega (arith, total_one n f i h) | inr h ↦ (let e : i ≡ n = omega arith in let g = ap f e in omega arith) ]

pub total_none : (n : ℕ) (f : ℕ → ℕ) → ((i : ℕ) → i < n → f i ≡ 0) → total n f ≡ 0
total_none zero f h = refl
total_none (suc n) f h = let e = total_none n f (λ i l. h i (omega arith)) in let t = h n (omega arith) in omega arith

pub total_same : (n : ℕ) (f g : ℕ → ℕ) → ((i : ℕ) → i < n → f i ≡ g i) → total n f ≡ total n g
total_same zero f g h = refl
total_same (suc n) f g h = let e = total_same n f g (λ i l. h i (omega arith)) in let t = h n (omega arith) in omega arith

pub total_point : (n m a : ℕ) → m < n → total n (λ i. cond (eqb m i) a 0) ≡ a
total_point zero m a l = absurd (omega arith)
total_point (suc n) m a l = elim (cases_lt m n) [
  | inl h ↦ (let e = total_point n m a h in let z = cond-false (eqb m n) a 0 (ne_eqb m n (λ q. omega arith)) in omega arith)
  | inr h ↦ (let q : m ≡ n = omega arith in
      let e = total_none n (λ i. cond (eqb m i) a 0) (λ i k. cond-false (eqb m i) a 0 (ne_eqb m i (λ w. omega arith))) in
      let z = cond-true (eqb m n) a 0 (eq-eqb m n q) in omega arith)
]

pub only_split : (x y : Bool) (a : ℕ) → cond (x && y) a 0 ≡ cond x (cond y a 0) 0
only_split true y a = refl
only_split false y a = refl

pub total-only : (n m c a c' : ℕ) → m < n → total n (λ m'. only m c a m' c') ≡ cond (eqb c c') a 0
total-only n m c a c' l = total_same n (λ m'. only m c a m' c') (λ m'. cond (eqb m m') (cond (eqb c c') a 0) 0) (λ i _. only_split (eqb m i) (eqb c c') a) ∙ total_point n m (cond (eqb c c') a 0) l

pub only_le : (m c a m' c' : ℕ) → only m c a m' c' ≤ a
only_le m c a m' c' = cond_both (eqb m m' && eqb c c') a 0 (λ x. x ≤ a) (λ _. omega arith) (λ _. omega arith)

pub only_here : (m c a : ℕ) → only m c a m c ≡ a
only_here m c a = cond-true (eqb m m && eqb c c) a 0 (and_from (eqb m m) (eqb c c) (eq-eqb m m refl) (eq-eqb c c refl))

-- elsewhere it is 0
pub only_cases : (m c a m' c' : ℕ) → ((m ≡ m') × (c ≡ c')) ⊎ (only m c a m' c' ≡ 0)
only_cases m c a m' c' = elim (cases_Bool (eqb m m' && eqb c c')) [
  | inl e ↦ inl (eqb-true m m' (and_parts (eqb m m') (eqb c c') e).0, eqb-true c c' (and_parts (eqb m m') (eqb c c') e).1)
  | inr e ↦ inr (cond-false (eqb m m' && eqb c c') a 0 e)
]

pub only_other : (m c a m' c' : ℕ) → (m ≡ m' → ⊥) → only m c a m' c' ≡ 0
only_other m c a m' c' ne = cond-false (eqb m m' && eqb c c') a 0 (and_left (eqb m m') (eqb c c') (ne_eqb m m' ne))

-- one number further
pub total_more : (f : ℕ → ℕ) (k : ℕ) → total (k + 1) f ≡ total k f + f k
total_more f k = rw add-one refl

pub total_ℤ_more : (f : ℕ → ℤ) (k : ℕ) → total_ℤ (k + 1) f ≡ total_ℤ k f +ℤ f k
total_ℤ_more f k = rw add-one refl

pub only_elsewhere : (m c a m' c' : ℕ) → (m' ≡ m → ⊥) ⊎ (c' ≡ c → ⊥) → only m c a m' c' ≡ 0
only_elsewhere m c a m' c' h = elim (only_cases m c a m' c') [
  | inl e ↦ absurd (elim h [ inl n ↦ n (sym e.0) | inr n ↦ n (sym e.1) ])
  | inr e ↦ e
]

pub same_table : {A : Type 0} (f g : ℕ → ℕ → A) → ((m c : ℕ) → f m c ≡ g m c) → f ≡ g
same_table f g h = fun_ext (λ m. fun_ext (λ c. h m c))
