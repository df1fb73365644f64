-- A pair that nothing stops has room and cover on both rows, and its two legs are the pair's.
use Rattle.std.proofs.Common.{◌≡◌, ℕ, eqb, ◌⊎◌, ℤ, pos, ◌+ℤ◌, neg_ℤ, ◌≤ℤ◌, ◌≤◌, get_or, vec_items, None, sym, refl, ap, ◌∙◌, subst, inl, inr, arith}
use mathlib.Core.Path.{fun_ext}
use borrow.Author.Differences.{ints}
use Rattle.std.proofs.lemmas.Bool.{cases_eq, cond-true, cond-false, eq-eqb, ne_eqb}
use Rattle.rules.specs.Below.{with_at}
use Rattle.rules.specs.Bounds.{most_units}
use Rattle.rules.specs.First.{Never, first_of}
use Rattle.rules.specs.Pairs.{after_pair}
use Rattle.rules.specs.Tests.{failures, stops}
use Rattle.rules.proofs.Sum.{same_table}
use Rattle.rules.proofs.Firsts.{first_none}
use Rattle.intake.specs.declared.pair.Pair.{Pair}
use Rattle.intake.specs.Parties.{pair_of}
use Rattle.intake.specs.Members.{no_member}
use Rattle.accounts.specs.declared.accounts.Accounts.{Accounts}
use Rattle.accounts.specs.declared.leg.Leg.{Leg}
use Rattle.accounts.specs.declared.after.After.{After}
use Rattle.accounts.specs.Meaning.{setting_within, account, reserve_of}
use Rattle.accounts.specs.Moves.{Moves}
use Rattle.accounts.specs.Legs.{after_leg, row_after, mirrored, tests_on}
use Rattle.accounts.proofs.Rows.{leg_of, tests_at, first_row, second_row, other_row}

pub with_here : {A : Type 0} (f : ℕ → A) (n : ℕ) (x : A) → with_at f n x n ≡ x
with_here f n x = cond-true (eqb n n) x (f n) (eq-eqb n n refl)

pub with_else : {A : Type 0} (f : ℕ → A) (n : ℕ) (x : A) (k : ℕ) → (k ≡ n → ⊥) → with_at f n x k ≡ f k
with_else f n x k h = cond-false (eqb k n) x (f k) (ne_eqb k n h)

module _ (t : ℕ → ℕ → ℤ) (m c : ℕ) (z : ℤ) where
  pub put_here : with_at t m (with_at (t m) c z) m c ≡ z
  put_here = ap (λ (r : ℕ → ℤ). r c) (with_here t m (with_at (t m) c z)) ∙ with_here (t m) c z

  pub put_there : (m' c' : ℕ) → (m' ≡ m → ⊥) ⊎ (c' ≡ c → ⊥) → with_at t m (with_at (t m) c z) m' c' ≡ t m' c'
  put_there m' c' h = elim (cases_eq m' m) [
    | inl e ↦ elim h [
      | inl n ↦ absurd (n e)
      | inr n ↦ subst (λ (x : ℕ). with_at t m (with_at (t m) c z) x c' ≡ t x c') (sym e) (ap (λ (r : ℕ → ℤ). r c') (with_here t m (with_at (t m) c z)) ∙ with_else (t m) c z c' n)
    ]
    | inr n ↦ ap (λ (r : ℕ → ℤ). r c') (with_else t m (with_at (t m) c z) m' n)
  ]

-- both currencies of a leg are put: the row is that after the leg
pub two_puts : (t u v : ℕ → ℕ → ℤ) (m : ℕ) (l : Leg) (y z : ℤ) → (l.buys ≡ l.sells → ⊥) → y ≡ after_leg (t m) l l.buys → z ≡ after_leg (t m) l l.sells
    → u ≡ with_at t m (with_at (t m) l.buys y) → v ≡ with_at u m (with_at (u m) l.sells z) → v ≡ with_at t m (after_leg (t m) l)
two_puts t u v m l y z two ey ez eu ev = ev ∙ same_table _ _ (λ m' c. elim (cases_eq m' m) [
  | inl e ↦ subst (λ (x : ℕ). with_at u m (with_at (u m) l.sells z) x c ≡ with_at t m (after_leg (t m) l) x c) (sym e) (here c ∙ sym (ap (λ (r : ℕ → ℤ). r c) (with_here t m (after_leg (t m) l))))
  | inr n ↦ put_there u m l.sells z m' c (inl n) ∙ ap (λ (w : ℕ → ℕ → ℤ). w m' c) eu ∙ put_there t m l.buys y m' c (inl n) ∙ sym (ap (λ (r : ℕ → ℤ). r c) (with_else t m (after_leg (t m) l) m' n))
])
  where
    same : (c : ℕ) → (c ≡ l.buys → ⊥) → (c ≡ l.sells → ⊥) → t m c ≡ after_leg (t m) l c
    same c n k =
        let a = cond-false (eqb l.buys c) l.bought.0 0 (ne_eqb l.buys c (λ q. n (sym q))) in
        let b = cond-false (eqb l.sells c) l.sold.0 0 (ne_eqb l.sells c (λ q. k (sym q))) in
        omega (arith, ints)

    here : (c : ℕ) → with_at u m (with_at (u m) l.sells z) m c ≡ after_leg (t m) l c
    here c = elim (cases_eq c l.sells) [
      | inl e ↦ subst (λ (x : ℕ). with_at u m (with_at (u m) l.sells z) m x ≡ after_leg (t m) l x) (sym e) (put_here u m l.sells z ∙ ez)
      | inr n ↦ put_there u m l.sells z m c (inr n) ∙ ap (λ (w : ℕ → ℕ → ℤ). w m c) eu ∙ elim (cases_eq c l.buys) [
        | inl e ↦ subst (λ (x : ℕ). with_at t m (with_at (t m) l.buys y) m x ≡ after_leg (t m) l x) (sym e) (put_here t m l.buys y ∙ ey)
        | inr k ↦ put_there t m l.buys y m c (inr k) ∙ same c k n
      ]
    ]

-- the rows of these accounts after both legs are those that the pair's tests look at
pub stops_of_rows : (f : Accounts) (p : Pair) (x y : After) → row_after x ≡ after_leg (account f p.first) (leg_of p) → row_after y ≡ after_leg (account f p.second) (mirrored (leg_of p))
    → x.member ≡ p.first → y.member ≡ p.second → x.leg ≡ leg_of p → y.leg ≡ mirrored (leg_of p)
    → first_of (tests_on (setting_within f) (reserve_of f) x y) ≡ stops (setting_within f) (reserve_of f) (account f) (pair_of p)
unfolding stops
stops_of_rows f p x y ex ey em en el ek =
    let row_x = ex ∙ first_row (account f) (pair_of p) p.matched.0 in
    let row_y = ey ∙ second_row (account f) (pair_of p) p.matched.0 in
    λ i. first_of (tests_at (setting_within f) (reserve_of f) (row_x i) (row_y i) (em i) (en i) (el i).buys (el i).sells (ek i).buys (ek i).sells)

module _ (f : Accounts) (p : Pair) (free : stops (setting_within f) (reserve_of f) (account f) (pair_of p) ≡ None) where
  passed : Never (failures (setting_within f) (reserve_of f) (account f) (pair_of p))
  unfolding stops
  passed = first_none (failures (setting_within f) (reserve_of f) (account f) (pair_of p)) free

  short : (m k : ℕ) → ((setting_within f).roster.member m).short k ≤ most_units
  short m k = (get_or (vec_items f.members) m no_member).limits.limited k

  pub high_1 : (l : Leg) → l ≡ leg_of p → (after_leg (account f p.first) l l.buys +ℤ pos (reserve_of f p.first l.buys)) ≤ℤ pos most_units
  high_1 l e = subst (λ (k : Leg). (after_leg (account f p.first) k k.buys +ℤ pos (reserve_of f p.first k.buys)) ≤ℤ pos most_units) (sym e)
      (let r = ap (λ (t : ℕ → ℤ). t p.buys) (first_row (account f) (pair_of p) p.matched.0) in omega (arith, ints, passed.0))

  pub low_1 : (l : Leg) → l ≡ leg_of p → neg_ℤ (pos most_units) ≤ℤ after_leg (account f p.first) l l.sells
  low_1 l e = subst (λ (k : Leg). neg_ℤ (pos most_units) ≤ℤ after_leg (account f p.first) k k.sells) (sym e)
      (let r = ap (λ (t : ℕ → ℤ). t p.sells) (first_row (account f) (pair_of p) p.matched.0) in let s = short p.first p.sells in omega (arith, ints, passed.1.1.0))

  -- the first leg leaves the second party's row
  module _ (f' : Accounts) (l : Leg) (e : l ≡ leg_of p) (h : Moves f f' (with_at (account f) p.first (after_leg (account f p.first) l))) where
    kept : account f' p.second ≡ account f p.second
    kept = ap (λ (t : ℕ → ℕ → ℤ). t p.second) h.accounts ∙ with_else (account f) p.first (after_leg (account f p.first) l) p.second (λ q. p.matched.0 (sym q))

    pub row_2 : (k : Leg) → k ≡ mirrored l → after_leg (account f' p.second) k ≡ after_pair (account f) (pair_of p) p.second
    row_2 k d = (λ i. after_leg (kept i) ((d ∙ ap mirrored e) i)) ∙ second_row (account f) (pair_of p) p.matched.0

    buys_2 : (k : Leg) → k ≡ mirrored l → k.buys ≡ p.sells
    buys_2 k d = ap (λ (x : Leg). x.buys) (d ∙ ap mirrored e)

    sells_2 : (k : Leg) → k ≡ mirrored l → k.sells ≡ p.buys
    sells_2 k d = ap (λ (x : Leg). x.sells) (d ∙ ap mirrored e)

    pub high_2 : (k : Leg) → k ≡ mirrored l → (after_leg (account f' p.second) k k.buys +ℤ pos (reserve_of f' p.second k.buys)) ≤ℤ pos most_units
    high_2 k d =
        let r : after_leg (account f' p.second) k k.buys ≡ after_pair (account f) (pair_of p) p.second p.sells = λ i. row_2 k d i (buys_2 k d i) in
        let q : reserve_of f' p.second k.buys ≡ reserve_of f p.second p.sells = λ i. h.reserves i p.second (buys_2 k d i) in
        omega (arith, ints, passed.1.0, r, q)

    pub low_2 : (k : Leg) → k ≡ mirrored l → neg_ℤ (pos most_units) ≤ℤ after_leg (account f' p.second) k k.sells
    low_2 k d =
        let r : after_leg (account f' p.second) k k.sells ≡ after_pair (account f) (pair_of p) p.second p.buys = λ i. row_2 k d i (sells_2 k d i) in
        let s = short p.second p.buys in
        omega (arith, ints, passed.1.1.1.0, r)

    -- and both legs are the pair's
    pub both_legs : (k : Leg) → k ≡ mirrored l → with_at (account f') p.second (after_leg (account f' p.second) k) ≡ after_pair (account f) (pair_of p)
    both_legs k d = fun_ext (λ m. elim (cases_eq m p.second) [
      | inl q ↦ ap (with_at (account f') p.second (after_leg (account f' p.second) k)) q ∙ with_here (account f') p.second (after_leg (account f' p.second) k) ∙ row_2 k d ∙ ap (after_pair (account f) (pair_of p)) (sym q)
      | inr n ↦ with_else (account f') p.second (after_leg (account f' p.second) k) m n ∙ ap (λ (t : ℕ → ℕ → ℤ). t m) h.accounts ∙ elim (cases_eq m p.first) [
        | inl q ↦ ap (with_at (account f) p.first (after_leg (account f p.first) l)) q ∙ with_here (account f) p.first (after_leg (account f p.first) l) ∙ ap (after_leg (account f p.first)) e ∙ first_row (account f) (pair_of p) p.matched.0 ∙ ap (after_pair (account f) (pair_of p)) (sym q)
        | inr o ↦ with_else (account f) p.first (after_leg (account f p.first) l) m o ∙ other_row (account f) (pair_of p) p.matched.0 m o n
      ]
    ])
