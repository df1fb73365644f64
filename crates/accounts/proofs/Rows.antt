-- A pair on each party's row.
use Rattle.std.proofs.Common.{◌≡◌, ℕ, Bool, cond, ◌&&◌, eqb, List, [], ◌∷◌, ℤ, pos, ◌+ℤ◌, ◌-ℤ◌, sym, refl, ap, arith, ◌≤◌}
use Rattle.std.proofs.Math.Path.{to_path_p}
use Rattle.std.proofs.Math.Bridge.{le_prop}
use Rattle.rules.specs.Bounds.{most_units}
use mathlib.Core.Path.{fun_ext}
use borrow.Author.Differences.{ints}
use Rattle.std.proofs.lemmas.Bool.{eq-eqb, cond_both}
use Rattle.rules.specs.Sums.{only}
use Rattle.rules.specs.First.{Case, first_of}
use Rattle.rules.specs.Pairs as rules
use Rattle.rules.specs.Pairs.{after_pair}
use Rattle.rules.specs.Setting.{Setting}
use Rattle.rules.specs.Tests.{Stop, stops, fails_1, fails_2, fails_3, fails_4}
use Rattle.rules.proofs.Sum.{only_other}
use Rattle.book.specs.Rows.{position}
use Rattle.accounts.specs.declared.accounts.Accounts.{Accounts}
use Rattle.accounts.specs.declared.after.After.{After}
use Rattle.accounts.specs.declared.leg.Leg.{Leg}
use Rattle.intake.specs.declared.pair.Pair.{Pair}
use Rattle.accounts.specs.Meaning.{account}
use Rattle.accounts.specs.Legs.{at, after_leg, row_after, LegOf}

pub only_row : (m c a k : ℕ) → only m c a m k ≡ at c a k
only_row m c a k = ap (λ (b : Bool). cond (b && eqb c k) a 0) (eq-eqb m m refl)

-- the leg of a pair's first party
abbrev pub leg_of : Pair → Leg
leg_of p = record { buys = p.buys; bought = p.bought; sells = p.sells; sold = p.sold; small = (p.matched.2, p.matched.3) }

pub leg_is : (p : Pair) (l : Leg) → LegOf p l → l ≡ leg_of p
leg_is p l h =
    let bought = to_path_p (λ i. (h.bought_is i).0 ≤ most_units) {a = l.small.0} {b = p.matched.2} (le_prop _ _) in
    let sold = to_path_p (λ i. (h.sold_is i).0 ≤ most_units) {a = l.small.1} {b = p.matched.3} (le_prop _ _) in
    λ i. record { buys = h.buys_is i; bought = h.bought_is i; sells = h.sells_is i; sold = h.sold_is i; small = (bought i, sold i) }

-- the row of these accounts, member and leg
pub row_is : (x : After) (f : Accounts) (m : ℕ) (l : Leg) → x.book.now ≡ f.book → x.member ≡ m → x.leg ≡ l → row_after x ≡ after_leg (account f m) l
row_is x f m l e d h = λ i. after_leg (λ k. (position (e i) (d i) k).account.0) (h i)

-- the tests on the rows x of the member m and y of n, by what each buys and sells, in order
abbrev pub tests_at : Setting → (ℕ → ℕ → ℕ) → (ℕ → ℤ) → (ℕ → ℤ) → (m n buys sells buys' sells' : ℕ) → List (Case Stop)
tests_at s r x y m n buys sells buys' sells' =
    fails_1 r (λ _. x) m buys ∷ fails_1 r (λ _. y) n buys'
    ∷ fails_2 s (λ _. x) m sells ∷ fails_2 s (λ _. y) n sells'
    ∷ fails_3 s (λ _. x) m ∷ fails_3 s (λ _. y) n
    ∷ fails_4 s (λ _. x) m ∷ fails_4 s (λ _. y) n
    ∷ []

module _ (b : ℕ → ℕ → ℤ) (p : rules.Pair) (apart : p.first ≡ p.second → ⊥) where
  pub first_row : (λ k. b p.first k +ℤ pos (at p.buys p.bought k) -ℤ pos (at p.sells p.sold k)) ≡ after_pair b p p.first
  first_row = fun_ext (λ k.
      let e = only_row p.first p.buys p.bought k in
      let f = only_row p.first p.sells p.sold k in
      let g = only_other p.second p.sells p.sold p.first k (λ q. apart (sym q)) in
      let h = only_other p.second p.buys p.bought p.first k (λ q. apart (sym q)) in
      omega (arith, ints))

  pub second_row : (λ k. b p.second k +ℤ pos (at p.sells p.sold k) -ℤ pos (at p.buys p.bought k)) ≡ after_pair b p p.second
  second_row = fun_ext (λ k.
      let e = only_row p.second p.buys p.bought k in
      let f = only_row p.second p.sells p.sold k in
      let g = only_other p.first p.sells p.sold p.second k apart in
      let h = only_other p.first p.buys p.bought p.second k apart in
      omega (arith, ints))

  -- the rows after a pair are those that its tests look at
  pub stops_by_rows : (s : Setting) (r : ℕ → ℕ → ℕ) → first_of (tests_at s r (λ k. b p.first k +ℤ pos (at p.buys p.bought k) -ℤ pos (at p.sells p.sold k)) (λ k. b p.second k +ℤ pos (at p.sells p.sold k) -ℤ pos (at p.buys p.bought k)) p.first p.second p.buys p.sells p.sells p.buys) ≡ stops s r b p
  unfolding stops
  stops_by_rows s r = λ i. first_of (tests_at s r (first_row i) (second_row i) p.first p.second p.buys p.sells p.sells p.buys)

  -- no other row moves
  pub other_row : (m : ℕ) → (m ≡ p.first → ⊥) → (m ≡ p.second → ⊥) → b m ≡ after_pair b p m
  other_row m n k = fun_ext (λ c.
      let e = only_other p.first p.buys p.bought m c (λ q. n (sym q)) in
      let f = only_other p.first p.sells p.sold m c (λ q. n (sym q)) in
      let g = only_other p.second p.sells p.sold m c (λ q. k (sym q)) in
      let h = only_other p.second p.buys p.bought m c (λ q. k (sym q)) in
      omega (arith, ints))

-- a leg that only sells
pub less_row : (row : ℕ → ℤ) (m c a : ℕ) → ◌≡◌ {A = ℕ → ℤ} (λ k. row k +ℤ pos (at c 0 k) -ℤ pos (at c a k)) (λ k. row k -ℤ pos (only m c a m k))
less_row row m c a = fun_ext (λ k.
    let e = only_row m c a k in
    let z : at c 0 k ≡ 0 = nothing_at c k in
    omega (arith, ints))
  where
    nothing_at : (c k : ℕ) → at c 0 k ≡ 0
    nothing_at c k = cond_both (eqb c k) 0 0 (λ x. x ≡ 0) (λ e. refl) (λ e. refl)
