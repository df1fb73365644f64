-- A pair that nothing stops, in any setting where the two short limits are in range: where it credits there is room, where it debits
-- there is cover, and its four moves are the pair's.
use Rattle.std.proofs.Common.{◌≡◌, ℕ, ◌≤◌, ℤ, pos, ◌+ℤ◌, ◌-ℤ◌, neg_ℤ, ◌≤ℤ◌, None, sym, inr, arith}
use borrow.Author.Differences.{ints}
use Rattle.rules.specs.Bounds.{most_units}
use Rattle.rules.specs.First.{Never}
use Rattle.rules.specs.Pairs as rules
use Rattle.rules.specs.Pairs.{after_pair}
use Rattle.rules.specs.Setting.{Setting}
use Rattle.rules.specs.Tests.{failures, stops}
use Rattle.rules.specs.Books.{credited, debited}
use Rattle.rules.proofs.Sum.{only_here, only_other, only_elsewhere, same_table}
use Rattle.rules.proofs.Firsts.{first_none}

-- there is room for a more at m and c, and cover for a less
abbrev pub Room : (ℕ → ℕ → ℤ) → (ℕ → ℕ → ℕ) → ℕ → ℕ → ℕ → Type 0
Room t r m c a = (t m c +ℤ pos (r m c) +ℤ pos a) ≤ℤ pos most_units

abbrev pub Cover : (ℕ → ℕ → ℤ) → ℕ → ℕ → ℕ → Type 0
Cover t m c a = neg_ℤ (pos most_units) ≤ℤ (t m c -ℤ pos a)

module _ (s : Setting) (r : ℕ → ℕ → ℕ) (b : ℕ → ℕ → ℤ) (p : rules.Pair) (apart : p.first ≡ p.second → ⊥) (other : p.buys ≡ p.sells → ⊥) (free : stops s r b p ≡ None)
    (low-1 : (s.roster.member p.first).short p.sells ≤ 1000000000) (low-2 : (s.roster.member p.second).short p.buys ≤ 1000000000) where
  passed : Never (failures s r b p)
  unfolding stops
  passed = first_none (failures s r b p) free

  t1 : ℕ → ℕ → ℤ
  t1 = credited b p.first p.buys p.bought

  abbrev t2 : ℕ → ℕ → ℤ
  t2 = debited (credited b p.first p.buys p.bought) p.first p.sells p.sold

  abbrev t3 : ℕ → ℕ → ℤ
  t3 = credited t2 p.second p.sells p.sold

  pub room_1 : Room b r p.first p.buys p.bought
  room_1 =
      let a = only_here p.first p.buys p.bought in
      let c = only_other p.second p.sells p.sold p.first p.buys (λ q. apart (sym q)) in
      let d = only_elsewhere p.first p.sells p.sold p.first p.buys (inr other) in
      let e = only_other p.second p.buys p.bought p.first p.buys (λ q. apart (sym q)) in
      omega (arith, ints, passed.0)

  pub cover_1 : Cover (credited b p.first p.buys p.bought) p.first p.sells p.sold
  cover_1 =
      let a = only_here p.first p.sells p.sold in
      let c = only_other p.second p.sells p.sold p.first p.sells (λ q. apart (sym q)) in
      let e = only_other p.second p.buys p.bought p.first p.sells (λ q. apart (sym q)) in
      omega (arith, ints, passed.1.1.0)

  pub room_2 : Room t2 r p.second p.sells p.sold
  room_2 =
      let a = only_here p.second p.sells p.sold in
      let c = only_other p.first p.sells p.sold p.second p.sells apart in
      let d = only_elsewhere p.second p.buys p.bought p.second p.sells (inr (λ q. other (sym q))) in
      let e = only_other p.first p.buys p.bought p.second p.sells apart in
      omega (arith, ints, passed.1.0)

  pub cover_2 : Cover t3 p.second p.buys p.bought
  cover_2 =
      let a = only_here p.second p.buys p.bought in
      let c = only_other p.first p.sells p.sold p.second p.buys apart in
      let e = only_other p.first p.buys p.bought p.second p.buys apart in
      omega (arith, ints, passed.1.1.1.0)

  pub four_moves : debited t3 p.second p.buys p.bought ≡ after_pair b p
  four_moves = same_table _ _ (λ m c. omega (arith, ints))

-- room and cover of tables that are the same
pub room_at : (t t' : ℕ → ℕ → ℤ) (r r' : ℕ → ℕ → ℕ) (m c a : ℕ) → t' ≡ t → r' ≡ r → Room t r m c a → Room t' r' m c a
room_at t t' r r' m c a e f h = rw (e, f) h

pub cover_at : (t t' : ℕ → ℕ → ℤ) (m c a : ℕ) → t' ≡ t → Cover t m c a → Cover t' m c a
cover_at t t' m c a e h = rw e h
