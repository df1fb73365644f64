-- What holds of the instructions and pairs taken in so far, and stays so with one more.
use Rattle.std.proofs.Common.{◌≡◌, ℕ, ◌+◌, ◌<◌, true, false, sym, refl, ap, ◌∙◌, subst, ⊎_elim, arith, below_more}
use Rattle.std.proofs.lemmas.Bool.{both_ways, cases_order}
use Rattle.rules.specs.Pairs.{Pair}
use Rattle.rules.specs.Matching.{Instruction, mirrors, mirror, same_name, of_pair, pair_from}
use Rattle.rules.proofs.Names.{mirror_parts, is_mirror, name_from, name_parts, one_of_two, of_first, of_second}

-- pair q, at place x, is made of instruction j and of k, which came later
pub record Origin (rate : ℕ → ℕ) (n : ℕ) (i : ℕ → Instruction) (x : ℕ) (q : Pair) : Type 0 where
  pub j : ℕ
  pub k : ℕ
  pub later : j < k
  pub kept : k < n
  pub is : q ≡ pair_from rate (x + 1) (i j)
  pub mirrored : mirrors (i j) (i k) ≡ true

-- a pair, at a place below m, that is of two instructions
pub record Meeting (m : ℕ) (p : ℕ → Pair) (a b : Instruction) : Type 0 where
  pub x : ℕ
  pub there : x < m
  pub of_a : of_pair (p x) a ≡ true
  pub of_b : of_pair (p x) b ≡ true

-- n instructions i k and m pairs p x
pub record Taken (rate : ℕ → ℕ) (n : ℕ) (i : ℕ → Instruction) (m : ℕ) (p : ℕ → Pair) : Type 0 where
  pub apart : (k : ℕ) → k < n → (j : ℕ) → j < k → same_name (i j) (i k) ≡ false
  pub made : (x : ℕ) → x < m → Origin rate n i x (p x)
  pub met : (k : ℕ) → k < n → (j : ℕ) → j < k → mirrors (i j) (i k) ≡ true → Meeting m p (i j) (i k)
  pub once : (k : ℕ) → k < n → (x : ℕ) → x < m → (y : ℕ) → y < m → of_pair (p x) (i k) ≡ true → of_pair (p y) (i k) ≡ true → x ≡ y

pub none_taken : (rate : ℕ → ℕ) (n : ℕ) (i : ℕ → Instruction) (m : ℕ) (p : ℕ → Pair) → n ≡ 0 → m ≡ 0 → Taken rate n i m p
none_taken rate n i m p e f = record { apart = λ k l. absurd (omega arith); made = λ x l. absurd (omega arith); met = λ k l. absurd (omega arith); once = λ k l. absurd (omega arith) }

module _ (rate : ℕ → ℕ) (n : ℕ) (i : ℕ → Instruction) (m : ℕ) (p : ℕ → Pair) (h : Taken rate n i m p) where
  -- one name, one place
  pub same_place : (j k : ℕ) → j < n → k < n → same_name (i j) (i k) ≡ true → j ≡ k
  same_place j k lj lk e = ⊎_elim (λ q. q) (λ o. ⊎_elim
      (λ l. absurd (both_ways _ (h.apart k lk j l) e))
      (λ l. let q = name_parts (i j) (i k) e in absurd (both_ways _ (h.apart j lj k l) (name_from (i k) (i j) (sym q.0) (sym q.1))))
      o) (cases_order j k)

  -- a pair that is of a is made of an instruction kept under a's name
  pub named_by : (x : ℕ) → x < m → (a : Instruction) → of_pair (p x) a ≡ true → (k : ℕ) × (k < n) × (same_name (i k) a ≡ true)
  named_by x l a e =
      let w = h.made x l in
      let f : of_pair (pair_from rate (x + 1) (i w.j)) a ≡ true = subst (λ (q : Pair). of_pair q a ≡ true) w.is e in
      ⊎_elim (λ s. (w.j, omega arith, s)) (λ s. (w.k, w.kept, s)) (one_of_two rate (x + 1) (i w.j) (i w.k) a w.mirrored f)

  module _ (fresh : (k : ℕ) → k < n → same_name (i k) (i n) ≡ false) where
    not_paired : (x : ℕ) → x < m → of_pair (p x) (i n) ≡ true → ⊥
    not_paired x l e = let w = named_by x l (i n) e in both_ways _ (fresh w.0 w.1) w.2

    origin_on : (x : ℕ) (q : Pair) → Origin rate n i x q → Origin rate (n + 1) i x q
    origin_on x q w = record { j = w.j; k = w.k; later = w.later; kept = let l = w.kept in omega arith; is = w.is; mirrored = w.mirrored }

    -- the new one's mirror is not there, or is in a pair already: which it cannot be
    pub step_alone : ((k : ℕ) → k < n → mirrors (i k) (i n) ≡ true → (x : ℕ) × (x < m) × (of_pair (p x) (i k) ≡ true)) → Taken rate (n + 1) i m p
    step_alone taken = record {
      apart = below_more _ _ h.apart fresh;
      made = λ x l. origin_on x (p x) (h.made x l);
      met = below_more _ _ h.met (λ j l e. absurd (unmet j l e));
      once = below_more _ _ h.once (λ x lx y ly e f. absurd (not_paired x lx e));
    }
      where
        unmet : (j : ℕ) → j < n → mirrors (i j) (i n) ≡ true → ⊥
        unmet j l e =
            let t = taken j l e in
            let w = h.made t.0 t.1 in
            let g = mirror_parts (i j) (i n) e in
            let d = mirror_parts (i w.j) (i w.k) w.mirrored in
            let f : of_pair (pair_from rate (t.0 + 1) (i w.j)) (i j) ≡ true = subst (λ (q : Pair). of_pair q (i j) ≡ true) w.is t.2 in
            ⊎_elim
            (λ s. let u = name_parts (i w.j) (i j) s in
            let same = same_place w.j j (let a = w.later in let b = w.kept in omega arith) l s in
            both_ways _ (fresh w.k w.kept) (name_from (i w.k) (i n) (sym d.whom ∙ ap (λ (z : ℕ). (i z).counterparty) same ∙ g.whom) (sym d.reference ∙ u.1 ∙ g.reference)))
            (λ s. let u = name_parts (i w.k) (i j) s in
            let same = same_place w.k j w.kept l s in
            both_ways _ (fresh w.j (let a = w.later in let b = w.kept in omega arith)) (name_from (i w.j) (i n) (d.who ∙ ap (λ (z : ℕ). (i z).counterparty) same ∙ g.whom) (d.reference ∙ u.1 ∙ g.reference)))
            (one_of_two rate (t.0 + 1) (i w.j) (i w.k) (i j) w.mirrored f)

    -- the new one's mirror is there, at k, and in no pair: the two become a pair
    module _ (new : p m ≡ pair_from rate (m + 1) (mirror (i n))) (k : ℕ) (lk : k < n) (e : mirrors (i k) (i n) ≡ true) (free : (x : ℕ) → x < m → of_pair (p x) (i k) ≡ true → ⊥) where
      clash : (z : ℕ) → z < n → of_pair (p m) (i z) ≡ true → (y : ℕ) → y < m → of_pair (p y) (i z) ≡ true → ⊥
      clash z lz f y ly g =
          let q : of_pair (pair_from rate (m + 1) (mirror (i n))) (i z) ≡ true = subst (λ (r : Pair). of_pair r (i z) ≡ true) new f in
          let q' : of_pair (pair_from rate (m + 1) (i k)) (i z) ≡ true = subst (λ (a : Instruction). of_pair (pair_from rate (m + 1) a) (i z) ≡ true) (sym (is_mirror (i k) (i n) e)) q in
          ⊎_elim
          (λ s. let same = same_place k z lk lz s in free y ly (subst (λ (w : ℕ). of_pair (p y) (i w) ≡ true) (sym same) g))
          (λ s. let u = name_parts (i n) (i z) s in both_ways _ (fresh z lz) (name_from (i z) (i n) (sym u.0) (sym u.1)))
          (one_of_two rate (m + 1) (i k) (i n) (i z) e q')

      pub step_pair : Taken rate (n + 1) i (m + 1) p
      step_pair = record {
        apart = below_more _ _ h.apart fresh;
        made = below_more _ _ (λ x l. origin_on x (p x) (h.made x l)) (record { j = k; k = n; later = lk; kept = omega arith; is = new ∙ ap (pair_from rate (m + 1)) (sym (is_mirror (i k) (i n) e)); mirrored = e });
        met = below_more _ _
            (λ z lz j l f. let w = h.met z lz j l f in record { x = w.x; there = let a = w.there in omega arith; of_a = w.of_a; of_b = w.of_b })
            (λ j l f. record { x = m; there = omega arith; of_a = subst (λ (r : Pair). of_pair r (i j) ≡ true) (sym new) (of_first rate (m + 1) (i j) (i n) f); of_b = subst (λ (r : Pair). of_pair r (i n) ≡ true) (sym new) (of_second rate (m + 1) (i n)) });
        once = below_more _ _
            (λ z lz. below_more _ _
            (λ x lx. below_more _ _ (h.once z lz x lx) (λ f g. absurd (clash z lz g x lx f)))
            (below_more _ _ (λ y ly f g. absurd (clash z lz f y ly g)) (λ f g. refl)))
            (below_more _ _
            (λ x lx y ly f g. absurd (not_paired x lx f))
            (below_more _ _ (λ y ly f g. absurd (not_paired y ly g)) (λ f g. refl)));
      }

-- equals for equals
pub apart_at : (a a' b b' : Instruction) → a ≡ a' → b ≡ b' → same_name a b ≡ false → same_name a' b' ≡ false
apart_at a a' b b' e f h = rw (← e, ← f) h

pub mirrors_at : (a a' b b' : Instruction) → a ≡ a' → b ≡ b' → mirrors a b ≡ true → mirrors a' b' ≡ true
mirrors_at a a' b b' e f h = rw (← e, ← f) h

pub of_at : (p p' : Pair) (a a' : Instruction) → p ≡ p' → a ≡ a' → of_pair p a ≡ true → of_pair p' a' ≡ true
of_at p p' a a' e f h = rw (← e, ← f) h

-- the same of tables that agree so far
pub moved : (rate : ℕ → ℕ) (n : ℕ) (i i' : ℕ → Instruction) (m : ℕ) (p p' : ℕ → Pair) → ((k : ℕ) → k < n → i k ≡ i' k) → ((x : ℕ) → x < m → p x ≡ p' x) → Taken rate n i m p → Taken rate n i' m p'
moved rate n i i' m p p' f g h = record {
  apart = λ k lk j lj. apart_at _ _ _ _ (f j (omega arith)) (f k lk) (h.apart k lk j lj);
  made = λ x l.
      let w = h.made x l in let lj = w.later in let lk = w.kept in let a = f w.j (omega arith) in
      record { j = w.j; k = w.k; later = lj; kept = lk; is = sym (g x l) ∙ w.is ∙ ap (pair_from rate (x + 1)) a; mirrored = mirrors_at _ _ _ _ a (f w.k lk) w.mirrored };
  met = λ k lk j lj e.
      let a = f j (omega arith) in let b = f k lk in let w = h.met k lk j lj (mirrors_at _ _ _ _ (sym a) (sym b) e) in let q = g w.x w.there in
      record { x = w.x; there = w.there; of_a = of_at _ _ _ _ q a w.of_a; of_b = of_at _ _ _ _ q b w.of_b };
  once = λ k lk x lx y ly e d. let a = sym (f k lk) in h.once k lk x lx y ly (of_at _ _ _ _ (sym (g x lx)) a e) (of_at _ _ _ _ (sym (g y ly)) a d);
}
