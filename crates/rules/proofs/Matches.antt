-- The laws of matching, over every list of instructions.
use Rattle.std.proofs.Common.{◌≡◌, ℕ, ◌+◌, ◌<◌, Bool, true, false, cond, not, ◌&&◌, eqb, ◌⊎◌, List, [], ◌∷◌, Some, None, Option, sym, refl, ap, ◌∙◌, inl, inr, ⊎_elim, arith}
use Rattle.std.proofs.lemmas.Bool.{both_ways, and_parts, and_cases, not-true, not-false, or_parts, cond-true, cond-false, eq-eqb, ne_eqb}
use Rattle.rules.specs.Below.{with_at}
use Rattle.rules.specs.First.{first_of}
use Rattle.rules.specs.Refusals.{Refusal}
use Rattle.rules.specs.Pairs.{Pair}
use Rattle.rules.specs.Matching.{Instruction, Terms, Book, mirrors, mirror, same_name, of_pair, pair_from, is_matched, is_awaited, instruction_causes, taken_in}
use Rattle.rules.specs.MatchingLaws.{Laws, Empty, Joins, MatchingPairsMirrors, by_answer, after_one, after_all}
use Rattle.rules.proofs.Firsts.{first_none}
use Rattle.rules.proofs.Scans.{scan_some, scan_none}
use Rattle.rules.proofs.Names.{one_of_two}
use Rattle.rules.proofs.MatchingSteps.{Taken, none_taken, same_place, step_alone, step_pair, moved, apart_at, mirrors_at, of_at}

abbrev Good : Terms → Book → Type 0
Good t b = Taken t.rate b.kept b.instruction b.matched b.pair

-- a table with one more entry reads as before below it, and has it at its place
below_same : {A : Type 0} (f : ℕ → A) (n : ℕ) (x : A) (k : ℕ) → k < n → f k ≡ with_at f n x k
below_same f n x k l = sym (cond-false (eqb k n) x (f k) (ne_eqb k n (λ e. omega arith)))

at_end : {A : Type 0} (f : ℕ → A) (n : ℕ) (x : A) → x ≡ with_at f n x n
at_end f n x = sym (cond-true (eqb n n) x (f n) (eq-eqb n n refl))

-- the reference of an instruction that is not refused is new
new_name : (t : Terms) (b : Book) (a : Instruction) → first_of (instruction_causes t b a) ≡ None → (k : ℕ) → k < b.kept → same_name (b.instruction k) a ≡ false
new_name t b a e =
    let n = first_none (instruction_causes t b a) e in
    let reference = or_parts _ _ n.1.1.1.1.0 in
    scan_none (λ k. same_name (b.instruction k) a) b.kept reference.1

module _ (rate : ℕ → ℕ) (b : Book) (a : Instruction) (h : Taken rate b.kept b.instruction b.matched b.pair)
    (fresh : (k : ℕ) → k < b.kept → same_name (b.instruction k) a ≡ false) where
  abbrev i' : ℕ → Instruction
  i' = with_at b.instruction b.kept a

  abbrev p' : ℕ → Pair
  p' = with_at b.pair b.matched (pair_from rate (b.matched + 1) (mirror a))

  old : (k : ℕ) → k < b.kept → b.instruction k ≡ i' k
  old = below_same b.instruction b.kept a

  new : a ≡ i' b.kept
  new = at_end b.instruction b.kept a

  fresh' : (k : ℕ) → k < b.kept → same_name (i' k) (i' b.kept) ≡ false
  fresh' k l = apart_at _ _ _ _ (old k l) new (fresh k l)

  -- its mirror is not there, or in a pair
  kept_on : is_awaited b a ≡ false → Taken rate (b.kept + 1) i' b.matched b.pair
  kept_on e = step_alone rate b.kept i' b.matched b.pair (moved rate b.kept b.instruction i' b.matched b.pair b.pair old (λ x l. refl) h) fresh' met_already
    where
      met_already : (k : ℕ) → k < b.kept → mirrors (i' k) (i' b.kept) ≡ true → (x : ℕ) × (x < b.matched) × (of_pair (b.pair x) (i' k) ≡ true)
      met_already k l f =
          let m : mirrors (b.instruction k) a ≡ true = mirrors_at _ _ _ _ (sym (old k l)) (sym new) f in
          let free = scan_none (λ z. mirrors (b.instruction z) a && not (is_matched b (b.instruction z))) b.kept e k l in
          let hit : is_matched b (b.instruction k) ≡ true = ⊎_elim (λ q. absurd (both_ways _ q m)) (λ q. not-false _ q) (and_cases (mirrors (b.instruction k) a) (not (is_matched b (b.instruction k))) free) in
          let w = scan_some (λ x. of_pair (b.pair x) (b.instruction k)) b.matched hit in
          (w.0, w.1, of_at (b.pair w.0) (b.pair w.0) _ _ refl (old k l) w.2)

  -- its mirror is there, and in no pair
  paired_on : is_awaited b a ≡ true → Taken rate (b.kept + 1) i' (b.matched + 1) p'
  paired_on e =
      let w = scan_some (λ z. mirrors (b.instruction z) a && not (is_matched b (b.instruction z))) b.kept e in
      let parts = and_parts (mirrors (b.instruction w.0) a) (not (is_matched b (b.instruction w.0))) w.2 in
      let free = scan_none (λ x. of_pair (b.pair x) (b.instruction w.0)) b.matched (not-true _ parts.1) in
      let q = pair_from rate (b.matched + 1) (mirror a) in
      let oldp : (x : ℕ) → x < b.matched → b.pair x ≡ p' x = below_same b.pair b.matched q in
      let newp : p' b.matched ≡ pair_from rate (b.matched + 1) (mirror (i' b.kept)) = sym (at_end b.pair b.matched q) ∙ ap (λ (c : Instruction). pair_from rate (b.matched + 1) (mirror c)) new in
      step_pair rate b.kept i' b.matched p' (moved rate b.kept b.instruction i' b.matched b.pair p' old oldp h) fresh' newp w.0 w.1
      (mirrors_at _ _ _ _ (old w.0 w.1) new parts.0)
      (λ x l f. both_ways _ (free x l) (of_at _ _ _ _ (sym (oldp x l)) (sym (old w.0 w.1)) f))

-- the book with a kept, and its pair made
go_on : (t : Terms) (b : Book) (a : Instruction) → Good t b → first_of (instruction_causes t b a) ≡ None → Good t (taken_in t b a)
go_on t b a h none = by (is_awaited b a) refl
  where
    by : (r : Bool) → is_awaited b a ≡ r → Taken t.rate (b.kept + 1) (with_at b.instruction b.kept a)
        (cond r (b.matched + 1) b.matched) (cond r (with_at b.pair b.matched (pair_from t.rate (b.matched + 1) (mirror a))) b.pair)
    by true e = paired_on t.rate b a h (new_name t b a none) e
    by false e = kept_on t.rate b a h (new_name t b a none) e

-- two instructions of one pair are the two that it was made of
only_two : (t : Terms) (b : Book) → Good t b → (x j k : ℕ) → x < b.matched → j < k → k < b.kept → Joins b x j k → mirrors (b.instruction j) (b.instruction k) ≡ true
only_two t b h x j k lx l lk e =
    let w = h.made x lx in
    let late = w.later in
    let lw = w.kept in
    let place = same_place t.rate b.kept b.instruction b.matched b.pair h in
    let at : (z : ℕ) → z < b.kept → of_pair (b.pair x) (b.instruction z) ≡ true → (w.j ≡ z) ⊎ (w.k ≡ z) = λ z lz f.
    ⊎_elim (λ s. inl (place w.j z (omega arith) lz s)) (λ s. inr (place w.k z lw lz s))
    (one_of_two t.rate (x + 1) (b.instruction w.j) (b.instruction w.k) (b.instruction z) w.mirrored (of_at _ _ (b.instruction z) (b.instruction z) w.is refl f)) in
    ⊎_elim
    (λ s. ⊎_elim (λ r. absurd (omega arith)) (λ r. mirrors_at _ _ _ _ (ap b.instruction s) (ap b.instruction r) w.mirrored) (at k lk e.1))
    (λ s. ⊎_elim (λ r. absurd (omega arith)) (λ r. absurd (omega arith)) (at k lk e.1))
    (at j (omega arith) e.0)

laws_from : (t : Terms) (b : Book) → Good t b → Laws t b
laws_from t b h = record {
  names_differ = λ j k l lk. h.apart k lk j l;
  mirrors_join = λ j k l lk e. let w = h.met k lk j l e in (w.x, w.there, (w.of_a, w.of_b));
  only_mirrors_join = only_two t b h;
  one_pair = λ j x y l lx ly e f. h.once j l x lx y ly e f;
  first_came_first = λ x l. let w = h.made x l in (w.j, w.k, w.later, w.kept, w.is, w.mirrored);
}

laws_to : (t : Terms) (b : Book) → Laws t b → Good t b
laws_to t b h = record {
  apart = λ k lk j l. h.names_differ j k l lk;
  made = λ x l. let w = h.first_came_first x l in record { j = w.0; k = w.1; later = w.2; kept = w.3; is = w.4; mirrored = w.5 };
  met = λ k lk j l e. let w = h.mirrors_join j k l lk e in record { x = w.0; there = w.1; of_a = w.2.0; of_b = w.2.1 };
  once = λ k lk x lx y ly e f. h.one_pair k x y lk lx ly e f;
}

every : (t : Terms) (b : Book) (is : List Instruction) → Good t b → Good t (after_all t b is)
every t b [] h = h
every t b (a ∷ is) h = every t (after_one t b a) is (go (first_of (instruction_causes t b a)) refl)
  where
    go : (o : Option Refusal) → first_of (instruction_causes t b a) ≡ o → Good t (by_answer o b (taken_in t b a))
    go (Some e) q = h
    go None q = go_on t b a h q

pub laws_at_first : (t : Terms) (b : Book) → Empty b → Laws t b
laws_at_first t b e = laws_from t b (none_taken t.rate b.kept b.instruction b.matched b.pair e.0 e.1)

pub laws_stay : (t : Terms) (b : Book) (is : List Instruction) → Laws t b → Laws t (after_all t b is)
laws_stay t b is h = laws_from t _ (every t b is (laws_to t b h))

pub matching_pairs_mirrors : MatchingPairsMirrors
matching_pairs_mirrors t b is e = laws_stay t b is (laws_at_first t b e)
