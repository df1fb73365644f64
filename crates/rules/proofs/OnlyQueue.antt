-- Two lists of the same pairs that are both in order are one list.
use Rattle.std.proofs.Common.{◌≡◌, ℕ, ◌≤◌, Bool, true, false, cond, ◌&&◌, eqb, ◌⊎◌, List, [], ◌∷◌, sym, refl, ap, ◌∙◌, subst, inl, inr, arith}
use Rattle.std.specs.List.{AllByRecursion}
use Rattle.std.proofs.lemmas.Bool.{eqb-true, eq-eqb, and_parts, and_from}
use Rattle.rules.specs.Pairs.{Pair}
use Rattle.rules.specs.Setting.{Orders, InOrder}
use Rattle.rules.specs.Settling.{counted, SamePairs, QueueIsTheOnlyOne}

-- whether two pairs agree in all of some fields
abbrev agree : List (Pair → ℕ) → Pair → Pair → Bool
agree [] p q = true
agree (f ∷ fs) p q = eqb (f p) (f q) && agree fs p q

agree_all : (fs : List (Pair → ℕ)) (p q : Pair) → agree fs p q ≡ true → AllByRecursion (λ f. f p ≡ f q) fs
agree_all [] p q e = tt
agree_all (f ∷ fs) p q e = (eqb-true (f p) (f q) (and_parts (eqb (f p) (f q)) (agree fs p q) e).0, agree_all fs p q (and_parts (eqb (f p) (f q)) (agree fs p q) e).1)

agree_itself : (fs : List (Pair → ℕ)) (p : Pair) → agree fs p p ≡ true
agree_itself [] p = refl
agree_itself (f ∷ fs) p = and_from (eqb (f p) (f p)) (agree fs p p) (eq-eqb (f p) (f p) refl) (agree_itself fs p)

abbrev fields : List (Pair → ℕ)
fields = (λ p. p.number) ∷ (λ p. p.first) ∷ (λ p. p.second) ∷ (λ p. p.buys) ∷ (λ p. p.bought) ∷ (λ p. p.sells) ∷ (λ p. p.sold) ∷ (λ p. p.reference) ∷ (λ p. p.weight) ∷ []

abbrev same : Pair → Pair → Bool
same p q = agree fields p q

pair : (a b c d e f g h i : ℕ) → Pair
pair a b c d e f g h i = record { number = a; first = b; second = c; buys = d; bought = e; sells = f; sold = g; reference = h; weight = i }

pair_is : (p : Pair) → pair p.number p.first p.second p.buys p.bought p.sells p.sold p.reference p.weight ≡ p
unfolding pair
pair_is p = refl

same_is : (p q : Pair) → same p q ≡ true → p ≡ q
same_is p q e = go (agree_all fields p q e)
  where
    go : AllByRecursion (λ f. f p ≡ f q) fields → p ≡ q
    go (a, (b, (c, (d, (f, (g, (h, (i, (j, _))))))))) = let x = pair_is p in let y = pair_is q in cc

-- what holds of all pairs of a list holds of one that is counted in it
of_counted : (P : Pair → Type 0) (p : Pair) (qs : List Pair) → AllByRecursion P qs → 1 ≤ counted (same p) qs → P p
of_counted P p [] h l = absurd (omega arith)
of_counted P p (q ∷ qs) h l = go (of_counted P p qs h.1) (same p q) refl
  where
    go : (1 ≤ counted (same p) qs → P p) → (t : Bool) → same p q ≡ t → P p
    go later true e = subst P (sym (same_is p q e)) h.0
    go later false e = later (let z : ◌≡◌ {A = ℕ} (cond (same p q) 1 0) 0 = ap (λ (b : Bool). cond b 1 0) e in omega arith)

-- a pair of a list is its first, or after its first
first_or_after : (before : Pair → Pair → Bool) (p : Pair) (ps : List Pair) (q : Pair) (qs : List Pair) → AllByRecursion (λ x. before q x ≡ true) qs → counted (same p) (p ∷ ps) ≡ counted (same p) (q ∷ qs) → (p ≡ q) ⊎ (before q p ≡ true)
first_or_after before p ps q qs h s = go (same p q) refl
  where
    go : (t : Bool) → same p q ≡ t → (p ≡ q) ⊎ (before q p ≡ true)
    go true e = inl (same_is p q e)
    go false e = inr (of_counted (λ x. before q x ≡ true) p qs h
        (let z : ◌≡◌ {A = ℕ} (cond (same p q) 1 0) 0 = ap (λ (b : Bool). cond b 1 0) e in let y : ◌≡◌ {A = ℕ} (cond (same p p) 1 0) 1 = ap (λ (b : Bool). cond b 1 0) (agree_itself fields p) in omega arith))

-- two pairs are not each before the other
not_both : (before : Pair → Pair → Bool) → Orders before → (p q : Pair) → before p q ≡ true → before q p ≡ true → ⊥
not_both before o p q x y = let z : ◌≡◌ {A = ℕ} 0 1 = ap (λ (b : Bool). cond b 1 0) (sym (o.itself p) ∙ o.onward p q p x y) in omega arith

one_first : (before : Pair → Pair → Bool) → Orders before → (p : Pair) (ps : List Pair) (q : Pair) (qs : List Pair) → InOrder before (p ∷ ps) → InOrder before (q ∷ qs) → SamePairs (p ∷ ps) (q ∷ qs) → p ≡ q
one_first before o p ps q qs i j s = elim (first_or_after before p ps q qs j.0 (s (same p))) [
  | inl e ↦ e
  | inr y ↦ elim (first_or_after before q qs p ps i.0 (sym (s (same q)))) [
    | inl e ↦ sym e
    | inr x ↦ absurd (not_both before o p q x y)
  ]
]

pub queue_is_the_only_one : QueueIsTheOnlyOne
queue_is_the_only_one before o [] [] i j s = refl
queue_is_the_only_one before o [] (q ∷ qs) i j s = absurd (let z = s (λ _. true) in omega arith)
queue_is_the_only_one before o (p ∷ ps) [] i j s = absurd (let z = s (λ _. true) in omega arith)
queue_is_the_only_one before o (p ∷ ps) (q ∷ qs) i j s =
    let e = one_first before o p ps q qs i j s in
    let r = queue_is_the_only_one before o ps qs i.1 j.1 (λ kind. let z = s kind in let y : ◌≡◌ {A = ℕ} (cond (kind p) 1 0) (cond (kind q) 1 0) = ap (λ (x : Pair). cond (kind x) 1 0) e in omega arith) in
    cc
