-- Instructions and pairs, by name.
use Rattle.std.proofs.Common.{◌≡◌, ℕ, true, eqb, ◌⊎◌, sym, refl, ◌∙◌, inl, inr, ⊎_elim}
use Rattle.std.proofs.lemmas.Bool.{and_parts, and_from, or_cases, or_left, or_right, eqb-true, eq-eqb}
use Rattle.rules.specs.Matching.{Instruction, mirrors, mirror, same_name, of_pair, pair_from}

pub record Mirrors (a b : Instruction) : Type 0 where
  pub who : a.submitter ≡ b.counterparty
  pub whom : a.counterparty ≡ b.submitter
  pub buys : a.buys ≡ b.sells
  pub bought : a.bought ≡ b.sold
  pub sells : a.sells ≡ b.buys
  pub sold : a.sold ≡ b.bought
  pub reference : a.reference ≡ b.reference

pub mirror_parts : (a b : Instruction) → mirrors a b ≡ true → Mirrors a b
mirror_parts a b e =
    let p1 = and_parts _ _ e in
    let p2 = and_parts _ _ p1.1 in
    let p3 = and_parts _ _ p2.1 in
    let p4 = and_parts _ _ p3.1 in
    let p5 = and_parts _ _ p4.1 in
    let p6 = and_parts _ _ p5.1 in
    record { who = eqb-true _ _ p1.0; whom = eqb-true _ _ p2.0; buys = eqb-true _ _ p3.0; bought = eqb-true _ _ p4.0; sells = eqb-true _ _ p5.0; sold = eqb-true _ _ p6.0; reference = eqb-true _ _ p6.1 }

-- what mirrors i is its mirror
pub is_mirror : (a i : Instruction) → mirrors a i ≡ true → a ≡ mirror i
is_mirror a i e =
    let m = mirror_parts a i e in
    λ j. record { submitter = m.who j; counterparty = m.whom j; buys = m.buys j; bought = m.bought j; sells = m.sells j; sold = m.sold j; reference = m.reference j }

pub name_from : (a b : Instruction) → a.submitter ≡ b.submitter → a.reference ≡ b.reference → same_name a b ≡ true
name_from a b e f = and_from _ _ (eq-eqb _ _ e) (eq-eqb _ _ f)

pub name_parts : (a b : Instruction) → same_name a b ≡ true → (a.submitter ≡ b.submitter) × (a.reference ≡ b.reference)
name_parts a b e = let p = and_parts _ _ e in (eqb-true _ _ p.0, eqb-true _ _ p.1)

-- a pair made of a and its mirror b is of x only if x has the name of one of them
pub one_of_two : (rate : ℕ → ℕ) (n : ℕ) (a b x : Instruction) → mirrors a b ≡ true → of_pair (pair_from rate n a) x ≡ true → (same_name a x ≡ true) ⊎ (same_name b x ≡ true)
one_of_two rate n a b x m e =
    let p = and_parts _ _ e in
    let h = mirror_parts a b m in
    let r = eqb-true _ _ p.1 in
    ⊎_elim (λ q. inl (name_from a x (eqb-true _ _ q) r)) (λ q. inr (name_from b x (sym h.whom ∙ eqb-true _ _ q) (sym h.reference ∙ r))) (or_cases _ _ p.0)

-- and it is of both
pub of_first : (rate : ℕ → ℕ) (n : ℕ) (a i : Instruction) → mirrors a i ≡ true → of_pair (pair_from rate n (mirror i)) a ≡ true
of_first rate n a i m = let h = mirror_parts a i m in and_from _ _ (or_left _ _ (eq-eqb _ _ (sym h.who))) (eq-eqb _ _ (sym h.reference))

pub of_second : (rate : ℕ → ℕ) (n : ℕ) (i : Instruction) → of_pair (pair_from rate n (mirror i)) i ≡ true
of_second rate n i = and_from _ _ (or_right (eqb i.counterparty i.submitter) _ (eq-eqb i.submitter _ refl)) (eq-eqb i.reference _ refl)
