-- A stage of the day that its records make one after the other: what is made of the first k, and the first refusal among them.
use Rattle.std.proofs.Common.{◌≡◌, ℕ, zero, suc, ◌+◌, ◌<◌, Some, None, Option, sym, refl, ap, ◌∙◌, ⊎_elim, add-one, arith}
use Rattle.std.proofs.lemmas.Bool.{cases_lt}
use Rattle.rules.specs.Refusals.{Refusal}
use Rattle.rules.specs.FileDay.{earlier}

pub record Stage {S : Type 0} (after : ℕ → S) (refused : ℕ → Option Refusal) (why : S → ℕ → Option Refusal) (done : S → ℕ → S) : Type 0 where
  pub more : (k : ℕ) → after (k + 1) ≡ done (after k) k
  pub first : (k : ℕ) → refused (k + 1) ≡ earlier (refused k) (why (after k) k)

module _ {S : Type 0} {after : ℕ → S} {refused : ℕ → Option Refusal} {why : S → ℕ → Option Refusal} {done : S → ℕ → S} (st : Stage after refused why done) where
  -- a record that is not refused
  pub one_more : (k : ℕ) (old new : S) → old ≡ after k → refused k ≡ None → why old k ≡ None → new ≡ done old k → (new ≡ after (k + 1)) × (refused (k + 1) ≡ None)
  one_more k old new h0 h1 p q = (q ∙ ap (λ (s : S). done s k) h0 ∙ sym (st.more k), st.first k ∙ rw h1 (ap (λ (s : S). why s k) (sym h0) ∙ p))

  -- a refusal stays the first
  stays : (k n : ℕ) (e : Refusal) → k < n → refused (k + 1) ≡ Some e → refused n ≡ Some e
  stays k zero e l h = absurd (omega arith)
  stays k (suc n) e l h = ⊎_elim
      (λ less. let r : refused n ≡ Some e = stays k n e less h in let s : refused (n + 1) ≡ Some e = st.first n ∙ rw r refl in rw add-one at s)
      (λ same. let i : n ≡ k = omega arith in rw i (rw add-one at h))
      (cases_lt k n)

  pub stopped : (k n : ℕ) (old : S) (e : Refusal) → k < n → old ≡ after k → refused k ≡ None → why old k ≡ Some e → refused n ≡ Some e
  stopped k n old e l h0 h1 p = stays k n e l (st.first k ∙ rw h1 (ap (λ (s : S). why s k) (sym h0) ∙ p))
