-- A list read as a table, and what one element more at its end does to it.
use Rattle.std.proofs.Common.{◌≡◌, ℕ, ◌<◌, eqb, List, [], ◌∷◌, ◌++◌, length, get_or, sym, ap, ◌∙◌, subst, ⊎_elim, arith}
use Rattle.std.proofs.ByRecursion.{All-get_or, All-push, All-from_get_or}
use Rattle.std.proofs.lemmas.List.{get_or_append_left, get_or_past, get_or_push, length_push}
use Rattle.std.proofs.lemmas.Bool.{cases_eq, cases_lt, cond-true, cond-false, eq-eqb, ne_eqb}
use Rattle.rules.specs.Below.{with_at}

-- off the new place the list reads as before
other_place : {A : Type 0} (xs : List A) (x d : A) (k : ℕ) → (k ≡ length xs → ⊥) → get_or (xs ++ x ∷ []) k d ≡ get_or xs k d
other_place xs x d k ne = ⊎_elim
    (λ l. get_or_append_left xs (x ∷ []) d k l)
    (λ g. let n = length_push xs x in get_or_past (xs ++ x ∷ []) k d (⊎_elim (λ q. absurd (ne q)) (λ q. omega arith) (cases_eq k (length xs))) ∙ sym (get_or_past xs k d g))
    (cases_lt k (length xs))

pub pushed_at : {A B : Type 0} (f : A → B) (xs : List A) (x d : A) (k : ℕ) → f (get_or (xs ++ x ∷ []) k d) ≡ with_at (λ j. f (get_or xs j d)) (length xs) (f x) k
pushed_at f xs x d k = ⊎_elim
    (λ q. ap f (get_or_push xs x d k (sym q)) ∙ sym (cond-true (eqb k (length xs)) (f x) (f (get_or xs k d)) (eq-eqb k (length xs) q)))
    (λ q. ap f (other_place xs x d k q) ∙ sym (cond-false (eqb k (length xs)) (f x) (f (get_or xs k d)) (ne_eqb k (length xs) q)))
    (cases_eq k (length xs))

-- the same of a list that is known to be that one, with the count and the meaning of the new element under other names
pub pushed : {A B : Type 0} (f : A → B) (xs new : List A) (x d : A) (n : ℕ) (y : B) → n ≡ length xs → new ≡ xs ++ x ∷ [] → f x ≡ y → (k : ℕ) → f (get_or new k d) ≡ with_at (λ j. f (get_or xs j d)) n y k
pushed f xs new x d n y l e h k = ap (λ ys. f (get_or ys k d)) e ∙ pushed_at f xs x d k ∙ (λ i. with_at (λ j. f (get_or xs j d)) (sym l i) (h i) k)

-- what holds of every element holds of every element after one more for which it holds
pub every_pushed : {A : Type 0} (P : A → Type 0) (xs new : List A) (x d : A) → new ≡ xs ++ x ∷ [] → ((k : ℕ) → k < length xs → P (get_or xs k d)) → P x → (k : ℕ) → k < length new → P (get_or new k d)
every_pushed P xs new x d e h s = subst (λ ys. (k : ℕ) → k < length ys → P (get_or ys k d)) (sym e) (λ k l. All-get_or P (xs ++ x ∷ []) k d l (All-push P xs x (All-from_get_or P xs d h) s))
