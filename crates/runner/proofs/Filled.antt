-- An array that a closure fills, which is the same at each call.
use Rattle.std.proofs.Common.{◌≡◌, ℕ, zero, suc, ◌+◌, ◌<◌, ◌≤◌, List, length, get_or, Some, None, Option, ◌∙◌, subst, ⊎_elim, arith}
use Rattle.std.proofs.lemmas.Bool.{cases_lt}
use Rattle.std.specs.Prelude.{unwrap_or}
use Rattle.std.specs.Array.{IsFromFnResultFrom}
use Rattle.std.specs.Fn.{Mut, Called}
use Rattle.dayfile.specs.Answer.{In}

pub filled : {F : Type 0} (g : Mut F (ℕ × Unit {0}) ℕ) (f : F) (ys : List ℕ) (P : ℕ → ℕ → Type 0) → ((k y : ℕ) (q : F) → Called g f (k, tt) y q → (q ≡ f) × P k y) → (n i : ℕ) → IsFromFnResultFrom g f ys i n → (j : ℕ) → i ≤ j → j < i + n → P j (get_or ys j 0)
filled g f ys P keeps zero i each j l h = absurd (omega arith)
filled {F} g f ys P keeps (suc n) i (q, y, at, called, rest) j l h =
    let kept = keeps i y q called in
    ⊎_elim
    (λ first. let e : j ≡ i = omega arith in rw (e, at.1 0) kept.1)
    (λ later. filled g f ys P keeps n (i + 1) (subst (λ (s : F). IsFromFnResultFrom g s ys (i + 1) n) kept.0 rest) j later (omega arith))
    (cases_lt j (i + 1))

-- a short limit that is read, or 0
pub limit_read : (xs : List ℕ) (i n : ℕ) (limit : Option ℕ) → n ≡ unwrap_or limit 0 → In xs i limit → i < length xs → n ≡ get_or xs i 0
limit_read xs i n None e h l = absurd (omega arith)
limit_read xs i n (Some x) e h l = e ∙ h.1
