-- A list of three.
use Rattle.std.proofs.Common.{◌≡◌, ℕ, List, [], ◌∷◌, length, get_or, refl, arith}

pub three_is : (xs : List ℕ) → length xs ≡ 3 → ◌≡◌ {A = List ℕ} (get_or xs 0 0 ∷ get_or xs 1 0 ∷ get_or xs 2 0 ∷ []) xs
three_is [] e = absurd (omega arith)
three_is (a ∷ []) e = absurd (omega arith)
three_is (a ∷ b ∷ []) e = absurd (omega arith)
three_is (a ∷ b ∷ c ∷ []) e = refl
three_is (a ∷ b ∷ c ∷ d ∷ xs) e = absurd (omega arith)
