-- A call that is known to succeed.
use Rattle.std.proofs.Common.{◌≡◌, ℕ, true, is_ok, Ok, Err, Result, arith, MatchResult}

pub if_ok : {A E : Type 0} (P : Type 0) (Q : E → Type 0) (r : Result A E) → is_ok r ≡ true → MatchResult r (λ _. P) Q → P
if_ok P Q (Ok _) e h = h
if_ok P Q (Err _) e h = absurd (let z : ◌≡◌ {A = ℕ} 0 1 = cc in omega arith)
