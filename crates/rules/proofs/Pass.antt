-- What a pass, and settle, leave.
use Rattle.std.proofs.Common.{◌≡◌, ℕ, zero, suc, ◌+◌, ◌<◌, ◌≤◌, List, [], ◌∷◌, ◌++◌, length, ℤ, pos, ◌+ℤ◌, ◌-ℤ◌, Some, None, Option, refl, ap, arith}
use borrow.Author.Differences.{ints}
use Rattle.std.specs.List.{AllByRecursion}
use Rattle.std.proofs.ByRecursion.{All-append}
use Rattle.rules.specs.Pairs.{Pair, bought, sold, after_pair}
use Rattle.rules.specs.Setting.{Setting}
use Rattle.rules.specs.Tests.{Stop, stops}
use Rattle.rules.specs.Settle.{Passed, and_settled, and_waiting, passed_by, pass, Settled, and_before, passes_by, passes}

-- one turn of a pass, by what stops its pair
pub pass_cases : (s : Setting) (r : ℕ → ℕ → ℕ) (b : ℕ → ℕ → ℤ) (p : Pair) (ps : List Pair) (P : Passed → Type 0) →
    (stops s r b p ≡ None → P (and_settled p (pass s r (after_pair b p) ps))) →
    ((t : Stop) → stops s r b p ≡ Some t → P (and_waiting p (pass s r b ps))) → P (pass s r b (p ∷ ps))
unfolding pass
pass_cases s r b p ps P f g = go (stops s r b p) refl
  where
    go : (o : Option Stop) → stops s r b p ≡ o → P (passed_by o p (λ _. pass s r (after_pair b p) ps) (λ _. pass s r b ps))
    go None e = f e
    go (Some t) e = g t e

pub pass_moves : (s : Setting) (r : ℕ → ℕ → ℕ) (b : ℕ → ℕ → ℤ) (ws : List Pair) (m c : ℕ) → (pass s r b ws).balances m c ≡ b m c +ℤ pos (bought (pass s r b ws).settled m c) -ℤ pos (sold (pass s r b ws).settled m c)
unfolding pass
pass_moves s r b [] m c = omega (arith, ints)
pass_moves s r b (p ∷ ps) m c = pass_cases s r b p ps (λ x. x.balances m c ≡ b m c +ℤ pos (bought x.settled m c) -ℤ pos (sold x.settled m c))
    (λ e. let h = pass_moves s r (after_pair b p) ps m c in omega (arith, ints))
    (λ t e. pass_moves s r b ps m c)

pub pass-length : (s : Setting) (r : ℕ → ℕ → ℕ) (b : ℕ → ℕ → ℤ) (ws : List Pair) → length (pass s r b ws).settled + length (pass s r b ws).waiting ≡ length ws
unfolding pass
pass-length s r b [] = refl
pass-length s r b (p ∷ ps) = pass_cases s r b p ps (λ x. length x.settled + length x.waiting ≡ suc (length ps))
    (λ e. let h = pass-length s r (after_pair b p) ps in omega arith)
    (λ t e. let h = pass-length s r b ps in omega arith)

pub pass_all : (s : Setting) (r : ℕ → ℕ → ℕ) (b : ℕ → ℕ → ℤ) (ws : List Pair) (P : Pair → Type 0) → AllByRecursion P ws → AllByRecursion P (pass s r b ws).settled × AllByRecursion P (pass s r b ws).waiting
unfolding pass
pass_all s r b [] P h = (tt, tt)
pass_all s r b (p ∷ ps) P h = pass_cases s r b p ps (λ x. AllByRecursion P x.settled × AllByRecursion P x.waiting)
    (λ e. let g = pass_all s r (after_pair b p) ps P h.1 in ((h.0, g.0), g.1))
    (λ t e. let g = pass_all s r b ps P h.1 in (g.0, (h.0, g.1)))

-- a pass that settles nothing: everything that waits is stopped
abbrev pub Stopped : Setting → (ℕ → ℕ → ℕ) → (ℕ → ℕ → ℤ) → Pair → Type 0
Stopped s r b p = (t : Stop) × (stops s r b p ≡ Some t)

pub pass_idle : (s : Setting) (r : ℕ → ℕ → ℕ) (b : ℕ → ℕ → ℤ) (ws : List Pair) → length (pass s r b ws).settled ≡ 0 → AllByRecursion (Stopped s r b) ws
unfolding pass
pass_idle s r b [] z = tt
pass_idle s r b (p ∷ ps) z = pass_cases s r b p ps (λ x. length x.settled ≡ 0 → Stopped s r b p × AllByRecursion (Stopped s r b) ps)
    (λ e z. absurd (omega arith))
    (λ t e z. ((t, e), pass_idle s r b ps z)) z

-- ---- settle
pub passes_cases : (k : ℕ) (s : Setting) (r : ℕ → ℕ → ℕ) (b : ℕ → ℕ → ℤ) (ws : List Pair) (P : Settled → Type 0) →
    (length (pass s r b ws).settled ≡ 0 → P (record { balances = b; settled = []; waiting = ws; made = 1 })) →
    (0 < length (pass s r b ws).settled → P (and_before (pass s r b ws).settled (passes k s r (pass s r b ws).balances (pass s r b ws).waiting))) →
    P (passes (suc k) s r b ws)
unfolding passes
passes_cases k s r b ws P f g = go (pass s r b ws).settled refl
  where
    go : (l : List Pair) → (pass s r b ws).settled ≡ l → P (passes_by l b ws (λ _. passes k s r (pass s r b ws).balances (pass s r b ws).waiting))
    go [] e = f (ap length e)
    go (p ∷ ps) e = let h : P (and_before (pass s r b ws).settled (passes k s r (pass s r b ws).balances (pass s r b ws).waiting)) = g (let q = ap length e in omega arith) in rw e at h

pub bought-++ : (xs ys : List Pair) (m c : ℕ) → (bought (xs ++ ys) m c ≡ bought xs m c + bought ys m c) × (sold (xs ++ ys) m c ≡ sold xs m c + sold ys m c)
bought-++ [] ys m c = (omega arith, omega arith)
bought-++ (x ∷ xs) ys m c = let h = bought-++ xs ys m c in (omega arith, omega arith)

pub passes_moves : (k : ℕ) (s : Setting) (r : ℕ → ℕ → ℕ) (b : ℕ → ℕ → ℤ) (ws : List Pair) (m c : ℕ) → (passes k s r b ws).balances m c ≡ b m c +ℤ pos (bought (passes k s r b ws).settled m c) -ℤ pos (sold (passes k s r b ws).settled m c)
unfolding passes
passes_moves zero s r b ws m c = omega (arith, ints)
passes_moves (suc k) s r b ws m c = passes_cases k s r b ws (λ x. x.balances m c ≡ b m c +ℤ pos (bought x.settled m c) -ℤ pos (sold x.settled m c))
    (λ _. omega (arith, ints))
    (λ _.
    let h = passes_moves k s r (pass s r b ws).balances (pass s r b ws).waiting m c in
    let g = pass_moves s r b ws m c in
    let e = bought-++ (pass s r b ws).settled (passes k s r (pass s r b ws).balances (pass s r b ws).waiting).settled m c in
    omega (arith, ints))

pub passes_all : (k : ℕ) (s : Setting) (r : ℕ → ℕ → ℕ) (b : ℕ → ℕ → ℤ) (ws : List Pair) (P : Pair → Type 0) → AllByRecursion P ws → AllByRecursion P (passes k s r b ws).settled × AllByRecursion P (passes k s r b ws).waiting
unfolding passes
passes_all zero s r b ws P h = (tt, h)
passes_all (suc k) s r b ws P h = passes_cases k s r b ws (λ x. AllByRecursion P x.settled × AllByRecursion P x.waiting)
    (λ _. (tt, h))
    (λ _.
    let g = pass_all s r b ws P h in
    let q = passes_all k s r (pass s r b ws).balances (pass s r b ws).waiting P g.1 in
    (All-append P (pass s r b ws).settled (passes k s r (pass s r b ws).balances (pass s r b ws).waiting).settled g.0 q.0, q.1))

-- with passes enough, everything that waits after settle is stopped
pub passes_idle : (k : ℕ) (s : Setting) (r : ℕ → ℕ → ℕ) (b : ℕ → ℕ → ℤ) (ws : List Pair) → length ws ≤ k → AllByRecursion (Stopped s r (passes k s r b ws).balances) (passes k s r b ws).waiting
unfolding passes
passes_idle zero s r b [] l = tt
passes_idle zero s r b (p ∷ ps) l = absurd (omega arith)
passes_idle (suc k) s r b ws l = passes_cases k s r b ws (λ x. AllByRecursion (Stopped s r x.balances) x.waiting)
    (λ z. pass_idle s r b ws z)
    (λ some-settled. passes_idle k s r (pass s r b ws).balances (pass s r b ws).waiting (let h = pass-length s r b ws in omega arith))
