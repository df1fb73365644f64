-- The queue, and settle as a relation.
use Rattle.std.proofs.Common.{◌≡◌, ℕ, zero, suc, ◌≤◌, Bool, true, false, cond, not, List, [], ◌∷◌, length, ℤ, sym, refl, ap, ◌∙◌, subst, arith}
use Rattle.std.specs.List.{AllByRecursion}
use Rattle.std.proofs.ByRecursion.{All-weaker}
use Rattle.rules.specs.Pairs.{Pair, after_pair}
use Rattle.rules.specs.Setting.{Setting, Orders, placed, queued, InOrder, Numbered}
use Rattle.rules.specs.Tests.{failures, stops}
use Rattle.rules.specs.Settle.{pass, passes, passes_by}
use Rattle.rules.specs.Settling.{Pass, over, moves, waits, last, again, Settles, counted, SamePairs, QueueIsInOrder, SettleIsPassesUntilOneSettlesNothing}
use Rattle.rules.proofs.Firsts.{first_none, first_some}
use Rattle.rules.proofs.Pass.{pass_cases, pass-length}

-- ---- what is put in place
placed_cases : (before : Pair → Pair → Bool) (p q : Pair) (qs : List Pair) (P : List Pair → Type 0) → (before p q ≡ true → P (p ∷ q ∷ qs)) → (before p q ≡ false → P (q ∷ placed before p qs)) → P (placed before p (q ∷ qs))
placed_cases before p q qs P f g = go (before p q) refl
  where
    go : (t : Bool) → before p q ≡ t → P (cond t (p ∷ q ∷ qs) (q ∷ placed before p qs))
    go true e = f e
    go false e = g e

pub placed_all : (P : Pair → Type 0) (before : Pair → Pair → Bool) (p : Pair) (qs : List Pair) → P p → AllByRecursion P qs → AllByRecursion P (placed before p qs)
placed_all P before p [] h k = (h, tt)
placed_all P before p (q ∷ qs) h k = placed_cases before p q qs (AllByRecursion P) (λ _. (h, k)) (λ _. (k.0, placed_all P before p qs h k.1))

pub queued_all : (P : Pair → Type 0) (before : Pair → Pair → Bool) (ps : List Pair) → AllByRecursion P ps → AllByRecursion P (queued before ps)
unfolding queued
queued_all P before [] h = tt
queued_all P before (p ∷ ps) h = placed_all P before p (queued before ps) h.0 (queued_all P before ps h.1)

placed-counted : (before : Pair → Pair → Bool) (p : Pair) (qs : List Pair) (kind : Pair → Bool) → counted kind (p ∷ qs) ≡ counted kind (placed before p qs)
placed-counted before p [] kind = refl
placed-counted before p (q ∷ qs) kind = placed_cases before p q qs (λ l. counted kind (p ∷ q ∷ qs) ≡ counted kind l) (λ _. refl) (λ _. let h = placed-counted before p qs kind in omega arith)

queued_counted : (before : Pair → Pair → Bool) (ps : List Pair) → SamePairs ps (queued before ps)
unfolding queued
queued_counted before [] kind = refl
queued_counted before (p ∷ ps) kind = let h = queued_counted before ps kind in let g = placed-counted before p (queued before ps) kind in omega arith

placed_order : (before : Pair → Pair → Bool) → Orders before → (p : Pair) (qs : List Pair) → AllByRecursion (λ q. p.number ≡ q.number → ⊥) qs → InOrder before qs → InOrder before (placed before p qs)
placed_order before o p [] n i = (tt, tt)
placed_order before o p (q ∷ qs) n i = placed_cases before p q qs (InOrder before)
    (λ e. ((e, All-weaker (λ r. before q r ≡ true) (λ r. before p r ≡ true) (λ r h. o.onward p q r e h) qs i.0), i))
    (λ e. (placed_all (λ r. before q r ≡ true) before p qs (o.one_way q p (λ x. n.0 (sym x)) ∙ ap not e) i.0, placed_order before o p qs n.1 i.1))

queued_order : (before : Pair → Pair → Bool) → Orders before → (ps : List Pair) → Numbered ps → InOrder before (queued before ps)
unfolding queued
queued_order before o [] n = tt
queued_order before o (p ∷ ps) n = placed_order before o p (queued before ps) (queued_all (λ q. p.number ≡ q.number → ⊥) before ps n.0) (queued_order before o ps n.1)

pub queue_is_in_order : QueueIsInOrder
queue_is_in_order before laws ps apart = (queued_order before laws ps apart, queued_counted before ps)

-- ---- settle
pub pass_is : (s : Setting) (r : ℕ → ℕ → ℕ) (b : ℕ → ℕ → ℤ) (ps : List Pair) → Pass s r b ps (pass s r b ps).balances (pass s r b ps).settled (pass s r b ps).waiting
unfolding pass stops
pass_is s r b [] = over
pass_is s r b (p ∷ ps) = pass_cases s r b p ps (λ x. Pass s r b (p ∷ ps) x.balances x.settled x.waiting)
    (λ e. moves (first_none (failures s r b p) e) (pass_is s r (after_pair b p) ps))
    (λ t e. waits t (first_some t (failures s r b p) e) (pass_is s r b ps))

-- a pass that settles nothing leaves everything
idle_is : (s : Setting) (r : ℕ → ℕ → ℕ) (b : ℕ → ℕ → ℤ) (ps : List Pair) → length (pass s r b ps).settled ≡ 0 → Pass s r b ps b [] ps
unfolding pass stops
idle_is s r b [] z = over
idle_is s r b (p ∷ ps) z = pass_cases s r b p ps (λ x. length x.settled ≡ 0 → Pass s r b (p ∷ ps) b [] (p ∷ ps))
    (λ e z. absurd (omega arith))
    (λ t e z. waits t (first_some t (failures s r b p) e) (idle_is s r b ps z)) z

passes_is : (k : ℕ) (s : Setting) (r : ℕ → ℕ → ℕ) (b : ℕ → ℕ → ℤ) (ps : List Pair) → length ps ≤ k → Settles s r b ps (passes k s r b ps)
unfolding passes
passes_is zero s r b [] l = last over
passes_is zero s r b (p ∷ ps) l = absurd (omega arith)
passes_is (suc k) s r b ps l = go (pass s r b ps).settled refl (passes_is k s r (pass s r b ps).balances (pass s r b ps).waiting)
  where
    go : (xs : List Pair) → (pass s r b ps).settled ≡ xs → (length (pass s r b ps).waiting ≤ k → Settles s r (pass s r b ps).balances (pass s r b ps).waiting (passes k s r (pass s r b ps).balances (pass s r b ps).waiting)) →
        Settles s r b ps (passes_by xs b ps (λ _. passes k s r (pass s r b ps).balances (pass s r b ps).waiting))
    go [] e more = last (idle_is s r b ps (ap length e))
    go (x ∷ xs) e more = again (subst (λ (l : List Pair). Pass s r b ps (pass s r b ps).balances l (pass s r b ps).waiting) e (pass_is s r b ps)) (more (let h = pass-length s r b ps in let g = ap length e in omega arith))

pub settle_is_passes : SettleIsPassesUntilOneSettlesNothing
settle_is_passes s r b ps = passes_is (length ps) s r b ps (omega arith)
