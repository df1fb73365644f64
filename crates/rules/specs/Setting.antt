-- What a session begins with, and what stays through the day: the sheet, the roster, the pairs and the queue order.
use Rattle.std.specs.Prelude.{◌≡◌, Bool, true, false, cond, not, List, [], ◌∷◌, ◌≢◌}
use Rattle.std.specs.List.{AllByRecursion}
use Rattle.rules.specs.Sheet.{Sheet}
use Rattle.rules.specs.Roster.{Roster}
use Rattle.rules.specs.Pairs.{Pair}

-- A queue order says of two pairs whether one goes before the other. Its laws, over differently numbered pairs:
pub record Orders (before : Pair → Pair → Bool) : Type 0 where
  pub itself : (p : Pair) → before p p ≡ false
  pub one_way : (p q : Pair) → (p.number ≢ q.number) → before p q ≡ not (before q p)
  pub onward : (p q r : Pair) → before p q ≡ true → before q r ≡ true → before p r ≡ true

-- the pairs in queue order: each is put where it goes before all that follow
abbrev pub placed : (Pair → Pair → Bool) → Pair → List Pair → List Pair
placed before p [] = p ∷ []
placed before p (q ∷ qs) = cond (before p q) (p ∷ q ∷ qs) (q ∷ placed before p qs)

unfoldable pub queued : (Pair → Pair → Bool) → List Pair → List Pair
queued before [] = []
queued before (p ∷ ps) = placed before p (queued before ps)

-- each pair is before all that follow it
abbrev pub InOrder : (Pair → Pair → Bool) → List Pair → Type 0
InOrder before [] = Unit {0}
InOrder before (p ∷ ps) = AllByRecursion (λ q. before p q ≡ true) ps × InOrder before ps

-- no two have one number
abbrev pub Numbered : List Pair → Type 0
Numbered [] = Unit {0}
Numbered (p ∷ ps) = AllByRecursion (λ q. p.number ≢ q.number) ps × Numbered ps

pub record Setting : Type 0 where
  pub sheet : Sheet
  pub roster : Roster
  pub pairs : List Pair
  pub before : Pair → Pair → Bool

-- the queue that a session goes through
abbrev pub queue : Setting → List Pair
queue s = queued s.before s.pairs
