-- What settle and the queue are, as relations: the definitions that compute them are shown to meet these.
use Rattle.std.specs.Prelude.{◌≡◌, ℕ, suc, ◌+◌, Bool, cond, List, [], ◌∷◌, ◌++◌, ℤ}
use Rattle.rules.specs.First.{First, Never}
use Rattle.rules.specs.Pairs.{Pair, after_pair}
use Rattle.rules.specs.Setting.{Setting, Orders, InOrder, Numbered, queued}
use Rattle.rules.specs.Tests.{Stop, failures}
use Rattle.rules.specs.Settle.{Settled, settle_all}

-- One pass over waiting pairs, in queue order: from the balances b it comes to b', settles xs and leaves ws.
-- A pair that no test stops settles before the next is tested; one that a test stops waits on.
pub data Pass (s : Setting) (r : ℕ → ℕ → ℕ) : (ℕ → ℕ → ℤ) → List Pair → (ℕ → ℕ → ℤ) → List Pair → List Pair → Type 0 where
  over : {b : ℕ → ℕ → ℤ} → Pass s r b [] b [] []
  moves : {b b' : ℕ → ℕ → ℤ} {p : Pair} {ps xs ws : List Pair} → Never (failures s r b p) → Pass s r (after_pair b p) ps b' xs ws → Pass s r b (p ∷ ps) b' (p ∷ xs) ws
  waits : {b b' : ℕ → ℕ → ℤ} {p : Pair} {ps xs ws : List Pair} (t : Stop) → First t (failures s r b p) → Pass s r b ps b' xs ws → Pass s r b (p ∷ ps) b' xs (p ∷ ws)

-- passes repeat until one settles nothing; n counts them
pub data Passes (s : Setting) (r : ℕ → ℕ → ℕ) : (ℕ → ℕ → ℤ) → List Pair → (ℕ → ℕ → ℤ) → List Pair → List Pair → ℕ → Type 0 where
  last : {b : ℕ → ℕ → ℤ} {ps : List Pair} → Pass s r b ps b [] ps → Passes s r b ps b [] ps 1
  again : {b b' b'' : ℕ → ℕ → ℤ} {p : Pair} {ps xs ys vs ws : List Pair} {n : ℕ} → Pass s r b ps b' (p ∷ xs) vs → Passes s r b' vs b'' ys ws n → Passes s r b ps b'' (p ∷ xs ++ ys) ws (suc n)

-- what settle leaves is what the passes come to
abbrev pub Settles : Setting → (ℕ → ℕ → ℕ) → (ℕ → ℕ → ℤ) → List Pair → Settled → Type 0
Settles s r b ps x = Passes s r b ps x.balances x.settled x.waiting x.made

abbrev pub SettleIsPassesUntilOneSettlesNothing : Type 0
SettleIsPassesUntilOneSettlesNothing = (s : Setting) (r : ℕ → ℕ → ℕ) (b : ℕ → ℕ → ℤ) (ps : List Pair) → Settles s r b ps (settle_all s r b ps)

-- how many pairs are of a kind
abbrev pub counted : (Pair → Bool) → List Pair → ℕ
counted kind [] = 0
counted kind (p ∷ ps) = cond (kind p) 1 0 + counted kind ps

-- as many of each kind, whatever the kind
abbrev pub SamePairs : List Pair → List Pair → Type 0
SamePairs ps qs = (kind : Pair → Bool) → counted kind ps ≡ counted kind qs

-- under every order, the queue of differently numbered pairs is in order and holds each pair once
abbrev pub QueueIsInOrder : Type 0
QueueIsInOrder = (before : Pair → Pair → Bool) → Orders before → (ps : List Pair) → Numbered ps → InOrder before (queued before ps) × SamePairs ps (queued before ps)

-- under every order, two lists of the same pairs that are both in order are one list, so the queue is the only one
abbrev pub QueueIsTheOnlyOne : Type 0
QueueIsTheOnlyOne = (before : Pair → Pair → Bool) → Orders before → (ps qs : List Pair) → InOrder before ps → InOrder before qs → SamePairs ps qs → ps ≡ qs
