-- The waiting pairs while a pass filters them.
use Rattle.std.proofs.Common.{◌≡◌, ℕ, ◌+◌, ◌<◌, ◌≤◌, true, false, is_some, List, [], ◌∷◌, ◌++◌, map, length, get_or, take, drop, set, ℤ, Some, None, vec_items, Option, sym, refl, ap, ◌∙◌, subst, inl, inr, arith}
use Rattle.std.proofs.lemmas.Bool.{cases_eq}
use Rattle.std.proofs.lemmas.List.{get_or-set_same, get_or-set_other, length-set, get_or-drop, take_more_set, drop-set-lt, drop_more, drop_all, append_assoc, append-nil, map-append}
use Rattle.std.proofs.lemmas.Grind.{drop_more_same}
use Rattle.rules.specs.Pairs as rules
use Rattle.rules.specs.Pairs.{after_pair}
use Rattle.rules.specs.Setting.{Setting}
use Rattle.rules.specs.Tests.{Stop, stops}
use Rattle.rules.specs.Settle.{Passed, pass, passed_by, and_settled, and_waiting}
use Rattle.ledger.specs.declared.ledger.Ledger.{Ledger}
use Rattle.accounts.specs.declared.accounts.Accounts.{Accounts}
use Rattle.intake.specs.declared.pair.Pair.{Pair}
use Rattle.intake.specs.Parties.{Within, Listed, no_pair, pair_of}
use Rattle.accounts.specs.declared.stop.Stop as accounts
use Rattle.accounts.specs.Meaning.{setting_for, setting_within, account, reserve_of, stopped, stop_of}
use Rattle.accounts.specs.Moves.{Moves}
use Rattle.ledger.specs.Turns.{passed}

-- the accounts become t, the waiting pairs ws, and all else stays
pub record ComesTo (old new : Ledger) (t : ℕ → ℕ → ℤ) (ws : List Pair) : Type 0 where
  pub holdings : Moves old.accounts new.accounts t
  pub waits : vec_items new.waiting ≡ ws
  pub pairs_stay : new.pairs ≡ old.pairs
  pub hour_stays : new.hour ≡ old.hour

-- of pairs whose parties and currencies are all within m and c, each is, and so they are when one more such pair is written
pub listed_at : (ps : List Pair) (m c i : ℕ) (p : Pair) → Listed ps m c → i < length ps → p ≡ get_or ps i no_pair → Within p m c
listed_at ps m c i p h l e = subst (λ (x : Pair). Within x m c) (sym e) (h i l)

pub listed_set : (ps : List Pair) (m c k : ℕ) (p : Pair) → Listed ps m c → Within p m c → Listed (set ps k p) m c
listed_set ps m c k p h w j l =
    let l' : j < length ps = let e = length-set ps k p in omega arith in
    elim (cases_eq j k) [
      | inl e ↦ subst (λ (x : ℕ). Within (get_or (set ps k p) x no_pair) m c) (sym e) (subst (λ (x : Pair). Within x m c) (sym (get_or-set_same ps k p no_pair (subst (λ (x : ℕ). x < length ps) e l'))) w)
      | inr n ↦ subst (λ (x : Pair). Within x m c) (sym (get_or-set_other ps k j p no_pair n)) (h j l')
    ]

-- ---- one turn in the law's pass
pub pass_moves_on : (s : Setting) (r : ℕ → ℕ → ℕ) (b : ℕ → ℕ → ℤ) (p : rules.Pair) (ps : List rules.Pair) → stops s r b p ≡ None → pass s r b (p ∷ ps) ≡ and_settled p (pass s r (after_pair b p) ps)
unfolding pass
pass_moves_on s r b p ps e = ap (λ (o : Option Stop). passed_by o p (λ _. pass s r (after_pair b p) ps) (λ _. pass s r b ps)) e

pub pass_waits_on : (s : Setting) (r : ℕ → ℕ → ℕ) (b : ℕ → ℕ → ℤ) (p : rules.Pair) (ps : List rules.Pair) (t : Stop) → stops s r b p ≡ Some t → pass s r b (p ∷ ps) ≡ and_waiting p (pass s r b ps)
unfolding pass
pass_waits_on s r b p ps t e = ap (λ (o : Option Stop). passed_by o p (λ _. pass s r (after_pair b p) ps) (λ _. pass s r b ps)) e

-- ---- how far a pass has come: from the ledger o, i pairs were tested, k of them wait on, and the ledger is n
abbrev pub rest_of : Ledger → (ℕ → ℕ → ℤ) → ℕ → Passed
rest_of o b i = pass (setting_within o.accounts) (reserve_of o.accounts) b (map pair_of (drop i (vec_items o.waiting)))

pub record SoFar (o n : Ledger) (i k : ℕ) : Type 0 where
  pub few : k ≤ i
  pub size : length (vec_items n.waiting) ≡ length (vec_items o.waiting)
  pub holdings : Moves o.accounts n.accounts (account n.accounts)
  pub pairs_stay : n.pairs ≡ o.pairs
  pub hour_stays : n.hour ≡ o.hour
  pub untested : drop i (vec_items n.waiting) ≡ drop i (vec_items o.waiting)
  pub balances_are : (passed o).balances ≡ (rest_of o (account n.accounts) i).balances
  pub waiting_are : (passed o).waiting ≡ map pair_of (take k (vec_items n.waiting)) ++ (rest_of o (account n.accounts) i).waiting
  pub settled_are : length (passed o).settled + k ≡ i + length (rest_of o (account n.accounts) i).settled

pub began : (o : Ledger) → SoFar o o 0 0
began o = record {
  few = omega arith;
  size = refl;
  holdings = record { accounts = refl; reserves = refl; ins = refl; outs = refl; sheets = refl; rosters = refl };
  pairs_stay = refl;
  hour_stays = refl;
  untested = refl;
  balances_are = refl;
  waiting_are = refl;
  settled_are = omega arith;
}

pub same_setting : (f g : Accounts) (t : ℕ → ℕ → ℤ) → Moves f g t → setting_within g ≡ setting_within f
same_setting f g t h = λ i. setting_for (λ p q. false) [] (h.sheets i) (h.rosters i)

pub then_moves : (f g h : Accounts) (t u : ℕ → ℕ → ℤ) → Moves f g t → Moves g h u → Moves f h u
then_moves f g h t u x y = record
    { accounts = y.accounts; reserves = y.reserves ∙ x.reserves; ins = y.ins ∙ x.ins; outs = y.outs ∙ x.outs; sheets = y.sheets ∙ x.sheets; rosters = y.rosters ∙ x.rosters }

pub settled_in : (f g : Accounts) (t : ℕ → ℕ → ℤ) → Moves f g t → Moves f g (account g)
settled_in f g t x = record { accounts = refl; reserves = x.reserves; ins = x.ins; outs = x.outs; sheets = x.sheets; rosters = x.rosters }

-- accounts that have moved, and then move again
pub goes_on : (f g h : Accounts) (t u : ℕ → ℕ → ℤ) → Moves f g t → Moves g h u → Moves f h (account h)
goes_on f g h t u x y = settled_in f h u (then_moves f g h t u x y)

-- a test that answers nothing, and one that answers a stop
nothing : (r : Option accounts.Stop) → is_some r ≡ false → stopped r ≡ None
nothing None e = refl
nothing (Some t) e = absurd (cc)

something : (r : Option accounts.Stop) → is_some r ≡ true → (t : Stop) × (stopped r ≡ Some t)
something None e = absurd (cc)
something (Some t) e = (stop_of t, refl)

head_same : (xs ys : List Pair) (i : ℕ) → drop i xs ≡ drop i ys → get_or xs i no_pair ≡ get_or ys i no_pair
head_same xs ys i e =
    let z : i ≡ i + 0 = omega arith in
    ap (λ (j : ℕ). get_or xs j no_pair) z ∙ sym (get_or-drop i xs 0 no_pair) ∙ ap (λ (zs : List Pair). get_or zs 0 no_pair) e ∙ get_or-drop i ys 0 no_pair ∙ ap (λ (j : ℕ). get_or ys j no_pair) (sym z)

-- one turn: p, which waits at i, was tested, and r is the answer
module _ (o n n' : Ledger) (i k k' : ℕ) (p : Pair) (r : Option accounts.Stop) (h : SoFar o n i k) (l : i < length (vec_items o.waiting)) (is : p ≡ get_or (vec_items n.waiting) i no_pair)
    (told : stopped r ≡ stops (setting_within n.accounts) (reserve_of n.accounts) (account n.accounts) (pair_of p)) where
  abbrev q : Pair
  q = get_or (vec_items o.waiting) i no_pair

  abbrev b : ℕ → ℕ → ℤ
  b = account n.accounts

  abbrev later : List rules.Pair
  later = map pair_of (drop (i + 1) (vec_items o.waiting))

  same_q : p ≡ q
  same_q = is ∙ head_same (vec_items n.waiting) (vec_items o.waiting) i h.untested

  same_stops : stopped r ≡ stops (setting_within o.accounts) (reserve_of o.accounts) b (pair_of q)
  same_stops = told ∙ λ j. stops (same_setting o.accounts n.accounts b h.holdings j) (h.holdings.reserves j) b (pair_of (same_q j))

  next : rest_of o b i ≡ pass (setting_within o.accounts) (reserve_of o.accounts) b (pair_of q ∷ later)
  next = ap (λ (ps : List Pair). pass (setting_within o.accounts) (reserve_of o.accounts) b (map pair_of ps)) (drop_more (vec_items o.waiting) i no_pair l)

  pub settles : is_some r ≡ false → ComesTo n n' (after_pair b (pair_of p)) (vec_items n.waiting) → k' ≡ k → SoFar o n' (i + 1) k'
  settles none t s = record {
    few = omega (arith, h.few, s);
    size = ap length t.waits ∙ h.size;
    holdings = goes_on _ _ _ _ _ h.holdings t.holdings;
    pairs_stay = t.pairs_stay ∙ h.pairs_stay;
    hour_stays = t.hour_stays ∙ h.hour_stays;
    untested = ap (drop (i + 1)) t.waits ∙ drop_more_same (vec_items n.waiting) (vec_items o.waiting) i h.untested;
    balances_are = h.balances_are ∙ ap (λ (x : Passed). x.balances) now_is;
    waiting_are = h.waiting_are ∙ ap (λ (x : Passed). map pair_of (take k (vec_items n.waiting)) ++ x.waiting) now_is ∙ λ j. map pair_of (take (sym s j) (sym t.waits j)) ++ (rest_of o (account n'.accounts) (i + 1)).waiting;
    settled_are = let z = ap (λ (x : Passed). length x.settled) now_is in omega (arith, h.settled_are, s);
  }
    where
      moved : account n'.accounts ≡ after_pair b (pair_of q)
      moved = t.holdings.accounts ∙ ap (λ (x : Pair). after_pair b (pair_of x)) same_q

      now_is : rest_of o b i ≡ and_settled (pair_of q) (rest_of o (account n'.accounts) (i + 1))
      now_is = next ∙ pass_moves_on (setting_within o.accounts) (reserve_of o.accounts) b (pair_of q) later (sym same_stops ∙ nothing r none) ∙ ap (λ (y : ℕ → ℕ → ℤ). and_settled (pair_of q) (pass (setting_within o.accounts) (reserve_of o.accounts) y later)) (sym moved)

  pub stays : is_some r ≡ true → ComesTo n n' b (set (vec_items n.waiting) k p) → k' ≡ k + 1 → SoFar o n' (i + 1) k'
  stays some t s = record {
    few = omega (arith, h.few, s);
    size = ap length t.waits ∙ length-set (vec_items n.waiting) k p ∙ h.size;
    holdings = goes_on _ _ _ _ _ h.holdings t.holdings;
    pairs_stay = t.pairs_stay ∙ h.pairs_stay;
    hour_stays = t.hour_stays ∙ h.hour_stays;
    untested = ap (drop (i + 1)) t.waits ∙ drop-set-lt (i + 1) (vec_items n.waiting) k p (let z = h.few in omega arith) ∙ drop_more_same (vec_items n.waiting) (vec_items o.waiting) i h.untested;
    balances_are = h.balances_are ∙ ap (λ (x : Passed). x.balances) now_is;
    waiting_are = h.waiting_are ∙ ap (λ (x : Passed). map pair_of (take k (vec_items n.waiting)) ++ x.waiting) now_is ∙ grown;
    settled_are = let z = ap (λ (x : Passed). length x.settled) now_is in omega (arith, h.settled_are, s);
  }
    where
      now_is : rest_of o b i ≡ and_waiting (pair_of q) (rest_of o (account n'.accounts) (i + 1))
      now_is = next ∙ pass_waits_on (setting_within o.accounts) (reserve_of o.accounts) b (pair_of q) later _ (sym same_stops ∙ (something r some).1) ∙ ap (λ (y : ℕ → ℕ → ℤ). and_waiting (pair_of q) (pass (setting_within o.accounts) (reserve_of o.accounts) y later)) (sym t.holdings.accounts)

      taken : take k' (vec_items n'.waiting) ≡ take k (vec_items n.waiting) ++ q ∷ []
      taken = (λ j. take (s j) (t.waits j)) ∙ take_more_set (vec_items n.waiting) k p (let z = h.size in let y = h.few in omega arith) ∙ ap (λ (x : Pair). take k (vec_items n.waiting) ++ x ∷ []) same_q

      grown : map pair_of (take k (vec_items n.waiting)) ++ pair_of q ∷ (rest_of o (account n'.accounts) (i + 1)).waiting ≡ map pair_of (take k' (vec_items n'.waiting)) ++ (rest_of o (account n'.accounts) (i + 1)).waiting
      grown = sym (append_assoc (map pair_of (take k (vec_items n.waiting))) (pair_of q ∷ []) _) ∙ ap (λ (ps : List rules.Pair). ps ++ (rest_of o (account n'.accounts) (i + 1)).waiting) (sym (map-append pair_of (take k (vec_items n.waiting)) (q ∷ [])) ∙ ap (map pair_of) (sym taken))

-- the whole list is tested
pub over : (o n : Ledger) (i k : ℕ) → SoFar o n i k → length (vec_items o.waiting) ≤ i →
    (account n.accounts ≡ (passed o).balances) × (map pair_of (take k (vec_items n.waiting)) ≡ (passed o).waiting) × (length (passed o).settled + k ≡ i)
unfolding pass
over o n i k h l =
    let e = ap (λ (ps : List Pair). pass (setting_within o.accounts) (reserve_of o.accounts) (account n.accounts) (map pair_of ps)) (drop_all i (vec_items o.waiting) l) in (
      sym (h.balances_are ∙ ap (λ (x : Passed). x.balances) e),
      sym (h.waiting_are ∙ ap (λ (x : Passed). map pair_of (take k (vec_items n.waiting)) ++ x.waiting) e ∙ append-nil _),
      (let z = ap (λ (x : Passed). length x.settled) e in omega (arith, h.settled_are)),
    )

pub comes_over : (f g : Accounts) (t : ℕ → ℕ → ℤ) → Moves f g (account g) → account g ≡ t → Moves f g t
comes_over f g t x e = record { accounts = e; reserves = x.reserves; ins = x.ins; outs = x.outs; sheets = x.sheets; rosters = x.rosters }
