-- Settle, pass by pass.
use Rattle.std.proofs.Common.{◌≡◌, ℕ, zero, suc, ◌+◌, ◌-◌, ◌<◌, ◌≤◌, List, [], ◌∷◌, length, ℤ, sym, refl, ap, ◌∙◌, arith}
use Rattle.std.proofs.lemmas.List.{length-append}
use Rattle.rules.specs.Pairs as rules
use Rattle.rules.specs.Pairs.{after_pair}
use Rattle.rules.specs.Setting.{Setting}
use Rattle.rules.specs.Settle.{Passed, pass, Settled, passes, and_before}
use Rattle.rules.proofs.Pass.{pass_cases, passes_cases, pass-length}
use Rattle.ledger.specs.declared.ledger.Ledger.{Ledger}
use Rattle.accounts.specs.Meaning.{setting_within, account, reserve_of}
use Rattle.accounts.specs.Moves.{Moves}
use Rattle.ledger.specs.Meaning.{queue_of}
use Rattle.ledger.specs.Turns.{passed, Leaves, settled_all}
use Rattle.ledger.proofs.Filter.{same_setting, goes_on, comes_over}

-- a pass that settles nothing changes nothing
pub idle : (s : Setting) (r : ℕ → ℕ → ℕ) (b : ℕ → ℕ → ℤ) (ws : List rules.Pair) → length (pass s r b ws).settled ≡ 0 → ((pass s r b ws).balances ≡ b) × ((pass s r b ws).waiting ≡ ws)
unfolding pass
idle s r b [] z = (refl, refl)
idle s r b (p ∷ ps) z = pass_cases s r b p ps (λ x. length x.settled ≡ 0 → (x.balances ≡ b) × (x.waiting ≡ p ∷ ps))
    (λ e z. absurd (omega arith))
    (λ t e z. let h = idle s r b ps z in (h.0, ap (λ (qs : List rules.Pair). p ∷ qs) h.1)) z

pub passes_stop : (k : ℕ) (s : Setting) (r : ℕ → ℕ → ℕ) (b : ℕ → ℕ → ℤ) (ws : List rules.Pair) → length (pass s r b ws).settled ≡ 0 → passes k s r b ws ≡ record { balances = b; settled = []; waiting = ws; made = 1 }
unfolding passes
passes_stop zero s r b ws z = refl
passes_stop (suc k) s r b ws z = passes_cases k s r b ws (λ x. x ≡ record { balances = b; settled = []; waiting = ws; made = 1 }) (λ _. refl) (λ l. absurd (omega arith))

pub passes_go : (j k : ℕ) (s : Setting) (r : ℕ → ℕ → ℕ) (b : ℕ → ℕ → ℤ) (ws : List rules.Pair) → j ≡ k + 1 → 0 < length (pass s r b ws).settled → passes j s r b ws ≡ and_before (pass s r b ws).settled (passes k s r (pass s r b ws).balances (pass s r b ws).waiting)
passes_go j k s r b ws e l =
    let f : j ≡ suc k = omega arith in
    rw f (passes_cases k s r b ws (λ x. x ≡ and_before (pass s r b ws).settled (passes k s r (pass s r b ws).balances (pass s r b ws).waiting)) (λ z. absurd (omega arith)) (λ _. refl))

-- how far settle has come: from the ledger o, passes that settled `done` pairs were made, and the ledger is n
abbrev pub still : Ledger → Ledger → ℕ → Settled
still o n made = passes (length (queue_of o) - made) (setting_within o.accounts) (reserve_of o.accounts) (account n.accounts) (queue_of n)

pub record UnderWay (o n : Ledger) (done made : ℕ) : Type 0 where
  pub holdings : Moves o.accounts n.accounts (account n.accounts)
  pub pairs_stay : n.pairs ≡ o.pairs
  pub hour_stays : n.hour ≡ o.hour
  pub shorter : length (queue_of n) + done ≡ length (queue_of o)
  pub fewer : made ≤ done
  pub balances_are : (settled_all o).balances ≡ (still o n made).balances
  pub waiting_are : (settled_all o).waiting ≡ (still o n made).waiting
  pub settled_are : length (settled_all o).settled ≡ done + length (still o n made).settled
  pub made_are : (settled_all o).made ≡ made + (still o n made).made

pub begun : (o : Ledger) → UnderWay o o 0 0
begun o =
    let z : length (queue_of o) ≡ length (queue_of o) - 0 = omega arith in
    let e = ap (λ (k : ℕ). passes k (setting_within o.accounts) (reserve_of o.accounts) (account o.accounts) (queue_of o)) z in
    record {
      holdings = record { accounts = refl; reserves = refl; ins = refl; outs = refl; sheets = refl; rosters = refl };
      pairs_stay = refl;
      hour_stays = refl;
      shorter = omega arith;
      fewer = omega arith;
      balances_are = ap (λ (x : Settled). x.balances) e;
      waiting_are = ap (λ (x : Settled). x.waiting) e;
      settled_are = (let h = ap (λ (x : Settled). length x.settled) e in omega arith);
      made_are = (let h = ap (λ (x : Settled). x.made) e in omega arith);
    }

module _ (o n n' : Ledger) (done made : ℕ) (h : UnderWay o n done made) (t : Leaves n n' (passed n).balances (passed n).waiting) where
  abbrev now : Passed
  now = pass (setting_within o.accounts) (reserve_of o.accounts) (account n.accounts) (queue_of n)

  same : passed n ≡ now
  same = λ j. pass (same_setting o.accounts n.accounts (account n.accounts) h.holdings j) (h.holdings.reserves j) (account n.accounts) (queue_of n)

  after : account n'.accounts ≡ now.balances
  after = t.holdings.accounts ∙ ap (λ (x : Passed). x.balances) same

  waits : queue_of n' ≡ now.waiting
  waits = t.waits ∙ ap (λ (x : Passed). x.waiting) same

  pub again : 0 < length (passed n).settled → UnderWay o n' (done + length (passed n).settled) (made + 1)
  again l =
      let l' : 0 < length now.settled = let z = ap (λ (x : Passed). length x.settled) same in omega arith in
      let len = pass-length (setting_within o.accounts) (reserve_of o.accounts) (account n.accounts) (queue_of n) in
      let cnt = ap (λ (x : Passed). length x.settled) same in
      let fuel : length (queue_of o) - made ≡ (length (queue_of o) - (made + 1)) + 1 = omega (arith, h.shorter, h.fewer) in
      let e : still o n made ≡ and_before now.settled (still o n' (made + 1)) =
      passes_go (length (queue_of o) - made) (length (queue_of o) - (made + 1)) (setting_within o.accounts) (reserve_of o.accounts) (account n.accounts) (queue_of n) fuel l'
      ∙ (λ j. and_before now.settled (passes (length (queue_of o) - (made + 1)) (setting_within o.accounts) (reserve_of o.accounts) (sym after j) (sym waits j))) in
      let more = length-append now.settled (still o n' (made + 1)).settled in
      record {
        holdings = goes_on _ _ _ _ _ h.holdings t.holdings;
        pairs_stay = t.pairs_stay ∙ h.pairs_stay;
        hour_stays = t.hour_stays ∙ h.hour_stays;
        shorter = (let w = ap length waits in omega (arith, h.shorter));
        fewer = omega (arith, h.fewer);
        balances_are = h.balances_are ∙ ap (λ (x : Settled). x.balances) e;
        waiting_are = h.waiting_are ∙ ap (λ (x : Settled). x.waiting) e;
        settled_are = (let w = ap (λ (x : Settled). length x.settled) e in omega (arith, h.settled_are));
        made_are = (let w = ap (λ (x : Settled). x.made) e in omega (arith, h.made_are));
      }

  pub ended : length (passed n).settled ≡ 0 → Leaves o n' (settled_all o).balances (settled_all o).waiting × (done ≡ length (settled_all o).settled) × (made + 1 ≡ (settled_all o).made) × (length (queue_of n') ≡ length (settled_all o).waiting)
  ended z =
      let z' : length now.settled ≡ 0 = let w = ap (λ (x : Passed). length x.settled) same in omega arith in
      let i = idle (setting_within o.accounts) (reserve_of o.accounts) (account n.accounts) (queue_of n) z' in
      let e = passes_stop (length (queue_of o) - made) (setting_within o.accounts) (reserve_of o.accounts) (account n.accounts) (queue_of n) z' in
      let bal : account n'.accounts ≡ (settled_all o).balances = after ∙ i.0 ∙ sym (h.balances_are ∙ ap (λ (x : Settled). x.balances) e) in
      let wai : queue_of n' ≡ (settled_all o).waiting = waits ∙ i.1 ∙ sym (h.waiting_are ∙ ap (λ (x : Settled). x.waiting) e) in (
        record { holdings = comes_over _ _ _ (goes_on _ _ _ _ _ h.holdings t.holdings) bal; waits = wai; pairs_stay = t.pairs_stay ∙ h.pairs_stay; hour_stays = t.hour_stays ∙ h.hour_stays },
        (let w = ap (λ (x : Settled). length x.settled) e in omega (arith, h.settled_are)),
        (let w = ap (λ (x : Settled). x.made) e in omega (arith, h.made_are)),
        ap length wai,
      )
