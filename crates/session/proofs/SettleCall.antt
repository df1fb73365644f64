-- Settle as the session's call.
use Rattle.std.proofs.Common.{◌≡◌, ℕ, zero, suc, Bool, List, [], ◌∷◌, map, length, ℤ, None, Ok, Err, vec_items, Option, Result, sym, refl, ap, ◌∙◌}
use Rattle.rules.specs.Pairs as rules
use Rattle.rules.specs.Pairs.{after_pair}
use Rattle.rules.specs.Setting.{Setting}
use Rattle.rules.specs.Tests.{Stop, stops}
use Rattle.rules.specs.Settle.{Passed, pass, passed_by, Settled, passes, passes_by, settle_all}
use Rattle.rules.specs.Books.{Books}
use Rattle.rules.specs.Calls.{settle, causes, accepted, counts}
use Rattle.rules.proofs.Responses.{responds}
use Rattle.ledger.specs.declared.counts.Counts.{Counts}
use Rattle.accounts.specs.declared.accounts.Accounts.{Accounts}
use Rattle.refusal.specs.declared.refused.Refusal.{Refusal}
use Rattle.intake.specs.Parties.{pair_of}
use Rattle.accounts.specs.declared.stop.Stop as accounts
use Rattle.accounts.specs.Meaning.{setting_at, setting_within, account, reserve_of}
use Rattle.ledger.specs.declared.ledger.Ledger.{Ledger}
use Rattle.ledger.specs.Meaning.{setting_by, books_with, books_within}
use Rattle.ledger.specs.Questions.{PairAsked}
use Rattle.session.specs.Meaning.{Does, counting}
use Rattle.ledger.specs.Turns.{Counted}
use Rattle.rules.proofs.Responses.{same_books}

-- a pass looks at the setting by the tests alone
module _ (s s' : Setting) (r : ℕ → ℕ → ℕ) (e : (b : ℕ → ℕ → ℤ) (p : rules.Pair) → stops s r b p ≡ stops s' r b p) where
  same_pass : (b : ℕ → ℕ → ℤ) (ws : List rules.Pair) → pass s r b ws ≡ pass s' r b ws
  unfolding pass
  same_pass b [] = refl
  same_pass b (p ∷ ps) =
      ap (λ (o : Option Stop). passed_by o p (λ _. pass s r (after_pair b p) ps) (λ _. pass s r b ps)) (e b p)
      ∙ λ i. passed_by (stops s' r b p) p (λ _. same_pass (after_pair b p) ps i) (λ _. same_pass b ps i)

  pub same_passes : (k : ℕ) (b : ℕ → ℕ → ℤ) (ws : List rules.Pair) → passes k s r b ws ≡ passes k s' r b ws
  unfolding passes
  same_passes zero b ws = refl
  same_passes (suc k) b ws =
      ap (λ (x : Passed). passes_by x.settled b ws (λ _. passes k s r x.balances x.waiting)) (same_pass b ws)
      ∙ λ i. passes_by (pass s' r b ws).settled b ws (λ _. same_passes k (pass s' r b ws).balances (pass s' r b ws).waiting i)

pub same_stops : (before : rules.Pair → rules.Pair → Bool) (pairs : List rules.Pair) (f : Accounts) (r : ℕ → ℕ → ℕ) (b : ℕ → ℕ → ℤ) (p : rules.Pair) → stops (setting_within f) r b p ≡ stops (setting_at before pairs f) r b p
unfolding stops
same_stops before pairs f r b p = refl

pub settle_does : (s : Setting) (b d : Books) (x : Settled) (c : Counts) → x ≡ settle_all s b.reserve_of b.account b.waiting → Counted c x →
    d.account ≡ x.balances → d.reserve_of ≡ b.reserve_of → d.paid_in ≡ b.paid_in → d.paid_out ≡ b.paid_out → d.hour ≡ b.hour → d.waiting ≡ x.waiting → d.cash ≡ b.cash →
    Does s b settle d (counting c)
unfolding causes accepted
settle_does s b d x c e n p q r t u v w =
    let h = responds s b settle None refl in
    record {
      left = same_books _ d (p ∙ ap (λ (y : Settled). y.balances) e) q r t u (v ∙ ap (λ (y : Settled). y.waiting) e) w ∙ sym (ap (λ y. y.books) h);
      said = (λ i. counts (n.settled_is i) (n.passes_is i) (n.waiting_is i)) ∙ ap (λ (y : Settled). counts (length y.settled) y.made (length y.waiting)) e ∙ sym (ap (λ y. y.answer) h);
    }

-- a pair is stopped by the same test whatever the order, the other pairs and the cash
pub asked_within : (before : rules.Pair → rules.Pair → Bool) (cash : ℕ → ℕ) (x : Ledger) (n : ℕ) (r : Result (Option accounts.Stop) Refusal) → PairAsked (setting_within x.accounts) (books_within x) n r → PairAsked (setting_by before x) (books_with cash x) n r
asked_within before cash x n (Ok o) h = (h.0, h.1, h.2 ∙ same_stops before (map pair_of (vec_items x.pairs)) x.accounts (reserve_of x.accounts) (account x.accounts) h.0)
asked_within before cash x n (Err e) h = h
