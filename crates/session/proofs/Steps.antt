-- A call that is refused, and one that is not.
use Rattle.std.proofs.Common.{◌≡◌, ℕ, ◌+◌, ◌-◌, ◌≤◌, Bool, true, false, ltb, List, [], ◌∷◌, ◌++◌, Some, None, Ok, Err, option_map, IsErrAnd, MatchResult, Result, sym, refl, ap, ◌∙◌, subst, ◌||◌}
use Rattle.std.proofs.lemmas.Bool.{le-ltb}
use Rattle.rules.specs.Bounds.{most_sum, last_hour}
use Rattle.rules.specs.First.{Case, first_of}
use Rattle.rules.specs.Refusals as rules
use Rattle.rules.specs.Refusals.{session, nostro, cause}
use Rattle.rules.specs.Setting.{Setting}
use Rattle.rules.specs.Books.{Books}
use Rattle.rules.specs.Causes.{at, pay_in_causes, reserve_causes, held_causes, all_reserved}
use Rattle.rules.specs.Calls.{Call, pay_in, clock, settle, reserve, pay, causes, accepted, refused}
use Rattle.rules.specs.Nostro.{last_number}
use Rattle.rules.proofs.Responses.{responds, none_then, some_then}
use Rattle.nostro.specs.Cash.{causes_over, Outcome}
use Rattle.refusal.specs.declared.refused.Refusal.{Refusal}
use Rattle.refusal.specs.Meaning.{refusal_of}
use Rattle.session.specs.Meaning.{Does}

-- the causes of a call that do not look at cash, and the others
abbrev pub first_causes : Setting → Books → Call → List (Case rules.Refusal)
first_causes s b (pay_in m c a) = pay_in_causes s b m c a
first_causes s b (clock h) = []
first_causes s b settle = []
first_causes s b (reserve m c a) = reserve_causes s b m c a
first_causes s b (pay r) = held_causes s b r.member r.currency r.amount

abbrev pub last_causes : Setting → Books → Call → List (Case rules.Refusal)
last_causes s b (pay_in m c a) = at 16 nostro m c (ltb most_sum (b.cash c + a)) ∷ []
last_causes s b (clock h) = cause 17 session None None (ltb h b.hour || ltb last_hour h) ∷ []
last_causes s b settle = []
last_causes s b (reserve m c a) = at 20 session m c (ltb (b.cash c - all_reserved s b c) a) ∷ []
last_causes s b (pay r) = at 20 nostro r.member r.currency (ltb (b.cash r.currency) r.amount) ∷ []

parted : (s : Setting) (b : Books) (q : Call) → causes s b q ≡ first_causes s b q ++ last_causes s b q
unfolding causes
parted s b (pay_in m c a) = refl
parted s b (clock h) = refl
parted s b settle = refl
parted s b (reserve m c a) = refl
parted s b (pay r) = refl

module _ (s : Setting) (b d : Books) (q : Call) where
  pub turned_away : (e : rules.Refusal) → first_of (causes s b q) ≡ Some e → d ≡ b → Does s b q d (refused e)
  turned_away e f g = let h = responds s b q (Some e) f in record { left = g ∙ sym (ap (λ x. x.books) h); said = sym (ap (λ x. x.answer) h) }

  pub let_through : first_of (causes s b q) ≡ None → d ≡ (accepted s b q).books → Does s b q d (accepted s b q).answer
  let_through f g = let h = responds s b q None f in record { left = g ∙ sym (ap (λ x. x.books) h); said = sym (ap (λ x. x.answer) h) }

  pub refused_first : (e : rules.Refusal) → first_of (first_causes s b q) ≡ Some e → d ≡ b → Does s b q d (refused e)
  refused_first e f = turned_away e (ap first_of (parted s b q) ∙ some_then (first_causes s b q) (last_causes s b q) e f)

  pub refused_last : (e : rules.Refusal) → first_of (first_causes s b q) ≡ None → first_of (last_causes s b q) ≡ Some e → d ≡ b → Does s b q d (refused e)
  refused_last e f l = turned_away e (ap first_of (parted s b q) ∙ none_then (first_causes s b q) (last_causes s b q) f ∙ l)

  pub let_through_both : first_of (first_causes s b q) ≡ None → first_of (last_causes s b q) ≡ None → d ≡ (accepted s b q).books → Does s b q d (accepted s b q).answer
  let_through_both f l = let_through (ap first_of (parted s b q) ∙ none_then (first_causes s b q) (last_causes s b q) f ∙ l)

-- in a currency that the nostro has, the session refuses for the cash where the nostro does, and names the member too
module _ (m c n : ℕ) (over : Bool) (l : c ≤ last_number) where
  abbrev named : rules.Refusal → rules.Refusal
  named r = record { number = r.number; layer = r.layer; member = Some m; currency = r.currency; place = r.place }

  told : first_of (at n nostro m c over ∷ []) ≡ option_map named (first_of (causes_over over n c))
  told = elim over as (λ (t : Bool). first_of (at n nostro m c t ∷ []) ≡ option_map named (first_of (causes_over t n c))) [
    | true ↦ rw (le-ltb last_number c l) refl
    | false ↦ rw (le-ltb last_number c l) refl
  ]

  pub passed_on : (D K : Type 0) (answer r : Result Unit Refusal) → Outcome (causes_over over n c) D K answer → MatchResult answer (λ x. r ≡ Ok x) (λ e. IsErrAnd r (λ d. d ≡ record { cause = e.cause; layer = e.layer; member = Some m; currency = e.currency; place = e.place })) → Outcome (at n nostro m c over ∷ []) D K r
  passed_on D K (Ok u) r h k = subst (λ x. Outcome (at n nostro m c over ∷ []) D K x) (sym k) (told ∙ ap (option_map named) h.0, h.1)
  passed_on D K (Err e) (Ok u) h k = absurd k
  passed_on D K (Err e) (Err d) h k = (told ∙ ap (option_map named) h.0 ∙ ap (λ (x : Refusal). Some (refusal_of x)) (sym k), h.1)
