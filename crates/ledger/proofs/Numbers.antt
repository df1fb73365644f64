-- The waiting pair of a number.
use Rattle.std.proofs.Common.{◌≡◌, ℕ, ◌+◌, ◌<◌, ◌≤◌, Bool, cond, eqb, List, map, length, get_or, drop, Some, None, ap, ◌∙◌}
use Rattle.std.proofs.lemmas.Bool.{eq-eqb, ne_eqb}
use Rattle.std.proofs.lemmas.List.{at_drop_more, at_drop_all}
use Rattle.intake.specs.declared.pair.Pair.{Pair}
use Rattle.intake.specs.Parties.{no_pair, pair_of}
use Rattle.rules.specs.Questions.{numbered}

module _ (n : ℕ) (ws : List Pair) (i : ℕ) where
  split : i < length ws → numbered n (map pair_of (drop i ws)) ≡ cond (eqb (get_or ws i no_pair).number n) (Some (pair_of (get_or ws i no_pair))) (numbered n (map pair_of (drop (i + 1) ws)))
  split l = at_drop_more (λ (ps : List Pair). numbered n (map pair_of ps)) ws i no_pair l

  pub numbered_here : i < length ws → (get_or ws i no_pair).number ≡ n → numbered n (map pair_of (drop i ws)) ≡ Some (pair_of (get_or ws i no_pair))
  numbered_here l e = split l ∙ ap (λ (t : Bool). cond t (Some (pair_of (get_or ws i no_pair))) (numbered n (map pair_of (drop (i + 1) ws)))) (eq-eqb _ _ e)

  pub numbered_on : i < length ws → ((get_or ws i no_pair).number ≡ n → ⊥) → numbered n (map pair_of (drop i ws)) ≡ numbered n (map pair_of (drop (i + 1) ws))
  numbered_on l e = split l ∙ ap (λ (t : Bool). cond t (Some (pair_of (get_or ws i no_pair))) (numbered n (map pair_of (drop (i + 1) ws)))) (ne_eqb _ _ e)

  pub numbered_none : length ws ≤ i → numbered n (map pair_of (drop i ws)) ≡ None
  numbered_none l = at_drop_all (λ (ps : List Pair). numbered n (map pair_of ps)) ws i l
