use Rattle.std.proofs.Common.{rules, tests, ◌≡◌, ℕ, Bool, true, false, cond, eqb, List, [], ◌∷◌, map, Some, None, Option, refl, sym, ap, ◌∙◌, Bor}
use Rattle.std.specs.List.{find}
use Rattle.std.specs.Option.{option_map}
use Rattle.std.proofs.lemmas.Iterator.{YieldsList-from_slice}
use Rattle.std.proofs.lemmas.Iterator.Search.{find_from_yields_List}
use Rattle.rules.specs.Pairs as rules
use Rattle.rules.specs.Questions.{numbered}
use Rattle.intake.specs.declared.pair.Pair.{Pair}
use Rattle.intake.specs.Parties.{pair_of}
use Rattle.ledger.proofs.ledger.Ledger.waiting_pair.Goals as goal

meant : (o : Option (Bor Pair)) → option_map (λ (p : Bor Pair). pair_of p.now) o ≡ option_map pair_of (option_map (λ (p : Bor Pair). p.now) o)
meant None = refl
meant (Some p) = refl

one_more : (t : Bool) (p : Pair) (r : Option Pair) (s : Option rules.Pair) → s ≡ option_map pair_of r → cond t (Some (pair_of p)) s ≡ option_map pair_of (cond t (Some p) r)
one_more true p r s e = refl
one_more false p r s e = e

numbered_is : (n : ℕ) (ps : List Pair) → numbered n (map pair_of ps) ≡ option_map pair_of (find (λ p. eqb p.number n) ps)
numbered_is n [] = refl
numbered_is n (p ∷ ps) = one_more (eqb p.number n) p _ _ (numbered_is n ps)

pub returns : goal.returns
returns c =
    let found = find_from_yields_List (λ p. eqb p.number c.args.number) _ _ c.find.result c.find.ensures.ran (YieldsList-from_slice c.deref.result.now cc) (λ x b q k. search (rules, tests)) in
    meant c.find.result ∙ ap (option_map pair_of) found ∙ sym (numbered_is c.args.number c.deref.result.now) ∙ ap (λ (ps : List Pair). numbered c.args.number (map pair_of ps)) c.deref.ensures.value
