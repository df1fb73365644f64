use Rattle.std.proofs.Common.{rules, ◌≡◌, List, map, sym, refl, ◌∙◌}
use Rattle.std.specs.List.{count_by}
use Rattle.std.proofs.lemmas.List.Recursion.{is_sum_by}
use Rattle.rules.specs.Statements.{party_to, own, own_pairs}
use Rattle.intake.specs.declared.pair.Pair.{Pair}
use Rattle.intake.specs.Parties.{pair_of}
use Rattle.ledger.proofs.sums.own_pairs.Goals as goal

pub returns-clause-value : goal.returns-clause-value
returns-clause-value c =
    let e : c.count.result ≡ count_by (λ p. party_to c.args.m (pair_of p)) c.args.pairs.now = search rules in
    e ∙ sym (is_sum_by (λ (ps : List Pair). own_pairs c.args.m (map pair_of ps)) (λ p. own c.args.m (pair_of p)) refl (λ _ _. refl) c.args.pairs.now)
