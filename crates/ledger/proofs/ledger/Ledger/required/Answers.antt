use Rattle.std.proofs.Common.{rules, ◌≡◌, ◌≤◌, ◌^◌, length, List, map, refl, ap, vec_items, arith}
use Rattle.std.specs.List.{sum_by}
use Rattle.std.proofs.lemmas.Iterator.{YieldsList-from_slice}
use Rattle.std.proofs.lemmas.Iterator.Adapters.{fits_from_length, at_most_from_yields_List}
use Rattle.std.proofs.lemmas.List.Recursion.{is_sum_by}
use Rattle.rules.specs.Bounds.{most_instructions}
use Rattle.rules.specs.Pairs.{bought, sold, buys_by, sells_by}
use Rattle.intake.specs.declared.pair.Pair.{Pair}
use Rattle.intake.specs.Parties.{pair_of}
use Rattle.ledger.specs.declared.ledger.Ledger.{Ledger}
use Rattle.ledger.proofs.ledger.Ledger.required.Goals as goal

few : (x : Ledger) (ps : List Pair) → ps ≡ vec_items x.pairs → length ps ≤ most_instructions
few x ps e = let l = ap length e in omega (arith, x.few, x.pairs.ok)

pub sum-sold-requires-clause-fits : goal.sum-sold-requires-clause-fits
sum-sold-requires-clause-fits c =
    fits_from_length _ _ most_instructions (2 ^ 64) (at_most_from_yields_List (YieldsList-from_slice c.deref.result.now cc) (few c.args.self.now c.deref.result.now cc)) c.map.ensures.closure (omega arith) (λ x r q k. search rules)

pub sum-bought-requires-clause-fits : goal.sum-bought-requires-clause-fits
sum-bought-requires-clause-fits c =
    fits_from_length _ _ most_instructions (2 ^ 64) (at_most_from_yields_List (YieldsList-from_slice c.deref-2.result.now cc) (few c.args.self.now c.deref-2.result.now cc)) c.map-2.ensures.closure (omega arith) (λ x r q k. search rules)

pub returns : goal.returns
returns c =
    let a : c.sum-sold.result ≡ sum_by (λ p. sells_by (pair_of p) c.args.m c.args.c) (vec_items c.args.self.now.pairs) = search rules in
    let b : c.sum-bought.result ≡ sum_by (λ p. buys_by (pair_of p) c.args.m c.args.c) (vec_items c.args.self.now.pairs) = search rules in
    let s = is_sum_by (λ (ps : List Pair). sold (map pair_of ps) c.args.m c.args.c) (λ p. sells_by (pair_of p) c.args.m c.args.c) refl (λ _ _. refl) (vec_items c.args.self.now.pairs) in
    let t = is_sum_by (λ (ps : List Pair). bought (map pair_of ps) c.args.m c.args.c) (λ p. buys_by (pair_of p) c.args.m c.args.c) refl (λ _ _. refl) (vec_items c.args.self.now.pairs) in
    omega arith
