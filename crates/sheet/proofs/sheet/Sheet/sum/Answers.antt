use Rattle.std.proofs.Common.{rules, ◌≡◌, ℤ, ◌+ℤ◌, sym, ap, ◌∙◌, get_or, vec_items, vec_len, to_z}
use Rattle.std.specs.Int.{w128}
use Rattle.std.proofs.lemmas.Int.{ints}
use Rattle.std.proofs.lemmas.List.{get_or-map}
use Rattle.rules.proofs.Sum.{total_ℤ_more}
use Rattle.rules.specs.Sums.{total_ℤ}
use Rattle.sheet.specs.Meaning.{sheet_of, currency_of, no_currency}
use Rattle.sheet.proofs.sheet.Sheet.sum.Goals as goal

via : (a b c : ℤ) → a ≡ b → b ≡ c → a ≡ c
via a b c p q = p ∙ q

pub loop-k-preserved : goal.loop-k-preserved
loop-k-preserved g c = (
  λ f p.
      let i = c.loop-k.invariant.0 f p in
      let one = p _ _ _ c.of_one.ensures in
      let items = vec_items c.args.self.now.currencies in
      let more = total_ℤ_more (λ k. f ((sheet_of c.args.self.now).currency k) (g.B.Balances.balance c.args.row.now k)) c.loop-k.k in
      let b = c.balance.ensures in
      let at : c.currency-item.result ≡ get_or items c.loop-k.k c.currency-item.result = search rules in
      let here : currency_of c.currency-item.result ≡ (sheet_of c.args.self.now).currency c.loop-k.k = ap currency_of at ∙ sym (get_or-map currency_of items c.loop-k.k c.currency-item.result no_currency (search rules)) in
      let h : f (currency_of c.currency-item.result) c.balance.result.units.0 ≡ f ((sheet_of c.args.self.now).currency c.loop-k.k) (g.B.Balances.balance c.args.row.now c.loop-k.k) = cc in
      let w = c.requires.bound _ _ _ c.of_one.ensures in
      let n = c.loop-k.invariant.1 in
      let few = c.args.self.now.few in
      let from = c.from-sum.ensures in
      via _ (to_z w128 c.loop-k.sum-bits +ℤ c.of_one.result) _ (search (rules, ints)) cc,
  let w = c.requires.bound _ _ _ c.of_one.ensures in
      let n = c.loop-k.invariant.1 in
      let few = c.args.self.now.few in
      (search (rules, ints), search (rules, ints)),
)

pub returns-clause-value : goal.returns-clause-value
returns-clause-value g c = λ f p.
    let size = c.args.self.now.currencies.ok.0 in
    let e : c.loop-k.k ≡ vec_len c.args.self.now.currencies = search rules in
    c.loop-k.invariant.0 f p ∙ ap (λ n. total_ℤ n (λ k. f ((sheet_of c.args.self.now).currency k) (g.B.Balances.balance c.args.row.now k))) e
