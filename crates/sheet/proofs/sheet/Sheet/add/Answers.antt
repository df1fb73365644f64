use Rattle.std.proofs.Common.{map, vec_items, vec_len, ◌∙◌, ap, rules}
use Rattle.std.proofs.lemmas.List.{map_push, length-map}
use Rattle.rules.proofs.Tables.{pushed}
use Rattle.rules.specs.Sheet.{Currency}
use Rattle.sheet.specs.Meaning.{currency_of, no_currency}
use Rattle.sheet.proofs.sheet.Sheet.add.Goals as goal

pub returns : goal.returns
returns c =
    let items = vec_items c.args.self.now.currencies in
    let table = pushed (λ (x : Currency). x) (map currency_of items) _ _ no_currency (vec_len c.args.self.now.currencies)
    (record { code = c.args.code.now; rate = c.args.rate; haircut = c.args.haircut; instalments = c.args.instalments })
    (search (rules, length-map)) (ap (map currency_of) c.push_reserved.ensures.items ∙ map_push currency_of items _) (search rules) in
    (search rules, λ i. record { currencies = c.push_reserved.ensures.len i; currency = λ k. table k i })
