use Rattle.std.proofs.Common.{vec_items, rules, tests}
use Rattle.std.specs.Str.{bytes_eq}
use Rattle.rules.specs.Sheet as rules
use Rattle.rules.proofs.Scans.{any_seen_below}
use Rattle.sheet.specs.Meaning.{currency_of, no_currency}
use Rattle.sheet.proofs.sheet.Sheet.is_taken.Goals as goal

pub returns : goal.returns
returns c = any_seen_below currency_of (λ (x : rules.Currency). bytes_eq x.code c.args.code) no_currency (vec_items c.args.self.now.currencies) _ _ c.args.self.now.currencies.ok.0 c.any.ensures.ran (λ x b q k. search (rules, tests)) cc
