use Rattle.std.proofs.Common.{rules}
use Rattle.sheet.proofs.Rounding.{rounded_is}
use Rattle.sheet.proofs.currency.Currency.due.Goals as goal

pub returns : goal.returns
returns c = search (rules, rounded_is)
