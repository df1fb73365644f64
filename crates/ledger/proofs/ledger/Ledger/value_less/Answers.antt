use Rattle.std.proofs.Common.{ℕ, ℤ, ap, ◌∙◌}
use Rattle.rules.specs.Worth.{adjusted}
use Rattle.accounts.specs.Meaning.{setting_within, account}
use Rattle.accounts.proofs.Rows.{row_is, less_row}
use Rattle.ledger.proofs.ledger.Ledger.value_less.Goals as goal

pub returns : goal.returns
returns c =
    let x = c.args.self.now.accounts in
    let e = c.after-after.ensures in
    let after = row_is c.after-after.result x c.args.call.member _ e.0 e.1 e.2 in
    c.adjusted_value.ensures ∙ ap (λ (row : ℕ → ℤ). adjusted (setting_within x).sheet row) (after ∙ less_row (account x c.args.call.member) c.args.call.member c.args.call.currency c.args.amount.0)
