use Rattle.std.proofs.Common.{◌≡◌, eqb, ◌∙◌, arith}
use Rattle.std.proofs.lemmas.Int.{ints}
use Rattle.std.proofs.lemmas.Bool.{cond-false, ne_eqb}
use Rattle.book.specs.Rows.{position}
use Rattle.accounts.specs.Meaning.{account, reserve_of}
use Rattle.accounts.specs.Legs.{after_leg}
use Rattle.accounts.proofs.Rows.{row_is}
use Rattle.accounts.proofs.Moved.{two_puts}
use Rattle.accounts.proofs.accounts.Accounts.move_leg.Goals as goal

pub put_account-requires-2-clause-high : goal.put_account-requires-2-clause-high
put_account-requires-2-clause-high c =
    let f = c.args.self.now in
    let l = c.args.leg in
    let x = c.after-row.ensures in
    let row = row_is c.after-row.result f c.args.member l x.0 x.1 x.2 in
    let z : c.balance-2.result.units.0 ≡ after_leg (account f c.args.member) l l.sells = c.balance-2.ensures ∙ (λ i. row i l.sells) in
    let r : reserve_of c.put_account.new.self c.args.member l.sells ≡ reserve_of f c.args.member l.sells = λ i. c.put_account.ensures.reserves i c.args.member l.sells in
    let buys = cond-false (eqb l.buys l.sells) l.bought.0 0 (ne_eqb l.buys l.sells c.requires.two) in
    let room = (position f.book c.args.member l.sells).sound.1 in
    omega (arith, ints)

pub returns : goal.returns
returns c =
    let f = c.args.self.now in
    let x = c.after-row.ensures in
    let row = row_is c.after-row.result f c.args.member c.args.leg x.0 x.1 x.2 in
    let y = c.balance.ensures ∙ (λ i. row i c.args.leg.buys) in
    let z = c.balance-2.ensures ∙ (λ i. row i c.args.leg.sells) in
    let a = c.put_account.ensures in
    let b = c.put_account-2.ensures in
    record {
      accounts = two_puts (account f) (account c.put_account.new.self) (account c.put_account-2.new.self) c.args.member c.args.leg c.balance.result.units.0 c.balance-2.result.units.0 c.requires.two y z a.accounts b.accounts;
      reserves = b.reserves ∙ a.reserves;
      ins = b.ins ∙ a.ins;
      outs = b.outs ∙ a.outs;
      sheets = b.sheets ∙ a.sheets;
      rosters = b.rosters ∙ a.rosters;
    }
