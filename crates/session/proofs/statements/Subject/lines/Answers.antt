use Rattle.std.proofs.Common.{◌≡◌, get_or, vec_items, ap, ◌∙◌, arith, rules}
use borrow.Author.Rules.{get_or_read}
use Rattle.rules.specs.Statements.{entry_of}
use Rattle.rules.specs.Wording.{member_line}
use Rattle.intake.specs.declared.member.Member.{Member}
use Rattle.intake.specs.Members.{no_member, name_of}
use Rattle.ledger.specs.Meaning.{books_within}
use Rattle.session.specs.Statements.{unordered}
use Rattle.statement.proofs.Lines.{lines_none}
use Rattle.session.proofs.Adding.{one_line}
use Rattle.session.proofs.statements.Subject.lines.Goals as goal

pub loop-c-init : goal.loop-c-init
loop-c-init c =
    let x = c.args.self.now.ledger.now in
    let v : c.index-member.result.now ≡ get_or (vec_items x.accounts.members) c.args.self.now.member no_member = search (rules, get_or_read) in
    let n = ap (λ (m : Member). name_of m.name) v in
    (c.begin-text.ensures.entries, c.begin-text.ensures.whole c.as_bytes.ensures.short ∙ ap member_line (c.as_bytes.ensures.value ∙ n) ∙ lines_none _ (entry_of (unordered x) (books_within x) c.args.self.now.member))

pub loop-c-preserved : goal.loop-c-preserved
loop-c-preserved c =
    let x = c.args.self.now.ledger.now in
    let i = c.loop-c.invariant in
    one_line c.loop-c.text c.entry-in-loop-c.new.self _ c.entry-in-loop-c.result _ (entry_of (unordered x) (books_within x) c.args.self.now.member) c.loop-c.c c.entry-in-loop-c.ensures i.0 (omega (arith, x.accounts.sheet.few, c.len-c-end.ensures.count, c.loop-c-test.true, c.loop-c.auto.c-end)) i.1 c.entry.ensures
