use Rattle.std.proofs.Common.{◌≡◌, ℕ, ◌+◌, length, vec_items, vec_len, refl, ap, ◌∙◌}
use Rattle.rules.specs.Matching.{mirror, pair_from}
use Rattle.rules.specs.Pairs as rules
use Rattle.rules.proofs.Tables.{pushed}
use Rattle.intake.specs.Parties.{no_pair, pair_of}
use Rattle.intake.specs.Rosters.{terms_of}
use Rattle.intake.specs.Books.{no_instruction, instruction_of, book_of}
use Rattle.intake.proofs.Taking.{listed_pushed, counted_pushed, with_pair, alone}
use Rattle.intake.proofs.intake.Intake.submit.Goals as goal

pub invariant_of-self-clause-listed : goal.invariant_of-self-clause-listed
invariant_of-self-clause-listed c = listed_pushed (terms_of c.args.self.now.roster) (book_of c.args.self.now) (instruction_of c.args.instruction) _ _ c.in-Some.pair c.push_reserved-in-Some.ensures.items c.args.self.now.listed c.in_ok-check.ensures _ c.in-Some.ensures.1

pub invariant_of-self-clause-counted : goal.invariant_of-self-clause-counted
invariant_of-self-clause-counted c =
    let number : c.in-Some.pair.number ≡ length (vec_items c.args.self.now.pairs) + 1 = ap (λ (q : rules.Pair). q.number) c.in-Some.ensures.1 ∙ ap (λ (n : ℕ). n + 1) c.args.self.now.pairs.ok.0 in
    counted_pushed _ _ c.in-Some.pair c.push_reserved-in-Some.ensures.items c.args.self.now.counted number

pub returns-in-Some-clause-answer : goal.returns-in-Some-clause-answer
returns-in-Some-clause-answer c =
    let kept = pushed instruction_of (vec_items c.args.self.now.kept) _ c.args.instruction no_instruction (vec_len c.args.self.now.kept) _ c.args.self.now.kept.ok.0 c.push_reserved.ensures.items refl in
    let pairs = pushed pair_of (vec_items c.args.self.now.pairs) _ c.in-Some.pair no_pair (vec_len c.args.self.now.pairs) (pair_from (terms_of c.args.self.now.roster).rate (vec_len c.args.self.now.pairs + 1) (mirror (instruction_of c.args.instruction))) c.args.self.now.pairs.ok.0 c.push_reserved-in-Some.ensures.items c.in-Some.ensures.1 in
    (c.in_ok-check.ensures, with_pair (terms_of c.args.self.now.roster) (book_of c.args.self.now) _ (instruction_of c.args.instruction) c.in-Some.ensures.0 c.push_reserved.ensures.len kept c.push_reserved-in-Some.ensures.len pairs)

pub returns-in_default-clause-answer : goal.returns-in_default-clause-answer
returns-in_default-clause-answer c =
    let kept = pushed instruction_of (vec_items c.args.self.now.kept) _ c.args.instruction no_instruction (vec_len c.args.self.now.kept) _ c.args.self.now.kept.ok.0 c.push_reserved.ensures.items refl in
    (c.in_ok-check.ensures, alone (terms_of c.args.self.now.roster) (book_of c.args.self.now) _ (instruction_of c.args.instruction) c.in_default.ensures c.push_reserved.ensures.len kept refl refl)
