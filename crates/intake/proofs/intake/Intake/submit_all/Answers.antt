use Rattle.std.proofs.Common.{◌≡◌, map, get_or, vec_len, sym, ap, ◌∙◌, subst, arith, rules}
use Rattle.rules.specs.Matching.{Book}
use Rattle.rules.specs.MatchingLaws.{Laws, after_all, after_one}
use Rattle.rules.proofs.Matches.{laws_at_first, laws_stay}
use Rattle.intake.specs.declared.roster.Roster.{Roster}
use Rattle.intake.specs.Rosters.{terms_of}
use Rattle.intake.specs.Books.{no_instruction, instruction_of, book_of}
use Rattle.intake.proofs.Lists.{answered, no_fewer, one_more, all_done}
use Rattle.intake.proofs.intake.Intake.submit_all.Goals as goal

pub loop-i-preserved : goal.loop-i-preserved
loop-i-preserved c =
    let i = instruction_of (get_or c.args.instructions.now c.loop-i.i-index no_instruction) in
    let b = book_of c.loop-i.self in
    let t = terms_of c.loop-i.self.roster in
    let s = terms_of c.args.self.now.roster in
    let e = answered t b (book_of c.submit.new.self) i c.submit.result c.submit.ensures.answer in
    let same : after_one t b i ≡ after_one s b i = ap (λ (r : Roster). after_one (terms_of r) b i) c.loop-i.invariant.roster in
    let count : vec_len c.submit.new.self.kept ≡ (after_one t b i).kept = ap (λ (x : Book). x.kept) e in
    record {
      roster = c.submit.ensures.roster ∙ c.loop-i.invariant.roster;
      no_fewer = omega (arith, count, no_fewer t b i, c.loop-i.invariant.no_fewer);
      queue = c.submit.ensures.queue ∙ c.loop-i.invariant.queue;
      rows = c.submit.ensures.rows ∙ c.loop-i.invariant.rows;
      end = one_more s b (book_of c.submit.new.self) _ c.args.instructions.now c.loop-i.i-index (search rules) (e ∙ same) c.loop-i.invariant.end;
    }

pub returns : goal.returns
returns c =
    let i = map instruction_of c.args.instructions.now in
    let t = terms_of c.args.self.now.roster in
    let b = book_of c.args.self.now in
    let done : book_of c.loop-i.self ≡ after_all t b i = all_done t (book_of c.loop-i.self) _ c.args.instructions.now c.loop-i.i-index (search rules) c.loop-i.invariant.end in
    let same = c.loop-i.invariant.roster in
    let lawful : Laws t b → Laws (terms_of c.loop-i.self.roster) (book_of c.loop-i.self) = λ h.
    subst (λ (r : Roster). Laws (terms_of r) (book_of c.loop-i.self)) (sym same) (subst (Laws t) (sym done) (laws_stay t b i h)) in
    record { book = done; count = omega (arith, c.loop-i.invariant.no_fewer); roster = search rules; queue = search rules; rows = search rules; matched = λ e. lawful (laws_at_first t b e); lawful = lawful }
