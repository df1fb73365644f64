use Rattle.std.proofs.Common.{◌≡◌, ◌≤◌, map, vec_len}
use Rattle.rules.specs.MatchingLaws.{after_all}
use Rattle.intake.specs.Rosters.{terms_of}
use Rattle.intake.specs.Books.{instruction_of, book_of}
use Rattle.intake.proofs.Lists.{left}
use Rattle.intake.proofs.intake.Intake.submit_all.Given as goal

-- the rest stays, and what is left of the list takes the book to the same end
abbrev pub invariant-loop-i : goal.invariant-loop-i
invariant-loop-i l = record {
  roster : l.self.roster ≡ l.initial.self.roster;
  no_fewer : vec_len l.initial.self.kept ≤ vec_len l.self.kept;
  queue : l.self.queue ≡ l.initial.self.queue;
  rows : l.self.rows ≡ l.initial.self.rows;
  end : left (terms_of l.initial.self.roster) (book_of l.self) l.i-index l.instructions ≡ after_all (terms_of l.initial.self.roster) (book_of l.initial.self) (map instruction_of l.instructions);
}
