use Rattle.std.proofs.Common.{not, ◌&&◌, rules, tests}
use Rattle.rules.specs.Matching.{mirrors, is_matched}
use Rattle.intake.specs.Books.{no_instruction, instruction_of, book_of}
use Rattle.rules.proofs.Scans.{any_below}
use Rattle.intake.proofs.intake.Intake.is_awaited.Goals as goal

pub returns : goal.returns
returns c = any_below (λ k. mirrors (instruction_of k) (instruction_of c.args.i.now) && not (is_matched (book_of c.args.self.now) (instruction_of k))) no_instruction _ _ _ c.args.self.now.kept.ok.0 c.any.ensures.ran (λ x b q k. search (rules, tests)) cc
