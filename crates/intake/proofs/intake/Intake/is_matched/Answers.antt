use Rattle.std.proofs.Common.{rules, tests}
use Rattle.rules.specs.Matching.{of_pair}
use Rattle.intake.specs.Parties.{no_pair, pair_of}
use Rattle.intake.specs.Books.{instruction_of}
use Rattle.rules.proofs.Scans.{any_below}
use Rattle.intake.proofs.intake.Intake.is_matched.Goals as goal

pub returns : goal.returns
returns c = any_below (λ k. of_pair (pair_of k) (instruction_of c.args.i.now)) no_pair _ _ _ c.args.self.now.pairs.ok.0 c.any.ensures.ran (λ x b q k. search (rules, tests)) cc
