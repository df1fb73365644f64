use Rattle.std.proofs.Common.{rules, tests}
use Rattle.rules.specs.Matching.{same_name}
use Rattle.intake.specs.Books.{no_instruction, instruction_of}
use Rattle.rules.proofs.Scans.{any_below}
use Rattle.intake.proofs.intake.Intake.is_used.Goals as goal

pub returns : goal.returns
returns c = any_below (λ k. same_name (instruction_of k) (instruction_of c.args.i.now)) no_instruction _ _ _ c.args.self.now.kept.ok.0 c.any.ensures.ran (λ x b q k. search (rules, tests)) cc
