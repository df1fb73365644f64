use Rattle.std.proofs.Common.{◌≡◌, refl, ◌∙◌, arith}
use Rattle.rules.specs.FileForm.{instructions_in, instruction_at}
use Rattle.rules.specs.FileRecords.{part, instruction_from, instruction_in}
use Rattle.dayfile.specs.Meaning.{instruction_of}
use Rattle.dayfile.proofs.Parts.{length_part, instruction_in_part}
use Rattle.dayfile.proofs.Formed.{whole, instruction_ends, read_there}
use Rattle.dayfile.proofs.dayfile.DayFile.instruction.Goals as goal

pub nth-requires : goal.nth-requires
nth-requires c κs =
    let f = c.args.self.bytes.now in
    let formed = c.args.self.formed in
    let e = c.layout.ensures.instructions in
    rw (e.count, e.first, e.size) ((refl, tt), (omega (arith, whole f formed), λ k l. length_part f _ 16 (instruction_ends f k formed l)))

pub returns : goal.returns
unfolding instruction_in
returns c =
    let f = c.args.self.bytes.now in
    let e = c.layout.ensures.instructions in
    read_there instruction_of (λ y. instruction_of y ≡ instruction_from (part f (instruction_at f c.args.i) 16) 0) f (instructions_in f) c.args.i _ _ c.nth.result (rw (e.count, e.first, e.size) at c.nth.ensures)
    (λ l. instruction_ends f c.args.i c.args.self.formed l)
    (λ y l q. q ∙ instruction_in_part f _)
