use Rattle.std.proofs.Common.{◌≡◌, lit<, add-zero, refl, ◌∙◌, arith}
use Rattle.rules.specs.FileForm.{steps_in, step_at}
use Rattle.rules.specs.FileRecords.{part, step_from, step_in}
use Rattle.dayfile.specs.Meaning.{step_of}
use Rattle.dayfile.proofs.Parts.{length_part, byte_in_part, step_in_part}
use Rattle.dayfile.proofs.Formed.{whole, step_ends, known, read_there}
use Rattle.dayfile.proofs.dayfile.DayFile.step.Goals as goal

pub nth-requires : goal.nth-requires
nth-requires c κs =
    let f = c.args.self.bytes.now in
    let formed = c.args.self.formed in
    let e = c.layout.ensures.steps in
    rw (e.count, e.first, e.size) ((refl, tt), (omega (arith, whole f formed), λ k l. (length_part f _ 8 (step_ends f k formed l), rw (byte_in_part f (step_at f k) 8 0 (lit< tt), add-zero) (known f k formed l))))

pub returns : goal.returns
unfolding step_in
returns c =
    let f = c.args.self.bytes.now in
    let e = c.layout.ensures.steps in
    read_there step_of (λ y. step_of y ≡ step_from (part f (step_at f c.args.i) 8) 0) f (steps_in f) c.args.i _ _ c.nth.result (rw (e.count, e.first, e.size) at c.nth.ensures)
    (λ l. step_ends f c.args.i c.args.self.formed l)
    (λ y l q. q ∙ step_in_part f _)
