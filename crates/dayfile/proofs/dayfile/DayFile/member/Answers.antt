use Rattle.std.proofs.Common.{◌≡◌, ℕ, ◌+◌, ◌*◌, length, refl, ◌∙◌, arith}
use Rattle.rules.specs.FileForm.{currencies_in, members_in, member_size, member_at}
use Rattle.rules.specs.FileRecords.{part, member_from, member_in}
use Rattle.dayfile.specs.Meaning.{member_of}
use Rattle.dayfile.proofs.Parts.{length_part, member_in_part}
use Rattle.dayfile.proofs.Formed.{whole, member_ends, read_there}
use Rattle.dayfile.proofs.dayfile.DayFile.member.Goals as goal

pub nth-requires : goal.nth-requires
nth-requires c κs =
    let f = c.args.self.bytes.now in
    let formed = c.args.self.formed in
    let e = c.layout.ensures.members in
    rw (e.count, e.first, e.size) ((refl, tt), (omega (arith, whole f formed), λ k l. let size = length_part f _ (member_size f) (member_ends f k formed l) in omega arith))

pub returns : goal.returns
unfolding member_in
returns c =
    let f = c.args.self.bytes.now in
    let e = c.layout.ensures.members in
    read_there member_of (λ y. (n : ℕ) → length (part f (member_at f c.args.i) (member_size f)) ≡ 24 + 4 * n → member_of y ≡ member_from (part f (member_at f c.args.i) (member_size f)) n 0) f (members_in f) c.args.i _ _ c.nth.result (rw (e.count, e.first, e.size) at c.nth.ensures)
    (λ l. member_ends f c.args.i c.args.self.formed l)
    (λ y l q.
    let ends = member_ends f c.args.i c.args.self.formed l in
    q (currencies_in f) (length_part f _ (member_size f) ends) ∙ member_in_part f _ (member_size f) (currencies_in f) refl ends)
