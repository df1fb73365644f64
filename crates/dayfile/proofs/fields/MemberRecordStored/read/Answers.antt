use Rattle.std.proofs.Common.{◌≡◌, ◌-◌, ◌*◌, length, ◌∙◌, arith, rules}
use Rattle.rules.specs.FileRecords.{part}
use Rattle.dayfile.proofs.Parts.{eight_read, member_alone}
use Rattle.dayfile.proofs.fields.MemberRecordStored.read.Goals as goal

pub returns : goal.returns
returns c =
    let b = c.args.bytes.now in
    λ n h.
    let size : length b - 24 ≡ 4 * n = omega arith in
    member_alone b c.without_spaces.result.now (part b 24 (length b - 24)) c.from_le_bytes.result n h
    (search rules)
    (c.from_le_bytes.ensures ∙ rw c.field.ensures (eight_read b 16))
    (rw size)
