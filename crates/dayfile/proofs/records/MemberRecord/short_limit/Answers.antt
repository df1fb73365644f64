use Rattle.std.proofs.Common.{◌≡◌, ◌∙◌, ℕ, ◌<◌, ◌*◌, ◌/◌, length, rules}
use Rattle.rules.specs.FileRecords.{part}
use Rattle.dayfile.proofs.Listed.{length_listed, get_or-listed}
use Rattle.dayfile.proofs.Parts.{four_read, piece_at}
use Rattle.dayfile.proofs.records.MemberRecord.short_limit.Goals as goal

pub returns-in_err-limit : goal.returns-in_err-limit
returns-in_err-limit c = search (rules, length_listed)

pub returns : goal.returns
returns c =
    let s = c.args.self.shorts.now in
    let h : c.args.c < length s / 4 = search rules in
    let limit : c.in_ok-limit.limit.now ≡ part s (4 * c.args.c) 4 = search rules ∙ piece_at (length s / 4) c.args.c s h in
    (rw length_listed h, rw (get_or-listed {A = ℕ} (length s / 4) c.args.c _ 0 h) (c.from_le_bytes.ensures ∙ rw limit (four_read s (4 * c.args.c))))
