use Rattle.std.proofs.Common.{◌≡◌, None}
use Rattle.sheet.specs.Meaning.{sheet_of}
use Rattle.rules.specs.FileDay.{sheet_after, sheet_refusal}
use Rattle.runner.proofs.beginning.sheet_from.Given as goal

abbrev pub invariant-loop-k : goal.invariant-loop-k
invariant-loop-k l = (sheet_of l.sheet ≡ sheet_after l.day.bytes.now l.k) × (sheet_refusal l.day.bytes.now l.k ≡ None)
