use Rattle.std.proofs.Common.{◌≡◌, None}
use Rattle.sheet.specs.Meaning.{sheet_of}
use Rattle.intake.specs.Rosters.{roster_of, sheet_under}
use Rattle.rules.specs.FileDay.{sheet_in, roster_after, roster_refusal}
use Rattle.runner.proofs.beginning.roster_from.Given as goal

abbrev pub invariant-loop-m : goal.invariant-loop-m
invariant-loop-m l = record {
  roster : roster_of l.roster ≡ roster_after l.day.bytes.now l.m;
  none : roster_refusal l.day.bytes.now l.m ≡ None;
  sheet : sheet_of (sheet_under l.roster) ≡ sheet_in l.day.bytes.now;
}
