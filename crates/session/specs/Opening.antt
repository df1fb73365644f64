-- The day that an intake opens.
use Rattle.std.specs.Prelude.{Bool, map, vec_items}
use Rattle.rules.specs.Pairs as rules
use Rattle.rules.specs.Setting.{Setting}
use Rattle.sheet.specs.Meaning.{sheet_of}
use Rattle.intake.specs.declared.intake.Intake.{Intake}
use Rattle.intake.specs.Rosters.{roster_of}
use Rattle.intake.specs.Parties.{pair_of}

-- its sheet, its roster and its pairs, under an order
abbrev pub day_of : (rules.Pair → rules.Pair → Bool) → Intake → Setting
day_of before x = record { sheet = sheet_of x.roster.sheet; roster = roster_of x.roster; pairs = map pair_of (vec_items x.pairs); before = before }
