-- What the accounts mean in the terms of the rules.
use Rattle.std.specs.Prelude.{ℕ, Bool, false, List, [], ℤ, Some, None, vec_items, vec_len, Option, Vec, slice_index_or}
use Rattle.std.specs.declared.alloc.Global.{Global}
use Rattle.rules.specs.Pairs as rules
use Rattle.rules.specs.Setting.{Setting}
use Rattle.rules.specs.Tests as tests
use Rattle.sheet.specs.declared.sheet.Sheet.{Sheet}
use Rattle.sheet.specs.Meaning.{sheet_of}
use Rattle.intake.specs.declared.member.Member.{Member}
use Rattle.intake.specs.Members.{no_member, member_of}
use Rattle.book.specs.Rows.{position}
use Rattle.accounts.specs.declared.accounts.Accounts.{Accounts}
use Rattle.accounts.specs.declared.stop.Stop.{Stop}
use Rattle.accounts.specs.declared.stop.Test.{Test}
use Rattle.accounts.specs.declared.stop.Test.TheVariants as test

-- a day with this sheet and these members
abbrev pub setting_for : (rules.Pair → rules.Pair → Bool) → List rules.Pair → Sheet → Vec Member Global → Setting
setting_for before pairs sheet members = record {
  sheet = sheet_of sheet;
  roster = record { members = vec_len members; member = λ m. member_of (slice_index_or (vec_items members) m no_member) };
  pairs = pairs;
  before = before;
}

abbrev pub setting_at : (rules.Pair → rules.Pair → Bool) → List rules.Pair → Accounts → Setting
setting_at before pairs x = setting_for before pairs x.sheet x.members

-- what the accounts alone know: neither the pairs nor their order
abbrev pub setting_within : Accounts → Setting
setting_within x = setting_at (λ p q. false) [] x

-- the four tables, by member and currency
abbrev pub account : Accounts → ℕ → ℕ → ℤ
account x m c = (position x.book m c).account.0

abbrev pub reserve_of : Accounts → ℕ → ℕ → ℕ
reserve_of x m c = (position x.book m c).reserved.0

abbrev pub ins_of : Accounts → ℕ → ℕ → ℕ
ins_of x m c = (position x.book m c).paid_in.0

abbrev pub outs_of : Accounts → ℕ → ℕ → ℕ
outs_of x m c = (position x.book m c).paid_out.0

-- the number of a test
abbrev pub test_of : Test → ℕ
test_of test.Ceiling = 1
test_of test.ShortLimit = 2
test_of test.AggregateLimit = 3
test_of test.AdjustedValue = 4

abbrev pub stop_of : Stop → tests.Stop
stop_of t = record { test = test_of t.test; member = t.member; currency = t.currency }

abbrev pub stopped : Option Stop → Option tests.Stop
stopped None = None
stopped (Some t) = Some (stop_of t)
