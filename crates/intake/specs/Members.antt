-- What a member means in the terms of the rules.
use Rattle.std.specs.Prelude.{ℕ, List, [], take, slice_index_or}
use Rattle.std.proofs.Common.{lit≤}
use Rattle.rules.specs.Roster as rules
use Rattle.intake.specs.declared.name.Name.{Name}
use Rattle.intake.specs.declared.member.Member.{Member}
use Rattle.intake.specs.Ranges.{no_amount}

-- a member's default, which stands on no roster
abbrev pub no_member : Member
no_member = record {
  name = record { bytes = []; len = 0; short = lit≤ tt };
  limits = record { short = []; aggregate = record { 0 = 0 }; limited = λ c. lit≤ tt };
}

abbrev pub name_of : Name → List ℕ
name_of n = take n.len n.bytes

abbrev pub member_of : Member → rules.Member
member_of m = record { name = name_of m.name; short = λ c. (slice_index_or m.limits.short c no_amount).0; aggregate = m.limits.aggregate.0 }
