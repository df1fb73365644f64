use Rattle.std.proofs.Common.{◌≡◌, ◌≤◌, None, length, vec_items, vec_len, rules, tests}
use Rattle.rules.specs.Bounds.{most_currencies}
use Rattle.rules.specs.First.{first_of}
use Rattle.rules.proofs.Tables.{pushed}
use Rattle.intake.specs.Rosters.{causes_against_member}
use Rattle.intake.specs.Ranges.{ByCurrency}
use Rattle.intake.specs.Members.{no_member, member_of, name_of}
use Rattle.intake.proofs.Additions.{member_is}
use Rattle.intake.proofs.roster.Roster.add.Goals as goal

pub returns-clause-answer : goal.returns-clause-answer
returns-clause-answer c =
    let none : first_of (causes_against_member c.args.self.now c.args.name.now c.args.shorts.now c.args.aggregate.0) ≡ None = search (rules, tests) in
    let name : name_of c.in_ok-name.name ≡ c.args.name.now = search (rules, tests) in
    let limits : ByCurrency c.in_ok-limits.limits.short c.args.shorts.now × (c.in_ok-limits.limits.aggregate ≡ c.args.aggregate) = search (rules, tests) in
    let few : length c.args.shorts.now ≤ most_currencies = search rules in
    let member = member_is (record { name = c.in_ok-name.name; limits = c.in_ok-limits.limits }) _ _ _ name limits.0 few (search rules) in
    let table = pushed member_of (vec_items c.args.self.now.members) _ _ no_member (vec_len c.args.self.now.members) _ c.args.self.now.members.ok.0 c.push_reserved.ensures.items member in
    (none, λ i. record { members = c.push_reserved.ensures.len i; member = λ k. table k i })
