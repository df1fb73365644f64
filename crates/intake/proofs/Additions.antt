-- What is known of a name and of limits that are not refused.
use Rattle.std.proofs.Common.{◌≡◌, ℕ, ◌≤◌, true, false, ltb, List, ◌++◌, length, take, get_or, ap, ◌∙◌, ⊎_elim, rules, tests, arith}
use Rattle.std.proofs.lemmas.List.{get_or_past, get_or-take, length-take, take_all}
use Rattle.std.proofs.Math.Seq.{take-append_seam}
use Rattle.std.proofs.lemmas.Bool.{cases_lt, or_parts, ltb-false, leb-true, and_parts}
use Rattle.rules.specs.Below.{some_below}
use Rattle.rules.specs.Bounds.{most_currencies, most_units, most_marks}
use Rattle.rules.specs.Roster.{stray, is_name, limits_out_of_range}
use Rattle.rules.proofs.Scans.{scan_none}
use Rattle.intake.specs.declared.member.Member.{Member}
use Rattle.intake.specs.Ranges.{ByCurrency}
use Rattle.intake.specs.Members.{member_of, name_of}

pub a_name : (text : List ℕ) → 1 ≤ length text → length text ≤ 16 → some_below (length text) (λ k. stray (get_or text k 0)) ≡ false → is_name text ≡ true
a_name text some few none = search (rules, tests)

pub name_fits : (name : List ℕ) → is_name name ≡ true → length name ≤ 16
name_fits name e = leb-true _ _ (and_parts _ _ (and_parts _ _ e).1).0

-- a text that is copied to the front of a longer array
pub padded : (text copied rest : List ℕ) → copied ≡ text → take (length text) (copied ++ rest) ≡ text
padded text copied rest e = ap (λ xs. take (length text) (xs ++ rest)) e ∙ take-append_seam text rest

pub in_range : (shorts : List ℕ) (aggregate : ℕ) → aggregate ≤ most_marks → some_below (length shorts) (λ k. ltb most_units (get_or shorts k 0)) ≡ false → limits_out_of_range shorts aggregate ≡ false
in_range shorts aggregate l none = search (rules, tests)

-- no short limit is above its range, by currency number
pub short_in_range : (shorts : List ℕ) (aggregate : ℕ) → limits_out_of_range shorts aggregate ≡ false → (c : ℕ) → get_or shorts c 0 ≤ most_units
short_in_range shorts aggregate e c = ⊎_elim
    (λ l. ltb-false _ _ (scan_none (λ k. ltb most_units (get_or shorts k 0)) (length shorts) (or_parts _ _ e).1 c l))
    (λ g. let z = get_or_past shorts c 0 g in omega arith)
    (cases_lt c (length shorts))

-- nor is one of those that a member keeps
pub kept_in_range : (shorts : List ℕ) (aggregate : ℕ) → limits_out_of_range shorts aggregate ≡ false → (c : ℕ) → get_or (take most_currencies shorts) c 0 ≤ most_units
kept_in_range shorts aggregate e c = ⊎_elim
    (λ l. let long = length-take most_currencies shorts in
    let same = get_or-take most_currencies shorts c 0 (omega arith) in
    let h = short_in_range shorts aggregate e c in
    omega arith)
    (λ g. let z = get_or_past (take most_currencies shorts) c 0 g in omega arith)
    (cases_lt c (length (take most_currencies shorts)))

-- the member that an addition asks for
pub member_is : (m : Member) (name shorts : List ℕ) (aggregate : ℕ) → name_of m.name ≡ name → ByCurrency m.limits.short shorts → length shorts ≤ most_currencies → m.limits.aggregate.0 ≡ aggregate
    → member_of m ≡ record { name = name; short = λ c. get_or shorts c 0; aggregate = aggregate }
member_is m name shorts aggregate n s few a = λ i. record { name = n i; short = λ c. (s c ∙ ap (λ xs. get_or xs c 0) (take_all most_currencies shorts few)) i; aggregate = a i }
