-- The roster of a day, and what an addition to it does.
use Rattle.std.specs.Prelude.{ℕ, ◌+◌, Bool, not, ◌&&◌, ◌||◌, List, [], ◌∷◌, length, Some, None, ◌==◌, nat_le, nat_lt, slice_index}
use Rattle.std.specs.Str.{bytes_eq}
use Rattle.rules.specs.Bounds.{most_members, most_units, most_marks}
use Rattle.rules.specs.First.{Case}
use Rattle.rules.specs.Below.{some_below, with_at}
use Rattle.rules.specs.Refusals.{Refusal, cause, roster}

-- a member: its name, how short it may be in each currency, in units, and over all of them, in marks
pub record Member : Type 0 where
  pub name : List ℕ
  pub short : ℕ → ℕ
  pub aggregate : ℕ

-- how many members there are, and each by its number
pub record Roster : Type 0 where
  pub members : ℕ
  pub member : ℕ → Member

-- a byte that no name has
abbrev pub stray : ℕ → Bool
stray b = nat_lt b 33 || nat_lt 126 b

-- a name is 1 to 16 bytes from 33 to 126
abbrev pub is_name : List ℕ → Bool
is_name name = nat_le 1 (length name) && (nat_le (length name) 16 && not (some_below (length name) (λ k. stray (slice_index name k))))

-- a member of the roster has this name
abbrev pub name_taken : Roster → List ℕ → Bool
name_taken r name = some_below r.members (λ m. bytes_eq (r.member m).name name)

-- a limit is above its range
abbrev pub limits_out_of_range : List ℕ → ℕ → Bool
limits_out_of_range shorts aggregate = nat_lt most_marks aggregate || some_below (length shorts) (λ k. nat_lt most_units (slice_index shorts k))

-- why an addition is refused, over a sheet of n currencies: the refusal names the number that the member would have had
abbrev pub adding_causes : ℕ → Roster → List ℕ → List ℕ → ℕ → List (Case Refusal)
adding_causes n r name shorts aggregate =
    cause 5 roster (Some r.members) None (nat_le most_members r.members)
    ∷ cause 6 roster (Some r.members) None (not (is_name name))
    ∷ cause 6 roster (Some r.members) None (name_taken r name)
    ∷ cause 7 roster (Some r.members) None (not (length shorts == n))
    ∷ cause 8 roster (Some r.members) None (limits_out_of_range shorts aggregate)
    ∷ []

-- the roster with one member more, under the next number; the short limits are listed by currency number
abbrev pub with_member : Roster → List ℕ → List ℕ → ℕ → Roster
with_member r name shorts aggregate = record {
  members = r.members + 1;
  member = with_at r.member r.members (record { name = name; short = λ c. slice_index shorts c; aggregate = aggregate });
}
