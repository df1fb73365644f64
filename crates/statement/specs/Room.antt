-- How long the parts of a text can be, in bytes.
use Rattle.std.specs.Prelude.{ℕ, ◌+◌, ◌*◌}
use Rattle.rules.specs.Bounds.{most_currencies}

-- how many currencies a statement has at most, and how long a name is
abbrev pub most_entries : ℕ
most_entries = most_currencies

abbrev pub longest_name : ℕ
longest_name = 16

-- a number, and a number with its sign
abbrev pub number_room : ℕ
number_room = 20

abbrev pub signed_room : ℕ
signed_room = 21

-- the lines of a statement
abbrev pub member_room : ℕ
member_room = 24

abbrev pub entry_room : ℕ
entry_room = 108

abbrev pub pairs_room : ℕ
pairs_room = 58

-- the longest statement
abbrev pub room : ℕ
room = member_room + most_entries * entry_room + pairs_room

-- the line of a refusal
abbrev pub refusal_room : ℕ
refusal_room = 128
