-- The house numbers, each named once.
use Rattle.std.specs.Prelude.{ℕ}

-- units: the largest amount, the largest short limit, and the most that account plus reservations may be
abbrev pub most_units : ℕ
most_units = 1000000000

-- units: the most that a nostro holds, that a member pays in, and that it reserves and pays out, of one currency in a day
abbrev pub most_sum : ℕ
most_sum = 1000000000000

-- marks: the largest aggregate limit
abbrev pub most_marks : ℕ
most_marks = 1000000000000000000

-- how many currencies, members and instructions a day has at most
abbrev pub most_currencies : ℕ
most_currencies = 24

abbrev pub most_members : ℕ
most_members = 32

abbrev pub most_instructions : ℕ
most_instructions = 1024

-- marks for one unit
abbrev pub most_rate : ℕ
most_rate = 200000

-- thousandths
abbrev pub most_haircut : ℕ
most_haircut = 500

abbrev pub most_instalments : ℕ
most_instalments = 5

abbrev pub last_hour : ℕ
last_hour = 5
