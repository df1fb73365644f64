-- What a single book and a split hold.
use Rattle.std.specs.Prelude.{ℕ, Result, slice_index_or}
use Rattle.rules.specs.Nostro.{together}
use Rattle.refusal.specs.declared.refused.Refusal.{Refusal}
use Rattle.nostro.specs.declared.single.SingleBook.{SingleBook}
use Rattle.nostro.specs.declared.split.Split.{Split}
use Rattle.nostro.specs.Cash.{PartsReceived, PartsPaid}

abbrev pub booked : SingleBook → ℕ → ℕ
booked x c = (slice_index_or x.cash c (record { 0 = 0 })).0

abbrev pub first_part : {A B : Type 0} → Split A B → A
first_part x = x.first

abbrev pub second_part : {A B : Type 0} → Split A B → B
second_part x = x.second

-- over the cash of a first part and of a second
module _ {A B : Type 0} (first : A → ℕ → ℕ) (second : B → ℕ → ℕ) where
  abbrev pub both : Split A B → ℕ → ℕ
  both x = together (first x.first) (second x.second)

  -- what a receipt and a payment do to each part
  abbrev pub PartsReceive : Split A B → ℕ → ℕ → Split A B → Result Unit Refusal → Type 0
  PartsReceive x c amount y r = PartsReceived (first x.first) (second x.second) c amount (first y.first) (second y.second) r

  abbrev pub PartsPay : Split A B → ℕ → ℕ → Split A B → Result Unit Refusal → Type 0
  PartsPay x c amount y r = PartsPaid (first x.first) (second x.second) c amount (first y.first) (second y.second) r
