-- A book's positions, by member and currency.
use Rattle.std.specs.Prelude.{◌≡◌, ℕ, ◌<◌, List, [], pos, ◌+ℤ◌, vec_items, vec_len, ◌≢◌, slice_index_or}
use Rattle.std.proofs.Common.{lit≤}
use Rattle.rules.specs.Bounds.{most_currencies}
use Rattle.book.specs.declared.position.Position.{Position}
use Rattle.book.specs.declared.row.Row.{Row}
use Rattle.book.specs.declared.table.Book.{Book}

-- the position of a member that has done nothing; also what stands off the roster and off the sheet
abbrev pub nothing : Position
nothing = record { account = record { 0 = pos 0 }; reserved = record { 0 = 0 }; paid_in = record { 0 = 0 }; paid_out = record { 0 = 0 }; sound = (record { le = tt }, record { le = tt }, lit≤ tt, lit≤ tt) }

abbrev pub in_row : Row → ℕ → Position
in_row r c = slice_index_or r.positions c nothing

abbrev pub row_at : Book → ℕ → Row
row_at b m = slice_index_or (vec_items b.rows) m (record { positions = [] })

abbrev pub position : Book → ℕ → ℕ → Position
position b m c = in_row (row_at b m) c

-- one position is put, and nothing else changes
pub record Put (old new : Book) (m c : ℕ) (p : Position) : Type 0 where
  pub len : vec_len new.rows ≡ vec_len old.rows
  pub here : position new m c ≡ p
  pub currency : (k : ℕ) → (k ≢ c) → position new m k ≡ position old m k
  pub member : (q : ℕ) → (q ≢ m) → row_at new q ≡ row_at old q

-- m is a row of the book, and c a currency number
abbrev pub Holds : Book → ℕ → ℕ → Type 0
Holds b m c = (m < vec_len b.rows) × (c < most_currencies)

-- what is reserved is back in the account, and nothing else changes
pub record Lapsed (p q : Position) : Type 0 where
  pub account_is : q.account.0 ≡ p.account.0 +ℤ pos p.reserved.0
  pub reserved_is : q.reserved.0 ≡ 0
  pub in_is : q.paid_in.0 ≡ p.paid_in.0
  pub out_is : q.paid_out.0 ≡ p.paid_out.0

-- every row is that of a member that has done nothing
abbrev pub Untouched : List Row → Type 0
Untouched rows = (m c : ℕ) → in_row (slice_index_or rows m (record { positions = [] })) c ≡ nothing
