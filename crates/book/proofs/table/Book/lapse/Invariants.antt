use Rattle.std.proofs.Common.{◌≡◌, ℕ, ◌<◌, ◌≤◌, [], get_or}
use Rattle.book.specs.Rows.{in_row, Lapsed}
use Rattle.book.proofs.table.Book.lapse.Given as goal

abbrev pub invariant-loop-row : goal.invariant-loop-row
invariant-loop-row l =
    ((m : ℕ) → m < l.row-index → (c : ℕ) → Lapsed (in_row (get_or l.initial.row-items m (record { positions = [] })) c) (in_row (get_or l.row-items m (record { positions = [] })) c))
    × ((m : ℕ) → l.row-index ≤ m → get_or l.row-items m (record { positions = [] }) ≡ get_or l.initial.row-items m (record { positions = [] }))
