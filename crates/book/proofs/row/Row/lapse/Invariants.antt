use Rattle.std.proofs.Common.{◌≡◌, ℕ, ◌<◌, ◌≤◌, get_or}
use Rattle.book.specs.Rows.{nothing, Lapsed}
use Rattle.book.proofs.row.Row.lapse.Given as goal

abbrev pub invariant-loop-position : goal.invariant-loop-position
invariant-loop-position l =
    ((k : ℕ) → k < l.position-index → Lapsed (get_or l.initial.position-items k nothing) (get_or l.position-items k nothing))
    × ((k : ℕ) → l.position-index ≤ k → get_or l.position-items k nothing ≡ get_or l.initial.position-items k nothing)
