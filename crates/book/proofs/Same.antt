-- Two positions with the same fields are the same.
use Rattle.std.proofs.Common.{◌≡◌, pos, lit≤}
use native.Mathlib.Bridge.{le_prop}
use Rattle.book.specs.Ranges.{InRange}
use Rattle.book.specs.declared.position.Position.{Position}
use Rattle.book.specs.Rows.{nothing}

pub nothing_is : (h : InRange (pos 0) 0 0 0) → ◌≡◌ {A = Position} (record { account = record { 0 = pos 0 }; reserved = record { 0 = 0 }; paid_in = record { 0 = 0 }; paid_out = record { 0 = 0 }; sound = h }) nothing
nothing_is h = λ i. record { account = record { 0 = pos 0 }; reserved = record { 0 = 0 }; paid_in = record { 0 = 0 }; paid_out = record { 0 = 0 }; sound = (h.0, h.1, le_prop h.2 (lit≤ tt) i, le_prop h.3 (lit≤ tt) i) }
