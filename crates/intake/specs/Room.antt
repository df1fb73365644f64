-- Memory that is found at the start.
use Rattle.std.specs.Prelude.{◌≡◌, ℕ, ◌≤◌, vec_len, vec_capacity, Vec}
use Rattle.std.specs.declared.alloc.Global.{Global}

-- an empty list that can take so many items
abbrev pub EmptyFor : {A : Type 0} → ℕ → Vec A Global → Type 0
EmptyFor most v = (vec_len v ≡ 0) × (most ≤ vec_capacity v)
