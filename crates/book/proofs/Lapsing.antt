-- Every reservation back in its account: what is done, and what is still to do.
use Rattle.std.proofs.Common.{◌≡◌, ℕ, ◌+◌, ◌<◌, ◌≤◌, List, [], length, get_or, vec_items, sym, refl, ap, subst, inl, inr, arith}
use Rattle.std.proofs.lemmas.List.{get_or_past}
use Rattle.std.proofs.lemmas.Bool.{cases_lt, cases_eq}
use Rattle.book.specs.declared.position.Position.{Position}
use Rattle.book.specs.declared.row.Row.{Row}
use Rattle.book.specs.declared.table.Book.{Book}
use Rattle.book.specs.Rows.{nothing, in_row, row_at, position, Lapsed}

nothing_lapsed : (p q : Position) → p ≡ nothing → q ≡ p → Lapsed p q
nothing_lapsed p q e f = rw (f, e) (record { account_is = refl; reserved_is = refl; in_is = refl; out_is = refl })

pub all_lapsed : (old new : List Position) (n : ℕ) → ((k : ℕ) → k < n → Lapsed (get_or old k nothing) (get_or new k nothing)) → ((k : ℕ) → n ≤ k → get_or new k nothing ≡ get_or old k nothing) → length old ≤ n → (k : ℕ) → Lapsed (get_or old k nothing) (get_or new k nothing)
all_lapsed old new n below above l k = elim (cases_lt k n) [
  | inl h ↦ below k h
  | inr h ↦ nothing_lapsed _ _ (get_or_past old k nothing (omega arith)) (above k h)
]

module _ (old new : Book) (n : ℕ) (below : (m c : ℕ) → m < n → Lapsed (position old m c) (position new m c)) (above : (m : ℕ) → n ≤ m → row_at new m ≡ row_at old m) where
  pub rows_lapsed : length (vec_items old.rows) ≤ n → (m c : ℕ) → Lapsed (position old m c) (position new m c)
  rows_lapsed l m c = elim (cases_lt m n) [
    | inl h ↦ below m c h
    | inr h ↦ nothing_lapsed _ _ (ap (λ (r : Row). in_row r c) (get_or_past (vec_items old.rows) m (record { positions = [] }) (omega arith))) (ap (λ (r : Row). in_row r c) (above m h))
  ]

  -- one row further
  pub row_lapsed : (next : Book) → ((c : ℕ) → Lapsed (position new n c) (position next n c)) → ((m : ℕ) → (m ≡ n → ⊥) → row_at next m ≡ row_at new m) → (m c : ℕ) → m < n + 1 → Lapsed (position old m c) (position next m c)
  row_lapsed next here others m c l = elim (cases_eq m n) [
    | inl e ↦ subst (λ (k : ℕ). Lapsed (position old k c) (position next k c)) (sym e) (subst (λ (r : Row). Lapsed (in_row r c) (position next n c)) (above n (omega arith)) (here c))
    | inr e ↦ subst (λ (r : Row). Lapsed (position old m c) (in_row r c)) (sym (others m e)) (below m c (omega arith))
  ]
