-- Rows that nothing was done to.
use Rattle.std.proofs.Common.{◌≡◌, ℕ, eqb, List, [], ◌∷◌, ◌++◌, length, get_or, ap, ◌∙◌}
use Rattle.std.proofs.lemmas.Bool.{cond_both}
use Rattle.rules.proofs.Tables.{pushed_at}
use Rattle.book.specs.declared.position.Position.{Position}
use Rattle.book.specs.declared.row.Row.{Row}
use Rattle.book.specs.Rows.{nothing, in_row, Untouched}

pub none_touched : (rows : List Row) → rows ≡ [] → Untouched rows
none_touched rows e m c = ap (λ (rs : List Row). in_row (get_or rs m (record { positions = [] })) c) e

pub one_more : (rows new : List Row) (x : Row) → new ≡ rows ++ x ∷ [] → Untouched rows → ((c : ℕ) → in_row x c ≡ nothing) → Untouched new
one_more rows new x e h k m c =
    ap (λ (rs : List Row). in_row (get_or rs m (record { positions = [] })) c) e
    ∙ pushed_at (λ (r : Row). in_row r c) rows x (record { positions = [] }) m
    ∙ cond_both (eqb m (length rows)) (in_row x c) (in_row (get_or rows m (record { positions = [] })) c) (λ (p : Position). p ≡ nothing) (λ _. k c) (λ _. h m c)
