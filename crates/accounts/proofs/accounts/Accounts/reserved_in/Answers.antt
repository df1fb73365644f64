use Rattle.std.proofs.Common.{rules, ◌≡◌, ℕ, zero, suc, ◌+◌, ◌*◌, ◌≤◌, ◌^◌, length, List, [], ◌∷◌, get_or, vec_items, vec_len, refl, sym, ap, ◌∙◌, arith}
use Rattle.std.specs.List.{sum_by}
use Rattle.std.proofs.lemmas.Iterator.{YieldsList-from_slice}
use Rattle.std.proofs.lemmas.Iterator.Adapters.{fits_from_length, at_most_from_yields_List}
use Rattle.std.proofs.lemmas.List.Sums.{sum_by-cons}
use Rattle.rules.specs.Bounds.{most_members, most_sum}
use Rattle.rules.specs.Sums.{total}
use Rattle.book.specs.declared.row.Row.{Row}
use Rattle.book.specs.Rows.{in_row, position}
use Rattle.accounts.specs.declared.accounts.Accounts.{Accounts}
use Rattle.accounts.specs.Meaning.{reserve_of}
use Rattle.accounts.proofs.accounts.Accounts.reserved_in.Goals as goal

from_first : (n : ℕ) (f : ℕ → ℕ) → total (suc n) f ≡ f 0 + total n (λ i. f (suc i))
from_first zero f = omega arith
from_first (suc n) f = let h = from_first n f in omega arith

by_place : (f : Row → ℕ) (d : Row) (rows : List Row) → sum_by f rows ≡ total (length rows) (λ m. f (get_or rows m d))
by_place f d [] = refl
by_place f d (r ∷ rows) = sum_by-cons f r rows ∙ ap (λ n. f r + n) (by_place f d rows) ∙ sym (from_first (length rows) (λ m. f (get_or (r ∷ rows) m d)))

bounded : (n : ℕ) (f : ℕ → ℕ) → ((i : ℕ) → f i ≤ most_sum) → total n f ≤ n * most_sum
bounded zero f h = omega arith
bounded (suc n) f h = let a = bounded n f h in let b = h n in omega arith

rows_are : (x : Accounts) → length (vec_items x.book.rows) ≡ vec_len x.members
rows_are x = omega (arith, x.even, x.book.rows.ok)

few : (x : Accounts) (rows : List Row) → rows ≡ vec_items x.book.rows → length rows ≤ most_members
few x rows e = let l = ap length e in let k = rows_are x in omega (arith, x.few)

pub sum-reserved-requires-clause-fits : goal.sum-reserved-requires-clause-fits
sum-reserved-requires-clause-fits c =
    fits_from_length _ _ most_members (2 ^ 64) (at_most_from_yields_List (YieldsList-from_slice c.deref.result.now cc) (few c.args.self.now c.deref.result.now cc)) c.map.ensures.closure (omega arith)
    (λ x r q k. let s = (in_row x.now c.args.c).sound.3 in search rules)

value : (x : Accounts) (c r : ℕ) → r ≡ sum_by (λ row. (in_row row c).reserved.0) (vec_items x.book.rows) → r ≡ total (vec_len x.members) (λ m. reserve_of x m c)
value x c r e = e ∙ by_place (λ row. (in_row row c).reserved.0) (record { positions = [] }) (vec_items x.book.rows) ∙ ap (λ n. total n (λ m. reserve_of x m c)) (rows_are x)

pub returns-clause-value : goal.returns-clause-value
returns-clause-value c = value c.args.self.now c.args.c _ (search rules)

pub returns-clause-bound : goal.returns-clause-bound
returns-clause-bound c =
    let x = c.args.self.now in
    let e = value x c.args.c c.sum-reserved.result (search rules) in
    let b = bounded (vec_len x.members) (λ m. reserve_of x m c.args.c) (λ m. let s = (position x.book m c.args.c).sound.3 in omega arith) in
    let s : c.sum-reserved.result ≤ most_members * most_sum = omega (arith, x.few) in
    search (rules, s)
