-- One position put: what becomes of a column of the book.
use Rattle.std.proofs.Common.{◌≡◌, ℕ, ◌+◌, ◌-◌, ◌⊎◌, ℤ, pos, ◌+ℤ◌, ◌-ℤ◌, sym, refl, ap, ◌∙◌, subst, inl, inr, arith}
use borrow.Author.Differences.{ints}
use Rattle.std.proofs.lemmas.Bool.{cases_eq}
use Rattle.rules.specs.Books.{raised, lowered, credited, debited}
use Rattle.rules.proofs.Sum.{only_here, only_elsewhere, same_table}
use Rattle.book.specs.declared.table.Book.{Book}
use Rattle.book.specs.declared.row.Row.{Row}
use Rattle.book.specs.declared.position.Position.{Position}
use Rattle.book.specs.Rows.{in_row, position, Put}

module _ {X : Type 0} (f : Position → X) (old new : Book) (m c : ℕ) (q : Position) (put : Put old new m c q) where
  put_else : (m' c' : ℕ) → (m' ≡ m → ⊥) ⊎ (c' ≡ c → ⊥) → f (position new m' c') ≡ f (position old m' c')
  put_else m' c' h = elim (cases_eq m' m) [
    | inl e ↦ elim h [
      | inl n ↦ absurd (n e)
      | inr n ↦ subst (λ (x : ℕ). f (position new x c') ≡ f (position old x c')) (sym e) (ap f (put.currency c' n))
    ]
    | inr n ↦ ap (λ (r : Row). f (in_row r c')) (put.member m' n)
  ]

  -- a table g that is as before but at the place, and there what the new position has
  pub put_table : (g : ℕ → ℕ → X) → g m c ≡ f q → ((m' c' : ℕ) → (m' ≡ m → ⊥) ⊎ (c' ≡ c → ⊥) → g m' c' ≡ f (position old m' c')) → (λ m' c'. f (position new m' c')) ≡ g
  put_table g here there = same_table (λ m' c'. f (position new m' c')) g (λ m' c'. elim (cases_eq m' m) [
    | inl e ↦ elim (cases_eq c' c) [
      | inl d ↦ subst (λ (x : ℕ). f (position new x c') ≡ g x c') (sym e) (subst (λ (y : ℕ). f (position new m y) ≡ g m y) (sym d) (ap f put.here ∙ sym here))
      | inr n ↦ put_else m' c' (inr n) ∙ sym (there m' c' (inr n))
    ]
    | inr n ↦ put_else m' c' (inl n) ∙ sym (there m' c' (inl n))
  ])

  pub put_kept : f q ≡ f (position old m c) → ◌≡◌ {A = ℕ → ℕ → X} (λ m' c'. f (position new m' c')) (λ m' c'. f (position old m' c'))
  put_kept e = put_table (λ m' c'. f (position old m' c')) (sym e) (λ m' c' h. refl)

module _ (old new : Book) (m c : ℕ) (q : Position) (put : Put old new m c q) (a : ℕ) where
  pub put_credited : (f : Position → ℤ) → f q ≡ f (position old m c) +ℤ pos a → (λ m' c'. f (position new m' c')) ≡ credited (λ m' c'. f (position old m' c')) m c a
  put_credited f e = put_table f old new m c q put (credited (λ m' c'. f (position old m' c')) m c a)
      (let z = only_here m c a in omega (arith, ints))
      (λ m' c' h. let z = only_elsewhere m c a m' c' h in omega (arith, ints))

  pub put_debited : (f : Position → ℤ) → f q ≡ f (position old m c) -ℤ pos a → (λ m' c'. f (position new m' c')) ≡ debited (λ m' c'. f (position old m' c')) m c a
  put_debited f e = put_table f old new m c q put (debited (λ m' c'. f (position old m' c')) m c a)
      (let z = only_here m c a in omega (arith, ints))
      (λ m' c' h. let z = only_elsewhere m c a m' c' h in omega (arith, ints))

  pub put_raised : (f : Position → ℕ) → f q ≡ f (position old m c) + a → (λ m' c'. f (position new m' c')) ≡ raised (λ m' c'. f (position old m' c')) m c a
  put_raised f e = put_table f old new m c q put (raised (λ m' c'. f (position old m' c')) m c a)
      (let z = only_here m c a in omega arith)
      (λ m' c' h. let z = only_elsewhere m c a m' c' h in omega arith)

  pub put_lowered : (f : Position → ℕ) → f q ≡ f (position old m c) - a → (λ m' c'. f (position new m' c')) ≡ lowered (λ m' c'. f (position old m' c')) m c a
  put_lowered f e = put_table f old new m c q put (lowered (λ m' c'. f (position old m' c')) m c a)
      (let z = only_here m c a in omega arith)
      (λ m' c' h. let z = only_elsewhere m c a m' c' h in omega arith)
