-- The lines of a day, one record after the other.
use Rattle.std.proofs.Common.{◌≡◌, ℕ, ◌+◌, List, ◌++◌, sym, refl, ap, ◌∙◌, append_assoc, append-nil, add-one}
use Rattle.rules.specs.Setting.{Setting}
use Rattle.rules.specs.Matching.{Book}
use Rattle.rules.specs.Books.{Books, closed}
use Rattle.rules.specs.Statements.{statement_of}
use Rattle.rules.specs.FileForm.{members_in, instructions_in, steps_in}
use Rattle.rules.specs.FileRecords.{step_in}
use Rattle.rules.specs.FileDay.{instruction_refusal, next_book, book_after, setting_in, carried_out, books_after}
use Rattle.rules.specs.Printed.{line_at, refusal_in, instruction_lines, step_lines, statements, day_lines}

-- no instruction, no step and no member yet
pub no_instructions : (f p : List ℕ) → p ≡ p ++ instruction_lines f 0
unfolding instruction_lines
no_instructions f p = sym (append-nil p)

pub no_steps : (f p : List ℕ) → p ≡ p ++ step_lines f 0
unfolding step_lines
no_steps f p = sym (append-nil p)

pub no_statements : (s : Setting) (b : Books) (p : List ℕ) → p ≡ p ++ statements s b 0
unfolding statements
no_statements s b p = sym (append-nil p)

-- one more instruction
pub book_more : (f : List ℕ) (k : ℕ) (old new : Book) → old ≡ book_after f k → new ≡ next_book f old k → new ≡ book_after f (k + 1)
unfolding book_after
book_more f k old new h e = e ∙ ap (λ (b : Book). next_book f b k) h ∙ rw (add-one k) refl

pub instruction_line_more : (f p : List ℕ) (k : ℕ) (old : Book) (text new : List ℕ) → old ≡ book_after f k → text ≡ p ++ instruction_lines f k → new ≡ text ++ line_at k (instruction_refusal f old k) → new ≡ p ++ instruction_lines f (k + 1)
unfolding instruction_lines
instruction_line_more f p k old text new h t e = e ∙ rw (h, t, add-one k) (append_assoc p (instruction_lines f k) (line_at k (instruction_refusal f (book_after f k) k)))

-- one more step
pub books_more : (f : List ℕ) (k : ℕ) (s : Setting) (old new : Books) → s ≡ setting_in f → old ≡ books_after f k → new ≡ (carried_out s old (step_in f k)).books → new ≡ books_after f (k + 1)
unfolding books_after
books_more f k s old new i h e =
    e ∙ ap (λ (x : Setting). (carried_out x old (step_in f k)).books) i ∙ ap (λ (b : Books). (carried_out (setting_in f) b (step_in f k)).books) h ∙ rw (add-one k) refl

pub step_line_more : (f p : List ℕ) (k : ℕ) (s : Setting) (old : Books) (text new : List ℕ) → s ≡ setting_in f → old ≡ books_after f k → text ≡ p ++ step_lines f k → new ≡ text ++ line_at k (refusal_in (carried_out s old (step_in f k)).answer) → new ≡ p ++ step_lines f (k + 1)
unfolding step_lines
step_line_more f p k s old text new i h t e = e ∙ rw (i, h, t, add-one k) (append_assoc p (step_lines f k) (line_at k (refusal_in (carried_out (setting_in f) (books_after f k) (step_in f k)).answer)))

-- one more member
pub statements_more : (s : Setting) (b : Books) (p text new : List ℕ) (k : ℕ) → text ≡ p ++ statements s b k → new ≡ text ++ statement_of s b k → new ≡ p ++ statements s b (k + 1)
unfolding statements
statements_more s b p text new k t e = e ∙ rw (t, add-one k) (append_assoc p (statements s b k) (statement_of s b k))

-- the lines of the whole day
pub whole_day : (f old t1 t2 t3 : List ℕ) (s : Setting) (b : Books) (m : ℕ) → t1 ≡ old ++ instruction_lines f (instructions_in f) → t2 ≡ t1 ++ step_lines f (steps_in f) → t3 ≡ t2 ++ statements s b m → s ≡ setting_in f → b ≡ closed (books_after f (steps_in f)) → m ≡ members_in f → t3 ≡ old ++ day_lines f
whole_day f old t1 t2 t3 s b m e1 e2 e3 p q n = rw (e3, e2, e1, p, q, n) (simp append_assoc)
