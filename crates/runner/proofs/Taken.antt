-- What an instruction's submission leaves and answers: one that is refused is not kept.
use Rattle.std.proofs.Common.{◌≡◌, ℕ, List, Ok, Err, Result, refl, subst}
use Rattle.rules.specs.First.{first_of}
use Rattle.rules.specs.Matching.{Instruction, Terms, Book, instruction_causes, taken_in}
use Rattle.rules.specs.FileRecords.{instruction_in}
use Rattle.rules.specs.FileDay.{terms_in, kept_unless, instruction_refusal, next_book}
use Rattle.refusal.specs.declared.refused.Refusal.{Refusal}
use Rattle.refusal.specs.Answer.{Answers}
use Rattle.runner.specs.Sessions.{refused}

abbrev Left : Terms → Book → Book → Instruction → Result (Unit {0}) Refusal → Type 0
Left t b new x r = (new ≡ kept_unless (first_of (instruction_causes t b x)) t b x) × (refused r ≡ first_of (instruction_causes t b x))

left : (t : Terms) (b new : Book) (x : Instruction) (r : Result (Unit {0}) Refusal) → Answers (instruction_causes t b x) b (taken_in t b x) new r → Left t b new x r
left t b new x (Ok _) h = rw h.0 (h.1, refl)
left t b new x (Err e) h = rw h.0 (h.1, refl)

pub taken : (f : List ℕ) (i : ℕ) (t : Terms) (b new : Book) (x : Instruction) (r : Result (Unit {0}) Refusal) → t ≡ terms_in f → x ≡ instruction_in f i → Answers (instruction_causes t b x) b (taken_in t b x) new r → (new ≡ next_book f b i) × (refused r ≡ instruction_refusal f b i)
taken f i t b new x r p q h = subst (λ (u : Terms). Left u b new (instruction_in f i) r) p (subst (λ (y : Instruction). Left t b new y r) q (left t b new x r h))
