-- Instructions submitted one after another.
use Rattle.std.proofs.Common.{◌≡◌, ℕ, ◌+◌, ◌<◌, ◌≤◌, List, map, length, get_or, drop, Some, None, Ok, Err, Option, Result, sym, ap, ◌∙◌, arith}
use Rattle.std.proofs.lemmas.List.{at_drop_more, at_drop_all}
use Rattle.rules.specs.First.{first_of}
use Rattle.rules.specs.Refusals as rules
use Rattle.rules.specs.Matching as matching
use Rattle.rules.specs.Matching.{Terms, Book, instruction_causes, taken_in}
use Rattle.rules.specs.MatchingLaws.{by_answer, after_one, after_all}
use Rattle.refusal.specs.declared.refused.Refusal.{Refusal}
use Rattle.refusal.specs.Answer.{Answers}
use Rattle.intake.specs.declared.instruction.Instruction.{Instruction}
use Rattle.intake.specs.Books.{no_instruction, instruction_of}

-- what a submission leaves, whether it is refused or not
pub answered : (t : Terms) (b new : Book) (i : matching.Instruction) (r : Result Unit Refusal) → Answers (instruction_causes t b i) b (taken_in t b i) new r → new ≡ after_one t b i
answered t b new i (Ok _) e = e.1 ∙ ap (λ (o : Option rules.Refusal). by_answer o b (taken_in t b i)) (sym e.0)
answered t b new i (Err x) e = e.1 ∙ ap (λ (o : Option rules.Refusal). by_answer o b (taken_in t b i)) (sym e.0)

-- kept instructions stay
pub no_fewer : (t : Terms) (b : Book) (i : matching.Instruction) → b.kept ≤ (after_one t b i).kept
no_fewer t b i = go (first_of (instruction_causes t b i))
  where
    go : (o : Option rules.Refusal) → b.kept ≤ (by_answer o b (taken_in t b i)).kept
    go (Some _) = omega arith
    go None = omega arith

-- what is left of the list takes the book to the same end
abbrev pub left : Terms → Book → ℕ → List Instruction → Book
left t b k is = after_all t b (map instruction_of (drop k is))

pub one_more : (t : Terms) (b new end : Book) (is : List Instruction) (k : ℕ) → k < length is → new ≡ after_one t b (instruction_of (get_or is k no_instruction)) → left t b k is ≡ end → left t new (k + 1) is ≡ end
one_more t b new end is k l e h =
    ap (λ (x : Book). left t x (k + 1) is) e
    ∙ sym (at_drop_more (λ (js : List Instruction). after_all t b (map instruction_of js)) is k no_instruction l)
    ∙ h

pub all_done : (t : Terms) (b end : Book) (is : List Instruction) (k : ℕ) → length is ≤ k → left t b k is ≡ end → b ≡ end
all_done t b end is k l h = sym (at_drop_all (λ (js : List Instruction). after_all t b (map instruction_of js)) is k l) ∙ h
