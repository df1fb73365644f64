-- What matching comes to, whatever instructions a day brings.
use Rattle.std.specs.Prelude.{◌≡◌, ℕ, ◌+◌, ◌<◌, true, false, List, [], ◌∷◌, Some, None, Option}
use Rattle.rules.specs.First.{first_of}
use Rattle.rules.specs.Refusals.{Refusal}
use Rattle.rules.specs.Matching.{Instruction, Terms, Book, mirrors, same_name, of_pair, pair_from, instruction_causes, taken_in}

-- a refusal leaves the book as it was
abbrev pub by_answer : Option Refusal → Book → Book → Book
by_answer (Some _) before after = before
by_answer None before after = after

-- the book after one instruction
abbrev pub after_one : Terms → Book → Instruction → Book
after_one t b i = by_answer (first_of (instruction_causes t b i)) b (taken_in t b i)

-- the book after a list of instructions, submitted in this order
abbrev pub after_all : Terms → Book → List Instruction → Book
after_all t b [] = b
after_all t b (i ∷ is) = after_all t (after_one t b i) is

-- no instruction is kept and there is no pair
abbrev pub Empty : Book → Type 0
Empty b = (b.kept ≡ 0) × (b.matched ≡ 0)

-- pair x is made of the kept instructions j and k
abbrev pub Joins : Book → ℕ → ℕ → ℕ → Type 0
Joins b x j k = (of_pair (b.pair x) (b.instruction j) ≡ true) × (of_pair (b.pair x) (b.instruction k) ≡ true)

pub record Laws (t : Terms) (b : Book) : Type 0 where
  -- no two kept instructions have one submitter and one reference
  pub names_differ : (j k : ℕ) → j < k → k < b.kept → same_name (b.instruction j) (b.instruction k) ≡ false
  -- two kept instructions are a pair if they are mirrors, and only if
  pub mirrors_join : (j k : ℕ) → j < k → k < b.kept → mirrors (b.instruction j) (b.instruction k) ≡ true → (x : ℕ) × (x < b.matched) × Joins b x j k
  pub only_mirrors_join : (x j k : ℕ) → x < b.matched → j < k → k < b.kept → Joins b x j k → mirrors (b.instruction j) (b.instruction k) ≡ true
  -- each instruction is in at most one pair
  pub one_pair : (j x y : ℕ) → j < b.kept → x < b.matched → y < b.matched
      → of_pair (b.pair x) (b.instruction j) ≡ true → of_pair (b.pair y) (b.instruction j) ≡ true → x ≡ y
  -- each pair is made of two kept instructions that are mirrors: its first party is the one whose instruction came first, and pairs are numbered from 1
  pub first_came_first : (x : ℕ) → x < b.matched → (j : ℕ) × (k : ℕ) × (j < k) × (k < b.kept)
      × (b.pair x ≡ pair_from t.rate (x + 1) (b.instruction j)) × (mirrors (b.instruction j) (b.instruction k) ≡ true)

-- from an empty book, the laws hold after every list of instructions
abbrev pub MatchingPairsMirrors : Type 0
MatchingPairsMirrors = (t : Terms) (b : Book) (is : List Instruction) → Empty b → Laws t (after_all t b is)
