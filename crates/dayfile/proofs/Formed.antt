-- What is known of a file with whose form nothing is wrong.
use Rattle.std.proofs.Common.{◌≡◌, ℕ, ◌+◌, ◌*◌, ◌<◌, ◌≤◌, true, List, length, Some, None, Option, MatchOption, mul-le-mul_left, mul-suc, arith}
use Rattle.std.proofs.lemmas.Bool.{not-false}
use Rattle.std.proofs.lemmas.Bool.Decides.{nat_tests}
use Rattle.rules.proofs.Firsts.{first_none}
use Rattle.dayfile.specs.Answer.{Nth}
use Rattle.rules.specs.FileRecords.{member_in}
use Rattle.dayfile.proofs.Few.{few_from}
use Rattle.dayfile.proofs.Listed.{length_listed, never_of}
use Rattle.rules.specs.FileForm.{currencies_in, members_in, instructions_in, steps_in, member_size, currency_at, member_at, instruction_at, step_at, byte, known_kind, kind_cause, form_causes, form_refusal}

-- it is as long as its counts give
pub whole : (f : List ℕ) → form_refusal f ≡ None → length f ≡ step_at f (steps_in f)
unfolding form_refusal
whole f e = let never = first_none (form_causes f) e in let h = never.1.1.0 in grind (arith, nat_tests)

-- no count is above its most
pub counted : (f : List ℕ) → form_refusal f ≡ None → (currencies_in f ≤ 24) × (members_in f ≤ 32) × (instructions_in f ≤ 1024) × (steps_in f ≤ 2000)
unfolding form_refusal
counted f e = few_from (currencies_in f) (members_in f) (instructions_in f) (steps_in f) (first_none (form_causes f) e).1.0

-- each of its records ends within it
pub currency_ends : (f : List ℕ) (i : ℕ) → form_refusal f ≡ None → i < currencies_in f → currency_at f i + 10 ≤ length f
currency_ends f i e h = omega (arith, whole f e)

-- a member's record ends before the next begins
ends_before : (size i m : ℕ) → i < m → size * i + size ≤ size * m
ends_before size i m h = rw (← mul-suc size i) (mul-le-mul_left size h)

pub member_ends : (f : List ℕ) (i : ℕ) → form_refusal f ≡ None → i < members_in f → member_at f i + member_size f ≤ length f
member_ends f i e h = omega (arith, whole f e, ends_before (member_size f) i (members_in f) h)

pub instruction_ends : (f : List ℕ) (i : ℕ) → form_refusal f ≡ None → i < instructions_in f → instruction_at f i + 16 ≤ length f
instruction_ends f i e h = omega (arith, whole f e)

pub step_ends : (f : List ℕ) (i : ℕ) → form_refusal f ≡ None → i < steps_in f → step_at f i + 8 ≤ length f
step_ends f i e h = omega (arith, whole f e)

-- a member has a short limit for each currency, in a file of any form
pub shorts_count : (f : List ℕ) (i : ℕ) → length (member_in f i).shorts ≡ currencies_in f
unfolding member_in
shorts_count f i = length_listed (currencies_in f) _

-- the kind of each step is known
pub known : (f : List ℕ) (i : ℕ) → form_refusal f ≡ None → i < steps_in f → known_kind (byte f (step_at f i)) ≡ true
unfolding form_refusal
known f i e h = let never = first_none (form_causes f) e in not-false _ (never_of (kind_cause f) (steps_in f) i never.1.1.1 h)

-- what is read of a block where it stands is what the rules read there
pub read_there : {A B : Type 0} (of : A → B) (says : A → Type 0) (f : List ℕ) (n i end : ℕ) (x : B) (r : Option A) → MatchOption r (n ≤ i) (λ y. (i < n) × says y) → (i < n → end ≤ length f) → ((y : A) → i < n → says y → of y ≡ x) → Nth of f n i end x r
read_there of says f n i end x None h ends same = h
read_there of says f n i end x (Some y) h ends same = (h.0, ends h.0, same y h.0 h.1)
