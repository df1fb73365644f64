-- A whole file that is read and written again.
use Rattle.std.proofs.Common.{◌≡◌, ℕ, ◌+◌, ◌*◌, ◌^◌, ◌<◌, false, eqb, List, [], ◌∷◌, ◌++◌, length, take, None, sym, refl, ap, ◌∙◌, ⊎_elim, zero-add, arith, lit<}
use Rattle.std.specs.List.{flat_map, AllByRecursion}
use Rattle.std.proofs.ByRecursion.{All-get_or}
use Rattle.std.proofs.lemmas.List.{length-append, length-take-le, get_or_past, take_all}
use Rattle.std.proofs.lemmas.Bool.{not_from_true, eq-eqb, cases_lt, cond_both}
use Rattle.rules.proofs.Firsts.{none_first}
use Rattle.rules.specs.Below.{listed}
use Rattle.rules.specs.FileForm.{byte, two_bytes, four_bytes, eight_bytes, currencies_in, members_in, instructions_in, steps_in, currency_at, member_at, instruction_at, step_at, member_size, form_refusal}
use Rattle.rules.specs.FileRecords.{part, currency_in, member_in, instruction_in, step_in, step_from}
use Rattle.dayfile.proofs.Parts.{length_part}
use Rattle.dayfile.proofs.Formed.{whole, counted, currency_ends, member_ends, instruction_ends, step_ends, known, shorts_count}
use Rattle.dayfile.proofs.Listed.{length_listed, all_listed, joined_same}
use Rattle.dayfile.proofs.Few.{few_counts}
use Rattle.rules.specs.FileWriting.{number_bytes, currency_bytes, member_bytes, instruction_bytes, step_bytes, count_bytes, day_bytes, code_wrong, name_wrong, shorts_wrong, fault_cases, writing_fault}
use Rattle.rules.specs.FileAgain.{day_in, CurrencyFits, MemberFits, InstructionFits, StepFits, Fits, cleared_step, cleared, Clear, ReadIsWrittenAgain}
use Rattle.daywriter.proofs.WholeFile.{written_reads_back}
use Rattle.daywriter.proofs.Standing.{Stands, all_stand, two_stands, nth_stand}
use Rattle.daywriter.proofs.ReadBack.{length_instruction}
use Rattle.daywriter.proofs.WrittenAgain.{then, part_stands, name_right, currency_again, member_again, instruction_again, step_again}
use Rattle.daywriter.proofs.Faultless.{none_from_all}

module _ (f : List ℕ) (bytes : AllByRecursion (λ b. b < 256) f) (e : form_refusal f ≡ None) where
  front_bytes : List ℕ
  front_bytes = count_bytes (day_in f) ++ flat_map currency_bytes (day_in f).currencies ++ flat_map member_bytes (day_in f).members ++ flat_map instruction_bytes (day_in f).instructions

  counts_stand : (length (count_bytes (day_in f)) ≡ 8) × Stands f 0 (count_bytes (day_in f))
  unfolding number_bytes
  counts_stand =
      let w = whole f e in
      let xs : List (ℕ × ℕ) = (2, currencies_in f) ∷ (2, members_in f) ∷ (2, instructions_in f) ∷ (2, steps_in f) ∷ [] in
      let counts = all_stand f 0 0 xs (omega arith) (two_stands f 0 bytes (omega arith), (two_stands f 2 bytes (omega arith), (two_stands f 4 bytes (omega arith), (two_stands f 6 bytes (omega arith), tt)))) in
      rw (length_listed (currencies_in f) (currency_in f), length_listed (members_in f) (member_in f), length_listed (instructions_in f) (instruction_in f), length_listed (steps_in f) (step_in f)) (refl, counts)

  front_stands : (length front_bytes ≡ step_at f 0) × Stands f 0 front_bytes
  unfolding front_bytes currency_in member_in instruction_in
  front_stands =
      let w = whole f e in
      let x0 = count_bytes (day_in f) in
      let x1 = flat_map currency_bytes (day_in f).currencies in
      let x2 = flat_map member_bytes (day_in f).members in
      let x3 = flat_map instruction_bytes (day_in f).instructions in
      let at1 = currency_at f (currencies_in f) in
      let at2 = member_at f (members_in f) in
      let cs = nth_stand currency_bytes 10 f 8 (currencies_in f) (currency_in f) (omega arith) (λ k b. currency_again f bytes (currency_at f k) (currency_ends f k e b)) in
      let ms = nth_stand member_bytes (member_size f) f at1 (members_in f) (member_in f) (omega arith) (λ k b. member_again f bytes (currencies_in f) (member_at f k) (omega (arith, member_ends f k e b))) in
      let xs = nth_stand instruction_bytes 16 f at2 (instructions_in f) (instruction_in f) (omega arith) (λ k b. (length_instruction (instruction_in f k), instruction_again f bytes (instruction_at f k) (instruction_ends f k e b))) in
      let l1 : length (x0 ++ x1) ≡ at1 = length-append x0 x1 ∙ omega (arith, counts_stand.0, cs.0) in
      let l2 : length (x0 ++ x1 ++ x2) ≡ at2 = length-append (x0 ++ x1) x2 ∙ omega (arith, ms.0) in
      let l3 : length (x0 ++ x1 ++ x2 ++ x3) ≡ step_at f 0 = length-append (x0 ++ x1 ++ x2) x3 ∙ omega (arith, xs.0) in
      let s1 = then 8 f 0 x0 x1 counts_stand.0 counts_stand.1 cs.1 in
      let s2 = then at1 f 0 (x0 ++ x1) x2 l1 s1 (rw (zero-add at1) ms.1) in
      (l3, then at2 f 0 (x0 ++ x1 ++ x2) x3 l2 s2 (rw (zero-add at2) xs.1))

  again : day_bytes (day_in f) ≡ cleared f
  unfolding day_bytes cleared front_bytes step_in
  again =
      let front : front_bytes ≡ take (step_at f 0) f = sym (rw front_stands.0 at front_stands.1.1) in
      let steps = joined_same step_bytes (cleared_step f) (steps_in f) (step_in f) (step_at f) (λ k b. step_again f bytes (step_at f k) (step_ends f k e b) (known f k e b)) in
      rw (steps) (ap (λ (l : List ℕ). l ++ flat_map (cleared_step f) (listed (steps_in f) (step_at f))) front)

  no_fault : writing_fault (day_in f) ≡ None
  unfolding writing_fault currency_in member_in
  no_fault =
      let few = counted f e in
      let n = currencies_in f in
      let c = length_listed (currencies_in f) (currency_in f) in
      let m = length_listed (members_in f) (member_in f) in
      let i = length_listed (instructions_in f) (instruction_in f) in
      let t = length_listed (steps_in f) (step_in f) in
      none_first (fault_cases (day_in f)) (
        few_counts (length (day_in f).currencies) (length (day_in f).members) (length (day_in f).instructions) (length (day_in f).steps) (omega arith) (omega arith) (omega arith) (omega arith),
        (
          none_from_all code_wrong (day_in f).currencies (all_listed (λ x. code_wrong x ≡ false) n (currency_in f) (λ k b.
              not_from_true _ (eq-eqb _ 3 (length_part f (currency_at f k) 3 (omega (arith, currency_ends f k e b)))))),
          (
            none_from_all name_wrong (day_in f).members (all_listed (λ x. name_wrong x ≡ false) (members_in f) (member_in f) (λ k b.
                name_right (member_in f k) (part f (member_at f k) 16) (length_part f (member_at f k) 16 (omega (arith, member_ends f k e b))) refl)),
            (
              none_from_all (shorts_wrong (length (day_in f).currencies)) (day_in f).members (all_listed (λ x. shorts_wrong (length (day_in f).currencies) x ≡ false) (members_in f) (member_in f) (λ k b.
                  not_from_true _ (eq-eqb _ _ (shorts_count f k ∙ sym c)))),
              tt,
            ),
          ),
        ),
      )

  -- each number of the file fits its field
  byte_fits : (i : ℕ) → byte f i < 2 ^ 8
  byte_fits i = ⊎_elim (λ within. All-get_or (λ b. b < 256) f i 0 within bytes) (λ past. rw (get_or_past f i 0 past) (lit< tt)) (cases_lt i (length f))

  two_fits : (i : ℕ) → two_bytes f i < 2 ^ 16
  two_fits i = omega (arith, byte_fits i, byte_fits (i + 1))

  four_fits : (i : ℕ) → four_bytes f i < 2 ^ 32
  four_fits i = omega (arith, two_fits i, two_fits (i + 2))

  eight_fits : (i : ℕ) → eight_bytes f i < 2 ^ 64
  eight_fits i = omega (arith, four_fits i, four_fits (i + 4))

  step_from_fits : (i : ℕ) → StepFits (step_from f i)
  step_from_fits i =
      cond_both (eqb (byte f i) 1) _ _ StepFits (λ _. (byte_fits (i + 1), byte_fits (i + 2), four_fits (i + 4))) (λ _.
      cond_both (eqb (byte f i) 2) _ _ StepFits (λ _. byte_fits (i + 3)) (λ _.
      cond_both (eqb (byte f i) 3) _ _ StepFits (λ _. tt) (λ _. (byte_fits (i + 1), byte_fits (i + 2), four_fits (i + 4)))))

  all_fit : Fits (day_in f)
  unfolding currency_in member_in instruction_in step_in
  all_fit = record {
    currencies = all_listed CurrencyFits (currencies_in f) (currency_in f) (λ k b. let i = currency_at f k in (byte_fits (i + 3), four_fits (i + 4), two_fits (i + 8)));
    members = all_listed MemberFits (members_in f) (member_in f) (λ k b. let i = member_at f k in (eight_fits (i + 16), all_listed (λ x. x < 2 ^ 32) (currencies_in f) (λ c. four_bytes f (i + 24 + 4 * c)) (λ c b. four_fits (i + 24 + 4 * c))));
    instructions = all_listed InstructionFits (instructions_in f) (instruction_in f) (λ k b. let i = instruction_at f k in (byte_fits i, byte_fits (i + 1), byte_fits (i + 2), byte_fits (i + 3), four_fits (i + 4), four_fits (i + 8), four_fits (i + 12)));
    steps = all_listed StepFits (steps_in f) (step_in f) (λ k b. step_from_fits (step_at f k));
  }

  -- a file whose steps are clear is as it is
  unchanged : Clear f → cleared f ≡ f
  unfolding cleared
  unchanged clear =
      let w = whole f e in
      let a = step_at f 0 in
      let steps = nth_stand (cleared_step f) 8 f a (steps_in f) (step_at f) (omega arith) (λ k b.
      let ends = step_ends f k e b in
      let at : a + 8 * k ≡ step_at f k = omega arith in
      rw (at, clear k b) (length_part f (step_at f k) 8 ends, part_stands f (step_at f k) 8 ends)) in
      let front : length (take a f) ≡ a = length-take-le a f (omega arith) in
      let all = then a f 0 (take a f) (flat_map (cleared_step f) (listed (steps_in f) (step_at f))) front (rw front (omega arith, refl)) (rw (zero-add a) steps.1) in
      let long : length (take a f ++ flat_map (cleared_step f) (listed (steps_in f) (step_at f))) ≡ length f = length-append (take a f) (flat_map (cleared_step f) (listed (steps_in f) (step_at f))) ∙ omega (arith, steps.0) in
      sym (rw long at all.1) ∙ take_all (length f) f (omega arith)

pub read_is_written_again : ReadIsWrittenAgain
read_is_written_again f bytes e =
    let faultless = no_fault f bytes e in
    let written = again f bytes e in
    record {
      faultless = faultless;
      written = written;
      read = rw (← written) (written_reads_back (day_in f) faultless (all_fit f bytes e));
      itself = λ clear. written ∙ unchanged f bytes e clear;
    }
