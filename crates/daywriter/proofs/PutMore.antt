-- One record more, or one byte more of a number, after what is written.
use Rattle.std.proofs.Common.{◌≡◌, ℕ, zero, suc, ◌+◌, ◌-◌, ◌/◌, ◌%◌, ◌<◌, ◌≤◌, List, [], ◌∷◌, ◌++◌, map, length, get_or, take, drop, min, replicate, IfOk, Result, refl, ap, append_assoc, append-nil, arith}
use Rattle.std.specs.List.{flat_map, AllByRecursion}
use Rattle.std.proofs.ByRecursion.{All-more}
use Rattle.std.proofs.lemmas.List.{take_more, flat_map_more, replicate_more, take_all, drop-replicate, length-replicate}
use Rattle.std.proofs.lemmas.Result.{IfOk-weaker}
use Rattle.dayfile.specs.declared.records.StepRecord.{StepRecord}
use Rattle.dayfile.specs.declared.records.StepRecord.TheVariants.{PayIn, Clock, Settle, PayOut}
use Rattle.daywriter.specs.declared.fields.StepFields.{StepFields}
use Rattle.daywriter.specs.Fields.{fields_of, fields_bytes, FieldsFit}
use Rattle.dayfile.specs.Meaning.{currency_of, instruction_of, step_of}
use Rattle.rules.specs.FileWriting.{number_bytes, count_bytes, currency_bytes, member_bytes, instruction_bytes, step_bytes, day_bytes}
use Rattle.rules.specs.FileAgain.{StepFits}
use Rattle.daywriter.specs.declared.records.DayRecords.{DayRecords}
use Rattle.daywriter.specs.Meaning.{member_of, day_of}

pub more_put : {A : Type 0} (g : A → List ℕ) (out old new : List ℕ) (xs : List A) (i : ℕ) (x : A) → i < length xs → x ≡ get_or xs i x → old ≡ out ++ flat_map g (take i xs) → new ≡ old ++ g x → new ≡ out ++ flat_map g (take (i + 1) xs)
more_put g out old new xs i x h e o n = rw (take_more xs i x h, ← e, n, o) (flat_map_more g out (take i xs) x)

pub more_fit : {A : Type 0} (P : A → Type 0) (xs : List A) (i : ℕ) (x : A) → i < length xs → x ≡ get_or xs i x → AllByRecursion P (take i xs) → P x → AllByRecursion P (take (i + 1) xs)
more_fit P xs i x h e a p = All-more P xs i x h a (rw e at p)

-- a number of which so many bytes are left to write
pub byte_put : (old : List ℕ) (left rest : ℕ) → 0 < left → (old ++ rest % 256 ∷ []) ++ number_bytes (left - 1) (rest / 256) ≡ old ++ number_bytes left rest
unfolding number_bytes
byte_put old zero rest h = absurd (omega arith)
byte_put old (suc left) rest h = let e : suc left - 1 ≡ left = omega arith in rw e (append_assoc old (rest % 256 ∷ []) (number_bytes left (rest / 256)))

pub all_put : (old : List ℕ) (left rest : ℕ) → left ≤ 0 → old ++ number_bytes left rest ≡ old
unfolding number_bytes
all_put old zero rest h = append-nil old
all_put old (suc left) rest h = absurd (omega arith)

-- a name of n bytes, with the spaces up to k
pub space_put : (base old new : List ℕ) (n k : ℕ) → n ≤ k → old ≡ base ++ replicate (k - n) 32 → new ≡ old ++ 32 ∷ [] → new ≡ base ++ replicate (k + 1 - n) 32
space_put base old new n k h o e =
    let more : k + 1 - n ≡ k - n + 1 = omega arith in
    rw (e, o, more, ← replicate_more {X = ℕ} (k - n) 32) (append_assoc base (replicate (k - n) 32) (32 ∷ []))

pub name_put : (base name all out : List ℕ) (k : ℕ) → k - length name ≡ 16 - length name → all ≡ base ++ name → out ≡ all ++ replicate (k - length name) 32 → out ≡ base ++ (name ++ replicate (16 - length name) 32)
name_put base name all out k h a o = rw (o, a, h) (append_assoc base name (replicate (16 - length name) 32))

-- a step, by its kind
pub step_put : {X Y : Type 0} (r : Result X Y) (old new bs : List ℕ) (s t : StepRecord) → s ≡ t → step_bytes (step_of t) ≡ bs → StepFits (step_of t) → IfOk r (λ _. new ≡ old ++ bs) → IfOk r (λ _. (new ≡ old ++ step_bytes (step_of s)) × StepFits (step_of s))
step_put r old new bs s t e b f m = IfOk-weaker r (λ _. new ≡ old ++ bs) (λ _. (new ≡ old ++ step_bytes (step_of s)) × StepFits (step_of s)) (λ _ n. rw (e, b) (n, f)) m

-- a step, by its fields
pub fields_put : (old new : List ℕ) (s : StepRecord) (f : StepFields) → f ≡ fields_of s → (new ≡ old ++ fields_bytes f) × FieldsFit f → (new ≡ old ++ step_bytes (step_of s)) × StepFits (step_of s)
unfolding step_bytes
fields_put old new (PayIn m c a) f e h = let k = rw e at h in (k.0, (k.1.0, k.1.1, k.1.3))
fields_put old new (Clock t) f e h = let k = rw e at h in (k.0, k.1.2)
fields_put old new Settle f e h = let k = rw e at h in (k.0, tt)
fields_put old new (PayOut m c a) f e h = let k = rw e at h in (k.0, (k.1.0, k.1.1, k.1.3))

-- records as they are, or as what they mean
pub joined_map : {A B : Type 0} (of : A → B) (g : B → List ℕ) (xs : List A) → flat_map (λ x. g (of x)) xs ≡ flat_map g (map of xs)
joined_map of g [] = refl
joined_map of g (x ∷ xs) = ap (λ (l : List ℕ). g (of x) ++ l) (joined_map of g xs)

-- all records, kind after kind
pub day_put : (day : DayRecords) (out a b c d e : List ℕ) → a ≡ out ++ count_bytes (day_of day)
    → b ≡ a ++ flat_map (λ x. currency_bytes (currency_of x)) day.currencies.now
    → c ≡ b ++ flat_map (λ x. member_bytes (member_of x)) day.members.now
    → d ≡ c ++ flat_map (λ x. instruction_bytes (instruction_of x)) day.instructions.now
    → e ≡ d ++ flat_map (λ x. step_bytes (step_of x)) day.steps.now
    → e ≡ out ++ day_bytes (day_of day)
unfolding day_bytes
day_put day out a b c d e h0 h1 h2 h3 h4 =
    rw (
      h4,
      h3,
      h2,
      h1,
      h0,
      joined_map currency_of currency_bytes day.currencies.now,
      joined_map member_of member_bytes day.members.now,
      joined_map instruction_of instruction_bytes day.instructions.now,
      joined_map step_of step_bytes day.steps.now,
    )
    (simp append_assoc)

-- the spaces after a name of n bytes
pub spaces_left : (n k : ℕ) → k ≡ min n 16 → take (16 - k) (drop {A = ℕ} k (replicate 16 32)) ≡ replicate (16 - n) 32
spaces_left n k e =
    let left : 16 - k ≡ 16 - n = omega arith in
    rw (drop-replicate {X = ℕ} k 16 32, left) (take_all _ _ (omega (arith, length-replicate {A = ℕ} (16 - n) 32)))
