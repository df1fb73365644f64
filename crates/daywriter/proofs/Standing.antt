-- Bytes that stand at a place of a file.
use Rattle.std.proofs.Common.{◌≡◌, ℕ, zero, suc, ◌+◌, ◌*◌, ◌^◌, ◌<◌, ◌≤◌, List, [], ◌∷◌, ◌++◌, length, get_or, take, drop, sym, refl, ap, ◌∙◌, mul-suc, add_assoc, arith, take-add}
use Rattle.std.specs.List.{flat_map, AllByRecursion}
use Rattle.std.proofs.lemmas.List.{take-take, take_at, drop-take, drop-drop, drop_at, drop_more, length-append, take_all, flat_map_more}
use Rattle.std.proofs.ByRecursion.{All-take, All-drop}
use Rattle.rules.specs.FileForm.{byte, two_bytes, four_bytes, eight_bytes}
use Rattle.rules.specs.FileRecords.{part}
use Rattle.rules.specs.Below.{listed}
use Rattle.dayfile.proofs.Parts.{length_part}
use Rattle.rules.specs.FileWriting.{number_bytes}
use Rattle.daywriter.proofs.Numbers.{value, value_append, length_number, value_number, number_value}

abbrev pub Stands : List ℕ → ℕ → List ℕ → Type 0
Stands f i bs = (i + length bs ≤ length f) × (part f i (length bs) ≡ bs)

pub whole_stands : (f : List ℕ) → Stands f 0 f
whole_stands f = (omega arith, take_all (length f) f (omega arith))

-- both of two parts that follow each other
pub stands_left : (f : List ℕ) (i : ℕ) (xs ys : List ℕ) → Stands f i (xs ++ ys) → Stands f i xs
stands_left f i xs ys h =
    let l = length-append xs ys in
    (omega arith, sym (take-take (length xs) (length (xs ++ ys)) (drop i f) (omega arith)) ∙ ap (take (length xs)) h.1 ∙ take_at xs ys (length xs) refl)

pub stands_right : (f : List ℕ) (i : ℕ) (xs ys : List ℕ) → Stands f i (xs ++ ys) → Stands f (i + length xs) ys
stands_right f i xs ys h =
    let l = length-append xs ys in
    let e : part f i (length xs + length ys) ≡ xs ++ ys = rw l at h.1 in
    (omega arith, ap (take (length ys)) (sym (drop-drop (length xs) i f)) ∙ sym (drop-take (length xs) (length ys) (drop i f)) ∙ ap (drop (length xs)) e ∙ drop_at xs ys (length xs) refl)

pub stands_join : (f : List ℕ) (i : ℕ) (xs ys : List ℕ) → Stands f i xs → Stands f (i + length xs) ys → Stands f i (xs ++ ys)
stands_join f i xs ys h k =
    let l = length-append xs ys in
    let e = drop-drop (length xs) i f in
    (omega arith, rw (l, take-add (length xs) (length ys) (drop i f), e, h.1, k.1))

-- part of a file, in two
pub part_split : (f : List ℕ) (i a b : ℕ) → part f i (a + b) ≡ part f i a ++ part f (i + a) b
part_split f i a b = take-add a b (drop i f) ∙ ap (λ (l : List ℕ). part f i a ++ take b l) (drop-drop a i f)

value_split : (f : List ℕ) (i a b : ℕ) → i + a ≤ length f → value (part f i (a + b)) ≡ value (part f i a) + 256 ^ a * value (part f (i + a) b)
value_split f i a b h = ap value (part_split f i a b) ∙ value_append (part f i a) (part f (i + a) b) ∙ rw (length_part f i a h)

-- the numbers of a file's form are the numbers that their bytes give
pub one_byte : (f : List ℕ) (i : ℕ) → i + 1 ≤ length f → byte f i ≡ value (part f i 1)
one_byte f i h = rw (drop_more f i 0 (omega arith)) (omega arith)

pub two_byte : (f : List ℕ) (i : ℕ) → i + 2 ≤ length f → two_bytes f i ≡ value (part f i 2)
two_byte f i h = let a = one_byte f i (omega arith) in let b = one_byte f (i + 1) (omega arith) in rw (a, b) (sym (value_split f i 1 1 (omega arith)))

pub four_byte : (f : List ℕ) (i : ℕ) → i + 4 ≤ length f → four_bytes f i ≡ value (part f i 4)
four_byte f i h =
    let a = two_byte f i (omega arith) in
    let b : two_bytes f (i + 2) ≡ value (part f (i + 2) 2) = two_byte f (i + 2) (omega arith) in
    ap (λ (x : ℕ). x + 65536 * two_bytes f (i + 2)) a ∙ ap (λ (x : ℕ). value (part f i 2) + 65536 * x) b ∙ sym (value_split f i 2 2 (omega arith))

pub eight_byte : (f : List ℕ) (i : ℕ) → i + 8 ≤ length f → eight_bytes f i ≡ value (part f i 8)
eight_byte f i h =
    let a = four_byte f i (omega arith) in
    let b : four_bytes f (i + 4) ≡ value (part f (i + 4) 4) = four_byte f (i + 4) (omega arith) in
    ap (λ (x : ℕ). x + 4294967296 * four_bytes f (i + 4)) a ∙ ap (λ (x : ℕ). value (part f i 4) + 4294967296 * x) b ∙ sym (value_split f i 4 4 (omega arith))

-- a number that stands there is the one that its bytes give
stands_value : (w : ℕ) (f : List ℕ) (i n : ℕ) → n < 256 ^ w → Stands f i (number_bytes w n) → value (part f i w) ≡ n
stands_value w f i n h s =
    let l = length_number w n in
    let e : part f i w ≡ number_bytes w n = rw l at s.1 in
    ap value e ∙ value_number w n h

stands_ends : (w : ℕ) (f : List ℕ) (i n : ℕ) → Stands f i (number_bytes w n) → i + w ≤ length f
stands_ends w f i n s = omega (arith, length_number w n)

pub stands_one : (f : List ℕ) (i n : ℕ) → n < 2 ^ 8 → Stands f i (number_bytes 1 n) → byte f i ≡ n
stands_one f i n h s = one_byte f i (stands_ends 1 f i n s) ∙ stands_value 1 f i n h s

pub stands_two : (f : List ℕ) (i n : ℕ) → n < 2 ^ 16 → Stands f i (number_bytes 2 n) → two_bytes f i ≡ n
stands_two f i n h s = two_byte f i (stands_ends 2 f i n s) ∙ stands_value 2 f i n h s

pub stands_four : (f : List ℕ) (i n : ℕ) → n < 2 ^ 32 → Stands f i (number_bytes 4 n) → four_bytes f i ≡ n
stands_four f i n h s = four_byte f i (stands_ends 4 f i n s) ∙ stands_value 4 f i n h s

pub stands_eight : (f : List ℕ) (i n : ℕ) → n < 2 ^ 64 → Stands f i (number_bytes 8 n) → eight_bytes f i ≡ n
stands_eight f i n h s = eight_byte f i (stands_ends 8 f i n s) ∙ stands_value 8 f i n h s

-- and the number that bytes give stands there
value_stands : (w : ℕ) (f : List ℕ) (i : ℕ) → AllByRecursion (λ b. b < 256) f → i + w ≤ length f → Stands f i (number_bytes w (value (part f i w)))
value_stands w f i a h =
    let l = length_part f i w h in
    let e : number_bytes w (value (part f i w)) ≡ part f i w = rw l at (number_value (part f i w) (All-take (λ b. b < 256) w (drop i f) (All-drop (λ b. b < 256) i f a))) in
    rw (e, l) (h, refl)

pub one_stands : (f : List ℕ) (i : ℕ) → AllByRecursion (λ b. b < 256) f → i + 1 ≤ length f → Stands f i (number_bytes 1 (byte f i))
one_stands f i a h = rw (one_byte f i h) (value_stands 1 f i a h)

pub two_stands : (f : List ℕ) (i : ℕ) → AllByRecursion (λ b. b < 256) f → i + 2 ≤ length f → Stands f i (number_bytes 2 (two_bytes f i))
two_stands f i a h = rw (two_byte f i h) (value_stands 2 f i a h)

pub four_stands : (f : List ℕ) (i : ℕ) → AllByRecursion (λ b. b < 256) f → i + 4 ≤ length f → Stands f i (number_bytes 4 (four_bytes f i))
four_stands f i a h = rw (four_byte f i h) (value_stands 4 f i a h)

pub eight_stands : (f : List ℕ) (i : ℕ) → AllByRecursion (λ b. b < 256) f → i + 8 ≤ length f → Stands f i (number_bytes 8 (eight_bytes f i))
eight_stands f i a h = rw (eight_byte f i h) (value_stands 8 f i a h)

-- what follows n bytes
pub stands_after : (n : ℕ) (f : List ℕ) (i : ℕ) (xs ys : List ℕ) → length xs ≡ n → Stands f i (xs ++ ys) → Stands f (i + n) ys
stands_after n f i xs ys l s = rw l at (stands_right f i xs ys s)

-- numbers one after another, each in so many bytes
abbrev pub numbers_bytes : List (ℕ × ℕ) → List ℕ
numbers_bytes [] = []
numbers_bytes (x ∷ xs) = number_bytes x.0 x.1 ++ numbers_bytes xs

-- each of them stands at its place, from o bytes after i on
abbrev pub EachStands : List ℕ → ℕ → ℕ → List (ℕ × ℕ) → Type 0
EachStands f i o [] = Unit {0}
EachStands f i o (x ∷ xs) = Stands f (i + o) (number_bytes x.0 x.1) × EachStands f i (o + x.0) xs

pub each_stands : (f : List ℕ) (i o : ℕ) (xs : List (ℕ × ℕ)) → Stands f (i + o) (numbers_bytes xs) → EachStands f i o xs
each_stands f i o [] s = tt
each_stands f i o (x ∷ xs) s = (
  stands_left f (i + o) (number_bytes x.0 x.1) (numbers_bytes xs) s,
  each_stands f i (o + x.0) xs (rw (add_assoc i o x.0) at (stands_after x.0 f (i + o) (number_bytes x.0 x.1) (numbers_bytes xs) (length_number x.0 x.1) s)),
)

pub all_stand : (f : List ℕ) (i o : ℕ) (xs : List (ℕ × ℕ)) → i + o ≤ length f → EachStands f i o xs → Stands f (i + o) (numbers_bytes xs)
all_stand f i o [] b s = (omega arith, refl)
all_stand f i o (x ∷ xs) b s =
    let l = length_number x.0 x.1 in
    let rest = all_stand f i (o + x.0) xs (omega (arith, s.0.0)) s.1 in
    stands_join f (i + o) (number_bytes x.0 x.1) (numbers_bytes xs) s.0 (rw (l, add_assoc i o x.0) rest)

-- records of w bytes each
pub length_joined : {A : Type 0} (g : A → List ℕ) (w : ℕ) (xs : List A) → AllByRecursion (λ x. length (g x) ≡ w) xs → length (flat_map g xs) ≡ w * length xs
length_joined g w [] a = omega arith
length_joined g w (x ∷ xs) a = length-append (g x) (flat_map g xs) ∙ rw (a.0, length_joined g w xs a.1, mul-suc w (length xs)) (omega arith)

pub stands_nth : {A : Type 0} (g : A → List ℕ) (w : ℕ) (f : List ℕ) (i : ℕ) (xs : List A) → AllByRecursion (λ x. length (g x) ≡ w) xs → Stands f i (flat_map g xs) → (k : ℕ) (d : A) → k < length xs → Stands f (i + w * k) (g (get_or xs k d))
stands_nth g w f i [] a s k d h = absurd (omega arith)
stands_nth g w f i (x ∷ xs) a s zero d h = let e : i + w * 0 ≡ i = omega arith in rw e (stands_left f i (g x) (flat_map g xs) s)
stands_nth g w f i (x ∷ xs) a s (suc k) d h =
    let e : i + w + w * k ≡ i + w * suc k = rw (mul-suc w k) (omega arith) in
    rw e at (stands_nth g w f (i + w) xs a.1 (stands_after w f i (g x) (flat_map g xs) a.0 s) k d (omega arith))

pub nth_stand : {A : Type 0} (g : A → List ℕ) (w : ℕ) (f : List ℕ) (i n : ℕ) (h : ℕ → A) → i ≤ length f → ((k : ℕ) → k < n → (length (g (h k)) ≡ w) × Stands f (i + w * k) (g (h k))) → (length (flat_map g (listed n h)) ≡ w * n) × Stands f i (flat_map g (listed n h))
nth_stand g w f i zero h b all = (omega arith, (omega arith, refl))
nth_stand g w f i (suc n) h b all =
    let front = nth_stand g w f i n h b (λ k l. all k (omega arith)) in
    let last = all n (omega arith) in
    let j : flat_map g (listed n h ++ h n ∷ []) ≡ flat_map g (listed n h) ++ g (h n) = sym (flat_map_more g [] (listed n h) (h n)) in
    let there : Stands f (i + length (flat_map g (listed n h))) (g (h n)) = rw front.0 last.1 in
    rw (j, mul-suc w n) (length-append (flat_map g (listed n h)) (g (h n)) ∙ omega (arith, front.0, last.0), stands_join f i (flat_map g (listed n h)) (g (h n)) front.1 there)
