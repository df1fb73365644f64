-- A part of a file, read alone or where it stands.
use Rattle.std.proofs.Common.{◌≡◌, ℕ, zero, suc, ◌+◌, ◌-◌, ◌*◌, ◌/◌, ◌<◌, ◌≤◌, List, length, get_or, drop, [], slice_index_or, take, Option, Some, None, MatchOption, refl, ◌∙◌, add-zero, add_assoc, arith, lit<, lit≤, eq-eqb, ne_eqb, ◌≢◌, ⊎_elim}
use Rattle.std.proofs.lemmas.Bool.{cases_lt}
use Rattle.std.proofs.lemmas.List.{get_or-take, get_or-drop, length-take, length-drop, drop-take, take-take, drop-drop}
use Rattle.std.specs.Int.{w32, w64, from_le_bytes}
use Rattle.std.specs.Simd.{first_chunks}
use Rattle.rules.specs.Below.{listed}
use Rattle.rules.specs.FileForm.{byte, four_bytes, eight_bytes}
use Rattle.rules.specs.FileRecords.{MemberRecord, part, trimmed, trimmed_length, currency_from, member_from, instruction_from, step_from}
use Rattle.dayfile.specs.declared.records.MemberRecord as records
use Rattle.dayfile.specs.Meaning.{member_of}
use Rattle.dayfile.proofs.Listed.{listed_same}

pub byte_in_part : (f : List ℕ) (i n k : ℕ) → k < n → byte (part f i n) k ≡ byte f (i + k)
byte_in_part f i n k h = get_or-take n (drop i f) k 0 h ∙ get_or-drop i f k 0

pub length_part : (f : List ℕ) (i n : ℕ) → i + n ≤ length f → length (part f i n) ≡ n
length_part f i n h = simp (length-take, length-drop) (omega arith)

part_in_part : (f : List ℕ) (i s k n : ℕ) → k + n ≤ s → part (part f i s) k n ≡ part f (i + k) n
part_in_part f i s k n h = let m : s ≡ k + (s - k) = omega arith in let l : n ≤ s - k = omega arith in rw (m, drop-take, take-take, drop-drop)

four_in_part : (f : List ℕ) (i n k : ℕ) → k + 4 ≤ n → four_bytes (part f i n) k ≡ four_bytes f (i + k)
four_in_part f i n k h =
    simp (byte_in_part f i n k (omega arith), byte_in_part f i n (k + 1) (omega arith), byte_in_part f i n (k + 2) (omega arith), byte_in_part f i n (k + 3) (omega arith), add_assoc)

-- the short limits of a member's record, a number of four bytes for each of n currencies
shorts_in_part : (f s : List ℕ) (i n : ℕ) → i + 4 * n ≤ length f → s ≡ part f i (4 * n) → listed (length s / 4) (λ c. four_bytes s (4 * c)) ≡ listed n (λ c. four_bytes f (i + 4 * c))
shorts_in_part f s i n h e =
    let l : length (part f i (4 * n)) / 4 ≡ n = simp (length-take, length-drop) (omega arith) in
    rw (e, l) (listed_same n _ _ (λ c b. four_in_part f i (4 * n) (4 * c) (omega arith)))

-- a number that is read from its own bytes
pub four_read : (f : List ℕ) (i : ℕ) → from_le_bytes w32 (part f i 4) ≡ four_bytes f i
four_read f i =
    let at : (k : ℕ) → k < 4 → byte (part f i 4) k ≡ byte f (i + k) = byte_in_part f i 4 in
    simp (at 0 (lit< tt), at 1 (lit< tt), at 2 (lit< tt), at 3 (lit< tt), add-zero, add_assoc) (omega arith)

pub eight_read : (f : List ℕ) (i : ℕ) → from_le_bytes w64 (part f i 8) ≡ eight_bytes f i
eight_read f i =
    let at : (k : ℕ) → k < 8 → byte (part f i 8) k ≡ byte f (i + k) = byte_in_part f i 8 in
    simp (at 0 (lit< tt), at 1 (lit< tt), at 2 (lit< tt), at 3 (lit< tt), at 4 (lit< tt), at 5 (lit< tt), at 6 (lit< tt), at 7 (lit< tt), add-zero, add_assoc) (omega arith)

-- a record reads alike alone and where it stands
pub currency_in_part : (f : List ℕ) (i : ℕ) → currency_from (part f i 10) 0 ≡ currency_from f i
currency_in_part f i =
    let code = part_in_part f i 10 0 3 (lit≤ tt) in
    simp (code, four_in_part f i 10 4 (lit≤ tt), byte_in_part f i 10 8 (lit< tt), byte_in_part f i 10 9 (lit< tt), byte_in_part f i 10 3 (lit< tt), add-zero, add_assoc)

pub member_in_part : (f : List ℕ) (i s n : ℕ) → s ≡ 24 + 4 * n → i + s ≤ length f → member_from (part f i s) n 0 ≡ member_from f n i
member_in_part f i s n e h =
    let four : (k : ℕ) → k + 4 ≤ s → four_bytes (part f i s) k ≡ four_bytes f (i + k) = four_in_part f i s in
    let name : part (part f i s) 0 16 ≡ part f i 16 = rw (part_in_part f i s 0 16 (omega arith), add-zero) in
    let aggregate : eight_bytes (part f i s) 16 ≡ eight_bytes f (i + 16) = simp (four 16 (omega arith), four 20 (omega arith), add_assoc) in
    let limits = listed_same n (λ c. four_bytes (part f i s) (24 + 4 * c)) (λ c. four_bytes f (i + 24 + 4 * c)) (λ c b. four (24 + 4 * c) (omega arith) ∙ simp add_assoc) in
    cc

pub instruction_in_part : (f : List ℕ) (i : ℕ) → instruction_from (part f i 16) 0 ≡ instruction_from f i
instruction_in_part f i =
    let at : (k : ℕ) → k < 16 → byte (part f i 16) k ≡ byte f (i + k) = byte_in_part f i 16 in
    simp (at 0 (lit< tt), at 1 (lit< tt), at 2 (lit< tt), at 3 (lit< tt), four_in_part f i 16 4 (lit≤ tt), four_in_part f i 16 8 (lit≤ tt), four_in_part f i 16 12 (lit≤ tt), add-zero, add_assoc)

pub step_in_part : (f : List ℕ) (i : ℕ) → step_from (part f i 8) 0 ≡ step_from f i
step_in_part f i =
    let at : (k : ℕ) → k < 8 → byte (part f i 8) k ≡ byte f (i + k) = byte_in_part f i 8 in
    simp (at 0 (lit< tt), at 1 (lit< tt), at 2 (lit< tt), at 3 (lit< tt), at 4 (lit< tt), at 5 (lit< tt), at 6 (lit< tt), at 7 (lit< tt), add-zero, add_assoc)

-- a member that is read by its parts, at a place that the code reckons
pub member_read : (f : List ℕ) (m : records.MemberRecord) (n n' at at' : ℕ) → n ≡ n' → at ≡ at' → at + 24 + 4 * n ≤ length f → m.name.now ≡ trimmed (part f at 16) → m.aggregate ≡ eight_bytes f (at + 16) → m.shorts.now ≡ part f (at + 24) (4 * n) → member_of m ≡ member_from f n' at'
member_read f m n n' at at' e e' h name aggregate shorts = let limits = shorts_in_part f m.shorts.now (at + 24) n h shorts in rw (← e, ← e') (cc)

-- the same of a record's own bytes
pub member_alone : (f name shorts : List ℕ) (aggregate n : ℕ) → length f ≡ 24 + 4 * n → name ≡ trimmed (part f 0 16) → aggregate ≡ eight_bytes f 16 → shorts ≡ part f 24 (4 * n) → (let m : MemberRecord = record { name = name; aggregate = aggregate; shorts = listed (length shorts / 4) (λ c. four_bytes shorts (4 * c)) } in m ≡ member_from f n 0)
member_alone f name shorts aggregate n h named summed e = let limits = shorts_in_part f shorts 24 n (omega arith) e in cc

-- the c-th of the first n pieces of four bytes
pub piece_at : (n c : ℕ) (f : List ℕ) → c < n → slice_index_or (first_chunks 4 n f) c [] ≡ part f (4 * c) 4
piece_at zero c f h = absurd (omega arith)
piece_at (suc n) zero f h = refl
piece_at (suc n) (suc c) f h = let e : 4 * suc c ≡ 4 + 4 * c = omega arith in rw (e, piece_at n c (drop 4 f) (omega arith), drop-drop)

-- one byte fewer of a name, where it is a space
pub space : (s : List ℕ) (n : ℕ) → 0 < n → get_or s (n - 1) 0 ≡ 32 → trimmed_length s n ≡ trimmed_length s (n - 1)
unfolding trimmed_length
space s zero h e = absurd (omega arith)
space s (suc n) h e = let k : suc n - 1 ≡ n = omega arith in rw (k, eq-eqb (get_or s n 0) 32 (rw k at e))

-- n bytes are left of the first m, where those after them are spaces and the last of them is none
pub trimmed_to : (s : List ℕ) (n m : ℕ) → n ≤ m → ((k : ℕ) → n ≤ k → k < m → get_or s k 0 ≡ 32) → (0 < n → get_or s (n - 1) 0 ≢ 32) → trimmed_length s m ≡ n
unfolding trimmed_length
trimmed_to s n zero l spaces last = omega arith
trimmed_to s n (suc m) l spaces last = ⊎_elim
    (λ less. rw (eq-eqb (get_or s m 0) 32 (spaces m (omega arith) (omega arith))) (trimmed_to s n m (omega arith) (λ k a b. spaces k a (omega arith)) last))
    (λ same.
    let e : n ≡ suc m = omega arith in
    let k : n - 1 ≡ m = omega arith in
    let other : get_or s m 0 ≢ 32 = rw (← k) (last (omega arith)) in
    rw (ne_eqb (get_or s m 0) 32 other, e))
    (cases_lt n (suc m))

-- what is left up to the last byte that is no space, if one is none
pub trimmed_by : (s out : List ℕ) (r : Option ℕ) → MatchOption r ((k : ℕ) → k < length s → get_or s k 0 ≡ 32) (λ last. (last < length s) × (get_or s last 0 ≢ 32) × ((k : ℕ) → last < k → k < length s → get_or s k 0 ≡ 32)) → MatchOption r (out ≡ []) (λ last. out ≡ take (last + 1) s) → out ≡ trimmed s
trimmed_by s out None spaces e = rw (trimmed_to s 0 (length s) (omega arith) (λ k a b. spaces k b) (λ h. absurd (omega arith)), e) refl
trimmed_by s out (Some last) found e =
    let same : last + 1 - 1 ≡ last = omega arith in
    rw (trimmed_to s (last + 1) (length s) (omega arith) (λ k a b. found.2 k (omega arith) b) (λ h. rw same found.1), e) refl
