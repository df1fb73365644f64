-- A list that is counted up, f 0, f 1, .. , f (n - 1), and the first case of such a list that holds.
use Rattle.std.proofs.Common.{◌≡◌, ℕ, zero, suc, ◌+◌, ◌<◌, ◌≤◌, true, false, List, [], ◌∷◌, ◌++◌, length, get_or, Some, None, MatchOption, option_map, Option, sym, refl, ◌∙◌, ⊎_elim, add-one, arith}
use Rattle.std.specs.List.{flat_map, AllByRecursion}
use Rattle.std.proofs.ByRecursion.{All-push}
use Rattle.std.proofs.lemmas.List.{length_push, get_or_push, get_or_append_left, flat_map_more, same_lists}
use Rattle.std.proofs.lemmas.Bool.{cases_lt}
use Rattle.rules.specs.First.{Case, first_of, Never}
use Rattle.rules.specs.Below.{listed}
use Rattle.rules.proofs.Responses.{none_then, some_then}

pub none_more : {A : Type 0} (f : ℕ → Case A) (k : ℕ) → first_of (listed k f) ≡ None → (f k).holds ≡ false → first_of (listed (k + 1) f) ≡ None
none_more f k e h = rw (add-one k) (none_then (listed k f) (f k ∷ []) e ∙ rw h)

pub first_at : {A : Type 0} (f : ℕ → Case A) (n k : ℕ) → k < n → first_of (listed k f) ≡ None → (f k).holds ≡ true → first_of (listed n f) ≡ Some (f k).name
first_at f zero k l e h = absurd (omega arith)
first_at f (suc n) k l e h = ⊎_elim
    (λ less. some_then (listed n f) (f n ∷ []) (f k).name (first_at f n k less e h))
    (λ same. let i : n ≡ k = omega arith in rw i (none_then (listed k f) (f k ∷ []) e ∙ rw h))
    (cases_lt k n)

pub none_of : {A : Type 0} (f : ℕ → Case A) (n : ℕ) → ((k : ℕ) → k < n → (f k).holds ≡ false) → first_of (listed n f) ≡ None
none_of f zero never = refl
none_of f (suc n) never = rw (add-one n) at (none_more f n (none_of f n (λ k l. never k (omega arith))) (never n (omega arith)))

-- what a search for the first case of such a list has found
pub first_found : {A : Type 0} (f : ℕ → Case A) (n : ℕ) (r : Option ℕ) → MatchOption r ((k : ℕ) → 0 ≤ k → k < n → (f k).holds ≡ false) (λ i. (0 ≤ i) × (i < n) × ((f i).holds ≡ true) × ((k : ℕ) → 0 ≤ k → k < i → (f k).holds ≡ false)) → first_of (listed n f) ≡ option_map (λ i. (f i).name) r
first_found f n None never = none_of f n (λ k l. never k (omega arith) l)
first_found f n (Some i) h = first_at f n i h.1 (none_of f i (λ k l. h.3 k (omega arith) l)) h.2

-- where none of such a list holds
never_append : {A : Type 0} (xs ys : List (Case A)) → Never (xs ++ ys) → Never xs × Never ys
never_append [] ys n = (tt, n)
never_append (x ∷ xs) ys n = let more = never_append xs ys n.1 in ((n.0, more.0), more.1)

pub never_of : {A : Type 0} (f : ℕ → Case A) (n k : ℕ) → Never (listed n f) → k < n → (f k).holds ≡ false
never_of f zero k never l = absurd (omega arith)
never_of f (suc n) k never l =
    let parts = never_append (listed n f) (f n ∷ []) never in
    ⊎_elim
    (λ less. never_of f n k parts.0 less)
    (λ last. let same : k ≡ n = omega arith in rw same parts.1.0)
    (cases_lt k n)

pub length_listed : {A : Type 0} (n : ℕ) (f : ℕ → A) → length (listed n f) ≡ n
length_listed zero f = refl
length_listed (suc n) f = length_push (listed n f) (f n) ∙ omega (arith, length_listed n f)

pub get_or-listed : {A : Type 0} (n k : ℕ) (f : ℕ → A) (d : A) → k < n → get_or (listed n f) k d ≡ f k
get_or-listed zero k f d l = absurd (omega arith)
get_or-listed (suc n) k f d l = ⊎_elim
    (λ less. get_or_append_left (listed n f) (f n ∷ []) d k (omega (arith, length_listed n f)) ∙ get_or-listed n k f d less)
    (λ same. let i : n ≡ k = omega arith in rw i (get_or_push (listed k f) (f k) d k (length_listed k f)))
    (cases_lt k n)

pub listed_same : {A : Type 0} (n : ℕ) (f g : ℕ → A) → ((k : ℕ) → k < n → f k ≡ g k) → listed n f ≡ listed n g
listed_same zero f g e = refl
listed_same (suc n) f g e = let front : listed n f ≡ listed n g = listed_same n f g (λ k l. e k (omega arith)) in let last : f n ≡ g n = e n (omega arith) in rw (front, last)

-- such a list, as a list that is known
pub listed_is : {A : Type 0} (n : ℕ) (h : ℕ → A) (xs : List A) → length xs ≡ n → ((k : ℕ) (d : A) → k < n → h k ≡ get_or xs k d) → listed n h ≡ xs
listed_is n h xs l e =
    same_lists (listed n h) xs (length_listed n h ∙ sym l)
    (λ k d b. let m : k < n = omega (arith, length_listed n h) in get_or-listed n k h d m ∙ e k d m)

-- what holds of each number holds of each of the list
pub all_listed : {A : Type 0} (P : A → Type 0) (n : ℕ) (h : ℕ → A) → ((k : ℕ) → k < n → P (h k)) → AllByRecursion P (listed n h)
all_listed P zero h p = tt
all_listed P (suc n) h p = All-push P (listed n h) (h n) (all_listed P n h (λ k l. p k (omega arith))) (p n (omega arith))

-- the parts that the list's members give, joined
pub joined_same : {A B : Type 0} (g : A → List ℕ) (g' : B → List ℕ) (n : ℕ) (h : ℕ → A) (h' : ℕ → B) → ((k : ℕ) → k < n → g (h k) ≡ g' (h' k)) → flat_map g (listed n h) ≡ flat_map g' (listed n h')
joined_same g g' zero h h' e = refl
joined_same g g' (suc n) h h' e =
    let front = joined_same g g' n h h' (λ k l. e k (omega arith)) in
    let last = e n (omega arith) in
    sym (flat_map_more g [] (listed n h) (h n)) ∙ rw (front, last) (flat_map_more g' [] (listed n h') (h' n))
