-- The day that the file's intake opens.
use Rattle.std.proofs.Common.{◌≡◌, ℕ, zero, suc, ◌+◌, List, [], ◌∷◌, ◌++◌, map, length, get_or, vec_items, vec_len, sym, refl, ap, ◌∙◌, add-one, arith}
use Rattle.rules.specs.Below.{listed}
use Rattle.rules.specs.Orders.{by_number}
use Rattle.rules.specs.Setting.{Setting}
use Rattle.rules.specs.Books.{opened}
use Rattle.rules.specs.FileForm.{instructions_in, members_in}
use Rattle.sheet.specs.Meaning.{sheet_of}
use Rattle.intake.specs.declared.intake.Intake.{Intake}
use Rattle.intake.specs.declared.roster.Roster.{Roster}
use Rattle.intake.specs.Rosters.{roster_of, terms_of}
use Rattle.intake.specs.Parties.{no_pair, pair_of}
use Rattle.intake.specs.Books.{book_of}
use Rattle.session.specs.Opening.{day_of}
use Rattle.rules.specs.FileDay.{sheet_in, roster_after, roster_in, terms_in, book_after, pairs_in, setting_in, books_after}

-- a list is its elements, counted up
listed_cons : {A : Type 0} (n : ℕ) (g : ℕ → A) → listed (suc n) g ≡ g 0 ∷ listed n (λ k. g (suc k))
listed_cons zero g = refl
listed_cons (suc n) g = ap (λ xs. xs ++ g (suc n) ∷ []) (listed_cons n g)

listed-map : {A B : Type 0} (g : A → B) (d : A) (xs : List A) → listed (length xs) (λ k. g (get_or xs k d)) ≡ map g xs
listed-map g d [] = refl
listed-map g d (x ∷ xs) = listed_cons (length xs) (λ k. g (get_or (x ∷ xs) k d)) ∙ ap (λ ys. g x ∷ ys) (listed-map g d xs)

pub terms_same : (f : List ℕ) (r : Roster) → roster_of r ≡ roster_in f → sheet_of r.sheet ≡ sheet_in f → terms_of r ≡ terms_in f
terms_same f r p q = λ i. record { members = (p i).members; currencies = (q i).currencies; rate = λ c. ((q i).currency c).rate }

pub no_book : (f : List ℕ) → record {
  kept = 0;
  instruction = λ _. record { submitter = 0; counterparty = 0; buys = 0; bought = 0; sells = 0; sold = 0; reference = 0 };
  matched = 0;
  pair = λ _. record { number = 0; first = 0; second = 1; buys = 0; bought = 0; sells = 1; sold = 0; reference = 0; weight = 0 };
} ≡ book_after f 0
unfolding book_after
no_book f = refl

pub day_same : (f : List ℕ) (x : Intake) (r : Roster) → x.roster ≡ r → roster_of r ≡ roster_in f → sheet_of r.sheet ≡ sheet_in f → book_of x ≡ book_after f (instructions_in f) → day_of by_number x ≡ setting_in f
unfolding setting_in
day_same f x r ro p q b =
    let count : vec_len x.pairs ≡ length (vec_items x.pairs) = omega (arith, x.pairs.ok.0) in
    let e : map pair_of (vec_items x.pairs) ≡ pairs_in (book_of x) = sym (ap (λ (n : ℕ). listed n (λ k. pair_of (get_or (vec_items x.pairs) k no_pair))) count ∙ listed-map pair_of no_pair (vec_items x.pairs)) in
    λ i. record { sheet = (ap (λ (y : Roster). sheet_of y.sheet) ro ∙ q) i; roster = (ap roster_of ro ∙ p) i; pairs = (e ∙ ap pairs_in b) i; before = by_number }

pub opened_same : (f : List ℕ) (s : Setting) (cash : ℕ → ℕ) → s ≡ setting_in f → ((c : ℕ) → cash c ≡ 0) → opened s cash ≡ books_after f 0
unfolding books_after
opened_same f s cash p q = λ i. opened (p i) (λ c. q c i)

-- as many members as there are records
counted_members : (f : List ℕ) (k : ℕ) → (roster_after f k).members ≡ k
unfolding roster_after
counted_members f zero = refl
counted_members f (suc k) = ap (λ (n : ℕ). n + 1) (counted_members f k) ∙ add-one k

pub all_members : (f : List ℕ) → (setting_in f).roster.members ≡ members_in f
unfolding setting_in roster_in
all_members f = counted_members f (members_in f)
