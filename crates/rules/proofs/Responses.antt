-- From the first cause to what a call leaves and answers.
use Rattle.std.proofs.Common.{◌≡◌, ℕ, Bool, true, false, cond, List, [], ◌∷◌, ◌++◌, Some, None, Option, refl, ap, arith}
use Rattle.rules.specs.First.{Case, first_of}
use Rattle.rules.specs.Refusals.{Refusal}
use Rattle.rules.specs.Setting.{Setting}
use Rattle.rules.specs.Books.{Books}
use Rattle.rules.specs.Calls.{Call, causes, respond, respond_by}

pub responds : (s : Setting) (b : Books) (q : Call) (o : Option Refusal) → first_of (causes s b q) ≡ o → respond s b q ≡ respond_by o s b q
unfolding respond
responds s b q o e = ap (λ (x : Option Refusal). respond_by x s b q) e

-- the first of two lists of cases
pub none_then : {A : Type 0} (xs ys : List (Case A)) → first_of xs ≡ None → first_of (xs ++ ys) ≡ first_of ys
none_then [] ys e = refl
none_then {A} (x ∷ xs) ys e = go (none_then xs ys) x.holds e
  where
    go : (first_of xs ≡ None → first_of (xs ++ ys) ≡ first_of ys) → (h : Bool) → cond h (Some x.name) (first_of xs) ≡ None → cond h (Some x.name) (first_of (xs ++ ys)) ≡ first_of ys
    go more true d = absurd (let z : ◌≡◌ {A = ℕ} 0 1 = cc in omega arith)
    go more false d = more d

pub some_then : {A : Type 0} (xs ys : List (Case A)) (a : A) → first_of xs ≡ Some a → first_of (xs ++ ys) ≡ Some a
some_then [] ys a e = absurd (let z : ◌≡◌ {A = ℕ} 0 1 = cc in omega arith)
some_then {A} (x ∷ xs) ys a e = go (some_then xs ys a) x.holds e
  where
    go : (first_of xs ≡ Some a → first_of (xs ++ ys) ≡ Some a) → (h : Bool) → cond h (Some x.name) (first_of xs) ≡ Some a → cond h (Some x.name) (first_of (xs ++ ys)) ≡ Some a
    go more true d = d
    go more false d = more d

pub same_books : (b d : Books) → d.account ≡ b.account → d.reserve_of ≡ b.reserve_of → d.paid_in ≡ b.paid_in → d.paid_out ≡ b.paid_out → d.hour ≡ b.hour → d.waiting ≡ b.waiting → d.cash ≡ b.cash → d ≡ b
same_books b d p q r s t u v = λ i. record { account = p i; reserve_of = q i; paid_in = r i; paid_out = s i; hour = t i; waiting = u i; cash = v i }
