use Rattle.std.proofs.Common.{◌≡◌, ℕ, zero, suc, ◌+◌, ◌<◌, ◌≤◌, List, take, get_or, sym, ap, ◌∙◌, subst, ⊎_elim, arith, rules, tests}
use Rattle.std.proofs.lemmas.Bool.{cases_eq, cases_lt}
use Rattle.std.proofs.lemmas.List.{get_or_past, get_or-take, length-take}
use Rattle.std.specs.Array.{IsFromFnResultFrom}
use Rattle.std.specs.Fn.{Called}
use denote.Param.Members.{Mut}
use Rattle.units.specs.declared.Amount.{Amount}
use Rattle.intake.specs.Ranges.{no_amount}
use Rattle.intake.proofs.shorts.by_currency.Goals as goal

-- what a closure that changes no capture gives at each number, each element is
each_is : {F B : Type 0} {g : Mut F (ℕ × Unit {0}) B} (f : F) (h : ℕ → B) (d : B) (ys : List B) → ((i : ℕ) (y : B) (q : F) → Called g f (i, tt) y q → (q ≡ f) × (y ≡ h i))
    → (n i : ℕ) → IsFromFnResultFrom g f ys i n → (k : ℕ) → i ≤ k → k < i + n → get_or ys k d ≡ h k
each_is f h d ys gives zero i all k l m = absurd (omega arith)
each_is {g} f h d ys gives (suc n) i (q, y, at, called, rest) k l m =
    let same = gives i y q called in
    ⊎_elim
    (λ e. rw (← e) (at.1 d ∙ same.1))
    (λ e. each_is f h d ys gives n (i + 1) (subst (λ p. IsFromFnResultFrom g p ys (i + 1) n) same.0 rest) k (omega arith) (omega arith))
    (cases_eq i k)

pub returns : goal.returns
returns c = λ k. ⊎_elim
    (λ l. ap (λ (a : Amount). a.0) (each_is _ (λ i. record { 0 = get_or c.args.shorts.now i 0 }) no_amount c.from_fn.result (λ i y q h. search (rules, tests)) 24 0 c.from_fn.ensures.items.each k (omega arith) l) ∙ sym (get_or-take 24 c.args.shorts.now k 0 l))
    (λ g. ap (λ (a : Amount). a.0) (get_or_past c.from_fn.result k no_amount (omega (arith, c.from_fn.ensures.items.long, g))) ∙ sym (get_or_past (take 24 c.args.shorts.now) k 0 (let long = length-take 24 c.args.shorts.now in omega (arith, g, long))))
    (cases_lt k 24)
