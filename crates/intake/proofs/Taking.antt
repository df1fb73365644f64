-- What is known of an instruction that is not refused, and what it adds to the book.
use Rattle.std.proofs.Common.{◌≡◌, ℕ, ◌+◌, ◌<◌, true, false, List, [], ◌∷◌, ◌++◌, length, None, sym, ap, ◌∙◌, subst, ⊎_elim, arith}
use Rattle.std.proofs.lemmas.List.{length_push, get_or_push, get_or_append_left}
use Rattle.std.proofs.lemmas.Bool.{or_parts, leb-false, cases_eq}
use Rattle.rules.specs.Below.{with_at}
use Rattle.rules.specs.First.{first_of}
use Rattle.rules.specs.Matching.{Terms, Book, Instruction, instruction_causes, is_awaited, mirror, pair_from, taken_in}
use Rattle.rules.specs.Pairs as rules
use Rattle.rules.proofs.Firsts.{first_none}
use Rattle.rules.proofs.Tables.{every_pushed}
use Rattle.intake.specs.declared.pair.Pair.{Pair}
use Rattle.intake.specs.Parties.{Within, Listed, Counted, no_pair, pair_of}

-- the parties of the mirror are members, and its currencies are on the sheet
inside : (t : Terms) (b : Book) (i : Instruction) → first_of (instruction_causes t b i) ≡ None
    → (i.counterparty < t.members) × (i.submitter < t.members) × (i.sells < t.currencies) × (i.buys < t.currencies)
inside t b i e =
    let n = first_none (instruction_causes t b i) e in
    let who = or_parts _ _ n.1.0 in
    let whom = or_parts _ _ who.1 in
    let what = or_parts _ _ n.1.1.0 in
    (leb-false _ _ whom.0, leb-false _ _ who.0, leb-false _ _ what.1, leb-false _ _ what.0)

pub listed_pushed : (t : Terms) (b : Book) (i : Instruction) (ps new : List Pair) (p : Pair) → new ≡ ps ++ p ∷ [] → Listed ps t.members t.currencies → first_of (instruction_causes t b i) ≡ None
    → (n : ℕ) → pair_of p ≡ pair_from t.rate n (mirror i) → Listed new t.members t.currencies
listed_pushed t b i ps new p e h none n made =
    every_pushed (λ q. Within q t.members t.currencies) ps new p no_pair e h
    (subst (λ (q : rules.Pair). (q.first < t.members) × (q.second < t.members) × (q.buys < t.currencies) × (q.sells < t.currencies)) (sym made) (inside t b i none))

pub counted_pushed : (ps new : List Pair) (p : Pair) → new ≡ ps ++ p ∷ [] → Counted ps → p.number ≡ length ps + 1 → Counted new
counted_pushed ps new p e h s = subst Counted (sym e) (λ k l. ⊎_elim
    (λ q. ap (λ (x : Pair). x.number) (get_or_push ps p no_pair k (sym q)) ∙ s ∙ ap (λ (n : ℕ). n + 1) (sym q))
    (λ d. let m = length_push ps p in let low : k < length ps = omega arith in ap (λ (x : Pair). x.number) (get_or_append_left ps (p ∷ []) no_pair k low) ∙ h k low)
    (cases_eq k (length ps)))

pub with_pair : (t : Terms) (b new : Book) (i : Instruction) → is_awaited b i ≡ true → new.kept ≡ b.kept + 1 → ((k : ℕ) → new.instruction k ≡ with_at b.instruction b.kept i k)
    → new.matched ≡ b.matched + 1 → ((k : ℕ) → new.pair k ≡ with_at b.pair b.matched (pair_from t.rate (b.matched + 1) (mirror i)) k) → new ≡ taken_in t b i
with_pair t b new i hit kept instruction matched pair = rw hit (λ j. record { kept = kept j; instruction = λ k. instruction k j; matched = matched j; pair = λ k. pair k j })

pub alone : (t : Terms) (b new : Book) (i : Instruction) → is_awaited b i ≡ false → new.kept ≡ b.kept + 1 → ((k : ℕ) → new.instruction k ≡ with_at b.instruction b.kept i k)
    → new.matched ≡ b.matched → new.pair ≡ b.pair → new ≡ taken_in t b i
alone t b new i miss kept instruction matched pair = rw miss (λ j. record { kept = kept j; instruction = λ k. instruction k j; matched = matched j; pair = pair j })
