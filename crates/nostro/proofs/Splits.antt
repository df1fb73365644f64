-- A payment of a split, from what its parts answer.
use Rattle.std.proofs.Common.{◌≡◌, ℕ, ◌+◌, ◌-◌, ◌<◌, ◌≤◌, min, Ok, Err, Result, refl, arith}
use Rattle.std.proofs.lemmas.Bool.{le-ltb}
use Rattle.rules.specs.Nostro.{payment_causes, last_number, OnlyAt, together}
use Rattle.rules.proofs.Firsts.{none_first}
use Rattle.refusal.specs.declared.refused.Refusal.{Refusal}
use Rattle.refusal.specs.Meaning.{refusal_of}
use Rattle.nostro.specs.Cash.{Paid, PartsPaid}
use Rattle.nostro.proofs.Cash.{over_cash}

abbrev Pays : (f s : ℕ → ℕ) → ℕ → ℕ → (f' s' : ℕ → ℕ) → Result Unit Refusal → Type 0
Pays f s c a f' s' r = Paid (together f s) c a (together f' s') r × PartsPaid f s c a f' s' r

-- what each part pays is what the split pays
parts_pay : (f s f' s' : ℕ → ℕ) (c a : ℕ) → c ≤ last_number → a ≤ f c + s c → OnlyAt f c (f c - min a (f c)) f' → OnlyAt s c (s c - (a - min a (f c))) s' → Pays f s c a f' s' (Ok tt)
parts_pay f s f' s' c a l h x y = (
  (
    none_first (payment_causes (together f s) c a) (le-ltb last_number c l, (le-ltb (f c + s c) a h, tt)),
    record { here = let i = x.here in let j = y.here in omega arith; other = λ q n. let i = x.other q n in let j = y.other q n in omega arith },
  ),
  record { of_first = x; of_second = y },
)

-- a part does not refuse to pay what it has
pub part_pays : (f f' : ℕ → ℕ) (c a : ℕ) (e : Refusal) → c ≤ last_number → a ≤ f c → Paid f c a f' (Err e) → ⊥
part_pays f f' c a e l h p = let z = over_cash f c a (refusal_of e) l p.0 in omega arith

-- the first part can pay alone
pub first_pays : (f s f' : ℕ → ℕ) (c a : ℕ) (r : Result Unit Refusal) → c ≤ last_number → a ≤ f c → Paid f c a f' r → Pays f s c a f' s r
first_pays f s f' c a (Ok u) l h p = parts_pay f s f' s c a l (omega arith)
    (record { here = let i = p.1.here in omega arith; other = p.1.other })
    (record { here = omega arith; other = λ q n. refl })
first_pays f s f' c a (Err e) l h p = absurd (part_pays f f' c a e l h p)

-- the first part pays all it has, n, and the second the rest, m
pub both_pay : (f s f' s' : ℕ → ℕ) (c a n m : ℕ) (r : Result Unit Refusal) → c ≤ last_number → n ≡ f c → n < a → m ≡ a - n → a ≤ f c + s c → Paid f c n f' (Ok tt) → Paid s c m s' r → Pays f s c a f' s' r
both_pay f s f' s' c a n m (Ok u) l e k d h p q = parts_pay f s f' s' c a l h
    (record { here = let i = p.1.here in omega arith; other = p.1.other })
    (record { here = let i = q.1.here in omega arith; other = q.1.other })
both_pay f s f' s' c a n m (Err x) l e k d h p q = absurd (part_pays s s' c m x l (omega arith) q)
