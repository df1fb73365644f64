-- The sheet and the roster are such stages.
use Rattle.std.proofs.Common.{◌≡◌, ℕ, ◌≤◌, List, [], length, take, None, sym, refl, ap, ◌∙◌, add-one, arith}
use Rattle.rules.specs.FileForm.{currencies_in, form_refusal}
use Rattle.rules.specs.FileRecords as rules
use Rattle.dayfile.specs.declared.records.MemberRecord.{MemberRecord}
use Rattle.dayfile.specs.Meaning.{member_of, shorts_of}
use Rattle.dayfile.proofs.Formed.{counted, shorts_count}
use Rattle.rules.specs.First.{first_of}
use Rattle.rules.specs.Sheet.{adding_causes, with_currency}
use Rattle.rules.specs.FileRecords.{currency_in, member_in}
use Rattle.rules.specs.FileDay.{sheet_after, sheet_refusal, sheet_in, with_record, member_refusal, roster_after, roster_refusal}
use Rattle.runner.proofs.Stages.{Stage}

pub sheet_begun : (f : List ℕ) → (record { currencies = 0; currency = λ _. record { code = []; rate = 0; haircut = 0; instalments = 0 } } ≡ sheet_after f 0) × (sheet_refusal f 0 ≡ None)
unfolding sheet_after sheet_refusal
sheet_begun f = (refl, refl)

pub sheet_stage : (f : List ℕ) → Stage (sheet_after f) (sheet_refusal f) (λ s k. first_of (adding_causes s (currency_in f k))) (λ s k. with_currency s (currency_in f k))
unfolding sheet_after sheet_refusal
sheet_stage f = record { more = λ k. rw (add-one k) refl; first = λ k. rw (add-one k) refl }

pub roster_begun : (f : List ℕ) → (record { members = 0; member = λ _. record { name = []; short = λ _. 0; aggregate = 0 } } ≡ roster_after f 0) × (roster_refusal f 0 ≡ None)
unfolding roster_after roster_refusal
roster_begun f = (refl, refl)

pub roster_stage : (f : List ℕ) → Stage (roster_after f) (roster_refusal f) (λ r k. member_refusal (sheet_in f).currencies r (member_in f k)) (λ r k. with_record r (member_in f k))
unfolding roster_after roster_refusal
roster_stage f = record { more = λ k. rw (add-one k) refl; first = λ k. rw (add-one k) refl }

-- a member whose short limits are copied for the roster
pub copied_member : (f : List ℕ) (m n : ℕ) (x : MemberRecord) (ys : List ℕ) → form_refusal f ≡ None → n ≡ currencies_in f → member_of x ≡ member_in f m → (length (shorts_of x) ≤ 24 → take (length (shorts_of x)) ys ≡ shorts_of x) → (let y : rules.MemberRecord = record { name = x.name.now; aggregate = x.aggregate; shorts = take n ys } in y ≡ member_in f m)
copied_member f m n x ys formed e same copied =
    let long : length (shorts_of x) ≡ currencies_in f = ap (λ (y : rules.MemberRecord). length y.shorts) same ∙ shorts_count f m in
    let few = (counted f formed).0 in
    let all = copied (omega arith) in
    let n' : n ≡ length (shorts_of x) = e ∙ sym long in
    rw (n', all) same
