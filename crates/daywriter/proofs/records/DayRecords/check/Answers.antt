use Rattle.std.proofs.Common.{◌≡◌, ℕ, Bool, map, length, sym, ap, ◌∙◌, rules}
use Rattle.std.proofs.lemmas.List.{length-map}
use Rattle.rules.specs.FileWriting.{some_of, shorts_wrong}
use Rattle.dayfile.specs.Meaning.{currency_of}
use Rattle.daywriter.specs.declared.records.DayRecords.{DayRecords}
use Rattle.daywriter.specs.Meaning.{member_of, day_of}
use Rattle.daywriter.proofs.Faultless.{first_fault, second_fault, third_fault, fourth_fault, no_fault}
use Rattle.daywriter.proofs.records.DayRecords.check.Goals as goal

-- there are as many currencies as records of them
shorts_known : (day : DayRecords) (wrong found : Bool) → wrong ≡ some_of (shorts_wrong (length day.currencies.now)) (map member_of day.members.now) → wrong ≡ found → some_of (shorts_wrong (length (map currency_of day.currencies.now))) (map member_of day.members.now) ≡ found
shorts_known day wrong found e w = ap (λ (n : ℕ). some_of (shorts_wrong n) (map member_of day.members.now)) (length-map day.currencies.now currency_of) ∙ sym e ∙ w

pub returns-in_err-refuse_if : goal.returns-in_err-refuse_if
returns-in_err-refuse_if c =
    let w = first_fault (day_of c.args.self) (sym c.has_too_many.ensures ∙ c.in_err-refuse_if.ensures.0) in
    search (rules, w)

pub returns-in_err-refuse_if-2 : goal.returns-in_err-refuse_if-2
returns-in_err-refuse_if-2 c =
    let w = second_fault (day_of c.args.self) (sym c.has_too_many.ensures ∙ c.in_ok-refuse_if.ensures) (sym c.has_wrong_code.ensures ∙ c.in_err-refuse_if-2.ensures.0) in
    search (rules, w)

pub returns-in_err-refuse_if-3 : goal.returns-in_err-refuse_if-3
returns-in_err-refuse_if-3 c =
    let w = third_fault (day_of c.args.self) (sym c.has_too_many.ensures ∙ c.in_ok-refuse_if.ensures) (sym c.has_wrong_code.ensures ∙ c.in_ok-refuse_if-2.ensures) (sym c.has_wrong_name.ensures ∙ c.in_err-refuse_if-3.ensures.0) in
    search (rules, w)

pub returns-in_err-refuse_if-4 : goal.returns-in_err-refuse_if-4
returns-in_err-refuse_if-4 c =
    let w = fourth_fault (day_of c.args.self) (sym c.has_too_many.ensures ∙ c.in_ok-refuse_if.ensures) (sym c.has_wrong_code.ensures ∙ c.in_ok-refuse_if-2.ensures) (sym c.has_wrong_name.ensures ∙ c.in_ok-refuse_if-3.ensures) (shorts_known c.args.self _ _ c.has_wrong_shorts.ensures c.in_err-refuse_if-4.ensures.0) in
    search (rules, w)

pub returns : goal.returns
returns c = no_fault (day_of c.args.self) (sym c.has_too_many.ensures ∙ c.in_ok-refuse_if.ensures) (sym c.has_wrong_code.ensures ∙ c.in_ok-refuse_if-2.ensures) (sym c.has_wrong_name.ensures ∙ c.in_ok-refuse_if-3.ensures) (shorts_known c.args.self _ _ c.has_wrong_shorts.ensures c.in_ok-refuse_if-4.ensures)
