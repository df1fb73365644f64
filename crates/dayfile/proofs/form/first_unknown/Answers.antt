use Rattle.std.proofs.Common.{◌≡◌, ℕ, true, false, rules}
use Rattle.std.proofs.lemmas.Iterator.{first_from_Range}
use Rattle.rules.specs.FileForm.{kind_cause}
use Rattle.dayfile.proofs.Listed.{first_found}
use Rattle.dayfile.proofs.form.first_unknown.Goals as goal

pub returns : goal.returns
returns c =
    let f = c.args.file.now in
    let yes : ℕ → Type 0 = λ k. (kind_cause f k).holds ≡ true in
    let no : ℕ → Type 0 = λ k. (kind_cause f k).holds ≡ false in
    let found = first_from_Range _ _ _ c.find.result yes no c.find.ensures.ran (λ x q k. search rules) (λ x q k. search rules) in
    record { first = rw (← c.requires.block.count) (first_found (kind_cause f) c.args.steps.count c.find.result found); bound = search rules }
