use Rattle.std.proofs.Common.{◌≡◌, refl, ◌∙◌, arith}
use Rattle.rules.specs.FileForm.{currencies_in, currency_at}
use Rattle.rules.specs.FileRecords.{part, currency_from, currency_in}
use Rattle.dayfile.specs.Meaning.{currency_of}
use Rattle.dayfile.proofs.Parts.{length_part, currency_in_part}
use Rattle.dayfile.proofs.Formed.{whole, currency_ends, read_there}
use Rattle.dayfile.proofs.dayfile.DayFile.currency.Goals as goal

pub nth-requires : goal.nth-requires
nth-requires c κs =
    let f = c.args.self.bytes.now in
    let formed = c.args.self.formed in
    let e = c.layout.ensures.currencies in
    rw (e.count, e.first, e.size) ((refl, tt), (omega (arith, whole f formed), λ k l. length_part f _ 10 (currency_ends f k formed l)))

pub returns : goal.returns
unfolding currency_in
returns c =
    let f = c.args.self.bytes.now in
    let e = c.layout.ensures.currencies in
    read_there currency_of (λ y. currency_of y ≡ currency_from (part f (currency_at f c.args.i) 10) 0) f (currencies_in f) c.args.i _ _ c.nth.result (rw (e.count, e.first, e.size) at c.nth.ensures)
    (λ l. currency_ends f c.args.i c.args.self.formed l)
    (λ y l q. q ∙ currency_in_part f _)
