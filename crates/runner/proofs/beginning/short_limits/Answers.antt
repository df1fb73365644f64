use Rattle.std.proofs.Common.{◌≡◌, ℕ, ◌<◌, get_or, length, refl, arith, rules}
use Rattle.std.proofs.lemmas.List.{take_at}
use Rattle.std.proofs.lemmas.List.Prefix.{front_from_reads}
use Rattle.dayfile.specs.Meaning.{shorts_of}
use Rattle.runner.proofs.Filled.{filled, limit_read}
use Rattle.runner.proofs.beginning.short_limits.Goals as goal

pub returns-clause-limits : goal.returns-clause-limits
returns-clause-limits c h =
    let xs = shorts_of c.args.member in
    let ys = c.from_fn.result in
    let items = c.from_fn.ensures.items in
    let P : ℕ → ℕ → Type 0 = λ k y. k < length xs → y ≡ get_or xs k 0 in
    let each = filled _ _ ys P (λ k y q called. (search rules, λ l. search (rules, limit_read))) 24 0 items.each in
    rw (front_from_reads {A = ℕ} 0 ys xs (omega (arith, items.long)) (λ i l. each i (omega arith) (omega arith) l)) (take_at xs _ (length xs) refl)
