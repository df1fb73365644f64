-- Where the records of a file stand.
use Rattle.std.specs.Prelude.{◌≡◌, ℕ, List}
use Rattle.rules.specs.FileForm.{counts_size, currencies_in, members_in, instructions_in, steps_in, member_size, currency_at, member_at, instruction_at}
use Rattle.dayfile.specs.declared.layout.Block.{Block}
use Rattle.dayfile.specs.declared.layout.Layout.{Layout}

-- so many records of so many bytes, of which the first begins at a place
pub record IsBlock (b : Block) (n at bytes : ℕ) : Type 0 where
  pub count : b.count ≡ n
  pub first : b.first ≡ at
  pub size : b.size ≡ bytes

-- the blocks of a file, each of which begins where the one before ends
pub record Lays (f : List ℕ) (l : Layout) : Type 0 where
  pub currencies : IsBlock l.currencies (currencies_in f) counts_size 10
  pub members : IsBlock l.members (members_in f) (currency_at f (currencies_in f)) (member_size f)
  pub instructions : IsBlock l.instructions (instructions_in f) (member_at f (members_in f)) 16
  pub steps : IsBlock l.steps (steps_in f) (instruction_at f (instructions_in f)) 8
