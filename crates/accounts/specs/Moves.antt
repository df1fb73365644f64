-- What becomes of the tables when accounts move.
use Rattle.std.specs.Prelude.{◌≡◌, ℕ, ℤ, vec_len}
use Rattle.sheet.specs.Meaning.{sheet_of}
use Rattle.intake.specs.declared.pair.Pair.{Pair}
use Rattle.intake.specs.Parties.{Within}
use Rattle.accounts.specs.declared.accounts.Accounts.{Accounts}
use Rattle.accounts.specs.Meaning.{account, reserve_of, ins_of, outs_of}

-- the accounts become t, and all else stays
pub record Moves (old new : Accounts) (t : ℕ → ℕ → ℤ) : Type 0 where
  pub accounts : account new ≡ t
  pub reserves : reserve_of new ≡ reserve_of old
  pub ins : ins_of new ≡ ins_of old
  pub outs : outs_of new ≡ outs_of old
  pub sheets : new.sheet ≡ old.sheet
  pub rosters : new.members ≡ old.members

-- the parties of a pair are on the roster, and its currencies on the sheet
abbrev pub Placed : Accounts → Pair → Type 0
Placed x p = Within p (vec_len x.members) (sheet_of x.sheet).currencies
