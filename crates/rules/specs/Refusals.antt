-- What a refusal says.
use Rattle.std.specs.Prelude.{ℕ, Bool, Option}
use Rattle.rules.specs.First.{Case}

-- the part of the system that refuses
pub data Layer : Type 0 where
  file : Layer
  sheet : Layer
  roster : Layer
  intake : Layer
  session : Layer
  nostro : Layer

-- the number of the cause, the layer, the call's member and currency if it has them, and a place in the file
pub record Refusal : Type 0 where
  pub number : ℕ
  pub layer : Layer
  pub member : Option ℕ
  pub currency : Option ℕ
  pub place : ℕ

-- a cause of a refusal, beside the test of whether it holds; the place is 0
abbrev pub cause : ℕ → Layer → Option ℕ → Option ℕ → Bool → Case Refusal
cause number layer member currency holds = record { name = record { number = number; layer = layer; member = member; currency = currency; place = 0 }; holds = holds }
