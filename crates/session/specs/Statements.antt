-- What a request for a statement answers, and what it leaves in the caller's buffer.
use Rattle.std.specs.Prelude.{◌≡◌, ℕ, false, List, ◌++◌, length, drop, Some, None, Ok, Err, Result}
use Rattle.rules.specs.First.{first_of}
use Rattle.rules.specs.Setting.{Setting}
use Rattle.rules.specs.Books.{Books}
use Rattle.rules.specs.Statements.{statement_of, statement_causes}
use Rattle.refusal.specs.declared.refused.Refusal.{Refusal}
use Rattle.refusal.specs.Meaning.{refusal_of}
use Rattle.ledger.specs.declared.ledger.Ledger.{Ledger}
use Rattle.ledger.specs.Meaning.{setting_by}

-- a ledger's setting, whatever the order: a statement does not depend on it
abbrev pub unordered : Ledger → Setting
unordered x = setting_by (λ p q. false) x

-- the statement's length, with the statement at the buffer's front and the rest as it was; or a refusal, with every byte as it was
abbrev pub Stated : Setting → Books → ℕ → List ℕ → Result ℕ Refusal → List ℕ → Type 0
Stated s b m old (Ok n) new = (first_of (statement_causes s b m (length old)) ≡ None) × (n ≡ length (statement_of s b m)) × (new ≡ statement_of s b m ++ drop n old)
Stated s b m old (Err e) new = (first_of (statement_causes s b m (length old)) ≡ Some (refusal_of e)) × (new ≡ old)
