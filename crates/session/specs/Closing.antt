-- What a closed day means in the terms of the rules.
use Rattle.std.specs.Prelude.{ℕ, Bool}
use Rattle.rules.specs.Pairs as rules
use Rattle.rules.specs.Setting.{Setting}
use Rattle.rules.specs.Books.{Books}
use Rattle.session.specs.Meaning.{setting_of, books_of}
use Rattle.session.specs.declared.closed.ClosedDay.{ClosedDay}

module _ {N O : Type 0} (cash : N → ℕ → ℕ) (before : O → rules.Pair → rules.Pair → Bool) where
  abbrev pub setting_after : ClosedDay N O → Setting
  setting_after x = setting_of cash before x.day

  abbrev pub books_after : ClosedDay N O → Books
  books_after x = books_of cash before x.day
