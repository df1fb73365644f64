-- What a session of the runner means: over a single book, by pair number.
use Rattle.std.specs.Prelude.{ℕ, Bool, Some, None, Ok, Err, Option, Result}
use Rattle.rules.specs.Pairs.{Pair}
use Rattle.rules.specs.Orders.{by_number}
use Rattle.rules.specs.Setting.{Setting}
use Rattle.rules.specs.Books.{Books}
use Rattle.rules.specs.Refusals as rules
use Rattle.refusal.specs.declared.refused.Refusal.{Refusal}
use Rattle.refusal.specs.Meaning.{refusal_of}
use Rattle.nostro.specs.declared.single.SingleBook.{SingleBook}
use Rattle.nostro.specs.Holdings.{booked}
use Rattle.queue.specs.declared.by_number.ByNumber.{ByNumber}
use Rattle.session.specs.declared.session.Session.{Session}
use Rattle.session.specs.declared.closed.ClosedDay.{ClosedDay}
use Rattle.session.specs.Meaning.{setting_of, books_of}
use Rattle.session.specs.Closing.{setting_after, books_after}

abbrev pub cash : SingleBook → ℕ → ℕ
cash = booked

abbrev pub before : ByNumber → Pair → Pair → Bool
before o = by_number

abbrev pub setting : Session SingleBook ByNumber → Setting
setting x = setting_of cash before x

abbrev pub books : Session SingleBook ByNumber → Books
books x = books_of cash before x

abbrev pub closed_setting : ClosedDay SingleBook ByNumber → Setting
closed_setting x = setting_after cash before x

abbrev pub closed_books : ClosedDay SingleBook ByNumber → Books
closed_books x = books_after cash before x

-- the refusal that a call answers, if it is refused
abbrev pub refused : Result (Unit {0}) Refusal → Option rules.Refusal
refused (Ok _) = None
refused (Err e) = Some (refusal_of e)
