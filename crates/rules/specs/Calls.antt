-- The session's calls: the causes of each, in order, and what each leaves and answers.
use Rattle.std.specs.Prelude.{ℕ, ◌+◌, ◌-◌, ◌||◌, List, [], ◌∷◌, ◌++◌, length, Some, None, Option, nat_lt}
use Rattle.rules.specs.Bounds.{most_sum, last_hour}
use Rattle.rules.specs.First.{Case, first_of}
use Rattle.rules.specs.Refusals.{Refusal, cause, session, nostro}
use Rattle.rules.specs.Setting.{Setting}
use Rattle.rules.specs.Books.{Reservation, Books, raised, lowered, credited, debited, received, spent}
use Rattle.rules.specs.Causes.{at, pay_in_causes, reserve_causes, held_causes, all_reserved}
use Rattle.rules.specs.Settle.{Settled, settle_all}

-- a call that may change the session
pub data Call : Type 0 where
  pay_in : ℕ → ℕ → ℕ → Call
  clock : ℕ → Call
  settle : Call
  reserve : ℕ → ℕ → ℕ → Call
  pay : Reservation → Call

-- settle answers the pairs settled, the passes made and the pairs waiting
pub data Answer : Type 0 where
  done : Answer
  counts : ℕ → ℕ → ℕ → Answer
  reserved : Reservation → Answer
  refused : Refusal → Answer

-- the causes of a call, in the order in which they are checked
unfoldable pub causes : Setting → Books → Call → List (Case Refusal)
causes s b (pay_in m c a) = pay_in_causes s b m c a ++ at 16 nostro m c (nat_lt most_sum (b.cash c + a)) ∷ []
causes s b (clock h) = cause 17 session None None (nat_lt h b.hour || nat_lt last_hour h) ∷ []
causes s b settle = []
causes s b (reserve m c a) = reserve_causes s b m c a ++ at 20 session m c (nat_lt (b.cash c - all_reserved s b c) a) ∷ []
causes s b (pay r) = held_causes s b r.member r.currency r.amount ++ at 20 nostro r.member r.currency (nat_lt (b.cash r.currency) r.amount) ∷ []

-- what a call leaves and answers
pub record Step : Type 0 where
  pub books : Books
  pub answer : Answer

-- a call that is not refused
unfoldable pub accepted : Setting → Books → Call → Step
accepted s b (pay_in m c a) = record {
  books = record { account = credited b.account m c a; reserve_of = b.reserve_of; paid_in = raised b.paid_in m c a; paid_out = b.paid_out; hour = b.hour; waiting = b.waiting; cash = received b.cash c a };
  answer = done;
}
accepted s b (clock h) = record {
  books = record { account = b.account; reserve_of = b.reserve_of; paid_in = b.paid_in; paid_out = b.paid_out; hour = h; waiting = b.waiting; cash = b.cash };
  answer = done;
}
accepted s b settle =
    let x : Settled = settle_all s b.reserve_of b.account b.waiting in
    record {
      books = record { account = x.balances; reserve_of = b.reserve_of; paid_in = b.paid_in; paid_out = b.paid_out; hour = b.hour; waiting = x.waiting; cash = b.cash };
      answer = counts (length x.settled) x.made (length x.waiting);
    }
accepted s b (reserve m c a) = record {
  books = record { account = debited b.account m c a; reserve_of = raised b.reserve_of m c a; paid_in = b.paid_in; paid_out = b.paid_out; hour = b.hour; waiting = b.waiting; cash = b.cash };
  answer = reserved (record { member = m; currency = c; amount = a });
}
accepted s b (pay r) = record {
  books = record {
    account = b.account;
    reserve_of = lowered b.reserve_of r.member r.currency r.amount;
    paid_in = b.paid_in;
    paid_out = raised b.paid_out r.member r.currency r.amount;
    hour = b.hour;
    waiting = b.waiting;
    cash = spent b.cash r.currency r.amount;
  };
  answer = done;
}

-- a refusal changes nothing
abbrev pub respond_by : Option Refusal → Setting → Books → Call → Step
respond_by None s b q = accepted s b q
respond_by (Some e) s b q = record { books = b; answer = refused e }

-- what the session does at a call: the first cause that holds, or the call itself
unfoldable pub respond : Setting → Books → Call → Step
respond s b q = respond_by (first_of (causes s b q)) s b q
