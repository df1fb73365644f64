-- Worked cases: one small day, with the figures that the rules give.
use Rattle.std.specs.Prelude.{◌≡◌, ℕ, true, false, cond, [], ◌∷◌, ℤ, pos, neg_ℤ, Some, None, codes, Option, ◌==◌}
use Rattle.rules.specs.Refusals.{session}
use Rattle.rules.specs.Sheet.{Currency}
use Rattle.rules.specs.Roster.{Member}
use Rattle.rules.specs.Pairs.{Pair, after_pair}
use Rattle.rules.specs.Setting.{Setting}
use Rattle.rules.specs.Orders.{by_number}
use Rattle.rules.specs.Schedule.{due}
use Rattle.rules.specs.Worth.{adjusted}
use Rattle.rules.specs.Tests.{Stop, fails_2, fails_4, stops}
use Rattle.rules.specs.Books.{Books, opened}
use Rattle.rules.specs.Calls.{pay_in, settle, done, counts, refused, respond}

-- currencies 0 and 1
abbrev pub usd : Currency
usd = record { code = codes "USD"; rate = 10000; haircut = 20; instalments = 5 }

abbrev pub eur : Currency
eur = record { code = codes "EUR"; rate = 11000; haircut = 100; instalments = 3 }

-- members 0 and 1
abbrev pub alfa : Member
alfa = record { name = codes "ALFA"; short = λ c. 1000; aggregate = 20000000 }

abbrev pub beta : Member
beta = record { name = codes "BETA"; short = λ c. 1000; aggregate = 20000000 }

-- ALFA buys 100 EUR for 110 USD from BETA
abbrev pub deal : Pair
deal = record { number = 1; first = 0; second = 1; buys = 1; bought = 100; sells = 0; sold = 110; reference = 7; weight = 1100000 }

abbrev pub worked : Setting
worked = record {
  sheet = record { currencies = 2; currency = λ c. cond (c == 0) usd eur };
  roster = record { members = 2; member = λ m. cond (m == 0) alfa beta };
  pairs = deal ∷ [];
  before = by_number;
}

-- the session at its opening, over an empty nostro
abbrev pub new : Books
new = opened worked (λ c. 0)

-- the session after ALFA has paid in so many USD and BETA so many EUR
abbrev pub funded : ℕ → ℕ → Books
funded u e = (respond worked (respond worked new (pay_in 0 0 u)).books (pay_in 1 1 e)).books

-- what a member's row is worth, in thousandths of a mark: as it is, and as it would be after both legs of the deal
abbrev pub worth : Books → ℕ → ℤ
worth b m = adjusted worked.sheet (b.account m)

abbrev pub worth_after : Books → ℕ → ℤ
worth_after b m = adjusted worked.sheet (after_pair b.account deal m)

-- what stops the deal
abbrev pub stopped : Books → Option Stop
stopped b = stops worked b.reserve_of b.account deal

-- a member's row is worth less than 0
abbrev pub by_worth : ℕ → Option Stop
by_worth m = Some (record { test = 4; member = m; currency = None })

pub record WorkedCases : Type 0 where
  pub an_empty_row_is_worth_0 : worth new 0 ≡ pos 0
  pub an_empty_row_passes_test_4 : (fails_4 worked new.account 0).holds ≡ false
  pub a_row_at_its_short_limit_passes_test_2 : (fails_2 worked (λ m c. neg_ℤ (pos 1000)) 0 0).holds ≡ false
  pub a_row_one_below_its_short_limit_fails_test_2 : (fails_2 worked (λ m c. neg_ℤ (pos 1001)) 0 0).holds ≡ true
  pub amounts_due_of_100_in_3_instalments : due 100 1 3 0 ∷ due 100 2 3 0 ∷ due 100 3 3 0 ∷ due 100 4 3 0 ∷ due 100 5 3 0 ∷ [] ≡ 34 ∷ 67 ∷ 100 ∷ 100 ∷ 100 ∷ []
  pub without_pay_in_alfa_would_be_worth : worth_after new 0 ≡ neg_ℤ (pos 132000000)
  pub without_pay_in_alfa_stops_the_deal : stopped new ≡ by_worth 0
  pub without_pay_in_nothing_settles : (respond worked new settle).answer ≡ counts 0 1 1
  pub with_13_usd_and_11_eur_the_deal_settles : (respond worked (funded 13 11) settle).answer ≡ counts 1 2 0
  pub with_13_usd_and_11_eur_alfa_is_then_worth : worth (respond worked (funded 13 11) settle).books 0 ≡ pos 600000
  pub with_13_usd_and_11_eur_beta_is_then_worth : worth (respond worked (funded 13 11) settle).books 1 ≡ pos 1100000
  pub with_12_usd_and_11_eur_alfa_would_be_worth : worth_after (funded 12 11) 0 ≡ neg_ℤ (pos 9600000)
  pub with_12_usd_and_11_eur_alfa_stops_the_deal : stopped (funded 12 11) ≡ by_worth 0
  pub with_13_usd_and_10_eur_beta_would_be_worth : worth_after (funded 13 10) 1 ≡ neg_ℤ (pos 11000000)
  pub with_13_usd_and_10_eur_beta_stops_the_deal : stopped (funded 13 10) ≡ by_worth 1
  pub a_pay_in_of_a_billion_is_accepted : (respond worked new (pay_in 0 0 1000000000)).answer ≡ done
  pub one_unit_more_is_refused : (respond worked (respond worked new (pay_in 0 0 1000000000)).books (pay_in 0 0 1)).answer ≡ refused (record { number = 14; layer = session; member = Some 0; currency = Some 0; place = 0 })
