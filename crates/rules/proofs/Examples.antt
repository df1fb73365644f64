-- The worked cases, by computing.
use Rattle.std.proofs.Common.{refl}
use Rattle.rules.specs.Setting.{queued}
use Rattle.rules.specs.Tests.{stops}
use Rattle.rules.specs.Settle.{pass, passes}
use Rattle.rules.specs.Calls.{causes, accepted, respond}
use Rattle.rules.specs.Worked.{WorkedCases}

pub worked_cases : WorkedCases
unfolding queued stops pass passes causes accepted respond
worked_cases = record {
  an_empty_row_is_worth_0 = refl;
  an_empty_row_passes_test_4 = refl;
  a_row_at_its_short_limit_passes_test_2 = refl;
  a_row_one_below_its_short_limit_fails_test_2 = refl;
  amounts_due_of_100_in_3_instalments = refl;
  without_pay_in_alfa_would_be_worth = refl;
  without_pay_in_alfa_stops_the_deal = refl;
  without_pay_in_nothing_settles = refl;
  with_13_usd_and_11_eur_the_deal_settles = refl;
  with_13_usd_and_11_eur_alfa_is_then_worth = refl;
  with_13_usd_and_11_eur_beta_is_then_worth = refl;
  with_12_usd_and_11_eur_alfa_would_be_worth = refl;
  with_12_usd_and_11_eur_alfa_stops_the_deal = refl;
  with_13_usd_and_10_eur_beta_would_be_worth = refl;
  with_13_usd_and_10_eur_beta_stops_the_deal = refl;
  a_pay_in_of_a_billion_is_accepted = refl;
  one_unit_more_is_refused = refl;
}
