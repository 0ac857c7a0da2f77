use Rattle.exchange_laws.proofs.CountedCalls.{askings_are_counted, in_flight_is_answered}
use Rattle.exchange_laws.proofs.PostedCounts.{announcements_are_counted}
use Rattle.exchange_laws.proofs.RestCounts.{answers_stay}
use Rattle.exchange_laws.proofs.laws.call_laws.Goals as goal

pub returns : goal.returns
returns c = record {
  answers_stay = answers_stay;
  counted = askings_are_counted;
  announced = announcements_are_counted;
  answered_first = in_flight_is_answered;
}
