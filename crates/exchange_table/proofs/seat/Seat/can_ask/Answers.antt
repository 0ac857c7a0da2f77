use Rattle.std.proofs.Common.{◌≤◌, length, subst}
use Rattle.exchange_table.specs.Parties.{PartyValue, own_answers}
use Rattle.exchange_table.specs.Values.{asked_times}
use Rattle.exchange_table.proofs.Counted.{asked_few}
use Rattle.exchange_table.proofs.seat.Seat.can_ask.Goals as goal

pub returns-clause-counted : goal.returns-clause-counted
returns-clause-counted c =
    subst (λ (p : PartyValue). asked_times p ≤ length (own_answers p.holding)) c.self.view_is
    (asked_few c.self.inside.desk c.self.inside.badge.views c.self.invariant.stands)
