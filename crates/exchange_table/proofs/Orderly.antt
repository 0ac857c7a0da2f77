-- The updates of a run have one order, at each of its moments.
use Rattle.std.proofs.Common.{◌≡◌, List, ◌++◌, sym, subst}
use Rattle.plain_map.specs.PlainObject.{InRange}
use Rattle.exchange_model.specs.Plans.{Plan, IsPlan, rules_of}
use Rattle.exchange_model.specs.Steps.{MadeBySeat}
use Rattle.exchange_model.specs.Worlds.{Event, IsRun, opening_world, world_after}
use Rattle.exchange_laws.proofs.OwnedRuns.{front_follows}
use Rattle.exchange_laws.proofs.TiedRuns.{updates_are_ordered}
use Rattle.exchange_laws.proofs.Growing.{orders_grow}
use Rattle.exchange_laws.proofs.SeatLooks.{looks_are_of_moments}
use Rattle.exchange_laws.proofs.PeekMoments.{peeks_are_of_moments}
use Rattle.exchange_laws.proofs.SpentBuckets.{spent_is_found}
use Rattle.exchange_table.specs.Values.{HasOrder}

-- a table that can be opened has rules that a call may come with
pub in_range : (plan : Plan) → IsPlan plan → InRange (rules_of plan)
in_range plan is = record { some_room = is.some_room; items = is.items; depth = is.depth }

-- the front of a run is one
front_run : (plan : Plan) (front back : List Event) → IsRun plan (front ++ back) → IsRun plan front
front_run plan front back run =
    record { opened = run.opened; follow = front_follows plan front back (opening_world plan) run.follow }

-- THE RESULT
pub has_order : (plan : Plan) (known : List Event) → IsRun plan known → HasOrder plan known
has_order plan known run = record {
  ordered = λ front back cut.
      updates_are_ordered plan front (front_run plan front back (subst (IsRun plan) cut run))
      (in_range plan run.opened);
  grows = λ front back cut.
      subst (λ (events : List Event).
      (later : List MadeBySeat) × ((world_after plan events).made ≡ (world_after plan front).made ++ later)) (sym cut)
      (orders_grow plan front back (subst (IsRun plan) cut run));
  looks = looks_are_of_moments plan known run;
  peeks = peeks_are_of_moments plan known run;
  spent = spent_is_found plan known run;
}
