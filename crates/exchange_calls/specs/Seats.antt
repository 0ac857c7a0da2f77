-- What a seat keeps for itself, and what a whole update comes to.
use Rattle.std.specs.Prelude.{◌≡◌, ℕ, ◌+◌, ◌<◌, ◌^◌, Option, Some, None}
use Rattle.plain_map.specs.declared.calls.Call.{Call}
use Rattle.plain_map.specs.declared.calls.Reply.{Reply}
use Rattle.plain_map.specs.Updates.{IsUpdate}
use Rattle.exchange_model.specs.Steps.{Ending, Applied, GivenUp, Idle, bucket_of_call}
use Rattle.exchange_model.specs.Goes as M
use Rattle.exchange_model.specs.Goes.{Told, with_free}
use Rattle.exchange_calls.specs.Going.{Going}
use Rattle.exchange_calls.specs.Desks.{IsOf}
use Rattle.exchange_calls.specs.Hands.{making}
use Rattle.exchange_calls.specs.OwnRowsView.{free_of, kept_of}
use Rattle.exchange_calls.specs.Tries.{AreRowsOf}
use Rattle.exchange_calls.specs.declared.desk.Desk.{Desk}
use Rattle.exchange_calls.specs.declared.own.Own.{Own}
use Rattle.exchange_calls.specs.declared.own_rows.OwnRows.{OwnRows}
use Rattle.exchange_calls.specs.declared.seat_state.SeatState.{SeatState}
use Rattle.exchange_calls.specs.declared.updates.Updated.{Updated}
use Rattle.exchange_calls.specs.declared.updates.Updated.TheVariants.{Replied, Spent, Refused}

-- this is what the seat keeps where no scan of it is under way
pub record IsSeatOf (g : Going) (seat : SeatState) : Type 0 where
  pub rows : AreRowsOf g seat.rows
  pub time : seat.time ≡ g.now.time
  pub posted : seat.posted ≡ g.now.posted
  pub scan : g.now.scan ≡ None

-- the same caller, which keeps this now
abbrev pub keeping : Going → SeatState → Going
keeping g seat = record g {
  now = record g.now {
    posted = seat.posted;
    time = seat.time;
    free = free_of seat.rows;
    kept = kept_of seat.rows;
  };
}

-- the update at hand is one of the seat at this desk, and can be announced
pub record IsOwn (g : Going) (desk : Desk) (own : Own) : Type 0 where
  pub desk_is : IsOf g desk
  pub seat : desk.holder < desk.sizes.seats
  pub bucket : own.bucket ≡ bucket_of_call g.plan own.call
  pub short : own.bucket < 2 ^ 20
  pub number : own.number ≡ g.now.posted
  pub few : own.number + 1 < 2 ^ 43
  pub update : IsUpdate own.call

-- how an announced update ends: it has a reply, or its bucket is spent
abbrev pub ending_of : Option Reply → Ending
ending_of None = GivenUp
ending_of (Some reply) = Applied reply

-- ---- a whole update

-- it has begun with these rows, and its scan is over, if it made one
abbrev pub begun : Going → OwnRows → Call → Going
begun g rows call =
    making (record g { now = record g.now { free = free_of rows; kept = kept_of rows }; told = None }) call
    (with_free (free_of rows))

-- what the caller is told
abbrev pub told_by_update : Updated → Told
told_by_update (Replied reply) = M.Replied reply
told_by_update Spent = M.Spent
told_by_update Refused = M.Refused

-- how many updates are answered by then
abbrev pub answered_by : Updated → (before : ℕ) → ℕ
answered_by (Replied reply) before = before + 1
answered_by Spent before = before
answered_by Refused before = before

-- it has ended so, and the seat keeps this by then
abbrev pub updated : Going → SeatState → Updated → Going
updated g seat result = record g {
  now = record (keeping g seat).now { answered = answered_by result g.now.answered; stand = Idle };
  told = Some (told_by_update result);
}
