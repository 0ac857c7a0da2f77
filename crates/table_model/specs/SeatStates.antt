-- What a seat is between its steps.
use Rattle.std.specs.Prelude.{ℕ, ◌+◌, ◌-◌, List, [], ◌++◌, length, replicate}
use Rattle.step_counts.specs.declared.rows.SeatRows.{SeatRows}
use Rattle.plain_map.specs.declared.calls.Call.{Call}
use Rattle.plain_map.specs.declared.calls.Reply.{Reply}
use Rattle.plain_map.specs.declared.records.TheConstants.{MOST_SEATS}
use Rattle.plain_map.specs.declared.records.Seen.{Seen}
use Rattle.plain_map.specs.declared.records.Record.{Record}
use Rattle.plain_map.specs.declared.records.Pending.{Pending}
use Rattle.plain_map.specs.Room.{no_rows}
use Rattle.table_model.specs.Phases.{Phase}

-- what a seat has answered, what it had published of each of its ranges after each answer, and what it has published
pub record Account : Type 0 where
  pub records : List Record
  pub spent : List SeatRows
  pub used : SeatRows

-- a call that has begun: what was asked, which one of the seat's calls it is, the done words that it saw, and its steps
pub record Flight : Type 0 where
  pub packet : ℕ
  pub call : Call
  pub number : ℕ
  pub seen : List ℕ
  pub steps : ℕ

-- a seat is idle or in flight
pub data Stand : Type 0 where
  Idle : Stand
  InFlight : (flight : Flight) (phase : Phase) → Stand

pub record SeatState : Type 0 where
  pub account : Account
  pub stand : Stand

-- a seat that has made no call
abbrev pub fresh_seat : SeatState
fresh_seat = record { account = record { records = []; spent = []; used = no_rows }; stand = Idle }

-- the seen counts as they stand in a record, 0 from the last one on
abbrev pub seen_counts : List ℕ → Seen
seen_counts seen = record { counts = seen ++ replicate (MOST_SEATS - length seen) 0 }

-- a call as it begins: the seat's next
abbrev pub begun : Account → (packet : ℕ) → Call → Flight
begun account packet call = record {
  packet = packet;
  call = call;
  number = length account.records + 1;
  seen = [];
  steps = 0;
}

-- the record of an answered call. The store of the done word is the last of its steps
abbrev pub record_of : (seat : ℕ) → Flight → Reply → (place : ℕ) → Record
record_of seat flight reply place = record {
  seat = seat;
  number = flight.number;
  packet = flight.packet;
  call = flight.call;
  reply = reply;
  steps = flight.steps + 1;
  seen = seen_counts flight.seen;
  place = place;
}

-- a call that has begun, as it is told where its seat stops
abbrev pub pending_of : (seat : ℕ) → Flight → Pending
pending_of seat flight = record {
  seat = seat;
  number = flight.number;
  packet = flight.packet;
  call = flight.call;
  seen = seen_counts flight.seen;
}
