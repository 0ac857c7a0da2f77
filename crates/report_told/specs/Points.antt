-- What makes a report right: its calls, and the one list of its order lines.
-- Source: this project's own, after the sequential specification and the order of a linearizable history in
-- Herlihy and Wing, "Linearizability", 1990.
use Rattle.std.specs.Prelude.{◌≡◌, ℕ, suc, ◌+◌, ◌≤◌, ◌==◌, Bool, true, false, List, [], ◌∷◌, ◌++◌, map, filter, flat_map, count_by, All}
use Rattle.std.specs.FinMap.{empty}
use Rattle.plain_map.specs.declared.rules.Rules.{Rules}
use Rattle.plain_map.specs.declared.records.Record.{Record}
use Rattle.plain_map.specs.declared.records.Pending.{Pending}
use Rattle.plain_map.specs.PlainObject.{pairs_of}
use Rattle.plain_map.specs.History.{Placed, answered, pending as waiting, packet_of, After, Legal, sessions_after}
use Rattle.report_text.specs.declared.parts.Head.{Head}
use Rattle.report_told.specs.declared.told.Ended.{Ended}
use Rattle.report_told.specs.declared.told.Ended.TheVariants.{Answered, Refused}
use Rattle.report_told.specs.declared.told.CallLine.{CallLine}
use Rattle.report_told.specs.Told.{Entry, call, pending, order, Told}
use Rattle.report_told.specs.Rules.{times}
use Rattle.plain_map.specs.Calls.{is_update}

-- The calls of the lines.

-- the line is of an answered call of the seat
abbrev pub is_answer_of : (seat : ℕ) → CallLine → Ended → Bool
is_answer_of seat told (Answered reply steps seen) = told.seat == seat
is_answer_of seat told (Refused full) = false

abbrev pub is_answered_by : (seat : ℕ) → Entry → Bool
is_answered_by seat (call told) = is_answer_of seat told told.ended
is_answered_by seat (pending told) = false
is_answered_by seat (order packets) = false

-- how many calls of the seat these lines answer
abbrev pub answers_of : (seat : ℕ) → List Entry → ℕ
answers_of seat entries = count_by (is_answered_by seat) entries

-- the answered call of a line: its number is its place among its seat's answered lines; nothing is told of its row
abbrev pub record_of : (number : ℕ) → CallLine → Ended → List Record
record_of number told (Answered reply steps seen) = record {
  seat = told.seat;
  number = number;
  packet = told.packet;
  call = told.call;
  reply = reply;
  steps = steps;
  seen = seen;
  place = 0;
} ∷ []
record_of number told (Refused full) = []

abbrev pub record_told : (before : List Entry) → Entry → List Record
record_told before (call told) = record_of (suc (answers_of told.seat before)) told told.ended
record_told before (pending told) = []
record_told before (order packets) = []

-- the answered calls of these lines, behind others
abbrev pub records_behind : (before : List Entry) → List Entry → List Record
records_behind before [] = []
records_behind before (entry ∷ entries) =
    record_told before entry ++ records_behind (before ++ entry ∷ []) entries

abbrev pub records_told : Told → List Record
records_told told = records_behind [] told.entries

-- the pending calls: the number of each is one above its seat's last
abbrev pub pending_in : (all : List Entry) → Entry → List Pending
pending_in all (call told) = []
pending_in all (pending told) = record {
  seat = told.seat;
  number = suc (answers_of told.seat all);
  packet = told.packet;
  call = told.call;
  seen = told.seen;
} ∷ []
pending_in all (order packets) = []

abbrev pub pending_told : Told → List Pending
pending_told told = flat_map (pending_in told.entries) told.entries

-- the one list of the order lines
abbrev pub packets_told : Entry → List ℕ
packets_told (call told) = []
packets_told (pending told) = []
packets_told (order packets) = packets

abbrev pub order_told : Told → List ℕ
order_told told = flat_map packets_told told.entries

-- the calls in it: to each packet those that came from it, which is one where the list is whole
abbrev pub calls_told : Told → List Placed
calls_told told = map answered (records_told told) ++ map waiting (pending_told told)

abbrev pub placed_told : Told → List Placed
placed_told told =
    flat_map (λ packet. filter (λ placed. packet_of placed == packet) (calls_told told)) (order_told told)

-- the plain map's rules
abbrev pub rules_told : Head → Rules
rules_told head = record { items = head.items; depth = head.depth; hashing = head.hashing }

-- The five points.

-- the packets of answered calls, and of pending updates
abbrev pub answered_packets : Told → List ℕ
answered_packets told = map (λ r. r.packet) (records_told told)

abbrev pub effect_packets : Told → List ℕ
effect_packets told = map (λ u. u.packet) (filter (λ u. is_update u.call) (pending_told told))

-- how often a packet stands in the order
abbrev pub standing : Told → (packet : ℕ) → ℕ
standing told packet = times packet (order_told told)

-- an answered call stands once, a pending update once at most, and nothing else stands
pub record StandsRight (told : Told) (packet : ℕ) : Type 0 where
  pub once : 1 ≤ times packet (answered_packets told) → standing told packet ≡ 1
  pub at_most : 1 ≤ times packet (effect_packets told) → standing told packet ≤ 1
  pub known : 1 ≤ standing told packet → 1 ≤ times packet (answered_packets told) + times packet (effect_packets told)

abbrev pub IsWhole : Told → Type 0
IsWhole told = (packet : ℕ) → StandsRight told packet

-- an update takes no more steps than the bound
abbrev pub IsShortEnough : (bound : ℕ) → Record → Type 0
IsShortEnough bound r = is_update r.call ≡ true → r.steps ≤ bound

pub record IsRight (told : Told) : Type 0 where
  pub whole : IsWhole told
  -- each call stands after its seat's earlier ones, and after all that its caller had seen
  pub after : After (placed_told told)
  -- the plain map gives each answered call its reply
  pub legal : Legal (rules_told told.head) empty (placed_told told)
  -- and the sessions are what it holds in the end
  pub sessions : told.pairs ≡ pairs_of (sessions_after (rules_told told.head) empty (placed_told told))
  pub steps : All (IsShortEnough told.tail.bound) (records_told told)
