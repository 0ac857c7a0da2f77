-- All keys together: packets are metered in their order, and each class of keys has room for so many flows.
-- Source: RFC 7011, 2 (metering process, flow record); classes and their room are this project's own.
use Rattle.std.specs.Prelude.{◌≡◌, ℕ, ◌<◌, ◌≤◌, ◌+◌, nat_eq, nat_lt, min, not, ◌&&◌, ◌||◌, Bool, true, false, if◌then◌else◌, List, [], ◌∷◌, ◌++◌, length, filter, map, sum_by, Option, Some, None}
use Rattle.std.specs.Ordering.{eq_by_cmp}
use Rattle.plain_map.specs.declared.keys.Key.{Key}
use Rattle.plain_map.specs.Keys.{key_cmp}
use Rattle.list_laws.proofs.Lists.{In}
use Rattle.flow_times.specs.Moments.{Moment}
use Rattle.flow_times.specs.Flows.{Times, Use, Flow, begun, grown, deadline, is_closed, opens}
use Rattle.flow_times.specs.Passes.{Event, AreFrom, takes_in}
use Rattle.flow_times.specs.Passes.Event.{Takes, Passes}
use Rattle.flow_times.specs.Ends.{End, IsBefore}

-- by what rules packets are metered: the time-outs, so many flows have room in a class, and each key has its class
pub record Rules : Type 0 where
  pub times : Times
  pub items : ℕ
  pub class_of : Key → ℕ

-- the packet that a flow ended by: a SYN on a closed flow, or the first packet of a flow that took its place
pub record Cause : Type 0 where
  pub number : ℕ
  pub clock : ℕ
  pub is_room : Bool

-- a flow that has ended: by a packet, or by none and so with its deadline or its stretch
pub record Ended : Type 0 where
  pub flow : Flow
  pub by : Option Cause

-- ---- tests

-- the keys are one
abbrev pub same_key : Key → Key → Bool
same_key one other = eq_by_cmp key_cmp one other

-- the flow is of that key
abbrev pub is_at : Key → Flow → Bool
is_at key flow = same_key key flow.key

-- or of another one
abbrev pub is_other : Key → Flow → Bool
is_other key flow = not (same_key key flow.key)

-- the flow is of that class
abbrev pub is_in : Rules → ℕ → Flow → Bool
is_in rules class flow = nat_eq (rules.class_of flow.key) class

-- a packet of its key belongs to the flow
abbrev pub takes : Times → Flow → Use → Bool
takes times flow packet =
    nat_eq packet.moment.stretch flow.stretch && (not (nat_lt (deadline times flow) packet.moment.clock)
    && not (is_closed times flow && opens packet))

-- at this moment its deadline has passed, or its stretch
abbrev pub is_past : Times → Moment → Flow → Bool
is_past times now flow =
    nat_lt flow.stretch now.stretch || (nat_eq flow.stretch now.stretch && nat_lt (deadline times flow) now.clock)

-- or neither has
abbrev pub is_live : Times → Moment → Flow → Bool
is_live times now flow = not (is_past times now flow)

-- the one flow has the earlier deadline, or of one deadline the earlier first packet
abbrev pub is_sooner : Times → Flow → Flow → Bool
is_sooner times one other =
    nat_lt one.stretch other.stretch || (nat_eq one.stretch other.stretch
    && (nat_lt (deadline times one) (deadline times other)
    || (nat_eq (deadline times one) (deadline times other) && nat_lt one.number other.number)))

-- of these flows the one with the earliest deadline
abbrev pub soonest : Times → Flow → List Flow → Flow
soonest times flow [] = flow
soonest times flow (other ∷ others) = soonest times (if is_sooner times other flow then other else flow) others

-- ---- a packet

-- what is held behind a packet, and what ended by it
pub record Metered : Type 0 where
  pub held : List Flow
  pub ended : List Ended

-- what ends with its deadline or its stretch
abbrev pub with_time : Flow → Ended
with_time flow = record { flow = flow; by = None }

-- a flow that makes way for a packet: it ends by that packet, if it had not ended before
abbrev pub made_way : Times → (is_room : Bool) → Flow → Use → Ended
made_way times is_room flow packet = record {
  flow = flow;
  by = if is_past times packet.moment flow then None
      else Some (record { number = packet.number; clock = packet.moment.clock; is_room = is_room });
}

-- where no flow of its key is held, and these of its class are: in a full class the one that would end first makes way
abbrev pub begun_in : Rules → List Flow → Use → List Flow → Metered
begun_in rules held packet [] = record { held = begun packet ∷ held; ended = [] }
begun_in rules held packet (flow ∷ flows) =
    if nat_lt (length (flow ∷ flows)) rules.items then record { held = begun packet ∷ held; ended = [] }
    else record {
      held = begun packet ∷ filter (is_other (soonest rules.times flow flows).key) held;
      ended = made_way rules.times true (soonest rules.times flow flows) packet ∷ [];
    }

-- where these flows of its key are held, which is one at most
abbrev pub taken_by : Rules → List Flow → Use → List Flow → Metered
taken_by rules held packet [] =
    begun_in rules held packet (filter (is_in rules (rules.class_of packet.key)) held)
taken_by rules held packet (flow ∷ flows) =
    if takes rules.times flow packet then
    record { held = grown flow packet ∷ filter (is_other packet.key) held; ended = [] }
    else record {
      held = begun packet ∷ filter (is_other packet.key) held;
      ended = made_way rules.times false flow packet ∷ [];
    }

-- what a packet makes of what is held
abbrev pub metered : Rules → List Flow → Use → Metered
metered rules held packet = taken_by rules held packet (filter (is_at packet.key) held)

-- ---- packets, and passes, which may come at any moment and take out what is past

-- what ends, one behind the other, where these are held: what is held at the end ends then
abbrev pub ended_in : Rules → List Flow → List Event → List Ended
ended_in rules held [] = map with_time held
ended_in rules held (Takes packet ∷ events) =
    (metered rules held packet).ended ++ ended_in rules (metered rules held packet).held events
ended_in rules held (Passes now ∷ events) =
    map with_time (filter (is_past rules.times now) held)
    ++ ended_in rules (filter (is_live rules.times now) held) events

-- what ended of that key
abbrev pub of_key : Key → List Ended → List Ended
of_key key = filter (λ ended. same_key key ended.flow.key)

-- each key has the same records in both lists, one behind the other
abbrev pub HaveSameRecords : List Ended → List Ended → Type 0
HaveSameRecords one other = (key : Key) → of_key key one ≡ of_key key other

-- the packets of a class, with all passes
abbrev pub in_class : Rules → ℕ → List Event → List Event
in_class rules class [] = []
in_class rules class (Takes packet ∷ events) =
    if nat_eq (rules.class_of packet.key) class then Takes packet ∷ in_class rules class events
    else in_class rules class events
in_class rules class (Passes now ∷ events) = Passes now ∷ in_class rules class events

-- the packets of a key
abbrev pub at_key : Key → List Event → List Event
at_key key [] = []
at_key key (Takes packet ∷ events) =
    if same_key key packet.key then Takes packet ∷ at_key key events else at_key key events
at_key key (Passes now ∷ events) = Passes now ∷ at_key key events

-- a flow made way for want of room
abbrev pub is_by_room : Option Cause → Bool
is_by_room None = false
is_by_room (Some cause) = cause.is_room

-- ---- what is promised

-- passes do not matter, with full classes or without: each key has the same records
abbrev pub PassesDoNotMatter : Type 0
PassesDoNotMatter =
    (rules : Rules) (now : Moment) (events : List Event) → 0 < rules.items → AreFrom now events →
    HaveSameRecords (ended_in rules [] events) (ended_in rules [] (takes_in events))

-- what ends of a class is what ends of its own packets: classes can be metered apart
abbrev pub ClassesAreApart : Type 0
ClassesAreApart =
    (rules : Rules) (class : ℕ) (events : List Event) → 0 < rules.items →
    filter (λ ended. is_in rules class ended.flow) (ended_in rules [] events)
    ≡ ended_in rules [] (in_class rules class events)

-- where no flow made way for want of room, what ends of a key is what ends of its own packets
abbrev pub KeysAreApart : Type 0
KeysAreApart =
    (rules : Rules) (now : Moment) (key : Key) (events : List Event) → 0 < rules.items → AreFrom now events →
    ((ended : Ended) → In ended (ended_in rules [] events) → is_by_room ended.by ≡ false) →
    of_key key (ended_in rules [] events) ≡ of_key key (ended_in rules [] (at_key key events))

-- so many packets there are, with so much payload and so many octets
abbrev pub sum_of : (Use → ℕ) → List Event → ℕ
sum_of amount [] = 0
sum_of amount (Takes packet ∷ events) = amount packet + sum_of amount events
sum_of amount (Passes now ∷ events) = sum_of amount events

-- in all records there are as many packets, as much payload and as many octets as in all packets, in every case
pub record AreKept (events : List Event) (ended : List Ended) : Type 0 where
  pub packets : sum_by (λ one. one.flow.low.packets + one.flow.high.packets) ended ≡ sum_of (λ packet. 1) events
  pub payload : sum_by (λ one. one.flow.low.payload + one.flow.high.payload) ended
      ≡ sum_of (λ packet. packet.payload) events
  pub octets : sum_by (λ one. one.flow.low.octets + one.flow.high.octets) ended
      ≡ sum_of (λ packet. packet.octets) events

-- in every case sums are kept, with full classes too
abbrev pub SumsAreKept : Type 0
SumsAreKept = (rules : Rules) (events : List Event) → 0 < rules.items → AreKept events (ended_in rules [] events)

-- ---- the order of records

-- when a flow ended: at the clock of the packet that it ended by, else at its deadline, or with its stretch, which
-- ended at such a clock
abbrev pub ended_at : Times → (lasts : ℕ → ℕ) → Flow → Option Cause → Moment
ended_at times lasts flow None =
    record { stretch = flow.stretch; clock = min (deadline times flow) (lasts flow.stretch) }
ended_at times lasts flow (Some cause) = record { stretch = flow.stretch; clock = cause.clock }

-- the packet that it ended by
abbrev pub packet_in : Option Cause → Option ℕ
packet_in None = None
packet_in (Some cause) = Some cause.number

-- where its record stands in the order of ends
abbrev pub end_of : Times → (lasts : ℕ → ℕ) → Ended → End
end_of times lasts ended =
    record { at = ended_at times lasts ended.flow ended.by; by = packet_in ended.by; number = ended.flow.number }

-- each record stands before all that follow it
abbrev pub AreInOrder : Times → (lasts : ℕ → ℕ) → List Ended → Type 0
AreInOrder times lasts [] = Unit {0}
AreInOrder times lasts (one ∷ others) =
    ((other : Ended) → In other others → IsBefore (end_of times lasts one) (end_of times lasts other))
    × AreInOrder times lasts others

-- records have one order: of two lists of the same records that are both in order, each is the other
abbrev pub RecordsHaveOneOrder : Type 0
RecordsHaveOneOrder =
    (times : Times) (lasts : ℕ → ℕ) (one other : List Ended) → HaveSameRecords one other →
    AreInOrder times lasts one → AreInOrder times lasts other → one ≡ other

-- ---- what can be printed

-- what is held, and what has ended, behind these events
abbrev pub run_on : Rules → List Flow → List Event → Metered
run_on rules held [] = record { held = held; ended = [] }
run_on rules held (Takes packet ∷ events) = record {
  held = (run_on rules (metered rules held packet).held events).held;
  ended = (metered rules held packet).ended ++ (run_on rules (metered rules held packet).held events).ended;
}
run_on rules held (Passes now ∷ events) = record {
  held = (run_on rules (filter (is_live rules.times now) held) events).held;
  ended = map with_time (filter (is_past rules.times now) held)
      ++ (run_on rules (filter (is_live rules.times now) held) events).ended;
}

-- the packets have no greater numbers
abbrev pub AreUpTo : ℕ → List Event → Type 0
AreUpTo last [] = Unit {0}
AreUpTo last (Takes packet ∷ events) = (packet.number ≤ last) × AreUpTo last events
AreUpTo last (Passes now ∷ events) = AreUpTo last events

-- or they have greater ones
abbrev pub AreBehind : ℕ → List Event → Type 0
AreBehind last [] = Unit {0}
AreBehind last (Takes packet ∷ events) = (last < packet.number) × AreBehind last events
AreBehind last (Passes now ∷ events) = AreBehind last events

-- fronts are final: behind a pass over all that is held, what has ended stands before all that will end. So the
-- records of each portion can be printed in their order, one portion behind the other, wherever the packets are cut.
abbrev pub FrontsAreFinal : Type 0
FrontsAreFinal =
    (rules : Rules) (lasts : ℕ → ℕ) (start now : Moment) (last : ℕ) (front back : List Event) → 0 < rules.items →
    AreFrom start (front ++ Passes now ∷ []) → AreFrom now back → AreUpTo last front → AreBehind last back →
    now.clock ≤ lasts now.stretch → (one other : Ended) →
    In one (run_on rules [] (front ++ Passes now ∷ [])).ended →
    In other (ended_in rules (run_on rules [] (front ++ Passes now ∷ [])).held back) →
    IsBefore (end_of rules.times lasts one) (end_of rules.times lasts other)
