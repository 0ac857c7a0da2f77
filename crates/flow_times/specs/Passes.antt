-- A key that is metered packet by packet, while at any moments somebody takes its flow out if that is past.
-- Source: this project's own.
use Rattle.std.specs.Prelude.{◌≡◌, ◌⊎◌, ℕ, ◌+◌, List, [], ◌∷◌, Option, Some, None, sum_by}
use Rattle.flow_times.specs.Moments.{Moment, IsFrom}
use Rattle.flow_times.specs.Flows.{Times, Use, Flow, Belongs, IsPast, begun, grown, packets_of}

-- a packet of the key, or a pass at a moment
pub data Event : Type 0 where
  Takes : (packet : Use) → Event
  Passes : (now : Moment) → Event

abbrev pub moment_of : Event → Moment
moment_of (Takes packet) = packet.moment
moment_of (Passes now) = now

-- the moments of these events, from this one on, do not go back
abbrev pub AreFrom : Moment → List Event → Type 0
AreFrom now [] = Unit {0}
AreFrom now (event ∷ events) = IsFrom now (moment_of event) × AreFrom (moment_of event) events

-- without the passes
abbrev pub takes_in : List Event → List Event
takes_in [] = []
takes_in (Takes packet ∷ events) = Takes packet ∷ takes_in events
takes_in (Passes now ∷ events) = takes_in events

-- where this flow is held, or none, these events put these flows out, in this order; what is held at the end is put
-- out too
abbrev pub PutOut : Times → Option Flow → List Event → List Flow → Type 0
PutOut times None [] out = out ≡ []
PutOut times (Some flow) [] out = out ≡ flow ∷ []
PutOut times None (Takes packet ∷ events) out = PutOut times (Some (begun packet)) events out
PutOut times None (Passes now ∷ events) out = PutOut times None events out
PutOut times (Some flow) (Takes packet ∷ events) out =
    (Belongs times flow packet × PutOut times (Some (grown flow packet)) events out)
    ⊎ ((Belongs times flow packet → ⊥) × (rest : List Flow) × (out ≡ flow ∷ rest)
    × PutOut times (Some (begun packet)) events rest)
PutOut times (Some flow) (Passes now ∷ events) out =
    (IsPast times flow now × (rest : List Flow) × (out ≡ flow ∷ rest) × PutOut times None events rest)
    ⊎ ((IsPast times flow now → ⊥) × PutOut times (Some flow) events out)

-- ---- what is promised

-- passes do not matter: where moments do not go back, the same flows are put out, in the same order, without them
abbrev pub PassesKeepAKey : Type 0
PassesKeepAKey =
    (times : Times) (now : Moment) (events : List Event) (out other : List Flow) → AreFrom now events →
    PutOut times None events out → PutOut times None (takes_in events) other → out ≡ other

-- how many of these events are packets
abbrev pub many_takes : List Event → ℕ
many_takes [] = 0
many_takes (Takes packet ∷ events) = many_takes events + 1
many_takes (Passes now ∷ events) = many_takes events

-- each packet is in one flow that is put out
abbrev pub SumsOfAKeyAreKept : Type 0
SumsOfAKeyAreKept = (times : Times) (events : List Event) (out : List Flow) → PutOut times None events out →
    sum_by packets_of out ≡ many_takes events
