-- A meter behind packets and passes: it holds what the definition holds, and has told what ended.
use Rattle.std.specs.Prelude.{◌≡◌, ℕ, ◌<◌, List, [], ◌∷◌, ◌++◌, map, Some, None}
use Rattle.flow_times.specs.Moments.{Moment}
use Rattle.flow_times.specs.Passes.{Event, AreFrom, takes_in}
use Rattle.flow_times.specs.Passes.Event.{Takes, Passes}
use Rattle.flow_times.specs.Metered.{Ended, HaveSameRecords, Rules, ended_in, metered, run_on}
use Rattle.flow_meter.specs.declared.clock.Moment.{Moment as Stand}
use Rattle.flow_meter.specs.declared.packet.Packet.{Packet}
use Rattle.flow_meter.specs.declared.flow.EndedFlow.{EndedFlow}
use Rattle.flow_meter.specs.declared.meter.Meter.{Meter}
use Rattle.flow_meter.specs.Models.{ended_of, moment_of, times_of, use_of}
use Rattle.flow_meter.specs.Held.{Holds, slots_of}
use Rattle.flow_meter.specs.Passes.{HasPassed, is_due}

-- behind these events, the last packet of which has this number, the meter holds what is held then, and what it told is
-- what has ended
pub record IsBehind (rules : Rules) (events : List Event) (last : ℕ) (meter : Meter) (told : List Ended) : Type 0 where
  pub held : Holds (slots_of meter) last (run_on rules [] events).held
  pub same : HaveSameRecords told (run_on rules [] events).ended

-- ---- what is promised

-- so it is before the first packet
abbrev pub BeginsSo : Type 0
BeginsSo = (rules : Rules) (meter : Meter) → Holds (slots_of meter) 0 [] → IsBehind rules [] 0 meter []

-- behind each packet that did by the definition what it did
abbrev pub TakesSo : Type 0
TakesSo =
    (rules : Rules) (events : List Event) (last : ℕ) (old new : Meter) (packet : Packet) (told ended : List Ended) →
    IsBehind rules events last old told →
    Holds (slots_of new) packet.number (metered rules (run_on rules [] events).held (use_of packet)).held →
    (metered rules (run_on rules [] events).held (use_of packet)).ended ≡ ended →
    IsBehind rules (events ++ Takes (use_of packet) ∷ []) packet.number new (told ++ ended)

-- and behind each pass
abbrev pub PassesSo : Type 0
PassesSo =
    (rules : Rules) (events : List Event) (last : ℕ) (old new : Meter) (now : Stand) (told : List Ended)
    (more : List EndedFlow) → rules.times ≡ times_of old.times → IsBehind rules events last old told →
    HasPassed (is_due old.times (Some now)) old new more →
    IsBehind rules (events ++ Passes (moment_of now) ∷ []) last new (told ++ map ended_of more)

-- in the end the records are those of the packets alone, whatever the passes were
abbrev pub FinishesSo : Type 0
FinishesSo =
    (rules : Rules) (start : Moment) (events : List Event) (last : ℕ) (old new : Meter) (told : List Ended)
    (more : List EndedFlow) → 0 < rules.items → AreFrom start events → IsBehind rules events last old told →
    HasPassed (is_due old.times None) old new more →
    HaveSameRecords (told ++ map ended_of more) (ended_in rules [] (takes_in events))
