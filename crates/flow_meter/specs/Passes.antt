-- A pass over a meter, which takes out what is due.
use Rattle.std.specs.Prelude.{◌≡◌, ℕ, Bool, true, false, not, List, [], ◌∷◌, ◌++◌, filter, map, Option, Some, None}
use Rattle.flow_times.specs.Flows.{Flow}
use Rattle.flow_times.specs.Metered.{HaveSameRecords, is_past, with_time}
use Rattle.flow_meter.specs.declared.clock.Moment.{Moment as Stand}
use Rattle.flow_meter.specs.declared.flow.EndedFlow.{EndedFlow}
use Rattle.flow_meter.specs.declared.meter.Meter.{Meter}
use Rattle.flow_meter.specs.declared.packet.Timeouts.{Timeouts}
use Rattle.flow_meter.specs.Models.{ended_of, flow_of, moment_of, times_of}
use Rattle.flow_meter.specs.Held.{Holds, IsSame, Lets, flow_at, slots_of}

-- what is past at a moment is due, or where there is none, all is
abbrev pub is_due : Timeouts → Option Stand → Flow → Bool
is_due times None flow = true
is_due times (Some now) flow = is_past (times_of times) (moment_of now) flow

-- what is kept of both lists is the same; and what is due in the first one was told, or is due in the second one
pub record HasTold (due : Flow → Bool) (held rest : List Flow) (told : List EndedFlow) : Type 0 where
  pub kept : filter (λ flow. not (due flow)) rest ≡ filter (λ flow. not (due flow)) held
  pub records : HaveSameRecords (map ended_of told ++ map with_time (filter due rest)) (map with_time (filter due held))

-- some of what is due has been taken out, and told
abbrev pub IsPassing : (Flow → Bool) → (old new : Meter) → List EndedFlow → Type 0
IsPassing due old new told =
    (last : ℕ) (held : List Flow) → Holds (slots_of old) last held →
    (rest : List Flow) × Holds (slots_of new) last rest × HasTold due held rest told

-- all of it has been, and the rest is held
abbrev pub HasPassed : (Flow → Bool) → (old new : Meter) → List EndedFlow → Type 0
HasPassed due old new told =
    (last : ℕ) (held : List Flow) → Holds (slots_of old) last held →
    Holds (slots_of new) last (filter (λ flow. not (due flow)) held)
    × HaveSameRecords (map ended_of told) (map with_time (filter due held))

-- what has been told more
abbrev pub Tells : (List EndedFlow → Type 0) → (old new : List EndedFlow) → Type 0
Tells P old new = (told : List EndedFlow) × (new ≡ old ++ told) × P told

-- the flow at a place, if it is due, is taken out and told
pub record TakesOut (test : Flow → Bool) (old new : Meter) (place : ℕ) (ended : EndedFlow) : Type 0 where
  pub by : ended.by ≡ None
  pub due : test (flow_of ended.flow) ≡ true
  pub taken : Lets old new place (Some ended.flow)

-- or none is due there
pub record Leaves (due : Flow → Bool) (old new : Meter) (place : ℕ) : Type 0 where
  pub same : IsSame old new
  pub kept : (flow : Flow) → flow_at (slots_of old) place ≡ Some flow → due flow ≡ false

-- what a pass does at a place, by what it tells
abbrev pub PassesAt : (Flow → Bool) → (old new : Meter) → ℕ → List EndedFlow → Type 0
PassesAt due old new place [] = Leaves due old new place
PassesAt due old new place (ended ∷ []) = TakesOut due old new place ended
PassesAt due old new place (ended ∷ other ∷ others) = ⊥
