-- What the steps of a meter's calls do to what it has.
use Rattle.std.specs.Prelude.{◌≡◌, ◌⊎◌, ℕ, ◌+◌, ◌<◌, ◌≤◌, Some, None, List, [], ◌∷◌, ◌++◌, ◌-◌, length, take, Option, slice_set}
use Rattle.list_laws.proofs.Lists.{In}
use Rattle.flow_times.specs.Flows.{Times, Flow, deadline}
use Rattle.flow_meter.specs.declared.flow.FlowRecord.{FlowRecord}
use Rattle.flow_meter.specs.declared.meter.Meter.{Meter}
use Rattle.flow_meter.specs.Models.{flow_of, times_of}
use Rattle.flow_meter.specs.Held.{flow_at, free_in, places_of, slots_of}

-- a place has another flow, or none, and all else stays
pub record IsPut (old new : Meter) (place : ℕ) (slot : Option FlowRecord) : Type 0 where
  pub times : new.times ≡ old.times
  pub flows : new.flows.items ≡ slice_set old.flows.items place slot
  pub free : new.free.items ≡ old.free.items
  pub left : new.left ≡ old.left

-- the flows stay
pub record IsWithFlows (old new : Meter) : Type 0 where
  pub times : new.times ≡ old.times
  pub flows : new.flows.items ≡ old.flows.items
  pub many : length new.free.items ≡ length old.free.items

-- a place more is free
pub record IsGivenBack (old new : Meter) (place : ℕ) : Type 0 where
  pub free : free_in (slots_of new) ≡ free_in (slots_of old) ++ place ∷ []
  pub left : new.left ≡ old.left + 1

-- where there is room to tell it
abbrev pub GivesBack : (old new : Meter) → ℕ → Type 0
GivesBack old new place = old.left < length old.free.items → IsGivenBack old new place

-- the place is the last one of those that are free
pub record IsFree (meter : Meter) (place : ℕ) : Type 0 where
  pub within : place < places_of meter
  pub some : 0 < meter.left
  pub last : free_in (slots_of meter) ≡ take (meter.left - 1) meter.free.items ++ place ∷ []

-- the one flow ends no later than the other: it has the earlier deadline, or of one deadline the earlier first packet
abbrev pub EndsBy : Times → Flow → Flow → Type 0
EndsBy times one other =
    (one.stretch < other.stretch)
    ⊎ ((one.stretch ≡ other.stretch) × (deadline times one < deadline times other))
    ⊎ ((one.stretch ≡ other.stretch) × (deadline times one ≡ deadline times other) × (one.number ≤ other.number))

-- of the flows at these places one that ends no later than the others
abbrev pub IsSoonest : Meter → List ℕ → Option (ℕ × FlowRecord) → Type 0
IsSoonest meter places None = (place : ℕ) → In place places → flow_at (slots_of meter) place ≡ None
IsSoonest meter places (Some (found, flow)) =
    In found places × (found < places_of meter) × (flow_at (slots_of meter) found ≡ Some (flow_of flow))
    × ((place : ℕ) (other : Flow) → In place places → flow_at (slots_of meter) place ≡ Some other →
    EndsBy (times_of meter.times) (flow_of flow) other)
