-- Records of a run in their order: no two have one place in it.
use Rattle.std.specs.Prelude.{ℕ, ◌<◌, List, [], ◌∷◌}
use Rattle.list_laws.proofs.Lists.{In}
use Rattle.flow_times.specs.Ends.{IsBefore}
use Rattle.flow_times.specs.Flows.{Times}
use Rattle.flow_times.specs.Passes.{Event}
use Rattle.flow_times.specs.Passes.Event.{Takes, Passes}
use Rattle.flow_times.specs.Metered.{AreInOrder, Ended, HaveSameRecords, Rules, end_of, ended_in}

-- the packets' numbers rise
abbrev pub AreNumbered : (last : ℕ) → List Event → Type 0
AreNumbered last [] = Unit {0}
AreNumbered last (Takes packet ∷ events) = (last < packet.number) × AreNumbered packet.number events
AreNumbered last (Passes now ∷ events) = AreNumbered last events

-- no record stands before one that it follows
abbrev pub AreSorted : Times → (lasts : ℕ → ℕ) → List Ended → Type 0
AreSorted times lasts [] = Unit {0}
AreSorted times lasts (one ∷ others) =
    ((other : Ended) → In other others → IsBefore (end_of times lasts other) (end_of times lasts one) → ⊥)
    × AreSorted times lasts others

-- ---- what is promised

-- the records of a run, sorted, are in their order: each stands before all that follow it. So there is one such list.
abbrev pub SortedAreInOrder : Type 0
SortedAreInOrder =
    (rules : Rules) (times : Times) (lasts : ℕ → ℕ) (events : List Event) (records : List Ended) → 0 < rules.items →
    AreNumbered 0 events → HaveSameRecords records (ended_in rules [] events) → AreSorted times lasts records →
    AreInOrder times lasts records
