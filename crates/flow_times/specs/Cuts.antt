-- The flows of one key: its packets, cut where one does not belong to the flow before it.
-- Source: this project's own.
use Rattle.std.specs.Prelude.{◌≡◌, List, [], ◌∷◌, flat_map}
use Rattle.flow_times.specs.Flows.{Times, Use, Flow, Belongs, begun, grown}

-- each of these packets belongs to the flow of those before it
abbrev pub AllBelong : Times → Flow → List Use → Type 0
AllBelong times flow [] = Unit {0}
AllBelong times flow (packet ∷ packets) = Belongs times flow packet × AllBelong times (grown flow packet) packets

-- the flow with all of them
abbrev pub flow_with : Flow → List Use → Flow
flow_with flow [] = flow
flow_with flow (packet ∷ packets) = flow_with (grown flow packet) packets

-- the first packet behind a flow, where there is one, does not belong to it
abbrev pub HasEnded : Times → Flow → List (List Use) → Type 0
HasEnded times flow [] = Unit {0}
HasEnded times flow ([] ∷ groups) = ⊥
HasEnded times flow ((packet ∷ packets) ∷ groups) = Belongs times flow packet → ⊥

-- these groups are the packets of flows, one behind the other
abbrev pub AreFlows : Times → List (List Use) → Type 0
AreFlows times [] = Unit {0}
AreFlows times ([] ∷ groups) = ⊥
AreFlows times ((packet ∷ packets) ∷ groups) =
    AllBelong times (begun packet) packets × HasEnded times (flow_with (begun packet) packets) groups
    × AreFlows times groups

-- ---- what is promised

-- packets are cut in one way
abbrev pub CutInOneWay : Type 0
CutInOneWay = (times : Times) (groups others : List (List Use)) → AreFlows times groups → AreFlows times others →
    flat_map (λ group. group) groups ≡ flat_map (λ group. group) others → groups ≡ others
