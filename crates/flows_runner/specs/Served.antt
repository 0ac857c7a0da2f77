-- Packets that are served: their calls are made on one table that lasts, by as many callers as are asked for.
-- Source: this project's own.
use Rattle.std.specs.Prelude.{◌≡◌, ℕ, List, map, All}
use Rattle.plain_map.specs.declared.calls.Call.{Call}
use Rattle.mode_parts.specs.PacketCalls.{MakeCalls}
use Rattle.map_laws.specs.ByKey.{Made}
use Rattle.lasting_model.specs.Plans.{Plan}
use Rattle.lasting_model.specs.Laws.{IsWithin}
use Rattle.lasting_model.specs.Worlds.{Event, IsRun, world_after}
use Rattle.lasting_laws.specs.Orders.{AllAreIdle}
use Rattle.flow_laws.specs.FlowOrders.{AreAnswered}
use Rattle.flows_runner.specs.declared.asked.Asked.{Asked}
use Rattle.flows_runner.specs.Asked.{IsPlanOf, flow_seat, rules_of}

-- what a table was opened with, all that happened on it, and the calls of all packets in packet order, each with its
-- reply
pub record Served : Type 0 where
  pub plan : Plan
  pub events : List Event
  pub made : List Made

-- These packets were served so: there is a run of one lasting table in which each seat was answered the calls of its
-- flows, in packet order, and each call took no more steps than its bound.
pub record AreServed (asked : Asked) (packets : List (List ℕ)) (served : Served) : Type 0 where
  pub opened : IsPlanOf asked served.plan
  -- the calls are those of the packets
  pub calls : List (ℕ × Call)
  pub make : MakeCalls asked.calling 1 packets calls
  pub made_are : map (λ (one : Made). one.0) served.made ≡ map (λ (call : ℕ × Call). call.1) calls
  -- they were answered in a run, and none is under way
  pub run : IsRun served.plan served.events
  pub rest : AllAreIdle served.plan (world_after served.plan served.events)
  pub answered : AreAnswered served.plan (flow_seat (rules_of asked) asked.seats)
      (world_after served.plan served.events) served.made
  pub bounded : All (IsWithin served.plan.settings) (world_after served.plan served.events).answers
