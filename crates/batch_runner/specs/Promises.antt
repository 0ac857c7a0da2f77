-- What holds of batches that were served, whatever the interleaving: one right order of all calls, steps within the
-- bound, and leaves that cover and have their cause.
use Rattle.std.specs.Prelude.{◌≡◌, ◌≤◌, List, [], map, flat_map, All}
use Rattle.std.specs.FinMap.{empty}
use Rattle.step_counts.specs.StepCounts.{step_bound}
use Rattle.plain_map.specs.PlainObject.{Sessions, pairs_of}
use Rattle.table_model.specs.Promises.{HasSteps}
use Rattle.table_model.specs.Closed.{Cover, Warranted, greatest_depth}
use Rattle.trace_share.specs.Outcomes.{records_in}
use Rattle.batch_history.specs.Batches.{AreOneOrder}
use Rattle.batch_deals.specs.declared.service.Service.{Service}
use Rattle.batch_runner.specs.Served.{Served, AreServed, history_in, leaves_in, depth_in, order_in, pairs_left, setup_of_batch}
use Rattle.batch_deals.specs.Opens.{rules_of}

-- one batch: each update took no more steps than the bound of its table, which is no greater than that of the settings,
-- and each lookup exactly its own; the leaves of the closed table cover all hashes, each that is deeper than the start
-- has its cause, and the directory is as deep as the deepest
pub record IsSound (service : Service) (batch : Served) : Type 0 where
  pub steps : All (HasSteps (setup_of_batch service batch) batch.words) (flat_map records_in batch.logs)
  pub bound : step_bound batch.settings ≤ step_bound service.settings
  pub cover : Cover (leaves_in service batch)
  pub warranted :
      Warranted (rules_of service) service.settings.start batch.first (order_in service batch) (leaves_in service batch)
  pub depth : depth_in service batch ≡ greatest_depth (leaves_in service batch)

-- all batches: their orders, one after the other, are one right order of all calls from the empty map on, and what is
-- held after it are the pairs that the last one left
pub record AreRight (service : Service) (batches : List Served) : Type 0 where
  pub sessions : Sessions
  pub one_order : AreOneOrder (rules_of service) empty (map (history_in service) batches) sessions
  pub left : pairs_left [] batches ≡ pairs_of sessions
  pub each : All (IsSound service) batches

-- whoever is served so is served right
abbrev pub ServedAreRight : Type 0
ServedAreRight = (service : Service) (batches : List Served) → AreServed service [] batches → AreRight service batches
