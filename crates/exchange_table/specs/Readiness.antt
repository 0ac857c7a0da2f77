-- A party that may take its next step.
use Rattle.std.specs.Prelude.{◌≡◌, ℕ}
use Rattle.exchange_model.specs.Plans.{Plan}
use Rattle.exchange_model.specs.Steps.{Idle}
use Rattle.exchange_model.specs.Goes.{Asked}
use Rattle.exchange_model.specs.Worlds.{world_after}
use Rattle.exchange_calls.specs.Going.{Task, task}
use Rattle.exchange_table.specs.Parties.{CanCall, Holding, party, started}
use Rattle.exchange_table.specs.Rule.{M, alone}

-- it is one party alone, which may begin the call where it stands between two calls, and asks for this
pub record IsReady (asked : Asked) (tries : ℕ) (t : Task) (plan : Plan) (m : M) : Type 0 where
  pub holding : Holding
  pub one : m ≡ alone holding
  pub opened : holding.plan ≡ plan
  pub may : (party (world_after holding.plan holding.known) holding.who).stand ≡ Idle →
      CanCall holding.plan holding.who (party (world_after holding.plan holding.known) holding.who) asked tries
  pub asks : task (started asked tries holding) ≡ t
