-- How the calls of a plan are served, and what the head line tells of it.
use Rattle.std.specs.Prelude.{◌≡◌, Bool, if◌then◌else◌}
use Rattle.step_counts.specs.Made.{IsMadeOf}
use Rattle.report_text.specs.declared.parts.Head.{Head}
use Rattle.batch_deals.specs.declared.service.Service.{Service}
use Rattle.command_line.specs.declared.plan.Plan.{Plan}

-- the plan is served so
pub record IsServiceOf (plan : Plan) (service : Service) : Type 0 where
  pub settings : IsMadeOf service.settings plan.seats plan.items plan.depth plan.start
  pub hashing : service.hashing ≡ plan.hashing
  pub share : service.share ≡ plan.share
  pub rows : service.rows ≡ plan.rows

-- what the head line tells, of a play or of calls that are served; a play has one batch
abbrev pub head_of : (play : Bool) → Plan → Head
head_of play plan =
    record {
      play = play;
      seats = plan.seats;
      items = plan.items;
      depth = plan.depth;
      start = plan.start;
      hashing = plan.hashing;
      share = plan.share;
      calls = plan.calls;
      batch = if play then 2048 else plan.batch;
    }
