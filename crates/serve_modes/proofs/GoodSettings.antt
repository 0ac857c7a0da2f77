-- The head line of a report tells settings of a table, and the bound of the last line is theirs.
use Rattle.std.proofs.Common.{◌≡◌, ◌<◌, ◌^◌, Bool, true, false, refl, arith}
use Rattle.step_counts.specs.declared.settings.Settings.{Settings}
use Rattle.step_counts.specs.Ranges.{IsWithin}
use Rattle.step_counts.specs.StepCounts.{step_bound}
use Rattle.step_counts.proofs.MadeLemmas.{made_in_range}
use Rattle.batch_deals.specs.declared.service.Service.{Service}
use Rattle.command_line.specs.declared.plan.Plan.{Plan}
use Rattle.report_told.specs.Rules.{IsBatch, IsHead, IsSettingsOf, seed_in}
use Rattle.report_told.proofs.SettingsLemmas.{bound_of_settings}
use Rattle.mode_parts.specs.Planned.{IsServiceOf, head_of}

-- how many packets a batch has can be told
pub batch_told : (play : Bool) (plan : Plan) → IsWithin 2048 65536 plan.batch → IsBatch play (head_of play plan).batch
batch_told true plan range = record { range = (omega arith, omega arith); one = λ yes. refl }
batch_told false plan range = record { range = range; one = λ no. absurd (cc) }

-- so a head line of a plan that is served can be told
pub head_told : (play : Bool) (plan : Plan) (service : Service) → IsServiceOf plan service →
    seed_in plan.hashing < 2 ^ 64 → IsWithin 2048 65536 plan.batch → IsHead (head_of play plan)
head_told play plan service asks seed batch = record {
  settings = made_in_range service.settings plan.seats plan.items plan.depth plan.start asks.settings;
  seed = seed;
  batch = batch_told play plan batch;
}

-- and the bound of its settings is that of all settings of the head line
pub bound_told : (play : Bool) (plan : Plan) (service : Service) → IsServiceOf plan service →
    (s : Settings) → IsSettingsOf (head_of play plan) s → step_bound service.settings ≡ step_bound s
bound_told play plan service asks s is = bound_of_settings (head_of play plan) service.settings s asks.settings is
