-- What has come of a table so far.
use Rattle.std.specs.Prelude.{◌≡◌, ℕ, List}
use Rattle.table_model.specs.Schedules.{Hand, Play}
use Rattle.trace_share.specs.declared.outcome.Outcome.{Outcome}
use Rattle.core_steps.specs.Values.{CoreValue}
use Rattle.play_runner.specs.Played.{outcomes_of}

-- these are the calls that ended so far
abbrev pub AreTold : CoreValue → List (ℕ × Outcome) → Type 0
AreTold core outcomes = outcomes ≡ outcomes_of core.setup core.events

-- the play so far, where the seats have these hands
abbrev pub play_with : CoreValue → List Hand → Play
play_with core hands = record { events = core.events; world = core.world; hands = hands }
