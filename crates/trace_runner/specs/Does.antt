-- What a run does, by what its words ask for.
use Rattle.std.specs.Prelude.{◌≡◌, ◌⊎◌, Option, Some, None}
use Rattle.command_line.specs.declared.plan.Mode.{Mode}
use Rattle.command_line.specs.declared.plan.Mode.TheVariants.{Check, Flows, Make, Play, Serve, Totals, Trial}
use Rattle.command_line.specs.declared.plan.Plan.{Plan}
use Rattle.mode_parts.specs.declared.status.Status.{Status}
use Rattle.mode_parts.specs.declared.status.Status.TheVariants as status
use Rattle.mode_parts.specs.Edges.{Edges}
use Rattle.serve_modes.specs.Does.{DoesServe}
use Rattle.serve_modes.specs.Headline.{LeavesTried}
use Rattle.play_mode.specs.Does.{DoesPlay}
use Rattle.totals_runner.specs.Does.{DoesTotals}
use Rattle.flows_runner.specs.Does.{DoesFlows}
use Rattle.check_runner.specs.Does.{DoesCheck}
use Rattle.trace_runner.specs.Made.{LeavesMade}

-- ---- what is done

-- What each mode does, as a plan says. `make` puts the made capture. `trial` puts how many calls of the made capture
-- had each reply.
abbrev pub DoesMode : Mode → Plan → (before after : Edges) → Status → Type 0
DoesMode Serve plan before after answer = DoesServe plan before after answer
DoesMode Play plan before after answer = DoesPlay plan before after answer
DoesMode Make plan before after answer = LeavesMade plan before.sink.put after.sink.put answer
DoesMode Trial plan before after answer = LeavesTried plan before.sink.put after.sink.put answer
DoesMode Totals plan before after answer = DoesTotals plan before after answer
DoesMode Flows plan before after answer = DoesFlows plan before after answer
DoesMode Check plan before after answer = DoesCheck before after answer

-- What is done where the words ask for this plan. Where they ask for none that is answered, or want of memory.
abbrev pub Does : Option Plan → (before after : Edges) → Status → Type 0
Does None before after answer = (answer ≡ status.Usage) ⊎ (answer ≡ status.Memory)
Does (Some plan) before after answer = DoesMode plan.mode plan before after answer

-- ---- what stays as it is

-- a mode that reads nothing of its source: its capture is made
abbrev pub IsMade : Mode → Type 0
IsMade Make = Unit {0}
IsMade Trial = Unit {0}
IsMade Check = ⊥
IsMade Serve = ⊥
IsMade Play = ⊥
IsMade Totals = ⊥
IsMade Flows = ⊥

-- a mode that reads no packets of its source
abbrev pub ReadsNoPackets : Mode → Type 0
ReadsNoPackets Check = Unit {0}
ReadsNoPackets Make = Unit {0}
ReadsNoPackets Trial = Unit {0}
ReadsNoPackets Serve = ⊥
ReadsNoPackets Play = ⊥
ReadsNoPackets Totals = ⊥
ReadsNoPackets Flows = ⊥

-- nothing is read: the words ask for no plan, or for one whose capture is made
abbrev pub IsUnread : Option Plan → Type 0
IsUnread None = Unit {0}
IsUnread (Some plan) = IsMade plan.mode

-- no place is noted: the words ask for no plan, or for one that reads no packets
abbrev pub IsUnmarked : Option Plan → Type 0
IsUnmarked None = Unit {0}
IsUnmarked (Some plan) = ReadsNoPackets plan.mode
