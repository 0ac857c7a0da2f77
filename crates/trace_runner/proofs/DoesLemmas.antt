-- What a run does for which memory ran out before anything was read or put.
use Rattle.std.proofs.Common.{Option, Some, None, inr, refl}
use Rattle.command_line.specs.declared.plan.Mode.{Mode}
use Rattle.command_line.specs.declared.plan.Mode.TheVariants.{Check, Flows, Make, Play, Serve, Totals, Trial}
use Rattle.command_line.specs.declared.plan.Plan.{Plan}
use Rattle.capture_loop.proofs.LeavesLemmas.{Keeps-same}
use Rattle.mode_parts.specs.declared.status.Status.TheVariants as status
use Rattle.mode_parts.specs.Edges.{Edges}
use Rattle.serve_modes.proofs.DoesLemmas.{serve_nothing}
use Rattle.play_mode.proofs.DoesLemmas.{play_nothing}
use Rattle.totals_runner.proofs.DoesLemmas.{totals_nothing}
use Rattle.flows_runner.proofs.DoesLemmas.{flows_nothing}
use Rattle.check_runner.proofs.DoesLemmas.{check_nothing}
use Rattle.trace_runner.specs.Does.{Does, DoesMode}

mode_nothing : (mode : Mode) (plan : Plan) (edges : Edges) → DoesMode mode plan edges edges status.Memory
mode_nothing Serve plan edges = serve_nothing plan edges
mode_nothing Play plan edges = play_nothing plan edges
mode_nothing Make plan edges = Keeps-same edges.sink.put
mode_nothing Trial plan edges = Keeps-same edges.sink.put
mode_nothing Totals plan edges = totals_nothing plan edges
mode_nothing Flows plan edges = flows_nothing plan edges
mode_nothing Check plan edges = check_nothing edges

-- whatever the words ask for
pub does_nothing : (asked : Option Plan) (edges : Edges) → Does asked edges edges status.Memory
does_nothing None edges = inr refl
does_nothing (Some plan) edges = mode_nothing plan.mode plan edges
