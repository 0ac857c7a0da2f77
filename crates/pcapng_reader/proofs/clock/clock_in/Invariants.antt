use Rattle.std.proofs.Common.{◌≡◌, ◌-◌}
use Rattle.pcapng_reader.specs.Clocks.{clock_by, usual_clock}
use Rattle.pcapng_reader.proofs.clock.clock_in.Given as goal

-- what is left of the options tells the rest
abbrev pub invariant-loop-turn : goal.invariant-loop-turn
invariant-loop-turn l =
    clock_by 1024 l.order l.options usual_clock ≡ clock_by (1024 - l.turn) l.order l.rest l.clock
