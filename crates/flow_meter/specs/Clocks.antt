-- The clock of a capture as the code keeps it.
use Rattle.std.specs.Prelude.{◌+◌, ◌<◌, ◌^◌, Option, Some, None}
use Rattle.flow_times.specs.Moments.{Moment}
use Rattle.flow_meter.specs.declared.clock.Moment.{Moment as Stand}
use Rattle.flow_meter.specs.declared.clock.Clock.{Clock}
use Rattle.flow_meter.specs.Models.{moment_of}

-- the moment, if there is one
abbrev pub moments_of : Option Stand → Option Moment
moments_of None = None
moments_of (Some now) = Some (moment_of now)

-- where the clock stands, if a packet was before
abbrev pub last_moment : Clock → Option Moment
last_moment clock = moments_of clock.now

-- behind this stretch another one has a number
abbrev pub MayBegin : Option Stand → Type 0
MayBegin None = Unit {0}
MayBegin (Some now) = now.stretch + 1 < 2 ^ 64

-- so it is of a clock's stretch
abbrev pub HasStretchesLeft : Clock → Type 0
HasStretchesLeft clock = MayBegin clock.now
