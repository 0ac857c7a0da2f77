-- When a packet of a pcapng input was captured, and how long it was.
-- Source: draft-ietf-opsawg-pcapng, 4.3 (enhanced packet) and 4.4 (simple packet, which has no time).
use Rattle.std.specs.Prelude.{ℕ, ◌+◌, ◌*◌, ◌^◌, nat_eq, if◌then◌else◌, List, drop, Option, Some, None}
use Rattle.pcap_reader.specs.Capture.{number}
use Rattle.pcap_reader.specs.declared.stamp.Stamp.{Stamp}
use Rattle.pcapng_reader.specs.declared.clock.Clock.{Clock}
use Rattle.pcapng_reader.specs.declared.told.Told.{Told}
use Rattle.pcapng_reader.specs.Section.{State}
use Rattle.pcapng_reader.specs.Clocks.{time_by, usual_clock}
use Rattle.pcapng_reader.specs.Blocks.{interface_at}

-- ticks of a clock as a time
abbrev pub time_told : Clock → Option ℕ → Option ℕ
time_told clock None = None
time_told clock (Some ticks) = Some (time_by clock ticks)

-- what such numbers of a block tell
abbrev pub stamp_told : Told → Stamp
stamp_told told = record { time = time_told told.clock told.ticks; wire = told.wire }

-- What a block has of that whose packet starts at that place: an enhanced one at 28, and a simple one at 12. Ticks are
-- two numbers, the upper one first, and their clock is that of the packet's interface.
abbrev pub told_by : State → (at : ℕ) → List ℕ → Told
told_by state at bytes =
    if nat_eq at 28 then
    record {
      ticks = Some (number state.order 4 (drop 12 bytes) * 2 ^ 32 + number state.order 4 (drop 16 bytes));
      clock = (interface_at state (number state.order 4 (drop 8 bytes))).clock;
      wire = number state.order 4 (drop 24 bytes);
    }
    else record { ticks = None; clock = usual_clock; wire = number state.order 4 (drop 8 bytes) }

-- the stamp of the packet that starts at that place of a block
abbrev pub block_stamp : State → (at : ℕ) → List ℕ → Stamp
block_stamp state at bytes = stamp_told (told_by state at bytes)
