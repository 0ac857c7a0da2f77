-- How an interface counts the times of its packets, by the options of its block.
-- Source: draft-ietf-opsawg-pcapng, 3.5 (options) and 4.2 (if_tsresol and if_tsoffset). Not looked at: if_tszone.
-- The limit of what is looked at is this project's own.
use Rattle.std.specs.Prelude.{ℕ, ◌+◌, ◌-◌, ◌*◌, ◌/◌, ◌^◌, ◌&&◌, ◌||◌, Bool, zero, suc, nat_eq, nat_lt, if◌then◌else◌, min, List, length, take, drop, get_or}
use Rattle.pcap_reader.specs.declared.order.Order.{Order}
use Rattle.pcap_reader.specs.Capture.{number}
use Rattle.pcapng_reader.specs.declared.clock.Clock.{Clock}

-- where no option tells anything: microseconds since 1970
abbrev pub usual_clock : Clock
usual_clock = record { resolution = 6; offset = 0 }

-- ---- options

-- the code of the option that the bytes begin with
abbrev pub option_code : Order → List ℕ → ℕ
option_code order bytes = number order 2 bytes

-- the length of its value
abbrev pub option_size : Order → List ℕ → ℕ
option_size order bytes = number order 2 (drop 2 bytes)

-- its whole length, where the value is padded to a multiple of 4
abbrev pub option_length : Order → List ℕ → ℕ
option_length order bytes = 4 + (option_size order bytes + 3) / 4 * 4

-- no whole option stands there, or the one that ends them
abbrev pub are_ended : Order → List ℕ → Bool
are_ended order bytes =
    nat_lt (length bytes) 4
    || (nat_lt (length bytes) (4 + option_size order bytes) || nat_eq (option_code order bytes) 0)

-- a clock with what that option tells: if_tsresol, of one byte, or if_tsoffset, of eight
abbrev pub clock_with : Order → List ℕ → Clock → Clock
clock_with order bytes clock =
    if nat_eq (option_code order bytes) 9 && nat_eq (option_size order bytes) 1
    then record clock { resolution = get_or bytes 4 0 }
    else (if nat_eq (option_code order bytes) 14 && nat_eq (option_size order bytes) 8
    then record clock { offset = number order 8 (drop 4 bytes) } else clock)

-- with what the options tell, of so many at most: those that stand last count
unfoldable pub clock_by : (most : ℕ) → Order → List ℕ → Clock → Clock
clock_by zero order bytes clock = clock
clock_by (suc most) order bytes clock =
    if are_ended order bytes then clock
    else clock_by most order (drop (option_length order bytes) bytes) (clock_with order bytes clock)

-- so many first bytes of an interface's block are looked at, without its second length
abbrev pub looked_size : ℕ → ℕ
looked_size size = min 4096 (size - 4)

-- the clock that a block of that size tells, whose options stand behind its first 16 bytes
abbrev pub clock_of : Order → ℕ → List ℕ → Clock
clock_of order size bytes = clock_by 1024 order (drop 16 (take (looked_size size) bytes)) usual_clock

-- ---- times

-- so many units a second has
abbrev pub units_of : ℕ → ℕ
units_of resolution = if nat_lt resolution 128 then 10 ^ resolution else 2 ^ (resolution - 128)

-- so many ticks in nanoseconds, rounded down
abbrev pub nanoseconds_in : (resolution ticks : ℕ) → ℕ
nanoseconds_in resolution ticks = ticks * 1000000000 / units_of resolution

-- so many nanoseconds, and so many seconds more: from 2^63 on these are as many fewer as they lack of 2^64
abbrev pub shifted : (nanoseconds offset : ℕ) → ℕ
shifted nanoseconds offset =
    if nat_lt offset (2 ^ 63) then nanoseconds + offset * 1000000000
    else nanoseconds - (2 ^ 64 - offset) * 1000000000

-- the time of so many ticks in nanoseconds since 1970: no less than 0, and below 2^63
abbrev pub time_by : Clock → ℕ → ℕ
time_by clock ticks = min (shifted (nanoseconds_in clock.resolution ticks) clock.offset) (2 ^ 63 - 1)
