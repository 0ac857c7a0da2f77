-- When a packet of a savefile was captured, and how long it was.
-- Source: pcap-savefile(5), the per-file header (the magic number tells what fractions of a second are counted in)
-- and the per-packet header.
use Rattle.std.specs.Prelude.{◌≡◌, ℕ, ◌+◌, ◌*◌, List, take, drop, Some}
use Rattle.pcap_reader.specs.declared.order.Order.{Order}
use Rattle.pcap_reader.specs.declared.stamp.Fraction.{Fraction}
use Rattle.pcap_reader.specs.declared.stamp.Fraction.TheVariants.{Microseconds, Nanoseconds}
use Rattle.pcap_reader.specs.declared.stamp.Stamp.{Stamp}
use Rattle.pcap_reader.specs.Capture.{number, spelling, microseconds, nanoseconds}

-- the first four bytes are, in that order, the magic number of a file whose fractions are counted so
abbrev pub IsCountedIn : Order → Fraction → List ℕ → Type 0
IsCountedIn order Microseconds bytes = take 4 bytes ≡ spelling order 4 microseconds
IsCountedIn order Nanoseconds bytes = take 4 bytes ≡ spelling order 4 nanoseconds

-- how many nanoseconds one of a fraction is
abbrev pub nanoseconds_of : Fraction → ℕ
nanoseconds_of Microseconds = 1000
nanoseconds_of Nanoseconds = 1

-- what a record's head tells of its packet: seconds, a fraction, which may be a second or more, and the length on the
-- wire
abbrev pub stamp_of : Order → Fraction → List ℕ → Stamp
stamp_of order fraction head = record {
  time = Some (number order 4 head * 1000000000 + number order 4 (drop 4 head) * nanoseconds_of fraction);
  wire = number order 4 (drop 12 head);
}
