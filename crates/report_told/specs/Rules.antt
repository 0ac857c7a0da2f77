-- Which reports are in the grammar: what each line may tell, and what it may tell beside the lines before it.
-- Source: docs/FORMATS.md, the report.
use Rattle.std.specs.Prelude.{◌≡◌, ℕ, ◌+◌, ◌-◌, ◌^◌, ◌<◌, ◌≤◌, ◌==◌, Bool, true, List, [], ◌∷◌, ◌++◌, count_by, flat_map, length, replicate, All}
use Rattle.hash_bits.specs.declared.hashing.Hashing.{Hashing}
use Rattle.hash_bits.specs.declared.hashing.Hashing.TheVariants.{Mix, Ports}
use Rattle.step_counts.specs.declared.settings.Settings.{Settings}
use Rattle.step_counts.specs.declared.rows.SeatRows.{SeatRows}
use Rattle.step_counts.specs.Ranges.{AreInRange, IsWithin}
use Rattle.step_counts.specs.Made.{IsMadeOf}
use Rattle.step_counts.specs.StepCounts.{need_of, step_bound}
use Rattle.plain_map.specs.declared.keys.Pair.{Pair}
use Rattle.plain_map.specs.declared.calls.Call.{Call}
use Rattle.plain_map.specs.declared.calls.Call.TheVariants.{Insert, Remove, Lookup, Tally, Count, Put}
use Rattle.plain_map.specs.declared.calls.Reply.{Reply}
use Rattle.plain_map.specs.declared.calls.Reply.TheVariants.{New, Old, NoRoom, Gone, Found, Absent, Sum}
use Rattle.plain_map.specs.declared.full.Full.{Full}
use Rattle.plain_map.specs.declared.full.FullKind.{FullKind}
use Rattle.plain_map.specs.declared.full.FullKind.TheVariants.{OpRows, BucketRows, BucketWords, DirRows}
use Rattle.plain_map.specs.declared.records.Seen.{Seen}
use Rattle.plain_map.specs.declared.records.TheConstants.{MOST_SEATS}
use Rattle.plain_map.specs.Calls.{key_in, is_update}
use Rattle.plain_map.specs.Places.{IsInKeyOrder}
use Rattle.plain_map.specs.Updates.{value_limit}
use Rattle.capture_faults.specs.declared.fault.CaptureFault.{CaptureFault}
use Rattle.capture_faults.specs.declared.fault.CaptureFault.TheVariants.{ReadFault as NoRead, ShortHeader, Magic, Version, LinkType, RecordLength, Memory}
use Rattle.capture_faults.specs.declared.any_fault.AnyFault.{AnyFault}
use Rattle.capture_faults.specs.declared.any_fault.AnyFault.TheVariants.{Capture, ByteOrder, BlockLength, Trailer, SectionVersion, Interface, CapturedLength, Interfaces, Blocks}
use Rattle.flow_reading.specs.Flows.{IsFlow}
use Rattle.key_texts.specs.Inserts.{InsertsOnly, IsOfRule}
use Rattle.report_text.specs.declared.parts.Head.{Head}
use Rattle.report_text.specs.declared.parts.Tail.{Tail}
use Rattle.capture_faults.specs.declared.ending.Ending.{Ending}
use Rattle.capture_faults.specs.declared.ending.Ending.TheVariants.{Done, ReadFault, Limit, Fault}
use Rattle.report_told.specs.declared.told.Ended.{Ended}
use Rattle.report_told.specs.declared.told.Ended.TheVariants.{Answered, Refused}
use Rattle.report_told.specs.Told.{Entry, call, pending, order, Told}

-- The head.

abbrev pub seed_in : Hashing → ℕ
seed_in (Mix seed) = seed
seed_in (Ports seed) = seed

-- how many packets a batch can have; a play has one batch, of which no number is told
pub record IsBatch (play : Bool) (batch : ℕ) : Type 0 where
  pub range : IsWithin 2048 65536 batch
  pub one : play ≡ true → batch ≡ 2048

-- settings of a table
pub record IsHead (head : Head) : Type 0 where
  pub settings : AreInRange head.seats head.items head.depth head.start
  pub seed : seed_in head.hashing < 2 ^ 64
  pub batch : IsBatch head.play head.batch

-- these are the head's settings
abbrev pub IsSettingsOf : Head → Settings → Type 0
IsSettingsOf head s = IsMadeOf s head.seats head.items head.depth head.start

-- A call.

-- how many bytes a call brings; only a tally and a count bring any
abbrev pub amount_in : Call → ℕ
amount_in (Insert key value) = 0
amount_in (Remove key) = 0
amount_in (Lookup key) = 0
amount_in (Tally key amount) = amount
amount_in (Count key value amount) = amount
amount_in (Put key value) = 0

-- what the bytes of a call are below: those of a tally are a number of 64 bits, and a count's can be kept
abbrev pub amount_limit : Call → ℕ
amount_limit (Insert key value) = 2 ^ 64
amount_limit (Remove key) = 2 ^ 64
amount_limit (Lookup key) = 2 ^ 64
amount_limit (Tally key amount) = 2 ^ 64
amount_limit (Count key value amount) = value_limit
amount_limit (Put key value) = 2 ^ 64

-- one of the seats makes this call for a packet, by the rule of the head; an insert or a count brings the packet's
-- number
pub record IsAsked (head : Head) (packet seat : ℕ) (asked : Call) : Type 0 where
  pub packet_fits : packet < 2 ^ 32
  pub seat_is : seat < head.seats
  pub flow : IsFlow (key_in asked)
  pub rule : IsOfRule head.calls asked
  pub value : InsertsOnly packet asked
  pub amount : amount_in asked < amount_limit asked

abbrev pub IsReply : Reply → Type 0
IsReply (Old value) = value < 2 ^ 64
IsReply (Gone value) = value < 2 ^ 64
IsReply (Found value) = value < 2 ^ 64
IsReply New = Unit {0}
IsReply NoRoom = Unit {0}
IsReply Absent = Unit {0}
IsReply (Sum total) = total < 2 ^ 64

-- a count for each seat, and 0 from the last seat on
pub record IsSeen (seats : ℕ) (seen : Seen) : Type 0 where
  pub told : List ℕ
  pub long : length told ≡ seats
  pub fit : All (λ count. count < 2 ^ 32) told
  pub counts : seen.counts ≡ told ++ replicate (MOST_SEATS - seats) 0

abbrev pub part_of : SeatRows → FullKind → ℕ
part_of rows OpRows = rows.op_rows
part_of rows BucketRows = rows.bucket_rows
part_of rows BucketWords = rows.bucket_words
part_of rows DirRows = rows.directory_rows

-- an update is refused, since less is left than the settings need
pub record IsShort (head : Head) (asked : Call) (full : Full) : Type 0 where
  pub update : is_update asked ≡ true
  pub need : (s : Settings) → IsSettingsOf head s → full.need ≡ part_of (need_of s) full.what
  pub short : full.left < full.need

abbrev pub IsEnd : Head → Call → Ended → Type 0
IsEnd head asked (Answered reply steps seen) = IsReply reply × (steps < 2 ^ 64) × IsSeen head.seats seen
IsEnd head asked (Refused full) = IsShort head asked full

-- what a line may tell by itself; a report of `serve` has no pending call
abbrev pub IsEntry : Head → Entry → Type 0
IsEntry head (call told) = IsAsked head told.packet told.seat told.call × IsEnd head told.call told.ended
IsEntry head (pending told) =
    (head.play ≡ true) × IsAsked head told.packet told.seat told.call × IsSeen head.seats told.seen
IsEntry head (order packets) =
    (1 ≤ length packets) × (length packets ≤ 16) × All (λ packet. packet < 2 ^ 32) packets

-- The tail.

abbrev pub IsFaultTold : CaptureFault → Type 0
IsFaultTold (ShortHeader have) = have < 2 ^ 32
IsFaultTold (Magic bytes) = (length bytes ≡ 4) × All (λ byte. byte < 2 ^ 8) bytes
IsFaultTold (Version major minor) = (major < 2 ^ 16) × (minor < 2 ^ 16)
IsFaultTold (LinkType found) = found < 2 ^ 16
IsFaultTold (RecordLength offset found) = (offset < 2 ^ 64) × (found < 2 ^ 32)
IsFaultTold NoRead = ⊥
IsFaultTold Memory = ⊥

-- a fault of a savefile or of pcapng
abbrev pub IsAnyFaultTold : AnyFault → Type 0
IsAnyFaultTold (Capture fault) = IsFaultTold fault
IsAnyFaultTold (ByteOrder offset bytes) =
    (offset < 2 ^ 64) × (length bytes ≡ 4) × All (λ byte. byte < 2 ^ 8) bytes
IsAnyFaultTold (BlockLength offset found) = (offset < 2 ^ 64) × (found < 2 ^ 32)
IsAnyFaultTold (Trailer offset found) = (offset < 2 ^ 64) × (found < 2 ^ 32)
IsAnyFaultTold (SectionVersion offset major minor) = (offset < 2 ^ 64) × (major < 2 ^ 16) × (minor < 2 ^ 16)
IsAnyFaultTold (Interface offset found) = (offset < 2 ^ 64) × (found < 2 ^ 32)
IsAnyFaultTold (CapturedLength offset found) = (offset < 2 ^ 64) × (found < 2 ^ 32)
IsAnyFaultTold (Interfaces offset) = offset < 2 ^ 64
IsAnyFaultTold (Blocks offset) = offset < 2 ^ 64

abbrev pub IsEndingTold : Ending → Type 0
IsEndingTold (Done rest) = rest < 2 ^ 32
IsEndingTold ReadFault = Unit {0}
IsEndingTold (Limit limit) = limit < 2 ^ 64
IsEndingTold (Fault fault) = IsAnyFaultTold fault

pub record IsTail (head : Head) (tail : Tail) : Type 0 where
  pub leaves : tail.leaves < 2 ^ 64
  pub depth : tail.depth < 2 ^ 32
  pub ending : IsEndingTold tail.ending
  pub packets : tail.packets < 2 ^ 64
  pub calls : tail.calls < 2 ^ 64
  pub passed : tail.passed < 2 ^ 64
  pub full : tail.full < 2 ^ 64
  pub pending : tail.pending < 2 ^ 64
  pub unbegun : tail.unbegun < 2 ^ 64
  pub update : tail.update < 2 ^ 64
  pub lookup : tail.lookup < 2 ^ 64
  -- the bound is that of the settings
  pub bound : (s : Settings) → IsSettingsOf head s → tail.bound ≡ step_bound s

-- Lines beside one another.

-- how often a packet stands there
abbrev pub times : (packet : ℕ) → List ℕ → ℕ
times packet packets = count_by (λ other. other == packet) packets

-- the packets of the calls that ended, and of those that are pending
abbrev pub packet_ended : Entry → List ℕ
packet_ended (call told) = told.packet ∷ []
packet_ended (pending told) = []
packet_ended (order packets) = []

abbrev pub packet_pending : Entry → List ℕ
packet_pending (call told) = []
packet_pending (pending told) = told.packet ∷ []
packet_pending (order packets) = []

abbrev pub ended_packets : List Entry → List ℕ
ended_packets entries = flat_map packet_ended entries

abbrev pub waiting_packets : List Entry → List ℕ
waiting_packets entries = flat_map packet_pending entries

-- each is greater than the one before
abbrev pub Rise : List ℕ → Type 0
Rise [] = Unit {0}
Rise (n ∷ []) = Unit {0}
Rise (n ∷ m ∷ numbers) = (n < m) × Rise (m ∷ numbers)

-- a pending call's packet stands on no other line of a call
abbrev pub IsApart : List Entry → (packet : ℕ) → Type 0
IsApart entries packet =
    1 ≤ times packet (waiting_packets entries) →
    times packet (waiting_packets entries) + times packet (ended_packets entries) ≡ 1

-- Lines of entries may stand one behind the other: calls that ended come in packet order, and a pending call's packet
-- is that of no other call.
pub record AreEntries (head : Head) (entries : List Entry) : Type 0 where
  pub each : All (IsEntry head) entries
  pub rise : Rise (ended_packets entries)
  pub apart : (packet : ℕ) → IsApart entries packet

-- so may sessions: in key order
pub record AreSessions (pairs : List Pair) : Type 0 where
  pub each : All (λ pair. IsFlow pair.key × (pair.value < 2 ^ 64) × (pair.bytes < 2 ^ 64)) pairs
  pub ordered : IsInKeyOrder pairs

pub record IsInGrammar (told : Told) : Type 0 where
  pub head : IsHead told.head
  pub entries : AreEntries told.head told.entries
  pub sessions : AreSessions told.pairs
  pub tail : IsTail told.head told.tail
