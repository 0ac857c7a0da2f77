-- A reader of an input as its clauses see it, and what its calls do to it.
use Rattle.std.specs.Prelude.{◌≡◌, ◌≤◌, ◌<◌, ℕ, ◌+◌, ◌++◌, Bool, true, false, List, [], ◌∷◌, length, drop, All, Option, Some, None, IfSome, Result, Ok, Err}
use Rattle.std.specs.List.{flat_map}
use Rattle.std.specs.Io.KnownBytes.{prepend_known}
use Rattle.pcap_reader.specs.declared.order.Order.{Order}
use Rattle.pcap_reader.specs.declared.stamp.Fraction.{Fraction}
use Rattle.pcap_reader.specs.declared.stamp.Stamp.{Stamp}
use Rattle.pcap_reader.specs.Stamps.{IsCountedIn, stamp_of}
use Rattle.capture_faults.specs.declared.fault.CaptureFault.{CaptureFault}
use Rattle.capture_faults.specs.declared.fault.CaptureFault.TheVariants as capture
use Rattle.pcap_reader.specs.declared.reader.Item.{Item}
use Rattle.pcap_reader.specs.declared.reader.Item.TheVariants.{Packet, End, Rest}
use Rattle.pcap_reader.specs.Capture.{Saved, bytes_of, HasFileHead, IsRemainder, IsSaved, ShowsFault, file_head_length}
use Rattle.pcap_reader.specs.Reading.{Took, TakesFewer, buffer_length}
use Rattle.capture_faults.specs.declared.any_fault.AnyFault.{AnyFault}
use Rattle.capture_faults.specs.declared.any_fault.AnyFault.TheVariants as fault
use Rattle.pcapng_reader.specs.Section.{State, opening}
use Rattle.pcap_reader.specs.Record.{BeginsRecord}
use Rattle.pcapng_reader.specs.declared.block.Seen.TheVariants as seen
use Rattle.pcapng_reader.specs.Blocks.{AreBlocks, IsLast, Sees}
use Rattle.pcapng_reader.specs.Stamps.{block_stamp}
use Rattle.pcapng_reader.specs.Input.{IsPcapng, any_ending, packets_in}

-- ---- how an input is cut

-- how the bytes still to come are cut: into records of a savefile of that order, or into blocks, where those before
-- have set that
pub data Form : Type 0 where
  OfRecords : (order : Order) → Form
  OfBlocks : (state : State) → Form

-- how many bytes stand before the first part: a savefile's head
abbrev pub head_length : Form → ℕ
head_length (OfRecords order) = file_head_length
head_length (OfBlocks state) = 0

-- the bytes begin as an input of that form does
abbrev pub IsOpened : ℕ → Form → List ℕ → Type 0
IsOpened link (OfRecords order) bytes = HasFileHead link order bytes
IsOpened link (OfBlocks state) bytes = IsPcapng bytes × (state ≡ opening link)

-- from that form and offset on the bytes are whole records, or whole blocks, that give these packets and leave that
-- form
abbrev pub AreParts : Form → ℕ → List ℕ → List (List ℕ) → Form → Type 0
AreParts (OfRecords order) offset bytes packets last =
    (records : List Saved) × All (IsSaved order) records × (bytes ≡ flat_map bytes_of records)
    × (packets ≡ packets_in records) × (last ≡ OfRecords order)
AreParts (OfBlocks state) offset bytes packets last =
    (each : List (List ℕ)) × (behind : State) × AreBlocks state offset each packets behind
    × (bytes ≡ flat_map (λ block. block) each) × (last ≡ OfBlocks behind)

-- behind whole parts, at that offset, these bytes give that ending
abbrev pub IsEnd : Form → ℕ → List ℕ → Result ℕ AnyFault → Type 0
IsEnd (OfRecords order) offset bytes ending =
    (kept : Result ℕ CaptureFault) × IsRemainder order offset bytes kept × (ending ≡ any_ending kept)
IsEnd (OfBlocks state) offset bytes ending = IsLast state offset bytes ending

-- the bytes begin with a whole record, or with a whole block that has a packet
abbrev pub HoldsPacket : Form → ℕ → List ℕ → Type 0
HoldsPacket (OfRecords order) offset bytes = (captured : ℕ) × BeginsRecord order bytes captured
HoldsPacket (OfBlocks state) offset bytes =
    (size : ℕ) × (at : ℕ) × (count : ℕ) × Sees state offset bytes (seen.Packet size at count)

-- the head of a savefile tells that fractions are counted so; that of a pcapng input tells nothing
abbrev pub IsCounted : Form → Fraction → List ℕ → Type 0
IsCounted (OfRecords order) fraction bytes = IsCountedIn order fraction bytes
IsCounted (OfBlocks state) fraction bytes = Unit {0}

-- what a block of that form tells whose packet starts at that place
abbrev pub stamp_at : Form → ℕ → List ℕ → Stamp
stamp_at (OfRecords order) at bytes = record { time = None; wire = 0 }
stamp_at (OfBlocks state) at bytes = block_stamp state at bytes

-- this is the stamp of the packet of the whole record or block that the bytes begin with
abbrev pub HasStamp : Fraction → Form → ℕ → List ℕ → Stamp → Type 0
HasStamp fraction (OfRecords order) offset bytes stamp = stamp ≡ stamp_of order fraction bytes
HasStamp fraction (OfBlocks state) offset bytes stamp =
    (size : ℕ) × (at : ℕ) × (count : ℕ) × Sees state offset bytes (seen.Packet size at count)
    × (stamp ≡ block_stamp state at bytes)

-- ---- a reader

-- what is known of a reader between two calls
pub record Reading : Type 0 where
  -- how the bytes still to come are cut
  pub form : Form
  -- what fractions of a second are counted in, if it is a savefile
  pub fraction : Fraction
  -- the bytes that were taken from the source, and not yet passed
  pub pending : List ℕ
  -- the bytes of the packet that was given last
  pub packet : List ℕ
  -- when that one was captured, and how long it was
  pub stamp : Stamp
  -- where the next record or block starts, in bytes from the input's first
  pub offset : ℕ
  -- where the record or block of the packet that was given last starts
  pub start : ℕ
  -- how many packets were given
  pub given : ℕ
  -- an end, a rest or a fault was answered
  pub ended : Bool

-- The most bytes that are taken of a source beyond the parts that were passed: for a savefile a buffer, and for pcapng
-- a block that is read and dropped, and a buffer.
abbrev pub beyond : Form → ℕ
beyond (OfRecords order) = buffer_length
beyond (OfBlocks state) = 20971520

-- what was taken of the source shows the form, what is not the head is held, and all has room in the buffer
abbrev pub IsOpenedOn : ℕ → Reading → List ℕ → Type 0
IsOpenedOn link reading taken =
    IsOpened link reading.form taken × (reading.pending ≡ drop (head_length reading.form) taken)
    × (length taken ≤ buffer_length) × IsCounted reading.form reading.fraction taken

-- the reader stands before the first record or block, and has given nothing
pub record IsAtStart (reading : Reading) : Type 0 where
  pub offset : reading.offset ≡ head_length reading.form
  pub given : reading.given ≡ 0
  pub packet : reading.packet ≡ []
  pub going : reading.ended ≡ false

-- What was passed last and what is held behind it had room in the buffer: of a savefile both together, and of pcapng,
-- where a long block is dropped while it is read, what is held.
abbrev pub HaveRoom : Form → (passed pending : List ℕ) → Type 0
HaveRoom (OfRecords order) passed pending = length (passed ++ pending) ≤ buffer_length
HaveRoom (OfBlocks state) passed pending = length pending ≤ buffer_length

-- From that form and offset on the bytes are parts without a packet, and then a whole record or block that has one and
-- starts at `start`.
pub record PacketStarts (form : Form) (offset : ℕ) (bytes : List ℕ) (start : ℕ) : Type 0 where
  pub before : List ℕ
  pub last : Form
  pub parts : AreParts form offset before [] last
  pub rest : List ℕ
  pub whole : bytes ≡ before ++ rest
  pub is : start ≡ offset + length before
  pub next : HoldsPacket last start rest

-- One packet was given out, of what was held and what was taken of the source: behind parts without a packet.
pub record GivesPacket (old new : Reading) (taken : List ℕ) : Type 0 where
  pub passed : List ℕ
  pub parts : AreParts old.form old.offset passed (new.packet ∷ []) new.form
  pub held : old.pending ++ taken ≡ passed ++ new.pending
  pub room : HaveRoom new.form passed new.pending
  pub offset : new.offset ≡ old.offset + length passed
  pub starts : PacketStarts old.form old.offset passed new.start
  pub stamp : HasStamp old.fraction starts.last new.start starts.rest new.stamp
  pub fraction : new.fraction ≡ old.fraction
  pub given : new.given ≡ old.given + 1
  pub goes_on : new.ended ≡ false

-- An ending was met, of what was held and what was taken of the source: behind parts without a packet.
pub record MeetsEnding (old new : Reading) (ending : Result ℕ AnyFault) (taken : List ℕ) : Type 0 where
  pub passed : List ℕ
  pub last : Form
  pub parts : AreParts old.form old.offset passed [] last
  pub rest : List ℕ
  pub held : old.pending ++ taken ≡ passed ++ rest
  pub ends : IsEnd last (old.offset + length passed) rest ending
  pub room : length rest ≤ beyond last
  pub packet : new.packet ≡ []
  pub given : new.given ≡ old.given
  pub ended : new.ended ≡ true

-- Of the bytes of an input these packets have been given, and of its source these bytes are left. The reader stands
-- behind the parts that have the packets.
pub record HasRead (link : ℕ) (bytes : List ℕ) (reading : Reading) (left : Option (List ℕ)) (packets : List (List ℕ)) :
    Type 0 where
  pub form : Form
  pub opened : IsOpened link form bytes
  pub counted : IsCounted form reading.fraction bytes
  pub passed : List ℕ
  pub parts : AreParts form (head_length form) passed packets reading.form
  pub more : List ℕ
  -- the bytes still to come: those that the reader holds, and those left in its source
  pub told : prepend_known reading.pending left ≡ Some more
  pub whole : drop (head_length form) bytes ≡ passed ++ more
  pub offset : reading.offset ≡ head_length form + length passed
  pub room : length reading.pending ≤ buffer_length

-- these packets were given, one call behind the other, of what was held and what was taken of the source
abbrev pub GivesAll : Reading → List (List ℕ) → (taken : List ℕ) → Reading → Type 0
GivesAll old [] taken last = (taken ≡ []) × (last ≡ old)
GivesAll old (packet ∷ packets) taken last =
    (new : Reading) × (first : List ℕ) × (more : List ℕ) × GivesPacket old new first × (packet ≡ new.packet)
    × (taken ≡ first ++ more) × GivesAll new packets more last

-- what `next` answers, by what it took of a source whose bytes were `before` and are `after`, where told
abbrev pub Answers : (old new : Reading) (before after : Option (List ℕ)) → Result Item AnyFault → Type 0
Answers old new before after (Ok Packet) = Took before after (GivesPacket old new)
Answers old new before after (Ok End) =
    Took before after (λ taken. MeetsEnding old new (Ok 0) taken × IfSome before (λ bytes. bytes ≡ taken))
Answers old new before after (Ok (Rest left)) =
    (0 < left)
    × Took before after (λ taken. MeetsEnding old new (Ok left) taken × IfSome before (λ bytes. bytes ≡ taken))
Answers old new before after (Err (fault.Capture capture.ReadFault)) =
    Took before after (λ taken. (left : ℕ) × MeetsEnding old new (Ok left) taken)
Answers old new before after (Err found) = Took before after (MeetsEnding old new (Err found))

-- a fact of every answer but that a read failed
abbrev pub UnlessReadFault : {T : Type 0} → Result T AnyFault → Type 0 → Type 0
UnlessReadFault (Ok answer) P = P
UnlessReadFault (Err (fault.Capture capture.ReadFault)) P = Unit {0}
UnlessReadFault (Err found) P = P

-- What `open` answers: the fault of a file head, by what was taken, which has room in the buffer. Want of memory comes
-- before anything is taken.
abbrev pub OnRefused : ℕ → AnyFault → (before after : Option (List ℕ)) → Type 0
OnRefused link (fault.Capture capture.ReadFault) before after = TakesFewer file_head_length before after
OnRefused link (fault.Capture capture.Memory) before after = before ≡ after
OnRefused link (fault.Capture (capture.ShortHeader have)) before after =
    Took before after
    (λ taken. ShowsFault link taken (capture.ShortHeader have) × IfSome before (λ bytes. bytes ≡ taken))
OnRefused link (fault.Capture found) before after =
    Took before after (λ taken. (¬ IsPcapng taken) × ShowsFault link taken found × (length taken ≤ buffer_length))
OnRefused link found before after = ⊥
