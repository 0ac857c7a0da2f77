-- A pcapng input as one list of bytes: whole blocks, and then a remainder.
-- Source: draft-ietf-opsawg-pcapng, 3.1 (general block structure), 4.1 (section header), 4.2 (interface description),
-- 4.3 (enhanced packet) and 4.4 (simple packet). The limits are this project's own, but for libpcap's MAXIMUM_SNAPLEN.
-- Places count bytes from 0, and lengths are in bytes. The reader goes piece by piece; this cuts a whole list.
-- Not looked at: options but those of `Clocks`, a section's length, blocks of other types, the obsolete packet block
-- of type 2 among them. Times and original lengths are what `Stamps` has.
use Rattle.std.specs.Prelude.{◌≡◌, ◌≤◌, ◌<◌, ℕ, ◌+◌, ◌-◌, ◌*◌, ◌/◌, ◌%◌, ◌⊎◌, ◌++◌, nat_eq, nat_lt, if◌then◌else◌, List, [], ◌∷◌, length, take, drop, get_or, Result, Ok, Err}
use Rattle.std.specs.List.{flat_map}
use Rattle.pcap_reader.specs.declared.order.Order.{Order}
use Rattle.pcap_reader.specs.Capture.{number, spelling}
use Rattle.pcapng_reader.specs.declared.section.Interface.{Interface as AnInterface}
use Rattle.capture_faults.specs.declared.any_fault.AnyFault.{AnyFault}
use Rattle.capture_faults.specs.declared.any_fault.AnyFault.TheVariants as fault
use Rattle.pcapng_reader.specs.declared.block.Kind.{Kind}
use Rattle.pcapng_reader.specs.declared.block.Kind.TheVariants.{Section, Interface, Enhanced, Simple, Other}
use Rattle.pcapng_reader.specs.declared.block.Seen.{Seen}
use Rattle.pcapng_reader.specs.declared.block.Seen.TheVariants as seen
use Rattle.pcapng_reader.specs.declared.clock.Clock.{Clock}
use Rattle.pcapng_reader.specs.Clocks.{clock_of}
use Rattle.pcapng_reader.specs.Section.{State, no_interface}

-- ---- the numbers of the format

-- the type of a section block, which reads the same in both orders
abbrev pub section_type : List ℕ
section_type = 0x0a ∷ 0x0d ∷ 0x0d ∷ 0x0a ∷ []

abbrev pub byte_order_magic : ℕ
byte_order_magic = 0x1a2b3c4d

-- the longest block, which is that of libpcap too
abbrev pub longest_block : ℕ
longest_block = 16777216

-- the most interfaces of a section
abbrev pub most_interfaces : ℕ
most_interfaces = 256

-- the most blocks of an input that give no packet
abbrev pub most_others : ℕ
most_others = 4000000

-- the longest packet: libpcap's MAXIMUM_SNAPLEN
abbrev pub longest_packet : ℕ
longest_packet = 262144

-- ---- a block's head. The bytes are those from the block's start on.

abbrev pub IsSection : List ℕ → Type 0
IsSection bytes = take 4 bytes ≡ section_type

-- the byte-order magic of a section block is spelled in that order
abbrev pub IsMagicIn : Order → List ℕ → Type 0
IsMagicIn order bytes = take 4 (drop 8 bytes) ≡ spelling order 4 byte_order_magic

-- the bytes that show type and length are not all there: 8, and of a section 12
abbrev pub IsShort : List ℕ → Type 0
IsShort bytes = (length bytes < 8) ⊎ (IsSection bytes × (length bytes < 12))

-- a section block whose byte-order magic is neither spelling
abbrev pub HasNoOrder : List ℕ → Type 0
HasNoOrder bytes = IsSection bytes × ((order : Order) → ¬ IsMagicIn order bytes)

-- the numbers of the block are in that order: of a section its own, of another block that of its section
abbrev pub IsReadIn : State → Order → List ℕ → Type 0
IsReadIn state order bytes = (IsSection bytes × IsMagicIn order bytes) ⊎ ((¬ IsSection bytes) × (order ≡ state.order))

abbrev pub block_type : Order → List ℕ → ℕ
block_type order bytes = number order 4 bytes

abbrev pub total_length : Order → List ℕ → ℕ
total_length order bytes = number order 4 (drop 4 bytes)

-- the length that stands once more in the last four bytes of a block of that size
abbrev pub second_length : Order → ℕ → List ℕ → ℕ
second_length order size bytes = number order 4 (drop (size - 4) bytes)

-- the kind of a block by its type
abbrev pub HasKind : ℕ → Kind → Type 0
HasKind type Section = type ≡ 0x0a0d0d0a
HasKind type Interface = type ≡ 1
HasKind type Enhanced = type ≡ 6
HasKind type Simple = type ≡ 3
HasKind type Other = (¬ (type ≡ 0x0a0d0d0a)) × (¬ (type ≡ 1)) × (¬ (type ≡ 6)) × (¬ (type ≡ 3))

-- the least length of a block of that kind
abbrev pub least_length : Kind → ℕ
least_length Section = 28
least_length Interface = 20
least_length Enhanced = 32
least_length Simple = 16
least_length Other = 12

abbrev pub IsBlockLength : Kind → ℕ → Type 0
IsBlockLength kind size = (size % 4 ≡ 0) × (size ≤ longest_block) × (least_length kind ≤ size)

-- ---- packets

-- a length with its padding to a multiple of 4
abbrev pub padded : ℕ → ℕ
padded captured = (captured + 3) / 4 * 4

-- the captured length of a simple packet: its original length, within the snapshot length, where 0 is no limit
abbrev pub simple_length : AnInterface → ℕ → ℕ
simple_length interface original =
    if nat_eq interface.snapshot 0 then original
    else (if nat_lt interface.snapshot original then interface.snapshot else original)

-- so many bytes of a packet are given: all if its interface has the link type that was asked for, and else none
abbrev pub given_length : AnInterface → ℕ → ℕ
given_length interface captured = if interface.is_asked then captured else 0

-- a captured length above the limit, or a packet from that place on that does not fit a block of that size
abbrev pub IsTooLong : (captured at size : ℕ) → Type 0
IsTooLong captured at size = (longest_packet < captured) ⊎ (size < at + padded captured + 4)

-- ---- what is tested, in this order

-- a test, what holds where it is met, and what holds where it is not
abbrev pub Where : Type 0 → Type 0 → Type 0 → Type 0
Where Test Met Others = (Test × Met) ⊎ ((¬ Test) × Others)

-- a rule, what holds where it is broken, and what holds where it is kept
abbrev pub Unless : Type 0 → Type 0 → Type 0 → Type 0
Unless Rule Broken Others = Where Rule Others Broken

-- a block without a packet, which sets that
abbrev pub SeesOther : State → ℕ → Seen → Seen → Type 0
SeesOther state offset sets sees =
    Where (most_others ≤ state.others) (sees ≡ seen.Fault (fault.Blocks offset)) (sees ≡ sets)

-- a packet of that captured length and interface, from that place on in a block of that size
abbrev pub SeesCaptured : ℕ → AnInterface → ℕ → ℕ → ℕ → Seen → Type 0
SeesCaptured offset interface captured at size sees =
    Where (IsTooLong captured at size) (sees ≡ seen.Fault (fault.CapturedLength offset captured))
    (sees ≡ seen.Packet size at (given_length interface captured))

-- the interface of a packet with that number
abbrev pub interface_at : State → ℕ → AnInterface
interface_at state place = get_or state.interfaces place no_interface

-- its section has no interface of that number
abbrev pub HasNoInterface : State → ℕ → Type 0
HasNoInterface state place = length state.interfaces ≤ place

-- an enhanced packet, of the interface with that number
abbrev pub SeesEnhanced : State → ℕ → (place captured : ℕ) → ℕ → Seen → Type 0
SeesEnhanced state offset place captured size sees =
    Where (HasNoInterface state place) (sees ≡ seen.Fault (fault.Interface offset place))
    (SeesCaptured offset (interface_at state place) captured 28 size sees)

-- a simple packet of that original length, which is of the interface 0
abbrev pub SeesSimple : State → ℕ → (original : ℕ) → ℕ → Seen → Type 0
SeesSimple state offset original size sees =
    Where (HasNoInterface state 0) (sees ≡ seen.Fault (fault.Interface offset 0))
    (SeesCaptured offset (interface_at state 0) (simple_length (interface_at state 0) original) 12 size sees)

-- a section of that version
abbrev pub SeesSection : State → ℕ → Order → (major minor : ℕ) → ℕ → Seen → Type 0
SeesSection state offset order major minor size sees =
    Unless (major ≡ 1) (sees ≡ seen.Fault (fault.SectionVersion offset major minor))
    (SeesOther state offset (seen.Section size order) sees)

-- the interface of that link type, snapshot length and clock
abbrev pub interface_of : State → (link snapshot : ℕ) → Clock → AnInterface
interface_of state link snapshot clock =
    record { is_asked = nat_eq link state.link; snapshot = snapshot; clock = clock }

-- a block that describes it
abbrev pub SeesInterface : State → ℕ → (link snapshot : ℕ) → Clock → ℕ → Seen → Type 0
SeesInterface state offset link snapshot clock size sees =
    Where (most_interfaces ≤ length state.interfaces) (sees ≡ seen.Fault (fault.Interfaces offset))
    (SeesOther state offset (seen.Interface size (interface_of state link snapshot clock)) sees)

-- what a whole block of that kind and size shows
abbrev pub SeesKind : State → ℕ → Order → Kind → ℕ → List ℕ → Seen → Type 0
SeesKind state offset order Section size bytes sees =
    SeesSection state offset order (number order 2 (drop 12 bytes)) (number order 2 (drop 14 bytes)) size sees
SeesKind state offset order Interface size bytes sees =
    SeesInterface state offset (number order 2 (drop 8 bytes)) (number order 4 (drop 12 bytes))
    (clock_of order size bytes) size sees
SeesKind state offset order Enhanced size bytes sees =
    SeesEnhanced state offset (number order 4 (drop 8 bytes)) (number order 4 (drop 20 bytes)) size sees
SeesKind state offset order Simple size bytes sees =
    SeesSimple state offset (number order 4 (drop 8 bytes)) size sees
SeesKind state offset order Other size bytes sees = SeesOther state offset (seen.Other size) sees

-- what bytes from a block's start on show, where its head shows that order, kind and size
abbrev pub SeesSize : State → ℕ → Order → Kind → ℕ → List ℕ → Seen → Type 0
SeesSize state offset order kind size bytes sees =
    Unless (IsBlockLength kind size) (sees ≡ seen.Fault (fault.BlockLength offset size))
    (Where (length bytes < size) (sees ≡ seen.Cut)
    (Unless (second_length order size bytes ≡ size)
    (sees ≡ seen.Fault (fault.Trailer offset (second_length order size bytes)))
    (SeesKind state offset order kind size bytes sees)))

-- a block with its order and its kind
abbrev pub SeesHead : State → ℕ → List ℕ → Seen → Type 0
SeesHead state offset bytes sees =
    (order : Order) × (kind : Kind) × IsReadIn state order bytes × HasKind (block_type order bytes) kind
    × SeesSize state offset order kind (total_length order bytes) bytes sees

-- What the bytes from a block's start on show, which stands at that offset in the input, where the blocks before have
-- set that.
abbrev pub Sees : State → ℕ → List ℕ → Seen → Type 0
Sees state offset bytes sees =
    Where (IsShort bytes) (sees ≡ seen.Cut)
    (Where (HasNoOrder bytes) (sees ≡ seen.Fault (fault.ByteOrder offset (take 4 (drop 8 bytes))))
    (SeesHead state offset bytes sees))

-- ---- blocks

-- what is set behind a block that shows that
abbrev pub after : State → Seen → State
after state (seen.Section size order) = record state { order = order; interfaces = []; others = state.others + 1 }
after state (seen.Interface size interface) =
    record state { interfaces = state.interfaces ++ interface ∷ []; others = state.others + 1 }
after state (seen.Other size) = record state { others = state.others + 1 }
after state (seen.Packet size at count) = state
after state seen.Cut = state
after state (seen.Fault found) = state

-- the packets that such a block gives: one, or none
abbrev pub packets_of : Seen → List ℕ → List (List ℕ)
packets_of (seen.Packet size at count) block = take count (drop at block) ∷ []
packets_of (seen.Section size order) block = []
packets_of (seen.Interface size interface) block = []
packets_of (seen.Other size) block = []
packets_of seen.Cut block = []
packets_of (seen.Fault found) block = []

-- such a block is whole, right, and of that size
abbrev pub IsWhole : Seen → ℕ → Type 0
IsWhole (seen.Packet size at count) is = size ≡ is
IsWhole (seen.Section size order) is = size ≡ is
IsWhole (seen.Interface size interface) is = size ≡ is
IsWhole (seen.Other size) is = size ≡ is
IsWhole seen.Cut is = ⊥
IsWhole (seen.Fault found) is = ⊥

-- a whole block that keeps every rule, where the blocks before have set that
pub record IsBlock (state : State) (offset : ℕ) (block : List ℕ) (sees : Seen) : Type 0 where
  pub shows : Sees state offset block sees
  pub whole : IsWhole sees (length block)

-- from that state and offset on these are right blocks, which give these packets and leave that state
abbrev pub AreBlocks : State → ℕ → List (List ℕ) → List (List ℕ) → State → Type 0
AreBlocks state offset [] packets last = (packets ≡ []) × (last ≡ state)
AreBlocks state offset (block ∷ blocks) packets last =
    (sees : Seen) × (more : List (List ℕ)) × IsBlock state offset block sees
    × AreBlocks (after state sees) (offset + length block) blocks more last
    × (packets ≡ packets_of sees block ++ more)

-- ---- the input

-- what may stand behind the last whole block, and the ending that it gives
abbrev pub IsLast : State → ℕ → List ℕ → Result ℕ AnyFault → Type 0
IsLast state offset bytes (Ok rest) = Sees state offset bytes seen.Cut × (rest ≡ length bytes)
IsLast state offset bytes (Err found) = Sees state offset bytes (seen.Fault found)

-- The pcapng input of these bytes has these packets and this ending. `Ok rest` is an ending without a fault: at 0 the
-- bytes end with the last block, and above 0 a cut block of that many bytes stands there.
pub record HoldsBlocks (from : State) (offset : ℕ) (bytes : List ℕ) (packets : List (List ℕ))
    (ending : Result ℕ AnyFault) : Type 0 where
  pub blocks : List (List ℕ)
  pub last : State
  pub each : AreBlocks from offset blocks packets last
  pub rest : List ℕ
  pub parts : bytes ≡ flat_map (λ block. block) blocks ++ rest
  pub ends : IsLast last (offset + length (flat_map (λ block. block) blocks)) rest ending
