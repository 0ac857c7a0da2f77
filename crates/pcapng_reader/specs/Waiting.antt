-- The block that comes next, as far as it is held.
use Rattle.std.specs.Prelude.{◌≡◌, ◌≤◌, ◌<◌, ℕ, ◌+◌, ◌++◌, List, [], length, take, drop, Option, IfSome}
use Rattle.std.specs.List.{flat_map}
use Rattle.pcapng_reader.specs.declared.block.Seen.{Seen}
use Rattle.pcapng_reader.specs.declared.block.Seen.TheVariants as seen
use Rattle.pcapng_reader.specs.Section.{State}
use Rattle.pcap_reader.specs.declared.order.Order.{Order}
use Rattle.pcap_reader.specs.Capture.{number}
use Rattle.pcapng_reader.specs.declared.block.Kind.{Kind}
use Rattle.pcapng_reader.specs.declared.block.Kind.TheVariants.{Section, Interface, Enhanced, Simple, Other}
use Rattle.pcapng_reader.specs.declared.long.Long.{Long}
use Rattle.capture_faults.specs.declared.any_fault.AnyFault.TheVariants as fault
use Rattle.pcapng_reader.specs.Blocks.{AreBlocks, HasKind, IsBlockLength, IsReadIn, Sees, SeesKind, Unless, block_type, interface_at, longest_packet, most_interfaces, most_others, simple_length, total_length}

-- a whole block of that size, of which bytes were dropped behind the first so many: the part that is given lies before
abbrev pub LiesIn : Seen → (front dropped : ℕ) → Type 0
LiesIn (seen.Packet size at count) front dropped = (at + count ≤ front) × (front + dropped ≤ size)
LiesIn (seen.Section size order) front dropped = front + dropped ≤ size
LiesIn (seen.Interface size interface) front dropped = front + dropped ≤ size
LiesIn (seen.Other size) front dropped = front + dropped ≤ size
LiesIn seen.Cut front dropped = Unit {0}
LiesIn (seen.Fault found) front dropped = Unit {0}

-- bytes were dropped behind the first so many that are kept
pub record Drops (kept : ℕ) (old new : List ℕ) (dropped : ℕ) (taken : List ℕ) : Type 0 where
  pub gone : List ℕ
  pub behind : List ℕ
  pub all : old ++ taken ≡ take kept old ++ (gone ++ behind)
  pub held : new ≡ take kept old ++ behind
  pub size : length gone ≡ dropped

-- So many bytes were dropped behind the first so many that are kept, of `count` that were to be. Where they were fewer,
-- no other is held, and all was taken that the source had, where it told that.
pub record DropsTo (kept count : ℕ) (old new : List ℕ) (dropped : ℕ) (before : Option (List ℕ)) (taken : List ℕ) :
    Type 0 where
  pub drops : Drops kept old new dropped taken
  pub few : dropped ≤ count
  pub held : dropped < count → length new ≡ kept
  pub end : dropped < count → IfSome before (λ bytes. bytes ≡ taken)

-- where the source failed, fewer were dropped
pub record DropsNone (kept count : ℕ) (old new : List ℕ) (taken : List ℕ) : Type 0 where
  pub dropped : ℕ
  pub drops : Drops kept old new dropped taken
  pub few : dropped < count
  pub held : length new ≡ kept

-- The bytes from a block's start on show that, all but so many of which are held, where `old` was held and then more
-- was taken.
pub record Awaits (state : State) (offset : ℕ) (old new : List ℕ) (sees : Seen) (dropped : ℕ) (taken : List ℕ) :
    Type 0 where
  pub front : List ℕ
  pub gone : List ℕ
  pub behind : List ℕ
  pub all : old ++ taken ≡ front ++ (gone ++ behind)
  pub held : new ≡ front ++ behind
  pub size : length gone ≡ dropped
  pub shows : Sees state offset (front ++ (gone ++ behind)) sees
  pub lies : LiesIn sees (length front) dropped
  pub few : dropped ≤ 16777216

-- where a block is cut at the end of the input, all was taken that the source had, where it told that
abbrev pub TakesAll : Seen → (before : Option (List ℕ)) → (taken : List ℕ) → Type 0
TakesAll seen.Cut before taken = IfSome before (λ bytes. bytes ≡ taken)
TakesAll (seen.Packet size at count) before taken = Unit {0}
TakesAll (seen.Section size order) before taken = Unit {0}
TakesAll (seen.Interface size interface) before taken = Unit {0}
TakesAll (seen.Other size) before taken = Unit {0}
TakesAll (seen.Fault found) before taken = Unit {0}

abbrev pub AwaitsTo : State → ℕ → (old new : List ℕ) → Seen → (dropped : ℕ) → (before : Option (List ℕ)) → List ℕ →
    Type 0
AwaitsTo state offset old new sees dropped before taken =
    Awaits state offset old new sees dropped taken × TakesAll sees before taken

-- where the source failed, the block is cut
abbrev pub AwaitsNone : State → ℕ → (old new : List ℕ) → (taken : List ℕ) → Type 0
AwaitsNone state offset old new taken = (dropped : ℕ) × Awaits state offset old new seen.Cut dropped taken

-- The same behind blocks that give no packet.
pub record Passes (state : State) (offset : ℕ) (old : List ℕ) (last : State) (new : List ℕ) (place : ℕ) (sees : Seen)
    (dropped : ℕ) (taken : List ℕ) : Type 0 where
  pub blocks : List (List ℕ)
  pub each : AreBlocks state offset blocks [] last
  pub place_is : place ≡ offset + length (flat_map (λ block. block) blocks)
  pub middle : List ℕ
  pub more : List ℕ
  pub all : old ++ taken ≡ flat_map (λ block. block) blocks ++ (middle ++ more)
  pub awaits : Awaits last place middle new sees dropped more

abbrev pub PassesTo : State → ℕ → (old : List ℕ) → State → (new : List ℕ) → (place : ℕ) → Seen → (dropped : ℕ) →
    (before : Option (List ℕ)) → List ℕ → Type 0
PassesTo state offset old last new place sees dropped before taken =
    Passes state offset old last new place sees dropped taken × TakesAll sees before taken

-- where the source failed, the block is cut
abbrev pub PassesNone : State → ℕ → (old : List ℕ) → State → (new : List ℕ) → (taken : List ℕ) → Type 0
PassesNone state offset old last new taken =
    (place : ℕ) × (dropped : ℕ) × Passes state offset old last new place seen.Cut dropped taken

-- a packet, a cut block or a fault
abbrev pub IsLastSeen : Seen → Type 0
IsLastSeen (seen.Packet size at count) = Unit {0}
IsLastSeen seen.Cut = Unit {0}
IsLastSeen (seen.Fault found) = Unit {0}
IsLastSeen (seen.Section size order) = ⊥
IsLastSeen (seen.Interface size interface) = ⊥
IsLastSeen (seen.Other size) = ⊥

-- a whole block of that size without a packet, which is passed
abbrev pub IsPassed : Seen → ℕ → Type 0
IsPassed (seen.Section size order) is = size ≡ is
IsPassed (seen.Interface size interface) is = size ≡ is
IsPassed (seen.Other size) is = size ≡ is
IsPassed (seen.Packet size at count) is = ⊥
IsPassed seen.Cut is = ⊥
IsPassed (seen.Fault found) is = ⊥

-- a block that sets something is not one too many, nor is its interface
abbrev pub HasRoom : State → Seen → Type 0
HasRoom state (seen.Section size order) = state.others < most_others
HasRoom state (seen.Interface size interface) =
    (state.others < most_others) × (length state.interfaces < most_interfaces)
HasRoom state (seen.Other size) = state.others < most_others
HasRoom state (seen.Packet size at count) = Unit {0}
HasRoom state seen.Cut = Unit {0}
HasRoom state (seen.Fault found) = Unit {0}

-- the first so many bytes of such a block have its packet, where that is within the limit, and what is looked at of
-- options
abbrev pub CoversPacket : State → Order → Kind → List ℕ → (kept : ℕ) → Type 0
CoversPacket state order Section bytes kept = Unit {0}
CoversPacket state order Interface bytes kept = 4096 ≤ kept
CoversPacket state order Enhanced bytes kept =
    number order 4 (drop 20 bytes) ≤ longest_packet → 28 + number order 4 (drop 20 bytes) ≤ kept
CoversPacket state order Simple bytes kept =
    0 < length state.interfaces →
    simple_length (interface_at state 0) (number order 4 (drop 8 bytes)) ≤ longest_packet →
    12 + simple_length (interface_at state 0) (number order 4 (drop 8 bytes)) ≤ kept
CoversPacket state order Other bytes kept = Unit {0}

-- the bytes begin with a block of right length that is too long to be held whole; so many of its first bytes are kept
pub record IsLong (state : State) (bytes : List ℕ) (long : Long) : Type 0 where
  pub front : 28 ≤ length bytes
  pub read_in : IsReadIn state long.order bytes
  pub type : HasKind (block_type long.order bytes) long.kind
  pub right : IsBlockLength long.kind long.size
  pub total : total_length long.order bytes ≡ long.size
  pub above : 4128768 < long.size
  pub least : 28 ≤ long.kept
  pub few : long.kept ≤ 262172
  pub covers : CoversPacket state long.order long.kind bytes long.kept

-- what a long block shows whose second length stands behind the first bytes that are kept
abbrev pub SeesLong : State → ℕ → Long → List ℕ → Seen → Type 0
SeesLong state offset long bytes sees =
    Unless (number long.order 4 (drop long.kept bytes) ≡ long.size)
    (sees ≡ seen.Fault (fault.Trailer offset (number long.order 4 (drop long.kept bytes))))
    (SeesKind state offset long.order long.kind long.size bytes sees)
