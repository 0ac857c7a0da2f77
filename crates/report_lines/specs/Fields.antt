-- The fields of a report's lines, each read at the front of some bytes: a value and the bytes behind it, or nothing.
-- Source: docs/FORMATS.md, the report.
use Rattle.std.specs.Prelude.{ℕ, zero, suc, ◌-◌, Bool, true, false, List, [], ◌∷◌, ◌++◌, codes, replicate, Option, Some, None, ◌==◌, if◌then◌else◌}
use Rattle.hash_bits.specs.declared.hashing.Hashing.{Hashing}
use Rattle.hash_bits.specs.declared.hashing.Hashing.TheVariants.{Mix, Ports}
use Rattle.trace_share.specs.declared.deals.Share.{Share}
use Rattle.trace_share.specs.declared.deals.Share.TheVariants.{Round, Block, Flow}
use Rattle.capture_faults.specs.declared.fault.CaptureFault.{CaptureFault}
use Rattle.capture_faults.specs.declared.fault.CaptureFault.TheVariants.{ShortHeader, Magic, Version, LinkType, RecordLength}
use Rattle.capture_faults.specs.declared.any_fault.AnyFault.{AnyFault}
use Rattle.capture_faults.specs.declared.any_fault.AnyFault.TheVariants.{Capture, ByteOrder, BlockLength, Trailer, SectionVersion, Interface, CapturedLength, Interfaces, Blocks}
use Rattle.plain_map.specs.declared.keys.Key.{Key}
use Rattle.plain_map.specs.declared.calls.Call.{Call}
use Rattle.plain_map.specs.declared.calls.Call.TheVariants.{Insert, Remove, Lookup, Tally, Count}
use Rattle.plain_map.specs.declared.calls.Reply.{Reply}
use Rattle.plain_map.specs.declared.calls.Reply.TheVariants.{New, Old, NoRoom, Gone, Found, Absent, Sum}
use Rattle.plain_map.specs.declared.full.FullKind.{FullKind}
use Rattle.plain_map.specs.declared.full.FullKind.TheVariants.{OpRows, BucketRows, BucketWords, DirRows}
use Rattle.plain_map.specs.declared.records.Seen.{Seen}
use Rattle.plain_map.specs.declared.records.TheConstants.{MOST_SEATS}
use Rattle.capture_faults.specs.declared.ending.Ending.{Ending}
use Rattle.capture_faults.specs.declared.ending.Ending.TheVariants.{Done, ReadFault, Limit, Fault}
use Rattle.line_fields.specs.Reading.{◌>>=◌, hexadecimal_at, number_at, text_at}
use Rattle.flow_reading.specs.Flows.{flow_at}

-- the most that a number of 16 bits is
abbrev pub most_16 : ℕ
most_16 = 65535

-- the most that a number of 32 bits is
abbrev pub most_32 : ℕ
most_32 = 4294967295

-- the most that bytes of a session are
abbrev pub most_61 : ℕ
most_61 = 2305843009213693951

-- the most that a number of 64 bits is
abbrev pub most_64 : ℕ
most_64 = 18446744073709551615

-- what stands behind a text that stands there, or else another reading
abbrev pub behind_or : {A : Type 0} → Option (List ℕ) → (List ℕ → Option A) → Option A → Option A
behind_or (Some rest) next other = next rest
behind_or None next other = other

-- what is made of a value that is read
abbrev pub made_at : {T A : Type 0} → (List ℕ → Option (T × List ℕ)) → (T → A) → List ℕ → Option (A × List ℕ)
made_at at made bytes = do
  value ← at bytes
  Some (made value.0, value.1)

-- what is made of a number
abbrev pub numbered : {A : Type 0} → (most : ℕ) → (ℕ → A) → List ℕ → Option (A × List ℕ)
numbered most made bytes = made_at (number_at most) made bytes

-- two values, with a known text between
abbrev pub both_at : {T V : Type 0} → (List ℕ → Option (T × List ℕ)) → (known : List ℕ) →
    (List ℕ → Option (V × List ℕ)) → List ℕ → Option ((T × V) × List ℕ)
both_at one known other bytes = do
  first ← one bytes
  rest ← text_at known first.1
  second ← other rest
  Some ((first.0, second.0), second.1)

-- Fields of the head line.

-- `serve` or `play`: whether the report is of a play
unfoldable pub mode_at : List ℕ → Option (Bool × List ℕ)
mode_at bytes =
    behind_or (text_at (codes "serve") bytes) (λ rest. Some (false, rest))
    (behind_or (text_at (codes "play") bytes) (λ rest. Some (true, rest)) None)

-- the hash and its seed
unfoldable pub hashing_at : List ℕ → Option (Hashing × List ℕ)
hashing_at bytes =
    behind_or (text_at (codes "mix seed ") bytes) (numbered most_64 (λ seed. Mix seed))
    (behind_or (text_at (codes "ports seed ") bytes) (numbered most_64 (λ seed. Ports seed)) None)

-- how calls are dealt to seats
unfoldable pub share_at : List ℕ → Option (Share × List ℕ)
share_at bytes =
    behind_or (text_at (codes "round") bytes) (λ rest. Some (Round, rest))
    (behind_or (text_at (codes "block") bytes) (λ rest. Some (Block, rest))
    (behind_or (text_at (codes "flow") bytes) (λ rest. Some (Flow, rest)) None))

-- Fields of a call's line.

-- a key, and how many bytes a tally brings
abbrev pub tallied_at : List ℕ → Option ((Key × ℕ) × List ℕ)
tallied_at bytes = both_at flow_at (codes " by ") (number_at most_64) bytes

-- a key, and how many bytes a count brings
abbrev pub counted_at : List ℕ → Option ((Key × ℕ) × List ℕ)
counted_at bytes = both_at flow_at (codes " by ") (number_at most_61) bytes

-- the verb and the key; an insert and a count bring the packet's number
unfoldable pub verb_at : (packet : ℕ) → List ℕ → Option (Call × List ℕ)
verb_at packet bytes =
    behind_or (text_at (codes " insert ") bytes) (made_at flow_at (λ key. Insert key packet))
    (behind_or (text_at (codes " remove ") bytes) (made_at flow_at (λ key. Remove key))
    (behind_or (text_at (codes " lookup ") bytes) (made_at flow_at (λ key. Lookup key))
    (behind_or (text_at (codes " tally ") bytes) (made_at tallied_at (λ told. Tally told.0 told.1))
    (behind_or (text_at (codes " count ") bytes) (made_at counted_at (λ told. Count told.0 packet told.1)) None))))

-- `new` tells the packet
abbrev pub new_at : (packet : ℕ) → List ℕ → Option (Reply × List ℕ)
new_at packet bytes = do
  number ← number_at most_64 bytes
  if number.0 == packet then Some (New, number.1) else None

-- the reply to a call, behind a space; `new` tells the packet
unfoldable pub reply_at : (packet : ℕ) → List ℕ → Option (Reply × List ℕ)
reply_at packet bytes =
    behind_or (text_at (codes " new ") bytes) (new_at packet)
    (behind_or (text_at (codes " old ") bytes) (numbered most_64 (λ value. Old value))
    (behind_or (text_at (codes " found ") bytes) (numbered most_64 (λ value. Found value))
    (behind_or (text_at (codes " gone ") bytes) (numbered most_64 (λ value. Gone value))
    (behind_or (text_at (codes " absent") bytes) (λ rest. Some (Absent, rest))
    (behind_or (text_at (codes " noroom") bytes) (λ rest. Some (NoRoom, rest))
    (behind_or (text_at (codes " sum ") bytes) (numbered most_64 (λ total. Sum total)) None))))))

-- what there was too little of
unfoldable pub kind_at : List ℕ → Option (FullKind × List ℕ)
kind_at bytes =
    behind_or (text_at (codes "oprows") bytes) (λ rest. Some (OpRows, rest))
    (behind_or (text_at (codes "bucketrows") bytes) (λ rest. Some (BucketRows, rest))
    (behind_or (text_at (codes "bucketwords") bytes) (λ rest. Some (BucketWords, rest))
    (behind_or (text_at (codes "dirrows") bytes) (λ rest. Some (DirRows, rest)) None)))

-- so many more counts, each behind a comma, behind those that were read
unfoldable pub counts_behind : ℕ → (front : List ℕ) → List ℕ → Option (List ℕ × List ℕ)
counts_behind zero front bytes = Some (front, bytes)
counts_behind (suc many) front bytes = do
  rest ← text_at (codes ",") bytes
  count ← number_at most_32 rest
  counts_behind many (front ++ count.0 ∷ []) count.1

-- counts for so many seats; no other seat has one
abbrev pub seen_with : (seats : ℕ) → List ℕ → Seen
seen_with seats counts = record { counts = counts ++ replicate (MOST_SEATS - seats) 0 }

-- a count for each of so many seats, with commas between
unfoldable pub counts_at : (seats : ℕ) → List ℕ → Option (Seen × List ℕ)
counts_at seats bytes = do
  first ← number_at most_32 bytes
  counts ← counts_behind (seats - 1) (first.0 ∷ []) first.1
  Some (seen_with seats counts.0, counts.1)

-- The packets of an order's line.

-- one packet more, where a space stands
abbrev pub next_packet : (more : List ℕ → List ℕ → Option (List ℕ × List ℕ)) → (front bytes : List ℕ) →
    Option (List ℕ) → Option (List ℕ × List ℕ)
next_packet more front bytes None = Some (front, bytes)
next_packet more front bytes (Some rest) = do
  packet ← number_at most_32 rest
  more (front ++ packet.0 ∷ []) packet.1

-- at most so many more, each behind a space, behind those that were read
unfoldable pub packets_behind : ℕ → (front : List ℕ) → List ℕ → Option (List ℕ × List ℕ)
packets_behind zero front bytes = Some (front, bytes)
packets_behind (suc many) front bytes =
    next_packet (packets_behind many) front bytes (text_at (codes " ") bytes)

-- Fields of the input line.

-- four bytes, as two hexadecimal digits each
unfoldable pub four_at : List ℕ → Option (List ℕ × List ℕ)
four_at bytes = do
  one ← hexadecimal_at bytes
  two ← hexadecimal_at one.1
  three ← hexadecimal_at two.1
  four ← hexadecimal_at three.1
  Some (one.0 ∷ two.0 ∷ three.0 ∷ four.0 ∷ [], four.1)

-- both numbers of a version
unfoldable pub version_at : List ℕ → Option ((ℕ × ℕ) × List ℕ)
version_at bytes = both_at (number_at most_16) (codes ".") (number_at most_16) bytes

-- where something begins, and the number that stands there
unfoldable pub place_at : List ℕ → Option ((ℕ × ℕ) × List ℕ)
place_at bytes = both_at (number_at most_64) (codes " found ") (number_at most_32) bytes

-- where a section begins, and its version
unfoldable pub section_at : List ℕ → Option ((ℕ × (ℕ × ℕ)) × List ℕ)
section_at bytes = both_at (number_at most_64) (codes " found ") version_at bytes

-- where a section begins, and the bytes in place of its byte order
unfoldable pub order_bytes_at : List ℕ → Option ((ℕ × List ℕ) × List ℕ)
order_bytes_at bytes = both_at (number_at most_64) (codes " found ") four_at bytes

-- where a block begins that is one too many: what is found is known
abbrev pub many_at : (known : List ℕ) → (ℕ → AnyFault) → List ℕ → Option (AnyFault × List ℕ)
many_at known made bytes = do
  offset ← number_at most_64 bytes
  rest ← text_at known offset.1
  Some (made offset.0, rest)

-- what is wrong with a savefile, where, and what stands there
unfoldable pub capture_at : List ℕ → Option (CaptureFault × List ℕ)
capture_at bytes =
    behind_or (text_at (codes "short-header at 0 found ") bytes) (numbered most_32 (λ have. ShortHeader have))
    (behind_or (text_at (codes "magic at 0 found ") bytes) (made_at four_at (λ four. Magic four))
    (behind_or (text_at (codes "version at 4 found ") bytes) (made_at version_at (λ found. Version found.0 found.1))
    (behind_or (text_at (codes "link at 20 found ") bytes) (numbered most_16 (λ found. LinkType found))
    (behind_or (text_at (codes "length at ") bytes) (made_at place_at (λ at. RecordLength at.0 at.1)) None))))

-- what is wrong with a packet's block
unfoldable pub packet_fault_at : List ℕ → Option (AnyFault × List ℕ)
packet_fault_at bytes =
    behind_or (text_at (codes "interface at ") bytes) (made_at place_at (λ at. Interface at.0 at.1))
    (behind_or (text_at (codes "captured-length at ") bytes) (made_at place_at (λ at. CapturedLength at.0 at.1))
    (behind_or (text_at (codes "interfaces at ") bytes) (many_at (codes " found 257") (λ offset. Interfaces offset))
    (behind_or (text_at (codes "blocks at ") bytes) (many_at (codes " found 4000001") (λ offset. Blocks offset))
    (made_at capture_at (λ fault. Capture fault) bytes))))

-- what is wrong with an input, where, and what stands there
unfoldable pub fault_at : List ℕ → Option (AnyFault × List ℕ)
fault_at bytes =
    behind_or (text_at (codes "byte-order at ") bytes) (made_at order_bytes_at (λ at. ByteOrder at.0 at.1))
    (behind_or (text_at (codes "block-length at ") bytes) (made_at place_at (λ at. BlockLength at.0 at.1))
    (behind_or (text_at (codes "trailer at ") bytes) (made_at place_at (λ at. Trailer at.0 at.1))
    (behind_or (text_at (codes "section-version at ") bytes)
    (made_at section_at (λ at. SectionVersion at.0 at.1.0 at.1.1)) (packet_fault_at bytes))))

-- how the input ended
unfoldable pub ending_at : List ℕ → Option (Ending × List ℕ)
ending_at bytes =
    behind_or (text_at (codes "done rest ") bytes) (numbered most_32 (λ left. Done left))
    (behind_or (text_at (codes "read-fault") bytes) (λ rest. Some (ReadFault, rest))
    (behind_or (text_at (codes "limit ") bytes) (numbered most_64 (λ limit. Limit limit))
    (behind_or (text_at (codes "fault ") bytes) (made_at fault_at (λ fault. Fault fault)) None)))
