-- No packet is longer than the limit.
use Rattle.std.proofs.Common.{◌≡◌, ◌≤◌, ℕ, List, [], ◌∷◌, ◌++◌, length, drop, inl, inr, sym, ap, subst, arith, length-take}
use Rattle.std.specs.List.{All}
use Rattle.std.proofs.lemmas.Bool.{cases_lt}
use Rattle.std.proofs.lemmas.List.Elements.{All-head, All-tail}
use Rattle.pcap_reader.specs.declared.order.Order.{Order}
use Rattle.pcap_reader.specs.Capture.{IsSaved, Saved, number}
use Rattle.pcapng_reader.specs.declared.section.Interface.{Interface as AnInterface}
use Rattle.pcapng_reader.specs.declared.block.Kind.{Kind}
use Rattle.pcapng_reader.specs.declared.block.Kind.TheVariants.{Section, Interface, Enhanced, Simple, Other}
use Rattle.pcapng_reader.specs.declared.block.Seen.{Seen}
use Rattle.pcapng_reader.specs.declared.block.Seen.TheVariants as seen
use Rattle.pcapng_reader.specs.Section.{State}
use Rattle.pcapng_reader.specs.Blocks.{AreBlocks, IsTooLong, SeesKind, given_length, interface_at, packets_of, simple_length}
use Rattle.pcapng_reader.specs.Input.{packets_in}
use Rattle.pcapng_reader.specs.Reading.{AreParts, Form, GivesPacket, OfBlocks, OfRecords, Reading}
use Rattle.pcapng_reader.proofs.BlockFacts.{whole_parts}
use Rattle.pcapng_reader.proofs.NextFacts.{given_le}

-- ---- what a block shows

-- how many bytes are given
count_of : Seen → ℕ
count_of (seen.Packet size at count) = count
count_of seen.Cut = 0
count_of (seen.Fault found) = 0
count_of (seen.Section size order) = 0
count_of (seen.Interface size interface) = 0
count_of (seen.Other size) = 0

-- a captured length that is not too long is within the limit
within : (captured at size : ℕ) → (IsTooLong captured at size → ⊥) → captured ≤ 262144
within captured at size not = elim (cases_lt 262144 captured) [
  | inl long ↦ absurd (not (inl long))
  | inr short ↦ short
]

given_within : (interface : AnInterface) (captured at size : ℕ) → (IsTooLong captured at size → ⊥) →
    given_length interface captured ≤ 262144
given_within interface captured at size not =
    omega (arith, within captured at size not, given_le interface.is_asked captured)

-- no more is given
count_within : (state : State) (offset : ℕ) (order : Order) (kind : Kind) (size : ℕ) (bytes : List ℕ) (x : Seen) →
    SeesKind state offset order kind size bytes x → count_of x ≤ 262144
unfolding count_of
count_within state offset order Section size bytes x (inr p) = omega (arith, ap count_of p.1)
count_within state offset order Section size bytes x (inl (v, inl p)) = omega (arith, ap count_of p.1)
count_within state offset order Section size bytes x (inl (v, inr p)) = omega (arith, ap count_of p.1)
count_within state offset order Interface size bytes x (inl p) = omega (arith, ap count_of p.1)
count_within state offset order Interface size bytes x (inr (v, inl p)) = omega (arith, ap count_of p.1)
count_within state offset order Interface size bytes x (inr (v, inr p)) = omega (arith, ap count_of p.1)
count_within state offset order Enhanced size bytes x (inl p) = omega (arith, ap count_of p.1)
count_within state offset order Enhanced size bytes x (inr (v, inl p)) = omega (arith, ap count_of p.1)
count_within state offset order Enhanced size bytes x (inr (v, inr p)) =
    let count : count_of x
    ≡ given_length (interface_at state (number order 4 (drop 8 bytes))) (number order 4 (drop 20 bytes)) =
    ap count_of p.1 in
    omega (
      arith,
      count,
      given_within (interface_at state (number order 4 (drop 8 bytes))) (number order 4 (drop 20 bytes)) 28 size p.0,
    )
count_within state offset order Simple size bytes x (inl p) = omega (arith, ap count_of p.1)
count_within state offset order Simple size bytes x (inr (v, inl p)) = omega (arith, ap count_of p.1)
count_within state offset order Simple size bytes x (inr (v, inr p)) =
    let captured : ℕ = simple_length (interface_at state 0) (number order 4 (drop 8 bytes)) in
    let count : count_of x ≡ given_length (interface_at state 0) captured = ap count_of p.1 in
    omega (arith, count, given_within (interface_at state 0) captured 12 size p.0)
count_within state offset order Other size bytes x (inl p) = omega (arith, ap count_of p.1)
count_within state offset order Other size bytes x (inr p) = omega (arith, ap count_of p.1)

-- ---- packets

abbrev AreShort : List (List ℕ) → Type 0
AreShort [] = Unit {0}
AreShort (packet ∷ packets) = (length packet ≤ 262144) × AreShort packets

-- of a block, and of those behind it
block_short : (x : Seen) (block : List ℕ) (more : List (List ℕ)) → count_of x ≤ 262144 → AreShort more →
    AreShort (packets_of x block ++ more)
unfolding count_of
block_short (seen.Packet size at count) block more few rest =
    (omega (arith, few, length-take count (drop at block)), rest)
block_short (seen.Section size order) block more few rest = rest
block_short (seen.Interface size interface) block more few rest = rest
block_short (seen.Other size) block more few rest = rest
block_short seen.Cut block more few rest = rest
block_short (seen.Fault found) block more few rest = rest

blocks_short : (blocks : List (List ℕ)) (state : State) (offset : ℕ) (packets : List (List ℕ)) (last : State) →
    AreBlocks state offset blocks packets last → AreShort packets
blocks_short [] state offset packets last h = subst AreShort (sym h.0) tt
blocks_short (block ∷ blocks) state offset packets last h =
    let parts = whole_parts state offset block h.0 (length block) h.2.whole h.2.shows in
    let few = count_within state offset parts.order parts.kind (length block) block h.0 parts.inside in
    subst AreShort (sym h.4) (block_short h.0 block h.1 few (blocks_short blocks _ _ h.1 last h.3))

records_short : (order : Order) (records : List Saved) → All (IsSaved order) records → AreShort (packets_in records)
records_short order [] each = tt
records_short order (saved ∷ records) each = (
  (All-head (IsSaved order) saved records each).within,
  records_short order records (All-tail (IsSaved order) saved records each),
)

parts_short : (form : Form) (offset : ℕ) (bytes : List ℕ) (packets : List (List ℕ)) (last : Form) →
    AreParts form offset bytes packets last → AreShort packets
parts_short (OfRecords order) offset bytes packets last h = subst AreShort (sym h.3) (records_short order h.0 h.1)
parts_short (OfBlocks state) offset bytes packets last h = blocks_short h.0 state offset packets h.1 h.2

-- what a reader gives
pub packet_short : {old new : Reading} {taken : List ℕ} → GivesPacket old new taken → length new.packet ≤ 262144
packet_short {old} {new} {taken} given =
    (parts_short old.form old.offset given.passed (new.packet ∷ []) new.form given.parts).0
