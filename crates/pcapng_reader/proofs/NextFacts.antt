-- What a block that is given out or passed makes of a reader.
use Rattle.std.proofs.Common.{◌≡◌, ◌≤◌, ◌⊎◌, ℕ, ◌+◌, ◌*◌, ◌^◌, Some, None, Bool, true, false, if◌then◌else◌, List, [], ◌∷◌, ◌++◌, length, take, drop, sym, ap, ◌∙◌, subst, inl, inr, refl, arith, append-nil, length-drop, length-take-le, take-append-drop}
use Rattle.std.proofs.lemmas.Bool.{cases_lt}
use Rattle.std.proofs.lemmas.List.{drop-append-le, take-append-le}
use Rattle.pcap_reader.specs.declared.order.Order.{Order}
use Rattle.pcap_reader.specs.Capture.{number}
use Rattle.pcap_reader.specs.Reading.{buffer_length}
use Rattle.pcapng_reader.specs.declared.section.Interface.{Interface as AnInterface}
use Rattle.pcapng_reader.specs.declared.block.Kind.{Kind}
use Rattle.pcapng_reader.specs.declared.block.Kind.TheVariants.{Section, Interface, Enhanced, Simple, Other}
use Rattle.pcapng_reader.specs.declared.block.Seen.{Seen}
use Rattle.pcapng_reader.specs.declared.block.Seen.TheVariants as seen
use Rattle.pcapng_reader.specs.Section.{State}
use Rattle.pcapng_reader.specs.Blocks.{AreBlocks, IsBlock, IsTooLong, Sees, SeesKind, given_length, interface_at, padded, simple_length}
use Rattle.pcap_reader.specs.declared.stamp.Stamp.{Stamp}
use Rattle.pcap_reader.proofs.CaptureFacts.{number_at_front}
use Rattle.pcapng_reader.specs.Clocks.{usual_clock}
use Rattle.pcapng_reader.specs.Stamps.{block_stamp, stamp_told}
use Rattle.pcapng_reader.specs.Reading.{AreParts, Form, GivesPacket, HoldsPacket, OfBlocks, Reading, stamp_at}
use Rattle.pcapng_reader.proofs.BlockFacts.{least_4, whole_parts}
use Rattle.pcapng_reader.proofs.EveryInput.{first_block}

-- ---- where a packet lies

-- no more is given than was captured
pub given_le : (flag : Bool) (captured : ℕ) → (if flag then captured else 0) ≤ captured
given_le true captured = omega arith
given_le false captured = omega arith

-- where the part of a block ends that is given
end_of : Seen → ℕ
end_of (seen.Packet size at count) = at + count
end_of seen.Cut = 0
end_of (seen.Fault found) = 0
end_of (seen.Section size order) = 0
end_of (seen.Interface size interface) = 0
end_of (seen.Other size) = 0

-- a captured length that is not too long fits
fits : (captured at size : ℕ) → (IsTooLong captured at size → ⊥) → at + captured + 4 ≤ size
fits captured at size not = elim (cases_lt size (at + padded captured + 4)) [
  | inl few ↦ absurd (not (inr few))
  | inr enough ↦ omega (arith, enough)
]

-- and so does what is given of it
fits_given : (interface : AnInterface) (captured at size : ℕ) → (IsTooLong captured at size → ⊥) →
    at + given_length interface captured + 4 ≤ size
fits_given interface captured at size not =
    omega (arith, fits captured at size not, given_le interface.is_asked captured)

-- what is given of a packet lies in its block, before the second length
packet_end : (state : State) (offset : ℕ) (order : Order) (kind : Kind) (size : ℕ) (bytes : List ℕ) (x : Seen) →
    12 ≤ size → SeesKind state offset order kind size bytes x → end_of x + 4 ≤ size
unfolding end_of
packet_end state offset order Section size bytes x least (inr p) = omega (arith, least, ap end_of p.1)
packet_end state offset order Section size bytes x least (inl (v, inl p)) = omega (arith, least, ap end_of p.1)
packet_end state offset order Section size bytes x least (inl (v, inr p)) = omega (arith, least, ap end_of p.1)
packet_end state offset order Interface size bytes x least (inl p) = omega (arith, least, ap end_of p.1)
packet_end state offset order Interface size bytes x least (inr (v, inl p)) = omega (arith, least, ap end_of p.1)
packet_end state offset order Interface size bytes x least (inr (v, inr p)) = omega (arith, least, ap end_of p.1)
packet_end state offset order Enhanced size bytes x least (inl p) = omega (arith, least, ap end_of p.1)
packet_end state offset order Enhanced size bytes x least (inr (v, inl p)) = omega (arith, least, ap end_of p.1)
packet_end state offset order Enhanced size bytes x least (inr (v, inr p)) =
    let end : end_of x
    ≡ 28 + given_length (interface_at state (number order 4 (drop 8 bytes))) (number order 4 (drop 20 bytes)) =
    ap end_of p.1 in
    omega (
      arith,
      fits_given (interface_at state (number order 4 (drop 8 bytes))) (number order 4 (drop 20 bytes)) 28 size p.0,
      end,
    )
packet_end state offset order Simple size bytes x least (inl p) = omega (arith, least, ap end_of p.1)
packet_end state offset order Simple size bytes x least (inr (v, inl p)) = omega (arith, least, ap end_of p.1)
packet_end state offset order Simple size bytes x least (inr (v, inr p)) =
    let captured : ℕ = simple_length (interface_at state 0) (number order 4 (drop 8 bytes)) in
    let end : end_of x ≡ 12 + given_length (interface_at state 0) captured = ap end_of p.1 in
    omega (arith, fits_given (interface_at state 0) captured 12 size p.0, end)
packet_end state offset order Other size bytes x least (inl p) = omega (arith, least, ap end_of p.1)
packet_end state offset order Other size bytes x least (inr p) = omega (arith, least, ap end_of p.1)

-- where a whole block with a packet lies
pub record PacketLies (bytes : List ℕ) (size at count : ℕ) : Type 0 where
  pub part : at + count ≤ size
  pub there : size ≤ length bytes
  pub limit : size ≤ 16777216

-- a whole block with a packet lies so
pub packet_lies : (state : State) (offset : ℕ) (bytes : List ℕ) (size at count : ℕ) →
    Sees state offset bytes (seen.Packet size at count) → PacketLies bytes size at count
unfolding end_of
packet_lies state offset bytes size at count shows =
    let parts = whole_parts state offset bytes (seen.Packet size at count) size refl shows in
    let end = packet_end state offset parts.order parts.kind size bytes (seen.Packet size at count)
    (least_4 parts.kind size parts.right) parts.inside in
    record { part = omega (arith, end); there = parts.there; limit = parts.right.1 }

-- where it starts in its block
start_of : Seen → ℕ
start_of (seen.Packet size at count) = at
start_of seen.Cut = 12
start_of (seen.Fault found) = 12
start_of (seen.Section size order) = 12
start_of (seen.Interface size interface) = 12
start_of (seen.Other size) = 12

-- a packet starts behind the head of an enhanced or of a simple one
kind_start : (state : State) (offset : ℕ) (order : Order) (kind : Kind) (size : ℕ) (bytes : List ℕ) (x : Seen) →
    SeesKind state offset order kind size bytes x → (start_of x ≡ 28) ⊎ (start_of x ≡ 12)
unfolding start_of
kind_start state offset order Section size bytes x (inr p) = inr (ap start_of p.1)
kind_start state offset order Section size bytes x (inl (v, inl p)) = inr (ap start_of p.1)
kind_start state offset order Section size bytes x (inl (v, inr p)) = inr (ap start_of p.1)
kind_start state offset order Interface size bytes x (inl p) = inr (ap start_of p.1)
kind_start state offset order Interface size bytes x (inr (v, inl p)) = inr (ap start_of p.1)
kind_start state offset order Interface size bytes x (inr (v, inr p)) = inr (ap start_of p.1)
kind_start state offset order Enhanced size bytes x (inl p) = inr (ap start_of p.1)
kind_start state offset order Enhanced size bytes x (inr (v, inl p)) = inr (ap start_of p.1)
kind_start state offset order Enhanced size bytes x (inr (v, inr p)) = inl (ap start_of p.1)
kind_start state offset order Simple size bytes x (inl p) = inr (ap start_of p.1)
kind_start state offset order Simple size bytes x (inr (v, inl p)) = inr (ap start_of p.1)
kind_start state offset order Simple size bytes x (inr (v, inr p)) = inr (ap start_of p.1)
kind_start state offset order Other size bytes x (inl p) = inr (ap start_of p.1)
kind_start state offset order Other size bytes x (inr p) = inr (ap start_of p.1)

-- so does one that any bytes show
pub packet_starts : (state : State) (offset : ℕ) (bytes : List ℕ) (size at count : ℕ) →
    Sees state offset bytes (seen.Packet size at count) → (at ≡ 28) ⊎ (at ≡ 12)
unfolding start_of
packet_starts state offset bytes size at count shows =
    let parts = whole_parts state offset bytes (seen.Packet size at count) size refl shows in
    kind_start state offset parts.order parts.kind size bytes (seen.Packet size at count) parts.inside

-- ---- its stamp

-- what these numbers of an enhanced packet tell
abbrev enhanced : State → (place upper lower wire : ℕ) → Stamp
enhanced state place upper lower wire =
    stamp_told (record { ticks = Some (upper * 2 ^ 32 + lower); clock = (interface_at state place).clock; wire = wire })

-- an enhanced packet's stamp stands in its first bytes
enhanced_front : (state : State) (xs ys : List ℕ) → 28 ≤ length xs →
    block_stamp state 28 (xs ++ ys) ≡ block_stamp state 28 xs
enhanced_front state xs ys long =
    let n : ℕ → List ℕ → ℕ = λ k l. number state.order 4 (drop k l) in
    let place : n 8 (xs ++ ys) ≡ n 8 xs = number_at_front state.order 8 4 xs ys (omega (arith, long)) in
    let upper : n 12 (xs ++ ys) ≡ n 12 xs = number_at_front state.order 12 4 xs ys (omega (arith, long)) in
    let lower : n 16 (xs ++ ys) ≡ n 16 xs = number_at_front state.order 16 4 xs ys (omega (arith, long)) in
    let wire : n 24 (xs ++ ys) ≡ n 24 xs = number_at_front state.order 24 4 xs ys (omega (arith, long)) in
    ap (λ (a : ℕ). enhanced state a (n 12 (xs ++ ys)) (n 16 (xs ++ ys)) (n 24 (xs ++ ys))) place
    ∙ ap (λ (a : ℕ). enhanced state (n 8 xs) a (n 16 (xs ++ ys)) (n 24 (xs ++ ys))) upper
    ∙ ap (λ (a : ℕ). enhanced state (n 8 xs) (n 12 xs) a (n 24 (xs ++ ys))) lower
    ∙ ap (λ (a : ℕ). enhanced state (n 8 xs) (n 12 xs) (n 16 xs) a) wire

-- and so does a simple one's
simple_front : (state : State) (xs ys : List ℕ) → 12 ≤ length xs →
    block_stamp state 12 (xs ++ ys) ≡ block_stamp state 12 xs
simple_front state xs ys long =
    ap (λ (a : ℕ). stamp_told (record { ticks = None; clock = usual_clock; wire = a }))
    (number_at_front state.order 8 4 xs ys (omega (arith, long)))

-- so the stamp is the same where more bytes follow
pub stamp_front : (state : State) (at : ℕ) (xs ys : List ℕ) → (at ≡ 28) ⊎ (at ≡ 12) → at ≤ length xs →
    block_stamp state at (xs ++ ys) ≡ block_stamp state at xs
stamp_front state at xs ys (inl is) long =
    subst (λ (n : ℕ). block_stamp state n (xs ++ ys) ≡ block_stamp state n xs) (sym is)
    (enhanced_front state xs ys (omega (arith, is, long)))
stamp_front state at xs ys (inr is) long =
    subst (λ (n : ℕ). block_stamp state n (xs ++ ys) ≡ block_stamp state n xs) (sym is)
    (simple_front state xs ys (omega (arith, is, long)))

-- ---- a packet is given out

-- a reader behind the block that the bytes begin with
abbrev pub behind_packet : Reading → Form → List ℕ → (size at count : ℕ) → Reading
behind_packet old form bytes size at count =
    record {
      form = form;
      fraction = old.fraction;
      pending = drop size bytes;
      packet = take count (drop at bytes);
      stamp = stamp_at form at bytes;
      offset = old.offset + size;
      start = old.offset;
      given = old.given + 1;
      ended = old.ended;
    }

-- a part of a front is that of the whole
pub part_of_front : (bytes : List ℕ) (size at count : ℕ) → at + count ≤ size → size ≤ length bytes →
    take count (drop at (take size bytes)) ≡ take count (drop at bytes)
part_of_front bytes size at count part there =
    let front : List ℕ = take size bytes in
    let long : length front ≡ size = length-take-le size bytes there in
    let inside : count ≤ length (drop at front) = omega (arith, length-drop at front, long, part) in
    sym (ap (λ (l : List ℕ). take count (drop at l)) (sym (take-append-drop size bytes))
    ∙ ap (take count) (drop-append-le at front (drop size bytes) (omega (arith, long, part)))
    ∙ take-append-le count (drop at front) (drop size bytes) inside)

-- where bytes begin with a block that has a packet, it is given out
pub gives_packet : (old : Reading) (state : State) (bytes taken : List ℕ) (size at count : ℕ) →
    old.form ≡ OfBlocks state → old.ended ≡ false → old.pending ++ taken ≡ bytes → length bytes ≤ buffer_length →
    Sees state old.offset bytes (seen.Packet size at count) →
    GivesPacket old (behind_packet old (OfBlocks state) bytes size at count) taken
gives_packet old state bytes taken size at count form going held room shows =
    let lies = packet_lies state old.offset bytes size at count shows in
    let block : List ℕ = take size bytes in
    let long : length block ≡ size = length-take-le size bytes lies.there in
    let is : IsBlock state old.offset block (seen.Packet size at count) =
    first_block state old.offset bytes (seen.Packet size at count) size refl shows in
    let packet : take count (drop at bytes) ≡ take count (drop at block) =
    sym (part_of_front bytes size at count lies.part lies.there) in
    let stamp : block_stamp state at bytes ≡ block_stamp state at block =
    ap (block_stamp state at) (sym (take-append-drop size bytes))
    ∙ stamp_front state at block (drop size bytes) (packet_starts state old.offset bytes size at count shows)
    (omega (arith, long, lies.part)) in
    let each : AreBlocks state old.offset (block ∷ []) (take count (drop at bytes) ∷ []) state =
    (seen.Packet size at count, [], is, (refl, refl), ap (λ (l : List ℕ). l ∷ []) packet) in
    let here : AreParts (OfBlocks state) old.offset block (take count (drop at bytes) ∷ []) (OfBlocks state) =
    (block ∷ [], state, each, sym (append-nil block), refl) in
    record {
      passed = block;
      parts = subst (λ (f : Form). AreParts f old.offset block (take count (drop at bytes) ∷ []) (OfBlocks state))
          (sym form) here;
      held = held ∙ sym (take-append-drop size bytes);
      room = omega (arith, length-drop size bytes, room);
      offset = omega (arith, long);
      starts = record {
        before = [];
        last = OfBlocks state;
        parts = subst (λ (f : Form). AreParts f old.offset [] [] (OfBlocks state)) (sym form)
            ([], state, (refl, refl), refl, refl);
        rest = block;
        whole = refl;
        is = omega arith;
        next = (size, at, count, is.shows);
      };
      stamp = (size, at, count, is.shows, stamp);
      fraction = refl;
      given = refl;
      goes_on = going;
    }

-- a packet that is held, of a reader that is seen by its fields
pub held_by : (seen_as now : Reading) → seen_as ≡ now → HoldsPacket now.form now.offset now.pending →
    HoldsPacket seen_as.form seen_as.offset seen_as.pending
held_by seen_as now is = subst (λ (r : Reading). HoldsPacket r.form r.offset r.pending) (sym is)
