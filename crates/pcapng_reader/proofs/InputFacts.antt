-- Parts of an input one behind the other, what they are of a longer input, and the packets that they give.
use Rattle.std.proofs.Common.{◌≡◌, ◌≤◌, ℕ, suc, ◌+◌, List, [], ◌++◌, length, take, drop, get_or, ◌⊎◌, Result, Ok, Err, refl, sym, ap, ◌∙◌, subst, inl, inr, arith, append_assoc, length-append}
use Rattle.std.specs.List.{All, flat_map}
use Rattle.std.proofs.lemmas.Grind.{common_steps, flat_map-append}
use Rattle.std.proofs.lemmas.List.{drop-append-le, map-append, take-append-le}
use Rattle.std.proofs.lemmas.List.Elements.{All-append}
use Rattle.pcap_reader.specs.declared.order.Order.{Order}
use Rattle.pcap_reader.specs.declared.order.Order.TheVariants.{Little, Big}
use Rattle.capture_faults.specs.declared.fault.CaptureFault.{CaptureFault}
use Rattle.capture_faults.specs.declared.fault.CaptureFault.TheVariants as capture
use Rattle.pcap_reader.specs.Capture.{Saved, bytes_of, HasFileHead, IsRemainder, IsSaved, ShowsFault, file_head_length, microseconds, nanoseconds, spelling}
use Rattle.pcap_reader.specs.Laws.{HoldsFront as HoldsFirst}
use Rattle.pcap_reader.proofs.CaptureFacts.{head_front, overlong_front}
use Rattle.capture_faults.specs.declared.any_fault.AnyFault.{AnyFault}
use Rattle.capture_faults.specs.declared.any_fault.AnyFault.TheVariants as fault
use Rattle.pcapng_reader.specs.declared.block.Seen.TheVariants as seen
use Rattle.pcapng_reader.specs.Section.{State, opening}
use Rattle.pcapng_reader.specs.Blocks.{AreBlocks, IsLast, section_type}
use Rattle.pcapng_reader.specs.Input.{Input, IsPcapng, any_ending, packets_in}
use Rattle.pcapng_reader.specs.Laws.{HasOneInput, Reaches}
use Rattle.pcap_reader.specs.declared.stamp.Fraction.{Fraction}
use Rattle.pcap_reader.specs.declared.stamp.Fraction.TheVariants.{Microseconds, Nanoseconds}
use Rattle.pcapng_reader.specs.Reading.{AreParts, Form, IsCounted, IsEnd, IsOpened, OfBlocks, OfRecords, head_length}
use Rattle.pcapng_reader.proofs.BlockFacts.{sees_there}
use Rattle.pcapng_reader.proofs.EveryInput.{cutting}
use Rattle.pcapng_reader.proofs.OneInput.{joined}
use Rattle.pcapng_reader.proofs.PassFacts.{AreBlocks-append, joined-append}

-- ---- parts behind parts

-- records behind records
records_append : (order : Order) (offset : ℕ) (bytes : List ℕ) (packets : List (List ℕ)) (middle : Form)
    (more : List ℕ) (others : List (List ℕ)) (last : Form) (place : ℕ) →
    AreParts (OfRecords order) offset bytes packets middle → AreParts middle place more others last →
    AreParts (OfRecords order) offset (bytes ++ more) (packets ++ others) last
records_append order offset bytes packets middle more others last place p q =
    let here : AreParts (OfRecords order) place more others last =
    subst (λ (f : Form). AreParts f place more others last) p.4 q in (
      p.0 ++ here.0,
      All-append (IsSaved order) p.0 here.0 p.1 here.1,
      ap (λ (l : List ℕ). l ++ more) p.2 ∙ ap (λ (l : List ℕ). flat_map bytes_of p.0 ++ l) here.2
          ∙ sym (flat_map-append bytes_of p.0 here.0),
      ap (λ (l : List (List ℕ)). l ++ others) p.3 ∙ ap (λ (l : List (List ℕ)). packets_in p.0 ++ l) here.3
          ∙ sym (map-append (λ (saved : Saved). saved.packet) p.0 here.0),
      here.4,
    )

-- blocks behind blocks
blocks_append : (state : State) (offset : ℕ) (bytes : List ℕ) (packets : List (List ℕ)) (middle : Form)
    (more : List ℕ) (others : List (List ℕ)) (last : Form) →
    AreParts (OfBlocks state) offset bytes packets middle → AreParts middle (offset + length bytes) more others last →
    AreParts (OfBlocks state) offset (bytes ++ more) (packets ++ others) last
blocks_append state offset bytes packets middle more others last p q =
    let here : AreParts (OfBlocks p.1) (offset + length bytes) more others last =
    subst (λ (f : Form). AreParts f (offset + length bytes) more others last) p.4 q in
    let behind : AreBlocks p.1 (offset + length (joined p.0)) here.0 others here.1 =
    subst (λ (l : List ℕ). AreBlocks p.1 (offset + length l) here.0 others here.1) p.3 here.2 in (
      p.0 ++ here.0,
      here.1,
      AreBlocks-append state offset p.0 packets p.1 here.0 others here.1 p.2 behind,
      ap (λ (l : List ℕ). l ++ more) p.3 ∙ ap (λ (l : List ℕ). joined p.0 ++ l) here.3
          ∙ sym (joined-append p.0 here.0),
      here.4,
    )

-- whole parts, and others where they have left the form that they have
pub parts_append : (form : Form) (offset : ℕ) (bytes : List ℕ) (packets : List (List ℕ)) (middle : Form)
    (more : List ℕ) (others : List (List ℕ)) (last : Form) → AreParts form offset bytes packets middle →
    AreParts middle (offset + length bytes) more others last →
    AreParts form offset (bytes ++ more) (packets ++ others) last
parts_append (OfRecords order) offset bytes packets middle more others last p q =
    records_append order offset bytes packets middle more others last (offset + length bytes) p q
parts_append (OfBlocks state) offset bytes packets middle more others last p q =
    blocks_append state offset bytes packets middle more others last p q

-- no part
all_none : (order : Order) → All (IsSaved order) []
all_none order = grind (arith, common_steps)

-- no part gives no packet
pub parts_none : (form : Form) (offset : ℕ) → AreParts form offset [] [] form
parts_none (OfRecords order) offset = ([], all_none order, refl, refl, refl)
parts_none (OfBlocks state) offset = ([], state, (refl, refl), refl, refl)

-- ---- how long parts are

-- ---- a longer input

-- a pcapng input is one where more bytes follow
pcapng_front : (xs ys : List ℕ) → IsPcapng xs → IsPcapng (xs ++ ys)
pcapng_front xs ys h =
    record {
      whole = omega (arith, h.whole, length-append xs ys);
      begins = take-append-le 4 xs ys (omega (arith, h.whole)) ∙ h.begins;
    }

-- what begins as an input does, does so where more bytes follow
pub opened_front : (link : ℕ) (form : Form) (xs ys : List ℕ) → IsOpened link form xs → IsOpened link form (xs ++ ys)
opened_front link (OfRecords order) xs ys h = head_front link order xs ys h
opened_front link (OfBlocks state) xs ys h = (pcapng_front xs ys h.0, h.1)

-- and tells what its fractions are counted in, as it did
pub counted_front : (form : Form) (fraction : Fraction) (xs ys : List ℕ) → file_head_length ≤ length xs →
    IsCounted form fraction xs → IsCounted form fraction (xs ++ ys)
counted_front (OfRecords order) Microseconds xs ys long h = take-append-le 4 xs ys (omega (arith, long)) ∙ h
counted_front (OfRecords order) Nanoseconds xs ys long h = take-append-le 4 xs ys (omega (arith, long)) ∙ h
counted_front (OfBlocks state) fraction xs ys long h = tt

-- an input that is opened has a head
pub opened_long : (link : ℕ) (form : Form) (bytes : List ℕ) → IsOpened link form bytes → file_head_length ≤ length bytes
opened_long link (OfRecords order) bytes h = h.begins.whole
opened_long link (OfBlocks state) bytes h = h.0.whole

-- no form has more bytes before its first part than a file head
pub head_least : (form : Form) → head_length form ≤ file_head_length
head_least (OfRecords order) = omega arith
head_least (OfBlocks state) = omega arith

-- what stands behind the head, where more bytes follow
pub behind_head : (link : ℕ) (form : Form) (xs ys : List ℕ) → IsOpened link form xs →
    drop (head_length form) (xs ++ ys) ≡ drop (head_length form) xs ++ ys
behind_head link form xs ys h =
    drop-append-le (head_length form) xs ys (omega (arith, opened_long link form xs h, head_least form))

-- a captured length above the limit is met where more bytes follow
record_end_front : (order : Order) (offset : ℕ) (xs ys : List ℕ) (found : AnyFault) (kept : Result ℕ CaptureFault) →
    IsRemainder order offset xs kept → Err found ≡ any_ending kept →
    IsEnd (OfRecords order) offset (xs ++ ys) (Err found)
record_end_front order offset xs ys found (Ok rest) h is = absurd (cc)
record_end_front order offset xs ys found (Err capture.ReadFault) h is = absurd h
record_end_front order offset xs ys found (Err (capture.ShortHeader have)) h is = absurd h
record_end_front order offset xs ys found (Err (capture.Magic bytes)) h is = absurd h
record_end_front order offset xs ys found (Err (capture.Version major minor)) h is = absurd h
record_end_front order offset xs ys found (Err (capture.LinkType link)) h is = absurd h
record_end_front order offset xs ys found (Err (capture.RecordLength place long)) h is =
    (Err (capture.RecordLength place long), (h.0, overlong_front order long xs ys h.1), is)
record_end_front order offset xs ys found (Err capture.Memory) h is = absurd h

-- a fault that is met is met where more bytes follow
pub end_front : (form : Form) (offset : ℕ) (xs ys : List ℕ) (found : AnyFault) → IsEnd form offset xs (Err found) →
    IsEnd form offset (xs ++ ys) (Err found)
end_front (OfRecords order) offset xs ys found h = record_end_front order offset xs ys found h.0 h.1 h.2
end_front (OfBlocks state) offset xs ys found h = sees_there state offset xs ys (seen.Fault found) tt h

-- ---- packets of an input

-- a savefile's magic is no section block's type, since the first byte differs
first : List ℕ → ℕ
first bytes = get_or bytes 0 0

-- no magic of a savefile is that type
no_magic : (order : Order) (bytes : List ℕ) →
    (bytes ≡ spelling order 4 microseconds) ⊎ (bytes ≡ spelling order 4 nanoseconds) → bytes ≡ section_type → ⊥
unfolding first
no_magic Little bytes (inl p) q =
    let a : first bytes ≡ 0xd4 = ap first p in
    let b : first bytes ≡ 0x0a = ap first q in
    omega (arith, a, b)
no_magic Little bytes (inr p) q =
    let a : first bytes ≡ 0x4d = ap first p in
    let b : first bytes ≡ 0x0a = ap first q in
    omega (arith, a, b)
no_magic Big bytes (inl p) q =
    let a : first bytes ≡ 0xa1 = ap first p in
    let b : first bytes ≡ 0x0a = ap first q in
    omega (arith, a, b)
no_magic Big bytes (inr p) q =
    let a : first bytes ≡ 0xa1 = ap first p in
    let b : first bytes ≡ 0x0a = ap first q in
    omega (arith, a, b)

-- so its head is none
pub no_pcapng : (link : ℕ) (order : Order) (bytes : List ℕ) → HasFileHead link order bytes → IsPcapng bytes → ⊥
no_pcapng link order bytes head h = no_magic order (take 4 bytes) head.begins.magic h.begins

-- parts behind the head, and an ending behind them, are an input
pub input_of : (link : ℕ) (form : Form) (bytes passed : List ℕ) (packets : List (List ℕ)) (last : Form) (rest : List ℕ)
    (ending : Result ℕ AnyFault) → IsOpened link form bytes → AreParts form (head_length form) passed packets last →
    drop (head_length form) bytes ≡ passed ++ rest → IsEnd last (head_length form + length passed) rest ending →
    Input link bytes packets ending
input_of link (OfRecords order) bytes passed packets last rest ending opened parts whole ends =
    let here : IsEnd (OfRecords order) (24 + length (flat_map bytes_of parts.0)) rest ending =
    subst (λ (l : List ℕ). IsEnd (OfRecords order) (24 + length l) rest ending) parts.2
    (subst (λ (f : Form). IsEnd f (24 + length passed) rest ending) parts.4 ends) in
    inr (
      no_pcapng link order bytes opened,
      record {
        records = parts.0;
        kept = here.0;
        capture = inr (
          order,
          record {
            head = opened;
            each = parts.1;
            rest = rest;
            whole = whole ∙ ap (λ (l : List ℕ). l ++ rest) parts.2;
            ends = here.1;
          },
        );
        packets_are = parts.3;
        ends = here.2;
      },
    )
input_of link (OfBlocks state) bytes passed packets last rest ending opened parts whole ends =
    let from : AreBlocks (opening link) 0 parts.0 packets parts.1 =
    subst (λ (s : State). AreBlocks s 0 parts.0 packets parts.1) opened.1 parts.2 in
    let here : IsLast parts.1 (0 + length (joined parts.0)) rest ending =
    subst (λ (l : List ℕ). IsLast parts.1 (0 + length l) rest ending) parts.3
    (subst (λ (f : Form). IsEnd f (0 + length passed) rest ending) parts.4 ends) in
    inl (
      opened.0,
      record {
        blocks = parts.0;
        last = parts.1;
        each = from;
        rest = rest;
        parts = whole ∙ ap (λ (l : List ℕ). l ++ rest) parts.3;
        ends = here;
      },
    )

-- the packets of parts are the first
records_first : (link : ℕ) (bytes : List ℕ) (front packets : List (List ℕ)) (order : Order) (passed : List ℕ)
    (last : Form)
    (more : List ℕ) (ending : Result ℕ AnyFault) → HoldsFirst link bytes → HasFileHead link order bytes →
    AreParts (OfRecords order) 24 passed front last → drop 24 bytes ≡ passed ++ more → Input link bytes packets ending →
    (others : List (List ℕ)) × (packets ≡ front ++ others)
records_first link bytes front packets order passed last more ending first head parts whole (inl p) =
    absurd (no_pcapng link order bytes head p.0)
records_first link bytes front packets order passed last more ending first head parts whole (inr p) =
    let h = p.1 in
    let behind = first parts.0 h.records more h.kept
    (record { order = order; head = head; each = parts.1; whole = whole ∙ ap (λ (l : List ℕ). l ++ more) parts.2 })
    h.capture in (
      packets_in behind.0,
      h.packets_are ∙ ap packets_in behind.1 ∙ map-append (λ (saved : Saved). saved.packet) parts.0 behind.0
          ∙ ap (λ (l : List (List ℕ)). l ++ packets_in behind.0) (sym parts.3),
    )

-- so it is with blocks, since an input is one
blocks_first : (link : ℕ) (bytes : List ℕ) (front packets : List (List ℕ)) (state : State) (passed : List ℕ)
    (last : Form)
    (more : List ℕ) (ending : Result ℕ AnyFault) → HasOneInput link bytes → IsOpened link (OfBlocks state) bytes →
    AreParts (OfBlocks state) 0 passed front last → bytes ≡ passed ++ more → Input link bytes packets ending →
    (others : List (List ℕ)) × (packets ≡ front ++ others)
blocks_first link bytes front packets state passed last more ending one opened parts whole input =
    let place : ℕ = 0 + length passed in
    let cut = cutting (suc (length more)) parts.1 place more (omega arith) in
    let h = cut.2 in
    let behind : AreParts (OfBlocks parts.1) place (joined h.blocks) cut.0 (OfBlocks h.last) =
    (h.blocks, h.last, h.each, refl, refl) in
    let all : AreParts (OfBlocks state) 0 (passed ++ joined h.blocks) (front ++ cut.0) (OfBlocks h.last) =
    blocks_append state 0 passed front (OfBlocks parts.1) (joined h.blocks) cut.0 (OfBlocks h.last)
    (parts.0, parts.1, parts.2, parts.3, refl) behind in
    let rest : bytes ≡ (passed ++ joined h.blocks) ++ h.rest =
    whole ∙ ap (λ (l : List ℕ). passed ++ l) h.parts ∙ sym (append_assoc passed (joined h.blocks) h.rest) in
    let at : place + length (joined h.blocks) ≡ 0 + length (passed ++ joined h.blocks) =
    omega (arith, length-append passed (joined h.blocks)) in
    let other : Input link bytes (front ++ cut.0) cut.1 =
    input_of link (OfBlocks state) bytes (passed ++ joined h.blocks) (front ++ cut.0) (OfBlocks h.last) h.rest cut.1
    opened
    all rest (subst (λ (n : ℕ). IsLast h.last n h.rest cut.1) at h.ends) in
    (cut.0, (one packets (front ++ cut.0) ending cut.1 input other).0)

-- so it is with both forms
pub front_of : (link : ℕ) (bytes : List ℕ) (front packets : List (List ℕ)) (form : Form) (place : ℕ)
    (ending : Result ℕ AnyFault) → HoldsFirst link bytes → HasOneInput link bytes →
    Reaches link bytes front form place →
    Input link bytes packets ending → (others : List (List ℕ)) × (packets ≡ front ++ others)
front_of link bytes front packets (OfRecords order) place ending first one r input =
    records_first link bytes front packets order r.passed r.last r.more ending first r.opened r.parts r.whole input
front_of link bytes front packets (OfBlocks state) place ending first one r input =
    blocks_first link bytes front packets state r.passed r.last r.more ending one r.opened r.parts r.whole input

-- ---- an input that is refused

-- the fault of a file head
pub input_refused : (link : ℕ) (bytes : List ℕ) (found : CaptureFault) → (IsPcapng bytes → ⊥) →
    ShowsFault link bytes found →
    Input link bytes [] (Err (fault.Capture found))
input_refused link bytes found other shown =
    inr (
      other,
      record {
        records = [];
        kept = Err found;
        capture = inl (record { none = refl; fault = found; ends = refl; shown = shown });
        packets_are = refl;
        ends = refl;
      },
    )
