-- How far an input has been read, one packet further, and how it ends: where its source tells its bytes, and by what
-- was taken of them.
use Rattle.std.proofs.Common.{◌≡◌, ◌≤◌, ℕ, ◌+◌, List, [], ◌∷◌, ◌++◌, length, drop, Option, Some, None, Result, Err, refl, sym, ap, ◌∙◌, subst, arith, append_assoc, append-nil, length-append, length-drop}
use Rattle.pcap_reader.specs.declared.order.Order.{Order}
use Rattle.pcap_reader.specs.Reading.{Took, buffer_length}
use Rattle.capture_faults.specs.declared.any_fault.AnyFault.{AnyFault}
use Rattle.pcapng_reader.specs.Input.{Input}
use Rattle.pcap_reader.specs.declared.stamp.Fraction.{Fraction}
use Rattle.pcapng_reader.specs.Laws.{IsStamped, Reaches, StartsAt}
use Rattle.pcapng_reader.specs.Reading.{AreParts, Form, GivesAll, GivesPacket, HasRead, HaveRoom, IsAtStart, IsCounted, IsEnd, IsOpenedOn, MeetsEnding, OfBlocks, OfRecords, Reading, beyond, head_length}
use Rattle.pcapng_reader.proofs.InputFacts.{behind_head, counted_front, end_front, head_least, input_of, opened_front, opened_long, parts_append, parts_none}

-- ---- the start

-- a reader that was opened has given nothing
pub read_start : (link : ℕ) (reading : Reading) (taken : List ℕ) → IsOpenedOn link reading taken → IsAtStart reading →
    HasRead link taken reading (Some []) []
read_start link reading taken opened start =
    record {
      form = reading.form;
      opened = opened.0;
      counted = opened.3;
      passed = [];
      parts = parts_none reading.form (head_length reading.form);
      more = drop (head_length reading.form) taken;
      told = ap (λ (l : List ℕ). Some l) (append-nil reading.pending ∙ opened.1);
      whole = refl;
      offset = omega (arith, start.offset);
      room = omega (arith, ap length opened.1, length-drop (head_length reading.form) taken, opened.2);
    }

-- ---- more bytes

-- what is told is one list
pub some_inj : {x y : List ℕ} → Some x ≡ Some y → y ≡ x
some_inj is = cc

-- what was read of some bytes, where more were taken that the source still had
pub read_longer : (link : ℕ) (front left more : List ℕ) (reading : Reading) (packets : List (List ℕ)) →
    HasRead link front reading (Some left) packets → HasRead link (front ++ more) reading (Some (left ++ more)) packets
read_longer link front left more reading packets r =
    record {
      form = r.form;
      opened = opened_front link r.form front more r.opened;
      counted = counted_front r.form reading.fraction front more (opened_long link r.form front r.opened) r.counted;
      passed = r.passed;
      parts = r.parts;
      more = reading.pending ++ (left ++ more);
      told = refl;
      whole = behind_head link r.form front more r.opened
          ∙ ap (λ (l : List ℕ). l ++ more) (r.whole ∙ ap (λ (l : List ℕ). r.passed ++ l) (some_inj r.told))
          ∙ append_assoc r.passed (reading.pending ++ left) more
          ∙ ap (λ (l : List ℕ). r.passed ++ l) (append_assoc reading.pending left more);
      offset = r.offset;
      room = r.room;
    }

-- ---- one packet further

-- what is held has room
room_held : (form : Form) (passed pending : List ℕ) → HaveRoom form passed pending → length pending ≤ buffer_length
room_held (OfRecords order) passed pending room = omega (arith, length-append passed pending, room)
room_held (OfBlocks state) passed pending room = room

-- a packet that is given stands behind those before
read_next : (link : ℕ) (bytes : List ℕ) (old new : Reading) (taken left : List ℕ) (packets : List (List ℕ)) →
    HasRead link bytes old (Some (taken ++ left)) packets → GivesPacket old new taken →
    HasRead link bytes new (Some left) (packets ++ new.packet ∷ [])
read_next link bytes old new taken left packets r g =
    let rest : r.more ≡ g.passed ++ (new.pending ++ left) =
    some_inj r.told ∙ sym (append_assoc old.pending taken left) ∙ ap (λ (l : List ℕ). l ++ left) g.held
    ∙ append_assoc g.passed new.pending left in
    record {
      form = r.form;
      opened = r.opened;
      counted = subst (λ (f : Fraction). IsCounted r.form f bytes) (sym g.fraction) r.counted;
      passed = r.passed ++ g.passed;
      parts = parts_append r.form (head_length r.form) r.passed packets old.form g.passed (new.packet ∷ []) new.form
          r.parts (subst (λ (n : ℕ). AreParts old.form n g.passed (new.packet ∷ []) new.form) r.offset g.parts);
      more = new.pending ++ left;
      told = refl;
      whole = r.whole ∙ ap (λ (l : List ℕ). r.passed ++ l) rest
          ∙ sym (append_assoc r.passed g.passed (new.pending ++ left));
      offset = omega (arith, g.offset, r.offset, length-append r.passed g.passed);
      room = room_held new.form g.passed new.pending g.room;
    }

-- and it starts behind parts without a packet
abbrev pub read_starts : (link : ℕ) (bytes : List ℕ) (old new : Reading) (taken left : List ℕ)
    (packets : List (List ℕ)) →
    HasRead link bytes old (Some (taken ++ left)) packets → GivesPacket old new taken →
    StartsAt link bytes packets new.start
read_starts link bytes old new taken left packets r g =
    let s = g.starts in
    let others : List ℕ = new.pending ++ left in
    let rest : r.more ≡ s.before ++ (s.rest ++ others) =
    some_inj r.told ∙ sym (append_assoc old.pending taken left) ∙ ap (λ (l : List ℕ). l ++ left) g.held
    ∙ append_assoc g.passed new.pending left ∙ ap (λ (l : List ℕ). l ++ others) s.whole
    ∙ append_assoc s.before s.rest others in
    let parts : AreParts r.form (head_length r.form) (r.passed ++ s.before) (packets ++ []) s.last =
    parts_append r.form (head_length r.form) r.passed packets old.form s.before [] s.last r.parts
    (subst (λ (n : ℕ). AreParts old.form n s.before [] s.last) r.offset s.parts) in
    record {
      form = r.form;
      reaches = record {
        opened = r.opened;
        passed = r.passed ++ s.before;
        last = s.last;
        parts = subst (λ (ps : List (List ℕ)). AreParts r.form (head_length r.form) (r.passed ++ s.before) ps s.last)
            (append-nil packets) parts;
        more = s.rest ++ others;
        whole = r.whole ∙ ap (λ (l : List ℕ). r.passed ++ l) rest
            ∙ sym (append_assoc r.passed s.before (s.rest ++ others));
        is = omega (arith, s.is, r.offset, length-append r.passed s.before);
      };
      part = s.rest;
      others = others;
      behind = refl;
      next = s.next;
    }

-- and its stamp is what the reader tells of it
pub read_stamp : (link : ℕ) (bytes : List ℕ) (old new : Reading) (taken left : List ℕ) (packets : List (List ℕ)) →
    HasRead link bytes old (Some (taken ++ left)) packets → GivesPacket old new taken →
    IsStamped link bytes packets new.stamp
read_stamp link bytes old new taken left packets r g =
    record {
      place = new.start;
      starts = read_starts link bytes old new taken left packets r g;
      fraction = old.fraction;
      counted = r.counted;
      is = g.stamp;
    }

-- by what a source told before and after
pub read_more : (link : ℕ) (bytes : List ℕ) (old new : Reading) (before after : Option (List ℕ))
    (packets : List (List ℕ)) →
    HasRead link bytes old before packets → Took before after (GivesPacket old new) →
    HasRead link bytes new after (packets ++ new.packet ∷ [])
read_more link bytes old new None after packets r took =
    let not : None ≡ Some r.more = r.told in absurd (cc)
read_more link bytes old new (Some xs) None packets r took = absurd took.1
read_more link bytes old new (Some xs) (Some ys) packets r took =
    read_next link bytes old new took.0 ys packets
    (subst (λ (l : List ℕ). HasRead link bytes old (Some l) packets) took.1 r) took.2

-- and so with more packets
pub read_all : (link : ℕ) (bytes : List ℕ) (old last : Reading) (taken left : List ℕ) (packets more : List (List ℕ)) →
    HasRead link bytes old (Some (taken ++ left)) packets → GivesAll old more taken last →
    HasRead link bytes last (Some left) (packets ++ more)
read_all link bytes old last taken left packets [] r gives =
    let none : taken ++ left ≡ left = ap (λ (l : List ℕ). l ++ left) gives.0 in
    let here : HasRead link bytes last (Some left) packets =
    subst (λ (o : Reading). HasRead link bytes o (Some left) packets) (sym gives.1)
    (subst (λ (l : List ℕ). HasRead link bytes old (Some l) packets) none r) in
    subst (λ (l : List (List ℕ)). HasRead link bytes last (Some left) l) (sym (append-nil packets)) here
read_all link bytes old last taken left packets (packet ∷ more) r gives =
    let new = gives.0 in
    let split : taken ++ left ≡ gives.1 ++ (gives.2 ++ left) =
    ap (λ (l : List ℕ). l ++ left) gives.5 ∙ append_assoc gives.1 gives.2 left in
    let next : HasRead link bytes new (Some (gives.2 ++ left)) (packets ++ new.packet ∷ []) =
    read_next link bytes old new gives.1 (gives.2 ++ left) packets
    (subst (λ (l : List ℕ). HasRead link bytes old (Some l) packets) split r) gives.3 in
    let same : (packets ++ new.packet ∷ []) ++ more ≡ packets ++ packet ∷ more =
    append_assoc packets (new.packet ∷ []) more ∙ ap (λ (l : List ℕ). packets ++ l ∷ more) (sym gives.4) in
    subst (λ (l : List (List ℕ)). HasRead link bytes last (Some left) l) same
    (read_all link bytes new last gives.2 left (packets ++ new.packet ∷ []) more next gives.6)

-- ---- the end

-- the parts up to an ending that is met, and what stands behind them
record MeetsAt (bytes : List ℕ) (packets : List (List ℕ)) (form : Form) (ending : Result ℕ AnyFault) (left : List ℕ) :
    Type 0 where
  passed : List ℕ
  last : Form
  parts : AreParts form (head_length form) passed packets last
  rest : List ℕ
  whole : drop (head_length form) bytes ≡ passed ++ (rest ++ left)
  ends : IsEnd last (head_length form + length passed) rest ending
  room : length rest ≤ beyond last

-- an ending that is met stands behind the parts that were read
meets_at : (link : ℕ) (bytes : List ℕ) (old new : Reading) (taken left : List ℕ) (packets : List (List ℕ))
    (ending : Result ℕ AnyFault) → (r : HasRead link bytes old (Some (taken ++ left)) packets) →
    MeetsEnding old new ending taken → MeetsAt bytes packets r.form ending left
meets_at link bytes old new taken left packets ending r m =
    let rest : r.more ≡ m.passed ++ (m.rest ++ left) =
    some_inj r.told ∙ sym (append_assoc old.pending taken left) ∙ ap (λ (l : List ℕ). l ++ left) m.held
    ∙ append_assoc m.passed m.rest left in
    let all : AreParts r.form (head_length r.form) (r.passed ++ m.passed) (packets ++ []) m.last =
    parts_append r.form (head_length r.form) r.passed packets old.form m.passed [] m.last r.parts
    (subst (λ (n : ℕ). AreParts old.form n m.passed [] m.last) r.offset m.parts) in
    let place : old.offset + length m.passed ≡ head_length r.form + length (r.passed ++ m.passed) =
    omega (arith, r.offset, length-append r.passed m.passed) in
    record {
      passed = r.passed ++ m.passed;
      last = m.last;
      parts = subst (λ (l : List (List ℕ)). AreParts r.form (head_length r.form) (r.passed ++ m.passed) l m.last)
          (append-nil packets) all;
      rest = m.rest;
      whole = r.whole ∙ ap (λ (l : List ℕ). r.passed ++ l) rest ∙ sym (append_assoc r.passed m.passed (m.rest ++ left));
      ends = subst (λ (n : ℕ). IsEnd m.last n m.rest ending) place m.ends;
      room = m.room;
    }

-- where all was taken, the packets so far and the ending are those of the input
pub read_ends : (link : ℕ) (bytes : List ℕ) (old new : Reading) (taken : List ℕ) (packets : List (List ℕ))
    (ending : Result ℕ AnyFault) → HasRead link bytes old (Some taken) packets → MeetsEnding old new ending taken →
    Input link bytes packets ending
read_ends link bytes old new taken packets ending r m =
    let here : HasRead link bytes old (Some (taken ++ [])) packets =
    subst (λ (l : List ℕ). HasRead link bytes old (Some l) packets) (sym (append-nil taken)) r in
    let at = meets_at link bytes old new taken [] packets ending here m in
    input_of link here.form bytes at.passed packets at.last at.rest ending here.opened at.parts
    (at.whole ∙ ap (λ (l : List ℕ). at.passed ++ l) (append-nil at.rest)) at.ends

-- and a fault is one, whatever follows
pub read_faults : (link : ℕ) (bytes : List ℕ) (old new : Reading) (taken left : List ℕ) (packets : List (List ℕ))
    (found : AnyFault) → HasRead link bytes old (Some (taken ++ left)) packets → MeetsEnding old new (Err found) taken →
    Input link bytes packets (Err found)
read_faults link bytes old new taken left packets found r m =
    let at = meets_at link bytes old new taken left packets (Err found) r m in
    input_of link r.form bytes at.passed packets at.last (at.rest ++ left) (Err found) r.opened at.parts at.whole
    (end_front at.last (head_length r.form + length at.passed) at.rest left found at.ends)

-- a whole reading
pub read_to_end : (link : ℕ) (start last ended : Reading) (head middle rest : List ℕ) (packets : List (List ℕ))
    (ending : Result ℕ AnyFault) → IsOpenedOn link start head → IsAtStart start → GivesAll start packets middle last →
    MeetsEnding last ended ending rest → Input link (head ++ (middle ++ rest)) packets ending
read_to_end link start last ended head middle rest packets ending opened at_start gives meets =
    let bytes : List ℕ = head ++ (middle ++ rest) in
    let first : HasRead link bytes start (Some (middle ++ rest)) [] =
    read_longer link head [] (middle ++ rest) start [] (read_start link start head opened at_start) in
    read_ends link bytes last ended rest packets ending
    (read_all link bytes start last middle rest [] packets first gives) meets

-- ---- how far it has come

-- records leave the form that they have
form_kept : (order : Order) (offset : ℕ) (bytes : List ℕ) (packets : List (List ℕ)) (last : Form) →
    AreParts (OfRecords order) offset bytes packets last → last ≡ OfRecords order
form_kept order offset bytes packets last h = h.4

-- the bytes up to a place behind the head
place_of : (form : Form) (bytes passed more : List ℕ) → head_length form ≤ length bytes →
    drop (head_length form) bytes ≡ passed ++ more → length bytes ≡ head_length form + length passed + length more
place_of form bytes passed more long whole =
    omega (arith, long, length-drop (head_length form) bytes, ap length whole, length-append passed more)

-- the packets so far are those of the bytes up to a place
pub reaches_read : (link : ℕ) (bytes : List ℕ) (left : Option (List ℕ)) (reading : Reading) (packets : List (List ℕ)) →
    (r : HasRead link bytes reading left packets) →
    Reaches link bytes packets r.form (head_length r.form + length r.passed)
reaches_read link bytes left reading packets r =
    record {
      opened = r.opened;
      passed = r.passed;
      last = reading.form;
      parts = r.parts;
      more = r.more;
      whole = r.whole;
      is = refl;
    }

-- beyond it no more than a buffer was taken
pub read_few : (link : ℕ) (bytes left : List ℕ) (reading : Reading) (packets : List (List ℕ)) →
    HasRead link bytes reading (Some left) packets →
    (form : Form) × (place : ℕ) × Reaches link bytes packets form place
    × (length bytes ≤ place + buffer_length + length left)
read_few link bytes left reading packets r =
    let place : ℕ = head_length r.form + length r.passed in
    let long : head_length r.form ≤ length bytes =
    omega (arith, opened_long link r.form bytes r.opened, head_least r.form) in (
      r.form,
      place,
      reaches_read link bytes (Some left) reading packets r,
      omega (
        arith,
        place_of r.form bytes r.passed r.more long r.whole,
        ap length (some_inj r.told),
        length-append reading.pending left,
        r.room,
      ),
    )

-- where one packet of a savefile is given, no more than a buffer was taken beyond the record before it
pub record_few : (link : ℕ) (bytes : List ℕ) (old new : Reading) (taken left : List ℕ) (packets : List (List ℕ))
    (order : Order) →
    (r : HasRead link bytes old (Some (taken ++ left)) packets) → r.form ≡ OfRecords order → GivesPacket old new taken →
    length bytes ≤ head_length r.form + length r.passed + buffer_length + length left
record_few link bytes old new taken left packets order r is g =
    let long : head_length r.form ≤ length bytes =
    omega (arith, opened_long link r.form bytes r.opened, head_least r.form) in
    let before : old.form ≡ OfRecords order =
    form_kept order (head_length r.form) r.passed packets old.form
    (subst (λ (f : Form). AreParts f (head_length r.form) r.passed packets old.form) is r.parts) in
    let after : new.form ≡ OfRecords order =
    form_kept order old.offset g.passed (new.packet ∷ []) new.form
    (subst (λ (f : Form). AreParts f old.offset g.passed (new.packet ∷ []) new.form) before g.parts) in
    let room : length (g.passed ++ new.pending) ≤ buffer_length =
    subst (λ (f : Form). HaveRoom f g.passed new.pending) after g.room in
    omega (
      arith,
      place_of r.form bytes r.passed r.more long r.whole,
      ap length (some_inj r.told),
      length-append old.pending (taken ++ left),
      length-append taken left,
      ap length g.held,
      length-append old.pending taken,
      room,
    )

-- parts leave the form of their input
beyond_same : (form : Form) (offset : ℕ) (bytes : List ℕ) (packets : List (List ℕ)) (last : Form) →
    AreParts form offset bytes packets last → beyond last ≡ beyond form
beyond_same (OfRecords order) offset bytes packets last h = ap beyond h.4
beyond_same (OfBlocks state) offset bytes packets last h = ap beyond h.4

-- and where it ends, no more than is allowed beyond it
pub end_few : (link : ℕ) (bytes : List ℕ) (old new : Reading) (taken left : List ℕ) (packets : List (List ℕ))
    (ending : Result ℕ AnyFault) → HasRead link bytes old (Some (taken ++ left)) packets →
    MeetsEnding old new ending taken →
    (form : Form) × (place : ℕ) × Reaches link bytes packets form place ×
    (length bytes ≤ place + beyond form + length left)
end_few link bytes old new taken left packets ending r m =
    let at = meets_at link bytes old new taken left packets ending r m in
    let place : ℕ = head_length r.form + length at.passed in
    let long : head_length r.form ≤ length bytes =
    omega (arith, opened_long link r.form bytes r.opened, head_least r.form) in (
      r.form,
      place,
      record {
        opened = r.opened;
        passed = at.passed;
        last = at.last;
        parts = at.parts;
        more = at.rest ++ left;
        whole = at.whole;
        is = refl;
      },
      omega (
        arith,
        place_of r.form bytes at.passed (at.rest ++ left) long at.whole,
        length-append at.rest left,
        at.room,
        beyond_same r.form (head_length r.form) at.passed packets at.last at.parts,
      ),
    )
