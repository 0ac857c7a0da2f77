-- A packet of an input has at most one stamp.
use Rattle.std.proofs.Common.{◌≡◌, ℕ, ◌+◌, List, [], ◌∷◌, ◌++◌, length, take, drop, get_or, refl, sym, ap, ◌∙◌, subst, arith, append_assoc, length-append}
use Rattle.std.specs.List.{flat_map, AllByRecursion}
use Rattle.std.proofs.lemmas.List.{take_at, drop_at}
use Rattle.std.proofs.lemmas.List.Elements.{recursion_from_All}
use Rattle.pcap_reader.specs.declared.order.Order.{Order}
use Rattle.pcap_reader.specs.declared.order.Order.TheVariants.{Little, Big}
use Rattle.pcap_reader.specs.declared.stamp.Fraction.{Fraction}
use Rattle.pcap_reader.specs.declared.stamp.Fraction.TheVariants.{Microseconds, Nanoseconds}
use Rattle.pcap_reader.specs.declared.stamp.Stamp.{Stamp}
use Rattle.pcap_reader.specs.Capture.{IsSaved, Saved, bytes_of, spelling, microseconds, nanoseconds}
use Rattle.pcap_reader.specs.Record.{BeginsRecord}
use Rattle.pcap_reader.specs.Stamps.{IsCountedIn, stamp_of}
use Rattle.pcap_reader.proofs.OneCapture.{same_order}
use Rattle.pcap_reader.proofs.ReaderFacts.{stamp_there}
use Rattle.pcapng_reader.specs.declared.block.Seen.{Seen}
use Rattle.pcapng_reader.specs.declared.block.Seen.TheVariants as seen
use Rattle.pcapng_reader.specs.Section.{State, opening}
use Rattle.pcapng_reader.specs.Blocks.{AreBlocks, IsWhole, Sees, after, packets_of}
use Rattle.pcapng_reader.specs.Stamps.{block_stamp}
use Rattle.pcapng_reader.specs.Input.{packets_in}
use Rattle.pcapng_reader.specs.Laws.{IsStamped}
use Rattle.pcapng_reader.specs.Reading.{AreParts, Form, HasStamp, HoldsPacket, IsCounted, IsOpened, OfBlocks, OfRecords, head_length}
use Rattle.pcapng_reader.proofs.BlockFacts.{block_front, sees_there}
use Rattle.pcapng_reader.proofs.InputFacts.{no_pcapng}
use Rattle.pcapng_reader.proofs.NextFacts.{packet_lies, packet_starts, stamp_front}
use Rattle.pcapng_reader.proofs.OneInput.{joined, same_length, same_sees}

-- ---- lists

-- of two lists that are one the first elements are one, and so are the others
cons_same : {A : Type 0} (x y : A) (xs ys : List A) → x ∷ xs ≡ y ∷ ys → (x ≡ y) × (xs ≡ ys)
cons_same x y xs ys is = (cc, cc)

-- an empty list is none with a first element
none_is_more : {A : Type 0} (x : A) (xs : List A) → [] ≡ x ∷ xs → ⊥
none_is_more x xs is = absurd cc

-- what stands behind one front
behind_same : {A : Type 0} (front xs ys : List A) → front ++ xs ≡ front ++ ys → xs ≡ ys
behind_same front xs ys is =
    sym (drop_at front xs (length front) refl) ∙ ap (drop (length front)) is ∙ drop_at front ys (length front) refl

-- ---- blocks

-- at one place there is one packet, and it has one stamp
one_block : (state : State) (offset : ℕ) (part others part_two others_two : List ℕ) (fraction fraction_two : Fraction)
    (one two : Stamp) → HasStamp fraction (OfBlocks state) offset part one →
    HasStamp fraction_two (OfBlocks state) offset part_two two → part ++ others ≡ part_two ++ others_two → one ≡ two
one_block state offset part others part_two others_two fraction fraction_two one two p q is =
    let whole : List ℕ = part ++ others in
    let first : Sees state offset whole (seen.Packet p.0 p.1 p.2) = sees_there state offset part others _ tt p.3 in
    let second : Sees state offset whole (seen.Packet q.0 q.1 q.2) =
    subst (λ (l : List ℕ). Sees state offset l (seen.Packet q.0 q.1 q.2)) (sym is)
    (sees_there state offset part_two others_two _ tt q.3) in
    let same : seen.Packet p.0 p.1 p.2 ≡ seen.Packet q.0 q.1 q.2 = same_sees state offset whole _ _ first second in
    let place : p.1 ≡ q.1 = cc in
    let lies = packet_lies state offset part p.0 p.1 p.2 p.3 in
    let lies_two = packet_lies state offset part_two q.0 q.1 q.2 q.3 in
    p.4 ∙ sym (stamp_front state p.1 part others (packet_starts state offset part p.0 p.1 p.2 p.3)
    (omega (arith, lies.part, lies.there)))
    ∙ ap (λ (n : ℕ). block_stamp state n whole) place ∙ ap (block_stamp state q.1) is
    ∙ stamp_front state q.1 part_two others_two (packet_starts state offset part_two q.0 q.1 q.2 q.3)
    (omega (arith, lies_two.part, lies_two.there)) ∙ sym q.4

-- a block that gives no packet, and one that has it, are not at one place
packet_or_none : (state : State) (offset : ℕ) (c : List ℕ) (cs : List (List ℕ)) (qs : List (List ℕ)) (t : State)
    (part others rest : List ℕ) (fraction : Fraction) (stamp : Stamp) →
    HasStamp fraction (OfBlocks state) offset part stamp → AreBlocks state offset (c ∷ cs) qs t → qs ≡ [] →
    part ++ others ≡ joined (c ∷ cs) ++ rest → ⊥
packet_or_none state offset c cs qs t part others rest fraction stamp p q none is =
    let split : part ++ others ≡ c ++ (joined cs ++ rest) = is ∙ append_assoc c (joined cs) rest in
    let first : Sees state offset (part ++ others) (seen.Packet p.0 p.1 p.2) =
    sees_there state offset part others _ tt p.3 in
    let second : Sees state offset (part ++ others) q.0 =
    subst (λ (l : List ℕ). Sees state offset l q.0) (sym split)
    (block_front state offset c (joined cs ++ rest) q.0 q.2) in
    let same : q.0 ≡ seen.Packet p.0 p.1 p.2 = same_sees state offset (part ++ others) _ _ second first in
    none_is_more (take p.2 (drop p.1 c)) q.1
    (sym none ∙ q.4 ∙ ap (λ (x : Seen). packets_of x c ++ q.1) same)

-- behind blocks that give the same packets stands the same one
blocks_stamp : (state : State) (offset : ℕ) (bs cs ps qs : List (List ℕ)) (s t : State) (place place_two : ℕ)
    (part others part_two others_two : List ℕ) (fraction fraction_two : Fraction) (one two : Stamp) →
    AreBlocks state offset bs ps s → AreBlocks state offset cs qs t →
    place ≡ offset + length (joined bs) → place_two ≡ offset + length (joined cs) →
    HasStamp fraction (OfBlocks s) place part one → HasStamp fraction_two (OfBlocks t) place_two part_two two →
    ps ≡ qs → joined bs ++ (part ++ others) ≡ joined cs ++ (part_two ++ others_two) → one ≡ two
blocks_stamp state offset [] [] ps qs s t place place_two part others part_two others_two f g one two p q at at_two h k
    packets is =
    let here : place ≡ offset = omega (arith, at) in
    let here_two : place_two ≡ offset = omega (arith, at_two) in
    one_block state offset part others part_two others_two f g one two
    (subst (λ (u : State). HasStamp f (OfBlocks u) offset part one) p.1
    (subst (λ (n : ℕ). HasStamp f (OfBlocks s) n part one) here h))
    (subst (λ (u : State). HasStamp g (OfBlocks u) offset part_two two) q.1
    (subst (λ (n : ℕ). HasStamp g (OfBlocks t) n part_two two) here_two k)) is
blocks_stamp state offset [] (c ∷ cs) ps qs s t place place_two part others part_two others_two f g one two p q at
    at_two h k packets is =
    let here : place ≡ offset = omega (arith, at) in
    absurd (packet_or_none state offset c cs qs t part others (part_two ++ others_two) f one
    (subst (λ (u : State). HasStamp f (OfBlocks u) offset part one) p.1
    (subst (λ (n : ℕ). HasStamp f (OfBlocks s) n part one) here h)) q (sym packets ∙ p.0) is)
blocks_stamp state offset (b ∷ bs) [] ps qs s t place place_two part others part_two others_two f g one two p q at
    at_two h k packets is =
    let here : place_two ≡ offset = omega (arith, at_two) in
    absurd (packet_or_none state offset b bs ps s part_two others_two (part ++ others) g two
    (subst (λ (u : State). HasStamp g (OfBlocks u) offset part_two two) q.1
    (subst (λ (n : ℕ). HasStamp g (OfBlocks t) n part_two two) here k)) p (packets ∙ q.0) (sym is))
blocks_stamp state offset (b ∷ bs) (c ∷ cs) ps qs s t place place_two part others part_two others_two f g one two p q
    at at_two h k packets is =
    let more : List ℕ = joined bs ++ (part ++ others) in
    let rest : List ℕ = joined cs ++ (part_two ++ others_two) in
    let split : b ++ more ≡ c ++ rest =
    sym (append_assoc b (joined bs) (part ++ others)) ∙ is ∙ append_assoc c (joined cs) (part_two ++ others_two) in
    let shown : Sees state offset (c ++ rest) p.0 =
    subst (λ (l : List ℕ). Sees state offset l p.0) split (block_front state offset b more p.0 p.2) in
    let x : p.0 ≡ q.0 = same_sees state offset (c ++ rest) p.0 q.0 shown (block_front state offset c rest q.0 q.2) in
    let sizes : length b ≡ length c = same_length q.0 (length b) (length c)
    (subst (λ (y : Seen). IsWhole y (length b)) x p.2.whole) q.2.whole in
    let block : b ≡ c =
    sym (take_at b more (length c) sizes) ∙ ap (take (length c)) split ∙ take_at c rest (length c) refl in
    let behind : more ≡ rest =
    sym (drop_at b more (length c) sizes) ∙ ap (drop (length c)) split ∙ drop_at c rest (length c) refl in
    let moved : AreBlocks (after state q.0) (offset + length c) bs p.1 s =
    subst (λ (n : ℕ). AreBlocks (after state q.0) (offset + n) bs p.1 s) sizes
    (subst (λ (y : Seen). AreBlocks (after state y) (offset + length b) bs p.1 s) x p.3) in
    let given : packets_of q.0 c ++ p.1 ≡ packets_of q.0 c ++ q.1 =
    ap (λ (l : List ℕ). packets_of q.0 l ++ p.1) (sym block) ∙ ap (λ (y : Seen). packets_of y b ++ p.1) (sym x)
    ∙ sym p.4 ∙ packets ∙ q.4 in
    blocks_stamp (after state q.0) (offset + length c) bs cs p.1 q.1 s t place place_two part others part_two others_two
    f g one two moved q.3 (omega (arith, at, sizes, length-append b (joined bs)))
    (omega (arith, at_two, length-append c (joined cs))) h k (behind_same (packets_of q.0 c) p.1 q.1 given) behind

-- ---- records

-- behind records with the same packets stands the same one
records_behind : (order : Order) (rs us : List Saved) (xs ys : List ℕ) → AllByRecursion (IsSaved order) rs →
    AllByRecursion (IsSaved order) us → packets_in rs ≡ packets_in us →
    flat_map bytes_of rs ++ xs ≡ flat_map bytes_of us ++ ys → xs ≡ ys
records_behind order [] [] xs ys p q packets is = is
records_behind order [] (u ∷ us) xs ys p q packets is = absurd (none_is_more u.packet (packets_in us) packets)
records_behind order (r ∷ rs) [] xs ys p q packets is = absurd (none_is_more r.packet (packets_in rs) (sym packets))
records_behind order (r ∷ rs) (u ∷ us) xs ys p q packets is =
    let same = cons_same r.packet u.packet (packets_in rs) (packets_in us) packets in
    let more : List ℕ = flat_map bytes_of rs ++ xs in
    let rest : List ℕ = flat_map bytes_of us ++ ys in
    let split : bytes_of r ++ more ≡ bytes_of u ++ rest =
    sym (append_assoc (bytes_of r) (flat_map bytes_of rs) xs) ∙ is
    ∙ append_assoc (bytes_of u) (flat_map bytes_of us) ys in
    let sizes : length (bytes_of r) ≡ length (bytes_of u) =
    omega (
      arith,
      length-append r.head r.packet,
      length-append u.head u.packet,
      p.0.head_length,
      q.0.head_length,
      ap length same.0,
    ) in
    let n : ℕ = length (bytes_of u) in
    records_behind order rs us xs ys p.1 q.1 same.1
    (sym (drop_at (bytes_of r) more n sizes) ∙ ap (drop n) split ∙ drop_at (bytes_of u) rest n refl)

-- there are two magic numbers
two_magics : (order : Order) → spelling order 4 microseconds ≡ spelling order 4 nanoseconds → ⊥
two_magics Little is = (let e = ap (λ (l : List ℕ). get_or l 0 0) is in omega (arith, e))
two_magics Big is = (let e = ap (λ (l : List ℕ). get_or l 2 0) is in omega (arith, e))

-- the magic number of a file is one
same_fraction : (order : Order) (one two : Fraction) (bytes : List ℕ) → IsCountedIn order one bytes →
    IsCountedIn order two bytes → one ≡ two
same_fraction order Microseconds Microseconds bytes p q = refl
same_fraction order Nanoseconds Nanoseconds bytes p q = refl
same_fraction order Microseconds Nanoseconds bytes p q = absurd (two_magics order (sym p ∙ q))
same_fraction order Nanoseconds Microseconds bytes p q = absurd (two_magics order (sym q ∙ p))

-- the stamp in the first bytes of what begins with a record
stamp_whole : (order : Order) (fraction : Fraction) (part others : List ℕ) (captured : ℕ) (stamp : Stamp) →
    BeginsRecord order part captured → stamp ≡ stamp_of order fraction part →
    stamp ≡ stamp_of order fraction (part ++ others)
stamp_whole order fraction part others captured stamp begins is =
    is ∙ sym (stamp_there order fraction part others (omega (arith, begins.whole)))

-- ---- inputs

-- what is known of a packet with a stamp, by the form of its input
record StampedIn (link : ℕ) (bytes : List ℕ) (packets : List (List ℕ)) (form : Form) (stamp : Stamp) : Type 0 where
  opened : IsOpened link form bytes
  fraction : Fraction
  counted : IsCounted form fraction bytes
  passed : List ℕ
  last : Form
  parts : AreParts form (head_length form) passed packets last
  part : List ℕ
  others : List ℕ
  whole : drop (head_length form) bytes ≡ passed ++ (part ++ others)
  place : ℕ
  is_at : place ≡ head_length form + length passed
  next : HoldsPacket last place part
  is : HasStamp fraction last place part stamp

stamped_in : (link : ℕ) (bytes : List ℕ) (packets : List (List ℕ)) (stamp : Stamp) →
    (p : IsStamped link bytes packets stamp) → StampedIn link bytes packets p.starts.form stamp
stamped_in link bytes packets stamp p =
    let s = p.starts in
    let r = s.reaches in
    record {
      opened = r.opened;
      fraction = p.fraction;
      counted = p.counted;
      passed = r.passed;
      last = r.last;
      parts = r.parts;
      part = s.part;
      others = s.others;
      whole = r.whole ∙ ap (λ (l : List ℕ). r.passed ++ l) s.behind;
      place = p.place;
      is_at = r.is;
      next = s.next;
      is = p.is;
    }

-- the record behind a savefile's records
records_stamp : (link : ℕ) (bytes : List ℕ) (packets : List (List ℕ)) (order : Order) (one two : Stamp) →
    StampedIn link bytes packets (OfRecords order) one → StampedIn link bytes packets (OfRecords order) two → one ≡ two
records_stamp link bytes packets order one two p q =
    let a = p.parts in
    let b = q.parts in
    let next = subst (λ (f : Form). HoldsPacket f p.place p.part) a.4 p.next in
    let next_two = subst (λ (f : Form). HoldsPacket f q.place q.part) b.4 q.next in
    let is : one ≡ stamp_of order p.fraction p.part =
    subst (λ (f : Form). HasStamp p.fraction f p.place p.part one) a.4 p.is in
    let is_two : two ≡ stamp_of order q.fraction q.part =
    subst (λ (f : Form). HasStamp q.fraction f q.place q.part two) b.4 q.is in
    let behind : p.part ++ p.others ≡ q.part ++ q.others =
    records_behind order a.0 b.0 (p.part ++ p.others) (q.part ++ q.others) (recursion_from_All (IsSaved order) a.0 a.1)
    (recursion_from_All (IsSaved order) b.0 b.1) (sym a.3 ∙ b.3)
    (ap (λ (l : List ℕ). l ++ (p.part ++ p.others)) (sym a.2) ∙ sym p.whole ∙ q.whole
    ∙ ap (λ (l : List ℕ). l ++ (q.part ++ q.others)) b.2) in
    stamp_whole order p.fraction p.part p.others next.0 one next.1 is
    ∙ ap (λ (f : Fraction). stamp_of order f (p.part ++ p.others))
    (same_fraction order p.fraction q.fraction bytes p.counted q.counted)
    ∙ ap (stamp_of order q.fraction) behind
    ∙ sym (stamp_whole order q.fraction q.part q.others next_two.0 two next_two.1 is_two)

-- the block behind a pcapng input's blocks
input_stamp : (link : ℕ) (bytes : List ℕ) (packets : List (List ℕ)) (one two : Stamp) →
    StampedIn link bytes packets (OfBlocks (opening link)) one →
    StampedIn link bytes packets (OfBlocks (opening link)) two → one ≡ two
input_stamp link bytes packets one two p q =
    let a = p.parts in
    let b = q.parts in
    blocks_stamp (opening link) 0 a.0 b.0 packets packets a.1 b.1 p.place q.place p.part p.others q.part q.others
    p.fraction q.fraction one two a.2 b.2 (p.is_at ∙ ap (λ (l : List ℕ). 0 + length l) a.3)
    (q.is_at ∙ ap (λ (l : List ℕ). 0 + length l) b.3)
    (subst (λ (f : Form). HasStamp p.fraction f p.place p.part one) a.4 p.is)
    (subst (λ (f : Form). HasStamp q.fraction f q.place q.part two) b.4 q.is) refl
    (ap (λ (l : List ℕ). l ++ (p.part ++ p.others)) (sym a.3) ∙ sym p.whole ∙ q.whole
    ∙ ap (λ (l : List ℕ). l ++ (q.part ++ q.others)) b.3)

-- by both forms
form_stamp : (link : ℕ) (bytes : List ℕ) (packets : List (List ℕ)) (f g : Form) (one two : Stamp) →
    StampedIn link bytes packets f one → StampedIn link bytes packets g two → one ≡ two
form_stamp link bytes packets (OfRecords order) (OfRecords other) one two p q =
    let same : other ≡ order = same_order other order bytes q.opened.begins.magic p.opened.begins.magic in
    records_stamp link bytes packets order one two p
    (subst (λ (o : Order). StampedIn link bytes packets (OfRecords o) two) same q)
form_stamp link bytes packets (OfRecords order) (OfBlocks state) one two p q =
    absurd (no_pcapng link order bytes p.opened q.opened.0)
form_stamp link bytes packets (OfBlocks state) (OfRecords order) one two p q =
    absurd (no_pcapng link order bytes q.opened p.opened.0)
form_stamp link bytes packets (OfBlocks state) (OfBlocks other) one two p q =
    input_stamp link bytes packets one two
    (subst (λ (s : State). StampedIn link bytes packets (OfBlocks s) one) p.opened.1 p)
    (subst (λ (s : State). StampedIn link bytes packets (OfBlocks s) two) q.opened.1 q)

pub same_stamp : (link : ℕ) (bytes : List ℕ) (packets : List (List ℕ)) (one other : Stamp) →
    IsStamped link bytes packets one → IsStamped link bytes packets other → one ≡ other
same_stamp link bytes packets one other p q =
    form_stamp link bytes packets p.starts.form q.starts.form one other (stamped_in link bytes packets one p)
    (stamped_in link bytes packets other q)
