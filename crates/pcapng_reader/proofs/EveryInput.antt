-- Each list of bytes has an input.
use Rattle.std.proofs.Common.{◌≡◌, ◌≤◌, ◌<◌, ℕ, zero, suc, ◌+◌, ◌%◌, ◌⊎◌, List, [], ◌∷◌, ◌++◌, length, take, drop, Result, Ok, Err, refl, sym, ap, ◌∙◌, subst, inl, inr, arith, length-append, length-drop, length-take-le, take-append-drop, append_assoc}
use Rattle.std.proofs.lemmas.Bool.{cases_lt, cases_eq}
use Rattle.pcap_reader.specs.declared.order.Order.{Order}
use Rattle.pcap_reader.specs.declared.order.Order.TheVariants.{Little, Big}
use Rattle.pcap_reader.specs.Capture.{number, spelling, file_head_length}
use Rattle.pcap_reader.specs.Laws.{HasCapture}
use Rattle.pcap_reader.proofs.Decisions.{both, either, same_list, Decided}
use Rattle.pcapng_reader.specs.declared.section.Interface.{Interface as AnInterface}
use Rattle.capture_faults.specs.declared.any_fault.AnyFault.{AnyFault}
use Rattle.capture_faults.specs.declared.any_fault.AnyFault.TheVariants as fault
use Rattle.pcapng_reader.specs.declared.block.Kind.{Kind}
use Rattle.pcapng_reader.specs.declared.block.Kind.TheVariants.{Section, Interface, Enhanced, Simple, Other}
use Rattle.pcapng_reader.specs.declared.block.Seen.{Seen}
use Rattle.pcapng_reader.specs.declared.block.Seen.TheVariants as seen
use Rattle.pcapng_reader.specs.Section.{State, opening}
use Rattle.pcapng_reader.specs.Clocks.{clock_of}
use Rattle.pcapng_reader.specs.Blocks.{interface_of, HasKind, HasNoOrder, HoldsBlocks, IsBlock, IsBlockLength, IsLast, IsMagicIn, IsReadIn, IsSection, IsShort, IsWhole, Sees, SeesCaptured, SeesHead, SeesKind, SeesOther, SeesSize, Where, after, block_type, byte_order_magic, given_length, interface_at, least_length, longest_block, longest_packet, most_interfaces, most_others, packets_of, padded, second_length, section_type, simple_length, total_length}
use Rattle.pcapng_reader.specs.Input.{Input, any_ending, packets_in}
use Rattle.pcapng_reader.proofs.Decisions.{where_some}
use Rattle.pcapng_reader.proofs.BlockFacts.{block_back, least_4, whole_parts}
use Rattle.pcapng_reader.proofs.OneInput.{joined}

-- ---- tests

-- whether a number is below another
less : (n m : ℕ) → Decided (n < m)
less n m = elim (cases_lt n m) [ inl p ↦ inl p | inr p ↦ inr (λ q. omega (arith, p, q)) ]

-- whether a number is at most another
at_most : (n m : ℕ) → Decided (n ≤ m)
at_most n m = elim (cases_lt m n) [ inl p ↦ inr (λ q. omega (arith, p, q)) | inr p ↦ inl p ]

-- whether bytes begin a section
is_section : (bytes : List ℕ) → Decided (IsSection bytes)
is_section bytes = same_list (take 4 bytes) section_type

-- whether a head is not all there
is_short : (bytes : List ℕ) → Decided (IsShort bytes)
is_short bytes = either (less (length bytes) 8) (both (is_section bytes) (less (length bytes) 12))

-- whether a byte-order magic is in that order
is_magic : (order : Order) (bytes : List ℕ) → Decided (IsMagicIn order bytes)
is_magic order bytes = same_list (take 4 (drop 8 bytes)) (spelling order 4 byte_order_magic)

-- a magic is in one order, or in none
magic_or : (bytes : List ℕ) → ((order : Order) × IsMagicIn order bytes) ⊎ ((order : Order) → IsMagicIn order bytes → ⊥)
magic_or bytes = elim (is_magic Little bytes) [
  | inl little ↦ inl (Little, little)
  | inr no_little ↦ elim (is_magic Big bytes) [
    | inl big ↦ inl (Big, big)
    | inr no_big ↦ inr (neither bytes no_little no_big)
  ]
]
  where
    neither : (bytes : List ℕ) → (IsMagicIn Little bytes → ⊥) → (IsMagicIn Big bytes → ⊥) → (order : Order) →
        IsMagicIn order bytes → ⊥
    neither bytes p q Little = p
    neither bytes p q Big = q

-- whether a section has no order
has_no_order : (bytes : List ℕ) → Decided (HasNoOrder bytes)
has_no_order bytes = elim (is_section bytes) [
  | inl section ↦ elim (magic_or bytes) [
    | inl (order, magic) ↦ inr (λ p. p.1 order magic)
    | inr none ↦ inl (section, none)
  ]
  | inr other ↦ inr (λ p. other p.0)
]

-- a block with an order is read in one
read_in : (state : State) (bytes : List ℕ) → (HasNoOrder bytes → ⊥) → (order : Order) × IsReadIn state order bytes
read_in state bytes ordered = elim (is_section bytes) [
  | inl section ↦ elim (magic_or bytes) [
    | inl (order, magic) ↦ (order, inl (section, magic))
    | inr none ↦ absurd (ordered (section, none))
  ]
  | inr other ↦ (state.order, inr (other, refl))
]

-- each type is of a kind
kind_of : (type : ℕ) → (kind : Kind) × HasKind type kind
kind_of type = elim (cases_eq type 0x0a0d0d0a) [
  | inl section ↦ (Section, section)
  | inr a ↦ elim (cases_eq type 1) [
    | inl interface ↦ (Interface, interface)
    | inr b ↦ elim (cases_eq type 6) [
      | inl enhanced ↦ (Enhanced, enhanced)
      | inr c ↦ elim (cases_eq type 3) [
        | inl simple ↦ (Simple, simple)
        | inr d ↦ (Other, (a, b, c, d))
      ]
    ]
  ]
]

-- whether a block of that kind may have that length
is_block_length : (kind : Kind) (size : ℕ) → Decided (IsBlockLength kind size)
is_block_length kind size =
    three (cases_eq (size % 4) 0) (at_most size longest_block) (at_most (least_length kind) size)
  where
    three : {P Q R : Type 0} → Decided P → Decided Q → Decided R → Decided (P × Q × R)
    three (inl p) (inl q) (inl r) = inl (p, q, r)
    three (inr p) q r = inr (λ h. p h.0)
    three (inl p) (inr q) r = inr (λ h. q h.1)
    three (inl p) (inl q) (inr r) = inr (λ h. r h.2)

-- ---- what a block shows

-- one answer where a test is met, and one where it is not
answers : {T : Type 0} (a b : Seen) → Decided T → (x : Seen) × Where T (x ≡ a) (x ≡ b)
answers a b test = where_some (λ x. x ≡ a) (λ x. x ≡ b) test (a, refl) (λ n. (b, refl))

-- what a block without a packet shows
sees_other : (state : State) (offset : ℕ) (sets : Seen) → (x : Seen) × SeesOther state offset sets x
sees_other state offset sets =
    answers (seen.Fault (fault.Blocks offset)) sets (at_most most_others state.others)

-- what a packet shows by its captured length
sees_captured : (offset : ℕ) (interface : AnInterface) (captured at size : ℕ) →
    (x : Seen) × SeesCaptured offset interface captured at size x
sees_captured offset interface captured at size =
    answers (seen.Fault (fault.CapturedLength offset captured)) (seen.Packet size at (given_length interface captured))
    (either (less longest_packet captured) (less size (at + padded captured + 4)))

-- what a whole block shows by its kind
sees_kind : (state : State) (offset : ℕ) (order : Order) (kind : Kind) (size : ℕ) (bytes : List ℕ) →
    (x : Seen) × SeesKind state offset order kind size bytes x
sees_kind state offset order Section size bytes =
    let major : ℕ = number order 2 (drop 12 bytes) in
    let minor : ℕ = number order 2 (drop 14 bytes) in
    where_some (λ x. SeesOther state offset (seen.Section size order) x)
    (λ x. x ≡ seen.Fault (fault.SectionVersion offset major minor)) (cases_eq major 1)
    (sees_other state offset (seen.Section size order))
    (λ n. (seen.Fault (fault.SectionVersion offset major minor), refl))
sees_kind state offset order Interface size bytes =
    let interface : AnInterface =
    interface_of state (number order 2 (drop 8 bytes)) (number order 4 (drop 12 bytes)) (clock_of order size bytes) in
    where_some (λ x. x ≡ seen.Fault (fault.Interfaces offset))
    (λ x. SeesOther state offset (seen.Interface size interface) x) (at_most most_interfaces (length state.interfaces))
    (seen.Fault (fault.Interfaces offset), refl) (λ n. sees_other state offset (seen.Interface size interface))
sees_kind state offset order Enhanced size bytes =
    let place : ℕ = number order 4 (drop 8 bytes) in
    let captured : ℕ = number order 4 (drop 20 bytes) in
    where_some (λ x. x ≡ seen.Fault (fault.Interface offset place))
    (λ x. SeesCaptured offset (interface_at state place) captured 28 size x)
    (at_most (length state.interfaces) place) (seen.Fault (fault.Interface offset place), refl)
    (λ n. sees_captured offset (interface_at state place) captured 28 size)
sees_kind state offset order Simple size bytes =
    let captured : ℕ = simple_length (interface_at state 0) (number order 4 (drop 8 bytes)) in
    where_some (λ x. x ≡ seen.Fault (fault.Interface offset 0))
    (λ x. SeesCaptured offset (interface_at state 0) captured 12 size x)
    (at_most (length state.interfaces) 0) (seen.Fault (fault.Interface offset 0), refl)
    (λ n. sees_captured offset (interface_at state 0) captured 12 size)
sees_kind state offset order Other size bytes = sees_other state offset (seen.Other size)

-- what it shows by its second length
sees_second : (state : State) (offset : ℕ) (order : Order) (kind : Kind) (size : ℕ) (bytes : List ℕ) →
    (x : Seen) × Where (second_length order size bytes ≡ size) (SeesKind state offset order kind size bytes x)
    (x ≡ seen.Fault (fault.Trailer offset (second_length order size bytes)))
sees_second state offset order kind size bytes =
    where_some (λ x. SeesKind state offset order kind size bytes x)
    (λ x. x ≡ seen.Fault (fault.Trailer offset (second_length order size bytes)))
    (cases_eq (second_length order size bytes) size) (sees_kind state offset order kind size bytes)
    (λ n. (seen.Fault (fault.Trailer offset (second_length order size bytes)), refl))

-- what it shows by how much of it is there
sees_there : (state : State) (offset : ℕ) (order : Order) (kind : Kind) (size : ℕ) (bytes : List ℕ) →
    (x : Seen) × Where (length bytes < size) (x ≡ seen.Cut)
    (Where (second_length order size bytes ≡ size) (SeesKind state offset order kind size bytes x)
    (x ≡ seen.Fault (fault.Trailer offset (second_length order size bytes))))
sees_there state offset order kind size bytes =
    where_some (λ x. x ≡ seen.Cut)
    (λ x. Where (second_length order size bytes ≡ size) (SeesKind state offset order kind size bytes x)
    (x ≡ seen.Fault (fault.Trailer offset (second_length order size bytes))))
    (less (length bytes) size) (seen.Cut, refl) (λ n. sees_second state offset order kind size bytes)

-- what it shows by its length
sees_size : (state : State) (offset : ℕ) (order : Order) (kind : Kind) (size : ℕ) (bytes : List ℕ) →
    (x : Seen) × SeesSize state offset order kind size bytes x
sees_size state offset order kind size bytes =
    where_some
    (λ x. Where (length bytes < size) (x ≡ seen.Cut)
    (Where (second_length order size bytes ≡ size) (SeesKind state offset order kind size bytes x)
    (x ≡ seen.Fault (fault.Trailer offset (second_length order size bytes)))))
    (λ x. x ≡ seen.Fault (fault.BlockLength offset size)) (is_block_length kind size)
    (sees_there state offset order kind size bytes) (λ n. (seen.Fault (fault.BlockLength offset size), refl))

-- what bytes show whose order is known
sees_head : (state : State) (offset : ℕ) (bytes : List ℕ) → (HasNoOrder bytes → ⊥) →
    (x : Seen) × SeesHead state offset bytes x
sees_head state offset bytes ordered =
    let read = read_in state bytes ordered in
    let kind = kind_of (block_type read.0 bytes) in
    let size = sees_size state offset read.0 kind.0 (total_length read.0 bytes) bytes in
    (size.0, (read.0, kind.0, read.1, kind.1, size.1))

-- bytes show something of the block that they begin
pub sees : (state : State) (offset : ℕ) (bytes : List ℕ) → (x : Seen) × Sees state offset bytes x
sees state offset bytes =
    where_some (λ x. x ≡ seen.Cut)
    (λ x. Where (HasNoOrder bytes) (x ≡ seen.Fault (fault.ByteOrder offset (take 4 (drop 8 bytes))))
    (SeesHead state offset bytes x))
    (is_short bytes) (seen.Cut, refl)
    (λ long. where_some (λ x. x ≡ seen.Fault (fault.ByteOrder offset (take 4 (drop 8 bytes))))
    (λ x. SeesHead state offset bytes x) (has_no_order bytes)
    (seen.Fault (fault.ByteOrder offset (take 4 (drop 8 bytes))), refl)
    (λ ordered. sees_head state offset bytes ordered))

-- ---- blocks

-- a block is cut, breaks a rule, or is whole
abbrev Sorted : Seen → Type 0
Sorted x = (x ≡ seen.Cut) ⊎ (((found : AnyFault) × (x ≡ seen.Fault found)) ⊎ ((size : ℕ) × IsWhole x size))

-- each is one of these
sorted : (x : Seen) → Sorted x
sorted seen.Cut = inl refl
sorted (seen.Fault found) = inr (inl (found, refl))
sorted (seen.Packet size at count) = inr (inr (size, refl))
sorted (seen.Section size order) = inr (inr (size, refl))
sorted (seen.Interface size interface) = inr (inr (size, refl))
sorted (seen.Other size) = inr (inr (size, refl))

-- what is last is a cutting without blocks
none : (state : State) (offset : ℕ) (bytes : List ℕ) (ending : Result ℕ AnyFault) → IsLast state offset bytes ending →
    HoldsBlocks state offset bytes [] ending
none state offset bytes ending last =
    let place : offset ≡ offset + 0 = omega arith in
    record {
      blocks = [];
      last = state;
      each = (refl, refl);
      rest = bytes;
      parts = refl;
      ends = subst (λ (n : ℕ). IsLast state n bytes ending) place last;
    }

-- a block more in front of a cutting
pub one_more : (state : State) (offset : ℕ) (block more : List ℕ) (x : Seen) (packets : List (List ℕ))
    (ending : Result ℕ AnyFault) → IsBlock state offset block x →
    HoldsBlocks (after state x) (offset + length block) more packets ending →
    HoldsBlocks state offset (block ++ more) (packets_of x block ++ packets) ending
one_more state offset block more x packets ending is later =
    let place : offset + length block + length (joined later.blocks) ≡ offset + length (joined (block ∷ later.blocks)) =
    omega (arith, length-append block (joined later.blocks)) in
    record {
      blocks = block ∷ later.blocks;
      last = later.last;
      each = (x, packets, is, later.each, refl);
      rest = later.rest;
      parts = ap (λ (l : List ℕ). block ++ l) later.parts ∙ sym (append_assoc block (joined later.blocks) later.rest);
      ends = subst (λ (n : ℕ). IsLast later.last n later.rest ending) place later.ends;
    }

-- a block that the bytes begin with stands alone
pub first_block : (state : State) (offset : ℕ) (bytes : List ℕ) (x : Seen) (n : ℕ) → IsWhole x n →
    Sees state offset bytes x → IsBlock state offset (take n bytes) x
first_block state offset bytes x n whole shows =
    let parts = whole_parts state offset bytes x n whole shows in
    let size : length (take n bytes) ≡ n = length-take-le n bytes parts.there in
    block_back state offset (take n bytes) (drop n bytes) x (subst (IsWhole x) (sym size) whole)
    (subst (λ (l : List ℕ). Sees state offset l x) (sym (take-append-drop n bytes)) shows)

-- each list of bytes is cut into blocks and a rest
pub cutting : (fuel : ℕ) (state : State) (offset : ℕ) (bytes : List ℕ) → length bytes < fuel →
    (packets : List (List ℕ)) × (ending : Result ℕ AnyFault) × HoldsBlocks state offset bytes packets ending
cutting zero state offset bytes few = absurd (omega (arith, few))
cutting (suc fuel) state offset bytes few =
    let seen_is = sees state offset bytes in
    go fuel state offset bytes few seen_is.0 seen_is.1 (sorted seen_is.0)
    (λ more at l short. cutting fuel more at l short)
  where
    go : (fuel : ℕ) (state : State) (offset : ℕ) (bytes : List ℕ) → length bytes < suc fuel → (x : Seen) →
        Sees state offset bytes x → Sorted x →
        ((more : State) (at : ℕ) (l : List ℕ) → length l < fuel →
        (packets : List (List ℕ)) × (ending : Result ℕ AnyFault) × HoldsBlocks more at l packets ending) →
        (packets : List (List ℕ)) × (ending : Result ℕ AnyFault) × HoldsBlocks state offset bytes packets ending
    go fuel state offset bytes few x shows (inl cut) next = (
      [],
      Ok (length bytes),
      none state offset bytes (Ok (length bytes))
          (subst (λ (y : Seen). Sees state offset bytes y) cut shows, refl),
    )
    go fuel state offset bytes few x shows (inr (inl (found, is))) next = (
      [],
      Err found,
      none state offset bytes (Err found) (subst (λ (y : Seen). Sees state offset bytes y) is shows),
    )
    go fuel state offset bytes few x shows (inr (inr (n, whole))) next =
        let block : List ℕ = take n bytes in
        let more : List ℕ = drop n bytes in
        let parts = whole_parts state offset bytes x n whole shows in
        let short : length more < fuel =
        omega (arith, few, length-drop n bytes, parts.there, least_4 parts.kind n parts.right) in
        let later = next (after state x) (offset + length block) more short in (
          packets_of x block ++ later.0,
          later.1,
          subst (λ (l : List ℕ). HoldsBlocks state offset l (packets_of x block ++ later.0) later.1)
              (take-append-drop n bytes)
              (one_more state offset block more x later.0 later.1 (first_block state offset bytes x n whole shows)
              later.2),
        )

-- ---- inputs

-- each list of bytes is an input, of blocks or a savefile
pub some_input : (link : ℕ) (bytes : List ℕ) → HasCapture link bytes →
    (packets : List (List ℕ)) × (ending : Result ℕ AnyFault) × Input link bytes packets ending
some_input link bytes capture = elim (both (at_most file_head_length (length bytes)) (is_section bytes)) [
  | inl is ↦
      let cut = cutting (suc (length bytes)) (opening link) 0 bytes (omega arith) in
      (cut.0, cut.1, inl (record { whole = is.0; begins = is.1 }, cut.2))
  | inr not ↦ (
    packets_in capture.0,
    any_ending capture.1,
    inr (
      (λ h. not (h.whole, h.begins)),
      record {
        records = capture.0;
        kept = capture.1;
        capture = capture.2;
        packets_are = refl;
        ends = refl;
      },
    ),
  )
]
