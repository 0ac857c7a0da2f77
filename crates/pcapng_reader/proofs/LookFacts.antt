-- What bytes show, by what was found of them.
use Rattle.std.proofs.Common.{◌≡◌, ◌≤◌, ◌<◌, ℕ, List, length, take, drop, sym, ap, ◌∙◌, subst, inl, inr, refl, arith, length-take-le, take-append-drop}
use Rattle.pcap_reader.specs.declared.order.Order.{Order}
use Rattle.pcap_reader.specs.declared.order.Order.TheVariants.{Little, Big}
use Rattle.pcap_reader.specs.Capture.{number}
use Rattle.pcap_reader.proofs.CaptureFacts.{number_front}
use Rattle.pcapng_reader.specs.declared.block.Kind.{Kind}
use Rattle.pcapng_reader.specs.declared.block.Kind.TheVariants.{Section, Interface, Enhanced, Simple, Other}
use Rattle.pcapng_reader.specs.declared.block.Seen.{Seen}
use Rattle.pcapng_reader.specs.declared.block.Seen.TheVariants as seen
use Rattle.pcapng_reader.specs.Section.{State}
use Rattle.pcapng_reader.specs.Blocks.{HasKind, IsBlockLength, IsMagicIn, IsReadIn, IsSection, IsShort, Sees, SeesKind, SeesSize, block_type, section_type, total_length}
use Rattle.pcapng_reader.proofs.BlockFacts.{Shows}
use Rattle.pcapng_reader.proofs.OneInput.{same_kind, same_order}

-- a section's type reads the same in both orders
section_number : (order : Order) → number order 4 section_type ≡ 0x0a0d0d0a
section_number Little = refl
section_number Big = refl

-- so a section is of its kind in both orders
section_kind : (order : Order) (bytes : List ℕ) → 4 ≤ length bytes → IsSection bytes →
    HasKind (block_type order bytes) Section
section_kind order bytes long is =
    let size : 4 ≤ length (take 4 bytes) = omega (arith, length-take-le 4 bytes long) in
    ap (number order 4) (sym (take-append-drop 4 bytes)) ∙ number_front order 4 (take 4 bytes) (drop 4 bytes) size
    ∙ ap (number order 4) is ∙ section_number order

-- a section block with its order
pub sees_section : (state : State) (offset : ℕ) (order : Order) (bytes : List ℕ) (x : Seen) → IsSection bytes →
    12 ≤ length bytes → IsMagicIn order bytes →
    SeesSize state offset order Section (total_length order bytes) bytes x → Sees state offset bytes x
sees_section state offset order bytes x section long magic size =
    inr (
      (λ short. elim short [ inl few ↦ omega (arith, few, long) | inr p ↦ omega (arith, p.1, long) ]),
      inr (
        (λ none. none.1 order magic),
        (order, Section, inl (section, magic), section_kind order bytes (omega (arith, long)) section, size),
      ),
    )

-- a block of another type
pub sees_other_type : (state : State) (offset : ℕ) (kind : Kind) (bytes : List ℕ) (x : Seen) → (IsSection bytes → ⊥) →
    8 ≤ length bytes → HasKind (block_type state.order bytes) kind →
    SeesSize state offset state.order kind (total_length state.order bytes) bytes x → Sees state offset bytes x
sees_other_type state offset kind bytes x other long is size =
    inr (
      (λ short. elim short [ inl few ↦ omega (arith, few, long) | inr p ↦ other p.0 ]),
      inr ((λ none. other none.0), (state.order, kind, inr (other, refl), is, size)),
    )

-- an enhanced packet is no section
pub sees_enhanced : (state : State) (offset : ℕ) (bytes : List ℕ) (x : Seen) → 8 ≤ length bytes →
    block_type state.order bytes ≡ 6 →
    SeesSize state offset state.order Enhanced (total_length state.order bytes) bytes x → Sees state offset bytes x
sees_enhanced state offset bytes x long is size =
    sees_other_type state offset Enhanced bytes x
    (λ section. omega (arith, is, section_kind state.order bytes (omega (arith, long)) section)) long is size

-- ---- a block that is cut

-- a cut block is none of the others
pub not_cut : (y : Seen) → Shows y → seen.Cut ≡ y → ⊥
not_cut y shows is = subst Shows (sym is) shows

-- a whole block is not cut
pub kind_cut : (state : State) (offset : ℕ) (order : Order) (kind : Kind) (size : ℕ) (bytes : List ℕ) →
    SeesKind state offset order kind size bytes seen.Cut → ⊥
kind_cut state offset order Section size bytes (inr p) = not_cut _ tt p.1
kind_cut state offset order Section size bytes (inl (v, inl p)) = not_cut _ tt p.1
kind_cut state offset order Section size bytes (inl (v, inr p)) = not_cut _ tt p.1
kind_cut state offset order Interface size bytes (inl p) = not_cut _ tt p.1
kind_cut state offset order Interface size bytes (inr (v, inl p)) = not_cut _ tt p.1
kind_cut state offset order Interface size bytes (inr (v, inr p)) = not_cut _ tt p.1
kind_cut state offset order Enhanced size bytes (inl p) = not_cut _ tt p.1
kind_cut state offset order Enhanced size bytes (inr (v, inl p)) = not_cut _ tt p.1
kind_cut state offset order Enhanced size bytes (inr (v, inr p)) = not_cut _ tt p.1
kind_cut state offset order Simple size bytes (inl p) = not_cut _ tt p.1
kind_cut state offset order Simple size bytes (inr (v, inl p)) = not_cut _ tt p.1
kind_cut state offset order Simple size bytes (inr (v, inr p)) = not_cut _ tt p.1
kind_cut state offset order Other size bytes (inl p) = not_cut _ tt p.1
kind_cut state offset order Other size bytes (inr p) = not_cut _ tt p.1

-- what is known of a cut block whose head is there
pub record CutBlock (state : State) (bytes : List ℕ) : Type 0 where
  pub order : Order
  pub kind : Kind
  pub read_in : IsReadIn state order bytes
  pub type : HasKind (block_type order bytes) kind
  pub right : IsBlockLength kind (total_length order bytes)
  pub shorter : length bytes < total_length order bytes

-- a block that is cut by its size is right and not all there
size_cut : (state : State) (offset : ℕ) (order : Order) (kind : Kind) (size : ℕ) (bytes : List ℕ) →
    SeesSize state offset order kind size bytes seen.Cut → IsBlockLength kind size × (length bytes < size)
size_cut state offset order kind size bytes (inr p) = absurd (not_cut _ tt p.1)
size_cut state offset order kind size bytes (inl (right, inl p)) = (right, p.0)
size_cut state offset order kind size bytes (inl (right, inr (there, inr p))) = absurd (not_cut _ tt p.1)
size_cut state offset order kind size bytes (inl (right, inr (there, inl (second, inside)))) =
    absurd (kind_cut state offset order kind size bytes inside)

-- what a cut block shows of itself
pub cut_block : (state : State) (offset : ℕ) (bytes : List ℕ) → 12 ≤ length bytes → Sees state offset bytes seen.Cut →
    CutBlock state bytes
cut_block state offset bytes long (inl (short, is)) = absurd (few bytes short long)
  where
    few : (l : List ℕ) → IsShort l → 12 ≤ length l → ⊥
    few l (inl a) b = omega (arith, a, b)
    few l (inr a) b = omega (arith, a.1, b)
cut_block state offset bytes long (inr (head, inl p)) = absurd (not_cut _ tt p.1)
cut_block state offset bytes long (inr (head, inr (ordered, h))) =
    let size = size_cut state offset h.0 h.1 (total_length h.0 bytes) bytes h.4 in
    record { order = h.0; kind = h.1; read_in = h.2; type = h.3; right = size.0; shorter = size.1 }

-- a cut block that is read in that order, and is of that kind
pub cut_by : (state : State) (offset : ℕ) (bytes : List ℕ) (order : Order) (kind : Kind) → 12 ≤ length bytes →
    Sees state offset bytes seen.Cut → IsReadIn state order bytes → HasKind (block_type order bytes) kind →
    IsBlockLength kind (total_length order bytes) × (length bytes < total_length order bytes)
cut_by state offset bytes order kind long shows read type =
    let cut = cut_block state offset bytes long shows in
    let same : cut.order ≡ order = same_order state cut.order order bytes cut.read_in read in
    let kinds : cut.kind ≡ kind = same_kind (block_type order bytes) cut.kind kind
    (subst (λ (o : Order). HasKind (block_type o bytes) cut.kind) same cut.type) type in
    let right : IsBlockLength cut.kind (total_length order bytes) =
    subst (λ (o : Order). IsBlockLength cut.kind (total_length o bytes)) same cut.right in (
      subst (λ (k : Kind). IsBlockLength k (total_length order bytes)) kinds right,
      subst (λ (o : Order). length bytes < total_length o bytes) same cut.shorter,
    )
