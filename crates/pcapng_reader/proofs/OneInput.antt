-- A list of bytes has at most one input.
use Rattle.std.proofs.Common.{◌≡◌, ℕ, ◌+◌, List, [], ◌∷◌, ◌++◌, length, take, drop, get_or, Result, Ok, Err, refl, sym, ap, ◌∙◌, subst, inl, inr, arith, length-append, append_assoc}
use Rattle.std.specs.List.{flat_map}
use Rattle.std.proofs.lemmas.List.{take_at, drop_at}
use Rattle.pcap_reader.specs.declared.order.Order.{Order}
use Rattle.pcap_reader.specs.declared.order.Order.TheVariants.{Little, Big}
use Rattle.pcap_reader.specs.Laws.{HasOneCapture}
use Rattle.pcapng_reader.specs.declared.section.Interface.{Interface as AnInterface}
use Rattle.capture_faults.specs.declared.any_fault.AnyFault.{AnyFault}
use Rattle.pcapng_reader.specs.declared.block.Kind.{Kind}
use Rattle.pcapng_reader.specs.declared.block.Kind.TheVariants.{Section, Interface, Enhanced, Simple, Other}
use Rattle.pcapng_reader.specs.declared.block.Seen.{Seen}
use Rattle.pcapng_reader.specs.declared.block.Seen.TheVariants as seen
use Rattle.pcapng_reader.specs.declared.clock.Clock.{Clock}
use Rattle.pcapng_reader.specs.Section.{State, opening}
use Rattle.pcapng_reader.specs.Blocks.{AreBlocks, HasKind, HoldsBlocks, IsBlock, IsLast, IsMagicIn, IsReadIn, IsWhole, Sees, SeesCaptured, SeesEnhanced, SeesHead, SeesInterface, SeesKind, SeesOther, SeesSection, SeesSimple, SeesSize, after, block_type, interface_at, interface_of, packets_of, simple_length, total_length}
use Rattle.pcapng_reader.specs.Input.{HoldsSavefile, Input, any_ending, packets_in}
use Rattle.pcapng_reader.proofs.Decisions.{where_once}
use Rattle.pcapng_reader.proofs.BlockFacts.{block_front}

-- ---- what a block shows

-- two that are one with a third
same : {x y z : Seen} → x ≡ z → y ≡ z → x ≡ y
same p q = p ∙ sym q

-- a block without a packet shows one thing
same_other : (state : State) (offset : ℕ) (sets x y : Seen) → SeesOther state offset sets x →
    SeesOther state offset sets y → x ≡ y
same_other state offset sets x y p q = where_once same same p q

-- a packet shows one thing by its captured length
same_captured : (offset : ℕ) (interface : AnInterface) (captured at size : ℕ) (x y : Seen) →
    SeesCaptured offset interface captured at size x → SeesCaptured offset interface captured at size y → x ≡ y
same_captured offset interface captured at size x y p q = where_once same same p q

-- an enhanced packet shows one thing
same_enhanced : (state : State) (offset place captured size : ℕ) (x y : Seen) →
    SeesEnhanced state offset place captured size x → SeesEnhanced state offset place captured size y → x ≡ y
same_enhanced state offset place captured size x y p q =
    where_once same (λ a b. same_captured offset (interface_at state place) captured 28 size x y a b) p q

-- a simple packet shows one thing
same_simple : (state : State) (offset original size : ℕ) (x y : Seen) →
    SeesSimple state offset original size x → SeesSimple state offset original size y → x ≡ y
same_simple state offset original size x y p q =
    where_once same
    (λ a b. same_captured offset (interface_at state 0) (simple_length (interface_at state 0) original) 12 size x y a b)
    p q

-- a section shows one thing
same_section : (state : State) (offset : ℕ) (order : Order) (major minor size : ℕ) (x y : Seen) →
    SeesSection state offset order major minor size x → SeesSection state offset order major minor size y → x ≡ y
same_section state offset order major minor size x y p q =
    where_once (λ a b. same_other state offset (seen.Section size order) x y a b) same p q

-- an interface shows one thing
same_interface : (state : State) (offset link snapshot : ℕ) (clock : Clock) (size : ℕ) (x y : Seen) →
    SeesInterface state offset link snapshot clock size x → SeesInterface state offset link snapshot clock size y →
    x ≡ y
same_interface state offset link snapshot clock size x y p q =
    where_once same
    (λ a b. same_other state offset (seen.Interface size (interface_of state link snapshot clock)) x y a b) p q

-- a whole block shows one thing by its kind
same_inside : (state : State) (offset : ℕ) (order : Order) (kind : Kind) (size : ℕ) (bytes : List ℕ) (x y : Seen) →
    SeesKind state offset order kind size bytes x → SeesKind state offset order kind size bytes y → x ≡ y
same_inside state offset order Section size bytes x y p q = same_section state offset order _ _ size x y p q
same_inside state offset order Interface size bytes x y p q = same_interface state offset _ _ _ size x y p q
same_inside state offset order Enhanced size bytes x y p q = same_enhanced state offset _ _ size x y p q
same_inside state offset order Simple size bytes x y p q = same_simple state offset _ size x y p q
same_inside state offset order Other size bytes x y p q = same_other state offset (seen.Other size) x y p q

-- a block shows one thing by its length
same_by_size : (state : State) (offset : ℕ) (order : Order) (kind : Kind) (size : ℕ) (bytes : List ℕ) (x y : Seen) →
    SeesSize state offset order kind size bytes x → SeesSize state offset order kind size bytes y → x ≡ y
same_by_size state offset order kind size bytes x y p q =
    where_once
    (λ a b. where_once same
    (λ c d. where_once (λ e f. same_inside state offset order kind size bytes x y e f) same c d) a b) same p q

-- the first byte of a magic
first : List ℕ → ℕ
first bytes = get_or bytes 0 0

-- no byte-order magic is in both orders, since the first byte differs
not_both : (bytes : List ℕ) → IsMagicIn Little bytes → IsMagicIn Big bytes → ⊥
unfolding first
not_both bytes p q =
    let little : first (take 4 (drop 8 bytes)) ≡ 0x4d = ap first p in
    let big : first (take 4 (drop 8 bytes)) ≡ 0x1a = ap first q in
    omega (arith, little, big)

-- so a magic is in one order
same_magic : (order other : Order) (bytes : List ℕ) → IsMagicIn order bytes → IsMagicIn other bytes → order ≡ other
same_magic Little Little bytes p q = refl
same_magic Big Big bytes p q = refl
same_magic Little Big bytes p q = absurd (not_both bytes p q)
same_magic Big Little bytes p q = absurd (not_both bytes q p)

-- a block is read in one order
pub same_order : (state : State) (order other : Order) (bytes : List ℕ) → IsReadIn state order bytes →
    IsReadIn state other bytes → order ≡ other
same_order state order other bytes (inl p) (inl q) = same_magic order other bytes p.1 q.1
same_order state order other bytes (inl p) (inr q) = absurd (q.0 p.0)
same_order state order other bytes (inr p) (inl q) = absurd (p.0 q.0)
same_order state order other bytes (inr p) (inr q) = p.1 ∙ sym q.1

-- a type is of one kind
pub same_kind : (n : ℕ) (kind other : Kind) → HasKind n kind → HasKind n other → kind ≡ other
same_kind n Section Section p q = refl
same_kind n Section Interface p q = absurd (omega (arith, p, q))
same_kind n Section Enhanced p q = absurd (omega (arith, p, q))
same_kind n Section Simple p q = absurd (omega (arith, p, q))
same_kind n Section Other p q = absurd (q.0 p)
same_kind n Interface Section p q = absurd (omega (arith, p, q))
same_kind n Interface Interface p q = refl
same_kind n Interface Enhanced p q = absurd (omega (arith, p, q))
same_kind n Interface Simple p q = absurd (omega (arith, p, q))
same_kind n Interface Other p q = absurd (q.1 p)
same_kind n Enhanced Section p q = absurd (omega (arith, p, q))
same_kind n Enhanced Interface p q = absurd (omega (arith, p, q))
same_kind n Enhanced Enhanced p q = refl
same_kind n Enhanced Simple p q = absurd (omega (arith, p, q))
same_kind n Enhanced Other p q = absurd (q.2 p)
same_kind n Simple Section p q = absurd (omega (arith, p, q))
same_kind n Simple Interface p q = absurd (omega (arith, p, q))
same_kind n Simple Enhanced p q = absurd (omega (arith, p, q))
same_kind n Simple Simple p q = refl
same_kind n Simple Other p q = absurd (q.3 p)
same_kind n Other Section p q = absurd (p.0 q)
same_kind n Other Interface p q = absurd (p.1 q)
same_kind n Other Enhanced p q = absurd (p.2 q)
same_kind n Other Simple p q = absurd (p.3 q)
same_kind n Other Other p q = refl

-- bytes show one thing by their head
same_head : (state : State) (offset : ℕ) (bytes : List ℕ) (x y : Seen) → SeesHead state offset bytes x →
    SeesHead state offset bytes y → x ≡ y
same_head state offset bytes x y p q =
    let order : p.0 ≡ q.0 = same_order state p.0 q.0 bytes p.2 q.2 in
    let type : HasKind (block_type q.0 bytes) p.1 =
    subst (λ (o : Order). HasKind (block_type o bytes) p.1) order p.3 in
    let kind : p.1 ≡ q.1 = same_kind (block_type q.0 bytes) p.1 q.1 type q.3 in
    let here : SeesSize state offset q.0 p.1 (total_length q.0 bytes) bytes x =
    subst (λ (o : Order). SeesSize state offset o p.1 (total_length o bytes) bytes x) order p.4 in
    same_by_size state offset q.0 q.1 (total_length q.0 bytes) bytes x y
    (subst (λ (k : Kind). SeesSize state offset q.0 k (total_length q.0 bytes) bytes x) kind here) q.4

-- bytes show one thing
pub same_sees : (state : State) (offset : ℕ) (bytes : List ℕ) (x y : Seen) → Sees state offset bytes x →
    Sees state offset bytes y → x ≡ y
same_sees state offset bytes x y p q =
    where_once same (λ a b. where_once same (λ c d. same_head state offset bytes x y c d) a b) p q

-- ---- blocks

-- a block whose size is known
pub same_length : (x : Seen) (n m : ℕ) → IsWhole x n → IsWhole x m → n ≡ m
same_length (seen.Packet size at count) n m p q = sym p ∙ q
same_length (seen.Section size order) n m p q = sym p ∙ q
same_length (seen.Interface size interface) n m p q = sym p ∙ q
same_length (seen.Other size) n m p q = sym p ∙ q
same_length seen.Cut n m p q = absurd p
same_length (seen.Fault found) n m p q = absurd p

-- what is last shows no whole block
last_none : (state : State) (offset : ℕ) (bytes : List ℕ) (ending : Result ℕ AnyFault) (x : Seen) (n : ℕ) →
    IsLast state offset bytes ending → Sees state offset bytes x → IsWhole x n → ⊥
last_none state offset bytes (Ok rest) x n last sees whole =
    subst (λ (y : Seen). IsWhole y n) (same_sees state offset bytes x seen.Cut sees last.0) whole
last_none state offset bytes (Err found) x n last sees whole =
    subst (λ (y : Seen). IsWhole y n) (same_sees state offset bytes x (seen.Fault found) sees last) whole

-- which fault is shown
fault_or : Seen → AnyFault → AnyFault
fault_or (seen.Fault found) other = found
fault_or seen.Cut other = other
fault_or (seen.Packet size at count) other = other
fault_or (seen.Section size order) other = other
fault_or (seen.Interface size interface) other = other
fault_or (seen.Other size) other = other

-- whether a block is cut
is_cut : Seen → Type 0
is_cut seen.Cut = Unit {0}
is_cut (seen.Fault found) = ⊥
is_cut (seen.Packet size at count) = ⊥
is_cut (seen.Section size order) = ⊥
is_cut (seen.Interface size interface) = ⊥
is_cut (seen.Other size) = ⊥

-- a remainder has one ending
same_last : (state : State) (offset : ℕ) (bytes : List ℕ) (ending other : Result ℕ AnyFault) →
    IsLast state offset bytes ending → IsLast state offset bytes other → ending ≡ other
unfolding fault_or is_cut
same_last state offset bytes (Ok rest) (Ok other) p q = ap (λ n. Ok n) (p.1 ∙ sym q.1)
same_last state offset bytes (Ok rest) (Err found) p q =
    absurd (subst is_cut (same_sees state offset bytes seen.Cut (seen.Fault found) p.0 q) tt)
same_last state offset bytes (Err found) (Ok other) p q =
    absurd (subst is_cut (same_sees state offset bytes seen.Cut (seen.Fault found) q.0 p) tt)
same_last state offset bytes (Err found) (Err other) p q =
    ap (λ (f : AnyFault). Err f)
    (ap (λ (x : Seen). fault_or x found) (same_sees state offset bytes (seen.Fault found) (seen.Fault other) p q))

-- blocks one behind the other
abbrev pub joined : List (List ℕ) → List ℕ
joined blocks = flat_map (λ block. block) blocks

-- what is last behind one block more, by its place
last_behind : (s : State) (offset : ℕ) (b : List ℕ) (bs : List (List ℕ)) (rest : List ℕ) (ending : Result ℕ AnyFault) →
    IsLast s (offset + length (joined (b ∷ bs))) rest ending →
    IsLast s (offset + length b + length (joined bs)) rest ending
last_behind s offset b bs rest ending last =
    let place : offset + length (joined (b ∷ bs)) ≡ offset + length b + length (joined bs) =
    omega (arith, length-append b (joined bs)) in
    subst (λ (n : ℕ). IsLast s n rest ending) place last

-- where no block is left, what is last is here
last_here : (s : State) (offset : ℕ) (rest : List ℕ) (ending : Result ℕ AnyFault) → IsLast s (offset + 0) rest ending →
    IsLast s offset rest ending
last_here s offset rest ending last =
    let place : offset + 0 ≡ offset = omega arith in
    subst (λ (n : ℕ). IsLast s n rest ending) place last

-- a block and what is last are not at one place
block_or_last : (state s : State) (offset : ℕ) (rest : List ℕ) (ending : Result ℕ AnyFault) (c : List ℕ)
    (cs : List (List ℕ)) (other : List ℕ) (x : Seen) → s ≡ state → IsLast s (offset + 0) rest ending →
    IsBlock state offset c x → rest ≡ joined (c ∷ cs) ++ other → ⊥
block_or_last state s offset rest ending c cs other x at last block is =
    let split : c ++ (joined cs ++ other) ≡ rest = sym (append_assoc c (joined cs) other) ∙ sym is in
    let shown : Sees s offset rest x =
    subst (λ (l : List ℕ). Sees s offset l x) split
    (subst (λ (u : State). Sees u offset (c ++ (joined cs ++ other)) x) (sym at)
    (block_front state offset c (joined cs ++ other) x block)) in
    last_none s offset rest ending x (length c) (last_here s offset rest ending last) shown block.whole

-- two cuttings of one list are one
same_blocks : (state : State) (offset : ℕ) (bs cs : List (List ℕ)) (ps qs : List (List ℕ)) (s t : State)
    (rest other : List ℕ) (e f : Result ℕ AnyFault) → IsLast s (offset + length (joined bs)) rest e →
    IsLast t (offset + length (joined cs)) other f → AreBlocks state offset bs ps s → AreBlocks state offset cs qs t →
    joined bs ++ rest ≡ joined cs ++ other → (ps ≡ qs) × (e ≡ f)
same_blocks state offset [] [] ps qs s t rest other e f last ends p q is =
    let here : IsLast t (offset + 0) other e =
    subst (λ (l : List ℕ). IsLast t (offset + 0) l e) is
    (subst (λ (u : State). IsLast u (offset + 0) rest e) (p.1 ∙ sym q.1) last) in
    (p.0 ∙ sym q.0, same_last t (offset + 0) other e f here ends)
same_blocks state offset [] (c ∷ cs) ps qs s t rest other e f last ends p q is =
    absurd (block_or_last state s offset rest e c cs other q.0 p.1 last q.2 is)
same_blocks state offset (b ∷ bs) [] ps qs s t rest other e f last ends p q is =
    absurd (block_or_last state t offset other f b bs rest p.0 q.1 ends p.2 (sym is))
same_blocks state offset (b ∷ bs) (c ∷ cs) ps qs s t rest other e f last ends p q is =
    let more : List ℕ = joined bs ++ rest in
    let others : List ℕ = joined cs ++ other in
    let split : b ++ more ≡ c ++ others =
    sym (append_assoc b (joined bs) rest) ∙ is ∙ append_assoc c (joined cs) other in
    let one : Sees state offset (c ++ others) p.0 =
    subst (λ (l : List ℕ). Sees state offset l p.0) split (block_front state offset b more p.0 p.2) in
    let x : p.0 ≡ q.0 = same_sees state offset (c ++ others) p.0 q.0 one (block_front state offset c others q.0 q.2) in
    let sizes : length b ≡ length c = same_length q.0 (length b) (length c)
    (subst (λ (y : Seen). IsWhole y (length b)) x p.2.whole) q.2.whole in
    let block : b ≡ c =
    sym (take_at b more (length c) sizes) ∙ ap (take (length c)) split ∙ take_at c others (length c) refl in
    let behind : more ≡ others =
    sym (drop_at b more (length c) sizes) ∙ ap (drop (length c)) split ∙ drop_at c others (length c) refl in
    let moved : AreBlocks (after state q.0) (offset + length c) bs p.1 s =
    subst (λ (n : ℕ). AreBlocks (after state q.0) (offset + n) bs p.1 s) sizes
    (subst (λ (y : Seen). AreBlocks (after state y) (offset + length b) bs p.1 s) x p.3) in
    let first : IsLast s (offset + length c + length (joined bs)) rest e =
    subst (λ (n : ℕ). IsLast s (offset + n + length (joined bs)) rest e) sizes
    (last_behind s offset b bs rest e last) in
    let later = same_blocks (after state q.0) (offset + length c) bs cs p.1 q.1 s t rest other e f first
    (last_behind t offset c cs other f ends) moved q.3 behind in (
      p.4 ∙ ap (λ (l : List (List ℕ)). packets_of p.0 b ++ l) later.0
          ∙ ap (λ (y : Seen). packets_of y b ++ q.1) x ∙ ap (λ (l : List ℕ). packets_of q.0 l ++ q.1) block ∙ sym q.4,
      later.1,
    )

-- ---- inputs

-- a pcapng input has one cutting
same_holds : (state : State) (offset : ℕ) (bytes : List ℕ) (packets others : List (List ℕ))
    (ending other : Result ℕ AnyFault) → HoldsBlocks state offset bytes packets ending →
    HoldsBlocks state offset bytes others other → (packets ≡ others) × (ending ≡ other)
same_holds state offset bytes packets others ending other p q =
    same_blocks state offset p.blocks q.blocks packets others p.last q.last p.rest q.rest ending other p.ends q.ends
    p.each q.each (sym p.parts ∙ q.parts)

-- and so has a savefile
same_savefile : (link : ℕ) (bytes : List ℕ) (packets others : List (List ℕ)) (ending other : Result ℕ AnyFault) →
    HasOneCapture link bytes → HoldsSavefile link bytes packets ending → HoldsSavefile link bytes others other →
    (packets ≡ others) × (ending ≡ other)
same_savefile link bytes packets others ending other one p q =
    let same = one p.records q.records p.kept q.kept p.capture q.capture in (
      p.packets_are ∙ ap packets_in same.0 ∙ sym q.packets_are,
      p.ends ∙ ap any_ending same.1 ∙ sym q.ends,
    )

-- a list of bytes has at most one input
pub same_input : (link : ℕ) (bytes : List ℕ) (packets others : List (List ℕ)) (ending other : Result ℕ AnyFault) →
    HasOneCapture link bytes → Input link bytes packets ending → Input link bytes others other →
    (packets ≡ others) × (ending ≡ other)
same_input link bytes packets others ending other one p q =
    where_once (λ a b. same_holds (opening link) 0 bytes packets others ending other a b)
    (λ a b. same_savefile link bytes packets others ending other one a b) p q
