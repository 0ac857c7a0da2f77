-- Blocks without a packet that are passed, and what is set behind them.
use Rattle.std.proofs.Common.{◌≡◌, ◌≤◌, ◌<◌, ℕ, ◌+◌, ◌-◌, List, [], ◌∷◌, ◌++◌, length, take, drop, Option, refl, sym, ap, ◌∙◌, subst, inl, inr, arith, append_assoc, append-nil, length-append, length-take-le, take-append-drop}
use Rattle.std.proofs.KnownBytes.{Consumes-trans}
use Rattle.std.proofs.lemmas.Grind.{flat_map-append}
use Rattle.std.proofs.Math.Seq.{drop-append-add}
use Rattle.pcap_reader.specs.declared.order.Order.{Order}
use Rattle.pcap_reader.specs.Reading.{Took}
use Rattle.pcapng_reader.specs.declared.block.Kind.{Kind}
use Rattle.pcapng_reader.specs.declared.block.Kind.TheVariants.{Section, Interface, Enhanced, Simple, Other}
use Rattle.pcapng_reader.specs.declared.block.Seen.{Seen}
use Rattle.pcapng_reader.specs.declared.block.Seen.TheVariants as seen
use Rattle.pcapng_reader.specs.Section.{State}
use Rattle.pcapng_reader.specs.Blocks.{AreBlocks, IsBlock, IsWhole, Sees, SeesKind, after, most_interfaces, most_others, packets_of}
use Rattle.pcapng_reader.specs.Waiting.{Awaits, AwaitsNone, AwaitsTo, HasRoom, IsLastSeen, IsPassed, LiesIn, Passes, PassesNone, PassesTo}
use Rattle.pcapng_reader.specs.Reading.{HoldsPacket, OfBlocks}
use Rattle.pcapng_reader.proofs.BlockFacts.{at_least, sees_there, whole_parts}
use Rattle.pcapng_reader.proofs.EveryInput.{first_block}
use Rattle.pcapng_reader.proofs.LookFacts.{not_cut}
use Rattle.pcapng_reader.proofs.OneInput.{joined, same_sees}
use Rattle.pcapng_reader.proofs.WaitFacts.{joined_taken, takes_more}

-- ---- blocks behind blocks

-- blocks, and others where they have set what they have
pub AreBlocks-append : (state : State) (offset : ℕ) (blocks packets : List (List ℕ)) (middle : State)
    (more others : List (List ℕ)) (last : State) → AreBlocks state offset blocks packets middle →
    AreBlocks middle (offset + length (joined blocks)) more others last →
    AreBlocks state offset (blocks ++ more) (packets ++ others) last
AreBlocks-append state offset [] packets middle more others last p q =
    let place : offset + 0 ≡ offset = omega arith in
    let here : AreBlocks state offset more others last =
    subst (λ (n : ℕ). AreBlocks state n more others last) place
    (subst (λ (s : State). AreBlocks s (offset + 0) more others last) p.1 q) in
    subst (λ (l : List (List ℕ)). AreBlocks state offset more (l ++ others) last) (sym p.0) here
AreBlocks-append state offset (block ∷ blocks) packets middle more others last p q =
    let place : offset + length (joined (block ∷ blocks)) ≡ offset + length block + length (joined blocks) =
    omega (arith, length-append block (joined blocks)) in
    let behind : AreBlocks middle (offset + length block + length (joined blocks)) more others last =
    subst (λ (n : ℕ). AreBlocks middle n more others last) place q in
    let rest = AreBlocks-append (after state p.0) (offset + length block) blocks p.1 middle more others last p.3
    behind in (
      p.0,
      p.1 ++ others,
      p.2,
      rest,
      ap (λ (l : List (List ℕ)). l ++ others) p.4 ∙ append_assoc (packets_of p.0 block) p.1 others,
    )

-- one right block
pub AreBlocks-one : (state : State) (offset : ℕ) (block : List ℕ) (x : Seen) → IsBlock state offset block x →
    AreBlocks state offset (block ∷ []) (packets_of x block) (after state x)
AreBlocks-one state offset block x is = (x, [], is, (refl, refl), sym (append-nil (packets_of x block)))

-- their bytes are those of the first and then of the others
pub joined-append : (blocks more : List (List ℕ)) → joined (blocks ++ more) ≡ joined blocks ++ joined more
joined-append blocks more = flat_map-append (λ (block : List ℕ). block) blocks more

-- ---- a block that is passed

-- it is whole
passed_whole : (x : Seen) (n : ℕ) → IsPassed x n → IsWhole x n
passed_whole (seen.Section size order) n is = is
passed_whole (seen.Interface size interface) n is = is
passed_whole (seen.Other size) n is = is
passed_whole (seen.Packet size at count) n is = absurd is
passed_whole seen.Cut n is = absurd is
passed_whole (seen.Fault found) n is = absurd is

-- it gives none
passed_none : (x : Seen) (n : ℕ) (block : List ℕ) → IsPassed x n → packets_of x block ≡ []
passed_none (seen.Section size order) n block is = refl
passed_none (seen.Interface size interface) n block is = refl
passed_none (seen.Other size) n block is = refl
passed_none (seen.Packet size at count) n block is = absurd is
passed_none seen.Cut n block is = absurd is
passed_none (seen.Fault found) n block is = absurd is

-- what is held of it and what was dropped lie in it
passed_lies : (x : Seen) (n front dropped : ℕ) → IsPassed x n → LiesIn x front dropped → front + dropped ≤ n
passed_lies (seen.Section size order) n front dropped is lies = omega (arith, is, lies)
passed_lies (seen.Interface size interface) n front dropped is lies = omega (arith, is, lies)
passed_lies (seen.Other size) n front dropped is lies = omega (arith, is, lies)
passed_lies (seen.Packet size at count) n front dropped is lies = absurd is
passed_lies seen.Cut n front dropped is lies = absurd is
passed_lies (seen.Fault found) n front dropped is lies = absurd is

-- another is none of that kind
other_passed : {G : Type 0} (x y : Seen) (n : ℕ) → x ≡ y → IsPassed x n → (IsPassed y n → ⊥) → G
other_passed x y n is passed not = absurd (not (subst (λ (z : Seen). IsPassed z n) is passed))

-- it is not one too many
below_others : (k : ℕ) → (most_others ≤ k → ⊥) → k < most_others
below_others k not =
    let above : k + 1 ≤ most_others = at_least (k + 1) most_others (λ few. not (omega (arith, few))) in
    omega (arith, above)

-- a block that is passed was not one too many
kind_others : (state : State) (offset : ℕ) (order : Order) (kind : Kind) (size : ℕ) (bytes : List ℕ) (x : Seen)
    (n : ℕ) → IsPassed x n → SeesKind state offset order kind size bytes x → state.others < most_others
kind_others state offset order Section size bytes x n passed (inr p) = other_passed x _ n p.1 passed (λ no_one. no_one)
kind_others state offset order Section size bytes x n passed (inl (v, inl p)) =
    other_passed x _ n p.1 passed (λ no_one. no_one)
kind_others state offset order Section size bytes x n passed (inl (v, inr p)) = below_others state.others p.0
kind_others state offset order Interface size bytes x n passed (inl p) =
    other_passed x _ n p.1 passed (λ no_one. no_one)
kind_others state offset order Interface size bytes x n passed (inr (v, inl p)) =
    other_passed x _ n p.1 passed (λ no_one. no_one)
kind_others state offset order Interface size bytes x n passed (inr (v, inr p)) = below_others state.others p.0
kind_others state offset order Enhanced size bytes x n passed (inl p) =
    other_passed x _ n p.1 passed (λ no_one. no_one)
kind_others state offset order Enhanced size bytes x n passed (inr (v, inl p)) =
    other_passed x _ n p.1 passed (λ no_one. no_one)
kind_others state offset order Enhanced size bytes x n passed (inr (v, inr p)) =
    other_passed x _ n p.1 passed (λ no_one. no_one)
kind_others state offset order Simple size bytes x n passed (inl p) =
    other_passed x _ n p.1 passed (λ no_one. no_one)
kind_others state offset order Simple size bytes x n passed (inr (v, inl p)) =
    other_passed x _ n p.1 passed (λ no_one. no_one)
kind_others state offset order Simple size bytes x n passed (inr (v, inr p)) =
    other_passed x _ n p.1 passed (λ no_one. no_one)
kind_others state offset order Other size bytes x n passed (inl p) = other_passed x _ n p.1 passed (λ no_one. no_one)
kind_others state offset order Other size bytes x n passed (inr p) = below_others state.others p.0

-- so it is by what was seen
pub passed_others : (state : State) (offset : ℕ) (bytes : List ℕ) (x : Seen) (n : ℕ) → IsPassed x n →
    Sees state offset bytes x → state.others < most_others
passed_others state offset bytes x n passed shows =
    let parts = whole_parts state offset bytes x n (passed_whole x n passed) shows in
    kind_others state offset parts.order parts.kind n bytes x n passed parts.inside

-- and no interface too many
abbrev IsInterface : Seen → Type 0
IsInterface (seen.Interface size interface) = Unit {0}
IsInterface (seen.Section size order) = ⊥
IsInterface (seen.Other size) = ⊥
IsInterface (seen.Packet size at count) = ⊥
IsInterface seen.Cut = ⊥
IsInterface (seen.Fault found) = ⊥

-- another block is no interface
other_interface : {G : Type 0} (x y : Seen) → x ≡ y → IsInterface x → (IsInterface y → ⊥) → G
other_interface x y is interface not = absurd (not (subst IsInterface is interface))

-- an interface was not one too many
kind_interfaces : (state : State) (offset : ℕ) (order : Order) (kind : Kind) (size : ℕ) (bytes : List ℕ) (x : Seen) →
    IsInterface x → SeesKind state offset order kind size bytes x → length state.interfaces < most_interfaces
kind_interfaces state offset order Section size bytes x is (inr p) = other_interface x _ p.1 is (λ no_one. no_one)
kind_interfaces state offset order Section size bytes x is (inl (v, inl p)) =
    other_interface x _ p.1 is (λ no_one. no_one)
kind_interfaces state offset order Section size bytes x is (inl (v, inr p)) =
    other_interface x _ p.1 is (λ no_one. no_one)
kind_interfaces state offset order Interface size bytes x is (inl p) = other_interface x _ p.1 is (λ no_one. no_one)
kind_interfaces state offset order Interface size bytes x is (inr (v, more)) =
    let above : length state.interfaces + 1 ≤ most_interfaces =
    at_least (length state.interfaces + 1) most_interfaces (λ few. v (omega (arith, few))) in
    omega (arith, above)
kind_interfaces state offset order Enhanced size bytes x is (inl p) = other_interface x _ p.1 is (λ no_one. no_one)
kind_interfaces state offset order Enhanced size bytes x is (inr (v, inl p)) =
    other_interface x _ p.1 is (λ no_one. no_one)
kind_interfaces state offset order Enhanced size bytes x is (inr (v, inr p)) =
    other_interface x _ p.1 is (λ no_one. no_one)
kind_interfaces state offset order Simple size bytes x is (inl p) = other_interface x _ p.1 is (λ no_one. no_one)
kind_interfaces state offset order Simple size bytes x is (inr (v, inl p)) =
    other_interface x _ p.1 is (λ no_one. no_one)
kind_interfaces state offset order Simple size bytes x is (inr (v, inr p)) =
    other_interface x _ p.1 is (λ no_one. no_one)
kind_interfaces state offset order Other size bytes x is (inl p) = other_interface x _ p.1 is (λ no_one. no_one)
kind_interfaces state offset order Other size bytes x is (inr p) = other_interface x _ p.1 is (λ no_one. no_one)

-- so it is by what was seen
passed_interfaces : (state : State) (offset : ℕ) (bytes : List ℕ) (x : Seen) (n : ℕ) → IsPassed x n →
    IsInterface x → Sees state offset bytes x → length state.interfaces < most_interfaces
passed_interfaces state offset bytes x n passed is shows =
    let parts = whole_parts state offset bytes x n (passed_whole x n passed) shows in
    kind_interfaces state offset parts.order parts.kind n bytes x is parts.inside

-- so what it sets has room
pub room_for : (state : State) (offset : ℕ) (bytes : List ℕ) (x : Seen) → Sees state offset bytes x → HasRoom state x
room_for state offset bytes (seen.Section size order) shows =
    passed_others state offset bytes (seen.Section size order) size refl shows
room_for state offset bytes (seen.Interface size interface) shows = (
  passed_others state offset bytes (seen.Interface size interface) size refl shows,
  passed_interfaces state offset bytes (seen.Interface size interface) size refl tt shows,
)
room_for state offset bytes (seen.Other size) shows = passed_others state offset bytes (seen.Other size) size refl shows
room_for state offset bytes (seen.Packet size at count) shows = tt
room_for state offset bytes seen.Cut shows = tt
room_for state offset bytes (seen.Fault found) shows = tt

-- it counts
pub others_after : (state : State) (x : Seen) (n : ℕ) → IsPassed x n → (after state x).others ≡ state.others + 1
others_after state (seen.Section size order) n is = refl
others_after state (seen.Interface size interface) n is = refl
others_after state (seen.Other size) n is = refl
others_after state (seen.Packet size at count) n is = absurd is
others_after state seen.Cut n is = absurd is
others_after state (seen.Fault found) n is = absurd is

-- and a last one sets nothing
pub last_after : (state : State) (x : Seen) → IsLastSeen x → after state x ≡ state
last_after state (seen.Section size order) is = absurd is
last_after state (seen.Interface size interface) is = absurd is
last_after state (seen.Other size) is = absurd is
last_after state (seen.Packet size at count) is = refl
last_after state seen.Cut is = refl
last_after state (seen.Fault found) is = refl

-- ---- what is held behind it

-- where a block that is passed lies: what is held of it is there, and its size is within the limit
pub record PassedLies (held : List ℕ) (size dropped : ℕ) : Type 0 where
  pub less : dropped ≤ size
  pub there : size - dropped ≤ length held
  pub limit : size ≤ 16777216

-- bytes with some dropped are as many as those that are left and those
pub all_length : (front gone behind : List ℕ) →
    length (front ++ (gone ++ behind)) ≡ length (front ++ behind) + length gone
all_length front gone behind =
    omega (arith, length-append front (gone ++ behind), length-append gone behind, length-append front behind)

-- a block that is passed lies so
pub lies_passed : (state : State) (offset : ℕ) (old held taken : List ℕ) (x : Seen) (size dropped : ℕ) →
    IsPassed x size → Awaits state offset old held x dropped taken → PassedLies held size dropped
lies_passed state offset old held taken x size dropped passed h =
    let parts = whole_parts state offset _ x size (passed_whole x size passed) h.shows in
    let inside = passed_lies x size (length h.front) dropped passed h.lies in
    record {
      less = omega (arith, inside);
      there = omega (arith, parts.there, all_length h.front h.gone h.behind, h.size, ap length h.held);
      limit = parts.right.1;
    }

-- behind it stands what is held behind the part of it that is held
drop_past : (xs ys : List ℕ) (n k : ℕ) → length xs + k ≡ n → drop n (xs ++ ys) ≡ drop k ys
drop_past xs ys n k is = ap (λ (m : ℕ). drop m (xs ++ ys)) (sym is) ∙ drop-append-add xs ys k

-- what stands behind a block stands behind the part of it that is held
pub held_behind : (front gone behind : List ℕ) (size dropped : ℕ) → length gone ≡ dropped →
    length front + dropped ≤ size →
    drop size (front ++ (gone ++ behind)) ≡ drop (size - dropped) (front ++ behind)
held_behind front gone behind size dropped long within =
    let k : ℕ = size - dropped - length front in
    ap (drop size) (sym (append_assoc front gone behind))
    ∙ drop_past (front ++ gone) behind size k (omega (arith, length-append front gone, long))
    ∙ sym (drop_past front behind (size - dropped) k (omega arith))

-- ---- blocks that were passed

-- Blocks without a packet were passed, of what was held and taken, and what is behind them is held.
pub record PassesHeld (state : State) (offset : ℕ) (old : List ℕ) (last : State) (held : List ℕ) (place : ℕ)
    (taken : List ℕ) : Type 0 where
  pub blocks : List (List ℕ)
  pub each : AreBlocks state offset blocks [] last
  pub place_is : place ≡ offset + length (joined blocks)
  pub all : old ++ taken ≡ joined blocks ++ held

-- one more
pub passes_more : (state : State) (offset : ℕ) (old : List ℕ) (middle : State) (held new : List ℕ) (place : ℕ)
    (x : Seen) (size dropped : ℕ) (first more : List ℕ) → IsPassed x size →
    PassesHeld state offset old middle held place first → Awaits middle place held new x dropped more →
    PassesHeld state offset old (after middle x) (drop (size - dropped) new) (place + size) (first ++ more)
passes_more state offset old middle held new place x size dropped first more passed p h =
    let whole : List ℕ = h.front ++ (h.gone ++ h.behind) in
    let parts = whole_parts middle place whole x size (passed_whole x size passed) h.shows in
    let block : List ℕ = take size whole in
    let long : length block ≡ size = length-take-le size whole parts.there in let is : IsBlock middle place block x =
    first_block middle place whole x size (passed_whole x size passed) h.shows in
    let one : AreBlocks middle place (block ∷ []) [] (after middle x) =
    subst (λ (l : List (List ℕ)). AreBlocks middle place (block ∷ []) l (after middle x))
    (passed_none x size block passed) (AreBlocks-one middle place block x is) in
    let rest : drop size whole ≡ drop (size - dropped) new =
    held_behind h.front h.gone h.behind size dropped h.size (passed_lies x size (length h.front) dropped passed h.lies)
    ∙ ap (drop (size - dropped)) (sym h.held) in
    let split : held ++ more ≡ block ++ drop (size - dropped) new =
    h.all ∙ sym (take-append-drop size whole) ∙ ap (λ (l : List ℕ). block ++ l) rest in
    let further : joined (p.blocks ++ block ∷ []) ≡ joined p.blocks ++ block =
    joined-append p.blocks (block ∷ []) ∙ ap (λ (l : List ℕ). joined p.blocks ++ l) (append-nil block) in
    record {
      blocks = p.blocks ++ block ∷ [];
      each = AreBlocks-append state offset p.blocks [] middle (block ∷ []) [] (after middle x) p.each
          (subst (λ (n : ℕ). AreBlocks middle n (block ∷ []) [] (after middle x)) p.place_is one);
      place_is = omega (arith, p.place_is, ap length further, length-append (joined p.blocks) block, long);
      all = joined_taken old (joined p.blocks ++ held) first more _ p.all
          (append_assoc (joined p.blocks) held more ∙ ap (λ (l : List ℕ). joined p.blocks ++ l) split
          ∙ sym (append_assoc (joined p.blocks) block (drop (size - dropped) new))
          ∙ ap (λ (l : List ℕ). l ++ drop (size - dropped) new) (sym further));
    }

-- by what was taken of the source
pub took_more : (state : State) (offset : ℕ) (old : List ℕ) (middle : State) (held new : List ℕ) (place : ℕ)
    (x : Seen) (size dropped : ℕ) (before between after_it : Option (List ℕ)) → IsPassed x size →
    Took before between (PassesHeld state offset old middle held place) →
    Took between after_it (AwaitsTo middle place held new x dropped between) →
    Took before after_it (PassesHeld state offset old (after middle x) (drop (size - dropped) new) (place + size))
took_more state offset old middle held new place x size dropped before between after_it passed p h = (
  p.0 ++ h.0,
  Consumes-trans before between after_it p.0 h.0 p.1 h.1,
  passes_more state offset old middle held new place x size dropped p.0 h.0 passed p.2 h.2.0,
)

-- ---- the wait behind them

-- blocks that were passed, and what is awaited behind them
passes_to : (state : State) (offset : ℕ) (old : List ℕ) (last : State) (held new : List ℕ) (place : ℕ) (x : Seen)
    (dropped : ℕ) (first more : List ℕ) → PassesHeld state offset old last held place first →
    Awaits last place held new x dropped more → Passes state offset old last new place x dropped (first ++ more)
passes_to state offset old last held new place x dropped first more p h =
    record {
      blocks = p.blocks;
      each = p.each;
      place_is = p.place_is;
      middle = held;
      more = more;
      all = joined_taken old (joined p.blocks ++ held) first more _ p.all (append_assoc (joined p.blocks) held more);
      awaits = h;
    }

-- by what was taken of the source
pub took_to : (state : State) (offset : ℕ) (old : List ℕ) (last : State) (held new : List ℕ) (place : ℕ) (x : Seen)
    (dropped : ℕ) (before between after_it : Option (List ℕ)) →
    Took before between (PassesHeld state offset old last held place) →
    Took between after_it (AwaitsTo last place held new x dropped between) →
    Took before after_it (PassesTo state offset old last new place x dropped before)
took_to state offset old last held new place x dropped before between after_it p h = (
  p.0 ++ h.0,
  Consumes-trans before between after_it p.0 h.0 p.1 h.1,
  (
    passes_to state offset old last held new place x dropped p.0 h.0 p.2 h.2.0,
    takes_more x before between p.0 h.0 p.1 h.2.1,
  ),
)

-- and where the source failed
pub took_none : (state : State) (offset : ℕ) (old : List ℕ) (last : State) (held new : List ℕ) (place : ℕ)
    (before between after_it : Option (List ℕ)) → Took before between (PassesHeld state offset old last held place) →
    Took between after_it (AwaitsNone last place held new) →
    Took before after_it (PassesNone state offset old last new)
took_none state offset old last held new place before between after_it p h = (
  p.0 ++ h.0,
  Consumes-trans before between after_it p.0 h.0 p.1 h.1,
  (place, h.2.0, passes_to state offset old last held new place seen.Cut h.2.0 p.0 h.0 p.2 h.2.1),
)

-- ---- a packet that is held whole

-- at an equal place the same packet is held
pub holds_still : (state first : State) (place offset : ℕ) (held old : List ℕ) → held ≡ old → state ≡ first →
    place ≡ offset → HoldsPacket (OfBlocks first) offset old → HoldsPacket (OfBlocks state) place held
holds_still state first place offset held old p q r h =
    subst (λ (l : List ℕ). HoldsPacket (OfBlocks state) place l) (sym p)
    (subst (λ (s : State). HoldsPacket (OfBlocks s) place old) (sym q)
    (subst (λ (n : ℕ). HoldsPacket (OfBlocks first) n old) (sym r) h))

-- it is no cut block
pub holds_whole : (state : State) (place : ℕ) (held : List ℕ) → HoldsPacket (OfBlocks state) place held →
    Sees state place held seen.Cut → ⊥
holds_whole state place held h cut =
    not_cut (seen.Packet h.0 h.1 h.2) tt (same_sees state place held seen.Cut (seen.Packet h.0 h.1 h.2) cut h.3)

-- and it is not passed
pub holds_last : (state : State) (place : ℕ) (held new taken : List ℕ) (x : Seen) (size dropped : ℕ) →
    HoldsPacket (OfBlocks state) place held → Awaits state place held new x dropped taken → IsPassed x size → ⊥
holds_last state place held new taken x size dropped h a passed =
    let packet : Seen = seen.Packet h.0 h.1 h.2 in
    let there : Sees state place (held ++ taken) packet = sees_there state place held taken packet tt h.3 in
    let same : x ≡ packet = same_sees state place (held ++ taken) x packet
    (subst (λ (l : List ℕ). Sees state place l x) (sym a.all) a.shows) there in
    subst (λ (y : Seen). IsPassed y size) same passed
