-- The adds of packets: each is named by its packet, and so an order of packets is one of adds.
use Rattle.std.proofs.Common.{◌≡◌, ◌==◌, ℕ, zero, suc, ◌+◌, ◌-◌, ◌<◌, ◌≤◌, List, [], ◌∷◌, map, length, get_or, inl, inr, sym, ap, subst, ◌∙◌, arith}
use Rattle.std.specs.Prelude.{All, IsPermutation, filter, sum_by}
use Rattle.std.proofs.Math.Nat.{mod-lt}
use Rattle.std.proofs.lemmas.List.{get_or_default}
use Rattle.std.proofs.lemmas.List.Elements.{All-cons, All-head, All-nil, All-tail}
use Rattle.std.proofs.lemmas.List.Sorted.{sum_by-IsPermutation}
use Rattle.packet_heads.specs.declared.framing.Framing.{Framing}
use Rattle.packet_heads.specs.declared.packet.Protocol.{Protocol}
use Rattle.packet_heads.specs.declared.packet.Protocol.TheVariants.{Tcp, Udp}
use Rattle.packet_adders.specs.Classes.{HasClass, class_in}
use Rattle.sim_steps.specs.declared.adds.Add.{Add}
use Rattle.sim_steps.specs.Totals.{IsAdd}
use Rattle.totals_runner.specs.PacketAdds.{MakeAdds, add_of, adds_by, seat_for}
use Rattle.sim_totals.specs.Rule.{no_add}
use Rattle.totals_runner.proofs.Lists.{filter-map, permuted_by_class, sum_by-map, sum_by_same}

-- ---- what packets add

-- a packet's class is one of three
class_small : (protocol : Protocol) → class_in protocol < 3
class_small (Tcp flags payload) = omega arith
class_small (Udp payload) = omega arith

pub has_class_small : (framing : Framing) (packet : List ℕ) (class : ℕ) → HasClass framing packet class → class < 3
has_class_small framing packet class (inl has) = (let few = class_small has.0.protocol in omega (arith, has.2, few))
has_class_small framing packet class (inr none) = omega (arith, none.1)

-- so the adds of packets of no more bytes than are captured are adds
pub make_adds : (framing : Framing) (number : ℕ) (packets : List (List ℕ)) (adds : List Add) →
    All (λ (packet : List ℕ). length packet ≤ 262144) packets → MakeAdds framing number packets adds → All IsAdd adds
make_adds framing number [] adds short make = subst (All IsAdd) (sym make) (All-nil IsAdd)
make_adds framing number (packet ∷ packets) adds short make =
    let short_one : length packet ≤ 262144 = All-head (λ (p : List ℕ). length p ≤ 262144) packet packets short in
    let rest = All-tail (λ (p : List ℕ). length p ≤ 262144) packet packets short in
    let add : Add = make.0 in
    let one : IsAdd add = (
      has_class_small framing packet add.class make.2.class_is,
      omega (arith, make.2.length_is, short_one),
    ) in
    subst (All IsAdd) (sym make.4)
    (All-cons IsAdd add make.1 one (make_adds framing (suc number) packets make.1 rest make.3))

-- there is one for each packet
pub make_length : (framing : Framing) (number : ℕ) (packets : List (List ℕ)) (adds : List Add) →
    MakeAdds framing number packets adds →
    length adds ≡ length packets
make_length framing number [] adds make = ap (λ (xs : List Add). length xs) make
make_length framing number (packet ∷ packets) adds make =
    ap (λ (xs : List Add). length xs) make.4 ∙ ap suc (make_length framing (suc number) packets make.1 make.3)

-- and they are numbered on
pub make_numbers : (framing : Framing) (number : ℕ) (packets : List (List ℕ)) (adds : List Add) →
    MakeAdds framing number packets adds →
    (i : ℕ) (d : Add) → i < length adds → (get_or adds i d).packet ≡ number + i
make_numbers framing number [] adds make i d less =
    absurd (let none : length adds ≡ 0 = ap (λ (xs : List Add). length xs) make in omega (arith, none, less))
make_numbers framing number (packet ∷ packets) adds make zero d less =
    ap (λ (xs : List Add). (get_or xs 0 d).packet) make.4 ∙ make.2.packet_is ∙ omega arith
make_numbers framing number (packet ∷ packets) adds make (suc i) d less =
    let all : length adds ≡ suc (length make.1) = ap (λ (xs : List Add). length xs) make.4 in
    ap (λ (xs : List Add). (get_or xs (suc i) d).packet) make.4
    ∙ make_numbers framing (suc number) packets make.1 make.3 i d (omega (arith, all, less)) ∙ omega arith

-- the add of a packet's number is that packet's
abbrev pub IsNamed : List Add → Add → Type 0
IsNamed all x = add_of all x.packet ≡ x

pub named : (framing : Framing) (packets : List (List ℕ)) (all : List Add) → MakeAdds framing 1 packets all →
    All (IsNamed all) all
named framing packets all make i d less =
    let packet_is : (get_or all i d).packet ≡ 1 + i = make_numbers framing 1 packets all make i d less in
    let place : (get_or all i d).packet - 1 ≡ i = omega (arith, packet_is) in
    ap (λ (k : ℕ). get_or all k no_add) place ∙ same i less
  where
    same : (k : ℕ) → k < length all → get_or all k no_add ≡ get_or all k d
    same k inside = get_or_default all k no_add d inside

-- ---- an order of packets

-- the seat of a packet is one
pub seat_below : (seats packet : ℕ) → 0 < seats → seat_for seats packet < seats
seat_below seats packet some = mod-lt (packet - 1) some

-- an order of the packets of some adds, in which each seat's stand in their own order
abbrev pub AreTurns : (seats : ℕ) → List Add → List ℕ → Type 0
AreTurns seats adds order =
    (seat : ℕ) → seat < seats →
    filter (λ (packet : ℕ). seat_for seats packet == seat) order ≡ map (λ (add : Add). add.packet)
    (adds_by seats seat adds)

-- it has each packet once
pub turns_once : (seats : ℕ) (adds : List Add) (order : List ℕ) → 0 < seats → AreTurns seats adds order →
    IsPermutation order (map (λ (add : Add). add.packet) adds)
turns_once seats adds order some turns =
    permuted_by_class (seat_for seats) seats order (map (λ (add : Add). add.packet) adds)
    (λ k d less. seat_below seats (get_or order k d) some)
    (λ k d less. seat_below seats (get_or (map (λ (add : Add). add.packet) adds) k d) some)
    (λ seat less. turns seat less
    ∙ sym (filter-map (λ (packet : ℕ). seat_for seats packet == seat) (λ (add : Add). add.packet) adds))

-- so a sum over its adds is one over the adds
pub sum_in_turns : (seats : ℕ) (all adds : List Add) (order : List ℕ) → 0 < seats → AreTurns seats adds order →
    All (IsNamed all) adds → (f : Add → ℕ) → sum_by f (map (add_of all) order) ≡ sum_by f adds
sum_in_turns seats all adds order some turns names f =
    let g : ℕ → ℕ = λ packet. f (add_of all packet) in
    sum_by-map f (add_of all) order
    ∙ sym (sum_by-IsPermutation g order (map (λ (add : Add). add.packet) adds) (turns_once seats adds order some turns))
    ∙ sum_by-map g (λ (add : Add). add.packet) adds
    ∙ sum_by_same (λ (x : Add). f (add_of all x.packet)) f adds (λ k d less. ap f (names k d less))
