-- What the bytes of a front show, all of the bytes show; and what they show of a whole block, the block alone shows.
use Rattle.std.proofs.Common.{◌≡◌, ◌≤◌, ◌<◌, ℕ, ◌-◌, List, ◌++◌, length, max, take, drop, sym, ap, ◌∙◌, subst, inl, inr, arith, length-append, length-drop}
use Rattle.std.proofs.lemmas.Bool.{cases_lt}
use Rattle.std.proofs.lemmas.List.{drop-append-le, take-append-le}
use Rattle.pcap_reader.specs.declared.order.Order.{Order}
use Rattle.pcap_reader.specs.Capture.{number}
use Rattle.pcap_reader.proofs.CaptureFacts.{number_front, number_at_front}
use Rattle.pcapng_reader.specs.declared.block.Kind.{Kind}
use Rattle.pcapng_reader.specs.declared.block.Kind.TheVariants.{Section, Interface, Enhanced, Simple, Other}
use Rattle.pcapng_reader.specs.declared.block.Seen.{Seen}
use Rattle.pcapng_reader.specs.declared.block.Seen.TheVariants as seen
use Rattle.capture_faults.specs.declared.any_fault.AnyFault.TheVariants as fault
use Rattle.pcapng_reader.specs.Section.{State}
use Rattle.pcapng_reader.specs.Blocks.{HasKind, HasNoOrder, IsBlock, IsBlockLength, IsMagicIn, IsReadIn, IsSection, IsShort, IsWhole, Sees, SeesEnhanced, SeesHead, SeesInterface, SeesKind, SeesSection, SeesSimple, SeesSize, block_type, least_length, second_length, total_length}
use Rattle.pcapng_reader.specs.declared.clock.Clock.{Clock}
use Rattle.pcapng_reader.specs.Clocks.{clock_of, looked_size}
use Rattle.pcapng_reader.proofs.ClockFacts.{clock_front}
use Rattle.pcapng_reader.proofs.Decisions.{where_map}

-- ---- numbers and magics of a front

-- the first four bytes are those of the front
type_front : (xs ys : List ℕ) → 4 ≤ length xs → take 4 (xs ++ ys) ≡ take 4 xs
type_front xs ys long = take-append-le 4 xs ys long

-- a section of the front is one of all
section_there : (xs ys : List ℕ) → 4 ≤ length xs → IsSection xs → IsSection (xs ++ ys)
section_there xs ys long is = type_front xs ys long ∙ is

-- and the other way round
section_back : (xs ys : List ℕ) → 4 ≤ length xs → IsSection (xs ++ ys) → IsSection xs
section_back xs ys long is = sym (type_front xs ys long) ∙ is

-- and so are the four at 8
magic_front : (xs ys : List ℕ) → 12 ≤ length xs → take 4 (drop 8 (xs ++ ys)) ≡ take 4 (drop 8 xs)
magic_front xs ys long =
    let inside : 4 ≤ length (drop 8 xs) = omega (arith, length-drop 8 xs) in
    ap (take 4) (drop-append-le 8 xs ys (omega arith)) ∙ take-append-le 4 (drop 8 xs) ys inside

-- a byte-order magic of the front is one of all
magic_there : (order : Order) (xs ys : List ℕ) → 12 ≤ length xs → IsMagicIn order xs → IsMagicIn order (xs ++ ys)
magic_there order xs ys long is = magic_front xs ys long ∙ is

-- and the other way round
magic_back : (order : Order) (xs ys : List ℕ) → 12 ≤ length xs → IsMagicIn order (xs ++ ys) → IsMagicIn order xs
magic_back order xs ys long is = sym (magic_front xs ys long) ∙ is

-- ---- the head

-- a front whose head is there
pub record HasHead (xs : List ℕ) : Type 0 where
  pub long : 8 ≤ length xs
  pub section : IsSection xs → 12 ≤ length xs

-- a number that is not below another is at least that
pub at_least : (n m : ℕ) → (m < n → ⊥) → n ≤ m
at_least n m not = elim (cases_lt m n) [ inl few ↦ absurd (not few) | inr enough ↦ enough ]

-- bytes that are not too few have a head
head_of : (xs : List ℕ) → (IsShort xs → ⊥) → HasHead xs
head_of xs not = record {
  long = at_least 8 (length xs) (λ few. not (inl few));
  section = λ is. at_least 12 (length xs) (λ few. not (inr (is, few)));
}

-- and have it where more bytes follow
not_short : (xs ys : List ℕ) → HasHead xs → IsShort (xs ++ ys) → ⊥
not_short xs ys head (inl few) = omega (arith, few, head.long, length-append xs ys)
not_short xs ys head (inr p) =
    omega (arith, p.1, head.section (section_back xs ys (omega (arith, head.long)) p.0), length-append xs ys)

-- a section without an order has none where more bytes follow
no_order_there : (xs ys : List ℕ) → HasHead xs → HasNoOrder xs → HasNoOrder (xs ++ ys)
no_order_there xs ys head p = (
  section_there xs ys (omega (arith, head.long)) p.0,
  λ order is. p.1 order (magic_back order xs ys (head.section p.0) is),
)

-- and the other way round
no_order_back : (xs ys : List ℕ) → HasHead xs → HasNoOrder (xs ++ ys) → HasNoOrder xs
no_order_back xs ys head p =
    let is = section_back xs ys (omega (arith, head.long)) p.0 in
    (is, λ order magic. p.1 order (magic_there order xs ys (head.section is) magic))

-- a block is read in the same order where more bytes follow
pub read_there : (state : State) (order : Order) (xs ys : List ℕ) → HasHead xs → IsReadIn state order xs →
    IsReadIn state order (xs ++ ys)
read_there state order xs ys head (inl p) =
    inl (section_there xs ys (omega (arith, head.long)) p.0, magic_there order xs ys (head.section p.0) p.1)
read_there state order xs ys head (inr p) =
    inr ((λ is. p.0 (section_back xs ys (omega (arith, head.long)) is)), p.1)

-- and the other way round
read_back : (state : State) (order : Order) (xs ys : List ℕ) → HasHead xs → IsReadIn state order (xs ++ ys) →
    IsReadIn state order xs
read_back state order xs ys head (inl p) =
    let is = section_back xs ys (omega (arith, head.long)) p.0 in
    inl (is, magic_back order xs ys (head.section is) p.1)
read_back state order xs ys head (inr p) =
    inr ((λ is. p.0 (section_there xs ys (omega (arith, head.long)) is)), p.1)

-- the type lies in the head
pub block_type_front : (order : Order) (xs ys : List ℕ) → 8 ≤ length xs →
    block_type order (xs ++ ys) ≡ block_type order xs
block_type_front order xs ys long = number_front order 4 xs ys (omega arith)

-- and so does the length
pub total_front : (order : Order) (xs ys : List ℕ) → 8 ≤ length xs →
    total_length order (xs ++ ys) ≡ total_length order xs
total_front order xs ys long = number_at_front order 4 4 xs ys (omega arith)

-- ---- a whole block

-- the second length lies in the block
second_front : (order : Order) (size : ℕ) (xs ys : List ℕ) → 4 ≤ size → size ≤ length xs →
    second_length order size (xs ++ ys) ≡ second_length order size xs
second_front order size xs ys least whole = number_at_front order (size - 4) 4 xs ys (omega arith)

-- a predicate of two numbers that are others
two : (P : ℕ → ℕ → Type 0) (a b c d : ℕ) → a ≡ c → b ≡ d → P a b → P c d
two P a b c d p q h = subst (λ n. P n d) p (subst (P a) q h)

-- so many first bytes of a block of that size are looked at, besides its packet
abbrev pub looked_at : Kind → (size : ℕ) → ℕ
looked_at Section size = 16
looked_at Interface size = max 16 (looked_size size)
looked_at Enhanced size = 24
looked_at Simple size = 12
looked_at Other size = 0

-- every kind has those bytes
looked_least : (kind : Kind) (size : ℕ) → least_length kind ≤ size → looked_at kind size ≤ size
looked_least Section size least = omega (arith, least)
looked_least Interface size least = omega (arith, least)
looked_least Enhanced size least = omega (arith, least)
looked_least Simple size least = omega (arith, least)
looked_least Other size least = omega (arith, least)

-- what a block of that kind shows by its first bytes
pub inside_there : (state : State) (offset : ℕ) (order : Order) (kind : Kind) (size : ℕ) (xs ys : List ℕ) (x : Seen) →
    looked_at kind size ≤ length xs → SeesKind state offset order kind size xs x →
    SeesKind state offset order kind size (xs ++ ys) x
inside_there state offset order Section size xs ys x long h =
    two (λ a b. SeesSection state offset order a b size x) _ _ _ _
    (sym (number_at_front order 12 2 xs ys (omega arith))) (sym (number_at_front order 14 2 xs ys (omega arith))) h
inside_there state offset order Interface size xs ys x long h =
    subst (λ (k : Clock). SeesInterface state offset (number order 2 (drop 8 (xs ++ ys)))
    (number order 4 (drop 12 (xs ++ ys))) k size x)
    (sym (clock_front order size xs ys (omega (arith, long))))
    (two (λ a b. SeesInterface state offset a b (clock_of order size xs) size x) _ _ _ _
    (sym (number_at_front order 8 2 xs ys (omega (arith, long))))
    (sym (number_at_front order 12 4 xs ys (omega (arith, long)))) h)
inside_there state offset order Enhanced size xs ys x long h =
    two (λ a b. SeesEnhanced state offset a b size x) _ _ _ _
    (sym (number_at_front order 8 4 xs ys (omega arith))) (sym (number_at_front order 20 4 xs ys (omega arith))) h
inside_there state offset order Simple size xs ys x long h =
    subst (λ a. SeesSimple state offset a size x) (sym (number_at_front order 8 4 xs ys (omega arith))) h
inside_there state offset order Other size xs ys x long h = h

-- and the other way round
pub inside_back : (state : State) (offset : ℕ) (order : Order) (kind : Kind) (size : ℕ) (xs ys : List ℕ) (x : Seen) →
    looked_at kind size ≤ length xs → SeesKind state offset order kind size (xs ++ ys) x →
    SeesKind state offset order kind size xs x
inside_back state offset order Section size xs ys x long h =
    two (λ a b. SeesSection state offset order a b size x) _ _ _ _
    (number_at_front order 12 2 xs ys (omega arith)) (number_at_front order 14 2 xs ys (omega arith)) h
inside_back state offset order Interface size xs ys x long h =
    subst (λ (k : Clock). SeesInterface state offset (number order 2 (drop 8 xs)) (number order 4 (drop 12 xs)) k size
    x)
    (clock_front order size xs ys (omega (arith, long)))
    (two (λ a b. SeesInterface state offset a b (clock_of order size (xs ++ ys)) size x) _ _ _ _
    (number_at_front order 8 2 xs ys (omega (arith, long)))
    (number_at_front order 12 4 xs ys (omega (arith, long))) h)
inside_back state offset order Enhanced size xs ys x long h =
    two (λ a b. SeesEnhanced state offset a b size x) _ _ _ _
    (number_at_front order 8 4 xs ys (omega arith)) (number_at_front order 20 4 xs ys (omega arith)) h
inside_back state offset order Simple size xs ys x long h =
    subst (λ a. SeesSimple state offset a size x) (number_at_front order 8 4 xs ys (omega arith)) h
inside_back state offset order Other size xs ys x long h = h

-- every kind has a length
pub least_4 : (kind : Kind) (size : ℕ) → IsBlockLength kind size → 12 ≤ size
least_4 Section size h = omega (arith, h.2)
least_4 Interface size h = omega (arith, h.2)
least_4 Enhanced size h = omega (arith, h.2)
least_4 Simple size h = omega (arith, h.2)
least_4 Other size h = omega (arith, h.2)

-- a block that shows something besides that it is cut
abbrev pub Shows : Seen → Type 0
Shows seen.Cut = ⊥
Shows (seen.Fault found) = Unit {0}
Shows (seen.Packet size at count) = Unit {0}
Shows (seen.Section size order) = Unit {0}
Shows (seen.Interface size interface) = Unit {0}
Shows (seen.Other size) = Unit {0}

-- what a front shows of a block with that head, the whole shows
size_there : (state : State) (offset : ℕ) (order : Order) (kind : Kind) (size : ℕ) (xs ys : List ℕ) (x : Seen) →
    Shows x → SeesSize state offset order kind size xs x → SeesSize state offset order kind size (xs ++ ys) x
size_there state offset order kind size xs ys x shows (inr p) = inr p
size_there state offset order kind size xs ys x shows (inl (right, inl (few, cut))) = absurd (subst Shows cut shows)
size_there state offset order kind size xs ys x shows (inl (right, inr (whole, h))) =
    let least : 12 ≤ size = least_4 kind size right in
    let there : size ≤ length xs = at_least size (length xs) whole in
    let second = second_front order size xs ys (omega (arith, least)) there in
    inl (
      right,
      inr (
        (λ few. omega (arith, few, there, length-append xs ys)),
        where_map (λ e. second ∙ e) (λ e. sym second ∙ e)
            (λ e k. inside_there state offset order kind size xs ys x
            (omega (arith, looked_least kind size right.2, there)) k)
            (λ n e. e ∙ ap (λ l. seen.Fault (fault.Trailer offset l)) (sym second)) h,
      ),
    )

-- and so with its head
head_there : (state : State) (offset : ℕ) (xs ys : List ℕ) (x : Seen) → HasHead xs → Shows x →
    SeesHead state offset xs x → SeesHead state offset (xs ++ ys) x
head_there state offset xs ys x head shows h =
    let order = h.0 in
    let kind = h.1 in
    let type : HasKind (block_type order (xs ++ ys)) kind =
    subst (λ (n : ℕ). HasKind n kind) (sym (block_type_front order xs ys head.long)) h.3 in
    let size : SeesSize state offset order kind (total_length order (xs ++ ys)) (xs ++ ys) x =
    subst (λ (n : ℕ). SeesSize state offset order kind n (xs ++ ys) x) (sym (total_front order xs ys head.long))
    (size_there state offset order kind (total_length order xs) xs ys x shows h.4) in
    (order, kind, read_there state order xs ys head h.2, type, size)

-- what a front shows, besides that a block is cut, the whole shows
pub sees_there : (state : State) (offset : ℕ) (xs ys : List ℕ) (x : Seen) → Shows x → Sees state offset xs x →
    Sees state offset (xs ++ ys) x
sees_there state offset xs ys x shows (inl (short, cut)) = absurd (subst Shows cut shows)
sees_there state offset xs ys x shows (inr (long, h)) =
    let head = head_of xs long in
    inr (
      not_short xs ys head,
      where_map (no_order_there xs ys head) (no_order_back xs ys head)
          (λ p e. e ∙ ap (λ (l : List ℕ). seen.Fault (fault.ByteOrder offset l))
          (sym (magic_front xs ys (head.section p.0))))
          (λ n k. head_there state offset xs ys x head shows k) h,
    )

-- a whole block shows something
pub shows_whole : (x : Seen) (n : ℕ) → IsWhole x n → Shows x
shows_whole (seen.Packet size at count) n whole = tt
shows_whole (seen.Section size order) n whole = tt
shows_whole (seen.Interface size interface) n whole = tt
shows_whole (seen.Other size) n whole = tt
shows_whole seen.Cut n whole = absurd whole
shows_whole (seen.Fault found) n whole = absurd whole

-- a block stands at the front of what begins with it
pub block_front : (state : State) (offset : ℕ) (block more : List ℕ) (x : Seen) → IsBlock state offset block x →
    Sees state offset (block ++ more) x
block_front state offset block more x h =
    sees_there state offset block more x (shows_whole x (length block) h.whole) h.shows

-- ---- back: what is shown of a whole block

-- the size of a whole block that is shown
kind_size : (state : State) (offset : ℕ) (order : Order) (kind : Kind) (size : ℕ) (bytes : List ℕ) (x : Seen) (n : ℕ) →
    SeesKind state offset order kind size bytes x → IsWhole x n → size ≡ n
kind_size state offset order Section size bytes x n (inr p) whole = absurd (subst (λ (y : Seen). IsWhole y n) p.1 whole)
kind_size state offset order Section size bytes x n (inl (v, inl p)) whole =
    absurd (subst (λ (y : Seen). IsWhole y n) p.1 whole)
kind_size state offset order Section size bytes x n (inl (v, inr p)) whole = subst (λ (y : Seen). IsWhole y n) p.1 whole
kind_size state offset order Interface size bytes x n (inl p) whole =
    absurd (subst (λ (y : Seen). IsWhole y n) p.1 whole)
kind_size state offset order Interface size bytes x n (inr (v, inl p)) whole =
    absurd (subst (λ (y : Seen). IsWhole y n) p.1 whole)
kind_size state offset order Interface size bytes x n (inr (v, inr p)) whole =
    subst (λ (y : Seen). IsWhole y n) p.1 whole
kind_size state offset order Enhanced size bytes x n (inl p) whole =
    absurd (subst (λ (y : Seen). IsWhole y n) p.1 whole)
kind_size state offset order Enhanced size bytes x n (inr (v, inl p)) whole =
    absurd (subst (λ (y : Seen). IsWhole y n) p.1 whole)
kind_size state offset order Enhanced size bytes x n (inr (v, inr p)) whole =
    subst (λ (y : Seen). IsWhole y n) p.1 whole
kind_size state offset order Simple size bytes x n (inl p) whole = absurd (subst (λ (y : Seen). IsWhole y n) p.1 whole)
kind_size state offset order Simple size bytes x n (inr (v, inl p)) whole =
    absurd (subst (λ (y : Seen). IsWhole y n) p.1 whole)
kind_size state offset order Simple size bytes x n (inr (v, inr p)) whole = subst (λ (y : Seen). IsWhole y n) p.1 whole
kind_size state offset order Other size bytes x n (inl p) whole = absurd (subst (λ (y : Seen). IsWhole y n) p.1 whole)
kind_size state offset order Other size bytes x n (inr p) whole = subst (λ (y : Seen). IsWhole y n) p.1 whole

-- the parts of what is shown of a whole block
pub record WholeBlock (state : State) (offset : ℕ) (bytes : List ℕ) (x : Seen) (size : ℕ) : Type 0 where
  pub head : IsShort bytes → ⊥
  pub ordered : HasNoOrder bytes → ⊥
  pub order : Order
  pub kind : Kind
  pub read_in : IsReadIn state order bytes
  pub type : HasKind (block_type order bytes) kind
  pub right : IsBlockLength kind size
  pub total : total_length order bytes ≡ size
  pub there : size ≤ length bytes
  pub second : second_length order size bytes ≡ size
  pub inside : SeesKind state offset order kind size bytes x

-- what is shown of a whole block has these parts
size_parts : (state : State) (offset : ℕ) (order : Order) (kind : Kind) (size n : ℕ) (bytes : List ℕ) (x : Seen) →
    IsWhole x n → SeesSize state offset order kind size bytes x →
    (size ≡ n) × IsBlockLength kind size × (size ≤ length bytes) × (second_length order size bytes ≡ size)
    × SeesKind state offset order kind size bytes x
size_parts state offset order kind size n bytes x whole (inr p) = absurd (subst (λ (y : Seen). IsWhole y n) p.1 whole)
size_parts state offset order kind size n bytes x whole (inl (right, inl p)) =
    absurd (subst (λ (y : Seen). IsWhole y n) p.1 whole)
size_parts state offset order kind size n bytes x whole (inl (right, inr (there, inr p))) =
    absurd (subst (λ (y : Seen). IsWhole y n) p.1 whole)
size_parts state offset order kind size n bytes x whole (inl (right, inr (there, inl (second, inside)))) = (
  kind_size state offset order kind size bytes x n inside whole,
  right,
  at_least size (length bytes) there,
  second,
  inside,
)

-- what is shown of a whole block has these parts, by the head
pub whole_parts : (state : State) (offset : ℕ) (bytes : List ℕ) (x : Seen) (n : ℕ) → IsWhole x n →
    Sees state offset bytes x → WholeBlock state offset bytes x n
whole_parts state offset bytes x n whole (inl p) = absurd (subst (λ (y : Seen). IsWhole y n) p.1 whole)
whole_parts state offset bytes x n whole (inr (long, inl p)) = absurd (subst (λ (y : Seen). IsWhole y n) p.1 whole)
whole_parts state offset bytes x n whole (inr (long, inr (ordered, h))) =
    let parts = size_parts state offset h.0 h.1 (total_length h.0 bytes) n bytes x whole h.4 in
    let total : total_length h.0 bytes ≡ n = parts.0 in
    record {
      head = long;
      ordered = ordered;
      order = h.0;
      kind = h.1;
      read_in = h.2;
      type = h.3;
      right = subst (IsBlockLength h.1) total parts.1;
      total = total;
      there = subst (λ (m : ℕ). m ≤ length bytes) total parts.2;
      second = subst (λ (m : ℕ). second_length h.0 m bytes ≡ m) total parts.3;
      inside = subst (λ (m : ℕ). SeesKind state offset h.0 h.1 m bytes x) total parts.4;
    }

-- and such parts show it
pub parts_whole : (state : State) (offset : ℕ) (bytes : List ℕ) (x : Seen) (n : ℕ) →
    WholeBlock state offset bytes x n → Sees state offset bytes x
parts_whole state offset bytes x n h =
    let here : SeesSize state offset h.order h.kind n bytes x =
    inl (h.right, inr ((λ few. omega (arith, few, h.there)), inl (h.second, h.inside))) in
    inr (
      h.head,
      inr (
        h.ordered,
        (
          h.order,
          h.kind,
          h.read_in,
          h.type,
          subst (λ (m : ℕ). SeesSize state offset h.order h.kind m bytes x) (sym h.total) here,
        ),
      ),
    )

-- what a list shows of a whole block that it begins with, the block alone shows
pub block_back : (state : State) (offset : ℕ) (block more : List ℕ) (x : Seen) → IsWhole x (length block) →
    Sees state offset (block ++ more) x → IsBlock state offset block x
block_back state offset block more x whole sees =
    let n : ℕ = length block in
    let h = whole_parts state offset (block ++ more) x n whole sees in
    let least : 12 ≤ n = least_4 h.kind n h.right in
    let head : HasHead block = record { long = omega (arith, least); section = λ is. omega (arith, least) } in
    let alone : WholeBlock state offset block x n = record {
      head = λ short. few_short block short least;
      ordered = λ p. h.ordered (no_order_there block more head p);
      order = h.order;
      kind = h.kind;
      read_in = read_back state h.order block more head h.read_in;
      type = subst (λ (m : ℕ). HasKind m h.kind) (block_type_front h.order block more head.long) h.type;
      right = h.right;
      total = sym (total_front h.order block more head.long) ∙ h.total;
      there = omega arith;
      second = sym (second_front h.order n block more (omega (arith, least)) (omega arith)) ∙ h.second;
      inside = inside_back state offset h.order h.kind n block more x (omega (arith, looked_least h.kind n h.right.2))
          h.inside;
    } in
    record { shows = parts_whole state offset block x n alone; whole = whole }
  where
    few_short : (bytes : List ℕ) → IsShort bytes → 12 ≤ length bytes → ⊥
    few_short bytes (inl few) long = omega (arith, few, long)
    few_short bytes (inr p) long = omega (arith, p.1, long)
