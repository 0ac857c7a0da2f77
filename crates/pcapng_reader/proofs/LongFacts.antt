-- A block that is too long to be held whole: what its kept bytes and its second length show.
use Rattle.std.proofs.Common.{◌≡◌, ◌≤◌, ◌<◌, ℕ, ◌+◌, ◌-◌, List, ◌++◌, length, max, min, take, drop, Option, refl, sym, ap, ◌∙◌, subst, inl, inr, arith, append_assoc, length-append, length-take-le}
use Rattle.std.proofs.KnownBytes.{Consumes-trans}
use Rattle.std.proofs.lemmas.List.{drop_at}
use Rattle.byte_window.specs.Window.{Gathers, IsDrained}
use Rattle.pcap_reader.specs.declared.order.Order.{Order}
use Rattle.pcap_reader.specs.Capture.{number}
use Rattle.pcap_reader.specs.Reading.{Took}
use Rattle.pcap_reader.proofs.CaptureFacts.{number_at_front}
use Rattle.pcapng_reader.specs.declared.section.Interface.{Interface as AnInterface}
use Rattle.pcapng_reader.specs.declared.block.Kind.{Kind}
use Rattle.pcapng_reader.specs.declared.block.Kind.TheVariants.{Section, Interface, Enhanced, Simple, Other}
use Rattle.pcapng_reader.specs.declared.block.Seen.{Seen}
use Rattle.pcapng_reader.specs.declared.block.Seen.TheVariants as seen
use Rattle.pcapng_reader.specs.declared.long.Long.{Long}
use Rattle.capture_faults.specs.declared.any_fault.AnyFault.TheVariants as fault
use Rattle.pcapng_reader.specs.Section.{State}
use Rattle.pcapng_reader.specs.Blocks.{HasKind, HasNoOrder, IsReadIn, IsShort, IsTooLong, Sees, SeesKind, SeesSize, given_length, interface_at, longest_packet, second_length, simple_length}
use Rattle.pcapng_reader.specs.Waiting.{Awaits, AwaitsNone, AwaitsTo, CoversPacket, Drops, DropsNone, DropsTo, IsLong, LiesIn, SeesLong}
use Rattle.pcapng_reader.proofs.BlockFacts.{HasHead, at_least, block_type_front, inside_back, inside_there, looked_at, read_there, total_front}
use Rattle.pcapng_reader.proofs.LookFacts.{kind_cut, not_cut}
use Rattle.pcapng_reader.proofs.NextFacts.{given_le}
use Rattle.pcapng_reader.proofs.WaitFacts.{awaits_held, drained_all, drops_drained, drops_read, joined_taken, takes_all, takes_more}

-- ---- the bytes that are kept

-- a simple packet within the limit lies in its first bytes
pub simple_covers : (state : State) (order : Order) (kind : Kind) (bytes : List ℕ) (captured kept : ℕ) →
    kind ≡ Simple → captured ≡ simple_length (interface_at state 0) (number order 4 (drop 8 bytes)) →
    kept ≡ max (12 + min captured 262144) 28 → CoversPacket state order kind bytes kept
simple_covers state order kind bytes captured kept is same size =
    let here : CoversPacket state order Simple bytes kept = λ some few. omega (arith, same, size, few) in
    subst (λ (k : Kind). CoversPacket state order k bytes kept) (sym is) here

-- ---- more bytes behind it

-- a long block has its head
head_there : (state : State) (long : Long) (xs : List ℕ) → IsLong state xs long → HasHead xs
head_there state long xs h = record { long = omega (arith, h.front); section = λ _. omega (arith, h.front) }

-- the packet is where it was
covers_there : (state : State) (order : Order) (kind : Kind) (kept : ℕ) (xs ys : List ℕ) → 28 ≤ length xs →
    CoversPacket state order kind xs kept → CoversPacket state order kind (xs ++ ys) kept
covers_there state order Section kept xs ys front h = tt
covers_there state order Interface kept xs ys front h = h
covers_there state order Enhanced kept xs ys front h =
    subst (λ (n : ℕ). n ≤ longest_packet → 28 + n ≤ kept) (sym (number_at_front order 20 4 xs ys (omega arith))) h
covers_there state order Simple kept xs ys front h =
    subst (λ (n : ℕ). 0 < length state.interfaces → simple_length (interface_at state 0) n ≤ longest_packet →
    12 + simple_length (interface_at state 0) n ≤ kept) (sym (number_at_front order 8 4 xs ys (omega arith))) h
covers_there state order Other kept xs ys front h = tt

-- what is known of a long block is known of it where more bytes follow
pub long_there : (state : State) (long : Long) (xs ys : List ℕ) → IsLong state xs long → IsLong state (xs ++ ys) long
long_there state long xs ys h =
    let head = head_there state long xs h in
    record {
      front = omega (arith, h.front, length-append xs ys);
      read_in = read_there state long.order xs ys head h.read_in;
      type = subst (λ (n : ℕ). HasKind n long.kind) (sym (block_type_front long.order xs ys head.long)) h.type;
      right = h.right;
      total = total_front long.order xs ys head.long ∙ h.total;
      above = h.above;
      least = h.least;
      few = h.few;
      covers = covers_there state long.order long.kind long.kept xs ys h.front h.covers;
    }

-- ---- what it shows

-- a block that is read in an order has one
has_order : (state : State) (order : Order) (bytes : List ℕ) → IsReadIn state order bytes → HasNoOrder bytes → ⊥
has_order state order bytes (inl p) none = none.1 order p.1
has_order state order bytes (inr p) none = p.0 none.0

-- so many bytes are not too few for a head
not_short : (bytes : List ℕ) → 28 ≤ length bytes → IsShort bytes → ⊥
not_short bytes long (inl few) = omega (arith, few, long)
not_short bytes long (inr p) = omega (arith, p.1, long)

-- what a long block shows by its size, it shows
long_sees : (state : State) (offset : ℕ) (long : Long) (bytes : List ℕ) (x : Seen) → IsLong state bytes long →
    SeesSize state offset long.order long.kind long.size bytes x → Sees state offset bytes x
long_sees state offset long bytes x h shows =
    inr (
      not_short bytes h.front,
      inr (
        has_order state long.order bytes h.read_in,
        (
          long.order,
          long.kind,
          h.read_in,
          h.type,
          subst (λ (n : ℕ). SeesSize state offset long.order long.kind n bytes x) (sym h.total) shows,
        ),
      ),
    )

-- it is cut where its bytes are not all there
pub long_cut : (state : State) (offset : ℕ) (long : Long) (bytes : List ℕ) → IsLong state bytes long →
    length bytes < long.size → Sees state offset bytes seen.Cut
long_cut state offset long bytes h few = long_sees state offset long bytes seen.Cut h (inl (h.right, inl (few, refl)))

-- no kind has more bytes that are looked at than are kept
looked_kept : (state : State) (order : Order) (kind : Kind) (size : ℕ) (bytes : List ℕ) (kept : ℕ) → 28 ≤ kept →
    CoversPacket state order kind bytes kept → looked_at kind size ≤ kept
looked_kept state order Section size bytes kept least covers = omega (arith, least)
looked_kept state order Interface size bytes kept least covers = omega (arith, least, covers)
looked_kept state order Enhanced size bytes kept least covers = omega (arith, least)
looked_kept state order Simple size bytes kept least covers = omega (arith, least)
looked_kept state order Other size bytes kept least covers = omega (arith, least)

-- its second length stands behind the bytes that are kept and those that were dropped
second_is : (long : Long) (front gone behind : List ℕ) → length front ≡ long.kept →
    long.kept + length gone + 4 ≡ long.size →
    second_length long.order long.size (front ++ (gone ++ behind))
    ≡ number long.order 4 (drop long.kept (front ++ behind))
second_is long front gone behind size all =
    let place : long.size - 4 ≡ length (front ++ gone) = omega (arith, size, all, length-append front gone) in
    let first : drop (long.size - 4) (front ++ (gone ++ behind)) ≡ behind =
    ap (drop (long.size - 4)) (sym (append_assoc front gone behind))
    ∙ drop_at (front ++ gone) behind (long.size - 4) (sym place) in
    ap (number long.order 4) (first ∙ sym (drop_at front behind long.kept size))

-- where its second length stands behind the bytes that are kept and those that were dropped, it shows what they show
size_seen : (state : State) (offset : ℕ) (long : Long) (front gone behind : List ℕ) (x : Seen) →
    IsLong state (front ++ (gone ++ behind)) long → length front ≡ long.kept →
    long.kept + length gone + 4 ≡ long.size → 4 ≤ length behind → SeesLong state offset long (front ++ behind) x →
    SeesSize state offset long.order long.kind long.size (front ++ (gone ++ behind)) x
size_seen state offset long front gone behind x h size all second (inl p) =
    let looked = looked_kept state long.order long.kind long.size _ long.kept h.least h.covers in
    let same = second_is long front gone behind size all in
    inl (
      h.right,
      inr (
        (λ few. omega (arith, few, second, size, all, length-append front (gone ++ behind), length-append gone behind)),
        inl (
          same ∙ p.0,
          inside_there state offset long.order long.kind long.size front (gone ++ behind) x
              (omega (arith, looked, size))
              (inside_back state offset long.order long.kind long.size front behind x
              (omega (arith, looked, size)) p.1),
        ),
      ),
    )
size_seen state offset long front gone behind x h size all second (inr p) =
    let same = second_is long front gone behind size all in
    inl (
      h.right,
      inr (
        (λ few. omega (arith, few, second, size, all, length-append front (gone ++ behind), length-append gone behind)),
        inr (
          (λ e. p.0 (sym same ∙ e)),
          p.1 ∙ ap (λ (n : ℕ). seen.Fault (fault.Trailer offset n)) (sym same),
        ),
      ),
    )

-- ---- its kept bytes, those that were dropped, and those behind

-- a packet that is given lies in the bytes that are kept
packet_kept : (interface : AnInterface) (captured at kept size : ℕ) → (IsTooLong captured at size → ⊥) →
    (captured ≤ longest_packet → at + captured ≤ kept) → at + given_length interface captured ≤ kept
packet_kept interface captured at kept size fits covers =
    let few : captured ≤ longest_packet = at_least captured longest_packet (λ above. fits (inl above)) in
    omega (arith, covers few, given_le interface.is_asked captured)

-- what a long block shows lies so
lies_as : (x y : Seen) (kept dropped : ℕ) → x ≡ y → LiesIn y kept dropped → LiesIn x kept dropped
lies_as x y kept dropped is = subst (λ (z : Seen). LiesIn z kept dropped) (sym is)

-- a whole block of that kind lies in the bytes that are kept and those that were dropped
kind_lies : (state : State) (offset : ℕ) (order : Order) (kind : Kind) (size : ℕ) (bytes : List ℕ) (x : Seen)
    (kept dropped : ℕ) → CoversPacket state order kind bytes kept → kept + dropped ≤ size →
    SeesKind state offset order kind size bytes x → LiesIn x kept dropped
kind_lies state offset order Section size bytes x kept dropped covers within (inr p) = lies_as x _ kept dropped p.1 tt
kind_lies state offset order Section size bytes x kept dropped covers within (inl (v, inl p)) =
    lies_as x _ kept dropped p.1 tt
kind_lies state offset order Section size bytes x kept dropped covers within (inl (v, inr p)) =
    lies_as x _ kept dropped p.1 within
kind_lies state offset order Interface size bytes x kept dropped covers within (inl p) =
    lies_as x _ kept dropped p.1 tt
kind_lies state offset order Interface size bytes x kept dropped covers within (inr (v, inl p)) =
    lies_as x _ kept dropped p.1 tt
kind_lies state offset order Interface size bytes x kept dropped covers within (inr (v, inr p)) =
    lies_as x _ kept dropped p.1 within
kind_lies state offset order Enhanced size bytes x kept dropped covers within (inl p) = lies_as x _ kept dropped p.1 tt
kind_lies state offset order Enhanced size bytes x kept dropped covers within (inr (v, inl p)) =
    lies_as x _ kept dropped p.1 tt
kind_lies state offset order Enhanced size bytes x kept dropped covers within (inr (v, inr p)) =
    lies_as x _ kept dropped p.1 (
      packet_kept (interface_at state (number order 4 (drop 8 bytes))) (number order 4 (drop 20 bytes)) 28 kept size p.0
          covers,
      within,
    )
kind_lies state offset order Simple size bytes x kept dropped covers within (inl p) = lies_as x _ kept dropped p.1 tt
kind_lies state offset order Simple size bytes x kept dropped covers within (inr (v, inl p)) =
    lies_as x _ kept dropped p.1 tt
kind_lies state offset order Simple size bytes x kept dropped covers within (inr (v, inr p)) =
    let some : 0 < length state.interfaces = at_least 1 (length state.interfaces) (λ none. v (omega (arith, none))) in
    lies_as x _ kept dropped p.1 (
      packet_kept (interface_at state 0) (simple_length (interface_at state 0) (number order 4 (drop 8 bytes))) 12 kept
          size p.0 (covers some),
      within,
    )
kind_lies state offset order Other size bytes x kept dropped covers within (inl p) = lies_as x _ kept dropped p.1 tt
kind_lies state offset order Other size bytes x kept dropped covers within (inr p) = lies_as x _ kept dropped p.1 within

-- and so does what is seen by its size
seen_lies : (state : State) (offset : ℕ) (order : Order) (kind : Kind) (size : ℕ) (bytes : List ℕ) (x : Seen)
    (kept dropped : ℕ) → CoversPacket state order kind bytes kept → kept + dropped ≤ size →
    SeesSize state offset order kind size bytes x → LiesIn x kept dropped
seen_lies state offset order kind size bytes x kept dropped covers within (inr p) = lies_as x _ kept dropped p.1 tt
seen_lies state offset order kind size bytes x kept dropped covers within (inl (right, inl p)) =
    lies_as x _ kept dropped p.1 tt
seen_lies state offset order kind size bytes x kept dropped covers within (inl (right, inr (there, inr p))) =
    lies_as x _ kept dropped p.1 tt
seen_lies state offset order kind size bytes x kept dropped covers within (inl (right, inr (there, inl p))) =
    kind_lies state offset order kind size bytes x kept dropped covers within p.1

-- ---- how it is awaited

-- all bytes of a long block, as far as they came, begin as it does
long_all : (state : State) (long : Long) (old mid new first more : List ℕ) (dropped : ℕ) → IsLong state old long →
    old ++ first ≡ mid → (d : Drops long.kept mid new dropped more) →
    IsLong state (take long.kept mid ++ (d.gone ++ d.behind)) long
long_all state long old mid new first more dropped h held d =
    subst (λ (l : List ℕ). IsLong state l long) (joined_taken old mid first more _ held d.all)
    (long_there state long old (first ++ more) h)

-- so many bytes there are
long_size : (long : Long) (mid new more : List ℕ) (dropped : ℕ) → long.kept ≤ length mid →
    (d : Drops long.kept mid new dropped more) →
    length (take long.kept mid ++ (d.gone ++ d.behind)) ≡ length new + dropped
long_size long mid new more dropped enough d =
    omega (
      arith,
      length-append (take long.kept mid) (d.gone ++ d.behind),
      length-append d.gone d.behind,
      length-append (take long.kept mid) d.behind,
      ap length d.held,
      d.size,
    )

-- what they show is awaited
pub long_awaits : (state : State) (offset : ℕ) (long : Long) (old mid new first more : List ℕ) (dropped : ℕ)
    (x : Seen) → old ++ first ≡ mid → long.kept ≤ length mid → (d : Drops long.kept mid new dropped more) →
    dropped ≤ 16777216 → Sees state offset (take long.kept mid ++ (d.gone ++ d.behind)) x →
    LiesIn x long.kept dropped → Awaits state offset old new x dropped (first ++ more)
long_awaits state offset long old mid new first more dropped x held enough d few shows lies =
    let size : length (take long.kept mid) ≡ long.kept = length-take-le long.kept mid enough in
    record {
      front = take long.kept mid;
      gone = d.gone;
      behind = d.behind;
      all = joined_taken old mid first more _ held d.all;
      held = d.held;
      size = d.size;
      shows = shows;
      lies = subst (λ (n : ℕ). LiesIn x n dropped) (sym size) lies;
      few = few;
    }

-- a long block that is not all there is cut
pub cut_awaits : (state : State) (offset : ℕ) (long : Long) (old mid new first more : List ℕ) (dropped : ℕ) →
    IsLong state old long → old ++ first ≡ mid → long.kept ≤ length mid →
    (d : Drops long.kept mid new dropped more) → length new + dropped < long.size →
    Awaits state offset old new seen.Cut dropped (first ++ more)
cut_awaits state offset long old mid new first more dropped h held enough d short =
    let all = long_all state long old mid new first more dropped h held d in
    let size = long_size long mid new more dropped enough d in
    long_awaits state offset long old mid new first more dropped seen.Cut held enough d
    (omega (arith, short, h.right.1)) (long_cut state offset long _ all (omega (arith, size, short))) tt

-- and one that is all there shows what it shows
pub seen_awaits : (state : State) (offset : ℕ) (long : Long) (old mid new first more : List ℕ) (dropped : ℕ)
    (x : Seen) → IsLong state old long → old ++ first ≡ mid → long.kept ≤ length mid →
    (d : Drops long.kept mid new dropped more) → long.kept + dropped + 4 ≡ long.size → long.kept + 4 ≤ length new →
    SeesLong state offset long new x → Awaits state offset old new x dropped (first ++ more)
seen_awaits state offset long old mid new first more dropped x h held enough d gap second shows =
    let front : List ℕ = take long.kept mid in
    let size : length front ≡ long.kept = length-take-le long.kept mid enough in
    let all = long_all state long old mid new first more dropped h held d in
    let left : 4 ≤ length d.behind = omega (arith, second, ap length d.held, length-append front d.behind, size) in
    let here : SeesLong state offset long (front ++ d.behind) x =
    subst (λ (l : List ℕ). SeesLong state offset long l x) d.held shows in
    let sized : SeesSize state offset long.order long.kind long.size (front ++ (d.gone ++ d.behind)) x =
    size_seen state offset long front d.gone d.behind x all size (omega (arith, gap, d.size)) left here in
    long_awaits state offset long old mid new first more dropped x held enough d
    (omega (arith, gap, h.right.1)) (long_sees state offset long _ x all sized)
    (seen_lies state offset long.order long.kind long.size _ x long.kept dropped all.covers (omega (arith, gap)) sized)

-- ---- the turns of the wait

-- the kept bytes did not come
short_held : (state : State) (offset : ℕ) (long : Long) (old new taken : List ℕ) → IsLong state old long →
    old ++ taken ≡ new → length new < long.kept → Awaits state offset old new seen.Cut 0 taken
short_held state offset long old new taken h held short =
    let all : IsLong state new long =
    subst (λ (l : List ℕ). IsLong state l long) held (long_there state long old taken h) in
    awaits_held state offset old new taken seen.Cut held
    (long_cut state offset long new all (omega (arith, short, h.few, h.above)))

-- where a read failed
pub hold_failed : (state : State) (offset : ℕ) (long : Long) (old new : List ℕ) (before after : Option (List ℕ)) →
    IsLong state old long → Gathers old new before after → length new < long.kept →
    Took before after (AwaitsNone state offset old new)
hold_failed state offset long old new before after h g short =
    (g.taken, g.told, (0, short_held state offset long old new g.taken h g.held short))

-- where the source ended
pub hold_end : (state : State) (offset : ℕ) (long : Long) (old new : List ℕ) (before after : Option (List ℕ)) →
    IsLong state old long → Gathers old new before after → length new < long.kept → IsDrained old new before →
    Took before after (AwaitsTo state offset old new seen.Cut 0 before)
hold_end state offset long old new before after h g short all = (
  g.taken,
  g.told,
  (
    short_held state offset long old new g.taken h g.held short,
    drained_all old new g.taken before all g.held,
  ),
)

-- the bytes to be dropped did not come
pub drop_failed : (state : State) (offset : ℕ) (long : Long) (count : ℕ) (old mid new : List ℕ)
    (before between after : Option (List ℕ)) → IsLong state old long → Gathers old mid before between →
    long.kept ≤ length mid → long.kept + count + 4 ≡ long.size →
    Took between after (DropsNone long.kept count mid new) → Took before after (AwaitsNone state offset old new)
drop_failed state offset long count old mid new before between after h g enough gap took =
    let d = took.2 in (
      g.taken ++ took.0,
      Consumes-trans before between after g.taken took.0 g.told took.1,
      (
        d.dropped,
        cut_awaits state offset long old mid new g.taken took.0 d.dropped h g.held enough d.drops
            (omega (arith, d.few, d.held, gap)),
      ),
    )

-- where the source ended before them
pub drop_end : (state : State) (offset : ℕ) (long : Long) (count dropped : ℕ) (old mid new : List ℕ)
    (before between after : Option (List ℕ)) → IsLong state old long → Gathers old mid before between →
    long.kept ≤ length mid → long.kept + count + 4 ≡ long.size → dropped < count →
    Took between after (DropsTo long.kept count mid new dropped between) →
    Took before after (AwaitsTo state offset old new seen.Cut dropped before)
drop_end state offset long count dropped old mid new before between after h g enough gap fewer took =
    let d = took.2 in
    let held : length new ≡ long.kept = d.held fewer in (
      g.taken ++ took.0,
      Consumes-trans before between after g.taken took.0 g.told took.1,
      (
        cut_awaits state offset long old mid new g.taken took.0 dropped h g.held enough d.drops
            (omega (arith, fewer, held, gap)),
        takes_more seen.Cut before between g.taken took.0 g.told (d.end fewer),
      ),
    )

-- the second length did not come
pub second_failed : (state : State) (offset : ℕ) (long : Long) (count dropped : ℕ) (old mid less new : List ℕ)
    (before between middle after : Option (List ℕ)) → IsLong state old long → Gathers old mid before between →
    long.kept ≤ length mid → long.kept + count + 4 ≡ long.size →
    Took between middle (DropsTo long.kept count mid less dropped between) → Gathers less new middle after →
    length new < long.kept + 4 → Took before after (AwaitsNone state offset old new)
second_failed state offset long count dropped old mid less new before between middle after h g enough gap took more
    short =
    let read = drops_read long.kept dropped mid less new between middle after (took.0, took.1, took.2.drops) more in (
      g.taken ++ read.0,
      Consumes-trans before between after g.taken read.0 g.told read.1,
      (
        dropped,
        cut_awaits state offset long old mid new g.taken read.0 dropped h g.held enough read.2
            (omega (arith, took.2.few, short, gap)),
      ),
    )

-- where the source ended before it
pub second_end : (state : State) (offset : ℕ) (long : Long) (count dropped : ℕ) (old mid less new : List ℕ)
    (before between middle after : Option (List ℕ)) → IsLong state old long → Gathers old mid before between →
    long.kept ≤ length mid → long.kept + count + 4 ≡ long.size →
    Took between middle (DropsTo long.kept count mid less dropped between) → Gathers less new middle after →
    length new < long.kept + 4 → IsDrained less new middle →
    Took before after (AwaitsTo state offset old new seen.Cut dropped before)
second_end state offset long count dropped old mid less new before between middle after h g enough gap took more short
    all =
    let read = drops_drained long.kept dropped mid less new between middle after (took.0, took.1, took.2.drops) more
    all in (
      g.taken ++ read.0,
      Consumes-trans before between after g.taken read.0 g.told read.1,
      (
        cut_awaits state offset long old mid new g.taken read.0 dropped h g.held enough read.2.0
            (omega (arith, took.2.few, short, gap)),
        takes_more seen.Cut before between g.taken read.0 g.told read.2.1,
      ),
    )

-- a block whose second length stands behind what is kept is not cut
shows_long : (state : State) (offset : ℕ) (long : Long) (bytes : List ℕ) (x : Seen) →
    SeesLong state offset long bytes x → x ≡ seen.Cut → ⊥
shows_long state offset long bytes x (inl p) is =
    kind_cut state offset long.order long.kind long.size bytes
    (subst (λ (y : Seen). SeesKind state offset long.order long.kind long.size bytes y) is p.1)
shows_long state offset long bytes x (inr p) is = not_cut _ tt (sym is ∙ p.1)

-- all came
pub long_end : (state : State) (offset : ℕ) (long : Long) (count dropped : ℕ) (old mid less new : List ℕ) (x : Seen)
    (before between middle after : Option (List ℕ)) → IsLong state old long → Gathers old mid before between →
    long.kept ≤ length mid → long.kept + count + 4 ≡ long.size → count ≤ dropped →
    Took between middle (DropsTo long.kept count mid less dropped between) → Gathers less new middle after →
    long.kept + 4 ≤ length new → SeesLong state offset long new x →
    Took before after (AwaitsTo state offset old new x dropped before)
long_end state offset long count dropped old mid less new x before between middle after h g enough gap all took more
    second shows =
    let read = drops_read long.kept dropped mid less new between middle after (took.0, took.1, took.2.drops) more in (
      g.taken ++ read.0,
      Consumes-trans before between after g.taken read.0 g.told read.1,
      (
        seen_awaits state offset long old mid new g.taken read.0 dropped x h g.held enough read.2
            (omega (arith, took.2.few, all, gap)) second shows,
        takes_all x before (g.taken ++ read.0) (shows_long state offset long new x shows),
      ),
    )
