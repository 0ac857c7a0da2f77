-- What a reader of blocks answers where a packet, a fault or a cut block was awaited.
use Rattle.std.proofs.Common.{◌⊎◌, ◌≡◌, ◌≤◌, ℕ, ◌+◌, ◌-◌, true, false, List, [], ◌∷◌, ◌++◌, length, take, drop, Option, IfSome, Result, Ok, Err, refl, sym, ap, ◌∙◌, subst, inl, inr, arith, append_assoc, append-nil, length-append, length-drop, length-take-le, take-append-drop}
use Rattle.std.proofs.lemmas.List.{drop-append-le, take-append-le}
use Rattle.pcap_reader.specs.declared.order.Order.{Order}
use Rattle.capture_faults.specs.declared.fault.CaptureFault.{CaptureFault}
use Rattle.pcap_reader.specs.Reading.{Took, buffer_length}
use Rattle.capture_faults.specs.declared.any_fault.AnyFault.{AnyFault}
use Rattle.capture_faults.specs.declared.any_fault.AnyFault.TheVariants as fault
use Rattle.pcapng_reader.specs.declared.block.Kind.{Kind}
use Rattle.pcapng_reader.specs.declared.block.Kind.TheVariants.{Section, Interface, Enhanced, Simple, Other}
use Rattle.pcapng_reader.specs.declared.block.Seen.{Seen}
use Rattle.pcapng_reader.specs.declared.block.Seen.TheVariants as seen
use Rattle.pcapng_reader.specs.Section.{State}
use Rattle.pcapng_reader.specs.Blocks.{AreBlocks, IsBlock, IsLast, Sees, SeesKind, SeesSize}
use Rattle.pcapng_reader.specs.Waiting.{Awaits, IsLastSeen, Passes, PassesNone, PassesTo}
use Rattle.pcapng_reader.specs.Reading.{Answers, AreParts, Form, GivesPacket, MeetsEnding, OfBlocks, Reading}
use Rattle.pcapng_reader.proofs.EveryInput.{first_block}
use Rattle.pcapng_reader.specs.Stamps.{block_stamp}
use Rattle.pcapng_reader.proofs.NextFacts.{packet_lies, part_of_front, packet_starts, stamp_front}
use Rattle.pcapng_reader.proofs.OneInput.{joined}
use Rattle.pcapng_reader.proofs.PassFacts.{AreBlocks-append, AreBlocks-one, all_length, held_behind, joined-append}

-- ---- which faults a block shows

-- one of pcapng alone
abbrev pub IsOfBlocks : AnyFault → Type 0
IsOfBlocks (fault.Capture found) = ⊥
IsOfBlocks (fault.ByteOrder offset found) = Unit {0}
IsOfBlocks (fault.BlockLength offset found) = Unit {0}
IsOfBlocks (fault.Trailer offset found) = Unit {0}
IsOfBlocks (fault.SectionVersion offset major minor) = Unit {0}
IsOfBlocks (fault.Interface offset found) = Unit {0}
IsOfBlocks (fault.CapturedLength offset found) = Unit {0}
IsOfBlocks (fault.Interfaces offset) = Unit {0}
IsOfBlocks (fault.Blocks offset) = Unit {0}

-- a fault that is shown is one
abbrev ShowsOf : Seen → Type 0
ShowsOf (seen.Fault found) = IsOfBlocks found
ShowsOf (seen.Packet size at count) = Unit {0}
ShowsOf (seen.Section size order) = Unit {0}
ShowsOf (seen.Interface size interface) = Unit {0}
ShowsOf (seen.Other size) = Unit {0}
ShowsOf seen.Cut = Unit {0}

-- what shows the same shows the same kind of fault
shown : (x y : Seen) → x ≡ y → ShowsOf y → ShowsOf x
shown x y is = subst ShowsOf (sym is)

-- a whole block shows no other
kind_shows : (state : State) (offset : ℕ) (order : Order) (kind : Kind) (size : ℕ) (bytes : List ℕ) (x : Seen) →
    SeesKind state offset order kind size bytes x → ShowsOf x
kind_shows state offset order Section size bytes x (inr p) = shown x _ p.1 tt
kind_shows state offset order Section size bytes x (inl (v, inl p)) = shown x _ p.1 tt
kind_shows state offset order Section size bytes x (inl (v, inr p)) = shown x _ p.1 tt
kind_shows state offset order Interface size bytes x (inl p) = shown x _ p.1 tt
kind_shows state offset order Interface size bytes x (inr (v, inl p)) = shown x _ p.1 tt
kind_shows state offset order Interface size bytes x (inr (v, inr p)) = shown x _ p.1 tt
kind_shows state offset order Enhanced size bytes x (inl p) = shown x _ p.1 tt
kind_shows state offset order Enhanced size bytes x (inr (v, inl p)) = shown x _ p.1 tt
kind_shows state offset order Enhanced size bytes x (inr (v, inr p)) = shown x _ p.1 tt
kind_shows state offset order Simple size bytes x (inl p) = shown x _ p.1 tt
kind_shows state offset order Simple size bytes x (inr (v, inl p)) = shown x _ p.1 tt
kind_shows state offset order Simple size bytes x (inr (v, inr p)) = shown x _ p.1 tt
kind_shows state offset order Other size bytes x (inl p) = shown x _ p.1 tt
kind_shows state offset order Other size bytes x (inr p) = shown x _ p.1 tt

-- nor does one by its size
size_shows : (state : State) (offset : ℕ) (order : Order) (kind : Kind) (size : ℕ) (bytes : List ℕ) (x : Seen) →
    SeesSize state offset order kind size bytes x → ShowsOf x
size_shows state offset order kind size bytes x (inr p) = shown x _ p.1 tt
size_shows state offset order kind size bytes x (inl (right, inl p)) = shown x _ p.1 tt
size_shows state offset order kind size bytes x (inl (right, inr (there, inr p))) = shown x _ p.1 tt
size_shows state offset order kind size bytes x (inl (right, inr (there, inl p))) =
    kind_shows state offset order kind size bytes x p.1

-- nor do any bytes
sees_shows : (state : State) (offset : ℕ) (bytes : List ℕ) (x : Seen) → Sees state offset bytes x → ShowsOf x
sees_shows state offset bytes x (inl p) = shown x _ p.1 tt
sees_shows state offset bytes x (inr (long, inl p)) = shown x _ p.1 tt
sees_shows state offset bytes x (inr (long, inr (ordered, h))) =
    size_shows state offset h.0 h.1 _ bytes x h.4

-- ---- a packet

-- a part that lies in a front
part_before : (xs ys : List ℕ) (at count : ℕ) → at + count ≤ length xs →
    take count (drop at (xs ++ ys)) ≡ take count (drop at xs)
part_before xs ys at count within =
    let inside : count ≤ length (drop at xs) = omega (arith, length-drop at xs, within) in
    ap (take count) (drop-append-le at xs ys (omega (arith, within))) ∙ take-append-le count (drop at xs) ys inside

-- a reader behind the block of a packet that was awaited
abbrev pub behind_awaited : Reading → State → (place : ℕ) → (held : List ℕ) → (size at count dropped : ℕ) → Reading
behind_awaited old last place held size at count dropped =
    record {
      form = OfBlocks last;
      fraction = old.fraction;
      pending = drop (size - dropped) held;
      packet = take count (drop at held);
      stamp = block_stamp last at held;
      offset = place + size;
      start = place;
      given = old.given + 1;
      ended = old.ended;
    }

-- what a packet that was awaited lies in: so much of its block is held
pub record AwaitedLies (held : List ℕ) (size at count dropped : ℕ) : Type 0 where
  pub less : dropped ≤ size
  pub there : size - dropped ≤ length held
  pub part : at + count ≤ size - dropped
  pub place : (at ≡ 28) ⊎ (at ≡ 12)
  pub limit : size ≤ 16777216

-- a packet that is awaited lies so
pub awaited_lies : (state : State) (offset : ℕ) (old held taken : List ℕ) (size at count dropped : ℕ) →
    Awaits state offset old held (seen.Packet size at count) dropped taken →
    AwaitedLies held size at count dropped
awaited_lies state offset old held taken size at count dropped h =
    let lies = packet_lies state offset (h.front ++ (h.gone ++ h.behind)) size at count h.shows in
    record {
      less = omega (arith, h.lies.1);
      there = omega (arith, lies.there, all_length h.front h.gone h.behind, h.size, ap length h.held);
      part = omega (arith, h.lies.0, h.lies.1);
      place = packet_starts state offset (h.front ++ (h.gone ++ h.behind)) size at count h.shows;
      limit = lies.limit;
    }

-- it is given out
pub gives_awaited : (old : Reading) (state last : State) (held : List ℕ) (place size at count dropped : ℕ)
    (taken : List ℕ) → old.form ≡ OfBlocks state → old.ended ≡ false → length held ≤ buffer_length →
    Passes state old.offset old.pending last held place (seen.Packet size at count) dropped taken →
    GivesPacket old (behind_awaited old last place held size at count dropped) taken
gives_awaited old state last held place size at count dropped taken form going room p =
    let h = p.awaits in
    let whole : List ℕ = h.front ++ (h.gone ++ h.behind) in
    let x : Seen = seen.Packet size at count in
    let lies = packet_lies last place whole size at count h.shows in
    let block : List ℕ = take size whole in
    let long : length block ≡ size = length-take-le size whole lies.there in
    let is : IsBlock last place block x = first_block last place whole x size refl h.shows in
    let within : at + count ≤ length h.front = h.lies.0 in
    let packet : take count (drop at held) ≡ take count (drop at block) =
    ap (λ (l : List ℕ). take count (drop at l)) h.held ∙ part_before h.front h.behind at count within
    ∙ sym (part_before h.front (h.gone ++ h.behind) at count within)
    ∙ sym (part_of_front whole size at count lies.part lies.there) in
    let place_of = packet_starts last place whole size at count h.shows in
    let front : at ≤ length h.front = omega (arith, within) in
    let stamp : block_stamp last at held ≡ block_stamp last at block =
    ap (block_stamp last at) h.held ∙ stamp_front last at h.front h.behind place_of front
    ∙ sym (stamp_front last at h.front (h.gone ++ h.behind) place_of front)
    ∙ ap (block_stamp last at) (sym (take-append-drop size whole))
    ∙ stamp_front last at block (drop size whole) place_of (omega (arith, long, lies.part)) in
    let given : List ℕ = take count (drop at held) in
    let one : AreBlocks last place (block ∷ []) (given ∷ []) last =
    subst (λ (l : List ℕ). AreBlocks last place (block ∷ []) (l ∷ []) last) (sym packet)
    (AreBlocks-one last place block x is) in
    let each : AreBlocks state old.offset (p.blocks ++ block ∷ []) (given ∷ []) last =
    AreBlocks-append state old.offset p.blocks [] last (block ∷ []) (given ∷ []) last p.each
    (subst (λ (n : ℕ). AreBlocks last n (block ∷ []) (given ∷ []) last) p.place_is one) in
    let passed : List ℕ = joined p.blocks ++ block in
    let further : joined (p.blocks ++ block ∷ []) ≡ passed =
    joined-append p.blocks (block ∷ []) ∙ ap (λ (l : List ℕ). joined p.blocks ++ l) (append-nil block) in
    let parts : AreParts (OfBlocks state) old.offset passed (given ∷ []) (OfBlocks last) =
    (p.blocks ++ block ∷ [], last, each, sym further, refl) in
    let rest : drop size whole ≡ drop (size - dropped) held =
    held_behind h.front h.gone h.behind size dropped h.size h.lies.1 ∙ ap (drop (size - dropped)) (sym h.held) in
    let split : p.middle ++ p.more ≡ block ++ drop (size - dropped) held =
    h.all ∙ sym (take-append-drop size whole) ∙ ap (λ (l : List ℕ). block ++ l) rest in
    record {
      passed = passed;
      parts = subst (λ (f : Form). AreParts f old.offset passed (given ∷ []) (OfBlocks last)) (sym form) parts;
      held = p.all ∙ ap (λ (l : List ℕ). joined p.blocks ++ l) split
          ∙ sym (append_assoc (joined p.blocks) block (drop (size - dropped) held));
      room = omega (arith, length-drop (size - dropped) held, room);
      offset = omega (arith, p.place_is, length-append (joined p.blocks) block, long);
      starts = record {
        before = joined p.blocks;
        last = OfBlocks last;
        parts = subst (λ (f : Form). AreParts f old.offset (joined p.blocks) [] (OfBlocks last)) (sym form)
            (p.blocks, last, p.each, refl, refl);
        rest = block;
        whole = refl;
        is = p.place_is;
        next = (size, at, count, is.shows);
      };
      stamp = (size, at, count, is.shows, stamp);
      fraction = refl;
      given = refl;
      goes_on = going;
    }

-- by what was taken of the source
pub took_packet : (old : Reading) (state last : State) (held : List ℕ) (place size at count dropped : ℕ)
    (before after : Option (List ℕ)) → old.form ≡ OfBlocks state → old.ended ≡ false →
    length held ≤ buffer_length → Took before after
    (PassesTo state old.offset old.pending last held place (seen.Packet size at count) dropped before) →
    Took before after (GivesPacket old (behind_awaited old last place held size at count dropped))
took_packet old state last held place size at count dropped before after form going room took = (
  took.0,
  took.1,
  gives_awaited old state last held place size at count dropped took.0 form going room took.2.0,
)

-- ---- an ending

-- what is last shows a cut block, or a fault
meets : (old new : Reading) (state last : State) (held : List ℕ) (place : ℕ) (x : Seen) (dropped : ℕ)
    (taken : List ℕ) (ending : Result ℕ AnyFault) → old.form ≡ OfBlocks state → length held ≤ buffer_length →
    new.packet ≡ [] → new.given ≡ old.given → new.ended ≡ true →
    Passes state old.offset old.pending last held place x dropped taken →
    ((bytes : List ℕ) → length bytes ≡ length held + dropped → Sees last place bytes x →
    IsLast last place bytes ending) →
    MeetsEnding old new ending taken
meets old new state last held place x dropped taken ending form room packet given ended p ends =
    let h = p.awaits in
    let whole : List ℕ = h.front ++ (h.gone ++ h.behind) in
    let size : length whole ≡ length held + dropped =
    omega (arith, all_length h.front h.gone h.behind, h.size, ap length h.held) in
    let parts : AreParts (OfBlocks state) old.offset (joined p.blocks) [] (OfBlocks last) =
    (p.blocks, last, p.each, refl, refl) in
    record {
      passed = joined p.blocks;
      last = OfBlocks last;
      parts = subst (λ (f : Form). AreParts f old.offset (joined p.blocks) [] (OfBlocks last)) (sym form) parts;
      rest = whole;
      held = p.all ∙ ap (λ (l : List ℕ). joined p.blocks ++ l) h.all;
      ends = subst (λ (n : ℕ). IsLast last n whole ending) p.place_is (ends whole size h.shows);
      room = omega (arith, size, room, h.few);
      packet = packet;
      given = given;
      ended = ended;
    }

-- a reader that has ended
pub record HasEnded (old new : Reading) : Type 0 where
  pub packet : new.packet ≡ []
  pub given : new.given ≡ old.given
  pub ended : new.ended ≡ true

-- of a fault
pub answers_fault : (old new : Reading) (before after : Option (List ℕ)) (found : AnyFault) → IsOfBlocks found →
    Took before after (MeetsEnding old new (Err found)) → Answers old new before after (Err found)
answers_fault old new before after (fault.Capture found) is met = absurd is
answers_fault old new before after (fault.ByteOrder offset found) is met = met
answers_fault old new before after (fault.BlockLength offset found) is met = met
answers_fault old new before after (fault.Trailer offset found) is met = met
answers_fault old new before after (fault.SectionVersion offset major minor) is met = met
answers_fault old new before after (fault.Interface offset found) is met = met
answers_fault old new before after (fault.CapturedLength offset found) is met = met
answers_fault old new before after (fault.Interfaces offset) is met = met
answers_fault old new before after (fault.Blocks offset) is met = met

-- where a fault was awaited, it is answered
pub took_fault : (old new : Reading) (state last : State) (held : List ℕ) (place dropped : ℕ) (found : AnyFault)
    (before after : Option (List ℕ)) → old.form ≡ OfBlocks state → length held ≤ buffer_length →
    HasEnded old new →
    Took before after (PassesTo state old.offset old.pending last held place (seen.Fault found) dropped before) →
    Answers old new before after (Err found)
took_fault old new state last held place dropped found before after form room ended took =
    let p = took.2.0 in
    let is : IsOfBlocks found = sees_shows last place _ (seen.Fault found) p.awaits.shows in
    answers_fault old new before after found is (
      took.0,
      took.1,
      meets old new state last held place (seen.Fault found) dropped took.0 (Err found) form room ended.packet
          ended.given ended.ended p (λ bytes size shows. shows),
    )

-- a fault of pcapng is none of a savefile, of a source or of memory
pub no_capture_fault : (state : State) (offset : ℕ) (bytes : List ℕ) (found : CaptureFault) →
    Sees state offset bytes (seen.Fault (fault.Capture found)) → ⊥
no_capture_fault state offset bytes found shows =
    sees_shows state offset bytes (seen.Fault (fault.Capture found)) shows

-- of a cut block
meets_cut : (old new : Reading) (state last : State) (held : List ℕ) (place dropped : ℕ) (taken : List ℕ) →
    old.form ≡ OfBlocks state → length held ≤ buffer_length → HasEnded old new →
    Passes state old.offset old.pending last held place seen.Cut dropped taken →
    MeetsEnding old new (Ok (dropped + length held)) taken
meets_cut old new state last held place dropped taken form room ended p =
    meets old new state last held place seen.Cut dropped taken (Ok (dropped + length held)) form room ended.packet
    ended.given ended.ended p (λ bytes size shows. (shows, omega (arith, size)))

-- by what was taken of the source
took_cut : (old new : Reading) (state last : State) (held : List ℕ) (place dropped : ℕ)
    (before after : Option (List ℕ)) → old.form ≡ OfBlocks state → length held ≤ buffer_length →
    HasEnded old new →
    Took before after (PassesTo state old.offset old.pending last held place seen.Cut dropped before) →
    Took before after
    (λ taken. MeetsEnding old new (Ok (dropped + length held)) taken × IfSome before (λ bytes. bytes ≡ taken))
took_cut old new state last held place dropped before after form room ended took = (
  took.0,
  took.1,
  (meets_cut old new state last held place dropped took.0 form room ended took.2.0, took.2.1),
)

-- and where the source failed
pub took_failed : (old new : Reading) (state last : State) (held : List ℕ) (before after : Option (List ℕ)) →
    old.form ≡ OfBlocks state → length held ≤ buffer_length → HasEnded old new →
    Took before after (PassesNone state old.offset old.pending last held) →
    Took before after (λ taken. (left : ℕ) × MeetsEnding old new (Ok left) taken)
took_failed old new state last held before after form room ended took =
    let dropped = took.2.1 in (
      took.0,
      took.1,
      (dropped + length held, meets_cut old new state last held took.2.0 dropped took.0 form room ended took.2.2),
    )

-- a last one that is no packet and no fault is cut
only_cut : (x : Seen) → IsLastSeen x → ((size at count : ℕ) → x ≡ seen.Packet size at count → ⊥) →
    ((found : AnyFault) → x ≡ seen.Fault found → ⊥) → x ≡ seen.Cut
only_cut (seen.Packet size at count) is no_packet no_fault = absurd (no_packet size at count refl)
only_cut (seen.Fault found) is no_packet no_fault = absurd (no_fault found refl)
only_cut seen.Cut is no_packet no_fault = refl
only_cut (seen.Section size order) is no_packet no_fault = absurd is
only_cut (seen.Interface size interface) is no_packet no_fault = absurd is
only_cut (seen.Other size) is no_packet no_fault = absurd is

-- so many bytes are left of it
pub took_rest : (old new : Reading) (state last : State) (held : List ℕ) (place dropped left : ℕ) (x : Seen)
    (before after : Option (List ℕ)) → old.form ≡ OfBlocks state → length held ≤ buffer_length →
    HasEnded old new → IsLastSeen x → ((size at count : ℕ) → x ≡ seen.Packet size at count → ⊥) →
    ((found : AnyFault) → x ≡ seen.Fault found → ⊥) → left ≡ dropped + length held →
    Took before after (PassesTo state old.offset old.pending last held place x dropped before) →
    Took before after (λ taken. MeetsEnding old new (Ok left) taken × IfSome before (λ bytes. bytes ≡ taken))
took_rest old new state last held place dropped left x before after form room ended is no_packet no_fault size took =
    let cut : x ≡ seen.Cut = only_cut x is no_packet no_fault in
    let passes : Took before after (PassesTo state old.offset old.pending last held place seen.Cut dropped before) =
    subst (λ (y : Seen). Took before after (PassesTo state old.offset old.pending last held place y dropped before)) cut
    took in
    subst (λ (n : ℕ). Took before after
    (λ taken. MeetsEnding old new (Ok n) taken × IfSome before (λ bytes. bytes ≡ taken))) (sym size)
    (took_cut old new state last held place dropped before after form room ended passes)
