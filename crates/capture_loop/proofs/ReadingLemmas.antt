-- How far an input has been read, one packet further, and how it ends.
use Rattle.std.proofs.Common.{◌≡◌, ◌≤◌, ℕ, ◌+◌, List, [], ◌∷◌, ◌++◌, length, Option, Some, None, Ok, Err, sym, ◌∙◌, ap, subst, refl, append_assoc, append-nil, length-append, length-take-le, arith}
use Rattle.std.specs.Option.{IfSome}
use Rattle.std.specs.Io.KnownBytes.{Consumes}
use Rattle.std.proofs.KnownBytes.{Consumes-trans}
use Rattle.std.proofs.lemmas.List.{take-append-le}
use Rattle.capture_faults.specs.declared.fault.CaptureFault.{CaptureFault}
use Rattle.capture_faults.specs.declared.fault.CaptureFault.TheVariants as capture
use Rattle.pcap_reader.specs.Capture.{IsRemainder, ShowsFault, file_head_length}
use Rattle.pcap_reader.specs.Reading.{Took, buffer_length}
use Rattle.pcap_reader.proofs.CaptureFacts.{refuses_link_front, refuses_magic_front, refuses_version_front}
use Rattle.capture_faults.specs.declared.any_fault.AnyFault.{AnyFault}
use Rattle.capture_faults.specs.declared.any_fault.AnyFault.TheVariants as fault
use Rattle.pcapng_reader.specs.Input.{Input, IsPcapng}
use Rattle.pcapng_reader.specs.Laws.{HasInput, HoldsFront}
use Rattle.pcapng_reader.specs.Reading.{Answers, Form, GivesPacket, HasRead, IsAtStart, IsEnd, IsOpenedOn, OfBlocks, OfRecords, OnRefused, Reading}
use Rattle.pcapng_reader.proofs.AnswerFacts.{no_capture_fault}
use Rattle.pcapng_reader.proofs.InputFacts.{input_refused}
use Rattle.pcapng_reader.proofs.ReadFacts.{read_longer, read_more, read_start, read_starts}
use Rattle.capture_faults.specs.Endings.{IsEnding}
use Rattle.capture_faults.specs.declared.ending.Ending.{Ending}
use Rattle.capture_faults.specs.declared.ending.Ending.TheVariants.{Done, ReadFault, Limit, Fault}
use Rattle.list_laws.proofs.Options.{some_same}
use Rattle.capture_loop.specs.Endings.{ending_at, ending_of, OnLimit}
use Rattle.capture_loop.specs.Input.{ServesUpTo, StopsAt}
use Rattle.capture_loop.specs.Reading.{HaveCome, HaveEnded, MeetsEnd}
use Rattle.capture_loop.proofs.ServingLemmas.{EndsBy, Serves-by, Serves-limit, Serves-none, Serves-refused, short_input}

-- ---- what is told and what was taken

-- A fact of the bytes of a source and of those that are left, by the bytes that
-- were taken: where the source tells them.
pub told_by : (P : List ℕ → Option (List ℕ) → Type 0) (first now : Option (List ℕ)) (bytes taken : List ℕ) →
    first ≡ Some bytes → Consumes first now taken →
    ((others : List ℕ) → now ≡ Some others → P (taken ++ others) (Some others)) → P bytes now
told_by P None now bytes taken is lost make = absurd (cc)
told_by P (Some xs) None bytes taken is lost make = absurd lost
told_by P (Some xs) (Some ys) bytes taken is lost make =
    subst (λ (l : List ℕ). P l (Some ys)) (sym lost ∙ some_same is) (make ys refl)

-- and of what was taken, as of a source that told just these
pub taken_by : (P : List ℕ → Option (List ℕ) → Type 0) (taken : List ℕ) → P (taken ++ []) (Some []) →
    P taken (Some [])
taken_by P taken here = subst (λ (l : List ℕ). P l (Some [])) (append-nil taken) here

-- a source that told its bytes tells them still
still_told : (first now : Option (List ℕ)) (bytes taken : List ℕ) → first ≡ Some bytes → Consumes first now taken →
    (others : List ℕ) × (now ≡ Some others) × (bytes ≡ taken ++ others)
still_told None now bytes taken is lost = absurd (cc)
still_told (Some xs) None bytes taken is lost = absurd lost
still_told (Some xs) (Some ys) bytes taken is lost = (ys, refl, some_same (sym is) ∙ lost)

none_of : (xs ys : List ℕ) → xs ≡ xs ++ ys → ys ≡ []
none_of xs [] same = refl
none_of xs (y ∷ ys) same = absurd (omega (arith, ap length same, length-append xs (y ∷ ys)))

-- nothing is left where all was taken
none_left : (before after : Option (List ℕ)) (bytes taken others : List ℕ) → before ≡ Some bytes →
    after ≡ Some others → Consumes before after taken → IfSome before (λ told. told ≡ taken) → others ≡ []
none_left before after bytes taken others is left lost all =
    let still = still_told before after bytes taken is lost in
    let same : bytes ≡ taken = subst (λ (known : Option (List ℕ)). IfSome known (λ told. told ≡ taken)) is all in
    none_of taken others
    (sym same ∙ still.2 ∙ ap (λ (l : List ℕ). taken ++ l) (some_same (sym still.1 ∙ left)))

-- ---- one packet further

pub HaveCome-more : (link : ℕ) (first before after : Option (List ℕ)) (old new : Reading) (packets : List (List ℕ)) →
    HaveCome link first before old packets → Took before after (GivesPacket old new) →
    HaveCome link first after new (packets ++ new.packet ∷ [])
HaveCome-more link first before after old new packets come took =
    let front : List ℕ = come.0 in (
      front ++ took.0,
      Consumes-trans first before after front took.0 come.1 took.1,
      read_more link (front ++ took.0) old new (Some took.0) (Some []) packets
          (read_longer link front [] took.0 old packets come.2) (took.0, sym (append-nil took.0), took.2),
    )

-- the packet that is given starts there
pub Took-goes_on : (link : ℕ) (first before after : Option (List ℕ)) (old new : Reading) (packets : List (List ℕ)) →
    HaveCome link first before old packets → Took before after (GivesPacket old new) →
    StopsAt link (length packets) first after new.start
Took-goes_on link first before after old new packets come took =
    let front : List ℕ = come.0 in
    let bytes : List ℕ = front ++ took.0 in (
      bytes,
      Consumes-trans first before after front took.0 come.1 took.1,
      record {
        packets = packets;
        count = refl;
        next = read_starts link bytes old new took.0 [] packets
            (subst (λ (l : List ℕ). HasRead link bytes old (Some l) packets) (sym (append-nil took.0))
            (read_longer link front [] took.0 old packets come.2))
            took.2;
      },
    )

-- ---- the end

-- an ending that is met is no limit
pub OnLimit-none : (old new : Reading) (before after : Option (List ℕ)) (ending : Ending) (P : Type 0) →
    MeetsEnd old new before after ending → OnLimit ending P
OnLimit-none old new before after (Done rest) P meets = tt
OnLimit-none old new before after ReadFault P meets = tt
OnLimit-none old new before after (Limit limit) P meets = absurd meets
OnLimit-none old new before after (Fault found) P meets = tt

-- by what was taken
ends_by : (old new : Reading) (before after : Option (List ℕ)) (ending : Ending) →
    MeetsEnd old new before after ending →
    (taken : List ℕ) × Consumes before after taken × EndsBy old new ending taken []
    × ((bytes others : List ℕ) → before ≡ Some bytes → after ≡ Some others → EndsBy old new ending taken others)
ends_by old new before after (Done rest) meets = (
  meets.0,
  meets.1,
  (meets.2.0, refl),
  λ bytes others is left.
      (meets.2.0, none_left before after bytes meets.0 others is left meets.1 meets.2.1),
)
ends_by old new before after (Fault found) meets = (meets.0, meets.1, meets.2, λ bytes others is left. meets.2)
ends_by old new before after ReadFault meets = (meets.0, meets.1, meets.2, λ bytes others is left. meets.2)
ends_by old new before after (Limit limit) meets = absurd meets

pub HaveEnded-ended : (most : ℕ) (link : ℕ) (first before after : Option (List ℕ)) (old new : Reading)
    (packets : List (List ℕ)) (ending : Ending) → HaveCome link first before old packets → length packets ≤ most →
    MeetsEnd old new before after ending → HaveEnded most link first after packets ending
HaveEnded-ended most link first before after old new packets ending come few meets =
    let front : List ℕ = come.0 in
    let ends = ends_by old new before after ending meets in
    let all : List ℕ = front ++ ends.0 in
    let lost : Consumes first after all = Consumes-trans first before after front ends.0 come.1 ends.1 in
    let P : List ℕ → Option (List ℕ) → Type 0 = λ bytes left. ServesUpTo link most bytes left packets ending in
    let make : (others : List ℕ) → EndsBy old new ending ends.0 others → P (all ++ others) (Some others) =
    λ others met.
    subst (λ (l : List ℕ). P l (Some others)) (sym (append_assoc front ends.0 others))
    (Serves-by link most front ends.0 others old new packets come.2 few ending met) in
    record {
      told = λ bytes is.
          let still = still_told first before bytes front is come.1 in
          told_by P first after bytes all is lost
          (λ others left. make others (ends.3 still.0 others still.1 left));
      took = (all, lost, taken_by P all (make [] ends.2));
    }

-- one packet more was given than are served
pub HaveEnded-limit : (most : ℕ) (link : ℕ) (first before after : Option (List ℕ)) (old new : Reading)
    (packets : List (List ℕ)) (limit : ℕ) → ((bytes : List ℕ) → HasInput link bytes) →
    ((bytes : List ℕ) → HoldsFront link bytes) → HaveCome link first before old packets → length packets ≡ most →
    Took before after (GivesPacket old new) → limit ≡ most → HaveEnded most link first after packets (Limit limit)
HaveEnded-limit most link first before after old new packets limit input front come all took is =
    let begun : List ℕ = come.0 in
    let taken : List ℕ = begun ++ took.0 in
    let lost : Consumes first after taken = Consumes-trans first before after begun took.0 come.1 took.1 in
    let P : List ℕ → Option (List ℕ) → Type 0 = λ bytes left. ServesUpTo link most bytes left packets (Limit limit) in
    let make : (others : List ℕ) → P (taken ++ others) (Some others) = λ others.
    let bytes : List ℕ = begun ++ (took.0 ++ others) in
    subst (λ (l : List ℕ). P l (Some others)) (sym (append_assoc begun took.0 others))
    (Serves-limit link most begun took.0 others old new packets limit (input bytes) (front bytes) come.2 took.2 all
    is) in
    record {
      told = λ bytes told. told_by P first after bytes taken told lost (λ others left. make others);
      took = (taken, lost, taken_by P taken (make []));
    }

-- a fault that is met, or a failed read
pub answers_met : (old new : Reading) (before after : Option (List ℕ)) (found : AnyFault) →
    Answers old new before after (Err found) → MeetsEnd old new before after (ending_of found)
answers_met old new before after (fault.Capture capture.ReadFault) met = met
answers_met old new before after (fault.Capture (capture.ShortHeader have)) met = met
answers_met old new before after (fault.Capture (capture.Magic found)) met = met
answers_met old new before after (fault.Capture (capture.Version major minor)) met = met
answers_met old new before after (fault.Capture (capture.LinkType found)) met = met
answers_met old new before after (fault.Capture (capture.RecordLength offset found)) met = met
answers_met old new before after (fault.Capture capture.Memory) met = met
answers_met old new before after (fault.ByteOrder offset bytes) met = met
answers_met old new before after (fault.BlockLength offset found) met = met
answers_met old new before after (fault.Trailer offset found) met = met
answers_met old new before after (fault.SectionVersion offset major minor) met = met
answers_met old new before after (fault.Interface offset found) met = met
answers_met old new before after (fault.CapturedLength offset found) met = met
answers_met old new before after (fault.Interfaces offset) met = met
answers_met old new before after (fault.Blocks offset) met = met

-- want of memory is no ending of parts
no_memory : (form : Form) (offset : ℕ) (bytes : List ℕ) → IsEnd form offset bytes (Err (fault.Capture capture.Memory)) →
    ⊥
no_memory (OfRecords order) offset bytes (Ok rest, h, is) = absurd (cc)
no_memory (OfRecords order) offset bytes (Err found, h, is) =
    let same : capture.Memory ≡ found = cc in
    subst (λ (f : CaptureFault). IsRemainder order offset bytes (Err f)) (sym same) h
no_memory (OfBlocks state) offset bytes h =
    no_capture_fault state offset bytes capture.Memory h

-- so what is met is an ending
pub answers_ending : (old new : Reading) (before after : Option (List ℕ)) (found : AnyFault) →
    Answers old new before after (Err found) → IsEnding (ending_of found)
answers_ending old new before after (fault.Capture capture.ReadFault) met = tt
answers_ending old new before after (fault.Capture (capture.ShortHeader have)) met = tt
answers_ending old new before after (fault.Capture (capture.Magic found)) met = tt
answers_ending old new before after (fault.Capture (capture.Version major minor)) met = tt
answers_ending old new before after (fault.Capture (capture.LinkType found)) met = tt
answers_ending old new before after (fault.Capture (capture.RecordLength offset found)) met = tt
answers_ending old new before after (fault.Capture capture.Memory) met =
    absurd (no_memory met.2.last (old.offset + length met.2.passed) met.2.rest met.2.ends)
answers_ending old new before after (fault.ByteOrder offset bytes) met = tt
answers_ending old new before after (fault.BlockLength offset found) met = tt
answers_ending old new before after (fault.Trailer offset found) met = tt
answers_ending old new before after (fault.SectionVersion offset major minor) met = tt
answers_ending old new before after (fault.Interface offset found) met = tt
answers_ending old new before after (fault.CapturedLength offset found) met = tt
answers_ending old new before after (fault.Interfaces offset) met = tt
answers_ending old new before after (fault.Blocks offset) met = tt

-- ---- the start

pub HaveCome-start : (link : ℕ) (first now : Option (List ℕ)) (reading : Reading) → IsAtStart reading →
    Took first now (IsOpenedOn link reading) → HaveCome link first now reading []
HaveCome-start link first now reading start took = (took.0, took.1, read_start link reading took.0 took.2 start)

-- ---- an input that could not be opened

module _ (most : ℕ) (link : ℕ) (first after : Option (List ℕ)) where
  -- it serves no packet, whatever follows
  refused : (taken : List ℕ) (ending : Ending) → Consumes first after taken →
      ((others : List ℕ) → ServesUpTo link most (taken ++ others) (Some others) [] ending) →
      HaveEnded most link first after [] ending
  refused taken ending lost make =
      let P : List ℕ → Option (List ℕ) → Type 0 = λ bytes left. ServesUpTo link most bytes left [] ending in
      record {
        told = λ bytes is. told_by P first after bytes taken is lost (λ others left. make others);
        took = (taken, lost, taken_by P taken (make []));
      }

  -- what shows no pcapng input shows none where more bytes follow
  no_pcapng : (taken others : List ℕ) → file_head_length ≤ length taken → (IsPcapng taken → ⊥) →
      IsPcapng (taken ++ others) → ⊥
  no_pcapng taken others whole none pcapng =
      none
      (record { whole = whole; begins = sym (take-append-le 4 taken others (omega (arith, whole))) ∙ pcapng.begins })

  -- its head shows a fault
  shown : (found : CaptureFault) → ((taken : List ℕ) → ShowsFault link taken found → file_head_length ≤ length taken) →
      ((taken others : List ℕ) → ShowsFault link taken found → ShowsFault link (taken ++ others) found) →
      Took first after (λ taken. (IsPcapng taken → ⊥) × ShowsFault link taken found × (length taken ≤ buffer_length)) →
      HaveEnded most link first after [] (Fault (fault.Capture found))
  shown found whole longer took =
      refused took.0 (Fault (fault.Capture found)) took.1
      (λ others.
      Serves-refused link most took.0 others (fault.Capture found)
      (input_refused link (took.0 ++ others) found (no_pcapng took.0 others (whole took.0 took.2.1) took.2.0)
      (longer took.0 others took.2.1)) took.2.2)

  -- it ended within its head
  short : (have : ℕ) →
      Took first after
      (λ taken. ShowsFault link taken (capture.ShortHeader have) × IfSome first (λ bytes. bytes ≡ taken)) →
      HaveEnded most link first after [] (Fault (fault.Capture (capture.ShortHeader have)))
  short have took =
      let ending : Ending = Fault (fault.Capture (capture.ShortHeader have)) in
      let taken : List ℕ = took.0 in
      let P : List ℕ → Option (List ℕ) → Type 0 = λ bytes left. ServesUpTo link most bytes left [] ending in
      let here : Input link taken [] (Err (fault.Capture (capture.ShortHeader have))) =
      subst (λ (n : ℕ). Input link taken [] (Err (fault.Capture (capture.ShortHeader n)))) (sym took.2.0.1)
      (short_input link taken took.2.0.0) in
      let make : (others : List ℕ) → others ≡ [] → P (taken ++ others) (Some others) = λ others none.
      Serves-refused link most taken others (fault.Capture (capture.ShortHeader have))
      (subst (λ (l : List ℕ). Input link l [] (Err (fault.Capture (capture.ShortHeader have))))
      (sym (append-nil taken) ∙ ap (λ (l : List ℕ). taken ++ l) (sym none)) here)
      (omega (arith, took.2.0.0)) in
      record {
        told = λ bytes is.
            told_by P first after bytes taken is took.1
            (λ others left. make others (none_left first after bytes taken others is left took.1 took.2.1));
        took = (taken, took.1, taken_by P taken (make [] refl));
      }

  of_fault : (found : AnyFault) (ending : Ending) → Some (Fault found) ≡ Some ending →
      HaveEnded most link first after [] (Fault found) → HaveEnded most link first after [] ending
  of_fault found ending is ended =
      let same : Fault found ≡ ending = cc in
      subst (HaveEnded most link first after []) same ended

  stopped : (found : CaptureFault) (ending : Ending) → ending_at (fault.Capture found) ≡ Some ending →
      OnRefused link (fault.Capture found) first after → HaveEnded most link first after [] ending
  stopped capture.ReadFault ending is takes =
      let same : ReadFault ≡ ending = cc in
      subst (HaveEnded most link first after []) same
      (refused takes.taken ReadFault takes.told (λ others. Serves-none link most takes.taken others takes.fewer))
  stopped capture.Memory ending is took = absurd (cc)
  stopped (capture.ShortHeader have) ending is took =
      of_fault (fault.Capture (capture.ShortHeader have)) ending is (short have took)
  stopped (capture.Magic found) ending is took =
      of_fault (fault.Capture (capture.Magic found)) ending is
      (shown (capture.Magic found) (λ taken h. h.whole) (refuses_magic_front found) took)
  stopped (capture.Version major minor) ending is took =
      of_fault (fault.Capture (capture.Version major minor)) ending is
      (shown (capture.Version major minor) (λ taken h. h.begins.whole) (refuses_version_front major minor) took)
  stopped (capture.LinkType found) ending is took =
      of_fault (fault.Capture (capture.LinkType found)) ending is
      (shown (capture.LinkType found) (λ taken h. h.begins.whole) (refuses_link_front link found) took)
  stopped (capture.RecordLength offset found) ending is took = absurd took.2.1

  pub HaveEnded-stopped : (found : AnyFault) (ending : Ending) → ending_at found ≡ Some ending →
      OnRefused link found first after → HaveEnded most link first after [] ending
  HaveEnded-stopped (fault.Capture found) ending is refused = stopped found ending is refused
  HaveEnded-stopped (fault.ByteOrder offset bytes) ending is refused = absurd refused
  HaveEnded-stopped (fault.BlockLength offset found) ending is refused = absurd refused
  HaveEnded-stopped (fault.Trailer offset found) ending is refused = absurd refused
  HaveEnded-stopped (fault.SectionVersion offset major minor) ending is refused = absurd refused
  HaveEnded-stopped (fault.Interface offset found) ending is refused = absurd refused
  HaveEnded-stopped (fault.CapturedLength offset found) ending is refused = absurd refused
  HaveEnded-stopped (fault.Interfaces offset) ending is refused = absurd refused
  HaveEnded-stopped (fault.Blocks offset) ending is refused = absurd refused

-- an input that could not be opened has no packet too many
pub OnLimit-unopened : (link : ℕ) (first now : Option (List ℕ)) (ending : Ending) →
    ((limit : ℕ) → HaveEnded limit link first now [] ending) → OnLimit ending ⊥
OnLimit-unopened link first now (Done rest) ended = tt
OnLimit-unopened link first now ReadFault ended = tt
OnLimit-unopened link first now (Limit limit) ended =
    let more = (ended 1).took.2.holds.0 in
    omega (arith, ap length more.4, length-take-le 1 more.0 (omega (arith, more.3)))
OnLimit-unopened link first now (Fault found) ended = tt

-- what is never so
pub OnLimit-any : (ending : Ending) (P : Type 0) → OnLimit ending ⊥ → OnLimit ending P
OnLimit-any (Done rest) P none = tt
OnLimit-any ReadFault P none = tt
OnLimit-any (Limit limit) P none = absurd none
OnLimit-any (Fault found) P none = tt
