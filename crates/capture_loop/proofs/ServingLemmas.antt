-- Which packets are served of an input, of which some bytes were taken and others are left.
use Rattle.std.proofs.Common.{◌≡◌, ◌≤◌, ◌<◌, ℕ, ◌+◌, List, [], ◌∷◌, ◌++◌, length, take, Some, Result, Ok, Err, sym, ◌∙◌, ap, subst, refl, append_assoc, append-nil, length-append, arith, inl, inr}
use Rattle.std.proofs.Math.Seq.{take-append_seam}
use Rattle.capture_faults.specs.declared.fault.CaptureFault.TheVariants.{ShortHeader}
use Rattle.pcap_reader.specs.Capture.{file_head_length}
use Rattle.pcap_reader.specs.Reading.{buffer_length}
use Rattle.capture_faults.specs.declared.any_fault.AnyFault.{AnyFault}
use Rattle.capture_faults.specs.declared.any_fault.AnyFault.TheVariants as fault
use Rattle.pcapng_reader.specs.Input.{Input, IsPcapng}
use Rattle.pcapng_reader.specs.Laws.{HasInput, HoldsFront, Reaches}
use Rattle.pcapng_reader.specs.Reading.{Form, GivesPacket, HasRead, IsOpened, MeetsEnding, OfBlocks, OfRecords, Reading, beyond, head_length}
use Rattle.pcapng_reader.proofs.InputFacts.{input_refused, no_pcapng}
use Rattle.pcapng_reader.proofs.ReadFacts.{end_few, reaches_read, read_ends, read_faults, read_few, read_longer, read_more, record_few}
use Rattle.capture_faults.specs.declared.ending.Ending.{Ending}
use Rattle.capture_faults.specs.declared.ending.Ending.TheVariants.{Done, ReadFault, Limit, Fault}
use Rattle.capture_loop.specs.Input.{BeginsUpTo, IsFirstUpTo, MayFollow, ServesUpTo, TakesFew}

-- A reader met this ending, of these bytes that were taken of its source, which then had the others left.
abbrev pub EndsBy : (old new : Reading) → Ending → (taken others : List ℕ) → Type 0
EndsBy old new (Done rest) taken others = MeetsEnding old new (Ok rest) taken × (others ≡ [])
EndsBy old new (Fault found) taken others = MeetsEnding old new (Err found) taken
EndsBy old new ReadFault taken others = (rest : ℕ) × MeetsEnding old new (Ok rest) taken
EndsBy old new (Limit limit) taken others = ⊥

-- ---- how much was taken

-- some that reach no further than they may
few_of : (link : ℕ) (bytes taken others : List ℕ) (packets next : List (List ℕ)) (form : Form) (place : ℕ) →
    bytes ≡ taken ++ others → MayFollow form next → Reaches link bytes (packets ++ next) form place →
    length bytes ≤ place + beyond form + length others → TakesFew link bytes (Some others) packets
few_of link bytes taken others packets next form place parts follows reaches few =
    record {
      taken = taken;
      others = others;
      parts = parts;
      rest = refl;
      few = inr (
        next,
        form,
        place,
        follows,
        reaches,
        omega (arith, few, ap length parts, length-append taken others),
      );
    }

-- nothing may follow
none_follow : (form : Form) → MayFollow form []
none_follow (OfRecords order) = refl
none_follow (OfBlocks state) = omega arith

-- some that reach no further than the packets
few_here : (link : ℕ) (bytes taken others : List ℕ) (packets : List (List ℕ)) (form : Form) (place : ℕ) →
    bytes ≡ taken ++ others → Reaches link bytes packets form place →
    length bytes ≤ place + beyond form + length others → TakesFew link bytes (Some others) packets
few_here link bytes taken others packets form place parts reaches few =
    few_of link bytes taken others packets [] form place parts (none_follow form)
    (subst (λ (ps : List (List ℕ)). Reaches link bytes ps form place) (sym (append-nil packets)) reaches) few

-- no packet, and no more than a buffer
few_none : (link : ℕ) (taken others : List ℕ) → length taken ≤ buffer_length →
    TakesFew link (taken ++ others) (Some others) []
few_none link taken others room =
    record { taken = taken; others = others; parts = refl; rest = refl; few = inl (refl, room) }

-- a buffer is no more than is allowed
buffer_beyond : (form : Form) → buffer_length ≤ beyond form
buffer_beyond (OfRecords order) = omega arith
buffer_beyond (OfBlocks state) = omega arith

-- where an ending was met
few_ended : (link : ℕ) (bytes all others : List ℕ) (old new : Reading) (taken : List ℕ) (packets : List (List ℕ))
    (ending : Result ℕ AnyFault) → bytes ≡ all ++ others → HasRead link bytes old (Some (taken ++ others)) packets →
    MeetsEnding old new ending taken → TakesFew link bytes (Some others) packets
few_ended link bytes all others old new taken packets ending parts read meets =
    let few = end_few link bytes old new taken others packets ending read meets in
    few_here link bytes all others packets few.0 few.1 parts few.2 few.3

-- ---- the end

module _ (link : ℕ) (most : ℕ) (front taken others : List ℕ) (old new : Reading) (packets : List (List ℕ))
    (read : HasRead link front old (Some []) packets) (few : length packets ≤ most) where
  parts : front ++ (taken ++ others) ≡ (front ++ taken) ++ others
  parts = sym (append_assoc front taken others)

  -- the packets so far are all that are whole in what was taken
  cut : (rest : ℕ) → MeetsEnding old new (Ok rest) taken → Input link (front ++ taken) packets (Ok rest)
  cut rest meets =
      read_ends link (front ++ taken) old new taken packets (Ok rest)
      (read_longer link front [] taken old packets read) meets

  takes : (ending : Result ℕ AnyFault) → MeetsEnding old new ending taken →
      TakesFew link (front ++ (taken ++ others)) (Some others) packets
  takes ending meets =
      few_ended link (front ++ (taken ++ others)) (front ++ taken) others old new taken packets ending parts
      (read_longer link front [] (taken ++ others) old packets read) meets

  -- the packets so far are served
  pub Serves-by : (ending : Ending) → EndsBy old new ending taken others →
      ServesUpTo link most (front ++ (taken ++ others)) (Some others) packets ending
  Serves-by (Done rest) meets =
      let same : front ++ taken ≡ front ++ (taken ++ others) =
      ap (λ (l : List ℕ). front ++ l) (sym (append-nil taken))
      ∙ ap (λ (l : List ℕ). front ++ (taken ++ l)) (sym meets.1) in
      record {
        holds = (
          (subst (λ (l : List ℕ). Input link l packets (Ok rest)) same (cut rest meets.0), few),
          ap (λ (l : List ℕ). Some l) meets.1,
        );
        takes = takes (Ok rest) meets.0;
      }
  Serves-by (Fault found) meets =
      record {
        holds = (
          read_faults link (front ++ (taken ++ others)) old new taken others packets found
              (read_longer link front [] (taken ++ others) old packets read) meets,
          few,
        );
        takes = takes (Err found) meets;
      }
  Serves-by ReadFault meets =
      record {
        holds = (
          front ++ taken,
          others,
          Ok meets.0,
          parts,
          refl,
          inl (meets.0, refl),
          (cut meets.0 meets.1, few),
        );
        takes = takes (Ok meets.0) meets.1;
      }
  Serves-by (Limit limit) meets = absurd meets

-- one packet may follow those of an input that is pcapng
one_follows : (link : ℕ) (bytes packet : List ℕ) (form : Form) → IsPcapng bytes → IsOpened link form bytes →
    MayFollow form (packet ∷ [])
one_follows link bytes packet (OfRecords order) is head = absurd (no_pcapng link order bytes head is)
one_follows link bytes packet (OfBlocks state) is opened = omega arith

-- where one packet more was given, by the form of the input
few_next : (link : ℕ) (bytes all others : List ℕ) (old new : Reading) (taken : List ℕ) (packets : List (List ℕ)) →
    bytes ≡ all ++ others → (r : HasRead link bytes old (Some (taken ++ others)) packets) → GivesPacket old new taken →
    (form : Form) → r.form ≡ form → TakesFew link bytes (Some others) packets
few_next link bytes all others old new taken packets all_is r g (OfRecords order) is =
    let place : ℕ = head_length r.form + length r.passed in
    let few = record_few link bytes old new taken others packets order r is g in
    few_here link bytes all others packets r.form place all_is
    (reaches_read link bytes (Some (taken ++ others)) old packets r)
    (omega (arith, few, buffer_beyond r.form))
few_next link bytes all others old new taken packets all_is r g (OfBlocks state) is =
    let further = read_more link bytes old new (Some (taken ++ others)) (Some others) packets r (taken, refl, g) in
    let few = read_few link bytes others new (packets ++ new.packet ∷ []) further in
    few_of link bytes all others packets (new.packet ∷ []) few.0 few.1 all_is
    (one_follows link bytes new.packet few.0 (subst (λ (f : Form). IsOpened link f bytes) is r.opened).0 few.2.opened)
    few.2
    (omega (arith, few.3, buffer_beyond few.0))

-- one packet more was given than are served
pub Serves-limit : (link : ℕ) (most : ℕ) (front taken others : List ℕ) (old new : Reading) (packets : List (List ℕ))
    (limit : ℕ) →
    HasInput link (front ++ (taken ++ others)) → HoldsFront link (front ++ (taken ++ others)) →
    HasRead link front old (Some []) packets → GivesPacket old new taken → length packets ≡ most → limit ≡ most →
    ServesUpTo link most (front ++ (taken ++ others)) (Some others) packets (Limit limit)
Serves-limit link most front taken others old new packets limit input first read gives many is =
    let bytes : List ℕ = front ++ (taken ++ others) in
    let packet : List ℕ = new.packet in
    let further : List (List ℕ) = packets ++ packet ∷ [] in
    let here : HasRead link bytes old (Some (taken ++ others)) packets =
    read_longer link front [] (taken ++ others) old packets read in
    let few =
    read_few link bytes others new further
    (read_more link bytes old new (Some (taken ++ others)) (Some others) packets here (taken, refl, gives)) in
    let more = first further input.0 few.0 few.1 input.1 few.2 input.2 in
    let all : input.0 ≡ packets ++ (packet ∷ more.0) = more.1 ∙ append_assoc packets (packet ∷ []) more.0 in
    let longer : most < length input.0 =
    omega (arith, ap length all, length-append packets (packet ∷ more.0), many) in
    let served : take most input.0 ≡ packets =
    ap (λ (n : ℕ). take n input.0) (sym many) ∙ ap (take (length packets)) all
    ∙ take-append_seam packets (packet ∷ more.0) in
    record {
      holds = ((input.0, input.1, input.2, longer, sym served), is);
      takes = few_next link bytes (front ++ taken) others old new taken packets
          (sym (append_assoc front taken others)) here
          gives here.form refl;
    }

-- ---- an input that could not be opened

-- its head shows a fault
pub Serves-refused : (link : ℕ) (most : ℕ) (taken others : List ℕ) (found : AnyFault) →
    Input link (taken ++ others) [] (Err found) → length taken ≤ buffer_length →
    ServesUpTo link most (taken ++ others) (Some others) [] (Fault found)
Serves-refused link most taken others found input room =
    record { holds = (input, omega arith); takes = few_none link taken others room }

-- fewer bytes than a head are no pcapng input
pub short_no_pcapng : (bytes : List ℕ) → length bytes < file_head_length → IsPcapng bytes → ⊥
short_no_pcapng bytes short h = omega (arith, short, h.whole)

pub short_input : (link : ℕ) (bytes : List ℕ) → length bytes < file_head_length →
    Input link bytes [] (Err (fault.Capture (ShortHeader (length bytes))))
short_input link bytes short = input_refused link bytes (ShortHeader (length bytes)) (short_no_pcapng bytes short)
    (short, refl)

-- a read that failed before the head was there leaves no packet to serve
pub Serves-none : (link : ℕ) (most : ℕ) (taken others : List ℕ) → length taken < file_head_length →
    ServesUpTo link most (taken ++ others) (Some others) [] ReadFault
Serves-none link most taken others fewer =
    record {
      holds = (
        taken,
        others,
        Err (fault.Capture (ShortHeader (length taken))),
        refl,
        refl,
        inr (length taken, refl),
        (short_input link taken fewer, omega arith),
      );
      takes = few_none link taken others (omega (arith, fewer));
    }

-- ---- how it begins

-- the packets that were read are its first
pub first_read : (link most : ℕ) (bytes left : List ℕ) (reading : Reading) (packets : List (List ℕ)) →
    length packets ≤ most →
    HasRead link bytes reading (Some left) packets → IsFirstUpTo link most bytes packets
first_read link most bytes left reading packets few read =
    let reach = read_few link bytes left reading packets read in
    (few, inr (reach.0, reach.1, reach.2))

pub begins_read : (link most : ℕ) (front others : List ℕ) (reading : Reading) (packets : List (List ℕ)) →
    length packets ≤ most → HasRead link front reading (Some []) packets →
    BeginsUpTo link most (front ++ others) (Some others) packets
begins_read link most front others reading packets few read =
    let bytes : List ℕ = front ++ others in
    let longer = read_longer link front [] others reading packets read in
    let reach = read_few link bytes others reading packets longer in
    record {
      first = first_read link most bytes others reading packets few longer;
      takes = few_here link bytes front others packets reach.0 reach.1 refl reach.2
          (omega (arith, reach.3, buffer_beyond reach.0));
    }
