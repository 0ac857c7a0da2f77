-- What a reader of a savefile answers, as one of an input.
use Rattle.std.proofs.Common.{◌≡◌, ℕ, ◌+◌, List, [], ◌∷◌, ◌++◌, length, Option, Some, None, IfSome, Result, Ok, Err, refl, sym, ap, ◌∙◌, subst, arith, append-nil, length-append}
use Rattle.std.specs.Io.KnownBytes.{Consumes}
use Rattle.std.proofs.lemmas.Grind.{common_steps}
use Rattle.std.proofs.lemmas.List.{nil_from_length}
use Rattle.std.proofs.lemmas.List.Elements.{All-cons}
use Rattle.pcap_reader.specs.declared.order.Order.{Order}
use Rattle.capture_faults.specs.declared.fault.CaptureFault.{CaptureFault}
use Rattle.capture_faults.specs.declared.fault.CaptureFault.TheVariants as capture
use Rattle.pcap_reader.specs.declared.reader.Item.{Item}
use Rattle.pcap_reader.specs.declared.reader.Item.TheVariants.{Packet, End, Rest}
use Rattle.pcap_reader.specs.Capture.{Saved, bytes_of, IsCut, IsRemainder, IsSaved}
use Rattle.pcap_reader.specs.Reading.{GivesNone, GivesRecord, IfEnding, MatchPacket, OnReadFault, Took, to_come}
use Rattle.pcap_reader.specs.Reading.{Reading as OneFile}
use Rattle.pcap_reader.specs.Record.{BeginsRecord}
use Rattle.capture_faults.specs.declared.any_fault.AnyFault.{AnyFault}
use Rattle.capture_faults.specs.declared.any_fault.AnyFault.TheVariants as fault
use Rattle.pcap_reader.proofs.OneCapture.{saved_begins}
use Rattle.pcap_reader.proofs.ReaderFacts.{stamp_there}
use Rattle.pcapng_reader.specs.Input.{any_ending}
use Rattle.pcapng_reader.specs.Inner.{of_savefile}
use Rattle.pcapng_reader.specs.Reading.{Answers, AreParts, Form, GivesPacket, HoldsPacket, MeetsEnding, OfRecords, Reading}

-- ---- the same answer of equal readers

-- an answer between equal readers and sources
pub answers_same : (old one new two : Reading) (before after now : Option (List ℕ))
    (result other : Result Item AnyFault) →
    one ≡ old → two ≡ new → now ≡ after → other ≡ result → Answers one two before now other →
    Answers old new before after result
answers_same old one new two before after now result other p q r s h =
    subst (λ (x : Result Item AnyFault). Answers old new before after x) s
    (subst (λ (l : Option (List ℕ)). Answers old new before l other) r
    (subst (λ (x : Reading). Answers old x before now other) q
    (subst (λ (x : Reading). Answers x two before now other) p h)))

-- a packet that is given between equal readers
pub gives_same : (old one new two : Reading) (taken : List ℕ) → one ≡ old → two ≡ new → GivesPacket one two taken →
    GivesPacket old new taken
gives_same old one new two taken p q h =
    subst (λ (x : Reading). GivesPacket old x taken) q (subst (λ (x : Reading). GivesPacket x two taken) p h)

-- ---- a packet

-- one record gives one packet
one_record : (order : Order) (offset : ℕ) (saved : Saved) (packet : List ℕ) (form : Form) → IsSaved order saved →
    packet ≡ saved.packet → form ≡ OfRecords order →
    AreParts (OfRecords order) offset (bytes_of saved) (packet ∷ []) form
one_record order offset saved packet form is same last = (
  saved ∷ [],
  All-cons (IsSaved order) saved [] is (grind (arith, common_steps)),
  sym (append-nil (bytes_of saved)),
  ap (λ (l : List ℕ). l ∷ []) same,
  last,
)

-- behind no record
no_record : (order : Order) (offset : ℕ) → AreParts (OfRecords order) offset [] [] (OfRecords order)
no_record order offset = ([], grind (arith, common_steps), refl, refl, refl)

-- a record that is given is a packet
of_record : (old new : OneFile) (taken : List ℕ) → new.order ≡ old.order → new.fraction ≡ old.fraction →
    GivesRecord old new (to_come old (Some taken)) (to_come new (Some [])) →
    GivesPacket (of_savefile old) (of_savefile new) taken
of_record old new taken order fraction g =
    record {
      passed = bytes_of g.saved;
      parts = one_record old.order old.offset g.saved new.packet (OfRecords new.order) g.is_saved g.packet
          (ap (λ (o : Order). OfRecords o) order);
      held = g.told ∙ ap (λ (l : List ℕ). bytes_of g.saved ++ l) (append-nil new.pending);
      room = g.room;
      offset = g.offset;
      starts = record {
        before = [];
        last = OfRecords old.order;
        parts = no_record old.order old.offset;
        rest = bytes_of g.saved;
        whole = refl;
        is = omega (
          arith,
          g.offset,
          length-append g.saved.head g.saved.packet,
          g.is_saved.head_length,
          ap length g.packet,
        );
        next = (
          length g.saved.packet,
          subst (λ (l : List ℕ). BeginsRecord old.order l (length g.saved.packet)) (append-nil (bytes_of g.saved))
              (saved_begins old.order g.saved [] g.is_saved),
        );
      };
      stamp = g.stamp ∙ sym (stamp_there old.order old.fraction g.saved.head g.saved.packet
          (omega (arith, g.is_saved.head_length)));
      fraction = fraction;
      given = g.given;
      goes_on = g.goes_on;
    }

-- ---- an ending

-- what was held and taken is held
all_held : (old new : OneFile) (taken : List ℕ) →
    GivesNone old new (to_come old (Some taken)) (to_come new (Some [])) → old.pending ++ taken ≡ new.pending
all_held old new taken g = sym g.told ∙ append-nil new.pending

-- where no record is given, an ending is met
of_none : (old new : OneFile) (taken : List ℕ) (kept : Result ℕ CaptureFault) →
    GivesNone old new (to_come old (Some taken)) (to_come new (Some [])) →
    IsRemainder old.order old.offset new.pending kept →
    MeetsEnding (of_savefile old) (of_savefile new) (any_ending kept) taken
of_none old new taken kept g ends =
    let place : old.offset ≡ old.offset + 0 = omega arith in
    record {
      passed = [];
      last = OfRecords old.order;
      parts = no_record old.order old.offset;
      rest = new.pending;
      held = all_held old new taken g;
      ends = (
        kept,
        subst (λ (n : ℕ). IsRemainder old.order n new.pending kept) place ends,
        refl,
      );
      room = omega (arith, g.room);
      packet = g.packet;
      given = g.given;
      ended = g.ended;
    }

-- where a remainder is met that is no fault, all was taken that was told
all_taken : (old new : OneFile) (before after : Option (List ℕ)) (taken : List ℕ) (left : ℕ) →
    Consumes before after taken → GivesNone old new (to_come old (Some taken)) (to_come new (Some [])) →
    IfSome (to_come old before) (λ bytes. IsRemainder old.order old.offset bytes (Ok left)) →
    IsRemainder old.order old.offset new.pending (Ok left) → IfSome before (λ bytes. bytes ≡ taken)
all_taken old new None after taken left told g all held = tt
all_taken old new (Some xs) None taken left told g all held = absurd told
all_taken old new (Some xs) (Some ys) taken left told g all held =
    let none : ys ≡ [] = nil_from_length ys (omega (
      arith,
      ap length told,
      length-append taken ys,
      ap length (all_held old new taken g),
      length-append old.pending taken,
      length-append old.pending xs,
      all.1,
      held.1,
    )) in
    told ∙ ap (λ (l : List ℕ). taken ++ l) none ∙ append-nil taken

-- ---- answers

-- an item that is answered
pub answers_item : (old new : OneFile) (before after : Option (List ℕ)) (item : Item) → new.order ≡ old.order →
    new.fraction ≡ old.fraction →
    MatchPacket (Ok item)
    (Took before after (λ taken. GivesRecord old new (to_come old (Some taken)) (to_come new (Some []))))
    (Took before after (λ taken. GivesNone old new (to_come old (Some taken)) (to_come new (Some [])))) →
    IfEnding (Ok item) (λ ending. IfSome (to_come old before)
    (λ bytes. IsRemainder old.order old.offset bytes ending)) →
    IfEnding (Ok item) (IsRemainder old.order old.offset new.pending) →
    Answers (of_savefile old) (of_savefile new) before after (Ok item)
answers_item old new before after Packet order fraction took all held =
    (took.0, took.1, of_record old new took.0 order fraction took.2)
answers_item old new before after End order fraction took all held = (
  took.0,
  took.1,
  (
    of_none old new took.0 (Ok 0) took.2 held,
    all_taken old new before after took.0 0 took.1 took.2 all held,
  ),
)
answers_item old new before after (Rest left) order fraction took all held = (
  held.0,
  (
    took.0,
    took.1,
    (
      of_none old new took.0 (Ok left) took.2 held.1,
      all_taken old new before after took.0 left took.1 took.2 all.1 held.1,
    ),
  ),
)

-- a fault that is answered
pub answers_refused : (old new : OneFile) (before after : Option (List ℕ)) (found : CaptureFault) →
    Took before after (λ taken. GivesNone old new (to_come old (Some taken)) (to_come new (Some []))) →
    IfEnding (Err found) (IsRemainder old.order old.offset new.pending) →
    OnReadFault found (IsCut old.order new.pending) →
    Answers (of_savefile old) (of_savefile new) before after (Err (fault.Capture found))
answers_refused old new before after capture.ReadFault took held cut = (
  took.0,
  took.1,
  (length new.pending, of_none old new took.0 (Ok (length new.pending)) took.2 (cut, refl)),
)
answers_refused old new before after (capture.ShortHeader have) took held cut = absurd held
answers_refused old new before after (capture.Magic found) took held cut = absurd held
answers_refused old new before after (capture.Version major minor) took held cut = absurd held
answers_refused old new before after (capture.LinkType found) took held cut = absurd held
answers_refused old new before after (capture.RecordLength place found) took held cut =
    (took.0, took.1, of_none old new took.0 (Err (capture.RecordLength place found)) took.2 held)
answers_refused old new before after capture.Memory took held cut = absurd held

-- ---- a packet that is held

-- a record that is held and given is a packet
pub gives_held : (old new : OneFile) → new.order ≡ old.order → new.fraction ≡ old.fraction →
    ((left : Option (List ℕ)) → GivesRecord old new (to_come old left) (to_come new left)) →
    GivesPacket (of_savefile old) (of_savefile new) []
gives_held old new order fraction gives = of_record old new [] order fraction (gives (Some []))

-- no record is whole in what is held
pub none_held : (now : Reading) (one : OneFile) → of_savefile one ≡ now →
    ((captured : ℕ) → BeginsRecord one.order one.pending captured → ⊥) →
    HoldsPacket now.form now.offset now.pending → ⊥
none_held now one is none =
    subst (λ (r : Reading). HoldsPacket r.form r.offset r.pending → ⊥) is (λ h. none h.0 h.1)
