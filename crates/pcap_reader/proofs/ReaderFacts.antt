-- What the clauses of the reader say of a source that tells its bytes, from what its window holds.
use Rattle.std.proofs.Common.{◌≡◌, ℕ, ◌+◌, ◌*◌, take, length-take-le, take-append-drop, ◌≤◌, ◌⊎◌, Bool, true, false, List, [], ◌++◌, length, drop, Option, Some, None, IfSome, Result, Ok, Err, IfOk, IfErr, refl, sym, ap, ◌∙◌, subst, inl, inr, arith, append_assoc, append-nil}
use Rattle.std.specs.Io.KnownBytes.{Consumes, prepend_known}
use Rattle.std.proofs.lemmas.List.{drop-append-le, drop_all}
use Rattle.pcap_reader.specs.declared.order.Order.{Order}
use Rattle.capture_faults.specs.declared.fault.CaptureFault.{CaptureFault}
use Rattle.capture_faults.specs.declared.fault.CaptureFault.TheVariants.{ReadFault, ShortHeader, Magic, Version, LinkType, RecordLength, Memory}
use Rattle.pcap_reader.specs.declared.head.TheConstants.{FILE_HEAD}
use Rattle.pcap_reader.specs.Capture.{number, HasFileHead, ShowsFault, IsCut, IsOverlong, bytes_of}
use Rattle.pcap_reader.specs.declared.stamp.Fraction.{Fraction}
use Rattle.pcap_reader.specs.declared.stamp.Stamp.{Stamp}
use Rattle.pcap_reader.specs.Stamps.{nanoseconds_of, stamp_of}
use Rattle.pcap_reader.specs.Reading.{Reading, to_come, OfInput, OnInputFault, GivesRecord, Took, buffer_length}
use Rattle.pcap_reader.specs.Record.{BeginsRecord, OnCut, ShowsNext, given_out}
use Rattle.pcap_reader.specs.declared.record.Shown.{Shown}
use Rattle.pcap_reader.specs.declared.record.Shown.TheVariants.{Whole, Cut, Overlong}
use Rattle.byte_window.specs.Window.{Gathers, IsDrained}
use Rattle.byte_window.proofs.WindowFacts.{gathers_more, drained}
use Rattle.pcap_reader.proofs.CaptureFacts.{number_front, number_at_front, head_front, refuses_magic_front, refuses_version_front, refuses_link_front, overlong_front, first_record, first_record_saved, first_record_rest, length-first_record}

-- ---- the file head

-- what holds of a front that was taken, and of each list that begins with it, holds of the input
of_input : (before after : Option (List ℕ)) (held taken : List ℕ) (P : List ℕ → Type 0) → Consumes before after taken
    → taken ≡ held → P held → ((rest : List ℕ) → P (held ++ rest))
    → OfInput before P
of_input None after held taken P told same now more = (held, now)
of_input (Some xs) None held taken P told same now more = absurd told
of_input (Some xs) (Some ys) held taken P told same now more = subst P (sym (told ∙ ap (λ l. l ++ ys) same)) (more ys)

-- what holds of all that the source had
of_drained : (before : Option (List ℕ)) (held : List ℕ) (P : List ℕ → Type 0) → IsDrained [] held before → P held
    → OfInput before P
of_drained None held P drained now = (held, now)
of_drained (Some xs) held P drained now = subst P (sym drained) now

-- a head that is held is that of the input
head_told : (link : ℕ) (order : Order) (held : List ℕ) (before after : Option (List ℕ)) → Gathers [] held before after
    → HasFileHead link order held → OfInput before (HasFileHead link order)
head_told link order held before after g h = of_input before after held g.taken (HasFileHead link order) g.told g.held h
    (λ rest. head_front link order held rest h)

-- an input that ends within the head shows it
short_told : (link : ℕ) (have : ℕ) (held : List ℕ) (before : Option (List ℕ))
    → (FILE_HEAD ≤ length held) ⊎ IsDrained [] held before → ShowsFault link held (ShortHeader have)
    → OfInput before (λ bytes. ShowsFault link bytes (ShortHeader have))
short_told link have held before (inl enough) shown = absurd (omega (arith, shown.0))
short_told link have held before (inr drained) shown =
    of_drained before held (λ bytes. ShowsFault link bytes (ShortHeader have)) drained shown

-- a fault that the held bytes show is that of the input
fault_told : (link : ℕ) (fault : CaptureFault) (held : List ℕ) (before after : Option (List ℕ)) →
    Gathers [] held before after
    → (FILE_HEAD ≤ length held) ⊎ IsDrained [] held before → ShowsFault link held fault
    → OnInputFault fault (OfInput before (λ bytes. ShowsFault link bytes fault))
fault_told link ReadFault held before after g enough shown = tt
fault_told link (ShortHeader have) held before after g enough shown = short_told link have held before enough shown
fault_told link (Magic found) held before after g enough shown =
    of_input before after held g.taken (λ bytes. ShowsFault link bytes (Magic found)) g.told g.held shown
    (λ rest. refuses_magic_front found held rest shown)
fault_told link (Version major minor) held before after g enough shown =
    of_input before after held g.taken (λ bytes. ShowsFault link bytes (Version major minor)) g.told g.held shown
    (λ rest. refuses_version_front major minor held rest shown)
fault_told link (LinkType found) held before after g enough shown =
    of_input before after held g.taken (λ bytes. ShowsFault link bytes (LinkType found)) g.told g.held shown
    (λ rest. refuses_link_front link found held rest shown)
fault_told link (RecordLength offset found) held before after g enough shown = absurd shown
fault_told link Memory held before after g enough shown = tt

-- the bytes behind the head are still to come
rest_told : (held : List ℕ) (before after : Option (List ℕ)) → Gathers [] held before after → FILE_HEAD ≤ length held
    → IfSome before (λ bytes. prepend_known (drop FILE_HEAD held) after ≡ Some (drop FILE_HEAD bytes))
rest_told held None after g whole = tt
rest_told held (Some xs) None g whole = absurd g.told
rest_told held (Some xs) (Some ys) g whole =
    let split : xs ≡ held ++ ys = g.told ∙ ap (λ l. l ++ ys) g.held in
    ap (λ l. Some l) (sym (ap (drop FILE_HEAD) split ∙ drop-append-le FILE_HEAD held ys whole))

-- ---- a reader that was opened over a window that had been empty

-- its head is that of the input
pub opened_head : (link : ℕ) (answer : Result Reading CaptureFault) (empty held : List ℕ)
    (before after : Option (List ℕ)) →
    empty ≡ [] → Gathers empty held before after → IfOk answer (λ reader. HasFileHead link reader.order held) →
    IfOk answer (λ reader. OfInput before (HasFileHead link reader.order))
opened_head link (Ok reader) empty held before after none g head =
    head_told link reader.order held before after (subst (λ (l : List ℕ). Gathers l held before after) none g) head
opened_head link (Err fault) empty held before after none g head = tt

-- and the bytes behind the head are still to come
pub opened_rest : (link : ℕ) (answer : Result Reading CaptureFault) (empty held : List ℕ)
    (before after : Option (List ℕ)) →
    empty ≡ [] → Gathers empty held before after → IfOk answer (λ reader. HasFileHead link reader.order held) →
    IfOk answer (λ reader. reader.pending ≡ drop FILE_HEAD held) →
    IfOk answer (λ reader. IfSome before (λ bytes. to_come reader after ≡ Some (drop FILE_HEAD bytes)))
opened_rest link (Ok reader) empty held before after none g head behind =
    subst (λ (l : List ℕ). IfSome before (λ bytes. prepend_known l after ≡ Some (drop FILE_HEAD bytes))) (sym behind)
    (rest_told held before after (subst (λ (l : List ℕ). Gathers l held before after) none g) head.begins.whole)
opened_rest link (Err fault) empty held before after none g head behind = tt

-- a fault that the held bytes show is that of the input, where these are the head or all that there is
pub opened_fault : (link : ℕ) (answer : Result Reading CaptureFault) (empty held : List ℕ)
    (before after : Option (List ℕ)) →
    empty ≡ [] → Gathers empty held before after → (FILE_HEAD ≤ length held) ⊎ IsDrained empty held before →
    IfErr answer (ShowsFault link held) →
    IfErr answer (λ fault. OnInputFault fault (OfInput before (λ bytes. ShowsFault link bytes fault)))
opened_fault link (Ok reader) empty held before after none g enough shown = tt
opened_fault link (Err fault) empty held before after none g enough shown =
    fault_told link fault held before after (subst (λ (l : List ℕ). Gathers l held before after) none g)
    (subst (λ (l : List ℕ). (FILE_HEAD ≤ length held) ⊎ IsDrained l held before) none enough) shown

-- what a hold answers
abbrev answered : {E : Type 0} → Bool → Result Bool E
answered held = Ok held

-- so many bytes are held, or the source had no more
pub held_or_drained : {E P Q : Type 0} (held : Bool) → (answered {E = E} held ≡ answered {E = E} true → P) →
    (answered {E = E} held ≡ answered {E = E} false → Q) → P ⊎ Q
held_or_drained true enough end = inl (enough refl)
held_or_drained false enough end = inr (end refl)

-- where a window held no more than the head, nothing is left behind it
pub none_behind : (answer : Result Reading CaptureFault) (held head : List ℕ) → held ≡ head → length head ≤ FILE_HEAD →
    IfOk answer (λ reader. reader.pending ≡ drop FILE_HEAD held) → IfOk answer (λ reader. reader.pending ≡ [])
none_behind (Ok reader) held head same short behind =
    behind ∙ drop_all FILE_HEAD held (omega (arith, ap length same, short))
none_behind (Err fault) held head same short behind = tt

-- ---- records

-- what a window gave out of what it held and took comes out of the bytes that were to come
given_told : (pending held out rest taken : List ℕ) (before after : Option (List ℕ)) → pending ++ taken ≡ out ++ rest
    → Consumes before after taken
    → Consumes (prepend_known pending before) (prepend_known rest after) out
given_told pending held out rest taken None after same told = tt
given_told pending held out rest taken (Some xs) None same told = absurd told
given_told pending held out rest taken (Some xs) (Some ys) same told =
    ap (λ l. pending ++ l) told ∙ sym (append_assoc pending taken ys) ∙ ap (λ l. l ++ ys) same
    ∙ append_assoc out rest ys

-- a length too long that the held bytes show is shown by the bytes to come
overlong_told : (order : Order) (place offset found : ℕ) (pending held : List ℕ) (before after : Option (List ℕ))
    → Gathers pending held before after → place ≡ offset → IsOverlong order held found
    → IfSome (prepend_known pending before) (λ bytes. (place ≡ offset) × IsOverlong order bytes found)
overlong_told order place offset found pending held None after g at overlong = tt
overlong_told order place offset found pending held (Some xs) None g at overlong = absurd g.told
overlong_told order place offset found pending held (Some xs) (Some ys) g at overlong =
    let split : pending ++ xs ≡ held ++ ys = ap (λ l. pending ++ l) g.told ∙ sym (append_assoc pending g.taken ys)
    ∙ ap (λ l. l ++ ys) g.held in
    (at, subst (λ (l : List ℕ). IsOverlong order l found) (sym split) (overlong_front order found held ys overlong))

-- the same for a reader that is seen by its fields
pub overlong_seen : (seen old : Reading) (held : List ℕ) (found : ℕ) (before after : Option (List ℕ)) → seen ≡ old
    → Gathers seen.pending held before after → IsOverlong seen.order held found
    → IfSome (to_come old before) (λ bytes. (seen.offset ≡ old.offset) × IsOverlong old.order bytes found)
overlong_seen seen old held found before after same g overlong =
    subst (λ (r : Reading). IfSome (to_come r before)
    (λ bytes. (seen.offset ≡ r.offset) × IsOverlong r.order bytes found)) same
    (overlong_told seen.order seen.offset seen.offset found seen.pending held before after g refl overlong)

-- bytes that are shorter than the record that they begin do not show what comes next
pub cut_shows_none : (order : Order) (bytes : List ℕ) → IsCut order bytes → ShowsNext order bytes → ⊥
cut_shows_none order bytes (inl short) (inl (captured, whole)) = omega (arith, short, whole.whole)
cut_shows_none order bytes (inl short) (inr (found, overlong)) = omega (arith, short, overlong.head)
cut_shows_none order bytes (inr cut) (inl (captured, whole)) = omega (arith, cut.shorter, whole.whole, whole.shown)
cut_shows_none order bytes (inr cut) (inr (found, overlong)) = omega (arith, cut.within, overlong.above)

-- a fact where the record is cut, if it holds anyway
pub on_cut : {P : Type 0} (seen : Shown) → P → OnCut seen P
on_cut (Whole captured) p = tt
on_cut Cut p = p
on_cut (Overlong found) p = tt

-- what a wait for a record needs
pub ruleset awaiting = (gathers_more, drained, on_cut, cut_shows_none)

-- what these numbers of a record's head tell
abbrev told : Fraction → (seconds part wire : ℕ) → Stamp
told fraction seconds part wire =
    record { time = Some (seconds * 1000000000 + part * nanoseconds_of fraction); wire = wire }

-- a reader whose window holds this, and has this as its packet
abbrev pub holding : Reading → List ℕ → List ℕ → Reading
holding reading pending packet = record reading { pending = pending; packet = packet }

-- what a record's head tells stands in the first bytes of what begins with it
pub stamp_there : (order : Order) (fraction : Fraction) (xs ys : List ℕ) → 16 ≤ length xs →
    stamp_of order fraction (xs ++ ys) ≡ stamp_of order fraction xs
stamp_there order fraction xs ys long =
    let seconds : number order 4 (xs ++ ys) ≡ number order 4 xs = number_front order 4 xs ys (omega (arith, long)) in
    let part : number order 4 (drop 4 (xs ++ ys)) ≡ number order 4 (drop 4 xs) =
    number_at_front order 4 4 xs ys (omega (arith, long)) in
    let wire : number order 4 (drop 12 (xs ++ ys)) ≡ number order 4 (drop 12 xs) =
    number_at_front order 12 4 xs ys (omega (arith, long)) in
    ap (λ (n : ℕ). told fraction n (number order 4 (drop 4 (xs ++ ys))) (number order 4 (drop 12 (xs ++ ys)))) seconds
    ∙ ap (λ (n : ℕ). told fraction (number order 4 xs) n (number order 4 (drop 12 (xs ++ ys)))) part
    ∙ ap (λ (n : ℕ). told fraction (number order 4 xs) (number order 4 (drop 4 xs)) n) wire

-- the held bytes tell of the record that they begin with what its head tells
stamp_front : (order : Order) (fraction : Fraction) (held : List ℕ) (captured : ℕ) → BeginsRecord order held captured →
    stamp_of order fraction held ≡ stamp_of order fraction (first_record held captured).head
stamp_front order fraction held captured begins =
    let head : List ℕ = take 16 held in
    let long : length head ≡ 16 = length-take-le 16 held (omega (arith, begins.whole)) in
    ap (stamp_of order fraction) (sym (take-append-drop 16 held))
    ∙ stamp_there order fraction head (drop 16 held) (omega (arith, long))

-- a record that the held bytes begin with is given out
pub gives_record : (old : Reading) (held packet : List ℕ) (captured : ℕ) (before after : Option (List ℕ))
    → old.ended ≡ false → Gathers old.pending held before after → BeginsRecord old.order held captured
    → length held ≤ buffer_length
    → GivesRecord old (given_out (holding old held packet) captured) (to_come old before)
    (to_come (given_out (holding old held packet) captured) after)
gives_record old held packet captured before after going g begins room =
    let saved = first_record held captured in
    let same : old.pending ++ g.taken ≡ bytes_of saved ++ drop captured (drop 16 held) = g.held
    ∙ sym (first_record_rest held captured) in
    record {
      saved = saved;
      is_saved = first_record_saved old.order held captured begins;
      packet = refl;
      stamp = stamp_front old.order old.fraction held captured begins;
      told = given_told old.pending held (bytes_of saved) (drop captured (drop 16 held)) g.taken before after same
          g.told;
      taken = g.taken;
      held = same;
      room = subst (λ (l : List ℕ). length l ≤ buffer_length) (sym (first_record_rest held captured)) room;
      offset = ap (λ n. old.offset + n) (sym (length-first_record old.order held captured begins));
      given = refl;
      goes_on = going;
    }

-- a source that told just what was taken of it
abbrev as_told : {old new : List ℕ} {before after : Option (List ℕ)} → (g : Gathers old new before after) →
    Gathers old new (Some g.taken) (Some [])
as_told g = record { taken = g.taken; held = g.held; told = sym (append-nil g.taken) }

-- what was taken of the source, with a record given out
pub took_record : (old : Reading) (held packet : List ℕ) (captured : ℕ) (before after : Option (List ℕ)) →
    old.ended ≡ false → Gathers old.pending held before after → BeginsRecord old.order held captured →
    length held ≤ buffer_length →
    Took before after (λ taken. GivesRecord old (given_out (holding old held packet) captured)
    (to_come old (Some taken)) (to_come (given_out (holding old held packet) captured) (Some [])))
took_record old held packet captured before after going g begins room = (
  g.taken,
  g.told,
  gives_record old held packet captured (Some g.taken) (Some []) going (as_told g) begins room,
)
