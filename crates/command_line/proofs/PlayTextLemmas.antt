-- The texts of a schedule and of stops that are written from them are read back.
use Rattle.std.proofs.Common.{◌≡◌, ◌∙◌, ◌+◌, ◌-◌, ◌<◌, ◌≤◌, ◌^◌, ◌==◌, ℕ, Bool, true, false, not, cond, List, []}
use Rattle.std.proofs.Common.{◌∷◌, ◌++◌}
use Rattle.std.proofs.Common.{Option, Some, None, IfSome, ap, ap₂, refl, sym, map, length, take, drop, get_or}
use Rattle.std.proofs.Common.{arith, nat_lt, codes}
use Rattle.std.specs.Fmt.{decimal as written}
use Rattle.std.specs.Int.{IsInRange}
use Rattle.std.specs.List.{All, AllByRecursion, after_first, before_first, join_with_byte, position_or_len}
use Rattle.std.specs.List.{prefix_len, range_with_len}
use Rattle.std.specs.Option.{option_map}
use Rattle.std.specs.Prelude.{replicate}
use Rattle.std.specs.Str.{bytes_eq}
use Rattle.std.proofs.lemmas.Bool.{eq-eqb, ne_eqb}
use Rattle.std.proofs.lemmas.Bool.Decides.{nat_tests}
use Rattle.std.proofs.lemmas.Fmt.{decimal_nonempty, digits_decimal}
use Rattle.std.proofs.lemmas.List.{append_assoc, drop_at, length-append, length-map, take_at}
use Rattle.std.proofs.lemmas.List.Elements.{All-append, All-from_recursion, recursion_from_All}
use Rattle.std.proofs.lemmas.List.Splits.{slice_split_at, slice_split_none}
use Rattle.std.proofs.lemmas.Slice.Eq.{bytes_eq-Decides}
use Rattle.std.proofs.lemmas.Str.Parse.{not_in_digits}
use Rattle.clap.specs.Walk.{Text}
use Rattle.step_counts.specs.Ranges.{IsWithin}
use Rattle.command_line.specs.CommandLines.{IsAskedSegment, joined, segment_text, slots_text, stop_text, stopped_from}
use Rattle.command_line.specs.Plays.{all_of, at_most_one, colon, cut_at, most_segments, most_slots, most_steps}
use Rattle.command_line.specs.Plays.{schedule_of}
use Rattle.command_line.specs.Plays.{seat_of, segment_of, slots_of, star, stop_for, stop_of, stops_for, stops_of}
use Rattle.command_line.specs.Texts.{at_most, comma, number_between, parts_at}
use Rattle.line_fields.specs.Reading.{◌>>=◌}
use Rattle.command_line.specs.Words.{asked_schedule, asked_stops}
use Rattle.command_line.specs.declared.plays.Segment.{Segment}
use Rattle.command_line.proofs.PlayLemmas.{own}
use Rattle.command_line.proofs.TextLemmas.{at_most_of, own as own_digits}
use Rattle.command_line.proofs.WrittenLemmas.{between_written, no_mark}

-- ---- a text that is cut

-- the first place of a character is after all that are none
place_of : (c : ℕ) (xs ys : Text) → AllByRecursion (λ b. (b == c) ≡ false) xs
    → position_or_len (λ b. b == c) (xs ++ c ∷ ys) ≡ length xs
place_of c [] ys free = ap (λ b. cond (not b) (1 + prefix_len (λ x. not (x == c)) ys) 0) (eq-eqb c c refl)
place_of c (x ∷ xs) ys free =
    let rest : position_or_len (λ b. b == c) (xs ++ c ∷ ys) ≡ length xs = place_of c xs ys free.1 in
    let here : position_or_len (λ b. b == c) (x ∷ (xs ++ c ∷ ys)) ≡ 1 + position_or_len (λ b. b == c) (xs ++ c ∷ ys) =
    ap (λ b. cond (not b) (1 + prefix_len (λ x. not (x == c)) (xs ++ c ∷ ys)) 0) free.0 in
    omega (arith, here, rest)

longer : (xs ys : Text) (c : ℕ) → nat_lt (length xs) (length (xs ++ c ∷ ys)) ≡ true
longer xs ys c =
    let long : length (xs ++ c ∷ ys) ≡ length xs + length (c ∷ ys) = length-append xs (c ∷ ys) in
    let more : length xs < length (xs ++ c ∷ ys) = omega (arith, long) in
    grind (arith, nat_tests)

cut_back : (c : ℕ) (xs ys : Text) → AllByRecursion (λ b. (b == c) ≡ false) xs
    → cut_at c (xs ++ c ∷ ys) ≡ Some (xs, ys)
cut_back c xs ys free =
    let place = place_of c xs ys free in
    let before : before_first (λ b. b == c) (xs ++ c ∷ ys) ≡ xs =
    ap (λ n. take n (xs ++ c ∷ ys)) place ∙ take_at xs (c ∷ ys) (length xs) refl in
    let one_more : length (xs ++ c ∷ []) ≡ length xs + 1 = length-append xs (c ∷ []) in
    let after : after_first (λ b. b == c) (xs ++ c ∷ ys) ≡ ys =
    ap₂ (λ n (l : Text). drop (n + 1) l) place (sym (append_assoc xs (c ∷ []) ys))
    ∙ drop_at (xs ++ c ∷ []) ys (length xs + 1) one_more in
    ap₂ (λ b (p : Text × Text). cond b (Some p) None)
    (ap (λ n. nat_lt n (length (xs ++ c ∷ ys))) place ∙ longer xs ys c) (λ i. (before i, after i))

number_cut : (c x : ℕ) (ys : Text) → x < 2 ^ 64 → (IsInRange 48 57 c → ⊥)
    → cut_at c (written x ++ c ∷ ys) ≡ Some (written x, ys)
number_cut c x ys fits out =
    cut_back c (written x) ys (recursion_from_All (λ b. (b == c) ≡ false) (written x) (no_mark c x fits out))

seat_back : (seats seat : ℕ) → seat < seats → seats ≤ 8 → seat_of seats (written seat) ≡ Some seat
seat_back seats seat inside few =
    between_written seat 0 (seats - 1) (omega arith) (omega arith) (omega arith)

-- ---- segments

no_end : (k : ℕ) → k < 2 ^ 64 → (b : Bool) → bytes_eq (written k) (codes "end") ≡ b → b ≡ false
no_end k fits false e = refl
no_end k fits true e =
    let same : written k ≡ codes "end" = (bytes_eq-Decides (written k) (codes "end")).0 e in
    absurd (not_in_digits own_digits (written k) 101 (digits_decimal own_digits k fits)
    (λ r. absurd (omega (arith, r))) 0 (decimal_nonempty k fits) (ap (λ (l : Text). get_or l 0 0) same))

slots_back : (slots : Option ℕ) → IfSome slots (IsWithin 1 most_slots) → slots_of (slots_text slots) ≡ Some slots
slots_back None h = refl
slots_back (Some k) h =
    ap (λ b. cond b (Some None) (option_map (λ (slots : ℕ). Some slots) (number_between 1 most_slots (written k))))
    (no_end k (omega (arith, h)) _ refl)
    ∙ ap (option_map (λ (slots : ℕ). Some slots)) (between_written k 1 most_slots h.0 h.1 (omega (arith, h)))

segment_back : (seats : ℕ) → seats ≤ 8 → (s : Segment) → IsAskedSegment seats s
    → segment_of seats (segment_text s) ≡ Some s
segment_back seats few s h =
    let cut = number_cut star s.seat (slots_text s.slots) (omega (arith, h.seat)) (λ r. absurd (omega (arith, r))) in
    let seat = seat_back seats s.seat h.seat few in
    let slots = slots_back s.slots h.slots in
    ap (λ o. o >>= (λ sides. seat_of seats sides.0 >>= (λ seat. slots_of sides.1 >>=
    (λ slots. Some (record { seat = seat; slots = slots }))))) cut
    ∙ (λ i. (seat i) >>= (λ seat. (slots i) >>= (λ slots. Some (record { seat = seat; slots = slots }))))

-- ---- texts with commas between

-- texts without commas, joined and taken apart again
join_back : (t : Text) (more : List Text) → AllByRecursion (λ u. All (λ b. (b == comma) ≡ false) u) (t ∷ more)
    → parts_at comma (join_with_byte comma (t ∷ more)) ≡ t ∷ more
join_back t [] free = slice_split_none (λ b. b == comma) t free.0
join_back t (u ∷ more) free =
    slice_split_at (λ b. b == comma) t comma (join_with_byte comma (u ∷ more)) free.0 (eq-eqb comma comma refl)
    ∙ ap (λ (ps : List Text). t ∷ ps) (join_back u more free.1)

each_back : {A : Type 0} (f : Text → Option A) (g : A → Text) (xs : List A)
    → AllByRecursion (λ x. f (g x) ≡ Some x) xs → all_of (map f (map g xs)) ≡ Some xs
each_back f g [] h = refl
each_back {A} f g (x ∷ xs) h =
    ap (λ (o : Option A). all_of (o ∷ map f (map g xs))) h.0
    ∙ ap (option_map (λ (l : List A). x ∷ l)) (each_back f g xs h.1)

-- what holds of each element holds of each text
along : {A B : Type 0} (P : A → Type 0) (Q : B → Type 0) (g : A → B) → ((x : A) → P x → Q (g x)) → (xs : List A)
    → AllByRecursion P xs → AllByRecursion Q (map g xs)
along P Q g each [] h = tt
along P Q g each (x ∷ xs) h = (each x h.0, along P Q g each xs h.1)

weaker : {A : Type 0} (P Q : A → Type 0) → ((x : A) → P x → Q x) → (xs : List A)
    → AllByRecursion P xs → AllByRecursion Q xs
weaker P Q each [] h = tt
weaker P Q each (x ∷ xs) h = (each x h.0, weaker P Q each xs h.1)

number_free : (x : ℕ) → x < 2 ^ 64 → All (λ b. (b == comma) ≡ false) (written x)
number_free x fits = no_mark comma x fits (λ r. absurd (omega (arith, r)))

mark_free : (c : ℕ) (rest : Text) → (c == comma) ≡ false → All (λ b. (b == comma) ≡ false) rest
    → All (λ b. (b == comma) ≡ false) (c ∷ rest)
mark_free c rest no_comma free =
    All-from_recursion (λ b. (b == comma) ≡ false) (c ∷ rest)
    (no_comma, recursion_from_All (λ b. (b == comma) ≡ false) rest free)

slots_free : (slots : Option ℕ) → IfSome slots (IsWithin 1 most_slots)
    → All (λ b. (b == comma) ≡ false) (slots_text slots)
slots_free None h = All-from_recursion (λ b. (b == comma) ≡ false) (codes "end") (refl, (refl, (refl, tt)))
slots_free (Some k) h = number_free k (omega (arith, h))

segment_free : (seats : ℕ) → seats ≤ 8 → (s : Segment) → IsAskedSegment seats s
    → All (λ b. (b == comma) ≡ false) (segment_text s)
segment_free seats few s h =
    All-append (λ b. (b == comma) ≡ false) (written s.seat) (star ∷ slots_text s.slots)
    (number_free s.seat (omega (arith, h.seat))) (mark_free star (slots_text s.slots) refl (slots_free s.slots h.slots))

schedule_joined : (seats : ℕ) → seats ≤ 8 → (s : Segment) (more : List Segment)
    → AllByRecursion (IsAskedSegment seats) (s ∷ more) → length (s ∷ more) ≤ most_segments
    → schedule_of seats (join_with_byte comma (map segment_text (s ∷ more))) ≡ Some (s ∷ more)
schedule_joined seats few s more h short =
    let parts = join_back (segment_text s) (map segment_text more)
    (along (IsAskedSegment seats) (λ u. All (λ b. (b == comma) ≡ false) u) segment_text (segment_free seats few)
    (s ∷ more) h) in
    let brief : at_most most_segments (length (map segment_text (s ∷ more))) ≡ true =
    at_most_of most_segments _ (rw (length-map (s ∷ more) segment_text) short) in
    ap (λ (ps : List Text). cond (at_most most_segments (length ps)) (all_of (map (segment_of seats) ps)) None) parts
    ∙ ap (λ b. cond b (all_of (map (segment_of seats) (map segment_text (s ∷ more)))) None) brief
    ∙ each_back (segment_of seats) segment_text (s ∷ more)
    (weaker (IsAskedSegment seats) _ (segment_back seats few) (s ∷ more) h)

pub schedule_back : (seats : ℕ) → seats ≤ 8 → (segments : List Segment) → All (IsAskedSegment seats) segments
    → length segments ≤ most_segments → asked_schedule seats (joined (map segment_text segments)) ≡ Some segments
schedule_back seats few [] h short = refl
schedule_back seats few (s ∷ more) h short =
    schedule_joined seats few s more (recursion_from_All (IsAskedSegment seats) (s ∷ more) h) short

-- ---- stops

-- a stop of one of so many seats
abbrev pub IsAskedStop : (seats : ℕ) → ℕ × ℕ → Type 0
IsAskedStop seats stop = (stop.0 < seats) × (stop.1 ≤ most_steps)

stop_back : (seats : ℕ) → seats ≤ 8 → (s : ℕ × ℕ) → IsAskedStop seats s → stop_of seats (stop_text s) ≡ Some s
stop_back seats few s h =
    let cut = number_cut colon s.0 (written s.1) (omega (arith, h)) (λ r. absurd (omega (arith, r))) in
    let seat = seat_back seats s.0 h.0 few in
    let steps = between_written s.1 0 most_steps (omega arith) h.1 (omega (arith, h)) in
    ap (λ o. o >>= (λ sides. seat_of seats sides.0 >>= (λ seat. number_between 0 most_steps sides.1 >>=
    (λ steps. Some (seat, steps))))) cut
    ∙ (λ i. (seat i) >>= (λ seat. (steps i) >>= (λ steps. Some (seat, steps))))

stop_free : (seats : ℕ) → seats ≤ 8 → (s : ℕ × ℕ) → IsAskedStop seats s
    → All (λ b. (b == comma) ≡ false) (stop_text s)
stop_free seats few s h =
    All-append (λ b. (b == comma) ≡ false) (written s.0) (colon ∷ written s.1) (number_free s.0 (omega (arith, h)))
    (mark_free colon (written s.1) refl (number_free s.1 (omega (arith, h))))

-- those that are stopped are some of the seats
stopped_in : (seats k : ℕ) (stops : List (Option ℕ)) → k + length stops ≤ seats
    → AllByRecursion (λ stop. IfSome stop (λ steps. steps ≤ most_steps)) stops
    → AllByRecursion (IsAskedStop seats) (stopped_from k stops)
stopped_in seats k [] inside h = tt
stopped_in seats k (None ∷ stops) inside h = stopped_in seats (k + 1) stops (omega arith) h.1
stopped_in seats k (Some steps ∷ stops) inside h =
    ((omega arith, h.0), stopped_in seats (k + 1) stops (omega arith) h.1)

-- no seat before the first is among them
later : (j k : ℕ) → j < k → (stops : List (Option ℕ)) → own j (stopped_from k stops) ≡ []
later j k less [] = refl
later j k less (None ∷ stops) = later j (k + 1) (omega arith) stops
later j k less (Some steps ∷ stops) =
    ap (λ b. cond b ((k, steps) ∷ own j (stopped_from (k + 1) stops)) (own j (stopped_from (k + 1) stops)))
    (ne_eqb k j (λ e. absurd (omega (arith, e)))) ∙ later j (k + 1) (omega arith) stops

entry_at : (k : ℕ) (stop : Option ℕ) (stops : List (Option ℕ))
    → at_most_one (own k (stopped_from k (stop ∷ stops))) ≡ Some stop
entry_at k None stops = ap at_most_one (later k (k + 1) (omega arith) stops)
entry_at k (Some steps) stops =
    ap₂ (λ b (l : List (ℕ × ℕ)). at_most_one (cond b ((k, steps) ∷ l) l)) (eq-eqb k k refl)
    (later k (k + 1) (omega arith) stops)

past_one : (j k : ℕ) → k < j → (stop : Option ℕ) (stops : List (Option ℕ))
    → own j (stopped_from k (stop ∷ stops)) ≡ own j (stopped_from (k + 1) stops)
past_one j k less None stops = refl
past_one j k less (Some steps) stops =
    ap (λ b. cond b ((k, steps) ∷ own j (stopped_from (k + 1) stops)) (own j (stopped_from (k + 1) stops)))
    (ne_eqb k j (λ e. absurd (omega (arith, e))))

all_entries : (all : List (ℕ × ℕ)) (k : ℕ) (stops : List (Option ℕ))
    → ((j : ℕ) → k ≤ j → own j all ≡ own j (stopped_from k stops))
    → all_of (map (stop_for all) (range_with_len k (length stops))) ≡ Some stops
all_entries all k [] same = refl
all_entries all k (stop ∷ stops) same =
    let here : stop_for all k ≡ Some stop = ap at_most_one (same k (omega arith)) ∙ entry_at k stop stops in
    ap (λ (o : Option (Option ℕ)). all_of (o ∷ map (stop_for all) (range_with_len (k + 1) (length stops)))) here
    ∙ ap (option_map (λ (l : List (Option ℕ)). stop ∷ l))
    (all_entries all (k + 1) stops (λ j low. same j (omega arith) ∙ past_one j k (omega arith) stop stops))

none_stopped : (k : ℕ) (stops : List (Option ℕ)) → stopped_from k stops ≡ [] → replicate (length stops) None ≡ stops
none_stopped k [] e = refl
none_stopped k (None ∷ stops) e = ap (λ (l : List (Option ℕ)). None ∷ l) (none_stopped (k + 1) stops e)
none_stopped k (Some steps ∷ stops) e = cc

stops_joined : (seats : ℕ) → seats ≤ 8 → (stops : List (Option ℕ)) → length stops ≡ seats
    → (s : ℕ × ℕ) (more : List (ℕ × ℕ)) → stopped_from 0 stops ≡ s ∷ more
    → AllByRecursion (IsAskedStop seats) (s ∷ more)
    → stops_of seats (join_with_byte comma (map stop_text (s ∷ more))) ≡ Some stops
stops_joined seats few stops long s more is h =
    let parts = join_back (stop_text s) (map stop_text more)
    (along (IsAskedStop seats) (λ u. All (λ b. (b == comma) ≡ false) u) stop_text (stop_free seats few) (s ∷ more) h) in
    let read = each_back (stop_of seats) stop_text (s ∷ more)
    (weaker (IsAskedStop seats) _ (stop_back seats few) (s ∷ more) h) in
    ap (λ (ps : List Text). all_of (map (stop_of seats) ps) >>= stops_for seats) parts
    ∙ ap (λ o. o >>= stops_for seats) read
    ∙ ap₂ (λ n (l : List (ℕ × ℕ)). stops_for n l) (sym long) (sym is)
    ∙ all_entries (stopped_from 0 stops) 0 stops (λ j low. refl)

stops_by : (seats : ℕ) → seats ≤ 8 → (stops : List (Option ℕ)) → length stops ≡ seats
    → (stopped : List (ℕ × ℕ)) → stopped_from 0 stops ≡ stopped → AllByRecursion (IsAskedStop seats) stopped
    → asked_stops seats (joined (map stop_text stopped)) ≡ Some stops
stops_by seats few stops long [] is h =
    ap (λ (l : List (Option ℕ)). Some l)
    (ap (λ n. replicate n None) (sym long) ∙ none_stopped 0 stops is)
stops_by seats few stops long (s ∷ more) is h = stops_joined seats few stops long s more is h

pub stops_back : (seats : ℕ) → seats ≤ 8 → (stops : List (Option ℕ)) → length stops ≡ seats
    → All (λ stop. IfSome stop (λ steps. steps ≤ most_steps)) stops
    → asked_stops seats (joined (map stop_text (stopped_from 0 stops))) ≡ Some stops
stops_back seats few stops long h =
    stops_by seats few stops long (stopped_from 0 stops) refl
    (stopped_in seats 0 stops (omega arith)
    (recursion_from_All (λ stop. IfSome stop (λ steps. steps ≤ most_steps)) stops h))
