-- What is printed of a play is what its one order speaks of.
use Rattle.std.proofs.Common.{◌≡◌, ◌<◌, ◌≤◌, ℕ, suc, List, [], ◌∷◌, ◌++◌, Bool, true, false, cond, map, length, get_or, inl, inr, sym, ap, ◌∙◌, subst, arith, All, length-append}
use Rattle.std.specs.Prelude.{◌==◌, filter, flat_map, IsPermutation}
use Rattle.std.proofs.lemmas.Bool.{cases_lt}
use Rattle.std.proofs.lemmas.List.{get_or_past}
use Rattle.std.proofs.lemmas.List.Elements.{All-append, All-nil}
use Rattle.std.proofs.lemmas.List.Sorted.{All-permutation, IsNonDecreasingBy-from_sort, IsPermutation-append_left, IsPermutation-map, IsPermutation-sym, IsPermutation-trans}
use Rattle.plain_map.specs.declared.records.Pending.{Pending}
use Rattle.plain_map.specs.declared.records.Record.{Record}
use Rattle.plain_map.specs.History.{Placed, Whole, answered, pending}
use Rattle.trace_share.specs.declared.outcome.Outcome.{Outcome}
use Rattle.trace_share.specs.declared.outcome.Outcome.TheVariants.{Answered, Refused}
use Rattle.trace_share.specs.Outcomes.{record_in}
use Rattle.list_laws.proofs.Lists.{In, in_flat_map}
use Rattle.table_model.specs.Setup.{Setup, seats_of}
use Rattle.table_model.specs.SeatStates.{SeatState, fresh_seat}
use Rattle.table_model.specs.Worlds.{World, seat_in}
use Rattle.table_model.specs.Closed.{begun_of, closing_of, records_of}
use Rattle.table_model.specs.Order.{order_of, took_effect}
use Rattle.table_model.specs.Promises.{HasSteps}
use Rattle.table_model.specs.Schedules.{Play}
use Rattle.bound_laws.proofs.Ends.{records_are_numbered}
use Rattle.play_runner.specs.declared.values.Played.{Played}
use Rattle.play_runner.specs.Played.{IsPlayed, outcomes_of, packet_in}
use Rattle.report_promises.specs.Good.{AreCountedBySeat, answered_by, answered_on}
use Rattle.play_mode.specs.Playing.{HasRightLines, IsRightPlay}
use Rattle.play_mode.proofs.AnsweredLemmas.{answered_by_all, answered_by_seats, seats_after}
use Rattle.play_mode.proofs.PacketOrder.{Climbs, Rises, climbs-sorted, one_order}
use Rattle.play_mode.proofs.Permuted.{flat_map-permuted}

-- the answered calls of a line
abbrev of_line : (seat : ℕ) → ℕ × Outcome → List Record
of_line seat line = cond (line.0 == seat) (record_in line.1) []

-- an answered call has its line's packet
line_packet : (seat : ℕ) (line : ℕ × Outcome) (r : Record) → In r (of_line seat line) → packet_in line ≡ r.packet
line_packet seat (at, Answered made) r i = go (at == seat) i
  where
    go : (b : Bool) → In r (cond b (made ∷ []) []) → made.packet ≡ r.packet
    go true (inl is) = ap (λ (x : Record). x.packet) (sym is)
    go true (inr none) = elim none [ ]
    go false none = elim none [ ]
line_packet seat (at, Refused packet call full) r i = go (at == seat) i
  where
    go : (b : Bool) → In r (cond b [] []) → packet ≡ r.packet
    go true none = elim none [ ]
    go false none = elim none [ ]

-- so a seat's answered calls climb where the lines do
seat-climbs : (seat : ℕ) (lines : List (ℕ × Outcome)) → Climbs packet_in lines →
    Climbs (λ r. r.packet) (answered_by seat lines)
seat-climbs seat [] climbs = tt
seat-climbs seat ((at, Answered made) ∷ lines) climbs = go (at == seat) (seat-climbs seat lines climbs.1)
  where
    later : (r : Record) → In r (answered_by seat lines) → made.packet ≤ r.packet
    later r i =
        let from = in_flat_map (of_line seat) lines r i in
        omega (arith, climbs.0 from.0 from.1, line_packet seat from.0 r from.2)

    go : (b : Bool) → Climbs (λ r. r.packet) (answered_by seat lines) →
        Climbs (λ r. r.packet) (cond b (made ∷ []) [] ++ answered_by seat lines)
    go true rest = (later, rest)
    go false rest = rest
seat-climbs seat ((at, Refused packet call full) ∷ lines) climbs = go (at == seat) (seat-climbs seat lines climbs.1)
  where
    go : (b : Bool) → Climbs (λ r. r.packet) (answered_by seat lines) →
        Climbs (λ r. r.packet) (cond b [] [] ++ answered_by seat lines)
    go true rest = rest
    go false rest = rest

-- what holds of each seat's records holds of all
of_all : (P : Record → Type 0) (states : List SeatState) →
    ((seat : ℕ) → seat < length states → All P (get_or states seat fresh_seat).account.records) →
    All P (flat_map (λ (state : SeatState). state.account.records) states)
of_all P [] each = All-nil P
of_all P (state ∷ states) each =
    All-append P state.account.records (flat_map (λ (s : SeatState). s.account.records) states) (each 0 (omega arith))
    (of_all P states (λ seat less. each (suc seat) (omega (arith, less))))

module _ (setup : Setup) (play : Play) (played : Played) (right : IsRightPlay setup play)
    (comes : IsPlayed setup play played)
    (rises : (seat : ℕ) → seat < seats_of setup → Rises (λ r. r.packet) (seat_in play.world seat).account.records)
  where
    abbrev lines : List (ℕ × Outcome)
    lines = played.outcomes.items

    -- there are as many seats as the table has
    long : length play.world.seats ≡ seats_of setup
    long = ap (λ (w : World). length w.seats) right.comes ∙ seats_after setup play.events

    -- the records of a seat
    abbrev log : (seat : ℕ) → List Record
    log seat = (seat_in play.world seat).account.records

    -- are in the order of their packets, also past the last seat
    log_rises : (seat : ℕ) → Rises (λ r. r.packet) (log seat)
    log_rises seat = elim (cases_lt seat (seats_of setup)) [
      | inl h ↦ rises seat h
      | inr past ↦ subst (λ (state : SeatState). Rises (λ r. r.packet) state.account.records)
          (sym (get_or_past play.world.seats seat fresh_seat (omega (arith, past, long)))) tt
    ]

    -- and are its answered lines
    lines_are : (seat : ℕ) → answered_by seat lines ≡ log seat
    lines_are seat =
        one_order (λ r. r.packet) (log seat) (answered_by seat lines)
        (subst (λ records. IsPermutation records (answered_by seat lines))
        (sym (ap (λ (w : World). (seat_in w seat).account.records) right.comes
        ∙ answered_by_seats setup play.events seat))
        (flat_map-permuted (of_line seat) (outcomes_of setup play.events) lines comes.outcomes))
        (log_rises seat)
        (seat-climbs seat lines (climbs-sorted packet_in lines
        (IsNonDecreasingBy-from_sort packet_in lines comes.in_order)))

    -- so these are numbered
    lines_numbered : AreCountedBySeat lines
    lines_numbered seat front back r is = elim (cases_lt seat (seats_of setup)) [
      | inl h ↦ records_are_numbered setup play.events seat front back r right.run h
          (ap (λ (w : World). (seat_in w seat).account.records) (sym right.comes) ∙ sym (lines_are seat) ∙ is)
      | inr past ↦ absurd (omega (
        arith,
        ap length (sym is ∙ lines_are seat
            ∙ ap (λ (state : SeatState). state.account.records)
            (get_or_past play.world.seats seat fresh_seat (omega (arith, past, long)))),
        length-append front (r ∷ back),
      ))
    ]

    -- all records are all answered lines
    all_are : IsPermutation (records_of play.world) (answered_on lines)
    all_are =
        IsPermutation-trans (records_of play.world) (answered_on (outcomes_of setup play.events)) (answered_on lines)
        (subst (λ (w : World). IsPermutation (records_of w) (answered_on (outcomes_of setup play.events)))
        (sym right.comes) (answered_by_all setup play.events))
        (flat_map-permuted (λ (line : ℕ × Outcome). record_in line.1) (outcomes_of setup play.events) lines
        comes.outcomes)

    -- so each stands in the order once
    lines_whole : Whole (answered_on lines) (filter (took_effect setup.shape play.world.words) played.pending.items)
        (order_of setup.shape (closing_of play.world))
    lines_whole =
        let took : List Pending → List Placed = λ begun.
        map pending (filter (took_effect setup.shape play.world.words) begun) in
        let order : List Placed = order_of setup.shape (closing_of play.world) in
        let effects : List Placed = took (begun_of play.world) in
        subst (λ (begun : List Pending). IsPermutation (map answered (answered_on lines) ++ took begun) order)
        (sym comes.pending)
        (IsPermutation-trans (map answered (answered_on lines) ++ effects)
        (map answered (records_of play.world) ++ effects) order
        (IsPermutation-append_left effects (map answered (answered_on lines)) (map answered (records_of play.world))
        (IsPermutation-map answered (answered_on lines) (records_of play.world)
        (IsPermutation-sym (records_of play.world) (answered_on lines) all_are))) right.right.whole)

    -- and has its steps
    lines_steps : All (HasSteps setup play.world.words) (answered_on lines)
    lines_steps =
        All-permutation (HasSteps setup play.world.words) (records_of play.world) (answered_on lines) all_are
        (of_all (HasSteps setup play.world.words) play.world.seats
        (λ seat less. right.right.steps seat (omega (arith, less, long))))

    pub lines-right : HasRightLines setup play played
    lines-right = record { numbered = lines_numbered; whole = lines_whole; steps = lines_steps }
