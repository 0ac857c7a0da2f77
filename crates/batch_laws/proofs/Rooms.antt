-- No call of a batch is refused, where its table has the rows that the batch can need.
use Rattle.std.proofs.Common.{◌≡◌, ℕ, ◌+◌, ◌<◌, ◌≤◌, true, cond, List, [], ◌∷◌, ◌++◌, map, length, take, get_or, None, refl, inl, inr, sym, ap, subst, ◌∙◌, length-append, arith}
use Rattle.std.specs.Prelude.{All, flat_map, count_by, IsPermutation, slice_index}
use Rattle.std.proofs.lemmas.Bool.{cases_lt}
use Rattle.std.proofs.lemmas.List.{append-nil, append_assoc, map-append, length-map, get_or_default}
use Rattle.std.proofs.lemmas.List.Elements.{All-nil, All-cons}
use Rattle.std.proofs.lemmas.List.Sorted.{All-permutation, IsPermutation-sym}
use Rattle.std.proofs.lemmas.List.Sums.{sum_by-cons, sum_by-append}
use Rattle.std.proofs.Math.ListN.{get_or-map, get_or-eq_default}
use Rattle.std.proofs.Math.Seq.{take-append_seam}
use Rattle.step_counts.specs.StepCounts.{need_of}
use Rattle.step_counts.specs.declared.rows.SeatRows.{SeatRows}
use Rattle.plain_map.specs.declared.calls.Call.{Call}
use Rattle.plain_map.specs.declared.calls.Call.TheVariants.{Insert, Remove, Lookup, Tally, Count, Put}
use Rattle.plain_map.specs.declared.keys.Key.{Key}
use Rattle.plain_map.specs.declared.records.Record.{Record}
use Rattle.plain_map.specs.Room.{left_of, published, refusal}
use Rattle.word_rows.specs.Shape.{sizes_of}
use Rattle.table_model.specs.declared.events.Event.{Event}
use Rattle.table_model.specs.Setup.{Setup, settings_of, seats_of}
use Rattle.table_model.specs.SeatStates.{SeatState, Idle, fresh_seat}
use Rattle.plain_map.specs.Calls.{is_update}
use Rattle.table_model.specs.Worlds.{World, IsRun, world_after, seat_in}
use Rattle.table_model.specs.Promises.{updates_in}
use Rattle.table_model.specs.Needs.{batch_rows_of, inserted_in, splits_in, IsAmongKeys}
use Rattle.list_laws.proofs.Lists.{In, in_left, flat_map_append}
use Rattle.bound_laws.specs.Moments.{IsIdleMoment, IsWithoutRefused, given_to, asked_of, asked_now}
use Rattle.bound_laws.proofs.Batches.{batch_rows_suffice}
use Rattle.bound_laws.proofs.Moments.{idle_moments, begun_are_answered, inserts_are_of_calls}
use Rattle.trace_share.specs.declared.outcome.Outcome.{Outcome}
use Rattle.trace_share.specs.Outcomes.{asked_in, full_in, records_in}
use Rattle.batch_rows.specs.BatchRows.{updates_in_calls, inserted_in_calls, rows_of}
use Rattle.run_laws.proofs.TwoParts.{run_first}
use Rattle.batch_laws.specs.Rooms.{AreLogsOf, NoneRefused, BatchIsAnswered}
use Rattle.batch_laws.proofs.Logs.{in_one, asked_there, fewer_updates, Fits, calls_fit, among_of}
use Rattle.list_laws.proofs.Places.{in_all}
use Rattle.std.proofs.lemmas.Simd.{map-map}

-- what holds wherever a list is cut holds of all
all_cut : {A : Type 0} → (P : A → Type 0) (front xs whole : List A) → whole ≡ front ++ xs →
    ((before later : List A) (x : A) → whole ≡ before ++ x ∷ later → P x) → All P xs
all_cut P front [] whole is each = All-nil P
all_cut P front (x ∷ xs) whole is each = All-cons P x xs (each front xs x is)
    (all_cut P (front ++ x ∷ []) xs whole (is ∙ sym (append_assoc front (x ∷ []) xs)) each)

-- only an update can be refused
not_refused : (left need : SeatRows) (call : Call) → (is_update call ≡ true → refusal left need call ≡ None) →
    refusal left need call ≡ None
not_refused left need (Insert key value) h = h refl
not_refused left need (Remove key) h = h refl
not_refused left need (Lookup key) h = refl
not_refused left need (Tally key amount) h = h refl
not_refused left need (Count key value amount) h = h refl
not_refused left need (Put key value) h = h refl

module _ (setup : Setup) (events : List Event) (calls : List (ℕ × Call)) (shares : List (List (ℕ × Call)))
    (logs : List (List Outcome)) (once : IsPermutation (flat_map (λ share. share) shares) calls)
    (rows : setup.shape.ranges ≡ rows_of (settings_of setup) setup.hashing None setup.first calls shares)
    (of : AreLogsOf setup events shares logs) where
  -- what the seat's log is, and what it was to do
  abbrev log_of : ℕ → List Outcome
  log_of seat = get_or logs seat []

  abbrev share_of : ℕ → List (ℕ × Call)
  share_of seat = get_or shares seat []

  abbrev keys : List Key
  keys = inserted_in_calls calls

  abbrev end : ℕ → SeatState
  end seat = seat_in (world_after setup events) seat

  -- the log has the seat's records
  records_are : (seat : ℕ) → records_in (log_of seat) ≡ (end seat).account.records
  records_are seat = sym (get_or-map (λ (log : List Outcome). records_in log) logs seat [])
      ∙ ap (λ lists. get_or lists seat []) of.records
      ∙ get_or-map (λ (state : SeatState). state.account.records) (world_after setup events).seats seat fresh_seat

  -- and what it was asked is its share
  asked_is : (seat : ℕ) → map asked_in (log_of seat) ≡ share_of seat
  asked_is seat = sym (get_or-map (λ (log : List Outcome). map asked_in log) logs seat [])
      ∙ ap (λ lists. get_or lists seat []) of.asked

  -- no seat is in a call
  is_idle : (seat : ℕ) → (end seat).stand ≡ Idle
  is_idle seat = elim (cases_lt seat (length (world_after setup events).seats)) [
    | inl inside ↦ of.idle seat fresh_seat inside
    | inr outside ↦ ap (λ (state : SeatState). state.stand)
        (get_or-eq_default (world_after setup events).seats fresh_seat (omega (arith, outside)))
  ]

  -- what a share's calls insert is inserted by the batch
  share_fits : (seat : ℕ) (call : ℕ × Call) → In call (share_of seat) → Fits keys call
  share_fits seat call there = in_all (Fits keys) (flat_map (λ share. share) shares) call
      (All-permutation (Fits keys) calls (flat_map (λ share. share) shares)
      (IsPermutation-sym (flat_map (λ share. share) shares) calls once) (calls_fit calls))
      (in_one shares seat call there)

  -- the run without its refused calls
  taken : IsWithoutRefused setup events
  taken = begun_are_answered setup events of.run

  -- gives each seat calls of its share alone
  given_fit : (seat : ℕ) (call : ℕ × Call) → In call (given_to seat taken.taken) → Fits keys call
  given_fit seat call there = share_fits seat call
      (subst (λ asked. In call asked) (asked_is seat)
      (asked_there (log_of seat) call (subst (λ given. In call given) is there)))
    where
      is : given_to seat taken.taken ≡ map asked_of (records_in (log_of seat))
      is = taken.begun seat ∙ ap (λ stand. map asked_of (end seat).account.records ++ asked_now stand) (is_idle seat)
          ∙ append-nil (map asked_of (end seat).account.records) ∙ ap (map asked_of) (sym (records_are seat))

  -- so does each front of it, and the keys that come are those of the batch
  front_fits : (front back : List Event) → taken.taken ≡ front ++ back → IsRun setup front →
      All (IsAmongKeys keys) (inserted_in front)
  front_fits front back cut run = inserts_are_of_calls setup front keys run (λ seat inside.
      among_of keys (given_to seat front) (λ call there. given_fit seat call
      (subst (λ (given : List (ℕ × Call)). In call given) (sym (ap (given_to seat) cut ∙ both seat))
      (in_left call (given_to seat front) (given_to seat back) there))))
    where
      both : (seat : ℕ) → given_to seat (front ++ back) ≡ given_to seat front ++ given_to seat back
      both seat = flat_map_append _ front back

  -- the rows are those that suffice
  rows_are : setup.shape.ranges
      ≡ map (λ many. batch_rows_of (settings_of setup) many (splits_in setup keys)) (map updates_in_calls shares)
  rows_are = rows
      ∙ sym (map-map (λ many. batch_rows_of (settings_of setup) many (splits_in setup keys)) updates_in_calls shares)

  module _ (seat : ℕ) (inside : seat < seats_of setup) (front back : List Outcome) (outcome : Outcome)
      (cut : log_of seat ≡ front ++ outcome ∷ back) where
    -- how many of the calls before had been answered
    abbrev count : ℕ
    count = length (records_in front)

    -- the records are those before, and others
    records_cut : (seat_in (world_after setup taken.taken) seat).account.records
        ≡ records_in front ++ records_in (outcome ∷ back)
    records_cut = ap (λ (w : World). (seat_in w seat).account.records) taken.same ∙ sym (records_are seat)
        ∙ ap (λ log. records_in log) cut ∙ flat_map_append _ front (outcome ∷ back)

    -- the moment at which the call came
    moment : IsIdleMoment setup taken.taken seat count
    moment = idle_moments setup taken.taken seat count taken.run inside
        (omega (arith, ap length records_cut, length-append (records_in front) (records_in (outcome ∷ back))))

    abbrev now : SeatState
    now = seat_in (world_after setup moment.front) seat

    -- the seat had made fewer updates than its share has
    few : is_update (asked_in outcome).1 ≡ true →
        updates_in now.account < slice_index (map updates_in_calls shares) seat
    few update = omega (
      arith,
      ap (λ rs. count_by (λ (r : Record). is_update r.call) rs)
          (moment.records ∙ ap (take count) records_cut
          ∙ take-append_seam (records_in front) (records_in (outcome ∷ back))),
      fewer_updates front,
      share_has,
      get_or-map updates_in_calls shares seat [],
    )
      where
        asked_cut : share_of seat ≡ map asked_in front ++ asked_in outcome ∷ map asked_in back
        asked_cut = sym (asked_is seat) ∙ ap (map asked_in) cut ∙ map-append asked_in front (outcome ∷ back)

        share_has : updates_in_calls (map asked_in front) + 1 ≤ updates_in_calls (share_of seat)
        share_has = omega (
          arith,
          ap updates_in_calls asked_cut,
          sum_by-append (λ (asked : ℕ × Call). cond (is_update asked.1) 1 0) (map asked_in front)
              (asked_in outcome ∷ map asked_in back),
          sum_by-cons (λ (asked : ℕ × Call). cond (is_update asked.1) 1 0) (asked_in outcome) (map asked_in back),
          ap {B = ℕ} (λ b. cond b 1 0) update,
        )

    -- so it found room
    found_room : full_in outcome ≡ None
    found_room = of.refused seat inside front back outcome cut
        ∙ not_refused (left_of (sizes_of setup.shape seat) (published (take count (end seat).account.spent)))
        (need_of (settings_of setup)) (asked_in outcome).1 room
      where
        run : IsRun setup moment.front
        run = run_first setup moment.front moment.back (subst (IsRun setup) moment.cut taken.run)

        used : now.account.used ≡ published (take count (end seat).account.spent)
        used = moment.used
            ∙ ap (λ (w : World). published (take count (seat_in w seat).account.spent)) taken.same

        room : is_update (asked_in outcome).1 ≡ true →
            refusal (left_of (sizes_of setup.shape seat) (published (take count (end seat).account.spent)))
            (need_of (settings_of setup)) (asked_in outcome).1 ≡ None
        room update = subst
            (λ gone. refusal (left_of (sizes_of setup.shape seat) gone) (need_of (settings_of setup))
            (asked_in outcome).1 ≡ None) used
            (batch_rows_suffice setup keys (map updates_in_calls shares) moment.front seat (asked_in outcome).1 run
            inside (front_fits moment.front moment.back moment.cut run) rows_are moment.stand (few update))

  -- what a seat has for its share
  abbrev rows_for : List (ℕ × Call) → SeatRows
  rows_for share = batch_rows_of (settings_of setup) (updates_in_calls share) (splits_in setup keys)

  -- each log is a seat's
  few_logs : length logs ≡ seats_of setup
  few_logs = omega (
    arith,
    length-map logs (λ (log : List Outcome). map asked_in log),
    ap length of.asked,
    ap length rows,
    length-map shares rows_for,
    of.run.opened.shape.each_seat,
  )

  all_answered : All NoneRefused logs
  all_answered seat d inside = subst NoneRefused (get_or_default logs seat [] d inside)
      (all_cut (λ outcome. full_in outcome ≡ None) [] (log_of seat) (log_of seat) refl
      (found_room seat (omega (arith, inside, few_logs))))

pub batch_is_answered : BatchIsAnswered
batch_is_answered setup events calls shares logs once rows of =
    all_answered setup events calls shares logs once rows of
