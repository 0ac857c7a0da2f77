-- What a play's report tells of each call. Of one that ended: its seat, its steps and what it had seen, or how much
-- room was left, and how much was needed. Of one under way: that it is its seat's next.
use Rattle.std.proofs.Common.{◌≡◌, ◌≤◌, ◌<◌, ℕ, ◌^◌, max, List, [], ◌∷◌, Bool, true, false, cond, length, get_or, Some, fold, refl, sym, ap, ◌∙◌, arith, ltb-true}
use Rattle.std.specs.Prelude.{◌==◌, nat_lt, IsPermutation}
use Rattle.std.specs.List.{All}
use Rattle.std.proofs.lemmas.List.{length-replicate}
use Rattle.std.proofs.lemmas.List.Elements.{All-cons, All-nil}
use Rattle.std.proofs.lemmas.List.Sorted.{All-permutation, length_permutation}
use Rattle.step_counts.specs.declared.rows.SeatRows.{SeatRows}
use Rattle.step_counts.specs.StepCounts.{need_of}
use Rattle.plain_map.specs.declared.calls.Call.{Call}
use Rattle.plain_map.specs.declared.calls.Call.TheVariants.{Insert, Remove, Lookup, Tally, Count, Put}
use Rattle.plain_map.specs.declared.full.Full.{Full}
use Rattle.plain_map.specs.declared.records.Record.{Record}
use Rattle.plain_map.specs.Room.{first_short, left_of, margins, refusal}
use Rattle.word_rows.specs.Shape.{sizes_of}
use Rattle.trace_share.specs.declared.outcome.Outcome.{Outcome}
use Rattle.trace_share.specs.declared.outcome.Outcome.TheVariants.{Answered, Refused}
use Rattle.trace_share.specs.Outcomes.{record_in}
use Rattle.list_laws.proofs.Lists.{find_in}
use Rattle.table_model.specs.declared.events.Event.{Event}
use Rattle.table_model.specs.Setup.{Setup, seats_of, settings_of}
use Rattle.table_model.specs.SeatStates.{fresh_seat}
use Rattle.table_model.specs.Worlds.{IsRun, opening_world, seat_in, world_after}
use Rattle.table_model.specs.Closed.{begun_of}
use Rattle.bound_laws.proofs.Ends.{flights_are_numbered}
use Rattle.report_text.specs.declared.parts.Head.{Head}
use Rattle.report_text.specs.Report.{Report}
use Rattle.report_told.specs.Rules.{IsSettingsOf, IsShort, part_of}
use Rattle.plain_map.specs.Calls.{is_update}
use Rattle.report_promises.specs.Good.{HasBegun, HasEnded, ended_in, answered_by}
use Rattle.report_told.proofs.SettingsLemmas.{need_of_settings}
use Rattle.report_promises.proofs.SeenLemmas.{few_answered}
use Rattle.play_runner.specs.Played.{most_steps_in, outcomes_of, steps_of}
use Rattle.play_mode.proofs.AnsweredLemmas.{answered_by_seats, seats_after}
use Rattle.play_runner.proofs.BegunPlays.{all_begun, counts_fit, counts_long, seen_few}
use Rattle.play_runner.proofs.EndedPlays.{HoldsOfEnds, events_hold}
use Rattle.play_mode.proofs.Permuted.{flat_map-permuted}
use Rattle.mode_parts.proofs.GoodCalls.{need_told}

-- ---- refused calls

-- a call is refused where it is an update, and too little is left
record WasShort (left need : SeatRows) (call : Call) (full : Full) : Type 0 where
  update : is_update call ≡ true
  told : full.need ≡ part_of need full.what
  short : full.left < full.need

-- so it is with each refusal
was_short : (left need : SeatRows) (call : Call) (full : Full) → refusal left need call ≡ Some full →
    WasShort left need call full
was_short left need call full is = go call is
  where
    one : (c : Call) → is_update c ≡ true → first_short left need ≡ Some full → WasShort left need c full
    one c update found =
        let first = find_in (λ (m : Full). nat_lt m.left m.need) (margins left need) full found in
        record {
          update = update;
          told = need_told left need full first.0;
          short = ltb-true full.left full.need first.1;
        }

    go : (c : Call) → refusal left need c ≡ Some full → WasShort left need c full
    go (Insert key value) found = one (Insert key value) refl found
    go (Remove key) found = one (Remove key) refl found
    go (Lookup key) found = absurd (cc)
    go (Tally key amount) found = one (Tally key amount) refl found
    go (Count key value amount) found = one (Count key value amount) refl found
    go (Put key value) found = one (Put key value) refl found

-- ---- what a last step records, and what is refused

-- what a line of a call that ended tells can be told
abbrev pub IsLine : Setup → Head → ℕ × Outcome → Type 0
IsLine setup head (seat, Answered r) = (seat < seats_of setup) × (8 ≤ length r.seen.counts)
IsLine setup head (seat, Refused packet call full) = (seat < seats_of setup) × IsShort head call full

-- so it is with each call that a seat ends
are_lines : (setup : Setup) (head : Head) → IsSettingsOf head (settings_of setup) →
    HoldsOfEnds setup (IsLine setup head)
are_lines setup head made = record {
  answered = λ seat flight reply place inside. (inside, counts_long flight.seen);
  refused = λ seat account begin full inside is.
      let short = was_short (left_of (sizes_of setup.shape seat) account.used) (need_of (settings_of setup)) begin.1
      full is in (
        inside,
        record {
          update = short.update;
          need = λ s is_of. short.told ∙ need_of_settings head (settings_of setup) s full.what made is_of;
          short = short.short;
        },
      );
}

-- ---- steps

-- the most steps, and so many
abbrev most_with : (update : Bool) (most : ℕ) → List (ℕ × Outcome) → ℕ
most_with update most lines = fold (λ m ended. max m (steps_of update ended.1)) most lines

-- none has more than the most
most_of : (update : Bool) (most : ℕ) (lines : List (ℕ × Outcome)) →
    (most ≤ most_with update most lines)
    × All (λ (ended : ℕ × Outcome). steps_of update ended.1 ≤ most_with update most lines) lines
most_of update most [] = (omega arith, All-nil (λ (ended : ℕ × Outcome). steps_of update ended.1 ≤ most))
most_of update most (line ∷ lines) =
    let later = most_of update (max most (steps_of update line.1)) lines in (
      omega (arith, later.0),
      All-cons
          (λ (ended : ℕ × Outcome). steps_of update ended.1
          ≤ most_with update (max most (steps_of update line.1)) lines)
          line lines (omega (arith, later.0)) later.1,
    )

-- the steps of an answer are among those of updates or of lookups
steps_fit : (limit : ℕ) (r : Record) → steps_of true (Answered r) < limit → steps_of false (Answered r) < limit →
    r.steps < limit
steps_fit limit r = go (is_update r.call)
  where
    go : (b : Bool) → cond b r.steps 0 < limit → cond b 0 r.steps < limit → r.steps < limit
    go true update lookup = update
    go false update lookup = lookup

-- ---- the lines of calls that ended

module _ (setup : Setup) (events : List Event) (run : IsRun setup events) (head : Head)
    (made : IsSettingsOf head (settings_of setup)) (lines : List (ℕ × Outcome))
    (told : IsPermutation (outcomes_of setup events) lines) where
  lines_hold : All (IsLine setup head) lines
  lines_hold =
      All-permutation (IsLine setup head) (outcomes_of setup events) lines told
      (events_hold setup (IsLine setup head) (are_lines setup head made) events (opening_world setup)
      (length-replicate (seats_of setup) fresh_seat) run.follow)

  -- each is of a seat
  pub lines_seats : All (λ line. line.0 < head.seats) lines
  lines_seats = λ k d inside. go (get_or lines k d) (lines_hold k d inside)
    where
      go : (line : ℕ × Outcome) → IsLine setup head line → line.0 < head.seats
      go (seat, Answered r) is = omega (arith, is.0, made.seats_are)
      go (seat, Refused packet call full) is = omega (arith, is.0, made.seats_are)

  -- each has ended as it is told, where there are eight seats at most and the most steps fit
  pub lines_ended : head.seats ≤ 8 → most_steps_in true lines < 2 ^ 64 → most_steps_in false lines < 2 ^ 64 →
      All (λ line. HasEnded head line.1) lines
  lines_ended eight update lookup = λ k d inside.
      go (get_or lines k d) (lines_hold k d inside)
      ((most_of true 0 lines).1 k d inside) ((most_of false 0 lines).1 k d inside)
    where
      go : (line : ℕ × Outcome) → IsLine setup head line → steps_of true line.1 ≤ most_steps_in true lines →
          steps_of false line.1 ≤ most_steps_in false lines → HasEnded head line.1
      go (seat, Answered r) is up look = (
        steps_fit (2 ^ 64) r (omega (arith, up, update)) (omega (arith, look, lookup)),
        omega (arith, is.1, eight),
      )
      go (seat, Refused packet call full) is up look = is.1

  -- a seat's records are its answered lines
  records_many : (seat : ℕ) →
      length (seat_in (world_after setup events) seat).account.records ≡ length (answered_by seat lines)
  records_many seat =
      ap length (answered_by_seats setup events seat)
      ∙ sym (length_permutation (answered_by seat (outcomes_of setup events)) (answered_by seat lines)
      (flat_map-permuted (λ (line : ℕ × Outcome). cond (line.0 == seat) (record_in line.1) [])
      (outcomes_of setup events) lines told))

  -- ---- those under way

  -- each is its seat's next
  pub lines_begun : (report : Report) → report.head ≡ head → report.head.play ≡ true → ended_in report ≡ lines →
      head.seats ≤ 8 → length lines < 2 ^ 32 → All (HasBegun report) (begun_of (world_after setup events))
  lines_begun report head_is play ended eight few =
      all_begun (HasBegun report) (world_after setup events) (λ seat flight phase less is.
      let inside : seat < seats_of setup = omega (arith, less, seats_after setup events) in
      let seats : report.head.seats ≡ head.seats = ap (λ (h : Head). h.seats) head_is in
      record {
        play = play;
        seat = omega (arith, inside, seats, made.seats_are);
        number = omega (
          arith,
          flights_are_numbered setup events seat flight phase run inside is,
          records_many seat,
          ap (λ (xs : List (ℕ × Outcome)). length (answered_by seat xs)) ended,
        );
        long = omega (arith, counts_long flight.seen, eight, seats);
        fit = counts_fit (2 ^ 32) flight.seen (omega arith) (λ other. omega (
          arith,
          seen_few setup events seat flight phase run inside is other,
          records_many other,
          few_answered other lines,
          few,
        ));
      })
