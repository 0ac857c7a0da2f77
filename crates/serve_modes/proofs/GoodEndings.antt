-- How the calls of a report of `serve` ended can be told: steps are below 2^64, there is a count of each seat, and a
-- refusal tells that less is left of a range than an update needs.
use Rattle.std.proofs.Common.{◌≡◌, ◌<◌, ◌≤◌, ℕ, ◌^◌, true, List, [], ◌∷◌, map, length, get_or, take, Option, Some, None, inl, refl, sym, ◌∙◌, subst, arith}
use Rattle.std.specs.Prelude.{◌==◌, All, filter, nat_lt}
use Rattle.std.proofs.lemmas.Bool.{eq-eqb, ltb-true}
use Rattle.std.proofs.lemmas.List.Elements.{All-append, All-map, All-nil}
use Rattle.step_counts.specs.declared.rows.SeatRows.{SeatRows}
use Rattle.step_counts.specs.declared.settings.Settings.{Settings}
use Rattle.step_counts.specs.StepCounts.{need_of}
use Rattle.plain_map.specs.declared.calls.Call.{Call}
use Rattle.plain_map.specs.declared.calls.Call.TheVariants.{Insert, Remove, Lookup, Tally, Count, Put}
use Rattle.plain_map.specs.declared.full.Full.{Full}
use Rattle.plain_map.specs.declared.keys.Pair.{Pair}
use Rattle.plain_map.specs.declared.records.Record.{Record}
use Rattle.plain_map.specs.Room.{first_short, left_of, margins, published, refusal}
use Rattle.word_rows.specs.Shape.{sizes_of}
use Rattle.trace_share.specs.declared.outcome.Outcome.{Outcome}
use Rattle.trace_share.specs.declared.outcome.Outcome.TheVariants.{Answered, Refused}
use Rattle.trace_share.specs.Outcomes.{RefusedByRoom, full_in, record_in, records_in}
use Rattle.plain_map.specs.Calls.{is_update}
use Rattle.table_model.specs.Worlds.{seat_in}
use Rattle.list_laws.proofs.Lists.{In, filter_in, find_in, flat_map_in, in_cut, map_in}
use Rattle.batch_history.specs.Batches.{answered_then, with_counts}
use Rattle.list_laws.proofs.Places.{all_in, in_all}
use Rattle.batch_rows.specs.Depths.{IsTableFor}
use Rattle.report_text.specs.declared.parts.Head.{Head}
use Rattle.report_told.specs.Rules.{IsSettingsOf, IsShort, part_of}
use Rattle.batch_deals.specs.declared.service.Service.{Service}
use Rattle.batch_runner.specs.Served.{AreServed, IsServed, Served, history_in, shape_in, world_in}
use Rattle.batch_runner.specs.Printed.{answers_in, outcome_on}
use Rattle.batch_answers.proofs.Served.{few_logs, none_refused}
use Rattle.report_promises.specs.Good.{HasEnded}
use Rattle.report_told.proofs.SettingsLemmas.{need_of_settings}
use Rattle.serve_modes.proofs.GoodLines.{lines_from, printed_on}
use Rattle.serve_modes.proofs.GoodSteps.{IsBrief, brief_batch}
use Rattle.mode_parts.proofs.GoodCalls.{need_told}

-- ---- refusals

-- why a call was refused: it is an update, and of one range less is left than is needed
record IsLess (need : SeatRows) (call : Call) (full : Full) : Type 0 where
  update : is_update call ≡ true
  needed : full.need ≡ part_of need full.what
  less : full.left < full.need

-- so it is where some part is short
less_first : (left need : SeatRows) (call : Call) (full : Full) → is_update call ≡ true →
    first_short left need ≡ Some full → IsLess need call full
less_first left need call full update is =
    let found = find_in (λ (margin : Full). nat_lt margin.left margin.need) (margins left need) full is in
    record {
      update = update;
      needed = need_told left need full found.0;
      less = ltb-true full.left full.need found.1;
    }

-- and so it is of each call that is refused
less_refused : (left need : SeatRows) (call : Call) (full : Full) → refusal left need call ≡ Some full →
    IsLess need call full
less_refused left need (Insert key value) full is = less_first left need (Insert key value) full refl is
less_refused left need (Remove key) full is = less_first left need (Remove key) full refl is
less_refused left need (Lookup key) full is = absurd (cc)
less_refused left need (Tally key amount) full is = less_first left need (Tally key amount) full refl is
less_refused left need (Count key value amount) full is =
    less_first left need (Count key value amount) full refl is
less_refused left need (Put key value) full is = less_first left need (Put key value) full refl is

-- where room decides, it is so of each refused call of a log
less_in : (rows need : SeatRows) (spent : List SeatRows) (log : List Outcome) → RefusedByRoom rows need [] spent log →
    (packet : ℕ) (call : Call) (full : Full) → In (Refused packet call full) log → IsLess need call full
less_in rows need spent log refused packet call full i =
    let cut = in_cut (Refused packet call full) log i in
    let left : SeatRows = left_of rows (published (take (length (records_in cut.0)) spent)) in
    less_refused left need call full (sym (refused cut.0 cut.1 (Refused packet call full) cut.2))

-- then the report can tell the refusal
is_short : (head : Head) (settings : Settings) (call : Call) (full : Full) → IsSettingsOf head settings →
    IsLess (need_of settings) call full → IsShort head call full
is_short head settings call full made less = record {
  update = less.update;
  need = λ (s : Settings) is. less.needed ∙ need_of_settings head settings s full.what made is;
  short = less.less;
}

-- ---- a batch

-- counts that are put together are no fewer
longer : (before counts : List ℕ) → length before ≤ length (with_counts before counts)
longer [] counts = omega arith
longer (b ∷ before) [] = omega arith
longer (b ∷ before) (c ∷ counts) = omega (arith, longer before counts)

-- the ending can be told, but for the counts that were seen
abbrev CanEnd : Head → Outcome → Type 0
CanEnd head (Answered r) = r.steps < 2 ^ 64
CanEnd head (Refused packet call full) = IsShort head call full

-- with as many counts before it as there are seats, all of it can
ended_on : (head : Head) (before : List ℕ) (outcome : Outcome) → head.seats ≤ length before → CanEnd head outcome →
    HasEnded head (outcome_on before outcome)
ended_on head before (Answered r) long can = (can, omega (arith, long, longer before r.seen.counts))
ended_on head before (Refused packet call full) long can = can

-- a call that was answered is among the answers
answer_in : (outcomes : List Outcome) (r : Record) → In (Answered r) outcomes → In r (answers_in outcomes)
answer_in outcomes r i = flat_map_in record_in outcomes (Answered r) r i (inl refl)

module _ (head : Head) (service : Service) (batch : Served) (is : IsServed service batch)
    (made : IsSettingsOf head service.settings) where
  -- an outcome of the batch is one of its seat's log
  logged : (o : ℕ × Outcome) → In o batch.outcomes →
      (o.0 < length batch.logs) × In o.1 (get_or batch.logs o.0 [])
  logged o i =
      let below : o.0 < length batch.logs =
      in_all (λ (p : ℕ × Outcome). p.0 < length batch.logs) batch.outcomes o is.outcomes.seats i in (
        below,
        subst (In o.1) (is.outcomes.each o.0 below)
            (map_in (λ (p : ℕ × Outcome). p.1) (filter (λ (p : ℕ × Outcome). p.0 == o.0) batch.outcomes) o
            (filter_in (λ (p : ℕ × Outcome). p.0 == o.0) batch.outcomes o i (eq-eqb o.0 o.0 refl))),
      )

  -- where a call was refused, rows are given, so the table has the settings that are told
  refused_short : (seat packet : ℕ) (call : Call) (full : Full) →
      In (seat, Refused packet call full) batch.outcomes → IsShort head call full
  refused_short seat packet call full i = go service.rows refl
    where
      log : List Outcome
      log = get_or batch.logs seat []

      there : (seat < length batch.logs) × In (Refused packet call full) log
      there = logged (seat, Refused packet call full) i

      go : (rows : Option SeatRows) → service.rows ≡ rows → IsShort head call full
      go None none =
          let full_is : full_in (Refused packet call full) ≡ None =
          in_all (λ (outcome : Outcome). full_in outcome ≡ None) log (Refused packet call full)
          (none_refused service batch is none seat [] there.0) there.1 in
          absurd (cc)
      go (Some given) some =
          let table : batch.settings ≡ service.settings =
          subst (λ (rows : Option SeatRows). IsTableFor service.settings service.hashing rows batch.first batch.calls
          batch.settings) some is.table in
          is_short head batch.settings call full (subst (IsSettingsOf head) (sym table) made)
          (less_in (sizes_of (shape_in service batch) seat) (need_of batch.settings)
          (seat_in (world_in service batch is.of_run.events) seat).account.spent log
          (is.of_run.refused seat (omega (arith, there.0, few_logs service batch is))) packet call full there.1)

  -- so each ending of the batch can be told, but for its counts
  can_end : (seat : ℕ) (outcome : Outcome) → In (seat, outcome) batch.outcomes → CanEnd head outcome
  can_end seat (Answered r) i =
      let outcomes : List Outcome = map (λ (o : ℕ × Outcome). o.1) batch.outcomes in
      in_all IsBrief (answers_in outcomes) r (brief_batch service batch is)
      (answer_in outcomes r (map_in (λ (o : ℕ × Outcome). o.1) batch.outcomes (seat, Answered r) i))
  can_end seat (Refused packet call full) i = refused_short seat packet call full i

  -- and printed behind as many counts as there are seats, all of it can
  ended_batch : (before : List ℕ) → head.seats ≤ length before →
      All (λ (line : ℕ × Outcome). HasEnded head line.1) (map (printed_on before) batch.outcomes)
  ended_batch before long =
      All-map (λ (line : ℕ × Outcome). HasEnded head line.1) (printed_on before) batch.outcomes
      (all_in (λ (o : ℕ × Outcome). HasEnded head (outcome_on before o.1)) batch.outcomes
      (λ o i. ended_on head before o.1 long (can_end o.0 o.1 i)))

-- ---- all batches

-- so it is of all batches
pub ended_all : (head : Head) (service : Service) (before : List ℕ) (first : List Pair) (batches : List Served) →
    AreServed service first batches → IsSettingsOf head service.settings → head.seats ≤ length before →
    All (λ (line : ℕ × Outcome). HasEnded head line.1) (lines_from service before batches)
ended_all head service before first [] are made long = All-nil _
ended_all head service before first (batch ∷ batches) are made long =
    let then : List ℕ = answered_then before (history_in service batch) in
    All-append (λ (line : ℕ × Outcome). HasEnded head line.1) (map (printed_on before) batch.outcomes)
    (lines_from service then batches) (ended_batch head service batch are.1 made before long)
    (ended_all head service then batch.pairs batches are.2 made
    (omega (arith, long, longer before (map (λ (log : List Record). length log) (history_in service batch).logs))))
