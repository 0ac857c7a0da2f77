-- One batch that was served: its logs, and the line of its answers.
use Rattle.std.proofs.Common.{◌≡◌, ℕ, ◌<◌, List, [], length, map, get_or, refl, inl, inr, sym, ap, ◌∙◌, subst, arith}
use Rattle.std.specs.Prelude.{All, None, filter, ◌==◌}
use Rattle.std.proofs.lemmas.Bool.{cases_lt, eq-eqb}
use Rattle.std.proofs.lemmas.List.{length-map}
use Rattle.list_laws.proofs.Lists.{In, in_map, map_in, filter_in}
use Rattle.bound_laws.specs.Moments.{asked_of}
use Rattle.trace_share.specs.declared.outcome.Outcome.{Outcome}
use Rattle.trace_share.specs.Outcomes.{asked_in, full_in, records_in}
use Rattle.trace_share.proofs.OnceLemmas.{deals_each_once}
use Rattle.batch_rows.specs.BatchRows.{rows_of}
use Rattle.batch_laws.specs.Rooms.{NoneRefused}
use Rattle.batch_laws.proofs.Logs.{answered_are_records}
use Rattle.list_laws.proofs.Places.{all_in, in_all}
use Rattle.batch_laws.proofs.Rooms.{batch_is_answered}
use Rattle.batch_laws.specs.Threads.{IsLineOf}
use Rattle.batch_laws.proofs.Shares.{outcomes_are_lines}
use Rattle.batch_deals.specs.declared.service.Service.{Service}
use Rattle.batch_runner.specs.Served.{Served, IsServed, setup_of_batch}
use Rattle.batch_deals.specs.Dealt.{shares_of}
use Rattle.batch_runner.proofs.Alike.{alike}
use Rattle.batch_runner.proofs.Closings.{numbered}
use Rattle.batch_deals.proofs.Deals.{long_dealt}
use Rattle.std.proofs.lemmas.Simd.{map-map}

module _ (service : Service) (batch : Served) (is : IsServed service batch) where
  -- and a log
  pub few_logs : length batch.logs ≡ service.settings.seats
  few_logs = sym (length-map batch.logs (map asked_in)) ∙ ap length is.of_run.asked
      ∙ long_dealt service.share service.settings.seats batch.calls

  -- the table has as many seats as the settings say
  same_seats : batch.settings.seats ≡ service.settings.seats
  same_seats = (alike service.settings service.hashing service.rows batch.first batch.calls batch.settings
      is.table).seats_are

  -- with no rows given none of them has a refused call
  pub none_refused : service.rows ≡ None → All NoneRefused batch.logs
  none_refused none = elim (cases_lt 0 service.settings.seats) [
    | inl some ↦ batch_is_answered (setup_of_batch service batch) is.of_run.events batch.calls
        (shares_of service batch.calls) batch.logs
        (deals_each_once service.share service.settings.seats batch.calls some)
        (ap (λ given. rows_of batch.settings service.hashing given batch.first batch.calls
        (shares_of service batch.calls)) none)
        (record {
          run = is.of_run.run;
          idle = is.of_run.idle;
          asked = is.of_run.asked;
          records = is.of_run.records;
          refused = λ seat below. is.of_run.refused seat (omega (arith, below, same_seats));
        })
    | inr no_seat ↦ λ seat d inside. absurd (omega (arith, inside, few_logs, no_seat))
  ]

  -- its outcomes without their seats
  abbrev pub plain : List Outcome
  plain = map (λ (o : ℕ × Outcome). o.1) batch.outcomes

  -- an outcome of the batch is one of its seat's log
  in_its_log : (o : ℕ × Outcome) → In o batch.outcomes → In o.1 (get_or batch.logs o.0 [])
  in_its_log o i =
      let below = in_all (λ (p : ℕ × Outcome). p.0 < length batch.logs) batch.outcomes o is.outcomes.seats i in
      subst (In o.1) (is.outcomes.each o.0 below)
      (map_in (λ (p : ℕ × Outcome). p.1) (filter (λ (p : ℕ × Outcome). p.0 == o.0) batch.outcomes) o
      (filter_in (λ (p : ℕ × Outcome). p.0 == o.0) batch.outcomes o i (eq-eqb o.0 o.0 refl)))

  -- so none of them was refused
  none_in_order : service.rows ≡ None → NoneRefused plain
  none_in_order none = all_in (λ outcome. full_in outcome ≡ None) plain (λ x i.
      let placed = in_map (λ (p : ℕ × Outcome). p.1) batch.outcomes x i in
      let below = in_all (λ (p : ℕ × Outcome). p.0 < length batch.logs) batch.outcomes placed.0 is.outcomes.seats
      placed.1 in
      let log = none_refused none placed.0.0 [] below in
      ap full_in placed.2
      ∙ in_all (λ outcome. full_in outcome ≡ None) (get_or batch.logs placed.0.0 []) placed.0.1 log
      (in_its_log placed.0 placed.1))

  -- what was asked are the batch's calls
  pub asked_are : map asked_in plain ≡ batch.calls
  asked_are = map-map asked_in (λ (o : ℕ × Outcome). o.1) batch.outcomes ∙ is.outcomes.asked

  -- so each has its record
  pub all_answered : service.rows ≡ None → map asked_of (records_in plain) ≡ batch.calls
  all_answered none = (answered_are_records plain (none_in_order none)).1 ∙ asked_are

  -- the records are a line of the logs
  pub line_is : IsLineOf (map (λ log. records_in log) batch.logs) (records_in plain)
  line_is = outcomes_are_lines batch.logs batch.outcomes (numbered service batch is.of_run)
      (record { seats = is.outcomes.seats; each = is.outcomes.each })
