use Rattle.std.proofs.Common.{ℕ, ◌^◌, ◌<◌, List, length, refl, sym, ap, ◌∙◌, subst, arith}
use Rattle.std.specs.Prelude.{IsPermutation}
use Rattle.std.proofs.lemmas.List.{length-map}
use Rattle.word_rows.specs.Shape.{Shape}
use Rattle.closed_words.specs.Views.{as_leaf}
use Rattle.table_model.specs.Closed.{closed_depth, closed_leaves, closed_pairs}
use Rattle.trace_share.specs.declared.outcome.Outcome.{Outcome}
use Rattle.trace_share.specs.Outcomes.{asked_in}
use Rattle.batch_runner.specs.declared.totals.Totals.{Totals}
use Rattle.batch_runner.proofs.ByLogs.{same_totals, some_outcomes}
use Rattle.batch_runner.proofs.Counted.{short_logs}
use Rattle.batch_runner.proofs.batch.told.Goals as goal

pub sum-requires : goal.sum-requires
sum-requires c =
    let calls = c.args.calls.now in
    let logs : List (List Outcome) = c.requires.closed.0 in
    let some = some_outcomes c.args.service.now.share c.args.service.now.settings.seats calls logs
    (omega (arith, c.args.service.now.settings.seats_in_range.0)) c.requires.closed.2.asked in
    record {
      few = (
        logs,
        c.requires.closed.1,
        omega (
          arith,
          ap (λ (t : Totals). t.calls) (same_totals calls logs some.0 some.1),
          length-map some.0 (λ (o : ℕ × Outcome). o.1),
          length-map some.0 (λ (o : ℕ × Outcome). asked_in o.1),
          ap length some.1.asked,
          c.requires.few,
        ),
      );
    }

pub counts_of-requires : goal.counts_of-requires
counts_of-requires c =
    let few : length c.args.calls.now < 2 ^ 32 = omega (arith, c.requires.few) in
    let logs : List (List Outcome) = c.requires.closed.0 in
    record {
      few = (
        logs,
        c.requires.closed.1,
        short_logs c.args.service.now c.args.calls.now logs (2 ^ 32) c.requires.closed.2.asked few,
      );
    }

pub overflow_cast-result : goal.overflow_cast-result
overflow_cast-result c =
    omega (arith, c.depth.ensures, c.requires.closed.2.shallow, c.args.closed.now.shape.settings.depth_in_range.1)

pub returns : goal.returns
returns c = record {
  told = λ logs are closed.
      let service = c.args.service.now in
      let words : List ℕ = c.args.closed.now.words in
      record {
        some = some_outcomes service.share service.settings.seats c.args.calls.now logs
            (omega (arith, service.settings.seats_in_range.0)) closed.asked;
        served = λ outcomes ordered. record {
          table = closed.table;
          of_run = closed.of_run outcomes c.in_ok-pairs.field-0.items;
          outcomes = ordered;
          left = subst (λ (s : Shape). IsPermutation (closed_pairs s words) c.in_ok-pairs.field-0.items)
              closed.shape_is c.in_ok-pairs.ensures.held;
          sorted = c.in_ok-pairs.ensures.sorted;
        };
        told = λ outcomes ordered. record {
          totals = c.sum.ensures logs are ∙ same_totals c.args.calls.now logs outcomes ordered;
          answered = c.in_ok-counts_of.ensures logs are;
          pairs = refl;
          leaves = c.len.ensures ∙ c.in_ok-leaves.field-0.ok.0
              ∙ sym (length-map c.in_ok-leaves.field-0.items as_leaf) ∙ ap length c.in_ok-leaves.ensures
              ∙ ap (λ (s : Shape). length (closed_leaves s words)) closed.shape_is;
          depth = c.depth.ensures ∙ ap (λ (s : Shape). closed_depth s words) closed.shape_is;
        };
      };
}
