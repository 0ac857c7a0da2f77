-- The last lines of a report of `serve` can be told, where the ending of the input can: all their numbers are small.
use Rattle.std.proofs.Common.{◌≡◌, ◌<◌, ◌≤◌, ◌^◌, ◌+◌, max, not, ℕ, zero, suc, Bool, true, false, cond, List, [], ◌∷◌, map, length, reverse, take, drop, fold, refl, sym, ap, ◌∙◌, subst, arith, length-append, length-drop, length-take}
use Rattle.std.specs.Prelude.{All, filter, slice_index}
use Rattle.std.proofs.lemmas.Int.{clamps}
use Rattle.std.proofs.lemmas.List.{length-map, length-reverse}
use Rattle.std.proofs.lemmas.List.Elements.{All-filter, All-head, All-tail}
use Rattle.std.proofs.Math.Pow.{pow_mono}
use Rattle.plain_map.specs.declared.calls.Call.{Call}
use Rattle.plain_map.specs.declared.keys.Pair.{Pair}
use Rattle.plain_map.specs.declared.records.Record.{Record}
use Rattle.word_rows.specs.declared.addresses.Address.TheVariants.{DirectoryWord}
use Rattle.word_rows.specs.Places.{place}
use Rattle.word_rows.specs.Shape.{Shape}
use Rattle.plain_map.specs.Calls.{is_update}
use Rattle.table_model.specs.Reading.{each_once, is_among, root_of}
use Rattle.table_model.specs.Closed.{closed_buckets, closed_depth, closed_leaves, leaf_at}
use Rattle.trace_share.specs.declared.outcome.Outcome.{Outcome}
use Rattle.batch_history.specs.Batches.{answered_then, no_counts}
use Rattle.capture_loop.specs.Input.{packet_limit}
use Rattle.command_line.specs.declared.plan.Plan.{Plan}
use Rattle.capture_faults.specs.declared.ending.Ending.{Ending}
use Rattle.report_told.specs.Rules.{IsEndingTold, IsTail}
use Rattle.batch_deals.specs.declared.service.Service.{Service}
use Rattle.batch_runner.specs.Served.{AreServed, IsServed, Served, depth_in, history_in, leaves_in, setup_of_batch, shape_in}
use Rattle.batch_runner.specs.Printed.{answers_in, most_steps, outcomes_in}
use Rattle.batch_deals.proofs.Shallow.{shallow}
use Rattle.batch_runner.proofs.TotalLemmas.{refused_fit}
use Rattle.report_promises.specs.Good.{calls_ended}
use Rattle.mode_parts.specs.Callings.{calling_of}
use Rattle.mode_parts.specs.PacketCalls.{MakeCalls}
use Rattle.serve_modes.specs.Served.{AreDone, depth_left, leaves_left, tail_of}
use Rattle.mode_parts.specs.Planned.{head_of}
use Rattle.mode_parts.proofs.GoodCalls.{calls_few}
use Rattle.serve_modes.proofs.GoodLines.{asked_all, lines_from, many_lines, printed_on}
use Rattle.serve_modes.proofs.GoodSettings.{bound_told}
use Rattle.serve_modes.proofs.GoodSteps.{IsBrief, brief_all}

-- ---- leaves

-- of each number one is kept, so they are no more
each_shorter : (numbers : List ℕ) → length (each_once numbers) ≤ length numbers
each_shorter [] = omega arith
each_shorter (number ∷ numbers) = go (is_among numbers number) (each_shorter numbers)
  where
    go : (b : Bool) → length (each_once numbers) ≤ length numbers →
        length (cond b (each_once numbers) (number ∷ each_once numbers)) ≤ suc (length numbers)
    go true less = omega (arith, less)
    go false less = omega (arith, less)

-- the first of some words from a place on is the word there
first_from : (many start : ℕ) (words : List ℕ) →
    slice_index (take (suc many) (drop start words)) 0 ≡ slice_index words start
first_from many zero [] = refl
first_from many zero (word ∷ words) = refl
first_from many (suc start) [] = refl
first_from many (suc start) (word ∷ words) = first_from many start words

-- so it is where two and more are read
first_word : (many start : ℕ) (words : List ℕ) →
    slice_index (take (2 + many) (drop start words)) 0 ≡ slice_index words start
first_word many start words =
    let more : 2 + many ≡ suc (suc many) = omega arith in
    ap (λ (n : ℕ). slice_index (take n (drop start words)) 0) more ∙ first_from (suc many) start words

-- without two of so many words, no more than the others are left
others_few : (many : ℕ) (words : List ℕ) → length (drop 2 (take (2 + many) words)) ≤ many
others_few many words =
    omega (arith, clamps, length-drop 2 (take (2 + many) words), length-take (2 + many) words)

-- there are no more leaves than the directory has places
leaves_few : (shape : Shape) (words : List ℕ) →
    length (closed_leaves shape words) ≤ 2 ^ closed_depth shape words
leaves_few shape words =
    let start : ℕ = place shape (DirectoryWord (root_of shape words) 0) in
    let many : ℕ = 2 ^ slice_index words start in
    let entries : List ℕ = drop 2 (take (2 + many) (drop start words)) in
    let deep : closed_depth shape words ≡ slice_index words start = first_word many start words in
    omega (
      arith,
      length-map (closed_buckets shape words) (leaf_at shape words),
      length-reverse (each_once (reverse entries)),
      each_shorter (reverse entries),
      length-reverse entries,
      others_few many (drop start words),
      ap (λ (depth : ℕ). 2 ^ depth) deep,
    )

module _ (service : Service) (batch : Served) (is : IsServed service batch) where
  -- the directory of a batch is no deeper than settings can say
  depth_small : depth_in service batch ≤ 12
  depth_small =
      let least : closed_depth (shape_in service batch) batch.words ≤ batch.settings.depth =
      subst (λ (words : List ℕ). closed_depth (shape_in service batch) words ≤ batch.settings.depth)
      (sym is.of_run.words_are) (shallow (setup_of_batch service batch) is.of_run.events is.of_run.run) in
      omega (arith, least, batch.settings.depth_in_range.1)

  -- so it has no more leaves than that
  leaves_small : length (leaves_in service batch) ≤ 4096
  leaves_small =
      let most : 2 ^ depth_in service batch ≤ 2 ^ 12 = pow_mono depth_small in
      omega (arith, most, leaves_few (shape_in service batch) batch.words)

-- so it is of the last batch, or where there is none
leaves_end : (service : Service) (found : ℕ) (first : List Pair) (batches : List Served) → found ≤ 4096 →
    AreServed service first batches → leaves_left service found batches ≤ 4096
leaves_end service found first [] few are = few
leaves_end service found first (batch ∷ batches) few are =
    leaves_end service (length (leaves_in service batch)) batch.pairs batches (leaves_small service batch are.1) are.2

depth_end : (service : Service) (found : ℕ) (first : List Pair) (batches : List Served) → found ≤ 12 →
    AreServed service first batches → depth_left service found batches ≤ 12
depth_end service found first [] few are = few
depth_end service found first (batch ∷ batches) few are =
    depth_end service (depth_in service batch) batch.pairs batches (depth_small service batch are.1) are.2

-- ---- steps

-- the greatest of small steps is small
most_small : (most : ℕ) (rs : List Record) → most < 2 ^ 64 → All IsBrief rs →
    fold (λ (m : ℕ) (r : Record). max m r.steps) most rs < 2 ^ 64
most_small most [] few brief = few
most_small most (r ∷ rs) few brief =
    most_small (max most r.steps) rs (omega (arith, clamps, few, All-head IsBrief r rs brief))
    (All-tail IsBrief r rs brief)

-- so it is of those that pass a test
steps_small : (test : Record → Bool) (rs : List Record) → All IsBrief rs → most_steps (filter test rs) < 2 ^ 64
steps_small test rs brief = most_small 0 (filter test rs) (omega arith) (All-filter test IsBrief rs brief)

-- ---- counts

-- there are as many outcomes as lines
as_many : (service : Service) (before : List ℕ) (batches : List Served) →
    length (outcomes_in batches) ≡ length (lines_from service before batches)
as_many service before [] = refl
as_many service before (batch ∷ batches) =
    let then : List ℕ = answered_then before (history_in service batch) in
    let plain : List Outcome = map (λ (o : ℕ × Outcome). o.1) batch.outcomes in
    let here : List (ℕ × Outcome) = map (printed_on before) batch.outcomes in
    omega (
      arith,
      length-append plain (outcomes_in batches),
      length-append here (lines_from service then batches),
      length-map batch.outcomes (λ (o : ℕ × Outcome). o.1),
      length-map batch.outcomes (printed_on before),
      as_many service then batches,
    )

-- so there are as many as calls
pub many_outcomes : (service : Service) (calls : List (ℕ × Call)) (batches : List Served) →
    calls_ended (lines_from service no_counts batches) ≡ calls → length (outcomes_in batches) ≡ length calls
many_outcomes service calls batches asked =
    as_many service no_counts batches ∙ many_lines (lines_from service no_counts batches) ∙ ap length asked

-- ---- the last lines

pub tail_told : (plan : Plan) (service : Service) (packets : List (List ℕ)) (calls : List (ℕ × Call))
    (batches : List Served) (ending : Ending) → MakeCalls (calling_of plan) 1 packets calls →
    AreDone plan service calls batches →
    length packets ≤ packet_limit → IsEndingTold ending →
    IsTail (head_of false plan) (tail_of service (length packets) batches ending)
tail_told plan service packets calls batches ending made done few told =
    let outcomes : List Outcome = outcomes_in batches in
    let brief : All IsBrief (answers_in outcomes) = brief_all service [] batches done.served in
    let many : length outcomes ≡ length calls = many_outcomes service calls batches
    (asked_all service no_counts [] batches done.served ∙ done.cut.parts) in
    let calls_small : length outcomes ≤ 4000000 = omega
    (arith, many, few, calls_few (calling_of plan) 1 packets calls made) in
    record {
      leaves = omega (arith, leaves_end service 0 [] batches (omega arith) done.served);
      depth = omega (arith, depth_end service 0 [] batches (omega arith) done.served);
      ending = told;
      packets = omega (arith, few);
      calls = omega (arith, calls_small);
      passed = omega (arith, few);
      full = omega (arith, calls_small, refused_fit outcomes);
      pending = omega arith;
      unbegun = omega arith;
      update = steps_small (λ (r : Record). is_update r.call) (answers_in outcomes) brief;
      lookup = steps_small (λ (r : Record). not (is_update r.call)) (answers_in outcomes) brief;
      bound = bound_told false plan service done.asks;
    }
