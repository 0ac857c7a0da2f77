-- What is kept of batches that were served, one batch further.
use Rattle.std.proofs.Common.{◌≡◌, ◌≤◌, ℕ, ◌+◌, List, [], ◌∷◌, ◌++◌, length, map, sym, ◌∙◌, ap, subst, refl, length-append, arith}
use Rattle.std.specs.Prelude.{false}
use Rattle.std.specs.List.{All, IsDistinct, flat_map}
use Rattle.std.proofs.lemmas.List.{flat_map_more}
use Rattle.std.proofs.lemmas.List.Elements.{All-append, All-cons, All-nil, All-replicate}
use Rattle.std.proofs.lemmas.Simd.{map-map}
use Rattle.plain_map.specs.declared.calls.Call.{Call}
use Rattle.plain_map.specs.declared.keys.Pair.{Pair}
use Rattle.plain_map.specs.declared.records.Record.{Record}
use Rattle.bucket_states.specs.Parts.{HasDistinctKeys}
use Rattle.trace_share.specs.Outcomes.{records_in}
use Rattle.report_text.specs.Report.{Batch as Lines, batch_lines, head_line}
use Rattle.batch_history.specs.Batches.{answered_then, with_counts, no_counts}
use Rattle.batch_runner.specs.declared.batch.Batch.{Batch}
use Rattle.batch_deals.specs.declared.service.Service.{Service}
use Rattle.batch_runner.specs.declared.totals.Totals.{Totals}
use Rattle.batch_deals.specs.Opens.{CanOpen, rules_of}
use Rattle.batch_runner.specs.Served.{IsServed, Served, AreServed, depth_in, history_in, leaves_in, pairs_left}
use Rattle.batch_runner.specs.Printed.{all_lines, answered_in_all, lines_of, outcomes_in}
use Rattle.batch_runner.specs.Told.{IsToldBy}
use Rattle.batch_runner.specs.Totals.{totals_of}
use Rattle.batch_runner.proofs.Telling.{told_many}
use Rattle.command_line.specs.declared.plan.Plan.{Plan}
use Rattle.serve_modes.specs.declared.progress.Progress.{Progress}
use Rattle.serve_modes.specs.Served.{depth_left, leaves_left, lines_so_far}
use Rattle.mode_parts.specs.Planned.{head_of}
use Rattle.serve_modes.specs.Progress.{HasServed, HasTexts}

-- ---- lists of batches, one longer

AreServed-more :
    (service : Service) (first : List Pair) (batches : List Served) (batch : Served) → AreServed service first batches →
    batch.first ≡ pairs_left first batches → IsServed service batch → AreServed service first (batches ++ batch ∷ [])
AreServed-more service first [] batch all begins is = (begins, is, tt)
AreServed-more service first (one ∷ batches) batch all begins is =
    (all.0, all.1, AreServed-more service one.pairs batches batch all.2 begins is)

pairs_left-more : (first : List Pair) (batches : List Served) (batch : Served) →
    pairs_left first (batches ++ batch ∷ []) ≡ batch.pairs
pairs_left-more first [] batch = refl
pairs_left-more first (one ∷ batches) batch = pairs_left-more one.pairs batches batch

answered_in_all-more : (service : Service) (before : List ℕ) (batches : List Served) (batch : Served) →
    answered_in_all service before (batches ++ batch ∷ [])
    ≡ answered_then (answered_in_all service before batches) (history_in service batch)
answered_in_all-more service before [] batch = refl
answered_in_all-more service before (one ∷ batches) batch =
    answered_in_all-more service (answered_then before (history_in service one)) batches batch

all_lines-more : (service : Service) (before : List ℕ) (batches : List Served) (batch : Served) →
    all_lines service before (batches ++ batch ∷ [])
    ≡ all_lines service before batches ++ lines_of service (answered_in_all service before batches) batch ∷ []
all_lines-more service before [] batch = refl
all_lines-more service before (one ∷ batches) batch =
    ap (λ (lines : List Lines). lines_of service before one ∷ lines)
    (all_lines-more service (answered_then before (history_in service one)) batches batch)

leaves_left-more : (service : Service) (found : ℕ) (batches : List Served) (batch : Served) →
    leaves_left service found (batches ++ batch ∷ []) ≡ length (leaves_in service batch)
leaves_left-more service found [] batch = refl
leaves_left-more service found (one ∷ batches) batch =
    leaves_left-more service (length (leaves_in service one)) batches batch

depth_left-more : (service : Service) (found : ℕ) (batches : List Served) (batch : Served) →
    depth_left service found (batches ++ batch ∷ []) ≡ depth_in service batch
depth_left-more service found [] batch = refl
depth_left-more service found (one ∷ batches) batch = depth_left-more service (depth_in service one) batches batch

outcomes_in-more : (batches : List Served) (batch : Served) →
    outcomes_in (batches ++ batch ∷ []) ≡ outcomes_in batches ++ map (λ o. o.1) batch.outcomes
outcomes_in-more batches batch =
    sym (flat_map_more (λ (one : Served). map (λ o. o.1) one.outcomes) [] batches batch)

-- the lines of one batch more stand behind the others
pub lines_so_far-more : (plan : Plan) (service : Service) (batches : List Served) (batch : Served) →
    lines_so_far plan service (batches ++ batch ∷ [])
    ≡ lines_so_far plan service batches
    ++ batch_lines plan.seats (lines_of service (answered_in_all service no_counts batches) batch)
unfolding lines_so_far
lines_so_far-more plan service batches batch =
    let lines : Lines = lines_of service (answered_in_all service no_counts batches) batch in
    ap (λ (all : List Lines). head_line (head_of false plan) ++ flat_map (batch_lines plan.seats) all)
    (all_lines-more service no_counts batches batch)
    ∙ sym (flat_map_more (batch_lines plan.seats) (head_line (head_of false plan)) (all_lines service no_counts batches)
    lines)

-- ---- what is kept

-- at first nothing
pub HasServed-none : (service : Service) (progress : Progress) → progress.before ≡ no_counts →
    progress.pairs.items ≡ [] → progress.totals ≡ totals_of [] → progress.leaves ≡ 0 → progress.depth ≡ 0 →
    CanOpen (rules_of service) [] → HasServed service progress []
HasServed-none service progress before pairs totals leaves depth opens =
    record {
      served = tt;
      texts = All-nil _;
      counts = before;
      few = subst (λ (counts : List ℕ). All (λ count. count ≤ progress.totals.calls) counts) (sym before)
          (All-replicate (λ count. count ≤ progress.totals.calls) 8 0 (omega arith));
      pairs = pairs;
      opens = subst (CanOpen (rules_of service)) (sym pairs) opens;
      totals = totals;
      leaves = leaves;
      depth = depth;
    }

-- the counts of a batch are those of its records
counts_are : (service : Service) (served : Served) (before : List ℕ) →
    with_counts before (map (λ log. length (records_in log)) served.logs)
    ≡ answered_then before (history_in service served)
counts_are service served before =
    ap (with_counts before) (sym (map-map (λ (log : List Record). length log) records_in served.logs))

-- one batch more was served, and this is kept of it
pub HasServed-more :
    (service : Service) (old new : Progress) (batches : List Served) (served : Served) (batch : Batch)
    (calls : List (ℕ × Call)) →
    HasServed service old batches → served.first ≡ old.pairs.items → served.calls ≡ calls → IsServed service served →
    IsToldBy service served batch → HasTexts calls → new.before ≡ with_counts old.before batch.answered.items →
    All (λ count. count ≤ old.totals.calls + length calls) new.before → new.pairs.items ≡ batch.pairs.items →
    CanOpen (rules_of service) batch.pairs.items →
    new.totals ≡ totals_of (outcomes_in batches ++ map (λ o. o.1) served.outcomes) → new.leaves ≡ batch.leaves →
    new.depth ≡ batch.depth → HasServed service new (batches ++ served ∷ [])
HasServed-more service old new batches served batch calls has first asked is told texts before few pairs opens totals
    leaves depth =
    let counted : new.totals.calls ≡ old.totals.calls + length calls = omega (
      arith,
      ap (λ (t : Totals). t.calls) totals,
      ap (λ (t : Totals). t.calls) has.totals,
      length-append (outcomes_in batches) (map (λ o. o.1) served.outcomes),
      told_many service served is,
      ap length asked,
    ) in
    record {
      served = AreServed-more service [] batches served has.served (first ∙ has.pairs) is;
      texts = All-append (λ (one : Served). HasTexts one.calls) batches (served ∷ []) has.texts
          (All-cons (λ (one : Served). HasTexts one.calls) served [] (subst HasTexts (sym asked) texts) (All-nil _));
      counts = before ∙ ap (λ (counts : List ℕ). with_counts counts batch.answered.items) has.counts
          ∙ ap (with_counts (answered_in_all service no_counts batches)) told.answered
          ∙ counts_are service served (answered_in_all service no_counts batches)
          ∙ sym (answered_in_all-more service no_counts batches served);
      few = subst (λ (most : ℕ). All (λ count. count ≤ most) new.before) (sym counted) few;
      pairs = pairs ∙ told.pairs ∙ sym (pairs_left-more [] batches served);
      opens = subst (CanOpen (rules_of service)) (sym pairs) opens;
      totals = totals ∙ ap totals_of (sym (outcomes_in-more batches served));
      leaves = leaves ∙ told.leaves ∙ sym (leaves_left-more service 0 batches served);
      depth = depth ∙ told.depth ∙ sym (depth_left-more service 0 batches served);
    }

-- ---- an empty table

no_keys : HasDistinctKeys []
unfolding IsDistinct
no_keys = tt

-- a table with no pairs can be opened
pub CanOpen-none : (service : Service) → CanOpen (rules_of service) []
CanOpen-none service =
    record { pairs = All-nil _; distinct = no_keys; room = λ front back pair cut. absurd (no_cut front pair back cut) }
  where
    no_cut : (front : List Pair) (pair : Pair) (back : List Pair) → [] ≡ front ++ pair ∷ back → ⊥
    no_cut [] pair back cut = cc
    no_cut (one ∷ front) pair back cut = cc
