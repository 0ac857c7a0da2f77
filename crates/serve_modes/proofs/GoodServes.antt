-- The report of `serve` is good: the one order of all its calls is one right order of what its lines tell.
use Rattle.std.proofs.Common.{◌≡◌, ◌≤◌, ◌<◌, ◌^◌, ℕ, false, List, [], map, length, sym, ap, ◌∙◌, subst, arith}
use Rattle.std.specs.Prelude.{All, filter}
use Rattle.std.specs.FinMap.{empty}
use Rattle.std.proofs.lemmas.List.{length-replicate}
use Rattle.std.proofs.lemmas.List.Elements.{All-nil, All-weaker}
use Rattle.plain_map.specs.declared.calls.Call.{Call}
use Rattle.plain_map.specs.declared.records.Pending.{Pending}
use Rattle.plain_map.specs.declared.records.Record.{Record}
use Rattle.plain_map.specs.declared.rules.Rules.{Rules}
use Rattle.plain_map.specs.PlainObject.{pairs_of}
use Rattle.plain_map.specs.History.{Legal, Placed, Whole, sessions_after}
use Rattle.step_counts.specs.StepCounts.{step_bound}
use Rattle.trace_share.specs.declared.outcome.Outcome.{Outcome}
use Rattle.batch_history.specs.Batches.{all_calls, no_counts}
use Rattle.batch_deals.specs.declared.service.Service.{Service}
use Rattle.batch_runner.specs.Served.{Served, history_in}
use Rattle.batch_deals.specs.Opens.{rules_of}
use Rattle.batch_runner.specs.Promises.{AreRight}
use Rattle.batch_answers.specs.Answers.{printed_in}
use Rattle.capture_loop.specs.Input.{packet_limit}
use Rattle.command_line.specs.declared.plan.Plan.{Plan}
use Rattle.capture_faults.specs.declared.ending.Ending.{Ending}
use Rattle.report_text.specs.Report.{Report, report_of}
use Rattle.step_counts.specs.Ranges.{IsWithin as Within}
use Rattle.report_told.specs.Rules.{IsEndingTold, IsHead, IsTail, Rise, seed_in, times}
use Rattle.report_told.specs.Points.{IsShortEnough, rules_told}
use Rattle.report_told.specs.Verdicts.{Certified}
use Rattle.report_promises.specs.Good.{GoodIsCertified, HasBegun, IsFitting, IsGood, begun_in, calls_begun, calls_ended}
use Rattle.mode_parts.specs.Callings.{calling_of}
use Rattle.mode_parts.specs.PacketCalls.{MakeCalls}
use Rattle.serve_modes.specs.Served.{AreDone, IsWithin, run_report, tail_of}
use Rattle.mode_parts.specs.Planned.{IsServiceOf, head_of}
use Rattle.mode_parts.proofs.GoodCalls.{calls_few, calls_rise}
use Rattle.serve_modes.proofs.GoodEndings.{ended_all}
use Rattle.serve_modes.proofs.GoodLines.{answered_printed, asked_all, lines_from, many_lines, none_begun, packets_all, seats_all}
use Rattle.serve_modes.proofs.GoodSettings.{head_told}
use Rattle.serve_modes.proofs.GoodTails.{tail_told}

-- an answer within the bound is short enough for the report
within_bound : (bound : ℕ) (r : Record) → IsWithin bound r → IsShortEnough bound r
within_bound bound r within is = within is

-- the rules of the service are those of the head line
rules_same : (plan : Plan) (service : Service) → IsServiceOf plan service →
    rules_of service ≡ rules_told (head_of false plan)
rules_same plan service asks = λ i. record {
  items = asks.settings.items_are i;
  depth = asks.settings.depth_is i;
  hashing = asks.hashing i;
}

-- The report of packets that were served is good. What a text can tell is given: of each call, of the head line and of
-- the last lines.
pub serve_is_good : (plan : Plan) (service : Service) (packets : List (List ℕ)) (calls : List (ℕ × Call))
    (batches : List Served) (ending : Ending) → MakeCalls (calling_of plan) 1 packets calls →
    AreDone plan service calls batches →
    length packets ≤ packet_limit → All (IsFitting plan.calls) calls → IsHead (head_of false plan) →
    IsTail (head_of false plan) (tail_of service (length packets) batches ending) →
    IsGood (run_report plan service (length packets) batches ending) (all_calls [] (map (history_in service) batches))
serve_is_good plan service packets calls batches ending made done few fitting head tail =
    let report : Report = run_report plan service (length packets) batches ending in
    let lines : List (ℕ × Outcome) = lines_from service no_counts batches in
    let all : List Placed = all_calls [] (map (history_in service) batches) in
    let right : AreRight service batches = done.promised.right in
    let asked : calls_ended lines ≡ calls = asked_all service no_counts [] batches done.served ∙ done.cut.parts in
    let none : begun_in report ≡ [] = none_begun service no_counts batches in
    let printed = sym (answered_printed service no_counts batches) in
    let rules : rules_of service ≡ rules_told (head_of false plan) = rules_same plan service done.asks in
    record {
      head = head;
      tail = tail;
      asked = subst (All (IsFitting plan.calls)) (sym asked) fitting;
      seats = subst (λ (many : ℕ). All (λ (line : ℕ × Outcome). line.0 < many) lines) done.asks.settings.seats_are
          (seats_all service no_counts [] batches done.served);
      ended = ended_all (head_of false plan) service no_counts [] batches done.served done.asks.settings
          (omega (arith, head.settings.seats_in_range.1, length-replicate {A = ℕ} 8 0));
      few = omega (arith, few, calls_few (calling_of plan) 1 packets calls made, many_lines lines, ap length asked);
      under_way = subst (λ (pending : List Pending). All (IsFitting plan.calls) (calls_begun pending)) (sym none)
          (All-nil (IsFitting plan.calls));
      begun = subst (All (HasBegun report)) (sym none) (All-nil (HasBegun report));
      rise = subst (λ (cs : List (ℕ × Call)). Rise (map (λ (call : ℕ × Call). call.0) cs)) (sym asked)
          (calls_rise (calling_of plan) 1 packets calls made);
      apart = λ packet some. absurd (omega (
        arith,
        some,
        ap (λ (pending : List Pending). times packet (map (λ (u : Pending). u.packet) pending)) none,
      ));
      numbered = done.promised.numbered;
      took = λ u. false;
      updates = λ u is. absurd (cc);
      whole = subst (λ (rs : List Record). Whole rs (filter (λ (u : Pending). false) (begun_in report)) all) printed
          (subst (λ (pending : List Pending). Whole (printed_in service no_counts batches)
          (filter (λ (u : Pending). false) pending) all) (sym none) done.promised.once);
      order = packets_all service no_counts [] batches;
      after = right.one_order.after;
      legal = subst (λ (r : Rules). Legal r empty all) rules right.one_order.legal;
      sessions = right.left ∙ ap pairs_of (sym right.one_order.leaves)
          ∙ ap (λ (r : Rules). pairs_of (sessions_after r empty all)) rules;
      steps = subst (All (IsShortEnough (step_bound service.settings))) printed
          (All-weaker (IsWithin (step_bound service.settings)) (IsShortEnough (step_bound service.settings))
          (within_bound (step_bound service.settings)) (printed_in service no_counts batches) done.promised.within);
    }

-- so its text is certified, where that of each call, of the seed and of the ending can be told
pub serve_is_certified : GoodIsCertified → (plan : Plan) (service : Service) (packets : List (List ℕ))
    (calls : List (ℕ × Call)) (batches : List Served) (ending : Ending) → MakeCalls (calling_of plan) 1 packets calls →
    AreDone plan service calls batches → length packets ≤ packet_limit → All (IsFitting plan.calls) calls →
    seed_in plan.hashing < 2 ^ 64 → Within 2048 65536 plan.batch → IsEndingTold ending →
    Certified (report_of (run_report plan service (length packets) batches ending))
serve_is_certified certified plan service packets calls batches ending made done few fitting seed range told =
    certified (run_report plan service (length packets) batches ending)
    (all_calls [] (map (history_in service) batches))
    (serve_is_good plan service packets calls batches ending made done few fitting
    (head_told false plan service done.asks seed range)
    (tail_told plan service packets calls batches ending made done few told))
