-- What is kept of each seat's calls: the log itself, or what its calls came to.
use Rattle.std.proofs.Common.{◌≡◌, ℕ, zero, suc, ◌<◌, ◌≤◌, ◌+◌, ◌-◌, ◌++◌, List, [], ◌∷◌, Vec, Global, length, map, take, drop, get_or, refl, sym, ap, ◌∙◌, subst, arith, length-append}
use Rattle.std.specs.Prelude.{flat_map, is_some}
use Rattle.std.specs.List.{AllZip}
use Rattle.std.proofs.lemmas.Grind.{flat_map-append}
use Rattle.std.proofs.lemmas.List.{append-nil, take-append-drop, take_more}
use Rattle.plain_map.specs.declared.calls.Call.{Call}
use Rattle.plain_map.specs.declared.keys.Pair.{Pair}
use Rattle.shared_table.specs.Values.{ClosedValue}
use Rattle.trace_share.specs.declared.outcome.Outcome.{Outcome}
use Rattle.trace_share.specs.declared.outcome.Outcome.TheVariants.{Answered, Refused}
use Rattle.trace_share.specs.Outcomes.{full_in, records_in}
use Rattle.trace_share.specs.Work.{IsLogOf}
use Rattle.batch_deals.specs.declared.service.Service.{Service}
use Rattle.batch_runner.specs.declared.totals.Totals.{Totals}
use Rattle.batch_runner.specs.Printed.{refused_in}
use Rattle.batch_runner.specs.Told.{IsClosedBatch}
use Rattle.batch_runner.specs.Totals.{IsTotalOf, totals_of}
use Rattle.batch_runner.proofs.TotalLemmas.{count_sum}

-- ---- logs that are kept

-- their outcomes, log by log
abbrev pub items_of : List (Vec Outcome Global) → List (List Outcome)
items_of kept = map (λ (log : Vec Outcome Global). log.items) kept

-- they are the logs
pub kept_are : (kept : List (Vec Outcome Global)) (logs : List (List Outcome)) → AllZip IsLogOf kept logs →
    items_of kept ≡ logs
kept_are [] [] each = refl
kept_are [] (log ∷ logs) each = absurd each
kept_are (one ∷ kept) [] each = absurd each
kept_are (one ∷ kept) (log ∷ logs) each = (λ i. each.0 i ∷ kept_are kept logs each.1 i)

-- so the batch is closed with them
pub kept_closed : (service : Service) (first : List Pair) (calls : List (ℕ × Call)) (closed : ClosedValue)
    (kept : List (Vec Outcome Global)) →
    ((logs : List (List Outcome)) × AllZip IsLogOf kept logs × IsClosedBatch service first calls closed logs) →
    IsClosedBatch service first calls closed (items_of kept)
kept_closed service first calls closed kept made =
    subst (IsClosedBatch service first calls closed) (sym (kept_are kept made.0 made.1)) made.2

-- ---- totals that are kept

-- those at a place are of the log there
pub total_at : (each : List Totals) (logs : List (List Outcome)) (i : ℕ) (d : Totals) → AllZip IsTotalOf each logs →
    i < length each → get_or each i d ≡ totals_of (get_or logs i [])
total_at [] logs i d are less = absurd (omega (arith, less))
total_at (totals ∷ each) [] i d are less = absurd are
total_at (totals ∷ each) (log ∷ logs) zero d are less = are.0
total_at (totals ∷ each) (log ∷ logs) (suc i) d are less = total_at each logs i d are.1 (omega (arith, less))

-- there are as many
pub as_many_totals : (each : List Totals) (logs : List (List Outcome)) → AllZip IsTotalOf each logs →
    length logs ≡ length each
as_many_totals [] [] are = refl
as_many_totals [] (log ∷ logs) are = absurd are
as_many_totals (totals ∷ each) [] are = absurd are
as_many_totals (totals ∷ each) (log ∷ logs) are = ap suc (as_many_totals each logs are.1)

-- those that are told of these logs are of the same that are kept
pub kept_totals : (told kept : List (Vec Outcome Global)) (each own : List Totals) → told ≡ kept → each ≡ own →
    AllZip IsTotalOf own (items_of told) → AllZip IsTotalOf each (items_of kept)
kept_totals told kept each own same is are =
    subst (λ (totals : List Totals). AllZip IsTotalOf totals (items_of kept)) (sym is)
    (subst (λ (logs : List (Vec Outcome Global)). AllZip IsTotalOf own (items_of logs)) same are)

-- those of a log more
pub one_total_more : (each : List Totals) (logs : List (List Outcome)) (totals : Totals) (log : List Outcome) →
    AllZip IsTotalOf each logs → IsTotalOf totals log → AllZip IsTotalOf (each ++ totals ∷ []) (logs ++ log ∷ [])
one_total_more [] [] totals log are is = (is, tt)
one_total_more [] (l ∷ logs) totals log are is = absurd are
one_total_more (t ∷ each) [] totals log are is = absurd are
one_total_more (t ∷ each) (l ∷ logs) totals log are is = (are.0, one_total_more each logs totals log are.1 is)

-- the outcomes of all logs
abbrev pub all_in : List (List Outcome) → List Outcome
all_in logs = flat_map (λ (log : List Outcome). log) logs

-- up to and with a log
pub with_log : (logs : List (List Outcome)) (i : ℕ) → i < length logs →
    all_in (take (i + 1) logs) ≡ all_in (take i logs) ++ get_or logs i []
with_log logs i inside =
    ap all_in (take_more logs i [] inside)
    ∙ flat_map-append (λ (log : List Outcome). log) (take i logs) (get_or logs i [] ∷ [])
    ∙ ap (λ (more : List Outcome). all_in (take i logs) ++ more) (append-nil (get_or logs i []))

-- they are no more than all
pub few_in : (logs : List (List Outcome)) (i : ℕ) → length (all_in (take i logs)) ≤ length (all_in logs)
few_in logs i = omega (
  arith,
  ap (λ (ls : List (List Outcome)). length (all_in ls)) (take-append-drop i logs),
  ap length (flat_map-append (λ (log : List Outcome). log) (take i logs) (drop i logs)),
  length-append (all_in (take i logs)) (all_in (drop i logs)),
)

-- each call of a log was answered or refused
pub answered_or_refused : (log : List Outcome) → length (records_in log) + refused_in log ≡ length log
answered_or_refused [] = omega arith
answered_or_refused (Answered made ∷ log) =
    omega (
      arith,
      answered_or_refused log,
      count_sum (λ (o : Outcome). is_some (full_in o)) (Answered made ∷ []) log,
    )
answered_or_refused (Refused packet call full ∷ log) =
    omega (
      arith,
      answered_or_refused log,
      count_sum (λ (o : Outcome). is_some (full_in o)) (Refused packet call full ∷ []) log,
    )

-- so the answered ones are told by the totals
pub answered_by : (totals : Totals) (log : List Outcome) → IsTotalOf totals log →
    (totals.refused ≤ totals.calls) × (totals.calls ≡ length log)
    × (totals.calls - totals.refused ≡ length (records_in log))
answered_by totals log is =
    let calls : totals.calls ≡ length log = ap (λ (t : Totals). t.calls) is in
    let refused : totals.refused ≡ refused_in log = ap (λ (t : Totals). t.refused) is in
    let all = answered_or_refused log in
    (omega (arith, calls, refused, all), calls, omega (arith, calls, refused, all))
