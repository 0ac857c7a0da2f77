-- No seat has more calls in a batch than the batch has.
use Rattle.std.proofs.Common.{◌≡◌, ℕ, ◌<◌, ◌≤◌, List, [], ◌∷◌, length, map, sym, subst, arith}
use Rattle.std.specs.Prelude.{All}
use Rattle.std.proofs.lemmas.List.{length-map}
use Rattle.std.proofs.lemmas.List.Elements.{All-nil, All-cons, All-head, All-tail, All-weaker}
use Rattle.plain_map.specs.declared.calls.Call.{Call}
use Rattle.trace_share.specs.declared.outcome.Outcome.{Outcome}
use Rattle.trace_share.specs.Outcomes.{asked_in, records_in}
use Rattle.trace_share.proofs.OutcomeLemmas.{records_few}
use Rattle.batch_deals.specs.declared.service.Service.{Service}
use Rattle.batch_deals.specs.Dealt.{shares_of}
use Rattle.batch_deals.proofs.Deals.{dealt_few}

-- what holds of all that are mapped
pub unmap_all : {A B : Type 0} (P : B → Type 0) (f : A → B) (xs : List A) → All P (map f xs) → All (λ x. P (f x)) xs
unmap_all P f [] all = All-nil (λ x. P (f x))
unmap_all P f (x ∷ xs) all =
    All-cons (λ y. P (f y)) x xs (All-head P (f x) (map f xs) all) (unmap_all P f xs (All-tail P (f x) (map f xs) all))

-- no log is longer than all calls
pub short_asked : (service : Service) (calls : List (ℕ × Call)) (logs : List (List Outcome)) →
    map (λ (log : List Outcome). map asked_in log) logs ≡ shares_of service calls →
    All (λ (log : List Outcome). length (records_in log) ≤ length calls) logs
short_asked service calls logs asked =
    let L : List (ℕ × Call) → Type 0 = λ (s : List (ℕ × Call)). length s ≤ length calls in
    let f : List Outcome → List (ℕ × Call) = λ (log : List Outcome). map asked_in log in
    let shares : All L (shares_of service calls) = dealt_few service.share service.settings.seats calls in
    All-weaker (λ (log : List Outcome). length (map asked_in log) ≤ length calls)
    (λ (log : List Outcome). length (records_in log) ≤ length calls)
    (λ log few. omega (arith, few, length-map log asked_in, records_few log)) logs
    (unmap_all L f logs (subst (All L) (sym asked) shares))

-- whole logs neither
pub short_logs : (service : Service) (calls : List (ℕ × Call)) (logs : List (List Outcome)) (limit : ℕ) →
    map (λ (log : List Outcome). map asked_in log) logs ≡ shares_of service calls → length calls < limit →
    All (λ (log : List Outcome). length log < limit) logs
short_logs service calls logs limit asked few =
    let L : List (ℕ × Call) → Type 0 = λ (s : List (ℕ × Call)). length s ≤ length calls in
    let f : List Outcome → List (ℕ × Call) = λ (log : List Outcome). map asked_in log in
    let shares : All L (shares_of service calls) = dealt_few service.share service.settings.seats calls in
    All-weaker (λ (log : List Outcome). length (map asked_in log) ≤ length calls)
    (λ (log : List Outcome). length log < limit)
    (λ log less. omega (arith, less, few, length-map log asked_in)) logs
    (unmap_all L f logs (subst (All L) (sym asked) shares))
