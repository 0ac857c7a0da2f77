-- What a log tells of its records, and members of lists of calls.
use Rattle.std.proofs.Common.{◌≡◌, ℕ, zero, suc, ◌≤◌, cond, List, [], ◌∷◌, map, get_or, None, refl, inl, inr, ap, arith}
use Rattle.std.specs.Prelude.{All, flat_map, count_by, Some}
use Rattle.std.proofs.lemmas.List.Elements.{All-head, All-tail}
use Rattle.std.proofs.lemmas.List.Sums.{sum_by-cons}
use Rattle.plain_map.specs.declared.calls.Call.{Call}
use Rattle.plain_map.specs.declared.keys.Key.{Key}
use Rattle.plain_map.specs.declared.records.Record.{Record}
use Rattle.bucket_states.specs.Items.{same_key}
use Rattle.bucket_states.proofs.KeyTests.{Decides-same_key}
use Rattle.plain_map.specs.Calls.{is_update}
use Rattle.table_model.specs.Needs.{inserted_by, IsAmongKeys}
use Rattle.list_laws.proofs.Lists.{In, in_flat_map, flat_map_in, in_left, in_right, any_from}
use Rattle.bound_laws.specs.Moments.{asked_of, AllAmong}
use Rattle.trace_share.specs.declared.outcome.Outcome.{Outcome}
use Rattle.trace_share.specs.declared.outcome.Outcome.TheVariants.{Answered, Refused}
use Rattle.trace_share.specs.Outcomes.{asked_in, full_in, records_in}
use Rattle.batch_rows.specs.BatchRows.{updates_in_calls, inserted_in_calls}
use Rattle.batch_laws.specs.Rooms.{AnsweredAreRecords}
use Rattle.list_laws.proofs.Places.{in_all, all_in}

-- ---- members

-- a member of one of some lists is one of all of them
pub in_one : {A : Type 0} → (lists : List (List A)) (at : ℕ) (x : A) → In x (get_or lists at []) →
    In x (flat_map (λ list. list) lists)
in_one [] at x i = elim i [ ]
in_one (list ∷ lists) zero x i = in_left x list (flat_map (λ l. l) lists) i
in_one (list ∷ lists) (suc at) x i = in_right x list (flat_map (λ l. l) lists) (in_one lists at x i)

-- ---- logs

-- what the records were asked was asked
pub asked_there : (log : List Outcome) (call : ℕ × Call) → In call (map asked_of (records_in log)) →
    In call (map asked_in log)
asked_there [] call i = i
asked_there (Answered made ∷ log) call (inl is) = inl is
asked_there (Answered made ∷ log) call (inr i) = inr (asked_there log call i)
asked_there (Refused packet asked full ∷ log) call i = inr (asked_there log call i)

-- so the updates among the records are no more than those that were asked
pub fewer_updates : (log : List Outcome) →
    count_by (λ (r : Record). is_update r.call) (records_in log) ≤ updates_in_calls (map asked_in log)
fewer_updates [] = omega arith
fewer_updates (Answered made ∷ log) = omega (
  arith,
  sum_by-cons (λ (r : Record). cond (is_update r.call) 1 0) made (records_in log),
  sum_by-cons (λ (asked : ℕ × Call). cond (is_update asked.1) 1 0) (asked_in (Answered made)) (map asked_in log),
  fewer_updates log,
)
fewer_updates (Refused packet call full ∷ log) = omega (
  arith,
  sum_by-cons (λ (asked : ℕ × Call). cond (is_update asked.1) 1 0) (packet, call) (map asked_in log),
  fewer_updates log,
)

-- where none is refused, all are records
pub answered_are_records : AnsweredAreRecords
answered_are_records [] none = (refl, refl)
answered_are_records (Answered made ∷ log) none =
    let rest = answered_are_records log
    (All-tail (λ outcome. full_in outcome ≡ None) (Answered made) log none) in
    (ap (λ os. Answered made ∷ os) rest.0, ap (λ cs. asked_of made ∷ cs) rest.1)
answered_are_records (Refused packet call full ∷ log) none =
    let no : Some full ≡ None =
    All-head (λ outcome. full_in outcome ≡ None) (Refused packet call full) log none in cc

-- ---- the keys of a batch

-- all that a call inserts is among these keys
abbrev pub Fits : List Key → ℕ × Call → Type 0
Fits keys call = All (IsAmongKeys keys) (inserted_by call.1)

-- what calls insert is among the keys that they insert
pub calls_fit : (calls : List (ℕ × Call)) → All (Fits (inserted_in_calls calls)) calls
calls_fit calls = all_in (Fits (inserted_in_calls calls)) calls (λ call there.
    all_in (IsAmongKeys (inserted_in_calls calls)) (inserted_by call.1) (λ key inserts.
    any_from (same_key key) (inserted_in_calls calls) key
    (flat_map_in (λ (asked : ℕ × Call). inserted_by asked.1) calls call key there inserts)
    ((Decides-same_key key key).1 refl)))

-- so it is where each of them does
pub among_of : (keys : List Key) (calls : List (ℕ × Call)) → ((call : ℕ × Call) → In call calls → Fits keys call) →
    AllAmong keys calls
among_of keys calls fits = all_in (IsAmongKeys keys) (flat_map (λ (call : ℕ × Call). inserted_by call.1) calls)
    (λ key there.
    let call = in_flat_map (λ (call : ℕ × Call). inserted_by call.1) calls key there in
    in_all (IsAmongKeys keys) (inserted_by call.0.1) key (fits call.0 call.1) call.2)
