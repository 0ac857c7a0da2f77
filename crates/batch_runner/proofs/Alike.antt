-- A table of a batch answers the batch as a table with the settings of the service would.
use Rattle.std.proofs.Common.{◌≡◌, ℕ, ◌≤◌, List, [], ◌∷◌, ◌++◌, map, get_or, refl, sym, ◌∙◌, subst, arith}
use Rattle.std.specs.Prelude.{All, Option, Some, None, flat_map}
use Rattle.std.proofs.lemmas.Bool.{or_left, or_right}
use Rattle.std.proofs.lemmas.List.Elements.{All-nil, All-cons, All-head, All-tail, All-append, All-map, All-weaker}
use Rattle.std.proofs.lemmas.List.Folds.{list_any-append, list_any_at}
use Rattle.std.proofs.lemmas.List.Sorted.{All-permutation}
use Rattle.hash_bits.specs.declared.hashing.Hashing.{Hashing}
use Rattle.step_counts.specs.declared.rows.SeatRows.{SeatRows}
use Rattle.step_counts.specs.declared.settings.Settings.{Settings}
use Rattle.step_counts.specs.StepCounts.{step_bound}
use Rattle.plain_map.specs.declared.calls.Call.{Call}
use Rattle.plain_map.specs.declared.keys.Key.{Key}
use Rattle.plain_map.specs.declared.keys.Pair.{Pair}
use Rattle.plain_map.specs.declared.leaves.Leaf.{Leaf}
use Rattle.plain_map.specs.declared.records.Record.{Record}
use Rattle.plain_map.specs.declared.rules.Rules.{Rules}
use Rattle.plain_map.specs.History.{Placed, answered, Legal, Whole, sessions_after}
use Rattle.bucket_states.specs.Items.{same_key}
use Rattle.bucket_states.specs.Parts.{HasDistinctKeys, keys_of}
use Rattle.bucket_states.proofs.KeyTests.{Decides-same_key}
use Rattle.table_model.specs.Closed.{Warranted, sessions_with}
use Rattle.table_model.specs.Needs.{IsAmongKeys, inserted_by}
use Rattle.table_model.specs.Setup.{HaveRoom}
use Rattle.trace_share.specs.declared.outcome.Outcome.{Outcome}
use Rattle.trace_share.specs.declared.outcome.Outcome.TheVariants.{Answered, Refused}
use Rattle.trace_share.specs.Outcomes.{asked_in, records_in}
use Rattle.batch_rows.specs.BatchRows.{inserted_in_calls, rules_in}
use Rattle.batch_rows.specs.Depths.{InsertsAmong, IsTableFor, depth_for, keys_in_batch, lesser_rules}
use Rattle.batch_deals.specs.declared.service.Service.{Service}
use Rattle.batch_deals.specs.Dealt.{shares_of}
use Rattle.batch_rows.proofs.Lesser.{bound_falls, depth_is_within, room_above, room_below, same_after, same_legal, same_warrant}
use Rattle.batch_runner.proofs.Counted.{unmap_all}
use Rattle.batch_deals.proofs.Deals.{dealt_hold}

-- ---- the keys of a batch

-- each key of a list is among them
all_among : (keys : List Key) → All (IsAmongKeys keys) keys
all_among keys i d less =
    let key : Key = get_or keys i d in
    list_any_at (same_key key) keys i d less ((Decides-same_key key key).1 refl)

-- and among more
among_front : (keys more : List Key) (key : Key) → IsAmongKeys keys key → IsAmongKeys (keys ++ more) key
among_front keys more key is =
    list_any-append (same_key key) keys more ∙ or_left _ _ is

among_back : (more keys : List Key) (key : Key) → IsAmongKeys keys key → IsAmongKeys (more ++ keys) key
among_back more keys key is =
    list_any-append (same_key key) more keys ∙ or_right _ _ is

-- what a call inserts is among these keys
abbrev pub Fits : List Key → Call → Type 0
Fits keys call = All (IsAmongKeys keys) (inserted_by call)

-- so it is, for each of some calls, among the keys that they insert
calls_fit : (calls : List (ℕ × Call)) → All (λ (call : ℕ × Call). Fits (inserted_in_calls calls) call.1) calls
calls_fit [] = All-nil (λ (call : ℕ × Call). Fits [] call.1)
calls_fit (call ∷ calls) =
    let here : List Key = inserted_by call.1 in
    let rest : List Key = inserted_in_calls calls in
    All-cons (λ (c : ℕ × Call). Fits (here ++ rest) c.1) call calls
    (All-weaker (IsAmongKeys here) (IsAmongKeys (here ++ rest)) (among_front here rest) here (all_among here))
    (All-weaker (λ (c : ℕ × Call). Fits rest c.1) (λ (c : ℕ × Call). Fits (here ++ rest) c.1)
    (λ c fits. All-weaker (IsAmongKeys rest) (IsAmongKeys (here ++ rest)) (among_back here rest) (inserted_by c.1) fits)
    calls (calls_fit calls))

-- the keys that a table begins with are among those of the batch, and so are those that its calls insert
first_among : (first : List Pair) (calls : List (ℕ × Call)) →
    All (IsAmongKeys (keys_in_batch first calls)) (keys_of first)
first_among first calls =
    All-weaker (IsAmongKeys (keys_of first)) (IsAmongKeys (keys_in_batch first calls))
    (among_front (keys_of first) (inserted_in_calls calls)) (keys_of first) (all_among (keys_of first))

batch_fits : (first : List Pair) (calls : List (ℕ × Call)) →
    All (λ (call : ℕ × Call). Fits (keys_in_batch first calls) call.1) calls
batch_fits first calls =
    let rest : List Key = inserted_in_calls calls in
    All-weaker (λ (c : ℕ × Call). Fits rest c.1) (λ (c : ℕ × Call). Fits (keys_in_batch first calls) c.1)
    (λ c fits. All-weaker (IsAmongKeys rest) (IsAmongKeys (keys_in_batch first calls)) (among_back (keys_of first) rest)
    (inserted_by c.1) fits) calls (calls_fit calls)

-- ---- the order of a batch

-- what holds of the calls of a log holds of those that were answered
log_fits : (P : Call → Type 0) (log : List Outcome) → All (λ o. P (asked_in o).1) log →
    All (λ (r : Record). P r.call) (records_in log)
log_fits P [] all = All-nil (λ (r : Record). P r.call)
log_fits P (Answered made ∷ log) all =
    All-cons (λ (r : Record). P r.call) made (records_in log)
    (All-head (λ o. P (asked_in o).1) (Answered made) log all)
    (log_fits P log (All-tail (λ o. P (asked_in o).1) (Answered made) log all))
log_fits P (Refused packet call full ∷ log) all =
    log_fits P log (All-tail (λ o. P (asked_in o).1) (Refused packet call full) log all)

-- and so for all logs
logs_fit : (P : Call → Type 0) (logs : List (List Outcome)) → All (λ log. All (λ o. P (asked_in o).1) log) logs →
    All (λ (r : Record). P r.call) (flat_map (λ (log : List Record). log) (map records_in logs))
logs_fit P [] all = All-nil (λ (r : Record). P r.call)
logs_fit P (log ∷ logs) all =
    let L : List Outcome → Type 0 = λ (l : List Outcome). All (λ o. P (asked_in o).1) l in
    All-append (λ (r : Record). P r.call) (records_in log) (flat_map (λ (l : List Record). l) (map records_in logs))
    (log_fits P log (All-head L log logs all)) (logs_fit P logs (All-tail L log logs all))

-- the inserts of a whole order of the answered calls are of the keys of the batch
pub order_among : (service : Service) (first : List Pair) (calls : List (ℕ × Call)) (logs : List (List Outcome))
    (order : List Placed) → map (λ (log : List Outcome). map asked_in log) logs ≡ shares_of service calls →
    Whole (flat_map (λ (log : List Record). log) (map records_in logs)) [] order →
    All (InsertsAmong (keys_in_batch first calls)) order
order_among service first calls logs order asked whole =
    let keys : List Key = keys_in_batch first calls in
    let P : ℕ × Call → Type 0 = λ (call : ℕ × Call). Fits keys call.1 in
    let S : List (ℕ × Call) → Type 0 = λ (share : List (ℕ × Call)). All P share in
    let f : List Outcome → List (ℕ × Call) = λ (log : List Outcome). map asked_in log in
    let records : List Record = flat_map (λ (log : List Record). log) (map records_in logs) in
    let shares : All S (shares_of service calls) =
    dealt_hold P service.share service.settings.seats calls (batch_fits first calls) in
    let logs_asked : All (λ (log : List Outcome). All (λ o. P (asked_in o)) log) logs =
    All-weaker (λ (log : List Outcome). S (f log)) (λ (log : List Outcome). All (λ o. P (asked_in o)) log)
    (λ log all. unmap_all P asked_in log all) logs (unmap_all S f logs (subst (All S) (sym asked) shares)) in
    All-permutation (InsertsAmong keys) (map answered records ++ []) order whole
    (All-append (InsertsAmong keys) (map answered records) []
    (All-map (InsertsAmong keys) answered records (logs_fit (Fits keys) logs logs_asked))
    (All-nil (InsertsAmong keys)))

-- ---- the table of a batch

-- a table with these settings answers such a batch as one with the service's would
pub record IsAlike (s : Settings) (hashing : Hashing) (first : List Pair) (calls : List (ℕ × Call)) (table : Settings) :
    Type 0 where
  pub seats_are : table.seats ≡ s.seats
  pub bound : step_bound table ≤ step_bound s
  pub below : HasDistinctKeys first → HaveRoom (rules_in s hashing) first → HaveRoom (rules_in table hashing) first
  pub above : (pairs : List Pair) → HaveRoom (rules_in table hashing) pairs → HaveRoom (rules_in s hashing) pairs
  pub after : (order : List Placed) → All (InsertsAmong (keys_in_batch first calls)) order →
      sessions_after (rules_in table hashing) (sessions_with (rules_in table hashing) first) order
      ≡ sessions_after (rules_in s hashing) (sessions_with (rules_in s hashing) first) order
  pub legal : (order : List Placed) → All (InsertsAmong (keys_in_batch first calls)) order →
      Legal (rules_in table hashing) (sessions_with (rules_in table hashing) first) order →
      Legal (rules_in s hashing) (sessions_with (rules_in s hashing) first) order
  pub warranted : (order : List Placed) (leaves : List Leaf) →
      All (InsertsAmong (keys_in_batch first calls)) order →
      Warranted (rules_in table hashing) table.start first order leaves →
      Warranted (rules_in s hashing) s.start first order leaves

-- the service's own is such a table
own_alike : (s : Settings) (hashing : Hashing) (first : List Pair) (calls : List (ℕ × Call)) →
    IsAlike s hashing first calls s
own_alike s hashing first calls = record {
  seats_are = refl;
  bound = omega arith;
  below = λ distinct room. room;
  above = λ pairs room. room;
  after = λ order among. refl;
  legal = λ order among legal. legal;
  warranted = λ order leaves among warranted. warranted;
}

-- so is one of the lesser depth
module _ (s : Settings) (hashing : Hashing) (first : List Pair) (calls : List (ℕ × Call)) (table : Settings)
    (made : IsTableFor s hashing None first calls table) where
  abbrev rules : Rules
  rules = rules_in s hashing

  abbrev keys : List Key
  keys = keys_in_batch first calls

  within : s.start ≤ s.depth
  within = s.start_in_range.1

  among_first : All (IsAmongKeys keys) (keys_of first)
  among_first = first_among first calls

  -- its rules are the lesser ones
  rules_are : lesser_rules rules s.start keys ≡ rules_in table hashing
  rules_are =
      let of : (items depth : ℕ) → Rules = λ items depth. record { items = items; depth = depth; hashing = hashing } in
      λ i. of (sym made.items_are i) (sym made.depth_is i)

  lesser_alike : IsAlike s hashing first calls table
  lesser_alike = record {
    seats_are = made.seats_are;
    bound = bound_falls s table (depth_for rules s.start keys) made (depth_is_within rules s.start keys within).1;
    below = λ distinct room. subst (λ (r : Rules). HaveRoom r first) rules_are
        (room_below rules s.start keys first within among_first distinct room);
    above = λ pairs room. room_above rules s.start keys pairs within
        (subst (λ (r : Rules). HaveRoom r pairs) (sym rules_are) room);
    after = λ order among. subst
        (λ (r : Rules). sessions_after r (sessions_with r first) order
        ≡ sessions_after rules (sessions_with rules first) order)
        rules_are (same_after rules s.start keys first order within among_first among);
    legal = λ order among legal. same_legal rules s.start keys first order within among_first among
        (subst (λ (r : Rules). Legal r (sessions_with r first) order) (sym rules_are) legal);
    warranted = λ order leaves among warranted.
        same_warrant rules s.start keys first order leaves within among_first among
        (subst (λ (r : Rules). Warranted r s.start first order leaves) (sym rules_are)
        (subst (λ start. Warranted (rules_in table hashing) start first order leaves) made.start_is warranted));
  }

-- and so the table of each batch
pub alike : (s : Settings) (hashing : Hashing) (given : Option SeatRows) (first : List Pair) (calls : List (ℕ × Call))
    (table : Settings) → IsTableFor s hashing given first calls table → IsAlike s hashing first calls table
alike s hashing (Some rows) first calls table is =
    subst (IsAlike s hashing first calls) (sym is) (own_alike s hashing first calls)
alike s hashing None first calls table is = lesser_alike s hashing first calls table is
