-- The counts of a trial add up.
use Rattle.std.proofs.Common.{◌≡◌, ◌≤◌, ℕ, zero, suc, ◌+◌, ◌-◌, List, [], ◌∷◌, ◌++◌, Bool, true, false, cond, map, length, Option, Some, None, is_some, refl, sym, ap, ◌∙◌, subst, arith, length-append}
use Rattle.std.specs.Prelude.{count_by, flat_map, All}
use Rattle.std.specs.FinMap.{empty, entries, get, get-empty, insert, len, len-empty, len-entries, len-insert, len-remove, empty_of_len, remove}
use Rattle.std.specs.Option.{option_map_or}
use Rattle.std.proofs.lemmas.List.{length-map}
use Rattle.std.proofs.lemmas.List.Elements.{All-append, All-head, All-map, All-nil, All-tail}
use Rattle.std.proofs.lemmas.List.Sorted.{All-permutation, sum_by-IsPermutation}
use Rattle.std.proofs.lemmas.List.Sums.{sum_by-append, sum_by-cons}
use Rattle.plain_map.specs.declared.calls.Call.{Call}
use Rattle.plain_map.specs.declared.calls.Call.TheVariants.{Insert, Remove, Lookup, Tally, Count, Put}
use Rattle.plain_map.specs.declared.calls.Reply.{Reply}
use Rattle.plain_map.specs.declared.calls.Reply.TheVariants.{New, Old, NoRoom, Gone, Found, Absent, Sum}
use Rattle.plain_map.specs.declared.keys.Key.{Key}
use Rattle.plain_map.specs.declared.keys.Pair.{Pair}
use Rattle.plain_map.specs.declared.records.Record.{Record}
use Rattle.plain_map.specs.declared.rules.Rules.{Rules}
use Rattle.plain_map.specs.Keys.{Session, key_cmp, pair_of}
use Rattle.plain_map.specs.PlainObject.{Sessions, count_reply, counted_session, found_in, gone_from, grown, has_room, insert_reply, inserted, map_after, new_session, pairs_of, reply_of, revalued, revised, sum_of, tallied}
use Rattle.plain_map.specs.History.{Legal, Placed, answered, pending, sessions_after}
use Rattle.plain_map.proofs.KeyLemmas.{keys_total}
use Rattle.trace_share.specs.declared.outcome.Outcome.{Outcome}
use Rattle.trace_share.specs.declared.outcome.Outcome.TheVariants.{Answered, Refused}
use Rattle.trace_share.specs.Outcomes.{asked_in, full_in, record_in}
use Rattle.list_laws.proofs.Lists.{flat_map_append}
use Rattle.bound_laws.specs.Moments.{asked_of}
use Rattle.report_text.specs.Report.{Batch as Lines}
use Rattle.batch_history.specs.Batches.{all_calls, answered_then, gone_on, no_counts}
use Rattle.batch_answers.specs.Answers.{all_answers, calls_in, printed_in}
use Rattle.batch_deals.specs.declared.service.Service.{Service}
use Rattle.batch_runner.specs.Served.{AreServed, Served, history_in, pairs_left}
use Rattle.batch_deals.specs.Opens.{rules_of}
use Rattle.batch_runner.specs.Printed.{all_lines, answers_in, outcome_on, outcomes_in, refused_in}
use Rattle.batch_runner.specs.Totals.{is_absent, is_found, is_gone, is_new, is_noroom, is_old, replies_in}
use Rattle.command_line.specs.declared.plan.Plan.{Plan}
use Rattle.serve_modes.specs.Batches.{AreOfBatches}
use Rattle.serve_modes.specs.Served.{IsPromised}
use Rattle.serve_modes.specs.Headline.{AddsUp, tried_of}

-- ---- the replies

-- a tally or a count, and the reply that only these have
abbrev pub is_tally : Call → Bool
is_tally (Tally key amount) = true
is_tally (Count key value amount) = true
is_tally _ = false

abbrev is_sum : Reply → Bool
is_sum (Sum total) = true
is_sum _ = false

-- each reply is one of seven
one_of_seven : (reply : Reply) →
    cond {A = ℕ} (is_new reply) 1 0 + cond (is_old reply) 1 0 + cond (is_noroom reply) 1 0
    + cond (is_gone reply) 1 0 + cond (is_found reply) 1 0 + cond (is_absent reply) 1 0 + cond (is_sum reply) 1 0 ≡ 1
one_of_seven New = refl
one_of_seven (Old value) = refl
one_of_seven NoRoom = refl
one_of_seven (Gone value) = refl
one_of_seven (Found value) = refl
one_of_seven Absent = refl
one_of_seven (Sum total) = refl

-- a test of a call and its reply: of the reply alone, or of the call alone
abbrev by_reply : (Reply → Bool) → Call → Reply → Bool
by_reply test call reply = test reply

abbrev by_call : (Call → Bool) → Call → Reply → Bool
by_call test call reply = test call

-- how many of these pass a test
abbrev count : (Call → Reply → Bool) → List Record → ℕ
count test records = count_by (λ r. test r.call r.reply) records

count-cons : (test : Call → Reply → Bool) (r : Record) (records : List Record) →
    count test (r ∷ records) ≡ cond (test r.call r.reply) 1 0 + count test records
count-cons test r records = sum_by-cons (λ (s : Record). cond (test s.call s.reply) 1 0) r records

-- the answered calls, by their replies
by_replies : (records : List Record) →
    length records
    ≡ count (by_reply is_new) records + count (by_reply is_old) records + count (by_reply is_noroom) records
    + count (by_reply is_gone) records + count (by_reply is_found) records + count (by_reply is_absent) records
    + count (by_reply is_sum) records
by_replies [] = refl
by_replies (r ∷ records) = omega (
  arith,
  by_replies records,
  one_of_seven r.reply,
  count-cons (by_reply is_new) r records,
  count-cons (by_reply is_old) r records,
  count-cons (by_reply is_noroom) r records,
  count-cons (by_reply is_gone) r records,
  count-cons (by_reply is_found) r records,
  count-cons (by_reply is_absent) r records,
  count-cons (by_reply is_sum) r records,
)

-- each call was answered or refused
answered_or_refused : (outcomes : List Outcome) →
    length (answers_in outcomes) + refused_in outcomes ≡ length outcomes
answered_or_refused [] = refl
answered_or_refused (Answered r ∷ outcomes) = omega (
  arith,
  answered_or_refused outcomes,
  sum_by-cons (λ (o : Outcome). cond (is_some (full_in o)) 1 0) (Answered r) outcomes,
)
answered_or_refused (Refused packet call full ∷ outcomes) = omega (
  arith,
  answered_or_refused outcomes,
  sum_by-cons (λ (o : Outcome). cond (is_some (full_in o)) 1 0) (Refused packet call full) outcomes,
)

-- ---- no call was refused

-- there is an outcome for each call
one_each : (service : Service) (first : List Pair) (batches : List Served) → AreServed service first batches →
    length (outcomes_in batches) ≡ length (calls_in batches)
one_each service first [] are = refl
one_each service first (batch ∷ batches) are =
    let plain : List Outcome = map (λ (o : ℕ × Outcome). o.1) batch.outcomes in
    omega (
      arith,
      length-append plain (outcomes_in batches),
      length-append batch.calls (calls_in batches),
      length-map batch.outcomes (λ (o : ℕ × Outcome). o.1),
      length-map batch.outcomes (λ (o : ℕ × Outcome). asked_in o.1),
      ap length are.1.outcomes.asked,
      one_each service batch.pairs batches are.2,
    )

-- ---- the sessions

-- a call of an order was answered
abbrev IsAnswered : Placed → Type 0
IsAnswered (answered r) = Unit {0}
IsAnswered (pending u) = ⊥

-- and passes a test
abbrev replied : (Call → Reply → Bool) → Placed → Bool
replied test (answered r) = test r.call r.reply
replied test (pending u) = false

-- where something is held at a key, there is a session
some_held : (m : Sessions) (key : Key) (value : Session) → get m key ≡ Some value → 1 ≤ len m
some_held m key value held = go (len m) refl
  where
    go : (n : ℕ) → len m ≡ n → 1 ≤ n
    go zero none =
        let no : None ≡ Some value = sym (get-empty key_cmp key)
        ∙ ap (λ (x : Sessions). get x key) (sym (empty_of_len m none)) ∙ held in
        absurd (cc)
    go (suc n) some = omega arith

-- a call that begins a session adds one, and one that ends a session takes one away
abbrev Changes : Sessions → Sessions → Reply → Type 0
Changes m after reply = len after + cond {A = ℕ} (is_gone reply) 1 0 ≡ len m + cond (is_new reply) 1 0

insert_changes : (m : Sessions) (key : Key) (new : Session) (held : Option Session) (room : Bool) → get m key ≡ held →
    Changes m (inserted m key new held room) (insert_reply held room)
insert_changes m key new (Some old) room is = refl
insert_changes m key new None true is =
    let more : len (insert m key new) ≡ len m + 1 = len-insert keys_total m key new
    ∙ ap (λ (o : Option Session). cond (is_some o) (len m) (len m + 1)) is in
    omega (arith, more)
insert_changes m key new None false is = refl

remove_changes : (m : Sessions) (key : Key) (held : Option Session) → get m key ≡ held →
    Changes m (remove m key) (option_map_or gone_from held Absent)
remove_changes m key (Some value) is =
    let less : len (remove m key) ≡ len m - 1 = len-remove keys_total m key
    ∙ ap (λ (o : Option Session). cond (is_some o) (len m - 1) (len m)) is in
    omega (arith, less, some_held m key value is)
remove_changes m key None is =
    let same : len (remove m key) ≡ len m = len-remove keys_total m key
    ∙ ap (λ (o : Option Session). cond (is_some o) (len m - 1) (len m)) is in
    omega (arith, same)

lookup_changes : (m : Sessions) (held : Option Session) → Changes m m (option_map_or found_in held Absent)
lookup_changes m (Some value) = refl
lookup_changes m None = refl

tally_changes : (m : Sessions) (key : Key) (amount : ℕ) (held : Option Session) → get m key ≡ held →
    Changes m (tallied m key amount held) (option_map_or (sum_of amount) held Absent)
tally_changes m key amount (Some value) is =
    let same : len (insert m key (grown value amount)) ≡ len m = len-insert keys_total m key (grown value amount)
    ∙ ap (λ (o : Option Session). cond (is_some o) (len m) (len m + 1)) is in
    omega (arith, same)
tally_changes m key amount None is = refl

-- a session more that is there changes how many there are by none
same_many : (m : Sessions) (key : Key) (held new : Session) → get m key ≡ Some held → len (insert m key new) ≡ len m
same_many m key held new is =
    len-insert keys_total m key new ∙ ap (λ (o : Option Session). cond (is_some o) (len m) (len m + 1)) is

one_more : (m : Sessions) (key : Key) (new : Session) → get m key ≡ None → len (insert m key new) ≡ len m + 1
one_more m key new is =
    len-insert keys_total m key new ∙ ap (λ (o : Option Session). cond (is_some o) (len m) (len m + 1)) is

count_changes : (m : Sessions) (key : Key) (new : Session) (change : Session → Session) (amount : ℕ)
    (held : Option Session) (room : Bool) → get m key ≡ held →
    Changes m (revised m key new change held room) (count_reply amount held room)
count_changes m key new change amount (Some old) room is = omega (arith, same_many m key old (change old) is)
count_changes m key new change amount None true is = omega (arith, one_more m key new is)
count_changes m key new change amount None false is = refl

put_changes : (m : Sessions) (key : Key) (new : Session) (change : Session → Session) (held : Option Session)
    (room : Bool) → get m key ≡ held → Changes m (revised m key new change held room) (insert_reply held room)
put_changes m key new change (Some old) room is = omega (arith, same_many m key old (change old) is)
put_changes m key new change None true is = omega (arith, one_more m key new is)
put_changes m key new change None false is = refl

call_changes : (rules : Rules) (m : Sessions) (call : Call) →
    Changes m (map_after rules m call) (reply_of rules m call)
unfolding map_after reply_of
call_changes rules m (Insert key value) =
    insert_changes m key (new_session value) (get m key) (has_room rules m key) refl
call_changes rules m (Remove key) = remove_changes m key (get m key) refl
call_changes rules m (Lookup key) = lookup_changes m (get m key)
call_changes rules m (Tally key amount) = tally_changes m key amount (get m key) refl
call_changes rules m (Count key value amount) =
    count_changes m key (counted_session value amount) (λ held. grown held amount) amount (get m key)
    (has_room rules m key) refl
call_changes rules m (Put key value) =
    put_changes m key (new_session value) (λ held. revalued held value) (get m key) (has_room rules m key) refl

-- a call that is no tally and no count has no sum as its reply
no_sum : (rules : Rules) (m : Sessions) (call : Call) → is_tally call ≡ false → is_sum (reply_of rules m call) ≡ false
unfolding reply_of
no_sum rules m (Insert key value) other = inserted_no (get m key) (has_room rules m key)
  where
    inserted_no : (held : Option Session) (room : Bool) → is_sum (insert_reply held room) ≡ false
    inserted_no (Some old) room = refl
    inserted_no None true = refl
    inserted_no None false = refl
no_sum rules m (Remove key) other = removed_no (get m key)
  where
    removed_no : (held : Option Session) → is_sum (option_map_or gone_from held Absent) ≡ false
    removed_no (Some old) = refl
    removed_no None = refl
no_sum rules m (Lookup key) other = found_no (get m key)
  where
    found_no : (held : Option Session) → is_sum (option_map_or found_in held Absent) ≡ false
    found_no (Some old) = refl
    found_no None = refl
no_sum rules m (Tally key amount) other = absurd (cc)
no_sum rules m (Count key value amount) other = absurd (cc)
no_sum rules m (Put key value) other = put_no (get m key) (has_room rules m key)
  where
    put_no : (held : Option Session) (room : Bool) → is_sum (insert_reply held room) ≡ false
    put_no (Some old) room = refl
    put_no None true = refl
    put_no None false = refl

-- so a legal order of answered calls leaves as many as it began, without those that it ended
order_changes : (rules : Rules) (m : Sessions) (order : List Placed) → All IsAnswered order → Legal rules m order →
    len (sessions_after rules m order) + count_by (replied (by_reply is_gone)) order
    ≡ len m + count_by (replied (by_reply is_new)) order
order_changes rules m [] all legal = refl
order_changes rules m (answered r ∷ order) all legal =
    let next : Sessions = map_after rules m r.call in
    let here : Changes m next r.reply = subst (Changes m next) (sym legal.0) (call_changes rules m r.call) in
    omega (
      arith,
      here,
      order_changes rules next order (All-tail IsAnswered (answered r) order all) legal.1,
      sum_by-cons (λ (placed : Placed). cond (replied (by_reply is_gone) placed) 1 0) (answered r) order,
      sum_by-cons (λ (placed : Placed). cond (replied (by_reply is_new) placed) 1 0) (answered r) order,
    )
order_changes rules m (pending u ∷ order) all legal = elim (All-head IsAnswered (pending u) order all) [ ]

-- a test that is counted as 0 fails
fails : (test : Bool) → cond {A = ℕ} test 1 0 ≡ 0 → test ≡ false
fails true none = absurd (omega (arith, none))
fails false none = refl

-- so where no call of a legal order is a tally, none of its replies is a sum
order_no_sum : (rules : Rules) (m : Sessions) (order : List Placed) → All IsAnswered order → Legal rules m order →
    count_by (replied (by_call is_tally)) order ≡ 0 → count_by (replied (by_reply is_sum)) order ≡ 0
order_no_sum rules m [] all legal none = refl
order_no_sum rules m (answered r ∷ order) all legal none =
    let both = sum_by-cons (λ (placed : Placed). cond (replied (by_call is_tally) placed) 1 0) (answered r) order in
    let other : is_tally r.call ≡ false = fails (is_tally r.call) (omega (arith, both, none)) in
    let here : is_sum r.reply ≡ false = subst (λ (reply : Reply). is_sum reply ≡ false) (sym legal.0)
    (no_sum rules m r.call other) in
    let counted : cond {A = ℕ} (is_sum r.reply) 1 0 ≡ 0 = ap (λ (b : Bool). cond {A = ℕ} b 1 0) here in
    omega (
      arith,
      counted,
      order_no_sum rules (map_after rules m r.call) order (All-tail IsAnswered (answered r) order all) legal.1
          (omega (arith, both, none)),
      sum_by-cons (λ (placed : Placed). cond (replied (by_reply is_sum) placed) 1 0) (answered r) order,
    )
order_no_sum rules m (pending u ∷ order) all legal none = elim (All-head IsAnswered (pending u) order all) [ ]

-- calls of an order that were answered
replied_are : (test : Call → Reply → Bool) (records : List Record) →
    count_by (replied test) (map answered records ++ []) ≡ count test records
replied_are test [] = refl
replied_are test (r ∷ records) = omega (
  arith,
  replied_are test records,
  sum_by-cons (λ (placed : Placed). cond (replied test placed) 1 0) (answered r) (map answered records ++ []),
  count-cons test r records,
)

-- they have the replies that are printed
printed_on : (test : Call → Reply → Bool) (before : List ℕ) (outcomes : List (ℕ × Outcome)) →
    count test (answers_in (map (λ (o : ℕ × Outcome). o.1)
    (map (λ (o : ℕ × Outcome). (o.0, outcome_on before o.1)) outcomes)))
    ≡ count test (answers_in (map (λ (o : ℕ × Outcome). o.1) outcomes))
printed_on test before [] = refl
printed_on test before ((at, Answered r) ∷ outcomes) = omega (
  arith,
  printed_on test before outcomes,
  count-cons test (gone_on before r) (answers_in (map (λ (o : ℕ × Outcome). o.1)
      (map (λ (o : ℕ × Outcome). (o.0, outcome_on before o.1)) outcomes))),
  count-cons test r (answers_in (map (λ (o : ℕ × Outcome). o.1) outcomes)),
)
printed_on test before ((at, Refused packet call full) ∷ outcomes) = printed_on test before outcomes

printed_replies : (test : Call → Reply → Bool) (service : Service) (before : List ℕ) (batches : List Served) →
    count test (printed_in service before batches) ≡ count test (all_answers batches)
printed_replies test service before [] = refl
printed_replies test service before (batch ∷ batches) =
    let then : List ℕ = answered_then before (history_in service batch) in
    let own : List Outcome = map (λ (o : ℕ × Outcome). o.1) batch.outcomes in
    let here : List Outcome = map (λ (o : ℕ × Outcome). o.1)
    (map (λ (o : ℕ × Outcome). (o.0, outcome_on before o.1)) batch.outcomes) in
    let later : List Outcome = flat_map (λ (lines : Lines). map (λ (o : ℕ × Outcome). o.1) lines.outcomes)
    (all_lines service then batches) in
    omega (
      arith,
      ap (count test) (flat_map_append record_in here later),
      sum_by-append (λ (r : Record). cond (test r.call r.reply) 1 0) (answers_in here) (answers_in later),
      printed_on test before batch.outcomes,
      printed_replies test service then batches,
      ap (count test) (flat_map_append record_in own (outcomes_in batches)),
      sum_by-append (λ (r : Record). cond (test r.call r.reply) 1 0) (answers_in own)
          (answers_in (outcomes_in batches)),
    )

-- a list of pairs is as long as the sessions are many
pairs_many : (m : Sessions) → length (pairs_of m) ≡ len m
unfolding pairs_of
pairs_many m = length-map (entries m) pair_of ∙ sym (len-entries m)

-- the calls of the batches are all calls
calls_are : (batches : List Served) →
    flat_map (λ (batch : List (ℕ × Call)). batch) (map (λ (batch : Served). batch.calls) batches) ≡ calls_in batches
calls_are [] = refl
calls_are (batch ∷ batches) = ap (λ (calls : List (ℕ × Call)). batch.calls ++ calls) (calls_are batches)

-- calls of which none is a tally
abbrev pub HasNoTally : List (ℕ × Call) → Type 0
HasNoTally calls = All (λ (call : ℕ × Call). is_tally call.1 ≡ false) calls

-- the records of such calls count none
none_tallied : (records : List Record) → HasNoTally (map asked_of records) → count (by_call is_tally) records ≡ 0
none_tallied [] none = refl
none_tallied (r ∷ records) none =
    let P : (ℕ × Call → Type 0) = λ (call : ℕ × Call). is_tally call.1 ≡ false in
    let here : is_tally r.call ≡ false = All-head P (asked_of r) (map asked_of records) none in
    let counted : cond {A = ℕ} (is_tally r.call) 1 0 ≡ 0 = ap (λ (b : Bool). cond {A = ℕ} b 1 0) here in
    omega (
      arith,
      counted,
      none_tallied records (All-tail P (asked_of r) (map asked_of records) none),
      count-cons (by_call is_tally) r records,
    )

-- ---- all counts

module _ (service : Service) (batches : List Served) (are : AreServed service [] batches)
    (promised : IsPromised service batches) where
  abbrev order : List Placed
  order = all_calls [] (map (history_in service) batches)

  abbrev printed : List Record
  printed = printed_in service no_counts batches

  -- as many calls of the order pass a test as of the answers
  order_replies : (test : Call → Reply → Bool) → count_by (replied test) order ≡ count test (all_answers batches)
  order_replies test =
      sum_by-IsPermutation (λ (placed : Placed). cond (replied test placed) 1 0) (map answered printed ++ []) order
      promised.once
      ∙ replied_are test printed ∙ printed_replies test service no_counts batches

  -- all of them were answered
  all_answered : All IsAnswered order
  all_answered =
      All-permutation IsAnswered (map answered printed ++ []) order promised.once
      (All-append IsAnswered (map answered printed) [] (All-map IsAnswered answered printed (λ k d within. tt))
      (All-nil IsAnswered))

  -- the sessions that are left are those that were begun and not ended
  sessions_left : replies_in is_new (outcomes_in batches)
      ≡ replies_in is_gone (outcomes_in batches) + length (pairs_left [] batches)
  sessions_left =
      let one = promised.right.one_order in
      let changes = order_changes (rules_of service) empty order all_answered one.legal in
      omega (
        arith,
        changes,
        len-empty key_cmp Session,
        ap len one.leaves,
        pairs_many promised.right.sessions,
        ap length promised.right.left,
        order_replies (by_reply is_new),
        order_replies (by_reply is_gone),
      )

  -- no call was refused, where no rows are given
  none_refused : service.rows ≡ None → refused_in (outcomes_in batches) ≡ 0
  none_refused none = omega (
    arith,
    answered_or_refused (outcomes_in batches),
    one_each service [] batches are,
    ap length (promised.answered none),
    length-map (answers_in (outcomes_in batches)) asked_of,
  )

  -- where no call is a tally either, no reply is a sum
  none_summed : (size : ℕ) (calls : List (ℕ × Call)) → AreOfBatches size calls
      (map (λ (batch : Served). batch.calls) batches) →
      HasNoTally calls → service.rows ≡ None → count (by_reply is_sum) (all_answers batches) ≡ 0
  none_summed size calls cut no_tally none =
      let asked : calls ≡ map asked_of (all_answers batches) =
      sym cut.parts ∙ calls_are batches ∙ sym (promised.answered none) in
      let counted = none_tallied (all_answers batches) (subst HasNoTally asked no_tally) in
      sym (order_replies (by_reply is_sum))
      ∙ order_no_sum (rules_of service) empty order all_answered promised.right.one_order.legal
      (order_replies (by_call is_tally) ∙ counted)

  pub trial-adds_up : (plan : Plan) (calls : List (ℕ × Call)) →
      AreOfBatches plan.batch calls (map (λ (batch : Served). batch.calls) batches) → HasNoTally calls → service.rows ≡
      None →
      AddsUp (tried_of plan batches)
  trial-adds_up plan calls cut no_tally none = record {
    replies = omega (
      arith,
      by_replies (answers_in (outcomes_in batches)),
      answered_or_refused (outcomes_in batches),
      none_summed plan.batch calls cut no_tally none,
    );
    none_refused = none_refused none;
    sessions = sessions_left;
  }
