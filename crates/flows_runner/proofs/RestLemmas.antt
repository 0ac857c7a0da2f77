-- A table at rest: the pairs of its buckets are told in a block, and the same calls are answered behind it.
use Rattle.std.proofs.Common.{◌≡◌, ℕ, zero, suc, ◌+◌, ◌<◌, ◌≤◌, List, [], ◌∷◌, ◌++◌, length, map, Some, refl, sym, ap, ◌∙◌, subst, arith, length-append, append-nil}
use Rattle.std.specs.Prelude.{All, IsPermutation}
use Rattle.std.specs.List.{range_with_len}
use Rattle.std.specs.List.Sorted.{IsSortedByKey}
use Rattle.std.proofs.lemmas.List.{length-map}
use Rattle.std.proofs.lemmas.List.Elements.{All-head, All-tail}
use Rattle.list_laws.proofs.Options.{some_same}
use Rattle.plain_map.specs.declared.keys.Pair.{Pair}
use Rattle.plain_map.specs.Keys.{key_cmp}
use Rattle.map_laws.specs.ByKey.{Made}
use Rattle.lasting_model.specs.Plans.{Plan, buckets_of}
use Rattle.lasting_model.specs.Worlds.{Answer, BySeat, Event, world_after}
use Rattle.lasting_laws.specs.Orders as orders
use Rattle.lasting_laws.proofs.Events.{run_first}
use Rattle.lasting_table.specs.Parties.{PartyValue, answers_by}
use Rattle.lasting_table.specs.Joins.{ComesTo}
use Rattle.lasting_table.specs.Meetings.{informed}
use Rattle.lasting_table.specs.Rests.{AreCopies, BucketCopy, HaveRested, answers_of}
use Rattle.lasting_table.specs.Values.{TableValue}
use Rattle.flow_laws.specs.FlowOrders.{call_told, calls_by}
use Rattle.flow_workers.specs.Work.{told_in}
use Rattle.flow_workers.proofs.AnswerLists.{answers_by_seat, told-append}
use Rattle.flows_runner.specs.declared.asked.Asked.{Asked}
use Rattle.flows_runner.specs.declared.flowing.Flowing.{Flowing}
use Rattle.flows_runner.specs.Blocks.{block_counts}
use Rattle.flows_runner.specs.Going.{HasRested, IsFlowing, IsSameJob, MOST_BUCKETS, TellsServed, met_seat, met_seats}
use Rattle.flows_runner.specs.Served.{AreServed, Served}
use Rattle.flows_runner.proofs.AnswersServed.{own_still, served_on, served_still}
use Rattle.flows_runner.proofs.BlockLemmas.{block_of}

-- ---- copies are no calls

copies_told : (copies : List BucketCopy) (seat start bucket : ℕ) → AreCopies (BySeat seat) start bucket copies →
    told_in (answers_of copies) ≡ []
copies_told [] seat start bucket are = refl
copies_told (copy ∷ copies) seat start bucket are =
    (λ i. call_told (are.0.asks i) copy.answer.told ++ copies_told copies seat start (suc bucket) are.1 i)

-- the calls of a seat by either definition of its answers
calls_by_party : (seat : ℕ) (answers : List Answer) → calls_by seat answers ≡ told_in (answers_by (BySeat seat) answers)
calls_by_party seat answers = ap told_in (sym (answers_by_seat seat answers))

many_by_party : (seat : ℕ) (answers : List Answer) →
    length (orders.answers_by seat answers) ≡ length (answers_by (BySeat seat) answers)
many_by_party seat answers = ap length (sym (answers_by_seat seat answers))

-- ---- seats that meet

-- each of the seats has come to know these events
seat_comes : (t : TableValue) (events known : List Event) (start count i : ℕ) →
    All (λ (p : PartyValue). ComesTo known p.holding) (map (met_seat t events) (range_with_len start count)) →
    i < count → ComesTo known (met_seat t events (start + i)).holding
seat_comes t events known start zero i all less = absurd (omega (arith, less))
seat_comes t events known start (suc count) zero all less =
    subst (λ (k : ℕ). ComesTo known (met_seat t events k).holding) (let e : start ≡ start + 0 = omega arith in e)
    (All-head (λ (p : PartyValue). ComesTo known p.holding) (met_seat t events start)
    (map (met_seat t events) (range_with_len (start + 1) count)) all)
seat_comes t events known start (suc count) (suc i) all less =
    subst (λ (k : ℕ). ComesTo known (met_seat t events k).holding)
    (let e : start + 1 + i ≡ start + suc i = omega arith in e)
    (seat_comes t events known (start + 1) count i
    (All-tail (λ (p : PartyValue). ComesTo known p.holding) (met_seat t events start)
    (map (met_seat t events) (range_with_len (start + 1) count)) all) (omega (arith, less)))

-- and knows them then
informed_seats : (t : TableValue) (events known : List Event) (start count : ℕ) →
    map (informed known) (map (met_seat t events) (range_with_len start count))
    ≡ map (met_seat t known) (range_with_len start count)
informed_seats t events known start zero = refl
informed_seats t events known start (suc count) =
    ap (λ (l : List PartyValue). met_seat t known start ∷ l) (informed_seats t events known (start + 1) count)

-- ---- the rest

module _ (t : TableValue) (asked : Asked) (packets : List (List ℕ)) (served : Served) (plan : t.plan ≡ served.plan)
    (are : AreServed asked packets served) (mets : List PartyValue) (pairs : List Pair)
    (rested : HaveRested t (met_seats t served.events) mets pairs) where
  abbrev last : List Event
  last = rested.first ++ rested.later

  abbrev on_table : Served
  on_table = record { plan = t.plan; events = served.events; made = served.made }

  abbrev at_first : Served
  at_first = record { plan = t.plan; events = rested.first; made = served.made }

  abbrev at_last : Served
  at_last = record { plan = t.plan; events = last; made = served.made }

  -- as the seats met none has more answers
  still : (seat : ℕ) → seat < t.plan.settings.seats →
      answers_by (BySeat seat) (world_after t.plan rested.first).answers
      ≡ answers_by (BySeat seat) (world_after t.plan served.events).answers
  still seat less =
      let comes : ComesTo rested.first (met_seat t served.events seat).holding =
      subst (λ (k : ℕ). ComesTo rested.first (met_seat t served.events k).holding)
      (let e : 0 + seat ≡ seat = omega arith in e)
      (seat_comes t served.events rested.first 0 t.plan.settings.seats seat rested.each less) in
      own_still rested.first (met_seat t served.events seat).holding comes

  first_served : AreServed asked packets at_first
  first_served = served_still asked packets on_table (served_on t asked packets served plan are) rested.first
      (run_first t.plan rested.first rested.later rested.run) rested.idle_first
      (λ seat less. calls_by_party seat (world_after t.plan rested.first).answers
      ∙ ap told_in (still seat less)
      ∙ sym (calls_by_party seat (world_after t.plan served.events).answers))

  -- behind the copies the first seat has an answer more for each bucket, and the others have the same
  more_answers : (seat : ℕ) → seat < t.plan.settings.seats →
      (copies : List BucketCopy) × (start : ℕ) × AreCopies (BySeat seat) start 0 copies
      × (length copies ≤ buckets_of t.plan.settings)
      × (answers_by (BySeat seat) (world_after t.plan last).answers
      ≡ answers_by (BySeat seat) (world_after t.plan rested.first).answers ++ answers_of copies)
  more_answers zero less = (
    rested.copies,
    length rested.first,
    rested.copied,
    (let count = rested.count in omega (arith, count)),
    rested.own,
  )
  more_answers (suc seat) less = (
    [],
    0,
    tt,
    omega arith,
    rested.others (suc seat) (omega arith) less
        ∙ sym (append-nil (answers_by (BySeat (suc seat)) (world_after t.plan rested.first).answers)),
  )

  pub last_served : AreServed asked packets at_last
  last_served = served_still asked packets at_first first_served last rested.run rested.idle_last
      (λ seat less.
      let more = more_answers seat less in
      let had : List Answer = answers_by (BySeat seat) (world_after t.plan rested.first).answers in
      calls_by_party seat (world_after t.plan last).answers
      ∙ ap told_in more.4 ∙ told-append had (answers_of more.0)
      ∙ ap (λ (l : List Made). told_in had ++ l) (copies_told more.0 seat more.1 0 more.2)
      ∙ append-nil (told_in had)
      ∙ sym (calls_by_party seat (world_after t.plan rested.first).answers))

  -- a seat has at most one answer more for each bucket
  pub few_more : (seat : ℕ) → seat < t.plan.settings.seats →
      length (orders.answers_by seat (world_after t.plan last).answers)
      ≤ length (orders.answers_by seat (world_after t.plan served.events).answers) + buckets_of t.plan.settings
  few_more seat less =
      let more = more_answers seat less in
      let had : List Answer = answers_by (BySeat seat) (world_after t.plan rested.first).answers in
      let now = many_by_party seat (world_after t.plan last).answers ∙ ap length more.4
      ∙ length-append had (answers_of more.0) in
      let copies = length-map more.0 (λ (copy : BucketCopy). copy.answer) in
      let first = ap length (still seat less) in
      let was = many_by_party seat (world_after t.plan served.events).answers in
      omega (arith, now, copies, first, was, more.3)

  -- the seats know all that has happened
  pub seats_rested : mets ≡ met_seats t last
  seats_rested = rested.are ∙ informed_seats t served.events last 0 t.plan.settings.seats

  -- the block that tells the pairs, sorted by key
  pub rest_told : (sorted : List Pair) → IsPermutation pairs sorted →
      IsSortedByKey (λ (pair : Pair). pair.key) key_cmp sorted →
      TellsServed asked packets served (record {
        at = length packets;
        pairs = sorted;
        counts = block_counts (length packets) served.made;
      })
  rest_told sorted moved in_order =
      let told = block_of asked packets at_first first_served pairs sorted rested.all.are moved in_order in
      record { is = told.is; texts = told.texts }

-- ---- the job

-- after a block the job is where it was, and has made one block more
pub has_rested : (was now : Flowing) (t : TableValue) (seats mets : List PartyValue) (packets : List (List ℕ))
    (blocks : ℕ) (served : Served) (pairs : List Pair) → IsFlowing was (Some t) seats packets blocks served →
    HaveRested t seats mets pairs → IsSameJob was now → buckets_of t.plan.settings ≤ MOST_BUCKETS →
    HasRested now t mets packets blocks served
has_rested was now t seats mets packets blocks served pairs so rested same few = record {
  served = at_last t was.asked packets served plan so.served_so mets pairs met;
  made = refl;
  so = λ room. record {
    t = t;
    table_is = refl;
    plan = refl;
    served_so = subst
        (λ (asked : Asked). AreServed asked packets
        (at_last t was.asked packets served plan so.served_so mets pairs met)) (sym same.asked)
        (last_served t was.asked packets served plan so.served_so mets pairs met);
    seats_are = seats_rested t was.asked packets served plan so.served_so mets pairs met;
    few = so.few;
    few_blocks = room;
    replies = same.replies ∙ so.replies;
    packets_are = same.packets ∙ so.packets_are;
    calls_are = same.calls ∙ so.calls_are;
    askings = λ seat less.
        (let more = few_more t was.asked packets served plan so.served_so mets pairs met seat less in
        let were = so.askings seat (subst (λ (x : TableValue). seat < x.plan.settings.seats) same_table less) in
        let there = ap (λ (p : Plan). length (orders.answers_by seat (world_after p served.events).answers)) plan in
        omega (arith, more, were, there, few));
  };
}
  where
    same_table : t ≡ so.t
    same_table = some_same so.table_is

    plan : t.plan ≡ served.plan
    plan = ap (λ (x : TableValue). x.plan) same_table ∙ so.plan

    met : HaveRested t (met_seats t served.events) mets pairs
    met = subst (λ (l : List PartyValue). HaveRested t l mets pairs)
        (so.seats_are ∙ ap (λ (x : TableValue). met_seats x served.events) (sym same_table)) rested
