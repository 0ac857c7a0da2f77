-- A batch that is opened: each worker has its seat and its share, and may make its calls.
use Rattle.std.proofs.Common.{◌≡◌, ℕ, zero, suc, ◌<◌, ◌≤◌, ◌+◌, ◌^◌, List, [], ◌∷◌, length, map, Some, refl, sym, ap, ◌∙◌, subst, vec_len, Vec, Global, Option, arith}
use Rattle.std.specs.Prelude.{◌==◌, All}
use Rattle.std.specs.List.{range_with_len}
use Rattle.std.proofs.lemmas.List.{length-map}
use Rattle.std.proofs.lemmas.List.Elements.{All-cons, All-filter, All-head, All-map, All-nil, All-tail}
use Rattle.list_laws.proofs.Options.{some_same}
use Rattle.map_laws.proofs.ByKeyLists.{cons_same, nil_cons}
use Rattle.plain_map.specs.declared.calls.Call.{Call}
use Rattle.plain_map.specs.Calls.{key_in}
use Rattle.plain_map.specs.Serving.{IsAskable}
use Rattle.mode_parts.specs.declared.calling.Calling.{Calling}
use Rattle.mode_parts.specs.PacketCalls.{MakeCalls}
use Rattle.map_laws.specs.ByKey.{Made}
use Rattle.lasting_model.specs.Plans.{Plan}
use Rattle.lasting_model.specs.Steps.{Idle}
use Rattle.lasting_model.specs.Worlds.{Answer, BySeat, Event, IsRun, seat_in, world_after}
use Rattle.lasting_laws.specs.Orders as orders
use Rattle.lasting_table.specs.Parties.{PartyValue, answers_by}
use Rattle.lasting_table.specs.Values.{TableValue}
use Rattle.flow_laws.specs.FlowOrders.{dealt_to}
use Rattle.flow_workers.specs.Counts.{AreBelow, no_counts}
use Rattle.flow_workers.specs.declared.workers.FlowWorker.{FlowWorker}
use Rattle.flow_workers.specs.Work.{CanMake, MayWork, told_in}
use Rattle.flow_workers.proofs.AnswerLists.{answers_by_seat}
use Rattle.flows_runner.specs.Told.{packets_in}
use Rattle.flows_runner.specs.declared.asked.Asked.{Asked}
use Rattle.flows_runner.specs.declared.flowing.Flowing.{Flowing}
use Rattle.flows_runner.specs.declared.pile.FlowPile.{FlowPile}
use Rattle.plain_map.specs.declared.rules.Rules.{Rules}
use Rattle.flows_runner.specs.Asked.{flow_seat, rules_of}
use Rattle.flows_runner.specs.Going.{HaveSeats, IsDone, IsDoneWith, IsFlowing, IsGoing, IsOpened, job_way, met_seat, met_seats}
use Rattle.flows_runner.specs.Hands.{AreWorkersOf, IsAsFar}
use Rattle.flows_runner.specs.Piles.{HoldsShares, calls_for, flow_way, shares_of}
use Rattle.flows_runner.specs.Served.{AreServed, Served}
use Rattle.flows_runner.proofs.GoingLemmas.{make_few}
use Rattle.flows_runner.proofs.WayLemmas.{same_dealing}
use Rattle.flow_workers.proofs.AnswerLists.{few_pass}

-- ---- a job that has counted the same

-- it has served the same
pub flowing_moves : (was now : Flowing) (table : Option TableValue) (seats : List PartyValue)
    (packets : List (List ℕ)) (blocks : ℕ) (served : Served) → IsAsFar was now →
    IsFlowing was table seats packets blocks served → IsFlowing now table seats packets blocks served
flowing_moves was now table seats packets blocks served same so = record {
  t = so.t;
  table_is = so.table_is;
  plan = so.plan;
  served_so = subst (λ (asked : Asked). AreServed asked packets served) (sym same.asked) so.served_so;
  seats_are = so.seats_are;
  few = so.few;
  few_blocks = so.few_blocks;
  replies = same.replies ∙ so.replies;
  packets_are = same.packets ∙ so.packets_are;
  calls_are = same.calls ∙ so.calls_are;
  askings = so.askings;
}

-- ---- what a seat may ask

-- all calls were made by packets
pub made_few : (asked : Asked) (packets : List (List ℕ)) (served : Served) → AreServed asked packets served →
    length served.made ≤ length packets
made_few asked packets served are =
    let few = make_few asked.calling 1 packets are.calls are.make in
    let as_many = sym (length-map served.made (λ (one : Made). one.0)) ∙ ap length are.made_are
    ∙ length-map are.calls (λ (call : ℕ × Call). call.1) in
    omega (arith, few, as_many)

module _ (job : Flowing) (t : TableValue) (packets : List (List ℕ)) (blocks : ℕ) (served : Served)
    (so : IsFlowing job (Some t) (met_seats t served.events) packets blocks served) where
  same_table : so.t ≡ t
  same_table = some_same (sym so.table_is)

  plan : t.plan ≡ served.plan
  plan = ap (λ (x : TableValue). x.plan) (sym same_table) ∙ so.plan

  -- a seat with so few calls more may make them
  pub can_make : (seat many : ℕ) → seat < t.plan.settings.seats → many ≤ 65536 →
      CanMake t (met_seat t served.events seat) many
  can_make seat many inside few =
      let answers : List Answer = (world_after t.plan served.events).answers in
      let within : seat < served.plan.settings.seats =
      subst (λ (p : Plan). seat < p.settings.seats) plan inside in
      let mine : told_in (answers_by (BySeat seat) answers)
      ≡ dealt_to (flow_seat (rules_of job.asked) job.asked.seats) seat served.made =
      ap told_in (answers_by_seat seat answers)
      ∙ ap (λ (p : Plan). told_in (orders.answers_by seat (world_after p served.events).answers)) plan
      ∙ so.served_so.answered.answered seat within in
      let told = ap (λ (l : List Made). length l) mine in
      let dealt =
      few_pass (λ (made : Made). flow_seat (rules_of job.asked) job.asked.seats (key_in made.0) == seat) served.made in
      let asked = ap (λ (l : List Answer). length l) (answers_by_seat seat answers)
      ∙ ap (λ (p : Plan). length (orders.answers_by seat (world_after p served.events).answers)) plan in
      let askings =
      so.askings seat (subst (λ (x : TableValue). seat < x.plan.settings.seats) (sym same_table) inside) in
      let limited = so.few in
      let calls = made_few job.asked packets served so.served_so in
      let blocks_few = so.few_blocks in
      record {
        of = record { table = refl; plan = refl };
        number = seat;
        who = refl;
        inside = inside;
        run = subst (λ (p : Plan). IsRun p served.events) (sym plan) so.served_so.run;
        idle = subst (λ (p : Plan). (seat_in (world_after p served.events) seat).stand ≡ Idle) (sym plan)
            (so.served_so.rest seat within);
        updates = omega (arith, told, dealt, calls, limited, few);
        askings = omega (arith, asked, askings, blocks_few, limited, few);
      }

-- ---- workers

below_none : AreBelow (2 ^ 62) no_counts
below_none = record {
  new = omega arith;
  old = omega arith;
  noroom = omega arith;
  gone = omega arith;
  found = omega arith;
  absent = omega arith;
  sum = omega arith;
}

-- seats that may make so many calls, each with its share of these
module _ (t : TableValue) (events : List Event) (rules : Rules) (seats : ℕ) (calls : List Call)
    (can : (seat many : ℕ) → seat < t.plan.settings.seats → many ≤ 65536 → CanMake t (met_seat t events seat) many)
    (few : length calls ≤ 65536) (askable : All IsAskable calls) where
  may_work_one : (seat : ℕ) (w : FlowWorker) → seat < t.plan.settings.seats → w.seat ≡ Some (met_seat t events seat) →
      w.calls.items ≡ calls_for rules seats seat calls → w.replies ≡ no_counts → MayWork t w
  may_work_one seat w inside has share none =
      let those : length (calls_for rules seats seat calls) ≤ length calls =
      few_pass (λ (call : Call). flow_seat rules seats (key_in call) == seat) calls in
      let as_many = ap (λ (l : List Call). length l) share in
      record {
        seat = met_seat t events seat;
        has = has;
        can = can seat (length w.calls.items) inside (omega (arith, those, few, as_many));
        askable = subst (All IsAskable) (sym share)
            (All-filter (λ (call : Call). flow_seat rules seats (key_in call) == seat) IsAskable calls askable);
        few = omega (arith, those, few, as_many);
        counts = subst (AreBelow (2 ^ 62)) (sym none) below_none;
      }

  pub may_work : (seat many : ℕ) (workers : List FlowWorker) → seat + many ≤ t.plan.settings.seats →
      HaveSeats workers (map (met_seat t events) (range_with_len seat many)) →
      map (λ (w : FlowWorker). w.calls.items) workers
      ≡ map (λ (k : ℕ). calls_for rules seats k calls) (range_with_len seat many) →
      All (λ (w : FlowWorker). w.replies ≡ no_counts) workers → All (MayWork t) workers
  may_work seat many [] inside have given none = All-nil (MayWork t)
  may_work seat zero (w ∷ workers) inside have given none =
      absurd (nil_cons w.seat (map (λ (v : FlowWorker). v.seat) workers) (sym have))
  may_work seat (suc many) (w ∷ workers) inside have given none =
      let own = cons_same w.seat (Some (met_seat t events seat)) (map (λ (v : FlowWorker). v.seat) workers)
      (map (λ (p : PartyValue). Some p) (map (met_seat t events) (range_with_len (seat + 1) many))) have in
      let share = cons_same w.calls.items (calls_for rules seats seat calls)
      (map (λ (v : FlowWorker). v.calls.items) workers)
      (map (λ (k : ℕ). calls_for rules seats k calls) (range_with_len (seat + 1) many)) given in
      All-cons (MayWork t) w workers
      (may_work_one seat w (omega (arith, inside)) own.0 share.0
      (All-head (λ (v : FlowWorker). v.replies ≡ no_counts) w workers none))
      (may_work (seat + 1) many workers (omega (arith, inside)) own.1 share.1
      (All-tail (λ (v : FlowWorker). v.replies ≡ no_counts) w workers none))

-- ---- the batch

-- the calls of lists, list by list
calls_of_lists : (workers : List FlowWorker) (lists : List (Vec Call Global)) →
    map (λ (w : FlowWorker). w.calls) workers ≡ lists →
    map (λ (w : FlowWorker). w.calls.items) workers ≡ map (λ (share : Vec Call Global). share.items) lists
calls_of_lists [] lists same = ap (map (λ (share : Vec Call Global). share.items)) same
calls_of_lists (w ∷ workers) [] same =
    absurd (nil_cons w.calls (map (λ (v : FlowWorker). v.calls) workers) (sym same))
calls_of_lists (w ∷ workers) (list ∷ lists) same =
    let both = cons_same w.calls list (map (λ (v : FlowWorker). v.calls) workers) lists same in
    λ i. (both.0 i).items ∷ calls_of_lists workers lists both.1 i

-- the job has handed its seats and the lists of the pile to the workers
module _ (job new : Flowing) (pile : FlowPile) (t : TableValue) (workers : List FlowWorker)
    (has : job.table ≡ Some t) (way : flow_way pile ≡ job_way job)
    (handed : AreWorkersOf job.seats.items pile.shares.items workers) where
  abbrev same_ways : (vec_len pile.shares ≡ job.asked.seats) × (pile.classes.rules ≡ rules_of job.asked)
      × (pile.calling ≡ job.asked.calling)
  same_ways = same_dealing (vec_len pile.shares) job.asked.seats pile.classes.rules (rules_of job.asked) pile.calling
      job.asked.calling way

  module _ (before : ℕ) (packets : List (List ℕ)) (holds : HoldsShares pile before packets) where
    abbrev calls : List Call
    calls = map (λ (call : ℕ × Call). call.1) holds.calls

    given : map (λ (w : FlowWorker). w.calls.items) workers ≡ shares_of (rules_of job.asked) job.asked.seats calls
    given = calls_of_lists workers pile.shares.items handed.calls ∙ holds.shares_are
        ∙ (λ i. shares_of (same_ways.1 i) (same_ways.0 i) calls)

    module _ (going : IsGoing job before) where
      on_table : IsFlowing job (Some t) job.seats.items going.packets going.blocks going.served
      on_table = subst (λ (table : Option TableValue). IsFlowing job table job.seats.items going.packets going.blocks
          going.served) has going.so

      met : job.seats.items ≡ met_seats t going.served.events
      met = on_table.seats_are ∙ ap (λ (x : TableValue). met_seats x going.served.events)
          (some_same (sym on_table.table_is))

      as_many : t.plan.settings.seats ≡ job.asked.seats
      as_many = ap (λ (x : TableValue). x.plan.settings.seats) (some_same on_table.table_is)
          ∙ ap (λ (p : Plan). p.settings.seats) on_table.plan ∙ on_table.served_so.opened.settings.seats_are

      pub is_opened : IsAsFar job new → IsOpened new t workers pile.packets before packets
      is_opened same = record {
        first = going.packets;
        blocks = going.blocks;
        served = going.served;
        seats = job.seats.items;
        have = handed.have;
        so = flowing_moves job new (Some t) job.seats.items going.packets going.blocks going.served same on_table;
        before_is = going.many_are;
        kept_is = holds.count;
        calls = holds.calls;
        make = subst (λ (c : Calling). MakeCalls c (before + 1) packets holds.calls)
            (same_ways.2 ∙ ap (λ (a : Asked). a.calling) (sym same.asked)) holds.make;
        askable = holds.askable;
        shares = given ∙ ap (λ (a : Asked). shares_of (rules_of a) a.seats calls) (sym same.asked);
        no_replies = handed.no_replies;
      }

      pub all_may_work : All (MayWork t) workers
      all_may_work =
          let all = make_few pile.calling (before + 1) packets holds.calls holds.make in
          let many = length-map holds.calls (λ (call : ℕ × Call). call.1) in
          may_work t going.served.events (rules_of job.asked) job.asked.seats calls
          (can_make job t going.packets going.blocks going.served
          (subst (λ (l : List PartyValue). IsFlowing job (Some t) l going.packets going.blocks going.served) met
          on_table))
          (let few = holds.few in omega (arith, all, many, few))
          (All-map IsAskable (λ (call : ℕ × Call). call.1) holds.calls holds.askable) 0 t.plan.settings.seats workers
          (omega arith) (subst (HaveSeats workers) met handed.have)
          (given
          ∙ ap (λ (n : ℕ). map (λ (k : ℕ). calls_for (rules_of job.asked) job.asked.seats k calls)
          (range_with_len 0 n)) (sym as_many))
          handed.no_replies

  -- what was served before stays
  pub is_under : IsAsFar job new → (asked : Asked) (batches : List (List (List ℕ))) (text : List ℕ) →
      IsDone job asked batches text → IsDoneWith new t workers asked batches text
  is_under same asked batches text done = record {
    seats = job.seats.items;
    have = handed.have;
    so = record {
      as_asked = same.asked ∙ done.as_asked;
      blocks = done.blocks;
      served = done.served;
      so = flowing_moves job new (Some t) job.seats.items (packets_in batches) done.blocks done.served same
          (subst (λ (table : Option TableValue). IsFlowing job table job.seats.items (packets_in batches) done.blocks
          done.served) has done.so);
      told = done.told;
    };
  }
