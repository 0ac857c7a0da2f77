-- A batch is closed: its packets are served too, and the job has counted what its workers have.
use Rattle.std.proofs.Common.{◌≡◌, ℕ, ◌+◌, ◌^◌, ◌<◌, ◌≤◌, ◌==◌, List, [], ◌∷◌, ◌++◌, length, map, Some, refl, sym, ap, ◌∙◌, subst, arith, length-append}
use Rattle.std.specs.Prelude.{All, vec_len}
use Rattle.std.specs.List.{AllZip, range_with_len}
use Rattle.std.proofs.lemmas.List.{length-map}
use Rattle.std.proofs.lemmas.List.Elements.{All-cons, All-head, All-nil, All-tail, All-weaker, length_all_zip}
use Rattle.std.proofs.lemmas.List.FromFn.{length-range_with_len}
use Rattle.list_laws.proofs.Options.{some_same}
use Rattle.plain_map.specs.declared.calls.Call.{Call}
use Rattle.plain_map.specs.Calls.{key_in}
use Rattle.mode_parts.specs.PacketCalls.{MakeCalls}
use Rattle.map_laws.specs.ByKey.{Made}
use Rattle.map_laws.proofs.ByKeyLists.{cons_same, nil_cons}
use Rattle.lasting_model.specs.Plans.{Plan}
use Rattle.lasting_table.specs.Parties.{PartyValue}
use Rattle.lasting_table.specs.Meetings.{AreSeatsOf, HaveMet}
use Rattle.lasting_table.specs.Values.{TableValue}
use Rattle.flow_workers.specs.declared.workers.FlowWorker.{FlowWorker}
use Rattle.flow_workers.specs.Counts.{AreBelow, added, counts_of, no_counts}
use Rattle.flow_workers.specs.Work.{HasWorked}
use Rattle.flow_workers.proofs.CountLists.{below_after, below_more, counts_both}
use Rattle.flows_runner.specs.declared.flowing.Flowing.{Flowing}
use Rattle.flows_runner.specs.declared.pile.TheConstants.{FLOW_LIMIT}
use Rattle.flows_runner.specs.Asked.{flow_seat, rules_of}
use Rattle.flows_runner.specs.Going.{HaveSeats, IsAway, IsFlowing, IsOpened, met_seat, met_seats}
use Rattle.flows_runner.specs.Hands.{CanTake, HaveFew, many_calls, replies_of}
use Rattle.flows_runner.specs.Piles.{calls_for}
use Rattle.flows_runner.specs.Served.{AreServed, Served}
use Rattle.flows_runner.proofs.DealtLists.{calls_in, counts_all, length_all}
use Rattle.flows_runner.proofs.GoingLemmas.{make_few}
use Rattle.flows_runner.proofs.AnswersServed.{AreThrough, HasServed, HaveMadeCalls, all_met, are_seats, are_through, batch_served, few_made}
use Rattle.flow_workers.proofs.AnswerLists.{few_pass}

-- ---- what the workers have counted

-- no reply is counted more often than there are calls
few_counts : (made : List Made) → AreBelow (1 + length made) (counts_of made)
few_counts made = below_after made 1 no_counts (record {
  new = omega arith;
  old = omega arith;
  noroom = omega arith;
  gone = omega arith;
  found = omega arith;
  absent = omega arith;
  sum = omega arith;
})

-- together they have counted what their seats have made
replies_are : (workers : List FlowWorker) (mades : List (List Made)) →
    map (λ (w : FlowWorker). w.replies) workers ≡ map (λ (made : List Made). counts_of made) mades →
    replies_of workers ≡ counts_all mades
replies_are [] [] same = refl
replies_are [] (made ∷ mades) same =
    absurd (nil_cons (counts_of made) (map (λ (m : List Made). counts_of m) mades) same)
replies_are (w ∷ workers) [] same =
    absurd (nil_cons w.replies (map (λ (v : FlowWorker). v.replies) workers) (sym same))
replies_are (w ∷ workers) (made ∷ mades) same =
    let both = cons_same w.replies (counts_of made) (map (λ (v : FlowWorker). v.replies) workers)
    (map (λ (m : List Made). counts_of m) mades) same in
    λ i. added (both.0 i) (replies_are workers mades both.1 i)

-- and had as many calls
calls_are : (workers : List FlowWorker) (mades : List (List Made)) →
    map (λ (w : FlowWorker). w.calls.items) workers ≡ map (λ (made : List Made). calls_in made) mades →
    many_calls workers ≡ length_all mades
calls_are [] [] same = refl
calls_are [] (made ∷ mades) same =
    absurd (nil_cons (calls_in made) (map (λ (m : List Made). calls_in m) mades) same)
calls_are (w ∷ workers) [] same =
    absurd (nil_cons w.calls.items (map (λ (v : FlowWorker). v.calls.items) workers) (sym same))
calls_are (w ∷ workers) (made ∷ mades) same =
    let both = cons_same w.calls.items (calls_in made) (map (λ (v : FlowWorker). v.calls.items) workers)
    (map (λ (m : List Made). calls_in m) mades) same in
    let one : w.calls.len ≡ length made = w.calls.ok.0 ∙ ap length both.0 ∙ length-map made (λ (m : Made). m.0) in
    λ i. one i + calls_are workers mades both.1 i

-- none has counted more than its calls
few_workers : (most : ℕ) (workers : List FlowWorker) (mades : List (List Made)) →
    map (λ (w : FlowWorker). w.replies) workers ≡ map (λ (made : List Made). counts_of made) mades →
    map (λ (w : FlowWorker). w.calls.items) workers ≡ map (λ (made : List Made). calls_in made) mades →
    All (λ (made : List Made). length made ≤ most) mades →
    All (λ (w : FlowWorker). vec_len w.calls ≤ most) workers
    × All (λ (w : FlowWorker). AreBelow (1 + most) w.replies) workers
few_workers most [] [] same_replies same_calls few = (All-nil _, All-nil _)
few_workers most [] (made ∷ mades) same_replies same_calls few =
    absurd (nil_cons (calls_in made) (map (λ (m : List Made). calls_in m) mades) same_calls)
few_workers most (w ∷ workers) [] same_replies same_calls few =
    absurd (nil_cons w.calls.items (map (λ (v : FlowWorker). v.calls.items) workers) (sym same_calls))
few_workers most (w ∷ workers) (made ∷ mades) same_replies same_calls few =
    let replies = cons_same w.replies (counts_of made) (map (λ (v : FlowWorker). v.replies) workers)
    (map (λ (m : List Made). counts_of m) mades) same_replies in
    let calls = cons_same w.calls.items (calls_in made) (map (λ (v : FlowWorker). v.calls.items) workers)
    (map (λ (m : List Made). calls_in m) mades) same_calls in
    let long : vec_len w.calls ≡ length made = w.calls.ok.0 ∙ ap length calls.0 ∙ length-map made (λ (m : Made). m.0) in
    let less = All-head (λ (m : List Made). length m ≤ most) made mades few in
    let others = few_workers most workers mades replies.1 calls.1
    (All-tail (λ (m : List Made). length m ≤ most) made mades few) in (
      All-cons (λ (v : FlowWorker). vec_len v.calls ≤ most) w workers (omega (arith, long, less)) others.0,
      All-cons (λ (v : FlowWorker). AreBelow (1 + most) v.replies) w workers
          (subst (AreBelow (1 + most)) (sym replies.0)
          (below_more (1 + length made) (1 + most) (counts_of made) (omega (arith, less)) (few_counts made)))
          others.1,
    )

-- ---- the batch

-- the job has counted what these workers have of so many packets
pub record HasCounted (was now : Flowing) (workers : List FlowWorker) (kept : ℕ) : Type 0 where
  pub asked : now.asked ≡ was.asked
  pub packets : now.packets ≡ was.packets + kept
  pub calls : now.calls ≡ was.calls + many_calls workers
  pub replies : now.replies ≡ added was.replies (replies_of workers)

-- the packets are served behind those before them
pub record GoesOn (now : Flowing) (t : TableValue) (mets : List PartyValue) (packets more : List (List ℕ))
    (blocks : ℕ) (served : Served) : Type 0 where
  pub with_more : Served
  pub later : List Made
  pub made : with_more.made ≡ served.made ++ later
  pub so : IsFlowing now (Some t) mets (packets ++ more) blocks with_more

-- a job that had served these packets has opened a batch, whose workers are through
module _ (job : Flowing) (t : TableValue) (started workers : List FlowWorker) (kept before : ℕ)
    (more : List (List ℕ)) (opened : IsOpened job t started kept before more)
    (worked : AllZip HasWorked started workers)
    (seats : List PartyValue) (packets : List (List ℕ)) (blocks : ℕ) (served : Served)
    (have : HaveSeats started seats) (so : IsFlowing job (Some t) seats packets blocks served) where
  abbrev shares : ℕ → List Call
  shares seat = calls_for (rules_of job.asked) job.asked.seats seat (map (λ (call : ℕ × Call). call.1) opened.calls)

  same_table : t ≡ so.t
  same_table = some_same so.table_is

  plan : t.plan ≡ served.plan
  plan = ap (λ (x : TableValue). x.plan) same_table ∙ so.plan

  seats_are : seats ≡ met_seats t served.events
  seats_are = so.seats_are ∙ ap (λ (x : TableValue). met_seats x served.events) (sym same_table)

  many_seats : t.plan.settings.seats ≡ job.asked.seats
  many_seats = ap (λ (p : Plan). p.settings.seats) plan ∙ so.served_so.opened.settings.seats_are

  -- the batch stands behind these packets
  pub stands_behind : length packets ≡ before
  stands_behind = sym so.packets_are ∙ opened.so.packets_are ∙ opened.before_is

  pub through : AreThrough t served.events shares 0 workers
  through = are_through t served.events shares 0 t.plan.settings.seats started workers worked
      (subst (HaveSeats started) seats_are have)
      (opened.shares ∙ ap (λ (n : ℕ). map shares (range_with_len 0 n)) (sym many_seats)) opened.no_replies

  many_workers : length started ≡ length seats
  many_workers = sym (length-map started (λ (w : FlowWorker). w.seat)) ∙ ap length have
      ∙ length-map seats (λ (seat : PartyValue). Some seat)

  many_nows : length through.nows ≡ t.plan.settings.seats
  many_nows = through.many ∙ sym (length_all_zip HasWorked started workers worked) ∙ many_workers
      ∙ ap length seats_are
      ∙ length-map (range_with_len 0 t.plan.settings.seats) (met_seat t served.events)
      ∙ length-range_with_len 0 t.plan.settings.seats

  have_made : HaveMadeCalls t job.asked served.events (length packets) more through.nows through.mades
  have_made = record {
    calls = opened.calls;
    make = subst (λ (n : ℕ). MakeCalls job.asked.calling (n + 1) more opened.calls) (sym stands_behind) opened.make;
    have = through.have;
    many = many_nows;
  }

  -- the workers' seats are those of the table
  pub seats_back : AreSeatsOf t through.nows
  seats_back = are_seats t served.events shares through.nows through.mades through.have many_nows

  pub many_back : length workers ≡ job.asked.seats
  many_back = sym through.many ∙ many_nows ∙ many_seats

  short : (seat : ℕ) → length (shares seat) ≤ length more
  short seat =
      let calls : List Call = map (λ (call : ℕ × Call). call.1) opened.calls in
      let share =
      few_pass (λ (call : Call). flow_seat (rules_of job.asked) job.asked.seats (key_in call) == seat) calls in
      let all = length-map opened.calls (λ (call : ℕ × Call). call.1) in
      let few = make_few job.asked.calling (before + 1) more opened.calls opened.make in
      omega (arith, share, all, few)

  -- they have counted few calls
  pub few_back : job.asked.seats ≤ 8 → length more ≤ 65536 → HaveFew workers
  few_back seats_few packets_few =
      let each = few_workers (length more) workers through.mades through.counts through.calls
      (few_made t served.events shares (length more) short 0 through.nows through.mades through.have) in
      record {
        workers_few = (let many = many_back in omega (arith, many, seats_few));
        calls = All-weaker (λ (w : FlowWorker). vec_len w.calls ≤ length more)
            (λ (w : FlowWorker). vec_len w.calls < 2 ^ 32)
            (λ w less. omega (arith, less, packets_few)) workers each.0;
        replies = All-weaker (λ (w : FlowWorker). AreBelow (1 + length more) w.replies)
            (λ (w : FlowWorker). AreBelow (2 ^ 33) w.replies)
            (λ w below. below_more (1 + length more) (2 ^ 33) w.replies (omega (arith, packets_few)) below) workers
            each.1;
      }

  -- the job has room for them, and for what they have counted
  pub can_take : IsAway job before → CanTake job (length workers)
  can_take away =
      let many = many_back in
      let made_few : length served.made ≤ length packets =
      (let one = sym (length-map served.made (λ (m : Made). m.0)) ∙ ap length so.served_so.made_are
      ∙ length-map so.served_so.calls (λ (call : ℕ × Call). call.1) in
      let few = make_few job.asked.calling 1 packets so.served_so.calls so.served_so.make in
      omega (arith, one, few)) in
      let packets_few = so.few in
      record {
        no_seats = away.no_seats;
        no_spare = away.no_spare;
        seats_room = (let room = away.seats_room in omega (arith, many, room));
        spare_room = (let room = away.spare_room in omega (arith, many, room));
        calls = (let calls = so.calls_are in omega (arith, calls, made_few, packets_few));
        replies = subst (AreBelow (2 ^ 62)) (sym so.replies)
            (below_more (1 + length served.made) (2 ^ 62) (counts_of served.made)
            (omega (arith, made_few, packets_few)) (few_counts served.made));
      }

  -- once the seats have met, and the job has counted, the batch is served
  pub batch_closed : (now : Flowing) (mets : List PartyValue) → HaveMet t through.nows mets →
      HasCounted job now workers kept → length packets + length more ≤ FLOW_LIMIT →
      GoesOn now t mets packets more blocks served
  batch_closed now mets met counted few =
      let has : HasServed t job.asked packets more served met.known through.mades =
      batch_served t job.asked packets more served plan so.served_so through.nows mets through.mades have_made met in
      let all = length-append packets more in
      record {
        with_more = record { plan = t.plan; events = met.known; made = served.made ++ has.later };
        later = has.later;
        made = refl;
        so = record {
          t = t;
          table_is = refl;
          plan = refl;
          served_so = subst (λ asked. AreServed asked (packets ++ more)
              (record { plan = t.plan; events = met.known; made = served.made ++ has.later })) (sym counted.asked)
              has.are;
          seats_are = all_met t served.events shares through.nows mets through.mades through.have many_nows met;
          few = omega (arith, all, few);
          few_blocks = (let fewer = so.few_blocks in omega (arith, all, fewer));
          replies = counted.replies
              ∙ (λ i. added (so.replies i)
              ((replies_are workers through.mades through.counts ∙ has.counts) i))
              ∙ sym (counts_both served.made has.later);
          packets_are = (let were = so.packets_are in let add = counted.packets in let kept_is = opened.kept_is in
              omega (arith, all, were, add, kept_is));
          calls_are = (let were = so.calls_are in let add = counted.calls in
              let those = calls_are workers through.mades through.calls in let many = has.many in
              let both = length-append served.made has.later in
              omega (arith, were, add, those, many, both));
          askings = λ seat less.
              (let now_few = has.askings seat less in
              let were = so.askings seat (subst (λ (x : TableValue). seat < x.plan.settings.seats) same_table less) in
              omega (arith, all, now_few, were));
        };
      }
