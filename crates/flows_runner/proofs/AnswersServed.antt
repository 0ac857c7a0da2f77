-- A batch that was served: each seat has made its share of the calls, and all have met. So the calls of all packets are
-- answered on one table.
use Rattle.std.proofs.Common.{◌≡◌, ℕ, zero, suc, ◌+◌, ◌<◌, ◌≤◌, ◌==◌, List, [], ◌∷◌, ◌++◌, length, get_or, map, Some, refl, sym, ap, ◌∙◌, subst, arith, length-append}
use Rattle.std.specs.Prelude.{All}
use Rattle.std.specs.List.{AllZip, range_with_len}
use Rattle.std.proofs.lemmas.List.{length-map, map-append}
use Rattle.std.proofs.lemmas.List.Elements.{All-cons, All-head, All-nil, All-tail, filter-append}
use Rattle.list_laws.proofs.Options.{some_same}
use Rattle.plain_map.specs.declared.keys.Key.{Key}
use Rattle.plain_map.specs.declared.calls.Call.{Call}
use Rattle.plain_map.specs.Calls.{key_in}
use Rattle.mode_parts.specs.PacketCalls.{MakeCalls}
use Rattle.map_laws.specs.ByKey.{Made}
use Rattle.map_laws.proofs.ByKeyLists.{cons_same, nil_cons}
use Rattle.lasting_model.specs.Plans.{Plan}
use Rattle.lasting_model.specs.Worlds.{Answer, BySeat, Event, IsRun, world_after}
use Rattle.lasting_laws.specs.Orders.{AllAreIdle}
use Rattle.lasting_laws.specs.Orders as orders
use Rattle.lasting_laws.proofs.Bounded.{steps_are_bounded}
use Rattle.lasting_table.specs.Parties.{Holding, PartyValue, answers_by, own_answers}
use Rattle.lasting_table.specs.Joins.{ComesTo}
use Rattle.lasting_table.specs.Meetings.{AreSeatsFrom, AreSeatsOf, HaveMet, informed}
use Rattle.lasting_table.specs.Values.{TableValue}
use Rattle.lasting_table.proofs.Events.{own_stays}
use Rattle.flow_laws.specs.FlowOrders.{calls_by, dealt_to}
use Rattle.flow_workers.specs.declared.replies.ReplyCounts.{ReplyCounts}
use Rattle.flow_workers.specs.declared.workers.FlowWorker.{FlowWorker}
use Rattle.flow_workers.specs.Counts.{counts_after, counts_of, no_counts}
use Rattle.flow_workers.specs.Work.{HasMade, HasWorked, told_in}
use Rattle.flow_workers.proofs.AnswerLists.{answers_by_seat, told-append}
use Rattle.flows_runner.specs.declared.asked.Asked.{Asked}
use Rattle.flows_runner.specs.Asked.{flow_seat, rules_of}
use Rattle.flows_runner.specs.Going.{HaveSeats, met_seat}
use Rattle.flows_runner.specs.Piles.{calls_for}
use Rattle.flows_runner.specs.Served.{AreServed, Served}
use Rattle.flows_runner.proofs.DealtLists.{IsDealt, calls_in, counts_all, counts_dealt, is_dealt, length_all, length_dealt}
use Rattle.flows_runner.proofs.GoingLemmas.{make_both, make_few}
use Rattle.flow_workers.proofs.AnswerLists.{few_pass}

-- ---- the answers of a seat

-- a party that comes to know more has no more answers
pub own_still : (known : List Event) (h : Holding) → ComesTo known h →
    answers_by h.who (world_after h.plan known).answers ≡ own_answers h
own_still known h comes =
    ap (λ (events : List Event). answers_by h.who (world_after h.plan events).answers) comes.grown
    ∙ own_stays h.plan h.who h.known comes.later (subst (IsRun h.plan) comes.grown comes.run) comes.none

-- a seat knew these events, has made calls, and knows those now
module _ (t : TableValue) (events known : List Event) (seat : ℕ) (now : PartyValue) (share : List Call)
    (made : List Made) (has : HasMade (met_seat t events seat) now share made) (comes : ComesTo known now.holding) where
  abbrev first : List Answer
  first = (world_after t.plan events).answers

  abbrev later : List Answer
  later = (world_after t.plan known).answers

  -- it has the answers that it had, and those to these calls
  own_met : answers_by (BySeat seat) later ≡ answers_by (BySeat seat) first ++ has.answers
  own_met =
      (λ i. answers_by ((sym has.same.who) i) (world_after ((sym has.same.plan) i) known).answers)
      ∙ own_still known now.holding comes ∙ has.own

  -- so it was answered these calls
  calls_met : calls_by seat later ≡ calls_by seat first ++ made
  calls_met =
      ap told_in (sym (answers_by_seat seat later) ∙ own_met)
      ∙ told-append (answers_by (BySeat seat) first) has.answers
      ∙ (λ i. told_in (answers_by_seat seat first i) ++ has.told i)

  -- and has one answer more for each
  many_met : length (orders.answers_by seat later) ≡ length (orders.answers_by seat first) + length made
  many_met =
      ap length (sym (answers_by_seat seat later) ∙ own_met)
      ∙ length-append (answers_by (BySeat seat) first) has.answers
      ∙ (λ i. length (answers_by_seat seat first i) + has.as_many i)

-- ---- a run that goes on

module _ (asked : Asked) (packets : List (List ℕ)) (served : Served) (are : AreServed asked packets served)
    (known : List Event) (run : IsRun served.plan known)
    (idle : AllAreIdle served.plan (world_after served.plan known)) where
  abbrev answers_then : List Answer
  answers_then = (world_after served.plan served.events).answers

  abbrev answers_now : List Answer
  answers_now = (world_after served.plan known).answers

  -- without a call the same packets are served
  pub served_still :
      ((seat : ℕ) → seat < served.plan.settings.seats → calls_by seat answers_now ≡ calls_by seat answers_then) →
      AreServed asked packets (record { plan = served.plan; events = known; made = served.made })
  served_still same = record {
    opened = are.opened;
    calls = are.calls;
    make = are.make;
    made_are = are.made_are;
    run = run;
    rest = idle;
    answered = record {
      inside = are.answered.inside;
      answered = λ seat less. same seat less ∙ are.answered.answered seat less;
    };
    bounded = steps_are_bounded served.plan known run;
  }

  -- with these calls of more packets those are served too
  pub served_more : (more : List (List ℕ)) (calls : List (ℕ × Call)) (later : List Made) →
      MakeCalls asked.calling (length packets + 1) more calls →
      calls_in later ≡ map (λ (call : ℕ × Call). call.1) calls →
      ((seat : ℕ) → seat < served.plan.settings.seats →
      calls_by seat answers_now
      ≡ calls_by seat answers_then ++ dealt_to (flow_seat (rules_of asked) asked.seats) seat later) →
      AreServed asked (packets ++ more) (record { plan = served.plan; events = known; made = served.made ++ later })
  served_more more calls later make later_are dealt = record {
    opened = are.opened;
    calls = are.calls ++ calls;
    make = make_both asked.calling 1 packets more are.calls calls are.make
        (subst (λ (n : ℕ). MakeCalls asked.calling n more calls)
        (let e : length packets + 1 ≡ 1 + length packets = omega arith in e) make);
    made_are = map-append (λ (one : Made). one.0) served.made later
        ∙ (λ i. are.made_are i ++ later_are i)
        ∙ sym (map-append (λ (call : ℕ × Call). call.1) are.calls calls);
    run = run;
    rest = idle;
    answered = record {
      inside = are.answered.inside;
      answered = λ seat less. dealt seat less
          ∙ ap (λ (l : List Made). l ++ dealt_to (flow_seat (rules_of asked) asked.seats) seat later)
          (are.answered.answered seat less)
          ∙ sym (filter-append
          (λ (one : Made). flow_seat (rules_of asked) asked.seats (key_in one.0) == seat) served.made later);
    };
    bounded = steps_are_bounded served.plan known run;
  }

-- the plan of the table is that of what was served on it
pub served_on : (t : TableValue) (asked : Asked) (packets : List (List ℕ)) (served : Served) →
    t.plan ≡ served.plan → AreServed asked packets served →
    AreServed asked packets (record { plan = t.plan; events = served.events; made = served.made })
served_on t asked packets served plan are =
    subst (λ (p : Plan). AreServed asked packets (record { plan = p; events = served.events; made = served.made }))
    (sym plan) are

-- ---- all seats

-- the seats from this one on knew these events, and have made each its share of calls
abbrev pub HaveMade : TableValue → List Event → (shares : ℕ → List Call) → (seat : ℕ) → List PartyValue →
    List (List Made) → Type 0
HaveMade t events shares seat [] [] = Unit {0}
HaveMade t events shares seat [] (made ∷ mades) = ⊥
HaveMade t events shares seat (now ∷ nows) [] = ⊥
HaveMade t events shares seat (now ∷ nows) (made ∷ mades) =
    HasMade (met_seat t events seat) now (shares seat) made × HaveMade t events shares (seat + 1) nows mades

module _ (t : TableValue) (events : List Event) (shares : ℕ → List Call) where
  made_from : (seat : ℕ) (nows : List PartyValue) (mades : List (List Made)) (i : ℕ) (d : PartyValue) →
      HaveMade t events shares seat nows mades → i < length nows →
      HasMade (met_seat t events (seat + i)) (get_or nows i d) (shares (seat + i)) (get_or mades i [])
  made_from seat [] [] i d have less = absurd (omega (arith, less))
  made_from seat [] (made ∷ mades) i d have less = absurd have
  made_from seat (now ∷ nows) [] i d have less = absurd have
  made_from seat (now ∷ nows) (made ∷ mades) zero d have less =
      subst (λ (k : ℕ). HasMade (met_seat t events k) now (shares k) made)
      (let e : seat ≡ seat + 0 = omega arith in e) have.0
  made_from seat (now ∷ nows) (made ∷ mades) (suc i) d have less =
      subst (λ (k : ℕ). HasMade (met_seat t events k) (get_or nows i d) (shares k) (get_or mades i []))
      (let e : seat + 1 + i ≡ seat + suc i = omega arith in e)
      (made_from (seat + 1) nows mades i d have.1 (omega (arith, less)))

  -- one of all
  pub made_at : (nows : List PartyValue) (mades : List (List Made)) (i : ℕ) (d : PartyValue) →
      HaveMade t events shares 0 nows mades → i < length nows →
      HasMade (met_seat t events i) (get_or nows i d) (shares i) (get_or mades i [])
  made_at nows mades i d have less =
      subst (λ (k : ℕ). HasMade (met_seat t events k) (get_or nows i d) (shares k) (get_or mades i []))
      (let e : 0 + i ≡ i = omega arith in e) (made_from 0 nows mades i d have less)

  -- each has its calls
  pub as_many : (seat : ℕ) (nows : List PartyValue) (mades : List (List Made)) →
      HaveMade t events shares seat nows mades → length mades ≡ length nows
  as_many seat [] [] have = refl
  as_many seat [] (made ∷ mades) have = absurd have
  as_many seat (now ∷ nows) [] have = absurd have
  as_many seat (now ∷ nows) (made ∷ mades) have = ap suc (as_many (seat + 1) nows mades have.1)

  informed_from : (known : List Event) (seat : ℕ) (nows : List PartyValue) (mades : List (List Made)) →
      HaveMade t events shares seat nows mades →
      map (informed known) nows ≡ map (met_seat t known) (range_with_len seat (length nows))
  informed_from known seat [] [] have = refl
  informed_from known seat [] (made ∷ mades) have = absurd have
  informed_from known seat (now ∷ nows) [] have = absurd have
  informed_from known seat (now ∷ nows) (made ∷ mades) have =
      (λ i. record {
        table_id = have.0.same.table i;
        holding = record { plan = have.0.same.plan i; who = have.0.same.who i; known = known };
      } ∷ informed_from known (seat + 1) nows mades have.1 i)

  -- they are seats of the table
  seats_from : (seat : ℕ) (nows : List PartyValue) (mades : List (List Made)) →
      HaveMade t events shares seat nows mades → AreSeatsFrom t seat nows
  seats_from seat [] [] have = tt
  seats_from seat [] (made ∷ mades) have = absurd have
  seats_from seat (now ∷ nows) [] have = absurd have
  seats_from seat (now ∷ nows) (made ∷ mades) have = (
    record { table = have.0.same.table; plan = have.0.same.plan },
    have.0.same.who,
    subst (λ (k : ℕ). AreSeatsFrom t k nows) (let e : seat + 1 ≡ suc seat = omega arith in e)
        (seats_from (seat + 1) nows mades have.1),
  )

  pub are_seats : (nows : List PartyValue) (mades : List (List Made)) → HaveMade t events shares 0 nows mades →
      length nows ≡ t.plan.settings.seats → AreSeatsOf t nows
  are_seats nows mades have many = record { count = many; each = seats_from 0 nows mades have }

  -- where no share is long none has made many calls
  pub few_made : (most : ℕ) → ((seat : ℕ) → length (shares seat) ≤ most) → (seat : ℕ) (nows : List PartyValue)
      (mades : List (List Made)) → HaveMade t events shares seat nows mades →
      All (λ (made : List Made). length made ≤ most) mades
  few_made most short seat [] [] have = All-nil _
  few_made most short seat [] (made ∷ mades) have = absurd have
  few_made most short seat (now ∷ nows) [] have = absurd have
  few_made most short seat (now ∷ nows) (made ∷ mades) have =
      let all = sym (length-map made (λ (one : Made). one.0)) ∙ ap length have.0.asked in
      let few = short seat in
      All-cons (λ (others : List Made). length others ≤ most) made mades (omega (arith, all, few))
      (few_made most short (seat + 1) nows mades have.1)

-- once they have met they are the seats of the table, which know all
pub all_met : (t : TableValue) (events : List Event) (shares : ℕ → List Call) (nows mets : List PartyValue)
    (mades : List (List Made)) → HaveMade t events shares 0 nows mades → length nows ≡ t.plan.settings.seats →
    (met : HaveMet t nows mets) →
    mets ≡ map (met_seat t met.known) (range_with_len 0 t.plan.settings.seats)
all_met t events shares nows mets mades have many met =
    met.are ∙ informed_from t events shares met.known 0 nows mades have
    ∙ ap (λ (n : ℕ). map (met_seat t met.known) (range_with_len 0 n)) many

-- ---- a batch

-- the seats have made the calls of these packets, which stand behind so many others
pub record HaveMadeCalls (t : TableValue) (asked : Asked) (events : List Event) (before : ℕ) (more : List (List ℕ))
    (nows : List PartyValue) (mades : List (List Made)) : Type 0 where
  pub calls : List (ℕ × Call)
  pub make : MakeCalls asked.calling (before + 1) more calls
  pub have : HaveMade t events
      (λ (seat : ℕ). calls_for (rules_of asked) asked.seats seat (map (λ (call : ℕ × Call). call.1) calls)) 0 nows mades
  pub many : length nows ≡ t.plan.settings.seats

-- they are served with the packets before them. The seats have counted each call once
pub record HasServed (t : TableValue) (asked : Asked) (packets more : List (List ℕ)) (served : Served)
    (known : List Event) (mades : List (List Made)) : Type 0 where
  pub later : List Made
  pub are : AreServed asked (packets ++ more)
      (record { plan = t.plan; events = known; made = served.made ++ later })
  pub dealt : mades
      ≡ map (λ (seat : ℕ). dealt_to (flow_seat (rules_of asked) asked.seats) seat later) (range_with_len 0 asked.seats)
  pub counts : counts_all mades ≡ counts_of later
  pub many : length_all mades ≡ length later
  pub askings : (seat : ℕ) → seat < t.plan.settings.seats →
      length (orders.answers_by seat (world_after t.plan known).answers)
      ≤ length (orders.answers_by seat (world_after served.plan served.events).answers) + length more

-- a list by what stands at each place
list_is : (f : ℕ → List Made) (start : ℕ) (lists : List (List Made)) →
    ((i : ℕ) → i < length lists → get_or lists i [] ≡ f (start + i)) →
    lists ≡ map f (range_with_len start (length lists))
list_is f start [] each = refl
list_is f start (made ∷ lists) each =
    (λ i. (each 0 (omega arith) ∙ ap f (let e : start + 0 ≡ start = omega arith in e)) i
    ∷ list_is f (start + 1) lists
    (λ k less. each (suc k) (omega (arith, less))
    ∙ ap f (let e : start + suc k ≡ start + 1 + k = omega arith in e)) i)

module _ (t : TableValue) (asked : Asked) (packets more : List (List ℕ)) (served : Served)
    (plan : t.plan ≡ served.plan) (are : AreServed asked packets served) (nows mets : List PartyValue)
    (mades : List (List Made)) (made : HaveMadeCalls t asked served.events (length packets) more nows mades)
    (met : HaveMet t nows mets) where
  abbrev calls : List Call
  calls = map (λ (call : ℕ × Call). call.1) made.calls

  abbrev shares : ℕ → List Call
  shares seat = calls_for (rules_of asked) asked.seats seat calls

  abbrev nobody : PartyValue
  nobody = met_seat t [] 0

  seats_are : t.plan.settings.seats ≡ asked.seats
  seats_are = ap (λ (p : Plan). p.settings.seats) plan ∙ are.opened.settings.seats_are

  inside : (key : Key) → flow_seat (rules_of asked) asked.seats key < asked.seats
  inside key =
      subst (λ (n : ℕ). flow_seat (rules_of asked) asked.seats key < n) are.opened.settings.seats_are
      (are.answered.inside key)

  in_list : (seat : ℕ) → seat < asked.seats → seat < length nows
  in_list seat less = (let e = seats_are in let many = made.many in omega (arith, less, e, many))

  here : (seat : ℕ) → seat < asked.seats →
      HasMade (met_seat t served.events seat) (get_or nows seat nobody) (shares seat) (get_or mades seat [])
  here seat less = made_at t served.events shares nows mades seat nobody made.have (in_list seat less)

  comes : (seat : ℕ) → seat < asked.seats → ComesTo met.known (get_or nows seat nobody).holding
  comes seat less = met.each seat nobody (in_list seat less)

  -- the calls that the seats have made are those of the packets
  is_one : IsDealt asked.seats (flow_seat (rules_of asked) asked.seats) calls (λ (seat : ℕ). get_or mades seat [])
  is_one =
      is_dealt asked.seats (flow_seat (rules_of asked) asked.seats) inside calls (λ (seat : ℕ). get_or mades seat [])
      (λ seat less. (here seat less).asked)

  dealt_are : mades
      ≡ map (λ (seat : ℕ). dealt_to (flow_seat (rules_of asked) asked.seats) seat is_one.later)
      (range_with_len 0 asked.seats)
  dealt_are =
      let deal : ℕ → List Made = λ (seat : ℕ). dealt_to (flow_seat (rules_of asked) asked.seats) seat is_one.later in
      let many : length mades ≡ asked.seats =
      as_many t served.events shares 0 nows mades made.have ∙ made.many ∙ seats_are in
      list_is deal 0 mades
      (λ i less. is_one.each i (omega (arith, less, many)) ∙ ap deal (let e : i ≡ 0 + i = omega arith in e))
      ∙ ap (λ (n : ℕ). map deal (range_with_len 0 n)) many

  -- a seat was answered what it is dealt
  answered_now : (seat : ℕ) → seat < t.plan.settings.seats →
      calls_by seat (world_after t.plan met.known).answers
      ≡ calls_by seat (world_after t.plan served.events).answers
      ++ dealt_to (flow_seat (rules_of asked) asked.seats) seat is_one.later
  answered_now seat less =
      let within : seat < asked.seats = (let e = seats_are in omega (arith, less, e)) in
      calls_met t served.events met.known seat (get_or nows seat nobody) (shares seat) (get_or mades seat [])
      (here seat within) (comes seat within)
      ∙ ap (λ (l : List Made). calls_by seat (world_after t.plan served.events).answers ++ l)
      (is_one.each seat within)

  -- it has at most one answer more for each packet
  few_more : (seat : ℕ) → seat < t.plan.settings.seats →
      length (orders.answers_by seat (world_after t.plan met.known).answers)
      ≤ length (orders.answers_by seat (world_after t.plan served.events).answers) + length more
  few_more seat less =
      let within : seat < asked.seats = (let e = seats_are in omega (arith, less, e)) in
      let many =
      many_met t served.events met.known seat (get_or nows seat nobody) (shares seat) (get_or mades seat [])
      (here seat within) (comes seat within) in
      let own = ap length (is_one.each seat within) in
      let few = few_pass (λ (one : Made). flow_seat (rules_of asked) asked.seats (key_in one.0) == seat) is_one.later in
      let all = sym (length-map is_one.later (λ (one : Made). one.0)) ∙ ap length is_one.are
      ∙ length-map made.calls (λ (call : ℕ × Call). call.1) in
      let packets_few = make_few asked.calling (length packets + 1) more made.calls made.make in
      omega (arith, many, own, few, all, packets_few)

  -- so the packets of the batch are served too
  pub batch_served : HasServed t asked packets more served met.known mades
  batch_served = record {
    later = is_one.later;
    are = served_more asked packets (record { plan = t.plan; events = served.events; made = served.made })
        (served_on t asked packets served plan are) met.known met.run met.idle more made.calls is_one.later made.make
        is_one.are answered_now;
    dealt = dealt_are;
    counts = ap counts_all dealt_are
        ∙ counts_dealt asked.seats (flow_seat (rules_of asked) asked.seats) inside is_one.later;
    many = ap length_all dealt_are
        ∙ length_dealt asked.seats (flow_seat (rules_of asked) asked.seats) inside is_one.later;
    askings = λ seat less.
        subst (λ (p : Plan). length (orders.answers_by seat (world_after t.plan met.known).answers)
        ≤ length (orders.answers_by seat (world_after p served.events).answers) + length more) plan
        (few_more seat less);
  }

-- ---- workers

-- workers that are through: their seats, what these have made, and what is counted of it
pub record AreThrough (t : TableValue) (events : List Event) (shares : ℕ → List Call) (seat : ℕ)
    (workers : List FlowWorker) : Type 0 where
  pub nows : List PartyValue
  pub mades : List (List Made)
  pub seats : HaveSeats workers nows
  pub have : HaveMade t events shares seat nows mades
  pub counts : map (λ (w : FlowWorker). w.replies) workers ≡ map (λ (made : List Made). counts_of made) mades
  pub calls : map (λ (w : FlowWorker). w.calls.items) workers ≡ map (λ (made : List Made). calls_in made) mades
  pub many : length nows ≡ length workers

-- a worker before others
through_first : (t : TableValue) (events : List Event) (shares : ℕ → List Call) (seat : ℕ) (was now : FlowWorker)
    (workers : List FlowWorker) → HasWorked was now → was.seat ≡ Some (met_seat t events seat) →
    was.calls.items ≡ shares seat → was.replies ≡ no_counts → AreThrough t events shares (seat + 1) workers →
    AreThrough t events shares seat (now ∷ workers)
through_first t events shares seat was now workers has had share none rest =
    let first : has.first ≡ met_seat t events seat = some_same (sym has.had ∙ had) in
    let made : HasMade (met_seat t events seat) has.last (shares seat) has.made =
    subst (λ (p : PartyValue). HasMade p has.last (shares seat) has.made) first
    (subst (λ (calls : List Call). HasMade has.first has.last calls has.made) share has.has_made) in
    record {
      nows = has.last ∷ rest.nows;
      mades = has.made ∷ rest.mades;
      seats = (λ i. has.has i ∷ rest.seats i);
      have = (made, rest.have);
      counts = (λ i. (has.counts ∙ ap (λ (c : ReplyCounts). counts_after c has.made) none) i ∷ rest.counts i);
      calls = (λ i. (ap (λ calls. calls.items) has.calls ∙ sym has.has_made.asked) i ∷ rest.calls i);
      many = ap suc rest.many;
    }

-- each worker was given a seat and its share, and had counted nothing
pub are_through : (t : TableValue) (events : List Event) (shares : ℕ → List Call) (seat many : ℕ)
    (started workers : List FlowWorker) → AllZip HasWorked started workers →
    HaveSeats started (map (met_seat t events) (range_with_len seat many)) →
    map (λ (w : FlowWorker). w.calls.items) started ≡ map shares (range_with_len seat many) →
    All (λ (w : FlowWorker). w.replies ≡ no_counts) started → AreThrough t events shares seat workers
are_through t events shares seat many [] [] worked seats given none =
    record { nows = []; mades = []; seats = refl; have = tt; counts = refl; calls = refl; many = refl }
are_through t events shares seat many [] (now ∷ workers) worked seats given none = absurd worked
are_through t events shares seat many (was ∷ started) [] worked seats given none = absurd worked
are_through t events shares seat zero (was ∷ started) (now ∷ workers) worked seats given none =
    absurd (nil_cons was.seat (map (λ (w : FlowWorker). w.seat) started) (sym seats))
are_through t events shares seat (suc many) (was ∷ started) (now ∷ workers) worked seats given none =
    let own = cons_same was.seat (Some (met_seat t events seat)) (map (λ (w : FlowWorker). w.seat) started)
    (map (λ (p : PartyValue). Some p) (map (met_seat t events) (range_with_len (seat + 1) many))) seats in
    let share = cons_same was.calls.items (shares seat) (map (λ (w : FlowWorker). w.calls.items) started)
    (map shares (range_with_len (seat + 1) many)) given in
    through_first t events shares seat was now workers worked.0 own.0 share.0
    (All-head (λ (w : FlowWorker). w.replies ≡ no_counts) was started none)
    (are_through t events shares (seat + 1) many started workers worked.1 own.1 share.1
    (All-tail (λ (w : FlowWorker). w.replies ≡ no_counts) was started none))
