-- The calls of a seat, one after the other: what it may still ask, and what it has made.
use Rattle.std.proofs.Common.{◌≡◌, ◌↔◌, ℕ, ◌+◌, ◌<◌, ◌≤◌, ◌^◌, List, [], ◌∷◌, ◌++◌, length, Result, Err, refl, sym, ap, ◌∙◌, subst, append_assoc, arith}
use Rattle.std.proofs.lemmas.List.{append-nil, length-append, length-map, map-append}
use Rattle.plain_map.specs.declared.calls.Call.{Call}
use Rattle.plain_map.specs.declared.calls.Reply.{Reply}
use Rattle.map_laws.specs.ByKey.{Made}
use Rattle.lasting_calls.specs.declared.calls.Spent.{Spent}
use Rattle.lasting_calls.specs.declared.calls.Spent.TheVariants.{Updates, Asked as SpentAskings}
use Rattle.lasting_model.specs.Plans.{IsPlan, Plan, MOST_UPDATES}
use Rattle.lasting_model.specs.Steps.{Idle, SeatNow}
use Rattle.lasting_model.specs.Goes.{Called, Replied}
use Rattle.lasting_model.specs.Worlds.{Lasting, Answer, Asker, BySeat, Event, IsRun, seat_in, world_after}
use Rattle.lasting_laws.proofs.Counted.{askings_are_counted}
use Rattle.lasting_laws.proofs.PoolsOpen.{seat_is}
use Rattle.lasting_table.specs.Parties.{Holding, PartyValue, answers_by, own_answers, party}
use Rattle.lasting_table.specs.Calls.{IsIdle}
use Rattle.lasting_table.specs.Values.{Answers, IsSame, TableValue, answered_updates, asked_times, new_seat}
use Rattle.flow_laws.specs.FlowOrders.{call_told}
use Rattle.flow_workers.specs.Work.{CanMake, HasMade, HasMadeOne, told_in}
use Rattle.flow_workers.proofs.AnswerLists.{answers_by_seat, told-append, updates_are_calls}

-- ---- what a seat has asked

-- a seat between two calls has asked no more often than it was answered, and has made no more updates than calls
pub record IsCounted (seat : PartyValue) : Type 0 where
  pub time : asked_times seat ≤ length (own_answers seat.holding)
  pub updates : answered_updates seat ≤ length (told_in (own_answers seat.holding))

module _ (t : TableValue) (seat : PartyValue) (many : ℕ) (can : CanMake t seat many) where
  abbrev h : Holding
  h = seat.holding

  abbrev world : Lasting
  world = world_after h.plan h.known

  -- the counts of this asker
  abbrev Counted : Asker → Type 0
  Counted who = ((party world who).time ≤ length (answers_by who world.answers))
      × ((party world who).answered ≤ length (told_in (answers_by who world.answers)))

  by_seat : Counted (BySeat can.number)
  by_seat =
      let inside : can.number < h.plan.settings.seats =
      subst (λ (p : Plan). can.number < p.settings.seats) (sym can.of.plan) can.inside in
      let idle : (seat_in world can.number).stand ≡ Idle =
      subst (λ (who : Asker). (party world who).stand ≡ Idle) can.who can.idle in
      let k = askings_are_counted h.plan h.known can.number can.run inside idle in (
        subst (λ (l : List Answer). (seat_in world can.number).time ≤ length l)
            (sym (answers_by_seat can.number world.answers)) k.0,
        subst (λ n. n ≤ length (told_in (answers_by (BySeat can.number) world.answers))) (sym k.1)
            (updates_are_calls can.number world.answers),
      )

  pub is_counted : IsCounted seat
  is_counted =
      let k = subst Counted (sym can.who) by_seat in
      record { time = k.0; updates = k.1 }

-- a seat that may make a call has a number and an asking left for it
pub never_spent : (t : TableValue) (seat : PartyValue) → CanMake t seat 1 → (spent : Spent) →
    (result : Result Reply Spent) → result ≡ Err spent →
    ((result ≡ Err Updates) ↔ (MOST_UPDATES ≤ answered_updates seat)) →
    ((result ≡ Err SpentAskings) ↔ ((answered_updates seat < MOST_UPDATES) × (2 ^ 62 ≤ asked_times seat))) → ⊥
never_spent t seat can Updates result is updates asked =
    let counted = is_counted t seat 1 can in
    omega (arith, updates.0 is, counted.updates, can.updates)
never_spent t seat can SpentAskings result is updates asked =
    let counted = is_counted t seat 1 can in
    omega (arith, (asked.0 is).1, counted.time, can.askings)

-- ---- what it has made

-- no call
pub made_none : (seat : PartyValue) → IsRun seat.holding.plan seat.holding.known → IsIdle seat.holding →
    HasMade seat seat [] []
made_none seat run idle = record {
  same = record { table = refl; plan = refl; who = refl };
  asked = refl;
  later = [];
  grown = sym (append-nil seat.holding.known);
  run = run;
  idle = idle;
  answers = [];
  own = sym (append-nil (own_answers seat.holding));
  told = refl;
  as_many = refl;
}

-- one call, which was answered
pub made_one : (was now : PartyValue) (call : Call) (reply : Reply) → IsSame was now →
    Answers (Called call) (Replied reply) was now → HasMadeOne was now (call, reply)
made_one was now call reply same a = record {
  same = same;
  asked = refl;
  later = a.later;
  grown = a.grown;
  run = a.run;
  idle = a.idle;
  answers = a.answer ∷ [];
  own = a.own;
  told = λ i. call_told (a.asks i) (a.tells i) ++ [];
  as_many = refl;
}

-- some calls, and then others
pub made_on : (first middle last : PartyValue) (calls more : List Call) (made others : List Made) →
    HasMade first middle calls made → HasMade middle last more others →
    HasMade first last (calls ++ more) (made ++ others)
made_on first middle last calls more made others a b = record {
  same = record {
    table = b.same.table ∙ a.same.table;
    plan = b.same.plan ∙ a.same.plan;
    who = b.same.who ∙ a.same.who;
  };
  asked = map-append (λ (one : Made). one.0) made others ∙ (λ i. a.asked i ++ b.asked i);
  later = a.later ++ b.later;
  grown = b.grown ∙ ap (λ (l : List Event). l ++ b.later) a.grown
      ∙ append_assoc first.holding.known a.later b.later;
  run = b.run;
  idle = b.idle;
  answers = a.answers ++ b.answers;
  own = b.own ∙ ap (λ (l : List Answer). l ++ b.answers) a.own
      ∙ append_assoc (own_answers first.holding) a.answers b.answers;
  told = told-append a.answers b.answers ∙ (λ i. a.told i ++ b.told i);
  as_many = length-append a.answers b.answers ∙ (λ i. a.as_many i + b.as_many i)
      ∙ sym (length-append made others);
}

-- ---- what it may still ask

-- a seat that has made no call may make as many as there are numbers
pub can_first : (t : TableValue) → IsPlan t.plan → (seat many : ℕ) → seat < t.plan.settings.seats →
    many ≤ MOST_UPDATES → CanMake t (new_seat t seat) many
can_first t is_plan seat many inside few = record {
  of = record { table = refl; plan = refl };
  number = seat;
  who = refl;
  inside = inside;
  run = record { opened = is_plan; follow = tt };
  idle = ap (λ (now : SeatNow). now.stand) (seat_is t.plan is_plan seat inside);
  updates = omega (arith, few);
  askings = omega (arith, few);
}

-- there are as many calls as replies
pub as_many_calls : (was now : PartyValue) (calls : List Call) (made : List Made) → HasMade was now calls made →
    length made ≡ length calls
as_many_calls was now calls made has = sym (length-map made (λ (one : Made). one.0)) ∙ ap length has.asked

-- a seat that may make so many calls may make the rest after some of them
pub can_after : (t : TableValue) (was now : PartyValue) (many more : ℕ) (calls : List Call) (made : List Made) →
    CanMake t was many → HasMade was now calls made → length calls + more ≤ many → CanMake t now more
can_after t was now many more calls made can has few =
    let n = as_many_calls was now calls made has in
    let own = ap length has.own ∙ length-append (own_answers was.holding) has.answers in
    let told = ap (λ (l : List Answer). length (told_in l)) has.own
    ∙ ap length (told-append (own_answers was.holding) has.answers)
    ∙ length-append (told_in (own_answers was.holding)) (told_in has.answers) in
    let told_many = ap length has.told in
    record {
      of = record { table = has.same.table ∙ can.of.table; plan = has.same.plan ∙ can.of.plan };
      number = can.number;
      who = has.same.who ∙ can.who;
      inside = can.inside;
      run = has.run;
      idle = has.idle;
      updates = omega (arith, n, told, told_many, few, can.updates);
      askings = omega (arith, n, own, has.as_many, few, can.askings);
    }
