-- A job that has served nothing: its table was opened, and no seat knows of an event.
use Rattle.std.proofs.Common.{◌≡◌, ℕ, zero, suc, ◌<◌, ◌≤◌, ◌+◌, ◌^◌, List, [], ◌∷◌, length, map, replicate, Some, refl, sym, ap, ◌∙◌, subst, vec_len, Vec, Global, arith, append-nil}
use Rattle.std.specs.List.{range_with_len}
use Rattle.std.specs.Option.{ForSome}
use Rattle.std.proofs.Math.Nat.{mod-lt, pow-le-pow_right}
use Rattle.std.proofs.lemmas.List.{length-map, length-replicate}
use Rattle.std.proofs.lemmas.List.Elements.{All-nil}
use Rattle.hash_bits.specs.declared.hashing.Hashing.TheVariants.{Mix}
use Rattle.step_counts.specs.declared.settings.Settings.{Settings}
use Rattle.step_counts.specs.Made.{IsMadeOf}
use Rattle.plain_map.specs.declared.calls.Call.{Call}
use Rattle.plain_map.specs.declared.keys.Key.{Key}
use Rattle.plain_map.specs.PlainObject.{class_of}
use Rattle.report_text.specs.Flows.{flows_head}
use Rattle.lasting_model.specs.Plans.{IsPlan, Plan, least_rows}
use Rattle.lasting_model.specs.Steps.{SeatNow}
use Rattle.lasting_model.specs.Laws.{IsWithin}
use Rattle.lasting_laws.proofs.PoolsOpen.{seat_is}
use Rattle.lasting_table.specs.Parties.{PartyValue}
use Rattle.lasting_table.specs.Tables.{new_seats}
use Rattle.lasting_table.specs.Values.{TableValue, new_seat}
use Rattle.lasting_table.proofs.Planned.{is_plan}
use Rattle.flow_workers.specs.Counts.{no_counts}
use Rattle.flows_runner.specs.declared.asked.Asked.{Asked}
use Rattle.flows_runner.specs.declared.flowing.Flowing.{Flowing}
use Rattle.flows_runner.specs.Asked.{CanBeAsked, IsPlanOf, flow_seat, head_of, rules_of}
use Rattle.flows_runner.specs.Going.{IsDone, IsFlowing, IsGoing, met_seat, met_seats}
use Rattle.flows_runner.specs.Served.{AreServed, Served}

-- its rows are few
pub rows_few : (asked : Asked) (s : Settings) (rows : ℕ) → CanBeAsked asked →
    IsMadeOf s asked.seats asked.items asked.depth asked.depth → rows ≡ least_rows s → rows ≤ 2 ^ 14
rows_few asked s rows can made are =
    let bits : s.depth ≤ 12 = (let few = can.few_bits in let is = made.depth_is in omega (arith, few, is)) in
    let deep : 2 ^ s.depth ≤ 2 ^ 12 = pow-le-pow_right {n = 2} (omega arith) bits in
    omega (arith, deep, are, made.seats_are, can.few_seats)

-- a new seat is one that knows no event
new_are_met : (t : TableValue) (seat many : ℕ) → new_seats t seat many ≡ map (met_seat t []) (range_with_len seat many)
new_are_met t seat zero = refl
new_are_met t seat (suc many) =
    let next : suc seat ≡ seat + 1 = omega arith in
    ap (λ (ps : List PartyValue). new_seat t seat ∷ ps)
    (ap (λ (k : ℕ). new_seats t k many) next ∙ new_are_met t (seat + 1) many)

-- a table that opens without pairs, with rows as few as can be
module _ (asked : Asked) (can : CanBeAsked asked) (t : TableValue) (s : Settings)
    (made : IsMadeOf s asked.seats asked.items asked.depth asked.depth) (rows : ℕ) (are : rows ≡ least_rows s)
    (is : t.plan ≡ record { settings = s; hashing = Mix asked.seed; first = []; rows = rows }) where
  opened : IsPlanOf asked t.plan
  opened = record {
    settings = subst (λ (p : Plan). IsMadeOf p.settings asked.seats asked.items asked.depth asked.depth) (sym is) made;
    hashing = ap (λ (p : Plan). p.hashing) is;
    first = ap (λ (p : Plan). p.first) is;
  }

  plan_is : IsPlan t.plan
  plan_is = subst IsPlan (sym is)
      (is_plan (record { settings = s; hashing = Mix asked.seed; rows = rows }) (made.start_is ∙ sym made.depth_is)
      (let e = are in omega (arith, e)) (rows_few asked s rows can made are))

  abbrev pub served : Served
  served = record { plan = t.plan; events = []; made = [] }

  some_seats : 0 < asked.seats
  some_seats = (let some = can.some_seats in omega (arith, some))

  inside : (key : Key) → flow_seat (rules_of asked) asked.seats key < t.plan.settings.seats
  inside key =
      subst (λ (n : ℕ). flow_seat (rules_of asked) asked.seats key < n) (sym opened.settings.seats_are)
      (mod-lt (class_of (rules_of asked) key) some_seats)

  pub none_served : AreServed asked [] served
  none_served = record {
    opened = opened;
    calls = [];
    make = refl;
    made_are = refl;
    run = record { opened = plan_is; follow = tt };
    rest = λ seat less. ap (λ (now : SeatNow). now.stand) (seat_is t.plan plan_is seat less);
    answered = record { inside = inside; answered = λ seat less. refl };
    bounded = All-nil (IsWithin t.plan.settings);
  }

  -- the job that has it
  module _ (job : Flowing) (of : job.asked ≡ asked) (seats : job.seats.items ≡ new_seats t 0 s.seats)
      (has : job.table ≡ Some t) (no_replies : job.replies ≡ no_counts) (no_packets : job.packets ≡ 0)
      (no_calls : job.calls ≡ 0) where
    seats_are : job.seats.items ≡ met_seats t []
    seats_are = seats ∙ new_are_met t 0 s.seats
        ∙ ap (λ (p : Plan). map (met_seat t []) (range_with_len 0 p.settings.seats)) (sym is)

    pub new_flowing : IsFlowing job job.table job.seats.items [] 0 served
    new_flowing = record {
      t = t;
      table_is = has;
      plan = refl;
      served_so = subst (λ (a : Asked). AreServed a [] served) (sym of) none_served;
      seats_are = seats_are;
      few = omega arith;
      few_blocks = omega arith;
      replies = no_replies;
      packets_are = no_packets;
      calls_are = no_calls;
      askings = λ seat less. omega arith;
    }

    -- there is a list for each seat
    module _ (spare : map (λ (share : Vec Call Global). share.items) job.spare.items ≡ replicate asked.seats []) where
      spare_many : vec_len job.spare ≡ asked.seats
      spare_many =
          job.spare.ok.0 ∙ sym (length-map job.spare.items (λ (share : Vec Call Global). share.items))
          ∙ ap (λ (l : List (List Call)). length l) spare ∙ length-replicate asked.seats []

      pub new_going : IsGoing job 0
      new_going = record {
        packets = [];
        blocks = 0;
        served = served;
        so = new_flowing;
        spare = record {
          some = subst (λ (a : Asked). 1 ≤ a.seats) (sym of) can.some_seats;
          few = subst (λ (a : Asked). a.seats ≤ 8) (sym of) can.few_seats;
          every = subst (λ (a : Asked). ForSome a.every (λ every. 0 < every)) (sym of) can.every;
          spare = spare_many ∙ ap (λ (a : Asked). a.seats) (sym of);
        };
        many_are = refl;
      }

    pub new_done : (text : List ℕ) → text ≡ flows_head (head_of asked) → IsDone job asked [] text
    new_done text text_is = record {
      as_asked = of;
      blocks = 0;
      served = served;
      so = new_flowing;
      told = record { blocks = []; are = tt; text_is = text_is ∙ sym (append-nil (flows_head (head_of asked))) };
    }
