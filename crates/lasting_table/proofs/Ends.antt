-- A call that has ended: what its token knows, and that it stands between two calls again.
use Rattle.std.proofs.Common.{◌≡◌, ℕ, List, [], ◌∷◌, take, Option, Some, None, Result, Ok, Err, refl, sym, ap, ◌∙◌, subst, arith}
use Rattle.std.specs.Prelude.{MatchOption}
use Rattle.atomic_table.specs.Seated.{TableId}
use Rattle.plain_map.specs.declared.calls.Reply.{Reply}
use Rattle.plain_map.specs.declared.keys.Pair.{Pair}
use Rattle.lasting_model.specs.Steps.{Idle}
use Rattle.lasting_model.specs.Goes.{Asked, Told, Again, Pairs, Refused, Replied}
use Rattle.lasting_calls.specs.Going.{Going}
use Rattle.lasting_calls.specs.Items.{ended}
use Rattle.lasting_calls.specs.Seats.{AreRowsOf, HasEnded as UpdateEnded, IsSeatOf, told_by_update, untold}
use Rattle.lasting_calls.specs.declared.calls.Spent.{Spent}
use Rattle.lasting_calls.specs.declared.seat_state.SeatState.{SeatState}
use Rattle.lasting_model.specs.Worlds.{IsRun}
use Rattle.lasting_table.specs.declared.rule.Opening.{Opening}
use Rattle.lasting_table.specs.declared.stage.Stage.TheVariants.{Rests}
use Rattle.lasting_table.specs.Parties.{Holding, PartyValue, IsParty, going_of}
use Rattle.lasting_table.specs.Rule.{M, alone, plain}
use Rattle.lasting_table.specs.Calls.{GoesOn, HasAnswer, HasEnded, HasWaited, IsIdle, IsRunning, RunningValue, Token, holding_of, now_of}
use Rattle.lasting_table.specs.Values.{IsResting, told_by_look, told_by_peek}
use Rattle.lasting_model.specs.Words.{word_count}
use Rattle.std.proofs.lemmas.List.{append-nil}

-- a call that is not begun
pub rests : (asked : Asked) (tries : ℕ) (since : List PartyValue) (key : Opening) (table_id : TableId) (token : Token) →
    token.table_id ≡ table_id → table_id.words ≡ word_count (plain key) → IsResting key token.me →
    since ≡ record { table_id = token.table_id; holding = holding_of key token.me } ∷ [] →
    IsRunning asked tries since key table_id token Rests
rests asked tries since key table_id token table size resting is = record {
  table = table;
  size = size;
  one = resting.one;
  opened = resting.opened;
  run = resting.run;
  inside = resting.inside;
  first = record { table_id = token.table_id; holding = holding_of key token.me };
  is = is;
  of_table = sym table;
  goes_on = record {
    plan = refl;
    who = refl;
    later = [];
    grown = sym (append-nil (holding_of key token.me).known);
  };
  at = (resting.idle, refl);
}

abbrev told_code : Told → ℕ
told_code (Replied reply) = 1
told_code (Pairs pairs) = 1
told_code Again = 1
told_code Refused = 0

-- a call that tells something was answered with that
module _ (asked : Asked) (tries : ℕ) (since : List PartyValue) (first : PartyValue) (is : since ≡ first ∷ [])
    (v : RunningValue) (end : HasEnded asked tries since v) (g : Going) (time : ℕ) (told : Told) (some : told_code
    told ≡ 1)
    (now : now_of asked tries v ≡ ended g time told) where
  all : HasAnswer asked first.holding v.holding told × (now_of asked tries v ≡ going_of v.holding)
      × (v.table_id ≡ first.table_id)
  all = end first is told (ap (λ (x : Going). x.told) now)
      (λ e. omega (arith, some, ap told_code e)) (ap (λ (x : Going). x.now.stand) now)

  pub table_ends : v.table_id ≡ first.table_id
  table_ends = all.2

  pub going_ends : going_of v.holding ≡ ended g time told
  going_ends = sym all.1 ∙ now

  module _ (key : Opening) (opened : first.holding.plan ≡ plain key)
      (inside : IsParty first.holding.plan first.holding.who) (m : M) (me : m ≡ alone v.holding) where
    same : holding_of key m ≡ v.holding
    same = ap (holding_of key) me

    pub answer_ends : HasAnswer asked first.holding (holding_of key m) told
    answer_ends = subst (λ (h : Holding). HasAnswer asked first.holding h told) (sym same) all.0

    pub rests_ends : IsResting key m
    rests_ends = record {
      one = me ∙ ap alone (sym same);
      opened = ap (λ (h : Holding). h.plan) same ∙ all.0.goes_on.plan ∙ opened;
      run = answer_ends.run;
      inside = subst (λ (h : Holding). IsParty h.plan h.who)
          (λ i. record { plan = step_plan i; who = step_who i; known = (holding_of key m).known })
          inside;
      idle = answer_ends.idle;
    }
      where
        step_plan : first.holding.plan ≡ (holding_of key m).plan
        step_plan = sym (ap (λ (h : Holding). h.plan) same ∙ all.0.goes_on.plan)

        step_who : first.holding.who ≡ (holding_of key m).who
        step_who = sym (ap (λ (h : Holding). h.who) same ∙ all.0.goes_on.who)

-- a seat keeps the same whatever it was told last
pub told_again : (g : Going) (state : SeatState) → IsSeatOf (untold g) state → IsSeatOf g state
told_again g state k = record {
  rows = record {
    sound = k.rows.sound;
    has = k.rows.has;
    first = k.rows.first;
    all = k.rows.all;
    sweeps = k.rows.sweeps;
  };
  rest = k.rest;
  answered = k.answered;
  few = k.few;
  time = k.time;
}

pub told_nothing : (g : Going) (state : SeatState) → IsSeatOf g state → IsSeatOf (untold g) state
told_nothing g state k = record {
  rows = record {
    sound = k.rows.sound;
    has = k.rows.has;
    first = k.rows.first;
    all = k.rows.all;
    sweeps = k.rows.sweeps;
  };
  rest = k.rest;
  answered = k.answered;
  few = k.few;
  time = k.time;
}

-- an update, which was answered or not made
module _ (asked : Asked) (tries : ℕ) (since : List PartyValue) (first : PartyValue) (is : since ≡ first ∷ [])
    (v : RunningValue) (end : HasEnded asked tries since v) (wait : HasWaited asked tries since v) (key : Opening)
    (resting : IsResting key (alone first.holding))
    (m : M) (me : m ≡ alone v.holding) where
  held : holding_of key m ≡ v.holding
  held = ap (holding_of key) me

  -- its answer, as the calls have it
  record Answered (reply : Reply) : Type 0 where
    answer : HasAnswer asked first.holding v.holding (Replied reply)
    now_is : now_of asked tries v ≡ going_of v.holding
    table : v.table_id ≡ first.table_id

  answered : (reply : Reply) → (now_of asked tries v).told ≡ Some (Replied reply) →
      (now_of asked tries v).now.stand ≡ Idle → Answered reply
  answered reply e idle =
      let all = end first is (Replied reply) e (λ k. omega (arith, ap told_code k)) idle in
      record { answer = all.0; now_is = all.1; table = all.2 }

  pub update_answer : (reply : Reply) → (now_of asked tries v).told ≡ Some (Replied reply) →
      (now_of asked tries v).now.stand ≡ Idle → HasAnswer asked first.holding (holding_of key m) (Replied reply)
  update_answer reply e idle =
      subst (λ (h : Holding). HasAnswer asked first.holding h (Replied reply)) (sym held) (answered reply e idle).answer

  pub update_table : (reply : Reply) → (now_of asked tries v).told ≡ Some (Replied reply) →
      (now_of asked tries v).now.stand ≡ Idle → v.table_id ≡ first.table_id
  update_table reply e idle = (answered reply e idle).table

  pub update_keeps : (reply : Reply) → (now_of asked tries v).told ≡ Some (Replied reply) →
      (now_of asked tries v).now.stand ≡ Idle → (state : SeatState) → IsSeatOf (now_of asked tries v) state →
      IsSeatOf (going_of (holding_of key m)) state
  update_keeps reply e idle state k =
      subst (λ (g : Going). IsSeatOf g state) ((answered reply e idle).now_is ∙ ap going_of (sym held)) k

  rests_after : GoesOn first.holding (holding_of key m) → IsRun (holding_of key m).plan (holding_of key m).known →
      IsIdle (holding_of key m) → IsResting key m
  rests_after goes run idle = record {
    one = me ∙ ap alone (sym held);
    opened = goes.plan ∙ resting.opened;
    run = run;
    inside = subst (λ (h : Holding). IsParty h.plan h.who)
        (λ i. record { plan = sym goes.plan i; who = sym goes.who i; known = (holding_of key m).known })
        resting.inside;
    idle = idle;
  }

  pub update_rests : (reply : Reply) → (now_of asked tries v).told ≡ Some (Replied reply) →
      (now_of asked tries v).now.stand ≡ Idle → IsResting key m
  update_rests reply e idle =
      let a = update_answer reply e idle in rests_after a.goes_on a.run a.idle

  -- it was not made
  module _ (none : (now_of asked tries v).told ≡ None) (idle : (now_of asked tries v).now.stand ≡ Idle) where
    pub wait_holding : holding_of key m ≡ first.holding
    wait_holding = held ∙ (wait first is none idle).0

    pub wait_table : v.table_id ≡ first.table_id
    wait_table = (wait first is none idle).1

    pub wait_rests : IsResting key m
    wait_rests = subst (IsResting key) (ap alone (sym wait_holding) ∙ ap alone held ∙ sym me) resting

    pub wait_goes : GoesOn first.holding (holding_of key m)
    wait_goes = record {
      plan = ap (λ (h : Holding). h.plan) wait_holding;
      who = ap (λ (h : Holding). h.who) wait_holding;
      later = [];
      grown = ap (λ (h : Holding). h.known) wait_holding ∙ sym (append-nil first.holding.known);
    }

    pub wait_keeps : (state : SeatState) → now_of asked tries v ≡ untold (going_of first.holding) →
        IsSeatOf (now_of asked tries v) state → IsSeatOf (going_of (holding_of key m)) state
    wait_keeps state now k =
        let t : IsSeatOf (untold (going_of first.holding)) state = subst (λ (g : Going). IsSeatOf g state) now k in
        subst (λ (h : Holding). IsSeatOf (going_of h) state) (sym wait_holding) (told_again (going_of first.holding)
        state t)

-- what an update came to
abbrev ok_code : Result (Option Reply) Spent → ℕ
ok_code (Ok (Some reply)) = 0
ok_code (Ok None) = 1
ok_code (Err spent) = 2

abbrev reply_of : Reply → Result (Option Reply) Spent → Reply
reply_of d (Ok (Some reply)) = reply
reply_of d (Ok None) = d
reply_of d (Err spent) = d

module _ (asked : Asked) (tries : ℕ) (since : List PartyValue) (first : PartyValue) (is : since ≡ first ∷ [])
    (v : RunningValue) (end : HasEnded asked tries since v) (wait : HasWaited asked tries since v) (key : Opening)
    (resting : IsResting key (alone first.holding)) (m : M) (me : m ≡ alone v.holding) (state : SeatState)
    (k : IsSeatOf (now_of asked tries v) state) where
  pub record Made (r : Result (Option Reply) Spent) : Type 0 where
    pub table : v.table_id ≡ first.table_id
    pub rests : IsResting key m
    pub keeps : IsSeatOf (going_of (holding_of key m)) state
    pub goes_on : GoesOn first.holding (holding_of key m)
    pub answer : (reply : Reply) → r ≡ Ok (Some reply) →
        HasAnswer asked first.holding (holding_of key m) (Replied reply)
    pub waits : (spent : Spent) → r ≡ Err spent → holding_of key m ≡ first.holding

  pub made : (r : Result (Option Reply) Spent) →
      ((reply : Option Reply) → r ≡ Ok reply →
      UpdateEnded (untold (going_of first.holding)) (now_of asked tries v) (told_by_update reply)) →
      ((spent : Spent) → r ≡ Err spent → now_of asked tries v ≡ untold (going_of first.holding)) →
      ((now_of asked tries v).told ≡ Some Refused → ⊥) → Made r
  made (Ok (Some reply)) ends waits taken =
      let e = ends (Some reply) refl in
      let a = update_answer asked tries since first is v end wait key resting m me reply e.told_is e.stand in
      record {
        table = update_table asked tries since first is v end wait key resting m me reply e.told_is e.stand;
        rests = update_rests asked tries since first is v end wait key resting m me reply e.told_is e.stand;
        keeps = update_keeps asked tries since first is v end wait key resting m me reply e.told_is e.stand state k;
        goes_on = a.goes_on;
        answer = λ other same. subst (λ (r : Reply). HasAnswer asked first.holding (holding_of key m) (Replied r))
            (ap (reply_of reply) same) a;
        waits = λ spent same. absurd (omega (arith, ap ok_code same));
      }
  made (Ok None) ends waits taken = absurd (taken (ends None refl).told_is)
  made (Err spent) ends waits taken =
      let now = waits spent refl in
      let none = ap (λ (g : Going). g.told) now in
      let idle = ap (λ (g : Going). g.now.stand) now ∙ resting.idle in
      record {
        table = wait_table asked tries since first is v end wait key resting m me none idle;
        rests = wait_rests asked tries since first is v end wait key resting m me none idle;
        keeps = wait_keeps asked tries since first is v end wait key resting m me none idle state now k;
        goes_on = wait_goes asked tries since first is v end wait key resting m me none idle;
        answer = λ reply same. absurd (omega (arith, ap ok_code same));
        waits = λ other same. wait_holding asked tries since first is v end wait key resting m me none idle;
      }

-- and after a look it has asked so often
pub looked_again : (g : Going) (time : ℕ) (told : Told) (state state_then : SeatState) → IsSeatOf g state →
    state_then.rows ≡ state.rows → state_then.answered ≡ state.answered → state_then.time ≡ time →
    IsSeatOf (ended (untold g) time told) state_then
looked_again g time told state state_then k rows answered same = record {
  rows = subst (AreRowsOf (ended (untold g) time told)) (sym rows) (record {
    sound = k.rows.sound;
    has = k.rows.has;
    first = k.rows.first;
    all = k.rows.all;
    sweeps = k.rows.sweeps;
  });
  rest = k.rest;
  answered = answered ∙ k.answered;
  few = (let f = k.few in omega (arith, f, answered));
  time = same;
}

-- what a reader is told, by its result
pub peek_told : (asked : Asked) (tries : ℕ) (v : RunningValue) (g : Going) (time : ℕ) (reply : Option Reply) →
    MatchOption reply (now_of asked tries v ≡ ended g time Again)
    (λ r. now_of asked tries v ≡ ended g time (Replied r)) →
    (now_of asked tries v ≡ ended g time (told_by_peek reply)) × (told_code (told_by_peek reply) ≡ 1)
peek_told asked tries v g time None e = (e, refl)
peek_told asked tries v g time (Some reply) e = (e, refl)

pub look_told : (asked : Asked) (tries : ℕ) (v : RunningValue) (g : Going) (time : ℕ) (count : Option ℕ)
    (pairs : List Pair) → (few : ℕ → Type 0) →
    MatchOption count (now_of asked tries v ≡ ended g time Again)
    (λ n. few n × (now_of asked tries v ≡ ended g time (Pairs (take n pairs)))) →
    (now_of asked tries v ≡ ended g time (told_by_look count pairs)) × (told_code (told_by_look count pairs) ≡ 1)
look_told asked tries v g time None pairs few e = (e, refl)
look_told asked tries v g time (Some count) pairs few e = (e.1, refl)
