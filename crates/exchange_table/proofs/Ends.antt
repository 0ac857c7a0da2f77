-- A call that has ended: what its token knows, and that it stands between two calls again.
use Rattle.std.proofs.Common.{◌≡◌, ℕ, List, [], ◌∷◌, take, Option, Some, None, refl, sym, ap, ◌∙◌, subst, arith}
use Rattle.std.specs.Prelude.{MatchOption}
use Rattle.atomic_table.specs.Seated.{TableId}
use Rattle.plain_map.specs.declared.calls.Reply.{Reply}
use Rattle.plain_map.specs.declared.keys.Pair.{Pair}
use Rattle.exchange_model.specs.Steps.{Idle}
use Rattle.exchange_model.specs.Goes.{Asked, Told, Again, Pairs, Refused, Replied, Spent}
use Rattle.exchange_calls.specs.Going.{Going}
use Rattle.exchange_calls.specs.Items.{ended}
use Rattle.exchange_calls.specs.Seats.{IsSeatOf, told_by_update, updated}
use Rattle.exchange_calls.specs.Tries.{AreRowsOf}
use Rattle.exchange_calls.specs.declared.updates.Updated.{Updated}
use Rattle.exchange_calls.specs.declared.updates.Updated.TheVariants as U
use Rattle.exchange_calls.specs.declared.seat_state.SeatState.{SeatState}
use Rattle.exchange_table.specs.declared.rule.Opening.{Opening}
use Rattle.exchange_table.specs.declared.stage.Stage.TheVariants.{Rests}
use Rattle.exchange_table.specs.Parties.{Holding, PartyValue, IsParty, going_of}
use Rattle.exchange_table.specs.Rule.{M, alone, plain}
use Rattle.exchange_table.specs.Calls.{HasAnswer, HasEnded, IsRunning, RunningValue, Token, holding_of, now_of, untold}
use Rattle.exchange_table.specs.Values.{IsResting, told_by_look, told_by_peek}
use Rattle.exchange_model.specs.Words.{word_count}
use Rattle.std.proofs.lemmas.List.{append-nil}

-- a call that is not begun
pub rests : (asked : Asked) (tries : ℕ) (since : List PartyValue) (key : Opening) (table_id : TableId) (token : Token) →
    token.table_id ≡ table_id → table_id.words ≡ word_count (plain key) → IsResting key token.me →
    since ≡ record { table_id = token.table_id; holding = holding_of key token.me } ∷ [] →
    IsRunning asked tries since key table_id token Rests
rests asked tries since key table_id token table size resting is = record {
  table = table;
  size = size;
  one = resting.one;
  opened = resting.opened;
  run = resting.run;
  inside = resting.inside;
  first = record { table_id = token.table_id; holding = holding_of key token.me };
  is = is;
  of_table = sym table;
  goes_on = record {
    plan = refl;
    who = refl;
    later = [];
    grown = sym (append-nil (holding_of key token.me).known);
  };
  at = (resting.idle, refl);
}

abbrev told_code : Told → ℕ
told_code (Replied reply) = 1
told_code (Pairs pairs) = 1
told_code Again = 1
told_code Spent = 1
told_code Refused = 0

-- a call that tells something was answered with that
module _ (asked : Asked) (tries : ℕ) (since : List PartyValue) (first : PartyValue) (is : since ≡ first ∷ [])
    (v : RunningValue) (end : HasEnded asked tries since v) (fin : Going) (told : Told) (some : told_code told ≡ 1)
    (tells : fin.told ≡ Some told) (idle : fin.now.stand ≡ Idle) (now : now_of asked tries v ≡ fin) where
  all : HasAnswer asked first.holding v.holding told × (now_of asked tries v ≡ going_of v.holding)
      × (v.table_id ≡ first.table_id)
  all = end first is told (ap (λ (x : Going). x.told) now ∙ tells)
      (λ e. omega (arith, some, ap told_code e)) (ap (λ (x : Going). x.now.stand) now ∙ idle)

  pub table_then : v.table_id ≡ first.table_id
  table_then = all.2

  pub going_then : going_of v.holding ≡ fin
  going_then = sym all.1 ∙ now

  module _ (key : Opening) (opened : first.holding.plan ≡ plain key)
      (inside : IsParty first.holding.plan first.holding.who) (m : M) (me : m ≡ alone v.holding) where
    same : holding_of key m ≡ v.holding
    same = ap (holding_of key) me

    pub answer_then : HasAnswer asked first.holding (holding_of key m) told
    answer_then = subst (λ (h : Holding). HasAnswer asked first.holding h told) (sym same) all.0

    pub rests_then : IsResting key m
    rests_then = record {
      one = me ∙ ap alone (sym same);
      opened = ap (λ (h : Holding). h.plan) same ∙ all.0.goes_on.plan ∙ opened;
      run = answer_then.run;
      inside = subst (λ (h : Holding). IsParty h.plan h.who)
          (λ i. record { plan = step_plan i; who = step_who i; known = (holding_of key m).known })
          inside;
      idle = answer_then.idle;
    }
      where
        step_plan : first.holding.plan ≡ (holding_of key m).plan
        step_plan = sym (ap (λ (h : Holding). h.plan) same ∙ all.0.goes_on.plan)

        step_who : first.holding.who ≡ (holding_of key m).who
        step_who = sym (ap (λ (h : Holding). h.who) same ∙ all.0.goes_on.who)

-- a look has ended so
module _ (asked : Asked) (tries : ℕ) (since : List PartyValue) (first : PartyValue) (is : since ≡ first ∷ [])
    (v : RunningValue) (end : HasEnded asked tries since v) (g : Going) (time : ℕ) (told : Told) (some : told_code
    told ≡ 1)
    (now : now_of asked tries v ≡ ended g time told) where
  pub table_ends : v.table_id ≡ first.table_id
  table_ends = table_then asked tries since first is v end (ended g time told) told some refl refl now

  pub going_ends : going_of v.holding ≡ ended g time told
  going_ends = going_then asked tries since first is v end (ended g time told) told some refl refl now

  module _ (key : Opening) (opened : first.holding.plan ≡ plain key)
      (inside : IsParty first.holding.plan first.holding.who) (m : M) (me : m ≡ alone v.holding) where
    pub answer_ends : HasAnswer asked first.holding (holding_of key m) told
    answer_ends = answer_then asked tries since first is v end (ended g time told) told some refl refl now key opened
        inside m me

    pub rests_ends : IsResting key m
    rests_ends = rests_then asked tries since first is v end (ended g time told) told some refl refl now key opened
        inside m me

-- a seat keeps the same whatever it was told last
pub told_again : (g : Going) (state : SeatState) → IsSeatOf (untold g) state → IsSeatOf g state
told_again g state k = record {
  rows = record { free = k.rows.free; kept = k.rows.kept };
  time = k.time;
  posted = k.posted;
  scan = k.scan;
}

pub told_nothing : (g : Going) (state : SeatState) → IsSeatOf g state → IsSeatOf (untold g) state
told_nothing g state k = record {
  rows = record { free = k.rows.free; kept = k.rows.kept };
  time = k.time;
  posted = k.posted;
  scan = k.scan;
}

-- what an update tells, if it was not refused
update_code : (result : Updated) → (told_by_update result ≡ Refused → ⊥) → told_code (told_by_update result) ≡ 1
update_code (U.Replied reply) n = refl
update_code U.Spent n = refl
update_code U.Refused n = absurd (n refl)

-- an update has ended so
module _ (asked : Asked) (tries : ℕ) (since : List PartyValue) (first : PartyValue) (is : since ≡ first ∷ [])
    (v : RunningValue) (end : HasEnded asked tries since v)
    (taken : (now_of asked tries v).told ≡ Some Refused → ⊥) (g : Going) (state : SeatState) (result : Updated)
    (now : now_of asked tries v ≡ updated g state result) where
  pub none_refused : told_by_update result ≡ Refused → ⊥
  none_refused e = taken (ap (λ (x : Going). x.told) now ∙ ap (λ (t : Told). Some t) e)

  some : told_code (told_by_update result) ≡ 1
  some = update_code result none_refused

  pub table_made : v.table_id ≡ first.table_id
  table_made = table_then asked tries since first is v end (updated g state result) (told_by_update result) some refl
      refl now

  going_made : going_of v.holding ≡ now_of asked tries v
  going_made = going_then asked tries since first is v end (updated g state result) (told_by_update result) some refl
      refl now ∙ sym now

  module _ (key : Opening) (opened : first.holding.plan ≡ plain key)
      (inside : IsParty first.holding.plan first.holding.who) (m : M) (me : m ≡ alone v.holding) where
    pub answer_made : HasAnswer asked first.holding (holding_of key m) (told_by_update result)
    answer_made = answer_then asked tries since first is v end (updated g state result) (told_by_update result) some
        refl refl now key opened inside m me

    pub rests_made : IsResting key m
    rests_made = rests_then asked tries since first is v end (updated g state result) (told_by_update result) some
        refl refl now key opened inside m me

    pub keeps_made : IsSeatOf (now_of asked tries v) state → IsSeatOf (going_of (holding_of key m)) state
    keeps_made k = subst (λ (x : Going). IsSeatOf x state)
        (sym going_made ∙ ap going_of (sym (ap (holding_of key) me))) k

-- and after a look it has asked so often
pub looked_again : (g : Going) (time : ℕ) (told : Told) (state state_then : SeatState) → IsSeatOf g state →
    state_then.rows ≡ state.rows → state_then.posted ≡ state.posted → state_then.time ≡ time →
    IsSeatOf (ended (untold g) time told) state_then
looked_again g time told state state_then k rows posted same = record {
  rows = subst (AreRowsOf (ended (untold g) time told)) (sym rows)
      (record { free = k.rows.free; kept = k.rows.kept });
  time = same;
  posted = posted ∙ k.posted;
  scan = k.scan;
}

-- what a reader is told, by its result
pub peek_told : (asked : Asked) (tries : ℕ) (v : RunningValue) (g : Going) (time : ℕ) (reply : Option Reply) →
    MatchOption reply (now_of asked tries v ≡ ended g time Again)
    (λ r. now_of asked tries v ≡ ended g time (Replied r)) →
    (now_of asked tries v ≡ ended g time (told_by_peek reply)) × (told_code (told_by_peek reply) ≡ 1)
peek_told asked tries v g time None e = (e, refl)
peek_told asked tries v g time (Some reply) e = (e, refl)

pub look_told : (asked : Asked) (tries : ℕ) (v : RunningValue) (g : Going) (time : ℕ) (count : Option ℕ)
    (pairs : List Pair) → (few : ℕ → Type 0) →
    MatchOption count (now_of asked tries v ≡ ended g time Again)
    (λ n. few n × (now_of asked tries v ≡ ended g time (Pairs (take n pairs)))) →
    (now_of asked tries v ≡ ended g time (told_by_look count pairs)) × (told_code (told_by_look count pairs) ≡ 1)
look_told asked tries v g time None pairs few e = (e, refl)
look_told asked tries v g time (Some count) pairs few e = (e.1, refl)
