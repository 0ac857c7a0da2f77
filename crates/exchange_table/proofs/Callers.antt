-- A seat or a reader before and after a call: what its badge holds, and what that says of its value.
use Rattle.std.proofs.Common.{◌≡◌, ℕ, ◌+◌, ◌^◌, ◌<◌, ◌≤◌, Bool, true, List, [], ◌∷◌, ◌++◌, Some, refl, sym, ap, ◌∙◌, subst, arith}
use Rattle.std.specs.Prelude.{All}
use Rattle.std.proofs.lemmas.List.Elements.{All-pop}
use Rattle.atomic_table.specs.Seated.{TableId}
use Rattle.exchange_model.specs.Plans.{Plan}
use Rattle.exchange_model.specs.Bounds.{call_bound}
use Rattle.exchange_model.specs.Laws.{IsWithin}
use Rattle.exchange_model.specs.Goes.{Asked, Told}
use Rattle.plain_map.specs.declared.calls.Call.{Call}
use Rattle.plain_map.specs.declared.calls.Call.TheVariants.{Insert, Remove, Lookup, Tally, Count, Put}
use Rattle.plain_map.specs.Calls.{key_in}
use Rattle.plain_map.specs.Keys.{IsKey}
use Rattle.plain_map.specs.Updates.{IsUpdate}
use Rattle.exchange_model.specs.Worlds.{Answer, ByReader, CanBegin, Event, IsRun}
use Rattle.exchange_laws.proofs.Bounded.{steps_are_bounded}
use Rattle.exchange_laws.specs.PeekBounds.{IsPeekWithin}
use Rattle.exchange_laws.proofs.BoundedPeeks.{peeks_are_bounded}
use Rattle.exchange_calls.specs.Desks.{IsOf}
use Rattle.exchange_calls.specs.declared.desk.Desk.{Desk}
use Rattle.exchange_table.specs.declared.rule.Opening.{Opening}
use Rattle.exchange_table.specs.declared.view.View.{View}
use Rattle.exchange_table.specs.Parties.{Holding, PartyValue, IsParty, seat_no, going_of, has_hold}
use Rattle.exchange_table.specs.Rule.{M, alone, lone, plain}
use Rattle.exchange_table.specs.Calls.{GoesOn, HasAnswer, IsIdle, holding_of, untold}
use Rattle.exchange_calls.specs.Going.{Going}
use Rattle.exchange_calls.specs.Items.{ended}
use Rattle.exchange_calls.specs.Seats.{IsSeatOf}
use Rattle.exchange_calls.specs.declared.seat_state.SeatState.{SeatState}
use Rattle.exchange_table.proofs.Ends.{looked_again}
use Rattle.exchange_table.proofs.Orderly.{has_order}
use Rattle.exchange_table.proofs.AtDesk.{desk_still}
use Rattle.exchange_model.specs.Words.{word_count}
use Rattle.exchange_table.specs.declared.table.LastingTable.TheInside as table
use Rattle.exchange_table.specs.Values.{Answers, HolderStands, IsPartyOf, IsResting, IsSame, PartyStands, SeatStands, TableValue, answered_updates, holding_in, party_value}
use Rattle.exchange_table.specs.Tables.{TableStands, table_value}

-- the first of the views, or this one
abbrev first_view : View → List View → View
first_view d [] = d
first_view d (v ∷ vs) = v

-- a badge and its token hold the same
pub badge_holds : (key : Opening) (desk : Desk) (views : List View) (me : M) → views ≡ me.0 ∷ [] → (h : Holding) →
    views ≡ lone h ∷ [] → (holding_of key me ≡ h) × (holding_in desk views ≡ h)
badge_holds key desk views me into h one =
    let same : me.0 ≡ lone h = ap (first_view me.0) (sym into ∙ one) in
    (ap (λ (v : View). holding_of key (v, [])) same, ap (holding_in desk) one)

-- an answer that is the last one has its bound
bound_of : (plan : Plan) (front : List Answer) (a : Answer) → All (IsWithin plan.settings) (front ++ a ∷ []) →
    IsWithin plan.settings a
bound_of plan front a all =
    (All-pop (IsWithin plan.settings) (front ++ a ∷ []) front (Some a) refl all).1

-- so has a reader's that of its tries
tries_of : (plan : Plan) (known : List Event) (front : List Answer) (a : Answer) →
    All (λ (b : Answer). (reader : ℕ) → b.by ≡ ByReader reader → IsPeekWithin plan.settings known b reader)
    (front ++ a ∷ []) →
    (reader : ℕ) → a.by ≡ ByReader reader → IsPeekWithin plan.settings known a reader
tries_of plan known front a all =
    (All-pop (λ (b : Answer). (reader : ℕ) → b.by ≡ ByReader reader → IsPeekWithin plan.settings known b reader)
    (front ++ a ∷ []) front (Some a) refl all).1

-- a seat that has askings and announcements left may begin an update
can_begin : (g : Going) (desk : Desk) (state : SeatState) (call : Call) → IsOf g desk →
    desk.holder < desk.sizes.seats → IsSeatOf g state → state.time < 2 ^ 62 → state.posted + 1 < 2 ^ 43 →
    IsUpdate call → IsKey (key_in call) → CanBegin g.plan g.seat g.now call
can_begin g desk state call at less k late few update key = by call update key
  where
    inside : g.seat < g.plan.settings.seats
    inside = (let seat = at.seat in let seats = at.seats in omega (arith, less, seat, seats))

    asks : g.now.time < 2 ^ 62
    asks = subst (λ n. n < 2 ^ 62) k.time late

    announces : g.now.posted + 1 < 2 ^ 43
    announces = subst (λ n. n + 1 < 2 ^ 43) k.posted few

    by : (c : Call) → IsUpdate c → IsKey (key_in c) → CanBegin g.plan g.seat g.now c
    by (Insert key value) u w = (inside, asks, announces, u, w)
    by (Remove key) u w = (inside, asks, announces, u, w)
    by (Lookup key) u w = absurd u
    by (Tally key amount) u w = (inside, asks, announces, u, w)
    by (Count key value amount) u w = (inside, asks, announces, u, w)
    by (Put key value) u w = (inside, asks, announces, u, w)

module _ (key : Opening) (holds : Bool) (desk : Desk) (views : List View) (me : M)
    (stands : PartyStands holds desk views) (into : views ≡ me.0 ∷ []) (none : me.1 ≡ [])
    (opened : (holding_in desk views).plan ≡ plain key) where
  abbrev was : Holding
  was = holding_in desk views

  held : holding_of key me ≡ was
  held = (badge_holds key desk views me into was stands.one).0

  me_is : me ≡ alone was
  me_is = λ i. (ap (first_view me.0) (sym into ∙ stands.one) i, none i)

  pub resting : IsResting key me
  resting = record {
    one = me_is ∙ ap alone (sym held);
    opened = ap (λ (h : Holding). h.plan) held ∙ opened;
    run = subst (λ (h : Holding). IsRun h.plan h.known) (sym held) stands.run;
    inside = subst (λ (h : Holding). IsParty h.plan h.who) (sym held) stands.inside;
    idle = subst IsIdle (sym held) stands.idle;
  }

  pub desk_at : IsOf (going_of (holding_of key me)) desk
  desk_at = subst (λ (h : Holding). IsOf (going_of h) desk) (sym held) stands.at_desk

  pub kind_at : has_hold (holding_of key me).who ≡ holds
  kind_at = ap (λ (h : Holding). has_hold h.who) held ∙ stands.kind

  -- after a call
  module _ (asked : Asked) (told : Told) (table table_then : TableId) (same : table_then ≡ table)
      (views_then : List View) (me_then : M) (out : views_then ≡ me_then.0 ∷ []) (rests : IsResting key me_then)
      (answer : HasAnswer asked (holding_of key me) (holding_of key me_then) told) where
    abbrev now : Holding
    now = holding_in desk views_then

    held_then : holding_of key me_then ≡ now
    held_then = sym (badge_holds key desk views_then me_then out (holding_of key me_then)
        (out ∙ ap (λ (m : M). m.0 ∷ []) rests.one)).1

    here : HasAnswer asked was now told
    here = subst (λ (x : Holding × Holding). HasAnswer asked (x.0) (x.1) told) (λ j. (held j, held_then j)) answer

    pub same_after : IsSame (party_value desk table views) (party_value desk table_then views_then)
    same_after = record { table = same; plan = here.goes_on.plan; who = here.goes_on.who }

    pub answers_after : Answers asked told (party_value desk table views) (party_value desk table_then views_then)
    answers_after = record {
      later = here.goes_on.later;
      grown = here.goes_on.grown;
      run = here.run;
      before = here.answered.front;
      answer = here.answered.answer;
      last = here.answered.is;
      own = here.answered.only;
      by = here.answered.by;
      asks = here.answered.asks;
      tells = here.told_is;
      after = here.answered.after;
      bounded = λ seat e. subst (λ (a : Asked). here.answered.answer.steps ≤ call_bound now.plan.settings a)
          here.answered.asks
          (bound_of now.plan here.answered.front here.answered.answer
          (subst (All (IsWithin now.plan.settings)) here.answered.is
          (steps_are_bounded now.plan now.known here.run)) seat e);
      tried = tries_of now.plan now.known here.answered.front here.answered.answer
          (subst (All (λ (b : Answer). (reader : ℕ) → b.by ≡ ByReader reader →
          IsPeekWithin now.plan.settings now.known b reader)) here.answered.is
          (peeks_are_bounded now.plan now.known here.run));
      ordered = has_order now.plan now.known here.run;
      idle = here.idle;
    }

    pub stands_after : PartyStands holds desk views_then
    stands_after = record {
      one = out ∙ ap (λ (m : M). m.0 ∷ []) rests.one ∙ ap (λ (x : Holding). lone x ∷ []) held_then;
      run = here.run;
      inside = subst (λ (h : Holding). IsParty h.plan h.who) held_then rests.inside;
      idle = here.idle;
      at_desk = desk_still (going_of was) (going_of now) desk here.goes_on.plan (ap seat_no here.goes_on.who)
          stands.at_desk;
      kind = ap has_hold here.goes_on.who ∙ stands.kind;
    }

  -- after an update, made or not
  module _ (table table_then : TableId) (same : table_then ≡ table) (views_then : List View) (me_then : M)
      (out : views_then ≡ me_then.0 ∷ []) (rests : IsResting key me_then)
      (goes : GoesOn (holding_of key me) (holding_of key me_then)) where
    abbrev now_held : Holding
    now_held = holding_in desk views_then

    held_now : holding_of key me_then ≡ now_held
    held_now = sym (badge_holds key desk views_then me_then out (holding_of key me_then)
        (out ∙ ap (λ (m : M). m.0 ∷ []) rests.one)).1

    goes_here : GoesOn was now_held
    goes_here = subst (λ (x : Holding × Holding). GoesOn (x.0) (x.1)) (λ j. (held j, held_now j)) goes

    pub made_same : IsSame (party_value desk table views) (party_value desk table_then views_then)
    made_same = record { table = same; plan = goes_here.plan; who = goes_here.who }

    pub made_stands : holds ≡ true → desk.holder < desk.sizes.seats → (state : SeatState) →
        IsSeatOf (going_of (holding_of key me_then)) state → SeatStands desk views_then state
    made_stands e less state k = record {
      seat = less;
      stands = record {
        one = out ∙ ap (λ (m : M). m.0 ∷ []) rests.one ∙ ap (λ (x : Holding). lone x ∷ []) held_now;
        run = subst (λ (h : Holding). IsRun h.plan h.known) held_now rests.run;
        inside = subst (λ (h : Holding). IsParty h.plan h.who) held_now rests.inside;
        idle = subst IsIdle held_now rests.idle;
        at_desk = desk_still (going_of was) (going_of now_held) desk goes_here.plan (ap seat_no goes_here.who)
            stands.at_desk;
        kind = ap has_hold goes_here.who ∙ stands.kind ∙ e;
      };
      keeps = subst (λ (h : Holding). IsSeatOf (going_of h) state) held_now k;
    }

    pub waits_same : holding_of key me_then ≡ holding_of key me →
        party_value desk table_then views_then ≡ party_value desk table views
    waits_same e i = record {
      table_id = same i;
      holding = (sym held_now ∙ e ∙ held) i;
    }

  -- what a seat keeps, as its call has it
  pub keeps_at : (state : SeatState) → IsSeatOf (going_of was) state → IsSeatOf (going_of (holding_of key me)) state
  keeps_at state k = subst (λ (h : Holding). IsSeatOf (going_of h) state) (sym held) k

  -- so it may begin an update
  pub can_make : (state : SeatState) (call : Call) → IsSeatOf (going_of was) state → desk.holder < desk.sizes.seats →
      state.time < 2 ^ 62 → state.posted + 1 < 2 ^ 43 → IsUpdate call → IsKey (key_in call) →
      CanBegin (going_of (holding_of key me)).plan (going_of (holding_of key me)).seat
      (going_of (holding_of key me)).now call
  can_make state call k less late few update is_key =
      can_begin (going_of (holding_of key me)) desk state call desk_at less (keeps_at state k) late few update is_key

  -- and that it has answered no update in a look
  pub updates_same : (time : ℕ) (told : Told) (table table_then : TableId) (views_then : List View) (me_then : M) →
      views_then ≡ me_then.0 ∷ [] → IsResting key me_then →
      going_of (holding_of key me_then) ≡ ended (untold (going_of (holding_of key me))) time told →
      answered_updates (party_value desk table_then views_then) ≡ answered_updates (party_value desk table views)
  updates_same time told table table_then views_then me_then out rests e =
      ap (λ (h : Holding). (going_of h).now.answered)
      (badge_holds key desk views_then me_then out (holding_of key me_then)
      (out ∙ ap (λ (m : M). m.0 ∷ []) rests.one)).1
      ∙ ap (λ (g : Going). g.now.answered) e ∙ ap (λ (h : Holding). (going_of h).now.answered) held

  -- and what it keeps after a look
  pub looked_stands : (time : ℕ) (told : Told) (state state_then : SeatState) → IsSeatOf (going_of was) state →
      state_then.rows ≡ state.rows → state_then.posted ≡ state.posted → state_then.time ≡ time → (me_then : M) →
      going_of (holding_of key me_then) ≡ ended (untold (going_of (holding_of key me))) time told →
      IsSeatOf (going_of (holding_of key me_then)) state_then
  looked_stands time told state state_then k rows posted same me_then e =
      subst (λ (g : Going). IsSeatOf g state_then) (sym e)
      (looked_again (going_of (holding_of key me)) time told state state_then (keeps_at state k) rows posted same)

  -- and a reader that can hold
  pub holder_stands : holds ≡ true → (asked : Asked) (told : Told) (table table_then : TableId) →
      table_then ≡ table → (views_then : List View) (me_then : M) →
      views_then ≡ me_then.0 ∷ [] → IsResting key me_then →
      HasAnswer asked (holding_of key me) (holding_of key me_then) told → (time : ℕ) →
      going_of (holding_of key me_then) ≡ ended (untold (going_of (holding_of key me))) time told →
      HolderStands desk views_then time
  holder_stands e asked told table table_then same views_then me_then out rests answer time g = record {
    stands = subst (λ (b : Bool). PartyStands b desk views_then) e
        (stands_after asked told table table_then same views_then me_then out rests answer);
    asked = sym (ap (λ (h : Holding). (going_of h).now.time)
        (badge_holds key desk views_then me_then out (holding_of key me_then)
        (out ∙ ap (λ (m : M). m.0 ∷ []) rests.one)).1 ∙ ap (λ (x : Going). x.now.time) g);
  }

-- ---- at the table of the caller

module _ (desk : Desk) (table_id : TableId) (views : List View) (p : PartyValue)
    (party_is : party_value desk table_id views ≡ p) (t : TableValue) (inside : table.Inside)
    (table_is : table_value inside ≡ t) (stands : TableStands inside) (of : IsPartyOf t p) where
  table_plan : plain inside.board.shared.key ≡ t.plan
  table_plan = ap (λ (v : TableValue). v.plan) table_is

  pub plan_by : (holding_in desk views).plan ≡ plain inside.board.shared.key
  plan_by = ap (λ (v : PartyValue). v.holding.plan) party_is ∙ of.plan ∙ sym table_plan

  pub table_by : table_id ≡ inside.board.shared.table_id
  table_by = ap (λ (v : PartyValue). v.table_id) party_is ∙ of.table ∙ sym (ap (λ (v : TableValue). v.table_id)
      table_is)

-- its plan is that of the table's words
pub plan_at : (desk : Desk) (table_id : TableId) (views : List View) (p : PartyValue) →
    party_value desk table_id views ≡ p → {inside : table.Inside} → (t : TableValue) → table_value inside ≡ t →
    TableStands inside →
    IsPartyOf t p → (holding_in desk views).plan ≡ plain inside.board.shared.key
plan_at desk table_id views p e {inside} t f stands of = plan_by desk table_id views p e t inside f stands of

pub table_at : (desk : Desk) (table_id : TableId) (views : List View) (p : PartyValue) →
    party_value desk table_id views ≡ p → {inside : table.Inside} → (t : TableValue) → table_value inside ≡ t →
    TableStands inside → IsPartyOf t p → table_id ≡ inside.board.shared.table_id
table_at desk table_id views p e {inside} t f stands of = table_by desk table_id views p e t inside f stands of

-- there are as many words as the plan says
pub size_at : {inside : table.Inside} → TableStands inside →
    inside.board.shared.table_id.words ≡ word_count (plain inside.board.shared.key)
size_at stands = stands.words ∙ ap (λ (o : Opening). word_count (plain o)) (sym stands.key)
