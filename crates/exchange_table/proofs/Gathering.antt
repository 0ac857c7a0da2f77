-- Seats that come to know one run: what their badges have then, and what that says of their values.
use Rattle.std.proofs.Common.{◌≡◌, inl, inr, ℕ, suc, ◌+◌, ◌<◌, ◌≤◌, true, List, [], ◌∷◌, length, refl, sym, ap, ◌∙◌, subst, arith}
use Rattle.std.specs.Prelude.{All, map}
use Rattle.std.proofs.lemmas.Bool.{cases_eq}
use Rattle.std.proofs.lemmas.List.Elements.{All-cons, All-head, All-nil, All-tail}
use Rattle.atomic_table.specs.Seated.{TableId}
use Rattle.atomic_table.specs.Table.{Joins, Splits}
use Rattle.exchange_model.specs.Plans.{Plan}
use Rattle.exchange_model.specs.Steps.{Idle, SeatNow}
use Rattle.exchange_model.specs.Worlds.{Asker, BySeat, ByReader, Event, IsRun, seat_in, world_after}
use Rattle.exchange_calls.specs.Going.{Going}
use Rattle.exchange_calls.specs.Seats.{IsSeatOf}
use Rattle.exchange_calls.specs.declared.seat_state.SeatState.{SeatState}
use Rattle.exchange_calls.specs.declared.desk.Desk.{Desk}
use Rattle.exchange_table.specs.declared.view.View.{View}
use Rattle.exchange_table.specs.Parties.{Holding, PartyValue, clean, going_of, has_hold, party, seat_no}
use Rattle.exchange_table.specs.Rule.{Each, Holds, M, foremost, lone, others}
use Rattle.exchange_table.specs.Calls.{IsIdle, untold}
use Rattle.exchange_table.specs.Joins.{ComesTo, joined, knowing, spent}
use Rattle.exchange_table.specs.Values.{PartyStands, SeatStands, TableValue, holding_in, party_value}
use Rattle.exchange_table.specs.Meetings.{AreSeatsFrom, AreSeatsOf, HaveGathered, HaveJoined, HaveMet, informed}
use Rattle.exchange_table.proofs.AtDesk.{desk_still}
use Rattle.exchange_table.proofs.Ends.{told_again, told_nothing}
use Rattle.exchange_table.proofs.Joining.{bool_code, joins}
use Rattle.exchange_table.proofs.Opens.{splits}
use Rattle.exchange_table.proofs.Seated.{stands_by}

-- who has a hold word is a seat
seat_of_hold : (who : Asker) → has_hold who ≡ true → who ≡ BySeat (seat_no who)
seat_of_hold (BySeat q) e = refl
seat_of_hold (ByReader r) e = absurd (omega (arith, ap bool_code e))

-- the first of the views, or this one
abbrev first_view : View → List View → View
first_view d [] = d
first_view d (v ∷ vs) = v

-- what a seat that stood between two calls has, once it knows more
module _ (desk : Desk) (views : List View) (stands : PartyStands true desk views)
    (known : List Event) (comes : ComesTo known (holding_in desk views)) (views_then : List View)
    (is : views_then ≡ lone (knowing known (holding_in desk views)) ∷ []) where
  abbrev h : Holding
  h = holding_in desk views

  -- it stands as before
  same_going : untold (going_of h) ≡ untold (going_of (knowing known h))
  same_going i = record (untold (going_of h)) { now = clean (sym comes.state i) }

  keeps_then : (state : SeatState) → IsSeatOf (going_of h) state → IsSeatOf (going_of (knowing known h)) state
  keeps_then state k = told_again (going_of (knowing known h)) state
      (subst (λ (g : Going). IsSeatOf g state) same_going (told_nothing (going_of h) state k))

  holding_then : holding_in desk views_then ≡ knowing known h
  holding_then = ap (holding_in desk) is

  pub stands_then : desk.holder < desk.sizes.seats → (state : SeatState) → IsSeatOf (going_of h) state →
      SeatStands desk views_then state
  stands_then less state k = record {
    seat = less;
    stands = stands_by true desk views_then (knowing known h) is comes.run stands.inside
        (ap (λ (now : SeatNow). now.stand) comes.state ∙ stands.idle)
        (desk_still (going_of h) (going_of (knowing known h)) desk refl refl stands.at_desk) stands.kind;
    keeps = subst (λ (o : Holding). IsSeatOf (going_of o) state) (sym holding_then) (keeps_then state k);
  }

  -- its value is the old one with what it knows
  value_then : (table table_then : TableId) → table_then ≡ table → (p : PartyValue) → party_value desk table views ≡ p →
      party_value desk table_then views_then ≡ informed known p
  value_then table table_then same p view_is =
      (λ i. record { table_id = same i; holding = holding_then i }) ∙ ap (informed known) view_is

-- a seat that comes to a token, with others behind it
module _ (desk : Desk) (views : List View) (stands : PartyStands true desk views) (w : M)
    (into : views ≡ w.0 ∷ []) where
  abbrev mine : Holding
  mine = holding_in desk views

  is_lone : w.0 ≡ lone mine
  is_lone = ap (first_view w.0) (sym into ∙ stands.one)

  pub joins_here : (plan : Plan) (id other : ℕ) (v : View) →
      Joins (Holds plan) id v other w.0 (joined v w.0) spent
  joins_here plan id other v = subst (λ (u : View). Joins (Holds plan) id v other u (joined v u) spent) (sym is_lone)
      (joins plan id other v mine stands.kind)

  module _ (m joint then : M) (join : joint ≡ (joined m.0 w.0, m.1)) (rest rest_then : List PartyValue)
      (all : HaveJoined joint then rest rest_then) where
    abbrev known : List Event
    known = all.meet.known

    joint_is : joint ≡ (record { bundle = mine ∷ m.0.bundle }, m.1)
    joint_is = join ∙ ap (λ (u : View). (joined m.0 u, m.1)) is_lone

    each_here : Each (ComesTo known) (mine ∷ m.0.bundle)
    each_here = subst (λ (j : M). Each (ComesTo known) j.0.bundle) joint_is all.meet.each

    then_is : then ≡ (record { bundle = knowing known mine ∷ map (knowing known) m.0.bundle }, m.1)
    then_is = all.meet.is ∙ ap (λ (j : M). (record { bundle = map (knowing known) j.0.bundle }, j.1)) joint_is

    pub splits_here : (plan : Plan) (id : ℕ) → Splits (Holds plan) id then.0 (others then.0) (foremost then.0)
    splits_here plan id =
        subst (λ (t : M). Splits (Holds plan) id t.0 (others t.0) (foremost t.0)) (sym then_is)
        (splits plan id (knowing known mine) (seat_no mine.who) (map (knowing known) m.0.bundle)
        (seat_of_hold mine.who stands.kind))

    -- it is cut off again
    module _ (left right : M) (l : left ≡ (others then.0, then.1)) (r : right ≡ (foremost then.0, []))
        (views_then : List View) (out : views_then ≡ right.0 ∷ []) where
      views_is : views_then ≡ lone (knowing known mine) ∷ []
      views_is = out ∙ ap (λ (t : M). t.0 ∷ []) r ∙ ap (λ (t : M). foremost t.0 ∷ []) then_is

      pub stands_joined : desk.holder < desk.sizes.seats → (state : SeatState) →
          IsSeatOf (going_of mine) state → SeatStands desk views_then state
      stands_joined = stands_then desk views stands known each_here.0 views_then views_is

      pub have_joined : (table table_then : TableId) → table_then ≡ table → (p : PartyValue) →
          party_value desk table views ≡ p →
          HaveJoined m left (p ∷ rest) (party_value desk table_then views_then ∷ rest_then)
      have_joined table table_then same p view_is = record {
        meet = record {
          known = known;
          each = each_here.1;
          is = l ∙ ap (λ (t : M). (others t.0, t.1)) then_is;
        };
        each = All-cons (λ (q : PartyValue). ComesTo known q.holding) p rest
            (subst (λ (q : PartyValue). ComesTo known q.holding) view_is each_here.0) all.each;
        rest = All-cons (λ (q : PartyValue). IsIdle q.holding) p rest
            (subst (λ (q : PartyValue). IsIdle q.holding) view_is stands.idle) all.rest;
        are = λ i. value_then desk views stands known each_here.0 views_then views_is table table_then same p view_is i
            ∷ all.are i;
      }

  -- the seat whose token is the first
  module _ (then : M) (rest rest_then : List PartyValue) (all : HaveJoined w then rest rest_then)
      (views_then : List View) (out : views_then ≡ then.0 ∷ []) where
    abbrev all_known : List Event
    all_known = all.meet.known

    each_first : Each (ComesTo all_known) (mine ∷ [])
    each_first = subst (λ (u : View). Each (ComesTo all_known) u.bundle) is_lone all.meet.each

    first_is : views_then ≡ lone (knowing all_known mine) ∷ []
    first_is = out ∙ ap (λ (t : M). t.0 ∷ []) all.meet.is
        ∙ ap (λ (u : View). record { bundle = map (knowing all_known) u.bundle } ∷ []) is_lone

    pub stands_gathered : desk.holder < desk.sizes.seats → (state : SeatState) →
        IsSeatOf (going_of mine) state → SeatStands desk views_then state
    stands_gathered = stands_then desk views stands all_known each_first.0 views_then first_is

    pub have_gathered : (table table_then : TableId) → table_then ≡ table → (p : PartyValue) →
        party_value desk table views ≡ p →
        HaveGathered (p ∷ rest) (party_value desk table_then views_then ∷ rest_then)
    have_gathered table table_then same p view_is = record {
      known = all_known;
      each = All-cons (λ (q : PartyValue). ComesTo all_known q.holding) p rest
          (subst (λ (q : PartyValue). ComesTo all_known q.holding) view_is each_first.0) all.each;
      rest = All-cons (λ (q : PartyValue). IsIdle q.holding) p rest
          (subst (λ (q : PartyValue). IsIdle q.holding) view_is stands.idle) all.rest;
      are = λ i. value_then desk views stands all_known each_first.0 views_then first_is table table_then same p view_is
          i
          ∷ all.are i;
    }

-- ---- all seats of a table

-- those from one on are idle after what they have come to know
idle_from : (t : TableValue) (known : List Event) (k : ℕ) (ps : List PartyValue) → AreSeatsFrom t k ps →
    All (λ (p : PartyValue). ComesTo known p.holding) ps → All (λ (p : PartyValue). IsIdle p.holding) ps →
    (seat : ℕ) → k ≤ seat → seat < k + length ps → (seat_in (world_after t.plan known) seat).stand ≡ Idle
idle_from t known k [] are comes rest seat least less = absurd (omega (arith, least, less))
idle_from t known k (p ∷ ps) are comes rest seat least less = elim (cases_eq seat k) [
  | inl same ↦
      let idle : (party (world_after p.holding.plan known) p.holding.who).stand ≡ Idle =
      ap (λ (now : SeatNow). now.stand) (All-head (λ (q : PartyValue). ComesTo known q.holding) p ps comes).state
      ∙ All-head (λ (q : PartyValue). IsIdle q.holding) p ps rest in
      subst (λ (z : Plan × Asker). (party (world_after (z.0) known) (z.1)).stand ≡ Idle)
      (λ i. (are.0.plan i, (are.1 ∙ ap BySeat (sym same)) i)) idle
  | inr other ↦ idle_from t known (suc k) ps are.2 (All-tail (λ (q : PartyValue). ComesTo known q.holding) p ps comes)
      (All-tail (λ (q : PartyValue). IsIdle q.holding) p ps rest) seat (omega (arith, least, other))
      (omega (arith, less))
]

pub have_met : (t : TableValue) (p : PartyValue) (rest now : List PartyValue) (was : List PartyValue) →
    was ≡ p ∷ rest → AreSeatsOf t was → HaveGathered (p ∷ rest) now → HaveMet t was now
have_met t p rest now was is are all =
    subst (λ (ps : List PartyValue). HaveMet t ps now) (sym is) (record {
      known = all.known;
      run = subst (λ (k : Plan). IsRun k all.known) here.each.0.plan
          (All-head (λ (q : PartyValue). ComesTo all.known q.holding) p rest all.each).run;
      each = all.each;
      are = all.are;
      idle = λ seat less.
          idle_from t all.known 0 (p ∷ rest) here.each all.each all.rest seat (omega arith)
          (let count = here.count in omega (arith, less, count));
    })
  where
    here : AreSeatsOf t (p ∷ rest)
    here = subst (AreSeatsOf t) is are

-- each is at the table
pub at_table : (t : TableValue) (k : ℕ) (ps : List PartyValue) → AreSeatsFrom t k ps →
    All (λ (p : PartyValue). p.table_id ≡ t.table_id) ps
at_table t k [] are = All-nil (λ (p : PartyValue). p.table_id ≡ t.table_id)
at_table t k (p ∷ ps) are =
    All-cons (λ (q : PartyValue). q.table_id ≡ t.table_id) p ps are.0.table (at_table t (suc k) ps are.2)
