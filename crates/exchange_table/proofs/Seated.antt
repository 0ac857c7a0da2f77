-- New seats and new readers, and what their badges have.
use Rattle.std.proofs.Common.{◌≡◌, ℕ, zero, suc, ◌+◌, ◌-◌, ◌<◌, Bool, true, false, List, [], ◌∷◌, ◌++◌, refl, sym, ap, ◌∙◌, subst, arith}
use Rattle.exchange_model.specs.Plans.{IsPlan, Plan, holders_of}
use Rattle.exchange_model.specs.Steps.{SeatNow}
use Rattle.exchange_model.specs.Worlds.{opening_seat, ByReader, IsRun}
use Rattle.exchange_laws.proofs.OwnedRuns.{seat_is}
use Rattle.exchange_calls.specs.Going.{Going}
use Rattle.exchange_calls.specs.Desks.{IsOf}
use Rattle.exchange_calls.specs.Seats.{IsSeatOf}
use Rattle.exchange_calls.specs.declared.seat_state.SeatState.{SeatState}
use Rattle.exchange_calls.specs.declared.desk.Desk.{Desk}
use Rattle.exchange_opening.specs.Openings.{plan_of}
use Rattle.exchange_table.specs.declared.rule.Opening.{Opening}
use Rattle.exchange_table.specs.declared.view.View.{View}
use Rattle.exchange_table.specs.Parties.{Holding, clean, IsParty, PartyValue, going_of, has_hold}
use Rattle.exchange_table.specs.Rule.{Entered, M, alone, first_or, foremost, fresh, fresh_from, lone, others, plain, whole}
use Rattle.exchange_table.specs.Calls.{IsIdle}
use Rattle.exchange_table.specs.Values.{HolderStands, PartyStands, SeatStands, TableValue, holding_in, new_seat}
use Rattle.exchange_table.specs.Tables.{new_seats, plan_at}
use Rattle.exchange_table.proofs.AtDesk.{desk_still}

-- ---- a badge of one party that rests

pub stands_by : (kind : Bool) (desk : Desk) (views : List View) (h : Holding) → views ≡ lone h ∷ [] →
    IsRun h.plan h.known → IsParty h.plan h.who → IsIdle h → IsOf (going_of h) desk → has_hold h.who ≡ kind →
    PartyStands kind desk views
stands_by kind desk views h is run inside idle at_desk kind_is =
    let same : holding_in desk views ≡ h = ap (holding_in desk) is in
    record {
      one = is ∙ ap (λ (k : Holding). lone k ∷ []) (sym same);
      run = subst (λ (k : Holding). IsRun k.plan k.known) (sym same) run;
      inside = subst (λ (k : Holding). IsParty k.plan k.who) (sym same) inside;
      idle = subst IsIdle (sym same) idle;
      at_desk = subst (λ (k : Holding). IsOf (going_of k) desk) (sym same) at_desk;
      kind = ap (λ (k : Holding). has_hold k.who) same ∙ kind_is;
    }

-- the desk of one who can hold is that of it at its table
desk_of : (desk : Desk) → IsPlan (plan_at desk) → IsOf (going_of (fresh (plan_at desk) desk.holder)) desk
desk_of desk is_plan = record {
  seats = refl;
  readers = refl;
  items = refl;
  depth = refl;
  spare = refl;
  row_bits = refl;
  hashing = refl;
  seat = refl;
  rows = is_plan.rows;
}

-- who can hold and has made no call
holder_party : (desk : Desk) (views : List View) (me : M) → views ≡ me.0 ∷ [] →
    me ≡ alone (fresh (plan_at desk) desk.holder) → IsPlan (plan_at desk) → PartyStands true desk views
holder_party desk views me into is is_plan =
    let h = fresh (plan_at desk) desk.holder in
    stands_by true desk views h (into ∙ ap (λ (m : M). m.0 ∷ []) is) (record { opened = is_plan; follow = tt })
    desk.within (ap (λ (s : SeatNow). s.stand) (seat_is (plan_at desk) is_plan desk.holder desk.within))
    (desk_of desk is_plan) refl

pub seat_stands : (desk : Desk) (views : List View) (me : M) (state : SeatState) → views ≡ me.0 ∷ [] →
    me ≡ alone (fresh (plan_at desk) desk.holder) → IsPlan (plan_at desk) → desk.holder < desk.sizes.seats →
    ((g : Going) → IsOf g desk → g.now ≡ opening_seat g.plan g.seat → IsSeatOf g state) → SeatStands desk views state
seat_stands desk views me state into is is_plan less keeps =
    let h = fresh (plan_at desk) desk.holder in
    let there = seat_is (plan_at desk) is_plan desk.holder desk.within in
    record {
      stands = holder_party desk views me into is is_plan;
      seat = less;
      keeps = subst (λ (k : Holding). IsSeatOf (going_of k) state)
          (sym (ap (holding_in desk) (into ∙ ap (λ (m : M). m.0 ∷ []) is)))
          (keeps (going_of h) (desk_of desk is_plan) (ap clean there));
    }

pub reader_holds : (desk : Desk) (views : List View) (me : M) → views ≡ me.0 ∷ [] →
    me ≡ alone (fresh (plan_at desk) desk.holder) → IsPlan (plan_at desk) → HolderStands desk views 0
reader_holds desk views me into is is_plan = record {
  stands = holder_party desk views me into is is_plan;
  asked = sym (ap (λ (k : Holding). (going_of k).now.time)
      (ap (holding_in desk) (into ∙ ap (λ (m : M). m.0 ∷ []) is))
      ∙ ap (λ (s : SeatNow). s.time) (seat_is (plan_at desk) is_plan desk.holder desk.within));
}

pub seat_holding : (plan : Plan) (desk : Desk) (views : List View) (me : M) (number : ℕ) → views ≡ me.0 ∷ [] →
    me ≡ alone (fresh plan number) → holding_in desk views ≡ fresh plan number
seat_holding plan desk views me number into is =
    ap (holding_in desk) (into ∙ ap (λ (m : M). m.0 ∷ []) is)

-- the plan at a desk is that of its table
pub plan_same : (desk : Desk) (o : Opening) → desk.sizes ≡ o.sizes → desk.rules.hashing ≡ o.hashing →
    plan_at desk ≡ plain o
plan_same desk o sizes hashing i = plan_of (sizes i) (hashing i)

pub fresh_same : (desk : Desk) (o : Opening) (number : ℕ) → desk.sizes ≡ o.sizes → desk.rules.hashing ≡ o.hashing →
    desk.holder ≡ number → fresh (plan_at desk) desk.holder ≡ fresh (plain o) number
fresh_same desk o number sizes hashing holder i = fresh (plan_same desk o sizes hashing i) (holder i)

-- a new reader that cannot hold
module _ (plan : Plan) (is_plan : IsPlan plan) (desk : Desk) (views : List View) (me : M) (into : views ≡ me.0 ∷ [])
    (entered : Entered (whole plan, []) me) where
  abbrev new : Holding
  new = record { plan = entered.plan; who = ByReader entered.reader; known = entered.known }

  views_are : views ≡ lone new ∷ []
  views_are = into ∙ ap (λ (m : M). m.0 ∷ []) entered.is

  some_holder : (n : ℕ) → 0 < n → (first_or (fresh plan 0) (fresh_from plan 0 n)).plan ≡ plan
  some_holder zero less = absurd (omega (arith, less))
  some_holder (suc n) less = refl

  plan_is : entered.plan ≡ plan
  plan_is = entered.opened (fresh plan 0)
      ∙ some_holder (holders_of plan.settings) (omega (arith, is_plan.some_seat))

  pub reader_plan : (holding_in desk views).plan ≡ plan
  reader_plan = ap (λ (vs : List View). (holding_in desk vs).plan) views_are ∙ plan_is

  pub reader_stands : plan_at desk ≡ plan → desk.holder ≡ 0 → PartyStands false desk views
  reader_stands same holder =
      let at_desk : IsPlan (plan_at desk) = subst IsPlan (sym same) is_plan in
      stands_by false desk views new views_are entered.run tt entered.rests
      (desk_still (going_of (fresh (plan_at desk) desk.holder)) (going_of new) desk (plan_is ∙ sym same) (sym holder)
      (desk_of desk at_desk)) refl

-- ---- one after the other

-- a seat is one of those who can hold, and so is a reader that can
pub inside : (k seats readers : ℕ) → k < seats → k < seats + readers
inside k seats readers less = omega (arith, less)

pub inside_readers : (k seats readers : ℕ) → k < readers → seats + k < seats + readers
inside_readers k seats readers less = omega (arith, less)

deal_one : (plan : Plan) (k n : ℕ) → k < n →
    fresh_from plan k (n - k) ≡ fresh plan k ∷ fresh_from plan (k + 1) (n - (k + 1))
deal_one plan k n h =
    let more : n - k ≡ suc (n - (k + 1)) = omega (arith, h) in
    let next : suc k ≡ k + 1 = omega arith in
    ap (fresh_from plan k) more ∙ ap (λ (j : ℕ). fresh plan k ∷ fresh_from plan j (n - (k + 1))) next

pub splits_from : (plan : Plan) (k n : ℕ) → k < n → fresh_from plan k (n - k) ≡ fresh_from plan k (suc (n - (k + 1)))
splits_from plan k n h = ap (fresh_from plan k) (let more : n - k ≡ suc (n - (k + 1)) = omega (arith, h) in more)

pub dealt : (plan : Plan) (me left right : M) (k n : ℕ) → k < n →
    me ≡ (record { bundle = fresh_from plan k (n - k) }, []) → left ≡ (others me.0, me.1) →
    right ≡ (foremost me.0, []) →
    (left ≡ (record { bundle = fresh_from plan (k + 1) (n - (k + 1)) }, [])) × (right ≡ alone (fresh plan k))
dealt plan me left right k n h is l r =
    let at : me ≡ (record { bundle = fresh plan k ∷ fresh_from plan (k + 1) (n - (k + 1)) }, []) =
    is ∙ ap (λ (b : List Holding). (record { bundle = b }, [])) (deal_one plan k n h) in
    let f : M → M = λ m. (others m.0, m.1) in
    let g : M → M = λ m. (foremost m.0, []) in
    (l ∙ ap f at, r ∙ ap g at)

-- the same behind so many seats
pub dealt_readers : (plan : Plan) (me left right : M) (seats k n : ℕ) → seats + k < n →
    me ≡ (record { bundle = fresh_from plan (seats + k) (n - (seats + k)) }, []) → left ≡ (others me.0, me.1) →
    right ≡ (foremost me.0, []) →
    (left ≡ (record { bundle = fresh_from plan (seats + (k + 1)) (n - (seats + (k + 1))) }, []))
    × (right ≡ alone (fresh plan (seats + k)))
dealt_readers plan me left right seats k n h is l r =
    let d = dealt plan me left right (seats + k) n h is l r in
    let same : seats + k + 1 ≡ seats + (k + 1) = omega arith in
    (subst (λ (j : ℕ). left ≡ (record { bundle = fresh_from plan j (n - j) }, [])) same d.0, d.1)

snoc_seats : (t : TableValue) (k n : ℕ) → new_seats t k (suc n) ≡ new_seats t k n ++ new_seat t (k + n) ∷ []
snoc_seats t k zero = ap (λ (j : ℕ). new_seat t j ∷ []) (let same : k ≡ k + 0 = omega arith in same)
snoc_seats t k (suc n) = ap (λ (ps : List PartyValue). new_seat t k ∷ ps) (snoc_seats t (suc k) n
    ∙ ap (λ (j : ℕ). new_seats t (suc k) n ++ new_seat t j ∷ []) (let same : suc k + n ≡ k + suc n = omega arith in
    same))

pub one_more : (t : TableValue) (first : ℕ) (out out_then : List PartyValue) (x : PartyValue) (k number : ℕ) →
    number ≡ first + k → x.table_id ≡ t.table_id → x.holding ≡ fresh t.plan number → out ≡ new_seats t first k →
    out_then ≡ out ++ x ∷ [] → out_then ≡ new_seats t first (k + 1)
one_more t first out out_then x k number at table is e f =
    let same : x ≡ new_seat t (first + k) =
    λ i. record { table_id = table i; holding = (is ∙ ap (fresh t.plan) at) i } in
    let next : suc k ≡ k + 1 = omega arith in
    f ∙ (λ i. e i ++ same i ∷ []) ∙ sym (snoc_seats t first k) ∙ ap (new_seats t first) next
