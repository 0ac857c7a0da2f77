-- New seats and new readers, and what their badges have.
use Rattle.std.proofs.Common.{◌≡◌, ℕ, zero, suc, ◌+◌, ◌-◌, ◌*◌, ◌<◌, Bool, true, false, List, [], ◌∷◌, ◌++◌, refl, sym, ap, ◌∙◌, subst, arith}
use Rattle.step_counts.specs.declared.settings.Settings.{Settings}
use Rattle.lasting_model.specs.Plans.{IsPlan, Plan}
use Rattle.lasting_model.specs.Words.{most_words}
use Rattle.lasting_model.specs.Steps.{SeatNow}
use Rattle.lasting_model.specs.Worlds.{opening_seat, ByReader, IsRun}
use Rattle.lasting_laws.proofs.PoolEvents.{settings_are}
use Rattle.lasting_laws.proofs.Sweeping.{seats_are}
use Rattle.lasting_laws.proofs.PoolsOpen.{seat_is}
use Rattle.lasting_calls.specs.Going.{Going}
use Rattle.lasting_calls.specs.Desks.{IsOf}
use Rattle.lasting_calls.specs.Seats.{IsSeatOf}
use Rattle.lasting_calls.specs.declared.seat_state.SeatState.{SeatState}
use Rattle.lasting_calls.specs.declared.desk.Desk.{Desk}
use Rattle.lasting_table.specs.declared.rule.Opening.{Opening}
use Rattle.lasting_table.specs.declared.view.View.{View}
use Rattle.lasting_table.specs.Parties.{Holding, clean, IsParty, PartyValue, going_of, has_hold}
use Rattle.lasting_table.specs.Rule.{Entered, M, alone, first_or, foremost, fresh, fresh_from, lone, others, plain, whole}
use Rattle.lasting_table.specs.Calls.{IsIdle}
use Rattle.lasting_table.specs.Values.{PartyStands, SeatStands, TableValue, holding_in, new_seat}
use Rattle.lasting_table.specs.Tables.{new_seats, plan_at}

-- a row has so many words
pub most_is : (plan : Plan) → 2 + 2 * plan.settings.seats + 7 * plan.settings.items ≡ most_words plan
most_is plan =
    let items = ap (λ (s : Settings). s.items) (settings_are plan) in
    omega (arith, seats_are plan, items)

-- ---- a badge of one party that rests

pub stands_by : (kind : Bool) (desk : Desk) (views : List View) (h : Holding) → views ≡ lone h ∷ [] →
    IsRun h.plan h.known → IsParty h.plan h.who → IsIdle h → IsOf (going_of h) desk → has_hold h.who ≡ kind →
    PartyStands kind desk views
stands_by kind desk views h is run inside idle at_desk kind_is =
    let same : holding_in desk views ≡ h = ap (holding_in desk) is in
    record {
      one = is ∙ ap (λ (k : Holding). lone k ∷ []) (sym same);
      run = subst (λ (k : Holding). IsRun k.plan k.known) (sym same) run;
      inside = subst (λ (k : Holding). IsParty k.plan k.who) (sym same) inside;
      idle = subst IsIdle (sym same) idle;
      at_desk = subst (λ (k : Holding). IsOf (going_of k) desk) (sym same) at_desk;
      kind = ap (λ (k : Holding). has_hold k.who) same ∙ kind_is;
    }

-- a seat that has made no call
pub seat_stands : (desk : Desk) (views : List View) (me : M) (state : SeatState) → views ≡ me.0 ∷ [] →
    me ≡ alone (fresh (plan_at desk) desk.seat) → IsPlan (plan_at desk) → desk.seat < desk.settings.seats →
    ((g : Going) → IsOf g desk → g.now ≡ opening_seat g.plan g.seat → IsSeatOf g state) → SeatStands desk views state
seat_stands desk views me state into is is_plan less keeps =
    let plan = plan_at desk in
    let h = fresh plan desk.seat in
    let at : IsOf (going_of h) desk = record { settings = refl; hashing = refl; rows = refl; seat = refl } in
    let there = seat_is plan is_plan desk.seat less in
    let views_are : views ≡ lone h ∷ [] = into ∙ ap (λ (m : M). m.0 ∷ []) is in
    record {
      stands = stands_by true desk views h views_are (record { opened = is_plan; follow = tt }) less
          (ap (λ (s : SeatNow). s.stand) there) at refl;
      keeps = subst (λ (k : Holding). IsSeatOf (going_of k) state) (sym (ap (holding_in desk) views_are))
          (keeps (going_of h) at (ap clean there));
    }

pub seat_holding : (plan : Plan) (desk : Desk) (views : List View) (me : M) (number : ℕ) → views ≡ me.0 ∷ [] →
    me ≡ alone (fresh plan number) → holding_in desk views ≡ fresh plan number
seat_holding plan desk views me number into is =
    ap (holding_in desk) (into ∙ ap (λ (m : M). m.0 ∷ []) is)

-- the plan at a desk is that of its table
pub plan_same : (desk : Desk) (o : Opening) → desk.settings ≡ o.settings → desk.rules.hashing ≡ o.hashing →
    desk.rows ≡ o.rows → plan_at desk ≡ plain o
plan_same desk o settings hashing rows i =
    record { settings = settings i; hashing = hashing i; first = []; rows = rows i }

pub fresh_same : (desk : Desk) (o : Opening) (number : ℕ) → desk.settings ≡ o.settings →
    desk.rules.hashing ≡ o.hashing → desk.rows ≡ o.rows → desk.seat ≡ number →
    fresh (plan_at desk) desk.seat ≡ fresh (plain o) number
fresh_same desk o number settings hashing rows seat i =
    fresh (plan_same desk o settings hashing rows i) (seat i)

-- a new reader
module _ (plan : Plan) (desk : Desk) (views : List View) (me : M) (into : views ≡ me.0 ∷ [])
    (entered : Entered (whole plan, []) me) where
  abbrev new : Holding
  new = record { plan = entered.plan; who = ByReader entered.reader; known = entered.known }

  views_are : views ≡ lone new ∷ []
  views_are = into ∙ ap (λ (m : M). m.0 ∷ []) entered.is

  some_seat : (n : ℕ) → 0 < n → (first_or (fresh plan 0) (fresh_from plan 0 n)).plan ≡ plan
  some_seat zero less = absurd (omega (arith, less))
  some_seat (suc n) less = refl

  plan_is : entered.plan ≡ plan
  plan_is = entered.opened (fresh plan 0)
      ∙ some_seat plan.settings.seats (omega (arith, plan.settings.seats_in_range.0))

  pub reader_plan : (holding_in desk views).plan ≡ plan
  reader_plan = ap (λ (vs : List View). (holding_in desk vs).plan) views_are ∙ plan_is

  pub reader_stands : desk.settings ≡ plan.settings → desk.rules.hashing ≡ plan.hashing → desk.rows ≡ plan.rows →
      desk.seat ≡ 0 → PartyStands false desk views
  reader_stands settings hashing rows seat =
      stands_by false desk views new views_are entered.run tt entered.rests
      (record {
        settings = ap (λ (p : Plan). p.settings) plan_is ∙ sym settings;
        hashing = ap (λ (p : Plan). p.hashing) plan_is ∙ sym hashing;
        rows = ap (λ (p : Plan). p.rows) plan_is ∙ sym rows;
        seat = sym seat;
      }) refl

-- ---- seats one after the other

deal_one : (plan : Plan) (k n : ℕ) → k < n →
    fresh_from plan k (n - k) ≡ fresh plan k ∷ fresh_from plan (k + 1) (n - (k + 1))
deal_one plan k n h =
    let more : n - k ≡ suc (n - (k + 1)) = omega (arith, h) in
    let next : suc k ≡ k + 1 = omega arith in
    ap (fresh_from plan k) more ∙ ap (λ (j : ℕ). fresh plan k ∷ fresh_from plan j (n - (k + 1))) next

pub splits_from : (plan : Plan) (k n : ℕ) → k < n → fresh_from plan k (n - k) ≡ fresh_from plan k (suc (n - (k + 1)))
splits_from plan k n h = ap (fresh_from plan k) (let more : n - k ≡ suc (n - (k + 1)) = omega (arith, h) in more)

pub dealt : (plan : Plan) (me left right : M) (k n : ℕ) → k < n →
    me ≡ (record { bundle = fresh_from plan k (n - k) }, []) → left ≡ (others me.0, me.1) →
    right ≡ (foremost me.0, []) →
    (left ≡ (record { bundle = fresh_from plan (k + 1) (n - (k + 1)) }, [])) × (right ≡ alone (fresh plan k))
dealt plan me left right k n h is l r =
    let at : me ≡ (record { bundle = fresh plan k ∷ fresh_from plan (k + 1) (n - (k + 1)) }, []) =
    is ∙ ap (λ (b : List Holding). (record { bundle = b }, [])) (deal_one plan k n h) in
    let f : M → M = λ m. (others m.0, m.1) in
    let g : M → M = λ m. (foremost m.0, []) in
    (l ∙ ap f at, r ∙ ap g at)

snoc_seats : (t : TableValue) (k n : ℕ) → new_seats t k (suc n) ≡ new_seats t k n ++ new_seat t (k + n) ∷ []
snoc_seats t k zero = ap (λ (j : ℕ). new_seat t j ∷ []) (let same : k ≡ k + 0 = omega arith in same)
snoc_seats t k (suc n) = ap (λ (ps : List PartyValue). new_seat t k ∷ ps) (snoc_seats t (suc k) n
    ∙ ap (λ (j : ℕ). new_seats t (suc k) n ++ new_seat t j ∷ []) (let same : suc k + n ≡ k + suc n = omega arith in
    same))

pub one_more : (t : TableValue) (out out_then : List PartyValue) (x : PartyValue) (k : ℕ) →
    x.table_id ≡ t.table_id → x.holding ≡ fresh t.plan k → out ≡ new_seats t 0 k → out_then ≡ out ++ x ∷ [] →
    out_then ≡ new_seats t 0 (k + 1)
one_more t out out_then x k table is e f =
    let same : x ≡ new_seat t k = λ i. record { table_id = table i; holding = is i } in
    let zero_is : 0 + k ≡ k = omega arith in
    let next : suc k ≡ k + 1 = omega arith in
    f ∙ (λ i. e i ++ same i ∷ []) ∙ sym (snoc_seats t 0 k
    ∙ ap (λ (j : ℕ). new_seats t 0 k ++ new_seat t j ∷ []) zero_is) ∙ ap (new_seats t 0) next
