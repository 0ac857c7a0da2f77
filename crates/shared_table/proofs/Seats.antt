-- A seat after a call: what its badge holds then, and what that says of its value.
use Rattle.std.proofs.Common.{refl, Some, ◌≡◌, ℕ, ◌+◌, List, [], ◌∷◌, ◌++◌, length, sym, ap, ◌∙◌, subst}
use Rattle.std.specs.Prelude.{All}
use Rattle.std.proofs.lemmas.List.{length_push}
use Rattle.std.proofs.lemmas.List.Elements.{All-pop}
use Rattle.atomic_table.specs.Seated.{TableId}
use Rattle.step_counts.specs.declared.rows.SeatRows.{SeatRows}
use Rattle.plain_map.specs.declared.calls.Call.{Call}
use Rattle.plain_map.specs.declared.records.Record.{Record}
use Rattle.plain_map.specs.Room.{published}
use Rattle.table_model.specs.SeatStates.{SeatState}
use Rattle.table_model.specs.Worlds.{world_after, seat_in}
use Rattle.table_model.specs.Promises.{HasSteps, IsAnsweredBy, words_in}
use Rattle.table_model.specs.Shown.{Holding}
use Rattle.bound_laws.proofs.Ends.{steps_are_bounded}
use Rattle.order_laws.proofs.Answered.{replies_are_of_rows}
use Rattle.step_counts.specs.StepCounts.{need_of}
use Rattle.word_rows.specs.Shape.{sizes_of}
use Rattle.table_model.specs.Setup.{Setup, settings_of}
use Rattle.seat_calls.specs.declared.desk.Desk.{Desk}
use Rattle.seat_calls.specs.declared.room.Room.{Room}
use Rattle.seat_calls.specs.Desks.{settings_at}
use Rattle.seat_calls.specs.Rooms.{HasAllRoom}
use Rattle.shared_table.specs.declared.rule.Plan.{Plan}
use Rattle.shared_table.specs.declared.view.View.{View}
use Rattle.shared_table.specs.declared.zeros.Zeros.{Zeros}
use Rattle.shared_table.specs.Rule.{M, IsReached}
use Rattle.shared_table.specs.Zeros.{HasZeros}
use Rattle.shared_table.specs.Calls.{Ended, holding_of}
use Rattle.shared_table.specs.Values.{Answers, IsSame}
use Rattle.shared_table.specs.Insides.{SeatStands, holding_in, seat_value}
use Rattle.bound_laws.proofs.Numbers.{last_push}

-- the first of the views, or this one
abbrev first_view : View → List View → View
first_view d [] = d
first_view d (v ∷ vs) = v

-- a badge and its token hold the same
pub badge_holds : (key : Plan) (desk : Desk) (views : List View) (me : M) → views ≡ me.0 ∷ [] →
    (h : Holding) → views ≡ (record { bundle = h ∷ []; fronts = [] }) ∷ [] →
    (holding_of key me ≡ h) × (holding_in desk views ≡ h)
badge_holds key desk views me into h one =
    let same : me.0 ≡ record { bundle = h ∷ []; fronts = [] } = ap (first_view me.0) (sym into ∙ one) in
    (ap (λ (v : View). holding_of key (v, [])) same, ap (holding_in desk) one)

-- the record that was made last has its steps, by the law of every run
pub has_steps : (h : Holding) (front : List Record) (made : Record) → IsReached h →
    h.state.account.records ≡ front ++ made ∷ [] → HasSteps h.setup (words_in h.setup h.known) made
has_steps h front made reached is =
    let P : Record → Type 0 = HasSteps h.setup (words_in h.setup h.known) in
    let all : All P (seat_in (world_after h.setup h.known) h.seat).account.records =
    steps_are_bounded h.setup h.known h.seat reached.run reached.seat in
    let here : All P (front ++ made ∷ []) = subst (All P) (ap (λ (x : SeatState). x.account.records) reached.state
    ∙ is) all in
    (All-pop P (front ++ made ∷ []) front (Some made) refl here).1

-- and its reply is that of its row
pub is_of_row : (h : Holding) (front : List Record) (made : Record) → IsReached h →
    h.state.account.records ≡ front ++ made ∷ [] → IsAnsweredBy h.setup (words_in h.setup h.known) made
is_of_row h front made reached is =
    let P : Record → Type 0 = IsAnsweredBy h.setup (words_in h.setup h.known) in
    let all : All P (seat_in (world_after h.setup h.known) h.seat).account.records =
    replies_are_of_rows h.setup h.known h.seat reached.run reached.seat in
    let here : All P (front ++ made ∷ []) = subst (All P) (ap (λ (x : SeatState). x.account.records) reached.state
    ∙ is) all in
    (All-pop P (front ++ made ∷ []) front (Some made) refl here).1

module _ (packet : ℕ) (call : Call) (made : Record) (used : SeatRows) (key : Plan) (desk : Desk) (was now : TableId)
    (table : now ≡ was)
    (views : List View) (me : M) (into : views ≡ me.0 ∷ [])
    (one : views ≡ (record { bundle = holding_in desk views ∷ []; fronts = [] }) ∷ [])
    (views_then : List View) (me_then : M) (out : views_then ≡ me_then.0 ∷ [])
    (one_then : me_then ≡ (record { bundle = holding_of key me_then ∷ []; fronts = [] }, []))
    (ended : Ended (packet, call) (holding_of key me) (holding_of key me_then) made used) where
  -- before the call
  held : holding_of key me ≡ holding_in desk views
  held = (badge_holds key desk views me into (holding_in desk views) one).0

  -- and after it
  held_then : holding_of key me_then ≡ holding_in desk views_then
  held_then = sym (badge_holds key desk views_then me_then out (holding_of key me_then)
      (out ∙ ap (λ (m : M). m.0 ∷ []) one_then)).1

  -- so the call ended for the seat
  pub ended_here : Ended (packet, call) (holding_in desk views) (holding_in desk views_then) made used
  ended_here = subst (λ (x : Holding × Holding). Ended (packet, call) x.0 x.1 made used)
      (λ j. (held j, held_then j)) ended

  -- the seat is the same
  pub same_after : IsSame (seat_value desk was views) (seat_value desk now views_then)
  same_after = record { table = table; setup = ended_here.setup; number = ended_here.seat }

  -- and the call is answered
  pub answers_after : Answers packet call (seat_value desk was views) (seat_value desk now views_then) made
  answers_after = record {
    next = record { packet = ended_here.packet; call = ended_here.call; number = ended_here.number };
    records = ended_here.records;
    spent = ended_here.spent;
    learned = ended_here.learned;
    reached = ended_here.reached;
    counted = has_steps (holding_in desk views_then) (holding_in desk views).state.account.records made
        ended_here.reached ended_here.records;
    of_row = is_of_row (holding_in desk views_then) (holding_in desk views).state.account.records made
        ended_here.reached ended_here.records;
  }

  -- and the seat stands between two calls again
  pub stands_after : (room room_then : Room) (used_was sizes need : SeatRows) (answered : ℕ)
      (zeros zeros_then : Zeros) →
      SeatStands desk room views used_was sizes need answered zeros → HasAllRoom (settings_at desk) room_then →
      HasZeros (holding_of key me_then) zeros_then →
      SeatStands desk room_then views_then used sizes need (answered + 1) zeros_then
  stands_after room room_then used_was sizes need answered zeros zeros_then stands roomy has =
      let h : Holding = holding_in desk views in
      let k : Holding = holding_in desk views_then in
      let b = stands.between in
      record {
        one = out ∙ ap (λ (m : M). m.0 ∷ []) one_then
            ∙ ap (λ (x : Holding). (record { bundle = x ∷ []; fronts = [] }) ∷ []) held_then;
        between = record {
          reached = ended_here.reached;
          idle = ended_here.idle;
          at_desk = record {
            shape = ap (λ (s : Setup). s.shape) ended_here.setup ∙ b.at_desk.shape;
            hashing = ap (λ (s : Setup). s.hashing) ended_here.setup ∙ b.at_desk.hashing;
            seat = ended_here.seat ∙ b.at_desk.seat;
          };
          published_is = ended_here.published;
          spent_is = ap published ended_here.spent ∙ last_push h.state.account.spent k.state.account.used
              ∙ ended_here.published;
          count = ap length ended_here.records ∙ length_push h.state.account.records made
              ∙ ap (λ (n : ℕ). n + 1) b.count;
          sizes_are = b.sizes_are ∙ (λ i. sizes_of (sym ended_here.setup i).shape (sym ended_here.seat i));
          need_is = b.need_is ∙ ap (λ (s : Setup). need_of (settings_of s)) (sym ended_here.setup);
        };
        room_is = roomy;
        has_zeros = subst (λ (x : Holding). HasZeros x zeros_then) held_then has;
      }
