-- The seats of a closed table and the logs of their calls are what a run leaves.
use Rattle.std.proofs.Common.{◌≡◌, ℕ, zero, suc, ◌<◌, ◌+◌, List, [], ◌∷◌, length, map, get_or, refl, sym, ap, ◌∙◌, subst, arith, zero-add}
use Rattle.std.specs.Prelude.{All, slice_index_or}
use Rattle.std.proofs.lemmas.List.{get_or-map, get_or_default, length-map, same_lists}
use Rattle.std.proofs.lemmas.List.Elements.{All-get_or}
use Rattle.step_counts.specs.StepCounts.{need_of}
use Rattle.plain_map.specs.declared.calls.Call.{Call}
use Rattle.word_rows.specs.Shape.{sizes_of}
use Rattle.table_model.specs.Setup.{seats_of, settings_of}
use Rattle.table_model.specs.SeatStates.{SeatState, Idle, fresh_seat}
use Rattle.table_model.specs.Worlds.{World, world_after, seat_in}
use Rattle.order_laws.proofs.AllRuns.{all_tell}
use Rattle.shared_table.specs.SeatValues.{SeatValue, account_of}
use Rattle.shared_table.specs.Values.{IsLeft, Ran, TableValue, new_seat}
use Rattle.trace_share.specs.declared.outcome.Outcome.{Outcome}
use Rattle.trace_share.specs.Outcomes.{asked_in, records_in, RefusedByRoom}
use Rattle.batch_runner.specs.Seats.{HasMade, HaveMade}

-- ---- lists of the same length

pub many_made : (t : TableValue) (n : ℕ) (shares : List (List (ℕ × Call))) (seats : List SeatValue)
    (logs : List (List Outcome)) → HaveMade t n shares seats logs →
    (length seats ≡ length shares) × (length logs ≡ length shares)
many_made t n [] [] [] h = (refl, refl)
many_made t n [] [] (log ∷ logs) h = absurd h
many_made t n [] (s ∷ seats) logs h = absurd h
many_made t n (share ∷ shares) [] logs h = absurd h
many_made t n (share ∷ shares) (s ∷ seats) [] h = absurd h
many_made t n (share ∷ shares) (s ∷ seats) (log ∷ logs) h =
    let r = many_made t (suc n) shares seats logs h.1 in
    (ap suc r.0, ap suc r.1)

-- what was asked
pub all_asked : (t : TableValue) (n : ℕ) (shares : List (List (ℕ × Call))) (seats : List SeatValue)
    (logs : List (List Outcome)) → HaveMade t n shares seats logs →
    map (λ (log : List Outcome). map asked_in log) logs ≡ shares
all_asked t n [] [] [] h = refl
all_asked t n [] [] (log ∷ logs) h = absurd h
all_asked t n [] (s ∷ seats) logs h = absurd h
all_asked t n (share ∷ shares) [] logs h = absurd h
all_asked t n (share ∷ shares) (s ∷ seats) [] h = absurd h
all_asked t n (share ∷ shares) (s ∷ seats) (log ∷ logs) h =
    let rest = all_asked t (suc n) shares seats logs h.1 in
    (λ i. h.0.asked i ∷ rest i)

-- what was answered
pub all_records : (t : TableValue) (n : ℕ) (shares : List (List (ℕ × Call))) (seats : List SeatValue)
    (logs : List (List Outcome)) → HaveMade t n shares seats logs →
    map records_in logs ≡ map (λ (s : SeatValue). (account_of s).records) seats
all_records t n [] [] [] h = refl
all_records t n [] [] (log ∷ logs) h = absurd h
all_records t n [] (s ∷ seats) logs h = absurd h
all_records t n (share ∷ shares) [] logs h = absurd h
all_records t n (share ∷ shares) (s ∷ seats) [] h = absurd h
all_records t n (share ∷ shares) (s ∷ seats) (log ∷ logs) h =
    let rest = all_records t (suc n) shares seats logs h.1 in
    (λ i. sym h.0.records i ∷ rest i)

-- one of the seats
pub one_made : (t : TableValue) (n : ℕ) (shares : List (List (ℕ × Call))) (seats : List SeatValue)
    (logs : List (List Outcome)) (i : ℕ) (d : SeatValue) → HaveMade t n shares seats logs → i < length seats →
    (share : List (ℕ × Call)) × HasMade t (n + i) share (get_or seats i d) (get_or logs i [])
one_made t n [] [] logs i d h less = absurd (omega (arith, less))
one_made t n [] (s ∷ seats) logs i d h less = absurd h
one_made t n (share ∷ shares) [] logs i d h less = absurd h
one_made t n (share ∷ shares) (s ∷ seats) [] i d h less = absurd h
one_made t n (share ∷ shares) (s ∷ seats) (log ∷ logs) zero d h less =
    let z : n ≡ n + 0 = omega arith in
    (share, subst (λ (k : ℕ). HasMade t k share s log) z h.0)
one_made t n (share ∷ shares) (s ∷ seats) (log ∷ logs) (suc i) d h less =
    let r = one_made t (suc n) shares seats logs i d h.1 (omega (arith, less)) in
    let z : suc n + i ≡ n + suc i = omega arith in
    (r.0, subst (λ (k : ℕ). HasMade t k r.0 (get_or seats i d) (get_or logs i [])) z r.1)

-- ---- and the run

module _ (t : TableValue) (words : List ℕ) (shares : List (List (ℕ × Call))) (seats : List SeatValue)
    (logs : List (List Outcome)) (ran : Ran t.setup words seats) (made : HaveMade t 0 shares seats logs)
    (all : length seats ≡ seats_of t.setup) where
  -- the world that the run leaves
  abbrev pub world : World
  world = world_after t.setup ran.events

  -- it has as many seats
  long : length world.seats ≡ seats_of t.setup
  long = (all_tell t.setup ran.events ran.is_run).follows.long

  -- a seat that stands where there is none
  abbrev none : SeatValue
  none = new_seat t 0

  -- one seat
  one : (i : ℕ) → i < length seats → (share : List (ℕ × Call))
      × HasMade t i share (get_or seats i none) (get_or logs i [])
  one i less =
      let r = one_made t 0 shares seats logs i none made less in
      (r.0, subst (λ (k : ℕ). HasMade t k r.0 (get_or seats i none) (get_or logs i [])) (zero-add i) r.1)

  left : (i : ℕ) → i < length seats → IsLeft t.setup ran.events (get_or seats i none)
  left i less = All-get_or (IsLeft t.setup ran.events) seats i none less ran.seats_are

  -- is left in the state of its number
  state_is : (i : ℕ) → i < length seats → seat_in world i ≡ (get_or seats i none).holding.state
  state_is i less = ap (seat_in world) (sym (one i less).1.number_is) ∙ sym (left i less).state

  pub records_left : map records_in logs ≡ map (λ (state : SeatState). state.account.records) world.seats
  records_left = all_records t 0 shares seats logs made
      ∙ sym (same_lists (map (λ (state : SeatState). state.account.records) world.seats)
      (map (λ (s : SeatValue). (account_of s).records) seats)
      (length-map world.seats (λ (state : SeatState). state.account.records) ∙ long ∙ sym all
      ∙ sym (length-map seats (λ (s : SeatValue). (account_of s).records)))
      (λ i d less.
      let few : i < length world.seats =
      omega (arith, less, length-map world.seats (λ (state : SeatState). state.account.records)) in
      let within : i < length seats = omega (arith, few, long, all) in
      get_or-map (λ (state : SeatState). state.account.records) world.seats i fresh_seat d few
      ∙ ap (λ (state : SeatState). state.account.records) (state_is i within)
      ∙ sym (get_or-map (λ (s : SeatValue). (account_of s).records) seats i none d within)))

  -- none is in a call
  pub all_idle : All (λ (state : SeatState). state.stand ≡ Idle) world.seats
  all_idle i d less =
      let within : i < length seats = omega (arith, less, long, all) in
      ap (λ (z : SeatState). z.stand) (get_or_default world.seats i d fresh_seat less ∙ state_is i within)
      ∙ (left i within).idle

  -- each call was refused by room
  pub all_refused : (seat : ℕ) → seat < seats_of t.setup →
      RefusedByRoom (sizes_of t.setup.shape seat) (need_of (settings_of t.setup)) []
      (seat_in world seat).account.spent (slice_index_or logs seat [])
  all_refused seat below =
      let within : seat < length seats = omega (arith, below, all) in
      subst (λ (state : SeatState). RefusedByRoom (sizes_of t.setup.shape seat) (need_of (settings_of t.setup)) []
      state.account.spent (get_or logs seat [])) (sym (state_is seat within)) (one seat within).1.refused
