-- What a closed table and its seats leave is of a run.
use Rattle.std.proofs.Common.{◌≡◌, ℕ, suc, ◌+◌, ◌<◌, List, [], ◌∷◌, ◌++◌, length, map, Some, refl, sym, ap, ◌∙◌, subst, arith}
use Rattle.std.specs.Prelude.{slice_get, flat_map}
use Rattle.std.specs.List.{enumerate_from}
use Rattle.std.proofs.lemmas.List.{same_lists, get_or-map}
use Rattle.std.proofs.lemmas.Option.{get_or_from_slice_get, slice_get_within}
use Rattle.table_model.specs.Setup.{Setup, seats_of}
use Rattle.table_model.specs.SeatStates.{SeatState, Idle, fresh_seat}
use Rattle.table_model.specs.Worlds.{World, world_after, seat_in}
use Rattle.table_model.specs.Closed.{begun_by}
use Rattle.order_laws.proofs.AllRuns.{all_tell}
use Rattle.shared_table.specs.SeatValues.{SeatValue, account_of}
use Rattle.shared_table.specs.Values.{Ran, IsLeft}
use Rattle.shared_table.specs.Orders.{logs_of, AreInTurn, ClosedIsOfARun}
use Rattle.list_laws.proofs.Places.{stands_there}

-- as many images as members
length_map : {A B : Type 0} → (f : A → B) (xs : List A) → length (map f xs) ≡ length xs
length_map f [] = refl
length_map f (x ∷ xs) = ap suc (length_map f xs)

-- idle seats have begun no call
none_begun : (from : ℕ) (seats : List SeatState) →
    ((i : ℕ) (s : SeatState) → slice_get seats i ≡ Some s → s.stand ≡ Idle) →
    flat_map (λ (x : ℕ × SeatState). begun_by x.0 x.1.stand) (enumerate_from from seats) ≡ []
none_begun from [] idle = refl
none_begun from (s ∷ seats) idle =
    ap (λ stand. begun_by from stand ++
    (flat_map (λ (x : ℕ × SeatState). begun_by x.0 x.1.stand) (enumerate_from (from + 1) seats))) (idle 0 s refl)
    ∙ none_begun (from + 1) seats (λ i t e. idle (suc i) t e)

module _ (setup : Setup) (words : List ℕ) (seats : List SeatValue) (ran : Ran setup words seats)
    (turn : AreInTurn setup seats) where
  -- the world that the run leaves
  abbrev world : World
  world = world_after setup ran.events

  -- it has as many seats
  long : length world.seats ≡ seats_of setup
  long = (all_tell setup ran.events ran.is_run).follows.long

  -- each is left as it says
  left : (i : ℕ) (s : SeatValue) → slice_get seats i ≡ Some s → IsLeft setup ran.events s
  left i s e = subst (IsLeft setup ran.events) (get_or_from_slice_get seats i s s e)
      (ran.seats_are i s (slice_get_within seats i s e))

  -- each is left to its seat
  state_is : (i : ℕ) (s : SeatValue) → slice_get seats i ≡ Some s → seat_in world i ≡ s.holding.state
  state_is i s e = ap (seat_in world) (sym (turn.numbers i s e)) ∙ sym (left i s e).state

  -- so their records are those of the world
  logs_are : map (λ (state : SeatState). state.account.records) world.seats ≡ logs_of seats
  logs_are = same_lists (map (λ (state : SeatState). state.account.records) world.seats) (logs_of seats)
      (length_map (λ (state : SeatState). state.account.records) world.seats ∙ long ∙ sym turn.all
      ∙ sym (length_map (λ (s : SeatValue). (account_of s).records) seats))
      (λ i d less.
      let few : i < length world.seats =
      omega (arith, less, length_map (λ (state : SeatState). state.account.records) world.seats) in
      let x = stands_there seats i (omega (arith, few, long, turn.all)) in
      get_or-map (λ (state : SeatState). state.account.records) world.seats i fresh_seat d few
      ∙ ap (λ (state : SeatState). state.account.records) (state_is i x.0 x.1)
      ∙ ap (λ (s : SeatValue). (account_of s).records) (sym (get_or_from_slice_get seats i x.0 x.0 x.1))
      ∙ sym (get_or-map (λ (s : SeatValue). (account_of s).records) seats i x.0 d
      (omega (arith, few, long, turn.all))))

  -- and none is in a call
  idle : (i : ℕ) (s : SeatState) → slice_get world.seats i ≡ Some s → s.stand ≡ Idle
  idle i s e =
      let few = slice_get_within world.seats i s e in
      let x = stands_there seats i (omega (arith, few, long, turn.all)) in
      ap (λ (z : SeatState). z.stand) (sym (get_or_from_slice_get world.seats i s fresh_seat e) ∙ state_is i x.0 x.1)
      ∙ (left i x.0 x.1).idle

-- so what they leave has its one order
pub closed_is_of_a_run : ClosedIsOfARun
closed_is_of_a_run setup words seats ran turn = record {
  setup = setup;
  events = ran.events;
  run = ran.is_run;
  shape_is = refl;
  words_are = sym ran.words_are;
  logs_are = logs_are setup words seats ran turn;
  begun_are = none_begun 0 (world_after setup ran.events).seats (idle setup words seats ran turn);
}
