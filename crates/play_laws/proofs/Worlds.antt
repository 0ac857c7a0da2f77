-- What an event of a seat that may step does to the world.
use Rattle.std.proofs.Common.{◌≡◌, ℕ, ◌<◌, Bool, true, false, cond, eqb, ltb, List, [], ◌∷◌, ◌++◌, length, get_or, set, Option, Some, None, refl, sym, ap, ◌∙◌, subst, length-set}
use Rattle.std.specs.Prelude.{fold}
use Rattle.std.proofs.lemmas.Bool.{cond-true, lt-ltb}
use Rattle.std.proofs.lemmas.List.{set-get_or, length-replicate}
use Rattle.plain_map.specs.declared.calls.Call.{Call}
use Rattle.plain_map.specs.declared.full.Full.{Full}
use Rattle.word_rows.specs.Places.{place}
use Rattle.table_model.specs.declared.events.Event.{Event}
use Rattle.table_model.specs.Setup.{Setup, seats_of}
use Rattle.table_model.specs.SeatStates.{Account, Stand, Idle, InFlight, SeatState, fresh_seat}
use Rattle.table_model.specs.declared.events.Ask.{Ask}
use Rattle.table_model.specs.declared.events.Ask.TheVariants.{Nothing, Load, Store, Exchange}
use Rattle.table_model.specs.Worlds.{World, IsEvent, AreEvents, IsRun, FitsStand, act, begin_or_refuse, happens, world_after, seat_in, step_of, refusal_of, found_by, words_after, opening_world}
use Rattle.table_model.specs.Steps.{begin_of, flight_in, phase_in, MayStep, event_of, address_of, becomes, told}
use Rattle.std.proofs.lemmas.List.Sums.{fold-append}

module _ (setup : Setup) (seat : ℕ) (asked : ℕ × Call) where
  -- an event of a seat that may step is its step
  acts : (world : World) (account : Account) (stand : Stand) → MayStep setup seat asked account stand →
      act setup world seat account stand (begin_of stand asked) ≡ step_of setup world seat account
      (flight_in account stand asked) (phase_in stand)
  acts world account Idle may = ap (λ (refused : Option Full). begin_or_refuse setup world seat account asked.0
      asked.1 refused) may.0
  acts world account (InFlight flight phase) may = refl

  -- what it begins is what its stand lets it begin
  fits : (account : Account) (stand : Stand) → MayStep setup seat asked account stand →
      FitsStand setup account stand (begin_of stand asked)
  fits account Idle may = (refl, may.1)
  fits account (InFlight flight phase) may = refl

  -- so it is an event of the world
  pub is_event : (world : World) (state : SeatState) → seat < seats_of setup → seat_in world seat ≡ state →
      MayStep setup seat asked state.account state.stand →
      IsEvent setup world (event_of seat asked state)
  is_event world state h at may =
      subst (λ (s : SeatState). IsEvent setup world (event_of seat asked s)) at
      (record {
        seat = h;
        begin = fits (seat_in world seat).account (seat_in world seat).stand
            (subst (λ (s : SeatState). MayStep setup seat asked s.account s.stand) (sym at) may);
      })

  -- and the world after it is the one after that step
  pub steps_world : (world : World) (state : SeatState) → seat < seats_of setup → seat_in world seat ≡ state →
      MayStep setup seat asked state.account state.stand →
      happens setup world (event_of seat asked state) ≡ step_of setup world seat state.account
      (flight_in state.account state.stand asked) (phase_in state.stand)
  steps_world world state h at may =
      cond-true (ltb seat (seats_of setup)) (act setup world seat (seat_in world seat).account
      (seat_in world seat).stand (begin_of state.stand asked)) world (lt-ltb seat (seats_of setup) h)
      ∙ ap (λ (s : SeatState). act setup world seat s.account s.stand (begin_of state.stand asked)) at
      ∙ acts world state.account state.stand may

-- the words after a step: one word becomes what the step makes of it
module _ (setup : Setup) where
  -- which word, and what it becomes
  pub words_are : (a : Ask) (words : List ℕ) →
      words_after setup a words ≡ set words (place setup.shape (address_of a))
      (becomes a (get_or words (place setup.shape (address_of a)) 0))
  words_are Nothing words = sym (set-get_or words (place setup.shape (address_of Nothing)) 0)
  words_are (Load from) words = sym (set-get_or words (place setup.shape from) 0)
  words_are (Store to word) words = refl
  words_are (Exchange at old new) words = go (eqb (get_or words (place setup.shape at) 0) old)
    where
      go : (b : Bool) → cond b (set words (place setup.shape at) new) words ≡ set words (place setup.shape at)
          (cond b new (get_or words (place setup.shape at) 0))
      go true = refl
      go false = sym (set-get_or words (place setup.shape at) 0)

  -- what the seat is told is what the definition finds
  pub found_is : (a : Ask) (words : List ℕ) →
      told a (get_or words (place setup.shape (address_of a)) 0) ≡ found_by setup a words
  found_is Nothing words = refl
  found_is (Load from) words = refl
  found_is (Store to word) words = refl
  found_is (Exchange at old new) words = refl

  -- a run, and one event more
  follow-snoc : (world : World) (es : List Event) (e : Event) → AreEvents setup world es →
      IsEvent setup (fold (happens setup) world es) e → AreEvents setup world (es ++ e ∷ [])
  follow-snoc world [] e a h = (h, tt)
  follow-snoc world (x ∷ xs) e a h = (a.0, follow-snoc (happens setup world x) xs e a.1 h)

  -- is a run
  pub run-snoc : (es : List Event) (e : Event) → IsRun setup es → IsEvent setup (world_after setup es) e →
      IsRun setup (es ++ e ∷ [])
  run-snoc es e r h = record { opened = r.opened; follow = follow-snoc (opening_world setup) es e r.follow h }

  -- whose world is the one after the event
  pub world-snoc : (es : List Event) (e : Event) →
      world_after setup (es ++ e ∷ []) ≡ happens setup (world_after setup es) e
  world-snoc es e = fold-append (happens setup) (opening_world setup) es (e ∷ [])

-- the seats of a world stay as many
module _ (setup : Setup) where
  -- after a seat's act
  length-act : (world : World) (seat : ℕ) (account : Account) (stand : Stand) (begin : Option (ℕ × Call)) →
      length (act setup world seat account stand begin).seats ≡ length world.seats
  length-act world seat account Idle None = refl
  length-act world seat account Idle (Some begin) = go (refusal_of setup seat account begin.1)
    where
      go : (refused : Option Full) → length (begin_or_refuse setup world seat account begin.0 begin.1
          refused).seats ≡ length world.seats
      go (Some full) = refl
      go None = length-set world.seats seat _
  length-act world seat account (InFlight flight phase) begin = length-set world.seats seat _

  -- after an event
  pub length-happens : (world : World) (e : Event) → length (happens setup world e).seats ≡ length world.seats
  length-happens world e = go (ltb e.seat (seats_of setup))
    where
      go : (b : Bool) → length (cond b (act setup world e.seat (seat_in world e.seat).account
          (seat_in world e.seat).stand e.begin) world).seats ≡ length world.seats
      go true = length-act world e.seat (seat_in world e.seat).account (seat_in world e.seat).stand e.begin
      go false = refl

  -- after events
  length-fold : (world : World) (es : List Event) → length (fold (happens setup) world es).seats ≡ length world.seats
  length-fold world [] = refl
  length-fold world (e ∷ es) = length-fold (happens setup world e) es ∙ length-happens world e

  -- so a run has all seats
  pub length-world : (es : List Event) → length (world_after setup es).seats ≡ seats_of setup
  length-world es = length-fold (opening_world setup) es ∙ length-replicate (seats_of setup) fresh_seat
