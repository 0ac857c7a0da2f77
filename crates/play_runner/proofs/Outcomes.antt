-- The calls that end, event by event.
use Rattle.std.proofs.Common.{◌≡◌, ℕ, List, [], ◌∷◌, ◌++◌, Option, Some, None, is_some, fold, refl, sym, ap, ◌∙◌, append-nil, append_assoc}
use Rattle.plain_map.specs.declared.calls.Call.{Call}
use Rattle.plain_map.specs.declared.full.Full.{Full}
use Rattle.plain_map.specs.declared.records.Record.{Record}
use Rattle.trace_share.specs.declared.outcome.Outcome.{Outcome}
use Rattle.table_model.specs.declared.events.Event.{Event}
use Rattle.table_model.specs.Setup.{Setup}
use Rattle.table_model.specs.SeatStates.{Account, Idle, SeatState}
use Rattle.table_model.specs.Worlds.{World, happens, opening_world, seat_in}
use Rattle.table_model.specs.Schedules.{is_refused}
use Rattle.core_steps.specs.Values.{CoreValue, IsMoment, new_record, refused_at, stepped_of, told_of, with_event}
use Rattle.play_runner.specs.Played.{outcome_in, outcomes_from, outcomes_of}
use Rattle.play_runner.specs.Told.{AreTold}
use Rattle.play_runner.specs.Plays.{was_refused}

-- one event more
outcomes_more : (setup : Setup) (w : World) (events : List Event) (event : Event) →
    outcomes_from setup w (events ++ event ∷ [])
    ≡ outcomes_from setup w events ++ outcome_in event (stepped_of setup (fold (happens setup) w events) event)
outcomes_more setup w [] event = append-nil (outcome_in event (stepped_of setup w event))
outcomes_more setup w (first ∷ events) event =
    ap (λ (os : List (ℕ × Outcome)). outcome_in first (stepped_of setup w first) ++ os)
    (outcomes_more setup (happens setup w first) events event)
    ∙ sym (append_assoc (outcome_in first (stepped_of setup w first))
    (outcomes_from setup (happens setup w first) events) _)

-- is told
pub told_more : (core : CoreValue) (event : Event) (outcomes : List (ℕ × Outcome)) → IsMoment core →
    AreTold core outcomes →
    AreTold (with_event core event) (outcomes ++ outcome_in event (stepped_of core.setup core.world event))
told_more core event outcomes moment told =
    ap (λ (os : List (ℕ × Outcome)). os ++ outcome_in event (stepped_of core.setup core.world event)) told
    ∙ ap (λ (w : World). outcomes_of core.setup core.events ++ outcome_in event (stepped_of core.setup w event))
    moment.world
    ∙ sym (outcomes_more core.setup (opening_world core.setup) core.events event)

-- an idle seat's call is refused where no room is left
pub refused_is : (setup : Setup) (w : World) (seat : ℕ) (account : Account) (begin : ℕ × Call) →
    seat_in w seat ≡ record { account = account; stand = Idle } →
    was_refused (stepped_of setup w (record { seat = seat; begin = Some begin }))
    ≡ is_refused setup seat account begin.1
refused_is setup w seat account begin is =
    ap (λ (state : SeatState). was_refused (told_of (refused_at setup seat state.account state.stand (Some begin))
    (new_record state.account
    (seat_in (happens setup w (record { seat = seat; begin = Some begin })) seat).account))) is
    ∙ told (refused_at setup seat account Idle (Some begin)) _
  where
    told : (full : Option Full) (made : Option Record) → was_refused (told_of full made) ≡ is_some full
    told (Some full) made = refl
    told None (Some r) = refl
    told None None = refl
