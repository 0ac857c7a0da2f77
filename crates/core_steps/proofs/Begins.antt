-- From an event to the step that it makes.
use Rattle.std.proofs.Common.{◌≡◌, ℕ, ◌<◌, List, Some, None, sym, ap, ◌∙◌}
use Rattle.std.proofs.lemmas.Bool.{false≢true}
use Rattle.plain_map.specs.declared.calls.Call.{Call}
use Rattle.plain_map.specs.declared.calls.Call.TheVariants.{Lookup}
use Rattle.word_rows.specs.Shape.{Shape}
use Rattle.table_model.specs.declared.events.Event.{Event}
use Rattle.table_model.specs.Setup.{Setup, seats_of}
use Rattle.table_model.specs.SeatStates.{Account, Stand, Idle, InFlight}
use Rattle.table_model.specs.Worlds.{FitsStand, IsRun, refusal_of, seat_in, world_after}
use Rattle.table_model.specs.Program.{Program, program_at}
use Rattle.seat_machine.specs.Programs.{begins}
use Rattle.core_steps.specs.declared.values.Stepped.{Stepped}
use Rattle.core_steps.specs.Steps.{AtStep, Advanced, Happened}
use Rattle.plain_map.specs.Keys.{no_key}

module _ (shape : Shape) (words : List ℕ) (setup : Setup) (events : List Event) (seat : ℕ) (account : Account)
    (run : IsRun setup events) (inside : seat < seats_of setup)
    (words_are : words ≡ (world_after setup events).words) (shape_is : setup.shape ≡ shape) where
  -- where a call begins
  abbrev pub begun_at : (stand : Stand) (begin : ℕ × Call) (p q : Program) →
      seat_in (world_after setup events) seat ≡ record { account = account; stand = stand } →
      p ≡ program_at setup seat account stand → FitsStand setup account stand (Some begin) →
      refusal_of setup seat account begin.1 ≡ None → q ≡ begins p begin → AtStep shape words q
  begun_at Idle begin p q at program given room q_is = record {
    setup = setup;
    events = events;
    seat = seat;
    asked = begin;
    state = record { account = account; stand = Idle };
    run = run;
    inside = inside;
    at = at;
    may = (room, given.1);
    words_are = words_are;
    shape_is = shape_is;
    program = q_is ∙ ap (λ (x : Program). begins x begin) program;
  }
  begun_at (InFlight flight phase) begin p q at program given room q_is =
      absurd (false≢true (sym given))

  -- its first step is the event
  pub begun_happens : (stand : Stand) (begin : ℕ × Call) (p q : Program) (now : List ℕ) (after : Program)
      (stepped : Stepped) →
      seat_in (world_after setup events) seat ≡ record { account = account; stand = stand } →
      p ≡ program_at setup seat account stand → FitsStand setup account stand (Some begin) →
      refusal_of setup seat account begin.1 ≡ None → q ≡ begins p begin →
      ((s : AtStep shape words q) → Advanced s now after stepped) →
      Happened setup (world_after setup events) seat account (record { seat = seat; begin = Some begin }) now after
      stepped
  begun_happens Idle begin p q now after stepped at program given room q_is advanced =
      advanced (begun_at Idle begin p q at program given room q_is)
  begun_happens (InFlight flight phase) begin p q now after stepped at program given room q_is advanced =
      absurd (false≢true (sym given))

  -- where its call goes on
  abbrev pub flown_at : (stand : Stand) (p : Program) →
      seat_in (world_after setup events) seat ≡ record { account = account; stand = stand } →
      p ≡ program_at setup seat account stand → FitsStand setup account stand None → AtStep shape words p
  flown_at Idle p at program given = absurd (false≢true given.0)
  flown_at (InFlight flight phase) p at program given = record {
    setup = setup;
    events = events;
    seat = seat;
    asked = (0, Lookup no_key);
    state = record { account = account; stand = InFlight flight phase };
    run = run;
    inside = inside;
    at = at;
    may = tt;
    words_are = words_are;
    shape_is = shape_is;
    program = program;
  }

  -- its next step is the event
  pub flown_happens : (stand : Stand) (p : Program) (now : List ℕ) (after : Program) (stepped : Stepped) →
      seat_in (world_after setup events) seat ≡ record { account = account; stand = stand } →
      p ≡ program_at setup seat account stand → FitsStand setup account stand None →
      ((s : AtStep shape words p) → Advanced s now after stepped) →
      Happened setup (world_after setup events) seat account (record { seat = seat; begin = None }) now after stepped
  flown_happens Idle p now after stepped at program given advanced = absurd (false≢true given.0)
  flown_happens (InFlight flight phase) p now after stepped at program given advanced =
      advanced (flown_at (InFlight flight phase) p at program given)
