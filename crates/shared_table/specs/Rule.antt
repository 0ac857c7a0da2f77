-- The rule of the running table, and what a step tells.
use Rattle.std.specs.Prelude.{◌≡◌, ℕ, zero, suc, ◌<◌, List, [], ◌∷◌, ◌++◌, All, map, slice_index}
use Rattle.atomic_table.specs.Table.{State, Me, Step}
use Rattle.plain_map.specs.declared.calls.Call.{Call}
use Rattle.word_rows.specs.Shape.{record_limit}
use Rattle.table_model.specs.declared.events.Event.{Event}
use Rattle.table_model.specs.Setup.{Setup, seats_of}
use Rattle.table_model.specs.declared.events.Ask.{Ask}
use Rattle.table_model.specs.Worlds.{IsRun, world_after, seat_in, found_by}
use Rattle.table_model.specs.Worlds.{events_of}
use Rattle.table_model.specs.SeatStates.{SeatState}
use Rattle.table_model.specs.Shown.{Holding, Bundle, Shows}
use Rattle.table_model.specs.Steps.{event_of, ask_of, advanced, told}
use Rattle.blank_laws.specs.OwnRows.{IsOwnPlace}
use Rattle.shared_table.specs.declared.view.View.{View}
use Rattle.shared_table.specs.Fronts.{IsFrontOf}
use Rattle.shared_table.specs.declared.rule.Plan.{Plan}

-- the bundles of the views
abbrev pub bundles : List View → List Bundle
bundles views = map (λ v. v.bundle) views

-- the rule: there is a run that all views are of, and what readers know of it are its first events
pub record Holds (setup : Setup) (s : State (Unit {0}) View) : Type 0 where
  pub shows : Shows setup s.words (bundles s.views)
  pub fronts : All (λ view. All (IsFrontOf setup shows.events) view.fronts) s.views

-- what a table was opened with, as the definitions see it
abbrev pub plain : Plan → Setup
plain plan = record {
  shape = record { settings = plan.settings; ranges = plan.rows.items; limit = record_limit };
  hashing = plan.hashing;
  first = plan.first.items;
}

-- what a token knows
abbrev pub M : Type 0
M = Me (Unit {0}) View

-- the view of one seat alone
abbrev pub alone : Holding → M
alone h = (record { bundle = h ∷ []; fronts = [] }, [])

-- as much more is known, with so many events of the seat
pub record Learned (seat own : ℕ) (known now : List Event) : Type 0 where
  pub later : List Event
  pub is : now ≡ known ++ later
  pub counts : events_of seat later ≡ own

-- what the seat knows of the run leads to its state
pub record IsReached (h : Holding) : Type 0 where
  pub run : IsRun h.setup h.known
  pub seat : h.seat < seats_of h.setup
  pub state : seat_in (world_after h.setup h.known) h.seat ≡ h.state

-- what the seat asks for, where it is to make this call
abbrev pub asked_by : Holding → ℕ × Call → Ask
asked_by h asked = ask_of h.setup h.seat asked h.state

-- the seat after its step, which came after these events and told it this word
abbrev pub after_step : Holding → ℕ × Call → (word : ℕ) → List Event → Holding
after_step h asked word before = record {
  setup = h.setup;
  seat = h.seat;
  state = advanced h.setup h.seat asked h.state word;
  known = before ++ event_of h.seat asked h.state ∷ [];
}

-- ---- steps that are taken late. A step that stores 0 where 0 stands changes no word. So the seat makes no access for
-- it: the step comes into the run right before the seat's next access.

-- the seat's state after so many steps that found nothing
abbrev pub late_state : ℕ × Call → (late : ℕ) → Holding → SeatState
late_state asked zero h = h.state
late_state asked (suc late) h = advanced h.setup h.seat asked (late_state asked late h) 0

-- the seat after them, where this is the run
abbrev pub late_at : ℕ × Call → (late : ℕ) → Holding → List Event → Holding
late_at asked late h known = record {
  setup = h.setup;
  seat = h.seat;
  state = late_state asked late h;
  known = known;
}

-- the run where they come right behind what the seat knows
abbrev pub late_known : ℕ × Call → (late : ℕ) → Holding → List Event
late_known asked zero h = h.known
late_known asked (suc late) h =
    late_known asked late h ++ event_of h.seat asked (late_state asked late h) ∷ []

-- the seat then
abbrev pub with_late : ℕ × Call → (late : ℕ) → Holding → Holding
with_late asked late h = late_at asked late h (late_known asked late h)

-- the seat's step, whose word held n, with so many late ones right before it. The words of its own bucket rows are then
-- what they were
pub record Steps (asked : ℕ × Call) (late : ℕ) (h : Holding) (n : ℕ) (w : M) : Type 0 where
  pub before : List Event
  pub learned : Learned h.seat late h.known before
  pub stays :
      (at : ℕ) → IsOwnPlace h.setup.shape h.seat at →
      slice_index (world_after h.setup before).words at ≡ slice_index (world_after h.setup h.known).words at
  pub was : IsReached (late_at asked late h before)
  pub found :
      told (asked_by (with_late asked late h) asked) n
      ≡ found_by h.setup (asked_by (with_late asked late h) asked) (world_after h.setup before).words
  pub is :
      w ≡ alone (after_step (with_late asked late h) asked (told (asked_by (with_late asked late h) asked) n) before)
  pub reached :
      IsReached (after_step (with_late asked late h) asked (told (asked_by (with_late asked late h) asked) n) before)

-- a token of one seat knows its step then
abbrev pub Moved : ℕ × Call → (late : ℕ) → M → ℕ → M → Type 0
Moved asked late m n w = (h : Holding) → m ≡ alone h → Steps asked late h n w

-- the same, whichever kind of step it is
abbrev pub acted : ℕ × Call → (late : ℕ) → Step (Unit {0}) → M → ℕ → M → Type 0
acted asked late st m n w = Moved asked late m n w
