-- What a play comes to: its calls that ended, those that were under way and those that were not begun, and the table
-- that it leaves.
use Rattle.std.specs.Prelude.{◌≡◌, ℕ, max, List, [], ◌∷◌, ◌++◌, fold, length, Bool, if◌then◌else◌, Option, Some, None, IsPermutation}
use Rattle.std.specs.List.Sorted.{IsSortedByKey}
use Rattle.std.specs.Ordering.{nat_cmp}
use Rattle.plain_map.specs.declared.calls.Call.{Call}
use Rattle.plain_map.specs.declared.full.Full.{Full}
use Rattle.plain_map.specs.Keys.{key_cmp}
use Rattle.plain_map.specs.History.{ids_of}
use Rattle.trace_share.specs.declared.outcome.Outcome.{Outcome}
use Rattle.trace_share.specs.declared.outcome.Outcome.TheVariants.{Answered, Refused}
use Rattle.trace_share.specs.Outcomes.{asked_in}
use Rattle.table_model.specs.declared.events.Event.{Event}
use Rattle.table_model.specs.Setup.{Setup}
use Rattle.plain_map.specs.Calls.{is_update}
use Rattle.table_model.specs.Worlds.{World, happens, opening_world}
use Rattle.table_model.specs.Closed.{begun_of, closing_of, closed_depth, closed_leaves, closed_pairs}
use Rattle.table_model.specs.Order.{order_of}
use Rattle.table_model.specs.Schedules as S
use Rattle.table_model.specs.Schedules.{Play, unbegun_in}
use Rattle.core_steps.specs.declared.values.Stepped.{Stepped}
use Rattle.core_steps.specs.declared.values.Stepped.TheVariants as T
use Rattle.core_steps.specs.Values.{stepped_of}
use Rattle.play_runner.specs.declared.values.Segment.{Segment}
use Rattle.play_runner.specs.declared.values.Played.{Played}

-- a segment of a schedule
abbrev pub as_segment : Segment → S.Segment
as_segment segment = record { seat = segment.seat; slots = segment.slots }

-- the call that an event ends, with its seat: it was answered or refused
abbrev pub refused_with : (seat : ℕ) → Option (ℕ × Call) → Full → List (ℕ × Outcome)
refused_with seat None full = []
refused_with seat (Some begin) full = (seat, Refused begin.0 begin.1 full) ∷ []

abbrev pub outcome_in : Event → Stepped → List (ℕ × Outcome)
outcome_in event T.Going = []
outcome_in event (T.Ended r) = (event.seat, Answered r) ∷ []
outcome_in event (T.Refused full) = refused_with event.seat event.begin full

-- those of these events, one after the other
abbrev pub outcomes_from : Setup → World → List Event → List (ℕ × Outcome)
outcomes_from setup world [] = []
outcomes_from setup world (event ∷ events) =
    outcome_in event (stepped_of setup world event) ++ outcomes_from setup (happens setup world event) events

-- those of a table's events, from its opening on
abbrev pub outcomes_of : Setup → List Event → List (ℕ × Outcome)
outcomes_of setup events = outcomes_from setup (opening_world setup) events

-- the packet of a call
abbrev pub packet_in : ℕ × Outcome → ℕ
packet_in ended = (asked_in ended.1).0

-- the most steps of an answered update, or of an answered lookup
abbrev pub steps_of : Bool → Outcome → ℕ
steps_of update (Answered r) =
    if is_update r.call then (if update then r.steps else 0) else (if update then 0 else r.steps)
steps_of update (Refused packet call full) = 0

abbrev pub most_steps_in : Bool → List (ℕ × Outcome) → ℕ
most_steps_in update outcomes = fold (λ most ended. max most (steps_of update ended.1)) 0 outcomes

-- what a play comes to
pub record IsPlayed (setup : Setup) (play : Play) (played : Played) : Type 0 where
  -- the calls that ended, in the order of their packets
  pub outcomes : IsPermutation (outcomes_of setup play.events) played.outcomes.items
  pub in_order : IsSortedByKey packet_in nat_cmp played.outcomes.items
  -- the calls under way, in the order of the seats
  pub pending : played.pending.items ≡ begun_of play.world
  -- the one order
  pub order : played.order.items ≡ ids_of (order_of setup.shape (closing_of play.world))
  -- the pairs, in the order of their keys
  pub pairs : IsPermutation (closed_pairs setup.shape play.world.words) played.pairs.items
  pub sorted : IsSortedByKey (λ pair. pair.key) key_cmp played.pairs.items
  pub leaves : played.leaves ≡ length (closed_leaves setup.shape play.world.words)
  pub depth : played.depth ≡ closed_depth setup.shape play.world.words
  -- how many calls were not begun
  pub unbegun : played.unbegun ≡ unbegun_in play
