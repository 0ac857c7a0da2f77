-- What the core leaves is of a run, so its calls have their one order, and the play that led there comes to it.
use Rattle.std.proofs.Common.{◌≡◌, ℕ, List, length, map, sym, ap, ◌∙◌, subst, Vec, Global}
use Rattle.std.proofs.lemmas.List.{length-map}
use Rattle.std.specs.Prelude.{IsPermutation}
use Rattle.std.specs.List.Sorted.{IsSortedByKey}
use Rattle.std.specs.Ordering.{nat_cmp}
use Rattle.plain_map.specs.declared.keys.Pair.{Pair}
use Rattle.plain_map.specs.declared.records.Pending.{Pending}
use Rattle.plain_map.specs.declared.records.Record.{Record}
use Rattle.plain_map.specs.Keys.{key_cmp}
use Rattle.plain_map.specs.History.{ids_of}
use Rattle.trace_share.specs.declared.outcome.Outcome.{Outcome}
use Rattle.word_rows.specs.Shape.{Shape}
use Rattle.word_rows.specs.LayoutView.{shape_of}
use Rattle.table_model.specs.SeatStates.{SeatState}
use Rattle.table_model.specs.Worlds.{World}
use Rattle.table_model.specs.Schedules.{Hand, unbegun_in}
use Rattle.table_model.specs.Closed.{begun_of, closing_of, closed_pairs}
use Rattle.table_model.specs.Order.{Closing, order_of}
use Rattle.closed_words.specs.Views.{as_leaf}
use Rattle.table_model.specs.Closing.{IsOfARun, closing_with}
use Rattle.core_steps.specs.declared.values.CoreEnd.{CoreEnd}
use Rattle.core_steps.specs.Endings.{IsLeft}
use Rattle.core_steps.specs.Values.{CoreValue, IsMoment}
use Rattle.play_runner.specs.declared.values.Played.{Played}
use Rattle.play_runner.specs.Played.{IsPlayed, packet_in}
use Rattle.play_runner.specs.Told.{AreTold, play_with}
use Rattle.history_order.proofs.ToldOfRun.{joined}

-- a closed table
abbrev closing_at : List ℕ → List Record → List Pending → Closing
closing_at words records begun = record { words = words; records = records; begun = begun }

module _ (core : CoreValue) (left : CoreEnd) (moment : IsMoment core) (is : IsLeft core left) where
  -- the records of each seat
  abbrev each : List (List Record)
  each = map (λ (log : Vec Record Global). log.items) left.logs.items

  -- what is left is of a run
  pub of_a_run : IsOfARun (shape_of left.rows.layout) left.rows.words.items each left.begun.items
  of_a_run = record {
    setup = core.setup;
    events = core.events;
    run = moment.run;
    shape_is = sym is.shape;
    words_are = ap (λ (w : World). w.words) (sym moment.world) ∙ sym is.words;
    logs_are = ap (λ (w : World). map (λ (s : SeatState). s.account.records) w.seats) (sym moment.world) ∙ sym is.logs;
    begun_are = ap begun_of (sym moment.world) ∙ sym is.begun;
  }

  -- and is the closing of its world
  closing_is : closing_with left.rows.words.items each left.begun.items ≡ closing_of core.world
  closing_is =
      ap (λ (words : List ℕ). closing_with words each left.begun.items) is.words
      ∙ ap (λ (all : List (List Record)). closing_with core.world.words all left.begun.items) is.logs
      ∙ ap (closing_with core.world.words (map (λ (s : SeatState). s.account.records) core.world.seats)) is.begun
      ∙ ap (λ (records : List Record). closing_at core.world.words records (begun_of core.world))
      (sym (joined core.world.seats))

  -- so its order is that of the world
  order_is : order_of (shape_of left.rows.layout) (closing_with left.rows.words.items each left.begun.items)
      ≡ order_of core.setup.shape (closing_of core.world)
  order_is =
      ap (λ (shape : Shape). order_of shape (closing_with left.rows.words.items each left.begun.items)) is.shape
      ∙ ap (order_of core.setup.shape) closing_is

  module _ (told : List (ℕ × Outcome)) (played : Played) (told_is : AreTold core told)
      (same : IsPermutation told played.outcomes.items)
      (in_order : IsSortedByKey packet_in nat_cmp played.outcomes.items)
      (order : played.order.items
      ≡ ids_of (order_of (shape_of left.rows.layout) (closing_with left.rows.words.items each left.begun.items)))
      (pending : played.pending.items ≡ left.begun.items)
      (pairs : played.pairs.items ≡ left.pairs.items)
      (leaves : played.leaves ≡ length left.leaves.items)
      (depth : played.depth ≡ left.depth) where
    -- the play that led there comes to what is kept of it
    pub is_played : (hands : List Hand) → played.unbegun ≡ unbegun_in (play_with core hands) →
        IsPlayed core.setup (play_with core hands) played
    is_played hands unbegun = record {
      outcomes = subst (λ (all : List (ℕ × Outcome)). IsPermutation all played.outcomes.items) told_is same;
      in_order = in_order;
      pending = pending ∙ is.begun;
      order = order ∙ ap ids_of order_is;
      pairs = subst (λ (all : List Pair). IsPermutation (closed_pairs core.setup.shape core.world.words) all)
          (sym pairs) is.pairs;
      sorted = subst (λ (all : List Pair). IsSortedByKey (λ pair. pair.key) key_cmp all) (sym pairs) is.sorted;
      leaves = leaves ∙ sym (length-map left.leaves.items as_leaf) ∙ ap length is.leaves;
      depth = depth ∙ is.depth;
      unbegun = unbegun;
    }
