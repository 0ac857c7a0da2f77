-- Batches that were served are right.
use Rattle.std.proofs.Common.{◌≡◌, ℕ, List, [], ◌∷◌, map, refl, sym, ap, ◌∙◌, subst}
use Rattle.std.specs.Prelude.{flat_map, All, IsPermutation}
use Rattle.std.specs.FinMap.{empty}
use Rattle.std.proofs.lemmas.List.Elements.{All-nil, All-cons}
use Rattle.std.proofs.lemmas.List.Folds.{flat_map-map}
use Rattle.std.proofs.lemmas.List.Sorted.{IsPermutation-trans}
use Rattle.plain_map.specs.declared.keys.Pair.{Pair}
use Rattle.plain_map.specs.declared.records.Record.{Record}
use Rattle.plain_map.specs.declared.rules.Rules.{Rules}
use Rattle.plain_map.specs.PlainObject.{Sessions, pairs_of}
use Rattle.plain_map.specs.History.{Placed, Legal, After, Whole, sessions_after}
use Rattle.plain_map.proofs.SessionLemmas.{pairs_of-sessions_of, sessions_of-nil}
use Rattle.table_model.specs.Order.{Closing, effects_of, order_of}
use Rattle.table_model.specs.Promises.{HasSteps}
use Rattle.table_model.specs.Closed.{Cover, Warranted, closed_depth, closed_leaves, closed_pairs, greatest_depth, sessions_with}
use Rattle.table_model.specs.Histories.{closed, sessions_of_order}
use Rattle.order_laws.proofs.Promised.{order_is_legal, order_is_after, order_is_whole, pairs_are_of_the_order}
use Rattle.order_laws.proofs.Depths.{depth_is_of_leaves}
use Rattle.order_laws.proofs.Warranted.{leaves_are_warranted}
use Rattle.order_laws.proofs.Reopened.{reopened}
use Rattle.order_laws.proofs.Reopens.{pairs_reopen_in_any_turn, sorted_pairs_are_held}
use Rattle.closed_laws.proofs.Covers.{leaves_cover}
use Rattle.trace_share.specs.Outcomes.{records_in}
use Rattle.batch_history.specs.Batches.{AreInOrder, IsInOrder, BatchesAreOneOrder}
use Rattle.batch_rows.specs.BatchRows.{rules_in}
use Rattle.batch_rows.specs.Depths.{InsertsAmong, keys_in_batch}
use Rattle.batch_deals.specs.declared.service.Service.{Service}
use Rattle.batch_runner.specs.Served.{Served, IsServed, AreServed, history_in, leaves_in, order_in, pairs_left, setup_of_batch, shape_in}
use Rattle.batch_deals.specs.Opens.{CanOpen, rules_of}
use Rattle.batch_runner.specs.Promises.{IsSound, ServedAreRight}
use Rattle.batch_runner.proofs.Alike.{IsAlike, alike, order_among}
use Rattle.batch_runner.proofs.Closings.{closing_is, numbered, steps}

-- the rules of the table of a batch
abbrev table_rules : Service → Served → Rules
table_rules service batch = rules_in batch.settings service.hashing

module _ (service : Service) (batch : Served) (is : IsServed service batch) where
  -- the order is that of the run
  order_is : order_in service batch
      ≡ order_of (shape_in service batch) (closed (setup_of_batch service batch) is.of_run.events)
  order_is = ap (order_of (shape_in service batch)) (closing_is service batch is.of_run)

  -- what is left is what the run's table holds
  moved : IsPermutation (closed_pairs (shape_in service batch)
      (closed (setup_of_batch service batch) is.of_run.events).words) batch.pairs
  moved = subst (λ (words : List ℕ). IsPermutation (closed_pairs (shape_in service batch) words) batch.pairs)
      is.of_run.words_are is.left

  -- each answered call stands in it once
  whole : Whole (flat_map (λ (log : List Record). log) (map records_in batch.logs)) [] (order_in service batch)
  whole = subst at (sym (closing_is service batch is.of_run))
      (order_is_whole (setup_of_batch service batch) is.of_run.events is.of_run.run)
    where
      at : Closing → Type 0
      at c = Whole c.records (effects_of (shape_in service batch) c) (order_of (shape_in service batch) c)

  -- so its inserts are of the batch's keys, and the table answers as one with the settings of the service would
  among : All (InsertsAmong (keys_in_batch batch.first batch.calls)) (order_in service batch)
  among = order_among service batch.first batch.calls batch.logs (order_in service batch) is.of_run.asked whole

  same : IsAlike service.settings service.hashing batch.first batch.calls batch.settings
  same = alike service.settings service.hashing service.rows batch.first batch.calls batch.settings is.table

  -- its pairs can open the next table
  pub can_open : CanOpen (rules_of service) batch.pairs
  can_open =
      let r = pairs_reopen_in_any_turn (setup_of_batch service batch) is.of_run.events batch.pairs is.of_run.run moved
      in record { pairs = r.0; distinct = r.1; room = same.above batch.pairs r.2 }

  -- which begins with what the run's order leaves
  begins : sessions_with (rules_of service) batch.pairs
      ≡ sessions_of_order (setup_of_batch service batch) is.of_run.events
  begins =
      let setup = setup_of_batch service batch in
      let left : Sessions = sessions_of_order setup is.of_run.events in
      reopened (rules_of service) left batch.pairs
      (IsPermutation-trans (pairs_of left)
      (closed_pairs (shape_in service batch) (closed setup is.of_run.events).words) batch.pairs
      (pairs_are_of_the_order setup is.of_run.events is.of_run.run) moved) can_open.room

  -- and that is what is held after the order
  pub begins_next : sessions_with (rules_of service) batch.pairs
      ≡ sessions_after (rules_of service) (sessions_with (rules_of service) batch.first) (order_in service batch)
  begins_next =
      let rules : Rules = table_rules service batch in
      begins ∙ ap (sessions_after rules (sessions_with rules batch.first)) (sym order_is)
      ∙ same.after (order_in service batch) among

  -- its pairs are those that the next table begins with
  pub held : batch.pairs ≡ pairs_of (sessions_with (rules_of service) batch.pairs)
  held = sorted_pairs_are_held (setup_of_batch service batch) is.of_run.events batch.pairs is.of_run.run moved is.sorted
      ∙ ap pairs_of (sym begins)

  -- the order of the batch is right
  pub in_order : IsInOrder (rules_of service) (sessions_with (rules_of service) batch.first) (history_in service batch)
  in_order = record {
    numbered = numbered service batch is.of_run;
    legal = same.legal (order_in service batch) among
        (subst (Legal (table_rules service batch) (sessions_with (table_rules service batch) batch.first))
        (sym order_is)
        (order_is_legal (setup_of_batch service batch) is.of_run.events is.of_run.run));
    after = subst After (sym order_is) (order_is_after (setup_of_batch service batch) is.of_run.events is.of_run.run);
    whole = whole;
  }

  -- and so are its steps and its leaves
  pub sound : IsSound service batch
  sound =
      let words_are = is.of_run.words_are in
      let setup = setup_of_batch service batch in
      let events = is.of_run.events in
      let run = is.of_run.run in
      record {
        steps = subst (All (HasSteps setup batch.words))
            (flat_map-map (λ (log : List Record). log) records_in batch.logs) (steps service batch is.of_run);
        bound = same.bound;
        cover = subst (λ (words : List ℕ). Cover (closed_leaves (shape_in service batch) words)) (sym words_are)
            (leaves_cover setup events run);
        warranted = warranted;
        depth = subst (λ (words : List ℕ). closed_depth (shape_in service batch) words
            ≡ greatest_depth (closed_leaves (shape_in service batch) words)) (sym words_are)
            (depth_is_of_leaves setup events run);
      }
    where
      of_words : List ℕ → Type 0
      of_words words = Warranted (table_rules service batch) batch.settings.start batch.first (order_in service batch)
          (closed_leaves (shape_in service batch) words)

      of_order : List Placed → Type 0
      of_order order = Warranted (table_rules service batch) batch.settings.start batch.first order
          (closed_leaves (shape_in service batch) (closed (setup_of_batch service batch) is.of_run.events).words)

      warranted : Warranted (rules_of service) service.settings.start batch.first (order_in service batch)
          (leaves_in service batch)
      warranted = same.warranted (order_in service batch) (leaves_in service batch) among
          (subst of_words (sym is.of_run.words_are)
          (subst of_order (sym order_is)
          (leaves_are_warranted (setup_of_batch service batch) is.of_run.events is.of_run.run)))

-- each of them is sound
all_sound : (service : Service) (first : List Pair) (batches : List Served) → AreServed service first batches →
    All (IsSound service) batches
all_sound service first [] are = All-nil (IsSound service)
all_sound service first (batch ∷ batches) are =
    All-cons (IsSound service) batch batches (sound service batch are.1)
    (all_sound service batch.pairs batches are.2)

-- one after the other they are in order
pub all_in_order : (service : Service) (first : List Pair) (batches : List Served) → AreServed service first batches →
    AreInOrder (rules_of service) (sessions_with (rules_of service) first) (map (history_in service) batches)
    (sessions_with (rules_of service) (pairs_left first batches))
all_in_order service first [] are = refl
all_in_order service first (batch ∷ batches) are =
    let rules = rules_of service in
    let from : (start : List Pair) → Sessions = λ (start : List Pair). sessions_with rules start in
    let here = subst (λ (start : List Pair). IsInOrder rules (from start) (history_in service batch)) are.0
    (in_order service batch are.1) in
    let next : from batch.pairs ≡ sessions_after rules (from first) (order_in service batch) =
    begins_next service batch are.1
    ∙ ap (λ (start : List Pair). sessions_after rules (from start) (order_in service batch)) are.0 in (
      here,
      subst (λ (sessions : Sessions). AreInOrder rules sessions (map (history_in service) batches)
          (from (pairs_left batch.pairs batches))) next (all_in_order service batch.pairs batches are.2),
    )

-- what is left is held
pub all_held : (service : Service) (first : List Pair) (batches : List Served) → AreServed service first batches →
    first ≡ pairs_of (sessions_with (rules_of service) first) →
    pairs_left first batches ≡ pairs_of (sessions_with (rules_of service) (pairs_left first batches))
all_held service first [] are start = start
all_held service first (batch ∷ batches) are start =
    all_held service batch.pairs batches are.2 (held service batch are.1)

-- nothing is held at first
pub none_held : [] ≡ pairs_of empty
none_held = sym (pairs_of-sessions_of [] tt) ∙ ap pairs_of sessions_of-nil

pub served_are_right : BatchesAreOneOrder → ServedAreRight
served_are_right one service batches are = record {
  sessions = sessions_with (rules_of service) (pairs_left [] batches);
  one_order = one (rules_of service) empty (sessions_with (rules_of service) (pairs_left [] batches))
      (map (history_in service) batches) (all_in_order service [] batches are);
  left = all_held service [] batches are none_held;
  each = all_sound service [] batches are;
}
