-- The calls that a play tells, and the pairs that it leaves, have keys with texts, since those of all calls have.
use Rattle.std.proofs.Common.{◌≡◌, ℕ, List, [], ◌++◌, map, sym, subst}
use Rattle.std.specs.List.{All}
use Rattle.std.proofs.lemmas.List.Elements.{All-append, All-contains, All-filter, All-map, All-weaker}
use Rattle.std.proofs.lemmas.List.Sorted.{All-permutation}
use Rattle.plain_map.specs.declared.calls.Call.{Call}
use Rattle.plain_map.specs.declared.keys.Pair.{Pair}
use Rattle.plain_map.specs.declared.records.Pending.{Pending}
use Rattle.plain_map.specs.Calls.{key_in}
use Rattle.plain_map.specs.PlainObject.{pairs_of}
use Rattle.plain_map.specs.History.{Placed, answered, call_in, pending, sessions_after}
use Rattle.plain_map.specs.Asked.{keys_asked, SessionsAreAsked}
use Rattle.key_texts.specs.FlowText.{HasText}
use Rattle.trace_share.specs.declared.outcome.Outcome.{Outcome}
use Rattle.trace_share.specs.declared.outcome.Outcome.TheVariants.{Answered, Refused}
use Rattle.trace_share.specs.Outcomes.{asked_in}
use Rattle.report_text.specs.Report.{call_in as call_of}
use Rattle.table_model.specs.Setup.{Setup, rules_of}
use Rattle.table_model.specs.Order.{effects_of, order_of, took_effect}
use Rattle.table_model.specs.Closed.{begun_of, closed_pairs, closing_of, records_of, sessions_with}
use Rattle.table_model.specs.Schedules.{Play}
use Rattle.play_runner.specs.declared.values.Played.{Played}
use Rattle.play_runner.specs.Played.{IsPlayed}
use Rattle.play_mode.specs.Playing.{IsRightPlay}
use Rattle.play_mode.proofs.DealtLemmas.{ToldRight}

-- the key of a call has a text
abbrev pub CallHasText : ℕ × Call → Type 0
CallHasText call = HasText (key_in call.1)

-- of an outcome, as the report takes it
same_call : (ended : ℕ × Outcome) → CallHasText (asked_in ended.1) → HasText (key_in (call_of ended.1))
same_call (seat, Answered made) text = text
same_call (seat, Refused packet call full) text = text

module _ (setup : Setup) (play : Play) (played : Played) (told : ToldRight CallHasText setup play)
    (comes : IsPlayed setup play played) where
  -- the calls that ended
  pub texts-ended : All (λ (ended : ℕ × Outcome). HasText (key_in (call_of ended.1))) played.outcomes.items
  texts-ended =
      All-weaker (λ (ended : ℕ × Outcome). CallHasText (asked_in ended.1))
      (λ (ended : ℕ × Outcome). HasText (key_in (call_of ended.1))) same_call played.outcomes.items
      (All-permutation (λ (ended : ℕ × Outcome). CallHasText (asked_in ended.1)) _ played.outcomes.items comes.outcomes
      told.ended)

  -- those that are under way
  pub texts-under-way : All (λ (begun : Pending). HasText (key_in begun.call)) played.pending.items
  texts-under-way =
      subst (All (λ (begun : Pending). HasText (key_in begun.call))) (sym comes.pending) told.under_way

  -- the pairs
  pub texts-pairs : IsRightPlay setup play → setup.first ≡ [] → SessionsAreAsked →
      All (λ (pair : Pair). HasText pair.key) played.pairs.items
  texts-pairs right none asked =
      let order : List Placed = order_of setup.shape (closing_of play.world) in
      let effects : List Pending = effects_of setup.shape (closing_of play.world) in
      let of : Placed → Type 0 = λ placed. HasText (key_in (call_in placed)) in
      let records : All of (map answered (records_of play.world) ++ map pending effects) =
      All-append of (map answered (records_of play.world)) (map pending effects)
      (All-map of answered (records_of play.world) told.answered)
      (All-map of pending effects
      (All-filter (took_effect setup.shape play.world.words) (λ (u : Pending). HasText (key_in u.call))
      (begun_of play.world) told.under_way)) in
      let keys : All HasText (keys_asked order) =
      All-map HasText (λ (placed : Placed). key_in (call_in placed)) order
      (All-permutation of (map answered (records_of play.world) ++ map pending effects) order right.right.whole records)
      in
      let held : All (λ (pair : Pair). HasText pair.key) (pairs_of (sessions_after (rules_of setup)
      (sessions_with (rules_of setup) []) order)) =
      λ k d within. All-contains HasText (keys_asked order) _ keys (asked (rules_of setup) order k d within) in
      let from_first : All (λ (pair : Pair). HasText pair.key) (pairs_of (sessions_after (rules_of setup)
      (sessions_with (rules_of setup) setup.first) order)) =
      subst (λ (first : List Pair). All (λ (pair : Pair). HasText pair.key) (pairs_of (sessions_after (rules_of setup)
      (sessions_with (rules_of setup) first) order))) (sym none) held in
      All-permutation (λ (pair : Pair). HasText pair.key) (closed_pairs setup.shape play.world.words)
      played.pairs.items comes.pairs
      (All-permutation (λ (pair : Pair). HasText pair.key) _ (closed_pairs setup.shape play.world.words)
      right.right.pairs from_first)
