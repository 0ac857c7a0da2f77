use Rattle.std.proofs.Common.{◌≡◌, ◌+◌, ◌∙◌, ℕ, List, Option, Some, [], length, refl, sym, arith}
use Rattle.std.specs.Prelude.{replicate, slice_index}
use Rattle.step_counts.specs.StepCounts.{bucket_row_words}
use Rattle.plain_map.specs.declared.full.FullKind.TheVariants.{BucketRows}
use Rattle.word_rows.specs.Places.{place}
use Rattle.word_rows.specs.declared.addresses.Address.TheVariants.{BucketRowWord}
use Rattle.bucket_states.specs.declared.ops.Op.{Op}
use Rattle.table_model.specs.declared.events.Action.TheVariants.{Store}
use Rattle.table_model.specs.declared.rounds.Round.{Round}
use Rattle.table_model.specs.Setup.{next_number, settings_of}
use Rattle.table_model.specs.Phases.{BucketTry, TryExchange, TryStore}
use Rattle.table_model.specs.Stores.{bucket_words, made_bucket}
use Rattle.seat_calls.specs.Going.{Going, Writes, goes_by, later}
use Rattle.seat_calls.proofs.RunLemmas.{row_stored, row_writes, short_is}
use Rattle.seat_calls.proofs.rows.store_row.Goals as goal

abbrev size : Going → ℕ
size g = bucket_row_words (settings_of g.setup)

module _ (g : Going) (round : Round) (attempt : BucketTry) (found : List (Option Op))
    (phase : g.phase ≡ TryStore round attempt found 0) where
  abbrev row : ℕ
  row = next_number g.setup g.seat BucketRows g.account.used

  stored : (words : List ℕ) → length words ≡ size g →
      goes_by g (replicate (length words) 0) ≡ later g (size g) (TryExchange round attempt found)
  stored words is =
      row_stored g (size g) (TryStore round attempt found) (TryExchange round attempt found) _ (λ k word. refl) phase
      (short_is (size g) (λ ws. TryStore round attempt found (length ws)) (λ _. TryExchange round attempt found) []
      (omega arith)) words is

  writes : (start : ℕ) (words : List ℕ) → start ≡ place g.setup.shape (BucketRowWord row 0) → length words ≡ size g →
      words ≡ bucket_words g.setup (Some attempt.row) (made_bucket g.setup attempt found) → Writes g start words
  writes start words at is same =
      row_writes g (size g) (TryStore round attempt found) (TryExchange round attempt found) _ (λ k word. refl) phase
      (short_is (size g) (λ ws. TryStore round attempt found (length ws)) (λ _. TryExchange round attempt found) []
      (omega arith)) start words is
      (λ i k h. let there : place g.setup.shape (BucketRowWord row i) ≡ start + i = omega (arith, at) in
      ((λ j. Store (there j) (slice_index (sym same j) i)), tt))

pub store_run-requires-clause-writes : goal.store_run-requires-clause-writes
store_run-requires-clause-writes g c =
    let f : Going = g.S.Steps.now c.args.steps.now in
    let s = c.requires.storing in
    let at = c.bucket_row-start.ensures.value
    ∙ (λ j. place (sym c.requires.desk.shape j) (BucketRowWord (c.requires.row j) 0)) in
    writes f s.round s.attempt s.found s.phase c.bucket_row-start.result c.args.words.now at c.requires.words
    s.words_are

pub returns : goal.returns
returns g c round attempt found phase =
    let f : Going = g.S.Steps.now c.args.steps.now in
    c.store_run.ensures.goes ∙ stored f round attempt found phase c.args.words.now c.requires.words
