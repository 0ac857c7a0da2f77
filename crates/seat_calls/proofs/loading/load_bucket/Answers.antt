-- The row's words are followed by the next bucket, or by what is stored.
use Rattle.std.proofs.Common.{◌≡◌, ◌+◌, ◌∙◌, ℕ, List, [], ◌∷◌, length, get_or, ◌<◌, take, map, sym, ap, subst, arith}
use Rattle.std.proofs.lemmas.List.Elements.{All-append, All-cons, All-nil}
use Rattle.step_counts.specs.StepCounts.{bucket_row_words}
use Rattle.word_rows.specs.BucketWords.{bucket_of_words}
use Rattle.bucket_states.specs.States.{state_in_row}
use Rattle.table_model.specs.Setup.{settings_of}
use Rattle.table_model.specs.DirectoryChange.{LoadedBucket}
use Rattle.table_model.specs.Fits.{Makes}
use Rattle.table_model.specs.Goes.{after_loaded, more}
use Rattle.dir_states.specs.declared.values.Loaded.{Loaded}
use Rattle.dir_states.specs.Rooms.{HasItems}
use Rattle.dir_states.specs.Views.{as_loaded}
use Rattle.dir_states.proofs.ChangeLemmas.{loaded_more}
use Rattle.seat_calls.specs.Desks.{settings_at}
use Rattle.seat_calls.specs.Going.{Going, later}
use Rattle.seat_calls.specs.Tries.{directory_trying}
use Rattle.seat_calls.proofs.RunLemmas.{take_more}
use Rattle.seat_calls.proofs.LoadLemmas.{bucket_goes, bucket_makes}
use Rattle.seat_calls.proofs.loading.load_bucket.Goals as goal

pub returns-clause-goes : goal.returns-clause-goes
returns-clause-goes g c =
    let f : Going = g.S.Steps.now c.args.steps.now in
    let mid : Going = g.S.Steps.now c.load-row.new.self in
    let a = c.args.attempt.now in
    let were = map as_loaded (take c.args.count c.args.loaded.now) in
    let words = c.load_row.new.words in
    let row = c.load-row.result in
    let one = c.read_loaded.new.into in
    let read : as_loaded one ≡ record {
      bucket = c.args.bucket;
      row = row;
      state = state_in_row (bucket_of_words (settings_of f.setup) words);
    } =
    c.read_loaded.ensures.is
    ∙ (λ i. record {
      bucket = c.args.bucket;
      row = row;
      state = state_in_row (bucket_of_words (sym c.requires.desk.shape i).settings words);
    }) in
    let now_are = loaded_more c.args.loaded.now c.args.count one c.requires.count
    ∙ ap (λ (l : LoadedBucket). more were l) read in
    c.load_row.ensures.goes
    ∙ bucket_goes f mid a.round (directory_trying a) c.args.ops.now were c.args.bucket row c.requires.phase
    c.load-row.ensures.goes words
    ∙ ap (λ (ls : List LoadedBucket). later f (1 + bucket_row_words (settings_of f.setup))
    (after_loaded f.setup a.round (directory_trying a) c.args.ops.now ls)) (sym now_are)

pub returns-clause-makes : goal.returns-clause-makes
returns-clause-makes g c =
    let f : Going = g.S.Steps.now c.args.steps.now in
    let mid : Going = g.S.Steps.now c.load-row.new.self in
    let a = c.args.attempt.now in
    let were = map as_loaded (take c.args.count c.args.loaded.now) in
    let words = c.load_row.new.words in
    let row = c.load-row.result in
    let one = c.read_loaded.new.into in
    let read : as_loaded one ≡ record {
      bucket = c.args.bucket;
      row = row;
      state = state_in_row (bucket_of_words (settings_of f.setup) words);
    } =
    c.read_loaded.ensures.is
    ∙ (λ i. record {
      bucket = c.args.bucket;
      row = row;
      state = state_in_row (bucket_of_words (sym c.requires.desk.shape i).settings words);
    }) in
    let now_are = loaded_more c.args.loaded.now c.args.count one c.requires.count
    ∙ ap (λ (l : LoadedBucket). more were l) read in
    subst (λ (ls : List LoadedBucket). Makes f.setup
    (after_loaded f.setup a.round (directory_trying a) c.args.ops.now ls)) (sym now_are)
    (bucket_makes f mid a.round (directory_trying a) c.args.ops.now were c.args.bucket row c.requires.phase
    c.load-row.ensures.goes words c.load_row.ensures.makes)

pub returns-clause-items : goal.returns-clause-items
returns-clause-items g c =
    let fits = HasItems (settings_at c.args.desk.now).items in
    let one = c.read_loaded.new.into in
    let were = take c.args.count c.args.loaded.now in
    subst (λ (ls : List Loaded). (k : ℕ) → (d : Loaded) → k < length ls → fits (get_or ls k d))
    (sym (take_more c.args.loaded.now c.args.count (c.args.count + 1) one (omega arith) c.requires.count))
    (All-append fits were (one ∷ []) c.requires.items (All-cons fits one [] c.read_loaded.ensures.items (All-nil fits)))
