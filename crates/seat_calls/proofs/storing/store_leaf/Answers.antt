-- The leaf's word comes next, and then the words of its row.
use Rattle.std.proofs.Common.{◌≡◌, ◌+◌, ◌∙◌, ℕ, List, ◌++◌, Option, drop, length, replicate, refl, sym, ap, subst, arith}
use Rattle.std.proofs.lemmas.List.{append-nil}
use Rattle.step_counts.specs.StepCounts.{bucket_row_words}
use Rattle.word_rows.specs.Shape.{Shape}
use Rattle.word_rows.specs.Places.{IsAddress, place}
use Rattle.word_rows.specs.BucketWords.{words_of_bucket}
use Rattle.word_rows.specs.declared.addresses.Address.TheVariants.{BucketRowWord, BucketWord}
use Rattle.word_rows.proofs.BucketLemmas.{length-bucket}
use Rattle.bucket_states.specs.States.{row_of_state}
use Rattle.table_model.specs.declared.events.Ask.{Ask}
use Rattle.table_model.specs.declared.events.Put.{Put}
use Rattle.table_model.specs.declared.events.Action.TheVariants.{Store}
use Rattle.table_model.specs.Asks.{action_of}
use Rattle.table_model.specs.Setup.{settings_of}
use Rattle.table_model.specs.Steps.{IsOnWord}
use Rattle.table_model.specs.Stores.{base_of_leaf, bucket_words, row_puts}
use Rattle.dir_states.specs.Views.{as_leaf}
use Rattle.seat_calls.specs.Changes.{changing}
use Rattle.seat_calls.specs.Going.{Going, Writes, asks, goes_by, later}
use Rattle.seat_calls.specs.Puts.{puts_of, storing}
use Rattle.seat_calls.proofs.RunLemmas.{later_later}
use Rattle.seat_calls.proofs.PutLemmas.{put_asks, put_goes, put_left, run_goes, run_writes}
use Rattle.seat_calls.proofs.storing.store_leaf.Goals as goal

pub bucket_word-requires : goal.bucket_word-requires
bucket_word-requires g c =
    let f : Going = g.S.Steps.now c.args.steps.now in
    let next = c.requires.next in
    let asked = put_asks (changing c.args.found.now) f c.args.stored next.phase _ _ next.left in
    subst (λ (s : Shape). IsAddress s (BucketWord c.args.bucket)) c.requires.desk.shape
    (subst (IsOnWord f.setup.shape) asked c.stands.ensures.on_word)

pub store-requires-clause-asked : goal.store-requires-clause-asked
store-requires-clause-asked g c =
    let f : Going = g.S.Steps.now c.args.steps.now in
    let next = c.requires.next in
    let asked = put_asks (changing c.args.found.now) f c.args.stored next.phase _ _ next.left in
    let there = ap (λ (s : Shape). place s (BucketWord c.args.bucket)) c.requires.desk.shape
    ∙ sym c.bucket_word.ensures in
    ap (λ (a : Ask). action_of f.setup.shape a) asked ∙ ap (λ (k : ℕ). Store k c.args.number) there

pub bucket_row-requires : goal.bucket_row-requires
bucket_row-requires g c =
    let f : Going = g.S.Steps.now c.args.steps.now in
    let ch = changing c.args.found.now in
    let next = c.requires.next in
    let leaf = as_leaf c.args.leaf.now in
    let words = bucket_words f.setup (base_of_leaf ch.loaded leaf) leaf.bucket in
    let mid : Going = later f 1 (storing f ch (c.args.stored + 1)) in
    let here = c.store.ensures.goes ∙ put_goes ch f c.args.stored next.phase _ _ next.left in
    let left = put_left ch f c.args.stored next.phase _ _ next.left in
    let asked = put_asks ch mid (c.args.stored + 1) refl _ _ left in
    let on_word = subst (λ (h : Going). IsOnWord h.setup.shape (asks h)) here c.stands-2.ensures.on_word in
    subst (λ (s : Shape). IsAddress s (BucketRowWord c.args.number 0)) c.requires.desk.shape
    (subst (IsOnWord f.setup.shape) asked on_word)

pub store_run-requires-clause-writes : goal.store_run-requires-clause-writes
store_run-requires-clause-writes g c =
    let f : Going = g.S.Steps.now c.args.steps.now in
    let ch = changing c.args.found.now in
    let next = c.requires.next in
    let leaf = as_leaf c.args.leaf.now in
    let base = base_of_leaf ch.loaded leaf in
    let mid : Going = later f 1 (storing f ch (c.args.stored + 1)) in
    let here = c.store.ensures.goes ∙ put_goes ch f c.args.stored next.phase _ _ next.left in
    let row = row_puts (BucketRowWord c.args.number) 0 (bucket_words f.setup base leaf.bucket) in
    let left : drop (c.args.stored + 1) (puts_of f ch) ≡ row ++ next.rest =
    put_left ch f c.args.stored next.phase _ _ next.left
    ∙ ap (λ (ps : List Put). ps ++ next.rest) (append-nil row) in
    let words : c.write_bucket.new.out ≡ bucket_words f.setup base leaf.bucket =
    c.write_bucket.ensures ∙ (λ i. words_of_bucket (sym c.requires.desk.shape i).settings
    ((c.to_row.ensures.content ∙ ap (λ (b : Option ℕ). row_of_state b leaf.bucket) c.base_of.ensures) i)) in
    let at : c.bucket_row.result ≡ place f.setup.shape (BucketRowWord c.args.number 0) =
    c.bucket_row.ensures.value ∙ ap (λ (s : Shape). place s (BucketRowWord c.args.number 0))
    (sym c.requires.desk.shape) in
    subst (λ (h : Going). Writes h c.bucket_row.result c.write_bucket.new.out) (sym here)
    (run_writes ch c.write_bucket.new.out mid (c.args.stored + 1) refl
    (BucketRowWord c.args.number) 0 c.bucket_row.result next.rest
    (left ∙ ap (λ (ws : List ℕ). row_puts (BucketRowWord c.args.number) 0 ws ++ next.rest) (sym words))
    (λ k. omega (arith, at)))

pub returns-clause-goes : goal.returns-clause-goes
returns-clause-goes g c =
    let f : Going = g.S.Steps.now c.args.steps.now in
    let ch = changing c.args.found.now in
    let next = c.requires.next in
    let leaf = as_leaf c.args.leaf.now in
    let base = base_of_leaf ch.loaded leaf in
    let here = c.store.ensures.goes ∙ put_goes ch f c.args.stored next.phase _ _ next.left in
    let mid : Going = later f 1 (storing f ch (c.args.stored + 1)) in
    let row = row_puts (BucketRowWord c.args.number) 0 (bucket_words f.setup base leaf.bucket) in
    let left : drop (c.args.stored + 1) (puts_of f ch) ≡ row ++ next.rest =
    put_left ch f c.args.stored next.phase _ _ next.left
    ∙ ap (λ (ps : List Put). ps ++ next.rest) (append-nil row) in
    let words : c.write_bucket.new.out ≡ bucket_words f.setup base leaf.bucket =
    c.write_bucket.ensures ∙ (λ i. words_of_bucket (sym c.requires.desk.shape i).settings
    ((c.to_row.ensures.content ∙ ap (λ (b : Option ℕ). row_of_state b leaf.bucket) c.base_of.ensures) i)) in
    let n : ℕ = length c.write_bucket.new.out in
    let size : ℕ = bucket_row_words (settings_of f.setup) in
    let long : n ≡ size = ap (λ (ws : List ℕ). length ws) words
    ∙ length-bucket (settings_of f.setup) (row_of_state base leaf.bucket) in
    let sum : c.args.stored + 1 + n ≡ c.args.stored + (1 + size) = omega (arith, long) in
    c.store_run.ensures.goes ∙ ap (λ (h : Going). goes_by h (replicate n 0)) here
    ∙ (run_goes ch c.write_bucket.new.out mid (c.args.stored + 1) refl (BucketRowWord c.args.number) 0 next.rest
    (left ∙ ap (λ (ws : List ℕ). row_puts (BucketRowWord c.args.number) 0 ws ++ next.rest) (sym words))).0
    ∙ later_later f 1 n (storing f ch (c.args.stored + 1)) (storing f ch (c.args.stored + 1 + n))
    ∙ (λ i. later f (1 + long i) (storing f ch (sum i)))
