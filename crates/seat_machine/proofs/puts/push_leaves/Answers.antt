-- One more leaf is stored.
use Rattle.std.proofs.Common.{◌+◌, ◌∙◌, Option, ℕ, map, sym, subst, arith}
use Rattle.step_counts.specs.StepCounts.{bucket_row_words}
use Rattle.word_rows.specs.BucketWords.{IsBucket, words_of_bucket}
use Rattle.word_rows.specs.LayoutView.{shape_of}
use Rattle.bucket_states.specs.States.{row_of_state, state_of}
use Rattle.table_model.specs.Leaves.{NewLeaf}
use Rattle.table_model.specs.Stores.{base_of_leaf}
use Rattle.dir_states.specs.Views.{as_loaded}
use Rattle.seat_machine.specs.View.{setup_at}
use Rattle.seat_machine.proofs.PutLemmas.{All-leaf, leaf_puts-more, times_more, times_next}
use Rattle.seat_machine.proofs.puts.push_leaves.Goals as goal

pub push_leaf-requires-clause-leaf : goal.push_leaf-requires-clause-leaf
push_leaf-requires-clause-leaf c =
    let settings = (shape_of c.args.layout.now).settings in
    let base = base_of_leaf (map as_loaded c.args.loaded.now) in
    let leaf = c.index-leaves-i.result in
    let fits = All-leaf (λ (l : NewLeaf). IsBucket settings (row_of_state (base l) l.bucket)) c.args.leaves.now
    c.loop-i.i leaf c.loop-i-test.true c.index-leaves-i.is c.requires.spelled in
    subst (λ (b : Option ℕ). IsBucket settings (row_of_state b (state_of leaf.bucket))) (sym c.base_of.ensures) fits

pub push_leaf-requires-clause-room : goal.push_leaf-requires-clause-room
push_leaf-requires-clause-room c =
    let inv = c.loop-i.invariant in
    omega (
      arith,
      inv.len,
      inv.capacity,
      c.requires.room,
      times_more c.loop-i.i _ (1 + bucket_row_words (shape_of c.args.layout.now).settings) c.loop-i-test.true,
    )

pub loop-i-preserved : goal.loop-i-preserved
loop-i-preserved c =
    let settings = (shape_of c.args.layout.now).settings in
    let base = base_of_leaf (map as_loaded c.args.loaded.now) in
    let leaf = c.index-leaves-i.result in
    let inv = c.loop-i.invariant in
    let done = c.push_leaf.ensures in
    record {
      puts = λ hashing.
          leaf_puts-more (setup_at c.args.layout.now hashing) base c.args.bucket c.args.row c.args.leaves.now c.loop-i.i
          leaf c.loop-i.puts.items c.push_leaf.new.puts.items
          (words_of_bucket settings (row_of_state c.base_of.result (state_of leaf.bucket)))
          c.loop-i-test.true c.index-leaves-i.is
          (λ j. words_of_bucket settings (row_of_state (c.base_of.ensures j) (state_of leaf.bucket)))
          done.puts
          ∙ inv.puts hashing;
      len = omega (arith, done.len, inv.len, times_next c.loop-i.i (1 + bucket_row_words settings));
      capacity = done.capacity ∙ inv.capacity;
      into = done.into;
      out = done.out ∙ inv.out;
    }
