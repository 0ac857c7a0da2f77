-- What is left to store is the leaves from the next one on, and the directory row.
use Rattle.std.proofs.Common.{◌≡◌, ◌+◌, ◌∙◌, ℕ, List, ◌++◌, drop, suc, map, sym, ap, arith}
use Rattle.step_counts.specs.StepCounts.{bucket_row_words}
use Rattle.word_rows.specs.Shape.{Shape}
use Rattle.table_model.specs.Leaves.{NewLeaf}
use Rattle.table_model.specs.Setup.{settings_of}
use Rattle.table_model.specs.Stores.{base_of_leaf, leaf_puts}
use Rattle.dir_states.specs.Views.{as_leaf, as_loaded}
use Rattle.seat_calls.specs.Changes.{changing}
use Rattle.seat_calls.specs.Desks.{settings_at}
use Rattle.seat_calls.specs.Going.{Going}
use Rattle.seat_calls.specs.Puts.{CanBeSpelled, directory_row_puts}
use Rattle.seat_calls.proofs.PutLemmas.{leaf_all, leaf_at, leaf_goes, leaf_left, leaf_next, puts_are}
use Rattle.seat_calls.proofs.storing.store_leaves.Goals as goal

pub loop-i-init : goal.loop-i-init
loop-i-init g c =
    let f : Going = g.S.Steps.now c.args.steps.now in
    let ch = changing c.args.found.now in
    let spent : f.flight.steps ≡ f.flight.steps + 0 = omega arith in
    let b : c.args.bucket ≡ c.args.bucket + 0 = omega arith in
    let n : c.args.number ≡ c.args.number + 0 = omega arith in
    record {
      goes = λ i. record {
        setup = f.setup;
        seat = f.seat;
        account = f.account;
        flight = record f.flight { steps = spent i };
        phase = c.requires.phase i;
      };
      left = puts_are f ch
          ∙ (λ i. leaf_puts f.setup (base_of_leaf ch.loaded) ((sym c.requires.bucket ∙ b) i)
          ((sym c.requires.number ∙ n) i) (sym c.requires.leaves i) ++ directory_row_puts f ch);
      few = omega arith;
      row = c.requires.row;
    }

pub store_leaf-requires-clause-leaf : goal.store_leaf-requires-clause-leaf
store_leaf-requires-clause-leaf g c =
    leaf_all (CanBeSpelled (settings_at c.args.desk.now) (map as_loaded c.args.found.now.loaded.now))
    c.args.leaves.now c.loop-i.i c.index-leaves-i.result
    c.requires.spelled c.loop-i-test.true c.index-leaves-i.is

pub store_leaf-requires-clause-next : goal.store_leaf-requires-clause-next
store_leaf-requires-clause-next g c =
    let f : Going = g.S.Steps.now c.args.steps.now in
    let ch = changing c.args.found.now in
    let i = c.loop-i.i in
    let leaves = map as_leaf c.args.leaves.now in
    let left = c.loop-i.invariant.left
    ∙ ap (λ (ls : List NewLeaf). leaf_puts f.setup (base_of_leaf ch.loaded) (c.args.bucket + i)
    (c.args.number + i) ls ++ directory_row_puts f ch)
    (leaf_at c.args.leaves.now i c.index-leaves-i.result c.loop-i-test.true c.index-leaves-i.is) in
    leaf_next f ch c.loop-i.stored (c.args.bucket + i) (c.args.number + i) (as_leaf c.index-leaves-i.result)
    (drop (suc i) leaves) (directory_row_puts f ch) left
    (g.S.Steps.now c.loop-i.steps) c.loop-i.invariant.goes

pub loop-i-preserved : goal.loop-i-preserved
loop-i-preserved g c =
    let f : Going = g.S.Steps.now c.args.steps.now in
    let ch = changing c.args.found.now in
    let i = c.loop-i.i in
    let v = c.loop-i.invariant in
    let leaves = map as_leaf c.args.leaves.now in
    let leaf = as_leaf c.index-leaves-i.result in
    let left = v.left
    ∙ ap (λ (ls : List NewLeaf). leaf_puts f.setup (base_of_leaf ch.loaded) (c.args.bucket + i)
    (c.args.number + i) ls ++ directory_row_puts f ch)
    (leaf_at c.args.leaves.now i c.index-leaves-i.result c.loop-i-test.true c.index-leaves-i.is) in
    let n : ℕ = 1 + c.args.desk.now.row_words in
    let wide : n ≡ 1 + bucket_row_words (settings_of f.setup) =
    ap (λ (k : ℕ). 1 + k) (c.args.desk.now.starts.row ∙ ap (λ (s : Shape). bucket_row_words s.settings)
    (sym c.requires.desk.shape)) in
    let b : suc (c.args.bucket + i) ≡ c.args.bucket + (i + 1) = omega arith in
    let m : suc (c.args.number + i) ≡ c.args.number + (i + 1) = omega arith in
    let j : suc i ≡ i + 1 = omega arith in
    record {
      goes = leaf_goes f ch c.loop-i.stored (c.args.bucket + i) (c.args.number + i) leaf (drop (suc i) leaves)
          (directory_row_puts f ch) left
          (g.S.Steps.now c.loop-i.steps) (g.S.Steps.now c.store_leaf.new.steps) n wide v.goes c.store_leaf.ensures.goes;
      left = leaf_left f ch c.loop-i.stored (c.args.bucket + i) (c.args.number + i) leaf (drop (suc i) leaves)
          (directory_row_puts f ch) left n wide
          ∙ (λ k. leaf_puts f.setup (base_of_leaf ch.loaded) (b k) (m k) (drop (j k) leaves)
          ++ directory_row_puts f ch);
      few = omega (arith, v.few, c.args.desk.now.starts.row);
      row = c.store_leaf.ensures.row;
    }
