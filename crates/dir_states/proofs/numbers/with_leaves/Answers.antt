use Rattle.std.proofs.Common.{◌≡◌, ℕ, ◌+◌, ◌-◌, ◌/◌, ◌<◌, ◌≤◌, ◌^◌, List, length, drop, get_or, map, subst, sym, ap, ◌∙◌, arith}
use Rattle.std.specs.Prelude.{slice_index}
use Rattle.std.proofs.lemmas.List.{drop_all}
use Rattle.table_model.specs.DirectoryChange.{number_at, with_leaves}
use Rattle.word_rows.specs.Blocks.{first_values}
use Rattle.dir_states.specs.declared.values.NewLeaf.{NewLeaf}
use Rattle.dir_states.specs.Views.{as_directory, as_leaf}
use Rattle.dir_states.proofs.NumberLemmas.{depth_after-each, length-first_values, value-at, values-at}
use Rattle.dir_states.proofs.numbers.with_leaves.Goals as goal
use Rattle.std.proofs.Math.Nat.{add-zero}

pub loop-left-init : goal.loop-left-init
loop-left-init c =
    let depth = c.depth_after-depth.result in
    let was : ℕ → ℕ = λ (place : ℕ). slice_index c.args.directory.now.entries.items
    (place / 2 ^ (depth - c.args.directory.now.depth)) in
    record {
      depth = c.double.ensures.depth;
      len = ap length c.double.ensures.entries ∙ length-first_values was (2 ^ depth);
      named = λ place none lt.
          ap (λ l. get_or l place none) c.double.ensures.entries ∙ value-at was (2 ^ depth) place none lt
          ∙ sym (ap (λ (l : List NewLeaf). number_at depth place (c.args.fresh + length c.args.leaves.now)
          (was place) (map as_leaf l))
          (drop_all (length c.args.leaves.now) c.args.leaves.now (omega arith)));
      within = omega arith;
      room = c.double.ensures.room;
    }

pub name-requires-clause-shallow : goal.name-requires-clause-shallow
name-requires-clause-shallow c =
    let each = depth_after-each (as_directory c.args.directory.now) c.args.leaves.now in
    let inside : c.loop-left.left - 1 < length c.args.leaves.now =
    omega (arith, c.loop-left-test.true, c.loop-left.invariant.within) in
    let at = each (c.loop-left.left - 1) c.index-leaves-left.result inside in
    let leaf : c.index-leaves-left.result ≡ get_or c.args.leaves.now
    (c.loop-left.left - 1) c.index-leaves-left.result = c.index-leaves-left.is in
    subst (λ (l : NewLeaf). l.bucket.depth ≤ c.depth_after-depth.result) (sym leaf)
    (omega (arith, at, c.depth_after-depth.ensures))

pub returns-clause-state : goal.returns-clause-state
unfolding with_leaves
returns-clause-state c =
    let depth = c.depth_after-depth.result in
    let directory = c.args.directory.now in
    let f : ℕ → ℕ → ℕ = λ (d place : ℕ). number_at d place c.args.fresh
    (slice_index directory.entries.items (place / 2 ^ (d - directory.depth))) (map as_leaf c.args.leaves.now) in
    let none_left : c.loop-left.left ≡ 0 = omega (arith, c.loop-left-test.false) in
    let entries : c.loop-left.state.entries.items ≡ first_values (f depth) (2 ^ depth) =
    values-at (f depth) c.loop-left.state.entries.items (2 ^ depth) c.loop-left.invariant.len
    (λ k none lt.
    c.loop-left.invariant.named k none lt
    ∙ ap (λ (n : ℕ). number_at depth k (c.args.fresh + n)
    (slice_index directory.entries.items (k / 2 ^ (depth - directory.depth)))
    (map as_leaf (drop n c.args.leaves.now))) none_left
    ∙ ap (λ (n : ℕ). number_at depth k n (slice_index directory.entries.items (k / 2 ^ (depth - directory.depth)))
    (map as_leaf c.args.leaves.now)) (add-zero c.args.fresh)) in
    ap (λ (d : ℕ). record { depth = d; entries = c.loop-left.state.entries.items }) c.loop-left.invariant.depth
    ∙ ap (λ (l : List ℕ). record { depth = depth; entries = l }) entries
    ∙ ap (λ (d : ℕ). record { depth = d; entries = first_values (f d) (2 ^ d) }) c.depth_after-depth.ensures
