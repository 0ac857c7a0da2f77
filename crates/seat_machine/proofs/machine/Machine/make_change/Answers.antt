-- There is room for all that is stored, and it is what the definition has.
use Rattle.std.proofs.Common.{◌≡◌, ℕ, ◌+◌, ◌^◌, ◌≤◌, ◌∙◌, ◌++◌, List, Some, length, map, take, sym, ap, arith}
use Rattle.std.proofs.lemmas.List.{length-map}
use Rattle.step_counts.specs.StepCounts.{bucket_row_words}
use Rattle.plain_map.specs.declared.full.FullKind.TheVariants.{BucketWords}
use Rattle.word_rows.specs.declared.addresses.Address.TheVariants.{DirectoryWord}
use Rattle.table_model.specs.DirectoryChange.{with_leaves}
use Rattle.table_model.specs.Leaves.{NewLeaf}
use Rattle.table_model.specs.Setup.{next_number}
use Rattle.table_model.specs.Stores.{base_of_leaf, directory_words, leaf_puts, made_leaves, row_puts}
use Rattle.dir_states.specs.Rooms.{most_leaves}
use Rattle.dir_states.specs.Views.{as_directory, as_leaf, as_loaded}
use Rattle.seat_machine.specs.Stages.{directory_try_of}
use Rattle.seat_machine.specs.View.{loaded_in, setup_of, sizes}
use Rattle.seat_machine.proofs.PutLemmas.{entries_few, puts_are, times_less}
use Rattle.seat_machine.proofs.machine.Machine.make_change.Goals as goal

pub push_directory-requires-clause-room : goal.push_directory-requires-clause-room
push_directory-requires-clause-room c =
    let m = c.args.self.now in
    let now = c.change_leaves.new.self in
    let done = c.change_leaves.ensures in
    let directory = as_directory m.directory in
    let made = made_leaves (setup_of m) (directory_try_of c.args.turn c.args.first c.args.root directory) m.found.items
    (loaded_in m) in
    let count : length c.leaves.result.now ≡ length now.change.leaves.made.items =
    sym (length-map c.leaves.result.now as_leaf) ∙ ap {A = List NewLeaf} {B = ℕ} length c.leaves.ensures
    ∙ length-map now.change.leaves.made.items as_leaf in
    let most : length c.leaves.result.now ≤ most_leaves (sizes now).seats (sizes now).depth =
    omega (arith, count, now.change.leaves.made.ok.0, done.room.change.all) in
    let less = times_less (length c.leaves.result.now) (most_leaves (sizes now).seats (sizes now).depth)
    (1 + bucket_row_words (sizes now)) most in
    let few = entries_few c.next_number-fresh.result (sizes m).depth made directory c.requires.loads.depth
    (λ k d l. (c.requires.makes.leaves k d l).depth) in
    let long : length c.state.result.now.entries.items
    ≡ length (with_leaves c.next_number-fresh.result made directory).entries =
    (λ i. length (c.state.ensures i).entries) ∙ (λ i. length (done.state i).entries)
    ∙ (λ i. length (with_leaves c.next_number-fresh.result (done.leaves i) directory).entries) in
    let deep : 2 ^ (sizes now).depth ≡ 2 ^ (sizes m).depth = λ i. 2 ^ (done.same.setup i).shape.settings.depth in
    omega (
      arith,
      c.push_leaves.ensures.len,
      c.push_leaves.ensures.capacity,
      done.room.puts,
      less,
      few,
      long,
      deep,
      c.state.result.now.entries.ok.0,
    )

pub returns-clause-change : goal.returns-clause-change
returns-clause-change c =
    let m = c.args.self.now in
    let now = c.change_leaves.new.self in
    let done = c.change_leaves.ensures in
    let directory = as_directory m.directory in
    let attempt = directory_try_of c.args.turn c.args.first c.args.root directory in
    let leaves = done.leaves
    ∙ (λ i. made_leaves (sym done.same.setup i) attempt (sym done.found i).items (sym done.loaded i)) in
    let fresh = c.next_number-fresh.ensures.value
    ∙ (λ i. next_number (sym done.same.setup i) (sym done.same.seat i) BucketWords (sym done.same.used i)) in
    let first_leaves = c.leaves.ensures ∙ leaves in
    let front = c.push_leaves.ensures.puts now.hashing
    ∙ (λ i. leaf_puts (setup_of now) (base_of_leaf (map as_loaded (take now.many (c.deref.ensures.value i)))) (fresh i)
    (c.next_number-row.ensures.value i) (first_leaves i)) in
    let made = c.state.ensures ∙ done.state ∙ (λ i. with_leaves (fresh i) (leaves i) directory) in
    record {
      leaves = leaves;
      puts = c.push_directory.ensures.puts
          ∙ (λ i. front i ++ row_puts (DirectoryWord (c.next_number-number.ensures.value i)) 0
          (directory_words (Some c.args.root) (made i)))
          ∙ sym (puts_are (setup_of now) now.seat now.used attempt now.found.items (loaded_in now));
    }
