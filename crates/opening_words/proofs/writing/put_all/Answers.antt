use Rattle.std.proofs.Common.{◌≡◌, ◌∙◌, ◌^◌, ◌≤◌, length, sym, ap, subst, arith}
use Rattle.std.specs.Prelude.{None}
use Rattle.std.proofs.lemmas.List.{drop_all, length-map}
use Rattle.word_rows.specs.LayoutView.{shape_of}
use Rattle.word_rows.specs.Places.{place}
use Rattle.word_rows.specs.declared.addresses.Address.TheVariants.{DirectoryWord}
use Rattle.word_rows.specs.BucketWords.{IsBucket}
use Rattle.bucket_states.specs.States.{row_of_state}
use Rattle.table_model.specs.Directories.{DirectoryState}
use Rattle.table_model.specs.Leaves.{NewLeaf}
use Rattle.table_model.specs.Stores.{directory_words}
use Rattle.dir_states.specs.Openings.{first_directory, first_leaves}
use Rattle.dir_states.specs.Views.{as_leaf}
use Rattle.opening_words.specs.Written.{written}
use Rattle.opening_words.proofs.WritingLemmas.{all_written, leaf_at, one_more_leaf}
use Rattle.word_rows.proofs.OpeningNumbers.{directory_there}
use Rattle.word_rows.proofs.OpeningNumbers.{rows_there}
use Rattle.word_rows.proofs.OpeningNumbers.{words_there}
use Rattle.opening_words.proofs.writing.put_all.Goals as goal

pub put_leaf-requires-clause-word : goal.put_leaf-requires-clause-word
put_leaf-requires-clause-word c =
    let here = leaf_at c.leaves-leaves.result.now (first_leaves c.args.made.now) c.loop-i.i c.index-leaves-i.result
    c.leaves-leaves.ensures c.loop-i-test.true c.index-leaves-i.is in
    omega (arith, here.1, c.requires.fit.few, words_there (shape_of c.args.layout.now))

pub put_leaf-requires-clause-inside : goal.put_leaf-requires-clause-inside
put_leaf-requires-clause-inside c =
    let here = leaf_at c.leaves-leaves.result.now (first_leaves c.args.made.now) c.loop-i.i c.index-leaves-i.result
    c.leaves-leaves.ensures c.loop-i-test.true c.index-leaves-i.is in
    (omega (arith, here.1, c.requires.fit.few, rows_there (shape_of c.args.layout.now)), omega arith)

pub put_leaf-requires-clause-spelled : goal.put_leaf-requires-clause-spelled
put_leaf-requires-clause-spelled c =
    let leaf = as_leaf c.index-leaves-i.result in
    let here = leaf_at c.leaves-leaves.result.now (first_leaves c.args.made.now) c.loop-i.i c.index-leaves-i.result
    c.leaves-leaves.ensures c.loop-i-test.true c.index-leaves-i.is in
    subst (λ (l : NewLeaf). IsBucket (shape_of c.args.layout.now).settings (row_of_state None l.bucket)) here.2
    (c.requires.fit.spelled c.loop-i.i leaf here.1)

pub loop-i-preserved : goal.loop-i-preserved
loop-i-preserved c =
    let shape = shape_of c.args.layout.now in
    let leaves = first_leaves c.args.made.now in
    let leaf = as_leaf c.index-leaves-i.result in
    let here = leaf_at c.leaves-leaves.result.now leaves c.loop-i.i c.index-leaves-i.result
    c.leaves-leaves.ensures c.loop-i-test.true c.index-leaves-i.is in
    record {
      left = one_more_leaf shape c.loop-i.words c.put_leaf.new.words c.loop-i.i leaf leaves here.0
          c.put_leaf.ensures.words c.loop-i.invariant.left;
      len = c.put_leaf.ensures.len ∙ c.loop-i.invariant.len;
      row = c.put_leaf.ensures.row;
    }

pub put_directory-requires-clause-inside : goal.put_directory-requires-clause-inside
put_directory-requires-clause-inside c = (directory_there (shape_of c.args.layout.now), omega arith)

pub put_directory-requires-clause-depth : goal.put_directory-requires-clause-depth
put_directory-requires-clause-depth c =
    omega (arith, ap (λ (d : DirectoryState). d.depth) c.state.ensures, c.requires.fit.shallow)

pub put_directory-requires-clause-entries : goal.put_directory-requires-clause-entries
put_directory-requires-clause-entries c =
    subst (λ (d : DirectoryState). length d.entries ≡ 2 ^ d.depth) (sym c.state.ensures) c.requires.fit.long

pub returns-clause-words : goal.returns-clause-words
returns-clause-words c =
    let shape = shape_of c.args.layout.now in
    let i = c.loop-i.i in
    let leaves = first_leaves c.args.made.now in
    let mapped = length-map c.leaves-leaves.result.now as_leaf in
    let long : length leaves ≤ i = omega (arith, c.loop-i-test.false, ap length c.leaves-leaves.ensures, mapped) in
    all_written shape c.loop-i.words c.put_directory.new.words i leaves (first_directory c.args.made.now)
    (drop_all i leaves long) c.loop-i.invariant.left
    (c.put_directory.ensures.words
    ∙ ap (λ (d : DirectoryState). written c.loop-i.words (place shape (DirectoryWord 0 0)) (directory_words None d))
    c.state.ensures)
