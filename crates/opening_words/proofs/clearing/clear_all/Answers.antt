use Rattle.std.proofs.Common.{◌≡◌, ℕ, ◌+◌, ◌∙◌, ◌^◌, List, length, replicate, sym, ap, subst, arith}
use Rattle.std.proofs.lemmas.List.{length-map}
use Rattle.word_rows.specs.LayoutView.{shape_of}
use Rattle.word_rows.specs.Places.{place}
use Rattle.word_rows.specs.declared.addresses.Address.TheVariants.{DirectoryWord}
use Rattle.table_model.specs.Directories.{DirectoryState}
use Rattle.dir_states.specs.Openings.{first_directory, first_leaves}
use Rattle.dir_states.specs.Views.{as_leaf}
use Rattle.opening_words.specs.Written.{written}
use Rattle.opening_words.proofs.Dirt.{IsBlankBut, IsOfOpening}
use Rattle.opening_words.proofs.ClearingLemmas.{leaf_cleared, opening_but, opening_cleared}
use Rattle.word_rows.proofs.OpeningNumbers.{directory_there}
use Rattle.word_rows.proofs.OpeningNumbers.{rows_there}
use Rattle.word_rows.proofs.OpeningNumbers.{words_there}
use Rattle.opening_words.proofs.clearing.clear_all.Goals as goal

pub loop-number-init : goal.loop-number-init
loop-number-init c =
    let shape = shape_of c.args.layout.now in
    let leaves = first_leaves c.args.made.now in
    let directory = first_directory c.args.made.now in
    record {
      left = subst (IsBlankBut (IsOfOpening shape 0 (length leaves) (2 + length directory.entries)))
          (sym c.requires.words) (opening_but shape leaves directory);
      len = c.requires.count;
    }

pub clear_leaf-requires-clause-word : goal.clear_leaf-requires-clause-word
clear_leaf-requires-clause-word c =
    let many = ap length c.leaves-leaves.ensures in
    let mapped = length-map c.leaves-leaves.result.now as_leaf in
    omega (
      arith,
      many,
      mapped,
      c.requires.fit.few,
      c.loop-number-test.true,
      words_there (shape_of c.args.layout.now),
    )

pub clear_leaf-requires-clause-inside : goal.clear_leaf-requires-clause-inside
clear_leaf-requires-clause-inside c =
    let many = ap length c.leaves-leaves.ensures in
    let mapped = length-map c.leaves-leaves.result.now as_leaf in (
      omega (
        arith,
        many,
        mapped,
        c.requires.fit.few,
        c.loop-number-test.true,
        rows_there (shape_of c.args.layout.now),
      ),
      omega arith,
    )

pub loop-number-preserved : goal.loop-number-preserved
loop-number-preserved c =
    let shape = shape_of c.args.layout.now in
    let i = c.loop-number.number in
    let many = length (first_leaves c.args.made.now) in
    let width : ℕ = 2 + length (first_directory c.args.made.now).entries in
    record {
      left = subst (IsBlankBut (IsOfOpening shape (i + 1) many width)) (sym c.clear_leaf.ensures.words)
          (leaf_cleared shape c.loop-number.words i many width c.loop-number.invariant.left);
      len = c.clear_leaf.ensures.len ∙ c.loop-number.invariant.len;
    }

pub clear_directory-requires-clause-inside : goal.clear_directory-requires-clause-inside
clear_directory-requires-clause-inside c = (directory_there (shape_of c.args.layout.now), omega arith)

pub clear_directory-requires-clause-depth : goal.clear_directory-requires-clause-depth
clear_directory-requires-clause-depth c =
    omega (arith, ap (λ (d : DirectoryState). d.depth) c.state.ensures, c.requires.fit.shallow)

pub clear_directory-requires-clause-entries : goal.clear_directory-requires-clause-entries
clear_directory-requires-clause-entries c =
    subst (λ (d : DirectoryState). length d.entries ≡ 2 ^ d.depth) (sym c.state.ensures) c.requires.fit.long

pub returns-clause-zeros : goal.returns-clause-zeros
returns-clause-zeros c =
    let shape = shape_of c.args.layout.now in
    let words : List ℕ = c.loop-number.words in
    let many = length (first_leaves c.args.made.now) in
    let mapped = length-map c.leaves-leaves.result.now as_leaf in
    let width : ℕ = 2 + length (first_directory c.args.made.now).entries in
    let cleared : c.clear_directory.new.words ≡ written words (place shape (DirectoryWord 0 0)) (replicate width 0) =
    c.clear_directory.ensures.words
    ∙ ap (λ (d : DirectoryState). written words (place shape (DirectoryWord 0 0)) (replicate (2 + length d.entries) 0))
    c.state.ensures in
    let all = opening_cleared shape words c.loop-number.number many width
    (omega (arith, ap length c.leaves-leaves.ensures, mapped, c.loop-number-test.false)) c.loop-number.invariant.left in
    let long : length c.clear_directory.new.words ≡ length words = c.clear_directory.ensures.len in
    cleared ∙ all
    ∙ ap (λ (n : ℕ). replicate n 0) (ap length (sym cleared) ∙ long ∙ c.loop-number.invariant.len)
