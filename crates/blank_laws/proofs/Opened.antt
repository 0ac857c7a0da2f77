-- At the opening the words of all own bucket rows are 0: what is stored then has smaller numbers, or is a directory
-- row.
use Rattle.std.proofs.Common.{◌≡◌, ◌≢◌, ℕ, ◌+◌, ◌^◌, ◌<◌, List, [], ◌∷◌, ◌++◌, get_or, set, replicate, length, refl, ◌∙◌, arith, get_or-set_other}
use Rattle.std.specs.Prelude.{None}
use Rattle.std.proofs.Math.Nat.{mul-le-mul_right}
use Rattle.std.proofs.lemmas.List.{get_or-replicate}
use Rattle.step_counts.specs.StepCounts.{bucket_row_words}
use Rattle.plain_map.specs.declared.full.FullKind.TheVariants.{BucketRows}
use Rattle.word_rows.specs.declared.addresses.Address.TheVariants.{BucketWord, DirectoryWord}
use Rattle.word_rows.specs.Shape.{Shape}
use Rattle.word_rows.specs.Places.{place, word_count}
use Rattle.word_rows.proofs.OpeningNumbers.{words_there}
use Rattle.word_rows.proofs.Ranges.{range_after_opening, range_within}
use Rattle.change_laws.proofs.FirstLeaves.{first_opens}
use Rattle.table_model.specs.declared.events.Put.{Put}
use Rattle.table_model.specs.Setup.{Setup, IsSetup, seats_of}
use Rattle.table_model.specs.Leaves.{NewLeaf}
use Rattle.table_model.specs.Opening.{opening_directory}
use Rattle.table_model.specs.Stores.{directory_words, leaf_puts, row_puts, with_puts}
use Rattle.table_model.specs.Worlds.{first_leaves, opening_words}
use Rattle.run_laws.proofs.Puts.{EachPut, each_append, leaves_bounded, row_each}
use Rattle.blank_laws.specs.OwnRows.{IsOwnPlace, OwnRowsOpenBlank}
use Rattle.blank_laws.proofs.Others.{before_rows, directory_behind, row_before}

-- a word to which none of the stores is keeps what it holds
puts_leave : (shape : Shape) (at : ℕ) (puts : List Put) (words : List ℕ) →
    EachPut (λ put. at ≢ place shape put.address) puts → get_or (with_puts shape words puts) at 0 ≡ get_or words at 0
puts_leave shape at [] words each = refl
puts_leave shape at (put ∷ puts) words each =
    puts_leave shape at puts (set words (place shape put.address) put.word) each.1
    ∙ get_or-set_other words (place shape put.address) at put.word 0 each.0

module _ (setup : Setup) (seat at : ℕ) (s : IsSetup setup) (h : seat < seats_of setup)
    (own : IsOwnPlace setup.shape seat at) where
  -- the leaves of the opening
  abbrev leaves : List NewLeaf
  leaves = first_leaves setup

  -- no store is to the word
  abbrev Leaves : Put → Type 0
  Leaves put = at ≢ place setup.shape put.address

  -- there are no more leaves than the opening has rows and words
  few : (i : ℕ) → i < length leaves → i < 2 ^ setup.shape.settings.depth
  few i lt = omega (arith, lt, (first_opens setup s).few)

  -- the stores of the leaves are before
  leaves_before : EachPut Leaves (leaf_puts setup (λ _. None) 0 0 leaves)
  leaves_before = leaves_bounded Leaves setup (λ _. None) 0 0 leaves
      (λ i w n. before_rows setup seat at s.shape h own (place setup.shape (BucketWord (0 + i)))
      (omega (arith, few i n, words_there setup.shape)))
      (λ i j w n m. row_before setup seat at s.shape h own (0 + i) j
      (omega (arith, few i n, range_after_opening setup.shape BucketRows seat)) m)

  -- and those of the directory row are behind
  directory_after : EachPut Leaves
      (row_puts (DirectoryWord 0) 0 (directory_words None (opening_directory setup.shape.settings.start leaves)))
  directory_after = row_each Leaves (DirectoryWord 0) 0
      (directory_words None (opening_directory setup.shape.settings.start leaves))
      (λ j w. directory_behind setup seat at s.shape h own 0 j)

  -- the word is one of the table's
  inside : at < word_count setup.shape
  inside =
      let all = range_within setup.shape BucketRows seat (omega (arith, h, s.shape.each_seat)) in
      omega (arith, own.below, mul-le-mul_right (bucket_row_words setup.shape.settings) all)

  -- so it is 0
  open_blank : get_or (opening_words setup) at 0 ≡ 0
  unfolding opening_words
  open_blank =
      puts_leave setup.shape at
      (leaf_puts setup (λ _. None) 0 0 leaves
      ++ row_puts (DirectoryWord 0) 0 (directory_words None (opening_directory setup.shape.settings.start leaves)))
      (replicate (word_count setup.shape) 0)
      (each_append Leaves (leaf_puts setup (λ _. None) 0 0 leaves)
      (row_puts (DirectoryWord 0) 0 (directory_words None (opening_directory setup.shape.settings.start leaves)))
      leaves_before directory_after)
      ∙ get_or-replicate (word_count setup.shape) at 0 0 inside

-- the words of a seat's own bucket rows are 0 at the opening
pub own_rows_open_blank : OwnRowsOpenBlank
own_rows_open_blank setup seat at s h own = open_blank setup seat at s h own
