-- What an opening writes: its leaves and its directory row, one row after the other.
use Rattle.std.proofs.Common.{◌≡◌, ℕ, suc, ◌+◌, ◌^◌, ◌<◌, ◌≤◌, List, [], ◌∷◌, length, drop, drop-cons, get_or, set, replicate, map, refl, sym, ap, ◌∙◌, arith}
use Rattle.std.specs.Prelude.{None, Option}
use Rattle.std.proofs.lemmas.List.{get_or-map, length-map}
use Rattle.std.proofs.lemmas.List.Sums.{fold-append}
use Rattle.std.proofs.Math.Pow.{pow_mono}
use Rattle.word_rows.specs.Shape.{Shape}
use Rattle.word_rows.specs.Places.{IsAddress, place, word_count}
use Rattle.word_rows.specs.PlaceLaws.{PlacesAreWithin}
use Rattle.word_rows.specs.declared.addresses.Address.{Address}
use Rattle.word_rows.specs.declared.addresses.Address.TheVariants.{BucketRowWord, BucketWord, DirectoryWord}
use Rattle.word_rows.specs.BucketWords.{words_of_bucket}
use Rattle.bucket_states.specs.States.{row_of_state}
use Rattle.table_model.specs.declared.events.Put.{Put}
use Rattle.table_model.specs.Directories.{DirectoryState}
use Rattle.table_model.specs.Leaves.{NewLeaf}
use Rattle.table_model.specs.Stores.{with_puts, leaf_puts, row_puts, directory_words}
use Rattle.dir_states.specs.declared.values.NewLeaf as D
use Rattle.dir_states.specs.Views.{as_leaf}
use Rattle.opening_words.specs.Written.{spelling, words_with, written}

-- a row that is stored word by word is written from its first place on
pub row_written : (shape : Shape) (at : ℕ → Address) → ((j : ℕ) → place shape (at (suc j)) ≡ suc (place shape (at j))) →
    (words : List ℕ) (i : ℕ) (row : List ℕ) →
    with_puts shape words (row_puts at i row) ≡ written words (place shape (at i)) row
row_written shape at step words i [] = refl
row_written shape at step words i (word ∷ row) =
    row_written shape at step (set words (place shape (at i)) word) (suc i) row
    ∙ ap (λ (start : ℕ). written (set words (place shape (at i)) word) start row) (step i)

-- the words of a bucket row lie one after the other
bucket_places : (shape : Shape) (row j : ℕ) →
    place shape (BucketRowWord row (suc j)) ≡ suc (place shape (BucketRowWord row j))
bucket_places shape row j = omega arith

-- and so do those of a directory row
pub directory_places : (shape : Shape) (row j : ℕ) →
    place shape (DirectoryWord row (suc j)) ≡ suc (place shape (DirectoryWord row j))
directory_places shape row j = omega arith

-- a leaf among those that were made
pub leaf_at : (made : List D.NewLeaf) (leaves : List NewLeaf) (i : ℕ) (leaf : D.NewLeaf) → map as_leaf made ≡ leaves →
    i < length made → leaf ≡ get_or made i leaf →
    (drop i leaves ≡ as_leaf leaf ∷ drop (suc i) leaves) × (i < length leaves)
    × (get_or leaves i (as_leaf leaf) ≡ as_leaf leaf)
leaf_at made leaves i leaf are h is =
    let long : length (map as_leaf made) ≡ length made = length-map made as_leaf in
    let within : i < length leaves = omega (arith, h, long, ap length are) in
    let at : get_or leaves i (as_leaf leaf) ≡ as_leaf leaf =
    sym (ap (λ (ls : List NewLeaf). get_or ls i (as_leaf leaf)) are)
    ∙ get_or-map as_leaf made i leaf (as_leaf leaf) h ∙ ap as_leaf (sym is) in
    (drop-cons leaves i (as_leaf leaf) within ∙ ap (λ (l : NewLeaf). l ∷ drop (suc i) leaves) at, within, at)

-- no bucket of an opening is made from another
abbrev pub no_base : NewLeaf → Option ℕ
no_base leaf = None

module _ (shape : Shape) where
  -- the stores of these leaves, the first of which has this number
  abbrev pub leaves_from : (number : ℕ) → List NewLeaf → List Put
  leaves_from number leaves = leaf_puts (spelling shape) no_base number number leaves

  -- the words before anything is written
  abbrev pub blank_words : List ℕ
  blank_words = replicate (word_count shape) 0

  -- these words with a leaf of this number
  abbrev pub with_leaf : List ℕ → (number : ℕ) → NewLeaf → List ℕ
  with_leaf words number leaf =
      written (set words (place shape (BucketWord number)) number) (place shape (BucketRowWord number 0))
      (words_of_bucket shape.settings (row_of_state None leaf.bucket))

  -- the leaves from one on, and the words with one more of them
  pub one_leaf : (words : List ℕ) (i : ℕ) (leaf : NewLeaf) (leaves : List NewLeaf) →
      with_puts shape words (leaves_from i (leaf ∷ leaves))
      ≡ with_puts shape (with_leaf words i leaf) (leaves_from (suc i) leaves)
  one_leaf words i leaf leaves =
      let f : List ℕ → Put → List ℕ = λ so_far put. set so_far (place shape put.address) put.word in
      let spelled : List ℕ = words_of_bucket shape.settings (row_of_state None leaf.bucket) in
      let row : List Put = row_puts (BucketRowWord i) 0 spelled in
      let rest : List Put = leaves_from (suc i) leaves in
      fold-append f (set words (place shape (BucketWord i)) i) row rest
      ∙ ap (λ (ws : List ℕ). with_puts shape ws rest)
      (row_written shape (BucketRowWord i) (bucket_places shape i) (set words (place shape (BucketWord i)) i) 0 spelled)

  -- the leaves from one on are those after it
  pub one_more_leaf : (words after : List ℕ) (i : ℕ) (leaf : NewLeaf) (leaves : List NewLeaf) →
      drop i leaves ≡ leaf ∷ drop (suc i) leaves → after ≡ with_leaf words i leaf →
      with_puts shape words (leaves_from i (drop i leaves)) ≡ with_puts shape blank_words (leaves_from 0 leaves) →
      with_puts shape after (leaves_from (i + 1) (drop (i + 1) leaves))
      ≡ with_puts shape blank_words (leaves_from 0 leaves)
  one_more_leaf words after i leaf leaves next made so_far =
      let one : i + 1 ≡ suc i = omega arith in
      (λ k. with_puts shape (made k) (leaves_from (one k) (drop (one k) leaves)))
      ∙ sym (one_leaf words i leaf (drop (suc i) leaves))
      ∙ sym (ap (λ (ls : List NewLeaf). with_puts shape words (leaves_from i ls)) next)
      ∙ so_far

  -- with all leaves and the directory row, the words are those of the opening
  pub all_written : (words after : List ℕ) (n : ℕ) (leaves : List NewLeaf) (directory : DirectoryState) →
      drop n leaves ≡ [] →
      with_puts shape words (leaves_from n (drop n leaves)) ≡ with_puts shape blank_words (leaves_from 0 leaves) →
      after ≡ written words (place shape (DirectoryWord 0 0)) (directory_words None directory) →
      after ≡ words_with shape leaves directory
  all_written words after n leaves directory none so_far made =
      let f : List ℕ → Put → List ℕ = λ so_far put. set so_far (place shape put.address) put.word in
      let row : List ℕ = directory_words None directory in
      let all : words ≡ with_puts shape blank_words (leaves_from 0 leaves) =
      sym (ap (λ (ls : List NewLeaf). with_puts shape words (leaves_from n ls)) none) ∙ so_far in
      made
      ∙ ap (λ (ws : List ℕ). written ws (place shape (DirectoryWord 0 0)) row) all
      ∙ sym (row_written shape (DirectoryWord 0) (directory_places shape 0)
      (with_puts shape blank_words (leaves_from 0 leaves)) 0 row)
      ∙ sym (fold-append f blank_words (leaves_from 0 leaves) (row_puts (DirectoryWord 0) 0 row))

-- a directory of the table finds room in the first directory row
pub directory_fits : (shape : Shape) (depth : ℕ) → PlacesAreWithin → depth ≤ shape.settings.depth →
    IsAddress shape (DirectoryWord 0 0) → place shape (DirectoryWord 0 0) + (2 + 2 ^ depth) ≤ word_count shape
directory_fits shape depth within shallow inside =
    let up : 2 ^ depth ≤ 2 ^ shape.settings.depth = pow_mono shallow in
    let last : place shape (DirectoryWord 0 (1 + 2 ^ shape.settings.depth)) < word_count shape =
    within shape (DirectoryWord 0 (1 + 2 ^ shape.settings.depth)) (inside.0, omega arith) in
    omega (arith, up, last)
