-- Words that are all 0 but at some places: what writing adds to these places, and what clearing takes from them.
use Rattle.std.proofs.Common.{◌≡◌, ℕ, zero, suc, ◌+◌, ◌≤◌, List, [], ◌∷◌, length, get_or, set, replicate, inl, inr, refl, sym, ap, ◌∙◌, subst, arith, get_or-set_other}
use Rattle.std.specs.Prelude.{◌⊎◌, None}
use Rattle.std.proofs.lemmas.Bool.{cases_eq}
use Rattle.std.proofs.lemmas.List.Sums.{fold-append}
use Rattle.step_counts.specs.StepCounts.{bucket_row_words}
use Rattle.word_rows.specs.Shape.{Shape}
use Rattle.word_rows.specs.Places.{place, word_count}
use Rattle.word_rows.specs.declared.addresses.Address.TheVariants.{BucketRowWord, BucketWord, DirectoryWord}
use Rattle.word_rows.specs.BucketWords.{words_of_bucket}
use Rattle.word_rows.proofs.BucketLemmas.{length-bucket}
use Rattle.bucket_states.specs.States.{row_of_state}
use Rattle.table_model.specs.declared.events.Put.{Put}
use Rattle.table_model.specs.Leaves.{NewLeaf}
use Rattle.table_model.specs.Directories.{DirectoryState}
use Rattle.table_model.specs.Stores.{with_puts, row_puts, directory_words}
use Rattle.list_laws.proofs.Cuts.{zero_at}
use Rattle.opening_words.specs.Written.{words_with, written}
use Rattle.opening_words.proofs.Dirt.{IsAmong, IsBlankBut, IsOfLeaf, IsOfLeaves, IsOfOpening}
use Rattle.opening_words.proofs.WritingLemmas.{blank_words, directory_places, leaves_from, one_leaf, row_written, with_leaf}

-- a word that was cleared is 0, also where there is none
zero_here : (words : List ℕ) (i : ℕ) → get_or (set words i 0) i 0 ≡ 0
zero_here [] i = refl
zero_here (word ∷ words) zero = refl
zero_here (word ∷ words) (suc i) = zero_here words i

-- so many words that are 0
abbrev zeros : ℕ → List ℕ
zeros n = replicate n 0

-- and words that are so at each place are all 0
pub all_zero : (words : List ℕ) → ((j : ℕ) → get_or words j 0 ≡ 0) → words ≡ replicate (length words) 0
all_zero [] each = refl
all_zero (word ∷ words) each = λ i. each 0 i ∷ all_zero words (λ j. each (suc j)) i

-- ---- writing

-- a word is written
word_but : (dirty : ℕ → Type 0) (words : List ℕ) (at word : ℕ) → IsBlankBut dirty words →
    IsBlankBut (λ j. (j ≡ at) ⊎ dirty j) (set words at word)
word_but dirty words at word blank j =
    elim (cases_eq j at) [
      | inl is ↦ inr (inl is)
      | inr ne ↦ elim (blank j) [
        | inl e ↦ inl (get_or-set_other words at j word 0 ne ∙ e)
        | inr d ↦ inr (inr d)
      ]
    ]

-- a row is written
row_but : (dirty : ℕ → Type 0) (words : List ℕ) (start : ℕ) (row : List ℕ) → IsBlankBut dirty words →
    IsBlankBut (λ j. IsAmong start (length row) j ⊎ dirty j) (written words start row)
row_but dirty words start [] blank j =
    elim (blank j) [
      | inl e ↦ inl e
      | inr d ↦ inr (inr d)
    ]
row_but dirty words start (word ∷ row) blank j =
    elim (row_but (λ k. (k ≡ start) ⊎ dirty k) (set words start word) (suc start) row
    (word_but dirty words start word blank) j) [
      | inl e ↦ inl e
      | inr (inl among) ↦ inr (inl (omega (arith, among.0), omega (arith, among.1)))
      | inr (inr (inl is)) ↦ inr (inl (omega (arith, is), omega (arith, is)))
      | inr (inr (inr d)) ↦ inr (inr d)
    ]

-- ---- clearing

-- a word is cleared
pub word_cleared : (dirty : ℕ → Type 0) (words : List ℕ) (at : ℕ) → IsBlankBut (λ j. (j ≡ at) ⊎ dirty j) words →
    IsBlankBut dirty (set words at 0)
word_cleared dirty words at blank j =
    elim (cases_eq j at) [
      | inl is ↦ inl (ap (λ k. get_or (set words at 0) k 0) is ∙ zero_here words at)
      | inr ne ↦ elim (blank j) [
        | inl e ↦ inl (get_or-set_other words at j 0 0 ne ∙ e)
        | inr (inl is) ↦ absurd (ne is)
        | inr (inr d) ↦ inr d
      ]
    ]

-- a row is cleared
pub row_cleared : (dirty : ℕ → Type 0) (count start : ℕ) (words : List ℕ) →
    IsBlankBut (λ j. IsAmong start count j ⊎ dirty j) words → IsBlankBut dirty (written words start (replicate count 0))
row_cleared dirty zero start words blank = λ j.
    elim (blank j) [
      | inl e ↦ inl e
      | inr (inl among) ↦ absurd (omega (arith, among.0, among.1))
      | inr (inr d) ↦ inr d
    ]
row_cleared dirty (suc count) start words blank =
    row_cleared dirty count (suc start) (set words start 0)
    (word_cleared (λ j. IsAmong (suc start) count j ⊎ dirty j) words start (λ j. elim (blank j) [
      | inl e ↦ inl e
      | inr (inl among) ↦ elim (cases_eq j start) [
        | inl is ↦ inr (inl is)
        | inr ne ↦ inr (inr (inl (omega (arith, among.0, ne), omega (arith, among.1))))
      ]
      | inr (inr d) ↦ inr (inr (inr d))
    ]))

-- ---- an opening

module _ (shape : Shape) where
  -- the leaves from one on are written
  leaves_but : (words : List ℕ) (i : ℕ) (leaves : List NewLeaf) → IsBlankBut (IsOfLeaves shape 0 i) words →
      IsBlankBut (IsOfLeaves shape 0 (i + length leaves)) (with_puts shape words (leaves_from shape i leaves))
  leaves_but words i [] blank = λ j.
      elim (blank j) [
        | inl e ↦ inl e
        | inr d ↦ inr (d.0, d.1, omega (arith, d.2), d.3)
      ]
  leaves_but words i (leaf ∷ leaves) blank =
      let row : List ℕ = words_of_bucket shape.settings (row_of_state None leaf.bucket) in
      let after : List ℕ = with_leaf shape words i leaf in
      let word_written = word_but (IsOfLeaves shape 0 i) words (place shape (BucketWord i)) i blank in
      let both_written = row_but (λ j. (j ≡ place shape (BucketWord i)) ⊎ IsOfLeaves shape 0 i j)
      (set words (place shape (BucketWord i)) i) (place shape (BucketRowWord i 0)) row word_written in
      let wide : length row ≡ bucket_row_words shape.settings =
      length-bucket shape.settings (row_of_state None leaf.bucket) in
      let next : IsBlankBut (IsOfLeaves shape 0 (suc i)) after =
      (λ j. elim (both_written j) [
        | inl e ↦ inl e
        | inr (inl among) ↦ inr (i, omega arith, omega arith, inr (among.0, omega (arith, among.1, wide)))
        | inr (inr (inl is)) ↦ inr (i, omega arith, omega arith, inl is)
        | inr (inr (inr d)) ↦ inr (d.0, d.1, omega (arith, d.2), d.3)
      ]) in
      let rest = leaves_but after (suc i) leaves next in
      let many : suc i + length leaves ≡ i + length (leaf ∷ leaves) = omega arith in
      subst (IsBlankBut (IsOfLeaves shape 0 (i + length (leaf ∷ leaves)))) (sym (one_leaf shape words i leaf leaves))
      (subst (λ n. IsBlankBut (IsOfLeaves shape 0 n) (with_puts shape after (leaves_from shape (suc i) leaves))) many
      rest)

  -- the words of an opening are 0 but at its leaves and in its directory row
  pub opening_but : (leaves : List NewLeaf) (directory : DirectoryState) →
      IsBlankBut (IsOfOpening shape 0 (length leaves) (2 + length directory.entries))
      (words_with shape leaves directory)
  opening_but leaves directory =
      let f : List ℕ → Put → List ℕ = λ so_far put. set so_far (place shape put.address) put.word in
      let row : List ℕ = directory_words None directory in
      let words : List ℕ = with_puts shape (blank_words shape) (leaves_from shape 0 leaves) in
      let is : words_with shape leaves directory ≡ written words (place shape (DirectoryWord 0 0)) row =
      fold-append f (blank_words shape) (leaves_from shape 0 leaves) (row_puts (DirectoryWord 0) 0 row)
      ∙ row_written shape (DirectoryWord 0) (directory_places shape 0) words 0 row in
      let of_leaves = leaves_but (blank_words shape) 0 leaves (λ j. inl (zero_at (word_count shape) j)) in
      let both_written = row_but (IsOfLeaves shape 0 (0 + length leaves)) words (place shape (DirectoryWord 0 0)) row
      of_leaves in
      subst (IsBlankBut (IsOfOpening shape 0 (length leaves) (2 + length directory.entries))) (sym is)
      (λ j. elim (both_written j) [
        | inl e ↦ inl e
        | inr (inl among) ↦ inr (inr (among.0, omega (arith, among.1)))
        | inr (inr d) ↦ inr (inl (d.0, d.1, omega (arith, d.2), d.3))
      ])

-- clearing a leaf leaves the others
pub leaf_cleared : (shape : Shape) (words : List ℕ) (i leaves width : ℕ) →
    IsBlankBut (IsOfOpening shape i leaves width) words →
    IsBlankBut (IsOfOpening shape (i + 1) leaves width)
    (written (set words (place shape (BucketWord i)) 0) (place shape (BucketRowWord i 0))
    (replicate (bucket_row_words shape.settings) 0))
leaf_cleared shape words i leaves width blank =
    let rest : ℕ → Type 0 = IsOfOpening shape (i + 1) leaves width in
    let start : ℕ = place shape (BucketRowWord i 0) in
    row_cleared rest (bucket_row_words shape.settings) start (set words (place shape (BucketWord i)) 0)
    (word_cleared (λ j. IsAmong start (bucket_row_words shape.settings) j ⊎ rest j) words (place shape (BucketWord i))
    (λ j. elim (blank j) [
      | inl e ↦ inl e
      | inr (inr among) ↦ inr (inr (inr (inr among)))
      | inr (inl d) ↦ elim (cases_eq d.0 i) [
        | inl is ↦ elim (subst (λ n. IsOfLeaf shape n j) is d.3) [
          | inl here ↦ inr (inl here)
          | inr among ↦ inr (inr (inl among))
        ]
        | inr ne ↦ inr (inr (inr (inl (d.0, omega (arith, d.1, ne), d.2, d.3))))
      ]
    ]))

-- clearing the directory row, after all leaves, leaves nothing
pub opening_cleared : (shape : Shape) (words : List ℕ) (i leaves width : ℕ) → leaves ≤ i →
    IsBlankBut (IsOfOpening shape i leaves width) words →
    written words (place shape (DirectoryWord 0 0)) (replicate width 0)
    ≡ replicate (length (written words (place shape (DirectoryWord 0 0)) (replicate width 0))) 0
opening_cleared shape words i leaves width all blank =
    let start : ℕ = place shape (DirectoryWord 0 0) in
    let none : IsBlankBut (λ j. ⊥) (written words start (replicate width 0)) =
    row_cleared (λ j. ⊥) width start words (λ j. elim (blank j) [
      | inl e ↦ inl e
      | inr (inl d) ↦ absurd (omega (arith, d.1, d.2))
      | inr (inr among) ↦ inr (inl among)
    ]) in
    all_zero (written words start (replicate width 0)) (λ j. elim (none j) [
      | inl e ↦ e
      | inr d ↦ absurd d
    ])
