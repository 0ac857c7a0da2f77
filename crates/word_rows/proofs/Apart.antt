-- The places of the words: within the table, and apart. The laws of ranges are in Ranges.
use Rattle.std.proofs.Common.{◌≡◌, ℕ, ◌+◌, ◌*◌, ◌<◌, refl, ap, ◌∙◌, arith}
use Rattle.std.proofs.lemmas.Nat.{same_from_place, mul-add-lt}
use Rattle.step_counts.specs.declared.TheConstants.{OP_WORDS}
use Rattle.step_counts.specs.StepCounts.{bucket_row_words, directory_row_words}
use Rattle.plain_map.specs.declared.full.FullKind.TheVariants.{OpRows, BucketRows, DirRows}
use Rattle.word_rows.specs.Shape.{Shape, count_of}
use Rattle.word_rows.specs.Places.{Address, Root, Announcement, Done, BucketWord, OpWord, BucketRowWord, DirectoryWord, IsAddress, place, word_count}

-- a word of a row lies within the rows
pub row_within : (row w i rows : ℕ) → row < rows → i < w → row * w + i < rows * w
row_within row w i rows h k = grind (arith, mul-add-lt)

-- within the table
pub place_within : (shape : Shape) (a : Address) → IsAddress shape a → place shape a < word_count shape
place_within shape Root h = omega arith
place_within shape (Announcement s) h = omega arith
place_within shape (Done s) h = omega arith
place_within shape (BucketWord s) h = omega arith
place_within shape (OpWord r i) h = omega (arith, row_within r (OP_WORDS) i (count_of shape OpRows) h.0 h.1)
place_within shape (BucketRowWord r i) h = omega (
  arith,
  row_within r (bucket_row_words shape.settings) i
      (count_of shape BucketRows) h.0 h.1,
)
place_within shape (DirectoryWord r i) h = omega (
  arith,
  row_within r (directory_row_words shape.settings) i
      (count_of shape DirRows) h.0 h.1,
)

-- two addresses that have one place are one
pub place_apart : (shape : Shape) (a b : Address) → IsAddress shape a → IsAddress shape b →
    place shape a ≡ place shape b → a ≡ b
place_apart shape Root Root h k e = refl
place_apart shape Root (Announcement t) h k e = absurd (omega arith)
place_apart shape Root (Done t) h k e = absurd (omega arith)
place_apart shape Root (BucketWord t) h k e = absurd (omega arith)
place_apart shape Root (OpWord q j) h k e = absurd (omega arith)
place_apart shape Root (BucketRowWord q j) h k e = absurd (omega arith)
place_apart shape Root (DirectoryWord q j) h k e = absurd (omega arith)
place_apart shape (Announcement s) Root h k e = absurd (omega arith)
place_apart shape (Announcement s) (Announcement t) h k e = (let p : s ≡ t = omega arith in ap Announcement p)
place_apart shape (Announcement s) (Done t) h k e = absurd (omega arith)
place_apart shape (Announcement s) (BucketWord t) h k e = absurd (omega arith)
place_apart shape (Announcement s) (OpWord q j) h k e = absurd (omega arith)
place_apart shape (Announcement s) (BucketRowWord q j) h k e = absurd (omega arith)
place_apart shape (Announcement s) (DirectoryWord q j) h k e = absurd (omega arith)
place_apart shape (Done s) Root h k e = absurd (omega arith)
place_apart shape (Done s) (Announcement t) h k e = absurd (omega arith)
place_apart shape (Done s) (Done t) h k e = (let p : s ≡ t = omega arith in ap Done p)
place_apart shape (Done s) (BucketWord t) h k e = absurd (omega arith)
place_apart shape (Done s) (OpWord q j) h k e = absurd (omega arith)
place_apart shape (Done s) (BucketRowWord q j) h k e = absurd (omega arith)
place_apart shape (Done s) (DirectoryWord q j) h k e = absurd (omega arith)
place_apart shape (BucketWord s) Root h k e = absurd (omega arith)
place_apart shape (BucketWord s) (Announcement t) h k e = absurd (omega arith)
place_apart shape (BucketWord s) (Done t) h k e = absurd (omega arith)
place_apart shape (BucketWord s) (BucketWord t) h k e = (let p : s ≡ t = omega arith in ap BucketWord p)
place_apart shape (BucketWord s) (OpWord q j) h k e = absurd (omega arith)
place_apart shape (BucketWord s) (BucketRowWord q j) h k e = absurd (omega arith)
place_apart shape (BucketWord s) (DirectoryWord q j) h k e = absurd (omega arith)
place_apart shape (OpWord r i) Root h k e = absurd (omega arith)
place_apart shape (OpWord r i) (Announcement t) h k e = absurd (omega arith)
place_apart shape (OpWord r i) (Done t) h k e = absurd (omega arith)
place_apart shape (OpWord r i) (BucketWord t) h k e = absurd (omega arith)
place_apart shape (OpWord r i) (OpWord q j) h k e =
    let p : r * (OP_WORDS) + i ≡ q * (OP_WORDS) + j = omega arith in
    let both = same_from_place r i q j (OP_WORDS) h.1 k.1 p in
    ap (λ x. OpWord x i) both.0 ∙ ap (λ x. OpWord q x) both.1
place_apart shape (OpWord r i) (BucketRowWord q j) h k e =
    absurd (omega (arith, row_within r (OP_WORDS) i (count_of shape OpRows) h.0 h.1))
place_apart shape (OpWord r i) (DirectoryWord q j) h k e =
    absurd (omega (arith, row_within r (OP_WORDS) i (count_of shape OpRows) h.0 h.1))
place_apart shape (BucketRowWord r i) Root h k e = absurd (omega arith)
place_apart shape (BucketRowWord r i) (Announcement t) h k e = absurd (omega arith)
place_apart shape (BucketRowWord r i) (Done t) h k e = absurd (omega arith)
place_apart shape (BucketRowWord r i) (BucketWord t) h k e = absurd (omega arith)
place_apart shape (BucketRowWord r i) (OpWord q j) h k e =
    absurd (omega (arith, row_within q (OP_WORDS) j (count_of shape OpRows) k.0 k.1))
place_apart shape (BucketRowWord r i) (BucketRowWord q j) h k e =
    let p : r * (bucket_row_words shape.settings) + i ≡ q * (bucket_row_words shape.settings) + j = omega arith in
    let both = same_from_place r i q j (bucket_row_words shape.settings) h.1 k.1 p in
    ap (λ x. BucketRowWord x i) both.0 ∙ ap (λ x. BucketRowWord q x) both.1
place_apart shape (BucketRowWord r i) (DirectoryWord q j) h k e =
    absurd (omega (arith, row_within r (bucket_row_words shape.settings) i (count_of shape BucketRows) h.0 h.1))
place_apart shape (DirectoryWord r i) Root h k e = absurd (omega arith)
place_apart shape (DirectoryWord r i) (Announcement t) h k e = absurd (omega arith)
place_apart shape (DirectoryWord r i) (Done t) h k e = absurd (omega arith)
place_apart shape (DirectoryWord r i) (BucketWord t) h k e = absurd (omega arith)
place_apart shape (DirectoryWord r i) (OpWord q j) h k e =
    absurd (omega (arith, row_within q (OP_WORDS) j (count_of shape OpRows) k.0 k.1))
place_apart shape (DirectoryWord r i) (BucketRowWord q j) h k e =
    absurd (omega (arith, row_within q (bucket_row_words shape.settings) j (count_of shape BucketRows) k.0 k.1))
place_apart shape (DirectoryWord r i) (DirectoryWord q j) h k e =
    let p : r * (directory_row_words shape.settings) + i ≡ q * (directory_row_words shape.settings) + j = omega arith in
    let both = same_from_place r i q j (directory_row_words shape.settings) h.1 k.1 p in
    ap (λ x. DirectoryWord x i) both.0 ∙ ap (λ x. DirectoryWord q x) both.1
