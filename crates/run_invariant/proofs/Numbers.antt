-- The numbers of rows: each seat's are its own, and within what there is.
use Rattle.std.proofs.Common.{◌≡◌, ℕ, ◌+◌, ◌<◌, refl, sym, ap, subst, arith}
use Rattle.step_counts.specs.declared.rows.SeatRows.{SeatRows}
use Rattle.plain_map.specs.declared.full.FullKind.{FullKind}
use Rattle.plain_map.specs.declared.full.FullKind.TheVariants.{OpRows, BucketRows, BucketWords, DirRows}
use Rattle.word_rows.specs.Shape.{Owns, of_kind, first_number, count_of, sizes_of}
use Rattle.word_rows.proofs.Ranges.{one_owner, in_range}
use Rattle.table_model.specs.Setup.{Setup, IsSetup, seats_of, next_number}
use Rattle.run_invariant.proofs.Invariant.{op_no, row_no, word_no, dir_no, op_room, row_room, word_room, dir_room}

-- the number that a seat uses next is that of the place after those that it has published
pub next_op : (setup : Setup) (p : ℕ) (used : SeatRows) → next_number setup p OpRows used ≡ op_no setup p used.op_rows
unfolding next_number op_no
next_op setup p used = refl

pub next_row : (setup : Setup) (p : ℕ) (used : SeatRows) →
    next_number setup p BucketRows used ≡ row_no setup p used.bucket_rows
unfolding next_number row_no
next_row setup p used = refl

-- a number of a seat's range is the seat's, and no other seat's
pub owns : (setup : Setup) (kind : FullKind) (p j : ℕ) → j < of_kind kind (sizes_of setup.shape p) →
    Owns setup.shape p kind (first_number setup.shape p kind + j)
owns setup kind p j h = record { from = omega arith; below = omega arith }

apart : (setup : Setup) (kind : FullKind) (p q j k : ℕ) → IsSetup setup → p < seats_of setup → q < seats_of setup →
    j < of_kind kind (sizes_of setup.shape p) → k < of_kind kind (sizes_of setup.shape q) →
    first_number setup.shape p kind + j ≡ first_number setup.shape q kind + k → (p ≡ q) × (j ≡ k)
apart setup kind p q j k s hp hq hj hk e =
    let same : p ≡ q = one_owner setup.shape kind (first_number setup.shape p kind + j) p q hp hq s.shape
    (owns setup kind p j hj) (subst (Owns setup.shape q kind) (sym e) (owns setup kind q k hk)) in
    (same, omega (arith, ap (λ r. first_number setup.shape r kind) same))

-- for each kind: two places have two numbers
pub op_no_apart : (setup : Setup) (p q j k : ℕ) → IsSetup setup → p < seats_of setup → q < seats_of setup →
    j < op_room setup p → k < op_room setup q → op_no setup p j ≡ op_no setup q k → (p ≡ q) × (j ≡ k)
unfolding op_no
op_no_apart setup p q j k s hp hq hj hk e = apart setup OpRows p q j k s hp hq hj hk e

pub row_no_apart : (setup : Setup) (p q j k : ℕ) → IsSetup setup → p < seats_of setup → q < seats_of setup →
    j < row_room setup p → k < row_room setup q → row_no setup p j ≡ row_no setup q k → (p ≡ q) × (j ≡ k)
unfolding row_no
row_no_apart setup p q j k s hp hq hj hk e = apart setup BucketRows p q j k s hp hq hj hk e

-- and each is a row that there is
pub op_no_within : (setup : Setup) (p j : ℕ) → IsSetup setup → p < seats_of setup → j < op_room setup p →
    op_no setup p j < count_of setup.shape OpRows
unfolding op_no
op_no_within setup p j s hp hj =
    (in_range setup.shape OpRows (first_number setup.shape p OpRows + j) p hp s.shape (owns setup OpRows p j hj)).1

pub row_no_within : (setup : Setup) (p j : ℕ) → IsSetup setup → p < seats_of setup → j < row_room setup p →
    row_no setup p j < count_of setup.shape BucketRows
unfolding row_no
row_no_within setup p j s hp hj =
    (in_range setup.shape BucketRows (first_number setup.shape p BucketRows + j) p hp s.shape
    (owns setup BucketRows p j hj)).1

pub next_word : (setup : Setup) (p : ℕ) (used : SeatRows) →
    next_number setup p BucketWords used ≡ word_no setup p used.bucket_words
unfolding next_number word_no
next_word setup p used = refl

pub word_no_apart : (setup : Setup) (p q j k : ℕ) → IsSetup setup → p < seats_of setup → q < seats_of setup →
    j < word_room setup p → k < word_room setup q → word_no setup p j ≡ word_no setup q k → (p ≡ q) × (j ≡ k)
unfolding word_no
word_no_apart setup p q j k s hp hq hj hk e = apart setup BucketWords p q j k s hp hq hj hk e

pub word_no_within : (setup : Setup) (p j : ℕ) → IsSetup setup → p < seats_of setup → j < word_room setup p →
    word_no setup p j < count_of setup.shape BucketWords
unfolding word_no
word_no_within setup p j s hp hj =
    (in_range setup.shape BucketWords (first_number setup.shape p BucketWords + j) p hp s.shape
    (owns setup BucketWords p j hj)).1

pub next_dir : (setup : Setup) (p : ℕ) (used : SeatRows) →
    next_number setup p DirRows used ≡ dir_no setup p used.directory_rows
unfolding next_number dir_no
next_dir setup p used = refl

pub dir_no_apart : (setup : Setup) (p q j k : ℕ) → IsSetup setup → p < seats_of setup → q < seats_of setup →
    j < dir_room setup p → k < dir_room setup q → dir_no setup p j ≡ dir_no setup q k → (p ≡ q) × (j ≡ k)
unfolding dir_no
dir_no_apart setup p q j k s hp hq hj hk e = apart setup DirRows p q j k s hp hq hj hk e

pub dir_no_within : (setup : Setup) (p j : ℕ) → IsSetup setup → p < seats_of setup → j < dir_room setup p →
    dir_no setup p j < count_of setup.shape DirRows
unfolding dir_no
dir_no_within setup p j s hp hj =
    (in_range setup.shape DirRows (first_number setup.shape p DirRows + j) p hp s.shape (owns setup DirRows p j hj)).1

-- numbers go on one after the other
pub op_no_more : (setup : Setup) (p j i : ℕ) → op_no setup p j + i ≡ op_no setup p (j + i)
unfolding op_no
op_no_more setup p j i = omega arith

pub row_no_more : (setup : Setup) (p j i : ℕ) → row_no setup p j + i ≡ row_no setup p (j + i)
unfolding row_no
row_no_more setup p j i = omega arith

pub word_no_more : (setup : Setup) (p j i : ℕ) → word_no setup p j + i ≡ word_no setup p (j + i)
unfolding word_no
word_no_more setup p j i = omega arith
