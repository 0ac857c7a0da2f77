-- The numbers of the seats: in their ranges, apart, and few.
use Rattle.std.proofs.Common.{◌≡◌, ℕ, ◌+◌, ◌*◌, ◌^◌, ◌<◌, ◌≤◌, List, ◌++◌, length, take, get_or, inl, inr, arith, sym, ap, ◌∙◌, subst}
use Rattle.std.specs.List.{sum_by, All}
use Rattle.std.proofs.lemmas.Bool.{cases_lt}
use Rattle.std.proofs.lemmas.List.{take-take, get_or-take, length-take}
use Rattle.std.proofs.Math.Seq.{take-append_seam}
use Rattle.std.proofs.lemmas.List.Sums.{sum_by-take-le, sum_by_more_le, sum_by-le}
use Rattle.std.proofs.Math.Nat.{mul-le-mul, mul-le-mul_right}
use Rattle.std.proofs.Math.Pow.{pow_mono}
use Rattle.step_counts.specs.declared.rows.SeatRows.{SeatRows}
use Rattle.step_counts.specs.declared.settings.Settings.{Settings}
use Rattle.step_counts.specs.StepCounts.{bucket_row_words, directory_row_words}
use Rattle.plain_map.specs.declared.full.FullKind.{FullKind}
use Rattle.plain_map.specs.declared.full.FullKind.TheVariants.{OpRows, BucketRows, BucketWords, DirRows}
use Rattle.plain_map.specs.Room.{no_rows}
use Rattle.word_rows.specs.Shape.{Shape, IsShape, AreBelow, Owns, record_limit, of_kind, by_kind, opening_rows, number_after, first_number, sizes_of, count_of}
use Rattle.word_rows.specs.Places.{word_count}

-- the sum of a prefix and of the element after it are within the sum of a longer prefix
take_more_le : (f : SeatRows → ℕ) (xs : List SeatRows) (s t : ℕ) → s < t → t ≤ length xs →
    sum_by f (take s xs) + f (get_or xs s no_rows) ≤ sum_by f (take t xs)
take_more_le f xs s t h k =
    let within : s < length (take t xs) = omega (arith, length-take t xs) in
    let prefix : take s (take t xs) ≡ take s xs = take-take s t xs (omega arith) in
    let element : get_or (take t xs) s no_rows ≡ get_or xs s no_rows = get_or-take t xs s no_rows h in
    omega (arith, sum_by_more_le f (take t xs) s no_rows within, ap (sum_by f) prefix, ap f element)

-- a later seat's range begins after an earlier seat's ends
pub ranges_follow : (shape : Shape) (kind : FullKind) (s t : ℕ) → s < t → t ≤ length shape.ranges →
    first_number shape s kind + of_kind kind (sizes_of shape s) ≤ first_number shape t kind
unfolding number_after
ranges_follow shape kind s t h k = omega (arith, take_more_le (of_kind kind) shape.ranges s t h k)

-- a seat's range ends where all numbers do, at the latest
pub range_within : (shape : Shape) (kind : FullKind) (s : ℕ) → s < length shape.ranges →
    first_number shape s kind + of_kind kind (sizes_of shape s) ≤ count_of shape kind
unfolding number_after
range_within shape kind s h = omega (arith, sum_by_more_le (of_kind kind) shape.ranges s no_rows h)

-- and begins after the opening
pub range_after_opening : (shape : Shape) (kind : FullKind) (s : ℕ) →
    of_kind kind (opening_rows shape.settings) ≤ first_number shape s kind
unfolding number_after
range_after_opening shape kind s = omega arith

-- a number belongs to one seat
pub one_owner : (shape : Shape) (kind : FullKind) (number s t : ℕ) → s < shape.settings.seats →
    t < shape.settings.seats → IsShape shape → Owns shape s kind number → Owns shape t kind number → s ≡ t
one_owner shape kind number s t hs ht h a b = elim (cases_lt s t) [
  | inl before ↦ absurd (omega (arith, ranges_follow shape kind s t before (omega arith)))
  | inr not_before ↦ elim (cases_lt t s) [
    | inl after ↦ absurd (omega (arith, ranges_follow shape kind t s after (omega arith)))
    | inr not_after ↦ omega arith
  ]
]

-- a seat's number is none of the opening's, and is one of those that there are
pub in_range : (shape : Shape) (kind : FullKind) (number seat : ℕ) → seat < shape.settings.seats → IsShape shape →
    Owns shape seat kind number → (of_kind kind (opening_rows shape.settings) ≤ number) × (number < count_of shape kind)
in_range shape kind number seat hs h own =
    let inside : seat < length shape.ranges = omega arith in
    (omega (arith, range_after_opening shape kind seat), omega (arith, range_within shape kind seat inside))

-- fewer numbers come after fewer ranges
pub prefix_few : (settings : Settings) (ranges : List SeatRows) (k : ℕ) {most : ℕ} →
    AreBelow most (by_kind (number_after settings ranges)) →
    AreBelow most (by_kind (number_after settings (take k ranges)))
unfolding number_after
prefix_few settings ranges k h = record {
  op_rows = omega (arith, h.op_rows, sum_by-take-le (of_kind OpRows) ranges k);
  bucket_rows = omega (arith, h.bucket_rows, sum_by-take-le (of_kind BucketRows) ranges k);
  bucket_words = omega (arith, h.bucket_words, sum_by-take-le (of_kind BucketWords) ranges k);
  directory_rows = omega (arith, h.directory_rows, sum_by-take-le (of_kind DirRows) ranges k);
}

-- small ranges of at most 8 seats are few numbers
sum_few : (most : ℕ) (f : SeatRows → ℕ) (ranges : List SeatRows) → length ranges ≤ 8 →
    All (λ rows. f rows ≤ most) ranges →
    sum_by f ranges ≤ 8 * most
sum_few most f ranges few small =
    let sum : sum_by f ranges ≤ length ranges * most = sum_by-le f most ranges small in
    omega (arith, sum, mul-le-mul_right most few)

-- a directory has at most 4,096 places
places_few : (settings : Settings) → 2 ^ settings.depth ≤ 2 ^ 12
places_few settings = let inside : settings.depth ≤ 12 = omega arith in pow_mono inside

-- small ranges end at small numbers
pub ranges_few : (limit : ℕ) (settings : Settings) (ranges : List SeatRows) → length ranges ≡ settings.seats →
    record_limit ≤ limit → All (AreBelow limit) ranges →
    AreBelow (16 * limit) (by_kind (number_after settings ranges))
unfolding number_after
ranges_few limit settings ranges each long small =
    let few : length ranges ≤ 8 = omega arith in
    record {
      op_rows = omega (
        arith,
        sum_few limit (of_kind OpRows) ranges few (λ k d h. omega (arith, (small k d h).op_rows)),
      );
      bucket_rows = omega (
        arith,
        places_few settings,
        sum_few limit (of_kind BucketRows) ranges few (λ k d h. omega (arith, (small k d h).bucket_rows)),
      );
      bucket_words = omega (
        arith,
        places_few settings,
        sum_few limit (of_kind BucketWords) ranges few
            (λ k d h. omega (arith, (small k d h).bucket_words)),
      );
      directory_rows = omega (
        arith,
        sum_few limit (of_kind DirRows) ranges few
            (λ k d h. omega (arith, (small k d h).directory_rows)),
      );
    }

-- a table's words have small numbers
pub words_few : (shape : Shape) → IsShape shape → shape.limit ≤ record_limit → word_count shape < 2 ^ 52
words_few shape h short =
    let row : bucket_row_words shape.settings ≤ 2 ^ 10 = omega arith in
    let directory : directory_row_words shape.settings ≤ 2 ^ 13 = omega (arith, places_few shape.settings) in
    let rows : count_of shape BucketRows ≤ 2 ^ 36 = omega (arith, h.few.bucket_rows, short) in
    let directories : count_of shape DirRows ≤ 2 ^ 36 = omega (arith, h.few.directory_rows, short) in
    omega (arith, short, h.few.op_rows, h.few.bucket_words, mul-le-mul rows row, mul-le-mul directories directory)

-- a layout's shape is the settings and ranges that it was made from
pub made_shape : (settings : Settings) (ranges kept : List SeatRows) → kept ≡ ranges →
    length ranges ≡ settings.seats → All (AreBelow record_limit) ranges →
    IsShape (record { settings = settings; ranges = kept; limit = record_limit })
made_shape settings ranges kept same each small =
    subst (λ rows. IsShape (record { settings = settings; ranges = rows; limit = record_limit })) (sym same)
    (record {
      each_seat = each;
      limited = omega arith;
      few = ranges_few record_limit settings ranges each (omega arith) small;
    })

-- the front of a joined list
pub front_of : (n : ℕ) (xs ys zs : List SeatRows) → xs ≡ ys → length ys ≡ n → take n (xs ++ zs) ≡ ys
front_of n xs ys zs same long = let length_is : length xs ≡ n = ap length same ∙ long in
    rw (← length_is) (rw take-append_seam same)
