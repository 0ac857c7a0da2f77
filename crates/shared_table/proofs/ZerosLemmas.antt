-- The words of which a seat knows that they are 0: how it tells, and that they are so when the table is opened.
use Rattle.std.proofs.Common.{◌≡◌, ℕ, ◌+◌, ◌*◌, ◌^◌, ◌<◌, ◌≤◌, ◌&&◌, true, nat_le, nat_lt, arith}
use Rattle.std.proofs.lemmas.Bool.{and_parts, leb-true, ltb-true}
use Rattle.std.proofs.Math.Nat.{mul-le-mul_right}
use Rattle.step_counts.specs.StepCounts.{bucket_row_words}
use Rattle.plain_map.specs.declared.full.FullKind.TheVariants.{BucketRows}
use Rattle.word_rows.specs.Shape.{Shape, IsShape, record_limit}
use Rattle.word_rows.proofs.Ranges.{range_within, words_few}
use Rattle.table_model.specs.Setup.{Setup}
use Rattle.blank_laws.specs.OwnRows.{IsOwnPlace, own_end, own_start}
use Rattle.blank_laws.proofs.Opened.{own_rows_open_blank}
use Rattle.shared_table.specs.declared.zeros.Zeros.{Zeros}
use Rattle.shared_table.specs.Rule.{IsReached}
use Rattle.shared_table.specs.Seating.{fresh}
use Rattle.shared_table.specs.Zeros.{HasZeros, IsZero}

-- a word is one of them where the test says so
pub is_zero : (zeros : Zeros) (at : ℕ) → (nat_le zeros.from at && nat_lt at zeros.end) ≡ true → IsZero zeros at
is_zero zeros at told =
    let both = and_parts (nat_le zeros.from at) (nat_lt at zeros.end) told in
    record { from = leb-true zeros.from at both.0; below = ltb-true at zeros.end both.1 }

-- equal factors have equal products
pub same_product : {a b w k m n : ℕ} → a ≡ k → b ≡ m → w ≡ n → (a + b) * w ≡ (k + m) * n
same_product e f g i = (e i + f i) * g i

-- the places of a seat's own bucket rows are small
pub own_small : (shape : Shape) (seat : ℕ) → IsShape shape → shape.limit ≤ record_limit →
    seat < shape.settings.seats → own_end shape seat < 2 ^ 52
own_small shape seat s limited h =
    let all = range_within shape BucketRows seat (omega (arith, h, s.each_seat)) in
    omega (arith, words_few shape s limited, mul-le-mul_right (bucket_row_words shape.settings) all)

-- all of them are 0 when the table is opened
pub fresh_zeros : (s : Setup) (seat : ℕ) (zeros : Zeros) → IsReached (fresh s seat) →
    zeros.from ≡ own_start s.shape seat → zeros.end ≡ own_end s.shape seat → HasZeros (fresh s seat) zeros
fresh_zeros s seat zeros r from end = record {
  own = λ at z. own at z;
  zero = λ at z. own_rows_open_blank s seat at r.run.opened r.seat (own at z);
}
  where
    own : (at : ℕ) → IsZero zeros at → IsOwnPlace s.shape seat at
    own at z = record { from = omega (arith, z.from, from); below = omega (arith, z.below, end) }
