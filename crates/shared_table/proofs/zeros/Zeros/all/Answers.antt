use Rattle.std.proofs.Common.{◌+◌, ◌*◌, ◌≤◌, ap, arith}
use Rattle.std.proofs.Math.Nat.{mul-le-mul_left}
use Rattle.step_counts.specs.StepCounts.{bucket_row_words}
use Rattle.step_counts.specs.declared.rows.SeatRows.{SeatRows}
use Rattle.plain_map.specs.declared.full.FullKind.TheVariants.{BucketRows}
use Rattle.word_rows.specs.LayoutView.{shape_of}
use Rattle.word_rows.specs.Shape.{first_number, of_kind, sizes_of}
use Rattle.shared_table.proofs.ZerosLemmas.{own_small, same_product}
use Rattle.shared_table.proofs.zeros.Zeros.all.Goals as goal

pub overflow_add-result-2 : goal.overflow_add-result-2
overflow_add-result-2 c =
    let d = c.args.desk.now in
    let shape = shape_of d.layout in
    let small = own_small shape d.seat d.layout.shaped (omega arith) d.within in
    let rows = first_number shape d.seat BucketRows + of_kind BucketRows (sizes_of shape d.seat) in
    let few : rows * 1 ≤ rows * bucket_row_words shape.settings = mul-le-mul_left rows (omega arith) in
    omega (
      arith,
      small,
      few,
      ap (λ (r : SeatRows). r.bucket_rows) d.first_is,
      ap (λ (r : SeatRows). r.bucket_rows) c.requires,
    )

pub overflow_mul-result-2 : goal.overflow_mul-result-2
overflow_mul-result-2 c =
    let d = c.args.desk.now in
    let small = own_small (shape_of d.layout) d.seat d.layout.shaped (omega arith) d.within in
    omega (
      arith,
      small,
      same_product (ap (λ (r : SeatRows). r.bucket_rows) d.first_is) (ap (λ (r : SeatRows). r.bucket_rows) c.requires)
          c.row_length-width.ensures.value,
    )

pub overflow_add-result-3 : goal.overflow_add-result-3
overflow_add-result-3 c =
    let d = c.args.desk.now in
    let small = own_small (shape_of d.layout) d.seat d.layout.shaped (omega arith) d.within in
    omega (
      arith,
      small,
      c.bucket_row_word-rows.ensures,
      same_product (ap (λ (r : SeatRows). r.bucket_rows) d.first_is) (ap (λ (r : SeatRows). r.bucket_rows) c.requires)
          c.row_length-width.ensures.value,
    )
