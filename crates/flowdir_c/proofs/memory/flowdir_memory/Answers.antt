use Rattle.std.proofs.Common.{◌≡◌, ℕ, List, take, replicate, refl, ap, ◌∙◌, inl, arith}
use Rattle.std.proofs.lemmas.List.{take-replicate}
use Rattle.step_counts.specs.declared.rows.SeatRows.{SeatRows}
use Rattle.word_rows.specs.LayoutView.{shape_of}
use Rattle.word_rows.specs.Places.{word_count}
use Rattle.word_rows.specs.Shape.{Shape, record_limit}
use Rattle.word_rows.proofs.Ranges.{words_few}
use Rattle.flowdir_c.specs.Asked.{rows_of}
use Rattle.flowdir_c.proofs.memory.flowdir_memory.Goals as goal

-- a table's words are few
pub overflow_mul-result : goal.overflow_mul-result
overflow_mul-result c =
    omega (arith, words_few (shape_of c.new-layout.result) c.new-layout.result.shaped (omega arith), c.words.ensures)

-- and they are those of a table of these options
pub returns : goal.returns
returns c =
    let seats : ℕ = c.in-Some.settings.seats in
    let rows : SeatRows = c.in-Some.rows in
    let same : rows ≡ rows_of c.args.options.now.rows = c.in-Some.ensures.rows in
    let each : take seats (replicate 8 rows) ≡ replicate seats (rows_of c.args.options.now.rows) =
    take-replicate seats 8 rows (omega (arith, c.in-Some.settings.seats_in_range)) ∙ ap (replicate seats) same in
    let shape : List SeatRows → Shape =
    λ ranges. record { settings = c.in-Some.settings; ranges = ranges; limit = record_limit } in
    let are = c.words.ensures ∙ ap word_count (c.new-layout.ensures ∙ ap shape each) in
    inl (
      c.in-Some.ensures.fit,
      (
        c.words.result,
        (
          (c.in-Some.settings, (c.in-Some.ensures.settings, are)),
          refl,
        ),
      ),
    )
