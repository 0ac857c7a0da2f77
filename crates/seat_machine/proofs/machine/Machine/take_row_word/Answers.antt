-- The row is loaded whole.
use Rattle.std.proofs.Common.{◌≡◌, ◌∙◌, length, arith}
use Rattle.step_counts.specs.StepCounts.{bucket_row_words}
use Rattle.table_model.specs.Goes.{after_row}
use Rattle.seat_machine.specs.Stages.{attempt_of}
use Rattle.seat_machine.specs.View.{sizes}
use Rattle.seat_machine.proofs.RowsLoaded.{row_then}
use Rattle.seat_machine.proofs.machine.Machine.take_row_word.Goals as goal

pub returns-then-len-row_length-clause-phase : goal.returns-then-len-row_length-clause-phase
returns-then-len-row_length-clause-phase c =
    let m = c.args.self.now in
    let ws = c.push_reserved.new.self in
    let whole : length ws.items ≡ bucket_row_words (sizes m) =
    omega (arith, ws.ok.0, c.len.ensures, c.if-len-row_length.true, c.row_length.ensures) in
    let read = c.read_base.ensures in
    c.after_row.ensures.phase
    ∙ (λ i. after_row (read.same.seat i) (read.same.flight i) c.args.round
    (attempt_of c.args.turn c.args.first c.args.row (read.base i)))
    ∙ row_then m c.args.round c.args.turn c.args.first c.args.row c.args.word ws.items c.requires.stage
    c.push_reserved.ensures.items whole
