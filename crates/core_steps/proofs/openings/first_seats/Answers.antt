-- Each seat rests.
use Rattle.std.proofs.Common.{ℕ, [], map, ap, ◌∙◌, arith}
use Rattle.std.specs.List.{range_with_len}
use Rattle.step_counts.specs.declared.settings.Settings.{Settings}
use Rattle.word_rows.specs.LayoutView.{shape_of}
use Rattle.seat_machine.specs.Programs.{resting}
use Rattle.core_steps.specs.Values.{setup_at}
use Rattle.core_steps.proofs.Opened.{one_more}
use Rattle.core_steps.proofs.openings.first_seats.Goals as goal

pub loop-seat-init : goal.loop-seat-init
loop-seat-init c = c.new-seats.ensures.items

pub loop-seat-preserved : goal.loop-seat-preserved
loop-seat-preserved c =
    c.in_ok-push.ensures.items
    ∙ one_more (setup_at (shape_of c.args.layout) c.args.hashing []) c.loop-seat.seats.items c.loop-seat.seat
    c.in_ok-new.field-0 c.loop-seat.invariant c.in_ok-new.ensures

pub returns : goal.returns
returns c =
    c.loop-seat.invariant
    ∙ ap (λ (n : ℕ). map (resting (setup_at (shape_of c.args.layout) c.args.hashing [])) (range_with_len 0 n))
    (omega (arith, c.loop-seat-test.false, c.loop-seat.auto.seat-end)
    ∙ ap (λ (s : Settings). s.seats) c.settings.ensures)
