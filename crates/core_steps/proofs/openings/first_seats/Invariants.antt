-- So many seats rest.
use Rattle.std.proofs.Common.{◌≡◌, [], map}
use Rattle.std.specs.List.{range_with_len}
use Rattle.word_rows.specs.LayoutView.{shape_of}
use Rattle.seat_machine.specs.Programs.{resting}
use Rattle.core_steps.specs.Values.{setup_at}
use Rattle.core_steps.proofs.openings.first_seats.Given as goal

abbrev pub invariant-loop-seat : goal.invariant-loop-seat
invariant-loop-seat l =
    l.seats.items ≡ map (resting (setup_at (shape_of l.layout) l.hashing [])) (range_with_len 0 l.seat)
