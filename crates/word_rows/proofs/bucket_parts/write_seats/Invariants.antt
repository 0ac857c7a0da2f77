use Rattle.std.proofs.Common.{◌≡◌, ◌*◌, length, take}
use Rattle.word_rows.specs.Blocks.{blocks}
use Rattle.word_rows.specs.BucketWords.{seat_place}
use Rattle.word_rows.proofs.bucket_parts.write_seats.Given as goal

abbrev pub invariant-loop-seat : goal.invariant-loop-seat
invariant-loop-seat l = record {
  long : length l.out ≡ length l.initial.out;
  written : take (l.seat * 2) l.out ≡ blocks (seat_place l.applied l.replies) l.seat;
}
