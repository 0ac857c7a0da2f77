use Rattle.std.proofs.Common.{◌≡◌, vec_capacity, vec_len}
use Rattle.word_rows.specs.BucketWords.{applied_of_words, replies_of_words}
use Rattle.word_rows.specs.BucketPlaces.{SeatsStand}
use Rattle.word_rows.proofs.bucket_parts.read_seats.Given as goal

abbrev pub invariant-loop-seat : goal.invariant-loop-seat
invariant-loop-seat l = record {
  stands : SeatsStand l.seat l.words;
  numbers : l.applied.items ≡ applied_of_words l.seat l.words;
  replies : l.replies.items ≡ replies_of_words l.seat l.words;
  numbers_counted : vec_len l.applied ≡ l.seat;
  replies_counted : vec_len l.replies ≡ l.seat;
  numbers_room : vec_capacity l.applied ≡ vec_capacity l.initial.applied;
  replies_room : vec_capacity l.replies ≡ vec_capacity l.initial.replies;
}
