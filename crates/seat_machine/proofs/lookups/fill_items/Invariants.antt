use Rattle.std.proofs.Common.{◌≡◌, vec_len, vec_capacity}
use Rattle.word_rows.specs.BucketWords.{items_of_words}
use Rattle.seat_machine.proofs.lookups.fill_items.Given as goal

abbrev pub invariant-loop-i : goal.invariant-loop-i
invariant-loop-i l = record {
  items : l.into.items ≡ items_of_words l.i l.words;
  len : vec_len l.into ≡ l.i;
  room : vec_capacity l.into ≡ vec_capacity l.initial.into;
}
