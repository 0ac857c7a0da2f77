use Rattle.std.proofs.Common.{◌≡◌, ℕ, ◌<◌, vec_capacity, vec_len}
use Rattle.word_rows.specs.BucketPlaces.{ItemStands}
use Rattle.word_rows.specs.BucketWords.{items_of_words}
use Rattle.word_rows.proofs.bucket_parts.read_items.Given as goal

abbrev pub invariant-loop-i : goal.invariant-loop-i
invariant-loop-i l = record {
  read : l.items.items ≡ items_of_words l.i l.words;
  counted : vec_len l.items ≡ l.i;
  values : (k : ℕ) → k < l.i → ItemStands l.words k;
  room : vec_capacity l.items ≡ vec_capacity l.initial.items;
}
