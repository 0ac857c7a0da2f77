-- The bucket that is read from a row's words.
use Rattle.std.proofs.Common.{◌≡◌, ℕ, List, sym, ap, ◌∙◌}
use Rattle.plain_map.specs.Rows.{BucketContent}
use Rattle.word_rows.specs.BucketWords.{SpellsBucket, bucket_of_words}
use Rattle.word_rows.specs.RowLaws.{BucketsAreRead}
use Rattle.bucket_states.specs.declared.bucket.Bucket.{Bucket}
use Rattle.bucket_states.specs.States.{state_in_row, state_of}
use Rattle.table_model.specs.Setup.{Setup, settings_of}
use Rattle.table_model.specs.Goes.{bucket_in_words}

-- a bucket that is read from words is the one that they spell
pub state_read : BucketsAreRead → (setup : Setup) (words : List ℕ) (row : BucketContent) (bucket : Bucket) →
    SpellsBucket (settings_of setup) row words → state_of bucket ≡ state_in_row row →
    state_of bucket ≡ bucket_in_words setup words
state_read law setup words row bucket (is_row, spelled) same =
    let settings = settings_of setup in
    let read : bucket_of_words settings words ≡ row =
    ap (bucket_of_words settings) spelled ∙ (law settings row is_row).1 in
    same ∙ sym (ap state_in_row read)
