-- A row has one spelling, and words spell one row.
use Rattle.std.specs.Prelude.{◌≡◌, ◌*◌, length, take, drop, slice_index}
use Rattle.step_counts.specs.declared.TheConstants.{BUCKET_HEAD_WORDS, COUNT_PLACE, ITEM_WORDS, OP_WORDS}
use Rattle.step_counts.specs.declared.settings.Settings.{Settings}
use Rattle.step_counts.specs.StepCounts.{bucket_row_words}
use Rattle.plain_map.specs.Rows.{BucketContent, DirectoryContent}
use Rattle.word_rows.specs.declared.ops.OpRow.{OpRow}
use Rattle.word_rows.specs.OpWords.{IsOp, words_of_op, op_of_words}
use Rattle.word_rows.specs.BucketWords.{IsBucket, words_of_bucket, bucket_of_words, items_of_words}
use Rattle.word_rows.specs.DirectoryWords.{words_of_directory, directory_of_words}

-- the words of an op are that many, and spell it alone
abbrev pub OpsAreRead : Type 0
OpsAreRead = (row : OpRow) → IsOp row → (length (words_of_op row) ≡ OP_WORDS) × (op_of_words (words_of_op row) ≡ row)

-- the words of a bucket row are that many, and spell it alone
abbrev pub BucketsAreRead : Type 0
BucketsAreRead =
    (settings : Settings) (row : BucketContent) → IsBucket settings row →
    (length (words_of_bucket settings row) ≡ bucket_row_words settings)
    × (bucket_of_words settings (words_of_bucket settings row) ≡ row)

-- the words of a directory row spell it alone
abbrev pub DirectoriesAreRead : Type 0
DirectoriesAreRead = (row : DirectoryContent) → directory_of_words (words_of_directory row) ≡ row

-- the count and the words of so many items spell the items, so that a lookup needs no other word of the row
abbrev pub ItemsAreRead : Type 0
ItemsAreRead =
    (settings : Settings) (row : BucketContent) → IsBucket settings row →
    (slice_index (words_of_bucket settings row) COUNT_PLACE ≡ length row.items)
    × (items_of_words (length row.items) (take (length row.items * ITEM_WORDS)
    (drop BUCKET_HEAD_WORDS (words_of_bucket settings row))) ≡ row.items)
