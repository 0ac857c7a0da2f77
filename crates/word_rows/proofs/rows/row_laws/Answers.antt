use Rattle.std.proofs.Common.{refl}
use Rattle.word_rows.proofs.BucketLemmas.{length-bucket, bucket_read, items_read}
use Rattle.word_rows.proofs.DirectoryLemmas.{directory_read}
use Rattle.word_rows.proofs.OpLemmas.{op_read}
use Rattle.word_rows.proofs.rows.row_laws.Goals as goal

pub returns-clause-ops : goal.returns-clause-ops
returns-clause-ops c = op_read

pub returns-clause-buckets : goal.returns-clause-buckets
returns-clause-buckets c = λ settings row h. (length-bucket settings row, bucket_read settings row h)

pub returns-clause-items : goal.returns-clause-items
returns-clause-items c = λ settings row h. (refl, items_read settings row h)

pub returns-clause-directories : goal.returns-clause-directories
returns-clause-directories c = directory_read
