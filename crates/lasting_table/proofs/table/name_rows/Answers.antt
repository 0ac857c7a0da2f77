use Rattle.std.proofs.Common.{refl, arith}
use Rattle.lasting_table.specs.Rule.{plain}
use Rattle.lasting_table.proofs.OpeningWords.{all_named}
use Rattle.lasting_table.proofs.table.name_rows.Goals as goal

pub returns : goal.returns
returns c = all_named (plain c.args.opening.now) refl c.loop-bucket.words c.loop-bucket.bucket
    (omega (arith, c.loop-bucket-test.false, c.buckets_in-bucket-end.ensures.value)) c.loop-bucket.invariant
