use Rattle.lasting_table.specs.Rule.{plain}
use Rattle.lasting_table.proofs.OpeningWords.{Named}
use Rattle.lasting_table.proofs.table.name_rows.Given as goal

abbrev pub invariant-loop-bucket : goal.invariant-loop-bucket
invariant-loop-bucket l = Named (plain l.fn.opening) l.words l.bucket
