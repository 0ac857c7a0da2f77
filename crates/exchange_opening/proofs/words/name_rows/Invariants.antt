use Rattle.hash_bits.specs.declared.hashing.Hashing.{Hashing}
use Rattle.exchange_opening.specs.Openings.{plan_of}
use Rattle.exchange_opening.proofs.OpeningWords.{Named}
use Rattle.exchange_opening.proofs.words.name_rows.Given as goal

abbrev pub invariant-loop-bucket : goal.invariant-loop-bucket
invariant-loop-bucket l = (hashing : Hashing) → Named (plan_of l.fn.sizes hashing) l.words l.bucket
