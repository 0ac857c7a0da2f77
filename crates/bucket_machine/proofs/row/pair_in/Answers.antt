use Rattle.std.proofs.Common.{refl, arith}
use Rattle.bucket_machine.proofs.WordLemmas.{pair_in_row}
use Rattle.bucket_machine.proofs.row.pair_in.Goals as goal

pub returns : goal.returns
returns c = record {
  same = λ b spells inside d. pair_in_row c.args.settings.now b c.args.row.now c.args.i _ _ d c.read_pair.result
      spells.words spells.places.items.fit inside refl (omega arith) c.read_pair.ensures;
}
