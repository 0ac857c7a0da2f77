use Rattle.std.proofs.Common.{◌∙◌, ap}
use Rattle.plain_map.specs.declared.keys.Pair.{Pair}
use Rattle.bucket_states.specs.Items.{same_key}
use Rattle.bucket_machine.proofs.row.has_key.Goals as goal

pub returns : goal.returns
returns c = record {
  same = λ b spells inside d. c.eq.ensures
      ∙ ap (λ (p : Pair). same_key p.key c.args.key.now) (c.pair_in.ensures.same b spells inside d);
}
