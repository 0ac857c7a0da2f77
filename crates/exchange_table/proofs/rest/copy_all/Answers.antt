use Rattle.std.proofs.Common.{◌∙◌, refl, sym, subst}
use Rattle.exchange_table.specs.Rests.{HasCopied}
use Rattle.exchange_table.proofs.Resting.{copied_more, copied_none}
use Rattle.exchange_table.proofs.rest.copy_all.Goals as goal

pub loop-bucket-init : goal.loop-bucket-init
loop-bucket-init c = record {
  same = record { table = refl; plan = refl; who = refl };
  copied = subst (HasCopied 0 c.args.seat.now c.args.seat.now) (sym c.new-pairs.ensures.items)
      (copied_none c.args.seat.now);
}

pub loop-bucket-preserved : goal.loop-bucket-preserved
loop-bucket-preserved c =
    let was = c.loop-bucket.invariant.same in
    let now = c.copy_one.ensures.same in
    record {
      same = record {
        table = now.table ∙ was.table;
        plan = now.plan ∙ was.plan;
        who = now.who ∙ was.who;
      };
      copied = copied_more c.loop-bucket.bucket c.args.seat.now c.loop-bucket.seat c.copy_one.new.seat
          c.loop-bucket.pairs.items c.copy_one.new.pairs.items c.loop-bucket.invariant.copied was
          c.in_ok-copy_one.ensures.copied now c.copy_one.ensures.updates;
    }
