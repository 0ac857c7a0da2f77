use Rattle.std.proofs.Common.{refl}
use Rattle.std.specs.Vec.{with_items}
use Rattle.report_reading.specs.Kept.{with_number}
use Rattle.report_reading.proofs.KeptLemmas.{kept_is, refilled}
use Rattle.report_reading.proofs.entries.Entries.kept.Goals as goal

pub returns : goal.returns
returns c = λ told holds few bound pairs.
    kept_is c.args.self (record {
      head = c.args.self.head;
      bound = c.args.bound;
      calls = c.args.self.answers.calls;
      pending = with_items c.args.self.pending c.number.new.pending;
      order = c.args.self.order;
      pairs = c.args.pairs;
    }) told holds few refl bound refl
    (refilled c.args.self.pending c.deref_mut.result.now c.number.new.pending (with_number c.args.self.answers.counts)
    c.deref_mut.ensures.value c.number.ensures) refl pairs
