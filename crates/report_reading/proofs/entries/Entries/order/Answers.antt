use Rattle.std.proofs.Common.{refl}
use Rattle.std.specs.Option.{option_map}
use Rattle.report_lines.specs.Lines.{order_at}
use Rattle.report_reading.proofs.HoldLemmas.{order_taken_at}
use Rattle.report_reading.proofs.entries.Entries.order.Goals as goal

pub returns : goal.returns
returns c = λ head entries holds.
    order_taken_at c.args.self.now (record {
      head = c.args.self.now.head;
      need = c.args.self.now.need;
      packets = c.args.self.now.packets;
      answers = c.args.self.now.answers;
      pending = c.args.self.now.pending;
      order = c.order_line.new.packets;
    }) head entries c.args.bytes.now (order_at c.args.bytes.now) (option_map (λ x. x.now) c.in_ok-found.found) refl
    holds
    refl refl refl refl refl c.in_ok-found.ensures
