use Rattle.std.proofs.Common.{◌∙◌, Some, Option, refl, sym, subst}
use Rattle.lasting_table.specs.Values.{TableValue}
use Rattle.flows_runner.specs.Going.{IsFlowing}
use Rattle.flows_runner.proofs.OpenLemmas.{flowing_moves}
use Rattle.flows_runner.proofs.flowing.Flowing.block_at_end.Goals as goal

pub block-requires : goal.block-requires
block-requires c =
    let going = c.requires.going.1 in
    record {
      going = (
        going.packets,
        going.blocks,
        going.served,
        flowing_moves c.args.self.now _ (Some c.in-Some.table) c.args.self.now.seats.items going.packets going.blocks
            going.served (record { asked = refl; replies = refl; packets = refl; calls = refl })
            (subst (λ (table : Option TableValue). IsFlowing c.args.self.now table c.args.self.now.seats.items
            going.packets going.blocks going.served) (sym c.take.ensures.value ∙ c.in-Some.is) going.so),
      );
    }

pub returns : goal.returns
returns c = record {
  block = λ packets blocks served so. (
    sym c.is_due.ensures ∙ c.if-is_due.false,
    (c.in_ok-block.ensures.block packets blocks served
        (flowing_moves c.args.self.now _ (Some c.in-Some.table) c.args.self.now.seats.items packets blocks served
        (record { asked = refl; replies = refl; packets = refl; calls = refl })
        (subst (λ (table : Option TableValue). IsFlowing c.args.self.now table c.args.self.now.seats.items packets
        blocks served) (sym c.take.ensures.value ∙ c.in-Some.is) so))).0,
  );
}
