use Rattle.std.proofs.Common.{ap, sym, ◌∙◌, get_or}
use Rattle.std.specs.Mem.Slots.{slots_items}
use Rattle.shared_table.specs.Values.{ClosedValue}
use Rattle.shared_table.proofs.Lists.{at_place}
use Rattle.shared_table.proofs.in_place.ClosedTableWords.word.Goals as goal

pub returns : goal.returns
returns c = sym (at_place (slots_items c.self.inside.table.words) c.args.at c.word.result 0 c.word.ensures).1
    ∙ ap (λ (closed : ClosedValue). get_or closed.words c.args.at 0) c.self.view_is
