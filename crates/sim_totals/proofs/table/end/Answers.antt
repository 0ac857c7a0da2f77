use Rattle.std.proofs.Common.{◌≡◌, ℕ, List, length, sym, ap, subst, arith}
use Rattle.std.specs.Mem.Slots.{slots_items}
use Rattle.sim_steps.specs.Layout.{Settings, seats_of}
use Rattle.sim_totals.specs.Rule.{plain}
use Rattle.sim_totals.specs.Values.{TableValue}
use Rattle.sim_totals.specs.Insides.{Left}
use Rattle.sim_totals.proofs.Gathering.{ends}
use Rattle.sim_totals.proofs.table.end.Goals as goal

pub returns-clause-left : goal.returns-clause-left
returns-clause-left c =
    let k : Settings = plain c.args.table.shared.key in
    let t : TableValue = record { table_id = c.args.table.shared.table_id; settings = k } in
    let all : length c.args.adders.items ≡ seats_of k =
    omega (arith, c.args.adders.ok.0, c.requires.all, ap (λ d. d.seats) c.requires.desk) in
    let left : Left k (slots_items c.close_with-closed.result.words) c.args.adders.items =
    ends k t c.gather-token.result.id c.args.adders.items c.gather-token.result
    (slots_items c.close_with-closed.result.words) (slots_items c.close_with-closed.result.slots) all
    c.gather-token.ensures
    c.close_with-closed.ensures.values.2 in
    subst (λ (ws : List ℕ). Left k ws c.args.adders.items) (sym c.read_all.ensures) left
