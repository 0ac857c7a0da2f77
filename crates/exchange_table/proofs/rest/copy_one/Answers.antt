-- The table was opened so, and a bucket has no more items than a table may be asked for.
use Rattle.std.proofs.Common.{◌≤◌, sym, subst}
use Rattle.exchange_table.specs.declared.rule.Opening.{Opening}
use Rattle.exchange_table.specs.Rule.{plain}
use Rattle.exchange_table.specs.Values.{TableValue}
use Rattle.exchange_table.proofs.rest.copy_one.Goals as goal

pub copy-count-requires-clause-room : goal.copy-count-requires-clause-room
copy-count-requires-clause-room c =
    subst (λ (t : TableValue). t.plan.settings.items ≤ 16) c.table.view_is
    (subst (λ (o : Opening). (plain o).settings.items ≤ 16) (sym c.table.invariant.key) c.table.invariant.plan.items)
