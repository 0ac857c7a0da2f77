use Rattle.std.proofs.Common.{◌∙◌}
use Rattle.flowdir_c.proofs.table_exports.flowdir_rows_for.Goals as goal

pub returns-clause-rows : goal.returns-clause-rows
returns-clause-rows c = λ done.
    (c.in-Some.settings, c.in-Some.ensures, c.of_rows.ensures ∙ c.automatic_rows-rows.ensures)
