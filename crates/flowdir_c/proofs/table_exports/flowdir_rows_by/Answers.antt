use Rattle.std.proofs.Common.{ap, ◌∙◌}
use Rattle.table_model.specs.Needs.{batch_rows_of}
use Rattle.flowdir_c.proofs.table_exports.flowdir_rows_by.Goals as goal

pub returns-clause-rows : goal.returns-clause-rows
returns-clause-rows c = λ done. (
  c.in-Some.settings,
  c.in-Some.ensures,
  c.of_rows.ensures ∙ c.batch_rows-rows.ensures.rows
      ∙ ap (batch_rows_of c.in-Some.settings c.args.updates) c.splits_by.ensures.splits,
)
