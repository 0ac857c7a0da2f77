-- No column has anything written.
use Rattle.std.proofs.Common.{◌≡◌, ℕ, ◌∷◌, [], List, Some, None, map, false, sym, ap, ◌∙◌, subst}
use Rattle.plain_map.specs.declared.records.Record.{Record}
use Rattle.plain_map.specs.declared.full.FullKind.TheVariants.{BucketRows}
use Rattle.word_rows.specs.Shape.{Shape, count_of}
use Rattle.word_rows.specs.LayoutView.{shape_of}
use Rattle.table_model.specs.Closing.{read_in}
use Rattle.history_order.specs.Columns.{after_all, base_in, is_caller}
use Rattle.history_order.specs.Fills.{AreUnits}
use Rattle.history_order.proofs.Writes.{no_flag, read_replicate}
use Rattle.history_order.proofs.tables.Columns.new.Goals as goal

pub returns-clause-columns : goal.returns-clause-columns
returns-clause-columns c words =
    let shape : Shape = shape_of c.args.starts.now.layout in
    let logs : List (List Record) = read_in c.args.logs.now in
    let many : ℕ = count_of shape BucketRows in
    let none : [] ≡ c.new.result.items = sym c.new.ensures.items in
    record {
      bases_rows = c.in_ok-bases.ensures.len ∙ c.bucket_row_count-many.ensures;
      bases = λ place. c.in_ok-bases.ensures.reads place
          ∙ ap (λ rows. after_all (λ r. Some r) (base_in shape words) place many rows None) none;
      next_rows = c.in_ok-next.ensures.len ∙ c.bucket_row_count-many.ensures;
      next = λ place. c.in_ok-next.ensures.reads place
          ∙ ap (λ rows. after_all (base_in shape words) (λ r. Some r) place many rows None) none;
      callers_rows = c.in_ok-callers.ensures.len ∙ c.bucket_row_count-many.ensures;
      callers = λ place seat.
          no_flag c.in_ok-callers.callers.items _ _ c.in_ok-callers.ensures.len c.in_ok-callers.ensures.within
          (λ s. read_replicate 8 s false) place seat
          ∙ ap (λ rows. after_all (λ r. Some r) (λ r. is_caller shape words (r ∷ []) seat) place many rows false) none;
      units = subst (λ rows. AreUnits shape words logs rows
          (map (λ list. list.items) c.in_ok-units.units.items)) none (c.in_ok-units.ensures words);
    }
