-- A row more, column by column.
use Rattle.std.proofs.Common.{◌≡◌, ◌∷◌, ◌++◌, [], ℕ, List, Option, Some, None, refl, Vec, Global, length, map, get_or, sym, ap, ◌∙◌, subst}
use Rattle.std.proofs.lemmas.List.{length-map}
use Rattle.plain_map.specs.declared.full.FullKind.TheVariants.{BucketRows}
use Rattle.word_rows.specs.Shape.{Shape, count_of}
use Rattle.word_rows.specs.LayoutView.{shape_of}
use Rattle.history_order.specs.Columns.{IsUnitPut, base_in, is_caller, row_place}
use Rattle.history_order.specs.Fills.{AreUnits}
use Rattle.history_order.specs.declared.tables.Columns.{Columns}
use Rattle.history_order.specs.declared.tables.Unit.{Unit}
use Rattle.history_order.specs.declared.tables.Unit.TheVariants.{Row}
use Rattle.history_order.proofs.Rows.{cell_more, flags_more, now_is, now_long, units_more}
use Rattle.history_order.proofs.tables.Columns.write.Goals as goal

pub returns-clause-columns : goal.returns-clause-columns
returns-clause-columns g c logs w =
    let shape : Shape = shape_of c.args.starts.now.layout in
    let words : List ℕ = g.W.Words.words c.args.words.now in
    let row : ℕ = c.args.row in
    let many : ℕ = count_of shape BucketRows in
    let old : Columns = c.args.self.now in
    let rows : List ℕ = old.rows.items in
    let then_rows : List ℕ = c.push.new.self.items in
    let more : then_rows ≡ rows ++ row ∷ [] = c.in_ok-push.ensures.items in
    let item : Vec (Option Unit) Global → List (Option Unit) = λ (v : Vec (Option Unit) Global). v.items in
    let units_then : List (Vec (Option Unit) Global) = c.write_units-callers.new.units in
    record {
      bases_rows = now_long old.bases c.deref_mut-4.result.now c.put-3.new.column c.deref_mut-4.ensures.value
          c.deref_mut-4.ensures.len c.put-3.ensures.len many w.bases_rows;
      bases = cell_more old.bases c.deref_mut-4.result.now c.put-3.new.column c.deref_mut-4.ensures.value
          c.deref_mut-4.ensures.len c.put-3.ensures.len (λ r. Some r) (base_in shape words) many rows then_rows row None
          (Some row) c.args.base c.put-3.ensures.reads more refl c.requires w.bases_rows w.bases;
      next_rows = now_long old.next c.deref_mut-3.result.now c.put-2.new.column c.deref_mut-3.ensures.value
          c.deref_mut-3.ensures.len c.put-2.ensures.len many w.next_rows;
      next = cell_more old.next c.deref_mut-3.result.now c.put-2.new.column c.deref_mut-3.ensures.value
          c.deref_mut-3.ensures.len c.put-2.ensures.len (base_in shape words) (λ r. Some r) many rows then_rows row None
          c.args.base (Some row) c.put-2.ensures.reads more c.requires refl w.next_rows w.next;
      callers_rows = now_long old.callers c.deref_mut-2.result.now c.put.new.column c.deref_mut-2.ensures.value
          c.deref_mut-2.ensures.len c.put.ensures.len many w.callers_rows;
      callers = flags_more old.callers c.deref_mut-2.result.now c.put.new.column c.deref_mut-2.ensures.value
          c.deref_mut-2.ensures.len c.put.ensures.len (λ seat r. is_caller shape words (r ∷ []) seat) many rows
          then_rows row c.write_units-callers.result c.put.ensures.reads more c.write_units-callers.ensures.callers
          w.callers_rows w.callers;
      units = subst (λ (us : List (Vec (Option Unit) Global)). AreUnits shape words logs then_rows (map item us))
          (sym (now_is old.units c.deref_mut.result.now units_then c.deref_mut.ensures.value c.deref_mut.ensures.len
          c.write_units-callers.ensures.many))
          (units_more shape words logs rows then_rows row (map item old.units.items) (map item units_then) more w.units
          (length-map units_then item ∙ c.write_units-callers.ensures.many ∙ ap length c.deref_mut.ensures.value
          ∙ sym (length-map old.units.items item))
          (λ seat less. subst (λ (us : List (Vec (Option Unit) Global)). IsUnitPut (row_place shape words seat row)
          (Row row) (get_or (map item us) seat []) (get_or (map item units_then) seat [])) c.deref_mut.ensures.value
          (c.write_units-callers.ensures.units seat less)));
    }
