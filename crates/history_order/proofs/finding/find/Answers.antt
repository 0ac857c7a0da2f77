-- Each list is what the lists before it make.
use Rattle.std.proofs.Common.{◌≡◌, ◌∷◌, ◌++◌, ℕ, [], List, Option, Some, None, false, Vec, Global, length, map, get_or, sym, ap, ◌∙◌, subst}
use Rattle.std.proofs.lemmas.List.{length-map}
use Rattle.plain_map.specs.declared.records.Record.{Record}
use Rattle.plain_map.specs.declared.full.FullKind.TheVariants.{BucketRows}
use Rattle.word_rows.specs.Shape.{Shape, count_of}
use Rattle.word_rows.specs.LayoutView.{shape_of}
use Rattle.table_model.specs.Closing.{log_of, read_in}
use Rattle.history_order.specs.Filling.{leaves_from, exchanged_in}
use Rattle.history_order.specs.Columns.{IsMade, after_all, base_in, is_caller, unit_at}
use Rattle.history_order.specs.Fills.{AreUnits, AreWritten, version_leaves, exchanged_rows}
use Rattle.history_order.specs.declared.tables.Columns.{Columns}
use Rattle.history_order.specs.declared.tables.Unit.{Unit}
use Rattle.history_order.specs.declared.tables.Version.{Version}
use Rattle.history_order.proofs.Loops.{length_leaves, length_items}
use Rattle.history_order.proofs.Rows.{now_is}
use Rattle.history_order.proofs.finding.find.Goals as goal

pub versions-requires : goal.versions-requires
versions-requires g c =
    sym (length_items c.args.leaves.now) ∙ ap length c.requires.leaves
    ∙ length_leaves (shape_of c.args.starts.now.layout) (g.W.Words.words c.args.words.now) [] c.args.rows.now

pub units-requires : goal.units-requires
units-requires g c =
    let shape : Shape = shape_of c.args.starts.now.layout in
    let words : List ℕ = g.W.Words.words c.args.words.now in
    let logs : List (List Record) = read_in c.args.logs.now in
    let item : Vec (Option Unit) Global → List (Option Unit) = λ (v : Vec (Option Unit) Global). v.items in
    let columns : Columns = c.versions.new.columns in
    let w : AreWritten shape words logs columns =
    c.in_ok-versions.ensures.columns logs (c.in_ok-columns.ensures.columns words) in
    ap length c.deref_mut.ensures.value ∙ sym (length-map columns.units.items item) ∙ w.units.seats

pub returns-clause-exchanged : goal.returns-clause-exchanged
returns-clause-exchanged g c =
    let shape : Shape = shape_of c.args.starts.now.layout in
    let words : List ℕ = g.W.Words.words c.args.words.now in
    let leaves : List (List ℕ) = map (λ (v : Vec ℕ Global). v.items) c.args.leaves.now in
    c.in_ok-versions.ensures.rows
    ∙ ap (λ rows. rows ++ exchanged_in shape words leaves) c.in_ok-columns.ensures.rows
    ∙ ap (exchanged_in shape words) (c.requires.leaves ∙ ap (leaves_from shape words []) c.requires.rows)

pub returns-clause-found : goal.returns-clause-found
returns-clause-found g c =
    let shape : Shape = shape_of c.args.starts.now.layout in
    let words : List ℕ = g.W.Words.words c.args.words.now in
    let logs : List (List Record) = read_in c.args.logs.now in
    let item : Vec (Option Unit) Global → List (Option Unit) = λ (v : Vec (Option Unit) Global). v.items in
    let leaves : List (List ℕ) = map (λ (v : Vec ℕ Global). v.items) c.args.leaves.now in
    let leaves_are : leaves ≡ version_leaves shape words logs =
    c.requires.leaves ∙ ap (leaves_from shape words []) c.requires.rows in
    let columns : Columns = c.versions.new.columns in
    let rows_are : columns.rows.items ≡ exchanged_rows shape words logs =
    c.in_ok-versions.ensures.rows
    ∙ ap (λ rows. rows ++ exchanged_in shape words leaves) c.in_ok-columns.ensures.rows
    ∙ ap (exchanged_in shape words) leaves_are in
    let w : AreWritten shape words logs columns =
    c.in_ok-versions.ensures.columns logs (c.in_ok-columns.ensures.columns words) in
    let many : length c.units.new.units ≡ length c.deref_mut.result.now = c.units.ensures.many in
    let versions : List Version = c.in_ok-versions.versions.items in
    record {
      many = c.in_ok-versions.ensures.many ∙ ap length c.requires.rows;
      made = λ at version e.
          subst (λ rs. IsMade shape words (get_or rs at 0) (get_or (version_leaves shape words logs) at []) version)
          c.requires.rows
          (subst (λ ls. IsMade shape words (get_or c.args.rows.now at 0) (get_or ls at []) version) leaves_are
          (c.in_ok-versions.ensures.made at version e));
      units = λ seat place less.
          ap (λ us. get_or (get_or (map item us) seat []) place None)
          (now_is columns.units c.deref_mut.result.now c.units.new.units c.deref_mut.ensures.value
          c.deref_mut.ensures.len many)
          ∙ c.units.ensures.units columns.rows.items
          (subst (λ us. AreUnits shape words logs columns.rows.items (map item us)) (sym c.deref_mut.ensures.value)
          w.units) seat place less
          ∙ ap (λ vs. unit_at shape words columns.rows.items vs (log_of logs seat) seat place) c.deref.ensures.value
          ∙ ap (λ xs. unit_at shape words xs versions (log_of logs seat) seat place) rows_are;
      bases = λ place. w.bases place
          ∙ ap (λ xs. after_all (λ row. Some row) (base_in shape words) place (count_of shape BucketRows) xs None)
          rows_are;
      next_rows = w.next_rows;
      next = λ place. w.next place
          ∙ ap (λ xs. after_all (base_in shape words) (λ row. Some row) place (count_of shape BucketRows) xs None)
          rows_are;
      callers_rows = w.callers_rows;
      callers = λ place seat. w.callers place seat
          ∙ ap (λ xs. after_all (λ row. Some row) (λ row. is_caller shape words (row ∷ []) seat) place
          (count_of shape BucketRows) xs false) rows_are;
    }
