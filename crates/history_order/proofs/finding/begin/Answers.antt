-- Each list is what the lists before it make.
use Rattle.std.proofs.Common.{◌≡◌, ◌∷◌, ℕ, [], List, Some, true, false, refl, get_or, ap, ◌∙◌, filter}
use Rattle.std.specs.Prelude.{slice_get}
use Rattle.std.specs.Option.{option_map_or}
use Rattle.plain_map.specs.declared.records.Record.{Record}
use Rattle.plain_map.specs.declared.full.FullKind.TheVariants.{BucketRows}
use Rattle.word_rows.specs.Shape.{Shape, count_of}
use Rattle.word_rows.specs.LayoutView.{shape_of}
use Rattle.table_model.specs.Closing.{read_in}
use Rattle.history_order.specs.Filling.{firsts_in}
use Rattle.history_order.specs.Columns.{after_all, is_free, looks_in}
use Rattle.history_order.specs.Fills.{version_leaves}
use Rattle.history_order.specs.declared.tables.Version.{Version}
use Rattle.history_order.proofs.Loops.{joined_items}
use Rattle.history_order.proofs.TablesTell.{callers_told, opening_told}
use Rattle.history_order.proofs.finding.begin.Goals as goal

pub free-requires : goal.free-requires
free-requires g c =
    callers_told (shape_of c.args.starts.now.layout) (g.W.Words.words c.args.words.now)
    (read_in c.args.logs.now) c.args.found.now c.requires.found c.args.exchanged.now
    c.deref-2.result.now c.requires.exchanged c.deref-2.ensures.value

pub returns : goal.returns
returns g c =
    let shape : Shape = shape_of c.args.starts.now.layout in
    let words : List ℕ = g.W.Words.words c.args.words.now in
    let logs : List (List Record) = read_in c.args.logs.now in
    let opening : c.opening.result.now ≡ firsts_in shape words (get_or (version_leaves shape words logs) 0 []) =
    c.opening.ensures
    ∙ ap (λ vs. option_map_or (λ (v : Version). v.firsts.items) (slice_get vs 0) []) c.deref.ensures.value
    ∙ opening_told shape words logs c.args.found.now c.requires.found in
    record {
      latest = refl;
      placed_rows = c.in_ok-placed.ensures.rows;
      placed = λ place. c.in_ok-placed.ensures.placed place
          ∙ ap (λ xs. after_all (λ row. Some row) (λ row. true) place (count_of shape BucketRows) xs false) opening;
      looks_rows = c.in_ok-looks.ensures.rows;
      looks = λ place less. c.in_ok-looks.ensures.looks place less
          ∙ ap (λ rs. looks_in rs place) (joined_items c.args.logs.now);
      aside = c.in_ok-aside.ensures
          ∙ ap (filter (λ row. is_free shape words (row ∷ []))) c.requires.exchanged;
    }
