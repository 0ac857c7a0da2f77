-- The units of a seat more, and those of all.
use Rattle.std.proofs.Common.{◌<◌, ◌+◌, ℕ, [], List, None, Option, Some, Vec, Global, length, map, get_or, ap, ◌∙◌, subst, arith}
use Rattle.std.specs.Vec.{with_items}
use Rattle.std.proofs.Math.ListN.{set}
use Rattle.std.proofs.lemmas.List.{length-set}
use Rattle.plain_map.specs.declared.records.Record.{Record}
use Rattle.step_counts.specs.declared.settings.Settings.{Settings}
use Rattle.word_rows.specs.Shape.{Shape}
use Rattle.word_rows.specs.LayoutView.{shape_of}
use Rattle.table_model.specs.Closing.{log_of, read_in}
use Rattle.history_order.specs.Columns.{after_all, look_place, numbered_from, version_place}
use Rattle.history_order.specs.declared.tables.Unit.{Unit}
use Rattle.history_order.specs.declared.tables.Unit.TheVariants.{Lookup, Version as VersionAt}
use Rattle.history_order.specs.declared.tables.Version.{Version}
use Rattle.history_order.proofs.Rows.{IsMore, list_changed, list_others, went_on}
use Rattle.history_order.proofs.unit_lists.units.Goals as goal

pub loop-seat-preserved : goal.loop-seat-preserved
loop-seat-preserved g c =
    let shape : Shape = shape_of c.args.starts.now.layout in
    let words : List ℕ = g.W.Words.words c.args.words.now in
    let logs : List (List Record) = read_in c.args.logs.now in
    let versions : List Version = c.args.versions.now in
    let item : Vec (Option Unit) Global → List (Option Unit) = λ (v : Vec (Option Unit) Global). v.items in
    let seat : ℕ = c.loop-seat.seat in
    let before : List (Vec (Option Unit) Global) = c.loop-seat.units in
    let new : List (Option Unit) = c.write_others.new.units in
    let then_list : Vec (Option Unit) Global = with_items (get_or before seat c.index-units-seat.result) new in
    let inv = c.loop-seat.invariant in
    let inside : seat < length before = omega (
      arith,
      c.loop-seat-test.true,
      inv.0,
      c.requires,
      ap (λ (s : Settings). s.seats) c.settings.ensures,
    ) in (
      length-set before seat then_list ∙ inv.0,
      went_on (λ s. IsMore shape words versions (log_of logs s) s) (map item c.args.units.now) seat (map item before)
          (map item (set before seat then_list)) inv.1 (list_others before seat then_list)
          (list_changed before seat (IsMore shape words versions (log_of logs seat) seat) c.index-units-seat.result new
          inside (c.write_others.ensures.len ∙ c.deref_mut.ensures.len)
          (subst (λ (xs : List (Option Unit)). IsMore shape words versions (log_of logs seat) seat xs new)
          c.deref_mut.ensures.value
          (subst (λ (log : List Record). IsMore shape words versions log seat c.deref_mut.result.now new)
          c.log_of-log.ensures c.write_others.ensures.reads))),
    )

pub returns-clause-units : goal.returns-clause-units
returns-clause-units g c rows units seat place less =
    let shape : Shape = shape_of c.args.starts.now.layout in
    let words : List ℕ = g.W.Words.words c.args.words.now in
    let log : List Record = log_of (read_in c.args.logs.now) seat in
    let old : List (Option Unit) =
    get_or (map (λ (v : Vec (Option Unit) Global). v.items) c.args.units.now) seat [] in
    let told : ℕ → Option Unit → Option Unit = λ many read.
    after_all look_place (λ r. Some Lookup) place many log (after_all (version_place shape words seat)
    (λ numbered. Some (VersionAt numbered.0)) place many (numbered_from 0 c.args.versions.now) read) in
    c.loop-seat.invariant.1.0 seat (omega (
      arith,
      less,
      c.loop-seat-test.false,
      ap (λ (s : Settings). s.seats) c.settings.ensures,
    )) place
    ∙ ap (λ many. told many (get_or old place None)) (units.many seat less)
    ∙ ap (told (length log + 1)) (units.reads seat place less)
