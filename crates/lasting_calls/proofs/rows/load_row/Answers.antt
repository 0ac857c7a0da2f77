-- The words of the seats, the count, and the items.
use Rattle.std.proofs.Common.{◌≡◌, ◌∙◌, ◌+◌, ◌*◌, ◌-◌, ◌≤◌, ℕ, length, refl, ap, arith}
use Rattle.step_counts.specs.declared.TheConstants.{ITEM_WORDS, SEAT_WORDS}
use Rattle.lasting_calls.specs.Updates.{update_of}
use Rattle.lasting_calls.proofs.RowLemmas.{count_here, items_done, items_read, items_wide, most_asked, parts_laid, part_wide, seats_read}
use Rattle.lasting_calls.proofs.rows.load_row.Goals as goal

pub load_run-requires-clause-reads : goal.load_run-requires-clause-reads
load_run-requires-clause-reads g c =
    seats_read (g.S.Steps.now c.args.steps.now) c.args.desk.now c.requires.desk (update_of c.args.own.now)
    c.args.turn c.args.word c.requires.phase c.row-first.result c.row-first.ensures _
    (part_wide c.args.desk.now.settings c.args.words.now c.requires.words)

pub load-most-requires : goal.load-most-requires
load-most-requires g c = record {
  asked = most_asked (g.S.Steps.now c.args.steps.now) c.args.desk.now c.requires.desk (update_of c.args.own.now)
      c.args.turn c.args.word c.requires.phase c.row-first.result c.row-first.ensures c.load_run.new.row
      (c.load_run.ensures.len ∙ part_wide c.args.desk.now.settings c.args.words.now c.requires.words)
      (g.S.Steps.now c.load_run.new.steps) c.load_run.ensures.goes _ (ap (λ (n : ℕ). c.row-first.result + n)
      c.count-offset.ensures);
}

pub load_run-requires-2-clause-reads : goal.load_run-requires-2-clause-reads
load_run-requires-2-clause-reads g c =
    let settings = c.args.desk.now.settings in
    items_read (g.S.Steps.now c.args.steps.now) c.args.desk.now c.requires.desk (update_of c.args.own.now)
    c.args.turn c.args.word c.requires.phase c.row-first.result c.row-first.ensures c.load_run.new.row
    (c.load_run.ensures.len ∙ part_wide settings c.args.words.now c.requires.words)
    (g.S.Steps.now c.load_run.new.steps) c.load_run.ensures.goes (g.S.Steps.now c.load-most.new.self)
    c.load-most.result c.load-most.ensures.goes c.cut-count.result c.cut-count.ensures _ _
    (ap (λ (n : ℕ). c.row-first.result + n + 1) c.count-offset.ensures)
    (items_wide settings c.args.words.now c.load_run.new.row c.cut-count.result _ c.requires.words
    (omega (arith, c.cut-count.ensures)) refl
    (c.load_run.ensures.len ∙ part_wide settings c.args.words.now c.requires.words ∙ omega (arith, c.requires.words)))

pub returns-clause-loaded : goal.returns-clause-loaded
returns-clause-loaded g c =
    let settings = c.args.desk.now.settings in
    let seats_long = c.load_run.ensures.len ∙ part_wide settings c.args.words.now c.requires.words in
    let few : c.cut-count.result ≤ settings.items = omega (arith, c.cut-count.ensures) in
    let wide : SEAT_WORDS * settings.seats ≡ length c.args.words.now - (5 + ITEM_WORDS * settings.items) =
    omega (arith, c.requires.words) in
    let items_long = c.load_run-2.ensures.len
    ∙ items_wide settings c.args.words.now c.load_run.new.row c.cut-count.result _ c.requires.words few refl
    (seats_long ∙ wide) in
    record {
      seats = c.load_run.new.row;
      most = c.load-most.result;
      items = c.load_run-2.new.row;
      count = c.cut-count.result;
      count_is = count_here (g.S.Steps.now c.args.steps.now) c.args.desk.now c.requires.desk c.load-most.result
          c.cut-count.result c.cut-count.ensures;
      seats_long = seats_long;
      items_long = items_long;
      words_are = parts_laid settings c.args.words.now c.load_run.new.row c.load_run-2.new.row c.fill.new.words
          c.args.own.now.bucket c.load-most.result c.cut-count.result _ _ _ c.requires.words few refl (seats_long
          ∙ wide)
          (omega arith) (items_long ∙ omega arith) refl c.fill.ensures.filled.words_are;
      goes = items_done (g.S.Steps.now c.args.steps.now) c.args.desk.now c.requires.desk (update_of c.args.own.now)
          c.args.turn c.args.word c.requires.phase c.row-first.result c.row-first.ensures c.load_run.new.row
          seats_long
          (g.S.Steps.now c.load_run.new.steps) c.load_run.ensures.goes (g.S.Steps.now c.load-most.new.self)
          c.load-most.result c.load-most.ensures.goes c.cut-count.result c.cut-count.ensures
          (g.S.Steps.now c.load_run-2.new.steps) c.load_run-2.new.row items_long c.load_run-2.ensures.goes;
    }
