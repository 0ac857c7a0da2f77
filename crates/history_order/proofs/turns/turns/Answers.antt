use Rattle.std.proofs.Common.{◌≡◌, [], ◌∷◌, length, refl, sym, ap, ◌∙◌, arith, append-nil, length-append}
use Rattle.word_rows.specs.LayoutView.{shape_of}
use Rattle.table_model.specs.Closing.{read_in}
use Rattle.history_order.specs.declared.tables.Progress.{Progress}
use Rattle.history_order.specs.Tables.{left_of}
use Rattle.history_order.proofs.Runs.{runs_start, popped_inside, runs_drop, runs_row, runs_same, row_less, version_inside, version_rows, version_less, runs_version, runs_end, seat_few, unit_there, unit_can, call_less, runs_call}
use Rattle.history_order.proofs.Falls.{falls}
use Rattle.history_order.proofs.Zeros.{eight_zeros, empty_of}
use Rattle.history_order.proofs.turns.turns.Goals as goal

pub loop-row-init : goal.loop-row-init
loop-row-init g c = runs_start (shape_of c.args.closed.now.starts.now.layout)
    (g.W.Words.words c.args.closed.now.words.now) (read_in c.args.closed.now.logs.now)
    c.args.closed.now.begun.now c.args.found.now c.args.progress.now (0 ∷ 0 ∷ 0 ∷ 0 ∷ 0 ∷ 0 ∷ 0 ∷ 0 ∷ [])
    c.args.out.now.items c.requires.begins refl eight_zeros

pub place_row-requires : goal.place_row-requires
place_row-requires g c =
    let now : Progress = record {
      placed = c.loop-row.progress.placed;
      looks = c.loop-row.progress.looks;
      latest = c.loop-row.progress.latest;
      aside = c.pop.new.self;
    } in
    popped_inside (shape_of c.args.closed.now.starts.now.layout)
    (g.W.Words.words c.args.closed.now.words.now) (read_in c.args.closed.now.logs.now)
    c.args.closed.now.begun.now c.args.found.now c.loop-row.progress c.loop-row.count c.args.out.now.items
    c.loop-row.out.items c.loop-row.invariant now c.in-Some.row refl c.in-Some.ensures.items

pub loop-row-smaller-in_ok-place_row : goal.loop-row-smaller-in_ok-place_row
loop-row-smaller-in_ok-place_row g c =
    let now : Progress = record {
      placed = c.loop-row.progress.placed;
      looks = c.loop-row.progress.looks;
      latest = c.loop-row.progress.latest;
      aside = c.pop.new.self;
    } in
    let less = row_less (shape_of c.args.closed.now.starts.now.layout)
    (g.W.Words.words c.args.closed.now.words.now) (read_in c.args.closed.now.logs.now)
    c.args.closed.now.begun.now c.args.found.now c.loop-row.progress c.loop-row.count c.args.out.now.items
    c.loop-row.out.items c.loop-row.invariant now c.place_row.new.progress c.in-Some.row refl c.in-Some.ensures.items
    (sym c.is_due.ensures ∙ c.if-is_due.true) c.in_ok-place_row.ensures in
    falls (left_of c.args.found.now c.place_row.new.progress) (left_of c.args.found.now c.loop-row.progress)
    (length c.place_row.new.progress.aside.items) (length c.loop-row.progress.aside.items) less.0
    (omega (arith, less.1, ap length c.in-Some.ensures.items, length-append c.pop.new.self.items (c.in-Some.row ∷ [])))

pub loop-row-preserved-in_ok-place_row : goal.loop-row-preserved-in_ok-place_row
loop-row-preserved-in_ok-place_row g c =
    let now : Progress = record {
      placed = c.loop-row.progress.placed;
      looks = c.loop-row.progress.looks;
      latest = c.loop-row.progress.latest;
      aside = c.pop.new.self;
    } in
    runs_row (shape_of c.args.closed.now.starts.now.layout)
    (g.W.Words.words c.args.closed.now.words.now) (read_in c.args.closed.now.logs.now)
    c.args.closed.now.begun.now c.args.found.now c.loop-row.progress c.loop-row.count c.args.out.now.items
    c.loop-row.out.items c.loop-row.invariant now c.place_row.new.progress c.in-Some.row refl refl refl
    c.in-Some.ensures.items (sym c.is_due.ensures ∙ c.if-is_due.true) c.in_ok-place_row.ensures

pub loop-row-preserved-else-is_due : goal.loop-row-preserved-else-is_due
loop-row-preserved-else-is_due g c =
    let now : Progress = record {
      placed = c.loop-row.progress.placed;
      looks = c.loop-row.progress.looks;
      latest = c.loop-row.progress.latest;
      aside = c.pop.new.self;
    } in
    runs_drop (shape_of c.args.closed.now.starts.now.layout)
    (g.W.Words.words c.args.closed.now.words.now) (read_in c.args.closed.now.logs.now)
    c.args.closed.now.begun.now c.args.found.now c.loop-row.progress c.loop-row.count c.args.out.now.items
    c.loop-row.out.items c.loop-row.invariant now c.in-Some.row refl refl refl
    c.in-Some.ensures.items (sym c.is_due.ensures ∙ c.if-is_due.false)

pub place_version-requires-clause-there : goal.place_version-requires-clause-there
place_version-requires-clause-there g c =
    let now : Progress = record {
      placed = c.loop-row.progress.placed;
      looks = c.loop-row.progress.looks;
      latest = c.loop-row.progress.latest;
      aside = c.pop.new.self;
    } in
    let none : c.pop.new.self.items ≡ c.loop-row.progress.aside.items =
    sym (c.in_default.ensures.items ∙ append-nil c.pop.new.self.items) in
    let runs = runs_same (shape_of c.args.closed.now.starts.now.layout)
    (g.W.Words.words c.args.closed.now.words.now) (read_in c.args.closed.now.logs.now)
    c.args.closed.now.begun.now c.args.found.now c.loop-row.progress c.loop-row.count c.args.out.now.items
    c.loop-row.out.items c.loop-row.invariant now refl refl refl none in
    version_inside (shape_of c.args.closed.now.starts.now.layout)
    (g.W.Words.words c.args.closed.now.words.now) (read_in c.args.closed.now.logs.now)
    c.args.closed.now.begun.now c.args.found.now now c.loop-row.count c.args.out.now.items c.loop-row.out.items runs
    (sym c.is_version_due.ensures ∙ c.if-is_version_due.true)

pub place_version-requires-clause-firsts : goal.place_version-requires-clause-firsts
place_version-requires-clause-firsts g c =
    let now : Progress = record {
      placed = c.loop-row.progress.placed;
      looks = c.loop-row.progress.looks;
      latest = c.loop-row.progress.latest;
      aside = c.pop.new.self;
    } in
    let none : c.pop.new.self.items ≡ c.loop-row.progress.aside.items =
    sym (c.in_default.ensures.items ∙ append-nil c.pop.new.self.items) in
    let runs = runs_same (shape_of c.args.closed.now.starts.now.layout)
    (g.W.Words.words c.args.closed.now.words.now) (read_in c.args.closed.now.logs.now)
    c.args.closed.now.begun.now c.args.found.now c.loop-row.progress c.loop-row.count c.args.out.now.items
    c.loop-row.out.items c.loop-row.invariant now refl refl refl none in
    version_rows (shape_of c.args.closed.now.starts.now.layout)
    (g.W.Words.words c.args.closed.now.words.now) (read_in c.args.closed.now.logs.now)
    c.args.closed.now.begun.now c.args.found.now now c.loop-row.count c.args.out.now.items c.loop-row.out.items runs
    (sym c.is_version_due.ensures ∙ c.if-is_version_due.true)

pub loop-row-smaller-then-is_version_due : goal.loop-row-smaller-then-is_version_due
loop-row-smaller-then-is_version_due g c =
    let now : Progress = record {
      placed = c.loop-row.progress.placed;
      looks = c.loop-row.progress.looks;
      latest = c.loop-row.progress.latest;
      aside = c.pop.new.self;
    } in
    let none : c.pop.new.self.items ≡ c.loop-row.progress.aside.items =
    sym (c.in_default.ensures.items ∙ append-nil c.pop.new.self.items) in
    let runs = runs_same (shape_of c.args.closed.now.starts.now.layout)
    (g.W.Words.words c.args.closed.now.words.now) (read_in c.args.closed.now.logs.now)
    c.args.closed.now.begun.now c.args.found.now c.loop-row.progress c.loop-row.count c.args.out.now.items
    c.loop-row.out.items c.loop-row.invariant now refl refl refl none in
    let less = version_less (shape_of c.args.closed.now.starts.now.layout)
    (g.W.Words.words c.args.closed.now.words.now) (read_in c.args.closed.now.logs.now)
    c.args.closed.now.begun.now c.args.found.now now c.loop-row.count c.args.out.now.items c.loop-row.out.items runs
    c.place_version.new.progress (sym c.is_version_due.ensures ∙ c.if-is_version_due.true)
    c.in_ok-place_version.ensures in
    falls (left_of c.args.found.now c.place_version.new.progress) (left_of c.args.found.now c.loop-row.progress)
    (length c.place_version.new.progress.aside.items) (length c.loop-row.progress.aside.items) less.0
    (omega (arith, less.1, ap length none))

pub loop-row-preserved-then-is_version_due : goal.loop-row-preserved-then-is_version_due
loop-row-preserved-then-is_version_due g c =
    let now : Progress = record {
      placed = c.loop-row.progress.placed;
      looks = c.loop-row.progress.looks;
      latest = c.loop-row.progress.latest;
      aside = c.pop.new.self;
    } in
    let none : c.pop.new.self.items ≡ c.loop-row.progress.aside.items =
    sym (c.in_default.ensures.items ∙ append-nil c.pop.new.self.items) in
    let runs = runs_same (shape_of c.args.closed.now.starts.now.layout)
    (g.W.Words.words c.args.closed.now.words.now) (read_in c.args.closed.now.logs.now)
    c.args.closed.now.begun.now c.args.found.now c.loop-row.progress c.loop-row.count c.args.out.now.items
    c.loop-row.out.items c.loop-row.invariant now refl refl refl none in
    runs_version (shape_of c.args.closed.now.starts.now.layout)
    (g.W.Words.words c.args.closed.now.words.now) (read_in c.args.closed.now.logs.now)
    c.args.closed.now.begun.now c.args.found.now now c.loop-row.count c.args.out.now.items c.loop-row.out.items runs
    c.place_version.new.progress (sym c.is_version_due.ensures ∙ c.if-is_version_due.true) c.in_ok-place_version.ensures

pub returns-in_default-next_seat : goal.returns-in_default-next_seat
returns-in_default-next_seat g c =
    let now : Progress = record {
      placed = c.loop-row.progress.placed;
      looks = c.loop-row.progress.looks;
      latest = c.loop-row.progress.latest;
      aside = c.pop.new.self;
    } in
    let none : c.pop.new.self.items ≡ c.loop-row.progress.aside.items =
    sym (c.in_default.ensures.items ∙ append-nil c.pop.new.self.items) in
    let runs = runs_same (shape_of c.args.closed.now.starts.now.layout)
    (g.W.Words.words c.args.closed.now.words.now) (read_in c.args.closed.now.logs.now)
    c.args.closed.now.begun.now c.args.found.now c.loop-row.progress c.loop-row.count c.args.out.now.items
    c.loop-row.out.items c.loop-row.invariant now refl refl refl none in
    let empty : c.pop.new.self.items ≡ [] = empty_of c.pop.new.self.items (omega (arith, c.in_default.ensures.cases)) in
    runs_end (shape_of c.args.closed.now.starts.now.layout)
    (g.W.Words.words c.args.closed.now.words.now) (read_in c.args.closed.now.logs.now)
    c.args.closed.now.begun.now c.args.found.now now c.loop-row.count c.args.out.now.items c.loop-row.out.items runs
    empty
    (sym c.is_version_due.ensures ∙ c.if-is_version_due.false) (sym c.next_seat.ensures ∙ c.in_default-next_seat.is)

pub bounds-count-seat : goal.bounds-count-seat
bounds-count-seat g c =
    let now : Progress = record {
      placed = c.loop-row.progress.placed;
      looks = c.loop-row.progress.looks;
      latest = c.loop-row.progress.latest;
      aside = c.pop.new.self;
    } in
    let none : c.pop.new.self.items ≡ c.loop-row.progress.aside.items =
    sym (c.in_default.ensures.items ∙ append-nil c.pop.new.self.items) in
    let runs = runs_same (shape_of c.args.closed.now.starts.now.layout)
    (g.W.Words.words c.args.closed.now.words.now) (read_in c.args.closed.now.logs.now)
    c.args.closed.now.begun.now c.args.found.now c.loop-row.progress c.loop-row.count c.args.out.now.items
    c.loop-row.out.items c.loop-row.invariant now refl refl refl none in
    let empty : c.pop.new.self.items ≡ [] = empty_of c.pop.new.self.items (omega (arith, c.in_default.ensures.cases)) in
    let few = seat_few (shape_of c.args.closed.now.starts.now.layout)
    (g.W.Words.words c.args.closed.now.words.now) (read_in c.args.closed.now.logs.now)
    c.args.closed.now.begun.now c.args.found.now now c.loop-row.count c.args.out.now.items c.loop-row.out.items runs
    empty
    (sym c.is_version_due.ensures ∙ c.if-is_version_due.false) c.in-Some-next_seat.seat (sym c.next_seat.ensures
    ∙ c.in-Some-next_seat.is) in
    omega (arith, few)

pub offset_bounds-count-seat : goal.offset_bounds-count-seat
offset_bounds-count-seat g c =
    let now : Progress = record {
      placed = c.loop-row.progress.placed;
      looks = c.loop-row.progress.looks;
      latest = c.loop-row.progress.latest;
      aside = c.pop.new.self;
    } in
    let none : c.pop.new.self.items ≡ c.loop-row.progress.aside.items =
    sym (c.in_default.ensures.items ∙ append-nil c.pop.new.self.items) in
    let runs = runs_same (shape_of c.args.closed.now.starts.now.layout)
    (g.W.Words.words c.args.closed.now.words.now) (read_in c.args.closed.now.logs.now)
    c.args.closed.now.begun.now c.args.found.now c.loop-row.progress c.loop-row.count c.args.out.now.items
    c.loop-row.out.items c.loop-row.invariant now refl refl refl none in
    let empty : c.pop.new.self.items ≡ [] = empty_of c.pop.new.self.items (omega (arith, c.in_default.ensures.cases)) in
    let few = seat_few (shape_of c.args.closed.now.starts.now.layout)
    (g.W.Words.words c.args.closed.now.words.now) (read_in c.args.closed.now.logs.now)
    c.args.closed.now.begun.now c.args.found.now now c.loop-row.count c.args.out.now.items c.loop-row.out.items runs
    empty
    (sym c.is_version_due.ensures ∙ c.if-is_version_due.false) c.in-Some-next_seat.seat (sym c.next_seat.ensures
    ∙ c.in-Some-next_seat.is) in
    omega (arith, few)

pub returns-in_default-unit_in : goal.returns-in_default-unit_in
returns-in_default-unit_in g c =
    let now : Progress = record {
      placed = c.loop-row.progress.placed;
      looks = c.loop-row.progress.looks;
      latest = c.loop-row.progress.latest;
      aside = c.pop.new.self;
    } in
    let none : c.pop.new.self.items ≡ c.loop-row.progress.aside.items =
    sym (c.in_default.ensures.items ∙ append-nil c.pop.new.self.items) in
    let runs = runs_same (shape_of c.args.closed.now.starts.now.layout)
    (g.W.Words.words c.args.closed.now.words.now) (read_in c.args.closed.now.logs.now)
    c.args.closed.now.begun.now c.args.found.now c.loop-row.progress c.loop-row.count c.args.out.now.items
    c.loop-row.out.items c.loop-row.invariant now refl refl refl none in
    let empty : c.pop.new.self.items ≡ [] = empty_of c.pop.new.self.items (omega (arith, c.in_default.ensures.cases)) in
    absurd (unit_there (shape_of c.args.closed.now.starts.now.layout)
    (g.W.Words.words c.args.closed.now.words.now) (read_in c.args.closed.now.logs.now)
    c.args.closed.now.begun.now c.args.found.now now c.loop-row.count c.args.out.now.items c.loop-row.out.items runs
    empty
    (sym c.is_version_due.ensures ∙ c.if-is_version_due.false) c.in-Some-next_seat.seat (sym c.next_seat.ensures
    ∙ c.in-Some-next_seat.is)
    (sym c.unit_in.ensures ∙ c.in_default-unit_in.is))

pub place-requires : goal.place-requires
place-requires g c =
    let now : Progress = record {
      placed = c.loop-row.progress.placed;
      looks = c.loop-row.progress.looks;
      latest = c.loop-row.progress.latest;
      aside = c.pop.new.self;
    } in
    let none : c.pop.new.self.items ≡ c.loop-row.progress.aside.items =
    sym (c.in_default.ensures.items ∙ append-nil c.pop.new.self.items) in
    let runs = runs_same (shape_of c.args.closed.now.starts.now.layout)
    (g.W.Words.words c.args.closed.now.words.now) (read_in c.args.closed.now.logs.now)
    c.args.closed.now.begun.now c.args.found.now c.loop-row.progress c.loop-row.count c.args.out.now.items
    c.loop-row.out.items c.loop-row.invariant now refl refl refl none in
    let empty : c.pop.new.self.items ≡ [] = empty_of c.pop.new.self.items (omega (arith, c.in_default.ensures.cases)) in
    unit_can (shape_of c.args.closed.now.starts.now.layout)
    (g.W.Words.words c.args.closed.now.words.now) (read_in c.args.closed.now.logs.now)
    c.args.closed.now.begun.now c.args.found.now now c.loop-row.count c.args.out.now.items c.loop-row.out.items runs
    empty
    (sym c.is_version_due.ensures ∙ c.if-is_version_due.false) c.in-Some-next_seat.seat (sym c.next_seat.ensures
    ∙ c.in-Some-next_seat.is)
    c.in-Some-unit_in.unit (sym c.unit_in.ensures ∙ c.in-Some-unit_in.is)

pub loop-row-smaller : goal.loop-row-smaller
loop-row-smaller g c =
    let now : Progress = record {
      placed = c.loop-row.progress.placed;
      looks = c.loop-row.progress.looks;
      latest = c.loop-row.progress.latest;
      aside = c.pop.new.self;
    } in
    let none : c.pop.new.self.items ≡ c.loop-row.progress.aside.items =
    sym (c.in_default.ensures.items ∙ append-nil c.pop.new.self.items) in
    let runs = runs_same (shape_of c.args.closed.now.starts.now.layout)
    (g.W.Words.words c.args.closed.now.words.now) (read_in c.args.closed.now.logs.now)
    c.args.closed.now.begun.now c.args.found.now c.loop-row.progress c.loop-row.count c.args.out.now.items
    c.loop-row.out.items c.loop-row.invariant now refl refl refl none in
    let empty : c.pop.new.self.items ≡ [] = empty_of c.pop.new.self.items (omega (arith, c.in_default.ensures.cases)) in
    let less = call_less (shape_of c.args.closed.now.starts.now.layout)
    (g.W.Words.words c.args.closed.now.words.now) (read_in c.args.closed.now.logs.now)
    c.args.closed.now.begun.now c.args.found.now now c.loop-row.count c.args.out.now.items c.loop-row.out.items runs
    empty
    (sym c.is_version_due.ensures ∙ c.if-is_version_due.false) c.in-Some-next_seat.seat (sym c.next_seat.ensures
    ∙ c.in-Some-next_seat.is)
    c.in-Some-unit_in.unit (sym c.unit_in.ensures ∙ c.in-Some-unit_in.is) c.place.new.progress c.in_ok-place.ensures in
    falls (left_of c.args.found.now c.place.new.progress) (left_of c.args.found.now c.loop-row.progress)
    (length c.place.new.progress.aside.items) (length c.loop-row.progress.aside.items) less.0
    (omega (arith, less.1, ap length none))

pub loop-row-preserved : goal.loop-row-preserved
loop-row-preserved g c =
    let now : Progress = record {
      placed = c.loop-row.progress.placed;
      looks = c.loop-row.progress.looks;
      latest = c.loop-row.progress.latest;
      aside = c.pop.new.self;
    } in
    let none : c.pop.new.self.items ≡ c.loop-row.progress.aside.items =
    sym (c.in_default.ensures.items ∙ append-nil c.pop.new.self.items) in
    let runs = runs_same (shape_of c.args.closed.now.starts.now.layout)
    (g.W.Words.words c.args.closed.now.words.now) (read_in c.args.closed.now.logs.now)
    c.args.closed.now.begun.now c.args.found.now c.loop-row.progress c.loop-row.count c.args.out.now.items
    c.loop-row.out.items c.loop-row.invariant now refl refl refl none in
    let empty : c.pop.new.self.items ≡ [] = empty_of c.pop.new.self.items (omega (arith, c.in_default.ensures.cases)) in
    runs_call (shape_of c.args.closed.now.starts.now.layout)
    (g.W.Words.words c.args.closed.now.words.now) (read_in c.args.closed.now.logs.now)
    c.args.closed.now.begun.now c.args.found.now now c.loop-row.count c.args.out.now.items c.loop-row.out.items runs
    empty
    (sym c.is_version_due.ensures ∙ c.if-is_version_due.false) c.in-Some-next_seat.seat (sym c.next_seat.ensures
    ∙ c.in-Some-next_seat.is)
    c.in-Some-unit_in.unit (sym c.unit_in.ensures ∙ c.in-Some-unit_in.is) c.place.new.progress c.tell.new.count
    c.tell.new.out.items
    c.in_ok-place.ensures c.tell.array_long c.in_ok-tell.ensures.count c.in_ok-tell.ensures.out

pub tell-requires : goal.tell-requires
tell-requires g c =
    let now : Progress = record {
      placed = c.loop-row.progress.placed;
      looks = c.loop-row.progress.looks;
      latest = c.loop-row.progress.latest;
      aside = c.pop.new.self;
    } in
    let none : c.pop.new.self.items ≡ c.loop-row.progress.aside.items =
    sym (c.in_default.ensures.items ∙ append-nil c.pop.new.self.items) in
    let runs = runs_same (shape_of c.args.closed.now.starts.now.layout)
    (g.W.Words.words c.args.closed.now.words.now) (read_in c.args.closed.now.logs.now)
    c.args.closed.now.begun.now c.args.found.now c.loop-row.progress c.loop-row.count c.args.out.now.items
    c.loop-row.out.items c.loop-row.invariant now refl refl refl none in
    let empty : c.pop.new.self.items ≡ [] = empty_of c.pop.new.self.items (omega (arith, c.in_default.ensures.cases)) in
    let few = seat_few (shape_of c.args.closed.now.starts.now.layout)
    (g.W.Words.words c.args.closed.now.words.now) (read_in c.args.closed.now.logs.now)
    c.args.closed.now.begun.now c.args.found.now now c.loop-row.count c.args.out.now.items c.loop-row.out.items runs
    empty
    (sym c.is_version_due.ensures ∙ c.if-is_version_due.false) c.in-Some-next_seat.seat (sym c.next_seat.ensures
    ∙ c.in-Some-next_seat.is) in
    omega (arith, few)
