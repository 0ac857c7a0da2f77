use Rattle.std.proofs.Common.{ℕ, Bool, ◌+◌, ◌-◌, ◌∙◌, sym, arith}
use Rattle.word_rows.specs.LayoutView.{shape_of}
use Rattle.table_model.specs.Closing.{read_in}
use Rattle.history_order.specs.Tables.{is_ready_in}
use Rattle.history_order.proofs.Ranges.{find_here, find_later, find_ends}
use Rattle.history_order.proofs.turns.next_seat.Goals as goal

pub returns-then-is_ready_in : goal.returns-then-is_ready_in
returns-then-is_ready_in g c =
    let many : ℕ = (shape_of c.args.closed.now.starts.now.layout).settings.seats in
    let f : ℕ → Bool = is_ready_in (shape_of c.args.closed.now.starts.now.layout)
    (g.W.Words.words c.args.closed.now.words.now)
    (read_in c.args.closed.now.logs.now) c.args.closed.now.begun.now c.args.found.now
    c.args.progress.now c.args.count.now in
    sym (find_here f c.loop-seat.seat (many - c.loop-seat.seat) (many - (c.loop-seat.seat + 1))
    (omega (arith, c.seat_count-seats.ensures.value)) (sym c.is_ready_in.ensures ∙ c.if-is_ready_in.true))
    ∙ c.loop-seat.invariant

pub loop-seat-preserved : goal.loop-seat-preserved
loop-seat-preserved g c =
    let many : ℕ = (shape_of c.args.closed.now.starts.now.layout).settings.seats in
    let f : ℕ → Bool = is_ready_in (shape_of c.args.closed.now.starts.now.layout)
    (g.W.Words.words c.args.closed.now.words.now)
    (read_in c.args.closed.now.logs.now) c.args.closed.now.begun.now c.args.found.now
    c.args.progress.now c.args.count.now in
    sym (find_later f c.loop-seat.seat (many - c.loop-seat.seat) (many - (c.loop-seat.seat + 1))
    (omega (arith, c.seat_count-seats.ensures.value)) (sym c.is_ready_in.ensures ∙ c.if-is_ready_in.false))
    ∙ c.loop-seat.invariant

pub returns : goal.returns
returns g c =
    let many : ℕ = (shape_of c.args.closed.now.starts.now.layout).settings.seats in
    let f : ℕ → Bool = is_ready_in (shape_of c.args.closed.now.starts.now.layout)
    (g.W.Words.words c.args.closed.now.words.now)
    (read_in c.args.closed.now.logs.now) c.args.closed.now.begun.now c.args.found.now
    c.args.progress.now c.args.count.now in
    find_ends f c.loop-seat.seat many (omega (arith, c.seat_count-seats.ensures.value)) ∙ c.loop-seat.invariant
