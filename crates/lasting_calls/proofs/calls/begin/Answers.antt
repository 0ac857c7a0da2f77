-- With a piece of a sweep, or without.
use Rattle.std.proofs.Common.{ℕ, ◌^◌, ◌<◌, sym, subst, arith}
use Rattle.lasting_model.specs.Steps.{Update}
use Rattle.lasting_model.specs.Worlds.{next_update}
use Rattle.lasting_calls.specs.Going.{Going}
use Rattle.lasting_calls.specs.Seats.{rows_at}
use Rattle.lasting_calls.specs.Sweeps.{HasSwept}
use Rattle.lasting_calls.proofs.BeginLemmas.{begins_at_once, begins_sweeping, few_sweeps, none_if, some_if, swept_from}
use Rattle.lasting_calls.proofs.calls.begin.Goals as goal

pub returns-then-is_none : goal.returns-then-is_none
returns-then-is_none g c =
    let f : Going = g.S.Steps.now c.args.steps.now in
    let has = c.take_up.ensures.rows (rows_at f.now) c.requires.rows.has in
    begins_at_once f c.args.call.now c.args.rows.now c.take_up.new.rows c.take_up.ensures.sound c.take_up.ensures.same
    c.requires.rest c.requires.rows has c.home.result (c.home.ensures _ has)
    (none_if c.home.result c.if-is_none.ensures)
    (g.S.Steps.now c.begin.new.self) c.begin.ensures

pub sweep-requires-clause-phase : goal.sweep-requires-clause-phase
sweep-requires-clause-phase g c =
    let f : Going = g.S.Steps.now c.args.steps.now in
    let has = c.take_up.ensures.rows (rows_at f.now) c.requires.rows.has in
    let some = some_if c.home.result c.if-is_none.ensures in
    (begins_sweeping f c.args.call.now c.args.rows.now c.take_up.new.rows c.take_up.ensures.sound
    c.take_up.ensures.same c.requires.rest c.requires.rows has c.home.result some.0 (c.home.ensures _ has) some.1
    (g.S.Steps.now c.begin.new.self) c.begin.ensures).sweeping

pub sweep-requires-clause-rows : goal.sweep-requires-clause-rows
sweep-requires-clause-rows g c =
    let f : Going = g.S.Steps.now c.args.steps.now in
    let has = c.take_up.ensures.rows (rows_at f.now) c.requires.rows.has in
    let some = some_if c.home.result c.if-is_none.ensures in
    (begins_sweeping f c.args.call.now c.args.rows.now c.take_up.new.rows c.take_up.ensures.sound
    c.take_up.ensures.same c.requires.rest c.requires.rows has c.home.result some.0 (c.home.ensures _ has) some.1
    (g.S.Steps.now c.begin.new.self) c.begin.ensures).rows_are

pub sweep-requires-clause-few : goal.sweep-requires-clause-few
sweep-requires-clause-few g c =
    let f : Going = g.S.Steps.now c.args.steps.now in
    subst (λ (k : ℕ). k < 2 ^ 63) (sym c.take_up.ensures.same.sweeps)
    (few_sweeps f c.args.rows.now c.requires.rows c.requires.few (omega (arith, c.requires.rows.sound.few)))

pub returns : goal.returns
returns g c =
    let f : Going = g.S.Steps.now c.args.steps.now in
    let has = c.take_up.ensures.rows (rows_at f.now) c.requires.rows.has in
    let some = some_if c.home.result c.if-is_none.ensures in
    let b = begins_sweeping f c.args.call.now c.args.rows.now c.take_up.new.rows c.take_up.ensures.sound
    c.take_up.ensures.same c.requires.rest c.requires.rows has c.home.result some.0 (c.home.ensures _ has) some.1
    (g.S.Steps.now c.begin.new.self) c.begin.ensures in
    swept_from f (g.S.Steps.now c.begin.new.self) (g.S.Steps.now c.sweep.new.steps)
    (next_update f.now c.args.call.now) b.named b.sweep b.stand c.sweep.new.rows b.is
    (subst (λ (u : Update). HasSwept (g.S.Steps.now c.begin.new.self) (g.S.Steps.now c.sweep.new.steps) u
    c.sweep.new.rows) b.update_is (c.sweep.ensures b.sweeping))
