-- A free row is taken, or none is there.
use Rattle.std.proofs.Common.{◌≡◌, ℕ, ◌+◌, ◌∙◌, sym, ap, arith}
use Rattle.std.proofs.Math.Pow.{pow_mono}
use Rattle.lasting_model.specs.Steps.{Goes, StoreOp, Update}
use Rattle.lasting_model.specs.Worlds.{next_update}
use Rattle.lasting_calls.specs.Going.{Going}
use Rattle.lasting_calls.specs.Seats.{rows_at}
use Rattle.lasting_calls.proofs.MakeLemmas.{ended_answered, ended_rest, ended_rows, ended_time, first_free, has_ended, none_free, on_answered, on_desk, on_free, on_generation, on_holds, on_plan, on_rest, on_rows, on_seat, on_stand, on_time, own_is, refused_answered, refused_ended, refused_rest, refused_rows, refused_time}
use Rattle.lasting_calls.proofs.calls.make.Goals as goal

pub returns-in_default-clause-seat : goal.returns-in_default-clause-seat
returns-in_default-clause-seat g c =
    let f : Going = g.S.Steps.now c.args.steps.now in
    let now : Going = g.S.Steps.now c.begin.new.steps in
    let u : Update = next_update f.now c.args.call.now in
    let h = c.begin.ensures in
    let none = none_free (rows_at h.swept.now) h.swept.now.free
    (sym (c.next_row.ensures (rows_at h.swept.now) h.rows_are.has) ∙ c.in_default.is) in
    record {
      rows = refused_rows f now u c.begin.new.rows h none;
      rest = refused_rest f now u c.begin.new.rows h none;
      answered = c.requires.seat.answered ∙ sym (refused_answered f now u c.begin.new.rows h none);
      few = c.requires.seat.few;
      time = c.requires.seat.time ∙ sym (refused_time f now u c.begin.new.rows h none);
    }

pub returns-in_default-clause-ended : goal.returns-in_default-clause-ended
returns-in_default-clause-ended g c =
    let f : Going = g.S.Steps.now c.args.steps.now in
    let now : Going = g.S.Steps.now c.begin.new.steps in
    let u : Update = next_update f.now c.args.call.now in
    let h = c.begin.ensures in
    let none = none_free (rows_at h.swept.now) h.swept.now.free
    (sym (c.next_row.ensures (rows_at h.swept.now) h.rows_are.has) ∙ c.in_default.is) in
    refused_ended f now u c.begin.new.rows h none

pub own_of-own-requires-clause-published : goal.own_of-own-requires-clause-published
own_of-own-requires-clause-published g c =
    let f : Going = g.S.Steps.now c.args.steps.now in
    let now : Going = g.S.Steps.now c.begin.new.steps in
    let u : Update = next_update f.now c.args.call.now in
    let h = c.begin.ensures in
    let first = first_free (rows_at h.swept.now) h.swept.now.free c.in-Some.row c.in-Some.published
    (sym (c.next_row.ensures (rows_at h.swept.now) h.rows_are.has) ∙ c.in-Some.is) in
    let same = ap (λ (k : ℕ → ℕ). k c.in-Some.row)
    (on_generation f now u c.begin.new.rows h c.in-Some.row first.rest first.is) in
    let answered = on_answered f now u c.begin.new.rows h c.in-Some.row first.rest first.is in
    omega (
      arith,
      first.count_is,
      same,
      c.counts.ensures c.in-Some.row,
      answered,
      c.requires.seat.answered,
      c.requires.few,
    )

pub carry_out-reply-requires-clause-phase : goal.carry_out-reply-requires-clause-phase
carry_out-reply-requires-clause-phase g c =
    let f : Going = g.S.Steps.now c.args.steps.now in
    let now : Going = g.S.Steps.now c.begin.new.steps in
    let u : Update = next_update f.now c.args.call.now in
    let h = c.begin.ensures in
    let first = first_free (rows_at h.swept.now) h.swept.now.free c.in-Some.row c.in-Some.published
    (sym (c.next_row.ensures (rows_at h.swept.now) h.rows_are.has) ∙ c.in-Some.is) in
    on_stand f now u c.begin.new.rows h c.in-Some.row first.rest first.is
    ∙ (λ i. Goes (record {
      number = (ap (λ (k : ℕ). k + 1) (sym c.requires.seat.answered) ∙ sym c.own_of-own.ensures.number) i;
      call = sym c.own_of-own.ensures.call i;
    }) (StoreOp 0))

pub carry_out-reply-requires-clause-desk : goal.carry_out-reply-requires-clause-desk
carry_out-reply-requires-clause-desk g c =
    let f : Going = g.S.Steps.now c.args.steps.now in
    let now : Going = g.S.Steps.now c.begin.new.steps in
    let u : Update = next_update f.now c.args.call.now in
    let h = c.begin.ensures in
    let first = first_free (rows_at h.swept.now) h.swept.now.free c.in-Some.row c.in-Some.published
    (sym (c.next_row.ensures (rows_at h.swept.now) h.rows_are.has) ∙ c.in-Some.is) in
    on_desk f now u c.begin.new.rows h c.in-Some.row first.rest first.is c.args.desk.now c.requires.desk

pub carry_out-reply-requires-clause-time : goal.carry_out-reply-requires-clause-time
carry_out-reply-requires-clause-time g c =
    let f : Going = g.S.Steps.now c.args.steps.now in
    let now : Going = g.S.Steps.now c.begin.new.steps in
    let u : Update = next_update f.now c.args.call.now in
    let h = c.begin.ensures in
    let first = first_free (rows_at h.swept.now) h.swept.now.free c.in-Some.row c.in-Some.published
    (sym (c.next_row.ensures (rows_at h.swept.now) h.rows_are.has) ∙ c.in-Some.is) in
    c.requires.seat.time ∙ sym (on_time f now u c.begin.new.rows h c.in-Some.row first.rest first.is)

pub carry_out-reply-requires-clause-own : goal.carry_out-reply-requires-clause-own
carry_out-reply-requires-clause-own g c =
    let f : Going = g.S.Steps.now c.args.steps.now in
    let now : Going = g.S.Steps.now c.begin.new.steps in
    let u : Update = next_update f.now c.args.call.now in
    let h = c.begin.ensures in
    let first = first_free (rows_at h.swept.now) h.swept.now.free c.in-Some.row c.in-Some.published
    (sym (c.next_row.ensures (rows_at h.swept.now) h.rows_are.has) ∙ c.in-Some.is) in
    let same = ap (λ (k : ℕ → ℕ). k c.in-Some.row)
    (on_generation f now u c.begin.new.rows h c.in-Some.row first.rest first.is) in
    let answered = on_answered f now u c.begin.new.rows h c.in-Some.row first.rest first.is in
    let own = c.own_of-own.ensures in
    own_is now c.args.desk.now
    (on_desk f now u c.begin.new.rows h c.in-Some.row first.rest first.is c.args.desk.now c.requires.desk)
    c.begin.new.rows (on_rows f now u c.begin.new.rows h c.in-Some.row first.rest first.is) c.in-Some.row first.rest
    (on_free f now u c.begin.new.rows h c.in-Some.row first.rest first.is) c.counts.ensures
    (omega (arith, answered, c.requires.seat.answered, c.requires.few)) c.own_of-own.result c.args.call.now
    c.requires.update (omega (arith, own.number, answered, c.requires.seat.answered)) own.call own.hashed own.bucket
    (omega (arith, own.few, pow_mono c.args.desk.now.settings.depth_in_range.1)) own.row
    (omega (arith, own.generation, first.count_is, same))

pub returns-clause-seat : goal.returns-clause-seat
returns-clause-seat g c =
    let f : Going = g.S.Steps.now c.args.steps.now in
    let now : Going = g.S.Steps.now c.begin.new.steps in
    let end : Going = g.S.Steps.now c.carry_out-reply.new.steps in
    let u : Update = next_update f.now c.args.call.now in
    let h = c.begin.ensures in
    let first = first_free (rows_at h.swept.now) h.swept.now.free c.in-Some.row c.in-Some.published
    (sym (c.next_row.ensures (rows_at h.swept.now) h.rows_are.has) ∙ c.in-Some.is) in
    let same = ap (λ (k : ℕ → ℕ). k c.in-Some.row)
    (on_generation f now u c.begin.new.rows h c.in-Some.row first.rest first.is) in
    let answered = on_answered f now u c.begin.new.rows h c.in-Some.row first.rest first.is in
    let are = on_rows f now u c.begin.new.rows h c.in-Some.row first.rest first.is in
    let free = on_free f now u c.begin.new.rows h c.in-Some.row first.rest first.is in
    let own = c.own_of-own.result in
    let generation : own.generation ≡ now.now.generation c.in-Some.row + 1 =
    omega (arith, c.own_of-own.ensures.generation, first.count_is, same) in
    record {
      rows = ended_rows now end c.begin.new.rows c.note.new.rows own are c.in-Some.row first.rest free
          c.carry_out-reply.new.time _ _ c.carry_out-reply.ensures.told c.note.ensures.sound c.note.ensures.same
          c.note.ensures.rows generation;
      rest = ended_rest now end c.begin.new.rows c.note.new.rows own are c.in-Some.row first.rest free
          c.carry_out-reply.new.time _ _ c.carry_out-reply.ensures.told c.note.ensures.sound c.note.ensures.same
          c.note.ensures.rows generation
          (on_rest f now u c.begin.new.rows h c.in-Some.row first.rest first.is);
      answered = ap (λ (k : ℕ). k + 1) (c.requires.seat.answered ∙ sym answered)
          ∙ sym (ended_answered now end c.begin.new.rows c.note.new.rows own are c.in-Some.row first.rest free
          c.carry_out-reply.new.time _ _ c.carry_out-reply.ensures.told c.note.ensures.sound c.note.ensures.same
          c.note.ensures.rows generation);
      few = omega (arith, c.requires.few);
      time = sym (ended_time now end c.begin.new.rows c.note.new.rows own are c.in-Some.row first.rest free
          c.carry_out-reply.new.time _ _ c.carry_out-reply.ensures.told c.note.ensures.sound c.note.ensures.same
          c.note.ensures.rows generation);
    }

pub returns-clause-ended : goal.returns-clause-ended
returns-clause-ended g c =
    let f : Going = g.S.Steps.now c.args.steps.now in
    let now : Going = g.S.Steps.now c.begin.new.steps in
    let end : Going = g.S.Steps.now c.carry_out-reply.new.steps in
    let u : Update = next_update f.now c.args.call.now in
    let h = c.begin.ensures in
    let first = first_free (rows_at h.swept.now) h.swept.now.free c.in-Some.row c.in-Some.published
    (sym (c.next_row.ensures (rows_at h.swept.now) h.rows_are.has) ∙ c.in-Some.is) in
    let same = ap (λ (k : ℕ → ℕ). k c.in-Some.row)
    (on_generation f now u c.begin.new.rows h c.in-Some.row first.rest first.is) in
    let are = on_rows f now u c.begin.new.rows h c.in-Some.row first.rest first.is in
    let free = on_free f now u c.begin.new.rows h c.in-Some.row first.rest first.is in
    let own = c.own_of-own.result in
    let generation : own.generation ≡ now.now.generation c.in-Some.row + 1 =
    omega (arith, c.own_of-own.ensures.generation, first.count_is, same) in
    has_ended now end c.begin.new.rows c.note.new.rows own are c.in-Some.row first.rest free
    c.carry_out-reply.new.time _ _ c.carry_out-reply.ensures.told c.note.ensures.sound c.note.ensures.same
    c.note.ensures.rows generation f
    (on_plan f now u c.begin.new.rows h c.in-Some.row first.rest first.is)
    (on_holds f now u c.begin.new.rows h c.in-Some.row first.rest first.is)
    (on_seat f now u c.begin.new.rows h c.in-Some.row first.rest first.is)
