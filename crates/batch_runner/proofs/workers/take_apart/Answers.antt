use Rattle.std.proofs.Common.{◌≡◌, ℕ, suc, List, [], ◌+◌, length, vec_len, sym, ap, ◌∙◌, subst, arith}
use Rattle.std.specs.List.{AllZip}
use Rattle.shared_table.specs.SeatValues.{SeatValue}
use Rattle.shared_table.specs.Values.{TableValue}
use Rattle.batch_runner.specs.declared.workers.SeatWorker.{SeatWorker}
use Rattle.batch_runner.specs.Seats.{HaveMade}
use Rattle.batch_runner.proofs.Working.{MadeFrom, made_end, made_more, made_none, seat_there}
use Rattle.batch_runner.proofs.workers.take_apart.Goals as goal

pub loop-worker-init : goal.loop-worker-init
loop-worker-init g c =
    let d : TableValue = c.args.directory.now in
    let K : Type 0 = g.row.K.Denot in
    let ws : List (SeatWorker K) = c.args.workers.items in
    let n : ℕ = vec_len c.args.workers in
    let no_seats : vec_len c.args.seats.now ≡ 0 = c.args.seats.now.ok.0 ∙ ap length c.requires.seats.0 in
    let none_kept : vec_len c.args.kept.now ≡ 0 = c.args.kept.now.ok.0 ∙ ap length c.requires.kept.0 in
    record {
      made = λ shares through.
          subst (λ (x : List SeatValue). MadeFrom g.K.Collector.holds d n shares ws x c.args.kept.now.items)
          (sym c.requires.seats.0)
          (subst (λ (x : List K). MadeFrom g.K.Collector.holds d n shares ws [] x) (sym c.requires.kept.0)
          (made_none g.K.Collector.holds d n shares ws through));
      seats_len = omega (arith, no_seats);
      kept_len = omega (arith, no_seats, none_kept);
      seats_room = c.requires.seats.1;
      kept_room = c.requires.kept.1;
    }

-- each worker that is left has a seat
pub unreachable-requires : goal.unreachable-requires
unreachable-requires g c =
    let through = c.requires.through in
    let has = seat_there g.K.Collector.holds c.args.directory.now (vec_len c.loop-worker.workers) through.0
    c.loop-worker.workers.items c.pop.new.self.items c.in-Some.worker c.loop-worker.seats.items
    c.loop-worker.kept.items (c.loop-worker.invariant.made through.0 through.1) c.in-Some.ensures.items in
    c.in_default-seat.not-Some has.0 has.1

pub loop-worker-preserved : goal.loop-worker-preserved
loop-worker-preserved g c =
    let d : TableValue = c.args.directory.now in
    let w : SeatWorker g.row.K.Denot = c.in-Some.worker in
    let was = c.loop-worker.invariant in
    let n : ℕ = vec_len c.pop.new.self in
    let one : n + 1 ≡ vec_len c.loop-worker.workers = c.in-Some.ensures.cases in
    let seats = c.push_reserved.ensures in
    let kept = c.push_reserved-in-Some.ensures in
    let m_is : vec_len c.loop-worker.workers ≡ suc n = omega (arith, one) in
    record {
      made = λ shares through.
          made_more g.K.Collector.holds d n (vec_len c.loop-worker.workers) shares c.loop-worker.workers.items
          c.pop.new.self.items w c.in-Some-seat.seat c.loop-worker.seats.items c.push_reserved.new.self.items
          c.loop-worker.kept.items c.push_reserved-in-Some.new.self.items (was.made shares through)
          c.in-Some.ensures.items c.pop.new.self.ok.0 m_is c.in-Some-seat.is
          seats.items kept.items;
      seats_len = omega (arith, one, seats.len, was.seats_len);
      kept_len = omega (arith, kept.len, seats.len, was.kept_len);
      seats_room = seats.capacity ∙ was.seats_room;
      kept_room = kept.capacity ∙ was.kept_room;
    }

pub returns : goal.returns
returns g c = λ shares through.
    let d : TableValue = c.args.directory.now in
    let K : Type 0 = g.row.K.Denot in
    let ws : List (SeatWorker K) = c.loop-worker.workers.items in
    let none : vec_len c.loop-worker.workers ≡ 0 = c.in_default.ensures.cases.0 in
    let from : MadeFrom g.K.Collector.holds d 0 shares ws c.loop-worker.seats.items c.loop-worker.kept.items =
    subst (λ (n : ℕ). MadeFrom g.K.Collector.holds d n shares ws c.loop-worker.seats.items c.loop-worker.kept.items)
    none (c.loop-worker.invariant.made shares through) in
    let end = made_end g.K.Collector.holds d shares ws c.loop-worker.seats.items c.loop-worker.kept.items
    (omega (arith, none, c.loop-worker.workers.ok.0)) from in (
      end.0,
      subst (λ (x : List SeatValue). HaveMade d 0 shares x end.0) (sym c.reverse.ensures.items) end.1,
      subst (λ (x : List K). AllZip g.K.Collector.holds x end.0) (sym c.reverse-2.ensures.items) end.2,
    )
