use Rattle.std.proofs.Common.{◌≡◌, ℕ, suc, List, [], ◌∷◌, ◌+◌, Vec, Global, length, map, vec_len, sym, ap, ◌∙◌, subst, arith}
use Rattle.std.proofs.lemmas.List.{map-append}
use Rattle.plain_map.specs.declared.calls.Call.{Call}
use Rattle.shared_table.specs.SeatValues.{SeatValue}
use Rattle.shared_table.specs.Values.{TableValue, new_seat, new_seats}
use Rattle.batch_runner.specs.declared.workers.SeatWorker.{SeatWorker}
use Rattle.batch_runner.specs.Seats.{IsFresh}
use Rattle.batch_runner.proofs.Working.{fresh_more, new_end}
use Rattle.batch_runner.proofs.workers.workers_of.Goals as goal

pub worker_of-requires : goal.worker_of-requires
worker_of-requires g c =
    let d : TableValue = c.args.directory.now in
    let seat : SeatValue = c.in-Some.seat in
    let xs : List SeatValue = c.pop.new.self.items in
    let r = new_end d 0 xs seat (vec_len c.loop-seat.seats)
    (sym c.in-Some.ensures.items ∙ c.loop-seat.invariant.seats) in
    record { new = r.1 ∙ ap (new_seat d) (sym (ap (λ (s : SeatValue). s.holding.seat) r.1)) }

pub loop-seat-preserved : goal.loop-seat-preserved
loop-seat-preserved g c =
    let d : TableValue = c.args.directory.now in
    let seat : SeatValue = c.in-Some.seat in
    let xs : List SeatValue = c.pop.new.self.items in
    let n : ℕ = vec_len c.pop.new.self in
    let item : Vec (ℕ × Call) Global → List (ℕ × Call) = λ (share : Vec (ℕ × Call) Global). share.items in
    let len : n ≡ length xs = c.pop.new.self.ok.0 in
    let r = new_end d 0 xs seat (vec_len c.loop-seat.seats)
    (sym c.in-Some.ensures.items ∙ c.loop-seat.invariant.seats) in
    let z : 0 + length xs ≡ n = omega arith in
    let number : seat.holding.seat ≡ n = ap (λ (s : SeatValue). s.holding.seat) r.1 ∙ z in
    let w : SeatWorker g.row.K.Denot = c.in_ok-worker.worker in
    let one : IsFresh g.K.Collector.holds g.K.Collector.room d n c.in-Some-pop.calls.items w =
    subst (λ (k : ℕ). IsFresh g.K.Collector.holds g.K.Collector.room d k c.in-Some-pop.calls.items w) number
    c.in_ok-worker.ensures in
    let less : n + 1 ≡ vec_len c.loop-seat.seats = c.in-Some.ensures.cases in
    let fewer : vec_len c.pop-in-Some.new.self + 1 ≡ vec_len c.loop-seat.shares = c.in-Some-pop.ensures.cases in
    let m_is : vec_len c.loop-seat.seats ≡ suc n = omega (arith, less) in
    record {
      seats = r.0 ∙ ap (new_seats d 0) (sym len);
      shares = omega (arith, less, fewer, c.loop-seat.invariant.shares);
      fresh = fresh_more g.K.Collector.holds g.K.Collector.room d n (vec_len c.loop-seat.seats)
          (map item c.args.shares.items) (map item c.pop-in-Some.new.self.items) (map item c.loop-seat.shares.items)
          c.in-Some-pop.calls.items c.loop-seat.workers.items c.push.new.self.items w m_is c.loop-seat.invariant.fresh
          (ap (map item) c.in-Some-pop.ensures.items
          ∙ map-append item c.pop-in-Some.new.self.items (c.in-Some-pop.calls ∷ []))
          one c.in_ok-push.ensures.items;
    }
