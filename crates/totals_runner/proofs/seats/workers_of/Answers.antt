-- One worker more is made, of the last seat that is left.
use Rattle.std.proofs.Common.{◌≡◌, ℕ, suc, List, [], ◌∷◌, ◌+◌, Vec, Global, length, map, vec_len, sym, ap, ◌∙◌, subst, arith}
use Rattle.std.proofs.lemmas.List.{map-append}
use Rattle.sim_totals.specs.Values.{AdderValue, TableValue, fresh, fresh_from}
use Rattle.packet_adders.specs.declared.frames.Frame.{Frame}
use Rattle.packet_adders.specs.declared.workers.AddWorker.{AddWorker}
use Rattle.totals_runner.specs.Seats.{IsFresh}
use Rattle.totals_runner.proofs.SeatLemmas.{fresh_end, fresh_more}
use Rattle.totals_runner.proofs.seats.workers_of.Goals as goal

pub worker_of-requires : goal.worker_of-requires
worker_of-requires c =
    let t : TableValue = c.args.table.now in
    let adder : AdderValue = c.in-Some.adder in
    let xs : List AdderValue = c.pop.new.self.items in
    let r = fresh_end t 0 xs adder (vec_len c.loop-adder.adders)
    (sym c.in-Some.ensures.items ∙ c.loop-adder.invariant.adders) in
    record { new = r.1 ∙ ap (fresh t) (sym (ap (λ (a : AdderValue). a.number) r.1)) }

pub loop-adder-preserved : goal.loop-adder-preserved
loop-adder-preserved c =
    let t : TableValue = c.args.table.now in
    let adder : AdderValue = c.in-Some.adder in
    let xs : List AdderValue = c.pop.new.self.items in
    let n : ℕ = vec_len c.pop.new.self in
    let item : Vec Frame Global → List Frame = λ (share : Vec Frame Global). share.items in
    let len : n ≡ length xs = c.pop.new.self.ok.0 in
    let r = fresh_end t 0 xs adder (vec_len c.loop-adder.adders)
    (sym c.in-Some.ensures.items ∙ c.loop-adder.invariant.adders) in
    let z : 0 + length xs ≡ n = omega arith in
    let number : adder.number ≡ n = ap (λ (a : AdderValue). a.number) r.1 ∙ z in
    let w : AddWorker = c.in_ok-worker.worker in
    let one : IsFresh t n c.in-Some-pop.frames.items w =
    subst (λ (k : ℕ). IsFresh t k c.in-Some-pop.frames.items w) number c.in_ok-worker.ensures in
    let less : n + 1 ≡ vec_len c.loop-adder.adders = c.in-Some.ensures.cases in
    let fewer : vec_len c.pop-in-Some.new.self + 1 ≡ vec_len c.loop-adder.shares = c.in-Some-pop.ensures.cases in
    let m_is : vec_len c.loop-adder.adders ≡ suc n = omega (arith, less) in
    record {
      adders = r.0 ∙ ap (fresh_from t 0) (sym len);
      shares = omega (arith, less, fewer, c.loop-adder.invariant.shares);
      fresh = fresh_more t n (vec_len c.loop-adder.adders) (map item c.args.shares.items)
          (map item c.pop-in-Some.new.self.items) (map item c.loop-adder.shares.items) c.in-Some-pop.frames.items
          c.loop-adder.workers.items c.push.new.self.items w m_is c.loop-adder.invariant.fresh
          (ap (map item) c.in-Some-pop.ensures.items
          ∙ map-append item c.pop-in-Some.new.self.items (c.in-Some-pop.frames ∷ []))
          one c.in_ok-push.ensures.items;
    }
