-- One worker more is taken apart, the last one first.
use Rattle.std.proofs.Common.{◌≡◌, ℕ, suc, List, [], ◌∷◌, ◌+◌, Vec, Global, length, map, vec_len, reverse, sym, ap, ◌∙◌, subst, arith}
use Rattle.std.proofs.lemmas.List.{map-append}
use Rattle.sim_steps.specs.declared.adds.Added.{Added}
use Rattle.sim_totals.specs.Values.{AdderValue, TableValue}
use Rattle.packet_adders.specs.declared.workers.AddWorker.{AddWorker}
use Rattle.totals_runner.specs.Seats.{HaveAdded}
use Rattle.totals_runner.proofs.SeatLemmas.{AddedFrom, added_end, added_more, added_none, map-reverse}
use Rattle.totals_runner.proofs.seats.take_apart.Goals as goal

pub loop-worker-init : goal.loop-worker-init
loop-worker-init c =
    let t : TableValue = c.args.table.now in
    let ws : List AddWorker = c.args.workers.items in
    let n : ℕ = vec_len c.args.workers in
    let no_adders : vec_len c.args.adders.now ≡ 0 = c.args.adders.now.ok.0 ∙ ap length c.requires.adders.0 in
    let no_logs : vec_len c.args.logs.now ≡ 0 = c.args.logs.now.ok.0 ∙ ap length c.requires.logs.0 in
    record {
      added = λ shares through.
          subst (λ (x : List AdderValue). AddedFrom t n shares ws x
          (map (λ (log : Vec Added Global). log.items) c.args.logs.now.items))
          (sym c.requires.adders.0)
          (subst (λ (x : List (Vec Added Global)). AddedFrom t n shares ws []
          (map (λ (log : Vec Added Global). log.items) x)) (sym c.requires.logs.0) (added_none t n shares ws through));
      adders_len = omega (arith, no_adders);
      logs_len = omega (arith, no_adders, no_logs);
      adders_room = c.requires.adders.1;
      logs_room = c.requires.logs.1;
    }

pub loop-worker-preserved : goal.loop-worker-preserved
loop-worker-preserved c =
    let t : TableValue = c.args.table.now in
    let w : AddWorker = c.in-Some.worker in
    let was = c.loop-worker.invariant in
    let n : ℕ = vec_len c.pop.new.self in
    let one : n + 1 ≡ vec_len c.loop-worker.workers = c.in-Some.ensures.cases in
    let adders = c.push_reserved.ensures in
    let logs = c.push_reserved-in-Some.ensures in
    let m_is : vec_len c.loop-worker.workers ≡ suc n = omega (arith, one) in
    record {
      added = λ shares through.
          added_more t n (vec_len c.loop-worker.workers) shares c.loop-worker.workers.items c.pop.new.self.items w
          c.loop-worker.adders.items c.push_reserved.new.self.items
          (map (λ (log : Vec Added Global). log.items) c.loop-worker.logs.items)
          (map (λ (log : Vec Added Global). log.items) c.push_reserved-in-Some.new.self.items)
          (was.added shares through) c.in-Some.ensures.items c.pop.new.self.ok.0 m_is adders.items
          (ap (map (λ (log : Vec Added Global). log.items)) logs.items
          ∙ map-append (λ (log : Vec Added Global). log.items) c.loop-worker.logs.items (w.log ∷ []));
      adders_len = omega (arith, one, adders.len, was.adders_len);
      logs_len = omega (arith, logs.len, adders.len, was.logs_len);
      adders_room = adders.capacity ∙ was.adders_room;
      logs_room = logs.capacity ∙ was.logs_room;
    }

pub returns : goal.returns
returns c = λ shares through.
    let t : TableValue = c.args.table.now in
    let ws : List AddWorker = c.loop-worker.workers.items in
    let logs : List (Vec Added Global) = c.loop-worker.logs.items in
    let none : vec_len c.loop-worker.workers ≡ 0 = c.in_default.ensures.cases.0 in
    let from : AddedFrom t 0 shares ws c.loop-worker.adders.items (map (λ (log : Vec Added Global). log.items) logs) =
    subst (λ (n : ℕ). AddedFrom t n shares ws c.loop-worker.adders.items
    (map (λ (log : Vec Added Global). log.items) logs)) none (c.loop-worker.invariant.added shares through) in
    let end = added_end t shares ws c.loop-worker.adders.items (map (λ (log : Vec Added Global). log.items) logs)
    (omega (arith, none, c.loop-worker.workers.ok.0)) from in
    let turned : List (List Added) = map (λ (log : Vec Added Global). log.items) c.reverse-2.new.self.items in
    subst (λ (x : List AdderValue). HaveAdded t 0 shares x turned) (sym c.reverse.ensures.items)
    (subst (λ (y : List (List Added)). HaveAdded t 0 shares (reverse c.loop-worker.adders.items) y)
    (sym (ap (map (λ (log : Vec Added Global). log.items)) c.reverse-2.ensures.items
    ∙ map-reverse (λ (log : Vec Added Global). log.items) logs)) end)
