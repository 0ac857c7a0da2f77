-- One worker more is taken back, the last one first; then the seats meet.
use Rattle.std.proofs.Common.{◌≡◌, ℕ, ◌+◌, ◌<◌, ◌^◌, List, [], length, vec_len, sym, ap, ◌∙◌, subst, arith, ◌*◌}
use Rattle.std.proofs.lemmas.List.{length-map}
use Rattle.lasting_table.specs.Parties.{PartyValue}
use Rattle.lasting_table.specs.Meetings.{AreSeatsOf, HaveMet, informed}
use Rattle.flow_workers.specs.Counts.{AreBelow}
use Rattle.flow_workers.specs.declared.workers.FlowWorker.{FlowWorker}
use Rattle.flow_workers.proofs.CountLists.{below_more}
use Rattle.flows_runner.proofs.HandLemmas.{below_added, last_has, last_is, no_items, same_seats, taken_all, taken_more, written_back}
use Rattle.flows_runner.proofs.flowing.Flowing.take_back.Goals as goal

pub unreachable-requires : goal.unreachable-requires
unreachable-requires c =
    let was = c.loop-worker.invariant in
    let has = last_has c.args.workers.items c.loop-worker.workers.items c.pop.new.self.items
    c.loop-worker.self.seats.items c.args.self.now.calls c.loop-worker.self.calls c.args.self.now.replies
    c.loop-worker.self.replies c.in-Some.worker was.taken c.in-Some.ensures.items c.requires.seats.0
    c.requires.seats.1 in
    c.in_default-seat.not-Some has.0 has.1

pub add-requires-clause-others_few : goal.add-requires-clause-others_few
add-requires-clause-others_few c =
    let was = c.loop-worker.invariant in
    below_more (2 ^ 33) (2 ^ 63) c.in-Some.worker.replies (omega arith)
    (last_is c.args.workers.items c.loop-worker.workers.items c.pop.new.self.items
    c.loop-worker.self.seats.items c.args.self.now.calls c.loop-worker.self.calls c.args.self.now.replies
    c.loop-worker.self.replies c.in-Some.worker was.taken c.in-Some.ensures.items
    (λ (w : FlowWorker). AreBelow (2 ^ 33) w.replies) c.requires.few.replies)

pub loop-worker-preserved : goal.loop-worker-preserved
loop-worker-preserved c =
    let was = c.loop-worker.invariant in
    let w : FlowWorker = c.in-Some.worker in
    let one : vec_len c.pop.new.self + 1 ≡ vec_len c.loop-worker.workers = c.in-Some.ensures.cases in
    let seats = c.push_reserved.ensures in
    let spare = c.push_reserved-in-Some.ensures in
    let all = last_is c.args.workers.items c.loop-worker.workers.items c.pop.new.self.items
    c.loop-worker.self.seats.items c.args.self.now.calls c.loop-worker.self.calls c.args.self.now.replies
    c.loop-worker.self.replies w was.taken c.in-Some.ensures.items in
    let calls : vec_len w.calls < 2 ^ 32 = all (λ (v : FlowWorker). vec_len v.calls < 2 ^ 32) c.requires.few.calls in
    let replies = all (λ (v : FlowWorker). AreBelow (2 ^ 33) v.replies) c.requires.few.replies in
    let n : ℕ = vec_len c.loop-worker.self.seats in
    let then : vec_len c.push_reserved.new.self ≡ n + 1 = seats.len in
    record {
      taken = taken_more c.args.workers.items c.loop-worker.workers.items c.pop.new.self.items
          c.loop-worker.self.seats.items c.push_reserved.new.self.items c.args.self.now.calls c.loop-worker.self.calls
          (c.loop-worker.self.calls + c.len.result) c.args.self.now.replies c.loop-worker.self.replies c.add.new.self
          w c.in-Some-seat.seat was.taken c.in-Some.ensures.items c.in-Some-seat.is seats.items
          (ap (λ (many : ℕ). c.loop-worker.self.calls + many) c.len.ensures) c.add.ensures;
      asked = was.asked;
      table = was.table;
      packets = was.packets;
      seats_len = omega (arith, one, then, was.seats_len);
      spare_len = omega (arith, spare.len, then, was.spare_len);
      seats_room = seats.capacity ∙ was.seats_room;
      spare_room = spare.capacity ∙ was.spare_room;
      calls_few = omega (arith, calls, then, was.calls_few, c.len.ensures);
      replies_few = below_more (2 ^ 62 + 2 ^ 33 * n + 2 ^ 33) (2 ^ 62 + 2 ^ 33 * vec_len c.push_reserved.new.self)
          c.add.new.self (omega (arith, then))
          (subst (AreBelow (2 ^ 62 + 2 ^ 33 * n + 2 ^ 33)) (sym c.add.ensures)
          (below_added (2 ^ 62 + 2 ^ 33 * n) (2 ^ 33) c.loop-worker.self.replies w.replies was.replies_few replies));
    }

pub meet-requires : goal.meet-requires
meet-requires c =
    let many : vec_len c.loop-worker.workers ≡ 0 = c.in_default.ensures.cases.0 in
    let none : c.loop-worker.workers.items ≡ [] =
    no_items c.loop-worker.workers.items (sym c.loop-worker.workers.ok.0 ∙ many) in
    let all = taken_all c.args.workers.items c.loop-worker.workers.items c.loop-worker.self.seats.items
    c.args.self.now.calls c.loop-worker.self.calls c.args.self.now.replies c.loop-worker.self.replies
    c.loop-worker.invariant.taken none in
    let same : c.requires.seats.0 ≡ c.as_mut_slice.result.now =
    same_seats c.args.workers.items c.requires.seats.0 _ c.requires.seats.1 all.have ∙ sym c.reverse.ensures.items
    ∙ sym c.as_mut_slice.ensures.value in
    record { seats = subst (AreSeatsOf c.args.table.now) same c.requires.seats.2 }

pub returns-clause-met : goal.returns-clause-met
returns-clause-met c = λ seats have.
    let many : vec_len c.loop-worker.workers ≡ 0 = c.in_default.ensures.cases.0 in
    let none : c.loop-worker.workers.items ≡ [] =
    no_items c.loop-worker.workers.items (sym c.loop-worker.workers.ok.0 ∙ many) in
    let all = taken_all c.args.workers.items c.loop-worker.workers.items c.loop-worker.self.seats.items
    c.args.self.now.calls c.loop-worker.self.calls c.args.self.now.replies c.loop-worker.self.replies
    c.loop-worker.invariant.taken none in
    let same : seats ≡ c.as_mut_slice.result.now =
    same_seats c.args.workers.items seats _ have all.have ∙ sym c.reverse.ensures.items
    ∙ sym c.as_mut_slice.ensures.value in
    let met = c.meet.ensures.met in
    let long : length c.meet.new.seats ≡ vec_len c.reverse.new.self =
    ap length met.are ∙ length-map c.as_mut_slice.result.now (informed met.known) ∙ c.as_mut_slice.ensures.len in
    subst (HaveMet c.args.table.now seats)
    (sym (written_back c.meet.new.seats _ (vec_len c.reverse.new.self) long))
    (subst (λ (l : List PartyValue). HaveMet c.args.table.now l c.meet.new.seats) (sym same) met)
