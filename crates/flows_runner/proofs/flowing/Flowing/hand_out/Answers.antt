-- One worker more is made, of the last seat and the last list that are left.
use Rattle.std.proofs.Common.{◌≡◌, ◌+◌, vec_len, refl, ◌∙◌, arith}
use Rattle.flows_runner.proofs.HandLemmas.{handed_more}
use Rattle.flows_runner.proofs.flowing.Flowing.hand_out.Goals as goal

pub loop-seat-preserved : goal.loop-seat-preserved
loop-seat-preserved c =
    let was = c.loop-seat.invariant in
    let pushed = c.push_reserved.ensures in
    let one : vec_len c.pop.new.self + 1 ≡ vec_len c.loop-seat.self.seats = c.in-Some.ensures.cases in
    let less : vec_len c.pop-in-Some.new.self + 1 ≡ vec_len c.loop-seat.self.spare = c.in-Some-pop.ensures.cases in
    record {
      handed = handed_more c.args.self.now.seats.items c.args.self.now.spare.items c.loop-seat.self.seats.items
          c.pop.new.self.items c.loop-seat.self.spare.items c.pop-in-Some.new.self.items c.loop-seat.workers.items
          c.push_reserved.new.self.items c.in-Some.seat _ was.handed c.in-Some.ensures.items
          c.in-Some-pop.ensures.items refl c.none.ensures pushed.items;
      as_far = record {
        asked = was.as_far.asked;
        replies = was.as_far.replies;
        packets = was.as_far.packets;
        calls = was.as_far.calls;
      };
      table = was.table;
      as_many = omega (arith, one, less, was.as_many);
      room = omega (arith, one, pushed.len, pushed.capacity, was.room);
      seats_room = c.pop.ensures.capacity ∙ was.seats_room;
      spare_room = c.pop-in-Some.ensures.capacity ∙ was.spare_room;
    }
