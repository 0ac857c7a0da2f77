use Rattle.batch_laws.proofs.Threads.{batches_answer_as_one_thread}
use Rattle.batch_laws.proofs.Shares.{outcomes_are_lines, flows_are_by_key, one_seat_is_by_key}
use Rattle.batch_laws.proofs.Room.{room_is_of_calls}
use Rattle.batch_laws.proofs.OneSeat.{one_seat_answers}
use Rattle.batch_laws.proofs.laws.thread_laws.Goals as goal

pub returns : goal.returns
returns c = record {
  answers = batches_answer_as_one_thread;
  lines = outcomes_are_lines;
  flows = flows_are_by_key;
  one_seat = one_seat_is_by_key;
  room = room_is_of_calls;
  alone = one_seat_answers;
}
