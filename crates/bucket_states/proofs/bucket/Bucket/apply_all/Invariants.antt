use Rattle.std.proofs.Common.{◌≡◌, drop}
use Rattle.bucket_states.specs.States.{state_of, KeepsRoom, KeepsShape}
use Rattle.bucket_states.specs.Change.{after_seats}
use Rattle.bucket_states.proofs.bucket.Bucket.apply_all.Given as goal

abbrev pub invariant-loop-seat : goal.invariant-loop-seat
invariant-loop-seat l = record {
  rest : after_seats l.rules l.seat (drop l.seat l.ops) (state_of l.self) ≡ after_seats l.rules 0 l.ops
      (state_of l.fn.self);
  shape : KeepsShape (state_of l.fn.self) (state_of l.self);
  room : KeepsRoom l.fn.self l.self;
}
