-- The parts of the step make the program after it.
use Rattle.std.proofs.Common.{refl}
use Rattle.seat_machine.proofs.Taking.{covers, went_answers, went_takes}
use Rattle.seat_machine.proofs.machine.Machine.take.Goals as goal

pub returns-in_default : goal.returns-in_default
returns-in_default c =
    let was = c.args.self.now in
    let covered = covers was was.stage c.args.word c.in_default.not-StoreDone c.requires.fits refl in
    record {
      value = went_takes was c.go.new.self c.args.word covered c.go.ensures.went c.requires.fits;
      made = went_answers was c.go.new.self c.args.word covered c.go.ensures.went c.requires.fits;
      kept = c.go.ensures.kept;
    }
