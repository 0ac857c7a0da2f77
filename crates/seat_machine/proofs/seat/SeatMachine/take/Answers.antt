-- What the machine inside says.
use Rattle.std.proofs.Common.{◌∙◌, ap}
use Rattle.table_model.specs.Program.{Program, answers, takes}
use Rattle.seat_machine.proofs.seat.SeatMachine.take.Goals as goal

pub returns-clause-value : goal.returns-clause-value
returns-clause-value c = c.take.ensures.value ∙ ap (λ (p : Program). takes p c.args.word) c.self.view_is

pub returns-clause-made : goal.returns-clause-made
returns-clause-made c = c.take.ensures.made ∙ ap (λ (p : Program). answers p c.args.word) c.self.view_is
