use Rattle.dir_states.proofs.RoomLemmas.{IsMade-answered}
use Rattle.dir_states.proofs.steps.answer_in.Goals as goal

pub returns-clause-made : goal.returns-clause-made
returns-clause-made c =
    IsMade-answered c.args.table.now c.args.seat c.args.op.now c.args.leaf.now c.answer.new.self c.requires.table
    c.requires.made
    c.answer.ensures.state c.answer.ensures.shape c.answer.ensures.room
