use Rattle.std.proofs.Common.{subst, sym}
use Rattle.capture_faults.specs.Endings.{IsEnding}
use Rattle.capture_loop.specs.Reading.{MeetsEnd}
use Rattle.capture_loop.proofs.ReadingLemmas.{answers_ending, answers_met}
use Rattle.capture_loop.proofs.opening.read_on.Goals as goal

pub returns-in-Err-clause-ended : goal.returns-in-Err-clause-ended
returns-in-Err-clause-ended g c =
    let old = c.args.reader.now in
    let new = c.next.new.self in
    let before = g.S.Source.left c.args.source.now in
    let after = g.S.Source.left c.next.new.source in
    subst (MeetsEnd old new before after) (sym c.ending_of.ensures)
    (answers_met old new before after c.in-Err.fault c.in-Err.ensures.answers)

pub returns-in-Err-clause-ending : goal.returns-in-Err-clause-ending
returns-in-Err-clause-ending g c =
    subst IsEnding (sym c.ending_of.ensures)
    (answers_ending c.args.reader.now c.next.new.self (g.S.Source.left c.args.source.now)
    (g.S.Source.left c.next.new.source) c.in-Err.fault c.in-Err.ensures.answers)
