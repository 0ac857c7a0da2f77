-- The words of a row are of one writing, or the try is lost.
use Rattle.lasting_calls.proofs.TryLemmas.{check_asked, look_shows}
use Rattle.lasting_calls.proofs.tries.look.Goals as goal

pub load-generation-requires : goal.load-generation-requires
load-generation-requires g c = record {
  asked = check_asked (g.S.Steps.now c.args.steps.now) c.args.desk.now c.args.own.now c.requires.desk c.requires.own
      c.args.turn c.requires.phase (g.S.Steps.now c.load-word.new.self) c.load-word.result c.load-word.ensures.goes
      (g.S.Steps.now c.load_row.new.steps) c.load_row.new.words c.load_row.ensures.loaded _ c.row-first.ensures;
}

pub returns-then-generation-word-clause-seen : goal.returns-then-generation-word-clause-seen
returns-then-generation-word-clause-seen g c =
    look_shows (g.S.Steps.now c.args.steps.now) c.args.desk.now c.args.own.now c.requires.desk c.requires.own
    c.args.turn c.requires.phase (g.S.Steps.now c.load-word.new.self) c.load-word.result c.load-word.ensures.goes
    (g.S.Steps.now c.load_row.new.steps) c.load_row.new.words c.load_row.ensures.loaded
    (g.S.Steps.now c.load-generation.new.self) c.load-generation.result c.load-generation.ensures.goes
    c.load-generation.ensures.fits c.if-generation-word.true
