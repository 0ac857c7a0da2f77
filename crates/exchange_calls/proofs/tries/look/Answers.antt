-- The bucket's word, its row, and that word again.
use Rattle.std.proofs.Common.{◌∙◌, sym, ap}
use Rattle.exchange_model.specs.Plans.{Plan}
use Rattle.exchange_model.specs.Codes.{row_in}
use Rattle.exchange_calls.proofs.PlaceLemmas.{row_in_is}
use Rattle.exchange_calls.proofs.TryLemmas.{again_asked, first_asked, look_fails, look_shows, row_of, row_plan, row_stands}
use Rattle.exchange_calls.proofs.tries.look.Goals as goal

pub load-word-requires : goal.load-word-requires
load-word-requires g c = record {
  asked = first_asked (g.S.Steps.now c.args.steps.now) c.args.desk.now c.requires.desk c.args.own.now.call c.args.turn
      c.args.own.now.bucket c.requires.bucket c.requires.phase _ c.bucket-place.ensures;
}

pub load_row-requires-clause-phase : goal.load_row-requires-clause-phase
load_row-requires-clause-phase g c =
    row_stands (g.S.Steps.now c.args.steps.now) c.args.desk.now c.requires.desk c.args.own.now.call c.args.turn
    c.args.own.now.bucket c.requires.bucket c.requires.phase (g.S.Steps.now c.load-word.new.self) c.load-word.result
    c.load-word.ensures.goes

pub load_row-requires-clause-desk : goal.load_row-requires-clause-desk
load_row-requires-clause-desk g c =
    row_of (g.S.Steps.now c.args.steps.now) c.args.desk.now c.requires.desk c.args.own.now.call c.args.turn
    c.args.own.now.bucket c.requires.bucket c.requires.phase (g.S.Steps.now c.load-word.new.self) c.load-word.result
    c.load-word.ensures.goes

pub load_row-requires-clause-row : goal.load_row-requires-clause-row
load_row-requires-clause-row g c =
    row_in_is (g.S.Steps.now c.args.steps.now) c.args.desk.now c.requires.desk c.load-word.result _
    c.row_in-row.ensures.value
    ∙ ap (λ (p : Plan). row_in p c.load-word.result)
    (sym (row_plan (g.S.Steps.now c.args.steps.now) c.args.desk.now c.requires.desk c.args.own.now.call c.args.turn
    c.args.own.now.bucket c.requires.bucket c.requires.phase (g.S.Steps.now c.load-word.new.self) c.load-word.result
    c.load-word.ensures.goes))

pub load-again-requires : goal.load-again-requires
load-again-requires g c = record {
  asked = again_asked (g.S.Steps.now c.args.steps.now) c.args.desk.now c.requires.desk c.args.own.now.call c.args.turn
      c.args.own.now.bucket c.requires.bucket c.requires.phase (g.S.Steps.now c.load-word.new.self) c.load-word.result
      c.load-word.ensures.goes (g.S.Steps.now c.load_row.new.steps) c.load_row.new.hand c.load_row.ensures _
      c.bucket-place.ensures;
}

pub returns-then-again-word-clause-seen : goal.returns-then-again-word-clause-seen
returns-then-again-word-clause-seen g c =
    look_shows (g.S.Steps.now c.args.steps.now) c.args.desk.now c.requires.desk c.args.own.now.call c.args.turn
    c.args.own.now.bucket c.requires.bucket c.requires.phase (g.S.Steps.now c.load-word.new.self) c.load-word.result
    c.load-word.ensures.goes (g.S.Steps.now c.load_row.new.steps) c.load_row.new.hand c.load_row.ensures
    (g.S.Steps.now c.load-again.new.self) c.load-again.result c.load-again.ensures.goes c.load-again.ensures.fits
    c.if-again-word.true

pub returns-clause-lost : goal.returns-clause-lost
returns-clause-lost g c none =
    look_fails (g.S.Steps.now c.args.steps.now) c.args.desk.now c.requires.desk c.args.own.now.call c.args.turn
    c.args.own.now.bucket c.requires.bucket c.requires.phase (g.S.Steps.now c.load-word.new.self) c.load-word.result
    c.load-word.ensures.goes (g.S.Steps.now c.load_row.new.steps) c.load_row.new.hand c.load_row.ensures
    (g.S.Steps.now c.load-again.new.self) c.load-again.result c.load-again.ensures.goes c.load-again.ensures.fits
    c.if-again-word.false
