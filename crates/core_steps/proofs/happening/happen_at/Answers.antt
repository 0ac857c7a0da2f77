-- The event is that of its seat.
use Rattle.word_rows.specs.LayoutView.{shape_of}
use Rattle.core_steps.proofs.Kept.{at_event, core_happened}
use Rattle.core_steps.proofs.happening.happen_at.Goals as goal

pub happen-requires-clause-stands : goal.happen-requires-clause-stands
happen-requires-clause-stands c =
    at_event (shape_of c.args.layout.now) c.args.words.now.items c.args.seats.now.items c.args.event.now
    c.requires.stands c.index_mut.result.now c.index_mut.ensures.value

pub returns : goal.returns
returns c = record {
  happened = λ s.
      core_happened (shape_of c.args.layout.now) c.args.words.now.items c.args.seats.now.items c.args.event.now s
      c.happen.new.words.items c.happen.new.machine c.happen.result c.happen.ensures.len
      (c.happen.ensures.happened
      (at_event (shape_of c.args.layout.now) c.args.words.now.items c.args.seats.now.items c.args.event.now s
      c.index_mut.result.now c.index_mut.ensures.value));
}
