-- The step is that of the seat.
use Rattle.std.proofs.Common.{sym, ap}
use Rattle.word_rows.specs.LayoutView.{shape_of}
use Rattle.core_steps.proofs.Follows.{on, taken, followed, stepped_for}
use Rattle.core_steps.proofs.happening.advance.Goals as goal

pub perform-word-requires-clause-on : goal.perform-word-requires-clause-on
perform-word-requires-clause-on c =
    on (shape_of c.args.layout.now) c.args.words.now.items c.args.machine.now c.requires.stands c.next-ask.result
    c.next-ask.ensures c.program_laws.ensures.asks c.fits_laws.ensures.fits

pub take-requires : goal.take-requires
take-requires c = record {
  fits =
      taken (shape_of c.args.layout.now) c.args.words.now.items c.args.machine.now c.requires.stands c.next-ask.result
      c.next-ask.ensures c.program_laws.ensures.asks c.perform-word.result c.perform-word.ensures.word
      c.fits_laws.ensures.fits c.program_laws.ensures.can_take;
}

pub returns-in-Some : goal.returns-in-Some
returns-in-Some c = record {
  len = c.perform-word.ensures.len;
  advanced = λ s.
      followed (shape_of c.args.layout.now) c.args.words.now.items c.args.machine.now s c.next-ask.result
      c.next-ask.ensures
      c.program_laws.ensures.asks c.perform-word.result c.perform-word.ensures.word c.fits_laws.ensures.fits
      c.program_laws.ensures.follow c.program_laws.ensures.ends _ _ c.take.result _ c.perform-word.ensures.words
      c.take.ensures.value c.take.ensures.made (ap stepped_for (sym c.in-Some.is));
}

pub returns-in-None : goal.returns-in-None
returns-in-None c = record {
  len = c.perform-word.ensures.len;
  advanced = λ s.
      followed (shape_of c.args.layout.now) c.args.words.now.items c.args.machine.now s c.next-ask.result
      c.next-ask.ensures
      c.program_laws.ensures.asks c.perform-word.result c.perform-word.ensures.word c.fits_laws.ensures.fits
      c.program_laws.ensures.follow c.program_laws.ensures.ends _ _ c.take.result _ c.perform-word.ensures.words
      c.take.ensures.value c.take.ensures.made (ap stepped_for (sym c.in-None.is));
}
