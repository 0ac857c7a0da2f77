-- The event is the call's first step, or its next one.
use Rattle.std.proofs.Common.{ℕ, Option, sym, ap, ◌∙◌, subst}
use Rattle.std.specs.Result.{result_err}
use Rattle.word_rows.specs.LayoutView.{shape_of}
use Rattle.plain_map.specs.declared.calls.Call.{Call}
use Rattle.table_model.specs.Program.{Program, blank}
use Rattle.table_model.specs.Worlds.{FitsStand, refusal_of, world_after}
use Rattle.core_steps.specs.Steps.{Happened}
use Rattle.core_steps.proofs.Begins.{begun_at, begun_happens, flown_at, flown_happens}
use Rattle.core_steps.proofs.happening.happen.Goals as goal

pub advance-requires-clause-stands : goal.advance-requires-clause-stands
advance-requires-clause-stands c =
    let s = c.requires.stands in
    begun_at (shape_of c.args.layout.now) c.args.words.now.items s.setup s.events s.seat s.account s.run s.inside
    s.words_are
    s.shape_is s.stand (c.in-Some.packet, c.in-Some.call) c.args.machine.now c.begin.new.self s.at s.program
    (subst (FitsStand s.setup s.account s.stand) c.in-Some.is s.given)
    (ap (λ (q : Program). refusal_of q.setup q.seat (blank q.used) c.in-Some.call) (sym s.program)
    ∙ sym c.begin.ensures.refused ∙ ap result_err c.in-Ok.is)
    c.in-Ok.ensures.begun

pub advance-requires-in-None-clause-stands : goal.advance-requires-in-None-clause-stands
advance-requires-in-None-clause-stands c =
    let s = c.requires.stands in
    flown_at (shape_of c.args.layout.now) c.args.words.now.items s.setup s.events s.seat s.account s.run s.inside
    s.words_are
    s.shape_is s.stand c.args.machine.now s.at s.program
    (subst (FitsStand s.setup s.account s.stand) c.in-None.is s.given)

pub returns-in-Ok : goal.returns-in-Ok
returns-in-Ok c = record {
  len = c.advance.ensures.len;
  happened = λ s.
      subst (λ (b : Option (ℕ × Call)). Happened s.setup (world_after s.setup s.events) s.seat s.account
      (record { seat = s.seat; begin = b }) c.advance.new.words.items c.advance.new.machine c.advance.result)
      (sym c.in-Some.is)
      (begun_happens (shape_of c.args.layout.now) c.args.words.now.items s.setup s.events s.seat s.account s.run
      s.inside
      s.words_are s.shape_is s.stand (c.in-Some.packet, c.in-Some.call) c.args.machine.now c.begin.new.self
      c.advance.new.words.items c.advance.new.machine c.advance.result s.at s.program
      (subst (FitsStand s.setup s.account s.stand) c.in-Some.is s.given)
      (ap (λ (q : Program). refusal_of q.setup q.seat (blank q.used) c.in-Some.call) (sym s.program)
      ∙ sym c.begin.ensures.refused ∙ ap result_err c.in-Ok.is)
      c.in-Ok.ensures.begun c.advance.ensures.advanced);
}

pub returns-in-None : goal.returns-in-None
returns-in-None c = record {
  len = c.advance-in-None.ensures.len;
  happened = λ s.
      subst (λ (b : Option (ℕ × Call)). Happened s.setup (world_after s.setup s.events) s.seat s.account
      (record { seat = s.seat; begin = b }) c.advance-in-None.new.words.items c.advance-in-None.new.machine
      c.advance-in-None.result)
      (sym c.in-None.is)
      (flown_happens (shape_of c.args.layout.now) c.args.words.now.items s.setup s.events s.seat s.account s.run
      s.inside
      s.words_are s.shape_is s.stand c.args.machine.now c.advance-in-None.new.words.items c.advance-in-None.new.machine
      c.advance-in-None.result s.at s.program
      (subst (FitsStand s.setup s.account s.stand) c.in-None.is s.given) c.advance-in-None.ensures.advanced);
}
