use Rattle.std.proofs.Common.{ℕ, refl, subst, arith}
use Rattle.capture_loop.specs.Input.{StopsAt}
use Rattle.capture_loop.proofs.ReadingLemmas.{HaveEnded-ended, HaveEnded-limit, OnLimit-none, Took-goes_on}
use Rattle.capture_loop.proofs.opening.read_past.Goals as goal

pub returns-in-Some-clause-ended : goal.returns-in-Some-clause-ended
returns-in-Some-clause-ended g c = λ link first packets come all.
    HaveEnded-ended c.args.limit link first (g.S.Source.left c.args.source.now) (g.S.Source.left c.read_on.new.source)
    c.args.reader.now c.read_on.new.reader packets c.in-Some.ending come (omega (arith, all)) c.in-Some.ensures.ended

pub returns-in-None-clause-ended : goal.returns-in-None-clause-ended
returns-in-None-clause-ended g c = λ link first packets come all.
    HaveEnded-limit c.args.limit link first (g.S.Source.left c.args.source.now) (g.S.Source.left c.read_on.new.source)
    c.args.reader.now c.read_on.new.reader packets c.args.limit (c.every_input.ensures link)
    (c.input_front.ensures link) come all
    c.in-None.ensures.packet refl

pub returns-in-Some-clause-beyond : goal.returns-in-Some-clause-beyond
returns-in-Some-clause-beyond g c = λ link first packets come all.
    OnLimit-none c.args.reader.now c.read_on.new.reader (g.S.Source.left c.args.source.now)
    (g.S.Source.left c.read_on.new.source) c.in-Some.ending
    (StopsAt link c.args.limit first (g.S.Source.left c.read_on.new.source) c.read_on.new.reader.start)
    c.in-Some.ensures.ended

pub returns-in-None-clause-beyond : goal.returns-in-None-clause-beyond
returns-in-None-clause-beyond g c = λ link first packets come all.
    subst (λ (n : ℕ). StopsAt link n first (g.S.Source.left c.read_on.new.source) c.read_on.new.reader.start)
    all
    (Took-goes_on link first (g.S.Source.left c.args.source.now) (g.S.Source.left c.read_on.new.source)
    c.args.reader.now c.read_on.new.reader packets come c.in-None.ensures.packet)
