use Rattle.std.proofs.Common.{sym, ◌∙◌}
use Rattle.capture_loop.proofs.ReadingLemmas.{HaveCome-start, HaveEnded-stopped}
use Rattle.capture_loop.proofs.opening.open.Goals as goal

pub returns-in-Ok-clause-come : goal.returns-in-Ok-clause-come
returns-in-Ok-clause-come g c =
    HaveCome-start c.args.link (g.S.Source.left c.args.source.now) (g.S.Source.left c.open.new.source) c.in-Ok.reader
    c.in-Ok.ensures.start c.in-Ok.ensures.took

pub returns-in-Some-clause-ended : goal.returns-in-Some-clause-ended
returns-in-Some-clause-ended g c = λ limit.
    HaveEnded-stopped limit c.args.link (g.S.Source.left c.args.source.now) (g.S.Source.left c.open.new.source)
    c.in-Err.fault
    c.in-Some.ending (sym c.ending_at.ensures ∙ c.in-Some.is) c.in-Err.ensures.refused
