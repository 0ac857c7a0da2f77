use Rattle.std.proofs.Common.{subst}
use Rattle.std.specs.Io.KnownBytes.{Appends}
use Rattle.edge_traits.specs.Edge.{AppendsFront}
use Rattle.serve_modes.proofs.trying.try_plan.Goals as goal

pub returns-in-Ok-write_all-clause-leaves : goal.returns-in-Ok-write_all-clause-leaves
returns-in-Ok-write_all-clause-leaves g c = λ none plain. (
  c.in-Ok.text.put,
  c.in-Ok.ensures none plain,
  subst (Appends (g.K.Sink.put c.args.sink.now) (g.K.Sink.put c.write_all.new.sink)) c.bytes.ensures
      c.in-Ok-write_all.ensures.ok,
)

pub returns-in-Ok-clause-leaves : goal.returns-in-Ok-clause-leaves
returns-in-Ok-clause-leaves g c = λ none plain. (
  c.in-Ok.text.put,
  c.in-Ok.ensures none plain,
  subst (AppendsFront (g.K.Sink.put c.args.sink.now) (g.K.Sink.put c.write_all.new.sink)) c.bytes.ensures
      c.in-Err-write_all.ensures.prefix,
)
