-- What is left decides what is done.
use Rattle.mode_parts.specs.Edges.{edges}
use Rattle.play_mode.proofs.DoesLemmas.{does_play}
use Rattle.play_mode.proofs.playing.play.Goals as goal

pub returns-clause-does : goal.returns-clause-does
returns-clause-does g c =
    let before = edges g.S.Source g.K.Sink c.args.source.now c.args.sink.now c.args.beyond.now in
    let after = edges g.S.Source g.K.Sink c.play_input.new.source c.play_input.new.sink c.play_input.new.beyond in
    does_play c.args.plan.now before after c.play_input.result c.one_input.ensures c.play_input.ensures.reads
    c.play_input.ensures.writes c.play_input.ensures.leaves c.play_input.ensures.beyond
