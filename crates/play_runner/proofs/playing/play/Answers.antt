-- The segments, and then the rounds.
use Rattle.std.proofs.Common.{IfOk, map, subst}
use Rattle.table_model.specs.Setup.{Setup}
use Rattle.table_model.specs.Schedules.{Play, play_of}
use Rattle.play_runner.specs.Played.{IsPlayed, as_segment}
use Rattle.play_runner.specs.Hands.{as_hands}
use Rattle.play_runner.proofs.Coming.{segments_done, whole}
use Rattle.play_runner.proofs.playing.play.Goals as goal

pub returns : goal.returns
returns c =
    let w = whole c.in_ok-playing.playing c.loop-segment.playing c.run_rounds.new.self c.args.core.setup
    (map (λ own. own.items) c.args.calls.now) c.args.stops.now c.args.schedule.now
    c.in_ok-playing.ensures.setup c.in_ok-playing.ensures.play
    (segments_done c.in_ok-playing.playing c.loop-segment.playing c.args.schedule.now c.loop-segment.segment-index
    c.loop-segment-test.false c.loop-segment.invariant) c.in_ok-run_rounds.ensures in
    subst (λ (setup : Setup). IfOk c.ended.result (IsPlayed setup
    (play_of c.args.core.setup (map (λ own. own.items) c.args.calls.now) c.args.stops.now
    (map as_segment c.args.schedule.now)))) w.0
    (subst (λ (play : Play). IfOk c.ended.result (IsPlayed c.run_rounds.new.self.core.setup play)) w.1
    (c.ended.ensures (as_hands c.run_rounds.new.self.hands.items) c.unbegun-unbegun.ensures))
