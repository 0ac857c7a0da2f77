-- The report was put whole, or in part, or nothing was put.
use Rattle.std.proofs.Common.{Ok, refl, subst, sym}
use Rattle.std.specs.Io.KnownBytes.{Appends}
use Rattle.edge_traits.specs.Edge.{AppendsFront}
use Rattle.packet_heads.specs.Links.{number_in}
use Rattle.capture_loop.specs.Endings.{OnLimit}
use Rattle.capture_loop.specs.Input.{StopsAt}
use Rattle.capture_loop.specs.Leaves.{EndsBy}
use Rattle.mode_parts.specs.declared.calling.Calling.{Calling}
use Rattle.mode_parts.specs.Reading.{EndsCalls}
use Rattle.mode_parts.specs.declared.status.Status.{Status}
use Rattle.mode_parts.specs.Statuses.{MarksFor}
use Rattle.play_mode.specs.Playing.{LeavesPlayed, play_limit}
use Rattle.capture_loop.proofs.LeavesLemmas.{Keeps-same}
use Rattle.capture_loop.proofs.LoopLemmas.{Marks-at}
use Rattle.mode_parts.proofs.ExactLemmas.{MarksFor-end}
use Rattle.play_mode.proofs.PlayLemmas.{LeavesPlayed-front, LeavesPlayed-nothing, LeavesPlayed-whole}
use Rattle.play_mode.proofs.playing.play_input.Goals as goal

pub returns-in_default-clause-leaves : goal.returns-in_default-clause-leaves
returns-in_default-clause-leaves g c =
    let first = g.S.Source.left c.args.source.now in
    let left = g.S.Source.left c.read_input.new.source in
    let before = g.K.Sink.put c.args.sink.now in
    let failed = EndsBy (g.S.Source.failed c.args.source.now) (g.S.Source.failed c.read_input.new.source) in
    LeavesPlayed-nothing c.args.plan.now failed first left before before (Keeps-same before)

pub returns-in-Ok-write_all-clause-leaves : goal.returns-in-Ok-write_all-clause-leaves
returns-in-Ok-write_all-clause-leaves g c =
    let first = g.S.Source.left c.args.source.now in
    let left = g.S.Source.left c.read_input.new.source in
    let before = g.K.Sink.put c.args.sink.now in
    let after = g.K.Sink.put c.write_all.new.sink in
    let failed = (EndsBy (g.S.Source.failed c.args.source.now) (g.S.Source.failed c.read_input.new.source)) in
    let ended = subst (λ (calling : Calling). EndsCalls calling play_limit first left c.in-Ok.input.packets
    c.in-Ok.input.calls.items c.in-Ok.input.ending) c.calling_of.ensures c.in-Ok.ensures.ended in
    subst (LeavesPlayed c.args.plan.now failed first left before after) (sym c.of_ending.ensures)
    (LeavesPlayed-whole c.args.plan.now failed first left before after c.in-Ok.input.packets c.in-Ok.input.calls.items
    c.in-Ok.input.ending ended c.in-Ok-report_of.text.items c.in-Ok-report_of.ensures
    c.promise_laws.ensures (subst (Appends before after) c.deref.ensures.value c.in-Ok-write_all.ensures.ok))

pub returns-in-Ok-report_of-clause-leaves : goal.returns-in-Ok-report_of-clause-leaves
returns-in-Ok-report_of-clause-leaves g c =
    let first = g.S.Source.left c.args.source.now in
    let left = g.S.Source.left c.read_input.new.source in
    let before = g.K.Sink.put c.args.sink.now in
    let after = g.K.Sink.put c.write_all.new.sink in
    let failed = (EndsBy (g.S.Source.failed c.args.source.now) (g.S.Source.failed c.read_input.new.source)) in
    let ended = subst (λ (calling : Calling). EndsCalls calling play_limit first left c.in-Ok.input.packets
    c.in-Ok.input.calls.items c.in-Ok.input.ending) c.calling_of.ensures c.in-Ok.ensures.ended in
    LeavesPlayed-front c.args.plan.now failed first left before after c.in-Ok.input.packets c.in-Ok.input.calls.items
    c.in-Ok.input.ending ended c.in-Ok-report_of.text.items c.in-Ok-report_of.ensures
    c.in-Ok.ensures.failed
    (subst (AppendsFront before after) c.deref.ensures.value c.in-Err-write_all.ensures.prefix)

pub returns-in-Ok-write_all-clause-beyond : goal.returns-in-Ok-write_all-clause-beyond
returns-in-Ok-write_all-clause-beyond g c =
    let ending = c.in-Ok.input.ending in
    let start = c.in-Ok.input.start in
    let old = c.args.beyond.now in
    let new = c.mark.new.beyond in
    let stops = StopsAt (number_in c.args.plan.now.framing.link) play_limit (g.S.Source.left c.args.source.now)
    (g.S.Source.left c.read_input.new.source) in
    let starts = subst (λ (calling : Calling). OnLimit ending (StopsAt (number_in calling.framing.link) play_limit
    (g.S.Source.left c.args.source.now) (g.S.Source.left c.read_input.new.source) start)) c.calling_of.ensures
    c.in-Ok.ensures.start in
    subst (λ (status : Status). MarksFor status old new stops) (sym c.of_ending.ensures)
    (MarksFor-end (Ok ending) old new stops
    (Marks-at (Ok ending) old old new start start stops refl refl c.mark.ensures starts))
