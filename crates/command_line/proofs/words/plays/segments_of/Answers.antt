use Rattle.std.proofs.Common.{◌∙◌, Some, ap, sym}
use Rattle.std.proofs.lemmas.Simd.{map-map}
use Rattle.command_line.specs.Plays.{all_of, segment_of}
use Rattle.command_line.proofs.PlayLemmas.{all_end, all_none, all_step}
use Rattle.command_line.proofs.words.plays.segments_of.Goals as goal

pub returns-in-None : goal.returns-in-None
returns-in-None c =
    all_none (λ x. segment_of c.args.seats x.now) c.args.parts.now c.loop-part.part-index _ c.loop-part-test.true
    (sym c.segment_of.ensures ∙ c.in-None.is)
    ∙ ap all_of (sym (map-map (segment_of c.args.seats) (λ x. x.now) c.args.parts.now))

pub loop-part-preserved : goal.loop-part-preserved
loop-part-preserved c =
    all_step (λ x. segment_of c.args.seats x.now) c.args.parts.now c.loop-part.part-index _ c.loop-part.segments.items
    c.in-Some.segment c.loop-part-test.true c.loop-part.invariant (sym c.segment_of.ensures ∙ c.in-Some.is)
    ∙ ap (λ l. Some l) (sym c.in_ok-push-in-Some.ensures.items)

pub returns : goal.returns
returns c =
    all_end (λ x. segment_of c.args.seats x.now) c.args.parts.now c.loop-part.part-index _ c.loop-part-test.false
    c.loop-part.invariant ∙ ap all_of (sym (map-map (segment_of c.args.seats) (λ x. x.now) c.args.parts.now))
