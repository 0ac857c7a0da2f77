use Rattle.std.proofs.Common.{◌≡◌, ap, ◌∙◌, arith}
use Rattle.batch_rows.proofs.CountLemmas.{above_all, above_most}
use Rattle.batch_rows.proofs.crowds.halve.Goals as goal

pub returns-clause-above : goal.returns-clause-above
returns-clause-above c =
    let done : c.loop-place.place ≡ c.args.places =
    omega (arith, c.loop-place.auto.place-end, c.loop-place-test.false) in
    c.loop-place.invariant.above ∙ ap (above_most c.args.most c.args.counts.now) done
    ∙ above_all c.args.most c.args.counts.now c.args.places
