use Rattle.std.proofs.Common.{sym}
use Rattle.report_check.proofs.WholeLemmas.{all_well, none_counted, some_counted, stray_twice, stray_unknown, well_more}
use Rattle.report_check.proofs.whole.first_stray.Goals as goal

pub returns-then-is_repeated : goal.returns-then-is_repeated
returns-then-is_repeated c = λ are rises.
    stray_twice c.args.calls.now c.args.pending.now c.args.sorted.now c.loop-place.place rises c.loop-place-test.true
    (c.loop-place.invariant are rises) c.if-is_repeated.ensures

pub returns-then-not-is_known : goal.returns-then-not-is_known
returns-then-not-is_known c = λ are rises.
    stray_unknown c.args.calls.now c.args.pending.now c.args.sorted.now c.loop-place.place rises c.loop-place-test.true
    (c.loop-place.invariant are rises) (none_counted _ (sym (c.if-not-is_known.ensures are)))

pub loop-place-preserved : goal.loop-place-preserved
loop-place-preserved c = λ are rises.
    well_more c.args.calls.now c.args.pending.now c.args.sorted.now c.loop-place.place
    (c.loop-place.invariant are rises)
    c.if-is_repeated.ensures (some_counted _ (sym (c.if-not-is_known.ensures are)))

pub returns : goal.returns
returns c = λ are rises.
    all_well c.args.calls.now c.args.pending.now c.args.sorted.now c.loop-place.place rises c.loop-place-test.false
    (c.loop-place.invariant are rises)
