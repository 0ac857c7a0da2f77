use Rattle.std.proofs.Common.{refl, arith, ◌≡◌}
use Rattle.flow_meter.specs.Held.{places_of}
use Rattle.flow_meter.proofs.PassLemmas.{passed_end, passed_so_far, passed_start, passed_step}
use Rattle.flow_meter.proofs.meter.Meter.take_out.Goals as goal

pub loop-place-init : goal.loop-place-init
loop-place-init c =
    passed_start c.args.now c.args.self.now c.args.self.now c.args.ended.now.items
    (record { times = refl; slots = refl })

pub loop-place-preserved : goal.loop-place-preserved
loop-place-preserved c =
    let new = c.take_out_at.new in
    let told = c.in_ok-take_out_at.ensures in
    passed_step c.args.now c.args.self.now c.loop-place.self new.self c.loop-place.place c.args.ended.now.items
    c.loop-place.ended.items new.ended.items c.loop-place.invariant told.stays told.ok

pub returns-in_err-take_out_at-clause-passing : goal.returns-in_err-take_out_at-clause-passing
returns-in_err-take_out_at-clause-passing c =
    let new = c.take_out_at.new in
    let told = c.in_err-take_out_at.ensures.err in
    passed_so_far c.args.now c.args.self.now c.loop-place.self new.self c.loop-place.place c.args.ended.now.items
    c.loop-place.ended.items new.ended.items c.loop-place.invariant told.0 told.1

pub returns-clause-passed : goal.returns-clause-passed
returns-clause-passed c =
    let all : c.loop-place.place ≡ places_of c.args.self.now = omega arith in
    passed_end c.args.now c.args.self.now c.loop-place.self c.loop-place.place c.args.ended.now.items
    c.loop-place.ended.items c.loop-place.invariant all
