use Rattle.std.proofs.Common.{◌≡◌, ◌∙◌, arith, refl, sym}
use Rattle.flow_meter.proofs.OpenLemmas.{opened, opening_none, opening_pushed}
use Rattle.flow_meter.proofs.meter.Meter.open.Goals as goal

pub loop-place-init : goal.loop-place-init
loop-place-init c =
    opening_none c.in_ok-flows.flows.items c.in_ok-free.free.items c.in_ok-flows.ensures.items
    c.in_ok-free.ensures.items

pub loop-place-preserved : goal.loop-place-preserved
loop-place-preserved c =
    opening_pushed c.loop-place.flows.items c.push.new.self.items c.loop-place.free.items
    c.push-in-loop-place.new.self.items c.loop-place.place c.loop-place.invariant c.in_ok-push.ensures.items
    c.in_ok-push-2.ensures.items

pub returns : goal.returns
returns c =
    let all : c.loop-place.place ≡ c.args.places = omega arith in
    let is = c.loop-place.invariant in (
      refl,
      is.flows_many ∙ all,
      opened (record {
        flows = c.loop-place.flows.items;
        free = c.loop-place.free.items;
        left = c.args.places;
      }) c.loop-place.place is (sym all),
    )
