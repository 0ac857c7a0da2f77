use Rattle.std.proofs.Common.{◌∙◌, sym, subst}
use Rattle.flow_meter.specs.Models.{flow_of, times_of}
use Rattle.flow_meter.specs.Parts.{IsSoonest}
use Rattle.flow_meter.proofs.SoonestLemmas.{more_later, more_none, more_sooner, none_found, not_sooner_ends, sooner_found}
use Rattle.flow_meter.proofs.meter.Meter.sooner.Goals as goal

pub returns-in_default : goal.returns-in_default
returns-in_default c places soon =
    more_none c.args.self.now places c.args.place c.args.found c.in_default.ensures.found soon

pub returns-in_default-found : goal.returns-in_default-found
returns-in_default-found c places soon =
    more_sooner c.args.self.now places c.args.place c.args.found c.in-Some.flow c.in-Some.ensures.within
    c.in-Some.ensures.found (none_found c.args.self.now c.in-Some.flow c.args.found c.in_default-found.is) soon

pub returns-then-is_sooner : goal.returns-then-is_sooner
returns-then-is_sooner c places soon =
    let was = c.in-Some-found in
    more_sooner c.args.self.now places c.args.place c.args.found c.in-Some.flow c.in-Some.ensures.within
    c.in-Some.ensures.found
    (sooner_found c.args.self.now c.in-Some.flow c.args.found was.other_place was.other was.is
    (sym c.is_sooner.ensures ∙ c.if-is_sooner.true)) soon

pub returns : goal.returns
returns c places soon =
    let was = c.in-Some-found in
    more_later c.args.self.now places c.args.place was.other_place c.in-Some.flow was.other
    c.in-Some.ensures.found
    (not_sooner_ends (times_of c.args.self.now.times) (flow_of c.in-Some.flow) (flow_of was.other)
    (sym c.is_sooner.ensures ∙ c.if-is_sooner.false))
    (subst (IsSoonest c.args.self.now places) was.is soon)
