-- A batch is opened: the seats go to the workers with their shares.
use Rattle.std.proofs.Common.{◌≡◌, ◌∙◌, Some, subst, sym, Vec, Global}
use Rattle.plain_map.specs.declared.calls.Call.{Call}
use Rattle.flows_runner.specs.Hands.{AreWorkersOf, IsAsFar}
use Rattle.flows_runner.proofs.OpenLemmas.{all_may_work, is_opened, is_under}
use Rattle.flows_runner.proofs.job.FlowingJobAsked.open.Goals as goal

-- the job is as far as it was
same : (c : goal.After-hand_out) → IsAsFar c.args.self.now c.hand_out.new.self
same c =
    let as_far = c.hand_out.ensures.away.as_far in
    record { asked = as_far.asked; replies = as_far.replies; packets = as_far.packets; calls = as_far.calls }

-- the lists are those of the pile
handed : (c : goal.After-hand_out) →
    AreWorkersOf c.args.self.now.seats.items c.args.pile.now.shares.items c.hand_out.result.items
handed c =
    subst (λ (lists : Vec (Vec Call Global) Global). AreWorkersOf c.args.self.now.seats.items lists.items
    c.hand_out.result.items) c.swap.ensures.x_after c.hand_out.ensures.workers

has : (c : goal.After-hand_out) → c.args.self.now.table ≡ Some c.in-Some.shared
has c = sym c.take.ensures.value ∙ c.in-Some.is

pub returns-clause-ready : goal.returns-clause-ready
returns-clause-ready c =
    let going = c.requires.going in
    all_may_work c.args.self.now c.hand_out.new.self c.args.pile.now c.in-Some.shared c.hand_out.result.items (has c)
    c.requires.way (handed c) going.0 going.1 going.3 going.2

pub returns-clause-under : goal.returns-clause-under
returns-clause-under c =
    is_under c.args.self.now c.hand_out.new.self c.args.pile.now c.in-Some.shared c.hand_out.result.items (has c)
    c.requires.way (handed c) (same c)

pub returns-clause-opened : goal.returns-clause-opened
returns-clause-opened c = λ before packets going holds.
    is_opened c.args.self.now c.hand_out.new.self c.args.pile.now c.in-Some.shared c.hand_out.result.items (has c)
    c.requires.way (handed c) before packets holds going (same c)
