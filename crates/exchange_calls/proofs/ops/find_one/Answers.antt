-- The own call is applied, or another seat is looked at.
use Rattle.std.proofs.Common.{arith}
use Rattle.exchange_calls.proofs.OwnLemmas.{other_found, own_found_here}
use Rattle.exchange_calls.proofs.ops.find_one.Goals as goal

pub apply_own-requires-clause-small : goal.apply_own-requires-clause-small
apply_own-requires-clause-small g c = c.requires.finding.finds.so_far.is_made.small

pub apply_own-requires-clause-few : goal.apply_own-requires-clause-few
apply_own-requires-clause-few g c =
    let h = c.requires.finding.finds.so_far in
    omega (arith, h.is_made.few, h.many, c.requires.seat, c.args.desk.now.sizes.few_seats)

pub find_op-requires-clause-finding : goal.find_op-requires-clause-finding
find_op-requires-clause-finding g c =
    let i = c.requires.finding in
    record { first = i.first; attempt = i.attempt; reply = c.args.reply; so_far = i.finds.so_far }

pub returns-then-seat-desk : goal.returns-then-seat-desk
returns-then-seat-desk g c i =
    own_found_here i.first (g.S.Steps.now c.args.steps.now) c.args.own.now.call i.attempt c.args.announced c.args.seat
    c.args.hand.now c.apply_own.new.hand c.args.reply i.finds c.args.desk.now c.requires.desk c.if-seat-desk.true
    c.args.own.now.number c.requires.number c.apply_own.result c.requires.update c.apply_own.ensures

pub returns : goal.returns
returns g c i =
    other_found i.first (g.S.Steps.now c.args.steps.now) c.args.own.now.call i.attempt c.args.announced c.args.seat
    c.args.hand.now c.find_op.new.hand c.args.reply i.finds c.args.desk.now c.requires.desk
    (g.S.Steps.now c.find_op.new.steps)
    (c.find_op.ensures (record {
      first = i.first;
      attempt = i.attempt;
      reply = c.args.reply;
      so_far = i.finds.so_far;
    }))
