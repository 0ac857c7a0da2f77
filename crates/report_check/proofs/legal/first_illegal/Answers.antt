use Rattle.std.proofs.Common.{arith}
use Rattle.report_check.proofs.LegalLemmas.{none_legal, illegal_here, left_at, legal_end, legal_more}
use Rattle.report_check.proofs.legal.first_illegal.Goals as goal

pub loop-packet-init : goal.loop-packet-init
loop-packet-init c = record {
  rows = c.requires.empty.many;
  legal = λ told facts whole. none_legal c.args.rules.now c.args.map.now c.requires.empty;
}

pub loop-packet-preserved : goal.loop-packet-preserved
loop-packet-preserved c = record {
  rows = c.has_reply.ensures.rows;
  legal = λ told facts whole.
      (let so = c.loop-packet.invariant.legal told facts whole in
      legal_more told c.args.rules.now c.args.calls.now c.args.pending.now c.args.order.now c.loop-packet.packet-index
      c.loop-packet.map c.has_reply.new.map c.order_laws.ensures.next facts whole
      (omega (arith, c.loop-packet-test.true, c.loop-packet.auto.packet-index-end)) so
      (rw c.if-not-branch.false at (c.in_ok-has_reply.ensures.good told c.args.order.now
      (left_at told c.args.rules.now c.args.order.now c.loop-packet.packet-index) facts so.holds)));
}

pub returns-then-not-branch-clause-found : goal.returns-then-not-branch-clause-found
returns-then-not-branch-clause-found c = λ told facts whole are.
    (let so = c.loop-packet.invariant.legal told facts whole in
    illegal_here told c.args.rules.now c.args.calls.now c.args.pending.now c.args.order.now c.loop-packet.packet-index
    c.loop-packet.map c.has_reply.new.map facts whole
    (omega (arith, c.loop-packet-test.true, c.loop-packet.auto.packet-index-end)) are so
    (rw c.if-not-branch.true at (c.in_ok-has_reply.ensures.good told c.args.order.now
    (left_at told c.args.rules.now c.args.order.now c.loop-packet.packet-index) facts so.holds)))

pub returns-clause-found : goal.returns-clause-found
returns-clause-found c = λ told facts whole are.
    legal_end told c.args.rules.now c.args.calls.now c.args.pending.now c.args.order.now c.loop-packet.packet-index
    c.loop-packet.map facts (omega (arith, c.loop-packet-test.false, c.loop-packet.auto.packet-index-end)) are
    (c.loop-packet.invariant.legal told facts whole)
