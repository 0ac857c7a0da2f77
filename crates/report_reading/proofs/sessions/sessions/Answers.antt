use Rattle.std.proofs.Common.{arith, rules}
use Rattle.report_reading.proofs.SessionLemmas.{sessions_bad, sessions_begin, sessions_more, sessions_never}
use Rattle.report_reading.proofs.sessions.sessions.Goals as goal

pub loop-init : goal.loop-init
loop-init c = λ text b in_range none at empty is small.
    sessions_begin text b c.args.pairs.now.items c.args.bytes.now c.args.before none at empty is

pub loop-preserved : goal.loop-preserved
loop-preserved c = λ text b in_range none at empty is small.
    (let has = c.loop.invariant text b in_range none at empty is small in
    sessions_more text b c.loop.pairs.items c.push.new.self.items c.loop.rest.now c.in-Some.behind.now c.args.before
    c.loop.lines c.saturating_add-lines.result c.loop.counter c.in-Some.pair in_range small has c.in-Some.ensures
    (search rules) c.in_ok-push.ensures.items (λ fits. omega arith))

pub returns-in_default : goal.returns-in_default
returns-in_default c = λ text b in_range none at empty is small.
    (let has = c.loop.invariant text b in_range none at empty is small in
    (has.at, c.in_default.ensures, has.empty))

pub returns-then-not-follows : goal.returns-then-not-follows
returns-then-not-follows c = λ text b in_range none at empty is small.
    (let has = c.loop.invariant text b in_range none at empty is small in
    sessions_bad text b c.loop.pairs.items c.loop.rest.now c.in-Some.behind.now c.args.before c.loop.lines
    c.saturating_add-line.result c.loop.counter c.in-Some.pair none small has c.in-Some.ensures (search rules)
    (λ fits. omega arith))

pub returns : goal.returns
returns c = λ text b in_range none at empty is small.
    (let has = c.loop.invariant text b in_range none at empty is small in
    absurd (sessions_never text b c.loop.pairs.items c.loop.rest.now c.args.before c.loop.lines c.loop.counter has small
    (omega arith)))
