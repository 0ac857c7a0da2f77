use Rattle.std.proofs.Common.{arith}
use Rattle.report_reading.specs.Steps.{with_entries}
use Rattle.report_reading.proofs.PlaceLemmas.{entries_begin, entries_few, entries_more, entries_never, line_bad}
use Rattle.report_reading.proofs.entries.Entries.read.Goals as goal

pub loop-init : goal.loop-init
loop-init c = λ text head at holds same small. entries_begin text c.args.self.now head c.args.bytes.now at holds

pub loop-preserved : goal.loop-preserved
loop-preserved c = λ text head at holds same small.
    (let has = c.loop.invariant text head at holds same small in
    let few = entries_few text c.loop.self head c.loop.rest.now c.loop.lines c.loop.counter has small in
    entries_more text c.loop.self c.step.new.self head c.loop.rest.now c.in-Good.behind.now c.loop.lines
    c.saturating_add-lines.result c.loop.counter has small
    (rw c.in-Good.is at (c.in_ok-behind.ensures head has.entries has.holds same few)) (λ fits. omega arith))

pub returns-in-Other : goal.returns-in-Other
returns-in-Other c = λ text head at holds same small.
    (let has = c.loop.invariant text head at holds same small in
    let few = entries_few text c.loop.self head c.loop.rest.now c.loop.lines c.loop.counter has small in
    let stepped = rw c.in-Other.is at (c.in_ok-behind.ensures head has.entries has.holds same few) in
    (has.entries, has.at, stepped.0, stepped.1, few))

pub returns-in-Bad : goal.returns-in-Bad
returns-in-Bad c = λ text head at holds same small.
    (let has = c.loop.invariant text head at holds same small in
    let few = entries_few text c.loop.self head c.loop.rest.now c.loop.lines c.loop.counter has small in
    line_bad text (with_entries head has.entries) c.loop.rest.now c.loop.lines c.saturating_add-line.result has.at small
    (rw c.in-Bad.is at (c.in_ok-behind.ensures head has.entries has.holds same few)) (λ fits. omega arith))

pub returns : goal.returns
returns c = λ text head at holds same small.
    (let has = c.loop.invariant text head at holds same small in
    absurd (entries_never text c.loop.self head c.loop.rest.now c.loop.lines c.loop.counter has small (omega arith)))
