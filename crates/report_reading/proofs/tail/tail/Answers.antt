use Rattle.std.proofs.Common.{arith, rules}
use Rattle.report_reading.proofs.TailLemmas.{at_counted, at_ended, at_left, bad_bound, bad_count, bad_end, bad_input, bad_leaves, bad_steps, empty_is, good_end, not_empty}
use Rattle.report_reading.proofs.tail.tail.Goals as goal

pub returns-in_default : goal.returns-in_default
returns-in_default c = λ text b in_range at no_session no_entry right small.
    bad_leaves text b c.args.bytes.now c.args.lines c.saturating_add.result at small no_session no_entry
    c.in_default.ensures (λ fits. omega arith)

pub returns-in_default-input_line : goal.returns-in_default-input_line
returns-in_default-input_line c = λ text b in_range at no_session no_entry right small.
    bad_input text b c.in-Some.field-0-0 c.in-Some.rest.now c.args.lines c.saturating_add-in_default-input_line.result
    (at_left text b c.args.bytes.now c.in-Some.rest.now c.args.lines c.in-Some.field-0-0 in_range at
    c.in-Some.ensures) small
    c.in_default-input_line.ensures (λ fits. omega arith)

pub returns-in_default-count_line : goal.returns-in_default-count_line
returns-in_default-count_line c = λ text b in_range at no_session no_entry right small.
    bad_count text b c.in-Some.field-0-0 c.in-Some-input_line.field-0-0 c.in-Some-input_line.rest.now c.args.lines
    c.saturating_add-in_default-count_line.result
    (at_ended text b c.in-Some.field-0-0 c.in-Some.rest.now c.in-Some-input_line.rest.now c.args.lines
    c.in-Some-input_line.field-0-0
    (at_left text b c.args.bytes.now c.in-Some.rest.now c.args.lines c.in-Some.field-0-0 in_range at
    c.in-Some.ensures) c.in-Some-input_line.ensures) small
    c.in_default-count_line.ensures (λ fits. omega arith)

pub returns-in_default-steps_line : goal.returns-in_default-steps_line
returns-in_default-steps_line c = λ text b in_range at no_session no_entry right small.
    bad_steps text b c.in-Some.field-0-0 c.in-Some-input_line.field-0-0 c.in-Some-count_line.field-0-0
    c.in-Some-count_line.rest.now c.args.lines
    c.saturating_add-in_default-steps_line.result
    (at_counted text b c.in-Some.field-0-0 c.in-Some-input_line.field-0-0 c.in-Some-input_line.rest.now
    c.in-Some-count_line.rest.now
    c.args.lines c.in-Some-count_line.field-0-0
    (at_ended text b c.in-Some.field-0-0 c.in-Some.rest.now c.in-Some-input_line.rest.now c.args.lines
    c.in-Some-input_line.field-0-0
    (at_left text b c.args.bytes.now c.in-Some.rest.now c.args.lines c.in-Some.field-0-0 in_range at
    c.in-Some.ensures) c.in-Some-input_line.ensures) c.in-Some-count_line.ensures) small
    c.in_default-steps_line.ensures (λ fits. omega arith)

pub returns-then-steps-bound : goal.returns-then-steps-bound
returns-then-steps-bound c = λ text b in_range at no_session no_entry right small.
    bad_bound text b c.in-Some.field-0-0 c.in-Some-input_line.field-0-0 c.in-Some-count_line.field-0-0
    c.in-Some-count_line.rest.now c.in-Some-steps_line.rest.now c.in-Some-steps_line.steps
    c.args.lines c.args.bound c.saturating_add-then-steps-bound.result in_range
    (at_counted text b c.in-Some.field-0-0 c.in-Some-input_line.field-0-0 c.in-Some-input_line.rest.now
    c.in-Some-count_line.rest.now
    c.args.lines c.in-Some-count_line.field-0-0
    (at_ended text b c.in-Some.field-0-0 c.in-Some.rest.now c.in-Some-input_line.rest.now c.args.lines
    c.in-Some-input_line.field-0-0
    (at_left text b c.args.bytes.now c.in-Some.rest.now c.args.lines c.in-Some.field-0-0 in_range at
    c.in-Some.ensures) c.in-Some-input_line.ensures) c.in-Some-count_line.ensures) small
    c.in-Some-steps_line.ensures right (λ same. omega (arith, same)) (λ fits. omega arith)

pub returns-then-not-is_empty : goal.returns-then-not-is_empty
returns-then-not-is_empty c = λ text b in_range at no_session no_entry right small.
    bad_end text b c.in-Some.field-0-0 c.in-Some-input_line.field-0-0 c.in-Some-count_line.field-0-0
    c.in-Some-count_line.rest.now c.in-Some-steps_line.rest.now c.in-Some-steps_line.steps
    c.args.lines c.args.bound c.saturating_add-then-not-is_empty.result
    (at_counted text b c.in-Some.field-0-0 c.in-Some-input_line.field-0-0 c.in-Some-input_line.rest.now
    c.in-Some-count_line.rest.now
    c.args.lines c.in-Some-count_line.field-0-0
    (at_ended text b c.in-Some.field-0-0 c.in-Some.rest.now c.in-Some-input_line.rest.now c.args.lines
    c.in-Some-input_line.field-0-0
    (at_left text b c.args.bytes.now c.in-Some.rest.now c.args.lines c.in-Some.field-0-0 in_range at
    c.in-Some.ensures) c.in-Some-input_line.ensures) c.in-Some-count_line.ensures) small
    c.in-Some-steps_line.ensures right (omega arith) (not_empty c.in-Some-steps_line.rest.now (search rules))
    (λ fits. omega arith)

pub returns : goal.returns
returns c = λ text b in_range at no_session no_entry right small.
    good_end text b c.in-Some.field-0-0 c.in-Some-input_line.field-0-0 c.in-Some-count_line.field-0-0
    c.in-Some-count_line.rest.now c.in-Some-steps_line.rest.now c.in-Some-steps_line.steps
    c.args.lines c.args.bound
    (at_counted text b c.in-Some.field-0-0 c.in-Some-input_line.field-0-0 c.in-Some-input_line.rest.now
    c.in-Some-count_line.rest.now
    c.args.lines c.in-Some-count_line.field-0-0
    (at_ended text b c.in-Some.field-0-0 c.in-Some.rest.now c.in-Some-input_line.rest.now c.args.lines
    c.in-Some-input_line.field-0-0
    (at_left text b c.args.bytes.now c.in-Some.rest.now c.args.lines c.in-Some.field-0-0 in_range at
    c.in-Some.ensures) c.in-Some-input_line.ensures) c.in-Some-count_line.ensures)
    c.in-Some-steps_line.ensures right (omega arith) (empty_is c.in-Some-steps_line.rest.now (search rules))
