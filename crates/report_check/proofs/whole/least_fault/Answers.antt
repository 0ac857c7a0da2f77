use Rattle.std.proofs.Common.{ℕ, List}
use Rattle.report_check.proofs.FaultLemmas.{are_in_order, fault_is}
use Rattle.report_check.proofs.whole.least_fault.Goals as goal

pub returns : goal.returns
returns c = λ told facts.
    (let sorted : List ℕ = c.in_ok-sorted.sorted.items in
    fault_is told c.args.calls.now c.args.pending.now c.args.order.now sorted facts c.in_ok-sorted.ensures.same
    c.least.result
    (c.least.ensures c.args.calls.now c.args.pending.now sorted
    ((rw c.deref.ensures.value at c.first_missing-missing.ensures) facts.calls_sorted c.in_ok-sorted.ensures.rises)
    ((rw c.deref-2.ensures.value at c.first_stray-stray.ensures)
    (are_in_order told c.args.calls.now c.args.pending.now c.args.order.now facts) c.in_ok-sorted.ensures.rises)))
