-- One row more, and the end.
use Rattle.std.proofs.Common.{◌≡◌, ℕ, ◌+◌, ◌-◌, ◌*◌, ◌≤◌, refl, subst, arith}
use Rattle.own_rows.specs.Opening.{AreOpened}
use Rattle.own_rows.proofs.OpenLemmas.{all_opened, more_free, more_named, next_unused}
use Rattle.own_rows.proofs.rows.OwnRows.new.Goals as goal

pub loop-i-preserved : goal.loop-i-preserved
loop-i-preserved c =
    let a = c.args in
    let i : ℕ = c.loop-i.i in
    let inside : a.first + i + 1 ≤ a.first + a.rows = omega (arith, c.loop-i-test.true, c.requires.named) in
    let unused = next_unused a.first a.rows i a.seats a.seat 0 c.loop-i.own c.loop-i.invariant (a.first + i)
    (omega arith) (omega (arith, inside)) in
    more_named a.first a.rows i a.seats a.seat c.loop-i.own c.name_new.new.self (a.first + i) (i * a.seats + a.seat)
    c.loop-i.invariant refl refl (omega (arith, inside)) c.name_new.ensures.sound
    (c.name_new.ensures.added _)
    (c.name_new.ensures.rows _ c.loop-i.invariant.has unused)

pub loop-i-2-init : goal.loop-i-2-init
loop-i-2-init c =
    let a = c.args in
    let done : c.loop-i.i ≡ a.named = omega (arith, c.loop-i-test.false, c.loop-i.auto.i-end) in
    let none : 0 ≡ a.named - a.named = omega arith in
    subst (λ (k : ℕ). AreOpened a.first a.rows a.named a.seats a.seat k c.loop-i.own) none
    (subst (λ (k : ℕ). AreOpened a.first a.rows k a.seats a.seat 0 c.loop-i.own) done c.loop-i.invariant)

pub loop-i-2-preserved : goal.loop-i-2-preserved
loop-i-2-preserved c =
    let a = c.args in
    let i : ℕ = c.loop-i-2.i in
    let row : a.first + i ≡ a.first + a.named + (i - a.named) = omega (arith, c.loop-i-2.auto.i) in
    let inside : a.first + i + 1 ≤ a.first + a.rows = omega (arith, c.loop-i-2-test.true) in
    let unused = next_unused a.first a.rows a.named a.seats a.seat (i - a.named) c.loop-i-2.own c.loop-i-2.invariant
    (a.first + i) row (omega (arith, inside)) in
    let next : i - a.named + 1 ≡ i + 1 - a.named = omega (arith, c.loop-i-2.auto.i) in
    subst (λ (k : ℕ). AreOpened a.first a.rows a.named a.seats a.seat k c.free_new.new.self) next
    (more_free a.first a.rows a.named a.seats a.seat (i - a.named) c.loop-i-2.own c.loop-i-2.invariant
    c.free_new.new.self (a.first + i) row (omega (arith, inside)) c.free_new.ensures.sound
    (c.free_new.ensures.added _)
    (c.free_new.ensures.rows _ c.loop-i-2.invariant.has unused))

pub returns : goal.returns
returns c =
    let a = c.args in
    all_opened a.first a.rows a.named a.seats a.seat (c.loop-i-2.i - a.named) c.loop-i-2.own
    (omega (arith, c.loop-i-2-test.false, c.loop-i-2.auto.i-end, c.loop-i-2.auto.i, c.requires.named))
    c.loop-i-2.invariant
