-- Each turn is a try, and the last one leaves none.
use Rattle.std.proofs.Common.{◌≡◌, ◌∙◌, ℕ, ◌+◌, ◌-◌, refl, ap, arith}
use Rattle.exchange_model.specs.Steps.{Aim, OfKey}
use Rattle.exchange_model.specs.Goes.{Replied, glance_lost}
use Rattle.exchange_calls.specs.Going.{Going}
use Rattle.exchange_calls.specs.Items.{looking}
use Rattle.exchange_calls.proofs.EndLemmas.{begun_of, begun_tries, lost_again, next_try, peek_ends, reply_told, shown_later, shown_told, stands_at}
use Rattle.exchange_calls.proofs.FindLemmas.{still_of}
use Rattle.exchange_calls.proofs.lookups.peek.Goals as goal

pub loop-i-init : goal.loop-i-init
loop-i-init g c =
    let base : Going = g.S.Steps.now c.begin_look.new.self in
    let aim : Aim = OfKey c.args.key.now in
    let all : c.args.tries ≡ c.args.tries - 0 = omega arith in
    begun_tries (g.S.Steps.now c.args.steps.now) base aim c.args.tries c.begin_look.ensures c.requires.tries
    ∙ ap (λ (k : ℕ). looking base aim (glance_lost k)) all

pub try_find-requires-clause-phase : goal.try_find-requires-clause-phase
try_find-requires-clause-phase g c =
    let base : Going = g.S.Steps.now c.begin_look.new.self in
    let mid : Going = g.S.Steps.now c.loop-i.steps in
    let aim : Aim = OfKey c.args.key.now in
    let left : ℕ = c.args.tries - 1 - c.loop-i.i in
    stands_at base mid aim left
    (next_try base mid aim (c.args.tries - c.loop-i.i) left (omega (arith, c.loop-i-test.true)) c.loop-i.invariant)

pub try_find-requires-clause-desk : goal.try_find-requires-clause-desk
try_find-requires-clause-desk g c =
    let base : Going = g.S.Steps.now c.begin_look.new.self in
    let aim : Aim = OfKey c.args.key.now in
    still_of base (g.S.Steps.now c.loop-i.steps) aim (glance_lost (c.args.tries - c.loop-i.i)) c.args.desk.now
    c.loop-i.invariant
    (begun_of (g.S.Steps.now c.args.steps.now) base aim c.args.tries c.begin_look.ensures c.args.desk.now
    c.requires.desk)

pub loop-i-preserved : goal.loop-i-preserved
loop-i-preserved g c =
    let base : Going = g.S.Steps.now c.begin_look.new.self in
    let mid : Going = g.S.Steps.now c.loop-i.steps in
    let end : Going = g.S.Steps.now c.try_find.new.steps in
    let aim : Aim = OfKey c.args.key.now in
    let left : ℕ = c.args.tries - 1 - c.loop-i.i in
    let fewer : left ≡ c.args.tries - (c.loop-i.i + 1) = omega arith in
    lost_again base mid end aim left
    (next_try base mid aim (c.args.tries - c.loop-i.i) left (omega (arith, c.loop-i-test.true)) c.loop-i.invariant)
    c.in-Lost.ensures
    ∙ ap (λ (k : ℕ). looking base aim (glance_lost k)) fewer

pub returns-in-Shown : goal.returns-in-Shown
returns-in-Shown g c =
    let f : Going = g.S.Steps.now c.args.steps.now in
    let base : Going = g.S.Steps.now c.begin_look.new.self in
    let mid : Going = g.S.Steps.now c.loop-i.steps in
    let end : Going = g.S.Steps.now c.try_find.new.steps in
    let aim : Aim = OfKey c.args.key.now in
    let left : ℕ = c.args.tries - 1 - c.loop-i.i in
    let e = c.in-Shown.ensures in
    record {
      told = shown_told f base aim c.args.tries c.begin_look.ensures end e.kept f.now.time
          (Replied c.reply_of.result) refl
          (reply_told f c.args.key.now e.kept c.in-Shown.found c.reply_of.result e.value c.reply_of.ensures)
          (shown_later base mid end aim left e.kept
          (next_try base mid aim (c.args.tries - c.loop-i.i) left (omega (arith, c.loop-i-test.true))
          c.loop-i.invariant)
          e.goes);
    }

pub returns : goal.returns
returns g c =
    let f : Going = g.S.Steps.now c.args.steps.now in
    record {
      told = peek_ends f (g.S.Steps.now c.begin_look.new.self) (OfKey c.args.key.now) c.args.tries c.begin_look.ensures
          (g.S.Steps.now c.loop-i.steps) (c.args.tries - c.loop-i.i) c.requires.reader
          (omega (arith, c.loop-i-test.false))
          c.loop-i.invariant;
    }
