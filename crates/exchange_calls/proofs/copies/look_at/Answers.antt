-- Each turn is a try, and the last one leaves none.
use Rattle.std.proofs.Common.{◌≡◌, ◌∙◌, ℕ, ◌+◌, ◌-◌, List, take, refl, ap, arith}
use Rattle.plain_map.specs.declared.keys.Pair.{Pair}
use Rattle.exchange_model.specs.Steps.{Aim, OfBucket}
use Rattle.exchange_model.specs.Goes.{Pairs, glance_lost}
use Rattle.exchange_calls.specs.Going.{Going}
use Rattle.exchange_calls.specs.Items.{looking}
use Rattle.exchange_calls.proofs.EndLemmas.{begun_of, begun_tries, lost_again, next_try, peek_ends, shown_later, shown_told, stands_at}
use Rattle.exchange_calls.proofs.FindLemmas.{still_of}
use Rattle.exchange_calls.proofs.copies.look_at.Goals as goal

pub loop-i-init : goal.loop-i-init
loop-i-init g c =
    let base : Going = g.S.Steps.now c.begin_copy.new.self in
    let aim : Aim = OfBucket c.args.bucket in
    let all : c.args.tries ≡ c.args.tries - 0 = omega arith in
    record {
      len = refl;
      goes = begun_tries (g.S.Steps.now c.args.steps.now) base aim c.args.tries c.begin_copy.ensures c.requires.tries
          ∙ ap (λ (k : ℕ). looking base aim (glance_lost k)) all;
    }

pub try_copy-requires-clause-phase : goal.try_copy-requires-clause-phase
try_copy-requires-clause-phase g c =
    let base : Going = g.S.Steps.now c.begin_copy.new.self in
    let mid : Going = g.S.Steps.now c.loop-i.steps in
    let aim : Aim = OfBucket c.args.bucket in
    let left : ℕ = c.args.tries - 1 - c.loop-i.i in
    stands_at base mid aim left
    (next_try base mid aim (c.args.tries - c.loop-i.i) left (omega (arith, c.loop-i-test.true)) c.loop-i.invariant.goes)

pub try_copy-requires-clause-desk : goal.try_copy-requires-clause-desk
try_copy-requires-clause-desk g c =
    let base : Going = g.S.Steps.now c.begin_copy.new.self in
    let aim : Aim = OfBucket c.args.bucket in
    still_of base (g.S.Steps.now c.loop-i.steps) aim (glance_lost (c.args.tries - c.loop-i.i)) c.args.desk.now
    c.loop-i.invariant.goes
    (begun_of (g.S.Steps.now c.args.steps.now) base aim c.args.tries c.begin_copy.ensures c.args.desk.now
    c.requires.desk)

pub loop-i-preserved : goal.loop-i-preserved
loop-i-preserved g c =
    let base : Going = g.S.Steps.now c.begin_copy.new.self in
    let mid : Going = g.S.Steps.now c.loop-i.steps in
    let end : Going = g.S.Steps.now c.try_copy.new.steps in
    let aim : Aim = OfBucket c.args.bucket in
    let left : ℕ = c.args.tries - 1 - c.loop-i.i in
    let fewer : left ≡ c.args.tries - (c.loop-i.i + 1) = omega arith in
    record {
      len = c.try_copy.ensures.len ∙ c.loop-i.invariant.len;
      goes = lost_again base mid end aim left
          (next_try base mid aim (c.args.tries - c.loop-i.i) left (omega (arith, c.loop-i-test.true))
          c.loop-i.invariant.goes)
          (c.in-None.ensures.lost refl)
          ∙ ap (λ (k : ℕ). looking base aim (glance_lost k)) fewer;
    }

pub returns-in-Some : goal.returns-in-Some
returns-in-Some g c =
    let f : Going = g.S.Steps.now c.args.steps.now in
    let base : Going = g.S.Steps.now c.begin_copy.new.self in
    let mid : Going = g.S.Steps.now c.loop-i.steps in
    let end : Going = g.S.Steps.now c.try_copy.new.steps in
    let aim : Aim = OfBucket c.args.bucket in
    let left : ℕ = c.args.tries - 1 - c.loop-i.i in
    let kept : List Pair = take c.in-Some.count c.try_copy.new.out in
    record {
      told = (
        c.in-Some.ensures.few,
        shown_told f base aim c.args.tries c.begin_copy.ensures end kept f.now.time (Pairs kept) refl refl
            (shown_later base mid end aim left kept (next_try base mid aim (c.args.tries - c.loop-i.i) left
            (omega (arith, c.loop-i-test.true)) c.loop-i.invariant.goes) c.in-Some.ensures.shown),
      );
    }

pub returns : goal.returns
returns g c =
    let f : Going = g.S.Steps.now c.args.steps.now in
    record {
      told = peek_ends f (g.S.Steps.now c.begin_copy.new.self) (OfBucket c.args.bucket) c.args.tries
          c.begin_copy.ensures
          (g.S.Steps.now c.loop-i.steps) (c.args.tries - c.loop-i.i) c.requires.reader
          (omega (arith, c.loop-i-test.false))
          c.loop-i.invariant.goes;
    }
