-- Row by row, and then seat by seat.
use Rattle.std.proofs.Common.{◌≡◌, ℕ, ◌+◌, ◌-◌, ◌∙◌, subst, arith}
use Rattle.lasting_calls.specs.Sweeps.{AtHome}
use Rattle.lasting_calls.proofs.HomeLemmas.{home_desk, piece_over, seat_desk}
use Rattle.lasting_calls.proofs.sweeping.sweep.Goals as goal

pub look_home-requires-clause-at : goal.look_home-requires-clause-at
look_home-requires-clause-at g c =
    let s = c.requires.phase in
    record {
      first = g.S.Steps.now c.args.steps.now;
      update = s.update;
      left = 4 - c.loop-i.i;
      more = omega (arith, c.loop-i-test.true);
      at = c.loop-i.invariant.looked s;
    }

pub look_home-requires-clause-desk : goal.look_home-requires-clause-desk
look_home-requires-clause-desk g c =
    let s = c.requires.phase in
    home_desk (g.S.Steps.now c.args.steps.now) (g.S.Steps.now c.loop-i.steps) s.update (4 - c.loop-i.i) c.loop-i.rows
    c.args.desk.now c.requires.desk (c.loop-i.invariant.looked s)

pub look_seats-requires-clause-at : goal.look_seats-requires-clause-at
look_seats-requires-clause-at g c =
    let s = c.requires.phase in
    record {
      first = g.S.Steps.now c.args.steps.now;
      update = s.update;
      at = c.if-look_home.ensures.looked (record {
        first = g.S.Steps.now c.args.steps.now;
        update = s.update;
        left = 4 - c.loop-i.i;
        more = omega (arith, c.loop-i-test.true);
        at = c.loop-i.invariant.looked s;
      });
    }

pub look_seats-requires-clause-desk : goal.look_seats-requires-clause-desk
look_seats-requires-clause-desk g c =
    let s = c.requires.phase in
    seat_desk (g.S.Steps.now c.args.steps.now) (g.S.Steps.now c.look_home.new.steps) s.update 0 c.look_home.new.rows
    c.args.desk.now c.requires.desk
    (c.if-look_home.ensures.looked (record {
      first = g.S.Steps.now c.args.steps.now;
      update = s.update;
      left = 4 - c.loop-i.i;
      more = omega (arith, c.loop-i-test.true);
      at = c.loop-i.invariant.looked s;
    }))

pub returns-then-look_home : goal.returns-then-look_home
returns-then-look_home g c s =
    c.look_seats.ensures (record {
      first = g.S.Steps.now c.args.steps.now;
      update = s.update;
      at = c.if-look_home.ensures.looked (record {
        first = g.S.Steps.now c.args.steps.now;
        update = s.update;
        left = 4 - c.loop-i.i;
        more = omega (arith, c.loop-i-test.true);
        at = c.loop-i.invariant.looked s;
      });
    })

pub loop-i-preserved : goal.loop-i-preserved
loop-i-preserved g c = record {
  looked = λ s.
      let next : 4 - c.loop-i.i - 1 ≡ 4 - (c.loop-i.i + 1) = omega arith in
      subst
      (λ (k : ℕ). AtHome (g.S.Steps.now c.args.steps.now) (g.S.Steps.now c.look_home.new.steps) s.update k
      c.look_home.new.rows)
      next
      (c.if-look_home.ensures.looked (record {
        first = g.S.Steps.now c.args.steps.now;
        update = s.update;
        left = 4 - c.loop-i.i;
        more = omega (arith, c.loop-i-test.true);
        at = c.loop-i.invariant.looked s;
      }));
  sweeps = c.look_home.ensures.same.sweeps ∙ c.loop-i.invariant.sweeps;
}

pub returns : goal.returns
returns g c s =
    piece_over (g.S.Steps.now c.loop-i.steps) (g.S.Steps.now c.args.steps.now) s.update c.loop-i.rows (4 - c.loop-i.i)
    (omega (arith, c.loop-i-test.false, c.loop-i.auto.i-end)) (c.loop-i.invariant.looked s)
