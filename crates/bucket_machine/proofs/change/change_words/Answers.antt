use Rattle.std.proofs.Common.{◌≡◌, ◌∙◌, drop, refl, sym, subst, Some}
use Rattle.bucket_states.specs.States.{BucketState, row_of_state, state_in_row}
use Rattle.bucket_states.specs.Change.{after_op, after_seats, change}
use Rattle.bucket_machine.specs.Rows.{Spell}
use Rattle.bucket_states.proofs.StepLemmas.{after_seats-Some, after_seats-None, after_seats-end}
use Rattle.bucket_states.proofs.WalkLemmas.{walk-frozen}
use Rattle.bucket_machine.proofs.WordLemmas.{few_in, depth_in, frozen_in}
use Rattle.bucket_machine.proofs.change.change_words.Goals as goal
use Rattle.bucket_machine.proofs.change.change_words.Goals.{in-Some, in_default, else-loop-seat-test, then-loop-seat-test+then-row-eq1}

pub loop-seat-init : goal.loop-seat-init
loop-seat-init c = record {
  long = refl;
  few = c.requires.few;
  depth = c.requires.depth;
  some = c.requires.spelled;
  rest = λ b spells. (state_in_row b, spells, refl);
}

pub loop-seat-preserved : goal.loop-seat-preserved
loop-seat-preserved c =
    let settings = c.args.settings.now in
    let rules = c.args.rules.now in
    let seat = c.loop-seat.seat in
    let were = c.loop-seat.invariant in
    elim c.match-op.branch [
      | in-Some w ↦ (
          let op = w.in-Some.op in
          let next = w.apply.ensures.spelled were.some.0 were.some.1 in
          rw w.row-is (record {
            long = w.apply.ensures.long ∙ were.long;
            few = few_in settings _ w.apply.new.row next;
            depth = depth_in settings _ w.apply.new.row next;
            some = (_, next);
            rest = λ b spells.
                let r = were.rest b spells in (
                  after_op rules seat op r.0,
                  w.apply.ensures.spelled (row_of_state b.base r.0) r.1,
                  after_seats-Some rules seat c.args.ops.now r.0
                      (after_op rules seat op r.0) c.loop-seat-test.true op w.in-Some.is refl ∙ r.2,
                );
          }))
      | in_default w ↦
          rw w.row-is (record {
            long = were.long;
            few = were.few;
            depth = were.depth;
            some = were.some;
            rest = λ b spells.
                let r = were.rest b spells in (
                  r.0,
                  r.1,
                  after_seats-None rules seat c.args.ops.now r.0 r.0 c.loop-seat-test.true w.in_default.is
                      refl ∙ r.2,
                );
          })
    ]

pub returns-clause-spelled : goal.returns-clause-spelled
unfolding change
returns-clause-spelled c b spells =
    let rules = c.args.rules.now in
    let ops = c.args.ops.now in
    let seat = c.loop-seat.seat in
    let r = c.loop-seat.invariant.rest b spells in
    let rest : after_seats rules seat (drop seat ops) r.0 ≡ r.0 =
    elim c.loop-seat-test.branch [
      | else-loop-seat-test w ↦ after_seats-end rules seat ops r.0 w.loop-seat-test.false
      | then-loop-seat-test+then-row-eq1 w ↦
          walk-frozen rules seat (drop seat ops) r.0
          (frozen_in c.args.settings.now _ c.loop-seat.row r.1.words w.if-row-eq1.true)
    ] in
    let made : r.0 ≡ change rules ops (state_in_row b) = sym rest ∙ r.2 in
    subst (λ (s : BucketState). Spell c.args.settings.now (row_of_state (Some c.args.base) s) c.set_base.new.row)
    made (record {
      places = record {
        depth = r.1.places.depth;
        items = r.1.places.items;
        applied = r.1.places.applied;
        replies = r.1.places.replies;
      };
      words = c.set_base.ensures.spelled (row_of_state b.base r.0) r.1;
    })
