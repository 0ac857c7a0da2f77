use Rattle.std.proofs.Common.{◌∙◌, refl, sym, subst}
use Rattle.std.proofs.Math.ListN.{length-set}
use Rattle.bucket_states.specs.States.{BucketState, row_of_state, state_in_row}
use Rattle.bucket_machine.specs.Rows.{Spell}
use Rattle.bucket_states.proofs.StepLemmas.{after_op-not_due, after_op-IsReply, after_op-IsOverflow}
use Rattle.bucket_machine.proofs.WordLemmas.{live_in}
use Rattle.bucket_machine.proofs.change.apply.Goals as goal

pub returns-then-not-is_due-clause-spelled : goal.returns-then-not-is_due-clause-spelled
returns-then-not-is_due-clause-spelled c b spells =
    subst (λ (s : BucketState). Spell c.args.settings.now (row_of_state b.base s) c.args.row.now)
    (sym (after_op-not_due c.args.rules.now c.args.seat c.args.op.now (state_in_row b)
    (sym (c.is_due.ensures.due b spells) ∙ c.if-not-is_due.true)))
    spells

pub returns-in-Some-clause-spelled : goal.returns-in-Some-clause-spelled
returns-in-Some-clause-spelled c b spells =
    let a = c.in-Some.ensures.answer b spells in
    let made = after_op-IsReply c.args.rules.now c.args.seat c.args.op.now (state_in_row b)
    (live_in c.args.settings.now b c.args.row.now spells.words c.requires.live)
    (sym (c.is_due.ensures.due b spells) ∙ c.if-not-is_due.false) a.left c.in-Some.reply a.answer _ refl in
    subst (λ (s : BucketState). Spell c.args.settings.now (row_of_state b.base s) c.set_seat.new.row) made (record {
      places = record {
        depth = spells.places.depth;
        items = a.spelled.places.items;
        applied = length-set b.applied c.args.seat _ ∙ spells.places.applied;
        replies = length-set b.replies c.args.seat _ ∙ spells.places.replies;
      };
      words = c.set_seat.ensures.spelled _ a.spelled;
    })

pub returns-in-None-clause-spelled : goal.returns-in-None-clause-spelled
returns-in-None-clause-spelled c b spells =
    let a = c.in-None.ensures.answer b spells in
    let made = after_op-IsOverflow c.args.rules.now c.args.seat c.args.op.now (state_in_row b)
    (live_in c.args.settings.now b c.args.row.now spells.words c.requires.live)
    (sym (c.is_due.ensures.due b spells) ∙ c.if-not-is_due.false) a.left a.answer _ refl in
    subst (λ (s : BucketState). Spell c.args.settings.now (row_of_state b.base s) c.freeze.new.row) made (record {
      places = record {
        depth = spells.places.depth;
        items = a.spelled.places.items;
        applied = spells.places.applied;
        replies = spells.places.replies;
      };
      words = c.freeze.ensures.spelled _ a.spelled;
    })
