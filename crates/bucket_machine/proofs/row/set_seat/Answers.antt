use Rattle.std.proofs.Common.{◌∙◌, ap, refl, set, ◌+◌, ◌*◌, ℕ}
use Rattle.bucket_machine.proofs.WordLemmas.{answered_in}
use Rattle.bucket_machine.proofs.row.set_seat.Goals as goal
use Rattle.step_counts.specs.declared.TheConstants.{ITEM_WORDS}

pub returns-clause-spelled : goal.returns-clause-spelled
returns-clause-spelled c b spells =
    let at : ℕ = 5 + ITEM_WORDS * c.args.settings.now.items + 2 * c.args.seat in
    ap (λ (w : ℕ). set (set c.args.row.now at c.args.number) (at + 1) w) c.reply_word.ensures
    ∙ answered_in c.args.settings.now b c.args.seat at c.args.number c.args.reply c.args.row.now spells.words
    c.requires.seat spells.places.applied spells.places.replies refl
