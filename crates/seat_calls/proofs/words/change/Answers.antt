-- The words are those of the table's settings and of its rules.
use Rattle.std.proofs.Common.{◌≡◌, ◌∙◌, Some, ap}
use Rattle.word_rows.specs.BucketWords.{bucket_of_words, words_of_bucket}
use Rattle.bucket_states.specs.States.{row_of_state, state_in_row}
use Rattle.bucket_states.specs.Change.{change}
use Rattle.seat_calls.specs.Desks.{rules_at, settings_at, state_at}
use Rattle.seat_calls.proofs.words.change.Goals as goal

pub returns-clause-words : goal.returns-clause-words
returns-clause-words c =
    let desk = c.args.desk.now in
    let rules : desk.rules ≡ rules_at desk =
    λ i. record { items = desk.items i; depth = desk.depth i; hashing = desk.rules.hashing } in
    c.change_row.ensures.words
    ∙ (λ i. words_of_bucket (c.settings.ensures i)
    (row_of_state (Some c.args.row) (change (rules i) c.args.ops.now
    (state_in_row (bucket_of_words (c.settings.ensures i) c.args.words.now)))))

pub returns-clause-state : goal.returns-clause-state
returns-clause-state c =
    let desk = c.args.desk.now in
    let made = change (rules_at desk) c.args.ops.now (state_at desk c.args.words.now) in
    ap (state_at desk) (returns-clause-words c)
    ∙ ap state_in_row (c.row_laws.ensures.buckets (settings_at desk)
    (row_of_state (Some c.args.row) made) c.requires.makes).1
