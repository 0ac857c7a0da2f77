-- Each part is that of the plan.
use Rattle.std.proofs.Common.{◌+◌, ◌*◌}
use Rattle.exchange_opening.proofs.words.words_for.Goals as goal

pub returns-clause-value : goal.returns-clause-value
returns-clause-value c h = λ i.
    c.first_bucket.ensures.value h i + c.buckets_in-buckets.ensures.value i
    + (c.seat_rows.ensures.value i + c.buckets_in-buckets.ensures.value i) * c.row_words.ensures.value h i
