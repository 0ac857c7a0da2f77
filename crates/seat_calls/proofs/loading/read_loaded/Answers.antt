-- The words spell what was read.
use Rattle.std.proofs.Common.{◌≡◌, ◌∙◌, ap, sym}
use Rattle.std.proofs.lemmas.Bool.{OnTrue_at}
use Rattle.plain_map.specs.Rows.{bucket_content}
use Rattle.word_rows.specs.BucketWords.{bucket_of_words}
use Rattle.bucket_states.specs.States.{state_in_row}
use Rattle.seat_calls.specs.Desks.{settings_at}
use Rattle.seat_calls.proofs.loading.read_loaded.Goals as goal

pub returns-clause-is : goal.returns-clause-is
returns-clause-is c =
    let settings = settings_at c.args.desk.now in
    let row = bucket_content c.read_bucket.new.into in
    let spells = OnTrue_at (c.read_bucket.ensures.spelled.1 c.requires.spelled) c.read_bucket.ensures.read in
    let read : bucket_of_words settings c.args.words.now ≡ row =
    ap (bucket_of_words settings) spells.1 ∙ (c.row_laws.ensures.buckets settings row spells.0).1 in
    let made = c.from_row.ensures.state ∙ sym (ap state_in_row read) in
    λ i. record { bucket = c.args.bucket; row = c.args.row; state = made i }
