use Rattle.std.proofs.Common.{◌∙◌, refl, sym, ap}
use Rattle.word_rows.specs.Shape.{Shape}
use Rattle.word_rows.specs.Places.{place}
use Rattle.word_rows.specs.declared.addresses.Address.TheVariants.{BucketRowWord}
use Rattle.seat_calls.specs.Going.{Going}
use Rattle.seat_calls.proofs.RowLemmas.{loaded_of, reads_of}
use Rattle.seat_calls.proofs.rows.load_row.Goals as goal

pub load_run-requires-clause-reads : goal.load_run-requires-clause-reads
load_run-requires-clause-reads g c =
    let f : Going = g.S.Steps.now c.args.steps.now in
    let row = c.args.row in
    let at = c.bucket_row-start.ensures.value
    ∙ ap (λ (s : Shape). place s (BucketRowWord row 0)) (sym c.requires.desk.shape) in
    reads_of f row c.bucket_row-start.result at f.phase refl c.requires.reading _ c.requires.words

pub returns-clause-goes : goal.returns-clause-goes
returns-clause-goes g c =
    let f : Going = g.S.Steps.now c.args.steps.now in
    let row = c.args.row in
    let at = c.bucket_row-start.ensures.value
    ∙ ap (λ (s : Shape). place s (BucketRowWord row 0)) (sym c.requires.desk.shape) in
    c.load_run.ensures.goes ∙ (loaded_of f row c.bucket_row-start.result at f.phase refl c.requires.reading
    c.load_run.new.row (c.load_run.ensures.len ∙ c.requires.words) c.load_run.ensures.fits).goes

pub returns-clause-spelled : goal.returns-clause-spelled
returns-clause-spelled g c =
    let f : Going = g.S.Steps.now c.args.steps.now in
    let row = c.args.row in
    let at = c.bucket_row-start.ensures.value
    ∙ ap (λ (s : Shape). place s (BucketRowWord row 0)) (sym c.requires.desk.shape) in
    (loaded_of f row c.bucket_row-start.result at f.phase refl c.requires.reading c.load_run.new.row
    (c.load_run.ensures.len ∙ c.requires.words) c.load_run.ensures.fits).spelled

pub returns-clause-makes : goal.returns-clause-makes
returns-clause-makes g c =
    let f : Going = g.S.Steps.now c.args.steps.now in
    let row = c.args.row in
    let at = c.bucket_row-start.ensures.value
    ∙ ap (λ (s : Shape). place s (BucketRowWord row 0)) (sym c.requires.desk.shape) in
    (loaded_of f row c.bucket_row-start.result at f.phase refl c.requires.reading c.load_run.new.row
    (c.load_run.ensures.len ∙ c.requires.words) c.load_run.ensures.fits).makes
