use Rattle.std.proofs.Common.{◌∙◌, ap, sym, subst}
use Rattle.std.proofs.lemmas.Bool.{OnTrue_at}
use Rattle.plain_map.specs.Rows.{bucket_content}
use Rattle.word_rows.specs.BucketWords.{SpellSomeBucket}
use Rattle.table_model.specs.Setup.{settings_of}
use Rattle.table_model.specs.Goes.{bucket_in_words}
use Rattle.seat_machine.specs.View.{setup_of}
use Rattle.seat_machine.proofs.RowLemmas.{state_read}
use Rattle.seat_machine.proofs.machine.Machine.read_base.Goals as goal

pub returns-clause-base : goal.returns-clause-base
returns-clause-base c =
    let setup = setup_of c.args.self.now in
    let spelled = subst (SpellSomeBucket (settings_of setup)) (sym c.deref.ensures.value) c.requires.spelled in
    let spells = OnTrue_at (c.read_bucket.ensures.spelled.1 spelled) c.read_bucket.ensures.read in
    state_read c.row_laws.ensures.buckets setup c.deref.result.now (bucket_content c.read_bucket.new.into)
    c.from_row.new.self spells c.from_row.ensures.state
    ∙ ap (bucket_in_words setup) c.deref.ensures.value
