use Rattle.std.proofs.Common.{◌∙◌, ◌*◌, ap, arith}
use Rattle.lasting_table.specs.Rule.{plain}
use Rattle.lasting_table.proofs.Seated.{most_is}
use Rattle.lasting_table.proofs.table.words_for.Goals as goal

pub returns : goal.returns
returns c =
    let o = c.args.opening.now in
    let row = ap (λ r. o.settings.seats * o.rows * r) (c.row_words.ensures.value ∙ most_is (plain o)) in
    omega (arith, c.buckets_in.ensures.value, row)
