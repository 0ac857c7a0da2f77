use Rattle.std.proofs.Common.{ℕ, ◌*◌, ap, arith}
use Rattle.std.specs.Prelude.{Some}
use Rattle.flowdir_c.proofs.LastingLemmas.{few_rows, words_by, words_few}
use Rattle.flowdir_c.proofs.lasting_numbers.flowdir_lasting_memory.Goals as goal

pub words_for-requires : goal.words_for-requires
words_for-requires c = omega (arith, few_rows c.in-Some.settings, c.rows_for.ensures)

pub overflow_mul-result : goal.overflow_mul-result
overflow_mul-result c =
    let words = words_by c.in-Some.settings c.args.options.now.seed c.rows_for.result c.words_for.result
    c.rows_for.ensures c.words_for.ensures in
    omega (arith, words, words_few c.in-Some.settings c.args.options.now.seed)

pub returns : goal.returns
returns c = (
  Some c.in-Some.settings,
  c.in-Some.ensures,
  ap (λ (n : ℕ). 8 * n) (words_by c.in-Some.settings c.args.options.now.seed c.rows_for.result c.words_for.result
      c.rows_for.ensures c.words_for.ensures),
)
