-- All words were 0, and the buckets are named.
use Rattle.std.proofs.Common.{◌∙◌, ap, arith, replicate, ℕ}
use Rattle.std.proofs.lemmas.Grind.{common_steps}
use Rattle.exchange_opening.proofs.words.opening_words.Goals as goal

pub name_rows-requires : goal.name_rows-requires
name_rows-requires c = record {
  blank = λ h. c.deref_mut.ensures.value ∙ c.in_ok-words.ensures
      ∙ ap (λ n. replicate {A = ℕ} n 0) (c.words_for.ensures.value h);
}

pub returns : goal.returns
returns c h = grind (arith, common_steps, c.name_rows.ensures h)
