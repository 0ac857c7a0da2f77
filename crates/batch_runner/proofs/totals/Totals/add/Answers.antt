use Rattle.std.proofs.Common.{◌≡◌, ◌+◌, max, sym, ◌∙◌, arith}
use Rattle.std.proofs.lemmas.Int.{clamps}
use Rattle.batch_runner.specs.declared.totals.Totals.{Totals}
use Rattle.batch_runner.proofs.TotalLemmas.{totals_fit, totals_sum, with_totals}
use Rattle.batch_runner.proofs.totals.Totals.add.Goals as goal

pub add-requires : goal.add-requires
add-requires c =
    let own = totals_fit c.requires.all.0 _ c.requires.all.1 c.requires.all.2 in
    let more = totals_fit c.requires.more.0 _ c.requires.more.1 c.requires.more.2 in
    (own.2, more.2)

pub returns-clause-totals : goal.returns-clause-totals
returns-clause-totals c = λ all more is adds.
    let self : Totals = c.args.self.now in
    let batch : Totals = c.args.batch.now in
    let update : c.max-self.result ≡ max self.update batch.update = omega (arith, clamps, c.max-self.ensures) in
    let lookup : c.max-self-2.result ≡ max self.lookup batch.lookup = omega (arith, clamps, c.max-self-2.ensures) in
    (λ i. record {
      calls = self.calls + batch.calls;
      refused = self.refused + batch.refused;
      update = update i;
      lookup = lookup i;
      replies = c.add.ensures i;
    })
    ∙ (λ i. with_totals (adds i) (is i)) ∙ sym (totals_sum all more)
