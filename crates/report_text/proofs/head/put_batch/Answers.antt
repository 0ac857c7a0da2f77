use Rattle.std.proofs.Common.{◌≡◌, ℕ, List, sym, subst, arith}
use Rattle.report_text.specs.Report.{batch_words}
use Rattle.report_text.specs.Lines.{Puts, text_in}
use Rattle.report_text.proofs.LineLemmas.{puts_none}
use Rattle.report_text.proofs.head.put_batch.Goals as goal

pub returns-else-batch-ne-BATCH-clause-puts : goal.returns-else-batch-ne-BATCH-clause-puts
returns-else-batch-ne-BATCH-clause-puts c =
    let common : c.args.batch ≡ 2048 = omega (arith, c.if-batch-ne-BATCH.false) in
    let text : List ℕ = text_in c.args.out.now in
    subst (λ (n : ℕ). Puts text (batch_words n) text) (sym common) (puts_none text)
