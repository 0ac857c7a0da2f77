use Rattle.std.proofs.Common.{◌≡◌, ◌+◌, ◌≤◌, sym, ap, ◌∙◌, subst}
use Rattle.std.specs.Prelude.{All}
use Rattle.batch_history.specs.Batches.{with_counts}
use Rattle.batch_runner.proofs.Sums.{most_with}
use Rattle.batch_runner.proofs.counts.go_on.Goals as goal

pub returns : goal.returns
returns c =
    let is : c.put_counts.new.sums ≡ with_counts c.args.before.now c.args.batch.now.answered.items =
    c.put_counts.ensures ∙ ap (with_counts c.args.before.now) c.deref.ensures.value in
    record {
      counts = is;
      most = λ most more a b. subst (All (λ count. count ≤ most + more)) (sym is)
          (most_with c.args.before.now c.args.batch.now.answered.items most more a b);
    }
