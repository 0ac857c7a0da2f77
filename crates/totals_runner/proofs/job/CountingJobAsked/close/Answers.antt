-- A batch that is closed goes on with the job.
use Rattle.std.proofs.Common.{rules, ◌≡◌, ◌++◌, ◌∷◌, [], List, ℕ, sym, ap, subst, ◌∙◌}
use Rattle.totals_runner.specs.Told.{IsCountedSo}
use Rattle.totals_runner.proofs.JobLemmas.{closed_going, closed_served}
use Rattle.totals_runner.proofs.job.CountingJobAsked.close.Goals as goal

pub returns-clause-going : goal.returns-clause-going
returns-clause-going c =
    closed_going c.args.self.now c.close_batch.new.self c.args.made.shared c.args.made.workers.items c.args.made.kept
    c.new-lines.result.items c.close_batch.new.text.items c.in_ok-close_batch.ensures.counted

pub returns-clause-served : goal.returns-clause-served
returns-clause-served c =
    let none : c.new-lines.result.items ≡ [] = search rules in
    λ plan batches put started before packets so gone opened worked lines are.
    let made = closed_served c.args.self.now c.close_batch.new.self c.args.made.shared c.args.made.workers.items
    c.args.made.kept c.new-lines.result.items c.close_batch.new.text.items c.close_batch.ensures.seats
    c.close_batch.ensures.framing c.in_ok-close_batch.ensures.counted plan batches put started before packets so gone
    opened worked in
    subst (λ (ls : List ℕ). IsCountedSo c.close_batch.new.self plan (batches ++ packets ∷ []) (put ++ ls))
    (sym (are ∙ made.1 ∙ ap (λ (ls : List ℕ). ls ++ made.0) none)) made.2
