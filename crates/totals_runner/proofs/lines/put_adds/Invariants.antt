use Rattle.std.proofs.Common.{◌≡◌, List, length, map}
use Rattle.sim_steps.specs.declared.adds.Added.{Added}
use Rattle.totals_runner.specs.Batch.{AreInTurn}
use Rattle.totals_runner.proofs.LineLemmas.{AreTold}
use Rattle.totals_runner.proofs.lines.put_adds.Given as goal

abbrev pub invariant-loop-place : goal.invariant-loop-place
invariant-loop-place l =
    (answers : List Added) → length answers ≡ l.fn.count →
    AreInTurn (length l.fn.logs) l.fn.first (map (λ log. log.items) l.fn.logs) answers →
    AreTold (length l.fn.logs) l.fn.before l.fn.most l.fn.text.items l.text.items l.steps l.taken l.place answers
