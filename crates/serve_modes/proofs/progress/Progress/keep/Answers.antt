use Rattle.std.proofs.Common.{refl, length, map}
use Rattle.batch_runner.specs.Printed.{outcomes_in}
use Rattle.serve_modes.proofs.ProgressLemmas.{HasServed-more}
use Rattle.serve_modes.proofs.progress.Progress.keep.Goals as goal

pub returns-clause-served : goal.returns-clause-served
returns-clause-served c = λ batches served has first asked is told.
    HasServed-more c.args.service.now c.args.self.now _ batches served c.args.batch c.args.calls.now has first asked is
    told c.requires.texts c.go_on.ensures.counts
    (c.go_on.ensures.most c.args.self.now.totals.calls (length c.args.calls.now) has.few c.requires.goes_on.answered)
    refl
    c.requires.goes_on.reopens
    (c.add.ensures.totals (outcomes_in batches) (map (λ o. o.1) served.outcomes) has.totals told.totals)
    refl refl
