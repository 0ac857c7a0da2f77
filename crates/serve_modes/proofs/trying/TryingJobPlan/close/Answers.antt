-- One batch more is served, and no line of it is told.
use Rattle.std.proofs.Common.{◌+◌, ◌++◌, ◌∷◌, [], List, ℕ, length, ap, refl, sym, ◌∙◌, append-nil, arith}
use Rattle.report_text.specs.Report.{batch_lines}
use Rattle.batch_runner.specs.Printed.{lines_of}
use Rattle.serve_modes.specs.declared.serving.Serving.{Serving}
use Rattle.serve_modes.specs.Progress.{IsGoing}
use Rattle.serve_modes.proofs.JobLemmas.{done_more}
use Rattle.serve_modes.proofs.trying.TryingJobPlan.close.Goals as goal

pub returns-clause-going : goal.returns-clause-going
returns-clause-going c = λ started before packets old opened worked.
    let job : Serving = c.args.self.now.serving in
    let served = c.in_ok-batch.ensures.served in
    let batches = old.going.0 in
    let going : IsGoing job.service c.keep.new.self = (
      batches ++ served.0 ∷ [],
      c.keep.ensures.served batches served.0 old.going.1 (served.1 ∙ c.deref.ensures.value)
          (served.2 ∙ c.deref-2.ensures.value ∙ sym c.deref-3.ensures.value) served.3 served.4,
    ) in
    record {
      given = old.given;
      going = going;
      count = omega (arith, old.count, opened.count);
      few = omega (
        arith,
        c.keep.ensures.counted,
        old.few,
        opened.between.few,
        ap length c.deref-3.ensures.value,
      );
    }

pub returns-clause-served : goal.returns-clause-served
returns-clause-served c = λ plan batches put started before packets tried going opened worked told none.
    let job : Serving = c.args.self.now.serving in
    let after : Serving = record {
      service = job.service;
      calling = job.calling;
      workspace = c.close_counted.new.workspace;
      progress = c.keep.new.self;
      packets = job.packets + c.args.made.kept;
      calls = job.calls;
      spare = job.spare;
    } in
    let served = c.in_ok-batch.ensures.served in
    let done = tried.done in
    let lines : List ℕ = batch_lines job.service.settings.seats (lines_of job.service job.progress.before served.0) in
    record {
      lines = tried.lines ++ lines;
      done = done_more plan job after batches tried.lines before packets c.args.made.shared started c.args.made.kept
          served.0 lines done going.count opened (served.2 ∙ c.deref-2.ensures.value) refl refl refl
          (c.keep.ensures.served done.served served.0 done.has (served.1 ∙ c.deref.ensures.value)
          (served.2 ∙ c.deref-2.ensures.value ∙ sym c.deref-3.ensures.value) served.3 served.4)
          refl;
      number = tried.number;
      packets = tried.packets;
      batch = tried.batch;
      none = ap (λ (ls : List ℕ). put ++ ls) none ∙ append-nil put ∙ tried.none;
    }
