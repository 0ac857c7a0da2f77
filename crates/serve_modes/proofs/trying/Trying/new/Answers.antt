use Rattle.std.proofs.Common.{refl}
use Rattle.std.specs.Prelude.{false}
use Rattle.report_text.specs.Report.{head_line}
use Rattle.mode_parts.specs.Planned.{head_of}
use Rattle.serve_modes.proofs.trying.Trying.new.Goals as goal

pub returns-clause-none : goal.returns-clause-none
returns-clause-none c =
    let plan = c.args.plan.now in
    record {
      lines = head_line (head_of false plan);
      done = c.in_ok-serving.ensures.done plan (head_line (head_of false plan)) c.requires.asks c.calling_of.ensures
          refl;
      number = refl;
      packets = refl;
      batch = refl;
      none = refl;
    }
