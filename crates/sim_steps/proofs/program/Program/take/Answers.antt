use Rattle.std.proofs.Common.{◌+◌, subst, sym}
use Rattle.sim_steps.specs.Fields.{machine_of}
use Rattle.sim_steps.specs.Machine.{IsFit}
use Rattle.sim_steps.proofs.Fit.{fit_goes, no_answer}
use Rattle.sim_steps.proofs.program.Program.take.Goals as goal

pub returns-in_default : goal.returns-in_default
returns-in_default c = record {
  value = c.go_on.ensures.value;
  answer = (let p = c.args.self.now in let m = machine_of p in
      no_answer m.desk m.caller (m.steps + 1) p.stage p.row.items p.found.items p.words.items c.in_default.not-Idle
      c.in_default.not-StoreDone);
  kept = record {
    fit = subst IsFit (sym c.go_on.ensures.value)
        (fit_goes (machine_of c.args.self.now) c.args.word c.requires.busy c.requires.kept.fit);
    room =
        c.go_on.ensures.room;
  };
}
