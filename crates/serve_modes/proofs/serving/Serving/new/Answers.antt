use Rattle.std.proofs.Common.{refl}
use Rattle.serve_modes.proofs.JobLemmas.{done_none}
use Rattle.serve_modes.proofs.serving.Serving.new.Goals as goal

pub returns-clause-done : goal.returns-clause-done
returns-clause-done c = λ plan text asks framed is.
    done_none _ plan text refl asks framed (c.new-2.ensures.served c.args.service) is

pub returns-clause-served : goal.returns-clause-served
returns-clause-served c = c.new-2.ensures.served c.args.service
