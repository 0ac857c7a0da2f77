use Rattle.std.proofs.Common.{[], refl}
use Rattle.serve_modes.proofs.ProgressLemmas.{CanOpen-none, HasServed-none}
use Rattle.serve_modes.proofs.progress.Progress.new.Goals as goal

pub returns-clause-served : goal.returns-clause-served
returns-clause-served c = λ service.
    HasServed-none service _ refl c.new.ensures.items c.new-2.ensures refl refl (CanOpen-none service)

pub returns-clause-going : goal.returns-clause-going
returns-clause-going c = λ service. (
  [],
  HasServed-none service _ refl c.new.ensures.items c.new-2.ensures refl refl (CanOpen-none service),
)
