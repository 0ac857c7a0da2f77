-- The calls under way are those of the programs.
use Rattle.std.proofs.Common.{ap, ◌∙◌}
use Rattle.table_model.specs.Closed.{begun_of}
use Rattle.core_steps.specs.Values.{CoreValue}
use Rattle.core_steps.specs.Insides.{setup_in}
use Rattle.core_steps.specs.Moments.{pending_of_all}
use Rattle.table_model.specs.Worlds.{world_after}
use Rattle.core_steps.proofs.Pendings.{begun_are}
use Rattle.core_steps.proofs.one_world.CoreWorld.read.Goals as goal

pub returns-clause-begun : goal.returns-clause-begun
returns-clause-begun c =
    c.in_ok-begun.ensures
    ∙ ap pending_of_all c.deref.ensures.value
    ∙ begun_are (setup_in c.self.inside) (world_after (setup_in c.self.inside) c.self.inside.events.items)
    c.self.inside.words.items c.self.inside.seats.items c.self.invariant.stands
    ∙ ap (λ (core : CoreValue). begun_of core.world) c.self.view_is
