use Rattle.std.proofs.Common.{ap, ◌∙◌}
use Rattle.flowdir_c.proofs.lasting_seat_exports.flowdir_lasting_drop.Goals as goal

-- the handle that was there is the one that is taken out
pub into_loose-requires : goal.into_loose-requires
into_loose-requires c = (c.requires.0, ap (λ h. h.holders) c.replace.ensures.value ∙ c.requires.1)
