-- In every run of a table that begins as deep as it may be no row in use is frozen.
use Rattle.std.proofs.Common.{ap, ◌∙◌}
use Rattle.bucket_states.specs.States.{BucketState}
use Rattle.table_model.specs.Worlds.{world_after}
use Rattle.helping_laws.proofs.ByPlace
use Rattle.order_laws.proofs.AllRuns.{all_tell}
use Rattle.lasting_laws.specs.Facts.{FixedDepthNeverFreezes}
use Rattle.lasting_laws.proofs.Ended.{in_use}
use Rattle.lasting_laws.proofs.FixedDepth.{never_frozen}

pub fixed_depth_never_freezes : FixedDepthNeverFreezes
fixed_depth_never_freezes setup events b run deepest among =
    let a = all_tell setup events run in
    let w = world_after setup events in
    let c = a.common in
    let f = a.follows in
    let n = ByPlace.named_is setup w.words c f.shows f.shared f.descent b among in
    ap (λ (s : BucketState). s.frozen) (in_use setup w c a.locals f b n)
    ∙ never_frozen setup c f.shared f.descent deepest b n
