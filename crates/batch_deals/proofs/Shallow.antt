-- A closed table's directory is no deeper than its greatest depth.
use Rattle.std.proofs.Common.{◌≡◌, ℕ, ◌≤◌, List, ap, ◌∙◌, arith}
use Rattle.table_model.specs.Setup.{Setup}
use Rattle.table_model.specs.Directories.{DirectoryState}
use Rattle.table_model.specs.Reading.{directory_at}
use Rattle.table_model.specs.Worlds.{World, IsRun, world_after}
use Rattle.table_model.specs.declared.events.Event.{Event}
use Rattle.table_model.specs.Closed.{closed_depth}
use Rattle.closed_laws.proofs.Read.{directory_is}
use Rattle.closed_laws.proofs.Covers.{book, written}
use Rattle.order_laws.proofs.AllRuns.{all_tell}

pub shallow : (setup : Setup) (events : List Event) → IsRun setup events →
    closed_depth setup.shape (world_after setup events).words ≤ setup.shape.settings.depth
shallow setup events run =
    let a = all_tell setup events run in
    let w : World = world_after setup events in
    let wr = written setup w a.common a.locals a.follows in
    let k = book setup w a.common a.locals a.follows in
    let depth : closed_depth setup.shape w.words ≡ (a.common.dir_at a.common.dir_top).depth =
    ap (λ (r : ℕ). (directory_at setup.shape w.words r).depth) wr.root_is
    ∙ ap (λ (x : DirectoryState). x.depth) (directory_is setup w.words k wr a.common.dir_top (omega arith)) in
    omega (arith, depth, a.follows.shared.directories.shallow a.common.dir_top (omega arith))
