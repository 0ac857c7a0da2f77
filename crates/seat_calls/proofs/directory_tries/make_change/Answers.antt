-- Leaves that can be spelled are fit.
use Rattle.std.proofs.Common.{ℕ, sym, subst, map}
use Rattle.table_model.specs.DirectoryChange.{change_leaves}
use Rattle.table_model.specs.Stores.{base_of_leaf}
use Rattle.dir_states.specs.Fit.{AreFit}
use Rattle.dir_states.specs.Views.{as_directory, as_loaded}
use Rattle.dir_states.proofs.FitLemmas.{AreFit-spelled}
use Rattle.seat_calls.specs.Desks.{settings_at}
use Rattle.seat_calls.proofs.directory_tries.make_change.Goals as goal

pub unreachable-requires : goal.unreachable-requires
unreachable-requires c =
    let desk = c.args.desk.now in
    let found = c.args.found.now in
    let settings = settings_at desk in
    let loaded = map as_loaded found.loaded.now in
    let leaves = change_leaves desk.rules (as_directory found.attempt.directory.now) loaded found.ops.now in
    let fit = AreFit-spelled settings (base_of_leaf loaded) leaves c.requires.spelled in
    c.if-not-change.ensures.not_fit
    (subst (λ (d : ℕ). AreFit d c.args.change.now.seats leaves) (sym desk.depth)
    (subst (λ (s : ℕ). AreFit settings.depth s leaves) (sym c.requires.room.for_seats) fit))
