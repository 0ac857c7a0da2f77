-- The program's own command: it is one of which `clap` is exact. All this computes.
use Rattle.std.proofs.Common.{◌≡◌, true, codes, refl}
use Rattle.clap.specs.Simple.{is_simple}
use Rattle.clap.specs.Faults.{is_simple_and_free}
use Rattle.clap.proofs.SimpleLemmas.{all_simple}
use Rattle.command_line.specs.Command.{app_with, flowdir_app, numbers, texts}
use Rattle.command_line.proofs.IdLemmas.{is_apart}

pub flowdir_made : app_with (codes "flowdir") numbers texts ≡ flowdir_app
unfolding flowdir_app
flowdir_made = refl

pub flowdir_is_simple : is_simple flowdir_app ≡ true
unfolding flowdir_app
flowdir_is_simple = refl

pub flowdir_is_free : is_simple_and_free flowdir_app ≡ true
unfolding flowdir_app
flowdir_is_free = refl

pub flowdir_rules_simple : all_simple (app_with (codes "flowdir") numbers texts).top.rules ≡ true
flowdir_rules_simple = refl

pub flowdir_is_apart : is_apart (app_with (codes "flowdir") numbers texts).top.rules ≡ true
flowdir_is_apart = refl
