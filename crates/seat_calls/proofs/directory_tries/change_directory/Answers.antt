-- The change is that of the call's table.
use Rattle.std.proofs.Common.{◌∙◌, take, map, sym, ap, subst}
use Rattle.std.specs.Prelude.{All}
use Rattle.plain_map.specs.declared.rules.Rules.{Rules}
use Rattle.plain_map.specs.declared.full.FullKind.TheVariants.{BucketWords}
use Rattle.word_rows.specs.Shape.{Shape}
use Rattle.table_model.specs.DirectoryChange.{change_leaves, with_leaves}
use Rattle.table_model.specs.Fits.{IsChange}
use Rattle.table_model.specs.Setup.{Setup, next_number, rules_of}
use Rattle.table_model.specs.Stores.{made_leaves}
use Rattle.dir_states.specs.Views.{as_loaded}
use Rattle.seat_calls.specs.Desks.{settings_at}
use Rattle.seat_calls.specs.Going.{Going}
use Rattle.seat_calls.specs.Puts.{CanBeSpelled}
use Rattle.seat_calls.specs.Tries.{directory_trying}
use Rattle.seat_calls.proofs.DeskLemmas.{rules_same}
use Rattle.seat_calls.proofs.LeafLemmas.{word_here}
use Rattle.seat_calls.proofs.directory_tries.change_directory.Goals as goal

pub make_change-requires-clause-spelled : goal.make_change-requires-clause-spelled
make_change-requires-clause-spelled g c =
    let f : Going = g.S.Steps.now c.args.steps.now in
    let desk = c.args.desk.now in
    let t = directory_trying c.args.attempt.now in
    let ops = c.find_ops-asked.new.ops in
    let loaded = map as_loaded (take c.load_buckets-count.result.0 c.load_buckets-count.new.loaded) in
    let setup = ap (λ (h : Going). h.setup) c.find_ops-asked.ensures.goes in
    let change = subst (λ (s : Setup). IsChange s t ops loaded) setup c.load_buckets-count.ensures.makes in
    let made = made_leaves f.setup t ops loaded in
    let spelled = subst (λ (s : Shape). All (CanBeSpelled s.settings loaded) made) c.requires.desk.shape
    change.leaves in
    subst (λ (r : Rules). All (CanBeSpelled (settings_at desk) loaded) (change_leaves r t.directory loaded ops))
    (sym (rules_same f desk c.requires.desk)) spelled

pub store_change-stored-requires-clause-directory : goal.store_change-stored-requires-clause-directory
store_change-stored-requires-clause-directory g c =
    let f : Going = g.S.Steps.now c.args.steps.now in
    let desk = c.args.desk.now in
    let t = directory_trying c.args.attempt.now in
    let ops = c.find_ops-asked.new.ops in
    let loaded = map as_loaded (take c.load_buckets-count.result.0 c.load_buckets-count.new.loaded) in
    let setup = sym (ap (λ (h : Going). h.setup) c.load_buckets-count.ensures.goes
    ∙ ap (λ (h : Going). h.setup) c.find_ops-asked.ensures.goes) in
    let seat = sym (ap (λ (h : Going). h.seat) c.load_buckets-count.ensures.goes
    ∙ ap (λ (h : Going). h.seat) c.find_ops-asked.ensures.goes) in
    let rules = rules_same f desk c.requires.desk in
    let number = word_here f desk c.args.used.now c.requires.desk in
    c.make_change.ensures.directory
    ∙ (λ i. with_leaves (number i) ((c.make_change.ensures.leaves
    ∙ (λ j. change_leaves (rules j) t.directory loaded ops)) i) t.directory)
    ∙ (λ i. with_leaves (next_number (setup i) (seat i) BucketWords c.args.used.now)
    (change_leaves (rules_of (setup i)) t.directory loaded ops) t.directory)
