use Rattle.std.proofs.Common.{◌≤◌, List, [], ◌∷◌, Err, map, ap, ◌∙◌, subst}
use Rattle.std.specs.Prelude.{IsSomeAnd}
use Rattle.step_counts.specs.declared.rows.SeatRows.{SeatRows}
use Rattle.plain_map.specs.declared.keys.Pair.{Pair}
use Rattle.shared_table.specs.Values.{TableValue}
use Rattle.flowdir_c.specs.Opened.{IsOpened}
use Rattle.hash_bits.specs.declared.hashing.Hashing.TheVariants.{Mix}
use Rattle.plain_map.specs.declared.rules.Rules.{Rules}
use Rattle.flowdir_c.specs.declared.opening.NotOpened.{NotOpened}
use Rattle.flowdir_c.specs.Told.{pair_of}
use Rattle.flowdir_c.specs.Fit.{LackRoom, rules_in}
use Rattle.flowdir_c.proofs.FitLemmas.{fit_back, lack_moved}
use Rattle.flowdir_c.proofs.table_exports.flowdir_open.Goals as goal

-- the table is what was asked for
pub returns-in-Ok-shelf_of-clause-opened : goal.returns-in-Ok-shelf_of-clause-opened
returns-in-Ok-shelf_of-clause-opened c = λ done. record {
  shelf = c.in-Ok-shelf_of.shelf;
  is = c.of_loose.ensures ∙ ap (λ v. v ∷ []) (c.of.ensures ∙ c.in-Ok-new.ensures.ok);
  free = c.in-Ok-shelf_of.ensures.seats ∙ c.in-Some.ensures.settings.seats_are;
  none_back = c.in-Ok-shelf_of.ensures.none_back;
  none_left = c.in-Ok-shelf_of.ensures.none_left;
  unlisted = c.in-Ok-shelf_of.ensures.unlisted;
  none_listed = c.in-Ok-shelf_of.ensures.none_listed;
  a_place_each = subst (λ n. n ≤ c.in-Ok-shelf_of.shelf.places) c.in-Some.ensures.settings.seats_are
      c.in-Ok-shelf_of.ensures.a_place_each;
  fit = c.in-Some.ensures.fit;
  fit_pairs = fit_back (map pair_of c.args.first.now) c.in-Ok.pairs.items c.in-Ok.ensures.all c.in-Ok.ensures.pairs
      c.in-Ok.ensures.distinct;
  settings = c.in-Some.settings;
  asked = c.in-Some.ensures.settings;
  pairs = c.in-Ok.pairs.items;
  all = c.in-Ok.ensures.all;
  runs = subst (λ (u : SeatRows × List Pair). IsSomeAnd c.in-Ok-shelf_of.shelf.table (λ (t : TableValue).
      IsOpened c.in-Some.settings c.args.options.now.seed u.0 u.1 t.setup))
      (λ i. (c.in-Some.ensures.rows i, c.deref.ensures.value i)) c.in-Ok-shelf_of.ensures.opened;
}

-- where a class lacks room for the pairs in order, it lacks room for them as they came
pub returns-clause-no_room : goal.returns-clause-no_room
returns-clause-no_room c = λ is.
    let here = c.in-Err-shelf_of.ensures.no_room
    (ap (λ (failed : NotOpened). Err failed) (c.status_of-in-Err-shelf_of.ensures.no_room is)) in
    lack_moved (rules_in c.args.options.now) (map pair_of c.args.first.now) c.in-Ok.pairs.items c.in-Ok.ensures.all
    (subst (λ (u : Rules × List Pair). LackRoom u.0 u.1)
    (λ i. (
      record {
        items = c.in-Some.ensures.settings.items_are i;
        depth = c.in-Some.ensures.settings.depth_is i;
        hashing = Mix c.args.options.now.seed;
      },
      c.deref.ensures.value i,
    )) here)
