use Rattle.std.proofs.Common.{◌≤◌, List, [], ◌∷◌, map, refl, sym, ap, ◌∙◌, subst}
use Rattle.plain_map.specs.declared.keys.Pair.{Pair}
use Rattle.lasting_table.specs.Parties.{PartyValue}
use Rattle.lasting_table.specs.Tables.{new_seats}
use Rattle.lasting_table.specs.Values.{TableValue}
use Rattle.flowdir_c.specs.LastingShelves.{LastHasBrought, LastWasStopped}
use Rattle.flowdir_c.specs.Told.{pair_of}
use Rattle.flowdir_c.proofs.FitLemmas.{fit_back}
use Rattle.flowdir_c.proofs.LastingLemmas.{within_of}
use Rattle.flowdir_c.proofs.lasting_table_exports.flowdir_lasting_open.Goals as goal

-- where a pair is not new, the table's seat tells so
pub returns-then-not-fill-clause-no_room : goal.returns-then-not-fill-clause-no_room
returns-then-not-fill-clause-no_room c = λ is. record {
  settings = c.in-Some.settings;
  asked = c.in-Some.ensures;
  table = c.in-Ok-lasting_shelf_of.shelf.table;
  plan = c.in-Ok-lasting_shelf_of.ensures.plan;
  pairs = c.in-Ok.pairs.items;
  all = c.in-Ok.ensures.all;
  stopped = subst (λ (u : List Pair × List PartyValue). LastWasStopped u.0 u.1)
      (λ i. (c.deref.ensures.value i, c.in-Ok-lasting_shelf_of.ensures.free i)) (c.if-not-fill.ensures.stopped refl);
}

-- else the table has them
pub returns-clause-opened : goal.returns-clause-opened
returns-clause-opened c = λ done. record {
  shelf = c.fill.new.self;
  is = c.of_loose.ensures ∙ ap (λ v. v ∷ []) (c.of.ensures ∙ c.in-Ok-new.ensures.ok);
  fit = within_of c.args.options.now c.in-Some.settings c.in-Some.ensures;
  fit_pairs = fit_back (map pair_of c.args.first.now) c.in-Ok.pairs.items c.in-Ok.ensures.all c.in-Ok.ensures.pairs
      c.in-Ok.ensures.distinct;
  settings = c.in-Some.settings;
  asked = c.in-Some.ensures;
  plan = ap (λ (t : TableValue). t.plan) c.fill.ensures.table ∙ c.in-Ok-lasting_shelf_of.ensures.plan;
  pairs = c.in-Ok.pairs.items;
  all = c.in-Ok.ensures.all;
  brought = subst (λ (u : List Pair × List PartyValue). LastHasBrought u.0 u.1 c.fill.new.self.free)
      (λ i. (
        c.deref.ensures.value i,
        (c.in-Ok-lasting_shelf_of.ensures.free
            ∙ ap (λ (t : TableValue). new_seats t 0 c.in-Some.settings.seats) (sym c.fill.ensures.table)) i,
      )) (c.if-not-fill.ensures.brought refl);
  a_place_each = subst (λ n. c.in-Some.settings.seats ≤ n) (sym c.fill.ensures.places)
      c.in-Ok-lasting_shelf_of.ensures.places;
}
