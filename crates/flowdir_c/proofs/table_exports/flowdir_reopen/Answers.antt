use Rattle.std.proofs.Common.{◌≤◌, List, [], ◌∷◌, refl, sym, ap, ◌∙◌, subst}
use Rattle.std.specs.Prelude.{IsSomeAnd}
use Rattle.step_counts.specs.declared.rows.SeatRows.{SeatRows}
use Rattle.plain_map.specs.declared.keys.Pair.{Pair}
use Rattle.shared_table.specs.Values.{TableValue}
use Rattle.flowdir_c.specs.Shelves.{ArePairsOf, ShelfValue}
use Rattle.flowdir_c.specs.Opened.{IsOpened}
use Rattle.flowdir_c.proofs.table_exports.flowdir_reopen.Goals as goal

-- the handle that was there is the one that is taken out
pub into_loose-requires : goal.into_loose-requires
into_loose-requires c = (c.requires.0, ap (λ h. h.holders) c.replace.ensures.value ∙ c.requires.1)

-- the next table is what was asked for, with the pairs that were listed
pub returns-in-Ok-clause-opened : goal.returns-in-Ok-clause-opened
returns-in-Ok-clause-opened c = λ done. record {
  shelf = c.reopened-opened.new.self;
  next = c.in-Ok.next.value;
  closed_is = c.of_loose-2.ensures ∙ ap (λ v. v ∷ []) c.of-2.ensures;
  opened_is = c.of_loose-in-Ok.ensures ∙ ap (λ v. v ∷ []) c.of-in-Ok.ensures;
  listed = subst (λ (s : ShelfValue). IsSomeAnd s.left (λ left. ArePairsOf left s.pairs))
      (c.deref.ensures ∙ sym c.deref_mut.ensures.value ∙ sym c.reopened-opened.ensures.same)
      (c.if-not-is_listed.ensures.listed refl);
  free = c.in-Ok.ensures.seats ∙ c.in-Some.ensures.settings.seats_are;
  none_back = c.in-Ok.ensures.none_back;
  none_left = c.in-Ok.ensures.none_left;
  unlisted = c.in-Ok.ensures.unlisted;
  none_listed = c.in-Ok.ensures.none_listed;
  a_place_each = subst (λ n. n ≤ c.in-Ok.next.value.places) c.in-Some.ensures.settings.seats_are
      c.in-Ok.ensures.a_place_each;
  fit = c.in-Some.ensures.fit;
  settings = c.in-Some.settings;
  asked = c.in-Some.ensures.settings;
  runs = subst (λ (u : SeatRows × List Pair). IsSomeAnd c.in-Ok.next.value.table (λ (t : TableValue).
      IsOpened c.in-Some.settings c.args.options.now.seed u.0 u.1 t.setup))
      (λ i. (c.in-Some.ensures.rows i, (sym c.reopened-opened.ensures.same i).pairs)) c.in-Ok.ensures.opened;
}
