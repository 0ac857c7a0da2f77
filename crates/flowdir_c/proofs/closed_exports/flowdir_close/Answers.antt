use Rattle.std.proofs.Common.{[], ◌∷◌, ◌++◌, reverse, refl, sym, ap, ◌∙◌, subst}
use Rattle.std.specs.Prelude.{IsSomeAnd}
use Rattle.shared_table.specs.Values.{new_seats}
use Rattle.flowdir_c.specs.Shelves.{ShelfValue, WasLeftTo}
use Rattle.flowdir_c.proofs.closed_exports.flowdir_close.Goals as goal

-- the handle that was there is the one that is taken out
pub into_loose-requires : goal.into_loose-requires
into_loose-requires c = (c.requires.0, ap (λ h. h.holders) c.replace.ensures.value ∙ c.requires.1)

-- the table that ran is the one that is closed
pub returns-then-is_closed-clause-closed : goal.returns-then-is_closed-clause-closed
returns-then-is_closed-clause-closed c = λ done.
    let gone = c.if-is_closed.ensures.left refl in
    record {
      before = c.into_box-shelf.result.value;
      after = c.close-is_closed.new.self;
      was_is = sym (ap (λ h. h.holders) c.replace.ensures.value) ∙ c.into_loose.ensures
          ∙ ap (λ v. v ∷ []) (sym c.into_box-shelf.ensures);
      now_is = c.of_loose.ensures ∙ ap (λ v. v ∷ []) c.of.ensures;
      table = gone.0;
      ran = sym (ap (λ (v : ShelfValue). v.table) c.deref_mut.ensures.value) ∙ gone.1.0;
      closed = c.if-is_closed.ensures.closed refl;
      left = subst (λ (v : ShelfValue). IsSomeAnd c.close-is_closed.new.self.left
          (WasLeftTo gone.0.setup (v.back ++ reverse (new_seats gone.0 0 v.free)))) c.deref_mut.ensures.value gone.1.1;
      none_free = c.if-is_closed.ensures.free refl;
      none_back = c.if-is_closed.ensures.back refl;
      unlisted = c.if-is_closed.ensures.unlisted refl;
      pairs = c.if-is_closed.ensures.pairs refl ∙ ap (λ (v : ShelfValue). v.pairs) c.deref_mut.ensures.value;
    }
