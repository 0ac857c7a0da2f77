use Rattle.std.proofs.Common.{[], ◌∷◌, sym, ◌++◌, ap, ◌∙◌}
use Rattle.flowdir_c.specs.declared.holder.Holder.{Holder}
use Rattle.flowdir_c.specs.Shelves.{ShelfValue}
use Rattle.flowdir_c.proofs.table_exports.flowdir_rise.Goals as goal

-- the handles that were there are those that are taken out
pub into_loose-requires : goal.into_loose-requires
into_loose-requires c = (c.requires.0, ap (λ h. h.holders) c.replace.ensures.value ∙ c.requires.1.1.0)

pub into_loose-requires-2 : goal.into_loose-requires-2
into_loose-requires-2 c = (c.requires.1.0, ap (λ h. h.holders) c.replace-2.ensures.value ∙ c.requires.1.1.1)

-- its holder's seat comes to those that were given back
pub returns-clause-risen : goal.returns-clause-risen
returns-clause-risen c = λ done. record {
  before = c.into_box-shelf.result.value;
  after = c.keep.new.self;
  holder = c.into_box-holder.result.value;
  was_is = sym (ap (λ h. h.holders) c.replace.ensures.value) ∙ c.into_loose.ensures
      ∙ ap (λ v. v ∷ []) (sym c.into_box-shelf.ensures);
  now_is = c.of_loose-2.ensures ∙ ap (λ v. v ∷ []) c.of-2.ensures;
  seat_is = sym (ap (λ h. h.holders) c.replace-2.ensures.value) ∙ c.into_loose-2.ensures
      ∙ ap (λ v. v ∷ []) (sym c.into_box-holder.ensures);
  same = c.keep.ensures.table ∙ ap (λ (v : ShelfValue). v.table) c.deref_mut.ensures.value;
  free = c.keep.ensures.free ∙ ap (λ (v : ShelfValue). v.free) c.deref_mut.ensures.value;
  back = c.keep.ensures.back
      ∙ ap (λ (v : ShelfValue). v.back ++ c.into_inner.result.seat ∷ []) c.deref_mut.ensures.value
      ∙ ap (λ (h : Holder). c.into_box-shelf.result.value.back ++ h.seat ∷ []) c.into_inner.ensures;
  places = c.keep.ensures.places ∙ ap (λ (v : ShelfValue). v.places) c.deref_mut.ensures.value;
  left = c.keep.ensures.left ∙ ap (λ (v : ShelfValue). v.left) c.deref_mut.ensures.value;
  is_listed = c.keep.ensures.is_listed ∙ ap (λ (v : ShelfValue). v.is_listed) c.deref_mut.ensures.value;
  pairs = c.keep.ensures.pairs ∙ ap (λ (v : ShelfValue). v.pairs) c.deref_mut.ensures.value;
}
