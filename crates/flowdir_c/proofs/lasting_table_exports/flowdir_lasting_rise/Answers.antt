use Rattle.std.proofs.Common.{◌≤◌, [], ◌∷◌, ◌++◌, length, refl, sym, ap, ◌∙◌, subst}
use Rattle.flowdir_c.specs.declared.lasting_holder.LastingHolder.{LastingHolder}
use Rattle.flowdir_c.specs.LastingShelves.{LastingValue}
use Rattle.flowdir_c.proofs.lasting_table_exports.flowdir_lasting_rise.Goals as goal

-- the handles that were there are those that are taken out
pub into_loose-requires : goal.into_loose-requires
into_loose-requires c = (c.requires.0, ap (λ h. h.holders) c.replace.ensures.value ∙ c.requires.1.1.0)

pub into_loose-requires-2 : goal.into_loose-requires-2
into_loose-requires-2 c = (c.requires.1.0, ap (λ h. h.holders) c.replace-2.ensures.value ∙ c.requires.1.1.1)

-- its holder's seat comes to those that nobody has
pub returns-clause-risen : goal.returns-clause-risen
returns-clause-risen c = λ done. record {
  before = c.into_box-shelf.result.value;
  after = c.keep.new.self;
  holder = c.into_box-holder.result.value;
  was_is = sym (ap (λ h. h.holders) c.replace.ensures.value) ∙ c.into_loose.ensures
      ∙ ap (λ v. v ∷ []) (sym c.into_box-shelf.ensures);
  now_is = c.of_loose-2.ensures ∙ ap (λ v. v ∷ []) c.of-2.ensures;
  seat_is = sym (ap (λ h. h.holders) c.replace-2.ensures.value) ∙ c.into_loose-2.ensures
      ∙ ap (λ v. v ∷ []) (sym c.into_box-holder.ensures);
  same = c.keep.ensures.table ∙ ap (λ (v : LastingValue). v.table) c.deref_mut.ensures.value;
  one = c.keep.ensures.free
      ∙ ap (λ (v : LastingValue). v.free ++ c.into_inner.result.seat ∷ []) c.deref_mut.ensures.value
      ∙ ap (λ (h : LastingHolder). c.into_box-shelf.result.value.free ++ h.seat ∷ []) c.into_inner.ensures;
  places = c.keep.ensures.places ∙ ap (λ (v : LastingValue). v.places) c.deref_mut.ensures.value;
}

-- where there is no place for it, the table stays
pub returns-then-not-has_place-clause-table : goal.returns-then-not-has_place-clause-table
returns-then-not-has_place-clause-table c = λ bad. record {
  before = c.into_box-shelf.result.value;
  after = c.into_box-shelf.result.value;
  was_is = sym (ap (λ h. h.holders) c.replace.ensures.value) ∙ c.into_loose.ensures
      ∙ ap (λ v. v ∷ []) (sym c.into_box-shelf.ensures);
  now_is = c.of_loose.ensures ∙ ap (λ v. v ∷ []) c.of.ensures;
  same = refl;
}

pub returns-then-not-has_place-clause-cause : goal.returns-then-not-has_place-clause-cause
returns-then-not-has_place-clause-cause c = λ bad. (
  refl,
  (
    c.into_box-shelf.result.value,
    sym (ap (λ h. h.holders) c.replace.ensures.value) ∙ c.into_loose.ensures
        ∙ ap (λ v. v ∷ []) (sym c.into_box-shelf.ensures),
    subst (λ (v : LastingValue). v.places ≤ length v.free) c.deref.ensures (c.if-not-has_place.ensures.full refl),
  ),
)
