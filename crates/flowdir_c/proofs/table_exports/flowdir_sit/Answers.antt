use Rattle.std.proofs.Common.{[], ◌∷◌, sym, ap, ◌∙◌}
use Rattle.flowdir_c.specs.Shelves.{ShelfValue}
use Rattle.flowdir_c.proofs.table_exports.flowdir_sit.Goals as goal

-- the handle that was there is the one that is taken out
pub into_loose-requires : goal.into_loose-requires
into_loose-requires c = (c.requires.0, ap (λ h. h.holders) c.replace.ensures.value ∙ c.requires.1)

-- the seat is a new one of its table
pub returns-in-Ok-new-clause-seat : goal.returns-in-Ok-new-clause-seat
returns-in-Ok-new-clause-seat c = λ done. record {
  before = c.into_box-shelf.result.value;
  after = c.take.new.self;
  holder = c.in-Ok.holder;
  was_is = sym (ap (λ h. h.holders) c.replace.ensures.value) ∙ c.into_loose.ensures
      ∙ ap (λ v. v ∷ []) (sym c.into_box-shelf.ensures);
  now_is = c.of_loose-in-Ok-new.ensures ∙ ap (λ v. v ∷ []) c.of-in-Ok-new.ensures;
  seat_is = c.of_loose-in-Ok-new-2.ensures ∙ ap (λ v. v ∷ []) (c.of-in-Ok-new-2.ensures ∙ c.in-Ok-new.ensures.ok);
  same = c.take.ensures.table ∙ ap (λ (v : ShelfValue). v.table) c.deref_mut.ensures.value;
  one = c.in-Ok.ensures.one ∙ ap (λ (v : ShelfValue). v.free) c.deref_mut.ensures.value;
  back = c.take.ensures.back ∙ ap (λ (v : ShelfValue). v.back) c.deref_mut.ensures.value;
  places = c.in-Ok.ensures.places ∙ ap (λ (v : ShelfValue). v.places) c.deref_mut.ensures.value;
  left = c.in-Ok.ensures.left ∙ ap (λ (v : ShelfValue). v.left) c.deref_mut.ensures.value;
  is_listed = c.in-Ok.ensures.is_listed ∙ ap (λ (v : ShelfValue). v.is_listed) c.deref_mut.ensures.value;
  pairs = c.in-Ok.ensures.pairs ∙ ap (λ (v : ShelfValue). v.pairs) c.deref_mut.ensures.value;
  of_table = c.in-Ok.ensures.taken ∙ sym c.take.ensures.table;
  new = c.in-Ok.ensures.new;
  unasked = c.in-Ok.ensures.unasked;
}
