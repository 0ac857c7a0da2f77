use Rattle.std.proofs.Common.{[], ◌∷◌, ◌++◌, Err, sym, ap, ◌∙◌}
use Rattle.flowdir_c.specs.declared.lasting_holder.LastingHolder.{LastingHolder}
use Rattle.flowdir_c.specs.LastingShelves.{LastingValue}
use Rattle.flowdir_c.proofs.LastingLemmas.{cause_of, value_same}
use Rattle.flowdir_c.proofs.lasting_table_exports.flowdir_lasting_sit.Goals as goal

-- the handle that was there is the one that is taken out
pub into_loose-requires : goal.into_loose-requires
into_loose-requires c = (c.requires.0, ap (λ h. h.holders) c.replace.ensures.value ∙ c.requires.1)

-- the seat is one of its table's that nobody had
pub returns-in-Ok-new-clause-seat : goal.returns-in-Ok-new-clause-seat
returns-in-Ok-new-clause-seat c = λ done. record {
  before = c.into_box-shelf.result.value;
  after = c.take.new.self;
  holder = c.in-Ok.holder;
  was_is = sym (ap (λ h. h.holders) c.replace.ensures.value) ∙ c.into_loose.ensures
      ∙ ap (λ v. v ∷ []) (sym c.into_box-shelf.ensures);
  now_is = c.of_loose-in-Ok-new.ensures ∙ ap (λ v. v ∷ []) c.of-in-Ok-new.ensures;
  seat_is = c.of_loose-in-Ok-new-2.ensures ∙ ap (λ v. v ∷ []) (c.of-in-Ok-new-2.ensures ∙ c.in-Ok-new.ensures.ok);
  same = c.take.ensures.table ∙ ap (λ (v : LastingValue). v.table) c.deref_mut.ensures.value;
  one = sym (ap (λ (v : LastingValue). v.free) c.deref_mut.ensures.value) ∙ c.in-Ok.ensures.one;
  places = c.take.ensures.places ∙ ap (λ (v : LastingValue). v.places) c.deref_mut.ensures.value;
  of_table = c.in-Ok.ensures.taken ∙ sym c.take.ensures.table;
}

-- where none was taken, the table stays
pub returns-in-Err-clause-table : goal.returns-in-Err-clause-table
returns-in-Err-clause-table c = λ bad. record {
  before = c.into_box-shelf.result.value;
  after = c.take.new.self;
  was_is = sym (ap (λ h. h.holders) c.replace.ensures.value) ∙ c.into_loose.ensures
      ∙ ap (λ v. v ∷ []) (sym c.into_box-shelf.ensures);
  now_is = c.of_loose.ensures ∙ ap (λ v. v ∷ []) c.of.ensures;
  same = c.in-Err.ensures.kept ∙ c.deref_mut.ensures.value;
}

pub returns-in-Err-clause-cause : goal.returns-in-Err-clause-cause
returns-in-Err-clause-cause c = λ bad. cause_of c.in-Err.failed c.sit_status.result c.args.table.now.holders
    c.sit_status.ensures (λ busy. (
      c.into_box-shelf.result.value,
      sym (ap (λ h. h.holders) c.replace.ensures.value) ∙ c.into_loose.ensures
          ∙ ap (λ v. v ∷ []) (sym c.into_box-shelf.ensures),
      sym (ap (λ (v : LastingValue). v.free) c.deref_mut.ensures.value)
          ∙ c.take.ensures.busy (c.in-Err.is ∙ ap Err busy),
    ))

-- and where memory is wanting, it comes back
pub returns-in-Err-new-clause-table : goal.returns-in-Err-new-clause-table
returns-in-Err-new-clause-table c = λ bad. record {
  before = c.into_box-shelf.result.value;
  after = c.keep.new.self;
  was_is = sym (ap (λ h. h.holders) c.replace.ensures.value) ∙ c.into_loose.ensures
      ∙ ap (λ v. v ∷ []) (sym c.into_box-shelf.ensures);
  now_is = c.of_loose-in-Err-new.ensures ∙ ap (λ v. v ∷ []) c.of-in-Err-new.ensures;
  same = value_same c.keep.new.self c.into_box-shelf.result.value
      (c.keep.ensures.table ∙ ap (λ (v : LastingValue). v.table) c.deref_mut-in-Err-new.ensures.value
      ∙ c.take.ensures.table ∙ ap (λ (v : LastingValue). v.table) c.deref_mut.ensures.value)
      (c.keep.ensures.free
      ∙ ap (λ (v : LastingValue). v.free ++ c.in-Err-new.failed.value.seat ∷ []) c.deref_mut-in-Err-new.ensures.value
      ∙ ap (λ (h : LastingHolder). c.take.new.self.free ++ h.seat ∷ []) c.in-Err-new.ensures.value_returned
      ∙ sym c.in-Ok.ensures.one ∙ ap (λ (v : LastingValue). v.free) c.deref_mut.ensures.value)
      (c.keep.ensures.places ∙ ap (λ (v : LastingValue). v.places) c.deref_mut-in-Err-new.ensures.value
      ∙ c.take.ensures.places ∙ ap (λ (v : LastingValue). v.places) c.deref_mut.ensures.value);
}
