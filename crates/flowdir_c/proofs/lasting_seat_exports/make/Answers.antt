use Rattle.std.proofs.Common.{[], ◌∷◌, sym, ap, ◌∙◌}
use Rattle.flowdir_c.proofs.lasting_seat_exports.make.Goals as goal

-- the handle that was there is the one that is taken out
pub into_loose-requires : goal.into_loose-requires
into_loose-requires c = (c.requires.holder.0, ap (λ h. h.holders) c.replace.ensures.value ∙ c.requires.holder.1)

-- and what its holder is told is told to C
pub returns : goal.returns
returns c = record {
  holder = c.deref_mut.result.now;
  then = c.update-told.new.self;
  was_is = sym (ap (λ h. h.holders) c.replace.ensures.value) ∙ c.into_loose.ensures
      ∙ ap (λ v. v ∷ []) (sym c.into_box-holder.ensures ∙ sym c.deref_mut.ensures.value);
  now_is = c.of_loose.ensures ∙ ap (λ v. v ∷ []) c.of.ensures;
  told = c.update-told.result;
  became = c.update-told.ensures.told;
  refuses = c.update-told.ensures.refuses;
  same = c.update-told.ensures.same;
  of_table = c.update-told.ensures.table;
  status_is = c.tell_or.ensures.status;
  written_is = c.tell_or.ensures.written;
}
