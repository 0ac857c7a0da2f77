use Rattle.std.proofs.Common.{[], ◌∷◌, None, Some, refl, sym, ap, ◌∙◌}
use Rattle.flowdir_c.proofs.lasting_seat_exports.flowdir_lasting_look_at.Goals as goal

-- the handle that was there is the one that is taken out
pub into_loose-requires : goal.into_loose-requires
into_loose-requires c = (c.requires.0, ap (λ h. h.holders) c.replace.ensures.value ∙ c.requires.1)

-- and what its holder copied is told to C
pub returns-in-Some : goal.returns-in-Some
returns-in-Some c = record {
  holder = c.deref_mut.result.now;
  then = c.copy-told.new.self;
  was_is = sym (ap (λ h. h.holders) c.replace.ensures.value) ∙ c.into_loose.ensures
      ∙ ap (λ v. v ∷ []) (sym c.into_box-holder.ensures ∙ sym c.deref_mut.ensures.value);
  now_is = c.of_loose.ensures ∙ ap (λ v. v ∷ []) c.of.ensures;
  told = Some c.in-Some.count;
  became = c.in-Some.ensures.told;
  refuses = c.in-Some.ensures.refuses;
  same = c.copy-told.ensures.same;
  of_table = c.copy-told.ensures.table;
  status_is = refl;
  written_is = refl;
}

pub returns-in-None : goal.returns-in-None
returns-in-None c = record {
  holder = c.deref_mut.result.now;
  then = c.copy-told.new.self;
  was_is = sym (ap (λ h. h.holders) c.replace.ensures.value) ∙ c.into_loose.ensures
      ∙ ap (λ v. v ∷ []) (sym c.into_box-holder.ensures ∙ sym c.deref_mut.ensures.value);
  now_is = c.of_loose.ensures ∙ ap (λ v. v ∷ []) c.of.ensures;
  told = None;
  became = c.in-None.ensures.told;
  refuses = λ bad. refl;
  same = c.copy-told.ensures.same;
  of_table = c.copy-told.ensures.table;
  status_is = refl;
  written_is = refl;
}
