use Rattle.std.proofs.Common.{[], ◌∷◌, sym, ap, ◌∙◌, subst}
use Rattle.plain_map.specs.declared.keys.Key.{Key}
use Rattle.plain_map.specs.declared.calls.Call.TheVariants.{Put}
use Rattle.flowdir_c.specs.Told.{HasTold}
use Rattle.flowdir_c.proofs.seat_exports.flowdir_put.Goals as goal

-- the handle that was there is the one that is taken out
pub into_loose-requires : goal.into_loose-requires
into_loose-requires c = (c.requires.0, ap (λ h. h.holders) c.replace.ensures.value ∙ c.requires.1)

-- and what its holder is told is told to C
pub returns : goal.returns
returns c = record {
  holder = c.deref_mut.result.now;
  then = c.put-told.new.self;
  was_is = sym (ap (λ h. h.holders) c.replace.ensures.value) ∙ c.into_loose.ensures
      ∙ ap (λ v. v ∷ []) (sym c.into_box-holder.ensures ∙ sym c.deref_mut.ensures.value);
  now_is = c.of_loose.ensures ∙ ap (λ v. v ∷ []) c.of.ensures;
  told = c.put-told.result;
  became = subst (λ (k : Key). HasTold (Put k c.args.value) c.deref_mut.result.now.calls c.deref_mut.result.now.seat
      c.put-told.new.self.seat c.put-told.result) c.to_key.ensures c.put-told.ensures.told;
  calls = c.put-told.ensures.calls;
  same = c.put-told.ensures.same;
  of_table = c.put-told.ensures.directory;
  status_is = c.tell.ensures.status;
  written_is = c.tell.ensures.written;
}
