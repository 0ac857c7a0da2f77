use Rattle.std.proofs.Common.{◌≡◌, [], ◌∷◌, None, sym, ap, ◌∙◌, subst}
use Rattle.plain_map.specs.declared.keys.Key.{Key}
use Rattle.plain_map.specs.declared.calls.Call.TheVariants.{Lookup}
use Rattle.flowdir_c.specs.LastingTold.{CannotAsk, HasReplied}
use Rattle.flowdir_c.proofs.lasting_seat_exports.flowdir_lasting_lookup.Goals as goal

-- the handle that was there is the one that is taken out
pub into_loose-requires : goal.into_loose-requires
into_loose-requires c = (c.requires.0, ap (λ h. h.holders) c.replace.ensures.value ∙ c.requires.1)

-- and what its holder is told is told to C
pub returns : goal.returns
returns c = record {
  holder = c.deref_mut.result.now;
  then = c.lookup-told.new.self;
  was_is = sym (ap (λ h. h.holders) c.replace.ensures.value) ∙ c.into_loose.ensures
      ∙ ap (λ v. v ∷ []) (sym c.into_box-holder.ensures ∙ sym c.deref_mut.ensures.value);
  now_is = c.of_loose.ensures ∙ ap (λ v. v ∷ []) c.of.ensures;
  told = c.lookup-told.result;
  became = subst (λ (k : Key). HasReplied (Lookup k) c.deref_mut.result.now.seat c.lookup-told.new.self.seat
      c.lookup-told.result) c.to_key.ensures c.lookup-told.ensures.told;
  refuses = subst (λ (k : Key). CannotAsk (Lookup k) c.deref_mut.result.now.seat → c.lookup-told.result ≡ None)
      c.to_key.ensures c.lookup-told.ensures.refuses;
  same = c.lookup-told.ensures.same;
  of_table = c.lookup-told.ensures.table;
  status_is = c.tell_or.ensures.status;
  written_is = c.tell_or.ensures.written;
}
