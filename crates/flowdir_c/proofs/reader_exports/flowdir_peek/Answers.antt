use Rattle.std.proofs.Common.{[], ◌∷◌, refl, sym, ap, ◌∙◌, subst}
use Rattle.plain_map.specs.declared.keys.Key.{Key}
use Rattle.flowdir_c.specs.Glimpsed.{HasGlimpsed}
use Rattle.flowdir_c.proofs.reader_exports.flowdir_peek.Goals as goal

-- the handle that was there is the one that is taken out
pub into_loose-requires : goal.into_loose-requires
into_loose-requires c = (c.requires.0, ap (λ h. h.holders) c.replace.ensures.value ∙ c.requires.1)

-- and what its reader saw is told to C
pub returns : goal.returns
returns c = record {
  peeker = c.deref_mut.result.now;
  then = c.peek.new.self;
  was_is = sym (ap (λ h. h.holders) c.replace.ensures.value) ∙ c.into_loose.ensures
      ∙ ap (λ v. v ∷ []) (sym c.into_box-peeker.ensures ∙ sym c.deref_mut.ensures.value);
  now_is = c.of_loose.ensures ∙ ap (λ v. v ∷ []) c.of.ensures;
  held = subst (λ (k : Key). HasGlimpsed k c.deref_mut.result.now.reader c.peek.new.self.reader c.peek.result)
      c.to_key.ensures c.peek.ensures.held;
  same = c.peek.ensures.same;
  of_table = c.peek.ensures.directory;
  status_is = refl;
}
