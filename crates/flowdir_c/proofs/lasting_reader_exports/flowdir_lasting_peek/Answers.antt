use Rattle.std.proofs.Common.{[], ◌∷◌, sym, ap, ◌∙◌, subst, arith}
use Rattle.plain_map.specs.declared.keys.Key.{Key}
use Rattle.flowdir_c.specs.LastingTold.{HasPeeked}
use Rattle.flowdir_c.specs.Told.{key_of}
use Rattle.flowdir_c.proofs.LastingLemmas.{peeked_some}
use Rattle.flowdir_c.proofs.lasting_reader_exports.flowdir_lasting_peek.Goals as goal

-- the handle that was there is the one that is taken out
pub into_loose-requires : goal.into_loose-requires
into_loose-requires c = (c.requires.0, ap (λ h. h.holders) c.replace.ensures.value ∙ c.requires.1)

-- and what its reader saw is told to C
pub returns : goal.returns
returns c = peeked_some (key_of c.args.key.now) c.args.tries c.args.reader.now.holders c.of_loose.result.holders
    c.args.out.now c.tell_or.new.out c.tell_or.result (omega (arith, c.if-tries-eq0.false)) (record {
      peeker = c.deref_mut.result.now;
      then = c.peek-told.new.self;
      was_is = sym (ap (λ h. h.holders) c.replace.ensures.value) ∙ c.into_loose.ensures
          ∙ ap (λ v. v ∷ []) (sym c.into_box-peeker.ensures ∙ sym c.deref_mut.ensures.value);
      now_is = c.of_loose.ensures ∙ ap (λ v. v ∷ []) c.of.ensures;
      told = c.peek-told.result;
      became = subst (λ (k : Key). HasPeeked k c.deref_mut.result.now.reader c.peek-told.new.self.reader
          c.peek-told.result) c.to_key.ensures c.peek-told.ensures.told;
      same = c.peek-told.ensures.same;
      of_table = c.peek-told.ensures.table;
      status_is = c.tell_or.ensures.status;
      written_is = c.tell_or.ensures.written;
    })
