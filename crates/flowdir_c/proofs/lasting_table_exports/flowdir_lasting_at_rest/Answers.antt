use Rattle.std.proofs.Common.{ℕ, ◌<◌, [], ◌∷◌, None, Option, Some, length, refl, sym, ap, ◌∙◌, subst}
use Rattle.flowdir_c.specs.LastingShelves.{LastHasCopied, LastingValue}
use Rattle.flowdir_c.proofs.lasting_table_exports.flowdir_lasting_at_rest.Goals as goal

-- the handle that was there is the one that is taken out
pub into_loose-requires : goal.into_loose-requires
into_loose-requires c = (c.requires.0, ap (λ h. h.holders) c.replace.ensures.value ∙ c.requires.1)

-- where a seat is out, the table stays
pub returns-then-not-is_at_rest-clause-busy : goal.returns-then-not-is_at_rest-clause-busy
returns-then-not-is_at_rest-clause-busy c = λ busy. (
  c.into_box-shelf.result.value,
  sym (ap (λ h. h.holders) c.replace.ensures.value) ∙ c.into_loose.ensures
      ∙ ap (λ v. v ∷ []) (sym c.into_box-shelf.ensures),
  subst (λ (v : LastingValue). length v.free < v.table.plan.settings.seats) c.deref.ensures
      (c.if-not-is_at_rest.ensures.0 refl),
)

pub returns-then-not-is_at_rest-clause-kept : goal.returns-then-not-is_at_rest-clause-kept
returns-then-not-is_at_rest-clause-kept c = λ busy. (
  record {
    before = c.into_box-shelf.result.value;
    after = c.into_box-shelf.result.value;
    was_is = sym (ap (λ h. h.holders) c.replace.ensures.value) ∙ c.into_loose.ensures
        ∙ ap (λ v. v ∷ []) (sym c.into_box-shelf.ensures);
    now_is = c.of_loose.ensures ∙ ap (λ v. v ∷ []) c.of.ensures;
    same = refl;
  },
  refl,
  refl,
)

-- and what its seat copied is told to C
pub returns-in-Some-clause-copied : goal.returns-in-Some-clause-copied
returns-in-Some-clause-copied c =
    let told : Option ℕ = Some c.in-Some.count in
    λ done. record {
      shelf = c.into_box-shelf.result.value;
      then = c.copy-told.new.self;
      was_is = sym (ap (λ h. h.holders) c.replace.ensures.value) ∙ c.into_loose.ensures
          ∙ ap (λ v. v ∷ []) (sym c.into_box-shelf.ensures);
      now_is = c.of_loose-2.ensures ∙ ap (λ v. v ∷ []) c.of-2.ensures;
      same = c.copy-told.ensures.table ∙ ap (λ (v : LastingValue). v.table) c.deref_mut.ensures.value;
      places = c.copy-told.ensures.places ∙ ap (λ (v : LastingValue). v.places) c.deref_mut.ensures.value;
      told = told;
      became = subst
          (λ (v : LastingValue). LastHasCopied c.args.bucket v.free c.copy-told.new.self.free c.args.pairs.now
          c.copy-told.new.out told) c.deref_mut.ensures.value c.in-Some.ensures.told;
      status_is = refl;
      written_is = refl;
    }

pub returns-in-None-clause-copied : goal.returns-in-None-clause-copied
returns-in-None-clause-copied c =
    let told : Option ℕ = None in
    λ done. record {
      shelf = c.into_box-shelf.result.value;
      then = c.copy-told.new.self;
      was_is = sym (ap (λ h. h.holders) c.replace.ensures.value) ∙ c.into_loose.ensures
          ∙ ap (λ v. v ∷ []) (sym c.into_box-shelf.ensures);
      now_is = c.of_loose-2.ensures ∙ ap (λ v. v ∷ []) c.of-2.ensures;
      same = c.copy-told.ensures.table ∙ ap (λ (v : LastingValue). v.table) c.deref_mut.ensures.value;
      places = c.copy-told.ensures.places ∙ ap (λ (v : LastingValue). v.places) c.deref_mut.ensures.value;
      told = told;
      became = subst
          (λ (v : LastingValue). LastHasCopied c.args.bucket v.free c.copy-told.new.self.free c.args.pairs.now
          c.copy-told.new.out told) c.deref_mut.ensures.value c.in-None.ensures.told;
      status_is = refl;
      written_is = refl;
    }
