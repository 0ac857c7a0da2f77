use Rattle.std.proofs.Common.{[], ◌∷◌, refl, sym, ap, ◌∙◌}
use Rattle.flowdir_c.specs.LastingShelves.{LastingValue}
use Rattle.flowdir_c.proofs.lasting_table_exports.flowdir_lasting_read.Goals as goal

-- the handle that was there is the one that is taken out
pub into_loose-requires : goal.into_loose-requires
into_loose-requires c = (c.requires.0, ap (λ h. h.holders) c.replace.ensures.value ∙ c.requires.1)

-- the reader is one of its table
pub returns-clause-reader : goal.returns-clause-reader
returns-clause-reader c = λ done. record {
  shelf = c.into_box-shelf.result.value;
  peeker = c.in-Some.peeker;
  table_is = c.of_loose.ensures ∙ ap (λ v. v ∷ []) c.of.ensures;
  reader_is = c.of_loose-2.ensures ∙ ap (λ v. v ∷ []) (c.of-2.ensures ∙ c.in-Ok.ensures.ok);
  of_table = c.in-Some.ensures ∙ ap (λ (s : LastingValue). s.table) c.deref.ensures;
}

-- and the table stays
pub returns-in_default-clause-table : goal.returns-in_default-clause-table
returns-in_default-clause-table c = record {
  before = c.into_box-shelf.result.value;
  after = c.into_box-shelf.result.value;
  was_is = sym (ap (λ h. h.holders) c.replace.ensures.value) ∙ c.into_loose.ensures
      ∙ ap (λ v. v ∷ []) (sym c.into_box-shelf.ensures);
  now_is = c.of_loose.ensures ∙ ap (λ v. v ∷ []) c.of.ensures;
  same = refl;
}

pub returns-in_default-new-clause-table : goal.returns-in_default-new-clause-table
returns-in_default-new-clause-table c = record {
  before = c.into_box-shelf.result.value;
  after = c.into_box-shelf.result.value;
  was_is = sym (ap (λ h. h.holders) c.replace.ensures.value) ∙ c.into_loose.ensures
      ∙ ap (λ v. v ∷ []) (sym c.into_box-shelf.ensures);
  now_is = c.of_loose.ensures ∙ ap (λ v. v ∷ []) c.of.ensures;
  same = refl;
}

pub returns-clause-table : goal.returns-clause-table
returns-clause-table c = record {
  before = c.into_box-shelf.result.value;
  after = c.into_box-shelf.result.value;
  was_is = sym (ap (λ h. h.holders) c.replace.ensures.value) ∙ c.into_loose.ensures
      ∙ ap (λ v. v ∷ []) (sym c.into_box-shelf.ensures);
  now_is = c.of_loose.ensures ∙ ap (λ v. v ∷ []) c.of.ensures;
  same = refl;
}
