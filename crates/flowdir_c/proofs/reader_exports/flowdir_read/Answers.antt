use Rattle.std.proofs.Common.{[], ◌∷◌, ap, ◌∙◌}
use Rattle.flowdir_c.specs.Shelves.{ShelfValue}
use Rattle.flowdir_c.proofs.reader_exports.flowdir_read.Goals as goal

-- the handle that was there is the one that is taken out
pub into_loose-requires : goal.into_loose-requires
into_loose-requires c = (c.requires.0, ap (λ h. h.holders) c.replace.ensures.value ∙ c.requires.1)

-- the reader is one of its table
pub returns-clause-reader : goal.returns-clause-reader
returns-clause-reader c = λ done. record {
  shelf = c.into_box-shelf.result.value;
  peeker = c.in-Some.peeker;
  table_is = c.of_loose-2.ensures ∙ ap (λ v. v ∷ []) c.of-2.ensures;
  reader_is = c.of_loose-3.ensures ∙ ap (λ v. v ∷ []) (c.of-3.ensures ∙ c.in-Ok.ensures.ok);
  of_table = c.in-Some.ensures ∙ ap (λ (s : ShelfValue). s.table) c.deref-2.ensures;
}
