-- Where the words of a table begin, by its sizes.
use Rattle.std.specs.Prelude.{◌≡◌, ℕ, ◌+◌, ◌*◌, ◌^◌, ◌<◌}
use Rattle.step_counts.specs.declared.TheConstants.{ITEM_WORDS}
use Rattle.exchange_model.specs.Codes.{ENTRY_WORDS, SLOT_WORDS}
use Rattle.exchange_calls.specs.declared.sizes.TableSizes.{TableSizes}

-- the first words of the wants, the hold words, the ops, the buckets and the rows, and how many words a row has
pub record HasStarts (sizes : TableSizes) (wants holds ops buckets rows row_words : ℕ) : Type 0 where
  pub wants_are : wants ≡ 1 + sizes.seats
  pub holds_are : holds ≡ wants + (sizes.seats + sizes.readers)
  pub ops_are : ops ≡ holds + (sizes.seats + sizes.readers)
  pub buckets_are : buckets ≡ ops + SLOT_WORDS * sizes.seats
  pub rows_are : rows ≡ buckets + 2 ^ sizes.depth
  pub words_are : row_words ≡ 1 + ITEM_WORDS * sizes.items + ENTRY_WORDS * sizes.seats
  pub few : rows < 2 ^ 22
