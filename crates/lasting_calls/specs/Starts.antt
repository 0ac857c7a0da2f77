-- Where the words of a table begin, by its settings.
use Rattle.std.specs.Prelude.{◌≡◌, ℕ, ◌+◌, ◌*◌, ◌^◌, ◌<◌}
use Rattle.step_counts.specs.declared.TheConstants.{ITEM_WORDS, SEAT_WORDS}
use Rattle.step_counts.specs.declared.settings.Settings.{Settings}
use Rattle.lasting_model.specs.Codes.{SLOT_WORDS}

-- the first words of the ops, the buckets and the rows, how many words a row has, and which of them is the count
pub record HasStarts (settings : Settings) (ops buckets rows row_words count : ℕ) : Type 0 where
  pub ops_are : ops ≡ 3 * settings.seats
  pub buckets_are : buckets ≡ ops + SLOT_WORDS * settings.seats
  pub rows_are : rows ≡ buckets + 2 ^ settings.depth
  pub count_is : count ≡ 1 + SEAT_WORDS * settings.seats
  pub words_are : row_words ≡ 1 + count + ITEM_WORDS * settings.items
  pub few : rows < 2 ^ 16
