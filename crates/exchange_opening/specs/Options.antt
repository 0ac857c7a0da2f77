-- What a table may be asked for, and the sizes that it gets.
use Rattle.std.specs.Prelude.{◌≡◌, ℕ, ◌+◌, ◌*◌, ◌^◌, ◌<◌, ◌≤◌}
use Rattle.step_counts.specs.Ranges.{IsWithin}
use Rattle.exchange_model.specs.Plans.{MOST_DEPTH, MOST_ITEMS, MOST_READERS, MOST_SEATS}
use Rattle.exchange_calls.specs.declared.sizes.TableSizes.{TableSizes}
use Rattle.exchange_opening.specs.declared.options.Options.{Options}

-- each number is in its range
pub record AreFit (options : Options) : Type 0 where
  pub seats : IsWithin 1 MOST_SEATS options.seats
  pub readers : IsWithin 0 MOST_READERS options.readers
  pub items : IsWithin 1 MOST_ITEMS options.items
  pub depth : IsWithin 0 MOST_DEPTH options.depth

-- how many rows a seat has beside those in the buckets: as many as others can hold, and as many again. So a scan finds
-- about half of them free
abbrev pub spare_for : Options → ℕ
spare_for options = 2 * (options.seats + options.readers)

-- the least number of bits that tells so many rows apart
pub record IsLeastBits (rows bits : ℕ) : Type 0 where
  pub room : rows ≤ 2 ^ bits
  pub least : (fewer : ℕ) → fewer < bits → 2 ^ fewer < rows

-- the sizes of a table with these options
pub record AreSizesFor (options : Options) (sizes : TableSizes) : Type 0 where
  pub seats : sizes.seats ≡ options.seats
  pub readers : sizes.readers ≡ options.readers
  pub items : sizes.items ≡ options.items
  pub depth : sizes.depth ≡ options.depth
  pub spare : sizes.spare ≡ spare_for options
  pub row_bits : IsLeastBits (options.seats * spare_for options + 2 ^ options.depth) sizes.row_bits
