-- What a table opens with: its plan, by its sizes, and its words.
use Rattle.std.specs.Prelude.{◌≡◌, ℕ, List, length, slice_index}
use Rattle.hash_bits.specs.declared.hashing.Hashing.{Hashing}
use Rattle.exchange_model.specs.Plans.{Plan}
use Rattle.exchange_model.specs.Words.{At, IsAt, Store, held_at, place, word_count}
use Rattle.exchange_model.specs.Worlds.{opening_store}
use Rattle.exchange_calls.specs.declared.sizes.TableSizes.{TableSizes}

-- the plan of a table of these sizes
abbrev pub plan_of : TableSizes → Hashing → Plan
plan_of sizes hashing = record {
  settings = record {
    seats = sizes.seats;
    readers = sizes.readers;
    items = sizes.items;
    depth = sizes.depth;
  };
  hashing = hashing;
  spare = sizes.spare;
  row_bits = sizes.row_bits;
}

-- each word of the table stands in its place
abbrev pub HasWords : Plan → List ℕ → Store → Type 0
HasWords plan words store = (at : At) → IsAt plan at → slice_index words (place plan at) ≡ held_at store at

-- the words of the opening
pub record IsOpened (plan : Plan) (words : List ℕ) : Type 0 where
  pub count : length words ≡ word_count plan
  pub are : HasWords plan words (opening_store plan)
