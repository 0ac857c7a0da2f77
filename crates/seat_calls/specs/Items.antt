-- A key among items that are gone through one by one.
use Rattle.std.specs.Prelude.{◌≡◌, ℕ, ◌*◌, List, length, if◌then◌else◌, Option, Some, None}
use Rattle.step_counts.specs.declared.TheConstants.{ITEM_WORDS}
use Rattle.plain_map.specs.declared.keys.Key.{Key}
use Rattle.plain_map.specs.declared.keys.Pair.{Pair}
use Rattle.word_rows.specs.BucketWords.{items_of_words}
use Rattle.bucket_states.specs.Items.{number_at, same_key}
use Rattle.table_model.specs.Goes.{after_items}
use Rattle.seat_calls.specs.Going.{Going, later}

-- what was found before, or the value of this pair, if it has the key
abbrev pub or_found : Option ℕ → Key → Pair → Option ℕ
or_found (Some value) key pair = Some value
or_found None key pair = if same_key pair.key key then Some pair.value else None

-- so many items are loaded, and the key was found among them or not
pub record HasLooked (first now : Going) (row count : ℕ) (key : Key) (i : ℕ) (found : Option ℕ) : Type 0 where
  pub words : List ℕ
  pub long : length words ≡ i * ITEM_WORDS
  pub goes : now ≡ later first (length words) (after_items first.setup first.flight row count words)
  pub value : found ≡ number_at key (items_of_words i words)
