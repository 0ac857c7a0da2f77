-- A bucket row with one thing changed.
use Rattle.std.specs.Prelude.{ℕ, ◌≡◌, ◌≤◌, true, List, [], ◌∷◌, ◌++◌, length, Option, Some, slice_set, slice_index_or}
use Rattle.std.specs.List.{remove}
use Rattle.plain_map.specs.declared.calls.Reply.{Reply}
use Rattle.plain_map.specs.declared.keys.Pair.{Pair}
use Rattle.plain_map.specs.Keys.{no_pair}
use Rattle.plain_map.specs.Rows.{BucketContent}
use Rattle.step_counts.specs.declared.settings.Settings.{Settings}
use Rattle.plain_map.specs.declared.rules.Rules.{Rules}
use Rattle.plain_map.specs.declared.calls.Call.{Call}
use Rattle.bucket_states.specs.States.{BucketState, row_of_state, state_in_row}
use Rattle.bucket_states.specs.declared.ops.Op.{Op}
use Rattle.bucket_states.specs.Change.{change}
use Rattle.bucket_states.specs.Places.{IsAnswer, IsBrought}
use Rattle.plain_map.specs.Updates.{IsUpdateReply}
use Rattle.word_rows.specs.BucketWords.{AreItems, words_of_bucket}

-- a frozen bucket
abbrev pub with_frozen : BucketContent → BucketContent
with_frozen b = record b { frozen = true }

-- a bucket that was made from the row with this number
abbrev pub with_base : ℕ → BucketContent → BucketContent
with_base base b = record b { base = Some base }

-- a bucket with other items
abbrev pub with_items : List Pair → BucketContent → BucketContent
with_items items b = record b { items = items }

-- a bucket with one item more, which goes last
abbrev pub with_pair : Pair → BucketContent → BucketContent
with_pair pair b = with_items (b.items ++ pair ∷ []) b

-- a bucket without the item at a place
abbrev pub without_place : ℕ → BucketContent → BucketContent
without_place at b = with_items (remove b.items at) b

-- an item with so many bytes
abbrev pub bytes_set : Pair → (bytes : ℕ) → Pair
bytes_set pair bytes = record pair { bytes = bytes }

-- a bucket with so many bytes in the item at a place
abbrev pub with_bytes : (at bytes : ℕ) → BucketContent → BucketContent
with_bytes at bytes b = with_items (slice_set b.items at (bytes_set (slice_index_or b.items at no_pair) bytes)) b

-- an item with another value
abbrev pub value_set : Pair → (value : ℕ) → Pair
value_set pair value = record pair { value = value }

-- a bucket with another value in the item at a place
abbrev pub with_value : (at value : ℕ) → BucketContent → BucketContent
with_value at value b = with_items (slice_set b.items at (value_set (slice_index_or b.items at no_pair) value)) b

-- a bucket with a later number and reply of a seat
abbrev pub with_answer : (seat number : ℕ) → Reply → BucketContent → BucketContent
with_answer seat number reply b = record b {
  applied = slice_set b.applied seat number;
  replies = slice_set b.replies seat (Some reply);
}

-- a bucket whose words have their places
pub record HasPlaces (settings : Settings) (b : BucketContent) : Type 0 where
  pub depth : b.depth ≤ settings.depth
  pub items : AreItems settings.items b.items
  pub applied : length b.applied ≡ settings.seats
  pub replies : length b.replies ≡ settings.seats

-- the words are those of such a bucket
pub record Spell (settings : Settings) (b : BucketContent) (row : List ℕ) : Type 0 where
  pub places : HasPlaces settings b
  pub words : row ≡ words_of_bucket settings b

-- the words of a bucket become those of the changed one
abbrev pub Turns : Settings → (BucketContent → BucketContent) → List ℕ → List ℕ → Type 0
Turns settings f old new = (b : BucketContent) → Spell settings b old → new ≡ words_of_bucket settings (f b)

-- a call is answered, and the words have the items that it leaves
pub record IsAnsweredIn (rules : Rules) (settings : Settings) (call : Call) (b : BucketContent) (row : List ℕ)
    (given : Option Reply) : Type 0 where
  pub left : List Pair
  pub answer : IsAnswer rules b.depth b.items call left given
  pub reply : IsUpdateReply given
  pub spelled : Spell settings (with_items left b) row

-- a pair of a key that is not there has come, and the words have the items that are left
pub record IsBroughtIn (rules : Rules) (settings : Settings) (pair : Pair) (b : BucketContent) (row : List ℕ)
    (given : Option Reply) : Type 0 where
  pub left : List Pair
  pub brought : IsBrought rules b.depth b.items pair left given
  pub reply : IsUpdateReply given
  pub spelled : Spell settings (with_items left b) row

-- the words are those of some bucket
abbrev pub IsSpelled : Settings → List ℕ → Type 0
IsSpelled settings row = (b : BucketContent) × Spell settings b row

-- what becomes of the bucket that the words spell
abbrev pub Becomes : Settings → (BucketState → BucketState) → List ℕ → List ℕ → Type 0
Becomes settings f old new = (b : BucketContent) → Spell settings b old →
    Spell settings (row_of_state b.base (f (state_in_row b))) new

-- they become the bucket after all announced calls, made from the row with this number
abbrev pub BecomesChanged : Settings → Rules → List (Option Op) → ℕ → List ℕ → List ℕ → Type 0
BecomesChanged settings rules ops base old new = (b : BucketContent) → Spell settings b old →
    Spell settings (row_of_state (Some base) (change rules ops (state_in_row b))) new
