-- What a table is opened with.
use Rattle.std.specs.Prelude.{◌≡◌, ℕ, ◌+◌, ◌<◌, ◌≤◌, ◌==◌, List, ◌∷◌, ◌++◌, length, count_by, All}
use Rattle.hash_bits.specs.declared.hashing.Hashing.{Hashing}
use Rattle.step_counts.specs.declared.settings.Settings.{Settings}
use Rattle.step_counts.specs.declared.rows.SeatRows.{SeatRows}
use Rattle.plain_map.specs.declared.full.FullKind.{FullKind}
use Rattle.plain_map.specs.declared.keys.Key.{Key}
use Rattle.plain_map.specs.declared.keys.Pair.{Pair}
use Rattle.plain_map.specs.declared.rules.Rules.{Rules}
use Rattle.plain_map.specs.PlainObject.{class_of}
use Rattle.plain_map.specs.Updates.{IsSmallPair}
use Rattle.word_rows.specs.Shape.{Shape, IsShape, AreBelow, of_kind, first_number}
use Rattle.bucket_states.specs.Parts.{HasDistinctKeys}
use Rattle.plain_map.specs.Keys.{IsKey}

-- the settings and each seat's ranges, the hashing, and the pairs that the table begins with
pub record Setup : Type 0 where
  pub shape : Shape
  pub hashing : Hashing
  pub first : List Pair

abbrev pub settings_of : Setup → Settings
settings_of setup = setup.shape.settings

-- how many seats there are
abbrev pub seats_of : Setup → ℕ
seats_of setup = setup.shape.settings.seats

-- the room of a bucket, the greatest depth and the hashing
abbrev pub rules_of : Setup → Rules
rules_of setup = record {
  items = setup.shape.settings.items;
  depth = setup.shape.settings.depth;
  hashing = setup.hashing;
}

-- the number that the seat uses next, where it has published so much
unfoldable pub next_number : Setup → (seat : ℕ) → FullKind → (used : SeatRows) → ℕ
next_number setup seat kind used = first_number setup.shape seat kind + of_kind kind used

-- a pair that can be kept
pub record IsPair (pair : Pair) : Type 0 where
  pub key : IsKey pair.key
  pub small : IsSmallPair pair

-- how many of these pairs are in the class of the key
abbrev pub classmates : Rules → Key → List Pair → ℕ
classmates rules key pairs = count_by (λ other. class_of rules other.key == class_of rules key) pairs

-- each pair finds fewer earlier ones in its class than a bucket has room for
abbrev pub HaveRoom : Rules → List Pair → Type 0
HaveRoom rules first =
    (front back : List Pair) (pair : Pair) → first ≡ front ++ pair ∷ back →
    classmates rules pair.key front < rules.items

-- the pair at this place is the first that finds no room
pub record IsFirstWithoutRoom (rules : Rules) (first : List Pair) (place : ℕ) : Type 0 where
  pub front : List Pair
  pub pair : Pair
  pub back : List Pair
  pub cut : first ≡ front ++ pair ∷ back
  pub stands : length front ≡ place
  pub before : HaveRoom rules front
  pub full : rules.items ≤ classmates rules pair.key front

-- a table can be opened so: it has ranges for each seat, and its first pairs have distinct keys and find room
pub record IsSetup (setup : Setup) : Type 0 where
  pub shape : IsShape setup.shape
  pub ranges : All (AreBelow setup.shape.limit) setup.shape.ranges
  pub pairs : All IsPair setup.first
  pub distinct : HasDistinctKeys setup.first
  pub room : HaveRoom (rules_of setup) setup.first
