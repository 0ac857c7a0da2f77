-- The sessions of each class by themselves.
use Rattle.std.specs.Prelude.{◌≡◌, ◌≢◌, ℕ, ◌^◌, ◌<◌, List, length, slice_index_or, None}
use Rattle.std.specs.FinMap.{empty, get}
use Rattle.plain_map.specs.declared.keys.Key.{Key}
use Rattle.plain_map.specs.declared.rules.Rules.{Rules}
use Rattle.plain_map.specs.PlainObject.{Sessions, class_of}
use Rattle.plain_map.specs.Locality.{AgreeIn}

-- the rules for a class by itself, where all keys are of one class
abbrev pub one_class : Rules → Rules
one_class rules = record { items = rules.items; depth = 0; hashing = rules.hashing }

-- what the class holds
abbrev pub row_at : List Sessions → (class : ℕ) → Sessions
row_at rows class = slice_index_or rows class empty

-- there is a row for each class
abbrev pub HasEachClass : List Sessions → Rules → Type 0
HasEachClass rows rules = length rows ≡ 2 ^ rules.depth

-- each class holds its own keys of these sessions, and no others
pub record Holds (rows : List Sessions) (rules : Rules) (sessions : Sessions) : Type 0 where
  pub many : HasEachClass rows rules
  pub agree : (class : ℕ) → class < 2 ^ rules.depth → AgreeIn rules class (row_at rows class) sessions
  pub own : (class : ℕ) (key : Key) → class < 2 ^ rules.depth → class_of rules key ≢ class →
      get (row_at rows class) key ≡ None
