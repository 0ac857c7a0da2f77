-- A bucket as a part of the sessions: those whose keys have its prefix.
use Rattle.std.specs.Prelude.{◌≡◌, ◌≢◌, ℕ, ◌≤◌, false, List, map, length, Some}
use Rattle.std.specs.List.{IsDistinct}
use Rattle.std.specs.FinMap.{get}
use Rattle.plain_map.specs.declared.keys.Key.{Key}
use Rattle.plain_map.specs.declared.keys.Pair.{Pair}
use Rattle.plain_map.specs.declared.rules.Rules.{Rules}
use Rattle.plain_map.specs.declared.calls.Call.{Call}
use Rattle.plain_map.specs.Calls.{key_in}
use Rattle.plain_map.specs.Keys.{Session}
use Rattle.plain_map.specs.PlainObject.{InRange, Sessions, reply_of, map_after}
use Rattle.bucket_states.specs.Items.{prefix_of, same_key, value_at, reply_in, items_after, overflows}

-- the keys of the pairs
abbrev pub keys_of : List Pair → List Key
keys_of items = map (λ pair. pair.key) items

-- no key stands twice
abbrev pub HasDistinctKeys : List Pair → Type 0
HasDistinctKeys items = IsDistinct same_key (keys_of items)

-- each key that has a value here has the prefix
abbrev pub HasPrefix : Rules → (prefix depth : ℕ) → List Pair → Type 0
HasPrefix rules prefix depth items = (key : Key) (held : Session) → value_at key items ≡ Some held →
    prefix_of rules depth key ≡ prefix

-- the items are, in some order, the pairs of the sessions whose keys have the prefix
pub record HoldsPart (rules : Rules) (prefix depth : ℕ) (items : List Pair) (sessions : Sessions) : Type 0 where
  pub distinct : HasDistinctKeys items
  pub inside : HasPrefix rules prefix depth items
  pub same : (key : Key) → prefix_of rules depth key ≡ prefix → value_at key items ≡ get sessions key

-- a bucket of this depth with these items can be asked by these rules
pub record CanAnswer (rules : Rules) (depth : ℕ) (items : List Pair) : Type 0 where
  pub range : InRange rules
  pub within : depth ≤ rules.depth
  pub few : length items ≤ rules.items

-- what the items answer and become is what the plain object answers and becomes
pub record AnswersAlike (rules : Rules) (prefix depth : ℕ) (items : List Pair) (sessions : Sessions)
    (call : Call) : Type 0 where
  pub reply : reply_in rules items call ≡ reply_of rules sessions call
  pub part : HoldsPart rules prefix depth (items_after rules items call) (map_after rules sessions call)
  pub few : length (items_after rules items call) ≤ rules.items

-- the items of a bucket answer as the plain object does, where the call does not overflow the bucket
abbrev pub LocalAnswers : Type 0
LocalAnswers =
    (rules : Rules) (prefix depth : ℕ) (items : List Pair) (sessions : Sessions) (call : Call) →
    CanAnswer rules depth items → HoldsPart rules prefix depth items sessions →
    prefix_of rules depth (key_in call) ≡ prefix →
    overflows rules depth items call ≡ false → AnswersAlike rules prefix depth items sessions call

-- a call leaves the other parts as they are
abbrev pub OtherPartsStay : Type 0
OtherPartsStay =
    (rules : Rules) (prefix depth : ℕ) (items : List Pair) (sessions : Sessions) (call : Call) →
    HoldsPart rules prefix depth items sessions → prefix_of rules depth (key_in call) ≢ prefix →
    HoldsPart rules prefix depth items (map_after rules sessions call)
