-- Where the pair of a key stands, and what an answer comes with.
use Rattle.std.specs.Prelude.{◌≡◌, ◌⊎◌, ℕ, ◌<◌, ◌≤◌, true, false, List, length, Option, Some, None, slice_index_or, slice_set}
use Rattle.std.specs.List.{remove}
use Rattle.plain_map.specs.declared.keys.Key.{Key}
use Rattle.plain_map.specs.declared.keys.Pair.{Pair}
use Rattle.plain_map.specs.declared.rules.Rules.{Rules}
use Rattle.plain_map.specs.declared.calls.Call.{Call}
use Rattle.plain_map.specs.declared.calls.Reply.{Reply}
use Rattle.plain_map.specs.Keys.{Session, held_in}
use Rattle.plain_map.specs.PlainObject.{insert_reply}
use Rattle.bucket_states.specs.Items.{value_at, without, appended, changed_in, has_place, with_change, reply_in, items_after, overflows}

-- the first pair with the key stands here
pub record IsPlaceOf (key : Key) (items : List Pair) (at : ℕ) : Type 0 where
  pub in_range : at < length items
  pub value : (d : Pair) → value_at key items ≡ Some (held_in (slice_index_or items at d))
  pub rest : without key items ≡ remove items at
  pub other : (d : Pair) (change : Session → Session) →
      changed_in key change items ≡ slice_set items at (with_change change (slice_index_or items at d))

-- a pair of a key that is not there has come, and leaves these items: it goes last, or is refused, or the bucket has to
-- be split first
abbrev pub IsBrought : Rules → ℕ → List Pair → Pair → List Pair → Option Reply → Type 0
IsBrought rules depth items pair left None =
    (has_place rules items ≡ false) × ((depth < rules.depth) × (left ≡ items))
IsBrought rules depth items pair left (Some given) =
    ((has_place rules items ≡ true) ⊎ (rules.depth ≤ depth)) × ((given ≡ insert_reply None (has_place rules items))
    × (left ≡ appended items pair None (has_place rules items)))

-- a call is answered, and leaves these items
pub record IsReply (rules : Rules) (depth : ℕ) (items : List Pair) (call : Call) (left : List Pair)
    (given : Reply) : Type 0 where
  pub fits : overflows rules depth items call ≡ false
  pub reply : given ≡ reply_in rules items call
  pub after : left ≡ items_after rules items call

-- the bucket has to be split first, and the items stay
pub record IsOverflow (rules : Rules) (depth : ℕ) (items : List Pair) (call : Call) (left : List Pair) : Type 0 where
  pub full : overflows rules depth items call ≡ true
  pub same : left ≡ items

-- the one or the other
abbrev pub IsAnswer : Rules → ℕ → List Pair → Call → List Pair → Option Reply → Type 0
IsAnswer rules depth items call left None = IsOverflow rules depth items call left
IsAnswer rules depth items call left (Some given) = IsReply rules depth items call left given
