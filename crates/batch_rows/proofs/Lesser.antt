-- A batch whose keys crowd no prefix of a lesser depth is answered alike by tables of that greatest depth: the plain
-- map gives the same replies, and leaves the same.
use Rattle.std.proofs.Common.{◌≡◌, ℕ, ◌+◌, ◌-◌, ◌*◌, ◌/◌, ◌^◌, ◌≤◌, List, get_or, inl, inr, arith}
use Rattle.std.specs.Prelude.{All}
use Rattle.std.proofs.Math.Pow.{pow_mono}
use Rattle.std.proofs.lemmas.List.Elements.{recursion_from_All}
use Rattle.std.proofs.lemmas.Nat.{mul-le}
use Rattle.step_counts.specs.declared.settings.Settings.{Settings}
use Rattle.step_counts.specs.Made.{IsMadeOf}
use Rattle.step_counts.specs.StepCounts.{bucket_look_steps, bucket_row_words, bucket_try_steps, directory_try_steps, new_leaves, step_bound}
use Rattle.plain_map.specs.declared.keys.Key.{Key}
use Rattle.plain_map.specs.declared.keys.Pair.{Pair}
use Rattle.plain_map.specs.declared.leaves.Leaf.{Leaf}
use Rattle.plain_map.specs.declared.rules.Rules.{Rules}
use Rattle.plain_map.specs.History.{Placed, Legal, sessions_after}
use Rattle.bucket_states.specs.Parts.{HasDistinctKeys, keys_of}
use Rattle.table_model.specs.Closed.{Warranted, sessions_with}
use Rattle.table_model.specs.Needs.{IsAmongKeys}
use Rattle.table_model.specs.Setup.{HaveRoom}
use Rattle.batch_rows.specs.Depths.{InsertsAmong, lesser_rules}
pub use Rattle.batch_rows.proofs.CalmLemmas.{depth_is_within}
use Rattle.batch_rows.proofs.AlikeLemmas.{after_alike, filled_by_calls, filled_by_first, legal_after, mates_below, room_kept}

-- after calls whose inserts are of these keys a table with the lesser depth holds the same
pub same_after : (rules : Rules) (start : ℕ) (keys : List Key) (first : List Pair) (order : List Placed) →
    start ≤ rules.depth → All (IsAmongKeys keys) (keys_of first) → All (InsertsAmong keys) order →
    sessions_after (lesser_rules rules start keys) (sessions_with (lesser_rules rules start keys) first) order
    ≡ sessions_after rules (sessions_with rules first) order
same_after rules start keys first order within among asked =
    after_alike rules start keys within first order (recursion_from_All (IsAmongKeys keys) (keys_of first) among)
    (recursion_from_All (InsertsAmong keys) order asked)

-- their replies are the same
pub same_legal : (rules : Rules) (start : ℕ) (keys : List Key) (first : List Pair) (order : List Placed) →
    start ≤ rules.depth → All (IsAmongKeys keys) (keys_of first) → All (InsertsAmong keys) order →
    Legal (lesser_rules rules start keys) (sessions_with (lesser_rules rules start keys) first) order →
    Legal rules (sessions_with rules first) order
same_legal rules start keys first order within among asked =
    legal_after rules start keys within first order (recursion_from_All (IsAmongKeys keys) (keys_of first) among)
    (recursion_from_All (InsertsAmong keys) order asked)

-- its leaves have the same cause
pub same_warrant : (rules : Rules) (start : ℕ) (keys : List Key) (first : List Pair) (order : List Placed)
    (leaves : List Leaf) →
    start ≤ rules.depth → All (IsAmongKeys keys) (keys_of first) → All (InsertsAmong keys) order →
    Warranted (lesser_rules rules start keys) start first order leaves → Warranted rules start first order leaves
same_warrant rules start keys first order leaves within among asked warranted k d inside deep =
    let leaf = get_or leaves k d in
    let own = recursion_from_All (IsAmongKeys keys) (keys_of first) among in
    elim (warranted k d inside deep) [
      | inl filled ↦ inl (filled_by_first rules start keys within first (leaf.depth - 1) (leaf.prefix / 2) own filled)
      | inr filled ↦ inr (filled_by_calls rules start keys within first order (leaf.depth - 1) (leaf.prefix / 2) own
          (recursion_from_All (InsertsAmong keys) order asked) filled)
    ]

-- pairs of these keys that find room at the greatest depth find it at the lesser one
pub room_below : (rules : Rules) (start : ℕ) (keys : List Key) (first : List Pair) → start ≤ rules.depth →
    All (IsAmongKeys keys) (keys_of first) → HasDistinctKeys first → HaveRoom rules first →
    HaveRoom (lesser_rules rules start keys) first
room_below rules start keys first within among distinct room =
    room_kept rules start keys within first (recursion_from_All (IsAmongKeys keys) (keys_of first) among) distinct room

-- and whatever finds room at a lesser depth finds it at the greatest
pub room_above : (rules : Rules) (start : ℕ) (keys : List Key) (pairs : List Pair) → start ≤ rules.depth →
    HaveRoom (lesser_rules rules start keys) pairs → HaveRoom rules pairs
room_above rules start keys pairs within room front back pair cut =
    omega (arith, room front back pair cut, mates_below rules start keys within pair.key front)

-- a table of a lesser depth has no greater bound of steps
pub bound_falls : (s table : Settings) (depth : ℕ) → IsMadeOf table s.seats s.items depth s.start → depth ≤ s.depth →
    step_bound table ≤ step_bound s
bound_falls s table depth made within =
    let row : bucket_row_words table ≡ bucket_row_words s = omega (arith, made.seats_are, made.items_are) in
    let look : bucket_look_steps table ≡ bucket_look_steps s = omega (arith, row) in
    let try : bucket_try_steps table ≡ bucket_try_steps s = omega (arith, row, made.seats_are) in
    let places : 2 ^ table.depth ≤ 2 ^ s.depth = pow_mono (omega (arith, made.depth_is, within)) in
    let leaves : new_leaves table ≤ new_leaves s =
    mul-le table.seats (table.depth + 1) s.seats (s.depth + 1) (omega (arith, made.seats_are))
    (omega (arith, made.depth_is, within)) in
    let looks : table.seats * bucket_look_steps table ≤ s.seats * bucket_look_steps s =
    mul-le table.seats (bucket_look_steps table) s.seats (bucket_look_steps s) (omega (arith, made.seats_are))
    (omega (arith, look)) in
    let words : new_leaves table * (bucket_row_words table + 1) ≤ new_leaves s * (bucket_row_words s + 1) =
    mul-le (new_leaves table) (bucket_row_words table + 1) (new_leaves s) (bucket_row_words s + 1) leaves
    (omega (arith, row)) in
    let directory : directory_try_steps table ≤ directory_try_steps s =
    omega (arith, places, looks, words, made.seats_are) in
    omega (arith, made.seats_are, look, try, directory)
