-- What leaves keep of their room: through a split, through an answer, and where one more stands among them.
use Rattle.std.proofs.Common.{◌≡◌, ℕ, suc, ◌+◌, ◌*◌, ◌^◌, ◌<◌, ◌≤◌, Bool, true, false, List, [], ◌∷◌, length, take, drop, Option, Some, None, All, sym, ap, subst, ◌∙◌, arith}
use Rattle.std.specs.List.{insert}
use Rattle.std.proofs.lemmas.Bool.{ltb-true}
use Rattle.std.proofs.lemmas.List.{length-append}
use Rattle.std.proofs.lemmas.List.Elements.{All-append, All-cons, All-drop, All-take}
use Rattle.plain_map.specs.declared.keys.Key.{Key}
use Rattle.plain_map.specs.declared.keys.Pair.{Pair}
use Rattle.plain_map.specs.declared.rules.Rules.{Rules}
use Rattle.plain_map.specs.declared.calls.Call.{Call}
use Rattle.plain_map.specs.declared.calls.Call.TheVariants.{Insert, Remove, Lookup, Tally, Count, Put}
use Rattle.plain_map.specs.Keys.{Session, pair_of}
use Rattle.plain_map.specs.PlainObject.{counted_session, grown, new_session, revalued}
use Rattle.bucket_states.specs.declared.bucket.Bucket.{Bucket}
use Rattle.bucket_states.specs.declared.ops.Op.{Op}
use Rattle.bucket_states.specs.Items.{value_at, appended, has_place, revised_in, items_after}
use Rattle.bucket_states.specs.Halves.{half}
use Rattle.bucket_states.specs.States.{BucketState, state_of, HasRoom, KeepsRoom, KeepsShape}
use Rattle.bucket_states.specs.Change.{answered}
use Rattle.bucket_states.proofs.ItemLemmas.{length-changed, length-without}
use Rattle.dir_states.specs.declared.leaves.Table.{Table}
use Rattle.dir_states.specs.declared.values.NewLeaf.{NewLeaf}
use Rattle.dir_states.specs.Fit.{CanSplit, IsFit}
use Rattle.dir_states.specs.Rooms.{IsMade, IsTable}

-- ---- how many items there are after a call

appended-few : (rules : Rules) (items : List Pair) (pair : Pair) (held : Option Session) (place : Bool) (n : ℕ) →
    length items ≤ n → (place ≡ true → length items < n)
    → length (appended items pair held place) ≤ n
appended-few rules items pair (Some held) place n few more = few
appended-few rules items pair None true n few more =
    (let long = length-append items (pair ∷ []) in omega (arith, long, more refl))
  where
    refl : true ≡ true
    refl = cc
appended-few rules items pair None false n few more = few

revised-few : (rules : Rules) (items : List Pair) (key : Key) (new : Session) (change : Session → Session)
    (held : Option Session) (place : Bool) (n : ℕ) → length items ≤ n → (place ≡ true → length items < n) →
    length (revised_in items key new change held place) ≤ n
revised-few rules items key new change (Some held) place n few more =
    omega (arith, length-changed key change items, few)
revised-few rules items key new change None true n few more =
    appended-few rules items (pair_of (key, new)) None true n few more
revised-few rules items key new change None false n few more = few

-- no more than there is room for
pub items_after-few : (rules : Rules) (items : List Pair) (call : Call) (n : ℕ) → length items ≤ n →
    rules.items ≤ n → length (items_after rules items call) ≤ n
unfolding items_after
items_after-few rules items (Insert key value) n few room =
    appended-few rules items (pair_of (key, new_session value)) (value_at key items) (has_place rules items) n few
    (λ e. omega (arith, ltb-true (length items) rules.items e, room))
items_after-few rules items (Remove key) n few room = omega (arith, length-without key items, few)
items_after-few rules items (Lookup key) n few room = few
items_after-few rules items (Tally key amount) n few room =
    omega (arith, length-changed key (λ held. grown held amount) items, few)
items_after-few rules items (Count key value amount) n few room =
    revised-few rules items key (counted_session value amount) (λ held. grown held amount) (value_at key items)
    (has_place rules items) n few (λ e. omega (arith, ltb-true (length items) rules.items e, room))
items_after-few rules items (Put key value) n few room =
    revised-few rules items key (new_session value) (λ held. revalued held value) (value_at key items)
    (has_place rules items) n few (λ e. omega (arith, ltb-true (length items) rules.items e, room))

-- ---- a leaf that was made

-- the room of a bucket that keeps it
pub kept-room : (seats items : ℕ) (was now : Bucket) → HasRoom seats items was → KeepsRoom was now →
    HasRoom seats items now
kept-room seats items was now room keeps = record {
  of_items = omega (arith, room.of_items, keeps.of_items);
  of_applied = omega (arith, room.of_applied, keeps.of_applied);
  of_replies = omega (arith, room.of_replies, keeps.of_replies);
}

module _ (table : Table) where
  -- one of the two parts of a bucket that can be split
  pub IsMade-half : (bit : ℕ) (from : Option ℕ) (bucket was part : Bucket) → bit < 2 →
      CanSplit table.rules.depth table.seats (state_of bucket)
      → length bucket.items.items ≤ table.items → state_of part ≡ half table.rules bit (state_of bucket) →
      length part.items.items ≤ length bucket.items.items
      → HasRoom table.seats table.items was → KeepsRoom was part → IsMade table (record { from = from; bucket = part })
  unfolding half
  IsMade-half bit from bucket was part small can few is fewer room keeps = record {
    fit = subst (λ (s : BucketState). IsFit table.rules.depth table.seats (record { from = from; bucket = s }))
        (sym is) (record {
          depth = omega (arith, can.depth);
          prefix = below;
          applied = can.applied;
          replies = can.replies;
        });
    few = omega (arith, few, fewer);
    room = kept-room table.seats table.items was part room keeps;
  }
    where
      below : 2 * (state_of bucket).prefix + bit < 2 ^ suc (state_of bucket).depth
      below = (let whole : (state_of bucket).prefix < 2 ^ (state_of bucket).depth = can.prefix in
          omega (arith, whole, small))

  -- a leaf in which an op was answered
  pub IsMade-answered : (seat : ℕ) (op : Op) (leaf : NewLeaf) (part : Bucket) → IsTable table → IsMade table leaf
      → state_of part ≡ answered table.rules (state_of leaf.bucket) seat op →
      KeepsShape (state_of leaf.bucket) (state_of part) → KeepsRoom leaf.bucket part
      → IsMade table (record { from = leaf.from; bucket = part })
  IsMade-answered seat op leaf part is_table made is shape keeps = record {
    fit = record {
      depth = omega (arith, made.fit.depth, shape.depth);
      prefix = subst (λ p. p < 2 ^ part.depth) (sym shape.prefix)
          (subst (λ d. leaf.bucket.prefix < 2 ^ d) (sym shape.depth) made.fit.prefix);
      applied = shape.applied ∙ made.fit.applied;
      replies = shape.replies ∙ made.fit.replies;
    };
    few =
        (let items : part.items.items ≡ items_after table.rules leaf.bucket.items.items op.call = ap
        (λ (s : BucketState). s.items) is in
        subst (λ l. length l ≤ table.items) (sym items)
        (items_after-few table.rules leaf.bucket.items.items op.call table.items made.few is_table.items));
    room = kept-room table.seats table.items leaf.bucket part made.room keeps;
  }

-- ---- one more among all

-- what holds of each and of one more holds of each, where that stands among them
pub All-insert : {X : Type 0} (P : X → Type 0) (xs : List X) (at : ℕ) (x : X) → All P xs → P x → All P (insert xs at x)
All-insert P xs at x all p = All-append P (take at xs) (x ∷ drop at xs) (All-take P at xs all)
    (All-cons P x (drop at xs) p (All-drop P at xs all))
