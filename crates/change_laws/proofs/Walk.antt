-- The walk over the seats: what the leaves of a change are at each stage.
use Rattle.std.proofs.Common.{◌≡◌, ℕ, suc, ◌-◌, ◌/◌, ◌^◌, ◌<◌, ◌≤◌, ◌⊎◌, inl, inr, Bool, true, false, cond, List, [], ◌∷◌, Option, Some, None, refl, sym, ap, ◌∙◌, arith}
use Rattle.std.specs.Prelude.{nat_lt, ◌==◌, slice_index}
use Rattle.std.specs.Option.{option_map}
use Rattle.std.specs.List.{list_any, All, AllByRecursion as Each}
use Rattle.std.proofs.lemmas.Bool.{cases_lt, and_parts, eqb-true, ltb-true}
use Rattle.std.proofs.lemmas.List.{get_or_past}
use Rattle.std.proofs.lemmas.List.Elements.{recursion_from_All}
use Rattle.hash_bits.specs.Prefix.{first_bits}
use Rattle.hash_bits.proofs.PrefixLemmas.{first_bits-within}
use Rattle.plain_map.specs.declared.keys.Key.{Key}
use Rattle.plain_map.specs.declared.rules.Rules.{Rules}
use Rattle.plain_map.specs.declared.calls.Reply.{Reply}
use Rattle.plain_map.specs.Calls.{key_in}
use Rattle.bucket_states.specs.declared.ops.Op.{Op}
use Rattle.bucket_states.specs.Items.{prefix_of, reply_in}
use Rattle.bucket_states.specs.States.{BucketState}
use Rattle.bucket_states.specs.Values.{AreUpdates, IsSmall}
use Rattle.bucket_states.specs.Laws.{IsGood, IsUntouched, Announces, applied_of, reply_at}
use Rattle.table_model.specs.Directories.{DirectoryState, bucket_of}
use Rattle.table_model.specs.Leaves.{NewLeaf, is_in, leaf_of, split_for}
use Rattle.table_model.specs.DirectoryChange.{LoadedBucket, is_bucket, loaded_of, is_frozen_without, comes_from, with_parts, leaves_after_seat}
use Rattle.table_model.specs.DirectoryLaws.{StandsIn, CanChange, takes_hash}
use Rattle.table_model.specs.DirectoryLaws.{IsLeafOf}
use Rattle.list_laws.proofs.Totals.{many, each-alike, found-each}
use Rattle.change_laws.proofs.Bits.{hash_in, hash_in-small, is_in-takes}
use Rattle.hash_bits.proofs.FewerBits.{first_bits-fewer}
use Rattle.change_laws.proofs.Splits.{Apart, Shallow}
use Rattle.list_laws.proofs.Options.{some_same, none_some}

-- ---- what is known of the leaves

-- the seat's op was taken: its number and its reply stand in the leaf
pub record Took (rules : Rules) (directory : DirectoryState) (ops : List (Option Op)) (replies : ℕ → Option Reply)
    (seat : ℕ) (leaf : NewLeaf) (l : LoadedBucket) (q : ℕ) : Type 0 where
  pub before : q < seat
  pub op : Op
  pub announced : Announces ops q op
  pub for_it : bucket_of rules directory (key_in op.call) ≡ l.bucket
  pub above : applied_of l.state q < op.number
  pub number : applied_of leaf.bucket q ≡ op.number
  pub reply : reply_at leaf.bucket q ≡ replies q

-- one leaf, where the seats before this one have been gone through
pub record IsLeaf (rules : Rules) (seats : ℕ) (directory : DirectoryState) (loaded : List LoadedBucket)
    (ops : List (Option Op)) (replies : ℕ → Option Reply) (seat : ℕ) (leaf : NewLeaf) : Type 0 where
  pub l : LoadedBucket
  pub is : IsLeafOf rules seats loaded leaf l
  pub each : (q : ℕ) → IsUntouched l.state leaf.bucket q ⊎ Took rules directory ops replies seat leaf l q
  pub own : (q : ℕ) (op : Op) → q < seat → Announces ops q op → is_frozen_without q op l ≡ true →
      is_in rules (key_in op.call) leaf.bucket ≡ true
      → (applied_of leaf.bucket q ≡ op.number) × (reply_at leaf.bucket q ≡ replies q)
  pub small : AreUpdates ops → All (λ l. IsSmall l.state) loaded → IsSmall leaf.bucket

-- and all leaves
pub record Walk (rules : Rules) (seats : ℕ) (directory : DirectoryState) (loaded : List LoadedBucket)
    (ops : List (Option Op)) (replies : ℕ → Option Reply) (seat : ℕ) (leaves : List NewLeaf) : Type 0 where
  pub each : Each (IsLeaf rules seats directory loaded ops replies seat) leaves
  pub cover : (h : ℕ) → h < 2 ^ 64 → many (takes_hash h) leaves ≡ cond
      (list_any (comes_from (slice_index directory.entries (first_bits h directory.depth))) leaves) 1 0
  pub twos : (b : ℕ) → 1 ≤ many (comes_from b) leaves → 2 ≤ many (comes_from b) leaves
  pub done : (q : ℕ) (op : Op) (l : LoadedBucket) → q < seat → Announces ops q op →
      loaded_of loaded (bucket_of rules directory (key_in op.call)) ≡ Some l → is_frozen_without q op l ≡ true
      → list_any (comes_from l.bucket) leaves ≡ true

-- the reply that an op gets in the leaf of its key
abbrev pub given : Rules → Op → List NewLeaf → Option Reply
given rules op leaves =
    option_map (λ own. reply_in rules own.bucket.items op.call) (leaf_of rules (key_in op.call) leaves)

-- the replies with that of this seat's op
abbrev pub replies_with : Rules → (seat : ℕ) → Op → List NewLeaf → (ℕ → Option Reply) → ℕ → Option Reply
replies_with rules seat op leaves replies q = cond (q == seat) (given rules op leaves) (replies q)

-- the leaves in which an op of this bucket is answered
abbrev pub leaves_for : Rules → Op → LoadedBucket → List NewLeaf → List NewLeaf
leaves_for rules op l leaves = split_for rules op.call rules.depth (with_parts rules l leaves)

-- the replies after an op whose bucket was loaded so
abbrev pub replies_in : Rules → (seat : ℕ) → Op → List NewLeaf → (ℕ → Option Reply) → Option LoadedBucket → ℕ →
    Option Reply
replies_in rules seat op leaves replies None = replies
replies_in rules seat op leaves replies (Some l) =
    cond (is_frozen_without seat op l) (replies_with rules seat op (leaves_for rules op l leaves) replies) replies

-- and after a seat
abbrev pub replies_after_seat : Rules → DirectoryState → List LoadedBucket → (seat : ℕ) → Option Op → List NewLeaf →
    (ℕ → Option Reply) → ℕ → Option Reply
replies_after_seat rules directory loaded seat None leaves replies = replies
replies_after_seat rules directory loaded seat (Some op) leaves replies =
    replies_in rules seat op leaves replies (loaded_of loaded (bucket_of rules directory (key_in op.call)))

-- the replies that the seats get
abbrev pub replies_after : Rules → DirectoryState → List LoadedBucket → (seat : ℕ) → List (Option Op) → List NewLeaf →
    (ℕ → Option Reply) → ℕ → Option Reply
replies_after rules directory loaded seat [] leaves replies = replies
replies_after rules directory loaded seat (op ∷ ops) leaves replies =
    replies_after rules directory loaded (suc seat) ops (leaves_after_seat rules directory loaded seat op leaves)
    (replies_after_seat rules directory loaded seat op leaves replies)

-- ---- what was loaded

module _ (rules : Rules) (seats : ℕ) (directory : DirectoryState) (loaded : List LoadedBucket)
    (ops : List (Option Op)) (can : CanChange rules seats directory loaded ops) where
  -- the bucket that the directory names for a hash
  abbrev pub was : ℕ → ℕ
  was h = slice_index directory.entries (first_bits h directory.depth)

  -- a loaded bucket has the number by which it is found
  pub loaded-is : (b : ℕ) (l : LoadedBucket) → loaded_of loaded b ≡ Some l → l.bucket ≡ b
  loaded-is b l e = eqb-true l.bucket b (found-each (λ _. Unit {0}) (is_bucket b) loaded l (all loaded) e).1
    where
      all : (xs : List LoadedBucket) → Each (λ _. Unit {0}) xs
      all [] = tt
      all (x ∷ xs) = (tt, all xs)

  -- it is good
  pub loaded-good : (b : ℕ) (l : LoadedBucket) → loaded_of loaded b ≡ Some l → IsGood rules seats l.state
  loaded-good b l e = (found-each (λ (l : LoadedBucket). IsGood rules seats l.state) (is_bucket b) loaded l
      (recursion_from_All _ loaded can.good) e).0

  -- it stands in the directory
  pub loaded-stands : (b : ℕ) (l : LoadedBucket) → loaded_of loaded b ≡ Some l → StandsIn directory l.bucket l.state
  loaded-stands b l e = (found-each (λ (l : LoadedBucket). StandsIn directory l.bucket l.state) (is_bucket b) loaded l
      (recursion_from_All _ loaded can.stand) e).0

  -- it is small
  pub loaded-small : All (λ l. IsSmall l.state) loaded → (b : ℕ) (l : LoadedBucket) → loaded_of loaded b ≡ Some l →
      IsSmall l.state
  loaded-small small b l e = (found-each (λ (l : LoadedBucket). IsSmall l.state) (is_bucket b) loaded l
      (recursion_from_All _ loaded small) e).0

  -- a bucket that stands has the hashes of its prefix
  pub stands-hash : (b : ℕ) (state : BucketState) (h : ℕ) → StandsIn directory b state → h < 2 ^ 64 →
      (was h ≡ b → first_bits h state.depth ≡ state.prefix) × (first_bits h state.depth ≡ state.prefix → was h ≡ b)
  stands-hash b state h stand small =
      let shallow : directory.depth ≤ 64 = omega (arith, can.within, can.range.depth) in
      let inside = first_bits-within h directory.depth small shallow in
      let fewer = first_bits-fewer h directory.depth state.depth stand.shallow shallow in
      let places = stand.places (first_bits h directory.depth) inside in
      (λ e. sym fewer ∙ places.0 e, λ e. places.1 (fewer ∙ e))

  -- the hash of a leaf is one of its bucket
  pub leaf-was : (leaf : NewLeaf) (l : LoadedBucket) (h : ℕ) → IsLeafOf rules seats loaded leaf l → h < 2 ^ 64 →
      takes_hash h leaf ≡ true → was h ≡ l.bucket
  leaf-was leaf l h is small e =
      let deep : leaf.bucket.depth ≤ 64 = omega (arith, is.good.within, can.range.depth) in
      let taken : first_bits h leaf.bucket.depth ≡ leaf.bucket.prefix =
      eqb-true (first_bits h leaf.bucket.depth) leaf.bucket.prefix e in
      let of_bucket : first_bits h l.state.depth ≡ l.state.prefix =
      sym (first_bits-fewer h leaf.bucket.depth l.state.depth (omega (arith, is.deeper)) deep)
      ∙ ap (λ z. z / 2 ^ (leaf.bucket.depth - l.state.depth)) taken ∙ is.prefix in
      (stands-hash l.bucket l.state h (loaded-stands l.bucket l is.found) small).1 of_bucket

  -- the bucket of a key is that of its hash
  pub key-was : (key : Key) → bucket_of rules directory key ≡ was (hash_in rules key)
  unfolding prefix_of
  key-was key = refl

  -- and a key of a leaf is one of its bucket
  pub leaf-key : (leaf : NewLeaf) (l : LoadedBucket) (key : Key) → IsLeafOf rules seats loaded leaf l →
      is_in rules key leaf.bucket ≡ true → bucket_of rules directory key ≡ l.bucket
  leaf-key leaf l key is e = key-was key
      ∙ leaf-was leaf l (hash_in rules key) is (hash_in-small rules key) (sym (is_in-takes rules key leaf) ∙ e)

  -- so that was loaded, where the op's bucket was
  pub leaf-loaded : (leaf : NewLeaf) (l k : LoadedBucket) (key : Key) → IsLeafOf rules seats loaded leaf l →
      is_in rules key leaf.bucket ≡ true → loaded_of loaded (bucket_of rules directory key) ≡ Some k → l ≡ k
  leaf-loaded leaf l k key is e at =
      some_same (sym is.found ∙ ap (loaded_of loaded) (sym (leaf-key leaf l key is e)) ∙ at)

  -- who announces is a seat
  pub announced-seat : (seat : ℕ) (op : Op) → Announces ops seat op → seat < seats
  announced-seat seat op e = by (cases_lt seat seats)
    where
      by : (seat < seats) ⊎ (seats ≤ seat) → seat < seats
      by (inl lt) = lt
      by (inr ge) = absurd (none_some (sym (get_or_past ops seat None (omega (arith, can.each_seat, ge))) ∙ e))

  -- a bucket that was loaded frozen without the op, part by part
  pub frozen-parts : (seat : ℕ) (op : Op) (l : LoadedBucket) → is_frozen_without seat op l ≡ true →
      (l.state.frozen ≡ true) × (applied_of l.state seat < op.number)
  frozen-parts seat op l e = (let parts = and_parts l.state.frozen
      (nat_lt (slice_index l.state.applied seat) op.number) e in
      (parts.0, ltb-true (slice_index l.state.applied seat) op.number parts.1))

  -- no two leaves take one hash
  pub apart : (replies : ℕ → Option Reply) (seat : ℕ) (leaves : List NewLeaf) →
      Walk rules seats directory loaded ops replies seat leaves → Apart rules leaves
  apart replies seat leaves walk = record {
    one = λ h small. at_most (list_any (comes_from (was h)) leaves) (many (takes_hash h) leaves) (walk.cover h small);
    shallow = each-alike (IsLeaf rules seats directory loaded ops replies seat) (Shallow rules)
        (λ leaf k. k.is.good.within) leaves walk.each;
  }
    where
      at_most : (b : Bool) (n : ℕ) → n ≡ cond b 1 0 → n ≤ 1
      at_most true n e = omega (arith, e)
      at_most false n e = omega (arith, e)
