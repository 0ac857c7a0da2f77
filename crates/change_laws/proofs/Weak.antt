-- The laws of the directory change that speak of the leaves: whose hashes they take, what they keep, and how many there
-- are.
use Rattle.std.proofs.Common.{◌≡◌, ℕ, ◌<◌, ◌≤◌, ◌⊎◌, inl, inr, Bool, true, false, cond, List, [], ◌∷◌, Option, Some, None, refl, sym, ap, ◌∙◌, subst, arith}
use Rattle.std.specs.Prelude.{◌≢◌, nat_lt, ◌&&◌, slice_index, IsSomeAnd}
use Rattle.std.specs.List.{list_any}
use Rattle.std.proofs.lemmas.Bool.{and_from, ltb-false, lt-ltb}
use Rattle.plain_map.specs.declared.keys.Key.{Key}
use Rattle.plain_map.specs.declared.rules.Rules.{Rules}
use Rattle.plain_map.specs.declared.calls.Reply.{Reply}
use Rattle.plain_map.specs.Calls.{key_in}
use Rattle.bucket_states.specs.declared.ops.Op.{Op}
use Rattle.bucket_states.specs.Values.{IsSmall}
use Rattle.bucket_states.specs.Laws.{IsUntouched, Announces, applied_of, reply_at}
use Rattle.table_model.specs.Directories.{DirectoryState, bucket_of}
use Rattle.table_model.specs.Leaves.{NewLeaf, is_in, leaf_of}
use Rattle.table_model.specs.DirectoryChange.{LoadedBucket, loaded_of, is_frozen_without, comes_from}
use Rattle.table_model.specs.DirectoryLaws.{CanChange, takes_hash}
use Rattle.table_model.specs.DirectoryLaws.{OpsAreInLeaves, IsLeafOf}
use Rattle.list_laws.proofs.Totals.{one_if, each-alike, found-each, any_some}
use Rattle.change_laws.proofs.Bits.{hash_in, hash_in-small, is_in-takes}
use Rattle.change_laws.proofs.Steps.{has_key}
use Rattle.std.specs.Prelude.{IfSome}
use Rattle.std.proofs.lemmas.List.Elements.{All-from_recursion}
use Rattle.table_model.specs.DirectoryChange.{change_leaves}
use Rattle.table_model.specs.DirectoryLaws.{is_replaced, LeavesTakeHashes, OpsAreCarried, FrozenAreReplaced, LeavesAreFew}
use Rattle.table_model.specs.DirectoryLaws.{taken_if, taken_by_seat, HasNumberOf, LeavesAreGood, LeavesAreSmall}
use Rattle.list_laws.proofs.Totals.{many-count, total-alike, found-some}
use Rattle.change_laws.proofs.Walk.{Took, IsLeaf, Walk, leaf-loaded, announced-seat, key-was, was}
use Rattle.change_laws.proofs.Seats.{whole-change, all_replies}

-- what is there and is so
pub some-and : {A : Type 0} (P : A → Type 0) (o : Option A) (x : A) → o ≡ Some x → P x → IsSomeAnd o P
some-and P o x e p = subst (λ o. IsSomeAnd o P) (sym e) p

-- a leaf, which has this key
pub record IsOwn (rules : Rules) (seats : ℕ) (directory : DirectoryState) (loaded : List LoadedBucket)
    (ops : List (Option Op)) (replies : ℕ → Option Reply) (seat : ℕ) (leaves : List NewLeaf) (key : Key) : Type 0 where
  pub leaf : NewLeaf
  pub at : leaf_of rules key leaves ≡ Some leaf
  pub is : IsLeaf rules seats directory loaded ops replies seat leaf
  pub inside : is_in rules key leaf.bucket ≡ true

-- a list with an element is not empty
filled : {A : Type 0} {x : A} {xs : List A} → x ∷ xs ≡ [] → ⊥
filled e = cc

module _ (rules : Rules) (seats : ℕ) (directory : DirectoryState) (loaded : List LoadedBucket)
    (ops : List (Option Op)) (can : CanChange rules seats directory loaded ops)
    (replies : ℕ → Option Reply) (seat : ℕ) (leaves : List NewLeaf)
    (walk : Walk rules seats directory loaded ops replies seat leaves) where
  -- the leaf of a key whose bucket is replaced
  pub own-leaf : (key : Key) → list_any (comes_from (bucket_of rules directory key)) leaves ≡ true →
      IsOwn rules seats directory loaded ops replies seat leaves key
  own-leaf key there =
      let one : cond (list_any (comes_from (was rules seats directory loaded ops can (hash_in rules key))) leaves) 1 0
      ≡ flag true =
      ap flag
      (ap (λ b. list_any (comes_from b) leaves) (sym (key-was rules seats directory loaded ops can key)) ∙ there) in
      let cover = walk.cover (hash_in rules key) (hash_in-small rules key) in
      let alike = total-alike (one_if (has_key rules key)) (one_if (takes_hash (hash_in rules key))) leaves
      (λ leaf. ap flag (is_in-takes rules key leaf)) in
      let found = found-some (has_key rules key) leaves (omega (arith, cover, one, alike)) in
      let is = found-each (IsLeaf rules seats directory loaded ops replies seat) (has_key rules key) leaves found.0
      walk.each found.1 in
      record { leaf = found.0; at = found.1; is = is.0; inside = is.1 }
    where
      flag : Bool → ℕ
      flag b = cond b 1 0

  -- numbers do not fall
  pub carried : (leaf : NewLeaf) (k : IsLeaf rules seats directory loaded ops replies seat leaf) (q : ℕ) →
      applied_of k.l.state q ≤ applied_of leaf.bucket q
  carried leaf k q = elim (k.each q) [ inl u ↦ omega (arith, u.applied) | inr t ↦ omega (arith, t.above, t.number) ]

  -- a seat's number and reply
  pub number-of : (leaf : NewLeaf) (k : IsLeaf rules seats directory loaded ops replies seat leaf) (q : ℕ) →
      IsUntouched k.l.state leaf.bucket q ⊎ ((op : Op) × HasNumberOf rules directory loaded ops leaves leaf k.l q op)
  number-of leaf k q = elim (k.each q) [
    | inl u ↦ inl u
    | inr t ↦
        inr (t.op, with_own t (own-leaf (key_in t.op.call) (there t)))
  ]
    where
      without : (t : Took rules directory ops replies seat leaf k.l q) → is_frozen_without q t.op k.l ≡ true
      without t = and_from k.l.state.frozen (nat_lt (slice_index k.l.state.applied q) t.op.number) k.is.was_frozen
          (lt-ltb (slice_index k.l.state.applied q) t.op.number t.above)

      loaded_at : (t : Took rules directory ops replies seat leaf k.l q) →
          loaded_of loaded (bucket_of rules directory (key_in t.op.call)) ≡ Some k.l
      loaded_at t = ap (loaded_of loaded) t.for_it ∙ k.is.found

      there : (t : Took rules directory ops replies seat leaf k.l q) →
          list_any (comes_from (bucket_of rules directory (key_in t.op.call))) leaves ≡ true
      there t = ap (λ b. list_any (comes_from b) leaves) t.for_it
          ∙ walk.done q t.op k.l t.before t.announced (loaded_at t) (without t)

      -- its op is among those that the change takes
      was_taken : (t : Took rules directory ops replies seat leaf k.l q) →
          taken_by_seat rules directory loaded q (Some t.op) ≢ []
      was_taken t none =
          let here : taken_by_seat rules directory loaded q (Some t.op) ≡ record { seat = q; op = t.op } ∷ [] =
          ap (taken_if q t.op) (loaded_at t) ∙ ap (λ b. cond b (record { seat = q; op = t.op } ∷ []) []) (without t) in
          filled (sym here ∙ none)

      with_own : (t : Took rules directory ops replies seat leaf k.l q) →
          IsOwn rules seats directory loaded ops replies seat leaves (key_in t.op.call) →
          HasNumberOf rules directory loaded ops leaves leaf k.l q t.op
      with_own t o =
          let same : o.is.l ≡ k.l = leaf-loaded rules seats directory loaded ops can o.leaf o.is.l k.l
          (key_in t.op.call) o.is.is o.inside (loaded_at t) in
          let own = o.is.own q t.op t.before t.announced (subst (λ x. is_frozen_without q t.op x ≡ true) (sym same)
          (without t)) o.inside in
          record {
            announced = t.announced;
            taken = was_taken t;
            for_it = t.for_it;
            above = t.above;
            number = t.number;
            reply = some-and (λ own. reply_at leaf.bucket q ≡ reply_at own.bucket q)
                (leaf_of rules (key_in t.op.call) leaves) o.leaf o.at (t.reply ∙ sym own.1);
          }

  -- the op of a seat that was gone through is in the leaf of its key
  pub own-number : (q : ℕ) (op : Op) → q < seat → Announces ops q op →
      (leaf : NewLeaf) (k : IsLeaf rules seats directory loaded ops replies seat leaf) →
      is_in rules (key_in op.call) leaf.bucket ≡ true → op.number ≤ applied_of leaf.bucket q
  own-number q op before says leaf k inside = go (is_frozen_without q op k.l) refl
    where
      go : (b : Bool) → is_frozen_without q op k.l ≡ b → op.number ≤ applied_of leaf.bucket q
      go true e = omega (arith, (k.own q op before says e inside).0)
      go false e =
          let not_above : nat_lt (slice_index k.l.state.applied q) op.number ≡ false =
          sym (ap (λ b. b && nat_lt (slice_index k.l.state.applied q) op.number) k.is.was_frozen) ∙ e in
          omega (arith, carried leaf k q, ltb-false (slice_index k.l.state.applied q) op.number not_above)

-- ---- the laws

pub leaves_take_hashes : LeavesTakeHashes
unfolding change_leaves
leaves_take_hashes rules seats hash directory loaded ops can small =
    sym (many-count (takes_hash hash) (change_leaves rules directory loaded ops))
    ∙ (whole-change rules seats directory loaded ops can).0.cover hash small

-- the law of what leaves are
pub leaves_are_good : LeavesAreGood
unfolding change_leaves
leaves_are_good rules seats directory loaded ops can =
    let walk = (whole-change rules seats directory loaded ops can).0 in
    let replies = all_replies rules seats directory loaded ops can in
    All-from_recursion _ _ (each-alike (IsLeaf rules seats directory loaded ops replies seats)
    (λ leaf. (l : LoadedBucket) × IsLeafOf rules seats loaded leaf l
    × ((q : ℕ) → q < seats → IsUntouched l.state leaf.bucket q
    ⊎ ((op : Op) × HasNumberOf rules directory loaded ops (change_leaves rules directory loaded ops) leaf l q op)))
    (λ leaf k. (
      k.l,
      k.is,
      λ q lt. number-of rules seats directory loaded ops can replies seats
          (change_leaves rules directory loaded ops) walk leaf k q,
    )) (change_leaves rules directory loaded ops) walk.each)

-- the law of how large they are
pub leaves_are_small : LeavesAreSmall
unfolding change_leaves
leaves_are_small rules seats directory loaded ops can updates small =
    let walk = (whole-change rules seats directory loaded ops can).0 in
    All-from_recursion _ _ (each-alike (IsLeaf rules seats directory loaded ops
    (all_replies rules seats directory loaded ops can) seats) (λ leaf. IsSmall leaf.bucket) (λ leaf k. k.small updates
    small) (change_leaves rules directory loaded ops) walk.each)

-- the law of the announced ops
pub ops_are_carried : OpsAreCarried
unfolding change_leaves
ops_are_carried rules seats seat op directory loaded ops can says there =
    let walk = (whole-change rules seats directory loaded ops can).0 in
    let replies = all_replies rules seats directory loaded ops can in
    let leaves = change_leaves rules directory loaded ops in
    let o = own-leaf rules seats directory loaded ops can replies seats leaves walk (key_in op.call) there in
    some-and (λ leaf. op.number ≤ applied_of leaf.bucket seat) (leaf_of rules (key_in op.call) leaves) o.leaf o.at
    (own-number rules seats directory loaded ops can replies seats leaves walk seat op
    (announced-seat rules seats directory loaded ops can seat op says) says o.leaf o.is o.inside)

-- the law of the replaced buckets
pub frozen_are_replaced : FrozenAreReplaced
unfolding change_leaves
frozen_are_replaced rules seats seat op directory loaded ops can says =
    go (loaded_of loaded (bucket_of rules directory (key_in op.call))) refl
  where
    go : (m : Option LoadedBucket) → loaded_of loaded (bucket_of rules directory (key_in op.call)) ≡ m →
        IfSome m (λ l. is_frozen_without seat op l ≡ true →
        is_replaced l.bucket (change_leaves rules directory loaded ops) ≡ true)
    go None e = tt
    go (Some l) e = λ without. (whole-change rules seats directory loaded ops can).0.done seat op l
        (announced-seat rules seats directory loaded ops can seat op says) says e without

-- the law of how many leaves there are
pub leaves_are_few : LeavesAreFew
unfolding change_leaves
leaves_are_few rules seats bucket directory loaded ops can =
    let whole = whole-change rules seats directory loaded ops can in
    let leaves = change_leaves rules directory loaded ops in (
      λ there. omega (
        arith,
        many-count (comes_from bucket) leaves,
        whole.0.twos bucket (any_some (comes_from bucket) leaves there),
      ),
      whole.1,
    )

-- the law of the ops in each leaf
pub ops_are_in_leaves : OpsAreInLeaves
unfolding change_leaves
ops_are_in_leaves rules seats seat op directory loaded ops can says =
    let walk = (whole-change rules seats directory loaded ops can).0 in
    let replies = all_replies rules seats directory loaded ops can in
    let leaves = change_leaves rules directory loaded ops in
    All-from_recursion _ _ (each-alike (IsLeaf rules seats directory loaded ops replies seats)
    (λ leaf. is_in rules (key_in op.call) leaf.bucket ≡ true → op.number ≤ applied_of leaf.bucket seat)
    (λ leaf k inside. own-number rules seats directory loaded ops can replies seats leaves walk seat op
    (announced-seat rules seats directory loaded ops can seat op says) says leaf k inside) leaves walk.each)
