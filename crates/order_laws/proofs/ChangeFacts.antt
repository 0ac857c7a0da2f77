-- What a directory change makes of its ops: which it takes, in which leaf each of them is, and where a leaf's numbers
-- come from.
use Rattle.std.proofs.Common.{◌≡◌, ◌≢◌, ℕ, ◌+◌, ◌<◌, ◌≤◌, ◌⊎◌, Bool, true, false, List, [], ◌∷◌, length, get_or, Option, Some, None, true≢false, inl, inr, refl, sym, ap, ◌∙◌, subst, arith, eq-eqb, lt-ltb}
use Rattle.std.specs.Prelude.{All, IfSome, IsSomeAnd, slice_index, nat_lt}
use Rattle.std.specs.Option.{option_map_or}
use Rattle.std.proofs.lemmas.Bool.{cases_lt, cases_Bool, and_from, cond-true, cond-false}
use Rattle.std.proofs.lemmas.List.{get_or_past}
use Rattle.hash_bits.specs.Prefix.{first_bits}
use Rattle.hash_bits.proofs.PrefixLemmas.{first_bits-within}
use Rattle.plain_map.specs.declared.keys.Key.{Key}
use Rattle.plain_map.specs.declared.rules.Rules.{Rules}
use Rattle.plain_map.specs.Calls.{key_in}
use Rattle.bucket_states.specs.declared.ops.Op.{Op}
use Rattle.bucket_states.specs.Items.{prefix_of}
use Rattle.bucket_states.specs.Laws.{Announces, Taken, applied_of, reply_at}
use Rattle.table_model.specs.Directories.{DirectoryState, bucket_of}
use Rattle.table_model.specs.Leaves.{NewLeaf, is_in, leaf_of}
use Rattle.table_model.specs.DirectoryChange.{LoadedBucket, loaded_of, is_frozen_without, change_leaves, with_leaves}
use Rattle.table_model.specs.DirectoryLaws.{CanChange, StandsIn, is_replaced, taken_if, taken_by_seat, IsLeafOf, HasNumberOf}
use Rattle.change_laws.proofs.Bits.{hash_in, hash_in-small, prefix_of-hash}
use Rattle.hash_bits.proofs.FewerBits.{first_bits-fewer}
use Rattle.change_laws.proofs.Walk.{loaded-is, loaded-good, leaf-loaded, announced-seat, frozen-parts}
use Rattle.change_laws.proofs.Weak.{leaves_are_good, frozen_are_replaced, ops_are_in_leaves}
use Rattle.change_laws.proofs.NewDirectory.{directory_names_leaves, directory_stays_right, replaced_are_left}
use Rattle.run_invariant.proofs.Change.{leaf_at, no_leaf}
use Rattle.list_laws.proofs.Options.{some_same}
use Rattle.list_laws.proofs.Places.{at_index}

module _ (rules : Rules) (seats : ℕ) (directory : DirectoryState) (loaded : List LoadedBucket)
    (ops : List (Option Op)) (can : CanChange rules seats directory loaded ops) where
  -- the leaves that the change makes
  abbrev leaves : List NewLeaf
  leaves = change_leaves rules directory loaded ops

  -- the seat's op is taken: its bucket was loaded frozen without it
  abbrev pub takes : ℕ → Option Op → Bool
  takes q None = false
  takes q (Some op) = option_map_or (is_frozen_without q op)
      (loaded_of loaded (bucket_of rules directory (key_in op.call))) false

  -- the op of a seat that the change takes
  pub record IsTakenOp (q : ℕ) (op : Op) : Type 0 where
    pub announced : Announces ops q op
    pub inside : q < seats
    pub bucket : LoadedBucket
    pub found : loaded_of loaded (bucket_of rules directory (key_in op.call)) ≡ Some bucket
    pub bucket_is : bucket.bucket ≡ bucket_of rules directory (key_in op.call)
    pub without : is_frozen_without q op bucket ≡ true
    pub frozen : bucket.state.frozen ≡ true
    pub above : applied_of bucket.state q < op.number

  -- an announced op whose bucket was loaded frozen without it is taken
  taken_at : (q : ℕ) (op : Op) (l : LoadedBucket) → Announces ops q op →
      loaded_of loaded (bucket_of rules directory (key_in op.call)) ≡ Some l → is_frozen_without q op l ≡ true →
      IsTakenOp q op
  taken_at q op l a e w = record {
    announced = a;
    inside = announced-seat rules seats directory loaded ops can q op a;
    bucket = l;
    found = e;
    bucket_is = loaded-is rules seats directory loaded ops can (bucket_of rules directory (key_in op.call)) l e;
    without = w;
    frozen = (frozen-parts rules seats directory loaded ops can q op l w).0;
    above = (frozen-parts rules seats directory loaded ops can q op l w).1;
  }

  -- so the test tells it
  pub taken_from_test : (q : ℕ) (op : Op) → Announces ops q op → takes q (Some op) ≡ true → IsTakenOp q op
  taken_from_test q op a e = go (loaded_of loaded (bucket_of rules directory (key_in op.call))) refl e
    where
      go : (o : Option LoadedBucket) → loaded_of loaded (bucket_of rules directory (key_in op.call)) ≡ o →
          option_map_or (is_frozen_without q op) o false ≡ true → IsTakenOp q op
      go None f w = absurd (true≢false (sym w))
      go (Some l) f w = taken_at q op l a f w

  -- and back
  pub test_from_taken : (q : ℕ) (op : Op) → IsTakenOp q op → takes q (Some op) ≡ true
  test_from_taken q op x = ap (λ (o : Option LoadedBucket). option_map_or (is_frozen_without q op) o false) x.found
      ∙ x.without

  -- the same by the list of the taken ops
  pub listed_from_taken : (q : ℕ) (op : Op) → IsTakenOp q op → taken_by_seat rules directory loaded q (Some op) ≢ []
  listed_from_taken q op x e = some_here (sym (ap (λ (o : Option LoadedBucket). taken_if q op o) x.found
      ∙ cond-true (is_frozen_without q op x.bucket) (record { seat = q; op = op } ∷ []) [] x.without) ∙ e)
    where
      some_here : {t : Taken} → t ∷ [] ≡ [] → ⊥
      some_here f = cc

  -- what is listed as taken is taken
  pub taken_from_listed : (q : ℕ) (op : Op) → Announces ops q op →
      taken_by_seat rules directory loaded q (Some op) ≢ [] → IsTakenOp q op
  taken_from_listed q op a n = go (loaded_of loaded (bucket_of rules directory (key_in op.call))) refl n
    where
      go : (o : Option LoadedBucket) → loaded_of loaded (bucket_of rules directory (key_in op.call)) ≡ o →
          taken_if q op o ≢ [] → IsTakenOp q op
      go None f m = absurd (m refl)
      go (Some l) f m = elim (cases_Bool (is_frozen_without q op l)) [
        | inl w ↦ taken_at q op l a f w
        | inr w ↦ absurd (m (cond-false (is_frozen_without q op l) (record { seat = q; op = op } ∷ []) [] w))
      ]

  -- where the number of a seat in a leaf comes from
  pub record IsNumberOf (leaf : NewLeaf) (l : LoadedBucket) (q : ℕ) : Type 0 where
    pub op : Op
    pub taken : IsTakenOp q op
    pub same : taken.bucket ≡ l
    pub number : applied_of leaf.bucket q ≡ op.number
    pub reply : IsSomeAnd (leaf_of rules (key_in op.call) leaves)
        (λ own. reply_at leaf.bucket q ≡ reply_at own.bucket q)

  -- where a leaf comes from, and whose numbers it has
  pub record IsOfLeaf (leaf : NewLeaf) : Type 0 where
    pub bucket : LoadedBucket
    pub is : IsLeafOf rules seats loaded leaf bucket
    pub number : (q : ℕ) → ((applied_of leaf.bucket q ≡ applied_of bucket.state q)
        × (reply_at leaf.bucket q ≡ reply_at bucket.state q)) ⊎ IsNumberOf leaf bucket q

  -- each leaf has such an origin
  pub of_leaf : (i : ℕ) → i < length leaves → IsOfLeaf (get_or leaves i no_leaf)
  of_leaf i h =
      let leaf = get_or leaves i no_leaf in
      let law = leaves_are_good rules seats directory loaded ops can i no_leaf h in
      record {
        bucket = law.0;
        is = law.1;
        number = λ q. elim (cases_lt q seats) [
          | inl inside ↦ elim (law.2 q inside)
              [ inl x ↦ inl (x.applied, x.reply) | inr x ↦ inr (number_of leaf law.0 law.1 q x.0 x.1) ]
          | inr past ↦ inl (beyond leaf law.0 law.1 q past)
        ];
      }
    where
      number_of : (leaf : NewLeaf) (l : LoadedBucket) → IsLeafOf rules seats loaded leaf l → (q : ℕ) (op : Op) →
          HasNumberOf rules directory loaded ops leaves leaf l q op → IsNumberOf leaf l q
      number_of leaf l is q op x =
          let found : loaded_of loaded (bucket_of rules directory (key_in op.call)) ≡ Some l =
          ap (loaded_of loaded) x.for_it ∙ is.found in
          let taken : IsTakenOp q op = taken_at q op l x.announced found
          (and_from l.state.frozen (nat_lt (slice_index l.state.applied q) op.number) is.was_frozen
          (lt-ltb (slice_index l.state.applied q) op.number x.above)) in
          record {
            op = op;
            taken = taken;
            same = some_same (sym taken.found ∙ found);
            number = x.number;
            reply = x.reply;
          }

      beyond : (leaf : NewLeaf) (l : LoadedBucket) → IsLeafOf rules seats loaded leaf l → (q : ℕ) → seats ≤ q →
          (applied_of leaf.bucket q ≡ applied_of l.state q) × (reply_at leaf.bucket q ≡ reply_at l.state q)
      beyond leaf l is q past =
          let good = loaded-good rules seats directory loaded ops can l.bucket l is.found in (
            get_or_past leaf.bucket.applied q 0 (omega (arith, is.good.numbers, past))
                ∙ sym (get_or_past l.state.applied q 0 (omega (arith, good.numbers, past))),
            get_or_past leaf.bucket.replies q None (omega (arith, is.good.answers, past))
                ∙ sym (get_or_past l.state.replies q None (omega (arith, good.answers, past))),
          )

  -- ---- with the new directory, whose first leaf has this number
  module _ (fresh : ℕ) (free : All (λ number. (number < fresh) ⊎ (fresh + length leaves ≤ number)) directory.entries)
    where
      abbrev now : DirectoryState
      now = with_leaves fresh leaves directory

      deep64 : now.depth ≤ 64
      deep64 = omega (arith, (directory_stays_right rules seats fresh directory loaded ops can).0, can.range.depth)

      key_now : (key : Key) → bucket_of rules now key ≡
          slice_index now.entries (first_bits (hash_in rules key) now.depth)
      key_now key = ap (λ n. slice_index now.entries n) (prefix_of-hash rules now.depth key)

      key_was : (key : Key) → bucket_of rules directory key ≡ slice_index directory.entries
          (first_bits (hash_in rules key) directory.depth)
      key_was key = ap (λ n. slice_index directory.entries n) (prefix_of-hash rules directory.depth key)

      -- the leaf to which a key is led has the key
      pub leaf_has : (key : Key) (i : ℕ) → i < length leaves → bucket_of rules now key ≡ fresh + i →
          is_in rules key (leaf_at leaves i) ≡ true
      leaf_has key i h e =
          let stand = at_index (λ (leaf : NewLeaf). StandsIn now (fresh + i) leaf.bucket) leaves i no_leaf h
          ((((directory_stays_right rules seats fresh directory loaded ops can).2) free).0 i) in
          let hash = hash_in rules key in
          let within = first_bits-within hash now.depth (hash_in-small rules key) deep64 in
          let at = (stand.places (first_bits hash now.depth) within).0 (sym (key_now key) ∙ e) in
          eq-eqb (prefix_of rules (leaf_at leaves i).depth key) (leaf_at leaves i).prefix
          (prefix_of-hash rules (leaf_at leaves i).depth key
          ∙ sym (first_bits-fewer hash now.depth (leaf_at leaves i).depth stand.shallow deep64) ∙ at)

      -- a leaf to whose prefix a key belongs is where it is led
      pub leaf_leads : (key : Key) (i : ℕ) → i < length leaves →
          prefix_of rules (leaf_at leaves i).depth key ≡ (leaf_at leaves i).prefix → bucket_of rules now key ≡ fresh + i
      leaf_leads key i h e =
          let stand = at_index (λ (leaf : NewLeaf). StandsIn now (fresh + i) leaf.bucket) leaves i no_leaf h
          ((((directory_stays_right rules seats fresh directory loaded ops can).2) free).0 i) in
          let hash = hash_in rules key in
          let within = first_bits-within hash now.depth (hash_in-small rules key) deep64 in
          key_now key ∙ (stand.places (first_bits hash now.depth) within).1
          (first_bits-fewer hash now.depth (leaf_at leaves i).depth stand.shallow deep64
          ∙ sym (prefix_of-hash rules (leaf_at leaves i).depth key) ∙ e)

      -- a key's bucket stays, or it is replaced, and a leaf is its bucket then
      pub key_goes : (key : Key) → ((bucket_of rules now key ≡ bucket_of rules directory key)
          × (is_replaced (bucket_of rules directory key) leaves ≡ false))
          ⊎ ((is_replaced (bucket_of rules directory key) leaves ≡ true)
          × ((i : ℕ) × (i < length leaves) × (bucket_of rules now key ≡ fresh + i)))
      key_goes key = elim (cases_Bool (is_replaced (bucket_of rules directory key) leaves)) [
        | inr kept ↦ inl (
          key_now key ∙ (directory_names_leaves rules seats
              (hash_in rules key) fresh directory loaded ops can (hash_in-small rules key)).0
              (ap (λ b. is_replaced b leaves) (sym (key_was key)) ∙ kept) ∙ sym (key_was key),
          kept,
        )
        | inl away ↦
            let r = replaced_are_left rules seats (hash_in rules key) fresh directory loaded ops can
            (hash_in-small rules key) (ap (λ b. is_replaced b leaves) (sym (key_was key)) ∙ away) in
            inr (away, (r.0, r.1, key_now key ∙ r.2))
      ]

      -- a new number was none of the old directory's
      pub not_old : (key : Key) (i : ℕ) → i < length leaves → bucket_of rules directory key ≢ fresh + i
      not_old key i h e =
          let place = first_bits (hash_in rules key) directory.depth in
          let within = first_bits-within (hash_in rules key) directory.depth (hash_in-small rules key)
          (omega (arith, can.within, can.range.depth)) in
          let at = sym (key_was key) ∙ e in
          elim (free place 0 (omega (arith, within, can.places)))
          [ inl low ↦ omega (arith, low, at, h) | inr high ↦ omega (arith, high, at, h) ]

      -- a leaf with a taken op's key has its number, and comes from the bucket that was loaded
      pub has_number : (q : ℕ) (op : Op) (x : IsTakenOp q op) (i : ℕ) (h : i < length leaves) →
          is_in rules (key_in op.call) (leaf_at leaves i) ≡ true →
          (applied_of (leaf_at leaves i) q ≡ op.number) × ((get_or leaves i no_leaf).from ≡ Some x.bucket.bucket)
      has_number q op x i h has =
          let of = of_leaf i h in
          let same : of.bucket ≡ x.bucket = leaf-loaded rules seats directory loaded ops can
          (get_or leaves i no_leaf) of.bucket x.bucket (key_in op.call) of.is has x.found in
          let up = ops_are_in_leaves rules seats q op directory loaded ops can x.announced i no_leaf h has in (
            elim (of.number q) [
              | inl kept ↦ absurd
                  (omega (arith, up, kept.0, ap (λ (z : LoadedBucket). applied_of z.state q) same, x.above))
              | inr n ↦ n.number ∙ ap (λ (z : Op). z.number) (some_same (sym n.taken.announced ∙ x.announced))
            ],
            of.is.from ∙ ap (λ (z : LoadedBucket). Some z.bucket) same,
          )

      -- the leaf of a taken op: it has the op's key and number, and comes from the bucket that was loaded
      pub record IsOwnLeaf (q : ℕ) (op : Op) (x : IsTakenOp q op) : Type 0 where
        pub i : ℕ
        pub inside : i < length leaves
        pub leads : bucket_of rules now (key_in op.call) ≡ fresh + i
        pub has : is_in rules (key_in op.call) (leaf_at leaves i) ≡ true
        pub number : applied_of (leaf_at leaves i) q ≡ op.number
        pub from : (get_or leaves i no_leaf).from ≡ Some x.bucket.bucket

      pub own_leaf : (q : ℕ) (op : Op) (x : IsTakenOp q op) → IsOwnLeaf q op x
      own_leaf q op x =
          let key = key_in op.call in
          let away : is_replaced (bucket_of rules directory key) leaves ≡ true =
          ap (λ b. is_replaced b leaves) (sym x.bucket_is)
          ∙ subst (λ m. IfSome m (λ l. is_frozen_without q op l ≡ true → is_replaced l.bucket leaves ≡ true))
          x.found (frozen_are_replaced rules seats q op directory loaded ops can x.announced) x.without in
          elim (key_goes key) [
            | inl stays ↦ absurd (true≢false (sym away ∙ stays.1))
            | inr r ↦ owned r.1.0 r.1.1 r.1.2
          ]
        where
          owned : (i : ℕ) → i < length leaves → bucket_of rules now (key_in op.call) ≡ fresh + i → IsOwnLeaf q op x
          owned i h e =
              let has = leaf_has (key_in op.call) i h e in
              let n = has_number q op x i h has in
              record { i = i; inside = h; leads = e; has = has; number = n.0; from = n.1 }
