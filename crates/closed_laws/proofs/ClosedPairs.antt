-- The pairs of the closed table are those that are held after the order.
use Rattle.std.proofs.Common.{◌≡◌, ℕ, Bool, true, false, cond, List, [], ◌∷◌, reverse, Some, refl, inl, inr, sym, ap, ◌∙◌, subst, arith}
use Rattle.std.specs.Prelude.{flat_map, IsPermutation}
use Rattle.std.specs.FinMap.{get}
use Rattle.std.proofs.lemmas.List.{reverse-append}
use Rattle.std.proofs.lemmas.Option.{same_Some}
use Rattle.plain_map.specs.declared.keys.Key.{Key}
use Rattle.plain_map.specs.declared.keys.Pair.{Pair}
use Rattle.plain_map.specs.Keys.{Session, held_in, pair_of}
use Rattle.plain_map.specs.PlainObject.{Sessions, pairs_of}
use Rattle.bucket_states.specs.Items.{prefix_of, same_key, value_at}
use Rattle.bucket_states.specs.States.{BucketState}
use Rattle.bucket_states.specs.Parts.{HasDistinctKeys, HasPrefix, HoldsPart}
use Rattle.table_model.specs.Setup.{Setup, rules_of}
use Rattle.table_model.specs.Directories.{DirectoryState, bucket_of}
use Rattle.table_model.specs.Reading.{bucket_at, directory_at, root_of, row_of, each_once}
use Rattle.table_model.specs.Closed.{closed_buckets, closed_pairs}
use Rattle.list_laws.proofs.Lists.{In, Once, in_left, in_right, in_both, in_flat_map, flat_map_in, same_members, once_both}
use Rattle.closed_laws.proofs.Book.{Book, Written}
use Rattle.closed_laws.proofs.Lines.{each_in, in_each, each_is_once}
use Rattle.closed_laws.proofs.Read.{state_is, directory_is}
use Rattle.bucket_states.proofs.KeyTests.{Decides-same_key}

-- what is to be shown of sessions in plain_map: their pairs stand once, and are what is held
pub record PairsAreHeld (sessions : Sessions) : Type 0 where
  pub once : Once (pairs_of sessions)
  pub there : (pair : Pair) → In pair (pairs_of sessions) → get sessions pair.key ≡ Some (held_in pair)
  pub back : (pair : Pair) → get sessions pair.key ≡ Some (held_in pair) → In pair (pairs_of sessions)

-- and of items in bucket_states: where no key stands twice, they stand once, and the value at a key is that of its
-- pair
pub record ItemsAreDistinct (items : List Pair) : Type 0 where
  pub once : Once items
  pub there : (pair : Pair) → In pair items → value_at pair.key items ≡ Some (held_in pair)

-- keys that compare as the same are one
key_is : (a b : Key) → same_key a b ≡ true → a ≡ b
key_is a b = (Decides-same_key a b).0

-- what is found at a key stands among the items
pub held_there : (items : List Pair) (key : Key) (held : Session) → value_at key items ≡ Some held →
    In (pair_of (key, held)) items
held_there [] key held h = cc
held_there (p ∷ items) key held h = go (same_key p.key key) refl (held_there items key held) h
  where
    go : (b : Bool) → same_key p.key key ≡ b → (value_at key items ≡ Some held → In (pair_of (key, held)) items) →
        cond b (Some (held_in p)) (value_at key items) ≡ Some held → In (pair_of (key, held)) (p ∷ items)
    go true e rest s = inl (pair_is (key_is p.key key e) (same_Some _ _ s))
      where
        pair_is : p.key ≡ key → held_in p ≡ held → pair_of (key, held) ≡ p
        pair_is k v = ap (λ z. pair_of (z, held)) (sym k) ∙ ap (λ z. pair_of (p.key, z)) (sym v)
    go false e rest s = inr (rest s)

-- reversed lists
pub in_reverse : {A : Type 0} → (x : A) (xs : List A) → In x xs → In x (reverse xs)
in_reverse x [] i = i
in_reverse x (y ∷ xs) (inl e) = subst (In x) (sym (reverse-append (y ∷ []) xs))
    (in_right x (reverse xs) (y ∷ []) (inl e))
in_reverse x (y ∷ xs) (inr j) = subst (In x) (sym (reverse-append (y ∷ []) xs))
    (in_left x (reverse xs) (y ∷ []) (in_reverse x xs j))

-- a member of the reversed list is one of the list
pub reverse_in : {A : Type 0} → (x : A) (xs : List A) → In x (reverse xs) → In x xs
reverse_in x [] i = i
reverse_in x (y ∷ xs) i = elim (in_both x (reverse xs) (y ∷ []) (subst (In x) (reverse-append (y ∷ []) xs) i)) [
  | inl j ↦ inr (reverse_in x xs j)
  | inr j ↦ elim j [ inl e ↦ inl e | inr n ↦ elim n [ ] ]
]

-- a reversed list has each once where the list has
pub once_reverse : {A : Type 0} → (xs : List A) → Once xs → Once (reverse xs)
once_reverse [] o = o
once_reverse (y ∷ xs) o = subst Once (sym (reverse-append (y ∷ []) xs))
    (once_both (reverse xs) (y ∷ []) (once_reverse xs o.1) ((λ i. elim i [ ]), tt)
    (λ x i j. elim j [ inl e ↦ o.0 (subst (λ z. In z xs) e (reverse_in x xs i)) | inr n ↦ elim n [ ] ]))

-- joined lists have each once where each list has, and no two have one in common
pub once_flat : {A B : Type 0} → (f : A → List B) (xs : List A) → Once xs → ((x : A) → In x xs → Once (f x)) →
    ((x y : A) (z : B) → In x xs → In y xs → In z (f x) → In z (f y) → x ≡ y) → Once (flat_map f xs)
once_flat f [] o each apart = tt
once_flat f (x ∷ xs) o each apart = once_both (f x) (flat_map f xs) (each x (inl refl))
    (once_flat f xs o.1 (λ y i. each y (inr i)) (λ y z b i j. apart y z b (inr i) (inr j)))
    (λ b i j. let r = in_flat_map f xs b j in
    o.0 (subst (λ z. In z xs) (sym (apart x r.0 b (inl refl) (inr r.1) i r.2)) r.1))

module _ (setup : Setup) (words : List ℕ) (k : Book) (w : Written setup words k) (pre : ℕ → ℕ) (sessions : Sessions)
    (pairs : PairsAreHeld sessions) (distinct : (b : ℕ) → k.named b ≡ true →
    ItemsAreDistinct (k.state_at b (k.top b)).items)
    -- each key's bucket stands in the last directory row; a bucket that stands there is that of all keys of its
    -- prefix
    (stands : (key : Key) → In (bucket_of (rules_of setup) (k.dir_at k.dir_top) key) (k.dir_at k.dir_top).entries)
    (for_it : (key : Key) → prefix_of (rules_of setup) (k.deep (bucket_of (rules_of setup) (k.dir_at k.dir_top) key))
    key ≡ pre (bucket_of (rules_of setup) (k.dir_at k.dir_top) key))
    (led : (b : ℕ) (key : Key) → In b (k.dir_at k.dir_top).entries →
    prefix_of (rules_of setup) (k.deep b) key ≡ pre b → bucket_of (rules_of setup) (k.dir_at k.dir_top) key ≡ b)
    -- and it holds its part
    (holds : (b : ℕ) → In b (k.dir_at k.dir_top).entries →
    HoldsPart (rules_of setup) (pre b) (k.deep b) (k.state_at b (k.top b)).items sessions) where
  -- the items of a bucket in the closed words
  abbrev items : ℕ → List Pair
  items b = (bucket_at setup.shape words (row_of setup.shape words b)).items

  -- what the closed directory names
  abbrev entries : List ℕ
  entries = (directory_at setup.shape words (root_of setup.shape words)).entries

  -- it names the buckets of the last version
  entries_are : entries ≡ (k.dir_at k.dir_top).entries
  entries_are = ap (λ r. (directory_at setup.shape words r).entries) w.root_is
      ∙ ap (λ (d : DirectoryState). d.entries) (directory_is setup words k w k.dir_top (omega arith))

  -- its items are those of its last row
  items_are : (b : ℕ) → k.named b ≡ true → items b ≡ (k.state_at b (k.top b)).items
  items_are b n = ap (λ r. (bucket_at setup.shape words r).items) (w.word_is b n)
      ∙ ap (λ (s : BucketState). s.items) (state_is setup words k w b (k.top b) n (omega arith))

  -- a closed bucket is named by the last version
  bucket_in : (b : ℕ) → In b (closed_buckets setup.shape words) → In b (k.dir_at k.dir_top).entries
  bucket_in b i = subst (In b) entries_are (reverse_in b entries
      (each_in (reverse entries) b (reverse_in b (each_once (reverse entries)) i)))

  -- and each of those is a closed bucket
  in_buckets : (b : ℕ) → In b (k.dir_at k.dir_top).entries → In b (closed_buckets setup.shape words)
  in_buckets b i = in_reverse b (each_once (reverse entries))
      (in_each (reverse entries) b (in_reverse b entries (subst (In b) (sym entries_are) i)))

  -- each of them is named
  named : (b : ℕ) → In b (k.dir_at k.dir_top).entries → k.named b ≡ true
  named b i = (w.entries k.dir_top b (omega arith) i).0

  -- a pair of a bucket is that of its key's
  of_bucket : (b : ℕ) (pair : Pair) → In b (closed_buckets setup.shape words) → In pair (items b) →
      (bucket_of (rules_of setup) (k.dir_at k.dir_top) pair.key ≡ b) × (get sessions pair.key ≡ Some (held_in pair))
  of_bucket b pair i m =
      let e = bucket_in b i in
      let n = named b e in
      let h = holds b e in
      let value = (distinct b n).there pair (subst (In pair) (items_are b n) m) in
      let suits = h.inside pair.key (held_in pair) value in
      (led b pair.key e suits, sym (h.same pair.key suits) ∙ value)

  -- so the pairs of the closed buckets are those that are held, each once
  pub pairs_are : IsPermutation (pairs_of sessions) (closed_pairs setup.shape words)
  pairs_are = same_members (pairs_of sessions) (closed_pairs setup.shape words) pairs.once
      (once_flat items (closed_buckets setup.shape words)
      (once_reverse (each_once (reverse entries)) (each_is_once (reverse entries)))
      (λ b i. let n = named b (bucket_in b i) in subst Once (sym (items_are b n)) (distinct b n).once)
      (λ a b pair i j m n. sym (of_bucket a pair i m).0 ∙ (of_bucket b pair j n).0))
      (λ pair i.
      let b = bucket_of (rules_of setup) (k.dir_at k.dir_top) pair.key in
      let e = stands pair.key in
      let n = named b e in
      flat_map_in items (closed_buckets setup.shape words) b pair (in_buckets b e)
      (subst (In pair) (sym (items_are b n))
      (held_there (k.state_at b (k.top b)).items pair.key (held_in pair)
      ((holds b e).same pair.key (for_it pair.key) ∙ pairs.there pair i))))
      (λ pair i. let r = in_flat_map items (closed_buckets setup.shape words) pair i in
      pairs.back pair (of_bucket r.0 pair r.1 r.2).1)

-- what is known key by key holds bucket by bucket, also where no key has the bucket's prefix
pub holds_all : (setup : Setup) (k : Book) (pre : ℕ → ℕ) (sessions : Sessions) (b : ℕ) →
    HasDistinctKeys (k.state_at b (k.top b)).items →
    HasPrefix (rules_of setup) (pre b) (k.deep b) (k.state_at b (k.top b)).items →
    ((key : Key) → prefix_of (rules_of setup) (k.deep b) key ≡ pre b →
    bucket_of (rules_of setup) (k.dir_at k.dir_top) key ≡ b) →
    ((key : Key) → (let a = bucket_of (rules_of setup) (k.dir_at k.dir_top) key in
    HoldsPart (rules_of setup) (pre a) (k.deep a) (k.state_at a (k.top a)).items sessions)) →
    HoldsPart (rules_of setup) (pre b) (k.deep b) (k.state_at b (k.top b)).items sessions
holds_all setup k pre sessions b distinct inside led ends = record {
  distinct = distinct;
  inside = inside;
  same = λ key suits. (subst (λ a. HoldsPart (rules_of setup) (pre a) (k.deep a)
      (k.state_at a (k.top a)).items sessions) (led key suits) (ends key)).same key suits;
}
