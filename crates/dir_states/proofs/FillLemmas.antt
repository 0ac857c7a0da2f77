-- The pairs of an opening go to their leaves one by one, each through the directory.
use Rattle.std.proofs.Common.{◌≡◌, ℕ, zero, suc, ◌+◌, ◌-◌, ◌*◌, ◌/◌, ◌^◌, ◌<◌, ◌≤◌, Bool, true, false, cond, List, [], ◌∷◌, ◌++◌, length, map, set, get_or, take, drop, refl, sym, ap, subst, ◌∙◌, arith}
use Rattle.std.specs.Prelude.{◌==◌, nat_lt, filter, slice_index, fold, max, replicate}
use Rattle.std.specs.List.{range_with_len, All, AllByRecursion as Each}
use Rattle.std.proofs.lemmas.List.{length-map, get_or-map, map-append, append-nil, take_more}
use Rattle.std.proofs.lemmas.List.Elements.{filter-append, All-from_recursion, recursion_from_All}
use Rattle.hash_bits.specs.Prefix.{first_bits}
use Rattle.plain_map.specs.declared.keys.Pair.{Pair}
use Rattle.plain_map.specs.declared.leaves.Leaf.{Leaf}
use Rattle.plain_map.specs.declared.rules.Rules.{Rules}
use Rattle.bucket_states.specs.Items.{prefix_of}
use Rattle.table_model.specs.Directories.{DirectoryState, bucket_of}
use Rattle.table_model.specs.DirectoryChange.{depth_after, number_at, with_leaves}
use Rattle.table_model.specs.DirectoryLaws.{takes_hash}
use Rattle.table_model.specs.Leaves.{NewLeaf}
use Rattle.table_model.specs.Opening.{opening_leaves, opening_directory}
use Rattle.table_model.specs.OpeningLaws.{CanOpen, place_of}
use Rattle.list_laws.proofs.Totals.{one_if, many, many-count, total-append, each-append}
use Rattle.change_laws.proofs.Bits.{hash_in, hash_in-small, prefix_of-hash}
use Rattle.change_laws.proofs.Directories.{named-some, IsNamed, now-entry, now-shallow}
use Rattle.change_laws.proofs.Openings.{is-opening}
use Rattle.dir_states.specs.declared.values.NewLeaf.{NewLeaf as Made}
use Rattle.dir_states.specs.Cuts.{held, leaf_with, below, below_each, cut_leaves}
use Rattle.dir_states.specs.Views.{as_leaf}
use Rattle.dir_states.proofs.FindLemmas.{cut_at}
use Rattle.dir_states.proofs.NumberLemmas.{depth_after-least}
use Rattle.dir_states.proofs.TreeLemmas.{held-length}
use Rattle.dir_states.proofs.CutLemmas.{opening-cuts}
use Rattle.std.proofs.lemmas.Bool.{false≢true}

-- ---- what rests on the places of the leaves alone

-- the place takes the hash
abbrev takes_at : ℕ → Leaf → Bool
takes_at h leaf = first_bits h leaf.depth == leaf.prefix

-- as many places take a hash as leaves
many-places : (h : ℕ) (leaves : List NewLeaf) → many (takes_hash h) leaves ≡ many (takes_at h) (map place_of leaves)
many-places h [] = refl
many-places h (leaf ∷ leaves) = ap (λ n. one_if (takes_hash h) leaf + n) (many-places h leaves)

-- the depth of a directory, by places
abbrev deep_in : ℕ → List Leaf → ℕ
deep_in d leaves = fold (λ depth leaf. max depth leaf.depth) d leaves

-- the depth rests on the places
deep-places : (d : ℕ) (leaves : List NewLeaf) →
    fold (λ depth leaf. max depth leaf.bucket.depth) d leaves ≡ deep_in d (map place_of leaves)
deep-places d [] = refl
deep-places d (leaf ∷ leaves) = deep-places (max d leaf.bucket.depth) leaves

-- the number at a place of a directory, by places
abbrev number_in : (depth place fresh was : ℕ) → List Leaf → ℕ
number_in depth place fresh was [] = was
number_in depth place fresh was (leaf ∷ leaves) =
    cond (place / 2 ^ (depth - leaf.depth) == leaf.prefix) fresh (number_in depth place (suc fresh) was leaves)

-- and so does each number
number-places : (depth place fresh was : ℕ) (leaves : List NewLeaf) →
    number_at depth place fresh was leaves ≡ number_in depth place fresh was (map place_of leaves)
number-places depth place fresh was [] = refl
number-places depth place fresh was (leaf ∷ leaves) =
    ap (cond (place / 2 ^ (depth - leaf.bucket.depth) == leaf.bucket.prefix) fresh)
    (number-places depth place (suc fresh) was leaves)

-- equal functions give equal lists
map-alike : (f g : ℕ → ℕ) → ((i : ℕ) → f i ≡ g i) → (xs : List ℕ) → map f xs ≡ map g xs
map-alike f g same [] = refl
map-alike f g same (x ∷ xs) = ap (λ y. y ∷ map f xs) (same x) ∙ ap (λ ys. g x ∷ ys) (map-alike f g same xs)

-- leaves at the same places make the same directory
pub with_leaves-same : (fresh : ℕ) (xs ys : List NewLeaf) (directory : DirectoryState) →
    map place_of xs ≡ map place_of ys → with_leaves fresh xs directory ≡ with_leaves fresh ys directory
unfolding with_leaves
with_leaves-same fresh xs ys directory same =
    ap (λ (d : ℕ). record {
      depth = d;
      entries = map (λ place. number_at d place fresh
          (slice_index directory.entries (place / 2 ^ (d - directory.depth))) xs) (range_with_len 0 (2 ^ d));
    }) deep
    ∙ ap (λ (l : List ℕ). record { depth = depth_after directory ys; entries = l })
    (map-alike (λ place. number_at (depth_after directory ys) place fresh
    (slice_index directory.entries (place / 2 ^ (depth_after directory ys - directory.depth))) xs)
    (λ place. number_at (depth_after directory ys) place fresh
    (slice_index directory.entries (place / 2 ^ (depth_after directory ys - directory.depth))) ys)
    (λ place. number (depth_after directory ys) place
    (slice_index directory.entries (place / 2 ^ (depth_after directory ys - directory.depth))))
    (range_with_len 0 (2 ^ depth_after directory ys)))
  where
    deep : depth_after directory xs ≡ depth_after directory ys
    deep = deep-places directory.depth xs ∙ ap (deep_in directory.depth) same ∙ sym (deep-places directory.depth ys)

    number : (depth place was : ℕ) → number_at depth place fresh was xs ≡ number_at depth place fresh was ys
    number depth place was = number-places depth place fresh was xs ∙ ap (number_in depth place fresh was) same
        ∙ sym (number-places depth place fresh was ys)

-- ---- one leaf changes

module _ (test : NewLeaf → Bool) (g : NewLeaf → NewLeaf)
    (stays : (leaf : NewLeaf) → test leaf ≡ false → g leaf ≡ leaf) where
  -- where none passes, none changes
  none-change : (xs : List NewLeaf) → many test xs ≡ 0 → map g xs ≡ xs
  none-change [] none = refl
  none-change (x ∷ xs) none = go (test x) refl none (none-change xs)
    where
      go : (b : Bool) → test x ≡ b → cond b 1 0 + many test xs ≡ 0 → (many test xs ≡ 0 → map g xs ≡ xs) →
          g x ∷ map g xs ≡ x ∷ xs
      go true e n rest = absurd (omega (arith, n))
      go false e n rest = ap (λ y. y ∷ map g xs) (stays x e) ∙ ap (λ l. x ∷ l) (rest (omega (arith, n)))

  -- where one stands that passes, one passes
  some-there : (xs : List NewLeaf) (i : ℕ) (d : NewLeaf) → i < length xs → test (get_or xs i d) ≡ true →
      1 ≤ many test xs
  some-there [] i d lt e = absurd (omega (arith, lt))
  some-there (x ∷ xs) zero d lt e = (let one : cond (test x) 1 0 ≡ cond true 1 0 = ap flag e in omega (arith, one))
    where
      flag : Bool → ℕ
      flag b = cond b 1 0
  some-there (x ∷ xs) (suc i) d lt e = omega (arith, some-there xs i d (omega (arith, lt)) e)

  -- where one leaf alone passes, that one changes
  pub one-changes : (made : List Made) (i : ℕ) (old new : Made) → i < length made → old ≡ get_or made i old →
      test (as_leaf old) ≡ true
      → many test (map as_leaf made) ≤ 1 → as_leaf new ≡ g (as_leaf old) →
      map g (map as_leaf made) ≡ map as_leaf (set made i new)
  one-changes [] i old new lt is e one by = absurd (omega (arith, lt))
  one-changes (x ∷ made) zero old new lt is e one by =
      ap (λ y. y ∷ map g (map as_leaf made)) (ap (λ (l : Made). g (as_leaf l)) (sym is) ∙ sym by)
      ∙ ap (λ l. as_leaf new ∷ l) (none-change (map as_leaf made)
      (only (test (as_leaf x)) (ap (λ (l : Made). test (as_leaf l)) (sym is) ∙ e) one))
    where
      only : (b : Bool) → b ≡ true → cond b 1 0 + many test (map as_leaf made) ≤ 1 → many test (map as_leaf made) ≡ 0
      only true t n = omega (arith, n)
      only false t n = absurd (false≢true t)
  one-changes (x ∷ made) (suc i) old new lt is e one by =
      let within : i < length made = omega (arith, lt) in
      let there : 1 ≤ many test (map as_leaf made) =
      some-there (map as_leaf made) i (as_leaf old) (subst (λ n. i < n) (sym (length-map made as_leaf)) within)
      (ap test (get_or-map as_leaf made i old (as_leaf old) within ∙ ap as_leaf (sym is)) ∙ e) in
      go (test (as_leaf x)) refl one there (one-changes made i old new within is e)
    where
      go : (b : Bool) → test (as_leaf x) ≡ b → cond b 1 0 + many test (map as_leaf made) ≤ 1 →
          1 ≤ many test (map as_leaf made)
          → (many test (map as_leaf made) ≤ 1 → as_leaf new ≡ g (as_leaf old) →
          map g (map as_leaf made) ≡ map as_leaf (set made i new))
          → g (as_leaf x) ∷ map g (map as_leaf made) ≡ as_leaf x ∷ map as_leaf (set made i new)
      go true t n m rest = absurd (omega (arith, n, m))
      go false t n m rest = ap (λ y. y ∷ map g (map as_leaf made)) (stays (as_leaf x) t)
          ∙ ap (λ l. as_leaf x ∷ l) (rest (omega (arith, n)) by)

-- ---- the leaves of an opening, after some of its pairs

module _ (rules : Rules) (seats : ℕ) (all : List Pair) where
  -- one pair more, where the leaf has its key
  abbrev pub taking : Pair → NewLeaf → NewLeaf
  taking pair leaf = cond (takes_hash (hash_in rules pair.key) leaf)
      (record leaf { bucket = record leaf.bucket { items = leaf.bucket.items ++ pair ∷ [] } }) leaf

  -- one leaf with one pair more
  pub leaf-taking : (pairs : List Pair) (pair : Pair) (depth prefix : ℕ) →
      leaf_with rules seats (pairs ++ pair ∷ []) depth prefix ≡ taking pair (leaf_with rules seats pairs depth prefix)
  unfolding prefix_of
  leaf-taking pairs pair depth prefix =
      ap (λ (l : List Pair). record (leaf_with rules seats [] depth prefix) {
        bucket = record
            (leaf_with rules seats [] depth prefix).bucket { items = l };
      })
      (filter-append (λ (p : Pair). prefix_of rules depth p.key == prefix) pairs (pair ∷ []))
      ∙ go (prefix_of rules depth pair.key == prefix)
    where
      go : (b : Bool) → record (leaf_with rules seats [] depth prefix) {
        bucket = record
            (leaf_with rules seats [] depth prefix).bucket {
              items = filter
                  (λ (p : Pair). prefix_of rules depth p.key == prefix) pairs ++ cond b (pair ∷ []) [];
            };
      }
          ≡ cond b (record (leaf_with rules seats pairs depth prefix) {
            bucket = record
                (leaf_with rules seats pairs depth prefix).bucket {
                  items = filter
                      (λ (p : Pair). prefix_of rules depth p.key == prefix) pairs ++ pair ∷ [];
                };
          })
          (leaf_with rules seats pairs depth prefix)
      go true = refl
      go false =
          ap (λ (l : List Pair). record (leaf_with rules seats [] depth prefix) {
            bucket = record
                (leaf_with rules seats [] depth prefix).bucket { items = l };
          })
          (append-nil (filter (λ (p : Pair). prefix_of rules depth p.key == prefix) pairs))

  -- and the leaves below a prefix
  below-taking : (pairs : List Pair) (pair : Pair) (more depth prefix : ℕ) →
      below rules seats all (pairs ++ pair ∷ []) more depth prefix ≡ map (taking pair)
      (below rules seats all pairs more depth prefix)
  below-taking pairs pair zero depth prefix = ap (λ l. l ∷ []) (leaf-taking pairs pair depth prefix)
  below-taking pairs pair (suc more) depth prefix =
      go (nat_lt rules.items (held rules all depth prefix))
      (below-taking pairs pair more (suc depth) (2 * prefix + 0))
      (below-taking pairs pair more (suc depth) (2 * prefix + 1))
    where
      low : List Pair → List NewLeaf
      low ps = below rules seats all ps more (suc depth) (2 * prefix + 0)

      high : List Pair → List NewLeaf
      high ps = below rules seats all ps more (suc depth) (2 * prefix + 1)

      go : (b : Bool) → low (pairs ++ pair ∷ []) ≡ map (taking pair) (low pairs) →
          high (pairs ++ pair ∷ []) ≡ map (taking pair) (high pairs)
          → cond b (low (pairs ++ pair ∷ []) ++ high (pairs ++ pair ∷ []))
          (leaf_with rules seats (pairs ++ pair ∷ []) depth prefix ∷ []) ≡ map (taking pair)
          (cond b (low pairs ++ high pairs) (leaf_with rules seats pairs depth prefix ∷ []))
      go true e f = ap (λ l. l ++ high (pairs ++ pair ∷ [])) e ∙ ap (λ l. map (taking pair) (low pairs) ++ l) f
          ∙ sym (map-append (taking pair) (low pairs) (high pairs))
      go false e f = ap (λ l. l ∷ []) (leaf-taking pairs pair depth prefix)

  -- whose places do not rest on the pairs that they hold
  below-places : (ps qs : List Pair) (more depth prefix : ℕ) →
      map place_of (below rules seats all ps more depth prefix) ≡ map place_of
      (below rules seats all qs more depth prefix)
  below-places ps qs zero depth prefix = refl
  below-places ps qs (suc more) depth prefix =
      go (nat_lt rules.items (held rules all depth prefix)) (below-places ps qs more (suc depth) (2 * prefix + 0))
      (below-places ps qs more (suc depth) (2 * prefix + 1))
    where
      low : List Pair → List NewLeaf
      low ps = below rules seats all ps more (suc depth) (2 * prefix + 0)

      high : List Pair → List NewLeaf
      high ps = below rules seats all ps more (suc depth) (2 * prefix + 1)

      go : (b : Bool) → map place_of (low ps) ≡ map place_of (low qs) → map place_of (high ps) ≡ map place_of (high qs)
          → map place_of (cond b (low ps ++ high ps) (leaf_with rules seats ps depth prefix ∷ [])) ≡ map place_of
          (cond b (low qs ++ high qs) (leaf_with rules seats qs depth prefix ∷ []))
      go true e f = map-append place_of (low ps) (high ps) ∙ ap (λ l. l ++ map place_of (high ps)) e
          ∙ ap (λ l. map place_of (low qs) ++ l) f ∙ sym (map-append place_of (low qs) (high qs))
      go false e f = refl

  -- the leaf holds its part of the pairs
  abbrev IsWith : List Pair → NewLeaf → Type 0
  IsWith pairs leaf = leaf ≡ leaf_with rules seats pairs leaf.bucket.depth leaf.bucket.prefix

  -- and which hold their parts
  below-with : (pairs : List Pair) (more depth prefix : ℕ) →
      Each (IsWith pairs) (below rules seats all pairs more depth prefix)
  below-with pairs zero depth prefix = (refl, tt)
  below-with pairs (suc more) depth prefix =
      go (nat_lt rules.items (held rules all depth prefix)) (below-with pairs more (suc depth) (2 * prefix + 0))
      (below-with pairs more (suc depth) (2 * prefix + 1))
    where
      low : List NewLeaf
      low = below rules seats all pairs more (suc depth) (2 * prefix + 0)

      high : List NewLeaf
      high = below rules seats all pairs more (suc depth) (2 * prefix + 1)

      go : (b : Bool) → Each (IsWith pairs) low → Each (IsWith pairs) high →
          Each (IsWith pairs) (cond b (low ++ high) (leaf_with rules seats pairs depth prefix ∷ []))
      go true e f = each-append (IsWith pairs) low high e f
      go false e f = (refl, tt)

  module _ (start : ℕ) where
    -- the same of several prefixes: one pair more
    each-taking : (pairs : List Pair) (pair : Pair) (from count : ℕ) →
        below_each rules seats all (pairs ++ pair ∷ []) start from count ≡ map (taking pair)
        (below_each rules seats all pairs start from count)
    each-taking pairs pair from zero = refl
    each-taking pairs pair from (suc count) =
        ap (λ l. l ++ below_each rules seats all (pairs ++ pair ∷ []) start (suc from) count)
        (below-taking pairs pair (rules.depth - start) start from)
        ∙ ap (λ l. map (taking pair) (below rules seats all pairs (rules.depth - start) start from) ++ l)
        (each-taking pairs pair (suc from) count)
        ∙ sym (map-append (taking pair) (below rules seats all pairs (rules.depth - start) start from)
        (below_each rules seats all pairs start (suc from) count))

    -- the places
    each-places : (ps qs : List Pair) (from count : ℕ) →
        map place_of (below_each rules seats all ps start from count) ≡ map place_of
        (below_each rules seats all qs start from count)
    each-places ps qs from zero = refl
    each-places ps qs from (suc count) =
        map-append place_of (below rules seats all ps (rules.depth - start) start from)
        (below_each rules seats all ps start (suc from) count)
        ∙ ap (λ l. l ++ map place_of (below_each rules seats all ps start (suc from) count))
        (below-places ps qs (rules.depth - start) start from)
        ∙ ap (λ l. map place_of (below rules seats all qs (rules.depth - start) start from) ++ l)
        (each-places ps qs (suc from) count)
        ∙ sym (map-append place_of (below rules seats all qs (rules.depth - start) start from)
        (below_each rules seats all qs start (suc from) count))

    -- the parts
    each-with : (pairs : List Pair) (from count : ℕ) →
        Each (IsWith pairs) (below_each rules seats all pairs start from count)
    each-with pairs from zero = tt
    each-with pairs from (suc count) = each-append (IsWith pairs)
        (below rules seats all pairs (rules.depth - start) start from)
        (below_each rules seats all pairs start (suc from) count) (below-with pairs (rules.depth - start) start from)
        (each-with pairs (suc from) count)

module _ (rules : Rules) (seats start : ℕ) (first : List Pair) (can : CanOpen rules start first) where
  -- the leaves with these of the pairs
  abbrev pub leaves_with : List Pair → List NewLeaf
  leaves_with pairs = cut_leaves rules seats first pairs start

  -- the directory of the opening
  abbrev pub base : DirectoryState
  base = record { depth = start; entries = replicate (2 ^ start) 0 }

  -- and which names the leaves
  abbrev pub first_names : DirectoryState
  first_names = opening_directory start (leaves_with [])

  -- with all pairs they are the leaves of the opening
  pub opening-is : opening_leaves rules seats start first ≡ leaves_with first
  opening-is = opening-cuts rules seats start can.range can.within first can.distinct can.room

  -- with any pairs they have the same places
  pub same-places : (ps qs : List Pair) → map place_of (leaves_with ps) ≡ map place_of (leaves_with qs)
  same-places ps qs = each-places rules seats first start ps qs 0 (2 ^ start)

  -- so there are as many
  same-length : (ps qs : List Pair) → length (leaves_with ps) ≡ length (leaves_with qs)
  same-length ps qs = sym (length-map (leaves_with ps) place_of) ∙ ap length (same-places ps qs)
      ∙ length-map (leaves_with qs) place_of

  -- and each stands at its place
  place-at : (ps qs : List Pair) (k : ℕ) (d e : NewLeaf) → k < length (leaves_with ps) →
      place_of (get_or (leaves_with ps) k d) ≡ place_of (get_or (leaves_with qs) k e)
  place-at ps qs k d e lt =
      sym (get_or-map place_of (leaves_with ps) k d (place_of d) lt)
      ∙ ap (λ l. get_or l k (place_of d)) (same-places ps qs)
      ∙ get_or-map place_of (leaves_with qs) k e (place_of d) (omega (arith, lt, same-length ps qs))

  -- what the laws of an opening say of its leaves
  good-all : All (λ leaf. leaf.bucket.depth ≤ rules.depth) (leaves_with first)
  good-all k d lt = subst (λ l. All (λ leaf. leaf.bucket.depth ≤ rules.depth) l) opening-is
      (λ k d lt. ((is-opening rules seats start first can).good k d lt).0.within) k d lt

  -- no leaf has more pairs than there is room for
  few-all : All (λ leaf. length leaf.bucket.items ≤ rules.items) (leaves_with first)
  few-all k d lt = subst (λ l. All (λ leaf. length leaf.bucket.items ≤ rules.items) l) opening-is
      (λ k d lt. ((is-opening rules seats start first can).good k d lt).0.few) k d lt

  -- none is too deep, with any pairs
  shallow-all : (ps : List Pair) → All (λ leaf. leaf.bucket.depth ≤ rules.depth) (leaves_with ps)
  shallow-all ps k d lt =
      let same : (get_or (leaves_with ps) k d).bucket.depth ≡ (get_or (leaves_with first) k d).bucket.depth =
      ap (λ (l : Leaf). l.depth) (place-at ps first k d d lt) in
      omega (arith, same, good-all k d (omega (arith, lt, same-length ps first)))

  -- and each has a prefix of its depth
  pub prefix-all : (ps : List Pair) → All (λ leaf. leaf.bucket.prefix < 2 ^ leaf.bucket.depth) (leaves_with ps)
  prefix-all ps k d lt =
      let place : place_of (get_or (leaves_with ps) k d) ≡ place_of (get_or (leaves_with first) k d) =
      place-at ps first k d d lt in
      subst (λ (l : Leaf). l.prefix < 2 ^ l.depth) (sym place) (below-all k d (omega (arith, lt, same-length ps first)))
    where
      below-all : All (λ leaf. leaf.bucket.prefix < 2 ^ leaf.bucket.depth) (leaves_with first)
      below-all k d lt =
          subst (λ l. All (λ leaf. leaf.bucket.prefix < 2 ^ leaf.bucket.depth) l) opening-is
          (λ k d lt. ((is-opening rules seats start first can).good k d lt).0.below) k d lt

  -- and each hash has one leaf
  cover-all : (ps : List Pair) (h : ℕ) → h < 2 ^ 64 → many (takes_hash h) (leaves_with ps) ≡ 1
  cover-all ps h small =
      many-places h (leaves_with ps) ∙ ap (many (takes_at h))
      (same-places ps first ∙ ap (map place_of) (sym opening-is))
      ∙ many-count (takes_at h) (map place_of (opening_leaves rules seats start first))
      ∙ (is-opening rules seats start first can).cover h small

  -- the directory is no deeper than there is room for
  pub base-shallow : depth_after base (leaves_with []) ≤ rules.depth
  base-shallow = depth_after-least base (leaves_with []) rules.depth can.within (shallow-all [])

  -- nor in the end
  pub first-shallow : first_names.depth ≤ rules.depth
  first-shallow = now-shallow rules can.range base can.within 0 (leaves_with [])
      (recursion_from_All (λ leaf. leaf.bucket.depth ≤ rules.depth) (leaves_with []) (shallow-all []))

  module _ (pair : Pair) where
    -- the hash of the pair's key
    abbrev hash : ℕ
    hash = hash_in rules pair.key

    -- the number that the directory names for it
    abbrev pub own_place : ℕ
    own_place = bucket_of rules first_names pair.key

    -- that is a leaf which takes it
    found : IsNamed hash 0 (slice_index base.entries (first_bits hash base.depth)) (leaves_with [])
    found = named-some hash 0 (slice_index base.entries (first_bits hash base.depth)) (leaves_with [])
        (omega (arith, cover-all [] hash (hash_in-small rules pair.key)))

    -- it is this one
    own-found : own_place ≡ found.i
    unfolding prefix_of
    own-found =
        now-entry rules can.range base can.within 0 (leaves_with [])
        (recursion_from_All (λ leaf. leaf.bucket.depth ≤ rules.depth) (leaves_with []) (shallow-all [])) hash 0
        (hash_in-small rules pair.key)
        ∙ found.is ∙ omega arith

    -- it is one of the leaves
    pub own-inside : (ps : List Pair) → own_place < length (leaves_with ps)
    own-inside ps = omega (arith, own-found, found.within, same-length ps [])

    -- which takes the hash
    own-takes : (ps : List Pair) (d : NewLeaf) → takes_hash hash (get_or (leaves_with ps) own_place d) ≡ true
    own-takes ps d =
        ap (takes_at hash) (place-at ps [] own_place d d (own-inside ps))
        ∙ ap (λ k. takes_hash hash (get_or (leaves_with []) k d)) own-found ∙ found.takes d

    module _ (ps : List Pair) (made : List Made) (are : map as_leaf made ≡ leaves_with ps) where
      pub place-inside : own_place < length made
      place-inside = omega (arith, own-inside ps, ap length are, length-map made as_leaf)

      module _ (old : Made) (is : old ≡ get_or made own_place old) where
        old-leaf : get_or (leaves_with ps) own_place (as_leaf old) ≡ as_leaf old
        old-leaf = ap (λ l. get_or l own_place (as_leaf old)) (sym are)
            ∙ get_or-map as_leaf made own_place old (as_leaf old) place-inside ∙ ap as_leaf (sym is)

        old-takes : takes_hash hash (as_leaf old) ≡ true
        old-takes = ap (takes_hash hash) (sym old-leaf) ∙ own-takes ps (as_leaf old)

        -- the pair stands in its leaf
        pub pair-put : (new : Made) → as_leaf new ≡ record (as_leaf old) {
          bucket = record
              (as_leaf old).bucket { items = old.bucket.items.items ++ pair ∷ [] };
        }
            → map as_leaf (set made own_place new) ≡ leaves_with (ps ++ pair ∷ [])
        pair-put new by =
            sym (one-changes (takes_hash hash) (taking rules seats first pair)
            (λ leaf e. ap (λ b. cond b (record leaf {
              bucket = record
                  leaf.bucket { items = leaf.bucket.items ++ pair ∷ [] };
            }) leaf) e)
            made own_place old new place-inside is old-takes
            (omega (arith, ap (many (takes_hash hash)) are, cover-all ps hash (hash_in-small rules pair.key)))
            (by ∙ sym (ap (λ b. cond b (record (as_leaf old) {
              bucket = record
                  (as_leaf old).bucket { items = old.bucket.items.items ++ pair ∷ [] };
            }) (as_leaf old)) old-takes)))
            ∙ ap (map (taking rules seats first pair)) are
            ∙ sym (each-taking rules seats first start ps pair 0 (2 ^ start))

        -- for which there is a place
        pub pair-room : (back : List Pair) → first ≡ ps ++ pair ∷ back → length old.bucket.items.items < rules.items
        pair-room back cut =
            let depth : ℕ = old.bucket.depth in
            let prefix : ℕ = old.bucket.prefix in
            let leaf : NewLeaf = get_or (leaves_with first) own_place (as_leaf old) in
            let here = All-from_recursion (IsWith rules seats first ps) (leaves_with ps)
            (each-with rules seats first start ps 0 (2 ^ start)) own_place (as_leaf old) (own-inside ps) in
            let there = All-from_recursion (IsWith rules seats first first) (leaves_with first)
            (each-with rules seats first start first 0 (2 ^ start)) own_place (as_leaf old) (own-inside first) in
            let mine : as_leaf old ≡ leaf_with rules seats ps depth prefix =
            subst (IsWith rules seats first ps) old-leaf here in
            let place : place_of leaf ≡ place_of (as_leaf old) =
            place-at first ps own_place (as_leaf old) (as_leaf old) (own-inside first) ∙ ap place_of old-leaf in
            let all : leaf ≡ leaf_with rules seats first depth prefix =
            there ∙ ap (λ (l : Leaf). leaf_with rules seats first l.depth l.prefix) place in
            let few : length leaf.bucket.items ≤ rules.items = few-all own_place (as_leaf old) (own-inside first) in
            let long : length leaf.bucket.items ≡ held rules first depth prefix =
            ap (λ (l : NewLeaf). length l.bucket.items) all ∙ held-length rules seats first depth prefix in
            let mine_long : length old.bucket.items.items ≡ held rules ps depth prefix =
            ap (λ (l : NewLeaf). length l.bucket.items) mine ∙ held-length rules seats ps depth prefix in
            omega (arith, few, long, mine_long, parts depth prefix (prefix_here old-takes))
          where
            prefix_here : takes_hash hash (as_leaf old) ≡ true →
                (prefix_of rules old.bucket.depth pair.key == old.bucket.prefix) ≡ true
            prefix_here e = ap (λ n. n == old.bucket.prefix) (prefix_of-hash rules old.bucket.depth pair.key) ∙ e

            parts : (depth prefix : ℕ) → (prefix_of rules depth pair.key == prefix) ≡ true →
                held rules ps depth prefix + 1 ≤ held rules first depth prefix
            parts depth prefix e =
                let test : Pair → Bool = λ (p : Pair). prefix_of rules depth p.key == prefix in
                let one : one_if test pair ≡ 1 = ap (λ b. cond b 1 0) e in
                omega (
                  arith,
                  many-count test ps,
                  many-count test first,
                  ap (many test) cut,
                  total-append (one_if test) ps (pair ∷ back),
                  one,
                )

  -- ---- the pair at a place of the list

  module _ (place : ℕ) (nobody : Pair) (inside : place < length first) (made : List Made)
      (are : map as_leaf made ≡ leaves_with (take place first))
      (directory : DirectoryState) (names : directory ≡ first_names) (own : ℕ)
      (is_own : own ≡ bucket_of rules directory (get_or first place nobody).key) where
    -- the pair
    abbrev it : Pair
    it = get_or first place nobody

    -- the directory names its leaf
    it-own : own ≡ own_place it
    it-own = is_own ∙ ap (λ (d : DirectoryState). bucket_of rules d (get_or first place nobody).key) names

    -- has a leaf
    pub put-inside : own < length made
    put-inside = omega (arith, it-own, place-inside it (take place first) made are)

    module _ (old : Made) (is : old ≡ get_or made own old) where
      was : old ≡ get_or made (own_place it) old
      was = is ∙ ap (λ k. get_or made k old) it-own

      -- with a place for it
      pub put-room : length old.bucket.items.items < rules.items
      put-room = pair-room it (take place first) made are old was (drop (suc place) first)
          (cut_at first place nobody inside)

      -- which it takes
      pub put-leaves : (new : Made) → as_leaf new ≡ record (as_leaf old) {
        bucket = record
            (as_leaf old).bucket { items = old.bucket.items.items ++ it ∷ [] };
      }
          → map as_leaf (set made own new) ≡ leaves_with (take (place + 1) first)
      put-leaves new by =
          ap (λ k. map as_leaf (set made k new)) it-own ∙ pair-put it (take place first) made are old was new by
          ∙ ap leaves_with (sym (take_more first place nobody inside))
