-- A directory with new leaves: what stands at each of its places.
use Rattle.std.proofs.Common.{◌≡◌, ℕ, zero, suc, ◌+◌, ◌-◌, ◌*◌, ◌/◌, ◌^◌, ◌<◌, ◌≤◌, ◌⊎◌, inl, inr, Bool, true, false, cond, List, [], ◌∷◌, length, get_or, refl, sym, ap, ◌∙◌, subst, arith}
use Rattle.std.specs.Prelude.{◌==◌, slice_index}
use Rattle.std.specs.List.{AllByRecursion as Each}
use Rattle.std.proofs.lemmas.Bool.{cases_lt, eqb-true, eq-eqb}
use Rattle.hash_bits.specs.Prefix.{first_bits}
use Rattle.hash_bits.proofs.PrefixLemmas.{first_bits-within}
use Rattle.plain_map.specs.declared.rules.Rules.{Rules}
use Rattle.plain_map.specs.PlainObject.{InRange}
use Rattle.table_model.specs.Directories.{DirectoryState}
use Rattle.table_model.specs.Leaves.{NewLeaf}
use Rattle.table_model.specs.DirectoryLaws.{StandsIn, takes_hash}
use Rattle.list_laws.proofs.Totals.{many}
use Rattle.hash_bits.proofs.FewerBits.{first_bits-fewer}
use Rattle.change_laws.proofs.Splits.{Shallow}
use Rattle.std.specs.Prelude.{IfSome, slice_get, not, max, fold}
use Rattle.std.specs.List.{position_or_len}
use Rattle.std.proofs.lemmas.Nat.{shr_high, pow_pos, shl_below}
use Rattle.std.proofs.lemmas.List.FromFn.{length-map-range_with_len, get_or-map-range_with_len}
use Rattle.std.proofs.lemmas.List.Elements.{All-from_recursion}
use Rattle.table_model.specs.DirectoryChange.{with_leaves, number_at}

-- ---- depths

deeper : NewLeaf → ℕ → ℕ
deeper leaf depth = max depth leaf.bucket.depth

-- the greatest of a depth and of the leaves' depths
abbrev deep_from : ℕ → List NewLeaf → ℕ
deep_from d leaves = fold (λ depth leaf. max depth leaf.bucket.depth) d leaves

-- it is that depth at least
deep-more : (d : ℕ) (leaves : List NewLeaf) → d ≤ deep_from d leaves
deep-more d [] = omega arith
deep-more d (leaf ∷ leaves) = omega (arith, deep-more (max d leaf.bucket.depth) leaves)

-- and each leaf's
deep-each : (d : ℕ) (leaves : List NewLeaf) → Each (λ leaf. leaf.bucket.depth ≤ deep_from d leaves) leaves
deep-each d leaves = go d leaves (deep_from d leaves) (omega arith)
  where
    go : (d : ℕ) (leaves : List NewLeaf) (m : ℕ) → deep_from d leaves ≤ m → Each (λ leaf. leaf.bucket.depth ≤ m) leaves
    go d [] m e = tt
    go d (leaf ∷ leaves) m e =
        (omega (arith, e, deep-more (max d leaf.bucket.depth) leaves), go (max d leaf.bucket.depth) leaves m e)

-- and no greater than what bounds them all
deep-least : (d m : ℕ) (leaves : List NewLeaf) → d ≤ m → Each (λ leaf. leaf.bucket.depth ≤ m) leaves →
    deep_from d leaves ≤ m
deep-least d m [] le each = le
deep-least d m (leaf ∷ leaves) le each =
    deep-least (max d leaf.bucket.depth) m leaves (omega (arith, le, each.0)) each.1

-- the greatest is the first, or that of a leaf
pub deep-of-one : (d : ℕ) (leaves : List NewLeaf) → (deep_from d leaves ≡ d)
    ⊎ ((i : ℕ) × (i < length leaves) × ((x : NewLeaf) → (get_or leaves i x).bucket.depth ≡ deep_from d leaves))
deep-of-one d [] = inl refl
deep-of-one d (leaf ∷ leaves) = go (cases_lt d leaf.bucket.depth) (deep-of-one (max d leaf.bucket.depth) leaves)
  where
    go : (d < leaf.bucket.depth) ⊎ (leaf.bucket.depth ≤ d) →
        (deep_from (max d leaf.bucket.depth) leaves ≡ max d leaf.bucket.depth)
        ⊎ ((i : ℕ) × (i < length leaves) × ((x : NewLeaf) →
        (get_or leaves i x).bucket.depth ≡ deep_from (max d leaf.bucket.depth) leaves))
        → (deep_from (max d leaf.bucket.depth) leaves ≡ d)
        ⊎ ((i : ℕ) × (i < suc (length leaves))
        × ((x : NewLeaf) → (get_or (leaf ∷ leaves) i x).bucket.depth ≡ deep_from (max d leaf.bucket.depth) leaves))
    go more (inr r) = inr (suc r.0, omega (arith, r.1), r.2)
    go (inl lt) (inl e) = inr (0, omega arith, λ x. omega (arith, e, lt))
    go (inr ge) (inl e) = inl (omega (arith, e, ge))

-- ---- the number of the leaf of a hash

abbrev pub named : (h fresh was : ℕ) → List NewLeaf → ℕ
named h fresh was [] = was
named h fresh was (leaf ∷ leaves) = cond (takes_hash h leaf) fresh (named h (suc fresh) was leaves)

-- the number at a place of the hash is that of its first leaf
number-named : (h depth fresh was : ℕ) (leaves : List NewLeaf) → depth ≤ 64 →
    Each (λ leaf. leaf.bucket.depth ≤ depth) leaves →
    number_at depth (first_bits h depth) fresh was leaves ≡ named h fresh was leaves
number-named h depth fresh was [] small each = refl
number-named h depth fresh was (leaf ∷ leaves) small each =
    ap (λ n. cond (n == leaf.bucket.prefix) fresh (number_at depth (first_bits h depth) (suc fresh) was leaves))
    (first_bits-fewer h depth leaf.bucket.depth each.0 small)
    ∙ ap (cond (takes_hash h leaf) fresh) (number-named h depth (suc fresh) was leaves small each.1)

-- where no leaf takes the hash the number is what was there
pub named-none : (h fresh was : ℕ) (leaves : List NewLeaf) → many (takes_hash h) leaves ≡ 0 →
    named h fresh was leaves ≡ was
named-none h fresh was [] none = refl
named-none h fresh was (leaf ∷ leaves) none = go (takes_hash h leaf) none (named-none h (suc fresh) was leaves)
  where
    go : (b : Bool) → cond b 1 0 + many (takes_hash h) leaves ≡ 0 →
        (many (takes_hash h) leaves ≡ 0 → named h (suc fresh) was leaves ≡ was) →
        cond b fresh (named h (suc fresh) was leaves) ≡ was
    go true n rest = absurd (omega (arith, n))
    go false n rest = rest (omega (arith, n))

-- a leaf that takes the hash is named
pub record IsNamed (h fresh was : ℕ) (leaves : List NewLeaf) : Type 0 where
  pub i : ℕ
  pub within : i < length leaves
  pub is : named h fresh was leaves ≡ fresh + i
  pub takes : (d : NewLeaf) → takes_hash h (get_or leaves i d) ≡ true

-- where one takes it the number is that of a leaf which takes it
pub named-some : (h fresh was : ℕ) (leaves : List NewLeaf) → 1 ≤ many (takes_hash h) leaves → IsNamed h fresh was leaves
named-some h fresh was [] some = absurd (omega (arith, some))
named-some h fresh was (leaf ∷ leaves) some = go (takes_hash h leaf) refl some (named-some h (suc fresh) was leaves)
  where
    go : (b : Bool) → takes_hash h leaf ≡ b → 1 ≤ cond b 1 0 + many (takes_hash h) leaves →
        (1 ≤ many (takes_hash h) leaves → IsNamed h (suc fresh) was leaves) → IsNamed h fresh was (leaf ∷ leaves)
    go true e n rest = record {
      i = 0;
      within = omega arith;
      is = ap (λ b. cond b fresh (named h (suc fresh) was leaves)) e ∙ omega arith;
      takes = λ d. e;
    }
    go false e n rest =
        let r = rest (omega (arith, n)) in
        record {
          i = suc r.i;
          within = omega (arith, r.within);
          is = ap (λ b. cond b fresh (named h (suc fresh) was leaves)) e ∙ r.is ∙ omega arith;
          takes = λ d. r.takes d;
        }

-- and where at most one takes it, it is that
pub named-at : (h fresh was i : ℕ) (d : NewLeaf) (leaves : List NewLeaf) → i < length leaves →
    takes_hash h (get_or leaves i d) ≡ true → many (takes_hash h) leaves ≤ 1 → named h fresh was leaves ≡ fresh + i
named-at h fresh was i d [] lt e one = absurd (omega (arith, lt))
named-at h fresh was zero d (leaf ∷ leaves) lt e one =
    ap (λ b. cond b fresh (named h (suc fresh) was leaves)) e ∙ omega arith
named-at h fresh was (suc i) d (leaf ∷ leaves) lt e one =
    go (takes_hash h leaf) one (named-at h (suc fresh) was i d leaves (omega (arith, lt)) e)
    (some i leaves (omega (arith, lt)) e)
  where
    some : (i : ℕ) (xs : List NewLeaf) → i < length xs → takes_hash h (get_or xs i d) ≡ true →
        1 ≤ many (takes_hash h) xs
    some i [] lt e = absurd (omega (arith, lt))
    some zero (x ∷ xs) lt e = (let one : cond (takes_hash h x) 1 0 ≡ cond true 1 0 = ap (λ b. flag b) e in
        omega (arith, one))
      where
        flag : Bool → ℕ
        flag b = cond b 1 0
    some (suc i) (x ∷ xs) lt e = omega (arith, some i xs (omega (arith, lt)) e)

    go : (b : Bool) → cond b 1 0 + many (takes_hash h) leaves ≤ 1 →
        (many (takes_hash h) leaves ≤ 1 → named h (suc fresh) was leaves ≡ suc fresh + i) →
        1 ≤ many (takes_hash h) leaves → cond b fresh (named h (suc fresh) was leaves) ≡ fresh + suc i
    go true n rest s = absurd (omega (arith, n, s))
    go false n rest s = rest (omega (arith, n)) ∙ omega arith

-- it is the first
pub named-first : (h fresh was : ℕ) (leaves : List NewLeaf) → position_or_len (takes_hash h) leaves < length leaves →
    named h fresh was leaves ≡ fresh + position_or_len (takes_hash h) leaves
named-first h fresh was [] lt = absurd (omega (arith, lt))
named-first h fresh was (leaf ∷ leaves) lt = go (takes_hash h leaf) lt (named-first h (suc fresh) was leaves)
  where
    go : (b : Bool) → cond (not b) (1 + position_or_len (takes_hash h) leaves) 0 < suc (length leaves) →
        (position_or_len (takes_hash h) leaves < length leaves →
        named h (suc fresh) was leaves ≡ suc fresh + position_or_len (takes_hash h) leaves)
        → cond b fresh (named h (suc fresh) was leaves) ≡ fresh + cond (not b)
        (1 + position_or_len (takes_hash h) leaves) 0
    go true n rest = omega arith
    go false n rest = rest (omega (arith, n)) ∙ omega arith

-- ---- places and hashes

-- a place as the first bits of a hash
pub record IsPlaceOf (depth place h : ℕ) : Type 0 where
  pub small : h < 2 ^ 64
  pub is : first_bits h depth ≡ place

-- each place is that of a hash
pub hash-of : (depth place : ℕ) → depth ≤ 64 → place < 2 ^ depth → IsPlaceOf depth place (place * 2 ^ (64 - depth))
unfolding first_bits
hash-of depth place small lt =
    let widths : depth + (64 - depth) ≡ 64 = omega (arith, small) in
    let below : place * 2 ^ (64 - depth) < 2 ^ (depth + (64 - depth)) = shl_below place depth (64 - depth) lt in
    let high : (place * 2 ^ (64 - depth) + 0) / 2 ^ (64 - depth) ≡ place =
    shr_high place (64 - depth) 0 (pow_pos (64 - depth)) in
    record {
      small = subst (λ n. place * 2 ^ (64 - depth) < 2 ^ n) widths below;
      is = ap (λ n. n / 2 ^ (64 - depth)) (omega arith) ∙ high;
    }

-- ---- the directory with the leaves

module _ (rules : Rules) (range : InRange rules) (directory : DirectoryState) (within : directory.depth ≤ rules.depth)
    (fresh : ℕ) (leaves : List NewLeaf) (shallow : Each (Shallow rules) leaves) where
  -- the directory with the leaves
  abbrev now : DirectoryState
  now = with_leaves fresh leaves directory

  -- the bucket that the old directory names for a hash
  abbrev before : ℕ → ℕ
  before h = slice_index directory.entries (first_bits h directory.depth)

  -- its depth is the greatest of its own and of the leaves'
  pub now-depth : now.depth ≡ deep_from directory.depth leaves
  unfolding with_leaves
  now-depth = refl

  -- it is no deeper than it may be
  pub now-shallow : now.depth ≤ rules.depth
  now-shallow = omega (arith, now-depth, deep-least directory.depth rules.depth leaves within shallow)

  -- nor less deep than before
  pub now-more : directory.depth ≤ now.depth
  now-more = omega (arith, now-depth, deep-more directory.depth leaves)

  -- nor less deep than a leaf
  pub now-each : Each (λ leaf. leaf.bucket.depth ≤ now.depth) leaves
  unfolding with_leaves
  now-each = deep-each directory.depth leaves

  -- its depth is the old one, or that of a leaf
  pub now-of-one : (now.depth ≡ directory.depth)
      ⊎ ((i : ℕ) × (i < length leaves) × ((x : NewLeaf) → (get_or leaves i x).bucket.depth ≡ now.depth))
  unfolding with_leaves
  now-of-one = deep-of-one directory.depth leaves

  -- it has all its places
  pub now-long : length now.entries ≡ 2 ^ now.depth
  unfolding with_leaves
  now-long = length-map-range_with_len _ 0 (2 ^ deep_from directory.depth leaves)

  -- what stands at the place of a hash
  pub now-entry : (h d : ℕ) → h < 2 ^ 64 →
      get_or now.entries (first_bits h now.depth) d ≡ named h fresh (before h) leaves
  unfolding with_leaves
  now-entry h d small =
      let deep : deep_from directory.depth leaves ≤ 64 =
      omega (arith, deep-least directory.depth rules.depth leaves within shallow, range.depth) in
      let inside = first_bits-within h (deep_from directory.depth leaves) small deep in
      get_or-map-range_with_len _ 0 (2 ^ deep_from directory.depth leaves)
      (first_bits h (deep_from directory.depth leaves)) (first_bits h (deep_from directory.depth leaves)) d inside
      (omega arith)
      ∙ ap (λ n. number_at (deep_from directory.depth leaves) (first_bits h (deep_from directory.depth leaves)) fresh
      (slice_index directory.entries n) leaves) (first_bits-fewer h (deep_from directory.depth leaves) directory.depth
      (deep-more directory.depth leaves) deep)
      ∙ number-named h (deep_from directory.depth leaves) fresh (before h) leaves deep
      (deep-each directory.depth leaves)

  -- a place of it as a hash
  pub now-hash : (place : ℕ) → place < 2 ^ now.depth → (h : ℕ) × IsPlaceOf now.depth place h
  now-hash place lt =
      (place * 2 ^ (64 - now.depth), hash-of now.depth place (omega (arith, now-shallow, range.depth)) lt)

  -- the first bits of a place are those of its hash
  pub place-bits : (place h deep : ℕ) → IsPlaceOf now.depth place h → deep ≤ now.depth →
      place / 2 ^ (now.depth - deep) ≡ first_bits h deep
  place-bits place h deep at le =
      ap (λ n. n / 2 ^ (now.depth - deep)) (sym at.is)
      ∙ first_bits-fewer h now.depth deep le (omega (arith, now-shallow, range.depth))

  -- a new leaf stands in it
  pub leaf-stands : ((h : ℕ) → h < 2 ^ 64 → many (takes_hash h) leaves ≤ 1) →
      ((h : ℕ) → h < 2 ^ 64 → many (takes_hash h) leaves ≡ 0 → (before h < fresh) ⊎ (fresh + length leaves ≤ before h))
      → (i : ℕ) (d : NewLeaf) → i < length leaves → StandsIn now (fresh + i) (get_or leaves i d).bucket
  leaf-stands one free i d lt = record {
    shallow = low;
    places = λ place inside. (λ e. to place inside e, λ e. from place inside e);
  }
    where
      low : (get_or leaves i d).bucket.depth ≤ now.depth
      low = All-from_recursion (λ leaf. leaf.bucket.depth ≤ now.depth) leaves now-each i d lt

      to : (place : ℕ) → place < 2 ^ now.depth → slice_index now.entries place ≡ fresh + i →
          place / 2 ^ (now.depth - (get_or leaves i d).bucket.depth) ≡ (get_or leaves i d).bucket.prefix
      to place inside e =
          let h = now-hash place inside in
          let entry : named h.0 fresh (before h.0) leaves ≡ fresh + i =
          sym (now-entry h.0 0 h.1.small) ∙ ap (λ n. get_or now.entries n 0) h.1.is ∙ e in
          place-bits place h.0 (get_or leaves i d).bucket.depth h.1 low
          ∙ by h.0 h.1.small entry (cases_lt 0 (many (takes_hash h.0) leaves))
        where
          by : (h : ℕ) → h < 2 ^ 64 → named h fresh (before h) leaves ≡ fresh + i → (0 < many (takes_hash h) leaves)
              ⊎ (many (takes_hash h) leaves ≤ 0) →
              first_bits h (get_or leaves i d).bucket.depth ≡ (get_or leaves i d).bucket.prefix
          by h small entry (inl some) =
              let n = named-some h fresh (before h) leaves some in
              let same : n.i ≡ i = omega (arith, n.is, entry) in
              eqb-true (first_bits h (get_or leaves i d).bucket.depth) (get_or leaves i d).bucket.prefix
              (ap (λ k. takes_hash h (get_or leaves k d)) (sym same) ∙ n.takes d)
          by h small entry (inr none) =
              let zero_ : many (takes_hash h) leaves ≡ 0 = omega (arith, none) in
              let was = named-none h fresh (before h) leaves zero_ in
              absurd (elim (free h small zero_) [
                | inl f ↦ omega (arith, f, was, entry)
                | inr f ↦
                    omega (arith, f, was, entry, lt)
              ])

      from : (place : ℕ) → place < 2 ^ now.depth →
          place / 2 ^ (now.depth - (get_or leaves i d).bucket.depth) ≡ (get_or leaves i d).bucket.prefix →
          slice_index now.entries place ≡ fresh + i
      from place inside e =
          let h = now-hash place inside in
          let takes : takes_hash h.0 (get_or leaves i d) ≡ true =
          eq-eqb (first_bits h.0 (get_or leaves i d).bucket.depth) (get_or leaves i d).bucket.prefix
          (sym (place-bits place h.0 (get_or leaves i d).bucket.depth h.1 low) ∙ e) in
          ap (λ n. get_or now.entries n 0) (sym h.1.is) ∙ now-entry h.0 0 h.1.small
          ∙ named-at h.0 fresh (before h.0) i d leaves lt takes (one h.0 h.1.small)

-- what is there at an index
pub got : {A : Type 0} (P : A → Type 0) (xs : List A) (i : ℕ) → ((d : A) → i < length xs → P (get_or xs i d)) →
    IfSome (slice_get xs i) P
got P [] i h = tt
got P (x ∷ xs) zero h = h x (omega arith)
got P (x ∷ xs) (suc i) h = got P xs i (λ d lt. h d (omega (arith, lt)))
