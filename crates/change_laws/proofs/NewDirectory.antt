-- The laws of the new directory.
use Rattle.std.proofs.Common.{◌≡◌, ℕ, ◌+◌, ◌-◌, ◌*◌, ◌/◌, ◌^◌, ◌<◌, ◌≤◌, ◌⊎◌, inl, inr, Bool, true, false, cond, List, length, get_or, Option, Some, None, refl, sym, ap, ◌∙◌, subst, arith}
use Rattle.std.specs.Prelude.{nat_lt, slice_index, ◌==◌}
use Rattle.std.specs.Option.{option_map_or}
use Rattle.std.specs.List.{All}
use Rattle.std.proofs.lemmas.Bool.{cases_lt, ltb-true, eqb-true}
use Rattle.hash_bits.specs.Prefix.{first_bits}
use Rattle.hash_bits.proofs.PrefixLemmas.{first_bits-within}
use Rattle.plain_map.specs.declared.rules.Rules.{Rules}
use Rattle.bucket_states.specs.declared.ops.Op.{Op}
use Rattle.bucket_states.specs.Laws.{IsGood}
use Rattle.table_model.specs.Directories.{DirectoryState}
use Rattle.table_model.specs.Leaves.{NewLeaf}
use Rattle.table_model.specs.DirectoryChange.{LoadedBucket, loaded_of, comes_from}
use Rattle.table_model.specs.DirectoryLaws.{StandsIn, CanChange, takes_hash}
use Rattle.list_laws.proofs.Totals.{many, any_some, each-both, found-each, found-some}
use Rattle.change_laws.proofs.Splits.{Apart}
use Rattle.std.specs.Prelude.{◌≢◌, IfSome, position, slice_get}
use Rattle.std.specs.List.{position_or_len}
use Rattle.std.proofs.lemmas.Nat.{shr_high, pow_pos, shl_below}
use Rattle.table_model.specs.DirectoryChange.{change_leaves, with_leaves}
use Rattle.table_model.specs.DirectoryLaws.{is_replaced, DirectoryNamesLeaves}
use Rattle.table_model.specs.DirectoryLaws.{DirectoryStaysRight, BucketsStay, ReplacedAreLeft, DepthIsOfOne}
use Rattle.change_laws.proofs.Walk.{Walk, IsLeaf, stands-hash, apart}
use Rattle.change_laws.proofs.Seats.{whole-change, all_replies}
use Rattle.change_laws.proofs.Directories.{named, named-none, named-some, named-first, now-shallow, now-more, now-each, now-long, now-of-one, now-entry, now-hash, place-bits, leaf-stands, got}

module _ (rules : Rules) (seats : ℕ) (directory : DirectoryState) (loaded : List LoadedBucket)
    (ops : List (Option Op)) (can : CanChange rules seats directory loaded ops) (fresh : ℕ) where
  -- the new leaves
  abbrev leaves : List NewLeaf
  leaves = change_leaves rules directory loaded ops

  -- the new directory
  abbrev now : DirectoryState
  now = with_leaves fresh leaves directory

  -- the bucket that the old directory names for a hash
  abbrev before : ℕ → ℕ
  before h = slice_index directory.entries (first_bits h directory.depth)

  -- what is known of the leaves in the end
  walked : Walk rules seats directory loaded ops (all_replies rules seats directory loaded ops can) seats leaves
  unfolding change_leaves
  walked = (whole-change rules seats directory loaded ops can).0

  -- no two leaves take one hash
  parted : Apart rules leaves
  parted = apart rules seats directory loaded ops can (all_replies rules seats directory loaded ops can) seats leaves
      walked

  -- what the new directory names for a hash
  entry : (h d : ℕ) → h < 2 ^ 64 → get_or now.entries (first_bits h now.depth) d ≡ named h fresh (before h) leaves
  entry h d small = now-entry rules can.range directory can.within fresh leaves parted.shallow h d small

  -- a hash whose bucket is not replaced is taken by no leaf
  untaken : (h : ℕ) → h < 2 ^ 64 → is_replaced (before h) leaves ≡ false → many (takes_hash h) leaves ≡ 0
  untaken h small e = walked.cover h small ∙ ap flag e
    where
      flag : Bool → ℕ
      flag b = cond b 1 0

  -- a hash whose bucket is replaced has one leaf
  taken : (h : ℕ) → h < 2 ^ 64 → is_replaced (before h) leaves ≡ true → many (takes_hash h) leaves ≡ 1
  taken h small e = walked.cover h small ∙ ap flag e
    where
      flag : Bool → ℕ
      flag b = cond b 1 0

  -- and one whose bucket is replaced has a leaf
  pub left : (h : ℕ) → h < 2 ^ 64 → is_replaced (before h) leaves ≡ true → (i : ℕ) × (i < length leaves)
      × (slice_index now.entries (first_bits h now.depth) ≡ fresh + i)
  left h small away = (let n = named-some h fresh (before h) leaves (omega (arith, taken h small away)) in
      (n.i, n.within, entry h 0 small ∙ n.is))

  -- each hash has the number of its leaf, or what it had
  pub names : (h : ℕ) → h < 2 ^ 64 → (is_replaced (before h) leaves ≡ false →
      slice_index now.entries (first_bits h now.depth) ≡ before h) × IfSome (position (takes_hash h) leaves) (λ i.
      slice_index now.entries (first_bits h now.depth) ≡ fresh + i)
  names h small = (
    λ e. entry h 0 small ∙ named-none h fresh (before h) leaves (untaken h small e),
    go (nat_lt (position_or_len (takes_hash h) leaves) (length leaves)) refl,
  )
    where
      go : (b : Bool) → nat_lt (position_or_len (takes_hash h) leaves) (length leaves) ≡ b →
          IfSome (cond b (Some (position_or_len (takes_hash h) leaves)) None)
          (λ i. slice_index now.entries (first_bits h now.depth) ≡ fresh + i)
      go true e = entry h 0 small ∙ named-first h fresh (before h) leaves
          (ltb-true (position_or_len (takes_hash h) leaves) (length leaves) e)
      go false e = tt

  -- ---- where the new numbers are free

  module _ (free : All (λ number. (number < fresh) ⊎ (fresh + length leaves ≤ number)) directory.entries) where
    -- no old number is a new one
    free-at : (h : ℕ) → h < 2 ^ 64 → (before h < fresh) ⊎ (fresh + length leaves ≤ before h)
    free-at h small = free (first_bits h directory.depth) 0 (omega (
      arith,
      can.places,
      first_bits-within h directory.depth small (omega (arith, can.within, can.range.depth)),
    ))

    -- each new leaf stands in the new directory
    leaf-in : (i : ℕ) → IfSome (slice_get leaves i) (λ leaf. StandsIn now (fresh + i) leaf.bucket)
    leaf-in i = got (λ leaf. StandsIn now (fresh + i) leaf.bucket) leaves i
        (λ d lt. leaf-stands rules can.range directory can.within fresh leaves parted.shallow parted.one
        (λ h small none. free-at h small) i d lt)

    -- a bucket that stands in the directory has no new number
    not-new : (l : LoadedBucket) → IsGood rules seats l.state → StandsIn directory l.bucket l.state → (i : ℕ) →
        i < length leaves → l.bucket ≡ fresh + i → ⊥
    not-new l good stand i lt e =
        let rest : ℕ = directory.depth - l.state.depth in
        let widths : l.state.depth + rest ≡ directory.depth = omega (arith, stand.shallow) in
        let inside : l.state.prefix * 2 ^ rest < 2 ^ directory.depth =
        subst (λ n. l.state.prefix * 2 ^ rest < 2 ^ n) widths (shl_below l.state.prefix l.state.depth rest good.below)
        in
        let high : (l.state.prefix * 2 ^ rest + 0) / 2 ^ rest ≡ l.state.prefix =
        shr_high l.state.prefix rest 0 (pow_pos rest) in
        let place : l.state.prefix * 2 ^ rest / 2 ^ rest ≡ l.state.prefix =
        ap (λ n. n / 2 ^ rest) (omega arith) ∙ high in
        let at = (stand.places (l.state.prefix * 2 ^ rest) inside).1 place in
        elim (free (l.state.prefix * 2 ^ rest) 0 (omega (arith, inside, can.places)))
        [ inl f ↦ omega (arith, f, at, e) | inr f ↦ omega (arith, f, at, e, lt) ]

    -- what stands at a hash is the old bucket, or no loaded one
    old-at : (l : LoadedBucket) → IsGood rules seats l.state → StandsIn directory l.bucket l.state → (h : ℕ) →
        h < 2 ^ 64 → named h fresh (before h) leaves ≡ l.bucket → (before h ≡ l.bucket)
        × (many (takes_hash h) leaves ≡ 0)
    old-at l good stand h small e = by (cases_lt 0 (many (takes_hash h) leaves))
      where
        by : (0 < many (takes_hash h) leaves) ⊎ (many (takes_hash h) leaves ≤ 0) → (before h ≡ l.bucket)
            × (many (takes_hash h) leaves ≡ 0)
        by (inl some) = (let n = named-some h fresh (before h) leaves some in
            absurd (not-new l good stand n.i n.within (sym e ∙ n.is)))
        by (inr none) = (let zero_ : many (takes_hash h) leaves ≡ 0 = omega (arith, none) in
            (sym (named-none h fresh (before h) leaves zero_) ∙ e, zero_))

    -- a bucket that is not replaced stands there still
    pub stays : (l : LoadedBucket) → IsGood rules seats l.state → StandsIn directory l.bucket l.state →
        is_replaced l.bucket leaves ≡ false → StandsIn now l.bucket l.state
    stays l good stand kept = record {
      shallow = low;
      places = λ place inside. (λ e. to place inside e, λ e. from place inside e);
    }
      where
        low : l.state.depth ≤ now.depth
        low = omega (arith, stand.shallow, now-more rules can.range directory can.within fresh leaves parted.shallow)

        to : (place : ℕ) → place < 2 ^ now.depth → slice_index now.entries place ≡ l.bucket →
            place / 2 ^ (now.depth - l.state.depth) ≡ l.state.prefix
        to place inside e =
            let h = now-hash rules can.range directory can.within fresh leaves parted.shallow place inside in
            let old = old-at l good stand h.0 h.1.small (sym (entry h.0 0 h.1.small)
            ∙ ap (λ n. get_or now.entries n 0) h.1.is ∙ e) in
            place-bits rules can.range directory can.within fresh leaves parted.shallow place h.0 l.state.depth h.1
            low ∙ (stands-hash rules seats directory loaded ops can l.bucket l.state h.0 stand h.1.small).0 old.0

        from : (place : ℕ) → place < 2 ^ now.depth → place / 2 ^ (now.depth - l.state.depth) ≡ l.state.prefix →
            slice_index now.entries place ≡ l.bucket
        from place inside e =
            let h = now-hash rules can.range directory can.within fresh leaves parted.shallow place inside in
            let old : before h.0 ≡ l.bucket =
            (stands-hash rules seats directory loaded ops can l.bucket l.state h.0 stand h.1.small).1
            (sym (place-bits rules can.range directory can.within fresh leaves parted.shallow place h.0 l.state.depth
            h.1 low) ∙ e) in
            ap (λ n. get_or now.entries n 0) (sym h.1.is) ∙ entry h.0 0 h.1.small
            ∙ named-none h.0 fresh (before h.0) leaves (untaken h.0 h.1.small
            (ap (λ b. is_replaced b leaves) old ∙ kept)) ∙ old

    -- and one that is replaced is not named
    gone : (l : LoadedBucket) → IsGood rules seats l.state → StandsIn directory l.bucket l.state →
        is_replaced l.bucket leaves ≡ true → All (λ number. number ≢ l.bucket) now.entries
    gone l good stand away = λ k d lt e.
        let inside : k < 2 ^ now.depth =
        omega (arith, lt, now-long rules can.range directory can.within fresh leaves parted.shallow) in
        let h = now-hash rules can.range directory can.within fresh leaves parted.shallow k inside in
        let old = old-at l good stand h.0 h.1.small (sym (entry h.0 d h.1.small)
        ∙ ap (λ n. get_or now.entries n d) h.1.is ∙ e) in
        omega (arith, old.1, taken h.0 h.1.small (ap (λ b. is_replaced b leaves) old.0 ∙ away))

  -- ---- the depth

  -- where the depth stays, a bucket of that depth is not replaced
  kept-deep : now.depth ≡ directory.depth → (bucket : ℕ) →
      ((l : LoadedBucket) → loaded_of loaded bucket ≡ Some l → l.state.depth ≡ directory.depth) →
      is_replaced bucket leaves ≡ false
  kept-deep same bucket deep = go (is_replaced bucket leaves) refl
    where
      from_it : (leaf : NewLeaf) (b : ℕ) → leaf.from ≡ Some b → comes_from bucket leaf ≡ true → b ≡ bucket
      from_it leaf b from e = eqb-true b bucket (ap (λ o. option_map_or (λ x. x == bucket) o false) (sym from) ∙ e)

      go : (x : Bool) → is_replaced bucket leaves ≡ x → x ≡ false
      go false e = refl
      go true e =
          let replies = all_replies rules seats directory loaded ops can in
          let found = found-some (comes_from bucket) leaves (any_some (comes_from bucket) leaves e) in
          let both = found-each (λ leaf. IsLeaf rules seats directory loaded ops replies seats leaf
          × (leaf.bucket.depth ≤ now.depth)) (comes_from bucket) leaves found.0
          (each-both (IsLeaf rules seats directory loaded ops replies seats) (λ leaf. leaf.bucket.depth ≤ now.depth)
          leaves walked.each (now-each rules can.range directory can.within fresh leaves parted.shallow)) found.1 in
          let k = both.0.0 in
          let is : k.l.bucket ≡ bucket = from_it found.0 k.l.bucket k.is.from both.1 in
          let of_depth = deep k.l (ap (loaded_of loaded) (sym is) ∙ k.is.found) in
          absurd (omega (arith, both.0.1, k.is.deeper, of_depth, same))

  -- the depth is that of a leaf, or no bucket of it is replaced
  pub depth-of-one : ((i : ℕ) × (i < length leaves) × ((d : NewLeaf) → (get_or leaves i d).bucket.depth ≡ now.depth))
      ⊎ ((now.depth ≡ directory.depth) × ((bucket : ℕ) →
      ((l : LoadedBucket) → loaded_of loaded bucket ≡ Some l → l.state.depth ≡ directory.depth) →
      is_replaced bucket leaves ≡ false))
  depth-of-one = elim (now-of-one rules can.range directory can.within fresh leaves parted.shallow)
      [ inl e ↦ inr (e, kept-deep e) | inr r ↦ inl r ]

  -- all that the law says of the new directory
  pub stays-right : (now.depth ≤ rules.depth) × (length now.entries ≡ 2 ^ now.depth)
      × (All (λ number. (number < fresh) ⊎ (fresh + length leaves ≤ number)) directory.entries →
      ((i : ℕ) → IfSome (slice_get leaves i) (λ leaf. StandsIn now (fresh + i) leaf.bucket))
      × All (λ l. is_replaced l.bucket leaves ≡ false → StandsIn now l.bucket l.state) loaded
      × All (λ l. is_replaced l.bucket leaves ≡ true → All (λ number. number ≢ l.bucket) now.entries) loaded)
  stays-right = (
    now-shallow rules can.range directory can.within fresh leaves parted.shallow,
    now-long rules can.range directory can.within fresh leaves parted.shallow,
    λ free. (
      leaf-in free,
      λ k d lt. stays free (get_or loaded k d) (can.good k d lt) (can.stand k d lt),
      λ k d lt. gone free (get_or loaded k d) (can.good k d lt) (can.stand k d lt),
    ),
  )

-- the law of the names
pub directory_names_leaves : DirectoryNamesLeaves
directory_names_leaves rules seats hash fresh directory loaded ops can small =
    names rules seats directory loaded ops can fresh hash small

-- the law of the places
pub directory_stays_right : DirectoryStaysRight
directory_stays_right rules seats fresh directory loaded ops can =
    stays-right rules seats directory loaded ops can fresh

-- the law of the other buckets
pub buckets_stay : BucketsStay
buckets_stay rules seats fresh bucket state directory loaded ops can free good stand kept =
    stays rules seats directory loaded ops can fresh free (record { bucket = bucket; row = 0; state = state }) good
    stand kept

-- the law of the replaced ones
pub replaced_are_left : ReplacedAreLeft
replaced_are_left rules seats hash fresh directory loaded ops can small away =
    left rules seats directory loaded ops can fresh hash small away

-- the law of the depth
pub depth_is_of_one : DepthIsOfOne
depth_is_of_one rules seats fresh directory loaded ops can = depth-of-one rules seats directory loaded ops can fresh
