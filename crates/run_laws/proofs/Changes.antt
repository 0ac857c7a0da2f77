-- What the steps of a directory try rest on, from the laws of the directory change, which are proved.
use Rattle.std.proofs.Common.{◌≡◌, ℕ, zero, suc, ◌+◌, ◌-◌, ◌*◌, ◌^◌, ◌<◌, ◌≤◌, ◌⊎◌, Bool, true, false, cond, List, [], ◌∷◌, length, get_or, inl, inr, refl, sym, ap, ◌∙◌, subst, arith}
use Rattle.std.specs.Prelude.{Option, Some, None, IfSome, IsSomeAnd, All, nat_lt, find, ◌==◌}
use Rattle.std.proofs.lemmas.Bool.{cases_lt, and_from, lt-ltb, eqb-true, eq-eqb}
use Rattle.hash_bits.specs.Prefix.{first_bits}
use Rattle.hash_bits.proofs.PrefixLemmas.{first_bits-within}
use Rattle.plain_map.specs.declared.keys.Key.{Key}
use Rattle.plain_map.specs.declared.calls.Call.{Call}
use Rattle.plain_map.specs.Calls.{key_in}
use Rattle.bucket_states.specs.declared.ops.Op.{Op}
use Rattle.bucket_states.specs.Items.{prefix_of}
use Rattle.bucket_states.specs.States.{BucketState}
use Rattle.bucket_states.specs.Laws.{applied_of}
use Rattle.bucket_states.specs.Values.{IsSmall, IsUpdate, AreUpdates}
use Rattle.table_model.specs.Setup.{Setup, seats_of, rules_of}
use Rattle.table_model.specs.Directories.{DirectoryState, bucket_of}
use Rattle.table_model.specs.Leaves.{NewLeaf, is_in}
use Rattle.table_model.specs.DirectoryChange.{LoadedBucket, is_bucket, loaded_of, is_frozen_without, with_leaves}
use Rattle.table_model.specs.DirectoryLaws.{CanChange, StandsIn, is_replaced}
use Rattle.table_model.specs.Phases.{DirectoryTry}
use Rattle.table_model.specs.Stores.{made_leaves}
use Rattle.change_laws.proofs.Bits.{hash_in, hash_in-small, prefix_of-hash}
use Rattle.hash_bits.proofs.FewerBits.{first_bits-fewer}
use Rattle.change_laws.proofs.Directories.{IsPlaceOf, hash-of}
use Rattle.change_laws.proofs.Weak.{leaves_take_hashes, leaves_are_good, leaves_are_small, ops_are_in_leaves, frozen_are_replaced, leaves_are_few}
use Rattle.change_laws.proofs.NewDirectory.{directory_names_leaves, directory_stays_right, buckets_stay, replaced_are_left}
use Rattle.run_invariant.proofs.Invariant.{Common, Shared, IsLoaded, Names, Stands, last, lead}
use Rattle.run_laws.proofs.Won.{all_found}
use Rattle.run_invariant.proofs.Change.{IsTry, IsChange, AreFree, Changes, leaf_at, no_leaf}
use Rattle.run_laws.proofs.FromLaws.{can_change, few, goes, comes}
use Rattle.list_laws.proofs.Options.{some_same, none_some}
use Rattle.list_laws.proofs.Places.{at_index}
use Rattle.plain_map.specs.Updates.{number_limit}

module _ (setup : Setup) (c : Common) (me dir root bucket fresh : ℕ) (call : Call) (attempt : DirectoryTry)
    (found : List (Option Op)) (loaded : List LoadedBucket) (s : Shared setup c)
    (t : IsTry setup c me dir root call bucket attempt found loaded)
    (free : AreFree c fresh (length (made_leaves setup attempt found loaded))) where
  -- the leaves that the try makes, and the new directory
  abbrev leaves : List NewLeaf
  leaves = made_leaves setup attempt found loaded

  -- the new directory
  abbrev now : DirectoryState
  now = with_leaves fresh leaves attempt.directory

  -- the laws can be used
  can : CanChange (rules_of setup) (seats_of setup) attempt.directory loaded found
  can = can_change setup c me dir root bucket call attempt found loaded s t

  -- the directory is one of the history
  old : root ≤ c.dir_top
  old = t.opens.looks.old

  -- ---- the numbers of the old directory

  -- each entry of the old directory is a bucket that there is
  named-at : (place : ℕ) → place < 2 ^ attempt.directory.depth →
      c.named (get_or attempt.directory.entries place 0) ≡ true
  named-at place lt =
      let same = t.opens.directory_is in
      let inside : place < 2 ^ (c.dir_at root).depth = subst (λ (d : DirectoryState). place < 2 ^ d.depth) same lt in
      ap (λ (d : DirectoryState). c.named (get_or d.entries place 0)) same ∙ s.leads.every root place old inside

  -- so it is none of the new numbers
  apart-from : (b : ℕ) → c.named b ≡ true → (b < fresh) ⊎ (fresh + length leaves ≤ b)
  apart-from b named = by (cases_lt b fresh) (cases_lt b (fresh + length leaves))
    where
      by : (b < fresh) ⊎ (fresh ≤ b) → (b < fresh + length leaves) ⊎ (fresh + length leaves ≤ b) → (b < fresh)
          ⊎ (fresh + length leaves ≤ b)
      by (inl lt) more = inl lt
      by (inr ge) (inr past) = inr past
      by (inr ge) (inl lt) = absurd (free b (b - fresh) named (omega (arith, ge, lt)) (omega (arith, ge)))

  -- no entry of the old directory is one of the new numbers
  free_numbers : All (λ number. (number < fresh) ⊎ (fresh + length leaves ≤ number)) attempt.directory.entries
  free_numbers = λ k d lt. subst (λ x. (x < fresh) ⊎ (fresh + length leaves ≤ x))
      (same attempt.directory.entries k d lt) (apart-from (get_or attempt.directory.entries k 0)
      (named-at k (omega (arith, lt, can.places))))
    where
      same : (xs : List ℕ) (k d : ℕ) → k < length xs → get_or xs k 0 ≡ get_or xs k d
      same [] k d lt = absurd (omega (arith, lt))
      same (x ∷ xs) zero d lt = refl
      same (x ∷ xs) (suc k) d lt = same xs k d (omega (arith, lt))

  -- ---- what was found is small

  -- what was found and loaded is small
  found_small : AreUpdates found
  found_small seat op e = by (cases_lt seat (length found))
    where
      past : (xs : List (Option Op)) (k : ℕ) → length xs ≤ k → get_or xs k None ≡ None
      past [] k le = refl
      past (x ∷ xs) zero le = absurd (omega (arith, le))
      past (x ∷ xs) (suc k) le = past xs k (omega (arith, le))

      by : (seat < length found) ⊎ (length found ≤ seat) → IsUpdate op.call × (op.number < number_limit)
      by (inr ge) = absurd (none_some (sym (past found seat ge) ∙ e))
      by (inl lt) = elim (t.entries seat lt).real [
        | inl none ↦ absurd (none_some (sym none ∙ e))
        | inr some ↦
            let same : c.op_at seat some.0 ≡ op = some_same (sym some.2 ∙ e) in
            let row = s.calls.sound seat some.0 (omega (arith, lt, t.all)) some.1 in (
              subst (λ (o : Op). IsUpdate o.call) same row.update,
              subst (λ (o : Op). o.number < number_limit) same row.few,
            )
      ]

  -- and so is what was loaded
  loaded_small : All (λ l. IsSmall l.state) loaded
  loaded_small = λ k d lt. (let l = t.loads k d lt in
      subst IsSmall (sym l.state_is) (s.rows.sound (get_or loaded k d).bucket l.base l.sees.there l.sees.old).small)

  -- ---- hashes, keys and places

  -- the bucket of a hash by the old and by the new directory
  abbrev was : ℕ → ℕ
  was h = get_or attempt.directory.entries (first_bits h attempt.directory.depth) 0

  abbrev is : ℕ → ℕ
  is h = get_or now.entries (first_bits h now.depth) 0

  -- a leaf stands in the new directory
  leaf_stands : (i : ℕ) → i < length leaves → StandsIn now (fresh + i) (leaf_at leaves i)
  leaf_stands i lt = at_index (λ (leaf : NewLeaf). StandsIn now (fresh + i) leaf.bucket) leaves i no_leaf lt
      ((((directory_stays_right (rules_of setup) (seats_of setup) fresh attempt.directory loaded found can).2)
      free_numbers).0 i)

  -- the new directory is not too deep for a hash
  deep64 : now.depth ≤ 64
  deep64 = omega (
    arith,
    (directory_stays_right (rules_of setup) (seats_of setup) fresh attempt.directory loaded found
        can).0,
    can.range.depth,
  )

  -- the bucket of a key is that of its hash
  key-was : (key : Key) → bucket_of (rules_of setup) attempt.directory key ≡ was (hash_in (rules_of setup) key)
  key-was key =
      ap (λ n. get_or attempt.directory.entries n 0) (prefix_of-hash (rules_of setup) attempt.directory.depth key)

  key-is : (key : Key) → bucket_of (rules_of setup) now key ≡ is (hash_in (rules_of setup) key)
  key-is key = ap (λ n. get_or now.entries n 0) (prefix_of-hash (rules_of setup) now.depth key)

  key-lead : (key : Key) → bucket_of (rules_of setup) attempt.directory key ≡ lead setup c root key
  key-lead key = ap (λ (d : DirectoryState). bucket_of (rules_of setup) d key) t.opens.directory_is

  -- ---- what stands at a place

  -- how a bucket stands in a directory, said of its prefix and of its state
  to_stands : (d : DirectoryState) (b : ℕ) (st : BucketState) (pre deep : ℕ) → st.prefix ≡ pre → st.depth ≡ deep →
      StandsIn d b st → Stands d b pre deep
  to_stands d b st pre deep p e w =
      let plain : Stands d b st.prefix st.depth = record { shallow = w.shallow; places = w.places } in
      subst (λ x. Stands d b x deep) p (subst (Stands d b st.prefix) e plain)

  -- and of its state
  from_stands : (d : DirectoryState) (b : ℕ) (st : BucketState) (pre deep : ℕ) → st.prefix ≡ pre → st.depth ≡ deep →
      Stands d b pre deep → StandsIn d b st
  from_stands d b st pre deep p e w =
      let moved : Stands d b st.prefix st.depth =
      subst (λ x. Stands d b x st.depth) (sym p) (subst (Stands d b pre) (sym e) w) in
      record { shallow = moved.shallow; places = moved.places }

  -- an old bucket that is not replaced stands in the new directory
  old-stands : (place b : ℕ) → place < 2 ^ attempt.directory.depth → get_or attempt.directory.entries place 0 ≡ b →
      is_replaced b leaves ≡ false → (c.named b ≡ true) × Stands now b (c.pre b) (c.deep b) × Names (c.dir_at root) b
  old-stands place b lt e kept =
      let named : c.named b ≡ true = ap c.named (sym e) ∙ named-at place lt in
      let row = s.rows.sound b 0 named (omega arith) in
      let same = t.opens.directory_is in
      let inside : place < 2 ^ (c.dir_at root).depth = subst (λ (d : DirectoryState). place < 2 ^ d.depth) same lt in
      let there : get_or (c.dir_at root).entries place 0 ≡ b =
      ap (λ (d : DirectoryState). get_or d.entries place 0) (sym same) ∙ e in
      let stood : Stands (c.dir_at root) b (c.pre b) (c.deep b) =
      subst (λ x. Stands (c.dir_at root) x (c.pre x) (c.deep x)) there (s.leads.stands root place old inside) in
      let stood_in : StandsIn attempt.directory b (c.state_at b 0) =
      from_stands attempt.directory b (c.state_at b 0) (c.pre b) (c.deep b) row.prefix_is row.depth_is
      (subst (λ d. Stands d b (c.pre b) (c.deep b)) (sym same) stood) in (
        named,
        to_stands now b (c.state_at b 0) (c.pre b) (c.deep b) row.prefix_is row.depth_is
            (buckets_stay (rules_of setup) (seats_of setup) fresh b (c.state_at b 0) attempt.directory loaded found can
            free_numbers row.good stood_in kept),
        (place, inside, there),
      )

  -- at each place of the new directory stands an old bucket that is not replaced, or a leaf
  places : (place : ℕ) → place < 2 ^ now.depth →
      ((c.named (get_or now.entries place 0) ≡ true)
      × Stands now (get_or now.entries place 0) (c.pre (get_or now.entries place 0))
      (c.deep (get_or now.entries place 0)) × Names (c.dir_at root) (get_or now.entries place 0))
      ⊎ ((i : ℕ) × (i < length leaves) × (get_or now.entries place 0 ≡ fresh + i))
  places place lt = go (place * 2 ^ (64 - now.depth)) (hash-of now.depth place deep64 lt)
    where
      go : (h : ℕ) → IsPlaceOf now.depth place h →
          ((c.named (get_or now.entries place 0) ≡ true)
          × Stands now (get_or now.entries place 0) (c.pre (get_or now.entries place 0))
          (c.deep (get_or now.entries place 0)) × Names (c.dir_at root) (get_or now.entries place 0))
          ⊎ ((i : ℕ) × (i < length leaves) × (get_or now.entries place 0 ≡ fresh + i))
      go h at = by (is_replaced (was h) leaves) refl
        where
          here : is h ≡ get_or now.entries place 0
          here = ap (λ n. get_or now.entries n 0) at.is

          by : (x : Bool) → is_replaced (was h) leaves ≡ x →
              ((c.named (get_or now.entries place 0) ≡ true)
              × Stands now (get_or now.entries place 0) (c.pre (get_or now.entries place 0))
              (c.deep (get_or now.entries place 0)) × Names (c.dir_at root) (get_or now.entries place 0))
              ⊎ ((i : ℕ) × (i < length leaves) × (get_or now.entries place 0 ≡ fresh + i))
          by true away = (let r = replaced_are_left (rules_of setup) (seats_of setup) h fresh attempt.directory loaded
              found can at.small away in inr (r.0, r.1, sym here ∙ r.2))
          by false kept =
              let entry : is h ≡ was h = (directory_names_leaves (rules_of setup) (seats_of setup) h fresh
              attempt.directory loaded found can at.small).0 kept in
              let inside =
              first_bits-within h attempt.directory.depth at.small (omega (arith, can.within, can.range.depth)) in
              inl (subst (λ b. (c.named b ≡ true) × Stands now b (c.pre b) (c.deep b) × Names (c.dir_at root) b)
              (sym entry ∙ here) (old-stands (first_bits h attempt.directory.depth) (was h) inside refl kept))

  -- ---- ops

  -- an op that was found is in the leaf of its key
  takes : (p i : ℕ) (op : Op) → p < seats_of setup → get_or found p None ≡ Some op → i < length leaves →
      bucket_of (rules_of setup) now (key_in op.call) ≡ fresh + i → op.number ≤ applied_of (leaf_at leaves i) p
  takes p i op inside e lt leads =
      ops_are_in_leaves (rules_of setup) (seats_of setup) p op attempt.directory loaded found can e i no_leaf lt has
    where
      h : ℕ
      h = hash_in (rules_of setup) (key_in op.call)

      stand : StandsIn now (fresh + i) (leaf_at leaves i)
      stand = leaf_stands i lt

      has : is_in (rules_of setup) (key_in op.call) (leaf_at leaves i) ≡ true
      has =
          let within = first_bits-within h now.depth (hash_in-small (rules_of setup) (key_in op.call)) deep64 in
          let at = (stand.places (first_bits h now.depth) within).0 (sym (key-is (key_in op.call)) ∙ leads) in
          eq-eqb (prefix_of (rules_of setup) (leaf_at leaves i).depth (key_in op.call)) (leaf_at leaves i).prefix
          (prefix_of-hash (rules_of setup) (leaf_at leaves i).depth (key_in op.call)
          ∙ sym (first_bits-fewer h now.depth (leaf_at leaves i).depth stand.shallow deep64) ∙ at)

  -- and its bucket is replaced where it was loaded frozen without the op
  replaces : (p : ℕ) (op : Op) → p < seats_of setup → get_or found p None ≡ Some op →
      applied_of (last c (lead setup c root (key_in op.call))) p < op.number →
      All (λ l. l.bucket ≡ lead setup c root (key_in op.call) → l.state.frozen ≡ true) loaded → (i : ℕ)
      × (i < length leaves) × (bucket_of (rules_of setup) now (key_in op.call) ≡ fresh + i)
  replaces p op inside e above frozen =
      go (loaded_of loaded (bucket_of (rules_of setup) attempt.directory (key_in op.call))) refl
    where
      h : ℕ
      h = hash_in (rules_of setup) (key_in op.call)

      go : (m : Option LoadedBucket) → loaded_of loaded (bucket_of (rules_of setup) attempt.directory
          (key_in op.call)) ≡ m → (i : ℕ) × (i < length leaves) × (bucket_of (rules_of setup) now
          (key_in op.call) ≡ fresh + i)
      go None none = absurd (subst (λ m. IsSomeAnd m (λ _. Unit {0})) none (can.each_op p op e))
      go (Some l) some =
          let k = all_found (IsLoaded setup c me root) (is_bucket (bucket_of (rules_of setup) attempt.directory
          (key_in op.call))) loaded l t.loads some in
          let here : l.bucket ≡ bucket_of (rules_of setup) attempt.directory (key_in op.call) =
          found_is (bucket_of (rules_of setup) attempt.directory (key_in op.call)) loaded l some in
          let of_lead : l.bucket ≡ lead setup c root (key_in op.call) = here ∙ key-lead (key_in op.call) in
          let held = all_found (λ (x : LoadedBucket). x.bucket ≡ lead setup c root (key_in op.call) →
          x.state.frozen ≡ true) (is_bucket (bucket_of (rules_of setup) attempt.directory
          (key_in op.call))) loaded l frozen some of_lead in
          let up = s.rows.rises l.bucket k.base p k.sees.there k.sees.old in
          let number : applied_of l.state p ≡ applied_of (c.state_at l.bucket k.base) p =
          ap (λ (b : BucketState). applied_of b p) k.state_is in
          let of_last : applied_of (last c l.bucket) p ≡ applied_of (last c (lead setup c root (key_in op.call))) p =
          ap (λ b. applied_of (last c b) p) of_lead in
          let without : is_frozen_without p op l ≡ true =
          and_from l.state.frozen (nat_lt (applied_of l.state p) op.number) held
          (lt-ltb (applied_of l.state p) op.number (omega (arith, above, up, number, of_last))) in
          let away : is_replaced l.bucket leaves ≡ true =
          subst (λ m. IfSome m (λ l. is_frozen_without p op l ≡ true → is_replaced l.bucket leaves ≡ true)) some
          (frozen_are_replaced (rules_of setup) (seats_of setup) p op attempt.directory loaded found can e) without in
          let r = replaced_are_left (rules_of setup) (seats_of setup) h fresh attempt.directory loaded found can
          (hash_in-small (rules_of setup) (key_in op.call)) (ap (λ b. is_replaced b leaves)
          (sym (here ∙ key-was (key_in op.call))) ∙ away) in
          (r.0, r.1, key-is (key_in op.call) ∙ r.2)
        where
          found_is : (b : ℕ) (xs : List LoadedBucket) (l : LoadedBucket) → find (is_bucket b) xs ≡ Some l → l.bucket ≡ b
          found_is b [] l e = cc
          found_is b (x ∷ xs) l e = by (x.bucket == b) refl e (found_is b xs l)
            where
              by : (t : Bool) → (x.bucket == b) ≡ t → cond t (Some x) (find (is_bucket b) xs) ≡ Some l →
                  (find (is_bucket b) xs ≡ Some l → l.bucket ≡ b) → l.bucket ≡ b
              by true t e rest = ap (λ (x : LoadedBucket). x.bucket) (sym (some_same e)) ∙ eqb-true x.bucket b t
              by false t e rest = rest e

  -- so the try's change is as the steps need it
  pub is_change : IsChange setup c root found loaded leaves fresh now
  is_change = record {
    shallow = (directory_stays_right (rules_of setup) (seats_of setup) fresh attempt.directory loaded found can).0;
    long = (directory_stays_right (rules_of setup) (seats_of setup) fresh attempt.directory loaded found can).1;
    sound = λ i lt. (let l = leaves_are_good (rules_of setup) (seats_of setup) attempt.directory loaded found can i
        no_leaf lt in
        record {
          good = l.1.good;
          small = leaves_are_small (rules_of setup) (seats_of setup) attempt.directory loaded
              found can found_small loaded_small i no_leaf lt;
          open_ = l.1.open_;
        });
    comes = comes leaves_take_hashes directory_names_leaves leaves_are_good setup c me dir root bucket call attempt
        found loaded s t fresh;
    stands_new = λ i lt. (let w = leaf_stands i lt in record { shallow = w.shallow; places = w.places });
    places = places;
    goes = λ key. goes leaves_take_hashes directory_names_leaves leaves_are_good setup c me dir root bucket call
        attempt found loaded s t fresh key;
    takes = takes;
    holds = λ p i op e lt has. ops_are_in_leaves (rules_of setup) (seats_of setup) p op attempt.directory loaded found
        can e i no_leaf lt has;
    replaces = replaces;
  }

-- what the induction took as an argument
pub changes_from_laws : (setup : Setup) → Changes setup
changes_from_laws setup = record {
  few = λ c me dir root bucket call attempt found loaded s t. few setup c me dir root bucket call attempt found loaded
      s t leaves_are_few;
  change = λ c me dir root bucket fresh call attempt found loaded s t free. is_change setup c me dir root bucket fresh
      call attempt found loaded s t free;
}
