-- A directory try that has loaded all may change its directory: the premise of the laws of the directory change. And
-- how many leaves there are.
use Rattle.std.proofs.Common.{◌≡◌, ℕ, zero, suc, ◌+◌, ◌-◌, ◌/◌, ◌^◌, ◌<◌, ◌≤◌, ◌⊎◌, Bool, true, false, cond, ◌||◌, List, [], ◌∷◌, length, get_or, inl, inr, refl, sym, ap, ◌∙◌, subst, arith}
use Rattle.std.specs.Prelude.{Option, IfSome, count_by, position, Some, None, IsSomeAnd, find, not}
use Rattle.std.specs.Option.{option_map, option_and_then}
use Rattle.std.specs.List.{list_any, position_or_len}
use Rattle.std.proofs.lemmas.List.Sums.{fails_before_first}
use Rattle.std.proofs.lemmas.List.Quantifiers.{position-Some}
use Rattle.std.proofs.lemmas.List.Recursion.{is_count_by}
use Rattle.plain_map.specs.declared.keys.Key.{Key}
use Rattle.plain_map.specs.Keys.{hash_of_key}
use Rattle.bucket_states.specs.Items.{prefix_of}
use Rattle.hash_bits.specs.Prefix.{first_bits}
use Rattle.hash_bits.proofs.PrefixLemmas.{first_bits-within}
use Rattle.table_model.specs.Leaves.{NewLeaf}
use Rattle.run_laws.proofs.Won.{all_found}
use Rattle.std.proofs.Common.{ltb, ltb-false, eqb-true}
use Rattle.std.proofs.lemmas.Bool.{cases_lt}
use Rattle.std.proofs.lemmas.List.{get_or_past}
use Rattle.plain_map.specs.declared.rules.Rules.{Rules}
use Rattle.plain_map.specs.declared.calls.Call.{Call}
use Rattle.plain_map.specs.Calls.{key_in}
use Rattle.bucket_states.specs.declared.ops.Op.{Op}
use Rattle.bucket_states.specs.States.{BucketState}
use Rattle.bucket_states.specs.Laws.{IsGood, IsUntouched, applied_of}
use Rattle.table_model.specs.Setup.{Setup, seats_of, rules_of}
use Rattle.table_model.specs.Directories.{DirectoryState, bucket_of}
use Rattle.table_model.specs.DirectoryChange.{with_leaves, LoadedBucket, is_bucket, loaded_of, buckets_of}
use Rattle.table_model.specs.DirectoryLaws.{CanChange, StandsIn, LeavesAreFew, LeavesTakeHashes, LeavesAreGood, DirectoryNamesLeaves, HasNumberOf, takes_hash, is_replaced}
use Rattle.table_model.specs.Phases.{DirectoryTry}
use Rattle.table_model.specs.Stores.{made_leaves, base_of_leaf}
use Rattle.run_invariant.proofs.RowLemmas.{in_range}
use Rattle.run_invariant.proofs.Loads.{bits_below}
use Rattle.run_invariant.proofs.Change.{IsTry, IsLeaf, leaf_at, no_leaf, origin, number_in}
use Rattle.run_invariant.proofs.Invariant.{Common, Shared, IsLoaded, Stands, bits, last, lead, most_leaves}
use Rattle.plain_map.proofs.KeyLemmas.{hash_of_key-within}
use Rattle.list_laws.proofs.Options.{some_same}
use Rattle.list_laws.proofs.Truths.{not_both}
use Rattle.hash_bits.proofs.FewerBits.{first_bits-fewer}

-- where one of a list passes, one is found
found_one : {A : Type 0} (test : A → Bool) (xs : List A) → list_any test xs ≡ true →
    IsSomeAnd (find test xs) (λ _. Unit {0})
found_one test [] e = cc
found_one test (x ∷ xs) e = go (test x) (λ r. found_one test xs r) e
  where
    go : (t : Bool) → (list_any test xs ≡ true → IsSomeAnd (find test xs) (λ _. Unit {0})) →
        (t || list_any test xs) ≡ true → IsSomeAnd (cond t (Some x) (find test xs)) (λ _. Unit {0})
    go true rest r = tt
    go false rest r = rest r

-- where none is left to load, each op's bucket is loaded
each_loaded : (rules : Rules) (directory : DirectoryState) (loaded : List LoadedBucket) (ops : List (Option Op)) →
    find (λ b. not (list_any (is_bucket b) loaded)) (buckets_of rules directory ops) ≡ None →
    (seat : ℕ) (op : Op) → get_or ops seat None ≡ Some op →
    list_any (is_bucket (bucket_of rules directory (key_in op.call))) loaded ≡ true
each_loaded rules directory loaded [] e seat op f = cc
each_loaded rules directory loaded (None ∷ ops) e zero op f = cc
each_loaded rules directory loaded (None ∷ ops) e (suc seat) op f = each_loaded rules directory loaded ops e seat op f
each_loaded rules directory loaded (Some o ∷ ops) e seat op f =
    go (list_any (is_bucket (bucket_of rules directory (key_in o.call))) loaded) refl e seat f
    (λ r k g. each_loaded rules directory loaded ops r k op g)
  where
    go : (t : Bool) → list_any (is_bucket (bucket_of rules directory (key_in o.call))) loaded ≡ t →
        cond (not t) (Some (bucket_of rules directory (key_in o.call)))
        (find (λ b. not (list_any (is_bucket b) loaded)) (buckets_of rules directory ops)) ≡ None →
        (seat : ℕ) → get_or (Some o ∷ ops) seat None ≡ Some op →
        (find (λ b. not (list_any (is_bucket b) loaded)) (buckets_of rules directory ops) ≡ None → (k : ℕ) →
        get_or ops k None ≡ Some op → list_any (is_bucket (bucket_of rules directory (key_in op.call))) loaded ≡ true) →
        list_any (is_bucket (bucket_of rules directory (key_in op.call))) loaded ≡ true
    go true t r zero g rest =
        subst (λ x. list_any (is_bucket (bucket_of rules directory (key_in x.call))) loaded ≡ true) (some_same g) t
    go true t r (suc seat) g rest = rest r seat g
    go false t r seat g rest = cc

module _ (setup : Setup) (c : Common) (me dir root bucket : ℕ) (call : Call) (attempt : DirectoryTry)
    (found : List (Option Op)) (loaded : List LoadedBucket) (s : Shared setup c)
    (t : IsTry setup c me dir root call bucket attempt found loaded) where
  -- the directory is one of the history
  old : root ≤ c.dir_top
  old = t.opens.looks.old

  -- what holds of a loaded bucket
  good : (l : LoadedBucket) → IsLoaded setup c me root l → IsGood (rules_of setup) (seats_of setup) l.state
  good l k = subst (IsGood (rules_of setup) (seats_of setup)) (sym k.state_is)
      (s.rows.sound l.bucket k.base k.sees.there k.sees.old).good

  -- it stands in the directory that was loaded
  stands : (l : LoadedBucket) → IsLoaded setup c me root l → StandsIn attempt.directory l.bucket l.state
  stands l k =
      let place = bits setup (c.dir_at root).depth k.key in
      let inside = bits_below setup (c.dir_at root).depth k.key (s.directories.shallow root old) in
      let at = s.leads.stands root place old inside in
      let sound = s.rows.sound l.bucket k.base k.sees.there k.sees.old in
      let whole : Stands (c.dir_at root) l.bucket (c.pre l.bucket) (c.deep l.bucket) =
      subst (λ b. Stands (c.dir_at root) b (c.pre b) (c.deep b)) k.leads at in
      subst (λ d. StandsIn d l.bucket l.state) (sym t.opens.directory_is)
      (subst (StandsIn (c.dir_at root) l.bucket) (sym k.state_is)
      (same_stands (c.dir_at root) l.bucket (c.state_at l.bucket k.base) (c.pre l.bucket) (c.deep l.bucket)
      sound.prefix_is sound.depth_is whole))
    where
      same_stands : (d : DirectoryState) (b : ℕ) (st : BucketState) (pre deep : ℕ) → st.prefix ≡ pre →
          st.depth ≡ deep → Stands d b pre deep → StandsIn d b st
      same_stands d b st pre deep p e w =
          let moved : Stands d b st.prefix st.depth =
          subst (λ x. Stands d b x st.depth) (sym p) (subst (Stands d b pre) (sym e) w) in
          record { shallow = moved.shallow; places = moved.places }

  -- so the premise of the laws holds
  pub can_change : CanChange (rules_of setup) (seats_of setup) attempt.directory loaded found
  can_change = record {
    range = in_range setup;
    within = omega (arith, s.directories.shallow root old, ap (λ (d : DirectoryState). d.depth) t.opens.directory_is);
    places = subst (λ (d : DirectoryState). length d.entries ≡ 2 ^ d.depth) (sym t.opens.directory_is)
        (s.directories.long root old);
    each_seat = t.all;
    good = λ i d h. good (get_or loaded i d) (t.loads i d h);
    stand = λ i d h. stands (get_or loaded i d) (t.loads i d h);
    each_op = λ seat op e. found_one (is_bucket (bucket_of (rules_of setup) attempt.directory (key_in op.call)))
        loaded (each_loaded (rules_of setup) attempt.directory loaded found t.whole seat op e);
  }

  -- and there are few leaves
  pub few : LeavesAreFew → length (made_leaves setup attempt found loaded) ≤ most_leaves setup
  unfolding most_leaves
  few law = (law (rules_of setup) (seats_of setup) bucket attempt.directory loaded found can_change).1

-- ---- from here on with the laws of the directory change

-- how many pass, by cases on the list
abbrev many : {A : Type 0} → (A → Bool) → List A → ℕ
many test [] = 0
many test (x ∷ xs) = cond (test x) (1 + many test xs) (many test xs)

-- where some pass, one passes
counted : {A : Type 0} (test : A → Bool) (xs : List A) (d : A) → 0 < many test xs → (i : ℕ) × (i < length xs)
    × (test (get_or xs i d) ≡ true)
counted test [] d h = absurd (omega (arith, h))
counted test (x ∷ xs) d h = go (test x) refl h (λ r. counted test xs d r)
  where
    go : (t : Bool) → test x ≡ t → 0 < cond t (1 + many test xs) (many test xs) →
        (0 < many test xs → (i : ℕ) × (i < length xs) × (test (get_or xs i d) ≡ true)) → (i : ℕ)
        × (i < suc (length xs)) × (test (get_or (x ∷ xs) i d) ≡ true)
    go true e r rest = (0, omega arith, e)
    go false e r rest = (let z = rest r in (suc z.0, omega (arith, z.1), z.2))

-- then there is a first
placed : {A : Type 0} (test : A → Bool) (xs : List A) (d : A) → 0 < count_by test xs → (i : ℕ)
    × (position test xs ≡ Some i)
placed test xs d h = go (ltb (position_or_len test xs) (length xs)) refl
  where
    go : (t : Bool) → ltb (position_or_len test xs) (length xs) ≡ t → (i : ℕ)
        × (cond t (Some (position_or_len test xs)) None ≡ Some i)
    go true e = (position_or_len test xs, refl)
    go false e = absurd (let z = counted test xs d (omega (
      arith,
      h,
      is_count_by (many test) test refl (λ x ys. refl) xs,
    )) in not_both (test (get_or xs z.0 d)) z.2 (fails_before_first test xs z.0 d (omega (
      arith,
      z.1,
      ltb-false (position_or_len test xs) (length xs) e,
    ))))

module _ (takes : LeavesTakeHashes) (names : DirectoryNamesLeaves) (good_leaves : LeavesAreGood) (setup : Setup)
    (c : Common) (me dir root bucket : ℕ) (call : Call) (attempt : DirectoryTry) (found : List (Option Op))
    (loaded : List LoadedBucket) (s : Shared setup c)
    (t : IsTry setup c me dir root call bucket attempt found loaded) (fresh : ℕ) where
  -- the leaves that the try makes, and the new directory
  abbrev leaves : List NewLeaf
  leaves = made_leaves setup attempt found loaded

  abbrev now : DirectoryState
  now = with_leaves fresh leaves attempt.directory

  -- the laws can be used
  can : CanChange (rules_of setup) (seats_of setup) attempt.directory loaded found
  can = can_change setup c me dir root bucket call attempt found loaded s t

  -- the bucket of a hash by the old and by the new directory
  abbrev was : ℕ → ℕ
  was hash = get_or attempt.directory.entries (first_bits hash attempt.directory.depth) 0

  abbrev is : ℕ → ℕ
  is hash = get_or now.entries (first_bits hash now.depth) 0

  -- the bucket of a hash stays, or it is that of the leaf that takes it
  hash_goes : (hash : ℕ) → hash < 2 ^ 64 → (is hash ≡ was hash)
      ⊎ ((i : ℕ) × (i < length leaves) × (is hash ≡ fresh + i) × (takes_hash hash (get_or leaves i no_leaf) ≡ true))
  hash_goes hash h = go (is_replaced (was hash) leaves) refl
    where
      go : (r : Bool) → is_replaced (was hash) leaves ≡ r → (is hash ≡ was hash)
          ⊎ ((i : ℕ) × (i < length leaves) × (is hash ≡ fresh + i) × (takes_hash hash (get_or leaves i no_leaf) ≡ true))
      go false e = inl ((names (rules_of setup) (seats_of setup) hash fresh attempt.directory loaded found can h).0 e)
      go true e =
          let one : count_by (takes_hash hash) leaves ≡ 1 =
          takes (rules_of setup) (seats_of setup) hash attempt.directory loaded found can h
          ∙ ap (λ (b : Bool). cond b 1 0) e in
          let p = placed (takes_hash hash) leaves no_leaf (omega (arith, one)) in
          let at = position-Some (takes_hash hash) leaves p.0 no_leaf p.1 in
          inr (
            p.0,
            at.0,
            subst (λ o. IfSome o (λ i. is hash ≡ fresh + i)) p.1
                (names (rules_of setup) (seats_of setup) hash fresh attempt.directory loaded found can h).1,
            at.1,
          )

  -- each leaf comes from the last row of a bucket that was loaded, and that is frozen
  pub comes : (i : ℕ) → i < length leaves → IsLeaf setup c root loaded (get_or leaves i no_leaf)
  comes i n =
      let l = good_leaves (rules_of setup) (seats_of setup) attempt.directory loaded found can i no_leaf n in
      let k = all_found (IsLoaded setup c me root) (is_bucket l.0.bucket) loaded l.0 t.loads l.1.found in
      let b = l.0.bucket in
      let sound = s.rows.sound b k.base k.sees.there k.sees.old in
      let frozen : (c.state_at b k.base).frozen ≡ true =
      ap (λ (x : BucketState). x.frozen) (sym k.state_is) ∙ l.1.was_frozen in
      let top : k.base ≡ c.top b = (let open_ = s.rows.open_ b k.base k.sees.there in let o = k.sees.old in
      grind (arith, open_, o, frozen)) in
      let deep : l.0.state.depth ≡ c.deep b = ap (λ (x : BucketState). x.depth) k.state_is ∙ sound.depth_is in
      let pre : l.0.state.prefix ≡ c.pre b = ap (λ (x : BucketState). x.prefix) k.state_is ∙ sound.prefix_is in
      let row : Some l.0.row ≡ Some (c.row_at b (c.top b)) = ap (λ r. Some r) (k.row_is ∙ ap (c.row_at b) top) in
      let from : base_of_leaf loaded (get_or leaves i no_leaf)
      ≡ option_map (λ (x : LoadedBucket). x.row) (loaded_of loaded b) =
      ap (λ (o : Option ℕ). option_and_then (λ f. option_map (λ (x : LoadedBucket). x.row) (loaded_of loaded f))
      o) l.1.from in
      let place = bits setup (c.dir_at root).depth k.key in
      record {
        there = ap (λ o. c.named (number_in o)) l.1.from ∙ k.sees.there;
        frozen =
            ap (λ o. (last c (number_in o)).frozen) l.1.from ∙ ap (λ v. (c.state_at b v).frozen) (sym top) ∙ frozen;
        shallow = omega (arith, ap (λ o. c.deep (number_in o)) l.1.from, deep, l.1.deeper);
        prefix = ap (λ o. (leaf_at leaves i).prefix / 2 ^ ((leaf_at leaves i).depth - c.deep (number_in o))) l.1.from
            ∙ ap (λ d. (leaf_at leaves i).prefix / 2 ^ ((leaf_at leaves i).depth - d)) (sym deep) ∙ l.1.prefix ∙ pre
            ∙ ap (λ o. c.pre (number_in o)) (sym l.1.from);
        base = from ∙ ap (option_map (λ (x : LoadedBucket). x.row)) l.1.found ∙ row
            ∙ ap (λ o. Some (c.row_at (number_in o) (c.top (number_in o)))) (sym l.1.from);
        carries = λ p. omega (
          arith,
          ap (λ o. applied_of (last c (number_in o)) p) l.1.from,
          ap (λ v. applied_of (c.state_at b v) p) top,
          ap (λ (x : BucketState). applied_of x p) k.state_is,
          carried l.0 (get_or leaves i no_leaf) (good setup c me dir root bucket call attempt found loaded s t l.0
              k).numbers l.2 p,
        );
        stood = (
          place,
          bits_below setup (c.dir_at root).depth k.key (s.directories.shallow root t.opens.looks.old),
          k.leads ∙ ap number_in (sym l.1.from),
        );
      }
    where
      carried : (l : LoadedBucket) (leaf : NewLeaf) → length l.state.applied ≡ seats_of setup →
          ((seat : ℕ) → seat < seats_of setup → IsUntouched l.state leaf.bucket seat
          ⊎ ((op : Op) × HasNumberOf (rules_of setup) attempt.directory loaded found leaves leaf l seat
          op)) → (p : ℕ) → applied_of l.state p ≤ applied_of leaf.bucket p
      carried l leaf n each p = elim (cases_lt p (seats_of setup)) [
        | inl h ↦ elim (each p h) [ inl u ↦ omega (arith, u.applied) | inr o ↦ omega (arith, o.1.above, o.1.number) ]
        | inr h ↦ omega (arith, get_or_past l.state.applied p 0 (omega (arith, n, h)))
      ]

  -- the leaf of a hash comes from the bucket of the hash
  leaf_from : (hash i : ℕ) → hash < 2 ^ 64 → i < length leaves → takes_hash hash (get_or leaves i no_leaf) ≡ true →
      origin (get_or leaves i no_leaf) ≡ was hash
  leaf_from hash i h n x =
      let l = good_leaves (rules_of setup) (seats_of setup) attempt.directory loaded found can i no_leaf n in
      let stand = all_found (λ z. StandsIn attempt.directory z.bucket z.state) (is_bucket l.0.bucket) loaded l.0
      can.stand l.1.found in
      let takes_it : first_bits hash (leaf_at leaves i).depth ≡ (leaf_at leaves i).prefix =
      eqb-true (first_bits hash (leaf_at leaves i).depth) (leaf_at leaves i).prefix x in
      let deep : (leaf_at leaves i).depth ≤ 64 = omega (arith, l.1.good.within) in
      let of_bucket : first_bits hash l.0.state.depth ≡ l.0.state.prefix =
      sym (first_bits-fewer hash (leaf_at leaves i).depth l.0.state.depth (omega (arith, l.1.deeper)) deep)
      ∙ ap (λ z. z / 2 ^ ((leaf_at leaves i).depth - l.0.state.depth)) takes_it ∙ l.1.prefix in
      let shallow : attempt.directory.depth ≤ 64 = omega (arith, can.within) in
      let inside = first_bits-within hash attempt.directory.depth h shallow in
      ap number_in l.1.from ∙ sym ((stand.places (first_bits hash attempt.directory.depth) inside).1
      (first_bits-fewer hash attempt.directory.depth l.0.state.depth stand.shallow shallow ∙ of_bucket))

  -- and so for keys
  pub goes : (key : Key) → (bucket_of (rules_of setup) now key ≡ lead setup c root key)
      ⊎ ((i : ℕ) × (i < length leaves) × (bucket_of (rules_of setup) now key ≡ fresh + i)
      × (bits setup (leaf_at leaves i).depth key ≡ (leaf_at leaves i).prefix)
      × (origin (get_or leaves i no_leaf) ≡ lead setup c root key))
  unfolding prefix_of
  goes key =
      let hash = hash_of_key setup.hashing key in
      let small = hash_of_key-within setup.hashing key in
      let was_lead : was hash ≡ lead setup c root key =
      ap (λ (d : DirectoryState). get_or d.entries (first_bits hash d.depth) 0) t.opens.directory_is in
      elim (hash_goes hash small) [
        | inl e ↦ inl (e ∙ was_lead)
        | inr r ↦ inr (
          r.0,
          r.1,
          r.2,
          eqb-true (first_bits hash (leaf_at leaves r.0).depth)
              (leaf_at leaves r.0).prefix r.3,
          leaf_from hash r.0 small r.1 r.3 ∙ was_lead,
        )
      ]

  -- a leaf is a good bucket, and open
  pub sound : (i : ℕ) → i < length leaves → IsGood (rules_of setup) (seats_of setup) (leaf_at leaves i)
      × ((leaf_at leaves i).frozen ≡ false)
  sound i n = (let l = good_leaves (rules_of setup) (seats_of setup) attempt.directory loaded found can i no_leaf n in
      (l.1.good, l.1.open_))
