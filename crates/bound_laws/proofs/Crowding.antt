-- Which keys a table can hold: those of its first pairs, and those of announced inserts. A bucket that is frozen has
-- more of them with its prefix than it has room for, and so has the one above each later bucket; and no bucket has
-- more of the first ones.
use Rattle.std.proofs.Common.{◌≡◌, ℕ, zero, suc, ◌+◌, ◌-◌, ◌/◌, ◌^◌, ◌<◌, ◌≤◌, ◌==◌, ◌⊎◌, ◌||◌, Bool, true, false, cond, eqb, ltb, leb, List, [], ◌∷◌, length, get_or, Option, Some, None, inl, inr, refl, sym, ap, ◌∙◌, subst, arith}
use Rattle.std.specs.Prelude.{count_by}
use Rattle.std.specs.List.{AllByRecursion as Each}
use Rattle.std.proofs.lemmas.Bool.{cases_eq, cases_lt, eqb-true, eq-eqb, ltb-true, leb-true, and_parts, false≢true, or_right}
use Rattle.std.proofs.lemmas.List.{get_or_past}
use Rattle.std.proofs.lemmas.List.Sums.{sum_by-cons}
use Rattle.plain_map.specs.declared.full.FullKind.TheVariants.{BucketWords}
use Rattle.plain_map.specs.declared.keys.Key.{Key}
use Rattle.plain_map.specs.declared.keys.Pair.{Pair}
use Rattle.plain_map.specs.declared.rules.Rules.{Rules}
use Rattle.plain_map.specs.declared.calls.Call.{Call}
use Rattle.plain_map.specs.declared.calls.Call.TheVariants.{Insert, Remove, Lookup, Tally, Count, Put}
use Rattle.word_rows.specs.Memory.{put, put_at}
use Rattle.word_rows.proofs.MemoryLemmas.{put_same, put_other, put_at_same}
use Rattle.bucket_states.specs.declared.ops.Op.{Op}
use Rattle.bucket_states.specs.Items.{prefix_of, same_key}
use Rattle.bucket_states.proofs.KeyTests.{Decides-same_key}
use Rattle.bucket_states.specs.Parts.{keys_of, HoldsPart}
use Rattle.bucket_states.specs.States.{BucketState}
use Rattle.bucket_states.specs.Laws.{Announces, IsGood}
use Rattle.table_model.specs.declared.rounds.Aim.TheVariants.{ForLookup, ForFirstRound, ForSecondRound, ForLastLook}
use Rattle.table_model.specs.declared.rounds.Round.{Round}
use Rattle.table_model.specs.Closed.{sessions_with}
use Rattle.table_model.specs.OpeningLaws.{IsOpening}
use Rattle.table_model.specs.Worlds.{first_leaves, opening_world}
use Rattle.change_laws.proofs.Openings.{opening_is_right}
use Rattle.run_laws.proofs.Opened.{HoldsFresh}
use Rattle.bound_laws.proofs.Firsts.{part_first, part_keys}
use Rattle.table_model.specs.Setup.{Setup, IsSetup, seats_of, rules_of, next_number}
use Rattle.table_model.specs.Leaves.{NewLeaf}
use Rattle.table_model.specs.DirectoryChange.{LoadedBucket, loaded_of, is_bucket}
use Rattle.table_model.specs.Phases.{BucketTry, DirectoryTry, Phase, FindRoot, TryWord, TryExchange, DirRoot, DirExchange}
use Rattle.table_model.specs.SeatStates.{Account, Flight}
use Rattle.table_model.specs.Stores.{made_bucket, made_leaves}
use Rattle.table_model.specs.Needs.{distinct_keys, inserted_by}
use Rattle.change_laws.proofs.Bits.{hash_in, prefix_of-hash}
use Rattle.hash_bits.proofs.FewerBits.{first_bits-fewer}
use Rattle.list_laws.proofs.Totals.{each-alike}
use Rattle.run_invariant.proofs.RowLemmas.{in_range}
use Rattle.run_invariant.proofs.Change.{leaf_at, no_leaf, origin}
use Rattle.run_invariant.proofs.Events.{published}
use Rattle.run_invariant.proofs.Invariant.{Common, Local, Shared, Descends, Keeps, IsLoaded}
use Rattle.run_laws.proofs.Changes.{changes_from_laws}
use Rattle.run_laws.proofs.FromLaws.{can_change}
use Rattle.run_laws.proofs.PublishRoot.{is_new}
use Rattle.run_laws.proofs.Induction.{common_after}
use Rattle.run_laws.proofs.Won
use Rattle.run_laws.proofs.Won.{grown_by, all_found}
use Rattle.bound_laws.proofs.SeatLayers.{Step}
use Rattle.bound_laws.proofs.KeyCounts.{has}
use Rattle.bound_laws.proofs.Crowds.{Crowd, crowd_alike, KeysIn, CallIn, change_crowded}
use Rattle.bound_laws.proofs.SplitCrowds.{FromCrowd, leaves_crowded}
use Rattle.list_laws.proofs.Options.{some_same, none_some}
use Rattle.list_laws.proofs.Truths.{not_both}

-- a call that can bring the key was announced
pub record Announced (setup : Setup) (c : Common) (key : Key) : Type 0 where
  pub seat : ℕ
  pub there : seat < seats_of setup
  pub at : ℕ
  pub old : at < (c.used seat).op_rows
  pub call : Call
  pub call_is : (c.op_at seat at).call ≡ call
  pub brings : inserted_by call ≡ key ∷ []

-- the key is a first one, or that of an announced call that can bring it
abbrev pub Came : Setup → Common → Key → Type 0
Came setup c key = (has (keys_of setup.first) key ≡ true) ⊎ Announced setup c key

-- how many distinct first keys have the prefix
abbrev pub first_count : Setup → (depth prefix : ℕ) → ℕ
first_count setup depth prefix =
    count_by (λ key. prefix_of (rules_of setup) depth key == prefix) (distinct_keys (keys_of setup.first))

-- what is known of rows and buckets: their keys came; a frozen row has a crowd, and so has the prefix above a later
-- bucket; and a bucket is as deep as the start, and has few first keys
pub record Crowding (setup : Setup) (c : Common) : Type 0 where
  pub keys : (b i : ℕ) → c.named b ≡ true → i ≤ c.top b → KeysIn (Came setup c) (c.state_at b i).items
  pub frozen : (b i : ℕ) → c.named b ≡ true → i ≤ c.top b → (c.state_at b i).frozen ≡ true →
      Crowd (Came setup c) (rules_of setup) (c.deep b) (c.pre b)
  pub parent : (b : ℕ) → c.named b ≡ true → 1 ≤ c.born b → Crowd (Came setup c) (rules_of setup) (c.deep b - 1)
      (c.pre b / 2)
  pub calm : (b : ℕ) → c.named b ≡ true → (setup.shape.settings.start ≤ c.deep b)
      × (first_count setup (c.deep b) (c.pre b) ≤ setup.shape.settings.items)

-- ---- what there was

came_moves : (setup : Setup) (me : ℕ) (c d : Common) → Step setup me c d → (key : Key) → Came setup c key →
    Came setup d key
came_moves setup me c d z key (inl e) = inl e
came_moves setup me c d z key (inr a) = inr (record {
  seat = a.seat;
  there = a.there;
  at = a.at;
  old = omega (arith, a.old, z.moves.ops_up a.seat);
  call = a.call;
  call_is = ap (λ (o : Op). o.call) (z.moves.calls a.seat a.at a.old).0 ∙ a.call_is;
  brings = a.brings;
})

-- the keys of items, and a crowd
keys_move : (setup : Setup) (me : ℕ) (c d : Common) → Step setup me c d → (items : List Pair) →
    KeysIn (Came setup c) items → KeysIn (Came setup d) items
keys_move setup me c d z items k = each-alike (λ (p : Pair). Came setup c p.key) (λ (p : Pair). Came setup d p.key)
    (λ p h. came_moves setup me c d z p.key h) items k

crowd_moves : (setup : Setup) (me : ℕ) (c d : Common) → Step setup me c d → (depth prefix : ℕ) →
    Crowd (Came setup c) (rules_of setup) depth prefix → Crowd (Came setup d) (rules_of setup) depth prefix
crowd_moves setup me c d z depth prefix x =
    crowd_alike (Came setup c) (Came setup d) (rules_of setup) depth prefix (came_moves setup me c d z) x

-- what is known of one bucket, and of one of its rows
abbrev RowCrowd : Setup → Common → (deep pre : ℕ) → BucketState → Type 0
RowCrowd setup d deep pre state =
    KeysIn (Came setup d) state.items × (state.frozen ≡ true → Crowd (Came setup d) (rules_of setup) deep pre)

abbrev BucketCrowd : Setup → Common → (deep pre born : ℕ) → Type 0
BucketCrowd setup d deep pre born =
    (1 ≤ born → Crowd (Came setup d) (rules_of setup) (deep - 1) (pre / 2))
    × ((setup.shape.settings.start ≤ deep) × (first_count setup deep pre ≤ setup.shape.settings.items))

module _ (setup : Setup) (me : ℕ) (c d : Common) (z : Step setup me c d) (w : Crowding setup c) where
  -- an old row, and an old bucket
  old_row : (b i : ℕ) → c.named b ≡ true → i ≤ c.top b → RowCrowd setup d (d.deep b) (d.pre b) (d.state_at b i)
  old_row b i n o =
      let same = (z.moves.rows b i n o).2 in
      let up = z.moves.named_up b n in
      subst (RowCrowd setup d (d.deep b) (d.pre b)) (sym same)
      (subst (λ x. RowCrowd setup d x (d.pre b) (c.state_at b i)) (sym up.2)
      (subst (λ x. RowCrowd setup d (c.deep b) x (c.state_at b i)) (sym up.1) (
        keys_move setup me c d z (c.state_at b i).items (w.keys b i n o),
        λ f. crowd_moves setup me c d z (c.deep b)
            (c.pre b) (w.frozen b i n o f),
      )))

  -- and a bucket that there was
  old_bucket : (b : ℕ) → c.named b ≡ true → BucketCrowd setup d (d.deep b) (d.pre b) (d.born b)
  old_bucket b n =
      let up = z.moves.named_up b n in
      subst (λ x. BucketCrowd setup d x (d.pre b) (d.born b)) (sym up.2)
      (subst (λ x. BucketCrowd setup d (c.deep b) x (d.born b)) (sym up.1)
      (subst (BucketCrowd setup d (c.deep b) (c.pre b)) (sym (z.recalls.origins b n).0)
      (λ h. crowd_moves setup me c d z (c.deep b - 1) (c.pre b / 2) (w.parent b n h), w.calm b n)))

  -- where all is as it was but for some rows
  by_rows : ((b : ℕ) → d.named b ≡ true → c.named b ≡ true) →
      ((b i : ℕ) → d.named b ≡ true → i ≤ d.top b → (i ≤ c.top b)
      ⊎ RowCrowd setup d (d.deep b) (d.pre b) (d.state_at b i)) → Crowding setup d
  by_rows same rows = record {
    keys = λ b i n o. elim (rows b i n o) [ inl old ↦ (old_row b i (same b n) old).0 | inr new ↦ new.0 ];
    frozen = λ b i n o. elim (rows b i n o) [ inl old ↦ (old_row b i (same b n) old).1 | inr new ↦ new.1 ];
    parent = λ b n. (old_bucket b (same b n)).0;
    calm = λ b n. (old_bucket b (same b n)).1;
  }

  -- where buckets came
  by_buckets : ((b : ℕ) → d.named b ≡ true → (c.named b ≡ true) × (d.top b ≡ c.top b)
      ⊎ ((i : ℕ) → i ≤ d.top b → RowCrowd setup d (d.deep b) (d.pre b) (d.state_at b i))
      × BucketCrowd setup d (d.deep b) (d.pre b) (d.born b)) → Crowding setup d
  by_buckets each = record {
    keys = λ b i n o. elim (each b n) [
      | inl old ↦ (old_row b i old.0 (omega (arith, old.1, o))).0
      | inr new ↦
          (new.0 i o).0
    ];
    frozen = λ b i n o. elim (each b n) [
      | inl old ↦ (old_row b i old.0 (omega (arith, old.1, o))).1
      | inr new ↦
          (new.0 i o).1
    ];
    parent = λ b n. elim (each b n) [ inl old ↦ (old_bucket b old.0).0 | inr new ↦ new.1.0 ];
    calm = λ b n. elim (each b n) [ inl old ↦ (old_bucket b old.0).1 | inr new ↦ new.1.1 ];
  }

-- ---- what was found and loaded

-- the key of an op that was announced and can bring it came
op_came : (setup : Setup) (c : Common) (p j : ℕ) (call : Call) → p < seats_of setup → j < (c.used p).op_rows →
    (c.op_at p j).call ≡ call → CallIn (Came setup c) call
op_came setup c p j (Insert key value) h lt e =
    inr (record { seat = p; there = h; at = j; old = lt; call = Insert key value; call_is = e; brings = refl })
op_came setup c p j (Remove key) h lt e = tt
op_came setup c p j (Lookup key) h lt e = tt
op_came setup c p j (Tally key amount) h lt e = tt
op_came setup c p j (Count key value amount) h lt e =
    inr (record { seat = p; there = h; at = j; old = lt; call = Count key value amount; call_is = e; brings = refl })
op_came setup c p j (Put key value) h lt e =
    inr (record { seat = p; there = h; at = j; old = lt; call = Put key value; call_is = e; brings = refl })

-- and so does an op that a try found
found_came : (setup : Setup) (c : Common) (p : ℕ) (o : Option Op) → p < seats_of setup → (o ≡ None)
    ⊎ ((j : ℕ) × (j < (c.used p).op_rows) × (o ≡ Some (c.op_at p j))) → (op : Op) → o ≡ Some op →
    CallIn (Came setup c) op.call
found_came setup c p o h (inl none) op e = absurd (none_some (sym none ∙ e))
found_came setup c p o h (inr r) op e =
    op_came setup c p r.0 op.call h r.1 (ap (λ (x : Op). x.call) (some_same (sym r.2 ∙ e)))

-- a list by its places
each_from : {A : Type 0} (P : A → Type 0) (xs : List A) (d : A) → ((i : ℕ) → i < length xs → P (get_or xs i d)) →
    Each P xs
each_from P [] d h = tt
each_from P (x ∷ xs) d h = (h 0 (omega arith), each_from P xs d (λ i lt. h (suc i) (omega (arith, lt))))

-- an item of a list
each_at : {A : Type 0} (P : A → Type 0) (xs : List A) (i : ℕ) (d : A) → Each P xs → i < length xs → P (get_or xs i d)
each_at P [] i d e h = absurd (omega (arith, h))
each_at P (x ∷ xs) zero d e h = e.0
each_at P (x ∷ xs) (suc i) d e h = each_at P xs i d e.1 (omega (arith, h))

-- where one test passes, so does the other
count_less : (p q : Key → Bool) → ((k : Key) → p k ≡ true → q k ≡ true) → (xs : List Key) →
    count_by p xs ≤ count_by q xs
count_less p q h [] = omega arith
count_less p q h (x ∷ xs) =
    omega (
      arith,
      sum_by-cons (λ k. cond (p k) 1 0) x xs,
      sum_by-cons (λ k. cond (q k) 1 0) x xs,
      count_less p q h xs,
      by (p x) (q x) (h x),
    )
  where
    by : (a b : Bool) → (a ≡ true → b ≡ true) → cond a 1 0 ≤ cond b 1 0
    by true true f = omega arith
    by true false f = absurd (false≢true (f refl))
    by false b f = omega arith

-- of a longer prefix there are no more first keys
pub first_fewer : (setup : Setup) (deep few pre prefix : ℕ) → few ≤ deep → deep ≤ 64 → pre / 2 ^ (deep - few) ≡ prefix →
    first_count setup deep pre ≤ first_count setup few prefix
first_fewer setup deep few pre prefix less most e =
    count_less (λ key. prefix_of (rules_of setup) deep key == pre) (λ key. prefix_of (rules_of setup) few key == prefix)
    (λ key t. eq-eqb (prefix_of (rules_of setup) few key) prefix (prefix_of-hash (rules_of setup) few key
    ∙ sym (first_bits-fewer (hash_in (rules_of setup) key) deep few less most)
    ∙ ap (λ n. n / 2 ^ (deep - few)) (sym (prefix_of-hash (rules_of setup) deep key)
    ∙ eqb-true (prefix_of (rules_of setup) deep key) pre t) ∙ e)) (distinct_keys (keys_of setup.first))

-- ---- the exchanges

module _ (setup : Setup) (me : ℕ) (c : Common) (account : Account) (flight : Flight) (local : Local)
    (h : me < seats_of setup) (s : Shared setup c) (w : Crowding setup c) where
  abbrev C : Key → Type 0
  C = Came setup c

  -- a bucket row is published: its keys came, and if it is frozen there is a crowd
  crowds_row : (round : Round) (attempt : BucketTry) (found : List (Option Op)) →
      (k : Keeps setup c me account.used flight local (TryExchange round attempt found)) →
      c.memory.bucket round.bucket ≡ attempt.row →
      Step setup me c (published setup me round.bucket attempt found c) →
      Crowding setup (published setup me round.bucket attempt found c)
  crowds_row round attempt found k same z = by_rows setup me c d z w (λ b n. n) rows
    where
      d : Common
      d = published setup me round.bucket attempt found c

      base : ℕ
      base = local.base

      made : RowCrowd setup c (c.deep round.bucket) (c.pre round.bucket) (made_bucket setup attempt found)
      made =
          let sound = s.rows.sound round.bucket local.base k.in_round.there k.opens.looks.old in
          let state = k.opens.state_is in
          let new = change_crowded C (rules_of setup) (in_range setup) (seats_of setup) found attempt.state
          (subst (IsGood (rules_of setup) (seats_of setup)) (sym state) sound.good) (omega (arith, k.all))
          (each_from (λ o. (op : Op) → o ≡ Some op → CallIn C op.call) found None
          (λ i lt. found_came setup c i (get_or found i None) (omega (arith, lt, k.all)) (k.entries i lt).real))
          (subst (λ (x : BucketState). KeysIn C x.items) (sym state) (w.keys round.bucket local.base k.in_round.there
          k.opens.looks.old)) k.opens.open_ in (
            new.0,
            λ f. subst (λ x. Crowd C (rules_of setup) x (c.pre round.bucket))
                (ap (λ (x : BucketState). x.depth) state ∙ sound.depth_is)
                (subst (Crowd C (rules_of setup) attempt.state.depth) (ap (λ (x : BucketState). x.prefix) state
                ∙ sound.prefix_is) (new.1 f)),
          )

      rows : (b i : ℕ) → d.named b ≡ true → i ≤ d.top b → (i ≤ c.top b)
          ⊎ RowCrowd setup d (d.deep b) (d.pre b) (d.state_at b i)
      rows b i n o = elim (cases_eq b round.bucket) [
        | inr other ↦ inl (omega (arith, o, put_other c.top round.bucket (c.top round.bucket + 1) b other))
        | inl here ↦ elim (cases_lt i (c.top round.bucket + 1)) [
          | inl old ↦ inl (omega (arith, old, ap c.top here))
          | inr new ↦
              let top : put c.top round.bucket (c.top round.bucket + 1) b ≡ c.top round.bucket + 1 =
              ap (put c.top round.bucket (c.top round.bucket + 1)) here
              ∙ put_same c.top round.bucket (c.top round.bucket + 1) in
              let last : i ≡ c.top round.bucket + 1 = omega (arith, o, top, new) in
              let at : put_at c.state_at round.bucket (c.top round.bucket + 1) (made_bucket setup attempt found) b
              i ≡ made_bucket setup attempt found =
              ap (λ x. put_at c.state_at round.bucket (c.top round.bucket + 1) (made_bucket setup attempt found) x i)
              here
              ∙ ap (put_at c.state_at round.bucket (c.top round.bucket + 1) (made_bucket setup attempt found)
              round.bucket) last
              ∙ put_at_same c.state_at round.bucket (c.top round.bucket + 1) (made_bucket setup attempt found) in
              let new_row : RowCrowd setup d (c.deep round.bucket) (c.pre round.bucket)
              (made_bucket setup attempt found) = (
                keys_move setup me c d z (made_bucket setup attempt found).items made.0,
                λ f. crowd_moves setup me c d z (c.deep round.bucket) (c.pre round.bucket) (made.1 f),
              ) in
              inr (subst (RowCrowd setup d (c.deep b) (c.pre b)) (sym at)
              (subst (λ x. RowCrowd setup d (c.deep x) (c.pre x) (made_bucket setup attempt found)) (sym here)
              new_row))
        ]
      ]

  -- leaves are published: their keys came, and there is a crowd above each
  crowds_root : (round : Round) (attempt : DirectoryTry) (found : List (Option Op)) (loaded : List LoadedBucket) →
      (k : Keeps setup c me account.used flight local (DirExchange round attempt found loaded)) →
      c.memory.root ≡ attempt.root →
      Step setup me c (grown_by setup me account.used attempt found loaded c) →
      Crowding setup (grown_by setup me account.used attempt found loaded c)
  crowds_root round attempt found loaded k same z =
      by_buckets setup me c d z w (λ b n. go b (is_new fresh many b) refl n)
    where
      d : Common
      d = grown_by setup me account.used attempt found loaded c

      leaves : List NewLeaf
      leaves = made_leaves setup attempt found loaded

      many : ℕ
      many = length leaves

      fresh : ℕ
      fresh = next_number setup me BucketWords account.used

      calls : (seat : ℕ) (op : Op) → Announces found seat op → CallIn C op.call
      calls seat op e = elim (cases_lt seat (length found)) [
        | inl lt ↦ found_came setup c seat (get_or found seat None) (omega (arith, lt, k.all)) (k.entries seat lt).real
            op e
        | inr past ↦ absurd (clash (sym (get_or_past found seat None past) ∙ e))
      ]
        where
          clash : None ≡ Some op → ⊥
          clash x = cc

      loads : (l : LoadedBucket) → loaded_of loaded l.bucket ≡ Some l → KeysIn C l.state.items
          × (l.state.frozen ≡ true → Crowd C (rules_of setup) l.state.depth l.state.prefix)
      loads l e =
          let x = all_found (IsLoaded setup c me local.root) (is_bucket l.bucket) loaded l k.loads e in
          let sound = s.rows.sound l.bucket x.base x.sees.there x.sees.old in (
            subst (λ (y : BucketState). KeysIn C y.items) (sym x.state_is)
                (w.keys l.bucket x.base x.sees.there x.sees.old),
            λ f. subst (λ n. Crowd C (rules_of setup) n l.state.prefix)
                (sym (ap (λ (y : BucketState). y.depth) x.state_is ∙ sound.depth_is))
                (subst (Crowd C (rules_of setup) (c.deep l.bucket)) (sym (ap (λ (y : BucketState). y.prefix) x.state_is
                ∙ sound.prefix_is)) (w.frozen l.bucket x.base x.sees.there x.sees.old
                (ap (λ (y : BucketState). y.frozen) (sym x.state_is) ∙ f))),
          )

      mine : Each (FromCrowd C (rules_of setup)) leaves
      mine =
          let try = Won.try changes_from_laws setup me c account flight local h s round attempt found loaded k same in
          leaves_crowded C (rules_of setup) (seats_of setup) attempt.directory loaded found
          (can_change setup c me local.dir local.root round.bucket flight.call attempt found loaded s try) calls
          loads

      go : (b : ℕ) (t : Bool) → is_new fresh many b ≡ t → cond t true (c.named b) ≡ true →
          ((c.named b ≡ true) × (cond t 0 (c.top b) ≡ c.top b))
          ⊎ (((i : ℕ) → i ≤ cond t 0 (c.top b) → RowCrowd setup d (cond t (leaf_at leaves (b - fresh)).depth (c.deep b))
          (cond t (leaf_at leaves (b - fresh)).prefix (c.pre b))
          (cond t (λ _. leaf_at leaves (b - fresh)) (c.state_at b) i))
          × BucketCrowd setup d (cond t (leaf_at leaves (b - fresh)).depth (c.deep b))
          (cond t (leaf_at leaves (b - fresh)).prefix (c.pre b)) (cond t (c.dir_top + 1) (c.born b)))
      go b false e n = inl (n, refl)
      go b true e n =
          let parts = and_parts (leb fresh b) (ltb b (fresh + many)) e in
          let low = leb-true fresh b parts.0 in
          let high = ltb-true b (fresh + many) parts.1 in
          let i = b - fresh in
          let lt : i < many = omega (arith, low, high) in
          let leaf = leaf_at leaves i in
          let from = each_at (FromCrowd C (rules_of setup)) leaves i no_leaf mine lt in
          let change =
          Won.change changes_from_laws setup me c account flight local h s round attempt found loaded k same in
          let sound = change.sound i lt in
          let comes = change.comes i lt in
          let calm = w.calm (origin (get_or leaves i no_leaf)) comes.there in
          let deep : leaf.depth ≤ 64 = omega (arith, sound.good.within) in
          inr (
            λ j o. (keys_move setup me c d z leaf.items from.0, λ f. absurd (not_both leaf.frozen f sound.open_)),
            (
              λ o. crowd_moves setup me c d z (leaf.depth - 1) (leaf.prefix / 2) from.1,
              (
                omega (arith, calm.0, comes.shallow),
                omega (
                  arith,
                  calm.1,
                  first_fewer setup leaf.depth (c.deep (origin (get_or leaves i no_leaf)))
                      leaf.prefix (c.pre (origin (get_or leaves i no_leaf))) (omega (arith, comes.shallow)) deep
                      comes.prefix,
                ),
              ),
            ),
          )

  -- ---- all steps

  abbrev after : Phase → Common
  after phase = common_after setup me account.used flight phase c

  -- an exchange of the bucket word, which may be lost
  exchange_crowds : (round : Round) (attempt : BucketTry) (found : List (Option Op)) (e : Bool) →
      eqb (c.memory.bucket round.bucket) attempt.row ≡ e → Keeps setup c me account.used flight local
      (TryExchange round attempt found) →
      Step setup me c (cond e (published setup me round.bucket attempt found c) c) →
      Crowding setup (cond e (published setup me round.bucket attempt found c) c)
  exchange_crowds round attempt found true e k z =
      crowds_row round attempt found k (eqb-true (c.memory.bucket round.bucket) attempt.row e) z
  exchange_crowds round attempt found false e k z = w

  -- an exchange of the root, which may be lost
  root_crowds : (round : Round) (attempt : DirectoryTry) (found : List (Option Op)) (loaded : List LoadedBucket)
      (e : Bool) → eqb c.memory.root attempt.root ≡ e →
      Keeps setup c me account.used flight local (DirExchange round attempt found loaded) →
      Step setup me c (cond e (grown_by setup me account.used attempt found loaded c) c) →
      Crowding setup (cond e (grown_by setup me account.used attempt found loaded c) c)
  root_crowds round attempt found loaded true e k z =
      crowds_root round attempt found loaded k (eqb-true c.memory.root attempt.root e) z
  root_crowds round attempt found loaded false e k z = w

  -- each step
  pub crowds : (phase : Phase) → Keeps setup c me account.used flight local phase → Step setup me c (after phase) →
      Crowding setup (after phase)
  crowds (FindRoot ForLookup) k z = by_rows setup me c (after (FindRoot ForLookup)) z w (λ b n. n) (λ b i n o. inl o)
  crowds (FindRoot ForFirstRound) k z =
      by_rows setup me c (after (FindRoot ForFirstRound)) z w (λ b n. n) (λ b i n o. inl o)
  crowds (FindRoot (ForSecondRound first)) k z =
      by_rows setup me c (after (FindRoot (ForSecondRound first))) z w (λ b n. n) (λ b i n o. inl o)
  crowds (FindRoot ForLastLook) k z =
      by_rows setup me c (after (FindRoot ForLastLook)) z w (λ b n. n) (λ b i n o. inl o)
  crowds (TryWord round turn None) k z =
      by_rows setup me c (after (TryWord round turn None)) z w (λ b n. n) (λ b i n o. inl o)
  crowds (TryWord round turn (Some first)) k z =
      by_rows setup me c (after (TryWord round turn (Some first))) z w (λ b n. n) (λ b i n o. inl o)
  crowds (DirRoot round turn None) k z =
      by_rows setup me c (after (DirRoot round turn None)) z w (λ b n. n) (λ b i n o. inl o)
  crowds (DirRoot round turn (Some first)) k z =
      by_rows setup me c (after (DirRoot round turn (Some first))) z w (λ b n. n) (λ b i n o. inl o)
  crowds (TryExchange round attempt found) k z =
      exchange_crowds round attempt found (eqb (c.memory.bucket round.bucket) attempt.row) refl k z
  crowds (DirExchange round attempt found loaded) k z =
      root_crowds round attempt found loaded (eqb c.memory.root attempt.root) refl k z
  crowds phase k z = by_rows setup me c (after phase) z w (λ b n. n) (λ b i n o. inl o)

-- ---- the opening

-- what holds of each key of a list of items
keys_have : (P : Key → Type 0) (items : List Pair) → ((q : Key) → has (keys_of items) q ≡ true → P q) →
    Each (λ (p : Pair). P p.key) items
keys_have P [] h = tt
keys_have P (pair ∷ items) h = (
  h pair.key (ap (λ b. b || has (keys_of items) pair.key) ((Decides-same_key pair.key pair.key).1 refl)),
  keys_have P items (λ q e. h q (or_right (same_key q pair.key) (has (keys_of items) q) e)),
)

-- the opening has first keys alone, and each of its leaves has room for those of its prefix
pub crowding_opening : (setup : Setup) → IsSetup setup → (fresh : HoldsFresh setup (opening_world setup)) →
    Crowding setup fresh.holds.common
crowding_opening setup o fresh = record {
  keys = λ b i n le. subst (λ (x : BucketState). KeysIn (Came setup c) x.items) (sym (state b i n le))
      (keys_have (Came setup c) (leaf_at leaves b).items
      (λ q e. inl (part_keys rules setup.first (leaf_at leaves b).prefix (leaf_at leaves b).depth
      (leaf_at leaves b).items o.distinct o.room (holds b n) q e)));
  frozen = λ b i n le f. absurd (not_both (c.state_at b i).frozen f (ap (λ (x : BucketState). x.frozen) (state b i n le)
      ∙ (opens.good b no_leaf (fresh.first_leaf b n).0).1));
  parent = λ b n h. absurd (omega (arith, h, t.born_within b n, fresh.first));
  calm = λ b n.
      let sound = s.rows.sound b 0 n (omega arith) in
      let is = (fresh.first_leaf b n).2 in
      let deep : c.deep b ≡ (leaf_at leaves b).depth = sym sound.depth_is ∙ ap (λ (x : BucketState). x.depth) is in
      let pre : c.pre b ≡ (leaf_at leaves b).prefix = sym sound.prefix_is ∙ ap (λ (x : BucketState). x.prefix) is in
      let at = (fresh.first_leaf b n).0 in
      let part = part_first rules setup.first (leaf_at leaves b).prefix (leaf_at leaves b).depth
      (leaf_at leaves b).items o.distinct o.room (holds b n) in (
        omega (arith, deep, opens.deep b no_leaf at),
        subst (λ x. first_count setup x (c.pre b) ≤ setup.shape.settings.items) (sym deep)
            (subst (λ x. first_count setup (leaf_at leaves b).depth x ≤ setup.shape.settings.items) (sym pre)
            (omega (arith, part, (opens.good b no_leaf at).0.few))),
      );
}
  where
    c : Common
    c = fresh.holds.common

    s : Shared setup fresh.holds.common
    s = fresh.holds.follows.shared

    t : Descends setup fresh.holds.common
    t = fresh.holds.follows.descent

    rules : Rules
    rules = rules_of setup

    leaves : List NewLeaf
    leaves = first_leaves setup

    opens : IsOpening (rules_of setup) (seats_of setup) setup.shape.settings.start setup.first (first_leaves setup)
    opens = opening_is_right (rules_of setup) (seats_of setup) setup.shape.settings.start setup.first
        (record { range = in_range setup; within = omega arith; distinct = o.distinct; room = o.room })

    holds : (b : ℕ) → fresh.holds.common.named b ≡ true →
        HoldsPart (rules_of setup) (leaf_at (first_leaves setup) b).prefix (leaf_at (first_leaves setup) b).depth
        (leaf_at (first_leaves setup) b).items (sessions_with (rules_of setup) setup.first)
    holds b n = opens.holds b no_leaf (fresh.first_leaf b n).0

    state : (b i : ℕ) → fresh.holds.common.named b ≡ true → i ≤ fresh.holds.common.top b →
        fresh.holds.common.state_at b i ≡ leaf_at (first_leaves setup) b
    state b i n le = (let x = fresh.first_leaf b n in let zero_is : i ≡ 0 = omega (arith, le, x.1) in
        ap (fresh.holds.common.state_at b) zero_is ∙ x.2)
