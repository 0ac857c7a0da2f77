-- Each step leaves fewer steps: up to a round's directory tries.
use Rattle.std.proofs.Common.{◌≡◌, ℕ, suc, ◌+◌, ◌-◌, ◌*◌, ◌^◌, ◌<◌, ◌≤◌, Bool, true, false, cond, eqb, ltb, List, [], ◌∷◌, ◌++◌, length, inl, inr, refl, sym, ap, ◌∙◌, arith, length-append, eq-eqb, mul-le-mul_right}
use Rattle.std.specs.Prelude.{Option, Some, None, find, not, ◌||◌}
use Rattle.std.specs.List.{list_any}
use Rattle.std.proofs.Math.Pow.{pow_mono}
use Rattle.plain_map.specs.Calls.{key_in, is_update}
use Rattle.plain_map.specs.declared.full.FullKind.TheVariants.{BucketWords, DirRows}
use Rattle.word_rows.specs.declared.addresses.Address.{Address}
use Rattle.word_rows.specs.declared.addresses.Address.TheVariants.{BucketRowWord, DirectoryWord}
use Rattle.word_rows.proofs.BucketLemmas.{length-bucket}
use Rattle.bucket_states.specs.States.{row_of_state, empty_state}
use Rattle.table_model.specs.Directories.{bucket_of}
use Rattle.table_model.specs.Leaves.{NewLeaf, is_in}
use Rattle.table_model.specs.DirectoryChange.{LoadedBucket, is_bucket, buckets_of, next_bucket}
use Rattle.table_model.specs.Stores.{row_puts, leaf_puts, bucket_words, directory_words, base_of_leaf, made_leaves, made_directory, directory_puts}
use Rattle.table_model.specs.Goes.{after_entries, after_directory, after_dir_found, after_loaded, load_or_store, answered_by_leaf, after_lost_root, after_round}
use Rattle.run_invariant.proofs.Change.{numbers_free}
use Rattle.run_laws.proofs.Changes.{changes_from_laws}
use Rattle.std.proofs.lemmas.Bool.{cond_both, eqb-true, false≢true}
use Rattle.std.proofs.lemmas.List.{length_push}
use Rattle.step_counts.specs.declared.TheConstants.{OP_WORDS, ITEM_WORDS}
use Rattle.step_counts.specs.StepCounts.{bucket_row_words}
use Rattle.step_counts.specs.declared.rows.SeatRows.{SeatRows}
use Rattle.plain_map.specs.declared.full.FullKind.TheVariants.{BucketRows}
use Rattle.bucket_states.specs.declared.ops.Op.{Op}
use Rattle.table_model.specs.Setup.{Setup, settings_of, seats_of, rules_of, next_number}
use Rattle.table_model.specs.declared.rounds.Aim.TheVariants.{ForLookup, ForFirstRound, ForSecondRound, ForLastLook}
use Rattle.table_model.specs.declared.rounds.Round.{Round}
use Rattle.table_model.specs.Phases.{DirectoryTry, Phase, SeeDone, StoreOp, Announce, FindRoot, FindDepth, FindEntry, LookWord, LookCount, LookItems, TryWord, TryRow, TryAnnouncement, TryOp, TryStore, TryExchange, DirRoot, DirDepth, DirEntries, DirAnnouncement, DirOp, DirWord, DirRow, DirStore, DirExchange, LastWord, LastRow, StoreDone, Stuck}
use Rattle.table_model.specs.SeatStates.{Flight}
use Rattle.table_model.specs.Asks.{ask_in}
use Rattle.table_model.specs.Goes.{more, phase_after, flight_after, after_row, is_applied, answered_by, after_found, after_seeing, bucket_in_words, after_items, op_in_words}
use Rattle.run_invariant.proofs.Invariant.{Common, Local, Shared, Keeps, width, most_leaves}
use Rattle.run_laws.proofs.Induction.{found_in}
use Rattle.change_laws.proofs.Counts.{buckets-few}
use Rattle.bound_laws.proofs.Found.{count_few, depth_few}
use Rattle.bound_laws.proofs.Pace.{load_all, leaf_all, lacking, lacks, dir_tail, rest, times, tb, td, wide, tries_rest, last_rest, look_rest, times_two, times_step, then_one, then_two, then_some, answer_rest, row_rest, found_rest, exchange_rest, round_rest}
use Rattle.list_laws.proofs.Options.{some_same}

-- of products
pub times_mono : (a b x : ℕ) → a ≤ b → times a x ≤ times b x
unfolding times
times_mono a b x h = mul-le-mul_right x h

times_less : (a x : ℕ) → 1 ≤ a → times (a - 1) x + x ≡ times a x
unfolding times
times_less a x h = (let e : a ≡ suc (a - 1) = omega (arith, h) in omega arith ∙ sym (ap (λ k. k * x) e))

-- the opaque numbers
pub wide_is : (setup : Setup) → wide setup ≡ 2 + 2 ^ setup.shape.settings.depth
unfolding wide
wide_is setup = refl

pub load_is : (setup : Setup) → load_all setup ≡ times (seats_of setup) (1 + width setup)
unfolding load_all times width
load_is setup = refl

pub leaf_is : (setup : Setup) → leaf_all setup ≡ times (most_leaves setup) (width setup + 1)
unfolding leaf_all times width most_leaves
leaf_is setup = refl

-- one more bucket that is loaded
any_keep : (t : LoadedBucket → Bool) (l : LoadedBucket) (xs : List LoadedBucket) → list_any t xs ≡ true →
    list_any t (xs ++ l ∷ []) ≡ true
any_keep t l [] e = cc
any_keep t l (x ∷ xs) e = go (t x) (any_keep t l xs) e
  where
    go : (b : Bool) → (list_any t xs ≡ true → list_any t (xs ++ l ∷ []) ≡ true) → (b || list_any t xs) ≡ true →
        (b || list_any t (xs ++ l ∷ [])) ≡ true
    go true r e = refl
    go false r e = r e

any_last : (t : LoadedBucket → Bool) (l : LoadedBucket) (xs : List LoadedBucket) → t l ≡ true →
    list_any t (xs ++ l ∷ []) ≡ true
any_last t l [] e = ap (λ b. b || false) e
any_last t l (x ∷ xs) e = go (t x) (any_last t l xs e)
  where
    go : (b : Bool) → list_any t (xs ++ l ∷ []) ≡ true → (b || list_any t (xs ++ l ∷ [])) ≡ true
    go true r = refl
    go false r = r

-- how many buckets are still to be loaded
abbrev count_one : Bool → ℕ
count_one x = cond x 0 1

one_le : (a b : Bool) → (a ≡ true → b ≡ true) → cond b 0 1 ≤ cond a 0 1
one_le true true f = omega arith
one_le true false f = absurd (false≢true (f refl))
one_le false true f = omega arith
one_le false false f = omega arith

lacking_le : (loaded : List LoadedBucket) (l : LoadedBucket) (bs : List ℕ) →
    lacking (loaded ++ l ∷ []) bs ≤ lacking loaded bs
lacking_le loaded l [] = omega arith
lacking_le loaded l (b ∷ bs) = omega (
  arith,
  lacking_le loaded l bs,
  one_le (list_any (is_bucket b) loaded) (list_any (is_bucket b) (loaded ++ l ∷ [])) (any_keep (is_bucket b) l loaded),
)

-- a load leaves one less
lacking_less : (loaded : List LoadedBucket) (l : LoadedBucket) (bs : List ℕ) →
    find (λ b. not (list_any (is_bucket b) loaded)) bs ≡ Some l.bucket →
    suc (lacking (loaded ++ l ∷ []) bs) ≤ lacking loaded bs
lacking_less loaded l [] e = cc
lacking_less loaded l (b ∷ bs) e = go (list_any (is_bucket b) loaded) refl (lacking_less loaded l bs) e
  where
    go : (x : Bool) → list_any (is_bucket b) loaded ≡ x →
        (find (λ b. not (list_any (is_bucket b) loaded)) bs ≡ Some l.bucket →
        suc (lacking (loaded ++ l ∷ []) bs) ≤ lacking loaded bs) →
        cond (not x) (Some b) (find (λ b. not (list_any (is_bucket b) loaded)) bs) ≡ Some l.bucket →
        suc (lacking (loaded ++ l ∷ []) (b ∷ bs)) ≤ cond x 0 1 + lacking loaded bs
    go true f r e = omega (arith, r e, ap (λ (x : Bool). count_one x) (any_keep (is_bucket b) l loaded f))
    go false f r e = omega (
      arith,
      lacking_le loaded l bs,
      ap (λ (x : Bool). count_one x) (any_last (is_bucket b) l loaded (eq-eqb l.bucket b (sym (some_same e)))),
    )

lacking_some : (loaded : List LoadedBucket) (bucket : ℕ) (bs : List ℕ) →
    find (λ b. not (list_any (is_bucket b) loaded)) bs ≡ Some bucket → 1 ≤ lacking loaded bs
lacking_some loaded bucket bs e = (let l : LoadedBucket = record { bucket = bucket; row = 0; state = empty_state 0 }
    in omega (arith, lacking_less loaded l bs e))

lacking_length : (loaded : List LoadedBucket) (bs : List ℕ) → lacking loaded bs ≤ length bs
lacking_length loaded [] = omega arith
lacking_length loaded (b ∷ bs) =
    omega (
      arith,
      lacking_length loaded bs,
      cond_both (list_any (is_bucket b) loaded) 0 1 (λ n. n ≤ 1) (λ e. omega arith) (λ e. omega arith),
    )

-- no more buckets are to be loaded than there are seats
lacking_most : (setup : Setup) (attempt : DirectoryTry) (found : List (Option Op)) →
    lacks setup attempt found [] ≤ length found
lacking_most setup attempt found =
    omega (
      arith,
      lacking_length [] (buckets_of (rules_of setup) attempt.directory found),
      buckets-few (rules_of setup) attempt.directory found,
    )

-- how many words are stored
row_puts_long : (at : ℕ → Address) (i : ℕ) (ws : List ℕ) → length (row_puts at i ws) ≡ length ws
row_puts_long at i [] = refl
row_puts_long at i (x ∷ xs) = ap suc (row_puts_long at (suc i) xs)

-- and of the leaves
leaf_puts_long : (setup : Setup) (base : NewLeaf → Option ℕ) (b r : ℕ) (leaves : List NewLeaf) →
    length (leaf_puts setup base b r leaves) ≡ times (length leaves) (width setup + 1)
unfolding times width
leaf_puts_long setup base b r [] = omega arith
leaf_puts_long setup base b r (leaf ∷ leaves) =
    let ws = bucket_words setup (base leaf) leaf.bucket in
    omega (
      arith,
      length-append (row_puts (BucketRowWord r) 0 ws) (leaf_puts setup base (suc b) (suc r) leaves),
      row_puts_long (BucketRowWord r) 0 ws,
      length-bucket setup.shape.settings (row_of_state (base leaf) leaf.bucket),
      leaf_puts_long setup base (suc b) (suc r) leaves,
    )

module _ (setup : Setup) (me : ℕ) (c : Common) (used : SeatRows) (flight : Flight) (local : Local)
    (h : me < seats_of setup) (s : Shared setup c) where
  -- the word that it finds
  abbrev w : Phase → ℕ
  w phase = found_in (ask_in setup me used flight phase) c.memory

  -- the rest falls with this step
  abbrev Falls : Phase → Type 0
  Falls (StoreDone reply at) = Unit {0}
  Falls phase = suc (rest setup (flight_after flight phase (w phase))
      (phase_after setup me used flight phase (w phase))) ≤ rest setup flight phase

  -- the seen done words
  see : (f : Flight) (u : Bool) → length flight.seen < seats_of setup →
      suc (rest setup f (cond u (StoreOp 0) (FindRoot ForLookup))) ≤ (seats_of setup - length flight.seen) + cond u
      (OP_WORDS + 4 + tries_rest setup + (3 + tries_rest setup + last_rest setup)) (3 + look_rest setup)
  see f true n = omega (arith, n)
  see f false n = omega (arith, n)

  -- the items of a row
  items : (f : Flight) (row count : ℕ) (words : List ℕ) →
      rest setup f (after_items setup flight row count words) ≤ (count * ITEM_WORDS - length words) + 1
  items f row count words = cond_both (ltb (length words) (count * ITEM_WORDS)) (LookItems row count words) _
      (λ ph. rest setup f ph ≤ (count * ITEM_WORDS - length words) + 1) (λ e. omega arith) (λ e. omega arith)

  -- the rest once a directory is loaded
  entries_rest : (f : Flight) (round : Round) (turn first root depth : ℕ) (words : List ℕ) →
      rest setup f (after_entries setup flight round turn first root depth words) ≤ (2 ^ depth - length
      words) + (1 + OP_WORDS) * seats_of setup + load_all setup + leaf_all setup + wide setup + 1
      + dir_tail setup round turn
  entries_rest f round turn first root depth words =
      let P : Phase → Type 0 = λ ph. rest setup f ph ≤
      (2 ^ depth - length words) + (1 + OP_WORDS) * seats_of setup + load_all setup + leaf_all setup + wide setup
      + 1 + dir_tail setup round turn in
      let attempt : DirectoryTry = record {
        turn = turn;
        first = first;
        root = root;
        directory = record { depth = depth; entries = words };
      } in
      cond_both (ltb (length words) (2 ^ depth)) (DirEntries round turn first root depth words)
      (after_directory setup flight round attempt) P
      (λ e. omega arith)
      (λ e. cond_both (eqb (bucket_of (rules_of setup) attempt.directory (key_in flight.call)) round.bucket)
      (DirAnnouncement round attempt []) (after_round round) P
      (λ z. omega arith) (λ z. (let r = round_rest setup me c used flight local h s f round in omega (arith, r))))

  -- the rest once a bucket is loaded
  loaded_rest : (f : Flight) (round : Round) (attempt : DirectoryTry) (found : List (Option Op))
      (loaded : List LoadedBucket) → rest setup f (after_loaded setup round attempt found loaded) ≤ times
      (lacks setup attempt found loaded) (1 + width setup) + leaf_all setup + wide setup + 1 + dir_tail setup round
      attempt.turn
  loaded_rest f round attempt found loaded = go (next_bucket (rules_of setup) attempt.directory loaded found)
    where
      go : (o : Option ℕ) → rest setup f (load_or_store round attempt found loaded o) ≤ times
          (lacks setup attempt found loaded) (1 + width setup) + leaf_all setup + wide setup + 1 + dir_tail setup
          round attempt.turn
      go None = omega arith
      go (Some b) = omega arith

  -- the rest once all ops are found
  dir_found_rest : (f : Flight) (round : Round) (attempt : DirectoryTry) (found : List (Option Op)) →
      length found ≤ seats_of setup →
      rest setup f (after_dir_found setup round attempt found)
      ≤ (1 + OP_WORDS) * (seats_of setup - length found) + load_all setup + leaf_all setup + wide setup + 1
      + dir_tail setup round attempt.turn
  dir_found_rest f round attempt found most =
      cond_both (ltb (length found) (seats_of setup)) (DirAnnouncement round attempt found)
      (after_loaded setup round attempt found [])
      (λ ph. rest setup f ph ≤ (1 + OP_WORDS) * (seats_of setup - length found) + load_all setup + leaf_all setup + wide
      setup + 1 + dir_tail setup round attempt.turn) (λ e. omega arith)
      (λ e. (let r = loaded_rest f round attempt found [] in let few = lacking_most setup attempt found in
      omega (
        arith,
        r,
        load_is setup,
        times_mono (lacks setup attempt found []) (seats_of setup) (1 + width setup)
            (omega (arith, few, most)),
      )))

  -- an answer from a leaf
  leaf_rest : (f : Flight) (row : ℕ) (leaves : List NewLeaf) →
      rest setup f (answered_by_leaf (rules_of setup) me flight row leaves) ≤ 1
  leaf_rest f row [] = omega arith
  leaf_rest f row (leaf ∷ leaves) = cond_both (is_in (rules_of setup) (key_in flight.call) leaf.bucket)
      (answered_by me leaf.bucket row) _ (λ ph. rest setup f ph ≤ 1)
      (λ e. answer_rest setup me c used flight local h s f leaf.bucket row) (λ e. leaf_rest f (row + 1) leaves)

  -- the rest after the exchange of the root
  root_rest : (f : Flight) (round : Round) (attempt : DirectoryTry) (found : List (Option Op))
      (loaded : List LoadedBucket) (x : ℕ) →
      rest setup f (cond (eqb x attempt.root) (answered_by_leaf (rules_of setup) me flight
      (next_number setup me BucketRows used) (made_leaves setup attempt found loaded)) (after_lost_root round attempt))
      ≤ dir_tail setup round attempt.turn
  root_rest f round attempt found loaded x =
      let P : Phase → Type 0 = λ ph. rest setup f ph ≤ dir_tail setup round attempt.turn in
      cond_both (eqb x attempt.root) _ (after_lost_root round attempt) P
      (λ e. (let r = leaf_rest f (next_number setup me BucketRows used) (made_leaves setup attempt found loaded) in
      omega (arith, r, then_some setup round.turn)))
      (λ e. cond_both (eqb attempt.turn 1) (DirRoot round 2 (Some attempt.first)) (after_round round) P
      (λ z. (let one : 2 - attempt.turn ≡ 1 = omega (arith, eqb-true attempt.turn 1 z) in
      omega (arith, ap (λ k. times k (td setup)) one)))
      (λ z. (let r = round_rest setup me c used flight local h s f round in omega (arith, r))))

  -- a directory try stores few words
  puts_few : (round : Round) (attempt : DirectoryTry) (found : List (Option Op)) (loaded : List LoadedBucket) (i : ℕ)
      → Keeps setup c me used flight local (DirStore round attempt found loaded i) →
      length (directory_puts setup me used attempt found loaded) ≤ leaf_all setup + wide setup
  unfolding directory_puts
  puts_few round attempt found loaded i k =
      let leaves = made_leaves setup attempt found loaded in
      let few : length leaves ≤ most_leaves setup =
      (changes_from_laws setup).few c me local.dir local.root round.bucket flight.call attempt found loaded s
      (record { opens = k.opens; all = k.all; entries = k.entries; loads = k.loads; whole = k.whole }) in
      let change = (changes_from_laws setup).change c me local.dir local.root round.bucket
      (next_number setup me BucketWords used) flight.call attempt found loaded s
      (record { opens = k.opens; all = k.all; entries = k.entries; loads = k.loads; whole = k.whole })
      (numbers_free setup me c h s used (length leaves) k.works.flies.used_is
      (omega (arith, few, k.room.words, ap (λ (u : SeatRows). u.bucket_words) k.works.flies.used_is))) in
      let front = leaf_puts setup (base_of_leaf loaded) (next_number setup me BucketWords used)
      (next_number setup me BucketRows used) leaves in
      let ws = directory_words (Some attempt.root) (made_directory setup me used attempt found loaded) in
      let back = row_puts (DirectoryWord (next_number setup me DirRows used)) 0 ws in
      let up : 2 ^ (made_directory setup me used attempt found loaded).depth ≤ 2 ^ setup.shape.settings.depth =
      pow_mono change.shallow in
      omega (
        arith,
        length-append front back,
        leaf_puts_long setup (base_of_leaf loaded) (next_number setup me BucketWords used)
            (next_number setup me BucketRows used) leaves,
        row_puts_long (DirectoryWord (next_number setup me DirRows used)) 0 ws,
        change.long,
        up,
        wide_is setup,
        leaf_is setup,
        times_mono (length leaves) (most_leaves setup) (width setup + 1) few,
      )

  -- so it falls in every phase but the last store
  pub falls_begin : (phase : Phase) → Keeps setup c me used flight local phase → Falls phase
  falls_begin SeeDone k =
      let f = flight_after flight SeeDone (w SeeDone) in
      cond_both (ltb (length flight.seen + 1) (seats_of setup)) SeeDone (after_seeing flight)
      (λ ph. suc (rest setup f ph) ≤ rest setup flight SeeDone)
      (λ e. omega (arith, length_push flight.seen (w SeeDone), k.short)) (λ e. see f (is_update flight.call) k.short)
  falls_begin (StoreOp i) k = cond_both (ltb (i + 1) OP_WORDS) (StoreOp (i + 1)) Announce
      (λ ph. suc (rest setup flight ph) ≤ rest setup flight (StoreOp i)) (λ e. omega (arith, k.short))
      (λ e. omega (arith, k.short))
  falls_begin Announce k = omega arith
  falls_begin (FindRoot aim) k = omega arith
  falls_begin (FindDepth aim root) k = omega arith
  falls_begin (FindEntry ForLookup root depth) k = omega arith
  falls_begin (FindEntry ForFirstRound root depth) k = omega (arith, times_two (tb setup), then_one setup)
  falls_begin (FindEntry (ForSecondRound first) root depth) k = omega (arith, times_two (tb setup), then_two setup)
  falls_begin (FindEntry ForLastLook root depth) k = omega arith
  falls_begin (LookWord root bucket) k = omega arith
  falls_begin (LookCount row) k =
      let few = count_few setup me c used flight local h s local.at local.base row k.there k.old k.row_is in
      omega (arith, items (flight_after flight (LookCount row) (w (LookCount row))) row (w (LookCount row)) [], few)
  falls_begin (LookItems row count words) k =
      omega (
        arith,
        items (flight_after flight (LookItems row count words) (w (LookItems row count words))) row count
            (more words (w (LookItems row count words))),
        length_push words (w (LookItems row count words)),
        k.short,
      )
  falls_begin (TryWord round turn first) k = omega arith
  falls_begin (TryRow round turn first row words) k =
      let x = w (TryRow round turn first row words) in
      let f = flight_after flight (TryRow round turn first row words) x in
      let now = more words x in
      cond_both (ltb (length now) (bucket_row_words setup.shape.settings)) (TryRow round turn first row now)
      (after_row me flight round (record { turn = turn; first = first; row = row; state = bucket_in_words setup now }))
      (λ ph. suc (rest setup f ph) ≤ rest setup flight (TryRow round turn first row words))
      (λ e. omega (arith, length_push words x, k.short))
      (λ e. (let r = row_rest setup me c used flight local h s f round
      (record { turn = turn; first = first; row = row; state = bucket_in_words setup now }) in
      omega (arith, r, k.short)))
  falls_begin (TryAnnouncement round attempt found) k =
      let x = w (TryAnnouncement round attempt found) in
      let f = flight_after flight (TryAnnouncement round attempt found) x in
      let none : Option Op = None in
      cond_both (eqb x 0) (after_found setup round attempt (more found none)) (TryOp round attempt found (x - 1) [])
      (λ ph. suc (rest setup f ph) ≤ rest setup flight (TryAnnouncement round attempt found))
      (λ e. (let r = found_rest setup me c used flight local h s f round attempt (more found none) in
      omega (arith, r, length_push found none, k.short)))
      (λ e. omega (arith, k.short))
  falls_begin (TryOp round attempt found op words) k =
      let x = w (TryOp round attempt found op words) in
      let f = flight_after flight (TryOp round attempt found op words) x in
      let new : Option Op = Some (op_in_words (length found) (more words x)) in
      cond_both (ltb (length words + 1) OP_WORDS) (TryOp round attempt found op (more words x))
      (after_found setup round attempt (more found new))
      (λ ph. suc (rest setup f ph) ≤ rest setup flight (TryOp round attempt found op words))
      (λ e. omega (arith, length_push words x, k.short_op))
      (λ e. (let r = found_rest setup me c used flight local h s f round attempt (more found new) in
      omega (arith, r, length_push found new, k.short, k.short_op)))
  falls_begin (TryStore round attempt found i) k =
      cond_both (ltb (i + 1) (bucket_row_words (settings_of setup))) (TryStore round attempt found (i + 1))
      (TryExchange round attempt found)
      (λ ph. suc (rest setup flight ph) ≤ rest setup flight (TryStore round attempt found i))
      (λ e. omega (arith, k.short)) (λ e. omega (arith, k.short))
  falls_begin (TryExchange round attempt found) k =
      let x = w (TryExchange round attempt found) in
      let r = exchange_rest setup me c used flight local h s (flight_after flight (TryExchange round attempt found) x)
      round attempt found (next_number setup me BucketRows used) x in omega (arith, r)
  falls_begin (DirRoot round turn first) k = elim k.begun [
    | inl z ↦ omega (arith, times_step turn (td setup) (omega (arith, z.0)))
    | inr z ↦ omega (arith, times_step turn (td setup) (omega (arith, z.3)))
  ]
  falls_begin (LastWord root bucket) k = omega arith
  falls_begin (LastRow row words) k =
      let x = w (LastRow row words) in
      let now = more words x in
      cond_both (ltb (length now) (bucket_row_words setup.shape.settings)) (LastRow row now) _
      (λ ph. suc (rest setup (flight_after flight (LastRow row words) x) ph) ≤ rest setup flight (LastRow row words))
      (λ e. omega (arith, length_push words x, k.short))
      (λ e. cond_both (is_applied me flight (bucket_in_words setup now))
      (answered_by me (bucket_in_words setup now) row) Stuck (λ ph. suc
      (rest setup (flight_after flight (LastRow row words) x) ph) ≤ rest setup flight (LastRow row words)) (λ z. omega (
        arith,
        k.short,
        answer_rest setup me c used flight local h s (flight_after flight (LastRow row words) x)
            (bucket_in_words setup now) row,
      )) (λ z. omega (arith, k.short)))
  falls_begin (DirDepth round turn first root) k =
      let x = w (DirDepth round turn first root) in
      let up : 2 ^ x ≤ 2 ^ setup.shape.settings.depth =
      pow_mono (depth_few setup me c used flight local h s local.root root k.looks.old k.looks.row_is) in
      omega (
        arith,
        entries_rest (flight_after flight (DirDepth round turn first root) x) round turn first root x [],
        up,
        wide_is setup,
      )
  falls_begin (DirEntries round turn first root depth words) k =
      let x = w (DirEntries round turn first root depth words) in
      omega (
        arith,
        entries_rest (flight_after flight (DirEntries round turn first root depth words) x) round turn
            first root depth (more words x),
        length_push words x,
        k.short,
      )
  falls_begin (DirAnnouncement round attempt found) k =
      let x = w (DirAnnouncement round attempt found) in
      let f = flight_after flight (DirAnnouncement round attempt found) x in
      let none : Option Op = None in
      cond_both (eqb x 0) (after_dir_found setup round attempt (more found none)) (DirOp round attempt found (x - 1) [])
      (λ ph. suc (rest setup f ph) ≤ rest setup flight (DirAnnouncement round attempt found))
      (λ e. (let r = dir_found_rest f round attempt (more found none) (omega (arith, length_push found none, k.short))
      in omega (arith, r, length_push found none, k.short)))
      (λ e. omega (arith, k.short))
  falls_begin (DirOp round attempt found op words) k =
      let x = w (DirOp round attempt found op words) in
      let f = flight_after flight (DirOp round attempt found op words) x in
      let new : Option Op = Some (op_in_words (length found) (more words x)) in
      cond_both (ltb (length words + 1) OP_WORDS) (DirOp round attempt found op (more words x))
      (after_dir_found setup round attempt (more found new))
      (λ ph. suc (rest setup f ph) ≤ rest setup flight (DirOp round attempt found op words))
      (λ e. omega (arith, length_push words x, k.short_op))
      (λ e. (let r = dir_found_rest f round attempt (more found new) (omega (arith, length_push found new, k.short))
      in omega (arith, r, length_push found new, k.short, k.short_op)))
  falls_begin (DirWord round attempt found loaded bucket) k =
      let some : 1 ≤ lacks setup attempt found loaded =
      lacking_some loaded bucket (buckets_of (rules_of setup) attempt.directory found) k.next in
      omega (arith, times_less (lacks setup attempt found loaded) (1 + width setup) some)
  falls_begin (DirRow round attempt found loaded bucket row words) k =
      let x = w (DirRow round attempt found loaded bucket row words) in
      let f = flight_after flight (DirRow round attempt found loaded bucket row words) x in
      let now = more words x in
      let l : LoadedBucket = record { bucket = bucket; row = row; state = bucket_in_words setup now } in
      cond_both (ltb (length now) (bucket_row_words setup.shape.settings))
      (DirRow round attempt found loaded bucket row now) (after_loaded setup round attempt found (more loaded l))
      (λ ph. suc (rest setup f ph) ≤ rest setup flight (DirRow round attempt found loaded bucket row words))
      (λ e. omega (arith, length_push words x, k.short))
      (λ e. (let r = loaded_rest f round attempt found (more loaded l) in
      let less : lacks setup attempt found (more loaded l) ≤ lacks setup attempt found loaded - 1 =
      omega (arith, lacking_less loaded l (buckets_of (rules_of setup) attempt.directory found) k.next) in
      omega (
        arith,
        r,
        k.short,
        times_mono (lacks setup attempt found (more loaded l))
            (lacks setup attempt found loaded - 1) (1 + width setup) less,
      )))
  falls_begin (DirStore round attempt found loaded i) k =
      cond_both (ltb (i + 1) (length (directory_puts setup me used attempt found loaded)))
      (DirStore round attempt found loaded (i + 1)) (DirExchange round attempt found loaded)
      (λ ph. suc (rest setup flight ph) ≤ rest setup flight (DirStore round attempt found loaded i))
      (λ e. (let few = puts_few round attempt found loaded i k in omega (arith, few, k.short)))
      (λ e. (let few = puts_few round attempt found loaded i k in omega (arith, few, k.short)))
  falls_begin (DirExchange round attempt found loaded) k =
      let x = w (DirExchange round attempt found loaded) in
      let f = flight_after flight (DirExchange round attempt found loaded) x in
      let r = root_rest f round attempt found loaded x in omega (arith, r)
  falls_begin (StoreDone reply at) k = tt
  falls_begin phase k = absurd k
