-- The rows that a seat knows beside those of its try: the directory row by which its round found its bucket, and the
-- row of its reply. A layer of the induction.
use Rattle.std.proofs.Common.{◌≡◌, ℕ, suc, ◌+◌, ◌-◌, ◌*◌, ◌^◌, ◌<◌, ◌≤◌, Bool, true, false, cond, eqb, ltb, leb, List, [], ◌∷◌, length, sym, ap, ◌∙◌, subst, arith, lt-ltb, le-leb}
use Rattle.std.specs.Prelude.{Option, Some, None, slice_index_or}
use Rattle.std.proofs.lemmas.Bool.{and_from}
use Rattle.std.proofs.lemmas.List.{get_or-replicate}
use Rattle.step_counts.specs.declared.TheConstants.{OP_WORDS, ITEM_WORDS}
use Rattle.step_counts.specs.StepCounts.{bucket_row_words}
use Rattle.step_counts.specs.declared.rows.SeatRows.{SeatRows}
use Rattle.plain_map.specs.declared.full.FullKind.TheVariants.{BucketRows, BucketWords}
use Rattle.plain_map.specs.declared.calls.Reply.{Reply}
use Rattle.plain_map.specs.Calls.{key_in, is_update}
use Rattle.word_rows.proofs.MemoryLemmas.{put_same, put_at_same}
use Rattle.bucket_states.specs.declared.ops.Op.{Op}
use Rattle.bucket_states.specs.Items.{reply_in}
use Rattle.word_rows.specs.BucketWords.{items_of_words}
use Rattle.bucket_states.specs.States.{BucketState}
use Rattle.table_model.specs.Setup.{Setup, seats_of, rules_of, settings_of, next_number}
use Rattle.table_model.specs.declared.rounds.Aim.{Aim}
use Rattle.table_model.specs.declared.rounds.Aim.TheVariants.{ForLookup, ForFirstRound, ForSecondRound, ForLastLook}
use Rattle.table_model.specs.declared.rounds.Round.{Round}
use Rattle.table_model.specs.Leaves.{NewLeaf, is_in}
use Rattle.table_model.specs.DirectoryChange.{LoadedBucket, next_bucket}
use Rattle.table_model.specs.Phases.{BucketTry, DirectoryTry, Phase, SeeDone, StoreOp, Announce, FindRoot, FindDepth, FindEntry, LookWord, LookCount, LookItems, TryWord, TryRow, TryAnnouncement, TryOp, TryStore, TryExchange, DirRoot, DirDepth, DirEntries, DirAnnouncement, DirOp, DirWord, DirRow, DirStore, DirExchange, LastWord, LastRow, StoreDone, Stuck}
use Rattle.table_model.specs.SeatStates.{Account, Flight, Stand, Idle, InFlight, SeatState, fresh_seat}
use Rattle.table_model.specs.Asks.{ask_in}
use Rattle.table_model.specs.Goes.{state_after, phase_after, flight_after, answered_by, answered_with, answered_by_leaf, after_seeing, after_items, after_row, after_round, after_lost_root, after_found, after_dir_found, after_entries, after_directory, after_exchange, after_find, after_loaded, load_or_store, is_applied, bucket_in_words, op_in_words, more}
use Rattle.table_model.specs.Stores.{made_leaves, made_bucket, directory_puts}
use Rattle.table_model.specs.Directories.{bucket_of}
use Rattle.table_model.specs.Worlds.{World, IsRun, opening_world, world_after}
use Rattle.table_model.specs.declared.events.Event.{Event}
use Rattle.run_invariant.proofs.Events.{published}
use Rattle.run_invariant.proofs.Numbers.{next_row}
use Rattle.run_invariant.proofs.Invariant.{Common, Local, Shared, Keeps, Moves, row_no}
use Rattle.run_laws.proofs.PublishRoot.{is_new}
use Rattle.run_laws.proofs.Induction.{common_after, found_in}
use Rattle.run_laws.proofs.Won.{grown_by}
use Rattle.run_laws.proofs.Layers.{HoldsWith, run_with}
use Rattle.run_laws.proofs.Changes.{changes_from_laws}
use Rattle.run_laws.proofs.Opened.{bucket_laws, opening_holds}
use Rattle.helping_laws.proofs.Layer.{Layer, Holding, layer_steps, moves_of}

-- a directory row of the history, and a bucket row of it
pub record IsVersion (c : Common) (row : ℕ) : Type 0 where
  pub version : ℕ
  pub inside : version ≤ c.dir_top
  pub is : row ≡ c.dir_row version

-- a bucket row of the history
pub record IsPlace (c : Common) (row : ℕ) : Type 0 where
  pub bucket : ℕ
  pub at : ℕ
  pub named : c.named bucket ≡ true
  pub inside : at ≤ c.top bucket
  pub is : row ≡ c.row_at bucket at

-- it stays one
version_up : (setup : Setup) (me : ℕ) (c d : Common) → Moves setup me c d → (row : ℕ) → IsVersion c row →
    IsVersion d row
version_up setup me c d m row x = record {
  version = x.version;
  inside = omega (arith, x.inside, m.dir_up);
  is = x.is
      ∙ sym (m.dirs x.version x.inside).0;
}

-- so does this
place_up : (setup : Setup) (me : ℕ) (c d : Common) → Moves setup me c d → (row : ℕ) → IsPlace c row → IsPlace d row
place_up setup me c d m row x = record {
  bucket = x.bucket;
  at = x.at;
  named = (m.named_up x.bucket x.named).0;
  inside = omega (arith, x.inside, (m.named_up x.bucket x.named).3);
  is = x.is ∙ sym (m.rows x.bucket x.at x.named x.inside).0;
}

-- what is known in a phase
abbrev pub Knows : Common → Phase → Type 0
Knows c (LookWord root bucket) = IsVersion c root
Knows c (LastWord root bucket) = IsVersion c root
Knows c (TryWord round turn first) = IsVersion c round.root
Knows c (TryRow round turn first row words) = IsVersion c round.root
Knows c (TryAnnouncement round attempt found) = IsVersion c round.root
Knows c (TryOp round attempt found op words) = IsVersion c round.root
Knows c (TryStore round attempt found stored) = IsVersion c round.root
Knows c (TryExchange round attempt found) = IsVersion c round.root
Knows c (DirRoot round turn first) = IsVersion c round.root
Knows c (DirDepth round turn first root) = IsVersion c round.root
Knows c (DirEntries round turn first root depth words) = IsVersion c round.root
Knows c (DirAnnouncement round attempt found) = IsVersion c round.root
Knows c (DirOp round attempt found op words) = IsVersion c round.root
Knows c (DirWord round attempt found loaded bucket) = IsVersion c round.root
Knows c (DirRow round attempt found loaded bucket row words) = IsVersion c round.root
Knows c (DirStore round attempt found loaded stored) = IsVersion c round.root
Knows c (DirExchange round attempt found loaded) = IsVersion c round.root
Knows c (StoreDone reply place) = IsPlace c place
Knows c phase = Unit {0}

-- what a seat knows
abbrev pub KnowsStand : Common → Stand → Type 0
KnowsStand c Idle = Unit {0}
KnowsStand c (InFlight flight phase) = Knows c phase

-- and what it knows stays, whatever another seat does
knows_up : (setup : Setup) (me : ℕ) (c d : Common) → Moves setup me c d → (stand : Stand) → KnowsStand c stand →
    KnowsStand d stand
knows_up setup me c d m Idle x = tt
knows_up setup me c d m (InFlight flight phase) x = go phase x
  where
    go : (phase : Phase) → Knows c phase → Knows d phase
    go (LookWord root bucket) x = version_up setup me c d m root x
    go (LastWord root bucket) x = version_up setup me c d m root x
    go (TryWord round turn first) x = version_up setup me c d m round.root x
    go (TryRow round turn first row words) x = version_up setup me c d m round.root x
    go (TryAnnouncement round attempt found) x = version_up setup me c d m round.root x
    go (TryOp round attempt found op words) x = version_up setup me c d m round.root x
    go (TryStore round attempt found stored) x = version_up setup me c d m round.root x
    go (TryExchange round attempt found) x = version_up setup me c d m round.root x
    go (DirRoot round turn first) x = version_up setup me c d m round.root x
    go (DirDepth round turn first root) x = version_up setup me c d m round.root x
    go (DirEntries round turn first root depth words) x = version_up setup me c d m round.root x
    go (DirAnnouncement round attempt found) x = version_up setup me c d m round.root x
    go (DirOp round attempt found op words) x = version_up setup me c d m round.root x
    go (DirWord round attempt found loaded bucket) x = version_up setup me c d m round.root x
    go (DirRow round attempt found loaded bucket row words) x = version_up setup me c d m round.root x
    go (DirStore round attempt found loaded stored) x = version_up setup me c d m round.root x
    go (DirExchange round attempt found loaded) x = version_up setup me c d m round.root x
    go (StoreDone reply place) x = place_up setup me c d m place x
    go phase x = x

-- a test between two phases
either : (c : Common) (t : Bool) (x y : Phase) → Knows c x → Knows c y → Knows c (cond t x y)
either c true x y k l = k
either c false x y k l = l

-- a reply by a row that is published
answers : (c : Common) (me : ℕ) (bucket : BucketState) (row : ℕ) → IsPlace c row → Knows c (answered_by me bucket row)
answers c me bucket row x = go (slice_index_or bucket.replies me None)
  where
    go : (o : Option Reply) → Knows c (answered_with row o)
    go None = tt
    go (Some reply) = x

module _ (setup : Setup) (me : ℕ) (c : Common) (account : Account) (flight : Flight) (local : Local)
    (h : me < seats_of setup) (s : Shared setup c) where
  -- a bucket row is loaded whole
  row_loaded : (round : Round) (attempt : BucketTry) → IsVersion c round.root → IsPlace c attempt.row →
      Knows c (after_row me flight round attempt)
  row_loaded round attempt x p =
      either c (is_applied me flight attempt.state) (answered_by me attempt.state attempt.row)
      (cond attempt.state.frozen (DirRoot round 1 None)
      (cond (leb attempt.turn 2) (TryAnnouncement round attempt []) Stuck))
      (answers c me attempt.state attempt.row p)
      (either c attempt.state.frozen (DirRoot round 1 None)
      (cond (leb attempt.turn 2) (TryAnnouncement round attempt []) Stuck) x
      (either c (leb attempt.turn 2) (TryAnnouncement round attempt []) Stuck x tt))

  -- the buckets that are left to load
  loads : (round : Round) (attempt : DirectoryTry) (found : List (Option Op)) (loaded : List LoadedBucket)
      (next : Option ℕ) → IsVersion c round.root → Knows c (load_or_store round attempt found loaded next)
  loads round attempt found loaded None x = x
  loads round attempt found loaded (Some bucket) x = x

  -- the word that is found
  abbrev word : Phase → ℕ
  word phase = found_in (ask_in setup me account.used flight phase) c.memory

  -- what is known after the step
  abbrev After : Phase → Type 0
  After phase = KnowsStand (common_after setup me account.used flight phase c)
      (state_after setup me account flight phase (word phase)).stand

  -- a bucket row is published
  module _ (round : Round) (attempt : BucketTry) (found : List (Option Op))
      (k : Keeps setup c me account.used flight local (TryExchange round attempt found))
      (x : IsVersion c round.root) where
    -- the row that is published
    new_row : IsPlace (published setup me round.bucket attempt found c) (next_number setup me BucketRows account.used)
    new_row = record {
      bucket = round.bucket;
      at = c.top round.bucket + 1;
      named = k.in_round.there;
      inside = omega (arith, put_same c.top round.bucket (c.top round.bucket + 1));
      is = next_row setup me account.used ∙ ap (λ (u : SeatRows). row_no setup me u.bucket_rows)
          (sym k.works.flies.used_is)
          ∙ sym (put_at_same c.row_at round.bucket (c.top round.bucket + 1) (row_no setup me (c.used me).bucket_rows));
    }

    -- so the reply by it is by a published row
    exchanged : (e : Bool) → Moves setup me c (cond e (published setup me round.bucket attempt found c) c) →
        Knows (cond e (published setup me round.bucket attempt found c) c)
        (cond e (after_exchange me flight round (made_bucket setup attempt found)
        (next_number setup me BucketRows account.used)) (TryWord round (attempt.turn + 1) (Some attempt.first)))
    exchanged false m = x
    exchanged true m =
        let d = published setup me round.bucket attempt found c in
        let made = made_bucket setup attempt found in
        either d (is_applied me flight made) (answered_by me made (next_number setup me BucketRows account.used))
        (cond made.frozen (DirRoot round 1 None) Stuck)
        (answers d me made (next_number setup me BucketRows account.used) new_row)
        (either d made.frozen (DirRoot round 1 None) Stuck (version_up setup me c d m round.root x) tt)

  -- leaves are published
  by_leaf : (d : Common) (row : ℕ) (leaves : List NewLeaf) → ((i : ℕ) → i < length leaves → IsPlace d (row + i)) →
      Knows d (answered_by_leaf (rules_of setup) me flight row leaves)
  by_leaf d row [] places = tt
  by_leaf d row (leaf ∷ leaves) places =
      either d (is_in (rules_of setup) (key_in flight.call) leaf.bucket) (answered_by me leaf.bucket row)
      (answered_by_leaf (rules_of setup) me flight (row + 1) leaves)
      (answers d me leaf.bucket row (subst (IsPlace d) (omega arith) (places 0 (omega arith))))
      (by_leaf d (row + 1) leaves (λ i n. let same : row + suc i ≡ row + 1 + i = omega arith in
      subst (IsPlace d) same (places (suc i) (omega (arith, n)))))

  -- the row of a new leaf
  new_leaf : (attempt : DirectoryTry) (found : List (Option Op)) (loaded : List LoadedBucket) (i : ℕ) →
      i < length (made_leaves setup attempt found loaded) →
      IsPlace (grown_by setup me account.used attempt found loaded c) (next_number setup me BucketRows account.used + i)
  new_leaf attempt found loaded i n =
      let fresh = next_number setup me BucketWords account.used in
      let row = next_number setup me BucketRows account.used in
      let many = length (made_leaves setup attempt found loaded) in
      let b = fresh + i in
      let new : is_new fresh many b ≡ true =
      and_from (leb fresh b) (ltb b (fresh + many)) (le-leb fresh b (omega arith))
      (lt-ltb b (fresh + many) (omega (arith, n))) in
      let at : row + i ≡ row + (b - fresh) = omega arith in
      record {
        bucket = b;
        at = 0;
        named = ap (λ t. cond t true (c.named b)) new;
        inside = omega arith;
        is = at ∙ ap (λ t. cond t (λ (j : ℕ). row + (b - fresh)) (c.row_at b) 0) (sym new);
      }

  module _ (round : Round) (attempt : DirectoryTry) (found : List (Option Op)) (loaded : List LoadedBucket)
      (x : IsVersion c round.root) where
    -- the exchange of the root happens, or is lost
    root_exchanged : (e : Bool) → Knows (cond e (grown_by setup me account.used attempt found loaded c) c)
        (cond e (answered_by_leaf (rules_of setup) me flight (next_number setup me BucketRows account.used)
        (made_leaves setup attempt found loaded)) (after_lost_root round attempt))
    root_exchanged false = either c (eqb attempt.turn 1) (DirRoot round 2 (Some attempt.first)) (after_round round) x tt
    root_exchanged true = by_leaf (grown_by setup me account.used attempt found loaded c)
        (next_number setup me BucketRows account.used) (made_leaves setup attempt found loaded)
        (new_leaf attempt found loaded)

  -- the directory is loaded whole, or not yet
  entries_loaded : (round : Round) (turn first root depth : ℕ) (words : List ℕ) → IsVersion c round.root →
      Knows c (after_entries setup flight round turn first root depth words)
  entries_loaded round turn first root depth words x =
      let attempt : DirectoryTry = record {
        turn = turn;
        first = first;
        root = root;
        directory = record { depth = depth; entries = words };
      } in
      either c (ltb (length words) (2 ^ depth)) (DirEntries round turn first root depth words)
      (after_directory setup flight round attempt) x
      (either c (eqb (bucket_of (rules_of setup) attempt.directory (key_in flight.call)) round.bucket)
      (DirAnnouncement round attempt []) (after_round round) x tt)

  -- one more seat's op is found by a bucket try
  found_more : (round : Round) (attempt : BucketTry) (found : List (Option Op)) → IsVersion c round.root →
      Knows c (after_found setup round attempt found)
  found_more round attempt found x = either c (ltb (length found) (seats_of setup))
      (TryAnnouncement round attempt found) (TryStore round attempt found 0) x x

  -- and by a directory try
  dir_found_more : (round : Round) (attempt : DirectoryTry) (found : List (Option Op)) → IsVersion c round.root →
      Knows c (after_dir_found setup round attempt found)
  dir_found_more round attempt found x = either c (ltb (length found) (seats_of setup))
      (DirAnnouncement round attempt found) (after_loaded setup round attempt found []) x
      (loads round attempt found [] (next_bucket (rules_of setup) attempt.directory [] found) x)

  -- a bucket is found by a directory row
  found_at : (aim : Aim) (root bucket : ℕ) → IsVersion c root → Knows c (after_find aim root bucket)
  found_at ForLookup root bucket x = x
  found_at ForFirstRound root bucket x = x
  found_at (ForSecondRound first) root bucket x = x
  found_at ForLastLook root bucket x = x

  -- a lookup loads its items
  items_loaded : (row count : ℕ) (words : List ℕ) → IsPlace c row → Knows c (after_items setup flight row count words)
  items_loaded row count words x = either c (ltb (length words) (count * ITEM_WORDS)) (LookItems row count words)
      (StoreDone (reply_in (rules_of setup) (items_of_words count words) flight.call) row) tt x

  -- what the seat knows after its step
  steps : (phase : Phase) → Keeps setup c me account.used flight local phase → Knows c phase →
      Moves setup me c (common_after setup me account.used flight phase c) → After phase
  steps SeeDone k x m = knows_up setup me c c m (InFlight (flight_after flight SeeDone (word SeeDone))
      (phase_after setup me account.used flight SeeDone (word SeeDone)))
      (either c (ltb (length flight.seen + 1) (seats_of setup)) SeeDone (after_seeing flight) tt
      (either c (is_update flight.call) (StoreOp 0) (FindRoot ForLookup) tt tt))
  steps (StoreOp i) k x m = either _ (ltb (i + 1) OP_WORDS) (StoreOp (i + 1)) Announce tt tt
  steps Announce k x m = tt
  steps (FindRoot aim) k x m = tt
  steps (FindDepth aim root) k x m = tt
  steps (FindEntry aim root depth) k x m = found_at aim root (word (FindEntry aim root depth))
      (record { version = local.dir; inside = k.finds.old; is = k.finds.root_is })
  steps (LookWord root bucket) k x m = tt
  steps (LookCount row) k x m = items_loaded row (word (LookCount row)) []
      (record { bucket = local.at; at = local.base; named = k.there; inside = k.old; is = k.row_is })
  steps (LookItems row count words) k x m = items_loaded row count (more words (word (LookItems row count words)))
      (record { bucket = local.at; at = local.base; named = k.there; inside = k.old; is = k.row_is })
  steps (TryWord round turn None) k x m = version_up setup me c _ m round.root x
  steps (TryWord round turn (Some first)) k x m = x
  steps (TryRow round turn first row words) k x m =
      let now = more words (word (TryRow round turn first row words)) in
      let attempt : BucketTry = record { turn = turn; first = first; row = row; state = bucket_in_words setup now } in
      either c (ltb (length now) (bucket_row_words (settings_of setup))) (TryRow round turn first row now)
      (after_row me flight round attempt) x
      (row_loaded round attempt x (record {
        bucket = round.bucket;
        at = local.base;
        named = k.in_round.there;
        inside = k.looks.old;
        is = k.looks.row_is;
      }))
  steps (TryAnnouncement round attempt found) k x m =
      let w = word (TryAnnouncement round attempt found) in
      either c (eqb w 0) (after_found setup round attempt (more found None)) (TryOp round attempt found (w - 1) [])
      (found_more round attempt (more found None) x) x
  steps (TryOp round attempt found op words) k x m =
      let now = more words (word (TryOp round attempt found op words)) in
      either c (ltb (length words + 1) OP_WORDS) (TryOp round attempt found op now)
      (after_found setup round attempt (more found (Some (op_in_words (length found) now)))) x
      (found_more round attempt (more found (Some (op_in_words (length found) now))) x)
  steps (TryStore round attempt found i) k x m =
      let y = version_up setup me c _ m round.root x in
      either _ (ltb (i + 1) (bucket_row_words (settings_of setup))) (TryStore round attempt found (i + 1))
      (TryExchange round attempt found) y y
  steps (TryExchange round attempt found) k x m =
      exchanged round attempt found k x (eqb (c.memory.bucket round.bucket) attempt.row) m
  steps (DirRoot round turn None) k x m = version_up setup me c _ m round.root x
  steps (DirRoot round turn (Some first)) k x m = x
  steps (DirDepth round turn first root) k x m =
      entries_loaded round turn first root (word (DirDepth round turn first root)) [] x
  steps (DirEntries round turn first root depth words) k x m =
      entries_loaded round turn first root depth (more words (word (DirEntries round turn first root depth words))) x
  steps (DirAnnouncement round attempt found) k x m =
      let w = word (DirAnnouncement round attempt found) in
      either c (eqb w 0) (after_dir_found setup round attempt (more found None))
      (DirOp round attempt found (w - 1) []) (dir_found_more round attempt (more found None) x) x
  steps (DirOp round attempt found op words) k x m =
      let now = more words (word (DirOp round attempt found op words)) in
      either c (ltb (length words + 1) OP_WORDS) (DirOp round attempt found op now)
      (after_dir_found setup round attempt (more found (Some (op_in_words (length found) now)))) x
      (dir_found_more round attempt (more found (Some (op_in_words (length found) now))) x)
  steps (DirWord round attempt found loaded bucket) k x m = x
  steps (DirRow round attempt found loaded bucket row words) k x m =
      let now = more words (word (DirRow round attempt found loaded bucket row words)) in
      let all = more loaded (record { bucket = bucket; row = row; state = bucket_in_words setup now }) in
      either c (ltb (length now) (bucket_row_words (settings_of setup)))
      (DirRow round attempt found loaded bucket row now) (after_loaded setup round attempt found all) x
      (loads round attempt found all (next_bucket (rules_of setup) attempt.directory all found) x)
  steps (DirStore round attempt found loaded i) k x m =
      let y = version_up setup me c _ m round.root x in
      either _ (ltb (i + 1) (length (directory_puts setup me account.used attempt found loaded)))
      (DirStore round attempt found loaded (i + 1)) (DirExchange round attempt found loaded) y y
  steps (DirExchange round attempt found loaded) k x m =
      root_exchanged round attempt found loaded x (eqb c.memory.root attempt.root)
  steps (LastWord root bucket) k x m = tt
  steps (LastRow row words) k x m =
      let now = more words (word (LastRow row words)) in
      either c (ltb (length now) (bucket_row_words (settings_of setup))) (LastRow row now)
      (cond (is_applied me flight (bucket_in_words setup now))
      (answered_by me (bucket_in_words setup now) row) Stuck) tt
      (either c (is_applied me flight (bucket_in_words setup now))
      (answered_by me (bucket_in_words setup now) row) Stuck
      (answers c me (bucket_in_words setup now) row
      (record { bucket = local.at; at = local.base; named = k.there; inside = k.old; is = k.row_is })) tt)
  steps (StoreDone reply at) k x m = tt
  steps phase k x m = absurd k

-- what the layer says of a world
abbrev pub Knowing : Setup → World → Common → (ℕ → Local) → Unit {0} → Type 0
Knowing setup = Holding setup (λ c. Unit {0}) (λ c q local account stand. KnowsStand c stand)

-- the layer
layer : (setup : Setup) → Layer setup (λ c. Unit {0}) (λ c q local account stand. KnowsStand c stand)
layer setup = record {
  others = λ me c d m s g q n h local account stand k x. knows_up setup me c d m stand x;
  begins = λ c me packet call local account x. tt;
  steps = λ c me account flight local h s phase k g x. (
    tt,
    steps setup me c account flight local h s phase k x (moves_of setup c me account flight local phase h s k),
  );
}

-- it holds in every run
pub knows_in : (setup : Setup) (events : List Event) → IsRun setup events →
    HoldsWith (Unit {0}) setup (Knowing setup) (world_after setup events)
knows_in setup events run =
    let f = opening_holds setup run.opened in
    run_with (Unit {0}) bucket_laws changes_from_laws setup (Knowing setup)
    (layer_steps setup (λ c. Unit {0}) (λ c q local account stand. KnowsStand c stand) (layer setup)) events
    (opening_world setup)
    (record {
      common = f.common;
      locals = f.locals;
      follows = f.follows;
      extra = tt;
      holds = (
        tt,
        λ p h. subst (λ (x : SeatState). KnowsStand f.common x.stand)
            (sym (get_or-replicate (seats_of setup) p fresh_seat fresh_seat h)) tt,
      );
    }) run.follow
