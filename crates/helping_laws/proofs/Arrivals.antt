-- From which phases a step leads into a bucket try that goes on, and into a directory try that goes on.
use Rattle.std.proofs.Common.{ℕ, ◌+◌, ◌-◌, ◌*◌, ◌^◌, Bool, true, false, cond, eqb, ltb, leb, List, [], ◌∷◌, length}
use Rattle.std.specs.Prelude.{Option, Some, None, slice_index_or}
use Rattle.step_counts.specs.declared.TheConstants.{OP_WORDS, ITEM_WORDS}
use Rattle.step_counts.specs.StepCounts.{bucket_row_words}
use Rattle.step_counts.specs.declared.rows.SeatRows.{SeatRows}
use Rattle.plain_map.specs.declared.full.FullKind.TheVariants.{BucketRows}
use Rattle.plain_map.specs.declared.calls.Reply.{Reply}
use Rattle.plain_map.specs.Calls.{key_in, is_update}
use Rattle.word_rows.specs.BucketWords.{items_of_words}
use Rattle.bucket_states.specs.Items.{reply_in}
use Rattle.bucket_states.specs.States.{BucketState}
use Rattle.bucket_states.specs.declared.ops.Op.{Op}
use Rattle.table_model.specs.Setup.{Setup, seats_of, rules_of, settings_of, next_number}
use Rattle.table_model.specs.Directories.{bucket_of}
use Rattle.table_model.specs.Leaves.{NewLeaf, is_in}
use Rattle.table_model.specs.declared.rounds.Aim.{Aim}
use Rattle.table_model.specs.declared.rounds.Aim.TheVariants.{ForLookup, ForFirstRound, ForSecondRound, ForLastLook}
use Rattle.table_model.specs.declared.rounds.Round.{Round}
use Rattle.table_model.specs.DirectoryChange.{LoadedBucket, next_bucket}
use Rattle.table_model.specs.Phases.{BucketTry, DirectoryTry, Phase, SeeDone, StoreOp, Announce, FindRoot, FindEntry, LookCount, LookItems, TryWord, TryRow, TryAnnouncement, TryOp, TryStore, TryExchange, DirRoot, DirDepth, DirEntries, DirAnnouncement, DirOp, DirWord, DirRow, DirStore, DirExchange, LastRow, StoreDone, Stuck}
use Rattle.table_model.specs.SeatStates.{Flight}
use Rattle.table_model.specs.Goes.{phase_after, answered_by, answered_with, answered_by_leaf, after_seeing, after_row, after_round, after_lost_root, after_found, after_dir_found, after_entries, after_directory, after_exchange, after_find, after_loaded, load_or_store, is_applied, bucket_in_words, op_in_words, more}
use Rattle.table_model.specs.Stores.{made_leaves, made_bucket, directory_puts}

-- a phase is in a bucket try that has loaded an open row, in a directory try that has loaded a whole directory, or
-- elsewhere
pub data Stage : Type 0 where
  InBucket : Stage
  InDirectory : Stage
  Elsewhere : Stage

-- where a phase is
abbrev pub stage : Phase → Stage
stage (TryAnnouncement round attempt found) = InBucket
stage (TryOp round attempt found op words) = InBucket
stage (TryStore round attempt found stored) = InBucket
stage (TryExchange round attempt found) = InBucket
stage (DirAnnouncement round attempt found) = InDirectory
stage (DirOp round attempt found op words) = InDirectory
stage (DirWord round attempt found loaded bucket) = InDirectory
stage (DirRow round attempt found loaded bucket row words) = InDirectory
stage (DirStore round attempt found loaded stored) = InDirectory
stage (DirExchange round attempt found loaded) = InDirectory
stage phase = Elsewhere

-- the phases whose steps may lead there
abbrev pub leads_to : Phase → Stage
leads_to (TryRow round turn first row words) = InBucket
leads_to (TryAnnouncement round attempt found) = InBucket
leads_to (TryOp round attempt found op words) = InBucket
leads_to (TryStore round attempt found stored) = InBucket
leads_to (DirDepth round turn first root) = InDirectory
leads_to (DirEntries round turn first root depth words) = InDirectory
leads_to (DirAnnouncement round attempt found) = InDirectory
leads_to (DirOp round attempt found op words) = InDirectory
leads_to (DirWord round attempt found loaded bucket) = InDirectory
leads_to (DirRow round attempt found loaded bucket row words) = InDirectory
leads_to (DirStore round attempt found loaded stored) = InDirectory
leads_to phase = Elsewhere

-- a step leads there, or elsewhere
abbrev pub May : (to reached : Stage) → Type 0
May to Elsewhere = Unit {0}
May InBucket InBucket = Unit {0}
May InDirectory InDirectory = Unit {0}
May to reached = ⊥

-- a step that does not lead into the one kind of try
abbrev pub NoBucket : Stage → Type 0
NoBucket InBucket = ⊥
NoBucket to = Unit {0}

-- nor into the other
abbrev pub NoDirectory : Stage → Type 0
NoDirectory InDirectory = ⊥
NoDirectory to = Unit {0}

-- so it leads into no bucket try
pub no_bucket : (to : Stage) → NoBucket to → May to InBucket → ⊥
no_bucket InBucket other may = other
no_bucket InDirectory other may = may
no_bucket Elsewhere other may = may

-- or into no directory try
pub no_directory : (to : Stage) → NoDirectory to → May to InDirectory → ⊥
no_directory InBucket other may = may
no_directory InDirectory other may = other
no_directory Elsewhere other may = may

module _ (setup : Setup) (me : ℕ) (used : SeatRows) (flight : Flight) where
  -- a phase may be reached by a step that leads there
  abbrev Leads : Stage → Phase → Type 0
  Leads to phase = May to (stage phase)

  -- a test between two phases
  either : (to : Stage) (t : Bool) (x y : Phase) → Leads to x → Leads to y → Leads to (cond t x y)
  either to true x y k l = k
  either to false x y k l = l

  -- a reply is elsewhere
  pub answers : (to : Stage) (bucket : BucketState) (row : ℕ) → Leads to (answered_by me bucket row)
  answers to bucket row = go (slice_index_or bucket.replies me None)
    where
      go : (o : Option Reply) → Leads to (answered_with row o)
      go None = tt
      go (Some reply) = tt

  -- so is that of a leaf
  by_leaf : (row : ℕ) (leaves : List NewLeaf) → Leads Elsewhere (answered_by_leaf (rules_of setup) me flight row leaves)
  by_leaf row [] = tt
  by_leaf row (leaf ∷ leaves) =
      either Elsewhere (is_in (rules_of setup) (key_in flight.call) leaf.bucket) (answered_by me leaf.bucket row)
      (answered_by_leaf (rules_of setup) me flight (row + 1) leaves) (answers Elsewhere leaf.bucket row)
      (by_leaf (row + 1) leaves)

  -- a bucket row is loaded whole
  row_loaded : (round : Round) (attempt : BucketTry) → Leads InBucket (after_row me flight round attempt)
  row_loaded round attempt =
      either InBucket (is_applied me flight attempt.state) (answered_by me attempt.state attempt.row)
      (cond attempt.state.frozen (DirRoot round 1 None)
      (cond (leb attempt.turn 2) (TryAnnouncement round attempt []) Stuck))
      (answers InBucket attempt.state attempt.row)
      (either InBucket attempt.state.frozen (DirRoot round 1 None)
      (cond (leb attempt.turn 2) (TryAnnouncement round attempt []) Stuck) tt
      (either InBucket (leb attempt.turn 2) (TryAnnouncement round attempt []) Stuck tt tt))

  -- the entries of a directory row are loaded, or not all yet
  entries_loaded : (round : Round) (turn first root depth : ℕ) (words : List ℕ) →
      Leads InDirectory (after_entries setup flight round turn first root depth words)
  entries_loaded round turn first root depth words =
      let attempt : DirectoryTry = record {
        turn = turn;
        first = first;
        root = root;
        directory = record { depth = depth; entries = words };
      } in
      either InDirectory (ltb (length words) (2 ^ depth)) (DirEntries round turn first root depth words)
      (after_directory setup flight round attempt) tt
      (either InDirectory (eqb (bucket_of (rules_of setup) attempt.directory (key_in flight.call)) round.bucket)
      (DirAnnouncement round attempt []) (after_round round) tt tt)

  -- one more seat's op is found by a bucket try
  found_more : (round : Round) (attempt : BucketTry) (found : List (Option Op)) →
      Leads InBucket (after_found setup round attempt found)
  found_more round attempt found = either InBucket (ltb (length found) (seats_of setup))
      (TryAnnouncement round attempt found) (TryStore round attempt found 0) tt tt

  -- a bucket is to be loaded, or all are
  to_load : (round : Round) (attempt : DirectoryTry) (found : List (Option Op)) (loaded : List LoadedBucket)
      (o : Option ℕ) → Leads InDirectory (load_or_store round attempt found loaded o)
  to_load round attempt found loaded None = tt
  to_load round attempt found loaded (Some bucket) = tt

  -- one more seat's op is found by a directory try
  dir_found_more : (round : Round) (attempt : DirectoryTry) (found : List (Option Op)) →
      Leads InDirectory (after_dir_found setup round attempt found)
  dir_found_more round attempt found = either InDirectory (ltb (length found) (seats_of setup))
      (DirAnnouncement round attempt found) (after_loaded setup round attempt found []) tt
      (to_load round attempt found [] (next_bucket (rules_of setup) attempt.directory [] found))

  -- a bucket is found
  found_at : (aim : Aim) (root bucket : ℕ) → Leads Elsewhere (after_find aim root bucket)
  found_at ForLookup root bucket = tt
  found_at ForFirstRound root bucket = tt
  found_at (ForSecondRound first) root bucket = tt
  found_at ForLastLook root bucket = tt

  -- each step leads to where its phase leads, or elsewhere
  pub arrives : (phase : Phase) (word : ℕ) → Leads (leads_to phase) (phase_after setup me used flight phase word)
  arrives SeeDone w = either Elsewhere (ltb (length flight.seen + 1) (seats_of setup)) SeeDone
      (after_seeing flight) tt (either Elsewhere (is_update flight.call) (StoreOp 0) (FindRoot ForLookup) tt tt)
  arrives (StoreOp i) w = either Elsewhere (ltb (i + 1) OP_WORDS) (StoreOp (i + 1)) Announce tt tt
  arrives (FindEntry aim root depth) w = found_at aim root w
  arrives (LookCount row) w = either Elsewhere (ltb 0 (w * ITEM_WORDS)) (LookItems row w [])
      (StoreDone (reply_in (rules_of setup) (items_of_words w []) flight.call) row) tt tt
  arrives (LookItems row count words) w =
      either Elsewhere (ltb (length (more words w)) (count * ITEM_WORDS)) (LookItems row count (more words w))
      (StoreDone (reply_in (rules_of setup) (items_of_words count (more words w)) flight.call) row) tt tt
  arrives (TryRow round turn first row words) w =
      let attempt : BucketTry = record {
        turn = turn;
        first = first;
        row = row;
        state = bucket_in_words setup (more words w);
      } in
      either InBucket (ltb (length (more words w)) (bucket_row_words (settings_of setup)))
      (TryRow round turn first row (more words w)) (after_row me flight round attempt) tt (row_loaded round attempt)
  arrives (TryAnnouncement round attempt found) w =
      either InBucket (eqb w 0) (after_found setup round attempt (more found None))
      (TryOp round attempt found (w - 1) []) (found_more round attempt (more found None)) tt
  arrives (TryOp round attempt found op words) w =
      let all = more found (Some (op_in_words (length found) (more words w))) in
      either InBucket (ltb (length words + 1) OP_WORDS) (TryOp round attempt found op (more words w))
      (after_found setup round attempt all) tt (found_more round attempt all)
  arrives (TryStore round attempt found i) w =
      either InBucket (ltb (i + 1) (bucket_row_words (settings_of setup))) (TryStore round attempt found (i + 1))
      (TryExchange round attempt found) tt tt
  arrives (TryExchange round attempt found) w =
      let made = made_bucket setup attempt found in
      let row = next_number setup me BucketRows used in
      either Elsewhere (eqb w attempt.row) (after_exchange me flight round made row)
      (TryWord round (attempt.turn + 1) (Some attempt.first))
      (either Elsewhere (is_applied me flight made) (answered_by me made row)
      (cond made.frozen (DirRoot round 1 None) Stuck) (answers Elsewhere made row)
      (either Elsewhere made.frozen (DirRoot round 1 None) Stuck tt tt)) tt
  arrives (DirDepth round turn first root) w = entries_loaded round turn first root w []
  arrives (DirEntries round turn first root depth words) w = entries_loaded round turn first root depth (more words w)
  arrives (DirAnnouncement round attempt found) w =
      either InDirectory (eqb w 0) (after_dir_found setup round attempt (more found None))
      (DirOp round attempt found (w - 1) []) (dir_found_more round attempt (more found None)) tt
  arrives (DirOp round attempt found op words) w =
      let all = more found (Some (op_in_words (length found) (more words w))) in
      either InDirectory (ltb (length words + 1) OP_WORDS) (DirOp round attempt found op (more words w))
      (after_dir_found setup round attempt all) tt (dir_found_more round attempt all)
  arrives (DirRow round attempt found loaded bucket row words) w =
      let all = more loaded (record { bucket = bucket; row = row; state = bucket_in_words setup (more words w) }) in
      either InDirectory (ltb (length (more words w)) (bucket_row_words (settings_of setup)))
      (DirRow round attempt found loaded bucket row (more words w)) (after_loaded setup round attempt found all) tt
      (to_load round attempt found all (next_bucket (rules_of setup) attempt.directory all found))
  arrives (DirStore round attempt found loaded i) w =
      either InDirectory (ltb (i + 1) (length (directory_puts setup me used attempt found loaded)))
      (DirStore round attempt found loaded (i + 1)) (DirExchange round attempt found loaded) tt tt
  arrives (DirExchange round attempt found loaded) w =
      let leaves = made_leaves setup attempt found loaded in
      either Elsewhere (eqb w attempt.root) (answered_by_leaf (rules_of setup) me flight
      (next_number setup me BucketRows used) leaves) (after_lost_root round attempt)
      (by_leaf (next_number setup me BucketRows used) leaves)
      (either Elsewhere (eqb attempt.turn 1) (DirRoot round 2 (Some attempt.first)) (after_round round) tt tt)
  arrives (LastRow row words) w =
      let state = bucket_in_words setup (more words w) in
      either Elsewhere (ltb (length (more words w)) (bucket_row_words (settings_of setup)))
      (LastRow row (more words w)) (cond (is_applied me flight state) (answered_by me state row) Stuck) tt
      (either Elsewhere (is_applied me flight state) (answered_by me state row) Stuck (answers Elsewhere state row) tt)
  arrives phase w = tt
