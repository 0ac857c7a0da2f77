-- What part of a call a phase belongs to, and which part comes after which.
use Rattle.std.proofs.Common.{◌≡◌, ℕ, ◌+◌, ◌-◌, ◌*◌, ◌^◌, ◌==◌, Bool, true, false, cond, eqb, ltb, leb, List, [], ◌∷◌, length, get_or, refl, ap}
use Rattle.std.specs.Prelude.{Option, Some, None}
use Rattle.std.proofs.lemmas.Bool.{cond_both}
use Rattle.step_counts.specs.declared.TheConstants.{OP_WORDS, ITEM_WORDS}
use Rattle.step_counts.specs.StepCounts.{bucket_row_words}
use Rattle.step_counts.specs.declared.rows.SeatRows.{SeatRows}
use Rattle.plain_map.specs.declared.full.FullKind.TheVariants.{BucketRows}
use Rattle.plain_map.specs.declared.calls.Reply.{Reply}
use Rattle.plain_map.specs.Calls.{key_in, is_update}
use Rattle.bucket_states.specs.declared.ops.Op.{Op}
use Rattle.bucket_states.specs.States.{BucketState}
use Rattle.table_model.specs.declared.rounds.Aim.{Aim}
use Rattle.table_model.specs.declared.rounds.Aim.TheVariants.{ForLookup, ForFirstRound, ForSecondRound, ForLastLook}
use Rattle.table_model.specs.declared.rounds.Round.{Round}
use Rattle.table_model.specs.Setup.{Setup, settings_of, seats_of, rules_of, next_number}
use Rattle.table_model.specs.Directories.{bucket_of}
use Rattle.table_model.specs.Leaves.{NewLeaf, is_in}
use Rattle.table_model.specs.DirectoryChange.{LoadedBucket, next_bucket}
use Rattle.table_model.specs.Phases.{BucketTry, DirectoryTry, Phase, SeeDone, StoreOp, Announce, FindRoot, FindDepth, FindEntry, LookWord, LookCount, LookItems, TryWord, TryRow, TryAnnouncement, TryOp, TryStore, TryExchange, DirRoot, DirDepth, DirEntries, DirAnnouncement, DirOp, DirWord, DirRow, DirStore, DirExchange, LastWord, LastRow, StoreDone, Stuck}
use Rattle.table_model.specs.SeatStates.{Flight}
use Rattle.table_model.specs.Stores.{made_bucket, made_leaves, directory_puts}
use Rattle.table_model.specs.Goes.{more, bucket_in_words, op_in_words, phase_after, after_seeing, after_find, after_items, after_row, after_found, after_exchange, after_round, after_directory, after_entries, load_or_store, after_loaded, after_dir_found, answered_by, answered_with, answered_by_leaf, after_lost_root, is_applied}

-- the parts: it sees the done words, announces itself, is about to load the root, finds a bucket by it, looks a key
-- up, is in the bucket tries of a round or in its directory tries, takes a last look, or has its reply
pub data Kind : Type 0 where
  Sees : Kind
  Announces : Kind
  Roots : (aim : Aim) → Kind
  Finds : (aim : Aim) → Kind
  Looks : Kind
  Tries : (round : Round) → Kind
  Dirs : (round : Round) → Kind
  Lasts : Kind
  Ends : Kind
  Stops : Kind

-- the part of a phase
abbrev pub kind : Phase → Kind
kind SeeDone = Sees
kind (StoreOp stored) = Announces
kind Announce = Announces
kind (FindRoot aim) = Roots aim
kind (FindDepth aim root) = Finds aim
kind (FindEntry aim root depth) = Finds aim
kind (LookWord root bucket) = Looks
kind (LookCount row) = Looks
kind (LookItems row count words) = Looks
kind (TryWord round turn first) = Tries round
kind (TryRow round turn first row words) = Tries round
kind (TryAnnouncement round attempt found) = Tries round
kind (TryOp round attempt found op words) = Tries round
kind (TryStore round attempt found stored) = Tries round
kind (TryExchange round attempt found) = Tries round
kind (DirRoot round turn first) = Dirs round
kind (DirDepth round turn first root) = Dirs round
kind (DirEntries round turn first root depth words) = Dirs round
kind (DirAnnouncement round attempt found) = Dirs round
kind (DirOp round attempt found op words) = Dirs round
kind (DirWord round attempt found loaded bucket) = Dirs round
kind (DirRow round attempt found loaded bucket row words) = Dirs round
kind (DirStore round attempt found loaded stored) = Dirs round
kind (DirExchange round attempt found loaded) = Dirs round
kind (LastWord root bucket) = Lasts
kind (LastRow row words) = Lasts
kind (StoreDone reply place) = Ends
kind Stuck = Stops

-- the aim after a round
abbrev pub aim_after : Round → Aim
aim_after round = cond (round.turn == 1) (ForSecondRound round.first) ForLastLook

-- which part may come next. To where there is no further step all may be said to lead: no run comes there
abbrev pub Leads : Flight → Kind → Kind → Type 0
Leads flight from Stops = Unit {0}
Leads flight Sees Sees = Unit {0}
Leads flight Sees Announces = is_update flight.call ≡ true
Leads flight Sees (Roots ForLookup) = Unit {0}
Leads flight Announces Announces = Unit {0}
Leads flight Announces (Roots ForFirstRound) = Unit {0}
Leads flight (Roots aim) (Finds other) = other ≡ aim
Leads flight (Finds aim) (Finds other) = other ≡ aim
Leads flight (Finds ForLookup) Looks = Unit {0}
Leads flight (Finds ForFirstRound) (Tries round) = round.turn ≡ 1
Leads flight (Finds (ForSecondRound first)) (Tries round) = round.turn ≡ 2
Leads flight (Finds ForLastLook) Lasts = Unit {0}
Leads flight Looks Looks = Unit {0}
Leads flight Looks Ends = Unit {0}
Leads flight (Tries round) (Tries other) = other ≡ round
Leads flight (Tries round) (Dirs other) = other ≡ round
Leads flight (Tries round) Ends = Unit {0}
Leads flight (Dirs round) (Dirs other) = other ≡ round
Leads flight (Dirs round) (Roots aim) = aim ≡ aim_after round
Leads flight (Dirs round) Ends = Unit {0}
Leads flight Lasts Lasts = Unit {0}
Leads flight Lasts Ends = Unit {0}
Leads flight from to = ⊥

-- what is about to load the root is at that phase
pub roots_is : (phase : Phase) (aim : Aim) → kind phase ≡ Roots aim → phase ≡ FindRoot aim
roots_is (FindRoot other) aim e = ap FindRoot (same e)
  where
    same : Roots other ≡ Roots aim → other ≡ aim
    same e = cc
roots_is phase aim e = cc

-- an exchange of the bucket word that happened leads to the reply, or to the directory tries; one of the root to the
-- reply
abbrev pub LeadsWon : Round → Kind → Type 0
LeadsWon round (Dirs other) = other ≡ round
LeadsWon round Ends = Unit {0}
LeadsWon round Stops = Unit {0}
LeadsWon round to = ⊥

-- a directory try that is not won leads on in its round, or out of it
abbrev pub LeadsOn : Round → Kind → Type 0
LeadsOn round (Dirs other) = other ≡ round
LeadsOn round (Roots aim) = aim ≡ aim_after round
LeadsOn round Stops = Unit {0}
LeadsOn round to = ⊥

-- what comes after a phase of a directory try, up to its exchange
abbrev pub LeadsFrom : Phase → Kind → Type 0
LeadsFrom (DirRoot round turn first) to = LeadsOn round to
LeadsFrom (DirDepth round turn first root) to = LeadsOn round to
LeadsFrom (DirEntries round turn first root depth words) to = LeadsOn round to
LeadsFrom (DirAnnouncement round attempt found) to = LeadsOn round to
LeadsFrom (DirOp round attempt found op words) to = LeadsOn round to
LeadsFrom (DirWord round attempt found loaded bucket) to = LeadsOn round to
LeadsFrom (DirRow round attempt found loaded bucket row words) to = LeadsOn round to
LeadsFrom (DirStore round attempt found loaded stored) to = LeadsOn round to
LeadsFrom phase to = Unit {0}

-- the reply, or no further step
abbrev pub LeadsEnd : Kind → Type 0
LeadsEnd Ends = Unit {0}
LeadsEnd Stops = Unit {0}
LeadsEnd to = ⊥

-- a reply ends the call
reply_next : (row : ℕ) (reply : Option Reply) → LeadsEnd (kind (answered_with row reply))
reply_next row None = tt
reply_next row (Some reply) = tt

-- so in a bucket
pub answer_next : (me : ℕ) (state : BucketState) (row : ℕ) → LeadsEnd (kind (answered_by me state row))
answer_next me state row = reply_next row (get_or state.replies me None)

module _ (setup : Setup) (me : ℕ) (used : SeatRows) (flight : Flight) where
  abbrev To : Kind → Phase → Type 0
  To from phase = Leads flight from (kind phase)

  -- an exchange that happened leads to one of the parts that may come next
  pub won_leads : (round : Round) (to : Kind) → LeadsWon round to → Leads flight (Tries round) to
  won_leads round (Dirs other) e = e
  won_leads round Ends e = tt
  won_leads round Stops e = tt
  won_leads round to e = absurd e

  -- and so does a reply
  end_won : (round : Round) (to : Kind) → LeadsEnd to → LeadsWon round to
  end_won round Ends e = tt
  end_won round Stops e = tt
  end_won round to e = absurd e

  -- also after the last look
  end_last : (to : Kind) → LeadsEnd to → Leads flight Lasts to
  end_last Ends e = tt
  end_last Stops e = tt
  end_last to e = absurd e

  -- what comes after each part of a bucket try
  found_next : (round : Round) (attempt : BucketTry) (found : List (Option Op)) →
      To (Tries round) (after_found setup round attempt found)
  found_next round attempt found = cond_both (ltb (length found) (seats_of setup)) (TryAnnouncement round attempt found)
      (TryStore round attempt found 0) (To (Tries round)) (λ e. refl) (λ e. refl)

  row_next : (round : Round) (attempt : BucketTry) → To (Tries round) (after_row me flight round attempt)
  row_next round attempt =
      cond_both (is_applied me flight attempt.state) (answered_by me attempt.state attempt.row) _ (To (Tries round))
      (λ e. won_leads round (kind (answered_by me attempt.state attempt.row))
      (end_won round (kind (answered_by me attempt.state attempt.row)) (answer_next me attempt.state attempt.row)))
      (λ e. cond_both attempt.state.frozen (DirRoot round 1 None) _ (To (Tries round)) (λ e. refl)
      (λ e. cond_both (leb attempt.turn 2) (TryAnnouncement round attempt []) Stuck (To (Tries round)) (λ e. refl)
      (λ e. tt)))

  -- the bucket word was exchanged
  pub exchange_next : (round : Round) (made : BucketState) (row : ℕ) →
      LeadsWon round (kind (after_exchange me flight round made row))
  exchange_next round made row =
      cond_both (is_applied me flight made) (answered_by me made row) _ (λ ph. LeadsWon round (kind ph))
      (λ e. end_won round (kind (answered_by me made row)) (answer_next me made row))
      (λ e. cond_both made.frozen (DirRoot round 1 None) Stuck (λ ph. LeadsWon round (kind ph)) (λ z. refl) (λ z. tt))

  -- the root was exchanged
  pub leaf_next : (row : ℕ) (leaves : List NewLeaf) →
      LeadsEnd (kind (answered_by_leaf (rules_of setup) me flight row leaves))
  leaf_next row [] = tt
  leaf_next row (leaf ∷ leaves) = cond_both (is_in (rules_of setup) (key_in flight.call) leaf.bucket)
      (answered_by me leaf.bucket row) _ (λ ph. LeadsEnd (kind ph)) (λ e. answer_next me leaf.bucket row)
      (λ e. leaf_next (row + 1) leaves)

  -- a reply ends the directory tries
  pub end_leads : (round : Round) (to : Kind) → LeadsEnd to → Leads flight (Dirs round) to
  end_leads round Ends e = tt
  end_leads round Stops e = tt
  end_leads round to e = absurd e

  abbrev On : Round → Phase → Type 0
  On round phase = LeadsOn round (kind phase)

  -- what comes after each part of a directory try
  pub on_leads : (round : Round) (to : Kind) → LeadsOn round to → Leads flight (Dirs round) to
  on_leads round (Dirs other) e = e
  on_leads round (Roots aim) e = e
  on_leads round Stops e = tt
  on_leads round to e = absurd e

  -- the buckets are loaded, and then the leaves are stored
  loaded_next : (round : Round) (attempt : DirectoryTry) (found : List (Option Op)) (loaded : List LoadedBucket) →
      On round (after_loaded setup round attempt found loaded)
  loaded_next round attempt found loaded = go (next_bucket (rules_of setup) attempt.directory loaded found)
    where
      go : (o : Option ℕ) → On round (load_or_store round attempt found loaded o)
      go None = refl
      go (Some b) = refl

  dir_found_next : (round : Round) (attempt : DirectoryTry) (found : List (Option Op)) →
      On round (after_dir_found setup round attempt found)
  dir_found_next round attempt found =
      cond_both (ltb (length found) (seats_of setup)) (DirAnnouncement round attempt found)
      (after_loaded setup round attempt found []) (On round) (λ e. refl) (λ e. loaded_next round attempt found [])

  entries_next : (round : Round) (turn first root depth : ℕ) (words : List ℕ) →
      On round (after_entries setup flight round turn first root depth words)
  entries_next round turn first root depth words =
      let attempt : DirectoryTry =
      record { turn = turn; first = first; root = root; directory = record { depth = depth; entries = words } } in
      cond_both (ltb (length words) (2 ^ depth)) (DirEntries round turn first root depth words)
      (after_directory setup flight round attempt) (On round) (λ e. refl)
      (λ e. cond_both (eqb (bucket_of (rules_of setup) attempt.directory (key_in flight.call)) round.bucket)
      (DirAnnouncement round attempt []) (after_round round) (On round) (λ e. refl) (λ e. refl))

  pub lost_root_next : (round : Round) (attempt : DirectoryTry) → On round (after_lost_root round attempt)
  lost_root_next round attempt = cond_both (eqb attempt.turn 1) (DirRoot round 2 (Some attempt.first))
      (after_round round) (On round) (λ e. refl) (λ e. refl)

  -- each phase of a directory try
  pub dirs_leads : (phase : Phase) (word : ℕ) → LeadsFrom phase (kind (phase_after setup me used flight phase word))
  dirs_leads (DirRoot round turn first) word = refl
  dirs_leads (DirDepth round turn first root) word = entries_next round turn first root word []
  dirs_leads (DirEntries round turn first root depth words) word =
      entries_next round turn first root depth (more words word)
  dirs_leads (DirAnnouncement round attempt found) word =
      let none : Option Op = None in
      cond_both (eqb word 0) (after_dir_found setup round attempt (more found none))
      (DirOp round attempt found (word - 1) []) (On round) (λ e. dir_found_next round attempt (more found none))
      (λ e. refl)
  dirs_leads (DirOp round attempt found op words) word =
      let new : Option Op = Some (op_in_words (length found) (more words word)) in
      cond_both (ltb (length words + 1) OP_WORDS) (DirOp round attempt found op (more words word))
      (after_dir_found setup round attempt (more found new)) (On round) (λ e. refl)
      (λ e. dir_found_next round attempt (more found new))
  dirs_leads (DirWord round attempt found loaded bucket) word = refl
  dirs_leads (DirRow round attempt found loaded bucket row words) word =
      let now = more words word in
      let l : LoadedBucket = record { bucket = bucket; row = row; state = bucket_in_words setup now } in
      cond_both (ltb (length now) (bucket_row_words setup.shape.settings))
      (DirRow round attempt found loaded bucket row now) (after_loaded setup round attempt found (more loaded l))
      (On round) (λ e. refl) (λ e. loaded_next round attempt found (more loaded l))
  dirs_leads (DirStore round attempt found loaded i) word =
      cond_both (ltb (i + 1) (length (directory_puts setup me used attempt found loaded)))
      (DirStore round attempt found loaded (i + 1)) (DirExchange round attempt found loaded) (On round) (λ e. refl)
      (λ e. refl)
  dirs_leads phase word = tt

  -- what comes after the done words, after the items, and after a bucket was found
  seen_next : (u : Bool) → is_update flight.call ≡ u → To Sees (cond u (StoreOp 0) (FindRoot ForLookup))
  seen_next true e = e
  seen_next false e = tt

  items_next : (row count : ℕ) (words : List ℕ) → To Looks (after_items setup flight row count words)
  items_next row count words =
      cond_both (ltb (length words) (count * ITEM_WORDS)) (LookItems row count words) _ (To Looks) (λ e. tt) (λ e. tt)

  find_next : (aim : Aim) (root bucket : ℕ) → To (Finds aim) (after_find aim root bucket)
  find_next ForLookup root bucket = tt
  find_next ForFirstRound root bucket = refl
  find_next (ForSecondRound first) root bucket = refl
  find_next ForLastLook root bucket = tt

  abbrev To_kind : Phase → ℕ → Kind
  To_kind phase word = kind (phase_after setup me used flight phase word)

  -- what comes after a phase
  pub leads : (phase : Phase) (word : ℕ) → (kind phase ≡ Ends → ⊥) →
      Leads flight (kind phase) (kind (phase_after setup me used flight phase word))
  leads SeeDone word n = cond_both (ltb (length flight.seen + 1) (seats_of setup)) SeeDone (after_seeing flight)
      (To Sees) (λ e. tt) (λ e. seen_next (is_update flight.call) refl)
  leads (StoreOp i) word n =
      cond_both (ltb (i + 1) OP_WORDS) (StoreOp (i + 1)) Announce (To Announces) (λ e. tt) (λ e. tt)
  leads Announce word n = tt
  leads (FindRoot aim) word n = refl
  leads (FindDepth aim root) word n = refl
  leads (FindEntry aim root depth) word n = find_next aim root word
  leads (LookWord root bucket) word n = tt
  leads (LookCount row) word n = items_next row word []
  leads (LookItems row count words) word n = items_next row count (more words word)
  leads (TryWord round turn first) word n = refl
  leads (TryRow round turn first row words) word n =
      let now = more words word in
      let attempt : BucketTry = record { turn = turn; first = first; row = row; state = bucket_in_words setup now } in
      cond_both (ltb (length now) (bucket_row_words setup.shape.settings)) (TryRow round turn first row now)
      (after_row me flight round attempt) (To (Tries round)) (λ e. refl) (λ e. row_next round attempt)
  leads (TryAnnouncement round attempt found) word n =
      let none : Option Op = None in
      cond_both (eqb word 0) (after_found setup round attempt (more found none))
      (TryOp round attempt found (word - 1) []) (To (Tries round)) (λ e. found_next round attempt (more found none))
      (λ e. refl)
  leads (TryOp round attempt found op words) word n =
      let new : Option Op = Some (op_in_words (length found) (more words word)) in
      cond_both (ltb (length words + 1) OP_WORDS) (TryOp round attempt found op (more words word))
      (after_found setup round attempt (more found new)) (To (Tries round)) (λ e. refl)
      (λ e. found_next round attempt (more found new))
  leads (TryStore round attempt found i) word n =
      cond_both (ltb (i + 1) (bucket_row_words (settings_of setup))) (TryStore round attempt found (i + 1))
      (TryExchange round attempt found) (To (Tries round)) (λ e. refl) (λ e. refl)
  leads (TryExchange round attempt found) word n =
      let row = next_number setup me BucketRows used in
      cond_both (eqb word attempt.row) (after_exchange me flight round (made_bucket setup attempt found) row)
      (TryWord round (attempt.turn + 1) (Some attempt.first)) (To (Tries round))
      (λ e. won_leads round (kind (after_exchange me flight round (made_bucket setup attempt found) row))
      (exchange_next round (made_bucket setup attempt found) row)) (λ e. refl)
  leads (DirRoot round turn first) word n = refl
  leads (DirDepth round turn first root) word n =
      on_leads round (To_kind (DirDepth round turn first root) word) (dirs_leads (DirDepth round turn first root) word)
  leads (DirEntries round turn first root depth words) word n =
      on_leads round (To_kind (DirEntries round turn first root depth words) word)
      (dirs_leads (DirEntries round turn first root depth words) word)
  leads (DirAnnouncement round attempt found) word n =
      on_leads round (To_kind (DirAnnouncement round attempt found) word)
      (dirs_leads (DirAnnouncement round attempt found) word)
  leads (DirOp round attempt found op words) word n = on_leads round (To_kind (DirOp round attempt found op words) word)
      (dirs_leads (DirOp round attempt found op words) word)
  leads (DirWord round attempt found loaded bucket) word n = refl
  leads (DirRow round attempt found loaded bucket row words) word n =
      on_leads round (To_kind (DirRow round attempt found loaded bucket row words) word)
      (dirs_leads (DirRow round attempt found loaded bucket row words) word)
  leads (DirStore round attempt found loaded i) word n =
      on_leads round (To_kind (DirStore round attempt found loaded i) word)
      (dirs_leads (DirStore round attempt found loaded i) word)
  leads (DirExchange round attempt found loaded) word n =
      let row = next_number setup me BucketRows used in
      cond_both (eqb word attempt.root) (answered_by_leaf (rules_of setup) me flight row
      (made_leaves setup attempt found loaded)) (after_lost_root round attempt) (To (Dirs round))
      (λ e. end_leads round
      (kind (answered_by_leaf (rules_of setup) me flight row (made_leaves setup attempt found loaded)))
      (leaf_next row (made_leaves setup attempt found loaded)))
      (λ e. on_leads round (kind (after_lost_root round attempt)) (lost_root_next round attempt))
  leads (LastWord root bucket) word n = tt
  leads (LastRow row words) word n =
      let now = more words word in
      cond_both (ltb (length now) (bucket_row_words setup.shape.settings)) (LastRow row now) _ (To Lasts) (λ e. tt)
      (λ e. cond_both (is_applied me flight (bucket_in_words setup now))
      (answered_by me (bucket_in_words setup now) row) Stuck (To Lasts)
      (λ z. end_last (kind (answered_by me (bucket_in_words setup now) row))
      (answer_next me (bucket_in_words setup now) row)) (λ z. tt))
  leads (StoreDone reply place) word n = absurd (n refl)
  leads Stuck word n = tt
