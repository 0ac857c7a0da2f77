-- Where a seat goes from a phase, by the word that it found: what it loaded, or what an exchange found. An exchange has
-- happened exactly where it found what it expected. What a store finds tells nothing.
use Rattle.std.specs.Prelude.{ℕ, ◌+◌, ◌-◌, ◌*◌, ◌^◌, ◌==◌, nat_lt, nat_le, Bool, if◌then◌else◌, List, [], ◌∷◌, ◌++◌, length, Option, Some, None, slice_index, slice_index_or, unwrap_or}
use Rattle.step_counts.specs.declared.TheConstants.{ITEM_WORDS, OP_WORDS}
use Rattle.step_counts.specs.StepCounts.{bucket_row_words}
use Rattle.step_counts.specs.declared.rows.SeatRows.{SeatRows}
use Rattle.plain_map.specs.declared.rules.Rules.{Rules}
use Rattle.plain_map.specs.declared.calls.Reply.{Reply}
use Rattle.plain_map.specs.declared.full.FullKind.TheVariants.{BucketRows}
use Rattle.plain_map.specs.Calls.{key_in, is_update}
use Rattle.word_rows.specs.OpWords.{op_of_words}
use Rattle.word_rows.specs.BucketWords.{bucket_of_words, items_of_words}
use Rattle.bucket_states.specs.declared.ops.Op.{Op}
use Rattle.bucket_states.specs.Items.{reply_in}
use Rattle.bucket_states.specs.States.{BucketState, state_in_row}
use Rattle.table_model.specs.Setup.{Setup, settings_of, seats_of, rules_of, next_number}
use Rattle.table_model.specs.Directories.{bucket_of}
use Rattle.table_model.specs.Leaves.{NewLeaf, is_in}
use Rattle.table_model.specs.DirectoryChange.{LoadedBucket, next_bucket}
use Rattle.table_model.specs.Phases.{Aim, ForLookup, ForFirstRound, ForSecondRound, ForLastLook, Round, BucketTry, DirectoryTry, Phase, SeeDone, StoreOp, Announce, FindRoot, FindDepth, FindEntry, LookWord, LookCount, LookItems, TryWord, TryRow, TryAnnouncement, TryOp, TryStore, TryExchange, DirRoot, DirDepth, DirEntries, DirAnnouncement, DirOp, DirWord, DirRow, DirStore, DirExchange, LastWord, LastRow, StoreDone, Stuck}
use Rattle.table_model.specs.SeatStates.{Flight, Account, Idle, InFlight, SeatState, record_of}
use Rattle.table_model.specs.Stores.{made_bucket, made_leaves, directory_puts}

-- the list with one more item
abbrev pub more : {A : Type 0} → List A → A → List A
more items item = items ++ item ∷ []

-- the bucket that the words of a row spell
abbrev pub bucket_in_words : Setup → List ℕ → BucketState
bucket_in_words setup words = state_in_row (bucket_of_words (settings_of setup) words)

-- the op of a seat that the words of an op row spell
abbrev pub op_in_words : (seat : ℕ) → List ℕ → Op
op_in_words seat words = record { seat = seat; number = (op_of_words words).number; call = (op_of_words words).call }

-- the call is applied in the bucket
abbrev pub is_applied : (seat : ℕ) → Flight → BucketState → Bool
is_applied seat flight bucket = nat_le flight.number (slice_index bucket.applied seat)

-- the call is answered so, by the row with this number. Where a call is applied there always is a reply
abbrev pub answered_with : (row : ℕ) → Option Reply → Phase
answered_with row None = Stuck
answered_with row (Some reply) = StoreDone reply row

-- the reply is that of the seat in this bucket, whose row has this number
abbrev pub answered_by : (seat : ℕ) → BucketState → (row : ℕ) → Phase
answered_by seat bucket row = answered_with row (slice_index_or bucket.replies seat None)

-- all done words are seen
abbrev pub after_seeing : Flight → Phase
after_seeing flight = if is_update flight.call then StoreOp 0 else FindRoot ForLookup

-- the bucket is found
abbrev pub after_find : Aim → (root bucket : ℕ) → Phase
after_find ForLookup root bucket = LookWord root bucket
after_find ForFirstRound root bucket = TryWord (record { turn = 1; first = root; root = root; bucket = bucket }) 1 None
after_find (ForSecondRound first) root bucket =
    TryWord (record { turn = 2; first = first; root = root; bucket = bucket }) 1 None
after_find ForLastLook root bucket = LastWord root bucket

-- so many words of the items of a row are loaded by a lookup
abbrev pub after_items : Setup → Flight → (row count : ℕ) → List ℕ → Phase
after_items setup flight row count words =
    if nat_lt (length words) (count * ITEM_WORDS) then LookItems row count words
    else StoreDone (reply_in (rules_of setup) (items_of_words count words) flight.call) row

-- a row is loaded whole by a bucket try. After two lost exchanges there is no third try
abbrev pub after_row : (seat : ℕ) → Flight → Round → BucketTry → Phase
after_row seat flight round attempt =
    if is_applied seat flight attempt.state then answered_by seat attempt.state attempt.row
    else (if attempt.state.frozen then DirRoot round 1 None
    else (if nat_le attempt.turn 2 then TryAnnouncement round attempt [] else Stuck))

-- so many words of that row are loaded
abbrev pub after_row_words : Setup → (seat : ℕ) → Flight → Round → (turn first row : ℕ) → List ℕ → Phase
after_row_words setup seat flight round turn first row words =
    if nat_lt (length words) (bucket_row_words (settings_of setup)) then TryRow round turn first row words
    else after_row seat flight round (record {
      turn = turn;
      first = first;
      row = row;
      state = bucket_in_words setup words;
    })

-- the ops of so many seats are found
abbrev pub after_found : Setup → Round → BucketTry → List (Option Op) → Phase
after_found setup round attempt found =
    if nat_lt (length found) (seats_of setup) then TryAnnouncement round attempt found
    else TryStore round attempt found 0

-- the new row is the bucket's. In it the call is applied, or it is frozen
abbrev pub after_exchange : (seat : ℕ) → Flight → Round → BucketState → (row : ℕ) → Phase
after_exchange seat flight round made row =
    if is_applied seat flight made then answered_by seat made row
    else (if made.frozen then DirRoot round 1 None else Stuck)

-- the round is left without the reply
abbrev pub after_round : Round → Phase
after_round round = FindRoot (if round.turn == 1 then ForSecondRound round.first else ForLastLook)

-- the directory is loaded whole: there is a try only where it still names the bucket of the round
abbrev pub after_directory : Setup → Flight → Round → DirectoryTry → Phase
after_directory setup flight round attempt =
    if bucket_of (rules_of setup) attempt.directory (key_in flight.call) == round.bucket
    then DirAnnouncement round attempt [] else after_round round

-- so many entries of it are loaded
abbrev pub after_entries : Setup → Flight → Round → (turn first root depth : ℕ) → List ℕ → Phase
after_entries setup flight round turn first root depth words =
    if nat_lt (length words) (2 ^ depth) then DirEntries round turn first root depth words
    else after_directory setup flight round
    (record { turn = turn; first = first; root = root; directory = record { depth = depth; entries = words } })

-- the bucket to be loaded next, or none is left
abbrev pub load_or_store : Round → DirectoryTry → List (Option Op) → List LoadedBucket → Option ℕ → Phase
load_or_store round attempt found loaded None = DirStore round attempt found loaded 0
load_or_store round attempt found loaded (Some bucket) = DirWord round attempt found loaded bucket

-- these buckets of the announced ops are loaded
abbrev pub after_loaded : Setup → Round → DirectoryTry → List (Option Op) → List LoadedBucket → Phase
after_loaded setup round attempt found loaded =
    load_or_store round attempt found loaded (next_bucket (rules_of setup) attempt.directory loaded found)

-- the ops of so many seats are found by a directory try
abbrev pub after_dir_found : Setup → Round → DirectoryTry → List (Option Op) → Phase
after_dir_found setup round attempt found =
    if nat_lt (length found) (seats_of setup) then DirAnnouncement round attempt found
    else after_loaded setup round attempt found []

-- so many words of the row of one of these buckets are loaded
abbrev pub after_loaded_words :
    Setup → Round → DirectoryTry → List (Option Op) → List LoadedBucket → (bucket row : ℕ) → List ℕ → Phase
after_loaded_words setup round attempt found loaded bucket row words =
    if nat_lt (length words) (bucket_row_words (settings_of setup))
    then DirRow round attempt found loaded bucket row words
    else after_loaded setup round attempt found
    (more loaded (record { bucket = bucket; row = row; state = bucket_in_words setup words }))

-- so many words of the new leaves and the new directory row are stored
abbrev pub after_puts : Round → DirectoryTry → List (Option Op) → List LoadedBucket → (all stored : ℕ) → Phase
after_puts round attempt found loaded all stored =
    if nat_lt stored all then DirStore round attempt found loaded stored else DirExchange round attempt found loaded

-- the new directory is the table's: the reply is that of the leaf of the key, whose row is told by its place. There
-- always is that leaf
abbrev pub answered_by_leaf : Rules → (seat : ℕ) → Flight → (row : ℕ) → List NewLeaf → Phase
answered_by_leaf rules seat flight row [] = Stuck
answered_by_leaf rules seat flight row (leaf ∷ leaves) =
    if is_in rules (key_in flight.call) leaf.bucket then answered_by seat leaf.bucket row
    else answered_by_leaf rules seat flight (row + 1) leaves

-- the exchange of the root was lost
abbrev pub after_lost_root : Round → DirectoryTry → Phase
after_lost_root round attempt = if attempt.turn == 1 then DirRoot round 2 (Some attempt.first) else after_round round

-- so many words of a row are loaded by the last look
abbrev pub after_last_words : Setup → (seat : ℕ) → Flight → (row : ℕ) → List ℕ → Phase
after_last_words setup seat flight row words =
    if nat_lt (length words) (bucket_row_words (settings_of setup)) then LastRow row words
    else (if is_applied seat flight (bucket_in_words setup words)
    then answered_by seat (bucket_in_words setup words) row else Stuck)

-- the phase after the word that was found. used is what the seat had published before
abbrev pub phase_after : Setup → (seat : ℕ) → SeatRows → Flight → Phase → (word : ℕ) → Phase
phase_after setup seat used flight SeeDone word =
    if nat_lt (length flight.seen + 1) (seats_of setup) then SeeDone else after_seeing flight
phase_after setup seat used flight (StoreOp stored) word =
    if nat_lt (stored + 1) OP_WORDS then StoreOp (stored + 1) else Announce
phase_after setup seat used flight Announce word = FindRoot ForFirstRound
phase_after setup seat used flight (FindRoot aim) word = FindDepth aim word
phase_after setup seat used flight (FindDepth aim root) word = FindEntry aim root word
phase_after setup seat used flight (FindEntry aim root depth) word = after_find aim root word
phase_after setup seat used flight (LookWord root bucket) word = LookCount word
phase_after setup seat used flight (LookCount row) word = after_items setup flight row word []
phase_after setup seat used flight (LookItems row count words) word =
    after_items setup flight row count (more words word)
phase_after setup seat used flight (TryWord round turn first) word = TryRow round turn (unwrap_or first word) word []
phase_after setup seat used flight (TryRow round turn first row words) word =
    after_row_words setup seat flight round turn first row (more words word)
phase_after setup seat used flight (TryAnnouncement round attempt found) word =
    if word == 0 then after_found setup round attempt (more found None) else TryOp round attempt found (word - 1) []
phase_after setup seat used flight (TryOp round attempt found op words) word =
    if nat_lt (length words + 1) OP_WORDS then TryOp round attempt found op (more words word)
    else after_found setup round attempt (more found (Some (op_in_words (length found) (more words word))))
phase_after setup seat used flight (TryStore round attempt found stored) word =
    if nat_lt (stored + 1) (bucket_row_words (settings_of setup)) then TryStore round attempt found (stored + 1)
    else TryExchange round attempt found
phase_after setup seat used flight (TryExchange round attempt found) word =
    if word == attempt.row
    then after_exchange seat flight round (made_bucket setup attempt found) (next_number setup seat BucketRows used)
    else TryWord round (attempt.turn + 1) (Some attempt.first)
phase_after setup seat used flight (DirRoot round turn first) word = DirDepth round turn (unwrap_or first word) word
phase_after setup seat used flight (DirDepth round turn first root) word =
    after_entries setup flight round turn first root word []
phase_after setup seat used flight (DirEntries round turn first root depth words) word =
    after_entries setup flight round turn first root depth (more words word)
phase_after setup seat used flight (DirAnnouncement round attempt found) word =
    if word == 0 then after_dir_found setup round attempt (more found None) else DirOp round attempt found (word - 1) []
phase_after setup seat used flight (DirOp round attempt found op words) word =
    if nat_lt (length words + 1) OP_WORDS then DirOp round attempt found op (more words word)
    else after_dir_found setup round attempt (more found (Some (op_in_words (length found) (more words word))))
phase_after setup seat used flight (DirWord round attempt found loaded bucket) word =
    DirRow round attempt found loaded bucket word []
phase_after setup seat used flight (DirRow round attempt found loaded bucket row words) word =
    after_loaded_words setup round attempt found loaded bucket row (more words word)
phase_after setup seat used flight (DirStore round attempt found loaded stored) word =
    after_puts round attempt found loaded (length (directory_puts setup seat used attempt found loaded)) (stored + 1)
phase_after setup seat used flight (DirExchange round attempt found loaded) word =
    if word == attempt.root
    then answered_by_leaf (rules_of setup) seat flight (next_number setup seat BucketRows used)
    (made_leaves setup attempt found loaded)
    else after_lost_root round attempt
phase_after setup seat used flight (LastWord root bucket) word = LastRow word []
phase_after setup seat used flight (LastRow row words) word = after_last_words setup seat flight row (more words word)
phase_after setup seat used flight (StoreDone reply place) word = StoreDone reply place
phase_after setup seat used flight Stuck word = Stuck

-- what the seat has seen then
abbrev pub seen_after : List ℕ → Phase → (word : ℕ) → List ℕ
seen_after seen SeeDone word = more seen word
seen_after seen phase word = seen

-- with the rows and the words of so many new leaves, and with their directory row
abbrev pub with_directory : SeatRows → (leaves : ℕ) → SeatRows
with_directory used leaves = record {
  op_rows = used.op_rows;
  bucket_rows = used.bucket_rows + leaves;
  bucket_words = used.bucket_words + leaves;
  directory_rows = used.directory_rows + 1;
}

-- what the seat has published then: an op row with its announcement, a bucket row with its exchange, and leaves and a
-- directory row with theirs
abbrev pub used_after : Setup → SeatRows → Phase → (word : ℕ) → SeatRows
used_after setup used Announce word = record used { op_rows = used.op_rows + 1 }
used_after setup used (TryExchange round attempt found) word =
    if word == attempt.row then record used { bucket_rows = used.bucket_rows + 1 } else used
used_after setup used (DirExchange round attempt found loaded) word =
    if word == attempt.root then with_directory used (length (made_leaves setup attempt found loaded)) else used
used_after setup used phase word = used

-- the call, with one more step
abbrev pub flight_after : Flight → Phase → (word : ℕ) → Flight
flight_after flight phase word = record flight { seen = seen_after flight.seen phase word; steps = flight.steps + 1 }

-- the account after one more answer
abbrev pub with_answer : (seat : ℕ) → Account → Flight → Reply → (place : ℕ) → Account
with_answer seat account flight reply place = record {
  records = more account.records (record_of seat flight reply place);
  spent = more account.spent account.used;
  used = account.used;
}

-- the seat in flight after the word that it found. The store of the done word ends the call
abbrev pub state_after : Setup → (seat : ℕ) → Account → Flight → Phase → (word : ℕ) → SeatState
state_after setup seat account flight (StoreDone reply place) word =
    record { account = with_answer seat account flight reply place; stand = Idle }
state_after setup seat account flight Stuck word = record { account = account; stand = InFlight flight Stuck }
state_after setup seat account flight phase word = record {
  account = record account { used = used_after setup account.used phase word };
  stand = InFlight (flight_after flight phase word) (phase_after setup seat account.used flight phase word);
}
