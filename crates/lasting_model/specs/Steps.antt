-- Where a seat or a reader stands, and which word it takes next. Numbers of rows are those of the places in which they
-- stand.
use Rattle.std.specs.Prelude.{ℕ, ◌+◌, ◌==◌, nat_lt, Bool, ◌&&◌, List, [], ◌∷◌, length, Option, Some, None, slice_index}
use Rattle.plain_map.specs.declared.keys.Key.{Key}
use Rattle.plain_map.specs.declared.keys.Pair.{Pair}
use Rattle.plain_map.specs.declared.calls.Call.{Call}
use Rattle.plain_map.specs.Calls.{key_in}
use Rattle.word_rows.specs.OpWords.{words_of_call}
use Rattle.bucket_states.specs.declared.ops.Op.{Op}
use Rattle.bucket_states.specs.States.{BucketState}
use Rattle.bucket_states.specs.Change.{change}
use Rattle.table_model.specs.Setup.{Setup, rules_of}
use Rattle.lasting_model.specs.Plans.{bucket_for}
use Rattle.lasting_model.specs.Codes.{GENERATION_PLACE, tag, row_in, announcing, update_in, class_in, asking, holding, row_words, number_place, reply_place, count_place, item_place}
use Rattle.lasting_model.specs.Words.{At, Announced, Want, Hold, OpWord, Bucket, RowWord}

-- ---- where an update stands

-- the update that a seat makes
pub record Update : Type 0 where
  pub number : ℕ
  pub call : Call

-- a try: which one, 1 or 2; the bucket word that it loaded, and what its row says
pub record Try : Type 0 where
  pub turn : ℕ
  pub word : ℕ
  pub state : BucketState

-- the word that an update takes next. Where words are loaded one after the other, words are those that were loaded, and
-- stored tells how many were stored
pub data Step : Type 0 where
  -- a piece of a sweep, which may look at so many own rows
  Sweeps : (rows : ℕ) → Step
  -- the op's words, and the announcement
  StoreOp : (stored : ℕ) → Step
  Announce : Step
  -- a look at the bucket: its word, the words of its row that say something, and last the row's generation. Its owner
  -- stores that before it writes the row anew: so if it is the same, the words are of one writing
  LoadWord : (turn : ℕ) → Step
  LoadRow : (turn word : ℕ) (words : List ℕ) → Step
  CheckRow : (turn word : ℕ) (words : List ℕ) → Step
  -- what the next seat announces; and the op, only if it is due. For each seat gone through, found has its op or none
  LoadAnnounced : (attempt : Try) (found : List (Option Op)) → Step
  LoadOp : (attempt : Try) (found : List (Option Op)) (announced : ℕ) (words : List ℕ) → Step
  -- the new row, its generation first, and the exchange of the bucket word
  StoreRow : (attempt : Try) (found : List (Option Op)) (stored : ℕ) → Step
  Exchange : (attempt : Try) (found : List (Option Op)) → Step
  -- the held look: the bucket that is wanted, the asking, the bucket word, the hold, and the seat's own words there
  StoreWant : Step
  StoreAsking : Step
  HeldWord : Step
  TakeHold : (word : ℕ) → Step
  HeldNumber : (row : ℕ) → Step
  HeldReply : (row : ℕ) → Step
  -- there is no further step. No run comes here
  Stuck : Step

-- ---- where a lookup stands, or a copy of a bucket

-- what is looked for: a key, or all pairs of a bucket
pub data Aim : Type 0 where
  OfKey : (key : Key) → Aim
  OfBucket : (bucket : ℕ) → Aim

-- the row that is looked at: that of a bucket word that was loaded, with so many tries left after this one, or one that
-- is held, which needs no check
pub data Source : Type 0 where
  Tried : (left word : ℕ) → Source
  HeldIn : (row : ℕ) → Source

-- how far its items are gone through: how many there are, which is next, its words that were loaded, and the pairs
-- before it that may be looked for
pub record Scan : Type 0 where
  pub count : ℕ
  pub item : ℕ
  pub part : List ℕ
  pub kept : List Pair

-- the word that is taken next
pub data Glance : Type 0 where
  GlanceWord : (left : ℕ) → Glance
  GlanceCount : (source : Source) → Glance
  GlanceItem : (source : Source) (scan : Scan) → Glance
  GlanceCheck : (left word : ℕ) (kept : List Pair) → Glance
  -- the held look of a seat
  GlanceWant : Glance
  GlanceAsking : Glance
  GlanceHeld : Glance
  GlanceTake : (word : ℕ) → Glance

-- ---- a seat

-- how far a sweep is. These own rows are still to be looked at, each with the bucket in whose word it was named, and
-- these are gone from theirs; the hold word of this seat is next; that seat asks for the so manieth time, and what it
-- wants is next; it wants this bucket, whose word is next; it is to be given this row
pub data Sweep : Type 0 where
  Homes : (todo gone : List (ℕ × ℕ)) → Sweep
  Seats : (seat : ℕ) (gone : List (ℕ × ℕ)) → Sweep
  Sees : (seat time : ℕ) (gone : List (ℕ × ℕ)) → Sweep
  Loads : (seat time bucket : ℕ) (gone : List (ℕ × ℕ)) → Sweep
  Gives : (seat time row : ℕ) (gone : List (ℕ × ℕ)) → Sweep

-- it is idle, makes an update, or looks
pub data Stand : Type 0 where
  Idle : Stand
  Goes : (update : Update) (step : Step) → Stand
  Glances : (aim : Aim) (glance : Glance) → Stand

-- when the call in flight began, as the number of events before it, and how many steps it has taken
pub record Course : Type 0 where
  pub began : ℕ
  pub steps : ℕ

-- what a seat has for itself: how many updates it has answered, and how often it has asked; how often each of its rows
-- was published; its free rows, and those that it has named, each with the bucket in whose word, as far as no sweep has
-- taken them up; how far its sweep is; and the call in flight
pub record SeatNow : Type 0 where
  pub answered : ℕ
  pub time : ℕ
  pub generation : (row : ℕ) → ℕ
  pub free : List ℕ
  pub named : List (ℕ × ℕ)
  pub sweep : Option Sweep
  pub stand : Stand
  pub course : Course

-- ---- a reader, which has no rows and no hold word

pub data Peeking : Type 0 where
  Rests : Peeking
  Peeks : (aim : Aim) (glance : Glance) → Peeking

pub record ReaderNow : Type 0 where
  pub stand : Peeking
  pub course : Course

-- ---- what is done next

-- what a step does to its word
pub data Deed : Type 0 where
  Nothing : Deed
  Load : (from : At) → Deed
  Store : (to : At) (word : ℕ) → Deed
  Swap : (at : At) (old new : ℕ) → Deed

-- the row that is stored next: the first free one
abbrev pub next_row : SeatNow → ℕ
next_row now = slice_index now.free 0

-- the generation that it gets
abbrev pub next_generation : SeatNow → ℕ
next_generation now = now.generation (next_row now) + 1

-- what a try makes of the bucket
abbrev pub made : Setup → Try → List (Option Op) → BucketState
made setup attempt found = change (rules_of setup) found attempt.state

-- the words of the row that it stores
abbrev pub new_words : Setup → SeatNow → Try → List (Option Op) → List ℕ
new_words setup now attempt found = row_words setup (next_generation now) (made setup attempt found)

-- the class is the bucket, and the update that is announced is not in it yet
abbrev pub is_due : (bucket : ℕ) → BucketState → (seat announced : ℕ) → Bool
is_due bucket state seat announced =
    (class_in announced == bucket) && nat_lt (slice_index state.applied seat) (update_in announced)

-- the bucket of an update, and of a look
abbrev pub bucket_of_update : Setup → Update → ℕ
bucket_of_update setup u = bucket_for setup (key_in u.call)

abbrev pub bucket_of_aim : Setup → Aim → ℕ
bucket_of_aim setup (OfKey key) = bucket_for setup key
bucket_of_aim setup (OfBucket bucket) = bucket

-- the row that is looked at
abbrev pub row_of_source : Source → ℕ
row_of_source (Tried left word) = row_in word
row_of_source (HeldIn row) = row

-- a step of a sweep
abbrev pub sweep_deed : Option Sweep → Deed
sweep_deed None = Nothing
sweep_deed (Some (Homes [] gone)) = Nothing
sweep_deed (Some (Homes (row ∷ todo) gone)) = Load (Bucket row.1)
sweep_deed (Some (Seats seat gone)) = Load (Hold seat)
sweep_deed (Some (Sees seat time gone)) = Load (Want seat)
sweep_deed (Some (Loads seat time bucket gone)) = Load (Bucket bucket)
sweep_deed (Some (Gives seat time row gone)) = Swap (Hold seat) (asking time) (holding row)

-- a step of an update
abbrev pub deed_of : Setup → (seat : ℕ) → SeatNow → Update → Step → Deed
deed_of setup seat now u (Sweeps rows) = sweep_deed now.sweep
deed_of setup seat now u (StoreOp i) = Store (OpWord seat i) (slice_index (words_of_call u.call) i)
deed_of setup seat now u Announce = Store (Announced seat) (announcing u.number (bucket_of_update setup u))
deed_of setup seat now u (LoadWord turn) = Load (Bucket (bucket_of_update setup u))
deed_of setup seat now u (LoadRow turn word words) = Load (RowWord (row_in word) (length words + 1))
deed_of setup seat now u (CheckRow turn word words) = Load (RowWord (row_in word) GENERATION_PLACE)
deed_of setup seat now u (LoadAnnounced attempt found) = Load (Announced (length found))
deed_of setup seat now u (LoadOp attempt found announced words) = Load (OpWord (length found) (length words))
deed_of setup seat now u (StoreRow attempt found i) =
    Store (RowWord (next_row now) i) (slice_index (new_words setup now attempt found) i)
deed_of setup seat now u (Exchange attempt found) =
    Swap (Bucket (bucket_of_update setup u)) attempt.word (tag (next_generation now) (next_row now))
deed_of setup seat now u StoreWant = Store (Want seat) (bucket_of_update setup u)
deed_of setup seat now u StoreAsking = Store (Hold seat) (asking (now.time + 1))
deed_of setup seat now u HeldWord = Load (Bucket (bucket_of_update setup u))
deed_of setup seat now u (TakeHold word) = Swap (Hold seat) (asking now.time) (holding (row_in word))
deed_of setup seat now u (HeldNumber row) = Load (RowWord row (number_place seat))
deed_of setup seat now u (HeldReply row) = Load (RowWord row (reply_place seat))
deed_of setup seat now u Stuck = Nothing

-- a step of a look. The time is that of the asker's last asking; a reader has none, and comes to no held step
abbrev pub glance_deed : Setup → (seat time : ℕ) → Aim → Glance → Deed
glance_deed setup seat time aim (GlanceWord left) = Load (Bucket (bucket_of_aim setup aim))
glance_deed setup seat time aim (GlanceCount source) = Load (RowWord (row_of_source source) (count_place setup))
glance_deed setup seat time aim (GlanceItem source scan) =
    Load (RowWord (row_of_source source) (item_place setup scan.item (length scan.part)))
glance_deed setup seat time aim (GlanceCheck left word kept) = Load (RowWord (row_in word) GENERATION_PLACE)
glance_deed setup seat time aim GlanceWant = Store (Want seat) (bucket_of_aim setup aim)
glance_deed setup seat time aim GlanceAsking = Store (Hold seat) (asking (time + 1))
glance_deed setup seat time aim GlanceHeld = Load (Bucket (bucket_of_aim setup aim))
glance_deed setup seat time aim (GlanceTake word) = Swap (Hold seat) (asking time) (holding (row_in word))
