-- Where a seat or a reader stands, and which word it takes next.
use Rattle.std.specs.Prelude.{ℕ, suc, ◌+◌, List, [], ◌∷◌, ◌++◌, length, Option, Some, None, slice_index}
use Rattle.plain_map.specs.declared.keys.Key.{Key}
use Rattle.plain_map.specs.declared.keys.Pair.{Pair}
use Rattle.plain_map.specs.declared.calls.Call.{Call}
use Rattle.plain_map.specs.declared.calls.Reply.{Reply}
use Rattle.plain_map.specs.declared.rules.Rules.{Rules}
use Rattle.plain_map.specs.Calls.{key_in}
use Rattle.word_rows.specs.OpWords.{words_of_call}
use Rattle.bucket_states.specs.Items.{reply_in, items_after}
use Rattle.map_laws.specs.ByKey.{Made}
use Rattle.exchange_model.specs.Plans.{Plan, rules_of, class_for, leaf_of, more}
use Rattle.exchange_model.specs.Codes.{tag, generation_in, row_in, announcing, over, asking, holding, Entry, Row, row_words, item_place}
use Rattle.exchange_model.specs.Words.{At, Pending, Announced, Want, Hold, OpWord, Bucket, RowWord}

-- ---- what an exchange makes of a bucket

-- an op that a seat has announced
pub record Op : Type 0 where
  pub number : ℕ
  pub call : Call

-- what a try has found of a seat: nothing that is pending in this bucket; an entry of the row, which stays; an op that
-- the row has not; or it is the seat itself, and its call was not announced
pub data Found : Type 0 where
  NoOp : Found
  Keeps : (entry : Entry) → Found
  Takes : (op : Op) → Found
  Makes : (call : Call) → Found

-- an update of a seat that was made
abbrev pub MadeBySeat : Type 0
MadeBySeat = ℕ × Made

-- a bucket that takes one op after the other: what its row says then, and which updates were made
pub record Change : Type 0 where
  pub row : Row
  pub made : List MadeBySeat

-- one op of a seat is applied
abbrev pub applied : Rules → Change → (seat : ℕ) → Call → (entries : Reply → List Entry) → Change
applied rules c seat call entries =
    let reply = reply_in rules c.row.items call in record {
      row = record { items = items_after rules c.row.items call; entries = c.row.entries ++ entries reply };
      made = more c.made (seat, (call, reply));
    }

abbrev pub entry_of : (seat number : ℕ) → Reply → List Entry
entry_of seat number reply = record { seat = seat; number = number; reply = Some reply } ∷ []

-- one seat is gone through
abbrev pub with_found : Rules → Change → (seat : ℕ) → Found → Change
with_found rules c seat NoOp = c
with_found rules c seat (Keeps entry) =
    record { row = record { items = c.row.items; entries = more c.row.entries entry }; made = c.made }
with_found rules c seat (Takes op) = applied rules c seat op.call (entry_of seat op.number)
with_found rules c seat (Makes call) = applied rules c seat call (λ reply. [])

-- these seats are, the first of which has this number
abbrev pub with_all : Rules → Change → (seat : ℕ) → List Found → Change
with_all rules c seat [] = c
with_all rules c seat (found ∷ later) = with_all rules (with_found rules c seat found) (suc seat) later

-- what becomes of a row
abbrev pub change : Plan → Row → List Found → Change
change plan row found =
    with_all (rules_of plan) (record { row = record { items = row.items; entries = [] }; made = [] }) 0 found

-- ---- where an update stands

-- a try: which one, from 1 on; the bucket word that it loaded, and what its row says
pub record Try : Type 0 where
  pub turn : ℕ
  pub word : ℕ
  pub row : Row

-- so many tries are not announced, and there are as many in all
abbrev pub SOLO_TRIES : ℕ
SOLO_TRIES = 1

abbrev pub ALL_TRIES : ℕ
ALL_TRIES = 3

-- how an announced op ends: it was applied, with this reply; or its bucket is spent, and it never will be
pub data Ending : Type 0 where
  Applied : (reply : Reply) → Ending
  GivenUp : Ending

-- the word that an update takes next. Where words are loaded one after the other, words are those that were loaded, and
-- stored tells how many were stored
pub data Step : Type 0 where
  -- the hold words of the others, one by one, as far as the scan of the seat is
  Scans : Step
  -- a look at the bucket: its word, the words of its row that say something, and its word again. If it is the same, the
  -- row stood in it all the while, and nobody wrote there
  LoadWord : (turn : ℕ) → Step
  LoadRow : (turn word : ℕ) (words : List ℕ) → Step
  CheckWord : (turn word : ℕ) (words : List ℕ) → Step
  -- how many are pending, after the bucket word: where none but the seat itself is, no announcement is looked at
  LoadPending : (attempt : Try) → Step
  -- what the next seat announces; and the op, only if it is due. For each seat gone through it is known what was found
  LoadAnnounced : (attempt : Try) (found : List Found) → Step
  LoadOp : (attempt : Try) (found : List Found) (announced : ℕ) (words : List ℕ) → Step
  -- the new row, in the first free row of the seat; and the exchange of the bucket word
  StoreRow : (attempt : Try) (found : List Found) (stored : ℕ) → Step
  Exchange : (attempt : Try) (found : List Found) → Step
  -- pending rises before the op's words are stored; then the announcement
  RaisePending : Step
  StoreOp : (stored : ℕ) → Step
  Announce : Step
  -- the held look: the class that is wanted, the asking, the bucket word, the hold, and the seat's entry in that row:
  -- its head; so many entries from this place on; and the reply. When that was read, the hold is given back
  StoreWant : Step
  StoreAsking : Step
  HeldWord : Step
  TakeHold : (word : ℕ) → Step
  HeldHead : (row : ℕ) → Step
  HeldEntry : (row at left : ℕ) → Step
  HeldReply : (row at : ℕ) → Step
  GiveBack : (reply : Reply) → Step
  -- how the op ends is known: the announcement is over, and then pending falls
  Over : (ending : Ending) → Step
  LowerPending : (ending : Ending) → Step
  -- there is no further step. No run comes here
  Stuck : Step

-- ---- where a lookup stands, or a copy of a bucket

-- what is looked for: a key, or all pairs of a bucket
pub data Aim : Type 0 where
  OfKey : (key : Key) → Aim
  OfBucket : (bucket : ℕ) → Aim

-- the row that is looked at: that of a bucket word that was loaded, with so many tries left after this one, or one that
-- is held, which needs no check
pub data Source : Type 0 where
  Tried : (left word : ℕ) → Source
  HeldIn : (row : ℕ) → Source

-- how far its items are gone through: how many there are, which is next, its words that were loaded, and the pairs
-- before it that may be looked for
pub record Pass : Type 0 where
  pub count : ℕ
  pub item : ℕ
  pub part : List ℕ
  pub kept : List Pair

-- the word that is taken next
pub data Glance : Type 0 where
  GlanceWord : (left : ℕ) → Glance
  GlanceCount : (source : Source) → Glance
  GlanceItem : (source : Source) (pass : Pass) → Glance
  GlanceCheck : (left word : ℕ) (kept : List Pair) → Glance
  -- the held look; when the items were read, the hold is given back
  GlanceWant : Glance
  GlanceAsking : Glance
  GlanceHeld : Glance
  GlanceTake : (word : ℕ) → Glance
  GlanceBack : (kept : List Pair) → Glance

-- ---- a seat

-- how far a scan of the hold words is, by which a seat finds which of its rows are free: the hold word of this seat, or
-- reader that can hold, is next; it asks for the so manieth time, and what it wants is next; it wants this class, whose
-- bucket word is next; it is to be given this row. These rows are not seen held, and those are
pub data Scan : Type 0 where
  Seats : (seat : ℕ) (left held : List ℕ) → Scan
  Sees : (seat time : ℕ) (left held : List ℕ) → Scan
  Loads : (seat time class : ℕ) (left held : List ℕ) → Scan
  Gives : (seat time row : ℕ) (left held : List ℕ) → Scan

-- it is idle, makes an update, or looks
pub data Stand : Type 0 where
  Idle : Stand
  Goes : (call : Call) (step : Step) → Stand
  Glances : (aim : Aim) (glance : Glance) → Stand

-- when the call in flight began, as the number of events before it, and how many steps it has taken
pub record Course : Type 0 where
  pub began : ℕ
  pub steps : ℕ

-- what a seat has for itself, and a reader that can hold, which has no rows and makes no updates: how many updates it
-- has answered, how many of its announcements are over, and how often it has asked; its rows that nobody can come to
-- read, and its other rows, as far as no scan has taken them up; how far its scan is; and the call in flight
pub record SeatNow : Type 0 where
  pub answered : ℕ
  pub posted : ℕ
  pub time : ℕ
  pub free : List ℕ
  pub kept : List ℕ
  pub scan : Option Scan
  pub stand : Stand
  pub course : Course

-- ---- a reader that cannot hold: it has no hold word

pub data Peeking : Type 0 where
  Rests : Peeking
  Peeks : (aim : Aim) (glance : Glance) → Peeking

pub record ReaderNow : Type 0 where
  pub stand : Peeking
  pub course : Course

-- ---- what is done next

-- what a step does to its word
pub data Deed : Type 0 where
  Nothing : Deed
  Load : (from : At) → Deed
  Store : (to : At) (word : ℕ) → Deed
  Swap : (at : At) (old new : ℕ) → Deed
  -- one is added, or taken off
  Raise : (at : At) → Deed
  Lower : (at : At) → Deed

-- the row that is stored next: the first free one
abbrev pub next_row : SeatNow → ℕ
next_row now = slice_index now.free 0

-- what a try makes of the bucket
abbrev pub made : Plan → Try → List Found → Change
made plan attempt found = change plan attempt.row found

-- the words of the row that it stores
abbrev pub new_words : Plan → Try → List Found → List ℕ
new_words plan attempt found = row_words (made plan attempt found).row

-- the bucket word then
abbrev pub next_tag : Plan → SeatNow → (word : ℕ) → ℕ
next_tag plan now word = tag plan (generation_in plan word + 1) (next_row now)

-- the class of an update, and of a look
abbrev pub class_of_call : Plan → Call → ℕ
class_of_call plan call = class_for plan (key_in call)

abbrev pub class_of_aim : Plan → Aim → ℕ
class_of_aim plan (OfKey key) = class_for plan key
class_of_aim plan (OfBucket bucket) = bucket

-- and the bucket of each
abbrev pub bucket_of_call : Plan → Call → ℕ
bucket_of_call plan call = leaf_of plan (class_of_call plan call)

abbrev pub bucket_of_aim : Plan → Aim → ℕ
bucket_of_aim plan aim = leaf_of plan (class_of_aim plan aim)

-- the row that is looked at
abbrev pub row_of_source : Plan → Source → ℕ
row_of_source plan (Tried left word) = row_in plan word
row_of_source plan (HeldIn row) = row

-- a step of a scan
abbrev pub scan_deed : Plan → Option Scan → Deed
scan_deed plan None = Nothing
scan_deed plan (Some (Seats seat left held)) = Load (Hold seat)
scan_deed plan (Some (Sees seat time left held)) = Load (Want seat)
scan_deed plan (Some (Loads seat time class left held)) = Load (Bucket (leaf_of plan class))
scan_deed plan (Some (Gives seat time row left held)) = Swap (Hold seat) (asking time) (holding row)

-- a step of an update
abbrev pub deed_of : Plan → (seat : ℕ) → SeatNow → Call → Step → Deed
deed_of plan seat now call Scans = scan_deed plan now.scan
deed_of plan seat now call (LoadWord turn) = Load (Bucket (bucket_of_call plan call))
deed_of plan seat now call (LoadRow turn word words) = Load (RowWord (row_in plan word) (length words))
deed_of plan seat now call (CheckWord turn word words) = Load (Bucket (bucket_of_call plan call))
deed_of plan seat now call (LoadPending attempt) = Load Pending
deed_of plan seat now call (LoadAnnounced attempt found) = Load (Announced (length found))
deed_of plan seat now call (LoadOp attempt found announced words) = Load (OpWord (length found) (length words))
deed_of plan seat now call (StoreRow attempt found i) =
    Store (RowWord (next_row now) i) (slice_index (new_words plan attempt found) i)
deed_of plan seat now call (Exchange attempt found) =
    Swap (Bucket (bucket_of_call plan call)) attempt.word (next_tag plan now attempt.word)
deed_of plan seat now call RaisePending = Raise Pending
deed_of plan seat now call (StoreOp i) = Store (OpWord seat i) (slice_index (words_of_call call) i)
deed_of plan seat now call Announce =
    Store (Announced seat) (announcing now.posted (class_of_call plan call))
deed_of plan seat now call StoreWant = Store (Want seat) (class_of_call plan call)
deed_of plan seat now call StoreAsking = Store (Hold seat) (asking (now.time + 1))
deed_of plan seat now call HeldWord = Load (Bucket (bucket_of_call plan call))
deed_of plan seat now call (TakeHold word) = Swap (Hold seat) (asking now.time) (holding (row_in plan word))
deed_of plan seat now call (HeldHead row) = Load (RowWord row 0)
deed_of plan seat now call (HeldEntry row at left) = Load (RowWord row at)
deed_of plan seat now call (HeldReply row at) = Load (RowWord row at)
deed_of plan seat now call (GiveBack reply) = Store (Hold seat) 0
deed_of plan seat now call (Over ending) = Store (Announced seat) (over now.posted)
deed_of plan seat now call (LowerPending ending) = Lower Pending
deed_of plan seat now call Stuck = Nothing

-- a step of a look. The time is that of the asker's last asking; a reader that cannot hold comes to no held step
abbrev pub glance_deed : Plan → (seat time : ℕ) → Aim → Glance → Deed
glance_deed plan seat time aim (GlanceWord left) = Load (Bucket (bucket_of_aim plan aim))
glance_deed plan seat time aim (GlanceCount source) = Load (RowWord (row_of_source plan source) 0)
glance_deed plan seat time aim (GlanceItem source pass) =
    Load (RowWord (row_of_source plan source) (item_place pass.item (length pass.part)))
glance_deed plan seat time aim (GlanceCheck left word kept) = Load (Bucket (bucket_of_aim plan aim))
glance_deed plan seat time aim GlanceWant = Store (Want seat) (class_of_aim plan aim)
glance_deed plan seat time aim GlanceAsking = Store (Hold seat) (asking (time + 1))
glance_deed plan seat time aim GlanceHeld = Load (Bucket (bucket_of_aim plan aim))
glance_deed plan seat time aim (GlanceTake word) = Swap (Hold seat) (asking time) (holding (row_in plan word))
glance_deed plan seat time aim (GlanceBack kept) = Store (Hold seat) 0
