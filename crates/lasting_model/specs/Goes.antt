-- Where a step leads, by the word that it found. An exchange has happened exactly where it found what it expected.
use Rattle.std.specs.Prelude.{ℕ, ◌+◌, ◌-◌, ◌==◌, nat_lt, nat_le, Bool, true, false, not, ◌&&◌, if◌then◌else◌, List, [], ◌∷◌, ◌++◌, length, map, drop, Option, Some, None, slice_index, slice_index_or, filter}
use Rattle.step_counts.specs.declared.TheConstants.{ITEM_WORDS}
use Rattle.plain_map.specs.declared.calls.Call.{Call}
use Rattle.plain_map.specs.declared.calls.Call.TheVariants.{Lookup}
use Rattle.plain_map.specs.declared.calls.Reply.{Reply}
use Rattle.plain_map.specs.declared.keys.Pair.{Pair}
use Rattle.word_rows.specs.Memory.{put}
use Rattle.word_rows.specs.ReplyWords.{reply_of_word}
use Rattle.bucket_states.specs.declared.ops.Op.{Op}
use Rattle.bucket_states.specs.Items.{same_key, reply_in}
use Rattle.bucket_states.specs.States.{BucketState}
use Rattle.table_model.specs.Setup.{Setup, seats_of, rules_of}
use Rattle.table_model.specs.Goes.{more}
use Rattle.lasting_model.specs.Plans.{PIECE}
use Rattle.lasting_model.specs.Codes.{SLOT_WORDS, generation_in, row_in, update_in, call_in, asking, is_asking, time_in, held_row, length_by, state_in, count_in, pair_in}
use Rattle.lasting_model.specs.Steps.{Update, Try, Step, Sweeps, StoreOp, Announce, LoadWord, LoadRow, CheckRow, LoadAnnounced, LoadOp, StoreRow, Exchange, StoreWant, StoreAsking, HeldWord, TakeHold, HeldNumber, HeldReply, Stuck, Aim, OfKey, OfBucket, Source, Tried, HeldIn, Scan, Glance, GlanceWord, GlanceCount, GlanceItem, GlanceCheck, GlanceWant, GlanceAsking, GlanceHeld, GlanceTake, Sweep, Homes, Seats, Sees, Loads, Gives, SeatNow, bucket_of_update, is_due, made, new_words, next_row, next_generation}

-- ---- a sweep

-- these rows stay named, and it goes on; or it is gone through, and these others are to be freed
pub data SweepFate : Type 0 where
  SweepsOn : (kept : List (ℕ × ℕ)) (sweep : Sweep) → SweepFate
  Swept : (kept gone : List (ℕ × ℕ)) → SweepFate

-- these rows without one, and that one alone
abbrev pub without : (row : ℕ) → List (ℕ × ℕ) → List (ℕ × ℕ)
without row rows = filter (λ other. not (other.0 == row)) rows

abbrev pub alone : (row : ℕ) → List (ℕ × ℕ) → List (ℕ × ℕ)
alone row rows = filter (λ other. other.0 == row) rows

-- the next seat, or all are looked at
abbrev pub hold_or_end : Setup → (seat : ℕ) → (kept gone : List (ℕ × ℕ)) → SweepFate
hold_or_end setup seat kept gone =
    if nat_lt seat (seats_of setup) then SweepsOn kept (Seats seat gone) else Swept kept gone

-- the seat passes over itself: it reads no row now
abbrev pub seats_from : Setup → (own seat : ℕ) → (kept gone : List (ℕ × ℕ)) → SweepFate
seats_from setup own seat kept gone = hold_or_end setup (if seat == own then seat + 1 else seat) kept gone

-- the next own row, or the seats
abbrev pub homes_on : Setup → (own : ℕ) → (kept todo gone : List (ℕ × ℕ)) → SweepFate
homes_on setup own kept [] gone = seats_from setup own 0 kept gone
homes_on setup own kept (row ∷ todo) gone = SweepsOn kept (Homes (row ∷ todo) gone)

-- an own row stays named where it still stands in the word of its bucket; otherwise it is gone
abbrev pub past_home : Setup → (own : ℕ) → (row : ℕ × ℕ) → (todo gone : List (ℕ × ℕ)) → (word : ℕ) → SweepFate
past_home setup own row todo gone word =
    if row_in word == row.0 then homes_on setup own (row ∷ []) todo gone else homes_on setup own [] todo (row ∷ gone)

-- this seat holds a row, which stays named, or nothing
abbrev pub past_hold : Setup → (own seat : ℕ) → (gone : List (ℕ × ℕ)) → (word : ℕ) → SweepFate
past_hold setup own seat gone word =
    if word == 0 then seats_from setup own (seat + 1) [] gone
    else seats_from setup own (seat + 1) (alone (held_row word) gone) (without (held_row word) gone)

-- by what a hold word has
abbrev pub by_hold : Setup → (own seat : ℕ) → (gone : List (ℕ × ℕ)) → (word : ℕ) → SweepFate
by_hold setup own seat gone word =
    if is_asking word then SweepsOn [] (Sees seat (time_in word) gone) else past_hold setup own seat gone word

-- what was found by a giving: it happened, or that asking is over. Whoever asks again has loaded no word of these rows
abbrev pub by_giving : Setup → (own seat : ℕ) → (gone : List (ℕ × ℕ)) → (word : ℕ) → SweepFate
by_giving setup own seat gone word =
    if is_asking word then seats_from setup own (seat + 1) [] gone else past_hold setup own seat gone word

-- first all bucket words, then the hold words: whoever may still read a row that is gone had asked before
abbrev pub sweep_fate : Setup → (own : ℕ) → Sweep → (word : ℕ) → SweepFate
sweep_fate setup own (Homes [] gone) word = seats_from setup own 0 [] gone
sweep_fate setup own (Homes (row ∷ todo) gone) word = past_home setup own row todo gone word
sweep_fate setup own (Seats seat gone) word = by_hold setup own seat gone word
sweep_fate setup own (Sees seat time gone) word = SweepsOn [] (Loads seat time word gone)
sweep_fate setup own (Loads seat time bucket gone) word = SweepsOn [] (Gives seat time (row_in word) gone)
sweep_fate setup own (Gives seat time row gone) word = by_giving setup own seat gone word

-- where none is under way there is nothing to free
abbrev pub sweep_fate_of : Setup → (own : ℕ) → Option Sweep → (word : ℕ) → SweepFate
sweep_fate_of setup own None word = Swept [] []
sweep_fate_of setup own (Some sweep) word = sweep_fate setup own sweep word

-- the numbers of these rows
abbrev pub rows_of : List (ℕ × ℕ) → List ℕ
rows_of named = map (λ row. row.0) named

-- the seat after a step of its sweep: what is gone is put to the free rows at once
abbrev pub swept : SeatNow → SweepFate → SeatNow
swept now (SweepsOn kept sweep) = record now { named = now.named ++ kept; sweep = Some sweep }
swept now (Swept kept gone) =
    record now { free = now.free ++ rows_of gone; named = now.named ++ kept; sweep = None }

-- an update begins with the sweep that is under way, or with one that takes up all rows that are named by now, or with
-- none if there are none
abbrev pub sweep_begins : (named : List (ℕ × ℕ)) → Option Sweep → SeatNow → SeatNow
sweep_begins named (Some sweep) now = now
sweep_begins [] None now = now
sweep_begins (row ∷ named) None now = record now { named = []; sweep = Some (Homes (row ∷ named) []) }

-- ---- an update

-- it goes on, is answered, or finds no free row
pub data Fate : Type 0 where
  On : (step : Step) → Fate
  Ends : (reply : Reply) → Fate
  Refuses : Fate

-- it takes a free row, where there is one
abbrev pub with_free : (free : List ℕ) → Fate
with_free [] = Refuses
with_free (row ∷ free) = On (StoreOp 0)

-- its first step
abbrev pub first_fate : (free : List ℕ) → Option Sweep → Fate
first_fate free None = with_free free
first_fate free (Some sweep) = On (Sweeps PIECE)

-- after a step of the piece, which might look at so many rows. A sweep that has come to the seats is gone through
abbrev pub piece_fate : (free : List ℕ) (rows : ℕ) → SweepFate → Fate
piece_fate free rows (SweepsOn kept (Homes todo gone)) =
    if nat_lt 1 rows then On (Sweeps (rows - 1)) else with_free free
piece_fate free rows (SweepsOn kept (Seats seat gone)) = On (Sweeps rows)
piece_fate free rows (SweepsOn kept (Sees seat time gone)) = On (Sweeps rows)
piece_fate free rows (SweepsOn kept (Loads seat time bucket gone)) = On (Sweeps rows)
piece_fate free rows (SweepsOn kept (Gives seat time row gone)) = On (Sweeps rows)
piece_fate free rows (Swept kept gone) = with_free (free ++ rows_of gone)

-- where an update is applied there always is a reply
abbrev pub ends_with : Option Reply → Fate
ends_with None = On Stuck
ends_with (Some reply) = Ends reply

-- the try is lost: another one, or the held look
abbrev pub lost : (turn : ℕ) → Fate
lost turn = On (if turn == 1 then LoadWord 2 else StoreWant)

-- the update is in the bucket
abbrev pub is_applied : (seat : ℕ) → Update → BucketState → Bool
is_applied seat u state = nat_le u.number (slice_index state.applied seat)

abbrev pub reply_by : (seat : ℕ) → BucketState → Fate
reply_by seat state = ends_with (slice_index_or state.replies seat None)

-- the seat's own op, which it need not load
abbrev pub own_op : (seat : ℕ) → Update → Op
own_op seat u = record { seat = seat; number = u.number; call = u.call }

-- what is found so far, with the own op where its turn is
abbrev pub with_own : (seat : ℕ) → Update → List (Option Op) → List (Option Op)
with_own seat u found = if length found == seat then more found (Some (own_op seat u)) else found

-- the next seat, or the new row
abbrev pub ops_or_row : Setup → Try → List (Option Op) → Fate
ops_or_row setup attempt found =
    On (if nat_lt (length found) (seats_of setup) then LoadAnnounced attempt found else StoreRow attempt found 0)

-- of so many seats it is known whether their ops are taken up
abbrev pub found_so_far : Setup → (seat : ℕ) → Update → Try → List (Option Op) → Fate
found_so_far setup seat u attempt found = ops_or_row setup attempt (with_own seat u found)

-- a row is loaded whole, and its generation was the same after it
abbrev pub looked : Setup → (seat : ℕ) → Update → Try → Fate
looked setup seat u attempt =
    if is_applied seat u attempt.state then reply_by seat attempt.state else found_so_far setup seat u attempt []

-- the op of a seat, as it was loaded. The number is that of the announcement
abbrev pub op_in : (seat announced : ℕ) → List ℕ → Op
op_in seat announced words = record { seat = seat; number = update_in announced; call = call_in words }

abbrev pub fate : Setup → (seat : ℕ) → SeatNow → Update → Step → (word : ℕ) → Fate
fate setup seat now u (Sweeps rows) word = piece_fate now.free rows (sweep_fate_of setup seat now.sweep word)
fate setup seat now u (StoreOp i) word = On (if nat_lt (i + 1) SLOT_WORDS then StoreOp (i + 1) else Announce)
fate setup seat now u Announce word = On (LoadWord 1)
fate setup seat now u (LoadWord turn) word = On (LoadRow turn word [])
fate setup seat now u (LoadRow turn old words) word =
    On (if nat_lt (length words + 1) (length_by setup (more words word)) then LoadRow turn old (more words word)
    else CheckRow turn old (more words word))
fate setup seat now u (CheckRow turn old words) word =
    if word == generation_in old then looked setup seat u (record {
      turn = turn;
      word = old;
      state = state_in setup (bucket_of_update setup u) words;
    }) else lost turn
fate setup seat now u (LoadAnnounced attempt found) word =
    if is_due (bucket_of_update setup u) attempt.state (length found) word then On (LoadOp attempt found word [])
    else found_so_far setup seat u attempt (more found None)
fate setup seat now u (LoadOp attempt found announced words) word =
    if nat_lt (length words + 1) SLOT_WORDS then On (LoadOp attempt found announced (more words word))
    else found_so_far setup seat u attempt (more found (Some (op_in (length found) announced (more words word))))
fate setup seat now u (StoreRow attempt found i) word =
    On (if nat_lt (i + 1) (length (new_words setup now attempt found)) then StoreRow attempt found (i + 1)
    else Exchange attempt found)
fate setup seat now u (Exchange attempt found) word =
    if word == attempt.word then reply_by seat (made setup attempt found) else lost attempt.turn
fate setup seat now u StoreWant word = On StoreAsking
fate setup seat now u StoreAsking word = On HeldWord
fate setup seat now u HeldWord word = On (TakeHold word)
fate setup seat now u (TakeHold old) word =
    On (HeldNumber (if word == asking now.time then row_in old else held_row word))
fate setup seat now u (HeldNumber row) word = On (if word == u.number then HeldReply row else Stuck)
fate setup seat now u (HeldReply row) word = ends_with (reply_of_word word)
fate setup seat now u Stuck word = On Stuck

-- with its next row published, in the word of this bucket
abbrev pub with_published : SeatNow → (bucket : ℕ) → SeatNow
with_published now bucket = record now {
  generation = put now.generation (next_row now) (next_generation now);
  free = drop 1 now.free;
  named = now.named ++ (next_row now, bucket) ∷ [];
}

-- what the seat has for itself then
abbrev pub own_after : Setup → (seat : ℕ) → SeatNow → Update → Step → (word : ℕ) → SeatNow
own_after setup seat now u (Sweeps rows) word = swept now (sweep_fate_of setup seat now.sweep word)
own_after setup seat now u StoreAsking word = record now { time = now.time + 1 }
own_after setup seat now u (Exchange attempt found) word =
    if word == attempt.word then with_published now (bucket_of_update setup u) else now
own_after setup seat now u step word = now

-- ---- a lookup, or a copy of a bucket

-- it goes on, has its items, or has no try left
pub data GlanceFate : Type 0 where
  Looks : (glance : Glance) → GlanceFate
  Shows : (items : List Pair) → GlanceFate
  Disturbed : GlanceFate

-- a glance was disturbed
abbrev pub glance_lost : (left : ℕ) → GlanceFate
glance_lost left = if nat_lt 0 left then Looks (GlanceWord (left - 1)) else Disturbed

-- the items are gone through as far as they have to be
abbrev pub gone_through : Source → List Pair → GlanceFate
gone_through (Tried left word) kept = Looks (GlanceCheck left word kept)
gone_through (HeldIn row) kept = Shows kept

-- the next item, if there is one
abbrev pub scan_on : Source → Scan → GlanceFate
scan_on source scan =
    if nat_lt scan.item scan.count then Looks (GlanceItem source scan) else gone_through source scan.kept

-- the items of a row, of which none is looked at
abbrev pub scan_of : (count : ℕ) → Scan
scan_of count = record { count = count; item = 0; part = []; kept = [] }

-- an item is gone past, or kept
abbrev pub passed : Scan → Scan
passed scan = record scan { item = scan.item + 1; part = [] }

abbrev pub with_pair : Scan → Pair → Scan
with_pair scan pair = record scan { item = scan.item + 1; part = []; kept = more scan.kept pair }

-- whether an item may be what is looked for, by the last word of its key; and whether it is what is looked for
abbrev pub may_be : Aim → (word : ℕ) → Bool
may_be (OfKey key) word = word == key.k4
may_be (OfBucket bucket) word = true

abbrev pub is_aimed : Aim → Pair → Bool
is_aimed (OfKey key) pair = same_key pair.key key
is_aimed (OfBucket bucket) pair = false

-- a whole item
abbrev pub scan_pair : Source → Aim → Scan → Pair → GlanceFate
scan_pair source aim scan pair =
    if is_aimed aim pair then gone_through source (more scan.kept pair) else scan_on source (with_pair scan pair)

-- one word more of an item
abbrev pub scan_fate : Source → Aim → Scan → (word : ℕ) → GlanceFate
scan_fate source aim scan word =
    if (length scan.part == 0) && not (may_be aim word) then scan_on source (passed scan)
    else (if nat_lt (length scan.part + 1) ITEM_WORDS
    then Looks (GlanceItem source (record scan { part = more scan.part word }))
    else scan_pair source aim scan (pair_in (more scan.part word)))

abbrev pub glance_fate : Setup → (time : ℕ) → Aim → Glance → (word : ℕ) → GlanceFate
glance_fate setup time aim (GlanceWord left) word = Looks (GlanceCount (Tried left word))
glance_fate setup time aim (GlanceCount source) word = scan_on source (scan_of (count_in setup word))
glance_fate setup time aim (GlanceItem source scan) word = scan_fate source aim scan word
glance_fate setup time aim (GlanceCheck left old kept) word =
    if word == generation_in old then Shows kept else glance_lost left
glance_fate setup time aim GlanceWant word = Looks GlanceAsking
glance_fate setup time aim GlanceAsking word = Looks GlanceHeld
glance_fate setup time aim GlanceHeld word = Looks (GlanceTake word)
glance_fate setup time aim (GlanceTake old) word =
    Looks (GlanceCount (HeldIn (if word == asking time then row_in old else held_row word)))

-- how often the asker has asked then
abbrev pub time_after : (time : ℕ) → Glance → ℕ
time_after time GlanceAsking = time + 1
time_after time glance = time

-- ---- what is told

-- what was asked
pub data Asked : Type 0 where
  Called : (call : Call) → Asked
  Copied : (bucket : ℕ) → Asked

-- a reply; the pairs of a bucket; a reader may try again; there was no free row
pub data Told : Type 0 where
  Replied : (reply : Reply) → Told
  Pairs : (pairs : List Pair) → Told
  Again : Told
  Refused : Told

abbrev pub asked_by_aim : Aim → Asked
asked_by_aim (OfKey key) = Called (Lookup key)
asked_by_aim (OfBucket bucket) = Copied bucket

-- by the items of the bucket, of which a lookup needs no others than it has kept
abbrev pub told_by_items : Setup → Aim → List Pair → Told
told_by_items setup (OfKey key) items = Replied (reply_in (rules_of setup) items (Lookup key))
told_by_items setup (OfBucket bucket) items = Pairs items
