-- Where a step leads, by the word that it found. An exchange has happened exactly where it found what it expected.
use Rattle.std.specs.Prelude.{ℕ, zero, suc, ◌+◌, ◌-◌, ◌*◌, ◌^◌, ◌==◌, nat_lt, Bool, true, false, not, ◌&&◌, if◌then◌else◌, List, [], ◌∷◌, ◌++◌, length, drop, filter, Option, Some, None}
use Rattle.step_counts.specs.declared.TheConstants.{ITEM_WORDS}
use Rattle.plain_map.specs.declared.calls.Call.{Call}
use Rattle.plain_map.specs.declared.calls.Call.TheVariants.{Insert, Remove, Lookup, Tally, Count, Put}
use Rattle.plain_map.specs.declared.calls.Reply.{Reply}
use Rattle.plain_map.specs.declared.keys.Pair.{Pair}
use Rattle.plain_map.specs.declared.rules.Rules.{Rules}
use Rattle.plain_map.specs.Calls.{key_in}
use Rattle.plain_map.specs.Keys.{Session}
use Rattle.plain_map.specs.Updates.{summed}
use Rattle.word_rows.specs.ReplyWords.{reply_of_word}
use Rattle.bucket_states.specs.Items.{same_key, value_at, has_place, reply_in}
use Rattle.exchange_model.specs.Plans.{Plan, holders_of, rules_of, leaf_of, more}
use Rattle.exchange_model.specs.Codes.{SLOT_WORDS, ENTRY_WORDS, SEAT_BITS, row_in, is_spent, is_pending, number_in, class_in, call_in, asking, is_asking, time_in, held_row, Entry, count_in, entries_in, entries_start, length_by, row_of_words, pair_in}
use Rattle.exchange_model.specs.Steps.{Op, Found, NoOp, Keeps, Takes, Makes, MadeBySeat, Try, SOLO_TRIES, ALL_TRIES, Ending, Applied, GivenUp, Step, Scans, LoadWord, LoadRow, CheckWord, LoadPending, LoadAnnounced, LoadOp, StoreRow, Exchange, RaisePending, StoreOp, Announce, StoreWant, StoreAsking, HeldWord, TakeHold, HeldHead, HeldEntry, HeldReply, GiveBack, Over, LowerPending, Stuck, Aim, OfKey, OfBucket, Source, Tried, HeldIn, Pass, Glance, GlanceWord, GlanceCount, GlanceItem, GlanceCheck, GlanceWant, GlanceAsking, GlanceHeld, GlanceTake, GlanceBack, Scan, Seats, Sees, Loads, Gives, SeatNow, bucket_of_call, made, new_words}

-- ---- a scan

-- it goes on; or all who can hold are looked at, and these rows were not seen held, and those were
pub data ScanFate : Type 0 where
  ScansOn : (scan : Scan) → ScanFate
  Scanned : (left held : List ℕ) → ScanFate

-- these rows without one, and that one alone
abbrev pub without : (row : ℕ) → List ℕ → List ℕ
without row rows = filter (λ other. not (other == row)) rows

abbrev pub alone : (row : ℕ) → List ℕ → List ℕ
alone row rows = filter (λ other. other == row) rows

-- the next one who can hold, or all are looked at
abbrev pub seat_or_end : Plan → (seat : ℕ) → (left held : List ℕ) → ScanFate
seat_or_end plan seat left held =
    if nat_lt seat (holders_of plan.settings) then ScansOn (Seats seat left held) else Scanned left held

-- the seat passes over itself: it reads no row now
abbrev pub seats_from : Plan → (own seat : ℕ) → (left held : List ℕ) → ScanFate
seats_from plan own seat left held = seat_or_end plan (if seat == own then seat + 1 else seat) left held

-- this one holds a row, or nothing
abbrev pub past_hold : Plan → (own seat : ℕ) → (left held : List ℕ) → (word : ℕ) → ScanFate
past_hold plan own seat left held word =
    if word == 0 then seats_from plan own (seat + 1) left held
    else seats_from plan own (seat + 1) (without (held_row word) left) (held ++ alone (held_row word) left)

-- by what a hold word has
abbrev pub by_hold : Plan → (own seat : ℕ) → (left held : List ℕ) → (word : ℕ) → ScanFate
by_hold plan own seat left held word =
    if is_asking word then ScansOn (Sees seat (time_in word) left held) else past_hold plan own seat left held word

-- what was found by a giving: it happened, or that asking is over. Whoever asks again has loaded no word of these rows
abbrev pub by_giving : Plan → (own seat : ℕ) → (left held : List ℕ) → (word : ℕ) → ScanFate
by_giving plan own seat left held word =
    if is_asking word then seats_from plan own (seat + 1) left held else past_hold plan own seat left held word

-- what comes of a step of a scan
abbrev pub scan_fate : Plan → (own : ℕ) → Scan → (word : ℕ) → ScanFate
scan_fate plan own (Seats seat left held) word = by_hold plan own seat left held word
scan_fate plan own (Sees seat time left held) word = ScansOn (Loads seat time word left held)
scan_fate plan own (Loads seat time class left held) word = ScansOn (Gives seat time (row_in plan word) left held)
scan_fate plan own (Gives seat time row left held) word = by_giving plan own seat left held word

-- where none is under way there is nothing to scan
abbrev pub scan_fate_of : Plan → (own : ℕ) → Option Scan → (word : ℕ) → ScanFate
scan_fate_of plan own None word = Scanned [] []
scan_fate_of plan own (Some scan) word = scan_fate plan own scan word

-- the seat after a step of its scan
abbrev pub scanned : SeatNow → ScanFate → SeatNow
scanned now (ScansOn scan) = record now { scan = Some scan }
scanned now (Scanned left held) =
    record now { free = now.free ++ left; kept = now.kept ++ held; scan = None }

-- an update begins with a scan of all other rows of its seat where no row is known to be free
abbrev pub scan_begins : Plan → (own : ℕ) → (free : List ℕ) → SeatNow → SeatNow
scan_begins plan own (row ∷ free) now = now
scan_begins plan own [] now = scanned (record now { kept = [] }) (seats_from plan own 0 now.kept [])

-- ---- an update

-- it goes on; is answered; finds its bucket spent; or finds no free row
pub data Fate : Type 0 where
  On : (step : Step) → Fate
  Ends : (reply : Reply) → Fate
  Spends : Fate
  Refuses : Fate

-- it begins its first try, where there is a free row
abbrev pub with_free : (free : List ℕ) → Fate
with_free [] = Refuses
with_free (row ∷ free) = On (LoadWord 1)

-- its first step
abbrev pub first_fate : (free : List ℕ) → Option Scan → Fate
first_fate free None = with_free free
first_fate free (Some scan) = On Scans

-- after a step of the scan
abbrev pub after_scan : (free : List ℕ) → ScanFate → Fate
after_scan free (ScansOn scan) = On Scans
after_scan free (Scanned left held) = with_free (free ++ left)

-- whether the op is announced at this try
abbrev pub is_announced : (turn : ℕ) → Bool
is_announced turn = nat_lt SOLO_TRIES turn

-- the try is lost: another one, the announcement, or the held look
abbrev pub lost : (turn : ℕ) → Fate
lost turn =
    if turn == SOLO_TRIES then On RaisePending
    else (if turn == ALL_TRIES then On StoreWant else On (LoadWord (turn + 1)))

-- the entry of a seat for an op with this number
abbrev pub is_entry : (seat number : ℕ) → Entry → Bool
is_entry seat number entry = (entry.seat == seat) && (entry.number == number)

-- the first one among these
abbrev pub entry_for : (seat number : ℕ) → List Entry → Option Entry
entry_for seat number [] = None
entry_for seat number (entry ∷ entries) =
    if is_entry seat number entry then Some entry else entry_for seat number entries

-- where an update is applied there always is a reply
abbrev pub ends_with : (announced : Bool) → Option Reply → Fate
ends_with announced None = On Stuck
ends_with false (Some reply) = Ends reply
ends_with true (Some reply) = On (Over (Applied reply))

-- the bucket is spent, and the op was not applied: if it is announced, that is over first
abbrev pub gives_up : (announced : Bool) → Fate
gives_up false = Spends
gives_up true = On (Over GivenUp)

-- where the reply was found in a row that is held, the hold is given back
abbrev pub gives_back : Option Reply → Fate
gives_back None = On Stuck
gives_back (Some reply) = On (GiveBack reply)

-- what the caller is told at the end
abbrev pub ended : Ending → Fate
ended (Applied reply) = Ends reply
ended GivenUp = Spends

-- the own op, which the seat need not load
abbrev pub own_op : (number turn : ℕ) → Call → Found
own_op number turn call =
    if is_announced turn then Takes (record { number = number; call = call }) else Makes call

-- what is found so far, with the own op where its turn is
abbrev pub with_own : (seat : ℕ) → SeatNow → Call → (turn : ℕ) → List Found → List Found
with_own seat now call turn found =
    if length found == seat then more found (own_op now.posted turn call) else found

-- the next seat, or the new row
abbrev pub ops_or_row : Plan → Try → List Found → Fate
ops_or_row plan attempt found =
    On (if nat_lt (length found) plan.settings.seats then LoadAnnounced attempt found else StoreRow attempt found 0)

-- of so many seats it is known what they announce
abbrev pub found_so_far : Plan → (seat : ℕ) → SeatNow → Call → Try → List Found → Fate
found_so_far plan seat now call attempt found =
    ops_or_row plan attempt (with_own seat now call attempt.turn found)

-- no op of another seat is pending: only the own one is due. The rest of what is found is added, one seat after the
-- other
abbrev pub found_alone : (seat : ℕ) → (own : Found) → (many : ℕ) → (found : List Found) → List Found
found_alone seat own zero found = found
found_alone seat own (suc many) found =
    found_alone seat own many (more found (if length found == seat then own else NoOp))

-- the share of the seat in what is pending, at this try
abbrev pub share_of : (announced : Bool) → ℕ
share_of announced = if announced then 1 else 0

-- whether the seat alone has its share in what is pending. Then every other announcement was over at that load
abbrev pub after_pending : Plan → (seat : ℕ) → SeatNow → Call → Try → (pending : ℕ) → Fate
after_pending plan seat now call attempt pending =
    if pending == share_of (is_announced attempt.turn)
    then On (StoreRow attempt (found_alone seat (own_op now.posted attempt.turn call) plan.settings.seats []) 0)
    else found_so_far plan seat now call attempt []

-- whether a call changes nothing, by what is held at its key and by whether there is a place
abbrev pub changes_nothing : Call → Option Session → (place : Bool) → Bool
changes_nothing (Insert key value) (Some held) place = true
changes_nothing (Insert key value) None place = not place
changes_nothing (Remove key) (Some held) place = false
changes_nothing (Remove key) None place = true
changes_nothing (Lookup key) held place = true
changes_nothing (Tally key amount) (Some held) place = summed held.bytes amount == held.bytes
changes_nothing (Tally key amount) None place = true
changes_nothing (Count key value amount) (Some held) place = summed held.bytes amount == held.bytes
changes_nothing (Count key value amount) None place = not place
changes_nothing (Put key value) (Some held) place = held.value == value
changes_nothing (Put key value) None place = not place

-- whether a call leaves these pairs as they are
abbrev pub is_quiet : Rules → List Pair → Call → Bool
is_quiet rules items call = changes_nothing call (value_at (key_in call) items) (has_place rules items)

-- the own op is still to be applied: the bucket is spent, or what is pending is next
abbrev pub unless_spent : Plan → Try → Fate
unless_spent plan attempt =
    if is_spent plan attempt.word then gives_up (is_announced attempt.turn) else On (LoadPending attempt)

-- the op of a row's entry is answered
abbrev pub by_entry : Plan → Try → Option Entry → Fate
by_entry plan attempt None = unless_spent plan attempt
by_entry plan attempt (Some entry) = ends_with true entry.reply

-- a row is loaded whole, and the bucket word was the same after it. An announced op may have been applied. One that
-- nobody else knows, and which would change nothing, is answered by that row
abbrev pub looked : Plan → (seat : ℕ) → SeatNow → Call → Try → Fate
looked plan seat now call attempt =
    if is_announced attempt.turn
    then by_entry plan attempt (entry_for seat now.posted attempt.row.entries)
    else (if is_quiet (rules_of plan) attempt.row.items call
    then Ends (reply_in (rules_of plan) attempt.row.items call)
    else unless_spent plan attempt)

-- what an announcement tells of its seat for this bucket: an op that is pending, which the row has or has not
abbrev pub is_here : Plan → (bucket announced : ℕ) → Bool
is_here plan bucket announced = is_pending announced && (leaf_of plan (class_in announced) == bucket)

-- where it is pending and the row has not got it, the op is to be loaded
abbrev pub after_entry : Plan → (seat : ℕ) → SeatNow → Call → Try → List Found → (announced : ℕ) → Option Entry → Fate
after_entry plan seat now call attempt found announced None = On (LoadOp attempt found announced [])
after_entry plan seat now call attempt found announced (Some entry) =
    found_so_far plan seat now call attempt (more found (Keeps entry))

-- what comes of an announcement that was loaded
abbrev pub after_announced : Plan → (seat : ℕ) → SeatNow → Call → Try → List Found → (announced : ℕ) → Fate
after_announced plan seat now call attempt found announced =
    if is_here plan (bucket_of_call plan call) announced
    then after_entry plan seat now call attempt found announced
    (entry_for (length found) (number_in announced) attempt.row.entries)
    else found_so_far plan seat now call attempt (more found NoOp)

-- the op of a seat, as it was loaded
abbrev pub op_in : (announced : ℕ) → List ℕ → Op
op_in announced words = record { number = number_in announced; call = call_in words }

-- the reply of the seat's update among those that were made
abbrev pub reply_for : (seat : ℕ) → List MadeBySeat → Option Reply
reply_for seat [] = None
reply_for seat (one ∷ later) = if one.0 == seat then Some one.1.1 else reply_for seat later

-- the first word of its entry
abbrev pub entry_word : (seat number : ℕ) → ℕ
entry_word seat number = seat + number * 2 ^ SEAT_BITS

-- the next entry, where there is one
abbrev pub next_entry : (row at left : ℕ) → Fate
next_entry row at left = On (if nat_lt 0 left then HeldEntry row at left else Stuck)

-- what comes of each step of an update
abbrev pub fate : Plan → (seat : ℕ) → SeatNow → Call → Step → (word : ℕ) → Fate
fate plan seat now call Scans word = after_scan now.free (scan_fate_of plan seat now.scan word)
fate plan seat now call (LoadWord turn) word = On (LoadRow turn word [])
fate plan seat now call (LoadRow turn old words) word =
    On (if nat_lt (length words + 1) (length_by plan (more words word)) then LoadRow turn old (more words word)
    else CheckWord turn old (more words word))
fate plan seat now call (CheckWord turn old words) word =
    if word == old
    then looked plan seat now call (record { turn = turn; word = old; row = row_of_words plan words })
    else lost turn
fate plan seat now call (LoadPending attempt) word = after_pending plan seat now call attempt word
fate plan seat now call (LoadAnnounced attempt found) word =
    after_announced plan seat now call attempt found word
fate plan seat now call (LoadOp attempt found announced words) word =
    if nat_lt (length words + 1) SLOT_WORDS then On (LoadOp attempt found announced (more words word))
    else found_so_far plan seat now call attempt (more found (Takes (op_in announced (more words word))))
fate plan seat now call (StoreRow attempt found i) word =
    On (if nat_lt (i + 1) (length (new_words plan attempt found)) then StoreRow attempt found (i + 1)
    else Exchange attempt found)
fate plan seat now call (Exchange attempt found) word =
    if word == attempt.word
    then ends_with (is_announced attempt.turn) (reply_for seat (made plan attempt found).made)
    else lost attempt.turn
fate plan seat now call RaisePending word = On (StoreOp 0)
fate plan seat now call (StoreOp i) word = On (if nat_lt (i + 1) SLOT_WORDS then StoreOp (i + 1) else Announce)
fate plan seat now call Announce word = On (LoadWord (SOLO_TRIES + 1))
fate plan seat now call StoreWant word = On StoreAsking
fate plan seat now call StoreAsking word = On HeldWord
fate plan seat now call HeldWord word = On (TakeHold word)
fate plan seat now call (TakeHold old) word =
    On (HeldHead (if word == asking now.time then row_in plan old else held_row word))
fate plan seat now call (HeldHead row) word =
    next_entry row (entries_start (count_in plan word)) (entries_in plan word)
fate plan seat now call (HeldEntry row at left) word =
    if word == entry_word seat now.posted then On (HeldReply row (at + 1))
    else next_entry row (at + ENTRY_WORDS) (left - 1)
fate plan seat now call (HeldReply row at) word = gives_back (reply_of_word word)
fate plan seat now call (GiveBack reply) word = On (Over (Applied reply))
fate plan seat now call (Over ending) word = On (LowerPending ending)
fate plan seat now call (LowerPending ending) word = ended ending
fate plan seat now call Stuck word = On Stuck

-- with its first free row given for this one
abbrev pub exchanged : SeatNow → (row : ℕ) → SeatNow
exchanged now row = record now { free = drop 1 now.free; kept = more now.kept row }

-- what the seat has for itself then
abbrev pub own_after : Plan → (seat : ℕ) → SeatNow → Call → Step → (word : ℕ) → SeatNow
own_after plan seat now call Scans word = scanned now (scan_fate_of plan seat now.scan word)
own_after plan seat now call (Exchange attempt found) word =
    if word == attempt.word then exchanged now (row_in plan attempt.word) else now
own_after plan seat now call StoreAsking word = record now { time = now.time + 1 }
own_after plan seat now call (Over ending) word = record now { posted = now.posted + 1 }
own_after plan seat now call step word = now

-- ---- a lookup, or a copy of a bucket

-- it goes on, has its items, or has no try left
pub data GlanceFate : Type 0 where
  Looks : (glance : Glance) → GlanceFate
  Shows : (items : List Pair) → GlanceFate
  Disturbed : GlanceFate

-- a glance was disturbed
abbrev pub glance_lost : (left : ℕ) → GlanceFate
glance_lost left = if nat_lt 0 left then Looks (GlanceWord (left - 1)) else Disturbed

-- the items are gone through as far as they have to be
abbrev pub gone_through : Source → List Pair → GlanceFate
gone_through (Tried left word) kept = Looks (GlanceCheck left word kept)
gone_through (HeldIn row) kept = Looks (GlanceBack kept)

-- the next item, if there is one
abbrev pub pass_on : Source → Pass → GlanceFate
pass_on source pass =
    if nat_lt pass.item pass.count then Looks (GlanceItem source pass) else gone_through source pass.kept

-- the items of a row, of which none is looked at
abbrev pub pass_of : (count : ℕ) → Pass
pass_of count = record { count = count; item = 0; part = []; kept = [] }

-- an item is gone past, or kept
abbrev pub passed : Pass → Pass
passed pass = record pass { item = pass.item + 1; part = [] }

-- it is kept
abbrev pub with_pair : Pass → Pair → Pass
with_pair pass pair = record pass { item = pass.item + 1; part = []; kept = more pass.kept pair }

-- whether an item may be what is looked for, by the last word of its key; and whether it is what is looked for
abbrev pub may_be : Aim → (word : ℕ) → Bool
may_be (OfKey key) word = word == key.k4
may_be (OfBucket bucket) word = true

abbrev pub is_aimed : Aim → Pair → Bool
is_aimed (OfKey key) pair = same_key pair.key key
is_aimed (OfBucket bucket) pair = false

-- a whole item
abbrev pub pass_pair : Source → Aim → Pass → Pair → GlanceFate
pass_pair source aim pass pair =
    if is_aimed aim pair then gone_through source (more pass.kept pair) else pass_on source (with_pair pass pair)

-- one word more of an item
abbrev pub pass_fate : Source → Aim → Pass → (word : ℕ) → GlanceFate
pass_fate source aim pass word =
    if (length pass.part == 0) && not (may_be aim word) then pass_on source (passed pass)
    else (if nat_lt (length pass.part + 1) ITEM_WORDS
    then Looks (GlanceItem source (record pass { part = more pass.part word }))
    else pass_pair source aim pass (pair_in (more pass.part word)))

-- what comes of each step of a look
abbrev pub glance_fate : Plan → (time : ℕ) → Aim → Glance → (word : ℕ) → GlanceFate
glance_fate plan time aim (GlanceWord left) word = Looks (GlanceCount (Tried left word))
glance_fate plan time aim (GlanceCount source) word = pass_on source (pass_of (count_in plan word))
glance_fate plan time aim (GlanceItem source pass) word = pass_fate source aim pass word
glance_fate plan time aim (GlanceCheck left old kept) word = if word == old then Shows kept else glance_lost left
glance_fate plan time aim GlanceWant word = Looks GlanceAsking
glance_fate plan time aim GlanceAsking word = Looks GlanceHeld
glance_fate plan time aim GlanceHeld word = Looks (GlanceTake word)
glance_fate plan time aim (GlanceTake old) word =
    Looks (GlanceCount (HeldIn (if word == asking time then row_in plan old else held_row word)))
glance_fate plan time aim (GlanceBack kept) word = Shows kept

-- how often the asker has asked then
abbrev pub time_after : (time : ℕ) → Glance → ℕ
time_after time GlanceAsking = time + 1
time_after time glance = time

-- ---- what is told

-- what was asked
pub data Asked : Type 0 where
  Called : (call : Call) → Asked
  Copied : (bucket : ℕ) → Asked

-- a reply; the pairs of a bucket; a reader may try again; the bucket is spent; there was no free row
pub data Told : Type 0 where
  Replied : (reply : Reply) → Told
  Pairs : (pairs : List Pair) → Told
  Again : Told
  Spent : Told
  Refused : Told

-- what a look was asked
abbrev pub asked_by_aim : Aim → Asked
asked_by_aim (OfKey key) = Called (Lookup key)
asked_by_aim (OfBucket bucket) = Copied bucket

-- by the items of the bucket, of which a lookup needs no others than it has kept
abbrev pub told_by_items : Plan → Aim → List Pair → Told
told_by_items plan (OfKey key) items = Replied (reply_in (rules_of plan) items (Lookup key))
told_by_items plan (OfBucket bucket) items = Pairs items
