-- What comes of a step: which leave a seat with no held look, and which of its lists, its time and its scan stay.
use Rattle.std.proofs.Common.{◌≡◌, ℕ, ◌+◌, Bool, true, false, cond, List, [], ◌∷◌, ◌++◌, length, Option, Some, None, refl, arith}
use Rattle.std.specs.Prelude.{◌==◌, nat_lt}
use Rattle.list_laws.proofs.Totals.{many}
use Rattle.plain_map.specs.declared.calls.Call.{Call}
use Rattle.plain_map.specs.declared.calls.Reply.{Reply}
use Rattle.exchange_model.specs.Plans.{Plan, rules_of, holders_of, more}
use Rattle.exchange_model.specs.Codes.{SLOT_WORDS, Entry, is_spent, is_asking, time_in, held_row, row_of_words, number_in, length_by}
use Rattle.exchange_model.specs.Steps as S
use Rattle.exchange_model.specs.Steps.{Step, Scan, SeatNow, Found, NoOp, Keeps, Takes, Try, Ending, bucket_of_call, new_words, SOLO_TRIES, ALL_TRIES}
use Rattle.exchange_model.specs.Goes.{ScanFate, ScansOn, Scanned, without, alone, seats_from, past_hold, scan_fate, scanned, Fate, On, Ends, Spends, Refuses, with_free, first_fate, after_scan, is_announced, lost, ends_with, gives_up, gives_back, ended, unless_spent, is_quiet, with_own, own_op, share_of, found_alone, found_so_far, by_entry, looked, is_here, entry_for, after_entry, op_in, fate}
use Rattle.exchange_model.specs.Worlds.{seat_after}
use Rattle.exchange_laws.proofs.RowLists.{is_row, both, parted}
use Rattle.exchange_laws.proofs.Owned.{left_of, held_of}
use Rattle.exchange_laws.proofs.Holding as H
use Rattle.exchange_laws.proofs.HeldStates.{look_of, look_of_step}
use Rattle.bucket_states.specs.Items.{reply_in}
use Rattle.exchange_laws.proofs.Held.{Wants, WantStep, fate_times, LeadsTo}

-- ---- what comes of a step that holds nothing

-- The seat holds nothing in what comes: its next step is of no held look, and asks nothing of its wanted class.
abbrev pub NoHeld : Plan → Fate → Type 0
NoHeld plan (On step) = (look_of_step plan step ≡ H.NoLook) × ((want bucket : ℕ) → WantStep want bucket step)
NoHeld plan next = Unit {0}

-- Of two such, each is one.
either : (plan : Plan) (a b : Fate) (c : Bool) → NoHeld plan a → NoHeld plan b → NoHeld plan (cond c a b)
either plan a b true na nb = na
either plan a b false na nb = nb

either_on : (plan : Plan) (a b : Step) (c : Bool) → NoHeld plan (On a) → NoHeld plan (On b) →
    NoHeld plan (On (cond c a b))
either_on plan a b true na nb = na
either_on plan a b false na nb = nb

-- An update that ends with a reply.
pub replied : (plan : Plan) (announced : Bool) (reply : Option Reply) → NoHeld plan (ends_with announced reply)
replied plan true None = (refl, λ w b. tt)
replied plan false None = (refl, λ w b. tt)
replied plan true (Some reply) = (refl, λ w b. tt)
replied plan false (Some reply) = tt

-- A lost try.
pub loses : (plan : Plan) (turn : ℕ) → NoHeld plan (lost turn)
loses plan turn =
    either plan (On S.RaisePending) (cond (turn == ALL_TRIES) (On S.StoreWant) (On (S.LoadWord (turn + 1))))
    (turn == SOLO_TRIES) (refl, λ w b. tt)
    (either plan (On S.StoreWant) (On (S.LoadWord (turn + 1))) (turn == ALL_TRIES) (refl, λ w b. tt) (refl, λ w b. tt))

to_ops : (plan : Plan) (seat : ℕ) (now : SeatNow) (call : Call) (t : Try) (found : List Found) →
    NoHeld plan (found_so_far plan seat now call t found)
to_ops plan seat now call t found =
    let all = with_own seat now call t.turn found in
    either_on plan (S.LoadAnnounced t all) (S.StoreRow t all 0) (nat_lt (length all) plan.settings.seats)
    (refl, λ w b. tt)
    (refl, λ w b. tt)

gives_up_on : (plan : Plan) (announced : Bool) → NoHeld plan (gives_up announced)
gives_up_on plan true = (refl, λ w b. tt)
gives_up_on plan false = tt

-- A hold that was given back.
pub back_on : (plan : Plan) (reply : Option Reply) → NoHeld plan (gives_back reply)
back_on plan None = (refl, λ w b. tt)
back_on plan (Some reply) = (refl, λ w b. tt)

ended_on : (plan : Plan) (ending : Ending) → NoHeld plan (ended ending)
ended_on plan (S.Applied reply) = tt
ended_on plan S.GivenUp = tt

unless_on : (plan : Plan) (t : Try) → NoHeld plan (unless_spent plan t)
unless_on plan t =
    either plan (gives_up (is_announced t.turn)) (On (S.LoadPending t)) (is_spent plan t.word)
    (gives_up_on plan (is_announced t.turn)) (refl, λ w b. tt)

by_entries : (plan : Plan) (t : Try) (entry : Option Entry) → NoHeld plan (by_entry plan t entry)
by_entries plan t None = unless_on plan t
by_entries plan t (Some entry) = replied plan true entry.reply

to_entry : (plan : Plan) (seat : ℕ) (now : SeatNow) (call : Call) (t : Try) (found : List Found) (announced : ℕ)
    (entry : Option Entry) → NoHeld plan (after_entry plan seat now call t found announced entry)
to_entry plan seat now call t found announced None = (refl, λ w b. tt)
to_entry plan seat now call t found announced (Some entry) = to_ops plan seat now call t (more found (Keeps entry))

free_on : (plan : Plan) (free : List ℕ) → NoHeld plan (with_free free)
free_on plan [] = tt
free_on plan (r ∷ free) = (refl, λ w b. tt)

-- A step of a scan.
pub scan_on : (plan : Plan) (free : List ℕ) (f : ScanFate) → NoHeld plan (after_scan free f)
scan_on plan free (ScansOn scan) = (refl, λ w b. tt)
scan_on plan free (Scanned left held) = free_on plan (free ++ left)

-- The first step of a call.
pub first_on : (plan : Plan) (free : List ℕ) (scan : Option Scan) → NoHeld plan (first_fate free scan)
first_on plan free None = free_on plan free
first_on plan free (Some scan) = (refl, λ w b. tt)

-- The steps that neither hold, nor scan, nor exchange.
abbrev pub IsPlain : Step → Type 0
IsPlain (S.LoadWord turn) = Unit {0}
IsPlain (S.LoadRow turn word words) = Unit {0}
IsPlain (S.CheckWord turn word words) = Unit {0}
IsPlain (S.LoadPending t) = Unit {0}
IsPlain (S.LoadAnnounced t found) = Unit {0}
IsPlain (S.LoadOp t found announced words) = Unit {0}
IsPlain (S.StoreRow t found i) = Unit {0}
IsPlain S.RaisePending = Unit {0}
IsPlain (S.StoreOp i) = Unit {0}
IsPlain S.Announce = Unit {0}
IsPlain (S.Over ending) = Unit {0}
IsPlain (S.LowerPending ending) = Unit {0}
IsPlain S.Stuck = Unit {0}
IsPlain step = ⊥

-- What comes of each of them.
pub plain_on : (plan : Plan) (seat : ℕ) (now : SeatNow) (call : Call) (step : Step) (word : ℕ) → IsPlain step →
    NoHeld plan (fate plan seat now call step word)
plain_on plan seat now call (S.LoadWord turn) word p = (refl, λ w b. tt)
plain_on plan seat now call (S.LoadRow turn old words) word p =
    either_on plan (S.LoadRow turn old (more words word)) (S.CheckWord turn old (more words word))
    (nat_lt (length words + 1) (length_by plan (more words word))) (refl, λ w b. tt) (refl, λ w b. tt)
plain_on plan seat now call (S.CheckWord turn old words) word p =
    let t : Try = record { turn = turn; word = old; row = row_of_words plan words } in
    let quiet = is_quiet (rules_of plan) t.row.items call in
    let answer = reply_in (rules_of plan) t.row.items call in
    either plan (looked plan seat now call t) (lost turn) (word == old)
    (either plan (by_entry plan t (entry_for seat now.posted t.row.entries))
    (cond quiet (Ends answer) (unless_spent plan t))
    (is_announced turn) (by_entries plan t (entry_for seat now.posted t.row.entries))
    (either plan (Ends answer) (unless_spent plan t) quiet tt (unless_on plan t)))
    (loses plan turn)
plain_on plan seat now call (S.LoadPending t) word p =
    let found = found_alone seat (own_op now.posted t.turn call) plan.settings.seats [] in
    either plan (On (S.StoreRow t found 0)) (found_so_far plan seat now call t [])
    (word == share_of (is_announced t.turn))
    (refl, λ w b. tt) (to_ops plan seat now call t [])
plain_on plan seat now call (S.LoadAnnounced t found) word p =
    let entry = entry_for (length found) (number_in word) t.row.entries in
    either plan (after_entry plan seat now call t found word entry)
    (found_so_far plan seat now call t (more found NoOp))
    (is_here plan (bucket_of_call plan call) word) (to_entry plan seat now call t found word entry)
    (to_ops plan seat now call t (more found NoOp))
plain_on plan seat now call (S.LoadOp t found announced words) word p =
    let op = Takes (op_in announced (more words word)) in
    either plan (On (S.LoadOp t found announced (more words word))) (found_so_far plan seat now call t (more found op))
    (nat_lt (length words + 1) SLOT_WORDS) (refl, λ w b. tt) (to_ops plan seat now call t (more found op))
plain_on plan seat now call (S.StoreRow t found i) word p =
    either_on plan (S.StoreRow t found (i + 1)) (S.Exchange t found) (nat_lt (i + 1) (length (new_words plan t found)))
    (refl, λ w b. tt) (refl, λ w b. tt)
plain_on plan seat now call (S.StoreOp i) word p =
    either_on plan (S.StoreOp (i + 1)) S.Announce (nat_lt (i + 1) SLOT_WORDS) (refl, λ w b. tt) (refl, λ w b. tt)
plain_on plan seat now call S.Announce word p = (refl, λ w b. tt)
plain_on plan seat now call S.RaisePending word p = (refl, λ w b. tt)
plain_on plan seat now call (S.Over ending) word p = (refl, λ w b. tt)
plain_on plan seat now call (S.LowerPending ending) word p = ended_on plan ending
plain_on plan seat now call S.Stuck word p = (refl, λ w b. tt)
plain_on plan seat now call S.Scans word p = absurd p
plain_on plan seat now call (S.Exchange t found) word p = absurd p
plain_on plan seat now call S.StoreWant word p = absurd p
plain_on plan seat now call S.StoreAsking word p = absurd p
plain_on plan seat now call S.HeldWord word p = absurd p
plain_on plan seat now call (S.TakeHold old) word p = absurd p
plain_on plan seat now call (S.HeldHead row) word p = absurd p
plain_on plan seat now call (S.HeldEntry row at left) word p = absurd p
plain_on plan seat now call (S.HeldReply row at) word p = absurd p
plain_on plan seat now call (S.GiveBack reply) word p = absurd p

-- So the seat stands in no held look then.
pub held_look : (plan : Plan) (own : SeatNow) (call : Call) (next : Fate) → NoHeld plan next →
    look_of plan (seat_after own call next).stand ≡ H.NoLook
held_look plan own call (On step) n = n.0
held_look plan own call (Ends reply) n = refl
held_look plan own call Spends n = refl
held_look plan own call Refuses n = refl

-- And its wanted class is asked for nothing.
pub held_wants : (plan : Plan) (want : ℕ) (own : SeatNow) (call : Call) (next : Fate) → NoHeld plan next →
    Wants plan want (seat_after own call next).stand
held_wants plan want own call (On step) n = n.1 want (bucket_of_call plan call)
held_wants plan want own call (Ends reply) n = tt
held_wants plan want own call Spends n = tt
held_wants plan want own call Refuses n = tt

-- What comes leaves the free rows of the seat.
pub after_free : (own : SeatNow) (call : Call) (next : Fate) → (seat_after own call next).free ≡ own.free
after_free own call (On step) = refl
after_free own call (Ends reply) = refl
after_free own call Spends = refl
after_free own call Refuses = refl

-- It leaves the rows that were kept back.
pub after_kept : (own : SeatNow) (call : Call) (next : Fate) → (seat_after own call next).kept ≡ own.kept
after_kept own call (On step) = refl
after_kept own call (Ends reply) = refl
after_kept own call Spends = refl
after_kept own call Refuses = refl

-- It leaves the time of the seat.
pub after_time : (own : SeatNow) (call : Call) (next : Fate) → (seat_after own call next).time ≡ own.time
after_time own call (On step) = refl
after_time own call (Ends reply) = refl
after_time own call Spends = refl
after_time own call Refuses = refl

-- It leaves the scan of the seat.
pub after_own_scan : (own : SeatNow) (call : Call) (next : Fate) → (seat_after own call next).scan ≡ own.scan
after_own_scan own call (On step) = refl
after_own_scan own call (Ends reply) = refl
after_own_scan own call Spends = refl
after_own_scan own call Refuses = refl

-- A step of a scan leaves the time of the seat.
pub scanned_time : (now : SeatNow) (f : ScanFate) → (scanned now f).time ≡ now.time
scanned_time now (ScansOn scan) = refl
scanned_time now (Scanned left held) = refl

-- ---- a scan leaves each row as often as it was

-- Where the scan goes past a seat.
pub past_times : (plan : Plan) (p k : ℕ) (left held : List ℕ) (r : ℕ) →
    fate_times r (seats_from plan p k left held) ≡ many (is_row r) left + many (is_row r) held
past_times plan p k left held r = go (nat_lt (cond (k == p) (k + 1) k) (holders_of plan.settings))
  where
    go : (b : Bool) → fate_times r (cond b (ScansOn (S.Seats (cond (k == p) (k + 1) k) left held)) (Scanned left held))
        ≡ many (is_row r) left + many (is_row r) held
    go true = refl
    go false = refl

-- Where it goes past a hold word.
word_times : (plan : Plan) (p k : ℕ) (left held : List ℕ) (word r : ℕ) →
    fate_times r (past_hold plan p k left held word) ≡ many (is_row r) left + many (is_row r) held
word_times plan p k left held word r = go (word == 0)
  where
    go : (b : Bool) → fate_times r (cond b (seats_from plan p (k + 1) left held)
        (seats_from plan p (k + 1) (without (held_row word) left) (held ++ alone (held_row word) left)))
        ≡ many (is_row r) left + many (is_row r) held
    go true = past_times plan p (k + 1) left held r
    go false =
        let all = past_times plan p (k + 1) (without (held_row word) left) (held ++ alone (held_row word) left) r in
        let two = both r held (alone (held_row word) left) in
        let parts = parted (held_row word) r left in
        omega (arith, all, two, parts)

-- Each step of a scan leaves every row as often in its two lists as it was.
pub scan_times : (plan : Plan) (p : ℕ) (scan : Scan) (word r : ℕ) →
    fate_times r (scan_fate plan p scan word)
    ≡ many (is_row r) (left_of (Some scan)) + many (is_row r) (held_of (Some scan))
scan_times plan p (S.Seats k left held) word r = go (is_asking word)
  where
    go : (b : Bool) → fate_times r (cond b (ScansOn (S.Sees k (time_in word) left held))
        (past_hold plan p k left held word)) ≡ many (is_row r) left + many (is_row r) held
    go true = refl
    go false = word_times plan p k left held word r
scan_times plan p (S.Sees k t left held) word r = refl
scan_times plan p (S.Loads k t bucket left held) word r = refl
scan_times plan p (S.Gives k t row left held) word r = go (is_asking word)
  where
    go : (b : Bool) → fate_times r (cond b (seats_from plan p (k + 1) left held) (past_hold plan p k left held word))
        ≡ many (is_row r) left + many (is_row r) held
    go true = past_times plan p (k + 1) left held r
    go false = word_times plan p k left held word r

-- The lists of the seat after a step of a scan.
pub leads_scanned : (own : SeatNow) (call : Call) (f : ScanFate) (next : Fate) →
    LeadsTo own.free own.kept f (seat_after (scanned own f) call next).free (seat_after (scanned own f) call next).kept
    (seat_after (scanned own f) call next).scan
leads_scanned own call (ScansOn scan) next = (
  after_free (scanned own (ScansOn scan)) call next,
  after_kept (scanned own (ScansOn scan)) call next,
  after_own_scan (scanned own (ScansOn scan)) call next,
)
leads_scanned own call (Scanned left held) next = (
  after_free (scanned own (Scanned left held)) call next,
  after_kept (scanned own (Scanned left held)) call next,
  after_own_scan (scanned own (Scanned left held)) call next,
)
