-- Which words a step changes, and which step comes after it.
use Rattle.std.proofs.Common.{◌≡◌, ℕ, ◌+◌, ◌-◌, ◌≤◌, Bool, true, false, cond, List, [], length, Option, Some, None, refl, arith}
use Rattle.std.specs.Prelude.{◌==◌, nat_lt}
use Rattle.std.proofs.lemmas.Bool.{cond_both}
use Rattle.plain_map.specs.declared.calls.Call.{Call}
use Rattle.plain_map.specs.declared.calls.Reply.{Reply}
use Rattle.word_rows.specs.ReplyWords.{reply_of_word}
use Rattle.bucket_states.specs.Items.{reply_in}
use Rattle.exchange_model.specs.Plans.{Plan, rules_of, more}
use Rattle.exchange_model.specs.Codes.{SLOT_WORDS, ENTRY_WORDS, Entry, is_spent, row_of_words, length_by, number_in, count_in, entries_in, entries_start}
use Rattle.exchange_model.specs.Words as W
use Rattle.exchange_model.specs.Words.{held_at, with_word}
use Rattle.exchange_model.specs.Steps as S
use Rattle.exchange_model.specs.Steps.{Step, Found, Keeps, Takes, NoOp, SeatNow, Try, Ending, Deed, Scan, Aim, Glance, deed_of, glance_deed, scan_deed, bucket_of_call, new_words, SOLO_TRIES, ALL_TRIES}
use Rattle.exchange_model.specs.Goes.{Fate, On, Ends, Spends, Refuses, ends_with, gives_up, gives_back, ended, lost, looked, unless_spent, is_quiet, by_entry, with_own, own_op, share_of, found_alone, found_so_far, after_entry, is_announced, is_here, entry_for, entry_word, next_entry, op_in, fate}
use Rattle.exchange_model.specs.Worlds.{store_after}
use Rattle.exchange_laws.proofs.Owned.{needs_at, IsScan}

-- ---- the next step

-- what comes needs so many free rows at most, is no scan, and is not refused
abbrev pub Needs : (most : ℕ) → Fate → Type 0
Needs most (On step) = (IsScan step → ⊥) × (needs_at step ≤ most)
Needs most (Ends reply) = Unit {0}
Needs most Spends = Unit {0}
Needs most Refuses = ⊥

either : (most : ℕ) (a b : Fate) (c : Bool) → Needs most a → Needs most b → Needs most (cond c a b)
either most a b true na nb = na
either most a b false na nb = nb

either_on : (most : ℕ) (a b : Step) (c : Bool) → Needs most (On a) → Needs most (On b) → Needs most (On (cond c a b))
either_on most a b true na nb = na
either_on most a b false na nb = nb

pub replied : (most : ℕ) (announced : Bool) (reply : Option Reply) → Needs most (ends_with announced reply)
replied most true None = (λ s. s, omega arith)
replied most false None = (λ s. s, omega arith)
replied most true (Some reply) = (λ s. s, omega arith)
replied most false (Some reply) = tt

pub lost_needs : (turn : ℕ) → Needs 1 (lost turn)
lost_needs turn =
    either 1 (On S.RaisePending) (cond (turn == ALL_TRIES) (On S.StoreWant) (On (S.LoadWord (turn + 1))))
    (turn == SOLO_TRIES) (λ s. s, omega arith)
    (either 1 (On S.StoreWant) (On (S.LoadWord (turn + 1))) (turn == ALL_TRIES) (λ s. s, omega arith)
    (λ s. s, omega arith))

found_needs : (plan : Plan) (seat : ℕ) (now : SeatNow) (call : Call) (attempt : Try) (found : List Found) →
    Needs 1 (found_so_far plan seat now call attempt found)
found_needs plan seat now call attempt found =
    let all = with_own seat now call attempt.turn found in
    either_on 1 (S.LoadAnnounced attempt all) (S.StoreRow attempt all 0) (nat_lt (length all) plan.settings.seats)
    (λ s. s, omega arith) (λ s. s, omega arith)

pub given_up : (most : ℕ) (announced : Bool) → Needs most (gives_up announced)
given_up most true = (λ s. s, omega arith)
given_up most false = tt

given_back : (most : ℕ) (reply : Option Reply) → Needs most (gives_back reply)
given_back most None = (λ s. s, omega arith)
given_back most (Some reply) = (λ s. s, omega arith)

ended_needs : (most : ℕ) (ending : Ending) → Needs most (ended ending)
ended_needs most (S.Applied reply) = tt
ended_needs most S.GivenUp = tt

unless_needs : (plan : Plan) (attempt : Try) → Needs 1 (unless_spent plan attempt)
unless_needs plan attempt =
    either 1 (gives_up (is_announced attempt.turn)) (On (S.LoadPending attempt)) (is_spent plan attempt.word)
    (given_up 1 (is_announced attempt.turn)) (λ s. s, omega arith)

entry_needs : (plan : Plan) (attempt : Try) (entry : Option Entry) → Needs 1 (by_entry plan attempt entry)
entry_needs plan attempt None = unless_needs plan attempt
entry_needs plan attempt (Some entry) = replied 1 true entry.reply

other_needs : (plan : Plan) (seat : ℕ) (now : SeatNow) (call : Call) (attempt : Try) (found : List Found)
    (announced : ℕ) (entry : Option Entry) → Needs 1 (after_entry plan seat now call attempt found announced entry)
other_needs plan seat now call attempt found announced None = (λ s. s, omega arith)
other_needs plan seat now call attempt found announced (Some entry) =
    found_needs plan seat now call attempt (more found (Keeps entry))

next_needs : (row at left : ℕ) → Needs 0 (next_entry row at left)
next_needs row at left =
    either_on 0 (S.HeldEntry row at left) S.Stuck (nat_lt 0 left) (λ s. s, omega arith) (λ s. s, omega arith)

-- neither a step of a scan nor an exchange
abbrev pub IsPlain : Step → Type 0
IsPlain S.Scans = ⊥
IsPlain (S.Exchange attempt found) = ⊥
IsPlain step = Unit {0}

-- each such step leads to one that needs no more
pub plain_needs : (plan : Plan) (seat : ℕ) (now : SeatNow) (call : Call) (step : Step) (word : ℕ) → IsPlain step →
    Needs (needs_at step) (fate plan seat now call step word)
plain_needs plan seat now call S.Scans word o = absurd o
plain_needs plan seat now call (S.LoadWord turn) word o = (λ s. s, omega arith)
plain_needs plan seat now call (S.LoadRow turn old words) word o =
    either_on 1 (S.LoadRow turn old (more words word)) (S.CheckWord turn old (more words word))
    (nat_lt (length words + 1) (length_by plan (more words word))) (λ s. s, omega arith) (λ s. s, omega arith)
plain_needs plan seat now call (S.CheckWord turn old words) word o =
    let attempt : Try = record { turn = turn; word = old; row = row_of_words plan words } in
    let quiet = is_quiet (rules_of plan) attempt.row.items call in
    let answer = reply_in (rules_of plan) attempt.row.items call in
    either 1 (looked plan seat now call attempt) (lost turn) (word == old)
    (either 1 (by_entry plan attempt (entry_for seat now.posted attempt.row.entries))
    (cond quiet (Ends answer) (unless_spent plan attempt)) (is_announced turn)
    (entry_needs plan attempt (entry_for seat now.posted attempt.row.entries))
    (either 1 (Ends answer) (unless_spent plan attempt) quiet tt (unless_needs plan attempt)))
    (lost_needs turn)
plain_needs plan seat now call (S.LoadPending attempt) word o =
    let found = found_alone seat (own_op now.posted attempt.turn call) plan.settings.seats [] in
    either 1 (On (S.StoreRow attempt found 0)) (found_so_far plan seat now call attempt [])
    (word == share_of (is_announced attempt.turn)) (λ s. s, omega arith) (found_needs plan seat now call attempt [])
plain_needs plan seat now call (S.LoadAnnounced attempt found) word o =
    let entry = entry_for (length found) (number_in word) attempt.row.entries in
    either 1 (after_entry plan seat now call attempt found word entry)
    (found_so_far plan seat now call attempt (more found NoOp)) (is_here plan (bucket_of_call plan call) word)
    (other_needs plan seat now call attempt found word entry)
    (found_needs plan seat now call attempt (more found NoOp))
plain_needs plan seat now call (S.LoadOp attempt found announced words) word o =
    either 1 (On (S.LoadOp attempt found announced (more words word)))
    (found_so_far plan seat now call attempt (more found (Takes (op_in announced (more words word)))))
    (nat_lt (length words + 1) SLOT_WORDS) (λ s. s, omega arith)
    (found_needs plan seat now call attempt (more found (Takes (op_in announced (more words word)))))
plain_needs plan seat now call (S.StoreRow attempt found i) word o =
    either_on 1 (S.StoreRow attempt found (i + 1)) (S.Exchange attempt found)
    (nat_lt (i + 1) (length (new_words plan attempt found))) (λ s. s, omega arith) (λ s. s, omega arith)
plain_needs plan seat now call (S.Exchange attempt found) word o = absurd o
plain_needs plan seat now call S.RaisePending word o = (λ s. s, omega arith)
plain_needs plan seat now call (S.StoreOp i) word o =
    either_on 1 (S.StoreOp (i + 1)) S.Announce (nat_lt (i + 1) SLOT_WORDS) (λ s. s, omega arith) (λ s. s, omega arith)
plain_needs plan seat now call S.Announce word o = (λ s. s, omega arith)
plain_needs plan seat now call S.StoreWant word o = (λ s. s, omega arith)
plain_needs plan seat now call S.StoreAsking word o = (λ s. s, omega arith)
plain_needs plan seat now call S.HeldWord word o = (λ s. s, omega arith)
plain_needs plan seat now call (S.TakeHold old) word o = (λ s. s, omega arith)
plain_needs plan seat now call (S.HeldHead row) word o =
    next_needs row (entries_start (count_in plan word)) (entries_in plan word)
plain_needs plan seat now call (S.HeldEntry row at left) word o =
    either 0 (On (S.HeldReply row (at + 1))) (next_entry row (at + ENTRY_WORDS) (left - 1))
    (word == entry_word seat now.posted) (λ s. s, omega arith) (next_needs row (at + ENTRY_WORDS) (left - 1))
plain_needs plan seat now call (S.HeldReply row at) word o = given_back 0 (reply_of_word word)
plain_needs plan seat now call (S.GiveBack reply) word o = (λ s. s, omega arith)
plain_needs plan seat now call (S.Over ending) word o = (λ s. s, omega arith)
plain_needs plan seat now call (S.LowerPending ending) word o = ended_needs 0 ending
plain_needs plan seat now call S.Stuck word o = (λ s. s, omega arith)

-- ---- the words that it changes

-- neither bucket words nor rows are other ones then
abbrev pub Same : W.Store → W.Store → Type 0
Same was now = (now.bucket ≡ was.bucket) × (now.row ≡ was.row)

-- no bucket word and no word of a row
abbrev pub IsApart : W.At → Type 0
IsApart (W.Bucket b) = ⊥
IsApart (W.RowWord row i) = ⊥
IsApart at = Unit {0}

-- it is no step on a bucket word or a row but a load
abbrev pub IsQuiet : Deed → Type 0
IsQuiet S.Nothing = Unit {0}
IsQuiet (S.Load from) = Unit {0}
IsQuiet (S.Store to word) = IsApart to
IsQuiet (S.Swap at old new) = IsApart at
IsQuiet (S.Raise at) = IsApart at
IsQuiet (S.Lower at) = IsApart at

quiet_store : (at : W.At) (store : W.Store) (word : ℕ) → IsApart at → Same store (with_word store at word)
quiet_store W.Pending store word q = (refl, refl)
quiet_store (W.Announced seat) store word q = (refl, refl)
quiet_store (W.Want seat) store word q = (refl, refl)
quiet_store (W.Hold seat) store word q = (refl, refl)
quiet_store (W.OpWord seat i) store word q = (refl, refl)
quiet_store (W.Bucket b) store word q = absurd q
quiet_store (W.RowWord row i) store word q = absurd q

pub quiet_words : (deed : Deed) (store : W.Store) → IsQuiet deed → Same store (store_after deed store)
quiet_words S.Nothing store q = (refl, refl)
quiet_words (S.Load from) store q = (refl, refl)
quiet_words (S.Store to word) store q = quiet_store to store word q
quiet_words (S.Swap at old new) store q =
    cond_both (held_at store at == old) (with_word store at new) store
    (λ (s : W.Store). Same store s) (λ e. quiet_store at store new q) (λ e. (refl, refl))
quiet_words (S.Raise at) store q = quiet_store at store (held_at store at + 1) q
quiet_words (S.Lower at) store q = quiet_store at store (held_at store at - 1) q

pub quiet_scan : (plan : Plan) (scan : Option Scan) → IsQuiet (scan_deed plan scan)
quiet_scan plan None = tt
quiet_scan plan (Some (S.Seats k left held)) = tt
quiet_scan plan (Some (S.Sees k t left held)) = tt
quiet_scan plan (Some (S.Loads k t bucket left held)) = tt
quiet_scan plan (Some (S.Gives k t row left held)) = tt

-- every step but that of a new row, and the exchange
abbrev pub IsStill : Step → Type 0
IsStill (S.StoreRow attempt found i) = ⊥
IsStill (S.Exchange attempt found) = ⊥
IsStill step = Unit {0}

pub quiet_step : (plan : Plan) (seat : ℕ) (now : SeatNow) (call : Call) (step : Step) → IsStill step →
    IsQuiet (deed_of plan seat now call step)
quiet_step plan seat now call S.Scans n = quiet_scan plan now.scan
quiet_step plan seat now call (S.LoadWord turn) n = tt
quiet_step plan seat now call (S.LoadRow turn word words) n = tt
quiet_step plan seat now call (S.CheckWord turn word words) n = tt
quiet_step plan seat now call (S.LoadPending attempt) n = tt
quiet_step plan seat now call (S.LoadAnnounced attempt found) n = tt
quiet_step plan seat now call (S.LoadOp attempt found announced words) n = tt
quiet_step plan seat now call (S.StoreRow attempt found i) n = absurd n
quiet_step plan seat now call (S.Exchange attempt found) n = absurd n
quiet_step plan seat now call S.RaisePending n = tt
quiet_step plan seat now call (S.StoreOp i) n = tt
quiet_step plan seat now call S.Announce n = tt
quiet_step plan seat now call S.StoreWant n = tt
quiet_step plan seat now call S.StoreAsking n = tt
quiet_step plan seat now call S.HeldWord n = tt
quiet_step plan seat now call (S.TakeHold word) n = tt
quiet_step plan seat now call (S.HeldHead row) n = tt
quiet_step plan seat now call (S.HeldEntry row at left) n = tt
quiet_step plan seat now call (S.HeldReply row at) n = tt
quiet_step plan seat now call (S.GiveBack reply) n = tt
quiet_step plan seat now call (S.Over ending) n = tt
quiet_step plan seat now call (S.LowerPending ending) n = tt
quiet_step plan seat now call S.Stuck n = tt

pub quiet_glance : (plan : Plan) (seat time : ℕ) (aim : Aim) (glance : Glance) →
    IsQuiet (glance_deed plan seat time aim glance)
quiet_glance plan seat time aim (S.GlanceWord left) = tt
quiet_glance plan seat time aim (S.GlanceCount source) = tt
quiet_glance plan seat time aim (S.GlanceItem source pass) = tt
quiet_glance plan seat time aim (S.GlanceCheck left word kept) = tt
quiet_glance plan seat time aim S.GlanceWant = tt
quiet_glance plan seat time aim S.GlanceAsking = tt
quiet_glance plan seat time aim S.GlanceHeld = tt
quiet_glance plan seat time aim (S.GlanceTake word) = tt
quiet_glance plan seat time aim (S.GlanceBack kept) = tt
