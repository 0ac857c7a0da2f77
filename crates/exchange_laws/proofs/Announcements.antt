-- An announcement tells where its seat stands: the op that is announced, by number and class, or that the last one is
-- over. While it is announced, the words of the op are those of the call.
use Rattle.std.proofs.Common.{◌≡◌, ◌≢◌, ◌⊎◌, ℕ, zero, suc, ◌+◌, ◌-◌, ◌<◌, ◌≤◌, inl, inr, Bool, true, false, cond, List, [], ◌∷◌, ◌++◌, length, Option, Some, None, refl, sym, ap, ◌∙◌, subst, arith, lt-ltb, get_or-set_same, get_or-set_other}
use Rattle.std.specs.Prelude.{◌==◌, nat_lt, fold, slice_index}
use Rattle.std.proofs.lemmas.Bool.{cases_eq, cases_lt, cond_both, ne_eqb, ltb-true, ltb-false, le-ltb}
use Rattle.plain_map.specs.declared.calls.Call.{Call}
use Rattle.plain_map.specs.declared.calls.Call.TheVariants.{Insert, Remove, Lookup, Tally, Count, Put}
use Rattle.plain_map.specs.declared.calls.Reply.{Reply}
use Rattle.word_rows.specs.OpWords.{words_of_call}
use Rattle.bucket_states.specs.Items.{reply_in}
use Rattle.word_rows.proofs.MemoryLemmas.{put_same, put_other, put_at_same, put_at_row, put_at_place}
use Rattle.exchange_model.specs.Plans.{Plan, IsPlan, rules_of, holders_of, more}
use Rattle.exchange_model.specs.Codes.{SLOT_WORDS, ENTRY_WORDS, Entry, is_spent, row_in, row_of_words, length_by, count_in, entries_in, entries_start, number_in, announcing, over}
use Rattle.exchange_model.specs.Words as W
use Rattle.exchange_model.specs.Words.{held_at, with_word}
use Rattle.exchange_model.specs.Steps as S
use Rattle.exchange_model.specs.Steps.{MadeBySeat, Step, Stand, Scan, SeatNow, Found, NoOp, Keeps, Takes, Try, Ending, Deed, Aim, OfKey, OfBucket, Glance, deed_of, glance_deed, scan_deed, bucket_of_call, new_words, SOLO_TRIES, ALL_TRIES}
use Rattle.exchange_model.specs.Goes.{ScanFate, ScansOn, Scanned, scan_fate_of, scanned, scan_begins, seats_from, Fate, On, Ends, Spends, Refuses, with_free, first_fate, after_scan, is_announced, lost, ends_with, gives_up, gives_back, ended, unless_spent, is_quiet, share_of, own_op, found_alone, with_own, found_so_far, by_entry, looked, is_here, entry_for, entry_word, after_entry, op_in, reply_for, next_entry, fate, exchanged, own_after, GlanceFate, Looks, Shows, Disturbed, glance_fate}
use Rattle.exchange_model.specs.Worlds.{World, Answer, Event, OfSeat, OfReader, IsEvent, AreEvents, What, Begin, Copy, Step_on, Fits, IsFlying, seat_in, with_seat, ticked, found_by, store_after, seat_after, goes, glances, look_after, course_from, stand_at, update_begins, look_begins, call_begins, goes_on, act, happens, nobody, opening_world, opening_store, Peek, Open, Peek_on, peeks_on}
use Rattle.exchange_laws.proofs.Owned.{Owned}
use Rattle.exchange_laws.proofs.OwnedEvents.{event_keeps}
use Rattle.exchange_laws.proofs.OwnedRuns.{seat_is}

-- ---- what is said

-- the announcement of a seat that has none, after so many that are over
abbrev pub at_rest : (posted : ℕ) → ℕ
at_rest zero = 0
at_rest (suc posted) = over posted

-- so many words of the op are those of this call
abbrev pub HasOp : (op : ℕ → ℕ) → (stored : ℕ) → Call → Type 0
HasOp op stored call = (i : ℕ) → i < stored → op i ≡ slice_index (words_of_call call) i

-- the call is announced, or not yet
abbrev pub Tells : (announced : Bool) → (word : ℕ) (op : ℕ → ℕ) (posted class : ℕ) → Call → Type 0
Tells true word op posted class call = (word ≡ announcing posted class) × HasOp op SLOT_WORDS call
Tells false word op posted class call = word ≡ at_rest posted

abbrev pub TellsStep : (word : ℕ) (op : ℕ → ℕ) (posted class : ℕ) → Call → Step → Type 0
TellsStep word op posted class call S.Scans = Tells false word op posted class call
TellsStep word op posted class call (S.LoadWord turn) = Tells (is_announced turn) word op posted class call
TellsStep word op posted class call (S.LoadRow turn old words) = Tells (is_announced turn) word op posted class call
TellsStep word op posted class call (S.CheckWord turn old words) = Tells (is_announced turn) word op posted class call
TellsStep word op posted class call (S.LoadPending t) = Tells (is_announced t.turn) word op posted class call
TellsStep word op posted class call (S.LoadAnnounced t found) = Tells (is_announced t.turn) word op posted class call
TellsStep word op posted class call (S.LoadOp t found a words) = Tells (is_announced t.turn) word op posted class call
TellsStep word op posted class call (S.StoreRow t found i) = Tells (is_announced t.turn) word op posted class call
TellsStep word op posted class call (S.Exchange t found) = Tells (is_announced t.turn) word op posted class call
TellsStep word op posted class call S.RaisePending = Tells false word op posted class call
TellsStep word op posted class call (S.LowerPending ending) = Tells false word op posted class call
TellsStep word op posted class call (S.StoreOp i) =
    Tells false word op posted class call × HasOp op i call × (i < SLOT_WORDS)
TellsStep word op posted class call S.Announce = Tells false word op posted class call × HasOp op SLOT_WORDS call
TellsStep word op posted class call S.Stuck =
    Tells false word op posted class call ⊎ Tells true word op posted class call
TellsStep word op posted class call step = Tells true word op posted class call

abbrev pub TellsAt : Plan → (word : ℕ) (op : ℕ → ℕ) (posted : ℕ) → Stand → Type 0
TellsAt plan word op posted S.Idle = word ≡ at_rest posted
TellsAt plan word op posted (S.Goes call step) = TellsStep word op posted (bucket_of_call plan call) call step
TellsAt plan word op posted (S.Glances aim glance) = word ≡ at_rest posted

abbrev pub TellsFate : (word : ℕ) (op : ℕ → ℕ) (posted class : ℕ) → Call → Fate → Type 0
TellsFate word op posted class call (On step) = TellsStep word op posted class call step
TellsFate word op posted class call (Ends reply) = word ≡ at_rest posted
TellsFate word op posted class call Spends = word ≡ at_rest posted
TellsFate word op posted class call Refuses = word ≡ at_rest posted

-- of each seat
pub record Announces (plan : Plan) (x : World) : Type 0 where
  pub each : (q : ℕ) → q < holders_of plan.settings →
      TellsAt plan (x.store.announced q) (x.store.op q) (seat_in x q).posted (seat_in x q).stand

-- ---- where a step leads

module _ (plan : Plan) (word : ℕ) (op : ℕ → ℕ) (posted class : ℕ) (call : Call) where
  abbrev T : Fate → Type 0
  T f = TellsFate word op posted class call f

  abbrev Said : Bool → Type 0
  Said c = Tells c word op posted class call

  either : (f g : Fate) (c : Bool) → T f → T g → T (cond c f g)
  either f g true l r = l
  either f g false l r = r

  either_on : (f g : Step) (c : Bool) → T (On f) → T (On g) → T (On (cond c f g))
  either_on f g true l r = l
  either_on f g false l r = r

  ends : (announced : Bool) (reply : Option Reply) → Said announced → T (ends_with announced reply)
  ends true None s = inr s
  ends false None s = inl s
  ends true (Some reply) s = s
  ends false (Some reply) s = s

  free_on : (free : List ℕ) → Said false → T (with_free free)
  free_on [] s = s
  free_on (row ∷ free) s = s

  -- a try is lost: the turn after it is announced as it was, but for the last one that is not
  next_turn : (turn : ℕ) → turn ≢ SOLO_TRIES → is_announced (turn + 1) ≡ is_announced turn
  next_turn turn other = elim (cases_lt SOLO_TRIES turn) [
    | inl late ↦ lt-ltb SOLO_TRIES (turn + 1) (omega (arith, late)) ∙ sym (lt-ltb SOLO_TRIES turn late)
    | inr early ↦
        le-ltb SOLO_TRIES (turn + 1) (below turn other early) ∙ sym (le-ltb SOLO_TRIES turn early)
  ]
    where
      below : (t : ℕ) → t ≢ 1 → t ≤ 1 → t + 1 ≤ 1
      below t n l = elim (cases_lt t 1) [ inl k ↦ omega (arith, k) | inr g ↦ absurd (n (omega (arith, g, l))) ]

  loses : (turn : ℕ) → Said (is_announced turn) → T (lost turn)
  loses turn s = elim (cases_eq turn SOLO_TRIES) [
    | inl e ↦ subst (λ k. Said (is_announced k) → T (lost k)) (sym e)
        (λ (z : word ≡ at_rest posted). z) s
    | inr n ↦ subst (λ (c : Bool). T (cond c (On S.RaisePending)
        (cond (turn == ALL_TRIES) (On S.StoreWant) (On (S.LoadWord (turn + 1))))))
        (sym (ne_eqb turn SOLO_TRIES n)) (later n)
  ]
    where
      later : turn ≢ SOLO_TRIES → T (cond (turn == ALL_TRIES) (On S.StoreWant) (On (S.LoadWord (turn + 1))))
      later n = elim (cases_eq turn ALL_TRIES) [
        | inl e ↦ either (On S.StoreWant) (On (S.LoadWord (turn + 1))) (turn == ALL_TRIES)
            (subst (λ k. Said (is_announced k)) e s) (subst Said (sym (next_turn turn n)) s)
        | inr m ↦ subst (λ (c : Bool). T (cond c (On S.StoreWant) (On (S.LoadWord (turn + 1)))))
            (sym (ne_eqb turn ALL_TRIES m)) (subst Said (sym (next_turn turn n)) s)
      ]

  to_ops : (seat : ℕ) (now : SeatNow) (t : Try) (found : List Found) → Said (is_announced t.turn) →
      T (found_so_far plan seat now call t found)
  to_ops seat now t found s =
      let all = with_own seat now call t.turn found in
      either_on (S.LoadAnnounced t all) (S.StoreRow t all 0) (nat_lt (length all) plan.settings.seats) s s

  given_up : (announced : Bool) → Said announced → T (gives_up announced)
  given_up true s = s
  given_up false s = s

  given_back : (reply : Option Reply) → Said true → T (gives_back reply)
  given_back None s = inr s
  given_back (Some reply) s = s

  over_then : (ending : Ending) → Said false → T (ended ending)
  over_then (S.Applied reply) s = s
  over_then S.GivenUp s = s

  unless : (t : Try) → Said (is_announced t.turn) → T (unless_spent plan t)
  unless t s =
      either (gives_up (is_announced t.turn)) (On (S.LoadPending t)) (is_spent plan t.word)
      (given_up (is_announced t.turn) s) s

  by_entries : (t : Try) (entry : Option Entry) → is_announced t.turn ≡ true → Said (is_announced t.turn) →
      T (by_entry plan t entry)
  by_entries t None e s = unless t s
  by_entries t (Some entry) e s = ends true entry.reply (subst Said e s)

  looks : (seat : ℕ) (now : SeatNow) (t : Try) → Said (is_announced t.turn) → T (looked plan seat now call t)
  looks seat now t s =
      let quiet = is_quiet (rules_of plan) t.row.items call in
      let answer = reply_in (rules_of plan) t.row.items call in
      cond_both (is_announced t.turn) (by_entry plan t (entry_for seat now.posted t.row.entries))
      (cond quiet (Ends answer) (unless_spent plan t)) T
      (λ e. by_entries t (entry_for seat now.posted t.row.entries) e s)
      (λ e. either (Ends answer) (unless_spent plan t) quiet (subst Said e s) (unless t s))

  to_entry : (seat : ℕ) (now : SeatNow) (t : Try) (found : List Found) (announced : ℕ) (entry : Option Entry) →
      Said (is_announced t.turn) → T (after_entry plan seat now call t found announced entry)
  to_entry seat now t found announced None s = s
  to_entry seat now t found announced (Some entry) s = to_ops seat now t (more found (Keeps entry)) s

  entries_on : (row at left : ℕ) → Said true → T (next_entry row at left)
  entries_on row at left s = either_on (S.HeldEntry row at left) S.Stuck (nat_lt 0 left) s (inr s)

  -- steps that store nothing of it
  abbrev IsPlain : Step → Type 0
  IsPlain (S.StoreOp i) = ⊥
  IsPlain S.Announce = ⊥
  IsPlain (S.Over ending) = ⊥
  IsPlain S.Stuck = ⊥
  IsPlain step = Unit {0}

  pub fated : (seat : ℕ) (now : SeatNow) (step : Step) (found_word : ℕ) → IsPlain step →
      TellsStep word op posted class call step → T (fate plan seat now call step found_word)
  fated seat now S.Scans w p s = go (scan_fate_of plan seat now.scan w)
    where
      go : (f : ScanFate) → T (after_scan now.free f)
      go (ScansOn scan) = s
      go (Scanned left held) = free_on (now.free ++ left) s
  fated seat now (S.LoadWord turn) w p s = s
  fated seat now (S.LoadRow turn old words) w p s =
      either_on (S.LoadRow turn old (more words w)) (S.CheckWord turn old (more words w))
      (nat_lt (length words + 1) (length_by plan (more words w))) s s
  fated seat now (S.CheckWord turn old words) w p s =
      let t : Try = record { turn = turn; word = old; row = row_of_words plan words } in
      either (looked plan seat now call t) (lost turn) (w == old) (looks seat now t s) (loses turn s)
  fated seat now (S.LoadPending t) w p s =
      let found = found_alone seat (own_op now.posted t.turn call) plan.settings.seats [] in
      either (On (S.StoreRow t found 0)) (found_so_far plan seat now call t []) (w == share_of (is_announced t.turn)) s
      (to_ops seat now t [] s)
  fated seat now (S.LoadAnnounced t found) w p s =
      let entry = entry_for (length found) (number_in w) t.row.entries in
      either (after_entry plan seat now call t found w entry) (found_so_far plan seat now call t (more found NoOp))
      (is_here plan (bucket_of_call plan call) w) (to_entry seat now t found w entry s)
      (to_ops seat now t (more found NoOp) s)
  fated seat now (S.LoadOp t found announced words) w p s =
      let one = Takes (op_in announced (more words w)) in
      either (On (S.LoadOp t found announced (more words w))) (found_so_far plan seat now call t (more found one))
      (nat_lt (length words + 1) SLOT_WORDS) s (to_ops seat now t (more found one) s)
  fated seat now (S.StoreRow t found i) w p s =
      either_on (S.StoreRow t found (i + 1)) (S.Exchange t found) (nat_lt (i + 1) (length (new_words plan t found))) s s
  fated seat now (S.Exchange t found) w p s =
      either (ends_with (is_announced t.turn) (reply_for seat (S.made plan t found).made)) (lost t.turn) (w == t.word)
      (ends (is_announced t.turn) (reply_for seat (S.made plan t found).made) s) (loses t.turn s)
  fated seat now S.RaisePending w p s = (s, λ i less. absurd (omega (arith, less)), omega arith)
  fated seat now S.StoreWant w p s = s
  fated seat now S.StoreAsking w p s = s
  fated seat now S.HeldWord w p s = s
  fated seat now (S.TakeHold old) w p s = s
  fated seat now (S.HeldHead row) w p s = entries_on row (entries_start (count_in plan w)) (entries_in plan w) s
  fated seat now (S.HeldEntry row at left) w p s =
      either (On (S.HeldReply row (at + 1))) (next_entry row (at + ENTRY_WORDS) (left - 1))
      (w == entry_word seat now.posted) s (entries_on row (at + ENTRY_WORDS) (left - 1) s)
  fated seat now (S.HeldReply row at) w p s = given_back _ s
  fated seat now (S.GiveBack reply) w p s = s
  fated seat now (S.LowerPending ending) w p s = over_then ending s
  fated seat now (S.StoreOp i) w p s = absurd p
  fated seat now S.Announce w p s = absurd p
  fated seat now (S.Over ending) w p s = absurd p
  fated seat now S.Stuck w p s = absurd p

-- ---- the words that a step changes

-- neither announcements nor ops are other ones then
abbrev pub Same : W.Store → W.Store → Type 0
Same was now = (now.announced ≡ was.announced) × (now.op ≡ was.op)

-- no announcement, and no word of an op
abbrev pub IsElsewhere : W.At → Type 0
IsElsewhere (W.Announced seat) = ⊥
IsElsewhere (W.OpWord seat i) = ⊥
IsElsewhere at = Unit {0}

abbrev pub IsSilent : Deed → Type 0
IsSilent S.Nothing = Unit {0}
IsSilent (S.Load from) = Unit {0}
IsSilent (S.Store to word) = IsElsewhere to
IsSilent (S.Swap at old new) = IsElsewhere at
IsSilent (S.Raise at) = IsElsewhere at
IsSilent (S.Lower at) = IsElsewhere at

silent_store : (at : W.At) (store : W.Store) (word : ℕ) → IsElsewhere at → Same store (with_word store at word)
silent_store W.Pending store word q = (refl, refl)
silent_store (W.Announced seat) store word q = absurd q
silent_store (W.Want seat) store word q = (refl, refl)
silent_store (W.Hold seat) store word q = (refl, refl)
silent_store (W.OpWord seat i) store word q = absurd q
silent_store (W.Bucket b) store word q = (refl, refl)
silent_store (W.RowWord row i) store word q = (refl, refl)

pub silent_words : (deed : Deed) (store : W.Store) → IsSilent deed → Same store (store_after deed store)
silent_words S.Nothing store q = (refl, refl)
silent_words (S.Load from) store q = (refl, refl)
silent_words (S.Store to word) store q = silent_store to store word q
silent_words (S.Swap at old new) store q =
    cond_both (held_at store at == old) (with_word store at new) store (λ (s : W.Store). Same store s)
    (λ e. silent_store at store new q) (λ e. (refl, refl))
silent_words (S.Raise at) store q = silent_store at store (held_at store at + 1) q
silent_words (S.Lower at) store q = silent_store at store (held_at store at - 1) q

silent_scan : (plan : Plan) (scan : Option Scan) → IsSilent (scan_deed plan scan)
silent_scan plan None = tt
silent_scan plan (Some (S.Seats k left held)) = tt
silent_scan plan (Some (S.Sees k t left held)) = tt
silent_scan plan (Some (S.Loads k t bucket left held)) = tt
silent_scan plan (Some (S.Gives k t row left held)) = tt

-- every step but those of the op and of the announcement
abbrev pub IsOther : Step → Type 0
IsOther (S.StoreOp i) = ⊥
IsOther S.Announce = ⊥
IsOther (S.Over ending) = ⊥
IsOther step = Unit {0}

pub silent_step : (plan : Plan) (seat : ℕ) (now : SeatNow) (call : Call) (step : Step) → IsOther step →
    IsSilent (deed_of plan seat now call step)
silent_step plan seat now call S.Scans n = silent_scan plan now.scan
silent_step plan seat now call (S.LoadWord turn) n = tt
silent_step plan seat now call (S.LoadRow turn word words) n = tt
silent_step plan seat now call (S.CheckWord turn word words) n = tt
silent_step plan seat now call (S.LoadPending t) n = tt
silent_step plan seat now call (S.LoadAnnounced t found) n = tt
silent_step plan seat now call (S.LoadOp t found announced words) n = tt
silent_step plan seat now call (S.StoreRow t found i) n = tt
silent_step plan seat now call (S.Exchange t found) n = tt
silent_step plan seat now call S.RaisePending n = tt
silent_step plan seat now call (S.StoreOp i) n = absurd n
silent_step plan seat now call S.Announce n = absurd n
silent_step plan seat now call S.StoreWant n = tt
silent_step plan seat now call S.StoreAsking n = tt
silent_step plan seat now call S.HeldWord n = tt
silent_step plan seat now call (S.TakeHold word) n = tt
silent_step plan seat now call (S.HeldHead row) n = tt
silent_step plan seat now call (S.HeldEntry row at left) n = tt
silent_step plan seat now call (S.HeldReply row at) n = tt
silent_step plan seat now call (S.GiveBack reply) n = tt
silent_step plan seat now call (S.Over ending) n = absurd n
silent_step plan seat now call (S.LowerPending ending) n = tt
silent_step plan seat now call S.Stuck n = tt

pub silent_glance : (plan : Plan) (seat time : ℕ) (aim : Aim) (glance : Glance) →
    IsSilent (glance_deed plan seat time aim glance)
silent_glance plan seat time aim (S.GlanceWord left) = tt
silent_glance plan seat time aim (S.GlanceCount source) = tt
silent_glance plan seat time aim (S.GlanceItem source pass) = tt
silent_glance plan seat time aim (S.GlanceCheck left word kept) = tt
silent_glance plan seat time aim S.GlanceWant = tt
silent_glance plan seat time aim S.GlanceAsking = tt
silent_glance plan seat time aim S.GlanceHeld = tt
silent_glance plan seat time aim (S.GlanceTake word) = tt
silent_glance plan seat time aim (S.GlanceBack kept) = tt

-- so many announcements are over as before
pub own_posted : (plan : Plan) (seat : ℕ) (now : SeatNow) (call : Call) (step : Step) (word : ℕ) → IsOther step →
    (own_after plan seat now call step word).posted ≡ now.posted
own_posted plan seat now call S.Scans word n = go (scan_fate_of plan seat now.scan word)
  where
    go : (f : ScanFate) → (scanned now f).posted ≡ now.posted
    go (ScansOn scan) = refl
    go (Scanned left held) = refl
own_posted plan seat now call (S.Exchange t found) word n = go (word == t.word)
  where
    go : (c : Bool) → (cond c (exchanged now (row_in plan t.word)) now).posted ≡ now.posted
    go true = refl
    go false = refl
own_posted plan seat now call (S.LoadWord turn) word n = refl
own_posted plan seat now call (S.LoadRow turn old words) word n = refl
own_posted plan seat now call (S.CheckWord turn old words) word n = refl
own_posted plan seat now call (S.LoadPending t) word n = refl
own_posted plan seat now call (S.LoadAnnounced t found) word n = refl
own_posted plan seat now call (S.LoadOp t found announced words) word n = refl
own_posted plan seat now call (S.StoreRow t found i) word n = refl
own_posted plan seat now call S.RaisePending word n = refl
own_posted plan seat now call (S.StoreOp i) word n = refl
own_posted plan seat now call S.Announce word n = refl
own_posted plan seat now call S.StoreWant word n = refl
own_posted plan seat now call S.StoreAsking word n = refl
own_posted plan seat now call S.HeldWord word n = refl
own_posted plan seat now call (S.TakeHold old) word n = refl
own_posted plan seat now call (S.HeldHead row) word n = refl
own_posted plan seat now call (S.HeldEntry row at left) word n = refl
own_posted plan seat now call (S.HeldReply row at) word n = refl
own_posted plan seat now call (S.GiveBack reply) word n = refl
own_posted plan seat now call (S.Over ending) word n = absurd n
own_posted plan seat now call (S.LowerPending ending) word n = refl
own_posted plan seat now call S.Stuck word n = refl

-- a seat that was answered stands between two calls
after_told : (plan : Plan) (word : ℕ) (op : ℕ → ℕ) (own : SeatNow) (call : Call) (f : Fate) →
    TellsFate word op own.posted (bucket_of_call plan call) call f →
    TellsAt plan word op (seat_after own call f).posted (seat_after own call f).stand
after_told plan word op own call (On step) s = s
after_told plan word op own call (Ends reply) s = s
after_told plan word op own call Spends s = s
after_told plan word op own call Refuses s = s

-- ---- events

module _ (plan : Plan) (x : World) (h : Owned plan x) (all : Announces plan x) (p : ℕ)
    (inside : p < holders_of plan.settings) where
  abbrev now : SeatNow
  now = seat_in x p

  next : (store : W.Store) (then : SeatNow) (answers : List Answer) (updates : List MadeBySeat) →
      TellsAt plan (store.announced p) (store.op p) then.posted then.stand →
      ((q : ℕ) → q ≢ p → (store.announced q ≡ x.store.announced q) × (store.op q ≡ x.store.op q)) →
      Announces plan (ticked (with_seat x p store then answers updates))
  next store then answers updates here others = record {
    each = λ q less. elim (cases_eq q p) [
      | inl e ↦ subst (λ i. TellsAt plan (store.announced i) (store.op i) (seat_in y i).posted (seat_in y i).stand)
          (sym e)
          (subst (λ (k : SeatNow). TellsAt plan (store.announced p) (store.op p) k.posted k.stand) (sym mine) here)
      | inr n ↦
          let z = others q n in
          subst (λ (k : SeatNow). TellsAt plan (store.announced q) (store.op q) k.posted k.stand)
          (sym (get_or-set_other x.seats p q then nobody n))
          (subst (λ w. TellsAt plan w (store.op q) (seat_in x q).posted (seat_in x q).stand) (sym z.0)
          (subst (λ (f : ℕ → ℕ). TellsAt plan (x.store.announced q) f (seat_in x q).posted (seat_in x q).stand)
          (sym z.1)
          (all.each q less)))
    ];
  }
    where
      y : World
      y = ticked (with_seat x p store then answers updates)

      mine : seat_in y p ≡ then
      mine = get_or-set_same x.seats p then nobody (let long = h.long in omega (arith, inside, long))

  -- where nothing of it is stored
  silently : (store : W.Store) → Same x.store store → (then : SeatNow) (answers : List Answer)
      (updates : List MadeBySeat) → TellsAt plan (x.store.announced p) (x.store.op p) then.posted then.stand →
      Announces plan (ticked (with_seat x p store then answers updates))
  silently store same then answers updates here =
      next store then answers updates
      (subst (λ (f : ℕ → ℕ). TellsAt plan (f p) (store.op p) then.posted then.stand) (sym same.0)
      (subst (λ (f : ℕ → ℕ → ℕ). TellsAt plan (x.store.announced p) (f p) then.posted then.stand) (sym same.1) here))
      (λ q n. ((λ i. same.0 i q), (λ i. same.1 i q)))

  module _ (call : Call) where
    abbrev b : ℕ
    b = bucket_of_call plan call

    at_step : (step : Step) → now.stand ≡ S.Goes call step →
        TellsStep (x.store.announced p) (x.store.op p) now.posted b call step
    at_step step stood =
        subst (λ (k : Stand). TellsAt plan (x.store.announced p) (x.store.op p) now.posted k) stood (all.each p inside)

    -- a step that stores nothing of it
    plain_step : (step : Step) → now.stand ≡ S.Goes call step → (n : IsOther step) →
        ((w : ℕ) → TellsFate (x.store.announced p) (x.store.op p) now.posted b call (fate plan p now call step w)) →
        Announces plan (ticked (goes plan x p now call step))
    plain_step step stood n leads =
        let deed = deed_of plan p now call step in
        let w = found_by deed x.store in
        let own = own_after plan p now call step w in
        let f = fate plan p now call step w in
        silently (store_after deed x.store) (silent_words deed x.store (silent_step plan p now call step n))
        (seat_after own call f) _ _
        (after_told plan (x.store.announced p) (x.store.op p) own call f
        (subst (λ k. TellsFate (x.store.announced p) (x.store.op p) k b call f)
        (sym (own_posted plan p now call step w n))
        (leads w)))

    -- a word of the op is stored
    op_step : (i : ℕ) → now.stand ≡ S.Goes call (S.StoreOp i) →
        Announces plan (ticked (goes plan x p now call (S.StoreOp i)))
    op_step i stood =
        next (with_word x.store (W.OpWord p i) v)
        (seat_after now call (On (cond more_there (S.StoreOp (i + 1)) S.Announce)))
        _ _ (go more_there refl) (λ q n. (refl, (λ j. put_other_row q n j)))
      where
        v : ℕ
        v = slice_index (words_of_call call) i

        more_there : Bool
        more_there = nat_lt (i + 1) SLOT_WORDS

        was : Tells false (x.store.announced p) (x.store.op p) now.posted b call × HasOp (x.store.op p) i call
            × (i < SLOT_WORDS)
        was = at_step (S.StoreOp i) stood

        op : ℕ → ℕ
        op = (with_word x.store (W.OpWord p i) v).op p

        put_other_row : (q : ℕ) → q ≢ p → (with_word x.store (W.OpWord p i) v).op q ≡ x.store.op q
        put_other_row q n j k = put_at_row x.store.op p i v q k n j

        has : HasOp op (i + 1) call
        has j less = elim (cases_eq j i) [
          | inl e ↦ ap op e ∙ put_at_same x.store.op p i v ∙ ap (slice_index (words_of_call call)) (sym e)
          | inr n ↦ put_at_place x.store.op p i v p j n ∙ was.1 j (omega (arith, less, n))
        ]

        go : (c : Bool) → nat_lt (i + 1) SLOT_WORDS ≡ c →
            TellsStep (x.store.announced p) op now.posted b call (cond c (S.StoreOp (i + 1)) S.Announce)
        go true e = (was.0, has, ltb-true (i + 1) SLOT_WORDS e)
        go false e =
            let last = ltb-false (i + 1) SLOT_WORDS e in
            (was.0, λ j less. has j (omega (arith, less, last)))

    -- it is announced
    announce_step : now.stand ≡ S.Goes call S.Announce → Announces plan (ticked (goes plan x p now call S.Announce))
    announce_step stood =
        let was = at_step S.Announce stood in
        next (with_word x.store (W.Announced p) (announcing now.posted b)) (seat_after now call (On (S.LoadWord 2))) _ _
        (put_same x.store.announced p (announcing now.posted b), was.1)
        (λ q n. (put_other x.store.announced p (announcing now.posted b) q n, refl))

    -- and over
    over_step : (ending : Ending) → now.stand ≡ S.Goes call (S.Over ending) →
        Announces plan (ticked (goes plan x p now call (S.Over ending)))
    over_step ending stood =
        let e : now.posted + 1 ≡ suc now.posted = omega arith in
        next (with_word x.store (W.Announced p) (over now.posted))
        (seat_after (record now { posted = now.posted + 1 }) call (On (S.LowerPending ending))) _ _
        (put_same x.store.announced p (over now.posted) ∙ sym (ap at_rest e))
        (λ q n. (put_other x.store.announced p (over now.posted) q n, refl))

    led : (step : Step) → IsPlain plan (x.store.announced p) (x.store.op p) now.posted b call step →
        now.stand ≡ S.Goes call step → (w : ℕ) →
        TellsFate (x.store.announced p) (x.store.op p) now.posted b call (fate plan p now call step w)
    led step o e w = fated plan (x.store.announced p) (x.store.op p) now.posted b call p now step w o (at_step step e)

    update_step : (step : Step) → now.stand ≡ S.Goes call step → Announces plan (ticked (goes plan x p now call step))
    update_step (S.StoreOp i) e = op_step i e
    update_step S.Announce e = announce_step e
    update_step (S.Over ending) e = over_step ending e
    update_step S.RaisePending e = plain_step S.RaisePending e tt (led S.RaisePending tt e)
    update_step (S.GiveBack reply) e = plain_step (S.GiveBack reply) e tt (led (S.GiveBack reply) tt e)
    update_step (S.LowerPending ending) e = plain_step (S.LowerPending ending) e tt (led (S.LowerPending ending) tt e)
    update_step (S.LoadPending t) e = plain_step (S.LoadPending t) e tt (led (S.LoadPending t) tt e)
    update_step S.Stuck e = plain_step S.Stuck e tt (λ w. at_step S.Stuck e)
    update_step S.Scans e = plain_step S.Scans e tt (led S.Scans tt e)
    update_step (S.LoadWord turn) e = plain_step (S.LoadWord turn) e tt (led (S.LoadWord turn) tt e)
    update_step (S.LoadRow turn word words) e = plain_step (S.LoadRow turn word words) e tt
        (led (S.LoadRow turn word words) tt e)
    update_step (S.CheckWord turn word words) e = plain_step (S.CheckWord turn word words) e tt
        (led (S.CheckWord turn word words) tt e)
    update_step (S.LoadAnnounced t found) e = plain_step (S.LoadAnnounced t found) e tt
        (led (S.LoadAnnounced t found) tt e)
    update_step (S.LoadOp t found announced words) e = plain_step (S.LoadOp t found announced words) e tt
        (led (S.LoadOp t found announced words) tt e)
    update_step (S.StoreRow t found i) e = plain_step (S.StoreRow t found i) e tt (led (S.StoreRow t found i) tt e)
    update_step (S.Exchange t found) e = plain_step (S.Exchange t found) e tt (led (S.Exchange t found) tt e)
    update_step S.StoreWant e = plain_step S.StoreWant e tt (led S.StoreWant tt e)
    update_step S.StoreAsking e = plain_step S.StoreAsking e tt (led S.StoreAsking tt e)
    update_step S.HeldWord e = plain_step S.HeldWord e tt (led S.HeldWord tt e)
    update_step (S.TakeHold old) e = plain_step (S.TakeHold old) e tt (led (S.TakeHold old) tt e)
    update_step (S.HeldHead row) e = plain_step (S.HeldHead row) e tt (led (S.HeldHead row) tt e)
    update_step (S.HeldEntry row at left) e = plain_step (S.HeldEntry row at left) e tt
        (led (S.HeldEntry row at left) tt e)
    update_step (S.HeldReply row at) e = plain_step (S.HeldReply row at) e tt (led (S.HeldReply row at) tt e)

  -- ---- looks, and begins

  -- a seat that makes no update
  abbrev Rests : Stand → Type 0
  Rests stand = TellsAt plan (x.store.announced p) (x.store.op p) now.posted stand

  look_step : (aim : Aim) (glance : Glance) → now.stand ≡ S.Glances aim glance →
      Announces plan (ticked (glances plan x p now aim glance))
  look_step aim glance stood =
      let deed = glance_deed plan p now.time aim glance in
      let f = glance_fate plan now.time aim glance (found_by deed x.store) in
      silently (store_after deed x.store) (silent_words deed x.store (silent_glance plan p now.time aim glance))
      (look_after now aim glance f) _ x.made (go f)
    where
      was : x.store.announced p ≡ at_rest now.posted
      was = subst Rests stood (all.each p inside)

      go : (f : GlanceFate) → TellsAt plan (x.store.announced p) (x.store.op p) (look_after now aim glance f).posted
          (look_after now aim glance f).stand
      go (Looks next) = was
      go (Shows items) = was
      go Disturbed = was

  look_first : (aim : Aim) → now.stand ≡ S.Idle → Announces plan (ticked (look_begins x p now aim))
  look_first aim stood = silently x.store (refl, refl) _ x.answers x.made (subst Rests stood (all.each p inside))

  pub begun_posted : (free : List ℕ) → (scan_begins plan p free now).posted ≡ now.posted
  begun_posted (row ∷ free) = refl
  begun_posted [] = go (seats_from plan p 0 now.kept [])
    where
      go : (f : ScanFate) → (scanned (record now { kept = [] }) f).posted ≡ now.posted
      go (ScansOn scan) = refl
      go (Scanned left held) = refl

  update_first : (call : Call) → now.stand ≡ S.Idle → Announces plan (ticked (update_begins plan x p now call))
  update_first call stood =
      let taken = scan_begins plan p now.free now in
      let f = first_fate taken.free taken.scan in
      silently x.store (refl, refl) (record taken { stand = stand_at call f; course = course_from x.clock }) _ x.made
      (subst (λ k. TellsAt plan (x.store.announced p) (x.store.op p) k (stand_at call f)) (sym (begun_posted now.free))
      (by_fate f (first taken.free taken.scan)))
    where
      was : x.store.announced p ≡ at_rest now.posted
      was = subst Rests stood (all.each p inside)

      first : (free : List ℕ) (scan : Option Scan) →
          TellsFate (x.store.announced p) (x.store.op p) now.posted (bucket_of_call plan call) call
          (first_fate free scan)
      first free None =
          free_on plan (x.store.announced p) (x.store.op p) now.posted (bucket_of_call plan call) call free was
      first free (Some scan) = was

      by_fate : (f : Fate) →
          TellsFate (x.store.announced p) (x.store.op p) now.posted (bucket_of_call plan call) call f →
          Rests (stand_at call f)
      by_fate (On step) s = s
      by_fate (Ends reply) s = s
      by_fate Spends s = s
      by_fate Refuses s = s

  call_first : (call : Call) → now.stand ≡ S.Idle → Announces plan (ticked (call_begins plan x p now call))
  call_first (Lookup key) e = look_first (OfKey key) e
  call_first (Insert key value) e = update_first (Insert key value) e
  call_first (Remove key) e = update_first (Remove key) e
  call_first (Tally key amount) e = update_first (Tally key amount) e
  call_first (Count key value amount) e = update_first (Count key value amount) e
  call_first (Put key value) e = update_first (Put key value) e

  seat_goes : (stand : Stand) → now.stand ≡ stand → IsFlying plan p stand →
      Announces plan (ticked (goes_on plan x p now stand))
  seat_goes S.Idle e flies = absurd flies
  seat_goes (S.Goes call step) e flies = update_step call step e
  seat_goes (S.Glances aim glance) e flies = look_step aim glance e

  pub seat_announces : (what : What) → Fits plan p now what → Announces plan (ticked (act plan x p now what))
  seat_announces (Begin call) fits = call_first call fits.0
  seat_announces (Copy bucket) fits = look_first (OfBucket bucket) fits.0
  seat_announces Step_on fits = seat_goes now.stand refl fits

-- ---- runs

reader_announces : (plan : Plan) (x : World) (r : ℕ) (peek : Peek) → Announces plan x →
    Announces plan (happens plan x (OfReader r peek))
reader_announces plan x r (Open aim tries) all = record { each = all.each }
reader_announces plan x r Peek_on all = go (x.readers r).stand
  where
    go : (stand : S.Peeking) → Announces plan (ticked (peeks_on plan x r (x.readers r) stand))
    go S.Rests = record { each = all.each }
    go (S.Peeks aim glance) = record { each = all.each }

pub announces_keep : (plan : Plan) (x : World) → Owned plan x → Announces plan x → (event : Event) →
    IsEvent plan x event → Announces plan (happens plan x event)
announces_keep plan x h all (OfSeat p what) fits =
    subst (λ (c : Bool). Announces plan (cond c (ticked (act plan x p (seat_in x p) what)) x))
    (sym (lt-ltb p (holders_of plan.settings) fits.0)) (seat_announces plan x h all p fits.0 what fits.1)
announces_keep plan x h all (OfReader r peek) fits = reader_announces plan x r peek all

none_announced : (plan : Plan) (q : ℕ) → (opening_world plan).store.announced q ≡ 0
unfolding opening_store
none_announced plan q = refl

pub announces_first : (plan : Plan) → IsPlan plan → Announces plan (opening_world plan)
announces_first plan is = record {
  each = λ q less. subst (λ (k : SeatNow). TellsAt plan (x.store.announced q) (x.store.op q) k.posted k.stand)
      (sym (seat_is plan is q less)) (none_announced plan q);
}
  where
    x : World
    x = opening_world plan

pub announces_follow : (plan : Plan) → IsPlan plan → (events : List Event) (x : World) → Owned plan x →
    Announces plan x → AreEvents plan x events → Announces plan (fold (happens plan) x events)
announces_follow plan is [] x h all follow = all
announces_follow plan is (event ∷ events) x h all follow =
    announces_follow plan is events (happens plan x event) (event_keeps plan is x h event follow.0).owned
    (announces_keep plan x h all event follow.0) follow.1
