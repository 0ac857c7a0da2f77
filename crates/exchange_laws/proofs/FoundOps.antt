-- What a try has found can be put into a row: so many seats at most, entries that can be spelled, and calls that change
-- something.
use Rattle.std.proofs.Common.{◌≡◌, ℕ, zero, suc, ◌+◌, ◌-◌, ◌%◌, ◌/◌, ◌<◌, ◌≤◌, Bool, true, false, cond, List, [], ◌∷◌, ◌++◌, length, drop, Option, Some, None, refl, sym, ap, ◌∙◌, subst, arith, lt-ltb, get_or-set_same, get_or-set_other, inl, inr}
use Rattle.std.specs.Prelude.{◌==◌, nat_lt, fold, slice_index, take}
use Rattle.std.specs.List.{AllByRecursion as Each}
use Rattle.std.proofs.Math.Nat.{mod-lt}
use Rattle.std.proofs.lemmas.Bool.{cases_eq, cond_both, eqb-true, ltb-true}
use Rattle.std.proofs.lemmas.List.{length-append}
use Rattle.list_laws.proofs.Totals.{each-append}
use Rattle.plain_map.specs.declared.calls.Call.{Call}
use Rattle.plain_map.specs.declared.calls.Call.TheVariants.{Insert, Remove, Lookup, Tally, Count, Put}
use Rattle.plain_map.specs.declared.calls.Reply.{Reply}
use Rattle.plain_map.specs.Updates.{value_limit}
use Rattle.plain_map.specs.declared.keys.Key.{Key}
use Rattle.bucket_states.specs.Items.{reply_in}
use Rattle.word_rows.specs.OpWords.{call_of_kind, call_of_words}
use Rattle.plain_map.specs.declared.keys.TheConstants.{KEY_WORDS}
use Rattle.plain_map.specs.Keys.{key_of_words}
use Rattle.word_rows.specs.ReplyWords.{word_of_reply, reply_of_word}
use Rattle.exchange_model.specs.Plans.{Plan, IsPlan, rules_of, holders_of, more}
use Rattle.exchange_model.specs.Codes.{SLOT_WORDS, ENTRY_WORDS, Entry, is_spent, row_of_words, pairs_of_words, entries_of_words, length_by, count_in, entries_in, entries_start, number_in, call_in}
use Rattle.exchange_model.specs.Words as W
use Rattle.exchange_model.specs.Steps as S
use Rattle.exchange_model.specs.Steps.{MadeBySeat, Step, Stand, Scan, SeatNow, Found, NoOp, Keeps, Takes, Makes, Try, Ending, Aim, Glance, deed_of, glance_deed, bucket_of_call, new_words, SOLO_TRIES, ALL_TRIES}
use Rattle.exchange_model.specs.Goes.{ScanFate, ScansOn, Scanned, scan_fate_of, scan_begins, Fate, On, Ends, Spends, Refuses, with_free, first_fate, after_scan, is_announced, lost, ends_with, gives_up, gives_back, ended, unless_spent, is_quiet, share_of, own_op, found_alone, found_so_far, by_entry, looked, is_here, is_entry, entry_for, entry_word, after_entry, op_in, reply_for, next_entry, fate, own_after, GlanceFate, Looks, Shows, Disturbed, glance_fate}
use Rattle.exchange_model.specs.Worlds.{World, Answer, Event, OfSeat, OfReader, IsEvent, AreEvents, What, Begin, Copy, Step_on, Fits, IsFlying, seat_in, with_seat, ticked, found_by, seat_after, goes, glances, look_after, course_from, stand_at, update_begins, call_begins, goes_on, act, happens, nobody, opening_world, Peek, Open, Peek_on, peeks_on}
use Rattle.exchange_laws.proofs.Owned.{Owned}
use Rattle.exchange_laws.proofs.OwnedEvents.{event_keeps}
use Rattle.exchange_laws.proofs.OwnedRuns.{seat_is}
use Rattle.exchange_laws.proofs.RowWords.{IsEntry}
use Rattle.exchange_laws.proofs.FoundAlone.{alone_many, alone_each}
use Rattle.exchange_laws.proofs.MadeRows.{IsFound, IsChange, old_reads, gone_reads, sum_reads}

-- ---- what words spell, whatever they are

pub pairs_many : (many : ℕ) (words : List ℕ) → length (pairs_of_words many words) ≡ many
pairs_many zero words = refl
pairs_many (suc many) words = ap suc (pairs_many many _)

reply_again : (word : ℕ) → reply_of_word (word_of_reply (reply_of_word word)) ≡ reply_of_word word
reply_again word =
    cond_both (word % 8 == 1) _ _ P (λ _. refl) (λ _.
    cond_both (word % 8 == 2) _ _ P (λ _. old_reads (word / 8)) (λ _.
    cond_both (word % 8 == 3) _ _ P (λ _. refl) (λ _.
    cond_both (word % 8 == 4) _ _ P (λ _. gone_reads (word / 8)) (λ _.
    cond_both (word % 8 == 5) _ _ P (λ _. refl) (λ _.
    cond_both (word % 8 == 6) _ _ P (λ _. sum_reads (word / 8)) (λ _. refl))))))
  where
    P : Option Reply → Type 0
    P reply = reply_of_word (word_of_reply reply) ≡ reply

entries_each : (many : ℕ) (words : List ℕ) → Each IsEntry (entries_of_words many words)
entries_each zero words = tt
entries_each (suc many) words = (
  record { seat = mod-lt (slice_index words 0) (omega arith); reply = reply_again (slice_index words 1) },
  entries_each many (drop 2 words),
)

kind_changes : (kind amount : ℕ) (key : Key) (value : ℕ) → IsChange (call_of_kind kind amount key value)
kind_changes kind amount key value = by_insert (kind == 1)
  where
    by_put : (put : Bool) → IsChange (cond put (Put key value) (Remove key))
    by_put true = tt
    by_put false = tt

    by_count : (count : Bool) → IsChange
        (cond count (Count key value amount) (cond (kind == 5) (Put key value) (Remove key)))
    by_count true = tt
    by_count false = by_put (kind == 5)

    by_tally : (tally : Bool) → IsChange (cond tally (Tally key value) (cond (kind == 4) (Count key value amount)
        (cond (kind == 5) (Put key value) (Remove key))))
    by_tally true = tt
    by_tally false = by_count (kind == 4)

    by_insert : (insert : Bool) → IsChange (cond insert (Insert key value) (cond (kind == 3) (Tally key value)
        (cond (kind == 4) (Count key value amount) (cond (kind == 5) (Put key value) (Remove key)))))
    by_insert true = tt
    by_insert false = by_tally (kind == 3)

words_change : (words : List ℕ) → IsChange (call_of_words words)
words_change words =
    kind_changes (slice_index words 0 % 8) (slice_index words 0 / 8) (key_of_words (take KEY_WORDS (drop 1 words)))
    (slice_index words (KEY_WORDS + 1))

call_changes : (words : List ℕ) → IsChange (call_in words)
call_changes words = words_change (take (KEY_WORDS + 1) words ++ (slice_index words (KEY_WORDS + 1) % value_limit) ∷ [])

module _ (plan : Plan) where
  -- a row that was read
  pub record Read (t : Try) : Type 0 where
    pub items : length t.row.items ≤ plan.settings.items
    pub entries : Each IsEntry t.row.entries

  any_read : (turn old : ℕ) (words : List ℕ) →
      Read (record { turn = turn; word = old; row = row_of_words plan words })
  any_read turn old words = record {
    items =
        let head = slice_index words 0 in
        let long = pairs_many (count_in plan head) (drop 1 words) in omega (arith, long);
    entries = entries_each (entries_in plan (slice_index words 0)) _;
  }

  abbrev pub FoundStep : Step → Type 0
  FoundStep (S.LoadPending t) = Read t
  FoundStep (S.LoadAnnounced t found) = Read t × Each IsFound found × (length found < plan.settings.seats)
  FoundStep (S.LoadOp t found announced words) = Read t × Each IsFound found × (length found < plan.settings.seats)
  FoundStep (S.StoreRow t found i) = Read t × Each IsFound found × (length found ≤ plan.settings.seats)
  FoundStep (S.Exchange t found) = Read t × Each IsFound found × (length found ≤ plan.settings.seats)
  FoundStep step = Unit {0}

  abbrev pub FoundAt : Stand → Type 0
  FoundAt S.Idle = Unit {0}
  FoundAt (S.Goes call step) = IsChange call × FoundStep step
  FoundAt (S.Glances aim glance) = Unit {0}

  pub record FoundOk (x : World) : Type 0 where
    pub each : (q : ℕ) → q < holders_of plan.settings → FoundAt (seat_in x q).stand

  abbrev F : Fate → Type 0
  F (On step) = FoundStep step
  F (Ends reply) = Unit {0}
  F Spends = Unit {0}
  F Refuses = Unit {0}

  either : (f g : Fate) (c : Bool) → F f → F g → F (cond c f g)
  either f g true l r = l
  either f g false l r = r

  either_on : (f g : Step) (c : Bool) → FoundStep f → FoundStep g → F (On (cond c f g))
  either_on f g true l r = l
  either_on f g false l r = r

  ends : (announced : Bool) (reply : Option Reply) → F (ends_with announced reply)
  ends true None = tt
  ends false None = tt
  ends true (Some reply) = tt
  ends false (Some reply) = tt

  loses : (turn : ℕ) → F (lost turn)
  loses turn =
      either (On S.RaisePending) (cond (turn == ALL_TRIES) (On S.StoreWant) (On (S.LoadWord (turn + 1))))
      (turn == SOLO_TRIES) tt (either (On S.StoreWant) (On (S.LoadWord (turn + 1))) (turn == ALL_TRIES) tt tt)

  free_on : (free : List ℕ) → F (with_free free)
  free_on [] = tt
  free_on (r ∷ free) = tt

  entries_on : (row at left : ℕ) → F (next_entry row at left)
  entries_on row at left = either_on (S.HeldEntry row at left) S.Stuck (nat_lt 0 left) tt tt

  -- an entry of a row is one that can be spelled
  entry_is : (seat number : ℕ) (entries : List Entry) → Each IsEntry entries → (e : Entry) →
      entry_for seat number entries ≡ Some e → IsEntry e
  entry_is seat number [] all e f = absurd (none_some e f)
    where
      none_some : (e : Entry) → None ≡ Some e → ⊥
      none_some e f = cc
  entry_is seat number (one ∷ entries) all e f = go (entry_is seat number entries all.1 e) (is_entry seat number one) f
    where
      given : Option Entry → Entry
      given None = one
      given (Some k) = k

      go : (entry_for seat number entries ≡ Some e → IsEntry e) → (c : Bool) →
          cond c (Some one) (entry_for seat number entries) ≡ Some e → IsEntry e
      go later true f = subst IsEntry (ap given f) all.0
      go later false f = later f

  module _ (seat : ℕ) (inside : seat < plan.settings.seats) (now : SeatNow) (call : Call) (is : IsChange call) where
    own_is : (turn : ℕ) → IsFound (own_op now.posted turn call)
    own_is turn = go (is_announced turn)
      where
        go : (c : Bool) → IsFound (cond c (Takes (record { number = now.posted; call = call })) (Makes call))
        go true = is
        go false = is

    to_ops : (t : Try) (found : List Found) → Read t → Each IsFound found → length found ≤ plan.settings.seats →
        F (found_so_far plan seat now call t found)
    to_ops t found r all few = by_turn (length found == seat) refl
      where
        on : (gs : List Found) → Each IsFound gs → length gs ≤ plan.settings.seats →
            F (On (cond (nat_lt (length gs) plan.settings.seats)
            (S.LoadAnnounced t gs) (S.StoreRow t gs 0)))
        on gs each most = go (nat_lt (length gs) plan.settings.seats) refl
          where
            go : (c : Bool) → nat_lt (length gs) plan.settings.seats ≡ c →
                F (On (cond c (S.LoadAnnounced t gs) (S.StoreRow t gs 0)))
            go true e = (r, each, ltb-true (length gs) plan.settings.seats e)
            go false e = (r, each, most)

        by_turn : (c : Bool) → (length found == seat) ≡ c →
            (let gs = cond c (more found (own_op now.posted t.turn call)) found in
            F (On (cond (nat_lt (length gs) plan.settings.seats) (S.LoadAnnounced t gs) (S.StoreRow t gs 0))))
        by_turn true e =
            let one = own_op now.posted t.turn call in
            let at : length found ≡ seat = eqb-true (length found) seat e in
            let long = length-append found (one ∷ []) in
            on (more found one) (each-append IsFound found (one ∷ []) all (own_is t.turn, tt))
            (omega (arith, long, at, inside))
        by_turn false e = on found all few

    with_one : (t : Try) (found : List Found) (one : Found) → Read t → Each IsFound found →
        length found < plan.settings.seats →
        IsFound one → F (found_so_far plan seat now call t (more found one))
    with_one t found one r all less ok =
        let long = length-append found (one ∷ []) in
        to_ops t (more found one) r (each-append IsFound found (one ∷ []) all (ok, tt)) (omega (arith, long, less))

    given_up : (announced : Bool) → F (gives_up announced)
    given_up true = tt
    given_up false = tt

    given_back : (reply : Option Reply) → F (gives_back reply)
    given_back None = tt
    given_back (Some reply) = tt

    over_then : (ending : Ending) → F (ended ending)
    over_then (S.Applied reply) = tt
    over_then S.GivenUp = tt

    unless : (t : Try) → Read t → F (unless_spent plan t)
    unless t r =
        either (gives_up (is_announced t.turn)) (On (S.LoadPending t)) (is_spent plan t.word)
        (given_up (is_announced t.turn)) r

    by_entries : (t : Try) (entry : Option Entry) → Read t → F (by_entry plan t entry)
    by_entries t None r = unless t r
    by_entries t (Some entry) r = ends true entry.reply

    to_entry : (t : Try) (found : List Found) (announced : ℕ) (entry : Option Entry) → Read t → Each IsFound found →
        length found < plan.settings.seats → ((e : Entry) → entry ≡ Some e → IsEntry e) →
        F (after_entry plan seat now call t found announced entry)
    to_entry t found announced None r all less ok = (r, all, less)
    to_entry t found announced (Some entry) r all less ok = with_one t found (Keeps entry) r all less (ok entry refl)

    fated : (step : Step) (w : ℕ) → FoundStep step → F (fate plan seat now call step w)
    fated S.Scans w s = go (scan_fate_of plan seat now.scan w)
      where
        go : (f : ScanFate) → F (after_scan now.free f)
        go (ScansOn scan) = tt
        go (Scanned left held) = free_on (now.free ++ left)
    fated (S.LoadWord turn) w s = tt
    fated (S.LoadRow turn old words) w s =
        either_on (S.LoadRow turn old (more words w)) (S.CheckWord turn old (more words w))
        (nat_lt (length words + 1) (length_by plan (more words w))) tt tt
    fated (S.CheckWord turn old words) w s =
        let t : Try = record { turn = turn; word = old; row = row_of_words plan words } in
        let r = any_read turn old words in
        let quiet = is_quiet (rules_of plan) t.row.items call in
        let answer = reply_in (rules_of plan) t.row.items call in
        either (looked plan seat now call t) (lost turn) (w == old)
        (either (by_entry plan t (entry_for seat now.posted t.row.entries))
        (cond quiet (Ends answer) (unless_spent plan t)) (is_announced turn)
        (by_entries t (entry_for seat now.posted t.row.entries) r)
        (either (Ends answer) (unless_spent plan t) quiet tt (unless t r)))
        (loses turn)
    fated (S.LoadPending t) w s =
        let found = found_alone seat (own_op now.posted t.turn call) plan.settings.seats [] in
        let many = alone_many seat (own_op now.posted t.turn call) plan.settings.seats [] in
        either (On (S.StoreRow t found 0)) (found_so_far plan seat now call t [])
        (w == share_of (is_announced t.turn)) (
          s,
          alone_each IsFound seat (own_op now.posted t.turn call) plan.settings.seats [] (own_is t.turn) tt tt,
          omega (arith, many),
        ) (to_ops t [] s tt (omega arith))
    fated (S.LoadAnnounced t found) w s =
        let entry = entry_for (length found) (number_in w) t.row.entries in
        either (after_entry plan seat now call t found w entry) (found_so_far plan seat now call t (more found NoOp))
        (is_here plan (bucket_of_call plan call) w)
        (to_entry t found w entry s.0 s.1 s.2 (entry_is (length found) (number_in w) t.row.entries s.0.entries))
        (with_one t found NoOp s.0 s.1 s.2 tt)
    fated (S.LoadOp t found announced words) w s =
        let one = Takes (op_in announced (more words w)) in
        either (On (S.LoadOp t found announced (more words w))) (found_so_far plan seat now call t (more found one))
        (nat_lt (length words + 1) SLOT_WORDS) s (with_one t found one s.0 s.1 s.2 (call_changes (more words w)))
    fated (S.StoreRow t found i) w s =
        either_on (S.StoreRow t found (i + 1)) (S.Exchange t found)
        (nat_lt (i + 1) (length (new_words plan t found))) s s
    fated (S.Exchange t found) w s =
        either (ends_with (is_announced t.turn) (reply_for seat (S.made plan t found).made)) (lost t.turn) (w == t.word)
        (ends (is_announced t.turn) (reply_for seat (S.made plan t found).made)) (loses t.turn)
    fated (S.StoreOp i) w s = either_on (S.StoreOp (i + 1)) S.Announce (nat_lt (i + 1) SLOT_WORDS) tt tt
    fated S.RaisePending w s = tt
    fated S.Announce w s = tt
    fated S.StoreWant w s = tt
    fated S.StoreAsking w s = tt
    fated S.HeldWord w s = tt
    fated (S.TakeHold old) w s = tt
    fated (S.HeldHead row) w s = entries_on row (entries_start (count_in plan w)) (entries_in plan w)
    fated (S.HeldEntry row at left) w s =
        either (On (S.HeldReply row (at + 1))) (next_entry row (at + ENTRY_WORDS) (left - 1))
        (w == entry_word seat now.posted) tt (entries_on row (at + ENTRY_WORDS) (left - 1))
    fated (S.HeldReply row at) w s = given_back (reply_of_word w)
    fated (S.GiveBack reply) w s = tt
    fated (S.Over ending) w s = tt
    fated (S.LowerPending ending) w s = over_then ending
    fated S.Stuck w s = tt

  -- ---- events

  module _ (x : World) (h : Owned plan x) (all : FoundOk x) (p : ℕ) (inside : p < holders_of plan.settings) where
    abbrev now : SeatNow
    now = seat_in x p

    next : (store : W.Store) (then : SeatNow) (answers : List Answer) (updates : List MadeBySeat) → FoundAt then.stand →
        FoundOk (ticked (with_seat x p store then answers updates))
    next store then answers updates here = record {
      each = λ q less. elim (cases_eq q p) [
        | inl e ↦ subst (λ (k : SeatNow). FoundAt k.stand)
            (sym (ap (seat_in (ticked (with_seat x p store then answers updates))) e
            ∙ get_or-set_same x.seats p then nobody (let long = h.long in omega (arith, inside, long)))) here
        | inr n ↦ subst (λ (k : SeatNow). FoundAt k.stand) (sym (get_or-set_other x.seats p q then nobody n))
            (all.each q less)
      ];
    }

    by_fate : (own : SeatNow) (call : Call) (f : Fate) → IsChange call → F f → FoundAt (seat_after own call f).stand
    by_fate own call (On step) is s = (is, s)
    by_fate own call (Ends reply) is s = tt
    by_fate own call Spends is s = tt
    by_fate own call Refuses is s = tt

    update_step : (call : Call) (step : Step) → p < plan.settings.seats → now.stand ≡ S.Goes call step →
        FoundOk (ticked (goes plan x p now call step))
    update_step call step of_seat stood =
        let was : IsChange call × FoundStep step = subst FoundAt stood (all.each p inside) in
        let w = found_by (deed_of plan p now call step) x.store in
        let own = own_after plan p now call step w in
        let f = fate plan p now call step w in
        next _ (seat_after own call f) _ _ (by_fate own call f was.0 (fated p of_seat now call was.0 step w was.1))

    look_step : (aim : Aim) (glance : Glance) → FoundOk (ticked (glances plan x p now aim glance))
    look_step aim glance =
        let f = glance_fate plan now.time aim glance (found_by (glance_deed plan p now.time aim glance) x.store) in
        next _ (look_after now aim glance f) _ x.made (go f)
      where
        go : (f : GlanceFate) → FoundAt (look_after now aim glance f).stand
        go (Looks next) = tt
        go (Shows items) = tt
        go Disturbed = tt

    update_first : (call : Call) → IsChange call → FoundOk (ticked (update_begins plan x p now call))
    update_first call is =
        let taken = scan_begins plan p now.free now in
        let f = first_fate taken.free taken.scan in
        next x.store (record taken { stand = stand_at call f; course = course_from x.clock }) _ x.made
        (stands f (first taken.free taken.scan))
      where
        first : (free : List ℕ) (scan : Option Scan) → F (first_fate free scan)
        first free None = free_on free
        first free (Some scan) = tt

        stands : (f : Fate) → F f → FoundAt (stand_at call f)
        stands (On step) s = (is, s)
        stands (Ends reply) s = tt
        stands Spends s = tt
        stands Refuses s = tt

    call_first : (call : Call) → FoundOk (ticked (call_begins plan x p now call))
    call_first (Lookup key) = next x.store _ x.answers x.made tt
    call_first (Insert key value) = update_first (Insert key value) tt
    call_first (Remove key) = update_first (Remove key) tt
    call_first (Tally key amount) = update_first (Tally key amount) tt
    call_first (Count key value amount) = update_first (Count key value amount) tt
    call_first (Put key value) = update_first (Put key value) tt

    seat_goes : (stand : Stand) → now.stand ≡ stand → IsFlying plan p stand →
        FoundOk (ticked (goes_on plan x p now stand))
    seat_goes S.Idle e flies = absurd flies
    seat_goes (S.Goes call step) e flies = update_step call step flies e
    seat_goes (S.Glances aim glance) e flies = look_step aim glance

    seat_finds : (what : What) → Fits plan p now what → FoundOk (ticked (act plan x p now what))
    seat_finds (Begin call) fits = call_first call
    seat_finds (Copy bucket) fits = next x.store _ x.answers x.made tt
    seat_finds Step_on fits = seat_goes now.stand refl fits

  reader_finds : (x : World) (r : ℕ) (peek : Peek) → FoundOk x → FoundOk (happens plan x (OfReader r peek))
  reader_finds x r (Open aim tries) all = record { each = all.each }
  reader_finds x r Peek_on all = go (x.readers r).stand
    where
      go : (stand : S.Peeking) → FoundOk (ticked (peeks_on plan x r (x.readers r) stand))
      go S.Rests = record { each = all.each }
      go (S.Peeks aim glance) = record { each = all.each }

  pub found_keep : (x : World) → Owned plan x → FoundOk x → (event : Event) → IsEvent plan x event →
      FoundOk (happens plan x event)
  found_keep x h all (OfSeat p what) fits =
      subst (λ (c : Bool). FoundOk (cond c (ticked (act plan x p (seat_in x p) what)) x))
      (sym (lt-ltb p (holders_of plan.settings) fits.0))
      (seat_finds x h all p fits.0 what fits.1)
  found_keep x h all (OfReader r peek) fits = reader_finds x r peek all

  pub found_first : IsPlan plan → FoundOk (opening_world plan)
  found_first is = record {
    each = λ q less. subst (λ (k : SeatNow). FoundAt k.stand) (sym (seat_is plan is q less)) tt;
  }

  pub found_follow : IsPlan plan → (events : List Event) (x : World) → Owned plan x → FoundOk x →
      AreEvents plan x events → FoundOk (fold (happens plan) x events)
  found_follow is [] x h all follow = all
  found_follow is (event ∷ events) x h all follow =
      found_follow is events (happens plan x event) (event_keeps plan is x h event follow.0).owned
      (found_keep x h all event follow.0) follow.1
