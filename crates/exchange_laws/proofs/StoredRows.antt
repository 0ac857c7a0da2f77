-- The row that a seat stores: so many of its words stand there, and all of them when it comes to its exchange. So the
-- row that is put says what the try has made of the one that it took away.
use Rattle.std.proofs.Common.{◌≡◌, ◌≢◌, ℕ, ◌+◌, ◌-◌, ◌<◌, ◌≤◌, inl, inr, Bool, true, false, cond, List, [], ◌∷◌, ◌++◌, length, Option, Some, None, refl, sym, ap, ◌∙◌, subst, arith, lt-ltb, get_or-set_same, get_or-set_other}
use Rattle.std.specs.Prelude.{◌==◌, nat_lt, fold, slice_index}
use Rattle.std.proofs.lemmas.Bool.{cases_eq, cond_both, ltb-false}
use Rattle.plain_map.specs.declared.calls.Call.{Call}
use Rattle.plain_map.specs.declared.calls.Call.TheVariants.{Insert, Remove, Lookup, Tally, Count, Put}
use Rattle.plain_map.specs.declared.calls.Reply.{Reply}
use Rattle.word_rows.specs.ReplyWords.{reply_of_word}
use Rattle.bucket_states.specs.Items.{reply_in}
use Rattle.word_rows.specs.Memory.{put_at}
use Rattle.word_rows.proofs.MemoryLemmas.{put_at_same, put_at_row, put_at_place}
use Rattle.exchange_model.specs.Plans.{Plan, IsPlan, rules_of, holders_of, more}
use Rattle.exchange_model.specs.Codes.{SLOT_WORDS, ENTRY_WORDS, Entry, is_spent, row_of_words, length_by, count_in, entries_in, entries_start, number_in}
use Rattle.exchange_model.specs.Words as W
use Rattle.exchange_model.specs.Words.{with_word}
use Rattle.exchange_model.specs.Steps as S
use Rattle.exchange_model.specs.Steps.{MadeBySeat, Step, Stand, Scan, SeatNow, Found, NoOp, Keeps, Takes, Try, Ending, Aim, OfKey, OfBucket, Glance, deed_of, glance_deed, bucket_of_call, new_words, next_row, SOLO_TRIES, ALL_TRIES}
use Rattle.exchange_model.specs.Goes.{ScanFate, ScansOn, Scanned, scan_fate_of, scan_begins, Fate, On, Ends, Spends, Refuses, with_free, first_fate, after_scan, is_announced, lost, ends_with, gives_up, gives_back, ended, unless_spent, is_quiet, share_of, own_op, found_alone, with_own, found_so_far, by_entry, looked, is_here, entry_for, entry_word, after_entry, op_in, reply_for, next_entry, fate, own_after, GlanceFate, Looks, Shows, Disturbed, glance_fate}
use Rattle.exchange_model.specs.Worlds.{World, Answer, Event, OfSeat, OfReader, IsEvent, AreEvents, What, Begin, Copy, Step_on, Fits, IsFlying, seat_in, with_seat, ticked, found_by, store_after, seat_after, goes, glances, look_after, course_from, stand_at, update_begins, look_begins, call_begins, goes_on, act, happens, nobody, opening_world, Peek, Open, Peek_on, peeks_on}
use Rattle.exchange_laws.proofs.RowLists.{first_there}
use Rattle.exchange_laws.proofs.Owned.{WithSeat, number_of, Owned, needs, IsScanning}
use Rattle.exchange_laws.proofs.OwnedSteps.{IsStill, quiet_words, quiet_step, quiet_glance}
use Rattle.exchange_laws.proofs.OwnedEvents.{event_keeps, quiet}
use Rattle.exchange_laws.proofs.OwnedRuns.{seat_is}
use Rattle.exchange_laws.proofs.TrueReads.{IsFront}

module _ (plan : Plan) where
  -- so many words of the row that is stored next
  abbrev pub StoresStep : (row : ℕ → ℕ) → Step → Type 0
  StoresStep row (S.StoreRow t found i) = (j : ℕ) → j < i → slice_index (new_words plan t found) j ≡ row j
  StoresStep row (S.Exchange t found) = IsFront (new_words plan t found) row
  StoresStep row step = Unit {0}

  abbrev pub StoresBy : (row : ℕ → ℕ) → Stand → Type 0
  StoresBy row S.Idle = Unit {0}
  StoresBy row (S.Goes call step) = StoresStep row step
  StoresBy row (S.Glances aim glance) = Unit {0}

  pub record Stored (x : World) : Type 0 where
    pub each : (q : ℕ) → q < holders_of plan.settings →
        StoresBy (x.store.row (next_row (seat_in x q))) (seat_in x q).stand

  -- ---- what begins a row, or stores none

  abbrev Fresh : Fate → Type 0
  Fresh (On step) = (row : ℕ → ℕ) → StoresStep row step
  Fresh (Ends reply) = Unit {0}
  Fresh Spends = Unit {0}
  Fresh Refuses = Unit {0}

  either : (f g : Fate) (c : Bool) → Fresh f → Fresh g → Fresh (cond c f g)
  either f g true l r = l
  either f g false l r = r

  either_on : (f g : Step) (c : Bool) → Fresh (On f) → Fresh (On g) → Fresh (On (cond c f g))
  either_on f g true l r = l
  either_on f g false l r = r

  ends : (announced : Bool) (reply : Option Reply) → Fresh (ends_with announced reply)
  ends true None = λ row. tt
  ends false None = λ row. tt
  ends true (Some reply) = λ row. tt
  ends false (Some reply) = tt

  loses : (turn : ℕ) → Fresh (lost turn)
  loses turn =
      either (On S.RaisePending) (cond (turn == ALL_TRIES) (On S.StoreWant) (On (S.LoadWord (turn + 1))))
      (turn == SOLO_TRIES) (λ row. tt)
      (either (On S.StoreWant) (On (S.LoadWord (turn + 1))) (turn == ALL_TRIES) (λ row. tt) (λ row. tt))

  free_on : (free : List ℕ) → Fresh (with_free free)
  free_on [] = tt
  free_on (r ∷ free) = λ row. tt

  to_ops : (seat : ℕ) (now : SeatNow) (call : Call) (t : Try) (found : List Found) →
      Fresh (found_so_far plan seat now call t found)
  to_ops seat now call t found =
      let all = with_own seat now call t.turn found in
      either_on (S.LoadAnnounced t all) (S.StoreRow t all 0) (nat_lt (length all) plan.settings.seats) (λ row. tt)
      (λ row j less. absurd (omega (arith, less)))

  given_up : (announced : Bool) → Fresh (gives_up announced)
  given_up true = λ row. tt
  given_up false = tt

  given_back : (reply : Option Reply) → Fresh (gives_back reply)
  given_back None = λ row. tt
  given_back (Some reply) = λ row. tt

  over_then : (ending : Ending) → Fresh (ended ending)
  over_then (S.Applied reply) = tt
  over_then S.GivenUp = tt

  unless : (t : Try) → Fresh (unless_spent plan t)
  unless t =
      either (gives_up (is_announced t.turn)) (On (S.LoadPending t)) (is_spent plan t.word)
      (given_up (is_announced t.turn)) (λ row. tt)

  by_entries : (t : Try) (entry : Option Entry) → Fresh (by_entry plan t entry)
  by_entries t None = unless t
  by_entries t (Some entry) = ends true entry.reply

  to_entry : (seat : ℕ) (now : SeatNow) (call : Call) (t : Try) (found : List Found) (announced : ℕ)
      (entry : Option Entry) → Fresh (after_entry plan seat now call t found announced entry)
  to_entry seat now call t found announced None = λ row. tt
  to_entry seat now call t found announced (Some entry) = to_ops seat now call t (more found (Keeps entry))

  entries_on : (row at left : ℕ) → Fresh (next_entry row at left)
  entries_on row at left = either_on (S.HeldEntry row at left) S.Stuck (nat_lt 0 left) (λ r. tt) (λ r. tt)

  -- every step but that of a row
  abbrev IsOther : Step → Type 0
  IsOther (S.StoreRow t found i) = ⊥
  IsOther step = Unit {0}

  fresh : (seat : ℕ) (now : SeatNow) (call : Call) (step : Step) (word : ℕ) → IsOther step →
      Fresh (fate plan seat now call step word)
  fresh seat now call S.Scans word o = go (scan_fate_of plan seat now.scan word)
    where
      go : (f : ScanFate) → Fresh (after_scan now.free f)
      go (ScansOn scan) = λ row. tt
      go (Scanned left held) = free_on (now.free ++ left)
  fresh seat now call (S.LoadWord turn) word o = λ row. tt
  fresh seat now call (S.LoadRow turn old words) word o =
      either_on (S.LoadRow turn old (more words word)) (S.CheckWord turn old (more words word))
      (nat_lt (length words + 1) (length_by plan (more words word))) (λ row. tt) (λ row. tt)
  fresh seat now call (S.CheckWord turn old words) word o =
      let t : Try = record { turn = turn; word = old; row = row_of_words plan words } in
      let quiet = is_quiet (rules_of plan) t.row.items call in
      let answer = reply_in (rules_of plan) t.row.items call in
      either (looked plan seat now call t) (lost turn) (word == old)
      (either (by_entry plan t (entry_for seat now.posted t.row.entries))
      (cond quiet (Ends answer) (unless_spent plan t)) (is_announced turn)
      (by_entries t (entry_for seat now.posted t.row.entries))
      (either (Ends answer) (unless_spent plan t) quiet tt (unless t)))
      (loses turn)
  fresh seat now call (S.LoadPending t) word o =
      let found = found_alone seat (own_op now.posted t.turn call) plan.settings.seats [] in
      either (On (S.StoreRow t found 0)) (found_so_far plan seat now call t []) (word == share_of (is_announced t.turn))
      (λ row j less. absurd (omega (arith, less))) (to_ops seat now call t [])
  fresh seat now call (S.LoadAnnounced t found) word o =
      let entry = entry_for (length found) (number_in word) t.row.entries in
      either (after_entry plan seat now call t found word entry) (found_so_far plan seat now call t (more found NoOp))
      (is_here plan (bucket_of_call plan call) word) (to_entry seat now call t found word entry)
      (to_ops seat now call t (more found NoOp))
  fresh seat now call (S.LoadOp t found announced words) word o =
      let op = Takes (op_in announced (more words word)) in
      either (On (S.LoadOp t found announced (more words word))) (found_so_far plan seat now call t (more found op))
      (nat_lt (length words + 1) SLOT_WORDS) (λ row. tt) (to_ops seat now call t (more found op))
  fresh seat now call (S.StoreRow t found i) word o = absurd o
  fresh seat now call (S.Exchange t found) word o =
      either (ends_with (is_announced t.turn) (reply_for seat (S.made plan t found).made)) (lost t.turn)
      (word == t.word)
      (ends (is_announced t.turn) (reply_for seat (S.made plan t found).made)) (loses t.turn)
  fresh seat now call (S.StoreOp i) word o =
      either_on (S.StoreOp (i + 1)) S.Announce (nat_lt (i + 1) SLOT_WORDS) (λ row. tt) (λ row. tt)
  fresh seat now call S.RaisePending word o = λ row. tt
  fresh seat now call S.Announce word o = λ row. tt
  fresh seat now call S.StoreWant word o = λ row. tt
  fresh seat now call S.StoreAsking word o = λ row. tt
  fresh seat now call S.HeldWord word o = λ row. tt
  fresh seat now call (S.TakeHold old) word o = λ row. tt
  fresh seat now call (S.HeldHead row) word o = entries_on row (entries_start (count_in plan word))
      (entries_in plan word)
  fresh seat now call (S.HeldEntry row at left) word o =
      either (On (S.HeldReply row (at + 1))) (next_entry row (at + ENTRY_WORDS) (left - 1))
      (word == entry_word seat now.posted) (λ r. tt) (entries_on row (at + ENTRY_WORDS) (left - 1))
  fresh seat now call (S.HeldReply row at) word o = given_back (reply_of_word word)
  fresh seat now call (S.GiveBack reply) word o = λ row. tt
  fresh seat now call (S.Over ending) word o = λ row. tt
  fresh seat now call (S.LowerPending ending) word o = over_then ending
  fresh seat now call S.Stuck word o = λ row. tt

  -- ---- the others

  -- a row that is as it was
  same_by : (row now_row : ℕ → ℕ) → ((i : ℕ) → now_row i ≡ row i) → (stand : Stand) → StoresBy row stand →
      StoresBy now_row stand
  same_by row now_row e stand = subst (λ (f : ℕ → ℕ). StoresBy f stand) (λ k i. sym (e i) k)

  module _ (is_plan : IsPlan plan) (x : World) (h : Owned plan x) (all : Stored x) where
    -- a seat that stores a row has it with it
    its_row : (q : ℕ) → (less : q < holders_of plan.settings) → (call : Call) (step : Step) →
        (seat_in x q).stand ≡ S.Goes call step →
        (IsScanning (S.Goes call step) → ⊥) → 1 ≤ needs (S.Goes call step) →
        h.at (next_row (seat_in x q)) ≡ WithSeat q
    its_row q less call step stood still one =
        let z = quiet plan is_plan x h q less (S.Goes call step) stood still in
        let there = first_there (seat_in x q).free (let enough = z.0.enough in omega (arith, enough, one)) in
        (z.0.rows.mine (next_row (seat_in x q)) (omega (arith, there))).0

    module _ (p : ℕ) (inside : p < holders_of plan.settings) where
      abbrev now : SeatNow
      now = seat_in x p

      next : (store : W.Store) (then : SeatNow) (answers : List Answer) (updates : List MadeBySeat) →
          StoresBy (store.row (next_row then)) then.stand →
          ((q : ℕ) → q ≢ p → (less : q < holders_of plan.settings) →
          StoresBy (store.row (next_row (seat_in x q))) (seat_in x q).stand) →
          Stored (ticked (with_seat x p store then answers updates))
      next store then answers updates here others = record {
        each = λ q less. elim (cases_eq q p) [
          | inl e ↦ subst (λ (k : SeatNow). StoresBy (store.row (next_row k)) k.stand)
              (sym (ap (seat_in y) e ∙ mine)) here
          | inr n ↦ subst (λ (k : SeatNow). StoresBy (store.row (next_row k)) k.stand)
              (sym (get_or-set_other x.seats p q then nobody n)) (others q n less)
        ];
      }
        where
          y : World
          y = ticked (with_seat x p store then answers updates)

          mine : seat_in y p ≡ then
          mine = get_or-set_same x.seats p then nobody (let long = h.long in omega (arith, inside, long))

      -- where no row is another then
      silently : (store : W.Store) → store.row ≡ x.store.row → (then : SeatNow) (answers : List Answer)
          (updates : List MadeBySeat) → ((row : ℕ → ℕ) → StoresBy row then.stand) →
          Stored (ticked (with_seat x p store then answers updates))
      silently store same then answers updates here =
          next store then answers updates (here (store.row (next_row then)))
          (λ q n less. same_by (x.store.row (next_row (seat_in x q))) (store.row (next_row (seat_in x q)))
          (λ i k. same k (next_row (seat_in x q)) i) (seat_in x q).stand (all.each q less))

      by_fate : (own : SeatNow) (call : Call) (f : Fate) → Fresh f → (row : ℕ → ℕ) →
          StoresBy row (seat_after own call f).stand
      by_fate own call (On step) s row = s row
      by_fate own call (Ends reply) s row = tt
      by_fate own call Spends s row = tt
      by_fate own call Refuses s row = tt

      plain_step : (call : Call) (step : Step) → IsOther step →
          (store_after (deed_of plan p now call step) x.store).row ≡ x.store.row →
          Stored (ticked (goes plan x p now call step))
      plain_step call step o same =
          let w = found_by (deed_of plan p now call step) x.store in
          let f = fate plan p now call step w in
          silently (store_after (deed_of plan p now call step) x.store) same
          (seat_after (own_after plan p now call step w) call f) _ _
          (by_fate (own_after plan p now call step w) call f (fresh p now call step w o))

      -- another seat's row is another one
      apart : (call : Call) (t : Try) (found : List Found) (i v : ℕ) → now.stand ≡ S.Goes call (S.StoreRow t found i) →
          (q : ℕ) → q ≢ p → (less : q < holders_of plan.settings) → (stand : Stand) → (seat_in x q).stand ≡ stand →
          StoresBy (x.store.row (next_row (seat_in x q))) stand →
          StoresBy (put_at x.store.row (next_row now) i v (next_row (seat_in x q))) stand
      apart call t found i v stood q n less stand e s = go stand e s
        where
          mine : h.at (next_row now) ≡ WithSeat p
          mine = its_row p inside call (S.StoreRow t found i) stood (λ k. k) (omega arith)

          other : h.at (next_row (seat_in x q)) ≡ WithSeat q → (j : ℕ) →
              put_at x.store.row (next_row now) i v (next_row (seat_in x q)) j
              ≡ x.store.row (next_row (seat_in x q)) j
          other is j = put_at_row x.store.row (next_row now) i v (next_row (seat_in x q)) j
              (λ k. n (ap number_of (sym is ∙ ap h.at k ∙ mine)))

          to : (step : Step) (call : Call) → h.at (next_row (seat_in x q)) ≡ WithSeat q →
              StoresStep (x.store.row (next_row (seat_in x q))) step →
              StoresStep (put_at x.store.row (next_row now) i v (next_row (seat_in x q))) step
          to step call is s =
              same_by (x.store.row (next_row (seat_in x q)))
              (put_at x.store.row (next_row now) i v (next_row (seat_in x q))) (other is) (S.Goes call step) s

          go : (stand : Stand) → (seat_in x q).stand ≡ stand → StoresBy (x.store.row (next_row (seat_in x q))) stand →
              StoresBy (put_at x.store.row (next_row now) i v (next_row (seat_in x q))) stand
          go S.Idle e s = tt
          go (S.Glances aim glance) e s = tt
          go (S.Goes c (S.StoreRow u f k)) e s =
              to (S.StoreRow u f k) c (its_row q less c (S.StoreRow u f k) e (λ k. k) (omega arith)) s
          go (S.Goes c (S.Exchange u f)) e s =
              to (S.Exchange u f) c (its_row q less c (S.Exchange u f) e (λ k. k) (omega arith)) s
          go (S.Goes c S.Scans) e s = tt
          go (S.Goes c (S.LoadWord turn)) e s = tt
          go (S.Goes c (S.LoadRow turn word words)) e s = tt
          go (S.Goes c (S.CheckWord turn word words)) e s = tt
          go (S.Goes c (S.LoadPending u)) e s = tt
          go (S.Goes c (S.LoadAnnounced u f)) e s = tt
          go (S.Goes c (S.LoadOp u f a words)) e s = tt
          go (S.Goes c S.RaisePending) e s = tt
          go (S.Goes c (S.StoreOp k)) e s = tt
          go (S.Goes c S.Announce) e s = tt
          go (S.Goes c S.StoreWant) e s = tt
          go (S.Goes c S.StoreAsking) e s = tt
          go (S.Goes c S.HeldWord) e s = tt
          go (S.Goes c (S.TakeHold word)) e s = tt
          go (S.Goes c (S.HeldHead row)) e s = tt
          go (S.Goes c (S.HeldEntry row at left)) e s = tt
          go (S.Goes c (S.HeldReply row at)) e s = tt
          go (S.Goes c (S.GiveBack reply)) e s = tt
          go (S.Goes c (S.Over ending)) e s = tt
          go (S.Goes c (S.LowerPending ending)) e s = tt
          go (S.Goes c S.Stuck) e s = tt

      -- a word of the row is stored
      row_step : (call : Call) (t : Try) (found : List Found) (i : ℕ) → now.stand ≡ S.Goes call (S.StoreRow t found i) →
          Stored (ticked (goes plan x p now call (S.StoreRow t found i)))
      row_step call t found i stood =
          next (with_word x.store (W.RowWord r i) v)
          (seat_after now call (On (cond more_there (S.StoreRow t found (i + 1)) (S.Exchange t found)))) _ _
          (go more_there refl) (λ q n less. apart call t found i v stood q n less (seat_in x q).stand refl
          (all.each q less))
        where
          r : ℕ
          r = next_row now

          v : ℕ
          v = slice_index (new_words plan t found) i

          more_there : Bool
          more_there = nat_lt (i + 1) (length (new_words plan t found))

          was : (j : ℕ) → j < i → slice_index (new_words plan t found) j ≡ x.store.row r j
          was = subst (StoresBy (x.store.row r)) stood (all.each p inside)

          has : (j : ℕ) → j < i + 1 → slice_index (new_words plan t found) j ≡ put_at x.store.row r i v r j
          has j less = elim (cases_eq j i) [
            | inl e ↦ ap (slice_index (new_words plan t found)) e ∙ sym (ap (put_at x.store.row r i v r) e
                ∙ put_at_same x.store.row r i v)
            | inr n ↦ was j (omega (arith, less, n)) ∙ sym (put_at_place x.store.row r i v r j n)
          ]

          go : (c : Bool) → nat_lt (i + 1) (length (new_words plan t found)) ≡ c →
              StoresStep (put_at x.store.row r i v r) (cond c (S.StoreRow t found (i + 1)) (S.Exchange t found))
          go true e = has
          go false e =
              let last = ltb-false (i + 1) (length (new_words plan t found)) e in
              λ j less. has j (omega (arith, less, last))

      -- a step that stores no row, and exchanges nothing
      still_step : (call : Call) (step : Step) → IsStill step → IsOther step →
          Stored (ticked (goes plan x p now call step))
      still_step call step still other =
          plain_step call step other
          (quiet_words (deed_of plan p now call step) x.store (quiet_step plan p now call step still)).1

      update_step : (call : Call) (step : Step) → now.stand ≡ S.Goes call step →
          Stored (ticked (goes plan x p now call step))
      update_step call (S.StoreRow t found i) e = row_step call t found i e
      update_step call (S.Exchange t found) e =
          plain_step call (S.Exchange t found) tt
          (cond_both (x.store.bucket (bucket_of_call plan call) == t.word)
          (with_word x.store (W.Bucket (bucket_of_call plan call)) (S.next_tag plan now t.word)) x.store
          (λ (s : W.Store). s.row ≡ x.store.row) (λ _. refl) (λ _. refl))
      update_step call S.Scans e = still_step call S.Scans tt tt
      update_step call (S.LoadWord turn) e = still_step call (S.LoadWord turn) tt tt
      update_step call (S.LoadRow turn word words) e = still_step call (S.LoadRow turn word words) tt tt
      update_step call (S.CheckWord turn word words) e = still_step call (S.CheckWord turn word words) tt tt
      update_step call (S.LoadPending t) e = still_step call (S.LoadPending t) tt tt
      update_step call (S.LoadAnnounced t found) e = still_step call (S.LoadAnnounced t found) tt tt
      update_step call (S.LoadOp t found announced words) e = still_step call (S.LoadOp t found announced words) tt tt
      update_step call S.RaisePending e = still_step call S.RaisePending tt tt
      update_step call (S.StoreOp i) e = still_step call (S.StoreOp i) tt tt
      update_step call S.Announce e = still_step call S.Announce tt tt
      update_step call S.StoreWant e = still_step call S.StoreWant tt tt
      update_step call S.StoreAsking e = still_step call S.StoreAsking tt tt
      update_step call S.HeldWord e = still_step call S.HeldWord tt tt
      update_step call (S.TakeHold old) e = still_step call (S.TakeHold old) tt tt
      update_step call (S.HeldHead row) e = still_step call (S.HeldHead row) tt tt
      update_step call (S.HeldEntry row at left) e = still_step call (S.HeldEntry row at left) tt tt
      update_step call (S.HeldReply row at) e = still_step call (S.HeldReply row at) tt tt
      update_step call (S.GiveBack reply) e = still_step call (S.GiveBack reply) tt tt
      update_step call (S.Over ending) e = still_step call (S.Over ending) tt tt
      update_step call (S.LowerPending ending) e = still_step call (S.LowerPending ending) tt tt
      update_step call S.Stuck e = still_step call S.Stuck tt tt

      look_step : (aim : Aim) (glance : Glance) → Stored (ticked (glances plan x p now aim glance))
      look_step aim glance =
          let deed = glance_deed plan p now.time aim glance in
          let f = glance_fate plan now.time aim glance (found_by deed x.store) in
          silently (store_after deed x.store) (quiet_words deed x.store (quiet_glance plan p now.time aim glance)).1
          (look_after now aim glance f) _ x.made (go f)
        where
          go : (f : GlanceFate) (row : ℕ → ℕ) → StoresBy row (look_after now aim glance f).stand
          go (Looks next) row = tt
          go (Shows items) row = tt
          go Disturbed row = tt

      look_first : (aim : Aim) → Stored (ticked (look_begins x p now aim))
      look_first aim = silently x.store refl _ x.answers x.made (λ row. tt)

      update_first : (call : Call) → Stored (ticked (update_begins plan x p now call))
      update_first call =
          let taken = scan_begins plan p now.free now in
          let f = first_fate taken.free taken.scan in
          silently x.store refl (record taken { stand = stand_at call f; course = course_from x.clock }) _ x.made
          (stands f (first taken.free taken.scan))
        where
          first : (free : List ℕ) (scan : Option Scan) → Fresh (first_fate free scan)
          first free None = free_on free
          first free (Some scan) = λ row. tt

          stands : (f : Fate) → Fresh f → (row : ℕ → ℕ) → StoresBy row (stand_at call f)
          stands (On step) s row = s row
          stands (Ends reply) s row = tt
          stands Spends s row = tt
          stands Refuses s row = tt

      call_first : (call : Call) → Stored (ticked (call_begins plan x p now call))
      call_first (Lookup key) = look_first (OfKey key)
      call_first (Insert key value) = update_first (Insert key value)
      call_first (Remove key) = update_first (Remove key)
      call_first (Tally key amount) = update_first (Tally key amount)
      call_first (Count key value amount) = update_first (Count key value amount)
      call_first (Put key value) = update_first (Put key value)

      seat_goes : (stand : Stand) → now.stand ≡ stand → IsFlying plan p stand →
          Stored (ticked (goes_on plan x p now stand))
      seat_goes S.Idle e flies = absurd flies
      seat_goes (S.Goes call step) e flies = update_step call step e
      seat_goes (S.Glances aim glance) e flies = look_step aim glance

      pub seat_stores : (what : What) → Fits plan p now what → Stored (ticked (act plan x p now what))
      seat_stores (Begin call) fits = call_first call
      seat_stores (Copy bucket) fits = look_first (OfBucket bucket)
      seat_stores Step_on fits = seat_goes now.stand refl fits

  reader_stores : (x : World) (r : ℕ) (peek : Peek) → Stored x → Stored (happens plan x (OfReader r peek))
  reader_stores x r (Open aim tries) all = record { each = all.each }
  reader_stores x r Peek_on all = go (x.readers r).stand
    where
      go : (stand : S.Peeking) → Stored (ticked (peeks_on plan x r (x.readers r) stand))
      go S.Rests = record { each = all.each }
      go (S.Peeks aim glance) = record { each = all.each }

  pub stored_keep : IsPlan plan → (x : World) → Owned plan x → Stored x → (event : Event) → IsEvent plan x event →
      Stored (happens plan x event)
  stored_keep is x h all (OfSeat p what) fits =
      subst (λ (c : Bool). Stored (cond c (ticked (act plan x p (seat_in x p) what)) x))
      (sym (lt-ltb p (holders_of plan.settings) fits.0))
      (seat_stores is x h all p fits.0 what fits.1)
  stored_keep is x h all (OfReader r peek) fits = reader_stores x r peek all

  pub stored_first : IsPlan plan → Stored (opening_world plan)
  stored_first is = record {
    each = λ q less. subst (λ (k : SeatNow). StoresBy ((opening_world plan).store.row (next_row k)) k.stand)
        (sym (seat_is plan is q less)) tt;
  }

  pub stored_follow : IsPlan plan → (events : List Event) (x : World) → Owned plan x → Stored x →
      AreEvents plan x events → Stored (fold (happens plan) x events)
  stored_follow is [] x h all follow = all
  stored_follow is (event ∷ events) x h all follow =
      stored_follow is events (happens plan x event) (event_keeps plan is x h event follow.0).owned
      (stored_keep is x h all event follow.0) follow.1
