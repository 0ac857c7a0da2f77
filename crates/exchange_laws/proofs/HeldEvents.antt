-- Each event of the table is one of the held look. So a row that a seat reads under its hold is free for no seat.
use Rattle.std.proofs.Common.{◌≡◌, ◌≢◌, ℕ, ◌+◌, ◌-◌, ◌^◌, ◌<◌, ◌⊎◌, inl, inr, Bool, true, false, cond, not, List, [], ◌∷◌, ◌++◌, length, Option, Some, None, refl, sym, ap, ◌∙◌, subst, arith}
use Rattle.std.specs.Prelude.{◌==◌, ◌&&◌, nat_lt}
use Rattle.std.proofs.lemmas.Bool.{cases_eq, eqb-true, eqb-false}
use Rattle.list_laws.proofs.Totals.{many}
use Rattle.step_counts.specs.declared.TheConstants.{ITEM_WORDS}
use Rattle.plain_map.specs.declared.calls.Call.{Call}
use Rattle.plain_map.specs.declared.calls.Call.TheVariants.{Insert, Remove, Lookup, Tally, Count, Put}
use Rattle.plain_map.specs.declared.calls.Reply.{Reply}
use Rattle.plain_map.specs.declared.keys.Pair.{Pair}
use Rattle.plain_map.specs.Calls.{key_in}
use Rattle.word_rows.specs.Memory.{put}
use Rattle.word_rows.specs.ReplyWords.{reply_of_word}
use Rattle.word_rows.proofs.MemoryLemmas.{put_same, put_other}
use Rattle.exchange_model.specs.Plans.{Plan, IsPlan, holders_of, buckets_of, more}
use Rattle.exchange_model.specs.Codes.{ENTRY_WORDS, row_in, generation_in, asking, holding, is_asking, held_row, count_in, entries_in, entries_start, pair_in}
use Rattle.exchange_model.specs.Words as W
use Rattle.exchange_model.specs.Words.{with_word}
use Rattle.exchange_model.specs.Steps as S
use Rattle.exchange_model.specs.Steps.{MadeBySeat, Step, Stand, Scan, SeatNow, Found, Try, Course, Aim, OfKey, OfBucket, Glance, Source, Tried, HeldIn, Pass, deed_of, glance_deed, scan_deed, bucket_of_call, bucket_of_aim, made, next_row, next_tag}
use Rattle.exchange_model.specs.Goes.{ScanFate, ScansOn, Scanned, seats_from, past_hold, scan_fate, scan_fate_of, scanned, scan_begins, Fate, On, Ends, Spends, Refuses, first_fate, after_scan, is_announced, lost, ends_with, gives_back, entry_word, reply_for, next_entry, fate, exchanged, GlanceFate, Looks, Shows, Disturbed, glance_fate, glance_lost, gone_through, pass_on, pass_of, passed, with_pair, may_be, is_aimed, pass_pair, pass_fate, time_after}
use Rattle.exchange_model.specs.Worlds.{World, Answer, IsAim, seat_in, with_seat, ticked, found_by, store_after, seat_after, answers_after, stepped, made_by_step, goes, glances, look_after, look_answers, course_from, stand_at, update_begins, look_begins, call_begins, goes_on, act, LOOK_TRIES, What, Begin, Copy, Step_on, IsFlying, Fits}
use Rattle.exchange_laws.proofs.RowLists.{is_row, first_there}
use Rattle.exchange_laws.proofs.Words.{bucket_small, row_of_tag, rows_few}
use Rattle.exchange_laws.proofs.Owned.{Owned, Room, word_in, not_both}
use Rattle.exchange_laws.proofs.OwnedScans.{Good}
use Rattle.exchange_laws.proofs.OwnedEvents.{Quiet, quiet, scan_going}
use Rattle.exchange_laws.proofs.Holding as H
use Rattle.exchange_laws.proofs.HoldingScans as HS
use Rattle.exchange_laws.proofs.HeldStates.{hold_of, among, look_of, look_of_step, look_of_glance, look_of_source, sweep_of, held_state, among_some, asking_asks, time_of_asking, holding_asks_not, row_of_holding, holding_some, hold_asks, hold_has}
use Rattle.exchange_laws.proofs.HeldScans.{Arrives, IsSeen, arrives, from_seat}
use Rattle.exchange_laws.proofs.Held as He
use Rattle.exchange_laws.proofs.Held.{Tied, Ties, HoldsOf, Wants, WantStep, WantGlance, kept_times, fate_times, LeadsTo, quietly, look_moves, want_stored, asked, takes, exchanges, scans_to, loaded, given_one, has_read}
use Rattle.exchange_laws.proofs.HeldFates.{NoHeld, replied, loses, back_on, scan_on, first_on, IsPlain, plain_on, held_look, held_wants, after_free, after_kept, after_time, after_own_scan, scanned_time, past_times, scan_times, leads_scanned}

module _ (plan : Plan) (is_plan : IsPlan plan) (x : World) (owned : Owned plan x) (tied : Tied plan x) (p : ℕ)
    (inside : p < holders_of plan.settings) where
  abbrev now : SeatNow
  now = seat_in x p

  abbrev s : H.State
  s = held_state plan x tied.owner tied.free tied.since

  abbrev bs : ℕ
  bs = buckets_of plan.settings

  abbrev n : ℕ
  n = (holders_of plan.settings)

  wants_at : (stand : Stand) → now.stand ≡ stand → Wants plan (x.store.want p) stand
  wants_at stand e = subst (λ (k : Stand). Wants plan (x.store.want p) k) e (tied.wants p inside)

  module _ (call : Call) (of_seat : p < plan.settings.seats) where
    -- ---- steps that hold nothing

    quiet_fate : (store : W.Store) → ((b : ℕ) → row_in plan (store.bucket b) ≡ word_in plan x b) →
        ((q : ℕ) → store.hold q ≡ x.store.hold q) → ((q : ℕ) → store.want q ≡ x.store.want q) → (own : SeatNow) →
        own.free ≡ now.free → own.kept ≡ now.kept → own.scan ≡ now.scan → own.time ≡ now.time → (next : Fate)
        (answers : List Answer) (updates : List MadeBySeat) → NoHeld plan next → look_of plan now.stand ≡ H.NoLook →
        Ties plan x tied (ticked (with_seat x p store (seat_after own call next) answers updates))
    quiet_fate store bucket hold want own fr kp sc t next answers updates none none_now =
        quietly plan x owned tied p inside store (seat_after own call next) answers updates
        (record {
          bucket = bucket;
          free = after_free own call next ∙ fr;
          kept = after_kept own call next ∙ kp;
          scan = after_own_scan own call next ∙ sc;
        }) hold want (after_time own call next ∙ t) (held_look plan own call next none ∙ sym none_now)
        (held_wants plan (store.want p) own call next none)

    plain_step : (own : SeatNow) (step : Step) → own.free ≡ now.free → own.kept ≡ now.kept → own.scan ≡ now.scan →
        own.time ≡ now.time → now.stand ≡ S.Goes call step → IsPlain step → look_of_step plan step ≡ H.NoLook →
        (store : W.Store) → ((b : ℕ) → row_in plan (store.bucket b) ≡ word_in plan x b) →
        ((q : ℕ) → store.hold q ≡ x.store.hold q) → ((q : ℕ) → store.want q ≡ x.store.want q) → (word : ℕ)
        (updates : List MadeBySeat) →
        (let next = fate plan p now call step word in
        Ties plan x tied (ticked (with_seat x p store (seat_after own call next)
        (answers_after x p call (stepped now.course) next) updates)))
    plain_step own step fr kp sc t stood plain none store bucket hold want word updates =
        quiet_fate store bucket hold want own fr kp sc t (fate plan p now call step word)
        (answers_after x p call (stepped now.course) (fate plan p now call step word)) updates
        (plain_on plan p now call step word plain) (ap (look_of plan) stood ∙ none)

    -- ---- the held look of an update

    -- a step that leaves the rows, and is answered in no way
    at_step : (own : SeatNow) (step : Step) (store : W.Store) → World
    at_step own step store = ticked (with_seat x p store (seat_after own call (On step)) x.answers (x.made ++ []))

    on_load : (next : Fate) (answers : List Answer) (updates : List MadeBySeat) (look : H.Look) →
        look_of plan (seat_after now call next).stand ≡ look → HoldsOf plan (H.moved bs n s p look) →
        (H.IsActive look → H.IsActive (s.look p)) → Wants plan (x.store.want p) (seat_after now call next).stand →
        Ties plan x tied (ticked (with_seat x p x.store (seat_after now call next) answers updates))
    on_load next answers updates look is holds was wants =
        look_moves plan x owned tied p inside x.store (seat_after now call next) answers updates
        (record {
          bucket = λ b. refl;
          free = after_free now call next;
          kept = after_kept now call next;
          scan = after_own_scan now call next;
        }) (λ q. refl) (λ q. refl) (after_time now call next) look is holds was wants

    want_step : now.stand ≡ S.Goes call S.StoreWant → Ties plan x tied (ticked (goes plan x p now call S.StoreWant))
    want_step stood =
        let b = bucket_of_call plan call in
        want_stored plan x owned tied p inside (with_word x.store (W.Want p) b) (seat_after now call (On S.StoreAsking))
        x.answers (x.made ++ []) b (bucket_small plan is_plan (key_in call))
        (record { bucket = λ a. refl; free = refl; kept = refl; scan = refl }) (λ q. refl) (λ q. refl) refl
        (ap (look_of plan) stood) refl (put_same x.store.want p b)

    ask_step : now.stand ≡ S.Goes call S.StoreAsking → Ties plan x tied (ticked (goes plan x p now call S.StoreAsking))
    ask_step stood =
        asked plan x owned tied p inside (with_word x.store (W.Hold p) (asking (now.time + 1)))
        (seat_after (record now { time = now.time + 1 }) call (On S.HeldWord)) x.answers (x.made ++ [])
        (record { bucket = λ a. refl; free = refl; kept = refl; scan = refl }) (λ q. refl) (λ q. refl) refl
        (ap (look_of plan) stood) refl (wants_at (S.Goes call S.StoreAsking) stood)

    word_step : now.stand ≡ S.Goes call S.HeldWord → Ties plan x tied (ticked (goes plan x p now call S.HeldWord))
    word_step stood =
        let b = bucket_of_call plan call in
        on_load (On (S.TakeHold (x.store.bucket b))) x.answers (x.made ++ []) (H.Loaded (word_in plan x b)) refl
        (loaded plan x owned tied p inside b (ap (look_of plan) stood) (wants_at (S.Goes call S.HeldWord) stood))
        (λ _. subst H.IsActive (sym (ap (look_of plan) stood)) tt) tt

    take_step : (old : ℕ) → now.stand ≡ S.Goes call (S.TakeHold old) →
        Ties plan x tied (ticked (goes plan x p now call (S.TakeHold old)))
    take_step old stood = go (x.store.hold p == asking now.time) refl
      where
        go : (c : Bool) → (x.store.hold p == asking now.time) ≡ c → Ties plan x tied (ticked (with_seat x p
            (cond c (with_word x.store (W.Hold p) (holding (row_in plan old))) x.store)
            (seat_after now call (On (S.HeldHead (cond c (row_in plan old) (held_row (x.store.hold p)))))) x.answers
            (x.made ++ [])))
        go true it =
            takes plan x owned tied p inside (with_word x.store (W.Hold p) (holding (row_in plan old)))
            (seat_after now call (On (S.HeldHead (row_in plan old)))) x.answers (x.made ++ []) (row_in plan old)
            (record { bucket = λ a. refl; free = refl; kept = refl; scan = refl }) (λ q. refl) (λ q. refl) refl
            (ap (look_of plan) stood) (eqb-true (x.store.hold p) (asking now.time) it) refl tt
        go false not_it =
            on_load (On (S.HeldHead (held_row (x.store.hold p)))) x.answers (x.made ++ [])
            (H.Reads (held_row (x.store.hold p))) refl
            (given_one plan x owned tied p inside (row_in plan old) (ap (look_of plan) stood) (x.store.hold p) refl
            (eqb-false (x.store.hold p) (asking now.time) not_it))
            (λ _. subst H.IsActive (sym (ap (look_of plan) stood)) tt) tt

    -- it reads on in its row, or there is no further step
    reads_on : (row : ℕ) (step : Step) → look_of plan now.stand ≡ H.Reads row → look_of_step plan step ≡ H.Reads row →
        ((want bucket : ℕ) → WantStep want bucket step) →
        Ties plan x tied (ticked (with_seat x p x.store (seat_after now call (On step)) x.answers (x.made ++ [])))
    reads_on row step was is wants =
        quietly plan x owned tied p inside x.store (seat_after now call (On step)) x.answers (x.made ++ [])
        (record { bucket = λ a. refl; free = refl; kept = refl; scan = refl }) (λ q. refl) (λ q. refl) refl
        (is ∙ sym was) (wants (x.store.want p) (bucket_of_call plan call))

    read_out : (row : ℕ) (next : Fate) (answers : List Answer) → look_of plan now.stand ≡ H.Reads row →
        NoHeld plan next →
        Ties plan x tied (ticked (with_seat x p x.store (seat_after now call next) answers (x.made ++ [])))
    read_out row next answers was none =
        on_load next answers (x.made ++ []) H.NoLook (held_look plan now call next none)
        (has_read plan x owned tied p inside row was) (λ a. absurd a)
        (held_wants plan (x.store.want p) now call next none)

    entry_next : (row at left : ℕ) → look_of plan now.stand ≡ H.Reads row →
        Ties plan x tied (ticked (with_seat x p x.store (seat_after now call (next_entry row at left)) x.answers
        (x.made ++ [])))
    entry_next row at left was = go (nat_lt 0 left)
      where
        go : (c : Bool) → Ties plan x tied (ticked (with_seat x p x.store
            (seat_after now call (On (cond c (S.HeldEntry row at left) S.Stuck))) x.answers (x.made ++ [])))
        go true = reads_on row (S.HeldEntry row at left) was refl (λ w b. tt)
        go false = read_out row (On S.Stuck) x.answers was (refl, λ w b. tt)

    head_step : (row : ℕ) → now.stand ≡ S.Goes call (S.HeldHead row) →
        Ties plan x tied (ticked (goes plan x p now call (S.HeldHead row)))
    head_step row stood =
        let word = x.store.row row 0 in
        entry_next row (entries_start (count_in plan word)) (entries_in plan word) (ap (look_of plan) stood)

    entry_step : (row at left : ℕ) → now.stand ≡ S.Goes call (S.HeldEntry row at left) →
        Ties plan x tied (ticked (goes plan x p now call (S.HeldEntry row at left)))
    entry_step row at left stood = go (x.store.row row at == entry_word p now.posted)
      where
        go : (c : Bool) →
            (let next = cond c (On (S.HeldReply row (at + 1))) (next_entry row (at + ENTRY_WORDS) (left - 1)) in
            Ties plan x tied (ticked (with_seat x p x.store (seat_after now call next)
            (answers_after x p call (stepped now.course) next) (x.made ++ []))))
        go true = reads_on row (S.HeldReply row (at + 1)) (ap (look_of plan) stood) refl (λ w b. tt)
        go false = entry_next row (at + ENTRY_WORDS) (left - 1) (ap (look_of plan) stood)

    reply_step : (row at : ℕ) → now.stand ≡ S.Goes call (S.HeldReply row at) →
        Ties plan x tied (ticked (goes plan x p now call (S.HeldReply row at)))
    reply_step row at stood =
        let next = gives_back (reply_of_word (x.store.row row at)) in
        read_out row next (answers_after x p call (stepped now.course) next) (ap (look_of plan) stood)
        (back_on plan (reply_of_word (x.store.row row at)))

    back_step : (reply : Reply) → now.stand ≡ S.Goes call (S.GiveBack reply) →
        Ties plan x tied (ticked (goes plan x p now call (S.GiveBack reply)))
    back_step reply stood =
        He.gives_back plan x owned tied p inside (with_word x.store (W.Hold p) 0)
        (seat_after now call (On (S.Over (S.Applied reply)))) x.answers (x.made ++ [])
        (record { bucket = λ a. refl; free = refl; kept = refl; scan = refl }) (λ q. refl) (λ q. refl) refl
        (ap (look_of plan) stood) refl tt

    -- ---- an exchange

    exchange_step : (t : Try) (found : List Found) → now.stand ≡ S.Goes call (S.Exchange t found) →
        Ties plan x tied (ticked (goes plan x p now call (S.Exchange t found)))
    exchange_step t found stood = go (x.store.bucket b == t.word) refl
      where
        b : ℕ
        b = bucket_of_call plan call

        small : b < bs
        small = bucket_small plan is_plan (key_in call)

        q : Quiet plan is_plan x owned p inside (S.Goes call (S.Exchange t found)) × (now.scan ≡ None)
        q = quiet plan is_plan x owned p inside (S.Goes call (S.Exchange t found)) stood (λ k. k)

        row : ℕ
        row = next_row now

        store : W.Store
        store = with_word x.store (W.Bucket b) (next_tag plan now t.word)

        few : row < 2 ^ plan.row_bits
        few =
            let there = first_there now.free q.0.enough in
            let is = q.0.rows.mine row (omega (arith, there)) in
            let most = rows_few plan is_plan in
            omega (arith, is.1, most)

        word : (a : ℕ) → row_in plan (store.bucket a) ≡ put s.word b row a
        word a = elim (cases_eq a b) [
          | inl e ↦
              ap (λ k. row_in plan (store.bucket k)) e ∙ ap (row_in plan)
              (put_same x.store.bucket b (next_tag plan now t.word))
              ∙ row_of_tag plan (generation_in plan t.word + 1) row few ∙ sym
              (ap (put s.word b row) e ∙ put_same s.word b row)
          | inr m ↦
              ap (row_in plan) (put_other x.store.bucket b (next_tag plan now t.word) a m) ∙ sym
              (put_other s.word b row a m)
        ]

        reply : Fate
        reply = ends_with (is_announced t.turn) (reply_for p (made plan t found).made)

        none : NoHeld plan reply
        none = replied plan (is_announced t.turn) (reply_for p (made plan t found).made)

        own : SeatNow
        own = exchanged now (row_in plan t.word)

        go : (c : Bool) → (x.store.bucket b == t.word) ≡ c →
            Ties plan x tied (ticked (with_seat x p (cond c store x.store)
            (seat_after (cond c own now) call (cond c reply (lost t.turn)))
            (answers_after x p call (stepped now.course) (cond c reply (lost t.turn)))
            (x.made ++ cond c (made plan t found).made [])))
        go true it =
            exchanges plan x owned tied p inside store (seat_after own call reply)
            (answers_after x p call (stepped now.course) reply)
            (x.made ++ (made plan t found).made) b small q.0.enough q.1
            (after_free own call reply)
            (after_kept own call reply ∙ ap (λ w. now.kept ++ row_in plan w ∷ [])
            (sym (eqb-true (x.store.bucket b) t.word it)))
            (after_own_scan own call reply ∙ q.1) word (λ k. refl) (λ k. refl) (after_time own call reply)
            (held_look plan own call reply none ∙ sym (ap (look_of plan) stood))
            (held_wants plan (x.store.want p) own call reply none)
        go false not_it =
            quiet_fate x.store (λ a. refl) (λ k. refl) (λ k. refl) now refl refl refl refl (lost t.turn)
            (answers_after x p call (stepped now.course) (lost t.turn)) (x.made ++ []) (loses plan t.turn)
            (ap (look_of plan) stood)

    -- ---- scans

    -- a step of a scan that is under way
    swept_by : (scan : Scan) → now.scan ≡ Some scan → (quiet : s.look p ≡ H.NoLook) → now.free ≡ [] →
        (store : W.Store) (hf : ℕ → H.Hold) (sf : ℕ → H.Sweep)
        (holds : HoldsOf plan (record s { hold = hf; sweep = sf })) →
        ((b : ℕ) → row_in plan (store.bucket b) ≡ word_in plan x b) →
        ((q : ℕ) → hold_of (store.hold q) ≡ hf q) → ((q : ℕ) → store.want q ≡ x.store.want q) →
        ((q : ℕ) → q ≢ p → sf q ≡ s.sweep q) → (found : ℕ) →
        Arrives plan (record s { hold = hf; sweep = sf }) p inside holds quiet (scan_fate plan p scan found) →
        (answers : List Answer) (updates : List MadeBySeat) →
        (let f = scan_fate plan p scan found in
        Ties plan x tied (ticked (with_seat x p store
        (seat_after (scanned now f) call (after_scan now.free f)) answers updates)))
    swept_by scan e quiet no_free store hf sf holds bucket hold want else_ found arrives_at answers updates =
        let f = scan_fate plan p scan found in
        let next = after_scan now.free f in
        let none = scan_on plan now.free f in
        scans_to plan x owned tied p inside store
        (seat_after (scanned now f) call next) answers updates hf sf quiet holds
        bucket hold want else_ (after_time (scanned now f) call next ∙ scanned_time now f)
        (held_look plan (scanned now f) call next none)
        (held_wants plan (store.want p) (scanned now f) call next none) now.kept
        f arrives_at
        (λ r.
        let counts = scan_times plan p scan found r in
        let all = ap (λ (sc : Option Scan). kept_times r now.kept sc) e in
        omega (arith, counts, all))
        (leads_scanned now call f next)

    left_rows : (scan : Scan) → now.scan ≡ Some scan → H.Sweeps bs n s p (sweep_of (Some scan))
    left_rows scan e = subst (H.Sweeps bs n s p) (ap sweep_of e) (tied.holds.sweeps p)

    -- where nothing is exchanged
    by_load : (scan : Scan) → (e : now.scan ≡ Some scan) → (quiet : s.look p ≡ H.NoLook) → now.free ≡ [] → (found : ℕ) →
        IsSeen plan s p inside tied.holds quiet scan found → (answers : List Answer) (updates : List MadeBySeat) →
        (let f = scan_fate plan p scan found in
        Ties plan x tied (ticked (with_seat x p x.store
        (seat_after (scanned now f) call (after_scan now.free f)) answers updates)))
    by_load scan e quiet no_free found seen answers updates =
        swept_by scan e quiet no_free x.store s.hold s.sweep tied.holds (λ b. refl) (λ q. refl) (λ q. refl)
        (λ q m. refl)
        found (arrives plan s p inside tied.holds quiet scan found (left_rows scan e) seen) answers updates

    scan_by : (scan : Scan) → now.scan ≡ Some scan → s.look p ≡ H.NoLook → now.free ≡ [] → (answers : List Answer)
        (updates : List MadeBySeat) →
        (let found = found_by (scan_deed plan (Some scan)) x.store in
        let f = scan_fate plan p scan found in
        Ties plan x tied (ticked (with_seat x p (store_after (scan_deed plan (Some scan)) x.store)
        (seat_after (scanned now f) call (after_scan now.free f)) answers updates)))
    scan_by (S.Seats k left held) e quiet no_free answers updates =
        by_load (S.Seats k left held) e quiet no_free (x.store.hold k) refl answers updates
    scan_by (S.Sees k t left held) e quiet no_free answers updates =
        by_load (S.Sees k t left held) e quiet no_free (x.store.want k) refl answers updates
    scan_by (S.Loads k t bucket left held) e quiet no_free answers updates =
        by_load (S.Loads k t bucket left held) e quiet no_free (x.store.bucket bucket) refl answers updates
    scan_by (S.Gives k t row left held) e quiet no_free answers updates = go (x.store.hold k == asking t) refl
      where
        found : ℕ
        found = x.store.hold k

        f : ScanFate
        f = scan_fate plan p (S.Gives k t row left held) found

        go : (c : Bool) → (x.store.hold k == asking t) ≡ c → Ties plan x tied (ticked (with_seat x p
            (cond c (with_word x.store (W.Hold k) (holding row)) x.store)
            (seat_after (scanned now f) call (after_scan now.free f)) answers updates))
        go false not_it =
            by_load (S.Gives k t row left held) e quiet no_free found
            (refl, eqb-false (x.store.hold k) (asking t) not_it) answers updates
        go true it =
            let asks : s.hold k ≡ H.Asking t =
            ap hold_of (eqb-true (x.store.hold k) (asking t) it) ∙ hold_asks (asking t) (asking_asks t)
            ∙ ap H.Asking (time_of_asking t) in
            let holds = HS.gave_keeps bs n s tied.holds p k t row (among left) (ap sweep_of e) asks in
            let base = HS.gave bs n s p k row (among left) in
            let at : H.Sweeps bs n base p (H.Seats (k + 1) (among left)) =
            subst (H.Sweeps bs n base p) (put_same s.sweep p (H.Seats (k + 1) (among left))) (holds.sweeps p) in
            let is_one : is_asking found ≡ true =
            ap is_asking (eqb-true (x.store.hold k) (asking t) it) ∙ asking_asks t in
            swept_by (S.Gives k t row left held) e quiet no_free (with_word x.store (W.Hold k) (holding row))
            (put s.hold k (H.Holding row)) (put s.sweep p (H.Seats (k + 1) (among left))) holds (λ b. refl) hold_then
            (λ q. refl) (λ q m. put_other s.sweep p (H.Seats (k + 1) (among left)) q m) found
            (subst (λ (c : Bool). Arrives plan base p inside holds quiet
            (cond c (seats_from plan p (k + 1) left held) (past_hold plan p k left held found))) (sym is_one)
            (from_seat plan base p inside holds quiet left held (k + 1) at)) answers updates
          where
            hold_then : (q : ℕ) → hold_of (put x.store.hold k (holding row) q) ≡ put s.hold k (H.Holding row) q
            hold_then q = elim (cases_eq q k) [
              | inl z ↦
                  ap hold_of (ap (put x.store.hold k (holding row)) z ∙ put_same x.store.hold k (holding row))
                  ∙ hold_has (holding row) (holding_some row) (holding_asks_not row) ∙ ap H.Holding (row_of_holding row)
                  ∙ sym (ap (put s.hold k (H.Holding row)) z ∙ put_same s.hold k (H.Holding row))
              | inr m ↦
                  ap hold_of (put_other x.store.hold k (holding row) q m) ∙ sym (put_other s.hold k (H.Holding row) q m)
            ]

    scan_step : now.stand ≡ S.Goes call S.Scans → Ties plan x tied (ticked (goes plan x p now call S.Scans))
    scan_step stood = go now.scan refl (scan_going plan is_plan x owned p inside call of_seat stood now.scan refl 0)
      where
        go : (sc : Option Scan) → now.scan ≡ sc →
            (now.free ≡ []) × (now.kept ≡ []) × Good plan is_plan owned.at p of_seat (scan_fate_of plan p now.scan 0) →
            Ties plan x tied (ticked (goes plan x p now call S.Scans))
        go None e g =
            let room : Room plan p (S.Goes call S.Scans) now.free now.kept None =
            subst (λ (sc : Option Scan). Room plan p (S.Goes call S.Scans) now.free now.kept sc) e
            (subst (λ (k : Stand). Room plan p k now.free now.kept now.scan) stood (owned.seats p inside).room) in
            absurd (room.0 tt)
        go (Some scan) e g =
            subst (λ (sc : Option Scan).
            (let found = found_by (scan_deed plan sc) x.store in
            let f = scan_fate_of plan p sc found in
            Ties plan x tied (ticked (with_seat x p (store_after (scan_deed plan sc) x.store)
            (seat_after (scanned now f) call (after_scan now.free f))
            (answers_after x p call (stepped now.course) (after_scan now.free f)) (x.made ++ []))))) (sym e)
            (scan_by scan e (ap (look_of plan) stood) g.0 _ (x.made ++ []))

    -- ---- each step of an update

    done : (step : Step) → IsPlain step → (own : SeatNow) → own.free ≡ now.free → own.kept ≡ now.kept →
        own.scan ≡ now.scan → own.time ≡ now.time → look_of_step plan step ≡ H.NoLook → now.stand ≡ S.Goes call step →
        (store : W.Store) → ((b : ℕ) → row_in plan (store.bucket b) ≡ word_in plan x b) →
        ((q : ℕ) → store.hold q ≡ x.store.hold q) → ((q : ℕ) → store.want q ≡ x.store.want q) →
        (let next = fate plan p now call step (found_by (deed_of plan p now call step) x.store) in
        Ties plan x tied (ticked (with_seat x p store (seat_after own call next)
        (answers_after x p call (stepped now.course) next) (x.made ++ made_by_step plan p call step
        (found_by (deed_of plan p now call step) x.store)))))
    done step plain own fr kp sc t none e store bucket hold want =
        plain_step own step fr kp sc t e plain none store bucket hold want
        (found_by (deed_of plan p now call step) x.store)
        (x.made ++ made_by_step plan p call step (found_by (deed_of plan p now call step) x.store))

    update_step : (step : Step) → now.stand ≡ S.Goes call step → Ties plan x tied (ticked (goes plan x p now call step))
    update_step S.Scans e = scan_step e
    update_step (S.LoadWord turn) e =
        done (S.LoadWord turn) tt now refl refl refl refl refl e x.store (λ b. refl) (λ q. refl) (λ q. refl)
    update_step (S.LoadRow turn word words) e =
        done (S.LoadRow turn word words) tt now refl refl refl refl refl e x.store (λ b. refl) (λ q. refl) (λ q. refl)
    update_step (S.CheckWord turn word words) e =
        done (S.CheckWord turn word words) tt now refl refl refl refl refl e x.store (λ b. refl) (λ q. refl) (λ q. refl)
    update_step (S.LoadPending t) e =
        done (S.LoadPending t) tt now refl refl refl refl refl e x.store (λ b. refl) (λ q. refl) (λ q. refl)
    update_step (S.LoadAnnounced t found) e =
        done (S.LoadAnnounced t found) tt now refl refl refl refl refl e x.store (λ b. refl) (λ q. refl) (λ q. refl)
    update_step (S.LoadOp t found announced words) e =
        done (S.LoadOp t found announced words) tt now refl refl refl refl refl e x.store (λ b. refl) (λ q. refl)
        (λ q. refl)
    update_step (S.StoreRow t found i) e =
        done (S.StoreRow t found i) tt now refl refl refl refl refl e
        (store_after (deed_of plan p now call (S.StoreRow t found i)) x.store) (λ b. refl) (λ q. refl) (λ q. refl)
    update_step (S.Exchange t found) e = exchange_step t found e
    update_step S.RaisePending e =
        done S.RaisePending tt now refl refl refl refl refl e
        (store_after (deed_of plan p now call S.RaisePending) x.store) (λ b. refl) (λ q. refl) (λ q. refl)
    update_step (S.StoreOp i) e =
        done (S.StoreOp i) tt now refl refl refl refl refl e
        (store_after (deed_of plan p now call (S.StoreOp i)) x.store) (λ b. refl) (λ q. refl) (λ q. refl)
    update_step S.Announce e =
        done S.Announce tt now refl refl refl refl refl e (store_after (deed_of plan p now call S.Announce) x.store)
        (λ b. refl) (λ q. refl) (λ q. refl)
    update_step S.StoreWant e = want_step e
    update_step S.StoreAsking e = ask_step e
    update_step S.HeldWord e = word_step e
    update_step (S.TakeHold old) e = take_step old e
    update_step (S.HeldHead row) e = head_step row e
    update_step (S.HeldEntry row at left) e = entry_step row at left e
    update_step (S.HeldReply row at) e = reply_step row at e
    update_step (S.GiveBack reply) e = back_step reply e
    update_step (S.Over ending) e =
        done (S.Over ending) tt (record now { posted = now.posted + 1 }) refl refl refl refl refl e
        (store_after (deed_of plan p now call (S.Over ending)) x.store) (λ b. refl) (λ q. refl) (λ q. refl)
    update_step (S.LowerPending ending) e =
        done (S.LowerPending ending) tt now refl refl refl refl refl e
        (store_after (deed_of plan p now call (S.LowerPending ending)) x.store) (λ b. refl) (λ q. refl) (λ q. refl)
    update_step S.Stuck e = done S.Stuck tt now refl refl refl refl refl e x.store (λ b. refl) (λ q. refl) (λ q. refl)

  -- ---- looks

  -- what comes of a word of a row: it goes on in it, or is through
  abbrev Going : Source → Aim → GlanceFate → Type 0
  Going source aim (Looks glance) =
      ((look_of_glance plan glance ≡ look_of_source source) ⊎ (look_of_glance plan glance ≡ H.NoLook))
      × ((want bucket : ℕ) → WantGlance want bucket glance)
  Going source aim (Shows items) = ⊥
  Going source aim Disturbed = ⊥

  either_going : (source : Source) (aim : Aim) (a b : GlanceFate) (c : Bool) → Going source aim a → Going source aim b →
      Going source aim (cond c a b)
  either_going source aim a b true na nb = na
  either_going source aim a b false na nb = nb

  through_going : (source : Source) (aim : Aim) (kept : List Pair) → Going source aim (gone_through source kept)
  through_going (Tried left word) aim kept = (inl refl, λ w b. tt)
  through_going (HeldIn row) aim kept = (inr refl, λ w b. tt)

  pass_going : (source : Source) (aim : Aim) (pass : Pass) → Going source aim (pass_on source pass)
  pass_going source aim pass =
      either_going source aim (Looks (S.GlanceItem source pass)) (gone_through source pass.kept)
      (nat_lt pass.item pass.count) (inl refl, λ w b. tt) (through_going source aim pass.kept)

  word_going : (source : Source) (aim : Aim) (pass : Pass) (found : ℕ) → Going source aim
      (pass_fate source aim pass found)
  word_going source aim pass found =
      let pair = pair_in (more pass.part found) in
      let longer = Looks (S.GlanceItem source (record pass { part = more pass.part found })) in
      either_going source aim (pass_on source (passed pass))
      (cond (nat_lt (length pass.part + 1) ITEM_WORDS) longer (pass_pair source aim pass pair))
      ((length pass.part == 0) && not (may_be aim found)) (pass_going source aim (passed pass))
      (either_going source aim longer (pass_pair source aim pass pair) (nat_lt (length pass.part + 1) ITEM_WORDS)
      (inl refl, λ w b. tt)
      (either_going source aim (gone_through source (more pass.kept pair)) (pass_on source (with_pair pass pair))
      (is_aimed aim pair) (through_going source aim (more pass.kept pair))
      (pass_going source aim (with_pair pass pair))))

  module _ (aim : Aim) (was : Glance) (stood : now.stand ≡ S.Glances aim was) where
    aims : IsAim plan aim
    aims = (wants_at (S.Glances aim was) stood).0

    -- a look that holds nothing, before and after
    abbrev Calm : GlanceFate → Type 0
    Calm (Looks glance) = (look_of_glance plan glance ≡ H.NoLook) × ((want bucket : ℕ) → WantGlance want bucket glance)
    Calm (Shows items) = Unit {0}
    Calm Disturbed = Unit {0}

    calm_look : time_after now.time was ≡ now.time → (f : GlanceFate) → Calm f → look_of plan now.stand ≡ H.NoLook →
        Ties plan x tied (ticked (with_seat x p x.store (look_after now aim was f)
        (look_answers plan x p aim (stepped now.course) f) x.made))
    calm_look t (Looks glance) q none =
        quietly plan x owned tied p inside x.store (look_after now aim was (Looks glance)) x.answers x.made
        (record { bucket = λ b. refl; free = refl; kept = refl; scan = refl }) (λ k. refl) (λ k. refl) t
        (q.0 ∙ sym none)
        (aims, q.1 (x.store.want p) (bucket_of_aim plan aim))
    calm_look t (Shows items) q none =
        quietly plan x owned tied p inside x.store (look_after now aim was (Shows items))
        (look_answers plan x p aim (stepped now.course) (Shows items)) x.made
        (record { bucket = λ b. refl; free = refl; kept = refl; scan = refl }) (λ k. refl) (λ k. refl) refl
        (sym none) tt
    calm_look t Disturbed q none =
        quietly plan x owned tied p inside x.store (look_after now aim was Disturbed) x.answers x.made
        (record { bucket = λ b. refl; free = refl; kept = refl; scan = refl }) (λ k. refl) (λ k. refl) refl (sym none)
        (aims, tt)

    -- in a row
    row_look : time_after now.time was ≡ now.time → (source : Source) → look_of plan now.stand ≡ look_of_source source →
        (f : GlanceFate) → Going source aim f →
        Ties plan x tied (ticked (with_seat x p x.store (look_after now aim was f)
        (look_answers plan x p aim (stepped now.course) f) x.made))
    row_look t source look (Looks glance) (inl same, w) =
        quietly plan x owned tied p inside x.store (look_after now aim was (Looks glance)) x.answers x.made
        (record { bucket = λ b. refl; free = refl; kept = refl; scan = refl }) (λ k. refl) (λ k. refl) t
        (same ∙ sym look)
        (aims, w (x.store.want p) (bucket_of_aim plan aim))
    row_look t (Tried left word) look (Looks glance) (inr none, w) = calm_look t (Looks glance) (none, w) look
    row_look t (HeldIn row) look (Looks glance) (inr none, w) =
        look_moves plan x owned tied p inside x.store (look_after now aim was (Looks glance)) x.answers x.made
        (record { bucket = λ b. refl; free = refl; kept = refl; scan = refl }) (λ k. refl) (λ k. refl) t H.NoLook none
        (has_read plan x owned tied p inside row look) (λ a. absurd a)
        (aims, w (x.store.want p) (bucket_of_aim plan aim))
    row_look t source look (Shows items) g = absurd g
    row_look t source look Disturbed g = absurd g

  lost_calm : (aim : Aim) (was : Glance) (stood : now.stand ≡ S.Glances aim was) (left : ℕ) →
      Calm aim was stood (glance_lost left)
  lost_calm aim was stood left = go (nat_lt 0 left)
    where
      go : (b : Bool) → Calm aim was stood (cond b (Looks (S.GlanceWord (left - 1))) Disturbed)
      go true = (refl, λ w b. tt)
      go false = tt

  aim_small : (aim : Aim) → IsAim plan aim → bucket_of_aim plan aim < bs
  aim_small (OfKey key) is = bucket_small plan is_plan key
  aim_small (OfBucket bucket) is = is

  look_step : (aim : Aim) (glance : Glance) → now.stand ≡ S.Glances aim glance →
      Ties plan x tied (ticked (glances plan x p now aim glance))
  look_step aim (S.GlanceWord left) e =
      calm_look aim (S.GlanceWord left) e refl
      (Looks (S.GlanceCount (Tried left (x.store.bucket (bucket_of_aim plan aim))))) (refl, λ w b. tt)
      (ap (look_of plan) e)
  look_step aim (S.GlanceCount source) e =
      let found = found_by (glance_deed plan p now.time aim (S.GlanceCount source)) x.store in
      row_look aim (S.GlanceCount source) e refl source (ap (look_of plan) e)
      (pass_on source (pass_of (count_in plan found))) (pass_going source aim (pass_of (count_in plan found)))
  look_step aim (S.GlanceItem source pass) e =
      let found = found_by (glance_deed plan p now.time aim (S.GlanceItem source pass)) x.store in
      row_look aim (S.GlanceItem source pass) e refl source (ap (look_of plan) e) (pass_fate source aim pass found)
      (word_going source aim pass found)
  look_step aim (S.GlanceCheck left word kept) e =
      calm_look aim (S.GlanceCheck left word kept) e refl
      (glance_fate plan now.time aim (S.GlanceCheck left word kept) (x.store.bucket (bucket_of_aim plan aim)))
      (go (x.store.bucket (bucket_of_aim plan aim) == word)) (ap (look_of plan) e)
    where
      go : (b : Bool) → Calm aim (S.GlanceCheck left word kept) e (cond b (Shows kept) (glance_lost left))
      go true = tt
      go false = lost_calm aim (S.GlanceCheck left word kept) e left
  look_step aim S.GlanceWant e =
      let b = bucket_of_aim plan aim in
      want_stored plan x owned tied p inside (with_word x.store (W.Want p) b)
      (look_after now aim S.GlanceWant (Looks S.GlanceAsking)) x.answers x.made b
      (aim_small aim (aims aim S.GlanceWant e))
      (record { bucket = λ a. refl; free = refl; kept = refl; scan = refl }) (λ q. refl) (λ q. refl) refl
      (ap (look_of plan) e)
      refl (aims aim S.GlanceWant e, put_same x.store.want p b)
  look_step aim S.GlanceAsking e =
      asked plan x owned tied p inside (with_word x.store (W.Hold p) (asking (now.time + 1)))
      (look_after now aim S.GlanceAsking (Looks S.GlanceHeld)) x.answers x.made
      (record { bucket = λ a. refl; free = refl; kept = refl; scan = refl }) (λ q. refl) (λ q. refl) refl
      (ap (look_of plan) e)
      refl (wants_at (S.Glances aim S.GlanceAsking) e)
  look_step aim S.GlanceHeld e =
      let b = bucket_of_aim plan aim in
      look_moves plan x owned tied p inside x.store
      (look_after now aim S.GlanceHeld (Looks (S.GlanceTake (x.store.bucket b)))) x.answers x.made
      (record { bucket = λ a. refl; free = refl; kept = refl; scan = refl }) (λ q. refl) (λ q. refl) refl
      (H.Loaded (word_in plan x b)) refl
      (loaded plan x owned tied p inside b (ap (look_of plan) e) (wants_at (S.Glances aim S.GlanceHeld) e).1)
      (λ _. subst H.IsActive (sym (ap (look_of plan) e)) tt) (aims aim S.GlanceHeld e, tt)
  look_step aim (S.GlanceTake old) e = go (x.store.hold p == asking now.time) refl
    where
      is_aim : IsAim plan aim
      is_aim = aims aim (S.GlanceTake old) e

      go : (c : Bool) → (x.store.hold p == asking now.time) ≡ c → Ties plan x tied (ticked (with_seat x p
          (cond c (with_word x.store (W.Hold p) (holding (row_in plan old))) x.store)
          (look_after now aim (S.GlanceTake old)
          (Looks (S.GlanceCount (HeldIn (cond c (row_in plan old) (held_row (x.store.hold p))))))) x.answers x.made))
      go true it =
          takes plan x owned tied p inside (with_word x.store (W.Hold p) (holding (row_in plan old)))
          (look_after now aim (S.GlanceTake old) (Looks (S.GlanceCount (HeldIn (row_in plan old))))) x.answers x.made
          (row_in plan old) (record { bucket = λ a. refl; free = refl; kept = refl; scan = refl }) (λ q. refl)
          (λ q. refl) refl
          (ap (look_of plan) e) (eqb-true (x.store.hold p) (asking now.time) it) refl (is_aim, tt)
      go false not_it =
          look_moves plan x owned tied p inside x.store
          (look_after now aim (S.GlanceTake old) (Looks (S.GlanceCount (HeldIn (held_row (x.store.hold p)))))) x.answers
          x.made (record { bucket = λ a. refl; free = refl; kept = refl; scan = refl }) (λ q. refl) (λ q. refl) refl
          (H.Reads (held_row (x.store.hold p))) refl
          (given_one plan x owned tied p inside (row_in plan old) (ap (look_of plan) e) (x.store.hold p) refl
          (eqb-false (x.store.hold p) (asking now.time) not_it)) (λ _. subst H.IsActive (sym (ap (look_of plan) e)) tt)
          (is_aim, tt)
  look_step aim (S.GlanceBack kept) e =
      He.gives_back plan x owned tied p inside (with_word x.store (W.Hold p) 0)
      (look_after now aim (S.GlanceBack kept) (Shows kept))
      (look_answers plan x p aim (stepped now.course) (Shows kept)) x.made
      (record { bucket = λ a. refl; free = refl; kept = refl; scan = refl }) (λ q. refl) (λ q. refl) refl
      (ap (look_of plan) e) refl tt

  -- ---- begins

  pub look_first : (aim : Aim) → IsAim plan aim → now.stand ≡ S.Idle →
      Ties plan x tied (ticked (look_begins x p now aim))
  look_first aim is e =
      quietly plan x owned tied p inside x.store
      (record now { stand = S.Glances aim (S.GlanceWord (LOOK_TRIES - 1)); course = course_from x.clock }) x.answers
      x.made
      (record { bucket = λ b. refl; free = refl; kept = refl; scan = refl }) (λ q. refl) (λ q. refl) refl
      (sym (ap (look_of plan) e)) (is, tt)

  first_look : (call : Call) (next : Fate) → NoHeld plan next → look_of plan (stand_at call next) ≡ H.NoLook
  first_look call (On step) k = k.0
  first_look call (Ends reply) k = refl
  first_look call Spends k = refl
  first_look call Refuses k = refl

  first_wants : (call : Call) (next : Fate) → NoHeld plan next → Wants plan (x.store.want p) (stand_at call next)
  first_wants call (On step) k = k.1 (x.store.want p) (bucket_of_call plan call)
  first_wants call (Ends reply) k = tt
  first_wants call Spends k = tt
  first_wants call Refuses k = tt

  -- a scan begins with all rows of the seat
  starts : (q : Quiet plan is_plan x owned p inside S.Idle) → now.scan ≡ None →
      H.Sweeps bs n s p (H.Seats 0 (among now.kept))
  starts q none =
      HS.scan_starts bs n s p (among now.kept)
      (λ r t. (tied.agrees p inside).owners r (let some = among_some now.kept r t in omega (arith, some)))
      (λ r t. (tied.agrees p inside).lives r (let some = among_some now.kept r t in omega (arith, some)))
      (λ r b t less e. not_both plan owned.at p r b
      (q.rows.mine r (let some = among_some now.kept r t in omega (arith, some))).0
      (ap owned.at (sym e) ∙ (owned.words b less).0))

  begun : (call : Call) (course : Course) (answers : List Answer) → now.stand ≡ S.Idle → (free : List ℕ) →
      now.free ≡ free →
      (let taken = scan_begins plan p free now in
      let next = first_fate taken.free taken.scan in
      Ties plan x tied (ticked (with_seat x p x.store
      (record taken { stand = stand_at call next; course = course }) answers x.made)))
  begun call course answers e (row ∷ free) is =
      let next = first_fate now.free now.scan in
      let none = first_on plan now.free now.scan in
      quietly plan x owned tied p inside x.store (record now { stand = stand_at call next; course = course }) answers
      x.made (record { bucket = λ b. refl; free = refl; kept = refl; scan = refl }) (λ q. refl) (λ q. refl) refl
      (first_look call next none ∙ sym (ap (look_of plan) e)) (first_wants call next none)
  begun call course answers e [] is = go (seats_from plan p 0 now.kept [])
      (from_seat plan s p inside tied.holds quiet_now now.kept [] 0 (starts q.0 q.1))
      (λ r. (let counts = past_times plan p 0 now.kept [] r in
      let all = ap (λ (sc : Option Scan). kept_times r now.kept sc) q.1 in
      omega (arith, counts, all)))
    where
      quiet_now : s.look p ≡ H.NoLook
      quiet_now = ap (look_of plan) e

      q : Quiet plan is_plan x owned p inside S.Idle × (now.scan ≡ None)
      q = quiet plan is_plan x owned p inside S.Idle e (λ k. k)

      go : (f : ScanFate) → Arrives plan s p inside tied.holds quiet_now f →
          ((r : ℕ) → kept_times r now.kept now.scan ≡ many (is_row r) [] + fate_times r f) →
          (let taken = scanned (record now { kept = [] }) f in
          let next = first_fate taken.free taken.scan in
          Ties plan x tied (ticked (with_seat x p x.store
          (record taken { stand = stand_at call next; course = course }) answers x.made)))
      go f arr counts =
          let taken = scanned (record now { kept = [] }) f in
          let next = first_fate taken.free taken.scan in
          let none = first_on plan taken.free taken.scan in
          scans_to plan x owned tied p inside x.store (record taken { stand = stand_at call next; course = course })
          answers x.made s.hold s.sweep quiet_now tied.holds (λ b. refl) (λ k. refl) (λ k. refl) (λ k m. refl)
          (scanned_time (record now { kept = [] }) f) (first_look call next none) (first_wants call next none) [] f arr
          counts (lists f)
        where
          lists : (g : ScanFate) → LeadsTo now.free [] g (scanned (record now { kept = [] }) g).free
              (scanned (record now { kept = [] }) g).kept (scanned (record now { kept = [] }) g).scan
          lists (ScansOn scan) = (refl, refl, refl)
          lists (Scanned left held) = (refl, refl, refl)

  update_first : (call : Call) → now.stand ≡ S.Idle → Ties plan x tied (ticked (update_begins plan x p now call))
  update_first call e =
      let taken = scan_begins plan p now.free now in
      let next = first_fate taken.free taken.scan in
      begun call (course_from x.clock) (answers_after x p call (course_from x.clock) next) e now.free refl

  pub call_first : (call : Call) → Fits plan p now (Begin call) →
      Ties plan x tied (ticked (call_begins plan x p now call))
  call_first (Lookup key) fits = look_first (OfKey key) fits.1.1 fits.0
  call_first (Insert key value) fits = update_first (Insert key value) fits.0
  call_first (Remove key) fits = update_first (Remove key) fits.0
  call_first (Tally key amount) fits = update_first (Tally key amount) fits.0
  call_first (Count key value amount) fits = update_first (Count key value amount) fits.0
  call_first (Put key value) fits = update_first (Put key value) fits.0

  pub seat_goes : (stand : Stand) → now.stand ≡ stand → IsFlying plan p stand →
      Ties plan x tied (ticked (goes_on plan x p now stand))
  seat_goes S.Idle e flies = absurd flies
  seat_goes (S.Goes call step) e flies = update_step call flies step e
  seat_goes (S.Glances aim glance) e flies = look_step aim glance e

  -- THE RESULT: each event of a seat
  pub seat_ties : (what : What) → Fits plan p now what → Ties plan x tied (ticked (act plan x p now what))
  seat_ties (Begin call) fits = call_first call fits
  seat_ties (Copy bucket) fits = look_first (OfBucket bucket) fits.2 fits.0
  seat_ties Step_on fits = seat_goes now.stand refl fits
