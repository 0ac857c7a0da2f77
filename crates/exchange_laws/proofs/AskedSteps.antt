-- The steps of an announcement, and all events: the updates of a seat that were made are those that it was answered, in
-- order, and at most the one that it has under way.
use Rattle.std.proofs.Common.{◌≡◌, ◌≢◌, ℕ, suc, ◌+◌, ◌-◌, ◌<◌, Bool, true, false, cond, List, [], ◌∷◌, ◌++◌, Option, Some, None, refl, sym, ap, ◌∙◌, subst, arith, true≢false, append-nil, lt-ltb, get_or-set_same}
use Rattle.std.specs.Prelude.{◌==◌, slice_index_or}
use Rattle.list_laws.proofs.Totals.{many}
use Rattle.plain_map.specs.declared.calls.Call.{Call}
use Rattle.plain_map.specs.declared.calls.Call.TheVariants.{Insert, Remove, Lookup, Tally, Count, Put}
use Rattle.plain_map.specs.declared.calls.Reply.{Reply}
use Rattle.plain_map.specs.declared.keys.Pair.{Pair}
use Rattle.plain_map.specs.Updates.{IsUpdate}
use Rattle.plain_map.specs.Calls.{key_in}
use Rattle.map_laws.specs.ByKey.{Made}
use Rattle.word_rows.proofs.MemoryLemmas.{put_same, put_other}
use Rattle.exchange_model.specs.Plans.{holders_of, Plan, IsPlan, buckets_of}
use Rattle.exchange_model.specs.Codes.{Entry, row_in, row_at, is_pending, announcing, over}
use Rattle.exchange_model.specs.Words as W
use Rattle.exchange_model.specs.Words.{with_word}
use Rattle.exchange_model.specs.Steps as S
use Rattle.exchange_model.specs.Steps.{Step, Stand, Scan, SeatNow, Found, Try, Aim, OfKey, OfBucket, Glance, deed_of, next_tag, glance_deed, bucket_of_call}
use Rattle.exchange_model.specs.Goes.{scan_begins, Fate, On, Ends, Spends, first_fate, is_announced, lost, ends_with, entry_for, reply_for, exchanged, fate, GlanceFate, Looks, Shows, Disturbed, glance_fate, asked_by_aim, told_by_items}
use Rattle.exchange_model.specs.Worlds.{peek_answers, with_answer, World, Answer, Event, OfSeat, OfReader, IsEvent, What, Begin, Copy, Step_on, Fits, IsFlying, BySeat, seat_in, with_seat, ticked, found_by, store_after, seat_after, answers_after, stepped, goes, glances, look_after, look_answers, course_from, stand_at, update_begins, look_begins, call_begins, goes_on, act, happens, nobody, Peek, Open, Peek_on, peeks_on, made_by_step}
use Rattle.exchange_model.specs.Laws.{made_by, updates_by, ReadsHeld}
use Rattle.exchange_laws.proofs.RowLists.{is_row}
use Rattle.exchange_laws.proofs.Words.{bucket_small}
use Rattle.exchange_laws.proofs.Owned.{Owned}
use Rattle.exchange_laws.proofs.OwnedMoves.{Moves}
use Rattle.exchange_laws.proofs.OwnedSteps.{IsStill, quiet_words, quiet_step, quiet_glance}
use Rattle.exchange_laws.proofs.TrueReads.{Reads}
use Rattle.exchange_laws.proofs.FoundOps.{FoundOk}
use Rattle.exchange_laws.proofs.StoredRows.{Stored}
use Rattle.exchange_laws.proofs.Announcing.{State}
use Rattle.exchange_laws.proofs.Announcements.{TellsStep, TellsAt, Announces, IsOther, silent_words, silent_step, silent_glance, own_posted, begun_posted}
use Rattle.exchange_laws.proofs.Entries.{entry_told}
use Rattle.exchange_laws.proofs.OpTells.{rest_pends_not}
use Rattle.exchange_laws.proofs.Tied.{row_now, NotFree, Tied, TryAt, rests_at, pends_word, TryStep}
use Rattle.exchange_laws.proofs.TiedMoves.{word_live, same_row}
use Rattle.exchange_laws.proofs.TiedSteps as TS
use Rattle.exchange_laws.proofs.TiedSteps.{AreCounted}
use Rattle.exchange_laws.proofs.HeldFinds.{Finds}
use Rattle.exchange_laws.proofs.FoundFrom.{Froms}
use Rattle.exchange_laws.proofs.TakenCalls.{call_under, calls_in, Taken}
use Rattle.exchange_laws.proofs.Asked.{reply_of_entry, updates_of, home_entries, reply_now, under, RepliesIn, Asks, reply_same, OverAt, answer_own, answer_other, answer_refused, answer_spent, look_answer, copy_answer, peek_answer, owed, owed_step, settled}
use Rattle.exchange_laws.proofs.AskedExchanges.{exchange_asks}
use Rattle.exchange_laws.proofs.AskedEvents as E

module _ (plan : Plan) (is_plan : IsPlan plan) (x : World) (h : Owned plan x) (reads : Reads plan x)
    (finds : FoundOk plan x)
    (stored : Stored plan x) (all : Announces plan x) (counted : AreCounted plan is_plan x) (s : State)
    (tied : Tied plan x s)
    (froms : Froms plan x) (taken : Taken plan x) (sees : Finds plan x)
    (lives : (q row : ℕ) → ReadsHeld (seat_in x q).stand row → NotFree plan x row) (asks : Asks plan x) (p : ℕ)
    (inside : p < holders_of plan.settings) where
  abbrev now : SeatNow
  now = seat_in x p

  module _ (call : Call) (of_seat : p < plan.settings.seats) where
    abbrev b : ℕ
    b = bucket_of_call plan call

    small : b < buckets_of plan.settings
    small = bucket_small plan is_plan (key_in call)

    abbrev After : Step → World
    After step = ticked (goes plan x p now call step)

    is_update_call : (step : Step) → now.stand ≡ S.Goes call step → IsUpdate call
    is_update_call step stood =
        let d : TryAt plan x.store.bucket x.store.op s p (S.Goes call step) =
        subst (TryAt plan x.store.bucket x.store.op s p) stood (tied.each p of_seat) in
        d.0

    tells : (step : Step) → now.stand ≡ S.Goes call step →
        TellsStep (x.store.announced p) (x.store.op p) now.posted b call step
    tells step stood =
        let said : TellsAt plan (x.store.announced p) (x.store.op p) now.posted (S.Goes call step) =
        subst (TellsAt plan (x.store.announced p) (x.store.op p) now.posted) stood (all.each p inside) in
        said

    settled_was : (step : Step) → now.stand ≡ S.Goes call step →
        settled x p ≡ updates_by p x.answers ++ owed_step call step
    settled_was step stood = ap (λ (k : Stand). updates_by p x.answers ++ owed k) stood

    -- ---- it is announced

    announce_step : now.stand ≡ S.Goes call S.Announce → Moves plan h.at x (After S.Announce) →
        Asks plan (After S.Announce)
    announce_step stood moves =
        E.by_own plan is_plan x h reads finds stored all counted s tied froms taken sees lives asks p inside store
        then x.answers
        (x.made ++ []) moves refl (λ q n. put_other x.store.announced p w q n)
        (λ q n. ap (made_by q) (append-nil x.made))
        (λ q n. refl) (λ row e. e) (λ _. asked) (λ _. replies) (λ _. tt)
      where
        w : ℕ
        w = announcing now.posted b

        store : W.Store
        store = with_word x.store (W.Announced p) w

        then : SeatNow
        then = seat_after now call (On (S.LoadWord 2))

        y : World
        y = After S.Announce

        rests : is_pending (x.store.announced p) ≡ false
        rests = ap is_pending (tells S.Announce stood).0 ∙ rest_pends_not now.posted

        s_rests : s.pending p ≡ false
        s_rests = rests_at plan is_plan s p (x.store.announced p) (tied.pends p of_seat) now.posted
            (tells S.Announce stood).0

        now_p : seat_in y p ≡ then
        now_p = get_or-set_same x.seats p then nobody (let long = h.long in omega (arith, inside, long))

        -- no row that is not free has an entry of an op that was not announced before
        no_entry : (row : ℕ) → NotFree plan x row → (e : Entry) →
            entry_for p now.posted (row_at plan (x.store.row row)).entries ≡ Some e → ⊥
        no_entry row live e is =
            let high = (entry_told p now.posted (row_at plan (x.store.row row)).entries e is).2 in
            let old = tied.olds row p live of_seat in
            let done = tied.holds.over p s_rests in
            let posted = tied.posted p of_seat in omega (arith, high, old, done, posted)

        none_now : reply_now plan y p ≡ None
        none_now =
            reply_same plan is_plan x y p (same_row plan is_plan x h s tied y moves refl)
            (ap (λ (k : SeatNow). k.posted) now_p) (ap (λ (k : SeatNow). call_under k.stand) now_p
            ∙ sym (ap call_under stood))
            ∙ ap (λ (k : Stand). reply_of_entry (entry_for p now.posted (home_entries plan x (call_under k)))) stood
            ∙ go (entry_for p now.posted (row_now plan x b).entries) refl
          where
            go : (o : Option Entry) → entry_for p now.posted (row_now plan x b).entries ≡ o → reply_of_entry o ≡ None
            go None e = refl
            go (Some d) e =
                absurd (no_entry (row_in plan (x.store.bucket b)) (word_live plan is_plan x h s tied b small) d e)

        under_now : under plan y p ≡ []
        under_now =
            ap (λ (o : Option Reply). updates_of (is_pending (store.announced p)) (calls_in y p) o) none_now
            ∙ go (is_pending (store.announced p)) (calls_in y p)
          where
            go : (c : Bool) (o : Option Call) → updates_of c o None ≡ []
            go true None = refl
            go true (Some call) = refl
            go false o = refl

        asked : made_by p (x.made ++ []) ≡ settled y p ++ under plan y p
        asked =
            ap (made_by p) (append-nil x.made) ∙ asks.asked p of_seat
            ∙ ap (λ (ms : List Made). settled x p ++ ms)
            (ap (λ (c : Bool). updates_of c (calls_in x p) (reply_now plan x p)) rests ∙ sym under_now)
            ∙ ap (λ (ms : List Made). ms ++ under plan y p) (settled_was S.Announce stood
            ∙ sym (ap (λ (k : SeatNow). updates_by p x.answers ++ owed k.stand) now_p))

        replies : (row : ℕ) → NotFree plan x row → RepliesIn plan y row p
        replies row live pends e is =
            absurd (no_entry row live e (ap (λ n. entry_for p n (row_at plan (x.store.row row)).entries)
            (sym (ap (λ (k : SeatNow). k.posted) now_p)) ∙ is))

    -- ---- and over

    over_step : (ending : S.Ending) → now.stand ≡ S.Goes call (S.Over ending) →
        Moves plan h.at x (After (S.Over ending)) →
        Asks plan (After (S.Over ending))
    over_step ending stood moves =
        E.by_own plan is_plan x h reads finds stored all counted s tied froms taken sees lives asks p inside store
        then x.answers
        (x.made ++ []) moves refl (λ q n. put_other x.store.announced p w q n)
        (λ q n. ap (made_by q) (append-nil x.made))
        (λ q n. refl) (λ row e. e) (λ _. asked) (λ _ row live pends. absurd (true≢false (sym pends ∙ rests_now)))
        (λ _. tt)
      where
        w : ℕ
        w = over now.posted

        store : W.Store
        store = with_word x.store (W.Announced p) w

        then : SeatNow
        then = seat_after (record now { posted = now.posted + 1 }) call (On (S.LowerPending ending))

        y : World
        y = After (S.Over ending)

        said : (ending : S.Ending) → TryStep plan x.store.bucket x.store.op s p b (S.Over ending) → s.pending p ≡ true
        said (S.Applied reply) t = t.0
        said S.GivenUp t = t.0

        pends : is_pending (x.store.announced p) ≡ true
        pends =
            let d : TryAt plan x.store.bucket x.store.op s p (S.Goes call (S.Over ending)) =
            subst (TryAt plan x.store.bucket x.store.op s p) stood (tied.each p of_seat) in
            (pends_word plan is_plan s p (x.store.announced p) (tied.pends p of_seat) (said ending d.1)).0

        rests_now : is_pending (store.announced p) ≡ false
        rests_now = ap is_pending (put_same x.store.announced p w) ∙ rest_pends_not (suc now.posted)

        now_p : seat_in y p ≡ then
        now_p = get_or-set_same x.seats p then nobody (let long = h.long in omega (arith, inside, long))

        under_now : under plan y p ≡ []
        under_now = ap (λ (c : Bool). updates_of c (calls_in y p) (reply_now plan y p)) rests_now

        under_was : under plan x p ≡ owed_step call (S.LowerPending ending)
        under_was =
            ap (λ (c : Bool). updates_of c (calls_in x p) (reply_now plan x p)) pends
            ∙ ap (λ (k : Stand). updates_of true (call_under k) (reply_now plan x p)) stood
            ∙ go ending (subst (OverAt (reply_now plan x p)) stood (asks.overs p of_seat))
          where
            go : (ending : S.Ending) → OverAt (reply_now plan x p) (S.Goes call (S.Over ending)) →
                updates_of true (Some call) (reply_now plan x p) ≡ owed_step call (S.LowerPending ending)
            go (S.Applied reply) o = ap (updates_of true (Some call)) o
            go S.GivenUp o = ap (updates_of true (Some call)) o

        owes_nothing : (ending : S.Ending) → owed_step call (S.Over ending) ≡ []
        owes_nothing (S.Applied reply) = refl
        owes_nothing S.GivenUp = refl

        asked : made_by p (x.made ++ []) ≡ settled y p ++ under plan y p
        asked =
            ap (made_by p) (append-nil x.made) ∙ asks.asked p of_seat
            ∙ ap (λ (ms : List Made). ms ++ under plan x p) (settled_was (S.Over ending) stood
            ∙ ap (λ (ms : List Made). updates_by p x.answers ++ ms) (owes_nothing ending)
            ∙ append-nil (updates_by p x.answers))
            ∙ ap (λ (ms : List Made). updates_by p x.answers ++ ms) under_was
            ∙ sym (ap (λ (k : SeatNow). updates_by p x.answers ++ owed k.stand) now_p)
            ∙ sym (append-nil (settled y p)) ∙ ap (λ (ms : List Made). settled y p ++ ms) (sym under_now)

    -- ---- it is answered

    module _ (ending : S.Ending) (stood : now.stand ≡ S.Goes call (S.LowerPending ending)) where
      abbrev store : W.Store
      store = with_word x.store W.Pending (x.store.pending - 1)

      abbrev Y : Fate → World
      Y f = ticked (with_seat x p store (seat_after now call f) (answers_after x p call (stepped now.course) f)
          (x.made ++ []))

      rests : is_pending (x.store.announced p) ≡ false
      rests = ap is_pending (tells (S.LowerPending ending) stood) ∙ rest_pends_not now.posted

      by_answer : (f : Fate) → (seat_after now call f).stand ≡ S.Idle → (seat_after now call f).free ≡ now.free →
          updates_by p (answers_after x p call (stepped now.course) f) ≡ updates_by p x.answers ++ owed_step call
          (S.LowerPending ending) →
          ((q : ℕ) → q ≢ p → updates_by q (answers_after x p call (stepped now.course) f) ≡ updates_by q x.answers) →
          Moves plan h.at x (Y f) → Asks plan (Y f)
      by_answer f idle free own others moves =
          E.by_own plan is_plan x h reads finds stored all counted s tied froms taken sees lives asks p inside store
          (seat_after now call f) (answers_after x p call (stepped now.course) f) (x.made ++ []) moves refl
          (λ q n. refl)
          (λ q n. ap (made_by q) (append-nil x.made)) others (λ row e. sym (ap (many (is_row row)) free)
          ∙ e) (λ _. asked)
          (λ _ row live pends. absurd (true≢false (sym pends ∙ rests)))
          (λ _. subst (OverAt (reply_now plan (Y f) p)) (sym idle) tt)
        where
          now_p : seat_in (Y f) p ≡ seat_after now call f
          now_p = get_or-set_same x.seats p (seat_after now call f) nobody (let long = h.long in
              omega (arith, inside, long))

          settled_now : settled (Y f) p ≡ updates_by p x.answers ++ owed_step call (S.LowerPending ending)
          settled_now =
              ap (λ (k : SeatNow). updates_by p (Y f).answers ++ owed k.stand) now_p
              ∙ ap (λ (k : Stand). updates_by p (Y f).answers ++ owed k) idle
              ∙ append-nil (updates_by p (Y f).answers) ∙ own

          asked : made_by p (x.made ++ []) ≡ settled (Y f) p ++ under plan (Y f) p
          asked =
              ap (made_by p) (append-nil x.made) ∙ asks.asked p of_seat
              ∙ ap (λ (ms : List Made). settled x p ++ ms)
              (ap (λ (c : Bool). updates_of c (calls_in x p) (reply_now plan x p)) rests
              ∙ sym (ap (λ (c : Bool). updates_of c (calls_in (Y f) p) (reply_now plan (Y f) p)) rests))
              ∙ ap (λ (ms : List Made). ms ++ under plan (Y f) p)
              (settled_was (S.LowerPending ending) stood ∙ sym settled_now)

    lower_step : (ending : S.Ending) → now.stand ≡ S.Goes call (S.LowerPending ending) →
        Moves plan h.at x (After (S.LowerPending ending)) → Asks plan (After (S.LowerPending ending))
    lower_step (S.Applied reply) stood moves =
        by_answer (S.Applied reply) stood (Ends reply) refl refl
        (answer_own x p p call reply (stepped now.course) refl
        (is_update_call (S.LowerPending (S.Applied reply)) stood))
        (λ q n. answer_other x q p call reply (stepped now.course) (λ m. n (sym m))) moves
    lower_step S.GivenUp stood moves =
        by_answer S.GivenUp stood Spends refl refl
        (answer_spent x p p call (stepped now.course) ∙ sym (append-nil (updates_by p x.answers)))
        (λ q n. answer_spent x q p call (stepped now.course)) moves

    -- ---- all steps

    calm : (step : Step) → now.stand ≡ S.Goes call step →
        E.IsCalm plan is_plan x h reads finds stored all counted s tied froms taken sees lives asks p inside call
        of_seat step →
        owed_step call step ≡ [] → IsOther step → IsStill step → Moves plan h.at x (After step) →
        made_by_step plan p call step (found_by (deed_of plan p now call step) x.store) ≡ [] → Asks plan (After step)
    calm step stood is owes other still moves none =
        let deed = deed_of plan p now call step in
        E.calm_step plan is_plan x h reads finds stored all counted s tied froms taken sees lives asks p inside call
        of_seat step
        stood is owes moves (quiet_words deed x.store (quiet_step plan p now call step still)).0
        (silent_words deed x.store (silent_step plan p now call step other)).0
        (own_posted plan p now call step (found_by deed x.store) other)
        (TS.own_frees plan is_plan x h reads finds stored all counted s tied p inside call of_seat step
        (found_by deed x.store) still)
        none

    -- an exchange that happens, or does not
    exchange_step : (t : Try) (found : List Found) → now.stand ≡ S.Goes call (S.Exchange t found) →
        Moves plan h.at x (After (S.Exchange t found)) → Asks plan (After (S.Exchange t found))
    exchange_step t found stood moves = go (x.store.bucket b == t.word) refl
      where
        lost_fate : (x.store.bucket b == t.word) ≡ false →
            E.C plan is_plan x h reads finds stored all counted s tied froms taken
            sees lives asks p inside call of_seat (fate plan p now call (S.Exchange t found) (x.store.bucket b))
        lost_fate e =
            subst (λ (c : Bool). E.C plan is_plan x h reads finds stored all counted s tied froms taken sees lives
            asks p inside
            call of_seat (cond c (ends_with (is_announced t.turn) (reply_for p (S.made plan t found).made))
            (lost t.turn))) (sym e)
            (E.loses plan is_plan x h reads finds stored all counted s tied froms taken sees lives asks p inside call
            of_seat
            t.turn)

        go : (c : Bool) → (x.store.bucket b == t.word) ≡ c → Asks plan (After (S.Exchange t found))
        go true e =
            exchange_asks plan is_plan x h reads finds stored all counted s tied froms taken asks p of_seat call t
            found stood
            moves e
        go false e =
            E.calm_by plan is_plan x h reads finds stored all counted s tied froms taken sees lives asks p inside call
            of_seat
            (S.Exchange t found) stood refl (lost_fate e) moves
            (ap (λ (c : Bool). (cond c (with_word x.store (W.Bucket b) (next_tag plan now t.word)) x.store).bucket) e)
            (ap (λ (c : Bool). (cond c (with_word x.store (W.Bucket b) (next_tag plan now t.word)) x.store).announced)
            e)
            (ap (λ (c : Bool). (cond c (exchanged now (row_in plan t.word)) now).posted) e)
            (λ row m. sym
            (ap (λ (c : Bool). many (is_row row) (cond c (exchanged now (row_in plan t.word)) now).free) e) ∙ m)
            (ap (λ (c : Bool). cond c (S.made plan t found).made []) e)

    update_step : (step : Step) → now.stand ≡ S.Goes call step → Moves plan h.at x (After step) → Asks plan (After step)
    update_step (S.CheckWord turn old words) e moves =
        E.check_step plan is_plan x h reads finds stored all counted s tied froms taken sees lives asks p inside call
        of_seat turn
        old words e moves
    update_step (S.Exchange t found) e moves = exchange_step t found e moves
    update_step S.Announce e moves = announce_step e moves
    update_step (S.Over ending) e moves = over_step ending e moves
    update_step (S.LowerPending ending) e moves = lower_step ending e moves
    update_step (S.StoreRow t found i) e moves =
        E.calm_step plan is_plan x h reads finds stored all counted s tied froms taken sees lives asks p inside call
        of_seat
        (S.StoreRow t found i) e tt refl moves refl refl refl (λ row m. m) refl
    update_step (S.StoreOp i) e moves =
        E.calm_step plan is_plan x h reads finds stored all counted s tied froms taken sees lives asks p inside call
        of_seat
        (S.StoreOp i) e tt refl moves refl refl refl (λ row m. m) refl
    update_step S.Scans e moves = calm S.Scans e tt refl tt tt moves refl
    update_step (S.LoadWord turn) e moves = calm (S.LoadWord turn) e tt refl tt tt moves refl
    update_step (S.LoadRow turn old words) e moves = calm (S.LoadRow turn old words) e tt refl tt tt moves refl
    update_step (S.LoadPending t) e moves = calm (S.LoadPending t) e tt refl tt tt moves refl
    update_step (S.LoadAnnounced t found) e moves = calm (S.LoadAnnounced t found) e tt refl tt tt moves refl
    update_step (S.LoadOp t found announced words) e moves =
        calm (S.LoadOp t found announced words) e tt refl tt tt moves refl
    update_step S.RaisePending e moves = calm S.RaisePending e tt refl tt tt moves refl
    update_step S.StoreWant e moves = calm S.StoreWant e tt refl tt tt moves refl
    update_step S.StoreAsking e moves = calm S.StoreAsking e tt refl tt tt moves refl
    update_step S.HeldWord e moves = calm S.HeldWord e tt refl tt tt moves refl
    update_step (S.TakeHold old) e moves = calm (S.TakeHold old) e tt refl tt tt moves refl
    update_step (S.HeldHead row) e moves = calm (S.HeldHead row) e tt refl tt tt moves refl
    update_step (S.HeldEntry row at left) e moves = calm (S.HeldEntry row at left) e tt refl tt tt moves refl
    update_step (S.HeldReply row at) e moves = calm (S.HeldReply row at) e tt refl tt tt moves refl
    update_step (S.GiveBack reply) e moves = calm (S.GiveBack reply) e tt refl tt tt moves refl
    update_step S.Stuck e moves = calm S.Stuck e tt refl tt tt moves refl

  -- ---- looks, and begins

  -- a seat that makes no update, before and after
  idly : (store : W.Store) (then : SeatNow) (answers : List Answer) →
      (let y = ticked (with_seat x p store then answers x.made) in
      Moves plan h.at x y → store.bucket ≡ x.store.bucket → store.announced ≡ x.store.announced →
      then.posted ≡ now.posted →
      ((row : ℕ) → many (is_row row) then.free ≡ 0 → many (is_row row) now.free ≡ 0) → owed then.stand ≡ [] →
      owed now.stand ≡ [] →
      (p < plan.settings.seats → is_pending (x.store.announced p) ≡ false) →
      ((q : ℕ) → updates_by q answers ≡ updates_by q x.answers) →
      ((told : Option Reply) → OverAt told then.stand) → Asks plan y)
  idly store then answers moves buckets words posted frees owes owed_none rests told over =
      E.by_own plan is_plan x h reads finds stored all counted s tied froms taken sees lives asks p inside store then
      answers x.made
      moves buckets (λ q n. ap (λ (g : ℕ → ℕ). g q) words) (λ q n. refl) (λ q n. told q) frees asked
      (λ of_seat row live pends. absurd (true≢false (sym pends ∙ ap (λ (g : ℕ → ℕ). is_pending (g p)) words
      ∙ rests of_seat)))
      (λ _. over (reply_now plan y p))
    where
      y : World
      y = ticked (with_seat x p store then answers x.made)

      now_p : seat_in y p ≡ then
      now_p = get_or-set_same x.seats p then nobody (let long = h.long in omega (arith, inside, long))

      asked : p < plan.settings.seats → made_by p x.made ≡ settled y p ++ under plan y p
      asked of_seat =
          asks.asked p of_seat
          ∙ ap (λ (ms : List Made). settled x p ++ ms)
          (ap (λ (c : Bool). updates_of c (calls_in x p) (reply_now plan x p)) (rests of_seat)
          ∙ sym (ap (λ (c : Bool). updates_of c (calls_in y p) (reply_now plan y p))
          (ap (λ (g : ℕ → ℕ). is_pending (g p)) words ∙ rests of_seat)))
          ∙ ap (λ (ms : List Made). ms ++ under plan y p)
          (ap (λ (ms : List Made). ms ++ owed now.stand) (sym (told p))
          ∙ ap (λ (ms : List Made). updates_by p answers ++ ms) (owed_none ∙ sym owes)
          ∙ sym (ap (λ (k : SeatNow). updates_by p answers ++ owed k.stand) now_p))

  resting : (stand : Stand) → now.stand ≡ stand → call_under stand ≡ None → is_pending (x.store.announced p) ≡ false
  resting stand stood none = go stand none (subst (TellsAt plan (x.store.announced p) (x.store.op p) now.posted) stood
      (all.each p inside))
    where
      some : Option Call → ℕ
      some None = 0
      some (Some call) = 1

      go : (stand : Stand) → call_under stand ≡ None →
          TellsAt plan (x.store.announced p) (x.store.op p) now.posted stand →
          is_pending (x.store.announced p) ≡ false
      go S.Idle n t = ap is_pending t ∙ rest_pends_not now.posted
      go (S.Goes call step) n t = absurd (let k = ap some n in omega (arith, k))
      go (S.Glances aim glance) n t = ap is_pending t ∙ rest_pends_not now.posted

  look_step : (aim : Aim) (glance : Glance) → now.stand ≡ S.Glances aim glance →
      Moves plan h.at x (ticked (glances plan x p now aim glance)) →
      Asks plan (ticked (glances plan x p now aim glance))
  look_step aim glance stood moves =
      let deed = glance_deed plan p now.time aim glance in
      let f = glance_fate plan now.time aim glance (found_by deed x.store) in
      idly (store_after deed x.store) (look_after now aim glance f)
      (look_answers plan x p aim (stepped now.course) f) moves
      (quiet_words deed x.store (quiet_glance plan p now.time aim glance)).0
      (silent_words deed x.store (silent_glance plan p now.time aim glance)).0 (posted_is f) (free_is f) (owes f)
      (ap owed stood) (λ _. resting (S.Glances aim glance) stood refl) (told f) (over f)
    where
      posted_is : (f : GlanceFate) → (look_after now aim glance f).posted ≡ now.posted
      posted_is (Looks next) = refl
      posted_is (Shows items) = refl
      posted_is Disturbed = refl

      free_is : (f : GlanceFate) (row : ℕ) → many (is_row row) (look_after now aim glance f).free ≡ 0 →
          many (is_row row) now.free ≡ 0
      free_is (Looks next) row e = e
      free_is (Shows items) row e = e
      free_is Disturbed row e = e

      owes : (f : GlanceFate) → owed (look_after now aim glance f).stand ≡ []
      owes (Looks next) = refl
      owes (Shows items) = refl
      owes Disturbed = refl

      over : (f : GlanceFate) (told : Option Reply) → OverAt told (look_after now aim glance f).stand
      over (Looks next) told = tt
      over (Shows items) told = tt
      over Disturbed told = tt

      told : (f : GlanceFate) (q : ℕ) →
          updates_by q (look_answers plan x p aim (stepped now.course) f) ≡ updates_by q x.answers
      told (Looks next) q = refl
      told Disturbed q = refl
      told (Shows items) q = shown aim items
        where
          shown : (aim : Aim) (items : List Pair) → updates_by q (with_answer x (BySeat p) (asked_by_aim aim)
              (told_by_items plan aim items) (stepped now.course)) ≡ updates_by q x.answers
          shown (OfKey key) items = look_answer x q p key _ (stepped now.course)
          shown (OfBucket bucket) items = copy_answer x q p bucket _ (stepped now.course)

  look_first : (aim : Aim) → now.stand ≡ S.Idle → Moves plan h.at x (ticked (look_begins x p now aim)) →
      Asks plan (ticked (look_begins x p now aim))
  look_first aim stood moves =
      idly x.store _ x.answers moves refl refl refl (λ row e. e) refl (ap owed stood) (λ _. resting S.Idle stood refl)
      (λ q. refl)
      (λ told. tt)

  update_first : (call : Call) → now.stand ≡ S.Idle → Moves plan h.at x (ticked (update_begins plan x p now call)) →
      Asks plan (ticked (update_begins plan x p now call))
  update_first call stood moves =
      let begun = scan_begins plan p now.free now in
      let f = first_fate begun.free begun.scan in
      idly x.store (record begun { stand = stand_at call f; course = course_from x.clock })
      (answers_after x p call (course_from x.clock) f) moves refl refl (begun_posted plan x h all p inside now.free)
      (begun_free now.free refl) (owes begun.free begun.scan) (ap owed stood) (λ _. resting S.Idle stood refl)
      (told begun.free begun.scan) (over begun.free begun.scan)
    where
      begun_free : (free : List ℕ) → now.free ≡ free → (row : ℕ) →
          many (is_row row) (scan_begins plan p free now).free ≡ 0 →
          many (is_row row) now.free ≡ 0
      begun_free (r ∷ free) is row e = e
      begun_free [] is row e = ap (many (is_row row)) is

      owes : (free : List ℕ) (scan : Option Scan) → owed (stand_at call (first_fate free scan)) ≡ []
      owes [] None = refl
      owes (r ∷ free) None = refl
      owes free (Some scan) = refl

      told : (free : List ℕ) (scan : Option Scan) (q : ℕ) →
          updates_by q (answers_after x p call (course_from x.clock) (first_fate free scan)) ≡ updates_by q x.answers
      told [] None q = answer_refused x q p call (course_from x.clock)
      told (r ∷ free) None q = refl
      told free (Some scan) q = refl

      over : (free : List ℕ) (scan : Option Scan) (told : Option Reply) →
          OverAt told (stand_at call (first_fate free scan))
      over [] None told = tt
      over (r ∷ free) None told = tt
      over free (Some scan) told = tt

  call_first : (call : Call) → now.stand ≡ S.Idle → Moves plan h.at x (ticked (call_begins plan x p now call)) →
      Asks plan (ticked (call_begins plan x p now call))
  call_first (Lookup key) e moves = look_first (OfKey key) e moves
  call_first (Insert key value) e moves = update_first (Insert key value) e moves
  call_first (Remove key) e moves = update_first (Remove key) e moves
  call_first (Tally key amount) e moves = update_first (Tally key amount) e moves
  call_first (Count key value amount) e moves = update_first (Count key value amount) e moves
  call_first (Put key value) e moves = update_first (Put key value) e moves

  seat_goes : (stand : Stand) → now.stand ≡ stand → IsFlying plan p stand →
      Moves plan h.at x (ticked (goes_on plan x p now stand)) → Asks plan (ticked (goes_on plan x p now stand))
  seat_goes S.Idle e flies moves = absurd flies
  seat_goes (S.Goes call step) e flies moves = update_step call flies step e moves
  seat_goes (S.Glances aim glance) e flies moves = look_step aim glance e moves

  pub seat_asks : (what : What) → Fits plan p now what → Moves plan h.at x (ticked (act plan x p now what)) →
      Asks plan (ticked (act plan x p now what))
  seat_asks (Begin call) fits moves = call_first call fits.0 moves
  seat_asks (Copy bucket) fits moves = look_first (OfBucket bucket) fits.0 moves
  seat_asks Step_on fits moves = seat_goes now.stand refl fits moves

-- ---- a reader that cannot hold changes nothing of it

module _ (plan : Plan) (x y : World) (asks : Asks plan x) (store : y.store ≡ x.store) (seats : y.seats ≡ x.seats)
    (made : y.made ≡ x.made) (told : (q : ℕ) → updates_by q y.answers ≡ updates_by q x.answers) where
  seat_same : (q : ℕ) → seat_in y q ≡ seat_in x q
  seat_same q = ap (λ (ss : List SeatNow). slice_index_or ss q nobody) seats

  reply_is_same : (q : ℕ) → reply_now plan y q ≡ reply_now plan x q
  reply_is_same q =
      ap (λ (n : SeatNow). reply_of_entry (entry_for q n.posted (home_entries plan y (call_under n.stand))))
      (seat_same q)
      ∙ ap (λ (es : List Entry). reply_of_entry (entry_for q (seat_in x q).posted es)) (go (calls_in x q))
    where
      go : (c : Option Call) → home_entries plan y c ≡ home_entries plan x c
      go None = refl
      go (Some call) =
          ap (λ (m : W.Store). (row_at plan (m.row (row_in plan (m.bucket (bucket_of_call plan call))))).entries) store

  unchanged_asks : Asks plan y
  unchanged_asks = record {
    asked = λ q less.
        ap (made_by q) made ∙ asks.asked q less
        ∙ ap (λ (ms : List Made). settled x q ++ ms)
        (ap (λ (m : W.Store). updates_of (is_pending (m.announced q)) (calls_in x q) (reply_now plan x q)) (sym store)
        ∙ ap (λ (n : SeatNow). updates_of (is_pending (y.store.announced q)) (call_under n.stand) (reply_now plan x q))
        (sym (seat_same q))
        ∙ ap (updates_of (is_pending (y.store.announced q)) (calls_in y q)) (sym (reply_is_same q)))
        ∙ ap (λ (ms : List Made). ms ++ under plan y q)
        (ap (λ (ms : List Made). ms ++ owed (seat_in x q).stand) (sym (told q))
        ∙ ap (λ (n : SeatNow). updates_by q y.answers ++ owed n.stand) (sym (seat_same q)));
    replies = λ row q live less pends e is. (
        let z = asks.replies row q (λ k inside. ap (λ (n : SeatNow). many (is_row row) n.free) (sym (seat_same k))
        ∙ live k inside)
        less (ap (λ (m : W.Store). is_pending (m.announced q)) (sym store) ∙ pends) e
        (ap (λ (n : SeatNow). entry_for q n.posted (row_at plan (x.store.row row)).entries) (sym (seat_same q))
        ∙ ap (λ (m : W.Store). entry_for q (seat_in y q).posted (row_at plan (m.row row)).entries) (sym store) ∙ is) in
        (z.0, z.1, reply_is_same q ∙ z.2));
    overs = λ q less.
        subst (λ (n : SeatNow). OverAt (reply_now plan y q) n.stand) (sym (seat_same q))
        (subst (λ (o : Option Reply). OverAt o (seat_in x q).stand) (sym (reply_is_same q)) (asks.overs q less));
  }

reader_asks : (plan : Plan) (x : World) (r : ℕ) (peek : Peek) → Asks plan x →
    Asks plan (happens plan x (OfReader r peek))
reader_asks plan x r (Open aim tries) asks = unchanged_asks plan x _ asks refl refl refl (λ q. refl)
reader_asks plan x r Peek_on asks = go (x.readers r).stand
  where
    go : (stand : S.Peeking) → Asks plan (ticked (peeks_on plan x r (x.readers r) stand))
    go S.Rests = unchanged_asks plan x _ asks refl refl refl (λ q. refl)
    go (S.Peeks aim glance) =
        let f = glance_fate plan 0 aim glance (found_by (glance_deed plan 0 0 aim glance) x.store) in
        unchanged_asks plan x _ asks refl refl refl (told f)
      where
        told : (f : GlanceFate) (q : ℕ) →
            updates_by q (peek_answers plan x r aim (stepped (x.readers r).course) f) ≡ updates_by q x.answers
        told (Looks next) q = refl
        told (Shows items) q = peek_answer x q r _ _ (stepped (x.readers r).course)
        told Disturbed q = peek_answer x q r _ _ (stepped (x.readers r).course)

-- THE RESULT: an event keeps it
pub asks_keep : (plan : Plan) (is_plan : IsPlan plan) (x : World) (h : Owned plan x) → Reads plan x → FoundOk plan x →
    Stored plan x → Announces plan x → AreCounted plan is_plan x → (s : State) → Tied plan x s → Froms plan x →
    Taken plan x →
    Finds plan x → ((q row : ℕ) → ReadsHeld (seat_in x q).stand row → NotFree plan x row) → Asks plan x →
    (event : Event) →
    IsEvent plan x event → Moves plan h.at x (happens plan x event) → Asks plan (happens plan x event)
asks_keep plan is_plan x h reads finds stored all counted s tied froms taken sees lives asks
    (OfSeat p what) fits moves =
    subst (λ (c : Bool). Moves plan h.at x (cond c y x) → Asks plan (cond c y x))
    (sym (lt-ltb p (holders_of plan.settings) fits.0))
    (seat_asks plan is_plan x h reads finds stored all counted s tied froms taken sees lives asks p fits.0 what
    fits.1) moves
  where
    y : World
    y = ticked (act plan x p (seat_in x p) what)
asks_keep plan is_plan x h reads finds stored all counted s tied froms taken sees lives asks
    (OfReader r peek) fits moves =
    reader_asks plan x r peek asks
