-- In every run each step is on a word of the table, and all words have 64 bits.
use Rattle.std.proofs.Common.{◌≡◌, ◌≢◌, ◌⊎◌, ℕ, zero, suc, ◌+◌, ◌-◌, ◌^◌, ◌<◌, ◌≤◌, inl, inr, Bool, true, false, cond, List, [], ◌∷◌, length, Option, Some, None, refl, sym, ap, ◌∙◌, subst, arith, get_or-set_same, get_or-set_other, lt-ltb, pow_pos, pow_mono}
use Rattle.std.specs.Prelude.{◌==◌, nat_lt, fold}
use Rattle.std.proofs.lemmas.Bool.{cases_eq, cond_both, ltb-true}
use Rattle.plain_map.specs.declared.calls.Call.{Call}
use Rattle.plain_map.specs.declared.calls.Call.TheVariants.{Insert, Remove, Lookup, Tally, Count, Put}
use Rattle.plain_map.specs.Calls.{key_in}
use Rattle.word_rows.specs.Memory.{put}
use Rattle.word_rows.proofs.MemoryLemmas.{put_same}
use Rattle.exchange_model.specs.Plans.{Plan, IsPlan, MOST_ASKINGS, holders_of, buckets_of}
use Rattle.exchange_model.specs.Codes.{row_in, generation_in, asking, held_row, row_at, row_of_words, row_words, born_word}
use Rattle.exchange_model.specs.Words as W
use Rattle.exchange_model.specs.Words.{with_word}
use Rattle.exchange_model.specs.Laws.{IsOnTable, StepsAreOnTable, PeeksAreOnTable}
use Rattle.exchange_model.specs.Steps as S
use Rattle.exchange_model.specs.Steps.{MadeBySeat, Step, Stand, Scan, SeatNow, ReaderNow, Peeking, Found, Try, Deed, Aim, OfKey, OfBucket, Glance, change, deed_of, glance_deed, scan_deed, next_row, next_tag, bucket_of_call, bucket_of_aim}
use Rattle.exchange_model.specs.Goes.{ScanFate, ScansOn, Scanned, scan_fate_of, scanned, scan_begins, seats_from, Fate, On, Ends, Spends, Refuses, first_fate, fate, exchanged, own_after, GlanceFate, Looks, Shows, Disturbed, glance_fate, time_after}
use Rattle.exchange_model.specs.Worlds.{World, Answer, Event, OfSeat, OfReader, IsEvent, AreEvents, What, Begin, Copy, Step_on, Peek, Open, Peek_on, Fits, IsFlying, CanBegin, PeekFits, IsPeeking, IsAim, IsRun, seat_in, with_seat, with_reader, ticked, found_by, store_after, seat_after, stepped, goes, glances, look_after, peek_after, peek_answers, course_from, stand_at, update_begins, look_begins, call_begins, goes_on, act, peeks_on, peek_acts, happens, nobody, opening_world, opening_store, world_after}
use Rattle.exchange_laws.proofs.Places.{either_put}
use Rattle.exchange_laws.proofs.RowLists.{first_there}
use Rattle.exchange_laws.proofs.Words.{bucket_small, rows_few, row_of_tag}
use Rattle.exchange_laws.proofs.Owned.{Owned, word_in}
use Rattle.exchange_laws.proofs.OwnedSteps.{IsStill, quiet_words, quiet_step, quiet_glance}
use Rattle.exchange_laws.proofs.OwnedMoves.{Moves}
use Rattle.exchange_laws.proofs.OwnedEvents.{event_keeps, quiet}
use Rattle.exchange_laws.proofs.OwnedRuns.{row_stays, seat_is, opening_owned}
use Rattle.exchange_laws.proofs.TrueReads.{Reads, ReadsAt, IsFront, whole_row, reads_keep, reads_first}
use Rattle.exchange_laws.proofs.RowWords.{row_stands}
use Rattle.exchange_laws.proofs.StoredRows.{Stored, StoresBy, stored_keep, stored_first}
use Rattle.exchange_laws.proofs.MadeRows.{made_is_row}
use Rattle.exchange_laws.proofs.FoundOps.{FoundOk, FoundAt, found_keep, found_first}
use Rattle.exchange_laws.proofs.LookBounds.{FineLook, look_left, looks}
use Rattle.exchange_laws.proofs.SmallRows.{IsWord, SmallRow, SmallCall, change_small}
use Rattle.exchange_laws.proofs.NearSteps.{Early, Inside, HoldsRow, Given, NearStep, NearGlance, NearStand, NearScan, NearPeek, NearPeeking, NearFate, Facts, IsMild, near_fate, free_on, NearScanned, near_seats, ScanFacts, near_scans}
use Rattle.exchange_laws.proofs.FitSteps.{Near, rows_most, peek_on, scan_there, there_on}
use Rattle.exchange_laws.proofs.HeldStates.{row_of_holding}
use Rattle.exchange_laws.proofs.WordDeeds.{After, same_after, deed_after, fine_step, fine_glance, aim_small}
use Rattle.exchange_laws.proofs.NearLooks.{Then, NearLook, LookFacts, IsMildLook, near_look, PeekFacts, near_peek, come}

module _ (plan : Plan) where
  -- ---- what the seat has for itself then

  record OwnAs (now own : SeatNow) : Type 0 where
    pub time : own.time ≡ now.time
    pub posted : own.posted ≡ now.posted
    pub scan : NearScan plan own.scan

  -- a step that changes neither how often the seat has asked nor how many of its announcements are over
  abbrev IsQuietStep : Step → Type 0
  IsQuietStep S.StoreAsking = ⊥
  IsQuietStep (S.Over ending) = ⊥
  IsQuietStep step = Unit {0}

  own_as : (p : ℕ) (now : SeatNow) (call : Call) (step : Step) (word : ℕ) → IsQuietStep step → NearScan plan now.scan →
      (step ≡ S.Scans → ScanFacts plan now.scan word) → OwnAs now (own_after plan p now call step word)
  own_as p now call S.Scans word o k f =
      go (scan_fate_of plan p now.scan word) (near_scans plan p now.scan word (f refl))
    where
      go : (d : ScanFate) → NearScanned plan d → OwnAs now (scanned now d)
      go (ScansOn scan) n = record { time = refl; posted = refl; scan = n }
      go (Scanned left held) n = record { time = refl; posted = refl; scan = tt }
  own_as p now call (S.Exchange t found) word o k f =
      cond_both (word == t.word) (exchanged now (row_in plan t.word)) now (OwnAs now)
      (λ _. record { time = refl; posted = refl; scan = k }) (λ _. record { time = refl; posted = refl; scan = k })
  own_as p now call S.StoreAsking word o k f = absurd o
  own_as p now call (S.Over ending) word o k f = absurd o
  own_as p now call (S.LoadWord turn) word o k f = record { time = refl; posted = refl; scan = k }
  own_as p now call (S.LoadRow turn old words) word o k f = record { time = refl; posted = refl; scan = k }
  own_as p now call (S.CheckWord turn old words) word o k f = record { time = refl; posted = refl; scan = k }
  own_as p now call (S.LoadPending t) word o k f = record { time = refl; posted = refl; scan = k }
  own_as p now call (S.LoadAnnounced t found) word o k f = record { time = refl; posted = refl; scan = k }
  own_as p now call (S.LoadOp t found announced words) word o k f = record { time = refl; posted = refl; scan = k }
  own_as p now call (S.StoreRow t found i) word o k f = record { time = refl; posted = refl; scan = k }
  own_as p now call S.RaisePending word o k f = record { time = refl; posted = refl; scan = k }
  own_as p now call (S.StoreOp i) word o k f = record { time = refl; posted = refl; scan = k }
  own_as p now call S.Announce word o k f = record { time = refl; posted = refl; scan = k }
  own_as p now call S.StoreWant word o k f = record { time = refl; posted = refl; scan = k }
  own_as p now call S.HeldWord word o k f = record { time = refl; posted = refl; scan = k }
  own_as p now call (S.TakeHold old) word o k f = record { time = refl; posted = refl; scan = k }
  own_as p now call (S.HeldHead row) word o k f = record { time = refl; posted = refl; scan = k }
  own_as p now call (S.HeldEntry row at left) word o k f = record { time = refl; posted = refl; scan = k }
  own_as p now call (S.HeldReply row at) word o k f = record { time = refl; posted = refl; scan = k }
  own_as p now call (S.GiveBack reply) word o k f = record { time = refl; posted = refl; scan = k }
  own_as p now call (S.LowerPending ending) word o k f = record { time = refl; posted = refl; scan = k }
  own_as p now call S.Stuck word o k f = record { time = refl; posted = refl; scan = k }

  -- ---- events

  module _ (is_plan : IsPlan plan) (x : World) (h : Owned plan x) (finds : FoundOk plan x)
      (reads : Reads plan x) (stored : Stored plan x) (near : Near plan x) where
    in_word : (b : ℕ) → b < buckets_of plan.settings → Inside plan (word_in plan x b)
    in_word b less = (h.words b less).1

    abbrev AllRows : World → Type 0
    AllRows y = (b : ℕ) → b < buckets_of plan.settings →
        SmallRow (row_at plan (y.store.row (row_in plan (y.store.bucket b))))

    -- where no bucket word is another one then
    rows_still : (y : World) → Moves plan h.at x y → y.store.bucket ≡ x.store.bucket → AllRows y
    rows_still y moves words b less =
        let same : row_at plan (y.store.row (row_in plan (y.store.bucket b)))
        ≡ row_at plan (x.store.row (row_in plan (x.store.bucket b))) =
        ap (λ (f : ℕ → ℕ). row_at plan (y.store.row (row_in plan (f b)))) words
        ∙ ap (row_at plan) (λ k i. row_stays plan x y h b i less moves k) in
        subst SmallRow (sym same) (near.rows b less)

    module _ (p : ℕ) (inside : p < holders_of plan.settings) where
      abbrev now : SeatNow
      now = seat_in x p

      abbrev kept : NearStand plan p now.time now.posted (x.store.hold p) now.stand × NearScan plan now.scan
      kept = near.seats p inside

      -- the seat is another then, and the words are these
      next : (store : W.Store) (then : SeatNow) (answers : List Answer) (updates : List MadeBySeat) →
          After plan p x.store store → AllRows (ticked (with_seat x p store then answers updates)) →
          NearStand plan p then.time then.posted (store.hold p) then.stand → NearScan plan then.scan →
          Near plan (ticked (with_seat x p store then answers updates))
      next store then answers updates after rows stand scan = record {
        seats = λ q less. elim (cases_eq q p) [
          | inl e ↦ subst (λ i. SeatNear y i) (sym e)
              (subst (λ (k : SeatNow). NearStand plan p k.time k.posted (store.hold p) k.stand × NearScan plan k.scan)
              (sym mine) (stand, scan))
          | inr n ↦ subst
              (λ (k : SeatNow). NearStand plan q k.time k.posted (store.hold q) k.stand × NearScan plan k.scan)
              (sym (get_or-set_other x.seats p q then nobody n)) (other q less (after.holds q n))
        ];
        wants = after.wants;
        words = after.words;
        rows = rows;
        readers = near.readers;
      }
        where
          y : World
          y = ticked (with_seat x p store then answers updates)

          SeatNear : World → (q : ℕ) → Type 0
          SeatNear z q = NearStand plan q (seat_in z q).time (seat_in z q).posted (z.store.hold q) (seat_in z q).stand
              × NearScan plan (seat_in z q).scan

          mine : seat_in y p ≡ then
          mine = get_or-set_same x.seats p then nobody (let long = h.long in omega (arith, inside, long))

          given : (time was word : ℕ) → (word ≡ was) ⊎ HoldsRow plan word → Given plan time was → Given plan time word
          given time was word (inl e) g = subst (Given plan time) (sym e) g
          given time was word (inr k) g = inr k

          step_still : (time posted was word : ℕ) (step : Step) → (word ≡ was) ⊎ HoldsRow plan word →
              NearStep plan time posted was step → NearStep plan time posted word step
          step_still time posted was word S.HeldWord m k = (k.0, given time was word m k.1)
          step_still time posted was word (S.TakeHold old) m k = (k.0, k.1, given time was word m k.2)
          step_still time posted was word S.Scans m k = k
          step_still time posted was word (S.LoadWord turn) m k = k
          step_still time posted was word (S.LoadRow turn old words) m k = k
          step_still time posted was word (S.CheckWord turn old words) m k = k
          step_still time posted was word (S.LoadPending t) m k = k
          step_still time posted was word (S.LoadAnnounced t found) m k = k
          step_still time posted was word (S.LoadOp t found announced words) m k = k
          step_still time posted was word (S.StoreRow t found i) m k = k
          step_still time posted was word (S.Exchange t found) m k = k
          step_still time posted was word S.RaisePending m k = k
          step_still time posted was word (S.StoreOp i) m k = k
          step_still time posted was word S.Announce m k = k
          step_still time posted was word S.StoreWant m k = k
          step_still time posted was word S.StoreAsking m k = k
          step_still time posted was word (S.HeldHead row) m k = k
          step_still time posted was word (S.HeldEntry row at left) m k = k
          step_still time posted was word (S.HeldReply row at) m k = k
          step_still time posted was word (S.GiveBack reply) m k = k
          step_still time posted was word (S.Over ending) m k = k
          step_still time posted was word (S.LowerPending ending) m k = k
          step_still time posted was word S.Stuck m k = k

          glance_still : (time was word : ℕ) (glance : Glance) → (word ≡ was) ⊎ HoldsRow plan word →
              NearGlance plan time was glance → NearGlance plan time word glance
          glance_still time was word S.GlanceHeld m k = given time was word m k
          glance_still time was word (S.GlanceTake old) m k = (k.0, given time was word m k.1)
          glance_still time was word (S.GlanceWord left) m k = k
          glance_still time was word (S.GlanceCount source) m k = k
          glance_still time was word (S.GlanceItem source pass) m k = k
          glance_still time was word (S.GlanceCheck left old _) m k = k
          glance_still time was word S.GlanceWant m k = k
          glance_still time was word S.GlanceAsking m k = k
          glance_still time was word (S.GlanceBack _) m k = k

          stand_still : (q time posted was word : ℕ) (stand : Stand) → (word ≡ was) ⊎ HoldsRow plan word →
              NearStand plan q time posted was stand → NearStand plan q time posted word stand
          stand_still q time posted was word S.Idle m k = tt
          stand_still q time posted was word (S.Goes call step) m k =
              (k.0, step_still time posted was word step m k.1, k.2)
          stand_still q time posted was word (S.Glances aim glance) m k =
              (k.0, glance_still time was word glance m k.1, k.2)

          other : (q : ℕ) → q < holders_of plan.settings →
              (store.hold q ≡ x.store.hold q) ⊎ HoldsRow plan (store.hold q) →
              NearStand plan q (seat_in x q).time (seat_in x q).posted (store.hold q) (seat_in x q).stand
              × NearScan plan (seat_in x q).scan
          other q less m =
              let k = near.seats q less in (
                stand_still q (seat_in x q).time (seat_in x q).posted (x.store.hold q) (store.hold q)
                    (seat_in x q).stand m k.0,
                k.1,
              )

      -- the row that it was given
      given_near : (time word : ℕ) → Given plan time word → word ≢ asking time → Inside plan (held_row word)
      given_near time word (inl e) other = absurd (other e)
      given_near time word (inr k) other = subst (Inside plan) (sym (ap held_row k.is ∙ row_of_holding k.row)) k.inside

      module _ (call : Call) where
        abbrev b : ℕ
        b = bucket_of_call plan call

        abbrev b_small : b < buckets_of plan.settings
        b_small = bucket_small plan is_plan (key_in call)

        abbrev deed_at : Step → Deed
        deed_at step = deed_of plan p now call step

        abbrev word_at : Step → ℕ
        word_at step = found_by (deed_at step) x.store

        here : (step : Step) → now.stand ≡ S.Goes call step →
            SmallCall call × NearStep plan now.time now.posted (x.store.hold p) step × (p < plan.settings.seats)
        here step stood = subst (NearStand plan p now.time now.posted (x.store.hold p)) stood kept.0

        after_step : (step : Step) → now.stand ≡ S.Goes call step →
            After plan p x.store (store_after (deed_at step) x.store)
        after_step step stood =
            deed_after plan x.store near.words near.wants p (deed_at step)
            (there_on plan is_plan x h finds reads near p inside (S.Goes call step) stood)
            (fine_step plan is_plan p now call step kept.1)

        -- the stand then
        stand_then : (own : SeatNow) (hold : ℕ) (f : Fate) → SmallCall call → p < plan.settings.seats →
            own.time ≡ now.time → own.posted ≡ now.posted → NearFate plan now.time now.posted hold f →
            NearStand plan p (seat_after own call f).time (seat_after own call f).posted hold
            (seat_after own call f).stand
        stand_then own hold (On step) small of_seat t q k = (
          small,
          subst (λ i. NearStep plan i own.posted hold step) (sym t)
              (subst (λ i. NearStep plan now.time i hold step) (sym q) k),
          of_seat,
        )
        stand_then own hold (Ends reply) small of_seat t q k = tt
        stand_then own hold Spends small of_seat t q k = tt
        stand_then own hold Refuses small of_seat t q k = tt

        scan_then : (own : SeatNow) (f : Fate) → NearScan plan own.scan → NearScan plan (seat_after own call f).scan
        scan_then own (On step) k = k
        scan_then own (Ends reply) k = k
        scan_then own Spends k = k
        scan_then own Refuses k = k

        -- a scan loads wanted classes, and words of buckets
        scan_found : (scan : Option Scan) → now.scan ≡ scan →
            ScanFacts plan scan (found_by (scan_deed plan scan) x.store)
        scan_found scan e = by scan (there_on_scan scan e) (subst (NearScan plan) e kept.1)
          where
            there_on_scan : (s : Option Scan) → now.scan ≡ s → IsOnTable plan (scan_deed plan s)
            there_on_scan s is = scan_there plan is_plan x h finds reads near p inside s is

            by : (s : Option Scan) → IsOnTable plan (scan_deed plan s) → NearScan plan s →
                ScanFacts plan s (found_by (scan_deed plan s) x.store)
            by None on k = tt
            by (Some (S.Seats q left held)) on k = tt
            by (Some (S.Sees q t left held)) on k = near.wants q on
            by (Some (S.Loads q t class left held)) on k = in_word class k
            by (Some (S.Gives q t row left held)) on k = tt

        -- a step that is mild
        mild_step : (step : Step) (now_stands : now.stand ≡ S.Goes call step) → IsQuietStep step →
            IsMild plan now.time now.posted ((store_after (deed_at step) x.store).hold p) p now call
            (here step now_stands).0
            step →
            Facts plan now.time now.posted ((store_after (deed_at step) x.store).hold p) p now call
            (here step now_stands).0
            step (word_at step) → AllRows (ticked (goes plan x p now call step)) →
            Near plan (ticked (goes plan x p now call step))
        mild_step step stood o m facts rows =
            let k = here step stood in
            let store = store_after (deed_at step) x.store in
            let own = own_after plan p now call step (word_at step) in
            let f = fate plan p now call step (word_at step) in
            let as_was = own_as p now call step (word_at step) o kept.1 (λ e. scans step e) in
            next store (seat_after own call f) _ _ (after_step step stood) rows
            (stand_then own (store.hold p) f k.0 k.2 as_was.time as_was.posted
            (near_fate plan now.time now.posted (store.hold p) p now call k.0 step (word_at step) (x.store.hold p) m
            refl refl
            k.1 facts)) (scan_then own f as_was.scan)
          where
            scans : (s : Step) → s ≡ S.Scans → ScanFacts plan now.scan (word_at s)
            scans s e = subst (λ (d : Step). ScanFacts plan now.scan (word_at d)) (sym e) (scan_found now.scan refl)

        still : (step : Step) → now.stand ≡ S.Goes call step → IsStill step →
            Moves plan h.at x (ticked (goes plan x p now call step)) → AllRows (ticked (goes plan x p now call step))
        still step stood quiet moves =
            rows_still (ticked (goes plan x p now call step)) moves
            (quiet_words (deed_at step) x.store (quiet_step plan p now call step quiet)).0

        -- the row that was loaded is the one that stands
        read_small : (turn old : ℕ) (words : List ℕ) → now.stand ≡ S.Goes call (S.CheckWord turn old words) →
            x.store.bucket b ≡ old → SmallRow (row_of_words plan words)
        read_small turn old words stood same =
            let r = subst (ReadsAt plan x) stood (reads.each p inside) in
            let is : row_of_words plan words ≡ row_at plan (x.store.row (row_in plan old)) =
            whole_row plan words (x.store.row (row_in plan old)) (r.0.front same) r.1 in
            subst SmallRow (sym is)
            (subst (λ w. SmallRow (row_at plan (x.store.row (row_in plan w)))) same (near.rows b b_small))

        -- an exchange
        exchange_rows : (t : Try) (found : List Found) → now.stand ≡ S.Goes call (S.Exchange t found) →
            Moves plan h.at x (ticked (goes plan x p now call (S.Exchange t found))) →
            AllRows (ticked (goes plan x p now call (S.Exchange t found)))
        exchange_rows t found stood moves = go (x.store.bucket b == t.word) refl
          where
            y : World
            y = ticked (goes plan x p now call (S.Exchange t found))

            f : FoundAt plan (S.Goes call (S.Exchange t found))
            f = subst (FoundAt plan) stood (finds.each p inside)

            s : StoresBy plan (x.store.row (next_row now)) (S.Goes call (S.Exchange t found))
            s = subst (StoresBy plan (x.store.row (next_row now))) stood (stored.each p inside)

            few : next_row now < 2 ^ plan.row_bits
            few =
                let q = quiet plan is_plan x h p inside (S.Goes call (S.Exchange t found)) stood (λ k. k) in
                let there = first_there now.free q.0.enough in
                let is = q.0.rows.mine (next_row now) (omega (arith, there)) in
                let most = rows_few plan is_plan in
                omega (arith, is.1, most)

            new : SmallRow (row_at plan (x.store.row (row_in plan (next_tag plan now t.word))))
            new =
                let k = here (S.Exchange t found) stood in
                let is : row_at plan (x.store.row (row_in plan (next_tag plan now t.word))) ≡ (change plan t.row
                found).row =
                ap (λ k. row_at plan (x.store.row k))
                (row_of_tag plan (generation_in plan t.word + 1) (next_row now) few)
                ∙ row_stands plan is_plan (change plan t.row found).row
                (made_is_row plan is_plan t.row found f.1.0.items f.1.2 f.1.1) (x.store.row (next_row now)) s in
                subst SmallRow (sym is)
                (change_small plan t.row found k.1.1.row
                (let most = is_plan.seats in let long = f.1.2 in omega (arith, most, long)) k.1.2)

            go : (c : Bool) → (x.store.bucket b == t.word) ≡ c → AllRows y
            go false e a less =
                rows_still y moves
                (ap (λ (c : Bool). (cond c (with_word x.store (W.Bucket b) (next_tag plan now t.word))
                x.store).bucket) e)
                a less
            go true e a less =
                let words : y.store.bucket ≡ put x.store.bucket b (next_tag plan now t.word) =
                ap (λ (c : Bool). (cond c (with_word x.store (W.Bucket b) (next_tag plan now t.word)) x.store).bucket)
                e in
                let rows : y.store.row ≡ x.store.row =
                ap (λ (c : Bool). (cond c (with_word x.store (W.Bucket b) (next_tag plan now t.word)) x.store).row) e in
                subst (λ (f : ℕ → ℕ → ℕ). SmallRow (row_at plan (f (row_in plan (y.store.bucket a))))) (sym rows)
                (subst (λ (f : ℕ → ℕ). SmallRow (row_at plan (x.store.row (row_in plan (f a))))) (sym words)
                (elim (either_put x.store.bucket b (next_tag plan now t.word) a) [
                  | inl z ↦ subst (λ w. SmallRow (row_at plan (x.store.row (row_in plan w)))) (sym z.1) new
                  | inr z ↦ subst (λ w. SmallRow (row_at plan (x.store.row (row_in plan w)))) (sym z.1)
                      (near.rows a less)
                ]))

        -- it asks
        ask_step : now.stand ≡ S.Goes call S.StoreAsking →
            Moves plan h.at x (ticked (goes plan x p now call S.StoreAsking)) →
            Near plan (ticked (goes plan x p now call S.StoreAsking))
        ask_step stood moves =
            let k = here S.StoreAsking stood in
            next (store_after (deed_at S.StoreAsking) x.store)
            (seat_after (record now { time = now.time + 1 }) call (On S.HeldWord)) _ _ (after_step S.StoreAsking stood)
            (still S.StoreAsking stood tt moves)
            (k.0, (k.1.announces, inl (put_same x.store.hold p (asking (now.time + 1)))), k.2) kept.1

        -- its op is over
        over_step : (ending : S.Ending) → now.stand ≡ S.Goes call (S.Over ending) →
            Moves plan h.at x (ticked (goes plan x p now call (S.Over ending))) →
            Near plan (ticked (goes plan x p now call (S.Over ending)))
        over_step ending stood moves =
            next (store_after (deed_at (S.Over ending)) x.store)
            (seat_after (record now { posted = now.posted + 1 }) call (On (S.LowerPending ending))) _ _
            (after_step (S.Over ending) stood) (still (S.Over ending) stood tt moves)
            ((here (S.Over ending) stood).0, tt, (here (S.Over ending) stood).2) kept.1

        update_step : (step : Step) → now.stand ≡ S.Goes call step →
            Moves plan h.at x (ticked (goes plan x p now call step)) → Near plan (ticked (goes plan x p now call step))
        update_step S.StoreAsking e m = ask_step e m
        update_step (S.Over ending) e m = over_step ending e m
        update_step (S.Exchange t found) e m = mild_step (S.Exchange t found) e tt tt tt (exchange_rows t found e m)
        update_step (S.StoreRow t found i) e m =
            mild_step (S.StoreRow t found i) e tt tt tt
            (rows_still (ticked (goes plan x p now call (S.StoreRow t found i))) m refl)
        update_step (S.LoadWord turn) e m =
            mild_step (S.LoadWord turn) e tt tt (record { row = in_word b b_small; small = near.words.bucket b })
            (still (S.LoadWord turn) e tt m)
        update_step (S.CheckWord turn old words) e m =
            mild_step (S.CheckWord turn old words) e tt tt (λ same. read_small turn old words e same)
            (still (S.CheckWord turn old words) e tt m)
        update_step (S.LoadAnnounced t found) e m =
            mild_step (S.LoadAnnounced t found) e tt tt (near.words.announced (length found))
            (still (S.LoadAnnounced t found) e tt m)
        update_step (S.LoadOp t found announced words) e m =
            mild_step (S.LoadOp t found announced words) e tt tt (near.words.op (length found) (length words))
            (still (S.LoadOp t found announced words) e tt m)
        update_step S.HeldWord e m =
            mild_step S.HeldWord e tt tt (in_word b b_small, (here S.HeldWord e).1.1) (still S.HeldWord e tt m)
        update_step (S.TakeHold old) e m =
            mild_step (S.TakeHold old) e tt tt
            (given_near now.time (x.store.hold p) (here (S.TakeHold old) e).1.2) (still (S.TakeHold old) e tt m)
        update_step S.Scans e m = mild_step S.Scans e tt tt tt (still S.Scans e tt m)
        update_step (S.LoadRow turn word words) e m = mild_step (S.LoadRow turn word words) e tt tt tt
            (still (S.LoadRow turn word words) e tt m)
        update_step (S.LoadPending t) e m = mild_step (S.LoadPending t) e tt tt tt (still (S.LoadPending t) e tt m)
        update_step S.RaisePending e m = mild_step S.RaisePending e tt tt tt (still S.RaisePending e tt m)
        update_step (S.StoreOp i) e m = mild_step (S.StoreOp i) e tt tt tt (still (S.StoreOp i) e tt m)
        update_step S.Announce e m = mild_step S.Announce e tt tt tt (still S.Announce e tt m)
        update_step S.StoreWant e m = mild_step S.StoreWant e tt tt tt (still S.StoreWant e tt m)
        update_step (S.HeldHead row) e m = mild_step (S.HeldHead row) e tt tt tt (still (S.HeldHead row) e tt m)
        update_step (S.HeldEntry row at left) e m = mild_step (S.HeldEntry row at left) e tt tt tt
            (still (S.HeldEntry row at left) e tt m)
        update_step (S.HeldReply row at) e m = mild_step (S.HeldReply row at) e tt tt tt
            (still (S.HeldReply row at) e tt m)
        update_step (S.GiveBack reply) e m = mild_step (S.GiveBack reply) e tt tt tt (still (S.GiveBack reply) e tt m)
        update_step (S.LowerPending ending) e m = mild_step (S.LowerPending ending) e tt tt tt
            (still (S.LowerPending ending) e tt m)
        update_step S.Stuck e m = mild_step S.Stuck e tt tt tt (still S.Stuck e tt m)

      -- ---- looks

      look_here : (aim : Aim) (glance : Glance) → now.stand ≡ S.Glances aim glance →
          IsAim plan aim × NearGlance plan now.time (x.store.hold p) glance × FineLook plan 0 glance
      look_here aim glance stood = subst (NearStand plan p now.time now.posted (x.store.hold p)) stood kept.0

      look_still : (aim : Aim) (glance : Glance) → Moves plan h.at x (ticked (glances plan x p now aim glance)) →
          AllRows (ticked (glances plan x p now aim glance))
      look_still aim glance moves =
          rows_still (ticked (glances plan x p now aim glance)) moves
          (quiet_words (glance_deed plan p now.time aim glance) x.store (quiet_glance plan p now.time aim glance)).0

      after_look : (aim : Aim) (glance : Glance) → now.stand ≡ S.Glances aim glance →
          After plan p x.store (store_after (glance_deed plan p now.time aim glance) x.store)
      after_look aim glance stood =
          deed_after plan x.store near.words near.wants p (glance_deed plan p now.time aim glance)
          (there_on plan is_plan x h finds reads near p inside (S.Glances aim glance) stood)
          (fine_glance plan is_plan p now.time aim glance (look_here aim glance stood).0)

      time_same : (time : ℕ) (glance : Glance) → IsMildLook plan glance → time_after time glance ≡ time
      time_same time (S.GlanceWord left) o = refl
      time_same time (S.GlanceCount source) o = refl
      time_same time (S.GlanceItem source pass) o = refl
      time_same time (S.GlanceCheck left word _) o = refl
      time_same time S.GlanceWant o = refl
      time_same time S.GlanceAsking o = absurd o
      time_same time S.GlanceHeld o = refl
      time_same time (S.GlanceTake word) o = refl
      time_same time (S.GlanceBack _) o = refl

      mild_look : (aim : Aim) (glance : Glance) → now.stand ≡ S.Glances aim glance → IsMildLook plan glance →
          LookFacts plan now.time ((store_after (glance_deed plan p now.time aim glance) x.store).hold p) glance
          (found_by (glance_deed plan p now.time aim glance) x.store) →
          Moves plan h.at x (ticked (glances plan x p now aim glance)) →
          Near plan (ticked (glances plan x p now aim glance))
      mild_look aim glance stood o facts moves =
          next store (look_after now aim glance f) _ x.made (after_look aim glance stood) (look_still aim glance moves)
          (stand f (near_look plan now.time (x.store.hold p) (store.hold p) aim glance word o k.1 facts)
          (come plan f (look_left plan 0 glance) (looks plan 0 now.time aim glance word k.2))) (scan f)
        where
          k : IsAim plan aim × NearGlance plan now.time (x.store.hold p) glance × FineLook plan 0 glance
          k = look_here aim glance stood

          store : W.Store
          store = store_after (glance_deed plan p now.time aim glance) x.store

          word : ℕ
          word = found_by (glance_deed plan p now.time aim glance) x.store

          f : GlanceFate
          f = glance_fate plan now.time aim glance word

          stand : (d : GlanceFate) → NearLook plan now.time (store.hold p) d →
              Then plan (FineLook plan 0) (Unit {0}) d →
              NearStand plan p (look_after now aim glance d).time (look_after now aim glance d).posted (store.hold p)
              (look_after now aim glance d).stand
          stand (Looks then) n c =
              (k.0, subst (λ i. NearGlance plan i (store.hold p) then) (sym (time_same now.time glance o)) n, c)
          stand (Shows items) n c = tt
          stand Disturbed n c = (k.0, n, tt)

          scan : (d : GlanceFate) → NearScan plan (look_after now aim glance d).scan
          scan (Looks then) = kept.1
          scan (Shows items) = kept.1
          scan Disturbed = kept.1

      ask_look : (aim : Aim) → now.stand ≡ S.Glances aim S.GlanceAsking →
          Moves plan h.at x (ticked (glances plan x p now aim S.GlanceAsking)) →
          Near plan (ticked (glances plan x p now aim S.GlanceAsking))
      ask_look aim stood moves =
          next (store_after (glance_deed plan p now.time aim S.GlanceAsking) x.store)
          (look_after now aim S.GlanceAsking (Looks S.GlanceHeld)) _ x.made (after_look aim S.GlanceAsking stood)
          (look_still aim S.GlanceAsking moves)
          ((look_here aim S.GlanceAsking stood).0, inl (put_same x.store.hold p (asking (now.time + 1))), tt) kept.1

      look_step : (aim : Aim) (glance : Glance) → now.stand ≡ S.Glances aim glance →
          Moves plan h.at x (ticked (glances plan x p now aim glance)) →
          Near plan (ticked (glances plan x p now aim glance))
      look_step aim (S.GlanceWord left) e m =
          mild_look aim (S.GlanceWord left) e tt
          (in_word (bucket_of_aim plan aim) (aim_small plan is_plan aim (look_here aim (S.GlanceWord left) e).0)) m
      look_step aim (S.GlanceCount source) e m = mild_look aim (S.GlanceCount source) e tt tt m
      look_step aim (S.GlanceItem source pass) e m = mild_look aim (S.GlanceItem source pass) e tt tt m
      look_step aim (S.GlanceCheck left word items) e m = mild_look aim (S.GlanceCheck left word items) e tt tt m
      look_step aim S.GlanceWant e m = mild_look aim S.GlanceWant e tt tt m
      look_step aim S.GlanceAsking e m = ask_look aim e m
      look_step aim S.GlanceHeld e m =
          let k = look_here aim S.GlanceHeld e in
          mild_look aim S.GlanceHeld e tt (in_word (bucket_of_aim plan aim) (aim_small plan is_plan aim k.0), k.1) m
      look_step aim (S.GlanceTake old) e m =
          mild_look aim (S.GlanceTake old) e tt
          (given_near now.time (x.store.hold p) (look_here aim (S.GlanceTake old) e).1.1) m
      look_step aim (S.GlanceBack items) e m = mild_look aim (S.GlanceBack items) e tt tt m

      -- ---- begins

      begins_after : After plan p x.store x.store
      begins_after = same_after plan x.store near.words near.wants p

      look_first : (aim : Aim) → IsAim plan aim → now.time < MOST_ASKINGS →
          Moves plan h.at x (ticked (look_begins x p now aim)) →
          Near plan (ticked (look_begins x p now aim))
      look_first aim is few moves =
          next x.store _ x.answers x.made begins_after (rows_still (ticked (look_begins x p now aim)) moves refl)
          (is, few, tt)
          kept.1

      update_first : (call : Call) → p < plan.settings.seats → SmallCall call → Early now.time now.posted →
          Moves plan h.at x (ticked (update_begins plan x p now call)) →
          Near plan (ticked (update_begins plan x p now call))
      update_first call of_seat small e moves =
          next x.store (record taken { stand = stand_at call f; course = course_from x.clock }) _ x.made begins_after
          (rows_still (ticked (update_begins plan x p now call)) moves refl) (stand f (first taken.free taken.scan))
          own.scan
        where
          taken : SeatNow
          taken = scan_begins plan p now.free now

          f : Fate
          f = first_fate taken.free taken.scan

          begun : (free : List ℕ) → OwnAs now (scan_begins plan p free now)
          begun (row ∷ free) = record { time = refl; posted = refl; scan = kept.1 }
          begun [] = go (seats_from plan p 0 now.kept []) (near_seats plan p 0 now.kept [])
            where
              go : (d : ScanFate) → NearScanned plan d → OwnAs now (scanned (record now { kept = [] }) d)
              go (ScansOn scan) n = record { time = refl; posted = refl; scan = n }
              go (Scanned left held) n = record { time = refl; posted = refl; scan = tt }

          own : OwnAs now taken
          own = begun now.free

          first : (free : List ℕ) (scan : Option Scan) →
              NearFate plan now.time now.posted (x.store.hold p) (first_fate free scan)
          first free None = free_on plan now.time now.posted (x.store.hold p) free e
          first free (Some scan) = e

          stand : (d : Fate) → NearFate plan now.time now.posted (x.store.hold p) d →
              NearStand plan p taken.time taken.posted (x.store.hold p) (stand_at call d)
          stand (On step) k = (
            small,
            subst (λ i. NearStep plan i taken.posted (x.store.hold p) step) (sym own.time)
                (subst (λ i. NearStep plan now.time i (x.store.hold p) step) (sym own.posted) k),
            of_seat,
          )
          stand (Ends reply) k = tt
          stand Spends k = tt
          stand Refuses k = tt

      call_first : (call : Call) → CanBegin plan p now call →
          Moves plan h.at x (ticked (call_begins plan x p now call)) →
          Near plan (ticked (call_begins plan x p now call))
      call_first (Lookup key) can m = look_first (OfKey key) can.1 can.0 m
      call_first (Insert key value) can m =
          update_first (Insert key value) can.0 (can.3, can.4) (record { asks = can.1; announces = can.2 }) m
      call_first (Remove key) can m = update_first (Remove key) can.0 (can.3, can.4)
          (record { asks = can.1; announces = can.2 }) m
      call_first (Tally key amount) can m =
          update_first (Tally key amount) can.0 (can.3, can.4) (record { asks = can.1; announces = can.2 }) m
      call_first (Count key value amount) can m =
          update_first (Count key value amount) can.0 (can.3, can.4) (record { asks = can.1; announces = can.2 }) m
      call_first (Put key value) can m =
          update_first (Put key value) can.0 (can.3, can.4) (record { asks = can.1; announces = can.2 }) m

      seat_goes : (stand : Stand) → now.stand ≡ stand → IsFlying plan p stand →
          Moves plan h.at x (ticked (goes_on plan x p now stand)) → Near plan (ticked (goes_on plan x p now stand))
      seat_goes S.Idle e flies m = absurd flies
      seat_goes (S.Goes call step) e flies m = update_step call step e m
      seat_goes (S.Glances aim glance) e flies m = look_step aim glance e m

      seat_acts : (what : What) → Fits plan p now what → Moves plan h.at x (ticked (act plan x p now what)) →
          Near plan (ticked (act plan x p now what))
      seat_acts (Begin call) fits m = call_first call fits.1 m
      seat_acts (Copy bucket) fits m = look_first (OfBucket bucket) fits.2 fits.1 m
      seat_acts Step_on fits m = seat_goes now.stand refl fits m

    -- ---- of a reader

    with_peek : (r : ℕ) (then : ReaderNow) (answers : List Answer) → NearPeeking plan then.stand →
        Near plan (ticked (with_reader x r then answers))
    with_peek r then answers k = record {
      seats = near.seats;
      wants = near.wants;
      words = near.words;
      rows = near.rows;
      readers = λ q. elim (either_put x.readers r then q) [
        | inl e ↦ subst (λ (s : ReaderNow). NearPeeking plan s.stand) (sym e.1) k
        | inr n ↦ subst (λ (s : ReaderNow). NearPeeking plan s.stand) (sym n.1) (near.readers q)
      ];
    }

    peek_stand : (me : ReaderNow) (aim : Aim) (next : GlanceFate) → IsAim plan aim →
        Then plan (NearPeek plan) (Unit {0}) next → Then plan (FineLook plan 0) (Unit {0}) next →
        NearPeeking plan (peek_after me aim next).stand
    peek_stand me aim (Looks glance) a k c = (a, k, c)
    peek_stand me aim (Shows items) a k c = tt
    peek_stand me aim Disturbed a k c = tt

    peek_facts : (aim : Aim) (glance : Glance) → IsAim plan aim →
        PeekFacts plan glance (found_by (glance_deed plan 0 0 aim glance) x.store)
    peek_facts aim (S.GlanceWord left) a = in_word (bucket_of_aim plan aim) (aim_small plan is_plan aim a)
    peek_facts aim (S.GlanceCount source) a = tt
    peek_facts aim (S.GlanceItem source pass) a = tt
    peek_facts aim (S.GlanceCheck left word items) a = tt
    peek_facts aim S.GlanceWant a = tt
    peek_facts aim S.GlanceAsking a = tt
    peek_facts aim S.GlanceHeld a = tt
    peek_facts aim (S.GlanceTake old) a = tt
    peek_facts aim (S.GlanceBack items) a = tt

    reader_goes : (r : ℕ) (stand : Peeking) → (x.readers r).stand ≡ stand → IsPeeking stand →
        Near plan (ticked (peeks_on plan x r (x.readers r) stand))
    reader_goes r S.Rests e flies = absurd flies
    reader_goes r (S.Peeks aim glance) e flies =
        let word = found_by (glance_deed plan 0 0 aim glance) x.store in
        let f = glance_fate plan 0 aim glance word in
        let k : IsAim plan aim × NearPeek plan glance × FineLook plan 0 glance =
        subst (NearPeeking plan) e (near.readers r) in
        with_peek r (peek_after (x.readers r) aim f) (peek_answers plan x r aim (stepped (x.readers r).course) f)
        (peek_stand (x.readers r) aim f k.0 (near_peek plan aim glance word k.1 (peek_facts aim glance k.0))
        (come plan f (look_left plan 0 glance) (looks plan 0 0 aim glance word k.2)))

    reader_acts : (r : ℕ) (peek : Peek) → PeekFits plan (x.readers r) peek →
        Near plan (ticked (peek_acts plan x r (x.readers r) peek))
    reader_acts r (Open aim tries) fits =
        with_peek r (record { stand = S.Peeks aim (S.GlanceWord (tries - 1)); course = course_from x.clock }) x.answers
        (fits.1, tt, tt)
    reader_acts r Peek_on fits = reader_goes r (x.readers r).stand refl fits

    near_keeps : (event : Event) → IsEvent plan x event → Moves plan h.at x (happens plan x event) →
        Near plan (happens plan x event)
    near_keeps (OfSeat p what) fits moves =
        subst (λ (c : Bool). Moves plan h.at x (cond c (ticked (act plan x p (seat_in x p) what)) x) →
        Near plan (cond c (ticked (act plan x p (seat_in x p) what)) x))
        (sym (lt-ltb p (holders_of plan.settings) fits.0))
        (seat_acts p fits.0 what fits.1) moves
    near_keeps (OfReader r peek) fits moves = reader_acts r peek fits

  -- ---- runs

  -- all that is known at one moment
  pub record Known (x : World) : Type 0 where
    pub owned : Owned plan x
    pub finds : FoundOk plan x
    pub reads : Reads plan x
    pub stored : Stored plan x
    pub near : Near plan x

  zeros : IsPlan plan → row_at plan (λ i. 0) ≡ record { items = []; entries = [] }
  zeros is =
      row_stands plan is (record { items = []; entries = [] })
      (record { items = omega arith; few = omega arith; entries = tt }) (λ i. 0) front
    where
      front : IsFront (row_words (record { items = []; entries = [] })) (λ i. 0)
      front zero less = refl
      front (suc i) less = absurd (omega (arith, less))

  nothing_small : IsWord 0
  nothing_small = omega arith

  near_first : IsPlan plan → Near plan (opening_world plan)
  unfolding opening_store
  near_first is = record {
    seats = λ p less. subst
        (λ (k : SeatNow). NearStand plan p k.time k.posted ((opening_world plan).store.hold p) k.stand
        × NearScan plan k.scan)
        (sym (seat_is plan is p less)) (tt, tt);
    wants = λ q less. some_bucket;
    words = record {
      announced = λ q. nothing_small;
      want = λ q. nothing_small;
      hold = λ q. nothing_small;
      op = λ q i. nothing_small;
      bucket = bucket_word;
      row = λ r i. nothing_small;
    };
    rows = λ b less. subst SmallRow (sym (zeros is)) (record { items = tt; entries = tt });
    readers = λ r. tt;
  }
    where
      some_bucket : 0 < buckets_of plan.settings
      some_bucket = pow_pos plan.settings.depth

      bucket_word : (b : ℕ) → IsWord (cond (nat_lt b (buckets_of plan.settings)) (born_word plan b) 0)
      bucket_word b = go (nat_lt b (buckets_of plan.settings)) refl
        where
          go : (c : Bool) → nat_lt b (buckets_of plan.settings) ≡ c → IsWord (cond c (born_word plan b) 0)
          go false e = nothing_small
          go true e =
              let less = ltb-true b (buckets_of plan.settings) e in
              let most : 2 ^ plan.row_bits ≤ 2 ^ 21 = pow_mono is.bits in
              let rows = rows_most plan is in
              omega (arith, less, most, rows)

  known_first : IsPlan plan → Known (opening_world plan)
  known_first is = record {
    owned = opening_owned plan is;
    finds = found_first plan is;
    reads = reads_first plan is;
    stored = stored_first plan is;
    near = near_first is;
  }

  known_keep : IsPlan plan → (x : World) → Known x → (event : Event) → IsEvent plan x event →
      Known (happens plan x event)
  known_keep is x k event fits =
      let e = event_keeps plan is x k.owned event fits in record {
        owned = e.owned;
        finds = found_keep plan x k.owned k.finds event fits;
        reads = reads_keep plan is x k.owned k.reads event fits e.moves;
        stored = stored_keep plan is x k.owned k.stored event fits;
        near = near_keeps is x k.owned k.finds k.reads k.stored k.near event fits e.moves;
      }

  known_follow : IsPlan plan → (events : List Event) (x : World) → Known x → AreEvents plan x events →
      Known (fold (happens plan) x events)
  known_follow is [] x k follow = k
  known_follow is (event ∷ events) x k follow =
      known_follow is events (happens plan x event) (known_keep is x k event follow.0) follow.1

pub all_known : (plan : Plan) (events : List Event) → IsRun plan events → Known plan (world_after plan events)
all_known plan events run =
    known_follow plan run.opened events (opening_world plan) (known_first plan run.opened) run.follow

-- THE RESULTS
pub steps_are_on_table : StepsAreOnTable
steps_are_on_table plan events seat run inside =
    let k = all_known plan events run in
    there_on plan run.opened (world_after plan events) k.owned k.finds k.reads k.near seat inside
    (seat_in (world_after plan events) seat).stand refl

pub peeks_are_on_table : PeeksAreOnTable
peeks_are_on_table plan events reader aim glance run stood =
    let k : IsAim plan aim × NearPeek plan glance × FineLook plan 0 glance =
    subst (NearPeeking plan) stood ((all_known plan events run).near.readers reader) in
    peek_on plan run.opened aim glance k.0 k.1 k.2
