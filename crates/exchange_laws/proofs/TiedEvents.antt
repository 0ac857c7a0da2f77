-- Each event is one of the protocol of announced ops, two, or none. So in every run the table follows it.
use Rattle.std.proofs.Common.{◌≡◌, ℕ, ◌<◌, inl, inr, Bool, false, cond, List, [], ◌∷◌, Option, Some, None, refl, sym, ap, ◌∙◌, subst, arith, true≢false, lt-ltb}
use Rattle.std.specs.Prelude.{slice_index_or}
use Rattle.std.proofs.lemmas.Bool.{cases_Bool}
use Rattle.list_laws.proofs.Totals.{many}
use Rattle.plain_map.specs.declared.calls.Call.{Call}
use Rattle.plain_map.specs.declared.calls.Call.TheVariants.{Insert, Remove, Lookup, Tally, Count, Put}
use Rattle.plain_map.specs.Updates.{IsUpdate}
use Rattle.plain_map.specs.Calls.{key_in}
use Rattle.exchange_model.specs.Plans.{holders_of, Plan, IsPlan, buckets_of}
use Rattle.exchange_model.specs.Codes.{is_pending, row_in, generation_in, row_at}
use Rattle.exchange_model.specs.Words as W
use Rattle.exchange_model.specs.Steps as S
use Rattle.exchange_model.specs.Steps.{Step, Stand, SeatNow, Aim, OfKey, OfBucket, Glance, glance_deed, bucket_of_call, made}
use Rattle.exchange_model.specs.Goes.{scan_begins, Fate, On, Ends, Spends, Refuses, first_fate, GlanceFate, Looks, Shows, Disturbed, glance_fate}
use Rattle.exchange_model.specs.Worlds.{World, Event, OfSeat, OfReader, IsEvent, What, Begin, Copy, Step_on, Fits, IsFlying, seat_in, ticked, found_by, store_after, goes, glances, look_after, course_from, stand_at, update_begins, look_begins, call_begins, goes_on, act, happens, nobody, Peek, Open, Peek_on, peeks_on}
use Rattle.exchange_laws.proofs.RowLists.{is_row}
use Rattle.exchange_laws.proofs.Words.{bucket_small}
use Rattle.exchange_laws.proofs.Owned.{Owned}
use Rattle.exchange_laws.proofs.OwnedSteps.{IsStill, quiet_words, quiet_glance}
use Rattle.exchange_laws.proofs.OwnedMoves.{Moves}
use Rattle.exchange_laws.proofs.TrueReads.{Reads, ReadsAt}
use Rattle.exchange_laws.proofs.StoredRows.{Stored}
use Rattle.exchange_laws.proofs.FoundOps.{FoundOk, FoundAt}
use Rattle.exchange_laws.proofs.Announcing.{State}
use Rattle.exchange_laws.proofs.Announcements.{Announces, IsOther, silent_words, silent_glance, begun_posted}
use Rattle.exchange_laws.proofs.Entries.{most}
use Rattle.exchange_laws.proofs.Tied.{SinceFate, Tied, TryAt, TryFate, Pends, pends_word, same_self}
use Rattle.exchange_laws.proofs.TiedTries.{pending_step, check_step, announced_step, op_step}
use Rattle.exchange_laws.proofs.TiedMoves.{quietly}
use Rattle.exchange_laws.proofs.TiedSteps as TS
use Rattle.exchange_laws.proofs.TiedExchanges as TX
use Rattle.exchange_laws.proofs.TiedSteps.{Follows, AreCounted}

module _ (plan : Plan) (is_plan : IsPlan plan) where
  module _ (x : World) (h : Owned plan x) (reads : Reads plan x) (finds : FoundOk plan x) (stored : Stored plan x)
      (all : Announces plan x) (counted : AreCounted plan is_plan x) (s : State) (tied : Tied plan x s) (p : ℕ)
      (inside : p < holders_of plan.settings) where
    abbrev now : SeatNow
    now = seat_in x p

    module _ (call : Call) (of_seat : p < plan.settings.seats) where
      abbrev b : ℕ
      b = bucket_of_call plan call

      small : b < buckets_of plan.settings
      small = bucket_small plan is_plan (key_in call)

      abbrev T : State → Fate → Type 0
      T z f = TryFate plan x.store.bucket x.store.op z p b f

      abbrev Y : Step → World
      Y step = ticked (goes plan x p now call step)

      abbrev M : Step → Type 0
      M step = Moves plan h.at x (Y step)

      calm_step : (step : Step) → now.stand ≡ S.Goes call step → IsStill step → IsOther step →
          TS.IsCalm plan is_plan x h reads finds stored all counted s tied p inside call of_seat step → M step →
          Follows plan is_plan (Y step)
      calm_step = TS.calm_step plan is_plan x h reads finds stored all counted s tied p inside call of_seat

      -- an announcement that says nothing is pending
      not_announced : (q : ℕ) → q < plan.settings.seats → is_pending (x.store.announced q) ≡ false → s.pending q ≡ false
      not_announced q less e = elim (cases_Bool (s.pending q)) [
        | inl a ↦ absurd (true≢false (sym (pends_word plan is_plan s q (x.store.announced q) (tied.pends q less) a).0
            ∙ e))
        | inr a ↦ a
      ]

      update_step : (step : Step) → now.stand ≡ S.Goes call step → M step → Follows plan is_plan (Y step)
      update_step (S.CheckWord turn old words) e moves =
          let r : ReadsAt plan x (S.Goes call (S.CheckWord turn old words)) =
          subst (ReadsAt plan x) e (reads.each p inside) in
          TS.plain_step plan is_plan x h reads finds stored all counted s tied p inside call of_seat
          (S.CheckWord turn old words) e tt tt moves
          (check_step plan is_plan x s tied all p of_seat call turn old words r.0 r.1
          (TS.told plan is_plan x h reads finds stored all counted s tied p inside call of_seat
          (S.CheckWord turn old words) e))
      update_step (S.LoadAnnounced t found) e moves =
          let f : FoundAt plan (S.Goes call (S.LoadAnnounced t found)) = subst (FoundAt plan) e (finds.each p inside) in
          TS.plain_step plan is_plan x h reads finds stored all counted s tied p inside call of_seat
          (S.LoadAnnounced t found) e tt tt moves
          (announced_step plan is_plan x s tied all p of_seat call t
          (TS.told plan is_plan x h reads finds stored all counted s tied p inside call of_seat
          (S.LoadAnnounced t found) e) found f.1.2
          (TS.tried plan is_plan x h reads finds stored all counted s tied p inside call of_seat
          (S.LoadAnnounced t found) e).1)
      update_step (S.LoadOp t found announced words) e moves =
          let f : FoundAt plan (S.Goes call (S.LoadOp t found announced words)) =
          subst (FoundAt plan) e (finds.each p inside) in
          TS.plain_step plan is_plan x h reads finds stored all counted s tied p inside call of_seat
          (S.LoadOp t found announced words) e tt tt moves
          (op_step plan is_plan x s tied all p of_seat call t
          (TS.told plan is_plan x h reads finds stored all counted s tied p inside call of_seat
          (S.LoadOp t found announced words) e) found f.1.2 announced
          words (TS.tried plan is_plan x h reads finds stored all counted s tied p inside call of_seat
          (S.LoadOp t found announced words) e).1)
      update_step (S.StoreRow t found i) e moves =
          TS.row_step plan is_plan x h reads finds stored all counted s tied p inside call of_seat t found i e moves
      update_step (S.Exchange t found) e moves =
          TX.exchange_step plan is_plan x h reads finds stored all counted s tied p inside call of_seat t found e moves
      update_step (S.StoreOp i) e moves =
          TS.op_word_step plan is_plan x h reads finds stored all counted s tied p inside call of_seat i e moves
      update_step S.Announce e moves =
          TS.announce_step plan is_plan x h reads finds stored all counted s tied p inside call of_seat e moves
      update_step (S.HeldReply row at) e moves = calm_step (S.HeldReply row at) e tt tt tt moves
      update_step (S.GiveBack reply) e moves =
          TS.back_step plan is_plan x h reads finds stored all counted s tied p inside call of_seat reply e moves
      update_step (S.LowerPending ending) e moves = calm_step (S.LowerPending ending) e tt tt tt moves
      update_step S.RaisePending e moves = calm_step S.RaisePending e tt tt tt moves
      update_step (S.LoadPending t) e moves =
          TS.plain_step plan is_plan x h reads finds stored all counted s tied p inside call of_seat
          (S.LoadPending t) e tt tt moves
          (pending_step plan is_plan x s tied all p of_seat call t
          (TS.told plan is_plan x h reads finds stored all counted s tied p inside call of_seat (S.LoadPending t) e)
          (λ alone q less n. not_announced q less (counted p call t of_seat e alone q less n))
          (TS.tried plan is_plan x h reads finds stored all counted s tied p inside call of_seat (S.LoadPending t) e).1)
      update_step (S.Over ending) e moves =
          TS.over_step plan is_plan x h reads finds stored all counted s tied p inside call of_seat ending e moves
      update_step S.Scans e moves = calm_step S.Scans e tt tt tt moves
      update_step (S.LoadWord turn) e moves = calm_step (S.LoadWord turn) e tt tt tt moves
      update_step (S.LoadRow turn old words) e moves = calm_step (S.LoadRow turn old words) e tt tt tt moves
      update_step S.StoreWant e moves = calm_step S.StoreWant e tt tt tt moves
      update_step S.StoreAsking e moves = calm_step S.StoreAsking e tt tt tt moves
      update_step S.HeldWord e moves = calm_step S.HeldWord e tt tt tt moves
      update_step (S.TakeHold old) e moves = calm_step (S.TakeHold old) e tt tt tt moves
      update_step (S.HeldHead row) e moves = calm_step (S.HeldHead row) e tt tt tt moves
      update_step (S.HeldEntry row at left) e moves = calm_step (S.HeldEntry row at left) e tt tt tt moves
      update_step S.Stuck e moves = calm_step S.Stuck e tt tt tt moves

    -- ---- looks, and begins

    look_step : (aim : Aim) (glance : Glance) → Moves plan h.at x (ticked (glances plan x p now aim glance)) →
        Follows plan is_plan (ticked (glances plan x p now aim glance))
    look_step aim glance moves =
        let deed = glance_deed plan p now.time aim glance in
        let f = glance_fate plan now.time aim glance (found_by deed x.store) in
        let store = store_after deed x.store in
        let silent = silent_words deed x.store (silent_glance plan p now.time aim glance) in
        record {
          s = s;
          tied = quietly plan is_plan x h s tied reads p inside store (look_after now aim glance f) _ x.made s
              (same_self plan s p) moves tied.holds
              (quiet_words deed x.store (quiet_glance plan p now.time aim glance)).0
              silent.0 (λ k _. ap (λ (g : ℕ → ℕ → ℕ). g k) silent.1) (own_is f) (frees f) (λ _. go store f);
        }
      where
        own_is : (f : GlanceFate) → (look_after now aim glance f).posted ≡ now.posted
        own_is (Looks next) = refl
        own_is (Shows items) = refl
        own_is Disturbed = refl

        frees : (f : GlanceFate) (row : ℕ) → many (is_row row) (look_after now aim glance f).free ≡ 0 →
            many (is_row row) now.free ≡ 0
        frees (Looks next) row e = e
        frees (Shows items) row e = e
        frees Disturbed row e = e

        go : (store : W.Store) (f : GlanceFate) →
            TryAt plan store.bucket store.op s p (look_after now aim glance f).stand
        go _ (Looks next) = tt
        go _ (Shows items) = tt
        go _ Disturbed = tt

    look_first : (aim : Aim) → Moves plan h.at x (ticked (look_begins x p now aim)) →
        Follows plan is_plan (ticked (look_begins x p now aim))
    look_first aim moves = record {
      s = s;
      tied = quietly plan is_plan x h s tied reads p inside x.store _ x.answers x.made s
          (same_self plan s p) moves tied.holds
          refl refl (λ k a. refl) refl (λ row e. e) (λ _. tt);
    }

    update_first : (call : Call) → IsUpdate call → Moves plan h.at x (ticked (update_begins plan x p now call)) →
        Follows plan is_plan (ticked (update_begins plan x p now call))
    update_first call is moves =
        let taken = scan_begins plan p now.free now in
        let f = first_fate taken.free taken.scan in
        record {
          s = s;
          tied = quietly plan is_plan x h s tied reads p inside x.store
              (record taken { stand = stand_at call f; course = course_from x.clock }) _ x.made s
              (same_self plan s p) moves
              tied.holds refl refl (λ k a. refl) (begun_posted plan x h all p inside now.free)
              (begun_frees now.free refl)
              (λ _. stands f (first taken.free taken.scan) (late taken.free taken.scan));
        }
      where
        begun_frees : (free : List ℕ) → now.free ≡ free → (row : ℕ) →
            many (is_row row) (scan_begins plan p free now).free ≡ 0 →
            many (is_row row) now.free ≡ 0
        begun_frees (r ∷ free) is_free row e = e
        begun_frees [] is_free row e = ap (many (is_row row)) is_free

        first : (free : List ℕ) (scan : Option S.Scan) →
            TryFate plan x.store.bucket x.store.op s p (bucket_of_call plan call)
            (first_fate free scan)
        first [] None = tt
        first (row ∷ free) None = tt
        first free (Some scan) = tt

        stands : (f : Fate) → TryFate plan x.store.bucket x.store.op s p (bucket_of_call plan call) f →
            SinceFate plan s p (bucket_of_call plan call) f → TryAt plan x.store.bucket x.store.op s p (stand_at call f)
        stands (On step) t l = (is, t, l)
        stands (Ends reply) t l = tt
        stands Refuses t l = tt
        stands Spends t l = tt

        late : (free : List ℕ) (scan : Option S.Scan) →
            SinceFate plan s p (bucket_of_call plan call) (first_fate free scan)
        late [] None = tt
        late (row ∷ free) None = λ e. absurd (true≢false (sym e))
        late free (Some scan) = tt

    call_first : (call : Call) → Fits plan p now (Begin call) →
        Moves plan h.at x (ticked (call_begins plan x p now call)) →
        Follows plan is_plan (ticked (call_begins plan x p now call))
    call_first (Lookup key) e moves = look_first (OfKey key) moves
    call_first (Insert key value) e moves = update_first (Insert key value) e.1.3 moves
    call_first (Remove key) e moves = update_first (Remove key) e.1.3 moves
    call_first (Tally key amount) e moves = update_first (Tally key amount) e.1.3 moves
    call_first (Count key value amount) e moves = update_first (Count key value amount) e.1.3 moves
    call_first (Put key value) e moves = update_first (Put key value) e.1.3 moves

    seat_goes : (stand : Stand) → now.stand ≡ stand → IsFlying plan p stand →
        Moves plan h.at x (ticked (goes_on plan x p now stand)) →
        Follows plan is_plan (ticked (goes_on plan x p now stand))
    seat_goes S.Idle e flies moves = absurd flies
    seat_goes (S.Goes call step) e flies moves = update_step call flies step e moves
    seat_goes (S.Glances aim glance) e flies moves = look_step aim glance moves

    pub seat_follows : (what : What) → Fits plan p now what → Moves plan h.at x (ticked (act plan x p now what)) →
        Follows plan is_plan (ticked (act plan x p now what))
    seat_follows (Begin call) fits moves = call_first call fits moves
    seat_follows (Copy bucket) fits moves = look_first (OfBucket bucket) moves
    seat_follows Step_on fits moves = seat_goes now.stand refl fits moves

  -- a reader changes nothing of it
  unchanged : (x y : World) (s : State) → Tied plan x s → y.store ≡ x.store → y.seats ≡ x.seats → Follows plan is_plan y
  unchanged x y s tied store seats = record {
    s = s;
    tied = record {
      holds = tied.holds;
      gens = λ b less. tied.gens b less ∙ ap (λ (m : W.Store). generation_in plan (m.bucket b)) (sym store);
      rows = λ b q less few. tied.rows b q less few
          ∙ ap (λ (m : W.Store). most q (row_at plan (m.row (row_in plan (m.bucket b)))).entries) (sym store);
      posted = λ q less. tied.posted q less ∙ ap (λ (k : SeatNow). k.posted) (seat_same q);
      olds = λ row q none less.
          let same = ap (λ (m : W.Store). most q (row_at plan (m.row row)).entries) store in
          let old = tied.olds row q
          (λ k inside. ap (λ (n : SeatNow). many (is_row row) n.free) (seat_same k) ∙ none k inside) less in
          omega (arith, same, old);
      pends = λ q less. subst (λ (m : W.Store). Pends plan s q (m.announced q)) (sym store) (tied.pends q less);
      each = λ q less. subst (λ (m : W.Store). TryAt plan m.bucket m.op s q (seat_in y q).stand) (sym store)
          (subst (λ (k : SeatNow). TryAt plan x.store.bucket x.store.op s q k.stand) (seat_same q) (tied.each q less));
    };
  }
    where
      seat_same : (q : ℕ) → seat_in x q ≡ seat_in y q
      seat_same q = ap (λ (ss : List SeatNow). slice_index_or ss q nobody) (sym seats)

  reader_follows : (x : World) (s : State) → Tied plan x s → (r : ℕ) (peek : Peek) →
      Follows plan is_plan (happens plan x (OfReader r peek))
  reader_follows x s tied r (Open aim tries) = unchanged x _ s tied refl refl
  reader_follows x s tied r Peek_on = go (x.readers r).stand
    where
      go : (stand : S.Peeking) → Follows plan is_plan (ticked (peeks_on plan x r (x.readers r) stand))
      go S.Rests = unchanged x _ s tied refl refl
      go (S.Peeks aim glance) = unchanged x _ s tied refl refl

  -- THE RESULT: an event keeps it
  pub follows_keep : (x : World) (h : Owned plan x) → Reads plan x → FoundOk plan x → Stored plan x → Announces plan x →
      AreCounted plan is_plan x → Follows plan is_plan x → (event : Event) → IsEvent plan x event →
      Moves plan h.at x (happens plan x event) →
      Follows plan is_plan (happens plan x event)
  follows_keep x h reads finds stored all counted f (OfSeat p what) fits moves =
      subst (λ (c : Bool). Moves plan h.at x (cond c y x) →
      Follows plan is_plan (cond c y x)) (sym (lt-ltb p (holders_of plan.settings) fits.0))
      (seat_follows x h reads finds stored all counted f.s f.tied p fits.0 what fits.1) moves
    where
      y : World
      y = ticked (act plan x p (seat_in x p) what)
  follows_keep x h reads finds stored all counted f (OfReader r peek) fits moves = reader_follows x f.s f.tied r peek
