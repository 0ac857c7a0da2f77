-- An op that a try has found due stays the call of its seat, as long as the bucket has the word of the try: each event.
use Rattle.std.proofs.Common.{◌≡◌, ◌≢◌, ℕ, ◌<◌, Bool, true, false, cond, List, [], ◌∷◌, Option, Some, None, refl, sym, ap, ◌∙◌, subst, arith, true≢false, lt-ltb, get_or-set_same, get_or-set_other, inl, inr}
use Rattle.std.specs.Prelude.{◌==◌}
use Rattle.std.proofs.lemmas.Bool.{cases_eq, cond_both}
use Rattle.plain_map.specs.declared.calls.Call.{Call}
use Rattle.plain_map.specs.declared.calls.Call.TheVariants.{Insert, Remove, Lookup, Tally, Count, Put}
use Rattle.exchange_model.specs.Plans.{holders_of, Plan, IsPlan}
use Rattle.exchange_model.specs.Words as W
use Rattle.exchange_model.specs.Steps as S
use Rattle.exchange_model.specs.Steps.{MadeBySeat, Step, Stand, Scan, SeatNow, Found, Try, Aim, Glance, deed_of, glance_deed, bucket_of_call}
use Rattle.exchange_model.specs.Goes.{scan_begins, Fate, On, Ends, Spends, Refuses, first_fate, is_announced, lost, ends_with, reply_for, fate, own_after, GlanceFate, Looks, Shows, Disturbed, glance_fate}
use Rattle.exchange_model.specs.Worlds.{World, Answer, Event, OfSeat, OfReader, IsEvent, What, Begin, Copy, Step_on, Fits, IsFlying, seat_in, with_seat, ticked, found_by, store_after, seat_after, goes, glances, look_after, course_from, stand_at, update_begins, call_begins, goes_on, act, happens, nobody, opening_world, Peek, Open, Peek_on, peeks_on}
use Rattle.exchange_laws.proofs.Words.{seat_holds}
use Rattle.exchange_laws.proofs.Owned.{Owned}
use Rattle.exchange_laws.proofs.OwnedMoves.{Moves}
use Rattle.exchange_laws.proofs.OwnedRuns.{seat_is}
use Rattle.exchange_laws.proofs.OwnedSteps.{quiet_words, quiet_step}
use Rattle.exchange_laws.proofs.TrueReads.{Reads}
use Rattle.exchange_laws.proofs.FoundOps.{FoundOk, FoundAt}
use Rattle.exchange_laws.proofs.Announcing.{State}
use Rattle.exchange_laws.proofs.Announcements.{at_rest, TellsAt, Announces}
use Rattle.exchange_laws.proofs.Tied.{Tied, TryAt, rests_at}
use Rattle.exchange_laws.proofs.TakenCalls.{call_under, calls_in, CallsStep, CallsFate, CallsAt, calls_ended, calls_lost, Taken, at_still, fated}

module _ (plan : Plan) where
  module _ (is_plan : IsPlan plan) (x : World) (h : Owned plan x) (reads : Reads plan x) (finds : FoundOk plan x)
      (all : Announces plan x) (s : State) (tied : Tied plan x s) (taken : Taken plan x) (p : ℕ)
      (inside : p < holders_of plan.settings) where
    abbrev now : SeatNow
    now = seat_in x p

    -- where the call of this seat is the same
    next : (store : W.Store) (then : SeatNow) (answers : List Answer) (updates : List MadeBySeat) →
        (let y = ticked (with_seat x p store then answers updates) in
        Moves plan h.at x y → (z : State) → Tied plan y z →
        (p < plan.settings.seats → s.pending p ≡ true → z.pending p ≡ true →
        call_under then.stand ≡ call_under now.stand) →
        (p < plan.settings.seats → CallsAt plan (calls_in y) store.bucket then.stand) → Taken plan y)
    next store then answers updates moves z tied_then same here = record {
      each = λ q less. elim (cases_eq q p) [
        | inl e ↦ subst (λ i. CallsAt plan (calls_in y) store.bucket (seat_in y i).stand) (sym e)
            (subst (λ (k : SeatNow). CallsAt plan (calls_in y) store.bucket k.stand) (sym mine)
            (here (subst (λ k. k < plan.settings.seats) e less)))
        | inr n ↦ subst (λ (k : SeatNow). CallsAt plan (calls_in y) store.bucket k.stand) (sym (other q n))
            (at_still plan is_plan x y h moves s z tied tied_then still q (seat_in x q).stand
            (reads.each q (seat_holds plan q less))
            (finds.each q (seat_holds plan q less)) (tied.each q less)
            (subst (λ (k : SeatNow). TryAt plan store.bucket store.op z q k.stand) (other q n) (tied_then.each q less))
            (taken.each q less))
      ];
    }
      where
        y : World
        y = ticked (with_seat x p store then answers updates)

        mine : seat_in y p ≡ then
        mine = get_or-set_same x.seats p then nobody (let long = h.long in omega (arith, inside, long))

        other : (q : ℕ) → q ≢ p → seat_in y q ≡ seat_in x q
        other q n = get_or-set_other x.seats p q then nobody n

        still : (k : ℕ) → k < plan.settings.seats → s.pending k ≡ true → z.pending k ≡ true →
            calls_in y k ≡ calls_in x k
        still k less was is = elim (cases_eq k p) [
          | inl e ↦ ap (λ i. call_under (seat_in y i).stand) e ∙ ap (λ (n : SeatNow). call_under n.stand) mine
              ∙ same (subst (λ k. k < plan.settings.seats) e less) (ap s.pending (sym e) ∙ was) (ap z.pending (sym e)
              ∙ is) ∙ ap (λ i. call_under (seat_in x i).stand) (sym e)
          | inr n ↦ ap (λ (n : SeatNow). call_under n.stand) (other k n)
        ]

    -- a seat that makes no update has none announced
    rests : p < plan.settings.seats → (x : World) (s : State) → Tied plan x s → Announces plan x → (stand : Stand) →
        (seat_in x p).stand ≡ stand →
        call_under stand ≡ None → s.pending p ≡ false
    rests of_seat x s tied all stand stood none =
        go stand stood none (subst (TellsAt plan (x.store.announced p) (x.store.op p)
        (seat_in x p).posted) stood (all.each p inside))
      where
        quiet : x.store.announced p ≡ at_rest (seat_in x p).posted → s.pending p ≡ false
        quiet e = rests_at plan is_plan s p (x.store.announced p) (tied.pends p of_seat) (seat_in x p).posted e

        some : Option Call → ℕ
        some None = 0
        some (Some call) = 1

        go : (stand : Stand) → (seat_in x p).stand ≡ stand → call_under stand ≡ None →
            TellsAt plan (x.store.announced p) (x.store.op p) (seat_in x p).posted stand → s.pending p ≡ false
        go S.Idle e n t = quiet t
        go (S.Goes call step) e n t = absurd (let k = ap some n in omega (arith, k))
        go (S.Glances aim glance) e n t = quiet t

    module _ (call : Call) (of_seat : p < plan.settings.seats) (step : Step)
        (stood : now.stand ≡ S.Goes call step) where
      abbrev deed : S.Deed
      deed = deed_of plan p now call step

      abbrev f : Fate
      f = fate plan p now call step (found_by deed x.store)

      abbrev own : SeatNow
      own = own_after plan p now call step (found_by deed x.store)

      abbrev y : World
      y = ticked (goes plan x p now call step)

      mine_y : seat_in y p ≡ seat_after own call f
      mine_y = get_or-set_same x.seats p (seat_after own call f) nobody (let long = h.long in
          omega (arith, inside, long))

      same_calls : (g : Fate) → seat_in y p ≡ seat_after own call g → (step : Step) → g ≡ On step → (k : ℕ) →
          calls_in y k ≡ calls_in x k
      same_calls g is step e k = elim (cases_eq k p) [
        | inl i ↦ ap (λ i. call_under (seat_in y i).stand) i ∙ ap (λ (n : SeatNow). call_under n.stand) is
            ∙ ap (λ (g : Fate). call_under (seat_after own call g).stand) e ∙ sym (ap call_under stood)
            ∙ ap (λ i. call_under (seat_in x i).stand) (sym i)
        | inr n ↦ ap (λ (n : SeatNow). call_under n.stand)
            (get_or-set_other x.seats p k (seat_after own call f) nobody n)
      ]

      pending : (z : State) → Tied plan y z → Announces plan y → (g : Fate) → seat_in y p ≡ seat_after own call g →
          s.pending p ≡ true → z.pending p ≡ true →
          call_under (seat_after own call g).stand ≡ call_under now.stand
      pending z tied_then all_then (On next) is was then = sym (ap call_under stood)
      pending z tied_then all_then (Ends reply) is was then =
          absurd (true≢false (sym then
          ∙ rests of_seat y z tied_then all_then S.Idle (ap (λ (n : SeatNow). n.stand) is) refl))
      pending z tied_then all_then Refuses is was then =
          absurd (true≢false (sym then
          ∙ rests of_seat y z tied_then all_then S.Idle (ap (λ (n : SeatNow). n.stand) is) refl))
      pending z tied_then all_then Spends is was then =
          absurd (true≢false (sym then
          ∙ rests of_seat y z tied_then all_then S.Idle (ap (λ (n : SeatNow). n.stand) is) refl))

      goes_taken : (bucket : (store_after deed x.store).bucket ≡ x.store.bucket) → Moves plan h.at x y → (z : State) →
          Tied plan y z → Announces plan y → Taken plan y
      goes_taken bucket moves z tied_then all_then =
          next (store_after deed x.store) (seat_after own call f) _ _ moves z tied_then
          (λ _. pending z tied_then all_then f mine_y)
          (λ _. here f mine_y (fated plan is_plan x s tied all p of_seat call (ap call_under stood) step
          (subst (FoundAt plan) stood (finds.each p inside))
          (subst (TellsAt plan (x.store.announced p) (x.store.op p) now.posted) stood (all.each p inside))
          (subst (TryAt plan x.store.bucket x.store.op s p) stood (tied.each p of_seat)).1
          (subst (CallsAt plan (calls_in x) x.store.bucket) stood (taken.each p of_seat))))
        where
          here : (g : Fate) → seat_in y p ≡ seat_after own call g →
              CallsFate (calls_in x) x.store.bucket (bucket_of_call plan call) g →
              CallsAt plan (calls_in y) (store_after deed x.store).bucket (seat_after own call g).stand
          here (On next) is c =
              subst (λ (g : ℕ → ℕ). CallsStep (calls_in y) g (bucket_of_call plan call) next) (sym bucket)
              (subst (λ (g : ℕ → Option Call). CallsStep g x.store.bucket (bucket_of_call plan call) next)
              (λ i k. sym (same_calls (On next) is next refl k) i) c)
          here (Ends reply) is c = tt
          here Refuses is c = tt
          here Spends is c = tt

      exchange_taken : (t : Try) (found : List Found) → step ≡ S.Exchange t found → Moves plan h.at x y → (z : State) →
          Tied plan y z → Announces plan y → Taken plan y
      exchange_taken t found e moves z tied_then all_then =
          next (store_after deed x.store) (seat_after own call f) _ _ moves z tied_then
          (λ _. pending z tied_then all_then f mine_y)
          (λ _. subst (λ (k : Step). CallsAt plan (calls_in y) (store_after deed x.store).bucket
          (seat_after own call (fate plan p now call k (found_by deed x.store))).stand) (sym e)
          (here (fate plan p now call (S.Exchange t found) (found_by deed x.store))
          (cond_both (found_by deed x.store ==
          t.word) (ends_with (is_announced t.turn) (reply_for p (S.made plan t found).made))
          (lost t.turn) (CallsFate (calls_in y) (store_after deed x.store).bucket (bucket_of_call plan call))
          (λ _. calls_ended (calls_in y) (store_after deed x.store).bucket (bucket_of_call plan call)
          (is_announced t.turn)
          (reply_for p (S.made plan t found).made))
          (λ _. calls_lost (calls_in y) (store_after deed x.store).bucket (bucket_of_call plan call) t.turn))))
        where
          here : (g : Fate) → CallsFate (calls_in y) (store_after deed x.store).bucket (bucket_of_call plan call) g →
              CallsAt plan (calls_in y) (store_after deed x.store).bucket (seat_after own call g).stand
          here (On next) c = c
          here (Ends reply) c = tt
          here Refuses c = tt
          here Spends c = tt

    update_step : (call : Call) → p < plan.settings.seats → (step : Step) → now.stand ≡ S.Goes call step →
        Moves plan h.at x (ticked (goes plan x p now call step)) → (z : State) →
        Tied plan (ticked (goes plan x p now call step)) z → Announces plan (ticked (goes plan x p now call step)) →
        Taken plan (ticked (goes plan x p now call step))
    update_step call of_seat (S.Exchange t found) e moves z tied_then all_then =
        exchange_taken call of_seat (S.Exchange t found) e t found refl moves z tied_then all_then
    update_step call of_seat (S.StoreRow t found i) e moves z tied_then all_then =
        goes_taken call of_seat (S.StoreRow t found i) e refl moves z tied_then all_then
    update_step call of_seat S.Scans e moves z tied_then all_then = goes_taken call of_seat S.Scans e
        (quiet_words (deed_of plan p now call S.Scans) x.store
        (quiet_step plan p now call S.Scans tt)).0 moves z tied_then all_then
    update_step call of_seat (S.LoadWord turn) e moves z tied_then all_then =
        goes_taken call of_seat (S.LoadWord turn) e refl moves z tied_then all_then
    update_step call of_seat (S.LoadRow turn old words) e moves z tied_then all_then =
        goes_taken call of_seat (S.LoadRow turn old words) e refl moves z tied_then all_then
    update_step call of_seat (S.CheckWord turn old words) e moves z tied_then all_then =
        goes_taken call of_seat (S.CheckWord turn old words) e refl moves z tied_then all_then
    update_step call of_seat (S.LoadPending t) e moves z tied_then all_then =
        goes_taken call of_seat (S.LoadPending t) e refl moves z tied_then all_then
    update_step call of_seat S.RaisePending e moves z tied_then all_then =
        goes_taken call of_seat S.RaisePending e refl moves z tied_then all_then
    update_step call of_seat (S.GiveBack reply) e moves z tied_then all_then =
        goes_taken call of_seat (S.GiveBack reply) e refl moves z tied_then all_then
    update_step call of_seat (S.LowerPending ending) e moves z tied_then all_then =
        goes_taken call of_seat (S.LowerPending ending) e refl moves z tied_then all_then
    update_step call of_seat (S.LoadAnnounced t found) e moves z tied_then all_then =
        goes_taken call of_seat (S.LoadAnnounced t found) e refl moves z tied_then all_then
    update_step call of_seat (S.LoadOp t found announced words) e moves z tied_then all_then =
        goes_taken call of_seat (S.LoadOp t found announced words) e refl moves z tied_then all_then
    update_step call of_seat (S.StoreOp i) e moves z tied_then all_then =
        goes_taken call of_seat (S.StoreOp i) e refl moves z tied_then all_then
    update_step call of_seat S.Announce e moves z tied_then all_then =
        goes_taken call of_seat S.Announce e refl moves z tied_then all_then
    update_step call of_seat S.StoreWant e moves z tied_then all_then =
        goes_taken call of_seat S.StoreWant e refl moves z tied_then all_then
    update_step call of_seat S.StoreAsking e moves z tied_then all_then =
        goes_taken call of_seat S.StoreAsking e refl moves z tied_then all_then
    update_step call of_seat S.HeldWord e moves z tied_then all_then =
        goes_taken call of_seat S.HeldWord e refl moves z tied_then all_then
    update_step call of_seat (S.TakeHold old) e moves z tied_then all_then = goes_taken call of_seat (S.TakeHold old) e
        (quiet_words (deed_of plan p now call (S.TakeHold old)) x.store
        (quiet_step plan p now call (S.TakeHold old) tt)).0 moves z tied_then all_then
    update_step call of_seat (S.HeldHead row) e moves z tied_then all_then =
        goes_taken call of_seat (S.HeldHead row) e refl moves z tied_then all_then
    update_step call of_seat (S.HeldEntry row at left) e moves z tied_then all_then =
        goes_taken call of_seat (S.HeldEntry row at left) e refl moves z tied_then all_then
    update_step call of_seat (S.HeldReply row at) e moves z tied_then all_then =
        goes_taken call of_seat (S.HeldReply row at) e refl moves z tied_then all_then
    update_step call of_seat (S.Over ending) e moves z tied_then all_then =
        goes_taken call of_seat (S.Over ending) e refl moves z tied_then all_then
    update_step call of_seat S.Stuck e moves z tied_then all_then =
        goes_taken call of_seat S.Stuck e refl moves z tied_then all_then

    -- ---- looks, and begins

    -- a seat that had no update under way
    from_rest : (store : W.Store) (then : SeatNow) (answers : List Answer) (updates : List MadeBySeat) (was : Stand) →
        now.stand ≡ was → call_under was ≡ None → (let y = ticked (with_seat x p store then answers updates) in
        Moves plan h.at x y → (z : State) → Tied plan y z → CallsAt plan (calls_in y) store.bucket then.stand →
        Taken plan y)
    from_rest store then answers updates was e none moves z tied_then here =
        next store then answers updates moves z tied_then
        (λ of_seat pends _. absurd (true≢false (sym pends ∙ rests of_seat x s tied all was e none))) (λ _. here)

    look_step : (aim : Aim) (glance : Glance) → now.stand ≡ S.Glances aim glance →
        (let y = ticked (glances plan x p now aim glance) in
        Moves plan h.at x y → (z : State) → Tied plan y z → Taken plan y)
    look_step aim glance e moves z tied_then =
        let deed = glance_deed plan p now.time aim glance in
        let f = glance_fate plan now.time aim glance (found_by deed x.store) in
        from_rest (store_after deed x.store) (look_after now aim glance f) _ x.made
        (S.Glances aim glance) e refl moves z
        tied_then (go (calls_in (ticked (glances plan x p now aim glance))) (store_after deed x.store).bucket f)
      where
        go : (calls : ℕ → Option Call) (bucket : ℕ → ℕ) (f : GlanceFate) →
            CallsAt plan calls bucket (look_after now aim glance f).stand
        go calls bucket (Looks next) = tt
        go calls bucket (Shows items) = tt
        go calls bucket Disturbed = tt

    update_first : (call : Call) → now.stand ≡ S.Idle → (let y = ticked (update_begins plan x p now call) in
        Moves plan h.at x y → (z : State) → Tied plan y z → Taken plan y)
    update_first call e moves z tied_then =
        let taken_up = scan_begins plan p now.free now in
        let f = first_fate taken_up.free taken_up.scan in
        from_rest x.store (record taken_up {
          stand = stand_at call f;
          course =
              course_from x.clock;
        }) _ x.made S.Idle e refl
        moves z tied_then (go (calls_in (ticked (update_begins plan x p now call))) taken_up.free taken_up.scan)
      where
        go : (calls : ℕ → Option Call) (free : List ℕ) (scan : Option Scan) →
            CallsAt plan calls x.store.bucket (stand_at call (first_fate free scan))
        go calls [] None = tt
        go calls (row ∷ free) None = tt
        go calls free (Some scan) = tt

    call_first : (call : Call) → now.stand ≡ S.Idle → (let y = ticked (call_begins plan x p now call) in
        Moves plan h.at x y → (z : State) → Tied plan y z → Taken plan y)
    call_first (Lookup key) e moves z t = from_rest x.store _ x.answers x.made S.Idle e refl moves z t tt
    call_first (Insert key value) e moves z t = update_first (Insert key value) e moves z t
    call_first (Remove key) e moves z t = update_first (Remove key) e moves z t
    call_first (Tally key amount) e moves z t = update_first (Tally key amount) e moves z t
    call_first (Count key value amount) e moves z t = update_first (Count key value amount) e moves z t
    call_first (Put key value) e moves z t = update_first (Put key value) e moves z t

    seat_goes : (stand : Stand) → now.stand ≡ stand → IsFlying plan p stand →
        (let y = ticked (goes_on plan x p now stand) in
        Moves plan h.at x y → (z : State) → Tied plan y z → Announces plan y → Taken plan y)
    seat_goes S.Idle e flies moves z t a = absurd flies
    seat_goes (S.Goes call step) e flies moves z t a = update_step call flies step e moves z t a
    seat_goes (S.Glances aim glance) e flies moves z t a = look_step aim glance e moves z t

    pub seat_taken : (what : What) → Fits plan p now what → (let y = ticked (act plan x p now what) in
        Moves plan h.at x y → (z : State) → Tied plan y z → Announces plan y → Taken plan y)
    seat_taken (Begin call) fits moves z t a = call_first call fits.0 moves z t
    seat_taken (Copy bucket) fits moves z t a = from_rest x.store _ x.answers x.made S.Idle fits.0 refl moves z t tt
    seat_taken Step_on fits moves z t a = seat_goes now.stand refl fits moves z t a

  reader_taken : (x : World) (r : ℕ) (peek : Peek) → Taken plan x → Taken plan (happens plan x (OfReader r peek))
  reader_taken x r (Open aim tries) taken = record { each = taken.each }
  reader_taken x r Peek_on taken = go (x.readers r).stand
    where
      go : (stand : S.Peeking) → Taken plan (ticked (peeks_on plan x r (x.readers r) stand))
      go S.Rests = record { each = taken.each }
      go (S.Peeks aim glance) = record { each = taken.each }

  pub taken_keep : IsPlan plan → (x : World) (h : Owned plan x) → Reads plan x → FoundOk plan x → Announces plan x →
      (s : State) → Tied plan x s → Taken plan x → (event : Event) → IsEvent plan x event →
      Moves plan h.at x (happens plan x event) → (z : State) → Tied plan (happens plan x event) z →
      Announces plan (happens plan x event) → Taken plan (happens plan x event)
  taken_keep is_plan x h reads finds all s tied taken (OfSeat p what) fits moves z t a =
      subst (λ (c : Bool). Moves plan h.at x (cond c y x) → (z : State) → Tied plan (cond c y x) z →
      Announces plan (cond c y x) → Taken plan (cond c y x)) (sym (lt-ltb p (holders_of plan.settings) fits.0))
      (seat_taken is_plan x h reads finds all s tied taken p fits.0 what fits.1) moves z t a
    where
      y : World
      y = ticked (act plan x p (seat_in x p) what)
  taken_keep is_plan x h reads finds all s tied taken (OfReader r peek) fits moves z t a = reader_taken x r peek taken

  pub taken_first : IsPlan plan → Taken plan (opening_world plan)
  taken_first is = record {
    each = λ q less. subst (λ (k : SeatNow). CallsAt plan (calls_in x) x.store.bucket k.stand)
        (sym (seat_is plan is q (seat_holds plan q less))) tt;
  }
    where
      x : World
      x = opening_world plan
