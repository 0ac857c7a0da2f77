-- Each row that a seat may read while it looks for the reply of its op has the entry of that op: so it finds it there.
use Rattle.std.proofs.Common.{◌≡◌, ◌≢◌, ℕ, ◌<◌, inl, inr, Bool, true, false, cond, List, Option, Some, None, refl, sym, ap, ◌∙◌, subst, arith, lt-ltb, get_or-set_same, get_or-set_other}
use Rattle.std.specs.Prelude.{◌==◌, slice_index_or}
use Rattle.std.proofs.lemmas.Bool.{cases_eq, cond_both}
use Rattle.plain_map.specs.declared.calls.Call.{Call}
use Rattle.plain_map.specs.declared.calls.Call.TheVariants.{Insert, Remove, Lookup, Tally, Count, Put}
use Rattle.plain_map.specs.Calls.{key_in}
use Rattle.exchange_model.specs.Plans.{Plan, IsPlan, holders_of}
use Rattle.exchange_model.specs.Codes.{Entry, row_in, row_at, asking, holding}
use Rattle.exchange_model.specs.Words as W
use Rattle.exchange_model.specs.Words.{with_word}
use Rattle.exchange_model.specs.Steps as S
use Rattle.exchange_model.specs.Steps.{MadeBySeat, Step, Stand, SeatNow, Aim, OfKey, OfBucket, Glance, deed_of, glance_deed, bucket_of_call, made}
use Rattle.exchange_model.specs.Goes.{Fate, On, Ends, Spends, Refuses, is_announced, lost, ends_with, reply_for, scan_fate_of, scan_begins, first_fate, entry_for, fate, own_after, GlanceFate, Looks, Shows, Disturbed, glance_fate}
use Rattle.exchange_model.specs.Worlds.{World, Answer, Event, OfSeat, OfReader, IsEvent, What, Begin, Copy, Step_on, Fits, IsFlying, seat_in, with_seat, ticked, found_by, store_after, seat_after, goes, glances, look_after, stand_at, update_begins, look_begins, call_begins, goes_on, act, happens, nobody, opening_world, Open, Peek_on, peeks_on}
use Rattle.word_rows.specs.ReplyWords.{reply_of_word}
use Rattle.exchange_laws.proofs.Words.{bucket_small, seat_holds}
use Rattle.exchange_laws.proofs.Owned.{Owned}
use Rattle.exchange_laws.proofs.OwnedMoves.{Moves}
use Rattle.exchange_laws.proofs.OwnedRuns.{seat_is}
use Rattle.exchange_laws.proofs.Holding as H
use Rattle.exchange_laws.proofs.HeldStates.{look_of, look_of_step}
use Rattle.exchange_laws.proofs.Held as Held
use Rattle.exchange_laws.proofs.Held.{Ties}
use Rattle.exchange_laws.proofs.HeldFates.{NoHeld, plain_on, replied, loses, scan_on, back_on, first_on, held_look}
use Rattle.exchange_laws.proofs.HeldRuns.{live_stays}
use Rattle.exchange_laws.proofs.WantWords.{want_words, want_step, want_glance}
use Rattle.exchange_laws.proofs.Announcing.{State}
use Rattle.exchange_laws.proofs.Announcements.{IsOther, own_posted}
use Rattle.exchange_laws.proofs.Entries.{entry_none}
use Rattle.exchange_laws.proofs.Tied.{row_now, Tied, WasApplied, SinceStep, TryAt}
use Rattle.exchange_laws.proofs.TakenCalls.{call_under}

-- who has an update under way stands there
abbrev under_some : Option Call → ℕ
under_some None = 0
under_some (Some call) = 1

abbrev some_call : Call → Option Call → Call
some_call d None = d
some_call d (Some call) = call

module _ (plan : Plan) where
  abbrev pub HasEntry : World → (q row : ℕ) → Type 0
  HasEntry x q row =
      (e : Entry) × (entry_for q (seat_in x q).posted (row_at plan (x.store.row row)).entries ≡ Some e)

  abbrev IsLooking : World → (q : ℕ) → Call → Step → Type 0
  IsLooking x q call step = ((seat_in x q).stand ≡ S.Goes call step) × H.IsActive (look_of_step plan step)

  -- who looks for its reply wants its bucket, and each row that it may read has its entry
  pub record Entered (x : World) (t : Held.Tied plan x) : Type 0 where
    pub want : (q : ℕ) (call : Call) (step : Step) → q < plan.settings.seats → IsLooking x q call step →
        x.store.want q ≡ bucket_of_call plan call
    pub rows : (q row : ℕ) (call : Call) (step : Step) → q < plan.settings.seats → IsLooking x q call step →
        t.since q row ≡ true → t.free row ≡ false → HasEntry x q row

  -- where a seat looks, its op was applied
  active_applied : (s : State) (q b : ℕ) (step : Step) → H.IsActive (look_of_step plan step) →
      SinceStep plan s q b step →
      WasApplied plan s q b
  active_applied s q b S.HeldWord a l = l
  active_applied s q b (S.TakeHold word) a l = l
  active_applied s q b (S.HeldHead row) a l = l
  active_applied s q b (S.HeldEntry row at left) a l = l
  active_applied s q b (S.HeldReply row at) a l = l
  active_applied s q b S.Scans a l = absurd a
  active_applied s q b (S.LoadWord turn) a l = absurd a
  active_applied s q b (S.LoadRow turn word words) a l = absurd a
  active_applied s q b (S.CheckWord turn word words) a l = absurd a
  active_applied s q b (S.LoadPending t) a l = absurd a
  active_applied s q b (S.LoadAnnounced t found) a l = absurd a
  active_applied s q b (S.LoadOp t found announced words) a l = absurd a
  active_applied s q b (S.StoreRow t found i) a l = absurd a
  active_applied s q b (S.Exchange t found) a l = absurd a
  active_applied s q b S.RaisePending a l = absurd a
  active_applied s q b (S.StoreOp i) a l = absurd a
  active_applied s q b S.Announce a l = absurd a
  active_applied s q b S.StoreWant a l = absurd a
  active_applied s q b S.StoreAsking a l = absurd a
  active_applied s q b (S.GiveBack reply) a l = absurd a
  active_applied s q b (S.Over ending) a l = absurd a
  active_applied s q b (S.LowerPending ending) a l = absurd a
  active_applied s q b S.Stuck a l = absurd a

  -- an op that was applied has its entry in the row in use
  pub applied_has : IsPlan plan → (y : World) (z : State) → Tied plan y z → (q : ℕ) (call : Call) →
      q < plan.settings.seats →
      WasApplied plan z q (bucket_of_call plan call) →
      HasEntry y q (row_in plan (y.store.bucket (bucket_of_call plan call)))
  applied_has is_plan y z tied q call less a =
      go (entry_for q (seat_in y q).posted (row_now plan y (bucket_of_call plan call)).entries) refl
    where
      go : (o : Option Entry) →
          entry_for q (seat_in y q).posted (row_now plan y (bucket_of_call plan call)).entries ≡ o →
          HasEntry y q (row_in plan (y.store.bucket (bucket_of_call plan call)))
      go (Some e) is = (e, is)
      go None is =
          let rows = tied.rows (bucket_of_call plan call) q (bucket_small plan is_plan (key_in call)) less in
          let posted = tied.posted q less in
          let there = a.2 in
          absurd (entry_none q (seat_in y q).posted (row_now plan y (bucket_of_call plan call)).entries is
          (omega (arith, rows, posted, there)))

  module _ (is_plan : IsPlan plan) (x y : World) (h : Owned plan x) (t : Held.Tied plan x) (next : Ties plan x t y)
      (moves : Moves plan h.at x y) (z : State) (tied : Tied plan y z) (en : Entered x t) where
    -- what an event leaves of a seat that looks then
    pub record Came (q : ℕ) (call : Call) : Type 0 where
      pub posted : (seat_in y q).posted ≡ (seat_in x q).posted
      pub want : y.store.want q ≡ bucket_of_call plan call
      pub was : H.IsActive (look_of plan (seat_in x q).stand) → (step : Step) × IsLooking x q call step

    came_rows : (q row : ℕ) (call : Call) (step : Step) → q < plan.settings.seats → IsLooking y q call step →
        Came q call →
        next.then.since q row ≡ true → next.then.free row ≡ false → HasEntry y q row
    came_rows q row call step less looks c since live =
        elim (next.fresh q row (subst (λ (k : Stand). H.IsActive (look_of plan k)) (sym looks.0) looks.1) since live) [
          | inl m ↦
              let w = c.was m.0 in
              let old = en.rows q row call w.0 less w.1 m.1 m.2 in
              let same : y.store.row row ≡ x.store.row row = (λ k i. live_stays plan h.at x y t row i m.2 moves k) in (
                old.0,
                ap (λ n. entry_for q n (row_at plan (y.store.row row)).entries) c.posted
                    ∙ ap (λ (r : ℕ → ℕ). entry_for q (seat_in x q).posted (row_at plan r).entries) same ∙ old.1,
              )
          | inr e ↦ subst (HasEntry y q) (ap (λ b. row_in plan (y.store.bucket b)) (sym c.want) ∙ e)
              (applied_has is_plan y z tied q call less (active_applied z q (bucket_of_call plan call) step looks.1
              (since_at looks.0)))
        ]
      where
        since_at : (seat_in y q).stand ≡ S.Goes call step → SinceStep plan z q (bucket_of_call plan call) step
        since_at stood =
            let a : TryAt plan y.store.bucket y.store.op z q (S.Goes call step) =
            subst (TryAt plan y.store.bucket y.store.op z q) stood (tied.each q less) in
            a.2

    pub all_came : ((q : ℕ) (call : Call) (step : Step) → q < plan.settings.seats → IsLooking y q call step →
        Came q call) →
        Entered y next.then
    all_came came = record {
      want = λ q call step less looks. (came q call step less looks).want;
      rows = λ q row call step less looks since live.
          came_rows q row call step less looks (came q call step less looks) since live;
    }

    -- a seat that nothing happens to
    pub came_other : (q : ℕ) (call : Call) (step : Step) → q < plan.settings.seats → seat_in y q ≡ seat_in x q →
        y.store.want q ≡ x.store.want q → IsLooking y q call step → Came q call
    came_other q call step less same want looks =
        let was : IsLooking x q call step = (sym (ap (λ (n : SeatNow). n.stand) same) ∙ looks.0, looks.1) in
        record {
          posted = ap (λ (n : SeatNow). n.posted) same;
          want = want ∙ en.want q call step less was;
          was = λ _. (step, was);
        }

  -- ---- events

  module _ (is_plan : IsPlan plan) (x : World) (h : Owned plan x) (t : Held.Tied plan x) (en : Entered x t) (p : ℕ)
      (inside : p < holders_of plan.settings) where
    abbrev now : SeatNow
    now = seat_in x p

    at_p : (store : W.Store) (then : SeatNow) (answers : List Answer) (updates : List MadeBySeat) →
        seat_in (ticked (with_seat x p store then answers updates)) p ≡ then
    at_p store then answers updates =
        get_or-set_same x.seats p then nobody (let long = h.long in omega (arith, inside, long))

    -- by what becomes of the own seat
    by_own : (store : W.Store) (then : SeatNow) (answers : List Answer) (updates : List MadeBySeat) →
        (let y = ticked (with_seat x p store then answers updates) in
        (next : Ties plan x t y) → Moves plan h.at x y → (z : State) → Tied plan y z →
        ((q : ℕ) → q ≢ p → store.want q ≡ x.store.want q) →
        ((call : Call) (step : Step) → p < plan.settings.seats → then.stand ≡ S.Goes call step →
        H.IsActive (look_of_step plan step) →
        (then.posted ≡ now.posted) × (store.want p ≡ bucket_of_call plan call)
        × (H.IsActive (look_of plan now.stand) → (step : Step) × IsLooking x p call step)) → Entered y next.then)
    by_own store then answers updates next moves z tied wants own =
        all_came is_plan x y h t next moves z tied en came
      where
        y : World
        y = ticked (with_seat x p store then answers updates)

        came : (q : ℕ) (call : Call) (step : Step) → q < plan.settings.seats → IsLooking y q call step →
            Came is_plan x y h t next moves z tied en q call
        came q call step less looks = elim (cases_eq q p) [
          | inr n ↦ came_other is_plan x y h t next moves z tied en q call step less
              (get_or-set_other x.seats p q then nobody n) (wants q n) looks
          | inl e ↦ subst (λ k. Came is_plan x y h t next moves z tied en k call) (sym e)
              (let o = own call step (subst (λ k. k < plan.settings.seats) e less)
              (sym (ap (λ (n : SeatNow). n.stand) (at_p store then answers updates))
              ∙ subst (λ k. (seat_in y k).stand ≡ S.Goes call step) e looks.0) looks.1 in
              record {
                posted = ap (λ (n : SeatNow). n.posted) (at_p store then answers updates) ∙ o.0;
                want = o.1;
                was = o.2;
              })
        ]

    -- where the own seat does not look then
    not_looking : (store : W.Store) (then : SeatNow) (answers : List Answer) (updates : List MadeBySeat) →
        (let y = ticked (with_seat x p store then answers updates) in
        (next : Ties plan x t y) → Moves plan h.at x y → (z : State) → Tied plan y z →
        ((q : ℕ) → q ≢ p → store.want q ≡ x.store.want q) →
        ((call : Call) (step : Step) → then.stand ≡ S.Goes call step → H.IsActive (look_of_step plan step) → ⊥) →
        Entered y next.then)
    not_looking store then answers updates next moves z tied wants never =
        by_own store then answers updates next moves z tied wants (λ call step less e a. absurd (never call step e a))

    -- a stand that has no update under way
    none_under : (stand : Stand) → call_under stand ≡ None → (call : Call) (step : Step) → stand ≡ S.Goes call step → ⊥
    none_under stand none call step e = (let k = ap under_some (sym none ∙ ap call_under e) in omega (arith, k))

    -- or no look
    no_look : (stand : Stand) → look_of plan stand ≡ H.NoLook → (call : Call) (step : Step) → stand ≡ S.Goes call step →
        H.IsActive (look_of_step plan step) → ⊥
    no_look stand none call step e a = subst H.IsActive (sym (ap (look_of plan) e) ∙ none) a

    module _ (call : Call) (of_seat : p < plan.settings.seats) where
      abbrev Y : Step → World
      Y step = ticked (goes plan x p now call step)

      abbrev Led : Step → Type 0
      Led step =
          (next : Ties plan x t (Y step)) → Moves plan h.at x (Y step) → (z : State) → Tied plan (Y step) z →
          Entered (Y step) next.then

      -- a step after which nothing is held
      plain : (step : Step) →
          NoHeld plan (fate plan p now call step (found_by (deed_of plan p now call step) x.store)) → Led step
      plain step none next moves z tied =
          let deed = deed_of plan p now call step in
          let w = found_by deed x.store in
          let own = own_after plan p now call step w in
          let f = fate plan p now call step w in
          not_looking (store_after deed x.store) (seat_after own call f) _ _ next moves z tied
          (λ q n. want_words p q n deed x.store (want_step plan p now call step))
          (no_look (seat_after own call f).stand (held_look plan own call f none))

      call_is : (own : SeatNow) (f : Fate) (other : Call) (step : Step) →
          (seat_after own call f).stand ≡ S.Goes other step →
          call ≡ other
      call_is own (On s) other step e = ap (λ (k : Stand). some_call call (call_under k)) e
      call_is own (Ends reply) other step e = absurd (none_under S.Idle refl other step e)
      call_is own Spends other step e = absurd (none_under S.Idle refl other step e)
      call_is own Refuses other step e = absurd (none_under S.Idle refl other step e)

      posted_after : (own : SeatNow) (f : Fate) → (seat_after own call f).posted ≡ own.posted
      posted_after own (On step) = refl
      posted_after own (Ends reply) = refl
      posted_after own Spends = refl
      posted_after own Refuses = refl

      -- a step of the look
      looks_on : (step : Step) → now.stand ≡ S.Goes call step → IsOther step →
          (store_after (deed_of plan p now call step) x.store).want p ≡ x.store.want p →
          x.store.want p ≡ bucket_of_call plan call →
          (H.IsActive (look_of plan now.stand) → H.IsActive (look_of_step plan step)) → Led step
      looks_on step stood other still want was next moves z tied =
          let deed = deed_of plan p now call step in
          let w = found_by deed x.store in
          let own = own_after plan p now call step w in
          let f = fate plan p now call step w in
          by_own (store_after deed x.store) (seat_after own call f) _ _ next moves z tied
          (λ q n. want_words p q n deed x.store (want_step plan p now call step)) (λ c step_then less e a. (
            posted_after own f ∙ own_posted plan p now call step w other,
            still ∙ want ∙ ap (bucket_of_call plan) (call_is own f c step_then e),
            λ active. (step, (stood ∙ ap (λ (k : Call). S.Goes k step) (call_is own f c step_then e), was active)),
          ))

      wanted : (step : Step) → now.stand ≡ S.Goes call step → H.IsActive (look_of_step plan step) →
          x.store.want p ≡ bucket_of_call plan call
      wanted step stood a = en.want p call step of_seat (stood, a)

      hold_want : (old new : ℕ) → (store_after (S.Swap (W.Hold p) old new) x.store).want p ≡ x.store.want p
      hold_want old new = cond_both (x.store.hold p == old) (with_word x.store (W.Hold p) new) x.store
          (λ (s : W.Store). s.want p ≡ x.store.want p) (λ _. refl) (λ _. refl)

      update_step : (step : Step) → now.stand ≡ S.Goes call step → Led step
      update_step S.StoreAsking e =
          looks_on S.StoreAsking e tt refl (subst (Held.Wants plan (x.store.want p)) e (t.wants p inside))
          (λ a. subst (λ (k : Stand). H.IsActive (look_of plan k)) e a)
      update_step S.HeldWord e = looks_on S.HeldWord e tt refl (wanted S.HeldWord e tt) (λ _. tt)
      update_step (S.TakeHold old) e =
          looks_on (S.TakeHold old) e tt (hold_want (asking now.time) (holding (row_in plan old)))
          (wanted (S.TakeHold old) e tt)
          (λ _. tt)
      update_step (S.HeldHead row) e = looks_on (S.HeldHead row) e tt refl (wanted (S.HeldHead row) e tt) (λ _. tt)
      update_step (S.HeldEntry row at left) e =
          looks_on (S.HeldEntry row at left) e tt refl (wanted (S.HeldEntry row at left) e tt) (λ _. tt)
      update_step (S.HeldReply row at) e =
          plain (S.HeldReply row at) (back_on plan (reply_of_word (x.store.row row at)))
      update_step S.StoreWant e = λ next moves z tied.
          not_looking _ _ _ _ next moves z tied (λ q n. want_words p q n (deed_of plan p now call S.StoreWant) x.store
          (want_step plan p now call S.StoreWant)) (λ c step stood a. subst H.IsActive
          (sym (ap (look_of plan) stood)) a)
      update_step (S.GiveBack reply) e = plain (S.GiveBack reply) (refl, λ w b. tt)
      update_step S.Scans e =
          plain S.Scans
          (scan_on plan now.free
          (scan_fate_of plan p now.scan (found_by (deed_of plan p now call S.Scans) x.store)))
      update_step (S.Exchange a found) e =
          plain (S.Exchange a found) (go (x.store.bucket (bucket_of_call plan call) == a.word))
        where
          go : (c : Bool) →
              NoHeld plan (cond c (ends_with (is_announced a.turn) (reply_for p (made plan a found).made))
              (lost a.turn))
          go true = replied plan (is_announced a.turn) (reply_for p (made plan a found).made)
          go false = loses plan a.turn
      update_step (S.LoadWord turn) e =
          plain (S.LoadWord turn) (plain_on plan p now call (S.LoadWord turn)
          (found_by (deed_of plan p now call (S.LoadWord turn)) x.store) tt)
      update_step (S.LoadRow turn old words) e =
          plain (S.LoadRow turn old words) (plain_on plan p now call (S.LoadRow turn old words)
          (found_by (deed_of plan p now call (S.LoadRow turn old words)) x.store) tt)
      update_step (S.CheckWord turn old words) e =
          plain (S.CheckWord turn old words) (plain_on plan p now call (S.CheckWord turn old words)
          (found_by (deed_of plan p now call (S.CheckWord turn old words)) x.store) tt)
      update_step (S.LoadPending a) e =
          plain (S.LoadPending a) (plain_on plan p now call (S.LoadPending a)
          (found_by (deed_of plan p now call (S.LoadPending a)) x.store) tt)
      update_step (S.LoadAnnounced a found) e =
          plain (S.LoadAnnounced a found) (plain_on plan p now call (S.LoadAnnounced a found)
          (found_by (deed_of plan p now call (S.LoadAnnounced a found)) x.store) tt)
      update_step (S.LoadOp a found announced words) e =
          plain (S.LoadOp a found announced words) (plain_on plan p now call (S.LoadOp a found announced words)
          (found_by (deed_of plan p now call (S.LoadOp a found announced words)) x.store) tt)
      update_step (S.StoreRow a found i) e =
          plain (S.StoreRow a found i) (plain_on plan p now call (S.StoreRow a found i)
          (found_by (deed_of plan p now call (S.StoreRow a found i)) x.store) tt)
      update_step S.RaisePending e =
          plain S.RaisePending (plain_on plan p now call S.RaisePending
          (found_by (deed_of plan p now call S.RaisePending) x.store) tt)
      update_step (S.StoreOp i) e =
          plain (S.StoreOp i) (plain_on plan p now call (S.StoreOp i)
          (found_by (deed_of plan p now call (S.StoreOp i)) x.store) tt)
      update_step S.Announce e =
          plain S.Announce (plain_on plan p now call S.Announce
          (found_by (deed_of plan p now call S.Announce) x.store) tt)
      update_step (S.Over ending) e =
          plain (S.Over ending) (plain_on plan p now call (S.Over ending)
          (found_by (deed_of plan p now call (S.Over ending)) x.store) tt)
      update_step (S.LowerPending ending) e =
          plain (S.LowerPending ending) (plain_on plan p now call (S.LowerPending ending)
          (found_by (deed_of plan p now call (S.LowerPending ending)) x.store) tt)
      update_step S.Stuck e =
          plain S.Stuck (plain_on plan p now call S.Stuck (found_by (deed_of plan p now call S.Stuck) x.store) tt)

    look_step : (aim : Aim) (glance : Glance) → (let y = ticked (glances plan x p now aim glance) in
        (next : Ties plan x t y) → Moves plan h.at x y → (z : State) → Tied plan y z → Entered y next.then)
    look_step aim glance next moves z tied =
        let deed = glance_deed plan p now.time aim glance in
        let f = glance_fate plan now.time aim glance (found_by deed x.store) in
        not_looking (store_after deed x.store) (look_after now aim glance f) _ x.made next moves z tied
        (λ q n. want_words p q n deed x.store (want_glance plan p now.time aim glance))
        (λ call step e a. none_under (look_after now aim glance f).stand (none f) call step e)
      where
        none : (f : GlanceFate) → call_under (look_after now aim glance f).stand ≡ None
        none (Looks g) = refl
        none (Shows items) = refl
        none Disturbed = refl

    look_first : (aim : Aim) → (let y = ticked (look_begins x p now aim) in
        (next : Ties plan x t y) → Moves plan h.at x y → (z : State) → Tied plan y z → Entered y next.then)
    look_first aim next moves z tied =
        not_looking x.store _ x.answers x.made next moves z tied (λ q n. refl)
        (λ call step e a. none_under (S.Glances aim _) refl call step e)

    update_first : (call : Call) → (let y = ticked (update_begins plan x p now call) in
        (next : Ties plan x t y) → Moves plan h.at x y → (z : State) → Tied plan y z → Entered y next.then)
    update_first call next moves z tied =
        let begun = scan_begins plan p now.free now in
        let f = first_fate begun.free begun.scan in
        not_looking x.store _ _ x.made next moves z tied (λ q n. refl)
        (no_look (stand_at call f) (stands f (first_on plan begun.free begun.scan)))
      where
        stands : (f : Fate) → NoHeld plan f → look_of plan (stand_at call f) ≡ H.NoLook
        stands (On step) n = n.0
        stands (Ends reply) n = refl
        stands Spends n = refl
        stands Refuses n = refl

    call_first : (call : Call) → (let y = ticked (call_begins plan x p now call) in
        (next : Ties plan x t y) → Moves plan h.at x y → (z : State) → Tied plan y z → Entered y next.then)
    call_first (Lookup key) next moves z tied = look_first (OfKey key) next moves z tied
    call_first (Insert key value) next moves z tied = update_first (Insert key value) next moves z tied
    call_first (Remove key) next moves z tied = update_first (Remove key) next moves z tied
    call_first (Tally key amount) next moves z tied = update_first (Tally key amount) next moves z tied
    call_first (Count key value amount) next moves z tied = update_first (Count key value amount) next moves z tied
    call_first (Put key value) next moves z tied = update_first (Put key value) next moves z tied

    seat_goes : (stand : Stand) → now.stand ≡ stand → IsFlying plan p stand →
        (let y = ticked (goes_on plan x p now stand) in
        (next : Ties plan x t y) → Moves plan h.at x y → (z : State) → Tied plan y z → Entered y next.then)
    seat_goes S.Idle e flies next moves z tied = absurd flies
    seat_goes (S.Goes call step) e flies next moves z tied = update_step call flies step e next moves z tied
    seat_goes (S.Glances aim glance) e flies next moves z tied = look_step aim glance next moves z tied

    seat_entered : (what : What) → Fits plan p now what → (let y = ticked (act plan x p now what) in
        (next : Ties plan x t y) → Moves plan h.at x y → (z : State) → Tied plan y z → Entered y next.then)
    seat_entered (Begin call) fits next moves z tied = call_first call next moves z tied
    seat_entered (Copy bucket) fits next moves z tied = look_first (OfBucket bucket) next moves z tied
    seat_entered Step_on fits next moves z tied = seat_goes now.stand refl fits next moves z tied

  reader_entered : IsPlan plan → (x y : World) (h : Owned plan x) (t : Held.Tied plan x) (next : Ties plan x t y) →
      Moves plan h.at x y → (z : State) → Tied plan y z → Entered x t → y.store ≡ x.store → y.seats ≡ x.seats →
      Entered y next.then
  reader_entered is_plan x y h t next moves z tied en store seats =
      all_came is_plan x y h t next moves z tied en (λ q call step less looks.
      came_other is_plan x y h t next moves z tied en q call step less
      (ap (λ (ss : List SeatNow). slice_index_or ss q nobody) seats) (ap (λ (m : W.Store). m.want q) store) looks)

  pub entered_keep : (is_plan : IsPlan plan) (x : World) (h : Owned plan x) (t : Held.Tied plan x) → Entered x t →
      (event : Event) →
      IsEvent plan x event → (next : Ties plan x t (happens plan x event)) → Moves plan h.at x (happens plan x event) →
      (z : State) → Tied plan (happens plan x event) z → Entered (happens plan x event) next.then
  entered_keep is_plan x h t en (OfSeat p what) fits =
      subst (λ (c : Bool). (next : Ties plan x t (cond c y x)) → Moves plan h.at x (cond c y x) → (z : State) →
      Tied plan (cond c y x) z → Entered (cond c y x) next.then) (sym (lt-ltb p (holders_of plan.settings) fits.0))
      (seat_entered is_plan x h t en p fits.0 what fits.1)
    where
      y : World
      y = ticked (act plan x p (seat_in x p) what)
  entered_keep is_plan x h t en (OfReader r (Open aim tries)) fits =
      λ next moves z tied. reader_entered is_plan x _ h t next moves z tied en refl refl
  entered_keep is_plan x h t en (OfReader r Peek_on) fits = go (x.readers r).stand
    where
      go : (stand : S.Peeking) → (let y = ticked (peeks_on plan x r (x.readers r) stand) in
          (next : Ties plan x t y) → Moves plan h.at x y → (z : State) → Tied plan y z → Entered y next.then)
      go S.Rests = λ next moves z tied. reader_entered is_plan x _ h t next moves z tied en refl refl
      go (S.Peeks aim glance) = λ next moves z tied. reader_entered is_plan x _ h t next moves z tied en refl refl

  pub entered_first : IsPlan plan → (t : Held.Tied plan (opening_world plan)) → Entered (opening_world plan) t
  entered_first is t = record {
    want = λ q call step less looks. absurd (never q less call step looks.0);
    rows = λ q row call step less looks. absurd (never q less call step looks.0);
  }
    where
      never : (q : ℕ) → q < plan.settings.seats → (call : Call) (step : Step) →
          (seat_in (opening_world plan) q).stand ≡ S.Goes call step → ⊥
      never q less call step e =
          let k = ap (λ (k : Stand). under_some (call_under k))
          (sym (ap (λ (n : SeatNow). n.stand) (seat_is plan is q (seat_holds plan q less))) ∙ e) in omega (arith, k)
