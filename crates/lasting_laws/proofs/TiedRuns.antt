-- In every run of a lasting table its events are those of the held look: so a row that is read under a hold is not
-- free.
use Rattle.std.proofs.Common.{◌≡◌, ℕ, ◌+◌, ◌-◌, ◌<◌, inl, inr, Bool, true, false, cond, not, List, [], ◌∷◌, length, Option, Some, None, refl, sym, ap, ◌∙◌, subst, arith}
use Rattle.std.specs.Prelude.{◌==◌, ◌&&◌, nat_lt}
use Rattle.std.proofs.lemmas.Bool.{eqb-true, eqb-false}
use Rattle.list_laws.proofs.Lists.{In}
use Rattle.step_counts.specs.declared.TheConstants.{ITEM_WORDS}
use Rattle.plain_map.specs.declared.calls.Call.{Call}
use Rattle.plain_map.specs.declared.calls.Call.TheVariants.{Insert, Remove, Lookup, Tally, Count, Put}
use Rattle.plain_map.specs.declared.calls.Reply.{Reply}
use Rattle.plain_map.specs.declared.keys.Pair.{Pair}
use Rattle.plain_map.specs.Calls.{key_in}
use Rattle.word_rows.specs.ReplyWords.{reply_of_word}
use Rattle.word_rows.proofs.MemoryLemmas.{put_same}
use Rattle.table_model.specs.Goes.{more}
use Rattle.lasting_model.specs.Plans.{Plan, IsPlan, ample, buckets_of}
use Rattle.lasting_model.specs.Codes.{row_in, generation_in, pair_in, count_in, number_place, reply_place, asking, holding, held_row}
use Rattle.lasting_model.specs.Words as W
use Rattle.lasting_model.specs.Words.{with_word}
use Rattle.lasting_model.specs.Steps as S
use Rattle.lasting_model.specs.Steps.{Step, Stand, Sweep, SeatNow, ReaderNow, Update, Try, Course, Aim, OfKey, OfBucket, Glance, Source, Tried, HeldIn, Scan, deed_of, glance_deed, sweep_deed, bucket_of_update, bucket_of_aim, is_due, next_row, next_generation, made, new_words}
use Rattle.lasting_model.specs.Goes.{SweepsOn, sweep_begins, Fate, On, Ends, Refuses, first_fate, ends_with, fate, GlanceFate, Looks, Shows, Disturbed, glance_fate, glance_lost, gone_through, scan_on, scan_of, passed, with_pair, may_be, is_aimed, scan_pair, scan_fate, time_after}
use Rattle.lasting_model.specs.Worlds.{Lasting, Answer, IsAim, seat_in, with_seat, ticked, found_by, store_after, seat_after, answers_after, stepped, goes, glances, look_after, look_answers, look_begins, update_begins, call_begins, goes_on, act, stand_at, next_update, course_from, LOOK_TRIES, What, Begin, Copy, Step_on, IsFlying, Fits}
use Rattle.lasting_laws.proofs.Pools.{owner_in, Pools, word_in}
use Rattle.lasting_laws.proofs.PoolEvents.{bucket_small}
use Rattle.lasting_laws.proofs.Holding as H
use Rattle.lasting_laws.proofs.HoldingSweeps as HS
use Rattle.lasting_laws.proofs.HeldStates.{look_of, look_of_step, look_of_glance, look_of_source, sweep_of, held_state}
use Rattle.lasting_laws.proofs.Tied.{Tied, Ties, HoldsOf, Wants, WantGlance, quietly, look_moves, want_stored, asked, takes, loaded, given, has_read}
use Rattle.lasting_laws.proofs.TiedRows.{sweeps_to}
use Rattle.lasting_model.specs.Words.{first_row}
use Rattle.lasting_laws.proofs.TiedEvents.{NoHeld, first_on, IsPlain, plain_on, after_free, after_time, after_sweep, after_listed, quiet_fate, exchange_step, sweep_step}

module _ (plan : Plan) (is_plan : IsPlan plan) (x : Lasting) (pools : Pools plan x) (tied : Tied plan x) (p : ℕ)
    (inside : p < plan.settings.seats) where
  abbrev now : SeatNow
  now = seat_in x p

  abbrev s : H.State
  s = held_state plan x tied.home tied.since

  abbrev bs : ℕ
  bs = buckets_of plan.settings

  abbrev n : ℕ
  n = plan.settings.seats

  abbrev o : ℕ → ℕ
  o = owner_in plan

  abbrev Look : H.Look → Type 0
  Look look = HoldsOf plan (H.moved bs n o s p look)

  wants_at : (stand : Stand) → now.stand ≡ stand → Wants plan (x.store.want p) stand
  wants_at stand e = subst (λ (k : Stand). Wants plan (x.store.want p) k) e (tied.wants p inside)

  -- ---- the held look of an update

  -- the look goes on by a load
  on_load : (u : Update) (next : Fate) (answers : List Answer) (look : H.Look) → look_of (seat_after now u next).stand
      ≡ look →
      Look look → Wants plan (x.store.want p) (seat_after now u next).stand →
      (H.IsActive look → H.IsActive (look_of now.stand)) →
      Ties plan x tied (ticked (with_seat x p x.store (seat_after now u next) answers))
  on_load u next answers look is holds wants acts =
      look_moves plan x pools tied p inside x.store (seat_after now u next) answers
      (record { bucket = λ b. refl; free = after_free now u next; listed = after_listed plan now u next }) (λ q. refl)
      (λ q. refl) (after_time now u next) (ap sweep_of (after_sweep now u next)) look is holds wants acts

  want_step : (u : Update) → now.stand ≡ S.Goes u S.StoreWant → Ties plan x tied (ticked
      (goes plan x p now u S.StoreWant))
  want_step u stood =
      let b = bucket_of_update (ample plan) u in
      want_stored plan x pools tied p inside (with_word x.store (W.Want p) b)
      (seat_after now u (On S.StoreAsking)) x.answers
      b (bucket_small plan (key_in u.call)) (record { bucket = λ a. refl; free = refl; listed = λ r i. i }) (λ q. refl)
      (λ q. refl) refl refl (ap look_of stood) refl (put_same x.store.want p b)

  ask_step : (u : Update) → now.stand ≡ S.Goes u S.StoreAsking → Ties plan x tied (ticked
      (goes plan x p now u S.StoreAsking))
  ask_step u stood =
      asked plan x pools tied p inside (with_word x.store (W.Hold p) (asking (now.time + 1)))
      (seat_after (record now { time = now.time + 1 }) u (On S.HeldWord)) x.answers
      (record { bucket = λ a. refl; free = refl; listed = λ r i. i }) (λ q. refl) (λ q. refl) refl refl
      (ap look_of stood)
      refl (wants_at (S.Goes u S.StoreAsking) stood)

  word_step : (u : Update) → now.stand ≡ S.Goes u S.HeldWord → Ties plan x tied (ticked
      (goes plan x p now u S.HeldWord))
  word_step u stood =
      let b = bucket_of_update (ample plan) u in
      on_load u (On (S.TakeHold (x.store.bucket b))) x.answers (H.Loaded (word_in x b)) refl
      (loaded plan x pools tied p inside b (ap look_of stood) (wants_at (S.Goes u S.HeldWord) stood)) tt
      (λ _. subst H.IsActive (sym (ap look_of stood)) tt)

  take_step : (u : Update) (old : ℕ) → now.stand ≡ S.Goes u (S.TakeHold old) →
      Ties plan x tied (ticked (goes plan x p now u (S.TakeHold old)))
  take_step u old stood = go (x.store.hold p == asking now.time) refl
    where
      go : (c : Bool) → (x.store.hold p == asking now.time) ≡ c → Ties plan x tied (ticked (with_seat x p
          (cond c (with_word x.store (W.Hold p) (holding (row_in old))) x.store)
          (seat_after now u (On (S.HeldNumber (cond c (row_in old) (held_row (x.store.hold p)))))) x.answers))
      go true it =
          takes plan x pools tied p inside (with_word x.store (W.Hold p) (holding (row_in old)))
          (seat_after now u (On (S.HeldNumber (row_in old)))) x.answers (row_in old)
          (record { bucket = λ a. refl; free = refl; listed = λ r i. i }) (λ q. refl) (λ q. refl) refl refl
          (ap look_of stood) (eqb-true (x.store.hold p) (asking now.time) it) refl tt
      go false not_it =
          on_load u (On (S.HeldNumber (held_row (x.store.hold p)))) x.answers (H.Reads (held_row (x.store.hold p))) refl
          (given plan x pools tied p inside (row_in old) (ap look_of stood) (x.store.hold p) refl
          (eqb-false (x.store.hold p) (asking now.time) not_it)) tt
          (λ _. subst H.IsActive (sym (ap look_of stood)) tt)

  number_step : (u : Update) (row : ℕ) → now.stand ≡ S.Goes u (S.HeldNumber row) →
      Ties plan x tied (ticked (goes plan x p now u (S.HeldNumber row)))
  number_step u row stood = go (x.store.row row (number_place p) == u.number)
    where
      go : (c : Bool) → Ties plan x tied (ticked (with_seat x p x.store
          (seat_after now u (On (cond c (S.HeldReply row) S.Stuck))) x.answers))
      go true =
          quietly plan x pools tied p inside x.store (seat_after now u (On (S.HeldReply row))) x.answers
          (record { bucket = λ a. refl; free = refl; listed = λ r i. i }) (λ q. refl) (λ q. refl) refl
          (sym (ap look_of stood)) refl tt
      go false =
          on_load u (On S.Stuck) x.answers H.NoLook refl (has_read plan x pools tied p inside row (ap look_of stood)) tt
          (λ a. absurd a)

  reply_step : (u : Update) (row : ℕ) → now.stand ≡ S.Goes u (S.HeldReply row) →
      Ties plan x tied (ticked (goes plan x p now u (S.HeldReply row)))
  reply_step u row stood = go (reply_of_word (x.store.row row (reply_place p)))
    where
      go : (r : Option Reply) → Ties plan x tied (ticked (with_seat x p x.store (seat_after now u (ends_with r))
          (answers_after x p u.call (stepped now.course) (ends_with r))))
      go None =
          on_load u (On S.Stuck) x.answers H.NoLook refl (has_read plan x pools tied p inside row (ap look_of stood)) tt
          (λ a. absurd a)
      go (Some r) =
          on_load u (Ends r) (answers_after x p u.call (stepped now.course) (Ends r)) H.NoLook refl
          (has_read plan x pools tied p inside row (ap look_of stood)) tt (λ a. absurd a)

  -- a step that loads, or stores what nobody else looks at
  plain_step : (u : Update) (step : Step) → now.stand ≡ S.Goes u step → IsPlain step → look_of_step step ≡ H.NoLook →
      (store : W.Store) → ((b : ℕ) → row_in (store.bucket b) ≡ word_in x b) →
      ((q : ℕ) → store.hold q ≡ x.store.hold q) → ((q : ℕ) → store.want q ≡ x.store.want q) → (word : ℕ) →
      (let next = fate (ample plan) p now u step word in
      Ties plan x tied (ticked (with_seat x p store (seat_after now u next)
      (answers_after x p u.call (stepped now.course) next))))
  plain_step u step stood plain none store bucket hold want word =
      quiet_fate plan is_plan x pools tied p inside store bucket hold want u (fate (ample plan) p now u step word)
      (answers_after x p u.call (stepped now.course) (fate (ample plan) p now u step word))
      (plain_on (ample plan) p now u step word plain) (ap look_of stood ∙ none)

  update_step : (u : Update) (step : Step) → now.stand ≡ S.Goes u step →
      Ties plan x tied (ticked (goes plan x p now u step))
  update_step u (S.Sweeps rows) e = sweep_step plan is_plan x pools tied p inside u rows e
  update_step u (S.StoreOp i) e =
      plain_step u (S.StoreOp i) e tt refl (store_after (deed_of (ample plan) p now u (S.StoreOp i)) x.store)
      (λ b. refl)
      (λ q. refl) (λ q. refl) 0
  update_step u S.Announce e =
      plain_step u S.Announce e tt refl (store_after (deed_of (ample plan) p now u S.Announce) x.store) (λ b. refl)
      (λ q. refl) (λ q. refl) 0
  update_step u (S.LoadWord turn) e =
      plain_step u (S.LoadWord turn) e tt refl x.store (λ b. refl) (λ q. refl) (λ q. refl)
      (found_by (deed_of (ample plan) p now u (S.LoadWord turn)) x.store)
  update_step u (S.LoadRow turn word words) e =
      plain_step u (S.LoadRow turn word words) e tt refl x.store (λ b. refl) (λ q. refl) (λ q. refl)
      (found_by (deed_of (ample plan) p now u (S.LoadRow turn word words)) x.store)
  update_step u (S.CheckRow turn word words) e =
      plain_step u (S.CheckRow turn word words) e tt refl x.store (λ b. refl) (λ q. refl) (λ q. refl)
      (found_by (deed_of (ample plan) p now u (S.CheckRow turn word words)) x.store)
  update_step u (S.LoadAnnounced t found) e =
      plain_step u (S.LoadAnnounced t found) e tt refl x.store (λ b. refl) (λ q. refl) (λ q. refl)
      (found_by (deed_of (ample plan) p now u (S.LoadAnnounced t found)) x.store)
  update_step u (S.LoadOp t found announced words) e =
      plain_step u (S.LoadOp t found announced words) e tt refl x.store (λ b. refl) (λ q. refl) (λ q. refl)
      (found_by (deed_of (ample plan) p now u (S.LoadOp t found announced words)) x.store)
  update_step u (S.StoreRow t found i) e =
      plain_step u (S.StoreRow t found i) e tt refl
      (store_after (deed_of (ample plan) p now u (S.StoreRow t found i)) x.store) (λ b. refl) (λ q. refl) (λ q. refl) 0
  update_step u (S.Exchange t found) e = exchange_step plan is_plan x pools tied p inside u t found e
  update_step u S.StoreWant e = want_step u e
  update_step u S.StoreAsking e = ask_step u e
  update_step u S.HeldWord e = word_step u e
  update_step u (S.TakeHold old) e = take_step u old e
  update_step u (S.HeldNumber row) e = number_step u row e
  update_step u (S.HeldReply row) e = reply_step u row e
  update_step u S.Stuck e = plain_step u S.Stuck e tt refl x.store (λ b. refl) (λ q. refl) (λ q. refl) 0

  -- ---- looks

  -- what comes of a word of a row: it goes on in it, or is through
  abbrev Going : Source → Aim → GlanceFate → Type 0
  Going source aim (Looks glance) =
      (look_of_glance glance ≡ look_of_source source) × ((want bucket : ℕ) → WantGlance want bucket glance)
  Going source aim (Shows items) = Unit {0}
  Going source aim Disturbed = ⊥

  either_going : (source : Source) (aim : Aim) (a b : GlanceFate) (c : Bool) → Going source aim a → Going source aim b →
      Going source aim (cond c a b)
  either_going source aim a b true na nb = na
  either_going source aim a b false na nb = nb

  through_going : (source : Source) (aim : Aim) (kept : List Pair) → Going source aim (gone_through source kept)
  through_going (Tried left word) aim kept = (refl, λ w b. tt)
  through_going (HeldIn row) aim kept = tt

  scan_going : (source : Source) (aim : Aim) (scan : Scan) → Going source aim (scan_on source scan)
  scan_going source aim scan =
      either_going source aim (Looks (S.GlanceItem source scan)) (gone_through source scan.kept)
      (nat_lt scan.item scan.count) (refl, λ w b. tt) (through_going source aim scan.kept)

  word_going : (source : Source) (aim : Aim) (scan : Scan) (found : ℕ) → Going source aim
      (scan_fate source aim scan found)
  word_going source aim scan found =
      let pair = pair_in (more scan.part found) in
      let longer = Looks (S.GlanceItem source (record scan { part = more scan.part found })) in
      either_going source aim (scan_on source (passed scan))
      (cond (nat_lt (length scan.part + 1) ITEM_WORDS) longer (scan_pair source aim scan pair))
      ((length scan.part == 0) && not (may_be aim found)) (scan_going source aim (passed scan))
      (either_going source aim longer (scan_pair source aim scan pair) (nat_lt (length scan.part + 1) ITEM_WORDS)
      (refl, λ w b. tt)
      (either_going source aim (gone_through source (more scan.kept pair)) (scan_on source (with_pair scan pair))
      (is_aimed aim pair) (through_going source aim (more scan.kept pair))
      (scan_going source aim (with_pair scan pair))))

  module _ (aim : Aim) (was : Glance) (stood : now.stand ≡ S.Glances aim was) where
    aims : IsAim plan aim
    aims = (wants_at (S.Glances aim was) stood).0

    -- a look that holds nothing, before and after
    abbrev Quiet : GlanceFate → Type 0
    Quiet (Looks glance) = (look_of_glance glance ≡ H.NoLook) × ((want bucket : ℕ) → WantGlance want bucket glance)
    Quiet (Shows items) = Unit {0}
    Quiet Disturbed = Unit {0}

    quiet_look : time_after now.time was ≡ now.time → (f : GlanceFate) → Quiet f → look_of now.stand ≡ H.NoLook →
        Ties plan x tied (ticked (with_seat x p x.store (look_after now aim was f)
        (look_answers (ample plan) x p aim (stepped now.course) f)))
    quiet_look t (Looks glance) q none =
        quietly plan x pools tied p inside x.store (look_after now aim was (Looks glance)) x.answers
        (record { bucket = λ b. refl; free = refl; listed = λ r i. i }) (λ k. refl) (λ k. refl) t (q.0 ∙ sym none) refl
        (aims, q.1 (x.store.want p) (bucket_of_aim (ample plan) aim))
    quiet_look t (Shows items) q none =
        quietly plan x pools tied p inside x.store (look_after now aim was (Shows items))
        (look_answers (ample plan) x p aim (stepped now.course) (Shows items))
        (record { bucket = λ b. refl; free = refl; listed = λ r i. i }) (λ k. refl) (λ k. refl) refl (sym none) refl tt
    quiet_look t Disturbed q none =
        quietly plan x pools tied p inside x.store (look_after now aim was Disturbed) x.answers
        (record { bucket = λ b. refl; free = refl; listed = λ r i. i }) (λ k. refl) (λ k. refl) refl (sym none) refl
        (aims, tt)

    -- in a row
    row_look : time_after now.time was ≡ now.time → (source : Source) → look_of now.stand ≡ look_of_source source →
        (f : GlanceFate) → Going source aim f →
        Ties plan x tied (ticked (with_seat x p x.store (look_after now aim was f)
        (look_answers (ample plan) x p aim (stepped now.course) f)))
    row_look t source look (Looks glance) g =
        quietly plan x pools tied p inside x.store (look_after now aim was (Looks glance)) x.answers
        (record { bucket = λ b. refl; free = refl; listed = λ r i. i }) (λ k. refl) (λ k. refl) t (g.0 ∙ sym look) refl
        (aims, g.1 (x.store.want p) (bucket_of_aim (ample plan) aim))
    row_look t (Tried left word) look (Shows items) g = quiet_look t (Shows items) tt look
    row_look t (HeldIn row) look (Shows items) g =
        look_moves plan x pools tied p inside x.store (look_after now aim was (Shows items))
        (look_answers (ample plan) x p aim (stepped now.course) (Shows items))
        (record { bucket = λ b. refl; free = refl; listed = λ r i. i }) (λ k. refl) (λ k. refl) refl refl H.NoLook refl
        (has_read plan x pools tied p inside row look) tt (λ a. absurd a)
    row_look t source look Disturbed g = absurd g

  lost_quiet : (aim : Aim) (was : Glance) (stood : now.stand ≡ S.Glances aim was) (left : ℕ) →
      Quiet aim was stood (glance_lost left)
  lost_quiet aim was stood left = go (nat_lt 0 left)
    where
      go : (b : Bool) → Quiet aim was stood (cond b (Looks (S.GlanceWord (left - 1))) Disturbed)
      go true = (refl, λ w b. tt)
      go false = tt

  aim_small : (aim : Aim) → IsAim plan aim → bucket_of_aim (ample plan) aim < bs
  aim_small (OfKey key) is = bucket_small plan key
  aim_small (OfBucket bucket) is = is

  look_step : (aim : Aim) (glance : Glance) → now.stand ≡ S.Glances aim glance →
      Ties plan x tied (ticked (glances plan x p now aim glance))
  look_step aim (S.GlanceWord left) e =
      quiet_look aim (S.GlanceWord left) e refl
      (Looks (S.GlanceCount (Tried left (x.store.bucket (bucket_of_aim (ample plan) aim))))) (refl, λ w b. tt)
      (ap look_of e)
  look_step aim (S.GlanceCount source) e =
      let found = found_by (glance_deed (ample plan) p now.time aim (S.GlanceCount source)) x.store in
      row_look aim (S.GlanceCount source) e refl source (ap look_of e)
      (scan_on source (scan_of (count_in (ample plan) found)))
      (scan_going source aim (scan_of (count_in (ample plan) found)))
  look_step aim (S.GlanceItem source scan) e =
      let found = found_by (glance_deed (ample plan) p now.time aim (S.GlanceItem source scan)) x.store in
      row_look aim (S.GlanceItem source scan) e refl source (ap look_of e) (scan_fate source aim scan found)
      (word_going source aim scan found)
  look_step aim (S.GlanceCheck left word kept) e =
      quiet_look aim (S.GlanceCheck left word kept) e refl
      (glance_fate (ample plan) now.time aim (S.GlanceCheck left word kept) (x.store.row (row_in word) 0))
      (go (x.store.row (row_in word) 0 == generation_in word)) (ap look_of e)
    where
      go : (b : Bool) → Quiet aim (S.GlanceCheck left word kept) e (cond b (Shows kept) (glance_lost left))
      go true = tt
      go false = lost_quiet aim (S.GlanceCheck left word kept) e left
  look_step aim S.GlanceWant e =
      let b = bucket_of_aim (ample plan) aim in
      want_stored plan x pools tied p inside (with_word x.store (W.Want p) b)
      (look_after now aim S.GlanceWant (Looks S.GlanceAsking)) x.answers b (aim_small aim (aims aim S.GlanceWant e))
      (record { bucket = λ a. refl; free = refl; listed = λ r i. i }) (λ q. refl) (λ q. refl) refl refl
      (ap look_of e) refl
      (aims aim S.GlanceWant e, put_same x.store.want p b)
  look_step aim S.GlanceAsking e =
      asked plan x pools tied p inside (with_word x.store (W.Hold p) (asking (now.time + 1)))
      (look_after now aim S.GlanceAsking (Looks S.GlanceHeld)) x.answers
      (record { bucket = λ a. refl; free = refl; listed = λ r i. i }) (λ q. refl) (λ q. refl) refl refl
      (ap look_of e) refl
      (wants_at (S.Glances aim S.GlanceAsking) e)
  look_step aim S.GlanceHeld e =
      let b = bucket_of_aim (ample plan) aim in
      look_moves plan x pools tied p inside x.store
      (look_after now aim S.GlanceHeld (Looks (S.GlanceTake (x.store.bucket b)))) x.answers
      (record { bucket = λ a. refl; free = refl; listed = λ r i. i }) (λ q. refl) (λ q. refl) refl refl
      (H.Loaded (word_in x b)) refl
      (loaded plan x pools tied p inside b (ap look_of e) (wants_at (S.Glances aim S.GlanceHeld) e).1)
      (aims aim S.GlanceHeld e, tt) (λ _. subst H.IsActive (sym (ap look_of e)) tt)
  look_step aim (S.GlanceTake old) e = go (x.store.hold p == asking now.time) refl
    where
      is_aim : IsAim plan aim
      is_aim = aims aim (S.GlanceTake old) e

      go : (c : Bool) → (x.store.hold p == asking now.time) ≡ c → Ties plan x tied (ticked (with_seat x p
          (cond c (with_word x.store (W.Hold p) (holding (row_in old))) x.store)
          (look_after now aim (S.GlanceTake old)
          (Looks (S.GlanceCount (HeldIn (cond c (row_in old) (held_row (x.store.hold p))))))) x.answers))
      go true it =
          takes plan x pools tied p inside (with_word x.store (W.Hold p) (holding (row_in old)))
          (look_after now aim (S.GlanceTake old) (Looks (S.GlanceCount (HeldIn (row_in old))))) x.answers (row_in old)
          (record { bucket = λ a. refl; free = refl; listed = λ r i. i }) (λ q. refl) (λ q. refl) refl refl
          (ap look_of e)
          (eqb-true (x.store.hold p) (asking now.time) it) refl (is_aim, tt)
      go false not_it =
          look_moves plan x pools tied p inside x.store
          (look_after now aim (S.GlanceTake old) (Looks (S.GlanceCount (HeldIn (held_row (x.store.hold p)))))) x.answers
          (record { bucket = λ a. refl; free = refl; listed = λ r i. i }) (λ q. refl) (λ q. refl) refl refl
          (H.Reads (held_row (x.store.hold p))) refl
          (given plan x pools tied p inside (row_in old) (ap look_of e) (x.store.hold p) refl
          (eqb-false (x.store.hold p) (asking now.time) not_it)) (is_aim, tt)
          (λ _. subst H.IsActive (sym (ap look_of e)) tt)

  -- ---- begins

  look_first : (aim : Aim) → IsAim plan aim → now.stand ≡ S.Idle → Ties plan x tied (ticked (look_begins x p now aim))
  look_first aim is e =
      quietly plan x pools tied p inside x.store
      (record now { stand = S.Glances aim (S.GlanceWord (LOOK_TRIES - 1)); course = course_from x.clock }) x.answers
      (record { bucket = λ b. refl; free = refl; listed = λ r i. i }) (λ q. refl) (λ q. refl) refl
      (sym (ap look_of e)) refl
      (is, tt)

  first_look : (u : Update) (next : Fate) → NoHeld next → look_of (stand_at u next) ≡ H.NoLook
  first_look u (On step) k = k.0
  first_look u (Ends reply) k = refl
  first_look u Refuses k = refl

  first_wants : (u : Update) (next : Fate) → NoHeld next → Wants plan (x.store.want p) (stand_at u next)
  first_wants u (On step) k = k.1 (x.store.want p) (bucket_of_update (ample plan) u)
  first_wants u (Ends reply) k = tt
  first_wants u Refuses k = tt

  begun : (u : Update) (course : Course) (answers : List Answer) → now.stand ≡ S.Idle → (named : List (ℕ × ℕ))
      (sweep : Option Sweep) → now.named ≡ named → now.sweep ≡ sweep →
      (let taken = sweep_begins named sweep now in
      let next = first_fate now.free taken.sweep in
      Ties plan x tied (ticked (with_seat x p x.store
      (record taken { stand = stand_at u next; course = course }) answers)))
  begun u course answers e named (Some sweep) en es =
      let next = first_fate now.free now.sweep in
      let none = first_on now.free now.sweep in
      quietly plan x pools tied p inside x.store (record now { stand = stand_at u next; course = course }) answers
      (record { bucket = λ b. refl; free = refl; listed = λ r i. i }) (λ q. refl) (λ q. refl) refl
      (first_look u next none ∙ sym (ap look_of e)) refl (first_wants u next none)
  begun u course answers e [] None en es =
      let next = first_fate now.free now.sweep in
      let none = first_on now.free now.sweep in
      quietly plan x pools tied p inside x.store (record now { stand = stand_at u next; course = course }) answers
      (record { bucket = λ b. refl; free = refl; listed = λ r i. i }) (λ q. refl) (λ q. refl) refl
      (first_look u next none ∙ sym (ap look_of e)) refl (first_wants u next none)
  begun u course answers e (row ∷ named) None en es =
      let sweep = S.Homes (row ∷ named) [] in
      let next = first_fate now.free (Some sweep) in
      let none = first_on now.free (Some sweep) in
      let then : SeatNow = record now {
        named = [];
        sweep = Some sweep;
        stand = stand_at u next;
        course = course;
      } in
      let quiet : look_of now.stand ≡ H.NoLook = ap look_of e in
      sweeps_to plan x pools tied p inside x.store then answers s.hold s.sweep quiet tied.holds (λ b. refl) (λ q. refl)
      (λ q. refl) (λ q m. refl) refl (first_look u next none) (first_wants u next none) (SweepsOn [] sweep)
      (HS.sweep_begins bs n o s p, λ q t r l f. absurd (omega (arith, ap H.sweep_kind f))) refl refl
      (λ r i. elim i [
        | inl a ↦ absurd a
        | inr a ↦ elim a [
          | inl b ↦ inl (subst (λ (ns : List (ℕ × ℕ)). In r ns) (sym en) b)
          | inr b ↦ absurd b
        ]
      ])

  update_first : (call : Call) → now.stand ≡ S.Idle → Ties plan x tied (ticked (update_begins x p now call))
  update_first call e =
      let taken = sweep_begins now.named now.sweep now in
      let next = first_fate now.free taken.sweep in
      begun (next_update now call) (course_from x.clock) (answers_after x p call (course_from x.clock) next) e now.named
      now.sweep refl refl

  call_first : (call : Call) → Fits plan now (Begin call) → Ties plan x tied (ticked (call_begins x p now call))
  call_first (Lookup key) fits = look_first (OfKey key) fits.1 fits.0
  call_first (Insert key value) fits = update_first (Insert key value) fits.0
  call_first (Remove key) fits = update_first (Remove key) fits.0
  call_first (Tally key amount) fits = update_first (Tally key amount) fits.0
  call_first (Count key value amount) fits = update_first (Count key value amount) fits.0
  call_first (Put key value) fits = update_first (Put key value) fits.0

  seat_goes : (stand : Stand) → now.stand ≡ stand → IsFlying stand → Ties plan x tied (ticked
      (goes_on plan x p now stand))
  seat_goes S.Idle e flies = absurd flies
  seat_goes (S.Goes u step) e flies = update_step u step e
  seat_goes (S.Glances aim glance) e flies = look_step aim glance e

  -- THE RESULT: each event of a seat
  pub seat_ties : (what : What) → Fits plan now what → Ties plan x tied (ticked (act plan x p now what))
  seat_ties (Begin call) fits = call_first call fits
  seat_ties (Copy bucket) fits = look_first (OfBucket bucket) fits.1 fits.0
  seat_ties Step_on fits = seat_goes now.stand refl fits
