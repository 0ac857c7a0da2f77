-- Each row that a seat or a reader is about to take a word of is a row of the table, and so is each that is held.
use Rattle.std.proofs.Common.{◌≡◌, ◌≢◌, ℕ, ◌+◌, ◌-◌, ◌<◌, inl, inr, Bool, true, false, cond, not, List, [], ◌∷◌, ◌++◌, length, Option, Some, None, refl, sym, ap, ◌∙◌, subst, arith, get_or-set_same, get_or-set_other, lt-ltb, true≢false}
use Rattle.std.specs.Prelude.{◌==◌, ◌&&◌, nat_lt, fold, slice_index_or}
use Rattle.std.proofs.lemmas.Bool.{cases_eq, cases_Bool, eqb-false}
use Rattle.step_counts.specs.declared.TheConstants.{ITEM_WORDS}
use Rattle.word_rows.specs.Memory.{put}
use Rattle.word_rows.proofs.MemoryLemmas.{put_same}
use Rattle.plain_map.specs.Calls.{key_in}
use Rattle.plain_map.specs.declared.calls.Call.{Call}
use Rattle.plain_map.specs.declared.calls.Call.TheVariants.{Insert, Remove, Lookup, Tally, Count, Put}
use Rattle.plain_map.specs.declared.keys.Pair.{Pair}
use Rattle.plain_map.specs.declared.calls.Reply.{Reply}
use Rattle.word_rows.specs.ReplyWords.{reply_of_word}
use Rattle.bucket_states.specs.declared.ops.Op.{Op}
use Rattle.table_model.specs.Setup.{seats_of}
use Rattle.table_model.specs.Goes.{more}
use Rattle.lasting_model.specs.Plans.{Plan, IsPlan, ample, buckets_of}
use Rattle.lasting_model.specs.Codes.{SLOT_WORDS, row_in, generation_in, time_in, state_in, count_in, pair_in, asking, holding, is_asking, held_row}
use Rattle.lasting_model.specs.Words as W
use Rattle.lasting_model.specs.Words.{with_word}
use Rattle.lasting_model.specs.Steps as S
use Rattle.lasting_model.specs.Steps.{Step, Stand, Sweep, SeatNow, Update, Try, Aim, OfKey, OfBucket, Glance, Source, Scan, Peeking, ReaderNow, Deed, deed_of, glance_deed, sweep_deed, bucket_of_aim, bucket_of_update, is_due, made, new_words}
use Rattle.lasting_model.specs.Goes.{SweepFate, SweepsOn, Swept, rows_of, alone, without, seats_from, homes_on, past_hold, lost, reply_by, is_applied, looked, found_so_far, ops_or_row, with_own, op_in, with_published, gone_through, glance_lost, scan_on, scan_of, passed, with_pair, may_be, is_aimed, scan_pair, scan_fate, sweep_fate, sweep_fate_of, swept, sweep_begins, Fate, On, Ends, Refuses, fate, own_after, first_fate, piece_fate, with_free, ends_with, GlanceFate, Looks, Shows, Disturbed, glance_fate}
use Rattle.lasting_model.specs.Worlds.{Lasting, Answer, Event, OfSeat, OfReader, IsEvent, AreEvents, What, Begin, Copy, Step_on, Peek, Open, Peek_on, Fits, IsFlying, PeekFits, IsPeeking, IsAim, LOOK_TRIES, seat_in, with_seat, ticked, nobody, happens, act, goes_on, answers_after, look_answers, peek_answers, stepped, course_from, with_reader, goes, glances, call_begins, look_begins, update_begins, peek_acts, peeks_on, peek_after, store_after, found_by, seat_after, look_after, stand_at, next_update, opening_world, opening_store, world_after, IsRun}
use Rattle.lasting_laws.proofs.Lists.{either_put}
use Rattle.lasting_laws.proofs.Words.{asking_asks, row_of_holding}
use Rattle.lasting_laws.proofs.Pools.{owner_in, Pools, word_in}
use Rattle.lasting_laws.proofs.PoolEvents.{pools_keep, bucket_small}
use Rattle.lasting_laws.proofs.PoolsOpen.{pools_open, seat_is}
use Rattle.lasting_laws.proofs.Holding as H
use Rattle.lasting_laws.proofs.HeldStates.{hold_of, look_of, sweep_of, held_state}
use Rattle.lasting_laws.proofs.HeldSteps.{hold_asks, hold_none}
use Rattle.lasting_laws.proofs.Tied.{Tied, Wants, given}
use Rattle.lasting_laws.proofs.HeldKept.{tied_open, ties_keep}
use Rattle.lasting_laws.proofs.StepBounds.{FineLook, NextLook, look_left, looks}

module _ (plan : Plan) where
  -- it is one of the rows of some seat
  abbrev pub Inside : (row : ℕ) → Type 0
  Inside row = owner_in plan row < plan.settings.seats

  -- ---- what is said

  abbrev pub NearStep : Step → Type 0
  NearStep (S.LoadRow turn word words) = Inside (row_in word)
  NearStep (S.CheckRow turn word words) = Inside (row_in word)
  NearStep (S.TakeHold word) = Inside (row_in word)
  NearStep (S.HeldNumber row) = Inside row
  NearStep (S.HeldReply row) = Inside row
  NearStep step = Unit {0}

  abbrev pub NearSource : Source → Type 0
  NearSource (S.Tried left word) = Inside (row_in word)
  NearSource (S.HeldIn row) = Inside row

  abbrev pub NearGlance : Glance → Type 0
  NearGlance (S.GlanceCount source) = NearSource source
  NearGlance (S.GlanceItem source scan) = NearSource source
  NearGlance (S.GlanceCheck left word kept) = Inside (row_in word)
  NearGlance (S.GlanceTake word) = Inside (row_in word)
  NearGlance glance = Unit {0}

  abbrev pub NearStand : Stand → Type 0
  NearStand S.Idle = Unit {0}
  NearStand (S.Goes u step) = NearStep step
  NearStand (S.Glances aim glance) = NearGlance glance

  -- a row that a sweep is to give
  abbrev pub NearSweep : Option Sweep → Type 0
  NearSweep (Some (S.Gives k t row gone)) = Inside row
  NearSweep sweep = Unit {0}

  -- and what a hold word has
  abbrev pub NearHold : (word : ℕ) → Type 0
  NearHold word = is_asking word ≡ false → word ≢ 0 → Inside (held_row word)

  -- a reader comes to no step of a held look
  abbrev pub IsTrying : Glance → Type 0
  IsTrying (S.GlanceWord left) = Unit {0}
  IsTrying (S.GlanceCount (S.Tried left word)) = Unit {0}
  IsTrying (S.GlanceItem (S.Tried left word) scan) = Unit {0}
  IsTrying (S.GlanceCheck left word kept) = Unit {0}
  IsTrying glance = ⊥

  pub some_seat : 0 < plan.settings.seats
  some_seat = omega (arith, plan.settings.seats_in_range.0)

  -- how far it has come in a row
  abbrev pub HasCome : Glance → Type 0
  HasCome glance = FineLook plan 0 some_seat glance

  abbrev pub NearPeeking : Peeking → Type 0
  NearPeeking S.Rests = Unit {0}
  NearPeeking (S.Peeks aim glance) = IsAim plan aim × NearGlance glance × IsTrying glance × HasCome glance

  pub record Near (x : Lasting) : Type 0 where
    pub seats : (p : ℕ) → p < plan.settings.seats →
        NearStand (seat_in x p).stand × NearSweep (seat_in x p).sweep
    pub holds : (q : ℕ) → NearHold (x.store.hold q)
    pub readers : (r : ℕ) → NearPeeking (x.readers r).stand

  -- ---- where an update leads

  abbrev NearFate : Fate → Type 0
  NearFate (On step) = NearStep step
  NearFate (Ends reply) = Unit {0}
  NearFate Refuses = Unit {0}

  either : (a b : Fate) (c : Bool) → NearFate a → NearFate b → NearFate (cond c a b)
  either a b true na nb = na
  either a b false na nb = nb

  either_on : (a b : Step) (c : Bool) → NearStep a → NearStep b → NearFate (On (cond c a b))
  either_on a b true na nb = na
  either_on a b false na nb = nb

  replied : (reply : Option Reply) → NearFate (ends_with reply)
  replied None = tt
  replied (Some reply) = tt

  freed : (free : List ℕ) → NearFate (with_free free)
  freed [] = tt
  freed (row ∷ free) = tt

  pieced : (free : List ℕ) (rows : ℕ) (f : SweepFate) → NearFate (piece_fate free rows f)
  pieced free rows (SweepsOn kept (S.Homes todo gone)) =
      either (On (S.Sweeps (rows - 1))) (with_free free) (nat_lt 1 rows) tt (freed free)
  pieced free rows (SweepsOn kept (S.Seats k gone)) = tt
  pieced free rows (SweepsOn kept (S.Sees k t gone)) = tt
  pieced free rows (SweepsOn kept (S.Loads k t bucket gone)) = tt
  pieced free rows (SweepsOn kept (S.Gives k t row gone)) = tt
  pieced free rows (Swept kept gone) = freed (free ++ rows_of gone)

  begun : (free : List ℕ) (sweep : Option Sweep) → NearFate (first_fate free sweep)
  begun free None = freed free
  begun free (Some sweep) = tt

  loses : (turn : ℕ) → NearFate (lost turn)
  loses turn = either_on (S.LoadWord 2) S.StoreWant (turn == 1) tt tt

  to_ops : (t : Try) (found : List (Option Op)) → NearFate (ops_or_row (ample plan) t found)
  to_ops t found =
      either_on (S.LoadAnnounced t found) (S.StoreRow t found 0) (nat_lt (length found) (seats_of (ample plan))) tt tt

  -- what is known of the word that it finds
  abbrev Facts : SeatNow → Step → (word : ℕ) → Type 0
  Facts now (S.LoadWord turn) word = Inside (row_in word)
  Facts now S.HeldWord word = Inside (row_in word)
  Facts now (S.TakeHold old) word = word ≢ asking now.time → Inside (held_row word)
  Facts now step word = Unit {0}

  -- the row that it holds then
  taken : (time old word : ℕ) → Inside (row_in old) → (word ≢ asking time → Inside (held_row word)) →
      Inside (cond (word == asking time) (row_in old) (held_row word))
  taken time old word own other = go (word == asking time) refl
    where
      go : (c : Bool) → (word == asking time) ≡ c → Inside (cond c (row_in old) (held_row word))
      go true e = own
      go false e = other (eqb-false word (asking time) e)

  near_fate : (p : ℕ) (now : SeatNow) (u : Update) (step : Step) (word : ℕ) → NearStep step → Facts now step word →
      NearFate (fate (ample plan) p now u step word)
  near_fate p now u (S.Sweeps rows) word k f =
      pieced now.free rows (sweep_fate_of (ample plan) p now.sweep word)
  near_fate p now u (S.StoreOp i) word k f =
      either_on (S.StoreOp (i + 1)) S.Announce (nat_lt (i + 1) SLOT_WORDS) tt tt
  near_fate p now u S.Announce word k f = tt
  near_fate p now u (S.LoadWord turn) word k f = f
  near_fate p now u (S.LoadRow turn old words) word k f =
      either_on (S.LoadRow turn old (more words word)) (S.CheckRow turn old (more words word)) _ k k
  near_fate p now u (S.CheckRow turn old words) word k f =
      let t : Try = record {
        turn = turn;
        word = old;
        state = state_in (ample plan) (bucket_of_update (ample plan) u) words;
      } in
      either (looked (ample plan) p u t) (lost turn) (word == generation_in old)
      (either (reply_by p t.state) (found_so_far (ample plan) p u t []) (is_applied p u t.state)
      (replied (slice_index_or t.state.replies p None)) (to_ops t (with_own p u []))) (loses turn)
  near_fate p now u (S.LoadAnnounced t found) word k f =
      either (On (S.LoadOp t found word [])) (found_so_far (ample plan) p u t (more found None))
      (is_due (bucket_of_update (ample plan) u) t.state (length found) word) tt
      (to_ops t (with_own p u (more found None)))
  near_fate p now u (S.LoadOp t found announced words) word k f =
      let op : Option Op = Some (op_in (length found) announced (more words word)) in
      either (On (S.LoadOp t found announced (more words word))) (found_so_far (ample plan) p u t (more found op))
      (nat_lt (length words + 1) SLOT_WORDS) tt (to_ops t (with_own p u (more found op)))
  near_fate p now u (S.StoreRow t found i) word k f =
      either_on (S.StoreRow t found (i + 1)) (S.Exchange t found)
      (nat_lt (i + 1) (length (new_words (ample plan) now t found))) tt tt
  near_fate p now u (S.Exchange t found) word k f =
      either (reply_by p (made (ample plan) t found)) (lost t.turn) (word == t.word)
      (replied (slice_index_or (made (ample plan) t found).replies p None)) (loses t.turn)
  near_fate p now u S.StoreWant word k f = tt
  near_fate p now u S.StoreAsking word k f = tt
  near_fate p now u S.HeldWord word k f = f
  near_fate p now u (S.TakeHold old) word k f = taken now.time old word k f
  near_fate p now u (S.HeldNumber row) word k f = either_on (S.HeldReply row) S.Stuck (word == u.number) k tt
  near_fate p now u (S.HeldReply row) word k f = replied (reply_of_word word)
  near_fate p now u S.Stuck word k f = tt

  -- ---- where a sweep leads

  abbrev NearSwept : SweepFate → Type 0
  NearSwept (SweepsOn kept sweep) = NearSweep (Some sweep)
  NearSwept (Swept kept gone) = Unit {0}

  swept_either : (a b : SweepFate) (c : Bool) → NearSwept a → NearSwept b → NearSwept (cond c a b)
  swept_either a b true na nb = na
  swept_either a b false na nb = nb

  near_seats : (own k : ℕ) (kept gone : List (ℕ × ℕ)) → NearSwept (seats_from (ample plan) own k kept gone)
  near_seats own k kept gone =
      let seat = cond (k == own) (k + 1) k in
      swept_either (SweepsOn kept (S.Seats seat gone)) (Swept kept gone) (nat_lt seat (seats_of (ample plan))) tt tt

  near_homes : (own : ℕ) (kept todo gone : List (ℕ × ℕ)) → NearSwept (homes_on (ample plan) own kept todo gone)
  near_homes own kept [] gone = near_seats own 0 kept gone
  near_homes own kept (row ∷ todo) gone = tt

  near_past : (own k : ℕ) (gone : List (ℕ × ℕ)) (word : ℕ) → NearSwept (past_hold (ample plan) own k gone word)
  near_past own k gone word =
      swept_either (seats_from (ample plan) own (k + 1) [] gone)
      (seats_from (ample plan) own (k + 1) (alone (held_row word) gone) (without (held_row word) gone)) (word == 0)
      (near_seats own (k + 1) [] gone)
      (near_seats own (k + 1) (alone (held_row word) gone) (without (held_row word) gone))

  abbrev SweepFacts : Sweep → (word : ℕ) → Type 0
  SweepFacts (S.Loads k t bucket gone) word = Inside (row_in word)
  SweepFacts sweep word = Unit {0}

  near_sweep : (own : ℕ) (sweep : Sweep) (word : ℕ) → SweepFacts sweep word →
      NearSwept (sweep_fate (ample plan) own sweep word)
  near_sweep own (S.Homes [] gone) word f = near_seats own 0 [] gone
  near_sweep own (S.Homes (row ∷ todo) gone) word f =
      swept_either (homes_on (ample plan) own (row ∷ []) todo gone) (homes_on (ample plan) own [] todo (row ∷ gone))
      (row_in word == row.0) (near_homes own (row ∷ []) todo gone) (near_homes own [] todo (row ∷ gone))
  near_sweep own (S.Seats k gone) word f =
      swept_either (SweepsOn [] (S.Sees k (time_in word) gone)) (past_hold (ample plan) own k gone word)
      (is_asking word) tt (near_past own k gone word)
  near_sweep own (S.Sees k t gone) word f = tt
  near_sweep own (S.Loads k t bucket gone) word f = f
  near_sweep own (S.Gives k t row gone) word f =
      swept_either (seats_from (ample plan) own (k + 1) [] gone) (past_hold (ample plan) own k gone word)
      (is_asking word) (near_seats own (k + 1) [] gone) (near_past own k gone word)

  swept_sweep : (now : SeatNow) (f : SweepFate) → NearSwept f → NearSweep (swept now f).sweep
  swept_sweep now (SweepsOn kept sweep) k = k
  swept_sweep now (Swept kept gone) k = tt

  -- ---- where a look leads

  -- a look that goes on has this
  abbrev Then : (Glance → Type 0) → GlanceFate → Type 0
  Then P (Looks glance) = P glance
  Then P (Shows items) = Unit {0}
  Then P Disturbed = Unit {0}

  then_either : (P : Glance → Type 0) (a b : GlanceFate) (c : Bool) → Then P a → Then P b → Then P (cond c a b)
  then_either P a b true na nb = na
  then_either P a b false na nb = nb

  -- in a row each word leads to the next one, or to its end
  module _ (P : Glance → Type 0) (source : Source) (item : (scan : Scan) → P (S.GlanceItem source scan))
      (check : (kept : List Pair) → Then P (gone_through source kept)) where
    in_row : (scan : Scan) → Then P (scan_on source scan)
    in_row scan =
        then_either P (Looks (S.GlanceItem source scan)) (gone_through source scan.kept) (nat_lt scan.item scan.count)
        (item scan) (check scan.kept)

    in_item : (aim : Aim) (scan : Scan) (word : ℕ) → Then P (scan_fate source aim scan word)
    in_item aim scan word =
        let pair = pair_in (more scan.part word) in
        let longer : Scan = record scan { part = more scan.part word } in
        then_either P (scan_on source (passed scan))
        (cond (nat_lt (length scan.part + 1) ITEM_WORDS) (Looks (S.GlanceItem source longer))
        (scan_pair source aim scan pair))
        ((length scan.part == 0) && not (may_be aim word)) (in_row (passed scan))
        (then_either P (Looks (S.GlanceItem source longer)) (scan_pair source aim scan pair)
        (nat_lt (length scan.part + 1) ITEM_WORDS) (item longer)
        (then_either P (gone_through source (more scan.kept pair)) (scan_on source (with_pair scan pair))
        (is_aimed aim pair) (check (more scan.kept pair)) (in_row (with_pair scan pair))))

  abbrev LookFacts : (time : ℕ) → Glance → (word : ℕ) → Type 0
  LookFacts time (S.GlanceWord left) word = Inside (row_in word)
  LookFacts time S.GlanceHeld word = Inside (row_in word)
  LookFacts time (S.GlanceTake old) word = word ≢ asking time → Inside (held_row word)
  LookFacts time glance word = Unit {0}

  near_check : (source : Source) → NearSource source → (kept : List Pair) → Then NearGlance (gone_through source kept)
  near_check (S.Tried left word) k kept = k
  near_check (S.HeldIn row) k kept = tt

  lost_look : (P : Glance → Type 0) → ((left : ℕ) → P (S.GlanceWord left)) → (left : ℕ) → Then P (glance_lost left)
  lost_look P word left = then_either P (Looks (S.GlanceWord (left - 1))) Disturbed (nat_lt 0 left) (word (left - 1)) tt

  near_look : (time : ℕ) (aim : Aim) (glance : Glance) (word : ℕ) → NearGlance glance → LookFacts time glance word →
      Then NearGlance (glance_fate (ample plan) time aim glance word)
  near_look time aim (S.GlanceWord left) word k f = f
  near_look time aim (S.GlanceCount source) word k f =
      in_row NearGlance source (λ scan. k) (near_check source k) (scan_of (count_in (ample plan) word))
  near_look time aim (S.GlanceItem source scan) word k f =
      in_item NearGlance source (λ scan. k) (near_check source k) aim scan word
  near_look time aim (S.GlanceCheck left old kept) word k f =
      then_either NearGlance (Shows kept) (glance_lost left) (word == generation_in old) tt
      (lost_look NearGlance (λ l. tt) left)
  near_look time aim S.GlanceWant word k f = tt
  near_look time aim S.GlanceAsking word k f = tt
  near_look time aim S.GlanceHeld word k f = f
  near_look time aim (S.GlanceTake old) word k f = taken time old word k f

  -- a reader's stays one of its tries
  try_check : (left word : ℕ) (kept : List Pair) → Then IsTrying (gone_through (S.Tried left word) kept)
  try_check left word kept = tt

  try_look : (aim : Aim) (glance : Glance) (word : ℕ) → IsTrying glance →
      Then IsTrying (glance_fate (ample plan) 0 aim glance word)
  try_look aim (S.GlanceWord left) word k = tt
  try_look aim (S.GlanceCount (S.Tried left old)) word k =
      in_row IsTrying (S.Tried left old) (λ scan. tt) (try_check left old) (scan_of (count_in (ample plan) word))
  try_look aim (S.GlanceCount (S.HeldIn row)) word k = absurd k
  try_look aim (S.GlanceItem (S.Tried left old) scan) word k =
      in_item IsTrying (S.Tried left old) (λ scan. tt) (try_check left old) aim scan word
  try_look aim (S.GlanceItem (S.HeldIn row) scan) word k = absurd k
  try_look aim (S.GlanceCheck left old kept) word k =
      then_either IsTrying (Shows kept) (glance_lost left) (word == generation_in old) tt
      (lost_look IsTrying (λ l. tt) left)
  try_look aim S.GlanceWant word k = absurd k
  try_look aim S.GlanceAsking word k = absurd k
  try_look aim S.GlanceHeld word k = absurd k
  try_look aim (S.GlanceTake old) word k = absurd k

  come : (next : GlanceFate) (left : ℕ) → NextLook plan 0 some_seat left next → Then HasCome next
  come (Looks glance) left k = k.0
  come (Shows items) left k = tt
  come Disturbed left k = tt

  -- ---- hold words

  -- what is stored in a hold word
  abbrev HoldFine : Deed → Type 0
  HoldFine (S.Store (W.Hold q) word) = NearHold word
  HoldFine (S.Swap (W.Hold q) old new) = NearHold new
  HoldFine deed = Unit {0}

  put_fine : (hold : ℕ → ℕ) → ((q : ℕ) → NearHold (hold q)) → (k word : ℕ) → NearHold word → (q : ℕ) →
      NearHold (put hold k word q)
  put_fine hold all k word fine q = elim (either_put hold k word q) [
    | inl e ↦ subst NearHold (sym e.1) fine
    | inr n ↦ subst NearHold (sym n.1) (all q)
  ]

  asks_near : (time : ℕ) → NearHold (asking time)
  asks_near time none some = absurd (true≢false (sym (asking_asks time) ∙ none))

  holds_near : (row : ℕ) → Inside row → NearHold (holding row)
  holds_near row inside none some = subst Inside (sym (row_of_holding row)) inside

  abbrev AllHolds : W.Store → Type 0
  AllHolds store = (q : ℕ) → NearHold (store.hold q)

  all_either : (a b : W.Store) (c : Bool) → AllHolds a → AllHolds b → AllHolds (cond c a b)
  all_either a b true na nb = na
  all_either a b false na nb = nb

  holds_after : (deed : Deed) (store : W.Store) → HoldFine deed → AllHolds store → AllHolds (store_after deed store)
  holds_after S.Nothing store f all = all
  holds_after (S.Load from) store f all = all
  holds_after (S.Store (W.Announced q) word) store f all = all
  holds_after (S.Store (W.Want q) word) store f all = all
  holds_after (S.Store (W.Hold q) word) store f all = put_fine store.hold all q word f
  holds_after (S.Store (W.OpWord q i) word) store f all = all
  holds_after (S.Store (W.Bucket b) word) store f all = all
  holds_after (S.Store (W.RowWord row i) word) store f all = all
  holds_after (S.Swap (W.Announced q) old new) store f all =
      all_either (with_word store (W.Announced q) new) store (store.announced q == old) all all
  holds_after (S.Swap (W.Want q) old new) store f all =
      all_either (with_word store (W.Want q) new) store (store.want q == old) all all
  holds_after (S.Swap (W.Hold q) old new) store f all =
      all_either (with_word store (W.Hold q) new) store (store.hold q == old) (put_fine store.hold all q new f) all
  holds_after (S.Swap (W.OpWord q i) old new) store f all =
      all_either (with_word store (W.OpWord q i) new) store (store.op q i == old) all all
  holds_after (S.Swap (W.Bucket b) old new) store f all =
      all_either (with_word store (W.Bucket b) new) store (store.bucket b == old) all all
  holds_after (S.Swap (W.RowWord row i) old new) store f all =
      all_either (with_word store (W.RowWord row i) new) store (store.row row i == old) all all

  sweep_hold : (sweep : Option Sweep) → NearSweep sweep → HoldFine (sweep_deed sweep)
  sweep_hold None k = tt
  sweep_hold (Some (S.Homes [] gone)) k = tt
  sweep_hold (Some (S.Homes (row ∷ todo) gone)) k = tt
  sweep_hold (Some (S.Seats seat gone)) k = tt
  sweep_hold (Some (S.Sees seat t gone)) k = tt
  sweep_hold (Some (S.Loads seat t bucket gone)) k = tt
  sweep_hold (Some (S.Gives seat t row gone)) k = holds_near row k

  step_hold : (p : ℕ) (now : SeatNow) (u : Update) (step : Step) → NearStep step → NearSweep now.sweep →
      HoldFine (deed_of (ample plan) p now u step)
  step_hold p now u (S.Sweeps rows) k s = sweep_hold now.sweep s
  step_hold p now u (S.StoreOp i) k s = tt
  step_hold p now u S.Announce k s = tt
  step_hold p now u (S.LoadWord turn) k s = tt
  step_hold p now u (S.LoadRow turn word words) k s = tt
  step_hold p now u (S.CheckRow turn word words) k s = tt
  step_hold p now u (S.LoadAnnounced t found) k s = tt
  step_hold p now u (S.LoadOp t found announced words) k s = tt
  step_hold p now u (S.StoreRow t found i) k s = tt
  step_hold p now u (S.Exchange t found) k s = tt
  step_hold p now u S.StoreWant k s = tt
  step_hold p now u S.StoreAsking k s = asks_near (now.time + 1)
  step_hold p now u S.HeldWord k s = tt
  step_hold p now u (S.TakeHold word) k s = holds_near (row_in word) k
  step_hold p now u (S.HeldNumber row) k s = tt
  step_hold p now u (S.HeldReply row) k s = tt
  step_hold p now u S.Stuck k s = tt

  look_hold : (p time : ℕ) (aim : Aim) (glance : Glance) → NearGlance glance →
      HoldFine (glance_deed (ample plan) p time aim glance)
  look_hold p time aim (S.GlanceWord left) k = tt
  look_hold p time aim (S.GlanceCount source) k = tt
  look_hold p time aim (S.GlanceItem source scan) k = tt
  look_hold p time aim (S.GlanceCheck left word kept) k = tt
  look_hold p time aim S.GlanceWant k = tt
  look_hold p time aim S.GlanceAsking k = asks_near (time + 1)
  look_hold p time aim S.GlanceHeld k = tt
  look_hold p time aim (S.GlanceTake word) k = holds_near (row_in word) k

  -- ---- the seat then

  after_stand : (own : SeatNow) (u : Update) (next : Fate) → NearFate next → NearStand (seat_after own u next).stand
  after_stand own u (On step) k = k
  after_stand own u (Ends reply) k = tt
  after_stand own u Refuses k = tt

  after_sweep : (own : SeatNow) (u : Update) (next : Fate) → NearSweep own.sweep →
      NearSweep (seat_after own u next).sweep
  after_sweep own u (On step) k = k
  after_sweep own u (Ends reply) k = k
  after_sweep own u Refuses k = k

  looked_stand : (now : SeatNow) (aim : Aim) (was : Glance) (next : GlanceFate) → Then NearGlance next →
      NearStand (look_after now aim was next).stand
  looked_stand now aim was (Looks glance) k = k
  looked_stand now aim was (Shows items) k = tt
  looked_stand now aim was Disturbed k = tt

  looked_sweep : (now : SeatNow) (aim : Aim) (was : Glance) (next : GlanceFate) → NearSweep now.sweep →
      NearSweep (look_after now aim was next).sweep
  looked_sweep now aim was (Looks glance) k = k
  looked_sweep now aim was (Shows items) k = k
  looked_sweep now aim was Disturbed k = k

  begun_sweep : (named : List (ℕ × ℕ)) (sweep : Option Sweep) (now : SeatNow) → NearSweep sweep →
      now.sweep ≡ sweep → NearSweep (sweep_begins named sweep now).sweep
  begun_sweep named (Some sweep) now k e = subst NearSweep (sym e) k
  begun_sweep [] None now k e = subst NearSweep (sym e) k
  begun_sweep (row ∷ named) None now k e = tt

  begun_stand : (u : Update) (next : Fate) → NearFate next → NearStand (stand_at u next)
  begun_stand u (On step) k = k
  begun_stand u (Ends reply) k = tt
  begun_stand u Refuses k = tt

  -- ---- each event

  module _ (x : Lasting) (pools : Pools plan x) (tied : Tied plan x) (near : Near x) where
    -- the row in the word of a bucket
    in_word : (b : ℕ) → b < buckets_of plan.settings → Inside (word_in x b)
    in_word b less = (pools.placed b less).owned

    aim_small : (aim : Aim) → IsAim plan aim → bucket_of_aim (ample plan) aim < buckets_of plan.settings
    aim_small (OfKey key) k = bucket_small plan key
    aim_small (OfBucket bucket) k = k

    module _ (p : ℕ) (inside : p < plan.settings.seats) where
      abbrev now : SeatNow
      now = seat_in x p

      abbrev kept : NearStand now.stand × NearSweep now.sweep
      kept = near.seats p inside

      long : p < length x.seats
      long = omega (arith, inside, pools.long)

      acted : (store : W.Store) (then : SeatNow) (answers : List Answer) → NearStand then.stand →
          NearSweep then.sweep → AllHolds store → Near (ticked (with_seat x p store then answers))
      acted store then answers stand sweep holds = record {
        seats = λ q less. elim (cases_eq q p) [
          | inl e ↦ subst (λ (s : SeatNow). NearStand s.stand × NearSweep s.sweep)
              (sym (ap (λ k. seat_in (with_seat x p store then answers) k) e
              ∙ get_or-set_same x.seats p then nobody long)) (stand, sweep)
          | inr n ↦ subst (λ (s : SeatNow). NearStand s.stand × NearSweep s.sweep)
              (sym (get_or-set_other x.seats p q then nobody n)) (near.seats q less)
        ];
        holds = holds;
        readers = near.readers;
      }

      -- the row that it was given
      given_near : (row : ℕ) → look_of now.stand ≡ H.Loaded row → x.store.hold p ≢ asking now.time →
          Inside (held_row (x.store.hold p))
      given_near row was other = near.holds p not_asking some
        where
          word : ℕ
          word = x.store.hold p

          is : hold_of word ≡ H.Holding (held_row word)
          is = ((given plan x pools tied p inside row was word refl other).reads p (held_row word)
              (put_same (λ q. look_of (seat_in x q).stand) p (H.Reads (held_row word)))).0

          not_asking : is_asking word ≡ false
          not_asking = elim (cases_Bool (is_asking word)) [
            | inl a ↦ absurd (omega (arith, ap H.kind (sym (hold_asks word a) ∙ is)))
            | inr a ↦ a
          ]

          some : word ≢ 0
          some z = omega (arith, ap H.kind (sym (hold_none word z) ∙ is))

      update_step : (u : Update) (step : Step) → now.stand ≡ S.Goes u step →
          Near (ticked (goes plan x p now u step))
      update_step u step stood =
          acted (store_after deed x.store) (seat_after own u next) (answers_after x p u.call (stepped now.course) next)
          (after_stand own u next (near_fate p now u step word here (facts step stood)))
          (after_sweep own u next (own_sweep step))
          (holds_after deed x.store (step_hold p now u step here kept.1) near.holds)
        where
          deed : Deed
          deed = deed_of (ample plan) p now u step

          word : ℕ
          word = found_by deed x.store

          own : SeatNow
          own = own_after (ample plan) p now u step word

          next : Fate
          next = fate (ample plan) p now u step word

          here : NearStep step
          here = subst NearStand stood kept.0

          b : ℕ
          b = bucket_of_update (ample plan) u

          facts : (s : Step) → now.stand ≡ S.Goes u s →
              Facts now s (found_by (deed_of (ample plan) p now u s) x.store)
          facts (S.LoadWord turn) e = in_word b (bucket_small plan (key_in u.call))
          facts S.HeldWord e = in_word b (bucket_small plan (key_in u.call))
          facts (S.TakeHold old) e = given_near (row_in old) (ap look_of e)
          facts (S.Sweeps rows) e = tt
          facts (S.StoreOp i) e = tt
          facts S.Announce e = tt
          facts (S.LoadRow turn old words) e = tt
          facts (S.CheckRow turn old words) e = tt
          facts (S.LoadAnnounced t found) e = tt
          facts (S.LoadOp t found announced words) e = tt
          facts (S.StoreRow t found i) e = tt
          facts (S.Exchange t found) e = tt
          facts S.StoreWant e = tt
          facts S.StoreAsking e = tt
          facts (S.HeldNumber row) e = tt
          facts (S.HeldReply row) e = tt
          facts S.Stuck e = tt

          -- a sweep loads the words of buckets
          sweep_facts : (sweep : Sweep) → now.sweep ≡ Some sweep →
              SweepFacts sweep (found_by (sweep_deed (Some sweep)) x.store)
          sweep_facts (S.Loads k t bucket gone) e = in_word bucket
              (subst (λ (s : Option Sweep). H.Sweeps (buckets_of plan.settings) plan.settings.seats (owner_in plan)
              (held_state plan x tied.home tied.since) p (sweep_of s)) e (tied.holds.sweeps p)).2
          sweep_facts (S.Homes todo gone) e = tt
          sweep_facts (S.Seats k gone) e = tt
          sweep_facts (S.Sees k t gone) e = tt
          sweep_facts (S.Gives k t row gone) e = tt

          sweeps : (sweep : Option Sweep) → now.sweep ≡ sweep →
              NearSwept (sweep_fate_of (ample plan) p sweep (found_by (sweep_deed sweep) x.store))
          sweeps None e = tt
          sweeps (Some sweep) e = near_sweep p sweep (found_by (sweep_deed (Some sweep)) x.store) (sweep_facts sweep e)

          published : (c : Bool) → NearSweep (cond c (with_published now b) now).sweep
          published true = kept.1
          published false = kept.1

          own_sweep : (s : Step) → NearSweep (own_after (ample plan) p now u s
              (found_by (deed_of (ample plan) p now u s) x.store)).sweep
          own_sweep (S.Sweeps rows) =
              swept_sweep now (sweep_fate_of (ample plan) p now.sweep (found_by (sweep_deed now.sweep) x.store))
              (sweeps now.sweep refl)
          own_sweep S.StoreAsking = kept.1
          own_sweep (S.Exchange t found) = published (x.store.bucket b == t.word)
          own_sweep (S.StoreOp i) = kept.1
          own_sweep S.Announce = kept.1
          own_sweep (S.LoadWord turn) = kept.1
          own_sweep (S.LoadRow turn old words) = kept.1
          own_sweep (S.CheckRow turn old words) = kept.1
          own_sweep (S.LoadAnnounced t found) = kept.1
          own_sweep (S.LoadOp t found announced words) = kept.1
          own_sweep (S.StoreRow t found i) = kept.1
          own_sweep S.StoreWant = kept.1
          own_sweep S.HeldWord = kept.1
          own_sweep (S.TakeHold old) = kept.1
          own_sweep (S.HeldNumber row) = kept.1
          own_sweep (S.HeldReply row) = kept.1
          own_sweep S.Stuck = kept.1

      look_step : (aim : Aim) (glance : Glance) → now.stand ≡ S.Glances aim glance →
          Near (ticked (glances plan x p now aim glance))
      look_step aim glance stood =
          acted (store_after deed x.store) (look_after now aim glance next)
          (look_answers (ample plan) x p aim (stepped now.course) next)
          (looked_stand now aim glance next
          (near_look now.time aim glance (found_by deed x.store) here (facts glance stood)))
          (looked_sweep now aim glance next kept.1)
          (holds_after deed x.store (look_hold p now.time aim glance here) near.holds)
        where
          deed : Deed
          deed = glance_deed (ample plan) p now.time aim glance

          next : GlanceFate
          next = glance_fate (ample plan) now.time aim glance (found_by deed x.store)

          here : NearGlance glance
          here = subst NearStand stood kept.0

          aimed : IsAim plan aim
          aimed = (subst (λ (s : Stand). Wants plan (x.store.want p) s) stood (tied.wants p inside)).0

          facts : (g : Glance) → now.stand ≡ S.Glances aim g →
              LookFacts now.time g (found_by (glance_deed (ample plan) p now.time aim g) x.store)
          facts (S.GlanceWord left) e = in_word (bucket_of_aim (ample plan) aim) (aim_small aim aimed)
          facts S.GlanceHeld e = in_word (bucket_of_aim (ample plan) aim) (aim_small aim aimed)
          facts (S.GlanceTake old) e = given_near (row_in old) (ap look_of e)
          facts (S.GlanceCount source) e = tt
          facts (S.GlanceItem source scan) e = tt
          facts (S.GlanceCheck left word items) e = tt
          facts S.GlanceWant e = tt
          facts S.GlanceAsking e = tt

      look_first : (aim : Aim) → Near (ticked (look_begins x p now aim))
      look_first aim =
          acted x.store
          (record now { stand = S.Glances aim (S.GlanceWord (LOOK_TRIES - 1)); course = course_from x.clock })
          x.answers tt kept.1 near.holds

      update_first : (call : Call) → Near (ticked (update_begins x p now call))
      update_first call =
          let taken = sweep_begins now.named now.sweep now in
          let u = next_update now call in
          let next = first_fate now.free taken.sweep in
          acted x.store (record taken { stand = stand_at u next; course = course_from x.clock })
          (answers_after x p call (course_from x.clock) next) (begun_stand u next (begun now.free taken.sweep))
          (begun_sweep now.named now.sweep now kept.1 refl) near.holds

      call_first : (call : Call) → Near (ticked (call_begins x p now call))
      call_first (Lookup key) = look_first (OfKey key)
      call_first (Insert key value) = update_first (Insert key value)
      call_first (Remove key) = update_first (Remove key)
      call_first (Tally key amount) = update_first (Tally key amount)
      call_first (Count key value amount) = update_first (Count key value amount)
      call_first (Put key value) = update_first (Put key value)

      seat_goes : (stand : Stand) → now.stand ≡ stand → IsFlying stand → Near (ticked (goes_on plan x p now stand))
      seat_goes S.Idle e flies = absurd flies
      seat_goes (S.Goes u step) e flies = update_step u step e
      seat_goes (S.Glances aim glance) e flies = look_step aim glance e

      seat_acts : (what : What) → Fits plan now what → Near (ticked (act plan x p now what))
      seat_acts (Begin call) fits = call_first call
      seat_acts (Copy bucket) fits = look_first (OfBucket bucket)
      seat_acts Step_on fits = seat_goes now.stand refl fits

    -- ---- of a reader

    with_peek : (r : ℕ) (then : ReaderNow) (answers : List Answer) → NearPeeking then.stand →
        Near (ticked (with_reader x r then answers))
    with_peek r then answers k = record {
      seats = near.seats;
      holds = near.holds;
      readers = λ q. elim (either_put x.readers r then q) [
        | inl e ↦ subst (λ (s : ReaderNow). NearPeeking s.stand) (sym e.1) k
        | inr n ↦ subst (λ (s : ReaderNow). NearPeeking s.stand) (sym n.1) (near.readers q)
      ];
    }

    peek_stand : (now : ReaderNow) (aim : Aim) (next : GlanceFate) → IsAim plan aim → Then NearGlance next →
        Then IsTrying next → Then HasCome next → NearPeeking (peek_after now aim next).stand
    peek_stand now aim (Looks glance) a k t c = (a, k, t, c)
    peek_stand now aim (Shows items) a k t c = tt
    peek_stand now aim Disturbed a k t c = tt

    peek_facts : (aim : Aim) (glance : Glance) → IsAim plan aim → IsTrying glance →
        LookFacts 0 glance (found_by (glance_deed (ample plan) 0 0 aim glance) x.store)
    peek_facts aim (S.GlanceWord left) a t = in_word (bucket_of_aim (ample plan) aim) (aim_small aim a)
    peek_facts aim (S.GlanceCount source) a t = tt
    peek_facts aim (S.GlanceItem source scan) a t = tt
    peek_facts aim (S.GlanceCheck left word kept) a t = tt
    peek_facts aim S.GlanceWant a t = tt
    peek_facts aim S.GlanceAsking a t = tt
    peek_facts aim S.GlanceHeld a t = absurd t
    peek_facts aim (S.GlanceTake old) a t = absurd t

    reader_goes : (r : ℕ) (stand : Peeking) → (x.readers r).stand ≡ stand → IsPeeking stand →
        Near (ticked (peeks_on plan x r (x.readers r) stand))
    reader_goes r S.Rests e flies = absurd flies
    reader_goes r (S.Peeks aim glance) e flies =
        let deed = glance_deed (ample plan) 0 0 aim glance in
        let word = found_by deed x.store in
        let next = glance_fate (ample plan) 0 aim glance word in
        let k = subst NearPeeking e (near.readers r) in
        with_peek r (peek_after (x.readers r) aim next)
        (peek_answers (ample plan) x r aim (stepped (x.readers r).course) next)
        (peek_stand (x.readers r) aim next k.0 (near_look 0 aim glance word k.1 (peek_facts aim glance k.0 k.2))
        (try_look aim glance word k.2)
        (come next (look_left plan 0 some_seat glance) (looks plan 0 some_seat 0 aim glance word k.3)))

    reader_acts : (r : ℕ) (peek : Peek) → PeekFits plan (x.readers r) peek →
        Near (ticked (peek_acts plan x r (x.readers r) peek))
    reader_acts r (Open aim tries) fits =
        with_peek r (record { stand = S.Peeks aim (S.GlanceWord (tries - 1)); course = course_from x.clock }) x.answers
        (fits.1, tt, tt, tt)
    reader_acts r Peek_on fits = reader_goes r (x.readers r).stand refl fits

    pub near_keeps : (event : Event) → IsEvent plan x event → Near (happens plan x event)
    near_keeps (OfSeat p what) fits =
        subst (λ (b : Bool). Near (cond b (ticked (act plan x p (seat_in x p) what)) x))
        (sym (lt-ltb p plan.settings.seats fits.0)) (seat_acts p fits.0 what fits.1)
    near_keeps (OfReader r peek) fits = reader_acts r peek fits

  -- ---- runs

  hold_zero : (q : ℕ) → (opening_store plan).hold q ≡ 0
  unfolding opening_store
  hold_zero q = refl

  near_open : IsPlan plan → Near (opening_world plan)
  near_open is = record {
    seats = λ p less. subst (λ (s : SeatNow). NearStand s.stand × NearSweep s.sweep) (sym (seat_is plan is p less))
        (tt, tt);
    holds = λ q none some. absurd (some (hold_zero q));
    readers = λ r. tt;
  }

  pub record Nearly (x : Lasting) : Type 0 where
    pub pools : Pools plan x
    pub tied : Tied plan x
    pub near : Near x

  nearly_follow : IsPlan plan → (events : List Event) (x : Lasting) → Nearly x → AreEvents plan x events →
      Nearly (fold (happens plan) x events)
  nearly_follow is [] x h follow = h
  nearly_follow is (event ∷ events) x h follow =
      nearly_follow is events (happens plan x event) (record {
        pools = pools_keep plan is x h.pools event follow.0;
        tied = (ties_keep plan is x h.pools h.tied event follow.0).next;
        near = near_keeps x h.pools h.tied h.near event follow.0;
      }) follow.1

  -- THE RESULT
  pub nearly_hold : (events : List Event) → IsRun plan events → Nearly (world_after plan events)
  nearly_hold events run = nearly_follow run.opened events (opening_world plan) (record {
    pools = pools_open plan run.opened;
    tied = tied_open plan run.opened;
    near = near_open run.opened;
  }) run.follow
