-- What an event of a lasting table does: where its seat stands before and after it, and which answer it adds.
use Rattle.std.proofs.Common.{◌≡◌, ◌≢◌, ℕ, ◌+◌, ◌<◌, ◌≤◌, Bool, true, false, cond, List, [], ◌∷◌, ◌++◌, Option, Some, None, length, refl, sym, ap, ◌∙◌, subst, arith, inl, inr, get_or, append-nil, get_or-set_same, get_or-set_other, length-set, lt-ltb}
use Rattle.std.specs.Prelude.{◌==◌, ◌-◌, ◌⊎◌, ◌&&◌, not, nat_lt, All, fold, slice_index_or}
use Rattle.std.specs.List.{cons_option}
use Rattle.std.proofs.lemmas.Bool.{cases_eq, ne_eqb}
use Rattle.std.proofs.lemmas.List.Elements.{All-nil, All-cons, All-head, All-tail}
use Rattle.plain_map.specs.declared.calls.Call.{Call}
use Rattle.plain_map.specs.declared.calls.Call.TheVariants.{Insert, Remove, Lookup, Tally, Count, Put}
use Rattle.plain_map.specs.declared.calls.Reply.{Reply}
use Rattle.plain_map.specs.declared.keys.Pair.{Pair}
use Rattle.plain_map.specs.Calls.{is_update}
use Rattle.plain_map.specs.Updates.{IsUpdate}
use Rattle.step_counts.specs.declared.TheConstants.{ITEM_WORDS}
use Rattle.table_model.specs.Setup.{Setup}
use Rattle.table_model.specs.Goes.{more}
use Rattle.word_rows.specs.ReplyWords.{reply_of_word}
use Rattle.lasting_model.specs.Plans.{Plan, ample}
use Rattle.lasting_model.specs.Codes.{generation_in, count_in, pair_in}
use Rattle.lasting_model.specs.Words as W
use Rattle.lasting_model.specs.Steps as S
use Rattle.lasting_model.specs.Steps.{Step, Stand, Sweep, SeatNow, Update, Try, Course, Aim, OfKey, OfBucket, Source, Tried, HeldIn, Glance, Peeking, deed_of, glance_deed, sweep_deed, bucket_of_update}
use Rattle.lasting_model.specs.Goes.{SweepFate, SweepsOn, Swept, sweep_fate_of, swept, sweep_begins, Fate, On, Ends, Refuses, first_fate, ends_with, fate, own_after, with_published, GlanceFate, Looks, Shows, Disturbed, glance_fate, glance_lost, gone_through, scan_on, scan_of, scan_fate, scan_pair, passed, with_pair, may_be, is_aimed, time_after, Asked, Called, Copied, Told, Replied, Pairs, Again, Refused, asked_by_aim, told_by_items}
use Rattle.lasting_model.specs.Worlds.{Lasting, Answer, Asker, BySeat, ByReader, Event, OfSeat, OfReader, IsEvent, AreEvents, IsRun, opening_world, world_after, What, Begin, Copy, Step_on, Open, Peek_on, LOOK_TRIES, seat_in, with_seat, ticked, found_by, store_after, seat_after, answers_after, stepped, goes, glances, look_after, look_answers, stand_at, next_update, course_from, update_begins, look_begins, call_begins, goes_on, act, peeks_on, with_reader, peek_after, peek_answers, happens, nobody, IsFlying, CanBegin, Fits}
use Rattle.map_laws.specs.ByKey.{Made}
use Rattle.lasting_laws.specs.Orders.{is_by, answers_by, update_by, updates_by}
use Rattle.lasting_laws.proofs.Ordered.{shown_at}
use Rattle.lasting_laws.proofs.PoolSteps.{quiet_words, quiet_glance}
use Rattle.lasting_laws.proofs.Marks.{same_rows, glance_rows}

-- ---- how often a call may still ask

-- whether an update may still ask there, as a number
abbrev pub spare_step : Step → ℕ
spare_step S.HeldWord = 0
spare_step (S.TakeHold word) = 0
spare_step (S.HeldNumber row) = 0
spare_step (S.HeldReply row) = 0
spare_step S.Stuck = 0
spare_step step = 1

-- and a look by the row that it reads
abbrev pub spare_source : Source → ℕ
spare_source (Tried left word) = 1
spare_source (HeldIn row) = 0

-- and a look where it stands
abbrev pub spare_glance : Glance → ℕ
spare_glance (S.GlanceCount source) = spare_source source
spare_glance (S.GlanceItem source scan) = spare_source source
spare_glance S.GlanceHeld = 0
spare_glance (S.GlanceTake word) = 0
spare_glance glance = 1

-- and a seat
abbrev pub spare : Stand → ℕ
spare S.Idle = 0
spare (S.Goes u step) = spare_step step
spare (S.Glances aim glance) = spare_glance glance

-- ---- what an event does

-- an answer that is given now
abbrev pub answer_now : Lasting → Asker → Asked → Told → Course → Answer
answer_now x by asked told course = record {
  by = by;
  asked = asked;
  told = told;
  began = course.began;
  ended = x.clock + 1;
  steps = course.steps;
}

-- neither rows nor bucket words change
abbrev pub IsQuiet : Lasting → Lasting → Type 0
IsQuiet x y = (y.store.row ≡ x.store.row) × (y.store.bucket ≡ x.store.bucket)

-- a seat goes from here to there
pub data Passes (x y : Lasting) (p : ℕ) (now then : SeatNow) : Type 0 where
  LookBegins : (aim : Aim) (glance : Glance) → now.stand ≡ S.Idle → then.stand ≡ S.Glances aim glance → IsQuiet x y →
      then.answered ≡ now.answered → then.time ≡ now.time → y.answers ≡ x.answers → Passes x y p now then
  LookGoes : (aim : Aim) (glance next : Glance) → now.stand ≡ S.Glances aim glance →
      then.stand ≡ S.Glances aim next → IsQuiet x y → then.answered ≡ now.answered →
      then.time + spare_glance next ≤ now.time + spare_glance glance → y.answers ≡ x.answers → Passes x y p now then
  LookEnds : (aim : Aim) (glance : Glance) (told : Told) (course : Course) → now.stand ≡ S.Glances aim glance →
      then.stand ≡ S.Idle → IsQuiet x y → then.answered ≡ now.answered → then.time ≡ now.time →
      y.answers ≡ x.answers ++ answer_now x (BySeat p) (asked_by_aim aim) told course ∷ [] → Passes x y p now then
  UpdateBegins : (u : Update) (step : Step) → now.stand ≡ S.Idle → then.stand ≡ S.Goes u step → IsUpdate u.call →
      then.course.began ≡ x.clock → then.answered ≡ now.answered → then.time ≡ now.time → y.answers ≡ x.answers →
      Passes x y p now then
  UpdateGoes : (u : Update) (step next : Step) → now.stand ≡ S.Goes u step → then.stand ≡ S.Goes u next →
      then.course.began ≡ now.course.began → then.answered ≡ now.answered →
      then.time + spare_step next ≤ now.time + spare_step step → y.answers ≡ x.answers → Passes x y p now then
  UpdateEnds : (u : Update) (step : Step) (reply : Reply) (course : Course) → now.stand ≡ S.Goes u step →
      then.stand ≡ S.Idle → course.began ≡ now.course.began → then.answered ≡ now.answered + 1 →
      then.time ≤ now.time + spare_step step →
      y.answers ≡ x.answers ++ answer_now x (BySeat p) (Called u.call) (Replied reply) course ∷ [] →
      Passes x y p now then
  RefusedFirst : (call : Call) (course : Course) → now.stand ≡ S.Idle → then.stand ≡ S.Idle → IsUpdate call →
      then.answered ≡ now.answered → then.time ≡ now.time →
      y.answers ≡ x.answers ++ answer_now x (BySeat p) (Called call) Refused course ∷ [] → Passes x y p now then
  RefusedLater : (u : Update) (step : Step) (course : Course) → now.stand ≡ S.Goes u step → then.stand ≡ S.Idle →
      then.answered ≡ now.answered → then.time ≤ now.time + spare_step step →
      y.answers ≡ x.answers ++ answer_now x (BySeat p) (Called u.call) Refused course ∷ [] → Passes x y p now then

-- a reader has asked
abbrev pub IsReader : Asker → Type 0
IsReader (BySeat seat) = ⊥
IsReader (ByReader reader) = Unit {0}

-- an event is one of a seat, and the others stand as they did; or one of a reader
pub data Happens (plan : Plan) (x y : Lasting) : Type 0 where
  SeatPasses : (p : ℕ) → p < plan.settings.seats → ((q : ℕ) → q ≢ p → seat_in y q ≡ seat_in x q) →
      Passes x y p (seat_in x p) (seat_in y p) → Happens plan x y
  ReaderPeeks : (later : List Answer) → y.seats ≡ x.seats → IsQuiet x y → y.answers ≡ x.answers ++ later →
      All (λ (a : Answer). IsReader a.by) later → Happens plan x y

-- ---- askings

-- a call may ask once more at most
pub spare_small : (step : Step) → spare_step step ≤ 1
spare_small S.HeldWord = omega arith
spare_small (S.TakeHold word) = omega arith
spare_small (S.HeldNumber row) = omega arith
spare_small (S.HeldReply row) = omega arith
spare_small S.Stuck = omega arith
spare_small (S.Sweeps rows) = omega arith
spare_small (S.StoreOp i) = omega arith
spare_small S.Announce = omega arith
spare_small (S.LoadWord turn) = omega arith
spare_small (S.LoadRow turn word words) = omega arith
spare_small (S.CheckRow turn word words) = omega arith
spare_small (S.LoadAnnounced attempt found) = omega arith
spare_small (S.LoadOp attempt found announced words) = omega arith
spare_small (S.StoreRow attempt found i) = omega arith
spare_small (S.Exchange attempt found) = omega arith
spare_small S.StoreWant = omega arith
spare_small S.StoreAsking = omega arith

-- by where a step leads
abbrev spare_fate : Fate → ℕ
spare_fate (On step) = spare_step step
spare_fate (Ends reply) = 0
spare_fate Refuses = 0

fate_small : (next : Fate) → spare_fate next ≤ 1
fate_small (On step) = spare_small step
fate_small (Ends reply) = omega arith
fate_small Refuses = omega arith

-- whoever has a reply asks no more
ends_spare : (o : Option Reply) → spare_fate (ends_with o) ≡ 0
ends_spare None = refl
ends_spare (Some reply) = refl

-- nor does one whose number was found, or not
reply_spare : (b : Bool) (row : ℕ) → spare_step (cond b (S.HeldReply row) S.Stuck) ≡ 0
reply_spare true row = refl
reply_spare false row = refl

-- by where a step of a look leads
abbrev spare_look : GlanceFate → ℕ
spare_look (Looks glance) = spare_glance glance
spare_look (Shows items) = 0
spare_look Disturbed = 1

-- a look that has gone through its items may ask as before
passed_spare : (source : Source) (kept : List Pair) → spare_look (gone_through source kept) ≤ spare_source source
passed_spare (Tried left word) kept = omega arith
passed_spare (HeldIn row) kept = omega arith

-- so may one that goes on to the next item
scan_spare : (source : Source) (scan : S.Scan) → spare_look (scan_on source scan) ≤ spare_source source
scan_spare source scan = go (nat_lt scan.item scan.count)
  where
    go : (b : Bool) → spare_look (cond b (Looks (S.GlanceItem source scan)) (gone_through source scan.kept))
        ≤ spare_source source
    go true = omega arith
    go false = passed_spare source scan.kept

-- or has one word more of it
item_spare : (source : Source) (aim : Aim) (scan : S.Scan) (word : ℕ) →
    spare_look (scan_fate source aim scan word) ≤ spare_source source
item_spare source aim scan word =
    go ((length scan.part == 0) && not (may_be aim word)) (nat_lt (length scan.part + 1) ITEM_WORDS)
  where
    pair : Pair
    pair = pair_in (more scan.part word)

    whole : (b : Bool) → spare_look (cond b (gone_through source (more scan.kept pair))
        (scan_on source (with_pair scan pair))) ≤ spare_source source
    whole true = passed_spare source (more scan.kept pair)
    whole false = scan_spare source (with_pair scan pair)

    go : (a b : Bool) → spare_look (cond a (scan_on source (passed scan))
        (cond b (Looks (S.GlanceItem source (record scan { part = more scan.part word })))
        (scan_pair source aim scan pair))) ≤ spare_source source
    go true b = scan_spare source (passed scan)
    go false true = omega arith
    go false false = whole (is_aimed aim pair)

-- and a lost one
lost_spare : (left : ℕ) → spare_look (glance_lost left) ≤ 1
lost_spare left = go (nat_lt 0 left)
  where
    go : (b : Bool) → spare_look (cond b (Looks (S.GlanceWord (left - 1))) Disturbed) ≤ 1
    go true = omega arith
    go false = omega arith

-- a look may ask once more at most
pub glance_small : (glance : Glance) → spare_glance glance ≤ 1
glance_small (S.GlanceCount (Tried left word)) = omega arith
glance_small (S.GlanceCount (HeldIn row)) = omega arith
glance_small (S.GlanceItem (Tried left word) scan) = omega arith
glance_small (S.GlanceItem (HeldIn row) scan) = omega arith
glance_small (S.GlanceWord left) = omega arith
glance_small (S.GlanceCheck left word kept) = omega arith
glance_small S.GlanceWant = omega arith
glance_small S.GlanceAsking = omega arith
glance_small S.GlanceHeld = omega arith
glance_small (S.GlanceTake word) = omega arith

-- the time then, where it goes on
abbrev time_by : (time : ℕ) → Glance → GlanceFate → ℕ
time_by time glance (Looks next) = time_after time glance
time_by time glance (Shows items) = time
time_by time glance Disturbed = time

-- where the time stays
spends : (time : ℕ) (glance : Glance) (next : GlanceFate) (most : ℕ) →
    ((g : Glance) → time_after time glance ≡ time) → spare_look next ≤ most →
    time_by time glance next + spare_look next ≤ time + most
spends time glance (Looks g) most same small = (let e = same g in omega (arith, e, small))
spends time glance (Shows items) most same small = omega (arith, small)
spends time glance Disturbed most same small = omega (arith, small)

-- a step of a look uses up what it asks
look_spends : (setup : Setup) (time : ℕ) (aim : Aim) (glance : Glance) (word : ℕ) →
    time_by time glance (glance_fate setup time aim glance word)
    + spare_look (glance_fate setup time aim glance word) ≤ time + spare_glance glance
look_spends setup time aim (S.GlanceWord left) word = omega arith
look_spends setup time aim (S.GlanceCount source) word = spends time (S.GlanceCount source)
    (scan_on source (scan_of (count_in setup word))) (spare_source source) (λ next. refl)
    (scan_spare source (scan_of (count_in setup word)))
look_spends setup time aim (S.GlanceItem source scan) word = spends time (S.GlanceItem source scan)
    (scan_fate source aim scan word) (spare_source source) (λ next. refl) (item_spare source aim scan word)
look_spends setup time aim (S.GlanceCheck left old kept) word = go (word == generation_in old)
  where
    go : (b : Bool) → time_by time (S.GlanceCheck left old kept) (cond b (Shows kept) (glance_lost left))
        + spare_look (cond b (Shows kept) (glance_lost left)) ≤ time + 1
    go true = omega arith
    go false = spends time (S.GlanceCheck left old kept) (glance_lost left) 1 (λ next. refl) (lost_spare left)
look_spends setup time aim S.GlanceWant word = omega arith
look_spends setup time aim S.GlanceAsking word = omega arith
look_spends setup time aim S.GlanceHeld word = omega arith
look_spends setup time aim (S.GlanceTake old) word = omega arith

-- an update that begins is not answered at once
abbrev IsFirst : Fate → Type 0
IsFirst (On step) = Unit {0}
IsFirst (Ends reply) = ⊥
IsFirst Refuses = Unit {0}

-- ---- a seat

module _ (plan : Plan) (x : Lasting) (p : ℕ) (inside : p < length x.seats) where
  -- the seat before the event
  abbrev now : SeatNow
  now = seat_in x p

  -- what an event of the seat comes to
  abbrev Comes : Lasting → Type 0
  Comes y = ((q : ℕ) → q ≢ p → seat_in y q ≡ seat_in x q) × Passes x y p now (seat_in y p)
      × (length y.seats ≡ length x.seats)

  -- by where the seat stands then
  comes : (store : W.Store) (then : SeatNow) (answers : List Answer) →
      Passes x (ticked (with_seat x p store then answers)) p now then →
      Comes (ticked (with_seat x p store then answers))
  comes store then answers passes = (
    (λ q n. get_or-set_other x.seats p q then nobody n),
    subst (Passes x (ticked (with_seat x p store then answers)) p now)
        (sym (get_or-set_same x.seats p then nobody inside)) passes,
    length-set x.seats p then,
  )

  -- ---- an update

  module _ (u : Update) (step : Step) (stood : now.stand ≡ S.Goes u step) where
    -- the word that the step finds
    abbrev word : ℕ
    word = found_by (deed_of (ample plan) p now u step) x.store

    -- by what the step leaves of the seat and where it leads
    goes_by : (own : SeatNow) (next : Fate) → own.answered ≡ now.answered → own.course ≡ now.course →
        own.time + spare_fate next ≤ now.time + spare_step step →
        Comes (ticked (with_seat x p (store_after (deed_of (ample plan) p now u step) x.store)
        (seat_after own u next) (answers_after x p u.call (stepped now.course) next)))
    goes_by own (On next) a c t = comes (store_after (deed_of (ample plan) p now u step) x.store)
        (seat_after own u (On next)) x.answers
        (UpdateGoes u step next stood refl (ap (λ (k : Course). k.began) c) a t refl)
    goes_by own (Ends reply) a c t = comes (store_after (deed_of (ample plan) p now u step) x.store)
        (seat_after own u (Ends reply)) (answers_after x p u.call (stepped now.course) (Ends reply))
        (UpdateEnds u step reply (stepped now.course) stood refl refl (ap (λ k. k + 1) a) (omega (arith, t)) refl)
    goes_by own Refuses a c t = comes (store_after (deed_of (ample plan) p now u step) x.store)
        (seat_after own u Refuses) (answers_after x p u.call (stepped now.course) Refuses)
        (RefusedLater u step (stepped now.course) stood refl a (omega (arith, t)) refl)

  -- what a step leaves of the seat
  record Own (s : SeatNow) : Type 0 where
    pub answered : s.answered ≡ now.answered
    pub course : s.course ≡ now.course
    pub time : s.time ≡ now.time

  -- a piece of a sweep leaves all but the rows
  own_swept : (f : SweepFate) → Own (swept now f)
  own_swept (SweepsOn kept sweep) = record { answered = refl; course = refl; time = refl }
  own_swept (Swept kept gone) = record { answered = refl; course = refl; time = refl }

  -- so does an exchange
  own_published : (b : Bool) (bucket : ℕ) → Own (cond b (with_published now bucket) now)
  own_published true bucket = record { answered = refl; course = refl; time = refl }
  own_published false bucket = record { answered = refl; course = refl; time = refl }

  -- a step of an update
  step_comes : (u : Update) (step : Step) → now.stand ≡ S.Goes u step → Comes (ticked (goes plan x p now u step))
  step_comes u step stood = by step stood
    where
      next : (s : Step) → Fate
      next s = fate (ample plan) p now u s (found_by (deed_of (ample plan) p now u s) x.store)

      -- it may ask before and after
      early : (s : Step) → now.stand ≡ S.Goes u s → spare_step s ≡ 1 → Own (own_after (ample plan) p now u s
          (found_by (deed_of (ample plan) p now u s) x.store)) → Comes (ticked (goes plan x p now u s))
      early s at one own = goes_by u s at (own_after (ample plan) p now u s
          (found_by (deed_of (ample plan) p now u s) x.store)) (next s) own.answered own.course
          (let small = fate_small (next s) in let t = own.time in omega (arith, small, t, one))

      same : Own now
      same = record { answered = refl; course = refl; time = refl }

      by : (s : Step) → now.stand ≡ S.Goes u s → Comes (ticked (goes plan x p now u s))
      by (S.Sweeps rows) at = early (S.Sweeps rows) at refl
          (own_swept (sweep_fate_of (ample plan) p now.sweep (found_by (sweep_deed now.sweep) x.store)))
      by (S.Exchange t found) at = early (S.Exchange t found) at refl
          (own_published (x.store.bucket (bucket_of_update (ample plan) u) == t.word)
          (bucket_of_update (ample plan) u))
      by (S.StoreOp i) at = early (S.StoreOp i) at refl same
      by S.Announce at = early S.Announce at refl same
      by (S.LoadWord turn) at = early (S.LoadWord turn) at refl same
      by (S.LoadRow turn word words) at = early (S.LoadRow turn word words) at refl same
      by (S.CheckRow turn word words) at = early (S.CheckRow turn word words) at refl same
      by (S.LoadAnnounced t found) at = early (S.LoadAnnounced t found) at refl same
      by (S.LoadOp t found announced words) at = early (S.LoadOp t found announced words) at refl same
      by (S.StoreRow t found i) at = early (S.StoreRow t found i) at refl same
      by S.StoreWant at = early S.StoreWant at refl same
      by S.StoreAsking at = goes_by u S.StoreAsking at (record now { time = now.time + 1 }) (On S.HeldWord) refl refl
          (omega arith)
      by S.HeldWord at = goes_by u S.HeldWord at now (next S.HeldWord) refl refl (omega arith)
      by (S.TakeHold old) at = goes_by u (S.TakeHold old) at now (next (S.TakeHold old)) refl refl (omega arith)
      by (S.HeldNumber row) at = goes_by u (S.HeldNumber row) at now (next (S.HeldNumber row)) refl refl
          (let found = found_by (deed_of (ample plan) p now u (S.HeldNumber row)) x.store in
          let none = reply_spare (found == u.number) row in omega (arith, none))
      by (S.HeldReply row) at = goes_by u (S.HeldReply row) at now (next (S.HeldReply row)) refl refl
          (let none = ends_spare (reply_of_word (found_by (deed_of (ample plan) p now u (S.HeldReply row)) x.store)) in
          omega (arith, none))
      by S.Stuck at = goes_by u S.Stuck at now (next S.Stuck) refl refl (omega arith)

  -- ---- a look

  module _ (aim : Aim) (glance : Glance) (stood : now.stand ≡ S.Glances aim glance) where
    abbrev store : W.Store
    store = store_after (glance_deed (ample plan) p now.time aim glance) x.store

    -- by where the step leads
    look_by : (next : GlanceFate) → time_by now.time glance next + spare_look next ≤ now.time + spare_glance glance →
        Comes (ticked (with_seat x p store (look_after now aim glance next)
        (look_answers (ample plan) x p aim (stepped now.course) next)))
    look_by next spent = go next spent
      where
        quiet : (store.row ≡ x.store.row) × (store.bucket ≡ x.store.bucket)
        quiet =
            let deed = glance_deed (ample plan) p now.time aim glance in (
              same_rows deed x.store (glance_rows (ample plan) p now.time aim glance),
              quiet_words deed x.store (quiet_glance (ample plan) p now.time aim glance),
            )

        go : (next : GlanceFate) →
            time_by now.time glance next + spare_look next ≤ now.time + spare_glance glance →
            Comes (ticked (with_seat x p store (look_after now aim glance next)
            (look_answers (ample plan) x p aim (stepped now.course) next)))
        go (Looks g) t = comes store (look_after now aim glance (Looks g)) x.answers
            (LookGoes aim glance g stood refl quiet refl t refl)
        go (Shows items) t = comes store (look_after now aim glance (Shows items))
            (look_answers (ample plan) x p aim (stepped now.course) (Shows items))
            (LookEnds aim glance (told_by_items (ample plan) aim items) (stepped now.course) stood refl quiet refl refl
            refl)
        go Disturbed t = comes store (look_after now aim glance Disturbed) x.answers
            (LookGoes aim glance S.GlanceWant stood refl quiet refl t refl)

    -- a step of a look
    look_comes : Comes (ticked (glances plan x p now aim glance))
    look_comes =
        let word = found_by (glance_deed (ample plan) p now.time aim glance) x.store in
        look_by (glance_fate (ample plan) now.time aim glance word)
        (look_spends (ample plan) now.time aim glance word)

  -- ---- begins

  -- a look begins
  look_first : (aim : Aim) → now.stand ≡ S.Idle → Comes (ticked (look_begins x p now aim))
  look_first aim idle = comes x.store
      (record now { stand = S.Glances aim (S.GlanceWord (LOOK_TRIES - 1)); course = course_from x.clock }) x.answers
      (LookBegins aim (S.GlanceWord (LOOK_TRIES - 1)) idle refl (refl, refl) refl refl refl)

  -- an update begins with a sweep or without
  begun_own : (named : List (ℕ × ℕ)) (sweep : Option Sweep) → Own (sweep_begins named sweep now)
  begun_own named (Some sweep) = record { answered = refl; course = refl; time = refl }
  begun_own [] None = record { answered = refl; course = refl; time = refl }
  begun_own (row ∷ named) None = record { answered = refl; course = refl; time = refl }

  -- and is not answered at once
  first_goes : (free : List ℕ) (sweep : Option Sweep) → IsFirst (first_fate free sweep)
  first_goes free (Some sweep) = tt
  first_goes [] None = tt
  first_goes (row ∷ free) None = tt

  -- an update begins
  update_first : (call : Call) → now.stand ≡ S.Idle → IsUpdate call → Comes (ticked (update_begins x p now call))
  update_first call idle update =
      let taken = sweep_begins now.named now.sweep now in
      go (first_fate now.free taken.sweep) (first_goes now.free taken.sweep)
    where
      taken : SeatNow
      taken = sweep_begins now.named now.sweep now

      own : Own taken
      own = begun_own now.named now.sweep

      then : Fate → SeatNow
      then next = record taken { stand = stand_at (next_update now call) next; course = course_from x.clock }

      go : (next : Fate) → IsFirst next → Comes (ticked (with_seat x p x.store (then next)
          (answers_after x p call (course_from x.clock) next)))
      go (On step) first = comes x.store (then (On step)) x.answers
          (UpdateBegins (next_update now call) step idle refl update refl own.answered own.time refl)
      go (Ends reply) first = absurd first
      go Refuses first = comes x.store (then Refuses) (answers_after x p call (course_from x.clock) Refuses)
          (RefusedFirst call (course_from x.clock) idle refl update own.answered own.time refl)

  -- a call begins
  call_first : (call : Call) → now.stand ≡ S.Idle → CanBegin now call → Comes (ticked (call_begins x p now call))
  call_first (Lookup key) idle can = look_first (OfKey key) idle
  call_first (Insert key value) idle can = update_first (Insert key value) idle can.0
  call_first (Remove key) idle can = update_first (Remove key) idle can.0
  call_first (Tally key amount) idle can = update_first (Tally key amount) idle can.0
  call_first (Count key value amount) idle can = update_first (Count key value amount) idle can.0
  call_first (Put key value) idle can = update_first (Put key value) idle can.0

  -- a call goes on
  seat_goes : (stand : Stand) → now.stand ≡ stand → IsFlying stand → Comes (ticked (goes_on plan x p now stand))
  seat_goes S.Idle stood flies = absurd flies
  seat_goes (S.Goes u step) stood flies = step_comes u step stood
  seat_goes (S.Glances aim glance) stood flies = look_comes aim glance stood

  -- any event of the seat
  seat_acts : (what : What) → Fits plan now what → Comes (ticked (act plan x p now what))
  seat_acts (Begin call) fits = call_first call fits.0 fits.1
  seat_acts (Copy bucket) fits = look_first (OfBucket bucket) fits.0
  seat_acts Step_on fits = seat_goes now.stand refl fits

-- ---- a reader

-- what an event leaves
abbrev Leaves : Plan → Lasting → Lasting → Type 0
Leaves plan x y = Happens plan x y × (length y.seats ≡ length x.seats)

-- no answer is one of readers alone
no_answer : All (λ (a : Answer). IsReader a.by) []
no_answer = All-nil (λ (a : Answer). IsReader a.by)

-- and so is one of a reader
one_answer : (a : Answer) → IsReader a.by → All (λ (a : Answer). IsReader a.by) (a ∷ [])
one_answer a is = All-cons (λ (a : Answer). IsReader a.by) a [] is no_answer

-- no answer more
none_later : (x : Lasting) → x.answers ≡ x.answers ++ []
none_later x = sym (append-nil x.answers)

-- a step of a reader
peeks_comes : (plan : Plan) (x : Lasting) (r : ℕ) (stand : Peeking) →
    Leaves plan x (ticked (peeks_on plan x r (x.readers r) stand))
peeks_comes plan x r S.Rests = (ReaderPeeks [] refl (refl, refl) (none_later x) no_answer, refl)
peeks_comes plan x r (S.Peeks aim glance) =
    go (glance_fate (ample plan) 0 aim glance (found_by (glance_deed (ample plan) 0 0 aim glance) x.store))
  where
    course : Course
    course = stepped (x.readers r).course

    go : (next : GlanceFate) → Leaves plan x (ticked (with_reader x r (peek_after (x.readers r) aim next)
        (peek_answers (ample plan) x r aim course next)))
    go (Looks g) = (ReaderPeeks [] refl (refl, refl) (none_later x) no_answer, refl)
    go (Shows items) =
        let a = answer_now x (ByReader r) (asked_by_aim aim) (told_by_items (ample plan) aim items) course in
        (ReaderPeeks (a ∷ []) refl (refl, refl) refl (one_answer a tt), refl)
    go Disturbed =
        let a = answer_now x (ByReader r) (asked_by_aim aim) Again course in
        (ReaderPeeks (a ∷ []) refl (refl, refl) refl (one_answer a tt), refl)

-- ---- THE RESULT

-- an event is one of a seat or of a reader
pub event_happens : (plan : Plan) (x : Lasting) → length x.seats ≡ plan.settings.seats → (event : Event) →
    IsEvent plan x event → Leaves plan x (happens plan x event)
event_happens plan x long (OfSeat p what) fits =
    subst (λ (b : Bool). Leaves plan x (cond b (ticked (act plan x p (seat_in x p) what)) x))
    (sym (lt-ltb p plan.settings.seats fits.0))
    (let inside : p < length x.seats = (let less = fits.0 in omega (arith, less, long)) in
    let c = seat_acts plan x p inside what fits.1 in (SeatPasses p fits.0 c.0 c.1, c.2))
event_happens plan x long (OfReader r (Open aim tries)) fits =
    (ReaderPeeks [] refl (refl, refl) (none_later x) no_answer, refl)
event_happens plan x long (OfReader r Peek_on) fits = peeks_comes plan x r (x.readers r).stand

-- ---- runs

-- what each event keeps holds after all of them
pub run_on : (plan : Plan) (P : Lasting → Type 0) → ((x y : Lasting) → P x → Happens plan x y → P y) →
    (events : List Event) (x : Lasting) → length x.seats ≡ plan.settings.seats → AreEvents plan x events → P x →
    P (fold (happens plan) x events)
run_on plan P keep [] x long follow holds = holds
run_on plan P keep (event ∷ events) x long follow holds =
    let one = event_happens plan x long event follow.0 in
    run_on plan P keep events (happens plan x event) (one.1 ∙ long) follow.1 (keep x (happens plan x event) holds one.0)

-- events in two parts
pub happens_both : (plan : Plan) (x : Lasting) (events later : List Event) →
    fold (happens plan) x (events ++ later) ≡ fold (happens plan) (fold (happens plan) x events) later
happens_both plan x [] later = refl
happens_both plan x (event ∷ events) later = happens_both plan (happens plan x event) events later

-- the first events may come
pub follow_first : (plan : Plan) (x : Lasting) (events later : List Event) → AreEvents plan x (events ++ later) →
    AreEvents plan x events
follow_first plan x [] later follow = tt
follow_first plan x (event ∷ events) later follow =
    (follow.0, follow_first plan (happens plan x event) events later follow.1)

-- and then the others
pub follow_then : (plan : Plan) (x : Lasting) (events later : List Event) → AreEvents plan x (events ++ later) →
    AreEvents plan (fold (happens plan) x events) later
follow_then plan x [] later follow = follow
follow_then plan x (event ∷ events) later follow =
    follow_then plan (happens plan x event) events later follow.1

-- so the first part of a run is a run
pub run_first : (plan : Plan) (events later : List Event) → IsRun plan (events ++ later) → IsRun plan events
run_first plan events later run =
    record { opened = run.opened; follow = follow_first plan (opening_world plan) events later run.follow }

-- what each event keeps from a moment on
pub run_from : (plan : Plan) (P : Lasting → Type 0) → ((x y : Lasting) → P x → Happens plan x y → P y) →
    (front back : List Event) → IsRun plan (front ++ back) → P (world_after plan front) →
    P (world_after plan (front ++ back))
run_from plan P keep front back run holds =
    subst P (sym (happens_both plan (opening_world plan) front back))
    (run_on plan P keep back (world_after plan front)
    (shown_at plan front (run_first plan front back run)).pools.long
    (follow_then plan (opening_world plan) front back run.follow) holds)

-- ---- one seat

-- answers of others
none_by : (p : ℕ) (by : Asker) (asked : Asked) (told : Told) → is_by p by ≡ false →
    update_by p by asked told ≡ None
none_by p (BySeat q) (Called call) (Replied reply) e =
    ap (λ (b : Bool). cond (b && is_update call) (Some (call, reply)) None) e
none_by p (BySeat q) (Called call) (Pairs pairs) e = refl
none_by p (BySeat q) (Called call) Again e = refl
none_by p (BySeat q) (Called call) Refused e = refl
none_by p (BySeat q) (Copied bucket) told e = refl
none_by p (ByReader r) asked told e = refl

-- answers of others are none of the seat
all_none : (p : ℕ) (more : List Answer) → All (λ (a : Answer). is_by p a.by ≡ false) more →
    (answers_by p more ≡ []) × (updates_by p more ≡ [])
all_none p [] all = (refl, refl)
all_none p (a ∷ more) all =
    let P : Answer → Type 0 = λ (a : Answer). is_by p a.by ≡ false in
    let rest = all_none p more (All-tail P a more all) in
    let not_its : is_by p a.by ≡ false = All-head P a more all in (
      ap (λ (b : Bool). cond b (a ∷ answers_by p more) (answers_by p more)) not_its ∙ rest.0,
      ap (λ (o : Option Made). cons_option o (updates_by p more)) (none_by p a.by a.asked a.told not_its) ∙ rest.1,
    )

-- what an event of others leaves to a seat
pub record PassesBy (x y : Lasting) (p : ℕ) : Type 0 where
  pub seat : seat_in y p ≡ seat_in x p
  pub more : List Answer
  pub answers : y.answers ≡ x.answers ++ more
  pub none : answers_by p more ≡ []
  pub no_update : updates_by p more ≡ []

-- the answers of a seat's event are its own
record Adds (x y : Lasting) (q : ℕ) : Type 0 where
  pub more : List Answer
  pub answers : y.answers ≡ x.answers ++ more
  pub own : All (λ (a : Answer). a.by ≡ BySeat q) more

-- no answer
adds_none : (x y : Lasting) (q : ℕ) → y.answers ≡ x.answers → Adds x y q
adds_none x y q e = record {
  more = [];
  answers = e ∙ sym (append-nil x.answers);
  own = All-nil (λ (a : Answer). a.by ≡ BySeat q);
}

-- one answer
adds_one : (x y : Lasting) (q : ℕ) (asked : Asked) (told : Told) (course : Course) →
    y.answers ≡ x.answers ++ answer_now x (BySeat q) asked told course ∷ [] → Adds x y q
adds_one x y q asked told course e = record {
  more = answer_now x (BySeat q) asked told course ∷ [];
  answers = e;
  own = All-cons (λ (a : Answer). a.by ≡ BySeat q) (answer_now x (BySeat q) asked told course) [] refl
      (All-nil (λ (a : Answer). a.by ≡ BySeat q));
}

-- an event of a seat adds none or one
adds : (x y : Lasting) (q : ℕ) (was_now is_now : SeatNow) → Passes x y q was_now is_now → Adds x y q
adds x y q was_now is_now (LookBegins aim glance was is quiet a t e) = adds_none x y q e
adds x y q was_now is_now (LookGoes aim glance next was is quiet a t e) = adds_none x y q e
adds x y q was_now is_now (LookEnds aim glance told course was is quiet a t e) =
    adds_one x y q (asked_by_aim aim) told course e
adds x y q was_now is_now (UpdateBegins u step was is update began a t e) = adds_none x y q e
adds x y q was_now is_now (UpdateGoes u step next was is began a t e) = adds_none x y q e
adds x y q was_now is_now (UpdateEnds u step reply course was is began a t e) =
    adds_one x y q (Called u.call) (Replied reply) course e
adds x y q was_now is_now (RefusedFirst call course was is update a t e) = adds_one x y q (Called call) Refused course e
adds x y q was_now is_now (RefusedLater u step course was is a t e) = adds_one x y q (Called u.call) Refused course e

-- the answers that an event adds
pub adds_some : (plan : Plan) (x y : Lasting) → Happens plan x y →
    (more : List Answer) × (y.answers ≡ x.answers ++ more)
adds_some plan x y (ReaderPeeks more same quiet e readers) = (more, e)
adds_some plan x y (SeatPasses p inside others passes) =
    let added = adds x y p (seat_in x p) (seat_in y p) passes in (added.more, added.answers)

-- a reader is no seat
reader_none : (p : ℕ) (by : Asker) → IsReader by → is_by p by ≡ false
reader_none p (BySeat q) r = absurd r
reader_none p (ByReader reader) r = refl

-- an event is one of the seat, or leaves it as it is
pub of_seat : (plan : Plan) (x y : Lasting) → Happens plan x y → (p : ℕ) →
    Passes x y p (seat_in x p) (seat_in y p) ⊎ PassesBy x y p
of_seat plan x y (ReaderPeeks later same quiet answers readers) p =
    let none = all_none p later (λ i d h. reader_none p (get_or later i d).by (readers i d h)) in
    inr (record {
      seat = ap (λ (seats : List SeatNow). slice_index_or seats p nobody) same;
      more = later;
      answers = answers;
      none = none.0;
      no_update = none.1;
    })
of_seat plan x y (SeatPasses q inside others passes) p = elim (cases_eq p q) [
  | inl e ↦ inl (subst (λ k. Passes x y k (seat_in x k) (seat_in y k)) (sym e) passes)
  | inr n ↦ inr (
      let added = adds x y q (seat_in x q) (seat_in y q) passes in
      let none = all_none p added.more (λ i d h. ap (is_by p) (added.own i d h)
      ∙ ne_eqb q p (λ e. n (sym e))) in
      record {
        seat = others p n;
        more = added.more;
        answers = added.answers;
        none = none.0;
        no_update = none.1;
      })
]
