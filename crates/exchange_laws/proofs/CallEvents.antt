-- What an event does: where its seat stands before and after it, and which answer it adds.
use Rattle.std.proofs.Common.{◌≡◌, ◌≢◌, ℕ, ◌+◌, ◌<◌, ◌≤◌, Bool, true, false, cond, List, [], ◌∷◌, ◌++◌, Option, Some, None, length, refl, sym, ap, ◌∙◌, subst, arith, inl, inr, append-nil, get_or-set_same, get_or-set_other, length-set, lt-ltb}
use Rattle.std.specs.Prelude.{◌==◌, ◌-◌, ◌⊎◌, ◌&&◌, not, nat_lt, All, fold}
use Rattle.std.proofs.lemmas.List.Elements.{All-nil, All-cons}
use Rattle.plain_map.specs.declared.calls.Call.{Call}
use Rattle.plain_map.specs.declared.calls.Call.TheVariants.{Insert, Remove, Lookup, Tally, Count, Put}
use Rattle.plain_map.specs.declared.calls.Reply.{Reply}
use Rattle.plain_map.specs.declared.keys.Pair.{Pair}
use Rattle.plain_map.specs.Updates.{IsUpdate}
use Rattle.step_counts.specs.declared.TheConstants.{ITEM_WORDS}
use Rattle.word_rows.specs.ReplyWords.{reply_of_word}
use Rattle.exchange_model.specs.Plans.{Plan, holders_of, more}
use Rattle.exchange_model.specs.Codes.{ENTRY_WORDS, row_in, count_in, entries_in, entries_start, pair_in}
use Rattle.exchange_model.specs.Words as W
use Rattle.exchange_model.specs.Words.{with_word}
use Rattle.exchange_model.specs.Steps as S
use Rattle.exchange_model.specs.Steps.{MadeBySeat, Step, Stand, Scan, SeatNow, Try, Found, Ending, Course, Aim, OfKey, OfBucket, Source, Tried, HeldIn, Glance, Peeking, deed_of, glance_deed, bucket_of_call, made, next_tag}
use Rattle.exchange_model.specs.Goes.{ScanFate, ScansOn, Scanned, scan_fate_of, scanned, scan_begins, seats_from, Fate, On, Ends, Spends, Refuses, first_fate, ends_with, gives_back, ended, next_entry, entry_word, is_announced, lost, reply_for, fate, exchanged, own_after, GlanceFate, Looks, Shows, Disturbed, glance_fate, glance_lost, gone_through, pass_on, pass_of, pass_fate, pass_pair, passed, with_pair, may_be, is_aimed, time_after, Asked, Called, Told, Replied, Again, Spent, Refused, asked_by_aim, told_by_items}
use Rattle.exchange_model.specs.Worlds.{World, Answer, Asker, BySeat, ByReader, Event, OfSeat, OfReader, IsEvent, AreEvents, IsRun, opening_world, world_after, What, Begin, Copy, Step_on, Open, Peek_on, LOOK_TRIES, seat_in, with_seat, ticked, found_by, store_after, seat_after, answers_after, stepped, goes, glances, look_after, look_answers, stand_at, course_from, update_begins, look_begins, call_begins, goes_on, act, peeks_on, with_reader, peek_after, peek_answers, happens, nobody, IsFlying, CanBegin, Fits}
use Rattle.exchange_laws.proofs.OwnedSteps.{IsStill, quiet_words, quiet_step, quiet_glance}
use Rattle.exchange_laws.proofs.OwnedRuns.{owned_holds, after_both, front_follows, back_follows}

-- ---- how often a call may still ask

-- whether an update may still ask there, as a number
abbrev pub spare_step : Step → ℕ
spare_step S.HeldWord = 0
spare_step (S.TakeHold word) = 0
spare_step (S.HeldHead row) = 0
spare_step (S.HeldEntry row at left) = 0
spare_step (S.HeldReply row at) = 0
spare_step (S.GiveBack reply) = 0
spare_step (S.Over ending) = 0
spare_step (S.LowerPending ending) = 0
spare_step S.Stuck = 0
spare_step step = 1

-- and a look by the row that it reads
abbrev pub spare_source : Source → ℕ
spare_source (Tried left word) = 1
spare_source (HeldIn row) = 0

-- and a look where it stands
abbrev pub spare_glance : Glance → ℕ
spare_glance (S.GlanceCount source) = spare_source source
spare_glance (S.GlanceItem source pass) = spare_source source
spare_glance S.GlanceHeld = 0
spare_glance (S.GlanceTake word) = 0
spare_glance (S.GlanceBack kept) = 0
spare_glance glance = 1

-- and a seat
abbrev pub spare : Stand → ℕ
spare S.Idle = 0
spare (S.Goes call step) = spare_step step
spare (S.Glances aim glance) = spare_glance glance

-- ---- what an event does

-- an answer that is given now
abbrev pub answer_now : World → Asker → Asked → Told → Course → Answer
answer_now x by asked told course = record {
  by = by;
  asked = asked;
  told = told;
  began = course.began;
  ended = x.clock + 1;
  steps = course.steps;
}

-- no bucket word is another one then
abbrev pub SameBuckets : World → World → Type 0
SameBuckets x y = y.store.bucket ≡ x.store.bucket

-- an update that was applied, and is not answered yet; or there is no further step
abbrev pub IsApplied : Step → Type 0
IsApplied (S.Over (S.Applied reply)) = Unit {0}
IsApplied (S.LowerPending (S.Applied reply)) = Unit {0}
IsApplied S.Stuck = Unit {0}
IsApplied step = ⊥

-- an update was not made
abbrev pub IsFailure : Told → Type 0
IsFailure Spent = Unit {0}
IsFailure Refused = Unit {0}
IsFailure told = ⊥

-- a seat goes from here to there
pub data Passes (x y : World) (p : ℕ) (now then : SeatNow) : Type 0 where
  LookBegins : (aim : Aim) (glance : Glance) → now.stand ≡ S.Idle → then.stand ≡ S.Glances aim glance →
      then.course.began ≡ x.clock → SameBuckets x y → then.answered ≡ now.answered → then.time ≡ now.time →
      y.answers ≡ x.answers → Passes x y p now then
  LookGoes : (aim : Aim) (glance next : Glance) → now.stand ≡ S.Glances aim glance →
      then.stand ≡ S.Glances aim next → then.course.began ≡ now.course.began → SameBuckets x y →
      then.answered ≡ now.answered → then.time + spare_glance next ≤ now.time + spare_glance glance →
      y.answers ≡ x.answers → Passes x y p now then
  LookEnds : (aim : Aim) (glance : Glance) (told : Told) (course : Course) → now.stand ≡ S.Glances aim glance →
      then.stand ≡ S.Idle → course.began ≡ now.course.began → SameBuckets x y → then.answered ≡ now.answered →
      then.time ≡ now.time →
      y.answers ≡ x.answers ++ answer_now x (BySeat p) (asked_by_aim aim) told course ∷ [] → Passes x y p now then
  UpdateBegins : (call : Call) (step : Step) → now.stand ≡ S.Idle → then.stand ≡ S.Goes call step → IsUpdate call →
      then.course.began ≡ x.clock → SameBuckets x y → then.answered ≡ now.answered → then.time ≡ now.time →
      y.answers ≡ x.answers → Passes x y p now then
  UpdateGoes : (call : Call) (step next : Step) → now.stand ≡ S.Goes call step → then.stand ≡ S.Goes call next →
      then.course.began ≡ now.course.began → SameBuckets x y ⊎ IsApplied next → (IsApplied step → IsApplied next) →
      then.answered ≡ now.answered → then.time + spare_step next ≤ now.time + spare_step step →
      y.answers ≡ x.answers → Passes x y p now then
  UpdateEnds : (call : Call) (step : Step) (reply : Reply) (course : Course) → now.stand ≡ S.Goes call step →
      then.stand ≡ S.Idle → course.began ≡ now.course.began → then.answered ≡ now.answered + 1 →
      then.time ≤ now.time + spare_step step →
      y.answers ≡ x.answers ++ answer_now x (BySeat p) (Called call) (Replied reply) course ∷ [] →
      Passes x y p now then
  FailsFirst : (call : Call) (told : Told) (course : Course) → now.stand ≡ S.Idle → then.stand ≡ S.Idle →
      IsUpdate call → course.began ≡ x.clock → IsFailure told → SameBuckets x y → then.answered ≡ now.answered →
      then.time ≡ now.time → y.answers ≡ x.answers ++ answer_now x (BySeat p) (Called call) told course ∷ [] →
      Passes x y p now then
  FailsLater : (call : Call) (step : Step) (told : Told) (course : Course) → now.stand ≡ S.Goes call step →
      then.stand ≡ S.Idle → course.began ≡ now.course.began → IsFailure told → SameBuckets x y →
      (IsApplied step → ⊥) → then.answered ≡ now.answered → then.time ≤ now.time + spare_step step →
      y.answers ≡ x.answers ++ answer_now x (BySeat p) (Called call) told course ∷ [] → Passes x y p now then

-- a reader has asked
abbrev pub IsReader : Asker → Type 0
IsReader (BySeat seat) = ⊥
IsReader (ByReader reader) = Unit {0}

-- an update is under way
abbrev pub IsGoing : Stand → Type 0
IsGoing S.Idle = ⊥
IsGoing (S.Goes call step) = Unit {0}
IsGoing (S.Glances aim glance) = ⊥

-- an event is one of a seat, or of a reader that can hold, and the others stand as they did; or one of another reader
pub data Happens (plan : Plan) (x y : World) : Type 0 where
  SeatPasses : (p : ℕ) → p < holders_of plan.settings → (IsGoing (seat_in x p).stand → p < plan.settings.seats) →
      ((q : ℕ) → q ≢ p → seat_in y q ≡ seat_in x q) →
      Passes x y p (seat_in x p) (seat_in y p) → Happens plan x y
  ReaderPeeks : (later : List Answer) → y.seats ≡ x.seats → SameBuckets x y → y.answers ≡ x.answers ++ later →
      All (λ (a : Answer). IsReader a.by) later → Happens plan x y

-- ---- askings

-- a call may ask once more at most
pub spare_small : (step : Step) → spare_step step ≤ 1
spare_small S.HeldWord = omega arith
spare_small (S.TakeHold word) = omega arith
spare_small (S.HeldHead row) = omega arith
spare_small (S.HeldEntry row at left) = omega arith
spare_small (S.HeldReply row at) = omega arith
spare_small (S.GiveBack reply) = omega arith
spare_small (S.Over ending) = omega arith
spare_small (S.LowerPending ending) = omega arith
spare_small S.Stuck = omega arith
spare_small S.Scans = omega arith
spare_small (S.LoadWord turn) = omega arith
spare_small (S.LoadRow turn word words) = omega arith
spare_small (S.CheckWord turn word words) = omega arith
spare_small (S.LoadPending attempt) = omega arith
spare_small (S.LoadAnnounced attempt found) = omega arith
spare_small (S.LoadOp attempt found announced words) = omega arith
spare_small (S.StoreRow attempt found i) = omega arith
spare_small (S.Exchange attempt found) = omega arith
spare_small S.RaisePending = omega arith
spare_small (S.StoreOp i) = omega arith
spare_small S.Announce = omega arith
spare_small S.StoreWant = omega arith
spare_small S.StoreAsking = omega arith

-- by where a step leads
abbrev spare_fate : Fate → ℕ
spare_fate (On step) = spare_step step
spare_fate (Ends reply) = 0
spare_fate Spends = 0
spare_fate Refuses = 0

fate_small : (next : Fate) → spare_fate next ≤ 1
fate_small (On step) = spare_small step
fate_small (Ends reply) = omega arith
fate_small Spends = omega arith
fate_small Refuses = omega arith

-- whoever has a reply asks no more
back_spare : (o : Option Reply) → spare_fate (gives_back o) ≡ 0
back_spare None = refl
back_spare (Some reply) = refl

ended_spare : (ending : Ending) → spare_fate (ended ending) ≡ 0
ended_spare (S.Applied reply) = refl
ended_spare S.GivenUp = refl

entry_spare : (row at left : ℕ) → spare_fate (next_entry row at left) ≡ 0
entry_spare row at left = go (nat_lt 0 left)
  where
    go : (b : Bool) → spare_step (cond b (S.HeldEntry row at left) S.Stuck) ≡ 0
    go true = refl
    go false = refl

held_spare : (b : Bool) (row at left : ℕ) →
    spare_fate (cond b (On (S.HeldReply row (at + 1))) (next_entry row (at + ENTRY_WORDS) (left - 1))) ≡ 0
held_spare true row at left = refl
held_spare false row at left = entry_spare row (at + ENTRY_WORDS) (left - 1)

-- by where a step of a look leads
abbrev spare_look : GlanceFate → ℕ
spare_look (Looks glance) = spare_glance glance
spare_look (Shows items) = 0
spare_look Disturbed = 1

-- a look that has gone through its items may ask as before
through_spare : (source : Source) (kept : List Pair) → spare_look (gone_through source kept) ≤ spare_source source
through_spare (Tried left word) kept = omega arith
through_spare (HeldIn row) kept = omega arith

-- so may one that goes on to the next item
pass_spare : (source : Source) (pass : S.Pass) → spare_look (pass_on source pass) ≤ spare_source source
pass_spare source pass = go (nat_lt pass.item pass.count)
  where
    go : (b : Bool) → spare_look (cond b (Looks (S.GlanceItem source pass)) (gone_through source pass.kept))
        ≤ spare_source source
    go true = omega arith
    go false = through_spare source pass.kept

-- or has one word more of it
item_spare : (source : Source) (aim : Aim) (pass : S.Pass) (word : ℕ) →
    spare_look (pass_fate source aim pass word) ≤ spare_source source
item_spare source aim pass word =
    go ((length pass.part == 0) && not (may_be aim word)) (nat_lt (length pass.part + 1) ITEM_WORDS)
  where
    pair : Pair
    pair = pair_in (more pass.part word)

    whole : (b : Bool) → spare_look (cond b (gone_through source (more pass.kept pair))
        (pass_on source (with_pair pass pair))) ≤ spare_source source
    whole true = through_spare source (more pass.kept pair)
    whole false = pass_spare source (with_pair pass pair)

    go : (a b : Bool) → spare_look (cond a (pass_on source (passed pass))
        (cond b (Looks (S.GlanceItem source (record pass { part = more pass.part word })))
        (pass_pair source aim pass pair))) ≤ spare_source source
    go true b = pass_spare source (passed pass)
    go false true = omega arith
    go false false = whole (is_aimed aim pair)

-- and a lost one
lost_spare : (left : ℕ) → spare_look (glance_lost left) ≤ 1
lost_spare left = go (nat_lt 0 left)
  where
    go : (b : Bool) → spare_look (cond b (Looks (S.GlanceWord (left - 1))) Disturbed) ≤ 1
    go true = omega arith
    go false = omega arith

-- a look may ask once more at most
pub glance_small : (glance : Glance) → spare_glance glance ≤ 1
glance_small (S.GlanceCount (Tried left word)) = omega arith
glance_small (S.GlanceCount (HeldIn row)) = omega arith
glance_small (S.GlanceItem (Tried left word) pass) = omega arith
glance_small (S.GlanceItem (HeldIn row) pass) = omega arith
glance_small (S.GlanceWord left) = omega arith
glance_small (S.GlanceCheck left word kept) = omega arith
glance_small S.GlanceWant = omega arith
glance_small S.GlanceAsking = omega arith
glance_small S.GlanceHeld = omega arith
glance_small (S.GlanceTake word) = omega arith
glance_small (S.GlanceBack kept) = omega arith

-- the time then, where it goes on
abbrev time_by : (time : ℕ) → Glance → GlanceFate → ℕ
time_by time glance (Looks next) = time_after time glance
time_by time glance (Shows items) = time
time_by time glance Disturbed = time

-- where the time stays
spends : (time : ℕ) (glance : Glance) (next : GlanceFate) (most : ℕ) →
    ((g : Glance) → time_after time glance ≡ time) → spare_look next ≤ most →
    time_by time glance next + spare_look next ≤ time + most
spends time glance (Looks g) most same small = (let e = same g in omega (arith, e, small))
spends time glance (Shows items) most same small = omega (arith, small)
spends time glance Disturbed most same small = omega (arith, small)

-- a step of a look uses up what it asks
look_spends : (plan : Plan) (time : ℕ) (aim : Aim) (glance : Glance) (word : ℕ) →
    time_by time glance (glance_fate plan time aim glance word)
    + spare_look (glance_fate plan time aim glance word) ≤ time + spare_glance glance
look_spends plan time aim (S.GlanceWord left) word = omega arith
look_spends plan time aim (S.GlanceCount source) word = spends time (S.GlanceCount source)
    (pass_on source (pass_of (count_in plan word))) (spare_source source) (λ next. refl)
    (pass_spare source (pass_of (count_in plan word)))
look_spends plan time aim (S.GlanceItem source pass) word = spends time (S.GlanceItem source pass)
    (pass_fate source aim pass word) (spare_source source) (λ next. refl) (item_spare source aim pass word)
look_spends plan time aim (S.GlanceCheck left old kept) word = go (word == old)
  where
    go : (b : Bool) → time_by time (S.GlanceCheck left old kept) (cond b (Shows kept) (glance_lost left))
        + spare_look (cond b (Shows kept) (glance_lost left)) ≤ time + 1
    go true = omega arith
    go false = spends time (S.GlanceCheck left old kept) (glance_lost left) 1 (λ next. refl) (lost_spare left)
look_spends plan time aim S.GlanceWant word = omega arith
look_spends plan time aim S.GlanceAsking word = omega arith
look_spends plan time aim S.GlanceHeld word = omega arith
look_spends plan time aim (S.GlanceTake old) word = omega arith
look_spends plan time aim (S.GlanceBack kept) word = omega arith

-- an update that begins is not answered at once
abbrev IsFirst : Fate → Type 0
IsFirst (On step) = Unit {0}
IsFirst (Ends reply) = ⊥
IsFirst Spends = ⊥
IsFirst Refuses = Unit {0}

-- ---- an update that was applied

abbrev FateApplied : Fate → Type 0
FateApplied (On step) = IsApplied step
FateApplied (Ends reply) = Unit {0}
FateApplied Spends = ⊥
FateApplied Refuses = ⊥

-- it goes on so
applied_on : (plan : Plan) (p : ℕ) (now : SeatNow) (call : Call) (step : Step) (word : ℕ) → IsApplied step →
    FateApplied (fate plan p now call step word)
applied_on plan p now call (S.Over (S.Applied reply)) word is = tt
applied_on plan p now call (S.LowerPending (S.Applied reply)) word is = tt
applied_on plan p now call S.Stuck word is = tt
applied_on plan p now call (S.Over S.GivenUp) word is = absurd is
applied_on plan p now call (S.LowerPending S.GivenUp) word is = absurd is
applied_on plan p now call S.Scans word is = absurd is
applied_on plan p now call (S.LoadWord turn) word is = absurd is
applied_on plan p now call (S.LoadRow turn old words) word is = absurd is
applied_on plan p now call (S.CheckWord turn old words) word is = absurd is
applied_on plan p now call (S.LoadPending attempt) word is = absurd is
applied_on plan p now call (S.LoadAnnounced attempt found) word is = absurd is
applied_on plan p now call (S.LoadOp attempt found announced words) word is = absurd is
applied_on plan p now call (S.StoreRow attempt found i) word is = absurd is
applied_on plan p now call (S.Exchange attempt found) word is = absurd is
applied_on plan p now call S.RaisePending word is = absurd is
applied_on plan p now call (S.StoreOp i) word is = absurd is
applied_on plan p now call S.Announce word is = absurd is
applied_on plan p now call S.StoreWant word is = absurd is
applied_on plan p now call S.StoreAsking word is = absurd is
applied_on plan p now call S.HeldWord word is = absurd is
applied_on plan p now call (S.TakeHold old) word is = absurd is
applied_on plan p now call (S.HeldHead row) word is = absurd is
applied_on plan p now call (S.HeldEntry row at left) word is = absurd is
applied_on plan p now call (S.HeldReply row at) word is = absurd is
applied_on plan p now call (S.GiveBack reply) word is = absurd is

-- and so does one whose exchange happened
exchange_applied : (announced : Bool) (reply : Option Reply) → FateApplied (ends_with announced reply)
exchange_applied true None = tt
exchange_applied false None = tt
exchange_applied true (Some reply) = tt
exchange_applied false (Some reply) = tt

-- ---- a seat

module _ (plan : Plan) (x : World) (p : ℕ) (inside : p < length x.seats) where
  -- the seat before the event
  abbrev now : SeatNow
  now = seat_in x p

  -- what an event of the seat comes to
  abbrev Comes : World → Type 0
  Comes y = ((q : ℕ) → q ≢ p → seat_in y q ≡ seat_in x q) × Passes x y p now (seat_in y p)
      × (length y.seats ≡ length x.seats)

  -- by where the seat stands then
  comes : (store : W.Store) (then : SeatNow) (answers : List Answer) (updates : List MadeBySeat) →
      Passes x (ticked (with_seat x p store then answers updates)) p now then →
      Comes (ticked (with_seat x p store then answers updates))
  comes store then answers updates passes = (
    (λ q n. get_or-set_other x.seats p q then nobody n),
    subst (Passes x (ticked (with_seat x p store then answers updates)) p now)
        (sym (get_or-set_same x.seats p then nobody inside)) passes,
    length-set x.seats p then,
  )

  -- ---- an update

  module _ (call : Call) (step : Step) (stood : now.stand ≡ S.Goes call step) where
    -- by what the step leaves of the seat and where it leads
    goes_by : (store : W.Store) (own : SeatNow) (next : Fate) (updates : List MadeBySeat) →
        own.answered ≡ now.answered → own.course ≡ now.course →
        own.time + spare_fate next ≤ now.time + spare_step step →
        (store.bucket ≡ x.store.bucket) ⊎ FateApplied next → (IsApplied step → FateApplied next) →
        Comes (ticked (with_seat x p store (seat_after own call next)
        (answers_after x p call (stepped now.course) next) updates))
    goes_by store own (On next) updates a c t w still = comes store (seat_after own call (On next)) x.answers updates
        (UpdateGoes call step next stood refl (ap (λ (k : Course). k.began) c) w still a t refl)
    goes_by store own (Ends reply) updates a c t w still =
        comes store (seat_after own call (Ends reply)) (answers_after x p call (stepped now.course) (Ends reply))
        updates
        (UpdateEnds call step reply (stepped now.course) stood refl refl (ap (λ k. k + 1) a) (omega (arith, t)) refl)
    goes_by store own Spends updates a c t w still =
        comes store (seat_after own call Spends) (answers_after x p call (stepped now.course) Spends) updates
        (FailsLater call step Spent (stepped now.course) stood refl refl tt (same w) still a (omega (arith, t)) refl)
      where
        same : (store.bucket ≡ x.store.bucket) ⊎ ⊥ → store.bucket ≡ x.store.bucket
        same (inl e) = e
        same (inr k) = absurd k
    goes_by store own Refuses updates a c t w still =
        comes store (seat_after own call Refuses) (answers_after x p call (stepped now.course) Refuses) updates
        (FailsLater call step Refused (stepped now.course) stood refl refl tt (same w) still a (omega (arith, t)) refl)
      where
        same : (store.bucket ≡ x.store.bucket) ⊎ ⊥ → store.bucket ≡ x.store.bucket
        same (inl e) = e
        same (inr k) = absurd k

  -- what a step leaves of the seat
  record Own (s : SeatNow) : Type 0 where
    pub answered : s.answered ≡ now.answered
    pub course : s.course ≡ now.course
    pub time : s.time ≡ now.time

  -- a step of a scan leaves all but the rows
  own_scanned : (f : ScanFate) → Own (scanned now f)
  own_scanned (ScansOn scan) = record { answered = refl; course = refl; time = refl }
  own_scanned (Scanned left held) = record { answered = refl; course = refl; time = refl }

  -- a step of an update
  step_comes : (call : Call) (step : Step) → now.stand ≡ S.Goes call step → Comes (ticked (goes plan x p now call step))
  step_comes call step stood = by step stood
    where
      word : (s : Step) → ℕ
      word s = found_by (deed_of plan p now call s) x.store

      next : (s : Step) → Fate
      next s = fate plan p now call s (word s)

      quiet : (s : Step) → IsStill s → (store_after (deed_of plan p now call s) x.store).bucket ≡ x.store.bucket
      quiet s still = (quiet_words (deed_of plan p now call s) x.store (quiet_step plan p now call s still)).0

      -- it may ask before and after
      early : (s : Step) → now.stand ≡ S.Goes call s → spare_step s ≡ 1 →
          Own (own_after plan p now call s (word s)) →
          ((store_after (deed_of plan p now call s) x.store).bucket ≡ x.store.bucket) ⊎ FateApplied (next s) →
          Comes (ticked (goes plan x p now call s))
      early s at one own w =
          goes_by call s at (store_after (deed_of plan p now call s) x.store) (own_after plan p now call s (word s))
          (next s)
          _ own.answered own.course
          (let small = fate_small (next s) in let t = own.time in omega (arith, small, t, one)) w
          (λ is. applied_on plan p now call s (word s) is)

      late : (s : Step) → now.stand ≡ S.Goes call s → IsStill s → Own (own_after plan p now call s (word s)) →
          spare_fate (next s) ≡ 0 → Comes (ticked (goes plan x p now call s))
      late s at still own none =
          goes_by call s at (store_after (deed_of plan p now call s) x.store) (own_after plan p now call s (word s))
          (next s)
          _ own.answered own.course (let t = own.time in omega (arith, none, t)) (inl (quiet s still))
          (λ is. applied_on plan p now call s (word s) is)

      same : Own now
      same = record { answered = refl; course = refl; time = refl }

      exchange_own : (b : Bool) (row : ℕ) → Own (cond b (exchanged now row) now)
      exchange_own true row = record { answered = refl; course = refl; time = refl }
      exchange_own false row = same

      exchange_words : (t : Try) (found : List Found) → (b : Bool) →
          ((cond b (with_word x.store (W.Bucket (bucket_of_call plan call)) (next_tag plan now t.word)) x.store).bucket
          ≡ x.store.bucket)
          ⊎ FateApplied (cond b (ends_with (is_announced t.turn) (reply_for p (made plan t found).made)) (lost t.turn))
      exchange_words t found true = inr (exchange_applied (is_announced t.turn) (reply_for p (made plan t found).made))
      exchange_words t found false = inl refl

      by : (s : Step) → now.stand ≡ S.Goes call s → Comes (ticked (goes plan x p now call s))
      by S.Scans at =
          early S.Scans at refl (own_scanned (scan_fate_of plan p now.scan (word S.Scans))) (inl (quiet S.Scans tt))
      by (S.Exchange t found) at =
          early (S.Exchange t found) at refl
          (exchange_own (x.store.bucket (bucket_of_call plan call) == t.word) (row_in plan t.word))
          (exchange_words t found (x.store.bucket (bucket_of_call plan call) == t.word))
      by (S.StoreRow t found i) at = early (S.StoreRow t found i) at refl same (inl refl)
      by S.StoreAsking at =
          goes_by call S.StoreAsking at (store_after (deed_of plan p now call S.StoreAsking) x.store)
          (record now { time = now.time + 1 }) (On S.HeldWord) _ refl refl (omega arith) (inl (quiet S.StoreAsking tt))
          (λ is. absurd is)
      by (S.Over ending) at =
          late (S.Over ending) at tt (record { answered = refl; course = refl; time = refl }) refl
      by S.HeldWord at = late S.HeldWord at tt same refl
      by (S.TakeHold old) at = late (S.TakeHold old) at tt same refl
      by (S.HeldHead row) at =
          late (S.HeldHead row) at tt same
          (entry_spare row (entries_start (count_in plan (word (S.HeldHead row))))
          (entries_in plan (word (S.HeldHead row))))
      by (S.HeldEntry row place left) at =
          late (S.HeldEntry row place left) at tt same
          (held_spare (word (S.HeldEntry row place left) == entry_word p now.posted) row place left)
      by (S.HeldReply row place) at =
          late (S.HeldReply row place) at tt same (back_spare (reply_of_word (word (S.HeldReply row place))))
      by (S.GiveBack reply) at = late (S.GiveBack reply) at tt same refl
      by (S.LowerPending ending) at = late (S.LowerPending ending) at tt same (ended_spare ending)
      by S.Stuck at = late S.Stuck at tt same refl
      by (S.LoadWord turn) at = early (S.LoadWord turn) at refl same (inl (quiet (S.LoadWord turn) tt))
      by (S.LoadRow turn old words) at = early (S.LoadRow turn old words) at refl same
          (inl (quiet (S.LoadRow turn old words) tt))
      by (S.CheckWord turn old words) at = early (S.CheckWord turn old words) at refl same
          (inl (quiet (S.CheckWord turn old words) tt))
      by (S.LoadPending t) at = early (S.LoadPending t) at refl same (inl (quiet (S.LoadPending t) tt))
      by (S.LoadAnnounced t found) at = early (S.LoadAnnounced t found) at refl same
          (inl (quiet (S.LoadAnnounced t found) tt))
      by (S.LoadOp t found announced words) at = early (S.LoadOp t found announced words) at refl same
          (inl (quiet (S.LoadOp t found announced words) tt))
      by S.RaisePending at = early S.RaisePending at refl same (inl (quiet S.RaisePending tt))
      by (S.StoreOp i) at = early (S.StoreOp i) at refl same (inl (quiet (S.StoreOp i) tt))
      by S.Announce at = early S.Announce at refl same (inl (quiet S.Announce tt))
      by S.StoreWant at = early S.StoreWant at refl same (inl (quiet S.StoreWant tt))

  -- ---- a look

  module _ (aim : Aim) (glance : Glance) (stood : now.stand ≡ S.Glances aim glance) where
    abbrev store : W.Store
    store = store_after (glance_deed plan p now.time aim glance) x.store

    -- by where the step leads
    look_by : (next : GlanceFate) → time_by now.time glance next + spare_look next ≤ now.time + spare_glance glance →
        Comes (ticked (with_seat x p store (look_after now aim glance next)
        (look_answers plan x p aim (stepped now.course) next) x.made))
    look_by next spent = go next spent
      where
        quiet : store.bucket ≡ x.store.bucket
        quiet =
            let deed = glance_deed plan p now.time aim glance in
            (quiet_words deed x.store (quiet_glance plan p now.time aim glance)).0

        go : (next : GlanceFate) →
            time_by now.time glance next + spare_look next ≤ now.time + spare_glance glance →
            Comes (ticked (with_seat x p store (look_after now aim glance next)
            (look_answers plan x p aim (stepped now.course) next) x.made))
        go (Looks g) t = comes store (look_after now aim glance (Looks g)) x.answers x.made
            (LookGoes aim glance g stood refl refl quiet refl t refl)
        go (Shows items) t = comes store (look_after now aim glance (Shows items))
            (look_answers plan x p aim (stepped now.course) (Shows items)) x.made
            (LookEnds aim glance (told_by_items plan aim items) (stepped now.course) stood refl refl quiet refl refl
            refl)
        go Disturbed t = comes store (look_after now aim glance Disturbed) x.answers x.made
            (LookGoes aim glance S.GlanceWant stood refl refl quiet refl t refl)

    -- a step of a look
    look_comes : Comes (ticked (glances plan x p now aim glance))
    look_comes =
        let word = found_by (glance_deed plan p now.time aim glance) x.store in
        look_by (glance_fate plan now.time aim glance word) (look_spends plan now.time aim glance word)

  -- ---- begins

  -- a look begins
  look_first : (aim : Aim) → now.stand ≡ S.Idle → Comes (ticked (look_begins x p now aim))
  look_first aim idle = comes x.store
      (record now { stand = S.Glances aim (S.GlanceWord (LOOK_TRIES - 1)); course = course_from x.clock }) x.answers
      x.made
      (LookBegins aim (S.GlanceWord (LOOK_TRIES - 1)) idle refl refl refl refl refl refl)

  -- an update begins with a scan or without
  begun_own : (free : List ℕ) → Own (scan_begins plan p free now)
  begun_own (row ∷ free) = record { answered = refl; course = refl; time = refl }
  begun_own [] = go (seats_from plan p 0 now.kept [])
    where
      go : (f : ScanFate) → Own (scanned (record now { kept = [] }) f)
      go (ScansOn scan) = record { answered = refl; course = refl; time = refl }
      go (Scanned left held) = record { answered = refl; course = refl; time = refl }

  -- and is not answered at once
  first_goes : (free : List ℕ) (scan : Option Scan) → IsFirst (first_fate free scan)
  first_goes free (Some scan) = tt
  first_goes [] None = tt
  first_goes (row ∷ free) None = tt

  -- an update begins
  update_first : (call : Call) → now.stand ≡ S.Idle → IsUpdate call → Comes (ticked (update_begins plan x p now call))
  update_first call idle update = go (first_fate taken.free taken.scan) (first_goes taken.free taken.scan)
    where
      taken : SeatNow
      taken = scan_begins plan p now.free now

      own : Own taken
      own = begun_own now.free

      then : Fate → SeatNow
      then next = record taken { stand = stand_at call next; course = course_from x.clock }

      go : (next : Fate) → IsFirst next → Comes (ticked (with_seat x p x.store (then next)
          (answers_after x p call (course_from x.clock) next) x.made))
      go (On step) first = comes x.store (then (On step)) x.answers x.made
          (UpdateBegins call step idle refl update refl refl own.answered own.time refl)
      go (Ends reply) first = absurd first
      go Spends first = absurd first
      go Refuses first = comes x.store (then Refuses) (answers_after x p call (course_from x.clock) Refuses) x.made
          (FailsFirst call Refused (course_from x.clock) idle refl update refl tt refl own.answered own.time refl)

  -- a call begins
  call_first : (call : Call) → now.stand ≡ S.Idle → CanBegin plan p now call →
      Comes (ticked (call_begins plan x p now call))
  call_first (Lookup key) idle can = look_first (OfKey key) idle
  call_first (Insert key value) idle can = update_first (Insert key value) idle can.3
  call_first (Remove key) idle can = update_first (Remove key) idle can.3
  call_first (Tally key amount) idle can = update_first (Tally key amount) idle can.3
  call_first (Count key value amount) idle can = update_first (Count key value amount) idle can.3
  call_first (Put key value) idle can = update_first (Put key value) idle can.3

  -- a call goes on
  seat_goes : (stand : Stand) → now.stand ≡ stand → IsFlying plan p stand → Comes (ticked (goes_on plan x p now stand))
  seat_goes S.Idle stood flies = absurd flies
  seat_goes (S.Goes call step) stood flies = step_comes call step stood
  seat_goes (S.Glances aim glance) stood flies = look_comes aim glance stood

  -- any event of the seat
  seat_acts : (what : What) → Fits plan p now what → Comes (ticked (act plan x p now what))
  seat_acts (Begin call) fits = call_first call fits.0 fits.1
  seat_acts (Copy bucket) fits = look_first (OfBucket bucket) fits.0
  seat_acts Step_on fits = seat_goes now.stand refl fits

-- ---- a reader

-- what an event leaves
abbrev Leaves : Plan → World → World → Type 0
Leaves plan x y = Happens plan x y × (length y.seats ≡ length x.seats)

-- no answer is one of readers alone
no_answer : All (λ (a : Answer). IsReader a.by) []
no_answer = All-nil (λ (a : Answer). IsReader a.by)

-- and so is one of a reader
one_answer : (a : Answer) → IsReader a.by → All (λ (a : Answer). IsReader a.by) (a ∷ [])
one_answer a is = All-cons (λ (a : Answer). IsReader a.by) a [] is no_answer

-- no answer more
none_later : (x : World) → x.answers ≡ x.answers ++ []
none_later x = sym (append-nil x.answers)

-- a step of a reader
peeks_comes : (plan : Plan) (x : World) (r : ℕ) (stand : Peeking) →
    Leaves plan x (ticked (peeks_on plan x r (x.readers r) stand))
peeks_comes plan x r S.Rests = (ReaderPeeks [] refl refl (none_later x) no_answer, refl)
peeks_comes plan x r (S.Peeks aim glance) =
    go (glance_fate plan 0 aim glance (found_by (glance_deed plan 0 0 aim glance) x.store))
  where
    course : Course
    course = stepped (x.readers r).course

    go : (next : GlanceFate) → Leaves plan x (ticked (with_reader x r (peek_after (x.readers r) aim next)
        (peek_answers plan x r aim course next)))
    go (Looks g) = (ReaderPeeks [] refl refl (none_later x) no_answer, refl)
    go (Shows items) =
        let a = answer_now x (ByReader r) (asked_by_aim aim) (told_by_items plan aim items) course in
        (ReaderPeeks (a ∷ []) refl refl refl (one_answer a tt), refl)
    go Disturbed =
        let a = answer_now x (ByReader r) (asked_by_aim aim) Again course in
        (ReaderPeeks (a ∷ []) refl refl refl (one_answer a tt), refl)

-- ---- THE RESULT

-- only a seat makes an update
only_seats : (plan : Plan) (p : ℕ) (now : SeatNow) (what : What) → Fits plan p now what → IsGoing now.stand →
    p < plan.settings.seats
only_seats plan p _ (Begin call) fits g = absurd (subst IsGoing fits.0 g)
only_seats plan p _ (Copy bucket) fits g = absurd (subst IsGoing fits.0 g)
only_seats plan p now Step_on fits g = go now.stand fits g
  where
    go : (stand : Stand) → IsFlying plan p stand → IsGoing stand → p < plan.settings.seats
    go S.Idle flies k = absurd k
    go (S.Goes call step) flies k = flies
    go (S.Glances aim glance) flies k = absurd k

-- an event is one of a seat or of a reader
pub event_happens : (plan : Plan) (x : World) → length x.seats ≡ holders_of plan.settings → (event : Event) →
    IsEvent plan x event → Leaves plan x (happens plan x event)
event_happens plan x long (OfSeat p what) fits =
    subst (λ (b : Bool). Leaves plan x (cond b (ticked (act plan x p (seat_in x p) what)) x))
    (sym (lt-ltb p (holders_of plan.settings) fits.0))
    (let inside : p < length x.seats = (let less = fits.0 in omega (arith, less, long)) in
    let c = seat_acts plan x p inside what fits.1 in
    (SeatPasses p fits.0 (only_seats plan p (seat_in x p) what fits.1) c.0 c.1, c.2))
event_happens plan x long (OfReader r (Open aim tries)) fits =
    (ReaderPeeks [] refl refl (none_later x) no_answer, refl)
event_happens plan x long (OfReader r Peek_on) fits = peeks_comes plan x r (x.readers r).stand

-- ---- runs

-- what each event keeps holds after all of them
pub run_on : (plan : Plan) (P : World → Type 0) → ((x y : World) → P x → Happens plan x y → P y) →
    (events : List Event) (x : World) → length x.seats ≡ holders_of plan.settings → AreEvents plan x events → P x →
    P (fold (happens plan) x events)
run_on plan P keep [] x long follow holds = holds
run_on plan P keep (event ∷ events) x long follow holds =
    let one = event_happens plan x long event follow.0 in
    run_on plan P keep events (happens plan x event) (one.1 ∙ long) follow.1 (keep x (happens plan x event) holds one.0)

-- so the first part of a run is a run
pub run_first : (plan : Plan) (events later : List Event) → IsRun plan (events ++ later) → IsRun plan events
run_first plan events later run =
    record { opened = run.opened; follow = front_follows plan events later (opening_world plan) run.follow }

-- what each event keeps from a moment on
pub run_from : (plan : Plan) (P : World → Type 0) → ((x y : World) → P x → Happens plan x y → P y) →
    (front back : List Event) → IsRun plan (front ++ back) → P (world_after plan front) →
    P (world_after plan (front ++ back))
run_from plan P keep front back run holds =
    subst P (sym (after_both plan front back (opening_world plan)))
    (run_on plan P keep back (world_after plan front)
    (owned_holds plan front (run_first plan front back run)).long
    (back_follows plan front back (opening_world plan) run.follow) holds)
