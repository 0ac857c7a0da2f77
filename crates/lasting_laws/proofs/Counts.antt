-- What is counted in a run is small: a row is published at every third update of its seat at most, since there are
-- always two other free rows before it; a seat asks at most once in each event.
use Rattle.std.proofs.Common.{◌≡◌, ◌≢◌, ℕ, ◌+◌, ◌*◌, ◌^◌, ◌<◌, ◌≤◌, inl, inr, Bool, true, false, cond, List, [], ◌∷◌, ◌++◌, Option, Some, None, length, refl, sym, ap, ◌∙◌, subst, arith, append-nil, get_or-set_same, get_or-set_other, lt-ltb}
use Rattle.std.proofs.Math.Nat.{div-lt_iff_lt-mul}
use Rattle.std.specs.Prelude.{◌==◌, ◌-◌, drop, slice_index, slice_index_or, fold}
use Rattle.std.proofs.lemmas.Bool.{cases_eq, eq-eqb}
use Rattle.std.proofs.lemmas.List.{length-append, length-drop}
use Rattle.list_laws.proofs.Totals.{many, one_if}
use Rattle.plain_map.specs.declared.calls.Call.{Call}
use Rattle.plain_map.specs.declared.calls.Call.TheVariants.{Insert, Remove, Lookup, Tally, Count, Put}
use Rattle.plain_map.specs.declared.calls.Reply.{Reply}
use Rattle.lasting_model.specs.Plans.{Plan, IsPlan, ample, buckets_of, MOST_UPDATES}
use Rattle.lasting_model.specs.Codes.{generation_in}
use Rattle.lasting_model.specs.Words as W
use Rattle.lasting_model.specs.Laws.{GoesOn, CountsAreSmall, AllCountsAreSmall}
use Rattle.lasting_model.specs.Steps as S
use Rattle.lasting_model.specs.Steps.{Step, Stand, Sweep, SeatNow, Update, Try, Aim, OfKey, OfBucket, Glance, Peeking, deed_of, glance_deed, sweep_deed, made, bucket_of_update, next_row, next_generation}
use Rattle.lasting_model.specs.Goes.{rows_of, SweepFate, SweepsOn, Swept, sweep_fate_of, swept, sweep_begins, Fate, On, Ends, Refuses, first_fate, ends_with, reply_by, lost, fate, with_published, GlanceFate, Looks, Shows, Disturbed, glance_fate, time_after}
use Rattle.lasting_model.specs.Worlds.{Lasting, Answer, Event, OfSeat, OfReader, IsEvent, AreEvents, What, Begin, Copy, Step_on, Open, Peek_on, LOOK_TRIES, seat_in, with_seat, ticked, found_by, store_after, seat_after, answers_after, stepped, goes, glances, look_after, look_answers, stand_at, next_update, course_from, update_begins, look_begins, call_begins, goes_on, act, peeks_on, happens, nobody, opening_seat, opening_world, IsFlying, Fits}
use Rattle.lasting_laws.proofs.Lists.{either_put}
use Rattle.lasting_laws.proofs.Pools.{Pool, PoolOf, places, is_row, word_in, owner_in}
use Rattle.lasting_laws.proofs.PoolsOpen.{seat_is}
use Rattle.lasting_laws.proofs.FixedDepth.{positive}
use Rattle.bucket_states.specs.declared.ops.Op.{Op}
use Rattle.lasting_laws.proofs.Turns.{swept_known, begin_known}
use Rattle.lasting_laws.proofs.Shown.{IsShown, Seated, view}
use Rattle.lasting_laws.proofs.StepsShown.{steps_are_shown}
use Rattle.lasting_laws.proofs.OpensShown.{opening_shown}
use Rattle.lasting_laws.proofs.Ordered.{shown_goes_on}

-- the free row behind the next one
abbrev second_row : SeatNow → ℕ
second_row s = slice_index s.free 1

-- what a seat has counted when there were so many events
record Few (clock : ℕ) (s : SeatNow) : Type 0 where
  pub generations : (row : ℕ) → 3 * s.generation row ≤ s.answered + 2
  pub first : 3 * s.generation (next_row s) ≤ s.answered
  pub second : 3 * s.generation (second_row s) ≤ s.answered + 1
  pub some : 2 ≤ length s.free
  pub answered : s.answered ≤ MOST_UPDATES
  pub time : s.time ≤ clock

-- rows that are freed come behind the first free one
first_stays : (free more : List ℕ) → 2 ≤ length free → slice_index (free ++ more) 0 ≡ slice_index free 0
first_stays [] more some = absurd (omega (arith, some))
first_stays (row ∷ free) more some = refl

-- and behind the second
second_stays : (free more : List ℕ) → 2 ≤ length free → slice_index (free ++ more) 1 ≡ slice_index free 1
second_stays [] more some = absurd (omega (arith, some))
second_stays (row ∷ []) more some = absurd (omega (arith, some))
second_stays (row ∷ other ∷ free) more some = refl

-- whether it holds, as a number
abbrev flag : Bool → ℕ
flag b = cond b 1 0

-- of rows that stand once the second is another one than the first
two_apart : (free : List ℕ) → 3 ≤ length free → many (is_row (slice_index free 0)) free ≤ 1 →
    slice_index free 1 ≢ slice_index free 0
two_apart [] three once e = absurd (omega (arith, three))
two_apart (row ∷ []) three once e = absurd (omega (arith, three))
two_apart (row ∷ other ∷ free) three once e =
    let own : one_if (is_row row) row ≡ 1 = ap flag (eq-eqb row row refl) in
    let next : one_if (is_row row) other ≡ 1 = ap flag (eq-eqb other row e) in
    omega (arith, own, next, once)

-- so is the third
third_apart : (free : List ℕ) → 3 ≤ length free → many (is_row (slice_index free 0)) free ≤ 1 →
    slice_index (drop 1 free) 1 ≢ slice_index free 0
third_apart [] three once e = absurd (omega (arith, three))
third_apart (row ∷ []) three once e = absurd (omega (arith, three))
third_apart (row ∷ other ∷ []) three once e = absurd (omega (arith, three))
third_apart (row ∷ other ∷ third ∷ free) three once e =
    let own : one_if (is_row row) row ≡ 1 = ap flag (eq-eqb row row refl) in
    let next : one_if (is_row row) third ≡ 1 = ap flag (eq-eqb third row e) in
    omega (arith, own, next, once)

-- without the first, the second is the first
second_is_next : (free : List ℕ) → 3 ≤ length free → slice_index (drop 1 free) 0 ≡ slice_index free 1
second_is_next [] three = absurd (omega (arith, three))
second_is_next (row ∷ []) three = absurd (omega (arith, three))
second_is_next (row ∷ other ∷ free) three = refl

-- a seat has one row more than its pool stands on
one_more_row : (plan : Plan) → IsPlan plan → 2 * places plan + 1 ≤ plan.rows
one_more_row plan is = omega (arith, is.rows)

-- a seat that is to publish has three free rows
three_free : (plan : Plan) (word : ℕ → ℕ) (p : ℕ) (u : Update) (t : Try) (found : List (Option Op)) (free : List ℕ)
    (named : List (ℕ × ℕ)) (sweep : Option Sweep) → 2 * places plan + 1 ≤ plan.rows → 2 ≤ places plan →
    Pool plan word p free named sweep (S.Goes u (S.Exchange t found)) → 3 ≤ length free
three_free plan word p u t found free named None enough two pool =
    (let room = pool.room in let all = pool.lists.all in omega (arith, room, all, enough, two))
three_free plan word p u t found free named (Some (S.Homes todo gone)) enough two pool =
    let room = pool.room.0 in
    let all = pool.lists.all in
    let named_are = room.named_are in
    let start = room.start in
    let slow = room.slow in
    omega (arith, all, named_are, start, slow, enough, two)
three_free plan word p u t found free named (Some (S.Seats k gone)) enough two pool = absurd pool.room.1
three_free plan word p u t found free named (Some (S.Sees k time gone)) enough two pool = absurd pool.room.1
three_free plan word p u t found free named (Some (S.Loads k time bucket gone)) enough two pool = absurd pool.room.1
three_free plan word p u t found free named (Some (S.Gives k time row gone)) enough two pool = absurd pool.room.1

-- there are two places at least
two_places : (plan : Plan) → 2 ≤ places plan
two_places plan = (let some = positive plan.settings.depth in omega (arith, some, plan.settings.seats_in_range.0))

abbrev Counts : Plan → Lasting → Type 0
Counts plan x = (q : ℕ) → q < plan.settings.seats → Few x.clock (seat_in x q)

-- it may be later
later : (clock : ℕ) (s : SeatNow) → Few clock s → Few (clock + 1) s
later clock s f = record {
  generations = f.generations;
  first = f.first;
  second = f.second;
  some = f.some;
  answered = f.answered;
  time = (let t = f.time in omega (arith, t));
}

-- a seat that has counted as another
alike : (clock : ℕ) (s t : SeatNow) → t.generation ≡ s.generation → t.free ≡ s.free → t.answered ≡ s.answered →
    t.time ≡ s.time → Few clock s → Few (clock + 1) t
alike clock s t g fr a e f = record {
  generations = λ row. (let here : t.generation row ≡ s.generation row = ap (λ (h : ℕ → ℕ). h row) g in
      let most = f.generations row in omega (arith, here, most, a));
  first =
      let here : t.generation (next_row t) ≡ s.generation (next_row s) =
      λ i. (g i) (slice_index (fr i) 0) in
      let most = f.first in
      omega (arith, here, most, a);
  second =
      let here : t.generation (second_row t) ≡ s.generation (second_row s) =
      λ i. (g i) (slice_index (fr i) 1) in
      let most = f.second in
      omega (arith, here, most, a);
  some = (let long = ap (λ (rows : List ℕ). length rows) fr in let one = f.some in omega (arith, long, one));
  answered = (let most = f.answered in omega (arith, most, a));
  time = (let most = f.time in omega (arith, most, e));
}

module _ (plan : Plan) (is_plan : IsPlan plan) (x : Lasting) (shown : IsShown plan x) (counts : Counts plan x) where
  module _ (p : ℕ) (inside : p < plan.settings.seats) where
    abbrev now : SeatNow
    now = seat_in x p

    mine : (store : W.Store) (then : SeatNow) (answers : List Answer) →
        seat_in (ticked (with_seat x p store then answers)) p ≡ then
    mine store then answers =
        get_or-set_same x.seats p then nobody (let long = shown.pools.long in omega (arith, inside, long))

    -- one seat is another then
    moves : (store : W.Store) (then : SeatNow) (answers : List Answer) → Few (x.clock + 1) then →
        Counts plan (ticked (with_seat x p store then answers))
    moves store then answers few q less = elim (cases_eq q p) [
      | inl e ↦ subst (Few (x.clock + 1))
          (sym (ap (seat_in (ticked (with_seat x p store then answers))) e ∙ mine store then answers)) few
      | inr n ↦ subst (Few (x.clock + 1)) (sym (get_or-set_other x.seats p q then nobody n))
          (later x.clock (seat_in x q) (counts q less))
    ]

    -- ---- an update

    after : (own : SeatNow) (u : Update) (next : Fate) (more : List ℕ) → own.free ≡ now.free ++ more →
        own.generation ≡ now.generation → own.answered ≡ now.answered → own.time ≤ x.clock + 1 →
        now.answered < MOST_UPDATES → Few (x.clock + 1) (seat_after own u next)
    after own u next more fr g a t less = by next
      where
        row_is : next_row own ≡ next_row now
        row_is = ap (λ (rows : List ℕ). slice_index rows 0) fr ∙ first_stays now.free more (counts p inside).some

        behind : 3 * own.generation (second_row own) ≤ own.answered + 1
        behind =
            let is : second_row own ≡ second_row now =
            ap (λ (rows : List ℕ). slice_index rows 1) fr ∙ second_stays now.free more (counts p inside).some in
            let here : own.generation (second_row own) ≡ now.generation (second_row now) = λ i. (g i) (is i) in
            let most = (counts p inside).second in
            omega (arith, here, most, a)

        ahead : 3 * own.generation (next_row own) ≤ own.answered
        ahead =
            let here : own.generation (next_row own) ≡ now.generation (next_row now) = λ i. (g i) (row_is i) in
            let most = (counts p inside).first in
            omega (arith, here, most, a)

        two_free : 2 ≤ length own.free
        two_free =
            let long : length own.free ≡ length now.free + length more =
            ap (λ (rows : List ℕ). length rows) fr ∙ length-append now.free more in
            let one = (counts p inside).some in
            omega (arith, long, one)

        low : (row : ℕ) → 3 * own.generation row ≤ own.answered + 2
        low row =
            let here : own.generation row ≡ now.generation row = ap (λ (h : ℕ → ℕ). h row) g in
            let most = (counts p inside).generations row in
            omega (arith, here, most, a)

        by : (f : Fate) → Few (x.clock + 1) (seat_after own u f)
        by (On step) = record {
          generations = low;
          first = ahead;
          second = behind;
          some = two_free;
          answered = omega (arith, a, less);
          time = t;
        }
        by (Ends reply) = record {
          generations = λ row. (let l = low row in omega (arith, l));
          first = (let l = ahead in omega (arith, l));
          second = (let l = behind in omega (arith, l));
          some = two_free;
          answered = omega (arith, a, less);
          time = t;
        }
        by Refuses = record {
          generations = low;
          first = ahead;
          second = behind;
          some = two_free;
          answered = omega (arith, a, less);
          time = t;
        }

    time_was : now.time ≤ x.clock + 1
    time_was = (let t = (counts p inside).time in omega (arith, t))

    -- the next free row stands once among the free ones
    once : many (is_row (next_row now)) now.free ≤ 1
    once =
        let pool = shown.pools.seats p inside in
        let is = pool.lists.once (next_row now) in
        let most = flag_small (owner_in plan (next_row now) == p) in
        omega (arith, is, most)
      where
        flag_small : (b : Bool) → cond b 1 0 ≤ 1
        flag_small true = omega arith
        flag_small false = omega arith

    -- a row is published, and the update has a reply
    published : (u : Update) (reply : Option Reply) → now.answered < MOST_UPDATES → 3 ≤ length now.free →
        GoesOn (seat_after (with_published now (bucket_of_update (ample plan) u)) u (ends_with reply)).stand →
        Few (x.clock + 1) (seat_after (with_published now (bucket_of_update (ample plan) u)) u (ends_with reply))
    published u None less three live = absurd live
    published u (Some reply) less three live = record {
      generations = λ row. elim (either_put now.generation (next_row now) (next_generation now) row) [
        | inl e ↦ (let most = (counts p inside).first in let is = e.1 in omega (arith, most, is))
        | inr n ↦ (let most = (counts p inside).generations row in let is = n.1 in omega (arith, most, is))
      ];
      first = elim (either_put now.generation (next_row now) (next_generation now) (slice_index (drop 1 now.free) 0)) [
        | inl e ↦ absurd (two_apart now.free three once (sym (second_is_next now.free three) ∙ e.0))
        | inr n ↦ (let most = (counts p inside).second in
            let here : now.generation (slice_index (drop 1 now.free) 0) ≡ now.generation (second_row now) =
            ap now.generation (second_is_next now.free three) in
            let is = n.1 in omega (arith, most, here, is))
      ];
      second = elim (either_put now.generation (next_row now) (next_generation now) (slice_index (drop 1 now.free) 1)) [
        | inl e ↦ absurd (third_apart now.free three once e.0)
        | inr n ↦ (let most = (counts p inside).generations (slice_index (drop 1 now.free) 1) in
            let is = n.1 in omega (arith, most, is))
      ];
      some = (let long = length-drop 1 now.free in omega (arith, long, three));
      answered = omega (arith, less);
      time = time_was;
    }

    three_left : (u : Update) (t : Try) (found : List (Option Op)) → now.stand ≡ S.Goes u (S.Exchange t found) →
        3 ≤ length now.free
    three_left u t found stood =
        three_free plan (word_in x) p u t found now.free now.named now.sweep (one_more_row plan is_plan)
        (two_places plan)
        (subst (Pool plan (word_in x) p now.free now.named now.sweep) stood (shown.pools.seats p inside))

    less_of : (u : Update) (step : Step) → now.stand ≡ S.Goes u step → now.answered < MOST_UPDATES
    less_of u step stood =
        let v = view plan x shown.moment shown.word_at shown.cut shown.tied in
        few_in u step (subst (Seated plan v p) stood (shown.shows.seats p inside))
      where
        few_in : (w : Update) (s : Step) → Seated plan (view plan x shown.moment shown.word_at shown.cut shown.tied)
            p (S.Goes w s) → now.answered < MOST_UPDATES
        few_in w s k = k.0.few

    update_step : (u : Update) (step : Step) → now.stand ≡ S.Goes u step →
        GoesOn (seat_in (ticked (goes plan x p now u step)) p).stand → Counts plan (ticked (goes plan x p now u step))
    update_step u step stood live = by step stood live
      where
        less : now.answered < MOST_UPDATES
        less = less_of u step stood

        next : (s : Step) → Fate
        next s = fate (ample plan) p now u s (found_by (deed_of (ample plan) p now u s) x.store)

        store : (s : Step) → W.Store
        store s = store_after (deed_of (ample plan) p now u s) x.store

        answers : (f : Fate) → List Answer
        answers f = answers_after x p u.call (stepped now.course) f

        -- nothing is counted
        plainly : (s : Step) →
            Counts plan (ticked (with_seat x p (store s) (seat_after now u (next s)) (answers (next s))))
        plainly s = moves (store s) (seat_after now u (next s)) (answers (next s))
            (after now u (next s) [] (sym (append-nil now.free)) refl refl time_was less)

        swept_answered : (f : SweepFate) → (swept now f).answered ≡ now.answered
        swept_answered (SweepsOn kept sweep) = refl
        swept_answered (Swept kept gone) = refl

        freed : SweepFate → List ℕ
        freed (SweepsOn kept sweep) = []
        freed (Swept kept gone) = rows_of gone

        swept_free : (f : SweepFate) → (swept now f).free ≡ now.free ++ freed f
        swept_free (SweepsOn kept sweep) = sym (append-nil now.free)
        swept_free (Swept kept gone) = refl

        swept_time : (f : SweepFate) → (swept now f).time ≤ x.clock + 1
        swept_time (SweepsOn kept sweep) = time_was
        swept_time (Swept kept gone) = time_was

        by : (s : Step) → now.stand ≡ S.Goes u s → GoesOn (seat_in (ticked (goes plan x p now u s)) p).stand →
            Counts plan (ticked (goes plan x p now u s))
        by (S.Sweeps rows) at live_then =
            let f = sweep_fate_of (ample plan) p now.sweep (found_by (sweep_deed now.sweep) x.store) in
            moves (store (S.Sweeps rows)) (seat_after (swept now f) u (next (S.Sweeps rows)))
            (answers (next (S.Sweeps rows)))
            (after (swept now f) u (next (S.Sweeps rows)) (freed f) (swept_free f)
            (swept_known now f) (swept_answered f) (swept_time f) less)
        by (S.Exchange attempt found) at live_then =
            moves (store (S.Exchange attempt found)) (then (word == attempt.word))
            (answers (cond (word == attempt.word) reply (lost attempt.turn)))
            (go (word == attempt.word)
            (subst (λ (s : SeatNow). GoesOn s.stand)
            (mine (store (S.Exchange attempt found)) (then (word == attempt.word))
            (answers (cond (word == attempt.word) reply (lost attempt.turn)))) live_then))
          where
            word : ℕ
            word = x.store.bucket (bucket_of_update (ample plan) u)

            reply : Fate
            reply = reply_by p (made (ample plan) attempt found)

            then : Bool → SeatNow
            then c = seat_after (cond c (with_published now (bucket_of_update (ample plan) u)) now) u
                (cond c reply (lost attempt.turn))

            go : (c : Bool) → GoesOn (then c).stand → Few (x.clock + 1) (then c)
            go true l = published u (slice_index_or (made (ample plan) attempt found).replies p None) less
                (three_left u attempt found at) l
            go false l = after now u (lost attempt.turn) [] (sym (append-nil now.free)) refl refl time_was less
        by S.StoreAsking at live_then =
            moves (store S.StoreAsking) (seat_after (record now { time = now.time + 1 }) u (On S.HeldWord)) x.answers
            (after (record now { time = now.time + 1 }) u (On S.HeldWord) [] (sym (append-nil now.free)) refl refl
            (let t = (counts p inside).time in omega (arith, t)) less)
        by (S.StoreOp i) at live_then = plainly (S.StoreOp i)
        by S.Announce at live_then = plainly S.Announce
        by (S.LoadWord turn) at live_then = plainly (S.LoadWord turn)
        by (S.LoadRow turn word words) at live_then = plainly (S.LoadRow turn word words)
        by (S.CheckRow turn word words) at live_then = plainly (S.CheckRow turn word words)
        by (S.LoadAnnounced attempt found) at live_then = plainly (S.LoadAnnounced attempt found)
        by (S.LoadOp attempt found announced words) at live_then = plainly (S.LoadOp attempt found announced words)
        by (S.StoreRow attempt found i) at live_then = plainly (S.StoreRow attempt found i)
        by S.StoreWant at live_then = plainly S.StoreWant
        by S.HeldWord at live_then = plainly S.HeldWord
        by (S.TakeHold word) at live_then = plainly (S.TakeHold word)
        by (S.HeldNumber held) at live_then = plainly (S.HeldNumber held)
        by (S.HeldReply held) at live_then = plainly (S.HeldReply held)
        by S.Stuck at live_then = plainly S.Stuck

    -- ---- looks

    look_step : (aim : Aim) (glance : Glance) → Counts plan (ticked (glances plan x p now aim glance))
    look_step aim glance = moves (store_after deed x.store) (look_after now aim glance next)
        (look_answers (ample plan) x p aim (stepped now.course) next) (by next)
      where
        deed : S.Deed
        deed = glance_deed (ample plan) p now.time aim glance

        next : GlanceFate
        next = glance_fate (ample plan) now.time aim glance (found_by deed x.store)

        was : Few x.clock now
        was = counts p inside

        one_more : (g : Glance) → time_after now.time g ≤ now.time + 1
        one_more S.GlanceAsking = omega arith
        one_more (S.GlanceWord left) = omega arith
        one_more (S.GlanceCount source) = omega arith
        one_more (S.GlanceItem source scan) = omega arith
        one_more (S.GlanceCheck left word kept) = omega arith
        one_more S.GlanceWant = omega arith
        one_more S.GlanceHeld = omega arith
        one_more (S.GlanceTake word) = omega arith

        by : (f : GlanceFate) → Few (x.clock + 1) (look_after now aim glance f)
        by (Looks on) = record {
          generations = was.generations;
          first = was.first;
          second = was.second;
          some = was.some;
          answered = was.answered;
          time = (let t = was.time in let one = one_more glance in omega (arith, t, one));
        }
        by (Shows items) = record {
          generations = was.generations;
          first = was.first;
          second = was.second;
          some = was.some;
          answered = was.answered;
          time = time_was;
        }
        by Disturbed = record {
          generations = was.generations;
          first = was.first;
          second = was.second;
          some = was.some;
          answered = was.answered;
          time = time_was;
        }

    -- ---- begins

    look_first : (aim : Aim) → Counts plan (ticked (look_begins x p now aim))
    look_first aim = moves x.store
        (record now { stand = S.Glances aim (S.GlanceWord (LOOK_TRIES - 1)); course = course_from x.clock }) x.answers
        (record {
          generations = (counts p inside).generations;
          first = (counts p inside).first;
          second = (counts p inside).second;
          some = (counts p inside).some;
          answered = (counts p inside).answered;
          time = time_was;
        })

    taken_same : (named : List (ℕ × ℕ)) (sweep : Option Sweep) →
        ((sweep_begins named sweep now).answered ≡ now.answered) × ((sweep_begins named sweep now).time ≡ now.time)
    taken_same named (Some sweep) = (refl, refl)
    taken_same [] None = (refl, refl)
    taken_same (r ∷ named) None = (refl, refl)

    taken_free : (named : List (ℕ × ℕ)) (sweep : Option Sweep) → (sweep_begins named sweep now).free ≡ now.free
    taken_free named (Some sweep) = refl
    taken_free [] None = refl
    taken_free (r ∷ named) None = refl

    update_first : (call : Call) → Counts plan (ticked (update_begins x p now call))
    update_first call =
        let taken = sweep_begins now.named now.sweep now in
        let next = first_fate now.free taken.sweep in
        let same = taken_same now.named now.sweep in
        moves x.store (record taken { stand = stand_at (next_update now call) next; course = course_from x.clock })
        (answers_after x p call (course_from x.clock) next)
        (alike x.clock now
        (record taken { stand = stand_at (next_update now call) next; course = course_from x.clock })
        (begin_known now.named now.sweep now) (taken_free now.named now.sweep) same.0 same.1 (counts p inside))

    call_first : (call : Call) → Counts plan (ticked (call_begins x p now call))
    call_first (Lookup key) = look_first (OfKey key)
    call_first (Insert key value) = update_first (Insert key value)
    call_first (Remove key) = update_first (Remove key)
    call_first (Tally key amount) = update_first (Tally key amount)
    call_first (Count key value amount) = update_first (Count key value amount)
    call_first (Put key value) = update_first (Put key value)

    seat_goes : (stand : Stand) → now.stand ≡ stand → IsFlying stand →
        GoesOn (seat_in (ticked (goes_on plan x p now stand)) p).stand →
        Counts plan (ticked (goes_on plan x p now stand))
    seat_goes S.Idle e flies live = absurd flies
    seat_goes (S.Goes u step) e flies live = update_step u step e live
    seat_goes (S.Glances aim glance) e flies live = look_step aim glance

    seat_acts : (what : What) → Fits plan now what → GoesOn (seat_in (ticked (act plan x p now what)) p).stand →
        Counts plan (ticked (act plan x p now what))
    seat_acts (Begin call) fits live = call_first call
    seat_acts (Copy bucket) fits live = look_first (OfBucket bucket)
    seat_acts Step_on fits live = seat_goes now.stand refl fits live

  -- ---- readers

  reader_goes : (r : ℕ) (stand : Peeking) → Counts plan (ticked (peeks_on plan x r (x.readers r) stand))
  reader_goes r S.Rests q less = later x.clock (seat_in x q) (counts q less)
  reader_goes r (S.Peeks aim glance) q less = later x.clock (seat_in x q) (counts q less)

  -- each event
  counts_keep : (event : Event) → IsEvent plan x event → IsShown plan (happens plan x event) →
      Counts plan (happens plan x event)
  counts_keep (OfSeat p what) fits next =
      let test = lt-ltb p plan.settings.seats fits.0 in
      let live = shown_goes_on plan (happens plan x (OfSeat p what)) next p fits.0 in
      subst (λ (b : Bool). Counts plan (cond b (ticked (act plan x p (seat_in x p) what)) x)) (sym test)
      (seat_acts p fits.0 what fits.1
      (subst (λ (b : Bool). GoesOn (seat_in (cond b (ticked (act plan x p (seat_in x p) what)) x) p).stand) test live))
  counts_keep (OfReader r (Open aim tries)) fits next = λ q less. later x.clock (seat_in x q) (counts q less)
  counts_keep (OfReader r Peek_on) fits next = reader_goes r (x.readers r).stand

  -- so a bucket word is small
  small : CountsAreSmall plan x
  small = record {
    answered = λ q less. (counts q less).answered;
    generations = λ q row less. (counts q less).generations row;
    times = λ q less. (counts q less).time;
    words = words;
  }
    where
      words : (b : ℕ) → b < buckets_of plan.settings → x.store.bucket b < 2 ^ 64
      words b less =
          let r : ℕ = word_in x b in
          let owner : ℕ = owner_in plan r in
          let few = counts owner (shown.pools.placed b less).owned in
          let old = shown.marks.old b less in
          let most = few.generations r in
          let all = few.answered in
          let low : generation_in (x.store.bucket b) < 2 ^ 47 = omega (arith, old, most, all) in
          (div-lt_iff_lt-mul {k = 2 ^ 17} {x = x.store.bucket b} {y = 2 ^ 47} (omega arith)).0 low

counts_open : (plan : Plan) → IsPlan plan → Counts plan (opening_world plan)
counts_open plan is q less = subst (Few 0) (sym (seat_is plan is q less)) (record {
  generations = λ row. omega arith;
  first = omega arith;
  second = omega arith;
  some = some_free;
  answered = omega arith;
  time = omega arith;
})
  where
    -- more rows than are named
    some_free : 2 ≤ length (opening_seat plan q).free
    some_free =
        let pool = subst (PoolOf plan (word_in (opening_world plan)) q) (seat_is plan is q less)
        ((opening_shown plan is).pools.seats q less) in
        let room = pool.room in
        let all = pool.lists.all in
        omega (arith, room, all, one_more_row plan is, two_places plan)

counts_follow : (plan : Plan) → IsPlan plan → (events : List Event) (x : Lasting) → IsShown plan x → Counts plan x →
    AreEvents plan x events → CountsAreSmall plan (fold (happens plan) x events)
counts_follow plan is [] x shown counts follow = small plan is x shown counts
counts_follow plan is (event ∷ events) x shown counts follow =
    let next = (steps_are_shown plan x event is follow.0 shown).next in
    counts_follow plan is events (happens plan x event) next (counts_keep plan is x shown counts event follow.0 next)
    follow.1

-- THE RESULT
pub counts_are_small : AllCountsAreSmall
counts_are_small plan events run =
    counts_follow plan run.opened events (opening_world plan) (opening_shown plan run.opened)
    (counts_open plan run.opened) run.follow
