-- Each event keeps the rows apart, and touches no row but one that is with its seat. No update is refused.
use Rattle.std.proofs.Common.{◌≡◌, ℕ, ◌+◌, ◌-◌, ◌<◌, ◌≤◌, inl, inr, Bool, true, false, cond, List, [], ◌∷◌, ◌++◌, length, drop, Option, Some, None, refl, sym, ap, ◌∙◌, subst, arith, lt-ltb}
use Rattle.std.specs.Prelude.{◌==◌}
use Rattle.std.proofs.lemmas.Bool.{cases_Bool, eqb-true}
use Rattle.std.proofs.lemmas.List.Elements.{All-nil, All-cons, All-append}
use Rattle.list_laws.proofs.Totals.{many}
use Rattle.plain_map.specs.declared.calls.Call.{Call}
use Rattle.plain_map.specs.declared.calls.Call.TheVariants.{Insert, Remove, Lookup, Tally, Count, Put}
use Rattle.plain_map.specs.declared.keys.Pair.{Pair}
use Rattle.plain_map.specs.Calls.{key_in}
use Rattle.word_rows.specs.Memory.{put}
use Rattle.exchange_model.specs.Plans.{Plan, IsPlan, holders_of, buckets_of}
use Rattle.exchange_model.specs.Codes.{tag, generation_in, row_in}
use Rattle.exchange_model.specs.Laws.{IsTaken}
use Rattle.exchange_model.specs.Words as W
use Rattle.exchange_model.specs.Words.{with_word}
use Rattle.exchange_model.specs.Steps as S
use Rattle.exchange_model.specs.Steps.{Step, Stand, Scan, SeatNow, ReaderNow, Peeking, Try, Found, Course, Aim, OfKey, OfBucket, Glance, deed_of, glance_deed, scan_deed, bucket_of_call, made, next_row, next_tag}
use Rattle.exchange_model.specs.Goes.{ScanFate, ScansOn, Scanned, scan_fate_of, scanned, scan_begins, seats_from, Fate, On, Ends, Spends, Refuses, with_free, first_fate, after_scan, is_announced, ends_with, lost, reply_for, fate, exchanged, GlanceFate, Looks, Shows, Disturbed, glance_fate, told_by_items, asked_by_aim, Asked, Called, Told, Replied, Again, Spent}
use Rattle.exchange_model.specs.Worlds.{World, Answer, Asker, BySeat, ByReader, seat_in, with_seat, ticked, found_by, store_after, seat_after, answers_after, with_answer, stepped, made_by_step, CanBegin, goes, glances, look_after, look_answers, course_from, stand_at, update_begins, look_begins, happens, act, peek_acts, peek_after, peek_answers, Event, OfSeat, OfReader, IsEvent, What, Begin, Copy, Step_on, Peek, Open, Peek_on, LOOK_TRIES, call_begins, goes_on, IsFlying, Fits, with_reader, IsPeeking, peeks_on, PeekFits}
use Rattle.exchange_laws.proofs.RowLists.{is_row, first_there}
use Rattle.exchange_laws.proofs.Words.{bucket_small}
use Rattle.exchange_laws.proofs.Owned.{Rows, Private, PrivateOf, Room, Scanning, AtSeat, Owned, left_of, held_of, needs, needs_at, IsScan, IsScanning, regrouped}
use Rattle.exchange_laws.proofs.OwnedScans.{Good, seat_of, scan_good, from_seat}
use Rattle.exchange_laws.proofs.OwnedSteps.{Needs, IsPlain, IsStill, plain_needs, replied, lost_needs, quiet_words, quiet_step, quiet_scan, quiet_glance}
use Rattle.exchange_laws.proofs.OwnedMoves.{Stays, Stores, Exchanges, Keeps, AllTaken, quietly, exchanged_owned, given_with}

-- with one answer more
one_taken : (x : World) (by : Asker) (asked : Asked) (told : Told) (course : Course) → AllTaken x.answers →
    IsTaken told → AllTaken (with_answer x by asked told course)
one_taken x by asked told course all this =
    let a : Answer = record {
      by = by;
      asked = asked;
      told = told;
      began = course.began;
      ended = x.clock + 1;
      steps = course.steps;
    } in
    All-append (λ (b : Answer). IsTaken b.told) x.answers (a ∷ []) all
    (All-cons (λ (b : Answer). IsTaken b.told) a [] this (All-nil (λ (b : Answer). IsTaken b.told)))

-- an update goes on, or is answered
abbrev IsGoing : Fate → Type 0
IsGoing Refuses = ⊥
IsGoing next = Unit {0}

going : (most : ℕ) (next : Fate) → Needs most next → IsGoing next
going most (On step) n = tt
going most (Ends reply) n = tt
going most Spends n = tt
going most Refuses n = absurd n

-- where a row is free an update begins its first try
with_some : (free : List ℕ) → 1 ≤ length free → with_free free ≡ On (S.LoadWord 1)
with_some [] some = absurd (omega (arith, some))
with_some (row ∷ free) some = refl

told_taken : (plan : Plan) (aim : Aim) (items : List Pair) →
    IsTaken (told_by_items plan aim items)
told_taken plan (OfKey key) items = tt
told_taken plan (OfBucket bucket) items = tt

module _ (plan : Plan) (is_plan : IsPlan plan) (x : World) (h : Owned plan x) where
  module _ (p : ℕ) (inside : p < holders_of plan.settings) where
    abbrev me : SeatNow
    me = seat_in x p

    -- where no scan is under way, none is
    unscanned : (stand : Stand) (scan : Option Scan) → Room plan p stand me.free me.kept scan →
        (IsScanning stand → ⊥) → scan ≡ None
    unscanned stand None room still = refl
    unscanned stand (Some (S.Seats k left held)) room still = absurd (still room.stands)
    unscanned stand (Some (S.Sees k t left held)) room still = absurd (still room.stands)
    unscanned stand (Some (S.Loads k t bucket left held)) room still = absurd (still room.stands)
    unscanned stand (Some (S.Gives k t row left held)) room still = absurd (still room.stands)

    -- the rows of a seat that scans nothing, and how many it needs
    pub record Quiet (stand : Stand) : Type 0 where
      pub rows : Rows plan h.at p me.free me.kept [] []
      pub enough : needs stand ≤ length me.free

    pub quiet : (stand : Stand) → me.stand ≡ stand → (IsScanning stand → ⊥) → Quiet stand × (me.scan ≡ None)
    quiet stand stood still =
        let mine = h.seats p inside in
        let room : Room plan p stand me.free me.kept me.scan =
        subst (λ (s : Stand). Room plan p s me.free me.kept me.scan) stood mine.room in
        let none : me.scan ≡ None = unscanned stand me.scan room still in (
          record {
            rows = subst (λ (s : Option Scan). Rows plan h.at p me.free me.kept (left_of s) (held_of s)) none mine.rows;
            enough = (subst (λ (s : Option Scan). Room plan p stand me.free me.kept s) none room).1;
          },
          none,
        )

    -- with the rows as they were it may stand where it needs no more
    stands : (was stand : Stand) (scan : Option Scan) → scan ≡ None → Quiet was → (IsScanning stand → ⊥) →
        needs stand ≤ needs was → Private plan h.at p stand me.free me.kept scan
    stands was stand scan none q still few =
        subst (λ (s : Option Scan). Private plan h.at p stand me.free me.kept s) (sym none)
        (record { rows = q.rows; room = (still, omega (arith, q.enough, few)) })

    taken_after : (call : Call) (course : Course) (next : Fate) → IsGoing next →
        AllTaken (answers_after x p call course next)
    taken_after call course (On step) n = h.taken
    taken_after call course (Ends reply) n =
        one_taken x (BySeat p) (Called call) (Replied reply) course h.taken tt
    taken_after call course Spends n = one_taken x (BySeat p) (Called call) Spent course h.taken tt
    taken_after call course Refuses n = absurd n

    -- a seat whose rows and scan are as they were
    own_after_step : (own : SeatNow) (call : Call) (was : Stand) (next : Fate) → own.free ≡ me.free →
        own.kept ≡ me.kept →
        own.scan ≡ None → Quiet was → Needs (needs was) next → PrivateOf plan h.at p (seat_after own call next)
    own_after_step own call was next fr kp none q n = go next n
      where
        to : (stand : Stand) → (IsScanning stand → ⊥) → needs stand ≤ needs was →
            Private plan h.at p stand own.free own.kept own.scan
        to stand still few =
            subst (λ (fs : List ℕ). Private plan h.at p stand fs own.kept own.scan) (sym fr)
            (subst (λ (ks : List ℕ). Private plan h.at p stand me.free ks own.scan) (sym kp)
            (stands was stand own.scan none q still few))

        go : (f : Fate) → Needs (needs was) f → PrivateOf plan h.at p (seat_after own call f)
        go (On step) n = to (S.Goes call step) n.0 n.1
        go (Ends reply) n = to S.Idle (λ s. s) (omega arith)
        go Spends n = to S.Idle (λ s. s) (omega arith)
        go Refuses n = absurd n

    -- ---- steps that are neither of a scan nor exchanges

    module _ (call : Call) (of_seat : p < plan.settings.seats) where
      abbrev word_of : Step → ℕ
      word_of step = found_by (deed_of plan p me call step) x.store

      abbrev next_of : Step → Fate
      next_of step = fate plan p me call step (word_of step)

      abbrev then_of : (own : SeatNow) → Step → World
      then_of own step = ticked (with_seat x p (store_after (deed_of plan p me call step) x.store)
          (seat_after own call (next_of step)) (answers_after x p call (stepped me.course) (next_of step))
          (x.made ++ made_by_step plan p call step (word_of step)))

      plainly : (own : SeatNow) (step : Step) → me.stand ≡ S.Goes call step → IsPlain step → IsStill step →
          (IsScan step → ⊥) → own.free ≡ me.free → own.kept ≡ me.kept → own.scan ≡ me.scan →
          Keeps plan x (then_of own step) h.at
      plainly own step stood o n still fr kp sc =
          let q = quiet (S.Goes call step) stood still in
          let same = quiet_words (deed_of plan p me call step) x.store (quiet_step plan p me call step n) in
          let leads : Needs (needs_at step) (next_of step) = plain_needs plan p me call step (word_of step) o in
          record {
            owned = quietly plan is_plan x h p inside (store_after (deed_of plan p me call step) x.store) same.0
                (seat_after own call (next_of step)) (answers_after x p call (stepped me.course) (next_of step))
                (x.made ++ made_by_step plan p call step (word_of step))
                (own_after_step own call (S.Goes call step) (next_of step) fr kp (sc ∙ q.1) q.0 leads)
                (taken_after call (stepped me.course) (next_of step) (going (needs_at step) (next_of step) leads));
            moves = Stays same.0 same.1;
          }

      -- a word of the next row is stored
      storing : (attempt : Try) (found : List Found) (i : ℕ) → me.stand ≡ S.Goes call (S.StoreRow attempt found i) →
          Keeps plan x (then_of me (S.StoreRow attempt found i)) h.at
      storing attempt found i stood =
          let step = S.StoreRow attempt found i in
          let q = quiet (S.Goes call step) stood (λ s. s) in
          let leads : Needs 1 (next_of step) = plain_needs plan p me call step (word_of step) tt in
          let there = first_there me.free q.0.enough in
          record {
            owned = quietly plan is_plan x h p inside (store_after (deed_of plan p me call step) x.store) refl
                (seat_after me call (next_of step)) (answers_after x p call (stepped me.course) (next_of step))
                (x.made ++ []) (own_after_step me call (S.Goes call step) (next_of step) refl refl q.1 q.0 leads)
                (taken_after call (stepped me.course) (next_of step) (going 1 (next_of step) leads));
            moves = Stores p (next_row me) i _ inside (q.0.rows.mine (next_row me) (omega (arith, there))).0 there refl
                refl;
          }

      -- ---- an exchange

      abbrev b : ℕ
      b = bucket_of_call plan call

      exchanging : (attempt : Try) (found : List Found) → me.stand ≡ S.Goes call (S.Exchange attempt found) →
          Keeps plan x (ticked (goes plan x p me call (S.Exchange attempt found))) h.at
      exchanging attempt found stood = elim (cases_Bool (x.store.bucket b == attempt.word)) [
        | inl e ↦ subst (λ (c : Bool). Keeps plan x (after c) h.at) (sym e) (happened (eqb-true _ _ e))
        | inr e ↦ subst (λ (c : Bool). Keeps plan x (after c) h.at) (sym e) lost_it
      ]
        where
          q : Quiet (S.Goes call (S.Exchange attempt found)) × (me.scan ≡ None)
          q = quiet (S.Goes call (S.Exchange attempt found)) stood (λ s. s)

          small : b < buckets_of plan.settings
          small = bucket_small plan is_plan (key_in call)

          won : Fate
          won = ends_with (is_announced attempt.turn) (reply_for p (made plan attempt found).made)

          after : Bool → World
          after c =
              let next = cond c won (lost attempt.turn) in
              ticked (with_seat x p (cond c (with_word x.store (W.Bucket b) (next_tag plan me attempt.word)) x.store)
              (seat_after (cond c (exchanged me (row_in plan attempt.word)) me) call next)
              (answers_after x p call (stepped me.course) next)
              (x.made ++ cond c (made plan attempt found).made []))

          lost_it : Keeps plan x (after false) h.at
          lost_it = record {
            owned = quietly plan is_plan x h p inside x.store refl (seat_after me call (lost attempt.turn))
                (answers_after x p call (stepped me.course) (lost attempt.turn)) (x.made ++ [])
                (own_after_step me call (S.Goes call (S.Exchange attempt found)) (lost attempt.turn) refl refl q.1 q.0
                (lost_needs attempt.turn))
                (taken_after call (stepped me.course) (lost attempt.turn)
                (going 1 (lost attempt.turn) (lost_needs attempt.turn)));
            moves = Stays refl refl;
          }

          still_then : (f : Fate) → Needs 0 f →
              (IsScanning (seat_after (exchanged me (row_in plan attempt.word)) call f).stand → ⊥)
              × (needs (seat_after (exchanged me (row_in plan attempt.word)) call f).stand ≡ 0)
          still_then (On step) n = (n.0, omega (arith, n.1))
          still_then (Ends reply) n = (λ s. s, refl)
          still_then Spends n = (λ s. s, refl)
          still_then Refuses n = absurd n

          lists_then : (f : Fate) →
              ((seat_after (exchanged me (row_in plan attempt.word)) call f).free ≡ drop 1 me.free)
              × ((seat_after (exchanged me (row_in plan attempt.word)) call f).kept
              ≡ me.kept ++ row_in plan attempt.word ∷ [])
              × ((seat_after (exchanged me (row_in plan attempt.word)) call f).scan ≡ me.scan)
          lists_then (On step) = (refl, refl, refl)
          lists_then (Ends reply) = (refl, refl, refl)
          lists_then Spends = (refl, refl, refl)
          lists_then Refuses = (refl, refl, refl)

          happened : x.store.bucket b ≡ attempt.word → Keeps plan x (after true) h.at
          happened found_it =
              let n : Needs 0 won = replied 0 (is_announced attempt.turn)
              (reply_for p (made plan attempt found).made) in
              let lists = lists_then won in
              let still = still_then won n in
              let then = seat_after (exchanged me (row_in plan attempt.word)) call won in
              let answers = answers_after x p call (stepped me.course) won in
              let taken = taken_after call (stepped me.course) won (going 0 won n) in
              let kept_is : then.kept ≡ me.kept ++ row_in plan (x.store.bucket b) ∷ [] =
              lists.1 ∙ ap (λ w. me.kept ++ row_in plan w ∷ []) (sym found_it) in
              let updates = x.made ++ (made plan attempt found).made in
              let given = given_with plan is_plan x h p inside b
              (generation_in plan attempt.word + 1) small q.0.enough q.1 then
              answers updates taken lists.0 kept_is (lists.2 ∙ q.1) still.0 still.1 in
              record {
                owned = exchanged_owned plan is_plan x h p inside b
                    (generation_in plan attempt.word + 1) small q.0.enough q.1
                    then answers updates taken lists.0 kept_is (lists.2 ∙ q.1) still.0 still.1;
                moves = Exchanges p b (next_row me) inside given.0 given.1 small
                    (ap (λ w. put x.store.bucket b (tag plan (generation_in plan w + 1) (next_row me)))
                    (sym found_it)) refl;
              }

      -- each step of an update but those of a scan
      plain_step : (step : Step) → me.stand ≡ S.Goes call step → (IsScan step → ⊥) →
          Keeps plan x (ticked (goes plan x p me call step)) h.at
      plain_step S.Scans stood n = absurd (n tt)
      plain_step (S.LoadWord turn) stood n = plainly me (S.LoadWord turn) stood tt tt n refl refl refl
      plain_step (S.LoadRow turn word words) stood n =
          plainly me (S.LoadRow turn word words) stood tt tt n refl refl refl
      plain_step (S.CheckWord turn word words) stood n =
          plainly me (S.CheckWord turn word words) stood tt tt n refl refl refl
      plain_step (S.LoadPending attempt) stood n = plainly me (S.LoadPending attempt) stood tt tt n refl refl refl
      plain_step (S.LoadAnnounced attempt found) stood n =
          plainly me (S.LoadAnnounced attempt found) stood tt tt n refl refl refl
      plain_step (S.LoadOp attempt found announced words) stood n =
          plainly me (S.LoadOp attempt found announced words) stood tt tt n refl refl refl
      plain_step (S.StoreRow attempt found i) stood n = storing attempt found i stood
      plain_step (S.Exchange attempt found) stood n = exchanging attempt found stood
      plain_step S.RaisePending stood n = plainly me S.RaisePending stood tt tt n refl refl refl
      plain_step (S.StoreOp i) stood n = plainly me (S.StoreOp i) stood tt tt n refl refl refl
      plain_step S.Announce stood n = plainly me S.Announce stood tt tt n refl refl refl
      plain_step S.StoreWant stood n = plainly me S.StoreWant stood tt tt n refl refl refl
      plain_step S.StoreAsking stood n =
          plainly (record me { time = me.time + 1 }) S.StoreAsking stood tt tt n refl refl refl
      plain_step S.HeldWord stood n = plainly me S.HeldWord stood tt tt n refl refl refl
      plain_step (S.TakeHold word) stood n = plainly me (S.TakeHold word) stood tt tt n refl refl refl
      plain_step (S.HeldHead row) stood n = plainly me (S.HeldHead row) stood tt tt n refl refl refl
      plain_step (S.HeldEntry row place left) stood n =
          plainly me (S.HeldEntry row place left) stood tt tt n refl refl refl
      plain_step (S.HeldReply row place) stood n = plainly me (S.HeldReply row place) stood tt tt n refl refl refl
      plain_step (S.GiveBack reply) stood n = plainly me (S.GiveBack reply) stood tt tt n refl refl refl
      plain_step (S.Over ending) stood n =
          plainly (record me { posted = me.posted + 1 }) (S.Over ending) stood tt tt n refl refl refl
      plain_step (S.LowerPending ending) stood n = plainly me (S.LowerPending ending) stood tt tt n refl refl refl
      plain_step S.Stuck stood n = plainly me S.Stuck stood tt tt n refl refl refl

      -- ---- scans

      -- a scan that goes on has all rows of the seat
      scans_on : (free kept : List ℕ) (scan : Scan) → free ≡ [] → kept ≡ [] →
          Good plan is_plan h.at p of_seat (ScansOn scan) →
          Private plan h.at p (S.Goes call S.Scans) free kept (Some scan)
      scans_on free kept scan no_free no_kept g =
          record {
            rows = subst (λ (fs : List ℕ). Rows plan h.at p fs kept (left_of (Some scan)) (held_of (Some scan)))
                (sym no_free)
                (subst (λ (ks : List ℕ). Rows plan h.at p [] ks (left_of (Some scan)) (held_of (Some scan)))
                (sym no_kept)
                g.0);
            room = room scan g.1;
          }
        where
          room : (s : Scan) → AtSeat plan p (seat_of s) (held_of (Some s)) →
              Room plan p (S.Goes call S.Scans) free kept (Some s)
          room (S.Seats k left held) a = record { stands = tt; no_free = no_free; no_kept = no_kept; at_seat = a }
          room (S.Sees k t left held) a = record { stands = tt; no_free = no_free; no_kept = no_kept; at_seat = a }
          room (S.Loads k t bucket left held) a =
              record { stands = tt; no_free = no_free; no_kept = no_kept; at_seat = a }
          room (S.Gives k t row left held) a =
              record { stands = tt; no_free = no_free; no_kept = no_kept; at_seat = a }

      -- one that is over has found rows enough
      scan_ends : (free kept left held : List ℕ) → free ≡ [] → kept ≡ [] →
          Good plan is_plan h.at p of_seat (Scanned left held) →
          Rows plan h.at p (free ++ left) (kept ++ held) [] [] × (1 ≤ length (free ++ left))
      scan_ends free kept left held no_free no_kept g = (
        subst (λ (fs : List ℕ). Rows plan h.at p (fs ++ left) (kept ++ held) [] []) (sym no_free)
            (subst (λ (ks : List ℕ). Rows plan h.at p left (ks ++ held) [] []) (sym no_kept) g.0),
        subst (λ (fs : List ℕ). 1 ≤ length (fs ++ left)) (sym no_free) g.1,
      )

      scanned_then : (f : ScanFate) → me.free ≡ [] → me.kept ≡ [] → Good plan is_plan h.at p of_seat f →
          PrivateOf plan h.at p (seat_after (scanned me f) call (after_scan me.free f)) × IsGoing (after_scan me.free f)
      scanned_then (ScansOn scan) no_free no_kept g = (scans_on me.free me.kept scan no_free no_kept g, tt)
      scanned_then (Scanned left held) no_free no_kept g =
          let z = scan_ends me.free me.kept left held no_free no_kept g in
          let next : with_free (me.free ++ left) ≡ On (S.LoadWord 1) = with_some (me.free ++ left) z.1 in
          subst (λ (f : Fate). PrivateOf plan h.at p (seat_after (scanned me (Scanned left held)) call f) × IsGoing f)
          (sym next) (record { rows = z.0; room = (λ s. s, z.1) }, tt)

      -- a step of a scan finds what it finds
      pub scan_going : me.stand ≡ S.Goes call S.Scans → (scan : Option Scan) → me.scan ≡ scan → (word : ℕ) →
          (me.free ≡ []) × (me.kept ≡ []) × Good plan is_plan h.at p of_seat (scan_fate_of plan p scan word)
      scan_going stood scan is word = go scan room rows
        where
          room : Room plan p (S.Goes call S.Scans) me.free me.kept scan
          room = subst (λ (s : Option Scan). Room plan p (S.Goes call S.Scans) me.free me.kept s) is
              (subst (λ (s : Stand). Room plan p s me.free me.kept me.scan) stood (h.seats p inside).room)

          rows : Rows plan h.at p me.free me.kept (left_of scan) (held_of scan)
          rows = subst (λ (s : Option Scan). Rows plan h.at p me.free me.kept (left_of s) (held_of s)) is
              (h.seats p inside).rows

          good : (s : Scan) (k : ℕ) → Scanning plan p k (S.Goes call S.Scans) me.free me.kept (held_of (Some s)) →
              seat_of s ≡ k → Rows plan h.at p me.free me.kept (left_of (Some s)) (held_of (Some s)) →
              (me.free ≡ []) × (me.kept ≡ []) × Good plan is_plan h.at p of_seat (scan_fate_of plan p (Some s) word)
          good s k c e r = (
            c.no_free,
            c.no_kept,
            scan_good plan is_plan h.at p of_seat s word
                (subst (λ (fs : List ℕ). Rows plan h.at p fs [] (left_of (Some s)) (held_of (Some s))) c.no_free
                (subst (λ (ks : List ℕ). Rows plan h.at p me.free ks (left_of (Some s)) (held_of (Some s))) c.no_kept
                r))
                (subst (λ i. AtSeat plan p i (held_of (Some s))) (sym e) c.at_seat),
          )

          go : (s : Option Scan) → Room plan p (S.Goes call S.Scans) me.free me.kept s →
              Rows plan h.at p me.free me.kept (left_of s) (held_of s) →
              (me.free ≡ []) × (me.kept ≡ []) × Good plan is_plan h.at p of_seat (scan_fate_of plan p s word)
          go None c r = absurd (c.0 tt)
          go (Some (S.Seats k left held)) c r = good (S.Seats k left held) k c refl r
          go (Some (S.Sees k t left held)) c r = good (S.Sees k t left held) k c refl r
          go (Some (S.Loads k t bucket left held)) c r = good (S.Loads k t bucket left held) k c refl r
          go (Some (S.Gives k t row left held)) c r = good (S.Gives k t row left held) k c refl r

      scan_step : me.stand ≡ S.Goes call S.Scans → Keeps plan x (ticked (goes plan x p me call S.Scans)) h.at
      scan_step stood =
          let word = found_by (scan_deed plan me.scan) x.store in
          let f = scan_fate_of plan p me.scan word in
          let g = scan_going stood me.scan refl word in
          let same = quiet_words (scan_deed plan me.scan) x.store (quiet_scan plan me.scan) in
          let then = scanned_then f g.0 g.1 g.2 in
          let next = after_scan me.free f in
          record {
            owned = quietly plan is_plan x h p inside (store_after (scan_deed plan me.scan) x.store) same.0
                (seat_after (scanned me f) call next) (answers_after x p call (stepped me.course) next) (x.made ++ [])
                then.0 (taken_after call (stepped me.course) next then.1);
            moves = Stays same.0 same.1;
          }

      update_step : (step : Step) → me.stand ≡ S.Goes call step →
          Keeps plan x (ticked (goes plan x p me call step)) h.at
      update_step S.Scans stood = scan_step stood
      update_step (S.LoadWord turn) stood = plain_step (S.LoadWord turn) stood (λ s. s)
      update_step (S.LoadRow turn word words) stood = plain_step (S.LoadRow turn word words) stood (λ s. s)
      update_step (S.CheckWord turn word words) stood = plain_step (S.CheckWord turn word words) stood (λ s. s)
      update_step (S.LoadPending attempt) stood = plain_step (S.LoadPending attempt) stood (λ s. s)
      update_step (S.LoadAnnounced attempt found) stood = plain_step (S.LoadAnnounced attempt found) stood (λ s. s)
      update_step (S.LoadOp attempt found announced words) stood =
          plain_step (S.LoadOp attempt found announced words) stood (λ s. s)
      update_step (S.StoreRow attempt found i) stood = plain_step (S.StoreRow attempt found i) stood (λ s. s)
      update_step (S.Exchange attempt found) stood = plain_step (S.Exchange attempt found) stood (λ s. s)
      update_step S.RaisePending stood = plain_step S.RaisePending stood (λ s. s)
      update_step (S.StoreOp i) stood = plain_step (S.StoreOp i) stood (λ s. s)
      update_step S.Announce stood = plain_step S.Announce stood (λ s. s)
      update_step S.StoreWant stood = plain_step S.StoreWant stood (λ s. s)
      update_step S.StoreAsking stood = plain_step S.StoreAsking stood (λ s. s)
      update_step S.HeldWord stood = plain_step S.HeldWord stood (λ s. s)
      update_step (S.TakeHold word) stood = plain_step (S.TakeHold word) stood (λ s. s)
      update_step (S.HeldHead row) stood = plain_step (S.HeldHead row) stood (λ s. s)
      update_step (S.HeldEntry row place left) stood = plain_step (S.HeldEntry row place left) stood (λ s. s)
      update_step (S.HeldReply row place) stood = plain_step (S.HeldReply row place) stood (λ s. s)
      update_step (S.GiveBack reply) stood = plain_step (S.GiveBack reply) stood (λ s. s)
      update_step (S.Over ending) stood = plain_step (S.Over ending) stood (λ s. s)
      update_step (S.LowerPending ending) stood = plain_step (S.LowerPending ending) stood (λ s. s)
      update_step S.Stuck stood = plain_step S.Stuck stood (λ s. s)

      -- ---- an update begins

      started : (own : SeatNow) (course : Course) → Rows plan h.at p own.free own.kept [] [] → own.scan ≡ None →
          1 ≤ length own.free →
          PrivateOf plan h.at p
          (record own { stand = stand_at call (first_fate own.free own.scan); course = course })
          × IsGoing (first_fate own.free own.scan)
      started own course rows none some =
          let next : first_fate own.free own.scan ≡ On (S.LoadWord 1) =
          ap (first_fate own.free) none ∙ with_some own.free some in
          subst (λ (f : Fate). PrivateOf plan h.at p (record own { stand = stand_at call f; course = course })
          × IsGoing f)
          (sym next) (
            subst (λ (s : Option Scan). Private plan h.at p (S.Goes call (S.LoadWord 1)) own.free own.kept s) (sym none)
                (record { rows = rows; room = (λ s. s, some) }),
            tt,
          )

      pub begun : (course : Course) → Quiet S.Idle → me.scan ≡ None → (free : List ℕ) → me.free ≡ free →
          (let taken = scan_begins plan p free me in
          let next = first_fate taken.free taken.scan in
          PrivateOf plan h.at p (record taken { stand = stand_at call next; course = course }) × IsGoing next)
      begun course q none (row ∷ free) is =
          started me course q.rows none (let long = ap (λ (fs : List ℕ). length fs) is in omega (arith, long))
      begun course q none [] is = go (seats_from plan p 0 me.kept [])
          (from_seat plan is_plan h.at p of_seat 0 me.kept [] (record {
            rows = regrouped plan h.at p me.free me.kept [] [] [] [] me.kept [] q.rows
                (λ row. (let no_free = ap (λ (fs : List ℕ). many (is_row row) fs) is in omega (arith, no_free)))
                (let no_free = ap (λ (fs : List ℕ). length fs) is in omega (arith, no_free));
            within = omega arith;
            few = omega arith;
            past_own = λ less. absurd (omega (arith, less));
          }))
        where
          go : (f : ScanFate) → Good plan is_plan h.at p of_seat f →
              (let taken = scanned (record me { kept = [] }) f in
              let next = first_fate taken.free taken.scan in
              PrivateOf plan h.at p (record taken { stand = stand_at call next; course = course }) × IsGoing next)
          go (ScansOn scan) g = (scans_on me.free [] scan is refl g, tt)
          go (Scanned left held) g =
              let z = scan_ends me.free [] left held is refl g in
              started (scanned (record me { kept = [] }) (Scanned left held)) course z.0 refl z.1

      update_first : me.stand ≡ S.Idle → Keeps plan x (ticked (update_begins plan x p me call)) h.at
      update_first stood =
          let q = quiet S.Idle stood (λ s. s) in
          let course = course_from x.clock in
          let taken = scan_begins plan p me.free me in
          let next = first_fate taken.free taken.scan in
          let b = begun course q.0 q.1 me.free refl in
          record {
            owned = quietly plan is_plan x h p inside x.store refl
                (record taken { stand = stand_at call next; course = course })
                (answers_after x p call course next) x.made
                b.0 (taken_after call course next b.1);
            moves = Stays refl refl;
          }

    -- ---- looks

    looked_on : (aim : Aim) (was : Glance) (next : GlanceFate) → me.stand ≡ S.Glances aim was →
        PrivateOf plan h.at p (look_after me aim was next)
    looked_on aim was next stood = go next
      where
        q : Quiet (S.Glances aim was) × (me.scan ≡ None)
        q = quiet (S.Glances aim was) stood (λ s. s)

        to : (stand : Stand) → (IsScanning stand → ⊥) → needs stand ≤ 0 →
            Private plan h.at p stand me.free me.kept me.scan
        to stand still few = stands (S.Glances aim was) stand me.scan q.1 q.0 still few

        go : (f : GlanceFate) → PrivateOf plan h.at p (look_after me aim was f)
        go (Looks glance) = to (S.Glances aim glance) (λ s. s) (omega arith)
        go (Shows items) = to S.Idle (λ s. s) (omega arith)
        go Disturbed = to (S.Glances aim S.GlanceWant) (λ s. s) (omega arith)

    look_taken : (aim : Aim) (course : Course) (next : GlanceFate) → AllTaken (look_answers plan x p aim course next)
    look_taken aim course (Looks glance) = h.taken
    look_taken aim course (Shows items) =
        one_taken x (BySeat p) (asked_by_aim aim) (told_by_items plan aim items) course h.taken
        (told_taken plan aim items)
    look_taken aim course Disturbed = h.taken

    look_step : (aim : Aim) (glance : Glance) → me.stand ≡ S.Glances aim glance →
        Keeps plan x (ticked (glances plan x p me aim glance)) h.at
    look_step aim glance stood =
        let deed = glance_deed plan p me.time aim glance in
        let next = glance_fate plan me.time aim glance (found_by deed x.store) in
        let same = quiet_words deed x.store (quiet_glance plan p me.time aim glance) in
        record {
          owned = quietly plan is_plan x h p inside (store_after deed x.store) same.0 (look_after me aim glance next)
              (look_answers plan x p aim (stepped me.course) next) x.made (looked_on aim glance next stood)
              (look_taken aim (stepped me.course) next);
          moves = Stays same.0 same.1;
        }

    look_first : (aim : Aim) → me.stand ≡ S.Idle → Keeps plan x (ticked (look_begins x p me aim)) h.at
    look_first aim stood =
        let q = quiet S.Idle stood (λ s. s) in
        let stand = S.Glances aim (S.GlanceWord (LOOK_TRIES - 1)) in
        record {
          owned = quietly plan is_plan x h p inside x.store refl
              (record me { stand = stand; course = course_from x.clock }) x.answers x.made
              (stands S.Idle stand me.scan q.1 q.0 (λ s. s) (omega arith)) h.taken;
          moves = Stays refl refl;
        }

    -- ---- events of a seat

    call_first : (call : Call) → me.stand ≡ S.Idle → CanBegin plan p me call →
        Keeps plan x (ticked (call_begins plan x p me call)) h.at
    call_first (Lookup key) stood can = look_first (OfKey key) stood
    call_first (Insert key value) stood can = update_first (Insert key value) can.0 stood
    call_first (Remove key) stood can = update_first (Remove key) can.0 stood
    call_first (Tally key amount) stood can = update_first (Tally key amount) can.0 stood
    call_first (Count key value amount) stood can = update_first (Count key value amount) can.0 stood
    call_first (Put key value) stood can = update_first (Put key value) can.0 stood

    seat_goes : (stand : Stand) → me.stand ≡ stand → IsFlying plan p stand →
        Keeps plan x (ticked (goes_on plan x p me stand)) h.at
    seat_goes S.Idle e flies = absurd flies
    seat_goes (S.Goes call step) e flies = update_step call flies step e
    seat_goes (S.Glances aim glance) e flies = look_step aim glance e

    seat_acts : (what : What) → Fits plan p me what → Keeps plan x (ticked (act plan x p me what)) h.at
    seat_acts (Begin call) fits = call_first call fits.0 fits.1
    seat_acts (Copy bucket) fits = look_first (OfBucket bucket) fits.0
    seat_acts Step_on fits = seat_goes me.stand refl fits

  -- ---- readers

  read_by : (r : ℕ) (then : ReaderNow) (answers : List Answer) → AllTaken answers →
      Keeps plan x (ticked (with_reader x r then answers)) h.at
  read_by r then answers taken = record {
    owned = record { long = h.long; at = h.at; words = h.words; seats = h.seats; taken = taken };
    moves = Stays refl refl;
  }

  peek_taken : (r : ℕ) (aim : Aim) (course : Course) (next : GlanceFate) →
      AllTaken (peek_answers plan x r aim course next)
  peek_taken r aim course (Looks glance) = h.taken
  peek_taken r aim course (Shows items) =
      one_taken x (ByReader r) (asked_by_aim aim) (told_by_items plan aim items) course h.taken
      (told_taken plan aim items)
  peek_taken r aim course Disturbed = one_taken x (ByReader r) (asked_by_aim aim) Again course h.taken tt

  reader_goes : (r : ℕ) (stand : Peeking) → IsPeeking stand →
      Keeps plan x (ticked (peeks_on plan x r (x.readers r) stand)) h.at
  reader_goes r S.Rests flies = absurd flies
  reader_goes r (S.Peeks aim glance) flies =
      let deed = glance_deed plan 0 0 aim glance in
      let next = glance_fate plan 0 aim glance (found_by deed x.store) in
      read_by r (peek_after (x.readers r) aim next) (peek_answers plan x r aim (stepped (x.readers r).course) next)
      (peek_taken r aim (stepped (x.readers r).course) next)

  reader_acts : (r : ℕ) (peek : Peek) → PeekFits plan (x.readers r) peek →
      Keeps plan x (ticked (peek_acts plan x r (x.readers r) peek)) h.at
  reader_acts r (Open aim tries) fits =
      read_by r (record { stand = S.Peeks aim (S.GlanceWord (tries - 1)); course = course_from x.clock }) x.answers
      h.taken
  reader_acts r Peek_on fits = reader_goes r (x.readers r).stand fits

  -- THE RESULT
  pub event_keeps : (event : Event) → IsEvent plan x event → Keeps plan x (happens plan x event) h.at
  event_keeps (OfSeat p what) fits =
      subst (λ (b : Bool). Keeps plan x (cond b (ticked (act plan x p (seat_in x p) what)) x) h.at)
      (sym (lt-ltb p (holders_of plan.settings) fits.0)) (seat_acts p fits.0 what fits.1)
  event_keeps (OfReader r peek) fits = reader_acts r peek fits
