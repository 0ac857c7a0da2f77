-- A seat's lookup or copy tells what its bucket had at one moment of the call, by its tries as a reader's does, and
-- under its hold: each row that it may have met since it asked is as it was when it stood in the word of the bucket.
use Rattle.std.proofs.Common.{◌≡◌, ◌≢◌, ℕ, ◌+◌, ◌-◌, ◌<◌, ◌≤◌, inl, inr, Bool, true, false, cond, List, [], ◌∷◌, ◌++◌, length, Option, Some, None, refl, sym, ap, ◌∙◌, subst, arith, append_assoc, append-nil, lt-ltb, get_or-set_same, get_or-set_other}
use Rattle.std.specs.Prelude.{◌==◌, All, fold, slice_index_or}
use Rattle.std.proofs.lemmas.Bool.{cases_eq}
use Rattle.std.proofs.lemmas.List.{length-append}
use Rattle.std.proofs.lemmas.List.Elements.{All-nil, All-cons, All-append, All-weaker}
use Rattle.plain_map.specs.declared.calls.Call.{Call}
use Rattle.plain_map.specs.declared.calls.Call.TheVariants.{Insert, Remove, Lookup, Tally, Count, Put}
use Rattle.plain_map.specs.declared.keys.Pair.{Pair}
use Rattle.plain_map.specs.Updates.{IsUpdate}
use Rattle.word_rows.proofs.MemoryLemmas.{put_same, put_other}
use Rattle.lasting_model.specs.Plans.{Plan, IsPlan, ample}
use Rattle.lasting_model.specs.Codes.{tag, asking, holding, row_in, held_row, count_in, count_place, item_place, pairs_of_row}
use Rattle.lasting_model.specs.Laws.{IsOfMoment, IsLook, LooksAreOfMoments}
use Rattle.lasting_model.specs.Words as W
use Rattle.lasting_model.specs.Worlds as L
use Rattle.lasting_model.specs.Words.{with_word}
use Rattle.lasting_model.specs.Steps as S
use Rattle.lasting_model.specs.Steps.{Stand, Aim, OfKey, OfBucket, Source, Tried, HeldIn, Scan, Glance, Course, SeatNow, Update, Step, bucket_of_aim, glance_deed}
use Rattle.lasting_model.specs.Goes.{GlanceFate, Looks, Shows, Disturbed, Fate, On, Ends, Refuses, fate, own_after, first_fate, sweep_begins, Again, glance_fate, scan_on, scan_of, scan_fate, Asked, Called, Copied, Told, Replied, Refused, asked_by_aim, told_by_items}
use Rattle.lasting_model.specs.Worlds.{Lasting, Answer, Asker, BySeat, ByReader, Event, OfSeat, OfReader, IsEvent, AreEvents, What, Begin, Copy, Step_on, Fits, IsAim, IsFlying, seat_in, with_seat, ticked, found_by, stepped, store_after, look_after, look_answers, glances, goes, goes_on, act, update_begins, call_begins, look_begins, course_from, answers_after, seat_after, with_answer, happens, world_after, opening_world}
use Rattle.lasting_laws.proofs.Pools.{owner_in, word_in}
use Rattle.lasting_laws.proofs.Marks.{Turn}
use Rattle.lasting_laws.proofs.Holding as H
use Rattle.lasting_laws.proofs.HeldStates.{among, look_of}
use Rattle.lasting_laws.proofs.Tied.{Tied, Ties}
use Rattle.lasting_laws.proofs.HeldKept.{tied_open, reader_ties, ties_keep, idle}
use Rattle.lasting_laws.proofs.Scans.{Scans, Tells, begins, next_item, next_word}
use Rattle.lasting_laws.proofs.Turns.{Leaves, seat_leaves}
use Rattle.lasting_laws.proofs.Peeks.{KeepsPeek, Seen, Fated, fated, keeps_still, moment_still, seen_first, seen_next}

module _ (plan : Plan) where
  -- a row is as it was at one moment since the call began, when it stood in the word of the bucket
  pub record AtRow (es : List Event) (x : Lasting) (began : ℕ) (aim : Aim) (row : ℕ) : Type 0 where
    pub front : List Event
    pub back : List Event
    pub cut : es ≡ front ++ back
    pub after : began ≤ length front
    pub word_is : word_in (world_after plan front) (bucket_of_aim (ample plan) aim) ≡ row
    pub same : (i : ℕ) → x.store.row row i ≡ (world_after plan front).store.row row i

  -- each row that the seat may have met since it asked is so
  abbrev pub HeldRows : (es : List Event) (x : Lasting) (since : ℕ → ℕ → Bool) (q began : ℕ) (aim : Aim) → Type 0
  HeldRows es x since q began aim =
      (x.store.want q ≡ bucket_of_aim (ample plan) aim)
      × ((row : ℕ) → since q row ≡ true → among (seat_in x (owner_in plan row)).free row ≡ false →
      AtRow es x began aim row)

  -- what it has gone through of the items of a row under its hold
  pub record InHeld (es : List Event) (x : Lasting) (began : ℕ) (aim : Aim) (row : ℕ) (scan : Scan) : Type 0 where
    pub at : AtRow es x began aim row
    pub scans : Scans (ample plan) aim ((world_after plan at.front).store.row row) scan
    pub few : scan.item < scan.count
    pub short : length scan.part < 7

  abbrev pub KeepsLook : (es : List Event) (x : Lasting) (since : ℕ → ℕ → Bool) (q began : ℕ) (aim : Aim) → Glance →
      Type 0
  KeepsLook es x since q began aim (S.GlanceWord left) = Unit {0}
  KeepsLook es x since q began aim (S.GlanceCount (Tried left word)) =
      KeepsPeek plan es x began aim (S.GlanceCount (Tried left word))
  KeepsLook es x since q began aim (S.GlanceItem (Tried left word) scan) =
      KeepsPeek plan es x began aim (S.GlanceItem (Tried left word) scan)
  KeepsLook es x since q began aim (S.GlanceCheck left word kept) =
      KeepsPeek plan es x began aim (S.GlanceCheck left word kept)
  KeepsLook es x since q began aim S.GlanceWant = Unit {0}
  KeepsLook es x since q began aim S.GlanceAsking = x.store.want q ≡ bucket_of_aim (ample plan) aim
  KeepsLook es x since q began aim S.GlanceHeld = HeldRows es x since q began aim
  KeepsLook es x since q began aim (S.GlanceTake word) = HeldRows es x since q began aim
  KeepsLook es x since q began aim (S.GlanceCount (HeldIn row)) = HeldRows es x since q began aim
  KeepsLook es x since q began aim (S.GlanceItem (HeldIn row) scan) = InHeld es x began aim row scan

  abbrev pub Looking : (es : List Event) (x : Lasting) (since : ℕ → ℕ → Bool) (q began : ℕ) → Stand → Type 0
  Looking es x since q began S.Idle = Unit {0}
  Looking es x since q began (S.Goes u step) = IsUpdate u.call
  Looking es x since q began (S.Glances aim glance) =
      IsAim plan aim × (began ≤ length es) × KeepsLook es x since q began aim glance

  -- a try of a seat is one of a reader
  by_peek : (es : List Event) (x : Lasting) (since : ℕ → ℕ → Bool) (q began : ℕ) (aim : Aim) (glance : Glance) →
      KeepsPeek plan es x began aim glance → KeepsLook es x since q began aim glance
  by_peek es x since q began aim (S.GlanceWord left) k = tt
  by_peek es x since q began aim (S.GlanceCount (Tried left word)) k = k
  by_peek es x since q began aim (S.GlanceCount (HeldIn row)) k = absurd k
  by_peek es x since q began aim (S.GlanceItem (Tried left word) scan) k = k
  by_peek es x since q began aim (S.GlanceItem (HeldIn row) scan) k = absurd k
  by_peek es x since q began aim (S.GlanceCheck left word kept) k = k
  by_peek es x since q began aim S.GlanceWant k = absurd k
  by_peek es x since q began aim S.GlanceAsking k = absurd k
  by_peek es x since q began aim S.GlanceHeld k = absurd k
  by_peek es x since q began aim (S.GlanceTake word) k = absurd k

  -- ---- a later moment

  module _ (es : List Event) (x y : Lasting) (event : Event) (turn : Turn plan x y) (tied : Tied plan x)
      (ties : Ties plan x tied y)
      (live : (row : ℕ) → among (seat_in x (owner_in plan row)).free row ≡ false → (i : ℕ) →
      y.store.row row i ≡ x.store.row row i)
      (world : y ≡ world_after plan (es ++ event ∷ [])) where
    abbrev later : List Event
    later = es ++ event ∷ []

    long : length later ≡ length es + 1
    long = length-append es (event ∷ [])

    abbrev at_still : (began : ℕ) (aim : Aim) (row : ℕ) → AtRow es x began aim row →
        ((i : ℕ) → y.store.row row i ≡ x.store.row row i) → AtRow later y began aim row
    at_still began aim row a kept = record {
      front = a.front;
      back = a.back ++ event ∷ [];
      cut = ap (λ (xs : List Event). xs ++ event ∷ []) a.cut ∙ append_assoc a.front a.back (event ∷ []);
      after = a.after;
      word_is = a.word_is;
      same = λ i. kept i ∙ a.same i;
    }

    -- the row in use is as it is now
    at_now : (began : ℕ) (aim : Aim) (row : ℕ) → began ≤ length es →
        row ≡ word_in y (bucket_of_aim (ample plan) aim) → AtRow later y began aim row
    at_now began aim row since e = record {
      front = later;
      back = [];
      cut = sym (append-nil later);
      after = (let l = long in omega (arith, since, l));
      word_is = ap (λ (w : Lasting). word_in w (bucket_of_aim (ample plan) aim)) (sym world) ∙ sym e;
      same = λ i. ap (λ (w : Lasting). w.store.row row i) world;
    }

    module _ (q : ℕ) (began : ℕ) (since : began ≤ length es) (aim : Aim) where
      -- what a seat may have met stays, while it looks
      held_still : H.IsActive (look_of (seat_in y q).stand) → y.store.want q ≡ x.store.want q →
          HeldRows es x tied.since q began aim → HeldRows later y ties.next.since q began aim
      held_still active want h = (
        want ∙ h.0,
        λ row e f. elim (ties.step q row e f active) [
          | inl z ↦ at_still began aim row (h.1 row z.0 z.1) (live row z.1)
          | inr z ↦ at_now began aim row since (z ∙ ap (word_in y) (want ∙ h.0))
        ],
      )

      -- a look of another seat
      look_still : (glance : Glance) → (seat_in x q).stand ≡ S.Glances aim glance →
          (seat_in y q).stand ≡ S.Glances aim glance → y.store.want q ≡ x.store.want q →
          KeepsLook es x tied.since q began aim glance → KeepsLook later y ties.next.since q began aim glance
      look_still (S.GlanceWord left) was now want k = tt
      look_still (S.GlanceCount (Tried left word)) was now want k =
          keeps_still plan es x y event turn began aim (S.GlanceCount (Tried left word)) k
      look_still (S.GlanceItem (Tried left word) scan) was now want k =
          keeps_still plan es x y event turn began aim (S.GlanceItem (Tried left word) scan) k
      look_still (S.GlanceCheck left word kept) was now want k =
          keeps_still plan es x y event turn began aim (S.GlanceCheck left word kept) k
      look_still S.GlanceWant was now want k = tt
      look_still S.GlanceAsking was now want k = want ∙ k
      look_still S.GlanceHeld was now want k = held_still (subst (λ (s : Stand). H.IsActive (look_of s))
          (sym now) tt) want k
      look_still (S.GlanceTake word) was now want k =
          held_still (subst (λ (s : Stand). H.IsActive (look_of s)) (sym now) tt) want k
      look_still (S.GlanceCount (HeldIn row)) was now want k =
          held_still (subst (λ (s : Stand). H.IsActive (look_of s)) (sym now) tt) want k
      look_still (S.GlanceItem (HeldIn row) scan) was now want k = record {
        at = at_still began aim row k.at (live row (tied.holds.reads q row (ap look_of was)).1.0);
        scans = k.scans;
        few = k.few;
        short = k.short;
      }

    looking_still : (q began : ℕ) (stand : Stand) → (seat_in x q).stand ≡ stand → (seat_in y q).stand ≡ stand →
        y.store.want q ≡ x.store.want q → Looking es x tied.since q began stand →
        Looking later y ties.next.since q began stand
    looking_still q began S.Idle was now want k = tt
    looking_still q began (S.Goes u step) was now want k = k
    looking_still q began (S.Glances aim glance) was now want k =
        (k.0, (let l = long in let o = k.1 in omega (arith, l, o)), look_still q began k.1 aim glance was now want k.2)

  -- ---- runs

  pub record SeatSeen (es : List Event) (x : Lasting) : Type 0 where
    pub seen : Seen plan es x
    pub tied : Tied plan x
    pub looks : (q : ℕ) → q < plan.settings.seats →
        Looking es x tied.since q (seat_in x q).course.began (seat_in x q).stand
    pub answers : All (λ (a : Answer). IsLook plan es a a.by a.asked) x.answers

  -- what is known of the next moment by itself
  record Known (es : List Event) (x : Lasting) (tied : Tied plan x) (event : Event) (y : Lasting) : Type 0 where
    pub turn : Turn plan x y
    pub live : (row : ℕ) → among (seat_in x (owner_in plan row)).free row ≡ false → (i : ℕ) →
        y.store.row row i ≡ x.store.row row i
    pub ties : Ties plan x tied y
    pub world : y ≡ world_after plan (es ++ event ∷ [])

  look_lifts : (es : List Event) (x : Lasting) (turn : Turn plan x x) (event : Event) (a : Answer) (by : Asker)
      (asked : Asked) →
      IsLook plan es a by asked → IsLook plan (es ++ event ∷ []) a by asked
  look_lifts es x turn event a (ByReader reader) asked k = tt
  look_lifts es x turn event a (BySeat seat) (Called (Lookup key)) k = moment_still plan es x x event turn a
      (OfKey key) k
  look_lifts es x turn event a (BySeat seat) (Called (Insert key value)) k = tt
  look_lifts es x turn event a (BySeat seat) (Called (Remove key)) k = tt
  look_lifts es x turn event a (BySeat seat) (Called (Tally key amount)) k = tt
  look_lifts es x turn event a (BySeat seat) (Called (Count key value amount)) k = tt
  look_lifts es x turn event a (BySeat seat) (Called (Put key value)) k = tt
  look_lifts es x turn event a (BySeat seat) (Copied bucket) k = moment_still plan es x x event turn a
      (OfBucket bucket) k

  same_turn : (x : Lasting) → Turn plan x x
  same_turn x = record { rows = λ row. inl (λ i. refl); known = λ row. omega arith }

  update_told : (es : List Event) (p : ℕ) (a : Answer) (call : Call) → IsUpdate call →
      IsLook plan es a (BySeat p) (Called call)
  update_told es p a (Insert key value) u = tt
  update_told es p a (Remove key) u = tt
  update_told es p a (Lookup key) u = absurd u
  update_told es p a (Tally key amount) u = tt
  update_told es p a (Count key value amount) u = tt
  update_told es p a (Put key value) u = tt

  module _ (is_plan : IsPlan plan) (es : List Event) (x : Lasting) (s : SeatSeen es x) (p : ℕ)
      (inside : p < plan.settings.seats) (event : Event) where
    abbrev now : SeatNow
    now = seat_in x p

    abbrev after_it : List Event
    after_it = es ++ event ∷ []

    abbrev AllLooks : List Answer → Type 0
    AllLooks = All (λ (a : Answer). IsLook plan es a a.by a.asked)

    -- what becomes of the seat, and what it is told
    abbrev Own : W.Store → SeatNow → List Answer → Type 0
    Own store then answers = (k : Known es x s.tied event (ticked (with_seat x p store then answers))) →
        Looking after_it (ticked (with_seat x p store then answers)) k.ties.next.since p then.course.began then.stand
        × AllLooks answers

    mine : (store : W.Store) (then : SeatNow) (answers : List Answer) →
        seat_in (ticked (with_seat x p store then answers)) p ≡ then
    mine store then answers = get_or-set_same x.seats p then L.nobody (let e = s.seen.pools.long in omega
        (arith, inside, e))

    long_it : length after_it ≡ length es + 1
    long_it = length-append es (event ∷ [])

    -- one more answer
    told_more : (asked : Asked) (told : Told) (course : Course) →
        IsLook plan es (record {
          by = BySeat p;
          asked = asked;
          told = told;
          began = course.began;
          ended = x.clock + 1;
          steps = course.steps;
        }) (BySeat p) asked → AllLooks (with_answer x (BySeat p) asked told course)
    told_more asked told course is =
        let a : Answer = record {
          by = BySeat p;
          asked = asked;
          told = told;
          began = course.began;
          ended = x.clock + 1;
          steps = course.steps;
        } in
        All-append (λ (b : Answer). IsLook plan es b b.by b.asked) x.answers (a ∷ []) s.answers
        (All-cons (λ (b : Answer). IsLook plan es b b.by b.asked) a [] is
        (All-nil (λ (b : Answer). IsLook plan es b b.by b.asked)))

    -- ---- an update

    update_own : (store : W.Store) (own : SeatNow) (u : Update) (next : Fate) (course : Course) → IsUpdate u.call →
        Own store (seat_after own u next) (answers_after x p u.call course next)
    update_own store own u (On step) course update k = (update, s.answers)
    update_own store own u (Ends reply) course update k =
        (tt, told_more (Called u.call) (Replied reply) course (update_told es p _ u.call update))
    update_own store own u Refuses course update k =
        (tt, told_more (Called u.call) Refused course (update_told es p _ u.call update))

    begin_own : (taken : SeatNow) (u : Update) (next : Fate) (course : Course) → IsUpdate u.call →
        Own x.store (record taken { stand = L.stand_at u next; course = course }) (answers_after x p u.call course next)
    begin_own taken u (On step) course update k = (update, s.answers)
    begin_own taken u (Ends reply) course update k =
        (tt, told_more (Called u.call) (Replied reply) course (update_told es p _ u.call update))
    begin_own taken u Refuses course update k =
        (tt, told_more (Called u.call) Refused course (update_told es p _ u.call update))

    -- ---- a look

    module _ (aim : Aim) (was : Glance) (stood : now.stand ≡ S.Glances aim was) (is_aim : IsAim plan aim)
        (since : now.course.began ≤ length es) where
      abbrev b : ℕ
      b = bucket_of_aim (ample plan) aim

      abbrev Own_look : W.Store → GlanceFate → Type 0
      Own_look store f = Own store (look_after now aim was f) (look_answers (ample plan) x p aim (stepped now.course) f)

      abbrev look_answer : (kept : List Pair) → Answer
      look_answer kept = record {
        by = BySeat p;
        asked = asked_by_aim aim;
        told = told_by_items (ample plan) aim kept;
        began = now.course.began;
        ended = x.clock + 1;
        steps = now.course.steps + 1;
      }

      told_look : (kept : List Pair) → IsOfMoment plan es (look_answer kept) aim →
          AllLooks (look_answers (ample plan) x p aim (stepped now.course) (Shows kept))
      told_look kept is = told_more (asked_by_aim aim) (told_by_items (ample plan) aim kept) (stepped now.course)
          (by_aim aim (look_answer kept) is)
        where
          by_aim : (m : Aim) (a : Answer) → IsOfMoment plan es a m → IsLook plan es a (BySeat p) (asked_by_aim m)
          by_aim (OfKey key) a k = k
          by_aim (OfBucket bucket) a k = k

      later_since : now.course.began ≤ length after_it
      later_since = (let l = long_it in omega (arith, since, l))

      -- a try, as a reader has it
      tried : (f : GlanceFate) → Fated plan is_plan es x s.seen 0 now.course.began aim f → Own_look x.store f
      tried (Looks glance) f k = (
        (
          is_aim,
          later_since,
          by_peek after_it (ticked (with_seat x p x.store (look_after now aim was
              (Looks glance)) x.answers)) k.ties.next.since
              p now.course.began aim glance
              (keeps_still plan es x (ticked (with_seat x p x.store (look_after now aim was
              (Looks glance)) x.answers)) event
              k.turn now.course.began aim glance f),
        ),
        s.answers,
      )
      tried Disturbed f k = ((is_aim, later_since, tt), s.answers)
      tried (Shows kept) f k = (
        tt,
        told_look kept (record { front = f.0; back = f.1; cut = f.2; after = f.3; before = f.4; is = f.5 }),
      )

      -- ---- under a hold

      -- what a word of a held row leads to
      abbrev HeldFate : (row : ℕ) → AtRow es x now.course.began aim row → GlanceFate → Type 0
      HeldFate row a (Looks (S.GlanceItem source scan)) =
          (source ≡ HeldIn row) × Scans (ample plan) aim ((world_after plan a.front).store.row row) scan
          × (scan.item < scan.count) × (length scan.part < 7)
      HeldFate row a (Shows kept) = Tells (ample plan) aim ((world_after plan a.front).store.row row) kept
      HeldFate row a f = ⊥

      held_on : (row : ℕ) (a : AtRow es x now.course.began aim row) →
          among (seat_in x (owner_in plan row)).free row ≡ false → (f : GlanceFate) → HeldFate row a f →
          Own_look x.store f
      held_on row a live (Looks (S.GlanceItem source scan)) f k =
          let y = ticked (with_seat x p x.store (look_after now aim was (Looks
          (S.GlanceItem source scan))) x.answers) in (
            (
              is_aim,
              later_since,
              subst (λ (src : Source). KeepsLook after_it y k.ties.next.since p now.course.began aim
                  (S.GlanceItem src scan))
                  (sym f.0) (record {
                    at = at_still es x y event k.turn s.tied k.ties k.live k.world now.course.began aim row a
                        (k.live row live);
                    scans = f.1;
                    few = f.2;
                    short = f.3;
                  }),
            ),
            s.answers,
          )
      held_on row a live (Shows kept) f k = (
        tt,
        told_look kept (record {
          front = a.front;
          back = a.back;
          cut = a.cut;
          after = a.after;
          before = (let e = ap (λ (xs : List Event). length xs) a.cut in let l = length-append a.front a.back in
              let c = s.seen.clock in omega (arith, e, l, c));
          is = f ∙ ap (λ r. told_by_items (ample plan) aim
              (pairs_of_row (ample plan) ((world_after plan a.front).store.row r))) (sym a.word_is);
        }),
      )
      held_on row a live (Looks (S.GlanceWord left)) f k = absurd f
      held_on row a live (Looks (S.GlanceCount source)) f k = absurd f
      held_on row a live (Looks (S.GlanceCheck left word kept)) f k = absurd f
      held_on row a live (Looks S.GlanceWant) f k = absurd f
      held_on row a live (Looks S.GlanceAsking) f k = absurd f
      held_on row a live (Looks S.GlanceHeld) f k = absurd f
      held_on row a live (Looks (S.GlanceTake word)) f k = absurd f
      held_on row a live Disturbed f k = absurd f

      -- the row that it reads is not free, and it may have met it since it asked
      row_good : (row : ℕ) → look_of now.stand ≡ H.Reads row →
          (among (seat_in x (owner_in plan row)).free row ≡ false) × (s.tied.since p row ≡ true)
      row_good row look = (s.tied.holds.reads p row look).1

      -- what it may have met stays, to another step that holds
      held_to : (store : W.Store) (glance : Glance) → store.want p ≡ x.store.want p →
          H.IsActive (look_of (S.Glances aim glance)) →
          (k : Known es x s.tied event (ticked (with_seat x p store (look_after now aim was
          (Looks glance)) x.answers))) →
          HeldRows es x s.tied.since p now.course.began aim →
          HeldRows after_it (ticked (with_seat x p store (look_after now aim was (Looks glance)) x.answers))
          k.ties.next.since p now.course.began aim
      held_to store glance want active k h =
          let then = look_after now aim was (Looks glance) in
          let y = ticked (with_seat x p store then x.answers) in
          held_still es x y event k.turn s.tied k.ties k.live k.world p now.course.began since aim
          (subst (λ (q : SeatNow). H.IsActive (look_of q.stand)) (sym (mine store then x.answers)) active) want h

    abbrev fate_of : Aim → Glance → GlanceFate
    fate_of aim glance = glance_fate (ample plan) 0 aim glance (found_by (glance_deed
        (ample plan) 0 0 aim glance) x.store)

    look_own : (aim : Aim) (was : Glance) (stood : now.stand ≡ S.Glances aim was) → IsAim plan aim →
        now.course.began ≤ length es → KeepsLook es x s.tied.since p now.course.began aim was →
        (let deed = glance_deed (ample plan) p now.time aim was in
        let f = glance_fate (ample plan) now.time aim was (found_by deed x.store) in
        Own (store_after deed x.store) (look_after now aim was f) (look_answers (ample plan) x p aim
        (stepped now.course) f))
    look_own aim (S.GlanceWord left) stood is since keeps = tried aim (S.GlanceWord left) stood is since
        (fate_of aim (S.GlanceWord left))
        (fated plan is_plan es x s.seen 0 now.course.began aim (S.GlanceWord left) is since tt)
    look_own aim (S.GlanceCount (Tried left word)) stood is since keeps =
        tried aim (S.GlanceCount (Tried left word)) stood is since (fate_of aim (S.GlanceCount (Tried left word)))
        (fated plan is_plan es x s.seen 0 now.course.began aim (S.GlanceCount (Tried left word)) is since keeps)
    look_own aim (S.GlanceItem (Tried left word) scan) stood is since keeps =
        tried aim (S.GlanceItem (Tried left word) scan) stood is since (fate_of aim (S.GlanceItem
        (Tried left word) scan))
        (fated plan is_plan es x s.seen 0 now.course.began aim (S.GlanceItem (Tried left word) scan) is since keeps)
    look_own aim (S.GlanceCheck left word kept) stood is since keeps =
        tried aim (S.GlanceCheck left word kept) stood is since (fate_of aim (S.GlanceCheck left word kept))
        (fated plan is_plan es x s.seen 0 now.course.began aim (S.GlanceCheck left word kept) is since keeps)
    look_own aim S.GlanceWant stood is since keeps = λ k. (
      (
        is,
        later_since aim S.GlanceWant stood is since,
        put_same x.store.want p (bucket_of_aim
            (ample plan) aim),
      ),
      s.answers,
    )
    look_own aim S.GlanceAsking stood is since keeps = λ k.
        let then = look_after now aim S.GlanceAsking (Looks S.GlanceHeld) in
        let store = with_word x.store (W.Hold p) (asking (now.time + 1)) in
        let y = ticked (with_seat x p store then x.answers) in (
          (
            is,
            later_since aim S.GlanceAsking stood is since,
            (
              keeps,
              λ row e f. elim (k.ties.step p row e f (subst (λ (q : SeatNow). H.IsActive (look_of q.stand))
                  (sym (mine store then x.answers)) tt)) [
                    | inl z ↦ absurd (subst H.IsActive (ap look_of stood) z.2)
                    | inr z ↦ at_now es x y event k.turn s.tied k.ties k.live k.world now.course.began aim row since
                        (z ∙ ap (word_in y) keeps)
                  ],
            ),
          ),
          s.answers,
        )
    look_own aim S.GlanceHeld stood is since keeps = λ k.
        let glance = S.GlanceTake (x.store.bucket (bucket_of_aim (ample plan) aim)) in (
          (
            is,
            later_since aim S.GlanceHeld stood is since,
            held_to aim S.GlanceHeld stood is since x.store glance refl tt k keeps,
          ),
          s.answers,
        )
    look_own aim (S.GlanceTake old) stood is since keeps = go (x.store.hold p == asking now.time)
        (cond (x.store.hold p == asking now.time) (row_in old) (held_row (x.store.hold p)))
      where
        go : (c : Bool) (row : ℕ) → Own (cond c (with_word x.store (W.Hold p) (holding (row_in old))) x.store)
            (look_after now aim (S.GlanceTake old) (Looks (S.GlanceCount (HeldIn row)))) x.answers
        go true row k = (
          (
            is,
            later_since aim (S.GlanceTake old) stood is since,
            held_to aim (S.GlanceTake old) stood is since (with_word x.store (W.Hold p) (holding (row_in old)))
                (S.GlanceCount (HeldIn row)) refl tt k keeps,
          ),
          s.answers,
        )
        go false row k = (
          (
            is,
            later_since aim (S.GlanceTake old) stood is since,
            held_to aim (S.GlanceTake old) stood is since x.store (S.GlanceCount (HeldIn row)) refl tt k keeps,
          ),
          s.answers,
        )
    look_own aim (S.GlanceCount (HeldIn row)) stood is since keeps =
        held_on aim (S.GlanceCount (HeldIn row)) stood is since row at good.0
        (scan_on (HeldIn row) (scan_of (count_in (ample plan) found)))
        (subst (λ n. HeldFate aim (S.GlanceCount (HeldIn row)) stood is since row at
        (scan_on (HeldIn row) (scan_of (count_in (ample plan) n))))
        (sym (at.same (count_place (ample plan))))
        (next_item (ample plan) then_row aim (HeldIn row)
        (HeldFate aim (S.GlanceCount (HeldIn row)) stood is since row at)
        (λ scan scans few short. (refl, scans, few, short)) (λ kept tells. tells)
        (scan_of (count_in (ample plan) (then_row (count_place (ample plan))))) (begins
        (ample plan) then_row aim) refl))
      where
        good : (among (seat_in x (owner_in plan row)).free row ≡ false) × (s.tied.since p row ≡ true)
        good = row_good aim (S.GlanceCount (HeldIn row)) stood is since row (ap look_of stood)

        at : AtRow es x now.course.began aim row
        at = keeps.1 row (row_good aim (S.GlanceCount (HeldIn row)) stood is since row (ap look_of stood)).1
            (row_good aim (S.GlanceCount (HeldIn row)) stood is since row (ap look_of stood)).0

        then_row : ℕ → ℕ
        then_row = (world_after plan at.front).store.row row

        found : ℕ
        found = x.store.row row (count_place (ample plan))
    look_own aim (S.GlanceItem (HeldIn row) scan) stood is since keeps =
        held_on aim (S.GlanceItem (HeldIn row) scan) stood is since row keeps.at
        (row_good aim (S.GlanceItem (HeldIn row) scan) stood is since row (ap look_of stood)).0
        (scan_fate (HeldIn row) aim scan (x.store.row row (item_place (ample plan) scan.item (length scan.part))))
        (next_word (ample plan) ((world_after plan keeps.at.front).store.row row) aim (HeldIn row)
        (HeldFate aim (S.GlanceItem (HeldIn row) scan) stood is since row keeps.at)
        (λ after scans few short. (refl, scans, few, short)) (λ kept tells. tells) scan
        (x.store.row row (item_place (ample plan) scan.item (length scan.part))) keeps.scans keeps.few keeps.short
        (keeps.at.same (item_place (ample plan) scan.item (length scan.part))))

    -- ---- an event of the seat

    abbrev Result : Lasting → Type 0
    Result y = (k : Known es x s.tied event y) →
        ((q : ℕ) → q < plan.settings.seats → Looking after_it y k.ties.next.since q (seat_in y q).course.began
        (seat_in y q).stand) × AllLooks y.answers

    result : (store : W.Store) (then : SeatNow) (answers : List Answer) → Own store then answers →
        ((q : ℕ) → q ≢ p → store.want q ≡ x.store.want q) → Result (ticked (with_seat x p store then answers))
    result store then answers own want k =
        let y = ticked (with_seat x p store then answers) in
        let o = own k in (
          λ q h. elim (cases_eq q p) [
            | inl e ↦ subst (λ j. Looking after_it y k.ties.next.since j (seat_in y j).course.began
                (seat_in y j).stand) (sym e)
                (subst (λ (n : SeatNow). Looking after_it y k.ties.next.since p n.course.began n.stand)
                (sym (mine store then answers)) o.0)
            | inr m ↦
                let other : seat_in y q ≡ seat_in x q = get_or-set_other x.seats p q then L.nobody m in
                subst (λ (n : SeatNow). Looking after_it y k.ties.next.since q n.course.began n.stand) (sym other)
                (looking_still es x y event k.turn s.tied k.ties k.live k.world q (seat_in x q).course.began
                (seat_in x q).stand refl (ap (λ (n : SeatNow). n.stand) other) (want q m) (s.looks q h))
          ],
          o.1,
        )

    by_test : (P : W.Store → Type 0) (a : W.Store) (c : Bool) → P a → P x.store → P (cond c a x.store)
    by_test P a true pa px = pa
    by_test P a false pa px = px

    abbrev Wants_same : W.Store → Type 0
    Wants_same store = (q : ℕ) → q ≢ p → store.want q ≡ x.store.want q

    sweep_wants : (sweep : Option S.Sweep) → Wants_same (store_after (S.sweep_deed sweep) x.store)
    sweep_wants None = λ q n. refl
    sweep_wants (Some (S.Homes [] gone)) = λ q n. refl
    sweep_wants (Some (S.Homes (row ∷ todo) gone)) = λ q n. refl
    sweep_wants (Some (S.Seats k gone)) = λ q n. refl
    sweep_wants (Some (S.Sees k t gone)) = λ q n. refl
    sweep_wants (Some (S.Loads k t b gone)) = λ q n. refl
    sweep_wants (Some (S.Gives k t row gone)) =
        by_test Wants_same (with_word x.store (W.Hold k) (holding row)) (x.store.hold k == asking t) (λ q n. refl)
        (λ q n. refl)

    step_wants : (u : Update) (step : Step) → Wants_same (store_after (S.deed_of (ample plan) p now u step) x.store)
    step_wants u (S.Sweeps rows) = sweep_wants now.sweep
    step_wants u (S.StoreOp i) = λ q n. refl
    step_wants u S.Announce = λ q n. refl
    step_wants u (S.LoadWord turn) = λ q n. refl
    step_wants u (S.LoadRow turn word words) = λ q n. refl
    step_wants u (S.CheckRow turn word words) = λ q n. refl
    step_wants u (S.LoadAnnounced t found) = λ q n. refl
    step_wants u (S.LoadOp t found announced words) = λ q n. refl
    step_wants u (S.StoreRow t found i) = λ q n. refl
    step_wants u (S.Exchange t found) =
        by_test Wants_same (with_word x.store (W.Bucket (S.bucket_of_update (ample plan) u))
        (tag (S.next_generation now) (S.next_row now)))
        (x.store.bucket (S.bucket_of_update (ample plan) u) == t.word) (λ q n. refl) (λ q n. refl)
    step_wants u S.StoreWant = λ q n. put_other x.store.want p (S.bucket_of_update (ample plan) u) q n
    step_wants u S.StoreAsking = λ q n. refl
    step_wants u S.HeldWord = λ q n. refl
    step_wants u (S.TakeHold old) =
        by_test Wants_same (with_word x.store (W.Hold p) (holding (row_in old))) (x.store.hold p == asking now.time)
        (λ q n. refl) (λ q n. refl)
    step_wants u (S.HeldNumber row) = λ q n. refl
    step_wants u (S.HeldReply row) = λ q n. refl
    step_wants u S.Stuck = λ q n. refl

    glance_wants : (aim : Aim) (glance : Glance) →
        Wants_same (store_after (glance_deed (ample plan) p now.time aim glance) x.store)
    glance_wants aim (S.GlanceWord left) = λ q n. refl
    glance_wants aim (S.GlanceCount source) = λ q n. refl
    glance_wants aim (S.GlanceItem source scan) = λ q n. refl
    glance_wants aim (S.GlanceCheck left word kept) = λ q n. refl
    glance_wants aim S.GlanceWant = λ q n. put_other x.store.want p (bucket_of_aim (ample plan) aim) q n
    glance_wants aim S.GlanceAsking = λ q n. refl
    glance_wants aim S.GlanceHeld = λ q n. refl
    glance_wants aim (S.GlanceTake old) =
        by_test Wants_same (with_word x.store (W.Hold p) (holding (row_in old))) (x.store.hold p == asking now.time)
        (λ q n. refl) (λ q n. refl)

    look_first : (aim : Aim) → IsAim plan aim → Result (ticked (look_begins x p now aim))
    look_first aim is = result x.store
        (record now { stand = S.Glances aim (S.GlanceWord (L.LOOK_TRIES - 1)); course = course_from x.clock }) x.answers
        (λ k. ((is, (let c = s.seen.clock in let l = long_it in omega (arith, c, l)), tt), s.answers)) (λ q n. refl)

    update_first : (call : Call) → IsUpdate call → Result (ticked (update_begins x p now call))
    update_first call update =
        let taken = sweep_begins now.named now.sweep now in
        let u = L.next_update now call in
        let next = first_fate now.free taken.sweep in
        result x.store (record taken { stand = L.stand_at u next; course = course_from x.clock })
        (answers_after x p call (course_from x.clock) next) (begin_own taken u next (course_from x.clock) update)
        (λ q n. refl)

    call_first : (call : Call) → L.CanBegin now call → Result (ticked (call_begins x p now call))
    call_first (Lookup key) can = look_first (OfKey key) can
    call_first (Insert key value) can = update_first (Insert key value) can.0
    call_first (Remove key) can = update_first (Remove key) can.0
    call_first (Tally key amount) can = update_first (Tally key amount) can.0
    call_first (Count key value amount) can = update_first (Count key value amount) can.0
    call_first (Put key value) can = update_first (Put key value) can.0

    looking_at : (stand : Stand) → now.stand ≡ stand → Looking es x s.tied.since p now.course.began stand
    looking_at stand e = subst (Looking es x s.tied.since p now.course.began) e (s.looks p inside)

    seat_goes : (stand : Stand) → now.stand ≡ stand → IsFlying stand → Result (ticked (goes_on plan x p now stand))
    seat_goes S.Idle e flies = absurd flies
    seat_goes (S.Goes u step) e flies =
        let deed = S.deed_of (ample plan) p now u step in
        let word = found_by deed x.store in
        let next = fate (ample plan) p now u step word in
        let own = own_after (ample plan) p now u step word in
        result (store_after deed x.store) (seat_after own u next) (answers_after x p u.call (stepped now.course) next)
        (update_own (store_after deed x.store) own u next (stepped now.course) (looking_at (S.Goes u step) e))
        (step_wants u step)
    seat_goes (S.Glances aim glance) e flies =
        let deed = glance_deed (ample plan) p now.time aim glance in
        let f = glance_fate (ample plan) now.time aim glance (found_by deed x.store) in
        let k = looking_at (S.Glances aim glance) e in
        result (store_after deed x.store) (look_after now aim glance f)
        (look_answers (ample plan) x p aim (stepped now.course) f) (look_own aim glance e k.0 k.1 k.2)
        (glance_wants aim glance)

    seat_acts : (what : What) → Fits plan now what → Result (ticked (act plan x p now what))
    seat_acts (Begin call) fits = call_first call fits.1
    seat_acts (Copy bucket) fits = look_first (OfBucket bucket) fits.1
    seat_acts Step_on fits = seat_goes now.stand refl fits

  -- ---- an event

  all_lift : (es : List Event) (x : Lasting) (event : Event) (answers : List Answer) →
      All (λ (a : Answer). IsLook plan es a a.by a.asked) answers →
      All (λ (a : Answer). IsLook plan (es ++ event ∷ []) a a.by a.asked) answers
  all_lift es x event answers all =
      All-weaker (λ (a : Answer). IsLook plan es a a.by a.asked)
      (λ (a : Answer). IsLook plan (es ++ event ∷ []) a a.by a.asked)
      (λ a k. look_lifts es x (same_turn x) event a a.by a.asked k) answers all

  module _ (is_plan : IsPlan plan) (es : List Event) (x : Lasting) (s : SeatSeen es x) where
    seat_event : (p : ℕ) (what : What) → IsEvent plan x (OfSeat p what) →
        SeatSeen (es ++ OfSeat p what ∷ []) (happens plan x (OfSeat p what))
    seat_event p what fits =
        let event = OfSeat p what in
        let test = lt-ltb p plan.settings.seats fits.0 in
        let l = subst (λ (b : Bool). Leaves plan x (cond b (ticked (act plan x p (seat_in x p) what)) x)) (sym test)
        (seat_leaves plan is_plan x s.seen.pools s.seen.marks p fits.0 what fits.1) in
        let y = happens plan x event in
        let later_seen = seen_next plan is_plan es x s.seen event fits in
        let t = ties_keep plan is_plan x s.seen.pools s.tied event fits in
        let r = subst (λ (b : Bool). Result is_plan es x s p fits.0 event
        (cond b (ticked (act plan x p (seat_in x p) what)) x)) (sym test)
        (seat_acts is_plan es x s p fits.0 event what fits.1)
        (record { turn = l.turn; live = l.live; ties = t; world = later_seen.world }) in
        record { seen = later_seen; tied = t.next; looks = r.0; answers = all_lift es x event y.answers r.1 }

    -- an event of a reader
    reader_like : (r : ℕ) (peek : L.Peek) (y : Lasting) → y.store ≡ x.store → y.seats ≡ x.seats →
        ((P : Answer → Type 0) → ((a : Answer) → (reader : ℕ) → a.by ≡ ByReader reader → P a) → All P x.answers →
        All P y.answers) →
        Seen plan (es ++ OfReader r peek ∷ []) y → Ties plan x s.tied y → SeatSeen (es ++ OfReader r peek ∷ []) y
    reader_like r peek y store seats adds later_seen t =
        let event = OfReader r peek in
        let same_seat : (q : ℕ) → seat_in y q ≡ seat_in x q =
        (λ q. ap (λ (ss : List SeatNow). slice_index_or ss q L.nobody) seats) in
        record {
          seen = later_seen;
          tied = t.next;
          looks = λ q h. subst (λ (n : SeatNow). Looking (es ++ event ∷ []) y t.next.since q n.course.began n.stand)
              (sym (same_seat q))
              (looking_still es x y event
              (record {
                rows = λ row. inl (λ i. ap (λ (w : W.Store). w.row row i) store);
                known = λ row. (let e = ap (λ (n : SeatNow). n.generation row) (same_seat (owner_in plan row)) in
                    omega (arith, e));
              }) s.tied t (λ row live i. ap (λ (w : W.Store). w.row row i) store) later_seen.world q
              (seat_in x q).course.began (seat_in x q).stand refl (ap (λ (n : SeatNow). n.stand) (same_seat q))
              (ap (λ (w : W.Store). w.want q) store) (s.looks q h));
          answers = all_lift es x event y.answers (adds (λ (a : Answer). IsLook plan es a a.by a.asked)
              (λ a reader by. subst (λ b. IsLook plan es a b a.asked) (sym by) tt) s.answers);
        }

    reader_event : (r : ℕ) (peek : L.Peek) → IsEvent plan x (OfReader r peek) →
        SeatSeen (es ++ OfReader r peek ∷ []) (happens plan x (OfReader r peek))
    reader_event r (L.Open aim tries) fits =
        let event = OfReader r (L.Open aim tries) in
        reader_like r (L.Open aim tries) (happens plan x event) refl refl (λ P each all. all)
        (seen_next plan is_plan es x s.seen event fits) (reader_ties plan x r (L.Open aim tries) s.tied)
    reader_event r L.Peek_on fits = go (x.readers r).stand
        (seen_next plan is_plan es x s.seen (OfReader r L.Peek_on) fits) (reader_ties plan x r L.Peek_on s.tied)
      where
        now : S.ReaderNow
        now = x.readers r

        one : (asked : Asked) (told : Told) (course : Course) (P : Answer → Type 0) →
            ((a : Answer) → (reader : ℕ) → a.by ≡ ByReader reader → P a) → All P x.answers →
            All P (with_answer x (ByReader r) asked told course)
        one asked told course P each all =
            let a : Answer = record {
              by = ByReader r;
              asked = asked;
              told = told;
              began = course.began;
              ended = x.clock + 1;
              steps = course.steps;
            } in
            All-append P x.answers (a ∷ []) all (All-cons P a [] (each a r refl) (All-nil P))

        peek_on : (aim : Aim) (f : GlanceFate) →
            (let y = ticked (L.with_reader x r (L.peek_after now aim f)
            (L.peek_answers (ample plan) x r aim (stepped now.course) f)) in
            Seen plan (es ++ OfReader r L.Peek_on ∷ []) y → Ties plan x s.tied y →
            SeatSeen (es ++ OfReader r L.Peek_on ∷ []) y)
        peek_on aim (Looks glance) later_seen t =
            reader_like r L.Peek_on (ticked (L.with_reader x r (L.peek_after now aim
            (Looks glance)) x.answers)) refl refl
            (λ P each all. all) later_seen t
        peek_on aim (Shows items) later_seen t =
            reader_like r L.Peek_on (ticked (L.with_reader x r (L.peek_after now aim (Shows items))
            (L.peek_answers (ample plan) x r aim (stepped now.course) (Shows items)))) refl refl
            (one (asked_by_aim aim) (told_by_items (ample plan) aim items) (stepped now.course)) later_seen t
        peek_on aim Disturbed later_seen t =
            reader_like r L.Peek_on (ticked (L.with_reader x r (L.peek_after now aim Disturbed)
            (L.peek_answers (ample plan) x r aim (stepped now.course) Disturbed))) refl refl
            (one (asked_by_aim aim) Again (stepped now.course)) later_seen t

        go : (stand : S.Peeking) → (let y = ticked (L.peeks_on plan x r now stand) in
            Seen plan (es ++ OfReader r L.Peek_on ∷ []) y → Ties plan x s.tied y →
            SeatSeen (es ++ OfReader r L.Peek_on ∷ []) y)
        go S.Rests later_seen t = reader_like r L.Peek_on (ticked x) refl refl (λ P each all. all) later_seen t
        go (S.Peeks aim glance) later_seen t = peek_on aim (fate_of_reader aim glance) later_seen t
          where
            fate_of_reader : Aim → Glance → GlanceFate
            fate_of_reader a g = glance_fate (ample plan) 0 a g (found_by (glance_deed (ample plan) 0 0 a g) x.store)

    event_seen : (event : Event) → IsEvent plan x event → SeatSeen (es ++ event ∷ []) (happens plan x event)
    event_seen (OfSeat p what) fits = seat_event p what fits
    event_seen (OfReader r peek) fits = reader_event r peek fits

  all_seen : IsPlan plan → (es events : List Event) (x : Lasting) → SeatSeen es x → AreEvents plan x events →
      SeatSeen (es ++ events) (fold (happens plan) x events)
  all_seen is es [] x h follow = subst (λ (l : List Event). SeatSeen l x) (sym (append-nil es)) h
  all_seen is es (event ∷ events) x h follow =
      subst (λ (l : List Event). SeatSeen l (fold (happens plan) (happens plan x event) events))
      (append_assoc es (event ∷ []) events)
      (all_seen is (es ++ event ∷ []) events (happens plan x event) (event_seen is es x h event follow.0) follow.1)

-- THE RESULT
pub looks_are_of_moments : LooksAreOfMoments
looks_are_of_moments plan events run =
    (all_seen plan run.opened [] events (opening_world plan) (record {
      seen = seen_first plan run.opened;
      tied = tied_open plan run.opened;
      looks = λ q h. subst (Looking plan [] (opening_world plan) (tied_open plan run.opened).since q
          (seat_in (opening_world plan) q).course.began) (sym (idle plan run.opened q)) tt;
      answers = All-nil (λ (a : Answer). IsLook plan [] a a.by a.asked);
    }) run.follow).answers
