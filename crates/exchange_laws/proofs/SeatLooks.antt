-- Who can hold is always told what the bucket had at one moment of its lookup or copy: where a try was not disturbed,
-- that of its second load of the bucket word; under a hold, one at which the row stood in the wanted bucket since the
-- asking.
use Rattle.std.proofs.Common.{◌≡◌, ◌≢◌, ℕ, ◌+◌, ◌-◌, ◌<◌, ◌≤◌, inl, inr, Bool, true, false, cond, List, [], ◌∷◌, ◌++◌, length, refl, sym, ap, ◌∙◌, subst, arith, append_assoc, append-nil, lt-ltb, get_or-set_same, get_or-set_other}
use Rattle.std.specs.Prelude.{◌==◌, All, fold, slice_index_or}
use Rattle.std.proofs.lemmas.Bool.{cases_eq, cond_both}
use Rattle.std.proofs.lemmas.List.{length-append}
use Rattle.std.proofs.lemmas.List.Elements.{All-nil, All-cons, All-append, All-weaker}
use Rattle.plain_map.specs.declared.calls.Call.{Call}
use Rattle.plain_map.specs.declared.calls.Call.TheVariants.{Insert, Remove, Lookup, Tally, Count, Put}
use Rattle.plain_map.specs.declared.keys.Pair.{Pair}
use Rattle.word_rows.proofs.MemoryLemmas.{put_same}
use Rattle.exchange_model.specs.Plans.{Plan, IsPlan, holders_of}
use Rattle.exchange_model.specs.Codes.{row_in, count_in, item_place, pairs_of_row}
use Rattle.exchange_model.specs.Laws.{pairs_in, IsOfMoment, IsLook, LooksAreOfMoments}
use Rattle.exchange_model.specs.Words as W
use Rattle.exchange_model.specs.Steps as S
use Rattle.exchange_model.specs.Steps.{MadeBySeat, SeatNow, Step, Stand, Aim, OfKey, OfBucket, Tried, HeldIn, Glance, Course, Deed, class_of_aim, bucket_of_aim, deed_of, glance_deed}
use Rattle.exchange_model.specs.Goes.{Fate, On, Ends, Spends, Refuses, fate, own_after, first_fate, scan_begins, GlanceFate, Looks, Shows, Disturbed, glance_fate, pass_of, Asked, Called, Copied, asked_by_aim, told_by_items}
use Rattle.exchange_model.specs.Worlds.{World, Answer, Asker, BySeat, ByReader, Event, OfSeat, OfReader, IsEvent, AreEvents, What, Begin, Copy, Step_on, Peek, Open, Peek_on, IsAim, IsFlying, Fits, seat_in, with_seat, ticked, found_by, store_after, stepped, seat_after, answers_after, goes, look_after, look_answers, look_begins, update_begins, call_begins, goes_on, act, peeks_on, peek_acts, peek_answers, stand_at, course_from, happens, nobody, opening_world, world_after, LOOK_TRIES}
use Rattle.exchange_laws.proofs.Owned.{Owned, word_in}
use Rattle.exchange_laws.proofs.OwnedMoves.{Moves}
use Rattle.exchange_laws.proofs.OwnedEvents.{event_keeps}
use Rattle.exchange_laws.proofs.OwnedRuns.{after_both, opening_owned, seat_is}
use Rattle.exchange_laws.proofs.Holding as H
use Rattle.exchange_laws.proofs.HeldStates.{look_of, look_of_glance}
use Rattle.exchange_laws.proofs.Held.{Tied, Ties}
use Rattle.exchange_laws.proofs.HeldEvents.{call_first, look_first, seat_goes}
use Rattle.exchange_laws.proofs.HeldRuns.{tied_open, ties_next, live_stays}
use Rattle.exchange_laws.proofs.WantWords.{want_words, want_step, want_glance}
use Rattle.exchange_laws.proofs.MadeRows.{IsChange}
use Rattle.exchange_laws.proofs.Passes.{Passes, Tells, begins, next_item, next_word}
use Rattle.exchange_laws.proofs.PeekMoments.{KeepsPeek, Fated, keeps_still, moment_still, fated}

module _ (plan : Plan) where
  -- ---- what holds of a look

  -- a row stood in the bucket at one moment since then, with the words that it has now
  pub record RowMoment (x : World) (es : List Event) (began b r : ℕ) : Type 0 where
    pub front : List Event
    pub back : List Event
    pub cut : es ≡ front ++ back
    pub after : began ≤ length front
    pub word : word_in plan (world_after plan front) b ≡ r
    pub same : (i : ℕ) → (world_after plan front).store.row r i ≡ x.store.row r i

  -- so did each row that may be read by who wants this bucket
  pub record Waits (x : World) (es : List Event) (t : Tied plan x) (q began b : ℕ) : Type 0 where
    pub want : x.store.want q ≡ b
    pub rows : (r : ℕ) → t.since q r ≡ true → t.free r ≡ false → RowMoment x es began b r

  -- these items tell what the bucket had at one moment since then
  pub record Shown (es : List Event) (began : ℕ) (aim : Aim) (kept : List Pair) : Type 0 where
    pub front : List Event
    pub back : List Event
    pub cut : es ≡ front ++ back
    pub after : began ≤ length front
    pub is : told_by_items plan aim kept
        ≡ told_by_items plan aim (pairs_in plan (world_after plan front) (bucket_of_aim plan aim))

  abbrev pub KeepsLook : (x : World) (es : List Event) → Tied plan x → (q began : ℕ) → Aim → Glance → Type 0
  KeepsLook x es t q began aim S.GlanceWant = Unit {0}
  KeepsLook x es t q began aim S.GlanceAsking = x.store.want q ≡ bucket_of_aim plan aim
  KeepsLook x es t q began aim S.GlanceHeld = Waits x es t q began (bucket_of_aim plan aim)
  KeepsLook x es t q began aim (S.GlanceTake word) = Waits x es t q began (bucket_of_aim plan aim)
  KeepsLook x es t q began aim (S.GlanceCount (HeldIn row)) = Waits x es t q began (bucket_of_aim plan aim)
  KeepsLook x es t q began aim (S.GlanceItem (HeldIn row) pass) =
      Waits x es t q began (bucket_of_aim plan aim)
      × (Passes plan aim (x.store.row row) pass × (pass.item < pass.count) × (length pass.part < 7))
  KeepsLook x es t q began aim (S.GlanceBack kept) = Shown es began aim kept
  KeepsLook x es t q began aim (S.GlanceWord left) = KeepsPeek plan x (bucket_of_aim plan aim) aim (S.GlanceWord left)
  KeepsLook x es t q began aim (S.GlanceCount (Tried left word)) =
      KeepsPeek plan x (bucket_of_aim plan aim) aim (S.GlanceCount (Tried left word))
  KeepsLook x es t q began aim (S.GlanceItem (Tried left word) pass) =
      KeepsPeek plan x (bucket_of_aim plan aim) aim (S.GlanceItem (Tried left word) pass)
  KeepsLook x es t q began aim (S.GlanceCheck left word kept) =
      KeepsPeek plan x (bucket_of_aim plan aim) aim (S.GlanceCheck left word kept)

  -- what a look of a reader that cannot hold keeps, this one keeps
  peek_look : (x : World) (es : List Event) (t : Tied plan x) (q began : ℕ) (aim : Aim) (glance : Glance) →
      KeepsPeek plan x (bucket_of_aim plan aim) aim glance → KeepsLook x es t q began aim glance
  peek_look x es t q began aim (S.GlanceWord left) k = k
  peek_look x es t q began aim (S.GlanceCount (Tried left word)) k = k
  peek_look x es t q began aim (S.GlanceCount (HeldIn row)) k = absurd k
  peek_look x es t q began aim (S.GlanceItem (Tried left word) pass) k = k
  peek_look x es t q began aim (S.GlanceItem (HeldIn row) pass) k = absurd k
  peek_look x es t q began aim (S.GlanceCheck left word kept) k = k
  peek_look x es t q began aim S.GlanceWant k = tt
  peek_look x es t q began aim S.GlanceAsking k = absurd k
  peek_look x es t q began aim S.GlanceHeld k = absurd k
  peek_look x es t q began aim (S.GlanceTake word) k = absurd k
  peek_look x es t q began aim (S.GlanceBack kept) k = absurd k

  -- an update is one; a look is of a bucket that there is, and keeps what it has
  abbrev pub Looking : (x : World) (es : List Event) → Tied plan x → (q began : ℕ) → Stand → Type 0
  Looking x es t q began S.Idle = Unit {0}
  Looking x es t q began (S.Goes call step) = IsChange call
  Looking x es t q began (S.Glances aim glance) =
      IsAim plan aim × (began ≤ x.clock) × KeepsLook x es t q began aim glance

  pub record Seen (es : List Event) (x : World) : Type 0 where
    pub owned : Owned plan x
    pub tied : Tied plan x
    pub world : x ≡ world_after plan es
    pub clock : x.clock ≡ length es
    pub seats : (q : ℕ) → q < holders_of plan.settings →
        Looking x es tied q (seat_in x q).course.began (seat_in x q).stand
    pub answers : All (λ (a : Answer). IsLook plan es a a.by a.asked) x.answers

  -- ---- a later moment

  look_still : (es : List Event) (event : Event) (a : Answer) (by : Asker) (asked : Asked) → IsLook plan es a by asked →
      IsLook plan (es ++ event ∷ []) a by asked
  look_still es event a (ByReader reader) asked k = tt
  look_still es event a (BySeat seat) (Called (Lookup key)) k = moment_still plan es event a (OfKey key) k
  look_still es event a (BySeat seat) (Called (Insert key value)) k = tt
  look_still es event a (BySeat seat) (Called (Remove key)) k = tt
  look_still es event a (BySeat seat) (Called (Tally key amount)) k = tt
  look_still es event a (BySeat seat) (Called (Count key value amount)) k = tt
  look_still es event a (BySeat seat) (Called (Put key value)) k = tt
  look_still es event a (BySeat seat) (Copied bucket) k = moment_still plan es event a (OfBucket bucket) k

  shown_still : (es : List Event) (event : Event) (began : ℕ) (aim : Aim) (kept : List Pair) → Shown es began aim kept →
      Shown (es ++ event ∷ []) began aim kept
  shown_still es event began aim kept s = record {
    front = s.front;
    back = s.back ++ event ∷ [];
    cut = ap (λ (xs : List Event). xs ++ event ∷ []) s.cut ∙ append_assoc s.front s.back (event ∷ []);
    after = s.after;
    is = s.is;
  }

  module _ (is_plan : IsPlan plan) (es : List Event) (event : Event) (x : World) (s : Seen es x) (y : World)
      (moves : Moves plan s.owned.at x y) (next : Ties plan x s.tied y) (later : y.clock ≡ x.clock + 1)
      (is_y : y ≡ world_after plan (es ++ event ∷ [])) where
    abbrev es' : List Event
    es' = es ++ event ∷ []

    long : length es' ≡ length es + 1
    long = length-append es (event ∷ [])

    -- the row that stands in the wanted bucket now
    row_now : (q began b r : ℕ) → began ≤ x.clock → y.store.want q ≡ b → word_in plan y (y.store.want q) ≡ r →
        RowMoment y es' began b r
    row_now q began b r since want is = record {
      front = es';
      back = [];
      cut = sym (append-nil es');
      after = omega (arith, since, s.clock, long);
      word = ap (λ (w : World). word_in plan w b) (sym is_y) ∙ sym (ap (word_in plan y) want) ∙ is;
      same = λ i. ap (λ (w : World). w.store.row r i) (sym is_y);
    }

    -- it has just asked
    asks : (q began b : ℕ) → began ≤ x.clock → H.IsActive (look_of plan (seat_in y q).stand) →
        (H.IsActive (look_of plan (seat_in x q).stand) → ⊥) → y.store.want q ≡ b → Waits y es' next.then q began b
    asks q began b since active was want = record {
      want = want;
      rows = λ r told live. elim (next.fresh q r active told live) [
        | inl a ↦ absurd (was a.0)
        | inr e ↦ row_now q began b r since want e
      ];
    }

    -- it waits still
    waits_still : (q began b : ℕ) → began ≤ x.clock → H.IsActive (look_of plan (seat_in y q).stand) →
        y.store.want q ≡ x.store.want q → Waits x es s.tied q began b → Waits y es' next.then q began b
    waits_still q began b since active want w = record {
      want = want ∙ w.want;
      rows = λ r told live. elim (next.fresh q r active told live) [
        | inl a ↦
            let m = w.rows r a.1 a.2 in
            record {
              front = m.front;
              back = m.back ++ event ∷ [];
              cut = ap (λ (xs : List Event). xs ++ event ∷ []) m.cut ∙ append_assoc m.front m.back (event ∷ []);
              after = m.after;
              word = m.word;
              same = λ i. m.same i ∙ sym (live_stays plan s.owned.at x y s.tied r i a.2 moves);
            }
        | inr e ↦ row_now q began b r since (want ∙ w.want) e
      ];
    }

    -- a held row is as it was
    held_same : (q row : ℕ) → look_of plan (seat_in x q).stand ≡ H.Reads row → (i : ℕ) →
        y.store.row row i ≡ x.store.row row i
    held_same q row reads i =
        live_stays plan s.owned.at x y s.tied row i (s.tied.holds.reads q row reads).1.0 moves

    active_by : (q : ℕ) (look : H.Look) → look_of plan (seat_in y q).stand ≡ look → H.IsActive look →
        H.IsActive (look_of plan (seat_in y q).stand)
    active_by q look is active = subst H.IsActive (sym is) active

    look_keeps : (q began : ℕ) (aim : Aim) (glance : Glance) → IsAim plan aim → began ≤ x.clock →
        look_of plan (seat_in x q).stand ≡ look_of_glance plan glance →
        look_of plan (seat_in y q).stand ≡ look_of_glance plan glance → y.store.want q ≡ x.store.want q →
        KeepsLook x es s.tied q began aim glance → KeepsLook y es' next.then q began aim glance
    look_keeps q began aim (S.GlanceWord left) a since was is want k = tt
    look_keeps q began aim (S.GlanceCount (Tried left word)) a since was is want k =
        keeps_still plan is_plan x y s.owned moves later aim (S.GlanceCount (Tried left word)) a k
    look_keeps q began aim (S.GlanceCount (HeldIn row)) a since was is want k =
        waits_still q began (bucket_of_aim plan aim) since (active_by q (H.Reads row) is tt) want k
    look_keeps q began aim (S.GlanceItem (Tried left word) pass) a since was is want k =
        keeps_still plan is_plan x y s.owned moves later aim (S.GlanceItem (Tried left word) pass) a k
    look_keeps q began aim (S.GlanceItem (HeldIn row) pass) a since was is want k = (
      waits_still q began (bucket_of_aim plan aim) since (active_by q (H.Reads row) is tt) want k.0,
      (
        subst (λ (f : ℕ → ℕ). Passes plan aim f pass) (λ j i. sym (held_same q row was i) j) k.1.0,
        k.1.1,
        k.1.2,
      ),
    )
    look_keeps q began aim (S.GlanceCheck left word kept) a since was is want k =
        keeps_still plan is_plan x y s.owned moves later aim (S.GlanceCheck left word kept) a k
    look_keeps q began aim S.GlanceWant a since was is want k = tt
    look_keeps q began aim S.GlanceAsking a since was is want k = want ∙ k
    look_keeps q began aim S.GlanceHeld a since was is want k =
        waits_still q began (bucket_of_aim plan aim) since (active_by q H.Asked is tt) want k
    look_keeps q began aim (S.GlanceTake word) a since was is want k =
        waits_still q began (bucket_of_aim plan aim) since (active_by q (H.Loaded (row_in plan word)) is tt) want k
    look_keeps q began aim (S.GlanceBack kept) a since was is want k = shown_still es event began aim kept k

    -- where a seat stands as it stood
    looking_still : (q : ℕ) → seat_in y q ≡ seat_in x q → y.store.want q ≡ x.store.want q → (stand : Stand) →
        (seat_in x q).stand ≡ stand → Looking x es s.tied q (seat_in x q).course.began stand →
        Looking y es' next.then q (seat_in x q).course.began stand
    looking_still q same want S.Idle e k = tt
    looking_still q same want (S.Goes call step) e k = k
    looking_still q same want (S.Glances aim glance) e k = (
      k.0,
      (let since = k.1 in omega (arith, since, later)),
      look_keeps q (seat_in x q).course.began aim glance k.0 k.1 (ap (look_of plan) e)
          (ap (λ (n : SeatNow). look_of plan n.stand) same ∙ ap (look_of plan) e) want k.2,
    )

    lifted : (answers : List Answer) → All (λ (a : Answer). IsLook plan es a a.by a.asked) answers →
        All (λ (a : Answer). IsLook plan es' a a.by a.asked) answers
    lifted answers all =
        All-weaker (λ (a : Answer). IsLook plan es a a.by a.asked) (λ (a : Answer). IsLook plan es' a a.by a.asked)
        (λ a k. look_still es event a a.by a.asked k) answers all

    one_told : (a : Answer) → IsLook plan es' a a.by a.asked →
        All (λ (c : Answer). IsLook plan es' c c.by c.asked) (x.answers ++ a ∷ [])
    one_told a is =
        All-append (λ (c : Answer). IsLook plan es' c c.by c.asked) x.answers (a ∷ []) (lifted x.answers s.answers)
        (All-cons (λ (c : Answer). IsLook plan es' c c.by c.asked) a [] is
        (All-nil (λ (c : Answer). IsLook plan es' c c.by c.asked)))

    -- an update's answer says nothing here
    update_look : (a : Answer) (seat : ℕ) (call : Call) → IsChange call → IsLook plan es' a (BySeat seat) (Called call)
    update_look a seat (Insert key value) c = tt
    update_look a seat (Remove key) c = tt
    update_look a seat (Lookup key) c = absurd c
    update_look a seat (Tally key amount) c = tt
    update_look a seat (Count key value amount) c = tt
    update_look a seat (Put key value) c = tt

    by_fate : (p : ℕ) (call : Call) (course : Course) (f : Fate) → IsChange call →
        All (λ (a : Answer). IsLook plan es' a a.by a.asked) (answers_after x p call course f)
    by_fate p call course (On step) c = lifted x.answers s.answers
    by_fate p call course (Ends reply) c = one_told _ (update_look _ p call c)
    by_fate p call course Spends c = one_told _ (update_look _ p call c)
    by_fate p call course Refuses c = one_told _ (update_look _ p call c)

  -- ---- events of a seat

  module _ (is_plan : IsPlan plan) (es : List Event) (x : World) (s : Seen es x) (p : ℕ)
      (inside : p < holders_of plan.settings) (event : Event) where
    abbrev now : SeatNow
    now = seat_in x p

    abbrev es1 : List Event
    es1 = es ++ event ∷ []

    abbrev y_of : W.Store → SeatNow → List Answer → List MadeBySeat → World
    y_of store then answers updates = ticked (with_seat x p store then answers updates)

    mine : (store : W.Store) (then : SeatNow) (answers : List Answer) (updates : List MadeBySeat) →
        seat_in (y_of store then answers updates) p ≡ then
    mine store then answers updates =
        get_or-set_same x.seats p then nobody (let long = s.owned.long in omega (arith, inside, long))

    next_seen : (store : W.Store) (then : SeatNow) (answers : List Answer) (updates : List MadeBySeat) →
        (let y = y_of store then answers updates in
        Moves plan s.owned.at x y → Owned plan y → (ties : Ties plan x s.tied y) → y ≡ world_after plan es1 →
        ((q : ℕ) → q ≢ p → store.want q ≡ x.store.want q) →
        Looking y es1 ties.then p then.course.began then.stand →
        All (λ (a : Answer). IsLook plan es1 a a.by a.asked) answers → Seen es1 y)
    next_seen store then answers updates moves owned ties is_y want here told = record {
      owned = owned;
      tied = ties.then;
      world = is_y;
      clock = (let long = length-append es (event ∷ []) in omega (arith, s.clock, long));
      seats = λ q less. elim (cases_eq q p) [
        | inl e ↦
            subst (λ i. Looking y es1 ties.then i (seat_in y i).course.began (seat_in y i).stand) (sym e)
            (subst (λ (k : SeatNow). Looking y es1 ties.then p k.course.began k.stand)
            (sym (mine store then answers updates)) here)
        | inr n ↦
            let same : seat_in y q ≡ seat_in x q = get_or-set_other x.seats p q then nobody n in
            subst (λ (k : SeatNow). Looking y es1 ties.then q k.course.began k.stand) (sym same)
            (looking_still is_plan es event x s y moves ties refl is_y q same (want q n) (seat_in x q).stand refl
            (s.seats q less))
      ];
      answers = told;
    }
      where
        y : World
        y = y_of store then answers updates

    -- an update
    update_stands : (y : World) (ties : Tied plan y) (own : SeatNow) (call : Call) (f : Fate) (began : ℕ) →
        IsChange call →
        Looking y es1 ties p began (seat_after own call f).stand
    update_stands y ties own call (On step) began c = c
    update_stands y ties own call (Ends reply) began c = tt
    update_stands y ties own call Spends began c = tt
    update_stands y ties own call Refuses began c = tt

    update_seen : (call : Call) (step : Step) → now.stand ≡ S.Goes call step →
        (let y = ticked (goes plan x p now call step) in
        Moves plan s.owned.at x y → Owned plan y → Ties plan x s.tied y → y ≡ world_after plan es1 → Seen es1 y)
    update_seen call step stood moves owned ties is_y =
        let deed = deed_of plan p now call step in
        let w = found_by deed x.store in
        let own = own_after plan p now call step w in
        let f = fate plan p now call step w in
        let change : IsChange call =
        subst (λ (k : Stand). Looking x es s.tied p now.course.began k) stood (s.seats p inside) in
        next_seen (store_after deed x.store) (seat_after own call f)
        (answers_after x p call (stepped now.course) f) _ moves
        owned ties is_y (λ q n. want_words p q n deed x.store (want_step plan p now call step))
        (update_stands (ticked (goes plan x p now call step)) ties.then own call f _ change)
        (by_fate is_plan es event x s (ticked (goes plan x p now call step)) moves ties refl is_y p call
        (stepped now.course) f
        change)

    -- a look
    module _ (aim : Aim) (glance : Glance) (stood : now.stand ≡ S.Glances aim glance) where
      abbrev deed : Deed
      deed = glance_deed plan p now.time aim glance

      abbrev word : ℕ
      word = found_by deed x.store

      abbrev then : GlanceFate → SeatNow
      then f = look_after now aim glance f

      abbrev course : Course
      course = stepped now.course

      abbrev began : ℕ
      began = now.course.began

      abbrev b : ℕ
      b = bucket_of_aim plan aim

      -- the world then, where it leads so
      abbrev y : GlanceFate → World
      y f = y_of (store_after deed x.store) (then f) (look_answers plan x p aim course f) x.made

      is_look : IsAim plan aim × (began ≤ x.clock) × KeepsLook x es s.tied p began aim glance
      is_look = subst (λ (k : Stand). Looking x es s.tied p began k) stood (s.seats p inside)

      -- what has to be shown of where it leads
      abbrev Led : (f : GlanceFate) → Tied plan (y f) → Type 0
      Led (Looks next) t = KeepsLook (y (Looks next)) es1 t p began aim next
      Led (Shows kept) t = Shown es began aim kept
      Led Disturbed t = Unit {0}

      told_then : (kept : List Pair) → Shown es began aim kept → (a : Answer) → a.asked ≡ asked_by_aim aim →
          a.by ≡ BySeat p → a.told ≡ told_by_items plan aim kept → a.began ≡ began → a.ended ≡ x.clock + 1 →
          IsLook plan es1 a a.by a.asked
      told_then kept shown a asked by told begins ended =
          subst (λ q. IsLook plan es1 a q a.asked) (sym by)
          (subst (λ q. IsLook plan es1 a (BySeat p) q) (sym asked) (by_aim aim refl))
        where
          moment : IsOfMoment plan es1 a aim
          moment =
              let cut = shown.cut in
              let parts : length es ≡ length shown.front + length shown.back =
              ap (λ (xs : List Event). length xs) cut ∙ length-append shown.front shown.back in
              let since = shown.after in
              record {
                front = shown.front;
                back = shown.back ++ event ∷ [];
                cut = ap (λ (xs : List Event). xs ++ event ∷ []) cut
                    ∙ append_assoc shown.front shown.back (event ∷ []);
                after = omega (arith, begins, since);
                before = omega (arith, parts, s.clock, ended);
                is = told ∙ shown.is;
              }

          by_aim : (m : Aim) → aim ≡ m → IsLook plan es1 a (BySeat p) (asked_by_aim m)
          by_aim (OfKey key) e = subst (IsOfMoment plan es1 a) e moment
          by_aim (OfBucket bucket) e = subst (IsOfMoment plan es1 a) e moment

      lift_all : All (λ (a : Answer). IsLook plan es1 a a.by a.asked) x.answers
      lift_all =
          All-weaker (λ (a : Answer). IsLook plan es a a.by a.asked)
          (λ (a : Answer). IsLook plan es1 a a.by a.asked) (λ a k. look_still es event a a.by a.asked k) x.answers
          s.answers

      -- what is wanted of where it leads
      abbrev Goes : GlanceFate → Type 0
      Goes f =
          Moves plan s.owned.at x (y f) → Owned plan (y f) → Ties plan x s.tied (y f) → y f ≡ world_after plan es1 →
          Seen es1 (y f)

      led : (f : GlanceFate) → Moves plan s.owned.at x (y f) → Owned plan (y f) → (ties : Ties plan x s.tied (y f)) →
          y f ≡ world_after plan es1 → Led f ties.then → Seen es1 (y f)
      led f moves owned ties is_y k =
          next_seen (store_after deed x.store) (then f)
          (look_answers plan x p aim course f) x.made moves owned ties is_y
          (λ q n. want_words p q n deed x.store (want_glance plan p now.time aim glance)) (stands f ties.then k)
          (told f ties k)
        where
          stands : (g : GlanceFate) (t : Tied plan (y g)) → Led g t →
              Looking (y g) es1 t p (then g).course.began (then g).stand
          stands (Looks next) t k = (is_look.0, (let since = is_look.1 in omega (arith, since)), k)
          stands (Shows kept) t k = tt
          stands Disturbed t k = (is_look.0, (let since = is_look.1 in omega (arith, since)), tt)

          told : (g : GlanceFate) (t : Ties plan x s.tied (y g)) → Led g t.then →
              All (λ (a : Answer). IsLook plan es1 a a.by a.asked) (look_answers plan x p aim course g)
          told (Looks next) t k = lift_all
          told (Shows kept) t k =
              All-append (λ (c : Answer). IsLook plan es1 c c.by c.asked) x.answers (one ∷ []) lift_all
              (All-cons (λ (c : Answer). IsLook plan es1 c c.by c.asked) one []
              (told_then kept k one refl refl refl refl refl)
              (All-nil (λ (c : Answer). IsLook plan es1 c c.by c.asked)))
            where
              one : Answer
              one = record {
                by = BySeat p;
                asked = asked_by_aim aim;
                told = told_by_items plan aim kept;
                began = began;
                ended = x.clock + 1;
                steps = course.steps;
              }
          told Disturbed t k = lift_all

      -- as a reader that cannot hold does
      by_peek : (f : GlanceFate) → Fated plan x aim f → Goes f
      by_peek (Looks next) k moves owned ties is_y =
          led (Looks next) moves owned ties is_y
          (peek_look (y (Looks next)) es1 ties.then p began aim next
          (keeps_still plan is_plan x (y (Looks next)) s.owned moves refl aim next is_look.0 k))
      by_peek (Shows kept) k moves owned ties is_y = led (Shows kept) moves owned ties is_y (record {
        front = es;
        back = [];
        cut = sym (append-nil es);
        after = (let since = is_look.1 in omega (arith, since, s.clock));
        is = k ∙ ap (λ (w : World). told_by_items plan aim (pairs_in plan w b)) s.world;
      })
      by_peek Disturbed k moves owned ties is_y = led Disturbed moves owned ties is_y tt

      -- under a hold
      active_then : (f : GlanceFate) → H.IsActive (look_of plan (then f).stand) →
          H.IsActive (look_of plan (seat_in (y f) p).stand)
      active_then f active =
          subst (λ (k : SeatNow). H.IsActive (look_of plan k.stand))
          (sym (mine (store_after deed x.store) (then f) (look_answers plan x p aim course f) x.made)) active

      waits_then : (f : GlanceFate) → (moves : Moves plan s.owned.at x (y f)) → (ties : Ties plan x s.tied (y f)) →
          y f ≡ world_after plan es1 → H.IsActive (look_of plan (then f).stand) →
          (store_after deed x.store).want p ≡ x.store.want p → Waits x es s.tied p began b →
          Waits (y f) es1 ties.then p began b
      waits_then f moves ties is_y active want w =
          waits_still is_plan es event x s (y f) moves ties refl is_y p began b is_look.1 (active_then f active) want w

      -- the items of the row that is held are those of one moment
      held_shown : (row : ℕ) → look_of plan now.stand ≡ H.Reads row → Waits x es s.tied p began b → (kept : List Pair) →
          Tells plan aim (x.store.row row) kept → Shown es1 began aim kept
      held_shown row reads w kept tells =
          let good = (s.tied.holds.reads p row reads).1 in
          let m = w.rows row good.1 good.0 in
          record {
            front = m.front;
            back = m.back ++ event ∷ [];
            cut = ap (λ (xs : List Event). xs ++ event ∷ []) m.cut ∙ append_assoc m.front m.back (event ∷ []);
            after = m.after;
            is = tells
                ∙ ap (λ (f : ℕ → ℕ). told_by_items plan aim (pairs_of_row plan f)) (λ i j. sym (m.same j) i)
                ∙ ap (λ r. told_by_items plan aim (pairs_of_row plan ((world_after plan m.front).store.row r)))
                (sym m.word);
          }

    look_goes : (aim : Aim) (glance : Glance) (stood : now.stand ≡ S.Glances aim glance) →
        Goes aim glance stood (glance_fate plan now.time aim glance
        (found_by (glance_deed plan p now.time aim glance) x.store))
    look_goes aim (S.GlanceWord left) e =
        by_peek aim (S.GlanceWord left) e
        (glance_fate plan now.time aim (S.GlanceWord left) (x.store.bucket (bucket_of_aim plan aim)))
        (fated plan x aim (S.GlanceWord left) tt)
    look_goes aim (S.GlanceCount (Tried left word)) e =
        let glance = S.GlanceCount (Tried left word) in
        by_peek aim glance e
        (glance_fate plan now.time aim glance (found_by (glance_deed plan p now.time aim glance) x.store))
        (fated plan x aim glance (is_look aim glance e).2)
    look_goes aim (S.GlanceItem (Tried left word) pass) e =
        let glance = S.GlanceItem (Tried left word) pass in
        by_peek aim glance e
        (glance_fate plan now.time aim glance (found_by (glance_deed plan p now.time aim glance) x.store))
        (fated plan x aim glance (is_look aim glance e).2)
    look_goes aim (S.GlanceCheck left word kept) e =
        let glance = S.GlanceCheck left word kept in
        by_peek aim glance e
        (glance_fate plan now.time aim glance (found_by (glance_deed plan p now.time aim glance) x.store))
        (fated plan x aim glance (is_look aim glance e).2)
    look_goes aim (S.GlanceCount (HeldIn row)) e =
        let glance = S.GlanceCount (HeldIn row) in
        let w = (is_look aim glance e).2 in
        let count = count_in plan (x.store.row row 0) in
        next_item plan (x.store.row row) aim (HeldIn row) (Goes aim glance e)
        (λ pass passes few short moves owned ties is_y.
        let f = Looks (S.GlanceItem (HeldIn row) pass) in
        led aim glance e f moves owned ties is_y
        (waits_then aim glance e f moves ties is_y tt refl w, (passes, few, short)))
        (λ kept tells moves owned ties is_y.
        led aim glance e (Looks (S.GlanceBack kept)) moves owned ties is_y
        (held_shown aim glance e row (ap (look_of plan) e) w kept tells))
        (pass_of count) (begins plan (x.store.row row) aim) refl
    look_goes aim (S.GlanceItem (HeldIn row) pass) e =
        let glance = S.GlanceItem (HeldIn row) pass in
        let k = (is_look aim glance e).2 in
        let found = x.store.row row (item_place pass.item (length pass.part)) in
        next_word plan (x.store.row row) aim (HeldIn row) (Goes aim glance e)
        (λ after passes few short moves owned ties is_y.
        let f = Looks (S.GlanceItem (HeldIn row) after) in
        led aim glance e f moves owned ties is_y
        (waits_then aim glance e f moves ties is_y tt refl k.0, (passes, few, short)))
        (λ kept tells moves owned ties is_y.
        led aim glance e (Looks (S.GlanceBack kept)) moves owned ties is_y
        (held_shown aim glance e row (ap (look_of plan) e) k.0 kept tells))
        pass found k.1.0 k.1.1 k.1.2 refl
    look_goes aim S.GlanceWant e = λ moves owned ties is_y.
        led aim S.GlanceWant e (Looks S.GlanceAsking) moves owned ties is_y
        (put_same x.store.want p (class_of_aim plan aim))
    look_goes aim S.GlanceAsking e = λ moves owned ties is_y.
        let f = Looks S.GlanceHeld in
        let k = is_look aim S.GlanceAsking e in
        led aim S.GlanceAsking e f moves owned ties is_y
        (asks is_plan es event x s (y aim S.GlanceAsking e f) moves ties refl is_y p (began aim S.GlanceAsking e)
        (b aim S.GlanceAsking e) k.1 (active_then aim S.GlanceAsking e f tt)
        (λ active. subst H.IsActive (ap (look_of plan) e) active) k.2)
    look_goes aim S.GlanceHeld e = λ moves owned ties is_y.
        let f = Looks (S.GlanceTake (x.store.bucket (bucket_of_aim plan aim))) in
        led aim S.GlanceHeld e f moves owned ties is_y
        (waits_then aim S.GlanceHeld e f moves ties is_y tt refl (is_look aim S.GlanceHeld e).2)
    look_goes aim (S.GlanceTake old) e = λ moves owned ties is_y.
        let glance = S.GlanceTake old in
        let f = glance_fate plan now.time aim glance (x.store.hold p) in
        led aim glance e f moves owned ties is_y
        (waits_then aim glance e f moves ties is_y tt
        (cond_both (x.store.hold p == _) _ x.store (λ (st : W.Store). st.want p ≡ x.store.want p) (λ _. refl)
        (λ _. refl))
        (is_look aim glance e).2)
    look_goes aim (S.GlanceBack kept) e = λ moves owned ties is_y.
        let glance = S.GlanceBack kept in
        led aim glance e (Shows kept) moves owned ties is_y (is_look aim glance e).2

    -- a look begins
    look_begun : (aim : Aim) → IsAim plan aim →
        (let y = ticked (look_begins x p now aim) in
        Moves plan s.owned.at x y → Owned plan y → Ties plan x s.tied y → y ≡ world_after plan es1 → Seen es1 y)
    look_begun aim is moves owned ties is_y =
        next_seen x.store (record now {
          stand = S.Glances aim
              (S.GlanceWord (LOOK_TRIES - 1));
          course = course_from x.clock;
        })
        x.answers x.made moves owned ties is_y (λ q n. refl) (is, omega arith, tt)
        (lifted is_plan es event x s (ticked (look_begins x p now aim)) moves ties refl is_y x.answers s.answers)

    -- and an update
    update_begun : (call : Call) → IsChange call →
        (let y = ticked (update_begins plan x p now call) in
        Moves plan s.owned.at x y → Owned plan y → Ties plan x s.tied y → y ≡ world_after plan es1 → Seen es1 y)
    update_begun call change moves owned ties is_y =
        let taken = scan_begins plan p now.free now in
        let f = first_fate taken.free taken.scan in
        let y = ticked (update_begins plan x p now call) in
        next_seen x.store (record taken { stand = stand_at call f; course = course_from x.clock })
        (answers_after x p call (course_from x.clock) f) x.made moves owned ties is_y (λ q n. refl) (stands f)
        (by_fate is_plan es event x s y moves ties refl is_y p call (course_from x.clock) f change)
      where
        stands : (f : Fate) → Looking (ticked (update_begins plan x p now call)) es1 ties.then p x.clock
            (stand_at call f)
        stands (On step) = change
        stands (Ends reply) = tt
        stands Spends = tt
        stands Refuses = tt

    abbrev Comes : World → Type 0
    Comes y = Moves plan s.owned.at x y → Owned plan y → y ≡ world_after plan es1 → Seen es1 y

    call_comes : (call : Call) → Fits plan p now (Begin call) → Comes (ticked (call_begins plan x p now call))
    call_comes (Lookup key) fits moves owned is_y =
        look_begun (OfKey key) fits.1.1 moves owned
        (call_first plan is_plan x s.owned s.tied p inside (Lookup key) fits) is_y
    call_comes (Insert key value) fits moves owned is_y =
        update_begun (Insert key value) tt moves owned
        (call_first plan is_plan x s.owned s.tied p inside (Insert key value) fits) is_y
    call_comes (Remove key) fits moves owned is_y =
        update_begun (Remove key) tt moves owned
        (call_first plan is_plan x s.owned s.tied p inside (Remove key) fits) is_y
    call_comes (Tally key amount) fits moves owned is_y =
        update_begun (Tally key amount) tt moves owned
        (call_first plan is_plan x s.owned s.tied p inside (Tally key amount) fits) is_y
    call_comes (Count key value amount) fits moves owned is_y =
        update_begun (Count key value amount) tt moves owned
        (call_first plan is_plan x s.owned s.tied p inside (Count key value amount) fits) is_y
    call_comes (Put key value) fits moves owned is_y =
        update_begun (Put key value) tt moves owned
        (call_first plan is_plan x s.owned s.tied p inside (Put key value) fits) is_y

    stand_comes : (stand : Stand) → now.stand ≡ stand → IsFlying plan p stand →
        Comes (ticked (goes_on plan x p now stand))
    stand_comes S.Idle e flies moves owned is_y = absurd flies
    stand_comes (S.Goes call step) e flies moves owned is_y =
        update_seen call step e moves owned
        (seat_goes plan is_plan x s.owned s.tied p inside (S.Goes call step) e flies) is_y
    stand_comes (S.Glances aim glance) e flies moves owned is_y =
        look_goes aim glance e moves owned
        (seat_goes plan is_plan x s.owned s.tied p inside (S.Glances aim glance) e flies) is_y

    seat_comes : (what : What) → Fits plan p now what → Comes (ticked (act plan x p now what))
    seat_comes (Begin call) fits = call_comes call fits
    seat_comes (Copy bucket) fits = λ moves owned is_y.
        look_begun (OfBucket bucket) fits.2 moves owned
        (look_first plan is_plan x s.owned s.tied p inside (OfBucket bucket) fits.2 fits.0) is_y
    seat_comes Step_on fits = stand_comes now.stand refl fits

  -- ---- readers that cannot hold

  -- they change neither words nor seats
  reader_same : (x : World) (r : ℕ) (peek : Peek) →
      (let y = ticked (peek_acts plan x r (x.readers r) peek) in
      (y.seats ≡ x.seats) × (y.store ≡ x.store) × (y.clock ≡ x.clock + 1))
  reader_same x r (Open aim tries) = (refl, refl, refl)
  reader_same x r Peek_on = go (x.readers r).stand
    where
      go : (stand : S.Peeking) →
          (let y = ticked (peeks_on plan x r (x.readers r) stand) in
          (y.seats ≡ x.seats) × (y.store ≡ x.store) × (y.clock ≡ x.clock + 1))
      go S.Rests = (refl, refl, refl)
      go (S.Peeks aim glance) = (refl, refl, refl)

  reader_answers : (P : Answer → Type 0) → ((a : Answer) (r : ℕ) → a.by ≡ ByReader r → P a) → (x : World) (r : ℕ)
      (peek : Peek) → All P x.answers → All P (peek_acts plan x r (x.readers r) peek).answers
  reader_answers P readers x r (Open aim tries) all = all
  reader_answers P readers x r Peek_on all = go (x.readers r).stand
    where
      by_peek : (aim : Aim) (c : Course) (f : GlanceFate) → All P (peek_answers plan x r aim c f)
      by_peek aim c (Looks glance) = all
      by_peek aim c (Shows items) =
          All-append P x.answers (_ ∷ []) all (All-cons P _ [] (readers _ r refl) (All-nil P))
      by_peek aim c Disturbed =
          All-append P x.answers (_ ∷ []) all (All-cons P _ [] (readers _ r refl) (All-nil P))

      go : (stand : S.Peeking) → All P (peeks_on plan x r (x.readers r) stand).answers
      go S.Rests = all
      go (S.Peeks aim glance) = by_peek aim _ _

  -- ---- runs

  seen_next : (is_plan : IsPlan plan) (es : List Event) (x : World) → Seen es x → (event : Event) →
      IsEvent plan x event →
      Seen (es ++ event ∷ []) (happens plan x event)
  seen_next is_plan es x s event fits = by_event event fits
    where
      is_next : (event : Event) → happens plan x event ≡ world_after plan (es ++ event ∷ [])
      is_next event =
          ap (λ (w : World). happens plan w event) s.world ∙ sym (after_both plan es (event ∷ []) (opening_world plan))

      by_event : (event : Event) → IsEvent plan x event → Seen (es ++ event ∷ []) (happens plan x event)
      by_event (OfSeat p what) fits =
          let event = OfSeat p what in
          let k = event_keeps plan is_plan x s.owned event fits in
          let y = ticked (act plan x p (seat_in x p) what) in
          subst (λ (c : Bool). Comes is_plan es x s p fits.0 event (cond c y x))
          (sym (lt-ltb p (holders_of plan.settings) fits.0)) (seat_comes is_plan es x s p fits.0 event what fits.1)
          k.moves k.owned (is_next event)
      by_event (OfReader r peek) fits =
          let event = OfReader r peek in
          let y = happens plan x event in
          let k = event_keeps plan is_plan x s.owned event fits in
          let ties = ties_next plan is_plan x s.owned s.tied event fits in
          let same = reader_same x r peek in
          record {
            owned = k.owned;
            tied = ties.then;
            world = is_next event;
            clock = (let later = same.2 in let long = length-append es (event ∷ []) in
                omega (arith, later, long, s.clock));
            seats = λ q less.
                let seat : seat_in y q ≡ seat_in x q = ap (λ (ss : List SeatNow). slice_index_or ss q nobody) same.0 in
                subst (λ (n : SeatNow). Looking y (es ++ event ∷ []) ties.then q n.course.began n.stand) (sym seat)
                (looking_still is_plan es event x s y k.moves ties same.2 (is_next event) q seat
                (ap (λ (st : W.Store). st.want q) same.1) (seat_in x q).stand refl (s.seats q less));
            answers = reader_answers (λ (a : Answer). IsLook plan (es ++ event ∷ []) a a.by a.asked)
                (λ a reader by. subst (λ q. IsLook plan (es ++ event ∷ []) a q a.asked) (sym by) tt) x r peek
                (lifted is_plan es event x s y k.moves ties same.2 (is_next event) x.answers s.answers);
          }

  seen_first : IsPlan plan → Seen [] (opening_world plan)
  seen_first is = record {
    owned = opening_owned plan is;
    tied = tied_open plan is;
    world = refl;
    clock = refl;
    seats = λ q less. subst (λ (k : SeatNow). Looking (opening_world plan) []
        (tied_open plan is) q k.course.began k.stand)
        (sym (seat_is plan is q less)) tt;
    answers = All-nil (λ (a : Answer). IsLook plan [] a a.by a.asked);
  }

  seen_follow : IsPlan plan → (es events : List Event) (x : World) → Seen es x → AreEvents plan x events →
      Seen (es ++ events) (fold (happens plan) x events)
  seen_follow is es [] x h follow = subst (λ (l : List Event). Seen l x) (sym (append-nil es)) h
  seen_follow is es (event ∷ events) x h follow =
      subst (λ (l : List Event). Seen l (fold (happens plan) (happens plan x event) events))
      (append_assoc es (event ∷ []) events)
      (seen_follow is (es ++ event ∷ []) events (happens plan x event) (seen_next is es x h event follow.0) follow.1)

-- THE RESULT
pub looks_are_of_moments : LooksAreOfMoments
looks_are_of_moments plan events run =
    (seen_follow plan run.opened [] events (opening_world plan) (seen_first plan run.opened) run.follow).answers
