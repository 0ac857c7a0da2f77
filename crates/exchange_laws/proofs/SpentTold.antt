-- An update that begins when its bucket is spent is told so, unless it changes nothing there.
use Rattle.std.proofs.Common.{◌≡◌, ℕ, ◌+◌, ◌<◌, ◌≤◌, inl, inr, Bool, true, false, cond, List, [], ◌∷◌, ◌++◌, length, Option, Some, None, refl, sym, ap, ◌∙◌, subst, arith, true≢false, lt-ltb, get_or-set_same, get_or-set_other}
use Rattle.std.specs.Prelude.{nat_lt, All, fold}
use Rattle.std.proofs.lemmas.Bool.{cases_eq, eq-eqb}
use Rattle.std.proofs.lemmas.List.Elements.{All-nil, All-cons, All-append, All-weaker, recursion_from_All}
use Rattle.std.specs.List.{AllByRecursion as Each}
use Rattle.plain_map.specs.declared.calls.Call.{Call}
use Rattle.plain_map.specs.declared.calls.Call.TheVariants.{Insert, Remove, Lookup, Tally, Count, Put}
use Rattle.plain_map.specs.declared.keys.Pair.{Pair}
use Rattle.plain_map.specs.Calls.{key_in, is_update}
use Rattle.bucket_states.specs.Items.{reply_in}
use Rattle.exchange_model.specs.Plans.{Plan, IsPlan, rules_of, holders_of, buckets_of, more}
use Rattle.exchange_model.specs.Codes.{Row, row_in, is_spent, row_at, row_of_words, length_by}
use Rattle.exchange_model.specs.Words as W
use Rattle.exchange_model.specs.Steps as S
use Rattle.exchange_model.specs.Steps.{MadeBySeat, Step, Stand, Scan, SeatNow, Course, Try, Aim, OfKey, OfBucket, Glance, deed_of, glance_deed, bucket_of_call}
use Rattle.exchange_model.specs.Goes.{ScanFate, ScansOn, Scanned, scan_fate_of, scan_begins, Fate, On, Ends, Spends, Refuses, with_free, first_fate, after_scan, is_announced, lost, gives_up, unless_spent, is_quiet, by_entry, looked, entry_for, fate, own_after, GlanceFate, Looks, Shows, Disturbed, glance_fate, Asked, Called, Copied, Told, Replied, Spent, Refused, asked_by_aim}
use Rattle.exchange_model.specs.Worlds.{World, Answer, Asker, BySeat, ByReader, Event, OfSeat, OfReader, IsEvent, AreEvents, What, Begin, Copy, Step_on, Fits, IsFlying, seat_in, with_seat, with_answer, ticked, found_by, store_after, seat_after, answers_after, stepped, goes, glances, look_after, look_answers, peek_answers, course_from, stand_at, update_begins, call_begins, goes_on, act, happens, nobody, opening_world, world_after, Peek, Open, Peek_on, peeks_on}
use Rattle.exchange_model.specs.Laws.{IsTaken, IsToldSpent, SpentIsTold, pairs_in}
use Rattle.exchange_laws.proofs.Words.{bucket_small}
use Rattle.exchange_laws.proofs.Owned.{Owned}
use Rattle.exchange_laws.proofs.OwnedMoves.{Moves}
use Rattle.exchange_laws.proofs.OwnedEvents.{event_keeps}
use Rattle.exchange_laws.proofs.OwnedRuns.{row_stays, opening_owned, front_follows, back_follows, after_both}
use Rattle.exchange_laws.proofs.TrueReads.{Reads, ReadsAt, whole_row, reads_keep, reads_first}
use Rattle.exchange_laws.proofs.ItemsAgree.{items_agree}
use Rattle.exchange_laws.proofs.PastCalls.{Past, BeganBefore, FliesSince, past_keep, past_first}
use Rattle.exchange_laws.proofs.SpentBuckets as SB
use Rattle.exchange_laws.proofs.SpentBuckets.{KeepsLast, own_course, spent_next, spent_first, spent_follow}

last_each : {A : Type 0} (P : A → Type 0) (xs : List A) (x : A) → Each P (xs ++ x ∷ []) → P x
last_each P [] x all = all.0
last_each P (y ∷ xs) x all = last_each P xs x all.1

last_all : {A : Type 0} (P : A → Type 0) (xs : List A) (x : A) → All P (xs ++ x ∷ []) → P x
last_all P xs x all = last_each P xs x (recursion_from_All P (xs ++ x ∷ []) all)

abbrev asker_kind : Asker → ℕ
asker_kind (BySeat seat) = 0
asker_kind (ByReader reader) = 1

abbrev called_or : Call → Asked → Call
called_or d (Called call) = call
called_or d (Copied bucket) = d

abbrev asked_kind : Asked → ℕ
asked_kind (Called call) = 0
asked_kind (Copied bucket) = 1

module _ (plan : Plan) (is_plan : IsPlan plan) (since : ℕ) (x0 : World) where
  abbrev items : (b : ℕ) → List Pair
  items b = pairs_in plan x0 b

  abbrev word : (b : ℕ) → ℕ
  word b = x0.store.bucket b

  abbrev IsSpent : (b : ℕ) → Type 0
  IsSpent b = is_spent plan (word b) ≡ true

  abbrev IsTold : Call → Told → Type 0
  IsTold call told = IsToldSpent plan (items (bucket_of_call plan call)) call told

  -- what is promised of an answer
  abbrev pub TellsIt : Answer → Type 0
  TellsIt a =
      (seat : ℕ) (call : Call) → a.by ≡ BySeat seat → a.asked ≡ Called call → is_update call ≡ true → since ≤ a.began →
      IsSpent (bucket_of_call plan call) → IsTold call a.told

  -- an update that began since then comes no further than the check of its first try
  abbrev SpentStep : (b : ℕ) → Step → Type 0
  SpentStep b S.Scans = Unit {0}
  SpentStep b (S.LoadWord turn) = turn ≡ 1
  SpentStep b (S.LoadRow turn old words) = (turn ≡ 1) × (old ≡ word b)
  SpentStep b (S.CheckWord turn old words) = (turn ≡ 1) × (old ≡ word b)
  SpentStep b step = ⊥

  abbrev SpentAt : (began : ℕ) → Stand → Type 0
  SpentAt began S.Idle = Unit {0}
  SpentAt began (S.Goes call step) =
      since ≤ began → IsSpent (bucket_of_call plan call) → SpentStep (bucket_of_call plan call) step
  SpentAt began (S.Glances aim glance) = Unit {0}

  pub record Later (y : World) : Type 0 where
    pub clock : since ≤ y.clock
    pub words : (b : ℕ) → b < buckets_of plan.settings → IsSpent b → y.store.bucket b ≡ word b
    pub rows : (b i : ℕ) → b < buckets_of plan.settings → IsSpent b →
        y.store.row (row_in plan (word b)) i ≡ x0.store.row (row_in plan (word b)) i
    pub each : (q : ℕ) → q < holders_of plan.settings → SpentAt (seat_in y q).course.began (seat_in y q).stand
    pub told : All TellsIt y.answers

  -- where a step leads
  abbrev Ok : Call → Fate → Type 0
  Ok call (On step) = SpentStep (bucket_of_call plan call) step
  Ok call (Ends reply) = IsTold call (Replied reply)
  Ok call Spends = IsTold call Spent
  Ok call Refuses = ⊥

  module _ (y : World) (h : Owned plan y) (reads : Reads plan y) (l : Later y) (p : ℕ)
      (inside : p < holders_of plan.settings) where
    abbrev now : SeatNow
    now = seat_in y p

    module _ (call : Call) (spent : IsSpent (bucket_of_call plan call)) where
      abbrev b : ℕ
      b = bucket_of_call plan call

      small : b < buckets_of plan.settings
      small = bucket_small plan is_plan (key_in call)

      free_ok : (free : List ℕ) → (with_free free ≡ Refuses → ⊥) → Ok call (with_free free)
      free_ok [] never = never refl
      free_ok (r ∷ free) never = refl

      scan_ok : (f : ScanFate) → (after_scan now.free f ≡ Refuses → ⊥) → Ok call (after_scan now.free f)
      scan_ok (ScansOn scan) never = tt
      scan_ok (Scanned left held) never = free_ok (now.free ++ left) never

      row_ok : (turn old : ℕ) (words : List ℕ) (w : ℕ) → (turn ≡ 1) × (old ≡ word b) →
          Ok call (fate plan p now call (S.LoadRow turn old words) w)
      row_ok turn old words w s = go (nat_lt (length words + 1) (length_by plan (more words w)))
        where
          go : (c : Bool) →
              Ok call (On (cond c (S.LoadRow turn old (more words w)) (S.CheckWord turn old (more words w))))
          go true = s
          go false = s

      -- the check of the first try answers
      check_ok : (turn old : ℕ) (words : List ℕ) → now.stand ≡ S.Goes call (S.CheckWord turn old words) →
          (turn ≡ 1) × (old ≡ word b) → Ok call (fate plan p now call (S.CheckWord turn old words) (y.store.bucket b))
      check_ok turn old words stood s =
          subst (λ (c : Bool). Ok call (cond c (looked plan p now call t) (lost turn)))
          (sym (eq-eqb (y.store.bucket b) old same))
          (subst (λ (c : Bool). Ok call (cond c (by_entry plan t (entry_for p now.posted t.row.entries))
          (cond quiet (Ends (reply_in (rules_of plan) t.row.items call)) (unless_spent plan t)))) (sym first)
          (by_quiet quiet refl))
        where
          t : Try
          t = record { turn = turn; word = old; row = row_of_words plan words }

          quiet : Bool
          quiet = is_quiet (rules_of plan) t.row.items call

          same : y.store.bucket b ≡ old
          same = l.words b small spent ∙ sym s.1

          first : is_announced turn ≡ false
          first = ap is_announced s.0

          items_are : t.row.items ≡ items b
          items_are =
              let r : ReadsAt plan y (S.Goes call (S.CheckWord turn old words)) =
              subst (ReadsAt plan y) stood (reads.each p inside) in
              ap (λ (k : Row). k.items) (whole_row plan words (y.store.row (row_in plan old)) (r.0.front same) r.1)
              ∙ ap (λ w. (row_at plan (y.store.row (row_in plan w))).items) s.1
              ∙ ap (λ (f : ℕ → ℕ). (row_at plan f).items) (λ k i. l.rows b i small spent k)
              ∙ items_agree plan (x0.store.row (row_in plan (word b)))

          quiet_is : quiet ≡ is_quiet (rules_of plan) (items b) call
          quiet_is = ap (λ (k : List Pair). is_quiet (rules_of plan) k call) items_are

          by_quiet : (c : Bool) → quiet ≡ c →
              Ok call (cond c (Ends (reply_in (rules_of plan) t.row.items call)) (unless_spent plan t))
          by_quiet true e = inr (
            ap (λ (k : List Pair). Replied (reply_in (rules_of plan) k call)) items_are,
            sym quiet_is ∙ e,
          )
          by_quiet false e =
              subst (λ (c : Bool). Ok call (cond c (gives_up (is_announced turn)) (On (S.LoadPending t))))
              (sym (ap (is_spent plan) s.1 ∙ spent))
              (subst (λ (c : Bool). Ok call (gives_up c)) (sym first) (inl (refl, sym quiet_is ∙ e)))

      fated : (step : Step) → now.stand ≡ S.Goes call step → SpentStep b step →
          (fate plan p now call step (found_by (deed_of plan p now call step) y.store) ≡ Refuses → ⊥) →
          Ok call (fate plan p now call step (found_by (deed_of plan p now call step) y.store))
      fated S.Scans e s never =
          scan_ok (scan_fate_of plan p now.scan (found_by (deed_of plan p now call S.Scans) y.store)) never
      fated (S.LoadWord turn) e s never = (s, l.words b small spent)
      fated (S.LoadRow turn old words) e s never =
          row_ok turn old words (found_by (deed_of plan p now call (S.LoadRow turn old words)) y.store) s
      fated (S.CheckWord turn old words) e s never = check_ok turn old words e s
      fated (S.LoadPending t) e s never = absurd s
      fated (S.LoadAnnounced t found) e s never = absurd s
      fated (S.LoadOp t found announced words) e s never = absurd s
      fated (S.StoreRow t found i) e s never = absurd s
      fated (S.Exchange t found) e s never = absurd s
      fated S.RaisePending e s never = absurd s
      fated (S.StoreOp i) e s never = absurd s
      fated S.Announce e s never = absurd s
      fated S.StoreWant e s never = absurd s
      fated S.StoreAsking e s never = absurd s
      fated S.HeldWord e s never = absurd s
      fated (S.TakeHold old) e s never = absurd s
      fated (S.HeldHead row) e s never = absurd s
      fated (S.HeldEntry row at left) e s never = absurd s
      fated (S.HeldReply row at) e s never = absurd s
      fated (S.GiveBack reply) e s never = absurd s
      fated (S.Over ending) e s never = absurd s
      fated (S.LowerPending ending) e s never = absurd s
      fated S.Stuck e s never = absurd s

    -- ---- events

    module _ (store : W.Store) (own : SeatNow) (answers : List Answer) (updates : List MadeBySeat) where
      abbrev Y : World
      Y = ticked (with_seat y p store own answers updates)

      next : (moves : Moves plan h.at y Y) → KeepsLast plan y Y → SpentAt own.course.began own.stand →
          All TellsIt answers →
          Later Y
      next moves keeps here told = record {
        clock = (let old = l.clock in omega (arith, old));
        words = λ b less spent. keeps b (ap (is_spent plan) (l.words b less spent) ∙ spent) ∙ l.words b less spent;
        rows = λ b i less spent.
            subst (λ w. store.row (row_in plan w) i ≡ y.store.row (row_in plan w) i) (l.words b less spent)
            (row_stays plan y Y h b i less moves) ∙ l.rows b i less spent;
        each = λ q less. elim (cases_eq q p) [
          | inl e ↦ subst (λ (k : SeatNow). SpentAt k.course.began k.stand)
              (sym (ap (seat_in Y) e
              ∙ get_or-set_same y.seats p own nobody (let long = h.long in omega (arith, inside, long)))) here
          | inr n ↦ subst (λ (k : SeatNow). SpentAt k.course.began k.stand)
              (sym (get_or-set_other y.seats p q own nobody n)) (l.each q less)
        ];
        told = told;
      }

    -- one answer more
    told_more : (a : Answer) → TellsIt a → All TellsIt (y.answers ++ a ∷ [])
    told_more a one = All-append TellsIt y.answers (a ∷ []) l.told (All-cons TellsIt a [] one (All-nil TellsIt))

    -- an update of this seat is answered
    tells : (call : Call) (told : Told) (course : Course) (ended : ℕ) →
        (since ≤ course.began → IsSpent (bucket_of_call plan call) → IsTold call told) →
        TellsIt (record {
          by = BySeat p;
          asked = Called call;
          told = told;
          began = course.began;
          ended = ended;
          steps = course.steps;
        })
    tells call told course ended ok seat other by asked is late spent =
        let same : call ≡ other = ap (called_or call) asked in
        subst (λ (c : Call). IsTold c told) same
        (ok late (subst (λ (c : Call). IsSpent (bucket_of_call plan c)) (sym same) spent))

    module _ (call : Call) where
      stands : (own : SeatNow) (f : Fate) → (since ≤ own.course.began → IsSpent (bucket_of_call plan call) →
          Ok call f) →
          SpentAt (seat_after own call f).course.began (seat_after own call f).stand
      stands own (On s) ok = ok
      stands own (Ends reply) ok = tt
      stands own Spends ok = tt
      stands own Refuses ok = tt

      told_after : (course : Course) (f : Fate) → (since ≤ course.began → IsSpent (bucket_of_call plan call) →
          Ok call f) →
          All TellsIt (answers_after y p call course f)
      told_after course (On s) ok = l.told
      told_after course (Ends reply) ok = told_more _ (tells call (Replied reply) course (y.clock + 1) ok)
      told_after course Spends ok = told_more _ (tells call Spent course (y.clock + 1) ok)
      told_after course Refuses ok = told_more _ (tells call Refused course (y.clock + 1) (λ a s. absurd (ok a s)))

      -- none is refused
      never_refused : (course : Course) (f : Fate) →
          All (λ (a : Answer). IsTaken a.told) (answers_after y p call course f) →
          f ≡ Refuses → ⊥
      never_refused course f taken e =
          last_all (λ (a : Answer). IsTaken a.told) y.answers _
          (subst (λ (f : Fate). All (λ (a : Answer). IsTaken a.told) (answers_after y p call course f)) e taken)

      update_step : (step : Step) → now.stand ≡ S.Goes call step → (let z = ticked (goes plan y p now call step) in
          Moves plan h.at y z → KeepsLast plan y z → Owned plan z → Later z)
      update_step step stood moves keeps owned =
          let deed = deed_of plan p now call step in
          let w = found_by deed y.store in
          let own = own_after plan p now call step w in
          let f = fate plan p now call step w in
          let same = own_course plan p now call step w in
          let was : SpentAt now.course.began (S.Goes call step) =
          subst (SpentAt now.course.began) stood (l.each p inside) in
          let ok : since ≤ now.course.began → IsSpent (bucket_of_call plan call) → Ok call f =
          (λ late spent. fated call spent step stood (was late spent)
          (never_refused (stepped now.course) f owned.taken)) in
          next (store_after deed y.store) (seat_after own call f)
          (answers_after y p call (stepped now.course) f) _ moves keeps
          (stands own f (λ late spent. ok (subst (λ (c : Course). since ≤ c.began) same late) spent))
          (told_after (stepped now.course) f ok)

      update_first : (let z = ticked (update_begins plan y p now call) in
          Moves plan h.at y z → KeepsLast plan y z → Owned plan z → Later z)
      update_first moves keeps owned =
          let begun = scan_begins plan p now.free now in
          let f = first_fate begun.free begun.scan in
          let ok : since ≤ y.clock → IsSpent (bucket_of_call plan call) → Ok call f =
          (λ late spent. first_ok begun.free begun.scan (never_refused (course_from y.clock) f owned.taken)) in
          next y.store (record begun { stand = stand_at call f; course = course_from y.clock })
          (answers_after y p call (course_from y.clock) f) y.made moves keeps (first_stands f ok)
          (told_after (course_from y.clock) f ok)
        where
          first_ok : (free : List ℕ) (scan : Option Scan) → (first_fate free scan ≡ Refuses → ⊥) →
              Ok call (first_fate free scan)
          first_ok [] None never = never refl
          first_ok (r ∷ free) None never = refl
          first_ok free (Some scan) never = tt

          first_stands : (f : Fate) → (since ≤ y.clock → IsSpent (bucket_of_call plan call) → Ok call f) →
              SpentAt y.clock (stand_at call f)
          first_stands (On s) ok = ok
          first_stands (Ends reply) ok = tt
          first_stands Spends ok = tt
          first_stands Refuses ok = tt

    -- a look is no update
    told_look : (aim : Aim) (told : Told) (course : Course) →
        All TellsIt (with_answer y (BySeat p) (asked_by_aim aim) told course)
    told_look (OfKey key) told course =
        told_more _ (λ seat call by asked is late spent.
        absurd (true≢false (sym is ∙ ap is_update (sym (ap (called_or call) asked)))))
    told_look (OfBucket bucket) told course =
        told_more _ (λ seat call by asked is late spent. absurd (let k = ap asked_kind asked in omega (arith, k)))

    look_step : (aim : Aim) (glance : Glance) → (let z = ticked (glances plan y p now aim glance) in
        Moves plan h.at y z → KeepsLast plan y z → Later z)
    look_step aim glance moves keeps =
        let deed = glance_deed plan p now.time aim glance in
        let f = glance_fate plan now.time aim glance (found_by deed y.store) in
        next (store_after deed y.store) (look_after now aim glance f)
        (look_answers plan y p aim (stepped now.course) f) y.made
        moves keeps (look_stands f) (told f)
      where
        look_stands : (f : GlanceFate) →
            SpentAt (look_after now aim glance f).course.began (look_after now aim glance f).stand
        look_stands (Looks g) = tt
        look_stands (Shows kept) = tt
        look_stands Disturbed = tt

        told : (f : GlanceFate) → All TellsIt (look_answers plan y p aim (stepped now.course) f)
        told (Looks g) = l.told
        told (Shows kept) = told_look aim _ (stepped now.course)
        told Disturbed = l.told

    call_first : (call : Call) → (let z = ticked (call_begins plan y p now call) in
        Moves plan h.at y z → KeepsLast plan y z → Owned plan z → Later z)
    call_first (Lookup key) moves keeps owned = next y.store _ y.answers y.made moves keeps tt l.told
    call_first (Insert key value) moves keeps owned = update_first (Insert key value) moves keeps owned
    call_first (Remove key) moves keeps owned = update_first (Remove key) moves keeps owned
    call_first (Tally key amount) moves keeps owned = update_first (Tally key amount) moves keeps owned
    call_first (Count key value amount) moves keeps owned = update_first (Count key value amount) moves keeps owned
    call_first (Put key value) moves keeps owned = update_first (Put key value) moves keeps owned

    seat_goes : (stand : Stand) → now.stand ≡ stand → IsFlying plan p stand →
        (let z = ticked (goes_on plan y p now stand) in
        Moves plan h.at y z → KeepsLast plan y z → Owned plan z → Later z)
    seat_goes S.Idle e flies moves keeps owned = absurd flies
    seat_goes (S.Goes call step) e flies moves keeps owned = update_step call step e moves keeps owned
    seat_goes (S.Glances aim glance) e flies moves keeps owned = look_step aim glance moves keeps

    seat_later : (what : What) → Fits plan p now what → (let z = ticked (act plan y p now what) in
        Moves plan h.at y z → KeepsLast plan y z → Owned plan z → Later z)
    seat_later (Begin call) fits moves keeps owned = call_first call moves keeps owned
    seat_later (Copy bucket) fits moves keeps owned = next y.store _ y.answers y.made moves keeps tt l.told
    seat_later Step_on fits moves keeps owned = seat_goes now.stand refl fits moves keeps owned

  -- a reader that cannot hold makes no updates
  told_reader : (y : World) (r : ℕ) (asked : Asked) (told : Told) (course : Course) → All TellsIt y.answers →
      All TellsIt (with_answer y (ByReader r) asked told course)
  told_reader y r asked told course all =
      All-append TellsIt y.answers (_ ∷ []) all
      (All-cons TellsIt _ [] (λ seat call by asked is late spent.
      absurd (let k = ap asker_kind by in omega (arith, k))) (All-nil TellsIt))

  reader_later : (y : World) (r : ℕ) (peek : Peek) → Later y → Later (happens plan y (OfReader r peek))
  reader_later y r (Open aim tries) l = record {
    clock = (let old = l.clock in omega (arith, old));
    words = l.words;
    rows = l.rows;
    each = l.each;
    told = l.told;
  }
  reader_later y r Peek_on l = go (y.readers r).stand
    where
      go : (stand : S.Peeking) → Later (ticked (peeks_on plan y r (y.readers r) stand))
      go S.Rests = record {
        clock = (let old = l.clock in omega (arith, old));
        words = l.words;
        rows = l.rows;
        each = l.each;
        told = l.told;
      }
      go (S.Peeks aim glance) = record {
        clock = (let old = l.clock in omega (arith, old));
        words = l.words;
        rows = l.rows;
        each = l.each;
        told = told (glance_fate plan 0 aim glance (found_by (glance_deed plan 0 0 aim glance) y.store));
      }
        where
          told : (f : GlanceFate) → All TellsIt (peek_answers plan y r aim (stepped (y.readers r).course) f)
          told (Looks g) = l.told
          told (Shows kept) = told_reader y r _ _ (stepped (y.readers r).course) l.told
          told Disturbed = told_reader y r _ _ (stepped (y.readers r).course) l.told

  later_keep : (y : World) (h : Owned plan y) → Reads plan y → Later y → (event : Event) → IsEvent plan y event →
      Moves plan h.at y (happens plan y event) → KeepsLast plan y (happens plan y event) →
      Owned plan (happens plan y event) →
      Later (happens plan y event)
  later_keep y h reads l (OfSeat p what) fits =
      subst (λ (c : Bool). Moves plan h.at y (cond c z y) → KeepsLast plan y (cond c z y) → Owned plan (cond c z y) →
      Later (cond c z y)) (sym (lt-ltb p (holders_of plan.settings) fits.0))
      (seat_later y h reads l p fits.0 what fits.1)
    where
      z : World
      z = ticked (act plan y p (seat_in y p) what)
  later_keep y h reads l (OfReader r peek) fits = λ moves keeps owned. reader_later y r peek l

  -- in a run that goes on from there
  pub later_follow : (es events : List Event) (y : World) → SB.Seen plan es y → Reads plan y → Later y →
      AreEvents plan y events →
      Later (fold (happens plan) y events)
  later_follow es [] y s reads l follow = l
  later_follow es (event ∷ events) y s reads l follow =
      let z = happens plan y event in
      let one = spent_next plan is_plan es y s event follow.0 in
      let k = event_keeps plan is_plan y s.owned event follow.0 in
      later_follow (es ++ event ∷ []) events z one.seen (reads_keep plan is_plan y s.owned reads event follow.0 k.moves)
      (later_keep y s.owned reads l event follow.0 k.moves one.keeps k.owned) follow.1

-- what is known at the front
module _ (plan : Plan) (is_plan : IsPlan plan) where
  record Front (x : World) : Type 0 where
    pub owned : Owned plan x
    pub reads : Reads plan x
    pub past : Past plan x

  front_follow : (events : List Event) (x : World) → Front x → AreEvents plan x events →
      Front (fold (happens plan) x events)
  front_follow [] x f follow = f
  front_follow (event ∷ events) x f follow =
      let k = event_keeps plan is_plan x f.owned event follow.0 in
      front_follow events (happens plan x event) (record {
        owned = k.owned;
        reads = reads_keep plan is_plan x f.owned f.reads event follow.0 k.moves;
        past = past_keep plan x f.owned f.past event follow.0;
      }) follow.1

  -- no call that is under way then began since then
  starts : (x : World) (since : ℕ) → x.clock ≡ since → Front x → Later plan is_plan since x x
  starts x since clock f = record {
    clock = omega (arith, clock);
    words = λ b less spent. refl;
    rows = λ b i less spent. refl;
    each = λ q less. go (seat_in x q).course.began (seat_in x q).stand (f.past.flights q less);
    told = All-weaker (BeganBefore x.clock) (TellsIt plan is_plan since x) (λ a b seat call by asked is late spent.
        absurd (let early = b seat by in omega (arith, early, late, clock))) x.answers f.past.answers;
  }
    where
      go : (began : ℕ) (stand : Stand) → FliesSince x.clock began stand → SpentAt plan is_plan since x began stand
      go began S.Idle flies = tt
      go began (S.Goes call step) flies = λ late spent. absurd (omega (arith, late, flies, clock))
      go began (S.Glances aim glance) flies = tt

-- THE RESULT
pub spent_is_told : SpentIsTold
spent_is_told plan front back run =
    let x = opening_world plan in
    let y = world_after plan front in
    let f = front_follow plan run.opened front x (record {
      owned = opening_owned plan run.opened;
      reads = reads_first plan run.opened;
      past = past_first plan run.opened;
    }) (front_follows plan front back x run.follow) in
    let seen = (spent_follow plan run.opened [] front x (spent_first plan run.opened)
    (front_follows plan front back x run.follow)).seen in
    let l = later_follow plan run.opened (length front) y ([] ++ front) back y seen f.reads
    (starts plan run.opened y (length front) seen.clock f) (back_follows plan front back x run.follow) in
    subst (λ (w : World). All (TellsIt plan run.opened (length front) y) w.answers)
    (sym (after_both plan front back x)) l.told
