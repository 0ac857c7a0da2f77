-- In every run each call of a seat, or of a reader that can hold, is answered within its bound.
use Rattle.std.proofs.Common.{◌≡◌, ℕ, ◌+◌, ◌-◌, ◌*◌, ◌<◌, ◌≤◌, inl, inr, Bool, true, false, cond, not, List, [], ◌∷◌, ◌++◌, length, Option, Some, None, refl, sym, ap, ◌∙◌, subst, arith, lt-ltb, get_or-set_same, get_or-set_other}
use Rattle.std.specs.Prelude.{◌==◌, ◌&&◌, nat_lt, All, fold}
use Rattle.std.proofs.lemmas.Bool.{cases_eq, cond_both, ltb-true}
use Rattle.std.proofs.lemmas.List.{length-append}
use Rattle.std.proofs.lemmas.List.Elements.{All-nil, All-cons, All-append}
use Rattle.step_counts.specs.declared.TheConstants.{ITEM_WORDS}
use Rattle.plain_map.specs.declared.calls.Call.{Call}
use Rattle.plain_map.specs.declared.calls.Call.TheVariants.{Insert, Remove, Lookup, Tally, Count, Put}
use Rattle.plain_map.specs.declared.keys.Pair.{Pair}
use Rattle.exchange_model.specs.Plans.{Plan, Sizes, IsPlan, holders_of, more}
use Rattle.exchange_model.specs.Codes.{count_in, pair_in}
use Rattle.exchange_model.specs.Bounds.{update_bound, look_bound, call_bound}
use Rattle.exchange_model.specs.Laws.{IsWithin, StepsAreBounded}
use Rattle.exchange_model.specs.Words as W
use Rattle.exchange_model.specs.Steps as S
use Rattle.exchange_model.specs.Steps.{MadeBySeat, SeatNow, Step, Stand, Scan, Aim, OfKey, OfBucket, Source, Tried, HeldIn, Pass, Glance, Course, deed_of, glance_deed, bucket_of_call}
use Rattle.exchange_model.specs.Goes.{ScanFate, ScansOn, Scanned, scan_fate_of, scanned, scan_begins, seats_from, Fate, On, Ends, Spends, Refuses, first_fate, after_scan, fate, own_after, exchanged, GlanceFate, Looks, Shows, Disturbed, glance_fate, glance_lost, gone_through, pass_on, pass_of, passed, with_pair, may_be, is_aimed, pass_pair, pass_fate, Called, asked_by_aim}
use Rattle.exchange_model.specs.Worlds.{World, Answer, Asker, BySeat, ByReader, Event, OfSeat, OfReader, IsEvent, AreEvents, What, Begin, Copy, Step_on, Peek, Open, Peek_on, IsFlying, CanBegin, Fits, seat_in, with_seat, ticked, found_by, store_after, stepped, seat_after, answers_after, goes, glances, look_after, look_answers, look_begins, update_begins, call_begins, goes_on, act, peeks_on, peek_answers, stand_at, course_from, happens, nobody, opening_world}
use Rattle.exchange_laws.proofs.Owned.{Owned, Room}
use Rattle.exchange_laws.proofs.OwnedEvents.{event_keeps, quiet}
use Rattle.exchange_laws.proofs.OwnedRuns.{opening_owned, seat_is}
use Rattle.exchange_laws.proofs.MadeRows.{IsChange}
use Rattle.exchange_laws.proofs.FoundOps.{FoundOk, FoundAt, FoundStep, found_first, found_keep}
use Rattle.exchange_laws.proofs.TrueReads.{Reads, ReadsAt, ReadsStep, reads_first, reads_keep}
use Rattle.exchange_laws.proofs.SpentBuckets.{own_course}
use Rattle.exchange_laws.proofs.StepCounts.{Taken, FateTaken, Facts, IsNoScan, ScanTakenOf, ScanLed, scan_then, counted, from_seat, scan_counted, scanned_on, first_on}

-- ---- looks

module _ (s : Sizes) where
  -- the most steps of a try
  abbrev one_glance : ℕ
  one_glance = 3 + 7 * s.items

  -- until a try begins, with so many left after it
  abbrev tried : (left : ℕ) → ℕ
  tried left = cond (nat_lt 0 left) 0 one_glance

  -- until the first item is looked at
  abbrev first_item : Source → ℕ
  first_item (Tried left word) = tried left + 2
  first_item (HeldIn row) = 2 * one_glance + 5

  abbrev IsSource : Source → Type 0
  IsSource (Tried left word) = left ≤ 1
  IsSource (HeldIn row) = Unit {0}

  -- how many steps a look has taken where it stands, at most
  abbrev pub LookTaken : Glance → (n : ℕ) → Type 0
  LookTaken (S.GlanceWord left) n = (left ≤ 1) × (n ≤ tried left)
  LookTaken (S.GlanceCount (Tried left word)) n = (left ≤ 1) × (n ≤ tried left + 1)
  LookTaken (S.GlanceCount (HeldIn row)) n = n ≤ 2 * one_glance + 4
  LookTaken (S.GlanceItem source pass) n =
      IsSource source × (n ≤ first_item source + 7 * pass.item + length pass.part) × (pass.item < pass.count)
      × (pass.count ≤ s.items) × (length pass.part < 7)
  LookTaken (S.GlanceCheck left word kept) n = (left ≤ 1) × (n ≤ tried left + 2 + 7 * s.items)
  LookTaken S.GlanceWant n = n ≤ 2 * one_glance
  LookTaken S.GlanceAsking n = n ≤ 2 * one_glance + 1
  LookTaken S.GlanceHeld n = n ≤ 2 * one_glance + 2
  LookTaken (S.GlanceTake word) n = n ≤ 2 * one_glance + 3
  LookTaken (S.GlanceBack kept) n = n ≤ 2 * one_glance + 5 + 7 * s.items

  abbrev pub LookLed : (n : ℕ) → GlanceFate → Type 0
  LookLed n (Looks next) = LookTaken next n
  LookLed n (Shows items) = n ≤ look_bound s
  LookLed n Disturbed = n ≤ 2 * one_glance

  either_look : (n : ℕ) (f g : GlanceFate) (c : Bool) → LookLed n f → LookLed n g → LookLed n (cond c f g)
  either_look n f g true l r = l
  either_look n f g false l r = r

  -- a try may be the first or the second
  pub tried_most : (left : ℕ) → left ≤ 1 → tried left ≤ one_glance
  tried_most left few = go (nat_lt 0 left)
    where
      go : (b : Bool) → cond b 0 one_glance ≤ one_glance
      go true = omega arith
      go false = omega arith

  lost_led : (left n : ℕ) → left ≤ 1 → n ≤ tried left + one_glance → LookLed n (glance_lost left)
  lost_led left n few most = go (nat_lt 0 left) refl
    where
      go : (b : Bool) → nat_lt 0 left ≡ b → LookLed n (cond b (Looks (S.GlanceWord (left - 1))) Disturbed)
      go true e =
          let some = ltb-true 0 left e in
          let was : tried left ≡ 0 = ap (λ (c : Bool). cond c 0 one_glance) e in
          let last : left - 1 ≡ 0 = omega (arith, some, few) in
          let now : tried (left - 1) ≡ one_glance = ap tried last in
          (omega (arith, few), omega (arith, most, was, now))
      go false e =
          (let was : tried left ≡ one_glance = ap (λ (c : Bool). cond c 0 one_glance) e in omega (arith, most, was))

  through : (source : Source) (kept : List Pair) (n : ℕ) → IsSource source → n ≤ first_item source + 7 * s.items →
      LookLed n (gone_through source kept)
  through (Tried left word) kept n is most = (is, most)
  through (HeldIn row) kept n is most = most

  -- the next item, if there is one
  on_led : (source : Source) (pass : Pass) (n : ℕ) → IsSource source → n ≤ first_item source + 7 * pass.item →
      pass.item ≤ pass.count → pass.count ≤ s.items → length pass.part < 7 → LookLed n (pass_on source pass)
  on_led source pass n is most within few part = go (nat_lt pass.item pass.count) refl
    where
      go : (b : Bool) → nat_lt pass.item pass.count ≡ b →
          LookLed n (cond b (Looks (S.GlanceItem source pass)) (gone_through source pass.kept))
      go true e = (is, omega (arith, most), ltb-true pass.item pass.count e, few, part)
      go false e = through source pass.kept n is (omega (arith, most, within, few))

  word_led : (source : Source) (aim : Aim) (pass : Pass) (word n : ℕ) → LookTaken (S.GlanceItem source pass) n →
      LookLed (n + 1) (pass_fate source aim pass word)
  word_led source aim pass word n k = first (length pass.part == 0) (may_be aim word)
    where
      pair : Pair
      pair = pair_in (more pass.part word)

      second : (b : Bool) → nat_lt (length pass.part + 1) ITEM_WORDS ≡ b → LookLed (n + 1)
          (cond b (Looks (S.GlanceItem source (record pass { part = more pass.part word })))
          (pass_pair source aim pass pair))
      second true e =
          let long = length-append pass.part (word ∷ []) in
          let less = ltb-true (length pass.part + 1) ITEM_WORDS e in
          (k.0, omega (arith, k.1, long), k.2, k.3, omega (arith, long, less))
      second false e =
          either_look (n + 1) (gone_through source (more pass.kept pair)) (pass_on source (with_pair pass pair))
          (is_aimed aim pair)
          (through source (more pass.kept pair) (n + 1) k.0 (omega (arith, k.1, k.2, k.3, k.4)))
          (on_led source (with_pair pass pair) (n + 1) k.0 (omega (arith, k.1, k.4)) (omega (arith, k.2)) k.3
          (omega arith))

      first : (b c : Bool) → LookLed (n + 1) (cond (b && not c) (pass_on source (passed pass))
          (cond (nat_lt (length pass.part + 1) ITEM_WORDS)
          (Looks (S.GlanceItem source (record pass { part = more pass.part word }))) (pass_pair source aim pass pair)))
      first true false =
          on_led source (passed pass) (n + 1) k.0 (omega (arith, k.1, k.4)) (omega (arith, k.2)) k.3 (omega arith)
      first true true = second (nat_lt (length pass.part + 1) ITEM_WORDS) refl
      first false c = second (nat_lt (length pass.part + 1) ITEM_WORDS) refl

few_items : (plan : Plan) (head : ℕ) → count_in plan head ≤ plan.settings.items
few_items plan head = omega arith

-- each step of a look
look_counted : (plan : Plan) (time : ℕ) (aim : Aim) (was : Glance) (word n : ℕ) → LookTaken plan.settings was n →
    LookLed plan.settings (n + 1) (glance_fate plan time aim was word)
look_counted plan time aim (S.GlanceWord left) word n k = (k.0, omega (arith, k.1))
look_counted plan time aim (S.GlanceCount (Tried left old)) word n k =
    on_led plan.settings (Tried left old) (pass_of (count_in plan word)) (n + 1) k.0 (omega (arith, k.1)) (omega arith)
    (few_items plan word) (omega arith)
look_counted plan time aim (S.GlanceCount (HeldIn row)) word n k =
    on_led plan.settings (HeldIn row) (pass_of (count_in plan word)) (n + 1) tt (omega (arith, k)) (omega arith)
    (few_items plan word) (omega arith)
look_counted plan time aim (S.GlanceItem source pass) word n k = word_led plan.settings source aim pass word n k
look_counted plan time aim (S.GlanceCheck left old kept) word n k =
    let most = tried_most plan.settings left k.0 in
    either_look plan.settings (n + 1) (Shows kept) (glance_lost left) (word == old) (omega (arith, k.1, most))
    (lost_led plan.settings left (n + 1) k.0 (omega (arith, k.1)))
look_counted plan time aim S.GlanceWant word n k = omega (arith, k)
look_counted plan time aim S.GlanceAsking word n k = omega (arith, k)
look_counted plan time aim S.GlanceHeld word n k = omega (arith, k)
look_counted plan time aim (S.GlanceTake old) word n k = omega (arith, k)
look_counted plan time aim (S.GlanceBack kept) word n k = omega (arith, k)

-- ---- a seat

-- the bound of an update
change_bound : (s : Sizes) (call : Call) → IsChange call → call_bound s (Called call) ≡ update_bound s
change_bound s (Insert key value) c = refl
change_bound s (Remove key) c = refl
change_bound s (Lookup key) c = absurd c
change_bound s (Tally key amount) c = refl
change_bound s (Count key value amount) c = refl
change_bound s (Put key value) c = refl

aim_bound : (s : Sizes) (aim : Aim) → call_bound s (asked_by_aim aim) ≡ look_bound s
aim_bound s (OfKey key) = refl
aim_bound s (OfBucket bucket) = refl

abbrev asker_kind : Asker → ℕ
asker_kind (BySeat seat) = 0
asker_kind (ByReader reader) = 1

module _ (plan : Plan) (is_plan : IsPlan plan) where
  -- how many steps a call has taken where it stands
  abbrev pub TakenAt : (q : ℕ) → Option Scan → Stand → (n : ℕ) → Type 0
  TakenAt q scan S.Idle n = Unit {0}
  TakenAt q scan (S.Goes call step) n = (less : q < plan.settings.seats) × Taken plan is_plan q less scan step n
  TakenAt q scan (S.Glances aim glance) n = LookTaken plan.settings glance n

  pub record Bounded (x : World) : Type 0 where
    pub each : (q : ℕ) → q < holders_of plan.settings →
        TakenAt q (seat_in x q).scan (seat_in x q).stand (seat_in x q).course.steps
    pub answers : All (IsWithin plan.settings) x.answers

  -- what is known of a step
  pub facts : (q : ℕ) (less : q < plan.settings.seats) (x : World) (b : ℕ) (step : Step) →
      IsNoScan plan is_plan q less step →
      ReadsStep plan x b step → FoundStep plan step → Facts plan is_plan q less step
  facts q less x b (S.LoadRow turn word words) o r f = r.1
  facts q less x b S.Scans o r f = absurd o
  facts q less x b (S.LoadWord turn) o r f = f
  facts q less x b (S.CheckWord turn word words) o r f = f
  facts q less x b (S.LoadPending t) o r f = f
  facts q less x b (S.LoadAnnounced t found) o r f = f
  facts q less x b (S.LoadOp t found announced words) o r f = f
  facts q less x b (S.StoreRow t found i) o r f = f
  facts q less x b (S.Exchange t found) o r f = f
  facts q less x b S.RaisePending o r f = f
  facts q less x b (S.StoreOp i) o r f = f
  facts q less x b S.Announce o r f = f
  facts q less x b S.StoreWant o r f = f
  facts q less x b S.StoreAsking o r f = f
  facts q less x b S.HeldWord o r f = f
  facts q less x b (S.TakeHold word) o r f = f
  facts q less x b (S.HeldHead row) o r f = f
  facts q less x b (S.HeldEntry row at left) o r f = f
  facts q less x b (S.HeldReply row at) o r f = f
  facts q less x b (S.GiveBack reply) o r f = f
  facts q less x b (S.Over ending) o r f = f
  facts q less x b (S.LowerPending ending) o r f = f
  facts q less x b S.Stuck o r f = f

  module _ (x : World) (h : Owned plan x) (reads : Reads plan x) (finds : FoundOk plan x) (c : Bounded x) (p : ℕ)
      (inside : p < holders_of plan.settings) where
    abbrev now : SeatNow
    now = seat_in x p

    next : (store : W.Store) (then : SeatNow) (answers : List Answer) (updates : List MadeBySeat) →
        TakenAt p then.scan then.stand then.course.steps → All (IsWithin plan.settings) answers →
        Bounded (ticked (with_seat x p store then answers updates))
    next store then answers updates here told = record {
      each = λ q less. elim (cases_eq q p) [
        | inl e ↦
            subst (λ i. TakenAt i (seat_in y i).scan (seat_in y i).stand (seat_in y i).course.steps) (sym e)
            (subst (λ (k : SeatNow). TakenAt p k.scan k.stand k.course.steps) (sym mine) here)
        | inr n ↦
            subst (λ (k : SeatNow). TakenAt q k.scan k.stand k.course.steps)
            (sym (get_or-set_other x.seats p q then nobody n)) (c.each q less)
      ];
      answers = told;
    }
      where
        y : World
        y = ticked (with_seat x p store then answers updates)

        mine : seat_in y p ≡ then
        mine = get_or-set_same x.seats p then nobody (let long = h.long in omega (arith, inside, long))

    one_told : (a : Answer) → a.steps ≤ call_bound plan.settings a.asked →
        All (IsWithin plan.settings) (x.answers ++ a ∷ [])
    one_told a is =
        All-append (IsWithin plan.settings) x.answers (a ∷ []) c.answers
        (All-cons (IsWithin plan.settings) a [] (λ seat by. is) (All-nil (IsWithin plan.settings)))

    -- ---- an update

    module _ (call : Call) (less : p < plan.settings.seats) (change : IsChange call) where
      told : (course : Course) (scan : Option Scan) (f : Fate) → FateTaken plan is_plan p less scan course.steps f →
          All (IsWithin plan.settings) (answers_after x p call course f)
      told course scan (On step) k = c.answers
      told course scan (Ends reply) k =
          one_told _ (subst (λ m. course.steps ≤ m) (sym (change_bound plan.settings call change)) k)
      told course scan Spends k =
          one_told _ (subst (λ m. course.steps ≤ m) (sym (change_bound plan.settings call change)) k)
      told course scan Refuses k =
          one_told _ (subst (λ m. course.steps ≤ m) (sym (change_bound plan.settings call change)) k)

      stands : (own : SeatNow) (f : Fate) → own.course ≡ now.course →
          FateTaken plan is_plan p less own.scan (now.course.steps + 1) f →
          (let then = seat_after own call f in TakenAt p then.scan then.stand then.course.steps)
      stands own (On step) same k = (
        less,
        subst (λ (co : Course). Taken plan is_plan p less own.scan step (co.steps + 1)) (sym same) k,
      )
      stands own (Ends reply) same k = tt
      stands own Spends same k = tt
      stands own Refuses same k = tt

      update_then : (own : SeatNow) (f : Fate) (store : W.Store) (updates : List MadeBySeat) → own.course ≡ now.course →
          FateTaken plan is_plan p less own.scan (now.course.steps + 1) f →
          Bounded (ticked (with_seat x p store (seat_after own call f) (answers_after x p call (stepped now.course) f)
          updates))
      update_then own f store updates same k =
          next store (seat_after own call f) (answers_after x p call (stepped now.course) f) updates
          (stands own f same k)
          (told (stepped now.course) own.scan f k)

      -- the scan is as it was
      own_scan : (step : Step) (w : ℕ) → IsNoScan plan is_plan p less step →
          (own_after plan p now call step w).scan ≡ now.scan
      own_scan S.Scans w o = absurd o
      own_scan (S.Exchange t found) w o =
          cond_both (w == t.word) (exchanged now _) now (λ (k : SeatNow). k.scan ≡ now.scan) (λ _. refl) (λ _. refl)
      own_scan (S.LoadWord turn) w o = refl
      own_scan (S.LoadRow turn word words) w o = refl
      own_scan (S.CheckWord turn word words) w o = refl
      own_scan (S.LoadPending t) w o = refl
      own_scan (S.LoadAnnounced t found) w o = refl
      own_scan (S.LoadOp t found announced words) w o = refl
      own_scan (S.StoreRow t found i) w o = refl
      own_scan S.RaisePending w o = refl
      own_scan (S.StoreOp i) w o = refl
      own_scan S.Announce w o = refl
      own_scan S.StoreWant w o = refl
      own_scan S.StoreAsking w o = refl
      own_scan S.HeldWord w o = refl
      own_scan (S.TakeHold word) w o = refl
      own_scan (S.HeldHead row) w o = refl
      own_scan (S.HeldEntry row at left) w o = refl
      own_scan (S.HeldReply row at) w o = refl
      own_scan (S.GiveBack reply) w o = refl
      own_scan (S.Over ending) w o = refl
      own_scan (S.LowerPending ending) w o = refl
      own_scan S.Stuck w o = refl

      plain_step : (step : Step) → IsNoScan plan is_plan p less step → now.stand ≡ S.Goes call step →
          Taken plan is_plan p less now.scan step now.course.steps → Bounded (ticked (goes plan x p now call step))
      plain_step step o stood k =
          let w = found_by (deed_of plan p now call step) x.store in
          let own = own_after plan p now call step w in
          let f = fate plan p now call step w in
          let r : ReadsStep plan x (bucket_of_call plan call) step =
          subst (ReadsAt plan x) stood (reads.each p inside) in
          let g : FoundAt plan (S.Goes call step) = subst (FoundAt plan) stood (finds.each p inside) in
          update_then own f _ _ (own_course plan p now call step w)
          (subst (λ (sc : Option Scan). FateTaken plan is_plan p less sc (now.course.steps + 1) f)
          (sym (own_scan step w o))
          (counted plan is_plan p less now.scan now call step w now.course.steps o
          (facts p less x (bucket_of_call plan call) step o r g.1) k))

      -- a scan that is under way has come to another one who can hold
      scans : (sc : Option Scan) (w n : ℕ) → Room plan p (S.Goes call S.Scans) now.free now.kept sc →
          ScanTakenOf plan is_plan p less sc n → ScanLed plan is_plan p less (n + 1) (scan_fate_of plan p sc w)
      scans None w n room k = absurd (room.0 tt)
      scans (Some (S.Seats j left held)) w n room k =
          scan_counted plan is_plan p less (S.Seats j left held) w n room.at_seat.within room.at_seat.other k
      scans (Some (S.Sees j t left held)) w n room k =
          scan_counted plan is_plan p less (S.Sees j t left held) w n room.at_seat.within room.at_seat.other k
      scans (Some (S.Loads j t class left held)) w n room k =
          scan_counted plan is_plan p less (S.Loads j t class left held) w n room.at_seat.within room.at_seat.other k
      scans (Some (S.Gives j t row left held)) w n room k =
          scan_counted plan is_plan p less (S.Gives j t row left held) w n room.at_seat.within room.at_seat.other k

      scanned_scan : (own : SeatNow) (f : ScanFate) → (scanned own f).scan ≡ scan_then plan is_plan p less f
      scanned_scan own (ScansOn scan) = refl
      scanned_scan own (Scanned left held) = refl

      scan_step : now.stand ≡ S.Goes call S.Scans → ScanTakenOf plan is_plan p less now.scan now.course.steps →
          Bounded (ticked (goes plan x p now call S.Scans))
      scan_step stood k =
          let w = found_by (deed_of plan p now call S.Scans) x.store in
          let f = scan_fate_of plan p now.scan w in
          let room : Room plan p (S.Goes call S.Scans) now.free now.kept now.scan =
          subst (λ (st : Stand). Room plan p st now.free now.kept now.scan) stood (h.seats p inside).room in
          update_then (scanned now f) (after_scan now.free f) _ _ (own_course plan p now call S.Scans w)
          (subst (λ (sc : Option Scan). FateTaken plan is_plan p less sc (now.course.steps + 1) (after_scan now.free f))
          (sym (scanned_scan now f))
          (scanned_on plan is_plan p less now.free f (now.course.steps + 1) (scans now.scan w now.course.steps room k)))

    update_step : (call : Call) (step : Step) → now.stand ≡ S.Goes call step →
        Bounded (ticked (goes plan x p now call step))
    update_step call step stood = go step stood
      where
        is : (step : Step) → now.stand ≡ S.Goes call step →
            (less : p < plan.settings.seats) × Taken plan is_plan p less now.scan step now.course.steps
        is step stood = subst (λ (st : Stand). TakenAt p now.scan st now.course.steps) stood (c.each p inside)

        change : (step : Step) → now.stand ≡ S.Goes call step → IsChange call
        change step stood =
            (let g : FoundAt plan (S.Goes call step) = subst (FoundAt plan) stood (finds.each p inside) in g.0)

        plain : (step : Step) → now.stand ≡ S.Goes call step → ((less : p < plan.settings.seats) →
            IsNoScan plan is_plan p less step) → Bounded (ticked (goes plan x p now call step))
        plain step stood o =
            (let k = is step stood in plain_step call k.0 (change step stood) step (o k.0) stood k.1)

        go : (step : Step) → now.stand ≡ S.Goes call step → Bounded (ticked (goes plan x p now call step))
        go S.Scans stood = (let k = is S.Scans stood in scan_step call k.0 (change S.Scans stood) stood k.1)
        go (S.LoadWord turn) stood = plain (S.LoadWord turn) stood (λ _. tt)
        go (S.LoadRow turn word words) stood = plain (S.LoadRow turn word words) stood (λ _. tt)
        go (S.CheckWord turn word words) stood = plain (S.CheckWord turn word words) stood (λ _. tt)
        go (S.LoadPending t) stood = plain (S.LoadPending t) stood (λ _. tt)
        go (S.LoadAnnounced t found) stood = plain (S.LoadAnnounced t found) stood (λ _. tt)
        go (S.LoadOp t found announced words) stood = plain (S.LoadOp t found announced words) stood (λ _. tt)
        go (S.StoreRow t found i) stood = plain (S.StoreRow t found i) stood (λ _. tt)
        go (S.Exchange t found) stood = plain (S.Exchange t found) stood (λ _. tt)
        go S.RaisePending stood = plain S.RaisePending stood (λ _. tt)
        go (S.StoreOp i) stood = plain (S.StoreOp i) stood (λ _. tt)
        go S.Announce stood = plain S.Announce stood (λ _. tt)
        go S.StoreWant stood = plain S.StoreWant stood (λ _. tt)
        go S.StoreAsking stood = plain S.StoreAsking stood (λ _. tt)
        go S.HeldWord stood = plain S.HeldWord stood (λ _. tt)
        go (S.TakeHold word) stood = plain (S.TakeHold word) stood (λ _. tt)
        go (S.HeldHead row) stood = plain (S.HeldHead row) stood (λ _. tt)
        go (S.HeldEntry row at left) stood = plain (S.HeldEntry row at left) stood (λ _. tt)
        go (S.HeldReply row at) stood = plain (S.HeldReply row at) stood (λ _. tt)
        go (S.GiveBack reply) stood = plain (S.GiveBack reply) stood (λ _. tt)
        go (S.Over ending) stood = plain (S.Over ending) stood (λ _. tt)
        go (S.LowerPending ending) stood = plain (S.LowerPending ending) stood (λ _. tt)
        go S.Stuck stood = plain S.Stuck stood (λ _. tt)

    -- an update begins
    update_first : (call : Call) → now.stand ≡ S.Idle → p < plan.settings.seats → IsChange call →
        Bounded (ticked (update_begins plan x p now call))
    update_first call stood less change =
        let taken = scan_begins plan p now.free now in
        let f = first_fate taken.free taken.scan in
        let k = first_on plan is_plan p less taken.free taken.scan 0 (omega arith) (begins now.free) in
        next x.store (record taken { stand = stand_at call f; course = course_from x.clock })
        (answers_after x p call (course_from x.clock) f) x.made (standing taken.scan f k)
        (told call less change (course_from x.clock) taken.scan f k)
      where
        none : now.scan ≡ None
        none = (quiet plan is_plan x h p inside S.Idle stood (λ k. k)).1

        begins : (free : List ℕ) → ScanTakenOf plan is_plan p less (scan_begins plan p free now).scan 0
        begins (row ∷ free) =
            subst (λ (sc : Option Scan). ScanTakenOf plan is_plan p less sc 0) (sym none) (omega arith)
        begins [] = go (seats_from plan p 0 now.kept [])
            (from_seat plan is_plan p less 0 now.kept [] 0 (omega arith) (omega arith))
          where
            go : (f : ScanFate) → ScanLed plan is_plan p less 0 f →
                ScanTakenOf plan is_plan p less (scanned (record now { kept = [] }) f).scan 0
            go (ScansOn scan) k = k
            go (Scanned left held) k = omega arith

        standing : (sc : Option Scan) (f : Fate) → FateTaken plan is_plan p less sc 0 f →
            TakenAt p sc (stand_at call f) 0
        standing sc (On step) k = (less, k)
        standing sc (Ends reply) k = tt
        standing sc Spends k = tt
        standing sc Refuses k = tt

    -- ---- looks

    look_step : (aim : Aim) (was : Glance) → now.stand ≡ S.Glances aim was →
        Bounded (ticked (glances plan x p now aim was))
    look_step aim was stood =
        let deed = glance_deed plan p now.time aim was in
        let w = found_by deed x.store in
        let f = glance_fate plan now.time aim was w in
        let k : LookTaken plan.settings was now.course.steps =
        subst (λ (st : Stand). TakenAt p now.scan st now.course.steps) stood (c.each p inside) in
        let led = look_counted plan now.time aim was w now.course.steps k in
        next (store_after deed x.store) (look_after now aim was f)
        (look_answers plan x p aim (stepped now.course) f) x.made
        (look_stands f led) (look_told f led)
      where
        look_stands : (f : GlanceFate) → LookLed plan.settings (now.course.steps + 1) f →
            (let then = look_after now aim was f in TakenAt p then.scan then.stand then.course.steps)
        look_stands (Looks glance) k = k
        look_stands (Shows items) k = tt
        look_stands Disturbed k = k

        look_told : (f : GlanceFate) → LookLed plan.settings (now.course.steps + 1) f →
            All (IsWithin plan.settings) (look_answers plan x p aim (stepped now.course) f)
        look_told (Looks glance) k = c.answers
        look_told (Shows items) k =
            one_told _ (subst (λ m. now.course.steps + 1 ≤ m) (sym (aim_bound plan.settings aim)) k)
        look_told Disturbed k = c.answers

    look_first : (aim : Aim) → Bounded (ticked (look_begins x p now aim))
    look_first aim = next x.store _ x.answers x.made (omega arith, omega arith) c.answers

    call_first : (call : Call) → now.stand ≡ S.Idle → CanBegin plan p now call →
        Bounded (ticked (call_begins plan x p now call))
    call_first (Lookup key) e can = look_first (OfKey key)
    call_first (Insert key value) e can = update_first (Insert key value) e can.0 tt
    call_first (Remove key) e can = update_first (Remove key) e can.0 tt
    call_first (Tally key amount) e can = update_first (Tally key amount) e can.0 tt
    call_first (Count key value amount) e can = update_first (Count key value amount) e can.0 tt
    call_first (Put key value) e can = update_first (Put key value) e can.0 tt

    seat_goes : (stand : Stand) → now.stand ≡ stand → IsFlying plan p stand →
        Bounded (ticked (goes_on plan x p now stand))
    seat_goes S.Idle e flies = absurd flies
    seat_goes (S.Goes call step) e flies = update_step call step e
    seat_goes (S.Glances aim glance) e flies = look_step aim glance e

    seat_bounded : (what : What) → Fits plan p now what → Bounded (ticked (act plan x p now what))
    seat_bounded (Begin call) fits = call_first call fits.0 fits.1
    seat_bounded (Copy bucket) fits = look_first (OfBucket bucket)
    seat_bounded Step_on fits = seat_goes now.stand refl fits

  -- ---- readers that cannot hold

  reader_bounded : (x : World) (r : ℕ) (peek : Peek) → Bounded x → Bounded (happens plan x (OfReader r peek))
  reader_bounded x r (Open aim tries) c = record { each = c.each; answers = c.answers }
  reader_bounded x r Peek_on c = go (x.readers r).stand
    where
      one_more : (a : Answer) → a.by ≡ ByReader r → All (IsWithin plan.settings) (x.answers ++ a ∷ [])
      one_more a by =
          All-append (IsWithin plan.settings) x.answers (a ∷ []) c.answers
          (All-cons (IsWithin plan.settings) a []
          (λ seat is. absurd (omega (arith, ap asker_kind (sym by ∙ is)))) (All-nil (IsWithin plan.settings)))

      told : (aim : Aim) (co : Course) (f : GlanceFate) → All (IsWithin plan.settings) (peek_answers plan x r aim co f)
      told aim co (Looks glance) = c.answers
      told aim co (Shows items) = one_more _ refl
      told aim co Disturbed = one_more _ refl

      go : (stand : S.Peeking) → Bounded (ticked (peeks_on plan x r (x.readers r) stand))
      go S.Rests = record { each = c.each; answers = c.answers }
      go (S.Peeks aim glance) = record { each = c.each; answers = told aim _ _ }

  -- ---- runs

  pub bounded_keep : (x : World) → Owned plan x → Reads plan x → FoundOk plan x → Bounded x → (event : Event) →
      IsEvent plan x event → Bounded (happens plan x event)
  bounded_keep x h reads finds c (OfSeat p what) fits =
      subst (λ (b : Bool). Bounded (cond b (ticked (act plan x p (seat_in x p) what)) x))
      (sym (lt-ltb p (holders_of plan.settings) fits.0)) (seat_bounded x h reads finds c p fits.0 what fits.1)
  bounded_keep x h reads finds c (OfReader r peek) fits = reader_bounded x r peek c

  pub bounded_first : Bounded (opening_world plan)
  bounded_first = record {
    each = λ q less. subst (λ (k : SeatNow). TakenAt q k.scan k.stand k.course.steps)
        (sym (seat_is plan is_plan q less)) tt;
    answers = All-nil (IsWithin plan.settings);
  }

  pub bounded_follow : (events : List Event) (x : World) → Owned plan x → Reads plan x → FoundOk plan x → Bounded x →
      AreEvents plan x events → Bounded (fold (happens plan) x events)
  bounded_follow [] x h reads finds c follow = c
  bounded_follow (event ∷ events) x h reads finds c follow =
      let k = event_keeps plan is_plan x h event follow.0 in
      bounded_follow events (happens plan x event) k.owned (reads_keep plan is_plan x h reads event follow.0 k.moves)
      (found_keep plan x h finds event follow.0) (bounded_keep x h reads finds c event follow.0) follow.1

-- THE RESULT
pub steps_are_bounded : StepsAreBounded
steps_are_bounded plan events run =
    (bounded_follow plan run.opened events (opening_world plan) (opening_owned plan run.opened)
    (reads_first plan run.opened) (found_first plan run.opened) (bounded_first plan run.opened) run.follow).answers
