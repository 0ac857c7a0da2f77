-- A call begins, and a seat looks: its ghost rests.
use Rattle.std.proofs.Common.{◌≡◌, ℕ, ◌+◌, ◌-◌, ◌<◌, ◌≤◌, Bool, true, false, cond, List, [], ◌∷◌, length, Option, Some, None, refl, sym, ap, ◌∙◌, subst, arith}
use Rattle.std.specs.Prelude.{All, ◌==◌}
use Rattle.plain_map.specs.declared.calls.Call.{Call}
use Rattle.plain_map.specs.declared.calls.Call.TheVariants.{Insert, Remove, Lookup, Tally, Count, Put}
use Rattle.plain_map.specs.declared.records.Record.{Record}
use Rattle.plain_map.specs.Calls.{key_in}
use Rattle.plain_map.specs.Keys.{IsKey}
use Rattle.plain_map.specs.Updates.{IsUpdate}
use Rattle.table_model.specs.declared.events.Event.{Event}
use Rattle.table_model.specs.Setup.{Setup}
use Rattle.lasting_model.specs.Plans.{Plan, IsPlan, ample, MOST_UPDATES}
use Rattle.lasting_model.specs.Codes.{asking, holding, row_in}
use Rattle.lasting_model.specs.Words as W
use Rattle.lasting_model.specs.Words.{with_word}
use Rattle.lasting_model.specs.Steps as S
use Rattle.lasting_model.specs.Steps.{SeatNow, Update, Step, Stand, Course, Sweep, Aim, OfKey, OfBucket, Glance, Tried, HeldIn, glance_deed, bucket_of_aim}
use Rattle.lasting_model.specs.Goes.{Fate, On, Ends, Refuses, first_fate, sweep_begins, GlanceFate, Looks, Shows, Disturbed, glance_fate, Called, Told, Refused, asked_by_aim, told_by_items}
use Rattle.lasting_model.specs.Worlds.{Lasting, Answer, Asker, BySeat, ByReader, What, Begin, Copy, Step_on, Fits, IsFlying, found_by, store_after, answers_after, with_answer, stepped, course_from, look_after, look_answers, look_begins, glances, goes, goes_on, act, update_begins, call_begins, next_update, stand_at, LOOK_TRIES, ticked, with_seat}
use Rattle.lasting_model.specs.Worlds as L
use Rattle.lasting_laws.specs.Promises.{records_in, IsUpdated, IsRight}
use Rattle.lasting_laws.proofs.Shown.{View, SlotOf, OpStands, Waits, Begins, IsMade, Seated, Moment, view, IsShown, IsNext}
use Rattle.lasting_laws.proofs.Stays.{waits_stay}
use Rattle.lasting_laws.proofs.Next.{Untouched, Lawful, cut, cut_before, mine, one_more, none_more}
use Rattle.lasting_laws.proofs.Own.{untouched_same, Calm, calm_same, w, after, stepped_is, named, own_ops, quiet_next, lawful}
use Rattle.lasting_laws.proofs.OwnStill.{still, refused_is}
use Rattle.lasting_laws.proofs.OwnRests.{IsPiece, free_piece, want_free, hold_free, calm_want, calm_hold, want_step, ask_step, word_step, take_step, number_step, reply_step, op_step, sweep_step, load_step, row_step}
use Rattle.lasting_laws.proofs.OwnOps.{announced_step, op_load}
use Rattle.lasting_laws.proofs.OwnLooks as OwnLooks
use Rattle.lasting_laws.proofs.OwnLooks.{check_step}
use Rattle.lasting_laws.proofs.OwnTells.{announce_step}
use Rattle.lasting_laws.proofs.OwnWins.{exchange_step}

-- nothing is said here of what a look tells
pub look_is : (setup : Setup) (first last : List Event) (by : Asker) (aim : Aim) (told : Told) →
    IsUpdated setup first last by (asked_by_aim aim) told
look_is setup first last by (OfKey key) told = tt
look_is setup first last (BySeat seat) (OfBucket bucket) told = tt
look_is setup first last (ByReader reader) (OfBucket bucket) told = tt

module _ (plan : Plan) (is_plan : IsPlan plan) (x : Lasting) (shown : IsShown plan x) (p : ℕ)
    (inside : p < plan.settings.seats) where
  abbrev setup : Setup
  setup = ample plan

  abbrev now : SeatNow
  now = L.seat_in x p

  abbrev m : Moment setup
  m = shown.moment

  abbrev v : View
  v = view plan x shown.moment shown.word_at shown.cut shown.tied

  abbrev Shows_next : Lasting → Type 0
  Shows_next y = Lawful plan x shown y → IsNext plan x y shown

  -- a step at which nothing becomes of the seat's updates
  module _ (store : W.Store) (then : SeatNow) (answers : List Answer) (free : Untouched plan x p store)
      (calm : Calm x store) (answered : then.answered ≡ now.answered) (waits : Waits plan v p now.answered)
      (law : Lawful plan x shown (ticked (with_seat x p store then answers))) where
    abbrev y : View
    y = w plan is_plan x shown p inside store then answers law free calm (still plan is_plan x shown p inside)

    waits_y : Waits plan y p now.answered
    waits_y = waits_stay plan p v y
        (after plan is_plan x shown p inside store then answers law free calm (still plan is_plan x shown p inside))
        shown.shows.rows
        (named plan is_plan x shown p inside store then answers law free calm (still plan is_plan x shown p inside))
        p refl refl now.answered waits

    waits_then : Waits plan y p (L.seat_in y.x p).answered
    waits_then = subst (Waits plan y p)
        (sym (ap (λ (s : SeatNow). s.answered) (mine plan is_plan x shown p inside store then answers)
        ∙ answered)) waits_y

    ops_y : ((j : ℕ) → store.op p j ≡ x.store.op p j) → OpStands plan v p → OpStands plan y p
    ops_y = own_ops plan is_plan x shown p inside store then answers law free calm (still plan is_plan x shown p inside)

    abbrev Right : List Answer → Type 0
    Right = All (λ (a : Answer). (a.ended ≤ x.clock + 1) × IsRight setup
        (cut plan is_plan x shown p inside store then answers law free m shown.word_at) a)

    next_y : SlotOf plan y p then.stand → Seated plan y p then.stand → then.course.began ≤ x.clock → Right answers →
        IsNext plan x (ticked (with_seat x p store then answers)) shown
    next_y = quiet_next plan is_plan x shown p inside store then answers law free calm
        (still plan is_plan x shown p inside)

    -- the answers as they were, or one of a look
    none_y : Right x.answers
    none_y = none_more plan is_plan x shown p inside store then answers law free m shown.word_at
        (stepped_is plan is_plan x shown p inside store then answers law free calm
        (still plan is_plan x shown p inside))

    look_y : (aim : Aim) (told : Told) (course : Course) → course.began ≤ x.clock →
        Right (with_answer x (BySeat p) (asked_by_aim aim) told course)
    look_y aim told course began = one_more plan is_plan x shown p inside store then answers law free m shown.word_at
        (stepped_is plan is_plan x shown p inside store then answers law free calm
        (still plan is_plan x shown p inside))
        (asked_by_aim aim) told course began (look_is setup (shown.cut course.began) m.events (BySeat p) aim told)

    refused_y : (call : Call) (course : Course) → course.began ≤ x.clock →
        Right (with_answer x (BySeat p) (Called call) Refused course)
    refused_y call course began = one_more plan is_plan x shown p inside store then answers law free m shown.word_at
        (stepped_is plan is_plan x shown p inside store then answers law free calm
        (still plan is_plan x shown p inside))
        (Called call) Refused course began (refused_is setup (shown.cut course.began) m.events p call)

  -- ---- a look

  module _ (waits : Waits plan v p now.answered) (slot : OpStands plan v p) where
    look_on : (store : W.Store) (free : Untouched plan x p store) (calm : Calm x store) →
        ((j : ℕ) → store.op p j ≡ x.store.op p j) → (aim : Aim) (was : Glance) (f : GlanceFate) →
        Shows_next (ticked (with_seat x p store (look_after now aim was f)
        (look_answers setup x p aim (stepped now.course) f)))
    look_on store free calm op aim was (Looks glance) law =
        let then = look_after now aim was (Looks glance) in
        next_y store then x.answers free calm refl waits law
        (ops_y store then x.answers free calm refl waits law op slot)
        (waits_then store then x.answers free calm refl waits law) (shown.began p)
        (none_y store then x.answers free calm refl waits law)
    look_on store free calm op aim was Disturbed law =
        let then = look_after now aim was Disturbed in
        next_y store then x.answers free calm refl waits law
        (ops_y store then x.answers free calm refl waits law op slot)
        (waits_then store then x.answers free calm refl waits law) (shown.began p)
        (none_y store then x.answers free calm refl waits law)
    look_on store free calm op aim was (Shows items) law =
        let then = look_after now aim was (Shows items) in
        let answers = look_answers setup x p aim (stepped now.course) (Shows items) in
        next_y store then answers free calm refl waits law
        (ops_y store then answers free calm refl waits law op slot)
        (waits_then store then answers free calm refl waits law) (shown.began p)
        (look_y store then answers free calm refl waits law aim (told_by_items setup aim items) (stepped now.course)
        (shown.began p))

    look_same : (aim : Aim) (was : Glance) (f : GlanceFate) → Shows_next
        (ticked (with_seat x p x.store (look_after now aim was f) (look_answers setup x p aim (stepped now.course) f)))
    look_same = look_on x.store (untouched_same plan x p) (calm_same x) (λ j. refl)

    abbrev fate_of : Aim → Glance → GlanceFate
    fate_of aim glance = glance_fate setup now.time aim glance (found_by
        (glance_deed setup p now.time aim glance) x.store)

    look_step : (aim : Aim) (glance : Glance) → Shows_next (ticked (glances plan x p now aim glance))
    look_step aim (S.GlanceWord left) = look_same aim (S.GlanceWord left) (fate_of aim (S.GlanceWord left))
    look_step aim (S.GlanceCount source) = look_same aim (S.GlanceCount source) (fate_of aim (S.GlanceCount source))
    look_step aim (S.GlanceItem source scan) = look_same aim (S.GlanceItem source scan) (fate_of aim
        (S.GlanceItem source scan))
    look_step aim (S.GlanceCheck left word kept) = look_same aim (S.GlanceCheck left word kept) (fate_of aim
        (S.GlanceCheck left word kept))
    look_step aim S.GlanceHeld = look_same aim S.GlanceHeld (fate_of aim S.GlanceHeld)
    look_step aim S.GlanceWant =
        let word = bucket_of_aim setup aim in
        look_on (with_word x.store (W.Want p) word) (want_free plan is_plan x shown p inside word)
        (calm_want plan is_plan x shown p inside word) (λ j. refl) aim S.GlanceWant (fate_of aim S.GlanceWant)
    look_step aim S.GlanceAsking =
        let word = asking (now.time + 1) in
        look_on (with_word x.store (W.Hold p) word) (hold_free plan is_plan x shown p inside p word)
        (calm_hold plan is_plan x shown p inside p word) (λ j. refl) aim S.GlanceAsking (fate_of aim S.GlanceAsking)
    look_step aim (S.GlanceTake old) = go (x.store.hold p == asking now.time)
        (glance_fate setup now.time aim (S.GlanceTake old) (x.store.hold p))
      where
        go : (c : Bool) (f : GlanceFate) → Shows_next (ticked (with_seat x p
            (cond c (with_word x.store (W.Hold p) (holding (row_in old))) x.store)
            (look_after now aim (S.GlanceTake old) f) (look_answers setup x p aim (stepped now.course) f)))
        go true f = look_on (with_word x.store (W.Hold p) (holding (row_in old)))
            (hold_free plan is_plan x shown p inside p (holding (row_in old)))
            (calm_hold plan is_plan x shown p inside p (holding (row_in old))) (λ j. refl) aim (S.GlanceTake old) f
        go false f = look_same aim (S.GlanceTake old) f

    look_first : (aim : Aim) → Shows_next (ticked (look_begins x p now aim))
    look_first aim law =
        let then : SeatNow = record now {
          stand = S.Glances aim (S.GlanceWord (LOOK_TRIES - 1));
          course = course_from x.clock;
        } in
        let free = untouched_same plan x p in
        let calm = calm_same x in
        next_y x.store then x.answers free calm refl waits law
        (ops_y x.store then x.answers free calm refl waits law (λ j. refl) slot)
        (waits_then x.store then x.answers free calm refl waits law) (omega arith)
        (none_y x.store then x.answers free calm refl waits law)

    -- ---- an update begins

    taken_answered : (named : List (ℕ × ℕ)) (sweep : Option Sweep) →
        (sweep_begins named sweep now).answered ≡ now.answered
    taken_answered named (Some sweep) = refl
    taken_answered [] None = refl
    taken_answered (row ∷ named) None = refl

    first_piece : (free : List ℕ) (sweep : Option Sweep) → IsPiece plan is_plan x shown p inside (first_fate free sweep)
    first_piece free None = free_piece plan is_plan x shown p inside free
    first_piece free (Some sweep) = tt

    module _ (call : Call) (update : IsUpdate call) (key : IsKey (key_in call))
        (few : now.answered < MOST_UPDATES) where
      abbrev u : Update
      u = next_update now call

      abbrev fr : Untouched plan x p x.store
      fr = untouched_same plan x p

      abbrev cl : Calm x x.store
      cl = calm_same x

      module _ (then : SeatNow) (same : then.answered ≡ now.answered) (course : then.course ≡ course_from x.clock)
          (law : Lawful plan x shown (ticked (with_seat x p x.store then x.answers))) where
        abbrev z : View
        z = y x.store then x.answers fr cl same waits law

        -- what the ghost has answered when it begins
        past_z : z.past p ≡ (λ k. (v.g k).account.records)
        past_z = ap (λ n k. records_in setup
            (cut plan is_plan x shown p inside x.store then x.answers law fr m shown.word_at n) k)
            (ap (λ (s : SeatNow). s.course.began) (mine plan is_plan x shown p inside x.store then x.answers)
            ∙ ap (λ (k : Course). k.began) course)
            ∙ ap (λ es k. records_in setup es k)
            (cut_before plan is_plan x shown p inside x.store then x.answers law fr m shown.word_at x.clock
            (omega arith)
            ∙ shown.now_is)

        answered_z : (L.seat_in z.x p).answered ≡ now.answered
        answered_z = ap (λ (s : SeatNow). s.answered) (mine plan is_plan x shown p inside x.store then x.answers) ∙ same

        is_made : IsMade plan z p u
        is_made = record {
          number_is = (let e = answered_z in omega (arith, e));
          long = ap (λ (f : ℕ → List Record). length (f p)) past_z ∙ waits.count ∙ sym answered_z;
          update = update;
          key = key;
          few = (let e = answered_z in omega (arith, few, e));
        }

        begins_y : Begins plan z p
        begins_y = record {
          waits = waits_then x.store then x.answers fr cl same waits law;
          past_is = ap (λ (f : ℕ → List Record). f p) (sym past_z);
          grown = λ k. (let e = ap (λ (f : ℕ → List Record). length (f k)) past_z in omega (arith, e));
        }

      begins_on : (taken : SeatNow) → taken.answered ≡ now.answered → (next : Fate) →
          IsPiece plan is_plan x shown p inside next →
          Shows_next (ticked (with_seat x p x.store
          (record taken { stand = stand_at u next; course = course_from x.clock })
          (answers_after x p call (course_from x.clock) next)))
      begins_on taken same (On (S.Sweeps rows)) is law =
          let then : SeatNow = record taken { stand = S.Goes u (S.Sweeps rows); course = course_from x.clock } in
          next_y x.store then x.answers fr cl same waits law
          (ops_y x.store then x.answers fr cl same waits law (λ j. refl) slot)
          (is_made then same refl law, begins_y then same refl law) (omega arith)
          (none_y x.store then x.answers fr cl same waits law)
      begins_on taken same (On (S.StoreOp i)) is law =
          let then : SeatNow = record taken { stand = S.Goes u (S.StoreOp i); course = course_from x.clock } in
          next_y x.store then x.answers fr cl same waits law (λ j less. absurd (omega (arith, less, is)))
          (is_made then same refl law, (begins_y then same refl law, omega (arith, is))) (omega arith)
          (none_y x.store then x.answers fr cl same waits law)
      begins_on taken same (On step) is law = absurd is
      begins_on taken same (Ends reply) is law = absurd is
      begins_on taken same Refuses is law =
          let then : SeatNow = record taken { stand = S.Idle; course = course_from x.clock } in
          let answers = with_answer x (BySeat p) (Called call) Refused (course_from x.clock) in
          next_y x.store then answers fr cl same waits law
          (ops_y x.store then answers fr cl same waits law (λ j. refl) slot)
          (waits_then x.store then answers fr cl same waits law) (omega arith)
          (refused_y x.store then answers fr cl same waits law call (course_from x.clock) (omega arith))

      update_first : Shows_next (ticked (update_begins x p now call))
      update_first =
          let taken = sweep_begins now.named now.sweep now in
          begins_on taken (taken_answered now.named now.sweep) (first_fate now.free taken.sweep)
          (first_piece now.free taken.sweep)

    call_first : (call : Call) → L.CanBegin now call → Shows_next (ticked (call_begins x p now call))
    call_first (Lookup key) can = look_first (OfKey key)
    call_first (Insert key value) can = update_first (Insert key value) can.0 can.1 can.2
    call_first (Remove key) can = update_first (Remove key) can.0 can.1 can.2
    call_first (Tally key amount) can = update_first (Tally key amount) can.0 can.1 can.2
    call_first (Count key value amount) can = update_first (Count key value amount) can.0 can.1 can.2
    call_first (Put key value) can = update_first (Put key value) can.0 can.1 can.2

  -- ---- all of it

  update_step : (u : Update) (step : Step) → now.stand ≡ S.Goes u step → Shows_next (ticked (goes plan x p now u step))
  update_step u (S.Sweeps rows) e = sweep_step plan is_plan x shown p inside u rows e
  update_step u (S.StoreOp i) e = op_step plan is_plan x shown p inside u i e
  update_step u S.Announce e = announce_step plan is_plan x shown p inside u e
  update_step u (S.LoadWord turn) e = OwnLooks.word_step plan is_plan x shown p inside u turn e
  update_step u (S.LoadRow turn word words) e = load_step plan is_plan x shown p inside u turn word words e
  update_step u (S.CheckRow turn word words) e = check_step plan is_plan x shown p inside u turn word words e
  update_step u (S.LoadAnnounced t found) e = announced_step plan is_plan x shown p inside u t found e
  update_step u (S.LoadOp t found announced words) e = op_load plan is_plan x shown p inside u t found announced words e
  update_step u (S.StoreRow t found i) e = row_step plan is_plan x shown p inside u t found i e
  update_step u (S.Exchange t found) e = exchange_step plan is_plan x shown p inside u t found e
  update_step u S.StoreWant e = want_step plan is_plan x shown p inside u e
  update_step u S.StoreAsking e = ask_step plan is_plan x shown p inside u e
  update_step u S.HeldWord e = word_step plan is_plan x shown p inside u e
  update_step u (S.TakeHold word) e = take_step plan is_plan x shown p inside u word e
  update_step u (S.HeldNumber row) e = number_step plan is_plan x shown p inside u row e
  update_step u (S.HeldReply row) e = reply_step plan is_plan x shown p inside u row e
  update_step u S.Stuck e = absurd (subst (Seated plan v p) e (shown.shows.seats p inside)).1

  seated_at : (stand : Stand) → now.stand ≡ stand → Seated plan v p stand
  seated_at stand e = subst (Seated plan v p) e (shown.shows.seats p inside)

  slot_at : (stand : Stand) → now.stand ≡ stand → SlotOf plan v p stand
  slot_at stand e = subst (SlotOf plan v p) e (shown.shows.slots p inside)

  seat_goes : (stand : Stand) → now.stand ≡ stand → IsFlying stand → Shows_next (ticked (goes_on plan x p now stand))
  seat_goes S.Idle e flies = absurd flies
  seat_goes (S.Goes u step) e flies = update_step u step e
  seat_goes (S.Glances aim glance) e flies =
      look_step (seated_at (S.Glances aim glance) e) (slot_at (S.Glances aim glance) e) aim glance

  -- THE RESULT: each event of a seat
  pub seat_shown : (what : What) → Fits plan now what → IsNext plan x (ticked (act plan x p now what)) shown
  seat_shown what fits = go what fits (lawful plan is_plan x shown p inside what fits)
    where
      go : (k : What) → Fits plan now k → Shows_next (ticked (act plan x p now k))
      go (Begin call) f = call_first (seated_at S.Idle f.0) (slot_at S.Idle f.0) call f.1
      go (Copy bucket) f = look_first (seated_at S.Idle f.0) (slot_at S.Idle f.0) (OfBucket bucket)
      go Step_on f = seat_goes now.stand refl f
