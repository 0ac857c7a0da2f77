-- A seat announces an update at most once in a call: no more of its announcements are over than it was answered calls,
-- of which copies are none.
use Rattle.std.proofs.Common.{◌≡◌, ◌≢◌, ℕ, ◌+◌, ◌<◌, ◌≤◌, inl, inr, Bool, true, false, cond, List, [], ◌∷◌, ◌++◌, length, refl, sym, ap, ◌∙◌, subst, arith, lt-ltb, get_or-set_same, get_or-set_other}
use Rattle.std.specs.Prelude.{◌==◌, fold}
use Rattle.std.proofs.lemmas.Bool.{cases_eq}
use Rattle.std.proofs.lemmas.List.{length-append}
use Rattle.std.proofs.lemmas.List.Elements.{filter-append}
use Rattle.plain_map.specs.declared.calls.Call.{Call}
use Rattle.plain_map.specs.declared.calls.Call.TheVariants.{Insert, Remove, Lookup, Tally, Count, Put}
use Rattle.exchange_model.specs.Plans.{Plan, IsPlan, holders_of}
use Rattle.exchange_model.specs.Codes.{row_in}
use Rattle.exchange_model.specs.Words as W
use Rattle.exchange_model.specs.Steps as S
use Rattle.exchange_model.specs.Steps.{MadeBySeat, SeatNow, Step, Stand, Ending, Aim, OfKey, OfBucket, Glance, Course, deed_of, glance_deed}
use Rattle.exchange_model.specs.Goes.{ScanFate, ScansOn, Scanned, scanned, scan_fate_of, seats_from, scan_begins, Fate, On, Ends, Spends, Refuses, first_fate, exchanged, ended, fate, own_after, GlanceFate, Looks, Shows, Disturbed, glance_fate, Called, Told, Replied, Spent, Refused}
use Rattle.exchange_model.specs.Worlds.{World, Answer, BySeat, Event, OfSeat, OfReader, IsEvent, AreEvents, What, Begin, Copy, Step_on, IsFlying, Fits, seat_in, with_seat, ticked, found_by, store_after, stepped, seat_after, answers_after, made_by_step, goes, glances, look_after, look_answers, look_begins, update_begins, call_begins, goes_on, act, stand_at, course_from, happens, nobody, opening_world, Peek, Open, Peek_on, peeks_on}
use Rattle.exchange_laws.specs.Orders.{AnnouncementsAreCounted, answers_by, calls_among, is_call}
use Rattle.exchange_laws.proofs.Owned.{Owned}
use Rattle.exchange_laws.proofs.OwnedEvents.{event_keeps}
use Rattle.exchange_laws.proofs.OwnedRuns.{opening_owned, seat_is}
use Rattle.exchange_laws.proofs.SeatAnswers.{answers_more, own_answer}
use Rattle.exchange_laws.proofs.CallEvents.{answer_now}
use Rattle.exchange_laws.proofs.AnswersGrow.{Grows, event_grows, look_grows}

-- whether the announcement of the call under way is over
abbrev pub over_at : Step → ℕ
over_at (S.LowerPending ending) = 1
over_at step = 0

abbrev pub lowers : Stand → ℕ
lowers S.Idle = 0
lowers (S.Goes call step) = over_at step
lowers (S.Glances aim glance) = 0

-- whether it is over with this step
abbrev ends_now : Step → ℕ
ends_now (S.Over ending) = 1
ends_now step = 0

module _ (plan : Plan) (p : ℕ) where
  abbrev so_many : List Answer → ℕ
  so_many answers = length (calls_among (answers_by p answers))

  -- no more announcements are over than calls were answered, and the one under way
  pub record Posted (now : SeatNow) (answers : List Answer) : Type 0 where
    pub low : now.posted ≤ so_many answers + lowers now.stand

  -- the calls in two parts
  calls_more : (xs more : List Answer) → calls_among (answers_by p (xs ++ more))
      ≡ calls_among (answers_by p xs) ++ calls_among (answers_by p more)
  calls_more xs more = ap calls_among (answers_more p xs more)
      ∙ filter-append (λ (a : Answer). is_call a.asked) (answers_by p xs) (answers_by p more)

  -- they do not get fewer
  grown : (was now : List Answer) → Grows was now → so_many was ≤ so_many now
  grown was now g =
      let e = ap so_many g.1 in
      let parts = ap (λ (all : List Answer). length all) (calls_more was g.0) in
      let two = length-append (calls_among (answers_by p was)) (calls_among (answers_by p g.0)) in
      omega (arith, e, parts, two)

  -- ---- where a step leads

  abbrev Leads : (was : ℕ) → Fate → Type 0
  Leads was (On step) = was ≤ over_at step
  Leads was (Ends reply) = was ≤ 1
  Leads was Spends = was ≤ 1
  Leads was Refuses = was ≤ 1

  none_leads : (f : Fate) → Leads 0 f
  none_leads (On step) = omega arith
  none_leads (Ends reply) = omega arith
  none_leads Spends = omega arith
  none_leads Refuses = omega arith

  over_leads : (ending : Ending) → Leads 1 (ended ending)
  over_leads (S.Applied reply) = omega arith
  over_leads S.GivenUp = omega arith

  told_more : (x : World) (call : Call) (told : Told) (course : Course) →
      so_many (x.answers ++ answer_now x (BySeat p) (Called call) told course ∷ []) ≡ so_many x.answers + 1
  told_more x call told course =
      let a = answer_now x (BySeat p) (Called call) told course in
      ap (λ (all : List Answer). length all) (calls_more x.answers (a ∷ []))
      ∙ ap (λ (more : List Answer). length (calls_among (answers_by p x.answers) ++ calls_among more))
      (own_answer p a refl)
      ∙ length-append (calls_among (answers_by p x.answers)) (a ∷ [])

  -- a call that ends has its answer
  fate_posts : (x : World) (call : Call) (course : Course) (f : Fate) (was : ℕ) → Leads was f → (own : SeatNow) →
      own.posted ≤ so_many x.answers + was → Posted (seat_after own call f) (answers_after x p call course f)
  fate_posts x call course (On step) was k own low = record { low = omega (arith, k, low) }
  fate_posts x call course (Ends reply) was k own low =
      record { low = (let more = told_more x call (Replied reply) course in omega (arith, k, low, more)) }
  fate_posts x call course Spends was k own low =
      record { low = (let more = told_more x call Spent course in omega (arith, k, low, more)) }
  fate_posts x call course Refuses was k own low =
      record { low = (let more = told_more x call Refused course in omega (arith, k, low, more)) }

  -- ---- what a step counts

  scanned_posts : (now : SeatNow) (f : ScanFate) → (scanned now f).posted ≡ now.posted
  scanned_posts now (ScansOn scan) = refl
  scanned_posts now (Scanned left held) = refl

  first_posts : (free : List ℕ) (now : SeatNow) → (scan_begins plan p free now).posted ≡ now.posted
  first_posts [] now = scanned_posts (record now { kept = [] }) (seats_from plan p 0 now.kept [])
  first_posts (row ∷ free) now = refl

  own_posts : (now : SeatNow) (call : Call) (step : Step) (w : ℕ) →
      (own_after plan p now call step w).posted ≡ now.posted + ends_now step
  own_posts now call S.Scans w =
      (let same = scanned_posts now (scan_fate_of plan p now.scan w) in omega (arith, same))
  own_posts now call (S.Exchange t found) w = go (w == t.word)
    where
      go : (c : Bool) → (cond c (exchanged now (row_in plan t.word)) now).posted ≡ now.posted + 0
      go true = omega arith
      go false = omega arith
  own_posts now call (S.LoadWord turn) w = omega arith
  own_posts now call (S.LoadRow turn old words) w = omega arith
  own_posts now call (S.CheckWord turn old words) w = omega arith
  own_posts now call (S.LoadPending t) w = omega arith
  own_posts now call (S.LoadAnnounced t found) w = omega arith
  own_posts now call (S.LoadOp t found announced words) w = omega arith
  own_posts now call (S.StoreRow t found i) w = omega arith
  own_posts now call S.RaisePending w = omega arith
  own_posts now call (S.StoreOp i) w = omega arith
  own_posts now call S.Announce w = omega arith
  own_posts now call S.StoreWant w = omega arith
  own_posts now call S.StoreAsking w = omega arith
  own_posts now call S.HeldWord w = omega arith
  own_posts now call (S.TakeHold old) w = omega arith
  own_posts now call (S.HeldHead row) w = omega arith
  own_posts now call (S.HeldEntry row at left) w = omega arith
  own_posts now call (S.HeldReply row at) w = omega arith
  own_posts now call (S.GiveBack reply) w = omega arith
  own_posts now call (S.Over ending) w = omega arith
  own_posts now call (S.LowerPending ending) w = omega arith
  own_posts now call S.Stuck w = omega arith

  step_leads : (now : SeatNow) (call : Call) (step : Step) (w : ℕ) →
      Leads (over_at step + ends_now step) (fate plan p now call step w)
  step_leads now call S.Scans w = none_leads (fate plan p now call S.Scans w)
  step_leads now call (S.LoadWord turn) w = none_leads (fate plan p now call (S.LoadWord turn) w)
  step_leads now call (S.LoadRow turn old words) w = none_leads (fate plan p now call (S.LoadRow turn old words) w)
  step_leads now call (S.CheckWord turn old words) w = none_leads (fate plan p now call (S.CheckWord turn old words) w)
  step_leads now call (S.LoadPending t) w = none_leads (fate plan p now call (S.LoadPending t) w)
  step_leads now call (S.LoadAnnounced t found) w = none_leads (fate plan p now call (S.LoadAnnounced t found) w)
  step_leads now call (S.LoadOp t found announced words) w =
      none_leads (fate plan p now call (S.LoadOp t found announced words) w)
  step_leads now call (S.StoreRow t found i) w = none_leads (fate plan p now call (S.StoreRow t found i) w)
  step_leads now call (S.Exchange t found) w = none_leads (fate plan p now call (S.Exchange t found) w)
  step_leads now call S.RaisePending w = none_leads (fate plan p now call S.RaisePending w)
  step_leads now call (S.StoreOp i) w = none_leads (fate plan p now call (S.StoreOp i) w)
  step_leads now call S.Announce w = none_leads (fate plan p now call S.Announce w)
  step_leads now call S.StoreWant w = none_leads (fate plan p now call S.StoreWant w)
  step_leads now call S.StoreAsking w = none_leads (fate plan p now call S.StoreAsking w)
  step_leads now call S.HeldWord w = none_leads (fate plan p now call S.HeldWord w)
  step_leads now call (S.TakeHold old) w = none_leads (fate plan p now call (S.TakeHold old) w)
  step_leads now call (S.HeldHead row) w = none_leads (fate plan p now call (S.HeldHead row) w)
  step_leads now call (S.HeldEntry row at left) w = none_leads (fate plan p now call (S.HeldEntry row at left) w)
  step_leads now call (S.HeldReply row at) w = none_leads (fate plan p now call (S.HeldReply row at) w)
  step_leads now call (S.GiveBack reply) w = none_leads (fate plan p now call (S.GiveBack reply) w)
  step_leads now call S.Stuck w = none_leads (fate plan p now call S.Stuck w)
  step_leads now call (S.Over ending) w = omega arith
  step_leads now call (S.LowerPending ending) w = over_leads ending

  -- ---- the seat's own events

  module _ (x : World) (h : Owned plan x) (k : Posted (seat_in x p) x.answers) (inside : p < holders_of plan.settings)
    where
      abbrev now : SeatNow
      now = seat_in x p

      next : (store : W.Store) (then : SeatNow) (answers : List Answer) (updates : List MadeBySeat) →
          Posted then answers → Posted (seat_in (ticked (with_seat x p store then answers updates)) p) answers
      next store then answers updates = subst (λ (s : SeatNow). Posted s answers) (sym mine)
        where
          mine : seat_in (ticked (with_seat x p store then answers updates)) p ≡ then
          mine = get_or-set_same x.seats p then nobody (let long = h.long in omega (arith, inside, long))

      update_step : (call : Call) (step : Step) → now.stand ≡ S.Goes call step →
          Posted (seat_in (ticked (goes plan x p now call step)) p) (goes plan x p now call step).answers
      update_step call step stood =
          let deed = deed_of plan p now call step in
          let w = found_by deed x.store in
          let own = own_after plan p now call step w in
          let f = fate plan p now call step w in
          let at = ap lowers stood in
          let posts = own_posts now call step w in
          next (store_after deed x.store) (seat_after own call f) (answers_after x p call (stepped now.course) f)
          (x.made ++ made_by_step plan p call step w)
          (fate_posts x call (stepped now.course) f (over_at step + ends_now step) (step_leads now call step w) own
          (let low = k.low in omega (arith, at, posts, low)))

      look_step : (aim : Aim) (glance : Glance) → now.stand ≡ S.Glances aim glance →
          Posted (seat_in (ticked (glances plan x p now aim glance)) p) (glances plan x p now aim glance).answers
      look_step aim glance stood =
          let deed = glance_deed plan p now.time aim glance in
          let f = glance_fate plan now.time aim glance (found_by deed x.store) in
          let at = ap lowers stood in
          let counts = look_counts glance f in
          let more = grown x.answers _ (look_grows plan x p aim (stepped now.course) f) in
          next (store_after deed x.store) (look_after now aim glance f)
          (look_answers plan x p aim (stepped now.course) f) x.made
          record { low = (let low = k.low in omega (arith, at, counts.0, counts.1, more, low)) }
        where
          look_counts : (was : Glance) (f : GlanceFate) →
              ((look_after now aim was f).posted ≡ now.posted) × (lowers (look_after now aim was f).stand ≡ 0)
          look_counts was (Looks later) = (refl, refl)
          look_counts was (Shows items) = (refl, refl)
          look_counts was Disturbed = (refl, refl)

      look_first : (aim : Aim) → now.stand ≡ S.Idle →
          Posted (seat_in (ticked (look_begins x p now aim)) p) x.answers
      look_first aim stood =
          (let at = ap lowers stood in
          next x.store _ x.answers x.made record { low = (let low = k.low in omega (arith, at, low)) })

      update_first : (call : Call) → now.stand ≡ S.Idle →
          Posted (seat_in (ticked (update_begins plan x p now call)) p) (update_begins plan x p now call).answers
      update_first call stood =
          let taken = scan_begins plan p now.free now in
          let f = first_fate taken.free taken.scan in
          let at = ap lowers stood in
          let posts = first_posts now.free now in
          let told = fate_posts x call (course_from x.clock) f 0 (none_leads f) taken
          (let low = k.low in omega (arith, at, posts, low)) in
          next x.store (record taken { stand = stand_at call f; course = course_from x.clock })
          (answers_after x p call (course_from x.clock) f) x.made
          (begun f told)
        where
          taken_up : SeatNow
          taken_up = scan_begins plan p now.free now

          begun : (f : Fate) →
              Posted (seat_after taken_up call f) (answers_after x p call (course_from x.clock) f) →
              Posted (record taken_up { stand = stand_at call f; course = course_from x.clock })
              (answers_after x p call (course_from x.clock) f)
          begun (On step) told = record { low = told.low }
          begun (Ends reply) told = record { low = told.low }
          begun Spends told = record { low = told.low }
          begun Refuses told = record { low = told.low }

      call_first : (call : Call) → now.stand ≡ S.Idle →
          Posted (seat_in (ticked (call_begins plan x p now call)) p) (call_begins plan x p now call).answers
      call_first (Lookup key) e = look_first (OfKey key) e
      call_first (Insert key value) e = update_first (Insert key value) e
      call_first (Remove key) e = update_first (Remove key) e
      call_first (Tally key amount) e = update_first (Tally key amount) e
      call_first (Count key value amount) e = update_first (Count key value amount) e
      call_first (Put key value) e = update_first (Put key value) e

      seat_goes : (stand : Stand) → now.stand ≡ stand → IsFlying plan p stand →
          Posted (seat_in (ticked (goes_on plan x p now stand)) p) (goes_on plan x p now stand).answers
      seat_goes S.Idle e flies = absurd flies
      seat_goes (S.Goes call step) e flies = update_step call step e
      seat_goes (S.Glances aim glance) e flies = look_step aim glance e

      own_event : (what : What) → Fits plan p now what →
          Posted (seat_in (ticked (act plan x p now what)) p) (act plan x p now what).answers
      own_event (Begin call) fits = call_first call fits.0
      own_event (Copy bucket) fits = look_first (OfBucket bucket) fits.0
      own_event Step_on fits = seat_goes now.stand refl fits

  -- ---- the events of others

  module _ (x : World) (q : ℕ) (n : p ≢ q) where
    other_call : (own : SeatNow) (call : Call) → seat_in (call_begins plan x q own call) p ≡ seat_in x p
    other_call own (Lookup key) = get_or-set_other x.seats q p _ nobody n
    other_call own (Insert key value) = get_or-set_other x.seats q p _ nobody n
    other_call own (Remove key) = get_or-set_other x.seats q p _ nobody n
    other_call own (Tally key amount) = get_or-set_other x.seats q p _ nobody n
    other_call own (Count key value amount) = get_or-set_other x.seats q p _ nobody n
    other_call own (Put key value) = get_or-set_other x.seats q p _ nobody n

    other_goes : (own : SeatNow) (stand : Stand) → seat_in (goes_on plan x q own stand) p ≡ seat_in x p
    other_goes own S.Idle = refl
    other_goes own (S.Goes call step) = get_or-set_other x.seats q p _ nobody n
    other_goes own (S.Glances aim glance) = get_or-set_other x.seats q p _ nobody n

    other_event : (own : SeatNow) (what : What) → seat_in (act plan x q own what) p ≡ seat_in x p
    other_event own (Begin call) = other_call own call
    other_event own (Copy bucket) = get_or-set_other x.seats q p _ nobody n
    other_event own Step_on = other_goes own own.stand

  -- what leaves the seat, and adds answers
  stays : (x y : World) → Posted (seat_in x p) x.answers → seat_in y p ≡ seat_in x p → Grows x.answers y.answers →
      Posted (seat_in y p) y.answers
  stays x y k same g = subst (λ (s : SeatNow). Posted s y.answers) (sym same)
      record { low = (let more = grown x.answers y.answers g in let low = k.low in omega (arith, more, low)) }

  posted_keep : (x : World) → Owned plan x → Posted (seat_in x p) x.answers → p < holders_of plan.settings →
      (event : Event) → IsEvent plan x event →
      Posted (seat_in (happens plan x event) p) (happens plan x event).answers
  posted_keep x h k inside (OfSeat q what) fits =
      elim (cases_eq q p) [
        | inl e ↦ own q e what fits
        | inr n ↦ stays x (happens plan x (OfSeat q what)) k
            (ap (λ (b : Bool). seat_in (cond b (ticked (act plan x q (seat_in x q) what)) x) p)
            (lt-ltb q (holders_of plan.settings) fits.0)
            ∙ other_event x q (λ e. n (sym e)) (seat_in x q) what)
            (event_grows plan x (OfSeat q what))
      ]
    where
      own : (q : ℕ) → q ≡ p → (what : What) → IsEvent plan x (OfSeat q what) →
          Posted (seat_in (happens plan x (OfSeat q what)) p) (happens plan x (OfSeat q what)).answers
      own q e what fits = subst
          (λ (r : ℕ). Posted (seat_in (happens plan x (OfSeat r what)) p) (happens plan x (OfSeat r what)).answers)
          (sym e) (here (subst (λ (r : ℕ). IsEvent plan x (OfSeat r what)) e fits))
        where
          here : IsEvent plan x (OfSeat p what) →
              Posted (seat_in (happens plan x (OfSeat p what)) p) (happens plan x (OfSeat p what)).answers
          here fits = subst
              (λ (b : Bool). Posted (seat_in (cond b y x) p) (cond b y x).answers)
              (sym (lt-ltb p (holders_of plan.settings) fits.0)) (own_event x h k inside what fits.1)
            where
              y : World
              y = ticked (act plan x p (seat_in x p) what)
  posted_keep x h k inside (OfReader r peek) fits =
      stays x (happens plan x (OfReader r peek)) k (same peek) (event_grows plan x (OfReader r peek))
    where
      by_stand : (stand : S.Peeking) → seat_in (peeks_on plan x r (x.readers r) stand) p ≡ seat_in x p
      by_stand S.Rests = refl
      by_stand (S.Peeks aim glance) = refl

      same : (peek : Peek) → seat_in (happens plan x (OfReader r peek)) p ≡ seat_in x p
      same (Open aim tries) = refl
      same Peek_on = by_stand (x.readers r).stand

  posted_follow : (is : IsPlan plan) (events : List Event) (x : World) → Owned plan x →
      Posted (seat_in x p) x.answers → p < holders_of plan.settings → AreEvents plan x events →
      Posted (seat_in (fold (happens plan) x events) p) (fold (happens plan) x events).answers
  posted_follow is [] x h k inside follow = k
  posted_follow is (event ∷ events) x h k inside follow =
      posted_follow is events (happens plan x event) (event_keeps plan is x h event follow.0).owned
      (posted_keep x h k inside event follow.0) inside follow.1

-- THE RESULT
pub announcements_are_counted : AnnouncementsAreCounted
announcements_are_counted plan events p run inside idle =
    let first : Posted plan p (seat_in (opening_world plan) p) (opening_world plan).answers =
    subst (λ (s : SeatNow). Posted plan p s []) (sym (seat_is plan run.opened p inside)) record { low = omega arith } in
    let k = posted_follow plan p run.opened events (opening_world plan) (opening_owned plan run.opened) first inside
    run.follow in
    let low = k.low in
    let at = ap lowers idle in
    omega (arith, low, at)
