-- What one event does to the calls of a seat: it leaves them as they are, it begins one, or it ends one.
use Rattle.std.proofs.Common.{◌≡◌, ◌≢◌, ℕ, ◌+◌, ◌<◌, Bool, true, false, cond, List, [], ◌∷◌, ◌++◌, length, refl, sym, ap, ◌∙◌, subst, arith, append-nil, inl, inr, get_or-set_same, get_or-set_other, length-set, lt-ltb}
use Rattle.std.specs.Prelude.{◌==◌}
use Rattle.std.proofs.lemmas.Bool.{cases_eq, eq-eqb, ne_eqb}
use Rattle.std.proofs.lemmas.List.Elements.{filter-append}
use Rattle.plain_map.specs.declared.calls.Call.{Call}
use Rattle.plain_map.specs.declared.calls.Call.TheVariants.{Insert, Remove, Lookup, Tally, Count, Put}
use Rattle.plain_map.specs.Updates.{IsUpdate}
use Rattle.lasting_model.specs.Plans.{Plan, ample}
use Rattle.lasting_model.specs.Words as W
use Rattle.lasting_model.specs.Steps as S
use Rattle.lasting_model.specs.Steps.{Step, Stand, Sweep, SeatNow, Update, Aim, OfKey, OfBucket, Glance, Course, Peeking, ReaderNow, deed_of, glance_deed, bucket_of_update}
use Rattle.lasting_model.specs.Goes.{SweepFate, SweepsOn, Swept, swept, sweep_begins, sweep_fate_of, Fate, On, Ends, Refuses, fate, own_after, first_fate, with_published, GlanceFate, Looks, Shows, Disturbed, glance_fate, Asked, Called, Told, Replied, Refused, asked_by_aim, told_by_items}
use Rattle.lasting_model.specs.Worlds.{Lasting, Answer, Asker, BySeat, Event, OfSeat, OfReader, What, Begin, Copy, Step_on, Peek, Open, Peek_on, IsEvent, IsFlying, Fits, act, answers_after, call_begins, found_by, goes_on, happens, look_after, look_answers, next_update, nobody, peek_acts, peek_after, peek_answers, peeks_on, with_reader, seat_after, seat_in, stand_at, stepped, store_after, ticked, update_begins, with_seat, course_from}
use Rattle.lasting_laws.specs.Orders.{answers_by, is_by}
use Rattle.lasting_laws.specs.OneByOne.{IsLooking}

-- the call of a seat that is under way: an update or a look, since so many events
pub data Phase : Type 0 where
  resting : Phase
  updating : (call : Call) (began : ℕ) → Phase
  looking : (asked : Asked) (began : ℕ) → Phase

abbrev pub phase_at : Stand → (began : ℕ) → Phase
phase_at S.Idle began = resting
phase_at (S.Goes u step) began = updating u.call began
phase_at (S.Glances aim glance) began = looking (asked_by_aim aim) began

abbrev pub phase_of : SeatNow → Phase
phase_of now = phase_at now.stand now.course.began

-- it has begun after so many events
abbrev pub IsBegun : Phase → ℕ → Type 0
IsBegun resting n = ⊥
IsBegun (updating call began) n = IsUpdate call × (began ≡ n)
IsBegun (looking asked began) n = IsLooking asked × (began ≡ n)

-- an update was answered
pub record IsOfUpdate (a : Answer) : Type 0 where
  pub call : Call
  pub is : a.asked ≡ Called call
  pub update : IsUpdate call

-- the answer ends it; an update may begin and end in one event
abbrev pub IsEnded : Phase → Answer → Type 0
IsEnded resting a = IsOfUpdate a
IsEnded (updating call began) a = a.asked ≡ Called call
IsEnded (looking asked began) a = (a.asked ≡ asked) × (a.began ≡ began)

-- ---- a seat's own event

-- what a seat's event does to its own call: the world has another seat in its place, and at most one answer more
pub data Acts (x : Lasting) (p : ℕ) (z : Lasting) : Type 0 where
  goes_on_so : (store : W.Store) (then : SeatNow) → z ≡ with_seat x p store then x.answers →
      phase_of then ≡ phase_of (seat_in x p) → Acts x p z
  begins_so : (store : W.Store) (then : SeatNow) → z ≡ with_seat x p store then x.answers →
      (seat_in x p).stand ≡ S.Idle → IsBegun (phase_of then) x.clock → Acts x p z
  ends_so : (store : W.Store) (then : SeatNow) (a : Answer) → z ≡ with_seat x p store then (x.answers ++ a ∷ []) →
      then.stand ≡ S.Idle → a.by ≡ BySeat p → a.ended ≡ x.clock + 1 → IsEnded (phase_of (seat_in x p)) a →
      Acts x p z

-- a sweep changes nothing of the course
swept_course : (now : SeatNow) (f : SweepFate) → (swept now f).course ≡ now.course
swept_course now (SweepsOn kept sweep) = refl
swept_course now (Swept kept gone) = refl

either_course : (b : Bool) (s t : SeatNow) (c : Course) → s.course ≡ c → t.course ≡ c → (cond b s t).course ≡ c
either_course true s t c e f = e
either_course false s t c e f = f

module _ (plan : Plan) (x : Lasting) (p : ℕ) where
  abbrev now : SeatNow
  now = seat_in x p

  own_course : (u : Update) (step : Step) (word : ℕ) → (own_after (ample plan) p now u step word).course ≡ now.course
  own_course u (S.Sweeps rows) word = swept_course now (sweep_fate_of (ample plan) p now.sweep word)
  own_course u (S.StoreOp i) word = refl
  own_course u S.Announce word = refl
  own_course u (S.LoadWord turn) word = refl
  own_course u (S.LoadRow turn old words) word = refl
  own_course u (S.CheckRow turn old words) word = refl
  own_course u (S.LoadAnnounced t found) word = refl
  own_course u (S.LoadOp t found announced words) word = refl
  own_course u (S.StoreRow t found i) word = refl
  own_course u (S.Exchange t found) word =
      either_course (word == t.word) (with_published now (bucket_of_update (ample plan) u)) now now.course refl refl
  own_course u S.StoreWant word = refl
  own_course u S.StoreAsking word = refl
  own_course u S.HeldWord word = refl
  own_course u (S.TakeHold old) word = refl
  own_course u (S.HeldNumber row) word = refl
  own_course u (S.HeldReply row) word = refl
  own_course u S.Stuck word = refl

  -- an answer that ends a call now
  abbrev ending : Asked → Told → Course → Answer
  ending asked told course = record {
    by = BySeat p;
    asked = asked;
    told = told;
    began = course.began;
    ended = x.clock + 1;
    steps = course.steps;
  }

  ends_now : (store : W.Store) (then : SeatNow) (a : Answer) (stand : Stand) → then.stand ≡ S.Idle →
      a.by ≡ BySeat p → a.ended ≡ x.clock + 1 → now.stand ≡ stand → IsEnded (phase_at stand now.course.began) a →
      Acts x p (with_seat x p store then (x.answers ++ a ∷ []))
  ends_now store then a stand idle by ended at of = ends_so store then a refl idle by ended
      (subst (λ (s : Stand). IsEnded (phase_at s now.course.began) a) (sym at) of)

  -- a step of an update
  update_on : (store : W.Store) (own : SeatNow) (u : Update) (step : Step) (next : Fate) →
      now.stand ≡ S.Goes u step → own.course ≡ now.course →
      Acts x p (with_seat x p store (seat_after own u next) (answers_after x p u.call (stepped now.course) next))
  update_on store own u step (On then) at same = goes_on_so store (seat_after own u (On then)) refl
      (ap (λ (c : Course). updating u.call c.began) same
      ∙ sym (ap (λ (s : Stand). phase_at s now.course.began) at))
  update_on store own u step (Ends reply) at same = ends_now store (seat_after own u (Ends reply))
      (ending (Called u.call) (Replied reply) (stepped now.course)) (S.Goes u step) refl refl refl at refl
  update_on store own u step Refuses at same = ends_now store (seat_after own u Refuses)
      (ending (Called u.call) Refused (stepped now.course)) (S.Goes u step) refl refl refl at refl

  -- a step of a look
  look_on : (store : W.Store) (aim : Aim) (glance : Glance) (next : GlanceFate) → now.stand ≡ S.Glances aim glance →
      Acts x p (with_seat x p store (look_after now aim glance next)
      (look_answers (ample plan) x p aim (stepped now.course) next))
  look_on store aim glance (Looks then) at = goes_on_so store (look_after now aim glance (Looks then)) refl
      (sym (ap (λ (s : Stand). phase_at s now.course.began) at))
  look_on store aim glance (Shows items) at =
      ends_now store (look_after now aim glance (Shows items))
      (ending (asked_by_aim aim) (told_by_items (ample plan) aim items) (stepped now.course)) (S.Glances aim glance)
      refl refl refl at (refl, refl)
  look_on store aim glance Disturbed at = goes_on_so store (look_after now aim glance Disturbed) refl
      (sym (ap (λ (s : Stand). phase_at s now.course.began) at))

  step_acts : (stand : Stand) → now.stand ≡ stand → IsFlying stand → Acts x p (goes_on plan x p now stand)
  step_acts S.Idle at f = absurd f
  step_acts (S.Goes u step) at f =
      let deed = deed_of (ample plan) p now u step in
      let word = found_by deed x.store in
      update_on (store_after deed x.store) (own_after (ample plan) p now u step word) u step
      (fate (ample plan) p now u step word) at (own_course u step word)
  step_acts (S.Glances aim glance) at f =
      let deed = glance_deed (ample plan) p now.time aim glance in
      look_on (store_after deed x.store) aim glance
      (glance_fate (ample plan) now.time aim glance (found_by deed x.store)) at

  -- an update begins
  update_first : (taken : SeatNow) (call : Call) (next : Fate) → now.stand ≡ S.Idle → IsUpdate call →
      Acts x p (with_seat x p x.store
      (record taken { stand = stand_at (next_update now call) next; course = course_from x.clock })
      (answers_after x p call (course_from x.clock) next))
  update_first taken call (On step) idle update = begins_so x.store _ refl idle (update, refl)
  update_first taken call (Ends reply) idle update = ends_now x.store
      (record taken { stand = S.Idle; course = course_from x.clock })
      (ending (Called call) (Replied reply) (course_from x.clock)) S.Idle refl refl refl idle
      (record { call = call; is = refl; update = update })
  update_first taken call Refuses idle update = ends_now x.store
      (record taken { stand = S.Idle; course = course_from x.clock })
      (ending (Called call) Refused (course_from x.clock)) S.Idle refl refl refl idle
      (record { call = call; is = refl; update = update })

  update_acts : (call : Call) → now.stand ≡ S.Idle → IsUpdate call → Acts x p (update_begins x p now call)
  update_acts call idle update =
      let taken = sweep_begins now.named now.sweep now in
      update_first taken call (first_fate now.free taken.sweep) idle update

  call_acts : (call : Call) → Fits plan now (Begin call) → Acts x p (call_begins x p now call)
  call_acts (Lookup key) f = begins_so x.store _ refl f.0 (tt, refl)
  call_acts (Insert key value) f = update_acts (Insert key value) f.0 f.1.0
  call_acts (Remove key) f = update_acts (Remove key) f.0 f.1.0
  call_acts (Tally key amount) f = update_acts (Tally key amount) f.0 f.1.0
  call_acts (Count key value amount) f = update_acts (Count key value amount) f.0 f.1.0
  call_acts (Put key value) f = update_acts (Put key value) f.0 f.1.0

  pub acts : (what : What) → Fits plan now what → Acts x p (act plan x p now what)
  acts (Begin call) f = call_acts call f
  acts (Copy bucket) f = begins_so x.store _ refl f.0 (tt, refl)
  acts Step_on f = step_acts now.stand refl f

-- ---- an event, as one seat sees it

-- the call of a seat goes on, or begins, or ends
pub data Passes (q : ℕ) (x y : Lasting) : Type 0 where
  stays : phase_of (seat_in y q) ≡ phase_of (seat_in x q) → answers_by q y.answers ≡ answers_by q x.answers →
      Passes q x y
  begins : (seat_in x q).stand ≡ S.Idle → IsBegun (phase_of (seat_in y q)) x.clock →
      answers_by q y.answers ≡ answers_by q x.answers → Passes q x y
  ends : (a : Answer) → (seat_in y q).stand ≡ S.Idle →
      answers_by q y.answers ≡ answers_by q x.answers ++ a ∷ [] → a.ended ≡ x.clock + 1 →
      IsEnded (phase_of (seat_in x q)) a → Passes q x y

-- one answer more is the seat's own, or another's
own_more : (q : ℕ) (answers : List Answer) (a : Answer) → a.by ≡ BySeat q →
    answers_by q (answers ++ a ∷ []) ≡ answers_by q answers ++ a ∷ []
own_more q answers a by = filter-append (λ (b : Answer). is_by q b.by) answers (a ∷ [])
    ∙ ap (λ (t : Bool). answers_by q answers ++ cond t (a ∷ []) []) (ap (is_by q) by ∙ eq-eqb q q refl)

other_more : (q : ℕ) (answers : List Answer) (a : Answer) → is_by q a.by ≡ false →
    answers_by q (answers ++ a ∷ []) ≡ answers_by q answers
other_more q answers a by = filter-append (λ (b : Answer). is_by q b.by) answers (a ∷ [])
    ∙ ap (λ (t : Bool). answers_by q answers ++ cond t (a ∷ []) []) by ∙ append-nil (answers_by q answers)

module _ (plan : Plan) (x : Lasting) (q : ℕ) (long : length x.seats ≡ plan.settings.seats) where
  abbrev SeenAs : Lasting → Type 0
  SeenAs z = Passes q x (ticked z)

  own_acts : q < plan.settings.seats → (z : Lasting) → Acts x q z → SeenAs z
  own_acts inside z (goes_on_so store then is same) = stays
      (ap (λ (w : Lasting). phase_of (seat_in w q)) is
      ∙ ap phase_of (get_or-set_same x.seats q then nobody (omega (arith, inside, long))) ∙ same)
      (ap (λ (w : Lasting). answers_by q w.answers) is)
  own_acts inside z (begins_so store then is idle begun) = begins idle
      (subst (λ (s : SeatNow). IsBegun (phase_of s) x.clock)
      (sym (ap (λ (w : Lasting). seat_in w q) is
      ∙ get_or-set_same x.seats q then nobody (omega (arith, inside, long)))) begun)
      (ap (λ (w : Lasting). answers_by q w.answers) is)
  own_acts inside z (ends_so store then a is idle by ended of) = ends a
      (ap (λ (w : Lasting). (seat_in w q).stand) is
      ∙ ap (λ (s : SeatNow). s.stand) (get_or-set_same x.seats q then nobody (omega (arith, inside, long))) ∙ idle)
      (ap (λ (w : Lasting). answers_by q w.answers) is ∙ own_more q x.answers a by) ended of

  not_it : (p : ℕ) (by : Asker) → by ≡ BySeat p → p ≢ q → is_by q by ≡ false
  not_it p by e n = ap (is_by q) e ∙ ne_eqb p q n

  -- where another seat is changed, the seat's call is as it was
  abbrev other_phase : (p : ℕ) → p ≢ q → (z : Lasting) (store : W.Store) (then : SeatNow) (answers : List Answer) →
      z ≡ with_seat x p store then answers → phase_of (seat_in z q) ≡ phase_of (seat_in x q)
  other_phase p n z store then answers is =
      ap (λ (w : Lasting). phase_of (seat_in w q)) is
      ∙ ap phase_of (get_or-set_other x.seats p q then nobody (λ e. n (sym e)))

  other_acts : (p : ℕ) → p ≢ q → (z : Lasting) → Acts x p z → SeenAs z
  other_acts p n z (goes_on_so store then is same) = stays
      (other_phase p n z store then x.answers is)
      (ap (λ (w : Lasting). answers_by q w.answers) is)
  other_acts p n z (begins_so store then is idle begun) = stays
      (other_phase p n z store then x.answers is)
      (ap (λ (w : Lasting). answers_by q w.answers) is)
  other_acts p n z (ends_so store then a is idle by ended of) = stays
      (other_phase p n z store then (x.answers ++ a ∷ []) is)
      (ap (λ (w : Lasting). answers_by q w.answers) is ∙ other_more q x.answers a (not_it p a.by by n))

  by_seat : (p : ℕ) → (z : Lasting) → p < plan.settings.seats → Acts x p z → SeenAs z
  by_seat p z inside a = elim (cases_eq p q) [
    | inl same ↦ own_acts (subst (λ (k : ℕ). k < plan.settings.seats) same inside) z
        (subst (λ (k : ℕ). Acts x k z) same a)
    | inr n ↦ other_acts p n z a
  ]

  -- an event of a reader is none of the seat's
  peeks_on_so : (r : ℕ) (now : ReaderNow) (stand : Peeking) → SeenAs (peeks_on plan x r now stand)
  peeks_on_so r was S.Rests = stays refl refl
  peeks_on_so r was (S.Peeks aim glance) =
      told (glance_fate (ample plan) 0 aim glance (found_by (glance_deed (ample plan) 0 0 aim glance) x.store))
    where
      told : (next : GlanceFate) → SeenAs (with_reader x r (peek_after was aim next)
          (peek_answers (ample plan) x r aim (stepped was.course) next))
      told (Looks then) = stays refl refl
      told (Shows items) = stays refl (other_more q x.answers _ refl)
      told Disturbed = stays refl (other_more q x.answers _ refl)

  by_reader : (r : ℕ) (peek : Peek) → SeenAs (peek_acts plan x r (x.readers r) peek)
  by_reader r (Open aim tries) = stays refl refl
  by_reader r Peek_on = peeks_on_so r (x.readers r) (x.readers r).stand

  -- THE RESULT
  pub passes : (e : Event) → IsEvent plan x e → Passes q x (happens plan x e)
  passes (OfSeat p what) k = subst (Passes q x)
      (sym (ap (λ (b : Bool). cond b (ticked (act plan x p (seat_in x p) what)) x)
      (lt-ltb p plan.settings.seats k.0)))
      (by_seat p (act plan x p (seat_in x p) what) k.0 (acts plan x p what k.1))
  passes (OfReader r peek) k = by_reader r peek

-- ---- what an event leaves as it is

module _ (plan : Plan) (x : Lasting) where
  -- one event more has come, and there are as many seats
  abbrev Grown : Lasting → Type 0
  Grown y = (y.clock ≡ x.clock + 1) × (length y.seats ≡ length x.seats)

  grown_by : (p : ℕ) (z : Lasting) → Acts x p z → Grown (ticked z)
  grown_by p z (goes_on_so store then is same) = (
    ap (λ (w : Lasting). w.clock + 1) is,
    ap (λ (w : Lasting). length w.seats) is ∙ length-set x.seats p then,
  )
  grown_by p z (begins_so store then is idle begun) = (
    ap (λ (w : Lasting). w.clock + 1) is,
    ap (λ (w : Lasting). length w.seats) is ∙ length-set x.seats p then,
  )
  grown_by p z (ends_so store then a is idle by ended of) = (
    ap (λ (w : Lasting). w.clock + 1) is,
    ap (λ (w : Lasting). length w.seats) is ∙ length-set x.seats p then,
  )

  peeks_grow : (r : ℕ) (now : ReaderNow) (stand : Peeking) → Grown (ticked (peeks_on plan x r now stand))
  peeks_grow r was S.Rests = (refl, refl)
  peeks_grow r was (S.Peeks aim glance) = (refl, refl)

  peek_grows : (r : ℕ) (peek : Peek) → Grown (ticked (peek_acts plan x r (x.readers r) peek))
  peek_grows r (Open aim tries) = (refl, refl)
  peek_grows r Peek_on = peeks_grow r (x.readers r) (x.readers r).stand

  pub grows : (e : Event) → IsEvent plan x e → Grown (happens plan x e)
  grows (OfSeat p what) k = subst Grown
      (sym (ap (λ (b : Bool). cond b (ticked (act plan x p (seat_in x p) what)) x)
      (lt-ltb p plan.settings.seats k.0)))
      (grown_by p (act plan x p (seat_in x p) what) (acts plan x p what k.1))
  grows (OfReader r peek) k = peek_grows r peek
