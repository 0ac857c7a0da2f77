-- What an event of a party changes: its own state, as the calls have it, and no other's.
use Rattle.std.proofs.Common.{◌≡◌, ◌≢◌, ◌⊎◌, inl, inr, ℕ, ◌+◌, ◌-◌, ◌<◌, Bool, true, false, cond, eq-eqb, ne_eqb, List, [], ◌∷◌, ◌++◌, length, Some, None, refl, sym, ap, ◌∙◌, arith, append-nil, get_or-set_same, get_or-set_other, lt-ltb}
use Rattle.std.proofs.lemmas.List.Elements.{filter-append}
use Rattle.std.specs.Prelude.{◌==◌, fold}
use Rattle.word_rows.proofs.MemoryLemmas.{put_same, put_other}
use Rattle.plain_map.specs.declared.calls.Call.{Call}
use Rattle.plain_map.specs.declared.calls.Call.TheVariants.{Insert, Remove, Lookup, Tally, Count, Put}
use Rattle.exchange_model.specs.Plans.{Plan, holders_of}
use Rattle.exchange_model.specs.Codes.{row_in}
use Rattle.exchange_model.specs.Words as W
use Rattle.exchange_model.specs.Steps as S
use Rattle.exchange_model.specs.Steps.{MadeBySeat, Step, Stand, Scan, SeatNow, Aim, OfKey, OfBucket, Glance, Course, Peeking, ReaderNow, Deed, deed_of, glance_deed}
use Rattle.exchange_model.specs.Goes.{time_after, ScanFate, ScansOn, Scanned, scanned, scan_begins, scan_fate_of, seats_from, Fate, On, Ends, Spends, Refuses, fate, own_after, first_fate, exchanged, GlanceFate, Looks, Shows, Disturbed, glance_fate, Called, Replied, Again, Spent, Refused, asked_by_aim, told_by_items}
use Rattle.exchange_model.specs.Worlds.{World, Answer, Asker, BySeat, ByReader, Event, OfSeat, OfReader, What, Begin, Copy, Step_on, Peek, Open, Peek_on, IsEvent, AreEvents, IsRun, IsFlying, IsPeeking, Fits, PeekFits, LOOK_TRIES, act, answers_after, call_begins, course_from, found_by, glances, goes, goes_on, happens, look_after, look_answers, look_begins, made_by_step, nobody, opening_world, peek_acts, peek_after, peek_answers, peeks, peeks_on, seat_after, seat_in, stand_at, stepped, store_after, ticked, update_begins, with_reader, with_seat, world_after}
use Rattle.exchange_laws.proofs.OwnedRuns.{after_both}
use Rattle.exchange_laws.proofs.NearSteps.{NearPeek}
use Rattle.exchange_calls.specs.Going.{Going, after_glance, begun_look, begun_update, deed_at, goes_at, told_by}
use Rattle.exchange_table.specs.Parties.{HasNone, answers_by, as_seat, by_event, clean, going_in, is_asker, last_told, party, stand_of, told_at}

-- ---- runs with one event more

follow_more : (plan : Plan) (es : List Event) (x : World) (e : Event) → AreEvents plan x es →
    IsEvent plan (fold (happens plan) x es) e → AreEvents plan x (es ++ e ∷ [])
follow_more plan [] x e f k = (k, tt)
follow_more plan (d ∷ es) x e f k = (f.0, follow_more plan es (happens plan x d) e f.1 k)

pub run_more : (plan : Plan) (es : List Event) (e : Event) → IsRun plan es → IsEvent plan (world_after plan es) e →
    IsRun plan (es ++ e ∷ [])
run_more plan es e run k =
    record { opened = run.opened; follow = follow_more plan es (opening_world plan) e run.follow k }

pub world_more : (plan : Plan) (es : List Event) (e : Event) →
    world_after plan (es ++ e ∷ []) ≡ happens plan (world_after plan es) e
world_more plan es e = after_both plan es (e ∷ []) (opening_world plan)

-- and what follows a front of a run may follow it
follow_later : (plan : Plan) (es fs : List Event) (x : World) → AreEvents plan x (es ++ fs) →
    AreEvents plan (fold (happens plan) x es) fs
follow_later plan [] fs x f = f
follow_later plan (e ∷ es) fs x f = follow_later plan es fs (happens plan x e) f.1

-- ---- whose answers they are

asker_same : (who : Asker) → is_asker who who ≡ true
asker_same (BySeat q) = eq-eqb q q refl
asker_same (ByReader r) = eq-eqb r r refl

asker_other : (who by : Asker) → by ≢ who → is_asker who by ≡ false
asker_other (BySeat q) (BySeat p) n = ne_eqb q p (λ e. n (ap BySeat (sym e)))
asker_other (BySeat q) (ByReader k) n = refl
asker_other (ByReader r) (BySeat p) n = refl
asker_other (ByReader r) (ByReader k) n = ne_eqb r k (λ e. n (ap ByReader (sym e)))

pub own_more : (who : Asker) (xs : List Answer) (a : Answer) → a.by ≡ who →
    answers_by who (xs ++ a ∷ []) ≡ answers_by who xs ++ a ∷ []
own_more who xs a is = filter-append (λ (b : Answer). is_asker who b.by) xs (a ∷ [])
    ∙ ap (λ (c : Bool). answers_by who xs ++ cond c (a ∷ []) []) (ap (is_asker who) is ∙ asker_same who)

own_less : (who : Asker) (xs : List Answer) (a : Answer) → a.by ≢ who →
    answers_by who (xs ++ a ∷ []) ≡ answers_by who xs
own_less who xs a n = filter-append (λ (b : Answer). is_asker who b.by) xs (a ∷ [])
    ∙ ap (λ (c : Bool). answers_by who xs ++ cond c (a ∷ []) []) (asker_other who a.by n)
    ∙ append-nil (answers_by who xs)

-- the answers stay, or one to this asker has come
abbrev IsMore : Asker → (xs ys : List Answer) → Type 0
IsMore by xs ys = (ys ≡ xs) ⊎ ((a : Answer) × (a.by ≡ by) × (ys ≡ xs ++ a ∷ []))

more_other : (by who : Asker) (xs ys : List Answer) → IsMore by xs ys → by ≢ who →
    answers_by who ys ≡ answers_by who xs
more_other by who xs ys (inl same) n = ap (answers_by who) same
more_other by who xs ys (inr z) n = ap (answers_by who) z.2 ∙ own_less who xs z.0 (λ e. n (sym z.1 ∙ e))

-- ---- what one event leaves

-- another seat in the place of this one
pub record SeatForm (x : World) (q : ℕ) (y : World) : Type 0 where
  pub store : W.Store
  pub then : SeatNow
  pub answers : List Answer
  pub updates : List MadeBySeat
  pub is : y ≡ with_seat x q store then answers updates
  pub more : IsMore (BySeat q) x.answers answers

pub record ReaderForm (x : World) (r : ℕ) (y : World) : Type 0 where
  pub then : ReaderNow
  pub answers : List Answer
  pub is : y ≡ with_reader x r then answers
  pub more : IsMore (ByReader r) x.answers answers

module _ (plan : Plan) (x : World) where
  update_more : (q : ℕ) (call : Call) (course : Course) (next : Fate) →
      IsMore (BySeat q) x.answers (answers_after x q call course next)
  update_more q call course (On step) = inl refl
  update_more q call course (Ends reply) = inr (_, refl, refl)
  update_more q call course Spends = inr (_, refl, refl)
  update_more q call course Refuses = inr (_, refl, refl)

  look_more : (q : ℕ) (aim : Aim) (course : Course) (next : GlanceFate) →
      IsMore (BySeat q) x.answers (look_answers plan x q aim course next)
  look_more q aim course (Looks glance) = inl refl
  look_more q aim course (Shows items) = inr (_, refl, refl)
  look_more q aim course Disturbed = inl refl

  peek_more : (r : ℕ) (aim : Aim) (course : Course) (next : GlanceFate) →
      IsMore (ByReader r) x.answers (peek_answers plan x r aim course next)
  peek_more r aim course (Looks glance) = inl refl
  peek_more r aim course (Shows items) = inr (_, refl, refl)
  peek_more r aim course Disturbed = inr (_, refl, refl)

  update_form : (q : ℕ) (now : SeatNow) (call : Call) → SeatForm x q (update_begins plan x q now call)
  update_form q now call = record {
    store = _;
    then = _;
    answers = _;
    updates = _;
    is = refl;
    more = update_more q call (course_from x.clock)
        (first_fate (scan_begins plan q now.free now).free (scan_begins plan q now.free now).scan);
  }

  begin_form : (q : ℕ) (now : SeatNow) (call : Call) → SeatForm x q (call_begins plan x q now call)
  begin_form q now (Lookup key) = record { store = _; then = _; answers = _; updates = _; is = refl; more = inl refl }
  begin_form q now (Insert key value) = update_form q now (Insert key value)
  begin_form q now (Remove key) = update_form q now (Remove key)
  begin_form q now (Tally key amount) = update_form q now (Tally key amount)
  begin_form q now (Count key value amount) = update_form q now (Count key value amount)
  begin_form q now (Put key value) = update_form q now (Put key value)

  goes_form : (q : ℕ) (now : SeatNow) (stand : Stand) → IsFlying plan q stand →
      SeatForm x q (goes_on plan x q now stand)
  goes_form q now S.Idle f = absurd f
  goes_form q now (S.Goes call step) f =
      let word = found_by (deed_of plan q now call step) x.store in
      record {
        store = _;
        then = _;
        answers = _;
        updates = _;
        is = refl;
        more = update_more q call (stepped now.course) (fate plan q now call step word);
      }
  goes_form q now (S.Glances aim glance) f =
      let word = found_by (glance_deed plan q now.time aim glance) x.store in
      record {
        store = _;
        then = _;
        answers = _;
        updates = _;
        is = refl;
        more = look_more q aim (stepped now.course) (glance_fate plan now.time aim glance word);
      }

  act_form : (q : ℕ) (now : SeatNow) (what : What) → Fits plan q now what → SeatForm x q (act plan x q now what)
  act_form q now (Begin call) f = begin_form q now call
  act_form q now (Copy bucket) f = record { store = _; then = _; answers = _; updates = _; is = refl; more = inl refl }
  act_form q now Step_on f = goes_form q now now.stand f

  peeks_form : (r : ℕ) (now : ReaderNow) (stand : Peeking) → IsPeeking stand →
      ReaderForm x r (peeks_on plan x r now stand)
  peeks_form r now S.Rests f = absurd f
  peeks_form r now (S.Peeks aim glance) f =
      let word = found_by (glance_deed plan 0 0 aim glance) x.store in
      record {
        then = _;
        answers = _;
        is = refl;
        more = peek_more r aim (stepped now.course) (glance_fate plan 0 aim glance word);
      }

  peek_form : (r : ℕ) (now : ReaderNow) (peek : Peek) → PeekFits plan now peek →
      ReaderForm x r (peek_acts plan x r now peek)
  peek_form r now (Open aim tries) f = record { then = _; answers = _; is = refl; more = inl refl }
  peek_form r now Peek_on f = peeks_form r now now.stand f

  -- an event of a seat acts
  pub seat_happens : (q : ℕ) (what : What) → q < holders_of plan.settings →
      happens plan x (OfSeat q what) ≡ ticked (act plan x q (seat_in x q) what)
  seat_happens q what inside = ap (λ (b : Bool). cond b (ticked (act plan x q (seat_in x q) what)) x)
      (lt-ltb q (holders_of plan.settings) inside)

  seat_other : (q : ℕ) (y : World) (f : SeatForm x q y) (who : Asker) → BySeat q ≢ who →
      party (ticked y) who ≡ party x who
  seat_other q y f (BySeat p) n = ap (λ (z : World). seat_in z p) f.is
      ∙ get_or-set_other x.seats q p f.then nobody (λ e. n (ap BySeat (sym e)))
  seat_other q y f (ByReader r) n = ap (λ (z : World). as_seat (z.readers r)) f.is

  reader_other : (r : ℕ) (y : World) (f : ReaderForm x r y) (who : Asker) → ByReader r ≢ who →
      party (ticked y) who ≡ party x who
  reader_other r y f (BySeat p) n = ap (λ (z : World). seat_in z p) f.is
  reader_other r y f (ByReader k) n = ap (λ (z : World). as_seat (z.readers k)) f.is
      ∙ ap as_seat (put_other x.readers r f.then k (λ e. n (ap ByReader (sym e))))

  -- others stand as before
  pub party_other : (e : Event) → IsEvent plan x e → (who : Asker) → by_event e ≢ who →
      party (happens plan x e) who ≡ party x who
  party_other (OfSeat q what) k who n =
      ap (λ (z : World). party z who) (seat_happens q what k.0)
      ∙ seat_other q (act plan x q (seat_in x q) what) (act_form q (seat_in x q) what k.1) who n
  party_other (OfReader r peek) k who n =
      reader_other r (peek_acts plan x r (x.readers r) peek) (peek_form r (x.readers r) peek k) who n

  -- and have the same answers
  own_other : (e : Event) → IsEvent plan x e → (who : Asker) → by_event e ≢ who →
      answers_by who (happens plan x e).answers ≡ answers_by who x.answers
  own_other (OfSeat q what) k who n =
      let f = act_form q (seat_in x q) what k.1 in
      ap (λ (z : World). answers_by who z.answers) (seat_happens q what k.0)
      ∙ ap (λ (z : World). answers_by who z.answers) f.is
      ∙ more_other (BySeat q) who x.answers f.answers f.more n
  own_other (OfReader r peek) k who n =
      let f = peek_form r (x.readers r) peek k in
      ap (λ (z : World). answers_by who z.answers) f.is
      ∙ more_other (ByReader r) who x.answers f.answers f.more n

  -- and one event more has come
  pub clock_more : (e : Event) → IsEvent plan x e → (happens plan x e).clock ≡ x.clock + 1
  clock_more (OfSeat q what) k =
      ap (λ (z : World). z.clock) (seat_happens q what k.0)
      ∙ ap (λ (z : World). z.clock + 1) (act_form q (seat_in x q) what k.1).is
  clock_more (OfReader r peek) k = ap (λ (z : World). z.clock + 1) (peek_form r (x.readers r) peek k).is

clock_follow : (plan : Plan) (es : List Event) (x : World) → AreEvents plan x es →
    (fold (happens plan) x es).clock ≡ x.clock + length es
clock_follow plan [] x f = (let none : x.clock ≡ x.clock + 0 = omega arith in none)
clock_follow plan (e ∷ es) x f =
    (let rest = clock_follow plan es (happens plan x e) f.1 in
    let one = clock_more plan x e f.0 in omega (arith, rest, one))

-- as many events came as there are
pub clock_is : (plan : Plan) (es : List Event) → IsRun plan es → (world_after plan es).clock ≡ length es
clock_is plan es run =
    (let all = clock_follow plan es (opening_world plan) run.follow in omega (arith, all))

own_follow : (plan : Plan) (who : Asker) (es : List Event) (x : World) → AreEvents plan x es → HasNone who es →
    answers_by who (fold (happens plan) x es).answers ≡ answers_by who x.answers
own_follow plan who [] x f none = refl
own_follow plan who (e ∷ es) x f none =
    own_follow plan who es (happens plan x e) f.1 none.1 ∙ own_other plan x e f.0 who none.0

-- while none of its events comes, a party has the same answers
pub own_stays : (plan : Plan) (who : Asker) (known later : List Event) → IsRun plan (known ++ later) →
    HasNone who later →
    answers_by who (world_after plan (known ++ later)).answers ≡ answers_by who (world_after plan known).answers
own_stays plan who known later run none =
    ap (λ (z : World). answers_by who z.answers) (after_both plan known later (opening_world plan))
    ∙ own_follow plan who later (world_after plan known)
    (follow_later plan known later (opening_world plan) run.follow) none

-- ---- what was told last

pub told_more : (answers : List Answer) (a : Answer) → last_told (answers ++ a ∷ []) ≡ Some a.told
told_more [] a = refl
told_more (b ∷ []) a = refl
told_more (b ∷ c ∷ answers) a = told_more (c ∷ answers) a

-- ---- the course of a call is looked at by none of its steps

module _ (plan : Plan) (q : ℕ) (now : SeatNow) (call : Call) where
  pub deed_clean : (step : Step) → deed_of plan q (clean now) call step ≡ deed_of plan q now call step
  deed_clean S.Scans = refl
  deed_clean (S.LoadWord turn) = refl
  deed_clean (S.LoadRow turn old words) = refl
  deed_clean (S.CheckWord turn old words) = refl
  deed_clean (S.LoadPending t) = refl
  deed_clean (S.LoadAnnounced t found) = refl
  deed_clean (S.LoadOp t found announced words) = refl
  deed_clean (S.StoreRow t found i) = refl
  deed_clean (S.Exchange t found) = refl
  deed_clean S.RaisePending = refl
  deed_clean (S.StoreOp i) = refl
  deed_clean S.Announce = refl
  deed_clean S.StoreWant = refl
  deed_clean S.StoreAsking = refl
  deed_clean S.HeldWord = refl
  deed_clean (S.TakeHold old) = refl
  deed_clean (S.HeldHead row) = refl
  deed_clean (S.HeldEntry row at left) = refl
  deed_clean (S.HeldReply row at) = refl
  deed_clean (S.GiveBack reply) = refl
  deed_clean (S.Over ending) = refl
  deed_clean (S.LowerPending ending) = refl
  deed_clean S.Stuck = refl

  fate_clean : (step : Step) (word : ℕ) → fate plan q (clean now) call step word ≡ fate plan q now call
      step word
  fate_clean S.Scans word = refl
  fate_clean (S.LoadWord turn) word = refl
  fate_clean (S.LoadRow turn old words) word = refl
  fate_clean (S.CheckWord turn old words) word = refl
  fate_clean (S.LoadPending t) word = refl
  fate_clean (S.LoadAnnounced t found) word = refl
  fate_clean (S.LoadOp t found announced words) word = refl
  fate_clean (S.StoreRow t found i) word = refl
  fate_clean (S.Exchange t found) word = refl
  fate_clean S.RaisePending word = refl
  fate_clean (S.StoreOp i) word = refl
  fate_clean S.Announce word = refl
  fate_clean S.StoreWant word = refl
  fate_clean S.StoreAsking word = refl
  fate_clean S.HeldWord word = refl
  fate_clean (S.TakeHold old) word = refl
  fate_clean (S.HeldHead row) word = refl
  fate_clean (S.HeldEntry row at left) word = refl
  fate_clean (S.HeldReply row at) word = refl
  fate_clean (S.GiveBack reply) word = refl
  fate_clean (S.Over ending) word = refl
  fate_clean (S.LowerPending ending) word = refl
  fate_clean S.Stuck word = refl

  scanned_clean : (f : ScanFate) → scanned (clean now) f ≡ clean (scanned now f)
  scanned_clean (ScansOn scan) = refl
  scanned_clean (Scanned left held) = refl

  either_clean : (c : Bool) (a b : SeatNow) → cond c (clean a) (clean b) ≡ clean (cond c a b)
  either_clean true a b = refl
  either_clean false a b = refl

  own_clean : (step : Step) (word : ℕ) →
      own_after plan q (clean now) call step word ≡ clean (own_after plan q now call step word)
  own_clean S.Scans word = scanned_clean (scan_fate_of plan q now.scan word)
  own_clean (S.LoadWord turn) word = refl
  own_clean (S.LoadRow turn old words) word = refl
  own_clean (S.CheckWord turn old words) word = refl
  own_clean (S.LoadPending t) word = refl
  own_clean (S.LoadAnnounced t found) word = refl
  own_clean (S.LoadOp t found announced words) word = refl
  own_clean (S.StoreRow t found i) word = refl
  own_clean (S.Exchange t found) word = either_clean (word == t.word) (exchanged now (row_in plan t.word)) now
  own_clean S.RaisePending word = refl
  own_clean (S.StoreOp i) word = refl
  own_clean S.Announce word = refl
  own_clean S.StoreWant word = refl
  own_clean S.StoreAsking word = refl
  own_clean S.HeldWord word = refl
  own_clean (S.TakeHold old) word = refl
  own_clean (S.HeldHead row) word = refl
  own_clean (S.HeldEntry row at left) word = refl
  own_clean (S.HeldReply row at) word = refl
  own_clean (S.GiveBack reply) word = refl
  own_clean (S.Over ending) word = refl
  own_clean (S.LowerPending ending) word = refl
  own_clean S.Stuck word = refl

  scanned_course : (f : ScanFate) → (scanned now f).course ≡ now.course
  scanned_course (ScansOn scan) = refl
  scanned_course (Scanned left held) = refl

  either_course : (c : Bool) (a b : SeatNow) → a.course ≡ now.course → b.course ≡ now.course →
      (cond c a b).course ≡ now.course
  either_course true a b ea eb = ea
  either_course false a b ea eb = eb

  -- and none changes it
  pub own_course : (step : Step) (word : ℕ) → (own_after plan q now call step word).course ≡ now.course
  own_course S.Scans word = scanned_course (scan_fate_of plan q now.scan word)
  own_course (S.LoadWord turn) word = refl
  own_course (S.LoadRow turn old words) word = refl
  own_course (S.CheckWord turn old words) word = refl
  own_course (S.LoadPending t) word = refl
  own_course (S.LoadAnnounced t found) word = refl
  own_course (S.LoadOp t found announced words) word = refl
  own_course (S.StoreRow t found i) word = refl
  own_course (S.Exchange t found) word =
      either_course (word == t.word) (exchanged now (row_in plan t.word)) now refl refl
  own_course S.RaisePending word = refl
  own_course (S.StoreOp i) word = refl
  own_course S.Announce word = refl
  own_course S.StoreWant word = refl
  own_course S.StoreAsking word = refl
  own_course S.HeldWord word = refl
  own_course (S.TakeHold old) word = refl
  own_course (S.HeldHead row) word = refl
  own_course (S.HeldEntry row at left) word = refl
  own_course (S.HeldReply row at) word = refl
  own_course (S.GiveBack reply) word = refl
  own_course (S.Over ending) word = refl
  own_course (S.LowerPending ending) word = refl
  own_course S.Stuck word = refl

begins_clean : (plan : Plan) (q : ℕ) (free : List ℕ) (now : SeatNow) →
    scan_begins plan q free (clean now) ≡ clean (scan_begins plan q free now)
begins_clean plan q (row ∷ free) now = refl
begins_clean plan q [] now = go (seats_from plan q 0 now.kept [])
  where
    go : (f : ScanFate) → scanned (record (clean now) { kept = [] }) f ≡ clean (scanned (record now { kept = [] }) f)
    go (ScansOn scan) = refl
    go (Scanned left held) = refl

-- ---- a seat's own event

module _ (plan : Plan) (x : World) (q : ℕ) (long : q < length x.seats) where
  abbrev now : SeatNow
  now = seat_in x q

  abbrev g : Going
  g = going_in plan (BySeat q) x

  -- a seat as the calls see it
  abbrev seen : SeatNow → List Answer → Going
  seen then answers = record {
    plan = plan;
    holds = true;
    seat = q;
    now = clean then;
    told = told_at then.stand answers;
  }

  seen_there : (store : W.Store) (then : SeatNow) (answers : List Answer) (updates : List MadeBySeat) →
      going_in plan (BySeat q) (ticked (with_seat x q store then answers updates)) ≡ seen then answers
  seen_there store then answers updates = ap (λ (s : SeatNow). seen s answers) (get_or-set_same x.seats q then
      nobody long)

  -- an update goes on
  update_seen : (own : SeatNow) (call : Call) (course : Course) (next : Fate) →
      seen (seat_after own call next) (answers_after x q call course next)
      ≡ record {
        plan = plan;
        holds = true;
        seat = q;
        now = clean (seat_after (clean own) call next);
        told = told_by
            next None;
      }
  update_seen own call course (On step) = refl
  update_seen own call course (Ends reply) = λ i. record {
    plan = plan;
    holds = true;
    seat = q;
    now = clean (seat_after (clean own) call (Ends reply));
    told = told_more x.answers (record {
      by = BySeat q;
      asked = Called call;
      told = Replied reply;
      began = course.began;
      ended = x.clock + 1;
      steps = course.steps;
    }) i;
  }
  update_seen own call course Spends = λ i. record {
    plan = plan;
    holds = true;
    seat = q;
    now = clean (seat_after (clean own) call Spends);
    told = told_more x.answers (record {
      by = BySeat q;
      asked = Called call;
      told = Spent;
      began = course.began;
      ended = x.clock + 1;
      steps = course.steps;
    }) i;
  }
  update_seen own call course Refuses = λ i. record {
    plan = plan;
    holds = true;
    seat = q;
    now = clean (seat_after (clean own) call Refuses);
    told = told_more x.answers (record {
      by = BySeat q;
      asked = Called call;
      told = Refused;
      began = course.began;
      ended = x.clock + 1;
      steps = course.steps;
    }) i;
  }

  update_goes : (call : Call) (step : Step) → now.stand ≡ S.Goes call step →
      going_in plan (BySeat q) (ticked (goes plan x q now call step))
      ≡ goes_at g (S.Goes call step) (found_by (deed_at g (S.Goes call step)) x.store)
  update_goes call step stood =
      let word = found_by (deed_of plan q now call step) x.store in
      let own = own_after plan q now call step word in
      let next = fate plan q now call step word in
      let none : g.told ≡ None = ap (λ (s : Stand). told_at s x.answers) stood in
      seen_there (store_after (deed_of plan q now call step) x.store) (seat_after own call next)
      (answers_after x q call (stepped now.course) next)
      (x.made ++ made_by_step plan q call step word)
      ∙ update_seen own call (stepped now.course) next
      ∙ sym (λ i. record {
        plan = plan;
        holds = true;
        seat = q;
        now = clean (seat_after (own_clean plan q now call step word i) call (fate_clean plan q now call step word i));
        told = told_by (fate_clean plan q now call step word i) (none i);
      })
      ∙ sym (ap (λ (d : Deed). goes_at g (S.Goes call step) (found_by d x.store)) (deed_clean plan q now call step))

  -- a look goes on
  look_seen : (aim : Aim) (was : Glance) (course : Course) (next : GlanceFate) → g.told ≡ None →
      seen (look_after now aim was next) (look_answers plan x q aim course next) ≡ after_glance g aim was next
  look_seen aim was course (Looks glance) none = λ i. record {
    plan = plan;
    holds = true;
    seat = q;
    now = clean (look_after now aim was (Looks glance));
    told = sym none i;
  }
  look_seen aim was course (Shows items) none = λ i. record {
    plan = plan;
    holds = true;
    seat = q;
    now = clean (look_after now aim was (Shows items));
    told = told_more x.answers (record {
      by = BySeat q;
      asked = asked_by_aim aim;
      told = told_by_items plan aim items;
      began = course.began;
      ended = x.clock + 1;
      steps = course.steps;
    }) i;
  }
  look_seen aim was course Disturbed none = λ i. record {
    plan = plan;
    holds = true;
    seat = q;
    now = clean (look_after now aim was Disturbed);
    told = sym none i;
  }

  look_goes : (aim : Aim) (glance : Glance) → now.stand ≡ S.Glances aim glance →
      going_in plan (BySeat q) (ticked (glances plan x q now aim glance))
      ≡ goes_at g (S.Glances aim glance) (found_by (deed_at g (S.Glances aim glance)) x.store)
  look_goes aim glance stood =
      let deed = glance_deed plan q now.time aim glance in
      let next = glance_fate plan now.time aim glance (found_by deed x.store) in
      seen_there (store_after deed x.store) (look_after now aim glance next)
      (look_answers plan x q aim (stepped now.course) next) x.made
      ∙ look_seen aim glance (stepped now.course) next (ap (λ (s : Stand). told_at s x.answers) stood)

  -- so does each step
  pub step_goes : (stand : Stand) → now.stand ≡ stand → IsFlying plan q stand →
      going_in plan (BySeat q) (ticked (goes_on plan x q now stand)) ≡ goes_at g stand (found_by (deed_at g stand)
      x.store)
  step_goes S.Idle e f = absurd f
  step_goes (S.Goes call step) e f = update_goes call step e
  step_goes (S.Glances aim glance) e f = look_goes aim glance e

  pub step_store : (stand : Stand) → IsFlying plan q stand →
      (ticked (goes_on plan x q now stand)).store ≡ store_after (deed_at g stand) x.store
  step_store S.Idle f = absurd f
  step_store (S.Goes call step) f = ap (λ (d : Deed). store_after d x.store) (sym (deed_clean plan q now call step))
  step_store (S.Glances aim glance) f = refl

  -- ---- its begin

  first_seen : (taken : SeatNow) (call : Call) (course : Course) (next : Fate) →
      seen (record taken { stand = stand_at call next; course = course }) (answers_after x q call course next)
      ≡ record {
        plan = plan;
        holds = true;
        seat = q;
        now = clean (record (clean taken) { stand = stand_at call next });
        told = told_by next None;
      }
  first_seen taken call course (On step) = refl
  first_seen taken call course (Ends reply) = λ i. record {
    plan = plan;
    holds = true;
    seat = q;
    now = clean (record taken { stand = S.Idle });
    told = told_more x.answers (record {
      by = BySeat q;
      asked = Called call;
      told = Replied reply;
      began = course.began;
      ended = x.clock + 1;
      steps = course.steps;
    }) i;
  }
  first_seen taken call course Spends = λ i. record {
    plan = plan;
    holds = true;
    seat = q;
    now = clean (record taken { stand = S.Idle });
    told = told_more x.answers (record {
      by = BySeat q;
      asked = Called call;
      told = Spent;
      began = course.began;
      ended = x.clock + 1;
      steps = course.steps;
    }) i;
  }
  first_seen taken call course Refuses = λ i. record {
    plan = plan;
    holds = true;
    seat = q;
    now = clean (record taken { stand = S.Idle });
    told = told_more x.answers (record {
      by = BySeat q;
      asked = Called call;
      told = Refused;
      began = course.began;
      ended = x.clock + 1;
      steps = course.steps;
    }) i;
  }

  pub update_begun : (call : Call) → going_in plan (BySeat q) (ticked (update_begins plan x q now call))
      ≡ begun_update g call
  update_begun call =
      let taken = scan_begins plan q now.free now in
      let next = first_fate taken.free taken.scan in
      seen_there x.store (record taken { stand = stand_at call next; course = course_from x.clock })
      (answers_after x q call (course_from x.clock) next) x.made
      ∙ first_seen taken call (course_from x.clock) next
      ∙ sym (λ i. record {
        plan = plan;
        holds = true;
        seat = q;
        now = clean (record (begins_clean plan q now.free now i) {
          stand = stand_at call
              (first_fate (begins_clean plan q now.free now i).free (begins_clean plan q now.free now i).scan);
        });
        told = told_by
            (first_fate (begins_clean plan q now.free now i).free (begins_clean plan q now.free now i).scan) None;
      })

  pub look_begun : (aim : Aim) → going_in plan (BySeat q) (ticked (look_begins x q now aim)) ≡ begun_look g aim
      LOOK_TRIES
  look_begun aim = seen_there x.store
      (record now { stand = S.Glances aim (S.GlanceWord (LOOK_TRIES - 1)); course = course_from x.clock }) x.answers
      x.made

-- ---- a reader's own event

module _ (plan : Plan) (x : World) (r : ℕ) where
  abbrev peeking : ReaderNow
  peeking = x.readers r

  abbrev gr : Going
  gr = going_in plan (ByReader r) x

  abbrev peeked : ReaderNow → List Answer → Going
  peeked then answers = record {
    plan = plan;
    holds = false;
    seat = 0;
    now = clean (as_seat then);
    told = told_at (stand_of then.stand) answers;
  }

  peeked_there : (then : ReaderNow) (answers : List Answer) →
      going_in plan (ByReader r) (ticked (with_reader x r then answers)) ≡ peeked then answers
  peeked_there then answers = ap (λ (s : ReaderNow). peeked s answers) (put_same x.readers r then)

  -- a reader never asks for a hold
  time_none : (was : Glance) → NearPeek plan was → time_after 0 was ≡ 0
  time_none (S.GlanceWord left) t = refl
  time_none (S.GlanceCount source) t = refl
  time_none (S.GlanceItem source scan) t = refl
  time_none (S.GlanceCheck left word kept) t = refl
  time_none S.GlanceWant t = refl
  time_none S.GlanceAsking t = absurd t
  time_none S.GlanceHeld t = refl
  time_none (S.GlanceTake word) t = refl
  time_none (S.GlanceBack kept) t = refl

  look_peeked : (aim : Aim) (was : Glance) (course : Course) (next : GlanceFate) → NearPeek plan was →
      gr.told ≡ None →
      peeked (peek_after peeking aim next) (peek_answers plan x r aim course next)
      ≡ after_glance gr aim was next
  look_peeked aim was course (Looks glance) t none = λ i. record {
    plan = plan;
    holds = false;
    seat = 0;
    now = record (clean (as_seat peeking)) { time = sym (time_none was t) i; stand = S.Glances aim glance };
    told = sym none i;
  }
  look_peeked aim was course (Shows items) t none = λ i. record {
    plan = plan;
    holds = false;
    seat = 0;
    now = record (clean (as_seat peeking)) { stand = S.Idle };
    told = told_more x.answers (record {
      by = ByReader r;
      asked = asked_by_aim aim;
      told = told_by_items plan aim items;
      began = course.began;
      ended = x.clock + 1;
      steps = course.steps;
    }) i;
  }
  look_peeked aim was course Disturbed t none = λ i. record {
    plan = plan;
    holds = false;
    seat = 0;
    now = record (clean (as_seat peeking)) { stand = S.Idle };
    told = told_more x.answers (record {
      by = ByReader r;
      asked = asked_by_aim aim;
      told = Again;
      began = course.began;
      ended = x.clock + 1;
      steps = course.steps;
    }) i;
  }

  -- its step
  pub peek_goes : (stand : Peeking) → peeking.stand ≡ stand → (aim : Aim) (glance : Glance) →
      stand ≡ S.Peeks aim glance → NearPeek plan glance →
      going_in plan (ByReader r) (ticked (peeks plan x r peeking aim glance))
      ≡ goes_at gr (S.Glances aim glance) (found_by (deed_at gr (S.Glances aim glance)) x.store)
  peek_goes stand e aim glance is t =
      let next = glance_fate plan 0 aim glance (found_by (glance_deed plan 0 0 aim glance) x.store) in
      peeked_there (peek_after peeking aim next)
      (peek_answers plan x r aim (stepped peeking.course) next)
      ∙ look_peeked aim glance (stepped peeking.course) next t
      (ap (λ (s : Peeking). told_at (stand_of s) x.answers) (e ∙ is))

  -- and its begin
  pub peek_begun : (aim : Aim) (tries : ℕ) →
      going_in plan (ByReader r) (ticked (peek_acts plan x r peeking (Open aim tries))) ≡ begun_look gr aim tries
  peek_begun aim tries = peeked_there
      (record { stand = S.Peeks aim (S.GlanceWord (tries - 1)); course = course_from x.clock }) x.answers
