-- All updates that were made by now have one order, which is that of the ghost: each with the reply of the plain map,
-- and no others than the seats were asked for.
use Rattle.std.proofs.Common.{◌≡◌, ℕ, ◌<◌, inl, inr, Bool, true, false, cond, List, [], ◌∷◌, ◌++◌, map, refl, sym, ap, ◌∙◌, subst, arith, append-nil}
use Rattle.std.specs.Prelude.{◌==◌, All, Some, None, filter}
use Rattle.std.specs.List.{cons_option}
use Rattle.std.proofs.lemmas.List.{map-append}
use Rattle.std.proofs.lemmas.List.Elements.{All-nil, All-cons}
use Rattle.list_laws.proofs.Lists.{In}
use Rattle.plain_map.specs.declared.rules.Rules.{Rules}
use Rattle.plain_map.specs.declared.calls.Reply.{Reply}
use Rattle.plain_map.specs.declared.records.Record.{Record}
use Rattle.plain_map.specs.declared.records.Pending.{Pending}
use Rattle.plain_map.specs.declared.keys.Pair.{Pair}
use Rattle.plain_map.specs.PlainObject.{Sessions, reply_of, map_after}
use Rattle.plain_map.specs.History.{Placed, answered, pending, seat_of, call_in, HasReply, Legal, sessions_after}
use Rattle.bucket_states.specs.Parts.{HoldsPart}
use Rattle.table_model.specs.declared.events.Event.{Event}
use Rattle.table_model.specs.Setup.{Setup, settings_of, rules_of, seats_of}
use Rattle.table_model.specs.SeatStates as States
use Rattle.table_model.specs.SeatStates.{SeatState}
use Rattle.table_model.specs.Phases.{Phase}
use Rattle.table_model.specs.Order.{took_effect}
use Rattle.table_model.specs.Closed.{begun_by, sessions_with}
use Rattle.table_model.specs.Histories.{closed}
use Rattle.order_laws.proofs.Promised.{order_is_legal}
use Rattle.lasting_model.specs.Plans.{Plan, ample}
use Rattle.lasting_model.specs.Laws.{pairs_in}
use Rattle.lasting_model.specs.Steps as S
use Rattle.lasting_model.specs.Steps.{Stand, Update, Step}
use Rattle.lasting_model.specs.Worlds.{Lasting, world_after, seat_in}
use Rattle.lasting_laws.specs.Promises.{records_in, order_in}
use Rattle.map_laws.specs.ByKey.{Made, LegalMade, after_made}
use Rattle.lasting_laws.specs.Orders.{updates_by, MadeBySeat, made_by, all_made, IsUnderWay, AreAsked, UpdatesHaveOneOrder}
use Rattle.lasting_laws.proofs.Shown.{View, Begins, InStep, Late, Keeps, Seated, view, IsShown}
use Rattle.lasting_laws.proofs.Ghost.{seats_are}
use Rattle.lasting_laws.proofs.Ordered.{class_then}
use Rattle.lasting_laws.proofs.InTurn.{is_of}
use Rattle.lasting_laws.proofs.SeatOrder.{open_by, seats_inside, seat_order}
use Rattle.lasting_laws.proofs.Mirrors.{made_of, all_made_in, Mirrors, Mirrored, mirrored_at}

-- ---- an order with its replies

-- a placed call was made so
abbrev IsOf : Placed → Made → Type 0
IsOf (answered r) made = made ≡ made_of r
IsOf (pending u) made = made.0 ≡ u.call

-- these were made so, one by one
abbrev AreOf : List Placed → List Made → Type 0
AreOf [] [] = Unit {0}
AreOf [] (made ∷ more) = ⊥
AreOf (c ∷ cs) [] = ⊥
AreOf (c ∷ cs) (made ∷ more) = IsOf c made × AreOf cs more

-- those of records are the first
record Split (rs : List Record) (us : List Pending) (made : List Made) : Type 0 where
  pub more : List Made
  pub are : made ≡ map made_of rs ++ more
  pub rest : AreOf (map pending us) more

-- the first of them are those records
split : (rs : List Record) (us : List Pending) (made : List Made) →
    AreOf (map answered rs ++ map pending us) made → Split rs us made
split [] us made k = record { more = made; are = refl; rest = k }
split (r ∷ rs) us [] k = absurd k
split (r ∷ rs) us (m ∷ made) k =
    let z = split rs us made k.1 in
    record {
      more = z.more;
      are = ap (λ (l : List Made). m ∷ l) z.are ∙ ap (λ (h : Made). h ∷ (map made_of rs ++ z.more)) k.0;
      rest = z.rest;
    }

module _ (rules : Rules) where
  -- each call of an order with the reply of the plain map
  abbrev made_from : List Placed → Sessions → List MadeBySeat
  made_from [] sessions = []
  made_from (c ∷ cs) sessions =
      (seat_of c, (call_in c, reply_of rules sessions (call_in c)))
      ∷ made_from cs (map_after rules sessions (call_in c))

  -- they are legal
  legal_from : (cs : List Placed) (sessions : Sessions) →
      LegalMade rules sessions (all_made (made_from cs sessions))
  legal_from [] sessions = tt
  legal_from (c ∷ cs) sessions = (refl, legal_from cs (map_after rules sessions (call_in c)))

  -- and leave what the order leaves
  after_from : (cs : List Placed) (sessions : Sessions) →
      after_made rules sessions (all_made (made_from cs sessions)) ≡ sessions_after rules sessions cs
  after_from [] sessions = refl
  after_from (c ∷ cs) sessions = after_from cs (map_after rules sessions (call_in c))

  -- each is of its call
  is_of_call : (c : Placed) (sessions : Sessions) → HasReply rules sessions c →
      IsOf c (call_in c, reply_of rules sessions (call_in c))
  is_of_call (answered r) sessions h = ap (λ (t : Reply). (r.call, t)) (sym h)
  is_of_call (pending u) sessions h = refl

  -- those of a seat are of its calls
  are_of : (cs : List Placed) (sessions : Sessions) (q : ℕ) → Legal rules sessions cs →
      AreOf (filter (is_of q) cs) (made_by q (made_from cs sessions))
  are_of [] sessions q legal = tt
  are_of (c ∷ cs) sessions q legal =
      go (seat_of c == q) (are_of cs (map_after rules sessions (call_in c)) q legal.1)
    where
      made : Made
      made = (call_in c, reply_of rules sessions (call_in c))

      later : List Made
      later = made_by q (made_from cs (map_after rules sessions (call_in c)))

      go : (b : Bool) → AreOf (filter (is_of q) cs) later →
          AreOf (cond b (c ∷ filter (is_of q) cs) (filter (is_of q) cs))
          (cons_option (cond b (Some made) None) later)
      go true rest = (is_of_call c sessions legal.0, rest)
      go false rest = rest

  -- each is by a seat that there is
  seats_from : (cs : List Placed) (sessions : Sessions) (k : ℕ) → ((c : Placed) → In c cs → seat_of c < k) →
      All (λ (one : MadeBySeat). one.0 < k) (made_from cs sessions)
  seats_from [] sessions k inside = All-nil (λ (one : MadeBySeat). one.0 < k)
  seats_from (c ∷ cs) sessions k inside =
      All-cons (λ (one : MadeBySeat). one.0 < k) (seat_of c, (call_in c, reply_of rules sessions (call_in c)))
      (made_from cs (map_after rules sessions (call_in c))) (inside c (inl refl))
      (seats_from cs (map_after rules sessions (call_in c)) k (λ d i. inside d (inr i)))

-- ---- where the ghost of an update stands

-- it has not begun, is in flight, or has ended
data Stage (plan : Plan) (v : View) (q : ℕ) (u : Update) : Type 0 where
  Before : Begins plan v q → Stage plan v q u
  During : (phase : Phase) → InStep plan v q u phase → Stage plan v q u
  Past : Late plan v q u → Stage plan v q u

-- by the step of the update
stage_of : (plan : Plan) (v : View) (q : ℕ) (u : Update) (step : Step) → Keeps plan v q u step → Stage plan v q u
stage_of plan v q u (S.Sweeps rows) k = Before k
stage_of plan v q u (S.StoreOp i) k = Before k.0
stage_of plan v q u S.Announce k = Before k
stage_of plan v q u (S.LoadWord turn) k = elim k.1 [ inl z ↦ During _ z.3 | inr l ↦ Past l ]
stage_of plan v q u (S.LoadRow turn word words) k = elim k.looked [ inl l ↦ During _ l.in_step | inr l ↦ Past l.0 ]
stage_of plan v q u (S.CheckRow turn word words) k = elim k.looked [ inl l ↦ During _ l.in_step | inr l ↦ Past l.0 ]
stage_of plan v q u (S.LoadAnnounced t found) k = During _ k.in_step
stage_of plan v q u (S.LoadOp t found announced words) k = During _ k.reading.in_step
stage_of plan v q u (S.StoreRow t found i) k = During _ k.in_step
stage_of plan v q u (S.Exchange t found) k = During _ k.in_step
stage_of plan v q u S.StoreWant k = Past k
stage_of plan v q u S.StoreAsking k = Past k.0
stage_of plan v q u S.HeldWord k = Past k.late
stage_of plan v q u (S.TakeHold word) k = Past k.late
stage_of plan v q u (S.HeldNumber row) k = Past k.late
stage_of plan v q u (S.HeldReply row) k = Past k.late
stage_of plan v q u S.Stuck k = absurd k

-- ---- one seat

-- an idle seat of the ghost has none under way
none_open : (took : Pending → Bool) (q : ℕ) (stand : States.Stand) (more : List Made) → stand ≡ States.Idle →
    AreOf (map pending (filter took (begun_by q stand))) more → more ≡ []
none_open took q stand more idle k =
    go more (subst (λ s. AreOf (map pending (filter took (begun_by q s))) more) idle k)
  where
    go : (ms : List Made) → AreOf [] ms → ms ≡ []
    go [] k = refl
    go (m ∷ ms) k = absurd k

-- and one in flight has at most one
one_open : (took : Pending → Bool) (q : ℕ) (flight : States.Flight) (phase : Phase) (u : Update) (step : Step)
    (more : List Made) → flight.call ≡ u.call →
    AreOf (map pending (filter took (begun_by q (States.InFlight flight phase)))) more →
    IsUnderWay (S.Goes u step) more
one_open took q flight phase u step more call_is k = go (took (States.pending_of q flight)) more k
  where
    go : (b : Bool) (ms : List Made) → AreOf (map pending (cond b (States.pending_of q flight ∷ []) [])) ms →
        IsUnderWay (S.Goes u step) ms
    go b [] k = tt
    go true (m ∷ []) k = k.0 ∙ call_is
    go true (m ∷ n ∷ ms) k = absurd k.1
    go false (m ∷ ms) k = absurd k

module _ (plan : Plan) (x : Lasting) (m : Mirrored plan x) (q : ℕ) (inside : q < plan.settings.seats) where
  abbrev setup : Setup
  setup = ample plan

  abbrev shown : IsShown plan x
  shown = m.shown

  abbrev ghost : List Event
  ghost = shown.moment.events

  abbrev v : View
  v = view plan x shown.moment shown.word_at shown.cut shown.tied

  abbrev took : Pending → Bool
  took = took_effect setup.shape (closed setup ghost).words

  abbrev records : List Record
  records = records_in setup ghost q

  -- what was made by the seat are its records, and what is open
  asked_as : (made : List MadeBySeat) (more : List Made) → made_by q made ≡ map made_of records ++ more →
      AreOf (map pending (filter took (begun_by q (v.g q).stand))) more → AreAsked x made q
  asked_as made more are opened = by (seat_in x q).stand refl (shown.shows.seats q inside) (m.all q inside)
    where
      -- the seat waits: all are answered
      quietly : (stand : Stand) → (seat_in x q).stand ≡ stand → (v.g q).stand ≡ States.Idle →
          map made_of records ≡ updates_by q x.answers → AreAsked x made q
      quietly stand at idle same = record {
        more = [];
        are = are ∙ ap (λ (ms : List Made). map made_of records ++ ms) (none_open took q (v.g q).stand more idle opened)
            ∙ ap (λ (ms : List Made). ms ++ []) same;
        under_way = tt;
      }

      flying : (u : Update) (step : Step) → (seat_in x q).stand ≡ S.Goes u step → Stage plan v q u →
          all_made_in setup (shown.cut (seat_in x q).course.began) q ≡ updates_by q x.answers → AreAsked x made q
      flying u step at (Before b) same =
          quietly (S.Goes u step) at b.waits.idle (ap (map made_of) b.past_is ∙ same)
      flying u step at (During phase k) same = record {
        more = more;
        are = are ∙ ap (λ (ms : List Made). ms ++ more)
            (ap (map made_of) (ap (λ (s : SeatState). s.account.records) k.state ∙ k.past_is) ∙ same);
        under_way = subst (λ (s : Stand). IsUnderWay s more) (sym at)
            (one_open took q k.flight phase u step more k.call_is
            (subst (λ (s : SeatState). AreOf (map pending (filter took (begun_by q s.stand))) more) k.state opened));
      }
      flying u step at (Past l) same = record {
        more = made_of l.made ∷ [];
        are = are ∙ ap (λ (ms : List Made). map made_of records ++ ms)
            (none_open took q (v.g q).stand more l.idle opened)
            ∙ append-nil (map made_of records) ∙ ap (map made_of) l.records_are
            ∙ map-append made_of (v.past q q) (l.made ∷ [])
            ∙ ap (λ (ms : List Made). ms ++ made_of l.made ∷ []) same;
        under_way = subst (λ (s : Stand). IsUnderWay s (made_of l.made ∷ [])) (sym at) l.call_is;
      }

      by : (stand : Stand) → (seat_in x q).stand ≡ stand → Seated plan v q (seat_in x q).stand →
          Mirrors plan x shown q (seat_in x q).stand → AreAsked x made q
      by stand at seated mirrors = go stand at (subst (Seated plan v q) at seated)
          (subst (Mirrors plan x shown q) at mirrors)
        where
          go : (s : Stand) → (seat_in x q).stand ≡ s → Seated plan v q s → Mirrors plan x shown q s →
              AreAsked x made q
          go S.Idle e k same = quietly S.Idle e k.idle same
          go (S.Glances aim glance) e k same = quietly (S.Glances aim glance) e k.idle same
          go (S.Goes u step) e k same = flying u step e (stage_of plan v q u step k.1) same

-- ---- THE RESULT

-- the ghost begins with the pairs of the plan
first_is : (plan : Plan) → (ample plan).first ≡ plan.first
unfolding ample
first_is plan = refl

pub updates_have_one_order : UpdatesHaveOneOrder
updates_have_one_order plan events run =
    record {
      made = made;
      legal = legal_from rules order begun;
      asked = asked;
      seats = seats_from rules order begun plan.settings.seats
          (λ c i. (let less = seats_inside setup ghost m.shown.moment.run c i in let e = seats_are plan in
          omega (arith, less, e)));
      held = λ b less. subst
          (HoldsPart rules b (settings_of setup).depth (pairs_in plan x b))
          (ap (λ (pairs : List Pair). sessions_after rules (sessions_with rules pairs) order) (first_is plan)
          ∙ sym (after_from rules order begun))
          (class_then plan run.opened x m.shown b less);
    }
  where
    x : Lasting
    x = world_after plan events

    m : Mirrored plan (world_after plan events)
    m = mirrored_at plan events run

    setup : Setup
    setup = ample plan

    rules : Rules
    rules = rules_of (ample plan)

    ghost : List Event
    ghost = m.shown.moment.events

    order : List Placed
    order = order_in (ample plan) m.shown.moment.events

    begun : Sessions
    begun = sessions_with (rules_of (ample plan)) plan.first

    made : List MadeBySeat
    made = made_from (rules_of (ample plan)) order begun

    legal : Legal rules begun order
    legal = subst (λ (pairs : List Pair). Legal rules (sessions_with rules pairs) order) (first_is plan)
        (order_is_legal setup ghost m.shown.moment.run)

    asked : (q : ℕ) → q < plan.settings.seats → AreAsked (world_after plan events) made q
    asked q inside =
        let inside_then : q < seats_of setup = (let e = seats_are plan in omega (arith, inside, e)) in
        let are = subst (λ (cs : List Placed). AreOf cs (made_by q made))
        (seat_order setup ghost m.shown.moment.run q inside_then) (are_of rules order begun q legal) in
        let z = split (records_in setup ghost q) (open_by setup ghost m.shown.moment.run q inside_then) (made_by q made)
        are in
        asked_as plan x m q inside made z.more z.are z.rest
