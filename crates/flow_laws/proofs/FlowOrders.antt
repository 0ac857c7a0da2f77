-- All calls of seats that are dealt their keys have one order: that of the updates, with each lookup set in behind the
-- calls of its key that stood before it.
use Rattle.std.proofs.Common.{◌≡◌, ℕ, ◌<◌, inl, inr, Bool, true, cond, true≢false, List, [], ◌∷◌, ◌++◌, refl, sym, ap, ◌∙◌, subst, append-nil, Option}
use Rattle.std.specs.Prelude.{◌==◌, flat_map}
use Rattle.std.specs.Option.{option_map_or}
use Rattle.std.specs.FinMap.{get}
use Rattle.std.proofs.lemmas.Bool.{eq-eqb, eqb-true}
use Rattle.std.proofs.lemmas.List.Elements.{filter-append}
use Rattle.list_laws.proofs.Lists.{In, in_both, in_filter, in_left, in_right, flat_map_append}
use Rattle.list_laws.proofs.Places.{in_all}
use Rattle.plain_map.specs.declared.keys.Key.{Key}
use Rattle.plain_map.specs.declared.calls.Call.{Call}
use Rattle.plain_map.specs.declared.calls.Call.TheVariants.{Lookup}
use Rattle.plain_map.specs.declared.calls.Reply.{Reply}
use Rattle.plain_map.specs.declared.calls.Reply.TheVariants.{Absent}
use Rattle.plain_map.specs.Calls.{key_in}
use Rattle.plain_map.specs.Keys.{Session}
use Rattle.plain_map.specs.PlainObject.{Sessions, found_in}
use Rattle.bucket_states.specs.Items.{reply_in}
use Rattle.bucket_states.specs.Parts.{HoldsPart}
use Rattle.table_model.specs.Setup.{settings_of}
use Rattle.map_laws.specs.ByKey.{Made, about, held_by, updates_in, after_made}
use Rattle.map_laws.proofs.ByKeyHeld.{keys_held}
use Rattle.map_laws.proofs.ByKeyLists.{about-updates_in}
use Rattle.map_laws.proofs.ByKeyLooks.{looks_can_be_set_in}
use Rattle.lasting_model.specs.Plans.{Plan, ample, bucket_for}
use Rattle.lasting_model.specs.Steps as S
use Rattle.lasting_model.specs.Steps.{OfKey, Stand, Step, Update}
use Rattle.lasting_model.specs.Goes.{Asked, Called, Told, Replied, Pairs, Again, Refused}
use Rattle.lasting_model.specs.Laws.{IsLook, IsOfMoment, pairs_in}
use Rattle.lasting_model.specs.Worlds.{Answer, Asker, BySeat, ByReader, Lasting, Event, AreEvents, IsRun, happens, opening_world, seat_in, world_after}
use Rattle.lasting_laws.specs.Orders.{AllAreIdle, HasOrder, IsUnderWay, MadeBySeat, all_made, answers_by, is_by, updates_by}
use Rattle.lasting_laws.specs.OneByOne.{HasJustMade, HasNoUpdate, IsLooking, updates_among}
use Rattle.lasting_laws.proofs.SeatLooks.{looks_are_of_moments}
use Rattle.lasting_laws.proofs.OneByOne.{looks_are_in_turn}
use Rattle.lasting_laws.proofs.OneOrder.{updates_have_one_order}
use Rattle.lasting_laws.proofs.Counted.{in_flight_is_answered}
use Rattle.lasting_laws.proofs.RestCounts.{answers_stay}
use Rattle.lasting_laws.proofs.FixedDepth.{prefix_is_class}
use Rattle.lasting_laws.proofs.PoolEvents.{bucket_small}
use Rattle.flow_laws.specs.FlowOrders.{AreAnswered, FlowsHaveOneOrder, HasFlowOrder, call_told, calls_by, dealt_to, first_in, rules_in}
use Rattle.flow_laws.proofs.CallLists.{IsToldAt, about_dealt, about_made, asked_there, held_by_updates, in_own, told_at, told_of, updates_of_answers, updates_of_seat}

-- a front of a run is a run
pub front_follows : (plan : Plan) (front back : List Event) (x : Lasting) → AreEvents plan x (front ++ back) →
    AreEvents plan x front
front_follows plan [] back x f = tt
front_follows plan (e ∷ front) back x f = (f.0, front_follows plan front back (happens plan x e) f.1)

pub front_runs : (plan : Plan) (front back : List Event) → IsRun plan (front ++ back) → IsRun plan front
front_runs plan front back run =
    record { opened = run.opened; follow = front_follows plan front back (opening_world plan) run.follow }

-- nothing is under way where no update is
pub none_under_way : (stand : Stand) (more : List Made) → HasNoUpdate stand → IsUnderWay stand more → more ≡ []
none_under_way stand [] none k = refl
none_under_way S.Idle (made ∷ more) none k = absurd k
none_under_way (S.Goes u step) (made ∷ more) none k = absurd none
none_under_way (S.Glances aim glance) (made ∷ more) none k = absurd k

-- what is under way is the update of the seat's stand
record IsOfStand (stand : Stand) (made : Made) : Type 0 where
  pub u : Update
  pub step : Step
  pub is : stand ≡ S.Goes u step
  pub call : made.0 ≡ u.call

under_way : (stand : Stand) (more : List Made) (made : Made) → IsUnderWay stand more → In made more →
    IsOfStand stand made
under_way stand [] made k i = elim i [ ]
under_way S.Idle (m ∷ more) made k i = absurd k
under_way (S.Goes u step) (m ∷ []) made k (inl e) =
    record { u = u; step = step; is = refl; call = ap (λ (x : Made). x.0) e ∙ k }
under_way (S.Goes u step) (m ∷ []) made k (inr i) = elim i [ ]
under_way (S.Goes u step) (m ∷ n ∷ more) made k i = absurd k
under_way (S.Glances aim glance) (m ∷ more) made k i = absurd k

-- the reply that was told
abbrev reply_told : Reply → Told → Reply
reply_told other (Replied reply) = reply
reply_told other (Pairs pairs) = other
reply_told other Again = other
reply_told other Refused = other

pub idle_calm : (stand : Stand) → stand ≡ S.Idle → HasNoUpdate stand
idle_calm stand e = subst HasNoUpdate (sym e) tt

module _ (plan : Plan) (events : List Event) (deals : Key → ℕ) (asked : List Made) (run : IsRun plan events)
    (rest : AllAreIdle plan (world_after plan events))
    (answered : AreAnswered plan deals (world_after plan events) asked) where
  abbrev answers_then : List Event → List Answer
  answers_then es = (world_after plan es).answers

  -- ---- at each moment each update is of its key's seat

  module _ (front back : List Event) (cut : events ≡ front ++ back) where
    pub whole : IsRun plan (front ++ back)
    whole = subst (IsRun plan) cut run

    pub front_run : IsRun plan front
    front_run = front_runs plan front back whole

    calls_grow : (seat : ℕ) (later : List Answer) →
        answers_then (front ++ back) ≡ answers_then front ++ later →
        calls_by seat (answers_then events) ≡ calls_by seat (answers_then front) ++ calls_by seat later
    calls_grow seat later grown =
        ap (λ (es : List Event). calls_by seat (answers_then es)) cut
        ∙ ap (calls_by seat) grown
        ∙ ap (flat_map told_of) (filter-append (λ (a : Answer). is_by seat a.by) (answers_then front) later)
        ∙ flat_map_append told_of (answers_by seat (answers_then front)) (answers_by seat later)

    -- what a seat was answered by then it was answered in the end
    calls_later : (seat : ℕ) → (later : List Made)
        × (calls_by seat (answers_then events) ≡ calls_by seat (answers_then front) ++ later)
    calls_later seat =
        let l = answers_stay plan front back whole in
        (calls_by seat l.0, calls_grow seat l.0 l.1)

    -- and it is dealt what it was answered
    of_seat : (seat : ℕ) → seat < plan.settings.seats → (made : Made) →
        In made (calls_by seat (answers_then events)) → deals (key_in made.0) ≡ seat
    of_seat seat inside made i = eqb-true (deals (key_in made.0)) seat
        (in_filter (λ (m : Made). deals (key_in m.0) == seat) asked made
        (subst (In made) (answered.answered seat inside) i)).1

    of_answered : (seat : ℕ) → seat < plan.settings.seats → (made : Made) →
        In made (updates_by seat (answers_then front)) → deals (key_in made.0) ≡ seat
    of_answered seat inside made i =
        let l = calls_later seat in
        of_seat seat inside made
        (subst (In made) (sym l.1) (in_left made (calls_by seat (answers_then front)) l.0
        (in_filter _ (calls_by seat (answers_then front)) made
        (subst (In made) (updates_of_seat seat (answers_then front)) i)).0))

    of_under_way : (seat : ℕ) → seat < plan.settings.seats → (made : Made) →
        IsOfStand (seat_in (world_after plan front) seat).stand made → deals (key_in made.0) ≡ seat
    of_under_way seat inside made k =
        let idle = subst (λ (es : List Event). (seat_in (world_after plan es) seat).stand ≡ S.Idle) cut
        (rest seat inside) in
        let f = in_flight_is_answered plan front back seat k.u k.step whole inside k.is idle in
        let told : told_of f.answer ≡ (k.u.call, f.reply) ∷ [] =
        (λ i. call_told (f.asked_is i) (f.told_is i)) in
        let among : In (k.u.call, f.reply) (calls_by seat f.later) =
        subst (λ (l : List Answer). In (k.u.call, f.reply) (flat_map told_of l)) (sym f.of_seat)
        (in_left (k.u.call, f.reply) (told_of f.answer) (flat_map told_of f.others)
        (subst (In (k.u.call, f.reply)) (sym told) (inl refl))) in
        ap (λ (c : Call). deals (key_in c)) k.call
        ∙ of_seat seat inside (k.u.call, f.reply)
        (subst (In (k.u.call, f.reply)) (sym (calls_grow seat f.later f.answers))
        (in_right (k.u.call, f.reply) (calls_by seat (answers_then front)) (calls_by seat f.later) among))

    abbrev pub then : HasOrder plan (world_after plan front)
    then = updates_have_one_order plan front front_run

    pub right : (one : MadeBySeat) → In one then.made → deals (key_in one.1.0) ≡ one.0
    right one i =
        let inside = in_all (λ (o : MadeBySeat). o.0 < plan.settings.seats) then.made one then.seats i in
        let k = then.asked one.0 inside in
        elim (in_both one.1 (updates_by one.0 (answers_then front)) k.more
        (subst (In one.1) k.are (in_own one then.made i))) [
          | inl j ↦ of_answered one.0 inside one.1 j
          | inr j ↦ of_under_way one.0 inside one.1
              (under_way (seat_in (world_after plan front) one.0).stand k.more one.1 k.under_way j)
        ]

    -- where its seat has no update under way, the updates of a key are those that the seat was answered
    updates_about : (key : Key) → HasNoUpdate (seat_in (world_after plan front) (deals key)).stand →
        about key (all_made then.made) ≡ about key (updates_by (deals key) (answers_then front))
    updates_about key none =
        let k = then.asked (deals key) (answered.inside key) in
        about_made deals key then.made right
        ∙ ap (about key) (k.are
        ∙ ap (λ (l : List Made). updates_by (deals key) (answers_then front) ++ l)
        (none_under_way (seat_in (world_after plan front) (deals key)).stand k.more none k.under_way)
        ∙ append-nil (updates_by (deals key) (answers_then front)))

  -- ---- in the end

  abbrev pub in_end : HasOrder plan (world_after plan events)
  in_end = then events [] (sym (append-nil events))

  updates_agree : (key : Key) → updates_in (about key asked) ≡ about key (all_made in_end.made)
  updates_agree key = sym (
      updates_about events [] (sym (append-nil events)) key
      (idle_calm (seat_in (world_after plan events) (deals key)).stand (rest (deals key) (answered.inside key)))
      ∙ ap (about key) (updates_of_seat (deals key) (answers_then events)
      ∙ ap updates_in (answered.answered (deals key) (answered.inside key)))
      ∙ about-updates_in key (dealt_to deals (deals key) asked)
      ∙ ap updates_in (about_dealt deals key asked))

  -- ---- a lookup

  module _ (front back : List Made) (key : Key) (reply : Reply) (cut : asked ≡ front ++ (Lookup key, reply) ∷ back)
    where
      abbrev seat : ℕ
      seat = deals key

      abbrev look : Made
      look = (Lookup key, reply)

      -- the calls of its seat before it
      dealt_before : dealt_to deals seat asked ≡ dealt_to deals seat front ++ look ∷ dealt_to deals seat back
      dealt_before = ap (dealt_to deals seat) cut
          ∙ filter-append (λ (m : Made). deals (key_in m.0) == seat) front (look ∷ back)
          ∙ ap (λ (b : Bool). dealt_to deals seat front ++ cond b (look ∷ dealt_to deals seat back)
          (dealt_to deals seat back)) (eq-eqb seat seat refl)

      abbrev there : IsToldAt (answers_by seat (answers_then events)) (dealt_to deals seat front) look
      there = told_at (answers_by seat (answers_then events)) (dealt_to deals seat front) (dealt_to deals seat back)
          look (answered.answered seat (answered.inside key) ∙ dealt_before)

      asks : (there.a.asked ≡ Called (Lookup key)) × (there.a.told ≡ Replied reply)
      asks = asked_there there.a.asked there.a.told look there.told

      is_answer : In there.a (answers_then events) × (is_by seat there.a.by ≡ true)
      is_answer = in_filter (λ (a : Answer). is_by seat a.by) (answers_then events) there.a
          (subst (In there.a) (sym there.is) (in_right there.a there.before (there.a ∷ there.after) (inl refl)))

      by_seat : (who : Asker) → is_by seat who ≡ true → who ≡ BySeat seat
      by_seat (BySeat other) e = ap BySeat (eqb-true other seat e)
      by_seat (ByReader reader) e = absurd (true≢false (sym e))

      -- the moment of which it tells
      moment : IsOfMoment plan events there.a (OfKey key)
      moment = subst (λ (what : Asked). IsLook plan events there.a (BySeat seat) what) asks.0
          (subst (λ (who : Asker). IsLook plan events there.a who there.a.asked) (by_seat there.a.by is_answer.1)
          (in_all (λ (a : Answer). IsLook plan events a a.by a.asked) (answers_then events) there.a
          (looks_are_of_moments plan events run) is_answer.0))

      abbrev just : HasJustMade plan moment.front seat there.before
      just = looks_are_in_turn plan events run seat there.before there.after there.a there.is
          (subst IsLooking (sym asks.0) tt) moment.front moment.back moment.cut moment.after moment.before

      -- what is held of the key then
      held_then : get (after_made (rules_in plan) (first_in plan) (all_made (then moment.front moment.back
          moment.cut).made)) key
          ≡ held_by (get (first_in plan) key) (about key front)
      held_then =
          let o = then moment.front moment.back moment.cut in
          keys_held (rules_in plan) (first_in plan) (all_made o.made) key o.legal
          ∙ ap (held_by (get (first_in plan) key))
          (updates_about moment.front moment.back moment.cut key just.none
          ∙ ap (about key) (updates_of_seat seat (answers_then moment.front))
          ∙ about-updates_in key (calls_by seat (answers_then moment.front)))
          ∙ (
          let before : updates_in (about key (calls_by seat (answers_then moment.front))) ≡ updates_in (about key front)
          =
          sym (about-updates_in key (calls_by seat (answers_then moment.front)))
          ∙ ap (about key) (sym (updates_of_seat seat (answers_then moment.front)) ∙ just_made
          ∙ updates_of_answers there.before ∙ ap updates_in there.front_is)
          ∙ about-updates_in key (dealt_to deals seat front)
          ∙ ap updates_in (about_dealt deals key front) in
          ap (held_by (get (first_in plan) key)) before
          )
          ∙ held_by_updates (get (first_in plan) key) (about key front)
        where
          just_made : updates_by seat (answers_then moment.front) ≡ updates_among there.before
          just_made = updates_of_seat seat (answers_then moment.front)
              ∙ sym (updates_of_answers (answers_by seat (answers_then moment.front))) ∙ just.made

      pub tells : reply ≡ option_map_or found_in (held_by (get (first_in plan) key) (about key front)) Absent
      unfolding reply_in
      tells =
          let o = then moment.front moment.back moment.cut in
          let part = o.held (bucket_for (ample plan) key) (bucket_small plan key) in
          let told : reply ≡ reply_in (rules_in plan)
          (pairs_in plan (world_after plan moment.front) (bucket_for (ample plan) key)) (Lookup key) =
          reply_same reply _ (sym asks.1 ∙ moment.is) in
          told ∙ ap (λ (h : Option Session). option_map_or found_in h Absent) (part.same key
          (prefix_is_class (ample plan) key) ∙ held_then)
        where
          reply_same : (r s : Reply) → Replied r ≡ Replied s → r ≡ s
          reply_same r s e = ap (reply_told r) e

  -- THE RESULT
  pub flow_order : HasFlowOrder plan (world_after plan events) asked
  flow_order =
      let set = looks_can_be_set_in (rules_in plan) (first_in plan) asked (all_made in_end.made) in_end.legal
      updates_agree tells in record {
        order = set.0;
        agrees = set.1.agrees;
        permuted = set.1.permuted;
        legal = set.1.legal;
        held = λ bucket inside. subst (λ (s : Sessions). HoldsPart (rules_in plan) bucket
            (settings_of (ample plan)).depth (pairs_in plan (world_after plan events) bucket) s)
            (sym set.1.leaves) (in_end.held bucket inside);
      }

pub flows_have_one_order : FlowsHaveOneOrder
flows_have_one_order plan events deals asked run rest answered = flow_order plan events deals asked run rest answered
