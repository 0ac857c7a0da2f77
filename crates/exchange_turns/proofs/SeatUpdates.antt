-- What each key's seat has made of the calls that are dealt to it, at each moment; and that a lookup tells what the
-- calls of its key before it leave.
use Rattle.std.proofs.Common.{◌≡◌, ℕ, ◌<◌, inl, Bool, true, cond, true≢false, List, [], ◌∷◌, ◌++◌, refl, sym, ap, ◌∙◌, subst, append-nil, Option}
use Rattle.std.specs.Prelude.{◌==◌}
use Rattle.std.specs.Option.{option_map_or}
use Rattle.std.specs.FinMap.{empty, get}
use Rattle.std.proofs.lemmas.Bool.{eq-eqb, eqb-true}
use Rattle.std.proofs.lemmas.List.Elements.{filter-append}
use Rattle.list_laws.proofs.Lists.{In, in_filter, in_left, in_right}
use Rattle.list_laws.proofs.Places.{in_all}
use Rattle.plain_map.specs.declared.keys.Key.{Key}
use Rattle.plain_map.specs.declared.calls.Call.TheVariants.{Lookup}
use Rattle.plain_map.specs.declared.rules.Rules.{Rules}
use Rattle.plain_map.specs.declared.calls.Reply.{Reply}
use Rattle.plain_map.specs.declared.calls.Reply.TheVariants.{Absent}
use Rattle.plain_map.specs.Calls.{key_in}
use Rattle.plain_map.specs.Keys.{Session}
use Rattle.plain_map.specs.PlainObject.{InRange, Sessions, class_of, found_in}
use Rattle.bucket_states.specs.Items.{prefix_of, reply_in}
use Rattle.map_laws.specs.ByKey.{Made, about, held_by, updates_in, after_made}
use Rattle.map_laws.proofs.ByKeyHeld.{keys_held}
use Rattle.map_laws.proofs.ByKeyLists.{about-updates_in}
use Rattle.exchange_model.specs.Plans.{Plan, bucket_for, rules_of}
use Rattle.exchange_model.specs.Steps as S
use Rattle.exchange_model.specs.Steps.{MadeBySeat, OfKey, Stand}
use Rattle.exchange_model.specs.Goes.{Asked, Called, Told, Replied, Pairs, Again, Spent, Refused}
use Rattle.exchange_model.specs.Laws.{AreOrdered, IsLook, IsOfMoment, IsUnderWay, all_made, made_by, pairs_in, updates_by}
use Rattle.exchange_model.specs.Worlds.{Answer, Asker, BySeat, ByReader, Event, IsRun, opening_world, seat_in, world_after}
use Rattle.exchange_laws.specs.Orders.{AllAreIdle, answers_by, is_by}
use Rattle.exchange_laws.specs.OneByOne.{HasJustMade, HasNoUpdate, IsLooking}
use Rattle.exchange_laws.proofs.Words.{bucket_small}
use Rattle.exchange_laws.proofs.OwnedRuns.{front_follows}
use Rattle.exchange_laws.proofs.Growing.{orders_grow}
use Rattle.exchange_laws.proofs.TiedRuns.{updates_are_ordered}
use Rattle.exchange_laws.proofs.SeatLooks.{looks_are_of_moments}
use Rattle.exchange_laws.proofs.OneByOne.{looks_are_in_turn}
use Rattle.exchange_turns.specs.Turns.{AreAnswered, calls_by, dealt_to}
use Rattle.exchange_turns.proofs.CallLists.{IsToldAt, about_dealt, about_made, asked_there, held_by_updates, in_own, told_at, updates_of_answers, updates_of_seat}

-- a front of a run is a run
pub front_runs : (plan : Plan) (front back : List Event) → IsRun plan (front ++ back) → IsRun plan front
front_runs plan front back run =
    record { opened = run.opened; follow = front_follows plan front back (opening_world plan) run.follow }

-- nothing is under way where no update is
pub none_under_way : (stand : Stand) (more : List Made) → HasNoUpdate stand → IsUnderWay stand more → more ≡ []
none_under_way stand [] none k = refl
none_under_way S.Idle (made ∷ more) none k = absurd k
none_under_way (S.Goes call step) (made ∷ more) none k = absurd none
none_under_way (S.Glances aim glance) (made ∷ more) none k = absurd k

-- an idle seat has none under way
pub idle_calm : (stand : Stand) → stand ≡ S.Idle → HasNoUpdate stand
idle_calm stand e = subst HasNoUpdate (sym e) tt

-- the prefix of a key at the greatest depth is the number of its bucket
prefix_is_class : (plan : Plan) (key : Key) →
    prefix_of (rules_of plan) plan.settings.depth key ≡ bucket_for plan key
unfolding prefix_of class_of
prefix_is_class plan key = refl

-- the reply that was told
abbrev reply_told : Reply → Told → Reply
reply_told other (Replied reply) = reply
reply_told other (Pairs pairs) = other
reply_told other Again = other
reply_told other Spent = other
reply_told other Refused = other

module _ (plan : Plan) (events : List Event) (deals : Key → ℕ) (asked : List Made) (run : IsRun plan events)
    (rest : AllAreIdle plan (world_after plan events))
    (answered : AreAnswered plan deals (world_after plan events) asked) where
  abbrev answers_then : List Event → List Answer
  answers_then es = (world_after plan es).answers

  abbrev rules : Rules
  rules = rules_of plan

  -- nothing is held at first
  abbrev nothing : Sessions
  nothing = empty

  -- the rules are those of a table that can be opened
  pub range : InRange (rules_of plan)
  range = record { some_room = run.opened.some_room; items = run.opened.items; depth = run.opened.depth }

  -- ---- in the end

  abbrev pub in_end : AreOrdered plan (world_after plan events)
  in_end = updates_are_ordered plan events run range

  -- what a seat was answered it was dealt
  of_seat : (seat : ℕ) → seat < plan.settings.seats → (made : Made) →
      In made (updates_by seat (answers_then events)) → deals (key_in made.0) ≡ seat
  of_seat seat inside made i =
      let among = (in_filter _ (calls_by seat (answers_then events)) made
      (subst (In made) (updates_of_seat seat (answers_then events)) i)).0 in
      eqb-true (deals (key_in made.0)) seat
      (in_filter (λ (m : Made). deals (key_in m.0) == seat) asked made
      (subst (In made) (answered.answered seat inside) among)).1

  -- in the end a seat has made what it was answered, and no more
  pub made_in_end : (seat : ℕ) → seat < plan.settings.seats →
      made_by seat (world_after plan events).made ≡ updates_by seat (answers_then events)
  made_in_end seat inside =
      let k = in_end.asked seat inside in
      k.are
      ∙ ap (λ (l : List Made). updates_by seat (answers_then events) ++ l)
      (none_under_way (seat_in (world_after plan events) seat).stand k.more
      (idle_calm (seat_in (world_after plan events) seat).stand (rest seat inside)) k.under_way)
      ∙ append-nil (updates_by seat (answers_then events))

  -- so each update is of its key's seat
  pub right_in_end : (one : MadeBySeat) → In one (world_after plan events).made → deals (key_in one.1.0) ≡ one.0
  right_in_end one i =
      let inside = in_all (λ (o : MadeBySeat). o.0 < plan.settings.seats) (world_after plan events).made one
      in_end.seats i in
      of_seat one.0 inside one.1
      (subst (In one.1) (made_in_end one.0 inside) (in_own one (world_after plan events).made i))

  -- ---- at each moment

  module _ (front back : List Event) (cut : events ≡ front ++ back) where
    pub whole : IsRun plan (front ++ back)
    whole = subst (IsRun plan) cut run

    abbrev pub then : AreOrdered plan (world_after plan front)
    then = updates_are_ordered plan front (front_runs plan front back whole) range

    -- each update is of its key's seat, since it is made for ever
    pub right : (one : MadeBySeat) → In one (world_after plan front).made → deals (key_in one.1.0) ≡ one.0
    right one i =
        let grown = orders_grow plan front back whole in
        right_in_end one (subst (λ (es : List Event). In one (world_after plan es).made) (sym cut)
        (subst (In one) (sym grown.1) (in_left one (world_after plan front).made grown.0 i)))

    -- where its seat has no update under way, the updates of a key are those that the seat was answered
    pub updates_about : (key : Key) → HasNoUpdate (seat_in (world_after plan front) (deals key)).stand →
        about key (all_made (world_after plan front).made) ≡ about key (updates_by (deals key) (answers_then front))
    updates_about key none =
        let k = then.asked (deals key) (answered.inside key) in
        about_made deals key (world_after plan front).made right
        ∙ ap (about key) (k.are
        ∙ ap (λ (l : List Made). updates_by (deals key) (answers_then front) ++ l)
        (none_under_way (seat_in (world_after plan front) (deals key)).stand k.more none k.under_way)
        ∙ append-nil (updates_by (deals key) (answers_then front)))

  -- ---- a lookup

  module _ (front back : List Made) (key : Key) (reply : Reply) (cut : asked ≡ front ++ (Lookup key, reply) ∷ back)
    where
      abbrev seat : ℕ
      seat = deals key

      abbrev look : Made
      look = (Lookup key, reply)

      -- the calls of its seat before it
      dealt_before : dealt_to deals seat asked ≡ dealt_to deals seat front ++ look ∷ dealt_to deals seat back
      dealt_before = ap (dealt_to deals seat) cut
          ∙ filter-append (λ (m : Made). deals (key_in m.0) == seat) front (look ∷ back)
          ∙ ap (λ (b : Bool). dealt_to deals seat front ++ cond b (look ∷ dealt_to deals seat back)
          (dealt_to deals seat back)) (eq-eqb seat seat refl)

      abbrev there : IsToldAt (answers_by seat (answers_then events)) (dealt_to deals seat front) look
      there = told_at (answers_by seat (answers_then events)) (dealt_to deals seat front) (dealt_to deals seat back)
          look (answered.answered seat (answered.inside key) ∙ dealt_before)

      asks : (there.a.asked ≡ Called (Lookup key)) × (there.a.told ≡ Replied reply)
      asks = asked_there there.a.asked there.a.told look there.told

      is_answer : In there.a (answers_then events) × (is_by seat there.a.by ≡ true)
      is_answer = in_filter (λ (a : Answer). is_by seat a.by) (answers_then events) there.a
          (subst (In there.a) (sym there.is) (in_right there.a there.before (there.a ∷ there.after) (inl refl)))

      by_seat : (who : Asker) → is_by seat who ≡ true → who ≡ BySeat seat
      by_seat (BySeat other) e = ap BySeat (eqb-true other seat e)
      by_seat (ByReader reader) e = absurd (true≢false (sym e))

      -- the moment of which it tells
      moment : IsOfMoment plan events there.a (OfKey key)
      moment = subst (λ (what : Asked). IsLook plan events there.a (BySeat seat) what) asks.0
          (subst (λ (who : Asker). IsLook plan events there.a who there.a.asked) (by_seat there.a.by is_answer.1)
          (in_all (λ (a : Answer). IsLook plan events a a.by a.asked) (answers_then events) there.a
          (looks_are_of_moments plan events run) is_answer.0))

      abbrev just : HasJustMade plan moment.front seat there.before
      just = looks_are_in_turn plan events run seat there.before there.after there.a there.is
          (subst IsLooking (sym asks.0) tt) moment.front moment.back moment.cut moment.after moment.before

      -- what the seat had made of the key then
      before : updates_in (about key (calls_by seat (answers_then moment.front))) ≡ updates_in (about key front)
      before =
          sym (about-updates_in key (calls_by seat (answers_then moment.front)))
          ∙ ap (about key) (sym (updates_of_answers (answers_by seat (answers_then moment.front))) ∙ just.made
          ∙ updates_of_answers there.before ∙ ap updates_in there.front_is)
          ∙ about-updates_in key (dealt_to deals seat front)
          ∙ ap updates_in (about_dealt deals key front)

      -- what is held of the key then
      held_then : get (after_made rules nothing (all_made (world_after plan moment.front).made)) key
          ≡ held_by (get nothing key) (about key front)
      held_then =
          let o = then moment.front moment.back moment.cut in
          keys_held rules nothing (all_made (world_after plan moment.front).made) key o.legal
          ∙ ap (held_by (get nothing key))
          (updates_about moment.front moment.back moment.cut key just.none
          ∙ ap (about key) (updates_of_seat seat (answers_then moment.front))
          ∙ about-updates_in key (calls_by seat (answers_then moment.front)) ∙ before)
          ∙ held_by_updates (get nothing key) (about key front)

      -- it tells what the calls of its key before it leave
      pub tells : reply ≡ option_map_or found_in (held_by (get nothing key) (about key front)) Absent
      unfolding reply_in
      tells =
          let o = then moment.front moment.back moment.cut in
          let part = o.held (bucket_for plan key) (bucket_small plan run.opened key) in
          let told : reply ≡ reply_in rules (pairs_in plan (world_after plan moment.front) (bucket_for plan key))
          (Lookup key) =
          reply_same reply _ (sym asks.1 ∙ moment.is) in
          told ∙ ap (λ (h : Option Session). option_map_or found_in h Absent)
          (part.same key (prefix_is_class plan key) ∙ held_then)
        where
          reply_same : (r s : Reply) → Replied r ≡ Replied s → r ≡ s
          reply_same r s e = ap (reply_told r) e
