-- Each run of a lasting table is shown, moment by moment; so its updates have one order.
use Rattle.std.proofs.Common.{◌≡◌, ◌^◌, ◌<◌, ℕ, zero, suc, ◌+◌, ◌≤◌, inl, inr, true, List, [], ◌∷◌, ◌++◌, length, get_or, take, refl, sym, ap, ◌∙◌, subst, arith, Bool, cond, lt-ltb}
use Rattle.std.specs.Prelude.{fold}
use Rattle.std.proofs.lemmas.Bool.{cases_lt}
use Rattle.std.proofs.lemmas.List.{take_at, length-append, get_or_past}
use Rattle.plain_map.specs.declared.keys.Key.{Key}
use Rattle.plain_map.specs.declared.keys.Pair.{Pair}
use Rattle.plain_map.specs.declared.calls.Call.TheVariants.{Insert, Remove, Lookup, Tally, Count, Put}
use Rattle.bucket_states.specs.Items.{reply_in}
use Rattle.bucket_states.specs.States.{BucketState}
use Rattle.table_model.specs.declared.events.Event.{Event}
use Rattle.table_model.specs.Setup.{Setup, settings_of, seats_of, rules_of}
use Rattle.table_model.specs.Worlds.{World, IsRun, AreEvents, opening_world, world_after}
use Rattle.table_model.specs.Worlds as Core
use Rattle.run_invariant.proofs.Invariant.{Common, last}
use Rattle.helping_laws.proofs.ByPlace
use Rattle.order_laws.proofs.Promised.{order_is_legal, order_is_whole, order_is_after}
use Rattle.peek_laws.specs.Peeks.{reply_then}
use Rattle.lasting_model.specs.Plans.{Plan, IsPlan, ample, bucket_for, buckets_of}
use Rattle.lasting_model.specs.Codes.{row_in, generation_in, pairs_of_row}
use Rattle.lasting_model.specs.Laws.{pairs_in, IsOfMoment, IsLook, IsPeek, GoesOn, SeatsGoOn}
use Rattle.lasting_model.specs.Goes.{Asked, Called, Copied, Replied}
use Rattle.lasting_model.specs.Steps as S
use Rattle.lasting_model.specs.Steps.{Aim, OfKey, OfBucket, Peeking, Rests, Peeks}
use Rattle.lasting_model.specs.Worlds.{Lasting, Answer, Asker, BySeat, ByReader, OfSeat, OfReader, Open, Peek_on, IsEvent, happens, act, ticked}
use Rattle.lasting_model.specs.Worlds as L
use Rattle.step_counts.specs.declared.settings.Settings.{Settings}
use Rattle.plain_map.specs.declared.calls.Call.{Call}
use Rattle.plain_map.specs.declared.calls.Reply.{Reply}
use Rattle.plain_map.specs.declared.records.Record.{Record}
use Rattle.plain_map.specs.declared.records.TheConstants.{MOST_SEATS}
use Rattle.plain_map.specs.Updates.{IsUpdate}
use Rattle.plain_map.specs.History.{answered}
use Rattle.order_laws.proofs.AllRuns.{Tells, all_tell}
use Rattle.std.proofs.Math.Seq.{get_or-append_seam}
use Rattle.table_model.specs.SeatStates.{SeatState, fresh_seat}
use Rattle.std.specs.Prelude.{slice_index}
use Rattle.std.specs.Option.{option_map_or}
use Rattle.plain_map.specs.declared.calls.Reply.TheVariants.{Absent}
use Rattle.plain_map.specs.PlainObject.{found_in, reply_of}
use Rattle.bucket_states.specs.Parts.{HoldsPart}
use Rattle.table_model.specs.Histories.{sessions_of_order}
use Rattle.run_laws.proofs.Layers.{HoldsWith}
use Rattle.order_laws.proofs.Tale.{Tale}
use Rattle.order_laws.proofs.AtEnd.{bucket_holds}
use Rattle.list_laws.proofs.Lists.{In}
use Rattle.list_laws.proofs.Places.{in_at}
use Rattle.lasting_laws.proofs.PoolEvents.{settings_are, bucket_small}
use Rattle.lasting_laws.specs.Promises.{records_in, HasRecord, IsUpdated, IsRight, order_in, StandsInTime, IsClassOf, IsHeldOnce, IsCopiedOnce, IsLookedAt, IsGhost, UpdatesAreOrdered}
use Rattle.lasting_laws.proofs.Turns.{Leaves, seat_leaves}
use Rattle.lasting_laws.proofs.FixedDepth.{positive, prefix_is_class, deep_is, directory_is_deep, place_is_prefix}
use Rattle.lasting_laws.proofs.RowPairs.{pairs_are}
use Rattle.lasting_laws.proofs.Shown.{View, Seated, Moment, view, IsShown, IsNext}
use Rattle.lasting_laws.proofs.Ghost.{seats_are, deepest, below, named_small, spelled, prefix_is, depth_is, open_at}
use Rattle.lasting_laws.proofs.StepsShown.{steps_are_shown}
use Rattle.lasting_laws.proofs.Ended.{each, in_use}
use Rattle.lasting_laws.proofs.Records.{records_grow}
use Rattle.lasting_laws.proofs.OpensShown.{opening_shown}
use Rattle.lasting_laws.proofs.Peeks.{peeks_are_of_moments}
use Rattle.lasting_laws.proofs.SeatLooks.{looks_are_of_moments}

-- each event is one
pub one_event_more : (plan : Plan) → IsPlan plan → (x : Lasting) → IsShown plan x → (event : L.Event) →
    IsEvent plan x event → (happens plan x event).clock ≡ x.clock + 1
one_event_more plan is_plan x shown (OfSeat p what) fits =
    (subst (λ (b : Bool). Leaves plan x (cond b (ticked (act plan x p (L.seat_in x p) what)) x))
    (sym (lt-ltb p plan.settings.seats fits.0))
    (seat_leaves plan is_plan x shown.pools shown.marks p fits.0 what fits.1)).clock
one_event_more plan is_plan x shown (OfReader r (Open aim tries)) fits = refl
one_event_more plan is_plan x shown (OfReader r Peek_on) fits = go (x.readers r).stand
  where
    go : (stand : Peeking) → (ticked (L.peeks_on plan x r (x.readers r) stand)).clock ≡ x.clock + 1
    go Rests = refl
    go (Peeks aim glance) = refl

-- a run that goes on is shown at each of its moments
record Goes_on (plan : Plan) (x : Lasting) (shown : IsShown plan x) (events : List L.Event) : Type 0 where
  pub last : IsShown plan (fold (happens plan) x events)
  pub keeps : (n : ℕ) → n ≤ x.clock → last.cut n ≡ shown.cut n
  pub clock : (fold (happens plan) x events).clock ≡ x.clock + length events
  pub moments : (n : ℕ) → n ≤ length events →
      (at : IsShown plan (fold (happens plan) x (take n events))) × (last.cut (x.clock + n) ≡ at.moment.events)

run_goes_on : (plan : Plan) → IsPlan plan → (events : List L.Event) (x : Lasting) → L.AreEvents plan x events →
    (shown : IsShown plan x) → Goes_on plan x shown events
run_goes_on plan is_plan [] x follow shown = record {
  last = shown;
  keeps = λ n o. refl;
  clock = omega arith;
  moments = moments;
}
  where
    moments : (n : ℕ) → n ≤ 0 →
        (at : IsShown plan (fold (happens plan) x (take n []))) × (shown.cut (x.clock + n) ≡ at.moment.events)
    moments zero o = (shown, ap shown.cut (let none : x.clock + 0 ≡ x.clock = omega arith in none) ∙ shown.now_is)
    moments (suc n) o = absurd (omega (arith, o))
run_goes_on plan is_plan (event ∷ events) x follow shown =
    let k = steps_are_shown plan x event is_plan follow.0 shown in
    let one = one_event_more plan is_plan x shown event follow.0 in
    let r = run_goes_on plan is_plan events (happens plan x event) follow.1 k.next in
    record {
      last = r.last;
      keeps = λ n o. r.keeps n (omega (arith, o, one)) ∙ k.keeps n o;
      clock = (let c = r.clock in omega (arith, c, one));
      moments = moments k one r;
    }
  where
    moments : (k : IsNext plan x (happens plan x event) shown) → (happens plan x event).clock ≡ x.clock + 1 →
        (r : Goes_on plan (happens plan x event) k.next events) → (n : ℕ) → n ≤ length (event ∷ events) →
        (at : IsShown plan (fold (happens plan) x (take n (event ∷ events))))
        × (r.last.cut (x.clock + n) ≡ at.moment.events)
    moments k one r zero o = (
      shown,
      ap r.last.cut (let none : x.clock + 0 ≡ x.clock = omega arith in none)
          ∙ r.keeps x.clock (omega (arith, one)) ∙ k.keeps x.clock (omega arith) ∙ shown.now_is,
    )
    moments k one r (suc n) o =
        let z = r.moments n (omega (arith, o)) in (
          z.0,
          ap r.last.cut (let next : x.clock + suc n ≡ (happens plan x event).clock + n = omega
              (arith, one) in next) ∙ z.1,
        )

-- the front of a run of today's table is one
front_runs : (setup : Setup) (front back : List Event) → IsRun setup (front ++ back) → IsRun setup front
front_runs setup front back run = record { opened = run.opened; follow = go front (opening_world setup) run.follow }
  where
    go : (es : List Event) (w : World) → AreEvents setup w (es ++ back) → AreEvents setup w es
    go [] w follow = tt
    go (e ∷ es) w follow = (follow.0, go es (Core.happens setup w e) follow.1)

-- ---- a moment

module _ (plan : Plan) (is_plan : IsPlan plan) (x : Lasting) (shown : IsShown plan x) (b : ℕ)
    (less : b < buckets_of plan.settings) where
  abbrev setup : Setup
  setup = ample plan

  abbrev m : Moment setup
  m = shown.moment

  abbrev c : Common
  c = shown.moment.common

  numbered : (k : ℕ) → c.named k ≡ true → c.pre k ≡ k
  numbered = shown.shows.rows.numbered

  named : c.named b ≡ true
  named = below plan is_plan m numbered b less

  -- the pairs in the row of its word are those of the ghost's row in use
  pairs_same : pairs_in plan x b ≡ (last c b).items
  pairs_same =
      let top = c.top b in
      let says = spelled plan is_plan m numbered b top named (omega arith) in
      let word = shown.shows.rows.word_is b named in
      let stands : x.store.row (row_in (shown.word_at b top)) 0 ≡ generation_in (shown.word_at b top) =
      subst (λ w. x.store.row (row_in w) 0 ≡ generation_in w) word
      (shown.marks.fresh b (named_small plan is_plan m numbered b named)) in
      ap (λ w. pairs_of_row setup (x.store.row (row_in w))) word
      ∙ pairs_are setup b (last c b) (prefix_is plan is_plan m numbered b top named (omega arith))
      (depth_is plan is_plan m numbered b top named (omega arith))
      (open_at plan is_plan m numbered b top named (omega arith)) says.0 says.1
      (x.store.row (row_in (shown.word_at b top)))
      (λ j less. shown.shows.rows.says b top j named (omega arith) stands less)

  -- the history by which the order is told, where each bucket has the same last row
  abbrev a : HoldsWith Tale setup (Tells setup) (world_after setup m.events)
  a = all_tell setup m.events m.run

  abbrev words : List ℕ
  words = (world_after setup m.events).words

  named_there : (k : ℕ) → c.named k ≡ true → a.common.named k ≡ true
  named_there k n = ByPlace.named_is setup words a.common a.follows.shows a.follows.shared a.follows.descent k
      (ByPlace.among_named setup words c m.follows.shows m.follows.shared m.follows.descent k n)

  named_here : (k : ℕ) → a.common.named k ≡ true → c.named k ≡ true
  named_here k n = ByPlace.named_is setup words c m.follows.shows m.follows.shared m.follows.descent k
      (ByPlace.among_named setup words a.common a.follows.shows a.follows.shared a.follows.descent k n)

  last_same : (k : ℕ) → c.named k ≡ true → last a.common k ≡ last c k
  last_same k n = sym (in_use setup (world_after setup m.events) a.common a.locals a.follows k (named_there k n))
      ∙ in_use setup (world_after setup m.events) c m.locals m.follows k n

  numbered_there : (k : ℕ) → a.common.named k ≡ true → a.common.pre k ≡ k
  numbered_there k n =
      let here = named_here k n in
      sym (a.follows.shared.rows.sound k (a.common.top k) n (omega arith)).prefix_is
      ∙ ap (λ (s : BucketState). s.prefix) (last_same k here)
      ∙ prefix_is plan is_plan m numbered k (c.top k) here (omega arith)

  -- it stands in the directory
  stands_there : In b (a.common.dir_at a.common.dir_top).entries
  stands_there =
      let top = a.common.dir_top in
      let d = a.common.dir_at top in
      let whole : d.depth ≡ (settings_of setup).depth =
      directory_is_deep setup a.common a.follows.shared a.follows.descent (deepest plan is_plan) top 0 (omega arith)
      (positive d.depth) in
      let within : b < 2 ^ d.depth = subst (λ k. b < 2 ^ k) (sym whole)
      (subst (λ (s : Settings). b < 2 ^ s.depth) (sym (settings_are plan)) less) in
      let named_at = a.follows.shared.leads.every top b (omega arith) within in
      let here : get_or d.entries b 0 ≡ b =
      sym (numbered_there (get_or d.entries b 0) named_at)
      ∙ place_is_prefix setup a.common a.follows.shared a.follows.descent (deepest plan is_plan) top b (omega arith)
      within in
      subst (λ k. In k d.entries) here (in_at d.entries b 0
      (let l = a.follows.shared.directories.long top (omega arith) in omega (arith, l, within)))

  -- THE RESULT: its bucket has the pairs of its class
  pub class_then : IsClassOf plan m.events b (pairs_in plan x b)
  class_then =
      let there_named = named_there b named in
      let holds = bucket_holds setup (world_after setup m.events) a.common a.locals a.follows a.extra a.holds b
      stands_there in
      subst (IsClassOf plan m.events b) (sym pairs_same)
      (subst (λ (s : BucketState). IsClassOf plan m.events b s.items) (last_same b named)
      (subst (λ k. HoldsPart (rules_of setup) b k (last a.common b).items (sessions_of_order setup m.events))
      (deep_is setup a.common a.follows.shared a.follows.descent (deepest plan is_plan) b there_named)
      (subst (λ k. HoldsPart (rules_of setup) k (a.common.deep b) (last a.common b).items
      (sessions_of_order setup m.events)) (numbered_there b there_named) holds)))

-- a bucket that has the pairs of the key's class answers as the plain map does
class_replies : (plan : Plan) (moment : List Event) (key : Key) (pairs : List Pair) →
    IsClassOf plan moment (bucket_for (ample plan) key) pairs →
    reply_in (rules_of (ample plan)) pairs (Lookup key) ≡ reply_then (ample plan) moment key
unfolding reply_in reply_of
class_replies plan moment key pairs holds =
    ap (λ o. option_map_or found_in o Absent) (holds.same key (prefix_is_class (ample plan) key))

-- ---- all of it

module _ (plan : Plan) (events : List L.Event) (run : L.IsRun plan events) where
  abbrev table : Setup
  table = ample plan

  whole_run : Goes_on plan (L.opening_world plan) (opening_shown plan run.opened) events
  whole_run = run_goes_on plan run.opened events (L.opening_world plan) run.follow (opening_shown plan run.opened)

  abbrev ghost : (clock : ℕ) → List Event
  ghost = whole_run.last.cut

  clock_is : (L.world_after plan events).clock ≡ length events
  clock_is = (let c = whole_run.clock in omega (arith, c))

  runs : (n : ℕ) → n ≤ length events → IsRun table (ghost n)
  runs n o =
      let g = whole_run.last.grows n (L.world_after plan events).clock (let c = clock_is in omega (arith, o, c))
      (omega arith) in
      front_runs table (ghost n) g.0 (subst (IsRun table) (sym whole_run.last.now_is ∙ g.1) whole_run.last.moment.run)

  -- the world at a front, as it is shown
  at_front : (front back : List L.Event) → events ≡ front ++ back →
      (at : IsShown plan (L.world_after plan front)) × (ghost (length front) ≡ at.moment.events)
  at_front front back e =
      let long = ap (λ (es : List L.Event). length es) e ∙ length-append front back in
      let z = whole_run.moments (length front) (omega (arith, long)) in
      let same : take (length front) events ≡ front =
      ap (take (length front)) e ∙ take_at front back (length front) refl in
      let none : 0 + length front ≡ length front = omega arith in
      subst (λ (es : List L.Event). (at : IsShown plan (L.world_after plan es))
      × (ghost (length front) ≡ at.moment.events)) same (z.0, ap ghost (sym none) ∙ z.1)

  -- at each moment the buckets have the pairs of their classes
  buckets_then : (front back : List L.Event) (bucket : ℕ) → events ≡ front ++ back → bucket < buckets_of plan.settings →
      IsClassOf plan (ghost (length front)) bucket (pairs_in plan (L.world_after plan front) bucket)
  buckets_then front back bucket e less =
      let z = at_front front back e in
      subst (λ (es : List Event). IsClassOf plan es bucket (pairs_in plan (L.world_after plan front) bucket)) (sym z.1)
      (class_then plan run.opened (L.world_after plan front) z.0 bucket less)

  held_once : (a : Answer) (key : Key) → IsOfMoment plan events a (OfKey key) → IsHeldOnce plan ghost a key
  held_once a key o = (
    length o.front,
    o.after,
    o.before,
    o.is ∙ ap Replied (class_replies plan (ghost (length o.front)) key
        (pairs_in plan (L.world_after plan o.front) (bucket_for table key))
        (buckets_then o.front o.back (bucket_for table key) o.cut (bucket_small plan key))),
  )

  copied_once : (a : Answer) (bucket : ℕ) → IsOfMoment plan events a (OfBucket bucket) →
      IsCopiedOnce plan ghost a bucket
  copied_once a bucket o = λ less. (
    length o.front,
    pairs_in plan (L.world_after plan o.front) bucket,
    o.after,
    o.before,
    o.is,
    buckets_then o.front o.back bucket o.cut less,
  )

  looked_at : (a : Answer) (by : Asker) (asked : Asked) → IsLook plan events a by asked →
      IsPeek plan events a by asked →
      IsLookedAt plan ghost a by asked
  looked_at a (BySeat seat) (Called (Lookup key)) l k = held_once a key l
  looked_at a (ByReader reader) (Called (Lookup key)) l k =
      elim k [ inl again ↦ inl again | inr o ↦ inr (held_once a key o) ]
  looked_at a (BySeat seat) (Copied bucket) l k = copied_once a bucket l
  looked_at a (ByReader reader) (Copied bucket) l k =
      elim k [ inl again ↦ inl again | inr o ↦ inr (copied_once a bucket o) ]
  looked_at a (BySeat seat) (Called (Insert key value)) l k = tt
  looked_at a (BySeat seat) (Called (Remove key)) l k = tt
  looked_at a (BySeat seat) (Called (Tally key amount)) l k = tt
  looked_at a (BySeat seat) (Called (Count key value amount)) l k = tt
  looked_at a (BySeat seat) (Called (Put key value)) l k = tt
  looked_at a (ByReader reader) (Called (Insert key value)) l k = tt
  looked_at a (ByReader reader) (Called (Remove key)) l k = tt
  looked_at a (ByReader reader) (Called (Tally key amount)) l k = tt
  looked_at a (ByReader reader) (Called (Count key value amount)) l k = tt
  looked_at a (ByReader reader) (Called (Put key value)) l k = tt

  -- each answer is right, and was given by now
  right_at : (i : ℕ) (d : Answer) → i < length (L.world_after plan events).answers →
      (let a = get_or (L.world_after plan events).answers i d in
      (a.ended ≤ length events) × IsRight table ghost a)
  right_at i d h = (
    (let o = whole_run.last.ended i d h in let c = clock_is in omega (arith, o, c)),
    whole_run.last.right i d h,
  )

  -- ---- the order of time

  -- an answered update has its record
  has_record : (first last : List Event) (seat : ℕ) (call : Call) (reply : Reply) → IsUpdate call →
      IsUpdated table first last (BySeat seat) (Called call) (Replied reply) →
      HasRecord table first last seat call reply
  has_record first last seat (Insert key value) reply u k = k
  has_record first last seat (Remove key) reply u k = k
  has_record first last seat (Lookup key) reply u k = absurd u
  has_record first last seat (Tally key amount) reply u k = k
  has_record first last seat (Count key value amount) reply u k = k
  has_record first last seat (Put key value) reply u k = k

  -- what was answered grows
  grow : (i n : ℕ) (k : ℕ) → i ≤ n → n ≤ length events →
      length (records_in table (ghost i) k) ≤ length (records_in table (ghost n) k)
  grow i n k o h =
      let g = whole_run.last.grows i n o (let c = clock_is in omega (arith, h, c)) in
      records_grow table (ghost i) g.0 (ghost n) k
      (all_tell table (ghost i) (runs i (omega (arith, o, h)))).follows.long g.1

  in_time : (first second : Answer) → (first.ended ≤ length events) × IsRight table ghost first →
      (second.ended ≤ length events) × IsRight table ghost second →
      StandsInTime table ghost (order_in table (ghost (length events))) first second
  in_time first second one two seat other r s before later is_r is_s past e =
      (order_is_after table (ghost (length events)) (runs (length events) (omega arith)) before later
      (answered s) e).seen
      seat r.number (omega (arith, inside, most)) (omega (arith, number))
      (let up = first_up in let seen = saw in let a = number in let b = long_is in
      omega (arith, up, seen, a, b))
    where
      world_end : World
      world_end = world_after table (ghost first.ended)

      run_end : IsRun table (ghost first.ended)
      run_end = runs first.ended one.0

      front : List Record
      front = records_in table (ghost first.began) seat

      long_is : length (records_in table (ghost first.ended) seat) ≡ length front + 1
      long_is = ap (λ (rs : List Record). length rs) is_r.made ∙ length-append front (r ∷ [])

      -- it is a seat of the table
      inside : seat < seats_of table
      inside = elim (cases_lt seat (seats_of table)) [
        | inl less ↦ less
        | inr beyond ↦ absurd (
            let none : length (records_in table (ghost first.ended) seat) ≡ 0 =
            ap (λ (k : SeatState). length k.account.records)
            (get_or_past world_end.seats seat fresh_seat
            (let long = (all_tell table (ghost first.ended) run_end).follows.long in omega (arith, long, beyond))) in
            let l = long_is in omega (arith, none, l))
      ]

      most : seats_of table ≤ MOST_SEATS
      most = (let e = seats_are plan in let few = plan.settings.seats_in_range.1 in omega (arith, e, few))

      -- records are numbered
      number : r.number ≡ length front + 1
      number =
          let a = all_tell table (ghost first.ended) run_end in
          let less : length front < length (records_in table (ghost first.ended) seat) =
          (let l = long_is in omega (arith, l)) in
          let k = each table world_end a.common a.locals a.follows a.extra a.holds seat inside (length front) r less in
          ap (λ (q : Record). q.number)
          (sym (ap (λ (rs : List Record). get_or rs (length front) r) is_r.made ∙ get_or-append_seam front r [] r))
          ∙ k.number_is

      record_of_second : HasRecord table (ghost second.began) (ghost second.ended) other is_s.call is_s.reply
      record_of_second = has_record (ghost second.began) (ghost second.ended) other is_s.call is_s.reply is_s.update
          (subst (λ t. IsUpdated table (ghost second.began) (ghost second.ended) (BySeat other) (Called is_s.call) t)
          is_s.told_is
          (subst (λ t. IsUpdated table (ghost second.began) (ghost second.ended) (BySeat other) t second.told)
          is_s.asked_is
          (subst (λ t. IsUpdated table (ghost second.began) (ghost second.ended) t second.asked second.told)
          is_s.by_is two.1.1)))

      -- the record that stands there is the one of its call
      same : record_of_second.made ≡ s
      same =
          let rs = records_in table (ghost second.began) other in
          sym (ap (λ (xs : List Record). get_or xs (length rs) s) record_of_second.records_are
          ∙ get_or-append_seam rs record_of_second.made [] s)
          ∙ ap (λ (xs : List Record). get_or xs (length rs) s) is_s.made ∙ get_or-append_seam rs s [] s

      -- it has seen all that there were when its call began
      saw : length (records_in table (ghost second.began) seat) ≤ slice_index s.seen.counts seat
      saw = subst (λ (q : Record). length (records_in table (ghost second.began) seat) ≤ slice_index q.seen.counts seat)
          same (record_of_second.saw seat inside)

      first_up : length (records_in table (ghost first.ended) seat)
          ≤ length (records_in table (ghost second.began) seat)
      first_up = grow first.ended second.began seat past
          (let o = two.1.0 in let h = two.0 in omega (arith, o, h))

  ghost_is : IsGhost plan events ghost
  ghost_is = record {
    runs = runs;
    grows = λ i n o h. whole_run.last.grows i n o (let c = clock_is in omega (arith, h, c));
    updates = whole_run.last.right;
    ended = λ i d h. (let o = whole_run.last.ended i d h in let c = clock_is in omega (arith, o, c));
    buckets = buckets_then;
    looks = λ i d h. (let a : Answer = get_or (L.world_after plan events).answers i d in
        looked_at a a.by a.asked (looks_are_of_moments plan events run i d h)
        (peeks_are_of_moments plan events run i d h));
    legal = order_is_legal table (ghost (length events)) (runs (length events) (omega arith));
    whole = order_is_whole table (ghost (length events)) (runs (length events) (omega arith));
    after = order_is_after table (ghost (length events)) (runs (length events) (omega arith));
    in_time = λ i d h j e k. in_time (get_or (L.world_after plan events).answers i d)
        (get_or (L.world_after plan events).answers j e) (right_at i d h) (right_at j e k);
  }

-- THE RESULT
pub updates_are_ordered : UpdatesAreOrdered
updates_are_ordered plan events run = record { ghost = ghost plan events run; is = ghost_is plan events run }

-- each run shows its ghost
pub shown_at : (plan : Plan) (events : List L.Event) → L.IsRun plan events → IsShown plan (L.world_after plan events)
shown_at plan events run = (whole_run plan events run).last

-- ---- no seat is stuck

goes_on_of : (plan : Plan) (v : View) (q : ℕ) (stand : S.Stand) → Seated plan v q stand → GoesOn stand
goes_on_of plan v q S.Idle k = tt
goes_on_of plan v q (S.Glances aim glance) k = tt
goes_on_of plan v q (S.Goes u S.Stuck) k = absurd k.1
goes_on_of plan v q (S.Goes u step) k = tt

pub shown_goes_on : (plan : Plan) (x : Lasting) → IsShown plan x → (seat : ℕ) → seat < plan.settings.seats →
    GoesOn (L.seat_in x seat).stand
shown_goes_on plan x shown seat inside =
    goes_on_of plan (view plan x shown.moment shown.word_at shown.cut shown.tied) seat (L.seat_in x seat).stand
    (shown.shows.seats seat inside)

pub seats_go_on : SeatsGoOn
seats_go_on plan events seat run =
    let shown = (whole_run plan events run).last in
    let x = L.world_after plan events in
    elim (cases_lt seat plan.settings.seats) [
      | inl inside ↦ shown_goes_on plan x shown seat inside
      | inr past ↦ subst (λ (s : S.SeatNow). GoesOn s.stand)
          (sym (get_or_past x.seats seat L.nobody (let long = shown.pools.long in omega (arith, long, past)))) tt
    ]
