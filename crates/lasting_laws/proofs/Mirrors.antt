-- What a seat of the ghost has answered are the updates that the seat of the lasting table was answered, in order,
-- before the call that it may have under way.
use Rattle.std.proofs.Common.{◌≡◌, ℕ, ◌+◌, ◌<◌, ◌≤◌, inl, inr, List, [], ◌∷◌, ◌++◌, map, length, refl, sym, ap, ◌∙◌, subst, arith, append-nil}
use Rattle.std.specs.Prelude.{All, fold}
use Rattle.std.proofs.lemmas.List.{map-append}
use Rattle.std.proofs.lemmas.List.Elements.{All-head}
use Rattle.list_laws.proofs.Places.{All-right}
use Rattle.plain_map.specs.declared.calls.Call.{Call}
use Rattle.plain_map.specs.declared.calls.Call.TheVariants.{Insert, Remove, Lookup, Tally, Count, Put}
use Rattle.plain_map.specs.declared.calls.Reply.{Reply}
use Rattle.plain_map.specs.declared.records.Record.{Record}
use Rattle.plain_map.specs.Updates.{IsUpdate}
use Rattle.table_model.specs.declared.events.Event.{Event}
use Rattle.table_model.specs.Setup.{Setup, seats_of}
use Rattle.table_model.specs.Worlds as Core
use Rattle.lasting_model.specs.Plans.{Plan, IsPlan, ample}
use Rattle.lasting_model.specs.Steps as S
use Rattle.lasting_model.specs.Steps.{Stand, SeatNow, Update, Step, Course}
use Rattle.lasting_model.specs.Goes.{Called, Replied, Refused, asked_by_aim}
use Rattle.lasting_model.specs.Worlds.{Lasting, Answer, BySeat, IsEvent, AreEvents, happens, seat_in}
use Rattle.lasting_model.specs.Worlds as L
use Rattle.map_laws.specs.ByKey.{Made}
use Rattle.lasting_laws.specs.Orders.{updates_by}
use Rattle.lasting_laws.specs.Promises.{records_in, HasRecord, IsUpdated, IsRight}
use Rattle.lasting_laws.proofs.Shown.{View, Waits, Seated, view, IsShown, IsNext}
use Rattle.lasting_laws.proofs.StepsShown.{steps_are_shown}
use Rattle.lasting_laws.proofs.OpensShown.{opening_shown}
use Rattle.lasting_laws.proofs.PoolsOpen.{seat_is}
use Rattle.lasting_laws.proofs.Records.{records_same, seats_long}
use Rattle.lasting_laws.proofs.Ordered.{one_event_more}
use Rattle.lasting_laws.proofs.Events.{answer_now, Passes, LookBegins, LookGoes, LookEnds, UpdateBegins, UpdateGoes, UpdateEnds, RefusedFirst, RefusedLater, PassesBy, of_seat, event_happens}
use Rattle.lasting_laws.proofs.SeatAnswers.{look_tells, update_tells, no_update_more, one_update_more, updates_more}

-- a record, as an update with its reply
abbrev pub made_of : Record → Made
made_of r = (r.call, r.reply)

-- what a seat of a run of the ghost has answered
abbrev pub all_made_in : Setup → List Event → (seat : ℕ) → List Made
all_made_in setup events seat = map made_of (records_in setup events seat)

-- in a call they are those of the run when the call began
abbrev pub Mirrors : (plan : Plan) (x : Lasting) → IsShown plan x → (q : ℕ) → Stand → Type 0
Mirrors plan x shown q (S.Goes u step) =
    all_made_in (ample plan) (shown.cut (seat_in x q).course.began) q ≡ updates_by q x.answers
Mirrors plan x shown q stand = all_made_in (ample plan) shown.moment.events q ≡ updates_by q x.answers

-- so it is with all seats
abbrev pub AllMirror : (plan : Plan) (x : Lasting) → IsShown plan x → Type 0
AllMirror plan x shown = (q : ℕ) → q < plan.settings.seats → Mirrors plan x shown q (seat_in x q).stand

-- an answered update has its record
record_of : (first last : List Event) (setup : Setup) (seat : ℕ) (call : Call) (reply : Reply) → IsUpdate call →
    IsUpdated setup first last (BySeat seat) (Called call) (Replied reply) →
    HasRecord setup first last seat call reply
record_of first last setup seat (Insert key value) reply u k = k
record_of first last setup seat (Remove key) reply u k = k
record_of first last setup seat (Lookup key) reply u k = absurd u
record_of first last setup seat (Tally key amount) reply u k = k
record_of first last setup seat (Count key value amount) reply u k = k
record_of first last setup seat (Put key value) reply u k = k

module _ (plan : Plan) (is_plan : IsPlan plan) (x : Lasting) (shown : IsShown plan x) (event : L.Event)
    (fits : IsEvent plan x event) (n : IsNext plan x (happens plan x event) shown) (q : ℕ)
    (inside : q < plan.settings.seats) where
  abbrev y : Lasting
  y = happens plan x event

  abbrev setup : Setup
  setup = ample plan

  abbrev was : View
  was = view plan x shown.moment shown.word_at shown.cut shown.tied

  abbrev is_then : View
  is_then = view plan y n.next.moment n.next.word_at n.next.cut n.next.tied

  -- an event later
  clock : y.clock ≡ x.clock + 1
  clock = one_event_more plan is_plan x shown event fits

  -- the runs that were shown before
  cut_same : (a b : ℕ) → a ≡ b → b ≤ x.clock → n.next.cut a ≡ shown.cut b
  cut_same a b e o = ap n.next.cut e ∙ n.keeps b o

  -- where it answers no more, it has the same records
  quiet : Waits plan was q (seat_in x q).answered → Waits plan is_then q (seat_in y q).answered →
      (seat_in y q).answered ≡ (seat_in x q).answered →
      all_made_in setup n.next.moment.events q ≡ all_made_in setup shown.moment.events q
  quiet first last same = ap (map made_of)
      (records_same setup shown.moment.events n.more n.next.moment.events q shown.moment.follows.long n.is
      (last.count ∙ same ∙ sym first.count))

  -- where the seat stood
  seated_was : (stand : Stand) → (seat_in x q).stand ≡ stand → Seated plan was q stand
  seated_was stand e = subst (Seated plan was q) e (shown.shows.seats q inside)

  -- and where it stands then
  seated_then : (stand : Stand) → (seat_in y q).stand ≡ stand → Seated plan is_then q stand
  seated_then stand e = subst (Seated plan is_then q) e (n.next.shows.seats q inside)

  -- what is known, by where it stood
  mirrored : (stand : Stand) → (seat_in x q).stand ≡ stand → Mirrors plan x shown q (seat_in x q).stand →
      Mirrors plan x shown q stand
  mirrored stand e k = subst (Mirrors plan x shown q) e k

  -- ---- others answer

  -- a seat whose event it is not
  stays : (stand : Stand) → (seat_in x q).stand ≡ stand → PassesBy x y q → Mirrors plan x shown q stand →
      Mirrors plan y n.next q stand
  stays stand at l = go stand at
    where
      same_updates : updates_by q x.answers ≡ updates_by q y.answers
      same_updates = sym (ap (updates_by q) l.answers ∙ updates_more q x.answers l.more
          ∙ ap (λ (more : List Made). updates_by q x.answers ++ more) l.no_update
          ∙ append-nil (updates_by q x.answers))

      same_answered : (seat_in y q).answered ≡ (seat_in x q).answered
      same_answered = ap (λ (s : SeatNow). s.answered) l.seat

      then_at : (s : Stand) → (seat_in x q).stand ≡ s → (seat_in y q).stand ≡ s
      then_at s e = ap (λ (t : SeatNow). t.stand) l.seat ∙ e

      go : (s : Stand) → (seat_in x q).stand ≡ s → Mirrors plan x shown q s → Mirrors plan y n.next q s
      go S.Idle e k = quiet (seated_was S.Idle e) (seated_then S.Idle (then_at S.Idle e)) same_answered ∙ k
          ∙ same_updates
      go (S.Glances aim glance) e k =
          quiet (seated_was (S.Glances aim glance) e)
          (seated_then (S.Glances aim glance) (then_at (S.Glances aim glance) e)) same_answered ∙ k ∙ same_updates
      go (S.Goes u step) e k =
          ap (λ (es : List Event). all_made_in setup es q)
          (cut_same (seat_in y q).course.began (seat_in x q).course.began
          (ap (λ (s : SeatNow). s.course.began) l.seat) (shown.began q))
          ∙ k ∙ same_updates

  -- ---- the seat's own event

  -- an answer that is given now is right
  right_now : (a : Answer) → y.answers ≡ x.answers ++ a ∷ [] → IsRight setup n.next.cut a
  right_now a e = All-head (IsRight setup n.next.cut) a []
      (All-right (IsRight setup n.next.cut) x.answers (a ∷ [])
      (subst (All (IsRight setup n.next.cut)) e n.next.right))

  -- an update ends with its record
  ends : (u : Update) (step : Step) (reply : Reply) (course : Course) → (seat_in x q).stand ≡ S.Goes u step →
      course.began ≡ (seat_in x q).course.began →
      y.answers ≡ x.answers ++ answer_now x (BySeat q) (Called u.call) (Replied reply) course ∷ [] →
      Mirrors plan x shown q (S.Goes u step) →
      all_made_in setup n.next.moment.events q ≡ updates_by q y.answers
  ends u step reply course at began e k =
      let a = answer_now x (BySeat q) (Called u.call) (Replied reply) course in
      let update : IsUpdate u.call = (seated_was (S.Goes u step) at).0.update in
      let r = record_of (n.next.cut course.began) (n.next.cut (x.clock + 1)) setup q u.call reply update
      (right_now a e).1 in
      let first : n.next.cut course.began ≡ shown.cut (seat_in x q).course.began =
      cut_same course.began (seat_in x q).course.began began (shown.began q) in
      let last : n.next.moment.events ≡ n.next.cut (x.clock + 1) = sym n.next.now_is ∙ ap n.next.cut clock in
      let made : made_of r.made ≡ (u.call, reply) = ap (λ (c : Call). (c, r.made.reply)) r.call_is
      ∙ ap (λ (t : Reply). (u.call, t)) r.reply_is in
      ap (λ (es : List Event). all_made_in setup es q) last
      ∙ ap (map made_of) r.records_are
      ∙ map-append made_of (records_in setup (n.next.cut course.began) q) (r.made ∷ [])
      ∙ ap (λ (es : List Event). all_made_in setup es q ++ made_of r.made ∷ []) first
      ∙ ap (λ (ms : List Made). ms ++ made_of r.made ∷ []) k
      ∙ ap (λ (m : Made). updates_by q x.answers ++ m ∷ []) made
      ∙ sym (one_update_more q x.answers a (u.call, reply) (update_tells q u.call reply update))
      ∙ ap (updates_by q) (sym e)

  -- a refused one leaves none
  refused : (u : Update) (step : Step) (course : Course) → (seat_in x q).stand ≡ S.Goes u step →
      (seat_in y q).stand ≡ S.Idle → (seat_in y q).answered ≡ (seat_in x q).answered →
      y.answers ≡ x.answers ++ answer_now x (BySeat q) (Called u.call) Refused course ∷ [] →
      Mirrors plan x shown q (S.Goes u step) →
      all_made_in setup n.next.moment.events q ≡ updates_by q y.answers
  refused u step course at then_at same e k =
      let a = answer_now x (BySeat q) (Called u.call) Refused course in
      let made = (seated_was (S.Goes u step) at).0 in
      let last = seated_then S.Idle then_at in
      let began : ℕ = (seat_in x q).course.began in
      let up = n.next.grows began y.clock (let o = shown.began q in let c = clock in omega (arith, o, c))
      (omega arith) in
      let first : n.next.cut began ≡ shown.cut began = n.keeps began (shown.began q) in
      let is : n.next.moment.events ≡ shown.cut began ++ up.0 =
      sym n.next.now_is ∙ up.1 ∙ ap (λ (es : List Event). es ++ up.0) first in
      ap (map made_of) (records_same setup (shown.cut began) up.0 n.next.moment.events q (cut_long began) is
      (last.count ∙ same ∙ sym made.long))
      ∙ k ∙ sym (no_update_more q x.answers a refl) ∙ ap (updates_by q) (sym e)
    where
      cut_long : (i : ℕ) → length (Core.world_after setup (shown.cut i)).seats ≡ seats_of setup
      cut_long i = seats_long setup (shown.cut i)

  -- the seat whose event it is
  passes_on : Mirrors plan x shown q (seat_in x q).stand → Passes x y q (seat_in x q) (seat_in y q) →
      Mirrors plan y n.next q (seat_in y q).stand
  passes_on k passes = go passes
    where
      go : Passes x y q (seat_in x q) (seat_in y q) → Mirrors plan y n.next q (seat_in y q).stand
      go (LookBegins aim glance at is same_words a t e) = subst (Mirrors plan y n.next q) (sym is)
          (quiet (seated_was S.Idle at) (seated_then (S.Glances aim glance) is) a ∙ mirrored S.Idle at k
          ∙ ap (updates_by q) (sym e))
      go (LookGoes aim glance next at is same_words a t e) = subst (Mirrors plan y n.next q) (sym is)
          (quiet (seated_was (S.Glances aim glance) at) (seated_then (S.Glances aim next) is) a
          ∙ mirrored (S.Glances aim glance) at k ∙ ap (updates_by q) (sym e))
      go (LookEnds aim glance told course at is same_words a t e) = subst (Mirrors plan y n.next q) (sym is)
          (quiet (seated_was (S.Glances aim glance) at) (seated_then S.Idle is) a
          ∙ mirrored (S.Glances aim glance) at k
          ∙ sym (no_update_more q x.answers (answer_now x (BySeat q) (asked_by_aim aim) told course)
          (look_tells q aim told)) ∙ ap (updates_by q) (sym e))
      go (UpdateBegins u step at is update began a t e) = subst (Mirrors plan y n.next q) (sym is)
          (ap (λ (es : List Event). all_made_in setup es q)
          (cut_same (seat_in y q).course.began x.clock began (omega arith) ∙ shown.now_is)
          ∙ mirrored S.Idle at k ∙ ap (updates_by q) (sym e))
      go (UpdateGoes u step next at is began a t e) = subst (Mirrors plan y n.next q) (sym is)
          (ap (λ (es : List Event). all_made_in setup es q)
          (cut_same (seat_in y q).course.began (seat_in x q).course.began began (shown.began q))
          ∙ mirrored (S.Goes u step) at k ∙ ap (updates_by q) (sym e))
      go (UpdateEnds u step reply course at is began a t e) = subst (Mirrors plan y n.next q) (sym is)
          (ends u step reply course at began e (mirrored (S.Goes u step) at k))
      go (RefusedFirst call course at is update a t e) = subst (Mirrors plan y n.next q) (sym is)
          (quiet (seated_was S.Idle at) (seated_then S.Idle is) a ∙ mirrored S.Idle at k
          ∙ sym (no_update_more q x.answers (answer_now x (BySeat q) (Called call) Refused course) refl)
          ∙ ap (updates_by q) (sym e))
      go (RefusedLater u step course at is a t e) = subst (Mirrors plan y n.next q) (sym is)
          (refused u step course at is a e (mirrored (S.Goes u step) at k))

  -- each event keeps it
  mirrors_next : Mirrors plan x shown q (seat_in x q).stand → Mirrors plan y n.next q (seat_in y q).stand
  mirrors_next k = elim (of_seat plan x y (event_happens plan x shown.pools.long event fits).0 q) [
    | inl passes ↦ passes_on k passes
    | inr l ↦ subst (Mirrors plan y n.next q) (sym (ap (λ (s : SeatNow). s.stand) l.seat))
        (stays (seat_in x q).stand refl l k)
  ]

-- ---- runs

-- a moment that is shown, where all mirror
pub record Mirrored (plan : Plan) (x : Lasting) : Type 0 where
  pub shown : IsShown plan x
  pub all : AllMirror plan x shown

-- events keep it
mirrored_on : (plan : Plan) → IsPlan plan → (events : List L.Event) (x : Lasting) → AreEvents plan x events →
    Mirrored plan x → Mirrored plan (fold (happens plan) x events)
mirrored_on plan is [] x follow m = m
mirrored_on plan is (event ∷ events) x follow m =
    let n = steps_are_shown plan x event is follow.0 m.shown in
    mirrored_on plan is events (happens plan x event) follow.1 (record {
      shown = n.next;
      all = λ q h. mirrors_next plan is x m.shown event follow.0 n q h (m.all q h);
    })

-- at the opening nobody has answered
mirrored_first : (plan : Plan) → IsPlan plan → Mirrored plan (L.opening_world plan)
mirrored_first plan is = record { shown = opening_shown plan is; all = first }
  where
    none : (rs : List Record) → length rs ≡ 0 → map made_of rs ≡ []
    none [] e = refl
    none (r ∷ rs) e = absurd (omega (arith, e))

    first : AllMirror plan (L.opening_world plan) (opening_shown plan is)
    first q h =
        let shown = opening_shown plan is in
        let x = L.opening_world plan in
        let idle : (seat_in x q).stand ≡ S.Idle = ap (λ (s : SeatNow). s.stand) (seat_is plan is q h) in
        let waits = subst (Seated plan (view plan x shown.moment shown.word_at shown.cut shown.tied) q) idle
        (shown.shows.seats q h) in
        subst (Mirrors plan x shown q) (sym idle)
        (none (records_in (ample plan) shown.moment.events q)
        (waits.count ∙ ap (λ (s : SeatNow). s.answered) (seat_is plan is q h)))

-- THE RESULT
pub mirrored_at : (plan : Plan) (events : List L.Event) → L.IsRun plan events →
    Mirrored plan (L.world_after plan events)
mirrored_at plan events run =
    mirrored_on plan run.opened events (L.opening_world plan) run.follow (mirrored_first plan run.opened)
