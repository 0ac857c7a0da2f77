-- Each event of a lasting table is shown by its ghost.
use Rattle.std.proofs.Common.{◌≡◌, ℕ, ◌+◌, ◌-◌, ◌≤◌, inl, inr, Bool, true, cond, List, [], ◌∷◌, ◌++◌, get_or, refl, sym, ap, ◌∙◌, subst, arith, lt-ltb, append-nil}
use Rattle.std.specs.Prelude.{All}
use Rattle.std.proofs.lemmas.Bool.{cases_eq}
use Rattle.std.proofs.lemmas.List.Elements.{All-nil, All-cons, All-append}
use Rattle.plain_map.specs.declared.keys.Key.{Key}
use Rattle.word_rows.specs.Memory.{put}
use Rattle.word_rows.proofs.MemoryLemmas.{put_same, put_other}
use Rattle.table_model.specs.declared.events.Event.{Event}
use Rattle.table_model.specs.Setup.{Setup}
use Rattle.lasting_model.specs.Plans.{Plan, IsPlan, ample, bucket_for}
use Rattle.lasting_model.specs.Steps as S
use Rattle.lasting_model.specs.Steps.{SeatNow, Peeking, Rests, Peeks, Aim, Glance, ReaderNow, Course, glance_deed}
use Rattle.lasting_model.specs.Goes.{GlanceFate, Looks, Shows, Disturbed, glance_fate, Told, Again, asked_by_aim, told_by_items}
use Rattle.lasting_model.specs.Worlds.{Lasting, Answer, Asker, ByReader, OfSeat, OfReader, Open, Peek_on, Peek, IsEvent, happens, act, ticked, with_reader, with_answer, peek_after, peek_answers, peeks_on, course_from, stepped, found_by}
use Rattle.lasting_model.specs.Worlds as L
use Rattle.lasting_laws.proofs.Pools.{Pools}
use Rattle.lasting_laws.proofs.PoolEvents.{pools_keep}
use Rattle.lasting_laws.proofs.Marks.{Marks, writer_owns}
use Rattle.lasting_laws.proofs.Tied.{Tied}
use Rattle.lasting_laws.specs.Promises.{records_in, IsUpdated, IsRight}
use Rattle.lasting_laws.proofs.Shown.{View, Rows, Moment, view, IsShown, IsNext, StepsAreShown}
use Rattle.lasting_laws.proofs.Stays.{After, seated_stays, slot_stays}
use Rattle.lasting_laws.proofs.Ghost.{there}
use Rattle.helping_laws.proofs.Extends.{extends_self}
use Rattle.lasting_laws.proofs.Lists.{either_put}
use Rattle.lasting_laws.proofs.Exact.{exact}
use Rattle.lasting_laws.proofs.OwnBegins.{look_is, seat_shown}

module _ (plan : Plan) (is_plan : IsPlan plan) (x : Lasting) (shown : IsShown plan x) where
  abbrev setup : Setup
  setup = ample plan

  abbrev m : Moment setup
  m = shown.moment

  abbrev v : View
  v = view plan x shown.moment shown.word_at shown.cut shown.tied

  -- ---- an event of a reader: words and seats are as they were

  module _ (readers : (reader : ℕ) → ReaderNow) (answers : List Answer) where
    abbrev y : Lasting
    y = record { store = x.store; seats = x.seats; readers = readers; answers = answers; clock = x.clock + 1 }

    module _ (pools : Pools plan y) where
      abbrev cut : (clock : ℕ) → List Event
      cut = put shown.cut (x.clock + 1) m.events

      cut_before : (n : ℕ) → n ≤ x.clock → cut n ≡ shown.cut n
      cut_before n o = put_other shown.cut (x.clock + 1) m.events n (λ e. omega (arith, e, o))

      abbrev tied : Tied plan y
      tied = record {
        home = shown.tied.home;
        since = shown.tied.since;
        holds = shown.tied.holds;
        homes = shown.tied.homes;
        wants = shown.tied.wants;
      }

      marks : Marks plan y
      marks = record { fresh = shown.marks.fresh; old = shown.marks.old; writing = shown.marks.writing }

      abbrev z : View
      z = view plan y m shown.word_at cut tied

      rows : Rows plan z
      rows = record {
        numbered = shown.shows.rows.numbered;
        word_is = shown.shows.rows.word_is;
        says = shown.shows.rows.says;
        old = shown.shows.rows.old;
        once = shown.shows.rows.once;
      }

      past_z : (q : ℕ) → z.past q ≡ v.past q
      past_z q = ap (λ es k. records_in setup es k) (cut_before (L.seat_in x q).course.began (shown.began q))

      -- the event is of none of the seats
      after : After plan plan.settings.seats v z
      after = record {
        extends = extends_self m.common;
        used = λ q n. refl;
        state = λ q n. refl;
        past = λ q n. past_z q;
        grow = λ k. omega arith;
        seat = λ q n. refl;
        words = λ b i n o. refl;
        turn = record { rows = λ row. inl (λ i. refl); known = λ row. omega arith };
        touch = λ row. inl (λ i. refl);
        slot = λ q j n. refl;
        want = λ q n. refl;
        up = λ b q n. omega arith;
        since = λ q row e f a. inl (e, f, a);
        rows = rows;
      }

      named : (key : Key) → m.common.named (bucket_for setup key) ≡ true
      named = there plan is_plan m shown.shows.rows.numbered

      Right : List Answer → Type 0
      Right = All (λ (a : Answer). (a.ended ≤ x.clock + 1) × IsRight setup cut a)

      right_before : All (λ (a : Answer). (a.ended ≤ x.clock + 1) × IsRight setup cut a) x.answers
      right_before = λ i d h.
          let ended = shown.ended i d h in
          let right = shown.right i d h in
          let a : Answer = get_or x.answers i d in (
            omega (arith, ended),
            (
              right.0,
              subst (λ es. IsUpdated setup es (cut a.ended) a.by a.asked a.told)
                  (sym (cut_before a.began (let o = right.0 in omega (arith, ended, o))))
                  (subst (λ es. IsUpdated setup (shown.cut a.began) es a.by a.asked a.told)
                  (sym (cut_before a.ended ended)) right.1),
            ),
          )

      -- with one to a look
      right_more : (r : ℕ) (aim : Aim) (told : Told) (course : Course) → course.began ≤ x.clock →
          All (λ (a : Answer). (a.ended ≤ x.clock + 1) × IsRight setup cut a)
          (with_answer x (ByReader r) (asked_by_aim aim) told course)
      right_more r aim told course began =
          let a : Answer = record {
            by = ByReader r;
            asked = asked_by_aim aim;
            told = told;
            began = course.began;
            ended = x.clock + 1;
            steps = course.steps;
          } in
          let P : Answer → Type 0 = λ (k : Answer). (k.ended ≤ x.clock + 1) × IsRight setup cut k in
          All-append P x.answers (a ∷ []) right_before (All-cons P a [] (
            omega arith,
            (omega (arith, began), look_is setup (cut course.began) (cut (x.clock + 1)) (ByReader r) aim told),
          ) (All-nil P))

      reader_next : All (λ (a : Answer). (a.ended ≤ x.clock + 1) × IsRight setup cut a) answers →
          ((q : ℕ) → (readers q).course.began ≤ x.clock + 1) → IsNext plan x y shown
      reader_next right early = record {
        more = [];
        next = record {
          moment = m;
          pools = pools;
          marks = marks;
          tied = tied;
          word_at = shown.word_at;
          cut = cut;
          shows = record {
            rows = rows;
            ops = record {
              none = shown.shows.ops.none;
              some = shown.shows.ops.some;
              past = shown.shows.ops.past;
            };
            slots = λ q h. slot_stays plan plan.settings.seats v z after shown.shows.rows named q refl refl
                (past_z q) refl
                (λ j. refl) (L.seat_in x q).stand (shown.shows.slots q h);
            seats = λ q h. seated_stays plan plan.settings.seats v z after shown.shows.rows named q refl refl (past_z q)
                refl
                (λ e. omega (arith, h, e))
                (λ u late made. exact plan is_plan y m shown.word_at cut tied marks rows q h u late made.update
                (let a = made.long in let b = made.number_is in omega (arith, a, b)))
                (λ u step at some. writer_owns plan is_plan x shown.pools q h u step at some)
                (L.seat_in x q).stand refl (shown.shows.seats q h);
          };
          now_is = put_same shown.cut (x.clock + 1) m.events;
          grows = grows;
          began = λ q. (let o = shown.began q in omega (arith, o));
          readers = early;
          ended = λ i d h. (right i d h).0;
          right = λ i d h. (right i d h).1;
        };
        is = sym (append-nil m.events);
        keeps = cut_before;
      }
        where
          grows : (i n : ℕ) → i ≤ n → n ≤ x.clock + 1 → (later : List Event) × (cut n ≡ cut i ++ later)
          grows i n o h = elim (cases_eq n (x.clock + 1)) [
            | inl e ↦ elim (cases_eq i (x.clock + 1)) [
              | inl f ↦ ([], ap cut (e ∙ sym f) ∙ sym (append-nil (cut i)))
              | inr d ↦
                  let old : i ≤ x.clock = omega (arith, o, e, d) in
                  let g = shown.grows i x.clock old (omega arith) in (
                    g.0,
                    ap cut e ∙ put_same shown.cut (x.clock + 1) m.events ∙ sym shown.now_is ∙ g.1
                        ∙ ap (λ es. es ++ g.0) (sym (cut_before i old)),
                  )
            ]
            | inr d ↦
                let now : n ≤ x.clock = omega (arith, h, d) in
                let g = shown.grows i n o now in
                (g.0, cut_before n now ∙ g.1 ∙ ap (λ es. es ++ g.0) (sym (cut_before i (omega (arith, o, now)))))
          ]

  -- the calls of readers began before now
  early_put : (r : ℕ) (now : ReaderNow) → now.course.began ≤ x.clock + 1 → (q : ℕ) →
      (put x.readers r now q).course.began ≤ x.clock + 1
  early_put r now o q = elim (either_put x.readers r now q) [
    | inl z ↦ subst (λ (k : ReaderNow). k.course.began ≤ x.clock + 1) (sym z.1) o
    | inr z ↦ subst (λ (k : ReaderNow). k.course.began ≤ x.clock + 1) (sym z.1)
        (let was = shown.readers q in omega (arith, was))
  ]

  reader_shown : (r : ℕ) (peek : Peek) → Pools plan (ticked (L.peek_acts plan x r (x.readers r) peek)) →
      (x.readers r).course.began ≤ x.clock → IsNext plan x (ticked (L.peek_acts plan x r (x.readers r) peek)) shown
  reader_shown r (Open aim tries) pools began =
      let now : ReaderNow = record { stand = Peeks aim (S.GlanceWord (tries - 1)); course = course_from x.clock } in
      let readers = put x.readers r now in
      reader_next readers x.answers pools (right_before readers x.answers pools) (early_put r now (omega arith))
  reader_shown r Peek_on pools began = go (x.readers r).stand pools
    where
      now : ReaderNow
      now = x.readers r

      peek_on : (aim : Aim) (f : GlanceFate) →
          Pools plan (ticked (with_reader x r (peek_after now aim f) (peek_answers setup x r aim
          (stepped now.course) f))) →
          IsNext plan x
          (ticked (with_reader x r (peek_after now aim f) (peek_answers setup x r aim (stepped now.course) f))) shown
      peek_on aim (Looks glance) ps =
          let readers = put x.readers r (peek_after now aim (Looks glance)) in
          reader_next readers x.answers ps (right_before readers x.answers ps)
          (early_put r (peek_after now aim (Looks glance)) (omega (arith, began)))
      peek_on aim (Shows items) ps =
          let readers = put x.readers r (peek_after now aim (Shows items)) in
          let answers = peek_answers setup x r aim (stepped now.course) (Shows items) in
          reader_next readers answers ps
          (right_more readers answers ps r aim (told_by_items setup aim items) (stepped now.course) began)
          (early_put r (peek_after now aim (Shows items)) (omega (arith, began)))
      peek_on aim Disturbed ps =
          let readers = put x.readers r (peek_after now aim Disturbed) in
          let answers = peek_answers setup x r aim (stepped now.course) Disturbed in
          reader_next readers answers ps (right_more readers answers ps r aim Again (stepped now.course) began)
          (early_put r (peek_after now aim Disturbed) (omega (arith, began)))

      go : (stand : Peeking) → Pools plan (ticked (peeks_on plan x r now stand)) →
          IsNext plan x (ticked (peeks_on plan x r now stand)) shown
      go Rests ps = reader_next x.readers x.answers ps (right_before x.readers x.answers ps)
          (λ q. (let was = shown.readers q in omega (arith, was)))
      go (Peeks aim glance) ps =
          peek_on aim (glance_fate setup 0 aim glance (found_by (glance_deed setup 0 0 aim glance) x.store)) ps

-- THE RESULT: each step of a lasting table is some steps of its ghost
pub steps_are_shown : StepsAreShown
steps_are_shown plan x (OfSeat p what) is_plan fits shown =
    subst (λ (b : Bool). IsNext plan x (cond b (ticked (act plan x p (L.seat_in x p) what)) x) shown)
    (sym (lt-ltb p plan.settings.seats fits.0)) (seat_shown plan is_plan x shown p fits.0 what fits.1)
steps_are_shown plan x (OfReader r peek) is_plan fits shown =
    reader_shown plan is_plan x shown r peek (pools_keep plan is_plan x shown.pools (OfReader r peek) fits)
    (shown.readers r)
