-- A reader's lookup or copy tells what its bucket had at one moment of the call: that of its second load of the bucket
-- word. What it has of the row is true as long as the word is the same.
use Rattle.std.proofs.Common.{◌≡◌, ℕ, ◌+◌, ◌-◌, ◌<◌, ◌≤◌, ◌⊎◌, inl, inr, Bool, true, false, cond, not, List, [], ◌∷◌, ◌++◌, length, refl, sym, ap, ◌∙◌, subst, arith, append_assoc, append-nil, lt-ltb}
use Rattle.std.specs.Prelude.{◌==◌, ◌&&◌, nat_lt, All, fold}
use Rattle.std.proofs.lemmas.Bool.{eqb-true}
use Rattle.std.proofs.lemmas.List.{length-append}
use Rattle.std.proofs.lemmas.List.Elements.{All-nil, All-cons, All-append, All-weaker}
use Rattle.step_counts.specs.declared.TheConstants.{ITEM_WORDS}
use Rattle.plain_map.specs.declared.calls.Call.{Call}
use Rattle.plain_map.specs.declared.calls.Call.TheVariants.{Insert, Remove, Lookup, Tally, Count, Put}
use Rattle.plain_map.specs.declared.keys.Pair.{Pair}
use Rattle.exchange_model.specs.Plans.{Plan, IsPlan, holders_of, buckets_of, more}
use Rattle.exchange_model.specs.Codes.{row_in, count_in, item_place, pair_in, pairs_of_row}
use Rattle.exchange_model.specs.Laws.{pairs_in, IsOfMoment, IsPeek, PeeksAreOfMoments}
use Rattle.exchange_model.specs.Steps as S
use Rattle.exchange_model.specs.Steps.{SeatNow, Stand, Aim, OfKey, OfBucket, Source, Tried, HeldIn, Pass, Glance, Course, ReaderNow, Peeking, bucket_of_aim, glance_deed}
use Rattle.exchange_model.specs.Goes.{Fate, On, Ends, Spends, Refuses, GlanceFate, Looks, Shows, Disturbed, glance_fate, glance_lost, gone_through, pass_on, pass_of, passed, with_pair, may_be, is_aimed, pass_pair, pass_fate, Asked, Called, Copied, Again, asked_by_aim, told_by_items}
use Rattle.exchange_model.specs.Worlds.{World, Answer, Asker, BySeat, ByReader, Event, OfSeat, OfReader, IsEvent, AreEvents, What, Begin, Copy, Step_on, Peek, Open, Peek_on, IsAim, IsPeeking, PeekFits, seat_in, ticked, found_by, stepped, with_reader, peek_after, peek_answers, peeks_on, goes_on, act, call_begins, answers_after, look_answers, happens, course_from, opening_world, world_after, IsRun}
use Rattle.exchange_laws.proofs.Places.{either_put}
use Rattle.exchange_laws.proofs.Words.{bucket_small}
use Rattle.exchange_laws.proofs.Owned.{Owned}
use Rattle.exchange_laws.proofs.OwnedMoves.{Moves, Stays}
use Rattle.exchange_laws.proofs.OwnedEvents.{event_keeps}
use Rattle.exchange_laws.proofs.OwnedRuns.{after_both, opening_owned}
use Rattle.exchange_laws.proofs.TrueReads.{Stood, stood_still, still_stood}
use Rattle.exchange_laws.proofs.Passes.{Passes, Tells, begins, next_item, next_word}

-- ---- a seat's event answers seats alone

module _ (P : Answer → Type 0) (seats : (a : Answer) (seat : ℕ) → a.by ≡ BySeat seat → P a) where
  one_more : (x : World) (p : ℕ) (a : Answer) → a.by ≡ BySeat p → All P x.answers → All P (x.answers ++ a ∷ [])
  one_more x p a by all = All-append P x.answers (a ∷ []) all (All-cons P a [] (seats a p by) (All-nil P))

  by_fate : (x : World) (p : ℕ) (call : Call) (course : Course) (f : Fate) → All P x.answers →
      All P (answers_after x p call course f)
  by_fate x p call course (On step) all = all
  by_fate x p call course (Ends reply) all = one_more x p _ refl all
  by_fate x p call course Spends all = one_more x p _ refl all
  by_fate x p call course Refuses all = one_more x p _ refl all

  by_look : (plan : Plan) (x : World) (p : ℕ) (aim : Aim) (course : Course) (f : GlanceFate) → All P x.answers →
      All P (look_answers plan x p aim course f)
  by_look plan x p aim course (Looks glance) all = all
  by_look plan x p aim course (Shows items) all = one_more x p _ refl all
  by_look plan x p aim course Disturbed all = all

  by_call : (plan : Plan) (x : World) (p : ℕ) (now : SeatNow) (call : Call) → All P x.answers →
      All P (call_begins plan x p now call).answers
  by_call plan x p now (Lookup key) all = all
  by_call plan x p now (Insert key value) all = by_fate x p (Insert key value) _ _ all
  by_call plan x p now (Remove key) all = by_fate x p (Remove key) _ _ all
  by_call plan x p now (Tally key amount) all = by_fate x p (Tally key amount) _ _ all
  by_call plan x p now (Count key value amount) all = by_fate x p (Count key value amount) _ _ all
  by_call plan x p now (Put key value) all = by_fate x p (Put key value) _ _ all

  by_stand : (plan : Plan) (x : World) (p : ℕ) (now : SeatNow) (stand : Stand) → All P x.answers →
      All P (goes_on plan x p now stand).answers
  by_stand plan x p now S.Idle all = all
  by_stand plan x p now (S.Goes call step) all = by_fate x p call _ _ all
  by_stand plan x p now (S.Glances aim glance) all = by_look plan x p aim _ _ all

  seat_answers : (plan : Plan) (x : World) (p : ℕ) (now : SeatNow) (what : What) → All P x.answers →
      All P (act plan x p now what).answers
  seat_answers plan x p now (Begin call) all = by_call plan x p now call all
  seat_answers plan x p now (Copy bucket) all = all
  seat_answers plan x p now Step_on all = by_stand plan x p now now.stand all

-- and leaves readers as they are
call_readers : (plan : Plan) (x : World) (p : ℕ) (now : SeatNow) (call : Call) →
    ((call_begins plan x p now call).readers ≡ x.readers) × ((call_begins plan x p now call).clock ≡ x.clock)
call_readers plan x p now (Lookup key) = (refl, refl)
call_readers plan x p now (Insert key value) = (refl, refl)
call_readers plan x p now (Remove key) = (refl, refl)
call_readers plan x p now (Tally key amount) = (refl, refl)
call_readers plan x p now (Count key value amount) = (refl, refl)
call_readers plan x p now (Put key value) = (refl, refl)

stand_readers : (plan : Plan) (x : World) (p : ℕ) (now : SeatNow) (stand : Stand) →
    ((goes_on plan x p now stand).readers ≡ x.readers) × ((goes_on plan x p now stand).clock ≡ x.clock)
stand_readers plan x p now S.Idle = (refl, refl)
stand_readers plan x p now (S.Goes call step) = (refl, refl)
stand_readers plan x p now (S.Glances aim glance) = (refl, refl)

pub act_readers : (plan : Plan) (x : World) (p : ℕ) (now : SeatNow) (what : What) →
    ((act plan x p now what).readers ≡ x.readers) × ((act plan x p now what).clock ≡ x.clock)
act_readers plan x p now (Begin call) = call_readers plan x p now call
act_readers plan x p now (Copy bucket) = (refl, refl)
act_readers plan x p now Step_on = stand_readers plan x p now now.stand

module _ (plan : Plan) where
  -- each aim is of a bucket that there is
  pub aimed : IsPlan plan → (aim : Aim) → IsAim plan aim → bucket_of_aim plan aim < buckets_of plan.settings
  aimed is_plan (OfKey key) is = bucket_small plan is_plan key
  aimed is_plan (OfBucket bucket) is = is

  -- ---- what holds of a look

  abbrev row_of : World → (word : ℕ) → ℕ → ℕ
  row_of x word = x.store.row (row_in plan word)

  pub record InItems (x : World) (b : ℕ) (aim : Aim) (word : ℕ) (pass : Pass) : Type 0 where
    pub stood : Stood plan x b word
    pub is : x.store.bucket b ≡ word →
        Passes plan aim (row_of x word) pass × (pass.item < pass.count) × (length pass.part < 7)

  pub record InCheck (x : World) (b : ℕ) (aim : Aim) (word : ℕ) (kept : List Pair) : Type 0 where
    pub stood : Stood plan x b word
    pub is : x.store.bucket b ≡ word → Tells plan aim (row_of x word) kept

  abbrev pub KeepsPeek : World → (b : ℕ) → Aim → Glance → Type 0
  KeepsPeek x b aim (S.GlanceWord left) = Unit {0}
  KeepsPeek x b aim (S.GlanceCount (Tried left word)) = Stood plan x b word
  KeepsPeek x b aim (S.GlanceItem (Tried left word) pass) = InItems x b aim word pass
  KeepsPeek x b aim (S.GlanceCheck left word kept) = InCheck x b aim word kept
  KeepsPeek x b aim glance = ⊥

  abbrev pub Standing : World → (began : ℕ) → Peeking → Type 0
  Standing x began S.Rests = Unit {0}
  Standing x began (S.Peeks aim glance) =
      IsAim plan aim × (began ≤ x.clock) × KeepsPeek x (bucket_of_aim plan aim) aim glance

  abbrev pub Peeked : World → ReaderNow → Type 0
  Peeked x now = Standing x now.course.began now.stand

  -- ---- a later moment

  module _ (is_plan : IsPlan plan) (x y : World) (h : Owned plan x) (moves : Moves plan h.at x y)
      (later : y.clock ≡ x.clock + 1) where
    pub keeps_still : (aim : Aim) (glance : Glance) → IsAim plan aim → KeepsPeek x (bucket_of_aim plan aim) aim glance →
        KeepsPeek y (bucket_of_aim plan aim) aim glance
    keeps_still aim (S.GlanceWord left) a k = tt
    keeps_still aim (S.GlanceCount (Tried left word)) a k =
        still_stood plan is_plan x y h moves (bucket_of_aim plan aim) (aimed is_plan aim a) word k
    keeps_still aim (S.GlanceCount (HeldIn row)) a k = absurd k
    keeps_still aim (S.GlanceItem (Tried left word) pass) a k =
        let b = bucket_of_aim plan aim in
        let small = aimed is_plan aim a in
        record {
          stood = still_stood plan is_plan x y h moves b small word k.stood;
          is = λ e.
              let z = stood_still plan is_plan x y h moves b small word k.stood e in
              let was = k.is z.0 in (
                subst (λ (f : ℕ → ℕ). Passes plan aim f pass) (λ j i. sym (z.1 i) j) was.0,
                was.1,
                was.2,
              );
        }
    keeps_still aim (S.GlanceItem (HeldIn row) pass) a k = absurd k
    keeps_still aim (S.GlanceCheck left word kept) a k =
        let b = bucket_of_aim plan aim in
        let small = aimed is_plan aim a in
        record {
          stood = still_stood plan is_plan x y h moves b small word k.stood;
          is = λ e.
              let z = stood_still plan is_plan x y h moves b small word k.stood e in
              subst (λ (f : ℕ → ℕ). Tells plan aim f kept) (λ j i. sym (z.1 i) j) (k.is z.0);
        }
    keeps_still aim S.GlanceWant a k = absurd k
    keeps_still aim S.GlanceAsking a k = absurd k
    keeps_still aim S.GlanceHeld a k = absurd k
    keeps_still aim (S.GlanceTake word) a k = absurd k
    keeps_still aim (S.GlanceBack kept) a k = absurd k

    standing_still : (began : ℕ) (stand : Peeking) → Standing x began stand → Standing y began stand
    standing_still began S.Rests k = tt
    standing_still began (S.Peeks aim glance) k =
        (k.0, omega (arith, k.1, later), keeps_still aim glance k.0 k.2)

  pub moment_still : (es : List Event) (event : Event) (a : Answer) (aim : Aim) → IsOfMoment plan es a aim →
      IsOfMoment plan (es ++ event ∷ []) a aim
  moment_still es event a aim o = record {
    front = o.front;
    back = o.back ++ event ∷ [];
    cut = ap (λ (xs : List Event). xs ++ event ∷ []) o.cut ∙ append_assoc o.front o.back (event ∷ []);
    after = o.after;
    before = o.before;
    is = o.is;
  }

  peek_still : (es : List Event) (event : Event) (a : Answer) (by : Asker) (asked : Asked) → IsPeek plan es a by asked →
      IsPeek plan (es ++ event ∷ []) a by asked
  peek_still es event a (BySeat seat) asked k = tt
  peek_still es event a (ByReader reader) (Called (Lookup key)) k =
      elim k [ inl again ↦ inl again | inr o ↦ inr (moment_still es event a (OfKey key) o) ]
  peek_still es event a (ByReader reader) (Called (Insert key value)) k = absurd k
  peek_still es event a (ByReader reader) (Called (Remove key)) k = absurd k
  peek_still es event a (ByReader reader) (Called (Tally key amount)) k = absurd k
  peek_still es event a (ByReader reader) (Called (Count key value amount)) k = absurd k
  peek_still es event a (ByReader reader) (Called (Put key value)) k = absurd k
  peek_still es event a (ByReader reader) (Copied bucket) k =
      elim k [ inl again ↦ inl again | inr o ↦ inr (moment_still es event a (OfBucket bucket) o) ]

  pub record Seen (es : List Event) (x : World) : Type 0 where
    pub owned : Owned plan x
    pub world : x ≡ world_after plan es
    pub clock : x.clock ≡ length es
    pub readers : (r : ℕ) → Peeked x (x.readers r)
    pub answers : All (λ (a : Answer). IsPeek plan es a a.by a.asked) x.answers

  -- ---- where a step of a reader leads

  module _ (x : World) (aim : Aim) where
    abbrev b : ℕ
    b = bucket_of_aim plan aim

    abbrev pub Fated : GlanceFate → Type 0
    Fated (Looks glance) = KeepsPeek x b aim glance
    Fated (Shows kept) = told_by_items plan aim kept ≡ told_by_items plan aim (pairs_in plan x b)
    Fated Disturbed = Unit {0}

    -- its form, whatever was loaded
    abbrev Shape : (left word : ℕ) → GlanceFate → Type 0
    Shape left word (Looks (S.GlanceItem source pass)) = source ≡ Tried left word
    Shape left word (Looks (S.GlanceCheck l w kept)) = w ≡ word
    Shape left word f = ⊥

    -- and what is true of it if the word is the same
    abbrev Content : (word : ℕ) → GlanceFate → Type 0
    Content word (Looks (S.GlanceItem source pass)) =
        Passes plan aim (row_of x word) pass × (pass.item < pass.count) × (length pass.part < 7)
    Content word (Looks (S.GlanceCheck l w kept)) = Tells plan aim (row_of x word) kept
    Content word f = Unit {0}

    either : (left word : ℕ) (f g : GlanceFate) (c : Bool) → Shape left word f → Shape left word g →
        Shape left word (cond c f g)
    either left word f g true sf sg = sf
    either left word f g false sf sg = sg

    on_shape : (left word : ℕ) (pass : Pass) → Shape left word (pass_on (Tried left word) pass)
    on_shape left word pass =
        either left word (Looks (S.GlanceItem (Tried left word) pass)) (gone_through (Tried left word) pass.kept)
        (nat_lt pass.item pass.count) refl refl

    word_shape : (left word : ℕ) (pass : Pass) (found : ℕ) →
        Shape left word (pass_fate (Tried left word) aim pass found)
    word_shape left word pass found =
        let source = Tried left word in
        let pair = pair_in (more pass.part found) in
        let longer = Looks (S.GlanceItem source (record pass { part = more pass.part found })) in
        either left word (pass_on source (passed pass))
        (cond (nat_lt (length pass.part + 1) ITEM_WORDS) longer (pass_pair source aim pass pair))
        ((length pass.part == 0) && not (may_be aim found)) (on_shape left word (passed pass))
        (either left word longer (pass_pair source aim pass pair) (nat_lt (length pass.part + 1) ITEM_WORDS) refl
        (either left word (gone_through source (more pass.kept pair)) (pass_on source (with_pair pass pair))
        (is_aimed aim pair) refl (on_shape left word (with_pair pass pair))))

    both : (left word : ℕ) → Stood plan x b word → (f : GlanceFate) → Shape left word f →
        (x.store.bucket b ≡ word → Content word f) → Fated f
    both left word stood (Looks (S.GlanceItem source pass)) shape content =
        subst (λ (src : Source). KeepsPeek x b aim (S.GlanceItem src pass)) (sym shape)
        (record { stood = stood; is = content })
    both left word stood (Looks (S.GlanceCheck l w kept)) shape content =
        subst (λ k. KeepsPeek x b aim (S.GlanceCheck l k kept)) (sym shape) (record { stood = stood; is = content })
    both left word stood (Looks (S.GlanceWord k)) shape content = absurd shape
    both left word stood (Looks (S.GlanceCount source)) shape content = absurd shape
    both left word stood (Looks S.GlanceWant) shape content = absurd shape
    both left word stood (Looks S.GlanceAsking) shape content = absurd shape
    both left word stood (Looks S.GlanceHeld) shape content = absurd shape
    both left word stood (Looks (S.GlanceTake k)) shape content = absurd shape
    both left word stood (Looks (S.GlanceBack k)) shape content = absurd shape
    both left word stood (Shows kept) shape content = absurd shape
    both left word stood Disturbed shape content = absurd shape

    lost : (left : ℕ) → Fated (glance_lost left)
    lost left = go (nat_lt 0 left)
      where
        go : (c : Bool) → Fated (cond c (Looks (S.GlanceWord (left - 1))) Disturbed)
        go true = tt
        go false = tt

    pub fated : (glance : Glance) → KeepsPeek x b aim glance →
        Fated (glance_fate plan 0 aim glance (found_by (glance_deed plan 0 0 aim glance) x.store))
    fated (S.GlanceWord left) k = inl refl
    fated (S.GlanceCount (Tried left word)) k =
        let found = x.store.row (row_in plan word) 0 in
        both left word k (pass_on (Tried left word) (pass_of (count_in plan found)))
        (on_shape left word (pass_of (count_in plan found)))
        (λ stands. next_item plan (row_of x word) aim (Tried left word) (Content word)
        (λ pass passes few short. (passes, few, short)) (λ kept tells. tells)
        (pass_of (count_in plan found)) (begins plan (row_of x word) aim) refl)
    fated (S.GlanceCount (HeldIn row)) k = absurd k
    fated (S.GlanceItem (Tried left word) pass) k =
        let found = x.store.row (row_in plan word) (item_place pass.item (length pass.part)) in
        both left word k.stood (pass_fate (Tried left word) aim pass found) (word_shape left word pass found)
        (λ stands. (let z = k.is stands in
        next_word plan (row_of x word) aim (Tried left word) (Content word)
        (λ after passes few short. (passes, few, short)) (λ kept tells. tells) pass found z.0 z.1 z.2 refl))
    fated (S.GlanceItem (HeldIn row) pass) k = absurd k
    fated (S.GlanceCheck left word kept) k = go (x.store.bucket b == word) refl
      where
        go : (c : Bool) → (x.store.bucket b == word) ≡ c → Fated (cond c (Shows kept) (glance_lost left))
        go false e = lost left
        go true e =
            let is : x.store.bucket b ≡ word = eqb-true (x.store.bucket b) word e in
            k.is is ∙ ap (λ w. told_by_items plan aim (pairs_of_row plan (x.store.row (row_in plan w)))) (sym is)
    fated S.GlanceWant k = absurd k
    fated S.GlanceAsking k = absurd k
    fated S.GlanceHeld k = absurd k
    fated (S.GlanceTake word) k = absurd k
    fated (S.GlanceBack kept) k = absurd k

  -- ---- events

  module _ (is_plan : IsPlan plan) (es : List Event) (x : World) (s : Seen es x) where
    module _ (event : Event) where
      abbrev es' : List Event
      es' = es ++ event ∷ []

      next_world : happens plan x event ≡ world_after plan es'
      next_world =
          ap (λ (w : World). happens plan w event) s.world ∙ sym (after_both plan es (event ∷ []) (opening_world plan))

      long : length es' ≡ length es + 1
      long = length-append es (event ∷ [])

      lifted : (answers : List Answer) → All (λ (a : Answer). IsPeek plan es a a.by a.asked) answers →
          All (λ (a : Answer). IsPeek plan es' a a.by a.asked) answers
      lifted answers all =
          All-weaker (λ (a : Answer). IsPeek plan es a a.by a.asked) (λ (a : Answer). IsPeek plan es' a a.by a.asked)
          (λ a k. peek_still es event a a.by a.asked k) answers all

    -- what a reader is told now
    one_told : (r : ℕ) (aim : Aim) (a : Answer) → a.by ≡ ByReader r → a.asked ≡ asked_by_aim aim →
        (a.told ≡ Again) ⊎ IsOfMoment plan es a aim →
        All (λ (c : Answer). IsPeek plan es c c.by c.asked) (x.answers ++ a ∷ [])
    one_told r aim a by asked is =
        All-append (λ (c : Answer). IsPeek plan es c c.by c.asked) x.answers (a ∷ []) s.answers
        (All-cons (λ (c : Answer). IsPeek plan es c c.by c.asked) a []
        (subst (λ q. IsPeek plan es a q a.asked) (sym by)
        (subst (λ q. IsPeek plan es a (ByReader r) q) (sym asked) (by_aim aim is)))
        (All-nil (λ (c : Answer). IsPeek plan es c c.by c.asked)))
      where
        by_aim : (m : Aim) → (a.told ≡ Again) ⊎ IsOfMoment plan es a m → IsPeek plan es a (ByReader r) (asked_by_aim m)
        by_aim (OfKey key) k = k
        by_aim (OfBucket bucket) k = k

    reader_told : (r : ℕ) (aim : Aim) (course : Course) (f : GlanceFate) → course.began ≤ x.clock → Fated x aim f →
        All (λ (a : Answer). IsPeek plan es a a.by a.asked) (peek_answers plan x r aim course f)
    reader_told r aim course (Looks glance) since f = s.answers
    reader_told r aim course (Shows kept) since f = one_told r aim
        (record {
          by = ByReader r;
          asked = asked_by_aim aim;
          told = told_by_items plan aim kept;
          began = course.began;
          ended = x.clock + 1;
          steps = course.steps;
        }) refl refl (inr (record {
          front = es;
          back = [];
          cut = sym (append-nil es);
          after = omega (arith, since, s.clock);
          before = omega (arith, s.clock);
          is = f ∙ ap (λ (w : World). told_by_items plan aim (pairs_in plan w (bucket_of_aim plan aim))) s.world;
        }))
    reader_told r aim course Disturbed since f = one_told r aim
        (record {
          by = ByReader r;
          asked = asked_by_aim aim;
          told = Again;
          began = course.began;
          ended = x.clock + 1;
          steps = course.steps;
        }) refl refl (inl refl)

    reads : (r : ℕ) (peek : Peek) → PeekFits plan (x.readers r) peek → (then : ReaderNow) (answers : List Answer) →
        Peeked x then → All (λ (a : Answer). IsPeek plan es a a.by a.asked) answers →
        happens plan x (OfReader r peek) ≡ ticked (with_reader x r then answers) →
        Seen (es' (OfReader r peek)) (happens plan x (OfReader r peek))
    reads r peek fits then answers keeps all is =
        let event = OfReader r peek in
        let y = ticked (with_reader x r then answers) in
        let moves : Moves plan s.owned.at x y = Stays refl refl in
        record {
          owned = (event_keeps plan is_plan x s.owned event fits).owned;
          world = next_world event;
          clock = ap (λ (w : World). w.clock) is ∙ omega (arith, s.clock, long event);
          readers = λ q. subst (λ (w : World). Peeked w (w.readers q)) (sym is)
              (elim (either_put x.readers r then q) [
                | inl e ↦ subst (λ (k : ReaderNow). Peeked y k) (sym e.1)
                    (standing_still is_plan x y s.owned moves refl then.course.began then.stand keeps)
                | inr e ↦ subst (λ (k : ReaderNow). Peeked y k) (sym e.1)
                    (standing_still is_plan x y s.owned moves refl (x.readers q).course.began (x.readers q).stand
                    (s.readers q))
              ]);
          answers = subst (λ (w : World). All (λ (a : Answer). IsPeek plan (es' event) a a.by a.asked) w.answers)
              (sym is)
              (lifted event answers all);
        }

    then_stands : (r : ℕ) (aim : Aim) (f : GlanceFate) → IsAim plan aim → (x.readers r).course.began ≤ x.clock →
        Fated x aim f → Peeked x (peek_after (x.readers r) aim f)
    then_stands r aim (Looks glance) is since k = (is, since, k)
    then_stands r aim (Shows kept) is since k = tt
    then_stands r aim Disturbed is since k = tt

    reader_goes : (r : ℕ) (stand : Peeking) → (x.readers r).stand ≡ stand → IsPeeking stand →
        Seen (es' (OfReader r Peek_on)) (happens plan x (OfReader r Peek_on))
    reader_goes r S.Rests e flies = absurd flies
    reader_goes r (S.Peeks aim glance) e flies =
        let k : Standing x (x.readers r).course.began (S.Peeks aim glance) =
        subst (λ (st : Peeking). Standing x (x.readers r).course.began st) e (s.readers r) in
        let f = fated x aim glance k.2 in
        let fate_is = glance_fate plan 0 aim glance (found_by (glance_deed plan 0 0 aim glance) x.store) in
        reads r Peek_on (subst IsPeeking (sym e) flies) (peek_after (x.readers r) aim fate_is)
        (peek_answers plan x r aim (stepped (x.readers r).course) fate_is) (then_stands r aim fate_is k.0 k.1 f)
        (reader_told r aim (stepped (x.readers r).course) fate_is k.1 f)
        (ap (λ (st : Peeking). ticked (peeks_on plan x r (x.readers r) st)) e)

    reader_acts : (r : ℕ) (peek : Peek) → PeekFits plan (x.readers r) peek →
        Seen (es' (OfReader r peek)) (happens plan x (OfReader r peek))
    reader_acts r (Open aim tries) fits =
        reads r (Open aim tries) fits
        (record { stand = S.Peeks aim (S.GlanceWord (tries - 1)); course = course_from x.clock }) x.answers
        (fits.1, omega arith, tt) s.answers refl
    reader_acts r Peek_on fits = reader_goes r (x.readers r).stand refl fits

    seat_acts : (p : ℕ) (what : What) → IsEvent plan x (OfSeat p what) →
        Seen (es' (OfSeat p what)) (happens plan x (OfSeat p what))
    seat_acts p what fits =
        let event = OfSeat p what in
        let is : happens plan x event ≡ ticked (act plan x p (seat_in x p) what) =
        ap (λ (c : Bool). cond c (ticked (act plan x p (seat_in x p) what)) x)
        (lt-ltb p (holders_of plan.settings) fits.0) in
        let y = happens plan x event in
        let k = event_keeps plan is_plan x s.owned event fits in
        let same = act_readers plan x p (seat_in x p) what in
        let clock_is : y.clock ≡ x.clock + 1 = ap (λ (w : World). w.clock) is ∙ ap (λ c. c + 1) same.1 in
        record {
          owned = k.owned;
          world = next_world event;
          clock = omega (arith, clock_is, s.clock, long event);
          readers = λ r. subst (λ (f : ℕ → ReaderNow). Peeked y (f r))
              (sym (ap (λ (w : World). w.readers) is ∙ same.0))
              (standing_still is_plan x y s.owned k.moves clock_is (x.readers r).course.began (x.readers r).stand
              (s.readers r));
          answers = subst (λ (w : World). All (λ (a : Answer). IsPeek plan (es' event) a a.by a.asked) w.answers)
              (sym is)
              (seat_answers (λ (a : Answer). IsPeek plan (es' event) a a.by a.asked)
              (λ a seat by. subst (λ q. IsPeek plan (es' event) a q a.asked) (sym by) tt) plan x p (seat_in x p) what
              (lifted event x.answers s.answers));
        }

    seen_next : (event : Event) → IsEvent plan x event → Seen (es' event) (happens plan x event)
    seen_next (OfSeat p what) fits = seat_acts p what fits
    seen_next (OfReader r peek) fits = reader_acts r peek fits

  -- ---- runs

  seen_first : IsPlan plan → Seen [] (opening_world plan)
  seen_first is = record {
    owned = opening_owned plan is;
    world = refl;
    clock = refl;
    readers = λ r. tt;
    answers = All-nil (λ (a : Answer). IsPeek plan [] a a.by a.asked);
  }

  seen_follow : IsPlan plan → (es events : List Event) (x : World) → Seen es x → AreEvents plan x events →
      Seen (es ++ events) (fold (happens plan) x events)
  seen_follow is es [] x h follow = subst (λ (l : List Event). Seen l x) (sym (append-nil es)) h
  seen_follow is es (event ∷ events) x h follow =
      subst (λ (l : List Event). Seen l (fold (happens plan) (happens plan x event) events))
      (append_assoc es (event ∷ []) events)
      (seen_follow is (es ++ event ∷ []) events (happens plan x event) (seen_next is es x h event follow.0) follow.1)

-- THE RESULT
pub peeks_are_of_moments : PeeksAreOfMoments
peeks_are_of_moments plan events run =
    (seen_follow plan run.opened [] events (opening_world plan) (seen_first plan run.opened) run.follow).answers

-- a look that is under way needs no hold
pub peeks_stand : (plan : Plan) (events : List Event) (reader : ℕ) (aim : Aim) (glance : Glance) → IsRun plan events →
    ((world_after plan events).readers reader).stand ≡ S.Peeks aim glance →
    KeepsPeek plan (world_after plan events) (bucket_of_aim plan aim) aim glance
peeks_stand plan events reader aim glance run stood =
    let x = world_after plan events in
    let seen = seen_follow plan run.opened [] events (opening_world plan) (seen_first plan run.opened) run.follow in
    let k : Standing plan x (x.readers reader).course.began (S.Peeks aim glance) =
    subst (Standing plan x (x.readers reader).course.began) stood (seen.readers reader) in
    k.2
