-- A reader's lookup or copy tells what its bucket had at one moment of the call.
use Rattle.std.proofs.Common.{◌≡◌, ℕ, ◌+◌, ◌-◌, ◌<◌, ◌≤◌, ◌⊎◌, inl, inr, Bool, true, false, cond, not, List, [], ◌∷◌, ◌++◌, length, refl, sym, ap, ◌∙◌, subst, arith, append_assoc}
use Rattle.std.specs.Prelude.{◌==◌, ◌&&◌, nat_lt, All, fold, slice_index_or}
use Rattle.std.proofs.lemmas.Bool.{eqb-true, lt-ltb}
use Rattle.std.proofs.lemmas.List.{length-append, append-nil}
use Rattle.std.proofs.lemmas.List.Elements.{All-nil, All-cons, All-append, All-weaker}
use Rattle.step_counts.specs.declared.TheConstants.{ITEM_WORDS}
use Rattle.plain_map.specs.declared.calls.Call.TheVariants.{Insert, Remove, Lookup, Tally, Count, Put}
use Rattle.plain_map.specs.declared.keys.Pair.{Pair}
use Rattle.lasting_model.specs.Plans.{Plan, IsPlan, ample, buckets_of}
use Rattle.lasting_model.specs.Codes.{row_in, generation_in, count_in, count_place, item_place, pair_in, pairs_of_row}
use Rattle.lasting_model.specs.Laws.{pairs_in, IsOfMoment, IsPeek, PeeksAreOfMoments}
use Rattle.lasting_model.specs.Steps as S
use Rattle.lasting_model.specs.Steps.{Aim, OfKey, OfBucket, Source, Tried, HeldIn, Scan, Glance, Course, ReaderNow, Peeking, bucket_of_aim}
use Rattle.lasting_model.specs.Goes.{GlanceFate, Looks, Shows, Disturbed, glance_fate, glance_lost, gone_through, scan_on, scan_of, passed, with_pair, may_be, is_aimed, scan_pair, scan_fate, Asked, Called, Copied, Again, asked_by_aim, told_by_items}
use Rattle.lasting_model.specs.Worlds.{Lasting, Answer, Asker, BySeat, ByReader, Event, OfSeat, OfReader, IsEvent, AreEvents, Peek, Open, Peek_on, IsAim, IsPeeking, PeekFits, What, seat_in, ticked, found_by, stepped, with_reader, peek_after, peek_answers, peeks_on, happens, act, course_from, opening_world, nobody, world_after}
use Rattle.lasting_model.specs.Steps.{glance_deed}
use Rattle.table_model.specs.Goes.{more}
use Rattle.lasting_laws.proofs.Lists.{either_put}
use Rattle.lasting_laws.proofs.Pools.{Pools, owner_in}
use Rattle.lasting_laws.proofs.PoolEvents.{pools_keep, bucket_small}
use Rattle.lasting_laws.proofs.PoolsOpen.{pools_open}
use Rattle.lasting_laws.proofs.Marks.{Marks, Turn, known_of, opening_marks}
use Rattle.lasting_laws.proofs.Scans.{Scans, Tells, begins, next_item, next_word}
use Rattle.lasting_laws.proofs.Turns.{Leaves, IsSeat, seat_leaves}

-- ---- the form of what comes of a word of an item, whatever it is

-- it goes on in the same row, or comes to its check
abbrev Shape : (left word : ℕ) → GlanceFate → Type 0
Shape left word (Looks (S.GlanceItem source scan)) = source ≡ Tried left word
Shape left word (Looks (S.GlanceCheck l w kept)) = (l ≡ left) × (w ≡ word)
Shape left word fate = ⊥

either : (left word : ℕ) (a b : GlanceFate) (c : Bool) → Shape left word a → Shape left word b →
    Shape left word (cond c a b)
either left word a b true sa sb = sa
either left word a b false sa sb = sb

on_shape : (left word : ℕ) (scan : Scan) → Shape left word (scan_on (Tried left word) scan)
on_shape left word scan =
    either left word (Looks (S.GlanceItem (Tried left word) scan)) (gone_through (Tried left word) scan.kept)
    (nat_lt scan.item scan.count) refl (refl, refl)

word_shape : (left word : ℕ) (aim : Aim) (scan : Scan) (found : ℕ) →
    Shape left word (scan_fate (Tried left word) aim scan found)
word_shape left word aim scan found =
    let source = Tried left word in
    let pair = pair_in (more scan.part found) in
    let longer = Looks (S.GlanceItem source (record scan { part = more scan.part found })) in
    either left word (scan_on source (passed scan))
    (cond (nat_lt (length scan.part + 1) ITEM_WORDS) longer (scan_pair source aim scan pair))
    ((length scan.part == 0) && not (may_be aim found)) (on_shape left word (passed scan))
    (either left word longer (scan_pair source aim scan pair) (nat_lt (length scan.part + 1) ITEM_WORDS) refl
    (either left word (gone_through source (more scan.kept pair)) (scan_on source (with_pair scan pair))
    (is_aimed aim pair) (refl, refl) (on_shape left word (with_pair scan pair))))

-- a front is no longer than the whole
front_short : (es front back : List Event) → es ≡ front ++ back → length front ≤ length es
front_short es front back e =
    omega (arith, ap (λ (xs : List Event). length xs) e, length-append front back)

-- a world after two parts of a run
pub after_both : (plan : Plan) (front back : List Event) (x : Lasting) →
    fold (happens plan) x (front ++ back) ≡ fold (happens plan) (fold (happens plan) x front) back
after_both plan [] back x = refl
after_both plan (event ∷ front) back x = after_both plan front back (happens plan x event)

module _ (plan : Plan) where
  -- ---- what holds of a look

  -- a bucket word that was loaded: at one moment since the call began it stood there, and as long as its row has the
  -- generation in it, the row is as it was then
  pub record LooksAt (es : List Event) (x : Lasting) (began : ℕ) (aim : Aim) (word : ℕ) : Type 0 where
    pub front : List Event
    pub back : List Event
    pub cut : es ≡ front ++ back
    pub after : began ≤ length front
    pub word_is : (world_after plan front).store.bucket (bucket_of_aim (ample plan) aim) ≡ word
    pub low : generation_in word ≤ known_of plan x (row_in word)
    pub same : x.store.row (row_in word) 0 ≡ generation_in word →
        (i : ℕ) → x.store.row (row_in word) i ≡ (world_after plan front).store.row (row_in word) i

  -- the row as it was then
  abbrev row_then : (front : List Event) (word : ℕ) → ℕ → ℕ
  row_then front word = (world_after plan front).store.row (row_in word)

  -- as long as its row has that generation
  abbrev pub Stands : (x : Lasting) (word : ℕ) → Type 0
  Stands x word = x.store.row (row_in word) 0 ≡ generation_in word

  -- what a look in a row holds of the items that it has gone through
  pub record InItems (es : List Event) (x : Lasting) (began : ℕ) (aim : Aim) (word : ℕ) (scan : Scan) : Type 0 where
    pub at : LooksAt es x began aim word
    pub scans : Stands x word → Scans (ample plan) aim (row_then at.front word) scan
    pub few : Stands x word → scan.item < scan.count
    pub short : Stands x word → length scan.part < 7

  pub record InCheck (es : List Event) (x : Lasting) (began : ℕ) (aim : Aim) (word : ℕ)
      (kept : List Pair) : Type 0 where
    pub at : LooksAt es x began aim word
    pub tells : Stands x word → Tells (ample plan) aim (row_then at.front word) kept

  abbrev pub KeepsPeek : (es : List Event) (x : Lasting) (began : ℕ) (aim : Aim) → Glance → Type 0
  KeepsPeek es x began aim (S.GlanceWord left) = Unit {0}
  KeepsPeek es x began aim (S.GlanceCount (Tried left word)) = LooksAt es x began aim word
  KeepsPeek es x began aim (S.GlanceItem (Tried left word) scan) = InItems es x began aim word scan
  KeepsPeek es x began aim (S.GlanceCheck left word kept) = InCheck es x began aim word kept
  KeepsPeek es x began aim glance = ⊥

  abbrev pub Standing : (es : List Event) (x : Lasting) (began : ℕ) → Peeking → Type 0
  Standing es x began S.Rests = Unit {0}
  Standing es x began (S.Peeks aim glance) = IsAim plan aim × (began ≤ length es) × KeepsPeek es x began aim glance

  abbrev pub Peeked : (es : List Event) (x : Lasting) → ReaderNow → Type 0
  Peeked es x now = Standing es x now.course.began now.stand

  -- ---- a later moment

  module _ (es : List Event) (x y : Lasting) (event : Event) (turn : Turn plan x y) where
    abbrev later : List Event
    later = es ++ event ∷ []

    longer : length later ≡ length es + 1
    longer = length-append es (event ∷ [])

    -- if it stands now it stood before
    pub stood : (word : ℕ) → generation_in word ≤ known_of plan x (row_in word) → Stands y word →
        Stands x word × ((i : ℕ) → y.store.row (row_in word) i ≡ x.store.row (row_in word) i)
    stood word low stands = elim (turn.rows (row_in word)) [
      | inl same ↦ (sym (same 0) ∙ stands, same)
      | inr new ↦ absurd (omega (arith, new, stands, low))
    ]

    abbrev pub looks_still : (began : ℕ) (aim : Aim) (word : ℕ) → LooksAt es x began aim word →
        LooksAt later y began aim word
    looks_still began aim word l = record {
      front = l.front;
      back = l.back ++ event ∷ [];
      cut = ap (λ (xs : List Event). xs ++ event ∷ []) l.cut ∙ append_assoc l.front l.back (event ∷ []);
      after = l.after;
      word_is = l.word_is;
      low = omega (arith, l.low, turn.known (row_in word));
      same = λ stands i. (let was = stood word l.low stands in was.1 i ∙ l.same was.0 i);
    }

    pub keeps_still : (began : ℕ) (aim : Aim) (glance : Glance) → KeepsPeek es x began aim glance →
        KeepsPeek later y began aim glance
    keeps_still began aim (S.GlanceWord left) k = tt
    keeps_still began aim (S.GlanceCount (Tried left word)) k = looks_still began aim word k
    keeps_still began aim (S.GlanceCount (HeldIn row)) k = absurd k
    keeps_still began aim (S.GlanceItem (Tried left word) scan) k = record {
      at = looks_still began aim word k.at;
      scans = λ stands. k.scans (stood word k.at.low stands).0;
      few = λ stands. k.few (stood word k.at.low stands).0;
      short = λ stands. k.short (stood word k.at.low stands).0;
    }
    keeps_still began aim (S.GlanceItem (HeldIn row) scan) k = absurd k
    keeps_still began aim (S.GlanceCheck left word kept) k = record {
      at = looks_still began aim word k.at;
      tells = λ stands. k.tells (stood word k.at.low stands).0;
    }
    keeps_still began aim S.GlanceWant k = absurd k
    keeps_still began aim S.GlanceAsking k = absurd k
    keeps_still began aim S.GlanceHeld k = absurd k
    keeps_still began aim (S.GlanceTake word) k = absurd k

    standing_still : (began : ℕ) (stand : Peeking) → Standing es x began stand → Standing later y began stand
    standing_still began S.Rests k = tt
    standing_still began (S.Peeks aim glance) k =
        (k.0, omega (arith, k.1, longer), keeps_still began aim glance k.2)

    pub moment_still : (a : Answer) (aim : Aim) → IsOfMoment plan es a aim → IsOfMoment plan later a aim
    moment_still a aim o = record {
      front = o.front;
      back = o.back ++ event ∷ [];
      cut = ap (λ (xs : List Event). xs ++ event ∷ []) o.cut ∙ append_assoc o.front o.back (event ∷ []);
      after = o.after;
      before = o.before;
      is = o.is;
    }

    peek_still : (a : Answer) (by : Asker) (asked : Asked) → IsPeek plan es a by asked → IsPeek plan later a by asked
    peek_still a (BySeat seat) asked k = tt
    peek_still a (ByReader reader) (Called (Lookup key)) k =
        elim k [ inl again ↦ inl again | inr o ↦ inr (moment_still a (OfKey key) o) ]
    peek_still a (ByReader reader) (Called (Insert key value)) k = absurd k
    peek_still a (ByReader reader) (Called (Remove key)) k = absurd k
    peek_still a (ByReader reader) (Called (Tally key amount)) k = absurd k
    peek_still a (ByReader reader) (Called (Count key value amount)) k = absurd k
    peek_still a (ByReader reader) (Called (Put key value)) k = absurd k
    peek_still a (ByReader reader) (Copied bucket) k =
        elim k [ inl again ↦ inl again | inr o ↦ inr (moment_still a (OfBucket bucket) o) ]

  -- ---- all of it

  pub record Seen (es : List Event) (x : Lasting) : Type 0 where
    pub pools : Pools plan x
    pub marks : Marks plan x
    pub world : x ≡ world_after plan es
    pub clock : x.clock ≡ length es
    pub readers : (r : ℕ) → Peeked es x (x.readers r)
    pub answers : All (λ (a : Answer). IsPeek plan es a a.by a.asked) x.answers

  -- each aim is of a bucket that there is
  pub aimed : (aim : Aim) → IsAim plan aim → bucket_of_aim (ample plan) aim < buckets_of plan.settings
  aimed (OfKey key) is = bucket_small plan key
  aimed (OfBucket bucket) is = is

  module _ (is_plan : IsPlan plan) (es : List Event) (x : Lasting) (s : Seen es x) where
    -- ---- a step of a reader

    -- nothing is another by it
    stays : (y : Lasting) → y.store ≡ x.store → y.seats ≡ x.seats → Turn plan x y
    stays y store seats = record {
      rows = λ row. inl (λ i. ap (λ w. w.row row i) store);
      known = λ row. (let e : known_of plan y row ≡ known_of plan x row =
          ap (λ (ss : List S.SeatNow). (slice_index_or ss (owner_in plan row) nobody).generation row) seats in
          omega (arith, e));
    }

    module _ (r : ℕ) where
      abbrev now : ReaderNow
      now = x.readers r

      -- what a fate leaves to be kept
      abbrev pub Fated : (began : ℕ) (aim : Aim) → GlanceFate → Type 0
      Fated began aim (Looks glance) = KeepsPeek es x began aim glance
      Fated began aim (Shows kept) =
          (front : List Event) × (back : List Event) × (es ≡ front ++ back) × (began ≤ length front)
          × (length front ≤ x.clock + 1)
          × (told_by_items (ample plan) aim kept
          ≡ told_by_items (ample plan) aim (pairs_in plan (world_after plan front) (bucket_of_aim (ample plan) aim)))
      Fated began aim Disturbed = Unit {0}

      -- what is so if the row stands, beside the form
      abbrev Content : (front : List Event) (word : ℕ) (aim : Aim) → GlanceFate → Type 0
      Content front word aim (Looks (S.GlanceItem source scan)) =
          Scans (ample plan) aim (row_then front word) scan × (scan.item < scan.count) × (length scan.part < 7)
      Content front word aim (Looks (S.GlanceCheck l w kept)) = Tells (ample plan) aim (row_then front word) kept
      Content front word aim fate = Unit {0}

      both : (began : ℕ) (aim : Aim) (left word : ℕ) (l : LooksAt es x began aim word) (f : GlanceFate) →
          Shape left word f → (Stands x word → Content l.front word aim f) → Fated began aim f
      both began aim left word l (Looks (S.GlanceItem source scan)) shape content =
          subst (λ (src : Source). KeepsPeek es x began aim (S.GlanceItem src scan)) (sym shape)
          (record {
            at = l;
            scans = λ stands. (content stands).0;
            few = λ stands. (content stands).1;
            short = λ stands. (content stands).2;
          })
      both began aim left word l (Looks (S.GlanceCheck a w kept)) shape content =
          subst (λ k. KeepsPeek es x began aim (S.GlanceCheck a k kept)) (sym shape.1)
          (record { at = l; tells = content })
      both began aim left word l (Looks (S.GlanceWord k)) shape content = absurd shape
      both began aim left word l (Looks (S.GlanceCount source)) shape content = absurd shape
      both began aim left word l (Looks S.GlanceWant) shape content = absurd shape
      both began aim left word l (Looks S.GlanceAsking) shape content = absurd shape
      both began aim left word l (Looks S.GlanceHeld) shape content = absurd shape
      both began aim left word l (Looks (S.GlanceTake k)) shape content = absurd shape
      both began aim left word l (Shows kept) shape content = absurd shape
      both began aim left word l Disturbed shape content = absurd shape

      -- where the items are gone through
      at_end : (front : List Event) (word left : ℕ) (aim : Aim) (kept : List Pair) →
          Tells (ample plan) aim (row_then front word) kept →
          Content front word aim (gone_through (Tried left word) kept)
      at_end front word left aim kept tells = tells

      lost : (began : ℕ) (aim : Aim) (left : ℕ) → Fated began aim (glance_lost left)
      lost began aim left = go (nat_lt 0 left)
        where
          go : (b : Bool) → Fated began aim (cond b (Looks (S.GlanceWord (left - 1))) Disturbed)
          go true = tt
          go false = tt

      pub fated : (began : ℕ) (aim : Aim) (glance : Glance) → IsAim plan aim → began ≤ length es →
          KeepsPeek es x began aim glance →
          Fated began aim (glance_fate (ample plan) 0 aim glance
          (found_by (glance_deed (ample plan) 0 0 aim glance) x.store))
      fated began aim (S.GlanceWord left) is since k =
          let b = bucket_of_aim (ample plan) aim in
          let word = x.store.bucket b in
          record {
            front = es;
            back = [];
            cut = sym (append-nil es);
            after = since;
            word_is = ap (λ (w : Lasting). w.store.bucket b) (sym s.world);
            low = s.marks.old b (aimed aim is);
            same = λ stands i. ap (λ (w : Lasting). w.store.row (row_in word) i) s.world;
          }
      fated began aim (S.GlanceCount (Tried left word)) is since k =
          let l : LooksAt es x began aim word = k in
          let found = x.store.row (row_in word) (count_place (ample plan)) in
          both began aim left word l (scan_on (Tried left word) (scan_of (count_in (ample plan) found)))
          (on_shape left word (scan_of (count_in (ample plan) found)))
          (λ stands.
          let true_count : found ≡ row_then l.front word (count_place (ample plan)) =
          l.same stands (count_place (ample plan)) in
          subst (λ n. Content l.front word aim (scan_on (Tried left word) (scan_of (count_in (ample plan) n))))
          (sym true_count)
          (next_item (ample plan) (row_then l.front word) aim (Tried left word) (Content l.front word aim)
          (λ scan scans few short. (scans, few, short)) (at_end l.front word left aim)
          (scan_of (count_in (ample plan) (row_then l.front word (count_place (ample plan)))))
          (begins (ample plan) (row_then l.front word) aim) refl))
      fated began aim (S.GlanceCount (HeldIn row)) is since k = absurd k
      fated began aim (S.GlanceItem (Tried left word) scan) is since k =
          let l : InItems es x began aim word scan = k in
          let found = x.store.row (row_in word) (item_place (ample plan) scan.item (length scan.part)) in
          both began aim left word l.at (scan_fate (Tried left word) aim scan found)
          (word_shape left word aim scan found)
          (λ stands.
          next_word (ample plan) (row_then l.at.front word) aim (Tried left word) (Content l.at.front word aim)
          (λ after scans few short. (scans, few, short)) (at_end l.at.front word left aim) scan found
          (l.scans stands) (l.few stands) (l.short stands)
          (l.at.same stands (item_place (ample plan) scan.item (length scan.part))))
      fated began aim (S.GlanceItem (HeldIn row) scan) is since k = absurd k
      fated began aim (S.GlanceCheck left word kept) is since k =
          go (x.store.row (row_in word) 0 == generation_in word) refl
        where
          l : LooksAt es x began aim word
          l = k.at

          b : ℕ
          b = bucket_of_aim (ample plan) aim

          go : (c : Bool) → (x.store.row (row_in word) 0 == generation_in word) ≡ c →
              Fated began aim (cond c (Shows kept) (glance_lost left))
          go false e = lost began aim left
          go true e =
              let stands : Stands x word = eqb-true (x.store.row (row_in word) 0) (generation_in word) e in
              let short : length l.front ≤ length es = front_short es l.front l.back l.cut in (
                l.front,
                l.back,
                l.cut,
                l.after,
                omega (arith, short, s.clock),
                k.tells stands
                    ∙ ap (λ w. told_by_items (ample plan) aim
                    (pairs_of_row (ample plan) ((world_after plan l.front).store.row (row_in w)))) (sym l.word_is),
              )
      fated began aim S.GlanceWant is since k = absurd k
      fated began aim S.GlanceAsking is since k = absurd k
      fated began aim S.GlanceHeld is since k = absurd k
      fated began aim (S.GlanceTake word) is since k = absurd k

      -- ---- what is told, and what is kept

      one_told : (aim : Aim) (a : Answer) → a.by ≡ ByReader r → a.asked ≡ asked_by_aim aim →
          (a.told ≡ Again) ⊎ IsOfMoment plan es a aim →
          All (λ (b : Answer). IsPeek plan es b b.by b.asked) (x.answers ++ a ∷ [])
      one_told aim a by asked is =
          All-append (λ (b : Answer). IsPeek plan es b b.by b.asked) x.answers (a ∷ []) s.answers
          (All-cons (λ (b : Answer). IsPeek plan es b b.by b.asked) a []
          (subst (λ q. IsPeek plan es a q a.asked) (sym by)
          (subst (λ q. IsPeek plan es a (ByReader r) q) (sym asked) (by_aim aim is)))
          (All-nil (λ (b : Answer). IsPeek plan es b b.by b.asked)))
        where
          by_aim : (m : Aim) → (a.told ≡ Again) ⊎ IsOfMoment plan es a m →
              IsPeek plan es a (ByReader r) (asked_by_aim m)
          by_aim (OfKey key) k = k
          by_aim (OfBucket bucket) k = k

      told : (by : Asker) (aim : Aim) (began : ℕ) (course : Course) (kept : List Pair) → course.began ≡ began →
          Fated began aim (Shows kept) →
          (let a : Answer = record {
            by = by;
            asked = asked_by_aim aim;
            told = told_by_items (ample plan) aim kept;
            began = course.began;
            ended = x.clock + 1;
            steps = course.steps;
          } in IsOfMoment plan es a aim)
      told by aim began course kept e f = record {
        front = f.0;
        back = f.1;
        cut = f.2;
        after = subst (λ n. n ≤ length f.0) (sym e) f.3;
        before = f.4;
        is = f.5;
      }

      reader_told : (aim : Aim) (course : Course) (f : GlanceFate) → Fated course.began aim f →
          All (λ (a : Answer). IsPeek plan es a a.by a.asked) (peek_answers (ample plan) x r aim course f)
      reader_told aim course (Looks glance) f = s.answers
      reader_told aim course (Shows kept) f = one_told aim
          (record {
            by = ByReader r;
            asked = asked_by_aim aim;
            told = told_by_items (ample plan) aim kept;
            began = course.began;
            ended = x.clock + 1;
            steps = course.steps;
          }) refl refl (inr (told (ByReader r) aim course.began course kept refl f))
      reader_told aim course Disturbed f = one_told aim
          (record {
            by = ByReader r;
            asked = asked_by_aim aim;
            told = Again;
            began = course.began;
            ended = x.clock + 1;
            steps = course.steps;
          }) refl refl (inl refl)

    -- ---- the next moment

    module _ (event : Event) where
      abbrev es' : List Event
      es' = es ++ event ∷ []

      -- what is left to be shown, where the pools and the marks are kept
      next_world : happens plan x event ≡ world_after plan es'
      next_world =
          ap (λ (w : Lasting). happens plan w event) s.world
          ∙ sym (after_both plan es (event ∷ []) (opening_world plan))

      long : length es' ≡ length es + 1
      long = length-append es (event ∷ [])

      lifted : (answers : List Answer) → All (λ (a : Answer). IsPeek plan es a a.by a.asked) answers →
          All (λ (a : Answer). IsPeek plan es' a a.by a.asked) answers
      lifted answers all =
          All-weaker (λ (a : Answer). IsPeek plan es a a.by a.asked) (λ (a : Answer). IsPeek plan es' a a.by a.asked)
          (λ a k. peek_still es x x event (stays x refl refl) a a.by a.asked k) answers all

    -- a reader's event
    module _ (r : ℕ) (peek : Peek) (fits : PeekFits plan (x.readers r) peek) where
      abbrev event : Event
      event = OfReader r peek

      reads : (then : ReaderNow) (answers : List Answer) → Peeked es x then →
          All (λ (a : Answer). IsPeek plan es a a.by a.asked) answers →
          happens plan x event ≡ ticked (with_reader x r then answers) → Seen (es' event) (happens plan x event)
      reads then answers keeps all is =
          let y = ticked (with_reader x r then answers) in
          let turn : Turn plan x y = stays y refl refl in
          record {
            pools = pools_keep plan is_plan x s.pools event fits;
            marks = subst (λ (w : Lasting). Marks plan w) (sym is)
                (record { fresh = s.marks.fresh; old = s.marks.old; writing = s.marks.writing });
            world = next_world event;
            clock = ap (λ (w : Lasting). w.clock) is ∙ omega (arith, s.clock, long event);
            readers = λ q. subst (λ (w : Lasting). Peeked (es' event) w (w.readers q)) (sym is)
                (elim (either_put x.readers r then q) [
                  | inl e ↦ subst (λ (n : ReaderNow). Peeked (es' event) y n) (sym e.1)
                      (standing_still es x y event turn then.course.began then.stand keeps)
                  | inr e ↦ subst (λ (n : ReaderNow). Peeked (es' event) y n) (sym e.1)
                      (standing_still es x y event turn (x.readers q).course.began (x.readers q).stand (s.readers q))
                ]);
            answers = subst (λ (w : Lasting). All (λ (a : Answer). IsPeek plan (es' event) a a.by a.asked) w.answers)
                (sym is)
                (lifted event answers all);
          }

    -- where it stands after a step
    then_stands : (r : ℕ) (aim : Aim) (f : GlanceFate) → IsAim plan aim → (x.readers r).course.began ≤ length es →
        Fated r (x.readers r).course.began aim f → Peeked es x (peek_after (x.readers r) aim f)
    then_stands r aim (Looks glance) is since k = (is, since, k)
    then_stands r aim (Shows kept) is since k = tt
    then_stands r aim Disturbed is since k = tt

    reader_goes : (r : ℕ) (stand : Peeking) → (x.readers r).stand ≡ stand → IsPeeking stand →
        Seen (es' (OfReader r Peek_on)) (happens plan x (OfReader r Peek_on))
    reader_goes r S.Rests e flies = absurd flies
    reader_goes r (S.Peeks aim glance) e flies =
        let k : Standing es x (x.readers r).course.began (S.Peeks aim glance) =
        subst (λ (st : Peeking). Standing es x (x.readers r).course.began st) e (s.readers r) in
        let found = found_by (glance_deed (ample plan) 0 0 aim glance) x.store in
        let next = glance_fate (ample plan) 0 aim glance found in
        let f = fated r (x.readers r).course.began aim glance k.0 k.1 k.2 in
        reads r Peek_on (subst IsPeeking (sym e) flies) (peek_after (x.readers r) aim next)
        (peek_answers (ample plan) x r aim (stepped (x.readers r).course) next)
        (then_stands r aim next k.0 k.1 f) (reader_told r aim (stepped (x.readers r).course) next f)
        (ap (λ (st : Peeking). ticked (peeks_on plan x r (x.readers r) st)) e)

    reader_acts : (r : ℕ) (peek : Peek) → PeekFits plan (x.readers r) peek →
        Seen (es' (OfReader r peek)) (happens plan x (OfReader r peek))
    reader_acts r (Open aim tries) fits =
        let since : x.clock ≤ length es = omega (arith, s.clock) in
        reads r (Open aim tries) fits
        (record { stand = S.Peeks aim (S.GlanceWord (tries - 1)); course = course_from x.clock }) x.answers
        (fits.1, since, tt) s.answers refl
    reader_acts r Peek_on fits = reader_goes r (x.readers r).stand refl fits

    -- a seat's event
    seat_acts : (p : ℕ) (what : What) → IsEvent plan x (OfSeat p what) →
        Seen (es' (OfSeat p what)) (happens plan x (OfSeat p what))
    seat_acts p what fits =
        let event = OfSeat p what in
        let test = lt-ltb p plan.settings.seats fits.0 in
        let l = subst (λ (b : Bool). Leaves plan x (cond b (ticked (act plan x p (seat_in x p) what)) x)) (sym test)
        (seat_leaves plan is_plan x s.pools s.marks p fits.0 what fits.1) in
        let y = happens plan x event in
        record {
          pools = pools_keep plan is_plan x s.pools event fits;
          marks = l.marks;
          world = next_world event;
          clock = omega (arith, l.clock, s.clock, long event);
          readers = λ r. subst (λ (f : ℕ → ReaderNow). Peeked (es' event) y (f r)) (sym l.readers)
              (standing_still es x y event l.turn (x.readers r).course.began (x.readers r).stand (s.readers r));
          answers = l.answers (λ (a : Answer). IsPeek plan (es' event) a a.by a.asked)
              (λ a seat. by_seat event a a.by a.asked seat) (lifted event x.answers s.answers);
        }
      where
        by_seat : (event : Event) (a : Answer) (by : Asker) (asked : Asked) → IsSeat by → IsPeek plan
            (es' event) a by asked
        by_seat event a (BySeat seat) asked is = tt
        by_seat event a (ByReader reader) asked is = absurd is

    pub seen_next : (event : Event) → IsEvent plan x event → Seen (es' event) (happens plan x event)
    seen_next (OfSeat p what) fits = seat_acts p what fits
    seen_next (OfReader r peek) fits = reader_acts r peek fits

  -- ---- runs

  pub seen_first : IsPlan plan → Seen [] (opening_world plan)
  seen_first is = record {
    pools = pools_open plan is;
    marks = marks_open is;
    world = refl;
    clock = refl;
    readers = λ r. tt;
    answers = All-nil (λ (a : Answer). IsPeek plan [] a a.by a.asked);
  }
    where
      marks_open : IsPlan plan → Marks plan (opening_world plan)
      marks_open is = opening_marks plan is

  pub seen_follow : IsPlan plan → (es events : List Event) (x : Lasting) → Seen es x → AreEvents plan x events →
      Seen (es ++ events) (fold (happens plan) x events)
  seen_follow is es [] x h follow = subst (λ (l : List Event). Seen l x) (sym (append-nil es)) h
  seen_follow is es (event ∷ events) x h follow =
      subst (λ (l : List Event). Seen l (fold (happens plan) (happens plan x event) events))
      (append_assoc es (event ∷ []) events)
      (seen_follow is (es ++ event ∷ []) events (happens plan x event) (seen_next is es x h event follow.0) follow.1)

-- THE RESULT
pub peeks_are_of_moments : PeeksAreOfMoments
peeks_are_of_moments plan events run =
    (seen_follow plan run.opened [] events (opening_world plan) (seen_first plan run.opened) run.follow).answers
