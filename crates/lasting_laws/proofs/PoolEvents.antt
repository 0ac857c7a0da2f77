-- Each event of a lasting table keeps the pools of all seats, and refuses no update.
use Rattle.std.proofs.Common.{◌≡◌, ◌≢◌, ℕ, ◌+◌, ◌-◌, ◌*◌, ◌^◌, ◌<◌, ◌≤◌, ◌⊎◌, inl, inr, Bool, true, false, cond, List, [], ◌∷◌, ◌++◌, length, drop, Option, Some, None, refl, sym, ap, ◌∙◌, subst, arith, get_or-set_same, get_or-set_other, length-set, lt-ltb}
use Rattle.std.specs.Prelude.{◌==◌, All, slice_index, slice_index_or}
use Rattle.std.proofs.lemmas.Bool.{cases_eq, eq-eqb}
use Rattle.std.proofs.lemmas.List.{length-append, append-nil}
use Rattle.std.proofs.lemmas.List.Elements.{All-nil, All-cons, All-append}
use Rattle.std.proofs.Math.Nat.{div-lt_iff_lt-mul, mul-le-mul}
use Rattle.list_laws.proofs.Lists.{In, in_left, in_right}
use Rattle.list_laws.proofs.Totals.{one_if}
use Rattle.plain_map.specs.declared.calls.Call.{Call}
use Rattle.plain_map.specs.declared.calls.Call.TheVariants.{Insert, Remove, Lookup, Tally, Count, Put}
use Rattle.plain_map.specs.declared.keys.Pair.{Pair}
use Rattle.word_rows.proofs.MemoryLemmas.{put_same, put_other}
use Rattle.bucket_states.specs.declared.ops.Op.{Op}
use Rattle.plain_map.specs.declared.calls.Reply.{Reply}
use Rattle.plain_map.specs.declared.keys.Key.{Key}
use Rattle.plain_map.specs.Calls.{key_in}
use Rattle.step_counts.specs.declared.settings.Settings.{Settings}
use Rattle.run_invariant.proofs.Loads.{bits_below}
use Rattle.table_model.specs.Setup.{Setup, settings_of}
use Rattle.lasting_model.specs.Plans.{Plan, IsPlan, PIECE, ample, buckets_of, bucket_for}
use Rattle.lasting_model.specs.Codes.{tag, row_in}
use Rattle.lasting_model.specs.Words as W
use Rattle.lasting_model.specs.Words.{with_word}
use Rattle.lasting_model.specs.Laws.{IsTaken}
use Rattle.lasting_model.specs.Steps as S
use Rattle.lasting_model.specs.Steps.{Step, Stand, Sweep, SeatNow, ReaderNow, Peeking, Update, Try, Course, deed_of, glance_deed, sweep_deed, bucket_of_update, made, next_row, next_generation, Aim, Glance, OfKey, OfBucket}
use Rattle.lasting_model.specs.Goes.{SweepFate, SweepsOn, Swept, sweep_fate_of, swept, sweep_begins, Fate, On, Ends, Refuses, first_fate, piece_fate, reply_by, ends_with, lost, fate, with_published, GlanceFate, Looks, Shows, Disturbed, glance_fate, told_by_items, asked_by_aim, Asked, Called, Told, Replied, Again}
use Rattle.lasting_model.specs.Worlds.{Lasting, Answer, Asker, BySeat, ByReader, seat_in, with_seat, ticked, found_by, store_after, seat_after, answers_after, with_answer, stepped, goes, glances, look_after, look_answers, next_update, course_from, update_begins, look_begins, nobody, happens, act, peek_acts, peek_after, peek_answers, Event, OfSeat, OfReader, IsEvent, What, Begin, Copy, Step_on, Peek, Open, Peek_on, LOOK_TRIES, call_begins, goes_on, IsFlying, Fits, with_reader, IsPeeking, peeks_on, PeekFits}
use Rattle.lasting_laws.proofs.Words.{row_of_tag}
use Rattle.lasting_laws.proofs.FixedDepth.{prefix_is_class}
use Rattle.lasting_laws.proofs.Pools.{owner_in, todo_of, gone_of, is_row, times, Lists, places, needs, spent, Room, HasRow, Pool, PoolOf, word_in, Placed, Pools, in_many, publishes, stays_listed, owned, single, frees_all}
use Rattle.lasting_laws.proofs.Sweeping.{Stay, Good, UnderWay, IsFound, sweep_good}
use Rattle.lasting_laws.proofs.PoolSteps.{Leads, IsOther, leads, quiet_words, quiet_sweep, quiet_step, quiet_glance, IsNoExchange, plain, pieced, begins, begun, GoesOn, eased, at_most}

-- what all answers are
abbrev AllTaken : List Answer → Type 0
AllTaken answers = All (λ (a : Answer). IsTaken a.told) answers

-- with one more
one_taken : (x : Lasting) (by : Asker) (asked : Asked) (told : Told) (course : Course) → AllTaken x.answers →
    IsTaken told → AllTaken (with_answer x by asked told course)
one_taken x by asked told course all this =
    let a : Answer = record {
      by = by;
      asked = asked;
      told = told;
      began = course.began;
      ended = x.clock + 1;
      steps = course.steps;
    } in
    All-append (λ (b : Answer). IsTaken b.told) x.answers (a ∷ []) all
    (All-cons (λ (b : Answer). IsTaken b.told) a [] this (All-nil (λ (b : Answer). IsTaken b.told)))

-- the room that a plan gives
pub enough : (plan : Plan) → IsPlan plan → 2 * places plan ≤ plan.rows
enough plan is = omega (arith, is.rows)

module _ (plan : Plan) (is_plan : IsPlan plan) (x : Lasting) (h : Pools plan x) (p : ℕ)
    (inside : p < plan.settings.seats) where
  abbrev now : SeatNow
  now = seat_in x p

  abbrev word : ℕ → ℕ
  word = word_in x

  pool : PoolOf plan word p now
  pool = h.seats p inside

  long : p < length x.seats
  long = omega (arith, inside, h.long)

  -- a seat is another then, and no bucket word
  module _ (store : W.Store) (same : store.bucket ≡ x.store.bucket) (then : SeatNow) (answers : List Answer)
      (fits : PoolOf plan word p then)
      (stay : Stay plan word p inside now.free now.named (todo_of now.sweep) then.named (todo_of then.sweep))
      (taken : AllTaken answers) where
    abbrev y : Lasting
    y = ticked (with_seat x p store then answers)

    words_same : word ≡ word_in y
    words_same = λ i b. row_in (sym same i b)

    mine : seat_in y p ≡ then
    mine = get_or-set_same x.seats p then nobody long

    others : (q : ℕ) → q ≢ p → seat_in y q ≡ seat_in x q
    others q other = get_or-set_other x.seats p q then nobody other

    placed_still : (b : ℕ) → b < buckets_of plan.settings → Placed plan x b → Placed plan y b
    placed_still b less was =
        let here : word b ≡ word_in y b = ap (λ (f : ℕ → ℕ). f b) words_same in
        let at : ℕ = owner_in plan (word b) in
        let stands : In (word b, b) (seat_in y at).named ⊎ In (word b, b) (todo_of (seat_in y at).sweep) =
        elim (cases_eq at p) [
          | inl e ↦
              let old : In (word b, b) now.named ⊎ In (word b, b) (todo_of now.sweep) =
              subst (λ q. In (word b, b) (seat_in x q).named ⊎ In (word b, b) (todo_of (seat_in x q).sweep)) e was.is in
              subst (λ (s : SeatNow). In (word b, b) s.named ⊎ In (word b, b) (todo_of s.sweep))
              (sym mine ∙ ap (seat_in y) (sym e)) (stay (word b, b) old refl)
          | inr n ↦
              subst (λ (s : SeatNow). In (word b, b) s.named ⊎ In (word b, b) (todo_of s.sweep))
              (sym (others at n)) was.is
        ] in
        record {
          owned = subst (λ r. owner_in plan r < plan.settings.seats) here was.owned;
          is = subst
              (λ r. (let s = seat_in y (owner_in plan r) in In (r, b) s.named ⊎ In (r, b)
              (todo_of s.sweep))) here stands;
        }

    pub quietly : Pools plan y
    quietly = record {
      long = length-set x.seats p then ∙ h.long;
      seats = λ q less. subst (λ f. PoolOf plan f q (seat_in y q)) words_same (elim (cases_eq q p) [
        | inl e ↦ subst (λ i. PoolOf plan word i (seat_in y i)) (sym e) (subst (PoolOf plan word p) (sym mine) fits)
        | inr n ↦ subst (PoolOf plan word q) (sym (others q n)) (h.seats q less)
      ]);
      placed = λ b less. placed_still b less (h.placed b less);
      taken = taken;
    }

  -- ---- an exchange that happens

  module _ (b generation : ℕ) (small : b < buckets_of plan.settings) (row : ℕ) (rest : List ℕ)
      (free_is : now.free ≡ row ∷ rest) (then : SeatNow) (answers : List Answer) (taken : AllTaken answers)
      (free_then : then.free ≡ rest) (named_then : then.named ≡ now.named ++ (row, b) ∷ [])
      (sweep_then : then.sweep ≡ now.sweep) (quiet : needs then.stand ≡ 0) (done : spent then.stand ≡ 0)
      (rowless : HasRow rest then.stand) (u : Update) (attempt : Try) (found : List (Option Op))
      (stood : now.stand ≡ S.Goes u (S.Exchange attempt found)) where
    abbrev z : Lasting
    z = ticked (with_seat x p (with_word x.store (W.Bucket b) (tag generation row)) then answers)

    lists : Lists plan word p (row ∷ rest) now.named (todo_of now.sweep) (gone_of now.sweep)
    lists = subst (λ fs. Lists plan word p fs now.named (todo_of now.sweep) (gone_of now.sweep)) free_is pool.lists

    counted : 1 ≤ times row (row ∷ rest) now.named (todo_of now.sweep) (gone_of now.sweep)
    counted =
        (let one : one_if (is_row row) row ≡ 1 = ap flag (eq-eqb row row refl) in omega (arith, one))
      where
        flag : Bool → ℕ
        flag c = cond c 1 0

    -- the row is the seat's, so its number is small
    own : owner_in plan row ≡ p
    own = owned plan word p (row ∷ rest) now.named (todo_of now.sweep) (gone_of now.sweep) lists row counted

    row_small : row < 2 ^ 17
    row_small =
        let some : 0 < plan.rows = omega (arith, enough plan is_plan, inside) in
        let below : row < plan.settings.seats * plan.rows =
        (div-lt_iff_lt-mul {k = plan.rows} {x = row} {y = plan.settings.seats} some).0 (omega (arith, own, inside)) in
        let most : plan.settings.seats * plan.rows ≤ 8 * 2 ^ 14 =
        mul-le-mul plan.settings.seats_in_range.1 is_plan.few in
        omega (arith, below, most)

    here : word_in z b ≡ row
    here = ap row_in (put_same x.store.bucket b (tag generation row)) ∙ row_of_tag generation row row_small

    elsewhere : (a : ℕ) → a ≢ b → word_in z a ≡ word a
    elsewhere a n = ap row_in (put_other x.store.bucket b (tag generation row) a n)

    z_mine : seat_in z p ≡ then
    z_mine = get_or-set_same x.seats p then nobody long

    z_others : (q : ℕ) → q ≢ p → seat_in z q ≡ seat_in x q
    z_others q other = get_or-set_other x.seats p q then nobody other

    -- the room of this seat: one row more is named
    room_then : (sweep : Option Sweep) → Room plan word p now.named sweep (S.Goes u (S.Exchange attempt found)) →
        ((r : ℕ × ℕ) → In r (todo_of sweep) → r.0 ≢ row) →
        Room plan (word_in z) p (now.named ++ (row, b) ∷ []) sweep then.stand
    room_then None room apart = omega (arith, room, length-append now.named ((row, b) ∷ []), quiet)
    room_then (Some (S.Homes todo gone)) room apart = (
      record {
        kept = room.0.kept;
        since = room.0.since + 1;
        named_are = omega (arith, room.0.named_are, length-append now.named ((row, b) ∷ []));
        inside = room.0.inside;
        once = room.0.once;
        replaced = λ r i among. elim (cases_eq r.1 b) [
          | inl e ↦ λ same. apart r i (sym (sym here ∙ ap (word_in z) (sym e) ∙ same))
          | inr n ↦ λ same. room.0.replaced r i among (sym (elsewhere r.1 n) ∙ same)
        ];
        start = room.0.start;
        slow = omega (arith, room.0.slow, done);
      },
      room.1,
    )
    room_then (Some (S.Seats k gone)) room apart = absurd room.1
    room_then (Some (S.Sees k t gone)) room apart = absurd room.1
    room_then (Some (S.Loads k t bucket gone)) room apart = absurd room.1
    room_then (Some (S.Gives k t own_row gone)) room apart = absurd room.1

    todo_apart : (r : ℕ × ℕ) → In r (todo_of now.sweep) → r.0 ≢ row
    todo_apart r i e =
        let one : one_if (is_row r.0) row ≡ 1 = ap flag (eq-eqb row (r.0) (sym e)) in
        omega (
          arith,
          one,
          in_many r (todo_of now.sweep) i,
          single plan word p (row ∷ rest) now.named (todo_of now.sweep) (gone_of now.sweep) lists (r.0),
        )
      where
        flag : Bool → ℕ
        flag c = cond c 1 0

    pool_then : PoolOf plan (word_in z) p then
    pool_then =
        let made : Pool plan (word_in z) p rest (now.named ++ (row, b) ∷ []) now.sweep then.stand = record {
          lists = publishes plan word p (word_in z) row rest now.named (todo_of now.sweep) (gone_of now.sweep) b lists
              small here elsewhere;
          room = room_then now.sweep
              (subst (λ (s : Stand). Room plan word p now.named now.sweep s) stood pool.room) todo_apart;
          row = rowless;
        } in
        subst (λ (s : Option Sweep). Pool plan (word_in z) p then.free then.named s then.stand) (sym sweep_then)
        (subst (λ (ns : List (ℕ × ℕ)). Pool plan (word_in z) p then.free ns now.sweep then.stand) (sym named_then)
        (subst (λ (fs : List ℕ). Pool plan (word_in z) p fs (now.named ++ (row, b) ∷ []) now.sweep then.stand)
        (sym free_then) made))

    -- the room of another: the row that stands in the bucket word now is none of its own
    room_other : (q : ℕ) → q ≢ p → (named : List (ℕ × ℕ)) (free : List ℕ) (sweep : Option Sweep) (stand : Stand) →
        Lists plan word q free named (todo_of sweep) (gone_of sweep) → Room plan word q named sweep stand →
        Room plan (word_in z) q named sweep stand
    room_other q n named free None stand l room = room
    room_other q n named free (Some (S.Homes todo gone)) stand l room = (
      record {
        kept = room.0.kept;
        since = room.0.since;
        named_are = room.0.named_are;
        inside = room.0.inside;
        once = room.0.once;
        replaced = λ r i among. elim (cases_eq r.1 b) [
          | inl e ↦ λ same. n
              (sym (owned plan word q free named todo gone l (r.0) (omega (arith, in_many r todo i)))
              ∙ ap (owner_in plan) (sym (sym here ∙ ap (word_in z) (sym e) ∙ same)) ∙ own)
          | inr m ↦ λ same. room.0.replaced r i among (sym (elsewhere r.1 m) ∙ same)
        ];
        start = room.0.start;
        slow = room.0.slow;
      },
      room.1,
    )
    room_other q n named free (Some (S.Seats k gone)) stand l room = room
    room_other q n named free (Some (S.Sees k t gone)) stand l room = room
    room_other q n named free (Some (S.Loads k t bucket gone)) stand l room = room
    room_other q n named free (Some (S.Gives k t own_row gone)) stand l room = room

    pool_other : (q : ℕ) → q ≢ p → q < plan.settings.seats → PoolOf plan (word_in z) q (seat_in x q)
    pool_other q n less =
        let s = seat_in x q in
        let was = h.seats q less in
        record {
          lists = stays_listed plan word q (word_in z) s.free s.named (todo_of s.sweep) (gone_of s.sweep) b was.lists
              (λ e. n (sym e ∙ ap (owner_in plan) here ∙ own)) elsewhere;
          room = room_other q n s.named s.free s.sweep s.stand was.lists was.room;
          row = was.row;
        }

    placed_then : (a : ℕ) → a < buckets_of plan.settings → Placed plan z a
    placed_then a less = elim (cases_eq a b) [
      | inl e ↦
          let at : word_in z a ≡ row = ap (word_in z) e ∙ here in
          let stands : In (row, b) (seat_in z p).named ⊎ In (row, b) (todo_of (seat_in z p).sweep) =
          inl (subst (λ (s : SeatNow). In (row, b) s.named) (sym z_mine)
          (subst (λ (ns : List (ℕ × ℕ)). In (row, b) ns) (sym named_then)
          (in_right (row, b) now.named ((row, b) ∷ []) (inl refl)))) in
          record {
            owned = subst (λ q. q < plan.settings.seats) (sym (ap (owner_in plan) at ∙ own)) inside;
            is = subst (λ q. In (word_in z a, a) (seat_in z q).named ⊎ In (word_in z a, a)
                (todo_of (seat_in z q).sweep))
                (sym (ap (owner_in plan) at ∙ own))
                (subst (λ (r : ℕ × ℕ). In r (seat_in z p).named ⊎ In r (todo_of (seat_in z p).sweep))
                (λ i. (sym at i, sym e i)) stands);
          }
      | inr n ↦
          let was = h.placed a less in
          let same : word a ≡ word_in z a = sym (elsewhere a n) in
          let q : ℕ = owner_in plan (word a) in
          let stands : In (word a, a) (seat_in z q).named ⊎ In (word a, a) (todo_of (seat_in z q).sweep) =
          elim (cases_eq q p) [
            | inl e ↦
                let old : In (word a, a) now.named ⊎ In (word a, a) (todo_of now.sweep) =
                subst (λ i. In (word a, a) (seat_in x i).named ⊎ In (word a, a)
                (todo_of (seat_in x i).sweep)) e was.is in
                let new : In (word a, a) then.named ⊎ In (word a, a) (todo_of then.sweep) = elim old [
                  | inl c ↦ inl (subst (λ (ns : List (ℕ × ℕ)). In (word a, a) ns) (sym named_then)
                      (in_left (word a, a) now.named ((row, b) ∷ []) c))
                  | inr c ↦ inr (subst (λ (s : Option Sweep). In (word a, a) (todo_of s)) (sym sweep_then) c)
                ] in
                subst (λ (s : SeatNow). In (word a, a) s.named ⊎ In (word a, a) (todo_of s.sweep))
                (sym z_mine ∙ ap (seat_in z) (sym e)) new
            | inr m ↦
                subst (λ (s : SeatNow). In (word a, a) s.named ⊎ In (word a, a) (todo_of s.sweep))
                (sym (z_others q m)) was.is
          ] in
          record {
            owned = subst (λ r. owner_in plan r < plan.settings.seats) same was.owned;
            is = subst
                (λ r. (let s = seat_in z (owner_in plan r) in In (r, a) s.named ⊎ In (r, a)
                (todo_of s.sweep))) same stands;
          }
    ]

    pub published : Pools plan z
    published = record {
      long = length-set x.seats p then ∙ h.long;
      seats = λ q less. elim (cases_eq q p) [
        | inl e ↦ subst (λ i. PoolOf plan (word_in z) i (seat_in z i)) (sym e)
            (subst (PoolOf plan (word_in z) p) (sym z_mine) pool_then)
        | inr n ↦ subst (PoolOf plan (word_in z) q) (sym (z_others q n)) (pool_other q n less)
      ];
      placed = placed_then;
      taken = taken;
    }

-- ---- the events

-- the ghost has the settings of the plan
pub settings_are : (plan : Plan) → settings_of (ample plan) ≡ plan.settings
unfolding ample
settings_are plan = refl

-- the bucket of a key is one that there is
pub bucket_small : (plan : Plan) (key : Key) → bucket_for (ample plan) key < buckets_of plan.settings
bucket_small plan key =
    subst (λ (s : Settings). bucket_for (ample plan) key < 2 ^ s.depth) (settings_are plan)
    (subst (λ b. b < 2 ^ (settings_of (ample plan)).depth) (prefix_is_class (ample plan) key)
    (bits_below (ample plan) (settings_of (ample plan)).depth key (omega arith)))

-- a list that has something is its first and the others
cut : (fs : List ℕ) → 1 ≤ length fs → fs ≡ slice_index fs 0 ∷ drop 1 fs
cut [] some = absurd (omega (arith, some))
cut (f ∷ fs) some = refl

told_taken : (setup : Setup) (aim : Aim) (items : List Pair) → IsTaken (told_by_items setup aim items)
told_taken setup (OfKey key) items = tt
told_taken setup (OfBucket bucket) items = tt

module _ (plan : Plan) (is_plan : IsPlan plan) (x : Lasting) (h : Pools plan x) where
  module _ (p : ℕ) (inside : p < plan.settings.seats) where
    abbrev me : SeatNow
    me = seat_in x p

    abbrev words : ℕ → ℕ
    words = word_in x

    abbrev Stays : SeatNow → Type 0
    Stays then = Stay plan words p inside me.free me.named (todo_of me.sweep) then.named (todo_of then.sweep)

    -- a fate changes nothing that is named
    stays_after : (own : SeatNow) (u : Update) (next : Fate) → Stays own → Stays (seat_after own u next)
    stays_after own u (On step) stay = stay
    stays_after own u (Ends reply) stay = stay
    stays_after own u Refuses stay = stay

    taken_after : (call : Call) (course : Course) (next : Fate) → GoesOn next →
        AllTaken (answers_after x p call course next)
    taken_after call course (On step) g = h.taken
    taken_after call course (Ends reply) g = one_taken x (BySeat p) (Called call) (Replied reply) course h.taken tt
    taken_after call course Refuses g = absurd g

    goes_by : (step : Step) (next : Fate) → Leads step next → GoesOn next
    goes_by step (On after) l = tt
    goes_by step (Ends reply) l = tt
    goes_by step Refuses l = absurd l

    -- a step that is neither of a sweep nor an exchange
    other_step : (own : SeatNow) (u : Update) (step : Step) (next : Fate) → IsOther step → IsNoExchange step →
        Pool plan words p own.free own.named own.sweep (S.Goes u step) → Stays own → Leads step next →
        Pools plan (ticked (with_seat x p (store_after (deed_of (ample plan) p me u step) x.store)
        (seat_after own u next) (answers_after x p u.call (stepped me.course) next)))
    other_step own u step next o n pool_own stay l =
        quietly plan is_plan x h p inside (store_after (deed_of (ample plan) p me u step) x.store)
        (quiet_words (deed_of (ample plan) p me u step) x.store (quiet_step (ample plan) p me u step n))
        (seat_after own u next) (answers_after x p u.call (stepped me.course) next)
        (plain plan words p inside own u step next o pool_own l) (stays_after own u next stay)
        (taken_after u.call (stepped me.course) next (goes_by step next l))

    -- a step of a sweep
    good_stays : (f : SweepFate) (looked : ℕ) →
        Good plan words p inside me.free looked me.named (todo_of me.sweep) f → Stays (swept me f)
    good_stays (SweepsOn kept (S.Homes next gone)) looked g = g.3
    good_stays (SweepsOn kept (S.Seats k gone)) looked g = g.2
    good_stays (SweepsOn kept (S.Sees k t gone)) looked g = g.2
    good_stays (SweepsOn kept (S.Loads k t bucket gone)) looked g = g.2
    good_stays (SweepsOn kept (S.Gives k t row gone)) looked g = g.2
    good_stays (Swept kept gone) looked g = g.2

    under_way : (rows : ℕ) (u : Update) (sweep : Sweep) → Room plan words p me.named (Some sweep)
        (S.Goes u (S.Sweeps rows)) →
        UnderWay plan words p inside me.free (PIECE - rows) me.named sweep
    under_way rows u (S.Homes todo gone) room = room
    under_way rows u (S.Seats k gone) room = room.0
    under_way rows u (S.Sees k t gone) room = room.0
    under_way rows u (S.Loads k t bucket gone) room = room.0
    under_way rows u (S.Gives k t row gone) room = room.0

    found_so : (sweep : Sweep) →
        IsFound plan words p inside me.free sweep (found_by (sweep_deed (Some sweep)) x.store)
    found_so (S.Homes [] gone) = tt
    found_so (S.Homes (r ∷ todo) gone) = refl
    found_so (S.Seats k gone) = tt
    found_so (S.Sees k t gone) = tt
    found_so (S.Loads k t bucket gone) = tt
    found_so (S.Gives k t row gone) = tt

    good : (rows : ℕ) (u : Update) → me.stand ≡ S.Goes u (S.Sweeps rows) → (sweep : Option Sweep) → me.sweep ≡ sweep →
        Good plan words p inside me.free (PIECE - rows + 1) me.named (todo_of sweep)
        (sweep_fate_of (ample plan) p sweep (found_by (sweep_deed sweep) x.store))
    good rows u stood None e =
        let pool_me = h.seats p inside in
        let lists : Lists plan words p me.free me.named [] [] =
        subst (λ (s : Option Sweep). Lists plan words p me.free me.named (todo_of s) (gone_of s)) e pool_me.lists in
        let none : me.named ++ [] ≡ me.named = append-nil me.named in
        let few : 2 * (length me.named + 1) + 1 ≤ 3 * places plan =
        subst (λ (s : Option Sweep). Room plan words p me.named s (S.Goes u (S.Sweeps rows))) e
        (subst (λ (s : Stand). Room plan words p me.named me.sweep s) stood pool_me.room) in (
          subst (λ (ns : List (ℕ × ℕ)). Lists plan words p (me.free ++ []) ns [] []) (sym none)
              (frees_all plan words p me.free me.named [] lists),
          subst (λ (ns : List (ℕ × ℕ)). 2 * (length ns + 1) + 1 ≤ 3 * places plan) (sym none) few,
          λ r i same. elim i [ inl a ↦ inl (in_left r me.named [] a) | inr a ↦ absurd a ],
        )
    good rows u stood (Some sweep) e =
        let pool_me = h.seats p inside in
        sweep_good plan words p inside me.free (PIECE - rows) me.named sweep
        (found_by (sweep_deed (Some sweep)) x.store)
        (subst (λ (s : Option Sweep). Lists plan words p me.free me.named (todo_of s) (gone_of s)) e pool_me.lists)
        (under_way rows u sweep
        (subst (λ (s : Option Sweep). Room plan words p me.named s (S.Goes u (S.Sweeps rows))) e
        (subst (λ (s : Stand). Room plan words p me.named me.sweep s) stood pool_me.room)))
        (found_so sweep)

    sweep_step : (u : Update) (rows : ℕ) → me.stand ≡ S.Goes u (S.Sweeps rows) →
        Pools plan (ticked (goes plan x p me u (S.Sweeps rows)))
    sweep_step u rows stood =
        let found = found_by (sweep_deed me.sweep) x.store in
        let f = sweep_fate_of (ample plan) p me.sweep found in
        let g = good rows u stood me.sweep refl in
        let after = pieced plan words p inside (enough plan is_plan) me u rows (todo_of me.sweep) f g in
        let next = piece_fate me.free rows f in
        quietly plan is_plan x h p inside (store_after (sweep_deed me.sweep) x.store)
        (quiet_words (sweep_deed me.sweep) x.store (quiet_sweep me.sweep))
        (seat_after (swept me f) u next) (answers_after x p u.call (stepped me.course) next) after.0
        (stays_after (swept me f) u next (good_stays f (PIECE - rows + 1) g))
        (taken_after u.call (stepped me.course) next after.1)

    -- an exchange
    exchange_step : (u : Update) (attempt : Try) (found : List (Option Op)) → me.stand ≡ S.Goes u
        (S.Exchange attempt found) →
        Pools plan (ticked (goes plan x p me u (S.Exchange attempt found)))
    exchange_step u attempt found stood = go (x.store.bucket b == attempt.word)
      where
        b : ℕ
        b = bucket_of_update (ample plan) u

        pool_me : Pool plan words p me.free me.named me.sweep (S.Goes u (S.Exchange attempt found))
        pool_me = subst (λ (s : Stand). Pool plan words p me.free me.named me.sweep s) stood (h.seats p inside)

        reply : Fate
        reply = reply_by p (made (ample plan) attempt found)

        happened : W.Store
        happened = with_word x.store (W.Bucket b) (tag (next_generation me) (next_row me))

        won : (o : Option Reply) → Pools plan (ticked (with_seat x p happened
            (seat_after (with_published me b) u (ends_with o))
            (answers_after x p u.call (stepped me.course) (ends_with o))))
        won None = published plan is_plan x h p inside b (next_generation me) (bucket_small plan (key_in u.call))
            (next_row me)
            (drop 1 me.free) (cut me.free (omega (arith, pool_me.row)))
            (seat_after (with_published me b) u (ends_with None))
            (answers_after x p u.call (stepped me.course) (ends_with None)) h.taken refl refl refl refl refl
            (omega arith) u attempt found stood
        won (Some r) = published plan is_plan x h p inside b (next_generation me) (bucket_small plan (key_in u.call))
            (next_row me) (drop 1 me.free) (cut me.free (omega (arith, pool_me.row)))
            (seat_after (with_published me b) u (ends_with (Some r)))
            (answers_after x p u.call (stepped me.course) (ends_with (Some r)))
            (taken_after u.call (stepped me.course) (Ends r) tt) refl refl refl refl refl tt u attempt found stood

        go : (c : Bool) → Pools plan (ticked (with_seat x p (cond c happened x.store)
            (seat_after (cond c (with_published me b) me) u (cond c reply (lost attempt.turn)))
            (answers_after x p u.call (stepped me.course) (cond c reply (lost attempt.turn)))))
        go true = won (slice_index_or (made (ample plan) attempt found).replies p None)
        go false =
            let next = cond (attempt.turn == 1) (S.LoadWord 2) S.StoreWant in
            quietly plan is_plan x h p inside x.store refl (seat_after me u (On next))
            (answers_after x p u.call (stepped me.course) (On next))
            (plain plan words p inside me u (S.Exchange attempt found) (On next) tt pool_me (at_most next))
            (λ r i same. i) h.taken

    at_step : (u : Update) (step : Step) → me.stand ≡ S.Goes u step →
        Pool plan words p me.free me.named me.sweep (S.Goes u step)
    at_step u step stood = subst (λ (s : Stand). Pool plan words p me.free me.named me.sweep s) stood (h.seats p inside)

    plainly : (u : Update) (step : Step) → (o : IsOther step) → (n : IsNoExchange step) → me.stand ≡ S.Goes u step →
        (let next = fate (ample plan) p me u step (found_by (deed_of (ample plan) p me u step) x.store) in
        Pools plan (ticked (with_seat x p (store_after (deed_of (ample plan) p me u step) x.store)
        (seat_after me u next) (answers_after x p u.call (stepped me.course) next))))
    plainly u step o n stood =
        let found = found_by (deed_of (ample plan) p me u step) x.store in
        other_step me u step (fate (ample plan) p me u step found) o n (at_step u step stood) (λ r i same. i)
        (leads (ample plan) p me u step found o)

    -- each step of an update
    update_step : (u : Update) (step : Step) → me.stand ≡ S.Goes u step → Pools plan (ticked (goes plan x p me u step))
    update_step u (S.Sweeps rows) stood = sweep_step u rows stood
    update_step u (S.Exchange attempt found) stood = exchange_step u attempt found stood
    update_step u S.StoreAsking stood =
        other_step (record me { time = me.time + 1 }) u S.StoreAsking (On S.HeldWord) tt tt
        (let was = at_step u S.StoreAsking stood in record { lists = was.lists; room = was.room; row = was.row })
        (λ r i same. i) (omega arith, omega arith, omega arith)
    update_step u (S.StoreOp i) stood = plainly u (S.StoreOp i) tt tt stood
    update_step u S.Announce stood = plainly u S.Announce tt tt stood
    update_step u (S.LoadWord turn) stood = plainly u (S.LoadWord turn) tt tt stood
    update_step u (S.LoadRow turn word loaded) stood = plainly u (S.LoadRow turn word loaded) tt tt stood
    update_step u (S.CheckRow turn word loaded) stood = plainly u (S.CheckRow turn word loaded) tt tt stood
    update_step u (S.LoadAnnounced attempt found) stood = plainly u (S.LoadAnnounced attempt found) tt tt stood
    update_step u (S.LoadOp attempt found announced loaded) stood =
        plainly u (S.LoadOp attempt found announced loaded) tt tt stood
    update_step u (S.StoreRow attempt found i) stood = plainly u (S.StoreRow attempt found i) tt tt stood
    update_step u S.StoreWant stood = plainly u S.StoreWant tt tt stood
    update_step u S.HeldWord stood = plainly u S.HeldWord tt tt stood
    update_step u (S.TakeHold word) stood = plainly u (S.TakeHold word) tt tt stood
    update_step u (S.HeldNumber row) stood = plainly u (S.HeldNumber row) tt tt stood
    update_step u (S.HeldReply row) stood = plainly u (S.HeldReply row) tt tt stood
    update_step u S.Stuck stood = plainly u S.Stuck tt tt stood

    -- ---- looks

    looked_on : (aim : Aim) (was : Glance) (next : GlanceFate) → me.stand ≡ S.Glances aim was →
        PoolOf plan words p (look_after me aim was next) × Stays (look_after me aim was next)
    looked_on aim was next stood = go next
      where
        pool_me : Pool plan words p me.free me.named me.sweep (S.Glances aim was)
        pool_me = subst (λ (s : Stand). Pool plan words p me.free me.named me.sweep s) stood (h.seats p inside)

        to : (stand : Stand) → needs stand ≡ 0 → spent stand ≡ 0 → HasRow me.free stand →
            Pool plan words p me.free me.named me.sweep stand
        to stand none done row = eased plan words p inside me.free me.named me.sweep (S.Glances aim was) stand pool_me
            (λ s. s) (omega (arith, none)) (omega (arith, done)) row

        go : (f : GlanceFate) → PoolOf plan words p (look_after me aim was f) × Stays (look_after me aim was f)
        go (Looks glance) = (
          (let l = to (S.Glances aim glance) refl refl tt in record { lists = l.lists; room = l.room; row = l.row }),
          λ r i same. i,
        )
        go (Shows items) = (to S.Idle refl refl tt, λ r i same. i)
        go Disturbed = (to (S.Glances aim S.GlanceWant) refl refl tt, λ r i same. i)

    look_taken : (aim : Aim) (course : Course) (next : GlanceFate) →
        AllTaken (look_answers (ample plan) x p aim course next)
    look_taken aim course (Looks glance) = h.taken
    look_taken aim course (Shows items) =
        one_taken x (BySeat p) (asked_by_aim aim) (told_by_items (ample plan) aim items) course h.taken
        (told_taken (ample plan) aim items)
    look_taken aim course Disturbed = h.taken

    look_step : (aim : Aim) (glance : Glance) → me.stand ≡ S.Glances aim glance →
        Pools plan (ticked (glances plan x p me aim glance))
    look_step aim glance stood =
        let deed = glance_deed (ample plan) p me.time aim glance in
        let next = glance_fate (ample plan) me.time aim glance (found_by deed x.store) in
        let on = looked_on aim glance next stood in
        quietly plan is_plan x h p inside (store_after deed x.store)
        (quiet_words deed x.store (quiet_glance (ample plan) p me.time aim glance))
        (look_after me aim glance next) (look_answers (ample plan) x p aim (stepped me.course) next) on.0 on.1
        (look_taken aim (stepped me.course) next)

    -- ---- begins

    look_first : (aim : Aim) → me.stand ≡ S.Idle → Pools plan (ticked (look_begins x p me aim))
    look_first aim stood =
        let pool_me : Pool plan words p me.free me.named me.sweep S.Idle =
        subst (λ (s : Stand). Pool plan words p me.free me.named me.sweep s) stood (h.seats p inside) in
        let stand = S.Glances aim (S.GlanceWord (LOOK_TRIES - 1)) in
        quietly plan is_plan x h p inside x.store refl
        (record me { stand = stand; course = course_from x.clock }) x.answers
        (eased plan words p inside me.free me.named me.sweep S.Idle stand pool_me (λ s. s) (omega arith)
        (omega arith) tt)
        (λ r i same. i) h.taken

    update_first : (call : Call) → me.stand ≡ S.Idle → Pools plan (ticked (update_begins x p me call))
    update_first call stood =
        let pool_me : Pool plan words p me.free me.named me.sweep S.Idle =
        subst (λ (s : Stand). Pool plan words p me.free me.named me.sweep s) stood (h.seats p inside) in
        let u = next_update me call in
        let course = course_from x.clock in
        let taken = sweep_begins me.named me.sweep me in
        let next = first_fate me.free taken.sweep in
        let b = begins plan words p inside (enough plan is_plan) me me.named me.sweep u course refl refl pool_me in
        quietly plan is_plan x h p inside x.store refl (begun plan words p inside
        (enough plan is_plan) taken u next course)
        (answers_after x p call course next) b.0 b.2 (taken_after call course next b.1)

    call_first : (call : Call) → me.stand ≡ S.Idle → Pools plan (ticked (call_begins x p me call))
    call_first (Lookup key) stood = look_first (OfKey key) stood
    call_first (Insert key value) stood = update_first (Insert key value) stood
    call_first (Remove key) stood = update_first (Remove key) stood
    call_first (Tally key amount) stood = update_first (Tally key amount) stood
    call_first (Count key value amount) stood = update_first (Count key value amount) stood
    call_first (Put key value) stood = update_first (Put key value) stood

    seat_goes : (stand : Stand) → me.stand ≡ stand → IsFlying stand → Pools plan (ticked (goes_on plan x p me stand))
    seat_goes S.Idle e flies = absurd flies
    seat_goes (S.Goes u step) e flies = update_step u step e
    seat_goes (S.Glances aim glance) e flies = look_step aim glance e

    seat_acts : (what : What) → Fits plan me what → Pools plan (ticked (act plan x p me what))
    seat_acts (Begin call) fits = call_first call fits.0
    seat_acts (Copy bucket) fits = look_first (OfBucket bucket) fits.0
    seat_acts Step_on fits = seat_goes me.stand refl fits

  -- ---- readers

  read_by : (r : ℕ) (then : ReaderNow) (answers : List Answer) → AllTaken answers →
      Pools plan (ticked (with_reader x r then answers))
  read_by r then answers taken = record {
    long = h.long;
    seats = h.seats;
    placed = λ b less. (let was = h.placed b less in record { owned = was.owned; is = was.is });
    taken = taken;
  }

  peek_taken : (r : ℕ) (aim : Aim) (course : Course) (next : GlanceFate) →
      AllTaken (peek_answers (ample plan) x r aim course next)
  peek_taken r aim course (Looks glance) = h.taken
  peek_taken r aim course (Shows items) =
      one_taken x (ByReader r) (asked_by_aim aim) (told_by_items (ample plan) aim items) course h.taken
      (told_taken (ample plan) aim items)
  peek_taken r aim course Disturbed = one_taken x (ByReader r) (asked_by_aim aim) Again course h.taken tt

  reader_goes : (r : ℕ) (stand : Peeking) → IsPeeking stand →
      Pools plan (ticked (peeks_on plan x r (x.readers r) stand))
  reader_goes r S.Rests flies = absurd flies
  reader_goes r (S.Peeks aim glance) flies =
      let deed = glance_deed (ample plan) 0 0 aim glance in
      let next = glance_fate (ample plan) 0 aim glance (found_by deed x.store) in
      read_by r (peek_after (x.readers r) aim next)
      (peek_answers (ample plan) x r aim (stepped (x.readers r).course) next)
      (peek_taken r aim (stepped (x.readers r).course) next)

  reader_acts : (r : ℕ) (peek : Peek) → PeekFits plan (x.readers r) peek →
      Pools plan (ticked (peek_acts plan x r (x.readers r) peek))
  reader_acts r (Open aim tries) fits =
      read_by r (record { stand = S.Peeks aim (S.GlanceWord (tries - 1)); course = course_from x.clock }) x.answers
      h.taken
  reader_acts r Peek_on fits = reader_goes r (x.readers r).stand fits

  -- THE RESULT
  pub pools_keep : (event : Event) → IsEvent plan x event → Pools plan (happens plan x event)
  pools_keep (OfSeat p what) fits =
      subst (λ (b : Bool). Pools plan (cond b (ticked (act plan x p (seat_in x p) what)) x))
      (sym (lt-ltb p plan.settings.seats fits.0)) (seat_acts p fits.0 what fits.1)
  pools_keep (OfReader r peek) fits = reader_acts r peek fits
