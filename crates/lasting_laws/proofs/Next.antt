-- An event of one seat, with what its ghost does: from what becomes of the seat itself, all is shown as before.
use Rattle.std.proofs.Common.{◌≡◌, ◌≢◌, ℕ, ◌+◌, ◌-◌, ◌<◌, ◌≤◌, ◌⊎◌, inl, inr, true, List, [], ◌∷◌, ◌++◌, length, get_or, refl, sym, ap, ◌∙◌, subst, arith, get_or-set_same, get_or-set_other, append_assoc, append-nil}
use Rattle.std.specs.Prelude.{All}
use Rattle.std.proofs.lemmas.Bool.{cases_eq}
use Rattle.std.proofs.lemmas.List.Elements.{All-nil, All-cons, All-append}
use Rattle.list_laws.proofs.Lists.{In}
use Rattle.plain_map.specs.declared.keys.Key.{Key}
use Rattle.plain_map.specs.Calls.{key_in}
use Rattle.word_rows.specs.Memory.{put}
use Rattle.word_rows.proofs.MemoryLemmas.{put_same, put_other}
use Rattle.bucket_states.specs.declared.ops.Op.{Op}
use Rattle.bucket_states.specs.States.{BucketState}
use Rattle.table_model.specs.declared.events.Event.{Event}
use Rattle.table_model.specs.Setup.{Setup}
use Rattle.table_model.specs.Worlds.{world_after, seat_in}
use Rattle.run_invariant.proofs.Invariant.{op_now}
use Rattle.helping_laws.proofs.Extends.{Extends}
use Rattle.lasting_model.specs.Plans.{Plan, IsPlan, ample, bucket_for}
use Rattle.lasting_model.specs.Codes.{generation_in, row_in, announcing, state_words}
use Rattle.lasting_model.specs.Words as W
use Rattle.lasting_model.specs.Steps.{SeatNow, Course}
use Rattle.lasting_model.specs.Goes.{Asked, Told}
use Rattle.lasting_model.specs.Worlds.{Lasting, Answer, BySeat, with_seat, ticked, with_answer, nobody}
use Rattle.lasting_model.specs.Worlds as L
use Rattle.lasting_laws.proofs.Pools.{owner_in, Pools}
use Rattle.lasting_laws.proofs.Marks.{Marks, Turn, known_of, writer_owns}
use Rattle.lasting_laws.proofs.Tied.{Ties}
use Rattle.lasting_laws.proofs.Records.{records_grow}
use Rattle.lasting_laws.proofs.FixedDepth.{numbered_stays}
use Rattle.lasting_laws.specs.Promises.{records_in, IsUpdated, IsRight}
use Rattle.lasting_laws.proofs.Shown.{View, Stands, Rows, IsIn, Ops, SlotOf, Seated, Moment, view, IsShown, IsNext}
use Rattle.lasting_laws.proofs.Stays.{After, seated_stays, slot_stays}
use Rattle.lasting_laws.proofs.Ghost.{deepest, rises, there}
use Rattle.lasting_laws.proofs.Exact.{exact}

-- what a step of the seat changes of what others look at, besides bucket words and announcements
pub record Untouched (plan : Plan) (x : Lasting) (p : ℕ) (store : W.Store) : Type 0 where
  pub slot : (q j : ℕ) → q ≢ p → store.op q j ≡ x.store.op q j
  pub want : (q : ℕ) → q ≢ p → store.want q ≡ x.store.want q
  pub touch : (row : ℕ) → ((i : ℕ) → store.row row i ≡ x.store.row row i)
      ⊎ ((owner_in plan row ≡ p) × In row (L.seat_in x p).free)

-- what is known of each event by the lasting table alone
pub record Lawful (plan : Plan) (x : Lasting) (shown : IsShown plan x) (y : Lasting) : Type 0 where
  pub ties : Ties plan x shown.tied y
  pub marks : Marks plan y
  pub turn : Turn plan x y
  pub pools : Pools plan y

module _ (plan : Plan) (is_plan : IsPlan plan) (x : Lasting) (shown : IsShown plan x) (p : ℕ)
    (inside : p < plan.settings.seats) (store : W.Store) (then : SeatNow) (answers : List Answer) where
  abbrev setup : Setup
  setup = ample plan

  abbrev m : Moment setup
  m = shown.moment

  abbrev v : View
  v = view plan x m shown.word_at shown.cut shown.tied

  abbrev pub y : Lasting
  y = ticked (with_seat x p store then answers)

  pub mine : L.seat_in y p ≡ then
  mine = get_or-set_same x.seats p then nobody (let e = shown.pools.long in omega (arith, inside, e))

  pub others : (q : ℕ) → q ≢ p → L.seat_in y q ≡ L.seat_in x q
  others q n = get_or-set_other x.seats p q then nobody n

  module _ (law : Lawful plan x shown y) (free : Untouched plan x p store) (next : Moment setup) (word_at :
      (bucket at : ℕ) → ℕ) where
    abbrev pub cut : (clock : ℕ) → List Event
    cut = put shown.cut (x.clock + 1) next.events

    abbrev pub z : View
    z = view plan y next word_at cut law.ties.next

    -- the runs that were shown before
    pub cut_before : (n : ℕ) → n ≤ x.clock → cut n ≡ shown.cut n
    cut_before n o = put_other shown.cut (x.clock + 1) next.events n (λ e. omega (arith, e, o))

    -- what a seat had answered when its call began
    pub past_same : (q : ℕ) → (L.seat_in y q).course.began ≡ (L.seat_in x q).course.began → z.past q ≡ v.past q
    past_same q e = ap (λ n k. records_in setup (cut n) k) e
        ∙ ap (λ es k. records_in setup es k) (cut_before (L.seat_in x q).course.began (shown.began q))

    -- what the ghost leaves of its history and of the other seats
    pub record Stepped : Type 0 where
      pub extends : Extends m.common next.common
      pub used : (q : ℕ) → q ≢ p → next.common.used q ≡ m.common.used q
      pub state : (q : ℕ) → q ≢ p →
          seat_in (world_after setup next.events) q ≡ seat_in (world_after setup m.events) q
      pub words : (b i : ℕ) → m.common.named b ≡ true → i ≤ m.common.top b → word_at b i ≡ shown.word_at b i
      pub later : (more : List Event) × (next.events ≡ m.events ++ more)

    module _ (ghost : Stepped) where
      pub numbered : (b : ℕ) → next.common.named b ≡ true → next.common.pre b ≡ b
      numbered = numbered_stays setup m.common next.common m.follows.shared next.follows.shared next.follows.descent
          (deepest plan is_plan) ghost.extends shown.shows.rows.numbered

      -- what the others see of it
      pub after_is : Rows plan z → After plan p v z
      after_is rows = record {
        extends = ghost.extends;
        used = ghost.used;
        state = ghost.state;
        past = λ q n. past_same q (ap (λ (s : SeatNow). s.course.began) (others q n));
        grow = λ k. records_grow setup m.events ghost.later.0 next.events k m.follows.long ghost.later.1;
        seat = others;
        words = ghost.words;
        turn = law.turn;
        touch = free.touch;
        slot = free.slot;
        want = free.want;
        up = λ b q n. rises setup m.common next.common next.follows.shared ghost.extends b q n;
        since = law.ties.step;
        rows = rows;
      }

      -- the bucket words and the line of each bucket are as they were
      module _ (words_stay : (b : ℕ) → store.bucket b ≡ x.store.bucket b)
          (named_same : (b : ℕ) → next.common.named b ≡ m.common.named b)
          (top_same : (b : ℕ) → next.common.top b ≡ m.common.top b)
          (state_same : (b i : ℕ) → next.common.state_at b i ≡ m.common.state_at b i)
          (word_same : (b i : ℕ) → word_at b i ≡ shown.word_at b i) where
        was_named : (b : ℕ) → next.common.named b ≡ true → m.common.named b ≡ true
        was_named b n = sym (named_same b) ∙ n

        was_old : (b i : ℕ) → i ≤ next.common.top b → i ≤ m.common.top b
        was_old b i o = (let e = top_same b in omega (arith, o, e))

        known_low : (b i : ℕ) → next.common.named b ≡ true → i ≤ next.common.top b →
            generation_in (word_at b i) ≤ known_of plan x (row_in (word_at b i))
        known_low b i n o = subst (λ w. generation_in w ≤ known_of plan x (row_in w)) (sym (word_same b i))
            (shown.shows.rows.old b i (was_named b n) (was_old b i o))

        pub rows_quiet : Rows plan z
        rows_quiet = record {
          numbered = numbered;
          word_is = λ b n. words_stay b ∙ shown.shows.rows.word_is b (was_named b n)
              ∙ sym (word_same b (m.common.top b)) ∙ ap (word_at b) (sym (top_same b));
          says = λ b i j n o stands less.
              let low = known_low b i n o in
              elim (law.turn.rows (row_in (word_at b i))) [
                | inl same ↦
                    let here = same (j + 1) in
                    let stood = subst (Stands plan v) (word_same b i) (sym (same 0) ∙ stands) in
                    let long : j < length (state_words setup (m.common.state_at b i)) =
                    subst (λ (s : BucketState). j < length (state_words setup s)) (state_same b i) less in
                    here ∙ ap (λ w. x.store.row (row_in w) (j + 1)) (word_same b i)
                    ∙ shown.shows.rows.says b i j (was_named b n) (was_old b i o) stood long
                    ∙ ap (λ (s : BucketState). get_or (state_words setup s) j 0) (sym (state_same b i))
                | inr new ↦ absurd (omega (arith, new, stands, low))
              ];
          old = λ b i n o.
              let low = known_low b i n o in
              let up = law.turn.known (row_in (word_at b i)) in
              omega (arith, low, up);
          once = λ b i j n o k e. shown.shows.rows.once b i j (was_named b n) (was_old b i o) (was_old b j k)
              (sym (word_same b i) ∙ e ∙ word_same b j);
        }

      -- the announcements are as they were
      pub ops_quiet : ((q : ℕ) → store.announced q ≡ x.store.announced q) →
          ((q : ℕ) → (next.common.used q).op_rows ≡ (m.common.used q).op_rows) →
          ((q j : ℕ) → next.common.op_at q j ≡ m.common.op_at q j) → Ops plan z
      ops_quiet announced rows_same op_same = record {
        none = λ q h none. announced q ∙ shown.shows.ops.none q h (sym (rows_same q) ∙ none);
        some = λ q h some.
            let e = rows_same q in
            let last_same : op_now next.common q ≡ op_now m.common q =
            op_same q ((next.common.used q).op_rows - 1) ∙ ap (λ n. m.common.op_at q (n - 1)) e in
            announced q
            ∙ shown.shows.ops.some q h (omega (arith, some, e))
            ∙ ap (λ (o : Op). announcing o.number (bucket_for setup (key_in o.call))) (sym last_same);
        past = λ q j h less.
            let e = rows_same q in
            subst (IsIn plan z q) (sym (op_same q j))
            (stays q (m.common.op_at q j) (shown.shows.ops.past q j h (omega (arith, less, e))));
      }
        where
          stays : (q : ℕ) (op : Op) → IsIn plan v q op → IsIn plan z q op
          stays q op i =
              let up = rises setup m.common next.common next.follows.shared ghost.extends
              (bucket_for setup (key_in op.call)) q
              (there plan is_plan m shown.shows.rows.numbered (key_in op.call)) in
              omega (arith, i, up)

      -- ---- all of it

      -- the answers that there were are right
      right_before : All (λ (a : Answer). (a.ended ≤ x.clock + 1) × IsRight setup cut a) x.answers
      right_before = λ i d h.
          let ended = shown.ended i d h in
          let right = shown.right i d h in
          let a : Answer = get_or x.answers i d in (
            omega (arith, ended),
            (
              right.0,
              subst (λ es. IsUpdated setup es (cut a.ended) a.by a.asked a.told)
                  (sym (cut_before a.began (let o = right.0 in omega (arith, ended, o))))
                  (subst (λ es. IsUpdated setup (shown.cut a.began) es a.by a.asked a.told)
                  (sym (cut_before a.ended ended)) right.1),
            ),
          )

      RightNow : List Answer → Type 0
      RightNow = All (λ (a : Answer). (a.ended ≤ x.clock + 1) × IsRight setup cut a)

      -- and one that is given now
      pub one_more : (asked : Asked) (told : Told) (course : Course) → course.began ≤ x.clock →
          IsUpdated setup (shown.cut course.began) next.events (BySeat p) asked told →
          All (λ (a : Answer). (a.ended ≤ x.clock + 1) × IsRight setup cut a)
          (with_answer x (BySeat p) asked told course)
      one_more asked told course began is =
          let a : Answer = record {
            by = BySeat p;
            asked = asked;
            told = told;
            began = course.began;
            ended = x.clock + 1;
            steps = course.steps;
          } in
          let P : Answer → Type 0 = λ (a : Answer). (a.ended ≤ x.clock + 1) × IsRight setup cut a in
          All-append P x.answers (a ∷ []) right_before (All-cons P a [] (
            omega arith,
            (
              omega (arith, began),
              subst (λ es. IsUpdated setup es (cut (x.clock + 1)) (BySeat p) asked told)
                  (sym (cut_before course.began began))
                  (subst (λ es. IsUpdated setup (shown.cut course.began) es (BySeat p) asked told)
                  (sym (put_same shown.cut (x.clock + 1) next.events)) is),
            ),
          ) (All-nil P))

      pub none_more : All (λ (a : Answer). (a.ended ≤ x.clock + 1) × IsRight setup cut a) x.answers
      none_more = right_before

      -- THE RESULT
      pub shown_next : (more : List Event) → next.events ≡ m.events ++ more → Rows plan z → Ops plan z →
          SlotOf plan z p then.stand → Seated plan z p then.stand → then.course.began ≤ x.clock →
          All (λ (a : Answer). (a.ended ≤ x.clock + 1) × IsRight setup cut a) answers → IsNext plan x y shown
      shown_next more is rows ops slot seat began right = record {
        more = more;
        next = record {
          moment = next;
          pools = law.pools;
          marks = law.marks;
          tied = law.ties.next;
          word_at = word_at;
          cut = cut;
          shows = record {
            rows = rows;
            ops = ops;
            slots = λ q h. elim (cases_eq q p) [
              | inl e ↦ subst (λ k. SlotOf plan z k (L.seat_in y k).stand) (sym e)
                  (subst (λ (s : SeatNow). SlotOf plan z p s.stand) (sym mine) slot)
              | inr n ↦ subst (λ (s : SeatNow). SlotOf plan z q s.stand) (sym (others q n))
                  (slot_stays plan p v z after shown.shows.rows named q (ghost.used q n) (ghost.state q n)
                  (after.past q n) (ap (λ (s : SeatNow). s.answered) (others q n)) (λ j. free.slot q j n)
                  (L.seat_in x q).stand (shown.shows.slots q h))
            ];
            seats = λ q h. elim (cases_eq q p) [
              | inl e ↦ subst (λ k. Seated plan z k (L.seat_in y k).stand) (sym e)
                  (subst (λ (s : SeatNow). Seated plan z p s.stand) (sym mine) seat)
              | inr n ↦ subst (λ (s : SeatNow). Seated plan z q s.stand) (sym (others q n))
                  (seated_stays plan p v z after shown.shows.rows named q (ghost.used q n) (ghost.state q n)
                  (after.past q n) (ap (λ (s : SeatNow). s.answered) (others q n)) n
                  (λ u late made. exact plan is_plan y next word_at cut law.ties.next law.marks rows q h u late
                  made.update
                  (omega (arith, made.long, made.number_is)))
                  (λ u step at some. writer_owns plan is_plan x shown.pools q h u step at some)
                  (L.seat_in x q).stand refl (shown.shows.seats q h))
            ];
          };
          now_is = put_same shown.cut (x.clock + 1) next.events;
          grows = grows;
          began = λ q. elim (cases_eq q p) [
            | inl e ↦
                let at : (L.seat_in y q).course.began ≡ then.course.began =
                ap (λ (s : SeatNow). s.course.began) (ap (L.seat_in y) e ∙ mine) in
                omega (arith, at, began)
            | inr n ↦
                let at = ap (λ (s : SeatNow). s.course.began) (others q n) in
                let was = shown.began q in
                omega (arith, at, was)
          ];
          readers = λ r. (let o = shown.readers r in omega (arith, o));
          ended = λ i d h. (right i d h).0;
          right = λ i d h. (right i d h).1;
        };
        is = is;
        keeps = cut_before;
      }
        where
          after : After plan p v z
          after = after_is rows

          named : (key : Key) → m.common.named (bucket_for setup key) ≡ true
          named = there plan is_plan m shown.shows.rows.numbered

          grows : (i n : ℕ) → i ≤ n → n ≤ x.clock + 1 → (later : List Event) × (cut n ≡ cut i ++ later)
          grows i n o h = elim (cases_eq n (x.clock + 1)) [
            | inl e ↦ elim (cases_eq i (x.clock + 1)) [
              | inl f ↦ ([], ap cut (e ∙ sym f) ∙ sym (append-nil (cut i)))
              | inr d ↦
                  let old : i ≤ x.clock = omega (arith, o, e, d) in
                  let g = shown.grows i x.clock old (omega arith) in (
                    g.0 ++ more,
                    ap cut e ∙ put_same shown.cut (x.clock + 1) next.events ∙ is
                        ∙ ap (λ es. es ++ more) (sym shown.now_is ∙ g.1) ∙ append_assoc (shown.cut i) g.0 more
                        ∙ ap (λ es. es ++ (g.0 ++ more)) (sym (cut_before i old)),
                  )
            ]
            | inr d ↦
                let now : n ≤ x.clock = omega (arith, h, d) in
                let g = shown.grows i n o now in
                (g.0, cut_before n now ∙ g.1 ∙ ap (λ es. es ++ g.0) (sym (cut_before i (omega (arith, o, now)))))
          ]
