-- What is known of a moment of the ghost: its buckets are the classes, none is frozen; a later moment extends an
-- earlier one; a number in a row is of no later update than its seat has begun, and a row with the number has the
-- reply.
use Rattle.std.proofs.Common.{◌≡◌, ◌≢◌, ℕ, ◌+◌, ◌*◌, ◌^◌, ◌<◌, ◌≤◌, inl, inr, Bool, true, false, true≢false, List, [], ◌∷◌, ◌++◌, length, get_or, Option, Some, refl, sym, ap, ◌∙◌, subst, arith}
use Rattle.std.proofs.Math.Seq.{get_or-append_seam}
use Rattle.std.proofs.lemmas.Bool.{cases_eq, cases_lt}
use Rattle.std.proofs.lemmas.List.{get_or_append_left, length-append}
use Rattle.step_counts.specs.declared.settings.Settings.{Settings}
use Rattle.plain_map.specs.declared.keys.Key.{Key}
use Rattle.plain_map.specs.declared.calls.Call.{Call}
use Rattle.plain_map.specs.declared.calls.Reply.{Reply}
use Rattle.plain_map.specs.declared.records.Record.{Record}
use Rattle.plain_map.specs.Calls.{is_update}
use Rattle.word_rows.specs.Memory.{put, put_at}
use Rattle.word_rows.proofs.MemoryLemmas.{put_same, put_other, put_at_row, put_at_place}
use Rattle.word_rows.specs.Blocks.{block}
use Rattle.word_rows.proofs.BlockLemmas.{block-blocks, get_or-block}
use Rattle.word_rows.specs.BucketWords.{seat_place, seat_words, item_words, AreAnswered, AreItems}
use Rattle.word_rows.specs.ReplyWords.{word_of_reply, reply_of_word}
use Rattle.word_rows.proofs.BucketLemmas.{reply_read, length-seat_words}
use Rattle.bucket_states.specs.declared.ops.Op.{Op}
use Rattle.bucket_states.specs.States.{BucketState}
use Rattle.bucket_states.specs.Laws.{applied_of, reply_at}
use Rattle.table_model.specs.Setup.{Setup, settings_of, seats_of}
use Rattle.table_model.specs.Phases.{Phase, BucketTry}
use Rattle.table_model.specs.Stores.{made_bucket}
use Rattle.table_model.specs.SeatStates.{Flight, Stand, Idle, InFlight}
use Rattle.table_model.specs.Reading.{bucket_at, applied_at}
use Rattle.table_model.specs.Worlds.{World, world_after, seat_in}
use Rattle.run_invariant.proofs.Invariant.{Common, Local, Shared, last, row_no, made_words, op_words_of}
use Rattle.run_invariant.proofs.Events.{announced, published}
use Rattle.run_laws.proofs.Induction.{Follows}
use Rattle.run_laws.proofs.Tried.{none_frozen}
use Rattle.helping_laws.proofs.Extends.{Extends}
use Rattle.helping_laws.proofs.ByPlace
use Rattle.order_laws.proofs.Tale.{past_of, Seated}
use Rattle.order_laws.proofs.AllRuns.{all_tell}
use Rattle.lasting_model.specs.Plans.{Plan, IsPlan, ample, bucket_for, buckets_of}
use Rattle.lasting_model.specs.Codes.{state_words}
use Rattle.lasting_laws.proofs.Lost.{SamePast}
use Rattle.lasting_laws.proofs.PoolEvents.{settings_are, bucket_small}
use Rattle.lasting_laws.proofs.FixedDepth.{never_frozen, all_named, named_below, deep_is}
use Rattle.lasting_laws.proofs.Ended.{numbers_have_one_reply}
use Rattle.lasting_laws.proofs.Shown.{Moment}

-- ---- the ghost's settings are the plan's

pub seats_are : (plan : Plan) → seats_of (ample plan) ≡ plan.settings.seats
seats_are plan = ap (λ (s : Settings). s.seats) (settings_are plan)

pub inside_ghost : (plan : Plan) (p : ℕ) → p < plan.settings.seats → p < seats_of (ample plan)
inside_ghost plan p h = (let e = seats_are plan in omega (arith, h, e))

pub deepest : (plan : Plan) → IsPlan plan → (settings_of (ample plan)).start ≡ (settings_of (ample plan)).depth
deepest plan is = subst (λ (s : Settings). s.start ≡ s.depth) (sym (settings_are plan)) is.deep

-- ---- later moments

pub extends_same : (c d : Common) → SamePast c d → Extends c d
extends_same c d s = record {
  dir_up = subst (λ n. c.dir_top ≤ n) (sym s.dir_top) (omega arith);
  dirs = λ v o. (ap (λ (f : ℕ → ℕ). f v) s.dir_row, (λ i. s.dir_at i v));
  named_up = λ b n. (
    ap (λ (f : ℕ → Bool). f b) s.named ∙ n,
    ap (λ (f : ℕ → ℕ). f b) s.pre,
    ap (λ (f : ℕ → ℕ). f b) s.deep,
    subst (λ (f : ℕ → ℕ). c.top b ≤ f b) (sym s.top) (omega arith),
  );
  rows = λ b i n o. (ap (λ (f : ℕ → ℕ → ℕ). f b i) s.row_at, (λ k. s.words_at k b i), (λ k. s.state_at k b i));
  frozen = λ b n f. ap (λ (f : ℕ → ℕ). f b) s.top;
  ops_up = λ p. subst (λ f. (c.used p).op_rows ≤ (f p).op_rows) (sym s.used) (omega arith);
  calls = λ p j h. ((λ i. s.op_at i p j), (λ i. s.op_words i p j));
}

pub extends_both : (b c d : Common) → Extends b c → Extends c d → Extends b d
extends_both b c d e m = record {
  dir_up = omega (arith, e.dir_up, m.dir_up);
  dirs = λ v o. (let was = e.dirs v o in let now = m.dirs v (omega (arith, o, e.dir_up)) in
      (now.0 ∙ was.0, now.1 ∙ was.1));
  named_up = λ x n. (let was = e.named_up x n in let now = m.named_up x was.0 in
      (now.0, now.1 ∙ was.1, now.2 ∙ was.2, omega (arith, was.3, now.3)));
  rows = λ x i n o. (let there = e.named_up x n in let was = e.rows x i n o in
      let now = m.rows x i there.0 (omega (arith, o, there.3)) in (now.0 ∙ was.0, now.1 ∙ was.1, now.2 ∙ was.2));
  frozen = λ x n f.
      let there = e.named_up x n in
      let same = e.frozen x n f in
      let still : (last c x).frozen ≡ true =
      ap (λ i. (c.state_at x i).frozen) same ∙ ap (λ (y : BucketState). y.frozen) (e.rows x (b.top x) n
      (omega arith)).2 ∙ f in
      m.frozen x there.0 still ∙ same;
  ops_up = λ p. (let was = e.ops_up p in let now = m.ops_up p in omega (arith, was, now));
  calls = λ p j h. (let was = e.calls p j h in let up = e.ops_up p in
      let now = m.calls p j (omega (arith, h, up)) in
      (now.0 ∙ was.0, now.1 ∙ was.1));
}

-- what is put at a place of a line leaves the other places
pub put_before : {A : Type 0} (f : ℕ → ℕ → A) (b n : ℕ) (a : A) (x i : ℕ) → (x ≡ b → i ≢ n) → put_at f b n a x i ≡ f x i
put_before f b n a x i other = elim (cases_eq x b) [
  | inl e ↦ ap (λ k. put_at f b n a k i) e ∙ put_at_place f b n a b i (other e) ∙ ap (λ k. f k i) (sym e)
  | inr m ↦ put_at_row f b n a x i m
]

-- an announcement
pub extends_announced : (setup : Setup) (p number : ℕ) (call : Call) (c : Common) →
    Extends c (announced setup p number call c)
extends_announced setup p number call c = record {
  dir_up = omega arith;
  dirs = λ v o. (refl, refl);
  named_up = λ b n. (n, refl, refl, omega arith);
  rows = λ b i n o. (refl, refl, refl);
  frozen = λ b n f. refl;
  ops_up = λ q. elim (cases_eq q p) [
    | inl e ↦
        let now = ap (λ k. (put c.used p (record (c.used p) { op_rows = (c.used p).op_rows + 1 }) k).op_rows) e
        ∙ ap (λ s. s.op_rows) (put_same c.used p (record (c.used p) { op_rows = (c.used p).op_rows + 1 })) in
        let was = ap (λ k. (c.used k).op_rows) e in
        omega (arith, now, was)
    | inr n ↦ (let now = ap (λ s. s.op_rows)
        (put_other c.used p (record (c.used p) { op_rows = (c.used p).op_rows + 1 }) q n) in omega (arith, now))
  ];
  calls = λ q j h. (
    put_before c.op_at p (c.used p).op_rows (record { seat = p; number = number; call = call }) q j (other q j h),
    put_before c.op_words p (c.used p).op_rows (op_words_of number call) q j (other q j h),
  );
}
  where
    other : (q j : ℕ) → j < (c.used q).op_rows → q ≡ p → j ≢ (c.used p).op_rows
    other q j h e z = (let same = ap (λ k. (c.used k).op_rows) e in omega (arith, h, z, same))

-- a row that is published, where none is frozen
pub extends_published : (setup : Setup) (p b : ℕ) (attempt : BucketTry) (found : List (Option Op)) (c : Common) →
    ((x : ℕ) → c.named x ≡ true → (last c x).frozen ≡ false) → Extends c (published setup p b attempt found c)
extends_published setup p b attempt found c open_ = record {
  dir_up = omega arith;
  dirs = λ v o. (refl, refl);
  named_up = λ x n. (n, refl, refl, up x);
  rows = λ x i n o. (
    put_before c.row_at b (c.top b + 1) (row_no setup p (c.used p).bucket_rows) x i (other x i o),
    put_before c.words_at b (c.top b + 1) (made_words setup attempt found) x i (other x i o),
    put_before c.state_at b (c.top b + 1) (made_bucket setup attempt found) x i (other x i o),
  );
  frozen = λ x n f. absurd (true≢false (sym f ∙ open_ x n));
  ops_up = λ q. elim (cases_eq q p) [
    | inl e ↦
        let now = ap (λ k. (put c.used p (record (c.used p) { bucket_rows = (c.used p).bucket_rows + 1 }) k).op_rows) e
        ∙ ap (λ s. s.op_rows) (put_same c.used p (record (c.used p) { bucket_rows = (c.used p).bucket_rows + 1 })) in
        let was = ap (λ k. (c.used k).op_rows) e in
        omega (arith, now, was)
    | inr n ↦ (let now = ap (λ s. s.op_rows)
        (put_other c.used p (record (c.used p) { bucket_rows = (c.used p).bucket_rows + 1 }) q n) in omega (arith, now))
  ];
  calls = λ q j h. (refl, refl);
}
  where
    other : (x i : ℕ) → i ≤ c.top x → x ≡ b → i ≢ c.top b + 1
    other x i o e z = (let same = ap c.top e in omega (arith, o, z, same))

    up : (x : ℕ) → c.top x ≤ put c.top b (c.top b + 1) x
    up x = elim (cases_eq x b) [
      | inl e ↦ (let now = ap (put c.top b (c.top b + 1)) e ∙ put_same c.top b (c.top b + 1) in
          let was = ap c.top e in omega (arith, now, was))
      | inr n ↦ (let now = put_other c.top b (c.top b + 1) x n in omega (arith, now))
    ]

-- numbers in a bucket never fall
pub rises : (setup : Setup) (c d : Common) → Shared setup d → Extends c d → (b q : ℕ) → c.named b ≡ true →
    applied_of (last c b) q ≤ applied_of (last d b) q
rises setup c d s e b q n =
    let up = e.named_up b n in
    let same : applied_of (d.state_at b (c.top b)) q ≡ applied_of (last c b) q =
    ap (λ (y : BucketState). applied_of y q) (e.rows b (c.top b) n (omega arith)).2 in
    let most = s.rows.rises b (c.top b) q up.0 up.3 in
    omega (arith, same, most)

-- ---- one moment

module _ (plan : Plan) (is_plan : IsPlan plan) (m : Moment (ample plan))
    (numbered : (b : ℕ) → m.common.named b ≡ true → m.common.pre b ≡ b) where
  abbrev setup : Setup
  setup = ample plan

  abbrev c : Common
  c = m.common

  abbrev w : World
  w = world_after setup m.events

  pub open_rows : (b : ℕ) → c.named b ≡ true → (last c b).frozen ≡ false
  open_rows = never_frozen setup c m.follows.shared m.follows.descent (deepest plan is_plan)

  -- there is a bucket for each class
  pub below : (b : ℕ) → b < buckets_of plan.settings → c.named b ≡ true
  below b less = all_named setup c m.follows.shared m.follows.descent (deepest plan is_plan) numbered b
      (subst (λ (s : Settings). b < 2 ^ s.depth) (sym (settings_are plan)) less)

  pub there : (key : Key) → c.named (bucket_for setup key) ≡ true
  there key = below (bucket_for setup key) (bucket_small plan key)

  pub named_small : (b : ℕ) → c.named b ≡ true → b < buckets_of plan.settings
  named_small b n = subst (λ (s : Settings). b < 2 ^ s.depth) (settings_are plan)
      (named_below setup c m.follows.shared m.follows.descent (deepest plan is_plan) numbered b n)

  pub led : (key : Key) → c.named (bucket_for setup key) ≡ true
  led = there

  -- what a row says of its bucket
  pub prefix_is : (b i : ℕ) → c.named b ≡ true → i ≤ c.top b → (c.state_at b i).prefix ≡ b
  prefix_is b i n o = (m.follows.shared.rows.sound b i n o).prefix_is ∙ numbered b n

  pub depth_is : (b i : ℕ) → c.named b ≡ true → i ≤ c.top b → (c.state_at b i).depth ≡ (settings_of setup).depth
  depth_is b i n o = (m.follows.shared.rows.sound b i n o).depth_is
      ∙ deep_is setup c m.follows.shared m.follows.descent (deepest plan is_plan) b n

  pub open_at : (b i : ℕ) → c.named b ≡ true → i ≤ c.top b → (c.state_at b i).frozen ≡ false
  open_at b i n o = none_frozen setup c m.follows.shared m.follows.descent (deepest plan is_plan) b i n o

  pub spelled : (b i : ℕ) → c.named b ≡ true → i ≤ c.top b →
      AreItems (settings_of setup).items (c.state_at b i).items
      × AreAnswered (seats_of setup) (c.state_at b i).applied (c.state_at b i).replies
  spelled b i n o = (let s = (m.follows.shared.rows.sound b i n o).spells.0 in (s.items, s.seats))

  -- a reply in a row can be spelled
  pub reply_spelled : (b i q : ℕ) → c.named b ≡ true → i ≤ c.top b → q < seats_of setup →
      reply_of_word (word_of_reply (reply_at (c.state_at b i) q)) ≡ reply_at (c.state_at b i) q
  reply_spelled b i q n o h = reply_read (reply_at (c.state_at b i) q) (((spelled b i n o).1.answered q h).answer)

  -- ---- numbers and replies in rows

  -- the row of a place, as the words tell it
  place_says : (b i : ℕ) (a : Common) (locals : ℕ → Local) (f : Follows setup w a locals) → c.named b ≡ true →
      i ≤ c.top b → (z : ByPlace.Stood setup w.words a f.shows f.shared f.descent (c.row_at b i))
      × (c.state_at b i ≡ a.state_at z.bucket z.at)
  place_says b i a locals f n o =
      let z = ByPlace.stood setup w.words a f.shows f.shared f.descent (c.row_at b i)
      (ByPlace.among_rows setup w.words c m.follows.shows m.follows.shared m.follows.descent b i n o) in (
        z,
        sym (ByPlace.state_is setup w.words c m.follows.shows m.follows.shared m.follows.descent b i n o)
            ∙ ap (bucket_at_words) z.is
            ∙ ByPlace.state_is setup w.words a f.shows f.shared f.descent z.bucket z.at z.named z.inside,
      )
    where
      bucket_at_words : ℕ → BucketState
      bucket_at_words row = bucket_at setup.shape w.words row

  -- no row has a number above that of the seat's last update
  pub few_idle : (b i q : ℕ) → c.named b ≡ true → i ≤ c.top b → q < seats_of setup → (seat_in w q).stand ≡ Idle →
      applied_of (c.state_at b i) q ≤ length (seat_in w q).account.records
  few_idle b i q n o h idle =
      let a = all_tell setup m.events m.run in
      let z = place_says b i a.common a.locals a.follows n o in
      let y = subst (λ (s : Stand). Seated setup (past_of a.common) a.extra q (a.locals q) (seat_in w q).account s) idle
      (a.holds.seats q h) in
      let same = ap (λ (s : BucketState). applied_of s q) z.1 in
      elim (cases_lt 0 (applied_of (a.common.state_at z.0.bucket z.0.at) q)) [
        | inl some ↦
            let k = a.holds.told.applied z.0.bucket z.0.at q z.0.named z.0.inside h some in
            let most = y.upto.ops k.0 k.1 in
            omega (arith, same, k.2, most)
        | inr none ↦ omega (arith, same, none)
      ]

  -- where it has begun another, above that one
  pub few_flying : (b i q : ℕ) (flight : Flight) (phase : Phase) → c.named b ≡ true → i ≤ c.top b →
      q < seats_of setup → (seat_in w q).stand ≡ InFlight flight phase →
      applied_of (c.state_at b i) q ≤ length (seat_in w q).account.records + 1
  few_flying b i q flight phase n o h flies =
      let a = all_tell setup m.events m.run in
      let z = place_says b i a.common a.locals a.follows n o in
      let y = subst (λ (s : Stand). Seated setup (past_of a.common) a.extra q (a.locals q) (seat_in w q).account s)
      flies (a.holds.seats q h) in
      let same = ap (λ (s : BucketState). applied_of s q) z.1 in
      elim (cases_lt 0 (applied_of (a.common.state_at z.0.bucket z.0.at) q)) [
        | inl some ↦
            let k = a.holds.told.applied z.0.bucket z.0.at q z.0.named z.0.inside h some in
            let most = y.upto.ops k.0 k.1 in
            let number = y.number_is in
            omega (arith, same, k.2, most, number)
        | inr none ↦ omega (arith, same, none)
      ]

  -- a row that has the number of the seat's last record has its reply
  pub replies_are : (b i q : ℕ) (front : List Record) (made : Record) → c.named b ≡ true → i ≤ c.top b →
      q < seats_of setup → (seat_in w q).account.records ≡ front ++ made ∷ [] → is_update made.call ≡ true →
      applied_of (c.state_at b i) q ≡ made.number → reply_at (c.state_at b i) q ≡ Some made.reply
  replies_are b i q front made n o h records update number =
      let row = c.row_at b i in
      let f = m.follows in
      let at : get_or (seat_in w q).account.records (length front) made ≡ made =
      ap (λ (rs : List Record). get_or rs (length front) made) records
      ∙ get_or-append_seam front made [] made in
      let long : length front < length (seat_in w q).account.records =
      subst (λ (rs : List Record). length front < length rs) (sym records)
      (let l = length-append front (made ∷ []) in omega (arith, l)) in
      let says = ByPlace.state_is setup w.words c f.shows f.shared f.descent b i n o in
      let all = numbers_have_one_reply setup m.events q row m.run h
      (ByPlace.among_rows setup w.words c f.shows f.shared f.descent b i n o) in
      let one = subst (λ (r : Record). is_update r.call ≡ true → applied_at setup.shape w.words row q ≡ r.number →
      reply_at (bucket_at setup.shape w.words row) q ≡ Some r.reply) at (all (length front) made long) in
      ap (λ (s : BucketState). reply_at s q) (sym says)
      ∙ one update (ap (λ (s : BucketState). applied_of s q) says ∙ number)

-- ---- the words of a seat in a row

seat_wide : (applied : List ℕ) (replies : List (Option Reply)) (seat : ℕ) → length (seat_place applied replies seat) ≡ 2
seat_wide applied replies seat = refl

pub said_number : (setup : Setup) (state : BucketState) (q : ℕ) → q < seats_of setup →
    get_or (state_words setup state) (2 * q) 0 ≡ applied_of state q
said_number setup state q h =
    let words : List ℕ = seat_words (seats_of setup) state.applied state.replies in
    let long = length-seat_words (seats_of setup) state.applied state.replies in
    let part : block 2 q words ≡ seat_place state.applied state.replies q =
    block-blocks 2 (seat_place state.applied state.replies) (seats_of setup) q
    (seat_wide state.applied state.replies) h in
    let e : 2 * q ≡ q * 2 + 0 = omega arith in
    get_or_append_left words _ 0 (2 * q) (omega (arith, long, h))
    ∙ ap (λ k. get_or words k 0) e ∙ sym (get_or-block 2 q 0 words (omega arith)) ∙ ap (λ xs. get_or xs 0 0) part

pub said_reply : (setup : Setup) (state : BucketState) (q : ℕ) → q < seats_of setup →
    get_or (state_words setup state) (2 * q + 1) 0 ≡ word_of_reply (reply_at state q)
said_reply setup state q h =
    let words : List ℕ = seat_words (seats_of setup) state.applied state.replies in
    let long = length-seat_words (seats_of setup) state.applied state.replies in
    let part : block 2 q words ≡ seat_place state.applied state.replies q =
    block-blocks 2 (seat_place state.applied state.replies) (seats_of setup) q
    (seat_wide state.applied state.replies) h in
    let e : 2 * q + 1 ≡ q * 2 + 1 = omega arith in
    get_or_append_left words _ 0 (2 * q + 1) (omega (arith, long, h))
    ∙ ap (λ k. get_or words k 0) e ∙ sym (get_or-block 2 q 1 words (omega arith)) ∙ ap (λ xs. get_or xs 1 0) part

-- so many words a row says
pub said_long : (setup : Setup) (state : BucketState) (q : ℕ) → q < seats_of setup →
    2 * q + 1 < length (state_words setup state)
said_long setup state q h =
    let words : List ℕ = seat_words (seats_of setup) state.applied state.replies in
    let long = length-seat_words (seats_of setup) state.applied state.replies in
    let all = length-append words (length state.items ∷ item_words (length state.items) state.items) in
    omega (arith, long, all, h)
