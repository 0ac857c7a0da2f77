-- Each event of a lasting table keeps the generations of its rows, and leaves each row as it is or gives it a new one.
use Rattle.std.proofs.Common.{◌≡◌, ◌≢◌, ℕ, zero, suc, ◌+◌, ◌-◌, ◌^◌, ◌<◌, ◌≤◌, inl, inr, Bool, true, false, cond, List, [], ◌∷◌, length, Option, Some, None, refl, sym, ap, ◌∙◌, subst, arith, true≢false}
use Rattle.std.specs.Prelude.{◌==◌, nat_lt, All, slice_index, slice_index_or}
use Rattle.std.proofs.lemmas.Bool.{cases_eq}
use Rattle.std.proofs.lemmas.List.Elements.{All-nil, All-cons, All-append}
use Rattle.list_laws.proofs.Lists.{In}
use Rattle.plain_map.specs.declared.calls.Call.{Call}
use Rattle.plain_map.specs.declared.calls.Call.TheVariants.{Insert, Remove, Lookup, Tally, Count, Put}
use Rattle.plain_map.specs.declared.calls.Reply.{Reply}
use Rattle.word_rows.specs.Memory.{put, put_at}
use Rattle.word_rows.proofs.MemoryLemmas.{put_same, put_other, put_at_same, put_at_row, put_at_place}
use Rattle.bucket_states.specs.declared.ops.Op.{Op}
use Rattle.lasting_model.specs.Plans.{Plan, IsPlan, ample}
use Rattle.lasting_model.specs.Codes.{tag, row_in, generation_in}
use Rattle.lasting_model.specs.Words as W
use Rattle.lasting_model.specs.Words.{with_word}
use Rattle.lasting_model.specs.Steps as S
use Rattle.lasting_model.specs.Steps.{Step, Stand, Sweep, SeatNow, Update, Try, Course, Deed, Aim, OfKey, OfBucket, Glance, deed_of, glance_deed, sweep_deed, bucket_of_update, made, new_words, next_row, next_generation}
use Rattle.lasting_model.specs.Goes.{SweepFate, SweepsOn, Swept, sweep_fate_of, swept, sweep_begins, Fate, On, Ends, Refuses, first_fate, piece_fate, ends_with, lost, reply_by, fate, with_published, GlanceFate, Looks, Shows, Disturbed, glance_fate, Asked, Called, Told, Replied, Refused, asked_by_aim, told_by_items}
use Rattle.lasting_model.specs.Worlds.{Lasting, Answer, Asker, BySeat, ByReader, seat_in, with_seat, ticked, found_by, store_after, seat_after, answers_after, with_answer, stepped, goes, glances, look_after, look_answers, look_begins, update_begins, call_begins, goes_on, act, stand_at, next_update, course_from, LOOK_TRIES, What, Begin, Copy, Step_on, IsFlying, Fits}
use Rattle.lasting_laws.proofs.Lists.{either_put}
use Rattle.lasting_laws.proofs.Words.{row_of_tag, generation_of_tag}
use Rattle.lasting_laws.proofs.Pools.{owner_in, Pools, rows_at}
use Rattle.lasting_laws.proofs.HeldStates.{among}
use Rattle.lasting_laws.proofs.HeldSteps.{in_among}
use Rattle.lasting_laws.proofs.PoolSteps.{IsNoExchange, quiet_words, quiet_step, quiet_glance}
use Rattle.lasting_laws.proofs.Marks.{Writes, Marks, Turn, Change, next_in, writer_owns, own_small, turns, marked, NoWrite, no_write, replied, loses, IsReading, reads_on, piece_on, first_on, same_rows, IsNoStore, step_rows, glance_rows}

-- who asked is a seat
abbrev pub IsSeat : Asker → Type 0
IsSeat (BySeat seat) = Unit {0}
IsSeat (ByReader reader) = ⊥

-- what an event of a seat leaves
pub record Leaves (plan : Plan) (x y : Lasting) : Type 1 where
  pub marks : Marks plan y
  pub turn : Turn plan x y
  pub answers : (P : Answer → Type 0) → ((a : Answer) → IsSeat a.by → P a) → All P x.answers → All P y.answers
  pub readers : y.readers ≡ x.readers
  pub clock : y.clock ≡ x.clock + 1
  -- a row that is not free stays as it is
  pub live : (row : ℕ) → among (seat_in x (owner_in plan row)).free row ≡ false → (i : ℕ) →
      y.store.row row i ≡ x.store.row row i

-- the answers, with one of a seat
one_more : (x : Lasting) (seat : ℕ) (asked : Asked) (told : Told) (course : Course) (P : Answer → Type 0) →
    ((a : Answer) → IsSeat a.by → P a) → All P x.answers → All P (with_answer x (BySeat seat) asked told course)
one_more x seat asked told course P each all =
    let a : Answer = record {
      by = BySeat seat;
      asked = asked;
      told = told;
      began = course.began;
      ended = x.clock + 1;
      steps = course.steps;
    } in
    All-append P x.answers (a ∷ []) all (All-cons P a [] (each a tt) (All-nil P))

-- ---- what the seat knows of its rows

seat_known : (own : SeatNow) (u : Update) (next : Fate) → (seat_after own u next).generation ≡ own.generation
seat_known own u (On step) = refl
seat_known own u (Ends reply) = refl
seat_known own u Refuses = refl

pub swept_known : (now : SeatNow) (f : SweepFate) → (swept now f).generation ≡ now.generation
swept_known now (SweepsOn kept sweep) = refl
swept_known now (Swept kept gone) = refl

look_known : (now : SeatNow) (aim : Aim) (was : Glance) (next : GlanceFate) →
    (look_after now aim was next).generation ≡ now.generation
look_known now aim was (Looks glance) = refl
look_known now aim was (Shows items) = refl
look_known now aim was Disturbed = refl

pub begin_known : (named : List (ℕ × ℕ)) (sweep : Option Sweep) (now : SeatNow) →
    (sweep_begins named sweep now).generation ≡ now.generation
begin_known named (Some sweep) now = refl
begin_known [] None now = refl
begin_known (r ∷ named) None now = refl

module _ (plan : Plan) (is_plan : IsPlan plan) (x : Lasting) (h : Pools plan x) (m : Marks plan x) (p : ℕ)
    (inside : p < plan.settings.seats) where
  abbrev now : SeatNow
  now = seat_in x p

  -- by what is changed
  leaves : (store : W.Store) (then : SeatNow) (answers : List Answer) → Change plan x p store then →
      ((P : Answer → Type 0) → ((a : Answer) → IsSeat a.by → P a) → All P x.answers → All P answers) →
      Leaves plan x (ticked (with_seat x p store then answers))
  leaves store then answers c adds = record {
    marks = marked plan is_plan x h m p inside store then answers c;
    turn = turns plan is_plan x h m p inside store then answers c;
    answers = adds;
    readers = refl;
    clock = refl;
    live = λ row kept. elim (c.rows row) [
      | inl same ↦ same
      | inr z ↦ absurd (true≢false (sym (in_among (seat_in x p).free row z.1)
          ∙ ap (λ q. among (seat_in x q).free row) (sym z.0) ∙ kept))
    ];
  }

  -- a step that changes neither rows nor bucket words
  plain : (store : W.Store) (then : SeatNow) → store.row ≡ x.store.row → store.bucket ≡ x.store.bucket →
      then.generation ≡ now.generation → Writes store then then.stand → Change plan x p store then
  plain store then rows words known writes = record {
    rows = λ row. inl (λ i. ap (λ (f : ℕ → ℕ → ℕ). f row i) rows);
    known = λ row. (let e : then.generation row ≡ now.generation row = ap (λ (f : ℕ → ℕ). f row) known in omega
        (arith, e));
    words = λ b less. inl (ap (λ (f : ℕ → ℕ). f b) words);
    writes = writes;
  }

  adds_after : (call : Call) (course : Course) (next : Fate) (P : Answer → Type 0) →
      ((a : Answer) → IsSeat a.by → P a) → All P x.answers → All P (answers_after x p call course next)
  adds_after call course (On step) P each all = all
  adds_after call course (Ends reply) P each all = one_more x p (Called call) (Replied reply) course P each all
  adds_after call course Refuses P each all = one_more x p (Called call) Refused course P each all

  -- ---- an update

  steps_on : (own : SeatNow) (u : Update) (step : Step) (next : Fate) → own.generation ≡ now.generation →
      IsNoExchange step → IsNoStore step → NoWrite next →
      Leaves plan x (ticked (with_seat x p (store_after (deed_of (ample plan) p now u step) x.store)
      (seat_after own u next) (answers_after x p u.call (stepped now.course) next)))
  steps_on own u step next known quiet none n =
      let deed = deed_of (ample plan) p now u step in
      let store = store_after deed x.store in
      leaves store (seat_after own u next) (answers_after x p u.call (stepped now.course) next)
      (plain store (seat_after own u next) (same_rows deed x.store (step_rows (ample plan) p now u step none))
      (quiet_words deed x.store (quiet_step (ample plan) p now u step quiet)) (seat_known own u next ∙ known)
      (no_write store own u next n))
      (adds_after u.call (stepped now.course) next)

  plainly : (u : Update) (step : Step) → IsNoExchange step → IsNoStore step → IsReading step →
      (let next = fate (ample plan) p now u step (found_by (deed_of (ample plan) p now u step) x.store) in
      Leaves plan x (ticked (with_seat x p (store_after (deed_of (ample plan) p now u step) x.store)
      (seat_after now u next) (answers_after x p u.call (stepped now.course) next))))
  plainly u step quiet none reading =
      let found = found_by (deed_of (ample plan) p now u step) x.store in
      steps_on now u step (fate (ample plan) p now u step found) refl quiet none
      (reads_on (ample plan) p now u step found reading)

  -- a word of the new row: its generation first
  store_step : (u : Update) (t : Try) (found : List (Option Op)) (i : ℕ) → now.stand ≡ S.Goes u (S.StoreRow t found i) →
      Leaves plan x (ticked (goes plan x p now u (S.StoreRow t found i)))
  store_step u t found i stood =
      leaves store (seat_after now u (On next)) x.answers
      (record {
        rows = λ r. elim (cases_eq r row) [
          | inl e ↦ inr (
            ap (owner_in plan) e ∙ own,
            subst (λ k. In k now.free) (sym e) (next_in now.free (omega (arith, some))),
            ap (λ k. store.row k 0) e ∙ marked_row ∙ ap (λ k. now.generation k + 1) (sym e),
          )
          | inr n ↦ inl (λ j. put_at_row x.store.row row i word r j n)
        ];
        known = λ r. omega arith;
        words = λ b less. inl refl;
        writes = then_writes (nat_lt (i + 1) (length (new_words (ample plan) now t found)));
      })
      (λ P each all. all)
    where
      row : ℕ
      row = next_row now

      word : ℕ
      word = slice_index (new_words (ample plan) now t found) i

      store : W.Store
      store = with_word x.store (W.RowWord row i) word

      next : Step
      next = cond (nat_lt (i + 1) (length (new_words (ample plan) now t found))) (S.StoreRow t found (i + 1))
          (S.Exchange t found)

      some : 1 ≤ length now.free
      some = subst (λ (s : Stand). HasFree s) stood (h.seats p inside).row
        where
          HasFree : Stand → Type 0
          HasFree S.Idle = Unit {0}
          HasFree (S.Goes v s) = rows_at s ≤ length now.free
          HasFree (S.Glances aim glance) = Unit {0}

      own : owner_in plan row ≡ p
      own = writer_owns plan is_plan x h p inside u (S.StoreRow t found i) stood (omega arith)

      wrote : 0 < i → x.store.row row 0 ≡ next_generation now
      wrote = subst (λ (s : Stand). Writes x.store now s) stood (m.writing p inside)

      marked_row : store.row row 0 ≡ next_generation now
      marked_row = elim (cases_eq 0 i) [
        | inl e ↦
            ap (λ k. put_at x.store.row row k (slice_index (new_words (ample plan) now t found) k) row 0) (sym e)
            ∙ put_at_same x.store.row row 0 (next_generation now)
        | inr n ↦ put_at_place x.store.row row i word row 0 n ∙ wrote (above i n)
      ]
        where
          above : (k : ℕ) → 0 ≢ k → 0 < k
          above zero d = absurd (d refl)
          above (suc k) d = omega arith

      then_writes : (b : Bool) → Writes store (seat_after now u
          (On (cond b (S.StoreRow t found (i + 1)) (S.Exchange t found))))
          (S.Goes u (cond b (S.StoreRow t found (i + 1)) (S.Exchange t found)))
      then_writes true = λ _. marked_row
      then_writes false = marked_row

  -- an exchange
  exchange_step : (u : Update) (t : Try) (found : List (Option Op)) → now.stand ≡ S.Goes u (S.Exchange t found) →
      Leaves plan x (ticked (goes plan x p now u (S.Exchange t found)))
  exchange_step u t found stood = go (x.store.bucket b == t.word)
    where
      b : ℕ
      b = bucket_of_update (ample plan) u

      row : ℕ
      row = next_row now

      store : W.Store
      store = with_word x.store (W.Bucket b) (tag (next_generation now) row)

      reply : Fate
      reply = reply_by p (made (ample plan) t found)

      own : owner_in plan row ≡ p
      own = writer_owns plan is_plan x h p inside u (S.Exchange t found) stood (omega arith)

      small : row < 2 ^ 17
      small = own_small plan is_plan x h row (omega (arith, own, inside))

      wrote : x.store.row row 0 ≡ next_generation now
      wrote = subst (λ (s : Stand). Writes x.store now s) stood (m.writing p inside)

      known_up : (r : ℕ) → now.generation r ≤ put now.generation row (next_generation now) r
      known_up r = elim (either_put now.generation row (next_generation now) r) [
        | inl e ↦ (let same = ap now.generation e.0 in omega (arith, e.1, same))
        | inr n ↦ omega (arith, n.1)
      ]

      here : store.bucket b ≡ tag (next_generation now) row
      here = put_same x.store.bucket b (tag (next_generation now) row)

      row_here : row_in (store.bucket b) ≡ row
      row_here = ap row_in here ∙ row_of_tag (next_generation now) row small

      mark_here : generation_in (store.bucket b) ≡ next_generation now
      mark_here = ap generation_in here ∙ generation_of_tag (next_generation now) row small

      known_here : (with_published now b).generation row ≡ next_generation now
      known_here = put_same now.generation row (next_generation now)

      -- the bucket word is another, and the row is published
      change : (then : SeatNow) → then.generation ≡ (with_published now b).generation → Writes store then then.stand →
          Change plan x p store then
      change then known writes = record {
        rows = λ r. inl (λ i. refl);
        known = λ r.
            (let e : then.generation r ≡ (with_published now b).generation r = ap (λ (f : ℕ → ℕ). f r) known in
            omega (arith, e, known_up r));
        words = λ a less. elim (cases_eq a b) [
          | inl e ↦ inr (
            ap (λ k. owner_in plan (row_in (store.bucket k))) e ∙ ap (owner_in plan) row_here ∙ own,
            ap (λ k. x.store.row (row_in (store.bucket k)) 0) e ∙ ap (λ r. x.store.row r 0) row_here ∙ wrote
                ∙ sym mark_here ∙ ap (λ k. generation_in (store.bucket k)) (sym e),
            (let mark = ap (λ k. generation_in (store.bucket k)) e in
                let at : then.generation (row_in (store.bucket a)) ≡ next_generation now =
                ap (λ k. then.generation (row_in (store.bucket k))) e ∙ ap then.generation row_here
                ∙ ap (λ (f : ℕ → ℕ). f row) known ∙ known_here in
                omega (arith, mark, mark_here, at)),
          )
          | inr n ↦ inl (put_other x.store.bucket b (tag (next_generation now) row) a n)
        ];
        writes = writes;
      }

      won : (o : Option Reply) → Leaves plan x (ticked (with_seat x p store
          (seat_after (with_published now b) u (ends_with o))
          (answers_after x p u.call (stepped now.course) (ends_with o))))
      won o = leaves store (seat_after (with_published now b) u (ends_with o))
          (answers_after x p u.call (stepped now.course) (ends_with o))
          (change (seat_after (with_published now b) u (ends_with o))
          (seat_known (with_published now b) u (ends_with o))
          (no_write store (with_published now b) u (ends_with o) (replied o)))
          (adds_after u.call (stepped now.course) (ends_with o))

      go : (c : Bool) → Leaves plan x (ticked (with_seat x p (cond c store x.store)
          (seat_after (cond c (with_published now b) now) u (cond c reply (lost t.turn)))
          (answers_after x p u.call (stepped now.course) (cond c reply (lost t.turn)))))
      go true = won (slice_index_or (made (ample plan) t found).replies p None)
      go false = leaves x.store (seat_after now u (lost t.turn))
          (answers_after x p u.call (stepped now.course) (lost t.turn))
          (plain x.store (seat_after now u (lost t.turn)) refl refl refl
          (no_write x.store now u (lost t.turn) (loses t.turn)))
          (adds_after u.call (stepped now.course) (lost t.turn))

  update_step : (u : Update) (step : Step) → now.stand ≡ S.Goes u step → Leaves plan x
      (ticked (goes plan x p now u step))
  update_step u (S.Sweeps rows) stood =
      let f = sweep_fate_of (ample plan) p now.sweep (found_by (sweep_deed now.sweep) x.store) in
      steps_on (swept now f) u (S.Sweeps rows) (piece_fate now.free rows f) (swept_known now f) tt tt
      (piece_on now.free rows f)
  update_step u (S.StoreRow t found i) stood = store_step u t found i stood
  update_step u (S.Exchange t found) stood = exchange_step u t found stood
  update_step u S.StoreAsking stood =
      steps_on (record now { time = now.time + 1 }) u S.StoreAsking (On S.HeldWord) refl tt tt tt
  update_step u (S.StoreOp i) stood = plainly u (S.StoreOp i) tt tt tt
  update_step u S.Announce stood = plainly u S.Announce tt tt tt
  update_step u (S.LoadWord turn) stood = plainly u (S.LoadWord turn) tt tt tt
  update_step u (S.LoadRow turn word words) stood = plainly u (S.LoadRow turn word words) tt tt tt
  update_step u (S.CheckRow turn word words) stood = plainly u (S.CheckRow turn word words) tt tt tt
  update_step u (S.LoadAnnounced t found) stood = plainly u (S.LoadAnnounced t found) tt tt tt
  update_step u (S.LoadOp t found announced words) stood = plainly u (S.LoadOp t found announced words) tt tt tt
  update_step u S.StoreWant stood = plainly u S.StoreWant tt tt tt
  update_step u S.HeldWord stood = plainly u S.HeldWord tt tt tt
  update_step u (S.TakeHold word) stood = plainly u (S.TakeHold word) tt tt tt
  update_step u (S.HeldNumber row) stood = plainly u (S.HeldNumber row) tt tt tt
  update_step u (S.HeldReply row) stood = plainly u (S.HeldReply row) tt tt tt
  update_step u S.Stuck stood = plainly u S.Stuck tt tt tt

  -- ---- looks, and begins

  look_writes : (store : W.Store) (aim : Aim) (was : Glance) (next : GlanceFate) →
      Writes store (look_after now aim was next) (look_after now aim was next).stand
  look_writes store aim was (Looks glance) = tt
  look_writes store aim was (Shows items) = tt
  look_writes store aim was Disturbed = tt

  look_adds : (aim : Aim) (course : Course) (next : GlanceFate) (P : Answer → Type 0) →
      ((a : Answer) → IsSeat a.by → P a) → All P x.answers → All P (look_answers (ample plan) x p aim course next)
  look_adds aim course (Looks glance) P each all = all
  look_adds aim course (Shows items) P each all =
      one_more x p (asked_by_aim aim) (told_by_items (ample plan) aim items) course P each all
  look_adds aim course Disturbed P each all = all

  look_step : (aim : Aim) (glance : Glance) → Leaves plan x (ticked (glances plan x p now aim glance))
  look_step aim glance =
      let deed = glance_deed (ample plan) p now.time aim glance in
      let store = store_after deed x.store in
      let next = glance_fate (ample plan) now.time aim glance (found_by deed x.store) in
      leaves store (look_after now aim glance next) (look_answers (ample plan) x p aim (stepped now.course) next)
      (plain store (look_after now aim glance next) (same_rows deed x.store
      (glance_rows (ample plan) p now.time aim glance))
      (quiet_words deed x.store (quiet_glance (ample plan) p now.time aim glance)) (look_known now aim glance next)
      (look_writes store aim glance next))
      (look_adds aim (stepped now.course) next)

  look_first : (aim : Aim) → Leaves plan x (ticked (look_begins x p now aim))
  look_first aim =
      let then : SeatNow = record now {
        stand = S.Glances aim (S.GlanceWord (LOOK_TRIES - 1));
        course = course_from x.clock;
      } in
      leaves x.store then x.answers (plain x.store then refl refl refl tt) (λ P each all. all)

  stand_writes : (taken : SeatNow) (u : Update) (course : Course) (next : Fate) → NoWrite next →
      (let then : SeatNow = record taken { stand = stand_at u next; course = course } in
      Writes x.store then then.stand)
  stand_writes taken u course (Ends reply) n = tt
  stand_writes taken u course Refuses n = tt
  stand_writes taken u course (On step) n = no_write x.store taken u (On step) n

  update_first : (call : Call) → Leaves plan x (ticked (update_begins x p now call))
  update_first call =
      let taken = sweep_begins now.named now.sweep now in
      let u = next_update now call in
      let next = first_fate now.free taken.sweep in
      let then : SeatNow = record taken { stand = stand_at u next; course = course_from x.clock } in
      leaves x.store then (answers_after x p call (course_from x.clock) next)
      (plain x.store then refl refl (begin_known now.named now.sweep now)
      (stand_writes taken u (course_from x.clock) next (first_on now.free taken.sweep)))
      (adds_after call (course_from x.clock) next)

  call_first : (call : Call) → Leaves plan x (ticked (call_begins x p now call))
  call_first (Lookup key) = look_first (OfKey key)
  call_first (Insert key value) = update_first (Insert key value)
  call_first (Remove key) = update_first (Remove key)
  call_first (Tally key amount) = update_first (Tally key amount)
  call_first (Count key value amount) = update_first (Count key value amount)
  call_first (Put key value) = update_first (Put key value)

  seat_goes : (stand : Stand) → now.stand ≡ stand → IsFlying stand → Leaves plan x (ticked (goes_on plan x p now stand))
  seat_goes S.Idle e flies = absurd flies
  seat_goes (S.Goes u step) e flies = update_step u step e
  seat_goes (S.Glances aim glance) e flies = look_step aim glance

  -- THE RESULT
  pub seat_leaves : (what : What) → Fits plan now what → Leaves plan x (ticked (act plan x p now what))
  seat_leaves (Begin call) fits = call_first call
  seat_leaves (Copy bucket) fits = look_first (OfBucket bucket)
  seat_leaves Step_on fits = seat_goes now.stand refl fits
