-- The steps of a try are steps of the protocol: the accepted check loads the row, and each announcement that is loaded
-- is a look, as is the own op where its turn is.
use Rattle.std.proofs.Common.{◌≡◌, ◌≢◌, ℕ, ◌+◌, ◌<◌, ◌≤◌, inl, inr, Bool, true, false, cond, List, [], ◌∷◌, length, Option, Some, None, refl, sym, ap, ◌∙◌, subst, arith, true≢false}
use Rattle.std.specs.Prelude.{◌==◌, ◌&&◌, nat_lt}
use Rattle.std.proofs.lemmas.Bool.{cases_eq, cond_both, eqb-true, eqb-false, ltb-true, ltb-false}
use Rattle.std.proofs.lemmas.List.{length-append}
use Rattle.plain_map.specs.declared.calls.Call.{Call}
use Rattle.plain_map.specs.Updates.{IsUpdate}
use Rattle.plain_map.specs.Calls.{key_in}
use Rattle.word_rows.proofs.MemoryLemmas.{put_same}
use Rattle.bucket_states.specs.Items.{reply_in}
use Rattle.exchange_model.specs.Plans.{rules_of, Plan, IsPlan, buckets_of, more}
use Rattle.exchange_model.specs.Codes.{last_generation, is_spent, SLOT_WORDS, Entry, Row, row_in, generation_in, row_of_words, row_at, length_by, number_in, class_in, is_pending, call_in, announcing}
use Rattle.exchange_model.specs.Steps as S
use Rattle.exchange_model.specs.Steps.{Stand, SeatNow, Found, Try, bucket_of_call}
use Rattle.exchange_model.specs.Goes.{Fate, On, Spends, Ends, gives_up, unless_spent, is_quiet, share_of, own_op, found_alone, is_announced, lost, ends_with, with_own, found_so_far, by_entry, looked, is_here, entry_for, after_entry, op_in, fate}
use Rattle.exchange_model.specs.Worlds.{World, seat_in}
use Rattle.exchange_laws.proofs.Announcing as A
use Rattle.exchange_laws.proofs.Announcing.{State}
use Rattle.exchange_laws.proofs.Announcements.{Tells, Announces}
use Rattle.exchange_laws.proofs.Entries.{most, entry_told, entry_none, One}
use Rattle.exchange_laws.proofs.OpTells.{class_of, loaded_call, Announced, IsOf, announced_op}
use Rattle.exchange_laws.proofs.FoundAlone.{alone_many}
use Rattle.exchange_laws.proofs.TrueReads.{IsFront, front_more, whole_row, Loaded}
use Rattle.exchange_laws.proofs.Words.{bucket_small, seat_holds}
use Rattle.exchange_laws.proofs.Tied.{through, Tied, TryIs, OpIs, TryStep, TryAt, TryFate, who_pends, pends_word, small20, same_self, same_tried, Result, stay, either, loses, ends, own_pends, Past, past, known, to_ops, onward}

module _ (plan : Plan) (is_plan : IsPlan plan) (x : World) (s : State) (tied : Tied plan x s) (all : Announces plan x)
    (p : ℕ) (inside : p < plan.settings.seats) (call : Call) where
  abbrev now : SeatNow
  now = seat_in x p

  abbrev b : ℕ
  b = bucket_of_call plan call

  small : b < buckets_of plan.settings
  small = bucket_small plan is_plan (key_in call)

  abbrev R : Fate → Type 0
  R f = Result plan is_plan x s tied all p inside call f

  abbrev T : State → Fate → Type 0
  T z f = TryFate plan x.store.bucket x.store.op z p b f

  abbrev Said : (turn : ℕ) → Type 0
  Said turn = Tells (is_announced turn) (x.store.announced p) (x.store.op p) now.posted b call

  -- ---- the row is loaded

  module _ (turn old : ℕ) (words : List ℕ) (loaded : Loaded plan x b old words)
      (whole : length words ≡ length_by plan words)
      (tells : Said turn) where
    abbrev t : Try
    t = record { turn = turn; word = old; row = row_of_words plan words }

    module _ (same : x.store.bucket b ≡ old) where
      row_is : (k : ℕ) → k < plan.settings.seats → s.entry b k ≡ most k t.row.entries
      row_is k less =
          tied.rows b k small less
          ∙ ap (λ w. most k (row_at plan (x.store.row (row_in plan w))).entries) same
          ∙ sym (ap (λ (r : Row). most k r.entries) (whole_row plan words (x.store.row (row_in plan old))
          (loaded.front same) whole))

      module _ (some : is_spent plan old ≡ false) where
        not_last : s.generation b ≢ last_generation plan
        not_last e = eqb-false (generation_in plan old) (last_generation plan) some
            (sym (tied.gens b small ∙ ap (generation_in plan) same) ∙ e)

        begins : (is_announced turn ≡ true → entry_for p (s.posted p) t.row.entries ≡ None) → R (On (S.LoadPending t))
        begins free =
            let a = A.At b (s.generation b) 0 (s.entry b) (λ _. A.NoOp) in
            let z = A.tried plan.settings.seats (last_generation plan) s p a in
            record {
              z = z;
              same = same_tried plan s s p a (same_self plan s p);
              holds = A.load_keeps plan.settings.seats (last_generation plan) s tied.holds p b not_last;
              here = λ _. record {
                seen = s.entry b;
                fs = λ _. A.NoOp;
                is = put_same s.tries p a
                    ∙ ap (λ g. A.At b g 0 (s.entry b) (λ _. A.NoOp)) (tied.gens b small ∙ ap (generation_in plan) same);
                sees = row_is;
                match = tt;
                free = free;
                own = λ e less. absurd (omega (arith, less));
              };
            }

      -- it is tried, unless the bucket is spent
      unless : (is_announced turn ≡ true → entry_for p (s.posted p) t.row.entries ≡ None) → R (unless_spent plan t)
      unless free = cond_both (is_spent plan old) (gives_up (is_announced turn)) (On (S.LoadPending t)) R
          (λ spent. gives_it_up spent (is_announced turn) refl) (λ some. begins some free)
        where
          gives_it_up : is_spent plan old ≡ true → (a : Bool) → is_announced turn ≡ a → R (gives_up a)
          gives_it_up spent false is = stay plan is_plan x s tied all p inside call Spends tt
          gives_it_up spent true is =
              let own = own_pends plan is_plan x s tied all p inside call t tells is in
              stay plan is_plan x s tied all p inside call (On (S.Over S.GivenUp)) (
                own.0,
                own.1,
                λ e. entry_none p (s.posted p) t.row.entries (free is) (sym (row_is p inside) ∙ e),
                tied.gens b small ∙ ap (generation_in plan) same
                    ∙ eqb-true (generation_in plan old) (last_generation plan) spent,
              )

      -- the entry is there
      answered : (e : Entry) → is_announced turn ≡ true → entry_for p now.posted t.row.entries ≡ Some e →
          R (by_entry plan t (Some e))
      answered e is there =
          let own = own_pends plan is_plan x s tied all p inside call t tells is in
          let high = (entry_told p now.posted t.row.entries e there).2 in
          let low = tied.holds.within b p in
          let is_row = row_is p inside in
          let posted = tied.posted p inside in
          stay plan is_plan x s tied all p inside call (ends_with true e.reply)
          (ends plan is_plan x s tied all p inside call s true e.reply
          (λ _. (own.0, own.1, omega (arith, high, low, is_row, posted))))

      by_own : (o : Option Entry) → is_announced turn ≡ true → entry_for p now.posted t.row.entries ≡ o →
          R (by_entry plan t o)
      by_own None is e = unless (λ _. ap (λ n. entry_for p n t.row.entries) (tied.posted p inside) ∙ e)
      by_own (Some entry) is e = answered entry is e

      look : R (looked plan p now call t)
      look =
          let quiet = is_quiet (rules_of plan) t.row.items call in
          let answer = reply_in (rules_of plan) t.row.items call in
          cond_both (is_announced turn) (by_entry plan t (entry_for p now.posted t.row.entries))
          (cond quiet (Ends answer) (unless_spent plan t)) R (λ e. by_own (entry_for p now.posted t.row.entries) e refl)
          (λ e. cond_both quiet (Ends answer) (unless_spent plan t) R
          (λ _. stay plan is_plan x s tied all p inside call (Ends answer) tt)
          (λ _. unless (λ is. absurd (true≢false (sym is ∙ e)))))

    pub check_step : R (fate plan p now call (S.CheckWord turn old words) (x.store.bucket b))
    check_step = cond_both (x.store.bucket b == old) (looked plan p now call t) (lost turn) R
        (λ e. look (eqb-true (x.store.bucket b) old e))
        (λ e. stay plan is_plan x s tied all p inside call (lost turn)
        (loses plan is_plan x s tied all p inside call s turn))

  -- ---- what is pending is loaded

  module _ (t : Try) (tells : Said t.turn)
      (only : x.store.pending ≡ share_of (is_announced t.turn) → (q : ℕ) → q < plan.settings.seats → q ≢ p →
      s.pending q ≡ false) where
    abbrev gone : List Found
    gone = found_alone p (own_op now.posted t.turn call) plan.settings.seats []

    pub pending_step : TryStep plan x.store.bucket x.store.op s p b (S.LoadPending t) →
        R (fate plan p now call (S.LoadPending t) x.store.pending)
    pending_step was = cond_both (x.store.pending == share_of (is_announced t.turn))
        (On (S.StoreRow t (found_alone p (own_op now.posted t.turn call) plan.settings.seats []) 0))
        (found_so_far plan p now call t []) R
        (λ e. at_once (eqb-true x.store.pending (share_of (is_announced t.turn)) e))
        (λ _. onward plan is_plan x s tied all p inside call t tells s (same_self plan s p) tied.holds [] was)
      where
        long : plan.settings.seats ≤ length gone
        long =
            (let e = alone_many p (own_op now.posted t.turn call) plan.settings.seats [] in omega (arith, e))

        at_once : x.store.pending ≡ share_of (is_announced t.turn) → R (On (S.StoreRow t gone 0))
        at_once alone = elim (cases_eq (x.store.bucket b) t.word) [
          | inr n ↦ stay plan is_plan x s tied all p inside call (On (S.StoreRow t gone 0)) (long, λ e. absurd (n e))
          | inl e ↦
              let w = through plan is_plan x s tied all p inside call t tells (only alone) plan.settings.seats []
              (omega arith) (record { then = s; same = same_self plan s p; holds = tied.holds; try = was e }) in
              record { z = w.then; same = w.same; holds = w.holds; here = (long, λ _. w.try) }
        ]

  -- ---- an announcement is loaded

  module _ (t : Try) (tells : Said t.turn) (found : List Found) (few : length found < plan.settings.seats) where
    abbrev k : ℕ
    k = length found

    abbrev w : ℕ
    w = x.store.announced k

    abbrev f_of : Option Entry → Fate
    f_of o = after_entry plan p now call t found w o

    -- the word is another one
    module _ (n : x.store.bucket b ≢ t.word) where
      void_ops : (fs : List Found) → T s (found_so_far plan p now call t fs)
      void_ops fs =
          to_ops plan is_plan x s tied all p inside call t tells s (with_own p now call t.turn fs) (λ e. absurd (n e))

      void_entry : (o : Option Entry) → T s (f_of o)
      void_entry None = λ e. absurd (n e)
      void_entry (Some entry) = void_ops (more found (S.Keeps entry))

    module _ (i : TryIs plan s p b t found (length found)) (same : x.store.bucket b ≡ t.word) where
      sound : A.Sound plan.settings.seats (last_generation plan) s b (generation_in plan t.word) k i.seen i.fs
      sound =
          let was : A.Tries plan.settings.seats (last_generation plan) s
          (A.At b (generation_in plan t.word) k i.seen i.fs) =
          subst (A.Tries plan.settings.seats (last_generation plan) s) i.is (tied.holds.tries p) in
          was.2 (tied.gens b small ∙ ap (generation_in plan) same)

      next : Past plan is_plan x s tied all p inside call t tells s found i
      next = past plan is_plan x s tied all p inside call t tells s (same_self plan s p) tied.holds found i

      go_on : (f : Found) → One plan b next.try.seen next.try.fs k f → R (found_so_far plan p now call t (more found f))
      go_on f one = onward plan is_plan x s tied all p inside call t tells next.then next.same next.holds (more found f)
          (λ _. known plan is_plan x s tied all p inside call t tells next.then found f next.try one)

      -- no op of this bucket
      none_here : ((is_pending w ≡ true) → (class_in w ≡ b) → ⊥) →
          R (found_so_far plan p now call t (more found S.NoOp))
      none_here out =
          let bad : (s.pending k ≡ true) → (s.home k ≡ b) → ⊥ = λ a m.
          (let z = pends_word plan is_plan s k w (tied.pends k few) a in out z.0 (z.2 ∙ m)) in
          go_on S.NoOp (next.at
          ∙ A.found_cases plan.settings.seats (last_generation plan) s b i.seen k (λ f. f ≡ A.NoOp)
          (λ a m e. absurd (bad a m)) (λ a m e. absurd (bad a m)) (λ _. refl))

      module _ (is : is_pending w ≡ true) (class : class_in w ≡ b) where
        who : (s.pending k ≡ true) × (w ≡ announcing (s.posted k) (s.home k)) × (s.home k < buckets_of plan.settings)
        who = who_pends plan is_plan s k w (tied.pends k few) is

        told : (is_pending w ≡ true) × (number_in w ≡ s.posted k) × (class_in w ≡ s.home k)
        told = pends_word plan is_plan s k w (tied.pends k few) who.0

        home : s.home k ≡ b
        home = sym told.2 ∙ class

        seen_is : i.seen k ≡ s.entry b k
        seen_is = sound.alike k

        by_entry_of : (o : Option Entry) → entry_for k (number_in w) t.row.entries ≡ o → R (f_of o)
        by_entry_of None e = record {
          z = next.then;
          same = next.same;
          holds = next.holds;
          here = λ _. record {
            try = next.try;
            takes = next.at
                ∙ A.found_cases plan.settings.seats (last_generation plan) s b i.seen k (λ f. f ≡ A.Take (number_in w))
                (λ a m is. absurd (entry_none k (number_in w) t.row.entries e
                (sym (i.sees k few) ∙ is ∙ ap (λ j. j + 1) (sym told.1))))
                (λ a m is. ap A.Take (sym told.1)) (λ out. absurd (out who.0 home));
            front = λ j less. absurd (omega (arith, less));
            few = omega arith;
          };
        }
        by_entry_of (Some entry) e =
            let z = entry_told k (number_in w) t.row.entries entry e in
            let high = z.2 in
            let low = tied.holds.within b k in
            let sees = i.sees k few in
            let alike = seen_is in
            let number = told.1 in
            let exact : i.seen k ≡ s.posted k + 1 = omega (arith, high, low, sees, alike, number) in
            go_on (S.Keeps entry) (
              next.at
                  ∙ A.found_cases plan.settings.seats (last_generation plan) s b i.seen k (λ f. f ≡ A.Keep)
                  (λ a m is. refl)
                  (λ a m n. absurd (n exact)) (λ out. absurd (out who.0 home)),
              z.0,
              ap (λ j. j + 1) (z.1 ∙ told.1) ∙ sym exact ∙ sym (ap (λ (f : ℕ → ℕ). f k) next.sees),
            )

      by_here : (a c : Bool) → is_pending w ≡ a → (class_in w == b) ≡ c →
          R (cond (a && c) (f_of (entry_for k (number_in w) t.row.entries))
          (found_so_far plan p now call t (more found S.NoOp)))
      by_here true true e i = by_entry_of e (eqb-true (class_in w) b i) (entry_for k (number_in w) t.row.entries) refl
      by_here true false e i = none_here (λ _ m. eqb-false (class_in w) b i m)
      by_here false c e i = none_here (λ is _. true≢false (sym is ∙ e))

    pub announced_step : TryStep plan x.store.bucket x.store.op s p b (S.LoadAnnounced t found) →
        R (fate plan p now call (S.LoadAnnounced t found) w)
    announced_step was = elim (cases_eq (x.store.bucket b) t.word) [
      | inl e ↦ by_here (was e) e (is_pending w) (class_in w == b) refl refl
      | inr n ↦ stay plan is_plan x s tied all p inside call _
          (either plan is_plan x s tied all p inside call s (f_of (entry_for k (number_in w) t.row.entries))
          (found_so_far plan p now call t (more found S.NoOp)) (is_here plan b w)
          (void_entry n (entry_for k (number_in w) t.row.entries)) (void_ops n (more found S.NoOp)))
    ]

    -- ---- a word of an op is loaded

    module _ (announced : ℕ) (words : List ℕ) where
      abbrev v : ℕ
      v = x.store.op k (length words)

      abbrev op : Found
      op = S.Takes (op_in announced (more words v))

      module _ (o : OpIs plan x.store.op s p b t found announced words) (same : x.store.bucket b ≡ t.word) where
        op_sound : A.Sound plan.settings.seats (last_generation plan) s b (generation_in plan t.word)
            (k + 1) o.try.seen o.try.fs
        op_sound =
            let was : A.Tries plan.settings.seats (last_generation plan) s (A.At b (generation_in plan t.word)
            (k + 1) o.try.seen o.try.fs) =
            subst (A.Tries plan.settings.seats (last_generation plan) s) o.try.is (tied.holds.tries p) in
            was.2 (tied.gens b small ∙ ap (generation_in plan) same)

        pub taken : (s.pending k ≡ true) × (s.home k ≡ b) × (number_in announced ≡ s.posted k)
            × (s.entry b k ≢ s.posted k + 1)
        taken = op_sound.takes k (number_in announced) (omega arith) o.takes

        op_front : IsFront (more words v) (x.store.op k)
        op_front = front_more words (x.store.op k) v o.front refl

        -- the call that the seat has announced
        pub its : Announced plan w (x.store.op k) (seat_in x k).posted (seat_in x k).stand
        its = announced_op plan w (x.store.op k) (seat_in x k).posted
            (pends_word plan is_plan s k w (tied.pends k few) taken.0).0 (seat_in x k).stand
            (all.each k (seat_holds plan k few))

        its_update : IsUpdate its.call
        its_update = go (seat_in x k).stand (tied.each k few) its.call its.of
          where
            go : (stand : Stand) → TryAt plan x.store.bucket x.store.op s k stand → (c : Call) → IsOf stand c →
                IsUpdate c
            go S.Idle a c i = absurd i
            go (S.Goes own step) a c i = subst IsUpdate i a.0
            go (S.Glances aim glance) a c i = absurd i

        its_class : bucket_of_call plan its.call ≡ b
        its_class =
            let c = bucket_of_call plan its.call in
            let small20_of = small20 plan is_plan c (bucket_small plan is_plan (key_in its.call)) in
            sym (class_of (seat_in x k).posted c small20_of) ∙ ap class_in (sym its.word_is)
            ∙ (pends_word plan is_plan s k w (tied.pends k few) taken.0).2 ∙ taken.1

        pub call_is : SLOT_WORDS ≤ length words + 1 → call_in (more words v) ≡ its.call
        call_is last =
            let long : length (more words v) ≡ length words + 1 = length-append words (v ∷ []) in
            let few = o.few in
            loaded_call (x.store.op k) (more words v) its.call op_front
            (omega (arith, long, last, few)) its.has its_update

        last_word : SLOT_WORDS ≤ length words + 1 → TryIs plan s p b t (more found op) (length (more found op))
        last_word last = known plan is_plan x s tied all p inside call t tells s found op o.try
            (o.takes, ap (bucket_of_call plan) (call_is last) ∙ its_class)

        one_more : length words + 1 < SLOT_WORDS → OpIs plan x.store.op s p b t found announced (more words v)
        one_more less = record {
          try = o.try;
          takes = o.takes;
          front = op_front;
          few = (let long = length-append words (v ∷ []) in omega (arith, less, long));
        }

      pub op_step : TryStep plan x.store.bucket x.store.op s p b (S.LoadOp t found announced words) →
          R (fate plan p now call (S.LoadOp t found announced words) v)
      op_step was = go (nat_lt (length words + 1) SLOT_WORDS) refl
        where
          go : (c : Bool) → nat_lt (length words + 1) SLOT_WORDS ≡ c →
              R (cond c (On (S.LoadOp t found announced (more words v)))
              (found_so_far plan p now call t (more found op)))
          go true e = stay plan is_plan x s tied all p inside call (On (S.LoadOp t found announced (more words v)))
              (λ same. one_more (was same) same (ltb-true (length words + 1) SLOT_WORDS e))
          go false e = onward plan is_plan x s tied all p inside call t tells s (same_self plan s p) tied.holds
              (more found op)
              (λ same. last_word (was same) same (ltb-false (length words + 1) SLOT_WORDS e))
