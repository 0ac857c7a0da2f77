-- The table follows the protocol of announced ops: what is said of a state of the protocol and a world of the table,
-- and where the steps of a try lead.
use Rattle.std.proofs.Common.{◌≡◌, ◌≢◌, ◌⊎◌, ℕ, zero, suc, ◌+◌, ◌^◌, ◌<◌, ◌≤◌, inl, inr, Bool, true, false, cond, List, [], ◌∷◌, length, Option, Some, None, refl, sym, ap, ◌∙◌, subst, arith, true≢false}
use Rattle.std.specs.Prelude.{◌==◌, nat_lt}
use Rattle.std.proofs.lemmas.Bool.{cases_eq, eqb-true, eqb-false, ltb-false}
use Rattle.std.proofs.lemmas.List.{length-append}
use Rattle.std.proofs.Math.Nat.{pow-le-pow_right}
use Rattle.plain_map.specs.declared.calls.Call.{Call}
use Rattle.plain_map.specs.declared.calls.Reply.{Reply}
use Rattle.plain_map.specs.Updates.{IsUpdate}
use Rattle.plain_map.specs.Calls.{key_in}
use Rattle.list_laws.proofs.Totals.{many}
use Rattle.word_rows.specs.Memory.{put}
use Rattle.word_rows.proofs.MemoryLemmas.{put_same, put_other}
use Rattle.exchange_model.specs.Plans.{holders_of, Plan, IsPlan, buckets_of, more}
use Rattle.exchange_model.specs.Codes.{last_generation, SLOT_WORDS, Row, row_in, generation_in, row_at, number_in, class_in, is_pending, announcing}
use Rattle.exchange_model.specs.Steps as S
use Rattle.exchange_model.specs.Steps.{Step, Stand, SeatNow, Found, Try, bucket_of_call, SOLO_TRIES, ALL_TRIES}
use Rattle.exchange_model.specs.Goes.{Fate, On, Ends, Spends, Refuses, is_announced, lost, ends_with, own_op, with_own, ops_or_row, found_alone, found_so_far, entry_for}
use Rattle.exchange_model.specs.Worlds.{World, seat_in}
use Rattle.exchange_laws.proofs.RowLists.{is_row}
use Rattle.exchange_laws.proofs.Announcing as A
use Rattle.exchange_laws.proofs.Announcing.{State, Holds}
use Rattle.exchange_laws.proofs.Announcements.{at_rest, Tells, Announces}
use Rattle.exchange_laws.proofs.Entries.{most, entry_none, One, Match, match_still, match_end}
use Rattle.exchange_laws.proofs.OpTells.{announcing_pends, number_of, class_of, rest_pends_not}
use Rattle.exchange_laws.proofs.FoundAlone.{next_alone}
use Rattle.exchange_laws.proofs.TrueReads.{IsFront}
use Rattle.exchange_laws.proofs.Words.{bucket_small}

-- the row that stands in a bucket
abbrev pub row_now : Plan → World → (b : ℕ) → Row
row_now plan x b = row_at plan (x.store.row (row_in plan (x.store.bucket b)))

module _ (plan : Plan) where
  -- a try of a seat, which has gone through so many seats
  pub record TryIs (s : State) (q b : ℕ) (t : Try) (found : List Found) (upto : ℕ) : Type 0 where
    pub seen : ℕ → ℕ
    pub fs : ℕ → A.Found
    pub is : s.tries q ≡ A.At b (generation_in plan t.word) upto seen fs
    pub sees : (k : ℕ) → k < plan.settings.seats → seen k ≡ most k t.row.entries
    pub match : Match plan b seen fs 0 found
    -- an own op that is announced has no entry yet, and it is found
    pub free : is_announced t.turn ≡ true → entry_for q (s.posted q) t.row.entries ≡ None
    pub own : is_announced t.turn ≡ true → q < upto → fs q ≡ A.Take (s.posted q)

  -- the op of the next seat is loaded
  pub record OpIs (op : ℕ → ℕ →
      ℕ) (s : State) (q b : ℕ) (t : Try) (found : List Found) (announced : ℕ) (words : List ℕ) :
      Type 0 where
    pub try : TryIs s q b t found (length found + 1)
    pub takes : try.fs (length found) ≡ A.Take (number_in announced)
    pub front : IsFront words (op (length found))
    pub few : length words < SLOT_WORDS

  -- the op that is announced was applied, and the row in use has its entry
  abbrev pub WasApplied : State → (q b : ℕ) → Type 0
  WasApplied s q b = (s.pending q ≡ true) × (s.home q ≡ b) × (s.entry b q ≡ s.posted q + 1)

  -- how late a try of an announced op is: its bucket was exchanged since the op was announced as often as there were
  -- tries of it before. Whoever has lost the last one has its entry in the row in use
  abbrev pub IsLate : State → (q turn generation : ℕ) → Type 0
  IsLate s q turn generation = is_announced turn ≡ true → s.since q + turn ≤ generation + 2

  abbrev pub SinceStep : State → (q b : ℕ) → Step → Type 0
  SinceStep s q b (S.LoadWord turn) = IsLate s q turn (s.generation b)
  SinceStep s q b (S.LoadRow turn word words) = IsLate s q turn (generation_in plan word)
  SinceStep s q b (S.CheckWord turn word words) = IsLate s q turn (generation_in plan word)
  SinceStep s q b (S.LoadPending t) = IsLate s q t.turn (generation_in plan t.word)
  SinceStep s q b (S.LoadAnnounced t found) = IsLate s q t.turn (generation_in plan t.word)
  SinceStep s q b (S.LoadOp t found announced words) = IsLate s q t.turn (generation_in plan t.word)
  SinceStep s q b (S.StoreRow t found i) = IsLate s q t.turn (generation_in plan t.word)
  SinceStep s q b (S.Exchange t found) = IsLate s q t.turn (generation_in plan t.word)
  SinceStep s q b S.StoreWant = WasApplied s q b
  SinceStep s q b S.StoreAsking = WasApplied s q b
  SinceStep s q b S.HeldWord = WasApplied s q b
  SinceStep s q b (S.TakeHold word) = WasApplied s q b
  SinceStep s q b (S.HeldHead row) = WasApplied s q b
  SinceStep s q b (S.HeldEntry row at left) = WasApplied s q b
  SinceStep s q b (S.HeldReply row at) = WasApplied s q b
  SinceStep s q b (S.GiveBack reply) = WasApplied s q b
  SinceStep s q b step = Unit {0}

  abbrev pub SinceFate : State → (q b : ℕ) → Fate → Type 0
  SinceFate s q b (On step) = SinceStep s q b step
  SinceFate s q b (Ends reply) = Unit {0}
  SinceFate s q b Spends = Unit {0}
  SinceFate s q b Refuses = Unit {0}

  -- all of it as long as the bucket has the word of the try
  abbrev pub TryStep : (bucket : ℕ → ℕ) (op : ℕ → ℕ → ℕ) → State → (q b : ℕ) → Step → Type 0
  TryStep bucket op s q b (S.LoadPending t) = bucket b ≡ t.word → TryIs s q b t [] 0
  TryStep bucket op s q b (S.LoadAnnounced t found) = bucket b ≡ t.word → TryIs s q b t found (length found)
  TryStep bucket op s q b (S.LoadOp t found announced words) = bucket b ≡ t.word → OpIs op s q b t found announced words
  TryStep bucket op s q b (S.StoreRow t found i) =
      (plan.settings.seats ≤ length found) × (bucket b ≡ t.word → TryIs s q b t found (length found))
  TryStep bucket op s q b (S.Exchange t found) =
      (plan.settings.seats ≤ length found) × (bucket b ≡ t.word → TryIs s q b t found (length found))
  -- the entry is there; or there is none, and never will be
  TryStep bucket op s q b (S.Over (S.Applied reply)) = WasApplied s q b
  TryStep bucket op s q b (S.Over S.GivenUp) =
      (s.pending q ≡ true) × (s.home q ≡ b) × (s.entry b q ≢ s.posted q + 1) × (s.generation b ≡ last_generation plan)
  TryStep bucket op s q b step = Unit {0}

  abbrev pub TryAt : (bucket : ℕ → ℕ) (op : ℕ → ℕ → ℕ) → State → (q : ℕ) → Stand → Type 0
  TryAt bucket op s q S.Idle = Unit {0}
  TryAt bucket op s q (S.Goes call step) =
      IsUpdate call × TryStep bucket op s q (bucket_of_call plan call) step
      × SinceStep s q (bucket_of_call plan call) step
  TryAt bucket op s q (S.Glances aim glance) = Unit {0}

  abbrev pub TryFate : (bucket : ℕ → ℕ) (op : ℕ → ℕ → ℕ) → State → (q b : ℕ) → Fate → Type 0
  TryFate bucket op s q b (On step) = TryStep bucket op s q b step
  TryFate bucket op s q b (Ends reply) = Unit {0}
  TryFate bucket op s q b Refuses = Unit {0}
  TryFate bucket op s q b Spends = Unit {0}

  -- an announcement says what is announced
  abbrev pub Pends : State → (q word : ℕ) → Type 0
  Pends s q word =
      ((s.pending q ≡ false) × (word ≡ at_rest (s.posted q)))
      ⊎ ((s.pending q ≡ true) × (word ≡ announcing (s.posted q) (s.home q)) × (s.home q < buckets_of plan.settings))

  -- no seat has this row as a free one: so nobody writes it
  abbrev pub NotFree : World → (row : ℕ) → Type 0
  NotFree x row = (p : ℕ) → p < holders_of plan.settings → many (is_row row) (seat_in x p).free ≡ 0

  pub record Tied (x : World) (s : State) : Type 0 where
    pub holds : Holds plan.settings.seats (last_generation plan) s
    pub gens : (b : ℕ) → b < buckets_of plan.settings → s.generation b ≡ generation_in plan (x.store.bucket b)
    pub rows : (b q : ℕ) → b < buckets_of plan.settings → q < plan.settings.seats →
        s.entry b q ≡ most q (row_now plan x b).entries
    pub posted : (q : ℕ) → q < plan.settings.seats → s.posted q ≡ (seat_in x q).posted
    pub pends : (q : ℕ) → q < plan.settings.seats → Pends s q (x.store.announced q)
    pub each : (q : ℕ) → q < plan.settings.seats → TryAt x.store.bucket x.store.op s q (seat_in x q).stand
    -- what a row says that is not free was applied
    pub olds : (row q : ℕ) → NotFree x row → q < plan.settings.seats →
        most q (row_at plan (x.store.row row)).entries ≤ s.done q

  -- ---- what announcements say

  pub small20 : IsPlan plan → (b : ℕ) → b < buckets_of plan.settings → b < 2 ^ 20
  small20 is b small =
      let buckets : 2 ^ plan.settings.depth ≤ 2 ^ 20 = pow-le-pow_right {n = 2} (omega arith) is.depth in
      omega (arith, small, buckets)

  module _ (is_plan : IsPlan plan) (s : State) (q word : ℕ) (pends : Pends s q word) where
    pub who_pends : is_pending word ≡ true →
        (s.pending q ≡ true) × (word ≡ announcing (s.posted q) (s.home q)) × (s.home q < buckets_of plan.settings)
    who_pends is = go pends
      where
        go : Pends s q word → (s.pending q ≡ true) × (word ≡ announcing (s.posted q) (s.home q))
            × (s.home q < buckets_of plan.settings)
        go (inl z) = absurd (true≢false (sym is ∙ ap is_pending z.1 ∙ rest_pends_not (s.posted q)))
        go (inr z) = z

    pub pends_word : s.pending q ≡ true → (is_pending word ≡ true) × (number_in word ≡ s.posted q)
        × (class_in word ≡ s.home q)
    pends_word is = go pends
      where
        go : Pends s q word → (is_pending word ≡ true) × (number_in word ≡ s.posted q) × (class_in word ≡ s.home q)
        go (inl z) = absurd (true≢false (sym is ∙ z.0))
        go (inr z) =
            let small = small20 is_plan (s.home q) z.2 in (
              ap is_pending z.1 ∙ announcing_pends (s.posted q) (s.home q) small,
              ap number_in z.1 ∙ number_of (s.posted q) (s.home q) small,
              ap class_in z.1 ∙ class_of (s.posted q) (s.home q) small,
            )

    pub pends_at : (posted b : ℕ) → b < buckets_of plan.settings → word ≡ announcing posted b →
        (s.pending q ≡ true) × (s.home q ≡ b)
    pends_at posted b small e =
        let few = small20 is_plan b small in
        let z = who_pends (ap is_pending e ∙ announcing_pends posted b few) in
        (z.0, sym (pends_word z.0).2 ∙ ap class_in e ∙ class_of posted b few)

    pub rests_at : (posted : ℕ) → word ≡ at_rest posted → s.pending q ≡ false
    rests_at posted e = go pends
      where
        go : Pends s q word → s.pending q ≡ false
        go (inl z) = z.0
        go (inr z) = absurd (true≢false (sym (pends_word z.0).0 ∙ ap is_pending e ∙ rest_pends_not posted))

  -- ---- the states that a try goes through

  -- but for the tries of this seat they are alike
  pub record Same (s z : State) (p : ℕ) : Type 0 where
    pub generation : z.generation ≡ s.generation
    pub entry : z.entry ≡ s.entry
    pub posted : z.posted ≡ s.posted
    pub pending : z.pending ≡ s.pending
    pub home : z.home ≡ s.home
    pub since : z.since ≡ s.since
    pub done : z.done ≡ s.done
    pub tries : (q : ℕ) → q ≢ p → z.tries q ≡ s.tries q

  pub same_self : (s : State) (p : ℕ) → Same s s p
  same_self s p = record {
    generation = refl;
    entry = refl;
    posted = refl;
    pending = refl;
    home = refl;
    since = refl;
    done = refl;
    tries = λ q n. refl;
  }

  pub same_tried : (s z : State) (p : ℕ) (t : A.Try) → Same s z p →
      Same s (A.tried plan.settings.seats (last_generation plan) z p t) p
  same_tried s z p t e = record {
    generation = e.generation;
    entry = e.entry;
    posted = e.posted;
    pending = e.pending;
    home = e.home;
    since = e.since;
    done = e.done;
    tries = λ q n. put_other z.tries p t q n ∙ e.tries q n;
  }

  -- ---- one try

  module _ (is_plan : IsPlan plan) (x : World) (s : State) (tied : Tied x s) (all : Announces plan x) (p : ℕ)
      (inside : p < plan.settings.seats) (call : Call) where
    abbrev now : SeatNow
    now = seat_in x p

    abbrev b : ℕ
    b = bucket_of_call plan call

    pub small : b < buckets_of plan.settings
    small = bucket_small plan is_plan (key_in call)

    abbrev T : State → Fate → Type 0
    T z f = TryFate x.store.bucket x.store.op z p b f

    -- a state that this fate goes with
    pub record Result (f : Fate) : Type 0 where
      pub z : State
      pub same : Same s z p
      pub holds : Holds plan.settings.seats (last_generation plan) z
      pub here : T z f

    pub stay : (f : Fate) → T s f → Result f
    stay f t = record { z = s; same = same_self s p; holds = tied.holds; here = t }

    pub either : (z : State) (f g : Fate) (c : Bool) → T z f → T z g → T z (cond c f g)
    either z f g true l r = l
    either z f g false l r = r

    pub loses : (z : State) (turn : ℕ) → T z (lost turn)
    loses z turn =
        either z (On S.RaisePending) (cond (turn == ALL_TRIES) (On S.StoreWant) (On (S.LoadWord (turn + 1))))
        (turn == SOLO_TRIES) tt (either z (On S.StoreWant) (On (S.LoadWord (turn + 1))) (turn == ALL_TRIES) tt tt)

    pub ends : (z : State) (announced : Bool) (reply : Option Reply) → (announced ≡ true → WasApplied z p b) →
        T z (ends_with announced reply)
    ends z true None k = tt
    ends z false None k = tt
    ends z true (Some reply) k = k refl
    ends z false (Some reply) k = tt

    module _ (t : Try) (tells : Tells (is_announced t.turn) (x.store.announced p)
        (x.store.op p) now.posted b call) where
      pub own_pends : is_announced t.turn ≡ true → (s.pending p ≡ true) × (s.home p ≡ b)
      own_pends e =
          let said : Tells true (x.store.announced p) (x.store.op p) now.posted b call =
          subst (λ (c : Bool). Tells c (x.store.announced p) (x.store.op p) now.posted b call) e tells in
          pends_at is_plan s p (x.store.announced p) (tied.pends p inside) now.posted b small said.0

      pub own_rests : is_announced t.turn ≡ false → s.pending p ≡ false
      own_rests e =
          let said : Tells false (x.store.announced p) (x.store.op p) now.posted b call =
          subst (λ (c : Bool). Tells c (x.store.announced p) (x.store.op p) now.posted b call) e tells in
          rests_at is_plan s p (x.store.announced p) (tied.pends p inside) now.posted said

      -- what the protocol finds of the own seat
      own_take : (z : State) → Same s z p → (found : List Found) (upto : ℕ) (i : TryIs z p b t found upto) →
          is_announced t.turn ≡ true →
          A.found_of plan.settings.seats (last_generation plan) z b i.seen p ≡ A.Take (z.posted p)
      own_take z same found upto i e =
          let own = own_pends e in
          A.found_cases plan.settings.seats (last_generation plan) z b i.seen p (λ f. f ≡ A.Take (z.posted p))
          (λ a m k. absurd (entry_none p (z.posted p) t.row.entries (i.free e) (sym (i.sees p inside) ∙ k)))
          (λ a m k. refl)
          (λ out. absurd (out (ap (λ (f : ℕ → Bool). f p) same.pending ∙ own.0) (ap (λ (f : ℕ → ℕ). f p) same.home
          ∙ own.1)))

      own_none : (z : State) → Same s z p → (seen : ℕ → ℕ) → is_announced t.turn ≡ false →
          A.found_of plan.settings.seats (last_generation plan) z b seen p ≡ A.NoOp
      own_none z same seen e =
          let rests = ap (λ (f : ℕ → Bool). f p) same.pending ∙ own_rests e in
          A.found_cases plan.settings.seats (last_generation plan) z b seen p (λ f. f ≡ A.NoOp)
          (λ a m k. absurd (true≢false (sym a ∙ rests))) (λ a m k. absurd (true≢false (sym a ∙ rests))) (λ out. refl)

      -- the protocol goes past the next seat
      pub record Past (z : State) (found : List Found) (i : TryIs z p b t found (length found)) : Type 0 where
        pub then : State
        pub same : Same s then p
        pub holds : Holds plan.settings.seats (last_generation plan) then
        pub try : TryIs then p b t found (length found + 1)
        pub at : try.fs (length found) ≡ A.found_of plan.settings.seats (last_generation plan) z b i.seen (length found)
        pub sees : try.seen ≡ i.seen

      pub past : (z : State) → Same s z p → Holds plan.settings.seats (last_generation plan) z →
          (found : List Found) (i : TryIs z p b t found (length found)) →
          Past z found i
      past z same holds found i =
          let k = length found in
          let new = A.found_of plan.settings.seats (last_generation plan) z b i.seen k in
          let g = generation_in plan t.word in
          let fs = put i.fs k new in
          let a = A.At b g (k + 1) i.seen fs in
          record {
            then = A.tried plan.settings.seats (last_generation plan) z p a;
            same = same_tried s z p a same;
            holds = A.look_keeps plan.settings.seats (last_generation plan) z holds p b g k i.seen i.fs i.is;
            try = record {
              seen = i.seen;
              fs = fs;
              is = put_same z.tries p a;
              sees = i.sees;
              match = match_still plan b i.seen i.fs fs 0 found i.match
                  (λ q less. put_other i.fs k new q (λ e. omega (arith, less, e)));
              free = i.free;
              own = λ e less. elim (cases_eq p k) [
                | inl m ↦ ap fs m ∙ put_same i.fs k new
                    ∙ ap (A.found_of plan.settings.seats (last_generation plan) z b i.seen) (sym m)
                    ∙ own_take z same found k i e
                | inr n ↦ put_other i.fs k new p n ∙ i.own e (omega (arith, less, n))
              ];
            };
            at = put_same i.fs k new;
            sees = refl;
          }

      -- it is known what it is for the table
      pub known : (z : State) (found : List Found) (f : Found) (i : TryIs z p b t found (length found + 1)) →
          One plan b i.seen i.fs (length found) f → TryIs z p b t (more found f) (length (more found f))
      known z found f i one =
          let long : length (more found f) ≡ length found + 1 = length-append found (f ∷ []) in
          subst (TryIs z p b t (more found f)) (sym long) (record {
            seen = i.seen;
            fs = i.fs;
            is = i.is;
            sees = i.sees;
            match =
                match_end plan b i.seen i.fs 0 found f i.match (subst (λ j. One plan b i.seen i.fs j f)
                (omega arith) one);
            free = i.free;
            own = i.own;
          })

      pub to_ops : (z : State) (found : List Found) → (x.store.bucket b ≡ t.word → TryIs z p b t found (length found)) →
          T z (ops_or_row plan t found)
      to_ops z found i = go (nat_lt (length found) plan.settings.seats) refl
        where
          go : (c : Bool) → nat_lt (length found) plan.settings.seats ≡ c →
              T z (On (cond c (S.LoadAnnounced t found) (S.StoreRow t found 0)))
          go true e = i
          go false e = (ltb-false (length found) plan.settings.seats e, i)

      -- the own op
      own_one : (z : State) (same : Same s z p) (found : List Found) (i : TryIs z p b t found (length found))
          (w : Past z found i) → length found ≡ p →
          One plan b w.try.seen w.try.fs (length found) (own_op now.posted t.turn call)
      own_one z same found i w k = one (is_announced t.turn) refl
        where
          one : (c : Bool) → is_announced t.turn ≡ c → One plan b w.try.seen w.try.fs (length found)
              (cond c (S.Takes (record { number = now.posted; call = call })) (S.Makes call))
          one true is = (
            w.at ∙ ap (A.found_of plan.settings.seats (last_generation plan) z b i.seen) k
                ∙ own_take z same found (length found) i is
                ∙ ap A.Take (ap (λ (f : ℕ → ℕ). f p) same.posted ∙ tied.posted p inside),
            refl,
          )
          one false is = (
            w.at ∙ ap (A.found_of plan.settings.seats (last_generation plan) z b i.seen) k ∙ own_none z same i.seen is,
            refl,
          )

      -- the own op where its turn is, and the next seat or the new row
      pub onward : (z : State) → Same s z p → Holds plan.settings.seats (last_generation plan) z →
          (found : List Found) →
          (x.store.bucket b ≡ t.word → TryIs z p b t found (length found)) →
          Result (found_so_far plan p now call t found)
      onward z same holds found i = elim (cases_eq (x.store.bucket b) t.word) [
        | inr n ↦ record {
          z = z;
          same = same;
          holds = holds;
          here = to_ops z (with_own p now call t.turn found) (λ e. absurd (n e));
        }
        | inl e ↦ go e (length found == p) refl
      ]
        where
          own : Found
          own = own_op now.posted t.turn call

          go : x.store.bucket b ≡ t.word → (c : Bool) → (length found == p) ≡ c →
              Result (ops_or_row plan t (cond c (more found own) found))
          go e false other = record { z = z; same = same; holds = holds; here = to_ops z found i }
          go e true turn =
              let k : length found ≡ p = eqb-true (length found) p turn in
              let w = past z same holds found (i e) in
              record {
                z = w.then;
                same = w.same;
                holds = w.holds;
                here = to_ops w.then (more found own)
                    (λ _. known w.then found own w.try (own_one z same found (i e) w k));
              }

      -- all seats are gone through at once
      pub record Through (found : List Found) : Type 0 where
        pub then : State
        pub same : Same s then p
        pub holds : Holds plan.settings.seats (last_generation plan) then
        pub try : TryIs then p b t found (length found)

      module _ (only : (q : ℕ) → q < plan.settings.seats → q ≢ p → s.pending q ≡ false) where
        abbrev own_found : Found
        own_found = own_op now.posted t.turn call

        none_one : (z : State) (same : Same s z p) (found : List Found) (i : TryIs z p b t found (length found))
            (w : Past z found i) → length found < plan.settings.seats → length found ≢ p →
            One plan b w.try.seen w.try.fs (length found) S.NoOp
        none_one z same found i w less n =
            let k = length found in
            let rests : z.pending k ≡ false = ap (λ (f : ℕ → Bool). f k) same.pending ∙ only k less n in
            w.at ∙ A.found_cases plan.settings.seats (last_generation plan) z b i.seen k (λ f. f ≡ A.NoOp)
            (λ a m e. absurd (true≢false (sym a ∙ rests))) (λ a m e. absurd (true≢false (sym a ∙ rests))) (λ out. refl)

        pub through : (many : ℕ) (found : List Found) → many + length found ≤ plan.settings.seats → Through found →
            Through (found_alone p own_found many found)
        through zero found few done = done
        through (suc many) found few done =
            let w = past done.then done.same done.holds found done.try in
            let f = next_alone p own_found found in
            let long = length-append found (f ∷ []) in
            through many (more found f) (omega (arith, few, long)) (record {
              then = w.then;
              same = w.same;
              holds = w.holds;
              try = known w.then found f w.try (go w (length found == p) refl);
            })
          where
            go : (w : Past done.then found done.try) → (c : Bool) → (length found == p) ≡ c →
                One plan b w.try.seen w.try.fs (length found) (cond c own_found S.NoOp)
            go w true e = own_one done.then done.same found done.try w (eqb-true (length found) p e)
            go w false e =
                none_one done.then done.same found done.try w (omega (arith, few)) (eqb-false (length found) p e)
