-- Announced ops: a seat announces an op; whoever tries at its bucket loads the bucket's generation, then what each seat
-- announces, and exchanges. In every run, however many try at once: an op is applied once at most; as long as it is
-- announced, the row in use has its entry exactly where it was applied; and it was applied once the bucket was
-- exchanged twice since it was announced. Entries of other ops may be dropped. Where a bucket has its last generation
-- nobody tries any more, and an op of it that was not applied may be given up.
use Rattle.std.proofs.Common.{◌≡◌, ◌≢◌, ℕ, ◌+◌, ◌<◌, ◌≤◌, Bool, true, false, cond, inl, inr, refl, sym, ap, ◌∙◌, subst, arith, true≢false}
use Rattle.std.specs.Prelude.{◌==◌, ◌&&◌}
use Rattle.std.proofs.lemmas.Bool.{cases_eq, cases_lt, eqb-true, eqb-false}
use Rattle.word_rows.specs.Memory.{put}
use Rattle.word_rows.proofs.MemoryLemmas.{put_same, put_other}
use Rattle.exchange_laws.proofs.Places.{either_put}

-- what a try has found of a seat: no op of this bucket; one whose entry the row has; one that it has not, by its number
pub data Found : Type 0 where
  NoOp : Found
  Keep : Found
  Take : (number : ℕ) → Found

-- a try: its bucket, the generation that it loaded, how many seats it has gone through, the entries of the row, and
-- what was found
pub data Try : Type 0 where
  NoTry : Try
  At : (bucket generation upto : ℕ) (seen : ℕ → ℕ) (found : ℕ → Found) → Try

-- an entry of a seat is the number of its op and one, 0 for none
pub record State : Type 0 where
  pub generation : ℕ → ℕ
  pub entry : ℕ → ℕ → ℕ
  -- how many ops of a seat are over; whether one is announced, and for which bucket
  pub posted : ℕ → ℕ
  pub pending : ℕ → Bool
  pub home : ℕ → ℕ
  pub tries : ℕ → Try
  -- for the statement: the generation of its bucket when it was announced; and how many of a seat's ops were applied
  pub since : ℕ → ℕ
  pub done : ℕ → ℕ

abbrev pub found_kind : Found → ℕ
found_kind NoOp = 0
found_kind Keep = 1
found_kind (Take t) = 2

abbrev pub number_of : Found → ℕ
number_of NoOp = 0
number_of Keep = 0
number_of (Take t) = t

-- the entry that comes of what was found
abbrev pub next_entry : Found → (seen : ℕ) → ℕ
next_entry NoOp seen = 0
next_entry Keep seen = seen
next_entry (Take t) seen = t + 1

abbrev pub next_done : Found → ℕ → ℕ
next_done NoOp done = done
next_done Keep done = done
next_done (Take t) done = done + 1

module _ (seats last : ℕ) where
  -- what is true as long as the bucket has the generation that was loaded
  pub record Sound (s : State) (b g upto : ℕ) (seen : ℕ → ℕ) (found : ℕ → Found) : Type 0 where
    pub alike : (q : ℕ) → seen q ≡ s.entry b q
    pub nothing : (q : ℕ) → q < upto → found q ≡ NoOp → s.pending q ≡ true → s.home q ≡ b → s.entry b q ≢ s.posted q + 1
    pub takes : (q t : ℕ) → q < upto → found q ≡ Take t →
        (s.pending q ≡ true) × (s.home q ≡ b) × (t ≡ s.posted q) × (s.entry b q ≢ s.posted q + 1)
    -- an op that was announced before that generation is found
    pub covers : (q : ℕ) → q < upto → s.pending q ≡ true → s.home q ≡ b → s.since q < g →
        (found q ≢ NoOp) × (found q ≡ Keep → s.entry b q ≡ s.posted q + 1)

  -- nobody tries where the last generation stands: that bucket is spent
  abbrev pub Tries : State → Try → Type 0
  Tries s NoTry = Unit {0}
  Tries s (At b g upto seen found) =
      (g ≤ s.generation b) × ((q : ℕ) → upto ≤ q → found q ≡ NoOp)
      × (s.generation b ≡ g → Sound s b g upto seen found) × (g ≢ last)

  pub record Holds (s : State) : Type 0 where
    pub within : (b q : ℕ) → s.entry b q ≤ s.posted q + 1
    pub resting : (b q : ℕ) → s.pending q ≡ false → s.entry b q ≤ s.posted q
    pub few : (q : ℕ) → s.pending q ≡ true → q < seats
    -- an op is applied once at most, and while it is announced the row in use tells whether it was
    pub over : (q : ℕ) → s.pending q ≡ false → s.done q ≡ s.posted q
    pub applied : (q : ℕ) → s.pending q ≡ true → s.entry (s.home q) q ≡ s.posted q + 1 → s.done q ≡ s.posted q + 1
    pub waiting : (q : ℕ) → s.pending q ≡ true → s.entry (s.home q) q ≢ s.posted q + 1 → s.done q ≡ s.posted q
    pub early : (q : ℕ) → s.pending q ≡ true → s.since q ≤ s.generation (s.home q)
    pub covered : (q : ℕ) → s.pending q ≡ true → s.since q + 2 ≤ s.generation (s.home q) →
        s.entry (s.home q) q ≡ s.posted q + 1
    pub tries : (p : ℕ) → Tries s (s.tries p)

  -- THE RESULT: who has lost a try that began after it announced, and then another one, finds its entry
  pub twice_lost : (s : State) → Holds s → (q first second : ℕ) → s.pending q ≡ true → s.since q ≤ first →
      first < second → second < s.generation (s.home q) → s.entry (s.home q) q ≡ s.posted q + 1
  twice_lost s h q first second is a b c = h.covered q is (omega (arith, a, b, c))

  -- ---- a try begins, or is given up

  abbrev pub tried : State → (p : ℕ) → Try → State
  tried s p now = record s { tries = put s.tries p now }

  pub tried_keeps : (s : State) → Holds s → (p : ℕ) (now : Try) → Tries s now → Holds (tried s p now)
  tried_keeps s h p now here = record {
    within = h.within;
    resting = h.resting;
    few = h.few;
    over = h.over;
    applied = h.applied;
    waiting = h.waiting;
    early = h.early;
    covered = h.covered;
    tries = λ k. elim (either_put s.tries p now k) [
      | inl e ↦ subst (Tries (tried s p now)) (sym e.1) (same now here)
      | inr e ↦ subst (Tries (tried s p now)) (sym e.1) (same (s.tries k) (h.tries k))
    ];
  }
    where
      same : (t : Try) → Tries s t → Tries (tried s p now) t
      same NoTry t = tt
      same (At b g upto seen found) t = (
        t.0,
        t.1,
        λ e. (let z = t.2 e in record {
          alike = z.alike;
          nothing = z.nothing;
          takes = z.takes;
          covers = z.covers;
        }),
        t.3,
      )

  -- the word is loaded, and the row: what was loaded of it is true as long as the word is the same
  pub load_keeps : (s : State) → Holds s → (p b : ℕ) → s.generation b ≢ last →
      Holds (tried s p (At b (s.generation b) 0 (s.entry b) (λ _. NoOp)))
  load_keeps s h p b some = tried_keeps s h p (At b (s.generation b) 0 (s.entry b) (λ _. NoOp)) (
    omega arith,
    λ q late. refl,
    λ e. record {
      alike = λ q. refl;
      nothing = λ q less. absurd (omega (arith, less));
      takes = λ q t less. absurd (omega (arith, less));
      covers = λ q less. absurd (omega (arith, less));
    },
    some,
  )

  pub give_up_keeps : (s : State) → Holds s → (p : ℕ) → Holds (tried s p NoTry)
  give_up_keeps s h p = tried_keeps s h p NoTry tt

  -- ---- it loads what the next seat announces

  abbrev pub found_of : State → (b : ℕ) (seen : ℕ → ℕ) (q : ℕ) → Found
  found_of s b seen q =
      cond (s.pending q && (s.home q == b)) (cond (seen q == s.posted q + 1) Keep (Take (s.posted q))) NoOp

  -- what it may be
  pub found_cases : (s : State) (b : ℕ) (seen : ℕ → ℕ) (q : ℕ) (P : Found → Type 0) →
      ((s.pending q ≡ true) → (s.home q ≡ b) → (seen q ≡ s.posted q + 1) → P Keep) →
      ((s.pending q ≡ true) → (s.home q ≡ b) → (seen q ≢ s.posted q + 1) → P (Take (s.posted q))) →
      (((s.pending q ≡ true) → (s.home q ≡ b) → ⊥) → P NoOp) → P (found_of s b seen q)
  found_cases s b seen q P keep take none = by_pending (s.pending q) refl
    where
      by_seen : s.pending q ≡ true → s.home q ≡ b → (c : Bool) → (seen q == s.posted q + 1) ≡ c →
          P (cond c Keep (Take (s.posted q)))
      by_seen a e true i = keep a e (eqb-true (seen q) (s.posted q + 1) i)
      by_seen a e false i = take a e (eqb-false (seen q) (s.posted q + 1) i)

      by_home : s.pending q ≡ true → (c : Bool) → (s.home q == b) ≡ c →
          P (cond c (cond (seen q == s.posted q + 1) Keep (Take (s.posted q))) NoOp)
      by_home a true i = by_seen a (eqb-true (s.home q) b i) (seen q == s.posted q + 1) refl
      by_home a false i = none (λ _ e. eqb-false (s.home q) b i e)

      by_pending : (c : Bool) → s.pending q ≡ c →
          P (cond (c && (s.home q == b)) (cond (seen q == s.posted q + 1) Keep (Take (s.posted q))) NoOp)
      by_pending true a = by_home a (s.home q == b) refl
      by_pending false a = none (λ t _. true≢false (sym t ∙ a))

  pub look_keeps : (s : State) → Holds s → (p b g upto : ℕ) (seen : ℕ → ℕ) (found : ℕ → Found) →
      s.tries p ≡ At b g upto seen found →
      Holds (tried s p (At b g (upto + 1) seen (put found upto (found_of s b seen upto))))
  look_keeps s h p b g upto seen found is =
      tried_keeps s h p (At b g (upto + 1) seen (put found upto (found_of s b seen upto))) (
        was.0,
        λ q late. put_other found upto (found_of s b seen upto) q (λ e. omega (arith, late, e))
            ∙ was.1 q (omega (arith, late)),
        λ e. sound (was.2 e),
        was.3,
      )
    where
      was : Tries s (At b g upto seen found)
      was = subst (Tries s) is (h.tries p)

      new : Found
      new = found_of s b seen upto

      sound : Sound s b g upto seen found → Sound s b g (upto + 1) seen (put found upto new)
      sound z = record {
        alike = z.alike;
        nothing = λ q less e a i. elim (either_put found upto new q) [
          | inl k ↦ absurd (let one = sym k.1 ∙ e in
              found_cases s b seen upto (λ f. f ≡ NoOp → ⊥) (λ _ _ _ f. omega (arith, ap found_kind f))
              (λ _ _ _ f. omega (arith, ap found_kind f))
              (λ out _. out (ap s.pending (sym k.0) ∙ a) (ap s.home (sym k.0) ∙ i)) one)
          | inr k ↦ z.nothing q (omega (arith, less, k.0)) (sym k.1 ∙ e) a i
        ];
        takes = λ q t less e. elim (either_put found upto new q) [
          | inl k ↦
              let one = sym k.1 ∙ e in
              subst (λ j. (s.pending j ≡ true) × (s.home j ≡ b) × (t ≡ s.posted j) × (s.entry b j ≢ s.posted j + 1))
              (sym k.0)
              (found_cases s b seen upto (λ f. f ≡ Take t → (s.pending upto ≡ true) × (s.home upto ≡ b)
              × (t ≡ s.posted upto) × (s.entry b upto ≢ s.posted upto + 1))
              (λ _ _ _ f. absurd (omega (arith, ap found_kind f)))
              (λ a i m f. (a, i, sym (ap number_of f), λ same. m (z.alike upto ∙ same)))
              (λ _ f. absurd (omega (arith, ap found_kind f))) one)
          | inr k ↦ z.takes q t (omega (arith, less, k.0)) (sym k.1 ∙ e)
        ];
        covers = λ q less a i early. elim (either_put found upto new q) [
          | inl k ↦ (
            λ e. found_cases s b seen upto (λ f. f ≡ NoOp → ⊥) (λ _ _ _ f. omega (arith, ap found_kind f))
                (λ _ _ _ f. omega (arith, ap found_kind f))
                (λ out _. out (ap s.pending (sym k.0) ∙ a) (ap s.home (sym k.0) ∙ i)) (sym k.1 ∙ e),
            λ e. subst (λ j. s.entry b j ≡ s.posted j + 1) (sym k.0)
                (found_cases s b seen upto (λ f. f ≡ Keep → s.entry b upto ≡ s.posted upto + 1)
                (λ _ _ m _. sym (z.alike upto) ∙ m) (λ _ _ _ f. absurd (omega (arith, ap found_kind f)))
                (λ _ f. absurd (omega (arith, ap found_kind f))) (sym k.1 ∙ e)),
          )
          | inr k ↦
              let old = z.covers q (omega (arith, less, k.0)) a i early in
              (λ e. old.0 (sym k.1 ∙ e), λ e. old.1 (sym k.1 ∙ e))
        ];
      }

  -- ---- an op is announced

  abbrev pub announced : State → (q b : ℕ) → State
  announced s q b = record s {
    pending = put s.pending q true;
    home = put s.home q b;
    since = put s.since q (s.generation b);
  }

  pub announced_keeps : (s : State) → Holds s → (q b : ℕ) → q < seats → s.pending q ≡ false → Holds (announced s q b)
  announced_keeps s h q b seat rests = record {
    within = h.within;
    resting = λ c k e. elim (either_put s.pending q true k) [
      | inl z ↦ absurd (true≢false (sym z.1 ∙ e))
      | inr z ↦ h.resting c k (sym z.1 ∙ e)
    ];
    few = λ k e. elim (either_put s.pending q true k) [
      | inl z ↦ subst (λ j. j < seats) (sym z.0) seat
      | inr z ↦ h.few k (sym z.1 ∙ e)
    ];
    over = λ k e. elim (either_put s.pending q true k) [
      | inl z ↦ absurd (true≢false (sym z.1 ∙ e))
      | inr z ↦ h.over k (sym z.1 ∙ e)
    ];
    applied = λ k e i. elim (either_put s.pending q true k) [
      | inl z ↦ absurd (let low = low_entry (put s.home q b k) k z.0 in omega (arith, low, i))
      | inr z ↦ h.applied k (sym z.1 ∙ e) (sym (ap (λ c. s.entry c k) (put_other s.home q b k z.0)) ∙ i)
    ];
    waiting = λ k e i. elim (either_put s.pending q true k) [
      | inl z ↦ h.over k (ap s.pending z.0 ∙ rests)
      | inr z ↦ h.waiting k (sym z.1 ∙ e) (λ m. i (ap (λ c. s.entry c k) (put_other s.home q b k z.0) ∙ m))
    ];
    early = λ k e. elim (cases_eq k q) [
      | inl z ↦
          let since_is = ap (put s.since q (s.generation b)) z ∙ put_same s.since q (s.generation b) in
          let home_is = ap s.generation (ap (put s.home q b) z ∙ put_same s.home q b) in
          omega (arith, since_is, home_is)
      | inr z ↦
          let old = h.early k (sym (put_other s.pending q true k z) ∙ e) in
          let since_is = put_other s.since q (s.generation b) k z in
          let home_is = ap s.generation (put_other s.home q b k z) in
          omega (arith, old, since_is, home_is)
    ];
    covered = λ k e late. elim (cases_eq k q) [
      | inl z ↦
          let since_is = ap (put s.since q (s.generation b)) z ∙ put_same s.since q (s.generation b) in
          let home_is = ap s.generation (ap (put s.home q b) z ∙ put_same s.home q b) in
          absurd (omega (arith, late, since_is, home_is))
      | inr z ↦
          let since_is = put_other s.since q (s.generation b) k z in
          let home_is = ap s.generation (put_other s.home q b k z) in
          ap (λ c. s.entry c k) (put_other s.home q b k z)
          ∙ h.covered k (sym (put_other s.pending q true k z) ∙ e) (omega (arith, late, since_is, home_is))
    ];
    tries = λ p. go (s.tries p) (h.tries p);
  }
    where
      low_entry : (c k : ℕ) → k ≡ q → s.entry c k ≤ s.posted k
      low_entry c k e = h.resting c k (ap s.pending e ∙ rests)

      go : (t : Try) → Tries s t → Tries (announced s q b) t
      go NoTry t = tt
      go (At c g upto seen found) t = (t.0, t.1, λ e. sound e (t.2 e), t.3)
        where
          sound : s.generation c ≡ g → Sound s c g upto seen found → Sound (announced s q b) c g upto seen found
          sound e z = record {
            alike = z.alike;
            nothing = λ k less f a i. elim (cases_eq k q) [
              | inl m ↦ λ same. (let low = low_entry c k m in omega (arith, low, same))
              | inr m ↦ z.nothing k less f (sym (put_other s.pending q true k m) ∙ a)
                  (sym (put_other s.home q b k m) ∙ i)
            ];
            takes = λ k t less f. (let old = z.takes k t less f in elim (cases_eq k q) [
              | inl m ↦ absurd (true≢false (sym old.0 ∙ ap s.pending m ∙ rests))
              | inr m ↦ (put_other s.pending q true k m ∙ old.0, put_other s.home q b k m ∙ old.1, old.2, old.3)
            ]);
            covers = λ k less a i early. elim (cases_eq k q) [
              | inl m ↦
                  let since_is = ap (put s.since q (s.generation b)) m ∙ put_same s.since q (s.generation b) in
                  let home_is : b ≡ c = sym (ap (put s.home q b) m ∙ put_same s.home q b) ∙ i in
                  let is : s.generation b ≡ s.generation c = ap s.generation home_is in
                  absurd (omega (arith, early, since_is, is, e))
              | inr m ↦
                  let since_is = put_other s.since q (s.generation b) k m in
                  z.covers k less (sym (put_other s.pending q true k m) ∙ a) (sym (put_other s.home q b k m) ∙ i)
                  (omega (arith, early, since_is))
            ];
          }

  -- ---- an announcement is over: its op was applied, or its bucket is spent and it never will be

  abbrev pub ended : State → (q : ℕ) → State
  ended s q = record s { pending = put s.pending q false; posted = put s.posted q (s.posted q + 1) }

  pub ended_keeps : (s : State) → Holds s → (q : ℕ) → s.pending q ≡ true → s.entry (s.home q) q ≡ s.posted q + 1 →
      Holds (ended s q)
  ended_keeps s h q is there = record {
    within = λ c k. elim (either_put s.posted q (s.posted q + 1) k) [
      | inl z ↦ (let old = h.within c k in let e = z.1 in let same = ap s.posted z.0 in omega (arith, old, e, same))
      | inr z ↦ (let old = h.within c k in let e = z.1 in omega (arith, old, e))
    ];
    resting = λ c k e. elim (either_put s.posted q (s.posted q + 1) k) [
      | inl z ↦ (let old = h.within c k in let i = z.1 in let same = ap s.posted z.0 in omega (arith, old, i, same))
      | inr z ↦
          let old = h.resting c k (sym (put_other s.pending q false k z.0) ∙ e) in
          let i = z.1 in omega (arith, old, i)
    ];
    few = λ k e. h.few k (before k e).1;
    over = λ k e. elim (cases_eq k q) [
      | inl z ↦
          let now = ap (put s.posted q (s.posted q + 1)) z ∙ put_same s.posted q (s.posted q + 1) in
          ap s.done z ∙ h.applied q is there ∙ sym now
      | inr z ↦ h.over k (sym (put_other s.pending q false k z) ∙ e) ∙ sym (put_other s.posted q (s.posted q + 1) k z)
    ];
    applied = λ k e i.
        let z = before k e in
        let now = put_other s.posted q (s.posted q + 1) k z.0 in
        h.applied k z.1 (omega (arith, i, now)) ∙ ap (λ n. n + 1) (sym now);
    waiting = λ k e i.
        let z = before k e in
        let now = put_other s.posted q (s.posted q + 1) k z.0 in
        h.waiting k z.1 (λ m. i (omega (arith, m, now))) ∙ sym now;
    early = λ k e. h.early k (before k e).1;
    covered = λ k e late.
        let z = before k e in
        h.covered k z.1 late ∙ ap (λ n. n + 1) (sym (put_other s.posted q (s.posted q + 1) k z.0));
    tries = λ p. go (s.tries p) (h.tries p);
  }
    where
      -- whoever has an op announced now is another one, and had it before
      before : (k : ℕ) → put s.pending q false k ≡ true → (k ≢ q) × (s.pending k ≡ true)
      before k e = elim (either_put s.pending q false k) [
        | inl z ↦ absurd (true≢false (sym e ∙ z.1))
        | inr z ↦ (z.0, sym z.1 ∙ e)
      ]

      go : (t : Try) → Tries s t → Tries (ended s q) t
      go NoTry t = tt
      go (At c g upto seen found) t = (t.0, t.1, λ e. sound (t.2 e), t.3)
        where
          sound : Sound s c g upto seen found → Sound (ended s q) c g upto seen found
          sound z = record {
            alike = z.alike;
            nothing = λ k less f a i.
                let old = before k a in
                let now = put_other s.posted q (s.posted q + 1) k old.0 in
                λ same. z.nothing k less f old.1 i (omega (arith, same, now));
            takes = λ k t less f. (let old = z.takes k t less f in elim (cases_eq k q) [
              | inl m ↦ absurd (old.3 (
                  ap (s.entry c) m ∙ ap (λ j. s.entry j q) (sym old.1 ∙ ap s.home m) ∙ there
                  ∙ ap (λ j. s.posted j + 1) (sym m)))
              | inr m ↦
                  let now = put_other s.posted q (s.posted q + 1) k m in (
                    put_other s.pending q false k m ∙ old.0,
                    old.1,
                    old.2 ∙ sym now,
                    λ same. old.3 (omega (arith, same, now)),
                  )
            ]);
            covers = λ k less a i early.
                let m = before k a in
                let old = z.covers k less m.1 i early in
                (old.0, λ f. old.1 f ∙ ap (λ n. n + 1) (sym (put_other s.posted q (s.posted q + 1) k m.0)));
          }

  -- it is given up
  abbrev pub given_up : State → (q : ℕ) → State
  given_up s q = record s {
    pending = put s.pending q false;
    posted = put s.posted q (s.posted q + 1);
    done = put s.done q (s.done q + 1);
  }

  pub given_up_keeps : (s : State) → Holds s → (q : ℕ) → s.pending q ≡ true → s.entry (s.home q) q ≢ s.posted q + 1 →
      s.generation (s.home q) ≡ last → Holds (given_up s q)
  given_up_keeps s h q is none spent = record {
    within = λ c k. elim (either_put s.posted q (s.posted q + 1) k) [
      | inl z ↦ (let old = h.within c k in let e = z.1 in let same = ap s.posted z.0 in omega (arith, old, e, same))
      | inr z ↦ (let old = h.within c k in let e = z.1 in omega (arith, old, e))
    ];
    resting = λ c k e. elim (either_put s.posted q (s.posted q + 1) k) [
      | inl z ↦ (let old = h.within c k in let i = z.1 in let same = ap s.posted z.0 in omega (arith, old, i, same))
      | inr z ↦
          let old = h.resting c k (sym (put_other s.pending q false k z.0) ∙ e) in
          let i = z.1 in omega (arith, old, i)
    ];
    few = λ k e. h.few k (before k e).1;
    over = λ k e. elim (cases_eq k q) [
      | inl z ↦
          let now = ap (put s.posted q (s.posted q + 1)) z ∙ put_same s.posted q (s.posted q + 1) in
          let done_now = ap (put s.done q (s.done q + 1)) z ∙ put_same s.done q (s.done q + 1) in
          let waits = h.waiting q is none in
          omega (arith, now, done_now, waits)
      | inr z ↦
          put_other s.done q (s.done q + 1) k z ∙ h.over k (sym (put_other s.pending q false k z) ∙ e)
          ∙ sym (put_other s.posted q (s.posted q + 1) k z)
    ];
    applied = λ k e i.
        let z = before k e in
        let now = put_other s.posted q (s.posted q + 1) k z.0 in
        put_other s.done q (s.done q + 1) k z.0 ∙ h.applied k z.1 (omega (arith, i, now)) ∙ ap (λ n. n + 1) (sym now);
    waiting = λ k e i.
        let z = before k e in
        let now = put_other s.posted q (s.posted q + 1) k z.0 in
        put_other s.done q (s.done q + 1) k z.0 ∙ h.waiting k z.1 (λ m. i (omega (arith, m, now))) ∙ sym now;
    early = λ k e. h.early k (before k e).1;
    covered = λ k e late.
        let z = before k e in
        h.covered k z.1 late ∙ ap (λ n. n + 1) (sym (put_other s.posted q (s.posted q + 1) k z.0));
    tries = λ p. go (s.tries p) (h.tries p);
  }
    where
      -- whoever has an op announced now is another one, and had it before
      before : (k : ℕ) → put s.pending q false k ≡ true → (k ≢ q) × (s.pending k ≡ true)
      before k e = elim (either_put s.pending q false k) [
        | inl z ↦ absurd (true≢false (sym e ∙ z.1))
        | inr z ↦ (z.0, sym z.1 ∙ e)
      ]

      go : (t : Try) → Tries s t → Tries (given_up s q) t
      go NoTry t = tt
      go (At c g upto seen found) t = (t.0, t.1, λ e. sound e (t.2 e), t.3)
        where
          sound : s.generation c ≡ g → Sound s c g upto seen found → Sound (given_up s q) c g upto seen found
          sound e z = record {
            alike = z.alike;
            nothing = λ k less f a i.
                let old = before k a in
                let now = put_other s.posted q (s.posted q + 1) k old.0 in
                λ same. z.nothing k less f old.1 i (omega (arith, same, now));
            takes = λ k n less f. (let old = z.takes k n less f in elim (cases_eq k q) [
              | inl m ↦ absurd (t.3 (sym e ∙ ap s.generation (sym old.1 ∙ ap s.home m) ∙ spent))
              | inr m ↦
                  let now = put_other s.posted q (s.posted q + 1) k m in (
                    put_other s.pending q false k m ∙ old.0,
                    old.1,
                    old.2 ∙ sym now,
                    λ same. old.3 (omega (arith, same, now)),
                  )
            ]);
            covers = λ k less a i early.
                let m = before k a in
                let old = z.covers k less m.1 i early in
                (old.0, λ f. old.1 f ∙ ap (λ n. n + 1) (sym (put_other s.posted q (s.posted q + 1) k m.0)));
          }

  -- ---- an exchange

  abbrev pub exchanged : State → (p b g : ℕ) (seen : ℕ → ℕ) (found : ℕ → Found) → State
  exchanged s p b g seen found = record s {
    generation = put s.generation b (g + 1);
    entry = put s.entry b (λ q. next_entry (found q) (seen q));
    done = λ q. next_done (found q) (s.done q);
    tries = put s.tries p NoTry;
  }

  pub exchanged_keeps : (s : State) → Holds s → (p b g upto : ℕ) (seen : ℕ → ℕ) (found : ℕ → Found) →
      s.tries p ≡ At b g upto seen found → seats ≤ upto → s.generation b ≡ g → Holds (exchanged s p b g seen found)
  exchanged_keeps s h p b g upto seen found is all same = record {
    within = λ c k. elim (cases_eq c b) [
      | inl e ↦ subst (λ i. entry_then i k ≤ s.posted k + 1) (sym e) (subst (λ (f : ℕ → ℕ). f k ≤ s.posted k + 1)
          (sym (put_same s.entry b new)) (low k (found k) refl))
      | inr n ↦ subst (λ (f : ℕ → ℕ). f k ≤ s.posted k + 1) (sym (put_other s.entry b new c n)) (h.within c k)
    ];
    resting = λ c k e. elim (cases_eq c b) [
      | inl i ↦ subst (λ j. entry_then j k ≤ s.posted k) (sym i) (subst (λ (f : ℕ → ℕ). f k ≤ s.posted k)
          (sym (put_same s.entry b new)) (rest k e (found k) refl))
      | inr n ↦ subst (λ (f : ℕ → ℕ). f k ≤ s.posted k) (sym (put_other s.entry b new c n)) (h.resting c k e)
    ];
    few = h.few;
    over = λ k e. idle k e (found k) refl;
    applied = λ k e i. by_home k e i;
    waiting = λ k e i. wait_home k e i;
    early = λ k e. elim (either_put s.generation b (g + 1) (s.home k)) [
      | inl z ↦ (let old = h.early k e in let was = ap s.generation z.0 in let now = z.1 in
          omega (arith, old, was, now, same))
      | inr z ↦ (let old = h.early k e in let now = z.1 in omega (arith, old, now))
    ];
    covered = λ k e late. elim (either_put s.generation b (g + 1) (s.home k)) [
      | inl z ↦
          let now = z.1 in
          let before : s.since k < g = omega (arith, late, now) in
          let cover = z_sound.covers k (omega (arith, h.few k e, all)) e z.0 before in
          ap (λ c. entry_then c k) z.0 ∙ ap (λ (f : ℕ → ℕ). f k) (put_same s.entry b new)
          ∙ covered_by k e z.0 cover (found k) refl
      | inr z ↦
          let now = z.1 in
          ap (λ (f : ℕ → ℕ). f k) (put_other s.entry b new (s.home k) z.0) ∙ h.covered k e (omega (arith, late, now))
    ];
    tries = λ k. elim (either_put s.tries p NoTry k) [
      | inl e ↦ subst (Tries (exchanged s p b g seen found)) (sym e.1) tt
      | inr e ↦ subst (Tries (exchanged s p b g seen found)) (sym e.1) (go (s.tries k) (h.tries k))
    ];
  }
    where
      was : Tries s (At b g upto seen found)
      was = subst (Tries s) is (h.tries p)

      z_sound : Sound s b g upto seen found
      z_sound = was.2 same

      new : ℕ → ℕ
      new q = next_entry (found q) (seen q)

      entry_then : ℕ → ℕ → ℕ
      entry_then = put s.entry b new

      -- a seat that was gone through: only such can have been found
      gone : (k : ℕ) → found k ≢ NoOp → k < upto
      gone k n = elim (cases_lt k upto) [ inl l ↦ l | inr late ↦ absurd (n (was.1 k late)) ]

      took : (k t : ℕ) → found k ≡ Take t →
          (s.pending k ≡ true) × (s.home k ≡ b) × (t ≡ s.posted k) × (s.entry b k ≢ s.posted k + 1)
      took k t e = z_sound.takes k t (gone k (λ n. omega (arith, ap found_kind (sym e ∙ n)))) e

      low : (k : ℕ) (f : Found) → found k ≡ f → next_entry f (seen k) ≤ s.posted k + 1
      low k NoOp e = omega arith
      low k Keep e = (let old = h.within b k in let a = z_sound.alike k in omega (arith, old, a))
      low k (Take t) e = (let z = took k t e in let is = z.2 in omega (arith, is))

      rest : (k : ℕ) → s.pending k ≡ false → (f : Found) → found k ≡ f → next_entry f (seen k) ≤ s.posted k
      rest k r NoOp e = omega arith
      rest k r Keep e = (let old = h.resting b k r in let a = z_sound.alike k in omega (arith, old, a))
      rest k r (Take t) e = absurd (true≢false (sym (took k t e).0 ∙ r))

      -- of who has no op announced none is applied
      idle : (k : ℕ) → s.pending k ≡ false → (f : Found) → found k ≡ f → next_done f (s.done k) ≡ s.posted k
      idle k r NoOp e = h.over k r
      idle k r Keep e = h.over k r
      idle k r (Take t) e = absurd (true≢false (sym (took k t e).0 ∙ r))

      -- whose bucket is another one has nothing applied
      away : (k : ℕ) → s.home k ≢ b → (f : Found) → found k ≡ f → next_done f (s.done k) ≡ s.done k
      away k n NoOp e = refl
      away k n Keep e = refl
      away k n (Take t) e = absurd (n (took k t e).1)

      here_entry : (k : ℕ) → s.home k ≡ b → entry_then (s.home k) k ≡ next_entry (found k) (seen k)
      here_entry k e = ap (λ c. entry_then c k) e ∙ ap (λ (f : ℕ → ℕ). f k) (put_same s.entry b new)

      other_entry : (k : ℕ) → s.home k ≢ b → entry_then (s.home k) k ≡ s.entry (s.home k) k
      other_entry k n = ap (λ (f : ℕ → ℕ). f k) (put_other s.entry b new (s.home k) n)

      home_entry : (k : ℕ) → s.home k ≡ b → s.entry (s.home k) k ≡ s.entry b k
      home_entry k e = ap (λ c. s.entry c k) e

      applied_here : (k : ℕ) → s.pending k ≡ true → s.home k ≡ b → (f : Found) → found k ≡ f →
          next_entry f (seen k) ≡ s.posted k + 1 → next_done f (s.done k) ≡ s.posted k + 1
      applied_here k a e NoOp f i = absurd (omega (arith, i))
      applied_here k a e Keep f i = h.applied k a (home_entry k e ∙ sym (z_sound.alike k) ∙ i)
      applied_here k a e (Take t) f i =
          ap (λ n. n + 1) (h.waiting k a (λ m. (took k t f).3 (sym (home_entry k e) ∙ m)))

      waits_here : (k : ℕ) → s.pending k ≡ true → s.home k ≡ b → (f : Found) → found k ≡ f →
          next_entry f (seen k) ≢ s.posted k + 1 → next_done f (s.done k) ≡ s.posted k
      waits_here k a e NoOp f i =
          h.waiting k a (λ m. z_sound.nothing k (let few = h.few k a in omega (arith, few, all)) f a e
          (sym (home_entry k e) ∙ m))
      waits_here k a e Keep f i = h.waiting k a (λ m. i (z_sound.alike k ∙ sym (home_entry k e) ∙ m))
      waits_here k a e (Take t) f i = absurd (i (ap (λ n. n + 1) (took k t f).2))

      by_home : (k : ℕ) → s.pending k ≡ true → entry_then (s.home k) k ≡ s.posted k + 1 →
          next_done (found k) (s.done k) ≡ s.posted k + 1
      by_home k a i = elim (cases_eq (s.home k) b) [
        | inl e ↦ applied_here k a e (found k) refl (sym (here_entry k e) ∙ i)
        | inr n ↦ away k n (found k) refl ∙ h.applied k a (sym (other_entry k n) ∙ i)
      ]

      wait_home : (k : ℕ) → s.pending k ≡ true → entry_then (s.home k) k ≢ s.posted k + 1 →
          next_done (found k) (s.done k) ≡ s.posted k
      wait_home k a i = elim (cases_eq (s.home k) b) [
        | inl e ↦ waits_here k a e (found k) refl (λ m. i (here_entry k e ∙ m))
        | inr n ↦ away k n (found k) refl ∙ h.waiting k a (λ m. i (other_entry k n ∙ m))
      ]

      covered_by : (k : ℕ) → s.pending k ≡ true → s.home k ≡ b →
          (found k ≢ NoOp) × (found k ≡ Keep → s.entry b k ≡ s.posted k + 1) → (f : Found) → found k ≡ f →
          next_entry f (seen k) ≡ s.posted k + 1
      covered_by k e i c NoOp f = absurd (c.0 f)
      covered_by k e i c Keep f = z_sound.alike k ∙ c.1 f
      covered_by k e i c (Take t) f = ap (λ n. n + 1) (took k t f).2

      go : (t : Try) → Tries s t → Tries (exchanged s p b g seen found) t
      go NoTry t = tt
      go (At c i up sees finds) t = (
        elim (either_put s.generation b (g + 1) c) [
          | inl z ↦ (let old = t.0 in let at = ap s.generation z.0 in let now = z.1 in
              omega (arith, old, at, now, same))
          | inr z ↦ (let old = t.0 in let now = z.1 in omega (arith, old, now))
        ],
        t.1,
        λ e. elim (either_put s.generation b (g + 1) c) [
          | inl z ↦ absurd (let old = t.0 in let at = ap s.generation z.0 in let now = z.1 in
              omega (arith, old, at, now, same, e))
          | inr z ↦ sound z.0 (t.2 (sym z.1 ∙ e))
        ],
        t.3,
      )
        where
          sound : c ≢ b → Sound s c i up sees finds → Sound (exchanged s p b g seen found) c i up sees finds
          sound n z = record {
            alike = λ k. z.alike k ∙ sym (still k);
            nothing = λ k less f a j m. z.nothing k less f a j (sym (still k) ∙ m);
            takes = λ k t less f.
                let old = z.takes k t less f in (old.0, old.1, old.2, λ m. old.3 (sym (still k) ∙ m));
            covers = λ k less a j early.
                let old = z.covers k less a j early in (old.0, λ f. still k ∙ old.1 f);
          }
            where
              still : (k : ℕ) → entry_then c k ≡ s.entry c k
              still k = ap (λ (f : ℕ → ℕ). f k) (put_other s.entry b new c n)

  -- an entry of an op that is announced stays
  pub exchanged_stays : (s : State) → Holds s → (p b g upto : ℕ) (seen : ℕ → ℕ) (found : ℕ → Found) →
      s.tries p ≡ At b g upto seen found → seats ≤ upto → s.generation b ≡ g → (q : ℕ) → s.pending q ≡ true →
      s.entry (s.home q) q ≡ s.posted q + 1 → (exchanged s p b g seen found).entry (s.home q) q ≡ s.posted q + 1
  exchanged_stays s h p b g upto seen found is all same q a e = elim (cases_eq (s.home q) b) [
    | inl m ↦
        ap (λ c. put s.entry b new c q) m ∙ ap (λ (f : ℕ → ℕ). f q) (put_same s.entry b new) ∙ go (found q) refl m
    | inr n ↦ ap (λ (f : ℕ → ℕ). f q) (put_other s.entry b new (s.home q) n) ∙ e
  ]
    where
      new : ℕ → ℕ
      new k = next_entry (found k) (seen k)

      sound : Sound s b g upto seen found
      sound = (let was : Tries s (At b g upto seen found) = subst (Tries s) is (h.tries p) in was.2 same)

      less : q < upto
      less = (let few = h.few q a in omega (arith, few, all))

      here : s.home q ≡ b → s.entry b q ≡ s.posted q + 1
      here m = sym (ap (λ c. s.entry c q) m) ∙ e

      go : (f : Found) → found q ≡ f → s.home q ≡ b → next_entry f (seen q) ≡ s.posted q + 1
      go NoOp f m = absurd (sound.nothing q less f a m (here m))
      go Keep f m = sound.alike q ∙ here m
      go (Take t) f m = absurd ((sound.takes q t less f).3 (here m))
