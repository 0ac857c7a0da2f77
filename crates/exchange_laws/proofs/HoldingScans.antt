-- The held look, from the side of an owner that scans: it looks at the hold words of the others, gives a row to who
-- asks, and finds free what nobody can come to read.
use Rattle.std.proofs.Common.{◌≡◌, ◌≢◌, ℕ, ◌+◌, ◌<◌, ◌≤◌, Bool, true, false, inl, inr, refl, sym, ap, ◌∙◌, subst, arith, true≢false}
use Rattle.std.specs.Prelude.{◌||◌}
use Rattle.std.proofs.lemmas.Bool.{cases_lt, cases_Bool}
use Rattle.word_rows.specs.Memory.{put}
use Rattle.word_rows.proofs.MemoryLemmas.{put_same}
use Rattle.exchange_laws.proofs.Places.{either_put}
use Rattle.exchange_laws.proofs.Holding as H
use Rattle.exchange_laws.proofs.Holding.{Nothing, Asking, Holding, NoLook, Loaded, Sweep, NoSweep, Seats, Sees, Loads, Gives, State, kind, of_hold, look_kind, sweep_kind, IsWaiting, IsActive, waiting_active}

module _ (buckets seats : ℕ) where
  -- the words of the other side, for these buckets, seats and owners
  abbrev Good : State → (q r : ℕ) → Type 0
  Good = H.Good buckets seats

  abbrev Left : (s : State) (p upto : ℕ) (left : ℕ → Bool) → Type 0
  Left = H.Left buckets seats

  abbrev Whose : (s : State) (q t : ℕ) (left : ℕ → Bool) → Type 0
  Whose = H.Whose buckets seats

  abbrev Sweeps : State → ℕ → Sweep → Type 0
  Sweeps = H.Sweeps buckets seats

  abbrev Holds : State → Type 0
  Holds = H.Holds buckets seats

  -- ---- a sweep goes on

  abbrev pub swept : State → (p : ℕ) → Sweep → State
  swept s p now = record s { sweep = put s.sweep p now }

  -- a row that is to be given is one that a word names
  abbrev pub IsNamed : State → Sweep → Type 0
  IsNamed s now = (q t r : ℕ) (l : ℕ → Bool) → now ≡ Gives q t r l → (b : ℕ) × (b < buckets) × (s.word b ≡ r)

  pub swept_keeps : (s : State) → Holds s → (p : ℕ) (now : Sweep) → Sweeps s p now → IsNamed s now →
      Holds (swept s p now)
  swept_keeps s h p now here news = record {
    named = h.named;
    apart = h.apart;
    inside = h.inside;
    old = h.old;
    asks = h.asks;
    loaded = h.loaded;
    reads = h.reads;
    use_ = h.use_;
    few = h.few;
    sweeps = λ k. elim (either_put s.sweep p now k) [
      | inl e ↦ subst (Sweeps (swept s p now) k) (sym e.1) (subst (λ j. Sweeps (swept s p now) j now) (sym e.0)
          (go p now here))
      | inr e ↦ subst (Sweeps (swept s p now) k) (sym e.1) (go k (s.sweep k) (h.sweeps k))
    ];
  }
    where
      left_same : (j k : ℕ) (left : ℕ → Bool) → Left s j k left → Left (swept s p now) j k left
      left_same j k left l = record {
        own = l.own;
        live = l.live;
        unnamed = l.unnamed;
        unheld = l.unheld;
        unread = l.unread;
        ungiven = λ q r p' t v less y at e. elim (either_put s.sweep p now p') [
          | inl x ↦ (let b = news q t r v (sym x.1 ∙ at) in l.unnamed r b.0 y b.1 b.2)
          | inr x ↦ l.ungiven q r p' t v less y (sym x.1 ∙ at) e
        ];
      }

      whose : (j i k t : ℕ) (left : ℕ → Bool) → Left s j i left → Whose s k t left → Whose (swept s p now) k t left
      whose j i k t left l w = record {
        past = w.past;
        loaded = w.loaded;
        given = λ r p' t' v y at e. elim (either_put s.sweep p now p') [
          | inl x ↦ absurd (let b = news k t' r v (sym x.1 ∙ at) in l.unnamed r b.0 y b.1 b.2)
          | inr x ↦ w.given r p' t' v y (sym x.1 ∙ at) e
        ];
      }

      go : (j : ℕ) (w : Sweep) → Sweeps s j w → Sweeps (swept s p now) j w
      go j NoSweep w = tt
      go j (Seats k left) w = left_same j k left w
      go j (Sees k t left) w = (left_same j k left w.0, whose j k k t left w.0 w.1)
      go j (Loads k t x left) w = (left_same j k left w.0, whose j k k t left w.0 w.1, w.2, w.3)
      go j (Gives k t x left) w = (left_same j k left w.0, whose j k k t left w.0 w.1, w.2, w.3)

  -- it begins, with rows of its seat that are not free and stand in no word
  pub scan_starts : (s : State) (p : ℕ) (left : ℕ → Bool) → ((r : ℕ) → left r ≡ true → s.owner r ≡ p) →
      ((r : ℕ) → left r ≡ true → s.free r ≡ false) →
      ((r b : ℕ) → left r ≡ true → b < buckets → s.word b ≢ r) → Sweeps s p (Seats 0 left)
  scan_starts s p left own live unnamed = record {
    own = own;
    live = live;
    unnamed = unnamed;
    unheld = λ q r less. absurd (omega (arith, less));
    unread = λ q r less. absurd (omega (arith, less));
    ungiven = λ q r p' v l less. absurd (omega (arith, less));
  }

  -- one seat more
  one_more : (s : State) (p k : ℕ) (left : ℕ → Bool) → Left s p k left →
      ((r : ℕ) → left r ≡ true → s.hold k ≡ Holding r → IsActive (s.look k) → ⊥) →
      ((r : ℕ) → left r ≡ true → s.look k ≡ Loaded r → s.hold k ≢ Asking (s.time k)) →
      ((r p' t : ℕ) (l : ℕ → Bool) → left r ≡ true → s.sweep p' ≡ Gives k t r l → s.hold k ≢ Asking t) →
      Left s p (k + 1) left
  one_more s p k left l held read given = record {
    own = l.own;
    live = l.live;
    unnamed = l.unnamed;
    unheld = λ q r less t e a. elim (cases_lt q k) [
      | inl o ↦ l.unheld q r o t e a
      | inr o ↦
          let same : q ≡ k = omega (arith, less, o) in
          held r t (ap s.hold (sym same) ∙ e) (subst (λ j. IsActive (s.look j)) same a)
    ];
    unread = λ q r less t at e. elim (cases_lt q k) [
      | inl o ↦ l.unread q r o t at e
      | inr o ↦
          let same : q ≡ k = omega (arith, less, o) in
          read r t (ap s.look (sym same) ∙ at) (ap s.hold (sym same) ∙ e ∙ ap (λ j. Asking (s.time j)) same)
    ];
    ungiven = λ q r p' t v less y at e. elim (cases_lt q k) [
      | inl o ↦ l.ungiven q r p' t v o y at e
      | inr o ↦
          let same : q ≡ k = omega (arith, less, o) in
          given r p' t v y (at ∙ ap (λ j. Gives j t r v) same) (ap s.hold (sym same) ∙ e)
    ];
  }

  -- fewer rows are left
  fewer : (s : State) (p k x : ℕ) (left : ℕ → Bool) → Left s p k left → Left s p k (put left x false)
  fewer s p k x left l = record {
    own = λ r t. l.own r (was r t);
    live = λ r t. l.live r (was r t);
    unnamed = λ r b t. l.unnamed r b (was r t);
    unheld = λ q r less t. l.unheld q r less (was r t);
    unread = λ q r less t. l.unread q r less (was r t);
    ungiven = λ q r p' t v less y. l.ungiven q r p' t v less (was r y);
  }
    where
      was : (r : ℕ) → put left x false r ≡ true → left r ≡ true
      was r t = elim (either_put left x false r) [
        | inl e ↦ absurd (true≢false (sym t ∙ e.1))
        | inr e ↦ sym e.1 ∙ t
      ]

  -- a seat whose hold word has nothing
  pub passed_over : (s : State) (p k : ℕ) (left : ℕ → Bool) → Sweeps s p (Seats k left) → s.hold k ≡ Nothing →
      Sweeps s p (Seats (k + 1) left)
  passed_over s p k left l e = one_more s p k left l
      (λ r t a. absurd (omega (arith, ap kind (sym e ∙ a))))
      (λ r t at a. omega (arith, ap kind (sym e ∙ a)))
      (λ r p' t v y at a. omega (arith, ap kind (sym e ∙ a)))

  -- the seat that sweeps, which reads no row meanwhile
  pub self_passed : (s : State) → Holds s → (p : ℕ) (left : ℕ → Bool) → Sweeps s p (Seats p left) → s.look p ≡ NoLook →
      Sweeps s p (Seats (p + 1) left)
  self_passed s h p left l none = one_more s p p left l
      (λ r t e a. subst IsActive none a)
      (λ r t at a. omega (arith, ap look_kind (sym none ∙ at)))
      (λ r p' t v y at a. subst IsWaiting none (h.old p t a).1)

  -- one that holds a row: that stays, whoever gave it
  pub row_held : (s : State) (p k x : ℕ) (left : ℕ → Bool) → Left s p k left → s.hold k ≡ Holding x →
      Sweeps s p (Seats (k + 1) (put left x false))
  row_held s p k x left l e = one_more s p k (put left x false) (fewer s p k x left l)
      (λ r t a _.
      let same : x ≡ r = ap of_hold (sym e ∙ a) in
      true≢false (sym t ∙ ap (put left x false) (sym same) ∙ put_same left x false))
      (λ r t at a. omega (arith, ap kind (sym e ∙ a)))
      (λ r p' t v y at a. omega (arith, ap kind (sym e ∙ a)))

  -- one that asks
  pub one_asks : (s : State) → Holds s → (p k t : ℕ) (left : ℕ → Bool) → Sweeps s p (Seats k left) →
      s.hold k ≡ Asking t → Sweeps s p (Sees k t left)
  one_asks s h p k t left l e = (
    l,
    record {
      past = (let o = (h.old k t e).0 in omega (arith, o));
      loaded = λ r y at a. sym (h.old k t e).0;
      given = λ r p' t' v y at a. ap of_hold (sym a ∙ e);
    },
  )

  -- which bucket it wants
  pub want_seen : (s : State) → Holds s → (p k t : ℕ) (left : ℕ → Bool) → Sweeps s p (Sees k t left) →
      Sweeps s p (Loads k t (s.want k) left)
  want_seen s h p k t left w = (w.0, w.1, h.inside k, λ e. refl)

  -- which row stands there
  pub word_seen : (s : State) → Holds s → (p k t b : ℕ) (left : ℕ → Bool) → Sweeps s p (Loads k t b left) →
      Sweeps s p (Gives k t (s.word b) left)
  word_seen s h p k t b left w = (
    w.0,
    w.1,
    elim (cases_Bool (left (s.word b))) [
      | inl y ↦ absurd (w.0.unnamed (s.word b) b y w.2 refl)
      | inr y ↦ y
    ],
    λ e. (h.named b w.2, ap (λ x. s.since k (s.word x)) (sym (w.3 e)) ∙ h.use_ k (h.old k t e).1),
  )

  pub word_is_named : (s : State) (k t b : ℕ) (left : ℕ → Bool) → b < buckets → IsNamed s (Gives k t (s.word b) left)
  word_is_named s k t b left less q t' r l e = (b, less, ap given_row e)
    where
      given_row : Sweep → ℕ
      given_row NoSweep = 0
      given_row (Seats i v) = 0
      given_row (Sees i j v) = 0
      given_row (Loads i j x v) = 0
      given_row (Gives i j x v) = x

  -- the giving is lost, and it asks anew by now: what it loads then is not left
  pub asks_anew : (s : State) (p k t x t' : ℕ) (left : ℕ → Bool) → Sweeps s p (Gives k t x left) →
      s.hold k ≡ Asking t' → t' ≢ t → Sweeps s p (Seats (k + 1) left)
  asks_anew s p k t x t' left w e other = one_more s p k left w.0
      (λ r y a _. omega (arith, ap kind (sym e ∙ a)))
      (λ r y at a. other (ap of_hold (sym e ∙ a) ∙ w.1.loaded r y at a))
      (λ r p' t2 v y at a. other (ap of_hold (sym e ∙ a) ∙ w.1.given r p' t2 v y at a))

  -- the row is given
  abbrev pub gave : State → (p k x : ℕ) → (ℕ → Bool) → State
  gave s p k x left = record s { hold = put s.hold k (Holding x); sweep = put s.sweep p (Seats (k + 1) left) }

  pub gave_keeps : (s : State) → Holds s → (p k t x : ℕ) (left : ℕ → Bool) → s.sweep p ≡ Gives k t x left →
      s.hold k ≡ Asking t → Holds (gave s p k x left)
  gave_keeps s h p k t x left is asks = record {
    named = h.named;
    apart = h.apart;
    inside = h.inside;
    old = λ q t' e. h.old q t' (before q t' e).1;
    asks = λ q w. elim (either_put s.hold k (Holding x) q) [
      | inl z ↦ inr (x, z.1, subst (λ j. Good s j x) (sym z.0) (mine.3 asks))
      | inr z ↦ elim (h.asks q w) [ inl e ↦ inl (z.1 ∙ e) | inr e ↦ inr (e.0, z.1 ∙ e.1, e.2) ]
    ];
    loaded = λ q r at e. h.loaded q r at (before q (s.time q) e).1;
    reads = λ q r at. elim (either_put s.hold k (Holding x) q) [
      | inl z ↦ absurd (omega (arith, ap kind (sym (h.reads q r at).0 ∙ ap s.hold z.0 ∙ asks)))
      | inr z ↦ (let y = h.reads q r at in (z.1 ∙ y.0, y.1))
    ];
    use_ = h.use_;
    few = h.few;
    sweeps = λ j. elim (either_put s.sweep p (Seats (k + 1) left) j) [
      | inl e ↦ subst (Sweeps (gave s p k x left) j) (sym e.1)
          (subst (λ i. Left (gave s p k x left) i (k + 1) left) (sym e.0) own)
      | inr e ↦ subst (Sweeps (gave s p k x left) j) (sym e.1) (go j (s.sweep j) (h.sweeps j))
    ];
  }
    where
      mine : Sweeps s p (Gives k t x left)
      mine = subst (Sweeps s p) is (h.sweeps p)

      before : (q t' : ℕ) → put s.hold k (Holding x) q ≡ Asking t' → (q ≢ k) × (s.hold q ≡ Asking t')
      before q t' e = elim (either_put s.hold k (Holding x) q) [
        | inl z ↦ absurd (omega (arith, ap kind (sym z.1 ∙ e)))
        | inr z ↦ (z.0, sym z.1 ∙ e)
      ]

      -- whoever gives now gave before
      gives : (q r p' t' : ℕ) (l : ℕ → Bool) → put s.sweep p (Seats (k + 1) left) p' ≡ Gives q t' r l →
          s.sweep p' ≡ Gives q t' r l
      gives q r p' t' l e = elim (either_put s.sweep p (Seats (k + 1) left) p') [
        | inl z ↦ absurd (omega (arith, ap sweep_kind (sym z.1 ∙ e)))
        | inr z ↦ sym z.1 ∙ e
      ]

      left_same : (j i : ℕ) (v : ℕ → Bool) → Left s j i v → Left (gave s p k x left) j i v
      left_same j i v l = record {
        own = l.own;
        live = l.live;
        unnamed = l.unnamed;
        unheld = λ q r less y e a. elim (either_put s.hold k (Holding x) q) [
          | inl z ↦
              let same : x ≡ r = ap of_hold (sym z.1 ∙ e) in
              l.ungiven k r p t left (subst (λ n. n < i) z.0 less) y (is ∙ ap (λ n. Gives k t n left) same) asks
          | inr z ↦ l.unheld q r less y (sym z.1 ∙ e) a
        ];
        unread = λ q r less y at e. l.unread q r less y at (before q (s.time q) e).1;
        ungiven = λ q r p' t' u less y at e. l.ungiven q r p' t' u less y (gives q r p' t' u at) (before q t' e).1;
      }

      whose : (q t' : ℕ) (v : ℕ → Bool) → Whose s q t' v → Whose (gave s p k x left) q t' v
      whose q t' v w = record {
        past = w.past;
        loaded = λ r y at e. w.loaded r y at (before q (s.time q) e).1;
        given = λ r p' t2 u y at e. w.given r p' t2 u y (gives q r p' t2 u at) (before q t2 e).1;
      }

      own : Left (gave s p k x left) p (k + 1) left
      own = one_more (gave s p k x left) p k left (left_same p k left mine.0)
          (λ r y e _.
          let same : x ≡ r = ap of_hold (sym (put_same s.hold k (Holding x)) ∙ e) in
          true≢false (sym y ∙ ap left (sym same) ∙ mine.2))
          (λ r y at e. (before k (s.time k) e).0 refl)
          (λ r p' t' u y at e. (before k t' e).0 refl)

      go : (j : ℕ) (w : Sweep) → Sweeps s j w → Sweeps (gave s p k x left) j w
      go j NoSweep w = tt
      go j (Seats i v) w = left_same j i v w
      go j (Sees i t' v) w = (left_same j i v w.0, whose i t' v w.1)
      go j (Loads i t' b v) w = (left_same j i v w.0, whose i t' v w.1, w.2, λ e. w.3 (before i t' e).1)
      go j (Gives i t' r v) w = (left_same j i v w.0, whose i t' v w.1, w.2, λ e. w.3 (before i t' e).1)

  -- all seats are looked at: what is left is free
  abbrev pub freed : State → (p : ℕ) → (ℕ → Bool) → State
  freed s p left = record s { free = λ r. left r || s.free r; sweep = put s.sweep p NoSweep }

  pub freed_keeps : (s : State) → Holds s → (p n : ℕ) (left : ℕ → Bool) → s.sweep p ≡ Seats n left → seats ≤ n →
      Holds (freed s p left)
  freed_keeps s h p n left is all = record {
    named = λ b less. none (s.word b) (λ y. w.unnamed (s.word b) b y less refl) (h.named b less);
    apart = h.apart;
    inside = h.inside;
    old = h.old;
    asks = λ q wt. elim (h.asks q wt) [
      | inl e ↦ inl e
      | inr e ↦ inr (
        e.0,
        e.1,
        good q e.0 (waiting_active (s.look q) wt) (λ y.
            w.unheld q e.0 (seat q (waiting_active (s.look q) wt)) y e.1 (waiting_active (s.look q) wt)) e.2,
      )
    ];
    loaded = λ q r at e.
        let a : IsActive (s.look q) = subst IsActive (sym at) tt in
        good q r a (λ y. w.unread q r (seat q a) y at e) (h.loaded q r at e);
    reads = λ q r at.
        let a : IsActive (s.look q) = subst IsActive (sym at) tt in
        let z = h.reads q r at in (z.0, good q r a (λ y. w.unheld q r (seat q a) y z.0 a) z.1);
    use_ = h.use_;
    few = h.few;
    sweeps = λ j. elim (either_put s.sweep p NoSweep j) [
      | inl e ↦ subst (Sweeps (freed s p left) j) (sym e.1) tt
      | inr e ↦ subst (Sweeps (freed s p left) j) (sym e.1) (go j e.0 (s.sweep j) refl (h.sweeps j))
    ];
  }
    where
      w : Left s p n left
      w = subst (Sweeps s p) is (h.sweeps p)

      seat : (q : ℕ) → IsActive (s.look q) → q < n
      seat q a = (let few = h.few q a in omega (arith, few, all))

      none : (r : ℕ) → (left r ≡ true → ⊥) → s.free r ≡ false → (left r || s.free r) ≡ false
      none r lacks live = elim (cases_Bool (left r)) [
        | inl y ↦ absurd (lacks y)
        | inr y ↦ ap (λ (b : Bool). b || s.free r) y ∙ live
      ]

      good : (q r : ℕ) → IsActive (s.look q) → (left r ≡ true → ⊥) → Good s q r → Good (freed s p left) q r
      good q r a lacks g = (none r lacks g.0, g.1)

      gives : (q r p' t' : ℕ) (l : ℕ → Bool) → put s.sweep p NoSweep p' ≡ Gives q t' r l →
          s.sweep p' ≡ Gives q t' r l
      gives q r p' t' l e = elim (either_put s.sweep p NoSweep p') [
        | inl z ↦ absurd (omega (arith, ap sweep_kind (sym z.1 ∙ e)))
        | inr z ↦ sym z.1 ∙ e
      ]

      left_same : (j i : ℕ) (v : ℕ → Bool) → j ≢ p → Left s j i v → Left (freed s p left) j i v
      left_same j i v other l = record {
        own = l.own;
        live = λ r y. none r (λ m. other (sym (l.own r y) ∙ w.own r m)) (l.live r y);
        unnamed = l.unnamed;
        unheld = l.unheld;
        unread = l.unread;
        ungiven = λ q r p' t' u less y at. l.ungiven q r p' t' u less y (gives q r p' t' u at);
      }

      whose : (q t' : ℕ) (v : ℕ → Bool) → Whose s q t' v → Whose (freed s p left) q t' v
      whose q t' v x = record {
        past = x.past;
        loaded = x.loaded;
        given = λ r p' t2 u y at. x.given r p' t2 u y (gives q r p' t2 u at);
      }

      go : (j : ℕ) → j ≢ p → (v : Sweep) → s.sweep j ≡ v → Sweeps s j v → Sweeps (freed s p left) j v
      go j other NoSweep at v = tt
      go j other (Seats i u) at v = left_same j i u other v
      go j other (Sees i t' u) at v = (left_same j i u other v.0, whose i t' u v.1)
      go j other (Loads i t' b u) at v = (left_same j i u other v.0, whose i t' u v.1, v.2, v.3)
      go j other (Gives i t' r u) at v = (
        left_same j i u other v.0,
        whose i t' u v.1,
        v.2,
        λ e.
            let a = waiting_active (s.look i) (h.old i t' e).1 in
            good i r a (λ y. w.ungiven i r j t' u (seat i a) y at e) (v.3 e),
      )
