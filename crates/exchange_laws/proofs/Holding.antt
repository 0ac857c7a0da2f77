-- The held look where rows change owner: a seat asks, loads the word of a bucket, and takes hold of the row, unless an
-- owner that scans has given it one meanwhile. In every run, however many seats scan and give at once: the row that is
-- read is not found free while it is read, and it stood in the bucket's word at some time since the seat asked.
use Rattle.std.proofs.Common.{◌≡◌, ◌≢◌, ℕ, ◌+◌, ◌<◌, ◌≤◌, ◌⊎◌, Bool, true, false, cond, inl, inr, refl, sym, ap, ◌∙◌, subst, arith, true≢false}
use Rattle.std.specs.Prelude.{◌==◌}
use Rattle.std.proofs.lemmas.Bool.{cases_eq, eq-eqb, ne_eqb}
use Rattle.word_rows.specs.Memory.{put}
use Rattle.word_rows.proofs.MemoryLemmas.{put_same, put_other}
use Rattle.exchange_laws.proofs.Places.{either_put}

-- a hold word: nothing, an asking, or a row
pub data Hold : Type 0 where
  Nothing : Hold
  Asking : (time : ℕ) → Hold
  Holding : (row : ℕ) → Hold

-- a seat's look: it has chosen its bucket, it has asked, it has loaded the bucket word, it reads a row
pub data Look : Type 0 where
  NoLook : Look
  Chosen : Look
  Asked : Look
  Loaded : (row : ℕ) → Look
  Reads : (row : ℕ) → Look

-- a sweep: so many seats are looked at, and these rows are left; this seat asks; it wants this bucket; it is to be
-- given this row
pub data Sweep : Type 0 where
  NoSweep : Sweep
  Seats : (upto : ℕ) (left : ℕ → Bool) → Sweep
  Sees : (seat time : ℕ) (left : ℕ → Bool) → Sweep
  Loads : (seat time bucket : ℕ) (left : ℕ → Bool) → Sweep
  Gives : (seat time row : ℕ) (left : ℕ → Bool) → Sweep

pub record State : Type 0 where
  pub word : ℕ → ℕ
  -- the seat that a row came to last
  pub owner : ℕ → ℕ
  pub free : ℕ → Bool
  pub hold : ℕ → Hold
  pub want : ℕ → ℕ
  pub time : ℕ → ℕ
  pub look : ℕ → Look
  pub sweep : ℕ → Sweep
  -- for the statement: the row stood in the seat's bucket since it asked
  pub since : ℕ → ℕ → Bool

abbrev pub kind : Hold → ℕ
kind Nothing = 0
kind (Asking t) = 1
kind (Holding r) = 2

abbrev pub of_hold : Hold → ℕ
of_hold Nothing = 0
of_hold (Asking t) = t
of_hold (Holding r) = r

abbrev pub look_kind : Look → ℕ
look_kind NoLook = 0
look_kind Chosen = 1
look_kind Asked = 2
look_kind (Loaded r) = 3
look_kind (Reads r) = 4

abbrev pub of_look : Look → ℕ
of_look NoLook = 0
of_look Chosen = 0
of_look Asked = 0
of_look (Loaded r) = r
of_look (Reads r) = r

abbrev pub sweep_kind : Sweep → ℕ
sweep_kind NoSweep = 0
sweep_kind (Seats k l) = 1
sweep_kind (Sees k t l) = 2
sweep_kind (Loads k t b l) = 3
sweep_kind (Gives k t r l) = 4

-- it has asked, and does not yet read
abbrev pub IsWaiting : Look → Type 0
IsWaiting NoLook = ⊥
IsWaiting Chosen = ⊥
IsWaiting Asked = Unit {0}
IsWaiting (Loaded r) = Unit {0}
IsWaiting (Reads r) = ⊥

abbrev pub IsActive : Look → Type 0
IsActive NoLook = ⊥
IsActive Chosen = ⊥
IsActive Asked = Unit {0}
IsActive (Loaded r) = Unit {0}
IsActive (Reads r) = Unit {0}

pub waiting_active : (l : Look) → IsWaiting l → IsActive l
waiting_active NoLook w = w
waiting_active Chosen w = w
waiting_active Asked w = w
waiting_active (Loaded r) w = w
waiting_active (Reads r) w = absurd w

-- a row that a seat may come to read: it has loaded its word, holds it, is about to be given it, or the row stands in
-- the word of the bucket that it wants
pub data MayRead (s : State) (q row : ℕ) : Type 0 where
  ByLoad : s.look q ≡ Loaded row → s.hold q ≡ Asking (s.time q) → MayRead s q row
  ByHold : s.hold q ≡ Holding row → IsActive (s.look q) → MayRead s q row
  ByGiving : (p t : ℕ) (left : ℕ → Bool) → s.sweep p ≡ Gives q t row left → s.hold q ≡ Asking t → MayRead s q row
  InUse : IsWaiting (s.look q) → s.word (s.want q) ≡ row → MayRead s q row

module _ (buckets seats : ℕ) where
  -- a row that may be read by the seat
  abbrev pub Good : State → (q r : ℕ) → Type 0
  Good s q r = (s.free r ≡ false) × (s.since q r ≡ true)

  pub record Left (s : State) (p upto : ℕ) (left : ℕ → Bool) : Type 0 where
    pub own : (r : ℕ) → left r ≡ true → s.owner r ≡ p
    pub live : (r : ℕ) → left r ≡ true → s.free r ≡ false
    pub unnamed : (r b : ℕ) → left r ≡ true → b < buckets → s.word b ≢ r
    pub unheld : (q r : ℕ) → q < upto → left r ≡ true → s.hold q ≡ Holding r → IsActive (s.look q) → ⊥
    pub unread : (q r : ℕ) → q < upto → left r ≡ true → s.look q ≡ Loaded r → s.hold q ≢ Asking (s.time q)
    pub ungiven : (q r p' t : ℕ) (l : ℕ → Bool) → q < upto → left r ≡ true → s.sweep p' ≡ Gives q t r l →
        s.hold q ≢ Asking t

  -- whoever has one of these rows for the seat's asking has it for this one
  pub record Whose (s : State) (q t : ℕ) (left : ℕ → Bool) : Type 0 where
    pub past : t ≤ s.time q
    pub loaded : (r : ℕ) → left r ≡ true → s.look q ≡ Loaded r → s.hold q ≡ Asking (s.time q) → s.time q ≡ t
    pub given : (r p' t' : ℕ) (l : ℕ → Bool) → left r ≡ true → s.sweep p' ≡ Gives q t' r l → s.hold q ≡ Asking t' →
        t' ≡ t

  abbrev pub Sweeps : State → ℕ → Sweep → Type 0
  Sweeps s p NoSweep = Unit {0}
  Sweeps s p (Seats k left) = Left s p k left
  Sweeps s p (Sees k t left) = Left s p k left × Whose s k t left
  Sweeps s p (Loads k t b left) =
      Left s p k left × Whose s k t left × (b < buckets) × (s.hold k ≡ Asking t → s.want k ≡ b)
  Sweeps s p (Gives k t r left) =
      Left s p k left × Whose s k t left × (left r ≡ false) × (s.hold k ≡ Asking t → Good s k r)

  pub record Holds (s : State) : Type 0 where
    pub named : (b : ℕ) → b < buckets → s.free (s.word b) ≡ false
    pub apart : (a b : ℕ) → a < buckets → b < buckets → s.word a ≡ s.word b → a ≡ b
    pub inside : (q : ℕ) → s.want q < buckets
    pub old : (q t : ℕ) → s.hold q ≡ Asking t → (t ≡ s.time q) × IsWaiting (s.look q)
    pub asks : (q : ℕ) → IsWaiting (s.look q) →
        (s.hold q ≡ Asking (s.time q)) ⊎ ((r : ℕ) × (s.hold q ≡ Holding r) × Good s q r)
    pub loaded : (q r : ℕ) → s.look q ≡ Loaded r → s.hold q ≡ Asking (s.time q) → Good s q r
    pub reads : (q r : ℕ) → s.look q ≡ Reads r → (s.hold q ≡ Holding r) × Good s q r
    pub use_ : (q : ℕ) → IsWaiting (s.look q) → s.since q (s.word (s.want q)) ≡ true
    pub few : (q : ℕ) → IsActive (s.look q) → q < seats
    pub sweeps : (p : ℕ) → Sweeps s p (s.sweep p)

  -- THE RESULT
  pub reads_safe : (s : State) → Holds s → (q r : ℕ) → s.look q ≡ Reads r → Good s q r
  reads_safe s h q r is = (h.reads q r is).1

  -- whatever may be read is not free
  pub may_read_good : (s : State) → Holds s → (q row : ℕ) → MayRead s q row → Good s q row
  may_read_good s h q row (ByLoad is asks) = h.loaded q row is asks
  may_read_good s h q row (ByHold holds active) = go (s.look q) refl active
    where
      waiting : IsWaiting (s.look q) → Good s q row
      waiting w = elim (h.asks q w) [
        | inl e ↦ absurd (omega (arith, ap kind (sym e ∙ holds)))
        | inr e ↦ subst (Good s q) (ap of_hold (sym e.1 ∙ holds)) e.2
      ]

      go : (l : Look) → s.look q ≡ l → IsActive l → Good s q row
      go NoLook e a = absurd a
      go Chosen e a = absurd a
      go Asked e a = waiting (subst IsWaiting (sym e) tt)
      go (Loaded r) e a = waiting (subst IsWaiting (sym e) tt)
      go (Reads r) e a = (let z = h.reads q r e in subst (Good s q) (ap of_hold (sym z.0 ∙ holds)) z.1)
  may_read_good s h q row (ByGiving p t left is asks) = (subst (Sweeps s p) is (h.sweeps p)).3 asks
  may_read_good s h q row (InUse waits is) =
      (ap s.free (sym is) ∙ h.named (s.want q) (h.inside q), ap (s.since q) (sym is) ∙ h.use_ q waits)

  -- a giving is a past one
  pub given_past : (s : State) → Holds s → (p q t r : ℕ) (l : ℕ → Bool) → s.sweep p ≡ Gives q t r l → t ≤ s.time q
  given_past s h p q t r l is = (subst (Sweeps s p) is (h.sweeps p)).1.past

  -- ---- a seat exchanges the word of a bucket: it gives a free row for the one that stood there, which is its then

  abbrev pub exchanged_in : State → (p b r : ℕ) → State
  exchanged_in s p b r = record s {
    word = put s.word b r;
    owner = put s.owner (s.word b) p;
    free = put s.free r false;
    since = λ q x. cond (x == r) (s.want q == b) (s.since q x);
  }

  pub exchanged_keeps : (s : State) → Holds s → (p b r : ℕ) → b < buckets → s.free r ≡ true →
      Holds (exchanged_in s p b r)
  exchanged_keeps s h p b r inside was = record {
    named = λ x less. elim (either_put s.word b r x) [
      | inl e ↦ ap (put s.free r false) e.1 ∙ put_same s.free r false
      | inr e ↦ ap (put s.free r false) e.1 ∙ still (s.word x) (h.named x less)
    ];
    apart = λ x y less low e. elim (either_put s.word b r x) [
      | inl i ↦ elim (either_put s.word b r y) [
        | inl j ↦ i.0 ∙ sym j.0
        | inr j ↦ absurd (other (s.word y) (h.named y low) (sym j.1 ∙ sym e ∙ i.1))
      ]
      | inr i ↦ elim (either_put s.word b r y) [
        | inl j ↦ absurd (other (s.word x) (h.named x less) (sym i.1 ∙ e ∙ j.1))
        | inr j ↦ h.apart x y less low (sym i.1 ∙ e ∙ j.1)
      ]
    ];
    inside = h.inside;
    old = h.old;
    asks = λ q w. elim (h.asks q w) [ inl e ↦ inl e | inr e ↦ inr (e.0, e.1, good q e.0 e.2) ];
    loaded = λ q x is e. good q x (h.loaded q x is e);
    reads = λ q x is. (let z = h.reads q x is in (z.0, good q x z.1));
    use_ = λ q w. elim (either_put s.word b r (s.want q)) [
      | inl e ↦ ap (λ x. cond (x == r) (s.want q == b) (s.since q x)) e.1
          ∙ ap (λ (t : Bool). cond t (s.want q == b) (s.since q r)) (eq-eqb r r refl) ∙ eq-eqb (s.want q) b e.0
      | inr e ↦ ap (λ x. cond (x == r) (s.want q == b) (s.since q x)) e.1
          ∙ past q (s.word (s.want q)) (other (s.word (s.want q)) (h.named (s.want q) (h.inside q))) ∙ h.use_ q w
    ];
    few = h.few;
    sweeps = λ k. go k (s.sweep k) (h.sweeps k);
  }
    where
      -- of another row it is as it was
      past : (q x : ℕ) → x ≢ r → cond (x == r) (s.want q == b) (s.since q x) ≡ s.since q x
      past q x n = ap (λ (t : Bool). cond t (s.want q == b) (s.since q x)) (ne_eqb x r n)

      other : (x : ℕ) → s.free x ≡ false → x ≢ r
      other x live e = true≢false (sym was ∙ ap s.free (sym e) ∙ live)

      still : (x : ℕ) → s.free x ≡ false → put s.free r false x ≡ false
      still x live = put_other s.free r false x (other x live) ∙ live

      good : (q x : ℕ) → Good s q x → Good (exchanged_in s p b r) q x
      good q x g = (still x g.0, past q x (other x g.0) ∙ g.1)

      left_same : (j k : ℕ) (left : ℕ → Bool) → Left s j k left → Left (exchanged_in s p b r) j k left
      left_same j k left l = record {
        own = λ x t. put_other s.owner (s.word b) p x (λ e. l.unnamed x b t inside (sym e)) ∙ l.own x t;
        live = λ x t. still x (l.live x t);
        unnamed = λ x y t less e. elim (either_put s.word b r y) [
          | inl z ↦ other x (l.live x t) (sym (sym z.1 ∙ e))
          | inr z ↦ l.unnamed x y t less (sym z.1 ∙ e)
        ];
        unheld = l.unheld;
        unread = l.unread;
        ungiven = l.ungiven;
      }

      whose : (q t : ℕ) (left : ℕ → Bool) → Whose s q t left → Whose (exchanged_in s p b r) q t left
      whose q t left w = record { past = w.past; loaded = w.loaded; given = w.given }

      go : (j : ℕ) (w : Sweep) → Sweeps s j w → Sweeps (exchanged_in s p b r) j w
      go j NoSweep w = tt
      go j (Seats k left) w = left_same j k left w
      go j (Sees k t left) w = (left_same j k left w.0, whose k t left w.1)
      go j (Loads k t x left) w = (left_same j k left w.0, whose k t left w.1, w.2, w.3)
      go j (Gives k t x left) w = (left_same j k left w.0, whose k t left w.1, w.2, λ e. good k x (w.3 e))

  -- ---- a seat goes on with its look: what of it is another then

  abbrev pub moved : State → (q : ℕ) → Look → State
  moved s q now = record s { look = put s.look q now }

  record MayMove (s : State) (q : ℕ) (now : Look) : Type 0 where
    pub old : (t : ℕ) → s.hold q ≡ Asking t → IsWaiting now
    pub asks : IsWaiting now → IsWaiting (s.look q)
    pub active : IsActive now → IsActive (s.look q)
    pub loaded : (r : ℕ) → now ≡ Loaded r → s.hold q ≡ Asking (s.time q) → Good s q r
    pub in_word : (r : ℕ) → now ≡ Loaded r → (b : ℕ) × (b < buckets) × (s.word b ≡ r)
    pub reads : (r : ℕ) → now ≡ Reads r → (s.hold q ≡ Holding r) × Good s q r

  moved_keeps : (s : State) → Holds s → (q : ℕ) (now : Look) → MayMove s q now → Holds (moved s q now)
  moved_keeps s h q now m = record {
    named = h.named;
    apart = h.apart;
    inside = h.inside;
    old = λ k t e. (let z = h.old k t e in (
      z.0,
      elim (either_put s.look q now k) [
        | inl x ↦ subst IsWaiting (sym x.1) (m.old t (ap s.hold (sym x.0) ∙ e))
        | inr x ↦ subst IsWaiting (sym x.1) z.1
      ],
    ));
    asks = λ k w. h.asks k (waits k w);
    loaded = λ k r is e. elim (either_put s.look q now k) [
      | inl x ↦ subst (λ j. Good s j r) (sym x.0)
          (m.loaded r (sym x.1 ∙ is) (ap s.hold (sym x.0) ∙ e ∙ ap (λ j. Asking (s.time j)) x.0))
      | inr x ↦ h.loaded k r (sym x.1 ∙ is) e
    ];
    reads = λ k r is. elim (either_put s.look q now k) [
      | inl x ↦ subst (λ j. (s.hold j ≡ Holding r) × Good s j r) (sym x.0) (m.reads r (sym x.1 ∙ is))
      | inr x ↦ h.reads k r (sym x.1 ∙ is)
    ];
    use_ = λ k w. h.use_ k (waits k w);
    few = λ k a. h.few k (acts k a);
    sweeps = λ p. go p (s.sweep p) (h.sweeps p);
  }
    where
      waits : (k : ℕ) → IsWaiting (put s.look q now k) → IsWaiting (s.look k)
      waits k w = elim (either_put s.look q now k) [
        | inl x ↦ subst (λ j. IsWaiting (s.look j)) (sym x.0) (m.asks (subst IsWaiting x.1 w))
        | inr x ↦ subst IsWaiting x.1 w
      ]

      acts : (k : ℕ) → IsActive (put s.look q now k) → IsActive (s.look k)
      acts k w = elim (either_put s.look q now k) [
        | inl x ↦ subst (λ j. IsActive (s.look j)) (sym x.0) (m.active (subst IsActive x.1 w))
        | inr x ↦ subst IsActive x.1 w
      ]

      left_same : (p k : ℕ) (left : ℕ → Bool) → Left s p k left → Left (moved s q now) p k left
      left_same p k left l = record {
        own = l.own;
        live = l.live;
        unnamed = l.unnamed;
        unheld = λ j r less t e a. l.unheld j r less t e (acts j a);
        unread = λ j r less t is e. elim (either_put s.look q now j) [
          | inl x ↦ (let b = m.in_word r (sym x.1 ∙ is) in l.unnamed r b.0 t b.1 b.2)
          | inr x ↦ l.unread j r less t (sym x.1 ∙ is) e
        ];
        ungiven = l.ungiven;
      }

      whose : (p i k t : ℕ) (left : ℕ → Bool) → Left s p i left → Whose s k t left → Whose (moved s q now) k t left
      whose p i k t left l w = record {
        past = w.past;
        loaded = λ r y is e. elim (either_put s.look q now k) [
          | inl x ↦ absurd (let b = m.in_word r (sym x.1 ∙ is) in l.unnamed r b.0 y b.1 b.2)
          | inr x ↦ w.loaded r y (sym x.1 ∙ is) e
        ];
        given = w.given;
      }

      go : (p : ℕ) (w : Sweep) → Sweeps s p w → Sweeps (moved s q now) p w
      go p NoSweep w = tt
      go p (Seats k left) w = left_same p k left w
      go p (Sees k t left) w = (left_same p k left w.0, whose p k k t left w.0 w.1)
      go p (Loads k t x left) w = (left_same p k left w.0, whose p k k t left w.0 w.1, w.2, w.3)
      go p (Gives k t x left) w = (left_same p k left w.0, whose p k k t left w.0 w.1, w.2, w.3)

  -- it loads the bucket word
  pub load_keeps : (s : State) → Holds s → (q : ℕ) → s.look q ≡ Asked → Holds (moved s q (Loaded (s.word (s.want q))))
  load_keeps s h q is =
      let waits : IsWaiting (s.look q) = subst IsWaiting (sym is) tt in
      moved_keeps s h q (Loaded (s.word (s.want q))) (record {
        old = λ t e. tt;
        asks = λ _. waits;
        active = λ _. waiting_active (s.look q) waits;
        loaded = λ r e _. subst (Good s q) (ap of_look e)
            (h.named (s.want q) (h.inside q), h.use_ q waits);
        in_word = λ r e. (s.want q, h.inside q, ap of_look e);
        reads = λ r e. absurd (omega (arith, ap look_kind e));
      })

  -- it was given a row: it reads that
  pub given_keeps : (s : State) → Holds s → (q r x : ℕ) → s.look q ≡ Loaded r → s.hold q ≡ Holding x →
      Holds (moved s q (Reads x))
  given_keeps s h q r x is e =
      let waits : IsWaiting (s.look q) = subst IsWaiting (sym is) tt in
      moved_keeps s h q (Reads x) (record {
        old = λ t a. absurd (omega (arith, ap kind (sym e ∙ a)));
        asks = λ w. absurd w;
        active = λ _. waiting_active (s.look q) waits;
        loaded = λ y a. absurd (omega (arith, ap look_kind a));
        in_word = λ y a. absurd (omega (arith, ap look_kind a));
        reads = λ y a.
            let same : x ≡ y = ap of_look a in
            elim (h.asks q waits) [
              | inl z ↦ absurd (omega (arith, ap kind (sym e ∙ z)))
              | inr z ↦
                  let at : z.0 ≡ x = ap of_hold (sym z.1 ∙ e) in
                  (e ∙ ap Holding same, subst (Good s q) (at ∙ same) z.2)
            ];
      })

  -- it has read
  pub end_keeps : (s : State) → Holds s → (q r : ℕ) → s.look q ≡ Reads r → Holds (moved s q NoLook)
  end_keeps s h q r is = moved_keeps s h q NoLook (record {
    old = λ t a. absurd (omega (arith, ap kind (sym (h.reads q r is).0 ∙ a)));
    asks = λ w. absurd w;
    active = λ w. absurd w;
    loaded = λ y a. absurd (omega (arith, ap look_kind a));
    in_word = λ y a. absurd (omega (arith, ap look_kind a));
    reads = λ y a. absurd (omega (arith, ap look_kind a));
  })

  -- it chooses its bucket: first that, and then which
  pub choose_keeps : (s : State) → Holds s → (q : ℕ) → s.look q ≡ NoLook → Holds (moved s q Chosen)
  choose_keeps s h q is = moved_keeps s h q Chosen (record {
    old = λ t e. absurd (subst IsWaiting is (h.old q t e).1);
    asks = λ w. absurd w;
    active = λ w. absurd w;
    loaded = λ y a. absurd (omega (arith, ap look_kind a));
    in_word = λ y a. absurd (omega (arith, ap look_kind a));
    reads = λ y a. absurd (omega (arith, ap look_kind a));
  })

  abbrev pub wanted : State → (q b : ℕ) → State
  wanted s q b = record s { want = put s.want q b }

  pub wanted_keeps : (s : State) → Holds s → (q b : ℕ) → s.look q ≡ Chosen → b < buckets → Holds (wanted s q b)
  wanted_keeps s h q b is inside = record {
    named = h.named;
    apart = h.apart;
    inside = λ k. elim (either_put s.want q b k) [
      | inl e ↦ subst (λ x. x < buckets) (sym e.1) inside
      | inr e ↦ subst (λ x. x < buckets) (sym e.1) (h.inside k)
    ];
    old = h.old;
    asks = h.asks;
    loaded = h.loaded;
    reads = h.reads;
    use_ = λ k w. ap (λ x. s.since k (s.word x)) (same k w) ∙ h.use_ k w;
    few = h.few;
    sweeps = λ p. go p (s.sweep p) (h.sweeps p);
  }
    where
      same : (k : ℕ) → IsWaiting (s.look k) → put s.want q b k ≡ s.want k
      same k w = elim (either_put s.want q b k) [
        | inl e ↦ absurd (subst IsWaiting (ap s.look e.0 ∙ is) w)
        | inr e ↦ e.1
      ]

      left_same : (p k : ℕ) (left : ℕ → Bool) → Left s p k left → Left (wanted s q b) p k left
      left_same p k left l = record {
        own = l.own;
        live = l.live;
        unnamed = l.unnamed;
        unheld = l.unheld;
        unread = l.unread;
        ungiven = l.ungiven;
      }

      whose : (k t : ℕ) (left : ℕ → Bool) → Whose s k t left → Whose (wanted s q b) k t left
      whose k t left w = record { past = w.past; loaded = w.loaded; given = w.given }

      go : (p : ℕ) (w : Sweep) → Sweeps s p w → Sweeps (wanted s q b) p w
      go p NoSweep w = tt
      go p (Seats k left) w = left_same p k left w
      go p (Sees k t left) w = (left_same p k left w.0, whose k t left w.1)
      go p (Loads k t x left) w = (
        left_same p k left w.0,
        whose k t left w.1,
        w.2,
        λ e. same k (h.old k t e).1 ∙ w.3 e,
      )
      go p (Gives k t x left) w = (left_same p k left w.0, whose k t left w.1, w.2, w.3)

  -- it asks
  abbrev pub asked_by : State → (q : ℕ) → State
  asked_by s q = record s {
    hold = put s.hold q (Asking (s.time q + 1));
    time = put s.time q (s.time q + 1);
    look = put s.look q Asked;
    since = put s.since q (λ r. r == s.word (s.want q));
  }

  pub asked_keeps : (s : State) → Holds s → (q : ℕ) → s.look q ≡ Chosen → q < seats → Holds (asked_by s q)
  asked_keeps s h q is seat = record {
    named = h.named;
    apart = h.apart;
    inside = h.inside;
    old = λ k t e. elim (either_put s.look q Asked k) [
      | inl x ↦ (
        ap of_hold (sym e ∙ held_now k x.0) ∙ sym (time_now k x.0),
        subst IsWaiting (sym x.1) tt,
      )
      | inr x ↦ (let z = h.old k t (sym (held_then k x.0) ∙ e) in
          (z.0 ∙ sym (time_then k x.0), subst IsWaiting (sym x.1) z.1))
    ];
    asks = λ k w. elim (either_put s.look q Asked k) [
      | inl x ↦ inl (held_now k x.0 ∙ ap Asking (sym (time_now k x.0)))
      | inr x ↦ elim (h.asks k (subst IsWaiting x.1 w)) [
        | inl e ↦ inl (held_then k x.0 ∙ e ∙ ap Asking (sym (time_then k x.0)))
        | inr e ↦ inr (e.0, held_then k x.0 ∙ e.1, good k e.0 x.0 e.2)
      ]
    ];
    loaded = λ k r at e. elim (either_put s.look q Asked k) [
      | inl x ↦ absurd (omega (arith, ap look_kind (sym x.1 ∙ at)))
      | inr x ↦ good k r x.0
          (h.loaded k r (sym x.1 ∙ at) (sym (held_then k x.0) ∙ e ∙ ap Asking (time_then k x.0)))
    ];
    reads = λ k r at. elim (either_put s.look q Asked k) [
      | inl x ↦ absurd (omega (arith, ap look_kind (sym x.1 ∙ at)))
      | inr x ↦ (let z = h.reads k r (sym x.1 ∙ at) in (held_then k x.0 ∙ z.0, good k r x.0 z.1))
    ];
    use_ = λ k w. elim (either_put s.look q Asked k) [
      | inl x ↦
          let here : put s.since q (λ r. r == s.word (s.want q)) k ≡ (λ r. r == s.word (s.want q)) =
          ap (put s.since q (λ r. r == s.word (s.want q))) x.0 ∙ put_same s.since q (λ r. r == s.word (s.want q)) in
          ap (λ (f : ℕ → Bool). f (s.word (s.want k))) here
          ∙ eq-eqb (s.word (s.want k)) (s.word (s.want q)) (ap (λ j. s.word (s.want j)) x.0)
      | inr x ↦ ap (λ (f : ℕ → Bool). f (s.word (s.want k))) (since_then k x.0) ∙ h.use_ k (subst IsWaiting x.1 w)
    ];
    few = λ k a. elim (either_put s.look q Asked k) [
      | inl x ↦ subst (λ j. j < seats) (sym x.0) seat
      | inr x ↦ h.few k (subst IsActive x.1 a)
    ];
    sweeps = λ p. go p (s.sweep p) (h.sweeps p);
  }
    where
      held_now : (k : ℕ) → k ≡ q → put s.hold q (Asking (s.time q + 1)) k ≡ Asking (s.time q + 1)
      held_now k e = ap (put s.hold q (Asking (s.time q + 1))) e ∙ put_same s.hold q (Asking (s.time q + 1))

      held_then : (k : ℕ) → k ≢ q → put s.hold q (Asking (s.time q + 1)) k ≡ s.hold k
      held_then k n = put_other s.hold q (Asking (s.time q + 1)) k n

      time_now : (k : ℕ) → k ≡ q → put s.time q (s.time q + 1) k ≡ s.time q + 1
      time_now k e = ap (put s.time q (s.time q + 1)) e ∙ put_same s.time q (s.time q + 1)

      time_then : (k : ℕ) → k ≢ q → put s.time q (s.time q + 1) k ≡ s.time k
      time_then k n = put_other s.time q (s.time q + 1) k n

      since_then : (k : ℕ) → k ≢ q → put s.since q (λ r. r == s.word (s.want q)) k ≡ s.since k
      since_then k n = put_other s.since q (λ r. r == s.word (s.want q)) k n

      good : (k r : ℕ) → k ≢ q → Good s k r → Good (asked_by s q) k r
      good k r n g = (g.0, ap (λ (f : ℕ → Bool). f r) (since_then k n) ∙ g.1)

      -- no earlier asking stands any more
      later : (k t : ℕ) → k ≡ q → t ≤ s.time k → put s.hold q (Asking (s.time q + 1)) k ≡ Asking t → ⊥
      later k t e o a = omega (arith, ap of_hold (sym (held_now k e) ∙ a), o, ap s.time e)

      left_same : (p k : ℕ) (left : ℕ → Bool) → Left s p k left → Left (asked_by s q) p k left
      left_same p k left l = record {
        own = l.own;
        live = l.live;
        unnamed = l.unnamed;
        unheld = λ j r less t e a. elim (cases_eq j q) [
          | inl x ↦ omega (arith, ap kind (sym (held_now j x) ∙ e))
          | inr x ↦ l.unheld j r less t (sym (held_then j x) ∙ e)
              (subst IsActive (put_other s.look q Asked j x) a)
        ];
        unread = λ j r less t at e. elim (either_put s.look q Asked j) [
          | inl x ↦ omega (arith, ap look_kind (sym x.1 ∙ at))
          | inr x ↦ l.unread j r less t (sym x.1 ∙ at)
              (sym (held_then j x.0) ∙ e ∙ ap Asking (time_then j x.0))
        ];
        ungiven = λ j r p' t v less y at e. elim (cases_eq j q) [
          | inl x ↦ later j t x (given_past s h p' j t r v at) e
          | inr x ↦ l.ungiven j r p' t v less y at (sym (held_then j x) ∙ e)
        ];
      }

      whose : (k t : ℕ) (left : ℕ → Bool) → Whose s k t left → Whose (asked_by s q) k t left
      whose k t left w = record {
        past = elim (cases_eq k q) [
          | inl x ↦ (let n = time_now k x in let o = ap s.time x in omega (arith, w.past, n, o))
          | inr x ↦ (let n = time_then k x in omega (arith, w.past, n))
        ];
        loaded = λ r y at e. elim (either_put s.look q Asked k) [
          | inl x ↦ absurd (omega (arith, ap look_kind (sym x.1 ∙ at)))
          | inr x ↦ time_then k x.0 ∙ w.loaded r y (sym x.1 ∙ at)
              (sym (held_then k x.0) ∙ e ∙ ap Asking (time_then k x.0))
        ];
        given = λ r p' t' v y at e. elim (cases_eq k q) [
          | inl x ↦ absurd (later k t' x (given_past s h p' k t' r v at) e)
          | inr x ↦ w.given r p' t' v y at (sym (held_then k x) ∙ e)
        ];
      }

      go : (p : ℕ) (w : Sweep) → Sweeps s p w → Sweeps (asked_by s q) p w
      go p NoSweep w = tt
      go p (Seats k left) w = left_same p k left w
      go p (Sees k t left) w = (left_same p k left w.0, whose k t left w.1)
      go p (Loads k t x left) w = (
        left_same p k left w.0,
        whose k t left w.1,
        w.2,
        λ e. elim (cases_eq k q) [
          | inl y ↦ absurd (later k t y w.1.past e)
          | inr y ↦ w.3 (sym (held_then k y) ∙ e)
        ],
      )
      go p (Gives k t x left) w = (
        left_same p k left w.0,
        whose k t left w.1,
        w.2,
        λ e. elim (cases_eq k q) [
          | inl y ↦ absurd (later k t y w.1.past e)
          | inr y ↦ good k x y (w.3 (sym (held_then k y) ∙ e))
        ],
      )

  -- it takes hold of the row whose number it has loaded, where it still asks
  abbrev pub taken : State → (q r : ℕ) → State
  taken s q r = record s { hold = put s.hold q (Holding r); look = put s.look q (Reads r) }

  pub taken_keeps : (s : State) → Holds s → (q r : ℕ) → s.look q ≡ Loaded r → s.hold q ≡ Asking (s.time q) →
      Holds (taken s q r)
  taken_keeps s h q r is asks = record {
    named = h.named;
    apart = h.apart;
    inside = h.inside;
    old = λ k t e. elim (either_put s.look q (Reads r) k) [
      | inl x ↦ absurd (omega (arith, ap kind (sym (now k x.0) ∙ e)))
      | inr x ↦ (let z = h.old k t (sym (other k x.0) ∙ e) in (z.0, subst IsWaiting (sym x.1) z.1))
    ];
    asks = λ k w. elim (either_put s.look q (Reads r) k) [
      | inl x ↦ absurd (subst IsWaiting x.1 w)
      | inr x ↦ elim (h.asks k (subst IsWaiting x.1 w)) [
        | inl e ↦ inl (other k x.0 ∙ e)
        | inr e ↦ inr (e.0, other k x.0 ∙ e.1, e.2)
      ]
    ];
    loaded = λ k x at e. elim (either_put s.look q (Reads r) k) [
      | inl z ↦ absurd (omega (arith, ap look_kind (sym z.1 ∙ at)))
      | inr z ↦ h.loaded k x (sym z.1 ∙ at) (sym (other k z.0) ∙ e)
    ];
    reads = λ k x at. elim (either_put s.look q (Reads r) k) [
      | inl z ↦
          let same : r ≡ x = ap of_look (sym z.1 ∙ at) in (
            now k z.0 ∙ ap Holding same,
            subst (λ j. Good s j x) (sym z.0) (subst (Good s q) same (h.loaded q r is asks)),
          )
      | inr z ↦ (let y = h.reads k x (sym z.1 ∙ at) in (other k z.0 ∙ y.0, y.1))
    ];
    use_ = λ k w. elim (either_put s.look q (Reads r) k) [
      | inl x ↦ absurd (subst IsWaiting x.1 w)
      | inr x ↦ h.use_ k (subst IsWaiting x.1 w)
    ];
    few = λ k a. elim (either_put s.look q (Reads r) k) [
      | inl x ↦ subst (λ j. j < seats) (sym x.0) (h.few q (subst IsActive (sym is) tt))
      | inr x ↦ h.few k (subst IsActive x.1 a)
    ];
    sweeps = λ p. go p (s.sweep p) (h.sweeps p);
  }
    where
      now : (k : ℕ) → k ≡ q → put s.hold q (Holding r) k ≡ Holding r
      now k e = ap (put s.hold q (Holding r)) e ∙ put_same s.hold q (Holding r)

      other : (k : ℕ) → k ≢ q → put s.hold q (Holding r) k ≡ s.hold k
      other k n = put_other s.hold q (Holding r) k n

      -- whoever asks now asked before
      before : (k t : ℕ) → put s.hold q (Holding r) k ≡ Asking t → (k ≢ q) × (s.hold k ≡ Asking t)
      before k t e = elim (either_put s.hold q (Holding r) k) [
        | inl x ↦ absurd (omega (arith, ap kind (sym x.1 ∙ e)))
        | inr x ↦ (x.0, sym x.1 ∙ e)
      ]

      left_same : (p k : ℕ) (left : ℕ → Bool) → Left s p k left → Left (taken s q r) p k left
      left_same p k left l = record {
        own = l.own;
        live = l.live;
        unnamed = l.unnamed;
        unheld = λ j x less t e a. elim (either_put s.hold q (Holding r) j) [
          | inl z ↦
              let same : r ≡ x = ap of_hold (sym z.1 ∙ e) in
              l.unread q x (subst (λ i. i < k) z.0 less) t (is ∙ ap Loaded same) asks
          | inr z ↦ l.unheld j x less t (sym z.1 ∙ e) (subst IsActive (put_other s.look q (Reads r) j z.0) a)
        ];
        unread = λ j x less t at e.
            let z = before j (s.time j) e in
            l.unread j x less t (sym (put_other s.look q (Reads r) j z.0) ∙ at) z.1;
        ungiven = λ j x p' t v less y at e. l.ungiven j x p' t v less y at (before j t e).1;
      }

      whose : (k t : ℕ) (left : ℕ → Bool) → Whose s k t left → Whose (taken s q r) k t left
      whose k t left w = record {
        past = w.past;
        loaded = λ x y at e.
            let z = before k (s.time k) e in w.loaded x y (sym (put_other s.look q (Reads r) k z.0) ∙ at) z.1;
        given = λ x p' t' v y at e. w.given x p' t' v y at (before k t' e).1;
      }

      go : (p : ℕ) (w : Sweep) → Sweeps s p w → Sweeps (taken s q r) p w
      go p NoSweep w = tt
      go p (Seats k left) w = left_same p k left w
      go p (Sees k t left) w = (left_same p k left w.0, whose k t left w.1)
      go p (Loads k t x left) w = (left_same p k left w.0, whose k t left w.1, w.2, λ e. w.3 (before k t e).1)
      go p (Gives k t x left) w = (left_same p k left w.0, whose k t left w.1, w.2, λ e. w.3 (before k t e).1)

  -- it gives the hold back, after it has read
  abbrev pub returned : State → (q : ℕ) → State
  returned s q = record s { hold = put s.hold q Nothing }

  pub returned_keeps : (s : State) → Holds s → (q : ℕ) → s.look q ≡ NoLook → Holds (returned s q)
  returned_keeps s h q is = record {
    named = h.named;
    apart = h.apart;
    inside = h.inside;
    old = λ k t e. h.old k t (before k t e).1;
    asks = λ k w.
        let n = not_it k w in
        elim (h.asks k w) [ inl e ↦ inl (other k n ∙ e) | inr e ↦ inr (e.0, other k n ∙ e.1, e.2) ];
    loaded = λ k r at e. h.loaded k r at (before k (s.time k) e).1;
    reads = λ k r at.
        let n : k ≢ q = (λ e. omega (arith, ap look_kind (sym at ∙ ap s.look e ∙ is))) in
        let z = h.reads k r at in
        (other k n ∙ z.0, z.1);
    use_ = h.use_;
    few = h.few;
    sweeps = λ p. go p (s.sweep p) (h.sweeps p);
  }
    where
      other : (k : ℕ) → k ≢ q → put s.hold q Nothing k ≡ s.hold k
      other k n = put_other s.hold q Nothing k n

      -- who waits is another
      not_it : (k : ℕ) → IsWaiting (s.look k) → k ≢ q
      not_it k w e = subst IsWaiting (ap s.look e ∙ is) w

      -- whoever asks now asked before, and whoever holds a row held it
      before : (k t : ℕ) → put s.hold q Nothing k ≡ Asking t → (k ≢ q) × (s.hold k ≡ Asking t)
      before k t e = elim (either_put s.hold q Nothing k) [
        | inl x ↦ absurd (omega (arith, ap kind (sym x.1 ∙ e)))
        | inr x ↦ (x.0, sym x.1 ∙ e)
      ]

      held : (k r : ℕ) → put s.hold q Nothing k ≡ Holding r → s.hold k ≡ Holding r
      held k r e = elim (either_put s.hold q Nothing k) [
        | inl x ↦ absurd (omega (arith, ap kind (sym x.1 ∙ e)))
        | inr x ↦ sym x.1 ∙ e
      ]

      left_same : (p k : ℕ) (left : ℕ → Bool) → Left s p k left → Left (returned s q) p k left
      left_same p k left l = record {
        own = l.own;
        live = l.live;
        unnamed = l.unnamed;
        unheld = λ j r less t e a. l.unheld j r less t (held j r e) a;
        unread = λ j r less t at e. l.unread j r less t at (before j (s.time j) e).1;
        ungiven = λ j r p' t v less y at e. l.ungiven j r p' t v less y at (before j t e).1;
      }

      whose : (k t : ℕ) (left : ℕ → Bool) → Whose s k t left → Whose (returned s q) k t left
      whose k t left w = record {
        past = w.past;
        loaded = λ r y at e. w.loaded r y at (before k (s.time k) e).1;
        given = λ r p' t' v y at e. w.given r p' t' v y at (before k t' e).1;
      }

      go : (p : ℕ) (w : Sweep) → Sweeps s p w → Sweeps (returned s q) p w
      go p NoSweep w = tt
      go p (Seats k left) w = left_same p k left w
      go p (Sees k t left) w = (left_same p k left w.0, whose k t left w.1)
      go p (Loads k t x left) w = (left_same p k left w.0, whose k t left w.1, w.2, λ e. w.3 (before k t e).1)
      go p (Gives k t x left) w = (left_same p k left w.0, whose k t left w.1, w.2, λ e. w.3 (before k t e).1)
