-- Places of rows, versions and calls, as events give them: what an event that publishes keeps, what a lookup that
-- finds a directory row and then loads its bucket word keeps, and what every other event keeps.
use Rattle.std.proofs.Common.{◌≡◌, ℕ, zero, suc, ◌+◌, ◌*◌, ◌<◌, ◌≤◌, ◌⊎◌, Bool, true, false, cond, Option, Some, None, true≢false, refl, inl, inr, sym, ap, ◌∙◌, subst, arith, eqb, leb, le-leb, eqb-true, eq-eqb}
use Rattle.std.specs.Prelude.{◌-◌, ◌&&◌}
use Rattle.std.proofs.lemmas.Bool.{cases_lt, cond_both, cond-true, cond-false, cases_Bool, and_parts, and_from, leb-true}

-- the shape of a history: versions 0 to dir_top; buckets, by which version each is named first, from which bucket it
-- comes, and its rows 0 to top
pub record Frame : Type 0 where
  pub dir_top : ℕ
  pub named : ℕ → Bool
  pub born : ℕ → ℕ
  pub from : ℕ → ℕ
  pub top : ℕ → ℕ

-- the places: of rows, of versions, and of the calls that have one. The time is the number of events, from 1
pub record Clock : Type 0 where
  pub time : ℕ
  pub row : ℕ → ℕ → ℕ
  pub dir : ℕ → ℕ
  pub call : ℕ → ℕ → Option ℕ

-- which calls a call has to stand after; which lookups loaded which row; which lookups have found a directory row,
-- and no more; whose number is new in which row
pub record Lists : Type 1 where
  pub After : ℕ → ℕ → ℕ → ℕ → Type 0
  pub Looked : ℕ → ℕ → ℕ → ℕ → Type 0
  pub Waits : ℕ → ℕ → ℕ → Type 0
  -- whose number is new in a row, or, at a bucket's first row, in the version that named it
  pub InRow : ℕ → ℕ → ℕ → ℕ → Type 0

-- the call of this seat has this place
abbrev pub Placed : Clock → ℕ → ℕ → ℕ → Type 0
Placed t bound s n = (y : ℕ) × (t.call s n ≡ Some y) × (y < bound)

-- the place of a lookup of a row, between those of rows
pub record Between (f : Frame) (t : Clock) (b i x : ℕ) : Type 0 where
  pub named : f.named b ≡ true
  pub inside : i ≤ f.top b
  pub after : t.row b i < x
  pub before : i < f.top b → x < t.row b (i + 1)
  pub before_change : (c : ℕ) → f.named c ≡ true → 1 ≤ f.born c → f.from c ≡ b → x < t.dir (f.born c)

-- places rise along the rows, each lookup lies between its row and the next, and what a call had seen lies before it
pub record Ticks (f : Frame) (l : Lists) (t : Clock) : Type 0 where
  pub begun : 1 ≤ t.time
  pub rows_past : (b i : ℕ) → f.named b ≡ true → i ≤ f.top b → t.row b i < 2 * t.time
  pub dirs_past : (v : ℕ) → v ≤ f.dir_top → t.dir v < 2 * t.time
  pub rows_rise : (b i : ℕ) → f.named b ≡ true → i < f.top b → t.row b i < t.row b (i + 1)
  pub dirs_rise : (v : ℕ) → v < f.dir_top → t.dir v < t.dir (v + 1)
  pub born_within : (b : ℕ) → f.named b ≡ true → f.born b ≤ f.dir_top
  pub born_is : (b : ℕ) → f.named b ≡ true → t.row b 0 ≡ t.dir (f.born b)
  pub from_named : (b : ℕ) → f.named b ≡ true → 1 ≤ f.born b → f.named (f.from b) ≡ true
  pub retires : (b : ℕ) → f.named b ≡ true → 1 ≤ f.born b → t.row (f.from b) (f.top (f.from b)) + 1 < t.dir (f.born b)
  pub calls_past : (q m x : ℕ) → t.call q m ≡ Some x → x < 2 * t.time
  pub after : (q m x s n : ℕ) → t.call q m ≡ Some x → l.After q m s n → Placed t x s n
  pub looked : (q m b i : ℕ) → l.Looked q m b i → (x : ℕ) × (t.call q m ≡ Some x) × Between f t b i x
  pub placed : (b i q m : ℕ) → l.InRow b i q m → (f.named b ≡ true) × (i ≤ f.top b) × (t.call q m ≡ Some (t.row b i))
  pub source : (q m y : ℕ) → t.call q m ≡ Some y →
      ((b : ℕ) × (i : ℕ) × l.InRow b i q m) ⊎ ((b : ℕ) × (i : ℕ) × l.Looked q m b i)
  pub heard : (q m d s n : ℕ) → l.Waits q m d → l.After q m s n → (y : ℕ) × (t.call s n ≡ Some y)
  pub waits : (q m d s n : ℕ) → l.Waits q m d → d < f.dir_top → l.After q m s n →
      (y : ℕ) × (t.call s n ≡ Some y) × (y + 1 < t.dir (d + 1))

-- places rise along more than one version
pub dirs_up : (f : Frame) (l : Lists) (t : Clock) → Ticks f l t → (u k : ℕ) → u + k ≤ f.dir_top →
    t.dir u ≤ t.dir (u + k)
dirs_up f l t h u zero o = (let same : u ≡ u + zero = omega arith in omega (arith, ap t.dir same))
dirs_up f l t h u (suc k) o =
    let rest = dirs_up f l t h u k (omega (arith, o)) in
    let up = h.dirs_rise (u + k) (omega (arith, o)) in
    let same : u + k + 1 ≡ u + suc k = omega arith in
    omega (arith, rest, up, ap t.dir same)

-- ---- an event that gives no place: calls may begin, and see others, before they have a place; a lookup finds a
-- directory row
pub record Quiet (f : Frame) (l m : Lists) (t : Clock) : Type 0 where
  pub after : (q i x s n : ℕ) → t.call q i ≡ Some x → m.After q i s n → l.After q i s n
  pub looked : (q i b j : ℕ) → m.Looked q i b j → l.Looked q i b j
  pub looked_up : (q i b j : ℕ) → l.Looked q i b j → m.Looked q i b j
  pub in_row : (b j q i : ℕ) → m.InRow b j q i → l.InRow b j q i
  pub in_row_up : (b j q i : ℕ) → l.InRow b j q i → m.InRow b j q i
  -- one that waits did so before, and has seen no more since; or it found the last directory row, and what it has
  -- seen has a place
  pub waits : (q i d : ℕ) → m.Waits q i d → (l.Waits q i d × ((s n : ℕ) → m.After q i s n → l.After q i s n))
      ⊎ ((d ≡ f.dir_top) × ((s n : ℕ) → m.After q i s n → (y : ℕ) × (t.call s n ≡ Some y)))

-- the clock at the next instant
abbrev pub ticked : Clock → Clock
ticked t = record { time = t.time + 1; row = t.row; dir = t.dir; call = t.call }

-- so the places stay right
pub quiet_ticks : (f : Frame) (l m : Lists) (t : Clock) → Quiet f l m t → Ticks f l t → Ticks f m (ticked t)
quiet_ticks f l m t q h = record {
  begun = omega arith;
  rows_past = λ b i n o. omega (arith, h.rows_past b i n o);
  dirs_past = λ v o. omega (arith, h.dirs_past v o);
  rows_rise = h.rows_rise;
  dirs_rise = h.dirs_rise;
  born_within = h.born_within;
  born_is = h.born_is;
  from_named = h.from_named;
  retires = h.retires;
  calls_past = λ p i x e. omega (arith, h.calls_past p i x e);
  after = λ p i x s n e a. h.after p i x s n e (q.after p i x s n e a);
  looked = λ p i b j a. let r = h.looked p i b j (q.looked p i b j a) in (
    r.0,
    r.1,
    record {
      named = r.2.named;
      inside = r.2.inside;
      after = r.2.after;
      before = r.2.before;
      before_change = r.2.before_change;
    },
  );
  placed = λ b j p i a. h.placed b j p i (q.in_row b j p i a);
  source = λ p i y e. elim (h.source p i y e) [
    | inl r ↦ inl (r.0, r.1, q.in_row_up r.0 r.1 p i r.2)
    | inr r ↦ inr
        (r.0, r.1, q.looked_up p i r.0 r.1 r.2)
  ];
  heard = λ p i d s n w a. elim (q.waits p i d w) [ inl o ↦ h.heard p i d s n o.0 (o.1 s n a) | inr e ↦ e.1 s n a ];
  waits = λ p i d s n w less a. elim (q.waits p i d w) [
    | inl o ↦ h.waits p i d s n o.0 less
        (o.1 s n a)
    | inr e ↦ absurd (omega (arith, less, e.0))
  ];
}

-- ---- a lookup loads its bucket word: the bucket is in use, or a version retired it
abbrev pub called : (ℕ → ℕ → Option ℕ) → ℕ → ℕ → ℕ → ℕ → ℕ → Option ℕ
called call q m x p i = cond (eqb p q && eqb i m) (Some x) (call p i)

-- a lookup loads the current row of its key
pub record Loads (f : Frame) (l m : Lists) (t : Clock) (q i b : ℕ) : Type 0 where
  pub named : f.named b ≡ true
  pub new : t.call q i ≡ None
  -- where a version retired the bucket, the lookup found a directory row before that one
  pub found : ℕ
  pub waited : l.Waits q i found
  pub state : ((c : ℕ) → f.named c ≡ true → 1 ≤ f.born c → f.from c ≡ b → ⊥)
      ⊎ ((c : ℕ) × (f.named c ≡ true) × (1 ≤ f.born c) × (f.from c ≡ b) × (found < f.born c)
      × ((e : ℕ) → f.named e ≡ true → 1 ≤ f.born e → f.from e ≡ b → f.born e ≡ f.born c))
  pub after : (p j s n : ℕ) → m.After p j s n → l.After p j s n
  pub looked : (p j a e : ℕ) → m.Looked p j a e → l.Looked p j a e ⊎ ((p ≡ q) × (j ≡ i) × (a ≡ b) × (e ≡ f.top b))
  pub looked_up : (p j a e : ℕ) → l.Looked p j a e → m.Looked p j a e
  pub looked_it : m.Looked q i b (f.top b)
  pub in_row : (a e p j : ℕ) → m.InRow a e p j → l.InRow a e p j
  pub in_row_up : (a e p j : ℕ) → l.InRow a e p j → m.InRow a e p j
  pub waits : (p j d : ℕ) → m.Waits p j d → l.Waits p j d

-- the calls that have a place keep it
pub called_keeps : (call : ℕ → ℕ → Option ℕ) (q m x p i y : ℕ) → call q m ≡ None → call p i ≡ Some y →
    called call q m x p i ≡ Some y
called_keeps call q m x p i y none e = cond_both (eqb p q && eqb i m) (Some x) (call p i) (λ o. o ≡ Some y)
    (λ b. let parts = and_parts (eqb p q) (eqb i m) b in
    let both : Some y ≡ None = sym e ∙ ap (λ z. call z i) (eqb-true p q parts.0)
    ∙ ap (call q) (eqb-true i m parts.1) ∙ none in cc)
    (λ b. e)

-- a place in the new list is the new one or an old one
called_cases : (call : ℕ → ℕ → Option ℕ) (q m x p i y : ℕ) → called call q m x p i ≡ Some y →
    (call p i ≡ Some y) ⊎ ((p ≡ q) × (i ≡ m) × (y ≡ x))
called_cases call q m x p i y = cond_both (eqb p q && eqb i m) (Some x) (call p i)
    (λ o. o ≡ Some y → (call p i ≡ Some y) ⊎ ((p ≡ q) × (i ≡ m) × (y ≡ x)))
    (λ b e. let parts = and_parts (eqb p q) (eqb i m) b in let is : x ≡ y = cc in
    inr (eqb-true p q parts.0, eqb-true i m parts.1, sym is))
    (λ b e. inl e)

-- the new place is that of the call
pub called_it : (call : ℕ → ℕ → Option ℕ) (q m x : ℕ) → called call q m x q m ≡ Some x
called_it call q m x = cond-true (eqb q q && eqb m m) (Some x) (call q m)
    (and_from (eqb q q) (eqb m m) (eq-eqb q q refl) (eq-eqb m m refl))

-- the clock with the call's place
abbrev pub with_call : Clock → ℕ → ℕ → ℕ → Clock
with_call t q i x = record { time = t.time + 1; row = t.row; dir = t.dir; call = called t.call q i x }

-- a place that lies between, below all that comes, and above all that was seen
called_ticks : (f : Frame) (l m : Lists) (t : Clock) (q i b x : ℕ) → Loads f l m t q i b → Ticks f l t →
    x < 2 * (t.time + 1) → Between f t b (f.top b) x → ((s n : ℕ) → l.After q i s n → Placed t x s n) →
    Ticks f m (with_call t q i x)
called_ticks f l m t q i b x a h past between above = record {
  begun = omega arith;
  rows_past = λ c j n o. omega (arith, h.rows_past c j n o);
  dirs_past = λ v o. omega (arith, h.dirs_past v o);
  rows_rise = h.rows_rise;
  dirs_rise = h.dirs_rise;
  born_within = h.born_within;
  born_is = h.born_is;
  from_named = h.from_named;
  retires = h.retires;
  calls_past = λ p j y e. elim (called_cases t.call q i x p j y e)
      [ inl o ↦ omega (arith, h.calls_past p j y o) | inr o ↦ omega (arith, o.2, past) ];
  after = λ p j y s n e w. elim (called_cases t.call q i x p j y e) [
    | inl o ↦ let r = h.after p j y s n o (a.after p j s n w) in (r.0, called_keeps t.call q i x s n r.0 a.new r.1, r.2)
    | inr o ↦
        let r = above s n (subst (λ z. l.After z i s n) o.0 (subst (λ z. l.After p z s n) o.1 (a.after p j s n w))) in
        (r.0, called_keeps t.call q i x s n r.0 a.new r.1, omega (arith, r.2, o.2))
  ];
  looked = λ p j c e w. elim (a.looked p j c e w) [
    | inl o ↦ let r = h.looked p j c e o in (
      r.0,
      called_keeps t.call q i x p j r.0 a.new r.1,
      record {
        named = r.2.named;
        inside = r.2.inside;
        after = r.2.after;
        before = r.2.before;
        before_change = r.2.before_change;
      },
    )
    | inr o ↦
        let here : Between f (with_call t q i x) b (f.top b) x =
        record {
          named = between.named;
          inside = between.inside;
          after = between.after;
          before = between.before;
          before_change = between.before_change;
        } in (
          x,
          ap (λ z. called t.call q i x z j) o.0 ∙ ap (called t.call q i x q) o.1 ∙ called_it t.call q i x,
          subst (λ z. Between f (with_call t q i x) z e x) (sym o.2)
              (subst (λ z. Between f (with_call t q i x) b z x) (sym o.3) here),
        )
  ];
  placed = λ c e p j w. let r = h.placed c e p j (a.in_row c e p j w) in
      (r.0, r.1, called_keeps t.call q i x p j (t.row c e) a.new r.2);
  source = λ p j y e. elim (called_cases t.call q i x p j y e) [
    | inl o ↦ elim (h.source p j y o) [
      | inl r ↦ inl (r.0, r.1, a.in_row_up r.0 r.1 p j r.2)
      | inr r ↦ inr
          (r.0, r.1, a.looked_up p j r.0 r.1 r.2)
    ]
    | inr o ↦ inr (
      b,
      f.top b,
      subst (λ z. m.Looked z j b (f.top b)) (sym o.0)
          (subst (λ z. m.Looked q z b (f.top b)) (sym o.1) a.looked_it),
    )
  ];
  heard = λ p j d s n w v. let r = h.heard p j d s n (a.waits p j d w) (a.after p j s n v) in
      (r.0, called_keeps t.call q i x s n r.0 a.new r.1);
  waits = λ p j d s n w less v. let r = h.waits p j d s n (a.waits p j d w) less (a.after p j s n v) in
      (r.0, called_keeps t.call q i x s n r.0 a.new r.1, r.2);
}

-- so the places stay right
pub loads_ticks : (f : Frame) (l m : Lists) (t : Clock) (q i b : ℕ) → Loads f l m t q i b → Ticks f l t →
    (x : ℕ) × Ticks f m (with_call t q i x)
loads_ticks f l m t q i b a h = elim a.state [
  | inl none ↦ (
    2 * t.time + 1,
    called_ticks f l m t q i b (2 * t.time + 1) a h (omega arith)
        (record {
          named = a.named;
          inside = omega arith;
          after = omega (arith, h.rows_past b (f.top b) a.named (omega arith));
          before = λ o. absurd (omega (arith, o));
          before_change = λ c n o e. absurd (none c n o e);
        })
        (λ s n w. let r = h.heard q i a.found s n a.waited w in (r.0, r.1, omega (arith, h.calls_past s n r.0 r.1))),
  )
  | inr r ↦
      let c = r.0 in
      let x = t.dir (f.born c) - 1 in
      let inside = h.born_within c r.1 in
      let low : t.row b (f.top b) + 1 < t.dir (f.born c) =
      subst (λ z. t.row z (f.top z) + 1 < t.dir (f.born c)) r.3 (h.retires c r.1 r.2) in
      let past = h.dirs_past (f.born c) inside in (
        x,
        called_ticks f l m t q i b x a h (omega (arith, past))
            (record {
              named = a.named;
              inside = omega arith;
              after = omega (arith, low);
              before = λ o. absurd (omega (arith, o));
              before_change = λ e n o g. omega (arith, low, ap t.dir (r.5 e n o g));
            })
            (λ s n w.
            let y = h.waits q i a.found s n a.waited (omega (arith, r.4, inside)) w in
            let same : a.found + 1 + (f.born c - (a.found + 1)) ≡ f.born c = omega (arith, r.4) in
            let up = dirs_up f l t h (a.found + 1) (f.born c - (a.found + 1)) (omega (arith, same, inside)) in
            (y.0, y.1, omega (arith, y.2, up, ap t.dir same, low))),
      )
]

-- ---- an exchange that happens: a row of a bucket, or a version with new leaves; and some calls have their place by it

-- rows are published: of each bucket one more at most, or a version with new buckets
pub record Publishes (f g : Frame) (l m : Lists) (t : Clock) (New : ℕ → ℕ → Type 0)
    (is_new : ℕ → ℕ → Bool) : Type 0 where
  pub dir_up : f.dir_top ≤ g.dir_top
  pub dir_one : g.dir_top ≤ f.dir_top + 1
  pub named_up : (b : ℕ) → f.named b ≡ true → g.named b ≡ true
  pub top_up : (b : ℕ) → f.named b ≡ true → f.top b ≤ g.top b
  pub top_one : (b : ℕ) → f.named b ≡ true → g.top b ≤ f.top b + 1
  pub born_same : (b : ℕ) → f.named b ≡ true → (g.born b ≡ f.born b) × (g.from b ≡ f.from b)
  -- a new bucket: its one row, born by the new version, from a bucket that there was
  pub newborn : (b : ℕ) → g.named b ≡ true → f.named b ≡ false →
      (g.top b ≡ 0) × (g.born b ≡ f.dir_top + 1) × (g.dir_top ≡ f.dir_top + 1) × (f.named (g.from b) ≡ true)
  -- a bucket from which another comes has no further rows
  pub frozen : (b : ℕ) → g.named b ≡ true → 1 ≤ g.born b → g.top (g.from b) ≡ f.top (g.from b)
  -- the calls whose place this is: they had none, and all that they are to stand after have one
  pub which : (q i : ℕ) → is_new q i ≡ true → New q i
  pub without : (q i : ℕ) → New q i → t.call q i ≡ None
  pub ready : (q i s n : ℕ) → New q i → l.After q i s n → (y : ℕ) × (t.call s n ≡ Some y)
  pub after : (q i s n : ℕ) → m.After q i s n → l.After q i s n
  pub looked : (q i b j : ℕ) → m.Looked q i b j → l.Looked q i b j
  pub looked_up : (q i b j : ℕ) → l.Looked q i b j → m.Looked q i b j
  pub in_row : (b j q i : ℕ) → m.InRow b j q i →
      l.InRow b j q i ⊎ ((is_new q i ≡ true) × (g.named b ≡ true) × (j ≤ g.top b)
      × ((f.named b ≡ false) ⊎ (f.top b < j)))
  pub in_row_up : (b j q i : ℕ) → l.InRow b j q i → m.InRow b j q i
  pub new_in : (q i : ℕ) → is_new q i ≡ true → (b : ℕ) × (j : ℕ) × m.InRow b j q i
  pub waits : (q i d : ℕ) → m.Waits q i d → l.Waits q i d

-- the clock with the places of the new rows and of the calls that are new in them
abbrev pub published : Frame → Clock → (ℕ → ℕ → Bool) → Clock
published f t is_new = record {
  time = t.time + 1;
  row = λ b i. cond (f.named b && leb i (f.top b)) (t.row b i) (2 * t.time + 1);
  dir = λ v. cond (leb v (f.dir_top)) (t.dir v) (2 * t.time + 1);
  call = λ q i. cond (is_new q i) (Some (2 * t.time + 1)) (t.call q i);
}

module _ (f g : Frame) (l m : Lists) (t : Clock) (New : ℕ → ℕ → Type 0) (is_new : ℕ → ℕ → Bool)
    (p : Publishes f g l m t New is_new) (h : Ticks f l t) where
  -- the clock afterwards
  abbrev then : Clock
  then = published f t is_new

  -- an old row keeps its place
  old_row : (b i : ℕ) → f.named b ≡ true → i ≤ f.top b → then.row b i ≡ t.row b i
  old_row b i n o = cond-true (f.named b && leb i (f.top b)) (t.row b i) (2 * t.time + 1)
      (and_from (f.named b) (leb i (f.top b)) n (le-leb i (f.top b) o))

  -- the next row of a bucket has this instant
  later_row : (b i : ℕ) → f.top b < i → then.row b i ≡ 2 * t.time + 1
  later_row b i o = cond_both (f.named b && leb i (f.top b)) (t.row b i) (2 * t.time + 1) (λ x. x ≡ 2 * t.time + 1)
      (λ e. absurd (omega (arith, o, leb-true i (f.top b) (and_parts (f.named b) (leb i (f.top b)) e).1))) (λ e. refl)

  -- and so has a row of a new bucket
  born_row : (b i : ℕ) → f.named b ≡ false → then.row b i ≡ 2 * t.time + 1
  born_row b i n = cond_both (f.named b && leb i (f.top b)) (t.row b i) (2 * t.time + 1) (λ x. x ≡ 2 * t.time + 1)
      (λ e. absurd (true≢false (sym (and_parts (f.named b) (leb i (f.top b)) e).0 ∙ n))) (λ e. refl)

  -- an old version keeps its place
  old_dir : (v : ℕ) → v ≤ f.dir_top → then.dir v ≡ t.dir v
  old_dir v o = cond-true (leb v f.dir_top) (t.dir v) (2 * t.time + 1) (le-leb v f.dir_top o)

  -- the new version has this instant
  new_dir : (v : ℕ) → f.dir_top < v → then.dir v ≡ 2 * t.time + 1
  new_dir v o = cond_both (leb v f.dir_top) (t.dir v) (2 * t.time + 1) (λ x. x ≡ 2 * t.time + 1)
      (λ e. absurd (omega (arith, o, leb-true v f.dir_top e))) (λ e. refl)

  -- a call keeps its place
  call_keeps : (q i y : ℕ) → t.call q i ≡ Some y → then.call q i ≡ Some y
  call_keeps q i y e = cond_both (is_new q i) (Some (2 * t.time + 1)) (t.call q i) (λ o. o ≡ Some y)
      (λ b. let both : Some y ≡ None = sym e ∙ p.without q i (p.which q i b) in cc) (λ b. e)

  -- a place afterwards is an old one, or that of a number that is new
  call_cases : (q i y : ℕ) → then.call q i ≡ Some y → (t.call q i ≡ Some y) ⊎ (New q i × (y ≡ 2 * t.time + 1))
  call_cases q i y = cond_both (is_new q i) (Some (2 * t.time + 1)) (t.call q i)
      (λ o. o ≡ Some y → (t.call q i ≡ Some y) ⊎ (New q i × (y ≡ 2 * t.time + 1)))
      (λ b e. let is : 2 * t.time + 1 ≡ y = cc in inr (p.which q i b, sym is)) (λ b e. inl e)

  -- no row lies later
  row_most : (b i : ℕ) → f.named b ≡ true → i ≤ g.top b → then.row b i ≤ 2 * t.time + 1
  row_most b i n o = elim (cases_lt (f.top b) i) [
    | inl l ↦ omega (arith, later_row b i l)
    | inr l ↦ omega (arith, old_row b i n l, h.rows_past b i n l)
  ]

  -- what lay between two rows still does
  still_between : (b i x : ℕ) → x < 2 * t.time → Between f t b i x → Between g then b i x
  still_between b i x past r = record {
    named = p.named_up b r.named;
    inside = omega (arith, r.inside, p.top_up b r.named);
    after = omega (arith, r.after, old_row b i r.named r.inside);
    before = λ o. elim (cases_lt i (f.top b)) [
      | inl l ↦ omega (arith, r.before l, old_row b (i + 1) r.named (omega (arith, l)))
      | inr l ↦ omega (arith, past, later_row b (i + 1) (omega (arith, l)))
    ];
    before_change = λ c n o e. elim (cases_Bool (f.named c)) [
      | inl w ↦ let same = p.born_same c w in
          omega (
            arith,
            r.before_change c w (omega (arith, o, same.0)) (sym same.1 ∙ e),
            old_dir (f.born c) (h.born_within c w),
            ap then.dir same.0,
          )
      | inr w ↦ let new = p.newborn c n w in omega (arith, past, new_dir (g.born c) (omega (arith, new.1)))
    ];
  }

  -- so the places stay right
  pub publishes_ticks : Ticks g m then
  publishes_ticks = record {
    begun = omega arith;
    rows_past = λ b i n o. elim (cases_Bool (f.named b)) [
      | inl w ↦ omega (arith, row_most b i w o)
      | inr w ↦ omega (arith, born_row b i w)
    ];
    dirs_past = λ v o. elim (cases_lt f.dir_top v) [
      | inl w ↦ omega (arith, new_dir v w)
      | inr w ↦ omega (arith, old_dir v w, h.dirs_past v w)
    ];
    rows_rise = λ b i n o. elim (cases_Bool (f.named b)) [
      | inr w ↦ absurd (omega (arith, o, (p.newborn b n w).0))
      | inl w ↦ elim (cases_lt i (f.top b)) [
        | inl x ↦ omega (
          arith,
          h.rows_rise b i w x,
          old_row b i w (omega (arith, x)),
          old_row b (i + 1) w (omega (arith, x)),
        )
        | inr x ↦ let last : i ≡ f.top b = omega (arith, x, o, p.top_one b w) in
            omega (
              arith,
              old_row b i w (omega (arith, last)),
              h.rows_past b i w (omega (arith, last)),
              later_row b (i + 1) (omega (arith, last)),
            )
      ]
    ];
    dirs_rise = λ v o. elim (cases_lt v f.dir_top) [
      | inl x ↦ omega (arith, h.dirs_rise v x, old_dir v (omega (arith, x)), old_dir (v + 1) (omega (arith, x)))
      | inr x ↦ let last : v ≡ f.dir_top = omega (arith, x, o, p.dir_one) in
          omega (
            arith,
            old_dir v (omega (arith, last)),
            h.dirs_past v (omega (arith, last)),
            new_dir (v + 1) (omega (arith, last)),
          )
    ];
    born_within = λ b n. elim (cases_Bool (f.named b)) [
      | inl w ↦ omega (arith, h.born_within b w, (p.born_same b w).0, p.dir_up)
      | inr w ↦ let new = p.newborn b n w in omega (arith, new.1, new.2)
    ];
    born_is = λ b n. elim (cases_Bool (f.named b)) [
      | inl w ↦ old_row b 0 w (omega arith) ∙ h.born_is b w ∙ sym (old_dir (f.born b) (h.born_within b w))
          ∙ ap then.dir (sym (p.born_same b w).0)
      | inr w ↦ born_row b 0 w ∙ sym (new_dir (g.born b) (omega (arith, (p.newborn b n w).1)))
    ];
    from_named = λ b n o. elim (cases_Bool (f.named b)) [
      | inl w ↦ let same = p.born_same b w in
          subst (λ z. g.named z ≡ true) (sym same.1)
          (p.named_up (f.from b) (h.from_named b w (omega (arith, o, same.0))))
      | inr w ↦ p.named_up (g.from b) (p.newborn b n w).3
    ];
    retires = λ b n o.
        let stays = p.frozen b n o in
        elim (cases_Bool (f.named b)) [
          | inl w ↦
              let same = p.born_same b w in
              let one : 1 ≤ f.born b = omega (arith, o, same.0) in
              let was = h.retires b w one in
              let there = h.from_named b w one in
              let top_is : g.top (g.from b) ≡ f.top (f.from b) = stays ∙ ap f.top same.1 in
              let row_is : then.row (g.from b) (g.top (g.from b)) ≡ t.row (f.from b) (f.top (f.from b)) =
              ap (λ z. then.row z (g.top (g.from b))) same.1 ∙ ap (then.row (f.from b)) top_is
              ∙ old_row (f.from b) (f.top (f.from b)) there (omega arith) in
              omega (arith, was, row_is, old_dir (f.born b) (h.born_within b w), ap then.dir same.0)
          | inr w ↦
              let new = p.newborn b n w in
              let row_is : then.row (g.from b) (g.top (g.from b)) ≡ t.row (g.from b) (f.top (g.from b)) =
              ap (then.row (g.from b)) stays ∙ old_row (g.from b) (f.top (g.from b)) new.3 (omega arith) in
              omega (
                arith,
                row_is,
                h.rows_past (g.from b) (f.top (g.from b)) new.3 (omega arith),
                new_dir (g.born b) (omega (arith, new.1)),
              )
        ];
    calls_past = λ q i x e. elim (call_cases q i x e) [
      | inl o ↦ omega (arith, h.calls_past q i x o)
      | inr o ↦ omega
          (arith, o.1)
    ];
    after = λ q i x s n e w. elim (call_cases q i x e) [
      | inl o ↦ let r = h.after q i x s n o (p.after q i s n w) in (r.0, call_keeps s n r.0 r.1, r.2)
      | inr o ↦ let r = p.ready q i s n o.0 (p.after q i s n w) in
          (r.0, call_keeps s n r.0 r.1, omega (arith, h.calls_past s n r.0 r.1, o.1))
    ];
    looked = λ q i b j w. let r = h.looked q i b j (p.looked q i b j w) in
        (r.0, call_keeps q i r.0 r.1, still_between b j r.0 (h.calls_past q i r.0 r.1) r.2);
    placed = λ b j q i w. elim (p.in_row b j q i w) [
      | inl o ↦ let r = h.placed b j q i o in (
        p.named_up b r.0,
        omega (arith, r.1, p.top_up b r.0),
        call_keeps q i (t.row b j) r.2
            ∙ ap Some (sym (old_row b j r.0 r.1)),
      )
      | inr o ↦ (
        o.1,
        o.2,
        cond-true (is_new q i) (Some (2 * t.time + 1)) (t.call q i) o.0
            ∙ ap Some (sym (elim o.3 [ inl n ↦ born_row b j n | inr n ↦ later_row b j n ])),
      )
    ];
    source = λ q i y e. elim (cases_Bool (is_new q i)) [
      | inl n ↦ inl (p.new_in q i n)
      | inr n ↦ elim (h.source q i y (sym (cond-false (is_new q i) (Some (2 * t.time + 1)) (t.call q i) n) ∙ e)) [
        | inl r ↦ inl (r.0, r.1, p.in_row_up r.0 r.1 q i r.2)
        | inr r ↦ inr
            (r.0, r.1, p.looked_up q i r.0 r.1 r.2)
      ]
    ];
    heard = λ q i d s n w v. let r = h.heard q i d s n (p.waits q i d w) (p.after q i s n v) in
        (r.0, call_keeps s n r.0 r.1);
    waits = λ q i d s n w less v.
        let was = p.waits q i d w in
        elim (cases_lt d f.dir_top) [
          | inl x ↦ let r = h.waits q i d s n was x (p.after q i s n v) in
              (r.0, call_keeps s n r.0 r.1, omega (arith, r.2, old_dir (d + 1) (omega (arith, x))))
          | inr x ↦ let r = h.heard q i d s n was (p.after q i s n v) in
              (r.0, call_keeps s n r.0 r.1, omega (arith, h.calls_past s n r.0 r.1, new_dir (d + 1) (omega (arith, x))))
        ];
  }
