-- Each applied number has its unit, a row or a version in which it was new, and no number has two; and one number has
-- one reply. Every exchange that happens keeps this. It rests on numbers being carried forward alone, and on no fact
-- about helping.
use Rattle.std.proofs.Common.{◌≡◌, ℕ, zero, suc, ◌+◌, ◌<◌, ◌≤◌, ◌⊎◌, true, false, inl, inr, sym, ap, ◌∙◌, subst, arith}
use Rattle.std.proofs.lemmas.Bool.{cases_lt, cases_Bool}
use Rattle.plain_map.specs.declared.keys.Key.{Key}
use Rattle.closed_laws.proofs.Clock.{Frame}

-- a history: its shape, where the versions lead, which keys have a bucket's prefix, the rows' numbers and replies,
-- and the key of each call
pub record Tally (R : Type 0) : Type 1 where
  pub frame : Frame
  pub lead : ℕ → Key → ℕ
  pub suits : ℕ → Key → Type 0
  pub applied : ℕ → ℕ → ℕ → ℕ
  pub reply : ℕ → ℕ → ℕ → R
  pub key : ℕ → ℕ → Key

module _ {R : Type 0} where
  -- a published row
  pub record IsRow (t : Tally R) (b i : ℕ) : Type 0 where
    pub named : t.frame.named b ≡ true
    pub inside : i ≤ t.frame.top b

  -- the number of the key's current row
  abbrev pub current : Tally R → Key → ℕ → ℕ
  current t key q = t.applied (t.lead t.frame.dir_top key) (t.frame.top (t.lead t.frame.dir_top key)) q

  -- the number of the row that a bucket comes from
  abbrev pub before : Tally R → ℕ → ℕ → ℕ
  before t c q = t.applied (t.frame.from c) (t.frame.top (t.frame.from c)) q

  -- the number is new in a row
  pub record InRow (t : Tally R) (b i q m : ℕ) : Type 0 where
    pub named : t.frame.named b ≡ true
    pub inside : i < t.frame.top b
    pub above : t.applied b i q < m
    pub is : t.applied b (i + 1) q ≡ m

  -- the number is new in a bucket that the version named first
  pub record InVersion (t : Tally R) (v q m : ℕ) : Type 0 where
    pub inside : v < t.frame.dir_top
    pub bucket : ℕ
    pub named : t.frame.named bucket ≡ true
    pub born : t.frame.born bucket ≡ v + 1
    pub above : before t bucket q < m
    pub is : t.applied bucket 0 q ≡ m

  -- whose number is new in a row, or at a bucket's first row in the version that named it
  abbrev pub NewAt : Tally R → (b i q m : ℕ) → Type 0
  NewAt t b zero q m = (v : ℕ) × (r : InVersion t v q m) × (r.bucket ≡ b)
  NewAt t b (suc i) q m = InRow t b i q m

  -- what is known of all numbers: they are carried forward, and each has one row or one version in which it is new
  pub record Counts (t : Tally R) : Type 0 where
    -- carried forward
    pub carried : (b i q : ℕ) (key : Key) → IsRow t b i → t.suits b key → t.applied b i q ≤ current t key q
    pub there : (key : Key) → t.frame.named (t.lead t.frame.dir_top key) ≡ true
    pub from_named : (c : ℕ) → t.frame.named c ≡ true → 1 ≤ t.frame.born c → t.frame.named (t.frame.from c) ≡ true
    pub born_within : (c : ℕ) → t.frame.named c ≡ true → t.frame.born c ≤ t.frame.dir_top
    -- units
    pub unit : (b i q : ℕ) → IsRow t b i → 0 < t.applied b i q →
        ((a : ℕ) × (j : ℕ) × InRow t a j q (t.applied b i q)) ⊎ ((v : ℕ) × InVersion t v q (t.applied b i q))
    pub row_key : (b i q m : ℕ) → InRow t b i q m → t.suits b (t.key q m)
    pub version_key : (v q m : ℕ) → InVersion t v q m →
        (c : ℕ) × IsRow t c 0 × t.suits c (t.key q m) × (t.applied c 0 q ≡ m)
    pub one_row : (a b i j q m : ℕ) → InRow t a i q m → InRow t b j q m → (a ≡ b) × (i ≡ j)
    pub row_or_version : (a i v q m : ℕ) → InRow t a i q m → InVersion t v q m → ⊥
    pub one_version : (u v q m : ℕ) → InVersion t u q m → InVersion t v q m → u ≡ v
    pub one_number : (v q m n : ℕ) → InVersion t v q m → InVersion t v q n → m ≡ n
    -- replies
    pub one_reply : (a b i j q : ℕ) → IsRow t a i → IsRow t b j → 0 < t.applied a i q →
        t.applied a i q ≡ t.applied b j q → t.reply a i q ≡ t.reply b j q

  -- a number that has a unit is in the current row of its key
  row_current : (t : Tally R) → Counts t → (b i q m : ℕ) → InRow t b i q m → m ≤ current t (t.key q m) q
  row_current t h b i q m r =
      let up = h.carried b (i + 1) q (t.key q m) (record { named = r.named; inside = omega (arith, r.inside) })
      (h.row_key b i q m r) in omega (arith, up, r.is)

  -- so it is with one that is new in a version
  version_current : (t : Tally R) → Counts t → (v q m : ℕ) → InVersion t v q m → m ≤ current t (t.key q m) q
  version_current t h v q m r = let k = h.version_key v q m r in
      omega (arith, h.carried k.0 0 q (t.key q m) k.1 k.2, k.3)

  -- so is any applied number
  pub applied_current : (t : Tally R) → Counts t → (b i q : ℕ) → IsRow t b i → 0 < t.applied b i q →
      t.applied b i q ≤ current t (t.key q (t.applied b i q)) q
  applied_current t h b i q r some = elim (h.unit b i q r some) [
    | inl u ↦ row_current t h u.0 u.1 q (t.applied b i q) u.2
    | inr u ↦ version_current t h u.0 q (t.applied b i q) u.1
  ]

  -- ---- an exchange that happens: more rows, at most one for a bucket, or a version with new buckets. New q m says
  -- that the number is new by it
  pub record Exchanges (t u : Tally R) (New : ℕ → ℕ → Type 0) : Type 0 where
    pub keys : (q m : ℕ) → u.key q m ≡ t.key q m
    pub dir_up : t.frame.dir_top ≤ u.frame.dir_top
    pub dir_one : u.frame.dir_top ≤ t.frame.dir_top + 1
    pub named_up : (b : ℕ) → t.frame.named b ≡ true → u.frame.named b ≡ true
    pub top_up : (b : ℕ) → t.frame.named b ≡ true → t.frame.top b ≤ u.frame.top b
    pub top_one : (b : ℕ) → t.frame.named b ≡ true → u.frame.top b ≤ t.frame.top b + 1
    pub old_born : (b : ℕ) → t.frame.named b ≡ true →
        (u.frame.born b ≡ t.frame.born b) × (u.frame.from b ≡ t.frame.from b)
    pub old_rows : (b i q : ℕ) → IsRow t b i → (u.applied b i q ≡ t.applied b i q) × (u.reply b i q ≡ t.reply b i q)
    pub old_suits : (b : ℕ) (key : Key) → t.frame.named b ≡ true → u.suits b key → t.suits b key
    pub suits_up : (b : ℕ) (key : Key) → t.frame.named b ≡ true → t.suits b key → u.suits b key
    pub newborn : (b : ℕ) → u.frame.named b ≡ true → t.frame.named b ≡ false →
        (u.frame.top b ≡ 0) × (u.frame.born b ≡ t.frame.dir_top + 1) × (u.frame.dir_top ≡ t.frame.dir_top + 1)
        × (t.frame.named (u.frame.from b) ≡ true)
    pub frozen : (b : ℕ) → u.frame.named b ≡ true → 1 ≤ u.frame.born b →
        u.frame.top (u.frame.from b) ≡ t.frame.top (u.frame.from b)
    -- no number falls in the current row of a key; a new row of a bucket, and a new bucket, is the current one of its
    -- keys
    pub rises : (key : Key) (q : ℕ) → current t key q ≤ current u key q
    pub there : (key : Key) → u.frame.named (u.lead u.frame.dir_top key) ≡ true
    pub grown : (b : ℕ) (key : Key) → t.frame.named b ≡ true → t.frame.top b < u.frame.top b → u.suits b key →
        u.lead u.frame.dir_top key ≡ b
    pub leads_new : (b : ℕ) (key : Key) → u.frame.named b ≡ true → t.frame.named b ≡ false → u.suits b key →
        u.lead u.frame.dir_top key ≡ b
    -- the numbers of a new row are those of the row that it was made from, with their replies, or new
    pub row_new : (b q : ℕ) → t.frame.named b ≡ true → t.frame.top b < u.frame.top b →
        ((u.applied b (t.frame.top b + 1) q ≡ t.applied b (t.frame.top b) q)
        × (u.reply b (t.frame.top b + 1) q ≡ t.reply b (t.frame.top b) q))
        ⊎ (New q (u.applied b (t.frame.top b + 1) q)
        × (t.applied b (t.frame.top b) q < u.applied b (t.frame.top b + 1) q)
        × u.suits b (u.key q (u.applied b (t.frame.top b + 1) q)))
    pub leaf_new : (b q : ℕ) → u.frame.named b ≡ true → t.frame.named b ≡ false →
        ((u.applied b 0 q ≡ t.applied (u.frame.from b) (t.frame.top (u.frame.from b)) q)
        × (u.reply b 0 q ≡ t.reply (u.frame.from b) (t.frame.top (u.frame.from b)) q))
        ⊎ (New q (u.applied b 0 q) × (t.applied (u.frame.from b) (t.frame.top (u.frame.from b)) q < u.applied b 0 q))
    -- a new number is above that of the current row of its key; of a version it stands in the leaf of its key
    pub new_above : (q m : ℕ) → New q m → current t (t.key q m) q < m
    pub new_leaf : (b q : ℕ) → u.frame.named b ≡ true → t.frame.named b ≡ false → New q (u.applied b 0 q) →
        (c : ℕ) × IsRow u c 0 × u.suits c (u.key q (u.applied b 0 q)) × (u.applied c 0 q ≡ u.applied b 0 q)
    -- there is one new number of a seat, at one bucket or in one version, with one reply
    pub new_one : (q m n : ℕ) → New q m → New q n → m ≡ n
    pub one_bucket : (a b : ℕ) → t.frame.named a ≡ true → t.frame.named b ≡ true → t.frame.top a < u.frame.top a →
        t.frame.top b < u.frame.top b → a ≡ b
    pub row_not_version : (b : ℕ) → t.frame.named b ≡ true → t.frame.top b < u.frame.top b →
        u.frame.dir_top ≡ t.frame.dir_top
    pub leaf_reply : (a b q : ℕ) → u.frame.named a ≡ true → t.frame.named a ≡ false → u.frame.named b ≡ true →
        t.frame.named b ≡ false → New q (u.applied a 0 q) → u.applied a 0 q ≡ u.applied b 0 q →
        u.reply a 0 q ≡ u.reply b 0 q

  module _ (t u : Tally R) (New : ℕ → ℕ → Type 0) (x : Exchanges t u New) (h : Counts t) where
    -- a row that is there then was there, or is the new one of its bucket, or the first of a new bucket
    pub data Which (b i : ℕ) : Type 0 where
      was : IsRow t b i → Which b i
      next : t.frame.named b ≡ true → t.frame.top b < u.frame.top b → i ≡ t.frame.top b + 1 → Which b i
      leaf : u.frame.named b ≡ true → t.frame.named b ≡ false → i ≡ 0 → Which b i

    -- which of them a row is
    which : (b i : ℕ) → IsRow u b i → Which b i
    which b i r = elim (cases_Bool (t.frame.named b)) [
      | inr n ↦ leaf r.named n (omega (arith, r.inside, (x.newborn b r.named n).0))
      | inl n ↦ elim (cases_lt (t.frame.top b) i) [
        | inr o ↦ was (record { named = n; inside = o })
        | inl o ↦ next n (omega (arith, o, r.inside)) (omega (arith, o, r.inside, x.top_one b n))
      ]
    ]

    -- an old row stays one
    still : (b i : ℕ) → IsRow t b i → IsRow u b i
    still b i r = record { named = x.named_up b r.named; inside = omega (arith, r.inside, x.top_up b r.named) }

    -- what came from a bucket comes from its last row, as before
    before_same : (c q : ℕ) → t.frame.named c ≡ true → 1 ≤ t.frame.born c → before u c q ≡ before t c q
    before_same c q n one =
        let same = x.old_born c n in
        let top_is : u.frame.top (u.frame.from c) ≡ t.frame.top (t.frame.from c) =
        x.frozen c (x.named_up c n) (omega (arith, one, same.0)) ∙ ap t.frame.top same.1 in
        ap (λ z. u.applied z (u.frame.top (u.frame.from c)) q) same.1 ∙ ap (λ i. u.applied (t.frame.from c) i q) top_is
        ∙ (x.old_rows (t.frame.from c) (t.frame.top (t.frame.from c)) q
        (record { named = h.from_named c n one; inside = omega arith })).0

    -- what a new bucket comes from has the numbers that it had
    before_leaf : (c q : ℕ) → u.frame.named c ≡ true → t.frame.named c ≡ false →
        before u c q ≡ t.applied (u.frame.from c) (t.frame.top (u.frame.from c)) q
    before_leaf c q n f =
        let new = x.newborn c n f in
        ap (λ i. u.applied (u.frame.from c) i q) (x.frozen c n (omega (arith, new.1)))
        ∙ (x.old_rows (u.frame.from c) (t.frame.top (u.frame.from c)) q
        (record { named = new.3; inside = omega arith })).0

    -- units that were there are there
    in_row_up : (b i q m : ℕ) → InRow t b i q m → InRow u b i q m
    in_row_up b i q m r = record {
      named = x.named_up b r.named;
      inside = omega (arith, r.inside, x.top_up b r.named);
      above = omega (
        arith,
        r.above,
        (x.old_rows b i q (record {
          named = r.named;
          inside = omega (arith, r.inside);
        })).0,
      );
      is = (x.old_rows b (i + 1) q (record { named = r.named; inside = omega (arith, r.inside) })).0 ∙ r.is;
    }

    -- a number that was new in a version still is
    in_version_up : (v q m : ℕ) → InVersion t v q m → InVersion u v q m
    in_version_up v q m r = record {
      inside = omega (arith, r.inside, x.dir_up);
      bucket = r.bucket;
      named = x.named_up r.bucket r.named;
      born = (x.old_born r.bucket r.named).0 ∙ r.born;
      above = omega (arith, r.above, before_same r.bucket q r.named (omega (arith, r.born)));
      is = (x.old_rows r.bucket 0 q (record { named = r.named; inside = omega arith })).0 ∙ r.is;
    }

    -- and one that is there then was there, or is new
    in_row_was : (b i q m : ℕ) → InRow u b i q m →
        InRow t b i q m ⊎ ((t.frame.named b ≡ true) × (t.frame.top b < u.frame.top b) × (i ≡ t.frame.top b) × New q m
        × u.suits b (u.key q m))
    in_row_was b i q m r = elim (cases_Bool (t.frame.named b)) [
      | inr n ↦ absurd (omega (arith, r.inside, (x.newborn b r.named n).0))
      | inl n ↦ elim (cases_lt i (t.frame.top b)) [
        | inl o ↦ inl (record {
          named = n;
          inside = o;
          above = omega (arith, r.above, (x.old_rows b i q (record { named = n; inside = omega (arith, o) })).0);
          is = sym (x.old_rows b (i + 1) q (record { named = n; inside = omega (arith, o) })).0 ∙ r.is;
        })
        | inr o ↦
            let grew : t.frame.top b < u.frame.top b = omega (arith, o, r.inside) in
            let last : i ≡ t.frame.top b = omega (arith, o, r.inside, x.top_one b n) in
            let base : u.applied b i q ≡ t.applied b (t.frame.top b) q =
            ap (λ j. u.applied b j q) last
            ∙ (x.old_rows b (t.frame.top b) q (record { named = n; inside = omega arith })).0 in
            let number : u.applied b (t.frame.top b + 1) q ≡ m = ap (λ j. u.applied b (j + 1) q) (sym last) ∙ r.is in
            elim (x.row_new b q n grew) [
              | inl s ↦ absurd (omega (arith, r.above, base, number, s.0))
              | inr s ↦ inr (n, grew, last, subst (New q) number s.0, subst (λ z. u.suits b (u.key q z)) number s.2)
            ]
      ]
    ]

    -- a number that is new in a version was so, or is new by this one
    in_version_was : (v q m : ℕ) → InVersion u v q m →
        InVersion t v q m ⊎ ((v ≡ t.frame.dir_top) × New q m × (u.frame.dir_top ≡ t.frame.dir_top + 1)
        × ((c : ℕ) × IsRow u c 0 × u.suits c (u.key q m) × (u.applied c 0 q ≡ m)))
    in_version_was v q m r = elim (cases_Bool (t.frame.named r.bucket)) [
      | inl n ↦
          let same = x.old_born r.bucket n in
          let born : t.frame.born r.bucket ≡ v + 1 = sym same.0 ∙ r.born in
          inl (record {
            inside = omega (arith, born, h.born_within r.bucket n);
            bucket = r.bucket;
            named = n;
            born = born;
            above = omega (arith, r.above, before_same r.bucket q n (omega (arith, born)));
            is = sym (x.old_rows r.bucket 0 q (record { named = n; inside = omega arith })).0 ∙ r.is;
          })
      | inr n ↦
          let new = x.newborn r.bucket r.named n in
          elim (x.leaf_new r.bucket q r.named n) [
            | inl s ↦ absurd (omega (arith, r.above, before_leaf r.bucket q r.named n, s.0, r.is))
            | inr s ↦
                let k = x.new_leaf r.bucket q r.named n s.0 in
                inr (
                  omega (arith, new.1, r.born),
                  subst (New q) r.is s.0,
                  new.2,
                  (k.0, k.1, subst (λ z. u.suits k.0 (u.key q z)) r.is k.2, k.3 ∙ r.is),
                )
          ]
    ]

    -- a number that is new at a row was so, or the row is new
    pub new_at_up : (b i q m : ℕ) → NewAt t b i q m → NewAt u b i q m
    unfolding in_version_up
    new_at_up b zero q m r = (r.0, in_version_up r.0 q m r.1, r.2)
    new_at_up b (suc i) q m r = in_row_up b i q m r

    -- the same wherever it is
    pub new_at_was : (b i q m : ℕ) → NewAt u b i q m →
        NewAt t b i q m ⊎ (New q m × IsRow u b i × ((t.frame.named b ≡ false) ⊎ (t.frame.top b < i)))
    new_at_was b zero q m r = first r.0 b r.1 r.2
      where
        first : (v b : ℕ) (r : InVersion u v q m) → r.bucket ≡ b →
            NewAt t b zero q m ⊎ (New q m × IsRow u b zero × ((t.frame.named b ≡ false) ⊎ (t.frame.top b < zero)))
        first v b r is = elim (cases_Bool (t.frame.named r.bucket)) [
          | inl n ↦
              let same = x.old_born r.bucket n in
              let born : t.frame.born r.bucket ≡ v + 1 = sym same.0 ∙ r.born in
              inl (
                v,
                record {
                  inside = omega (arith, born, h.born_within r.bucket n);
                  bucket = r.bucket;
                  named = n;
                  born = born;
                  above = omega (arith, r.above, before_same r.bucket q n (omega (arith, born)));
                  is = sym (x.old_rows r.bucket 0 q (record { named = n; inside = omega arith })).0 ∙ r.is;
                },
                is,
              )
          | inr n ↦ elim (x.leaf_new r.bucket q r.named n) [
            | inl s ↦ absurd (omega (arith, r.above, before_leaf r.bucket q r.named n, s.0, r.is))
            | inr s ↦ inr (
              subst (New q) r.is s.0,
              record { named = subst (λ z. u.frame.named z ≡ true) is r.named; inside = omega arith },
              inl (subst (λ z. t.frame.named z ≡ false) is n),
            )
          ]
        ]
    new_at_was b (suc i) q m r = elim (in_row_was b i q m r) [
      | inl w ↦ inl w
      | inr w ↦ inr (w.3, record { named = r.named; inside = omega (arith, r.inside) }, inr (omega (arith, w.2)))
    ]

    -- a new number had no unit
    pub not_in_row : (b i q m : ℕ) → InRow t b i q m → New q m → ⊥
    not_in_row b i q m r n = omega (arith, row_current t h b i q m r, x.new_above q m n)

    -- nor one that is new in an old version
    pub not_in_version : (v q m : ℕ) → InVersion t v q m → New q m → ⊥
    not_in_version v q m r n = omega (arith, version_current t h v q m r, x.new_above q m n)

    -- nor one that is new wherever it was
    pub not_new_at : (b i q m : ℕ) → NewAt t b i q m → New q m → ⊥
    not_new_at b zero q m r n = not_in_version r.0 q m r.1 n
    not_new_at b (suc i) q m r n = not_in_row b i q m r n

    -- and stood in no row
    not_applied : (b i q : ℕ) → IsRow t b i → 0 < t.applied b i q → New q (t.applied b i q) → ⊥
    not_applied b i q r some n = omega (arith, applied_current t h b i q r some, x.new_above q (t.applied b i q) n)

    -- a number that is applied in an old row has its unit
    unit_of : (b i q m : ℕ) → IsRow t b i → t.applied b i q ≡ m → 0 < m →
        ((a : ℕ) × (j : ℕ) × InRow u a j q m) ⊎ ((v : ℕ) × InVersion u v q m)
    unit_of b i q m r e some = elim (h.unit b i q r (omega (arith, e, some))) [
      | inl w ↦ inl (w.0, w.1, in_row_up w.0 w.1 q m (subst (InRow t w.0 w.1 q) e w.2))
      | inr w ↦ inr (w.0, in_version_up w.0 q m (subst (InVersion t w.0 q) e w.1))
    ]

    -- the row whose number and reply a row has, where the number is not new
    pub data From (b i q : ℕ) : Type 0 where
      kept : (a j : ℕ) → IsRow t a j → u.applied b i q ≡ t.applied a j q → u.reply b i q ≡ t.reply a j q → From b i q
      fresh_row : t.frame.named b ≡ true → t.frame.top b < u.frame.top b → i ≡ t.frame.top b + 1 →
          New q (u.applied b i q) → From b i q
      fresh_leaf : u.frame.named b ≡ true → t.frame.named b ≡ false → i ≡ 0 → New q (u.applied b i q) → From b i q

    -- where the number of each row is from
    from_which : (b i q : ℕ) → Which b i → From b i q
    from_which b i q (was r) = let same = x.old_rows b i q r in kept b i r same.0 same.1
    from_which b i q (next n o e) = elim (x.row_new b q n o) [
      | inl s ↦ kept b (t.frame.top b) (record { named = n; inside = omega arith })
          (ap (λ j. u.applied b j q) e ∙ s.0) (ap (λ j. u.reply b j q) e ∙ s.1)
      | inr s ↦ fresh_row n o e (subst (λ j. New q (u.applied b j q)) (sym e) s.0)
    ]
    from_which b i q (leaf n f e) = elim (x.leaf_new b q n f) [
      | inl s ↦ kept (u.frame.from b) (t.frame.top (u.frame.from b))
          (record { named = (x.newborn b n f).3; inside = omega arith }) (ap (λ j. u.applied b j q) e ∙ s.0)
          (ap (λ j. u.reply b j q) e ∙ s.1)
      | inr s ↦ fresh_leaf n f e (subst (λ j. New q (u.applied b j q)) (sym e) s.0)
    ]

    -- one number has one reply
    replies_agree : (a b i j q : ℕ) → From a i q → From b j q → 0 < u.applied a i q →
        u.applied a i q ≡ u.applied b j q → u.reply a i q ≡ u.reply b j q
    replies_agree a b i j q (kept c k r n p) (kept d l s m o) some e =
        p ∙ h.one_reply c d k l q r s (omega (arith, some, n)) (sym n ∙ e ∙ m) ∙ sym o
    replies_agree a b i j q (kept c k r n p) (fresh_row m o f new) some e =
        absurd (not_applied c k q r (omega (arith, some, n)) (subst (New q) (sym e ∙ n) new))
    replies_agree a b i j q (kept c k r n p) (fresh_leaf m o f new) some e =
        absurd (not_applied c k q r (omega (arith, some, n)) (subst (New q) (sym e ∙ n) new))
    replies_agree a b i j q (fresh_row m o f new) (kept d l s n p) some e =
        absurd (not_applied d l q s (omega (arith, some, e, n)) (subst (New q) (e ∙ n) new))
    replies_agree a b i j q (fresh_leaf m o f new) (kept d l s n p) some e =
        absurd (not_applied d l q s (omega (arith, some, e, n)) (subst (New q) (e ∙ n) new))
    replies_agree a b i j q (fresh_row m o f new) (fresh_row n p g more) some e =
        let same = x.one_bucket a b m n o p in
        ap (λ z. u.reply z i q) same ∙ ap (λ z. u.reply b z q) (omega (arith, f, g, ap t.frame.top same))
    replies_agree a b i j q (fresh_row m o f new) (fresh_leaf n p g more) some e =
        absurd (omega (arith, x.row_not_version a m o, (x.newborn b n p).2))
    replies_agree a b i j q (fresh_leaf m o f new) (fresh_row n p g more) some e =
        absurd (omega (arith, x.row_not_version b n p, (x.newborn a m o).2))
    replies_agree a b i j q (fresh_leaf m o f new) (fresh_leaf n p g more) some e =
        ap (λ z. u.reply a z q) f ∙ x.leaf_reply a b q m o n p (subst (λ z. New q (u.applied a z q)) f new)
        (ap (λ z. u.applied a z q) (sym f) ∙ e ∙ ap (λ z. u.applied b z q) g) ∙ ap (λ z. u.reply b z q) (sym g)

    -- each applied number has its unit
    unit_from : (b i q : ℕ) → IsRow u b i → From b i q → 0 < u.applied b i q →
        ((a : ℕ) × (j : ℕ) × InRow u a j q (u.applied b i q)) ⊎ ((v : ℕ) × InVersion u v q (u.applied b i q))
    unit_from b i q r (kept c k s n p) some = unit_of c k q (u.applied b i q) s (sym n) some
    unit_from b i q r (fresh_row n o e new) some = inl (
      b,
      t.frame.top b,
      (record {
        named = r.named;
        inside = o;
        above = elim (x.row_new b q n o) [
          | inl s ↦ absurd (below b i q n o e new s.0)
          | inr s ↦ omega (
            arith,
            s.1,
            (x.old_rows b (t.frame.top b) q (record { named = n; inside = omega arith })).0,
            ap (λ j. u.applied b j q) e,
          )
        ];
        is = ap (λ j. u.applied b j q) (sym e);
      }),
    )
      where
        -- a number that stayed is not new
        below : (b i q : ℕ) → t.frame.named b ≡ true → t.frame.top b < u.frame.top b → i ≡ t.frame.top b + 1 →
            New q (u.applied b i q) → u.applied b (t.frame.top b + 1) q ≡ t.applied b (t.frame.top b) q → ⊥
        below b i q n o e new s =
            let is : u.applied b i q ≡ t.applied b (t.frame.top b) q = ap (λ j. u.applied b j q) e ∙ s in
            let new_too = subst (New q) is new in
            let up = x.new_above q (t.applied b (t.frame.top b) q) new_too in
            not_applied b (t.frame.top b) q (record { named = n; inside = omega arith }) (omega (arith, up)) new_too
    unit_from b i q r (fresh_leaf n f e new) some =
        let born = x.newborn b n f in
        let number : u.applied b 0 q ≡ u.applied b i q = ap (λ j. u.applied b j q) (sym e) in
        inr (
          t.frame.dir_top,
          (record {
            inside = omega (arith, born.2);
            bucket = b;
            named = n;
            born = born.1;
            above = elim (x.leaf_new b q n f) [
              | inl s ↦
                  let new_too = subst (New q) (sym number ∙ s.0) new in
                  absurd (not_applied (u.frame.from b) (t.frame.top (u.frame.from b)) q
                  (record { named = born.3; inside = omega arith })
                  (omega (
                    arith,
                    x.new_above q (t.applied (u.frame.from b) (t.frame.top (u.frame.from b)) q)
                        new_too,
                  )) new_too)
              | inr s ↦ omega (arith, s.1, before_leaf b q n f, number)
            ];
            is = number;
          }),
        )

    -- so all this is known afterwards
    pub counts_kept : Counts u
    counts_kept = record {
      carried = λ b i q key r fit. elim (cases_Bool (t.frame.named b)) [
        | inr n ↦
            let new = x.newborn b r.named n in
            let none : i ≡ 0 = omega (arith, r.inside, new.0) in
            let leads = x.leads_new b key r.named n fit in
            omega (
              arith,
              ap (λ j. u.applied b j q) none,
              ap (λ z. u.applied z (u.frame.top z) q) leads,
              ap (λ j. u.applied b j q) new.0,
            )
        | inl n ↦ elim (cases_lt (t.frame.top b) i) [
          | inr o ↦
              let old : IsRow t b i = record { named = n; inside = o } in
              omega (arith, (x.old_rows b i q old).0, h.carried b i q key old (x.old_suits b key n fit), x.rises key q)
          | inl o ↦
              let leads = x.grown b key n (omega (arith, o, r.inside)) fit in
              let last : i ≡ u.frame.top b = omega (arith, o, r.inside, x.top_one b n) in
              omega (arith, ap (λ j. u.applied b j q) last, ap (λ z. u.applied z (u.frame.top z) q) leads)
        ]
      ];
      there = x.there;
      from_named = λ c n one. elim (cases_Bool (t.frame.named c)) [
        | inr f ↦ x.named_up (u.frame.from c) (x.newborn c n f).3
        | inl w ↦ let same = x.old_born c w in
            subst (λ z. u.frame.named z ≡ true) (sym same.1)
            (x.named_up (t.frame.from c) (h.from_named c w (omega (arith, one, same.0))))
      ];
      born_within = λ c n. elim (cases_Bool (t.frame.named c)) [
        | inr f ↦ let new = x.newborn c n f in omega (arith, new.1, new.2)
        | inl w ↦ omega (arith, h.born_within c w, (x.old_born c w).0, x.dir_up)
      ];
      unit = λ b i q r some. unit_from b i q r (from_which b i q (which b i r)) some;
      row_key = λ b i q m r. elim (in_row_was b i q m r) [
        | inl w ↦ x.suits_up b (u.key q m) w.named (subst (t.suits b) (sym (x.keys q m)) (h.row_key b i q m w))
        | inr w ↦ w.4
      ];
      version_key = λ v q m r. elim (in_version_was v q m r) [
        | inl w ↦
            let k = h.version_key v q m w in (
              k.0,
              still k.0 0 k.1,
              x.suits_up k.0 (u.key q m) k.1.named (subst (t.suits k.0) (sym (x.keys q m)) k.2),
              (x.old_rows k.0 0 q k.1).0 ∙ k.3,
            )
        | inr w ↦ w.3
      ];
      one_row = λ a b i j q m r s. elim (in_row_was a i q m r) [
        | inl w ↦ elim (in_row_was b j q m s)
            [ inl v ↦ h.one_row a b i j q m w v | inr v ↦ absurd (not_in_row a i q m w v.3) ]
        | inr w ↦ elim (in_row_was b j q m s) [
          | inl v ↦ absurd (not_in_row b j q m v w.3)
          | inr v ↦ let same = x.one_bucket a b w.0 v.0 w.1 v.1 in (same, w.2 ∙ ap t.frame.top same ∙ sym v.2)
        ]
      ];
      row_or_version = λ a i v q m r s. elim (in_row_was a i q m r) [
        | inl w ↦ elim (in_version_was v q m s)
            [ inl z ↦ h.row_or_version a i v q m w z | inr z ↦ not_in_row a i q m w z.1 ]
        | inr w ↦ elim (in_version_was v q m s) [
          | inl z ↦ not_in_version v q m z w.3
          | inr z ↦ omega (arith, x.row_not_version a w.0 w.1, z.2)
        ]
      ];
      one_version = λ a b q m r s. elim (in_version_was a q m r) [
        | inl w ↦ elim (in_version_was b q m s)
            [ inl z ↦ h.one_version a b q m w z | inr z ↦ absurd (not_in_version a q m w z.1) ]
        | inr w ↦ elim (in_version_was b q m s)
            [ inl z ↦ absurd (not_in_version b q m z w.1) | inr z ↦ w.0 ∙ sym z.0 ]
      ];
      one_number = λ v q m n r s. elim (in_version_was v q m r) [
        | inl w ↦ elim (in_version_was v q n s)
            [ inl z ↦ h.one_number v q m n w z | inr z ↦ absurd (omega (arith, w.inside, z.0)) ]
        | inr w ↦ elim (in_version_was v q n s)
            [ inl z ↦ absurd (omega (arith, z.inside, w.0)) | inr z ↦ x.new_one q m n w.1 z.1 ]
      ];
      one_reply = λ a b i j q r s some e. replies_agree a b i j q (from_which a i q (which a i r))
          (from_which b j q (which b j s)) some e;
    }

  -- ---- an announcement: the key of a call becomes known, of no number that is applied
  module _ (t : Tally R) (key : ℕ → ℕ → Key)
      (same : (b i q : ℕ) → IsRow t b i → key q (t.applied b i q) ≡ t.key q (t.applied b i q)) (h : Counts t) where
    -- the numbers with one more announced
    abbrev pub announced : Tally R
    announced = record {
      frame = t.frame;
      lead = t.lead;
      suits = t.suits;
      applied = t.applied;
      reply = t.reply;
      key = key;
    }

    -- a row is a row before
    row_to : (b i : ℕ) → IsRow announced b i → IsRow t b i
    row_to b i r = record { named = r.named; inside = r.inside }

    -- new in a row is so before
    in_row_to : (b i q m : ℕ) → InRow announced b i q m → InRow t b i q m
    in_row_to b i q m r = record { named = r.named; inside = r.inside; above = r.above; is = r.is }

    -- and afterwards
    in_row_of : (b i q m : ℕ) → InRow t b i q m → InRow announced b i q m
    in_row_of b i q m r = record { named = r.named; inside = r.inside; above = r.above; is = r.is }

    -- new in a version is so before
    in_version_to : (v q m : ℕ) → InVersion announced v q m → InVersion t v q m
    in_version_to v q m r = record {
      inside = r.inside;
      bucket = r.bucket;
      named = r.named;
      born = r.born;
      above = r.above;
      is = r.is;
    }

    -- and afterwards
    in_version_of : (v q m : ℕ) → InVersion t v q m → InVersion announced v q m
    in_version_of v q m r = record {
      inside = r.inside;
      bucket = r.bucket;
      named = r.named;
      born = r.born;
      above = r.above;
      is = r.is;
    }

    -- new wherever it is, it is so before
    pub new_at_to : (b i q m : ℕ) → NewAt announced b i q m → NewAt t b i q m
    unfolding in_version_to
    new_at_to b zero q m r = (r.0, in_version_to r.0 q m r.1, r.2)
    new_at_to b (suc i) q m r = in_row_to b i q m r

    -- and afterwards
    pub new_at_of : (b i q m : ℕ) → NewAt t b i q m → NewAt announced b i q m
    unfolding in_version_of
    new_at_of b zero q m r = (r.0, in_version_of r.0 q m r.1, r.2)
    new_at_of b (suc i) q m r = in_row_of b i q m r

    -- so all this is known afterwards
    pub announced_counts : Counts announced
    announced_counts = record {
      carried = λ b i q k r f. h.carried b i q k (row_to b i r) f;
      there = h.there;
      from_named = h.from_named;
      born_within = h.born_within;
      unit = λ b i q r some. elim (h.unit b i q (row_to b i r) some) [
        | inl u ↦ inl (u.0, u.1, in_row_of u.0 u.1 q (t.applied b i q) u.2)
        | inr u ↦ inr (u.0, in_version_of u.0 q (t.applied b i q) u.1)
      ];
      row_key = λ b i q m r.
          let one = same b (i + 1) q (record { named = r.named; inside = omega (arith, r.inside) }) in
          subst (t.suits b) (sym (ap (key q) (sym r.is) ∙ one ∙ ap (t.key q) r.is))
          (h.row_key b i q m (in_row_to b i q m r));
      version_key = λ v q m r.
          let k = h.version_key v q m (in_version_to v q m r) in
          let one = same k.0 0 q k.1 in (
            k.0,
            record { named = k.1.named; inside = k.1.inside },
            subst (t.suits k.0) (sym (ap (key q) (sym k.3) ∙ one ∙ ap (t.key q) k.3)) k.2,
            k.3,
          );
      one_row = λ a b i j q m r s. h.one_row a b i j q m (in_row_to a i q m r) (in_row_to b j q m s);
      row_or_version = λ a i v q m r s. h.row_or_version a i v q m (in_row_to a i q m r) (in_version_to v q m s);
      one_version = λ a b q m r s. h.one_version a b q m (in_version_to a q m r) (in_version_to b q m s);
      one_number = λ v q m n r s. h.one_number v q m n (in_version_to v q m r) (in_version_to v q n s);
      one_reply = λ a b i j q r s some e. h.one_reply a b i j q (row_to a i r) (row_to b j s) some e;
    }
